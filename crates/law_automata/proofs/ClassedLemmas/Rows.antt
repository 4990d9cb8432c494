-- Equations that have right classes, each with some, and what they are together.
use Rattle.std.proofs.Common.{◌≡◌, ℕ, Bool, true, false, not, ◌&&◌, ◌||◌, if◌then◌else◌, List, [], ◌∷◌, ◌++◌, map, refl, ap, subst, ◌∙◌}
use Rattle.std.specs.Prelude.{⊤, IsTrue, IsFalse, is_some, Option, None, Some}
use Rattle.std.specs.Str.{bytes_eq}
use Rattle.hp_base.specs.declared.span.Span.{Span}
use Rattle.hp_base.specs.declared.ty.Const.{Const}
use Rattle.hp_tree.specs.Expressions.{Expr, last_of}
use Rattle.hp_tree.specs.Blocks.{Decl, block, Eqn, define, eqns_of}
use Rattle.hp_tree.specs.Meaning.{declares}
use Rattle.hp_init.specs.Classes.{Classes, Assignment, is_second, Known, or_first, VariableFollows, LeftsFollow}
use Rattle.hp_init.specs.Wants.{is_met, must_be_first, some_must, definition_met}
use Rattle.law_values.specs.Valued.Classed.{none_second, LastFirst, LastsFirst, OthersFirst}
use Rattle.hp_automata.specs.Renaming.{renamed, renamed_left, renamed_decls}
use Rattle.hp_automata.specs.Lowering.{kept}
use Rattle.law_automata.specs.Lowered.OldNames.{OldExpr}
use Rattle.law_automata.specs.Lowered.Removable.{AllOld}
use Rattle.law_automata.proofs.LoweredLemmas.Tests.{or_none, or_first as first_none, or_second as second_none, and_first, and_second, and_both, true_false}
use Rattle.law_automata.specs.Classed.Good.{ClocksFirst, BlockGood, EqnsGood, EqnGood, known_of, no_class, in_block, in_row}
use Rattle.law_automata.specs.Classed.Relates.{Relates}
use Rattle.law_automata.proofs.ClassedLemmas.Expressions.{second_kept, met_kept}

not_and : (a b : Bool) → IsFalse b → IsTrue (not (a && b))
not_and true b h = ap not h
not_and false b h = refl

not_both : (a b : Bool) → IsFalse a → IsTrue (not (a && b))
not_both true b h = absurd cc
not_both false b h = refl

only_first : (a : Bool) → IsTrue (not (a && true)) → IsFalse a
only_first true h = absurd cc
only_first false h = refl

-- ---- left sides

left_first : (v : Option Bool) (d : Bool) → IsFalse d → VariableFollows v d
left_first None d h = tt
left_first (Some s) d h = λ t. absurd (true_false d t h)

pub lefts_first : (variables : List ℕ → Option Bool) (ys : List (List ℕ × Span)) (d : Bool) → IsFalse d → LeftsFollow variables ys d
lefts_first variables [] d h = tt
lefts_first variables (y ∷ ys) d h = (left_first (variables y.0) d h, lefts_first variables ys d h)

second_follows : (v : Option Bool) (d : Bool) → IsTrue (or_first v) → VariableFollows v d
second_follows None d h = tt
second_follows (Some s) d h = λ t. h

-- a name that need not be First is declared there
pub must_declared : (ds : List Decl) (y : List ℕ) → must_be_first ds y ≡ false → declares ds y ≡ true
must_declared [] y h = absurd cc
must_declared (d ∷ ds) y h = by (bytes_eq d.name y) h (must_declared ds y)
  where
    by : (b : Bool) → (if b then is_some d.last else must_be_first ds y) ≡ false → (must_be_first ds y ≡ false → declares ds y ≡ true) → (b || declares ds y) ≡ true
    by true q r = refl
    by false q r = r q

pub must_renamed : (to : List ℕ → List ℕ) (ds : List Decl) (y : List ℕ) → must_be_first (renamed_decls to ds) y ≡ must_be_first ds y
must_renamed to [] y = refl
must_renamed to (d ∷ ds) y = ap (λ m. if bytes_eq d.name y then is_some d.last else m) (must_renamed to ds y)

pub must_append : (ds es : List Decl) (y : List ℕ) → must_be_first ds y ≡ false → must_be_first (ds ++ es) y ≡ false
must_append [] es y h = absurd cc
must_append (d ∷ ds) es y h = by (bytes_eq d.name y) h (must_append ds es y)
  where
    by : (b : Bool) → (if b then is_some d.last else must_be_first ds y) ≡ false → (must_be_first ds y ≡ false → must_be_first (ds ++ es) y ≡ false) → (if b then is_some d.last else must_be_first (ds ++ es) y) ≡ false
    by true q r = q
    by false q r = r q

-- ---- equations under other names

-- the names that need not be First are variables here, and are so there too
pub record Musts (to : List ℕ → List ℕ) (k : Known) (ds es : List Decl) : Type 0 where
  pub known : (y : List ℕ) → must_be_first ds y ≡ false → (s : Bool) × (k.variables y ≡ Some s)
  pub kept : (y : List ℕ) → must_be_first ds y ≡ false → must_be_first es (to y) ≡ false

module _ (to : List ℕ → List ℕ) (k l : Known) (r : Relates to k l) (ds es : List Decl) (m : Musts to k ds es) where
  some_kept : (ys : List (List ℕ × Span)) → some_must ds ys ≡ false → some_must es (renamed_left to ys) ≡ false
  some_kept [] h = refl
  some_kept (y ∷ ys) h =
      or_none (must_be_first es (to y.0)) (some_must es (renamed_left to ys)) (m.kept y.0 (first_none (must_be_first ds y.0) (some_must ds ys) h)) (some_kept ys (second_none (must_be_first ds y.0) (some_must ds ys) h))

  lefts_second : (d : Bool) (ys : List (List ℕ × Span)) → AllOld ys → some_must ds ys ≡ false → LeftsFollow k.variables ys true → LeftsFollow l.variables (renamed_left to ys) d
  lefts_second d [] o h f = tt
  lefts_second d (y ∷ ys) o h f =
      let known = m.known y.0 (first_none (must_be_first ds y.0) (some_must ds ys) h) in
      let mine : IsTrue known.0 = (subst (λ v. VariableFollows v true) known.1 f.0) refl in
      (second_follows (l.variables (to y.0)) d (r.variables y.0 o.0 ∙ (ap or_first known.1 ∙ mine)), lefts_second d ys o.1 (second_none (must_be_first ds y.0) (some_must ds ys) h) f.1)

  pub definition_kept : (ys : List (List ℕ × Span)) (e : Expr) → AllOld ys → OldExpr e → LeftsFollow k.variables ys (is_second k.values e) → IsTrue (definition_met k.values ds ys e)
      → LeftsFollow l.variables (renamed_left to ys) (is_second l.values (renamed to e)) × IsTrue (definition_met l.values es (renamed_left to ys) (renamed to e))
  definition_kept ys e o p f h = by (is_second k.values e) refl
    where
      met : IsTrue (is_met l.values (renamed to e))
      met = met_kept to k.values l.values r.values e p (and_first (is_met k.values e) (not (some_must ds ys && is_second k.values e)) h)

      by : (b : Bool) → is_second k.values e ≡ b → LeftsFollow l.variables (renamed_left to ys) (is_second l.values (renamed to e)) × IsTrue (definition_met l.values es (renamed_left to ys) (renamed to e))
      by false q =
          let n = second_kept to k.values l.values r.values e p q in (
            lefts_first l.variables (renamed_left to ys) (is_second l.values (renamed to e)) n,
            and_both (is_met l.values (renamed to e)) (not (some_must es (renamed_left to ys) && is_second l.values (renamed to e))) met (not_and (some_must es (renamed_left to ys)) (is_second l.values (renamed to e)) n),
          )
      by true q =
          let none : some_must ds ys ≡ false = only_first (some_must ds ys) (subst (λ d. IsTrue (not (some_must ds ys && d))) q (and_second (is_met k.values e) (not (some_must ds ys && is_second k.values e)) h)) in (
            lefts_second (is_second l.values (renamed to e)) ys o none (subst (λ d. LeftsFollow k.variables ys d) q f),
            and_both (is_met l.values (renamed to e)) (not (some_must es (renamed_left to ys) && is_second l.values (renamed to e))) met (not_both (some_must es (renamed_left to ys)) (is_second l.values (renamed to e)) (some_kept ys none)),
          )

-- ---- rows

module _ (k : Known) (ds : List Decl) where
  -- an equation has right classes
  abbrev pub Gives : Eqn → Type 0
  Gives e = (class : Assignment) × EqnGood k ds class e

  abbrev pub AllGive : List Eqn → Type 0
  AllGive [] = ⊤
  AllGive (e ∷ es) = Gives e × AllGive es

  pub row_gives : (es : List Eqn) → AllGive es → (class : Assignment) × EqnsGood k ds class (eqns_of es)
  row_gives [] h = (no_class, tt)
  row_gives (e ∷ es) h = let others = row_gives es h.1 in (in_row h.0.0 others.0, (h.0.1, others.1))

  pub both_give : (es fs : List Eqn) → AllGive es → AllGive fs → AllGive (es ++ fs)
  both_give [] fs h g = g
  both_give (e ∷ es) fs h g = (h.0, both_give es fs h.1 g)

  -- an equation whose right side is First
  pub first_gives : (at : Span) (ys : List (List ℕ × Span)) (e : Expr) → IsTrue (is_met k.values e) → IsFalse (is_second k.values e) → Gives (define at ys e)
  first_gives at ys e m h = (
    no_class,
    (lefts_first k.variables ys (is_second k.values e) h, and_both (is_met k.values e) (not (some_must ds ys && is_second k.values e)) m (not_and (some_must ds ys) (is_second k.values e) h)),
  )

  -- names that keep their last values
  pub left_give : (to : List ℕ → List ℕ) (at : Span) (xs : List (List ℕ)) → AllGive (map (kept to at) xs)
  left_give to at [] = tt
  left_give to at (x ∷ xs) = (first_gives at ((to x, at) ∷ []) (last_of at x) refl refl, left_give to at xs)

-- ---- a block, whose equations have right classes

pub block_gives : (k : Known) (ds : List Decl) (es : List Eqn) (own : Classes) → ((class : Assignment) → LastsFirst (in_block own class) ds) → OthersFirst k ds (eqns_of es) → ClocksFirst (known_of ds (eqns_of es) own k).values ds
    → AllGive (known_of ds (eqns_of es) own k) ds es → (class : Assignment) × BlockGood k (in_block own class) (block ds (eqns_of es))
block_gives k ds es own lasts others clocks h =
    let r = row_gives (known_of ds (eqns_of es) own k) ds es h in (r.0, (lasts r.0, (others, (clocks, r.1))))

-- declared names that are First
last_none : (o : Option Const) → LastFirst o false
last_none None = tt
last_none (Some c) = refl

pub lasts_none : (class : Assignment) (ds : List Decl) → LastsFirst (in_block none_second class) ds
lasts_none class [] = tt
lasts_none class (d ∷ ds) = (last_none d.last, lasts_none class ds)

pub lasts_both : (class : Assignment) (ds es : List Decl) → LastsFirst class ds → LastsFirst class es → LastsFirst class (ds ++ es)
lasts_both class [] es h g = g
lasts_both class (d ∷ ds) es h g = (h.0, lasts_both class ds es h.1 g)

pub clocks_both : (second : Classes) (ds es : List Decl) → ClocksFirst second ds → ClocksFirst second es → ClocksFirst second (ds ++ es)
clocks_both second [] es h g = g
clocks_both second (d ∷ ds) es h g = (h.0, clocks_both second ds es h.1 g)
