-- Right clocks of expressions and blocks, where names are replaced.
use Rattle.std.proofs.Common.{◌≡◌, ℕ, true, List, [], ◌∷◌, ◌++◌, map, Option, None, Some, option_map, refl, sym, ap, subst, ◌∙◌}
use Rattle.std.specs.Prelude.{⊤}
use Rattle.std.specs.Str.{bytes_eq}
use Rattle.hp_base.specs.declared.span.Span.{Span}
use Rattle.hp_base.specs.declared.ty.Const.{Const}
use Rattle.hp_tree.specs.Expressions.{Expr, constant, variable, last_of, one, two, choose, pre, fby, arrow, when_is, merge, call, Exprs, no_expr, more_exprs, Parts, no_part, more_parts}
use Rattle.hp_tree.specs.Blocks.{Decl, Eqns, Eqn, eqns_of, define}
use Rattle.hp_tree.specs.Instant.{Clock, without}
use Rattle.hp_tree.specs.Meaning.{clock_in, clock_of, written}
use Rattle.hp_meaning.specs.Causal.Clocked.{Standing, base_alone, ClockRight, IsOn, ExprsOn, PartsOn, LeftsOn, LastOnBase, DeclarationsRight, AllRight, OneRight}
use Rattle.hp_automata.specs.Names.{is_name}
use Rattle.hp_automata.specs.Renaming.{renamed, renamed_exprs, renamed_parts, renamed_path, renamed_decls, renamed_left}
use Rattle.hp_automata.specs.Lowering.{defining, kept}
use Rattle.law_automata.specs.Lowered.OldNames.{IsOld, OldPath, OldExpr, OldExprs, OldParts}
use Rattle.law_automata.specs.Lowered.Removable.{Known, Plain, AllOld, DeclsOk}
use Rattle.law_automata.proofs.LoweredLemmas.BlockMaking.{ClocksSame, written_same, old_written, clock_of_old, clock_same}
use Rattle.law_automata.proofs.LoweredLemmas.Apart.{bytes_same}
use Rattle.law_automata.proofs.LoweredLemmas.Tests.{or_left, name_first, or_right}

module _ (to : List ℕ → List ℕ) (names names' : Standing) (same : (x : List ℕ) → IsOld x → names' (to x) ≡ option_map (renamed_path to) (names x)) where
  stands_so : (x : List ℕ) → IsOld x → (clock : Clock) → names x ≡ Some clock → names' (to x) ≡ Some (renamed_path to clock)
  stands_so x o clock h = same x o ∙ ap (option_map (renamed_path to)) h

  without_so : (clock : Clock) → renamed_path to (without clock) ≡ without (renamed_path to clock)
  without_so [] = refl
  without_so (on ∷ clock) = refl

  pub clock_right : (clock : Clock) → OldPath clock → ClockRight names clock → ClockRight names' (renamed_path to clock)
  clock_right [] o h = tt
  clock_right (on ∷ clock) o h = (stands_so on.1 o.0 clock h.0, clock_right clock o.1 h.1)

  mutual
    pub is_on : (e : Expr) → OldExpr e → (clock : Clock) → IsOn names e clock → IsOn names' (renamed to e) (renamed_path to clock)
    is_on (constant s c) o clock h = tt
    is_on (variable s x) o clock h = stands_so x o clock h
    is_on (last_of s x) o clock h = ap (renamed_path to) h
    is_on (one s op a) o clock h = is_on a o clock h
    is_on (two s op a b) o clock h = (is_on a o.0 clock h.0, is_on b o.1 clock h.1)
    is_on (choose s a b c) o clock h = (is_on a o.0 clock h.0, is_on b o.1 clock h.1, is_on c o.2 clock h.2)
    is_on (pre s a) o clock h = is_on a o clock h
    is_on (fby s a b) o clock h = (is_on a o.0 clock h.0, is_on b o.1 clock h.1)
    is_on (arrow s a b) o clock h = (is_on a o.0 clock h.0, is_on b o.1 clock h.1)
    is_on (when_is s a c x) o clock h = (
      ap (renamed_path to) h.0 ∙ ap (λ k. (c, to x) ∷ k) (without_so clock),
      stands_so x o.0 (without clock) h.1 ∙ ap Some (without_so clock),
      subst (IsOn names' (renamed to a)) (without_so clock) (is_on a o.1 (without clock) h.2),
    )
    is_on (merge s x ps) o clock h = (stands_so x o.0 clock h.0, parts_on ps o.1 x clock h.1)
    is_on (call s f inlined es) o clock h = exprs_on es o clock h

    exprs_on : (es : Exprs) → OldExprs es → (clock : Clock) → ExprsOn names es clock → ExprsOn names' (renamed_exprs to es) (renamed_path to clock)
    exprs_on no_expr o clock h = tt
    exprs_on (more_exprs e es) o clock h = (is_on e o.0 clock h.0, exprs_on es o.1 clock h.1)

    parts_on : (ps : Parts) → OldParts ps → (x : List ℕ) (clock : Clock) → PartsOn names x ps clock → PartsOn names' (to x) (renamed_parts to ps) (renamed_path to clock)
    parts_on no_part o x clock h = tt
    parts_on (more_parts c e ps) o x clock h = (is_on e o.0 ((c, x) ∷ clock) h.0, parts_on ps o.1 x clock h.1)

  last_so : (d : Decl) → LastOnBase d → LastOnBase (record d { clock = option_map (renamed_path to) d.clock })
  last_so d h = by d.last h
    where
      by : (l : Option Const) → (elim l as (λ (o : Option Const). Type 0) [ None ↦ ⊤ | Some c ↦ written d.clock ≡ [] ]) → (elim l as (λ (o : Option Const). Type 0) [ None ↦ ⊤ | Some c ↦ written (option_map (renamed_path to) d.clock) ≡ [] ])
      by None h = tt
      by (Some c) h = written_same to d.clock ∙ ap (renamed_path to) h

  pub declarations_right : (outer : Known) (es : Eqns) (ds : List Decl) → DeclsOk outer es ds → DeclarationsRight names ds → DeclarationsRight names' (renamed_decls to ds)
  declarations_right outer es [] ok h = tt
  declarations_right outer es (d ∷ ds) ok h =
      (subst (ClockRight names') (sym (written_same to d.clock)) (clock_right (written d.clock) (old_written d.clock ok.0.3) h.0), last_so d h.1, declarations_right outer es ds ok.1 h.2)

  lefts_right : (ds ds' : List Decl) → ClocksSame to ds ds' → (ys : List (List ℕ × Span)) → AllOld ys → (clock : Clock) → LeftsOn ds ys clock → LeftsOn ds' (renamed_left to ys) (renamed_path to clock)
  lefts_right ds ds' k [] o clock h = tt
  lefts_right ds ds' k (y ∷ ys) o clock h = (k.same y.0 o.0 ∙ ap (renamed_path to) h.0, lefts_right ds ds' k ys o.1 clock h.1)

  pub define_right : (ds ds' : List Decl) → ClocksSame to ds ds' → (s : Span) (ys : List (List ℕ × Span)) (e : Expr) → AllOld ys → OldExpr e → OneRight names ds (define s ys e)
      → OneRight names' ds' (define s (renamed_left to ys) (renamed to e))
  define_right ds ds' k s ys e oy oe h =
      subst (λ clock. ClockRight names' clock × LeftsOn ds' (renamed_left to ys) clock × IsOn names' (renamed to e) clock) (sym (clock_same to ds ds' k ys e oy oe))
      (clock_right (clock_of ds ys e) (clock_of_old to ds ds' k ys e oe) h.0, lefts_right ds ds' k ys oy (clock_of ds ys e) h.1, is_on e oe (clock_of ds ys e) h.2)

-- an expression that remembers nothing, where what is on the base clock stays so
pub plain_on : (to : List ℕ → List ℕ) (names names' : Standing) → ((x : List ℕ) → IsOld x → names x ≡ Some [] → names' (to x) ≡ Some []) → (e : Expr) → Plain e → OldExpr e → IsOn names e [] → IsOn names' (renamed to e) []
plain_on to names names' same (constant s c) p o h = tt
plain_on to names names' same (variable s x) p o h = same x o h
plain_on to names names' same (last_of s x) p o h = refl
plain_on to names names' same (one s op a) p o h = plain_on to names names' same a p o h
plain_on to names names' same (two s op a b) p o h = (plain_on to names names' same a p.0 o.0 h.0, plain_on to names names' same b p.1 o.1 h.1)
plain_on to names names' same (choose s a b c) p o h = (plain_on to names names' same a p.0 o.0 h.0, plain_on to names names' same b p.1 o.1 h.1, plain_on to names names' same c p.2 o.2 h.2)
plain_on to names names' same (pre s a) p o h = absurd p
plain_on to names names' same (fby s a b) p o h = absurd p
plain_on to names names' same (arrow s a b) p o h = absurd p
plain_on to names names' same (when_is s a c x) p o h = absurd p
plain_on to names names' same (merge s x ps) p o h = absurd p
plain_on to names names' same (call s f i es) p o h = absurd p

-- what may be read further in
pub base_same : (to : List ℕ → List ℕ) (v : Option Clock) → option_map (renamed_path to) (base_alone v) ≡ base_alone v
base_same to None = refl
base_same to (Some []) = refl
base_same to (Some (on ∷ clock)) = refl

pub base_twice : (v : Option Clock) → base_alone (base_alone v) ≡ base_alone v
base_twice None = refl
base_twice (Some []) = refl
base_twice (Some (on ∷ clock)) = refl

pub right_append : (names : Standing) (ds : List Decl) (xs ys : List Eqn) → AllRight names ds (eqns_of xs) → AllRight names ds (eqns_of ys) → AllRight names ds (eqns_of (xs ++ ys))
right_append names ds [] ys h g = g
right_append names ds (e ∷ xs) ys h g = (h.0, right_append names ds xs ys h.1 g)

-- an equation of one name on the base clock
pub base_right : (names : Standing) (ds : List Decl) (s : Span) (x : List ℕ) (e : Expr) → clock_in ds x ≡ [] → IsOn names e [] → OneRight names ds (defining s x e)
base_right names ds s x e c h = subst (λ clock. ClockRight names clock × LeftsOn ds ((x, s) ∷ []) clock × IsOn names e clock) (sym c) (tt, (c, tt), h)

-- names that are left out
pub kept_right : (names : Standing) (ds : List Decl) (to : List ℕ → List ℕ) (s : Span) (xs : List (List ℕ)) → ((x : List ℕ) → is_name xs x ≡ true → clock_in ds (to x) ≡ []) → AllRight names ds (eqns_of (map (kept to s) xs))
kept_right names ds to s [] h = tt
kept_right names ds to s (x ∷ xs) h = (
  base_right names ds s (to x) (last_of s x) (h x (name_first x xs x ∙ or_left (bytes_eq x x) (is_name xs x) (bytes_same x))) refl,
  kept_right names ds to s xs (λ z q. h z (name_first x xs z ∙ or_right (bytes_eq x z) (is_name xs z) q)),
)
