-- A block, given its equations: what stands for it has an instant.
use Rattle.std.proofs.Common.{◌≡◌, ℕ, Bool, true, false, not, ◌&&◌, List, [], ◌∷◌, ◌++◌, map, inl, inr, refl, sym, ap, subst, ◌∙◌}
use Rattle.std.specs.Prelude.{◌⊎◌, ◌||◌, if◌then◌else◌, None, Some}
use Rattle.std.specs.Str.{bytes_eq}
use Rattle.std.proofs.lemmas.List.{append-nil}
use Rattle.hp_base.specs.declared.span.Span.{Span}
use Rattle.hp_base.specs.declared.value.Value.{Value}
use Rattle.hp_base.specs.declared.value.Value.TheVariants.{Absent, B}
use Rattle.hp_base.specs.declared.ty.Const.{Const}
use Rattle.hp_tree.specs.Blocks.{Decl, Block, block, Eqns, Eqn, eqns_of}
use Rattle.hp_tree.specs.Programs.{TypeDecl}
use Rattle.hp_tree.specs.Instant.{Named, Fresh, Equations, Instant, Past, Given, at, part}
use Rattle.hp_tree.specs.Meaning.{Names, Nodes, defined, scope, inside, lasts, previous, declares, some_defines, block_defines, clock_in}
use Rattle.hp_tables.specs.Defining.Names.{outer_names}
use Rattle.hp_automata.specs.Names.{is_name, missing}
use Rattle.hp_automata.specs.Renaming.{renamed_decls}
use Rattle.hp_automata.specs.Lowering.{Types, Enumerations, declaring, kept, all_kept, lowered_eqns}
use Rattle.law_automata.specs.Lowered.OldNames.{IsOld}
use Rattle.law_automata.specs.Lowered.Removable.{Known, BlockOk}
use Rattle.law_automata.specs.Lowered.Standing.{Relation, Along, BlockStands, EqnsStand}
use Rattle.law_automata.specs.Lowered.Deciding.{Property}
use Rattle.law_automata.proofs.LoweredLemmas.Callees.{Callees}
use Rattle.law_automata.proofs.LoweredLemmas.Apart.{bytes_same}
use Rattle.law_automata.proofs.LoweredLemmas.Tests.{or_left, or_right, or_cases, or_none, or_first, or_second, and_first, and_second, not_true, true_false, name_first, name_missing, names_outer, some_append}
use Rattle.law_automata.proofs.LoweredLemmas.Renaming.{Renames, local, local_kept}
use Rattle.law_automata.proofs.LoweredLemmas.Lookups.{with_names, equations_sound, eqns_sound, eqns_old}
use Rattle.law_automata.proofs.LoweredLemmas.Defined.{equations_complete, eqns_complete, outward}
use Rattle.law_automata.proofs.LoweredLemmas.Expressions.{reading}
use Rattle.law_automata.proofs.LoweredLemmas.Rows.{RowMet, EachMet}
use Rattle.law_automata.proofs.LoweredLemmas.BlockMaking.{value_of, block_made, last_met, lasts_same, ClocksSame, clock_kept, clock_old, lasts_append, NoLast}
use Rattle.law_automata.proofs.LoweredLemmas.Around.{Undone, Around, BlockMet}

-- a name that is not declared has the last value that it has further out
pub lasts_out : (value : Const → Value) (ds : List Decl) (past : Past) (out : Names) (x : List ℕ) → declares ds x ≡ false → lasts value ds past out x ≡ out x
lasts_out value [] past out x h = refl
lasts_out value (d ∷ ds) past out x h = by (bytes_eq d.name x) (or_first (bytes_eq d.name x) (declares ds x) h) (lasts_out value ds past out x (or_second (bytes_eq d.name x) (declares ds x) h))
  where
    by : (t : Bool) → t ≡ false → lasts value ds past out x ≡ out x → (if t then (elim d.last [ None ↦ out x | Some c ↦ previous past x (value c) ]) else lasts value ds past out x) ≡ out x
    by true e r = absurd cc
    by false e r = r

pub kept_each : (types : List TypeDecl) (u : Value → Value) (N : Nodes) (ds : List Decl) (names last : Names) (to : List ℕ → List ℕ) (s : Span) (xs : List (List ℕ)) → ((x : List ℕ) → is_name xs x ≡ true → names (to x) ≡ last x)
    → EachMet types u N ds names last (map (kept to s) xs)
kept_each types u N ds names last to s [] h = tt
kept_each types u N ds names last to s (x ∷ xs) h = (
  λ g. last_met types u N ds names last s (to x) x (h x (name_first x xs x ∙ or_left (bytes_eq x x) (is_name xs x) (bytes_same x))) g,
  kept_each types u N ds names last to s xs (λ z q. h z (name_first x xs z ∙ or_right (bytes_eq x z) (is_name xs z) q)),
)

-- what is known around a block
pub record AroundBlock (outer : Known) (d : ℕ) (to : List ℕ → List ℕ) (xs : List (List ℕ)) (b : Block) (out out' last last' : Names) : Type 0 where
  pub renames : Renames outer d to
  pub undone : Undone to
  pub ok : BlockOk outer d b
  pub own : (x : List ℕ) → is_name xs x ≡ true → outer x ≡ true
  pub old : (x : List ℕ) → is_name xs x ≡ true → IsOld x
  pub out_same : (x : List ℕ) → IsOld x → with_names xs b x ≡ false → out' (to x) ≡ out x
  pub kept_same : (x : List ℕ) → is_name xs x ≡ true → block_defines b x ≡ false → out x ≡ last x
  pub lasts : (x : List ℕ) → IsOld x → last' x ≡ last x

module _ (types : List TypeDecl) (enums : Enumerations) (s : Span) {outer : Known} {d : ℕ} {to : List ℕ → List ℕ} {xs : List (List ℕ)} {ds : List Decl} {es : Eqns} {out out' last last' : Names} (a : AroundBlock outer d to xs (block ds es) out out' last last') where
  abbrev pub b : Block
  b = block ds es

  -- what is read in the block
  module _ (now : Instant) where
    abbrev pub read : Names
    read = inside es out now

    read_by : (x : List ℕ) (t : Bool) → some_defines es x ≡ t → (if t then now (Named x ∷ []) else out x) ≡ read x
    read_by x t e = ap (λ c. if c then now (Named x ∷ []) else out x) (sym e)

    -- a name that is left out
    pub left_out : (x : List ℕ) → is_name xs x ≡ true → block_defines b x ≡ false → read x ≡ last x
    left_out x q n =
        let undeclared = outward enums a.renames s xs ds es a.ok.0 a.own x (or_right (block_defines b x) (is_name xs x) q) in
        sym (read_by x false (undefined_by (some_defines es x) (declares ds x) n undeclared)) ∙ a.kept_same x q n
      where
        undefined_by : (s t : Bool) → (s && not t) ≡ false → t ≡ false → s ≡ false
        undefined_by true true e f = absurd cc
        undefined_by true false e f = absurd cc
        undefined_by false t e f = refl

    -- the names that stand for others there, where some more equations stand in front
    module _ (front : List Eqn) (tys : Types) where
      abbrev pub made : List Eqn
      made = lowered_eqns enums to (declaring tys ds) d es ++ all_kept to s xs b

      pub made_complete : (x : List ℕ) → IsOld x → (some_defines es x ≡ true) ⊎ (is_name xs x ≡ true) → some_defines (eqns_of (front ++ made)) (to x) ≡ true
      made_complete x o q =
          some_append front made (to x)
          ∙ or_right (some_defines (eqns_of front) (to x)) (some_defines (eqns_of made) (to x))
          (equations_complete enums a.renames s xs ds es a.ok.0 a.own (lowered_eqns enums to (declaring tys ds) d es) x (eqns_complete enums a.renames (declaring tys ds) es a.ok.1 x o) q)

      -- one that is not defined is further out
      not_defined : (x : List ℕ) → IsOld x → some_defines (eqns_of (front ++ made)) (to x) ≡ false → out' (to x) ≡ read x
      not_defined x o n =
          let not_own : some_defines es x ≡ false = no_by (some_defines es x) (λ q. true_false _ (made_complete x o (inl q)) n) in
          let not_left : is_name xs x ≡ false = no_by (is_name xs x) (λ q. true_false _ (made_complete x o (inr q)) n) in
          a.out_same x o (or_none (block_defines b x) (is_name xs x) (ap (λ t. t && not (declares ds x)) not_own) not_left) ∙ read_by x false not_own
        where
          no_by : (t : Bool) → (t ≡ true → ⊥) → t ≡ false
          no_by true h = absurd (h refl)
          no_by false h = refl

      -- names in what stands for the block, by what names stand for
      pub same_read : (names' : Names) → ((y : List ℕ) → some_defines (eqns_of (front ++ made)) y ≡ false → names' y ≡ out' y) → ((x : List ℕ) → IsOld x → some_defines (eqns_of (front ++ made)) (to x) ≡ true → names' (to x) ≡ read x)
          → (x : List ℕ) → IsOld x → names' (to x) ≡ read x
      same_read names' outside inner x o = by (some_defines (eqns_of (front ++ made)) (to x)) refl
        where
          by : (t : Bool) → some_defines (eqns_of (front ++ made)) (to x) ≡ t → names' (to x) ≡ read x
          by true q = inner x o q
          by false q = outside (to x) q ∙ not_defined x o q

  -- last values there, where declarations with none stand behind
  pub lasts_in : (P : Relation) (more : List Decl) → NoLast (value_of types) more → ((i j : Instant) → P i j → (z : List ℕ) → declares ds z ≡ true → i (Named z ∷ []) ≡ j (Named z ∷ [])) → (past other : Past) → Along P past other
      → (x : List ℕ) → IsOld x → lasts (value_of types) (renamed_decls to ds ++ more) other last' x ≡ lasts (value_of types) ds past last x
  lasts_in P more none same past other along x o =
      lasts_append (value_of types) (renamed_decls to ds) more none other last' x
      ∙ lasts_same (value_of types) P ds same past other along to last last' x (a.lasts x o) ds (λ z q. q)

module _ (types : List TypeDecl) (u : Value → Value) (N N' : Nodes) (stands given : List ℕ → Relation) (decided : List ℕ → Property) (C : Callees N N' stands given decided) (enums : Enumerations) (tys : Types) (s : Span) {outer : Known} {d : ℕ} {to : List ℕ → List ℕ} {xs : List (List ℕ)} {ds : List Decl} {es : Eqns}
    {out out' last last' : Names} (a : AroundBlock outer d to xs (block ds es) out out' last last') (fresh : Bool) (g g' : Given) (now : Instant) (past : Along (BlockStands stands d (block ds es)) g.past g'.past) (m : now ≡ scope types (reading u) N (block ds es) fresh out last g now) where
  abbrev pub eqns : List Eqn
  eqns = made types enums s a now [] tys

  abbrev pub names : Names
  names = inside es out now

  abbrev pub names' : Names
  names' y = if some_defines (eqns_of eqns) y then names (a.undone.back y) else out' y

  abbrev pub decls' : List Decl
  decls' = renamed_decls to ds

  abbrev pub last_in : Names
  last_in = lasts (value_of types) ds g.past last

  abbrev pub last_in' : Names
  last_in' = lasts (value_of types) decls' g'.past last'

  outside : (y : List ℕ) → some_defines (eqns_of eqns) y ≡ false → names' y ≡ out' y
  outside y h = ap (λ t. if t then names (a.undone.back y) else out' y) h

  inner : (x : List ℕ) → IsOld x → some_defines (eqns_of eqns) (to x) ≡ true → names' (to x) ≡ names x
  inner x o h = ap (λ t. if t then names (a.undone.back (to x)) else out' (to x)) h ∙ ap names (a.undone.back_to x o)

  same : (x : List ℕ) → IsOld x → names' (to x) ≡ names x
  same x o = same_read types enums s a now [] tys names' outside inner x o

  pub lasts_same_in : (x : List ℕ) → IsOld x → last_in' x ≡ last_in x
  lasts_same_in x o = lasts_same (value_of types) (BlockStands stands d (block ds es)) ds (λ i j h. h.0) g.past g'.past past to last last' x (a.lasts x o) ds (λ z q. q)

  clocks : ClocksSame to ds decls'
  clocks = record {
    same = λ y o. ap (λ z. clock_in z (to y)) (sym (append-nil decls')) ∙ clock_kept to a.renames es ds [] a.ok.0 tt y o;
    old = clock_old to outer es ds a.ok.0;
  }

  pub around_equations : Around outer d to ds decls' names names' last_in last_in'
  around_equations = record { renames = a.renames; undone = a.undone; clocks = clocks; same = same; lasts = lasts_same_in }

  -- the names that the block leaves out
  pub left_met : EachMet types u N' decls' names' last_in' (all_kept to s xs (block ds es))
  left_met =
      kept_each types u N' decls' names' last_in' to s (missing (is_name (outer_names (block ds es))) xs)
      (λ x q.
      let two = sym (name_missing (is_name (outer_names (block ds es))) xs x) ∙ q in
      let mine : is_name xs x ≡ true = and_first (is_name xs x) _ two in
      let left : block_defines (block ds es) x ≡ false = sym (names_outer (block ds es) x) ∙ not_true _ (and_second (is_name xs x) _ two) in
      let undeclared = outward enums a.renames s xs ds es a.ok.0 a.own x (or_right (block_defines (block ds es) x) (is_name xs x) mine) in
      same x (a.old x mine) ∙ left_out types enums s a now x mine left ∙ sym (lasts_out (value_of types) ds g.past last x undeclared) ∙ sym (lasts_same_in x (a.old x mine)))

  -- what is to be given to the names that the block defines
  pub own_given : (x : List ℕ) → some_defines es x ≡ true → defined types (reading u) N ds es names last_in (at Equations g) (part Equations now) x ≡ names x
  own_given x h =
      sym (ap (λ t. if t then defined types (reading u) N ds es names last_in (at Equations g) (part Equations now) x else Absent) h) ∙ sym (ap (λ i. i (Named x ∷ [])) m) ∙ ap (λ t. if t then now (Named x ∷ []) else out x) (sym h)

  module _ (row : RowMet types u N' decls' names' last_in' eqns (at Equations g') (EqnsStand stands d es (part Equations now))) where
    abbrev result : (j : Instant) × (j ≡ scope types (reading u) N' (block decls' (eqns_of eqns)) fresh out' last' g' j) × EqnsStand stands d es (part Equations now) (part Equations j) × (j (Fresh ∷ []) ≡ B fresh)
        × ((y : List ℕ) → some_defines (eqns_of eqns) y ≡ true → j (Named y ∷ []) ≡ names' y) × ((y : List ℕ) → some_defines (eqns_of eqns) y ≡ false → j (Named y ∷ []) ≡ Absent)
    result = block_made types u N' decls' eqns names' out' last' g' fresh outside (EqnsStand stands d es (part Equations now)) row

    given_name : (x : List ℕ) → IsOld x → (some_defines es x ≡ true) ⊎ (is_name xs x ≡ true) → result.0 (Named (to x) ∷ []) ≡ names x
    given_name x o q = result.4 (to x) (made_complete types enums s a now [] tys x o q) ∙ same x o

    own_name : (x : List ℕ) → IsOld x → some_defines es x ≡ true → result.0 (Named (to x) ∷ []) ≡ now (Named x ∷ [])
    own_name x o h = given_name x o (inl h) ∙ ap (λ t. if t then now (Named x ∷ []) else out x) h

    named_by : (x : List ℕ) → IsOld x → (t : Bool) → block_defines (block ds es) x ≡ t → (t || is_name xs x) ≡ true → result.0 (Named (to x) ∷ []) ≡ (if t then now (Named x ∷ []) else last x)
    named_by x o true e h = own_name x o (and_first (some_defines es x) _ e)
    named_by x o false e h = given_name x o (inr h) ∙ left_out types enums s a now x h e

    all_by : ((x : List ℕ) → to x ≡ x) → ((x : List ℕ) → is_name xs x ≡ false) → (y : List ℕ) (t v : Bool) → some_defines es y ≡ t → some_defines (eqns_of eqns) y ≡ v → now (Named y ∷ []) ≡ result.0 (Named y ∷ [])
    all_by id none y true v e f =
        let o = eqns_old outer d es a.ok.1 y e in
        sym (own_name y o e) ∙ ap (λ z. result.0 (Named z ∷ [])) (id y)
    all_by id none y false false e f =
        ap (λ i. i (Named y ∷ [])) m ∙ ap (λ t. if t then defined types (reading u) N ds es names last_in (at Equations g) (part Equations now) y else Absent) e ∙ sym (result.5 y f)
    all_by id none y false true e f =
        let undeclared : declares ds y ≡ false = no_by (declares ds y) (λ q. true_false _ (local outer es ds a.ok.0 y q).defined e) in
        let stood = equations_sound enums a.renames s xs ds es a.ok.0 a.old (lowered_eqns enums to (declaring tys ds) d es) y undeclared (eqns_sound enums a.renames (declaring tys ds) es a.ok.1 y) f in
        absurd (by stood.name (stood.is ∙ id stood.name) (or_cases (block_defines (block ds es) stood.name) (is_name xs stood.name) stood.own))
      where
        no_by : (t : Bool) → (t ≡ true → ⊥) → t ≡ false
        no_by true h = absurd (h refl)
        no_by false h = refl

        by : (x : List ℕ) → y ≡ x → (block_defines (block ds es) x ≡ true) ⊎ (is_name xs x ≡ true) → ⊥
        by x s (inl q) = true_false (some_defines es y) (subst (λ z. some_defines es z ≡ true) (sym s) (and_first (some_defines es x) _ q)) e
        by x s (inr q) = true_false (is_name xs x) q (none x)

    pub block_by : BlockMet types u N N' stands given decided C enums d to tys s xs (block ds es) fresh out' last last' g' now
    block_by =
        record {
          instant = result.0;
          meets = result.1;
          so = (
            (λ x h.
                let l = local outer es ds a.ok.0 x h in
                sym (own_name x l.old l.defined) ∙ ap (λ z. result.0 (Named z ∷ [])) (local_kept a.renames es ds a.ok.0 x h)),
            result.2,
          );
          was_fresh = ap (λ i. i (Fresh ∷ [])) m;
          is_fresh = result.3;
          named = λ x o h. named_by x o (block_defines (block ds es) x) refl h;
          all = λ id none y. all_by id none y (some_defines es y) (some_defines (eqns_of eqns) y) refl refl;
        }
