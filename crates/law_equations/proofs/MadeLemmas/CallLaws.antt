-- The equation of a call stands for the rows of its outputs.
use Rattle.std.proofs.Common.{◌≡◌, ℕ, zero, suc, ◌+◌, ◌-◌, ◌<◌, ◌≤◌, true, false, nat_eq, if◌then◌else◌, List, [], ◌∷◌, ◌++◌, length, map, slice_get, Option, Some, refl, sym, ap, ap₂, subst, ◌∙◌, arith}
use Rattle.std.specs.List.{AllByRecursion, IsDistinct}
use Rattle.std.specs.Str.{bytes_eq}
use Rattle.std.proofs.lemmas.Bool.Decides.{nat_tests}
use Rattle.std.proofs.lemmas.List.{append-nil}
use Rattle.std.proofs.lemmas.Slice.Eq.{bytes_eq-Decides}
use Rattle.hp_tree.specs.Blocks.{Decl}
use Rattle.hp_tree.specs.Programs.{TypeDecl}
use Rattle.hp_tree.specs.Instant.{Named, Instance, Place}
use Rattle.hp_flat.specs.declared.equation.Atom.{Atom}
use Rattle.hp_flat.specs.Equations.{called, FlatEqn}
use Rattle.hp_base.specs.declared.value.Value.{Value}
use Rattle.law_equations.specs.Flattened.Flat.{Arg, Call}
use Rattle.law_equations.specs.Flattened.Flatten.{FlatName, At, When, Rows, row, Prefix, output_row}
use Rattle.law_equations.specs.Flattened.Numbered.{targets_from, definitions, AreArgs, IsRow, AreRows, StandFor}
use Rattle.law_equations.specs.Made.Making.{Known, Sketch, Site, next, flat_type, with_new, with_outputs, numbers_from, called_at}
use Rattle.law_equations.specs.Made.Keeping.{IsKept}
use Rattle.law_equations.specs.Made.Standing.{Agrees, IsAt, defs, IsBounded, IsDone, Steps}
use Rattle.law_equations.proofs.MadeLemmas.StepLaws.{definitions-both, length_more}

-- the flat names of the outputs of a call
abbrev pub output_names : List Decl → Prefix → List FlatName
output_names [] here = []
output_names (o ∷ os) here = At (here (Instance ∷ Named o.name ∷ [])) ∷ output_names os here

pub outputs_kept : (K : FlatName → Type 0) (os : List Decl) (here : Prefix) → AllByRecursion (IsKept K) (output_names os here)
outputs_kept K [] here = tt
outputs_kept K (o ∷ os) here = (tt, outputs_kept K os here)

pub names-length : (os : List Decl) (here : Prefix) → length (output_names os here) ≡ length os
names-length [] here = refl
names-length (o ∷ os) here = ap suc (names-length os here)

abbrev names_of : List Decl → List (List ℕ)
names_of os = map (λ (d : Decl). d.name) os

at_place : (os : List Decl) (i : ℕ) → i < length os → (o : Decl) × (slice_get os i ≡ Some o)
at_place [] i l = absurd (omega arith)
at_place (o ∷ os) zero l = (o, refl)
at_place (o ∷ os) (suc i) l = at_place os i (omega arith)

agrees_at : (means : ℕ → FlatName) (os : List Decl) (here : Prefix) (j i : ℕ) (o : Decl) → Agrees means j (output_names os here) → slice_get os i ≡ Some o → means (j + i) ≡ At (here (Instance ∷ Named o.name ∷ []))
agrees_at means [] here j i o a e = absurd cc
agrees_at means (p ∷ os) here j zero o a e =
    let same : p ≡ o = cc in
    ap means (let z : j + 0 ≡ j = omega arith in z) ∙ a.0 ∙ ap (λ (d : Decl). At (here (Instance ∷ Named d.name ∷ []))) same
agrees_at means (p ∷ os) here j (suc i) o a e = ap means (let z : j + suc i ≡ (j + 1) + i = omega arith in z) ∙ agrees_at means os here (j + 1) i o a.1 e

module _ (types : List TypeDecl) (outputs : List ℕ → List (List ℕ)) (fill : Place → Value) where
  differs : (x : List ℕ) (os : List Decl) (i : ℕ) (o : Decl) → AllByRecursion (λ y. bytes_eq x y ≡ false) (names_of os) → slice_get os i ≡ Some o → bytes_eq x o.name ≡ false
  differs x [] i o a e = absurd cc
  differs x (p ∷ os) zero o a e = let same : p ≡ o = cc in subst (λ (d : Decl). bytes_eq x d.name ≡ false) same a.0
  differs x (p ∷ os) (suc i) o a e = differs x os i o a.1 e

  row_at : (n : ℕ) (os : List Decl) (w : When) (rs : List Place) (f : List ℕ) (xs : List (Arg FlatName)) (i : ℕ) (o : Decl) → IsDistinct bytes_eq (names_of os) → slice_get os i ≡ Some o
      → output_row types outputs fill n (names_of os) w rs f xs o.name ≡ Some (row w rs (Call f (n + i) xs) ∷ [])
  unfolding IsDistinct
  row_at n [] w rs f xs i o d e = absurd cc
  row_at n (p ∷ os) w rs f xs zero o d e =
      let same : p ≡ o = cc in
      ap (λ b. if b then Some (row w rs (Call f n xs) ∷ []) else output_row types outputs fill (suc n) (names_of os) w rs f xs o.name)
      (ap (λ (q : Decl). bytes_eq q.name o.name) same ∙ (bytes_eq-Decides o.name o.name).1 refl)
      ∙ ap (λ m. Some (row w rs (Call f m xs) ∷ [])) (let z : n ≡ n + 0 = omega arith in z)
  row_at n (p ∷ os) w rs f xs (suc i) o d e =
      ap (λ b. if b then Some (row w rs (Call f n xs) ∷ []) else output_row types outputs fill (suc n) (names_of os) w rs f xs o.name) (differs p.name os i o d.0 e)
      ∙ row_at (suc n) os w rs f xs i o d.1 e
      ∙ ap (λ m. Some (row w rs (Call f m xs) ∷ [])) (let z : suc n + i ≡ n + suc i = omega arith in z)

module _ (k : Known) where
  pub outs-next : (os : List Decl) (d : Sketch) → next (with_outputs k os d) ≡ next d + length os
  outs-next [] d = omega arith
  outs-next (o ∷ os) d =
      let more : next (with_new o.name (flat_type k.types o.ty) d) ≡ next d + 1 = length_more d.variables _ in
      outs-next os (with_new o.name (flat_type k.types o.ty) d) ∙ omega (arith, more)

  pub outs_eqns : (os : List Decl) (d : Sketch) → (with_outputs k os d).eqns ≡ d.eqns
  outs_eqns [] d = refl
  outs_eqns (o ∷ os) d = outs_eqns os (with_new o.name (flat_type k.types o.ty) d)

  pub outs-flag : (os : List Decl) (d : Sketch) → (with_outputs k os d).flag ≡ d.flag
  outs-flag [] d = refl
  outs-flag (o ∷ os) d = outs-flag os (with_new o.name (flat_type k.types o.ty) d)

  not_same : (m n : ℕ) → (m ≡ n → ⊥) → nat_eq m n ≡ false
  not_same m n h = grind (arith, nat_tests)

  none_below : (j n : ℕ) (os : List Decl) (e : FlatEqn) (y : ℕ) → y < n → targets_from j (numbers_from n os) e y ≡ []
  none_below j n [] e y l = refl
  none_below j n (o ∷ os) e y l =
      ap (λ b. if b then (e, j) ∷ targets_from (suc j) (numbers_from (n + 1) os) e y else targets_from (suc j) (numbers_from (n + 1) os) e y) (not_same n y (λ q. absurd (omega arith)))
      ∙ none_below (suc j) (n + 1) os e y (omega arith)

  none_above : (j n : ℕ) (os : List Decl) (e : FlatEqn) (y : ℕ) → n + length os ≤ y → targets_from j (numbers_from n os) e y ≡ []
  none_above j n [] e y l = refl
  none_above j n (o ∷ os) e y l =
      ap (λ b. if b then (e, j) ∷ targets_from (suc j) (numbers_from (n + 1) os) e y else targets_from (suc j) (numbers_from (n + 1) os) e y) (not_same n y (λ q. absurd (omega arith)))
      ∙ none_above (suc j) (n + 1) os e y (omega arith)

  one_there : (j n : ℕ) (os : List Decl) (e : FlatEqn) (i : ℕ) → i < length os → targets_from j (numbers_from n os) e (n + i) ≡ (e, j + i) ∷ []
  one_there j n [] e i l = absurd (omega arith)
  one_there j n (o ∷ os) e zero l =
      let yes : nat_eq n (n + 0) ≡ true = (let z : n + 0 ≡ n = omega arith in grind (arith, nat_tests)) in
      ap (λ b. if b then (e, j) ∷ targets_from (suc j) (numbers_from (n + 1) os) e (n + 0) else targets_from (suc j) (numbers_from (n + 1) os) e (n + 0)) yes
      ∙ ap₂ (λ m ds. (e, m) ∷ ds) (let z : j ≡ j + 0 = omega arith in z) (none_below (suc j) (n + 1) os e (n + 0) (omega arith))
  one_there j n (o ∷ os) e (suc i) l =
      ap (λ b. if b then (e, j) ∷ targets_from (suc j) (numbers_from (n + 1) os) e (n + suc i) else targets_from (suc j) (numbers_from (n + 1) os) e (n + suc i)) (not_same n (n + suc i) (λ q. absurd (omega arith)))
      ∙ ap (λ y. targets_from (suc j) (numbers_from (n + 1) os) e y) (let z : n + suc i ≡ (n + 1) + i = omega arith in z)
      ∙ one_there (suc j) (n + 1) os e i (omega arith)
      ∙ ap (λ m. (e, m) ∷ []) (let z : suc j + i ≡ j + suc i = omega arith in z)

  module _ (types : List TypeDecl) (outputs : List ℕ → List (List ℕ)) (fill : Place → Value) (F : FlatName → Option Rows) (means : ℕ → FlatName) where
    pub call-steps : (at : Site) (f : List ℕ) (args : List Atom) (os : List Decl) (d : Sketch) (w : When) (rs : List Place) (xs : List (Arg FlatName)) (here : Prefix) → IsBounded d → IsAt means at w rs → AreArgs means args xs
        → Agrees means (next d) (output_names os here) → outputs f ≡ names_of os → IsDistinct bytes_eq (outputs f)
        → ((y : List ℕ) → F (At (here (Instance ∷ Named y ∷ []))) ≡ output_row types outputs fill 0 (outputs f) w rs f xs y)
        → Steps F means d (called_at k at f args os d).0
    call-steps at f args os d w rs xs here b i a m same apart cov =
        let e : FlatEqn = record { targets = numbers_from (next d) os; clock = at.clock; right = called f args; restart = at.restart; at = 0 } in
        let c = (called_at k at f args os d).0 in
        let more : next c ≡ next d + length os = outs-next os d in
        let all : (y : ℕ) → defs c y ≡ defs d y ++ targets_from 0 (numbers_from (next d) os) e y =
        λ y. definitions-both (with_outputs k os d).eqns (e ∷ []) y ∙ ap₂ (λ es ds. definitions es y ++ ds) (outs_eqns os d) (append-nil (targets_from 0 (numbers_from (next d) os) e y)) in
        record {
          grown = omega (arith, more);
          kept = λ y l. all y ∙ ap (λ ds. defs d y ++ ds) (none_below 0 (next d) os e y l) ∙ append-nil (defs d y);
          done = λ y l u. done e c more all (λ j. record { clock = i.clock; restart = i.restart; right = (refl, refl, a) }) y l u;
          bounded = λ y l. all y ∙ ap₂ (λ ds es. ds ++ es) (b y (omega (arith, more))) (none_above 0 (next d) os e y (omega (arith, more)));
        }
      where
        there : (e : FlatEqn) (c : Sketch) → ((y : ℕ) → defs c y ≡ defs d y ++ targets_from 0 (numbers_from (next d) os) e y) → ((j : ℕ) → IsRow means e j (row w rs (Call f j xs))) → (n : ℕ) → n < length os → IsDone F means c (next d + n)
        there e c all r n l =
            let p = at_place os n l in
            let o = p.0 in
            let meant = agrees_at means os here (next d) n o m p.1 in
            let rows : F (means (next d + n)) ≡ Some (row w rs (Call f (0 + n) xs) ∷ []) =
            ap F meant ∙ cov o.name ∙ ap (λ names. output_row types outputs fill 0 names w rs f xs o.name) same
            ∙ row_at types outputs fill 0 os w rs f xs n o (subst (IsDistinct bytes_eq) same apart) p.1 in
            let ds : defs c (next d + n) ≡ (e, 0 + n) ∷ [] = all (next d + n) ∙ ap₂ (λ ds es. ds ++ es) (b (next d + n) (omega arith)) (one_there 0 (next d) os e n l) in
            subst (λ o. StandFor means (defs c (next d + n)) (means (next d + n)) o) (sym rows)
            (subst (λ ds. AreRows means ds (row w rs (Call f (0 + n) xs) ∷ [])) (sym ds) (r (0 + n), tt))

        done : (e : FlatEqn) (c : Sketch) → next c ≡ next d + length os → ((y : ℕ) → defs c y ≡ defs d y ++ targets_from 0 (numbers_from (next d) os) e y) → ((j : ℕ) → IsRow means e j (row w rs (Call f j xs)))
            → (y : ℕ) → next d ≤ y → y < next c → IsDone F means c y
        done e c more all r y l u =
            let n = y - next d in
            let q : next d + n ≡ y = omega arith in
            subst (IsDone F means c) q (there e c all r n (omega (arith, more)))
