-- Equations that are the same but for their places stand for the same.
use Rattle.std.proofs.Common.{◌≡◌, ℕ, suc, ◌≤◌, length, Bool, true, false, nat_eq, if◌then◌else◌, List, [], ◌∷◌, ◌++◌, map, Option, None, Some, refl, sym, ap, subst, ◌∙◌}
use Rattle.std.specs.List.{AllByRecursion, range_with_len}
use Rattle.std.proofs.lemmas.List.{map-append}
use Rattle.hp_flat.specs.Equations.{Right as Given, operator, register, called, FlatEqn}
use Rattle.hp_flat.specs.Nodes.{FlatNode}
use Rattle.law_equations.specs.Flattened.Flat.{Flat, Row}
use Rattle.law_equations.specs.Flattened.Flatten.{FlatName}
use Rattle.law_equations.specs.Flattened.Numbered.{targets_from, definitions, AreRows, StandFor, HasTargets, AreEquationsFor}
use Rattle.law_equations.specs.Made.Laws.{unplaced}

-- a definition of a variable, whatever its place is
abbrev up : FlatEqn × ℕ → FlatEqn × ℕ
up d = (unplaced d.0, d.1)

targets_up : (k : ℕ) (ys : List ℕ) (e : FlatEqn) (x : ℕ) → targets_from k ys (unplaced e) x ≡ map up (targets_from k ys e x)
targets_up k [] e x = refl
targets_up k (y ∷ ys) e x = by (nat_eq y x) (targets_up (suc k) ys e x)
  where
    by : (b : Bool) → targets_from (suc k) ys (unplaced e) x ≡ map up (targets_from (suc k) ys e x)
        → (if b then (unplaced e, k) ∷ targets_from (suc k) ys (unplaced e) x else targets_from (suc k) ys (unplaced e) x) ≡ map up (if b then (e, k) ∷ targets_from (suc k) ys e x else targets_from (suc k) ys e x)
    by true h = ap (λ more. (unplaced e, k) ∷ more) h
    by false h = h

definitions_up : (es : List FlatEqn) (x : ℕ) → definitions (map unplaced es) x ≡ map up (definitions es x)
definitions_up [] x = refl
definitions_up (e ∷ es) x = (λ j. targets_up 0 e.targets e x j ++ definitions_up es x j) ∙ sym (map-append up (targets_from 0 e.targets e x) (definitions es x))

module _ (means : ℕ → FlatName) where
  rows_up : (ds : List (FlatEqn × ℕ)) (rows : List (Row FlatName)) → AreRows means ds rows → AreRows means (map up ds) rows
  rows_up [] [] h = h
  rows_up [] (r ∷ rows) h = absurd h
  rows_up (d ∷ ds) [] h = absurd h
  rows_up (d ∷ ds) (r ∷ rows) h = (record { clock = h.0.clock; restart = h.0.restart; right = h.0.right }, rows_up ds rows h.1)

  rows_down : (ds : List (FlatEqn × ℕ)) (rows : List (Row FlatName)) → AreRows means (map up ds) rows → AreRows means ds rows
  rows_down [] [] h = h
  rows_down [] (r ∷ rows) h = absurd h
  rows_down (d ∷ ds) [] h = absurd h
  rows_down (d ∷ ds) (r ∷ rows) h = (record { clock = h.0.clock; restart = h.0.restart; right = h.0.right }, rows_down ds rows h.1)

  none_down : (ds : List (FlatEqn × ℕ)) → map up ds ≡ [] → ds ≡ []
  none_down [] h = refl
  none_down (d ∷ ds) h = absurd cc

  stand_up : (ds : List (FlatEqn × ℕ)) (a : FlatName) (o : Option (List (Row FlatName))) → StandFor means ds a o → StandFor means (map up ds) a o
  stand_up ds a None h = (ap (map up) h.0, h.1)
  stand_up ds a (Some rows) h = rows_up ds rows h

  stand_down : (ds : List (FlatEqn × ℕ)) (a : FlatName) (o : Option (List (Row FlatName))) → StandFor means (map up ds) a o → StandFor means ds a o
  stand_down ds a None h = (none_down ds h.0, h.1)
  stand_down ds a (Some rows) h = rows_down ds rows h

  stand_alike : (es fs : List FlatEqn) → map unplaced fs ≡ map unplaced es → (x : ℕ) (a : FlatName) (o : Option (List (Row FlatName))) → StandFor means (definitions es x) a o → StandFor means (definitions fs x) a o
  stand_alike es fs same x a o h =
      let whole : map up (definitions es x) ≡ map up (definitions fs x) = sym (definitions_up es x) ∙ ap (λ more. definitions more x) (sym same) ∙ definitions_up fs x in
      stand_down (definitions fs x) a o (subst (λ ds. StandFor means ds a o) whole (stand_up (definitions es x) a o h))

-- what holds of each equation but for its place
module _ (P : FlatEqn → Type 0) (forth : (e : FlatEqn) → P e → P (unplaced e)) (back : (e : FlatEqn) → P (unplaced e) → P e) where
  all_up : (es : List FlatEqn) → AllByRecursion P es → AllByRecursion P (map unplaced es)
  all_up [] h = h
  all_up (e ∷ es) h = (forth e h.0, all_up es h.1)

  all_down : (es : List FlatEqn) → AllByRecursion P (map unplaced es) → AllByRecursion P es
  all_down [] h = h
  all_down (e ∷ es) h = (back e h.0, all_down es h.1)

  all_alike : (es fs : List FlatEqn) → map unplaced fs ≡ map unplaced es → AllByRecursion P es → AllByRecursion P fs
  all_alike es fs same h = all_down fs (subst (AllByRecursion P) (sym same) (all_up es h))

targets_same : (count : List ℕ → ℕ) (e d : FlatEqn) (r : Given) → e.targets ≡ d.targets → HasTargets count e r → HasTargets count d r
targets_same count e d (operator op args) same h = ap length (sym same) ∙ h
targets_same count e d (register first next) same h = ap length (sym same) ∙ h
targets_same count e d (called f args) same h = ap length (sym same) ∙ h

pub equations-alike : (means : ℕ → FlatName) (flat : Flat FlatName) (names : List (List ℕ)) (count : List ℕ → ℕ) (g f : FlatNode) → f.inputs ≡ g.inputs → map unplaced f.eqns ≡ map unplaced g.eqns
    → AreEquationsFor means flat names count g → AreEquationsFor means flat names count f
equations-alike means flat names count g f inputs same h =
    record {
      inputs = ap (λ n. map means (range_with_len 0 n)) inputs ∙ h.inputs;
      variables = λ x le. stand_alike means g.eqns f.eqns same x (means x) (flat (means x)) (h.variables x (subst (λ n. n ≤ x) inputs le));
      targets = all_alike (λ (e : FlatEqn). HasTargets count e e.right) (λ e p. targets_same count e (unplaced e) e.right refl p) (λ e p. targets_same count (unplaced e) e e.right refl p) g.eqns f.eqns same h.targets;
      no_inputs = subst (λ n. AllByRecursion (λ (e : FlatEqn). AllByRecursion (λ x. n ≤ x) e.targets) f.eqns) (sym inputs)
          (all_alike (λ (e : FlatEqn). AllByRecursion (λ x. g.inputs ≤ x) e.targets) (λ e p. p) (λ e p. p) g.eqns f.eqns same h.no_inputs);
    }
