-- The variables that equations name.
use Rattle.std.proofs.Common.{◌≡◌, ℕ, Bool, true, false, ◌||◌, nat_eq, List, [], ◌∷◌, ◌++◌, inl, inr, refl, sym, ap, ◌∙◌}
use Rattle.std.specs.List.{AllByRecursion, flat_map}
use Rattle.std.proofs.lemmas.Bool.{eqb-true, eq-eqb}
use Rattle.hp_flat.specs.declared.equation.Atom.{Atom}
use Rattle.hp_flat.specs.declared.equation.Atom.TheVariants.{Variable, Value as Fixed}
use Rattle.hp_flat.specs.Equations.{Clock, Right, operator, register, called, FlatEqn}
use Rattle.law_equations.specs.Meaning.Fitting.{atom_variables, operands}
use Rattle.law_equations.specs.Meaning.Scheduling.{clock_variables}
use Rattle.hp_toobc.specs.Making.{has_number, atom_variables as variables_of_atom, atoms_variables, clock_variables as variables_of_clock, right_variables, named, is_named}
use Rattle.law_equations.proofs.FewerLemmas.Members.{Among, all_among}
use Rattle.law_equations.proofs.FewerLemmas.SubstituteLaws.{each_append, each_first, each_second}

or_true : (a : Bool) → (a || true) ≡ true
or_true true = refl
or_true false = refl

pub number-among : (xs : List ℕ) (x : ℕ) → Among x xs → has_number xs x ≡ true
number-among [] x a = absurd a
number-among (y ∷ xs) x (inl e) = ap (λ b. b || has_number xs x) (eq-eqb y x (sym e))
number-among (y ∷ xs) x (inr a) = ap (λ b. nat_eq y x || b) (number-among xs x a) ∙ or_true (nat_eq y x)

pub number-in : (xs : List ℕ) (x : ℕ) → has_number xs x ≡ true → Among x xs
number-in [] x h = absurd (cc)
number-in (y ∷ xs) x h = by (nat_eq y x) refl h (number-in xs x)
  where
    by : (d : Bool) → nat_eq y x ≡ d → (d || has_number xs x) ≡ true → (has_number xs x ≡ true → Among x xs) → Among x (y ∷ xs)
    by true e h f = inl (sym (eqb-true y x e))
    by false e h f = inr (f h)

named_by : (es : List FlatEqn) (e : FlatEqn) (x : ℕ) → Among e es → has_number (named e) x ≡ true → is_named es x ≡ true
named_by [] e x a h = absurd a
named_by (d ∷ es) e x (inl s) h = ap (λ b. b || is_named es x) (ap (λ (c : FlatEqn). has_number (named c) x) (sym s) ∙ h)
named_by (d ∷ es) e x (inr a) h = ap (λ b. has_number (named d) x || b) (named_by es e x a h) ∙ or_true (has_number (named d) x)

module _ (P : ℕ → Type 0) where
  clock_each : (clock : Clock) → AllByRecursion P (variables_of_clock clock) → AllByRecursion P (clock_variables clock)
  clock_each [] h = tt
  clock_each (on ∷ clock) h = (h.0, clock_each clock h.1)

  atom_each : (a : Atom) → AllByRecursion P (variables_of_atom a) → AllByRecursion P (atom_variables a)
  atom_each (Variable x) h = h
  atom_each (Fixed v) h = h

  atoms_each : (args : List Atom) → AllByRecursion P (atoms_variables args) → AllByRecursion P (flat_map atom_variables args)
  atoms_each [] h = tt
  atoms_each (a ∷ args) h =
      each_append P (atom_variables a) (flat_map atom_variables args) (atom_each a (each_first P (variables_of_atom a) (atoms_variables args) h)) (atoms_each args (each_second P (variables_of_atom a) (atoms_variables args) h))

  right_each : (r : Right) → AllByRecursion P (right_variables r) → AllByRecursion P (operands r)
  right_each (operator op args) h = atoms_each args h
  right_each (register first next) h = atom_each next h
  right_each (called f args) h = atoms_each args h

  -- what holds of all variables of an equation
  pub record Each (e : FlatEqn) : Type 0 where
    pub targets : AllByRecursion P e.targets
    pub restart : AllByRecursion P e.restart
    pub clock : AllByRecursion P (clock_variables e.clock)
    pub operands_each : AllByRecursion P (operands e.right)

  pub each-named : (e : FlatEqn) → AllByRecursion P (named e) → Each e
  each-named e h =
      let behind = each_second P e.targets (e.restart ++ (variables_of_clock e.clock ++ right_variables e.right)) h in
      let last = each_second P e.restart (variables_of_clock e.clock ++ right_variables e.right) behind in
      record {
        targets = each_first P e.targets (e.restart ++ (variables_of_clock e.clock ++ right_variables e.right)) h;
        restart = each_first P e.restart (variables_of_clock e.clock ++ right_variables e.right) behind;
        clock = clock_each e.clock (each_first P (variables_of_clock e.clock) (right_variables e.right) last);
        operands_each = right_each e.right (each_second P (variables_of_clock e.clock) (right_variables e.right) last);
      }

-- each variable of an equation is named by it, and so by the equations that it is among
pub all-named : (es : List FlatEqn) (e : FlatEqn) → Among e es → Each (λ x. is_named es x ≡ true) e
all-named es e a = each-named (λ x. is_named es x ≡ true) e (all_among (λ x. is_named es x ≡ true) (named e) (λ x b. named_by es e x a (number-among (named e) x b)))
