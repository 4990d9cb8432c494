-- The form of a part.
use Rattle.std.proofs.Common.{◌≡◌, ℕ, zero, suc, ◌<◌, ◌≤◌, true, false, List, [], ◌∷◌, map, sym, subst, arith}
use Rattle.std.specs.List.{AllByRecursion, IsDistinct, flat_map}
use Rattle.std.specs.Str.{bytes_eq}
use Rattle.hp_flat.specs.declared.equation.Atom.{Atom}
use Rattle.hp_flat.specs.declared.equation.Atom.TheVariants.{Variable as Read, Value as Fixed}
use Rattle.hp_flat.specs.declared.node.Variable.{Variable}
use Rattle.hp_flat.specs.Equations.{Clock, Right, operator, register, called, FlatEqn}
use Rattle.law_equations.specs.Followed.Premises.{IsOwn, names}
use Rattle.law_equations.specs.Meaning.Fitting.{atom_variables, operands}
use Rattle.law_equations.specs.Meaning.Scheduling.{clock_variables, AreBelow, EqnWithin}
use Rattle.law_choices.specs.Part.Part.{Renumbering, IsRenumbering, renumbered_atom, renumbered_right, renumbered_clock, AreKept, ArePart, AreFewer}
use Rattle.law_choices.specs.Part.Laws.{WithinLaw, NamesLaw}

-- ---- numbers

module _ (r : Renumbering) (is : IsRenumbering r) where
  numbers_below : (xs : List ℕ) → AreKept r xs → AreBelow r.count (map r.number xs)
  numbers_below [] k = tt
  numbers_below (x ∷ xs) k = (is.below x k.0, numbers_below xs k.1)

  clock_below : (clock : Clock) → AreKept r (clock_variables clock) → AreBelow r.count (clock_variables (renumbered_clock r clock))
  clock_below [] k = tt
  clock_below (on ∷ clock) k = (is.below on.0 k.0, clock_below clock k.1)

  args_below : (args : List Atom) → AreKept r (flat_map atom_variables args) → AreBelow r.count (flat_map atom_variables (map (renumbered_atom r) args))
  args_below [] k = tt
  args_below (Read x ∷ args) k = (is.below x k.0, args_below args k.1)
  args_below (Fixed v ∷ args) k = args_below args k

  right_below : (right : Right) → AreKept r (operands right) → AreBelow r.count (operands (renumbered_right r right))
  right_below (operator op args) k = args_below args k
  right_below (register first (Read x)) k = (is.below x k.0, tt)
  right_below (register first (Fixed v)) k = tt
  right_below (called f args) k = args_below args k

  eqns_within : (es fs : List FlatEqn) → ArePart r es fs → AllByRecursion (EqnWithin r.count) fs
  eqns_within es fs (ArePart.no_eqn) = tt
  eqns_within es fs (ArePart.kept_eqn e k p) =
      (record { targets = numbers_below e.targets k.targets; clock = clock_below e.clock k.clock; operands = right_below e.right k.operands; restart = numbers_below e.restart k.restart }, eqns_within _ _ p)
  eqns_within es fs (ArePart.left_eqn e k p) = eqns_within _ _ p

  -- inputs keep their numbers, so there are at least as many
  inputs_below : (inputs : ℕ) → ((x : ℕ) → x < inputs → (r.kept x ≡ true) × (r.number x ≡ x)) → inputs ≤ r.count
  inputs_below zero own = omega arith
  inputs_below (suc k) own =
      let last = own k (omega arith) in
      let low = is.below k last.0 in
      let same = last.1 in
      omega (arith, low, same)

pub within_law : WithinLaw
within_law r n m part w =
    let is = part.renumbering in
    let same = part.inputs in
    let count = part.count in
    let low = inputs_below r is n.inputs part.own_inputs in
    record {
      inputs = omega (arith, same, count, low);
      outputs = subst (λ k. AreBelow k m.outputs) count (subst (AreBelow r.count) (sym part.outputs) (numbers_below r is n.outputs part.outputs_kept));
      eqns = subst (λ k. AllByRecursion (EqnWithin k) m.eqns) count (eqns_within r is n.eqns m.eqns part.eqns);
    }

-- ---- names

pub fewer_hold : (P : List ℕ → Type 0) (vs ws : List Variable) → AreFewer vs ws → AllByRecursion P (names vs) → AllByRecursion P (names ws)
fewer_hold P vs ws (AreFewer.no_element) h = tt
fewer_hold P vs ws (AreFewer.kept_element v f) h = (h.0, fewer_hold P _ _ f h.1)
fewer_hold P vs ws (AreFewer.left_element v f) h = fewer_hold P _ _ f h.1

fewer_differ : (vs ws : List Variable) → AreFewer vs ws → IsDistinct bytes_eq (names vs) → IsDistinct bytes_eq (names ws)
unfolding IsDistinct
fewer_differ vs ws (AreFewer.no_element) h = tt
fewer_differ vs ws (AreFewer.kept_element v f) h = (fewer_hold (λ y. bytes_eq v.name y ≡ false) _ _ f h.0, fewer_differ _ _ f h.1)
fewer_differ vs ws (AreFewer.left_element v f) h = fewer_differ _ _ f h.1

pub names_law : NamesLaw
names_law r n m part differ own = (fewer_differ n.variables m.variables part.variables differ, fewer_hold IsOwn n.variables m.variables part.variables own)
