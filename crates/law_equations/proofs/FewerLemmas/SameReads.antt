-- What is read alike at two instants: right sides and clocks that fit.
use Rattle.std.proofs.Common.{◌≡◌, ◌≤◌, ℕ, Bool, true, false, List, [], ◌∷◌, ◌++◌, refl, sym, ap, subst, ◌∙◌, arith}
use Rattle.std.specs.List.{AllByRecursion, flat_map}
use Rattle.hp_base.specs.Kinds.{KindData, AreOfKinds}
use Rattle.hp_base.specs.declared.value.Value.{Value}
use Rattle.hp_base.specs.declared.value.Value.TheVariants.{Absent}
use Rattle.hp_obc.specs.Steps.{Names}
use Rattle.hp_flat.specs.declared.equation.Atom.{Atom}
use Rattle.hp_flat.specs.declared.equation.Atom.TheVariants.{Variable, Value as Fixed}
use Rattle.hp_flat.specs.Equations.{Clock, Right, operator, register, called, FlatEqn}
use Rattle.law_equations.specs.Meaning.Instants.{Instant, has_constructor, atom, atoms}
use Rattle.law_equations.specs.Meaning.Fitting.{is_there, is_choice, ClockFits, atom_variables, operands, IsTaken}
use Rattle.law_equations.specs.Meaning.Scheduling.{clock_variables}
use Rattle.hp_normal.specs.Reading.{count, eqn_reads, atom_variables as variables_of, operands as operands_of}
use Rattle.hp_normal.proofs.CopyLaws.{left-more, right-more}
use Rattle.law_equations.proofs.FewerLemmas.AlikeLaws.{Same, RightAlike}

atoms_as : (a : Atom) → variables_of a ≡ atom_variables a
atoms_as (Variable x) = refl
atoms_as (Fixed v) = refl

pub operands-as : (r : Right) → operands_of r ≡ operands r
operands-as (operator op args) = λ i. flat_map (λ a. atoms_as a i) args
operands-as (register first next) = atoms_as next
operands-as (called f args) = λ i. flat_map (λ a. atoms_as a i) args

-- an equation reads its clock, its operands and its restart list
pub clock-read : (e : FlatEqn) (z : ℕ) → 1 ≤ count z (clock_variables e.clock) → 1 ≤ count z (eqn_reads e)
clock-read e z h = omega (arith, h, left-more z (clock_variables e.clock) (operands_of e.right ++ e.restart))

pub operands-read : (e : FlatEqn) (z : ℕ) → 1 ≤ count z (operands e.right) → 1 ≤ count z (eqn_reads e)
operands-read e z h =
    omega (arith, h, ap (count z) (operands-as e.right), left-more z (operands_of e.right) e.restart, right-more z (clock_variables e.clock) (operands_of e.right ++ e.restart))

pub restart-read : (e : FlatEqn) (z : ℕ) → 1 ≤ count z e.restart → 1 ≤ count z (eqn_reads e)
restart-read e z h = omega (arith, h, right-more z (operands_of e.right) e.restart, right-more z (clock_variables e.clock) (operands_of e.right ++ e.restart))

module _ (i j : Instant) where
  atom-same : (a : Atom) → AllByRecursion (Same i j) (atom_variables a) → atom j a ≡ atom i a
  atom-same (Variable x) h = h.0
  atom-same (Fixed v) h = refl

  atoms-same : (args : List Atom) → AllByRecursion (Same i j) (flat_map atom_variables args) → atoms j args ≡ atoms i args
  atoms-same [] h = refl
  atoms-same (Variable x ∷ args) h = λ k. h.0 k ∷ atoms-same args h.1 k
  atoms-same (Fixed v ∷ args) h = λ k. v ∷ atoms-same args h k

  -- a right side whose operands have the same values reads the same
  pub right-same : (r : Right) → AllByRecursion (Same i j) (operands r) → RightAlike i j r r
  right-same (operator op args) h = (refl, atoms-same args h)
  right-same (register first next) h = (refl, atom-same next h)
  right-same (called f args) h = (refl, atoms-same args h)

  -- and takes the same
  pub taken-alike : (takes : Names (List KindData)) (r r2 : Right) → RightAlike i j r r2 → IsTaken takes i r → IsTaken takes j r2
  taken-alike takes (operator op args) (operator op2 args2) a h = tt
  taken-alike takes (register first next) (register first2 next2) a h = tt
  taken-alike takes (called f args) (called f2 args2) a h = subst (λ (vs : List Value). AreOfKinds (takes f2) vs) (sym a.1) (subst (λ (h : List ℕ). AreOfKinds (takes h) (atoms i args)) (sym a.0) h)
  taken-alike takes (operator op args) (register first2 next2) a h = tt
  taken-alike takes (operator op args) (called f2 args2) a h = absurd a
  taken-alike takes (register first next) (operator op2 args2) a h = tt
  taken-alike takes (register first next) (called f2 args2) a h = absurd a
  taken-alike takes (called f args) (operator op2 args2) a h = tt
  taken-alike takes (called f args) (register first2 next2) a h = tt

  pub clock-fits-same : (clock : Clock) → AllByRecursion (Same i j) (clock_variables clock) → ClockFits clock i → ClockFits clock j
  clock-fits-same [] h f = tt
  clock-fits-same (on ∷ clock) h f = (ap is_choice h.0 ∙ f.0, λ t. clock-fits-same clock h.1 (f.1 (ap (has_constructor on.1) (sym h.0) ∙ t)))

pub absent-by : (v : Value) → is_there v ≡ false → v ≡ Absent
absent-by Absent h = refl
absent-by v h = absurd (cc)

pub choice-there : (v : Value) → is_choice v ≡ true → is_there v ≡ true
choice-there Absent h = absurd (cc)
choice-there v h = refl

pub not-both : (a : Bool) → a ≡ true → a ≡ false → ⊥
not-both a t f = cc
