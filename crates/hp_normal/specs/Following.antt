-- What stands for what, in nodes whose copies stand behind what they copy.
use Rattle.std.specs.Prelude.{◌≡◌, ◌≤◌, ℕ, true, List, [], ◌∷◌, ◌++◌, Option, None, Some, ◌⊎◌}
use Rattle.std.specs.List.{flat_map}
use Rattle.hp_flat.specs.declared.equation.Atom.{Atom}
use Rattle.hp_flat.specs.declared.equation.Atom.TheVariants.{Variable}
use Rattle.hp_flat.specs.Equations.{Right, operator, register, called, FlatEqn}
use Rattle.hp_flat.specs.Nodes.{FlatNode}
use Rattle.hp_normal.specs.Reading.{count, atom_variables, clock_variables, copy_of}
use Rattle.hp_normal.specs.Retargeting.{moved, ends}
use Rattle.hp_normal.specs.Substituting.{Meanings, read, may_stand, meanings}

abbrev pub defined : List FlatEqn → List ℕ
defined es = flat_map (λ (e : FlatEqn). e.targets) es

-- what is copied is defined by none of some equations
abbrev pub IsUndefined : List FlatEqn → Option (ℕ × Atom) → Type 0
IsUndefined es (Some (x, Variable y)) = count y (defined es) ≡ 0
IsUndefined es copy = Unit {0}

-- What an equation copies is defined neither by itself nor by a later one.
abbrev pub CopiesAreBehind : List FlatEqn → Type 0
CopiesAreBehind [] = Unit {0}
CopiesAreBehind (e ∷ es) = IsUndefined (e ∷ es) (copy_of e) × CopiesAreBehind es

-- ---- which variable is defined in place of each

-- a variable and the one whose equation can define it have one end
abbrev pub HaveOneEnd : (ℕ → ℕ) → Option (ℕ × ℕ) → Type 0
HaveOneEnd r (Some (x, y)) = r y ≡ r x
HaveOneEnd r None = Unit {0}

abbrev pub AllHaveOneEnd : FlatNode → (ℕ → ℕ) → List FlatEqn → Type 0
AllHaveOneEnd n r [] = Unit {0}
AllHaveOneEnd n r (e ∷ es) = HaveOneEnd r (moved n e) × AllHaveOneEnd n r es

-- a copy because of which a variable is defined under another name
abbrev pub MovesBy : (ℕ → ℕ) → ℕ → Option (ℕ × ℕ) → Type 0
MovesBy r z (Some (x, y)) = (y ≡ z) × (r z ≡ r x)
MovesBy r z None = ⊥

abbrev pub Moves : FlatNode → (ℕ → ℕ) → ℕ → List FlatEqn → Type 0
Moves n r z [] = ⊥
Moves n r z (e ∷ es) = MovesBy r z (moved n e) ⊎ Moves n r z es

pub record EndsAre (n : FlatNode) (r : ℕ → ℕ) : Type 0 where
  -- each copy that can go leads to one end
  pub all : AllHaveOneEnd n r n.eqns
  -- and nothing else changes a variable
  pub each : (z : ℕ) → (r z ≡ z) ⊎ Moves n r z n.eqns
  -- an end is its own end
  pub ended : (z : ℕ) → r (r z) ≡ r z

-- ---- what each variable stands for

-- a variable that may stand for what is copied stands for it
abbrev pub StandsFor : FlatNode → Meanings → Option (ℕ × Atom) → Type 0
StandsFor n s (Some (x, a)) = may_stand n x (read s a) ≡ true → s x ≡ read s a
StandsFor n s None = Unit {0}

abbrev pub AllStand : FlatNode → Meanings → List FlatEqn → Type 0
AllStand n s [] = Unit {0}
AllStand n s (e ∷ es) = StandsFor n s (copy_of e) × AllStand n s es

-- a copy because of which a variable stands for something else
abbrev pub StandsBy : FlatNode → Meanings → ℕ → Option (ℕ × Atom) → Type 0
StandsBy n s z (Some (x, a)) = (x ≡ z) × ((may_stand n z (s z) ≡ true) × (s z ≡ read s a))
StandsBy n s z None = ⊥

abbrev pub Stands : FlatNode → Meanings → ℕ → List FlatEqn → Type 0
Stands n s z [] = ⊥
Stands n s z (e ∷ es) = StandsBy n s z (copy_of e) ⊎ Stands n s z es

pub record MeaningsAre (n : FlatNode) (s : Meanings) : Type 0 where
  -- each copy of a variable that may stand for something is followed
  pub all : AllStand n s n.eqns
  -- and nothing else changes a variable
  pub each : (z : ℕ) → (s z ≡ Variable z) ⊎ Stands n s z n.eqns
  -- what a variable stands for stands for itself
  pub ended : (z : ℕ) → read s (s z) ≡ s z

-- ---- both, of nodes whose copies stand behind what they copy

abbrev pub EndsLaw : FlatNode → Type 0
EndsLaw n = CopiesAreBehind n.eqns → EndsAre n (ends n n.eqns)

abbrev pub MeaningsLaw : FlatNode → Type 0
MeaningsLaw n = CopiesAreBehind n.eqns → MeaningsAre n (meanings n n.eqns (λ x. Variable x))

-- ---- order

-- what gives values reads at its place: all but a next value
abbrev pub needs : Right → List ℕ
needs (operator op args) = flat_map atom_variables args
needs (register first next) = []
needs (called f args) = flat_map atom_variables args

abbrev pub eqn_needs : FlatEqn → List ℕ
eqn_needs e = clock_variables e.clock ++ (needs e.right ++ e.restart)

-- What an equation reads at its place is defined neither by itself nor by a later one.
abbrev pub AreBehind : List FlatEqn → Type 0
AreBehind [] = Unit {0}
AreBehind (e ∷ es) = ((x : ℕ) → 1 ≤ count x (eqn_needs e) → count x (defined (e ∷ es)) ≡ 0) × AreBehind es
