-- Equations that nothing needs: an operator's whose variables neither an output, nor a register, nor a call reads, itself or by other equations.
-- Source: the elimination of dead code, as in Leroy: Formal verification of a realistic compiler (Communications of the ACM, 2009).
use Rattle.std.specs.Prelude.{◌≡◌, ◌⊎◌, ◌<◌, ◌≤◌, ℕ, Bool, true, false, ◌&&◌, not, if◌then◌else◌, List, [], ◌∷◌, ◌++◌, length}
use Rattle.std.specs.List.{AllByRecursion, filter, flat_map}
use Rattle.hp_flat.specs.Equations.{Right, operator, register, called, FlatEqn}
use Rattle.hp_flat.specs.Nodes.{FlatNode}
use Rattle.hp_normal.specs.Reading.{count, eqn_reads, occurs}
use Rattle.hp_normal.specs.Retargeting.{with_eqns}

-- a register has a memory and a call an instance, which stay
abbrev pub is_operator : Right → Bool
is_operator (operator op args) = true
is_operator (register first next) = false
is_operator (called f args) = false

-- what an equation reads that stays whoever reads it
abbrev pub held_reads : FlatEqn → List ℕ
held_reads e = if is_operator e.right then [] else eqn_reads e

-- what is needed whatever else is: the outputs, and what registers and calls read
abbrev pub roots : FlatNode → List ℕ
roots n = n.outputs ++ flat_map held_reads n.eqns

-- variables of a node none of which is among some numbers
abbrev pub are_absent : FlatNode → List ℕ → List ℕ → Bool
are_absent n xs [] = true
are_absent n xs (y ∷ ys) = occurs n 0 xs y && are_absent n xs ys

-- an operator's equation defines nothing that is among what is needed
abbrev pub is_idle : FlatNode → List ℕ → FlatEqn → Bool
is_idle n xs e = is_operator e.right && are_absent n xs e.targets

-- What is needed at the end of some equations, the last one first: an equation that is not idle needs what it reads.
abbrev pub needed : FlatNode → List FlatEqn → List ℕ
needed n [] = roots n
needed n (e ∷ es) = if is_idle n (needed n es) e then needed n es else needed n es ++ eqn_reads e

-- equations without those of a kind
abbrev pub without : (FlatEqn → Bool) → List FlatEqn → List FlatEqn
without is_out es = filter (λ e. not (is_out e)) es

-- the node without its idle equations
abbrev pub pruned : FlatNode → FlatNode
pruned n = with_eqns n (without (is_idle n (needed n n.eqns)) n.eqns)

-- ---- what is left

-- an equation is among others
abbrev pub IsAmong : FlatEqn → List FlatEqn → Type 0
IsAmong e [] = ⊥
IsAmong e (d ∷ ds) = (e ≡ d) ⊎ IsAmong e ds

-- The least set of variables that has the outputs, what registers and calls read, and what an equation reads that defines one of it.
pub data IsNeeded (n : FlatNode) : ℕ → Type 0 where
  by_output : {x : ℕ} → 1 ≤ count x n.outputs → IsNeeded n x
  by_held : {x : ℕ} (e : FlatEqn) → IsAmong e n.eqns → is_operator e.right ≡ false → 1 ≤ count x (eqn_reads e) → IsNeeded n x
  by_eqn : {x : ℕ} (y : ℕ) (e : FlatEqn) → IsNeeded n y → IsAmong e n.eqns → 1 ≤ count y e.targets → 1 ≤ count x (eqn_reads e) → IsNeeded n x

-- an equation is a register's or a call's, or it defines something that is needed
abbrev pub EqnNeeded : FlatNode → FlatEqn → Type 0
EqnNeeded n e = (is_operator e.right ≡ false) ⊎ ((x : ℕ) × (1 ≤ count x e.targets) × IsNeeded n x)

-- Where equations define variables of the node, each that is left is needed by others that are left.
abbrev pub NeededLaw : FlatNode → Type 0
NeededLaw n = AllByRecursion (λ (e : FlatEqn). AllByRecursion (λ x. x < length n.variables) e.targets) n.eqns → AllByRecursion (EqnNeeded (pruned n)) (pruned n).eqns
