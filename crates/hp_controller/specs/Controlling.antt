-- The controller of a Boolean machine.
use Rattle.std.specs.Prelude.{◌≡◌, ⊤, ◌+◌, ◌≤◌, ◌^◌, nat_eq, List, [], ◌++◌, length, map, codes}
use Rattle.std.specs.List.{AllByRecursion, IsDistinct, range_with_len}
use Rattle.hp_base.specs.declared.value.Value.TheVariants.{B}
use Rattle.hp_boolx.specs.Machine.{Machine, game}
use Rattle.hp_boolx.specs.Search.{Bits}
use Rattle.hp_boolx.specs.Solved.{IsChoice}
use Rattle.hp_obc.specs.Machines.{ObcType}
use Rattle.hp_flat.specs.Equations.{Right, operator, register, called, FlatEqn}
use Rattle.hp_flat.specs.declared.node.FlatTy.TheVariants.{Bool}
use Rattle.hp_flat.specs.declared.node.Variable.{Variable}
use Rattle.hp_flat.specs.Nodes.{FlatNode}
use Rattle.law_equations.specs.Meaning.Instants.{Instant}
use Rattle.law_equations.specs.Meaning.Reactions.{Answers, Continues, outputs_at}
use Rattle.law_equations.specs.Meaning.Kinding.{Callees, IsWellMade}
use Rattle.law_equations.specs.Meaning.Scheduling.{IsWithin}
use Rattle.law_equations.specs.Meaning.Solving.{IsExclusive}
use Rattle.hp_controller.specs.Controllers.{bit_variable}

-- an operator, which remembers nothing and asks no node
abbrev pub IsOperator : Right → Type 0
IsOperator (operator op args) = ⊤
IsOperator (register first next) = ⊥
IsOperator (called f args) = ⊥

-- The node is the controller of the machine: it is named after it, has truth values alone, which are named by their numbers, takes the registers and the early bits, gives so many as there are control bits, remembers nothing, and gives its choice at each state and all early values.
pub record IsController (m : Machine) (node : FlatNode) : Type 0 where
  pub name : node.name ≡ m.name ++ codes "$ctl"
  pub bits : AllByRecursion (λ (x : Variable). x.ty ≡ Bool) node.variables
  pub numbered : node.variables ≡ map bit_variable (range_with_len 0 (length node.variables))
  -- there are no more than a machine's words tell apart
  pub few : length node.variables ≤ 2 ^ 64
  pub inputs : node.inputs ≡ m.registers + m.early
  pub outputs : length node.outputs ≡ length m.prefer
  pub within : IsWithin node
  -- its outputs are no inputs, and each stands once
  pub outputs_behind : AllByRecursion (λ x. node.inputs ≤ x) node.outputs
  pub outputs_differ : IsDistinct nat_eq node.outputs
  -- each equation is there always, and no two define one variable
  pub always : AllByRecursion (λ (e : FlatEqn). e.clock ≡ []) node.eqns
  pub exclusive : (now : Instant) → IsExclusive now node.eqns
  pub stateless : AllByRecursion (λ (e : FlatEqn). IsOperator e.right) node.eqns
  pub well_made : (types : List ObcType) (callees : Callees) → IsWellMade types callees node
  pub gives : (answers : Answers) (past : List Instant) (r u : Bits) (now : Instant) → length r ≡ m.registers → length u ≡ m.early → Continues answers node past (map (λ b. B b) (r ++ u)) now
      → (c : Bits) × IsChoice (game m) r u c × (outputs_at node now ≡ map (λ b. B b) c)
