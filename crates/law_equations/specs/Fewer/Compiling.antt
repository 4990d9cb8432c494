-- From clocked equations with ranks to machines: order, fewer copies, the machine, and its cases joined.
use Rattle.std.specs.Prelude.{◌≡◌, ◌≤◌, ◌^◌, ℕ, List, [], ◌∷◌, length, reverse, Option, Some}
use Rattle.std.specs.List.{AllByRecursion, IsDistinct}
use Rattle.std.specs.List.Sorted.{IsPermutation}
use Rattle.std.specs.Str.{bytes_eq}
use Rattle.hp_base.specs.Kinds.{KindData, AreOfKinds}
use Rattle.hp_base.specs.declared.value.Value.{Value}
use Rattle.hp_obc.specs.Form.{TypesForm}
use Rattle.hp_obc.specs.Machines.{ObcType, Machine}
use Rattle.hp_obc.specs.Steps.{Names, machine_behaviour, run}
use Rattle.hp_flat.specs.declared.equation.Atom.{Atom}
use Rattle.hp_flat.specs.declared.equation.Atom.TheVariants.{Variable as Named}
use Rattle.hp_flat.specs.declared.node.Variable.{Variable}
use Rattle.hp_flat.specs.Equations.{FlatEqn}
use Rattle.hp_flat.specs.Nodes.{FlatNode}
use Rattle.law_equations.specs.Meaning.Reactions.{Answers}
use Rattle.law_equations.specs.Meaning.Scheduling.{IsInOrder, IsRanked, IsWithin, DefinesNoInput}
use Rattle.law_equations.specs.Meaning.Kinding.{Callees, EqnKinds}
use Rattle.hp_normal.specs.Reading.{copy_of}
use Rattle.hp_normal.specs.Retargeting.{with_eqns}
use Rattle.hp_normal.specs.Normal.{normal}
use Rattle.hp_toobc.specs.Making.{machine_of}
use Rattle.hp_toobc.specs.Tables.{variable_type}
use Rattle.hp_fuse.specs.Fusing.{fused_machine}
use Rattle.law_equations.specs.Followed.Premises.{IsOwn, names, EqnForm, NodeForm}
use Rattle.law_equations.specs.Followed.Programs.{CallsOnly, Answered, file_of, all_answers}
use Rattle.law_equations.specs.Fewer.Keeping.{KeepsReactions}

-- where a variable is copied, the copy has its type
abbrev pub CopyAgrees : List Variable → Option (ℕ × Atom) → Type 0
CopyAgrees variables (Some (x, Named y)) = variable_type variables x ≡ variable_type variables y
CopyAgrees variables copy = Unit {0}

-- so it is of all equations that copy
abbrev pub CopiesAgree : List Variable → List FlatEqn → Type 0
CopiesAgree variables es = AllByRecursion (λ (e : FlatEqn). CopyAgrees variables (copy_of e)) es

-- What is asked of a node with ranks.
pub record FlatForm (types : List ObcType) (n : FlatNode) : Type 0 where
  pub within : IsWithin n
  pub no_inputs : DefinesNoInput n
  pub ranked : IsRanked n.eqns
  pub eqns : AllByRecursion (EqnForm types n.variables) n.eqns
  pub copies : CopiesAgree n.variables n.eqns
  pub names_differ : IsDistinct bytes_eq (names n.variables)
  pub names_own : AllByRecursion IsOwn (names n.variables)
  pub few : length n.eqns ≤ 10 ^ 13

-- Where kinds agree and types have form, copies have the types of what they copy, clocks name constructors, and constants are told.
abbrev pub KindsLaw : Type 0
KindsLaw =
    (types : List ObcType) (callees : Callees) (variables : List Variable) (es : List FlatEqn) → TypesForm types → AllByRecursion (EqnKinds types callees variables) es
    → AllByRecursion (EqnForm types variables) es × CopiesAgree variables es

-- What a machine is made of: the equations in the order of their ranks, without needless choices and copies and what nothing needs. It is as the machine asks for, and reactions remain.
abbrev pub PassedLaw : Type 0
PassedLaw =
    (types : List ObcType) (n : FlatNode) (scheduled : List FlatEqn) → FlatForm types n → IsPermutation n.eqns scheduled → IsInOrder scheduled
    → NodeForm types (normal (with_eqns n scheduled)) × KeepsReactions n (normal (with_eqns n scheduled))

-- ---- programs

-- each node has what is asked, and calls nodes before it
abbrev pub AreFlatNodes : List ObcType → List (List ℕ) → List FlatNode → Type 0
AreFlatNodes types earlier [] = Unit {0}
AreFlatNodes types earlier (n ∷ ns) = FlatForm types n × CallsOnly earlier n.eqns × AreFlatNodes types (n.name ∷ earlier) ns

-- A machine is made of a node: equations are put into the order of their ranks, needless choices and copies and what nothing needs taken out, commands made, and neighbouring cases joined.
pub record IsCompiled (types : List ObcType) (n : FlatNode) (m : Machine) : Type 0 where
  pub scheduled : List FlatEqn
  pub same : IsPermutation n.eqns scheduled
  pub order : IsInOrder scheduled
  pub made : m ≡ fused_machine (machine_of types (normal (with_eqns n scheduled)))

-- there is one for each node, in order
abbrev pub AreCompiled : List ObcType → List FlatNode → List Machine → Type 0
AreCompiled types [] [] = Unit {0}
AreCompiled types (n ∷ ns) (m ∷ ms) = IsCompiled types n m × AreCompiled types ns ms
AreCompiled types ns ms = ⊥

-- Each machine of the file gives, on inputs of the kinds, oldest first, what its node answers by its reactions.
abbrev pub CompiledLaw : Type 0
CompiledLaw =
    (types : List ObcType) (ns : List FlatNode) (ms : List Machine) (answers : Answers) (takes : Names (List KindData)) → AreFlatNodes types [] ns → AreCompiled types ns ms → AllByRecursion (Answered answers takes) ns
    → AllByRecursion (λ (n : FlatNode). (inputs : List (List Value)) → AllByRecursion (AreOfKinds (takes n.name)) inputs
    → run (machine_behaviour (file_of types ms) n.name) (reverse inputs) ≡ reverse (all_answers (answers n.name) inputs)) ns
