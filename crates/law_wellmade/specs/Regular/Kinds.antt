-- The kinds of the clocked equations that are made of a program, and what is proved of them.
use Rattle.std.specs.Prelude.{⊤, ◌≡◌, ◌<◌, List, [], ◌++◌, length, map, reverse, Option, None, Some}
use Rattle.std.specs.List.{AllByRecursion}
use Rattle.hp_base.specs.Kinds.{KindData}
use Rattle.hp_obc.specs.Form.{TypesForm}
use Rattle.hp_obc.specs.Machines.{ObcType}
use Rattle.hp_obc.specs.Values.{kind_of}
use Rattle.hp_tree.specs.Blocks.{Decl}
use Rattle.hp_tree.specs.Meaning.{types_of, controls_of}
use Rattle.hp_tree.specs.Programs.{Node}
use Rattle.hp_tree.specs.declared.program.Item.{Item}
use Rattle.hp_meaning.specs.Causal.Runs.{NoControls}
use Rattle.law_judged.specs.Named.Scoped.{EachNode}
use Rattle.law_values.specs.Accepted.Laws.{IsReady}
use Rattle.law_values.specs.Filled.Firsts.{TypesHaveConstructors}
use Rattle.hp_automata.specs.Lowering.{lowered_program}
use Rattle.law_automata.specs.Lowered.Removable.{IsRemovable}
use Rattle.hp_flat.specs.declared.node.FlatTy.{FlatTy}
use Rattle.hp_flat.specs.declared.node.FlatTy.TheVariants as flat
use Rattle.hp_flat.specs.declared.node.Variable.{Variable}
use Rattle.hp_flat.specs.Nodes.{FlatNode}
use Rattle.law_equations.specs.Meaning.Kinding.{kind_of_type, HasValue, Callees, EqnKinds}
use Rattle.hp_toobc.specs.Tables.{type_of}
use Rattle.law_equations.specs.Made.Making.{Known, flat_type, outputs_of}
use Rattle.law_equations.specs.Made.Types.{obc_types}
use Rattle.hp_complete.specs.Declaring.{known_of}
use Rattle.hp_complete.specs.Made.{AreMadeOf}
use Rattle.law_wellmade.specs.Timely.Tested.{AreTested}
use Rattle.law_wellmade.specs.Begun.Laws.{HasFewTypes}
use Rattle.law_wellmade.specs.Spelled.Integers.{NodeShort}

-- what a node takes: its inputs, then its controllable variables; nothing where there is no node
abbrev pub taken_by : Option Node → List Decl
taken_by None = []
taken_by (Some n) = n.inputs ++ controls_of n.contract

-- the kinds of declarations
abbrev pub kinds_of_decls : List ObcType → Known → List Decl → List KindData
kinds_of_decls types k ds = map (λ (d : Decl). kind_of_type types (flat_type k.types d.ty)) ds

-- the kinds of what the nodes of a program take, and of what they give
abbrev pub program_callees : List ObcType → Known → Callees
program_callees types k = record { takes = λ f. kinds_of_decls types k (taken_by (k.nodes f)); gives = λ f. kinds_of_decls types k (outputs_of (k.nodes f)) }

-- the kinds of these nodes agree, where they call nodes that are known
abbrev pub KindsAgree : List ObcType → Known → List FlatNode → Type 0
KindsAgree types k fs = AllByRecursion (λ (f : FlatNode). AllByRecursion (EqnKinds types (program_callees types k) f.variables) f.eqns) fs

-- The kinds of the equations that are made of a ready program without its automata agree, where none of its nodes has a controllable variable and the integers that it writes are of 32 bits:
-- operators get operands of the right kinds, registers next values of the kind of their first ones, calls arguments and targets of the kinds of the node that is called; and what makes an equation begin anew is a truth value.
abbrev pub KindsLaw : Type 0
KindsLaw =
    (program after : List Item) → IsReady program after → IsRemovable after → TypesHaveConstructors (types_of program) → HasFewTypes program
    → AreTested (types_of after) (reverse (lowered_program after)) → EachNode NodeShort after → NoControls after
    → (fs : List FlatNode) → AreMadeOf (known_of (lowered_program after)) (lowered_program after) fs → KindsAgree (obc_types (types_of after)) (known_of (lowered_program after)) fs

-- a type is one of the types that are declared
abbrev pub IsKnownType : List ObcType → FlatTy → Type 0
IsKnownType types (flat.Enum t) = t < length types
IsKnownType types ty = ⊤

-- Each variable of these nodes is of such a type, which has a value.
abbrev pub TypesLaw : Type 0
TypesLaw =
    (program after : List Item) → IsReady program after → IsRemovable after → TypesHaveConstructors (types_of program) → HasFewTypes program → AreTested (types_of after) (reverse (lowered_program after))
    → (fs : List FlatNode) → AreMadeOf (known_of (lowered_program after)) (lowered_program after) fs
    → AllByRecursion (λ (f : FlatNode). AllByRecursion (λ (v : Variable). IsKnownType (obc_types (types_of after)) v.ty × HasValue (obc_types (types_of after)) v.ty) f.variables) fs

-- Where types have form, such a type is found by its name.
abbrev pub FoundLaw : Type 0
FoundLaw = (types : List ObcType) → TypesForm types → (t : FlatTy) → IsKnownType types t → kind_of types (type_of types t) ≡ Some (kind_of_type types t)
