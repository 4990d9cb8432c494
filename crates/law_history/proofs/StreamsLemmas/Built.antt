-- Nothing is in the way of the machines of an accepted program, and they are within the limits of what is executed.
use Rattle.std.proofs.Common.{◌≡◌, ℕ, List, [], ◌∷◌, map, reverse, sym, ap, subst, arith}
use Rattle.std.specs.List.{AllByRecursion}
use Rattle.hp_lexer.specs.declared.token.Token.{Token}
use Rattle.hp_obc.specs.Form.{TypesForm, HasObcForm}
use Rattle.hp_obc.specs.Machines.{ObcType, Machine}
use Rattle.hp_tree.specs.Meaning.{types_of, nodes}
use Rattle.hp_tree.specs.Operators.{filled}
use Rattle.hp_tree.specs.Programs.{Node}
use Rattle.hp_tree.specs.declared.program.Item.TheVariants.{TypeItem, NodeItem}
use Rattle.hp_tree.specs.declared.program.Item.{Item}
use Rattle.hp_meaning.specs.Causal.Runs.{NoControls}
use Rattle.law_judged.specs.Named.Scoped.{EachNode}
use Rattle.hp_expand.specs.Numbering.{replaced}
use Rattle.law_values.specs.Accepted.Laws.{IsReady, ReadyTextLaw}
use Rattle.law_automata.specs.Lowerable.Laws.{RemovableTextLaw}
use Rattle.law_automata.proofs.LowerableLemmas.Texts.{clocked_of}
use Rattle.law_automata.specs.Lowered.Removable.{IsRemovable}
use Rattle.law_values.specs.Filled.Firsts.{TypesHaveConstructors}
use Rattle.law_values.specs.Filled.Laws.{TextTypesLaw}
use Rattle.law_wellmade.specs.Begun.Laws.{HasFewTypes, FewTypesLaw}
use Rattle.hp_automata.specs.Lowering.{enumerations, lowered_program}
use Rattle.hp_flat.specs.declared.node.Variable.{Variable}
use Rattle.hp_flat.specs.Nodes.{FlatNode}
use Rattle.law_equations.specs.Meaning.Kinding.{HasValue}
use Rattle.law_equations.specs.Made.Blocks.{IsPlain}
use Rattle.law_automata.specs.Readied.Laws.{IsWhole}
use Rattle.law_equations.specs.Made.Types.{obc_types, obc_types_of}
use Rattle.hp_complete.specs.Declaring.{known_of}
use Rattle.hp_complete.specs.KnownLaw.{KnownLaw}
use Rattle.hp_complete.specs.Made.{AreMadeOf, HasCircle}
use Rattle.hp_form.specs.Regular.Regular.{EqnsRegular}
use Rattle.law_wellmade.specs.Suited.Suited.{SuitedLaw}
use Rattle.law_wellmade.specs.Timely.Tested.{AreTested}
use Rattle.law_wellmade.specs.Acyclic.Laws.{NoCircleLaw}
use Rattle.law_wellmade.specs.Spelled.Integers.{NodeShort}
use Rattle.law_wellmade.specs.Spelled.Laws.{ReplacedTextIntegersLaw}
use Rattle.law_wellmade.specs.Regular.Laws.{RegularLaw, ClocksLaw}
use Rattle.law_wellmade.specs.Regular.Kinds.{program_callees, KindsLaw, IsKnownType, TypesLaw}
use Rattle.law_wellmade.specs.Lettered.Laws.{MachineNamesLaw, MachineTypesLaw}
use Rattle.law_wellmade.specs.Nested.Laws as nested
use Rattle.law_history.specs.Counted.Laws.{FewLaw}
use Rattle.law_wellmade.specs.Parted.Laws as parted
use Rattle.law_equations.specs.Shaped.Shaped.{DefineApart}
use Rattle.law_equations.specs.Shaped.Laws.{KeptLaw, ProgramFormLaw}
use Rattle.hp_machines.specs.Making.{AreMade, giving}
use Rattle.hp_machines.specs.NotBuilt.{AreEquations, HasNoMachines}
use Rattle.law_history.specs.Streams.Texts.{IsAccepted, BuiltLaw, WithinLaw}
use Rattle.law_history.proofs.StreamsLemmas.MadeMachines.{are_compiled, are_regular, have_few, placed_nodes}
use Rattle.law_history.proofs.StreamsLemmas.NoCircles.{prepared_no_circle}
use Rattle.law_history.proofs.StreamsLemmas.NodeRuns.{Prepared}
use Rattle.law_history.proofs.StreamsLemmas.PlacedShapes.{placed_shaped, whole_made, whole_nodes}
use Rattle.law_history.proofs.StreamsLemmas.ProgramTypes.{program_known}
use Rattle.law_history.proofs.StreamsLemmas.Readiness.{ReadyLaws, types_lowered, prepared}
use Rattle.law_history.proofs.StreamsLemmas.Shapes.{AreKnown, have_shape}
use Rattle.law_history.proofs.StreamsLemmas.Texts.{none_controlled}

-- the laws that are joined here
pub record WayLaws : Type 0 where
  pub ready : ReadyLaws
  pub ready_text : ReadyTextLaw
  pub removable_text : RemovableTextLaw
  pub types_text : TextTypesLaw
  pub few_types : FewTypesLaw
  pub known : KnownLaw
  pub suited : SuitedLaw
  pub no_circle : NoCircleLaw
  pub short_text : ReplacedTextIntegersLaw
  pub short_clocked : ClocksLaw
  pub regular : RegularLaw
  pub kinds : KindsLaw
  pub variables : TypesLaw
  pub names : MachineNamesLaw
  pub types : MachineTypesLaw
  pub clocks : nested.TextLaw
  pub apart : parted.ProgramLaw
  pub kept : KeptLaw
  pub form : ProgramFormLaw

values_alone : (types : List ObcType) (vs : List Variable) → AllByRecursion (λ (v : Variable). IsKnownType types v.ty × HasValue types v.ty) vs → AllByRecursion (λ (v : Variable). HasValue types v.ty) vs
values_alone types [] h = tt
values_alone types (v ∷ vs) h = (h.0.1, values_alone types vs h.1)

all_values : (types : List ObcType) (fs : List FlatNode) → AllByRecursion (λ (f : FlatNode). AllByRecursion (λ (v : Variable). IsKnownType types v.ty × HasValue types v.ty) f.variables) fs
    → AllByRecursion (λ (f : FlatNode). AllByRecursion (λ (v : Variable). HasValue types v.ty) f.variables) fs
all_values types [] h = tt
all_values types (f ∷ fs) h = (values_alone types f.variables h.0, all_values types fs h.1)

all_plain : (items : List Item) → EachNode IsWhole items → EachNode (λ (n : Node). IsPlain n.body) items
all_plain [] h = tt
all_plain (TypeItem t ∷ items) h = all_plain items h
all_plain (NodeItem n ∷ items) h = let whole = h.0 in (whole.plain, all_plain items h.1)

module _ (laws : WayLaws) (text : List ℕ) (tokens : List Token) (program after : List Item) (ranks : List (List ℕ)) (a : IsAccepted text tokens program after ranks) where
  abbrev low : List Item
  low = lowered_program after

  abbrev types : List ObcType
  types = obc_types_of after

  is_ready : IsReady program after
  is_ready = laws.ready_text text tokens program after a.spelled a.read a.named a.typed a.defined a.formed a.initialised a.clocks

  removable : IsRemovable after
  removable = laws.removable_text text tokens program after a.spelled a.read a.named a.typed a.defined a.formed a.initialised a.clocks

  full : TypesHaveConstructors (types_of program)
  full = laws.types_text text tokens program a.spelled a.read

  few_types : HasFewTypes program
  few_types = laws.few_types text tokens program a.spelled a.read

  uncontrolled : NoControls after
  uncontrolled = none_controlled program after a.clocks a.uncontrolled

  is_prepared : Prepared low
  is_prepared = prepared laws.ready program after ranks is_ready removable a.fall uncontrolled full few_types

  same_types : types_of low ≡ types_of after
  same_types = types_lowered (enumerations [] after) after

  form_low : TypesForm (obc_types_of low)
  form_low = laws.types text tokens program after a.spelled a.read a.named a.clocks

  tested : AreTested (types_of after) (reverse low)
  tested = let p = is_prepared in subst (λ ts. AreTested ts (reverse low)) same_types p.tested

  short : EachNode NodeShort after
  short = laws.short_clocked (replaced program) after (clocked_of (replaced program) after a.clocks) (laws.short_text text tokens program a.spelled a.read)

  -- ---- no circle

  not_circular : HasCircle (known_of low) low → ⊥
  not_circular circle = prepared_no_circle laws.no_circle laws.known low is_prepared form_low circle

  -- ---- regular equations

  module _ (fs : List FlatNode) (equations : AreEquations after fs) where
    all_regular : AllByRecursion (EqnsRegular types) fs
    all_regular = laws.regular program after is_ready removable full few_types tested short fs equations.made

    apart_of : (gs : List FlatNode) → AreMadeOf (known_of low) low gs → AllByRecursion (λ (f : FlatNode). DefineApart f.eqns) gs
    apart_of gs made =
        let p = is_prepared in
        laws.apart (types_of low) (nodes (types_of low) filled (reverse low)).outputs (known_of low) low gs (program_known low form_low laws.known p.named) p.distinct (all_plain low p.whole) p.tested made

    all_apart : AllByRecursion (λ (f : FlatNode). DefineApart f.eqns) fs
    all_apart = apart_of fs equations.made

    -- ---- machines with form

    module _ (ms : List Machine) (made : AreMade types fs ms) where
      shown : AreKnown types (known_of low) fs
      shown = record {
        regular = are_regular types fs ms made;
        few = have_few types fs ms made;
        kinds = laws.kinds program after is_ready removable full few_types tested short uncontrolled fs equations.made;
        values = all_values types fs (laws.variables program after is_ready removable full few_types tested fs equations.made);
        apart = all_apart;
        short = laws.clocks text tokens program after (known_of low) fs a.spelled a.read a.named a.typed a.defined a.formed a.initialised a.clocks equations.made;
      }

      has_form : HasObcForm types ms
      has_form =
          let same : obc_types_of low ≡ types = ap obc_types same_types in
          let obc = obc_types_of low in
          let callees = program_callees obc (known_of low) in
          let made_low : AreMade obc fs ms = subst (λ ts. AreMade ts fs ms) (sym same) made in
          let shape = have_shape laws.suited laws.kept laws.known low is_prepared form_low (laws.names text tokens program after a.spelled a.read a.clocks) fs equations.made equations.flat (subst (λ ts. AreKnown ts (known_of low) fs) (sym same) shown) in
          let whole = whole_made obc callees (known_of low) low [] fs ms made_low shape equations.made in
          let apart = apart_of (whole_nodes obc callees fs ms made_low) whole in
          subst (λ ts. HasObcForm ts ms) same
          (laws.form obc callees (placed_nodes obc fs ms made_low) ms form_low (placed_shaped obc callees [] fs ms made_low apart shape) (are_compiled obc fs ms made_low))

  built : HasNoMachines after → ⊥
  built (HasNoMachines.circular circle) = not_circular circle
  built (HasNoMachines.irregular fs equations none) = none (all_regular fs equations)
  built (HasNoMachines.formless fs ms equations made none) = none (has_form fs equations ms made)

pub way_is_built : WayLaws → BuiltLaw
way_is_built laws text tokens program after ranks a none = built laws text tokens program after ranks a none

pub within_limits : FewLaw → WithinLaw
within_limits law text tokens program after ranks o a machines f =
    let few = law text tokens program after o a.spelled a.read a.named a.typed a.defined a.formed a.initialised a.clocks machines f in
    let chain = few.0 in
    let count = few.1 in
    (omega (arith, chain), omega (arith, count))
