-- The clocked equations of a program are regular, and their kinds agree.
use Rattle.std.proofs.Common.{◌≡◌, ℕ, Bool, true, false, if◌then◌else◌, List, [], ◌∷◌, map, Option, None, Some, refl, sym, subst, ◌∙◌}
use Rattle.std.specs.Prelude.{option_map}
use Rattle.std.specs.List.{AllByRecursion}
use Rattle.std.specs.Str.{bytes_eq}
use Rattle.hp_obc.specs.Machines.{ObcType}
use Rattle.hp_tree.specs.declared.program.Item.{Item}
use Rattle.hp_tree.specs.declared.program.Item.TheVariants.{TypeItem, NodeItem}
use Rattle.hp_tree.specs.Programs.{Contract, Node}
use Rattle.hp_tree.specs.Meaning.{types_of, controls_of}
use Rattle.hp_meaning.specs.Causal.Runs.{NoControls}
use Rattle.law_judged.specs.Named.Scoped.{EachNode}
use Rattle.hp_automata.specs.Lowering as lowering
use Rattle.hp_automata.specs.Lowering.{Types, Enumerations, enumerations, lowered_contract, lowered_item, lowered_program}
use Rattle.law_automata.specs.Lowered.Removable.{IsRemovable}
use Rattle.hp_flat.specs.declared.node.Variable.{Variable}
use Rattle.hp_flat.specs.Equations.{FlatEqn}
use Rattle.hp_flat.specs.Nodes.{FlatNode}
use Rattle.law_equations.specs.Meaning.Kinding.{HasValue, EqnKinds}
use Rattle.hp_form.specs.Regular.Regular.{EqnIsRegular}
use Rattle.law_equations.specs.Made.Making.{Known, Sketch}
use Rattle.law_equations.specs.Made.Types.{obc_types}
use Rattle.hp_complete.specs.Declaring.{with_node, with_nodes, known_of}
use Rattle.hp_complete.specs.Layers.{nothing}
use Rattle.hp_complete.specs.Made.{AreMadeOf}
use Rattle.law_equations.specs.Answered.Short.{ConstantsShort}
use Rattle.law_wellmade.specs.Spelled.Integers.{NodeShort}
use Rattle.law_wellmade.specs.Regular.Kinds.{program_callees, KindsAgree, IsKnownType, KindsLaw, TypesLaw}
use Rattle.law_wellmade.specs.Regular.Laws.{AreRegular, RegularLaw, ConstantsLaw, ClocksLaw, LoweredLaw}
use Rattle.law_wellmade.proofs.RegularLemmas.Good.{EqnGood}
use Rattle.law_wellmade.proofs.RegularLemmas.KindFacts.{known_type, eqn_kinds, eqn_regular}
use Rattle.law_wellmade.proofs.RegularLemmas.GoodPrograms.{NodeGood, ready_good}
use Rattle.law_wellmade.proofs.RegularLemmas.Integers.{integers_short}
use Rattle.law_wellmade.proofs.RegularLemmas.Lowered.{program_low}
use Rattle.law_wellmade.proofs.RegularLemmas.Clocked.{short_clocked}

-- ---- no node has a controllable variable

abbrev Uncontrolled : (List ℕ → Option Node) → Type 0
Uncontrolled nodes = (f : List ℕ) (n : Node) → nodes f ≡ Some n → controls_of n.contract ≡ []

one_more : (before : List ℕ → Option Node) (m : Node) → controls_of m.contract ≡ [] → Uncontrolled before → Uncontrolled (with_node before (NodeItem m))
one_more before m none h f n e = by (bytes_eq m.name f) e (h f n)
  where
    by : (b : Bool) → (if b then Some m else before f) ≡ Some n → (before f ≡ Some n → controls_of n.contract ≡ []) → controls_of n.contract ≡ []
    by true e g = let same : m ≡ n = cc in subst (λ (z : Node). controls_of z.contract ≡ []) same none
    by false e g = g e

none_known : (items : List Item) (before : List ℕ → Option Node) → Uncontrolled before → NoControls items → Uncontrolled (with_nodes before items)
none_known [] before h none = h
none_known (TypeItem t ∷ items) before h none = none_known items before h none
none_known (NodeItem m ∷ items) before h none = none_known items (with_node before (NodeItem m)) (one_more before m none.0 h) none.1

module _ (enums : Enumerations) where
  controls_lowered : (tys : Types) (o : Option Contract) → controls_of (option_map (lowered_contract enums tys) o) ≡ controls_of o
  controls_lowered tys None = refl
  controls_lowered tys (Some c) = refl

  none_lowered : (items : List Item) → NoControls items → NoControls (map (lowered_item enums) items)
  none_lowered [] h = tt
  none_lowered (TypeItem t ∷ items) h = none_lowered items h
  none_lowered (NodeItem n ∷ items) h = (controls_lowered (lowering.types_of n) n.contract ∙ h.0, none_lowered items h.1)

-- ---- nodes

module _ (types : List ObcType) (k : Known) where
  eqns_regular : (d : Sketch) (es : List FlatEqn) → AllByRecursion (EqnGood types k d) es → ConstantsShort es → AllByRecursion (EqnIsRegular types d.variables) es
  eqns_regular d [] h s = tt
  eqns_regular d (e ∷ es) h s = (eqn_regular types d k e h.0 s.0, eqns_regular d es h.1 s.1)

  nodes_regular : (fs : List FlatNode) → AllByRecursion (NodeGood types k) fs → AllByRecursion (λ (f : FlatNode). ConstantsShort f.eqns) fs → AreRegular types fs
  nodes_regular [] h s = tt
  nodes_regular (f ∷ fs) h s = (subst (λ vs. AllByRecursion (EqnIsRegular types vs) f.eqns) (sym h.0.variables) (eqns_regular h.0.sketch f.eqns h.0.eqns s.0), nodes_regular fs h.1 s.1)

  module _ (none : Uncontrolled k.nodes) where
    eqns_agree : (d : Sketch) (es : List FlatEqn) → AllByRecursion (EqnGood types k d) es → ConstantsShort es → AllByRecursion (EqnKinds types (program_callees types k) d.variables) es
    eqns_agree d [] h s = tt
    eqns_agree d (e ∷ es) h s = (eqn_kinds types d k e h.0 s.0 none, eqns_agree d es h.1 s.1)

    nodes_agree : (fs : List FlatNode) → AllByRecursion (NodeGood types k) fs → AllByRecursion (λ (f : FlatNode). ConstantsShort f.eqns) fs → KindsAgree types k fs
    nodes_agree [] h s = tt
    nodes_agree (f ∷ fs) h s = (
      subst (λ vs. AllByRecursion (EqnKinds types (program_callees types k) vs) f.eqns) (sym h.0.variables) (eqns_agree h.0.sketch f.eqns h.0.eqns s.0),
      nodes_agree fs h.1 s.1,
    )

  variables_known : (vs : List Variable) → AllByRecursion (λ (v : Variable). HasValue types v.ty) vs → AllByRecursion (λ (v : Variable). IsKnownType types v.ty × HasValue types v.ty) vs
  variables_known [] h = tt
  variables_known (v ∷ vs) h = ((known_type types v.ty h.0, h.0), variables_known vs h.1)

  nodes_typed : (fs : List FlatNode) → AllByRecursion (NodeGood types k) fs → AllByRecursion (λ (f : FlatNode). AllByRecursion (λ (v : Variable). IsKnownType types v.ty × HasValue types v.ty) f.variables) fs
  nodes_typed [] h = tt
  nodes_typed (f ∷ fs) h = (variables_known f.variables h.0.values, nodes_typed fs h.1)

-- ---- programs

constants_short : (after : List Item) → IsRemovable after → EachNode NodeShort after → (fs : List FlatNode) → AreMadeOf (known_of (lowered_program after)) (lowered_program after) fs
    → AllByRecursion (λ (f : FlatNode). ConstantsShort f.eqns) fs
constants_short after ok writes fs made = integers_short (known_of (lowered_program after)) (lowered_program after) fs made (program_low (enumerations [] after) after ok writes)

pub regular : RegularLaw
regular program after r ok full few tested writes fs made =
    nodes_regular (obc_types (types_of after)) (known_of (lowered_program after)) fs (ready_good program after r ok full few tested fs made) (constants_short after ok writes fs made)

pub kinds : KindsLaw
kinds program after r ok full few tested writes none fs made =
    let k = known_of (lowered_program after) in
    let uncontrolled : Uncontrolled k.nodes = none_known (lowered_program after) nothing (λ f n e. absurd (cc)) (none_lowered (enumerations [] after) after none) in
    nodes_agree (obc_types (types_of after)) k uncontrolled fs (ready_good program after r ok full few tested fs made) (constants_short after ok writes fs made)

pub variables_typed : TypesLaw
variables_typed program after r ok full few tested fs made = nodes_typed (obc_types (types_of after)) (known_of (lowered_program after)) fs (ready_good program after r ok full few tested fs made)

pub constants : ConstantsLaw
constants = integers_short

pub clocks : ClocksLaw
clocks = short_clocked

pub lowered : LoweredLaw
lowered after ok h = program_low (enumerations [] after) after ok h
