-- What is asked of the node that is watched, where the program of a text is compiled.
use Rattle.std.proofs.Common.{◌≡◌, ◌⊎◌, inl, inr, ◌≤◌, ◌<◌, ℕ, ◌+◌, ◌-◌, Bool, List, [], ◌∷◌, ◌++◌, length, map, drop, Option, None, Some, refl, sym, ap, ap₂, subst, ◌∙◌, arith}
use Rattle.std.specs.Prelude.{⊤, false, true, slice_index_or, sum}
use Rattle.std.proofs.lemmas.List.{length-append}
use Rattle.hp_circuit.specs.declared.circuit.Role.{Role}
use Rattle.hp_circuit.specs.declared.circuit.Role.TheVariants as role
use Rattle.hp_circuit.specs.declared.circuit.Shape.{Shape}
use Rattle.hp_circuit.specs.declared.circuit.Slot.{Slot}
use Rattle.hp_circuit.specs.declared.given.Given.{Given}
use Rattle.hp_circuit.specs.declared.kind.Kind.TheVariants.{Registers}
use Rattle.hp_circuit.specs.Kinds.{bits_of, own, role_kind}
use Rattle.hp_circuit.specs.Machines.{joined, role_init, slot_init}
use Rattle.hp_circuit.specs.Shapes.{shape_width}
use Rattle.hp_circuit.proofs.NumberLaws.{length_bits}
use Rattle.hp_obc.specs.Form.{has_name, TypesForm}
use Rattle.hp_obc.specs.Machines.{ObcType}
use Rattle.hp_tree.specs.Meaning.{controls_of, types_of}
use Rattle.hp_tree.specs.Programs.{Contract, Node, TypeDecl}
use Rattle.hp_tree.specs.declared.program.Item.{Item}
use Rattle.hp_tree.specs.declared.program.Item.TheVariants.{NodeItem, TypeItem}
use Rattle.law_judged.specs.Named.Scoped.{EachNode}
use Rattle.hp_automata.specs.Lowering.{Enumerations, enumerations, lowered_item, lowered_node, lowered_program}
use Rattle.hp_automata.specs.NewNames.{is_new}
use Rattle.hp_flat.specs.declared.node.FlatTy.TheVariants.{Bool as Truth}
use Rattle.hp_flat.specs.Nodes.{FlatNode}
use Rattle.law_equations.specs.Made.Making.{Known}
use Rattle.law_equations.specs.Made.Types.{obc_types}
use Rattle.law_equations.specs.Meaning.Kinding.{Callees}
use Rattle.law_equations.specs.Meaning.Scheduling.{IsRanked}
use Rattle.hp_complete.specs.Declaring.{known_of}
use Rattle.hp_complete.specs.Made.{AreMadeOf, IsMadeOf}
use Rattle.hp_abstract.specs.declared.abstracted.Abstraction.{Abstraction}
use Rattle.hp_abstract.specs.Abstractions.{IsAbstractionOf}
use Rattle.hp_watch.specs.Observing.{observer_if, observers}
use Rattle.hp_watch.specs.Watching.{Observed, Observing, Watched}
use Rattle.law_choices.specs.Adding.Choosing.{IsOfNode}
use Rattle.law_choices.specs.Adding.Lifts.{HaveBytes, IsOn}
use Rattle.law_choices.specs.Adding.Made.{CompiledMadeLaw, IsReadyMade}
use Rattle.law_choices.specs.Adding.Surveyed.{AllSuit}
use Rattle.law_choices.specs.Adding.Watched.{AreBitsOf}
use Rattle.law_choices.specs.InTurn.Calling.{CallNothing}
use Rattle.law_choices.specs.InTurn.Observed.{CanBeObserved, contracted_nodes, EachObserved, with_contract}
use Rattle.law_choices.specs.InTurn.Observers.{ObserverLaw}
use Rattle.law_choices.specs.OnClocks.WellMade.{callees_of}
use Rattle.law_choices.proofs.ClosedLemmas.ClosedLaws.{each_other}
use Rattle.law_choices.proofs.InTurnLemmas.Observed.{observed_by}
use Rattle.law_choices.proofs.InTurnLemmas.Programs.{of_node, TurnLaws}
use Rattle.law_choices.proofs.InTurnLemmas.Types.{types_same}
use Rattle.law_choices.proofs.OnClocksLemmas.OneMeaning.{IsTurned}
use Rattle.law_choices.proofs.OnClocksLemmas.Texts.{IsArranged}
use Rattle.hp_controlled.specs.Choosing.{Suits}
use Rattle.hp_controlled.specs.Compiled.{AreObserved}
use Rattle.law_controlled.specs.Early.{CanAsk}
use Rattle.law_controlled.proofs.MadeLaws.{widths_are}
use Rattle.law_controlled.proofs.ObserverLaws.{found_by, observers_suit_by}
use Rattle.law_controlled.proofs.StraightLaws.{ranked_straight}
use Rattle.law_controlled.proofs.WatchedLaws.{AllCanBePut, watched_apart, watched_sound}

-- ---- registers

-- a machine holds as many bits at first as it has registers
role_long : (r : Role) (shape : Shape) (b : Bool) → length (role_init r shape) ≡ own Registers (role_kind r b) (shape_width shape)
role_long (role.Register first next) shape b = length_bits (shape_width shape) first
role_long role.Input shape b = refl
role_long role.Control shape b = refl
role_long (role.Free false) shape b = refl
role_long (role.Free true) shape false = refl
role_long (role.Free true) shape true = refl

init_long : (steered : List Bool) (slots : List Slot) → length (joined slot_init slots) ≡ bits_of steered Registers slots
init_long steered [] = refl
init_long steered (s ∷ slots) = length-append (slot_init s) (joined slot_init slots) ∙ ap₂ (λ m n. m + n) (role_long s.role s.shape (slice_index_or steered s.wire false)) (init_long steered slots)

pub registers_few : (program : List Item) (n : Node) (a : Abstraction) → IsAbstractionOf program n a → length a.machine.init ≤ a.machine.registers
registers_few program n a is =
    let m = is.is_machine in
    let drawn = is.drawn in
    let first = ap length m.init in
    let long = init_long m.steered drawn.slots.items in
    let many = m.many_registers in
    omega (arith, first, long, many)

-- ---- observers

-- of some items these observers are made, whose equations have ranks
abbrev AreRanked : Known → Enumerations → List Item → List (Node × Contract) → Type 0
AreRanked k enums items cs = (gs : List FlatNode) → AreMadeOf k (map (lowered_item enums) items) gs → EachObserved (λ n f. IsRanked f.eqns) cs gs

-- the clocked equations of observers have ranks
ranked_observers : (k : Known) (enums : Enumerations) (items : List Item) (fs : List FlatNode) → AreMadeOf k (map (lowered_item enums) (observers items)) fs → EachObserved (λ n f. IsRanked f.eqns) (contracted_nodes items) fs
ranked_observers k enums [] [] made = tt
ranked_observers k enums [] (f ∷ fs) made = absurd made
ranked_observers k enums (TypeItem t ∷ items) fs made = ranked_observers k enums items fs made
ranked_observers k enums (NodeItem n ∷ items) fs made = by n.contract (λ gs h. ranked_observers k enums items gs h) fs made
  where
    by : (o : Option Contract) → AreRanked k enums (observers items) (contracted_nodes items) → AreRanked k enums (observer_if n o ++ observers items) (with_contract n o ++ contracted_nodes items)
    by None rest gs h = rest gs h
    by (Some c) rest [] h = absurd h
    by (Some c) rest (g ∷ gs) h = let one = h.0 in (one.ranked, rest gs h.1)

module _ (laws : TurnLaws) (made_law : CompiledMadeLaw) (observer_law : ObserverLaw) (program after : List Item) (q : IsArranged program after) (signs : EachNode (λ (n : Node). is_new n.name ≡ false) after) (can : CanBeObserved after) (seen : Observing) (are : AreObserved after seen) where
  abbrev types : List ObcType
  types = obc_types (types_of after)

  abbrev k : Known
  k = known_of (lowered_program after)

  abbrev enums : Enumerations
  enums = enumerations [] after

  abbrev all : Callees
  all = callees_of after

  pub suit : AllSuit types all seen × CallNothing seen
  suit =
      let equations = are.equations in
      observers_suit_by types all observer_law after seen are (observed_by made_law laws.called laws.calls program after all are.nodes q.ready q.form signs can (λ f e. (refl, refl)) equations.made)

  pub puts : AllCanBePut seen
  puts f o has =
      let equations = are.equations in
      let s = (suit.0) f o has in
      let b = s.based in
      let w = b.well in
      let own = found_by (λ (n : Node) (g : FlatNode). IsRanked g.eqns) after seen are (ranked_observers (known_of (lowered_program (observers after))) (enumerations [] (observers after)) after are.nodes equations.made) f o has in
      record { within = w.within; straight = ranked_straight o.node.eqns (subst (λ (z : Observed). IsRanked z.node.eqns) own.4 own.5); no_inputs = w.no_inputs }

  module _ (node : Node) (n : FlatNode) (names : List (List ℕ)) (t : IsTurned types k names (lowered_node enums node) n) (made : IsMadeOf k (lowered_node enums node) n) (r : IsReadyMade types all n)
      (signed : (g : List ℕ) → has_name names g ≡ true → is_new g ≡ false) (plain : is_new n.name ≡ false) where
    pub bytes : HaveBytes types
    bytes = laws.bytes types (subst (λ (ts : List TypeDecl). TypesForm (obc_types ts)) (sym (types_same program after q.ready)) q.form)

    pub of : IsOfNode types all r.clock node n
    of = of_node laws types k enums seen all bytes suit.0 suit.1 (λ f e. (refl, refl)) (λ (n : Node). ⊤) names node n t made r signed plain

    module _ (a : Abstraction) (is : IsAbstractionOf after node a) (control : a.machine.control ≡ sum a.machine.widths) (s : Suits types seen node n a) where
      abbrev w : Watched
      w = s.watched

      -- the controllable variables are the inputs behind those of the node itself
      counted : length s.controls ≡ length (controls_of node.contract)
      counted = (widths_are types (drop (length node.inputs) n.variables) a.machine.widths s.controls s.are).0 ∙ s.widths

      apart_in : w.node.inputs ≡ n.inputs → (x : ℕ) → (x < length node.inputs) ⊎ (n.inputs ≤ x) → (x < w.node.inputs - length s.controls) ⊎ (w.node.inputs ≤ x)
      apart_in same x (inl u) = let count = counted in let inputs = s.inputs in inl (omega (arith, u, same, count, inputs))
      apart_in same x (inr l) = inr (omega (arith, l, same))

      pub can_ask : CanAsk w a s.controls
      can_ask =
          let sees = s.sees in
          let is_early = map (λ (g : Given). g.is_early) a.given.items in
          let nodes = laws.nodes in
          let has = nodes.watching types all r.clock seen node is_early n w bytes of suit.0 sees.is_watched in
          let keeps = has.keeps in
          let built = keeps.built in
          let well = built.well in
          let grows = keeps.grows in
          let sound = watched_sound types all r.clock seen node n of suit.0 puts bytes is_early w sees.is_watched made.ranked in
          let apart = watched_apart types all r.clock seen node n of suit.0 puts bytes is_early w sees.is_watched made.ranked in
          let V = length w.node.variables in
          let widths = widths_are types (drop (length node.inputs) n.variables) a.machine.widths s.controls s.are in
          let count = widths.0 in
          let many = s.widths in
          let inputs = s.inputs in
          let same = grows.inputs in
          let below = λ (xs : List ℕ) (h : AreBitsOf w.node keeps.clocks xs). each_other (IsOn w.node keeps.clocks [] Truth) (λ x. x < V) (λ x i. i.variable) xs h in
          record {
            within = well.within;
            straight = sound.straight;
            no_inputs = well.no_inputs;
            early = below w.early has.early;
            apart = each_other (λ x. (x < length node.inputs) ⊎ (n.inputs ≤ x)) (λ x. (x < w.node.inputs - length s.controls) ⊎ (w.node.inputs ≤ x)) (apart_in grows.inputs) w.early apart;
            late = below w.late has.late;
            registers = registers_few after node a is;
            assume = let assume = is.assume in assume.there;
            enforce = let enforce = is.enforce in enforce.there;
            few = omega (arith, count, many, inputs, same);
            bits = widths.2;
            widths = widths.1 ∙ sym control;
          }
