-- An accepted program whose nodes choose, and whose contracts are kept, has the machines that choose.
use Rattle.std.proofs.Common.{◌≡◌, inl, inr, ℕ, Bool, true, false, ◌||◌, ◌+◌, ◌≤◌, List, [], ◌∷◌, ◌++◌, length, map, drop, reverse, Option, None, Some, refl, sym, ap, ap₂, subst, ◌∙◌, arith}
use Rattle.std.specs.Prelude.{All, IsTrue, is_some, option_map, sum}
use Rattle.std.specs.List.{AllByRecursion}
use Rattle.std.specs.Str.{bytes_eq}
use Rattle.std.proofs.lemmas.List.{length-map}
use Rattle.std.proofs.lemmas.Slice.Eq.{bytes_eq-Decides}
use Rattle.std.proofs.lemmas.List.Elements.{All-head, All-tail}
use Rattle.hp_obc.specs.Form.{TypesForm, has_name}
use Rattle.hp_obc.specs.Machines.{ObcType}
use Rattle.hp_tree.specs.Blocks.{Decl}
use Rattle.hp_tree.specs.Instant.{Controls}
use Rattle.hp_tree.specs.Meaning.{types_of, controls_of}
use Rattle.hp_tree.specs.Programs.{Contract, Node, TypeDecl}
use Rattle.hp_tree.specs.declared.program.Item.{Item}
use Rattle.hp_tree.specs.declared.program.Item.TheVariants.{TypeItem, NodeItem}
use Rattle.hp_tables.specs.Declarations.Tables.{numbered}
use Rattle.hp_meaning.specs.Causal.Causality.{IsRanked}
use Rattle.hp_meaning.specs.Causal.RanksOfPoints.{AllRanksLaw}
use Rattle.hp_meaning.specs.Causal.Sources.{below}
use Rattle.hp_meaning.specs.Contract.Forgetting.{ContractsCallNothing}
use Rattle.hp_meaning.specs.Contract.Slots.{slots_of_node}
use Rattle.law_judged.specs.Named.Scoped.{EachNode}
use Rattle.hp_clocks.specs.Answers.{IsClocked}
use Rattle.hp_clocks.specs.Writing.{AreWritten}
use Rattle.hp_expand.specs.Numbering.{no_node, with_node, replaced_node, replaced_items, replaced}
use Rattle.law_values.specs.Filled.Firsts.{NodeHasFirsts}
use Rattle.law_values.proofs.FilledLemmas.Ready.{ready_firsts}
use Rattle.hp_automata.specs.NewNames.{is_new}
use Rattle.hp_automata.specs.Lowering as lowering
use Rattle.hp_automata.specs.Lowering.{Enumerations, Types, enumerations, lowered_contract, lowered_item, lowered_node, lowered_program}
use Rattle.law_automata.specs.Lowered.Laws.{RanksLaw}
use Rattle.hp_flat.specs.Nodes.{FlatNode}
use Rattle.law_equations.specs.Meaning.Kinding.{Callees, EqnKinds}
use Rattle.law_equations.specs.Made.Making.{Known, flat_type, outputs_of}
use Rattle.law_equations.specs.Made.Types.{obc_type_of, obc_types, obc_types_of}
use Rattle.hp_complete.specs.Declaring.{known_of}
use Rattle.hp_complete.specs.Made.{AreMadeOf, IsMadeOf}
use Rattle.hp_complete.specs.Signatures.{AreFlat, IsFlat, IsSigned, places_of, type_names, variables_of}
use Rattle.hp_form.specs.Regular.Regular.{EqnsRegular}
use Rattle.law_wellmade.specs.Acyclic.Laws.{NoCircleLaw}
use Rattle.law_wellmade.specs.Lettered.Laws.{MachineNamesLaw, TextNamesLaw}
use Rattle.law_wellmade.specs.Lettered.Names.{NodeSpelled, IsSourceName}
use Rattle.law_wellmade.specs.Nested.Laws as nested
use Rattle.law_wellmade.specs.Regular.Laws.{RegularLaw}
use Rattle.law_wellmade.specs.Timely.Tested.{AreTested}
use Rattle.law_wellmade.proofs.BegunLemmas.Items.{names_of_types, types_low}
use Rattle.hp_circuit.specs.declared.given.Given.{Given}
use Rattle.hp_abstract.specs.declared.abstracted.Abstraction.{Abstraction}
use Rattle.hp_abstract.specs.Abstractions.{IsAbstractionOf}
use Rattle.hp_watch.specs.Observing.{observers}
use Rattle.hp_watch.specs.declared.watching.Free.{Free}
use Rattle.hp_watch.specs.Adding.{type_at}
use Rattle.hp_watch.specs.Watching.{Observed, Observing, surveyed, unwatched, walked}
use Rattle.hp_controller.specs.declared.decoding.Control.{Control}
use Rattle.hp_verdicts.specs.Decided.{AreKept, IsKept, KeptItem}
use Rattle.law_games.specs.ReadyGames.Laws.{IsInOrder, ReadyContractsLaw, Stands, TextOrderLaw}
use Rattle.law_games.specs.Mirror.Mirrored.{controls_among, early_among, late_among, widths_at}
use Rattle.law_drawing.specs.Mirrors.Drawn.{DrawnMirrorsLaw, DrawnSafeLaw}
use Rattle.law_drawing.proofs.MirrorsLemmas.Reading.{node_reads}
use Rattle.law_history.proofs.StreamsLemmas.Asked.{Splits, split_first, split_next}
use Rattle.law_choices.specs.Adding.Made.{CompiledMadeLaw, IsReadyMade}
use Rattle.law_choices.specs.InTurn.Nodes.{Contracted, IsContracted}
use Rattle.law_choices.specs.InTurn.Observed.{CanBeObserved}
use Rattle.law_choices.specs.InTurn.Observers.{ObserverLaw}
use Rattle.law_choices.specs.InTurn.Texts.{SignLaw}
use Rattle.law_choices.specs.Observed.Contracts.{IsObservable}
use Rattle.law_choices.specs.Observed.Laws.{CanBeObservedLaw, TestedObserversLaw}
use Rattle.law_choices.specs.OnClocks.WellMade.{calls_of}
use Rattle.law_choices.specs.Observed.Texts.{ObservableTextsLaw}
use Rattle.law_choices.specs.Places.Laws.{CountLaw}
use Rattle.law_choices.specs.Playing.Drawn.{DrawnFlagsLaw}
use Rattle.law_choices.specs.Playing.Mirrored.{early_flags}
use Rattle.law_choices.proofs.BroughtLemmas.Brought.{free_types}
use Rattle.law_choices.proofs.BroughtLemmas.Placed.{AreIn, types_in}
use Rattle.law_choices.proofs.BroughtLemmas.Widths.{early-wide, early_width, flags-long, late-wide, late_width, watched-width}
use Rattle.law_choices.proofs.InTurnLemmas.Observed.{types_watched}
use Rattle.law_choices.proofs.ObservedLemmas.Programs.{observers_in_order}
use Rattle.law_choices.proofs.OnClocksLemmas.OneMeaning.{AreTurned, IsTurned, ready_nodes}
use Rattle.law_choices.proofs.OnClocksLemmas.Programs.{compilable_law, number_of, some_of}
use Rattle.law_choices.proofs.OnClocksLemmas.Texts.{IsArranged, when_accepted}
use Rattle.law_choices.proofs.PlayingLemmas.ControlBits.{control_row, controls-are, here as self}
use Rattle.hp_controlled.specs.Choosing.{AreControls, AreNodesOf, AreOfContract, IsOwn, Suits, Telling, contract_name, told_outputs}
use Rattle.hp_controlled.specs.Choosing.AreNodesOf.{without_contract, with_contract}
use Rattle.hp_controlled.specs.Choosing.IsOwn.{that_stays, that_chooses}
use Rattle.hp_controlled.specs.Compiled.{AreEquationsOf, AreObserved, contracts_of}
use Rattle.hp_controlled.specs.Lacking.{ChoosesNot, FitContracts, HasCircularEquations, HasNoChosenMachines, LacksCompiled, LacksMachines, LacksNodes, LacksObservers, OneLacksMachines}
use Rattle.hp_controlled.specs.Lacking.OneLacksMachines.{none_left, here, behind_a_node, behind_a_type}
use Rattle.law_controlled.specs.Built.{ChosenBuiltLaw}
use Rattle.law_controlled.specs.Early.{CanAsk, CircleLaw, WaitsForChoice}
use Rattle.law_controlled.specs.Program.{MadeNodesLaw}
use Rattle.law_controlled.proofs.AskedLaws.{can_ask}
use Rattle.law_controlled.proofs.BroughtLaws.{survey-in, survey-types}
use Rattle.law_controlled.proofs.CircleLaws.{no_circle}
use Rattle.law_controlled.proofs.FitLaws.{contracts_fit}
use Rattle.law_controlled.proofs.FormedLaws.{FormedLaws, IsSpelled, has_form}
use Rattle.law_controlled.proofs.KeptLaws.{not_refused, safe_on_each}
use Rattle.law_controlled.proofs.MadeLaws.{is_contracted, it}
use Rattle.law_controlled.proofs.ObserverShortLaws.{all_levels}
use Rattle.law_controlled.proofs.RegularPartLaws.{kinds_regular, part_regular}
use Rattle.law_controlled.proofs.SightLaws.{NamedIn, SeesAsMany, has_observer, node_controls, suits}
use Rattle.law_controlled.proofs.WaitingLaws.{never_waits, WaitingLaws}
use Rattle.law_controlled.proofs.WellMadeLaws.{all as said_with, chosen_well}

-- the laws that are joined here
pub record BuiltLaws : Type 0 where
  pub all_ranks : AllRanksLaw
  pub ranks : RanksLaw
  pub no_circle : NoCircleLaw
  pub names : TextNamesLaw
  pub regular : RegularLaw
  pub count : CountLaw
  pub order : TextOrderLaw
  pub safe : DrawnSafeLaw
  pub mirrors : DrawnMirrorsLaw
  pub flags : DrawnFlagsLaw
  pub contracts : ReadyContractsLaw
  pub observable : ObservableTextsLaw
  pub sign : SignLaw
  pub can : CanBeObservedLaw
  pub tested : TestedObserversLaw
  pub made : CompiledMadeLaw
  pub observer : ObserverLaw
  pub nodes : MadeNodesLaw
  pub formed : FormedLaws
  pub lettered : MachineNamesLaw
  pub clocks : nested.TextLaw
  pub circle : CircleLaw
  pub waits : WaitingLaws

-- ---- names of nodes

abbrev Short : Node → Type 0
Short n = length n.name ≤ 255

source_short : (items : List Item) → EachNode (NodeSpelled IsSourceName) items → EachNode Short items
source_short [] h = tt
source_short (TypeItem t ∷ items) h = source_short items h
source_short (NodeItem n ∷ items) h = (h.0.0.1.1, source_short items h.1)

short_replaced : (nodes : List ℕ → Node) (items : List Item) → EachNode Short items → EachNode Short (replaced_items nodes items)
short_replaced nodes [] h = tt
short_replaced nodes (TypeItem t ∷ items) h = short_replaced nodes items h
short_replaced nodes (NodeItem n ∷ items) h = (h.0, short_replaced (with_node nodes (replaced_node nodes n)) items h.1)

short_written : (xs ys : List Item) → AreWritten IsClocked xs ys → EachNode Short xs → EachNode Short ys
short_written [] [] w h = tt
short_written [] (y ∷ ys) w h = absurd w
short_written (TypeItem t ∷ xs) [] w h = absurd w
short_written (NodeItem n ∷ xs) [] w h = absurd w
short_written (TypeItem t ∷ xs) (y ∷ ys) w h = subst (λ z. EachNode Short (z ∷ ys)) (sym w.0) (short_written xs ys w.1 h)
short_written (NodeItem n ∷ xs) (y ∷ ys) w h = let it = w.0 in subst (λ z. EachNode Short (z ∷ ys)) (sym it.2) (h.0, short_written xs ys w.1 h.1)

-- ---- one node that lacks its machines

-- a controller calls no node
abbrev no_callees : Callees
no_callees = record { takes = λ f. []; gives = λ f. [] }

-- A node has a short name without the sign, and each of its declarations has a first value.
record IsKnown (types : List TypeDecl) (n : Node) : Type 0 where
  is_short : Short n
  unsigned : is_new n.name ≡ false
  firsts : NodeHasFirsts types n

all_known : (types : List TypeDecl) (items : List Item) → EachNode Short items → EachNode (λ (n : Node). is_new n.name ≡ false) items → EachNode (NodeHasFirsts types) items → EachNode (IsKnown types) items
all_known types [] h u g = tt
all_known types (TypeItem t ∷ items) h u g = all_known types items h u g
all_known types (NodeItem n ∷ items) h u g = (record { is_short = h.0; unsigned = u.0; firsts = g.0 }, all_known types items h.1 u.1 g.1)

-- a name is none of those with the sign, as those before it
signed_more : (f : List ℕ) (names : List (List ℕ)) → is_new f ≡ false → ((g : List ℕ) → has_name names g ≡ true → is_new g ≡ false) → (g : List ℕ) → has_name (f ∷ names) g ≡ true → is_new g ≡ false
signed_more f names plain h g there = by (bytes_eq f g) refl there
  where
    by : (b : Bool) → bytes_eq f g ≡ b → (b || has_name names g) ≡ true → is_new g ≡ false
    by true e q = subst (λ z. is_new z ≡ false) ((bytes_eq-Decides f g).0 e) plain
    by false e q = h g q

controls_low : (enums : Enumerations) (types : Types) (o : Option Contract) → controls_of (option_map (lowered_contract enums types) o) ≡ controls_of o
controls_low enums types None = refl
controls_low enums types (Some c) = refl

module _ (after : List Item) (k : Known) (enums : Enumerations) (places : List ℕ → Option ℕ) (decls : List TypeDecl) (seen : Observing) where
  abbrev types : List ObcType
  types = obc_types decls

  -- it stands in the program, and is one that is kept
  record Lacking : Type 0 where
    node : Node
    plant : FlatNode
    earlier : List Item
    stands : Stands after earlier node
    named : IsTrue (is_some node.contract) → NamedIn after node.name
    made : IsMadeOf k (lowered_node enums node) plant
    flat : IsFlat places (lowered_node enums node) plant
    regular : EqnsRegular types plant
    ready : IsReadyMade types (calls_of types k) plant
    names : List (List ℕ)
    turned : IsTurned types k names (lowered_node enums node) plant
    signed : (f : List ℕ) → has_name names f ≡ true → is_new f ≡ false
    known : IsKnown decls node
    kept : IsTrue (is_some node.contract) → IsKept after node
    lacks : LacksMachines after types seen node plant

  -- what is known of some nodes and of their clocked equations
  record AreKnown (names : List (List ℕ)) (items : List Item) (ns : List FlatNode) : Type 0 where
    are_made : AreMadeOf k (map (lowered_item enums) items) ns
    are_flat : AreFlat places (map (lowered_item enums) items) ns
    are_regular : AllByRecursion (EqnsRegular types) ns
    are_ready : AllByRecursion (IsReadyMade types (calls_of types k)) ns
    are_turned : AreTurned types k names (map (lowered_item enums) items) ns
    are_signed : (f : List ℕ) → has_name names f ≡ true → is_new f ≡ false
    are_known : EachNode (IsKnown decls) items
    are_kept : All (KeptItem after) items
    are_named : (f : List ℕ) → NamedIn items f → NamedIn after f

  found : (before items : List Item) (ns : List FlatNode) (names : List (List ℕ)) → Splits (reverse after) before items → AreKnown names items ns → OneLacksMachines after types seen items ns → Lacking
  found before items ns names e h (none_left {items = rest} node) = absurd h.are_made
  found before items ns names e h (here {items = rest} {ns = others} node n lacks) = record {
    node = node;
    plant = n;
    earlier = before;
    stands = (reverse rest, split_next (reverse after) before rest (NodeItem node) e);
    named = λ some. h.are_named node.name (inl (refl, some));
    made = h.are_made.0;
    flat = h.are_flat.0;
    regular = h.are_regular.0;
    ready = h.are_ready.0;
    names = names;
    turned = h.are_turned.0;
    signed = h.are_signed;
    known = h.are_known.0;
    kept = All-head (KeptItem after) (NodeItem node) rest h.are_kept;
    lacks = lacks;
  }
  found before items ns names e h (behind_a_node {items = rest} {ns = others} node n lacks) =
      found (NodeItem node ∷ before) rest others (n.name ∷ names) (split_next (reverse after) before rest (NodeItem node) e)
      (record {
        are_made = h.are_made.1;
        are_flat = h.are_flat.1;
        are_regular = h.are_regular.1;
        are_ready = h.are_ready.1;
        are_turned = h.are_turned.1;
        are_signed = signed_more n.name names (let known = h.are_known.0 in let made = h.are_made.0 in ap is_new made.name ∙ known.unsigned) h.are_signed;
        are_known = h.are_known.1;
        are_kept = All-tail (KeptItem after) (NodeItem node) rest h.are_kept;
        are_named = λ f there. h.are_named f (inr there);
      }) lacks
  found before items ns names e h (behind_a_type {items = rest} {ns = others} t lacks) =
      found (TypeItem t ∷ before) rest ns names (split_next (reverse after) before rest (TypeItem t) e)
      (record {
        are_made = h.are_made;
        are_flat = h.are_flat;
        are_regular = h.are_regular;
        are_ready = h.are_ready;
        are_turned = h.are_turned;
        are_signed = h.are_signed;
        are_known = h.are_known;
        are_kept = All-tail (KeptItem after) (TypeItem t) rest h.are_kept;
        are_named = h.are_named;
      }) lacks

  module _ (l : Lacking) where
    lower : controls_of (option_map (lowered_contract enums (lowering.types_of l.node)) l.node.contract) ≡ controls_of l.node.contract
    lower = controls_low enums (lowering.types_of l.node) l.node.contract

    signed : IsSigned places l.node l.plant
    signed =
        let flat = l.flat in
        let own = flat.signed in
        record {
          name = own.name;
          inputs = own.inputs ∙ ap (λ cs. length (l.node.inputs ++ cs)) lower;
          first = own.first ∙ ap (λ cs. variables_of places (l.node.inputs ++ cs)) lower;
          outputs = own.outputs;
        }

    -- the free places that are surveyed of it have the types of its slots
    abbrev HasTypes : Observed → Type 0
    HasTypes own =
        let s = surveyed seen own (length l.node.inputs) (walked l.node l.plant) l.plant in
        (types_in s.node s.free ≡ map (flat_type places) (free_types (slots_of_node after l.node))) × AreIn s.node s.free

  module _ (laws : BuiltLaws) (program : List Item) (ranks : List (List ℕ)) (order : IsInOrder program after ranks) (form : TypesForm types) (are : (x : List ℕ) → places x ≡ numbered 0 (map (λ (d : TypeDecl). d.name) decls) x)
      (same : types_of after ≡ decls) (seen_are : AreObserved after seen) (l : Lacking)
      (wells :
      (c : Contracted) → IsContracted types seen l.node c → (names : List (List ℕ)) → IsTurned types k names (lowered_node enums l.node) c.plant → IsMadeOf k (lowered_node enums l.node) c.plant → IsReadyMade types (calls_of types k) c.plant
      → ((f : List ℕ) → has_name names f ≡ true → is_new f ≡ false) → is_new c.plant.name ≡ false → (all : Callees) × AllByRecursion (EqnKinds types all c.chosen.node.variables) c.chosen.node.eqns)
      (has_types : (c : Contract) → l.node.contract ≡ Some c → (own : Observed) → seen l.plant.name ≡ Some own → HasTypes l own)
      (asks : (a : Abstraction) → IsAbstractionOf after l.node a → a.machine.control ≡ sum a.machine.widths → (s : Suits types seen l.node l.plant a) → CanAsk s.watched a s.controls)
      (waits : (c : Contract) → l.node.contract ≡ Some c → (a : Abstraction) → IsAbstractionOf after l.node a → (s : Suits types seen l.node l.plant a) → WaitsForChoice s.watched s.controls → ⊥) where
    short : length l.node.name ≤ 255
    short = let known = l.known in known.is_short

    -- its contract has an observer
    observer : IsTrue (is_some l.node.contract) → (own : Observed) × (seen l.plant.name ≡ Some own)
    observer some =
        let equations = seen_are.equations in
        let made = l.made in
        let own = has_observer (known_of (lowered_program (observers after))) (enumerations [] (observers after)) l.node.name after seen_are.nodes equations.made (l.named some) [] in
        (own.0, ap seen made.name ∙ ap (λ (os : Observing). os l.node.name) seen_are.are ∙ own.1)

    -- the machine has the bits of controllable variables
    widths : (a : Abstraction) → IsAbstractionOf after l.node a → a.machine.widths ≡ widths_at decls (controls_among (control_row l.node))
    widths a is =
        let mirror = laws.mirrors program after ranks order l.earlier l.node l.stands is.drawn a.machine is.is_drawn is.is_machine in
        mirror.widths ∙ ap₂ (λ ds ps. widths_at ds ps) same (controls-are after l.node)

    all_suits : (a : Abstraction) → IsAbstractionOf after l.node a → (own : Observed) → seen l.plant.name ≡ Some own → SeesAsMany types seen l.node l.plant a own → Suits types seen l.node l.plant a
    all_suits a is own has all =
        let made = l.made in
        let known = l.known in
        let firsts = known.firsts in
        let reads = node_reads program after ranks order l.earlier l.node l.stands in
        let long = length-map decls obc_type_of in
        let number = form.number in
        let controls = node_controls decls form.counts (omega (arith, number, long)) places are l.node l.plant (signed l) reads.controls firsts.controls (below Controls self) in
        suits types seen l.node l.plant a own (made.inputs ∙ ap (λ cs. length l.node.inputs + length cs) (lower l))
        (subst (λ ws. (cs : List Control) × AreControls types (drop (length l.node.inputs) l.plant.variables) ws cs × (length ws ≡ length (controls_of l.node.contract))) (sym (widths a is)) controls)
        (sym (laws.count (λ f. map (λ (d : Decl). d.name) (outputs_of (k.nodes f))) k enums l.node l.plant.eqns (λ f. refl) made.eqns)) has all

    -- as many places and bits are seen as its machine is told of
    sees-all : (a : Abstraction) → IsAbstractionOf after l.node a → (own : Observed) → HasTypes l own → SeesAsMany types seen l.node l.plant a own
    sees-all a is own t =
        let F = laws.flags program after ranks order l.earlier l.node l.stands is.drawn a.machine is.is_drawn is.is_machine in
        let M = F.mirrors in
        let slots = slots_of_node after l.node in
        let early = λ (g : Given). g.is_early in
        let flags : map early a.given.items ≡ early_flags M.is_early slots = ap (map early) is.given ∙ F.flags in
        let s = surveyed seen own (length l.node.inputs) (walked l.node l.plant) l.plant in
        let long = length-map decls obc_type_of in
        let number = form.number in
        let many : length decls ≤ 1000 = omega (arith, number, long) in
        let bits = watched-width types s.free (map early a.given.items) (unwatched s.node) t.1 in
        let none : (x : ℕ) → 0 + x ≡ x = λ x. omega arith in
        record {
          places = sym (length-map s.free (λ (f : Free). type_at s.node f.variable)) ∙ ap length t.0 ∙ length-map (free_types slots) (flat_type places) ∙ sym (flags-long decls form.counts many M.is_early slots) ∙ ap length (sym flags) ∙ length-map a.given.items early;
          early = bits.0 ∙ none (early_width types (types_in s.node s.free) (map early a.given.items)) ∙ ap₂ (early_width types) t.0 flags ∙ early-wide decls form.counts many places are M.is_early slots ∙ ap (λ ds. sum (widths_at ds (early_among M.is_early slots))) (sym same) ∙ sym M.early_are;
          late = bits.1 ∙ none (late_width types (types_in s.node s.free) (map early a.given.items)) ∙ ap₂ (late_width types) t.0 flags ∙ late-wide decls form.counts many places are M.is_early slots ∙ ap (λ ds. sum (widths_at ds (late_among M.is_early slots))) (sym same) ∙ sym M.late_are;
        }

    -- so it suits
    all-suit : (a : Abstraction) → IsTrue (is_some l.node.contract) → IsAbstractionOf after l.node a → Suits types seen l.node l.plant a
    all-suit a some is = by l.node.contract refl some
      where
        by : (o : Option Contract) → l.node.contract ≡ o → IsTrue (is_some o) → Suits types seen l.node l.plant a
        by None e h = absurd (let no : false ≡ true = h in cc)
        by (Some c) e h = let own = observer some in all_suits a is own.0 own.1 (sees-all a is own.0 (has_types c e own.0 own.1))

    never : (a : Abstraction) → IsTrue (is_some l.node.contract) → IsAbstractionOf after l.node a → (s : Suits types seen l.node l.plant a) → WaitsForChoice s.watched s.controls → ⊥
    never a some is s w = by l.node.contract refl some
      where
        by : (o : Option Contract) → l.node.contract ≡ o → IsTrue (is_some o) → ⊥
        by None e h = let no : false ≡ true = h in absurd cc
        by (Some c) e h = waits c e a is s w

    chooses_not : (a : Abstraction) → IsTrue (is_some l.node.contract) → IsAbstractionOf after l.node a → ChoosesNot types seen l.node l.plant a → ⊥
    chooses_not a some is (ChoosesNot.long_name long) = omega (arith, long, short)
    chooses_not a some is (ChoosesNot.unsuited none) = none (all-suit a some is)
    chooses_not a some is (ChoosesNot.circular s circle) =
        let mirror = laws.mirrors program after ranks order l.earlier l.node l.stands is.drawn a.machine is.is_drawn is.is_machine in
        never a some is s (laws.circle l.node.name s.watched a s.controls (asks a is mirror.control_are s) circle)

    no_nodes : IsTrue (is_some l.node.contract) → IsKept after l.node → LacksNodes after types seen l.node l.plant → ⊥
    no_nodes some kept (LacksNodes.refused e why k) = not_refused after l.node kept.machine kept.is_machine e k why
    no_nodes some kept (LacksNodes.forced a is lose) =
        let lost = lose.1 in
        safe_on_each laws.safe program after ranks order l.earlier l.node l.stands kept.machine a.machine kept.is_machine is.machine kept.safe (length lose.0) lost.init
    no_nodes some kept (LacksNodes.long_machine a is long) =
        let machine = is.machine in
        let same_name = ap (λ (x : List ℕ). length x) machine.named in
        omega (arith, long, same_name, short)
    no_nodes some kept (LacksNodes.chooses_not a is none) = chooses_not a some is none

    -- the node itself is its clocked equations, or a part of the one that chooses
    own_regular : (own : FlatNode) (c : Telling) → IsOwn l.node l.plant c own → EqnsRegular types c.node → EqnsRegular types own
    own_regular own c (that_stays none same) h = subst (EqnsRegular types) (sym same) l.regular
    own_regular own c (that_chooses some part) h = part_regular types c.node l.node.name c.node.outputs own part h

    -- the nodes that are made of a node with a contract
    nodes_regular : (controller own told : FlatNode) → AreOfContract after types seen l.node l.plant controller own told → AllByRecursion (EqnsRegular types) (controller ∷ own ∷ told ∷ [])
    nodes_regular controller own told are =
        let made = l.made in
        let known = l.known in
        let chosen = are.chosen in
        let t = chosen.choosing in
        let of_contract = it after types seen l.node l.plant controller own told made.name are in
        let is = is_contracted after types seen l.node l.plant controller own told made.name are in
        let well = wells of_contract is l.names l.turned made l.ready l.signed (ap is_new made.name ∙ known.unsigned) in
        let regular : EqnsRegular types t.node = kinds_regular types well.0 t.node.variables t.node.eqns form well.1 in
        let k = are.controls in
        let controls = k.well_made types no_callees in (
          kinds_regular types no_callees controller.variables controller.eqns form controls.kinds,
          (own_regular own t chosen.itself regular, (part_regular types t.node (contract_name l.node.name) (told_outputs t) told chosen.tells regular, tt)),
        )

    no_machines : LacksMachines after types seen l.node l.plant → ⊥
    no_machines (LacksMachines.lacks_nodes some lacks) = no_nodes some (l.kept some) lacks
    no_machines (LacksMachines.irregular these nodes_are none) = by these nodes_are none
      where
        by : (these : List FlatNode) → AreNodesOf after types seen l.node l.plant these → (AllByRecursion (EqnsRegular types) these → ⊥) → ⊥
        by these (without_contract e) none = none (l.regular, tt)
        by these (with_contract controller own told some are) none =
            none (nodes_regular controller own told are)

    none_lacks : ⊥
    none_lacks = no_machines l.lacks

-- ---- programs

-- What is known of the program of a text.
record IsBuildable (program after : List Item) (ranks : List (List ℕ)) : Type 0 where
  arranged : IsArranged program after
  order : IsInOrder program after ranks
  known : EachNode (IsKnown (types_of after)) after
  kept : AreKept after after
  calls : ContractsCallNothing after
  observable : EachNode IsObservable after
  unsigned : EachNode (λ (n : Node). is_new n.name ≡ false) after
  spelled : IsSpelled after

module _ (laws : BuiltLaws) (program after : List Item) (ranks : List (List ℕ)) (b : IsBuildable program after ranks) where
  abbrev low : List Item
  low = lowered_program after

  tested : AreTested (types_of after) (reverse low)
  tested =
      let q = b.arranged in
      let c = (compilable_law program after q.ready q.removable q.form).1 in
      subst (λ ts. AreTested ts (reverse low)) (types_low (enumerations [] after) after) c.tested

  all_regular : (fs : List FlatNode) → AreMadeOf (known_of low) low fs → AllByRecursion (EqnsRegular (obc_types_of after)) fs
  all_regular fs made =
      let q = b.arranged in
      let form = q.form in
      laws.regular program after q.ready q.removable (some_of (types_of program) form.counts) (number_of (types_of program) form.number) tested q.short fs made

  not_circular : HasCircularEquations after → ⊥
  not_circular circle =
      let q = b.arranged in
      let order = b.order in
      let c = compilable_law program after q.ready q.removable q.form in
      no_circle laws.no_circle program low c.0 c.1 (laws.ranks after q.removable (laws.all_ranks after ranks order.ordered)) circle

  not_circular_contracts : HasCircularEquations (observers after) → ⊥
  not_circular_contracts circle =
      let q = b.arranged in
      let order = b.order in
      let c = observers_in_order laws.ranks program after ranks order q.removable q.form q.short b.calls b.observable (laws.all_ranks after ranks order.ordered) in
      no_circle laws.no_circle program (lowered_program (observers after)) c.0.0 c.0.1 c.1 circle

  can_be : CanBeObserved after
  can_be =
      let q = b.arranged in
      laws.can program after q.ready q.removable q.form q.short b.calls b.observable (laws.tested program after ranks b.order q.removable q.form q.short b.calls b.observable)

  fit : (ns : List FlatNode) → AreEquationsOf (observers after) ns → FitContracts (contracts_of after) ns
  fit ns equations =
      let seen = lowered_program (observers after) in
      contracts_fit laws.count (λ f. map (λ (d : Decl). d.name) (outputs_of ((known_of seen).nodes f))) (known_of seen) (enumerations [] (observers after)) (λ f. refl) after ns equations.made

  -- observers have the types of the program
  same_places : places_of (lowered_program (observers after)) ≡ places_of low
  same_places =
      let watched = lowered_program (observers after) in
      let names : type_names watched ≡ type_names low =
      names_of_types watched ∙ ap (λ ds. map (λ (d : TypeDecl). d.name) ds) (types_watched after ∙ sym (types_low (enumerations [] after) after)) ∙ sym (names_of_types low) in
      ap (λ ns. numbered 0 ns) names

  ranked : IsRanked after
  ranked = let order = b.order in laws.all_ranks after ranks order.ordered

  are_built : HasNoChosenMachines after → ⊥
  are_built (HasNoChosenMachines.not_compiled (LacksCompiled.circular_nodes circle)) = not_circular circle
  are_built (HasNoChosenMachines.not_compiled (LacksCompiled.no_observers (LacksObservers.circular_contracts circle))) = not_circular_contracts circle
  are_built (HasNoChosenMachines.not_compiled (LacksCompiled.no_observers (LacksObservers.unfitting ns equations none))) = none (fit ns equations)
  are_built (HasNoChosenMachines.not_compiled (LacksCompiled.one_lacks plants seen equations are lacks)) =
      let q = b.arranged in
      let c = compilable_law program after q.ready q.removable q.form in
      let form : TypesForm (obc_types (types_of after)) = subst (λ ts. TypesForm (obc_types ts)) (sym (sym (types_low (enumerations [] after) after) ∙ c.0.same)) q.form in
      let turns = laws.formed.turn in
      let nodes = ready_nodes turns.targets turns.calls program after q.ready q.removable q.form q.short plants equations.made in
      let l =
      found after (known_of low) (enumerations [] after) (places_of low) (types_of after) seen [] after plants [] (split_first after)
      (record {
        are_made = equations.made;
        are_flat = equations.flat;
        are_regular = all_regular plants equations.made;
        are_ready = turns.ready program after q.ready q.removable q.form q.short plants equations.made;
        are_turned = nodes.turned;
        are_signed = λ f h. absurd cc;
        are_known = b.known;
        are_kept = b.kept;
        are_named = λ f h. h;
      }) lacks in
      none_lacks after (known_of low) (enumerations [] after) (places_of low) (types_of after) seen laws program ranks b.order form
      (λ x. ap (λ names. numbered 0 names x) (names_of_types low ∙ ap (λ ds. map (λ (d : TypeDecl). d.name) ds) (types_low (enumerations [] after) after))) refl are l
      (λ c is names t made ready signed plain.
      let well = chosen_well laws.formed.turn laws.made laws.observer program after q b.unsigned can_be seen are l.node c is names t made ready signed plain in
      (said_with laws.formed.turn laws.made laws.observer program after q b.unsigned can_be seen are l.node c is, well.kinds))
      (λ c has own its. (
        survey-types program after q.ready q.removable q.form q.short b.calls b.observable seen are same_places l.earlier l.node l.stands c has l.plant l.made (signed after (known_of low) (enumerations [] after) (places_of low) (types_of after) seen l) own its,
        survey-in program after q.ready q.removable q.form q.short b.calls b.observable seen are same_places l.earlier l.node l.stands c has l.plant l.made (signed after (known_of low) (enumerations [] after) (places_of low) (types_of after) seen l) own its,
      ))
      (λ a is control s.
      let made = l.made in
      let known = l.known in
      can_ask laws.formed.turn laws.made laws.observer program after q b.unsigned can_be seen are l.node l.plant l.names l.turned made l.ready l.signed (ap is_new made.name ∙ known.unsigned) a is control s)
      (λ c has a is s.
      let made = l.made in
      let known = l.known in
      never_waits laws.waits laws.formed.turn laws.made laws.observer program after ranks b.order q b.unsigned can_be seen are b.calls b.observable ranked same_places l.earlier l.node l.stands c has l.plant l.names l.turned made l.ready l.signed (ap is_new made.name ∙ known.unsigned)
      (signed after (known_of low) (enumerations [] after) (places_of low) (types_of after) seen l) a is s)
  are_built (HasNoChosenMachines.formless ms are none) =
      let q = b.arranged in
      let e = are.equations in
      let have = are.have in
      let c = compilable_law program after q.ready q.removable q.form in
      let form : TypesForm (obc_types (types_of after)) = subst (λ ts. TypesForm (obc_types ts)) (sym (sym (types_low (enumerations [] after) after) ∙ c.0.same)) q.form in
      let made = laws.nodes after (obc_types_of after) are.observers (known_of low) (enumerations [] after) after are.plants have.nodes e.made have.are in
      none (has_form laws.formed program after q b.unsigned can_be b.spelled form ms are made)

pub chosen_built_law : BuiltLaws → ChosenBuiltLaw
chosen_built_law laws text tokens program after ranks a p named typed defined formed initialised clocks fall kept none =
    let q = when_accepted text tokens program after a p named typed defined formed initialised clocks in
    let form = q.form in
    let short = short_written (replaced program) after clocks (short_replaced no_node program (source_short program (laws.names text tokens program a p))) in
    let unsigned = laws.sign text tokens program after a p clocks in
    let firsts = ready_firsts program after q.ready (some_of (types_of program) form.counts) in
    let order = laws.order text tokens program after ranks a p named typed defined formed initialised clocks fall in
    let b : IsBuildable program after ranks = record {
      arranged = q;
      order = order;
      known = all_known (types_of after) after short unsigned firsts;
      kept = kept;
      calls = laws.contracts program after q.ready order.conditions;
      observable = laws.observable text tokens program after a p clocks;
      unsigned = unsigned;
      spelled = record {
        short = short;
        lettered = laws.lettered text tokens program after a p clocks;
        levels = all_levels text tokens program after a p q.ready;
        clocks = λ fs made. laws.clocks text tokens program after (known_of (lowered_program after)) fs a p named typed defined formed initialised clocks made;
      };
    } in
    are_built laws program after ranks b none
