-- Of a ready program: what the observers of its contracts bring.
use Rattle.std.proofs.Common.{◌≡◌, ℕ, List, [], ◌∷◌, ◌++◌, map, reverse, Some, refl, ap, subst, ◌∙◌}
use Rattle.std.proofs.lemmas.Grind.{flat_map-append}
use Rattle.std.proofs.lemmas.List.{map-append}
use Rattle.hp_base.specs.declared.ty.Const.{Const}
use Rattle.hp_base.specs.declared.ty.Ty.{Ty}
use Rattle.hp_obc.specs.Form.{TypesForm}
use Rattle.hp_flat.specs.Nodes.{FlatNode}
use Rattle.hp_tree.specs.Blocks.{Decl}
use Rattle.hp_tree.specs.ExpressionTypes.{typed_in, untyped}
use Rattle.hp_tree.specs.Instant.{Instance}
use Rattle.hp_tree.specs.Meaning.{node_among, types_of}
use Rattle.hp_tree.specs.Programs.{Contract, Node, TypeDecl}
use Rattle.hp_tree.specs.declared.program.Item.{Item}
use Rattle.hp_tree.specs.declared.program.Item.TheVariants.{NodeItem}
use Rattle.hp_expand.specs.Numbering.{replaced}
use Rattle.hp_meaning.specs.Contract.Forgetting.{ContractsCallNothing}
use Rattle.hp_meaning.specs.Contract.Slots.{Slot, slots_of_contract}
use Rattle.law_judged.specs.Named.Scoped.{EachNode}
use Rattle.law_judged.specs.Replaced.Fitting.{NodeNames}
use Rattle.law_judged.specs.Typed.Scopes.{Scope}
use Rattle.law_values.specs.Accepted.Laws.{IsReady}
use Rattle.law_values.specs.Valued.Judged.{ConstantIs, NodeSound, body_scope}
use Rattle.law_values.specs.Valued.Values.{scope_behind}
use Rattle.hp_automata.specs.Lowering.{Enumerations, enumerations, lowered_item, lowered_node, lowered_program}
use Rattle.law_automata.specs.Lowered.OldNames.{IsOld}
use Rattle.law_automata.specs.Lowered.Removable.{IsRemovable}
use Rattle.law_automata.specs.Lowered.Standing.{Along}
use Rattle.law_automata.specs.Readied.Constants.{HasConstant, NodeTypes}
use Rattle.law_automata.specs.Readied.Sound.{ConstantsBehind, SoundBehind}
use Rattle.law_automata.proofs.LowerableLemmas.Texts.{clocked_of}
use Rattle.law_automata.proofs.ReadiedLemmas.TypesKept.{node_weaker}
use Rattle.law_drawing.proofs.SteeredLemmas.Uncalled.{ContractCallsNothing}
use Rattle.law_equations.specs.Answered.Answering.{AreApart}
use Rattle.law_equations.specs.Flattened.Flatten.{Prefix, below}
use Rattle.law_equations.specs.Made.Making.{Known, flat_type, outputs_of, sketch_node}
use Rattle.law_equations.specs.Made.Types.{obc_types_of}
use Rattle.law_games.specs.ReadyGames.Laws.{Stands}
use Rattle.hp_complete.specs.Declaring.{known_of}
use Rattle.hp_complete.specs.Made.{IsMadeOf}
use Rattle.law_wellmade.specs.Spelled.Integers.{NodeShort}
use Rattle.law_wellmade.proofs.BegunLemmas.Beginning.{sound_at}
use Rattle.law_wellmade.proofs.BegunLemmas.Grounds.{grounded}
use Rattle.law_wellmade.proofs.BegunLemmas.Items.{no_variables}
use Rattle.law_wellmade.proofs.BegunLemmas.NamesApart.{lowered_apart}
use Rattle.law_wellmade.proofs.BegunLemmas.Typing.{Grounded}
use Rattle.hp_watch.specs.Observing.{item_of, observer_if, observer_of, observers}
use Rattle.hp_watch.specs.Walk.{events_from, walk_contract}
use Rattle.hp_watch.specs.Watching.{observed}
use Rattle.law_choices.specs.Observed.Contracts.{IsObservable}
use Rattle.law_choices.proofs.BroughtLemmas.Alone.{block-alone, brought-alike, contract-goes}
use Rattle.law_choices.proofs.BroughtLemmas.Blocks.{node-brings}
use Rattle.law_choices.specs.Places.Groups.{groups_of_contract}
use Rattle.law_choices.proofs.BroughtLemmas.Apiece.{row-types, types_apiece, types_of_places}
use Rattle.law_choices.proofs.BroughtLemmas.Bodies.{apart_behind, apart_further, constants_at, found_first, has_at}
use Rattle.law_choices.proofs.BroughtLemmas.Brought.{Brings, brought_in_block, free_types, joined_types}
use Rattle.law_choices.proofs.BroughtLemmas.Contracts.{contract-apiece, low-ok}
use Rattle.law_choices.proofs.BroughtLemmas.Placed.{AreIn, outputs-shown, own-types, types_in}
use Rattle.law_choices.proofs.FlatLemmas.Among.{each_at}
use Rattle.law_choices.proofs.ObservedLemmas.Apart.{observers_apart}
use Rattle.law_choices.proofs.ObservedLemmas.Calls.{observer_alone}
use Rattle.law_choices.proofs.ObservedLemmas.Known.{IsKnown}
use Rattle.law_choices.proofs.ObservedLemmas.Programs.{IsSeen, ready_known, ready_seen, with_automata}
use Rattle.law_choices.proofs.ObservedLemmas.Standing.{ConstantsAre, around_old, conses_same, constant_there, enums_same, has_constant, nodes_known, observer_types, observers_onto}
use Rattle.law_choices.proofs.ObservedLemmas.Standing as standing
use Rattle.law_choices.proofs.OnClocksLemmas.Programs.{some_of}
use Rattle.law_choices.proofs.PlacesLemmas.Numbers.{AtNumber, numbered}
use Rattle.law_choices.proofs.PlacesLemmas.Grouped.{contract-row}
use Rattle.law_choices.proofs.PlacesLemmas.Slots.{outputs_slots}

module _ (program after : List Item) (r : IsReady program after) (removable : IsRemovable after) (form : TypesForm (obc_types_of program)) (short : EachNode NodeShort after) (nothing : ContractsCallNothing after) (observable : EachNode IsObservable after) where
  abbrev types : List TypeDecl
  types = types_of after

  abbrev enums : Enumerations
  enums = enumerations [] after

  abbrev low : List Item → List Item
  low items = map (lowered_item enums) items

  abbrev low_program : List Item
  low_program = lowered_program after

  abbrev seen : List Item
  seen = observers after

  apart_low : AreApart (reverse low_program)
  apart_low = lowered_apart program after r.named (clocked_of (replaced program) after r.clocks)

  pub apart : AreApart (reverse after)
  apart = with_automata enums after [] [] (λ f. refl) tt apart_low

  known_all : EachNode (IsKnown types) after
  known_all = ready_known program after r removable (some_of (types_of program) form.counts) short nothing observable apart_low

  there : IsSeen types enums (reverse after)
  there = ready_seen program after r (some_of (types_of program) form.counts) known_all

  module _ (earlier : List Item) (n : Node) (stands : Stands after earlier n) where
    pub known : IsKnown types n
    known = (each_at (IsKnown types) stands.0 n earlier (subst (EachNode (IsKnown types)) stands.1 (there).known)).0

    old : NodeNames IsOld n
    old = (each_at (NodeNames IsOld) stands.0 n earlier (subst (EachNode (NodeNames IsOld)) stands.1 (there).old)).0

    abbrev s : Scope
    s = scope_behind earlier

    sound : NodeSound types (node_among earlier) s n
    sound = sound_at types stands.0 earlier n (subst (SoundBehind types) stands.1 (there).sound)

    constants : (c : Const) → ConstantIs types s c
    constants = constants_at types stands.0 earlier n (subst (ConstantsAre types) stands.1 (there).constants)

    has : NodeTypes (HasConstant enums s) n
    has = has_at enums stands.0 earlier n (subst (ConstantsBehind enums) stands.1 (there).has)

    -- ---- its observer

    module _ (c : Contract) (is : n.contract ≡ Some c) where
      abbrev before : List Item
      before = low (observers earlier)

      abbrev q : Scope
      q = scope_behind before

      abbrev m : Node
      m = lowered_node enums (observer_of n c)

      abbrev k : Known
      k = known_of (lowered_program seen)

      pub observer_stands : (later : List Item) × (reverse (lowered_program seen) ≡ later ++ NodeItem m ∷ before)
      observer_stands =
          let of_split : observers (reverse after) ≡ observers stands.0 ++ (NodeItem (observer_of n c) ∷ observers earlier) =
          ap observers stands.1 ∙ flat_map-append item_of stands.0 (NodeItem n ∷ earlier) ∙ ap (λ o. observers stands.0 ++ (observer_if n o ++ observers earlier)) is in (
            low (observers stands.0),
            ap (λ z. reverse (map (lowered_item z) seen)) (enums_same [] after) ∙ observers_onto types enums after [] ∙ ap low of_split ∙ map-append (lowered_item enums) (observers stands.0) (NodeItem (observer_of n c) ∷ observers earlier),
          )

      apart_seen : AreApart (reverse (lowered_program seen))
      apart_seen = observers_apart after apart_low

      apart_before : AreApart before
      apart_before = apart_further m before (apart_behind (observer_stands).0 (NodeItem m ∷ before) (subst AreApart (observer_stands).1 apart_seen))

      same : q.constructors ≡ s.constructors
      same = conses_same types enums earlier

      constants_there : (p : Const) → ConstantIs types q p
      constants_there p = constant_there types s q same p (constants p)

      typed : NodeTypes (HasConstant enums q) (observer_of n c)
      typed = observer_types types enums (HasConstant enums q) n c is refl (node_weaker (HasConstant enums s) (HasConstant enums q) (has_constant types enums s q same) n has)

      ground : Grounded k q
      ground = grounded (lowered_program seen) (observer_stands).0 before m (observer_stands).1 apart_seen

      sound_there : NodeSound types (node_among before) q m
      sound_there =
          let o = (known).observable in
          low-ok types enums (node_among earlier) (node_among before) s q (standing.no_variables earlier) (standing.no_variables before) (no_variables earlier) same constants_there (nodes_known before apart_before) n c is known sound typed (around_old types enums n c old o.few)

      -- what calls would bring
      abbrev pub calls_bring : List ℕ → List Ty
      calls_bring f = free_types (outputs_slots (outputs_of (k.nodes f)) (λ p. p))

      -- The comparisons of the observer's equations bring what a walk over the contract finds, one by one in the order of slots, whatever is called.
      pub observer-apiece : (g : FlatNode) → IsMadeOf k m g → (given : List ℕ → List Ty) (outs : List ℕ → List Decl) (callee : List ℕ → Prefix → List Slot) → ((f : List ℕ) (w : Prefix) → given f ≡ free_types (outputs_slots (outs f) (below Instance w) ++ callee f (below Instance w)))
          → (L : List (List Ty)) × Along (AtNumber (Brings calls_bring k (sketch_node k m)) g.eqns) (walk_contract c (events_from 0 g.eqns)).0 L × ((w : Prefix) → L ≡ types_apiece (groups_of_contract types outs callee c (typed_in n.inputs (typed_in n.outputs untyped)) w))
      observer-apiece g made given outs callee calls =
          let o = (known).observable in
          let sk = sketch_node k m in
          let S = contract-apiece types enums (node_among earlier) (node_among before) s q (standing.no_variables earlier) (standing.no_variables before) (no_variables earlier) same constants_there (nodes_known before apart_before) n c is known sound typed (around_old types enums n c old o.few) given outs callee calls in
          let labels = brought_in_block given (body_scope q m) m.body in
          let others = brought_in_block calls_bring (body_scope q m) m.body in
          let alone : ContractCallsNothing (Some c) = subst ContractCallsNothing is (known).alone in
          let same_labels : others ≡ labels = block-alone calls_bring given (body_scope q m) m.body (observer_alone enums n c alone) in
          let events = brought-alike calls_bring k sk g.eqns sk.eqns others made.eqns (node-brings calls_bring k types (node_among before) q m (no_variables before) ground sound_there) in
          let numbers = numbered (Brings calls_bring k sk) [] g.eqns others events in
          let walked = (contract-goes (AtNumber (Brings calls_bring k sk) g.eqns) c (events_from 0 g.eqns) others numbers).0 in
          let found : (walk_contract c others).0 ≡ S.0 = found_first (walk_contract c) labels others S.0 same_labels S.1 in
          (S.0, subst (Along (AtNumber (Brings calls_bring k sk) g.eqns) (walk_contract c (events_from 0 g.eqns)).0) found walked, S.2)

      -- So the free places of the observer have the types of the slots of the contract.
      pub observer-brings : (g : FlatNode) → IsMadeOf k m g → (given : List ℕ → List Ty) (outs : List ℕ → List Decl) (callee : List ℕ → Prefix → List Slot) → ((f : List ℕ) (w : Prefix) → given f ≡ free_types (outputs_slots (outs f) (below Instance w) ++ callee f (below Instance w)))
          → (L : List (List Ty)) × ((types_in g (observed c g).free ≡ map (flat_type k.types) (joined_types L)) × AreIn g (observed c g).free) × ((w : Prefix) → joined_types L ≡ free_types (slots_of_contract types outs callee (Some c) (typed_in n.inputs (typed_in n.outputs untyped)) w))
      observer-brings g made given outs callee calls =
          let B = observer-apiece g made given outs callee calls in
          let names = typed_in n.inputs (typed_in n.outputs untyped) in (
            B.0,
            own-types calls_bring k (sketch_node k m) g made.variables (λ f. outputs-shown k.types (outputs_of (k.nodes f)) (λ p. p)) (walk_contract c (events_from 0 g.eqns)).0 B.0 B.1,
            λ w. ap joined_types (B.2 w) ∙ row-types (groups_of_contract types outs callee c names w) ∙ ap types_of_places (contract-row types outs callee c names w),
          )
