-- Early free places of a node of a ready program depend on no controllable variable: those of its comparisons and calls in its clocked equations, and those of its contract where its observer stands among these.
use Rattle.std.proofs.Common.{◌≡◌, ℕ, inl, inr, List, [], ◌∷◌, ◌++◌, length, map, reverse, slice_get, None, Some, refl, sym, ap, ap₂, subst, ◌∙◌}
use Rattle.std.specs.Prelude.{Bool, true, false}
use Rattle.std.specs.List.{flat_map}
use Rattle.std.proofs.lemmas.List.{append-nil, append_assoc, length-map}
use Rattle.hp_base.specs.declared.ty.Ty.{Ty}
use Rattle.hp_base.specs.declared.ty.Ty.TheVariants as ty
use Rattle.hp_tree.specs.Blocks.{Decl}
use Rattle.hp_tree.specs.ExpressionTypes.{typed_in, untyped}
use Rattle.hp_tree.specs.Instant.{Body, Controls, Inputs, Observer, Assume, Enforce, Tail, Instance, Place}
use Rattle.hp_tree.specs.Meaning.{controls_of, node_among, types_of}
use Rattle.hp_tree.specs.Programs.{Contract, Node, TypeDecl}
use Rattle.hp_tree.specs.Reaction.{Each}
use Rattle.hp_tree.specs.declared.program.Item.{Item}
use Rattle.hp_flat.specs.declared.equation.Atom.{Atom}
use Rattle.hp_flat.specs.Equations.{FlatEqn, called}
use Rattle.hp_flat.specs.Nodes.{FlatNode}
use Rattle.hp_meaning.specs.Causal.Sources.{below}
use Rattle.hp_meaning.specs.Contract.Forgetting.{ContractsCallNothing}
use Rattle.hp_meaning.specs.Contract.FreePlaces.{IsEarly, IsFree, declared_outputs, own_free}
use Rattle.hp_meaning.specs.Contract.Slots.{FreePlace, Slot, callee_slots, control, free_among, free_places, input, slots_of_block, slots_of_contract, slots_of_node}
use Rattle.law_judged.specs.Named.Scoped.{EachNode}
use Rattle.law_values.specs.Accepted.Laws.{IsReady}
use Rattle.hp_automata.specs.Lowering.{Enumerations, enumerations, lowered_node, lowered_program}
use Rattle.law_automata.specs.Lowered.Removable.{IsRemovable}
use Rattle.law_automata.specs.Lowered.Standing.{Along}
use Rattle.law_drawing.proofs.SteeredLemmas.Uncalled.{ContractCallsNothing}
use Rattle.law_equations.specs.Followed.Programs.{CallsAmong}
use Rattle.law_equations.specs.Flattened.Flatten.{Prefix}
use Rattle.law_equations.specs.Made.Making.{Known, flat_type, outputs_of, sketch_node}
use Rattle.law_equations.specs.Made.Types.{obc_types_of}
use Rattle.hp_obc.specs.Form.{TypesForm}
use Rattle.law_games.specs.ReadyGames.Laws.{Stands}
use Rattle.law_wellmade.specs.Spelled.Integers.{NodeShort}
use Rattle.hp_complete.specs.Declaring.{known_of}
use Rattle.hp_complete.specs.Made.{IsMadeOf}
use Rattle.hp_complete.specs.Signatures.{IsSigned}
use Rattle.hp_watch.specs.declared.watching.Free.{Free}
use Rattle.hp_watch.specs.Adding.{type_at}
use Rattle.hp_watch.specs.Embedding.{embedded}
use Rattle.hp_watch.specs.Growing.{Grows}
use Rattle.hp_watch.specs.Observing.{observer_of, observers}
use Rattle.hp_watch.specs.Walk.{events_from, walk_contract}
use Rattle.hp_watch.specs.Watching.{Observed, Observing, called_by, free_at, free_by, free_inputs, free_moved, free_of, free_placed, own_site, placed, shift_at, walked}
use Rattle.law_choices.specs.Depending.Contracts.{found_in_contract, in_observer}
use Rattle.law_choices.specs.InTurn.Calling.{CallNothing}
use Rattle.law_choices.specs.Observed.Contracts.{IsObservable}
use Rattle.law_choices.specs.Places.Groups.{groups_of_block, groups_of_contract}
use Rattle.law_choices.specs.Places.Found.{Both, found_in_node}
use Rattle.law_choices.specs.Places.Laws.{FoundLaw, IsNumberOf}
use Rattle.law_choices.specs.Places.Spots.{Spot}
use Rattle.law_choices.specs.Playing.Mirrored.{early_flags}
use Rattle.law_choices.proofs.AddingLemmas.Embeds.{embedded-grows}
use Rattle.law_choices.proofs.AddingLemmas.Surveyed.{at_number}
use Rattle.law_choices.proofs.BroughtLemmas.Alone.{found-alone}
use Rattle.law_choices.proofs.BroughtLemmas.Brought.{free_types}
use Rattle.law_choices.proofs.BroughtLemmas.Flagged.{Kept, Targets, all-kept}
use Rattle.law_choices.proofs.BroughtLemmas.Inputless.{block-none, callee-none, contract-none, flags-kept}
use Rattle.law_choices.proofs.PlayingLemmas.Flags.{flags-many}
use Rattle.law_choices.proofs.BroughtLemmas.Late.{IsInside, callee-not-own, each-as, inside-below}
use Rattle.law_choices.proofs.BroughtLemmas.Placed.{AreIn, here-types, last_placed, observed_types, one-types, outputs-shown, placed-is, shown_types, typed-here, typed-there, types_in}
use Rattle.law_choices.proofs.BroughtLemmas.Bodies.{body-apiece}
use Rattle.law_choices.proofs.BroughtLemmas.Programs.{known, observer-apiece}
use Rattle.law_choices.proofs.DependingLemmas.ContractPlaces.{contract-walked, found-moved, moved_pair}
use Rattle.law_choices.proofs.PlacesLemmas.Grouped.{among-append, block-grouped, contract-grouped, lasts-none}
use Rattle.law_choices.proofs.PlacesLemmas.Slots.{lasts_slots, outputs_slots}
use Rattle.law_choices.proofs.PlayingLemmas.Flags.{flags-append, flags-none}
use Rattle.law_choices.proofs.PlayingLemmas.Inputs.{row_of_slots}
use Rattle.hp_controlled.specs.Compiled.{AreObserved}
use Rattle.law_controlled.proofs.BroughtLaws.{calls, given, gives, inputs-free, inputs-types, inside, observer-made, outs-known}

-- ---- lists

each-front : (P : FreePlace → Type 0) (xs ys : List FreePlace) → Each P (xs ++ ys) → Each P xs
each-front P [] ys h = tt
each-front P (x ∷ xs) ys h = (h.0, each-front P xs ys h.1)

each-back : (P : FreePlace → Type 0) (xs ys : List FreePlace) → Each P (xs ++ ys) → Each P ys
each-back P [] ys h = h
each-back P (x ∷ xs) ys h = each-back P xs ys h.1

-- each of them is one of them
each-free : (gs : List FreePlace) → Each (λ (q : FreePlace). IsFree gs q.0) gs
each-free [] = tt
each-free (q ∷ gs) = (inl refl, each-as (λ (r : FreePlace). IsFree gs r.0) (λ (r : FreePlace). IsFree (q ∷ gs) r.0) (λ r h. inr h) gs (each-free gs))

seconds : (g : Place → Place) (fs : Both) → map (λ (s : Spot × Spot). s.1) (map (moved_pair g) fs) ≡ map (λ (s : Spot × Spot). s.1) fs
seconds g [] = refl
seconds g (c ∷ fs) = ap (λ zs. c.1 ∷ zs) (seconds g fs)

controls-none : (ds : List Decl) (w : Place → Place) → free_among (row_of_slots control ds w) ≡ []
controls-none [] w = refl
controls-none (d ∷ ds) w = by d.ty (controls-none ds (below Tail w))
  where
    by : (t : Ty) → free_among (row_of_slots control ds (below Tail w)) ≡ [] → free_among (row_of_slots control (record d { ty = t } ∷ ds) w) ≡ []
    by ty.Bool h = h
    by ty.Int h = h
    by (ty.Enum x) h = h

module _ (program after : List Item) (r : IsReady program after) (removable : IsRemovable after) (form : TypesForm (obc_types_of program)) (short : EachNode NodeShort after) (nothing : ContractsCallNothing after) (observable : EachNode IsObservable after) (seen : Observing) (are : AreObserved after seen)
    (places_same : (known_of (lowered_program (observers after))).types ≡ (known_of (lowered_program after)).types) (found : FoundLaw) (alone : CallNothing seen)
    (earlier : List Item) (n : Node) (stands : Stands after earlier n) (c : Contract) (has : n.contract ≡ Some c) (plant : FlatNode) (made : IsMadeOf (known_of (lowered_program after)) (lowered_node (enumerations [] after) n) plant) (own : Observed) (its : seen plant.name ≡ Some own) where
  abbrev types : List TypeDecl
  types = types_of after

  abbrev enums : Enumerations
  enums = enumerations [] after

  abbrev k : Known
  k = known_of (lowered_program after)

  abbrev k_seen : Known
  k_seen = known_of (lowered_program (observers after))

  abbrev outs : List ℕ → List Decl
  outs f = declared_outputs (node_among (reverse after) f)

  abbrev callee : List ℕ → (Place → Place) → List Slot
  callee f w = callee_slots types (node_among (reverse after) f) w

  abbrev pub names_of : List ℕ → List (List ℕ)
  names_of f = map (λ (d : Decl). d.name) (outs f)

  abbrev here : Place → Place
  here p = p

  abbrev inputs : ℕ
  inputs = length n.inputs

  abbrev begun : FlatNode
  begun = embedded own.node (own_site (length n.inputs) plant) plant

  abbrev its_given : List ℕ → List Ty
  its_given = given program after r removable form short nothing observable seen are places_same

  its_calls : (f : List ℕ) (w : Place → Place) → its_given f ≡ free_types (outputs_slots (outs f) (below Instance w) ++ callee f (below Instance w))
  its_calls = calls program after r removable form short nothing observable seen are places_same

  pub known-outs : (f : List ℕ) → outputs_of (k.nodes f) ≡ outs f
  known-outs = outs-known program after r removable form short nothing observable seen are places_same

  -- places of callees' contracts are never early
  late : (X : Free → Type 0) (f : List ℕ) (w : Prefix) → IsInside w → Each (λ (q : FreePlace). (fr : Free) → IsEarly after n q.0 → X fr) (free_among (callee f w))
  late X f w h =
      each-as (λ (q : FreePlace). own_free n q.0 ≡ None) (λ (q : FreePlace). (fr : Free) → IsEarly after n q.0 → X fr) (λ q e fr early. absurd (let no : None ≡ Some [] = sym e ∙ early.on_base in cc)) (free_among (callee f w))
      (callee-not-own n types (node_among (reverse after) f) w h)

  -- ---- comparisons and calls

  abbrev pub body_slots : List Slot
  body_slots = slots_of_block types outs callee n.body (typed_in (controls_of n.contract) (typed_in n.inputs (typed_in n.outputs untyped))) (below Body here)

  abbrev grown : Grows plant begun
  grown = embedded-grows own.node (own_site (length n.inputs) plant) plant

  within : (f : List ℕ) (o : Observed) → seen f ≡ Some o → AreIn o.node o.free
  within = inside program after r removable form short nothing observable seen are

  its_gives : (f : List ℕ) → map (flat_type k.types) (its_given f) ≡ shown_types k.types (outputs_of (k.nodes f)) ++ observed_types (seen f)
  its_gives = gives program after r removable form short nothing observable seen are places_same

  module _ (X : Free → Type 0) where
    -- what is so of early ones
    abbrev V : Free → Place → Type 0
    V fr q = IsEarly after n q → X fr

    -- is so of the free places that they bring
    pub brought : Along (Targets V plant.eqns) (walked n plant) (found_in_node names_of n) → Kept V (flat_map (free_placed seen (placed seen (length plant.eqns) begun)) (walked n plant)) (free_among body_slots)
    brought targets =
        let sk = sketch_node k (lowered_node enums n) in
        let last = last_placed seen within plant begun grown in
        let B = body-apiece program after r removable form earlier n stands plant made its_given callee its_calls in
        let G = block-grouped types outs callee IsInside inside-below n.body (typed_in (controls_of n.contract) (typed_in n.inputs (typed_in n.outputs untyped))) (λ p. Body ∷ p) (λ p. Body ∷ p) (Body, [], λ p. refl) in
        let numbers = (found names_of k enums n plant.eqns (λ f. ap (map (λ (d : Decl). d.name)) (sym (known-outs f))) made.eqns).0 in
        subst (Kept V (flat_map (free_placed seen last) (walked n plant))) G.1
        (all-kept last.node plant.eqns (free_placed seen last) (λ i s. free_moved (called_by seen s) (shift_at last.shifts i)) (placed-is seen within plant begun grown) (λ i o args. refl) its_given k sk
        (λ x t h. (typed-there seen within plant begun grown its_given k sk made.variables its_gives x t h).0) (one-types seen within plant begun grown its_given k sk made.variables its_gives) types outs callee IsInside V (late X)
        (λ i e f args at s. sym (known-outs f)) (walked n plant) B.0 (found_in_node names_of n) (groups_of_block types outs callee n.body (typed_in (controls_of n.contract) (typed_in n.inputs (typed_in n.outputs untyped))) (λ p. Body ∷ p)) B.1 (B.2 (λ p. Body ∷ p)) numbers G.0 targets)

  -- ---- the contract

  abbrev pub contract_slots : List Slot
  contract_slots = slots_of_contract types outs callee (Some c) (typed_in n.inputs (typed_in n.outputs untyped)) here

  abbrev O : Node
  O = observer_of n c

  pub its_made : IsMadeOf k_seen (lowered_node enums O) own.node × (own.free ≡ flat_map (free_at own.node) (walk_contract c (events_from 0 own.node.eqns)).0)
  its_made = observer-made program after r removable form short nothing observable seen are earlier n stands c has own (ap seen (sym made.name) ∙ its)

  pub calls-nothing : ContractCallsNothing (Some c)
  calls-nothing = let it = known program after r removable form short nothing observable earlier n stands in subst ContractCallsNothing has it.alone

  abbrev seen_given : List ℕ → List Ty
  seen_given f = free_types (outputs_slots (outputs_of (k_seen.nodes f)) (λ p. p))

  abbrev seen_names : List ℕ → List (List ℕ)
  seen_names f = map (λ (d : Decl). d.name) (outputs_of (k_seen.nodes f))

  abbrev seen_order : List ℕ
  seen_order = (walk_contract c (events_from 0 own.node.eqns)).0

  -- its comparisons, one by one
  seen_numbers : Along (IsNumberOf own.node.eqns) seen_order (map (λ (s : Spot × Spot). s.1) (found_in_contract names_of c))
  seen_numbers =
      let N = (found seen_names k_seen enums O own.node.eqns (λ f. refl) (its_made).0.eqns).0 in
      let seconds_are : map (λ (s : Spot × Spot). s.1) (found_in_node seen_names O) ≡ map (λ (s : Spot × Spot). s.1) (found_in_contract names_of c) =
      ap (map (λ (s : Spot × Spot). s.1)) (found-moved seen_names n c) ∙ seconds (in_observer c.body) (found_in_contract seen_names c) ∙ ap (map (λ (s : Spot × Spot). s.1)) (found-alone seen_names names_of c calls-nothing) in
      subst (Along (IsNumberOf own.node.eqns) seen_order) seconds_are (subst (λ is. Along (IsNumberOf own.node.eqns) is (map (λ (s : Spot × Spot). s.1) (found_in_node seen_names O))) (contract-walked n c (events_from 0 own.node.eqns)) N)

  -- no equation of the observer calls
  no-call : (i : ℕ) (e : FlatEqn) (f : List ℕ) (args : List Atom) → slice_get own.node.eqns i ≡ Some e → e.right ≡ called f args → outs f ≡ outputs_of (k_seen.nodes f)
  no-call i e f args at s =
      let none = at_number (λ (d : FlatEqn). CallsAmong [] d.right) own.node.eqns i e at (alone plant.name own its) in
      let no : false ≡ true = subst (CallsAmong []) s none in
      absurd cc

  module _ (X : Free → Type 0) where
    pub told : Along (Targets (V X) own.node.eqns) seen_order (found_in_contract names_of c) → Kept (V X) own.free (free_among contract_slots)
    told targets =
        let sk = sketch_node k_seen (lowered_node enums O) in
        let D = its_made in
        let shows : (f : List ℕ) → map (flat_type k_seen.types) (seen_given f) ≡ shown_types k_seen.types (outputs_of (k_seen.nodes f)) = λ f. outputs-shown k_seen.types (outputs_of (k_seen.nodes f)) (λ p. p) in
        let B = observer-apiece program after r removable form short nothing observable earlier n stands c has own.node D.0 its_given outs callee its_calls in
        let names = typed_in n.inputs (typed_in n.outputs untyped) in
        let G = contract-grouped types outs callee IsInside inside-below c names (Observer, [], λ p. refl) (Assume, [], λ p. refl) (Enforce, [], λ p. refl) in
        subst (λ fs. Kept (V X) fs (free_among contract_slots)) (sym D.1)
        (subst (Kept (V X) (flat_map (free_at own.node) seen_order)) G.1
        (all-kept own.node own.node.eqns (free_at own.node) (λ i s. []) (λ i e at. ap (free_of own.node i) at ∙ sym (append-nil (free_by own.node i e.right e.targets))) (λ i o args. refl) seen_given k_seen sk
        (λ x t h. (typed-here seen_given k_seen sk own.node D.0.variables shows x t h).0) (λ i e l at b. ap (λ u. types_in own.node (free_of own.node i u)) at ∙ here-types seen_given k_seen sk own.node D.0.variables shows i e l b) types outs callee IsInside (V X) (late X)
        no-call seen_order B.0 (found_in_contract names_of c) (groups_of_contract types outs callee c names here) B.1 (B.2 here) seen_numbers G.0 targets))

  -- ---- flags

  module _ (early : Place → Bool) (right : (p : Place) → IsFree (free_places after n) p → early p ≡ true → IsEarly after n p) where
    abbrev pub I : List Slot
    I = row_of_slots input n.inputs (below Inputs here)

    abbrev Ls : List Slot
    Ls = lasts_slots types n.outputs here

    abbrev Cs : List Slot
    Cs = row_of_slots control (controls_of n.contract) (below Controls here)

    abbrev P : FreePlace → Type 0
    P q = early q.0 ≡ true → IsEarly after n q.0

    all_right : Each P (free_among (I ++ (Ls ++ (Cs ++ (contract_slots ++ body_slots)))))
    all_right =
        let same : free_places after n ≡ free_among (I ++ (Ls ++ (Cs ++ (contract_slots ++ body_slots)))) =
        ap (λ o. free_among (I ++ (Ls ++ (Cs ++ (slots_of_contract types outs callee o (typed_in n.inputs (typed_in n.outputs untyped)) here ++ body_slots))))) has in
        subst (Each P) same (each-as (λ (q : FreePlace). IsFree (free_places after n) q.0) P (λ q h. right q.0 h) (free_places after n) (each-free (free_places after n)))

    later_right : Each P (free_among contract_slots ++ free_among body_slots)
    later_right =
        let behind_controls = contract_slots ++ body_slots in
        let behind_lasts = Cs ++ behind_controls in
        let behind_inputs = Ls ++ behind_lasts in
        subst (Each P) (among-append contract_slots body_slots)
        (each-back P (free_among Cs) (free_among behind_controls) (subst (Each P) (among-append Cs behind_controls)
        (each-back P (free_among Ls) (free_among behind_lasts) (subst (Each P) (among-append Ls behind_lasts)
        (each-back P (free_among I) (free_among behind_inputs) (subst (Each P) (among-append I behind_inputs) all_right))))))

    -- those of the slots of a node
    pub flags-are : early_flags early (slots_of_node after n) ≡ (early_flags early I ++ early_flags early contract_slots) ++ early_flags early body_slots
    flags-are =
        let F = early_flags early in
        let behind_controls = contract_slots ++ body_slots in
        let behind_lasts = Cs ++ behind_controls in
        ap (λ o. early_flags early (I ++ (Ls ++ (Cs ++ (slots_of_contract types outs callee o (typed_in n.inputs (typed_in n.outputs untyped)) here ++ body_slots))))) has
        ∙ flags-append early I (Ls ++ behind_lasts)
        ∙ ap (λ bs. F I ++ bs) (flags-append early Ls behind_lasts ∙ ap₂ (λ xs ys. xs ++ ys) (flags-none early Ls (lasts-none types n.outputs here)) (flags-append early Cs behind_controls ∙ ap₂ (λ xs ys. xs ++ ys) (flags-none early Cs (controls-none (controls_of n.contract) (below Controls here))) (flags-append early contract_slots body_slots)))
        ∙ sym (append_assoc (F I) (F contract_slots) (F body_slots))

    pub flags-of-inputs : IsSigned k.types n plant → length (early_flags early I) ≡ length (free_inputs plant inputs)
    flags-of-inputs signed =
        let type = λ (f : Free). type_at plant f.variable in
        flags-many early I ∙ sym (length-map (free_among I) (λ (q : FreePlace). q.1)) ∙ sym (length-map (free_types I) (flat_type k.types)) ∙ ap length (inputs-free k.types n.inputs (below Inputs here))
        ∙ sym (ap length (inputs-types program after r removable form short nothing observable seen are places_same earlier n stands c has plant made signed own its)) ∙ length-map (free_inputs plant inputs) type

    module _ (X : Free → Type 0) where
      pub brought-flags : Along (Targets (V X) plant.eqns) (walked n plant) (found_in_node names_of n) → Along (λ (f : Free) (b : Bool). b ≡ true → X f) (flat_map (free_placed seen (placed seen (length plant.eqns) begun)) (walked n plant)) (early_flags early body_slots)
      brought-flags targets =
          flags-kept early (IsEarly after n) X body_slots (flat_map (free_placed seen (placed seen (length plant.eqns) begun)) (walked n plant))
          (block-none types outs callee (λ f w. callee-none types (node_among (reverse after) f) w) n.body (typed_in (controls_of n.contract) (typed_in n.inputs (typed_in n.outputs untyped))) (below Body here))
          (each-back P (free_among contract_slots) (free_among body_slots) later_right) (brought X targets)

      pub told-flags : Along (Targets (V X) own.node.eqns) seen_order (found_in_contract names_of c) → Along (λ (f : Free) (b : Bool). b ≡ true → X f) own.free (early_flags early contract_slots)
      told-flags targets =
          flags-kept early (IsEarly after n) X contract_slots own.free
          (contract-none types outs callee (λ f w. callee-none types (node_among (reverse after) f) w) (Some c) (typed_in n.inputs (typed_in n.outputs untyped)) here)
          (each-front P (free_among contract_slots) (free_among body_slots) later_right) (told X targets)
