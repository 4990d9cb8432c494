-- In a program of nodes that choose, the equations of a node that calls none in whose contract integers are compared hold values of its free places throughout each reaction.
use Rattle.std.proofs.Common.{◌≡◌, ℕ, ◌+◌, ◌<◌, ◌≤◌, List, [], ◌∷◌, length, map, reverse, Some, refl, sym, ap, subst, ◌∙◌, arith}
use Rattle.std.specs.Prelude.{Bool, false}
use Rattle.std.proofs.Math.Path.{fun_ext}
use Rattle.std.specs.List.{AllByRecursion, range_with_len}
use Rattle.hp_base.specs.Kinds.{AreOfKinds}
use Rattle.hp_base.specs.declared.value.Value.{Value}
use Rattle.hp_base.specs.declared.value.Value.TheVariants.{Absent}
use Rattle.hp_obc.specs.Machines.{ObcType}
use Rattle.hp_tree.specs.declared.program.Item.{Item}
use Rattle.hp_tree.specs.Blocks.{Decl}
use Rattle.hp_tree.specs.Programs.{Node, TypeDecl}
use Rattle.hp_tree.specs.Operators.{real}
use Rattle.hp_tree.specs.Instant.{Body, Controls, Given, Instant, Past, Place, at, part, Inputs, Instance, alone}
use Rattle.hp_tree.specs.Meaning.{Nodes, controls_of, given_to, node_among, types_of}
use Rattle.hp_tree.specs.Values.{AreOf}
use Rattle.hp_meaning.specs.Causal.OneReaction.{SamePasts}
use Rattle.hp_meaning.specs.Causal.Sources.{below}
use Rattle.hp_meaning.specs.Contract.Guarantee.{Through, Typed}
use Rattle.hp_meaning.specs.Contract.Slots.{slots_of_node, FreePlace}
use Rattle.hp_automata.specs.Lowering.{Enumerations, enumerations, lowered_node, lowered_program}
use Rattle.hp_flat.specs.Nodes.{FlatNode}
use Rattle.law_equations.specs.Made.Making.{Known, sketch_node, outputs_of}
use Rattle.law_equations.specs.Made.Types.{obc_types}
use Rattle.law_equations.specs.Meaning.Kinding.{Callees, IsPossible, kinds_at}
use Rattle.law_equations.specs.Meaning.Reactions.{Answers, Reaction, inputs_of, is_set}
use Rattle.hp_complete.specs.Declaring.{known_of}
use Rattle.law_games.proofs.GuaranteedLemmas.Apart.{ready_apart}
use Rattle.law_history.proofs.StreamsLemmas.NamesApart.{name_found}
use Rattle.law_wellmade.specs.Timely.Tested.{ConstructorsDiffer}
use Rattle.hp_controller.specs.Extending.{rows_with}
use Rattle.hp_watch.specs.Watching.{Observing, moved_free, own_site, walked}
use Rattle.law_choices.specs.Answered.Loops.{plants}
use Rattle.law_choices.specs.Choosing.Choices.{Choices, OneReactionLaw, ReactionUnder, with_chosen}
use Rattle.law_choices.specs.Choosing.Programs.{AreChoices, ReadyLaw, controls_in}
use Rattle.law_choices.specs.Flat.Names.{values_at}
use Rattle.law_choices.specs.Places.Laws.{AreMadeOf, KnowsOutputs, events}
use Rattle.law_choices.specs.InTurn.Laws.{said_of}
use Rattle.law_choices.specs.InTurn.Nodes.{Contracted, loops}
use Rattle.law_choices.specs.OnClocks.WellMade.{callees_of}
use Rattle.law_choices.specs.Playing.Mirrored.{early_flags}
use Rattle.law_choices.specs.Runs.Chosen.{ChosenReaction, chosen_given, chosen_nodes}
use Rattle.law_choices.specs.Seeing.Held.{HoldThroughout, HoldsValues}
use Rattle.law_choices.specs.Streams.Names.{IsOnlyReaction}
use Rattle.law_choices.proofs.AnsweredLemmas.OneLoop.{rows_chosen}
use Rattle.law_choices.proofs.AnsweredLemmas.Programs.{takes_kinds}
use Rattle.law_choices.proofs.ClosedLemmas.ClosedLaws.{each_both}
use Rattle.law_choices.proofs.InTurnLemmas.Contracted.{Ground, NodeLaws, chooses, chosen_is_headed, chosen_named}
use Rattle.law_choices.proofs.InTurnLemmas.Programs.{all_own, all_stand}
use Rattle.law_choices.proofs.OnClocksLemmas.OneMeaning.{ready_nodes}
use Rattle.law_choices.proofs.PlayingLemmas.Asking.{controls, survey, survey_typed}
use Rattle.law_choices.proofs.PlayingLemmas.ControlBits.{of-long}
use Rattle.law_choices.proofs.PlayingLemmas.Holding.{Does, Runs, inputs-held, runs-of}
use Rattle.law_choices.proofs.PlayingLemmas.Programs.{FoundMade, GreatestLaws, differ, find-of, its-choice, kinds-in, typed-here}
use Rattle.law_choices.proofs.SeeingLemmas.Callees.{output-kinds}
use Rattle.law_choices.proofs.SeeingLemmas.Listed.{SameKind}
use Rattle.law_choices.proofs.SeeingLemmas.PlantRuns.{first-same, first_of, in_first, plant-runs}
use Rattle.law_choices.proofs.StreamsLemmas.Alike.{only_law}
use Rattle.law_choices.proofs.StreamsLemmas.Streams.{in_turn}
use Rattle.std.proofs.lemmas.List.{append-nil}
use Rattle.hp_base.specs.declared.ty.Ty.{Ty}
use Rattle.law_automata.specs.Lowered.Standing.{Along}
use Rattle.law_equations.specs.Flattened.Flatten.{At, FlatName}
use Rattle.law_equations.specs.Flattened.Lifted.{in_body}
use Rattle.law_equations.specs.Made.Labels.{AreMadeAt, block_labels}
use Rattle.hp_flat.specs.Equations.{FlatEqn}
use Rattle.law_games.specs.ReadyGames.Laws.{IsInOrder, Stands}
use Rattle.law_choices.specs.Places.Found.{Both, found_in_node}
use Rattle.law_choices.specs.Places.Groups.{AreAlike, IsGroupOf, IsInFront, groups_of_block, in_a_row}
use Rattle.law_choices.specs.Places.Spots.{Spot}
use Rattle.law_choices.specs.Seeing.Around.{outputs_in, types_around}
use Rattle.law_choices.specs.Seeing.Found.{FoundAlike}
use Rattle.law_choices.specs.Seeing.InBody.{free_in_body, no_slots}
use Rattle.law_choices.specs.Flat.Places.{IsOn, values_in}
use Rattle.law_choices.specs.Streams.Places.{KeepsPlacesOf, PlacesLaw, outputs_low}
use Rattle.law_choices.proofs.BroughtLemmas.Apiece.{outputs-anywhere, types_apiece}
use Rattle.law_choices.proofs.BroughtLemmas.Bodies.{body-apiece}
use Rattle.law_choices.proofs.BroughtLemmas.Brought.{Brings, free_types}
use Rattle.law_choices.proofs.OnClocksLemmas.WellMade.{ready_knows}
use Rattle.law_choices.proofs.PlacesLemmas.Grouped.{groups_law}
use Rattle.law_choices.proofs.PlacesLemmas.Numbers.{AtNumber, found-law}
use Rattle.law_choices.proofs.PlacesLemmas.Slots.{outputs_slots}
use Rattle.law_choices.proofs.PlacesLemmas.Standing.{events-alike, standing-law}
use Rattle.law_choices.proofs.SeeingLemmas.HeldInBody.{IsTold, holds}
use Rattle.law_choices.proofs.SeeingLemmas.Outputs.{outputs-known}
use Rattle.law_choices.proofs.SeeingLemmas.Rowed.{all-brought, walked-have}
use Rattle.law_equations.specs.Meaning.Instants as flows
use Rattle.law_wellmade.specs.Timely.Kinds as timely
use Rattle.law_equations.specs.Meaning.Reactions as flat
use Rattle.law_equations.specs.Meaning.Scheduling.{AreBelow}
use Rattle.law_equations.specs.Followed.Programs.{all_answers}
use Rattle.hp_watch.specs.Embedding.{shift_of}
use Rattle.hp_watch.specs.declared.watching.Free.{Free}
use Rattle.law_choices.specs.Choosing.Meaning.{FitsAnswers}
use Rattle.law_choices.specs.Coded.Laws.{IsTypedAt}
use Rattle.law_choices.specs.Embedded.Observed.{outputs_of_instant}
use Rattle.law_choices.specs.Seeing.OwnContract.{CalleesCompareNothing, free_in_contract}
use Rattle.law_choices.specs.Seeing.SeenOwn.{SeenOwnLaw}
use Rattle.law_choices.proofs.AnsweredLemmas.Programs.{gives_kinds}
use Rattle.law_choices.proofs.ClosedLemmas.ClosedLaws.{each_other}
use Rattle.law_choices.proofs.EmbeddedLemmas.Observers.{rows-of-kinds}
use Rattle.law_choices.proofs.EmbeddedLemmas.Outputs.{chosen-inputs, first-outputs, have-inputs, outputs-of-instant, outputs-same}
use Rattle.law_choices.proofs.EmbeddedLemmas.OwnThroughout.{ContractLaws, own-throughout}
use Rattle.law_choices.proofs.EmbeddedLemmas.SiteRows.{outputs-answered}
use Rattle.law_choices.proofs.PlayingLemmas.Asking.{seen}
use Rattle.law_choices.proofs.SeeingLemmas.FoundTold.{found-same, rows-of, targets-told}
use Rattle.law_choices.proofs.SeeingLemmas.HeldRows.{HoldRowsThroughout, HoldsRow}
use Rattle.law_equations.specs.Meaning.Kinding as flat_kinds
use Rattle.law_equations.specs.Made.Labels as made_of

-- the laws that are joined here
pub record InBodyLaws : Type 0 where
  pub greatest : GreatestLaws
  pub meaning : ReadyLaw
  pub places : PlacesLaw
  pub one_under : OneReactionLaw
  pub outputs : flat_kinds.OutputsOfKindsLaw

-- ---- all instants

module _ (nodes : NodeLaws) (types : List ObcType) (all : Callees) (observers : Observing) (program after : List Item) (ranks : List (List ℕ)) (order : IsInOrder program after ranks) (earlier : List Item) (n : Node) (stands : Stands after earlier n) (c : Contracted) (g : Ground types all observers n c) (enums : Enumerations)
    (made : AreMadeOf (known_of (lowered_program after)) (lowered_node enums n) c.plant.eqns) (laid : c.plant.variables ≡ (sketch_node (known_of (lowered_program after)) (lowered_node enums n)).variables) (early : Place → Bool) (flags : (g.is).is_early ≡ early_flags early (slots_of_node after n))
    (kinds : kinds_at types c.plant (range_with_len 0 (length n.inputs)) ≡ timely.kinds_of_decls (types_of after) n.inputs) (out_kinds : (f : List ℕ) → AllByRecursion (λ (d : Decl). SameKind types (types_of after) (known_of (lowered_program after)) d.ty) (outputs_in after f))
    (outs_are : (f : List ℕ) → outputs_of ((known_of (lowered_program after)).nodes f) ≡ outputs_in after f) (differ : ConstructorsDiffer (types_of after)) (sees : CalleesCompareNothing after n) (given_types : List ℕ → List Ty) (L : List (List Ty))
    (brings : Along (AtNumber (Brings given_types (known_of (lowered_program after)) (sketch_node (known_of (lowered_program after)) (lowered_node enums n))) c.plant.eqns) (walked n c.plant) L) (apiece : L ≡ types_apiece (groups_of_block (types_of after) (outputs_in after) no_slots n.body (types_around n) (below Body (λ p. p))))
    (choices : Choices) (answers : Answers) (means : ℕ → FlatName) (labelled : AreMadeAt means (made_of.events c.plant.eqns) (block_labels (λ f. map (λ (d : Decl). d.name) (outputs_in after f)) (lowered_node enums n).body in_body []))
    (single : AllByRecursion (λ (e : FlatEqn). AllByRecursion (λ x. IsOn x e.clock c.plant.eqns) e.targets) (events c.plant.eqns)) where
  abbrev decls : List TypeDecl
  decls = types_of after

  abbrev k : Known
  k = known_of (lowered_program after)

  abbrev low : Node
  low = lowered_node enums n

  abbrev names_out : List ℕ → List (List ℕ)
  names_out f = map (λ (d : Decl). d.name) (outputs_in after f)

  abbrev chosen : FlatNode
  chosen = c.chosen.node

  abbrev count : ℕ
  count = length (controls nodes types all observers n c g)

  abbrev firsts : List flows.Instant → List flows.Instant
  firsts instants = in_first nodes types all observers n c g instants

  abbrev groups : List (List FreePlace)
  groups = groups_of_block decls (outputs_in after) no_slots n.body (types_around n) (below Body (λ p. p))

  -- the places of the contract where its observer stands, and what the equations hold for them throughout
  abbrev own_frees : List Free
  own_frees = let fits = ((g.is).is_watched).fits in map (moved_free (shift_of (fits.own).node (own_site (length n.inputs) c.plant) c.plant)) (fits.own).free

  knows : KnowsOutputs names_out k
  knows f = ap (λ (ds : List Decl). map (λ (d : Decl). d.name) ds) (sym (outs_are f))

  grouped : Along (λ (s : Spot × Spot) (places : List FreePlace). IsGroupOf decls (λ f. outputs_in after f) no_slots IsInFront s.0 places × AreAlike s.0 s.1) (found_in_node names_out n) groups × (in_a_row groups ≡ free_in_body after n)
  grouped = groups_law decls (outputs_in after) no_slots n.body (types_around n) (below Body (λ p. p)) (below Body (λ p. p)) (Body ∷ [], λ p. refl)

  few-inputs : length n.inputs < length c.plant.variables + 1
  few-inputs = let w = ((g.of_node).based).well in let i = w.within in let few = i.inputs in let e = g.inputs in omega (arith, few, e)

  -- one instant
  now-holds : (row : List Value) (older : Past) (free now filled : Instant) (i : flows.Instant) → AreOf decls n.inputs row → Does choices decls earlier n row older free now → Typed after n now → IsPossible types chosen i → map i (inputs_of chosen) ≡ row
      → ((x : ℕ) → c.plant.inputs ≤ x → is_set c.plant.eqns (first_of nodes types all observers n c g i) x ≡ false → first_of nodes types all observers n c g i x ≡ Absent) → FoundAlike names_out n now filled
      → ((v : ℕ) (q : Place) → means v ≡ At q → first_of nodes types all observers n c g i v ≡ filled q) → Along (HoldsRow nodes types all observers program after ranks order earlier n stands c g i now) (free_in_contract after n) own_frees
      → HoldsValues types after n (survey nodes types all observers n c g) i now
  now-holds row older free now filled i of does is_typed possible first others found values own_rows =
      let j = first_of nodes types all observers n c g i in
      let N : Nodes = chosen_nodes choices decls real earlier in
      let given : Given = chosen_given (choices n.name) n row (record { past = older; free = free }) in
      let controls_there = given_to decls real N (controls_of n.contract) (part Controls given.free) in
      let stand = standing-law names_out k enums n c.plant.eqns means knows made labelled in
      let brought = all-brought nodes types all observers n c g k low laid (λ f. outputs_in after f) decls out_kinds outs_are given_types (IsTold j now) (walked n c.plant) L (found_in_node names_out n) groups brings apiece (found-law names_out k enums n c.plant.eqns knows made).0 (grouped).0
      (walked-have (λ (e : FlatEqn). AllByRecursion (λ x. IsOn x e.clock c.plant.eqns) e.targets) n.body c.plant.eqns single) (targets-told means now filled j values c.plant.eqns (walked n c.plant) (found_in_node names_out n) stand found) in
      holds nodes types all observers program after ranks order earlier n stands c g k low laid early flags kinds out_kinds outs_are given_types differ sees groups (grouped).1 j i (λ x l. first-same nodes types all observers n c g i x l) others (survey_typed nodes types all observers n c g i possible) now is_typed row of
      (λ p. does (Inputs ∷ p)) controls_there (λ p. does (Controls ∷ p)) (inputs-held choices decls earlier n row older free now (of-long decls n.inputs row of) does) (ap (λ m. map i (range_with_len 0 m)) (sym (chosen-inputs nodes types all observers n c g)) ∙ first) few-inputs brought own_rows

  all-hold : (rows : List (List Value)) (instants : List flows.Instant) (past others : Past) → AllByRecursion (AreOf decls n.inputs) rows → Reaction answers chosen rows instants → AllByRecursion (IsPossible types chosen) instants → Runs choices decls earlier n rows past
      → Through (λ older now. Typed after n now) past → Reaction answers c.plant (rows_with chosen.inputs count rows instants) (firsts instants) → Along (FoundAlike names_out n) past others
      → ((v : ℕ) (q : Place) → means v ≡ At q → values_at v (firsts instants) ≡ values_in q others) → HoldRowsThroughout nodes types all observers program after ranks order earlier n stands c g (free_in_contract after n) own_frees past instants → HoldThroughout types after n (survey nodes types all observers n c g) instants past
  all-hold [] [] [] others of r q h t p found values own = tt
  all-hold [] [] (now ∷ past) others of r q h t p found values own = absurd h
  all-hold [] (i ∷ instants) past others of r q h t p found values own = absurd r
  all-hold (row ∷ rows) [] past others of r q h t p found values own = absurd r
  all-hold (row ∷ rows) (i ∷ instants) [] others of r q h t p found values own = absurd h
  all-hold (row ∷ rows) (i ∷ instants) (now ∷ past) [] of r q h t p found values own = absurd found
  all-hold (row ∷ rows) (i ∷ instants) (now ∷ past) (filled ∷ others) of r q h t p found values own =
      let here : (v : ℕ) (z : Place) → means v ≡ At z → first_of nodes types all observers n c g i v ≡ filled z = (λ v z e. let both = values v z e in cc) in
      let behind : (v : ℕ) (z : Place) → means v ≡ At z → values_at v (firsts instants) ≡ values_in z others = (λ v z e. let both = values v z e in cc) in
      (all-hold rows instants past others of.1 r.0 q.1 h.0 t.0 p.0 found.1 behind own.0, now-holds row past h.1.0 now filled i of.0 h.1.1 t.1 q.0 (r.1).inputs_are (p.1).others found.0 here own.1)

-- ---- a program

pub seen_own_law : InBodyLaws → ContractLaws → SeenOwnLaw
seen_own_law laws contracts program after ranks observers ms order h silent observable those allowed f n rows past e sees kinds reaction earlier stands c x among instants r =
    let turn = laws.greatest.turn in
    let nodes = (laws.greatest.choice).nodes in
    let types = obc_types (types_of after) in
    let decls = types_of after in
    let low = lowered_program after in
    let all = said_of after ms in
    let answers = (allowed.one).answers in
    let chosen = allowed.allowed in
    let choices = chosen.choices in
    let fs = plants (loops ms) in
    let named : n.name ≡ f = name_found (reverse after) f n e in
    let own : node_among (reverse after) n.name ≡ Some n = ap (node_among (reverse after)) named ∙ e in
    let apart = ready_apart program after h.ready in
    -- the one meaning under these choices
    let fit : AreChoices after choices = (λ g args before a b. chosen.typed g args before) in
    let one = laws.meaning program after h.ready h.removable h.form h.short choices fit fs h.equations in
    let names = laws.places program after ranks h.ready h.removable order.ordered h.form h.short choices (chosen.allowed).values fit fs h.equations one in
    let ready = ready_nodes turn.targets turn.calls program after h.ready h.removable h.form h.short fs h.equations in
    let only = only_law laws.one_under laws.outputs types (callees_of after) (controls_in after) choices fs (in_turn types (known_of low) [] low fs ready.turned) fit one answers chosen.gives in
    let Only : FlatNode → Type 0 = (λ g. (inputs : List (List Value)) → AllByRecursion (AreOfKinds ((callees_of after).takes g.name)) inputs → (is : List flows.Instant) → ReactionUnder choices answers g inputs is → IsOnlyReaction choices one.answers g inputs is) in
    let Keeps : FlatNode → Type 0 = KeepsPlacesOf choices after one.answers in
    let Fits : FlatNode → Type 0 = (λ g. FitsAnswers choices one.answers (callees_of after).takes g) in
    let Both : FlatNode → Type 0 = (λ g. (Only g × Fits g) × Keeps g) in
    let stand = all_stand turn program after observers ms h in
    let at = find-of laws.greatest program after ranks observers ms order h allowed Both n c after ms h.made h.equations (all_own after apart) stand.2 (allowed.one).answered chosen.theirs (each_both (λ g. Only g × Fits g) Keeps Both (λ g a b. (a, b)) fs (each_both Only Fits (λ g. Only g × Fits g) (λ g a b. (a, b)) fs only one.answered) names) among in
    let its = at.0 in
    let found : FoundMade laws.greatest program after ranks observers ms order h allowed n =
    record { earlier = earlier; stands = stands; made = c; ground = its.ground; mirrored = x; kinds = its.kinds; count = its.count; controller = its.controller; its = its.its; teller = its.teller; among = among } in
    let g : Ground types all observers n c = record its.ground { is = x.is } in
    let kinds_in = kinds-in laws.greatest program after ranks observers ms order h allowed n own found in
    let choice = its-choice laws.greatest program after ranks observers ms order h allowed n own found in
    let of = rows-of decls n.inputs rows (differ laws.greatest program after ranks observers ms order h allowed) kinds in
    let reacts = subst (λ z. ChosenReaction choices after z rows past) (sym named) reaction in
    let runs = runs-of choices after earlier n stands apart rows _ past reacts in
    let typed = typed-here laws.greatest program after ranks observers ms order h allowed n own found rows past of runs in
    -- the reaction of the node that chooses, and that of the equations of the node
    let well = (chooses nodes types all observers n c g).0 in
    let headed = chosen_is_headed nodes types all observers n c g in
    let chosen_kinds : kinds_at types c.chosen.node (inputs_of c.chosen.node) ≡ timely.kinds_of_decls decls n.inputs = sym headed.takes ∙ ap all.takes (chosen_named nodes types all observers n c g ∙ sym g.named) ∙ (g.of_node).takes ∙ kinds_in in
    let u = (laws.greatest.choice).one types all answers c.chosen.node well (allowed.one).typed rows (subst (λ ks. AllByRecursion (AreOfKinds ks) rows) (sym chosen_kinds) kinds) in
    let possible : AllByRecursion (IsPossible types c.chosen.node) instants = subst (AllByRecursion (IsPossible types c.chosen.node)) (sym (u.only instants r)) u.possible in
    let plant = plant-runs nodes types all observers n c g (laws.greatest.choice).extended answers rows instants r in
    let js = in_first nodes types all observers n c g instants in
    let under : ReactionUnder choices answers c.plant rows js =
    subst (λ z. Reaction answers c.plant (with_chosen (choices z) rows) js) (sym g.named)
    (subst (λ rs. Reaction answers c.plant rs js) (rows_chosen answers (timely.kinds_of_decls decls n.inputs) (length (x.is).controls) (record { plant = c.plant; closed = c.chosen.node }) (choices n.name) choice rows instants kinds r) plant) in
    -- the names have their values there
    let by_plant : node_among (reverse after) c.plant.name ≡ Some n = ap (node_among (reverse after)) g.named ∙ own in
    let takes : (callees_of after).takes c.plant.name ≡ timely.kinds_of_decls decls n.inputs = ap (callees_of after).takes g.named ∙ takes_kinds program after h.ready h.form n.name n own in
    let keeps = at.1.1 n rows by_plant kinds in
    let one_only = at.1.0.0 rows (subst (λ ks. AllByRecursion (AreOfKinds ks) rows) (sym takes) kinds) js under in
    let same_js : js ≡ keeps.instants = (keeps.is_only).only js one_only.reaction in
    let before = ((keeps.answered).one).before in
    let same_past : SamePasts past before.past = before.only past (subst (λ z. ChosenReaction choices after z rows past) (sym g.named) reacts) in
    -- what is known of places
    let k = known_of low in
    let low_n = lowered_node (enumerations [] after) n in
    let names_out : List ℕ → List (List ℕ) = (λ f. map (λ (d : Decl). d.name) (outputs_in after f)) in
    let outs_are = outputs-known program after h.ready h.removable h.form in
    let same_names : outputs_low after ≡ names_out = fun_ext (λ x. (ready_knows program after h.ready h.removable h.form).calls x ∙ ap (λ (ds : List Decl). map (λ (d : Decl). d.name) ds) (outs_are x)) in
    let labelled = subst (λ (o : List ℕ → List (List ℕ)). AreMadeAt keeps.means (made_of.events c.plant.eqns) (block_labels o low_n.body in_body [])) same_names keeps.labelled in
    let alike = found-same names_out n past before.past keeps.low same_past (subst (λ (o : List ℕ → List (List ℕ)). Along (FoundAlike o n) before.past keeps.low) same_names keeps.found) in
    let values : (v : ℕ) (q : Place) → keeps.means v ≡ At q → values_at v js ≡ values_in q keeps.low = (λ v q e. ap (values_at v) same_js ∙ keeps.values v q e) in
    let given_types : List ℕ → List Ty = (λ x. free_types (outputs_slots (outputs_in after x) (λ p. p))) in
    let B = body-apiece program after h.ready h.removable h.form earlier n stands c.plant its.equations given_types no_slots
    (λ x w. outputs-anywhere (outputs_in after x) (λ p. p) (below Instance w) ∙ sym (ap free_types (append-nil (outputs_slots (outputs_in after x) (below Instance w))))) in
    let single = subst (λ (es : List FlatEqn). AllByRecursion (λ (e : FlatEqn). AllByRecursion (λ x. IsOn x e.clock c.plant.eqns) e.targets) es) (events-alike c.plant.eqns) keeps.alone in
    -- what the equations hold for the contract
    let V = length c.plant.variables in
    let only_js : (rs : List (List Value)) → AllByRecursion (AreOfKinds ((callees_of after).takes c.plant.name)) rs → (others ks : List flows.Instant) → ReactionUnder choices one.answers c.plant rs others → ReactionUnder choices one.answers c.plant rs ks → others ≡ ks =
    (λ rs of_kinds others ks a b. let q = (at.1.1 n rs by_plant (subst (λ z. AllByRecursion (AreOfKinds z) rs) takes of_kinds)).is_only in q.only others a ∙ sym (q.only ks b)) in
    let answered : map (flat.outputs_at c.plant) js ≡ all_answers (one.answers c.plant.name) rows = outputs-answered choices one.answers (callees_of after).takes c.plant at.1.0.1 only_js rows js (subst (λ ks. AllByRecursion (AreOfKinds ks) rows) (sym takes) kinds) one_only.reaction in
    let outputs_past : map (outputs_of_instant n.outputs) past ≡ all_answers (one.answers c.plant.name) rows =
    outputs-same (outputs_of_instant n.outputs) past before.past same_past ∙ ap (λ (q : Instant → List Value). map q before.past) (fun_ext (λ i. outputs-of-instant after c.plant.name n by_plant i)) ∙ (keeps.answered).outputs in
    let low_outputs : AreBelow V c.plant.outputs = (let w = (((g.of_node).based).well).within in w.outputs) in
    let outputs_are : map (outputs_of_instant n.outputs) past ≡ map (λ i. map i c.plant.outputs) instants = outputs_past ∙ sym answered ∙ first-outputs nodes types all observers n c g low_outputs instants in
    let gives : (args : List Value) (prior : List (List Value)) → AreOfKinds (timely.kinds_of_decls decls n.inputs) args → AllByRecursion (AreOfKinds (timely.kinds_of_decls decls n.inputs)) prior → AreOfKinds (timely.kinds_of_decls decls n.outputs) (one.answers c.plant.name args prior) =
    (λ args prior a b. subst (λ ks. AreOfKinds ks (one.answers c.plant.name args prior)) (gives_kinds program after h.ready h.form c.plant.name n by_plant)
    (one.typed c.plant.name args prior (subst (λ ks. AreOfKinds ks args) (sym takes) a) (subst (λ ks. AllByRecursion (AreOfKinds ks) prior) (sym takes) b))) in
    let observed_kinds = rows-of-kinds (timely.kinds_of_decls decls n.inputs) (timely.kinds_of_decls decls n.outputs) (one.answers c.plant.name) gives n.outputs rows past kinds outputs_past in
    let own_held = own-throughout contracts nodes program after ranks observers ms order h silent observable those earlier n stands own its.contract.0 its.contract.1 c g choices answers rows past instants observed_kinds (each_other (AreOf decls n.inputs) (λ (row : List Value). length row ≡ length n.inputs) (λ row o. of-long decls n.inputs row o) rows of) reacts r (have-inputs nodes types all observers n c g answers rows instants r) outputs_are
    (each_other (IsPossible types c.chosen.node) (IsTypedAt types (survey nodes types all observers n c g).node ((seen nodes types all observers n c g).keeps).clocks) (λ i p. survey_typed nodes types all observers n c g i p) instants possible) in
    all-hold nodes types all observers program after ranks order earlier n stands c g (enumerations [] after) (its.equations).eqns (its.equations).variables (x.mirrors).is_early x.flags kinds_in (output-kinds program after h.ready h.form) outs_are (differ laws.greatest program after ranks observers ms order h allowed) sees
    given_types B.0 B.1 (B.2 (below Body (λ p. p))) choices answers keeps.means labelled single rows instants past keeps.low of r possible runs typed plant alike values own_held
