-- Of a ready program: what the bodies of its nodes bring.
use Rattle.std.proofs.Common.{◌≡◌, ⊎_elim, ℕ, false, List, [], ◌∷◌, ◌++◌, map, reverse, Option, None, Some, refl, sym, ap, subst, ◌∙◌}
use Rattle.std.specs.Prelude.{option_map}
use Rattle.std.proofs.lemmas.List.{append-nil}
use Rattle.hp_base.specs.declared.ty.Const.{Const}
use Rattle.hp_base.specs.declared.ty.Ty.{Ty}
use Rattle.hp_base.specs.Known.Known.{lookup}
use Rattle.hp_obc.specs.Form.{TypesForm}
use Rattle.hp_flat.specs.Nodes.{FlatNode}
use Rattle.hp_tree.specs.Blocks.{Decl}
use Rattle.hp_tree.specs.ExpressionTypes.{typed_in, untyped}
use Rattle.hp_tree.specs.Instant.{Instance}
use Rattle.hp_tree.specs.Meaning.{controls_of, declares, node_among, types_of}
use Rattle.hp_tree.specs.Programs.{Node, TypeDecl}
use Rattle.hp_tree.specs.declared.program.Item.{Item}
use Rattle.hp_tree.specs.declared.program.Item.TheVariants.{NodeItem, TypeItem}
use Rattle.hp_typing.specs.Scopes.{inside_node, with_type, with_variables}
use Rattle.hp_expand.specs.Numbering.{replaced}
use Rattle.hp_meaning.specs.Contract.Slots.{Slot, slots_of_block}
use Rattle.law_judged.specs.Named.Scoped.{EachNode, NodeScoped, also, no_names}
use Rattle.law_judged.specs.Replaced.Fitting.{NodeNames}
use Rattle.law_judged.specs.Typed.Scopes.{Scope}
use Rattle.law_judged.proofs.NamedLemmas.Sets.{or_cases}
use Rattle.law_values.specs.Accepted.Laws.{IsReady}
use Rattle.law_values.specs.Valued.Judged.{ConstantIs, NodeSound, body_scope, lasts_in, no_lasts}
use Rattle.law_values.specs.Valued.Values.{scope_behind}
use Rattle.law_values.proofs.AcceptedLemmas.ClocksKept.{SameDecls}
use Rattle.law_values.proofs.AcceptedLemmas.Swaps.{NodesAlike, node_to}
use Rattle.hp_automata.specs.Lowering.{Enumerations, enumerations, lowered_item, lowered_node, lowered_program, same_name}
use Rattle.hp_automata.specs.Lowering as lowering
use Rattle.law_automata.specs.Lowered.OldNames.{IsOld}
use Rattle.law_automata.specs.Lowered.Removable.{IsRemovable, NodeOk}
use Rattle.law_automata.specs.Lowered.Standing.{Along}
use Rattle.law_automata.specs.Readied.Constants.{HasConstant, NodeTypes}
use Rattle.law_automata.specs.Readied.Sound.{ConstantsBehind, SoundBehind}
use Rattle.law_automata.proofs.LowerableLemmas.Runs.{lowered_among}
use Rattle.law_automata.proofs.LowerableLemmas.Texts.{clocked_of, each_reverse}
use Rattle.law_automata.proofs.LoweredLemmas.Nodes.{itself_renames}
use Rattle.law_automata.proofs.LoweredLemmas.RightSteps.{controls_same}
use Rattle.law_automata.proofs.ReadiedLemmas.Places.{Place}
use Rattle.law_automata.proofs.ReadiedLemmas.SoundNodes.{place}
use Rattle.law_automata.proofs.ReadiedLemmas.SoundPrograms.{each_ok, ready_sound_law}
use Rattle.law_automata.proofs.ReadiedLemmas.Whole.{ready_scoped}
use Rattle.law_automata.proofs.ReadiedLemmas.TypesKept.{node_weaker}
use Rattle.law_drawing.proofs.InshapeLemmas.TypesRead.{agrees_body}
use Rattle.law_equations.specs.Answered.Answering.{AreApart}
use Rattle.law_equations.specs.Flattened.Flatten.{Prefix, below}
use Rattle.law_equations.specs.Made.Making.{Known, sketch_node}
use Rattle.law_equations.specs.Made.Types.{obc_types_of}
use Rattle.law_games.specs.ReadyGames.Laws.{Stands}
use Rattle.hp_complete.specs.Declaring.{known_of}
use Rattle.hp_complete.specs.Made.{IsMadeOf}
use Rattle.law_wellmade.proofs.BegunLemmas.Beginning.{sound_at}
use Rattle.law_wellmade.proofs.BegunLemmas.BlockRegisters.{grounded_more}
use Rattle.law_wellmade.proofs.BegunLemmas.Grounds.{grounded}
use Rattle.law_wellmade.proofs.BegunLemmas.Items.{no_variables, some_constructors}
use Rattle.law_wellmade.proofs.BegunLemmas.NamesApart.{lowered_apart}
use Rattle.law_wellmade.proofs.BegunLemmas.Typing.{Grounded}
use Rattle.hp_watch.specs.Walk.{events_from, walk_block}
use Rattle.hp_meaning.specs.Contract.FreePlaces.{declared_outputs}
use Rattle.law_choices.proofs.BroughtLemmas.Alone.{brought-alike}
use Rattle.law_choices.proofs.BroughtLemmas.Blocks.{node-brings}
use Rattle.law_choices.specs.Places.Groups.{groups_of_block}
use Rattle.law_choices.proofs.BroughtLemmas.Apiece.{row-types, types_apiece, types_of_places}
use Rattle.law_choices.proofs.BroughtLemmas.Brought.{Brings, brought_in_block, free_types, joined_types}
use Rattle.law_choices.proofs.BroughtLemmas.Walks.{Judging, block-sees}
use Rattle.law_choices.proofs.FlatLemmas.Among.{each_at}
use Rattle.law_choices.proofs.ObservedLemmas.Programs.{IsStanding, ready_standing, with_automata}
use Rattle.law_choices.proofs.ObservedLemmas.Standing.{ConstantsAre, constant_there, has_constant, nodes_known}
use Rattle.law_choices.proofs.ObservedLemmas.Standing as standing
use Rattle.law_choices.proofs.OnClocksLemmas.Programs.{some_of}
use Rattle.law_choices.proofs.PlacesLemmas.Numbers.{AtNumber, numbered}
use Rattle.law_choices.proofs.PlacesLemmas.Relating.{block-goes}
use Rattle.law_choices.proofs.PlacesLemmas.Grouped.{block-row}
use Rattle.law_choices.proofs.PlacesLemmas.Slots.{outputs_slots}
use Rattle.law_choices.proofs.SeeingLemmas.Outputs.{low-stands, outs-are}

-- ---- what is known of the node at a place

pub constants_at : (types : List TypeDecl) (later earlier : List Item) (n : Node) → ConstantsAre types (later ++ NodeItem n ∷ earlier) → (c : Const) → ConstantIs types (scope_behind earlier) c
constants_at types [] earlier n h = h.0
constants_at types (TypeItem t ∷ later) earlier n h = constants_at types later earlier n h
constants_at types (NodeItem m ∷ later) earlier n h = constants_at types later earlier n h.1

pub has_at : (enums : Enumerations) (later earlier : List Item) (n : Node) → ConstantsBehind enums (later ++ NodeItem n ∷ earlier) → NodeTypes (HasConstant enums (scope_behind earlier)) n
has_at enums [] earlier n h = h.0
has_at enums (TypeItem t ∷ later) earlier n h = has_at enums later earlier n h
has_at enums (NodeItem m ∷ later) earlier n h = has_at enums later earlier n h.1

pub apart_behind : (later items : List Item) → AreApart (later ++ items) → AreApart items
apart_behind [] items h = h
apart_behind (TypeItem t ∷ later) items h = apart_behind later items h
apart_behind (NodeItem m ∷ later) items h = apart_behind later items h.1

pub apart_further : (n : Node) (items : List Item) → AreApart (NodeItem n ∷ items) → AreApart items
apart_further n items h = h.1

-- the scope behind items without automata has other nodes alone
same_scope : (enums : Enumerations) (items : List Item) → scope_behind (map (lowered_item enums) items) ≡ record (scope_behind items) { nodes = (scope_behind (map (lowered_item enums) items)).nodes }
same_scope enums [] = refl
same_scope enums (TypeItem t ∷ items) = ap (λ z. with_type z t) (same_scope enums items)
same_scope enums (NodeItem n ∷ items) = ap (λ (z : Scope). record z { nodes = (scope_behind (map (lowered_item enums) (NodeItem n ∷ items))).nodes }) (same_scope enums items)

same_decls : (ds : List Decl) → SameDecls ds ds
same_decls [] = tt
same_decls (d ∷ ds) = ((refl, (refl, refl)), same_decls ds)

alike : (enums : Enumerations) (o : Option Node) → NodesAlike o (option_map (lowered_node enums) o)
alike enums None = tt
alike enums (Some n) = (same_decls n.inputs, same_decls n.outputs)

-- what a walk finds where nothing is behind
pub found_first : {X : Type 0} (v : List X → List X × List X) (labels others found : List X) → others ≡ labels → ((rest : List X) → v (labels ++ rest) ≡ (found, rest)) → (v others).0 ≡ found
found_first {X = X} v labels others found e h = ap (λ xs. (v xs).0) (e ∙ sym (append-nil labels)) ∙ ap (λ (x : List X × List X). x.0) (h [])

module _ (program after : List Item) (r : IsReady program after) (removable : IsRemovable after) (form : TypesForm (obc_types_of program)) where
  abbrev types : List TypeDecl
  types = types_of after

  abbrev enums : Enumerations
  enums = enumerations [] after

  abbrev low : List Item → List Item
  low items = map (lowered_item enums) items

  abbrev low_program : List Item
  low_program = lowered_program after

  apart_low : AreApart (reverse low_program)
  apart_low = lowered_apart program after r.named (clocked_of (replaced program) after r.clocks)

  apart : AreApart (reverse after)
  apart = with_automata enums after [] [] (λ f. refl) tt apart_low

  there : IsStanding types enums (reverse after)
  there = ready_standing program after r (some_of (types_of program) form.counts)

  module _ (earlier : List Item) (n : Node) (stands : Stands after earlier n) where
    okay : NodeOk n
    okay = (each_at NodeOk stands.0 n earlier (subst (EachNode NodeOk) stands.1 (each_reverse NodeOk after (each_ok after removable)))).0

    scoped : NodeScoped n
    scoped = (each_at NodeScoped stands.0 n earlier (subst (EachNode NodeScoped) stands.1 (each_reverse NodeScoped after (ready_scoped program after r)))).0

    old : NodeNames IsOld n
    old = (each_at (NodeNames IsOld) stands.0 n earlier (subst (EachNode (NodeNames IsOld)) stands.1 (there).old)).0

    abbrev s : Scope
    s = scope_behind earlier

    sound : NodeSound types (node_among earlier) s n
    sound = sound_at types stands.0 earlier n (subst (SoundBehind types) stands.1 (there).sound)

    constants : (c : Const) → ConstantIs types s c
    constants = constants_at types stands.0 earlier n (subst (ConstantsAre types) stands.1 (there).constants)

    has : NodeTypes (HasConstant enums s) n
    has = has_at enums stands.0 earlier n (subst (ConstantsBehind enums) stands.1 (there).has)

    abbrev k_low : Known
    k_low = known_of low_program

    abbrev low_n : Node
    low_n = lowered_node enums n

    abbrev q_low : Scope
    q_low = scope_behind (low earlier)

    abbrev body_stands : (later : List Item) × (reverse low_program ≡ later ++ NodeItem low_n ∷ low earlier)
    body_stands = low-stands program after r removable form earlier n stands

    ground_low : Grounded k_low q_low
    ground_low = grounded low_program (body_stands).0 (low earlier) low_n (body_stands).1 apart_low

    apart_earlier : AreApart earlier
    apart_earlier = apart_further n earlier (apart_behind stands.0 (NodeItem n ∷ earlier) (subst AreApart stands.1 apart))

    apart_low_earlier : AreApart (low earlier)
    apart_low_earlier = apart_further low_n (low earlier) (apart_behind (body_stands).0 (NodeItem low_n ∷ low earlier) (subst AreApart (body_stands).1 apart_low))

    known_low : (f : List ℕ) → lookup q_low.nodes f ≡ node_among (low earlier) f
    known_low = nodes_known (low earlier) apart_low_earlier

    sound_low : NodeSound types (node_among (low earlier)) q_low low_n
    sound_low = sound_at types (body_stands).0 (low earlier) low_n (subst (SoundBehind types) (body_stands).1 (ready_sound_law program after r removable (some_constructors program (some_of (types_of program) form.counts))))

    -- the node with its automata, among nodes without
    sound_among : NodeSound types (node_among (low earlier)) q_low n
    sound_among =
        let alike_at : (f : List ℕ) → NodesAlike (lookup s.nodes f) (lookup q_low.nodes f) =
        λ f. subst (λ o. NodesAlike o (lookup q_low.nodes f)) (sym (nodes_known earlier apart_earlier f)) (subst (λ o. NodesAlike (node_among earlier f) o) (sym (known_low f ∙ lowered_among enums earlier f)) (alike enums (node_among earlier f))) in
        subst (λ z. NodeSound types (node_among (low earlier)) z n) (sym (same_scope enums earlier)) (node_to types (node_among earlier) (node_among (low earlier)) q_low.nodes known_low n s alike_at sound)

    conses_low : q_low.constructors ≡ s.constructors
    conses_low = ap (λ (z : Scope). z.constructors) (same_scope enums earlier)

    has_low : NodeTypes (HasConstant enums q_low) n
    has_low = node_weaker (HasConstant enums s) (HasConstant enums q_low) (has_constant types enums s q_low conses_low) n has

    abbrev cs : List Decl
    cs = controls_of n.contract

    place_low : Place types (node_among (low earlier)) enums q_low 0 same_name (lowering.types_of n) (body_scope q_low n) (body_scope q_low n) (lasts_in n.outputs no_lasts) (lasts_in n.outputs no_lasts) (also (also (also no_names n.inputs) n.outputs) cs) (also no_names n.outputs)
    place_low =
        let h = sound_among in
        place types (node_among (low earlier)) enums q_low n ((λ c. constant_there types s q_low conses_low c (constants c)), known_low) (standing.no_variables (low earlier)) (scoped).once (has_low).0 cs (also no_names n.outputs) (λ x q. ⊎_elim (λ w. w) (λ w. absurd (cc w)) (or_cases (declares n.outputs x) false q))
        (lasts_in n.outputs no_lasts) (old).interface h.1.0.0 h.1.0.1 h.1.1.0

    abbrev outs : List ℕ → List Decl
    outs f = declared_outputs (node_among (reverse after) f)

    -- The comparisons and calls of the node's equations bring what a walk over its body finds, one by one in the order of slots.
    pub body-apiece : (plant : FlatNode) → IsMadeOf k_low low_n plant → (given : List ℕ → List Ty) (callee : List ℕ → Prefix → List Slot) → ((f : List ℕ) (w : Prefix) → given f ≡ free_types (outputs_slots (outs f) (below Instance w) ++ callee f (below Instance w)))
        → (L : List (List Ty)) × Along (AtNumber (Brings given k_low (sketch_node k_low low_n)) plant.eqns) (walk_block n.body (events_from 0 plant.eqns)).0 L
        × ((w : Prefix) → L ≡ types_apiece (groups_of_block types outs callee n.body (typed_in cs (typed_in n.inputs (typed_in n.outputs untyped))) w))
    body-apiece plant made given callee calls =
        let h = sound_among in
        let sk = sketch_node k_low low_n in
        let p = place_low in
        let scope = body_scope q_low n in
        let ground_body : Grounded k_low scope = grounded_more k_low cs (inside_node q_low n) (grounded_more k_low n.outputs (with_variables q_low n.inputs) (grounded_more k_low n.inputs q_low ground_low)) in
        let j : Judging types (node_among (low earlier)) given outs callee calls scope scope scope (typed_in cs (typed_in n.inputs (typed_in n.outputs untyped))) =
        record { grows = p.grows; within = λ x t e. e; agrees = agrees_body types (node_among (low earlier)) q_low n (no_variables (low earlier)) h; knows = outs-are program after r removable form scope ground_body } in
        let S = block-sees types (node_among (low earlier)) given outs callee calls enums q_low itself_renames p n.span [] n.body (okay).body (scoped).body (has_low).1.1 h.1.1.1.1.0 (λ x e. absurd cc) (λ x e. absurd cc) scope (typed_in cs (typed_in n.inputs (typed_in n.outputs untyped))) (lasts_in n.outputs no_lasts) j h.1.1.1.1.0 in
        let labels = brought_in_block given scope low_n.body in
        let others = brought_in_block given (body_scope q_low low_n) low_n.body in
        let same_labels : others ≡ labels = ap (λ ds. brought_in_block given (with_variables (inside_node q_low n) ds) low_n.body) (controls_same enums (lowering.types_of n) n.contract) in
        let events = brought-alike given k_low sk plant.eqns sk.eqns others made.eqns (node-brings given k_low types (node_among (low earlier)) q_low low_n (no_variables (low earlier)) ground_low sound_low) in
        let numbers = numbered (Brings given k_low sk) [] plant.eqns others events in
        let walked = (block-goes (AtNumber (Brings given k_low sk) plant.eqns) n.body (events_from 0 plant.eqns) others numbers).0 in
        let found : (walk_block n.body others).0 ≡ S.0 = found_first (walk_block n.body) labels others S.0 same_labels S.1 in
        (S.0, subst (Along (AtNumber (Brings given k_low sk) plant.eqns) (walk_block n.body (events_from 0 plant.eqns)).0) found walked, S.2)

    -- in a row
    pub body-brings : (plant : FlatNode) → IsMadeOf k_low low_n plant → (given : List ℕ → List Ty) (callee : List ℕ → Prefix → List Slot) → ((f : List ℕ) (w : Prefix) → given f ≡ free_types (outputs_slots (outs f) (below Instance w) ++ callee f (below Instance w)))
        → (L : List (List Ty)) × Along (AtNumber (Brings given k_low (sketch_node k_low low_n)) plant.eqns) (walk_block n.body (events_from 0 plant.eqns)).0 L
        × ((w : Prefix) → joined_types L ≡ free_types (slots_of_block types outs callee n.body (typed_in cs (typed_in n.inputs (typed_in n.outputs untyped))) w))
    body-brings plant made given callee calls =
        let B = body-apiece plant made given callee calls in
        let names = typed_in cs (typed_in n.inputs (typed_in n.outputs untyped)) in
        (B.0, B.1, λ w. ap joined_types (B.2 w) ∙ row-types (groups_of_block types outs callee n.body names w) ∙ ap types_of_places (block-row types outs callee n.body names w))
