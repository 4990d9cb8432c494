-- Reactions with chosen values, before and after automata are removed.
use Rattle.std.proofs.Common.{◌≡◌, ℕ, Bool, true, false, List, [], ◌∷◌, map, reverse, refl, sym, ap, ap₂, ◌∙◌}
use Rattle.std.proofs.Math.Path.{fun_ext}
use Rattle.std.specs.Prelude.{⊤, if◌then◌else◌}
use Rattle.std.specs.Str.{bytes_eq}
use Rattle.hp_base.specs.declared.value.Value.{Value}
use Rattle.hp_base.specs.declared.value.Value.TheVariants.{Absent}
use Rattle.hp_tree.specs.declared.program.Item.{Item}
use Rattle.hp_tree.specs.declared.program.Item.TheVariants.{TypeItem, NodeItem}
use Rattle.hp_tree.specs.Blocks.{Decl}
use Rattle.hp_tree.specs.Programs.{TypeDecl, Node}
use Rattle.hp_tree.specs.Operators.{is_there}
use Rattle.hp_tree.specs.Instant.{Inputs, Named, Fresh, Head, Tail, Place, Instant, Past, Given, part, alone, in_row}
use Rattle.hp_tree.specs.Meaning.{Nodes, names_of, node, types_of as program_types, controls_of}
use Rattle.hp_tree.specs.Reaction.{Each, row_of}
use Rattle.hp_meaning.specs.Causal.OneReaction.{ReactionOf}
use Rattle.hp_automata.specs.Lowering.{Enumerations, enumerations, lowered_item, lowered_node, lowered_program}
use Rattle.law_automata.specs.Lowered.Removable.{NodeOk, IsRemovable}
use Rattle.law_automata.specs.Lowered.Standing.{Relation, Along, NodeStands, either_is, stands_among, Stands}
use Rattle.law_automata.specs.Lowered.Giving.{reading, NodeGiven}
use Rattle.law_automata.specs.Lowered.Deciding.{IfThere, NodeDecided, decided_among, IsDecided}
use Rattle.law_automata.proofs.LoweredLemmas.Callees.{Met, Callees}
use Rattle.law_automata.proofs.LoweredLemmas.Nodes.{node_met}
use Rattle.law_automata.proofs.LoweredLemmas.Programs.{removable_reverse, map_reverse, types_same}
use Rattle.law_automata.proofs.LoweredLemmas.Uncontrolled.{nil, block_all, contract_all}
use Rattle.law_choices.specs.Choosing.Choices.{Choice, Choices}
use Rattle.law_choices.specs.Runs.Chosen.{inputs_at, chosen_given, chosen_nodes, chosen_meaning}

-- ---- the same is chosen

same_row : (ds : List Decl) (i j : Instant) → ((p : Place) → i p ≡ j p) → row_of ds i ≡ row_of ds j
same_row [] i j h = refl
same_row (d ∷ ds) i j h = ap₂ (λ (v : Value) vs. v ∷ vs) (h (Head ∷ [])) (same_row ds (part Tail i) (part Tail j) (λ p. h (Tail ∷ p)))

-- instants that stand for others have the same inputs
same_inputs : (callee : List ℕ → Relation) (n : Node) (past other : Past) → Along (NodeStands callee n) past other → map (inputs_at n) past ≡ map (inputs_at n) other
same_inputs callee n [] [] a = refl
same_inputs callee n [] (j ∷ other) a = absurd a
same_inputs callee n (i ∷ past) [] a = absurd a
same_inputs callee n (i ∷ past) (j ∷ other) a =
    ap₂ (λ (vs : List Value) rest. vs ∷ rest) (same_row n.inputs (part Inputs i) (part Inputs j) a.0.inputs) (same_inputs callee n past other a.1)

-- nothing else is given
abbrev Anything : List ℕ → Relation
Anything f i j = ⊤

same_given : (callee : List ℕ → Relation) (choice : Choice) (n : Node) (inputs : List Value) (g g' : Given) → Along (NodeStands callee n) g.past g'.past → NodeGiven nil Anything n (chosen_given choice n inputs g).free (chosen_given choice n inputs g').free
same_given callee choice n inputs g g' a = (
  ap (λ rows. row_of (controls_of n.contract) (in_row (map alone (choice inputs rows)))) (same_inputs callee n g.past g'.past a),
  block_all Anything (λ f i j. tt) n.body _ _,
  contract_all Anything (λ f i j. tt) n.contract _ _,
)

-- ---- the nodes of a program

module _ (choices : Choices) (types : List TypeDecl) (enums : Enumerations) where
  abbrev before : List Item → Nodes
  before items = chosen_nodes choices types (reading nil) items

  abbrev after : List Item → Nodes
  after items = chosen_nodes choices types (reading nil) (map (lowered_item enums) items)

  abbrev Known : List Item → Type 0
  Known items = Callees (before items) (after items) (stands_among items) Anything (decided_among items)

  none : Known []
  none = record {
    outputs = λ f. refl;
    fresh = λ f i j h. h (Fresh ∷ []);
    named = λ f i j h x. h (Named x ∷ []);
    step = λ f inputs g g' now past free dec m. ((λ p. Absent), refl, λ p. ap (λ i. i p) m);
  }

  module _ (n : Node) (earlier : List Item) (ok : NodeOk n) (C : Known earlier) where
    fresh_by : (t : Bool) (f : List ℕ) (i j : Instant) → either_is t (NodeStands (stands_among earlier) n i j) (stands_among earlier f i j) → i (Fresh ∷ []) ≡ j (Fresh ∷ [])
    fresh_by true f i j h = h.fresh
    fresh_by false f i j h = C.fresh f i j h

    named_by : (t : Bool) (f : List ℕ) (i j : Instant) → either_is t (NodeStands (stands_among earlier) n i j) (stands_among earlier f i j) → (x : List ℕ) → i (Named x ∷ []) ≡ j (Named x ∷ [])
    named_by true f i j h = h.outputs
    named_by false f i j h = C.named f i j h

    step_by : (t : Bool) (f : List ℕ) (inputs : List Value) (g g' : Given) (now : Instant) → Along (λ i j. either_is t (NodeStands (stands_among earlier) n i j) (stands_among earlier f i j)) g.past g'.past
        → IfThere (λ i. either_is t (NodeDecided (decided_among earlier) n i) (decided_among earlier f i)) now
        → now ≡ (if t then node types (reading nil) (before earlier) n inputs (chosen_given (choices n.name) n inputs g) now else (before earlier).instant f inputs g now)
        → Met (λ j. either_is t (NodeStands (stands_among earlier) n now j) (stands_among earlier f now j)) (λ j. if t then node types (reading nil) (after earlier) (lowered_node enums n) inputs (chosen_given (choices n.name) n inputs g') j else (after earlier).instant f inputs g' j)
    step_by true f inputs g g' now past dec m =
        node_met types nil (before earlier) (after earlier) (stands_among earlier) Anything (decided_among earlier) C enums n ok inputs (chosen_given (choices n.name) n inputs g) (chosen_given (choices n.name) n inputs g') now past
        (same_given (stands_among earlier) (choices n.name) n inputs g g' past) (dec (ap (λ i. is_there (i (Fresh ∷ []))) m)) m
    step_by false f inputs g g' now past dec m = C.step f inputs g g' now past tt dec m

    more : Known (NodeItem n ∷ earlier)
    more = record {
      outputs = λ f. ap (λ os. if bytes_eq n.name f then names_of n.outputs else os) (C.outputs f);
      fresh = λ f i j h. fresh_by (bytes_eq n.name f) f i j h;
      named = λ f i j h x. named_by (bytes_eq n.name f) f i j h x;
      step = λ f inputs g g' now past free dec m. step_by (bytes_eq n.name f) f inputs g g' now past dec m;
    }

  -- the last one first
  callees : (items : List Item) → IsRemovable items → Known items
  callees [] ok = none
  callees (TypeItem t ∷ items) ok =
      let C = callees items ok in
      record { outputs = C.outputs; fresh = C.fresh; named = C.named; step = C.step }
  callees (NodeItem n ∷ items) ok = more n items ok.0 (callees items ok.1)

-- ---- reactions

module _ (choices : Choices) (program : List Item) (ok : IsRemovable program) (f : List ℕ) where
  instant_met : (inputs : List Value) (g g' : Given) (now : Instant) → Along (Stands program f) g.past g'.past → IfThere (IsDecided program f) now → now ≡ chosen_meaning choices (reading nil) program f inputs g now
      → Met (Stands program f now) (λ j. chosen_meaning choices (reading nil) (lowered_program program) f inputs g' j)
  instant_met inputs g g' now past dec m =
      let enums = enumerations [] program in
      let types = program_types program in
      let made = (callees choices types enums (reverse program) (removable_reverse program ok)).step f inputs g g' now past tt dec m in (
        made.0,
        made.1 ∙ ap₂ (λ ts items. (chosen_nodes choices ts (reading nil) items).instant f inputs g' made.0) (sym (types_same enums program)) (sym (map_reverse (lowered_item enums) program)),
        made.2,
      )

  -- Each reaction in which conditions of transitions have truth values gives one without automata that stands for it.
  pub chosen_kept : (inputs : List (List Value)) (frees frees' : List Instant) (past : Past) → Along (λ (i j : Instant). ⊤) frees frees' → ReactionOf (chosen_meaning choices (reading nil) program f) inputs frees past → Each (IsDecided program f) past
      → (past' : Past) × ReactionOf (chosen_meaning choices (reading nil) (lowered_program program) f) inputs frees' past' × Along (Stands program f) past past'
  chosen_kept [] [] [] [] h r d = ([], tt, tt)
  chosen_kept (inputs ∷ earlier) (free ∷ frees) (free' ∷ frees') (now ∷ past) h r d =
      let rest = chosen_kept earlier frees frees' past h.1 r.0 d.1 in
      let made = instant_met inputs (record { past = past; free = free }) (record { past = rest.0; free = free' }) now rest.2 (λ there. d.0) (fun_ext r.1) in
      (made.0 ∷ rest.0, (rest.1, λ p. ap (λ i. i p) made.1), (made.2, rest.2))
  chosen_kept [] (free ∷ frees) frees' past h r d = absurd r
  chosen_kept [] [] (free ∷ frees) past h r d = absurd h
  chosen_kept [] [] [] (now ∷ past) h r d = absurd r
  chosen_kept (inputs ∷ earlier) [] frees' past h r d = absurd r
  chosen_kept (inputs ∷ earlier) (free ∷ frees) [] past h r d = absurd h
  chosen_kept (inputs ∷ earlier) (free ∷ frees) (free' ∷ frees') [] h r d = absurd r
