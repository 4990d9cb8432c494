-- The slots of a node are in shape: those of its own parts, and those of the contracts of the nodes that it calls, which call nothing.
use Rattle.std.proofs.Common.{◌≡◌, ℕ, List, [], ◌∷◌, ◌++◌, reverse, sym, ap, subst, ◌∙◌}
use Rattle.std.specs.Prelude.{Bool, true, false, if◌then◌else◌, Option, None, Some}
use Rattle.std.specs.Str.{bytes_eq}
use Rattle.hp_base.specs.declared.value.Value.{Value}
use Rattle.hp_tree.specs.declared.program.Item.{Item}
use Rattle.hp_tree.specs.declared.program.Item.TheVariants.{TypeItem, NodeItem}
use Rattle.hp_tree.specs.Blocks.{Decl}
use Rattle.hp_tree.specs.ExpressionTypes as tree
use Rattle.hp_tree.specs.ExpressionTypes.{typed_in, untyped}
use Rattle.hp_tree.specs.Instant.{Inputs, Controls, Body, Place, Instant, part}
use Rattle.hp_tree.specs.Meaning.{types_of, controls_of, node_among}
use Rattle.hp_tree.specs.Programs.{TypeDecl, Contract, Node}
use Rattle.hp_typing.specs.Scopes.{with_variables, inside_node}
use Rattle.law_judged.specs.Typed.Scopes.{Scope}
use Rattle.hp_meaning.specs.Causal.Sources.{below}
use Rattle.hp_meaning.specs.Causal.Steering.{steered_by}
use Rattle.hp_init.specs.Classes.{Assignment}
use Rattle.hp_meaning.specs.Contract.Game.{Choice, at_controls}
use Rattle.hp_meaning.specs.Contract.Slots.{Slot, input, control, callee_slots, slots_of_contract, slots_of_block, slots_of_node}
use Rattle.law_values.specs.Valued.Judged.{no_lasts, lasts_in, body_scope, ContractSound}
use Rattle.law_values.specs.Valued.Values.{Classing, NodeAccepted, AreAccepted, class_behind, scope_behind, either_of}
use Rattle.law_values.proofs.ValuedLemmas.Typed.{some_is}
use Rattle.law_values.proofs.FilledLemmas.Constructors.{ConsTyped, cons_inside, cons_behind, types_behind, behind_one}
use Rattle.law_values.proofs.FilledLemmas.Programs.{no_variables}
use Rattle.law_games.specs.Wiretyped.Kept.{RowGiven, BlockGiven, ContractGiven}
use Rattle.law_games.specs.Wiretyped.Callees.{none_kept, any_given, OwnKept, AloneKept, AloneGiven, CalleeKept, CalleeGiven}
use Rattle.law_games.specs.Wiretyped.Laws.{InShape, GivenFits}
use Rattle.law_games.specs.Wiretyped.Typed.{AreWires}
use Rattle.law_games.specs.Mirror.Mirrored.{given_with}
use Rattle.hp_drawing.specs.Told.{Told}
use Rattle.law_drawing.specs.Carrying.Calls.{lasts_slots, outputs_slots}
use Rattle.law_drawing.specs.Carrying.Drawable.{NodeDrawable, ContractDrawable}
use Rattle.law_drawing.specs.Carrying.Nodes.{row_slots, EarlierDrawable}
use Rattle.law_drawing.specs.Mirroring.Codes.{AreInShape, AreNumbered}
use Rattle.law_drawing.proofs.InshapeLemmas.Pieces.{join, lasts, inputs, controls, outputs, inputs_given}
use Rattle.law_drawing.proofs.InshapeLemmas.TypesRead.{agrees_seen, agrees_body}
use Rattle.law_drawing.proofs.InshapeLemmas.Blocks.{of_block, of_contract}

abbrev no_slots : List ℕ → (Place → Place) → List Slot
no_slots f w = []

abbrev no_outputs : List ℕ → List Decl
no_outputs f = []

abbrev decls_by : Option Node → List Decl
decls_by None = []
decls_by (Some n) = n.outputs

-- the constructors of a scope are those of the types
conses_behind : (types : List TypeDecl) (items : List Item) (more : List TypeDecl) → types ≡ types_behind items ++ more → ConsTyped types (scope_behind items)
conses_behind types items more e c u z = ap (λ r. tree.type_with r c) e ∙ (cons_behind items).found c u z more

conses_in : (types : List TypeDecl) (s : Scope) (n : Node) → ConsTyped types s → ConsTyped types (inside_node s n)
conses_in types s n c = cons_inside types n.outputs (with_variables s n.inputs) (cons_inside types n.inputs s c)

module _ (types : List TypeDecl) (numbered : AreNumbered types) (memory given : Instant) where
  abbrev Good : List Slot → Type 0
  Good ss = AreInShape types memory given ss

  both : (ss ts : List Slot) → Good ss → Good ts → Good (ss ++ ts)
  both ss ts h k = join types memory given ss ts h k

  -- ---- the instance of a node

  module _ (items : List Item) (class : Assignment) (n : Node) (acc : NodeAccepted types (node_among items) (scope_behind items) class n) (d : NodeDrawable (scope_behind items) n) (conses : ConsTyped types (scope_behind items)) where
    -- `last` outputs, and the contract, which calls nothing
    owned : (o : Option Contract) (w : Place → Place) (start : Instant) → ContractDrawable (inside_node (scope_behind items) n) o → ContractSound types (node_among items) (inside_node (scope_behind items) n) (lasts_in n.outputs no_lasts) o
        → OwnKept types (scope_behind items) n o start (λ p. memory (w p)) → ContractGiven types any_given (inside_node (scope_behind items) n) o (λ p. given (w p))
        → Good (elim o [ None ↦ [] | Some c ↦ lasts_slots types n.outputs w ++ slots_of_contract types no_outputs no_slots (Some c) (typed_in n.inputs (typed_in n.outputs untyped)) w ])
    owned None w start e ok k g = tt
    owned (Some c) w start e ok k g =
        both (lasts_slots types n.outputs w) (slots_of_contract types no_outputs no_slots (Some c) (typed_in n.inputs (typed_in n.outputs untyped)) w)
        (lasts types memory given numbered (node_among items) (inside_node (scope_behind items) n) n.outputs w d.outputs acc.sound.0.1 k.0)
        (of_contract types numbered memory given (node_among items) none_kept any_given no_outputs no_slots (λ f m start mem h e. absurd h) (λ f m w start e h g. absurd h)
        (Some c) (inside_node (scope_behind items) n) (lasts_in n.outputs no_lasts) (typed_in n.inputs (typed_in n.outputs untyped)) (agrees_seen types (node_among items) (scope_behind items) n (no_variables items) acc.sound)
        (conses_in types (scope_behind items) n conses) w start e ok k.1 g)

    alone : (w : Place → Place) (start : Instant) → AloneKept types (scope_behind items) n start (λ p. memory (w p)) → AloneGiven types (scope_behind items) n (λ p. given (w p)) → Good (outputs_slots n.outputs w ++ callee_slots types (Some n) w)
    alone w start k g =
        both (outputs_slots n.outputs w) (callee_slots types (Some n) w) (outputs types memory given numbered n.outputs w g.0) (owned n.contract w start d.contract acc.sound.1.1.1.1.1 k g.1)

  -- the nodes that may be called, by their names
  called_among : (told : Told) (class : Classing) (items : List Item) (more : List TypeDecl) → types ≡ types_behind items ++ more → AreAccepted types class items → EarlierDrawable types told items
      → (f : List ℕ) (n : Node) → node_among items f ≡ Some n → (w : Place → Place) (start : Instant) → CalleeKept types items f start (λ p. memory (w p)) → CalleeGiven types items f (λ p. given (w p))
      → Good (outputs_slots n.outputs w ++ callee_slots types (Some n) w)
  called_among told class [] more t acc ds f n e w start k g = absurd (cc)
  called_among told class (TypeItem d ∷ items) more t acc ds f n e w start k g = called_among told class items (d ∷ more) (t ∙ behind_one (types_behind items) d more) acc ds f n e w start k g
  called_among told class (NodeItem c ∷ items) more t acc ds f n e w start k g =
      by (bytes_eq c.name f) (λ e k g. called_among told (class_behind class) items more t acc.1 ds.1 f n e w start k g) e k g
    where
      by : (b : Bool) → (node_among items f ≡ Some n → CalleeKept types items f start (λ p. memory (w p)) → CalleeGiven types items f (λ p. given (w p)) → Good (outputs_slots n.outputs w ++ callee_slots types (Some n) w))
          → (if b then Some c else node_among items f) ≡ Some n → either_of b (AloneKept types (scope_behind items) c start (λ p. memory (w p))) (CalleeKept types items f start (λ p. memory (w p)))
          → either_of b (AloneGiven types (scope_behind items) c (λ p. given (w p))) (CalleeGiven types items f (λ p. given (w p)))
          → Good (outputs_slots n.outputs w ++ callee_slots types (Some n) w)
      by true h e k g =
          subst (λ (m : Node). Good (outputs_slots m.outputs w ++ callee_slots types (Some m) w)) (some_is c n e)
          (alone items _ c acc.0 ds.0.1 (conses_behind types items more t) w start k g)
      by false h e k g = h e k g

  -- ---- a node of a program

  module _ (program : List Item) (told : Told) (class : Classing) (earlier : List Item) (n : Node) (more : List TypeDecl) (split : types ≡ types_behind earlier ++ more) (acc : AreAccepted types class (NodeItem n ∷ earlier))
      (found : (f : List ℕ) (k : Node) → node_among earlier f ≡ Some k → node_among (reverse program) f ≡ Some k) (d : NodeDrawable (scope_behind earlier) n) (ds : EarlierDrawable types told earlier) where
    abbrev here : Place → Place
    here p = p

    abbrev outs : List ℕ → List Decl
    outs f = decls_by (node_among (reverse program) f)

    abbrev called : List ℕ → (Place → Place) → List Slot
    called f w = callee_slots types (node_among (reverse program) f) w

    outs_are : (f : List ℕ) (k : Node) (start mem : Instant) → CalleeKept types earlier f start mem → node_among earlier f ≡ Some k → outs f ≡ k.outputs
    outs_are f k start mem h e = ap decls_by (found f k e)

    instances : (f : List ℕ) (k : Node) (w : Place → Place) (start : Instant) → node_among earlier f ≡ Some k → CalleeKept types earlier f start (λ p. memory (w p)) → CalleeGiven types earlier f (λ p. given (w p)) → Good (outputs_slots (outs f) w ++ called f w)
    instances f k w start e h g =
        subst (λ o. Good (outputs_slots (decls_by o) w ++ callee_slots types o w)) (sym (found f k e)) (called_among told (class_behind class) earlier more split acc.1 ds f k e w start h g)

    abbrev around : Scope
    around = scope_behind earlier

    abbrev in_contract : List Slot
    in_contract = slots_of_contract types outs called n.contract (typed_in n.inputs (typed_in n.outputs untyped)) here

    abbrev in_body : List Slot
    in_body = slots_of_block types outs called n.body (typed_in (controls_of n.contract) (typed_in n.inputs (typed_in n.outputs untyped))) (below Body here)

    abbrev rows : List Slot
    rows = row_slots control (controls_of n.contract) (below Controls here)

    pub of_node : (start : Instant) → InShape types earlier n start memory → RowGiven types n.inputs (part Inputs given) → RowGiven types (controls_of n.contract) (part Controls given)
        → ContractGiven types (CalleeGiven types earlier) (inside_node around n) n.contract given → BlockGiven types (CalleeGiven types earlier) (body_scope around n) n.body (part Body given)
        → AreInShape types memory given (row_slots input n.inputs (below Inputs here) ++ (lasts_slots types n.outputs here ++ (rows ++ (in_contract ++ in_body))))
    of_node start h gi gc gg gb =
        let ok = acc.0.sound in
        let inner = conses_in types around n (conses_behind types earlier more split) in
        both (row_slots input n.inputs (below Inputs here)) (lasts_slots types n.outputs here ++ (rows ++ (in_contract ++ in_body)))
        (inputs types memory given numbered n.inputs (below Inputs here) gi)
        (both (lasts_slots types n.outputs here) (rows ++ (in_contract ++ in_body))
        (lasts types memory given numbered (node_among earlier) (inside_node around n) n.outputs here d.outputs ok.0.1 h.0)
        (both rows (in_contract ++ in_body)
        (controls types memory given numbered (controls_of n.contract) (below Controls here) gc)
        (both in_contract in_body
        (of_contract types numbered memory given (node_among earlier) (CalleeKept types earlier) (CalleeGiven types earlier) outs called outs_are instances n.contract (inside_node around n) (lasts_in n.outputs no_lasts)
        (typed_in n.inputs (typed_in n.outputs untyped)) (agrees_seen types (node_among earlier) around n (no_variables earlier) ok) inner here start d.contract ok.1.1.1.1.1 h.1.1 gg)
        (of_block types numbered memory given (node_among earlier) (CalleeKept types earlier) (CalleeGiven types earlier) outs called outs_are instances n.body (body_scope around n) (lasts_in n.outputs no_lasts)
        (typed_in (controls_of n.contract) (typed_in n.inputs (typed_in n.outputs untyped))) (agrees_body types (node_among earlier) around n (no_variables earlier) ok)
        (cons_inside types (controls_of n.contract) (inside_node around n) inner) (below Body here) (part Body start) d.body ok.1.1.1.1.0 h.1.0 gb))))

-- ---- what is given for a node

contract_given : (types : List TypeDecl) (callee : List ℕ → Instant → Type 0) (s : Scope) (o : Option Contract) (vs : List Value) (others : Instant) (c : Choice)
    → ContractGiven types callee s o (steered_by others (at_controls c)) → ContractGiven types callee s o (given_with vs others c)
contract_given types callee s None vs others c g = tt
contract_given types callee s (Some o) vs others c g = g

-- So the slots of a node are in shape, where its memory is, and inputs and all other given values fit.
pub node_in_shape : (program : List Item) (told : Told) (class : Classing) (earlier : List Item) (n : Node) (more : List TypeDecl) → AreNumbered (types_of program) → types_of program ≡ types_behind earlier ++ more → AreAccepted (types_of program) class (NodeItem n ∷ earlier)
    → ((f : List ℕ) (k : Node) → node_among earlier f ≡ Some k → node_among (reverse program) f ≡ Some k) → NodeDrawable (scope_behind earlier) n → EarlierDrawable (types_of program) told earlier
    → (start memory : Instant) (vs : List Value) (others : Instant) (c : Choice) → InShape (types_of program) earlier n start memory → AreWires (types_of program) n.inputs vs → GivenFits (types_of program) earlier n (steered_by others (at_controls c))
    → AreInShape (types_of program) memory (given_with vs others c) (slots_of_node program n)
node_in_shape program told class earlier n more numbered split acc found d ds start memory vs others c h ins g =
    let types = types_of program in
    of_node types numbered memory (given_with vs others c) program told class earlier n more split acc found d ds start h (inputs_given types n.inputs vs ins) g.0
    (contract_given types (CalleeGiven types earlier) (inside_node (scope_behind earlier) n) n.contract vs others c g.1.1) g.1.0
