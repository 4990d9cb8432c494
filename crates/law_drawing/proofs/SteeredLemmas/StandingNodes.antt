-- So the slots of a node that stand for its places by its plan are placed so along what is drawn of it.
use Rattle.std.proofs.Common.{◌≡◌, List, [], Option, None, Some, ap, ◌∙◌}
use Rattle.hp_tree.specs.Expressions.{Expr}
use Rattle.hp_tree.specs.Instant.{Body, Observer, Assume, Enforce}
use Rattle.hp_tree.specs.Meaning.{controls_of}
use Rattle.hp_tree.specs.Programs.{Contract, Node}
use Rattle.hp_meaning.specs.Causal.Sources.{only, PlaceSources, below}
use Rattle.hp_circuit.specs.declared.circuit.Role.TheVariants as role
use Rattle.hp_drawing.specs.declared.parts.Callee as code_callee
use Rattle.hp_drawing.specs.declared.parts.Place.{Place}
use Rattle.hp_drawing.specs.Kept.{Kept, input, control}
use Rattle.hp_drawing.specs.Told.{Told}
use Rattle.hp_drawing.specs.Planned.{Names, Callee, in_block, declaring, with_row, with_lasts, planned_block, planned_told, planned_observer, contract_names, no_callee, called}
use Rattle.hp_drawing.specs.Sketch.{Sketch, next_wire, empty}
use Rattle.hp_drawing.specs.Places.{top_place, called_at}
use Rattle.hp_drawing.specs.Scopes.{Scope, shapes_in}
use Rattle.hp_drawing.specs.DrawnExpressions.{Brings}
use Rattle.hp_drawing.specs.DrawnBlocks.{drawn_block}
use Rattle.hp_drawing.specs.DrawnNodes.{contract_scope, body_layer, body_scope, drawn_told, no_brings, contracts, drawn_observer, with_outputs, with_inputs, with_controls, node_scope, node_rows}
use Rattle.hp_drawing.proofs.KeptLaws.{kept_at, called-kept, empty-kept}
use Rattle.hp_drawing.proofs.PlanLaws.{holes-kept}
use Rattle.hp_drawing.proofs.PlanDrawn.{block-shapes, block-planned}
use Rattle.law_drawing.specs.Steered.Marks.{Steering}
use Rattle.law_drawing.specs.Steered.Placed.{Held, none_held, ToldPlaced, ContractPlaced, CalledPlaced, contracts_held}
use Rattle.law_drawing.specs.Steered.Stands.{Asked, none_asked, ToldStands, ContractStands, CalledStands, contracts_asked, ObserverStands, NodeStands}
use Rattle.law_drawing.specs.Steered.Nodes.{ObserverPlaced, NodePlaced}
use Rattle.law_drawing.proofs.SteeredLemmas.Standing.{expr-placed, block-placed}
use Rattle.law_drawing.proofs.SteeredLemmas.NodePlans.{body-said, scope-shapes, scope-kept, around-nothing, body-shapes, told-planned, no-agrees, agrees, given-row, observer-planned}

module _ (steers : Steering) where
  module _ (t : Told) (brings : Brings) (callee : Callee) (same : (place : Place) (n : Node) (c : code_callee.Callee) (s : Sketch) → kept_at (brings t place n c s) ≡ callee t n (kept_at s)) (held : Held) (asked : Asked)
      (into : (spot : Place) (n : Node) (c : code_callee.Callee) (s : Sketch) (k : PlaceSources) (before : List Kept) → kept_at s ≡ before → asked n k before → held spot n c s k) where
    told-placed : (o : Option Expr) (z : Scope) (spot : Place) (k : PlaceSources) (s : Sketch) (names : Names) (before : List Kept) → shapes_in z ≡ names → kept_at s ≡ before → ToldStands steers t callee asked o names k before → ToldPlaced steers t brings held z spot o k s
    told-placed None z spot k s names before n b h = tt
    told-placed (Some e) z spot k s names before n b h = expr-placed steers t brings callee same held asked into e z spot k s names before n b h

    contract-placed : (c : Contract) (z : Scope) (spot : Place) (k : PlaceSources) (s : Sketch) (names : Names) (before : List Kept) → shapes_in z ≡ names → kept_at s ≡ before → ContractStands steers t callee asked c names k before → ContractPlaced steers t brings held z spot c k s
    contract-placed c z spot k s names before n b h =
        let inside = drawn_block t brings z spot c.body s in
        let assume = drawn_told t brings inside.0 spot c.assume inside.1 in
        let inner : shapes_in inside.0 ≡ in_block t c.body names = block-shapes t brings callee same z spot c.body s ∙ ap (λ m. in_block t c.body m) n in
        let body = planned_block t callee c.body names before in
        let at_body : kept_at inside.1 ≡ body = block-planned t brings callee same z spot c.body s ∙ (λ j. planned_block t callee c.body (n j) (b j)) in
        let at_assume = told-planned t brings callee same inside.0 spot c.assume inside.1 ∙ (λ j. planned_told t callee c.assume (inner j) (at_body j)) in (
          block-placed steers t brings callee same held asked into c.body z spot (below Observer k) s names before n b h.0,
          told-placed c.assume inside.0 spot (below Assume k) inside.1 (in_block t c.body names) body inner at_body h.1,
          told-placed c.enforce inside.0 spot (below Enforce k) assume.1 (in_block t c.body names) (planned_told t callee c.assume (in_block t c.body names) body) inner at_assume h.2,
        )

  module _ (t : Told) where
    called-placed : (o : Option Contract) (spot : Place) (n : Node) (c : code_callee.Callee) (s : Sketch) (k : PlaceSources) (before : List Kept) → kept_at s ≡ before → CalledStands steers t o n k before → CalledPlaced steers t spot n o c s k
    called-placed None spot n c s k before b h = tt
    called-placed (Some contract) spot n c s k before b h =
        let inside = called_at spot s in
        let z = contract_scope t inside.0 n c.inputs c.outputs inside.1 in
        contract-placed t no_brings no_callee (no-agrees t) none_held none_asked (λ spot n c s k before e h. tt) contract z.0 inside.0 k z.1 (contract_names t n) (with_lasts t n.outputs before) (scope-shapes t inside.0 n c.inputs c.outputs inside.1)
        (scope-kept t inside.0 n c.inputs c.outputs inside.1 ∙ ap (λ m. with_lasts t n.outputs m) (called-kept spot s ∙ b)) h

    into : (spot : Place) (n : Node) (c : code_callee.Callee) (s : Sketch) (k : PlaceSources) (before : List Kept) → kept_at s ≡ before → contracts_asked steers t n k before → contracts_held steers t spot n c s k
    into spot n c s k before b h = called-placed n.contract spot n c s k before b h

    observer-placed : (o : Option Contract) (z : Scope) (s : Sketch) (names : Names) (before : List Kept) → shapes_in z ≡ names → kept_at s ≡ before → ObserverStands steers t o names before → ObserverPlaced steers t z o s
    observer-placed None z s names before n b h = tt
    observer-placed (Some c) z s names before n b h = contract-placed t contracts called (agrees t) (contracts_held steers t) (contracts_asked steers t) into c z top_place only s names before n b h

    pub node-placed : (n : Node) → NodeStands steers t n → NodePlaced steers t n
    node-placed n h =
        let inputs = next_wire (with_outputs t n empty) in
        let before = with_inputs t n empty in
        let z = node_scope t n empty in
        let s = with_controls t n z.1 in
        let rows = node_rows t n empty z.1 in
        let g = drawn_observer t z.0 n.contract s in
        let l = body_layer t n rows.inputs rows.controls in
        let names = contract_names t n in
        let start = with_row control t (controls_of n.contract) (with_lasts t n.outputs (with_row input t n.inputs [])) in
        let shapes : shapes_in z.0 ≡ names = scope-shapes t top_place n inputs (next_wire empty) before in
        let at_start : kept_at s ≡ start = given-row t role.Control (controls_of n.contract) z.1 ∙ ap (λ k. with_row control t (controls_of n.contract) k)
        (scope-kept t top_place n inputs (next_wire empty) before ∙ ap (λ k. with_lasts t n.outputs k) (given-row t role.Input n.inputs (with_outputs t n empty) ∙ ap (λ k. with_row input t n.inputs k) (holes-kept t n.outputs empty ∙ empty-kept))) in
        let inner : shapes_in (body_scope l z.0) ≡ declaring t (controls_of n.contract) names = body-shapes t n l z.0 (around-nothing t top_place n inputs (next_wire empty) before) ∙ body-said t n rows.inputs rows.controls in
        let at_body : kept_at g.1 ≡ planned_observer t called n.contract names start = observer-planned t z.0 n.contract s ∙ (λ j. planned_observer t called n.contract (shapes j) (at_start j)) in (
          observer-placed n.contract z.0 s names start shapes at_start h.0,
          block-placed steers t contracts called (agrees t) (contracts_held steers t) (contracts_asked steers t) into n.body (body_scope l z.0) top_place (below Body only) g.1 (declaring t (controls_of n.contract) names) (planned_observer t called n.contract names start) inner at_body h.1,
        )
