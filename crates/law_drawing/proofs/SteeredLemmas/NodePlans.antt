-- What contracts and bodies see by the plan, and the slots of what is drawn of contracts.
use Rattle.std.proofs.Common.{◌≡◌, ℕ, ◌+◌, List, [], ◌∷◌, Option, None, Some, refl, ap, ◌∙◌}
use Rattle.hp_circuit.specs.declared.circuit.Role.{Role}
use Rattle.hp_tree.specs.Blocks.{Decl}
use Rattle.hp_tree.specs.Expressions.{Expr}
use Rattle.hp_tree.specs.Meaning.{controls_of}
use Rattle.hp_tree.specs.Programs.{Contract, Node}
use Rattle.hp_drawing.specs.declared.parts.Callee as code_callee
use Rattle.hp_drawing.specs.declared.parts.Place.{Place}
use Rattle.hp_drawing.specs.Kept.{kept_as}
use Rattle.hp_drawing.specs.Told.{Told, type_shape}
use Rattle.hp_drawing.specs.Planned.{Callee, unseen, over, with_row, with_lasts, with_declared, declaring, planned_block, planned_told, planned_contract, planned_observer, contract_names, no_callee, called, called_of}
use Rattle.hp_drawing.specs.Sketch.{Sketch}
use Rattle.hp_drawing.specs.Places.{top_place, called_at}
use Rattle.hp_drawing.specs.Scopes.{Scope, Layer, no_scope, add, entry_at, unseen_entry, add_lasts, push_values, push_lasts, pop_values, shapes_in}
use Rattle.hp_drawing.specs.DrawnExpressions.{Brings}
use Rattle.hp_drawing.specs.DrawnBlocks.{drawn_block}
use Rattle.hp_drawing.specs.DrawnNodes.{put_from, put_row, put_outputs, contract_layer, scope_over, contract_scope, body_layer, drawn_told, drawn_contract, no_brings, drawn_called_if, contracts, add_one_given, add_given, drawn_observer, body_scope}
use Rattle.hp_drawing.proofs.KeptLaws.{kept_at, given-kept, called-kept, call-kept}
use Rattle.hp_drawing.proofs.NamesLaws.{says, said-add, over-declared, shapes-pushed, shapes-lasts}
use Rattle.hp_drawing.proofs.PlanLaws.{lasts-kept}
use Rattle.hp_drawing.proofs.PlanDrawn.{drawn-planned, block-planned, block-shapes}

-- ---- what contracts and bodies see

put-said : (t : Told) (first k : ℕ) (ds : List Decl) (l : Layer) → says (put_from t first k ds l) ≡ with_declared t ds (says l)
put-said t first k [] l = refl
put-said t first k (d ∷ ds) l =
    let e = entry_at (first + k) (type_shape t d.ty) in
    put-said t first (k + 1) ds (add l d.name e) ∙ ap (λ m. with_declared t ds m) (said-add l d.name e)

outputs-said : (t : Told) (ds : List Decl) (l : Layer) → says (put_outputs t ds l) ≡ with_declared t ds (says l)
outputs-said t [] l = refl
outputs-said t (d ∷ ds) l =
    let e = unseen_entry (type_shape t d.ty) in
    outputs-said t ds (add l d.name e) ∙ ap (λ m. with_declared t ds m) (said-add l d.name e)

nothing-seen : shapes_in no_scope ≡ unseen
unfolding shapes_in
nothing-seen = refl

over-nothing : (l : Layer) (lasts : Layer) → shapes_in (scope_over l lasts) ≡ over (says l) unseen
over-nothing l lasts = shapes-lasts lasts (push_values l no_scope) ∙ shapes-pushed l no_scope ∙ ap (λ out. over (says l) out) nothing-seen

contract-said : (t : Told) (n : Node) (inputs outputs : ℕ) → over (says (contract_layer t n inputs outputs)) unseen ≡ contract_names t n
contract-said t n inputs outputs =
    ap (λ m. over m unseen) (put-said t outputs 0 n.outputs (put_row t n.inputs inputs []) ∙ ap (λ m. with_declared t n.outputs m) (put-said t inputs 0 n.inputs []))
    ∙ over-declared t n.outputs (with_declared t n.inputs (says [])) unseen ∙ over-declared t n.inputs (says []) (declaring t n.outputs unseen)

pub body-said : (t : Told) (n : Node) (inputs controls : ℕ) → over (says (body_layer t n inputs controls)) unseen ≡ declaring t (controls_of n.contract) (contract_names t n)
body-said t n inputs controls =
    let given = controls_of n.contract in
    ap (λ m. over m unseen)
    (outputs-said t n.outputs (put_row t n.inputs inputs (put_row t given controls []))
    ∙ ap (λ m. with_declared t n.outputs m) (put-said t inputs 0 n.inputs (put_row t given controls []) ∙ ap (λ m. with_declared t n.inputs m) (put-said t controls 0 given [])))
    ∙ over-declared t n.outputs (with_declared t n.inputs (with_declared t given (says []))) unseen ∙ over-declared t n.inputs (with_declared t given (says [])) (declaring t n.outputs unseen)
    ∙ over-declared t given (says []) (contract_names t n)

pub scope-shapes : (t : Told) (place : Place) (n : Node) (inputs outputs : ℕ) (s : Sketch) → shapes_in (contract_scope t place n inputs outputs s).0 ≡ contract_names t n
unfolding contract_scope
scope-shapes t place n inputs outputs s =
    let l = contract_layer t n inputs outputs in
    let lasts = add_lasts t place n.outputs l [] s in
    over-nothing l lasts.0 ∙ contract-said t n inputs outputs

pub scope-kept : (t : Told) (place : Place) (n : Node) (inputs outputs : ℕ) (s : Sketch) → kept_at (contract_scope t place n inputs outputs s).1 ≡ with_lasts t n.outputs (kept_at s)
unfolding contract_scope
scope-kept t place n inputs outputs s = lasts-kept t place n.outputs (contract_layer t n inputs outputs) [] s

pub around-nothing : (t : Told) (place : Place) (n : Node) (inputs outputs : ℕ) (s : Sketch) → shapes_in (pop_values (contract_scope t place n inputs outputs s).0) ≡ unseen
unfolding contract_scope shapes_in push_values push_lasts pop_values
around-nothing t place n inputs outputs s = refl

pub body-shapes : (t : Told) (n : Node) (l : Layer) (z : Scope) → shapes_in (pop_values z) ≡ unseen → shapes_in (body_scope l z) ≡ over (says l) unseen
body-shapes t n l z h = shapes-pushed l (pop_values z) ∙ ap (λ out. over (says l) out) h

-- ---- contracts

module _ (t : Told) (brings : Brings) (callee : Callee) (agrees : (place : Place) (n : Node) (c : code_callee.Callee) (s : Sketch) → kept_at (brings t place n c s) ≡ callee t n (kept_at s)) where
  pub told-planned : (z : Scope) (place : Place) (o : Option Expr) (s : Sketch) → kept_at (drawn_told t brings z place o s).1 ≡ planned_told t callee o (shapes_in z) (kept_at s)
  told-planned z place None s = refl
  told-planned z place (Some e) s = drawn-planned t brings callee agrees z place e s

  pub contract-planned : (z : Scope) (place : Place) (c : Contract) (s : Sketch) → kept_at (drawn_contract t brings z place c s).1 ≡ planned_contract t callee c (shapes_in z) (kept_at s)
  contract-planned z place c s =
      let inside = drawn_block t brings z place c.body s in
      let assume = drawn_told t brings inside.0 place c.assume inside.1 in
      let seen = block-shapes t brings callee agrees z place c.body s in
      told-planned inside.0 place c.enforce assume.1
      ∙ ap (λ k. planned_told t callee c.enforce (shapes_in inside.0) k) (told-planned inside.0 place c.assume inside.1 ∙ ap (λ k. planned_told t callee c.assume (shapes_in inside.0) k) (block-planned t brings callee agrees z place c.body s))
      ∙ (λ j. planned_told t callee c.enforce (seen j) (planned_told t callee c.assume (seen j) (planned_block t callee c.body (shapes_in z) (kept_at s))))

pub no-agrees : (t : Told) (place : Place) (n : Node) (c : code_callee.Callee) (s : Sketch) → kept_at (no_brings t place n c s) ≡ no_callee t n (kept_at s)
no-agrees t place n c s = refl

called-planned : (t : Told) (place : Place) (n : Node) (o : Option Contract) (c : code_callee.Callee) (s : Sketch) → kept_at (drawn_called_if t place n o c s) ≡ called_of t o n (kept_at s)
called-planned t place n None c s = refl
called-planned t place n (Some k) c s =
    let inside = called_at place s in
    let z = contract_scope t inside.0 n c.inputs c.outputs inside.1 in
    let g = drawn_contract t no_brings z.0 inside.0 k z.1 in
    call-kept inside.0.here g.0.assume g.0.enforce g.1 ∙ contract-planned t no_brings no_callee (no-agrees t) z.0 inside.0 k z.1
    ∙ (λ j. planned_contract t no_callee k (scope-shapes t inside.0 n c.inputs c.outputs inside.1 j) (scope-kept t inside.0 n c.inputs c.outputs inside.1 j))
    ∙ ap (λ m. planned_contract t no_callee k (contract_names t n) (with_lasts t n.outputs m)) (called-kept place s)

pub agrees : (t : Told) (place : Place) (n : Node) (c : code_callee.Callee) (s : Sketch) → kept_at (contracts t place n c s) ≡ called t n (kept_at s)
agrees t place n c s = called-planned t place n n.contract c s

-- ---- nodes

pub given-row : (t : Told) (r : Role) (ds : List Decl) (s : Sketch) → kept_at (add_given t r ds s) ≡ with_row (kept_as r) t ds (kept_at s)
given-row t r [] s = refl
given-row t r (d ∷ ds) s = given-row t r ds (add_one_given r (type_shape t d.ty) s) ∙ ap (λ k. with_row (kept_as r) t ds k) (given-kept r (type_shape t d.ty) s)

pub observer-planned : (t : Told) (z : Scope) (o : Option Contract) (s : Sketch) → kept_at (drawn_observer t z o s).1 ≡ planned_observer t called o (shapes_in z) (kept_at s)
observer-planned t z None s = refl
observer-planned t z (Some c) s = contract-planned t contracts called (agrees t) z top_place c s
