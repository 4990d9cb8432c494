-- In the circuit of a node that calls nothing, what is supposed is what the node assumes, and what is owed is what it enforces.
use Rattle.std.proofs.Common.{◌≡◌, List, [], ◌∷◌, ◌++◌, Option, None, Some, refl, ap, ◌∙◌}
use Rattle.hp_tree.specs.Blocks.{Decl}
use Rattle.hp_tree.specs.Expressions.{Expr}
use Rattle.hp_tree.specs.Instant.{Body, Controls}
use Rattle.hp_tree.specs.Meaning.{controls_of, names_of}
use Rattle.hp_tree.specs.Programs.{Contract}
use Rattle.hp_circuit.specs.declared.circuit.Role.{Role}
use Rattle.hp_circuit.specs.declared.circuit.Role.TheVariants as role
use Rattle.hp_meaning.specs.Causal.Points.{controls, points_of, points_of_contract}
use Rattle.hp_drawing.specs.declared.parts.Place.{Place}
use Rattle.hp_drawing.specs.Told.{Told, type_shape}
use Rattle.hp_drawing.specs.Sketch.{Sketch, high, next_wire, empty, begun, nothing, push, add_clock}
use Rattle.hp_drawing.specs.Places.{top_place}
use Rattle.hp_drawing.specs.Scopes.{Scope}
use Rattle.hp_drawing.specs.DrawnBlocks.{drawn_block}
use Rattle.hp_drawing.specs.DrawnNodes.{body_layer, body_scope, drawn_told, contracts, add_one_given, add_given, define_from, drawn_observer, with_outputs, with_inputs, with_controls, node_scope, node_rows}
use Rattle.law_drawing.specs.Uncalled.Laws.{UncalledLaw}
use Rattle.law_drawing.proofs.SteeredLemmas.NothingCalled.{NoCall, first, second, block_none, contract_none}
use Rattle.law_drawing.proofs.SteeredLemmas.Uncalled.{BlockCallsNothing, ToldCallsNothing, ContractCallsNothing}
use Rattle.law_drawing.proofs.EarlyLemmas.Running.{IsHeld, holes-run, scope-runs, given-runs, from-runs}
use Rattle.law_drawing.proofs.UncalledLemmas.Steps.{Leaves, none-leaves, both-leave, leaving, finish-alone}
use Rattle.law_drawing.proofs.UncalledLemmas.Expressions.{expr-leaves}
use Rattle.law_drawing.proofs.UncalledLemmas.Blocks.{block-leaves}

told-leaves : (t : Told) (o : Option Expr) (z : Scope) (spot : Place) (s : Sketch) → ToldCallsNothing o → Leaves s (drawn_told t contracts z spot o s).1
told-leaves t None z spot s h = none-leaves s
told-leaves t (Some e) z spot s h = expr-leaves t contracts z e spot s h

observer-leaves : (t : Told) (o : Option Contract) (z : Scope) (s : Sketch) → ContractCallsNothing o → Leaves s (drawn_observer t z o s).1
observer-leaves t None z s h = none-leaves s
observer-leaves t (Some c) z s h =
    let inner = drawn_block t contracts z top_place c.body s in
    let assume = drawn_told t contracts inner.0 top_place c.assume inner.1 in
    let to_assume = both-leave s inner.1 assume.1 (block-leaves t contracts c.body z top_place s h.0) (told-leaves t c.assume inner.0 top_place inner.1 h.1) in
    both-leave s assume.1 (drawn_told t contracts inner.0 top_place c.enforce assume.1).1 to_assume (told-leaves t c.enforce inner.0 top_place assume.1 h.2)

given-leaves : (t : Told) (r : Role) (ds : List Decl) (s : Sketch) → IsHeld r → Leaves s (add_given t r ds s)
given-leaves t r [] s h = none-leaves s
given-leaves t r (d ∷ ds) s h = let s1 = add_one_given r (type_shape t d.ty) s in both-leave s s1 (add_given t r ds s1) (given-runs Leaves leaving r (type_shape t d.ty) s h) (given-leaves t r ds s1 h)

-- nothing is supposed or owed at first
empty-alone : (empty.hyp ≡ high) × (empty.duty ≡ high)
unfolding empty begun nothing push add_clock
empty-alone = (refl, refl)

pub uncalled : UncalledLaw
uncalled t n none =
    let its = points_of_contract n.contract (λ p. p) in
    let own = points_of (names_of n.outputs) n.body (λ p. Body ∷ p) in
    let all : NoCall (its ++ own) = second (controls (controls_of n.contract) (λ p. Controls ∷ p)) (its ++ own) none in
    let of_contract : ContractCallsNothing n.contract = contract_none n.contract (λ p. p) (first its own all) in
    let of_body : BlockCallsNothing n.body = block_none (names_of n.outputs) n.body (λ p. Body ∷ p) (second its own all) in
    let outs = with_outputs t n empty in
    let ins = with_inputs t n empty in
    let to_ins = both-leave empty outs ins (holes-run Leaves leaving t n.outputs empty) (given-leaves t role.Input n.inputs outs tt) in
    let z = node_scope t n empty in
    let to_z = both-leave empty ins z.1 to_ins (scope-runs Leaves leaving t top_place n (next_wire outs) (next_wire empty) ins) in
    let s = with_controls t n z.1 in
    let to_s = both-leave empty z.1 s to_z (given-leaves t role.Control (controls_of n.contract) z.1 tt) in
    let rows = node_rows t n empty z.1 in
    let g = drawn_observer t z.0 n.contract s in
    let to_g = both-leave empty s g.1 to_s (observer-leaves t n.contract z.0 s of_contract) in
    let y = body_scope (body_layer t n rows.inputs rows.controls) z.0 in
    let d = drawn_block t contracts y top_place n.body g.1 in
    let to_d = both-leave empty g.1 d.1 to_g (block-leaves t contracts n.body y top_place g.1 of_body) in
    let e = define_from d.0 rows.outputs 0 n.outputs d.1 in
    let to_e = both-leave empty d.1 e to_d (from-runs Leaves leaving d.0 rows.outputs 0 n.outputs d.1) in
    let same = finish-alone g.0.assume g.0.enforce e (to_e.hyp ∙ empty-alone.0) (to_e.duty ∙ empty-alone.1) in
    record { assume = ap (λ (x : Sketch). x.assume) same; hyp = ap (λ (x : Sketch). x.hyp) same; duty = ap (λ (x : Sketch). x.duty) same }
