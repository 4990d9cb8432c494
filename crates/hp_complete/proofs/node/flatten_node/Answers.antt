use Rattle.std.proofs.Common.{◌≡◌, ◌+◌, length, map, subst, sym, ap, ◌∙◌, arith}
use Rattle.std.specs.Prelude.{All}
use Rattle.law_equations.specs.Meaning.Scheduling.{IsRanked}
use Rattle.hp_tree.specs.Meaning.{controls_of}
use Rattle.hp_tree.specs.Programs.{Node}
use Rattle.law_equations.specs.Made.Making.{Sketch, next, nothing_made, numbers_from, sketch_node}
use Rattle.hp_complete.specs.Drafting.{filled, signed_made}
use Rattle.hp_complete.specs.Drafts.{place_of, sketch_of}
use Rattle.hp_complete.specs.Ordering.{IsCircular, SaysTrue, unplaced}
use Rattle.hp_complete.specs.Places.{saying, start}
use Rattle.hp_complete.specs.Tables.{known_in}
use Rattle.hp_complete.specs.Ranges.{EqnWithin}
use Rattle.hp_complete.proofs.MadeNodes.{node-eqns}
use Rattle.hp_complete.proofs.node.flatten_node.Goals as goal

pub returns-in-Ok-clause-made : goal.returns-in-Ok-clause-made
returns-in-Ok-clause-made c =
    let k = known_in c.args.declared.now in
    let n = c.args.node.now in
    let new = c.new-draft.ensures in
    let signs = c.in_ok-inputs.ensures in
    let ordered = c.in-Ok.ensures in
    let finished = c.finish.ensures in
    let place : place_of c.sign.new.self ≡ saying (signed_made (start k) n nothing_made).0 (start k) = signs.place ∙ (λ j. saying (signed_made (new.place j) n (new.sketch j)).0 (new.place j)) in
    let signed : sketch_of c.sign.new.self ≡ (signed_made (start k) n nothing_made).1 = signs.sketch ∙ (λ j. (signed_made (new.place j) n (new.sketch j)).1) in
    let made : sketch_of c.fill.new.self ≡ sketch_node k n = c.in_ok-fill.ensures ∙ (λ j. filled (place j) n (signed j)) in
    let none : next (sketch_of c.new-draft.result) ≡ 0 = ap next new.sketch in
    let given = length n.inputs + length (controls_of n.contract) in
    let many : next (sketch_of c.new-draft.result) + length n.inputs + length (controls_of n.contract) ≡ given = omega arith in
    record {
      name = finished.name ∙ c.in_ok-name.ensures ∙ ap (λ (m : Node). m.name) c.node.view_is;
      variables = finished.variables ∙ ordered.variables ∙ ap (λ d. d.variables) made;
      inputs = finished.inputs ∙ signs.inputs ∙ many;
      outputs = finished.outputs ∙ signs.outputs ∙ ap (λ m. numbers_from m n.outputs) many;
      eqns = ap (map unplaced) finished.eqns ∙ ordered.eqns ∙ ap (λ d. map unplaced d.eqns) made;
      ranked = subst IsRanked (sym finished.eqns) ordered.ranked;
    }

pub returns-in-Err-clause-circular : goal.returns-in-Err-clause-circular
returns-in-Err-clause-circular c =
    let k = known_in c.args.declared.now in
    let n = c.args.node.now in
    let new = c.new-draft.ensures in
    let signs = c.in_ok-inputs.ensures in
    let place : place_of c.sign.new.self ≡ saying (signed_made (start k) n nothing_made).0 (start k) = signs.place ∙ (λ j. saying (signed_made (new.place j) n (new.sketch j)).0 (new.place j)) in
    let signed : sketch_of c.sign.new.self ≡ (signed_made (start k) n nothing_made).1 = signs.sketch ∙ (λ j. (signed_made (new.place j) n (new.sketch j)).1) in
    let made : sketch_of c.fill.new.self ≡ sketch_node k n = c.in_ok-fill.ensures ∙ (λ j. filled (place j) n (signed j)) in
    subst (λ (d : Sketch). All (EqnWithin (next d)) d.eqns → SaysTrue (IsCircular d.eqns) c.in-Err.error) made c.in-Err.ensures.circular (node-eqns k n)
