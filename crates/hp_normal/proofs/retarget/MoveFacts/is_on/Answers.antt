use Rattle.std.proofs.Common.{ap, ◌∙◌, get_or, length, arith}
use Rattle.hp_flat.specs.Equations.{FlatEqn}
use Rattle.hp_flat.specs.Nodes.{FlatNode}
use Rattle.hp_normal.specs.Retargeting.{same_clock}
use Rattle.hp_normal.proofs.DefinerLaws.{definer-inside, place-inside, place-clock}
use Rattle.hp_normal.proofs.retarget.MoveFacts.is_on.Goals as goal

pub prove-unreachable-requires : goal.prove-unreachable-requires
prove-unreachable-requires c =
    let inside = definer-inside c.args.node.now c.args.self.now c.args.variable c.requires.facts c.requires.defined in
    let same = ap length c.as_slice-places.ensures.value in
    omega (arith, inside, same, c.if-prove.true)

pub prove-unreachable-requires-2 : goal.prove-unreachable-requires-2
prove-unreachable-requires-2 c =
    let x = c.args.variable in
    let inside = place-inside c.args.node.now c.args.self.now x c.requires.facts c.requires.defined in
    let same = ap (λ xs. get_or xs x 0) c.as_slice-places.ensures.value in
    let many = ap length (c.as_slice-eqns.ensures.value ∙ ap (λ (m : FlatNode). m.eqns) c.node.view_is) in
    omega (arith, inside, same, many, c.if-prove-2.true)

pub returns : goal.returns
returns c =
    let n = c.args.node.now in
    let f = c.args.self.now in
    let x = c.args.variable in
    let there = c.index-eqns-place.result in
    let place = get_or c.as_slice-places.result.now x 0 in
    c.same_clock.ensures
    ∙ ap (λ clock. same_clock clock c.args.clock.now)
    (c.deref.ensures
    ∙ ap (λ (e : FlatEqn). e.clock) (c.eqn.view_is ∙ c.index-eqns-place.is)
    ∙ ap (λ es. (get_or es place there).clock) (c.as_slice-eqns.ensures.value ∙ ap (λ (m : FlatNode). m.eqns) c.node.view_is)
    ∙ place-clock n f x c.requires.facts c.requires.defined place there (ap (λ xs. get_or xs x 0) c.as_slice-places.ensures.value))
