use Rattle.std.proofs.Common.{◌≡◌, List, length, map, ap, subst, ◌∙◌}
use Rattle.hp_flat.specs.Equations.{FlatEqn}
use Rattle.hp_schedule.specs.declared.order.Weighed.{Weighed}
use Rattle.hp_schedule.specs.Turning.{IsNoted, weighed_by}
use Rattle.hp_schedule.proofs.OrderLaws.{noted-count, numbered-in_order, same-eqns, made-by_clock}
use Rattle.hp_schedule.proofs.order.by_clock.Goals as goal

pub returns-clause-same : goal.returns-clause-same
returns-clause-same c =
    let first : IsNoted 0 c.args.variables c.args.eqns.items c.in_ok-outers.outers.items =
    subst (λ (es : List FlatEqn). IsNoted 0 c.args.variables es c.in_ok-outers.outers.items) c.deref.ensures.value c.in_ok-outers.ensures in
    let count : length c.deref-4.result.now ≡ c.args.variables = ap length c.deref-4.ensures.value ∙ noted-count 0 c.args.variables c.args.eqns.items c.in_ok-outers.outers.items first in
    let weighed : c.in_ok-weighed.weighed.items ≡ map (weighed_by c.args.variables c.in_ok-outers.outers.items c.in_ok-middles.middles.items c.in_ok-inners.inners.items) c.args.eqns.items =
    c.in_ok-weighed.ensures ∙ (λ i. map (weighed_by (count i) (c.deref-4.ensures.value i) (c.deref-5.ensures.value i) (c.deref-6.ensures.value i)) c.args.eqns.items) in
    same-eqns c.args.variables c.args.eqns.items c.in_ok-outers.outers.items c.in_ok-middles.middles.items c.in_ok-inners.inners.items c.in_ok-weighed.weighed.items c.in_ok-ordered.ordered.items c.in_ok-placed.placed.items weighed
    c.in_ok-ordered.ensures.same c.in_ok-placed.ensures

pub returns-clause-order : goal.returns-clause-order
returns-clause-order c = numbered-in_order (map (λ (w : Weighed). w.eqn) c.in_ok-ordered.ordered.items) c.in_ok-placed.placed.items c.in_ok-placed.ensures

pub returns-clause-by_clock : goal.returns-clause-by_clock
returns-clause-by_clock c =
    let first : IsNoted 0 c.args.variables c.args.eqns.items c.in_ok-outers.outers.items =
    subst (λ (es : List FlatEqn). IsNoted 0 c.args.variables es c.in_ok-outers.outers.items) c.deref.ensures.value c.in_ok-outers.ensures in
    let second : IsNoted 1 c.args.variables c.args.eqns.items c.in_ok-middles.middles.items =
    subst (λ (es : List FlatEqn). IsNoted 1 c.args.variables es c.in_ok-middles.middles.items) c.deref-2.ensures.value c.in_ok-middles.ensures in
    let third : IsNoted 2 c.args.variables c.args.eqns.items c.in_ok-inners.inners.items =
    subst (λ (es : List FlatEqn). IsNoted 2 c.args.variables es c.in_ok-inners.inners.items) c.deref-3.ensures.value c.in_ok-inners.ensures in
    let count : length c.deref-4.result.now ≡ c.args.variables = ap length c.deref-4.ensures.value ∙ noted-count 0 c.args.variables c.args.eqns.items c.in_ok-outers.outers.items first in
    let weighed : c.in_ok-weighed.weighed.items ≡ map (weighed_by c.args.variables c.in_ok-outers.outers.items c.in_ok-middles.middles.items c.in_ok-inners.inners.items) c.args.eqns.items =
    c.in_ok-weighed.ensures ∙ (λ i. map (weighed_by (count i) (c.deref-4.ensures.value i) (c.deref-5.ensures.value i) (c.deref-6.ensures.value i)) c.args.eqns.items) in
    made-by_clock c.args.variables c.args.eqns.items c.in_ok-outers.outers.items c.in_ok-middles.middles.items c.in_ok-inners.inners.items c.in_ok-weighed.weighed.items c.in_ok-ordered.ordered.items c.in_ok-placed.placed.items weighed
    c.in_ok-ordered.ensures.same c.in_ok-placed.ensures first second third c.in_ok-ordered.ensures.sorted c.in_ok-ordered.ensures.stable
