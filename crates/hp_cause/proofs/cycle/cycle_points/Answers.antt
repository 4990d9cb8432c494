use Rattle.std.proofs.Common.{◌≡◌, ◌+◌, ◌++◌, drop, take, sym, ap, subst, ◌∙◌}
use Rattle.hp_cause.specs.Describing.{points_seen}
use Rattle.hp_cause.specs.Facts.{points_in, vertices_in}
use Rattle.hp_cause.specs.Gathering.{of_node}
use Rattle.hp_cause.specs.Naming.{numbers_of, picked}
use Rattle.hp_cause.specs.Ordering.{IsCycleOf}
use Rattle.hp_cause.proofs.NamedLaws.{some_number, turned_cycle}
use Rattle.hp_cause.proofs.cycle.cycle_points.Goals as goal

pub least_at-first-requires : goal.least_at-first-requires
least_at-first-requires c =
    let n = c.args.node.now in
    let cycle = c.args.cycle.now in
    let vertices : c.deref-2.result.now ≡ vertices_in (of_node n) = c.deref-2.ensures.value ∙ c.in_ok-vertices.ensures ∙ ap vertices_in c.requires.gathered in
    some_number n c.requires.declared c.requires.once cycle c.deref-4.result.now c.requires.cycle (c.deref-4.ensures.value ∙ c.in_ok-numbers.ensures ∙ ap (λ vs. numbers_of vs cycle) vertices)

pub returns : goal.returns
returns c =
    let n = c.args.node.now in
    let cycle = c.args.cycle.now in
    let numbers = c.deref-4.result.now in
    let first = c.least_at-first.result in
    let vertices : c.deref-2.result.now ≡ vertices_in (of_node n) = c.deref-2.ensures.value ∙ c.in_ok-vertices.ensures ∙ ap vertices_in c.requires.gathered in
    let are : numbers ≡ numbers_of (vertices_in (of_node n)) cycle = c.deref-4.ensures.value ∙ c.in_ok-numbers.ensures ∙ ap (λ vs. numbers_of vs cycle) vertices in
    let points : points_seen c.deref-5.result.now ≡ points_in (of_node n) = ap points_seen c.deref-5.ensures.value ∙ c.in_ok-points.ensures ∙ ap points_in c.requires.gathered in
    let same : c.deref-6.result.now ≡ numbers = c.deref-6.ensures.value ∙ sym c.deref-4.ensures.value in
    subst (IsCycleOf n)
    (sym (c.in_ok-named.ensures ∙ ap (λ ns. picked (points_seen c.deref-5.result.now) (drop first ns ++ take (first + 1) ns)) same ∙ ap (λ ps. picked ps (drop first numbers ++ take (first + 1) numbers)) points))
    (turned_cycle n c.requires.declared c.requires.once cycle numbers first c.requires.cycle are c.least_at-first.ensures.within c.least_at-first.ensures.least)
