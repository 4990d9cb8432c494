use Rattle.std.proofs.Common.{rules}
use Rattle.std.proofs.lemmas.List.Sorted.{answers_always}
use Rattle.hp_schedule.specs.declared.order.Weighed.{Weighed}
use Rattle.hp_schedule.proofs.order.in_order.Goals as goal

pub returns-clause-sorted : goal.returns-clause-sorted
returns-clause-sorted c =
    c.in_ok-sort_by_key.ensures.sorted (λ (w : Weighed). ((record { 0 = w.outer.level }, w.outer.control), ((record { 0 = w.middle.level }, w.middle.control), ((record { 0 = w.inner.level }, w.inner.control), record { 0 = w.outer.height }))))
    (answers_always _ _ _ (λ f a r g h. search rules))

pub returns-clause-stable : goal.returns-clause-stable
returns-clause-stable c =
    c.sort_by_key.ensures.stable (λ (w : Weighed). ((record { 0 = w.outer.level }, w.outer.control), ((record { 0 = w.middle.level }, w.middle.control), ((record { 0 = w.inner.level }, w.inner.control), record { 0 = w.outer.height }))))
    (answers_always _ _ _ (λ f a r g h. search rules))
