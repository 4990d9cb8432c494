use Rattle.std.proofs.Common.{rules}
use Rattle.std.proofs.lemmas.List.Sorted.{answers_always}
use Rattle.hp_schedule.specs.declared.order.Turn.{Turn}
use Rattle.hp_schedule.proofs.order.turns.Goals as goal

pub returns-clause-order : goal.returns-clause-order
returns-clause-order c = c.in_ok-sort_by_key.ensures.sorted (λ (t : Turn). record { 0 = t.at }) (answers_always _ _ _ (λ f a r g h. search rules))
