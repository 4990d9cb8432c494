use Rattle.std.proofs.Common.{drop}
use Rattle.hp_cause.specs.Answers.{lists}
use Rattle.hp_cause.proofs.AnswerLaws.{FromHere}
use Rattle.hp_cause.proofs.order_items.Given as goal

abbrev pub invariant-loop-item : goal.invariant-loop-item
invariant-loop-item l = FromHere l.items (lists l.ranks.items) (drop l.item-index l.items)
