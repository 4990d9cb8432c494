use Rattle.std.proofs.Common.{drop}
use Rattle.hp_init.proofs.AnswerLaws.{FromHere}
use Rattle.hp_init.proofs.check_items.Given as goal

abbrev pub invariant-loop-item : goal.invariant-loop-item
invariant-loop-item l = FromHere l.items (drop l.item-index l.items)
