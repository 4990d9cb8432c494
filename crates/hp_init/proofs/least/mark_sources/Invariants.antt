use Rattle.std.proofs.Common.{◌≡◌, drop}
use Rattle.hp_init.specs.Spreading.{marks, all_marked_by}
use Rattle.hp_init.proofs.least.mark_sources.Given as goal

abbrev pub invariant-loop-ask : goal.invariant-loop-ask
invariant-loop-ask l = all_marked_by (drop l.ask-index l.asks) (marks l.second l.waiting.items) ≡ all_marked_by l.asks (marks l.initial.second l.initial.waiting.items)
