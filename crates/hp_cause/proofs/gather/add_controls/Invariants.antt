use Rattle.std.proofs.Common.{◌≡◌, drop}
use Rattle.hp_cause.specs.Gathering.{of_controls}
use Rattle.hp_cause.specs.Told.{facts_seen, with_more}
use Rattle.hp_cause.proofs.gather.add_controls.Given as goal

abbrev pub invariant-loop-i : goal.invariant-loop-i
invariant-loop-i l = with_more (facts_seen l.facts.items) (of_controls l.i (drop l.i l.decls)) ≡ with_more (facts_seen l.initial.facts.items) (of_controls 0 l.decls)
