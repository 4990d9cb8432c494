use Rattle.std.proofs.Common.{◌≡◌, drop}
use Rattle.hp_schedule.specs.Turning.{noted_turns}
use Rattle.hp_schedule.proofs.order.note_turns.Given as goal

abbrev pub invariant-loop-turn : goal.invariant-loop-turn
invariant-loop-turn l = noted_turns l.depth l.base l.eqns (drop l.turn-index l.turns) l.table ≡ noted_turns l.depth l.base l.eqns l.turns l.initial.table
