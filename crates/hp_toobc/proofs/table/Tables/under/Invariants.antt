use Rattle.std.proofs.Common.{◌≡◌, ◌≤◌, length, take, map}
use Rattle.hp_obc.specs.CommandView.{cmd_seen}
use Rattle.hp_toobc.specs.Making.{under}
use Rattle.hp_toobc.proofs.table.Tables.under.Given as goal

abbrev pub invariant-loop-i : goal.invariant-loop-i
invariant-loop-i l =
    record {
      within : l.i ≤ length l.clock;
      under : under l.self.types.now l.self.variables.now (take l.i l.clock) (map cmd_seen l.there.items)
          ≡ under l.self.types.now l.self.variables.now l.clock (map cmd_seen l.initial.there.items);
    }

abbrev pub decreases-loop-i : goal.decreases-loop-i
decreases-loop-i l = l.i
