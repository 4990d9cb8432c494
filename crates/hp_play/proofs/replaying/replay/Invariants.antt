use Rattle.std.proofs.Common.{◌≡◌, ◌↔◌, length, drop}
use Rattle.hp_boolx.specs.Machine.{game}
use Rattle.hp_play.specs.Plays.{IsPlayFrom, valuations}
use Rattle.hp_play.proofs.replaying.replay.Given as goal

abbrev pub invariant-loop-i : goal.invariant-loop-i
invariant-loop-i l =
    record {
      state : length l.state.items ≡ l.m.registers;
      plays : IsPlayFrom (game l.m) l.m.init (valuations l.play) ↔ IsPlayFrom (game l.m) l.state.items (valuations (drop l.i l.play));
    }
