use Rattle.std.proofs.Common.{◌≡◌, ◌<◌, ◌≤◌, ◌-◌, length}
use Rattle.hp_boolx.specs.Machine.{game}
use Rattle.hp_diagram.specs.Diagrams.{Keeps}
use Rattle.hp_play.specs.Fields.{Exactly, IsPlayTo}
use Rattle.hp_play.specs.Plays.{IsPlayFrom, LoseEach, valuations}
use Rattle.hp_play.proofs.losing.instants.Given as goal

abbrev pub invariant-loop-i : goal.invariant-loop-i
invariant-loop-i l =
    record {
      many : length l.play.items ≡ l.i;
      state : length l.state.items ≡ l.m.registers;
      on : l.i < length l.field.ranks.items → Exactly (game l.m) (length l.field.ranks.items - l.i) l.state.items × IsPlayTo (game l.m) (game l.m).init (valuations l.play.items) l.state.items;
      done : length l.field.ranks.items ≤ l.i → IsPlayFrom (game l.m) (game l.m).init (valuations l.play.items);
      loses : LoseEach (game l.m) (length l.field.ranks.items) (valuations l.play.items);
      keeps : Keeps l.initial.t l.t;
    }
