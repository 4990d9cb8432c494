use Rattle.std.proofs.Common.{◌≡◌, ◌+◌, ◌-◌, ◌≤◌, length}
use Rattle.hp_boolx.specs.Game.{Game}
use Rattle.hp_boolx.specs.Search.{Bits, Set}
use Rattle.hp_control.specs.Controlling.{AreLeft}
use Rattle.hp_diagram.specs.Diagrams.{Has, Means, Keeps}
use Rattle.hp_synth.specs.Building.{functions_at}
use Rattle.hp_synth.specs.Layouts.{place}
use Rattle.hp_synth.specs.Rounds.{IsCounts}
use Rattle.hp_synth.specs.Valued.{Valued, through, over, states, earlies, control_from, OfChoice}
use Rattle.hp_cert.specs.Steps.{left_of}
use Rattle.hp_cert.proofs.steps.chosen.Given as goal

abbrev pub invariant-loop-i : goal.invariant-loop-i
invariant-loop-i l = record {
  has : Has l.t l.left;
  keeps : Keeps l.initial.t l.t;
  at : l.k ≡ l.layout.counts.registers + l.layout.counts.early + l.i;
  near : l.i ≤ length l.funs;
  left_is : (g : Game) (q : Bits → Bits → Set) (F : Bits → Bits → Bits) → IsCounts g l.layout.counts → Means l.initial.t (over (place l.layout) (OfChoice g q)) l.fn.choices →
      ((v : Valued) → functions_at l.initial.t l.funs v ≡ F (states g (through (place l.layout) v)) (earlies g (through (place l.layout) v))) →
      AreLeft g (place l.layout) l.t (control_from g + l.i) (g.control - l.i) (left_of q F l.i) l.left;
}
