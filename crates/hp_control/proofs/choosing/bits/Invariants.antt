use Rattle.std.proofs.Common.{◌≡◌, ◌+◌, length}
use Rattle.hp_diagram.specs.Diagrams.{Has, Keeps}
use Rattle.hp_boolx.specs.Game.{Game}
use Rattle.hp_boolx.specs.Search.{Bits, Set}
use Rattle.hp_control.specs.Choosing.{Chosen}
use Rattle.hp_control.specs.Controlling.{AreLeft}
use Rattle.hp_synth.specs.Building.{HasEach}
use Rattle.hp_synth.specs.Layouts.{place}
use Rattle.hp_synth.specs.Rounds.{IsCounts}
use Rattle.hp_synth.specs.Valued.{control_from}
use Rattle.hp_control.proofs.choosing.bits.Given as goal

abbrev pub invariant-loop-i : goal.invariant-loop-i
invariant-loop-i l =
    Has l.t l.left
    × Keeps l.initial.t l.t
    × (l.k ≡ l.layout.counts.registers + l.layout.counts.early + l.i)
    × ((g : Game) (q : Bits → Bits → Set) → IsCounts g l.layout.counts → AreLeft g (place l.layout) l.initial.t (control_from g) (length l.prefer) q l.fn.choices → Chosen g (place l.layout) q (control_from g) l.prefer l.t l.i l.left l.funs.items)
    × HasEach l.t l.funs.items
