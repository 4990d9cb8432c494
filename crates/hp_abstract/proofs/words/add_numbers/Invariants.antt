use Rattle.std.proofs.Common.{◌≡◌, drop, map}
use Rattle.hp_tree.specs.Blocks.{states_of}
use Rattle.hp_tree.specs.BlockView.{state_seen}
use Rattle.hp_tables.specs.Declarations.Tables.{said_in}
use Rattle.hp_drawing.specs.Places.{put_numbers}
use Rattle.hp_abstract.proofs.words.add_numbers.Given as goal

abbrev pub invariant-loop-i : goal.invariant-loop-i
invariant-loop-i l = put_numbers l.i (states_of (map state_seen (drop l.i l.states))) (said_in l.numbers) ≡ put_numbers 0 (states_of (map state_seen l.states)) (said_in l.initial.numbers)
