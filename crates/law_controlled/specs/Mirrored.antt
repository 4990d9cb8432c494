-- The nodes that the compiler makes of those with a contract ask machines that mirror their contracts.
-- Source: own.
use Rattle.std.specs.Prelude.{ℕ, List, []}
use Rattle.hp_obc.specs.Machines.{ObcType}
use Rattle.hp_tree.specs.declared.program.Item.{Item}
use Rattle.law_games.specs.ReadyGames.Laws.{IsInOrder}
use Rattle.hp_watch.specs.Watching.{Observing}
use Rattle.law_choices.specs.InTurn.Nodes.{Made}
use Rattle.law_choices.specs.Playing.Greatest.{AreMirrored}
use Rattle.law_controlled.specs.Program.{AllAskTheirMachines}

-- So it is where each asks the machine of its contract, in a program in order.
abbrev pub MirroredLaw : Type 0
MirroredLaw =
    (program after : List Item) (ranks : List (List ℕ)) (types : List ObcType) (observers : Observing) (ms : List Made) → IsInOrder program after ranks → AllAskTheirMachines after types observers after ms → AreMirrored types observers after [] after ms
