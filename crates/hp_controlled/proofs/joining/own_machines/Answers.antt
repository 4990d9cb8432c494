use Rattle.std.proofs.Common.{◌≡◌}
use Rattle.hp_automata.specs.Lowering.{lowered_program}
use Rattle.hp_complete.specs.Declaring.{known_of}
use Rattle.hp_complete.specs.Made.{AreMadeOf}
use Rattle.hp_complete.specs.Signatures.{AreFlat, places_of}
use Rattle.hp_machines.specs.Making.{AreMade}
use Rattle.hp_controlled.proofs.JoiningLaws.{made_machines}
use Rattle.hp_controlled.proofs.joining.own_machines.Goals as goal

pub returns : goal.returns
returns c =
    let program = c.args.program.now in
    let low = c.in_ok-low.low in
    let types = c.args.types.now in
    let nodes = c.in_ok-nodes.nodes.items in
    let machines = c.in_ok-machines.machines.items in
    let without : low ≡ lowered_program program = c.in_ok-low.ensures in
    let flat : AreFlat (places_of low) low nodes = c.in_ok-nodes.ensures.flat in
    let equations : AreMadeOf (known_of low) low nodes = c.in_ok-nodes.ensures.made in
    let made : AreMade types nodes machines = c.in_ok-machines.ensures in
    made_machines program low types nodes machines without flat equations made
