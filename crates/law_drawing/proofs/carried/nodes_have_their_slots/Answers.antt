use Rattle.std.proofs.Common.{[], ap, ◌∙◌}
use Rattle.hp_tree.specs.Meaning.{types_of}
use Rattle.hp_meaning.specs.Contract.Memory.{memory}
use Rattle.hp_meaning.specs.Contract.Slots.{slots_of_node}
use Rattle.hp_drawing.specs.Kept.{kept_slots}
use Rattle.hp_drawing.specs.Told.{told_of}
use Rattle.hp_drawing.proofs.NodeDrawn.{node-planned}
use Rattle.hp_drawing.proofs.SlottedLemmas.NamedLaws.{all_apart, one_apart}
use Rattle.hp_drawing.proofs.SlottedLemmas.StartLaws.{node_starts}
use Rattle.law_drawing.proofs.CarriedLemmas.Slots.{begun, slots_are}
use Rattle.law_drawing.proofs.carried.nodes_have_their_slots.Goals as goal

pub returns : goal.returns
returns c = λ program n circuit calls named among is.
    let kept =
    ap kept_slots is.slots ∙ node-planned (told_of program) n ∙ node_starts program n calls (all_apart program named) (one_apart program n among (all_apart program named)) in
    record {
      slots = λ early steered told. slots_are (types_of program) (memory program n []) early steered (slots_of_node program n) circuit.slots.items told kept;
      begun = begun (types_of program) (memory program n []) (slots_of_node program n) circuit.slots.items kept;
    }
