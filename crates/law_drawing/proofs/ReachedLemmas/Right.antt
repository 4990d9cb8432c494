-- So the early slots of the circuit of a node are its early places.
use Rattle.std.proofs.Common.{[], ap, ◌∙◌}
use Rattle.hp_tree.specs.Meaning.{types_of}
use Rattle.hp_meaning.specs.Contract.Memory.{number_in, memory}
use Rattle.hp_meaning.specs.Contract.Slots.{slots_of_node}
use Rattle.hp_drawing.specs.Kept.{kept_slots}
use Rattle.hp_drawing.specs.Told.{told_of}
use Rattle.hp_drawing.proofs.NodeDrawn.{node-planned}
use Rattle.hp_drawing.proofs.SlottedLemmas.NamedLaws.{all_apart, one_apart}
use Rattle.hp_drawing.proofs.SlottedLemmas.StartLaws.{node_starts}
use Rattle.hp_drawing.proofs.SlottedLemmas.TypeLaws.{node-same}
use Rattle.law_drawing.proofs.CarriedLemmas.Inputs.{node_alone, no_input}
use Rattle.law_drawing.proofs.CarriedLemmas.Told.{right}
use Rattle.law_drawing.proofs.EarlyLemmas.Right.{node-right}
use Rattle.law_drawing.specs.Reached.Accepted.{SlotsRightLaw, PlacesRightLaw}
use Rattle.law_drawing.proofs.ReachedLemmas.Nodes.{node-reached}

pub slots-right : SlotsRightLaw
slots-right program n c calls named among fits reads is steered are =
    node-right program n c calls named among fits is (λ i l e d. node-reached program (told_of program) n (node-same program) calls fits reads i l e d) steered are

pub places-right : PlacesRightLaw
places-right program n c calls named among fits reads is steered are =
    let kept = ap kept_slots is.slots ∙ node-planned (told_of program) n ∙ node_starts program n calls (all_apart program named) (one_apart program n among (all_apart program named)) in
    right program n steered (types_of program) (λ p. number_in (memory program n [] p)) (slots_of_node program n) c.slots.items (no_input program n) (node_alone program n) kept (slots-right program n c calls named among fits reads is steered are)
