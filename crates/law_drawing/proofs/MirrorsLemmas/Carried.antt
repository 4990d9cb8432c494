-- The circuit that is drawn of a node of a ready program carries it, and its machine mirrors it.
use Rattle.std.proofs.Common.{◌≡◌, ℕ, Bool, List, [], sym, ap, subst, ◌∙◌}
use Rattle.hp_tree.specs.declared.program.Item.{Item}
use Rattle.hp_tree.specs.Meaning.{types_of}
use Rattle.hp_tree.specs.Programs.{Node}
use Rattle.hp_circuit.specs.declared.circuit.Circuit.{Circuit}
use Rattle.hp_meaning.specs.Contract.Memory.{number_in, memory}
use Rattle.hp_meaning.specs.Contract.Slots.{slots_of_node}
use Rattle.hp_drawing.specs.DrawnNodes.{drawn_node}
use Rattle.hp_drawing.specs.Kept.{kept_slots}
use Rattle.hp_drawing.specs.Seen.{IsOf}
use Rattle.hp_drawing.specs.Told.{told_of}
use Rattle.hp_drawing.proofs.NodeDrawn.{node-planned}
use Rattle.hp_drawing.specs.Slotted.Slotted.{slots_as}
use Rattle.hp_drawing.proofs.SlottedLemmas.StartLaws.{node_starts}
use Rattle.law_games.specs.ReadyGames.Laws.{Stands, IsInOrder}
use Rattle.law_games.proofs.ReadyGamesLemmas.Settled.{ready_contracts, same_types}
use Rattle.law_drawing.specs.Mirroring.Codes as codes
use Rattle.law_drawing.proofs.MirroringLemmas.Carried.{carried}
use Rattle.law_drawing.proofs.MirroringLemmas.Numbered.{numbered}
use Rattle.law_drawing.specs.Carried.Early.{AreRight, IsRight, early_in}
use Rattle.law_drawing.proofs.CarriedLemmas.Inputs.{node_alone, no_input}
use Rattle.law_drawing.proofs.CarriedLemmas.Slots.{begun, slots_are}
use Rattle.law_drawing.proofs.CarriedLemmas.Told.{right}
use Rattle.law_drawing.proofs.DrawableLemmas.Fitting.{fits}
use Rattle.law_drawing.proofs.DrawableLemmas.Programs.{drawable}
use Rattle.law_drawing.proofs.EarlyLemmas.Right.{right-where}
use Rattle.law_drawing.specs.Mirrors.Drawn.{SolvedLaw, DrawnRightLaw, DrawnCarriesLaw, DrawnMirrorsLaw}
use Rattle.law_drawing.proofs.MirrorsLemmas.Reading.{reads_controls}
use Rattle.law_drawing.proofs.MirrorsLemmas.Apart.{node_apart, all_apart}

module _ (program after : List Item) (ranks : List (List ℕ)) (o : IsInOrder program after ranks) (earlier : List Item) (n : Node) (st : Stands after earlier n) where
  -- the slots of what is drawn, but for their wires
  planned : kept_slots (drawn_node (told_of after) n).slots ≡ slots_as (types_of after) (λ p. number_in (memory after n [] p)) (slots_of_node after n)
  planned =
      node-planned (told_of after) n
      ∙ node_starts after n (ready_contracts program after o.ready o.conditions) (all_apart after (drawable program after ranks o)) (node_apart _ n (drawable program after ranks o earlier n st).node)

  module _ (c : Circuit) (is : IsOf c (drawn_node (told_of after) n)) where
    kept : kept_slots c.slots.items ≡ slots_as (types_of after) (λ p. number_in (memory after n [] p)) (slots_of_node after n)
    kept = ap kept_slots is.slots ∙ planned

    right_slots : (steered : List Bool) → AreRight after n steered (slots_of_node after n) c.slots.items → IsRight after n steered (slots_of_node after n) c.slots.items
    right_slots steered all = right after n steered (types_of after) (λ p. number_in (memory after n [] p)) (slots_of_node after n) c.slots.items (no_input after n) (node_alone after n) kept all

pub early_is_right : DrawnRightLaw
early_is_right program after ranks o earlier n st c is steered are =
    right-where after n c (ready_contracts program after o.ready o.conditions) (planned program after ranks o earlier n st) (fits program after ranks o earlier n st) is (reads_controls program after ranks o earlier n st) steered are

pub carries : SolvedLaw → DrawnCarriesLaw
carries solved program after ranks o earlier n st c is steered are =
    let all = early_is_right program after ranks o earlier n st c is steered are in
    let ss = slots_of_node after n in
    let k = kept program after ranks o earlier n st c is in
    let r = right_slots program after ranks o earlier n st c is steered all in (
      record {
        slots = slots_are (types_of after) (memory after n []) (early_in steered ss c.slots.items) steered ss c.slots.items r.told k;
        begun = begun (types_of after) (memory after n []) ss c.slots.items k;
        solved = solved program after ranks o earlier n st c is;
      },
      r.early,
    )

pub mirrors : SolvedLaw → DrawnMirrorsLaw
mirrors solved program after ranks o earlier n st c m is made =
    let steered = made.steered in
    let two = carries solved program after ranks o earlier n st c is steered made.are_steered in
    carried n.name c m made after earlier n (early_in steered (slots_of_node after n) c.slots.items)
    (subst codes.AreNumbered (sym (same_types program after ranks o earlier n st)) (numbered program o.ready.named))
    two.1 two.0
