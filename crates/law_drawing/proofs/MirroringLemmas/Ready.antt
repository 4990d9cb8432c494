-- The game on the machine of a circuit that carries a node of a ready program.
use Rattle.std.proofs.Common.{ℕ, Bool, List, sym, subst}
use Rattle.hp_tree.specs.declared.program.Item.{Item}
use Rattle.hp_tree.specs.Instant.{Place}
use Rattle.hp_tree.specs.Meaning.{types_of}
use Rattle.hp_tree.specs.Programs.{Node}
use Rattle.hp_boolx.specs.Machine.{Machine}
use Rattle.hp_circuit.specs.declared.circuit.Circuit.{Circuit}
use Rattle.hp_circuit.specs.Machines.{IsMachineOf}
use Rattle.law_games.specs.Mirror.Mirrored.{Mirrors}
use Rattle.law_games.specs.ReadyGames.Laws.{Stands, IsInOrder}
use Rattle.law_games.proofs.ReadyGamesLemmas.Histories.{ready_fitting_game, ready_fitting_safe}
use Rattle.law_games.proofs.ReadyGamesLemmas.Settled.{same_types}
use Rattle.law_drawing.specs.Mirroring.Codes.{AreNumbered}
use Rattle.law_drawing.specs.Mirroring.Carried.{AreEarly, Carries, CarriedGameLaw, CarriedSafeLaw}
use Rattle.law_drawing.proofs.MirroringLemmas.Carried.{carried}
use Rattle.law_drawing.proofs.MirroringLemmas.Numbered.{numbered}

module _ (program after : List Item) (ranks : List (List ℕ)) (o : IsInOrder program after ranks) (earlier : List Item) (n : Node) (st : Stands after earlier n) where
  numbers : AreNumbered (types_of after)
  numbers = subst AreNumbered (sym (same_types program after ranks o earlier n st)) (numbered program o.ready.named)

  module _ (name : List ℕ) (c : Circuit) (m : Machine) (made : IsMachineOf name c m) (early : Place → Bool) (exact : AreEarly after n early) (carries : Carries after earlier n c made.steered early) where
    mirror : Mirrors after earlier n m
    mirror = carried name c m made after earlier n early numbers exact carries

pub carried_game : CarriedGameLaw
carried_game program after ranks o earlier n st name c m made early exact carries k =
    ready_fitting_game program after ranks o earlier n m st (mirror program after ranks o earlier n st name c m made early exact carries) k

pub carried_safe : CarriedSafeLaw
carried_safe program after ranks o earlier n st name c m made early exact carries =
    ready_fitting_safe program after ranks o earlier n m st (mirror program after ranks o earlier n st name c m made early exact carries)
