-- The laws of typed wires over accepted programs.
use Rattle.std.proofs.Common.{List, [], ◌∷◌, sym, subst}
use Rattle.hp_tree.specs.declared.program.Item.{Item}
use Rattle.hp_tree.specs.declared.program.Item.TheVariants.{TypeItem, NodeItem}
use Rattle.hp_tree.specs.Programs.{TypeDecl}
use Rattle.hp_tree.specs.Meaning.{node_among}
use Rattle.law_values.specs.Valued.Values.{Classing, AreAccepted, scope_behind, class_behind}
use Rattle.law_games.specs.Wires.WiredCallees.{callee_wires}
use Rattle.law_games.specs.Wires.Laws.{AllClocksRight, IsWiring, held_after}
use Rattle.law_games.proofs.WiresLemmas.Instants.{next_registers}
use Rattle.law_games.specs.Wiretyped.Callees.{CalleeTyped, CalleeKept, CalleeGiven}
use Rattle.law_games.specs.Wiretyped.Laws.{InShape, TypedLaw, SoundLaw, ShapeLaw, StartLaw, WiringLaw}
use Rattle.law_games.proofs.WiretypedLemmas.Nodes.{node_wires, node_sound, node_next, node_begins}
use Rattle.law_games.proofs.WiretypedLemmas.Callees.{callees_typed}

pub typed : TypedLaw
typed types class earlier n inputs m now r w =
    node_wires types (callee_wires types earlier) (node_among earlier) (CalleeTyped types earlier) (CalleeKept types earlier) (CalleeGiven types earlier) (callees_typed types (class_behind class) earlier r.accepted.1)
    (scope_behind earlier) n r.accepted.0.sound r.accepted.0.clocks inputs r.values m now r.shape r.given w

pub sound : SoundLaw
sound types class earlier n inputs m now r w =
    node_sound types (callee_wires types earlier) (node_among earlier) (CalleeTyped types earlier) (CalleeKept types earlier) (CalleeGiven types earlier) (callees_typed types (class_behind class) earlier r.accepted.1)
    (scope_behind earlier) n r.accepted.0.sound r.accepted.0.clocks inputs r.values m now r.shape r.given w

pub in_shape : ShapeLaw
in_shape types class earlier n inputs m now r w =
    node_next types (callee_wires types earlier) (node_among earlier) (CalleeTyped types earlier) (CalleeKept types earlier) (CalleeGiven types earlier) (callees_typed types (class_behind class) earlier r.accepted.1)
    (scope_behind earlier) n r.accepted.0.sound r.accepted.0.clocks inputs r.values m now r.shape r.given w

pub at_start : StartLaw
at_start types class earlier n start mem acc k =
    node_begins types (callee_wires types earlier) (node_among earlier) (CalleeTyped types earlier) (CalleeKept types earlier) (CalleeGiven types earlier) (callees_typed types (class_behind class) earlier acc.1)
    (scope_behind earlier) n start mem acc.0.sound k

all_right : (types : List TypeDecl) (class : Classing) (items : List Item) → AreAccepted types class items → AllClocksRight items
all_right types class [] a = tt
all_right types class (TypeItem t ∷ items) a = all_right types class items a
all_right types class (NodeItem n ∷ items) a = (a.0.clocks, all_right types (class_behind class) items a.1)

pub wiring : WiringLaw
wiring types class earlier n inputs start free history now r w fi so =
    let is : IsWiring types earlier n inputs start free history now =
    record {
      clocks = r.accepted.0.clocks;
      callees = all_right types (class_behind class) earlier r.accepted.1;
      fills = fi;
      sound = sound types class earlier n inputs (held_after types earlier n start free history) now r w;
      solves = so;
    } in
    (is, subst (λ mem. InShape types earlier n start mem) (sym (next_registers types earlier n inputs start free history now is)) (in_shape types class earlier n inputs (held_after types earlier n start free history) now r w))
