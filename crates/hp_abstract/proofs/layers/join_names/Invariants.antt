use Rattle.std.proofs.Common.{◌≡◌, ◌++◌, length, take, drop}
use Rattle.hp_drawing.specs.Seen.{sketch_of}
use Rattle.hp_abstract.specs.Seen.{layer_of}
use Rattle.hp_drawing.specs.Scopes.{join_names}
use Rattle.hp_abstract.proofs.layers.join_names.Given as goal

abbrev pub invariant-loop-i : goal.invariant-loop-i
invariant-loop-i l =
    record {
      many : length (layer_of l.hidden) ≡ length (layer_of l.initial.hidden);
      layer : take l.i (layer_of l.hidden) ++ (join_names (layer_of l.own) l.condition (drop l.i (layer_of l.hidden)) (sketch_of l.draft)).0 ≡ (join_names (layer_of l.own) l.condition (layer_of l.initial.hidden) (sketch_of l.initial.draft)).0;
      sketch : (join_names (layer_of l.own) l.condition (drop l.i (layer_of l.hidden)) (sketch_of l.draft)).1 ≡ (join_names (layer_of l.own) l.condition (layer_of l.initial.hidden) (sketch_of l.initial.draft)).1;
    }
