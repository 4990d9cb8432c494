use Rattle.std.proofs.Common.{◌≡◌, drop, map}
use Rattle.hp_abstract.specs.Seen.{layer_of, now_of, scope_of}
use Rattle.hp_drawing.specs.Scopes.{hide_names}
use Rattle.hp_abstract.proofs.layers.hide_names.Given as goal

abbrev pub invariant-loop-i : goal.invariant-loop-i
invariant-loop-i l =
    hide_names (scope_of l.scope) (map now_of (drop l.i l.names)) (layer_of l.hidden) ≡ hide_names (scope_of l.scope) (map now_of l.names) (layer_of l.initial.hidden)
