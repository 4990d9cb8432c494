use Rattle.std.proofs.Common.{◌≡◌, map, drop}
use Rattle.hp_clocks.specs.Names.{with_more}
use Rattle.hp_clocks.specs.Layers.{says, cell_by}
use Rattle.hp_clocks.proofs.layer.add_cells.Given as goal

abbrev pub invariant-loop-decl : goal.invariant-loop-decl
invariant-loop-decl l =
    with_more l.into.items (map (cell_by (says l.controls) (says l.numbers)) (drop l.decl-index l.decls)) ≡ with_more l.initial.into.items (map (cell_by (says l.controls) (says l.numbers)) l.decls)
