use Rattle.std.proofs.Common.{◌+◌, [], ◌∷◌, map, drop, sym, ap, ◌∙◌}
use Rattle.hp_clocks.specs.Names.{with_more}
use Rattle.hp_clocks.specs.Layers.{says, cell_by}
use Rattle.hp_clocks.proofs.NamedLaws.{more-one}
use Rattle.hp_clocks.proofs.TableLaws.{cells_next}
use Rattle.hp_clocks.proofs.layer.add_cells.Goals as goal

pub loop-decl-preserved : goal.loop-decl-preserved
loop-decl-preserved c =
    let f = says c.args.controls.now in
    let g = says c.args.numbers.now in
    let ds = c.args.decls.now in
    let i = c.loop-decl.decl-index in
    let before = c.loop-decl.into.items in
    let rest = map (cell_by f g) (drop (i + 1) ds) in
    ap (λ made. with_more made rest) (c.in_ok-push.ensures.items ∙ more-one before c.cell_by.result ∙ ap (λ cell. with_more before (cell ∷ [])) c.cell_by.ensures)
    ∙ sym (cells_next before f g ds i c.decl-item.result c.loop-decl-test.true c.decl-item.is) ∙ c.loop-decl.invariant
