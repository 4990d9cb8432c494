use Rattle.std.proofs.Common.{◌≡◌, [], None, Some, Ok, sym, ap, ◌∙◌}
use Rattle.hp_tree.specs.Blocks.{Decl}
use Rattle.hp_tree.specs.DeclView.{clock_seen}
use Rattle.hp_clocks.specs.Layers.{sight}
use Rattle.hp_clocks.specs.Putting.{declared_unit}
use Rattle.hp_clocks.proofs.SolvesLaws.{puts_none, solves_like}
use Rattle.hp_clocks.proofs.UnitLaws.{written_solves, no_unit, with_unit}
use Rattle.hp_clocks.proofs.solve.solve_decl.Goals as goal

pub returns-in-None-clause-solves : goal.returns-in-None-clause-solves
returns-in-None-clause-solves c =
    let old = c.args.solution.now in
    let cs = old.cells.cells.items in
    let none : c.args.decl.now.clock ≡ None = sym (ap (λ (d : Decl). d.clock) c.decl.view_is) ∙ ap clock_seen c.in-None.is in
    solves_like old.variables cs cs [] (declared_unit (sight c.args.layers.now) c.args.local c.args.decl.now) (Ok tt) (sym (no_unit (sight c.args.layers.now) c.args.local c.args.decl.now none))
    (puts_none old.variables cs c.requires.ready.cells c.requires.ready.floor)

pub returns-in-Some-clause-solves : goal.returns-in-Some-clause-solves
returns-in-Some-clause-solves c =
    let old = c.args.solution.now in
    let cs = old.cells.cells.items in
    let d = c.args.decl.now in
    let path = c.deref.result.now in
    let some : d.clock ≡ Some path = sym (ap (λ (e : Decl). e.clock) c.decl.view_is) ∙ ap clock_seen c.in-Some.is ∙ ap Some (sym c.deref.ensures.value) in
    let span : c.decl.inside.span ≡ d.span = ap (λ (e : Decl). e.span) c.decl.view_is in
    with_unit old.variables (sight c.args.layers.now) cs c.put_written.new.cells.cells.items c.args.local d path c.decl.inside.span c.in_unit.result some span
    (written_solves old.variables (sight c.args.layers.now) c.requires.ready.there cs c.put_written.new.cells.cells.items c.requires.ready.cells c.requires.ready.floor c.put_written.result c.in_unit.result c.decl.inside.span c.args.local path c.requires.there
    c.put_written.ensures.grows c.put_written.ensures.clash c.in_unit.ensures)
