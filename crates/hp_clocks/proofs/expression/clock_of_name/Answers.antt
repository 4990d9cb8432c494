use Rattle.std.proofs.Common.{sym, ap, ◌∙◌}
use Rattle.hp_clocks.specs.Layers.{sight}
use Rattle.hp_clocks.proofs.NameLaws.{further_clock}
use Rattle.hp_clocks.proofs.expression.clock_of_name.Goals as goal

pub returns-in_ok-unify-in-Further-clause-tells : goal.returns-in_ok-unify-in-Further-clause-tells
returns-in_ok-unify-in-Further-clause-tells c =
    (further_clock c.args.cells.now.cells.items c.requires.are_cells c.args.name.now (sight c.args.layers.now) c.unify.new.self.cells.items c.in-Further.other
    (sym (c.sight.ensures ∙ ap (sight c.args.layers.now) c.bytes.ensures.bytes) ∙ c.in-Further.is) c.in_ok-unify-in-Further.ensures.tells).0
