use Rattle.std.proofs.Common.{sym, ap, ◌∙◌}
use Rattle.hp_clocks.specs.Layers.{sight}
use Rattle.hp_clocks.proofs.Unifying.{ok_map}
use Rattle.hp_clocks.proofs.NameLaws.{own_tells, further_tells, further_never_then}
use Rattle.hp_clocks.proofs.expression.put_name.Goals as goal

pub returns-in-Own-clause-tells : goal.returns-in-Own-clause-tells
returns-in-Own-clause-tells c =
    ok_map c.unify.result
    (own_tells c.args.cells.now.cells.items c.requires.are_cells c.args.name.now (sight c.args.layers.now) c.unify.new.self.cells.items c.in-Own.own c.args.clock
    (sym (c.sight.ensures ∙ ap (sight c.args.layers.now) c.bytes.ensures.bytes) ∙ c.in-Own.is))
    c.unify.ensures.tells

pub returns-in_ok-unify-in-Further-clause-tells : goal.returns-in_ok-unify-in-Further-clause-tells
returns-in_ok-unify-in-Further-clause-tells c =
    ok_map c.unify-in-Further-2.result
    (further_tells c.args.cells.now.cells.items c.requires.are_cells c.args.name.now (sight c.args.layers.now) c.unify-in-Further.new.self.cells.items c.unify-in-Further-2.new.self.cells.items c.in-Further.other c.args.clock
    (sym (c.sight.ensures ∙ ap (sight c.args.layers.now) c.bytes.ensures.bytes) ∙ c.in-Further.is) c.in_ok-unify-in-Further.ensures.tells)
    c.unify-in-Further-2.ensures.tells

pub returns-in_ok-unify-in-Further-clause-clash : goal.returns-in_ok-unify-in-Further-clause-clash
returns-in_ok-unify-in-Further-clause-clash c =
    λ q. further_never_then c.args.cells.now.cells.items c.requires.are_cells c.args.name.now (sight c.args.layers.now) c.unify-in-Further.new.self.cells.items c.in-Further.other c.args.clock
    (sym (c.sight.ensures ∙ ap (sight c.args.layers.now) c.bytes.ensures.bytes) ∙ c.in-Further.is) c.in_ok-unify-in-Further.ensures.tells (c.unify-in-Further-2.ensures.clash q)
