use Rattle.std.proofs.Common.{◌≡◌, refl, sym, ap, ◌∙◌}
use Rattle.hp_clocks.specs.Layers.{sight}
use Rattle.hp_clocks.specs.declared.layer.Seen.TheVariants as seen
use Rattle.hp_clocks.proofs.Unifying.{ok_map}
use Rattle.hp_clocks.proofs.Growing.{grows_of_tells}
use Rattle.hp_clocks.proofs.UnitLaws.{own_grows, own_none}
use Rattle.hp_clocks.proofs.solve.put_own.Goals as goal

pub returns-in-Nowhere-clause-grows : goal.returns-in-Nowhere-clause-grows
returns-in-Nowhere-clause-grows c =
    own_none (sight c.args.layers.now) c.args.cells.now.cells.items c.args.name.now c.args.clock seen.Nowhere c.requires.are_cells
    (sym (c.sight.ensures ∙ ap (sight c.args.layers.now) c.bytes.ensures.bytes) ∙ c.in-Nowhere.is) refl

pub returns-in-Own-clause-grows : goal.returns-in-Own-clause-grows
returns-in-Own-clause-grows c =
    ok_map c.unify.result
    (λ t.
    own_grows (sight c.args.layers.now) c.args.cells.now.cells.items c.unify.new.self.cells.items c.args.name.now c.args.clock c.in-Own.own
    (sym (c.sight.ensures ∙ ap (sight c.args.layers.now) c.bytes.ensures.bytes) ∙ c.in-Own.is)
    (grows_of_tells c.args.cells.now.cells.items c.unify.new.self.cells.items (λ at. at c.in-Own.own ≡ at c.args.clock) t))
    c.unify.ensures.tells

pub returns-in-Further-clause-grows : goal.returns-in-Further-clause-grows
returns-in-Further-clause-grows c =
    own_none (sight c.args.layers.now) c.args.cells.now.cells.items c.args.name.now c.args.clock (seen.Further c.in-Further.field-0) c.requires.are_cells
    (sym (c.sight.ensures ∙ ap (sight c.args.layers.now) c.bytes.ensures.bytes) ∙ c.in-Further.is) refl
