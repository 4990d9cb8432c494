use Rattle.hp_clocks.specs.Layers.{sight}
use Rattle.hp_clocks.proofs.Unifying.{ok_map}
use Rattle.hp_clocks.proofs.PathLaws.{written_grows, written_never}
use Rattle.hp_clocks.proofs.solve.put_written.Goals as goal

pub returns-clause-grows : goal.returns-clause-grows
returns-clause-grows c =
    ok_map c.unify.result
    (λ t.
    written_grows (sight c.args.layers.now) c.args.cells.now.cells.items c.put_path.new.cells.cells.items c.args.path.now c.in_ok-clock.clock c.args.local c.requires.there c.in_ok-clock.ensures.path c.unify.new.self.cells.items t)
    c.unify.ensures.tells

pub returns-clause-clash : goal.returns-clause-clash
returns-clause-clash c =
    λ q.
    written_never (sight c.args.layers.now) c.args.cells.now.cells.items c.put_path.new.cells.cells.items c.args.path.now c.in_ok-clock.clock c.args.local c.requires.there c.in_ok-clock.ensures.path (c.unify.ensures.clash q)
