use Rattle.std.proofs.Common.{◌-◌, sym, ◌∙◌, arith}
use Rattle.hp_tables.proofs.DefiningLemmas.LayerLaws.{sight-found}
use Rattle.hp_tables.proofs.defining.layer.sight.Goals as goal

pub returns-in-Some : goal.returns-in-Some
returns-in-Some c =
    sight-found c.args.layers.now (c.loop-i.i - 1) c.loop-i.i c.index-layers-i.result c.args.name.now c.in-Some.number (omega arith) (omega arith) c.index-layers-i.is c.loop-i.invariant.silent
    (sym c.of.ensures ∙ c.in-Some.is)
