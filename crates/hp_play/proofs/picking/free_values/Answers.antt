use Rattle.std.proofs.Common.{sym, subst, rules}
use Rattle.hp_diagram.specs.Diagrams.{Has}
use Rattle.hp_diagram.proofs.Choices.{Keeps-trans}
use Rattle.hp_play.proofs.PickLaws.{has-either}
use Rattle.hp_play.proofs.picking.free_values.Goals as goal

pub loop-x-preserved : goal.loop-x-preserved
loop-x-preserved c = (
  search rules,
  subst (Has c.all_in.new.t) (sym c.either-left.ensures) (has-either c.all_in.new.t c.value-serves.result c.in_ok-wider.wider c.loop-x.left c.in_ok-wider.ensures.ok.has (c.all_in.ensures.keeps.has c.loop-x.left c.loop-x.invariant.1)),
  Keeps-trans _ _ _ c.loop-x.invariant.2 c.all_in.ensures.keeps,
)
