use Rattle.std.proofs.Common.{sym, ◌∙◌, arith}
use Rattle.hp_form.proofs.DepthLaws.{some_deep}
use Rattle.hp_form.proofs.levels.+levels.Goals as goal

pub arm_is_shallow-returns-then-levels-eq0 : goal.arm_is_shallow-returns-then-levels-eq0
arm_is_shallow-returns-then-levels-eq0 t c = (
  (λ e. absurd cc),
  (λ d. absurd (some_deep c.cmds.inside.list.items c.args.cmds.now c.cmds.inside.list.len c.args.levels c.cmds.view_is c.cmds.inside.list.ok.0 (sym c.is_empty.ensures ∙ c.if-is_empty.false) (omega (arith, c.if-levels-eq0.true)) d)),
)
