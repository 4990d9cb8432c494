use Rattle.std.proofs.Common.{sym, ◌∙◌}
use Rattle.std.proofs.lemmas.Bool.{false≢true}
use Rattle.hp_quant.proofs.Implied.{low-implies, high-implies}
use Rattle.hp_quant.proofs.implication.+follows.Goals as goal

pub returns-then-not-branch-clause-ok : goal.returns-then-not-branch-clause-ok
returns-then-not-branch-clause-ok t c = (
  λ h. absurd (false≢true h),
  λ implies.
      sym c.if-not-branch.true
      ∙ c.in_ok-follows.ensures.ok.1 (low-implies c.args.t.now c.vars-vars.ensures.reduced c.min-var.result c.args.p.f c.args.p.g c.children.result.0 c.children.result.1 c.children-2.result.0 c.children-2.result.1 c.children.ensures c.children-2.ensures implies),
)

pub returns-then-not-branch-2-clause-ok : goal.returns-then-not-branch-2-clause-ok
returns-then-not-branch-2-clause-ok t c = (
  λ h. absurd (false≢true h),
  λ implies.
      sym c.if-not-branch-2.true
      ∙ c.in_ok-follows-2.ensures.ok.1 (high-implies c.args.t.now c.vars-vars.ensures.reduced c.min-var.result c.args.p.f c.args.p.g c.children.result.0 c.children.result.1 c.children-2.result.0 c.children-2.result.1 c.children.ensures c.children-2.ensures implies),
)
