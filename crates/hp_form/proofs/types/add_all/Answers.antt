use Rattle.std.proofs.Common.{sym, ◌∙◌}
use Rattle.hp_form.proofs.TypeLaws.{types_form, types_parts}
use Rattle.hp_form.proofs.EachLaws.{refuted}
use Rattle.hp_form.proofs.types.add_all.Goals as goal

pub returns-then-not-have_few_constructors-clause-form : goal.returns-then-not-have_few_constructors-clause-form
returns-then-not-have_few_constructors-clause-form c = ((λ e. absurd cc), (λ f. let h = (types_parts c.args.types.now f).counts in let k = c.if-not-have_few_constructors.ensures in k ∙ h))

pub returns-then-not-branch-clause-form : goal.returns-then-not-branch-clause-form
returns-then-not-branch-clause-form c = ((λ e. absurd cc), (λ f. absurd (refuted c.in_ok-add_types.ensures.new c.if-not-branch.true (types_parts c.args.types.now f).names)))

pub returns-clause-form : goal.returns-clause-form
returns-clause-form c = (
  (λ e. types_form c.args.types.now (record { number = c.if-types-gt1000.false; counts = sym c.if-not-have_few_constructors.ensures; names = c.in_ok-add_types.ensures.new.0 c.if-not-branch.false; constructors = c.in_ok-new.ensures.new.0 e })),
  (λ f. c.in_ok-new.ensures.new.1 (types_parts c.args.types.now f).constructors),
)
