use Rattle.std.proofs.Common.{refl}
use Rattle.std.proofs.lemmas.Bool.{false≢true}
use Rattle.hp_diagram.specs.Diagrams.{zero_ref, one_ref}
use Rattle.hp_quant.proofs.Implied.{same_reference, other_reference, Implies-zero, Implies-one, one-implies, implies-zero}
use Rattle.hp_quant.proofs.implication.plain_implication.Goals as goal

pub returns-then-eq-2-clause-answer : goal.returns-then-eq-2-clause-answer
returns-then-eq-2-clause-answer c =
    let t = c.args.t.now in
    let zero = same_reference c.args.p.f c.zero.result zero_ref c.eq-2.result c.eq-2.ensures c.if-eq-2.true c.zero.ensures in
    (λ _. Implies-zero t c.vars-vars.ensures.reduced c.args.p.f c.args.p.g zero, λ _. refl)

pub returns-then-eq-3-clause-answer : goal.returns-then-eq-3-clause-answer
returns-then-eq-3-clause-answer c =
    let t = c.args.t.now in
    let one = same_reference c.args.p.g c.one.result one_ref c.eq-3.result c.eq-3.ensures c.if-eq-3.true c.one.ensures in
    (λ _. Implies-one t c.vars-vars.ensures.reduced c.args.p.f c.args.p.g one, λ _. refl)

pub returns-then-eq-4-clause-answer : goal.returns-then-eq-4-clause-answer
returns-then-eq-4-clause-answer c =
    let t = c.args.t.now in
    let one = same_reference c.args.p.f c.one-2.result one_ref c.eq-4.result c.eq-4.ensures c.if-eq-4.true c.one-2.ensures in (
      λ h. absurd (false≢true h),
      λ implies. absurd (other_reference c.args.p.g c.one.result one_ref c.eq-3.result c.eq-3.ensures c.if-eq-3.false c.one.ensures (one-implies t c.vars-vars.ensures.reduced c.args.p.f c.args.p.g c.requires.g one implies)),
    )

pub returns-then-eq-5-clause-answer : goal.returns-then-eq-5-clause-answer
returns-then-eq-5-clause-answer c =
    let t = c.args.t.now in
    let zero = same_reference c.args.p.g c.zero-2.result zero_ref c.eq-5.result c.eq-5.ensures c.if-eq-5.true c.zero-2.ensures in (
      λ h. absurd (false≢true h),
      λ implies. absurd (other_reference c.args.p.f c.zero.result zero_ref c.eq-2.result c.eq-2.ensures c.if-eq-2.false c.zero.ensures (implies-zero t c.vars-vars.ensures.reduced c.args.p.f c.args.p.g c.requires.f zero implies)),
    )
