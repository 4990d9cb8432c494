use Rattle.std.proofs.Common.{◌≡◌, Option, None, IsSome, sym, ap, subst, ◌∙◌}
use Rattle.std.specs.Result.{result_err}
use Rattle.hp_lines.specs.declared.read.LineErr.{LineErr}
use Rattle.hp_base.specs.Kinds.{SignatureData, AreOfKinds, kinds_of}
use Rattle.hp_lines.proofs.KindLaws.{values_are_of_kinds}
use Rattle.hp_base.specs.SignatureView.{kinds_seen}
use Rattle.hp_lines.specs.Words.{words}
use Rattle.hp_lines.specs.Values.{values_of}
use Rattle.hp_lines.specs.Refusals.{refusal}
use Rattle.hp_lines.proofs.ReadLaws.{is_spelled, unrefused}
use Rattle.hp_lines.proofs.read.read_line.Goals as goal

pub fill-requires-clause-spelled : goal.fill-requires-clause-spelled
fill-requires-clause-spelled c =
    let line = c.args.line.now in
    let inputs = c.s.inside.inputs.items in
    let none : ◌≡◌ {A = Option LineErr} None (refusal (kinds_seen inputs) (words line)) =
    sym (ap result_err c.in_ok-judge.was) ∙ c.judge.ensures ∙ ap (λ ports. refusal (kinds_seen ports) (words line)) c.deref.ensures.value in
    let right = unrefused (kinds_seen inputs) (words line) none in
    subst (λ ports. IsSome (values_of (kinds_seen ports) (words line))) (sym c.deref-2.ensures.value) (is_spelled 1 (kinds_seen inputs) (words line) right.0 right.1)

pub returns-clause-kinds : goal.returns-clause-kinds
returns-clause-kinds c =
    let line = c.args.line.now in
    let kinds : AreOfKinds (kinds_seen c.s.inside.inputs.items) c.fill.new.into =
    subst (λ ports. AreOfKinds (kinds_seen ports) c.fill.new.into) c.deref-2.ensures.value
    (values_are_of_kinds (kinds_seen c.deref-2.result.now) (words line) c.fill.new.into c.fill.ensures) in
    subst (λ (s : SignatureData). AreOfKinds (kinds_of s.inputs) c.fill.new.into) c.s.view_is kinds
