use Rattle.std.proofs.Common.{◌≡◌, ◌≤◌, ◌++◌, length, inl, inr, None, Some, sym, ap, subst, ◌∙◌, arith, rules}
use Rattle.std.specs.Prelude.{Ok}
use Rattle.std.proofs.lemmas.List.{length-append}
use Rattle.hp_base.specs.Kinds.{AreOfKinds, kinds_of, SignatureData}
use Rattle.hp_lines.specs.Lines.{line_of, line_bound}
use Rattle.hp_lines.specs.Refusals.{refusal}
use Rattle.hp_lines.specs.Values.{HaveFewConstructors, values_of}
use Rattle.hp_lines.specs.Words.{words}
use Rattle.hp_lines.proofs.LineLaws.{line_is_bounded}
use Rattle.hp_exec.specs.Executors.{Executor, answered, stepped}
use Rattle.hp_driver.proofs.ExecutionLaws.{put_back, answers_line, keeps_behaviour}
use Rattle.hp_driver.proofs.execution.ExecutionReactor.answer.Goals as goal

pub step-requires-clause-kinds : goal.step-requires-clause-kinds
step-requires-clause-kinds g c =
    let old : Executor = g.S.Steps.executor c.self.inside.exec in
    let values = c.deref.result.now in
    let same : values ≡ c.read_line.new.into = c.deref.ensures.value ∙ put_back c.self.inside.inputs.len c.read_line.new.into c.self.inside.inputs.items (search rules) in
    let read : AreOfKinds (kinds_of old.signature.inputs) c.read_line.new.into = search rules in
    subst (λ vs. AreOfKinds (kinds_of old.signature.inputs) vs) (sym same) read

pub invariant_of-self-2 : goal.invariant_of-self-2
invariant_of-self-2 g c =
    let old : Executor = g.S.Steps.executor c.self.inside.exec in
    record {
      inputs = search rules;
      outputs = search rules;
      few = subst (λ (s : SignatureData). HaveFewConstructors (kinds_of s.inputs)) (sym c.step.ensures.signature) c.self.invariant.few;
      room = c.self.invariant.room ∙ ap (λ (s : SignatureData). line_bound (kinds_of s.outputs)) (sym c.step.ensures.signature);
      behaves = keeps_behaviour old (g.S.Steps.executor c.step.new.self) c.self.invariant.behaves c.step.ensures.runs c.step.ensures.kinded;
    }

pub write_line-requires-clause-kinds : goal.write_line-requires-clause-kinds
write_line-requires-clause-kinds g c =
    let old : Executor = g.S.Steps.executor c.self.inside.exec in
    let h = c.self.invariant.behaves in
    let given : c.deref-2.result.now ≡ c.step.new.outputs = c.deref-2.ensures.value ∙ put_back c.self.inside.outputs.len c.step.new.outputs c.self.inside.outputs.items (search rules) in
    let signature : c.signature-2.result.now ≡ old.signature = c.signature-2.ensures ∙ c.step.ensures.signature in
    subst (λ vs. AreOfKinds (kinds_of c.signature-2.result.now.outputs) vs) (sym given)
    (subst (λ (s : SignatureData). AreOfKinds (kinds_of s.outputs) c.step.new.outputs) (sym signature) (c.step.ensures.kinds h.behaviour h.runs h.kinded))

pub returns-clause-answered : goal.returns-clause-answered
returns-clause-answered g c =
    let old : Executor = g.S.Steps.executor c.self.inside.exec in
    let e : Executor = c.args.self.now in
    let line = c.args.line.now in
    let given = c.deref.result.now in
    let values = c.read_line.new.into in
    let outs = kinds_of e.signature.outputs in
    let same : given ≡ values = c.deref.ensures.value ∙ put_back c.self.inside.inputs.len values c.self.inside.inputs.items (search rules) in
    let spelled : values_of (kinds_of e.signature.inputs) (words line) ≡ Some values = search rules in
    let unrefused : refusal (kinds_of e.signature.inputs) (words line) ≡ None = search rules in
    let next : g.S.Steps.executor c.step.new.self ≡ stepped e values = c.step.ensures.stepped ∙ (λ i. stepped (c.self.view_is i) (same i)) in
    let outputs : c.deref-2.result.now ≡ answered e values = c.deref-2.ensures.value ∙ put_back c.self.inside.outputs.len c.step.new.outputs c.self.inside.outputs.items (search rules) ∙ c.step.ensures.answered ∙ (λ i. answered (c.self.view_is i) (same i)) in
    let signature : c.signature-2.result.now ≡ e.signature = search rules in
    let said : c.write_line.new.into.items ≡ c.args.into.now.items ++ line_of outs (answered e values) =
    c.write_line.ensures.items ∙ (λ i. c.args.into.now.items ++ line_of (kinds_of (signature i).outputs) (outputs i)) in
    let h = c.self.invariant.behaves in
    let of_kinds : AreOfKinds outs (answered e values) =
    subst (λ vs. AreOfKinds outs vs) ((λ i. answered (c.self.view_is i) (same i)))
    (subst (λ (s : SignatureData). AreOfKinds (kinds_of s.outputs) (answered old given)) (λ i. (c.self.view_is i).signature)
    (subst (λ vs. AreOfKinds (kinds_of old.signature.outputs) vs) c.step.ensures.answered (c.step.ensures.kinds h.behaviour h.runs h.kinded))) in
    let lengths : length c.write_line.new.into.items ≡ length (c.args.into.now.items ++ line_of outs (answered e values)) = ap length said in
    let whole = length-append c.args.into.now.items (line_of outs (answered e values)) in
    let bound : length (line_of outs (answered e values)) ≤ line_bound outs =
    elim (line_is_bounded outs (answered e values) of_kinds) [ inl h ↦ h | inr h ↦ omega (arith, h, lengths, whole, c.requires.free, c.write_line.new.into.ok.0, c.write_line.new.into.ok.1) ] in
    (line_of outs (answered e values), answers_line e line values unrefused spelled ∙ ap (λ t. Ok (line_of outs (answered e values), t)) (sym next), said, bound)
