use Rattle.std.proofs.Common.{◌≡◌, ◌≤◌, ◌+◌, ◌++◌, length, inl, inr, None, Some, sym, ap, subst, ◌∙◌, arith, rules}
use Rattle.std.specs.Prelude.{Ok}
use Rattle.std.proofs.lemmas.List.{length-append}
use Rattle.hp_base.specs.Kinds.{AreOfKinds, kinds_of, SignatureData}
use Rattle.hp_lines.specs.Lines.{line_of, line_bound}
use Rattle.hp_lines.specs.Refusals.{refusal}
use Rattle.hp_lines.specs.Values.{HaveFewConstructors, values_of}
use Rattle.hp_lines.specs.Words.{words}
use Rattle.hp_lines.proofs.LineLaws.{line_is_bounded}
use Rattle.hp_exec.specs.Executors.{Executor, answered, stepped}
use Rattle.hp_driver.specs.Teller.{Teller, teller}
use Rattle.hp_driver.specs.Telling.{count_before, shown_kinds, shown_values}
use Rattle.hp_driver.proofs.ExecutionLaws.{put_back, keeps_behaviour, tells_line}
use Rattle.hp_driver.proofs.Shown.{shown_of_kinds}
use Rattle.hp_driver.proofs.telling.TellingReactor.answer.Goals as goal

pub step-requires-clause-kinds : goal.step-requires-clause-kinds
step-requires-clause-kinds g c =
    let old : Executor = g.S.Steps.executor c.self.inside.exec in
    let values = c.deref.result.now in
    let same : values ≡ c.read_line.new.into = c.deref.ensures.value ∙ put_back c.self.inside.inputs.len c.read_line.new.into c.self.inside.inputs.items (search rules) in
    let read : AreOfKinds (kinds_of old.signature.inputs) c.read_line.new.into = search rules in
    subst (λ vs. AreOfKinds (kinds_of old.signature.inputs) vs) (sym same) read

pub invariant_of-self-2 : goal.invariant_of-self-2
invariant_of-self-2 g c =
    let old : Executor = g.S.Steps.executor c.self.inside.exec in
    let ending = c.self.inside.ending in
    let long : length c.show.new.shown ≡ length c.self.inside.shown.items = search rules in
    record {
      inputs = search rules;
      outputs = search rules;
      shown = ap length (put_back c.self.inside.shown.len c.show.new.shown c.self.inside.shown.items (search rules)) ∙ long ∙ c.self.invariant.shown
          ∙ ap (λ (s : SignatureData). count_before ending (length s.outputs) + 2) (sym c.step.ensures.signature);
      few = subst (λ (s : SignatureData). HaveFewConstructors (kinds_of s.inputs)) (sym c.step.ensures.signature) c.self.invariant.few;
      words = c.self.invariant.words ∙ ap (λ (s : SignatureData). shown_kinds ending (kinds_of s.outputs)) (sym c.step.ensures.signature);
      room = c.self.invariant.room;
      behaves = keeps_behaviour old (g.S.Steps.executor c.step.new.self) c.self.invariant.behaves c.step.ensures.runs c.step.ensures.kinded;
    }

pub write_line-requires-clause-kinds : goal.write_line-requires-clause-kinds
write_line-requires-clause-kinds g c =
    let old : Executor = g.S.Steps.executor c.self.inside.exec in
    let ending = c.self.inside.ending in
    let h = c.self.invariant.behaves in
    let outputs : AreOfKinds (kinds_of old.signature.outputs) c.step.new.outputs = c.step.ensures.kinds h.behaviour h.runs h.kinded in
    let given : c.deref-2.result.now ≡ c.step.new.outputs = c.deref-2.ensures.value ∙ put_back c.self.inside.outputs.len c.step.new.outputs c.self.inside.outputs.items (search rules) in
    let shown : c.deref-3.result.now ≡ shown_values ending c.step.new.outputs =
    c.deref-3.ensures.value ∙ put_back c.self.inside.shown.len c.show.new.shown c.self.inside.shown.items (search rules) ∙ c.show.ensures ∙ ap (shown_values ending) given in
    subst (λ ks. AreOfKinds ks c.deref-3.result.now) (sym c.self.invariant.words)
    (subst (λ vs. AreOfKinds (shown_kinds ending (kinds_of old.signature.outputs)) vs) (sym shown) (shown_of_kinds ending (kinds_of old.signature.outputs) c.step.new.outputs outputs))

pub returns-clause-answered : goal.returns-clause-answered
returns-clause-answered g c =
    let old : Executor = g.S.Steps.executor c.self.inside.exec in
    let t : Teller = c.args.self.now in
    let e = t.executor in
    let ending = t.ending in
    let line = c.args.line.now in
    let given = c.deref.result.now in
    let values = c.read_line.new.into in
    let kinds = kinds_of e.signature.outputs in
    let outs = shown_kinds ending kinds in
    let all = shown_values ending (answered e values) in
    let same : given ≡ values = c.deref.ensures.value ∙ put_back c.self.inside.inputs.len values c.self.inside.inputs.items (search rules) in
    let spelled : values_of (kinds_of e.signature.inputs) (words line) ≡ Some values = search rules in
    let unrefused : refusal (kinds_of e.signature.inputs) (words line) ≡ None = search rules in
    let next : g.S.Steps.executor c.step.new.self ≡ stepped e values = c.step.ensures.stepped ∙ (λ i. stepped (c.self.view_is i).executor (same i)) in
    let behind : teller (g.S.Steps.executor c.step.new.self) c.self.inside.ending ≡ teller (stepped e values) ending = λ i. teller (next i) (c.self.view_is i).ending in
    let put : c.deref-2.result.now ≡ c.step.new.outputs = c.deref-2.ensures.value ∙ put_back c.self.inside.outputs.len c.step.new.outputs c.self.inside.outputs.items (search rules) in
    let outputs : c.step.new.outputs ≡ answered e values = c.step.ensures.answered ∙ (λ i. answered (c.self.view_is i).executor (same i)) in
    let known : c.deref-2.result.now ≡ answered e values = put ∙ outputs in
    let shown : c.deref-3.result.now ≡ all =
    c.deref-3.ensures.value ∙ put_back c.self.inside.shown.len c.show.new.shown c.self.inside.shown.items (search rules) ∙ c.show.ensures ∙ (λ i. shown_values (c.self.view_is i).ending (known i)) in
    let named : kinds_of c.self.inside.words.outputs ≡ outs = c.self.invariant.words ∙ (λ i. shown_kinds (c.self.view_is i).ending (kinds_of (c.self.view_is i).executor.signature.outputs)) in
    let said : c.write_line.new.into.items ≡ c.args.into.now.items ++ line_of outs all = c.write_line.ensures.items ∙ (λ i. c.args.into.now.items ++ line_of (named i) (shown i)) in
    let h = c.self.invariant.behaves in
    let of_kinds : AreOfKinds kinds (answered e values) =
    subst (λ vs. AreOfKinds kinds vs) outputs
    (subst (λ (s : SignatureData). AreOfKinds (kinds_of s.outputs) c.step.new.outputs) (λ i. (c.self.view_is i).executor.signature)
    (c.step.ensures.kinds h.behaviour h.runs h.kinded)) in
    let lengths : length c.write_line.new.into.items ≡ length (c.args.into.now.items ++ line_of outs all) = ap length said in
    let whole = length-append c.args.into.now.items (line_of outs all) in
    let bound : length (line_of outs all) ≤ line_bound outs =
    elim (line_is_bounded outs all (shown_of_kinds ending kinds (answered e values) of_kinds)) [
      | inl h ↦ h
      | inr h ↦ omega (arith, h, lengths, whole, c.requires.free, c.write_line.new.into.ok.0, c.write_line.new.into.ok.1)
    ] in
    (line_of outs all, tells_line t line values unrefused spelled ∙ ap (λ d. Ok (line_of outs all, d)) (sym behind), said, bound)
