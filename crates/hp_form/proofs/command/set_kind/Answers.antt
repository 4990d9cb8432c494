use Rattle.std.proofs.Common.{sym, ap, ◌∙◌}
use Rattle.hp_obc.specs.Form.{argument_kind, scope}
use Rattle.hp_form.specs.Kinds.{on_one, on_two, on_three}
use Rattle.hp_form.proofs.ScopeLaws.{given_one, given_two, given_three, given_else}
use Rattle.hp_form.proofs.command.set_kind.Goals as goal

pub returns-then-count-eq1 : goal.returns-then-count-eq1
returns-then-count-eq1 c =
    let types = c.args.names.now.types.now.declared.now in
    let vars = scope c.args.names.now.machine.now in
    c.on_one.ensures types ∙ ap (on_one c.args.op) (c.arg.ensures ∙ ap (argument_kind types vars) c.index-args-0.is) ∙ sym (given_one types vars c.args.op c.args.args.now c.index-args-0.result c.if-count-eq1.true)

pub returns-then-count-eq2 : goal.returns-then-count-eq2
returns-then-count-eq2 c =
    let types = c.args.names.now.types.now.declared.now in
    let vars = scope c.args.names.now.machine.now in
    let first = c.arg-then-count-eq2.ensures ∙ ap (argument_kind types vars) c.index-args-0-then-count-eq2.is in
    let second = c.arg-then-count-eq2-2.ensures ∙ ap (argument_kind types vars) c.index-args-1.is in
    c.on_two.ensures types ∙ (λ i. on_two c.args.op (first i) (second i)) ∙ sym (given_two types vars c.args.op c.args.args.now c.index-args-0-then-count-eq2.result c.index-args-1.result c.if-count-eq2.true)

pub returns-then-count-eq3 : goal.returns-then-count-eq3
returns-then-count-eq3 c =
    let types = c.args.names.now.types.now.declared.now in
    let vars = scope c.args.names.now.machine.now in
    let first = c.arg-first.ensures ∙ ap (argument_kind types vars) c.index-args-0-then-count-eq3.is in
    let second = c.arg-second.ensures ∙ ap (argument_kind types vars) c.index-args-1-then-count-eq3.is in
    let third = c.arg-then-count-eq3.ensures ∙ ap (argument_kind types vars) c.index-args-2.is in
    c.on_three.ensures types ∙ (λ i. on_three c.args.op (first i) (second i) (third i))
    ∙ sym (given_three types vars c.args.op c.args.args.now c.index-args-0-then-count-eq3.result c.index-args-1-then-count-eq3.result c.index-args-2.result c.if-count-eq3.true)

pub returns : goal.returns
returns c = given_else c.args.names.now.types.now.declared.now (scope c.args.names.now.machine.now) c.args.op c.args.args.now c.if-count-eq1.false c.if-count-eq2.false c.if-count-eq3.false
