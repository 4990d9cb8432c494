use Rattle.std.proofs.Common.{◌≡◌, ◌≤◌, [], length, arith, rules, sym}
use Rattle.std.proofs.lemmas.Bool.Decides.{nat_tests}
use Rattle.hp_obctext.proofs.MemoryCounting.{line_wrong, read_first, read_next, read_wrong, read_end, read_more, no_bytes, some_bytes}
use Rattle.hp_obctext.proofs.memory.heading.count_values.Goals as goal

pub returns-in_err-line-clause-refused : goal.returns-in_err-line-clause-refused
returns-in_err-line-clause-refused c =
    let wrong = line_wrong c.args.text.now c.in_err-line.field-0.0.now c.in_err-line.ensures.refused in
    search (rules, wrong)

pub loop-line-init : goal.loop-line-init
loop-line-init c =
    let l = c.in_ok-line.ensures.shorter in
    (read_first c.args.text.now c.in_ok-line.line.word.now c.in_ok-line.line.rest.now c.in_ok-line.ensures.word c.in_ok-line.ensures.read, omega (arith, l))

pub returns-in_err-line-2-clause-refused : goal.returns-in_err-line-2-clause-refused
returns-in_err-line-2-clause-refused c =
    let wrong = read_wrong c.args.text.now c.loop-line.line.word.now c.loop-line.line.rest.now c.in_err-line-2.field-0.0.now c.loop-line.count c.loop-line.invariant.0 (sym c.loop-line-test.ensures) c.in_err-line-2.ensures.refused in
    search (rules, wrong)

pub loop-line-preserved : goal.loop-line-preserved
loop-line-preserved c =
    let l = c.in_ok-line-2.ensures.shorter in
    let k = c.loop-line.invariant.1 in (
      read_next c.args.text.now c.loop-line.line.word.now c.loop-line.line.rest.now c.in_ok-line-2.line.word.now c.in_ok-line-2.line.rest.now c.loop-line.count c.loop-line.invariant.0 (sym c.loop-line-test.ensures) c.in_ok-line-2.ensures.word c.in_ok-line-2.ensures.read,
      omega (arith, l, k),
    )

pub returns-then-is_empty-clause-read : goal.returns-then-is_empty-clause-read
returns-then-is_empty-clause-read c =
    read_end c.args.text.now c.loop-line.line.word.now c.loop-line.line.rest.now c.loop-line.count c.loop-line.invariant.0 (sym c.loop-line-test.ensures) (no_bytes c.loop-line.line.rest.now (sym c.if-is_empty.ensures))

pub returns-else-is_empty-clause-refused : goal.returns-else-is_empty-clause-refused
returns-else-is_empty-clause-refused c =
    read_more c.args.text.now c.loop-line.line.word.now c.loop-line.line.rest.now c.loop-line.count c.loop-line.invariant.0 (sym c.loop-line-test.ensures) (some_bytes c.loop-line.line.rest.now (sym c.if-is_empty.ensures))
