use Rattle.std.proofs.Common.{◌≡◌, ◌-◌, ◌<◌, ◌≤◌, false, true, get_or, slice_index_or, sym, ◌∙◌, arith}
use Rattle.hp_cert.proofs.LineLaws.{none, step_high, step_low, end_value}
use Rattle.hp_cert.proofs.value.value.Goals as goal

pub loop-at-smaller-then-value_at : goal.loop-at-smaller-then-value_at
loop-at-smaller-then-value_at c =
    let at = c.loop-at.at in
    let some : 2 ≤ at = omega arith in
    let on : slice_index_or c.args.values.now (get_or c.args.lines.now (at - 2) none).var false ≡ true = sym c.value_at.ensures ∙ c.if-value_at.true in
    (step_high c.args.lines.now c.requires.lines at c.args.values.now some c.loop-at.invariant.0 on).0

pub loop-at-preserved-then-value_at : goal.loop-at-preserved-then-value_at
loop-at-preserved-then-value_at c =
    let at = c.loop-at.at in
    let some : 2 ≤ at = omega arith in
    let on : slice_index_or c.args.values.now (get_or c.args.lines.now (at - 2) none).var false ≡ true = sym c.value_at.ensures ∙ c.if-value_at.true in
    let s = step_high c.args.lines.now c.requires.lines at c.args.values.now some c.loop-at.invariant.0 on in
    let less = s.0 in let within = c.loop-at.invariant.0 in
    (omega (arith, less, within), s.1 ∙ c.loop-at.invariant.1)

pub loop-at-smaller : goal.loop-at-smaller
loop-at-smaller c =
    let at = c.loop-at.at in
    let some : 2 ≤ at = omega arith in
    let on : slice_index_or c.args.values.now (get_or c.args.lines.now (at - 2) none).var false ≡ false = sym c.value_at.ensures ∙ c.if-value_at.false in
    (step_low c.args.lines.now c.requires.lines at c.args.values.now some c.loop-at.invariant.0 on).0

pub loop-at-preserved : goal.loop-at-preserved
loop-at-preserved c =
    let at = c.loop-at.at in
    let some : 2 ≤ at = omega arith in
    let on : slice_index_or c.args.values.now (get_or c.args.lines.now (at - 2) none).var false ≡ false = sym c.value_at.ensures ∙ c.if-value_at.false in
    let s = step_low c.args.lines.now c.requires.lines at c.args.values.now some c.loop-at.invariant.0 on in
    let less = s.0 in let within = c.loop-at.invariant.0 in
    (omega (arith, less, within), s.1 ∙ c.loop-at.invariant.1)

pub returns : goal.returns
returns c = let few : c.loop-at.at < 2 = omega arith in end_value c.args.lines.now c.loop-at.at c.args.values.now few ∙ c.loop-at.invariant.1
