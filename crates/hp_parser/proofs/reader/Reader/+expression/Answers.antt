use Rattle.std.proofs.Common.{◌≡◌, ◌-◌, map, sym, ap, ◌∙◌, arith}
use Rattle.std.proofs.lemmas.Result.{err_from_is_err_and}
use Rattle.hp_parser.specs.Descent.{measured_seen, at_depth, arguments_read, joined_read, level_read, sample_read, sampled_read}
use Rattle.hp_parser.specs.Grammar.{deepest, of_sample}
use Rattle.hp_parser.specs.Notation.{Measured}
use Rattle.hp_parser.specs.declared.measured.Part.{Part as FoundPart}
use Rattle.hp_parser.specs.Reading.{read_convert}
use Rattle.hp_parser.specs.Seen.{word_seen}
use Rattle.hp_parser.proofs.DescentLaws.{stops_with, arguments_fail, more_fails, samples_fails}
use Rattle.hp_parser.proofs.MeasuredLaws.{values_seen}
use Rattle.hp_parser.proofs.reader.Reader.+expression.Goals as goal

pub arguments-returns-in_err-expression-2-clause-read :
    goal.arguments-returns-in_err-expression-2-clause-read
arguments-returns-in_err-expression-2-clause-read t c =
    let p = err_from_is_err_and c.from_residual-in_err-expression-2.result c.from_residual-in_err-expression-2.ensures.1 in
    rw (p.1, p.2) (stops_with c.in_err-expression-2.field-0.0 c.expression-in-loop-mode.new.self
    ((at_depth c.args.mode (c.args.depth - 1)).expression c.sign.new.self) (arguments_read c.args.mode c.args.depth c.args.self.now)
    (λ fault k. sym c.loop-mode.invariant.read
    ∙ arguments_fail c.args.mode c.args.depth (map measured_seen c.loop-mode.args.items) c.loop-mode.self c.sign.new.self c.expression-in-loop-mode.new.self (word_seen c.in_ok-sign.field-0) fault
    (sym c.loop-mode-test.ensures) c.in_ok-sign.ensures k) c.in_err-expression-2.ensures.read)

pub level-returns-in_err-left-2-clause-read : goal.level-returns-in_err-left-2-clause-read
level-returns-in_err-left-2-clause-read t c =
    let p = err_from_is_err_and c.from_residual-in_err-left-2.result c.from_residual-in_err-left-2.ensures.1 in
    rw (p.1, p.2) (stops_with c.in_err-left-2.field-0.0 c.parse_operation.new.self
    (joined_read c.args.mode c.args.depth c.args.level (measured_seen c.loop-mode.left) c.loop-mode.self) (level_read c.args.mode c.args.depth c.args.level c.args.self.now)
    (λ fault k. sym c.loop-mode.invariant.read
    ∙ more_fails c.args.mode c.args.depth c.args.level (measured_seen c.loop-mode.left) c.loop-mode.self c.parse_operation.new.self fault (sym c.loop-mode-test.ensures) c.if-depth-left-lt2.false k)
    c.in_err-left-2.ensures.read)

pub parse_merge-returns-clause-within : goal.parse_merge-returns-clause-within
parse_merge-returns-clause-within t c =
    let height : c.in_ok-merge.field-0.height ≡ deepest (map (λ (p : FoundPart). measured_seen p.value) c.in_ok-parts.parts.items) =
    ap (λ (m : Measured). m.height) c.in_ok-merge.ensures ∙ ap deepest (values_seen c.in_ok-parts.parts.items) in
    omega (arith, height, c.in_ok-parts.ensures.within)

pub parse_samples-returns-in_err-left-2-clause-read : goal.parse_samples-returns-in_err-left-2-clause-read
parse_samples-returns-in_err-left-2-clause-read t c =
    let p = err_from_is_err_and c.from_residual-in_err-left-2.result c.from_residual-in_err-left-2.ensures.1 in
    rw (p.1, p.2) (stops_with c.in_err-left-2.field-0.0 c.when.new.self
    (read_convert (of_sample (measured_seen c.loop-mode.left)) sample_read c.loop-mode.self) (sampled_read c.args.mode c.args.depth c.args.self.now)
    (λ fault k. sym c.loop-mode.invariant.read
    ∙ samples_fails c.args.mode c.args.depth (measured_seen c.loop-mode.left) c.loop-mode.self c.when.new.self fault (sym c.loop-mode-test.ensures) c.if-depth-left-lt2.false k)
    c.in_err-left-2.ensures)
