use Rattle.std.proofs.Common.{codes, ap, ◌∙◌, arith}
use Rattle.hp_cert.specs.Certtext.Reading.{either, until, fun}
use Rattle.hp_cert.proofs.CerttextLemmas.UntilLaws.{pick_strict, ref_falls, until_more, first_read}
use Rattle.hp_cert.proofs.certtext.reader.Reader.funs.Goals as goal

pub loop-funs-preserved : goal.loop-funs-preserved
loop-funs-preserved c =
    let old = c.loop-funs.funs.items in
    let x = c.in_ok-ref_line.field-0 in
    ap (λ z. until (codes "fun") (codes "end") (fun c.args.end) z c.ref_line.new.self) c.in_ok-push.ensures.items
    ∙ until_more (codes "fun") (codes "end") (fun c.args.end) (pick_strict (codes "fun") (codes "end")) (λ i. ref_falls c.args.end) old x c.loop-funs.self c.either.new.self c.ref_line.new.self
    (first_read (either (codes "fun") (codes "end") c.loop-funs.self) c.in_ok-either.field-0 c.either.new.self c.in_ok-either.ensures.read c.if-branch.true) c.in_ok-ref_line.ensures
    ∙ c.loop-funs.invariant

pub loop-funs-smaller : goal.loop-funs-smaller
loop-funs-smaller c =
    let one = c.in_ok-either.ensures.shorter in
    let two = ref_falls c.args.end c.either.new.self c.in_ok-ref_line.field-0 c.ref_line.new.self c.in_ok-ref_line.ensures in
    omega (arith, one, two)
