use Rattle.std.proofs.Common.{◌≡◌, ◌+◌, ◌-◌, length, subst, arith}
use Rattle.hp_cert.specs.Marks.{AreClosed}
use Rattle.hp_cert.proofs.MarkLaws.{closed_behind}
use Rattle.hp_cert.proofs.marks.mark_lines.Goals as goal

pub loop-i-init : goal.loop-i-init
loop-i-init c = record { len = c.requires.len; within = omega arith; sound = λ roots h. h; closed = closed_behind c.args.lines.now c.args.marks.now (length c.args.lines.now) (omega arith) }

pub loop-i-preserved : goal.loop-i-preserved
loop-i-preserved c =
    let i = c.loop-i.i in
    let one : i ≡ (i - 1) + 1 = omega arith in
    let within = c.loop-i.invariant.within in
    record {
      len = (let kept = c.mark_line.auto.marks in let len = c.loop-i.invariant.len in omega (arith, kept, len));
      within = omega (arith, within);
      sound = λ roots h. c.mark_line.ensures.sound roots (c.loop-i.invariant.sound roots h);
      closed = c.mark_line.ensures.closed (subst (λ n. AreClosed c.args.lines.now c.loop-i.marks n) one c.loop-i.invariant.closed);
    }
