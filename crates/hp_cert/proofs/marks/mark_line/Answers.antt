use Rattle.std.proofs.Common.{Bool, List, length, get_or, sym, ap, subst, ◌∙◌, arith}
use Rattle.hp_cert.specs.Marks.{AreSound, AreClosed, marked}
use Rattle.hp_cert.proofs.LineLaws.{none, line_at, below_line}
use Rattle.hp_cert.proofs.MarkLaws.{line_sound, line_closed, marked_len}
use Rattle.hp_cert.proofs.marks.mark_line.Goals as goal

pub mark-requires : goal.mark-requires
mark-requires c =
    let lines = c.args.lines.now in
    let i = c.args.i in
    let below = below_line lines c.requires.lines i (get_or lines i none) (line_at lines i c.requires.i) in
    let low = below.0 in let len = c.requires.len in let within = c.requires.i in
    omega (arith, low, len, within)

pub mark-requires-2 : goal.mark-requires-2
mark-requires-2 c =
    let lines = c.args.lines.now in
    let i = c.args.i in
    let below = below_line lines c.requires.lines i (get_or lines i none) (line_at lines i c.requires.i) in
    let high = below.1 in let len = c.requires.len in let within = c.requires.i in
    let same = ap length c.mark.ensures in
    let kept = marked_len c.args.marks.now (get_or lines i none).low in
    omega (arith, high, len, within, same, kept)

pub returns-clause-sound : goal.returns-clause-sound
returns-clause-sound c = λ roots h.
    let lines = c.args.lines.now in
    let i = c.args.i in
    let l = get_or lines i none in
    let P : List Bool → Type 0 = λ ms. AreSound lines roots ms in
    subst P (sym (c.mark-2.ensures ∙ ap (λ z. marked z l.high) c.mark.ensures)) (line_sound lines roots c.args.marks.now i l (line_at lines i c.requires.i) c.if-not-marks-i.false h)

pub returns-clause-closed : goal.returns-clause-closed
returns-clause-closed c = λ h.
    let lines = c.args.lines.now in
    let i = c.args.i in
    let l = get_or lines i none in
    let P : List Bool → Type 0 = λ ms. AreClosed lines ms i in
    subst P (sym (c.mark-2.ensures ∙ ap (λ z. marked z l.high) c.mark.ensures)) (line_closed lines c.args.marks.now i l c.requires.lines c.requires.len (line_at lines i c.requires.i) h)
