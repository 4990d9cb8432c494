use Rattle.std.proofs.Common.{◌≡◌, Bool, List, length, rules, sym, subst}
use Rattle.hp_cert.specs.Marks.{AreReached}
use Rattle.hp_cert.proofs.FunctionLaws.{put_back}
use Rattle.hp_cert.proofs.marks.reached.Goals as goal

pub returns : goal.returns
returns c =
    let new = c.mark_reached.new.marks in
    let len : c.in_ok-marks.marks.len ≡ length new = search rules in
    let P : List Bool → Type 0 = λ ms. AreReached c.args.lines.now c.args.roots.now ms in
    subst P (sym (put_back c.in_ok-marks.marks.len new _ len)) c.mark_reached.ensures
