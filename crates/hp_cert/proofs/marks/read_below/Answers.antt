use Rattle.std.proofs.Common.{◌↔◌, Bool, IsTrue, List, subst}
use Rattle.hp_cert.specs.Marks.{AreBelow}
use Rattle.hp_cert.proofs.MarkLaws.{below_told}
use Rattle.hp_cert.proofs.marks.read_below.Goals as goal

pub returns : goal.returns
returns c =
    let lines = c.args.lines.now in
    let marks = c.in_ok-marks.marks.items in
    let told = below_told lines c.args.roots.now marks c.args.bound c.in_ok-marks.ensures in
    let P : List Bool → Type 0 = λ ms. IsTrue c.are_below.result ↔ AreBelow lines ms c.args.bound in
    let here = subst P c.deref.ensures.value c.are_below.ensures in
    (λ h. told.0 (here.0 h), λ h. here.1 (told.1 h))
