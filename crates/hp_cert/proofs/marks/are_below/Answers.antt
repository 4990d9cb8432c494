use Rattle.std.proofs.Common.{refl, arith}
use Rattle.std.proofs.lemmas.Option.{slice_get_within}
use Rattle.hp_cert.proofs.marks.are_below.Goals as goal

pub returns : goal.returns
returns c = (λ t i l e m. let w = slice_get_within c.args.lines.now i l e in let far = c.loop-i-test.false in c.loop-i.invariant i l (omega (arith, w, far)) e m, λ h. refl)
