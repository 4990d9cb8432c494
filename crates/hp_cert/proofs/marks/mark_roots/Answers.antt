use Rattle.std.proofs.Common.{◌+◌, ◌<◌, ◌≤◌, Bool, List, length, get_or, refl, sym, subst, arith}
use Rattle.hp_cert.proofs.MarkLaws.{Begun, begun_none, begun_more, begun_all}
use Rattle.hp_cert.proofs.marks.mark_roots.Goals as goal

pub loop-r-init : goal.loop-r-init
loop-r-init c = begun_none c.args.lines.now c.args.roots.now c.args.marks.now c.requires.len c.requires.none

pub mark-requires : goal.mark-requires
mark-requires c =
    let i = c.loop-r.r-index in
    let less : i < length c.args.roots.now = omega arith in
    let ref = c.requires.roots i 0 less in
    let low = ref.0 in
    let len = c.loop-r.invariant.len in
    omega (arith, low, len)

pub loop-r-preserved : goal.loop-r-preserved
loop-r-preserved c =
    let i = c.loop-r.r-index in
    let roots = c.args.roots.now in
    let less : i < length roots = omega arith in
    let ref = c.requires.roots i 0 less in
    let P : List Bool → Type 0 = λ ms. Begun c.args.lines.now roots ms (i + 1) in
    subst P (sym c.mark.ensures) (begun_more c.args.lines.now roots c.loop-r.marks i (get_or roots i 0) less refl ref.0 c.loop-r.invariant)

pub returns : goal.returns
returns c =
    let far : length c.args.roots.now ≤ c.loop-r.r-index = omega arith in
    begun_all c.args.lines.now c.args.roots.now c.loop-r.marks c.loop-r.r-index far c.loop-r.invariant
