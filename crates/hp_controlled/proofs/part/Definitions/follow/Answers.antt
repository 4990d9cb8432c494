use Rattle.std.proofs.Common.{◌≡◌, ◌∙◌, ◌+◌, ◌-◌, ◌<◌, Some, ap, arith, length, refl, slice_get, suc, sym}
use Rattle.std.proofs.lemmas.Option.{slice_get_read}
use Rattle.hp_controlled.specs.Reaching.{all_entered, chain, reaching_seen}
use Rattle.hp_controlled.proofs.PartLaws.{chain-next}
use Rattle.hp_controlled.proofs.part.Definitions.follow.Goals as goal

pub loop-i-preserved : goal.loop-i-preserved
loop-i-preserved c =
    let n = c.args.node.now in
    let all = c.args.self.now.all.items in
    let at = c.loop-i.at in
    let d = c.in-Some.field-0.now in
    let es = c.deref.result.now in
    let below : c.loop-i._i < length all = omega (arith, c.loop-i-test.true, c.len-i-end.ensures) in
    let most = length all - (c.loop-i._i + 1) in
    let more : length all - c.loop-i._i ≡ suc most = omega (arith, below) in
    let positive : 0 < at = omega arith in
    let found : slice_get all (at - 1) ≡ Some d = ap (λ xs. slice_get xs (at - 1)) (sym c.deref.ensures.value) ∙ slice_get_read es (length es) (at - 1) d refl c.in-Some.ensures.lookup.3.0 c.in-Some.ensures.lookup.1 in
    ap (all_entered n (chain most all d.1)) c.in_ok-enter_at.ensures ∙ chain-next n all (length all - c.loop-i._i) most at d (reaching_seen c.loop-i.found) positive more found ∙ c.loop-i.invariant
