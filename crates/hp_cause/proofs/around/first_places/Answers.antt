use Rattle.std.proofs.Common.{◌≡◌, ◌+◌, drop, sym, ap, ◌∙◌}
use Rattle.std.specs.Prelude.{position}
use Rattle.std.specs.Str.{bytes_eq}
use Rattle.hp_cause.specs.Gathering.{in_list}
use Rattle.hp_cause.specs.Around.{first_places}
use Rattle.hp_cause.specs.Told.{names_seen, with_more}
use Rattle.hp_cause.proofs.AroundLaws.{next-first}
use Rattle.hp_cause.proofs.around.first_places.Goals as goal

pub loop-i-preserved : goal.loop-i-preserved
loop-i-preserved c =
    let i = c.loop-i.i in
    let names = c.args.names.now in
    let around = names_seen c.args.set.now.keys in
    let name = c.index-names-i.result in
    let before = c.loop-i.places.items in
    let name_is : c.bytes.result.now ≡ name.now = cc in
    ap (λ made. with_more made (first_places around (names_seen (drop (i + 1) names)))) (c.in_ok-add_place.ensures ∙ ap (λ x. with_more before (in_list (position (bytes_eq x) around))) name_is)
    ∙ sym (next-first around before names i name c.loop-i-test.true c.index-names-i.is)
    ∙ c.loop-i.invariant
