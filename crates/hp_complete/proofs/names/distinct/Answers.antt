use Rattle.std.proofs.Common.{◌≡◌, ◌+◌, drop, sym, ap, ◌∙◌}
use Rattle.hp_complete.specs.Names.{names_seen, with_each_once, with_once}
use Rattle.hp_complete.proofs.NameLaws.{once-next}
use Rattle.hp_complete.proofs.names.distinct.Goals as goal

pub loop-i-preserved : goal.loop-i-preserved
loop-i-preserved c =
    let names = c.args.names.now in
    let i = c.loop-i.i in
    let name = c.index-names-i.result in
    let name_is : c.bytes.result.now ≡ name.now = cc in
    let rest = names_seen (drop (i + 1) names) in
    record {
      same = c.in_ok-add_once.ensures.seen ∙ ap (λ found. with_once found c.bytes.result.now) c.loop-i.invariant.same ∙ sym c.in_ok-add_once.ensures.names;
      made = ap (λ found. with_each_once found rest) (c.in_ok-add_once.ensures.names ∙ ap (λ x. with_once (names_seen c.loop-i.found.items) x) name_is)
          ∙ sym (once-next (names_seen c.loop-i.found.items) names i name c.loop-i-test.true c.index-names-i.is)
          ∙ c.loop-i.invariant.made;
    }
