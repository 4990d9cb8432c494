use Rattle.std.proofs.Common.{◌+◌, ℕ, List, map, drop, sym, ap, ◌∙◌}
use Rattle.hp_base.specs.declared.span.Span.{Span}
use Rattle.hp_tables.specs.Defining.Seen.{names_seen, with_more}
use Rattle.hp_tables.proofs.DefiningLemmas.NameLaws.{names-left}
use Rattle.hp_tables.proofs.defining.names.add_left.Goals as goal

pub loop-name-preserved : goal.loop-name-preserved
loop-name-preserved c =
    let i = c.loop-name.name-index in
    let names = c.args.names.now in
    let item = c.loop-name-item.result in
    let before = names_seen c.loop-name.into.items in
    let rest = map (λ (y : List ℕ × Span). y.0) (drop (i + 1) names) in
    ap (λ made. with_more made rest) c.in_ok-push.ensures
    ∙ sym (names-left before names i item c.loop-name-test.true c.loop-name-item.is)
    ∙ c.loop-name.invariant
