use Rattle.std.proofs.Common.{◌+◌, ℕ, get_or, drop, Some, sym, ap, ◌∙◌}
use Rattle.std.proofs.lemmas.List.{get_or_default}
use Rattle.hp_cause.specs.Around.{of_places}
use Rattle.hp_tables.specs.Defining.Layers.{sight}
use Rattle.hp_cause.specs.Told.{facts_seen, names_seen, with_more}
use Rattle.hp_cause.proofs.AroundLaws.{next-place}
use Rattle.hp_cause.proofs.defined.add_at_places.Goals as goal

pub loop-i-preserved : goal.loop-i-preserved
loop-i-preserved c =
    let i = c.loop-i.i in
    let places = c.args.places.now in
    let around = names_seen c.args.around.now in
    let see = sight c.args.layers.now in
    let place : ℕ = get_or places i 0 in
    let before = facts_seen c.loop-i.facts.items in
    ap (λ made. with_more made (of_places see c.args.control (Some c.args.read_by_each) c.args.span around (drop (i + 1) places))) c.in_ok-add_at_place.ensures
    ∙ sym (next-place before see c.args.control (Some c.args.read_by_each) c.args.span around places i place c.loop-i-test.true (get_or_default places i 0 place c.loop-i-test.true))
    ∙ c.loop-i.invariant
