use Rattle.std.proofs.Common.{Some, sym, ap, ◌∙◌}
use Rattle.hp_cause.specs.Around.{of_place}
use Rattle.hp_tables.specs.Defining.Layers.{sight}
use Rattle.hp_cause.specs.Told.{facts_seen, with_more}
use Rattle.hp_cause.proofs.AroundLaws.{name-beyond}
use Rattle.hp_cause.proofs.GrowLaws.{more-nil}
use Rattle.hp_cause.proofs.defined.add_at_place.Goals as goal

pub returns : goal.returns
returns c =
    let facts = facts_seen c.args.facts.now.items in
    sym (more-nil facts)
    ∙ ap (λ name. with_more facts (of_place (sight c.args.layers.now) c.args.control (Some c.args.read_by_each) c.args.span name))
    (sym (name-beyond c.args.around.now c.args.place c.in_default.ensures.lookup.3))
