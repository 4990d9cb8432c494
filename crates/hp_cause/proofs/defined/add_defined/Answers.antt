use Rattle.std.proofs.Common.{◌≡◌, Some, IfSome, OnOk, sym, ap, subst, ◌∙◌}
use Rattle.hp_cause.specs.Around.{of_places, places_from}
use Rattle.hp_cause.specs.Gathering.{of_defined}
use Rattle.hp_tables.specs.Defining.Names.{listed}
use Rattle.hp_tables.specs.Defining.Layers.{sight}
use Rattle.hp_cause.specs.Told.{facts_seen, names_seen, with_more}
use Rattle.hp_cause.proofs.AroundLaws.{all-walked}
use Rattle.hp_cause.proofs.defined.add_defined.Goals as goal

pub returns-in-Some : goal.returns-in-Some
returns-in-Some c =
    let see = sight c.args.layers.now in
    let control = c.args.control in
    let vertex = Some c.args.read_by_each in
    let span = c.args.span in
    let names = names_seen c.args.names.now in
    let around = names_seen c.args.around.now.names.items in
    let places : c.in-Some.places.items ≡ places_from 0 (listed names) around =
    subst (λ found. IfSome found (λ places. places.items ≡ places_from 0 (listed names) around)) c.in-Some.is c.in_ok-places.ensures in
    let facts =
    ap (λ xs. of_places see control vertex span (names_seen xs) c.deref-in-Some-2.result.now) c.deref-in-Some.ensures.value
    ∙ ap (λ ps. of_places see control vertex span around ps) (c.deref-in-Some-2.ensures.value ∙ places)
    ∙ all-walked see control vertex span (listed names) around
    ∙ ap (λ defined. of_defined see control vertex span defined around) (sym c.requires) in
    subst (λ made. OnOk c.add_at_places.result (facts_seen c.add_at_places.new.facts.items ≡ with_more (facts_seen c.args.facts.now.items) made)) facts c.add_at_places.ensures
