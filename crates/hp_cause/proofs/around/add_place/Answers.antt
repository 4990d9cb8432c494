use Rattle.std.proofs.Common.{sym, ap, ◌∙◌}
use Rattle.hp_cause.specs.Gathering.{in_list}
use Rattle.hp_cause.specs.Told.{with_more}
use Rattle.hp_cause.proofs.AroundLaws.{position-seen}
use Rattle.hp_cause.proofs.GrowLaws.{more-nil}
use Rattle.hp_cause.proofs.around.add_place.Goals as goal

pub returns-in_ok-push : goal.returns-in_ok-push
unfolding with_more
returns-in_ok-push c =
    c.in_ok-push.ensures.items
    ∙ ap (λ o. with_more c.args.into.now.items (in_list o)) (sym c.in-Some.is ∙ c.get_index_of.ensures.index ∙ position-seen c.args.name.now c.args.set.now.keys)

pub returns-in_default : goal.returns-in_default
returns-in_default c =
    let items = c.args.into.now.items in
    sym (more-nil items)
    ∙ ap (λ o. with_more items (in_list o)) (sym c.in_default.is ∙ c.get_index_of.ensures.index ∙ position-seen c.args.name.now c.args.set.now.keys)
