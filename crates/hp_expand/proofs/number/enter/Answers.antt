use Rattle.std.proofs.Common.{◌≡◌, ap, ◌∙◌}
use Rattle.hp_expand.specs.Numbered.{said_inside}
use Rattle.hp_expand.specs.Layers.{no_number, numbers_from, says, said_in}
use Rattle.hp_expand.proofs.LayerLaws.{said-entered}
use Rattle.hp_expand.proofs.number.enter.Goals as goal

pub returns-clause-said : goal.returns-clause-said
returns-clause-said c =
    let old = c.args.numbers.now in
    let own = c.in_ok-own.own in
    let ds = c.block.inside.locals.items in
    let numbers : says own ≡ numbers_from no_number old.next ds = c.in_ok-own.ensures.numbers ∙ ap (numbers_from no_number old.next) c.deref.ensures.value in
    ap said_in c.in_ok-push.ensures.items ∙ said-entered old.layers.items own old.next ds numbers ∙ ap (said_inside (said_in old.layers.items) old.next) c.block.view_is
