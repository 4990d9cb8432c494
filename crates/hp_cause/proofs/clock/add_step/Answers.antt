use Rattle.std.proofs.Common.{[], ◌∷◌, reverse, sym, ap, ◌∙◌}
use Rattle.hp_cause.specs.Gathering.{names_of_clock}
use Rattle.hp_cause.specs.Told.{names_seen, with_more}
use Rattle.hp_cause.proofs.GrowLaws.{more-append}
use Rattle.hp_cause.proofs.clock.add_step.Goals as goal

pub returns : goal.returns
returns c =
    let names = names_of_clock (reverse c.args.path.now) in
    c.in_ok-add_path.ensures ∙ ap (λ made. with_more made names) c.in_ok-add_name.ensures ∙ sym (more-append (names_seen c.args.into.now.items) (c.args.name.now ∷ []) names)
