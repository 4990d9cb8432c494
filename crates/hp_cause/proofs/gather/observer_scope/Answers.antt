use Rattle.std.proofs.Common.{[], ◌∷◌, ◌++◌, ap, ◌∙◌}
use Rattle.hp_tables.specs.Defining.Layers.{says_seen, sight}
use Rattle.hp_cause.specs.Told.{names_seen}
use Rattle.hp_cause.proofs.TableLaws.{sight-declared}
use Rattle.hp_cause.proofs.gather.observer_scope.Goals as goal

pub returns-clause-seen : goal.returns-clause-seen
returns-clause-seen c =
    let layer = c.in_ok-layer.layer in
    let see = sight c.args.own.now in
    ap sight (c.in_ok-push.ensures.items ∙ ap (λ ls. ls ++ layer ∷ []) c.new-values.ensures.items)
    ∙ sight-declared layer c.args.outputs.now see (c.in_ok-layer.ensures ∙ ap (λ names. says_seen (names_seen names) see) c.deref.ensures.value ∙ ap (λ names. says_seen names see) c.in_ok-names.ensures)
