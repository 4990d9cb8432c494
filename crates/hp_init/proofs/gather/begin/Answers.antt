use Rattle.std.proofs.Common.{[], ◌∷◌, ◌++◌, ap, ◌∙◌}
use Rattle.hp_tree.specs.Meaning.{names_of as declared}
use Rattle.hp_tables.specs.Defining.Layers.{says_numbers}
use Rattle.hp_init.proofs.GatherLaws.{begun}
use Rattle.hp_init.proofs.gather.begin.Goals as goal

pub returns-clause-seen : goal.returns-clause-seen
returns-clause-seen c =
    let ds = c.args.outputs.now in
    let own = c.in_ok-declared.field-0 in
    let read = c.in_ok-declared-2.field-0 in
    let zero_is = ap (λ k. says_numbers k (declared ds)) c.in_ok-first.ensures.first in
    begun c.push.new.self.items c.push-2.new.self.items own read ds (c.in_ok-push.ensures.items ∙ ap (λ ls. ls ++ own ∷ []) c.new-variables.ensures.items)
    (c.in_ok-push-2.ensures.items ∙ ap (λ ls. ls ++ read ∷ []) c.new-values.ensures.items) (c.in_ok-declared.ensures ∙ zero_is) (c.in_ok-declared-2.ensures ∙ zero_is)
