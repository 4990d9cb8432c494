use Rattle.std.proofs.Common.{ap, ◌∙◌}
use Rattle.hp_tree.specs.Meaning.{controls_of}
use Rattle.hp_cause.specs.Gathering.{behind_controls, of_controls}
use Rattle.hp_cause.specs.Told.{facts_seen, with_more}
use Rattle.hp_cause.proofs.GrowLaws.{more-is, more-from_nil}
use Rattle.hp_cause.proofs.gather.gather_node.Goals as goal

pub returns-clause-facts : goal.returns-clause-facts
returns-clause-facts c =
    let n = c.args.node.now in
    let controls = of_controls 0 (controls_of n.contract) in
    c.in_ok-gather_parts.ensures.facts
    ∙ ap (λ facts. with_more facts (behind_controls n)) (c.in_ok-scope.ensures.facts ∙ ap (λ items. with_more (facts_seen items) controls) c.new.ensures.items ∙ more-from_nil controls)
    ∙ more-is controls (behind_controls n)
