use Rattle.std.proofs.Common.{◌∙◌, ap}
use Rattle.std.proofs.lemmas.Option.{MatchOption-at_some}
use Rattle.std.specs.Prelude.{option_map}
use Rattle.hp_tree.specs.Programs.{Node}
use Rattle.hp_verdicts.proofs.DecideLaws.{shown_forced}
use Rattle.hp_verdicts.proofs.deciding.decide_contract.Goals as goal

pub returns-clause-refused : goal.returns-clause-refused
returns-clause-refused c =
    let refuted = MatchOption-at_some _ _ c.in-Some.field-0 c.in-Some.is c.in_ok-decide_machine.ensures in (
      c.in_ok-node-in-Some.ensures ∙ ap (λ (n : Node). n.name) c.node.view_is,
      c.requires,
      shown_forced c.args.program.now c.args.node.now c.in_ok-m.m c.in_ok-m.ensures.machine c.is_wide.result c.is_wide.ensures c.in-Some.field-0.instants (option_map (λ text. text.items) c.in-Some.field-0.cert) refuted,
    )
