use Rattle.std.proofs.Common.{◌+◌, get_or, map, drop, sym, ap, ◌∙◌}
use Rattle.std.proofs.lemmas.List.{get_or_default}
use Rattle.hp_init.specs.declared.ask.Ask.TheVariants.{Follows}
use Rattle.hp_init.specs.Goals.{with_more}
use Rattle.hp_init.proofs.AskLaws.{asked-targets}
use Rattle.hp_init.proofs.expression.tell_targets.Goals as goal

pub loop-target-preserved : goal.loop-target-preserved
loop-target-preserved c =
    let i = c.loop-target.target-index in
    let targets = c.args.targets.now in
    let target = get_or targets i 0 in
    ap (λ asks. with_more asks (map (Follows c.args.source) (drop (i + 1) targets))) c.in_ok-push.ensures.items
    ∙ sym (asked-targets c.loop-target.asks.items c.args.source targets i target c.loop-target-test.true (get_or_default targets i 0 target c.loop-target-test.true))
    ∙ c.loop-target.invariant
