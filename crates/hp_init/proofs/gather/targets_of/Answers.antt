use Rattle.std.proofs.Common.{◌≡◌, ◌+◌, drop, sym, ap, ◌∙◌}
use Rattle.hp_tables.specs.Defining.Layers.{sight}
use Rattle.hp_init.specs.Asks.{targets_of}
use Rattle.hp_init.specs.Goals.{with_more, target_of}
use Rattle.hp_init.proofs.AskLaws.{targets-next}
use Rattle.hp_init.proofs.gather.targets_of.Goals as goal

pub loop-name-preserved : goal.loop-name-preserved
loop-name-preserved c =
    let i = c.loop-name.name-index in
    let names = c.args.names.now in
    let item = c.loop-name-item.result in
    let see = sight c.args.variables.now in
    let before = c.loop-name.targets.items in
    let name_is : c.bytes.result.now ≡ item.0 = cc in
    ap (λ made. with_more made (targets_of see (drop (i + 1) names))) (c.in_ok-add_target.ensures ∙ ap (λ name. with_more before (target_of see name)) name_is)
    ∙ sym (targets-next before see names i item c.loop-name-test.true c.loop-name-item.is)
    ∙ c.loop-name.invariant
