use Rattle.std.proofs.Common.{◌≡◌, ◌+◌, drop, sym, ap, ◌∙◌}
use Rattle.hp_tables.specs.Defining.Layers.{sight}
use Rattle.hp_init.specs.Asks.{to_want, tell_name, of_path}
use Rattle.hp_init.specs.Goals.{with_more}
use Rattle.hp_init.proofs.AskLaws.{asked-path}
use Rattle.hp_init.proofs.gather.gather_path.Goals as goal

pub loop-name-preserved : goal.loop-name-preserved
loop-name-preserved c =
    let i = c.loop-name.name-index in
    let path = c.args.path.now in
    let step = c.loop-name-item.result in
    let see = sight c.args.values.now in
    let before = c.loop-name.asks.items in
    let name_is : c.bytes.result.now ≡ step.1 = cc in
    ap (λ asks. with_more asks (of_path see c.args.unit (drop (i + 1) path)))
    (c.in_ok-gather_name.ensures ∙ ap (λ name. with_more before (tell_name see c.args.unit to_want name)) name_is)
    ∙ sym (asked-path before see c.args.unit path i step c.loop-name-test.true c.loop-name-item.is)
    ∙ c.loop-name.invariant
