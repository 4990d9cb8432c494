use Rattle.std.proofs.Common.{◌≡◌, length, map, sym, ap, ◌∙◌, arith}
use Rattle.hp_obc.specs.CommandView.{cmd_seen}
use Rattle.hp_obc.specs.Commands.{Cmds, arms_of}
use Rattle.hp_native.proofs.SameLaws.{same_at, as_long, cmds_one, arms_one, refused, none_so}
use Rattle.hp_native.proofs.commands.+same.Goals as goal

pub same_arms-returns-then-arms-others : goal.same_arms-returns-then-arms-others
same_arms-returns-then-arms-others t c = none_so (arms_of c.args.arms.now ≡ arms_of c.args.others.now)
    (λ e. let same : length c.args.arms.now ≡ length c.args.others.now = ap length (arms_one c.args.arms.now c.args.others.now e) in absurd (c.if-arms-others.true same))

pub same_arms-returns-then-not-same_commands : goal.same_arms-returns-then-not-same_commands
same_arms-returns-then-not-same_commands t c =
    let these = c.args.arms.now in
    let others = c.args.others.now in
    none_so (arms_of these ≡ arms_of others)
    (λ e. refused c.same_commands.result (c.index-arms-i.result ≡ c.index-others-i.result) c.same_commands.ensures c.if-not-same_commands.true
    (same_at (λ (z : Cmds). z) these others c.loop-i.i c.index-arms-i.result c.index-others-i.result (omega (arith, c.loop-i-test.true)) (omega (arith, c.loop-i-test.true, c.if-arms-others.false))
    c.index-arms-i.is c.index-others-i.is (ap (map (λ (z : Cmds). z)) (arms_one these others e))))

pub same_commands-returns-then-len : goal.same_commands-returns-then-len
same_commands-returns-then-len t c =
    let these = c.cmds.inside.list in
    let others = c.others.inside.list in
    none_so (c.args.cmds.now ≡ c.args.others.now)
    (λ e. let same : length these.items ≡ length others.items = as_long cmd_seen these.items others.items (cmds_one (map cmd_seen these.items) (map cmd_seen others.items) (c.cmds.view_is ∙ e ∙ sym c.others.view_is)) in
    absurd (c.if-len.true (c.len.ensures ∙ omega (arith, same, these.ok.0, others.ok.0) ∙ sym c.len-2.ensures)))

pub same_commands-returns-then-not-same_command : goal.same_commands-returns-then-not-same_command
same_commands-returns-then-not-same_command t c =
    let these = c.cmds.inside.list in
    let others = c.others.inside.list in
    let x = c.index-cmd.result.now in
    let y = c.index-other.result.now in
    none_so (c.args.cmds.now ≡ c.args.others.now)
    (λ e. refused c.same_command.result (cmd_seen x ≡ cmd_seen y) c.same_command.ensures c.if-not-same_command.true
    (same_at cmd_seen these.items others.items c.loop-i.i x y (omega (arith, c.loop-i-test.true, c.len-i-end.ensures, these.ok.0))
    (omega (arith, c.loop-i-test.true, c.len-i-end.ensures, c.len.ensures, c.len-2.ensures, c.if-len.false, these.ok.0, others.ok.0))
    c.index-cmd.ensures c.index-other.ensures (cmds_one (map cmd_seen these.items) (map cmd_seen others.items) (c.cmds.view_is ∙ e ∙ sym c.others.view_is))))
