use Rattle.std.proofs.Common.{◌≡◌, ◌+◌, ◌*◌, map, drop}
use Rattle.hp_obc.specs.CommandView.{cmd_seen}
use Rattle.hp_obc.specs.Commands.{cmds_of, arms_of}
use Rattle.hp_obc.specs.Sizes.{size_of_cmds, size_of_cmd, size_of_arms}
use Rattle.hp_obctext.specs.Files.{steps_words, branches_words}
use Rattle.hp_obctext.specs.Found.{labels_at, labels_seen}
use Rattle.hp_obctext.specs.Labels.{said, said_in}
use Rattle.hp_obctext.specs.Words.{with_words}
use Rattle.hp_obctext.proofs.page.Page.+printing.Given as goal

abbrev pub decreases-step : goal.decreases-step
decreases-step l = 2 * size_of_cmd (cmd_seen l.cmd.now)

abbrev pub decreases-arms : goal.decreases-arms
decreases-arms l = 2 * size_of_arms (arms_of l.arms.now) + 1

abbrev pub decreases-steps : goal.decreases-steps
decreases-steps l = 2 * size_of_cmds l.cmds.now

abbrev pub invariant-arms-loop-i : goal.invariant-arms-loop-i
invariant-arms-loop-i l =
    with_words l.self (branches_words (said_in (labels_at l.scope) (drop l.i (labels_seen l.labels)) (arms_of (drop l.i l.arms))))
    ≡ with_words l.initial.self (branches_words (said_in (labels_at l.scope) (labels_seen l.labels) (arms_of l.arms)))

abbrev pub invariant-steps-loop-cmd : goal.invariant-steps-loop-cmd
invariant-steps-loop-cmd l =
    with_words l.self (steps_words (said (labels_at l.scope) (cmds_of (map cmd_seen (drop l.cmd-index l.cmd-items)))))
    ≡ with_words l.initial.self (steps_words (said (labels_at l.scope) (cmds_of (map cmd_seen l.cmd-items))))
