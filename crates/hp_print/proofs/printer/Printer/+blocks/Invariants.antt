use Rattle.std.proofs.Common.{◌≡◌, ◌+◌, ◌*◌, drop, map}
use Rattle.hp_tree.specs.Blocks.{eqns_of, arms_of, states_of}
use Rattle.hp_tree.specs.BlockView.{eqn_seen, arm_seen, state_seen}
use Rattle.hp_tree.specs.Sizes.{lines, lines_of_eqn, lines_of_eqns, lines_of_arms, lines_of_states}
use Rattle.hp_print.specs.Tokens.{written_after}
use Rattle.hp_print.specs.BlockTokens.{equations_tokens, arms_tokens, states_tokens}
use Rattle.hp_print.proofs.printer.Printer.+blocks.Given as goal

abbrev pub decreases-body : goal.decreases-body
decreases-body l = 4 * lines l.block.now

abbrev pub decreases-inner : goal.decreases-inner
decreases-inner l = 4 * lines l.block.now

abbrev pub decreases-equations : goal.decreases-equations
decreases-equations l = 4 * lines_of_eqns (eqns_of (map eqn_seen l.eqns.now)) + 1

abbrev pub decreases-equation : goal.decreases-equation
decreases-equation l = 4 * lines_of_eqn (eqn_seen l.eqn.now)

abbrev pub decreases-arms : goal.decreases-arms
decreases-arms l = 4 * lines_of_arms (arms_of (map arm_seen l.arms.now)) + 2

abbrev pub decreases-states : goal.decreases-states
decreases-states l = 4 * lines_of_states (states_of (map state_seen l.states.now)) + 2

abbrev pub decreases-state : goal.decreases-state
decreases-state l = 4 * lines l.state.now.body + 1

abbrev pub invariant-equations-loop-eqn : goal.invariant-equations-loop-eqn
invariant-equations-loop-eqn l =
    written_after l.self (equations_tokens (eqns_of (map eqn_seen (drop l.eqn-index l.eqns)))) ≡ written_after l.initial.self (equations_tokens (eqns_of (map eqn_seen l.eqns)))

abbrev pub invariant-arms-loop-arm : goal.invariant-arms-loop-arm
invariant-arms-loop-arm l =
    written_after l.self (arms_tokens (arms_of (map arm_seen (drop l.arm-index l.arms)))) ≡ written_after l.initial.self (arms_tokens (arms_of (map arm_seen l.arms)))

abbrev pub invariant-states-loop-state : goal.invariant-states-loop-state
invariant-states-loop-state l =
    written_after l.self (states_tokens (states_of (map state_seen (drop l.state-index l.states)))) ≡ written_after l.initial.self (states_tokens (states_of (map state_seen l.states)))
