use Rattle.std.proofs.Common.{◌≡◌, ◌+◌, ◌*◌, length, map}
use Rattle.hp_tree.specs.BlockView.{eqn_seen, arm_seen, state_seen}
use Rattle.hp_parser.specs.Nesting.{nested, arms_read, states_read}
use Rattle.hp_parser.proofs.EquationRounds.{equations_from, arms_from, states_from}
use Rattle.hp_parser.proofs.reader.Reader.+equations.Given as goal

abbrev pub decreases-body : goal.decreases-body
decreases-body l = 8 * l.nest + 1

abbrev pub decreases-inner : goal.decreases-inner
decreases-inner l = 8 * l.nest + 1

abbrev pub decreases-arm : goal.decreases-arm
decreases-arm l = 8 * l.nest + 2

abbrev pub decreases-arm_behind : goal.decreases-arm_behind
decreases-arm_behind l = 8 * l.nest + 2

abbrev pub decreases-state : goal.decreases-state
decreases-state l = 8 * l.nest + 2

abbrev pub decreases-arms : goal.decreases-arms
decreases-arms l = 8 * l.nest + 3

abbrev pub decreases-states : goal.decreases-states
decreases-states l = 8 * l.nest + 3

abbrev pub decreases-parse_switch : goal.decreases-parse_switch
decreases-parse_switch l = 8 * l.nest + 4

abbrev pub decreases-parse_if : goal.decreases-parse_if
decreases-parse_if l = 8 * l.nest + 4

abbrev pub decreases-parse_reset : goal.decreases-parse_reset
decreases-parse_reset l = 8 * l.nest + 4

abbrev pub decreases-parse_automaton : goal.decreases-parse_automaton
decreases-parse_automaton l = 8 * l.nest + 4

abbrev pub decreases-control : goal.decreases-control
decreases-control l = 8 * l.nest + 5

abbrev pub decreases-equation : goal.decreases-equation
decreases-equation l = 8 * l.nest + 6

abbrev pub decreases-equations : goal.decreases-equations
decreases-equations l = 8 * l.nest + 7

abbrev pub invariant-equations-loop-self : goal.invariant-equations-loop-self
invariant-equations-loop-self l = equations_from l.nest (map eqn_seen l.equations.items) l.self ≡ nested l.nest l.fn.self

abbrev pub decreases-equations-loop-self : goal.decreases-equations-loop-self
decreases-equations-loop-self l = length l.self

abbrev pub invariant-arms-loop-arms : goal.invariant-arms-loop-arms
invariant-arms-loop-arms l = arms_from l.nest (map arm_seen l.arms.items) l.self ≡ arms_read l.nest l.fn.self

abbrev pub decreases-arms-loop-arms : goal.decreases-arms-loop-arms
decreases-arms-loop-arms l = length l.self

abbrev pub invariant-states-loop-states : goal.invariant-states-loop-states
invariant-states-loop-states l = states_from l.nest (map state_seen l.states.items) l.self ≡ states_read l.nest l.fn.self

abbrev pub decreases-states-loop-states : goal.decreases-states-loop-states
decreases-states-loop-states l = length l.self
