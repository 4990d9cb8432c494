use Rattle.std.proofs.Common.{◌+◌, ◌*◌, ◌≡◌, drop, map}
use Rattle.hp_tree.specs.Blocks.{eqns_of, arms_of, states_of}
use Rattle.hp_tree.specs.BlockView.{eqn_seen, arm_seen, state_seen}
use Rattle.hp_tree.specs.Sizes.{lines, lines_of_eqn, lines_of_eqns, lines_of_arms, lines_of_states}
use Rattle.hp_drawing.specs.DrawnBlocks.{drawn_arms, drawn_eqns, drawn_states}
use Rattle.hp_drawing.specs.Scopes.{pop_values}
use Rattle.hp_drawing.specs.Seen.{sketch_of}
use Rattle.hp_abstract.specs.Seen.{scope_of, told_in, words_in}
use Rattle.hp_abstract.proofs.block.+draw.Given as goal

abbrev pub decreases-draw_block : goal.decreases-draw_block
decreases-draw_block g l = 6 * lines l.block.now

abbrev pub decreases-draw_eqns : goal.decreases-draw_eqns
decreases-draw_eqns g l = 6 * lines_of_eqns (eqns_of (map eqn_seen l.eqns.now)) + 1

abbrev pub decreases-draw_eqn : goal.decreases-draw_eqn
decreases-draw_eqn g l = 6 * lines_of_eqn (eqn_seen l.eqn.now)

abbrev pub decreases-draw_arms : goal.decreases-draw_arms
decreases-draw_arms g l = 6 * lines_of_arms (arms_of (map arm_seen l.arms.now)) + 2

abbrev pub decreases-draw_reset : goal.decreases-draw_reset
decreases-draw_reset g l = 6 * lines l.body.now + 1

abbrev pub decreases-draw_state : goal.decreases-draw_state
decreases-draw_state g l = 6 * lines l.state.now.body + 1

abbrev pub decreases-draw_states : goal.decreases-draw_states
decreases-draw_states g l = 6 * lines_of_states (states_of (map state_seen l.states.now)) + 2

abbrev pub decreases-draw_automaton : goal.decreases-draw_automaton
decreases-draw_automaton g l = 6 * lines_of_states (states_of (map state_seen l.states.now)) + 3

abbrev pub decreases-draw_switch : goal.decreases-draw_switch
decreases-draw_switch g l = 6 * lines_of_arms (arms_of (map arm_seen l.arms.now)) + 3

abbrev pub invariant-draw_eqns-loop-eqn : goal.invariant-draw_eqns-loop-eqn
invariant-draw_eqns-loop-eqn g l =
    record {
      sketch : drawn_eqns (told_in l.tables) g.C.Callees.brings (scope_of l.scope) l.place l.locals (eqns_of (map eqn_seen (drop l.eqn-index l.eqns))) (sketch_of l.draft)
          ≡ drawn_eqns (told_in l.tables) g.C.Callees.brings (scope_of l.initial.scope) l.place l.locals (eqns_of (map eqn_seen l.eqns)) (sketch_of l.initial.draft);
      scope : scope_of l.scope ≡ scope_of l.initial.scope;
    }

abbrev pub invariant-draw_arms-loop-arm : goal.invariant-draw_arms-loop-arm
invariant-draw_arms-loop-arm g l =
    record {
      drawn : drawn_arms (told_in l.tables) g.C.Callees.brings (scope_of l.scope) l.place l.condition (arms_of (map arm_seen (drop l.arm-index l.arms))) (sketch_of l.draft)
          ≡ drawn_arms (told_in l.tables) g.C.Callees.brings (scope_of l.initial.scope) l.place l.condition (arms_of (map arm_seen l.arms)) (sketch_of l.initial.draft);
      around : pop_values (scope_of l.scope) ≡ pop_values (scope_of l.initial.scope);
    }

abbrev pub invariant-draw_states-loop-i : goal.invariant-draw_states-loop-i
invariant-draw_states-loop-i g l =
    record {
      drawn : drawn_states (told_in l.tables) g.C.Callees.brings (scope_of l.scope) l.place (words_in l.words) l.i (states_of (map state_seen (drop l.i l.states))) l.rests (sketch_of l.draft)
          ≡ drawn_states (told_in l.tables) g.C.Callees.brings (scope_of l.initial.scope) l.place (words_in l.words) 0 (states_of (map state_seen l.states)) l.initial.rests (sketch_of l.initial.draft);
      around : pop_values (scope_of l.scope) ≡ pop_values (scope_of l.initial.scope);
    }
