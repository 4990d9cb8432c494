-- What is drawn of blocks that call nothing leaves what is supposed and owed as it is.
use Rattle.std.proofs.Common.{ℕ, ◌+◌, List, [], ◌∷◌}
use Rattle.hp_tree.specs.declared.block.Trans.{Trans}
use Rattle.hp_tree.specs.Blocks.{Decl, Block, block, Eqns, no_eqn, more_eqns, Eqn, define, switch, reset, automaton, Arms, no_arm, more_arms, States, no_state, more_states}
use Rattle.hp_drawing.specs.declared.parts.Jump.{Jump}
use Rattle.hp_drawing.specs.declared.parts.Place.{Place}
use Rattle.hp_drawing.specs.declared.parts.Rests.{Rests}
use Rattle.hp_drawing.specs.Told.{Told}
use Rattle.hp_drawing.specs.Planned.{count_states}
use Rattle.hp_drawing.specs.Sketch as sketch
use Rattle.hp_drawing.specs.Sketch.{Sketch, high}
use Rattle.hp_drawing.specs.Places.{stays, jump_hole, jump_end, new_lines, numbers_of, transition}
use Rattle.hp_drawing.specs.Scopes.{Scope, enter, hide, pop_values}
use Rattle.hp_drawing.specs.DrawnExpressions.{Brings, drawn}
use Rattle.hp_drawing.specs.DrawnBlocks.{Words, words_of, rests_of, drawn_transitions, drawn_jump, drawn_strong, drawn_weak, drawn_block, drawn_eqns, drawn_eqn, drawn_arms, drawn_states, enter_arm, enter_state, leave_state, reset_begin, states_begin, automaton_end, join_drawn, leave_hidden}
use Rattle.law_drawing.proofs.SteeredLemmas.Uncalled.{ConditionsCallNothing, BlockCallsNothing, EqnsCallNothing, EqnCallsNothing, ArmsCallNothing, StatesCallNothing}
use Rattle.law_drawing.proofs.EarlyLemmas.Running.{define-runs, jump_hole-runs, jump_end-runs, transition-runs, lines-run, join-runs, end_hidden-runs, enter-runs, enter_arm-runs, enter_state-runs, leave_state-runs, reset_begin-runs, automaton_end-runs}
use Rattle.law_drawing.proofs.UncalledLemmas.Steps.{Leaves, none-leaves, both-leave, leaving}
use Rattle.law_drawing.proofs.UncalledLemmas.Expressions.{expr-leaves, definition-leaves}

module _ (t : Told) (brings : Brings) where
  -- ---- transitions

  conditions-leave : (qs : List Trans) (z : Scope) (spot : Place) (words : Words) (rest : Jump) (s : Sketch) → ConditionsCallNothing qs → Leaves s (drawn_transitions t brings z spot words qs rest s).1
  conditions-leave [] z spot words rest s h = none-leaves s
  conditions-leave (q ∷ qs) z spot words rest s h =
      let c = drawn t brings z spot q.cond s in
      let more = transition words.numbers words.lines.shape rest c.0.wire q c.1 in
      let to_more = both-leave s c.1 more.1 (expr-leaves t brings z q.cond spot s h.0) (transition-runs Leaves leaving words.numbers words.lines.shape rest c.0.wire q c.1) in
      both-leave s more.1 (drawn_transitions t brings z spot words qs more.0 more.1).1 to_more (conditions-leave qs z spot words more.0 more.1 h.1)

  jump-leaves : (qs : List Trans) (z : Scope) (spot : Place) (words : Words) (none : Jump) (s : Sketch) → ConditionsCallNothing qs → Leaves s (drawn_jump t brings z spot words qs none s).1
  jump-leaves qs z spot words none s h =
      let j = jump_hole words.lines.shape s in
      let rest = drawn_transitions t brings z spot words qs j.0 j.1 in
      let to_rest = both-leave s j.1 rest.1 (jump_hole-runs Leaves leaving words.lines.shape s) (conditions-leave qs z spot words j.0 j.1 h) in
      both-leave s rest.1 (jump_end rest.0 none rest.1) to_rest (jump_end-runs Leaves leaving rest.0 none rest.1)

  -- ---- blocks

  mutual
    pub block-leaves : (c : Block) (z : Scope) (spot : Place) (s : Sketch) → BlockCallsNothing c → Leaves s (drawn_block t brings z spot c s).1
    block-leaves (block ds es) z spot s h =
        let i = enter t z spot ds es s in
        both-leave s i.1 (drawn_eqns t brings i.0 spot ds es i.1) (enter-runs Leaves leaving t z spot ds es s) (eqns-leave es i.0 spot ds i.1 h)

    eqns-leave : (es : Eqns) (z : Scope) (spot : Place) (ds : List Decl) (s : Sketch) → EqnsCallNothing es → Leaves s (drawn_eqns t brings z spot ds es s)
    eqns-leave no_eqn z spot ds s h = none-leaves s
    eqns-leave (more_eqns e es) z spot ds s h = let s1 = drawn_eqn t brings z spot ds e s in both-leave s s1 (drawn_eqns t brings z spot ds es s1) (eqn-leaves e z spot ds s h.0) (eqns-leave es z spot ds s1 h.1)

    eqn-leaves : (e : Eqn) (z : Scope) (spot : Place) (ds : List Decl) (s : Sketch) → EqnCallsNothing e → Leaves s (drawn_eqn t brings z spot ds e s)
    eqn-leaves (define q xs e) z spot ds s h = definition-leaves t brings z e spot ds xs s h
    eqn-leaves (switch q e arms) z spot ds s h =
        let y = hide z (switch q e arms) in
        let c = drawn t brings z spot e s in
        let d = drawn_arms t brings y spot c.0.wire arms c.1 in
        let to_d = both-leave s c.1 d.1 (expr-leaves t brings z e spot s h.0) (arms-leave arms y spot c.0.wire c.1 h.1) in
        both-leave s d.1 (leave_hidden d) to_d (end_hidden-runs Leaves leaving d.0 d.1)
    eqn-leaves (reset q c e) z spot ds s h =
        let y = hide z (reset q c e) in
        let i = reset_begin y spot s in
        let d = drawn_block t brings y i.1 c i.2 in
        let to_d = both-leave s i.2 d.1 (reset_begin-runs Leaves leaving y spot s) (block-leaves c y i.1 i.2 h.0) in
        let j = join_drawn high d in
        let to_j = both-leave s d.1 j.1 to_d (join-runs Leaves leaving high d.0 d.1) in
        let left = leave_hidden j in
        let to_left = both-leave s j.1 left to_j (end_hidden-runs Leaves leaving j.0 j.1) in
        let v = drawn t brings z spot e left in
        let to_v = both-leave s left v.1 to_left (expr-leaves t brings z e spot left h.1) in
        both-leave s v.1 (sketch.define i.0 v.0 v.1) to_v (define-runs Leaves leaving i.0 v.0 v.1)
    eqn-leaves (automaton q ss) z spot ds s h =
        let y = hide z (automaton q ss) in
        let lines = new_lines (count_states ss) spot s in
        let next = states_begin lines.0 lines.1 in
        let to_next = both-leave s lines.1 next.1 (lines-run Leaves leaving (count_states ss) spot s) (jump_hole-runs Leaves leaving lines.0.shape lines.1) in
        let words = words_of (numbers_of ss) lines.0 in
        let rests = rests_of lines.0.active next.0 in
        let r = drawn_states t brings y spot words 0 ss rests next.1 in
        let to_r = both-leave s next.1 r.2 to_next (states-leave ss y spot words 0 rests next.1 h) in
        both-leave s r.2 (automaton_end lines.0 spot next.0 r) to_r (automaton_end-runs Leaves leaving lines.0 spot next.0 r.0 r.1 r.2)

    arms-leave : (arms : Arms) (z : Scope) (spot : Place) (w : ℕ) (s : Sketch) → ArmsCallNothing arms → Leaves s (drawn_arms t brings z spot w arms s).1
    arms-leave no_arm z spot w s h = none-leaves s
    arms-leave (more_arms c body q arms) z spot w s h =
        let arm = enter_arm t spot w c s in
        let d = drawn_block t brings z arm.1 body arm.2 in
        let to_d = both-leave s arm.2 d.1 (enter_arm-runs Leaves leaving t spot w c s) (block-leaves body z arm.1 arm.2 h.0) in
        let j = join_drawn arm.0 d in
        let to_j = both-leave s d.1 j.1 to_d (join-runs Leaves leaving arm.0 d.0 d.1) in
        both-leave s j.1 (drawn_arms t brings j.0 spot w arms j.1).1 to_j (arms-leave arms j.0 spot w j.1 h.1)

    states-leave : (ss : States) (z : Scope) (spot : Place) (words : Words) (n : ℕ) (rests : Rests) (s : Sketch) → StatesCallNothing ss → Leaves s (drawn_states t brings z spot words n ss rests s).2
    states-leave no_state z spot words n rests s h = none-leaves s
    states-leave (more_states i body until unless q ss) z spot words n rests s h =
        let e = enter_state words.lines spot n s in
        let d = drawn_block t brings z e.0.body body e.1 in
        let to_d = both-leave s e.1 d.1 (enter_state-runs Leaves leaving words.lines spot n s) (block-leaves body z e.0.body e.1 h.0) in
        let weak = drawn_weak t brings d.0 e.0.place words until d.1 in
        let to_weak = both-leave s d.1 weak.1 to_d (jump-leaves until d.0 e.0.place words (stays words.lines) d.1 h.1) in
        let joined = join_drawn e.0.taken (d.0, weak.1) in
        let to_joined = both-leave s weak.1 joined.1 to_weak (join-runs Leaves leaving e.0.taken d.0 weak.1) in
        let strong = drawn_strong t brings joined.0 spot words unless joined.1 in
        let to_strong = both-leave s joined.1 strong.1 to_joined (jump-leaves unless (pop_values joined.0) spot words words.lines.selected joined.1 h.2) in
        let left = leave_state words.lines n e.0.taken strong.0 weak.0 rests strong.1 in
        let to_left = both-leave s strong.1 left.1 to_strong (leave_state-runs Leaves leaving words.lines n e.0.taken strong.0 weak.0 rests strong.1) in
        both-leave s left.1 (drawn_states t brings joined.0 spot words (n + 1) ss left.0 left.1).2 to_left (states-leave ss joined.0 spot words (n + 1) left.0 left.1 h.3)
