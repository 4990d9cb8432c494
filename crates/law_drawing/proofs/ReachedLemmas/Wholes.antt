-- So it is of whole blocks, in which calls fit the nodes that they name and each name that is declared is defined.
use Rattle.std.proofs.Common.{ℕ}
use Rattle.hp_tree.specs.Blocks.{Block, block, Eqns, no_eqn, more_eqns, Eqn, define, switch, reset, automaton, Arms, no_arm, more_arms, States, no_state, more_states}
use Rattle.hp_tree.specs.Instant.{Place}
use Rattle.hp_tree.specs.Programs.{Node}
use Rattle.hp_drawing.specs.Told.{Told}
use Rattle.hp_drawing.specs.DrawnExpressions.{Brings}
use Rattle.law_drawing.specs.Steered.Placed.{Held}
use Rattle.law_drawing.specs.Steered.Asked.{BlockFits, EqnsFit, EqnFits, ArmsFit, StatesFit}
use Rattle.law_drawing.specs.Reached.Filled.{IsFilled, AllFilled, OneFilled, ArmsFilled, StatesFilled}
use Rattle.law_drawing.proofs.ReachedLemmas.Expressions.{BringsRun}
use Rattle.law_drawing.proofs.ReachedLemmas.Blocks.{BlockLaw, EqnsLaw, EqnLaw, ArmsLaw, block-done, no-equation, more-equations, definition, switch-done, reset-done, no-arm, more-arms}
use Rattle.law_drawing.proofs.ReachedLemmas.Automata.{StatesLaw, no-state, more-states, automaton-done}

module _ (S : ℕ → Type 0) (T : Place → Type 0) (n : Node) (place : ℕ → Place) (t : Told) (brings : Brings) (held : Place → Held) (b : BringsRun S T n place t brings) where
  mutual
    pub whole-block : (c : Block) → BlockFits t c → IsFilled c → BlockLaw S T n place t brings held b c
    whole-block (block ds es) fit filled = block-done S T n place t brings held b ds es filled.0 (whole-eqns es fit filled.1)

    whole-eqns : (es : Eqns) → EqnsFit t es → AllFilled es → EqnsLaw S T n place t brings held b es
    whole-eqns no_eqn fit filled = no-equation S T n place t brings held b
    whole-eqns (more_eqns e es) fit filled = more-equations S T n place t brings held b e es (whole-eqn e fit.0 filled.0) (whole-eqns es fit.2 filled.1)

    whole-eqn : (e : Eqn) → EqnFits t e → OneFilled e → EqnLaw S T n place t brings held b e
    whole-eqn (define q xs e) fit filled = definition S T n place t brings held b q xs e fit
    whole-eqn (switch q e arms) fit filled = switch-done S T n place t brings held b q e arms fit.0 (whole-arms arms fit.1 filled)
    whole-eqn (reset q c e) fit filled = reset-done S T n place t brings held b q c e (whole-block c fit.0 filled) fit.1
    whole-eqn (automaton q ss) fit filled = automaton-done S T n place t brings held b q ss (whole-states ss fit filled)

    whole-arms : (arms : Arms) → ArmsFit t arms → ArmsFilled arms → ArmsLaw S T n place t brings held b arms
    whole-arms no_arm fit filled = no-arm S T n place t brings held b
    whole-arms (more_arms c body q arms) fit filled = more-arms S T n place t brings held b c body q arms (whole-block body fit.0 filled.0) (whole-arms arms fit.1 filled.1)

    whole-states : (ss : States) → StatesFit t ss → StatesFilled ss → StatesLaw S T n place t brings held b ss
    whole-states no_state fit filled = no-state S T n place t brings held b
    whole-states (more_states f body until unless q ss) fit filled = more-states S T n place t brings held b f body until unless q ss (whole-block body fit.0 filled.0) fit.1 fit.2 (whole-states ss fit.3 filled.1)
