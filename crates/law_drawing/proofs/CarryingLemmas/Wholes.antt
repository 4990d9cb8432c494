-- Blocks, equations, arms and states stand in one another: one induction by their steps, and the law of drawn blocks.
use Rattle.std.proofs.Common.{sym, subst}
use Rattle.hp_tree.specs.Blocks.{Block, block, Eqns, no_eqn, more_eqns, Eqn, define, switch, reset, automaton, Arms, no_arm, more_arms, States, no_state, more_states}
use Rattle.hp_tree.specs.Meaning.{node_among}
use Rattle.hp_meaning.specs.Contract.Slots.{slots_of_block}
use Rattle.law_games.specs.Wires.WiredCallees.{callee_wires}
use Rattle.law_games.specs.Wiretyped.Callees.{CalleeTyped, CalleeKept, CalleeGiven}
use Rattle.law_games.proofs.WiretypedLemmas.Exprs.{CalleesTyped}
use Rattle.law_games.proofs.WiretypedLemmas.Callees.{callees_typed}
use Rattle.hp_drawing.specs.DrawnBlocks.{drawn_block}
use Rattle.law_drawing.specs.Carrying.Drawing.{IsDrawn}
use Rattle.law_drawing.specs.Carrying.Calls.{supposes_on, owes_on}
use Rattle.law_drawing.specs.Carrying.Laws.{Frame, FrameCalls}
use Rattle.law_drawing.specs.Carrying.WholeBlocks.{BlockLaw}
use Rattle.law_drawing.proofs.CarryingLemmas.CallLists.{block-called}
use Rattle.law_drawing.proofs.CarryingLemmas.Blocks.{BlockAt, EqnsAt, EqnAt, ArmsAt, StatesAt, block-step, no-eqn-step, eqns-step, define-step, switch-step, no-arm-step, arms-step, no-state-step}
use Rattle.law_drawing.proofs.CarryingLemmas.States.{state-step}
use Rattle.law_drawing.proofs.CarryingLemmas.Equations.{reset-step, automaton-step}

module _ (F : Frame) (K : FrameCalls F) (T : CalleesTyped F.types (callee_wires F.types F.earlier) (node_among F.earlier) (CalleeTyped F.types F.earlier) (CalleeKept F.types F.earlier) (CalleeGiven F.types F.earlier)) where
  mutual
    pub block-drawn : (b : Block) → BlockAt F K b
    block-drawn (block ds es) = block-step F K ds es (eqns-drawn es)

    eqns-drawn : (es : Eqns) → EqnsAt F K es
    eqns-drawn no_eqn = no-eqn-step F K
    eqns-drawn (more_eqns e es) = eqns-step F K e es (eqn-drawn e) (eqns-drawn es)

    eqn-drawn : (e : Eqn) → EqnAt F K e
    eqn-drawn (define at ys e) = define-step F K at ys e
    eqn-drawn (switch at e arms) = switch-step F K at e arms (arms-drawn arms)
    eqn-drawn (reset at b e) = reset-step F K T at b e (block-drawn b)
    eqn-drawn (automaton at ss) = automaton-step F K T at ss (states-drawn ss)

    arms-drawn : (arms : Arms) → ArmsAt F K arms
    arms-drawn no_arm = no-arm-step F K
    arms-drawn (more_arms c b at arms) = arms-step F K c b at arms (block-drawn b) (arms-drawn arms)

    states-drawn : (ss : States) → StatesAt F K ss
    states-drawn no_state = no-state-step F K
    states-drawn (more_states f b until unless at ss) = state-step F K f b until unless at ss T (block-drawn b) (states-drawn ss)

pub block-carried : BlockLaw
block-carried F V b fresh m now stay w place here cut kept declared class s ns K acc I r h =
    let x = block-drawn F K (callees_typed F.types class F.earlier acc) b fresh V m now stay w place here cut kept s ns I.numbered I.shaped I.outer I.outer_lasts I.clocks I.sound I.shape I.fits I.typed I.drawable I.part r h in
    record {
      numbers = x.0;
      drawn_is =
          subst (λ cs. IsDrawn F.slot F.next (supposes_on F.showing F.wires) (owes_on F.showing F.wires) s ns (slots_of_block F.types F.outs F.callee b V.types w) cs (drawn_block F.told F.brings V.drawn_scope place b s).1 x.0) (sym (block-called declared b w)) x.1;
      ready = x.2;
      shaped = x.3;
    }
