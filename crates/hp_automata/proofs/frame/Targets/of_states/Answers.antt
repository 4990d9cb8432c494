use Rattle.std.proofs.Common.{◌-◌, length, ap, ◌∙◌, arith}
use Rattle.hp_automata.specs.Held.{target_in, put_target}
use Rattle.hp_automata.proofs.FrameLaws.{numbers-end, numbers-next}
use Rattle.hp_automata.proofs.frame.Targets.of_states.Goals as goal

pub loop-i-init : goal.loop-i-init
loop-i-init c = record { within = omega arith; numbers = c.new-targets.ensures ∙ numbers-end c.args.states.now (length c.args.states.now) (omega arith) }

pub loop-i-preserved : goal.loop-i-preserved
loop-i-preserved c =
    let i = c.loop-i.i - 1 in
    let q = c.index-states-i.result in
    record {
      within = omega arith;
      numbers = c.in_ok-put.ensures
          ∙ ap (λ x. put_target (target_in c.loop-i.targets) x i) c.bytes.ensures.bytes
          ∙ ap (λ f. put_target f q.name i) c.loop-i.invariant.numbers
          ∙ numbers-next c.args.states.now i c.loop-i.i q (omega arith) (omega arith) c.index-states-i.is;
    }
