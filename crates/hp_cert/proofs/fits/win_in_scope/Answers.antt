use Rattle.std.proofs.Common.{arith}
use Rattle.hp_synth.proofs.RoundSteps.{if_ok-map}
use Rattle.hp_cert.specs.Proving.{ReadsBelow}
use Rattle.hp_cert.proofs.fits.win_in_scope.Goals as goal

pub returns : goal.returns
returns c =
    let first : ReadsBelow c.args.lines.now c.args.registers c.args.inv = c.in_ok-states.ensures.0 c.if-not-states.false 0 0 (omega arith) in
    if_ok-map c.read_below-2.result (λ b h. (λ t. (first, h.0 t), λ q. h.1 q.1)) c.read_below-2.ensures
