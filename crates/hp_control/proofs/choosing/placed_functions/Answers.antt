use Rattle.std.proofs.Common.{subst}
use Rattle.hp_boolx.specs.Machine.{game}
use Rattle.hp_synth.specs.Verdicts.{IsWon}
use Rattle.hp_synth.proofs.RoundSteps.{if_ok-map}
use Rattle.hp_control.proofs.choosing.placed_functions.Goals as goal

pub returns-clause-ok : goal.returns-clause-ok
returns-clause-ok c =
    let g = game c.args.m.now in
    let won = subst (IsWon g c.args.s.now.table) c.in-Win.is c.requires.won in
    if_ok-map c.functions_of.result (λ p is. is won.0 won.1 won.2) c.functions_of.ensures.ok
