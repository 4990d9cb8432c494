use Rattle.hp_boolx.specs.Machine.{game}
use Rattle.hp_boolx.proofs.GateLaws.{game-form}
use Rattle.hp_synth.proofs.RoundSteps.{if_ok-map}
use Rattle.hp_synth.proofs.solving.solve.Goals as goal

pub settle-requires : goal.settle-requires
settle-requires c = (game c.args.m.now, game-form c.args.m.now c.vars-vars.ensures.kept, c.in_ok-played.ensures.played)

pub returns-clause-solved : goal.returns-clause-solved
returns-clause-solved c =
    let m = c.args.m.now in
    if_ok-map c.settle.result (λ s is. is (game m) (game-form m c.vars-vars.ensures.kept) c.in_ok-played.ensures.played) c.settle.ensures.solved
