use Rattle.std.proofs.Common.{sym, subst}
use Rattle.hp_boolx.specs.Machine.{game}
use Rattle.hp_synth.specs.Verdicts.{IsSolved, IsWon}
use Rattle.hp_games.proofs.answer.say_solved.Goals as goal

pub say_win-requires-clause-won : goal.say_win-requires-clause-won
say_win-requires-clause-won g c =
    subst (IsWon (game c.args.m.now) c.in_ok-solved.solved.table) (sym c.in-Win.is) (subst (IsSolved (game c.args.m.now) c.in_ok-solved.solved.table) c.in-Win.is c.in_ok-solved.ensures.solved)
