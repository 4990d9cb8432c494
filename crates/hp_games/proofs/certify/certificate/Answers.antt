use Rattle.std.proofs.Common.{sym, subst, map}
use Rattle.hp_boolx.specs.Machine.{game}
use Rattle.hp_synth.specs.Verdicts.{IsSolved}
use Rattle.hp_synth.specs.Building.{HasEach}
use Rattle.hp_synth.specs.Valued.{OfState}
use Rattle.hp_synth.proofs.SoughtLaws.{all-has}
use Rattle.hp_synth.specs.declared.verdict.Verdict.TheVariants.{Lose}
use Rattle.hp_games.proofs.certify.certificate.Goals as goal

-- src/certify.rt:44:13
pub lose_cert-requires : goal.lose_cert-requires
lose_cert-requires c =
    let solved : IsSolved (game c.args.m.now) c.args.solved.now.table (Lose c.in-Lose.ranks) = subst (IsSolved (game c.args.m.now) c.args.solved.now.table) c.in-Lose.is c.requires.solved in
    subst (HasEach c.args.solved.now.table) (sym c.deref-in-Lose.ensures.value)
    (all-has c.args.solved.now.table (map (OfState (game c.args.m.now)) solved.0) c.in-Lose.ranks.items solved.1)
