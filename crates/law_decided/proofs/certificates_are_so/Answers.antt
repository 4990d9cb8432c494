use Rattle.law_decided.proofs.Decided.{proof_verdict, verified_holds}
use Rattle.law_decided.proofs.certificates_are_so.Goals as goal

pub returns-clause-made : goal.returns-clause-made
returns-clause-made c = proof_verdict c.drawn_games_are_kept.ensures.forced c.drawn_games_are_kept.ensures.safe

pub returns-clause-verified : goal.returns-clause-verified
returns-clause-verified c = verified_holds c.drawn_games_are_kept.ensures.forced c.drawn_games_are_kept.ensures.safe
