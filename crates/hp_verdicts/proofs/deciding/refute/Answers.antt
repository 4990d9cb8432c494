use Rattle.std.proofs.Common.{length}
use Rattle.hp_verdicts.proofs.DecideLaws.{shows_loss}
use Rattle.hp_verdicts.proofs.LoseLaws.{ranks_force, ranks_least}
use Rattle.hp_verdicts.proofs.deciding.refute.Goals as goal

pub returns : goal.returns
returns c =
    record {
      forced = ranks_force c.args.m.now c.args.t.now c.args.ranks.now c.requires.ranks;
      least = ranks_least c.args.m.now c.args.t.now c.args.ranks.now c.requires.ranks;
      shown = shows_loss (λ text. text.items) c.args.m.now c.args.wide (length c.args.ranks.now) c.in-Ok.cert c.in-Ok.ensures.is_of c.in_ok-text.text c.in_ok-text.ensures;
    }
