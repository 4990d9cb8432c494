use Rattle.std.proofs.Common.{rules, sym, subst}
use Rattle.hp_init.specs.Asks.{ObeysAll}
use Rattle.hp_init.specs.Spreading.{valued, AreLeast}
use Rattle.hp_init.proofs.SpreadLaws.{put_back}
use Rattle.hp_init.proofs.least.least_classes.Goals as goal

pub returns-clause-obeys : goal.returns-clause-obeys
returns-clause-obeys c =
    let second = c.in_ok-second.second in
    subst (λ s. ObeysAll (valued s) c.args.asks.now) (sym (put_back second.len c.reach.new.second second.items (search rules))) c.in_ok-reach.ensures.obeys

pub returns-clause-least : goal.returns-clause-least
returns-clause-least c =
    let second = c.in_ok-second.second in
    subst (λ s. AreLeast (valued s) c.args.asks.now) (sym (put_back second.len c.reach.new.second second.items (search rules))) c.in_ok-reach.ensures.least
