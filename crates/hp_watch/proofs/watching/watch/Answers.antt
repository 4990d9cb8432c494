use Rattle.hp_watch.specs.Watching.{observers_seen, watched_seen}
use Rattle.hp_watch.proofs.GrowLaws.{larger}
use Rattle.hp_watch.proofs.watching.watch.Goals as goal

pub returns-clause-larger : goal.returns-clause-larger
returns-clause-larger c = larger c.args.types.now (observers_seen c.args.observers.now) c.args.node.now c.args.is_early.now c.args.flat (watched_seen c.in_ok-w.w) c.in_ok-w.ensures
