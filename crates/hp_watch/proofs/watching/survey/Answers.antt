use Rattle.std.proofs.Common.{sym, ap, ◌∙◌}
use Rattle.hp_watch.specs.Watching.{observer_seen, observers_seen}
use Rattle.hp_watch.proofs.watching.survey.Goals as goal

pub returns-clause-surveyed : goal.returns-clause-surveyed
returns-clause-surveyed c = record {
  own = observer_seen c.in-Some.own.now;
  has = sym (ap (observers_seen c.args.observers.now) (c.bytes.ensures.bytes ∙ ap (λ n. n.name) c.node.view_is)) ∙ c.in-Some.ensures;
  node = c.in_ok-free.ensures.node;
  places = c.in_ok-free.ensures.free;
}
