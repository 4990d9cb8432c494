use Rattle.hp_cause.proofs.TableLaws.{seen-entered}
use Rattle.hp_cause.proofs.gather.enter_observer.Goals as goal

pub returns-clause-seen : goal.returns-clause-seen
returns-clause-seen c = seen-entered c.args.values.now.items c.push.new.self.items c.in_ok-own.own c.args.next.now c.args.block.now c.in_ok-push.ensures.items c.in_ok-own.ensures.own
