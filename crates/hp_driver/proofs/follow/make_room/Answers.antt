use Rattle.std.proofs.Common.{ap, refl}
use Rattle.hp_driver.specs.Hearing.{at}
use Rattle.hp_driver.proofs.HearingLaws.{hears_by_saying}
use Rattle.hp_driver.proofs.follow.make_room.Goals as goal

pub returns-then-capacity-len-clause-out : goal.returns-then-capacity-len-clause-out
returns-then-capacity-len-clause-out g c =
    let say = c.say_pending.ensures in (
      say.out.0,
      say.out.1,
      hears_by_saying g.R.Reactor.machine c.say_pending.result (at c.args.reactor.now c.args.hearing.now) (at c.args.reactor.now c.say_pending.new.hearing) say.out.0 say.out.2
          (ap (λ p. p.items) say.piece) say.pending say.number refl,
    )
