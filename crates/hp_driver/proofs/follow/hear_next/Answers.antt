use Rattle.std.proofs.Common.{[], ◌∷◌, ◌++◌, subst}
use Rattle.hp_driver.specs.Hearing.{at, SaysBefore}
use Rattle.hp_driver.proofs.HearingLaws.{stops_among, stops_on, stops_refusal, says_on}
use Rattle.hp_driver.proofs.follow.hear_next.Goals as goal

pub returns-in-Err-clause-out : goal.returns-in-Err-clause-out
returns-in-Err-clause-out g c =
    let room = c.in-Err.ensures.out in
    (room.0, room.1, stops_among g.R.Reactor.machine (at c.args.reactor.now c.args.hearing.now) [] (c.args.bytes.now ++ 10 ∷ []) room.0 c.in-Err.stop room.2)

pub returns-in-Err-hear_line-clause-out : goal.returns-in-Err-hear_line-clause-out
returns-in-Err-hear_line-clause-out g c =
    let room = c.in_default.ensures.out in
    let heard = c.in-Err-hear_line.ensures.refuses in
    let said = c.refuse.ensures.out in
    let events = g.C.Console.events in
    let machine = g.R.Reactor.machine in
    let a = at c.args.reactor.now c.args.hearing.now in
    let b = at c.args.reactor.now c.make_room.new.hearing in (
      room.0 ++ said.0,
      says_on (events c.args.console.now) (events c.make_room.new.console) (events c.refuse.new.console) room.0 said.0 room.1 said.1,
      stops_on machine a b [] (c.args.bytes.now ++ 10 ∷ []) room.0 said.0 c.refuse.result room.2
          (stops_refusal machine b (c.args.bytes.now ++ 10 ∷ []) b.pending said.0 c.in-Err-hear_line.line c.refuse.result heard.0
          (subst (λ pending. SaysBefore c.refuse.result c.in-Err-hear_line.line pending said.0) heard.1 said.2)),
    )
