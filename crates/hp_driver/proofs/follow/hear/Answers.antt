use Rattle.std.proofs.Common.{◌+◌, [], ◌∷◌, ◌++◌, take, drop, refl, sym, subst, ◌∙◌, arith, length-append}
use Rattle.hp_io.proofs.FaultLaws.{Same-trans}
use Rattle.hp_driver.specs.Course.{Stops}
use Rattle.hp_driver.specs.Hearing.{at, Hears}
use Rattle.hp_driver.proofs.HearingLaws.{stops_among, stops_on, says_on, hears_on}
use Rattle.hp_driver.proofs.LineLaws.{behind_newline, done_more}
use Rattle.hp_driver.proofs.TraceLaws.{moves_on}
use Rattle.hp_driver.proofs.follow.hear.Goals as goal

pub returns-in-Err-clause-out : goal.returns-in-Err-clause-out
returns-in-Err-clause-out g c =
    let machine = g.R.Reactor.machine in
    let events = g.C.Console.events in
    let h = c.loop-length.invariant.0 in
    let done = h.0 in
    let out = h.1 in
    let n = c.in-Some.length in
    let rest = c.loop-length.rest.now in
    let line = take n rest ++ 10 ∷ [] in
    let behind = drop (n + 1) rest in
    let next = c.in-Err.ensures.out in
    let a = at c.args.reactor.now c.args.hearing.now in
    let m = at c.loop-length.reactor c.loop-length.hearing in
    let whole = done_more c.args.piece.now done rest behind n h.2 c.in-Some.ensures.2 refl in (
      out ++ next.0,
      says_on (events c.args.console.now) (events c.loop-length.console) (events c.hear_next.new.console) out next.0 h.3 next.1,
      subst (λ bytes. Stops machine a bytes (out ++ next.0) c.in-Err.stop) (sym whole)
          (stops_among machine a (done ++ line) behind (out ++ next.0) c.in-Err.stop
          (stops_on machine a m done line out next.0 c.in-Err.stop h.4 next.2)),
    )

pub loop-length-preserved : goal.loop-length-preserved
loop-length-preserved g c =
    let machine = g.R.Reactor.machine in
    let events = g.C.Console.events in
    let i = c.loop-length.invariant in
    let h = i.0 in
    let done = h.0 in
    let out = h.1 in
    let n = c.in-Some.length in
    let rest = c.loop-length.rest.now in
    let line = take n rest ++ 10 ∷ [] in
    let next = c.in_default-hear_next.ensures in
    let a = at c.args.reactor.now c.args.hearing.now in
    let m = at c.loop-length.reactor c.loop-length.hearing in
    let b = at c.hear_next.new.reactor c.hear_next.new.hearing in (
      (
        done ++ line,
        out ++ next.out.0,
        done_more c.args.piece.now done rest _ n h.2 c.in-Some.ensures.2 (behind_newline rest n),
        says_on (events c.args.console.now) (events c.loop-length.console) (events c.hear_next.new.console) out next.out.0 h.3 next.out.1,
        moves_on machine a m b done line out next.out.0 h.4 next.out.2,
        omega (arith, h.5, next.progress, length-append done line, length-append (take n rest) (10 ∷ [])),
      ),
      next.room,
      next.same_room ∙ i.2,
      next.left ∙ i.3,
      Same-trans i.4 next.cause,
      Same-trans i.5 next.takes,
    )

pub returns-clause-out : goal.returns-clause-out
returns-clause-out g c =
    let machine = g.R.Reactor.machine in
    let events = g.C.Console.events in
    let h = c.loop-length.invariant.0 in
    let rest = c.hear_rest.ensures in
    let r = c.hear_rest.result in
    let a = at c.args.reactor.now c.args.hearing.now in
    let m = at c.loop-length.reactor c.loop-length.hearing in
    let b = at c.loop-length.reactor c.hear_rest.new.hearing in (
      h.1 ++ rest.out.0,
      says_on (events c.args.console.now) (events c.loop-length.console) (events c.hear_rest.new.console) h.1 rest.out.0 h.3 rest.out.1,
      subst (λ bytes. Hears machine r a bytes (h.1 ++ rest.out.0) b) (sym h.2)
          (hears_on machine r a m b h.0 c.loop-length.rest.now h.1 rest.out.0 h.4 rest.out.2),
    )
