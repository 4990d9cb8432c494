use Rattle.std.proofs.Common.{[], refl, sym, ap, subst, arith}
use Rattle.std.proofs.lemmas.List.{append-nil}
use Rattle.hp_driver.specs.Hearing.{at, Hears}
use Rattle.hp_driver.proofs.HearingLaws.{hears_by_saying, hears_on, moves_by_piece, past_bytes, stops_refusal, some_bytes, no_bytes}
use Rattle.hp_driver.proofs.follow.hear_rest.Goals as goal

pub returns-then-is_empty-clause-out : goal.returns-then-is_empty-clause-out
returns-then-is_empty-clause-out g c =
    let say = c.say_pending.ensures in
    let a = at c.args.reactor.now c.args.hearing.now in
    let b = at c.args.reactor.now c.say_pending.new.hearing in (
      say.out.0,
      say.out.1,
      subst (λ bytes. Hears g.R.Reactor.machine c.say_pending.result a bytes say.out.0 b) (sym (no_bytes c.args.bytes.now c.if-is_empty.ensures))
          (hears_by_saying g.R.Reactor.machine c.say_pending.result a b say.out.0 say.out.2 (ap (λ p. p.items) say.piece) say.pending say.number refl),
    )

pub returns-in-Err-clause-out : goal.returns-in-Err-clause-out
returns-in-Err-clause-out g c =
    let old = c.args.hearing.now in
    let said = c.refuse.ensures.out in (
      said.0,
      said.1,
      stops_refusal g.R.Reactor.machine (at c.args.reactor.now old) c.args.bytes.now old.pending.items said.0 c.in-Err.line c.refuse.result
          (past_bytes g.R.Reactor.machine c.args.reactor.now old c.args.bytes.now c.in-Err.line c.requires.piece (some_bytes c.args.bytes.now c.if-is_empty.ensures)
          (omega (arith, c.requires.room.line, old.piece.ok.0)) (sym old.piece.ok.0) c.in-Err.ensures.past)
          said.2,
    )

pub returns-clause-out : goal.returns-clause-out
returns-clause-out g c =
    let machine = g.R.Reactor.machine in
    let say = c.say_pending-2.ensures in
    let kept = c.keep.ensures in
    let r = c.say_pending-2.result in
    let a = at c.args.reactor.now c.args.hearing.now in
    let m = at c.args.reactor.now c.keep.new.self in
    let b = at c.args.reactor.now c.say_pending-2.new.hearing in (
      say.out.0,
      say.out.1,
      subst (λ bytes. Hears machine r a bytes say.out.0 b) (append-nil c.args.bytes.now)
          (hears_on machine r a m b c.args.bytes.now [] [] say.out.0
          (moves_by_piece machine a m c.args.bytes.now c.requires.piece kept.piece (ap (λ p. p.items) kept.pending) kept.number refl)
          (hears_by_saying machine r m b say.out.0 say.out.2 (ap (λ p. p.items) say.piece) say.pending say.number refl)),
    )
