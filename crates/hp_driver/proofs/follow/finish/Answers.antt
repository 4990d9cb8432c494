use Rattle.std.proofs.Common.{◌≡◌, ℕ, suc, ◌<◌, List, [], ◌++◌, inl, inr, None, false, length, ap, sym, subst, ◌∙◌, arith, eqb}
use Rattle.std.specs.Prelude.{Err, vec_len}
use Rattle.std.proofs.lemmas.List.{nil_from_length}
use Rattle.std.proofs.lemmas.Bool.{eqb-true}
use Rattle.std.proofs.lemmas.Bool.Decides.{eqb_tells}
use Rattle.hp_io.proofs.ToldLaws.{Grows-nil}
use Rattle.hp_driver.specs.Course.{Finishes, EndsIn}
use Rattle.hp_driver.specs.LineFaults.{by_words}
use Rattle.hp_driver.specs.declared.trace_limits.End.TheVariants.{Done}
use Rattle.hp_driver.specs.declared.trace_limits.Fault.TheVariants.{Line, Many}
use Rattle.hp_driver.specs.Hearing.{at, SaysPending}
use Rattle.hp_driver.specs.declared.trace_limits.Stop.{Stop}
use Rattle.hp_driver.specs.declared.trace_limits.Stop.TheVariants as stop
use Rattle.hp_driver.proofs.TraceLaws.{answer_within, answer_too_many}
use Rattle.hp_driver.proofs.FollowLaws.{finishes_none, finishes_line, finishes_refused, ends_none, ends_line, breaks_off}
use Rattle.hp_driver.proofs.follow.finish.Goals as goal

rest_of : (end : Stop) (pending out : List ℕ) → SaysPending {T = ℕ} (Err end) pending out → (rest : List ℕ) × (out ++ rest ≡ pending)
rest_of (stop.Refused n) pending out h = absurd h
rest_of stop.PutFailed pending out h = h

positive : (n : ℕ) → false ≡ eqb n 0 → 0 < n
positive n h = elim (eqb_tells n 0) [ inl p ↦ absurd (cc) | inr p ↦ grind arith ]

pub returns-then-is_empty-clause-out : goal.returns-then-is_empty-clause-out
returns-then-is_empty-clause-out g c =
    let a = at c.args.reactor.now c.args.hearing.now in
    let piece = c.args.hearing.now.piece in
    let nothing = nil_from_length piece.items (omega (arith, piece.ok.0, eqb-true (vec_len piece) 0 (sym c.if-is_empty.ensures))) in (
      [],
      Grows-nil (g.C.Console.events c.args.console.now),
      finishes_none g.R.Reactor.machine a nothing c.requires.pending,
      ends_none g.R.Reactor.machine a nothing c.requires.pending,
    )

pub returns-then-hearing-ge-MAX_LINES-clause-out :
    goal.returns-then-hearing-ge-MAX_LINES-clause-out
returns-then-hearing-ge-MAX_LINES-clause-out g c =
    let a = at c.args.reactor.now c.args.hearing.now in
    let piece = c.args.hearing.now.piece in (
      [],
      Grows-nil (g.C.Console.events c.args.console.now),
      finishes_refused g.R.Reactor.machine a Many c.refused.result (omega (arith, piece.ok.0, positive (vec_len piece) c.if-is_empty.ensures)) c.requires.pending c.refused.ensures
          (answer_too_many g.R.Reactor.machine a.state (suc a.number) a.piece (omega (arith, c.if-hearing-ge-MAX_LINES.true))),
      tt,
    )

pub returns-in-Err-clause-out : goal.returns-in-Err-clause-out
returns-in-Err-clause-out g c =
    let a = at c.args.reactor.now c.args.hearing.now in
    let piece = c.args.hearing.now.piece in
    let e = c.in-Err.ensures.refused in (
      [],
      Grows-nil (g.C.Console.events c.args.console.now),
      finishes_refused g.R.Reactor.machine a (Line e.error) c.in-Err.line (omega (arith, piece.ok.0, positive (vec_len piece) c.if-is_empty.ensures)) c.requires.pending e.is
          (answer_within g.R.Reactor.machine a.state (suc a.number) a.piece (omega (arith, c.if-hearing-ge-MAX_LINES.false)) (omega (arith, piece.ok.0, c.requires.room.line)) ∙ ap by_words e.is_refused),
      tt,
    )

pub returns-in-Ok-clause-out : goal.returns-in-Ok-clause-out
returns-in-Ok-clause-out g c =
    let a = at c.args.reactor.now c.args.hearing.now in
    let piece = c.args.hearing.now.piece in
    let line = c.in_default.ensures.answered in
    let say = c.in-Ok.ensures.out in
    let out = say.2 ∙ line.pending ∙ ap (λ z. z ++ line.out) c.requires.pending in
    let some : 0 < length a.piece = omega (arith, piece.ok.0, positive (vec_len piece) c.if-is_empty.ensures) in
    let answered = answer_within g.R.Reactor.machine a.state (suc a.number) a.piece (omega (arith, c.if-hearing-ge-MAX_LINES.false)) (omega (arith, piece.ok.0, c.requires.room.line)) ∙ ap by_words line.answered in (
      say.0,
      say.1,
      subst (λ z. Finishes g.R.Reactor.machine a z None) (sym out) (finishes_line g.R.Reactor.machine a line.out c.end_line.new.reactor some c.requires.pending answered),
      subst (λ z. EndsIn g.R.Reactor.machine a z Done c.end_line.new.reactor) (sym out) (ends_line g.R.Reactor.machine a line.out c.end_line.new.reactor some c.requires.pending answered),
    )

pub returns-in-Err-say_pending-clause-out :
    goal.returns-in-Err-say_pending-clause-out
returns-in-Err-say_pending-clause-out g c =
    let a = at c.args.reactor.now c.args.hearing.now in
    let piece = c.args.hearing.now.piece in
    let line = c.in_default.ensures.answered in
    let say = c.in-Err-say_pending.ensures.out in
    let rest = rest_of c.in-Err-say_pending.field-0 c.end_line.new.hearing.pending.items say.0 say.2 in
    let out = rest.1 ∙ line.pending ∙ ap (λ z. z ++ line.out) c.requires.pending in (
      say.0,
      say.1,
      breaks_off g.R.Reactor.machine a say.0 rest.0 line.out out
          (finishes_line g.R.Reactor.machine a line.out c.end_line.new.reactor (omega (arith, piece.ok.0, positive (vec_len piece) c.if-is_empty.ensures)) c.requires.pending
          (answer_within g.R.Reactor.machine a.state (suc a.number) a.piece (omega (arith, c.if-hearing-ge-MAX_LINES.false)) (omega (arith, piece.ok.0, c.requires.room.line)) ∙ ap by_words line.answered)),
      tt,
    )
