use Rattle.std.proofs.Common.{◌≡◌, ℕ, List, [], ◌∷◌, ◌++◌, take, inl, inr, sym, subst, refl, ◌∙◌, arith}
use Rattle.hp_io.specs.declared.console.Event.{Event}
use Rattle.hp_io.specs.declared.console.Event.TheVariants.{Asked}
use Rattle.hp_io.specs.Told.{Grows, Loses}
use Rattle.std.proofs.lemmas.List.{append-nil}
use Rattle.std.specs.Prelude.{Option, ◌⊎◌}
use Rattle.hp_io.proofs.FaultLaws.{Same-refl, Same-trans}
use Rattle.hp_io.proofs.ToldLaws.{Grows-nil, Grows-same, Grows-trans, Loses-nil}
use Rattle.hp_driver.specs.Trace.{Machine}
use Rattle.hp_driver.specs.Course.{At, Reaches}
use Rattle.hp_driver.specs.Hearing.{at, Course}
use Rattle.hp_driver.specs.Log.{heard, HeardFrom}
use Rattle.hp_driver.specs.declared.trace_limits.End.TheVariants.{TakeFailed}
use Rattle.hp_driver.proofs.FollowLaws.{begins, follows_on, closes_by_stop, closes_by_end, closes_by_fault, closes_by_asked_fault, reaches_by_end, reaches_by_stop, turn, last_turn, turn_grows, turn_loses, last_grows, last_loses, heard-append, ended_by, open_turn, goes_on, nothing_left, IsFollowing}
use Rattle.hp_driver.proofs.LineLaws.{last_line_open}
use Rattle.hp_driver.proofs.follow.follow.Goals as goal

pub loop-count-init : goal.loop-count-init
loop-count-init g c =
    let console = g.C.Console in (
      (
        [],
        Grows-nil (console.events c.args.console.now),
        Loses-nil (console.left c.args.console.now),
        begins g.R.Reactor.machine (at c.args.reactor.now c.args.hearing.now) c.requires.piece c.requires.pending c.requires.number,
      ),
      c.requires.room,
      c.requires.buffer,
      Same-refl (console.put_faults c.args.console.now),
      Same-refl (console.take_faults c.args.console.now),
    )

pub loop-count-preserved : goal.loop-count-preserved
loop-count-preserved g c =
    let console = g.C.Console in
    let i = c.loop-count.invariant in
    let log = i.0.0 in
    let hear = c.in_default-hear.ensures in
    let take_ = c.in-Ok.ensures in
    let n = c.in-Ok.count in
    let buffer = c.take.new.into in
    let piece = take n buffer in
    let same : piece ≡ take n buffer = refl in
    let out = hear.out.0 in
    let a = at c.loop-count.reactor c.loop-count.hearing in
    let b = at c.hear.new.reactor c.hear.new.hearing in
    let rest = c.hear.new.hearing.piece in (
      (
        log ++ turn piece out,
        turn_grows (console.events c.args.console.now) (console.events c.loop-count.console) (console.events c.take.new.self) (console.events c.hear.new.console)
            log n buffer piece out c.if-count-eq0.false same i.0.1 take_.events hear.out.1,
        turn_loses (console.left c.args.console.now) (console.left c.loop-count.console) (console.left c.take.new.self) (console.left c.hear.new.console)
            log n buffer piece out same i.0.2 take_.left hear.left,
        follows_on g.R.Reactor.machine c.args.reactor.now log a b piece out i.0.3 hear.out.2 hear.pending
            (last_line_open b.number b.piece (omega (arith, hear.room.line, rest.ok.0)) (omega (arith, hear.room.lines, rest.ok.0))),
      ),
      hear.room,
      omega (arith, c.take.auto.into, i.2),
      Same-trans i.3 (Same-trans take_.puts hear.cause),
      Same-trans i.4 (Same-trans take_.no_other_cause.0 hear.takes),
    )

pub returns-in-Err-clause-course : goal.returns-in-Err-clause-course
returns-in-Err-clause-course g c =
    let console = g.C.Console in
    let i = c.loop-count.invariant in
    let log = i.0.0 in
    let hear = c.in-Err.ensures in
    let take_ = c.in-Ok.ensures in
    let n = c.in-Ok.count in
    let buffer = c.take.new.into in
    let piece = take n buffer in
    let same : piece ≡ take n buffer = refl in
    let out = hear.out.0 in
    let a = at c.loop-count.reactor c.loop-count.hearing in
    let closed = closes_by_stop g.R.Reactor.machine c.args.reactor.now log a piece out c.in-Err.stop i.0.3 hear.out.2 in (
      log ++ turn piece out,
      turn_grows (console.events c.args.console.now) (console.events c.loop-count.console) (console.events c.take.new.self) (console.events c.hear.new.console)
          log n buffer piece out c.if-count-eq0.false same i.0.1 take_.events hear.out.1,
      (
        turn_loses (console.left c.args.console.now) (console.left c.loop-count.console) (console.left c.take.new.self) (console.left c.hear.new.console)
            log n buffer piece out same i.0.2 take_.left hear.left,
        goes_on (log ++ turn piece out) (ended_by log (turn piece out) i.0.3.still_open ∙ open_turn piece out) (console.left c.hear.new.console),
      ),
      subst (Course g.R.Reactor.machine c.args.reactor.now (log ++ turn piece out)) (sym c.from.ensures) (record { in_step = closed.0; closes = closed.1 }),
      subst (λ end. Reaches g.R.Reactor.machine c.args.reactor.now (log ++ turn piece out) end c.hear.new.reactor) (sym c.from.ensures)
          (reaches_by_stop g.R.Reactor.machine c.args.reactor.now (log ++ turn piece out) c.in-Err.stop c.hear.new.reactor),
    )

pub returns-then-count-eq0-clause-course : goal.returns-then-count-eq0-clause-course
returns-then-count-eq0-clause-course g c =
    let console = g.C.Console in
    let i = c.loop-count.invariant in
    let log = i.0.0 in
    let take_ = c.in-Ok.ensures in
    let n = c.in-Ok.count in
    let buffer = c.take.new.into in
    let end = c.finish.ensures in
    let out = end.out.0 in
    let a = at c.loop-count.reactor c.loop-count.hearing in
    let closed = closes_by_end g.R.Reactor.machine c.args.reactor.now log a out c.finish.result i.0.3 end.out.2 in (
      log ++ last_turn out,
      last_grows (console.events c.args.console.now) (console.events c.loop-count.console) (console.events c.take.new.self) (console.events c.finish.new.console)
          log n buffer out c.if-count-eq0.true i.0.1 take_.events end.out.1,
      (
        last_loses (console.left c.args.console.now) (console.left c.loop-count.console) (console.left c.take.new.self) (console.left c.finish.new.console)
            log n buffer out c.if-count-eq0.true i.0.2 take_.left end.left,
        λ ended. nothing_left (console.left c.loop-count.console) (console.left c.take.new.self) (console.left c.finish.new.console)
            n buffer c.if-count-eq0.true (take_.end c.if-count-eq0.true) take_.left end.left,
      ),
      record { in_step = closed.0; closes = closed.1 },
      reaches_by_end g.R.Reactor.machine c.args.reactor.now log a out c.finish.result c.finish.new.reactor i.0.3 end.out.3,
    )

-- a take that failed, where the console was asked or not
failed_take : {S : Type 0} (machine : Machine S) (start : S) (log : List Event) (at' : At S) (a b d : Option (List Event)) (l m n : Option (List ℕ)) →
    IsFollowing machine start log at' → Grows a b log → (Grows b d [] ⊎ Grows b d (Asked ∷ [])) → Loses l m (heard log) → n ≡ m →
    (x : List Event) × Grows a d x × HeardFrom l n x × Course machine start x TakeFailed × Unit {0}
failed_take machine start log at' a b d l m n h p (inl q) r e =
    let closed = closes_by_fault machine start log at' h in (
      log,
      subst (λ z. Grows a z log) (sym (Grows-same b d q)) p,
      (subst (λ z. Loses l z (heard log)) (sym e) r, goes_on log h.still_open n),
      record { in_step = closed.0; closes = closed.1 },
      tt,
    )
failed_take machine start log at' a b d l m n h p (inr q) r e =
    let closed = closes_by_asked_fault machine start log at' h in (
      log ++ Asked ∷ [],
      Grows-trans a b d log (Asked ∷ []) p q,
      (
        subst (λ z. Loses l n z) (sym (heard-append log (Asked ∷ []) ∙ append-nil (heard log))) (subst (λ z. Loses l z (heard log)) (sym e) r),
        goes_on (log ++ Asked ∷ []) (ended_by log (Asked ∷ []) h.still_open) n,
      ),
      record { in_step = closed.0; closes = closed.1 },
      tt,
    )

pub returns-in_default-clause-course : goal.returns-in_default-clause-course
returns-in_default-clause-course g c =
    let console = g.C.Console in
    let i = c.loop-count.invariant in
    let t = c.in_default.ensures in
    failed_take g.R.Reactor.machine c.args.reactor.now i.0.0 (at c.loop-count.reactor c.loop-count.hearing)
    (console.events c.args.console.now) (console.events c.loop-count.console) (console.events c.take.new.self)
    (console.left c.args.console.now) (console.left c.loop-count.console) (console.left c.take.new.self)
    i.0.3 i.0.1 t.failed_events i.0.2 t.failed_left
