use Rattle.std.proofs.Common.{◌≡◌, ℕ, [], ◌∷◌, ◌++◌, ◌<◌, ◌≤◌, List, length, arith, refl, sym, length-append}
use Rattle.std.specs.Prelude.{Result, Ok, Err, OnOk, IfErr}
use Rattle.hp_driver.specs.Trace.{Machine}
use Rattle.hp_driver.specs.Lines.{IsPiece}
use Rattle.hp_driver.specs.Course.{Moves, Refuses}
use Rattle.hp_driver.specs.Hearing.{at, AnswersLine, RefusesLine}
use Rattle.hp_driver.specs.declared.trace_limits.Hearing.{Hearing}
use Rattle.hp_lines.specs.declared.read.TheConstants.{MAX_LINE}
use Rattle.hp_driver.specs.declared.trace_limits.BadLine.{BadLine}
use Rattle.hp_driver.specs.declared.trace_limits.TheConstants.{MAX_LINES}
use Rattle.hp_driver.proofs.HearingLaws.{moves_by_line, refuses_by_line, past_line}
use Rattle.hp_driver.proofs.follow.hear_line.Goals as goal

moves_of : {S : Type 0} (machine : Machine S) (s t : S) (old new : Hearing) (bytes : List ℕ) {T E : Type 0} (r : Result T E) → IsPiece bytes →
    old.number < MAX_LINES → length (old.piece.items ++ bytes) ≤ MAX_LINE → OnOk r (AnswersLine machine s t (old.piece.items ++ bytes) old new) →
    OnOk r (Moves machine (at s old) (bytes ++ 10 ∷ []) [] (at t new))
moves_of machine s t old new bytes (Ok x) p few short h = moves_by_line machine (at s old) (at t new) bytes h.out p h.answered few short h.piece h.pending h.number
moves_of machine s t old new bytes (Err x) p few short h = tt

refuses_of : {S : Type 0} (machine : Machine S) (s : S) (old new : Hearing) (bytes : List ℕ) {T : Type 0} (r : Result T BadLine) → IsPiece bytes →
    old.number < MAX_LINES → length (old.piece.items ++ bytes) ≤ MAX_LINE → IfErr r (λ line. RefusesLine machine s (old.piece.items ++ bytes) old new line) →
    IfErr r (λ line. Refuses machine (at s old) (bytes ++ 10 ∷ []) old.pending.items line × (new.pending.items ≡ old.pending.items))
refuses_of machine s old new bytes (Ok x) p few short h = tt
refuses_of machine s old new bytes (Err line) p few short h =
    (refuses_by_line machine (at s old) bytes h.error line p h.is_refused few short h.is, h.pending)

pub returns-in-Err-clause-refuses : goal.returns-in-Err-clause-refuses
returns-in-Err-clause-refuses g c =
    let old = c.args.hearing.now in
    (past_line g.R.Reactor.machine c.args.reactor.now old c.args.bytes.now c.in-Err.line c.requires.piece (omega (arith, c.requires.room.line, old.piece.ok.0)) (sym old.piece.ok.0) c.in-Err.ensures.past, refl)

pub returns-clause-moves : goal.returns-clause-moves
returns-clause-moves g c =
    let old = c.args.hearing.now in
    moves_of g.R.Reactor.machine c.args.reactor.now c.end_with.new.reactor old c.end_with.new.hearing c.args.bytes.now c.end_with.result c.requires.piece c.in_default.ensures.few
    (omega (arith, c.in_default.ensures.short, old.piece.ok.0, length-append old.piece.items c.args.bytes.now)) c.end_with.ensures.answered

pub returns-clause-refuses : goal.returns-clause-refuses
returns-clause-refuses g c =
    let old = c.args.hearing.now in
    refuses_of g.R.Reactor.machine c.args.reactor.now old c.end_with.new.hearing c.args.bytes.now c.end_with.result c.requires.piece c.in_default.ensures.few
    (omega (arith, c.in_default.ensures.short, old.piece.ok.0, length-append old.piece.items c.args.bytes.now)) c.end_with.ensures.refused
