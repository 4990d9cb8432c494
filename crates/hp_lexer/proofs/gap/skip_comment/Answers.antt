use Rattle.std.proofs.Common.{◌≡◌, ◌<◌, ℕ, List, ap, sym, ◌∙◌, arith}
use Rattle.std.specs.Borrow.{Bor}
use Rattle.std.proofs.lemmas.List.{take_rest}
use Rattle.hp_lexer.specs.Reading.{comment_end}
use Rattle.hp_lexer.proofs.Comments.{Turn, turn_opens, turn_closes, turn_plain}
use Rattle.hp_lexer.proofs.gap.skip_comment.Goals as goal
use Rattle.hp_lexer.proofs.gap.skip_comment.Goals.{in-Opens, in-Closes, in-Plain}

positive : (n : ℕ) → (n ≡ 0 → ⊥) → 0 < n
positive n h = omega arith

pub returns-then-open-eq0-clause-end : goal.returns-then-open-eq0-clause-end
returns-then-open-eq0-clause-end c =
    let place = c.loop-bytes.place in
    let next = c.match-marked.place in
    let depth = c.match-marked.open in
    let behind = c.match-marked.bytes.now in
    let rest = c.loop-bytes.bytes.now in
    let all = c.loop-bytes.invariant in
    let turn : Turn c.loop-bytes.open rest place depth behind next =
    elim c.match-marked.branch [
      | in-Opens w ↦ turn_opens place next depth behind c.loop-bytes.open rest all.3 c.in-len2-up.len_at_least all.1 (sym w.in-Opens.ensures) w.open-is (ap (λ (r : Bor (List ℕ)). r.now) w.bytes-is ∙ take_rest rest 2) (w.place-is ∙ w.along-place.ensures)
      | in-Closes w ↦ turn_closes place next depth behind c.loop-bytes.open rest all.3 c.in-len2-up.len_at_least all.1 (sym w.in-Closes.ensures) w.open-is (ap (λ (r : Bor (List ℕ)). r.now) w.bytes-is ∙ take_rest rest 2) (w.place-is ∙ w.along-place-in-Closes.ensures)
      | in-Plain w ↦ turn_plain place next depth behind c.loop-bytes.open rest all.3 c.in-len2-up.len_at_least all.1 (sym w.in-Plain.ensures) w.open-is (ap (λ (r : Bor (List ℕ)). r.now) w.bytes-is ∙ take_rest rest 1) (w.place-is ∙ w.behind-place.ensures)
    ] in
    sym (ap (λ m. comment_end m behind next) c.if-open-eq0.true) ∙ turn.same ∙ all.0

pub loop-bytes-preserved : goal.loop-bytes-preserved
loop-bytes-preserved c =
    let place = c.loop-bytes.place in
    let next = c.match-marked.place in
    let depth = c.match-marked.open in
    let behind = c.match-marked.bytes.now in
    let rest = c.loop-bytes.bytes.now in
    let all = c.loop-bytes.invariant in
    let turn : Turn c.loop-bytes.open rest place depth behind next =
    elim c.match-marked.branch [
      | in-Opens w ↦ turn_opens place next depth behind c.loop-bytes.open rest all.3 c.in-len2-up.len_at_least all.1 (sym w.in-Opens.ensures) w.open-is (ap (λ (r : Bor (List ℕ)). r.now) w.bytes-is ∙ take_rest rest 2) (w.place-is ∙ w.along-place.ensures)
      | in-Closes w ↦ turn_closes place next depth behind c.loop-bytes.open rest all.3 c.in-len2-up.len_at_least all.1 (sym w.in-Closes.ensures) w.open-is (ap (λ (r : Bor (List ℕ)). r.now) w.bytes-is ∙ take_rest rest 2) (w.place-is ∙ w.along-place-in-Closes.ensures)
      | in-Plain w ↦ turn_plain place next depth behind c.loop-bytes.open rest all.3 c.in-len2-up.len_at_least all.1 (sym w.in-Plain.ensures) w.open-is (ap (λ (r : Bor (List ℕ)). r.now) w.bytes-is ∙ take_rest rest 1) (w.place-is ∙ w.behind-place.ensures)
    ] in
    (turn.same ∙ all.0, turn.room, omega arith, positive depth c.if-open-eq0.false, omega arith)
