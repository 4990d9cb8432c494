use Rattle.std.proofs.Common.{◌≡◌, ℕ, ◌<◌, false, ◌∷◌, length, take, drop, ap, sym, ◌∙◌, arith, eqb, inl, inr}
use Rattle.std.proofs.lemmas.Bool.Decides.{eqb_tells}
use Rattle.std.proofs.lemmas.List.Folds.{length-prefix_len}
use Rattle.hp_lines.specs.Words.{words}
use Rattle.hp_lines.proofs.WordLaws.{is_part, run, splits_line, run_has_a_byte}
use Rattle.hp_lines.proofs.words.first_word.Goals as goal

positive : (n : ℕ) → false ≡ eqb n 0 → 0 < n
positive n h = elim (eqb_tells n 0) [ inl p ↦ absurd (cc) | inr p ↦ grind arith ]

pub returns-clause-words : goal.returns-clause-words
returns-clause-words c =
    let line = c.skip_blanks-line.result.now in
    sym c.skip_blanks-line.ensures.words
    ∙ splits_line line c.skip_blanks-line.ensures.begins (positive (length line) c.if-is_empty.ensures)
    ∙ sym (ap (λ z. z ∷ words c.split_at.result.1.now)
    (c.split_at.ensures.front ∙ ap (λ m. take m line) (c.word_length.ensures ∙ length-prefix_len is_part line))
    ∙ ap (λ z. run is_part line ∷ words z) (c.split_at.ensures.back ∙ ap (λ m. drop m line) c.word_length.ensures))

pub returns-clause-shorter : goal.returns-clause-shorter
returns-clause-shorter c =
    let line = c.skip_blanks-line.result.now in
    let some = run_has_a_byte line c.skip_blanks-line.ensures.begins (positive (length line) c.if-is_empty.ensures) in
    let back = c.split_at.ensures.back_len in
    omega (arith, c.word_length.ensures, some, back, c.skip_blanks-line.ensures.shorter)
