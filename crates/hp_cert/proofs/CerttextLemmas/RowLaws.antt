-- Rows of numbers, functions, ranks and lines as they are written.
use Rattle.std.proofs.Common.{◌≡◌, ◌<◌, ◌≤◌, ◌+◌, ℕ, zero, suc, List, [], ◌∷◌, ◌++◌, length, get_or, drop, refl, sym, ap, ◌∙◌, drop-cons, add-one, arith}
use Rattle.std.specs.Prelude.{codes}
use Rattle.std.specs.Fmt.{decimal}
use Rattle.hp_quant.specs.declared.line.Line.{Line}
use Rattle.hp_cert.specs.Certtext.Texts.{space, spaced, decimals, line, lines, funs, ranks}
use Rattle.hp_cert.specs.Certtext.Written.{written}
use Rattle.hp_cert.proofs.CerttextLemmas.WrittenLaws.{written_none, written_more}

drop_next : {A : Type 0} (xs : List A) (i : ℕ) (d : A) → i < length xs → drop i xs ≡ get_or xs i d ∷ drop (i + 1) xs
drop_next xs i d h = rw (add-one) (drop-cons xs i d h)

pub drop_end : {A : Type 0} (xs : List A) (i : ℕ) → length xs ≤ i → drop i xs ≡ []
drop_end [] zero h = refl
drop_end [] (suc i) h = refl
drop_end (x ∷ xs) zero h = absurd (omega (arith, h))
drop_end (x ∷ xs) (suc i) h = drop_end xs i (omega (arith, h))

pub numbers_next : (text goal xs : List ℕ) (i x : ℕ) → i < length xs → x ≡ get_or xs i 0 → written text (spaced (decimals (drop i xs))) ≡ goal →
    written (written text (space ∷ decimal x ∷ [])) (spaced (decimals (drop (i + 1) xs))) ≡ goal
numbers_next text goal xs i x h e k =
    written_more text (space ∷ decimal x ∷ []) (spaced (decimals (drop (i + 1) xs)))
    ∙ sym (ap (λ z. written text (spaced (decimals z))) (drop_next xs i 0 h ∙ ap (λ y. y ∷ drop (i + 1) xs) (sym e))) ∙ k

pub numbers_end : (text goal xs : List ℕ) (i : ℕ) → length xs ≤ i → written text (spaced (decimals (drop i xs))) ≡ goal → text ≡ goal
numbers_end text goal xs i h k = sym (written_none text) ∙ sym (ap (λ z. written text (spaced (decimals z))) (drop_end xs i h)) ∙ k

pub funs_next : (text goal xs : List ℕ) (i x : ℕ) → i < length xs → x ≡ get_or xs i 0 → written text (funs (drop i xs)) ≡ goal →
    written (written text (line (codes "fun") (decimals (x ∷ [])))) (funs (drop (i + 1) xs)) ≡ goal
funs_next text goal xs i x h e k =
    written_more text (line (codes "fun") (decimals (x ∷ []))) (funs (drop (i + 1) xs)) ∙ sym (ap (λ z. written text (funs z)) (drop_next xs i 0 h ∙ ap (λ y. y ∷ drop (i + 1) xs) (sym e))) ∙ k

pub funs_end : (text goal xs : List ℕ) (i : ℕ) → length xs ≤ i → written text (funs (drop i xs)) ≡ goal → text ≡ goal
funs_end text goal xs i h k = sym (written_none text) ∙ sym (ap (λ z. written text (funs z)) (drop_end xs i h)) ∙ k

pub ranks_next : (text goal xs : List ℕ) (i x : ℕ) → i < length xs → x ≡ get_or xs i 0 → written text (ranks (i + 1) (drop i xs)) ≡ goal →
    written (written text (line (codes "rank") (decimals ((i + 1) ∷ x ∷ [])))) (ranks (i + 1 + 1) (drop (i + 1) xs)) ≡ goal
ranks_next text goal xs i x h e k =
    written_more text (line (codes "rank") (decimals ((i + 1) ∷ x ∷ []))) (ranks (i + 1 + 1) (drop (i + 1) xs))
    ∙ ap (λ n. written text (line (codes "rank") (decimals ((i + 1) ∷ x ∷ [])) ++ ranks n (drop (i + 1) xs))) (add-one (i + 1))
    ∙ sym (ap (λ z. written text (ranks (i + 1) z)) (drop_next xs i 0 h ∙ ap (λ y. y ∷ drop (i + 1) xs) (sym e))) ∙ k

pub ranks_end : (text goal xs : List ℕ) (i : ℕ) → length xs ≤ i → written text (ranks (i + 1) (drop i xs)) ≡ goal → text ≡ goal
ranks_end text goal xs i h k = sym (written_none text) ∙ sym (ap (λ z. written text (ranks (i + 1) z)) (drop_end xs i h)) ∙ k

pub lines_next : (text goal : List ℕ) (xs : List Line) (i : ℕ) (x d : Line) → i < length xs → x ≡ get_or xs i d → written text (lines (i + 2) (drop i xs)) ≡ goal →
    written (written text (line (codes "d") (decimals ((i + 2) ∷ x.var ∷ x.low ∷ x.high ∷ [])))) (lines (i + 1 + 2) (drop (i + 1) xs)) ≡ goal
lines_next text goal xs i x d h e k =
    written_more text (line (codes "d") (decimals ((i + 2) ∷ x.var ∷ x.low ∷ x.high ∷ []))) (lines (i + 1 + 2) (drop (i + 1) xs))
    ∙ ap (λ n. written text (line (codes "d") (decimals ((i + 2) ∷ x.var ∷ x.low ∷ x.high ∷ [])) ++ lines n (drop (i + 1) xs))) (omega arith)
    ∙ sym (ap (λ z. written text (lines (i + 2) z)) (drop_next xs i d h ∙ ap (λ y. y ∷ drop (i + 1) xs) (sym e))) ∙ k

pub lines_end : (text goal : List ℕ) (xs : List Line) (i : ℕ) → length xs ≤ i → written text (lines (i + 2) (drop i xs)) ≡ goal → text ≡ goal
lines_end text goal xs i h k = sym (written_none text) ∙ sym (ap (λ z. written text (lines (i + 2) z)) (drop_end xs i h)) ∙ k
