-- Places behind more bytes.
use Rattle.std.proofs.Common.{◌≡◌, ℕ, ◌+◌, ◌==◌, Bool, true, false, not, cond, List, [], ◌∷◌, ◌++◌, length, refl, sym, ap, ◌∙◌, arith}
use Rattle.std.specs.Prelude.{count_by}
use Rattle.std.specs.List.{list_all, suffix_len, prefix_len}
use Rattle.std.proofs.lemmas.Bool.{and_parts}
use Rattle.std.proofs.lemmas.List.{append-nil, append_assoc, reverse-append, length_push}
use Rattle.std.proofs.lemmas.List.Sums.{sum_by_push}
use Rattle.hp_lexer.specs.Lexing.{line_behind, col_behind}
use Rattle.hp_lexer.specs.Reading.{place_behind, next_place, along}
use Rattle.hp_lexer.specs.declared.place.Place.{Place}

abbrev pub is_newline : ℕ → Bool
is_newline b = b == 10

abbrev pub is_plain : ℕ → Bool
is_plain b = not (b == 10)

same_place : (l m c d o p : ℕ) → l ≡ m → c ≡ d → o ≡ p → (let x : Place = record { line = l; col = c; offset = o } in x) ≡ (record { line = m; col = d; offset = p })
same_place l m c d o p e f g = cc

suffix_push : (p : ℕ → Bool) (xs : List ℕ) (y : ℕ) → suffix_len p (xs ++ y ∷ []) ≡ cond (p y) (1 + suffix_len p xs) 0
suffix_push p xs y = ap (prefix_len p) (reverse-append xs (y ∷ []))

place_by : (d : Bool) (front : List ℕ) (b : ℕ) → is_newline b ≡ d → place_behind (front ++ b ∷ []) ≡ next_place (place_behind front) b
place_by true front b e =
    same_place _ _ _ _ _ _
    (ap (λ n. 1 + n) (sum_by_push (λ x. cond (is_newline x) 1 0) front b ∙ ap (λ d. count_by is_newline front + cond d 1 0) e) ∙ omega arith)
    (ap (λ n. 1 + n) (suffix_push is_plain front b ∙ ap (λ d. cond (not d) (1 + suffix_len is_plain front) 0) e))
    (length_push front b)
    ∙ sym (ap (λ d. cond d (record { line = line_behind front + 1; col = 1; offset = length front + 1 }) (record { line = line_behind front; col = col_behind front + 1; offset = length front + 1 })) e)
place_by false front b e =
    same_place _ _ _ _ _ _
    (ap (λ n. 1 + n) (sum_by_push (λ x. cond (is_newline x) 1 0) front b ∙ ap (λ d. count_by is_newline front + cond d 1 0) e) ∙ omega arith)
    (ap (λ n. 1 + n) (suffix_push is_plain front b ∙ ap (λ d. cond (not d) (1 + suffix_len is_plain front) 0) e) ∙ omega arith)
    (length_push front b)
    ∙ sym (ap (λ d. cond d (record { line = line_behind front + 1; col = 1; offset = length front + 1 }) (record { line = line_behind front; col = col_behind front + 1; offset = length front + 1 })) e)

pub place_push : (front : List ℕ) (b : ℕ) → place_behind (front ++ b ∷ []) ≡ next_place (place_behind front) b
place_push front b = place_by (is_newline b) front b refl

next_plain : (p : Place) (b : ℕ) → is_plain b ≡ true → next_place p b ≡ along p 1
next_plain p b h = grind arith

along_more : (p : Place) (n : ℕ) → along (along p 1) n ≡ along p (1 + n)
along_more p n = same_place _ _ _ _ _ _ refl (omega arith) (omega arith)

-- the place behind bytes of which none is a newline
pub place_along : (w front : List ℕ) → list_all is_plain w ≡ true → place_behind (front ++ w) ≡ along (place_behind front) (length w)
place_along [] front h = ap place_behind (append-nil front) ∙ same_place _ _ _ _ _ _ refl (omega arith) (omega arith)
place_along (b ∷ w) front h =
    let parts = and_parts (is_plain b) (list_all is_plain w) h in
    ap place_behind (sym (append_assoc front (b ∷ []) w))
    ∙ place_along w (front ++ b ∷ []) parts.1
    ∙ ap (λ p. along p (length w)) (place_push front b ∙ next_plain (place_behind front) b parts.0)
    ∙ along_more (place_behind front) (length w)
    ∙ ap (along (place_behind front)) (omega arith)
