-- How the lines of a text grow with the text.
use Rattle.std.proofs.Common.{◌≡◌, ℕ, ◌+◌, ◌-◌, ◌*◌, ◌<◌, ◌≤◌, Bool, true, false, ◌||◌, nat_le, nat_lt, List, [], ◌∷◌, ◌++◌, length, suc, take, drop, Option, None, Some, option_map, if◌then◌else◌, ◌==◌, ◌⊎◌, inl, inr, refl, sym, ap, subst, ◌∙◌, arith, length-append, append_assoc, add-zero, eqb-true}
use Rattle.std.specs.List.{position}
use Rattle.std.specs.Prelude.{MatchOption}
use Rattle.hp_obc.proofs.Positions.{position-cons}
use Rattle.std.proofs.lemmas.List.{take_all, length-drop}
use Rattle.std.proofs.lemmas.Bool.{lt-ltb, le-leb, le-ltb, lt-leb}
use Rattle.hp_driver.specs.Lines.{in_first, whole_lines, in_last, last_piece, last_line, lines_behind, IsPiece}
use Rattle.hp_lines.specs.declared.read.TheConstants.{MAX_LINE}
use Rattle.hp_driver.specs.declared.trace_limits.TheConstants.{MAX_LINES}

at_no_newline : (b : ℕ) (bytes : List ℕ) → (b == 10) ≡ false → whole_lines (b ∷ bytes) ≡ in_first b (whole_lines bytes)
at_no_newline b bytes e = ap (λ d. if d then [] ∷ whole_lines bytes else in_first b (whole_lines bytes)) e

piece_at_no_newline : (b : ℕ) (bytes : List ℕ) → (b == 10) ≡ false → last_piece (b ∷ bytes) ≡ in_last b (whole_lines bytes) (last_piece bytes)
piece_at_no_newline b bytes e = ap (λ d. if d then last_piece bytes else in_last b (whole_lines bytes) (last_piece bytes)) e

in_first-append : (b : ℕ) (lines : List (List ℕ)) (piece ys : List ℕ) → (b == 10) ≡ false → in_first b (lines ++ whole_lines (piece ++ ys)) ≡ in_first b lines ++ whole_lines (in_last b lines piece ++ ys)
in_first-append b [] piece ys e = sym (at_no_newline b (piece ++ ys) e)
in_first-append b (line ∷ lines) piece ys e = refl

whole_by_newline : (d : Bool) (b : ℕ) (xs ys : List ℕ) → (b == 10) ≡ d → whole_lines (xs ++ ys) ≡ whole_lines xs ++ whole_lines (last_piece xs ++ ys) →
    (if d then [] ∷ whole_lines (xs ++ ys) else in_first b (whole_lines (xs ++ ys)))
    ≡ (if d then [] ∷ whole_lines xs else in_first b (whole_lines xs)) ++ whole_lines ((if d then last_piece xs else in_last b (whole_lines xs) (last_piece xs)) ++ ys)
whole_by_newline true b xs ys e h = ap (λ lines. [] ∷ lines) h
whole_by_newline false b xs ys e h = ap (in_first b) h ∙ in_first-append b (whole_lines xs) (last_piece xs) ys e

-- the lines of a text in two parts
pub whole_lines-append : (xs ys : List ℕ) → whole_lines (xs ++ ys) ≡ whole_lines xs ++ whole_lines (last_piece xs ++ ys)
whole_lines-append [] ys = refl
whole_lines-append (b ∷ xs) ys = whole_by_newline (b == 10) b xs ys refl (whole_lines-append xs ys)

in_last-append : (b : ℕ) (lines : List (List ℕ)) (piece ys : List ℕ) → (b == 10) ≡ false → in_last b (lines ++ whole_lines (piece ++ ys)) (last_piece (piece ++ ys)) ≡ last_piece (in_last b lines piece ++ ys)
in_last-append b [] piece ys e = sym (piece_at_no_newline b (piece ++ ys) e)
in_last-append b (line ∷ lines) piece ys e = refl

piece_by_newline : (d : Bool) (b : ℕ) (xs ys : List ℕ) → (b == 10) ≡ d → last_piece (xs ++ ys) ≡ last_piece (last_piece xs ++ ys) →
    (if d then last_piece (xs ++ ys) else in_last b (whole_lines (xs ++ ys)) (last_piece (xs ++ ys)))
    ≡ last_piece ((if d then last_piece xs else in_last b (whole_lines xs) (last_piece xs)) ++ ys)
piece_by_newline true b xs ys e h = h
piece_by_newline false b xs ys e h =
    ap (λ lines. in_last b lines (last_piece (xs ++ ys))) (whole_lines-append xs ys)
    ∙ ap (in_last b (whole_lines xs ++ whole_lines (last_piece xs ++ ys))) h
    ∙ in_last-append b (whole_lines xs) (last_piece xs) ys e

pub last_piece-append : (xs ys : List ℕ) → last_piece (xs ++ ys) ≡ last_piece (last_piece xs ++ ys)
last_piece-append [] ys = refl
last_piece-append (b ∷ xs) ys = piece_by_newline (b == 10) b xs ys refl (last_piece-append xs ys)

in_last_is_piece : (b : ℕ) (lines : List (List ℕ)) (piece : List ℕ) → (b == 10) ≡ false → IsPiece piece → IsPiece (in_last b lines piece)
in_last_is_piece b [] piece e h = (e, h)
in_last_is_piece b (line ∷ lines) piece e h = h

is_piece_by_newline : (d : Bool) (b : ℕ) (xs : List ℕ) → (b == 10) ≡ d → IsPiece (last_piece xs) → IsPiece (if d then last_piece xs else in_last b (whole_lines xs) (last_piece xs))
is_piece_by_newline true b xs e h = h
is_piece_by_newline false b xs e h = in_last_is_piece b (whole_lines xs) (last_piece xs) e h

pub last_piece_is_piece : (xs : List ℕ) → IsPiece (last_piece xs)
last_piece_is_piece [] = tt
last_piece_is_piece (b ∷ xs) = is_piece_by_newline (b == 10) b xs refl (last_piece_is_piece xs)

-- a piece, a newline, and more
pub whole_lines-newline : (piece more : List ℕ) → IsPiece piece → whole_lines (piece ++ 10 ∷ more) ≡ piece ∷ whole_lines more
whole_lines-newline [] more h = refl
whole_lines-newline (b ∷ piece) more h = at_no_newline b (piece ++ 10 ∷ more) h.0 ∙ ap (in_first b) (whole_lines-newline piece more h.1)

pub last_piece-newline : (piece more : List ℕ) → IsPiece piece → last_piece (piece ++ 10 ∷ more) ≡ last_piece more
last_piece-newline [] more h = refl
last_piece-newline (b ∷ piece) more h =
    piece_at_no_newline b (piece ++ 10 ∷ more) h.0
    ∙ ap (λ lines. in_last b lines (last_piece (piece ++ 10 ∷ more))) (whole_lines-newline piece more h.1)
    ∙ last_piece-newline piece more h.1

-- a piece alone
pub whole_lines-piece : (piece : List ℕ) → IsPiece piece → whole_lines piece ≡ []
whole_lines-piece [] h = refl
whole_lines-piece (b ∷ piece) h = at_no_newline b piece h.0 ∙ ap (in_first b) (whole_lines-piece piece h.1)

pub last_piece-piece : (piece : List ℕ) → IsPiece piece → last_piece piece ≡ piece
last_piece-piece [] h = refl
last_piece-piece (b ∷ piece) h =
    piece_at_no_newline b piece h.0
    ∙ ap (λ lines. in_last b lines (last_piece piece)) (whole_lines-piece piece h.1)
    ∙ ap (λ p. b ∷ p) (last_piece-piece piece h.1)

pub push_is_piece : (piece : List ℕ) (b : ℕ) → IsPiece piece → (b == 10) ≡ false → IsPiece (piece ++ b ∷ [])
push_is_piece [] b h e = (e, tt)
push_is_piece (c ∷ piece) b h e = (h.0, push_is_piece piece b h.1 e)

-- a piece in front of the first of some lines
abbrev with_piece : List ℕ → List (List ℕ) → List (List ℕ)
with_piece piece [] = []
with_piece piece (line ∷ lines) = (piece ++ line) ∷ lines

abbrev last_with_piece : List ℕ → List (List ℕ) → List ℕ → List ℕ
last_with_piece piece [] last = piece ++ last
last_with_piece piece (line ∷ lines) last = last

in_first-with_piece : (b : ℕ) (piece : List ℕ) (lines : List (List ℕ)) → in_first b (with_piece piece lines) ≡ with_piece (b ∷ piece) lines
in_first-with_piece b piece [] = refl
in_first-with_piece b piece (line ∷ lines) = refl

in_last-with_piece : (b : ℕ) (piece : List ℕ) (lines : List (List ℕ)) (last : List ℕ) → in_last b (with_piece piece lines) (last_with_piece piece lines last) ≡ last_with_piece (b ∷ piece) lines last
in_last-with_piece b piece [] last = refl
in_last-with_piece b piece (line ∷ lines) last = refl

with_nothing : (lines : List (List ℕ)) → lines ≡ with_piece [] lines
with_nothing [] = refl
with_nothing (line ∷ lines) = refl

last_with_nothing : (lines : List (List ℕ)) (last : List ℕ) → last ≡ last_with_piece [] lines last
last_with_nothing [] last = refl
last_with_nothing (line ∷ lines) last = refl

whole_lines-with_piece : (piece more : List ℕ) → IsPiece piece → whole_lines (piece ++ more) ≡ with_piece piece (whole_lines more)
whole_lines-with_piece [] more h = with_nothing (whole_lines more)
whole_lines-with_piece (b ∷ piece) more h =
    at_no_newline b (piece ++ more) h.0
    ∙ ap (in_first b) (whole_lines-with_piece piece more h.1)
    ∙ in_first-with_piece b piece (whole_lines more)

last_piece-with_piece : (piece more : List ℕ) → IsPiece piece → last_piece (piece ++ more) ≡ last_with_piece piece (whole_lines more) (last_piece more)
last_piece-with_piece [] more h = last_with_nothing (whole_lines more) (last_piece more)
last_piece-with_piece (b ∷ piece) more h =
    piece_at_no_newline b (piece ++ more) h.0
    ∙ ap (λ lines. in_last b lines (last_piece (piece ++ more))) (whole_lines-with_piece piece more h.1)
    ∙ ap (in_last b (with_piece piece (whole_lines more))) (last_piece-with_piece piece more h.1)
    ∙ in_last-with_piece b piece (whole_lines more) (last_piece more)

-- some line comes first, and it begins with the piece
pub record Begins (piece : List ℕ) (lines : List (List ℕ)) : Type 0 where
  pub rest_of_line : List ℕ
  pub others : List (List ℕ)
  pub is : lines ≡ (piece ++ rest_of_line) ∷ others

-- what makes a piece with no end a line before the input has ended
abbrev pub IsKnown : ℕ → List ℕ → Type 0
IsKnown n piece = (MAX_LINE < length piece) ⊎ (MAX_LINES ≤ n)

or_of : (e c d : Bool) → (c ≡ true) ⊎ (d ≡ true) → (e || c || d) ≡ true
or_of true true true h = refl
or_of true true false h = refl
or_of true false true h = refl
or_of true false false h = refl
or_of false true true h = refl
or_of false true false h = refl
or_of false false true h = refl
or_of false false false (inl p) = p
or_of false false false (inr p) = p

known_tests : (n : ℕ) (piece last : List ℕ) → IsKnown n piece → (nat_lt MAX_LINE (length (piece ++ last)) ≡ true) ⊎ (nat_le MAX_LINES n ≡ true)
known_tests n piece last (inl h) = inl (lt-ltb MAX_LINE (length (piece ++ last)) (omega (arith, length-append piece last, h)))
known_tests n piece last (inr h) = inr (le-leb MAX_LINES n h)

last_line_known : (ended : Bool) (n : ℕ) (b : ℕ) (piece last : List ℕ) → IsKnown n (b ∷ piece) → last_line ended n ((b ∷ piece) ++ last) ≡ ((b ∷ piece) ++ last) ∷ []
last_line_known ended n b piece last h =
    ap (λ d. if d then (b ∷ (piece ++ last)) ∷ [] else [])
    (or_of ended (nat_lt MAX_LINE (length (b ∷ (piece ++ last)))) (nat_le MAX_LINES n) (known_tests n (b ∷ piece) last h))

begins_by_lines : (ended : Bool) (n : ℕ) (b : ℕ) (piece : List ℕ) (lines : List (List ℕ)) (last : List ℕ) → IsKnown n (b ∷ piece) →
    Begins (b ∷ piece) (with_piece (b ∷ piece) lines ++ last_line ended (n + length (with_piece (b ∷ piece) lines)) (last_with_piece (b ∷ piece) lines last))
begins_by_lines ended n b piece [] last h = record {
  rest_of_line = last;
  others = [];
  is = ap (λ m. last_line ended m ((b ∷ piece) ++ last)) (add-zero n) ∙ last_line_known ended n b piece last h;
}
begins_by_lines ended n b piece (line ∷ lines) last h = record {
  rest_of_line = line;
  others = lines ++ last_line ended (n + length (with_piece (b ∷ piece) (line ∷ lines))) last;
  is = refl;
}

-- a piece that is too long, or begins a line too many, begins the first line
pub known_begins : (ended : Bool) (n : ℕ) (b : ℕ) (piece more : List ℕ) → IsPiece (b ∷ piece) → IsKnown n (b ∷ piece) → Begins (b ∷ piece) (lines_behind n ended ((b ∷ piece) ++ more))
known_begins ended n b piece more p h =
    subst (Begins (b ∷ piece))
    (sym (ap (λ lines. lines ++ last_line ended (n + length lines) (last_piece ((b ∷ piece) ++ more))) (whole_lines-with_piece (b ∷ piece) more p)
    ∙ ap (λ last. with_piece (b ∷ piece) (whole_lines more) ++ last_line ended (n + length (with_piece (b ∷ piece) (whole_lines more))) last) (last_piece-with_piece (b ∷ piece) more p)))
    (begins_by_lines ended n b piece (whole_lines more) (last_piece more) h)

-- the lines of a text in two parts
pub lines_behind-append : (n : ℕ) (ended : Bool) (xs ys : List ℕ) → lines_behind n ended (xs ++ ys) ≡ whole_lines xs ++ lines_behind (n + length (whole_lines xs)) ended (last_piece xs ++ ys)
lines_behind-append n ended xs ys =
    ap (λ lines. lines ++ last_line ended (n + length lines) (last_piece (xs ++ ys))) (whole_lines-append xs ys)
    ∙ ap (λ last. (whole_lines xs ++ whole_lines (last_piece xs ++ ys)) ++ last_line ended (n + length (whole_lines xs ++ whole_lines (last_piece xs ++ ys))) last) (last_piece-append xs ys)
    ∙ append_assoc (whole_lines xs) (whole_lines (last_piece xs ++ ys)) (last_line ended (n + length (whole_lines xs ++ whole_lines (last_piece xs ++ ys))) (last_piece (last_piece xs ++ ys)))
    ∙ ap (λ m. whole_lines xs ++ (whole_lines (last_piece xs ++ ys) ++ last_line ended m (last_piece (last_piece xs ++ ys))))
    (omega (arith, length-append (whole_lines xs) (whole_lines (last_piece xs ++ ys))))

-- a piece that is not too long, and begins no line too many, is no line yet
pub last_line_open : (n : ℕ) (piece : List ℕ) → length piece ≤ MAX_LINE → MAX_LINE * n + length piece ≤ MAX_LINE * MAX_LINES → last_line false n piece ≡ []
last_line_open n [] short few = refl
last_line_open n (b ∷ piece) short few =
    ap (λ d. if false || d || nat_le MAX_LINES n then (b ∷ piece) ∷ [] else []) (le-ltb MAX_LINE (length (b ∷ piece)) short)
    ∙ ap (λ d. if false || false || d then (b ∷ piece) ∷ [] else []) (lt-leb MAX_LINES n (omega (arith, few)))

-- what the first newline of some bytes splits
abbrev pub Splits : List ℕ → Option ℕ → Type 0
Splits bytes o = MatchOption o (IsPiece bytes) (λ n. (n < length bytes) × IsPiece (take n bytes) × (bytes ≡ take n bytes ++ 10 ∷ drop (n + 1) bytes))

two_more : (n : ℕ) → suc n + 1 ≡ suc (n + 1)
two_more n = omega arith

splits_more : (b : ℕ) (bytes : List ℕ) (o : Option ℕ) → (b == 10) ≡ false → Splits bytes o → Splits (b ∷ bytes) (option_map suc o)
splits_more b bytes None e h = (e, h)
splits_more b bytes (Some n) e h = (omega (arith, h.0), (e, h.1), ap (λ rest. b ∷ rest) (h.2 ∙ ap (λ m. take n bytes ++ 10 ∷ drop m (b ∷ bytes)) (sym (two_more n))))

splits_by : (d : Bool) (b : ℕ) (bytes : List ℕ) (o : Option ℕ) → (b == 10) ≡ d → Splits bytes o → Splits (b ∷ bytes) (if d then Some 0 else option_map suc o)
splits_by true b bytes o e h = (omega arith, tt, ap (λ c. c ∷ bytes) (eqb-true b 10 e))
splits_by false b bytes o e h = splits_more b bytes o e h

pub first_newline : (bytes : List ℕ) (o : Option ℕ) → o ≡ position (λ b. b == 10) bytes → Splits bytes o
first_newline [] o e = subst (Splits []) (sym e) tt
first_newline (b ∷ bytes) o e =
    subst (Splits (b ∷ bytes)) (sym (e ∙ position-cons (λ c. c == 10) b bytes))
    (splits_by (b == 10) b bytes (position (λ c. c == 10) bytes) refl (first_newline bytes (position (λ c. c == 10) bytes) refl))

-- what stands behind the newline
pub behind_newline : (bytes : List ℕ) (n : ℕ) → take (length bytes - (n + 1)) (drop (n + 1) bytes) ≡ drop (n + 1) bytes
behind_newline bytes n = take_all (length bytes - (n + 1)) (drop (n + 1) bytes) (omega (arith, length-drop (n + 1) bytes))

-- some bytes were done with, and then a line and its newline
pub done_more : (piece done bytes rest : List ℕ) (n : ℕ) → piece ≡ done ++ bytes → bytes ≡ take n bytes ++ 10 ∷ drop (n + 1) bytes → rest ≡ drop (n + 1) bytes →
    piece ≡ (done ++ (take n bytes ++ 10 ∷ [])) ++ rest
done_more piece done bytes rest n e h k =
    e ∙ ap (λ z. done ++ z) h
    ∙ sym (append_assoc done (take n bytes ++ 10 ∷ []) rest ∙ ap (λ z. done ++ z) (append_assoc (take n bytes) (10 ∷ []) rest ∙ ap (λ z. take n bytes ++ 10 ∷ z) k))
