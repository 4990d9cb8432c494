-- The letters of names, and the numbers of those that are made.
use Rattle.std.proofs.Common.{◌≡◌, ◌<◌, ◌^◌, ℕ, zero, suc, nat_eq, Bool, true, false, if◌then◌else◌, take, List, [], ◌∷◌, ◌++◌, refl, sym, ap, ◌∙◌}
use Rattle.std.specs.Prelude.{decimal}
use Rattle.std.proofs.lemmas.Fmt.{decimal_injective}
use Rattle.law_equations.specs.Followed.Premises.{first_byte, letter_of, HasNoSign}
use Rattle.law_equations.specs.Made.Making.{stem, new_name}

plain_one : (b : ℕ) (bs : List ℕ) (sign : Bool) → nat_eq b 36 ≡ sign → HasNoSign bs → HasNoSign (if sign then [] else b ∷ bs)
plain_one b bs true e h = tt
plain_one b bs false e h = (e, h)

stem_plain : (x : List ℕ) → HasNoSign (stem x)
stem_plain [] = tt
stem_plain (b ∷ bs) = plain_one b (stem bs) (nat_eq b 36) refl (stem_plain bs)

take_plain : (n : ℕ) (xs : List ℕ) → HasNoSign xs → HasNoSign (take n xs)
take_plain zero xs h = tt
take_plain (suc n) [] h = tt
take_plain (suc n) (b ∷ bs) h = (h.0, take_plain n bs h.1)

letter_behind : (front : List ℕ) (letter : ℕ) (rest : List ℕ) → HasNoSign front → letter_of (front ++ (36 ∷ letter ∷ rest)) ≡ letter
letter_behind [] letter rest h = refl
letter_behind (b ∷ front) letter rest h = ap (λ (d : Bool). if d then first_byte (front ++ (36 ∷ letter ∷ rest)) else letter_of (front ++ (36 ∷ letter ∷ rest))) h.0 ∙ letter_behind front letter rest h.1

-- what stands behind the letter of the first sign
abbrev others : List ℕ → List ℕ
others [] = []
others (b ∷ bs) = bs

abbrev rest_of : List ℕ → List ℕ
rest_of [] = []
rest_of (b ∷ bs) = if nat_eq b 36 then others bs else rest_of bs

rest_behind : (front : List ℕ) (letter : ℕ) (rest : List ℕ) → HasNoSign front → rest_of (front ++ (36 ∷ letter ∷ rest)) ≡ rest
rest_behind [] letter rest h = refl
rest_behind (b ∷ front) letter rest h = ap (λ (d : Bool). if d then others (front ++ (36 ∷ letter ∷ rest)) else rest_of (front ++ (36 ∷ letter ∷ rest))) h.0 ∙ rest_behind front letter rest h.1

abbrev front_of : List ℕ → List ℕ
front_of x = take 248 (stem x)

front_plain : (x : List ℕ) → HasNoSign (front_of x)
front_plain x = take_plain 248 (stem x) (stem_plain x)

-- the letter of a new name
pub new-letter : (x : List ℕ) (n : ℕ) → letter_of (new_name x n) ≡ 120
new-letter x n = letter_behind (front_of x) 120 (decimal n) (front_plain x)

-- names of different numbers differ
pub new-number : (x y : List ℕ) (m n : ℕ) → m < 2 ^ 64 → n < 2 ^ 64 → new_name x m ≡ new_name y n → m ≡ n
new-number x y m n h g e =
    decimal_injective m n h g (sym (rest_behind (front_of x) 120 (decimal m) (front_plain x)) ∙ ap rest_of e ∙ rest_behind (front_of y) 120 (decimal n) (front_plain y))
