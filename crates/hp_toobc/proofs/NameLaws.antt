-- Names that are made differ.
use Rattle.std.proofs.Common.{◌≡◌, ◌<◌, ◌^◌, ℕ, zero, suc, nat_eq, Bool, true, false, if◌then◌else◌, take, List, [], ◌∷◌, ◌++◌, refl, sym, ◌∙◌, arith}
use Rattle.std.specs.Prelude.{decimal}
use Rattle.std.proofs.lemmas.Bool.{eq-eqb}
use Rattle.std.proofs.lemmas.List.{take_all}
use Rattle.std.proofs.lemmas.Fmt.{decimal_injective, length-decimal-le}
use Rattle.hp_toobc.specs.Labels.{dollar, stem, NamesDiffer}

-- no byte is the sign
abbrev IsPlain : List ℕ → Type 0
IsPlain [] = Unit {0}
IsPlain (b ∷ bs) = (nat_eq b dollar ≡ false) × IsPlain bs

plain_one : (b : ℕ) (bs : List ℕ) (sign : Bool) → nat_eq b dollar ≡ sign → IsPlain bs → IsPlain (if sign then [] else b ∷ bs)
plain_one b bs true e h = tt
plain_one b bs false e h = (e, h)

stem_plain : (x : List ℕ) → IsPlain (stem x)
stem_plain [] = tt
stem_plain (b ∷ bs) = plain_one b (stem bs) (nat_eq b dollar) refl (stem_plain bs)

take_plain : (n : ℕ) (xs : List ℕ) → IsPlain xs → IsPlain (take n xs)
take_plain zero xs h = tt
take_plain (suc n) [] h = tt
take_plain (suc n) (b ∷ bs) h = (h.0, take_plain n bs h.1)

sign_first : (b : ℕ) (bs us vs : List ℕ) → nat_eq b dollar ≡ false → b ∷ us ≡ dollar ∷ vs → ⊥
sign_first b bs us vs e h =
    let same : b ≡ 36 = cc in
    absurd (cc (eq-eqb b 36 same))

-- what stands behind the first sign
behind_sign : (xs ys us vs : List ℕ) → IsPlain xs → IsPlain ys → xs ++ (dollar ∷ us) ≡ ys ++ (dollar ∷ vs) → us ≡ vs
behind_sign [] [] us vs p q e = cc
behind_sign [] (y ∷ ys) us vs p q e = absurd (sign_first y ys (ys ++ (dollar ∷ vs)) us q.0 (sym e))
behind_sign (x ∷ xs) [] us vs p q e = absurd (sign_first x xs (xs ++ (dollar ∷ us)) vs p.0 e)
behind_sign (x ∷ xs) (y ∷ ys) us vs p q e = let rest : xs ++ (dollar ∷ us) ≡ ys ++ (dollar ∷ vs) = cc in behind_sign xs ys us vs p.1 q.1 rest

whole : (i : ℕ) → i < 10 ^ 13 → take 13 (decimal i) ≡ decimal i
whole i h = take_all 13 (decimal i) (length-decimal-le 13 i (omega arith) h (omega arith))

pub names_differ : NamesDiffer
names_differ x y letter other i k h g e =
    let behind : letter ∷ take 13 (decimal i) ≡ other ∷ take 13 (decimal k) =
    behind_sign (take 255 (stem x)) (take 255 (stem y)) (letter ∷ take 13 (decimal i)) (other ∷ take 13 (decimal k)) (take_plain 255 (stem x) (stem_plain x)) (take_plain 255 (stem y) (stem_plain y)) e in
    let letters : letter ≡ other = cc in
    let digits : take 13 (decimal i) ≡ take 13 (decimal k) = cc in
    (letters, decimal_injective i k (omega arith) (omega arith) (sym (whole i h) ∙ digits ∙ whole k g))
