-- The part of a name before the sign.
use Rattle.std.proofs.Common.{◌≡◌, ℕ, ◌+◌, ◌<◌, ◌≤◌, get_or, length, drop, take, true, false, nat_eq, if◌then◌else◌, List, [], ◌∷◌, ◌++◌, refl, sym, ap, ◌∙◌, arith}
use Rattle.std.specs.Prelude.{min, codes, decimal}
use Rattle.std.proofs.lemmas.List.{append_assoc, append-nil, take_min}
use Rattle.law_equations.specs.Made.Making.{stem, new_name}
use Rattle.hp_complete.proofs.LayerLaws.{drop-next, drop-end, take-next}

-- the bytes so far are those before the sign
pub stem-begin : (text : List ℕ) → stem text ≡ take 0 text ++ stem (drop 0 text)
stem-begin [] = refl
stem-begin (b ∷ text) = refl

module _ (text : List ℕ) (i b : ℕ) (inside : i < length text) (at : b ≡ get_or text i b) where
  rest : drop i text ≡ b ∷ drop (i + 1) text
  rest = drop-next text i b inside at

  pub stem-next : nat_eq b 36 ≡ false → stem text ≡ take i text ++ stem (drop i text) → stem text ≡ take (i + 1) text ++ stem (drop (i + 1) text)
  stem-next other known =
      known
      ∙ ap (λ more. take i text ++ stem more) rest
      ∙ ap (λ d. take i text ++ (if d then [] else b ∷ stem (drop (i + 1) text))) other
      ∙ sym (append_assoc (take i text) (b ∷ []) (stem (drop (i + 1) text)))
      ∙ ap (λ xs. xs ++ stem (drop (i + 1) text)) (sym (take-next text i b inside at))

  pub stem-found : nat_eq b 36 ≡ true → stem text ≡ take i text ++ stem (drop i text) → take i text ≡ stem text
  stem-found is known =
      sym (known
      ∙ ap (λ more. take i text ++ stem more) rest
      ∙ ap (λ d. take i text ++ (if d then [] else b ∷ stem (drop (i + 1) text))) is
      ∙ append-nil (take i text))

pub stem-end : (text : List ℕ) (i : ℕ) → length text ≤ i → take i text ≡ text → stem text ≡ take i text ++ stem (drop i text) → text ≡ stem text
stem-end text i h all known = sym (known ∙ ap (λ more. take i text ++ stem more) (drop-end text i h) ∙ append-nil (take i text) ∙ all)

-- the name of a new variable
pub new-named : (text stem_part taken one digits two new : List ℕ) (n m : ℕ) → stem_part ≡ stem text → m ≡ min (length stem_part) 248 → taken ≡ take m stem_part → one ≡ taken ++ codes "$x" → digits ≡ decimal n → two ≡ one ++ digits → new ≡ two
    → new ≡ new_name text n
new-named text stem_part taken one digits two new n m a b c d e f g =
    let bound : m ≡ min 248 (length stem_part) = omega arith in
    let short : taken ≡ take 248 (stem text) = c ∙ ap (λ k. take k stem_part) bound ∙ take_min 248 stem_part ∙ ap (take 248) a in
    g ∙ f ∙ (λ j. d j ++ e j) ∙ (λ j. (short j ++ codes "$x") ++ decimal n) ∙ append_assoc (take 248 (stem text)) (codes "$x") (decimal n)
