-- Which new name a name is.
use Rattle.std.proofs.Common.{◌≡◌, ℕ, ◌<◌, min, nat_eq, Bool, true, false, if◌then◌else◌, List, [], ◌∷◌, ◌++◌, inl, inr, refl, sym, ap, ap₂, ◌∙◌, arith}
use Rattle.std.specs.Prelude.{⊤, ◌⊎◌, decimal}
use Rattle.std.specs.Str.{bytes_eq}
use Rattle.std.specs.Str.Parse.{digits_value}
use Rattle.std.proofs.lemmas.Fmt.{decimal_is_IsNumeral}
use Rattle.std.proofs.lemmas.List.{append-nil}
use Rattle.hp_automata.specs.NewNames.{is_new, digits, letters}
use Rattle.law_automata.specs.Lowered.OldNames.{IsOld, behind_sign, is_digit, all_digits, some_digits}
use Rattle.law_automata.specs.Lowered.Removable.{Known, most, deepest}
use Rattle.law_automata.proofs.LoweredLemmas.Spelling.{New, word, of_state, of_transition, value, spell, HasRoom, stem, stem_of, lead_digits, after_digits, lead_letters, after_letters, lead_of, tail_of, without_sign, split_digits, number_digits, all_of_some, behind_old, letters_told, parts_of}
use Rattle.law_automata.proofs.LoweredLemmas.Apart.{word_of, word_stem, rebuilt, number_kind_by, mark_behind, letters_some, bytes_differ}
use Rattle.law_automata.proofs.LoweredLemmas.Renaming.{Renames, FurtherOut}

pub number_of_digits : List ℕ → ℕ
number_of_digits bs = digits_value 10 bs

number_back : (k : ℕ) → k < most → number_of_digits (digits k) ≡ k
unfolding number_of_digits
number_back k h =
    let capped : min 999999 k ≡ k = omega arith in (decimal_is_IsNumeral (min 999999 k) (omega arith)).1 ∙ capped

-- ---- the parts of a name, put together

abbrev rest_of : List ℕ → List ℕ
rest_of [] = []
rest_of (b ∷ bs) = bs

abbrev name_of : List ℕ → List ℕ → List ℕ
name_of s [] = s
name_of s (b ∷ bs) = s ++ 36 ∷ (b ∷ bs)

abbrev decode_tail : List ℕ → List ℕ → List ℕ → New
decode_tail s lead [] = word (word_of s)
decode_tail s lead (b ∷ bs) =
    if nat_eq b 95
    then (if all_digits bs then of_state (word_of s) (number_of_digits bs) else of_transition (word_of s) (number_of_digits (lead_digits bs)) (number_of_digits (rest_of (after_digits bs))))
    else value (number_of_digits (b ∷ bs)) (name_of s lead)

-- which new name it is, and the letters in it
abbrev pub decode : List ℕ → New
decode y = decode_tail (stem y) (lead_digits (behind_sign y)) (after_letters (after_digits (behind_sign y)))

abbrev pub letters_in : List ℕ → List ℕ
letters_in y = lead_letters (after_digits (behind_sign y))

name_by : (x : List ℕ) (t : Bool) → is_new x ≡ t → (t ≡ true → some_digits (behind_sign x) ≡ true) → name_of (stem x) (behind_sign x) ≡ x
name_by x true h o = some_by (behind_sign x) (o refl) ∙ sym (rebuilt x h)
  where
    some_by : (lead : List ℕ) → some_digits lead ≡ true → name_of (stem x) lead ≡ stem x ++ 36 ∷ lead
    some_by [] q = absurd cc
    some_by (b ∷ bs) q = refl
name_by x false h o = ap (name_of (stem x)) (without_sign x [] h).2 ∙ (without_sign x [] h).3

name_back : (x : List ℕ) → IsOld x → name_of (stem x) (behind_sign x) ≡ x
name_back x o = name_by x (is_new x) refl o.digits

value_tail : (s lead bs : List ℕ) → some_digits bs ≡ true → decode_tail s lead bs ≡ value (number_of_digits bs) (name_of s lead)
value_tail s lead [] h = absurd cc
value_tail s lead (b ∷ bs) h =
    ap (λ t. if t then (if all_digits bs then of_state (word_of s) (number_of_digits bs) else of_transition (word_of s) (number_of_digits (lead_digits bs)) (number_of_digits (rest_of (after_digits bs)))) else value (number_of_digits (b ∷ bs)) (name_of s lead))
    (number_kind_by b bs (is_digit b) refl h)

decode_of : (a : New) → HasRoom a → decode_tail (stem_of a) (lead_of a) (tail_of a) ≡ a
decode_of (word w) h = ap word (word_stem w)
decode_of (of_state w k) h =
    ap (λ t. if t then of_state (word_of (stem_of (of_state w k))) (number_of_digits (digits k)) else of_transition (word_of (stem_of (of_state w k))) (number_of_digits (lead_digits (digits k))) (number_of_digits (rest_of (after_digits (digits k)))))
    (all_of_some (digits k) (number_digits k))
    ∙ ap₂ of_state (word_stem w) (number_back k h)
decode_of (of_transition w k j) h =
    let p = split_digits (digits k) (95 ∷ digits j) (all_of_some (digits k) (number_digits k)) (refl, refl) in
    let bs : List ℕ = digits k ++ 95 ∷ digits j in
    ap (λ t. if t then of_state (word_of (stem_of (of_transition w k j))) (number_of_digits bs) else of_transition (word_of (stem_of (of_transition w k j))) (number_of_digits (lead_digits bs)) (number_of_digits (rest_of (after_digits bs))))
    (mark_behind (digits k) (digits j))
    ∙ (λ i. of_transition (word_stem w i) (number_of_digits (p.0 i)) (number_of_digits (rest_of (p.1 i))))
    ∙ ap₂ (of_transition w) (number_back k h.0) (number_back j h.1)
decode_of (value k x) h = value_tail (stem x) (behind_sign x) (digits k) (number_digits k) ∙ ap₂ value (number_back k h.0) (name_back x h.1)

pub decode_spell : (d : ℕ) (a : New) → HasRoom a → decode (spell d a) ≡ a
decode_spell d a h = let p = parts_of d a h in (λ i. decode_tail (p.stem i) (p.lead i) (p.tail i)) ∙ decode_of a h

pub letters_spell : (d : ℕ) (a : New) → HasRoom a → letters_in (spell d a) ≡ letters d
letters_spell d a h = (parts_of d a h).letters

-- a name that stands for one of a program has no letters of an automaton that is further in
old_letters : (x : List ℕ) → IsOld x → letters_in x ≡ []
old_letters x o =
    let bs : List ℕ = behind_sign x in
    ap lead_letters (ap after_digits (sym (append-nil bs)) ∙ (split_digits bs [] (behind_old x o) (refl, refl)).1)

pub to_letters : {outer : Known} {d : ℕ} {to : List ℕ → List ℕ} → Renames outer d to → d < deepest → (x : List ℕ) → IsOld x → bytes_eq (letters_in (to x)) (letters d) ≡ false
to_letters {outer} {d} {to} r deep x o = bytes_differ (letters_in (to x)) (letters d) (λ e. by (r.range x o) e)
  where
    by : (to x ≡ x) ⊎ FurtherOut d x (to x) → letters_in (to x) ≡ letters d → ⊥
    by (inl k) e = letters_some d (Rattle.std.specs.Prelude.nat_lt d 10) (sym e ∙ ap letters_in k ∙ old_letters x o)
    by (inr f) e =
        let out = f.out in
        let same : f.depth ≡ d = letters_told f.depth d (omega (arith, out, deep)) deep (sym (letters_spell f.depth (value f.state x) (f.room, o)) ∙ ap letters_in (sym f.is) ∙ e) in
        omega (arith, out, same)
