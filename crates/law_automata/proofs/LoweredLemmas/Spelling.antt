-- The names that the removal of automata makes are apart, and none is a name of a program.
use Rattle.std.proofs.Common.{◌≡◌, ℕ, ◌+◌, ◌/◌, ◌%◌, ◌<◌, ◌≤◌, ◌^◌, min, nat_eq, nat_lt, length, take, Bool, true, false, ◌&&◌, if◌then◌else◌, List, [], ◌∷◌, ◌++◌, refl, sym, ap, ◌∙◌, arith}
use Rattle.std.specs.Prelude.{⊤, decimal}
use Rattle.std.specs.Str.Parse.{AllDigits}
use Rattle.std.proofs.lemmas.Str.Parse.{digit_at}
use Rattle.std.proofs.lemmas.List.{append_assoc, append-nil, take_all}
use Rattle.std.proofs.lemmas.Fmt.{decimal_injective, decimal_is_IsNumeral}
use Rattle.std.proofs.lemmas.Bool.Decides.{nat_tests}
use Rattle.hp_automata.specs.declared.new_names.Word.{Word}
use Rattle.hp_automata.specs.declared.new_names.Word.TheVariants.{Jump, Next, From, On, Strong, Weak}
use Rattle.hp_automata.specs.NewNames.{dollar, is_new, text, letters, digits, word_name, state_word, transition_word, value_name}
use Rattle.law_automata.specs.Lowered.OldNames.{behind_sign, is_digit, all_digits, some_digits, IsOld}
use Rattle.law_automata.specs.Lowered.Removable.{most, deepest}

-- the new names of an automaton: a word, one of a state or of a transition, and the value of a name in a state
pub data New : Type 0 where
  word : Word → New
  of_state : Word → ℕ → New
  of_transition : Word → ℕ → ℕ → New
  value : ℕ → List ℕ → New

-- with so many automata around
abbrev pub spell : ℕ → New → List ℕ
spell d (word w) = word_name w d
spell d (of_state w k) = state_word w d k
spell d (of_transition w k j) = transition_word w d k j
spell d (value k x) = value_name d k x

abbrev pub HasRoom : New → Type 0
HasRoom (word w) = ⊤
HasRoom (of_state w k) = k < most
HasRoom (of_transition w k j) = (k < most) × (j < most)
HasRoom (value k x) = (k < most) × IsOld x

-- ---- parts of a name

abbrev pub stem : List ℕ → List ℕ
stem [] = []
stem (b ∷ bs) = if nat_eq b dollar then [] else b ∷ stem bs

abbrev pub lead_digits : List ℕ → List ℕ
lead_digits [] = []
lead_digits (b ∷ bs) = if is_digit b then b ∷ lead_digits bs else []

abbrev pub after_digits : List ℕ → List ℕ
after_digits [] = []
after_digits (b ∷ bs) = if is_digit b then after_digits bs else b ∷ bs

abbrev pub lead_letters : List ℕ → List ℕ
lead_letters [] = []
lead_letters (b ∷ bs) = if nat_lt b 97 then [] else b ∷ lead_letters bs

abbrev pub after_letters : List ℕ → List ℕ
after_letters [] = []
after_letters (b ∷ bs) = if nat_lt b 97 then b ∷ bs else after_letters bs

-- what stands in them
abbrev pub stem_of : New → List ℕ
stem_of (word w) = stem (text w)
stem_of (of_state w k) = stem (text w)
stem_of (of_transition w k j) = stem (text w)
stem_of (value k x) = stem x

abbrev pub lead_of : New → List ℕ
lead_of (word w) = []
lead_of (of_state w k) = []
lead_of (of_transition w k j) = []
lead_of (value k x) = behind_sign x

abbrev pub tail_of : New → List ℕ
tail_of (word w) = []
tail_of (of_state w k) = 95 ∷ digits k
tail_of (of_transition w k j) = 95 ∷ (digits k ++ 95 ∷ digits j)
tail_of (value k x) = digits k

-- ---- names with and without a sign

new_by : (b : ℕ) (bs y : List ℕ) (t : Bool) → (if t then true else is_new bs) ≡ true → (is_new bs ≡ true → (behind_sign (bs ++ y) ≡ behind_sign bs ++ y) × (stem (bs ++ y) ≡ stem bs))
    → ((if t then bs ++ y else behind_sign (bs ++ y)) ≡ (if t then bs else behind_sign bs) ++ y) × ((if t then [] else b ∷ stem (bs ++ y)) ≡ (if t then [] else b ∷ stem bs))
new_by b bs y true h r = (refl, refl)
new_by b bs y false h r = ((r h).0, ap (λ s. b ∷ s) (r h).1)

pub with_sign : (x y : List ℕ) → is_new x ≡ true → (behind_sign (x ++ y) ≡ behind_sign x ++ y) × (stem (x ++ y) ≡ stem x)
with_sign [] y h = absurd cc
with_sign (b ∷ bs) y h = new_by b bs y (nat_eq b dollar) h (with_sign bs y)

old_by : (b : ℕ) (bs y : List ℕ) (t : Bool) → (if t then true else is_new bs) ≡ false
    → (is_new bs ≡ false → (behind_sign (bs ++ 36 ∷ y) ≡ y) × (stem (bs ++ 36 ∷ y) ≡ bs) × (behind_sign bs ≡ []) × (stem bs ≡ bs))
    → ((if t then bs ++ 36 ∷ y else behind_sign (bs ++ 36 ∷ y)) ≡ y) × ((if t then [] else b ∷ stem (bs ++ 36 ∷ y)) ≡ b ∷ bs) × ((if t then bs else behind_sign bs) ≡ []) × ((if t then [] else b ∷ stem bs) ≡ b ∷ bs)
old_by b bs y true h r = absurd cc
old_by b bs y false h r = ((r h).0, ap (λ s. b ∷ s) (r h).1, (r h).2, ap (λ s. b ∷ s) (r h).3)

pub without_sign : (x y : List ℕ) → is_new x ≡ false → (behind_sign (x ++ 36 ∷ y) ≡ y) × (stem (x ++ 36 ∷ y) ≡ x) × (behind_sign x ≡ []) × (stem x ≡ x)
without_sign [] y h = (refl, refl, refl, refl)
without_sign (b ∷ bs) y h = old_by b bs y (nat_eq b dollar) h (without_sign bs y)

-- ---- digits and letters one after the other

digits_by : (b : ℕ) (us vs : List ℕ) (t : Bool) → (t && all_digits us) ≡ true → (all_digits us ≡ true → (lead_digits (us ++ vs) ≡ us) × (after_digits (us ++ vs) ≡ vs))
    → ((if t then b ∷ lead_digits (us ++ vs) else []) ≡ b ∷ us) × ((if t then after_digits (us ++ vs) else b ∷ (us ++ vs)) ≡ vs)
digits_by b us vs true h r = (ap (λ ds. b ∷ ds) (r h).0, (r h).1)
digits_by b us vs false h r = absurd cc

-- a list that does not begin with a digit, or with a letter
abbrev pub NoDigit : List ℕ → Type 0
NoDigit vs = (lead_digits vs ≡ []) × (after_digits vs ≡ vs)

abbrev NoLetter : List ℕ → Type 0
NoLetter vs = (lead_letters vs ≡ []) × (after_letters vs ≡ vs)

pub split_digits : (us vs : List ℕ) → all_digits us ≡ true → NoDigit vs → (lead_digits (us ++ vs) ≡ us) × (after_digits (us ++ vs) ≡ vs)
split_digits [] vs h n = n
split_digits (b ∷ us) vs h n = digits_by b us vs (is_digit b) h (λ g. split_digits us vs g n)

small_not : (b : ℕ) → 97 ≤ b → nat_lt b 97 ≡ false
small_not b h = grind (arith, nat_tests)

digit_not : (b : ℕ) → 97 ≤ b → is_digit b ≡ false
digit_not b h = grind (arith, nat_tests)

one_letter : (b : ℕ) (vs : List ℕ) → 97 ≤ b → (lead_letters (b ∷ vs) ≡ b ∷ lead_letters vs) × (after_letters (b ∷ vs) ≡ after_letters vs)
one_letter b vs h = (ap (λ t. if t then [] else b ∷ lead_letters vs) (small_not b h), ap (λ t. if t then b ∷ vs else after_letters vs) (small_not b h))

no_digit_first : (b : ℕ) (vs : List ℕ) → 97 ≤ b → NoDigit (b ∷ vs)
no_digit_first b vs h = (ap (λ t. if t then b ∷ lead_digits vs else []) (digit_not b h), ap (λ t. if t then after_digits vs else b ∷ vs) (digit_not b h))

letters_by : (d : ℕ) (t : Bool) (vs : List ℕ) → NoLetter vs
    → (lead_letters ((if t then (97 + d) ∷ [] else (97 + (d / 10) % 10) ∷ (97 + d % 10) ∷ []) ++ vs) ≡ (if t then (97 + d) ∷ [] else (97 + (d / 10) % 10) ∷ (97 + d % 10) ∷ []))
    × (after_letters ((if t then (97 + d) ∷ [] else (97 + (d / 10) % 10) ∷ (97 + d % 10) ∷ []) ++ vs) ≡ vs)
    × NoDigit ((if t then (97 + d) ∷ [] else (97 + (d / 10) % 10) ∷ (97 + d % 10) ∷ []) ++ vs)
letters_by d true vs n =
    let o = one_letter (97 + d) vs (omega arith) in
    (o.0 ∙ ap (λ l. (97 + d) ∷ l) n.0, o.1 ∙ n.1, no_digit_first (97 + d) vs (omega arith))
letters_by d false vs n =
    let b : ℕ = 97 + (d / 10) % 10 in
    let c : ℕ = 97 + d % 10 in
    let o = one_letter b (c ∷ vs) (omega arith) in
    let p = one_letter c vs (omega arith) in
    (o.0 ∙ ap (λ l. b ∷ l) (p.0 ∙ ap (λ l. c ∷ l) n.0), o.1 ∙ (p.1 ∙ n.1), no_digit_first b (c ∷ vs) (omega arith))

split_letters : (d : ℕ) (vs : List ℕ) → NoLetter vs → (lead_letters (letters d ++ vs) ≡ letters d) × (after_letters (letters d ++ vs) ≡ vs) × NoDigit (letters d ++ vs)
split_letters d vs n = letters_by d (nat_lt d 10) vs n

-- ---- numbers

capped : (k : ℕ) → k < most → min 999999 k ≡ k
capped k h = omega arith

pub digits_told : (k j : ℕ) → k < most → j < most → digits k ≡ digits j → k ≡ j
digits_told k j h g e = decimal_injective k j (omega arith) (omega arith) (sym (ap decimal (capped k h)) ∙ e ∙ ap decimal (capped j g))

abbrev pub first_byte : List ℕ → ℕ
first_byte [] = 0
first_byte (b ∷ bs) = b

abbrev pub second_byte : List ℕ → ℕ
second_byte [] = 0
second_byte (b ∷ bs) = first_byte bs

-- letters tell how many automata are around
two_told : (d e : ℕ) (t u : Bool) → d < deepest → e < deepest
    → (if t then (97 + d) ∷ [] else (97 + (d / 10) % 10) ∷ (97 + d % 10) ∷ []) ≡ (if u then (97 + e) ∷ [] else (97 + (e / 10) % 10) ∷ (97 + e % 10) ∷ []) → d ≡ e
two_told d e true true hd he p = let q : 97 + d ≡ 97 + e = ap first_byte p in omega arith
two_told d e true false hd he p = let q : 0 ≡ 97 + e % 10 = ap second_byte p in absurd (omega arith)
two_told d e false true hd he p = let q : 97 + d % 10 ≡ 0 = ap second_byte p in absurd (omega arith)
two_told d e false false hd he p =
    let q : 97 + (d / 10) % 10 ≡ 97 + (e / 10) % 10 = ap first_byte p in
    let r : 97 + d % 10 ≡ 97 + e % 10 = ap second_byte p in omega arith

pub letters_told : (d e : ℕ) → d < deepest → e < deepest → letters d ≡ letters e → d ≡ e
letters_told d e hd he p = two_told d e (nat_lt d 10) (nat_lt e 10) hd he p

-- digits
all_by : (b : ℕ) (bs : List ℕ) (t : Bool) → t ≡ true → all_digits bs ≡ true → (t && all_digits bs) ≡ true
all_by b bs true h g = g
all_by b bs false h g = absurd cc

is_digit_in : (b : ℕ) → (48 ≤ b) × (b ≤ 57) → is_digit b ≡ true
is_digit_in b h = let p = h.0 in let q = h.1 in grind (arith, nat_tests)

all_from : (bs : List ℕ) → AllDigits 10 bs → all_digits bs ≡ true
all_from [] h = refl
all_from (b ∷ bs) h = all_by b bs (is_digit b) (is_digit_in b (digit_at (b ∷ bs) 0 h (omega arith))) (all_from bs h.1)

-- the digits of a number: some, and nothing else
some_by : (bs : List ℕ) → 0 < length bs → all_digits bs ≡ true → some_digits bs ≡ true
some_by [] h g = absurd (omega arith)
some_by (b ∷ bs) h g = g

decimal_digits : (n : ℕ) → n < 2 ^ 64 → some_digits (decimal n) ≡ true
decimal_digits n h = let k = (decimal_is_IsNumeral n h).0 in some_by (decimal n) k.0 (all_from (decimal n) k.1)

pub number_digits : (k : ℕ) → some_digits (digits k) ≡ true
number_digits k = decimal_digits (min 999999 k) (omega arith)

-- ---- each new name, in its parts

stem_word : (w : Word) (y : List ℕ) → (behind_sign (text w ++ y) ≡ y) × (stem (text w ++ y) ≡ stem (text w))
stem_word Jump y = (refl, refl)
stem_word Next y = (refl, refl)
stem_word From y = (refl, refl)
stem_word On y = (refl, refl)
stem_word Strong y = (refl, refl)
stem_word Weak y = (refl, refl)

state_split : (a l e : List ℕ) → ((a ++ l) ++ 95 ∷ []) ++ e ≡ a ++ (l ++ 95 ∷ e)
state_split a l e = append_assoc (a ++ l) (95 ∷ []) e ∙ append_assoc a l (95 ∷ e)

module _ (d : ℕ) where
  -- a new name in its parts
  abbrev InParts : New → Type 0
  InParts a = (behind_sign (spell d a) ≡ lead_of a ++ (letters d ++ tail_of a)) × (stem (spell d a) ≡ stem_of a)

  value_by : (k : ℕ) (x : List ℕ) (t : Bool) → is_new x ≡ t → length x ≤ (if t then 262 else 261)
      → (behind_sign (((if t then take 262 x else take 261 x ++ dollar ∷ []) ++ letters d) ++ digits k) ≡ behind_sign x ++ (letters d ++ digits k)) × (stem (((if t then take 262 x else take 261 x ++ dollar ∷ []) ++ letters d) ++ digits k) ≡ stem x)
  value_by k x true h g =
      let same : (take 262 x ++ letters d) ++ digits k ≡ x ++ (letters d ++ digits k) = append_assoc (take 262 x) (letters d) (digits k) ∙ ap (λ y. y ++ (letters d ++ digits k)) (take_all 262 x g) in
      let w = with_sign x (letters d ++ digits k) h in
      (ap behind_sign same ∙ w.0, ap stem same ∙ w.1)
  value_by k x false h g =
      let rest : List ℕ = letters d ++ digits k in
      let same : ((take 261 x ++ 36 ∷ []) ++ letters d) ++ digits k ≡ x ++ 36 ∷ rest =
      append_assoc (take 261 x ++ 36 ∷ []) (letters d) (digits k) ∙ append_assoc (take 261 x) (36 ∷ []) rest ∙ ap (λ y. y ++ 36 ∷ rest) (take_all 261 x g) in
      let w = without_sign x rest h in
      (ap behind_sign same ∙ w.0 ∙ ap (λ y. y ++ rest) (sym w.2), ap stem same ∙ (w.1 ∙ sym w.3))

  in_parts : (a : New) → HasRoom a → InParts a
  in_parts (word w) h =
      let s = stem_word w (letters d) in (s.0 ∙ sym (append-nil (letters d)), s.1)
  in_parts (of_state w k) h =
      let same = state_split (text w) (letters d) (digits k) in
      let s = stem_word w (letters d ++ 95 ∷ digits k) in (ap behind_sign same ∙ s.0, ap stem same ∙ s.1)
  in_parts (of_transition w k j) h =
      let same : spell d (of_transition w k j) ≡ text w ++ (letters d ++ 95 ∷ (digits k ++ 95 ∷ digits j)) =
      append_assoc (state_word w d k) (95 ∷ []) (digits j) ∙ ap (λ y. y ++ 95 ∷ digits j) (state_split (text w) (letters d) (digits k))
      ∙ append_assoc (text w) (letters d ++ 95 ∷ digits k) (95 ∷ digits j) ∙ ap (λ y. text w ++ y) (append_assoc (letters d) (95 ∷ digits k) (95 ∷ digits j)) in
      let s = stem_word w (letters d ++ 95 ∷ (digits k ++ 95 ∷ digits j)) in (ap behind_sign same ∙ s.0, ap stem same ∙ s.1)
  in_parts (value k x) h = value_by k x (is_new x) refl h.1.short

-- what may follow letters
no_letter_first : (b : ℕ) (vs : List ℕ) → b < 97 → NoLetter (b ∷ vs)
no_letter_first b vs h =
    let small : nat_lt b 97 ≡ true = grind (arith, nat_tests) in
    (ap (λ t. if t then [] else b ∷ lead_letters vs) small, ap (λ t. if t then b ∷ vs else after_letters vs) small)

digit_first : (b : ℕ) (bs : List ℕ) (t : Bool) → is_digit b ≡ t → (t && all_digits bs) ≡ true → NoLetter (b ∷ bs)
digit_first b bs true e h = no_letter_first b bs (grind (arith, nat_tests))
digit_first b bs false e h = absurd cc

digits_no_letter : (bs : List ℕ) → some_digits bs ≡ true → NoLetter bs
digits_no_letter [] h = absurd cc
digits_no_letter (b ∷ bs) h = digit_first b bs (is_digit b) refl h

tail_no_letter : (a : New) → NoLetter (tail_of a)
tail_no_letter (word w) = (refl, refl)
tail_no_letter (of_state w k) = (refl, refl)
tail_no_letter (of_transition w k j) = (refl, refl)
tail_no_letter (value k x) = digits_no_letter (digits k) (number_digits k)

pub all_of_some : (bs : List ℕ) → some_digits bs ≡ true → all_digits bs ≡ true
all_of_some [] h = absurd cc
all_of_some (b ∷ bs) h = h

behind_old_by : (x : List ℕ) (t : Bool) → is_new x ≡ t → (t ≡ true → some_digits (behind_sign x) ≡ true) → all_digits (behind_sign x) ≡ true
behind_old_by x true e h = all_of_some (behind_sign x) (h refl)
behind_old_by x false e h = ap all_digits (without_sign x [] e).2

pub behind_old : (x : List ℕ) → IsOld x → all_digits (behind_sign x) ≡ true
behind_old x o = behind_old_by x (is_new x) refl o.digits

lead_digits_of : (a : New) → HasRoom a → all_digits (lead_of a) ≡ true
lead_digits_of (word w) h = refl
lead_digits_of (of_state w k) h = refl
lead_digits_of (of_transition w k j) h = refl
lead_digits_of (value k x) h = behind_old x h.1

-- so each part is told from the name
pub record Parts (d : ℕ) (a : New) : Type 0 where
  pub stem : stem (spell d a) ≡ stem_of a
  pub lead : lead_digits (behind_sign (spell d a)) ≡ lead_of a
  pub letters : lead_letters (after_digits (behind_sign (spell d a))) ≡ letters d
  pub tail : after_letters (after_digits (behind_sign (spell d a))) ≡ tail_of a

pub parts_of : (d : ℕ) (a : New) → HasRoom a → Parts d a
parts_of d a h =
    let p = in_parts d a h in
    let l = split_letters d (tail_of a) (tail_no_letter a) in
    let s = split_digits (lead_of a) (letters d ++ tail_of a) (lead_digits_of a h) l.2 in
    record { stem = p.1; lead = ap lead_digits p.0 ∙ s.0; letters = ap lead_letters (ap after_digits p.0 ∙ s.1) ∙ l.0; tail = ap after_letters (ap after_digits p.0 ∙ s.1) ∙ l.1 }
