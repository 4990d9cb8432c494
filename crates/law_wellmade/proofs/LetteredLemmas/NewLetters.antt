-- New names are names of machine texts.
use Rattle.std.proofs.Common.{◌≡◌, ℕ, zero, suc, ◌+◌, ◌/◌, ◌%◌, ◌^◌, ◌<◌, ◌≤◌, Bool, true, false, ◌&&◌, nat_eq, nat_le, nat_lt, min, if◌then◌else◌, List, [], ◌∷◌, ◌++◌, length, take, refl, sym, ap, subst, ◌∙◌, arith}
use Rattle.std.specs.Prelude.{codes, decimal}
use Rattle.std.specs.List.{list_all}
use Rattle.std.proofs.lemmas.Bool.{and_from, and_parts}
use Rattle.std.proofs.lemmas.Bool.Decides.{nat_tests}
use Rattle.std.proofs.lemmas.Fmt.{decimal_by_steps, length-decimal-le}
use Rattle.std.proofs.lemmas.List.{length-append, length-take}
use Rattle.std.proofs.lemmas.List.Folds.{list_all-append}
use Rattle.hp_base.specs.Bytes.{is_small}
use Rattle.hp_obc.specs.Form.{is_name_byte, is_reserved}
use Rattle.hp_expand.specs.NewNames as expand
use Rattle.hp_automata.specs.declared.new_names.Word.{Word}
use Rattle.hp_automata.specs.declared.new_names.Word.TheVariants.{Jump, Next, From, On, Strong, Weak}
use Rattle.hp_automata.specs.NewNames as automata
use Rattle.law_equations.specs.Made.Making as made
use Rattle.law_wellmade.proofs.SpelledLemmas.Letters.{name_from, name_parts, not_reserved}
use Rattle.law_wellmade.specs.Lettered.Names.{IsName}
use Rattle.law_wellmade.proofs.LetteredLemmas.ReplacedNames.{Renames}
use Rattle.law_wellmade.proofs.LetteredLemmas.LoweredNames.{Words}

-- ---- what names begin with, and what stands behind it

abbrev Starts : List ℕ → Type 0
Starts [] = ⊥
Starts (b ∷ x) = (is_small b ≡ true) × (list_all is_name_byte x ≡ true)

-- the beginning of a name, of at most so many bytes
record Shape (n : ℕ) (x : List ℕ) : Type 0 where
  starts : Starts x
  short : length x ≤ n

-- bytes of names
record Bytes (n : ℕ) (x : List ℕ) : Type 0 where
  letters : list_all is_name_byte x ≡ true
  short : length x ≤ n

-- not all bytes are small letters
abbrev IsOdd : List ℕ → Type 0
IsOdd x = list_all is_small x ≡ false

and_right : (a b : Bool) → b ≡ false → (a && b) ≡ false
and_right true b h = h
and_right false b h = refl

and_left : (a b : Bool) → a ≡ false → (a && b) ≡ false
and_left true b h = absurd (cc h)
and_left false b h = refl

odd_left : (x y : List ℕ) → list_all is_small x ≡ false → list_all is_small (x ++ y) ≡ false
odd_left x y h = list_all-append is_small x y ∙ and_left (list_all is_small x) (list_all is_small y) h

odd_right : (x y : List ℕ) → list_all is_small y ≡ false → list_all is_small (x ++ y) ≡ false
odd_right x y h = list_all-append is_small x y ∙ and_right (list_all is_small x) (list_all is_small y) h

all_both : (x y : List ℕ) → list_all is_name_byte x ≡ true → list_all is_name_byte y ≡ true → list_all is_name_byte (x ++ y) ≡ true
all_both x y h k = list_all-append is_name_byte x y ∙ and_from (list_all is_name_byte x) (list_all is_name_byte y) h k

starts_more : (x y : List ℕ) → Starts x → list_all is_name_byte y ≡ true → Starts (x ++ y)
starts_more [] y h k = absurd h
starts_more (b ∷ x) y h k = (h.0, all_both x y h.1 k)

more : (n m : ℕ) (x y : List ℕ) → Shape n x → Bytes m y → Shape (n + m) (x ++ y)
more n m x y h k =
    let long : length (x ++ y) ≡ length x + length y = length-append x y in
    let s : length x ≤ n = h.short in
    let t : length y ≤ m = k.short in
    record { starts = starts_more x y h.starts k.letters; short = omega (arith, long, s, t) }

-- words that are no names have small letters alone
odd_free : (x : List ℕ) → list_all is_small x ≡ false → is_reserved x ≡ false
odd_free x h = not_reserved x (by (codes "true") refl) (by (codes "false") refl) (by (codes "bool") refl) (by (codes "int") refl)
  where
    by : (w : List ℕ) → list_all is_small w ≡ true → x ≡ w → ⊥
    by w s e = let t : list_all is_small x ≡ true = ap (list_all is_small) e ∙ s in cc (h, t)

name_of : (n : ℕ) (x : List ℕ) → n ≤ 270 → Shape n x → list_all is_small x ≡ false → IsName x
name_of n [] l h o = absurd h.starts
name_of n (b ∷ x) l h o =
    let s : length (b ∷ x) ≤ n = h.short in
    name_from b x (record { first = h.starts.0; others = h.starts.1; limited = omega (arith, l, s); free = odd_free (b ∷ x) o })

starts_of : (x : List ℕ) → IsName x → Starts x
starts_of [] h = absurd (cc h)
starts_of (b ∷ x) h = let p = name_parts b x h in (p.first, p.others)

-- ---- parts of names

all_taken : (n : ℕ) (x : List ℕ) → list_all is_name_byte x ≡ true → list_all is_name_byte (take n x) ≡ true
all_taken zero x h = refl
all_taken (suc n) [] h = refl
all_taken (suc n) (b ∷ x) h = let p = and_parts (is_name_byte b) (list_all is_name_byte x) h in and_from (is_name_byte b) (list_all is_name_byte (take n x)) p.0 (all_taken n x p.1)

starts_taken : (n : ℕ) (x : List ℕ) → 0 < n → Starts x → Starts (take n x)
starts_taken zero x l h = absurd (omega (arith, l))
starts_taken (suc n) [] l h = absurd h
starts_taken (suc n) (b ∷ x) l h = (h.0, all_taken n x h.1)

taken : (n : ℕ) (x : List ℕ) → 0 < n → Starts x → Shape n (take n x)
taken n x l h = let t : length (take n x) ≡ min n (length x) = length-take n x in record { starts = starts_taken n x l h; short = omega (arith, t) }

not_sign : (b : ℕ) → is_small b ≡ true → nat_eq b 36 ≡ false
not_sign b h = let p = and_parts (nat_le 97 b) (nat_le b 122) h in let l : nat_le 97 b ≡ true = p.0 in grind (arith, nat_tests)

all_stem : (x : List ℕ) → list_all is_name_byte x ≡ true → list_all is_name_byte (made.stem x) ≡ true
all_stem [] h = refl
all_stem (b ∷ x) h = let p = and_parts (is_name_byte b) (list_all is_name_byte x) h in by (nat_eq b 36) p.0 (all_stem x p.1)
  where
    by : (sign : Bool) → is_name_byte b ≡ true → list_all is_name_byte (made.stem x) ≡ true → list_all is_name_byte (if sign then [] else b ∷ made.stem x) ≡ true
    by true p q = refl
    by false p q = and_from (is_name_byte b) (list_all is_name_byte (made.stem x)) p q

starts_stem : (x : List ℕ) → Starts x → Starts (made.stem x)
starts_stem [] h = absurd h
starts_stem (b ∷ x) h =
    let e : nat_eq b 36 ≡ false = not_sign b h.0 in
    subst (λ (d : Bool). Starts (if d then [] else b ∷ made.stem x)) (sym e) (h.0, all_stem x h.1)

same_stem : (x : List ℕ) → expand.stem x ≡ made.stem x
same_stem [] = refl
same_stem (b ∷ x) = ap (λ (z : List ℕ). if nat_eq b 36 then [] else b ∷ z) (same_stem x)

-- ---- numbers

abbrev IsDigits : ℕ → List ℕ → Type 0
IsDigits n ds = (list_all is_name_byte ds ≡ true) × (list_all is_small ds ≡ false)

digit_name : (n : ℕ) → n < 10 → is_name_byte (48 + n) ≡ true
digit_name n h = grind (arith, nat_tests)

digit_odd : (n : ℕ) → n < 10 → is_small (48 + n) ≡ false
digit_odd n h = grind (arith, nat_tests)

one_digit : (n : ℕ) → n < 10 → IsDigits n ((48 + n) ∷ [])
one_digit n h = (and_from (is_name_byte (48 + n)) true (digit_name n h) refl, and_left (is_small (48 + n)) true (digit_odd n h))

one_more : (n : ℕ) (ds : List ℕ) → 10 ≤ n → IsDigits (n / 10) ds → IsDigits n (ds ++ ((48 + n % 10) ∷ []))
one_more n ds h s =
    let last : n % 10 < 10 = omega arith in
    (all_both ds ((48 + n % 10) ∷ []) s.0 (one_digit (n % 10) last).0, odd_left ds ((48 + n % 10) ∷ []) s.1)

digits_named : (n : ℕ) → n < 2 ^ 64 → IsDigits n (decimal n)
digits_named n h = decimal_by_steps IsDigits one_digit one_more n h

low_digits : (k : ℕ) → Bytes 6 (decimal (min 999999 k))
low_digits k =
    let small : min 999999 k < 10 ^ 6 = omega arith in
    record { letters = (digits_named (min 999999 k) (omega (arith, small))).0; short = length-decimal-le 6 (min 999999 k) (omega arith) small (omega (arith, small)) }

low_odd : (k : ℕ) → list_all is_small (decimal (min 999999 k)) ≡ false
low_odd k = let small : min 999999 k < 10 ^ 6 = omega arith in (digits_named (min 999999 k) (omega (arith, small))).1

-- ---- names of replaced calls

-- the sign, and a number of six digits at most
behind_sign : (k : ℕ) → Bytes 7 (36 ∷ decimal (min 999999 k))
behind_sign k = let l = low_digits k in let s : length (decimal (min 999999 k)) ≤ 6 = l.short in record { letters = l.letters; short = omega (arith, s) }

marked_name : (k : ℕ) (x : List ℕ) → IsName x → IsName (expand.marked k x)
marked_name k x h =
    name_of 269 (expand.marked k x) (omega arith) (more 262 7 (take 262 x) (36 ∷ decimal (min 999999 k)) (taken 262 x (omega arith) (starts_of x h)) (behind_sign k))
    (odd_right (take 262 x) (36 ∷ decimal (min 999999 k)) refl)

numbered_name : (k : ℕ) (x : List ℕ) → IsName x → IsName (expand.numbered_name x k)
numbered_name k x h =
    let front = expand.stem x in
    let s : Starts front = subst Starts (sym (same_stem x)) (starts_stem x (starts_of x h)) in
    name_of 262 (expand.numbered_name x k) (omega arith) (more 255 7 (take 255 front) (36 ∷ decimal (min 999999 k)) (taken 255 front (omega arith) s) (behind_sign k))
    (odd_right (take 255 front) (36 ∷ decimal (min 999999 k)) refl)

pub renames : Renames IsName
renames = record { marks = marked_name; numbers = numbered_name }

-- ---- names of removed automata

letter_named : (n : ℕ) → n < 10 → is_name_byte (97 + n) ≡ true
letter_named n h = grind (arith, nat_tests)

letters_named : (d : ℕ) → Bytes 2 (automata.letters d)
letters_named d = by (nat_lt d 10) refl
  where
    tens : (d / 10) % 10 < 10
    tens = omega arith

    ones : d % 10 < 10
    ones = omega arith

    below : nat_lt d 10 ≡ true → d < 10
    below e = grind (arith, nat_tests)

    by : (b : Bool) → nat_lt d 10 ≡ b → Bytes 2 (if b then (97 + d) ∷ [] else (97 + (d / 10) % 10) ∷ (97 + d % 10) ∷ [])
    by true e = record { letters = and_from (is_name_byte (97 + d)) true (letter_named d (below e)) refl; short = omega arith }
    by false e = record {
      letters = and_from (is_name_byte (97 + (d / 10) % 10)) (is_name_byte (97 + d % 10) && true) (letter_named ((d / 10) % 10) tens)
          (and_from (is_name_byte (97 + d % 10)) true (letter_named (d % 10) ones) refl);
      short = omega arith;
    }

text_shape : (w : Word) → Shape 7 (automata.text w)
text_shape Jump = record { starts = (refl, refl); short = omega arith }
text_shape Next = record { starts = (refl, refl); short = omega arith }
text_shape From = record { starts = (refl, refl); short = omega arith }
text_shape On = record { starts = (refl, refl); short = omega arith }
text_shape Strong = record { starts = (refl, refl); short = omega arith }
text_shape Weak = record { starts = (refl, refl); short = omega arith }

text_odd : (w : Word) → list_all is_small (automata.text w) ≡ false
text_odd Jump = refl
text_odd Next = refl
text_odd From = refl
text_odd On = refl
text_odd Strong = refl
text_odd Weak = refl

word_shape : (w : Word) (d : ℕ) → Shape 9 (automata.word_name w d)
word_shape w d = more 7 2 (automata.text w) (automata.letters d) (text_shape w) (letters_named d)

word_odd : (w : Word) (d : ℕ) → list_all is_small (automata.word_name w d) ≡ false
word_odd w d = odd_left (automata.text w) (automata.letters d) (text_odd w)

numbered_shape : (n : ℕ) (x : List ℕ) (k : ℕ) → Shape n x → Shape (n + 1 + 6) (automata.numbered x k)
numbered_shape n x k h = more (n + 1) 6 (x ++ 95 ∷ []) (automata.digits k) (more n 1 x (95 ∷ []) h (record { letters = refl; short = omega arith })) (low_digits k)

numbered_odd : (x : List ℕ) (k : ℕ) → list_all is_small (automata.numbered x k) ≡ false
numbered_odd x k = odd_right (x ++ 95 ∷ []) (automata.digits k) (low_odd k)

signed_shape : (x : List ℕ) → IsName x → Shape 262 (automata.signed x)
signed_shape x h = by (automata.is_new x)
  where
    by : (b : Bool) → Shape 262 (if b then take 262 x else take 261 x ++ 36 ∷ [])
    by true = taken 262 x (omega arith) (starts_of x h)
    by false = more 261 1 (take 261 x) (36 ∷ []) (taken 261 x (omega arith) (starts_of x h)) (record { letters = refl; short = omega arith })

value_named : (d k : ℕ) (x : List ℕ) → IsName x → IsName (automata.value_name d k x)
value_named d k x h =
    name_of 270 (automata.value_name d k x) (omega arith)
    (more 264 6 (automata.signed x ++ automata.letters d) (automata.digits k) (more 262 2 (automata.signed x) (automata.letters d) (signed_shape x h) (letters_named d)) (low_digits k))
    (odd_right (automata.signed x ++ automata.letters d) (automata.digits k) (low_odd k))

pub words : Words IsName
words = record {
  words = λ w d. name_of 9 (automata.word_name w d) (omega arith) (word_shape w d) (word_odd w d);
  states = λ w d k. name_of 16 (automata.state_word w d k) (omega arith) (numbered_shape 9 (automata.word_name w d) k (word_shape w d)) (numbered_odd (automata.word_name w d) k);
  transitions = λ w d k j.
      name_of 23 (automata.transition_word w d k j) (omega arith) (numbered_shape 16 (automata.state_word w d k) j (numbered_shape 9 (automata.word_name w d) k (word_shape w d)))
      (numbered_odd (automata.state_word w d k) j);
  values = value_named;
}

-- ---- names of new variables

pub new_named : (x : List ℕ) (n : ℕ) → n < 2 ^ 64 → IsName x → IsName (made.new_name x n)
new_named x n l h =
    let front = made.stem x in
    let s : length (decimal n) ≤ 20 = length-decimal-le 20 n (omega arith) (omega (arith, l)) l in
    let rest : Bytes 22 (codes "$x" ++ decimal n) = record { letters = (digits_named n l).0; short = omega (arith, s) } in
    name_of 270 (made.new_name x n) (omega arith) (more 248 22 (take 248 front) (codes "$x" ++ decimal n) (taken 248 front (omega arith) (starts_stem x (starts_of x h))) rest)
    (odd_right (take 248 front) (codes "$x" ++ decimal n) refl)
