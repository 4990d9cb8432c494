-- The letters of names.
use Rattle.std.proofs.Common.{◌≡◌, ◌≢◌, ℕ, ◌≤◌, Bool, true, false, ◌&&◌, ◌||◌, not, nat_eq, nat_le, List, [], ◌∷◌, length, refl, ap, arith}
use Rattle.std.specs.Prelude.{IsTrue, codes}
use Rattle.std.specs.List.{list_all}
use Rattle.std.specs.Str.{bytes_eq}
use Rattle.std.proofs.lemmas.Bool.{and_from, and_parts, or_from}
use Rattle.std.proofs.lemmas.Bool.Decides.{nat_tests}
use Rattle.std.proofs.lemmas.Slice.Eq.{bytes_eq-Decides}
use Rattle.hp_lexer.specs.Spelling.{IsWord, keyword_text}
use Rattle.hp_lexer.specs.Written.{IsWritable}
use Rattle.hp_lexer.specs.declared.token.Keyword.{Keyword}
use Rattle.hp_lexer.specs.declared.token.Keyword.TheVariants as key
use Rattle.hp_print.specs.Tokens.{small, capital}
use Rattle.hp_base.specs.Bytes.{is_small, is_capital, is_word_byte}
use Rattle.hp_obc.specs.Form.{is_name_byte, is_reserved, is_name, is_constructor}

-- ---- tests

pub at_most : (m n : ℕ) → m ≤ n → nat_le m n ≡ true
at_most m n h = grind (arith, nat_tests)

pub within : (m n : ℕ) → nat_le m n ≡ true → m ≤ n
within m n h = grind (arith, nat_tests)

pub differ : (x y : List ℕ) → (x ≡ y → ⊥) → bytes_eq x y ≡ false
differ x y h = by (bytes_eq x y) refl
  where
    by : (d : Bool) → bytes_eq x y ≡ d → d ≡ false
    by true e = absurd (h ((bytes_eq-Decides x y).0 e))
    by false e = refl

-- ---- names from their parts

pub not_reserved : (x : List ℕ) → (x ≡ codes "true" → ⊥) → (x ≡ codes "false" → ⊥) → (x ≡ codes "bool" → ⊥) → (x ≡ codes "int" → ⊥) → is_reserved x ≡ false
not_reserved x a b c d =
    let t = bytes_eq x (codes "true") in
    let f = bytes_eq x (codes "false") in
    let o = bytes_eq x (codes "bool") in
    or_from (t || f || o) (bytes_eq x (codes "int"))
    (or_from (t || f) o (or_from t f (differ x (codes "true") a) (differ x (codes "false") b)) (differ x (codes "bool") c)) (differ x (codes "int") d)

pub record IsNamed (b : ℕ) (x : List ℕ) : Type 0 where
  pub first : is_small b ≡ true
  pub others : list_all is_name_byte x ≡ true
  pub limited : length (b ∷ x) ≤ 270
  pub free : is_reserved (b ∷ x) ≡ false

pub name_from : (b : ℕ) (x : List ℕ) → IsNamed b x → IsTrue (is_name (b ∷ x))
name_from b x h =
    let s = is_small b in
    let l = list_all is_name_byte x in
    let n = nat_le (length (b ∷ x)) 270 in
    and_from (s && l && n) (not (is_reserved (b ∷ x))) (and_from (s && l) n (and_from s l h.first h.others) (at_most (length (b ∷ x)) 270 h.limited)) (ap not h.free)

not_true : (d : Bool) → not d ≡ true → d ≡ false
not_true true h = absurd (cc h)
not_true false h = refl

pub name_parts : (b : ℕ) (x : List ℕ) → IsTrue (is_name (b ∷ x)) → IsNamed b x
name_parts b x h =
    let s = is_small b in
    let l = list_all is_name_byte x in
    let n = nat_le (length (b ∷ x)) 270 in
    let p = and_parts (s && l && n) (not (is_reserved (b ∷ x))) h in
    let q = and_parts (s && l) n p.0 in
    let r = and_parts s l q.0 in
    record { first = r.0; others = r.1; limited = within (length (b ∷ x)) 270 q.1; free = not_true (is_reserved (b ∷ x)) p.1 }

-- ---- words of a text

word_byte : (b : ℕ) → is_word_byte b ≡ true → is_name_byte b ≡ true
word_byte b h = ap (λ (d : Bool). d || nat_eq b 36) h

word_bytes : (x : List ℕ) → list_all is_word_byte x ≡ true → list_all is_name_byte x ≡ true
word_bytes [] h = refl
word_bytes (b ∷ x) h = let p = and_parts (is_word_byte b) (list_all is_word_byte x) h in and_from (is_name_byte b) (list_all is_name_byte x) (word_byte b p.0) (word_bytes x p.1)

small_word : (x : List ℕ) → IsWord is_small x → ((k : Keyword) → x ≢ keyword_text k) → length x ≤ 255 → IsTrue (is_name x)
small_word [] h f l = absurd h
small_word (b ∷ x) h f l = name_from b x (record {
  first = h.0;
  others = word_bytes x h.1;
  limited = omega (arith, l);
  free = not_reserved (b ∷ x) (f key.True) (f key.False) (f key.Bool) (f key.Int);
})

pub small_named : (x : List ℕ) → IsWritable (small x) → IsTrue (is_name x)
small_named x w = small_word x w.spelled.0 w.spelled.1 w.limited

capital_word : (x : List ℕ) → IsWord is_capital x → length x ≤ 255 → IsTrue (is_constructor x)
capital_word [] h l = absurd h
capital_word (b ∷ x) h l =
    and_from (is_capital b && list_all is_word_byte x) (nat_le (length (b ∷ x)) 255) (and_from (is_capital b) (list_all is_word_byte x) h.0 h.1) (at_most (length (b ∷ x)) 255 l)

pub capital_named : (x : List ℕ) → IsWritable (capital x) → IsTrue (is_constructor x)
capital_named x w = capital_word x w.spelled w.limited
