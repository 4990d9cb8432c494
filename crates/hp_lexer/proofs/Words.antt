-- The token that a text begins with.
use Rattle.std.proofs.Common.{◌≡◌, ◌≢◌, ◌≤◌, ℕ, suc, Bool, true, false, not, cond, List, [], ◌∷◌, ◌++◌, length, drop, Option, None, Some, refl, sym, ap, ◌∙◌, subst, arith}
use Rattle.std.specs.Prelude.{option_map, take_while}
use Rattle.std.specs.List.{list_all, prefix_len}
use Rattle.std.proofs.lemmas.Bool.{and_parts, and_from, both_ways}
use Rattle.std.proofs.lemmas.Bool.Decides.{nat_tests}
use Rattle.std.proofs.lemmas.List.{take-append-drop}
use Rattle.std.proofs.lemmas.List.Folds.{length-prefix_len}
use Rattle.std.proofs.lemmas.List.Sums.{take_while-cons}
use Rattle.hp_base.specs.Bytes.{is_small, is_capital, is_digit, is_word_byte, is_blank}
use Rattle.hp_lexer.specs.Bytes.{begins_blank}
use Rattle.hp_lexer.specs.Spelling.{Spells, IsWord, IsNumeral, keyword_text, sign_text}
use Rattle.hp_lexer.specs.Reading.{keyword_of, word_kind, token_in, sign_in}
use Rattle.hp_lexer.specs.declared.token.Keyword.{Keyword}
use Rattle.hp_lexer.specs.declared.token.Sign.{Sign}
use Rattle.hp_lexer.specs.declared.token.Sign.TheVariants.{Open, Close, Comma, Semicolon, Colon, Equal, Unequal, Less, AtMost, Greater, AtLeast, Plus, Minus, Star, Slash, Percent, And, AndAnd, Bar, BarBar, Arrow, Implies}
use Rattle.hp_lexer.specs.declared.token.TokenKind.{TokenKind}
use Rattle.hp_lexer.specs.declared.token.TokenKind.TheVariants.{Small, Capital, Number, Keyword as KeywordKind, Sign as SignKind}
use Rattle.hp_lexer.proofs.Keywords.{begins_small, keyword_found, keyword_missed, keyword_word, one_keyword}
use Rattle.hp_lexer.proofs.Pairs.{same_parts}
use Rattle.hp_lexer.proofs.Places.{is_plain}
use Rattle.hp_lexer.proofs.Signs.{IsSignAt, one_sign, sign_found, sign_missed}

-- ---- bytes

pub digit_in_word : (b : ℕ) → is_digit b ≡ true → is_word_byte b ≡ true
digit_in_word b h = grind (arith, nat_tests)

pub small_in_word : (b : ℕ) → is_small b ≡ true → is_word_byte b ≡ true
small_in_word b h = grind (arith, nat_tests)

pub capital_in_word : (b : ℕ) → is_capital b ≡ true → is_word_byte b ≡ true
capital_in_word b h = grind (arith, nat_tests)

word_is_plain : (b : ℕ) → is_word_byte b ≡ true → is_plain b ≡ true
word_is_plain b h = grind (arith, nat_tests)

pub all_by : (p q : ℕ → Bool) → ((b : ℕ) → p b ≡ true → q b ≡ true) → (w : List ℕ) → list_all p w ≡ true → list_all q w ≡ true
all_by p q f [] h = refl
all_by p q f (b ∷ w) h = let parts = and_parts (p b) (list_all p w) h in and_from (q b) (list_all q w) (f b parts.0) (all_by p q f w parts.1)

-- ---- what the first byte says of the kind

abbrev pub is_sign_byte : ℕ → Bool
is_sign_byte b = not (is_word_byte b)

abbrev pub Begins : TokenKind → ℕ → Type 0
Begins Small b = is_small b ≡ true
Begins Capital b = is_capital b ≡ true
Begins Number b = is_digit b ≡ true
Begins (KeywordKind k) b = is_small b ≡ true
Begins (SignKind s) b = is_sign_byte b ≡ true

pub record Head (kind : TokenKind) (w : List ℕ) : Type 0 where
  pub byte : ℕ
  pub behind : List ℕ
  pub w_is : w ≡ byte ∷ behind
  pub begins : Begins kind byte

keyword_head : (k : Keyword) (w : List ℕ) → begins_small w ≡ true → Head (KeywordKind k) w
keyword_head k [] h = absurd (cc)
keyword_head k (b ∷ w) h = record { byte = b; behind = w; w_is = refl; begins = h }

begins_sign : List ℕ → Bool
begins_sign [] = false
begins_sign (b ∷ w) = is_sign_byte b

sign_head : (s : Sign) (w : List ℕ) → begins_sign w ≡ true → Head (SignKind s) w
unfolding begins_sign
sign_head s [] h = absurd (cc)
sign_head s (b ∷ w) h = record { byte = b; behind = w; w_is = refl; begins = h }

sign_bytes : (s : Sign) → (begins_sign (sign_text s) ≡ true) × (list_all is_plain (sign_text s) ≡ true)
unfolding begins_sign
sign_bytes Open = (refl, refl)
sign_bytes Close = (refl, refl)
sign_bytes Comma = (refl, refl)
sign_bytes Semicolon = (refl, refl)
sign_bytes Colon = (refl, refl)
sign_bytes Equal = (refl, refl)
sign_bytes Unequal = (refl, refl)
sign_bytes Less = (refl, refl)
sign_bytes AtMost = (refl, refl)
sign_bytes Greater = (refl, refl)
sign_bytes AtLeast = (refl, refl)
sign_bytes Plus = (refl, refl)
sign_bytes Minus = (refl, refl)
sign_bytes Star = (refl, refl)
sign_bytes Slash = (refl, refl)
sign_bytes Percent = (refl, refl)
sign_bytes And = (refl, refl)
sign_bytes AndAnd = (refl, refl)
sign_bytes Bar = (refl, refl)
sign_bytes BarBar = (refl, refl)
sign_bytes Arrow = (refl, refl)
sign_bytes Implies = (refl, refl)

-- each token has a first byte, which says what kind it may be
pub head : (kind : TokenKind) (w : List ℕ) → Spells kind w → Head kind w
head Small [] h = absurd h.0
head Small (b ∷ w) h = record { byte = b; behind = w; w_is = refl; begins = h.0.0 }
head Capital [] h = absurd h
head Capital (b ∷ w) h = record { byte = b; behind = w; w_is = refl; begins = h.0 }
head Number [] h = absurd h
head Number (b ∷ w) h = record { byte = b; behind = w; w_is = refl; begins = (and_parts (is_digit b) (list_all is_digit w) h).0 }
head (KeywordKind k) w h = keyword_head k w (ap begins_small h ∙ (keyword_word k).1)
head (SignKind s) w h = sign_head s w (ap begins_sign h ∙ (sign_bytes s).0)

pub head_at : (kind : TokenKind) (b : ℕ) (text w behind : List ℕ) → b ∷ text ≡ w ++ behind → Spells kind w → Begins kind b
head_at kind b text w behind e h =
    let d = head kind w h in
    let same : b ≡ d.byte = (let f : b ∷ text ≡ d.byte ∷ (d.behind ++ behind) = e ∙ ap (λ z. z ++ behind) d.w_is in cc) in
    subst (Begins kind) (sym same) d.begins

-- no token has a newline
pub no_newline : (kind : TokenKind) (w : List ℕ) → Spells kind w → list_all is_plain w ≡ true
no_newline Small [] h = absurd h.0
no_newline Small (b ∷ w) h = all_by is_word_byte is_plain word_is_plain (b ∷ w) (and_from (is_word_byte b) (list_all is_word_byte w) (small_in_word b h.0.0) h.0.1)
no_newline Capital [] h = absurd h
no_newline Capital (b ∷ w) h = all_by is_word_byte is_plain word_is_plain (b ∷ w) (and_from (is_word_byte b) (list_all is_word_byte w) (capital_in_word b h.0) h.1)
no_newline Number [] h = absurd h
no_newline Number (b ∷ w) h = all_by is_digit is_plain (λ c e. word_is_plain c (digit_in_word c e)) (b ∷ w) h
no_newline (KeywordKind k) w h = ap (list_all is_plain) h ∙ all_by is_word_byte is_plain word_is_plain (keyword_text k) (keyword_word k).0
no_newline (SignKind s) w h = ap (list_all is_plain) h ∙ (sign_bytes s).1

-- ---- the longest run

run_in : (p : ℕ → Bool) (b : ℕ) (text : List ℕ) → p b ≡ true → take_while p (b ∷ text) ≡ b ∷ take_while p text
run_in p b text e = take_while-cons p b text ∙ ap (λ d. cond d (b ∷ take_while p text) []) e

run_out : (p : ℕ → Bool) (b : ℕ) (text : List ℕ) → p b ≡ false → take_while p (b ∷ text) ≡ []
run_out p b text e = take_while-cons p b text ∙ ap (λ d. cond d (b ∷ take_while p text) []) e

run_all_by : (p : ℕ → Bool) (b : ℕ) (text : List ℕ) (d : Bool) → p b ≡ d → list_all p (take_while p text) ≡ true → list_all p (take_while p (b ∷ text)) ≡ true
run_all_by p b text true e h = ap (list_all p) (run_in p b text e) ∙ and_from (p b) (list_all p (take_while p text)) e h
run_all_by p b text false e h = ap (list_all p) (run_out p b text e)

run_all : (p : ℕ → Bool) (text : List ℕ) → list_all p (take_while p text) ≡ true
run_all p [] = refl
run_all p (b ∷ text) = run_all_by p b text (p b) refl (run_all p text)

-- bytes in front that all pass are within the run
within_run : (p : ℕ → Bool) (w behind : List ℕ) → list_all p w ≡ true → length w ≤ length (take_while p (w ++ behind))
within_run p [] behind h = omega arith
within_run p (b ∷ w) behind h =
    let parts = and_parts (p b) (list_all p w) h in
    let more = within_run p w behind parts.1 in
    let size : length (take_while p (b ∷ (w ++ behind))) ≡ suc (length (take_while p (w ++ behind))) = ap length (run_in p b (w ++ behind) parts.0) in
    omega arith

run_parts : (p : ℕ → Bool) (text : List ℕ) → text ≡ take_while p text ++ drop (length (take_while p text)) text
run_parts p text = sym (ap (λ n. take_while p text ++ drop n text) (length-prefix_len p text) ∙ take-append-drop (prefix_len p text) text)

-- ---- which token is found

pub record IsTokenAt (kind : TokenKind) (n : ℕ) (text : List ℕ) : Type 0 where
  pub w : List ℕ
  pub size : n ≡ length w
  pub text_is : text ≡ w ++ drop n text
  pub spelled : Spells kind w
  pub longest : (other : TokenKind) (v behind : List ℕ) → text ≡ v ++ behind → Spells other v → length v ≤ length w

not_both : (b : ℕ) → is_word_byte b ≡ true → is_sign_byte b ≡ true → ⊥
not_both b h k = let e : false ≡ true = sym (ap not h) ∙ k in cc

-- all but signs are words
word_of : (kind : TokenKind) (v : List ℕ) (b : ℕ) → Spells kind v → Begins kind b → is_word_byte b ≡ true → list_all is_word_byte v ≡ true
word_of Small [] b h k e = refl
word_of Small (c ∷ v) b h k e = and_from (is_word_byte c) (list_all is_word_byte v) (small_in_word c h.0.0) h.0.1
word_of Capital [] b h k e = refl
word_of Capital (c ∷ v) b h k e = and_from (is_word_byte c) (list_all is_word_byte v) (capital_in_word c h.0) h.1
word_of Number [] b h k e = refl
word_of Number (c ∷ v) b h k e = all_by is_digit is_word_byte digit_in_word (c ∷ v) h
word_of (KeywordKind j) v b h k e = ap (list_all is_word_byte) h ∙ (keyword_word j).0
word_of (SignKind s) v b h k e = absurd (not_both b e k)

word_longest : (b : ℕ) (text : List ℕ) → is_word_byte b ≡ true → (other : TokenKind) (v behind : List ℕ) → b ∷ text ≡ v ++ behind → Spells other v → length v ≤ length (take_while is_word_byte (b ∷ text))
word_longest b text e other v behind h k =
    subst (λ z. length v ≤ length (take_while is_word_byte z)) (sym h) (within_run is_word_byte v behind (word_of other v b k (head_at other b text v behind h k) e))

number_longest : (b : ℕ) (text : List ℕ) → is_digit b ≡ true → (other : TokenKind) (v behind : List ℕ) → b ∷ text ≡ v ++ behind → Spells other v → Begins other b → length v ≤ length (take_while is_digit (b ∷ text))
number_longest b text e Small v behind h k f = absurd (grind (arith, nat_tests))
number_longest b text e Capital v behind h k f = absurd (grind (arith, nat_tests))
number_longest b text e Number [] behind h k f = omega arith
number_longest b text e Number (c ∷ v) behind h k f = subst (λ z. length (c ∷ v) ≤ length (take_while is_digit z)) (sym h) (within_run is_digit (c ∷ v) behind k)
number_longest b text e (KeywordKind j) v behind h k f = absurd (grind (arith, nat_tests))
number_longest b text e (SignKind s) v behind h k f = absurd (not_both b (digit_in_word b e) f)

sign_longest : (b : ℕ) (text : List ℕ) (n : ℕ) → is_small b ≡ false → is_capital b ≡ false → is_digit b ≡ false → ((t : Sign) (behind : List ℕ) → b ∷ text ≡ sign_text t ++ behind → length (sign_text t) ≤ n) →
    (other : TokenKind) (v behind : List ℕ) → b ∷ text ≡ v ++ behind → Spells other v → Begins other b → length v ≤ n
sign_longest b text n s c d l Small v behind h k f = absurd (both_ways _ s f)
sign_longest b text n s c d l Capital v behind h k f = absurd (both_ways _ c f)
sign_longest b text n s c d l Number v behind h k f = absurd (both_ways _ d f)
sign_longest b text n s c d l (KeywordKind j) v behind h k f = absurd (both_ways _ s f)
sign_longest b text n s c d l (SignKind t) v behind h k f = subst (λ z. length z ≤ n) (sym k) (l t behind (h ∙ ap (λ z. z ++ behind) k))

small_spelled : (b : ℕ) (w text : List ℕ) (o : Option Keyword) → w ≡ b ∷ text → is_small b ≡ true → list_all is_word_byte text ≡ true → keyword_of w ≡ o → Spells (word_kind o) w
small_spelled b w text None e h all k = (subst (IsWord is_small) (sym e) (h, all), keyword_missed w k)
small_spelled b w text (Some j) e h all k = keyword_found w j k

abbrev run : List ℕ → List ℕ
run text = take_while is_word_byte text

found_word : (b : ℕ) (text : List ℕ) (kind : TokenKind) → is_word_byte b ≡ true → Spells kind (run (b ∷ text)) → IsTokenAt kind (length (run (b ∷ text))) (b ∷ text)
found_word b text kind e h = record {
  w = run (b ∷ text);
  size = refl;
  text_is = run_parts is_word_byte (b ∷ text);
  spelled = h;
  longest = word_longest b text e;
}

found_number : (b : ℕ) (text : List ℕ) → is_digit b ≡ true → IsTokenAt Number (length (take_while is_digit (b ∷ text))) (b ∷ text)
found_number b text e = record {
  w = take_while is_digit (b ∷ text);
  size = refl;
  text_is = run_parts is_digit (b ∷ text);
  spelled = subst IsNumeral (sym (run_in is_digit b text e)) (and_from (is_digit b) (list_all is_digit (take_while is_digit text)) e (run_all is_digit text));
  longest = λ other v behind h k. number_longest b text e other v behind h k (head_at other b text v behind h k);
}

found_sign : (b : ℕ) (text : List ℕ) (s : Sign) (n : ℕ) → is_small b ≡ false → is_capital b ≡ false → is_digit b ≡ false → IsSignAt s n (b ∷ text) → IsTokenAt (SignKind s) n (b ∷ text)
found_sign b text s n a c d h = record {
  w = sign_text s;
  size = h.size;
  text_is = h.text_is;
  spelled = refl;
  longest = λ other v behind e k. subst (λ m. length v ≤ m) h.size (sign_longest b text n a c d h.longest other v behind e k (head_at other b text v behind e k));
}

-- ---- the chain of tests

module _ (b : ℕ) (text : List ℕ) where
  abbrev of_sign : Option (Sign × ℕ) → Option (TokenKind × ℕ)
  of_sign o = option_map (λ s. (SignKind s.0, s.1)) o

  abbrev chosen : Bool → Bool → Bool → Option (TokenKind × ℕ)
  chosen s c d = cond s (Some (word_kind (keyword_of (run (b ∷ text))), length (run (b ∷ text)))) (cond c (Some (Capital, length (run (b ∷ text)))) (cond d (Some (Number, length (take_while is_digit (b ∷ text)))) (of_sign (sign_in (b ∷ text)))))

  token_sign : (o : Option (Sign × ℕ)) (kind : TokenKind) (n : ℕ) → sign_in (b ∷ text) ≡ o → is_small b ≡ false → is_capital b ≡ false → is_digit b ≡ false → of_sign o ≡ Some (kind, n) → IsTokenAt kind n (b ∷ text)
  token_sign None kind n e s c d h = absurd (cc)
  token_sign (Some x) kind n e s c d h =
      let same = same_parts (SignKind x.0) kind x.1 n h in
      subst (λ k. IsTokenAt k n (b ∷ text)) same.0 (subst (λ m. IsTokenAt (SignKind x.0) m (b ∷ text)) same.1 (found_sign b text x.0 x.1 s c d (sign_found (b ∷ text) x.0 x.1 e)))

  token_by : (s c d : Bool) (kind : TokenKind) (n : ℕ) → is_small b ≡ s → is_capital b ≡ c → is_digit b ≡ d → chosen s c d ≡ Some (kind, n) → IsTokenAt kind n (b ∷ text)
  token_by true c d kind n e f g h =
      let same = same_parts (word_kind (keyword_of (run (b ∷ text)))) kind (length (run (b ∷ text))) n h in
      let w = small_in_word b e in
      let spelled = small_spelled b (run (b ∷ text)) (run text) (keyword_of (run (b ∷ text))) (run_in is_word_byte b text w) e (run_all is_word_byte text) refl in
      subst (λ k. IsTokenAt k n (b ∷ text)) same.0 (subst (λ m. IsTokenAt (word_kind (keyword_of (run (b ∷ text)))) m (b ∷ text)) same.1 (found_word b text (word_kind (keyword_of (run (b ∷ text)))) w spelled))
  token_by false true d kind n e f g h =
      let same = same_parts Capital kind (length (run (b ∷ text))) n h in
      let w = capital_in_word b f in
      subst (λ k. IsTokenAt k n (b ∷ text)) same.0 (subst (λ m. IsTokenAt Capital m (b ∷ text)) same.1 (found_word b text Capital w (subst (IsWord is_capital) (sym (run_in is_word_byte b text w)) (f, run_all is_word_byte text))))
  token_by false false true kind n e f g h =
      let same = same_parts Number kind (length (take_while is_digit (b ∷ text))) n h in
      subst (λ k. IsTokenAt k n (b ∷ text)) same.0 (subst (λ m. IsTokenAt Number m (b ∷ text)) same.1 (found_number b text g))
  token_by false false false kind n e f g h = token_sign (sign_in (b ∷ text)) kind n refl e f g h

  no_sign : (o : Option (Sign × ℕ)) → sign_in (b ∷ text) ≡ o → of_sign o ≡ None → sign_in (b ∷ text) ≡ None
  no_sign None e h = e
  no_sign (Some x) e h = absurd (cc)

  none_by : (s c d : Bool) → is_small b ≡ s → is_capital b ≡ c → is_digit b ≡ d → chosen s c d ≡ None → (other : TokenKind) (v behind : List ℕ) → b ∷ text ≡ v ++ behind → Spells other v → Begins other b → ⊥
  none_by true c d e f g h other v behind i j k = cc
  none_by false true d e f g h other v behind i j k = cc
  none_by false false true e f g h other v behind i j k = cc
  none_by false false false e f g h Small v behind i j k = both_ways _ e k
  none_by false false false e f g h Capital v behind i j k = both_ways _ f k
  none_by false false false e f g h Number v behind i j k = both_ways _ g k
  none_by false false false e f g h (KeywordKind q) v behind i j k = both_ways _ e k
  none_by false false false e f g h (SignKind t) v behind i j k = sign_missed b text (no_sign (sign_in (b ∷ text)) refl h) t behind (i ∙ ap (λ z. z ++ behind) j)

pub token_found : (text : List ℕ) (kind : TokenKind) (n : ℕ) → token_in text ≡ Some (kind, n) → IsTokenAt kind n text
token_found [] kind n h = absurd (cc)
token_found (b ∷ text) kind n h = token_by b text (is_small b) (is_capital b) (is_digit b) kind n refl refl refl h

pub token_missed : (text : List ℕ) → text ≢ [] → token_in text ≡ None → (other : TokenKind) (v behind : List ℕ) → text ≡ v ++ behind → Spells other v → ⊥
token_missed [] some h other v behind e k = some refl
token_missed (b ∷ text) some h other v behind e k = none_by b text (is_small b) (is_capital b) (is_digit b) refl refl refl h other v behind e k (head_at other b text v behind e k)

-- ---- bytes spell one kind

apart : (b : ℕ) → is_small b ≡ true → is_capital b ≡ true → ⊥
apart b h k = grind (arith, nat_tests)

small_digit : (b : ℕ) → is_small b ≡ true → is_digit b ≡ true → ⊥
small_digit b h k = grind (arith, nat_tests)

capital_digit : (b : ℕ) → is_capital b ≡ true → is_digit b ≡ true → ⊥
capital_digit b h k = grind (arith, nat_tests)

abbrev pub IsWordKind : TokenKind → Type 0
IsWordKind (SignKind s) = ⊥
IsWordKind kind = Unit {0}

pub begins_word : (kind : TokenKind) (b : ℕ) → IsWordKind kind → Begins kind b → is_word_byte b ≡ true
begins_word Small b i h = small_in_word b h
begins_word Capital b i h = capital_in_word b h
begins_word Number b i h = digit_in_word b h
begins_word (KeywordKind k) b i h = small_in_word b h
begins_word (SignKind s) b i h = absurd i

no_sign_word : (kind : TokenKind) (s : Sign) (w : List ℕ) → IsWordKind kind → Spells kind w → Spells (SignKind s) w → ⊥
no_sign_word kind s w i h k =
    let d = head kind w h in
    not_both d.byte (begins_word kind d.byte i d.begins) (head_at (SignKind s) d.byte (d.behind ++ []) w [] (ap (λ z. z ++ []) (sym d.w_is)) k)

no_capital_keyword : (k : Keyword) (w : List ℕ) → Spells Capital w → Spells (KeywordKind k) w → ⊥
no_capital_keyword k w h i = let d = head Capital w h in apart d.byte (head_at (KeywordKind k) d.byte (d.behind ++ []) w [] (ap (λ z. z ++ []) (sym d.w_is)) i) d.begins

no_number_keyword : (k : Keyword) (w : List ℕ) → Spells Number w → Spells (KeywordKind k) w → ⊥
no_number_keyword k w h i = let d = head Number w h in small_digit d.byte (head_at (KeywordKind k) d.byte (d.behind ++ []) w [] (ap (λ z. z ++ []) (sym d.w_is)) i) d.begins

pub one_kind : (j k : TokenKind) (w : List ℕ) → Spells j w → Spells k w → j ≡ k
one_kind Small Small w h i = refl
one_kind Small Capital [] h i = absurd i
one_kind Small Capital (b ∷ w) h i = absurd (apart b h.0.0 i.0)
one_kind Small Number [] h i = absurd i
one_kind Small Number (b ∷ w) h i = absurd (small_digit b h.0.0 (and_parts (is_digit b) (list_all is_digit w) i).0)
one_kind Small (KeywordKind k) w h i = absurd (h.1 k i)
one_kind Small (SignKind s) w h i = absurd (no_sign_word Small s w tt h i)
one_kind Capital Small [] h i = absurd h
one_kind Capital Small (b ∷ w) h i = absurd (apart b i.0.0 h.0)
one_kind Capital Capital w h i = refl
one_kind Capital Number [] h i = absurd i
one_kind Capital Number (b ∷ w) h i = absurd (capital_digit b h.0 (and_parts (is_digit b) (list_all is_digit w) i).0)
one_kind Capital (KeywordKind k) w h i = absurd (no_capital_keyword k w h i)
one_kind Capital (SignKind s) w h i = absurd (no_sign_word Capital s w tt h i)
one_kind Number Small [] h i = absurd h
one_kind Number Small (b ∷ w) h i = absurd (small_digit b i.0.0 (and_parts (is_digit b) (list_all is_digit w) h).0)
one_kind Number Capital [] h i = absurd h
one_kind Number Capital (b ∷ w) h i = absurd (capital_digit b i.0 (and_parts (is_digit b) (list_all is_digit w) h).0)
one_kind Number Number w h i = refl
one_kind Number (KeywordKind k) w h i = absurd (no_number_keyword k w h i)
one_kind Number (SignKind s) w h i = absurd (no_sign_word Number s w tt h i)
one_kind (KeywordKind k) Small w h i = absurd (i.1 k h)
one_kind (KeywordKind k) Capital w h i = absurd (no_capital_keyword k w i h)
one_kind (KeywordKind k) Number w h i = absurd (no_number_keyword k w i h)
one_kind (KeywordKind j) (KeywordKind k) w h i = ap KeywordKind (one_keyword j k (sym h ∙ i))
one_kind (KeywordKind k) (SignKind s) w h i = absurd (no_sign_word (KeywordKind k) s w tt h i)
one_kind (SignKind s) Small w h i = absurd (no_sign_word Small s w tt i h)
one_kind (SignKind s) Capital w h i = absurd (no_sign_word Capital s w tt i h)
one_kind (SignKind s) Number w h i = absurd (no_sign_word Number s w tt i h)
one_kind (SignKind s) (KeywordKind k) w h i = absurd (no_sign_word (KeywordKind k) s w tt i h)
one_kind (SignKind s) (SignKind t) w h i = ap SignKind (one_sign s t (sym h ∙ i))

-- ---- a token begins with no blank

sign_no_blank : (s : Sign) → begins_blank (sign_text s) ≡ false
sign_no_blank Open = refl
sign_no_blank Close = refl
sign_no_blank Comma = refl
sign_no_blank Semicolon = refl
sign_no_blank Colon = refl
sign_no_blank Equal = refl
sign_no_blank Unequal = refl
sign_no_blank Less = refl
sign_no_blank AtMost = refl
sign_no_blank Greater = refl
sign_no_blank AtLeast = refl
sign_no_blank Plus = refl
sign_no_blank Minus = refl
sign_no_blank Star = refl
sign_no_blank Slash = refl
sign_no_blank Percent = refl
sign_no_blank And = refl
sign_no_blank AndAnd = refl
sign_no_blank Bar = refl
sign_no_blank BarBar = refl
sign_no_blank Arrow = refl
sign_no_blank Implies = refl

pub word_no_blank : (b : ℕ) → is_word_byte b ≡ true → is_blank b ≡ false
word_no_blank b h = grind (arith, nat_tests)

head_no_blank : (kind : TokenKind) (w : List ℕ) → IsWordKind kind → Head kind w → begins_blank w ≡ false
head_no_blank kind w i d = ap begins_blank d.w_is ∙ word_no_blank d.byte (begins_word kind d.byte i d.begins)

pub no_blank : (kind : TokenKind) (w : List ℕ) → Spells kind w → begins_blank w ≡ false
no_blank Small w h = head_no_blank Small w tt (head Small w h)
no_blank Capital w h = head_no_blank Capital w tt (head Capital w h)
no_blank Number w h = head_no_blank Number w tt (head Number w h)
no_blank (KeywordKind k) w h = head_no_blank (KeywordKind k) w tt (head (KeywordKind k) w h)
no_blank (SignKind s) w h = ap begins_blank h ∙ sign_no_blank s

blank_at : (w rest : List ℕ) (b : ℕ) (behind : List ℕ) → w ≡ b ∷ behind → begins_blank (w ++ rest) ≡ begins_blank w
blank_at w rest b behind e = ap (λ z. begins_blank (z ++ rest)) e ∙ ap begins_blank (sym e)

-- a text with a token in front begins with no blank
pub no_blank_at : (kind : TokenKind) (w rest : List ℕ) → Spells kind w → begins_blank (w ++ rest) ≡ false
no_blank_at kind w rest h = let d = head kind w h in blank_at w rest d.byte d.behind d.w_is ∙ no_blank kind w h
