-- Signs and their bytes.
use Rattle.std.proofs.Common.{◌≡◌, ◌≤◌, ◌<◌, ℕ, ◌+◌, ◌==◌, Bool, true, false, cond, ◌&&◌, List, [], ◌∷◌, ◌++◌, length, drop, Option, None, Some, refl, sym, ap, ◌∙◌, subst, arith, lit≤, lit<}
use Rattle.std.specs.Prelude.{option_map}
use Rattle.std.proofs.lemmas.Bool.{and_parts, eqb-true}
use Rattle.std.proofs.lemmas.List.{length-append}
use Rattle.hp_lexer.proofs.Pairs.{same_parts}
use Rattle.hp_lexer.specs.Spelling.{sign_text}
use Rattle.hp_lexer.specs.Reading.{one_byte_sign, two_byte_sign, short_sign_in, sign_in}
use Rattle.hp_lexer.specs.declared.token.Sign.{Sign}
use Rattle.hp_lexer.specs.declared.token.Sign.TheVariants.{Open, Close, Comma, Semicolon, Colon, Equal, Unequal, Less, AtMost, Greater, AtLeast, Plus, Minus, Star, Slash, Percent, And, AndAnd, Bar, BarBar, Arrow, Implies}

abbrev with_one : Option Sign → Option (Sign × ℕ)
with_one o = option_map (λ s. (s, 1)) o

abbrev with_two : ℕ → Option Sign → Option (Sign × ℕ)
with_two b o = elim o [ None ↦ short_sign_in b | Some s ↦ Some (s, 2) ]

-- a chain of tests gives what its first test that holds gives
chain : (P : Sign → Type 0) (d : Bool) (x : Sign) (rest : Option Sign) → (d ≡ true → P x) → ((s : Sign) → rest ≡ Some s → P s) → (s : Sign) → cond d (Some x) rest ≡ Some s → P s
chain P true x rest f g s h = let same : x ≡ s = cc in subst P same (f refl)
chain P false x rest f g s h = g s h

none : (P : Sign → Type 0) (s : Sign) → None ≡ Some s → P s
none P s h = absurd (cc)

pair : (b c x y : ℕ) → (b == x && c == y) ≡ true → x ∷ y ∷ [] ≡ b ∷ c ∷ []
pair b c x y h = let p = and_parts (b == x) (c == y) h in let e : b ≡ x = eqb-true b x p.0 in let f : c ≡ y = eqb-true c y p.1 in cc

single : (b x : ℕ) → (b == x) ≡ true → x ∷ [] ≡ b ∷ []
single b x h = let e : b ≡ x = eqb-true b x h in cc

two_spelled : (b c : ℕ) (s : Sign) → two_byte_sign b c ≡ Some s → sign_text s ≡ b ∷ c ∷ []
two_spelled b c =
    let P : Sign → Type 0 = λ s. sign_text s ≡ b ∷ c ∷ [] in
    chain P _ Unequal _ (pair b c 60 62)
    (chain P _ AtMost _ (pair b c 60 61)
    (chain P _ AtLeast _ (pair b c 62 61)
    (chain P _ AndAnd _ (pair b c 38 38)
    (chain P _ BarBar _ (pair b c 124 124)
    (chain P _ Arrow _ (pair b c 45 62)
    (chain P _ Implies _ (pair b c 61 62) (none P)))))))

one_spelled : (b : ℕ) (s : Sign) → one_byte_sign b ≡ Some s → sign_text s ≡ b ∷ []
one_spelled b =
    let P : Sign → Type 0 = λ s. sign_text s ≡ b ∷ [] in
    chain P _ Open _ (single b 40)
    (chain P _ Close _ (single b 41)
    (chain P _ Comma _ (single b 44)
    (chain P _ Semicolon _ (single b 59)
    (chain P _ Colon _ (single b 58)
    (chain P _ Equal _ (single b 61)
    (chain P _ Less _ (single b 60)
    (chain P _ Greater _ (single b 62)
    (chain P _ Plus _ (single b 43)
    (chain P _ Minus _ (single b 45)
    (chain P _ Star _ (single b 42)
    (chain P _ Slash _ (single b 47)
    (chain P _ Percent _ (single b 37)
    (chain P _ And _ (single b 38)
    (chain P _ Bar _ (single b 124) (none P)))))))))))))))

-- no sign of two bytes stands where none is found
missed : (s : Sign) (b c x y : ℕ) (rest behind : List ℕ) → two_byte_sign x y ≡ Some s → x ∷ y ∷ behind ≡ b ∷ c ∷ rest → two_byte_sign b c ≡ None → ⊥
missed s b c x y rest behind h e k =
    let b-is : x ≡ b = cc in
    let c-is : y ≡ c = cc in
    let n : Some s ≡ None = sym h ∙ ap (λ z. two_byte_sign z y) b-is ∙ ap (two_byte_sign b) c-is ∙ k in
    cc

-- where no sign of two bytes is found, each that stands there has one byte
short_by : (s : Sign) (b c : ℕ) (rest behind : List ℕ) → sign_text s ++ behind ≡ b ∷ c ∷ rest → two_byte_sign b c ≡ None → length (sign_text s) ≤ 1
short_by Open b c rest behind h k = lit≤ tt
short_by Close b c rest behind h k = lit≤ tt
short_by Comma b c rest behind h k = lit≤ tt
short_by Semicolon b c rest behind h k = lit≤ tt
short_by Colon b c rest behind h k = lit≤ tt
short_by Equal b c rest behind h k = lit≤ tt
short_by Unequal b c rest behind h k = absurd (missed Unequal b c 60 62 rest behind refl h k)
short_by Less b c rest behind h k = lit≤ tt
short_by AtMost b c rest behind h k = absurd (missed AtMost b c 60 61 rest behind refl h k)
short_by Greater b c rest behind h k = lit≤ tt
short_by AtLeast b c rest behind h k = absurd (missed AtLeast b c 62 61 rest behind refl h k)
short_by Plus b c rest behind h k = lit≤ tt
short_by Minus b c rest behind h k = lit≤ tt
short_by Star b c rest behind h k = lit≤ tt
short_by Slash b c rest behind h k = lit≤ tt
short_by Percent b c rest behind h k = lit≤ tt
short_by And b c rest behind h k = lit≤ tt
short_by AndAnd b c rest behind h k = absurd (missed AndAnd b c 38 38 rest behind refl h k)
short_by Bar b c rest behind h k = lit≤ tt
short_by BarBar b c rest behind h k = absurd (missed BarBar b c 124 124 rest behind refl h k)
short_by Arrow b c rest behind h k = absurd (missed Arrow b c 45 62 rest behind refl h k)
short_by Implies b c rest behind h k = absurd (missed Implies b c 61 62 rest behind refl h k)

pub sign_length : (s : Sign) → length (sign_text s) ≤ 2
sign_length Open = lit≤ tt
sign_length Close = lit≤ tt
sign_length Comma = lit≤ tt
sign_length Semicolon = lit≤ tt
sign_length Colon = lit≤ tt
sign_length Equal = lit≤ tt
sign_length Unequal = lit≤ tt
sign_length Less = lit≤ tt
sign_length AtMost = lit≤ tt
sign_length Greater = lit≤ tt
sign_length AtLeast = lit≤ tt
sign_length Plus = lit≤ tt
sign_length Minus = lit≤ tt
sign_length Star = lit≤ tt
sign_length Slash = lit≤ tt
sign_length Percent = lit≤ tt
sign_length And = lit≤ tt
sign_length AndAnd = lit≤ tt
sign_length Bar = lit≤ tt
sign_length BarBar = lit≤ tt
sign_length Arrow = lit≤ tt
sign_length Implies = lit≤ tt

missed_one : (s : Sign) (b x : ℕ) (rest behind : List ℕ) → one_byte_sign x ≡ Some s → x ∷ behind ≡ b ∷ rest → one_byte_sign b ≡ None → ⊥
missed_one s b x rest behind h e k = let b-is : x ≡ b = cc in let n : Some s ≡ None = sym h ∙ ap one_byte_sign b-is ∙ k in cc

-- where no sign of one byte is found, no sign stands
no_sign : (s : Sign) (b : ℕ) (rest behind : List ℕ) → sign_text s ++ behind ≡ b ∷ rest → one_byte_sign b ≡ None → ⊥
no_sign Open b rest behind h k = missed_one Open b 40 rest behind refl h k
no_sign Close b rest behind h k = missed_one Close b 41 rest behind refl h k
no_sign Comma b rest behind h k = missed_one Comma b 44 rest behind refl h k
no_sign Semicolon b rest behind h k = missed_one Semicolon b 59 rest behind refl h k
no_sign Colon b rest behind h k = missed_one Colon b 58 rest behind refl h k
no_sign Equal b rest behind h k = missed_one Equal b 61 rest behind refl h k
no_sign Unequal b rest behind h k = missed_one Less b 60 rest (62 ∷ behind) refl h k
no_sign Less b rest behind h k = missed_one Less b 60 rest behind refl h k
no_sign AtMost b rest behind h k = missed_one Less b 60 rest (61 ∷ behind) refl h k
no_sign Greater b rest behind h k = missed_one Greater b 62 rest behind refl h k
no_sign AtLeast b rest behind h k = missed_one Greater b 62 rest (61 ∷ behind) refl h k
no_sign Plus b rest behind h k = missed_one Plus b 43 rest behind refl h k
no_sign Minus b rest behind h k = missed_one Minus b 45 rest behind refl h k
no_sign Star b rest behind h k = missed_one Star b 42 rest behind refl h k
no_sign Slash b rest behind h k = missed_one Slash b 47 rest behind refl h k
no_sign Percent b rest behind h k = missed_one Percent b 37 rest behind refl h k
no_sign And b rest behind h k = missed_one And b 38 rest behind refl h k
no_sign AndAnd b rest behind h k = missed_one And b 38 rest (38 ∷ behind) refl h k
no_sign Bar b rest behind h k = missed_one Bar b 124 rest behind refl h k
no_sign BarBar b rest behind h k = missed_one Bar b 124 rest (124 ∷ behind) refl h k
no_sign Arrow b rest behind h k = missed_one Minus b 45 rest (62 ∷ behind) refl h k
no_sign Implies b rest behind h k = missed_one Equal b 61 rest (62 ∷ behind) refl h k

read_again : (s : Sign) → sign_in (sign_text s) ≡ Some (s, length (sign_text s))
read_again Open = refl
read_again Close = refl
read_again Comma = refl
read_again Semicolon = refl
read_again Colon = refl
read_again Equal = refl
read_again Unequal = refl
read_again Less = refl
read_again AtMost = refl
read_again Greater = refl
read_again AtLeast = refl
read_again Plus = refl
read_again Minus = refl
read_again Star = refl
read_again Slash = refl
read_again Percent = refl
read_again And = refl
read_again AndAnd = refl
read_again Bar = refl
read_again BarBar = refl
read_again Arrow = refl
read_again Implies = refl

pub one_sign : (s t : Sign) → sign_text s ≡ sign_text t → s ≡ t
one_sign s t h =
    (same_parts s t (length (sign_text s)) (length (sign_text t)) (sym (read_again s) ∙ ap sign_in h ∙ read_again t)).0

-- ---- the longest sign

pub record IsSignAt (s : Sign) (n : ℕ) (text : List ℕ) : Type 0 where
  pub size : n ≡ length (sign_text s)
  pub text_is : text ≡ sign_text s ++ drop n text
  pub longest : (t : Sign) (behind : List ℕ) → text ≡ sign_text t ++ behind → length (sign_text t) ≤ n

short_found : (b : ℕ) (text : List ℕ) (s : Sign) (n : ℕ) → ((t : Sign) (behind : List ℕ) → b ∷ text ≡ sign_text t ++ behind → length (sign_text t) ≤ 1) →
    (o : Option Sign) → one_byte_sign b ≡ o → with_one o ≡ Some (s, n) → IsSignAt s n (b ∷ text)
short_found b text s n h None e k = absurd (cc)
short_found b text s n h (Some t) e k =
    let same = same_parts t s 1 n k in
    let s-is = same.0 in
    let n-is = same.1 in
    let spelled : sign_text s ≡ b ∷ [] = one_spelled b s (e ∙ ap Some s-is) in
    record {
      size = sym n-is ∙ sym (ap length spelled);
      text_is = sym (ap (λ z. z ++ drop n (b ∷ text)) spelled ∙ ap (λ m. b ∷ drop m (b ∷ text)) (sym n-is));
      longest = λ t behind e. subst (λ m. length (sign_text t) ≤ m) n-is (h t behind e);
    }

alone : (b : ℕ) (v behind : List ℕ) → b ∷ [] ≡ v ++ behind → length v ≤ 1
alone b v behind h = let l : 1 ≡ length (v ++ behind) = ap length h in omega (arith, length-append v behind)

found_by : (b c : ℕ) (text : List ℕ) (s : Sign) (n : ℕ) (o : Option Sign) → two_byte_sign b c ≡ o → with_two b o ≡ Some (s, n) → IsSignAt s n (b ∷ c ∷ text)
found_by b c text s n None e k =
    short_found b (c ∷ text) s n (λ t behind h. short_by t b c text behind (sym h) e) (one_byte_sign b) refl k
found_by b c text s n (Some t) e k =
    let same = same_parts t s 2 n k in
    let s-is = same.0 in
    let n-is = same.1 in
    let spelled : sign_text s ≡ b ∷ c ∷ [] = two_spelled b c s (e ∙ ap Some s-is) in
    record {
      size = sym n-is ∙ sym (ap length spelled);
      text_is = sym (ap (λ z. z ++ drop n (b ∷ c ∷ text)) spelled ∙ ap (λ m. b ∷ c ∷ drop m (b ∷ c ∷ text)) (sym n-is));
      longest = λ t behind e. subst (λ m. length (sign_text t) ≤ m) n-is (sign_length t);
    }

pub sign_found : (text : List ℕ) (s : Sign) (n : ℕ) → sign_in text ≡ Some (s, n) → IsSignAt s n text
sign_found [] s n h = absurd (cc)
sign_found (b ∷ []) s n h = short_found b [] s n (λ t behind e. alone b (sign_text t) behind e) (one_byte_sign b) refl h
sign_found (b ∷ c ∷ text) s n h = found_by b c text s n (two_byte_sign b c) refl h

no_short : (b : ℕ) (o : Option Sign) → one_byte_sign b ≡ o → with_one o ≡ None → one_byte_sign b ≡ None
no_short b None e k = e
no_short b (Some s) e k = absurd (cc)

none_by : (b : ℕ) (o : Option Sign) → with_two b o ≡ None → one_byte_sign b ≡ None
none_by b None k = no_short b (one_byte_sign b) refl k
none_by b (Some s) k = absurd (cc)

first_none : (b : ℕ) (text : List ℕ) → sign_in (b ∷ text) ≡ None → one_byte_sign b ≡ None
first_none b [] h = no_short b (one_byte_sign b) refl h
first_none b (c ∷ text) h = none_by b (two_byte_sign b c) h

pub sign_missed : (b : ℕ) (text : List ℕ) → sign_in (b ∷ text) ≡ None → (t : Sign) (behind : List ℕ) → b ∷ text ≡ sign_text t ++ behind → ⊥
sign_missed b text h t behind e = no_sign t b text behind (sym e) (first_none b text h)

sign_some : (s : Sign) → 0 < length (sign_text s)
sign_some Open = lit< tt
sign_some Close = lit< tt
sign_some Comma = lit< tt
sign_some Semicolon = lit< tt
sign_some Colon = lit< tt
sign_some Equal = lit< tt
sign_some Unequal = lit< tt
sign_some Less = lit< tt
sign_some AtMost = lit< tt
sign_some Greater = lit< tt
sign_some AtLeast = lit< tt
sign_some Plus = lit< tt
sign_some Minus = lit< tt
sign_some Star = lit< tt
sign_some Slash = lit< tt
sign_some Percent = lit< tt
sign_some And = lit< tt
sign_some AndAnd = lit< tt
sign_some Bar = lit< tt
sign_some BarBar = lit< tt
sign_some Arrow = lit< tt
sign_some Implies = lit< tt

pub sign_within : (text : List ℕ) (s : Sign) (n : ℕ) → IsSignAt s n text → (0 < n) × (n ≤ length text)
sign_within text s n h =
    let size : length text ≡ length (sign_text s) + length (drop n text) = ap length h.text_is ∙ length-append (sign_text s) (drop n text) in
    let some : 0 < length (sign_text s) = sign_some s in
    let n-is : n ≡ length (sign_text s) = h.size in
    (omega arith, omega arith)
