-- New names tell what they are names of.
use Rattle.std.proofs.Common.{◌≡◌, ℕ, ◌+◌, ◌/◌, ◌%◌, ◌<◌, nat_eq, nat_lt, Bool, true, false, ◌&&◌, if◌then◌else◌, List, [], ◌∷◌, ◌++◌, refl, sym, ap, ap₂, ◌∙◌, arith}
use Rattle.std.specs.Str.{bytes_eq}
use Rattle.std.proofs.lemmas.Slice.Eq.{bytes_eq-Decides}
use Rattle.std.proofs.lemmas.List.{append-nil}
use Rattle.std.proofs.lemmas.Bool.Decides.{nat_tests}
use Rattle.hp_automata.specs.declared.new_names.Word.{Word}
use Rattle.hp_automata.specs.declared.new_names.Word.TheVariants.{Jump, Next, From, On, Strong, Weak}
use Rattle.hp_automata.specs.NewNames.{is_new, text, digits}
use Rattle.law_automata.specs.Lowered.OldNames.{behind_sign, is_digit, all_digits, some_digits, IsOld}
use Rattle.law_automata.specs.Lowered.Removable.{deepest}
use Rattle.law_automata.proofs.LoweredLemmas.Spelling.{New, word, of_state, of_transition, value, spell, HasRoom, stem, stem_of, lead_digits, after_digits, lead_letters, after_letters, lead_of, tail_of, first_byte, without_sign, split_digits, number_digits, all_of_some, behind_old, digits_told, letters_told, parts_of}

-- which word has this stem
pub word_of : List ℕ → Word
word_of [] = Jump
word_of (b ∷ bs) =
    if nat_eq b 106 then Jump else (if nat_eq b 110 then Next else (if nat_eq b 102 then From else (if nat_eq b 111 then On else (if nat_eq b 115 then Strong else Weak))))

pub word_stem : (w : Word) → word_of (stem (text w)) ≡ w
unfolding word_of
word_stem Jump = refl
word_stem Next = refl
word_stem From = refl
word_stem On = refl
word_stem Strong = refl
word_stem Weak = refl

word_told : (w v : Word) → stem (text w) ≡ stem (text v) → w ≡ v
word_told w v e = sym (word_stem w) ∙ ap word_of e ∙ word_stem v

-- ---- what a tail is of

abbrev tail_kind : List ℕ → ℕ
tail_kind [] = 0
tail_kind (b ∷ bs) = if nat_eq b 95 then (if all_digits bs then 1 else 2) else 3

abbrev kind : New → ℕ
kind (word w) = 0
kind (of_state w k) = 1
kind (of_transition w k j) = 2
kind (value k x) = 3

more_by : (us vs : List ℕ) (t : Bool) → all_digits (us ++ vs) ≡ false → (t && all_digits (us ++ vs)) ≡ false
more_by us vs true h = h
more_by us vs false h = refl

pub mark_behind : (us vs : List ℕ) → all_digits (us ++ 95 ∷ vs) ≡ false
mark_behind [] vs = refl
mark_behind (b ∷ us) vs = more_by us (95 ∷ vs) (is_digit b) (mark_behind us vs)

pub number_kind_by : (b : ℕ) (bs : List ℕ) (t : Bool) → is_digit b ≡ t → (t && all_digits bs) ≡ true → nat_eq b 95 ≡ false
number_kind_by b bs true e h = grind (arith, nat_tests)
number_kind_by b bs false e h = absurd cc

number_kind : (bs : List ℕ) → some_digits bs ≡ true → tail_kind bs ≡ 3
number_kind [] h = absurd cc
number_kind (b ∷ bs) h = ap (λ t. if t then (if all_digits bs then 1 else 2) else 3) (number_kind_by b bs (is_digit b) refl h)

kind_told : (a : New) → tail_kind (tail_of a) ≡ kind a
kind_told (word w) = refl
kind_told (of_state w k) = ap (λ t. if t then 1 else 2) (all_of_some (digits k) (number_digits k))
kind_told (of_transition w k j) = ap (λ t. if t then 1 else 2) (mark_behind (digits k) (digits j))
kind_told (value k x) = number_kind (digits k) (number_digits k)

-- ---- a name of a program is told from its parts

nonempty_by : (bs : List ℕ) → some_digits bs ≡ true → bs ≡ [] → ⊥
nonempty_by [] h e = absurd cc
nonempty_by (b ∷ bs) h e = absurd (cc)

pub rebuilt : (x : List ℕ) → is_new x ≡ true → x ≡ stem x ++ 36 ∷ behind_sign x
rebuilt [] h = absurd cc
rebuilt (b ∷ bs) h = by (nat_eq b 36) refl h (rebuilt bs)
  where
    by : (t : Bool) → nat_eq b 36 ≡ t → (if t then true else is_new bs) ≡ true → (is_new bs ≡ true → bs ≡ stem bs ++ 36 ∷ behind_sign bs)
        → b ∷ bs ≡ (if t then [] else b ∷ stem bs) ++ 36 ∷ (if t then bs else behind_sign bs)
    by true e h r = let same : b ≡ 36 = grind (arith, nat_tests) in ap (λ c. c ∷ bs) same
    by false e h r = ap (λ cs. b ∷ cs) (r h)

old_told_by : (x y : List ℕ) (t u : Bool) → is_new x ≡ t → is_new y ≡ u → (t ≡ true → some_digits (behind_sign x) ≡ true) → (u ≡ true → some_digits (behind_sign y) ≡ true)
    → stem x ≡ stem y → behind_sign x ≡ behind_sign y → x ≡ y
old_told_by x y true true h g o p s b = rebuilt x h ∙ ap₂ (λ a c. a ++ 36 ∷ c) s b ∙ sym (rebuilt y g)
old_told_by x y false false h g o p s b = sym (without_sign x [] h).3 ∙ s ∙ (without_sign y [] g).3
old_told_by x y true false h g o p s b = absurd (nonempty_by (behind_sign x) (o refl) (b ∙ (without_sign y [] g).2))
old_told_by x y false true h g o p s b = absurd (nonempty_by (behind_sign y) (p refl) (sym b ∙ (without_sign x [] h).2))

old_told : (x y : List ℕ) → IsOld x → IsOld y → stem x ≡ stem y → behind_sign x ≡ behind_sign y → x ≡ y
old_told x y o p s b = old_told_by x y (is_new x) (is_new y) refl refl o.digits p.digits s b

-- ---- names of one automaton

rest_of : List ℕ → List ℕ
rest_of [] = []
rest_of (b ∷ bs) = bs

told_by : (a b : New) → HasRoom a → HasRoom b → kind a ≡ kind b → stem_of a ≡ stem_of b → lead_of a ≡ lead_of b → tail_of a ≡ tail_of b → a ≡ b
unfolding rest_of
told_by (word w) (word v) h g k s l t = ap word (word_told w v s)
told_by (of_state w i) (of_state v j) h g k s l t = ap₂ of_state (word_told w v s) (digits_told i j h g (ap rest_of t))
told_by (of_transition w i m) (of_transition v j n) h g k s l t =
    let rest : digits i ++ 95 ∷ digits m ≡ digits j ++ 95 ∷ digits n = ap rest_of t in
    let p = split_digits (digits i) (95 ∷ digits m) (all_of_some (digits i) (number_digits i)) (refl, refl) in
    let q = split_digits (digits j) (95 ∷ digits n) (all_of_some (digits j) (number_digits j)) (refl, refl) in
    let same : i ≡ j = digits_told i j h.0 g.0 (sym p.0 ∙ ap lead_digits rest ∙ q.0) in
    let other : m ≡ n = digits_told m n h.1 g.1 (ap rest_of (sym p.1 ∙ ap after_digits rest ∙ q.1)) in
    λ r. of_transition (word_told w v s r) (same r) (other r)
told_by (value i x) (value j y) h g k s l t = ap₂ value (digits_told i j h.0 g.0 t) (old_told x y h.1 g.1 s l)
told_by (word w) (of_state v j) h g k s l t = absurd (omega arith)
told_by (word w) (of_transition v j n) h g k s l t = absurd (omega arith)
told_by (word w) (value j y) h g k s l t = absurd (omega arith)
told_by (of_state w i) (word v) h g k s l t = absurd (omega arith)
told_by (of_state w i) (of_transition v j n) h g k s l t = absurd (omega arith)
told_by (of_state w i) (value j y) h g k s l t = absurd (omega arith)
told_by (of_transition w i m) (word v) h g k s l t = absurd (omega arith)
told_by (of_transition w i m) (of_state v j) h g k s l t = absurd (omega arith)
told_by (of_transition w i m) (value j y) h g k s l t = absurd (omega arith)
told_by (value i x) (word v) h g k s l t = absurd (omega arith)
told_by (value i x) (of_state v j) h g k s l t = absurd (omega arith)
told_by (value i x) (of_transition v j n) h g k s l t = absurd (omega arith)

pub told : (d : ℕ) (a b : New) → HasRoom a → HasRoom b → spell d a ≡ spell d b → a ≡ b
told d a b h g e =
    let p = parts_of d a h in
    let q = parts_of d b g in
    let tails : tail_of a ≡ tail_of b = sym p.tail ∙ ap (λ x. after_letters (after_digits (behind_sign x))) e ∙ q.tail in
    told_by a b h g (sym (kind_told a) ∙ ap tail_kind tails ∙ kind_told b) (sym p.stem ∙ ap stem e ∙ q.stem) (sym p.lead ∙ ap (λ x. lead_digits (behind_sign x)) e ∙ q.lead) tails

-- names of different automata within one another
pub depth_told : (d e : ℕ) (a b : New) → d < deepest → e < deepest → HasRoom a → HasRoom b → spell d a ≡ spell e b → d ≡ e
depth_told d e a b hd he h g s =
    letters_told d e hd he (sym (parts_of d a h).letters ∙ ap (λ x. lead_letters (after_digits (behind_sign x))) s ∙ (parts_of e b g).letters)

-- ---- none is a name of a program

pub letters_some : (d : ℕ) (t : Bool) → (if t then (97 + d) ∷ [] else (97 + (d / 10) % 10) ∷ (97 + d % 10) ∷ []) ≡ [] → ⊥
letters_some d true e = let q : 97 + d ≡ 0 = ap first_byte e in omega arith
letters_some d false e = let q : 97 + (d / 10) % 10 ≡ 0 = ap first_byte e in omega arith

pub new_is_new : (d : ℕ) (a : New) → HasRoom a → IsOld (spell d a) → ⊥
new_is_new d a h o =
    let bs : List ℕ = behind_sign (spell d a) in
    let all = split_digits bs [] (behind_old (spell d a) o) (refl, refl) in
    let none : after_digits bs ≡ [] = ap after_digits (sym (append-nil bs)) ∙ all.1 in
    letters_some d (nat_lt d 10) (sym (parts_of d a h).letters ∙ ap lead_letters none)

-- ---- as tests

pub same_bytes : (x y : List ℕ) → bytes_eq x y ≡ true → x ≡ y
same_bytes x y = (bytes_eq-Decides x y).0

pub bytes_same : (x : List ℕ) → bytes_eq x x ≡ true
bytes_same x = (bytes_eq-Decides x x).1 refl

not_by : (t : Bool) → (t ≡ true → ⊥) → t ≡ false
not_by true h = absurd (h refl)
not_by false h = refl

pub bytes_differ : (x y : List ℕ) → (x ≡ y → ⊥) → bytes_eq x y ≡ false
bytes_differ x y h = not_by (bytes_eq x y) (λ e. h (same_bytes x y e))
