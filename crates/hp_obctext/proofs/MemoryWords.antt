-- The words of a text, each with the byte that ends it.
use Rattle.std.proofs.Common.{◌≡◌, ◌<◌, ℕ, zero, suc, Bool, true, false, not, ◌&&◌, ◌||◌, ◌==◌, cond, List, [], ◌∷◌, ◌++◌, length, take, drop, ◌⊎◌, inl, inr, if◌then◌else◌, refl, sym, ap, subst, ◌∙◌, append_assoc, append-nil, arith}
use Rattle.std.specs.Prelude.{take_while}
use Rattle.std.specs.List.{list_all}
use Rattle.std.proofs.lemmas.List.Sums.{take_while-cons}
use Rattle.hp_obctext.specs.MemoryTexts.{Ended, is_gap, IsWord, joined}
use Rattle.hp_obctext.specs.MemoryReading.{first_word, behind}

abbrev is_part : ℕ → Bool
is_part b = not (is_gap b)

word_in : (b : ℕ) (text : List ℕ) → is_gap b ≡ false → first_word (b ∷ text) ≡ b ∷ first_word text
word_in b text e = take_while-cons is_part b text ∙ ap (λ d. cond (not d) (b ∷ first_word text) []) e

word_out : (b : ℕ) (text : List ℕ) → is_gap b ≡ true → first_word (b ∷ text) ≡ []
word_out b text e = take_while-cons is_part b text ∙ ap (λ d. cond (not d) (b ∷ first_word text) []) e

behind_in : (b : ℕ) (text : List ℕ) → is_gap b ≡ false → behind (b ∷ text) ≡ behind text
behind_in b text e = ap (λ r. drop (length r) (b ∷ text)) (word_in b text e)

behind_out : (b : ℕ) (text : List ℕ) → is_gap b ≡ true → behind (b ∷ text) ≡ b ∷ text
behind_out b text e = ap (λ r. drop (length r) (b ∷ text)) (word_out b text e)

-- a text is its first word and what stands behind it
pub word_and_behind : (text : List ℕ) → text ≡ first_word text ++ behind text
word_and_behind [] = refl
word_and_behind (b ∷ text) = by (is_gap b) refl (word_and_behind text)
  where
    by : (d : Bool) → is_gap b ≡ d → text ≡ first_word text ++ behind text → b ∷ text ≡ first_word (b ∷ text) ++ behind (b ∷ text)
    by true e h = sym (ap (λ w. w ++ behind (b ∷ text)) (word_out b text e) ∙ behind_out b text e)
    by false e h = ap (λ t. b ∷ t) h ∙ sym (ap (λ w. w ++ behind (b ∷ text)) (word_in b text e) ∙ ap (λ t. b ∷ (first_word text ++ t)) (behind_in b text e))

pub is_first_word : (text : List ℕ) → IsWord (first_word text)
is_first_word [] = refl
is_first_word (b ∷ text) = by (is_gap b) refl (is_first_word text)
  where
    by : (d : Bool) → is_gap b ≡ d → IsWord (first_word text) → IsWord (first_word (b ∷ text))
    by true e h = ap (list_all is_part) (word_out b text e)
    by false e h = ap (list_all is_part) (word_in b text e) ∙ ap (λ d. not d && list_all is_part (first_word text)) e ∙ h

pub behind_ends : (text : List ℕ) (g : ℕ) (rest : List ℕ) → behind text ≡ g ∷ rest → is_gap g ≡ true
behind_ends [] g rest h = absurd cc
behind_ends (b ∷ text) g rest h = by (is_gap b) refl (behind_ends text g rest)
  where
    by : (d : Bool) → is_gap b ≡ d → (behind text ≡ g ∷ rest → is_gap g ≡ true) → is_gap g ≡ true
    by true e k = let same : b ≡ g = heads b text (sym (behind_out b text e) ∙ h) in ap is_gap (sym same) ∙ e
      where
        heads : (b : ℕ) (text : List ℕ) → b ∷ text ≡ g ∷ rest → b ≡ g
        heads b text k = cc
    by false e k = k (sym (behind_in b text e) ∙ h)

pub both_true : (a b : Bool) → (a && b) ≡ true → (a ≡ true) × (b ≡ true)
both_true true b h = (refl, h)
both_true false b h = absurd cc

not_true : (a : Bool) → not a ≡ true → a ≡ false
not_true true h = absurd cc
not_true false h = refl

part : (b : ℕ) (w : List ℕ) → IsWord (b ∷ w) → (is_gap b ≡ false) × IsWord w
part b w h = let p = both_true (not (is_gap b)) (list_all is_part w) h in (not_true (is_gap b) p.0, p.1)

-- the first word of a text that begins with a word and what ends it
pub first_is : (w : List ℕ) (g : ℕ) (rest : List ℕ) → IsWord w → is_gap g ≡ true → first_word (w ++ g ∷ rest) ≡ w
first_is [] g rest h k = word_out g rest k
first_is (b ∷ w) g rest h k = let p = part b w h in word_in b (w ++ g ∷ rest) p.0 ∙ ap (λ t. b ∷ t) (first_is w g rest p.1 k)

pub behind_is : (w : List ℕ) (g : ℕ) (rest : List ℕ) → IsWord w → is_gap g ≡ true → behind (w ++ g ∷ rest) ≡ g ∷ rest
behind_is [] g rest h k = behind_out g rest k
behind_is (b ∷ w) g rest h k = let p = part b w h in behind_in b (w ++ g ∷ rest) p.0 ∙ behind_is w g rest p.1 k

word_alone : (w : List ℕ) → IsWord w → behind w ≡ []
word_alone [] h = refl
word_alone (b ∷ w) h = let p = part b w h in behind_in b w p.0 ∙ word_alone w p.1

-- a word does not end within
pub no_end : (w v : List ℕ) (g : ℕ) (rest : List ℕ) → IsWord w → IsWord v → is_gap g ≡ true → w ≡ v ++ g ∷ rest → ⊥
no_end w v g rest h k e p = let q : [] ≡ g ∷ rest = sym (word_alone w h) ∙ ap behind p ∙ behind_is v g rest k e in cc

-- Two texts that begin with a word and what ends it: these are the same, and so is what stands behind.
pub same_word : (v w : List ℕ) (g h : ℕ) (x y : List ℕ) → IsWord v → IsWord w → is_gap g ≡ true → is_gap h ≡ true → v ++ g ∷ x ≡ w ++ h ∷ y → (v ≡ w) × (g ≡ h) × (x ≡ y)
same_word v w g h x y p q r s e =
    let words = sym (first_is v g x p r) ∙ ap first_word e ∙ first_is w h y q s in
    let rest : g ∷ x ≡ h ∷ y = sym (behind_is v g x p r) ∙ ap behind e ∙ behind_is w h y q s in
    (words, heads rest, tails rest)
  where
    heads : g ∷ x ≡ h ∷ y → g ≡ h
    heads k = cc

    tails : g ∷ x ≡ h ∷ y → x ≡ y
    tails k = cc

-- Words are words, each with a byte that ends it.
abbrev pub AreEnded : List Ended → Type 0
AreEnded [] = Unit {0}
AreEnded (e ∷ es) = IsWord e.0 × (is_gap e.1 ≡ true) × AreEnded es

pub front_ended : (front more : List Ended) → AreEnded (front ++ more) → AreEnded front
front_ended [] more h = tt
front_ended (e ∷ front) more h = (h.0, h.1, front_ended front more h.2)

pub back_ended : (front more : List Ended) → AreEnded (front ++ more) → AreEnded more
back_ended [] more h = h
back_ended (e ∷ front) more h = back_ended front more h.2

pub joined_append : (es fs : List Ended) → joined (es ++ fs) ≡ joined es ++ joined fs
joined_append [] fs = refl
joined_append (e ∷ es) fs = ap (λ t. e.0 ++ e.1 ∷ t) (joined_append es fs) ∙ sym (append_assoc e.0 (e.1 ∷ joined es) (joined fs))

-- a word of a text, and its end, in front of the rest
pub next_joined : (w : List ℕ) (g : ℕ) (es : List Ended) (rest : List ℕ) → joined ((w, g) ∷ es) ++ rest ≡ w ++ g ∷ (joined es ++ rest)
next_joined w g es rest = append_assoc w (g ∷ joined es) rest

-- two cuts of a text behind words: one has more words in front, or they are the same
pub data Cuts (f h : List Ended) (x y : List ℕ) : Type 0 where
  same : f ≡ h → x ≡ y → Cuts f h x y
  left : (e : Ended) (es : List Ended) → h ≡ f ++ e ∷ es → x ≡ joined (e ∷ es) ++ y → Cuts f h x y
  right : (e : Ended) (es : List Ended) → f ≡ h ++ e ∷ es → y ≡ joined (e ∷ es) ++ x → Cuts f h x y

pub cuts : (f h : List Ended) (x y : List ℕ) → AreEnded f → AreEnded h → joined f ++ x ≡ joined h ++ y → Cuts f h x y
cuts [] [] x y p q e = same refl e
cuts [] (k ∷ h) x y p q e = left k h refl e
cuts (k ∷ f) [] x y p q e = right k f refl (sym e)
cuts (k ∷ f) (l ∷ h) x y p q e =
    let w = same_word k.0 l.0 k.1 l.1 (joined f ++ x) (joined h ++ y) p.0 q.0 p.1 q.1 (sym (next_joined k.0 k.1 f x) ∙ e ∙ next_joined l.0 l.1 h y) in
    more (ends k l w.0 w.1) (cuts f h x y p.2 q.2 w.2)
  where
    ends : (k l : Ended) → k.0 ≡ l.0 → k.1 ≡ l.1 → k ≡ l
    ends k l a b = λ i. (a i, b i)

    more : k ≡ l → Cuts f h x y → Cuts (k ∷ f) (l ∷ h) x y
    more a (same b c) = same (ap (λ z. z ∷ f) a ∙ ap (λ z. l ∷ z) b) c
    more a (left e es b c) = left e es (ap (λ z. l ∷ z) b ∙ ap (λ z. z ∷ (f ++ e ∷ es)) (sym a)) c
    more a (right e es b c) = right e es (ap (λ z. z ∷ f) a ∙ ap (λ z. l ∷ z) b) c
