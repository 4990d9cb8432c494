-- What is shown of the outputs of a machine: the values, and their kinds.
use Rattle.std.proofs.Common.{◌≡◌, ◌<◌, ◌+◌, ◌++◌, ◌∷◌, [], true, false, List, ℕ, zero, suc, codes, length, take, slice_set, slice_index_or, get_or, refl, sym, ap, subst, ◌∙◌, arith}
use Rattle.std.proofs.lemmas.List.{append_assoc}
use Rattle.hp_base.specs.declared.kind.Kind.{Kind}
use Rattle.hp_base.specs.declared.value.Value.{Value}
use Rattle.hp_base.specs.declared.value.Value.TheVariants.{Absent, B, I, E, Nil, Star}
use Rattle.hp_base.specs.Kinds.{AreOfKinds, IsOfKind, KindData, Constructors, kind_seen}
use Rattle.hp_base.specs.SignatureView.{kinds_seen}
use Rattle.hp_driver.specs.Telling.{count_before, shown_kinds, shown_values, word, word_kinds, words_behind}
use Rattle.hp_driver.specs.declared.telling.Ending.{Ending}

-- two values behind some others
set_next : {X : Type 0} (xs rest : List X) (k : ℕ) (a b : X) → length xs ≡ k → length rest ≡ 2 → slice_set (slice_set (xs ++ rest) k a) (suc k) b ≡ xs ++ a ∷ b ∷ []
set_next [] [] zero a b e h = absurd (omega (arith, h))
set_next [] (x ∷ []) zero a b e h = absurd (omega (arith, h))
set_next [] (x ∷ y ∷ []) zero a b e h = refl
set_next [] (x ∷ y ∷ z ∷ rest) zero a b e h = absurd (omega (arith, h))
set_next [] rest (suc k) a b e h = absurd (omega (arith, e))
set_next (x ∷ xs) rest zero a b e h = absurd (omega (arith, e))
set_next (x ∷ xs) rest (suc k) a b e h = ap (λ z. x ∷ z) (set_next xs rest k a b (omega (arith, e)) h)

pub set_two : {X : Type 0} (xs rest : List X) (k : ℕ) (a b : X) → length xs ≡ k → length rest ≡ 2 → slice_set (slice_set (xs ++ rest) k a) (k + 1) b ≡ xs ++ a ∷ b ∷ []
set_two xs rest k a b e h =
    let same : k + 1 ≡ suc k = omega arith
    in ap (λ j. slice_set (slice_set (xs ++ rest) k a) j b) same ∙ set_next xs rest k a b e h

-- one more of the first so many kinds
next_kind : (ports : List (List ℕ × Kind)) (d : List ℕ × Kind) (i : ℕ) → i < length ports → take (suc i) (kinds_seen ports) ≡ take i (kinds_seen ports) ++ kind_seen (get_or ports i d).1 ∷ []
next_kind [] d i h = absurd (omega (arith, h))
next_kind (port ∷ ports) d zero h = refl
next_kind (port ∷ ports) d (suc i) h = ap (λ z. kind_seen port.1 ∷ z) (next_kind ports d i (omega (arith, h)))

pub kind_added : (before old new : List KindData) (kind : KindData) (ports : List (List ℕ × Kind)) (d : List ℕ × Kind) (i : ℕ) → i < length ports
    → old ≡ before ++ take i (kinds_seen ports) → new ≡ old ++ kind ∷ [] → kind ≡ kind_seen (get_or ports i d).1 → new ≡ before ++ take (i + 1) (kinds_seen ports)
kind_added before old new kind ports d i h so_far added is =
    let next : i + 1 ≡ suc i = omega arith in
    added
    ∙ ap (λ z. z ++ kind ∷ []) so_far
    ∙ append_assoc before (take i (kinds_seen ports)) (kind ∷ [])
    ∙ ap (λ z. before ++ (take i (kinds_seen ports) ++ z ∷ [])) is
    ∙ ap (λ z. before ++ z) (sym (next_kind ports d i h))
    ∙ ap (λ j. before ++ take j (kinds_seen ports)) (sym next)

-- the kinds of the words, behind some others
pub words_added : (none some next now kinds : List KindData) (assumed enforced a e : KindData) → none ≡ [] → some ≡ none ++ kinds → assumed ≡ a → enforced ≡ e → next ≡ some ++ assumed ∷ [] → now ≡ next ++ enforced ∷ []
    → now ≡ kinds ++ a ∷ e ∷ []
words_added none some next now kinds assumed enforced a e empty first is_a is_e then last =
    last
    ∙ ap (λ z. z ++ enforced ∷ []) then
    ∙ append_assoc some (assumed ∷ []) (enforced ∷ [])
    ∙ ap (λ z. z ++ assumed ∷ enforced ∷ []) first
    ∙ ap (λ z. (z ++ kinds) ++ assumed ∷ enforced ∷ []) empty
    ∙ ap (λ z. kinds ++ z ∷ enforced ∷ []) is_a
    ∙ ap (λ z. kinds ++ a ∷ z ∷ []) is_e

-- ---- what is shown is of its kinds

taken : (n : ℕ) (kinds : List KindData) (values : List Value) → AreOfKinds kinds values → AreOfKinds (take n kinds) (take n values)
taken zero kinds values h = tt
taken (suc n) [] [] h = tt
taken (suc n) [] (value ∷ values) h = elim h [ ]
taken (suc n) (kind ∷ kinds) [] h = elim h [ ]
taken (suc n) (kind ∷ kinds) (value ∷ values) h = (h.0, taken n kinds values h.1)

behind : (kinds more : List KindData) (values others : List Value) → AreOfKinds kinds values → AreOfKinds more others → AreOfKinds (kinds ++ more) (values ++ others)
behind [] more [] others h k = k
behind [] more (value ∷ values) others h k = elim h [ ]
behind (kind ∷ kinds) more [] others h k = elim h [ ]
behind (kind ∷ kinds) more (value ∷ values) others h k = (h.0, behind kinds more values others h.1 k)

word_is : (number : ℕ) (value : Value) (first second : List ℕ) → IsOfKind (Constructors number (first ∷ second ∷ [])) (word number value)
word_is number (B true) first second = (refl, omega arith)
word_is number (B false) first second = (refl, omega arith)
word_is number (I n) first second = (refl, omega arith)
word_is number (E t c) first second = (refl, omega arith)
word_is number Absent first second = (refl, omega arith)
word_is number Nil first second = (refl, omega arith)
word_is number Star first second = (refl, omega arith)

many : (kinds : List KindData) (values : List Value) → AreOfKinds kinds values → length values ≡ length kinds
many [] [] h = refl
many [] (value ∷ values) h = elim h [ ]
many (kind ∷ kinds) [] h = elim h [ ]
many (kind ∷ kinds) (value ∷ values) h = ap suc (many kinds values h.1)

pub shown_of_kinds : (ending : Ending) (kinds : List KindData) (outputs : List Value) → AreOfKinds kinds outputs → AreOfKinds (shown_kinds ending kinds) (shown_values ending outputs)
shown_of_kinds ending kinds outputs h =
    let count = count_before ending (length kinds) in
    let words_are : AreOfKinds word_kinds (words_behind count outputs) =
    (word_is 65534 (slice_index_or outputs count (B true)) (codes "assume=false") (codes "assume=true"), (word_is 65535 (slice_index_or outputs (count + 1) (B true)) (codes "enforce=false") (codes "enforce=true"), tt)) in
    subst (λ n. AreOfKinds (shown_kinds ending kinds) (take (count_before ending n) outputs ++ words_behind (count_before ending n) outputs)) (sym (many kinds outputs h))
    (behind (take count kinds) word_kinds (take count outputs) (words_behind count outputs) (taken count kinds outputs h) words_are)
