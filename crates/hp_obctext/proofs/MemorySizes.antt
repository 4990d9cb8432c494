-- How long a checkpoint is.
use Rattle.std.proofs.Common.{◌≡◌, ℕ, ◌<◌, ◌≤◌, ◌+◌, suc, zero, true, false, List, [], ◌∷◌, ◌++◌, length, get_or, drop, min, map, ◌⊎◌, refl, sym, ap, subst, ◌∙◌, arith, length-append, append_assoc}
use Rattle.std.specs.Prelude.{codes}
use Rattle.std.specs.List.{sum_by}
use Rattle.std.specs.Int.Signed.{mag}
use Rattle.std.proofs.lemmas.Fmt.{length_signed_le}
use Rattle.std.proofs.lemmas.List.{drop_all}
use Rattle.std.proofs.lemmas.List.Sums.{sum_by-cons}
use Rattle.hp_base.specs.declared.value.Value.{Value}
use Rattle.hp_base.specs.declared.value.Value.TheVariants.{Absent, Nil, B, E, I, Star}
use Rattle.hp_base.specs.Kinds.{KindData, Bools, Ints, Constructors, IsOfKind, AreOfKinds}
use Rattle.hp_lines.specs.Lines.{text_of, texts_of, longest, longest_word, word_room}
use Rattle.hp_obc.specs.Machines.{ObcType}
use Rattle.hp_obctext.specs.MemoryTexts.{joined, value_lines}
use Rattle.hp_obctext.specs.MemoryKinds.{constructors_at, kind_at, kinds_at, AreOfTypes, memory_text, longest_text, memory_bound}

pub longest_bounds : (names : List (List ℕ)) (i : ℕ) (d : List ℕ) → i < length names → length (get_or names i d) ≤ longest names
longest_bounds [] i d h = absurd (omega (arith, h))
longest_bounds (name ∷ names) zero d h = omega arith
longest_bounds (name ∷ names) (suc i) d h = omega (arith, longest_bounds names i d (omega (arith, h)))

-- a word is as long as the longest one at most
text_is_bounded : (kind : KindData) (value : Value) → IsOfKind kind value → length (text_of kind value) ≤ longest_word kind
text_is_bounded Bools (B true) h = omega arith
text_is_bounded Bools (B false) h = omega arith
text_is_bounded Bools Absent h = absurd h
text_is_bounded Bools Nil h = absurd h
text_is_bounded Bools Star h = absurd h
text_is_bounded Bools (E t c) h = absurd h
text_is_bounded Bools (I n) h = absurd h
text_is_bounded Ints (I n) h = let f : mag n < 2147483648 = h.sfits in length_signed_le 10 n (omega (arith, f)) (omega (arith, f))
text_is_bounded Ints Absent h = absurd h
text_is_bounded Ints Nil h = absurd h
text_is_bounded Ints Star h = absurd h
text_is_bounded Ints (E t c) h = absurd h
text_is_bounded Ints (B b) h = absurd h
text_is_bounded (Constructors number names) (E t c) h = longest_bounds names c [] h.1
text_is_bounded (Constructors number names) Absent h = absurd h
text_is_bounded (Constructors number names) Nil h = absurd h
text_is_bounded (Constructors number names) Star h = absurd h
text_is_bounded (Constructors number names) (I n) h = absurd h
text_is_bounded (Constructors number names) (B b) h = absurd h

lines_are_bounded : (kinds : List KindData) (values : List Value) → AreOfKinds kinds values → length (joined (value_lines (texts_of kinds values))) ≤ sum_by word_room kinds + 4
lines_are_bounded [] [] h = omega arith
lines_are_bounded [] (value ∷ values) h = absurd h
lines_are_bounded (kind ∷ kinds) [] h = absurd h
lines_are_bounded (kind ∷ kinds) (value ∷ values) h =
    omega (arith, sum_by-cons word_room kind kinds, text_is_bounded kind value h.0, lines_are_bounded kinds values h.1, length-append (text_of kind value) (10 ∷ joined (value_lines (texts_of kinds values))))

-- ---- the kind of a value is told by another of the kind

same_kind : (types : List ObcType) (u v : Value) → IsOfKind (kind_at types u) u → IsOfKind (kind_at types u) v → kind_at types v ≡ kind_at types u
same_kind types (B b) (B c) h k = refl
same_kind types (I m) (I n) h k = refl
same_kind types (E t c) (E s d) h k = ap (λ n. Constructors n (constructors_at types n)) k.0
same_kind types (B b) (I n) h k = absurd k
same_kind types (B b) (E s d) h k = absurd k
same_kind types (B b) Absent h k = absurd k
same_kind types (B b) Nil h k = absurd k
same_kind types (B b) Star h k = absurd k
same_kind types (I m) (B c) h k = absurd k
same_kind types (I m) (E s d) h k = absurd k
same_kind types (I m) Absent h k = absurd k
same_kind types (I m) Nil h k = absurd k
same_kind types (I m) Star h k = absurd k
same_kind types (E t c) (B d) h k = absurd k
same_kind types (E t c) (I n) h k = absurd k
same_kind types (E t c) Absent h k = absurd k
same_kind types (E t c) Nil h k = absurd k
same_kind types (E t c) Star h k = absurd k
same_kind types Absent v h k = absurd h
same_kind types Nil v h k = absurd h
same_kind types Star v h k = absurd h

pub same_kinds : (types : List ObcType) (us vs : List Value) → AreOfTypes types us → AreOfKinds (kinds_at types us) vs → kinds_at types vs ≡ kinds_at types us
same_kinds types [] [] h k = refl
same_kinds types [] (v ∷ vs) h k = absurd k
same_kinds types (u ∷ us) [] h k = absurd k
same_kinds types (u ∷ us) (v ∷ vs) h k = ap (λ z. z ∷ kinds_at types vs) (same_kind types u v h.0 k.0) ∙ ap (λ z. kind_at types u ∷ z) (same_kinds types us vs h.1 k.1)

text_is_within : (types : List ObcType) (node : List ℕ) (us vs : List Value) → AreOfTypes types us → AreOfKinds (kinds_at types us) vs → length (memory_text types node vs) ≤ longest_text node (kinds_at types us)
text_is_within types node us vs h k =
    let lines = joined (value_lines (texts_of (kinds_at types vs) vs)) in
    let e = ap (λ ks. length (joined (value_lines (texts_of ks vs)))) (same_kinds types us vs h k) in
    let b = lines_are_bounded (kinds_at types us) vs k in
    omega (arith, e, b, length-append node (10 ∷ lines))

pub text_is_bounded_by : (types : List ObcType) (node : List ℕ) (us vs : List Value) (room : ℕ) → room ≡ memory_bound node (kinds_at types us) → AreOfTypes types us → AreOfKinds (kinds_at types us) vs →
    (length (memory_text types node vs) ≤ room) ⊎ (room ≡ 18446744073709551615)
text_is_bounded_by types node us vs room e h k = let w = text_is_within types node us vs h k in grind arith

-- ---- a checkpoint, part by part

pub written : (types : List ObcType) (node : List ℕ) (values : List Value) (old a b c d : List ℕ) → a ≡ old ++ codes "hept-mem 1\nnode " → b ≡ a ++ node → c ≡ b ++ codes "\n" →
    d ≡ c ++ joined (value_lines (texts_of (kinds_at types values) values)) → d ≡ old ++ memory_text types node values
written types node values old a b c d p q r s =
    let lines = joined (value_lines (texts_of (kinds_at types values) values)) in
    let head = codes "hept-mem 1\nnode " in
    s ∙ ap (λ z. z ++ lines) (r ∙ ap (λ z. z ++ codes "\n") (q ∙ ap (λ z. z ++ node) p))
    ∙ append_assoc ((old ++ head) ++ node) (codes "\n") lines ∙ append_assoc (old ++ head) node (codes "\n" ++ lines) ∙ append_assoc old head (node ++ (codes "\n" ++ lines))

-- behind the last value
pub room_end : (types : List ObcType) (values : List Value) (i room bound : ℕ) → length values ≤ i → room ≤ 18446744073709551615 → min 18446744073709551615 (room + sum_by word_room (kinds_at types (drop i values))) ≡ bound → room ≡ bound
room_end types values i room bound h k e =
    let none : sum_by word_room (kinds_at types (drop i values)) ≡ 0 = ap (λ vs. sum_by word_room (kinds_at types vs)) (drop_all i values h) in
    omega (arith, none, e, k)
