-- How long a line is.
use Rattle.std.proofs.Common.{◌≡◌, ℕ, ◌<◌, ◌≤◌, suc, zero, true, false, List, [], ◌∷◌, ◌++◌, length, get_or, take, drop, ◌-◌, ◌⊎◌, refl, sym, ap, ◌∙◌, arith, length-append, append_assoc}
use Rattle.std.specs.List.{join_with_byte, sum_by}
use Rattle.std.specs.Int.Signed.{mag}
use Rattle.std.proofs.lemmas.Fmt.{length_signed_le}
use Rattle.std.proofs.lemmas.List.{append-nil, take_all}
use Rattle.std.proofs.lemmas.List.Sums.{sum_by-cons}
use Rattle.hp_base.specs.declared.value.Value.{Value}
use Rattle.hp_base.specs.declared.value.Value.TheVariants.{Absent, Nil, B, E, I, Star}
use Rattle.hp_base.specs.declared.kind.Kind.{Kind}
use Rattle.hp_base.specs.SignatureView.{kinds_seen}
use Rattle.hp_base.specs.Kinds.{kind_seen, KindData, Bools, Ints, Constructors, IsOfKind, AreOfKinds}
use Rattle.hp_lines.specs.Lines.{text_of, texts_of, spaced, line_of, longest, longest_word, longest_line, line_bound, word_room}

pub longest_bounds : (names : List (List ℕ)) (i : ℕ) (d : List ℕ) → i < length names → length (get_or names i d) ≤ longest names
longest_bounds [] i d h = absurd (omega (arith, h))
longest_bounds (name ∷ names) zero d h = omega arith
longest_bounds (name ∷ names) (suc i) d h = omega (arith, longest_bounds names i d (omega (arith, h)))

-- a word is as long as the longest one at most
pub text_is_bounded : (kind : KindData) (value : Value) → IsOfKind kind value → length (text_of kind value) ≤ longest_word kind
text_is_bounded Bools (B true) h = omega arith
text_is_bounded Bools (B false) h = omega arith
text_is_bounded Bools Absent h = absurd h
text_is_bounded Bools Nil h = absurd h
text_is_bounded Bools Star h = absurd h
text_is_bounded Bools (E t c) h = absurd h
text_is_bounded Bools (I n) h = absurd h
text_is_bounded Ints (I n) h = let f : mag n < 2147483648 = h.sfits in length_signed_le 10 n (omega (arith, f)) (omega (arith, f))
text_is_bounded Ints Absent h = absurd h
text_is_bounded Ints Nil h = absurd h
text_is_bounded Ints Star h = absurd h
text_is_bounded Ints (E t c) h = absurd h
text_is_bounded Ints (B b) h = absurd h
text_is_bounded (Constructors number names) (E t c) h = longest_bounds names c [] h.1
text_is_bounded (Constructors number names) Absent h = absurd h
text_is_bounded (Constructors number names) Nil h = absurd h
text_is_bounded (Constructors number names) Star h = absurd h
text_is_bounded (Constructors number names) (I n) h = absurd h
text_is_bounded (Constructors number names) (B b) h = absurd h

pub as_many_values : (kinds : List KindData) (values : List Value) → AreOfKinds kinds values → length values ≡ length kinds
as_many_values [] [] h = refl
as_many_values [] (value ∷ values) h = absurd h
as_many_values (kind ∷ kinds) [] h = absurd h
as_many_values (kind ∷ kinds) (value ∷ values) h = ap suc (as_many_values kinds values h.1)

-- words with a space between them are the first one, and the others with a space in front
pub joined : (w : List ℕ) (ws : List (List ℕ)) → join_with_byte 32 (w ∷ ws) ≡ w ++ spaced ws
joined w [] = sym (append-nil w)
joined w (v ∷ ws) = ap (λ rest. w ++ (32 ∷ rest)) (joined v ws)

spaced_is_bounded : (kinds : List KindData) (values : List Value) → AreOfKinds kinds values → length (spaced (texts_of kinds values)) ≤ sum_by word_room kinds
spaced_is_bounded [] [] h = omega arith
spaced_is_bounded [] (value ∷ values) h = absurd h
spaced_is_bounded (kind ∷ kinds) [] h = absurd h
spaced_is_bounded (kind ∷ kinds) (value ∷ values) h =
    omega (arith, sum_by-cons word_room kind kinds, text_is_bounded kind value h.0, spaced_is_bounded kinds values h.1, length-append (text_of kind value) (spaced (texts_of kinds values)))

line_is_within : (kinds : List KindData) (values : List Value) → AreOfKinds kinds values → length (line_of kinds values) ≤ longest_line kinds
line_is_within [] [] h = omega arith
line_is_within [] (value ∷ values) h = absurd h
line_is_within (kind ∷ kinds) [] h = absurd h
line_is_within (kind ∷ kinds) (value ∷ values) h =
    let w = text_of kind value in
    let ws = texts_of kinds values in
    omega (arith, sum_by-cons word_room kind kinds, text_is_bounded kind value h.0, spaced_is_bounded kinds values h.1, length-append w (spaced ws), ap length (joined w ws), length-append (join_with_byte 32 (w ∷ ws)) (10 ∷ []))

pub line_is_bounded : (kinds : List KindData) (values : List Value) → AreOfKinds kinds values → (length (line_of kinds values) ≤ line_bound kinds) ⊎ (line_bound kinds ≡ 18446744073709551615)
line_is_bounded kinds values h = let k = line_is_within kinds values h in grind arith

-- the first word, and the others behind it
first_and_more : (port : List ℕ × Kind) (ports : List (List ℕ × Kind)) (value : Value) (values : List Value) (old mid new : List ℕ) →
    mid ≡ old ++ text_of (kind_seen port.1) value → new ≡ mid ++ spaced (texts_of (kinds_seen ports) values) →
    new ≡ old ++ join_with_byte 32 (text_of (kind_seen port.1) value ∷ texts_of (kinds_seen ports) values)
first_and_more port ports value values old mid new h k =
    let w = text_of (kind_seen port.1) value in
    let ws = texts_of (kinds_seen ports) values in
    k ∙ ap (λ m. m ++ spaced ws) h ∙ append_assoc old w (spaced ws) ∙ ap (λ l. old ++ l) (sym (joined w ws))

pub words_from_first : (ports : List (List ℕ × Kind)) (values : List Value) (port : List ℕ × Kind) (d : Value) (old mid new : List ℕ) →
    0 < length ports → length values ≡ length ports →
    mid ≡ old ++ text_of (kind_seen (get_or ports 0 port).1) (get_or values 0 d) →
    new ≡ mid ++ spaced (texts_of (kinds_seen (take (length ports - 1) (drop 1 ports))) (take (length values - 1) (drop 1 values))) →
    new ≡ old ++ join_with_byte 32 (texts_of (kinds_seen ports) values)
words_from_first [] values port d old mid new l e h k = absurd (omega (arith, l))
words_from_first (first ∷ ports) [] port d old mid new l e h k = absurd (omega (arith, e))
words_from_first (first ∷ ports) (value ∷ values) port d old mid new l e h k =
    first_and_more first ports value values old mid new h
    (k
    ∙ ap (λ ps. mid ++ spaced (texts_of (kinds_seen ps) (take (length (value ∷ values) - 1) values))) (take_all (length (first ∷ ports) - 1) ports (omega arith))
    ∙ ap (λ vs. mid ++ spaced (texts_of (kinds_seen ports) vs)) (take_all (length (value ∷ values) - 1) values (omega arith)))
