-- The values that the words of a checkpoint spell.
use Rattle.std.proofs.Common.{◌≡◌, ◌<◌, ◌≤◌, ◌+◌, ◌-◌, ℕ, zero, suc, Bool, true, false, ◌&&◌, ◌==◌, if◌then◌else◌, ℤ, pos, negsuc, List, [], ◌∷◌, ◌++◌, length, get_or, take, drop, map, Option, None, Some, option_map, refl, sym, ap, subst, ◌∙◌, append_assoc, append-nil, arith}
use Rattle.std.specs.Prelude.{codes, IsSome}
use Rattle.std.proofs.lemmas.List.{at_drop_more, drop_all}
use Rattle.hp_base.specs.declared.value.Value.{Value}
use Rattle.hp_base.specs.Kinds.{KindData}
use Rattle.hp_lines.specs.Refusals.{wrong_word}
use Rattle.hp_lines.specs.Values.{value_of, with_value, values_of}
use Rattle.hp_obc.specs.Machines.{ObcType}
use Rattle.hp_obctext.specs.MemoryKinds.{kind_at, kinds_at}
use Rattle.hp_obctext.specs.MemoryReading.{first_word, next, first_words}
use Rattle.hp_lines.proofs.ReadLaws.{Spells, spells}

-- ---- word by word

kinds_step : (types : List ObcType) (now : List Value) (i : ℕ) (d : Value) → i < length now → kinds_at types (drop i now) ≡ kind_at types (get_or now i d) ∷ kinds_at types (drop (i + 1) now)
kinds_step types now i d h = at_drop_more (kinds_at types) now i d h

words_step : (n i : ℕ) (text : List ℕ) → i < n → first_words (n - i) text ≡ first_word text ∷ first_words (n - (i + 1)) (next text)
words_step n i text h = let e : n - i ≡ suc (n - (i + 1)) = omega (arith, h) in ap (λ k. first_words k text) e

wrong_first : (k : ℕ) (kind : KindData) (kinds : List KindData) (w : List ℕ) (ws : List (List ℕ)) (v : Value) → value_of kind w ≡ Some v → wrong_word k (kind ∷ kinds) (w ∷ ws) ≡ wrong_word (k + 1) kinds ws
wrong_first k kind kinds w ws v e =
    let same : suc k ≡ k + 1 = omega arith in
    ap (λ (o : Option Value). elim o [ None ↦ Some k | Some v ↦ wrong_word (suc k) kinds ws ]) e ∙ ap (λ m. wrong_word m kinds ws) same

pub wrong_step : (types : List ObcType) (now : List Value) (i : ℕ) (d v : Value) (text : List ℕ) → i < length now → value_of (kind_at types (get_or now i d)) (first_word text) ≡ Some v →
    wrong_word (i + 1) (kinds_at types (drop i now)) (first_words (length now - i) text) ≡ wrong_word (i + 1 + 1) (kinds_at types (drop (i + 1) now)) (first_words (length now - (i + 1)) (next text))
wrong_step types now i d v text h e =
    ap (λ ks. wrong_word (i + 1) ks (first_words (length now - i) text)) (kinds_step types now i d h)
    ∙ ap (wrong_word (i + 1) (kind_at types (get_or now i d) ∷ kinds_at types (drop (i + 1) now))) (words_step (length now) i text h)
    ∙ wrong_first (i + 1) (kind_at types (get_or now i d)) (kinds_at types (drop (i + 1) now)) (first_word text) (first_words (length now - (i + 1)) (next text)) v e

pub wrong_here : (types : List ObcType) (now : List Value) (i : ℕ) (d : Value) (text : List ℕ) → i < length now → value_of (kind_at types (get_or now i d)) (first_word text) ≡ None →
    wrong_word (i + 1) (kinds_at types (drop i now)) (first_words (length now - i) text) ≡ Some (i + 1)
wrong_here types now i d text h e =
    ap (λ ks. wrong_word (i + 1) ks (first_words (length now - i) text)) (kinds_step types now i d h)
    ∙ ap (wrong_word (i + 1) (kind_at types (get_or now i d) ∷ kinds_at types (drop (i + 1) now))) (words_step (length now) i text h)
    ∙ ap (λ (o : Option Value). elim o [ None ↦ Some (i + 1) | Some v ↦ wrong_word (suc (i + 1)) (kinds_at types (drop (i + 1) now)) (first_words (length now - (i + 1)) (next text)) ]) e

pub wrong_end : (types : List ObcType) (now : List Value) (i : ℕ) (text : List ℕ) → length now ≤ i → wrong_word (i + 1) (kinds_at types (drop i now)) (first_words (length now - i) text) ≡ None
wrong_end types now i text h = ap (λ vs. wrong_word (i + 1) (kinds_at types vs) (first_words (length now - i) text)) (drop_all i now h)

-- the next value, and what the words behind it spell
pub fill_step : (types : List ObcType) (now : List Value) (i : ℕ) (d : Value) (text : List ℕ) (values : List Value) → i < length now → values_of (kinds_at types (drop i now)) (first_words (length now - i) text) ≡ Some values →
    Spells (kind_at types (get_or now i d)) (kinds_at types (drop (i + 1) now)) (first_word text) (first_words (length now - (i + 1)) (next text)) values
fill_step types now i d text values h e =
    spells (kind_at types (get_or now i d)) (kinds_at types (drop (i + 1) now)) (first_word text) (first_words (length now - (i + 1)) (next text)) values
    (sym (ap (λ ks. values_of ks (first_words (length now - i) text)) (kinds_step types now i d h)
    ∙ ap (values_of (kind_at types (get_or now i d) ∷ kinds_at types (drop (i + 1) now))) (words_step (length now) i text h)) ∙ e)

pub fill_end : (types : List ObcType) (now : List Value) (i : ℕ) (text : List ℕ) (values : List Value) → length now ≤ i → values_of (kinds_at types (drop i now)) (first_words (length now - i) text) ≡ Some values → values ≡ []
fill_end types now i text values h e =
    let none : length now - i ≡ 0 = omega (arith, h) in
    by values (sym (ap (λ vs. values_of (kinds_at types vs) (first_words (length now - i) text)) (drop_all i now h) ∙ ap (λ n. values_of [] (first_words n text)) none) ∙ e)
  where
    by : (values : List Value) → ◌≡◌ {A = Option (List Value)} (Some []) (Some values) → values ≡ []
    by values p = cc

pub some_is : {A : Type 0} (o : Option A) → IsSome o → (x : A) × (o ≡ Some x)
some_is None h = absurd cc
some_is (Some x) h = (x, refl)

pub same_some : {A : Type 0} (x y : A) → ◌≡◌ {A = Option A} (Some x) (Some y) → x ≡ y
same_some x y e = cc
