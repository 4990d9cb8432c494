-- The values of a line, word by word.
use Rattle.std.proofs.Common.{◌≡◌, ℕ, ◌+◌, ◌<◌, suc, Bool, true, false, ◌==◌, if◌then◌else◌, List, [], ◌∷◌, length, get_or, drop, Option, None, Some, IsSome, option_map, refl, sym, ap, ◌∙◌, arith}
use Rattle.std.proofs.lemmas.Bool.{eqb-true}
use Rattle.std.proofs.lemmas.List.{at_drop_more}
use Rattle.hp_base.specs.declared.kind.Kind.{Kind}
use Rattle.hp_base.specs.declared.value.Value.{Value}
use Rattle.hp_base.specs.Kinds.{KindData, kind_seen}
use Rattle.hp_base.specs.SignatureView.{kinds_seen}
use Rattle.hp_lines.specs.Values.{value_of, with_value, values_of}
use Rattle.hp_lines.specs.declared.read.LineErr.{LineErr}
use Rattle.hp_lines.specs.declared.read.LineErr.TheVariants.{Count, Word}
use Rattle.hp_lines.specs.Refusals.{wrong_word, refusal}

-- the kinds from a port on
pub kinds_from : (ports : List (List ℕ × Kind)) (i : ℕ) (port : List ℕ × Kind) → i < length ports → port ≡ get_or ports i port → kinds_seen (drop i ports) ≡ kind_seen port.1 ∷ kinds_seen (drop (i + 1) ports)
kinds_from ports i port h is =
    at_drop_more kinds_seen ports i port h ∙ ap (λ (q : List ℕ × Kind). kind_seen q.1 ∷ kinds_seen (drop (i + 1) ports)) (sym is)

-- what the first word gives, and what the others do
pub record Spells (kind : KindData) (kinds : List KindData) (w : List ℕ) (ws : List (List ℕ)) (values : List Value) : Type 0 where
  pub value : Value
  pub others : List Value
  pub first_is : value_of kind w ≡ Some value
  pub others_are : values_of kinds ws ≡ Some others
  pub all : values ≡ value ∷ others

spells_by : (a : Option Value) (b : Option (List Value)) (values : List Value) → with_value a b ≡ Some values →
    (v : Value) × (vs : List Value) × (a ≡ Some v) × (b ≡ Some vs) × (values ≡ v ∷ vs)
spells_by (Some v) (Some vs) values e = (v, vs, refl, refl, cc)
spells_by (Some v) None values e = absurd (cc)
spells_by None b values e = absurd (cc)

pub spells : (kind : KindData) (kinds : List KindData) (w : List ℕ) (ws : List (List ℕ)) (values : List Value) → values_of (kind ∷ kinds) (w ∷ ws) ≡ Some values → Spells kind kinds w ws values
spells kind kinds w ws values e =
    let s = spells_by (value_of kind w) (values_of kinds ws) values e in
    record { value = s.0; others = s.1; first_is = s.2; others_are = s.3; all = s.4 }

-- a line without words spells no value of a kind
pub no_word : (kind : KindData) (kinds : List KindData) (ws : List (List ℕ)) (values : List Value) → ws ≡ [] → values_of (kind ∷ kinds) ws ≡ Some values → ⊥
no_word kind kinds [] values h e = cc
no_word kind kinds (w ∷ ws) values h e = cc

-- the first wrong word so far, or else another
abbrev pub first_or : Option ℕ → Option ℕ → Option ℕ
first_or (Some w) other = Some w
first_or None other = other

-- a line that spells values is not refused
pub unrefused : (kinds : List KindData) (ws : List (List ℕ)) → None ≡ refusal kinds ws → (length ws ≡ length kinds) × (wrong_word 1 kinds ws ≡ None)
unrefused kinds ws h = unrefused_by (length ws == length kinds) refl h
  where
    no_word_wrong : (o : Option ℕ) → ◌≡◌ {A = Option LineErr} None (option_map Word o) → o ≡ None
    no_word_wrong None e = refl
    no_word_wrong (Some w) e = absurd (cc)

    unrefused_by : (d : Bool) → (length ws == length kinds) ≡ d → None ≡ (if d then option_map Word (wrong_word 1 kinds ws) else Some (Count (length ws))) → (length ws ≡ length kinds) × (wrong_word 1 kinds ws ≡ None)
    unrefused_by true t e = (eqb-true (length ws) (length kinds) t, no_word_wrong (wrong_word 1 kinds ws) e)
    unrefused_by false t e = absurd (cc)

-- as many words as kinds, and no wrong one: they spell values
spelled_by : (r : Option Value) (n : ℕ) (kinds : List KindData) (ws : List (List ℕ)) → ◌≡◌ {A = Option ℕ} (elim r [ None ↦ Some n | Some v ↦ wrong_word (suc n) kinds ws ]) None → (wrong_word (suc n) kinds ws ≡ None → (vs : List Value) × (values_of kinds ws ≡ Some vs)) → (vs : List Value) × (with_value r (values_of kinds ws) ≡ Some vs)
spelled_by None n kinds ws e h = absurd (cc)
spelled_by (Some v) n kinds ws e h = let s = h e in (v ∷ s.0, ap (with_value (Some v)) s.1)

pub spelled : (n : ℕ) (kinds : List KindData) (ws : List (List ℕ)) → length ws ≡ length kinds → wrong_word n kinds ws ≡ None → (vs : List Value) × (values_of kinds ws ≡ Some vs)
spelled n [] [] l e = ([], refl)
spelled n [] (w ∷ ws) l e = absurd (omega (arith, l))
spelled n (kind ∷ kinds) [] l e = absurd (omega (arith, l))
spelled n (kind ∷ kinds) (w ∷ ws) l e = spelled_by (value_of kind w) n kinds ws e (spelled (suc n) kinds ws (omega (arith, l)))

pub is_spelled : (n : ℕ) (kinds : List KindData) (ws : List (List ℕ)) → length ws ≡ length kinds → wrong_word n kinds ws ≡ None → IsSome (values_of kinds ws)
is_spelled n kinds ws l e = let s = spelled n kinds ws l e in rw s.1 refl

pub length_kinds : (ports : List (List ℕ × Kind)) → length (kinds_seen ports) ≡ length ports
length_kinds [] = refl
length_kinds (port ∷ ports) = ap suc (length_kinds ports)
