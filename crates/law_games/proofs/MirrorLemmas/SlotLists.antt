-- Slots in lists: their places by kind, and the values at these.
use Rattle.std.proofs.Common.{◌≡◌, List, [], ◌∷◌, ◌++◌, map, refl, sym, ap, ap₂, subst, ◌∙◌, ◌⊎◌, inl, inr}
use Rattle.std.specs.Prelude.{Bool, true, false, IsTrue, if◌then◌else◌, ⊤}
use Rattle.hp_base.specs.declared.value.Value.{Value}
use Rattle.hp_base.specs.declared.value.Value.TheVariants.{Absent}
use Rattle.hp_tree.specs.Programs.{TypeDecl}
use Rattle.hp_tree.specs.Instant.{Place, Instant}
use Rattle.hp_tree.specs.Values.{IsOf}
use Rattle.hp_boolx.specs.Search.{Bits}
use Rattle.hp_meaning.specs.Contract.Codes.{code}
use Rattle.hp_meaning.specs.Contract.FreePlaces.{IsFree}
use Rattle.hp_meaning.specs.Contract.Slots.{Slot, register, free, input, control, FreePlace, free_among}
use Rattle.law_games.specs.Mirror.Mirrored.{early_among, late_among, controls_among, codes_at, AreCodes}
use Rattle.law_games.specs.Mirror.Memories.{SlotsFit}

-- ---- values at places

abbrev pub values_at : List FreePlace → Instant → List Value
values_at ps i = map (λ p. i p.0) ps

abbrev pub head_of : List Value → Value
head_of [] = Absent
head_of (v ∷ vs) = v

abbrev pub tail_of : List Value → List Value
tail_of [] = []
tail_of (v ∷ vs) = vs

-- one value for each place, of its type
abbrev pub AreValues : List TypeDecl → List FreePlace → List Value → Type 0
AreValues types [] [] = ⊤
AreValues types (p ∷ ps) (v ∷ vs) = IsOf types p.1 v × AreValues types ps vs
AreValues types ps vs = ⊥

abbrev pub codes_of : List TypeDecl → List FreePlace → List Value → Bits
codes_of types [] vs = []
codes_of types (p ∷ ps) [] = []
codes_of types (p ∷ ps) (v ∷ vs) = code types p.1 v ++ codes_of types ps vs

pub codes_of_values : (types : List TypeDecl) (ps : List FreePlace) (i : Instant) → codes_at types ps i ≡ codes_of types ps (values_at ps i)
codes_of_values types [] i = refl
codes_of_values types (p ∷ ps) i = ap (λ bs. code types p.1 (i p.0) ++ bs) (codes_of_values types ps i)

-- codes are codes of values, and the other way
pub values_of_codes : (types : List TypeDecl) (ps : List FreePlace) (bs : Bits) → AreCodes types ps bs → (vs : List Value) × AreValues types ps vs × (bs ≡ codes_of types ps vs)
values_of_codes types [] bs c = ([], tt, c)
values_of_codes types (p ∷ ps) bs c =
    let more = values_of_codes types ps c.1 c.4 in
    (c.0 ∷ more.0, (c.2, more.1), c.3 ∙ ap (λ bs. code types p.1 c.0 ++ bs) more.2)

pub are_codes : (types : List TypeDecl) (ps : List FreePlace) (i : Instant) → AreValues types ps (values_at ps i) → AreCodes types ps (codes_at types ps i)
are_codes types [] i h = refl
are_codes types (p ∷ ps) i h = (i p.0, codes_at types ps i, h.0, refl, are_codes types ps i h.1)

-- ---- lists one behind the other

pub split : (types : List TypeDecl) (ps qs : List FreePlace) (vs : List Value) → AreValues types (ps ++ qs) vs → (us : List Value) × (bs : List Value) × AreValues types ps us × AreValues types qs bs × (vs ≡ us ++ bs)
split types [] qs vs h = ([], vs, tt, h, refl)
split types (p ∷ ps) qs [] h = absurd h
split types (p ∷ ps) qs (v ∷ vs) h =
    let more = split types ps qs vs h.1 in
    (v ∷ more.0, more.1, (h.0, more.2), more.3, ap (λ vs. v ∷ vs) more.4)

pub are_joined : (types : List TypeDecl) (ps qs : List FreePlace) (us bs : List Value) → AreValues types ps us → AreValues types qs bs → AreValues types (ps ++ qs) (us ++ bs)
are_joined types [] qs [] bs h k = k
are_joined types [] qs (a ∷ us) bs h k = absurd h
are_joined types (p ∷ ps) qs [] bs h k = absurd h
are_joined types (p ∷ ps) qs (a ∷ us) bs h k = (h.0, are_joined types ps qs us bs h.1 k)

pub values_joined : (ps qs : List FreePlace) (i : Instant) → values_at (ps ++ qs) i ≡ values_at ps i ++ values_at qs i
values_joined [] qs i = refl
values_joined (p ∷ ps) qs i = ap (λ vs. i p.0 ∷ vs) (values_joined ps qs i)

module _ (early : Place → Bool) where
  pub early_joined : (ss ts : List Slot) → early_among early (ss ++ ts) ≡ early_among early ss ++ early_among early ts
  early_joined [] ts = refl
  early_joined (register p k ∷ ss) ts = early_joined ss ts
  early_joined (input p t ∷ ss) ts = ap (λ ps. (p, t) ∷ ps) (early_joined ss ts)
  early_joined (control p t ∷ ss) ts = early_joined ss ts
  early_joined (free p t ∷ ss) ts = by (early p) (early_joined ss ts)
    where
      by : (b : Bool) → early_among early (ss ++ ts) ≡ early_among early ss ++ early_among early ts
          → (if b then (p, t) ∷ early_among early (ss ++ ts) else early_among early (ss ++ ts)) ≡ (if b then (p, t) ∷ early_among early ss else early_among early ss) ++ early_among early ts
      by true e = ap (λ ps. (p, t) ∷ ps) e
      by false e = e

  pub late_joined : (ss ts : List Slot) → late_among early (ss ++ ts) ≡ late_among early ss ++ late_among early ts
  late_joined [] ts = refl
  late_joined (register p k ∷ ss) ts = late_joined ss ts
  late_joined (input p t ∷ ss) ts = late_joined ss ts
  late_joined (control p t ∷ ss) ts = late_joined ss ts
  late_joined (free p t ∷ ss) ts = by (early p) (late_joined ss ts)
    where
      by : (b : Bool) → late_among early (ss ++ ts) ≡ late_among early ss ++ late_among early ts
          → (if b then late_among early (ss ++ ts) else (p, t) ∷ late_among early (ss ++ ts)) ≡ (if b then late_among early ss else (p, t) ∷ late_among early ss) ++ late_among early ts
      by true e = e
      by false e = ap (λ ps. (p, t) ∷ ps) e

pub controls_joined : (ss ts : List Slot) → controls_among (ss ++ ts) ≡ controls_among ss ++ controls_among ts
controls_joined [] ts = refl
controls_joined (register p k ∷ ss) ts = controls_joined ss ts
controls_joined (input p t ∷ ss) ts = controls_joined ss ts
controls_joined (control p t ∷ ss) ts = ap (λ ps. (p, t) ∷ ps) (controls_joined ss ts)
controls_joined (free p t ∷ ss) ts = controls_joined ss ts

-- ---- slots that are registers and free places alone

abbrev pub OnlyFree : List Slot → Type 0
OnlyFree [] = ⊤
OnlyFree (register p k ∷ ss) = OnlyFree ss
OnlyFree (free p t ∷ ss) = OnlyFree ss
OnlyFree (s ∷ ss) = ⊥

pub only_joined : (ss ts : List Slot) → OnlyFree ss → OnlyFree ts → OnlyFree (ss ++ ts)
only_joined [] ts h k = k
only_joined (register p s ∷ ss) ts h k = only_joined ss ts h k
only_joined (free p t ∷ ss) ts h k = only_joined ss ts h k
only_joined (input p t ∷ ss) ts h k = absurd h
only_joined (control p t ∷ ss) ts h k = absurd h

pub no_controls : (ss : List Slot) → OnlyFree ss → controls_among ss ≡ []
no_controls [] h = refl
no_controls (register p s ∷ ss) h = no_controls ss h
no_controls (free p t ∷ ss) h = no_controls ss h
no_controls (input p t ∷ ss) h = absurd h
no_controls (control p t ∷ ss) h = absurd h

-- ---- what fits

module _ (types : List TypeDecl) (early : Place → Bool) where
  pub early_values : (ss : List Slot) (i : Instant) → SlotsFit types ss i → AreValues types (early_among early ss) (values_at (early_among early ss) i)
  early_values [] i h = tt
  early_values (register p k ∷ ss) i h = early_values ss i h
  early_values (control p t ∷ ss) i h = early_values ss i h
  early_values (input p t ∷ ss) i h = (h.0, early_values ss i h.1)
  early_values (free p t ∷ ss) i h = by (early p) (early_values ss i h.1)
    where
      by : (b : Bool) → AreValues types (early_among early ss) (values_at (early_among early ss) i)
          → AreValues types (if b then (p, t) ∷ early_among early ss else early_among early ss) (values_at (if b then (p, t) ∷ early_among early ss else early_among early ss) i)
      by true k = (h.0, k)
      by false k = k

  pub late_values : (ss : List Slot) (i : Instant) → SlotsFit types ss i → AreValues types (late_among early ss) (values_at (late_among early ss) i)
  late_values [] i h = tt
  late_values (register p k ∷ ss) i h = late_values ss i h
  late_values (control p t ∷ ss) i h = late_values ss i h
  late_values (input p t ∷ ss) i h = late_values ss i h.1
  late_values (free p t ∷ ss) i h = by (early p) (late_values ss i h.1)
    where
      by : (b : Bool) → AreValues types (late_among early ss) (values_at (late_among early ss) i)
          → AreValues types (if b then late_among early ss else (p, t) ∷ late_among early ss) (values_at (if b then late_among early ss else (p, t) ∷ late_among early ss) i)
      by true k = k
      by false k = (h.0, k)

  pub slots_fit : (ss : List Slot) (i : Instant) → AreValues types (early_among early ss) (values_at (early_among early ss) i) → AreValues types (late_among early ss) (values_at (late_among early ss) i) → SlotsFit types ss i
  slots_fit [] i h k = tt
  slots_fit (register p s ∷ ss) i h k = slots_fit ss i h k
  slots_fit (control p t ∷ ss) i h k = slots_fit ss i h k
  slots_fit (input p t ∷ ss) i h k = (h.0, slots_fit ss i h.1 k)
  slots_fit (free p t ∷ ss) i h k = by (early p) (λ h k. slots_fit ss i h k) h k
    where
      by : (b : Bool) → (AreValues types (early_among early ss) (values_at (early_among early ss) i) → AreValues types (late_among early ss) (values_at (late_among early ss) i) → SlotsFit types ss i)
          → AreValues types (if b then (p, t) ∷ early_among early ss else early_among early ss) (values_at (if b then (p, t) ∷ early_among early ss else early_among early ss) i)
          → AreValues types (if b then late_among early ss else (p, t) ∷ late_among early ss) (values_at (if b then late_among early ss else (p, t) ∷ late_among early ss) i) → IsOf types t (i p) × SlotsFit types ss i
      by true more h k = (h.0, more h.1 k)
      by false more h k = (k.0, more h k.1)

-- ---- values that are the same

module _ (early : Place → Bool) where
  -- where instants agree at early places, so do their early values
  pub same_early : (ss : List Slot) (i j : Instant) → OnlyFree ss → ((p : Place) → IsFree (free_among ss) p → IsTrue (early p) → i p ≡ j p) → values_at (early_among early ss) i ≡ values_at (early_among early ss) j
  same_early [] i j o h = refl
  same_early (register p k ∷ ss) i j o h = same_early ss i j o h
  same_early (control p t ∷ ss) i j o h = absurd o
  same_early (input p t ∷ ss) i j o h = absurd o
  same_early (free p t ∷ ss) i j o h = by (early p) (h p (inl refl)) (same_early ss i j o (λ q f. h q (inr f)))
    where
      by : (b : Bool) → (IsTrue b → i p ≡ j p) → values_at (early_among early ss) i ≡ values_at (early_among early ss) j
          → values_at (if b then (p, t) ∷ early_among early ss else early_among early ss) i ≡ values_at (if b then (p, t) ∷ early_among early ss else early_among early ss) j
      by true g e = ap₂ (λ v vs. v ∷ vs) (g refl) e
      by false g e = e

  -- and the other way
  pub early_same : (ss : List Slot) (p : Place) (i j : Instant) → IsFree (free_among ss) p → IsTrue (early p) → values_at (early_among early ss) i ≡ values_at (early_among early ss) j → i p ≡ j p
  early_same [] p i j f t e = absurd f
  early_same (register q k ∷ ss) p i j f t e = early_same ss p i j f t e
  early_same (control q k ∷ ss) p i j f t e = early_same ss p i j f t e
  early_same (input q k ∷ ss) p i j (inl f) t e = ap i f ∙ ap head_of e ∙ sym (ap j f)
  early_same (input q k ∷ ss) p i j (inr f) t e = early_same ss p i j f t (ap tail_of e)
  early_same (free q k ∷ ss) p i j f t e = by (early q) (λ f e. early_same ss p i j f t e) refl f e
    where
      by : (b : Bool) → (IsFree (free_among ss) p → values_at (early_among early ss) i ≡ values_at (early_among early ss) j → i p ≡ j p) → early q ≡ b → (p ≡ q) ⊎ IsFree (free_among ss) p
          → values_at (if b then (q, k) ∷ early_among early ss else early_among early ss) i ≡ values_at (if b then (q, k) ∷ early_among early ss else early_among early ss) j → i p ≡ j p
      by true more g (inl f) e = ap i f ∙ ap head_of e ∙ sym (ap j f)
      by true more g (inr f) e = more f (ap tail_of e)
      by false more g (inl f) e = let no : IsTrue (early q) = subst (λ z. IsTrue (early z)) f t in absurd (cc)
      by false more g (inr f) e = more f e

-- ---- parts of what is free, and of what fits

pub free_behind : (ss ts : List Slot) (p : Place) → IsFree (free_among ts) p → IsFree (free_among (ss ++ ts)) p
free_behind [] ts p f = f
free_behind (register q k ∷ ss) ts p f = free_behind ss ts p f
free_behind (control q t ∷ ss) ts p f = free_behind ss ts p f
free_behind (input q t ∷ ss) ts p f = inr (free_behind ss ts p f)
free_behind (free q t ∷ ss) ts p f = inr (free_behind ss ts p f)

pub fits_behind : (types : List TypeDecl) (ss ts : List Slot) (i : Instant) → SlotsFit types (ss ++ ts) i → SlotsFit types ts i
fits_behind types [] ts i h = h
fits_behind types (register p k ∷ ss) ts i h = fits_behind types ss ts i h
fits_behind types (control p t ∷ ss) ts i h = fits_behind types ss ts i h
fits_behind types (input p t ∷ ss) ts i h = fits_behind types ss ts i h.1
fits_behind types (free p t ∷ ss) ts i h = fits_behind types ss ts i h.1
