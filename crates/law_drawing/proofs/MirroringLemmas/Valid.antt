-- Codes that spell values.
use Rattle.std.proofs.Common.{◌≡◌, ◌↔◌, ℕ, ◌+◌, ◌-◌, ◌<◌, Bool, true, false, IsTrue, ◌&&◌, nat_le, nat_lt, if◌then◌else◌, List, [], ◌∷◌, ◌++◌, length, slice_index_or, refl, sym, ap, ap₂, subst, ◌∙◌, arith}
use Rattle.std.specs.Prelude.{pos}
use Rattle.hp_base.specs.declared.ty.Ty.{Ty}
use Rattle.hp_base.specs.declared.ty.Ty.TheVariants as ty
use Rattle.hp_base.specs.declared.value.Value.{Value}
use Rattle.hp_base.specs.declared.value.Value.TheVariants.{Absent, Nil, B, E, I, Star}
use Rattle.hp_tree.specs.Instant.{Place}
use Rattle.hp_tree.specs.Programs.{TypeDecl}
use Rattle.hp_tree.specs.Values.{constructors_of, IsOf}
use Rattle.hp_boolx.specs.Search.{Bits}
use Rattle.hp_circuit.specs.declared.circuit.Role.{Role}
use Rattle.hp_circuit.specs.declared.circuit.Role.TheVariants as role
use Rattle.hp_circuit.specs.declared.circuit.Slot.{Slot}
use Rattle.hp_circuit.specs.declared.kind.Kind.{Kind}
use Rattle.hp_circuit.specs.declared.kind.Kind.TheVariants.{Registers, Early, Control, Late}
use Rattle.hp_circuit.specs.Kinds.{kind_of, role_kind}
use Rattle.hp_circuit.specs.Machines.{shape_valid, role_valid}
use Rattle.hp_circuit.specs.Numbers as circuit
use Rattle.hp_circuit.specs.Shapes.{shape_width}
use Rattle.hp_circuit.proofs.NumberLaws as numbers
use Rattle.hp_meaning.specs.Contract.Codes.{width, code}
use Rattle.hp_meaning.specs.Contract.Memory.{number_in}
use Rattle.hp_meaning.specs.Contract.Slots as slots
use Rattle.hp_meaning.specs.Contract.Slots.{register, free, input, control, shape_of, FreePlace}
use Rattle.law_games.specs.Mirror.Mirrored.{AreCodes, early_among, controls_among, late_among}
use Rattle.hp_circuit.specs.Placed.Valuations.{AreWide, own_code, codes_of, are_values}
use Rattle.law_drawing.specs.Mirroring.Codes.{AreSlotsOf, IsBelow, AreNumbered, ValidLaw}
use Rattle.hp_drawing.specs.Slotted.Slotted.{shape_as}
use Rattle.law_drawing.proofs.MirroringLemmas.Same.{width-same, to_bits-same}
use Rattle.law_drawing.proofs.MirroringLemmas.Held.{given_number}
use Rattle.law_drawing.proofs.MirroringLemmas.Codes.{length-code}

-- ---- the bits of a number that is spelled

pub number_small : (bs : List Bool) → circuit.number bs < circuit.pow2 (length bs)
number_small [] = omega arith
number_small (true ∷ bs) = let more = number_small bs in omega (arith, more)
number_small (false ∷ bs) = let more = number_small bs in omega (arith, more)

pub bits_of_number : (bs : List Bool) → circuit.to_bits (length bs) (circuit.number bs) ≡ bs
bits_of_number [] = refl
bits_of_number (true ∷ bs) =
    let p = circuit.pow2 (length bs) in
    let k = circuit.number bs in
    let high : nat_le p (p + k) ≡ true = numbers.true_le p (p + k) (omega arith) in
    let left : p + k - p ≡ k = omega arith in
    (λ j. high j ∷ circuit.to_bits (length bs) (if high j then left j else p + k)) ∙ ap (λ xs. true ∷ xs) (bits_of_number bs)
bits_of_number (false ∷ bs) =
    let p = circuit.pow2 (length bs) in
    let k = circuit.number bs in
    let low : nat_le p (0 + k) ≡ false = numbers.false_le p (0 + k) (let small = number_small bs in omega (arith, small)) in
    let same : 0 + k ≡ k = omega arith in
    (λ j. low j ∷ circuit.to_bits (length bs) (if low j then 0 + k - p else same j)) ∙ ap (λ xs. false ∷ xs) (bits_of_number bs)

-- ---- one code

-- code `word` spells a value of a type
abbrev Spells : List TypeDecl → Ty → Bits → Type 0
Spells types t word = (v : Value) × IsOf types t v × (word ≡ code types t v)

lt_true : (a b : ℕ) → IsTrue (nat_lt a b) → a < b
lt_true a b h = grind arith

true_lt : (a b : ℕ) → a < b → IsTrue (nat_lt a b)
true_lt a b h = grind arith

module _ (types : List TypeDecl) (numbered : AreNumbered types) where
  spells : (t : Ty) (word : Bits) → length word ≡ shape_width (shape_as (shape_of types t)) → IsTrue (shape_valid (shape_as (shape_of types t)) (circuit.number word)) → Spells types t word
  spells ty.Bool [] e h = absurd (omega (arith, e))
  spells ty.Bool (b ∷ []) e h = (B b, tt, refl)
  spells ty.Bool (b ∷ c ∷ word) e h = absurd (omega (arith, e))
  spells ty.Int [] e h = (I (pos 0), tt, refl)
  spells ty.Int (b ∷ word) e h = absurd (omega (arith, e))
  spells (ty.Enum t) word e h =
      let m = length (constructors_of types t) in
      let v = numbered.each t (circuit.number word) (lt_true (circuit.number word) m h) in (
        E v.0 (circuit.number word),
        v.1,
        sym (bits_of_number word)
            ∙ (λ j. circuit.to_bits ((e ∙ width-same m) j) (circuit.number word))
            ∙ to_bits-same (width m) (circuit.number word),
      )

  below_valid : (m : ℕ) (v : Value) → IsBelow m v → IsTrue (nat_lt (number_in v) m)
  below_valid m (B b) h = absurd h
  below_valid m Absent h = absurd h
  below_valid m Nil h = absurd h
  below_valid m (E u k) h = true_lt k m h
  below_valid m (I n) h = absurd h
  below_valid m Star h = absurd h

  spelled_valid : (t : Ty) (word : Bits) → Spells types t word → IsTrue (shape_valid (shape_as (shape_of types t)) (circuit.number word))
  spelled_valid ty.Bool word s = refl
  spelled_valid ty.Int word s = refl
  spelled_valid (ty.Enum t) word s =
      let m = length (constructors_of types t) in
      let below = numbered.below t s.0 s.1 in
      subst (λ k. IsTrue (nat_lt k m)) (sym (ap circuit.number s.2 ∙ given_number types (ty.Enum t) s.0 below)) (below_valid m s.0 below)

  -- ---- one place more

  -- a list is cut where its first part ends
  cut : (xs ys front back : Bits) → length xs ≡ length ys → xs ++ front ≡ ys ++ back → (xs ≡ ys) × (front ≡ back)
  cut [] [] front back e h = (refl, h)
  cut [] (y ∷ ys) front back e h = absurd (omega (arith, e))
  cut (x ∷ xs) [] front back e h = absurd (omega (arith, e))
  cut (x ∷ xs) (y ∷ ys) front back e h =
      let rest : xs ++ front ≡ ys ++ back = cc in
      let first : x ≡ y = cc in
      let more = cut xs ys front back (omega (arith, e)) rest in
      (ap₂ (λ a l. a ∷ l) first more.0, more.1)

  codes_more : (p : Place) (t : Ty) (ps : List FreePlace) (word rest : Bits) → Spells types t word → AreCodes types ps rest → AreCodes types ((p, t) ∷ ps) (word ++ rest)
  codes_more p t ps word rest s h = (s.0, rest, s.1, ap (λ bs. bs ++ rest) s.2, h)

  codes_first : (p : Place) (t : Ty) (ps : List FreePlace) (word rest : Bits) → length word ≡ shape_width (shape_as (shape_of types t)) → AreCodes types ((p, t) ∷ ps) (word ++ rest) → Spells types t word × AreCodes types ps rest
  codes_first p t ps word rest e h =
      let parts = cut word (code types t h.0) rest h.1 (e ∙ sym (length-code types t h.0)) h.3 in
      ((h.0, h.2, parts.0), subst (AreCodes types ps) (sym parts.1) h.4)

-- ---- all slots

-- what is asked of the code of a slot that is no register
given_valid : (steered : List Bool) (c : Slot) (kind : Kind) (k : ℕ) → kind_of steered c ≡ kind → (kind ≡ Registers → ⊥) → role_valid c.role c.shape k ≡ shape_valid c.shape k
given_valid steered c kind k e other = by c.role refl
  where
    by : (r : Role) → c.role ≡ r → role_valid r c.shape k ≡ shape_valid c.shape k
    by (role.Register first next) is = absurd (other (sym e ∙ ap (λ r. role_kind r (slice_index_or steered c.wire false)) is))
    by role.Input is = refl
    by role.Control is = refl
    by (role.Free early) is = refl

register_valid : (steered : List Bool) (c : Slot) (k : ℕ) → kind_of steered c ≡ Registers → role_valid c.role c.shape k ≡ true
register_valid steered c k e = by c.role refl
  where
    tag : (r : Role) → c.role ≡ r → role_kind r (slice_index_or steered c.wire false) ≡ Registers
    tag r is = ap (λ r. role_kind r (slice_index_or steered c.wire false)) (sym is) ∙ e

    free_tag : (early steered : Bool) → role_kind (role.Free early) steered ≡ Registers → ⊥
    free_tag false d h = cc
    free_tag true false h = cc
    free_tag true true h = cc

    by : (r : Role) → c.role ≡ r → role_valid r c.shape k ≡ true
    by (role.Register first next) is = refl
    by role.Input is = absurd (let h = tag role.Input is in cc)
    by role.Control is = absurd (let h = tag role.Control is in cc)
    by (role.Free early) is = absurd (free_tag early (slice_index_or steered c.wire false) (tag (role.Free early) is))

and_true : (a b : Bool) → IsTrue a → IsTrue b → IsTrue (a && b)
and_true true true h k = refl
and_true true false h k = k
and_true false b h k = h

both_true : (a b : Bool) → IsTrue (a && b) → IsTrue a × IsTrue b
both_true true true h = (refl, refl)
both_true true false h = (refl, h)
both_true false b h = absurd (cc)

module _ (types : List TypeDecl) (early : Place → Bool) (steered : List Bool) (numbered : AreNumbered types) where
  abbrev bits_of : Kind → List Slot → List Bits → Bits
  bits_of kind cs codes = codes_of steered kind cs codes

  -- the bits of each kind are codes of these places
  abbrev Each : List FreePlace → List FreePlace → List FreePlace → List Slot → List Bits → Type 0
  Each us xs ws cs codes = AreCodes types us (bits_of Early cs codes) × AreCodes types xs (bits_of Control cs codes) × AreCodes types ws (bits_of Late cs codes)

  abbrev Valid : List FreePlace → List FreePlace → List FreePlace → List Slot → List Bits → Type 0
  Valid us xs ws cs codes = IsTrue (are_values cs codes) ↔ Each us xs ws cs codes

  -- what the kind of a slot makes of its code
  kind_bits : (kind this : Kind) (c : Slot) (word : Bits) (cs : List Slot) (codes : List Bits) → kind_of steered c ≡ this → bits_of kind (c ∷ cs) (word ∷ codes) ≡ own_code kind this word ++ bits_of kind cs codes
  kind_bits kind this c word cs codes e = ap (λ k. own_code kind k word ++ bits_of kind cs codes) e

  register_step : (us xs ws : List FreePlace) (c : Slot) (word : Bits) (cs : List Slot) (codes : List Bits) → kind_of steered c ≡ Registers → Valid us xs ws cs codes → Valid us xs ws (c ∷ cs) (word ∷ codes)
  register_step us xs ws c word cs codes e h =
      let one = register_valid steered c (circuit.number word) e in
      let u = kind_bits Early Registers c word cs codes e in
      let x = kind_bits Control Registers c word cs codes e in
      let w = kind_bits Late Registers c word cs codes e in (
        λ k.
            let all = h.0 (both_true (role_valid c.role c.shape (circuit.number word)) (are_values cs codes) k).1 in
            (subst (AreCodes types us) (sym u) all.0, subst (AreCodes types xs) (sym x) all.1, subst (AreCodes types ws) (sym w) all.2),
        λ k. and_true (role_valid c.role c.shape (circuit.number word)) (are_values cs codes) one (h.1 (subst (AreCodes types us) u k.0, subst (AreCodes types xs) x k.1, subst (AreCodes types ws) w k.2)),
      )

  -- the code of a slot that is given
  module _ (p : Place) (t : Ty) (c : Slot) (word : Bits) (cs : List Slot) (codes : List Bits) (shape : c.shape ≡ shape_as (shape_of types t)) (wide : length word ≡ shape_width c.shape) where
    long : length word ≡ shape_width (shape_as (shape_of types t))
    long = wide ∙ ap shape_width shape

    valid_here : (kind : Kind) → kind_of steered c ≡ kind → (kind ≡ Registers → ⊥) → role_valid c.role c.shape (circuit.number word) ≡ shape_valid (shape_as (shape_of types t)) (circuit.number word)
    valid_here kind e other = given_valid steered c kind (circuit.number word) e other ∙ ap (λ s. shape_valid s (circuit.number word)) shape

    word_spells : (kind : Kind) → kind_of steered c ≡ kind → (kind ≡ Registers → ⊥) → IsTrue (role_valid c.role c.shape (circuit.number word)) → Spells types t word
    word_spells kind e other h = spells types numbered t word long (sym (valid_here kind e other) ∙ h)

    spelled : (kind : Kind) → kind_of steered c ≡ kind → (kind ≡ Registers → ⊥) → Spells types t word → IsTrue (role_valid c.role c.shape (circuit.number word))
    spelled kind e other s = valid_here kind e other ∙ spelled_valid types numbered t word s

    early_step : (us xs ws : List FreePlace) → kind_of steered c ≡ Early → Valid us xs ws cs codes → Valid ((p, t) ∷ us) xs ws (c ∷ cs) (word ∷ codes)
    early_step us xs ws e h =
        let other : Early ≡ Registers → ⊥ = λ k. cc in
        let u = kind_bits Early Early c word cs codes e in
        let x = kind_bits Control Early c word cs codes e in
        let w = kind_bits Late Early c word cs codes e in (
          λ k.
              let both = both_true (role_valid c.role c.shape (circuit.number word)) (are_values cs codes) k in
              let all = h.0 both.1 in (
                subst (AreCodes types ((p, t) ∷ us)) (sym u) (codes_more types numbered p t us word (bits_of Early cs codes) (word_spells Early e other both.0) all.0),
                subst (AreCodes types xs) (sym x) all.1,
                subst (AreCodes types ws) (sym w) all.2,
              ),
          λ k.
              let first = codes_first types numbered p t us word (bits_of Early cs codes) long (subst (AreCodes types ((p, t) ∷ us)) u k.0) in
              and_true (role_valid c.role c.shape (circuit.number word)) (are_values cs codes) (spelled Early e other first.0) (h.1 (first.1, subst (AreCodes types xs) x k.1, subst (AreCodes types ws) w k.2)),
        )

    control_step : (us xs ws : List FreePlace) → kind_of steered c ≡ Control → Valid us xs ws cs codes → Valid us ((p, t) ∷ xs) ws (c ∷ cs) (word ∷ codes)
    control_step us xs ws e h =
        let other : Control ≡ Registers → ⊥ = λ k. cc in
        let u = kind_bits Early Control c word cs codes e in
        let x = kind_bits Control Control c word cs codes e in
        let w = kind_bits Late Control c word cs codes e in (
          λ k.
              let both = both_true (role_valid c.role c.shape (circuit.number word)) (are_values cs codes) k in
              let all = h.0 both.1 in (
                subst (AreCodes types us) (sym u) all.0,
                subst (AreCodes types ((p, t) ∷ xs)) (sym x) (codes_more types numbered p t xs word (bits_of Control cs codes) (word_spells Control e other both.0) all.1),
                subst (AreCodes types ws) (sym w) all.2,
              ),
          λ k.
              let first = codes_first types numbered p t xs word (bits_of Control cs codes) long (subst (AreCodes types ((p, t) ∷ xs)) x k.1) in
              and_true (role_valid c.role c.shape (circuit.number word)) (are_values cs codes) (spelled Control e other first.0) (h.1 (subst (AreCodes types us) u k.0, first.1, subst (AreCodes types ws) w k.2)),
        )

    late_step : (us xs ws : List FreePlace) → kind_of steered c ≡ Late → Valid us xs ws cs codes → Valid us xs ((p, t) ∷ ws) (c ∷ cs) (word ∷ codes)
    late_step us xs ws e h =
        let other : Late ≡ Registers → ⊥ = λ k. cc in
        let u = kind_bits Early Late c word cs codes e in
        let x = kind_bits Control Late c word cs codes e in
        let w = kind_bits Late Late c word cs codes e in (
          λ k.
              let both = both_true (role_valid c.role c.shape (circuit.number word)) (are_values cs codes) k in
              let all = h.0 both.1 in (
                subst (AreCodes types us) (sym u) all.0,
                subst (AreCodes types xs) (sym x) all.1,
                subst (AreCodes types ((p, t) ∷ ws)) (sym w) (codes_more types numbered p t ws word (bits_of Late cs codes) (word_spells Late e other both.0) all.2),
              ),
          λ k.
              let first = codes_first types numbered p t ws word (bits_of Late cs codes) long (subst (AreCodes types ((p, t) ∷ ws)) w k.2) in
              and_true (role_valid c.role c.shape (circuit.number word)) (are_values cs codes) (spelled Late e other first.0) (h.1 (subst (AreCodes types us) u k.0, subst (AreCodes types xs) x k.1, first.1)),
        )

    -- a free place is early or late
    free_step : (ss : List slots.Slot) (d : Bool) → early p ≡ d → kind_of steered c ≡ (if d then Early else Late) → Valid (early_among early ss) (controls_among ss) (late_among early ss) cs codes
        → Valid (if d then (p, t) ∷ early_among early ss else early_among early ss) (controls_among ss) (if d then late_among early ss else (p, t) ∷ late_among early ss) (c ∷ cs) (word ∷ codes)
    free_step ss true is e h = early_step (early_among early ss) (controls_among ss) (late_among early ss) e h
    free_step ss false is e h = late_step (early_among early ss) (controls_among ss) (late_among early ss) e h

  pub valid_all : (ss : List slots.Slot) (cs : List Slot) (codes : List Bits) → AreSlotsOf types early steered ss cs → AreWide cs codes → Valid (early_among early ss) (controls_among ss) (late_among early ss) cs codes
  valid_all [] [] [] h k = (λ z. (refl, refl, refl), λ z. refl)
  valid_all [] [] (word ∷ codes) h k = absurd k
  valid_all [] (c ∷ cs) codes h k = absurd (cc)
  valid_all (register p slots.truth ∷ ss) [] codes h k = absurd h
  valid_all (register p slots.truth ∷ ss) (c ∷ cs) [] h k = absurd k
  valid_all (register p slots.truth ∷ ss) (c ∷ cs) (word ∷ codes) h k = register_step (early_among early ss) (controls_among ss) (late_among early ss) c word cs codes h.0.0 (valid_all ss cs codes h.1 k.1)
  valid_all (register p slots.mark ∷ ss) cs codes h k = valid_all ss cs codes h k
  valid_all (register p (slots.cons t m) ∷ ss) [] codes h k = absurd h
  valid_all (register p (slots.cons t m) ∷ ss) (c ∷ cs) [] h k = absurd k
  valid_all (register p (slots.cons t m) ∷ ss) (c ∷ cs) (word ∷ codes) h k = register_step (early_among early ss) (controls_among ss) (late_among early ss) c word cs codes h.0.0 (valid_all ss cs codes h.1 k.1)
  valid_all (free p t ∷ ss) [] codes h k = absurd h
  valid_all (free p t ∷ ss) (c ∷ cs) [] h k = absurd k
  valid_all (free p t ∷ ss) (c ∷ cs) (word ∷ codes) h k = free_step p t c word cs codes h.0.1 k.0 ss (early p) refl h.0.0 (valid_all ss cs codes h.1 k.1)
  valid_all (input p t ∷ ss) [] codes h k = absurd h
  valid_all (input p t ∷ ss) (c ∷ cs) [] h k = absurd k
  valid_all (input p t ∷ ss) (c ∷ cs) (word ∷ codes) h k = early_step p t c word cs codes h.0.1 k.0 (early_among early ss) (controls_among ss) (late_among early ss) h.0.0 (valid_all ss cs codes h.1 k.1)
  valid_all (control p t ∷ ss) [] codes h k = absurd h
  valid_all (control p t ∷ ss) (c ∷ cs) [] h k = absurd k
  valid_all (control p t ∷ ss) (c ∷ cs) (word ∷ codes) h k = control_step p t c word cs codes h.0.1 k.0 (early_among early ss) (controls_among ss) (late_among early ss) h.0.0 (valid_all ss cs codes h.1 k.1)

pub valid : ValidLaw
valid types early steered ss cs codes numbered h k =
    let all = valid_all types early steered numbered ss cs codes h k in (
      λ z. let e = all.0 z in record { early_ones = e.0; controls = e.1; late_ones = e.2 },
      λ z. all.1 (z.early_ones, z.controls, z.late_ones),
    )
