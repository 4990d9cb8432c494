-- Bits in a row, and the codes of slots behind one another.
use Rattle.std.proofs.Common.{◌≡◌, ℕ, zero, suc, ◌+◌, ◌<◌, Bool, List, [], ◌∷◌, ◌++◌, length, take, refl, sym, ap, ap₂, subst, ◌∙◌, arith}
use Rattle.std.proofs.lemmas.List.{append-nil, append_assoc, length-append}
use Rattle.hp_boolx.specs.Machine.{bit}
use Rattle.hp_boolx.specs.Search.{Bits}
use Rattle.hp_circuit.specs.declared.circuit.Slot.{Slot}
use Rattle.hp_circuit.specs.declared.kind.Kind.{Kind}
use Rattle.hp_circuit.specs.declared.kind.Kind.TheVariants.{Registers, Early, Control, Late}
use Rattle.hp_circuit.specs.Adding.{row}
use Rattle.hp_circuit.specs.Forms.{slot_at}
use Rattle.hp_circuit.specs.Kinds.{own, kind_of, bits_of, first_of, place_of}
use Rattle.hp_circuit.specs.Numbers.{number}
use Rattle.hp_circuit.specs.Shapes.{shape_width}
use Rattle.hp_circuit.specs.Placed.Valuations.{AreWide, code_at, own_code, codes_of, valuation_of, SlotNumbersLaw}

-- ---- a row of bits

bit_behind : (front : Bits) (b : Bool) (back : Bits) → bit (front ++ b ∷ back) (length front) ≡ b
bit_behind [] b back = refl
bit_behind (x ∷ front) b back = bit_behind front b back

-- the bits of a word stand where it stands
pub row_of : (front word back : Bits) → row (front ++ (word ++ back)) (length front) (length word) ≡ word
row_of front [] back = refl
row_of front (b ∷ word) back =
    ap₂ (λ x xs. x ∷ xs) (bit_behind front b (word ++ back))
    (subst (λ (n : ℕ). row (front ++ (b ∷ (word ++ back))) n (length word) ≡ word) (length-append front (b ∷ []) ∙ one (length front))
    (ap (λ bs. row bs (length (front ++ b ∷ [])) (length word)) (sym (append_assoc front (b ∷ []) (word ++ back))) ∙ row_of (front ++ b ∷ []) word back))
  where
    one : (n : ℕ) → n + 1 ≡ suc n
    one n = omega arith

-- ---- codes of a kind

own-length : (kind other : Kind) (code : Bits) (width : ℕ) → length code ≡ width → length (own_code kind other code) ≡ own kind other width
own-length Registers Registers code width e = e
own-length Registers Early code width e = refl
own-length Registers Control code width e = refl
own-length Registers Late code width e = refl
own-length Early Registers code width e = refl
own-length Early Early code width e = e
own-length Early Control code width e = refl
own-length Early Late code width e = refl
own-length Control Registers code width e = refl
own-length Control Early code width e = refl
own-length Control Control code width e = e
own-length Control Late code width e = refl
own-length Late Registers code width e = refl
own-length Late Early code width e = refl
own-length Late Control code width e = refl
own-length Late Late code width e = e

pub codes-length : (steered : List Bool) (kind : Kind) (slots : List Slot) (codes : List Bits) → AreWide slots codes → length (codes_of steered kind slots codes) ≡ bits_of steered kind slots
codes-length steered kind [] [] h = refl
codes-length steered kind [] (code ∷ codes) h = absurd h
codes-length steered kind (slot ∷ slots) [] h = absurd h
codes-length steered kind (slot ∷ slots) (code ∷ codes) h =
    length-append (own_code kind (kind_of steered slot) code) (codes_of steered kind slots codes)
    ∙ ap₂ (λ a b. a + b) (own-length kind (kind_of steered slot) code (shape_width slot.shape) h.0) (codes-length steered kind slots codes h.1)

own-same : (kind : Kind) (code : Bits) → own_code kind kind code ≡ code
own-same Registers code = refl
own-same Early code = refl
own-same Control code = refl
own-same Late code = refl

-- the codes of a slot's kind: those before it, its own, and those behind it
pub record Around (steered : List Bool) (slots : List Slot) (codes : List Bits) (i : ℕ) : Type 0 where
  pub front : Bits
  pub back : Bits
  pub split : codes_of steered (kind_of steered (slot_at slots i)) slots codes ≡ front ++ (code_at codes i ++ back)
  pub behind : length front ≡ bits_of steered (kind_of steered (slot_at slots i)) (take i slots)
  pub wide : length (code_at codes i) ≡ shape_width (slot_at slots i).shape

pub around : (steered : List Bool) (slots : List Slot) (codes : List Bits) → AreWide slots codes → (i : ℕ) → i < length slots → Around steered slots codes i
around steered [] codes h i within = absurd (omega (arith, within))
around steered (slot ∷ slots) [] h i within = absurd h
around steered (slot ∷ slots) (code ∷ codes) h zero within =
    let kind = kind_of steered slot in
    record {
      front = [];
      back = codes_of steered kind slots codes;
      split = ap (λ bs. bs ++ codes_of steered kind slots codes) (own-same kind code);
      behind = refl;
      wide = h.0;
    }
around steered (slot ∷ slots) (code ∷ codes) h (suc i) within =
    let more = around steered slots codes h.1 i (omega (arith, within)) in
    let kind = kind_of steered (slot_at slots i) in
    record {
      front = own_code kind (kind_of steered slot) code ++ more.front;
      back = more.back;
      split = ap (λ bs. own_code kind (kind_of steered slot) code ++ bs) more.split ∙ sym (append_assoc (own_code kind (kind_of steered slot) code) more.front (code_at codes i ++ more.back));
      behind =
          length-append (own_code kind (kind_of steered slot) code) more.front
          ∙ ap₂ (λ a b. a + b) (own-length kind (kind_of steered slot) code (shape_width slot.shape) h.0) more.behind;
      wide = more.wide;
    }

-- ---- all kinds behind one another

-- what stands around the codes of a kind
pub record Within (steered : List Bool) (slots : List Slot) (codes : List Bits) (kind : Kind) : Type 0 where
  pub front : Bits
  pub back : Bits
  pub split : valuation_of steered slots codes ≡ front ++ (codes_of steered kind slots codes ++ back)
  pub first : length front ≡ first_of steered slots kind

module _ (steered : List Bool) (slots : List Slot) (codes : List Bits) (h : AreWide slots codes) where
  own_codes : Kind → Bits
  own_codes kind = codes_of steered kind slots codes

  abbrev long : Kind → Type 0
  long kind = length (codes_of steered kind slots codes) ≡ bits_of steered kind slots

  pub kind_within : (kind : Kind) → Within steered slots codes kind
  kind_within Registers =
      record { front = []; back = codes_of steered Early slots codes ++ (codes_of steered Control slots codes ++ codes_of steered Late slots codes); split = refl; first = refl }
  kind_within Early =
      record {
        front = codes_of steered Registers slots codes;
        back = codes_of steered Control slots codes ++ codes_of steered Late slots codes;
        split = refl;
        first = codes-length steered Registers slots codes h;
      }
  kind_within Control =
      let r = codes_of steered Registers slots codes in
      let u = codes_of steered Early slots codes in
      record {
        front = r ++ u;
        back = codes_of steered Late slots codes;
        split = sym (append_assoc r u (codes_of steered Control slots codes ++ codes_of steered Late slots codes));
        first = length-append r u ∙ ap₂ (λ a b. a + b) (codes-length steered Registers slots codes h) (codes-length steered Early slots codes h);
      }
  kind_within Late =
      let r = codes_of steered Registers slots codes in
      let u = codes_of steered Early slots codes in
      let c = codes_of steered Control slots codes in
      let w = codes_of steered Late slots codes in
      record {
        front = (r ++ u) ++ c;
        back = [];
        split = sym (append_assoc r u (c ++ w)) ∙ sym (append_assoc (r ++ u) c w) ∙ ap (λ bs. ((r ++ u) ++ c) ++ bs) (sym (append-nil w));
        first =
            length-append (r ++ u) c
            ∙ ap₂ (λ a b. a + b)
            (length-append r u ∙ ap₂ (λ a b. a + b) (codes-length steered Registers slots codes h) (codes-length steered Early slots codes h))
            (codes-length steered Control slots codes h);
      }

  -- the bits of a slot stand at its place
  pub slot_row : (i : ℕ) → i < length slots → row (valuation_of steered slots codes) (place_of steered slots i) (shape_width (slot_at slots i).shape) ≡ code_at codes i
  slot_row i within =
      let kind = kind_of steered (slot_at slots i) in
      let all = kind_within kind in
      let own = around steered slots codes h i within in
      let front = all.front ++ own.front in
      let back = own.back ++ all.back in
      let whole : valuation_of steered slots codes ≡ front ++ (code_at codes i ++ back) =
      all.split
      ∙ ap (λ bs. all.front ++ (bs ++ all.back)) own.split
      ∙ ap (λ bs. all.front ++ bs) (append_assoc own.front (code_at codes i ++ own.back) all.back ∙ ap (λ bs. own.front ++ bs) (append_assoc (code_at codes i) own.back all.back))
      ∙ sym (append_assoc all.front own.front (code_at codes i ++ back)) in
      let start : length front ≡ place_of steered slots i = length-append all.front own.front ∙ ap₂ (λ a b. a + b) all.first own.behind in
      ap (λ bs. row bs (place_of steered slots i) (shape_width (slot_at slots i).shape)) whole
      ∙ (λ j. row (front ++ (code_at codes i ++ back)) (sym start j) (sym own.wide j))
      ∙ row_of front (code_at codes i) back

pub slot_numbers : SlotNumbersLaw
slot_numbers name c m made codes h i within =
    ap (λ place. number (row (valuation_of made.steered c.slots.items codes) place (shape_width (slot_at c.slots.items i).shape))) (made.placed i within)
    ∙ ap number (slot_row made.steered c.slots.items codes h i within)
