-- The slots of a node are laid down by its plan in the order of their places, so each free one stands for its place.
use Rattle.std.proofs.Common.{◌≡◌, ℕ, zero, suc, ◌+◌, Bool, true, false, if◌then◌else◌, List, [], ◌∷◌, ◌++◌, length, Option, None, Some, refl, sym, ap, subst, ◌∙◌, arith}
use Rattle.std.specs.Str.{bytes_eq}
use Rattle.std.proofs.lemmas.List.{append_assoc, length-append}
use Rattle.hp_base.specs.declared.ty.Ty.{Ty}
use Rattle.hp_base.specs.declared.ty.Ty.TheVariants as ty
use Rattle.hp_base.specs.declared.ty.Const.{Const}
use Rattle.hp_base.specs.declared.ty.Const.TheVariants as const
use Rattle.hp_tree.specs.declared.expr.Op2.{Op2}
use Rattle.hp_tree.specs.declared.expr.Op2.TheVariants as op
use Rattle.hp_tree.specs.Blocks.{Decl, Block, block}
use Rattle.hp_tree.specs.ExpressionTypes as types_shown
use Rattle.hp_tree.specs.ExpressionTypes.{typed_in, type_with, type_of_constant, type_of_two, first_type, type_of, type_of_parts, scope_of, untyped, some_place}
use Rattle.hp_tree.specs.Instant.{Named, Head, Tail, Place}
use Rattle.hp_tree.specs.Operators.{place_in}
use Rattle.hp_tree.specs.Programs.{TypeDecl}
use Rattle.hp_meaning.specs.Causal.Sources.{only, below}
use Rattle.hp_circuit.specs.declared.circuit.Shape.{Shape}
use Rattle.hp_circuit.specs.declared.circuit.Shape.TheVariants.{Truth}
use Rattle.hp_meaning.specs.Contract.Slots as slots
use Rattle.hp_meaning.specs.Contract.Slots.{Slot, free, register, input, control, shape_of, is_int, callee_slots, slots_of_conditions, slots_of_block, slots_of_equations, slots_of_equation, slots_of_arms, slots_of_states, slots_of_contract, slots_of_node}
use Rattle.hp_drawing.specs.declared.parts.Constructor.{Constructor}
use Rattle.hp_drawing.specs.Kept as kept
use Rattle.hp_drawing.specs.Kept.{Kept, is_mark, with_kept, with_shaped}
use Rattle.hp_drawing.specs.Told.{Told, type_shape, constant_shape, constant_number, constructor_shape}
use Rattle.hp_drawing.specs.Planned.{Names, two_shape, with_register, with_row, with_last, with_lasts, declaring, in_block}
use Rattle.law_drawing.specs.Steered.Marks.{Steering}
use Rattle.law_drawing.specs.Steered.Stands.{IsBehind, ComparedBehind, GivenBehind, RowStands}
use Rattle.law_drawing.specs.Steered.Laid.{laid, place_at}

-- ---- what is behind a number

module _ {A : Type 0} where
  abbrev pub after : ℕ → List A → List A
  after zero xs = xs
  after (suc n) [] = []
  after (suc n) (x ∷ xs) = after n xs

  after-next : (n : ℕ) (xs : List A) (x : A) (rest : List A) → after n xs ≡ x ∷ rest → after (suc n) xs ≡ rest
  after-next zero [] x rest h = absurd cc
  after-next zero (y ∷ xs) x rest h = let e : xs ≡ rest = cc in e
  after-next (suc n) [] x rest h = absurd cc
  after-next (suc n) (y ∷ xs) x rest h = after-next n xs x rest h

place-behind : (n : ℕ) (ps : List Place) (p : Place) (rest : List Place) → after n ps ≡ p ∷ rest → place_at ps n ≡ p
place-behind zero [] p rest h = absurd cc
place-behind zero (q ∷ ps) p rest h = let e : q ≡ p = cc in e
place-behind (suc n) [] p rest h = absurd cc
place-behind (suc n) (q ∷ ps) p rest h = place-behind n ps p rest h

-- ---- places of slots

pub laid-append : (a b : List Slot) → laid (a ++ b) ≡ laid a ++ laid b
laid-append [] b = refl
laid-append (register p slots.truth ∷ a) b = ap (λ l. p ∷ l) (laid-append a b)
laid-append (register p slots.mark ∷ a) b = laid-append a b
laid-append (register p (slots.cons t m) ∷ a) b = ap (λ l. p ∷ l) (laid-append a b)
laid-append (free p t ∷ a) b = ap (λ l. p ∷ l) (laid-append a b)
laid-append (input p t ∷ a) b = ap (λ l. p ∷ l) (laid-append a b)
laid-append (control p t ∷ a) b = ap (λ l. p ∷ l) (laid-append a b)

pub laid-both : (a b : List Slot) (rest : List Place) → laid (a ++ b) ++ rest ≡ laid a ++ (laid b ++ rest)
laid-both a b rest = ap (λ l. l ++ rest) (laid-append a b) ∙ append_assoc (laid a) (laid b) rest

pub laid-if : (b : Bool) (p : Place) → laid (if b then free p ty.Bool ∷ [] else []) ≡ (if b then p ∷ [] else [])
laid-if true p = refl
laid-if false p = refl

-- ---- integers

pub mark-type : (t : Told) (u : Ty) → is_mark (type_shape t u) ≡ is_int u
mark-type t ty.Bool = refl
mark-type t ty.Int = refl
mark-type t (ty.Enum x) = refl

mark-constructor : (o : Option Constructor) → is_mark (constructor_shape o) ≡ false
mark-constructor None = refl
mark-constructor (Some c) = refl

no-int : (types : List TypeDecl) (x : List ℕ) → is_int (type_with types x) ≡ false
no-int [] x = refl
no-int (d ∷ types) x = by (some_place (place_in 0 d.cons x)) (no-int types x)
  where
    by : (b : Bool) → is_int (type_with types x) ≡ false → is_int (if b then ty.Enum d.name else type_with types x) ≡ false
    by true h = refl
    by false h = h

pub mark-constant : (t : Told) (types : List TypeDecl) (c : Const) → is_mark (constant_shape t c) ≡ is_int (type_of_constant types c)
mark-constant t types (const.B b) = refl
mark-constant t types (const.I n) = refl
mark-constant t types (const.E x) = mark-constructor (t.constructors x) ∙ sym (no-int types x)

pub mark-two : (o : Op2) → is_mark (two_shape o) ≡ is_int (type_of_two o)
mark-two op.And = refl
mark-two op.Or = refl
mark-two op.Xor = refl
mark-two op.Imp = refl
mark-two op.Eq = refl
mark-two op.Ne = refl
mark-two op.Lt = refl
mark-two op.Le = refl
mark-two op.Gt = refl
mark-two op.Ge = refl
mark-two op.Add = refl
mark-two op.Sub = refl
mark-two op.Mul = refl
mark-two op.Div = refl
mark-two op.Rem = refl

-- what is carried as an integer is one
abbrev pub Agree : Names → types_shown.Scope → Type 0
Agree names scope = (x : List ℕ) → is_mark (names x) ≡ is_int (scope x)

pub declared-agree : (t : Told) (ds : List Decl) (names : Names) (scope : types_shown.Scope) → Agree names scope → Agree (declaring t ds names) (typed_in ds scope)
declared-agree t [] names scope h x = h x
declared-agree t (d ∷ ds) names scope h x = by (bytes_eq d.name x) (declared-agree t ds names scope h x)
  where
    by : (b : Bool) → is_mark (declaring t ds names x) ≡ is_int (typed_in ds scope x) → is_mark (if b then type_shape t d.ty else declaring t ds names x) ≡ is_int (if b then d.ty else typed_in ds scope x)
    by true k = mark-type t d.ty
    by false k = k

pub block-agree : (t : Told) (b : Block) (names : Names) (scope : types_shown.Scope) → Agree names scope → Agree (in_block t b names) (scope_of b scope)
block-agree t (block ds es) names scope h = declared-agree t ds names scope h

-- ---- steps

next-length : (before : List Kept) (k : Kept) → length (with_kept before k) ≡ suc (length before)
unfolding with_kept
next-length before k = length-append before (k ∷ []) ∙ (let e : length before + 1 ≡ suc (length before) = omega arith in e)

module _ (ps : List Place) where
  -- behind these slots are those of such places
  abbrev pub At : List Kept → List Place → Type 0
  At before rest = after (length before) ps ≡ rest

  pub at-next : (before : List Kept) (k : Kept) (p : Place) (rest : List Place) → At before (p ∷ rest) → At (with_kept before k) rest
  at-next before k p rest h = ap (λ n. after n ps) (next-length before k) ∙ after-next (length before) ps p rest h

  abbrev pub some : Bool → Place → List Place
  some b p = if b then [] else p ∷ []

  -- an integer has none
  at-shaped : (kind : Shape → Kept) (s : Shape) (b : Bool) (before : List Kept) (p : Place) (rest : List Place) → is_mark s ≡ b → At before (some b p ++ rest) → At (with_shaped kind s before) rest
  at-shaped kind s b before p rest q h = subst (λ i. At (if i then before else with_kept before (kind s)) rest) (sym q) (by b h)
    where
      by : (b : Bool) → At before (some b p ++ rest) → At (if b then before else with_kept before (kind s)) rest
      by true h = h
      by false h = at-next before (kind s) p rest h

  laid-register : (types : List TypeDecl) (p : Place) (u : Ty) (ss : List Slot) → laid (register p (shape_of types u) ∷ ss) ≡ some (is_int u) p ++ laid ss
  laid-register types p ty.Bool ss = refl
  laid-register types p ty.Int ss = refl
  laid-register types p (ty.Enum x) ss = refl

  pub at-register : (types : List TypeDecl) (first : ℕ) (s : Shape) (u : Ty) (before : List Kept) (p : Place) (ss : List Slot) (rest : List Place) → is_mark s ≡ is_int u → At before (laid (register p (shape_of types u) ∷ ss) ++ rest)
      → At (with_register first s before) (laid ss ++ rest)
  at-register types first s u before p ss rest q h = at-shaped (kept.register first) s (is_int u) before p (laid ss ++ rest) q (h ∙ ap (λ l. l ++ rest) (laid-register types p u ss) ∙ append_assoc (some (is_int u) p) (laid ss) rest)

  -- a kind of slots that are given
  abbrev pub given : (Place → Ty → Slot) → Place → Ty → List Slot
  given slot p ty.Int = []
  given slot p t = slot p t ∷ []

  pub record IsSlot (slot : Place → Ty → Slot) : Type 0 where
    pub is : (p : Place) (u : Ty) → laid (slot p u ∷ []) ≡ p ∷ []

  laid-given : (slot : Place → Ty → Slot) → IsSlot slot → (p : Place) (u : Ty) → laid (given slot p u) ≡ some (is_int u) p
  laid-given slot i p ty.Bool = i.is p ty.Bool
  laid-given slot i p ty.Int = refl
  laid-given slot i p (ty.Enum x) = i.is p (ty.Enum x)

  abbrev pub lasts_slots : List TypeDecl → List Decl → (Place → Place) → List Slot
  lasts_slots types [] w = []
  lasts_slots types (d ∷ ds) w = (elim d.last [ None ↦ [] | Some c ↦ register (w (Named d.name ∷ [])) (shape_of types d.ty) ∷ [] ]) ++ lasts_slots types ds w

  abbrev pub outputs_slots : List Decl → (Place → Place) → List Slot
  outputs_slots [] w = []
  outputs_slots (d ∷ ds) w = given free (w (Named d.name ∷ [])) d.ty ++ outputs_slots ds w

  abbrev pub row_slots : (Place → Ty → Slot) → List Decl → (Place → Place) → List Slot
  row_slots slot [] w = []
  row_slots slot (d ∷ ds) w = given slot (w (Head ∷ [])) d.ty ++ row_slots slot ds (below Tail w)

  pub at-lasts : (t : Told) (types : List TypeDecl) (ds : List Decl) (w : Place → Place) (before : List Kept) (rest : List Place) → At before (laid (lasts_slots types ds w) ++ rest) → At (with_lasts t ds before) rest
  at-lasts t types [] w before rest h = h
  at-lasts t types (d ∷ ds) w before rest h = at-lasts t types ds w (with_last t d d.last before) rest (by d.last h)
    where
      by : (o : Option Const) → At before (laid ((elim o [ None ↦ [] | Some c ↦ register (w (Named d.name ∷ [])) (shape_of types d.ty) ∷ [] ]) ++ lasts_slots types ds w) ++ rest) → At (with_last t d o before) (laid (lasts_slots types ds w) ++ rest)
      by None h = h
      by (Some c) h = at-register types (constant_number t c) (type_shape t d.ty) d.ty before (w (Named d.name ∷ [])) (lasts_slots types ds w) rest (mark-type t d.ty) h

  pub at-row : (t : Told) (kind : Shape → Kept) (slot : Place → Ty → Slot) → IsSlot slot → (ds : List Decl) (w : Place → Place) (before : List Kept) (rest : List Place) → At before (laid (row_slots slot ds w) ++ rest) → At (with_row kind t ds before) rest
  at-row t kind slot i [] w before rest h = h
  at-row t kind slot i (d ∷ ds) w before rest h =
      let p = w (Head ∷ []) in
      let others = row_slots slot ds (below Tail w) in
      at-row t kind slot i ds (below Tail w) (with_shaped kind (type_shape t d.ty) before) rest
      (at-shaped kind (type_shape t d.ty) (is_int d.ty) before p (laid others ++ rest) (mark-type t d.ty) (h ∙ laid-both (given slot p d.ty) others rest ∙ ap (λ l. l ++ (laid others ++ rest)) (laid-given slot i p d.ty)))

  module _ (places : Place → Type 0) where
    -- what depends, and what each slot stands for
    abbrev pub steers : Steering
    steers = record { places = places; slots = λ i. only (place_at ps i) }

    stands-next : (before : List Kept) (p : Place) (rest : List Place) → At before (p ∷ rest) → IsBehind steers (only p) before
    stands-next before p rest h = λ l. subst places (sym (place-behind (length before) ps p rest h)) l

    pub compared-next : (c b : Bool) (before : List Kept) (p : Place) (rest : List Place) → c ≡ b → At before ((if b then p ∷ [] else []) ++ rest) → ComparedBehind steers c (only p) before × At (if c then with_kept before (kept.free Truth) else before) rest
    compared-next c b before p rest q h = subst (λ i. ComparedBehind steers i (only p) before × At (if i then with_kept before (kept.free Truth) else before) rest) (sym q) (by b h)
      where
        by : (b : Bool) → At before ((if b then p ∷ [] else []) ++ rest) → ComparedBehind steers b (only p) before × At (if b then with_kept before (kept.free Truth) else before) rest
        by true h = (stands-next before p rest h, at-next before (kept.free Truth) p rest h)
        by false h = (tt, h)

    given-next : (c b : Bool) (before : List Kept) (p : Place) (rest : List Place) → c ≡ b → At before (some b p ++ rest) → GivenBehind steers c (only p) before
    given-next c b before p rest q h = subst (λ i. GivenBehind steers i (only p) before) (sym q) (by b h)
      where
        by : (b : Bool) → At before (some b p ++ rest) → GivenBehind steers b (only p) before
        by true h = tt
        by false h = stands-next before p rest h

    pub outputs-next : (t : Told) (ds : List Decl) (w : Place → Place) (before : List Kept) (rest : List Place) → At before (laid (outputs_slots ds w) ++ rest) → RowStands steers t ds (λ p. only (w p)) before × At (with_row kept.free t ds before) rest
    outputs-next t [] w before rest h = (tt, h)
    outputs-next t (d ∷ ds) w before rest h =
        let p = w (Named d.name ∷ []) in
        let others = outputs_slots ds w in
        let k = h ∙ laid-both (given free p d.ty) others rest ∙ ap (λ l. l ++ (laid others ++ rest)) (laid-given free (record { is = λ p u. refl }) p d.ty) in
        let more = outputs-next t ds w (with_shaped kept.free (type_shape t d.ty) before) rest (at-shaped kept.free (type_shape t d.ty) (is_int d.ty) before p (laid others ++ rest) (mark-type t d.ty) k) in
        ((given-next (is_mark (type_shape t d.ty)) (is_int d.ty) before p (laid others ++ rest) (mark-type t d.ty) k, more.0), more.1)
