-- The bits that a machine chooses are those of the values that the control variables take of them.
use Rattle.std.proofs.Common.{◌≡◌, ◌⊎◌, inl, inr, ℕ, zero, suc, ◌+◌, ◌<◌, ◌≤◌, Bool, true, false, nat_lt, if◌then◌else◌, List, [], ◌∷◌, ◌++◌, length, map, take, drop, refl, sym, ap, ap₂, subst, ◌∙◌, arith}
use Rattle.std.specs.Prelude.{⊤}
use Rattle.std.specs.List.{range_with_len}
use Rattle.std.specs.Str.{bytes_eq}
use Rattle.std.proofs.lemmas.Bool.Decides.{nat_tests}
use Rattle.std.proofs.lemmas.List.{append-nil}
use Rattle.hp_base.specs.Kinds.{KindData, Bools, Ints, Constructors, IsOfKind}
use Rattle.hp_base.specs.declared.ty.Ty.{Ty}
use Rattle.hp_base.specs.declared.ty.Ty.TheVariants as ty
use Rattle.hp_base.specs.declared.value.Value.{Value}
use Rattle.hp_base.specs.declared.value.Value.TheVariants.{Absent, Nil, B, E, I, Star}
use Rattle.hp_boolx.specs.Game.{IsPreferred, Permitted}
use Rattle.hp_boolx.specs.Machine.{Machine, game}
use Rattle.hp_boolx.specs.Search.{Bits}
use Rattle.hp_boolx.specs.Solved.{IsChoice}
use Rattle.hp_circuit.specs.Numbers as circuit
use Rattle.hp_obc.specs.Machines.{ObcType}
use Rattle.hp_tree.specs.declared.program.Item.{Item}
use Rattle.hp_tree.specs.Blocks.{Decl}
use Rattle.hp_tree.specs.Programs.{Node, TypeDecl}
use Rattle.hp_tree.specs.Instant.{Inputs, Controls, Head, Tail, Place, Instant, alone, in_row, nothing}
use Rattle.hp_tree.specs.Meaning.{types_of, controls_of}
use Rattle.hp_tree.specs.Values.{constructors_of, IsOf, AreOf}
use Rattle.hp_flat.specs.declared.node.FlatTy.{FlatTy}
use Rattle.hp_flat.specs.declared.node.FlatTy.TheVariants as flat
use Rattle.hp_flat.specs.Nodes.{FlatNode}
use Rattle.hp_meaning.specs.Causal.Sources.{below}
use Rattle.hp_meaning.specs.Contract.Codes.{code, cons_number, number, pow2, to_bits, width, CodeLaw, WidthLaw}
use Rattle.hp_meaning.specs.Contract.Game.{Choice, ChoiceTypesLaw, IsChoiceOf, preferred}
use Rattle.hp_meaning.specs.Contract.Slots.{Slot, input, control, shape_of, slots_of_node, width_of}
use Rattle.law_equations.specs.Meaning.Kinding.{constructors, kind_of_type, kinds_at, variable_kind}
use Rattle.law_games.specs.Mirror.Choices.{BitsInOrder, choice_bits}
use Rattle.law_games.specs.Mirror.Mirrored.{AreCodes, Mirrors, codes_at, controls_among, given_with, widths_at}
use Rattle.law_games.proofs.MirrorLemmas.SlotLists.{controls_joined, no_controls}
use Rattle.law_drawing.proofs.CarriedLemmas.Inputs.{inner_free, inner_slots, lasts, lasts_slots}
use Rattle.law_drawing.proofs.MirrorsLemmas.Preferred.{row_bits}
use Rattle.law_wellmade.specs.Timely.Kinds.{declared_kind, kind_of, kinds_of_decls}
use Rattle.law_wellmade.specs.Timely.Tested.{ConstructorsDiffer}
use Rattle.law_wellmade.proofs.TimelyLemmas.KindLaws.{kind_is}
use Rattle.hp_controller.specs.declared.decoding.Control.{Control}
use Rattle.hp_controller.specs.declared.decoding.ControlKind.{ControlKind}
use Rattle.hp_controller.specs.declared.decoding.ControlKind.TheVariants.{Truth, Constructor}
use Rattle.hp_controller.specs.Decoding.{value_by, value_of, values_by}
use Rattle.hp_watch.specs.Adding.{type_at}
use Rattle.law_choices.specs.InTurn.Nodes.{AreOfTypes, IsOfType}
use Rattle.law_choices.proofs.AddingLemmas.One.{kind-at}
use Rattle.law_choices.proofs.PlayingLemmas.Inputs.{row_of_slots, slot_of}

-- ---- numbers

pow2-same : (w : ℕ) → circuit.pow2 w ≡ pow2 w
pow2-same zero = refl
pow2-same (suc w) = ap (λ k. k + k) (pow2-same w)

number-same : (bs : Bits) → circuit.number bs ≡ number bs
number-same [] = refl
number-same (b ∷ bs) = ap₂ (λ p k. (if b then p else 0) + k) (pow2-same (length bs)) (number-same bs)

-- ---- what a control variable is

declared-kind : (t : ℕ) (ds : List TypeDecl) (x : List ℕ) → (u : ℕ) × (declared_kind t ds x ≡ Constructors u (constructors_of ds x))
declared-kind t [] x = (t, refl)
declared-kind t (d ∷ ds) x = by (bytes_eq d.name x) (declared-kind (suc t) ds x)
  where
    by : (b : Bool) → ((u : ℕ) × (declared_kind (suc t) ds x ≡ Constructors u (constructors_of ds x)))
        → (u : ℕ) × ((if b then Constructors t d.cons else declared_kind (suc t) ds x) ≡ Constructors u (if b then d.cons else constructors_of ds x))
    by true r = (t, refl)
    by false r = r

module _ (decls : List TypeDecl) where
  -- a control variable is of the type of a declaration
  abbrev pub IsKindOf : Ty → ControlKind → Type 0
  IsKindOf ty.Bool Truth = ⊤
  IsKindOf (ty.Enum x) (Constructor e) = e.constructors ≡ length (constructors_of decls x)
  IsKindOf t k = ⊥

  -- and has as many bits
  abbrev pub Suits : List Decl → List Control → Type 0
  Suits [] [] = ⊤
  Suits (d ∷ ds) (c ∷ cs) = IsKindOf d.ty c.kind × (c.width ≡ width_of (shape_of decls d.ty)) × Suits ds cs
  Suits ds cs = ⊥

  kind-of-control : (types : List ObcType) (f : FlatTy) (t : Ty) (k : ControlKind) → kind_of_type types f ≡ kind_of decls t → IsOfType types f k → IsKindOf t k
  kind-of-control types flat.Bool ty.Bool Truth e h = tt
  kind-of-control types flat.Bool ty.Int Truth e h = absurd cc
  kind-of-control types flat.Bool (ty.Enum x) Truth e h = let c = declared-kind 0 decls x in absurd (let q : Bools ≡ Constructors c.0 (constructors_of decls x) = e ∙ c.1 in cc)
  kind-of-control types flat.Bool t (Constructor o) e h = absurd h
  kind-of-control types flat.Int t Truth e h = absurd h
  kind-of-control types flat.Int t (Constructor o) e h = absurd h
  kind-of-control types (flat.Enum y) t Truth e h = absurd h
  kind-of-control types (flat.Enum y) ty.Bool (Constructor o) e h = absurd cc
  kind-of-control types (flat.Enum y) ty.Int (Constructor o) e h = absurd cc
  kind-of-control types (flat.Enum y) (ty.Enum x) (Constructor o) e h =
      let c = declared-kind 0 decls x in
      let q : Constructors y (constructors types y) ≡ Constructors c.0 (constructors_of decls x) = e ∙ c.1 in
      let same : constructors types y ≡ constructors_of decls x = cc in
      h.1 ∙ ap length same

  -- what is said of slots has the widths of those that are no integers
  pub suits : (types : List ObcType) (n : FlatNode) (ds : List Decl) (cs : List Control) (first : ℕ) (w : Place → Place) → length cs ≡ length ds → AreOfTypes types n first cs
      → map (variable_kind types n.variables) (range_with_len first (length ds)) ≡ kinds_of_decls decls ds → map (λ (c : Control). c.width) cs ≡ widths_at decls (controls_among (row_of_slots control ds w)) → Suits ds cs
  suits types n [] [] first w l a k h = tt
  suits types n [] (c ∷ cs) first w l a k h = absurd (omega (arith, l))
  suits types n (d ∷ ds) [] first w l a k h = absurd (omega (arith, l))
  suits types n (d ∷ ds) (c ∷ cs) first w l a k h =
      let here : variable_kind types n.variables first ≡ kind_of decls d.ty = cc in
      let behind : map (variable_kind types n.variables) (range_with_len (first + 1) (length ds)) ≡ kinds_of_decls decls ds = cc in
      by d.ty (kind-of-control types (type_at n first) d.ty c.kind (sym (kind-at types n first) ∙ here) a.0) (suits types n ds cs (first + 1) (below Tail w) (omega (arith, l)) a.1 behind) h
    where
      by : (t : Ty) → IsKindOf t c.kind → (map (λ (c : Control). c.width) cs ≡ widths_at decls (controls_among (row_of_slots control ds (below Tail w))) → Suits ds cs)
          → map (λ (c : Control). c.width) (c ∷ cs) ≡ widths_at decls (controls_among (slot_of control (w (Head ∷ [])) t ++ row_of_slots control ds (below Tail w))) → IsKindOf t c.kind × (c.width ≡ width_of (shape_of decls t)) × Suits ds cs
      by ty.Bool i more e = (
        i,
        let q : c.width ≡ 1 = cc in q,
        more (let q : map (λ (c : Control). c.width) cs ≡ widths_at decls (controls_among (row_of_slots control ds (below Tail w))) = cc in q),
      )
      by ty.Int i more e = absurd (no-integer c.kind i)
        where
          no-integer : (k : ControlKind) → IsKindOf ty.Int k → ⊥
          no-integer Truth i = i
          no-integer (Constructor e) i = i
      by (ty.Enum x) i more e = (
        i,
        let q : c.width ≡ width_of (shape_of decls (ty.Enum x)) = cc in q,
        more (let q : map (λ (c : Control). c.width) cs ≡ widths_at decls (controls_among (row_of_slots control ds (below Tail w))) = cc in q),
      )

  -- ---- decoding

  module _ (codes : CodeLaw) (widths : WidthLaw) (differ : ConstructorsDiffer decls) where
    take-front : (a rest : Bits) (w : ℕ) → w ≡ length a → take w (a ++ rest) ≡ a
    take-front [] rest w l = subst (λ k. take k rest ≡ []) (sym l) refl
    take-front (x ∷ a) rest zero l = absurd (omega (arith, l))
    take-front (x ∷ a) rest (suc w) l = ap (λ bs. x ∷ bs) (take-front a rest w (omega (arith, l)))

    drop-front : (a rest : Bits) (w : ℕ) → w ≡ length a → drop w (a ++ rest) ≡ rest
    drop-front [] rest w l = subst (λ k. drop k rest ≡ rest) (sym l) refl
    drop-front (x ∷ a) rest zero l = absurd (omega (arith, l))
    drop-front (x ∷ a) rest (suc w) l = drop-front a rest w (omega (arith, l))

    -- a constructor has a number below those of its type
    constructor-below : (x : List ℕ) (v : Value) → IsOf decls (ty.Enum x) v → cons_number v < length (constructors_of decls x)
    constructor-below x (E u k) h =
        let c = declared-kind 0 decls x in
        let it : IsOfKind (Constructors c.0 (constructors_of decls x)) (E u k) = subst (λ d. IsOfKind d (E u k)) c.1 (kind_is decls (ty.Enum x) (E u k) differ tt h) in
        it.1
    constructor-below x Absent h = absurd h
    constructor-below x Nil h = absurd h
    constructor-below x (B b) h = absurd h
    constructor-below x (I b) h = absurd h
    constructor-below x Star h = absurd h

    -- the value of a code has this code
    code-back : (t : Ty) (k : ControlKind) (v : Value) → IsKindOf t k → IsOf decls t v → code decls t (value_by k (code decls t v)) ≡ code decls t v
    code-back ty.Bool Truth v i h = refl
    code-back ty.Bool (Constructor e) v i h = absurd i
    code-back ty.Int Truth v i h = absurd i
    code-back ty.Int (Constructor e) v i h = absurd i
    code-back (ty.Enum x) Truth v i h = absurd i
    code-back (ty.Enum x) (Constructor e) v i h =
        let many = length (constructors_of decls x) in
        let w = width many in
        let k = cons_number v in
        let l = constructor-below x v h in
        let fits = (widths many).0 in
        let back = codes w k (omega (arith, l, fits)) in
        let is : circuit.number (to_bits w k) ≡ k = number-same (to_bits w k) ∙ back.1 in
        let less : nat_lt k e.constructors ≡ true = grind (arith, nat_tests, l, i) in
        ap (λ z. to_bits w (if nat_lt z e.constructors then z else 0)) is ∙ ap (λ b. to_bits w (if b then k else 0)) less

    code-long : (t : Ty) (v : Value) → length (code decls t v) ≡ width_of (shape_of decls t)
    code-long ty.Bool v = refl
    code-long ty.Int v = refl
    code-long (ty.Enum x) v = bits-long (width (length (constructors_of decls x))) (cons_number v)
      where
        bits-long : (w k : ℕ) → length (to_bits w k) ≡ w
        bits-long zero k = refl
        bits-long (suc w) k = ap suc (bits-long w _)

    pub rows-back : (ds : List Decl) (cs : List Control) (d : Choice) → Suits ds cs → AreOf decls ds d → row_bits decls ds (values_by cs (row_bits decls ds d)) ≡ row_bits decls ds d
    rows-back [] [] [] s h = refl
    rows-back [] [] (v ∷ d) s h = absurd h
    rows-back [] (c ∷ cs) d s h = absurd s
    rows-back (x ∷ ds) [] d s h = absurd s
    rows-back (x ∷ ds) (c ∷ cs) [] s h = absurd h
    rows-back (x ∷ ds) (c ∷ cs) (v ∷ d) s h =
        let first = code decls x.ty v in
        let rest = row_bits decls ds d in
        let wide : c.width ≡ length first = s.1 ∙ sym (code-long x.ty v) in
        ap₂ (λ a b. code decls x.ty (value_by c.kind a) ++ row_bits decls ds (values_by cs b)) (take-front first rest c.width wide) (drop-front first rest c.width wide)
        ∙ ap₂ (λ a b. a ++ b) (code-back x.ty c.kind v s.0 h.0) (rows-back ds cs d s.2 h.1)

    -- bits begin with those of a value, behind which stand those of a choice
    abbrev HasFirst : List Decl → Bits → Ty → Type 0
    HasFirst ds bits t = (v : Value) × (d : Choice) × IsOf decls t v × AreOf decls ds d × (bits ≡ code decls t v ++ row_bits decls ds d)

    -- codes are those of a choice
    pub codes-rows : (ds : List Decl) (cs : List Control) (w : Place → Place) (bits : Bits) → Suits ds cs → AreCodes decls (controls_among (row_of_slots control ds w)) bits → (d : Choice) × AreOf decls ds d × (bits ≡ row_bits decls ds d)
    codes-rows [] [] w bits s h = ([], tt, h)
    codes-rows [] (c ∷ cs) w bits s h = absurd s
    codes-rows (x ∷ ds) [] w bits s h = absurd s
    codes-rows (x ∷ ds) (c ∷ cs) w bits s h = let r = by x.ty s.0 h (λ rest i. codes-rows ds cs (below Tail w) rest s.2 i) in (r.0 ∷ r.1, (r.2, r.3), r.4)
      where
        by : (t : Ty) → IsKindOf t c.kind → AreCodes decls (controls_among (slot_of control (w (Head ∷ [])) t ++ row_of_slots control ds (below Tail w))) bits
            → ((rest : Bits) → AreCodes decls (controls_among (row_of_slots control ds (below Tail w))) rest → (d : Choice) × AreOf decls ds d × (rest ≡ row_bits decls ds d)) → HasFirst ds bits t
        by ty.Bool i a more = let r = more a.1 a.4 in (a.0, r.0, a.2, r.1, a.3 ∙ ap (λ bs. code decls ty.Bool a.0 ++ bs) r.2)
        by ty.Int i a more = absurd (no-integer c.kind i)
          where
            no-integer : (k : ControlKind) → IsKindOf ty.Int k → ⊥
            no-integer Truth i = i
            no-integer (Constructor e) i = i
        by (ty.Enum y) i a more = let r = more a.1 a.4 in (a.0, r.0, a.2, r.1, a.3 ∙ ap (λ bs. code decls (ty.Enum y) a.0 ++ bs) r.2)

  values-long : (ds : List Decl) (cs : List Control) (bits : Bits) → Suits ds cs → length (values_by cs bits) ≡ length ds
  values-long [] [] bits s = refl
  values-long [] (c ∷ cs) bits s = absurd s
  values-long (x ∷ ds) [] bits s = absurd s
  values-long (x ∷ ds) (c ∷ cs) bits s = ap suc (values-long ds cs (drop c.width bits) s.2)

  pub of-long : (ds : List Decl) (vs : List Value) → AreOf decls ds vs → length vs ≡ length ds
  of-long [] [] h = refl
  of-long [] (v ∷ vs) h = absurd h
  of-long (x ∷ ds) [] h = absurd h
  of-long (x ∷ ds) (v ∷ vs) h = ap suc (of-long ds vs h.1)

-- ---- the slots of controllable variables

abbrev pub here : Place → Place
here p = p

abbrev pub control_row : Node → List Slot
control_row n = row_of_slots control (controls_of n.contract) (below Controls here)

no-inputs : (ds : List Decl) (w : Place → Place) → controls_among (row_of_slots input ds w) ≡ []
no-inputs [] w = refl
no-inputs (d ∷ ds) w = by d.ty (no-inputs ds (below Tail w))
  where
    by : (t : Ty) → controls_among (row_of_slots input ds (below Tail w)) ≡ [] → controls_among (slot_of input (w (Head ∷ [])) t ++ row_of_slots input ds (below Tail w)) ≡ []
    by ty.Bool e = e
    by ty.Int e = e
    by (ty.Enum x) e = e

pub controls-are : (program : List Item) (n : Node) → controls_among (slots_of_node program n) ≡ controls_among (control_row n)
controls-are program n =
    let ins = row_of_slots input n.inputs (below Inputs here) in
    let own = lasts_slots (types_of program) n.outputs here in
    let inner = inner_slots program n in
    controls_joined ins (own ++ (control_row n ++ inner))
    ∙ ap₂ (λ ps qs. ps ++ qs) (no-inputs n.inputs (below Inputs here))
    (controls_joined own (control_row n ++ inner)
    ∙ ap₂ (λ ps qs. ps ++ qs) (no_controls own (lasts (types_of program) n.outputs here))
    (controls_joined (control_row n) inner ∙ ap (λ ps. controls_among (control_row n) ++ ps) (no_controls inner (inner_free program n)) ∙ append-nil (controls_among (control_row n))))

codes-row : (decls : List TypeDecl) (ds : List Decl) (c : Choice) (w : Place → Place) (root : Instant) → length c ≡ length ds → ((p : Place) → root (w p) ≡ in_row (map alone c) p)
    → codes_at decls (controls_among (row_of_slots control ds w)) root ≡ row_bits decls ds c
codes-row decls [] [] w root l h = refl
codes-row decls [] (v ∷ c) w root l h = absurd (omega (arith, l))
codes-row decls (d ∷ ds) [] w root l h = absurd (omega (arith, l))
codes-row decls (d ∷ ds) (v ∷ c) w root l h = by d.ty (h (Head ∷ [])) (codes-row decls ds c (below Tail w) root (omega (arith, l)) (λ p. h (Tail ∷ p)))
  where
    by : (t : Ty) → root (w (Head ∷ [])) ≡ v → codes_at decls (controls_among (row_of_slots control ds (below Tail w))) root ≡ row_bits decls ds c
        → codes_at decls (controls_among (slot_of control (w (Head ∷ [])) t ++ row_of_slots control ds (below Tail w))) root ≡ code decls t v ++ row_bits decls ds c
    by ty.Bool e f = ap₂ (λ v bs. code decls ty.Bool v ++ bs) e f
    by ty.Int e f = f
    by (ty.Enum t) e f = ap₂ (λ v bs. code decls (ty.Enum t) v ++ bs) e f

pub choice-row : (program : List Item) (n : Node) (c : Choice) → length c ≡ length (controls_of n.contract) → choice_bits program n c ≡ row_bits (types_of program) (controls_of n.contract) c
choice-row program n c l =
    ap (λ ps. codes_at (types_of program) ps (given_with [] nothing c)) (controls-are program n) ∙ codes-row (types_of program) (controls_of n.contract) c (below Controls here) (given_with [] nothing c) l (λ p. refl)

-- ---- the choice of a machine

-- whether two lists of bits are one is known
decide-bits : (a b : Bits) → (a ≡ b) ⊎ ((a ≡ b) → ⊥)
decide-bits [] [] = inl refl
decide-bits [] (y ∷ b) = inr (λ e. absurd cc)
decide-bits (x ∷ a) [] = inr (λ e. absurd cc)
decide-bits (x ∷ a) (y ∷ b) = by x y (decide-bits a b)
  where
    by : (x y : Bool) → (a ≡ b) ⊎ ((a ≡ b) → ⊥) → (x ∷ a ≡ y ∷ b) ⊎ ((x ∷ a ≡ y ∷ b) → ⊥)
    by true true (inl e) = inl (ap (λ bs. true ∷ bs) e)
    by false false (inl e) = inl (ap (λ bs. false ∷ bs) e)
    by true false r = inr (λ e. absurd cc)
    by false true r = inr (λ e. absurd cc)
    by true true (inr n) = inr (λ e. n (let q : a ≡ b = cc in q))
    by false false (inr n) = inr (λ e. n (let q : a ≡ b = cc in q))

pub certain : (a b : Bits) → (((a ≡ b) → ⊥) → ⊥) → a ≡ b
certain a b h = by (decide-bits a b)
  where
    by : (a ≡ b) ⊎ ((a ≡ b) → ⊥) → a ≡ b
    by (inl e) = e
    by (inr n) = absurd (h n)

-- Bits that a machine chooses that mirrors a node are those of the values that control variables take of them, where these are of the types of the node's controllable variables.
module _ (codes : CodeLaw) (widths : WidthLaw) (of_types : ChoiceTypesLaw) (after earlier : List Item) (n : Node) (m : Machine) (M : Mirrors after earlier n m) (cs : List Control) (differ : ConstructorsDiffer (types_of after)) (suit : Suits (types_of after) (controls_of n.contract) cs)
    (order : BitsInOrder after n m.prefer) (some : IsChoiceOf after n (preferred after n)) where
  abbrev decls : List TypeDecl
  decls = types_of after

  abbrev ds : List Decl
  ds = controls_of n.contract

  -- the bits of a choice are those of its values
  row-back : (bits : Bits) (d : Choice) → AreOf decls ds d → bits ≡ row_bits decls ds d → choice_bits after n (values_by cs bits) ≡ bits
  row-back bits d h e =
      choice-row after n (values_by cs bits) (values-long decls ds cs bits suit) ∙ ap (λ z. row_bits decls ds (values_by cs z)) e ∙ rows-back decls codes widths differ ds cs d suit h ∙ sym e

  valid-back : (bits : Bits) → AreCodes decls (controls_among (slots_of_node after n)) bits → choice_bits after n (values_by cs bits) ≡ bits
  valid-back bits h =
      let r = codes-rows decls codes widths differ ds cs (below Controls here) bits suit (subst (λ ps. AreCodes decls ps bits) (controls-are after n) h) in
      row-back bits r.0 r.1 r.2

  preferred-back : choice_bits after n (values_by cs m.prefer) ≡ m.prefer
  preferred-back =
      let h = of_types after n (preferred after n) some in
      row-back m.prefer (preferred after n) h (order.first ∙ choice-row after n (preferred after n) (of-long decls ds (preferred after n) h))

  pub chosen-back : (r u c : Bits) → length r ≡ m.registers → length u ≡ m.early → IsChoice (game m) r u c → choice_bits after n (values_by cs c) ≡ c
  chosen-back r u c lr lu choice =
      certain (choice_bits after n (values_by cs c)) c
      (λ other.
      let none : (d : Bits) → length d ≡ length m.prefer → Permitted (game m) r u d → ⊥ =
      (λ d l p.
      let best = (choice.best d l p).0 in
      let valid = best.0 in
      let w = valid.1 in
      other (valid-back c ((M.valid r u c w.0 lr lu valid.0 w.1.0).0 w.1.1).1)) in
      let same = choice.else_prefer none in
      other (subst (λ z. choice_bits after n (values_by cs z) ≡ z) (sym same) preferred-back))
