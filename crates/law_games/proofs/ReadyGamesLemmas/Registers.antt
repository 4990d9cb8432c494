-- The registers of expressions and of `last` variables: each holds zeros of the type of what it stores.
use Rattle.std.proofs.Common.{◌≡◌, ℕ, List, [], ◌∷◌, ◌++◌, refl, sym, ap, subst, ◌∙◌, inl, inr}
use Rattle.std.proofs.lemmas.Slice.Eq.{bytes_eq-Decides}
use Rattle.std.specs.Prelude.{Bool, true, false, ◌&&◌, IsTrue, if◌then◌else◌, Option, None, Some, ⊤}
use Rattle.std.specs.Str.{bytes_eq}
use Rattle.hp_base.specs.declared.ty.Const.{Const}
use Rattle.hp_base.specs.declared.ty.Ty.{Ty}
use Rattle.hp_base.specs.declared.ty.Ty.TheVariants as ty
use Rattle.hp_base.specs.declared.value.Value.{Value}
use Rattle.hp_tree.specs.declared.block.Trans.{Trans}
use Rattle.hp_tree.specs.Expressions.{Expr, constant, variable, last_of, one, two, choose, pre, fby, arrow, when_is, merge, call, Exprs, no_expr, more_exprs, Parts, no_part, more_parts}
use Rattle.hp_tree.specs.Blocks.{Decl}
use Rattle.hp_tree.specs.Programs.{TypeDecl, Node}
use Rattle.hp_tree.specs.Operators.{is_comparison}
use Rattle.hp_tree.specs.Instant.{Step, Named, Fresh, Head, Tail, First, Second, Third, Args, Instance, Place, Instant, part}
use Rattle.hp_tree.specs.ExpressionTypes as tree
use Rattle.hp_tree.specs.Filled.{outputs_declared}
use Rattle.hp_base.specs.Known.Known.{lookup}
use Rattle.hp_typing.specs.Types.{type_of, types_in, type_of_one, args_fit, merge_type}
use Rattle.law_judged.specs.Typed.Scopes.{Scope}
use Rattle.hp_meaning.specs.Causal.Sources.{below}
use Rattle.hp_meaning.specs.Causal.RanksOfPoints.{same_place}
use Rattle.hp_meaning.proofs.CausalLemmas.Ranking.{place_same, same_place_refl}
use Rattle.hp_meaning.specs.Contract.Memory.{is_last}
use Rattle.hp_meaning.specs.Contract.Slots.{truth, Slot, register, free, is_int, shape_of, Register, registers_among, zero_of, zero_at, slots, slots_of_all, slots_of_parts, slots_of_conditions}
use Rattle.law_values.specs.Valued.Judged.{Lasts, ExprSound, ExprsSound, PartsSound, TestsSound, HaveOwnTypes}
use Rattle.law_values.proofs.ValuedLemmas.Typed.{some_is, one_typed, two_typed, if_typed, pair_typed, when_typed, call_typed, merge_typed, PartsHave, arg_typed}
use Rattle.law_values.specs.Filled.Firsts.{HasFirst, DeclsHaveFirsts}
use Rattle.law_values.proofs.FilledLemmas.Constructors.{ConsTyped}
use Rattle.law_values.proofs.FilledLemmas.TypesAgree.{Agrees, outputs, same_type}
use Rattle.law_games.specs.Settled.Laws.{OwnsConstructors}
use Rattle.law_games.proofs.SettledLemmas.ZeroValues.{zero_value}
use Rattle.law_games.proofs.SettledLemmas.Calling.{ExprCalls, ExprsCall, PartsCall, TestsCall}
use Rattle.law_games.specs.Wiretyped.Typed.{IsWire, HasWire}
use Rattle.law_games.specs.Wiretyped.Kept.{LastsKept, ExprKept, ExprsKept, PartsKept, TestsKept}
use Rattle.law_games.proofs.WiretypedLemmas.Stored.{IsJudged, judged_of}
use Rattle.law_games.proofs.ReadyGamesLemmas.Pieces.{Apart, apart_below, AllWithin, anywhere, nowhere, begins, either, HoldsZeros, Piece, loose, none, under, single, join, beside}

-- ---- pieces of one, two and three parts

pub empty : (w : Place → Place) (P : Instant → Type 0) → ((i : Instant) → P i) → Piece anywhere w [] P
empty w P f = loose nowhere anywhere w [] P P (none w P f) (λ k h. tt) (λ i h. h)

pub of_one : (s : Step) (w : Place → Place) (ss : List Slot) (P Q : Instant → Type 0) → Piece anywhere (below s w) ss P → ((i : Instant) → P (part s i) → Q i) → Piece anywhere w ss Q
of_one s w ss P Q x g = loose (begins s) anywhere w ss (λ i. P (part s i)) Q (under anywhere s w ss P x) (λ k h. tt) g

abbrev pub both : Step → Step → Option Step → Type 0
both s t = either (begins s) (begins t)

pub pair : (s t : Step) (w : Place → Place) (ss ts : List Slot) (P Q : Instant → Type 0) → Apart w → (Some s ≡ Some t → ⊥) → Piece anywhere (below s w) ss P → Piece anywhere (below t w) ts Q
    → Piece (both s t) w (ss ++ ts) (λ i. P (part s i) × Q (part t i))
pair s t w ss ts P Q a d x y =
    join (begins s) (begins t) w ss ts (λ i. P (part s i)) (λ i. Q (part t i)) a (under anywhere s w ss P x) (under anywhere t w ts Q y) (λ k h e. d (sym h ∙ e))

pub of_two : (s t : Step) (w : Place → Place) (ss ts : List Slot) (P Q R : Instant → Type 0) → Apart w → (Some s ≡ Some t → ⊥) → Piece anywhere (below s w) ss P → Piece anywhere (below t w) ts Q
    → ((i : Instant) → P (part s i) → Q (part t i) → R i) → Piece anywhere w (ss ++ ts) R
of_two s t w ss ts P Q R a d x y g =
    loose (both s t) anywhere w (ss ++ ts) (λ i. P (part s i) × Q (part t i)) R (pair s t w ss ts P Q a d x y) (λ k h. tt) (λ i h. g i h.0 h.1)

pub of_three : (s t u : Step) (w : Place → Place) (ss ts us : List Slot) (P Q R S : Instant → Type 0) → Apart w → (Some s ≡ Some t → ⊥) → (Some s ≡ Some u → ⊥) → (Some t ≡ Some u → ⊥)
    → Piece anywhere (below s w) ss P → Piece anywhere (below t w) ts Q → Piece anywhere (below u w) us R
    → ((i : Instant) → P (part s i) → Q (part t i) → R (part u i) → S i) → Piece anywhere w (ss ++ (ts ++ us)) S
of_three s t u w ss ts us P Q R S a d e f x y z g =
    loose (either (begins s) (both t u)) anywhere w (ss ++ (ts ++ us)) (λ i. P (part s i) × (Q (part t i) × R (part u i))) S
    (join (begins s) (both t u) w ss (ts ++ us) (λ i. P (part s i)) (λ i. Q (part t i) × R (part u i)) a (under anywhere s w ss P x) (pair t u w ts us Q R a f y z) (λ k h n. other k h n))
    (λ k h. tt) (λ i h. g i h.0 h.1.0 h.1.1)
  where
    other : (k : Option Step) → begins s k → both t u k → ⊥
    other k h (inl n) = d (sym h ∙ n)
    other k h (inr n) = e (sym h ∙ n)

-- ---- `last` variables

abbrev pub a_name : Option Step → Type 0
a_name k = (x : List ℕ) × (k ≡ Some (Named x))

abbrev pub lasts_slots : List TypeDecl → List Decl → (Place → Place) → List Slot
lasts_slots types [] w = []
lasts_slots types (d ∷ ds) w = (elim d.last [ None ↦ [] | Some c ↦ register (w (Named d.name ∷ [])) (shape_of types d.ty) ∷ [] ]) ++ lasts_slots types ds w

abbrev pub free_of : Place → Ty → List Slot
free_of p ty.Int = []
free_of p t = free p t ∷ []

abbrev pub outputs_slots : List Decl → (Place → Place) → List Slot
outputs_slots [] w = []
outputs_slots (d ∷ ds) w = free_of (w (Named d.name ∷ [])) d.ty ++ outputs_slots ds w

pub no_registers : (ds : List Decl) (w : Place → Place) → registers_among (outputs_slots ds w) ≡ []
no_registers [] w = refl
no_registers (d ∷ ds) w = by d.ty (no_registers ds w)
  where
    by : (t : Ty) → registers_among (outputs_slots ds w) ≡ [] → registers_among (free_of (w (Named d.name ∷ [])) t ++ outputs_slots ds w) ≡ []
    by ty.Bool e = e
    by ty.Int e = e
    by (ty.Enum t) e = e

module _ (types : List TypeDecl) (owns : (t : List ℕ) → OwnsConstructors types (ty.Enum t)) where
  -- zeros of a type are of it
  pub typed_zero : (t : Ty) → HasFirst types t → IsWire types t (zero_of (shape_of types t))
  typed_zero ty.Bool h = zero_value types ty.Bool h tt
  typed_zero ty.Int h = zero_value types ty.Int h tt
  typed_zero (ty.Enum t) h = zero_value types (ty.Enum t) h (owns t)

  module _ (among : List ℕ → Option Node) (s : Scope) where
    -- a register of a variable that has its type in the scope
    abbrev Own : (Place → Place) → Register → Type 0
    Own w r = (x : List ℕ) × (t : Ty) × (r.0 ≡ w (Named x ∷ [])) × (r.1 ≡ shape_of types t) × (lookup s.variables x ≡ Some t)

    abbrev AllOwn : (Place → Place) → List Register → Type 0
    AllOwn w [] = ⊤
    AllOwn w (r ∷ rs) = Own w r × AllOwn w rs

    lasts_own : (ds : List Decl) (w : Place → Place) → HaveOwnTypes types among s ds → AllOwn w (registers_among (lasts_slots types ds w))
    lasts_own [] w o = tt
    lasts_own (d ∷ ds) w o = by d.last (lasts_own ds w o.1)
      where
        by : (c : Option Const) → AllOwn w (registers_among (lasts_slots types ds w))
            → AllOwn w (registers_among ((elim c [ None ↦ [] | Some k ↦ register (w (Named d.name ∷ [])) (shape_of types d.ty) ∷ [] ]) ++ lasts_slots types ds w))
        by None h = h
        by (Some k) h = ((d.name, d.ty, refl, refl, o.0), h)

    lasts_within : (w : Place → Place) (rs : List Register) → AllOwn w rs → AllWithin a_name w rs
    lasts_within w [] h = tt
    lasts_within w (r ∷ rs) h = ((Named h.0.0 ∷ [], h.0.2, (h.0.0, refl)), lasts_within w rs h.1)

    -- one more register in front: where it stands at the same place it holds the same
    one_more : (w : Place → Place) → Apart w → (r : Register) (rs qs : List Register) → Own w r → AllOwn w qs → HoldsZeros (zero_at rs) qs → HoldsZeros (zero_at (r ∷ rs)) qs
    one_more w a r rs [] o os h = tt
    one_more w a r rs (q ∷ qs) o os h = (by (same_place r.0 q.0) refl h.0, one_more w a r rs qs o os.1 h.1)
      where
        by : (b : Bool) → same_place r.0 q.0 ≡ b → zero_at rs q.0 ≡ zero_of q.1 → (if b then zero_of r.1 else zero_at rs q.0) ≡ zero_of q.1
        by true e h =
            let p : Named o.0 ∷ [] ≡ Named os.0.0 ∷ [] = a (Named o.0 ∷ []) (Named os.0.0 ∷ []) (sym o.2 ∙ place_same r.0 q.0 e ∙ os.0.2) in
            let x : o.0 ≡ os.0.0 = cc in
            let t : o.1 ≡ os.0.1 = some_is o.1 os.0.1 (sym o.4 ∙ ap (λ z. lookup s.variables z) x ∙ os.0.4) in
            ap zero_of (o.3 ∙ ap (shape_of types) t ∙ sym os.0.3)
        by false e h = h

    all_told : (w : Place → Place) → Apart w → (rs : List Register) → AllOwn w rs → HoldsZeros (zero_at rs) rs
    all_told w a [] o = tt
    all_told w a (r ∷ rs) o = (first, one_more w a r rs rs o.0 o.1 (all_told w a rs o.1))
      where
        first : zero_at (r ∷ rs) r.0 ≡ zero_of r.1
        first = ap (λ (b : Bool). if b then zero_of r.1 else zero_at rs r.0) (same_place_refl r.0)

    lasts_hold : (ds : List Decl) (w : Place → Place) → HaveOwnTypes types among s ds → DeclsHaveFirsts types ds → (start : Instant) → HoldsZeros start (registers_among (lasts_slots types ds w)) → LastsKept types s ds (λ p. start (w p))
    lasts_hold [] w o f start h x t l e = absurd (cc)
    lasts_hold (d ∷ ds) w o f start h x t l e = by d.last (bytes_eq d.name x) refl (λ h l. lasts_hold ds w o.1 f.1 start h x t l e) h l
      where
        by : (c : Option Const) (b : Bool) → bytes_eq d.name x ≡ b → (HoldsZeros start (registers_among (lasts_slots types ds w)) → IsTrue (is_last ds x) → IsWire types t (start (w (Named x ∷ []))))
            → HoldsZeros start (registers_among ((elim c [ None ↦ [] | Some k ↦ register (w (Named d.name ∷ [])) (shape_of types d.ty) ∷ [] ]) ++ lasts_slots types ds w))
            → IsTrue (if b then (elim c [ None ↦ false | Some k ↦ true ]) else is_last ds x) → IsWire types t (start (w (Named x ∷ [])))
        by None true q more h l = absurd (cc)
        by (Some k) true q more h l =
            let n : d.name ≡ x = (bytes_eq-Decides d.name x).0 q in
            let same : d.ty ≡ t = some_is d.ty t (sym o.0 ∙ ap (λ z. lookup s.variables z) n ∙ e) in
            subst (λ z. IsWire types t (start (w (Named z ∷ [])))) n
            (subst (λ v. IsWire types t v) (sym h.0) (subst (λ z. IsWire types z (zero_of (shape_of types d.ty))) same (typed_zero d.ty f.0)))
        by None false q more h l = more h l
        by (Some k) false q more h l = more h.1 l

    pub lasts_piece : (ds : List Decl) (w : Place → Place) → Apart w → HaveOwnTypes types among s ds → DeclsHaveFirsts types ds → Piece a_name w (lasts_slots types ds w) (λ i. LastsKept types s ds i)
    lasts_piece ds w a o f =
        let rs = registers_among (lasts_slots types ds w) in
        let own = lasts_own ds w o in
        record { within = lasts_within w rs own; told = all_told w a rs own; kept = lasts_hold ds w o f }

-- ---- expressions

-- the type of the first of some declarations
abbrev first_ty : List Decl → Ty
first_ty [] = ty.Bool
first_ty (d ∷ ds) = d.ty

no_register : (b : Bool) (p : Place) → registers_among (if b then free p ty.Bool ∷ [] else []) ≡ []
no_register true p = refl
no_register false p = refl

-- first steps that are others
no_step : (s : Step) (k : Option Step) → k ≡ None → begins s k → ⊥
no_step s k g h = let e : None ≡ Some s = sym g ∙ h in cc

no_operand : (k : Option Step) → k ≡ Some Fresh → both First Second k → ⊥
no_operand k g (inl h) = let e : Some Fresh ≡ Some First = sym g ∙ h in cc
no_operand k g (inr h) = let e : Some Fresh ≡ Some Second = sym g ∙ h in cc

no_flag : (k : Option Step) → k ≡ None → either (λ h. h ≡ Some Fresh) (both First Second) k → ⊥
no_flag k g (inl h) = no_step Fresh k g h
no_flag k g (inr (inl h)) = no_step First k g h
no_flag k g (inr (inr h)) = no_step Second k g h

-- `outs` has the outputs of each node that is called, and `called` the slots of its instances; `may` says whether there may be calls.
module _ (types : List TypeDecl) (owns : (t : List ℕ) → OwnsConstructors types (ty.Enum t)) (among : List ℕ → Option Node) (kept : List ℕ → Instant → Instant → Type 0) (may : Bool)
    (firsts : (f : List ℕ) (n : Node) → among f ≡ Some n → DeclsHaveFirsts types n.outputs)
    (outs : List ℕ → List Decl) (outs_are : IsTrue may → (f : List ℕ) (n : Node) → among f ≡ Some n → outs f ≡ n.outputs)
    (called : List ℕ → (Place → Place) → List Slot)
    (instances : IsTrue may → (f : List ℕ) (n : Node) → among f ≡ Some n → (w : Place → Place) → Apart w → Piece anywhere w (called f w) (λ i. kept f i i)) where
  module _ (s : Scope) (lasts : Lasts) (names : tree.Scope) (known : Agrees types s names) (conses : ConsTyped types s) where
    -- types are read off with the outputs of called nodes
    mutual
      same_outs : (e : Expr) (t : Ty) → ExprCalls may e → ExprSound types among s lasts e → type_of s e ≡ Some t → tree.type_of types outs e names ≡ tree.type_of types (outputs types among firsts) e names
      same_outs (constant a c) t k ok h = refl
      same_outs (variable a x) t k ok h = refl
      same_outs (last_of a x) t k ok h = refl
      same_outs (one a o b) t k ok h = same_outs b (type_of_one o) k ok (one_typed (type_of_one o) (type_of s b) t h).0
      same_outs (two a o b c) t k ok h = refl
      same_outs (choose a b c d) t k ok h = same_outs c t k.1.0 ok.1.0 (if_typed (type_of s b) (type_of s c) (type_of s d) t h).1
      same_outs (pre a b) t k ok h = same_outs b t k ok h
      same_outs (fby a b c) t k ok h = same_outs b t k.0 ok.0 (pair_typed (type_of s b) (type_of s c) t h).0
      same_outs (arrow a b c) t k ok h = same_outs b t k.0 ok.0 (pair_typed (type_of s b) (type_of s c) t h).0
      same_outs (when_is a b c x) t k ok h = same_outs b t k ok (when_typed _ (type_of s b) t h)
      same_outs (merge a x ps) t k ok h = same_in_parts ps (lookup s.variables x) t k ok.1 h
      same_outs (call a f i es) t k ok h =
          let q = call_typed (lookup s.nodes f) (types_in s es) t h in
          let m : among f ≡ Some q.0 = sym ok.0 ∙ q.1 in
          ap (first_ty) (outs_are k.0 f q.0 m ∙ sym (ap outputs_declared m))

      same_in_parts : (ps : Parts) (name : Option Ty) (t : Ty) → PartsCall may ps → PartsSound types among s lasts ps → merge_type s name ps ≡ Some t → tree.type_of_parts types outs ps names ≡ tree.type_of_parts types (outputs types among firsts) ps names
      same_in_parts no_part name t k ok h = refl
      same_in_parts (more_parts c e ps) name t k ok h = same_outs e t k.0 ok.0 (merge_typed s name (more_parts c e ps) t h).0

    -- what a delay stores has its type, and so have its zeros
    stored : (e : Expr) (t : Ty) (v : Value) → ExprCalls may e → ExprSound types among s lasts e → type_of s e ≡ Some t → v ≡ zero_of (shape_of types (tree.type_of types outs e names)) → HasWire types (type_of s e) v
    stored e t v k ok h z =
        let q = same_type types among firsts s lasts names known conses e t ok h in
        subst (λ o. HasWire types o v) (sym h)
        (subst (λ u. IsWire types t u) (sym (z ∙ ap (λ u. zero_of (shape_of types u)) (same_outs e t k ok h ∙ q.0))) (typed_zero types owns t q.1))

    abbrev Slots : Expr → (Place → Place) → List Slot
    Slots e w = slots types outs called e names w

    -- the word whether a delay has a past, and two operands
    with_flag : (b c : Expr) (w : Place → Place) → Apart w → Piece anywhere (below First w) (slots types outs called b names (below First w)) (λ i. ExprKept types kept s b i i)
        → Piece anywhere (below Second w) (slots types outs called c names (below Second w)) (λ i. ExprKept types kept s c i i)
        → Piece (either (λ h. h ≡ Some Fresh) (both First Second)) w (register (w (Fresh ∷ [])) truth ∷ (slots types outs called b names (below First w) ++ slots types outs called c names (below Second w)))
        (λ i. (i (Fresh ∷ []) ≡ zero_of truth) × (ExprKept types kept s b (part First i) (part First i) × ExprKept types kept s c (part Second i) (part Second i)))
    with_flag b c w ap' x y =
        join (λ h. h ≡ Some Fresh) (both First Second) w (register (w (Fresh ∷ [])) truth ∷ []) (Slots b (below First w) ++ Slots c (below Second w))
        (λ i. i (Fresh ∷ []) ≡ zero_of truth) (λ i. ExprKept types kept s b (part First i) (part First i) × ExprKept types kept s c (part Second i) (part Second i)) ap'
        (single w (Fresh ∷ []) truth)
        (pair First Second w (Slots b (below First w)) (Slots c (below Second w)) (λ i. ExprKept types kept s b i i) (λ i. ExprKept types kept s c i i) ap' (λ e. cc) x y)
        (λ k g h. no_operand k g h)

    mutual
      pub expr_piece : (e : Expr) (w : Place → Place) → Apart w → ExprCalls may e → ExprSound types among s lasts e → IsJudged s e → Piece anywhere w (slots types outs called e names w) (λ i. ExprKept types kept s e i i)
      expr_piece (constant a c) w ap' k ok j = empty w (λ i. ⊤) (λ i. tt)
      expr_piece (variable a x) w ap' k ok j = empty w (λ i. ⊤) (λ i. tt)
      expr_piece (last_of a x) w ap' k ok j = empty w (λ i. ⊤) (λ i. tt)
      expr_piece (one a o b) w ap' k ok j =
          let r = one_typed (type_of_one o) (type_of s b) j.0 j.1 in
          of_one First w (Slots b (below First w)) (λ i. ExprKept types kept s b i i) (λ i. ExprKept types kept s (one a o b) i i)
          (expr_piece b (below First w) (apart_below First w ap') k ok (judged_of s b (type_of_one o) r.0)) (λ i h. h)
      expr_piece (two a o b c) w ap' k ok j =
          let r = two_typed o (type_of s b) (type_of s c) j.0 j.1 in
          beside anywhere w (if is_comparison o && is_int (tree.type_of types outs b names) then free (w []) ty.Bool ∷ [] else []) (Slots b (below First w) ++ Slots c (below Second w)) (λ i. ExprKept types kept s (two a o b c) i i)
          (no_register (is_comparison o && is_int (tree.type_of types outs b names)) (w []))
          (of_two First Second w (Slots b (below First w)) (Slots c (below Second w)) (λ i. ExprKept types kept s b i i) (λ i. ExprKept types kept s c i i) (λ i. ExprKept types kept s (two a o b c) i i) ap' (λ e. cc)
          (expr_piece b (below First w) (apart_below First w ap') k.0 ok.0 (judged_of s b r.0 r.2)) (expr_piece c (below Second w) (apart_below Second w ap') k.1 ok.1 (judged_of s c r.0 r.3)) (λ i g h. (g, h)))
      expr_piece (choose a b c d) w ap' k ok j =
          let r = if_typed (type_of s b) (type_of s c) (type_of s d) j.0 j.1 in
          of_three First Second Third w (Slots b (below First w)) (Slots c (below Second w)) (Slots d (below Third w))
          (λ i. ExprKept types kept s b i i) (λ i. ExprKept types kept s c i i) (λ i. ExprKept types kept s d i i) (λ i. ExprKept types kept s (choose a b c d) i i) ap' (λ e. cc) (λ e. cc) (λ e. cc)
          (expr_piece b (below First w) (apart_below First w ap') k.0 ok.0 (judged_of s b ty.Bool r.0))
          (expr_piece c (below Second w) (apart_below Second w ap') k.1.0 ok.1.0 (judged_of s c j.0 r.1))
          (expr_piece d (below Third w) (apart_below Third w ap') k.1.1 ok.1.1 (judged_of s d j.0 r.2)) (λ i f g h. (f, (g, h)))
      expr_piece (pre a b) w ap' k ok j =
          loose (either (λ h. h ≡ None) (begins First)) anywhere w (register (w []) (shape_of types (tree.type_of types outs b names)) ∷ Slots b (below First w))
          (λ i. (i [] ≡ zero_of (shape_of types (tree.type_of types outs b names))) × ExprKept types kept s b (part First i) (part First i)) (λ i. ExprKept types kept s (pre a b) i i)
          (join (λ h. h ≡ None) (begins First) w (register (w []) (shape_of types (tree.type_of types outs b names)) ∷ []) (Slots b (below First w))
          (λ i. i [] ≡ zero_of (shape_of types (tree.type_of types outs b names))) (λ i. ExprKept types kept s b (part First i) (part First i)) ap'
          (single w [] (shape_of types (tree.type_of types outs b names)))
          (under anywhere First w (Slots b (below First w)) (λ i. ExprKept types kept s b i i) (expr_piece b (below First w) (apart_below First w ap') k ok (judged_of s b j.0 j.1)))
          (λ x g h. no_step First x g h))
          (λ x h. tt)
          (λ i h. let z = stored b j.0 (i []) k ok j.1 h.0 in (z, (z, h.1)))
      expr_piece (fby a b c) w ap' k ok j =
          let r = pair_typed (type_of s b) (type_of s c) j.0 j.1 in
          let shape = shape_of types (tree.type_of types outs b names) in
          let A = Slots b (below First w) in
          let B = Slots c (below Second w) in
          loose (either (λ h. h ≡ None) (either (λ h. h ≡ Some Fresh) (both First Second))) anywhere w (register (w []) (shape_of types (tree.type_of types outs b names)) ∷ (register (w (Fresh ∷ [])) truth ∷ (Slots b (below First w) ++ Slots c (below Second w))))
          (λ i. (i [] ≡ zero_of (shape_of types (tree.type_of types outs b names))) × ((i (Fresh ∷ []) ≡ zero_of truth) × (ExprKept types kept s b (part First i) (part First i) × ExprKept types kept s c (part Second i) (part Second i))))
          (λ i. ExprKept types kept s (fby a b c) i i)
          (join (λ h. h ≡ None) (either (λ h. h ≡ Some Fresh) (both First Second)) w (register (w []) (shape_of types (tree.type_of types outs b names)) ∷ []) (register (w (Fresh ∷ [])) truth ∷ (Slots b (below First w) ++ Slots c (below Second w)))
          (λ i. i [] ≡ zero_of (shape_of types (tree.type_of types outs b names)))
          (λ i. (i (Fresh ∷ []) ≡ zero_of truth) × (ExprKept types kept s b (part First i) (part First i) × ExprKept types kept s c (part Second i) (part Second i))) ap'
          (single w [] (shape_of types (tree.type_of types outs b names))) (with_flag b c w ap' (expr_piece b (below First w) (apart_below First w ap') k.0 ok.0 (judged_of s b j.0 r.0)) (expr_piece c (below Second w) (apart_below Second w ap') k.1 ok.1 (judged_of s c j.0 r.1)))
          (λ x g h. no_flag x g h))
          (λ x h. tt)
          (λ i h. let z = stored b j.0 (i []) k.0 ok.0 r.0 h.0 in (z, (z, ((false, h.1.0), h.1.1))))
      expr_piece (arrow a b c) w ap' k ok j =
          let r = pair_typed (type_of s b) (type_of s c) j.0 j.1 in
          loose (either (λ h. h ≡ Some Fresh) (both First Second)) anywhere w (register (w (Fresh ∷ [])) truth ∷ (Slots b (below First w) ++ Slots c (below Second w)))
          (λ i. (i (Fresh ∷ []) ≡ zero_of truth) × (ExprKept types kept s b (part First i) (part First i) × ExprKept types kept s c (part Second i) (part Second i))) (λ i. ExprKept types kept s (arrow a b c) i i)
          (with_flag b c w ap' (expr_piece b (below First w) (apart_below First w ap') k.0 ok.0 (judged_of s b j.0 r.0)) (expr_piece c (below Second w) (apart_below Second w ap') k.1 ok.1 (judged_of s c j.0 r.1))) (λ x h. tt) (λ i h. ((false, h.0), h.1))
      expr_piece (when_is a b c x) w ap' k ok j =
          let r = when_typed _ (type_of s b) j.0 j.1 in
          of_one First w (Slots b (below First w)) (λ i. ExprKept types kept s b i i) (λ i. ExprKept types kept s (when_is a b c x) i i)
          (expr_piece b (below First w) (apart_below First w ap') k ok (judged_of s b j.0 r)) (λ i h. h)
      expr_piece (merge a x ps) w ap' k ok j =
          let has = merge_typed s (lookup s.variables x) ps j.0 j.1 in
          of_one Args w (slots_of_parts types outs called ps names (below Args w)) (λ i. PartsKept types kept s ps i i) (λ i. ExprKept types kept s (merge a x ps) i i)
          (parts_piece ps j.0 (below Args w) (apart_below Args w ap') k ok.1 has) (λ i h. h)
      expr_piece (call a f may_inline es) w ap' k ok j =
          beside anywhere w (outputs_slots (outs f) (below Instance w)) (called f (below Instance w) ++ slots_of_all types outs called es names (below Args w)) (λ i. ExprKept types kept s (call a f may_inline es) i i)
          (no_registers (outs f) (below Instance w))
          (of_two Instance Args w (called f (below Instance w)) (slots_of_all types outs called es names (below Args w)) (λ i. kept f i i) (λ i. ExprsKept types kept s es i i) (λ i. ExprKept types kept s (call a f may_inline es) i i) ap' (λ e. cc)
          (instances k.0 f j.0 (sym ok.0 ∙ j.1.0) (below Instance w) (apart_below Instance w ap')) (exprs_piece es j.0.inputs (below Args w) (apart_below Args w ap') k.1 ok.1 j.1.1) (λ i g h. (h, g)))

      exprs_piece : (es : Exprs) (ds : List Decl) (w : Place → Place) → Apart w → ExprsCall may es → ExprsSound types among s lasts es → IsTrue (args_fit ds (types_in s es))
          → Piece anywhere w (slots_of_all types outs called es names w) (λ i. ExprsKept types kept s es i i)
      exprs_piece no_expr ds w ap' k ok h = empty w (λ i. ⊤) (λ i. tt)
      exprs_piece (more_exprs e es) [] w ap' k ok h = absurd (cc)
      exprs_piece (more_exprs e es) (d ∷ ds) w ap' k ok h =
          let r = arg_typed d ds (type_of s e) (types_in s es) h in
          of_two Head Tail w (Slots e (below Head w)) (slots_of_all types outs called es names (below Tail w)) (λ i. ExprKept types kept s e i i) (λ i. ExprsKept types kept s es i i) (λ i. ExprsKept types kept s (more_exprs e es) i i) ap' (λ e. cc)
          (expr_piece e (below Head w) (apart_below Head w ap') k.0 ok.0 (judged_of s e d.ty r.0)) (exprs_piece es ds (below Tail w) (apart_below Tail w ap') k.1 ok.1 r.1) (λ i g h. (g, h))

      parts_piece : (ps : Parts) (t : Ty) (w : Place → Place) → Apart w → PartsCall may ps → PartsSound types among s lasts ps → PartsHave s t ps
          → Piece anywhere w (slots_of_parts types outs called ps names w) (λ i. PartsKept types kept s ps i i)
      parts_piece no_part t w ap' k ok h = empty w (λ i. ⊤) (λ i. tt)
      parts_piece (more_parts c e ps) t w ap' k ok h =
          of_two Head Tail w (Slots e (below Head w)) (slots_of_parts types outs called ps names (below Tail w)) (λ i. ExprKept types kept s e i i) (λ i. PartsKept types kept s ps i i) (λ i. PartsKept types kept s (more_parts c e ps) i i) ap' (λ e. cc)
          (expr_piece e (below Head w) (apart_below Head w ap') k.0 ok.0 (judged_of s e t h.0)) (parts_piece ps t (below Tail w) (apart_below Tail w ap') k.1 ok.1 h.1) (λ i g h. (g, h))

    pub tests_piece : (ts : List Trans) (w : Place → Place) → Apart w → TestsCall may ts → TestsSound types among s lasts ts → Piece anywhere w (slots_of_conditions types outs called ts names w) (λ i. TestsKept types kept s ts i i)
    tests_piece [] w ap' k ok = empty w (λ i. ⊤) (λ i. tt)
    tests_piece (t ∷ ts) w ap' k ok =
        of_two Head Tail w (Slots t.cond (below Head w)) (slots_of_conditions types outs called ts names (below Tail w)) (λ i. ExprKept types kept s t.cond i i) (λ i. TestsKept types kept s ts i i) (λ i. TestsKept types kept s (t ∷ ts) i i) ap' (λ e. cc)
        (expr_piece t.cond (below Head w) (apart_below Head w ap') k.0 ok.0.0 (judged_of s t.cond ty.Bool ok.0.1)) (tests_piece ts (below Tail w) (apart_below Tail w ap') k.1 ok.1) (λ i g h. (g, h))
