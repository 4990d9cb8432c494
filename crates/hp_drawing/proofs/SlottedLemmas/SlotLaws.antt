-- What the parts of a node bring are the slots of its abstraction.
use Rattle.std.proofs.Common.{◌≡◌, ℕ, Bool, true, false, ◌&&◌, if◌then◌else◌, List, [], ◌∷◌, ◌++◌, map, Option, None, Some, IsTrue, refl, sym, ap, subst, ◌∙◌}
use Rattle.std.proofs.lemmas.List.{append-nil, append_assoc, map-append}
use Rattle.hp_base.specs.declared.ty.Ty.{Ty}
use Rattle.hp_base.specs.declared.ty.Ty.TheVariants as ty
use Rattle.hp_base.specs.declared.ty.Const.{Const}
use Rattle.hp_tree.specs.declared.block.Trans.{Trans}
use Rattle.hp_tree.specs.declared.expr.Op2.{Op2}
use Rattle.hp_tree.specs.declared.expr.Op2.TheVariants as op
use Rattle.hp_tree.specs.declared.program.Item.{Item}
use Rattle.hp_tree.specs.Expressions.{Expr, constant, variable, last_of, one, two, choose, pre, fby, arrow, when_is, merge, call, Exprs, no_expr, more_exprs, Parts, no_part, more_parts}
use Rattle.hp_tree.specs.ExpressionTypes.{Scope, type_of, type_of_parts, type_of_two, first_type}
use Rattle.hp_tree.specs.Blocks.{Decl}
use Rattle.hp_tree.specs.Instant.{Named, Fresh, Head, Tail, First, Second, Third, Args, Instance, Place, Instant, Past, part, in_row}
use Rattle.hp_tree.specs.Meaning.{types_of, lasts}
use Rattle.hp_base.specs.declared.value.Value.{Value}
use Rattle.hp_base.specs.declared.value.Value.TheVariants.{Absent, B, E}
use Rattle.hp_meaning.specs.Contract.Memory.{is_last, remembers, remembers_all, remembers_parts, remembers_conditions}
use Rattle.std.specs.Prelude.{⊤}
use Rattle.hp_tree.specs.Operators.{abstraction, constant_of, is_comparison}
use Rattle.hp_tree.specs.Programs.{TypeDecl}
use Rattle.hp_meaning.specs.Causal.Sources.{below}
use Rattle.hp_meaning.specs.Contract.Slots as slots
use Rattle.hp_meaning.specs.Contract.Slots.{Slot, shape_of, is_int}
use Rattle.hp_circuit.specs.declared.circuit.Shape.{Shape}
use Rattle.hp_circuit.specs.declared.circuit.Shape.TheVariants.{Truth, Cons}
use Rattle.hp_drawing.specs.Kept.{Kept, register, input, control, free, is_mark, with_kept, with_shaped}
use Rattle.hp_drawing.specs.Told.{Told, told_of, type_shape, constant_number}
use Rattle.hp_drawing.specs.Planned as planned
use Rattle.hp_drawing.specs.Planned.{Callee, shape_in, shape_in_parts, two_shape, first_shape, outputs_by, with_register, with_comparison, with_row, with_last, with_lasts, with_call, planned_all, planned_parts, planned_conditions}
use Rattle.hp_drawing.specs.Slotted.Slotted.{shape_as, slot_as, slots_as}
use Rattle.hp_drawing.proofs.SlottedLemmas.Calling.{ExprCalls, ExprsCall, PartsCall, TestsCall}
use Rattle.hp_drawing.proofs.SlottedLemmas.TypeLaws.{seen, type-same, constant-same}

-- How the numbers are looked at that registers hold at first, and the values of memory: as they are, or not at all.
pub record Look : Type 0 where
  pub firstly : ℕ → ℕ
  pub number : Value → ℕ
  pub at_false : number (B false) ≡ firstly 0
  pub at_state : number (E 0 0) ≡ firstly 0

abbrev pub viewed : Look → Kept → Kept
viewed L (register k s) = register (L.firstly k) s
viewed L (input s) = input s
viewed L (control s) = control s
viewed L (free s) = free s

abbrev pub all_viewed : Look → List Kept → List Kept
all_viewed L ks = map (viewed L) ks

-- registers at the places of a part hold at first what its memory has, and memory has zeros
abbrev pub Starts : Look → (Place → ℕ) → (Place → Place) → Instant → Type 0
Starts L first w mem = (p : Place) → first (w p) ≡ L.number (mem p)

abbrev pub Zeros : Look → Instant → Type 0
Zeros L zero = (p : Place) → L.number (zero p) ≡ L.firstly 0

abbrev given : (Place → Ty → Slot) → Place → Ty → List Slot
given kind p ty.Int = []
given kind p t = kind p t ∷ []

-- ---- what is brought

module _ (L : Look) (types : List TypeDecl) (first : Place → ℕ) where
  pub slots-append : (a b : List Slot) → slots_as types first (a ++ b) ≡ slots_as types first a ++ slots_as types first b
  slots-append [] b = refl
  slots-append (s ∷ a) b = ap (λ more. slot_as types first s ++ more) (slots-append a b) ∙ sym (append_assoc (slot_as types first s) (slots_as types first a) (slots_as types first b))

  -- behind what is there before stand these slots
  pub record Brings (before after : List Kept) (ss : List Slot) : Type 0 where
    pub is : all_viewed L after ≡ all_viewed L before ++ slots_as types first ss

  pub nothing : (before : List Kept) → Brings before before []
  nothing before = record { is = sym (append-nil (all_viewed L before)) }

  pub both : (before middle after : List Kept) (a b : List Slot) → Brings before middle a → Brings middle after b → Brings before after (a ++ b)
  both before middle after a b h k = record {
    is = k.is
        ∙ ap (λ d. d ++ slots_as types first b) h.is
        ∙ append_assoc (all_viewed L before) (slots_as types first a) (slots_as types first b)
        ∙ ap (λ more. all_viewed L before ++ more) (sym (slots-append a b));
  }

  pub one_more : (before : List Kept) (k : Kept) (s : Slot) → slots_as types first (s ∷ []) ≡ viewed L k ∷ [] → Brings before (with_kept before k) (s ∷ [])
  unfolding with_kept
  one_more before k s e = record { is = map-append (viewed L) before (k ∷ []) ∙ ap (λ more. all_viewed L before ++ more) (sym e) }

  -- ---- registers

  pub a_register : (before : List Kept) (k : ℕ) (p : Place) (shape : slots.Shape) (s : Shape) → s ≡ shape_as shape → first p ≡ L.firstly k → Brings before (with_register k s before) (slots.register p shape ∷ [])
  a_register before k p shape s e f = subst (λ (u : Shape). Brings before (with_register k u before) (slots.register p shape ∷ [])) (sym e) (one shape)
    where
      one : (shape : slots.Shape) → Brings before (with_register k (shape_as shape) before) (slots.register p shape ∷ [])
      one slots.truth = one_more before (register k Truth) (slots.register p slots.truth) (ap (λ m. register m Truth ∷ []) f)
      one slots.mark = record { is = sym (append-nil (all_viewed L before)) }
      one (slots.cons t m) = one_more before (register k (Cons m)) (slots.register p (slots.cons t m)) (ap (λ i. register i (Cons m) ∷ []) f)

  pub begun : (before : List Kept) (p : Place) → first p ≡ L.firstly 0 → Brings before (with_kept before (register 0 Truth)) (slots.register p slots.truth ∷ [])
  begun before p f = one_more before (register 0 Truth) (slots.register p slots.truth) (ap (λ m. register m Truth ∷ []) f)

  pub compared : (before : List Kept) (o : Op2) (p : Place) (t : Ty) (s : Shape) → s ≡ shape_as (shape_of types t)
      → Brings before (with_comparison o s before) (if is_comparison o && is_int t then slots.free p ty.Bool ∷ [] else [])
  compared before o p t s e = subst (λ (u : Shape). Brings before (with_comparison o u before) (if is_comparison o && is_int t then slots.free p ty.Bool ∷ [] else [])) (sym e) (one (is_comparison o) t)
    where
      one : (b : Bool) (t : Ty) → Brings before (if b && is_mark (shape_as (shape_of types t)) then with_kept before (free Truth) else before) (if b && is_int t then slots.free p ty.Bool ∷ [] else [])
      one true ty.Bool = nothing before
      one true ty.Int = one_more before (free Truth) (slots.free p ty.Bool) refl
      one true (ty.Enum x) = nothing before
      one false t = nothing before

  -- ---- declared variables

  -- a kind of slots that are given
  pub record AreKept (kind : Shape → Kept) (slot : Place → Ty → Slot) : Type 0 where
    pub is : (p : Place) (t : Ty) → slots_as types first (slot p t ∷ []) ≡ kind (shape_as (shape_of types t)) ∷ []
    pub bare_kind : (s : Shape) → viewed L (kind s) ≡ kind s

  pub a_given : (before : List Kept) (kind : Shape → Kept) (slot : Place → Ty → Slot) (p : Place) (t : Ty) (s : Shape) → AreKept kind slot → s ≡ shape_as (shape_of types t)
      → Brings before (with_shaped kind s before) (given slot p t)
  a_given before kind slot p t s k e = subst (λ (u : Shape). Brings before (with_shaped kind u before) (given slot p t)) (sym e) (one t)
    where
      one : (t : Ty) → Brings before (with_shaped kind (shape_as (shape_of types t)) before) (given slot p t)
      one ty.Bool = one_more before (kind Truth) (slot p ty.Bool) (k.is p ty.Bool ∙ ap (λ u. u ∷ []) (sym (k.bare_kind Truth)))
      one ty.Int = nothing before
      one (ty.Enum x) = one_more before (kind (shape_as (shape_of types (ty.Enum x)))) (slot p (ty.Enum x)) (k.is p (ty.Enum x) ∙ ap (λ u. u ∷ []) (sym (k.bare_kind (shape_as (shape_of types (ty.Enum x))))))

pub free_kept : (L : Look) (types : List TypeDecl) (first : Place → ℕ) → AreKept L types first free slots.free
free_kept L types first = record { is = λ p t. refl; bare_kind = λ s. refl }

pub input_kept : (L : Look) (types : List TypeDecl) (first : Place → ℕ) → AreKept L types first input slots.input
input_kept L types first = record { is = λ p t. refl; bare_kind = λ s. refl }

pub control_kept : (L : Look) (types : List TypeDecl) (first : Place → ℕ) → AreKept L types first control slots.control
control_kept L types first = record { is = λ p t. refl; bare_kind = λ s. refl }

abbrev pub lasts_slots : List TypeDecl → List Decl → (Place → Place) → List Slot
lasts_slots types [] w = []
lasts_slots types (d ∷ ds) w = (elim d.last [ None ↦ [] | Some c ↦ slots.register (w (Named d.name ∷ [])) (shape_of types d.ty) ∷ [] ]) ++ lasts_slots types ds w

abbrev pub outputs_slots : List TypeDecl → List Decl → (Place → Place) → List Slot
outputs_slots types [] w = []
outputs_slots types (d ∷ ds) w = given slots.free (w (Named d.name ∷ [])) d.ty ++ outputs_slots types ds w

abbrev pub row_slots : List TypeDecl → (Place → Ty → Slot) → List Decl → (Place → Place) → List Slot
row_slots types kind [] w = []
row_slots types kind (d ∷ ds) w = given kind (w (Head ∷ [])) d.ty ++ row_slots types kind ds (below Tail w)

-- what a list of declarations remembers of no history
abbrev pub no_names : List ℕ → Value
no_names x = Absent

abbrev pub remembered : List TypeDecl → List Decl → List ℕ → Value
remembered types ds x = if is_last ds x then lasts (λ c. abstraction.constant (constant_of types c)) ds [] no_names x else Absent

-- so the registers of `last` variables start
abbrev pub LastStarts : Look → Told → Option Const → List ℕ → (List ℕ → Value) → Type 0
LastStarts L t None x m = ⊤
LastStarts L t (Some c) x m = L.number (m x) ≡ L.firstly (constant_number t c)

abbrev pub AllStart : Look → Told → List Decl → (List ℕ → Value) → Type 0
AllStart L t [] m = ⊤
AllStart L t (d ∷ ds) m = LastStarts L t d.last d.name m × AllStart L t ds m

module _ (L : Look) (program : List Item) (first : Place → ℕ) where
  last_brings : (before : List Kept) (d : Decl) (o : Option Const) (w : Place → Place) (m : List ℕ → Value)
      → LastStarts L (told_of program) o d.name m → ((x : List ℕ) → first (w (Named x ∷ [])) ≡ L.number (m x))
      → Brings L (types_of program) first before (with_last (told_of program) d o before) (elim o [ None ↦ [] | Some c ↦ slots.register (w (Named d.name ∷ [])) (shape_of (types_of program) d.ty) ∷ [] ])
  last_brings before d None w m k h = nothing L (types_of program) first before
  last_brings before d (Some c) w m k h = a_register L (types_of program) first before (constant_number (told_of program) c) (w (Named d.name ∷ [])) (shape_of (types_of program) d.ty) (type_shape (told_of program) d.ty) (type-same program d.ty) (h d.name ∙ k)

  pub lasts_bring : (ds : List Decl) (before : List Kept) (w : Place → Place) (m : List ℕ → Value) → AllStart L (told_of program) ds m → ((x : List ℕ) → first (w (Named x ∷ [])) ≡ L.number (m x)) → Brings L (types_of program) first before (with_lasts (told_of program) ds before) (lasts_slots (types_of program) ds w)
  lasts_bring [] before w m k h = nothing L (types_of program) first before
  lasts_bring (d ∷ ds) before w m k h =
      both L (types_of program) first before (with_last (told_of program) d d.last before) (with_lasts (told_of program) ds (with_last (told_of program) d d.last before))
      (elim d.last [ None ↦ [] | Some c ↦ slots.register (w (Named d.name ∷ [])) (shape_of (types_of program) d.ty) ∷ [] ]) (lasts_slots (types_of program) ds w)
      (last_brings before d d.last w m k.0 h) (lasts_bring ds (with_last (told_of program) d d.last before) w m k.1 h)

  pub outputs_bring : (ds : List Decl) (before : List Kept) (w : Place → Place) → Brings L (types_of program) first before (with_row free (told_of program) ds before) (outputs_slots (types_of program) ds w)
  outputs_bring [] before w = nothing L (types_of program) first before
  outputs_bring (d ∷ ds) before w =
      let middle = with_shaped free (type_shape (told_of program) d.ty) before in
      both L (types_of program) first before middle (with_row free (told_of program) ds middle)
      (given slots.free (w (Named d.name ∷ [])) d.ty) (outputs_slots (types_of program) ds w)
      (a_given L (types_of program) first before free slots.free (w (Named d.name ∷ [])) d.ty (type_shape (told_of program) d.ty) (free_kept L (types_of program) first) (type-same program d.ty))
      (outputs_bring ds middle w)

  pub row_brings : (kind : Shape → Kept) (slot : Place → Ty → Slot) → AreKept L (types_of program) first kind slot → (ds : List Decl) (before : List Kept) (w : Place → Place)
      → Brings L (types_of program) first before (with_row kind (told_of program) ds before) (row_slots (types_of program) slot ds w)
  row_brings kind slot k [] before w = nothing L (types_of program) first before
  row_brings kind slot k (d ∷ ds) before w =
      let middle = with_shaped kind (type_shape (told_of program) d.ty) before in
      both L (types_of program) first before middle (with_row kind (told_of program) ds middle)
      (given slot (w (Head ∷ [])) d.ty) (row_slots (types_of program) slot ds (below Tail w))
      (a_given L (types_of program) first before kind slot (w (Head ∷ [])) d.ty (type_shape (told_of program) d.ty) k (type-same program d.ty))
      (row_brings kind slot k ds middle (below Tail w))

-- ---- expressions and blocks

-- `outs` has the outputs of the node of a name, and `called` the slots of its contract. Where there may be calls these are as the tables say.
pub record Callees (L : Look) (program : List Item) (first : Place → ℕ) (may : Bool) (callee : Callee) (outs : List ℕ → List Decl) (called : List ℕ → (Place → Place) → List Slot) (memory : List ℕ → Instant → Past → Instant) : Type 0 where
  pub outputs : IsTrue may → (f : List ℕ) → outputs_by ((told_of program).nodes f) ≡ outs f
  pub brings : IsTrue may → (f : List ℕ) (w : Place → Place) (zero : Instant) (before : List Kept) → Starts L first w (memory f zero []) → Zeros L zero
      → Brings L (types_of program) first before (with_call (told_of program) callee ((told_of program).nodes f) before) (outputs_slots (types_of program) (outs f) w ++ called f w)

module _ (L : Look) (program : List Item) (first : Place → ℕ) (may : Bool) (callee : Callee) (outs : List ℕ → List Decl) (called : List ℕ → (Place → Place) → List Slot) (memory : List ℕ → Instant → Past → Instant) (known : Callees L program first may callee outs called memory) where
  abbrev types : List TypeDecl
  types = types_of program

  abbrev t : Told
  t = told_of program

  abbrev slots_in : Expr → Scope → (Place → Place) → List Slot
  slots_in e scope w = slots.slots types outs called e scope w

  two-same : (o : Op2) → two_shape o ≡ shape_as (shape_of types (type_of_two o))
  two-same op.And = refl
  two-same op.Or = refl
  two-same op.Xor = refl
  two-same op.Imp = refl
  two-same op.Eq = refl
  two-same op.Ne = refl
  two-same op.Lt = refl
  two-same op.Le = refl
  two-same op.Gt = refl
  two-same op.Ge = refl
  two-same op.Add = refl
  two-same op.Sub = refl
  two-same op.Mul = refl
  two-same op.Div = refl
  two-same op.Rem = refl

  first-same : (ds : List Decl) → first_shape t ds ≡ shape_as (shape_of types (first_type types outs ds))
  first-same [] = refl
  first-same (d ∷ ds) = type-same program d.ty

  mutual
    shape-same : (e : Expr) (scope : Scope) → ExprCalls may e → shape_in t e (seen types scope) ≡ shape_as (shape_of types (type_of types outs e scope))
    shape-same (constant s c) scope h = constant-same program c
    shape-same (variable s x) scope h = refl
    shape-same (last_of s x) scope h = refl
    shape-same (one s o a) scope h = shape-same a scope h
    shape-same (two s o a b) scope h = two-same o
    shape-same (choose s a b c) scope h = shape-same b scope h.1.0
    shape-same (pre s a) scope h = shape-same a scope h
    shape-same (fby s a b) scope h = shape-same a scope h.0
    shape-same (arrow s a b) scope h = shape-same a scope h.0
    shape-same (when_is s a c x) scope h = shape-same a scope h
    shape-same (merge s x ps) scope h = shape-same_parts ps scope h
    shape-same (call s f inlined es) scope h = ap (first_shape t) (known.outputs h.0 f) ∙ first-same (outs f)

    shape-same_parts : (ps : Parts) (scope : Scope) → PartsCall may ps → shape_in_parts t ps (seen types scope) ≡ shape_as (shape_of types (type_of_parts types outs ps scope))
    shape-same_parts no_part scope h = refl
    shape-same_parts (more_parts c e ps) scope h = shape-same e scope h.0

  abbrev plan : Expr → Scope → List Kept → List Kept
  plan e scope before = planned.planned t callee e (seen types scope) before

  mutual
    pub brings : (e : Expr) (scope : Scope) (w : Place → Place) (zero : Instant) (before : List Kept) → ExprCalls may e → Starts L first w (remembers types memory e zero []) → Zeros L zero
        → Brings L types first before (plan e scope before) (slots_in e scope w)
    brings (constant s c) scope w zero before h k z = nothing L types first before
    brings (variable s x) scope w zero before h k z = nothing L types first before
    brings (last_of s x) scope w zero before h k z = nothing L types first before
    brings (one s o a) scope w zero before h k z = brings a scope (below First w) (part First zero) before h (λ p. k (First ∷ p)) (λ p. z (First ∷ p))
    brings (two s o a b) scope w zero before h k z =
        let d1 = with_comparison o (shape_in t a (seen types scope)) before in
        let d2 = plan a scope d1 in
        both L types first before d1 (plan b scope d2)
        (if is_comparison o && is_int (type_of types outs a scope) then slots.free (w []) ty.Bool ∷ [] else []) (slots_in a scope (below First w) ++ slots_in b scope (below Second w))
        (compared L types first before o (w []) (type_of types outs a scope) (shape_in t a (seen types scope)) (shape-same a scope h.0))
        (both L types first d1 d2 (plan b scope d2) (slots_in a scope (below First w)) (slots_in b scope (below Second w)) (brings a scope (below First w) (part First zero) d1 h.0 (λ p. k (First ∷ p)) (λ p. z (First ∷ p))) (brings b scope (below Second w) (part Second zero) d2 h.1 (λ p. k (Second ∷ p)) (λ p. z (Second ∷ p))))
    brings (choose s a b c) scope w zero before h k z =
        let d1 = plan a scope before in
        let d2 = plan b scope d1 in
        both L types first before d1 (plan c scope d2) (slots_in a scope (below First w)) (slots_in b scope (below Second w) ++ slots_in c scope (below Third w))
        (brings a scope (below First w) (part First zero) before h.0 (λ p. k (First ∷ p)) (λ p. z (First ∷ p)))
        (both L types first d1 d2 (plan c scope d2) (slots_in b scope (below Second w)) (slots_in c scope (below Third w)) (brings b scope (below Second w) (part Second zero) d1 h.1.0 (λ p. k (Second ∷ p)) (λ p. z (Second ∷ p))) (brings c scope (below Third w) (part Third zero) d2 h.1.1 (λ p. k (Third ∷ p)) (λ p. z (Third ∷ p))))
    brings (pre s a) scope w zero before h k z =
        let d1 = with_register 0 (shape_in t a (seen types scope)) before in
        both L types first before d1 (plan a scope d1) (slots.register (w []) (shape_of types (type_of types outs a scope)) ∷ []) (slots_in a scope (below First w))
        (a_register L types first before 0 (w []) (shape_of types (type_of types outs a scope)) (shape_in t a (seen types scope)) (shape-same a scope h) (k [] ∙ z []))
        (brings a scope (below First w) (part First zero) d1 h (λ p. k (First ∷ p)) (λ p. z (First ∷ p)))
    brings (fby s a b) scope w zero before h k z =
        let d1 = with_register 0 (shape_in t a (seen types scope)) before in
        let d2 = with_kept d1 (register 0 Truth) in
        let d3 = plan a scope d2 in
        both L types first before d1 (plan b scope d3) (slots.register (w []) (shape_of types (type_of types outs a scope)) ∷ []) (slots.register (w (Fresh ∷ [])) slots.truth ∷ (slots_in a scope (below First w) ++ slots_in b scope (below Second w)))
        (a_register L types first before 0 (w []) (shape_of types (type_of types outs a scope)) (shape_in t a (seen types scope)) (shape-same a scope h.0) (k [] ∙ z []))
        (both L types first d1 d2 (plan b scope d3) (slots.register (w (Fresh ∷ [])) slots.truth ∷ []) (slots_in a scope (below First w) ++ slots_in b scope (below Second w))
        (begun L types first d1 (w (Fresh ∷ [])) (k (Fresh ∷ []) ∙ L.at_false))
        (both L types first d2 d3 (plan b scope d3) (slots_in a scope (below First w)) (slots_in b scope (below Second w)) (brings a scope (below First w) (part First zero) d2 h.0 (λ p. k (First ∷ p)) (λ p. z (First ∷ p))) (brings b scope (below Second w) (part Second zero) d3 h.1 (λ p. k (Second ∷ p)) (λ p. z (Second ∷ p)))))
    brings (arrow s a b) scope w zero before h k z =
        let d2 = with_kept before (register 0 Truth) in
        let d3 = plan a scope d2 in
        both L types first before d2 (plan b scope d3) (slots.register (w (Fresh ∷ [])) slots.truth ∷ []) (slots_in a scope (below First w) ++ slots_in b scope (below Second w))
        (begun L types first before (w (Fresh ∷ [])) (k (Fresh ∷ []) ∙ L.at_false))
        (both L types first d2 d3 (plan b scope d3) (slots_in a scope (below First w)) (slots_in b scope (below Second w)) (brings a scope (below First w) (part First zero) d2 h.0 (λ p. k (First ∷ p)) (λ p. z (First ∷ p))) (brings b scope (below Second w) (part Second zero) d3 h.1 (λ p. k (Second ∷ p)) (λ p. z (Second ∷ p))))
    brings (when_is s a c x) scope w zero before h k z = brings a scope (below First w) (part First zero) before h (λ p. k (First ∷ p)) (λ p. z (First ∷ p))
    brings (merge s x ps) scope w zero before h k z = parts_bring ps scope (below Args w) (part Args zero) before h (λ p. k (Args ∷ p)) (λ p. z (Args ∷ p))
    brings (call s f inlined es) scope w zero before h k z =
        let d1 = with_call t callee (t.nodes f) before in
        let e = both L types first before d1 (planned_all t callee es (seen types scope) d1)
        (outputs_slots types (outs f) (below Instance w) ++ called f (below Instance w)) (slots.slots_of_all types outs called es scope (below Args w))
        (known.brings h.0 f (below Instance w) (part Instance zero) before (λ p. k (Instance ∷ p)) (λ p. z (Instance ∷ p))) (all_bring es scope (below Args w) (part Args zero) d1 h.1 (λ p. k (Args ∷ p)) (λ p. z (Args ∷ p))) in
        record {
          is = e.is
              ∙ ap (λ ss. all_viewed L before ++ slots_as types first ss) (append_assoc (outputs_slots types (outs f) (below Instance w)) (called f (below Instance w)) (slots.slots_of_all types outs called es scope (below Args w)));
        }

    pub all_bring : (es : Exprs) (scope : Scope) (w : Place → Place) (zero : Instant) (before : List Kept) → ExprsCall may es → Starts L first w (in_row (remembers_all types memory es zero [])) → Zeros L zero
        → Brings L types first before (planned_all t callee es (seen types scope) before) (slots.slots_of_all types outs called es scope w)
    all_bring no_expr scope w zero before h k z = nothing L types first before
    all_bring (more_exprs e es) scope w zero before h k z =
        let d1 = plan e scope before in
        both L types first before d1 (planned_all t callee es (seen types scope) d1) (slots_in e scope (below Head w)) (slots.slots_of_all types outs called es scope (below Tail w))
        (brings e scope (below Head w) (part Head zero) before h.0 (λ p. k (Head ∷ p)) (λ p. z (Head ∷ p))) (all_bring es scope (below Tail w) (part Tail zero) d1 h.1 (λ p. k (Tail ∷ p)) (λ p. z (Tail ∷ p)))

    pub parts_bring : (ps : Parts) (scope : Scope) (w : Place → Place) (zero : Instant) (before : List Kept) → PartsCall may ps → Starts L first w (in_row (remembers_parts types memory ps zero [])) → Zeros L zero
        → Brings L types first before (planned_parts t callee ps (seen types scope) before) (slots.slots_of_parts types outs called ps scope w)
    parts_bring no_part scope w zero before h k z = nothing L types first before
    parts_bring (more_parts c e ps) scope w zero before h k z =
        let d1 = plan e scope before in
        both L types first before d1 (planned_parts t callee ps (seen types scope) d1) (slots_in e scope (below Head w)) (slots.slots_of_parts types outs called ps scope (below Tail w))
        (brings e scope (below Head w) (part Head zero) before h.0 (λ p. k (Head ∷ p)) (λ p. z (Head ∷ p))) (parts_bring ps scope (below Tail w) (part Tail zero) d1 h.1 (λ p. k (Tail ∷ p)) (λ p. z (Tail ∷ p)))

  pub tests_bring : (qs : List Trans) (scope : Scope) (w : Place → Place) (zero : Instant) (before : List Kept) → TestsCall may qs → Starts L first w (in_row (remembers_conditions types memory qs zero [])) → Zeros L zero
      → Brings L types first before (planned_conditions t callee qs (seen types scope) before) (slots.slots_of_conditions types outs called qs scope w)
  tests_bring [] scope w zero before h k z = nothing L types first before
  tests_bring (q ∷ qs) scope w zero before h k z =
      let d1 = plan q.cond scope before in
      both L types first before d1 (planned_conditions t callee qs (seen types scope) d1) (slots_in q.cond scope (below Head w)) (slots.slots_of_conditions types outs called qs scope (below Tail w))
      (brings q.cond scope (below Head w) (part Head zero) before h.0 (λ p. k (Head ∷ p)) (λ p. z (Head ∷ p))) (tests_bring qs scope (below Tail w) (part Tail zero) d1 h.1 (λ p. k (Tail ∷ p)) (λ p. z (Tail ∷ p)))
