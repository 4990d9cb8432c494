-- Slots in shape: one list behind another, and single slots by the types of their values.
use Rattle.std.proofs.Common.{◌≡◌, ℕ, suc, ◌<◌, List, [], ◌∷◌, ◌++◌, map, length, refl, sym, ap, subst, ◌∙◌}
use Rattle.std.specs.Prelude.{Bool, true, false, ◌&&◌, IsTrue, if◌then◌else◌, Option, None, Some}
use Rattle.std.specs.Str.{bytes_eq}
use Rattle.hp_base.specs.declared.ty.Const.{Const}
use Rattle.hp_base.specs.declared.ty.Ty.{Ty}
use Rattle.hp_base.specs.declared.ty.Ty.TheVariants as ty
use Rattle.hp_base.specs.declared.value.Value.{Value}
use Rattle.hp_base.specs.declared.value.Value.TheVariants.{Absent, Nil, B, E, I, Star}
use Rattle.hp_tree.specs.declared.expr.Op2.{Op2}
use Rattle.hp_tree.specs.Blocks.{Decl, States, no_state, more_states}
use Rattle.hp_tree.specs.Instant.{Named, Head, Tail, Place, Instant, alone, in_row}
use Rattle.hp_tree.specs.Meaning.{declares}
use Rattle.hp_tree.specs.Operators.{is_comparison, marked}
use Rattle.hp_tree.specs.Programs.{TypeDecl, Node}
use Rattle.hp_tree.specs.Values.{constructors_of, IsOf}
use Rattle.law_judged.specs.Typed.Scopes.{Scope}
use Rattle.law_judged.proofs.NamedLemmas.Sets.{same_name, name_same}
use Rattle.hp_meaning.specs.Causal.Sources.{below}
use Rattle.hp_meaning.specs.Contract.Memory.{is_last}
use Rattle.hp_meaning.specs.Contract.Slots.{truth, mark, cons, Slot, register, free, input, control, is_int, shape_of}
use Rattle.law_values.specs.Valued.Fitting.{count}
use Rattle.law_values.specs.Valued.Judged.{HaveOwnTypes}
use Rattle.law_games.specs.Mirror.Memories.{AreApart}
use Rattle.law_games.specs.Wiretyped.Typed.{IsWire, AreWires, IsFlag, IsStateOf}
use Rattle.law_games.specs.Wiretyped.Kept.{LastsKept, ComparisonGiven, RowGiven, OutputsGiven}
use Rattle.law_games.proofs.WiretypedLemmas.Scopes.{last_declared}
use Rattle.law_drawing.specs.Carrying.Calls.{lasts_slots, outputs_slots}
use Rattle.law_drawing.specs.Carrying.Nodes.{free_of, row_slots}
use Rattle.law_drawing.specs.Mirroring.Codes.{IsTruth, IsBelow, IsGiven, AreInShape, AreNumbered}

-- ---- values

truth_of : (types : List TypeDecl) (v : Value) → IsOf types ty.Bool v → IsTruth v
truth_of types (B b) h = tt
truth_of types (E t k) h = absurd h
truth_of types (I n) h = absurd h
truth_of types Absent h = absurd h
truth_of types Nil h = absurd h
truth_of types Star h = absurd h

flag_of : (v : Value) → IsFlag v → IsTruth v
flag_of v h = subst IsTruth (sym h.1) tt

-- a value that is marked is a truth value, or a constructor, where it is one
marked_truth : (v : Value) → IsTruth (marked v) → IsTruth v
marked_truth (B b) h = h
marked_truth (E t k) h = h
marked_truth (I n) h = h
marked_truth Absent h = h
marked_truth Nil h = h
marked_truth Star h = h

marked_below : (m : ℕ) (v : Value) → IsBelow m (marked v) → IsBelow m v
marked_below m (B b) h = h
marked_below m (E t k) h = h
marked_below m (I n) h = h
marked_below m Absent h = h
marked_below m Nil h = h
marked_below m Star h = h

-- states are counted alike
abbrev pub count_states : States → ℕ
count_states no_state = 0
count_states (more_states f b until unless at ss) = suc (count_states ss)

count_same : (ss : States) → count ss ≡ count_states ss
count_same no_state = refl
count_same (more_states f b until unless at ss) = ap suc (count_same ss)

-- ---- slots

-- the slot of an output of a call
abbrev output_slot : Place → Ty → List Slot
output_slot p ty.Int = []
output_slot p t = free p t ∷ []

-- those of a variable that may be a `last` one
abbrev last_slot : List TypeDecl → Place → Ty → Option Const → List Slot
last_slot types p t c = elim c [ None ↦ [] | Some v ↦ register p (shape_of types t) ∷ [] ]

module _ (types : List TypeDecl) (memory given : Instant) where
  abbrev Shaped : List Slot → Type 0
  Shaped ss = AreInShape types memory given ss

  pub join : (ss ts : List Slot) → Shaped ss → Shaped ts → Shaped (ss ++ ts)
  join [] ts h k = k
  join (register p truth ∷ ss) ts h k = (h.0, join ss ts h.1 k)
  join (register p mark ∷ ss) ts h k = join ss ts h k
  join (register p (cons t m) ∷ ss) ts h k = (h.0, join ss ts h.1 k)
  join (free p t ∷ ss) ts h k = (h.0, join ss ts h.1 k)
  join (input p t ∷ ss) ts h k = (h.0, join ss ts h.1 k)
  join (control p t ∷ ss) ts h k = (h.0, join ss ts h.1 k)

  -- registers
  pub stored_flag : (p : Place) → IsFlag (memory p) → Shaped (register p truth ∷ [])
  stored_flag p h = (flag_of (memory p) h, tt)

  pub stored_state : (p : Place) (ss : States) → IsStateOf ss (memory p) → Shaped (register p (cons 0 (count_states ss)) ∷ [])
  stored_state p ss h = (subst (IsBelow (count_states ss)) (sym h.1.0) (subst (λ m. h.0 < m) (count_same ss) h.1.1), tt)

  -- the place of a comparison
  pub compared : (o : Op2) (t : Ty) (p : Place) → ComparisonGiven o (Some t) (given p) → Shaped (if is_comparison o && is_int t then free p ty.Bool ∷ [] else [])
  compared o ty.Int p g = by (is_comparison o) g
    where
      by : (b : Bool) → (IsTrue b → IsFlag (given p)) → Shaped (if b && true then free p ty.Bool ∷ [] else [])
      by true g = (flag_of (given p) (g refl), tt)
      by false g = tt
  compared o ty.Bool p g = by (is_comparison o)
    where
      by : (b : Bool) → Shaped (if b && false then free p ty.Bool ∷ [] else [])
      by true = tt
      by false = tt
  compared o (ty.Enum t) p g = by (is_comparison o)
    where
      by : (b : Bool) → Shaped (if b && false then free p ty.Bool ∷ [] else [])
      by true = tt
      by false = tt

  module _ (numbered : AreNumbered types) where
    -- a register of a type
    pub stored : (p : Place) (t : Ty) → IsWire types t (memory p) → Shaped (register p (shape_of types t) ∷ [])
    stored p ty.Bool h = (truth_of types (memory p) h, tt)
    stored p ty.Int h = tt
    stored p (ty.Enum t) h = (numbered.below t (memory p) h, tt)

    -- a given value in front of others
    abbrev Puts : (Place → Ty → Slot) → Type 0
    Puts kind = (p : Place) (t : Ty) (ss : List Slot) → IsGiven types t (given p) → Shaped ss → Shaped (kind p t ∷ ss)

    -- what is given for some declarations, in a row
    pub row : (kind : Place → Ty → Slot) → Puts kind → (ds : List Decl) (w : Place → Place) → RowGiven types ds (λ p. given (w p)) → Shaped (row_slots kind ds w)
    row kind puts [] w g = tt
    row kind puts (d ∷ ds) w g = join (free_of kind (w (Head ∷ [])) d.ty) (row_slots kind ds (below Tail w)) (one d.ty g.0) (row kind puts ds (below Tail w) g.1)
      where
        one : (t : Ty) → IsWire types t (given (w (Head ∷ []))) → Shaped (free_of kind (w (Head ∷ [])) t)
        one ty.Bool h = puts (w (Head ∷ [])) ty.Bool [] (truth_of types (given (w (Head ∷ []))) h) tt
        one ty.Int h = tt
        one (ty.Enum t) h = puts (w (Head ∷ [])) (ty.Enum t) [] (numbered.below t (given (w (Head ∷ []))) h) tt

    pub inputs : (ds : List Decl) (w : Place → Place) → RowGiven types ds (λ p. given (w p)) → Shaped (row_slots input ds w)
    inputs ds w g = row input (λ p t ss h k. (h, k)) ds w g

    pub controls : (ds : List Decl) (w : Place → Place) → RowGiven types ds (λ p. given (w p)) → Shaped (row_slots control ds w)
    controls ds w g = row control (λ p t ss h k. (h, k)) ds w g

    -- what is given for the outputs of a call
    output : (p : Place) (t : Ty) → IsWire types t (marked (given p)) → Shaped (output_slot p t)
    output p ty.Bool h = (marked_truth (given p) (truth_of types (marked (given p)) h), tt)
    output p ty.Int h = tt
    output p (ty.Enum t) h = (marked_below (length (constructors_of types t)) (given p) (numbered.below t (marked (given p)) h), tt)

    pub outputs : (ds : List Decl) (w : Place → Place) → OutputsGiven types ds (λ p. given (w p)) → Shaped (outputs_slots ds w)
    outputs [] w g = tt
    outputs (d ∷ ds) w g = join (output_slot (w (Named d.name ∷ [])) d.ty) (outputs_slots ds w) (output (w (Named d.name ∷ [])) d.ty g.0) (outputs ds w g.1)

    -- `last` variables, whose names are apart
    pub lasts : (among : List ℕ → Option Node) (s : Scope) (ds : List Decl) (w : Place → Place) → AreApart ds → HaveOwnTypes types among s ds → LastsKept types s ds (λ p. memory (w p)) → Shaped (lasts_slots types ds w)
    lasts among s [] w a o k = tt
    lasts among s (d ∷ ds) w a o k = join (last_slot types (w (Named d.name ∷ [])) d.ty d.last) (lasts_slots types ds w) (one d.last refl) (lasts among s ds w a.1 o.1 (λ x t l e. k x t (further x l (bytes_eq d.name x) refl) e))
      where
        first : (v : Const) → d.last ≡ Some v → IsTrue (is_last (d ∷ ds) d.name)
        first v e = ap (λ (b : Bool). if b then (elim d.last [ None ↦ false | Some c ↦ true ]) else is_last ds d.name) (name_same d.name d.name refl) ∙ ap (λ (c : Option Const). elim c [ None ↦ false | Some u ↦ true ]) e

        one : (c : Option Const) → d.last ≡ c → Shaped (last_slot types (w (Named d.name ∷ [])) d.ty c)
        one None e = tt
        one (Some v) e = stored (w (Named d.name ∷ [])) d.ty (k d.name d.ty (first v e) o.0)

        apart : (x : List ℕ) → d.name ≡ x → IsTrue (is_last ds x) → ⊥
        apart x n l = let t : declares ds x ≡ true = last_declared ds x l in let f : declares ds x ≡ false = subst (λ y. declares ds y ≡ false) n a.0 in let c : true ≡ false = sym t ∙ f in absurd cc

        further : (x : List ℕ) → IsTrue (is_last ds x) → (b : Bool) → bytes_eq d.name x ≡ b → IsTrue (if b then (elim d.last [ None ↦ false | Some c ↦ true ]) else is_last ds x)
        further x l true q = absurd (apart x (same_name d.name x q) l)
        further x l false q = l

-- inputs are given in a row
pub inputs_given : (types : List TypeDecl) (ds : List Decl) (vs : List Value) → AreWires types ds vs → RowGiven types ds (in_row (map alone vs))
inputs_given types [] [] h = tt
inputs_given types [] (v ∷ vs) h = absurd h
inputs_given types (d ∷ ds) [] h = absurd h
inputs_given types (d ∷ ds) (v ∷ vs) h = (h.0, inputs_given types ds vs h.1)
