-- The wires of a drawn expression carry the values of its wires, and its registers take what its memory holds next.
use Rattle.std.proofs.Common.{◌≡◌, ℕ, ◌+◌, Bool, true, false, not, ◌&&◌, ◌||◌, if◌then◌else◌, List, [], ◌∷◌, ◌++◌, length, map, Option, Some, refl, sym, ap, subst, ◌∙◌}
use Rattle.std.specs.Prelude.{IsTrue}
use Rattle.std.proofs.lemmas.List.{append_assoc}
use Rattle.hp_base.specs.declared.span.Span.{Span}
use Rattle.hp_base.specs.declared.ty.Ty.{Ty}
use Rattle.hp_base.specs.declared.ty.Ty.TheVariants as ty
use Rattle.hp_base.specs.declared.value.Value.{Value}
use Rattle.hp_base.specs.declared.value.Value.TheVariants.{Absent, B, Star}
use Rattle.hp_tree.specs.declared.expr.Op2.{Op2}
use Rattle.hp_tree.specs.declared.expr.Op2.TheVariants.{And, Or, Xor, Imp, Eq, Ne, Lt, Le, Gt, Ge, Add, Sub, Mul, Div, Rem}
use Rattle.hp_tree.specs.Blocks.{Decl}
use Rattle.hp_tree.specs.Expressions.{Expr, constant, variable, last_of, one, two, choose, pre, fby, arrow, when_is, merge, call, Exprs, no_expr, more_exprs, Parts, no_part, more_parts}
use Rattle.hp_tree.specs.ExpressionTypes as types_shown
use Rattle.hp_tree.specs.Instant.{Fresh, Head, Tail, First, Second, Third, Args, Instance, Instant, Clock, holds, without, nothing, part, top, in_row, Place as TreePlace}
use Rattle.hp_tree.specs.Meaning.{Names, names_of, only_output}
use Rattle.hp_tree.specs.Operators.{constant_of, marked, one_marked, two_marked, if_of, is_comparison, is_cons, is_there, is_true}
use Rattle.hp_tree.specs.Programs.{TypeDecl, Node}
use Rattle.hp_meaning.specs.declared.causal.point.PointKind.TheVariants as kind
use Rattle.hp_meaning.specs.Causal.Clocked.{Standing, IsOn, ExprsOn, PartsOn}
use Rattle.hp_meaning.specs.Causal.Points.{Placed, point_at, calls, calls_in_all, calls_in_parts}
use Rattle.hp_meaning.specs.Causal.Sources.{below}
use Rattle.hp_base.specs.Known.Known.{lookup}
use Rattle.hp_typing.specs.Types.{type_of, types_in, type_of_one, operand, answer, args_fit, cons_type, input_type}
use Rattle.law_judged.specs.Typed.Scopes.{Scope}
use Rattle.law_values.specs.Valued.Judged.{Lasts, ExprSound, ExprsSound, PartsSound}
use Rattle.law_values.specs.Valued.Fitting.{first_output}
use Rattle.law_values.proofs.ValuedLemmas.Typed.{one_typed, two_typed, if_typed, pair_typed, when_typed, call_typed, merge_typed, PartsHave, some_is, agreed, arg_typed}
use Rattle.hp_meaning.specs.Contract.Duties.{assumes, enforces}
use Rattle.hp_meaning.specs.Contract.FreePlaces.{instance_at}
use Rattle.law_games.specs.Wires.Laws.{is_called}
use Rattle.hp_meaning.specs.Contract.Memory.{number_in, remembers, remembers_all, remembers_parts}
use Rattle.hp_meaning.specs.Contract.Slots as slots
use Rattle.hp_meaning.specs.Contract.Slots.{register, free, is_int, shape_of, slots_of_all, slots_of_parts}
use Rattle.hp_circuit.specs.declared.circuit.Role.TheVariants as role
use Rattle.hp_circuit.specs.declared.circuit.Shape.{Shape}
use Rattle.hp_circuit.specs.declared.circuit.Shape.TheVariants.{Truth}
use Rattle.hp_circuit.specs.Meaning.{truth, holds as is_high}
use Rattle.law_games.specs.Wires.Wired as wires_of
use Rattle.law_games.specs.Wires.Wired.{Held, Callees, held_at, blank, values_of, picked, wired, wired_all, wired_parts, shown, shown_all, shown_parts, next_all, next_parts}
use Rattle.law_games.specs.Wiretyped.Typed.{IsWire, IsFlag, ExprTyped, ExprsTyped, PartsTyped}
use Rattle.law_games.specs.Wiretyped.Kept.{ExprKept, ExprsKept, PartsKept, ExprGiven, ExprsGiven, PartsGiven}
use Rattle.law_games.proofs.WiretypedLemmas.Exprs.{NamesAre, as_wire, top_is}
use Rattle.hp_drawing.specs.declared.parts.Callee.{Callee}
use Rattle.hp_drawing.specs.declared.parts.Place.{Place}
use Rattle.hp_drawing.specs.declared.parts.Register.{Register}
use Rattle.hp_drawing.specs.declared.parts.Value.{Value as Carried}
use Rattle.hp_drawing.specs.Kept.{is_mark}
use Rattle.hp_drawing.specs.Told.{Told}
use Rattle.hp_drawing.specs.Planned.{shape_in, shape_in_parts}
use Rattle.hp_drawing.specs.Scopes as scopes
use Rattle.hp_drawing.specs.Scopes.{value_in, last_in, shapes_in}
use Rattle.hp_drawing.specs.Sketch as sketch
use Rattle.hp_drawing.specs.Sketch.{Sketch, low, high, mark, mark_of, read, copy, outer_clock, slot as slot_step}
use Rattle.hp_drawing.specs.Places.{chain_add, chain_end, new_register, takes, on_clock, may_be_early}
use Rattle.hp_drawing.specs.DrawnExpressions as drawing
use Rattle.hp_drawing.specs.DrawnExpressions.{Brings, drawn, drawn_args, drawn_parts, drawn_one, drawn_two, drawn_choice, compares, no_register, two_begin, two_end, pre_end, read_both, begin_call}
use Rattle.law_drawing.specs.Carrying.Solving.{Has}
use Rattle.law_drawing.specs.Carrying.Drawing.{AreHeld, IsSolved, IsDrawn, IsStored, IsReady, IsAt, AreShaped, AreOutputs, AreInputs}
use Rattle.law_drawing.specs.Carrying.Calls.{supposes_on, owes_on, outputs_slots, CallsAre}
use Rattle.law_drawing.specs.Carrying.Typing.{AreNumbered}
use Rattle.law_drawing.proofs.CarryingLemmas.Slots.{held-first}
use Rattle.law_drawing.proofs.CarryingLemmas.Steps.{stays, both, ended, nothing-drawn, read-drawn, mark-drawn, mark-of-drawn, hole-drawn, define-drawn, copy-drawn}
use Rattle.law_drawing.proofs.CarryingLemmas.Gates.{clock-outer}
use Rattle.law_drawing.proofs.CarryingLemmas.Values.{int-is, int-zero, if-number}
use Rattle.law_drawing.proofs.CarryingLemmas.Leaves.{Valued, one-drawn, two-drawn, choice-drawn, constant-drawn, cons-drawn, step-drawn}
use Rattle.law_drawing.proofs.CarryingLemmas.Stored.{stored-part, read-number, take-number, chain-drawn, chain-ended, ready-more, ready-on, blank-zero}
use Rattle.law_drawing.proofs.CarryingLemmas.Marks.{mark-of, int-of}
use Rattle.law_drawing.proofs.CarryingLemmas.Combining.{Part, Lasting, made-of, pair, one-register, two-registers, TakesNext, one-free, no-register, laid-register, laid-truth}
use Rattle.law_drawing.proofs.CarryingLemmas.Parts.{at-part, held-behind, outputs-more, inputs-more, values-same, args-typed, PartsAgree, merge-agrees}

comparison-bool : (o : Op2) → is_comparison o ≡ true → is_int (answer o) ≡ false
comparison-bool Eq e = refl
comparison-bool Ne e = refl
comparison-bool Lt e = refl
comparison-bool Le e = refl
comparison-bool Gt e = refl
comparison-bool Ge e = refl
comparison-bool And e = refl
comparison-bool Or e = refl
comparison-bool Xor e = refl
comparison-bool Imp e = refl
comparison-bool Add e = absurd cc
comparison-bool Sub e = absurd cc
comparison-bool Mul e = absurd cc
comparison-bool Div e = absurd cc
comparison-bool Rem e = absurd cc

and-parts : (a b : Bool) → a && b ≡ true → (a ≡ true) × (b ≡ true)
and-parts true true e = (refl, refl)
and-parts true false e = absurd cc
and-parts false b e = absurd cc

-- an instant at the places of a part
abbrev pub seen_at : (TreePlace → TreePlace) → Instant → Instant
seen_at w i p = i (w p)

module _ (types : List TypeDecl) (C : Callees) (among : List ℕ → Option Node) (typed : List ℕ → Instant → Type 0) (kept_by : List ℕ → Instant → Instant → Type 0) (given_by : List ℕ → Instant → Type 0) (told : Told) (brings : Brings) (outs : List ℕ → List Decl)
    (callee : List ℕ → (TreePlace → TreePlace) → List slots.Slot) (slot : ℕ → ℕ) (raw next given wires showing : Instant) (K : CallsAre types C among typed kept_by given_by told brings outs callee slot raw next given wires showing) where
  abbrev supposes : Placed → Bool
  supposes c = supposes_on showing wires c

  abbrev owes : Placed → Bool
  owes c = owes_on showing wires c

  abbrev Draws : Sketch → List ℕ → List slots.Slot → List Placed → Sketch → List ℕ → Type 0
  Draws s ns ss cs s1 ns1 = IsDrawn slot next supposes owes s ns ss cs s1 ns1

  abbrev Gives : Sketch → List ℕ → List slots.Slot → List Placed → ℕ → Bool → Carried × Sketch → Type 0
  Gives s ns ss cs k int d = Valued slot next supposes owes s ns ss cs k int d

  module _ (s : Scope) (st : Standing) (has_last : Lasts) (names last : Names) (N : AreNumbered types told s) (nk : NamesAre types s st names) (scope : types_shown.Scope) (z : scopes.Scope) (S : AreShaped s has_last scope z) where
    abbrev slots_at : Expr → (TreePlace → TreePlace) → List slots.Slot
    slots_at e w = slots.slots types outs callee e scope w

    abbrev Ready : Place → Clock → Bool → Bool → Bool → Sketch → List ℕ → Type 0
    Ready place clock here cut kept d ns = IsReady slot types names last z place clock here cut kept d ns

    abbrev V : ℕ → Bool → Carried → List ℕ → Type 0
    V k int v ns = Has ns v.wire k × (is_mark v.shape ≡ int)

    abbrev P : Place → Clock → Bool → Bool → Bool → List slots.Slot → List Placed → (A : Type 0) → (A → List ℕ → Type 0) → (Sketch → A × Sketch) → Type 0
    P place clock here cut kept ss cs A R f = Part slot raw next given supposes owes types names last z place clock here cut kept ss cs A R f

    -- what an expression is drawn as: its value is carried, wherever it is drawn
    abbrev E : Place → Clock → Bool → Bool → Bool → List slots.Slot → List Placed → Value → Ty → (Sketch → Carried × Sketch) → Type 0
    E place clock here cut kept ss cs v u f = P place clock here cut kept ss cs Carried (V (number_in v) (is_int u)) f

    lasting : (place : Place) (clock : Clock) (here cut kept : Bool) (k : ℕ) (int : Bool) → Lasting slot raw next given supposes owes types names last z place clock here cut kept Carried (V k int)
    lasting place clock here cut kept k int v ns ns' more h = (more v.wire k h.0, h.1)

    from-valued : (d : Sketch) (ns : List ℕ) (j k : ℕ) (i int : Bool) (r : Carried × Sketch) → j ≡ k → i ≡ int → Gives d ns [] [] j i r → (ns' : List ℕ) × Draws d ns [] [] r.1 ns' × V k int r.0 ns'
    from-valued d ns j k i int r e f v = (v.0, v.1, (subst (λ n. Has v.0 r.0.wire n) e v.2, v.3 ∙ f))

    -- one operand
    one-of : (place : Place) (clock : Clock) (here cut kept : Bool) (ss : List slots.Slot) (cs : List Placed) (v v' : Value) (u u' : Ty) (f : Sketch → Carried × Sketch) (g : Carried → Sketch → Carried × Sketch) → E place clock here cut kept ss cs v u f
        → ((a : Carried) (d : Sketch) (ns : List ℕ) → Ready place clock here cut kept d ns → V (number_in v) (is_int u) a ns → (ns' : List ℕ) × Draws d ns [] [] (g a d).1 ns' × V (number_in v') (is_int u') (g a d).0 ns')
        → E place clock here cut kept ss cs v' u' (λ d. g (f d).0 (f d).1)
    one-of place clock here cut kept ss cs v v' u u' f g p step =
        made-of slot raw next given supposes owes types names last z place clock here cut kept ss cs Carried Carried (V (number_in v) (is_int u)) (V (number_in v') (is_int u')) f g p step

    -- two operands
    abbrev VV : Value → Value → Ty → Ty → Carried × Carried → List ℕ → Type 0
    VV v w u t ab ns = V (number_in v) (is_int u) ab.0 ns × V (number_in w) (is_int t) ab.1 ns

    two-of : (place : Place) (clock : Clock) (here cut kept : Bool) (ss ts : List slots.Slot) (cs ds : List Placed) (v w : Value) (u t : Ty) (f g : Sketch → Carried × Sketch) → E place clock here cut kept ss cs v u f → E place clock here cut kept ts ds w t g
        → P place clock here cut kept (ss ++ ts) (cs ++ ds) (Carried × Carried) (VV v w u t) (λ d. (((f d).0, (g (f d).1).0), (g (f d).1).1))
    two-of place clock here cut kept ss ts cs ds v w u t f g p q =
        pair slot raw next given supposes owes types names last z place clock here cut kept ss ts cs ds Carried Carried (V (number_in v) (is_int u)) (V (number_in w) (is_int t)) f g p q (lasting place clock here cut kept (number_in v) (is_int u))

    lasting-two : (place : Place) (clock : Clock) (here cut kept : Bool) (v w : Value) (u t : Ty) → Lasting slot raw next given supposes owes types names last z place clock here cut kept (Carried × Carried) (VV v w u t)
    lasting-two place clock here cut kept v w u t ab ns ns' more h = ((more ab.0.wire (number_in v) h.0.0, h.0.1), (more ab.1.wire (number_in w) h.1.0, h.1.1))

    -- an operator of two operands, which may be a comparison of integers
    two-case : (place : Place) (clock : Clock) (here cut kept : Bool) (ss ts : List slots.Slot) (cs ds : List Placed) (p : TreePlace) (o : Op2) (free_value v w : Value) (u t : Ty) (f g : Sketch → Carried × Sketch) (c1 c2 : Bool)
        → c1 ≡ is_comparison o && is_int u → c2 ≡ is_comparison o && is_int u → operand o (Some u) ≡ Some u → answer o ≡ t → IsWire types u v → IsWire types u w → free_value ≡ given p
        → E place clock here cut kept ss cs v u f → E place clock here cut kept ts ds w u g
        → E place clock here cut kept ((if c2 then free p ty.Bool ∷ [] else []) ++ (ss ++ ts)) (cs ++ ds) (two_marked o free_value v w) t
        (λ d. two_end c1 (two_begin c1 place d).0 o (f (two_begin c1 place d).1).0 (g (f (two_begin c1 place d).1).1).0 (g (f (two_begin c1 place d).1).1).1)
    two-case place clock here cut kept ss ts cs ds p o fv v w u t f g true true e e' k a hv hw ef x y =
        let b = and-parts (is_comparison o) (is_int u) (sym e) in
        let fg = two-of place clock here cut kept ss ts cs ds v w u u f g x y in
        let h = one-free slot raw next given supposes owes types names last z place clock here cut kept (ss ++ ts) (cs ++ ds) (Carried × Carried) (VV v w u u) (λ d. (((f d).0, (g (f d).1).0), (g (f d).1).1)) p ty.Bool (role.Free (may_be_early place)) Truth fg in
        let star-v : v ≡ Star = subst (λ q. IsWire types q v) (int-is u b.1) hv in
        let star-w : w ≡ Star = subst (λ q. IsWire types q w) (int-is u b.1) hw in
        let value : two_marked o fv v w ≡ fv = ap (λ q. two_marked o fv q w) star-v ∙ ap (λ q. two_marked o fv Star q) star-w ∙ ap (λ c. if c then fv else Star) b.0 in
        made-of slot raw next given supposes owes types names last z place clock here cut kept (free p ty.Bool ∷ (ss ++ ts)) (cs ++ ds) (ℕ × (Carried × Carried)) Carried (λ wa ns. VV v w u u wa.1 ns × Has ns wa.0 (number_in (given p))) (V (number_in (two_marked o fv v w)) (is_int t))
        (λ d. (((slot_step (role.Free (may_be_early place)) Truth d).0, ((f (slot_step (role.Free (may_be_early place)) Truth d).1).0, (g (f (slot_step (role.Free (may_be_early place)) Truth d).1).1).0)), (g (f (slot_step (role.Free (may_be_early place)) Truth d).1).1).1))
        (λ wa d. two_end true wa.0 o wa.1.0 wa.1.1 d) h
        (λ wa d ns r q.
        let r1 = read-drawn slot next supposes owes wa.0 wa.1.0.wire d ns r.solved in
        let r2 = read-drawn slot next supposes owes wa.0 wa.1.1.wire (read wa.0 wa.1.0.wire d) ns r1.solved in
        (ns, both slot next supposes owes d ns [] [] (read wa.0 wa.1.0.wire d) ns [] [] (read_both wa.0 wa.1.0 wa.1.1 d) ns r1 r2, (subst (λ n. Has ns wa.0 n) (sym (ap number_in (value ∙ ef))) q.1, sym (comparison-bool o b.0) ∙ ap is_int a)))
    two-case place clock here cut kept ss ts cs ds p o fv v w u t f g false false e e' k a hv hw ef x y =
        made-of slot raw next given supposes owes types names last z place clock here cut kept (ss ++ ts) (cs ++ ds) (Carried × Carried) Carried (VV v w u u) (V (number_in (two_marked o fv v w)) (is_int t)) (λ d. (((f d).0, (g (f d).1).0), (g (f d).1).1))
        (λ ab d. drawn_two o ab.0 ab.1 d) (two-of place clock here cut kept ss ts cs ds v w u u f g x y)
        (λ ab d ns r q.
        from-valued d ns (number_in (two_marked o fv v w)) (number_in (two_marked o fv v w)) (is_int (answer o)) (is_int t) (drawn_two o ab.0 ab.1 d) refl (ap is_int a)
        (two-drawn slot next supposes owes types told s N o u fv v w ab.0 ab.1 d ns r.solved q.0.0 q.1.0 k (sym e) hv hw))
    two-case place clock here cut kept ss ts cs ds p o fv v w u t f g true false e e' k a hv hw ef x y = absurd (let q : true ≡ false = e ∙ sym e' in cc)
    two-case place clock here cut kept ss ts cs ds p o fv v w u t f g false true e e' k a hv hw ef x y = absurd (let q : false ≡ true = e ∙ sym e' in cc)

    -- ---- delays

    either-value : (b : Bool) (v w : Value) → number_in (if b then v else w) ≡ (if b then number_in v else number_in w)
    either-value true v w = refl
    either-value false v w = refl

    abbrev Next : Place → Clock → Bool → Bool → Bool → TreePlace → ℕ → Type 0
    Next place clock here cut kept p i = TakesNext slot raw next given supposes owes types names last z place clock here cut kept p 0 i

    -- what a register reads is this value
    abbrev Reads : Bool → TreePlace → Value → Type 0
    Reads cut p v = (if cut then 0 else number_in (raw p)) ≡ number_in v

    pre-case : (place : Place) (clock : Clock) (here cut kept : Bool) (ss : List slots.Slot) (cs : List Placed) (p : TreePlace) (ct u : Ty) (shape : Shape) (bit : Bool) (v v' : Value) (f : Sketch → Carried × Sketch)
        → is_mark shape ≡ bit → bit ≡ is_int u → is_int ct ≡ is_int u → IsWire types u v' → Next place clock here cut kept p (number_in v) → Reads cut p v' → E place clock here cut kept ss cs v u f
        → E place clock here cut kept (register p (shape_of types ct) ∷ ss) cs v' u
        (λ d.
        let r : Register × Sketch = (if bit then (no_register, d) else new_register place 0 shape d) in
        (if bit then drawing.marked (mark (f r.1).1) else (sketch.value r.0.read shape, takes r.0 place (f r.1).0.wire (f r.1).1)))
    pre-case place clock here cut kept ss cs p ct u shape true v v' f e b c hv nx rd x =
        made-of slot raw next given supposes owes types names last z place clock here cut kept (register p (shape_of types ct) ∷ ss) cs Carried Carried (V (number_in v) (is_int u)) (V (number_in v') (is_int u)) f (λ a d. drawing.marked (mark d))
        (no-register slot raw next given supposes owes types names last z place clock here cut kept ss cs Carried (V (number_in v) (is_int u)) f p ct (c ∙ sym b) x)
        (λ a d ns r q. let m = mark-drawn slot next supposes owes d ns r.solved in (m.0, m.1, (subst (λ n. Has m.0 (mark d).0 n) (sym (int-zero types u v' (sym b) hv)) m.2, b)))
    pre-case place clock here cut kept ss cs p ct u shape false v v' f e b c hv nx rd x =
        made-of slot raw next given supposes owes types names last z place clock here cut kept (register p (shape_of types ct) ∷ ss) cs (Register × Carried) Carried
        (λ ra ns. V (number_in v) (is_int u) ra.1 ns × Has ns ra.0.read (if cut then 0 else number_in (raw p))) (V (number_in v') (is_int u))
        (λ d. (((new_register place 0 shape d).0, (f (new_register place 0 shape d).1).0), takes (new_register place 0 shape d).0 place (f (new_register place 0 shape d).1).0.wire (f (new_register place 0 shape d).1).1))
        (λ ra d. (sketch.value ra.0.read shape, d))
        (one-register slot raw next given supposes owes types names last z place clock here cut kept ss cs Carried (V (number_in v) (is_int u)) f p (shape_of types ct) 0 shape (number_in v) (λ a. a.wire) x (lasting place clock here cut kept (number_in v) (is_int u))
        (laid-register slot raw next given supposes owes types names last z place clock here cut kept p ct (c ∙ sym b)) nx (λ a d ns r q. q.0))
        (λ ra d ns r q. (ns, nothing-drawn slot next supposes owes d ns r.solved, (subst (λ n. Has ns ra.0.read n) rd q.1, e ∙ b)))

    -- the first value where there is no past
    flag-high : (v : Value) → IsFlag v → is_high (number_in v) ≡ is_true v
    flag-high v f = subst (λ a. is_high (number_in a) ≡ is_true a) (sym f.1) (by f.0)
      where
        by : (b : Bool) → is_high (number_in (B b)) ≡ b
        by true = refl
        by false = refl

    chosen : (fv x y : Value) → IsFlag fv → (if is_high (number_in fv) then number_in x else number_in y) ≡ number_in (if is_true fv then x else y)
    chosen fv x y f = ap (λ b. if b then number_in x else number_in y) (flag-high fv f) ∙ sym (either-value (is_true fv) x y)

    either-wire : (u : Ty) (b : Bool) (x y : Value) → IsWire types u x → IsWire types u y → IsWire types u (if b then x else y)
    either-wire u true x y h k = h
    either-wire u false x y h k = k

    zero-choice : (u : Ty) (fv x y : Value) → IsFlag fv → IsWire types u x → IsWire types u y → is_int u ≡ true → (if is_high (number_in fv) then number_in x else number_in y) ≡ 0
    zero-choice u fv x y f h k e = chosen fv x y f ∙ int-zero types u (if is_true fv then x else y) e (either-wire u (is_true fv) x y h k)

    choice-of : (c : ℕ) (a b : Carried) (fv x y : Value) (u : Ty) (d : Sketch) (ns : List ℕ) → IsSolved slot d ns → IsFlag fv → Has ns c (number_in fv) → V (number_in x) (is_int u) a ns → V (number_in y) (is_int u) b ns → IsWire types u x → IsWire types u y
        → (ns' : List ℕ) × Draws d ns [] [] (drawn_choice c a b d).1 ns' × V (number_in (if is_true fv then x else y)) (is_int u) (drawn_choice c a b d).0 ns'
    choice-of c a b fv x y u d ns g f hc ha hb tx ty =
        from-valued d ns (if is_high (number_in fv) then number_in x else number_in y) (number_in (if is_true fv then x else y)) (is_int u) (is_int u) (drawn_choice c a b d) (chosen fv x y f) refl
        (choice-drawn slot next supposes owes c a b (number_in fv) (number_in x) (number_in y) (is_int u) d ns g hc ha.0 hb.0 ha.1 (zero-choice u fv x y f tx ty))

    fby-case : (place : Place) (clock : Clock) (here cut kept : Bool) (ss ts : List slots.Slot) (cs ds : List Placed) (p p' : TreePlace) (ct u : Ty) (shape : Shape) (bit : Bool) (v w old fv : Value) (f g : Sketch → Carried × Sketch)
        → is_mark shape ≡ bit → bit ≡ is_int u → is_int ct ≡ is_int u → IsWire types u v → IsWire types u old → IsFlag fv
        → Next place clock here cut kept p (number_in w) → Next place clock here cut kept p' 1 → Reads cut p old → Reads cut p' fv → E place clock here cut kept ss cs v u f → E place clock here cut kept ts ds w u g
        → E place clock here cut kept (register p (shape_of types ct) ∷ (register p' slots.truth ∷ (ss ++ ts))) (cs ++ ds) (if is_true fv then old else v) u
        (λ d.
        let r : Register × Sketch = (if bit then (no_register, d) else new_register place 0 shape d) in
        let past = new_register place 0 Truth r.1 in
        let first = f past.1 in
        let second = g first.1 in
        let s1 : Sketch = (if bit then second.1 else takes r.0 place second.0.wire second.1) in
        let s2 = takes past.0 place high s1 in
        (if bit then drawing.marked (mark_of first.0.wire s2) else drawn_choice past.0.read (sketch.value r.0.read shape) first.0 s2))
    fby-case place clock here cut kept ss ts cs ds p p' ct u shape true v w old fv f g e b c hv ho hf nx nx' rd rd' x y =
        let fg = two-of place clock here cut kept ss ts cs ds v w u u f g x y in
        let h : Sketch → (Carried × Carried) × Sketch = λ d. (((f d).0, (g (f d).1).0), (g (f d).1).1) in
        let k : Sketch → (Register × (Carried × Carried)) × Sketch = λ d. (((new_register place 0 Truth d).0, (h (new_register place 0 Truth d).1).0), takes (new_register place 0 Truth d).0 place high (h (new_register place 0 Truth d).1).1) in
        let reg = one-register slot raw next given supposes owes types names last z place clock here cut kept (ss ++ ts) (cs ++ ds) (Carried × Carried) (VV v w u u) h p' slots.truth 0 Truth 1 (λ ab. high) fg (lasting-two place clock here cut kept v w u u)
        (laid-truth slot raw next given supposes owes types names last z place clock here cut kept p') nx' (λ ab d ns r q. r.solved.high_is) in
        made-of slot raw next given supposes owes types names last z place clock here cut kept (register p (shape_of types ct) ∷ (register p' slots.truth ∷ (ss ++ ts))) (cs ++ ds) (Register × (Carried × Carried)) Carried
        (λ ra ns. VV v w u u ra.1 ns × Has ns ra.0.read (if cut then 0 else number_in (raw p'))) (V (number_in (if is_true fv then old else v)) (is_int u)) k (λ ra d. drawing.marked (mark_of ra.1.0.wire d))
        (no-register slot raw next given supposes owes types names last z place clock here cut kept (register p' slots.truth ∷ (ss ++ ts)) (cs ++ ds) (Register × (Carried × Carried)) (λ ra ns. VV v w u u ra.1 ns × Has ns ra.0.read (if cut then 0 else number_in (raw p'))) k p ct (c ∙ sym b) reg)
        (λ ra d ns r q.
        let m = mark-of-drawn slot next supposes owes ra.1.0.wire d ns r.solved in
        (m.0, m.1, (subst (λ n. Has m.0 (mark_of ra.1.0.wire d).0 n) (sym (int-zero types u (if is_true fv then old else v) (sym b) (either-wire u (is_true fv) old v ho hv))) m.2, b)))
    fby-case place clock here cut kept ss ts cs ds p p' ct u shape false v w old fv f g e b c hv ho hf nx nx' rd rd' x y =
        let fg = two-of place clock here cut kept ss ts cs ds v w u u f g x y in
        let h : Sketch → (Carried × Carried) × Sketch = λ d. (((f d).0, (g (f d).1).0), (g (f d).1).1) in
        let reg = two-registers slot raw next given supposes owes types names last z place clock here cut kept (ss ++ ts) (cs ++ ds) (Carried × Carried) (VV v w u u) h p p' (shape_of types ct) slots.truth 0 0 shape Truth (number_in w) 1 (λ ab. ab.1.wire) (λ ab. high) fg
        (lasting-two place clock here cut kept v w u u)
        (laid-register slot raw next given supposes owes types names last z place clock here cut kept p ct (c ∙ sym b)) (laid-truth slot raw next given supposes owes types names last z place clock here cut kept p') nx nx'
        (λ ab d ns r q. q.1.0) (λ ab d ns r q. r.solved.high_is) in
        made-of slot raw next given supposes owes types names last z place clock here cut kept (register p (shape_of types ct) ∷ (register p' slots.truth ∷ (ss ++ ts))) (cs ++ ds) (Register × Register × (Carried × Carried)) Carried
        (λ ra ns. VV v w u u ra.2 ns × Has ns ra.0.read (if cut then 0 else number_in (raw p)) × Has ns ra.1.read (if cut then 0 else number_in (raw p'))) (V (number_in (if is_true fv then old else v)) (is_int u))
        (λ d.
        let r0 = new_register place 0 shape d in
        let r1 = new_register place 0 Truth r0.1 in
        ((r0.0, r1.0, (h r1.1).0), takes r1.0 place high (takes r0.0 place (h r1.1).0.1.wire (h r1.1).1)))
        (λ ra d. drawn_choice ra.1.read (sketch.value ra.0.read shape) ra.2.0 d) reg
        (λ ra d ns r q. choice-of ra.1.read (sketch.value ra.0.read shape) ra.2.0 fv old v u d ns r.solved hf (subst (λ n. Has ns ra.1.read n) rd' q.2) (subst (λ n. Has ns ra.0.read n) rd q.1, e ∙ b) q.0.0 ho hv)

    arrow-case : (place : Place) (clock : Clock) (here cut kept : Bool) (ss ts : List slots.Slot) (cs ds : List Placed) (p : TreePlace) (u : Ty) (v w fv : Value) (f g : Sketch → Carried × Sketch)
        → IsWire types u v → IsWire types u w → IsFlag fv → Next place clock here cut kept p 1 → Reads cut p fv → E place clock here cut kept ss cs v u f → E place clock here cut kept ts ds w u g
        → E place clock here cut kept (register p slots.truth ∷ (ss ++ ts)) (cs ++ ds) (if is_true fv then w else v) u
        (λ d.
        let past = new_register place 0 Truth d in
        let first = f past.1 in
        let second = g first.1 in
        drawn_choice past.0.read second.0 first.0 (takes past.0 place high second.1))
    arrow-case place clock here cut kept ss ts cs ds p u v w fv f g hv hw hf nx rd x y =
        let h : Sketch → (Carried × Carried) × Sketch = λ d. (((f d).0, (g (f d).1).0), (g (f d).1).1) in
        made-of slot raw next given supposes owes types names last z place clock here cut kept (register p slots.truth ∷ (ss ++ ts)) (cs ++ ds) (Register × (Carried × Carried)) Carried
        (λ ra ns. VV v w u u ra.1 ns × Has ns ra.0.read (if cut then 0 else number_in (raw p))) (V (number_in (if is_true fv then w else v)) (is_int u))
        (λ d. (((new_register place 0 Truth d).0, (h (new_register place 0 Truth d).1).0), takes (new_register place 0 Truth d).0 place high (h (new_register place 0 Truth d).1).1))
        (λ ra d. drawn_choice ra.0.read ra.1.1 ra.1.0 d)
        (one-register slot raw next given supposes owes types names last z place clock here cut kept (ss ++ ts) (cs ++ ds) (Carried × Carried) (VV v w u u) h p slots.truth 0 Truth 1 (λ ab. high) (two-of place clock here cut kept ss ts cs ds v w u u f g x y) (lasting-two place clock here cut kept v w u u)
        (laid-truth slot raw next given supposes owes types names last z place clock here cut kept p) nx (λ ab d ns r q. r.solved.high_is))
        (λ ra d ns r q. choice-of ra.0.read ra.1.1 ra.1.0 fv w v u d ns r.solved hf (subst (λ n. Has ns ra.0.read n) rd q.1) q.0.1 q.0.0 hw hv)

    -- a sampled value
    when-case : (place : Place) (clock : Clock) (here cut kept : Bool) (ss : List slots.Slot) (cs : List Placed) (u : Ty) (v : Value) (condition : ℕ) (f : Place → Sketch → Carried × Sketch)
        → IsWire types u v → ((n : ℕ) → E (on_clock place n) (without clock) here cut kept ss cs v u (f (on_clock place n)))
        → E place clock here cut kept ss cs v u (λ d. drawing.sampled condition (f (drawing.outside_of place d) d))
    when-case place clock here cut kept ss cs u v condition f hv x d ns r hd =
        let n = outer_clock place.clock d in
        let a = f (on_clock place n) d in
        let y = x n d ns (ready-on slot types names last z place clock (without clock) here cut kept d ns n r (clock-outer slot next supposes owes types names d ns r.solved place.clock clock r.clock_is)) hd in
        let c = copy-drawn slot next supposes owes a.0 a.1 y.0 (number_in v) y.1.solved y.2.0 (λ e. int-zero types u v (sym y.2.1 ∙ ap is_mark e) hv) in
        let b = copy a.0 a.1 in
        let l = read-drawn slot next supposes owes b.0 condition b.1 c.0 c.1.solved in
        (c.0, ended slot next supposes owes d ns ss cs b.1 c.0 (read b.0 condition b.1) c.0 (ended slot next supposes owes d ns ss cs a.1 y.0 b.1 c.0 y.1 c.1) l, (c.2, y.2.1))

    -- ---- a merge

    abbrev sketch_rest : ℕ → ℕ → Carried × Sketch → ℕ × Sketch
    sketch_rest h is v = chain_add h is v.0 v.1

    picked-zero : (u : Ty) (dv : Value) (ps : Parts) (v : Value) (m : Held) (now : Instant) → is_int u ≡ true → number_in dv ≡ 0 → PartsHave s u ps → PartsTyped types typed s ps now → now ≡ in_row (wired_parts types C ps names last m now) → number_in (picked types dv ps v (wired_parts types C ps names last m now)) ≡ 0
    picked-zero u dv no_part v m now e z0 has t q = z0
    picked-zero u dv (more_parts c x ps) v m now e z0 has t q =
        let i = top (wired types C x names last (held_at Head m) (part Head now)) in
        let qh : part Head now ≡ wired types C x names last (held_at Head m) (part Head now) = ap (part Head) q in
        either-value (is_cons types v c) i (picked types (blank i) ps v (wired_parts types C ps names last (held_at Tail m) (part Tail now)))
        ∙ both-zero (is_cons types v c) (number_in i) (number_in (picked types (blank i) ps v (wired_parts types C ps names last (held_at Tail m) (part Tail now))))
        (ap (λ l. number_in (top l)) (sym qh) ∙ int-zero types u (top (part Head now)) e (top_is types typed s x u (part Head now) has.0 t.0))
        (picked-zero u (blank i) ps v (held_at Tail m) (part Tail now) e (blank-zero i) has.1 t.1 (ap (part Tail) q))
      where
        both-zero : (b : Bool) (j k : ℕ) → j ≡ 0 → k ≡ 0 → (if b then j else k) ≡ 0
        both-zero true j k e f = e
        both-zero false j k e f = f

    merge-ended : (bit : Bool) (h : ℕ) (d : Sketch) (ns : List ℕ) → IsSolved slot d ns → Has ns h 0 → Draws d ns [] [] (if bit then d else chain_end h d) ns
    merge-ended true h d ns g e = nothing-drawn slot next supposes owes d ns g
    merge-ended false h d ns g e = chain-ended slot next supposes owes h d ns g e

    -- ---- a call

    called-where : (here there : Bool) (i : Instant) → is_there (i (Fresh ∷ [])) ≡ true → is_there (if here then (if there then i else nothing) (Fresh ∷ []) else Absent) ≡ here && there
    called-where true true i e = e
    called-where true false i e = refl
    called-where false there i e = refl

    output-value : (c : Callee) (ds : List Decl) (u : Ty) (now : Instant) (d : Sketch) (ns : List ℕ) → input_type ds ≡ Some u → AreOutputs d ns c now ds 0 → V (number_in (only_output (names_of ds) now)) (is_int u) (drawing.output c 0 d) ns
    unfolding drawing.output sketch.shape_at
    output-value c [] u now d ns e h = absurd cc
    output-value c (o ∷ ds) u now d ns e h = (h.0, ap (λ p. is_mark (drawing.shape_or p)) h.1.1 ∙ h.1.2 ∙ ap is_int (some_is o.ty u e))

    input-taken : (c : Callee) (j : ℕ) (v : Carried) (k : ℕ) (d : Sketch) (ns : List ℕ) → IsSolved slot d ns → Has ns (c.inputs + j) k → Has ns v.wire k → Draws d ns [] [] (drawing.takes_input c j v d) ns
    unfolding drawing.takes_input
    input-taken c j v k d ns g h e =
        let a = define-drawn slot next supposes owes (c.inputs + j) v d ns k g h e in
        both slot next supposes owes d ns [] [] (sketch.define (c.inputs + j) v d) ns [] [] (drawing.takes_input c j v d) ns a (read-drawn slot next supposes owes c.reads v.wire (sketch.define (c.inputs + j) v d) ns a.solved)

    -- a call, which has its outputs
    call-case :
        (a : Span) (f : List ℕ) (inl : Bool) (es : Exprs) (clock : Clock) (n : Node) (m : Held) (now stay : Instant) (w : TreePlace → TreePlace) (place : Place) (here cut kept : Bool)
        → IsOn st (call a f inl es) clock → ExprSound types among s has_last (call a f inl es) → among f ≡ Some n → IsTrue (args_fit n.inputs (types_in s es))
        → ExprKept types kept_by s (call a f inl es) m.start m.memory → ExprGiven types given_by s (call a f inl es) m.free → ExprTyped types typed s (call a f inl es) now
        → now ≡ wired types C (call a f inl es) names last m now
        → ((p : TreePlace) → number_in (m.start p) ≡ 0) → ((p : TreePlace) → m.free p ≡ given (w p))
        → IsStored here cut kept (remembers types C.remembers (call a f inl es) m.start []) m.memory stay (wires_of.next types C (call a f inl es) clock names m now) (seen_at w raw) (seen_at w next)
        → IsAt wires showing here w now (shown types C (call a f inl es) clock names m now) → (here ≡ true → kept ≡ cut)
        → ((c : Callee) (d : Sketch) (ns : List ℕ) → Ready place clock here cut kept d ns → AreHeld slot raw given (slots_of_all types outs callee es scope (below Args w)) (length d.slots) → AreInputs ns c (values_of es (part Args now)) 0
        → (ns' : List ℕ) × Draws d ns (slots_of_all types outs callee es scope (below Args w)) (calls_in_all es (below Args w)) (drawn_args told brings z place c 0 es d) ns')
        → (d : Sketch) (ns : List ℕ) → Ready place clock here cut kept d ns → AreHeld slot raw given (slots_at (call a f inl es) w) (length d.slots)
        → (ns' : List ℕ) × Draws d ns (slots_at (call a f inl es) w) (calls (call a f inl es) w) (drawing.drawn_call told brings z place f es d).1 ns'
        × AreOutputs (drawing.drawn_call told brings z place f es d).1 ns' (drawing.drawn_call told brings z place f es d).0 (part Instance now) n.outputs 0
    call-case a f inl es clock n m now stay w place here cut kept on ok am fit k g t q zs fs sto at sm args d ns r hd =
        let whole = call a f inl es in
        let point = point_at kind.Call f a (w []) in
        let now' = part Instance now in
        let ins = values_of es (part Args now) in
        let qa : part Args now ≡ in_row (wired_all types C es names last (held_at Args m) (part Args now)) = ap (part Args) q in
        let ie : ins ≡ map top (wired_all types C es names last (held_at Args m) (part Args now)) = ap (values_of es) qa ∙ values-same types C es names last (held_at Args m) (part Args now) in
        let qn : now' ≡ C.wired f ins (held_at Instance m) now' = ap (part Instance) q ∙ ap (λ vs. C.wired f vs (held_at Instance m) now') (sym ie) in
        let hold = holds types clock names in
        let called : is_called showing point ≡ here && hold =
        ap (λ l. is_there (showing l)) (at.inside (Instance ∷ Fresh ∷ [])) ∙ ap is_there (at.shown_is (Instance ∷ Fresh ∷ [])) ∙ called-where here hold (C.shown f ins (held_at Instance m) now') (K.there f n ins (held_at Instance m) now' am) in
        let inst : instance_at point wires ≡ now' = λ j p. (ap wires (at.inside (Instance ∷ p)) ∙ at.wires_are (Instance ∷ p)) j in
        let sup : supposes_on showing wires point ≡ not (here && hold) || (not (assumes now') || enforces now') =
        ap (λ b. not b || (not (assumes (instance_at point wires)) || enforces (instance_at point wires))) called ∙ ap (λ i. not (here && hold) || (not (assumes i) || enforces i)) inst in
        let owe : owes_on showing wires point ≡ not (here && hold) || assumes now' = ap (λ b. not b || assumes (instance_at point wires)) called ∙ ap (λ i. not (here && hold) || assumes i) inst in
        let wi = below Instance w in
        let so = outputs_slots (outs f) wi in
        let sc = callee f wi in
        let sa = slots_of_all types outs callee es scope (below Args w) in
        let begin = remembers types C.remembers whole m.start [] in
        let after = wires_of.next types C whole clock names m now in
        let hd' : AreHeld slot raw given ((so ++ sc) ++ sa) (length d.slots) = subst (λ l. AreHeld slot raw given l (length d.slots)) (sym (append_assoc so sc sa)) hd in
        let c = begin_call told brings place f d in
        let b = K.begins f n point ins (held_at Instance m) now' (part Instance stay) wi place names clock here cut kept d ns am (args-typed types typed s es n.inputs (part Args now) fit t.1.0) k.1 g.1 t.1.1 qn (λ p. zs (Instance ∷ p)) (λ p. fs (Instance ∷ p)) (λ p. ap (λ l. l ++ p) (sym (at.inside (Instance ∷ []))) ∙ append_assoc (w []) (Instance ∷ []) p ∙ at.inside (Instance ∷ p))
        (stored-part Instance here cut kept begin m.memory stay after (seen_at w raw) (seen_at w next) sto) sup owe r.solved r.place_is r.clock_is (held-first slot raw given (so ++ sc) sa (length d.slots) hd') in
        let r1 = ready-more slot next supposes owes types names last z place clock here cut kept d ns (so ++ sc) (point ∷ []) c.1 b.0 b.1 r in
        let x = args c.0 c.1 b.0 r1 (held-behind slot next supposes owes raw given d ns (so ++ sc) (point ∷ []) c.1 b.0 sa b.1 hd') b.3 in
        let last_one = drawn_args told brings z place c.0 0 es c.1 in
        let ca = calls_in_all es (below Args w) in (
          x.0,
          subst (λ l. Draws d ns l (point ∷ ca) last_one x.0) (append_assoc so sc sa) (both slot next supposes owes d ns (so ++ sc) (point ∷ []) c.1 b.0 sa ca last_one x.0 b.1 x.1),
          outputs-more slot next supposes owes c.1 b.0 sa ca last_one x.0 c.0 now' n.outputs 0 x.1 b.2,
        )

    mutual
      pub expr-drawn :
          (e : Expr) (clock : Clock) (u : Ty) (m : Held) (now stay : Instant) (w : TreePlace → TreePlace) (place : Place) (here cut kept : Bool)
          → IsOn st e clock → ExprSound types among s has_last e → type_of s e ≡ Some u
          → ExprKept types kept_by s e m.start m.memory → ExprGiven types given_by s e m.free → ExprTyped types typed s e now
          → now ≡ wired types C e names last m now
          → ((p : TreePlace) → number_in (m.start p) ≡ 0) → ((p : TreePlace) → m.free p ≡ given (w p))
          → IsStored here cut kept (remembers types C.remembers e m.start []) m.memory stay (wires_of.next types C e clock names m now) (seen_at w raw) (seen_at w next)
          → IsAt wires showing here w now (shown types C e clock names m now) → (here ≡ true → kept ≡ cut)
          → E place clock here cut kept (slots_at e w) (calls e w) (top now) u (drawn told brings z place e)
      expr-drawn (constant a c) clock u m now stay w place here cut kept on ok h k g t q zs fs sto at sm =
          λ d ns r hd. from-valued d ns (number_in (marked (constant_of types c))) (number_in (top now)) (is_int u) (is_int u) (drawn told brings z place (constant a c) d) (sym (ap number_in (ap top q))) refl
          (constant-drawn slot next supposes owes types told s N c u d ns r.solved h)
      expr-drawn (variable a x) clock u m now stay w place here cut kept on ok h k g t q zs fs sto at sm =
          λ d ns r hd. (ns, nothing-drawn slot next supposes owes d ns r.solved, (subst (λ n. Has ns (value_in z x).wire n) (sym (ap number_in (ap top q))) (r.values x), S.values x u h))
      expr-drawn (last_of a x) clock u m now stay w place here cut kept on ok h k g t q zs fs sto at sm =
          λ d ns r hd. (ns, nothing-drawn slot next supposes owes d ns r.solved, (subst (λ n. Has ns (last_in z x).wire n) (sym (ap number_in (ap top q))) (r.lasts x), S.lasts x u ok h))
      expr-drawn (one a o b) clock u m now stay w place here cut kept on ok h k g t q zs fs sto at sm =
          let tys = one_typed (type_of_one o) (type_of s b) u h in
          let i = part First now in
          let qi : i ≡ wired types C b names last (held_at First m) i = ap (part First) q in
          let x = expr-drawn b clock (type_of_one o) (held_at First m) i (part First stay) (below First w) place here cut kept on ok tys.0 k g t.1 qi (λ p. zs (First ∷ p)) (λ p. fs (First ∷ p))
          (stored-part First here cut kept (remembers types C.remembers (one a o b) m.start []) m.memory stay (wires_of.next types C (one a o b) clock names m now) (seen_at w raw) (seen_at w next) sto)
          (at-part First wires showing here w now (shown types C (one a o b) clock names m now) at) sm in
          let e : top now ≡ one_marked o (top i) = ap top q ∙ ap (λ j. one_marked o (top j)) (sym qi) in
          one-of place clock here cut kept (slots_at b (below First w)) (calls b (below First w)) (top i) (top now) (type_of_one o) u (drawn told brings z place b) (λ v d. drawn_one o v d) x
          (λ v d ns r c. from-valued d ns (number_in (one_marked o (top i))) (number_in (top now)) (is_int (type_of_one o)) (is_int u) (drawn_one o v d) (sym (ap number_in e)) (ap is_int tys.1)
          (one-drawn slot next supposes owes types o v (top i) d ns r.solved c.0 (top_is types typed s b (type_of_one o) i tys.0 t.1)))
      expr-drawn (two a o b c) clock u m now stay w place here cut kept on ok h k g t q zs fs sto at sm =
          let tys = two_typed o (type_of s b) (type_of s c) u h in
          let whole = two a o b c in
          let i = part First now in
          let j = part Second now in
          let qi : i ≡ wired types C b names last (held_at First m) i = ap (part First) q in
          let qj : j ≡ wired types C c names last (held_at Second m) j = ap (part Second) q in
          let x = expr-drawn b clock tys.0 (held_at First m) i (part First stay) (below First w) place here cut kept on.0 ok.0 tys.2 k.0 g.1.0 t.1.0 qi (λ p. zs (First ∷ p)) (λ p. fs (First ∷ p))
          (stored-part First here cut kept (remembers types C.remembers whole m.start []) m.memory stay (wires_of.next types C whole clock names m now) (seen_at w raw) (seen_at w next) sto)
          (at-part First wires showing here w now (shown types C whole clock names m now) at) sm in
          let y = expr-drawn c clock tys.0 (held_at Second m) j (part Second stay) (below Second w) place here cut kept on.1 ok.1 tys.3 k.1 g.1.1 t.1.1 qj (λ p. zs (Second ∷ p)) (λ p. fs (Second ∷ p))
          (stored-part Second here cut kept (remembers types C.remembers whole m.start []) m.memory stay (wires_of.next types C whole clock names m now) (seen_at w raw) (seen_at w next) sto)
          (at-part Second wires showing here w now (shown types C whole clock names m now) at) sm in
          let e : two_marked o (top m.free) (top i) (top j) ≡ top now = sym (ap top q ∙ ap (λ l. two_marked o (top m.free) (top l) (top (wired types C c names last (held_at Second m) (part Second now)))) (sym qi) ∙ ap (λ l. two_marked o (top m.free) (top i) (top l)) (sym qj)) in
          subst (λ v. E place clock here cut kept (slots_at whole w) (calls whole w) v u (drawn told brings z place whole)) e
          (two-case place clock here cut kept (slots_at b (below First w)) (slots_at c (below Second w)) (calls b (below First w)) (calls c (below Second w)) (w []) o (top m.free) (top i) (top j) tys.0 u (drawn told brings z place b) (drawn told brings z place c)
          (compares told z o b) (is_comparison o && is_int (types_shown.type_of types outs b scope))
          (ap (λ f. is_comparison o && f) (mark-of types outs told among K.known s has_last N scope z S b tys.0 ok.0 tys.2)) (ap (λ f. is_comparison o && f) (int-of types outs told among K.known s has_last N scope z S b tys.0 ok.0 tys.2))
          tys.1 tys.4 (top_is types typed s b tys.0 i tys.2 t.1.0) (top_is types typed s c tys.0 j tys.3 t.1.1) (fs []) x y)
      expr-drawn (choose a b c e) clock u m now stay w place here cut kept on ok h k g t q zs fs sto at sm =
          let tys = if_typed (type_of s b) (type_of s c) (type_of s e) u h in
          let whole = choose a b c e in
          let i = part First now in
          let j = part Second now in
          let l = part Third now in
          let qi : i ≡ wired types C b names last (held_at First m) i = ap (part First) q in
          let qj : j ≡ wired types C c names last (held_at Second m) j = ap (part Second) q in
          let ql : l ≡ wired types C e names last (held_at Third m) l = ap (part Third) q in
          let x = expr-drawn b clock ty.Bool (held_at First m) i (part First stay) (below First w) place here cut kept on.0 ok.0 tys.0 k.0 g.0 t.1.0 qi (λ p. zs (First ∷ p)) (λ p. fs (First ∷ p))
          (stored-part First here cut kept (remembers types C.remembers whole m.start []) m.memory stay (wires_of.next types C whole clock names m now) (seen_at w raw) (seen_at w next) sto)
          (at-part First wires showing here w now (shown types C whole clock names m now) at) sm in
          let y = expr-drawn c clock u (held_at Second m) j (part Second stay) (below Second w) place here cut kept on.1 ok.1.0 tys.1 k.1.0 g.1.0 t.1.1.0 qj (λ p. zs (Second ∷ p)) (λ p. fs (Second ∷ p))
          (stored-part Second here cut kept (remembers types C.remembers whole m.start []) m.memory stay (wires_of.next types C whole clock names m now) (seen_at w raw) (seen_at w next) sto)
          (at-part Second wires showing here w now (shown types C whole clock names m now) at) sm in
          let v = expr-drawn e clock u (held_at Third m) l (part Third stay) (below Third w) place here cut kept on.2 ok.1.1 tys.2 k.1.1 g.1.1 t.1.1.1 ql (λ p. zs (Third ∷ p)) (λ p. fs (Third ∷ p))
          (stored-part Third here cut kept (remembers types C.remembers whole m.start []) m.memory stay (wires_of.next types C whole clock names m now) (seen_at w raw) (seen_at w next) sto)
          (at-part Third wires showing here w now (shown types C whole clock names m now) at) sm in
          let tb = top_is types typed s b ty.Bool i tys.0 t.1.0 in
          let tc = top_is types typed s c u j tys.1 t.1.1.0 in
          let te = top_is types typed s e u l tys.2 t.1.1.1 in
          let eq : top now ≡ if_of (top i) (top j) (top l) =
          ap top q ∙ ap (λ o. if_of (top o) (top (wired types C c names last (held_at Second m) (part Second now))) (top (wired types C e names last (held_at Third m) (part Third now)))) (sym qi)
          ∙ ap (λ o. if_of (top i) (top o) (top (wired types C e names last (held_at Third m) (part Third now)))) (sym qj) ∙ ap (λ o. if_of (top i) (top j) (top o)) (sym ql) in
          let n : (if is_high (number_in (top i)) then number_in (top j) else number_in (top l)) ≡ number_in (top now) = sym (ap number_in eq ∙ if-number types u (top i) (top j) (top l) tb tc te) in
          let fb : Sketch → Carried × Sketch = drawn told brings z place b in
          let fc : Sketch → Carried × Sketch = drawn told brings z place c in
          let fe : Sketch → Carried × Sketch = drawn told brings z place e in
          let cd : Sketch → (Carried × Carried) × Sketch = λ d. (((fc d).0, (fe (fc d).1).0), (fe (fc d).1).1) in
          made-of slot raw next given supposes owes types names last z place clock here cut kept (slots_at whole w) (calls whole w) (Carried × (Carried × Carried)) Carried
          (λ ab ns. V (number_in (top i)) false ab.0 ns × VV (top j) (top l) u u ab.1 ns) (V (number_in (top now)) (is_int u)) (λ d. (((fb d).0, (cd (fb d).1).0), (cd (fb d).1).1))
          (λ ab d. drawn_choice ab.0.wire ab.1.0 ab.1.1 d)
          (pair slot raw next given supposes owes types names last z place clock here cut kept (slots_at b (below First w)) (slots_at c (below Second w) ++ slots_at e (below Third w)) (calls b (below First w)) (calls c (below Second w) ++ calls e (below Third w)) Carried (Carried × Carried)
          (V (number_in (top i)) false) (VV (top j) (top l) u u) fb cd x
          (two-of place clock here cut kept (slots_at c (below Second w)) (slots_at e (below Third w)) (calls c (below Second w)) (calls e (below Third w)) (top j) (top l) u u fc fe y v) (lasting place clock here cut kept (number_in (top i)) false))
          (λ ab d ns r o. from-valued d ns (if is_high (number_in (top i)) then number_in (top j) else number_in (top l)) (number_in (top now)) (is_int u) (is_int u) (drawn_choice ab.0.wire ab.1.0 ab.1.1 d) n refl
          (choice-drawn slot next supposes owes ab.0.wire ab.1.0 ab.1.1 (number_in (top i)) (number_in (top j)) (number_in (top l)) (is_int u) d ns r.solved o.0.0 o.1.0.0 o.1.1.0 o.1.0.1 (λ e. n ∙ int-zero types u (top now) e (top_is types typed s whole u now h t))))
      expr-drawn (pre a b) clock u m now stay w place here cut kept on ok h k g t q zs fs sto at sm =
          let whole = pre a b in
          let i = part First now in
          let qi : i ≡ wired types C b names last (held_at First m) i = ap (part First) q in
          let begin = remembers types C.remembers whole m.start [] in
          let after = wires_of.next types C whole clock names m now in
          let x = expr-drawn b clock u (held_at First m) i (part First stay) (below First w) place here cut kept on ok h k.1.1 g t.1 qi (λ p. zs (First ∷ p)) (λ p. fs (First ∷ p))
          (stored-part First here cut kept begin m.memory stay after (seen_at w raw) (seen_at w next) sto)
          (at-part First wires showing here w now (shown types C whole clock names m now) at) sm in
          pre-case place clock here cut kept (slots_at b (below First w)) (calls b (below First w)) (w []) (types_shown.type_of types outs b scope) u (shape_in told b (shapes_in z)) (is_mark (shape_in told b (shapes_in z))) (top i) (top now) (drawn told brings z place b)
          refl (mark-of types outs told among K.known s has_last N scope z S b u ok h) (int-of types outs told among K.known s has_last N scope z S b u ok h) (top_is types typed s whole u now h t)
          (take-number here cut kept (holds types clock names) begin m.memory stay after (seen_at w raw) (seen_at w next) [] 0 (number_in (raw (w []))) (number_in (top i)) sto sm (sym (zs [])) refl (either-value (holds types clock names) (now (First ∷ [])) (top m.memory)))
          (read-number here cut kept begin m.memory stay after (seen_at w raw) (seen_at w next) [] 0 (number_in (raw (w []))) sto (sym (zs [])) refl ∙ sym (ap number_in (ap top q)))
          x
      expr-drawn (fby a b c) clock u m now stay w place here cut kept on ok h k g t q zs fs sto at sm =
          let tys = pair_typed (type_of s b) (type_of s c) u h in
          let whole = fby a b c in
          let i = part First now in
          let j = part Second now in
          let qi : i ≡ wired types C b names last (held_at First m) i = ap (part First) q in
          let qj : j ≡ wired types C c names last (held_at Second m) j = ap (part Second) q in
          let begin = remembers types C.remembers whole m.start [] in
          let after = wires_of.next types C whole clock names m now in
          let x = expr-drawn b clock u (held_at First m) i (part First stay) (below First w) place here cut kept on.0 ok.0 tys.0 k.1.1.1.0 g.0 t.1.0 qi (λ p. zs (First ∷ p)) (λ p. fs (First ∷ p))
          (stored-part First here cut kept begin m.memory stay after (seen_at w raw) (seen_at w next) sto)
          (at-part First wires showing here w now (shown types C whole clock names m now) at) sm in
          let y = expr-drawn c clock u (held_at Second m) j (part Second stay) (below Second w) place here cut kept on.1 ok.1 tys.1 k.1.1.1.1 g.1 t.1.1 qj (λ p. zs (Second ∷ p)) (λ p. fs (Second ∷ p))
          (stored-part Second here cut kept begin m.memory stay after (seen_at w raw) (seen_at w next) sto)
          (at-part Second wires showing here w now (shown types C whole clock names m now) at) sm in
          let fv = m.memory (Fresh ∷ []) in
          let e : (if is_true fv then top m.memory else top i) ≡ top now = sym (ap top q ∙ ap (λ l. if is_true fv then top m.memory else top l) (sym qi)) in
          subst (λ v. E place clock here cut kept (slots_at whole w) (calls whole w) v u (drawn told brings z place whole)) e
          (fby-case place clock here cut kept (slots_at b (below First w)) (slots_at c (below Second w)) (calls b (below First w)) (calls c (below Second w)) (w []) (w (Fresh ∷ [])) (types_shown.type_of types outs b scope) u (shape_in told b (shapes_in z)) (is_mark (shape_in told b (shapes_in z)))
          (top i) (top j) (top m.memory) fv (drawn told brings z place b) (drawn told brings z place c)
          refl (mark-of types outs told among K.known s has_last N scope z S b u ok.0 tys.0) (int-of types outs told among K.known s has_last N scope z S b u ok.0 tys.0)
          (top_is types typed s b u i tys.0 t.1.0) (as_wire types (type_of s b) u (top m.memory) tys.0 k.1.0) k.1.1.0
          (take-number here cut kept (holds types clock names) begin m.memory stay after (seen_at w raw) (seen_at w next) [] 0 (number_in (raw (w []))) (number_in (top j)) sto sm (sym (zs [])) refl (either-value (holds types clock names) (now (Second ∷ [])) (top m.memory)))
          (take-number here cut kept (holds types clock names) begin m.memory stay after (seen_at w raw) (seen_at w next) (Fresh ∷ []) 0 (number_in (raw (w (Fresh ∷ [])))) 1 sto sm refl refl (either-value (holds types clock names) (B true) fv))
          (read-number here cut kept begin m.memory stay after (seen_at w raw) (seen_at w next) [] 0 (number_in (raw (w []))) sto (sym (zs [])) refl)
          (read-number here cut kept begin m.memory stay after (seen_at w raw) (seen_at w next) (Fresh ∷ []) 0 (number_in (raw (w (Fresh ∷ [])))) sto refl refl)
          x y)
      expr-drawn (arrow a b c) clock u m now stay w place here cut kept on ok h k g t q zs fs sto at sm =
          let tys = pair_typed (type_of s b) (type_of s c) u h in
          let whole = arrow a b c in
          let i = part First now in
          let j = part Second now in
          let qi : i ≡ wired types C b names last (held_at First m) i = ap (part First) q in
          let qj : j ≡ wired types C c names last (held_at Second m) j = ap (part Second) q in
          let begin = remembers types C.remembers whole m.start [] in
          let after = wires_of.next types C whole clock names m now in
          let x = expr-drawn b clock u (held_at First m) i (part First stay) (below First w) place here cut kept on.0 ok.0 tys.0 k.1.0 g.0 t.1.0 qi (λ p. zs (First ∷ p)) (λ p. fs (First ∷ p))
          (stored-part First here cut kept begin m.memory stay after (seen_at w raw) (seen_at w next) sto)
          (at-part First wires showing here w now (shown types C whole clock names m now) at) sm in
          let y = expr-drawn c clock u (held_at Second m) j (part Second stay) (below Second w) place here cut kept on.1 ok.1 tys.1 k.1.1 g.1 t.1.1 qj (λ p. zs (Second ∷ p)) (λ p. fs (Second ∷ p))
          (stored-part Second here cut kept begin m.memory stay after (seen_at w raw) (seen_at w next) sto)
          (at-part Second wires showing here w now (shown types C whole clock names m now) at) sm in
          let fv = m.memory (Fresh ∷ []) in
          let e : (if is_true fv then top j else top i) ≡ top now =
          sym (ap top q ∙ ap (λ l. if is_true fv then top l else top (wired types C b names last (held_at First m) (part First now))) (sym qj) ∙ ap (λ l. if is_true fv then top j else top l) (sym qi)) in
          subst (λ v. E place clock here cut kept (slots_at whole w) (calls whole w) v u (drawn told brings z place whole)) e
          (arrow-case place clock here cut kept (slots_at b (below First w)) (slots_at c (below Second w)) (calls b (below First w)) (calls c (below Second w)) (w (Fresh ∷ [])) u (top i) (top j) fv (drawn told brings z place b) (drawn told brings z place c)
          (top_is types typed s b u i tys.0 t.1.0) (top_is types typed s c u j tys.1 t.1.1) k.0
          (take-number here cut kept (holds types clock names) begin m.memory stay after (seen_at w raw) (seen_at w next) (Fresh ∷ []) 0 (number_in (raw (w (Fresh ∷ [])))) 1 sto sm refl refl (either-value (holds types clock names) (B true) fv))
          (read-number here cut kept begin m.memory stay after (seen_at w raw) (seen_at w next) (Fresh ∷ []) 0 (number_in (raw (w (Fresh ∷ [])))) sto refl refl)
          x y)
      expr-drawn (when_is a b c o) clock u m now stay w place here cut kept on ok h k g t q zs fs sto at sm =
          let tb = when_typed _ (type_of s b) u h in
          let whole = when_is a b c o in
          let i = part First now in
          let qi : i ≡ wired types C b names last (held_at First m) i = ap (part First) q in
          let begin = remembers types C.remembers whole m.start [] in
          let after = wires_of.next types C whole clock names m now in
          let e : top i ≡ top now = sym (ap top q ∙ ap top (sym qi)) in
          let x : (n : ℕ) → E (on_clock place n) (without clock) here cut kept (slots_at b (below First w)) (calls b (below First w)) (top i) u (drawn told brings z (on_clock place n) b) =
          λ n. expr-drawn b (without clock) u (held_at First m) i (part First stay) (below First w) (on_clock place n) here cut kept on.2 ok tb k g t.1 qi (λ p. zs (First ∷ p)) (λ p. fs (First ∷ p))
          (stored-part First here cut kept begin m.memory stay after (seen_at w raw) (seen_at w next) sto)
          (at-part First wires showing here w now (shown types C whole clock names m now) at) sm in
          subst (λ v. E place clock here cut kept (slots_at whole w) (calls whole w) v u (drawn told brings z place whole)) e
          (when-case place clock here cut kept (slots_at b (below First w)) (calls b (below First w)) u (top i) (value_in z o).wire (λ pl d. drawn told brings z pl b d) (top_is types typed s b u i tb t.1) x)
      expr-drawn (merge a o ps) clock u m now stay w place here cut kept on ok h k g t q zs fs sto at sm =
          λ d ns r hd.
          let whole = merge a o ps in
          let p = shape_in_parts told ps (shapes_in z) in
          let mk : is_mark p ≡ is_int u = mark-of types outs told among K.known s has_last N scope z S whole u ok h in
          let tt = top_is types typed s whole u now h t in
          let wh = sketch.hole p d in
          let cond = (value_in z o).wire in
          let x1 = hole-drawn slot next supposes owes p d ns (number_in (top now)) r.solved (λ e. int-zero types u (top now) (sym mk ∙ ap is_mark e) tt) in
          let s1 = read wh.0 cond wh.1 in
          let x2 = read-drawn slot next supposes owes wh.0 cond wh.1 x1.0 x1.1.solved in
          let d01 = both slot next supposes owes d ns [] [] wh.1 x1.0 [] [] s1 x1.0 x1.1 x2 in
          let r1 = ready-more slot next supposes owes types names last z place clock here cut kept d ns [] [] s1 x1.0 d01 r in
          let ss = slots_of_parts types outs callee ps scope (below Args w) in
          let cs = calls_in_parts ps (below Args w) in
          let begin = remembers types C.remembers whole m.start [] in
          let after = wires_of.next types C whole clock names m now in
          let x3 = parts-drawn ps o clock u (held_at Args m) (part Args now) (part Args stay) (below Args w) place here cut kept wh.0 Absent on.0 on.1 ok.1 (merge_typed s (lookup s.variables o) ps u h) (merge-agrees s (lookup s.variables o) ps u h)
          k g t.1 (ap (part Args) q) (λ p. zs (Args ∷ p)) (λ p. fs (Args ∷ p))
          (stored-part Args here cut kept begin m.memory stay after (seen_at w raw) (seen_at w next) sto) (at-part Args wires showing here w now (shown types C whole clock names m now) at) sm refl
          s1 x1.0 r1 (held-behind slot next supposes owes raw given d ns [] [] s1 x1.0 ss d01 hd) (subst (λ n. Has x1.0 wh.0 n) (ap number_in (ap top q)) x1.2) in
          let dp = drawn_parts told brings z place o ps wh.0 s1 in
          let x4 = merge-ended (is_mark p) dp.0 dp.1 x3.0 x3.1.solved x3.2 in
          let d03 = both slot next supposes owes d ns [] [] s1 x1.0 ss cs dp.1 x3.0 d01 x3.1 in (
            x3.0,
            ended slot next supposes owes d ns ss cs dp.1 x3.0 (if is_mark p then dp.1 else chain_end dp.0 dp.1) x3.0 d03 x4,
            (stays slot next supposes owes s1 x1.0 ss cs dp.1 x3.0 x3.1 wh.0 (number_in (top now)) x1.2, mk),
          )
      expr-drawn (call a f inl es) clock u m now stay w place here cut kept on ok h k g t q zs fs sto at sm =
          λ d ns r hd.
          let whole = call a f inl es in
          let tys = call_typed (lookup s.nodes f) (types_in s es) u h in
          let n = tys.0 in
          let am : among f ≡ Some n = sym ok.0 ∙ tys.1 in
          let begin = remembers types C.remembers whole m.start [] in
          let after = wires_of.next types C whole clock names m now in
          let x = call-case a f inl es clock n m now stay w place here cut kept on ok am tys.2 k g t q zs fs sto at sm
          (λ c d ns r hd hi. args-drawn es clock n.inputs (held_at Args m) (part Args now) (part Args stay) (below Args w) place here cut kept c 0 on ok.1 tys.2 k.0 g.0 t.1.0 (ap (part Args) q) (λ p. zs (Args ∷ p)) (λ p. fs (Args ∷ p))
          (stored-part Args here cut kept begin m.memory stay after (seen_at w raw) (seen_at w next) sto) (at-part Args wires showing here w now (shown types C whole clock names m now) at) sm d ns r hd hi)
          d ns r hd in
          let drawn_call = drawing.drawn_call told brings z place f es d in
          let qn = ap (part Instance) q in
          let e : only_output (names_of n.outputs) (part Instance now) ≡ top now = sym (ap top q ∙ ap (only_output (C.outputs f)) (sym qn) ∙ ap (λ os. only_output os (part Instance now)) (K.names f n am)) in
          (x.0, x.1, subst (λ v. V (number_in v) (is_int u) (drawing.output drawn_call.0 0 drawn_call.1) x.0) e (output-value drawn_call.0 n.outputs u (part Instance now) drawn_call.1 x.0 (subst (λ o. first_output o ≡ Some u) tys.1 tys.3) x.2))

      pub args-drawn :
          (es : Exprs) (clock : Clock) (ds : List Decl) (m : Held) (now stay : Instant) (w : TreePlace → TreePlace) (place : Place) (here cut kept : Bool) (c : Callee) (j : ℕ)
          → ExprsOn st es clock → ExprsSound types among s has_last es → IsTrue (args_fit ds (types_in s es))
          → ExprsKept types kept_by s es m.start m.memory → ExprsGiven types given_by s es m.free → ExprsTyped types typed s es now
          → now ≡ in_row (wired_all types C es names last m now)
          → ((p : TreePlace) → number_in (m.start p) ≡ 0) → ((p : TreePlace) → m.free p ≡ given (w p))
          → IsStored here cut kept (in_row (remembers_all types C.remembers es m.start [])) m.memory stay (in_row (next_all types C es clock names m now)) (seen_at w raw) (seen_at w next)
          → IsAt wires showing here w now (in_row (shown_all types C es clock names m now)) → (here ≡ true → kept ≡ cut)
          → (d : Sketch) (ns : List ℕ) → Ready place clock here cut kept d ns → AreHeld slot raw given (slots_of_all types outs callee es scope w) (length d.slots) → AreInputs ns c (values_of es now) j
          → (ns' : List ℕ) × Draws d ns (slots_of_all types outs callee es scope w) (calls_in_all es w) (drawn_args told brings z place c j es d) ns'
      args-drawn no_expr clock ds m now stay w place here cut kept c j on ok fit k g t q zs fs sto at sm d ns r hd hi = (ns, nothing-drawn slot next supposes owes d ns r.solved)
      args-drawn (more_exprs e es) clock [] m now stay w place here cut kept c j on ok fit k g t q zs fs sto at sm d ns r hd hi = absurd cc
      args-drawn (more_exprs e es) clock (o ∷ ds) m now stay w place here cut kept c j on ok fit k g t q zs fs sto at sm d ns r hd hi =
          let whole = more_exprs e es in
          let tys = arg_typed o ds (type_of s e) (types_in s es) fit in
          let i = part Head now in
          let qi : i ≡ wired types C e names last (held_at Head m) i = ap (part Head) q in
          let begin = in_row (remembers_all types C.remembers whole m.start []) in
          let after = in_row (next_all types C whole clock names m now) in
          let ss = slots_at e (below Head w) in
          let ts = slots_of_all types outs callee es scope (below Tail w) in
          let cs = calls e (below Head w) in
          let v = drawn told brings z place e d in
          let x1 = expr-drawn e clock o.ty (held_at Head m) i (part Head stay) (below Head w) place here cut kept on.0 ok.0 tys.0 k.0 g.0 t.0 qi (λ p. zs (Head ∷ p)) (λ p. fs (Head ∷ p))
          (stored-part Head here cut kept begin m.memory stay after (seen_at w raw) (seen_at w next) sto) (at-part Head wires showing here w now (in_row (shown_all types C whole clock names m now)) at) sm
          d ns r (held-first slot raw given ss ts (length d.slots) hd) in
          let up : (wr n : ℕ) → Has ns wr n → Has x1.0 wr n = stays slot next supposes owes d ns ss cs v.1 x1.0 x1.1 in
          let x2 = input-taken c j v.0 (number_in (top i)) v.1 x1.0 x1.1.solved (up (c.inputs + j) (number_in (top i)) hi.0) x1.2.0 in
          let s2 = drawing.takes_input c j v.0 v.1 in
          let d02 = ended slot next supposes owes d ns ss cs v.1 x1.0 s2 x1.0 x1.1 x2 in
          let r2 = ready-more slot next supposes owes types names last z place clock here cut kept d ns ss cs s2 x1.0 d02 r in
          let x3 = args-drawn es clock ds (held_at Tail m) (part Tail now) (part Tail stay) (below Tail w) place here cut kept c (j + 1) on.1 ok.1 tys.1 k.1 g.1 t.1 (ap (part Tail) q) (λ p. zs (Tail ∷ p)) (λ p. fs (Tail ∷ p))
          (stored-part Tail here cut kept begin m.memory stay after (seen_at w raw) (seen_at w next) sto) (at-part Tail wires showing here w now (in_row (shown_all types C whole clock names m now)) at) sm
          s2 x1.0 r2 (held-behind slot next supposes owes raw given d ns ss cs s2 x1.0 ts d02 hd) (inputs-more slot next supposes owes d ns ss cs s2 x1.0 c (values_of es (part Tail now)) (j + 1) d02 hi.1) in
          (x3.0, both slot next supposes owes d ns ss cs s2 x1.0 ts (calls_in_all es (below Tail w)) (drawn_args told brings z place c j whole d) x3.0 d02 x3.1)

      pub parts-drawn :
          (ps : Parts) (x : List ℕ) (clock : Clock) (u : Ty) (m : Held) (now stay : Instant) (w : TreePlace → TreePlace) (place : Place) (here cut kept : Bool) (hole_wire : ℕ) (dv : Value)
          → st x ≡ Some clock → PartsOn st x ps clock → PartsSound types among s has_last ps → PartsHave s u ps → PartsAgree s (lookup s.variables x) ps
          → PartsKept types kept_by s ps m.start m.memory → PartsGiven types given_by s ps m.free → PartsTyped types typed s ps now
          → now ≡ in_row (wired_parts types C ps names last m now)
          → ((p : TreePlace) → number_in (m.start p) ≡ 0) → ((p : TreePlace) → m.free p ≡ given (w p))
          → IsStored here cut kept (in_row (remembers_parts types C.remembers ps m.start [])) m.memory stay (in_row (next_parts types C ps x clock names m now)) (seen_at w raw) (seen_at w next)
          → IsAt wires showing here w now (in_row (shown_parts types C ps x clock names m now)) → (here ≡ true → kept ≡ cut) → number_in dv ≡ 0
          → (d : Sketch) (ns : List ℕ) → Ready place clock here cut kept d ns → AreHeld slot raw given (slots_of_parts types outs callee ps scope w) (length d.slots)
          → Has ns hole_wire (number_in (picked types dv ps (names x) (wired_parts types C ps names last m now)))
          → (ns' : List ℕ) × Draws d ns (slots_of_parts types outs callee ps scope w) (calls_in_parts ps w) (drawn_parts told brings z place x ps hole_wire d).1 ns' × Has ns' (drawn_parts told brings z place x ps hole_wire d).0 0
      parts-drawn no_part x clock u m now stay w place here cut kept hw dv sx on ok h ag k g t q zs fs sto at sm z0 d ns r hd hh =
          (ns, nothing-drawn slot next supposes owes d ns r.solved, subst (λ n. Has ns hw n) z0 hh)
      parts-drawn (more_parts c e ps) x clock u m now stay w place here cut kept hw dv sx on ok h ag k g t q zs fs sto at sm z0 d ns r hd hh =
          let whole = more_parts c e ps in
          let tx = agreed (lookup s.variables x) (cons_type s c) ag.0 in
          let wx = nk x clock tx.0 sx tx.1 in
          let b = is_cons types (names x) c in
          let is = drawing.has_cons told (value_in z x).wire c d in
          let x1 = cons-drawn slot next supposes owes types told s N (value_in z x).wire tx.0 (names x) c d ns r.solved (r.values x) tx.2 wx in
          let r1 = ready-more slot next supposes owes types names last z place clock here cut kept d ns [] [] is.1 x1.0 x1.1 r in
          let inner = drawing.step_clock told z place.clock c x is.1 in
          let x2 = step-drawn slot next supposes owes types told s N names z place.clock tx.0 c x clock is.1 x1.0 r1.solved (r1.values x) tx.2 wx r1.clock_is in
          let r2 = ready-more slot next supposes owes types names last z place clock here cut kept is.1 x1.0 [] [] inner.1 x2.0 x2.1 r1 in
          let place' = on_clock place inner.0 in
          let i = part Head now in
          let qi : i ≡ wired types C e names last (held_at Head m) i = ap (part Head) q in
          let ts = slots_of_parts types outs callee ps scope (below Tail w) in
          let ss = slots_at e (below Head w) in
          let d02 = both slot next supposes owes d ns [] [] is.1 x1.0 [] [] inner.1 x2.0 x1.1 x2.1 in
          let hd2 : AreHeld slot raw given (ss ++ ts) (length inner.1.slots) = held-behind slot next supposes owes raw given d ns [] [] inner.1 x2.0 (ss ++ ts) d02 hd in
          let begin = in_row (remembers_parts types C.remembers whole m.start []) in
          let after = in_row (next_parts types C whole x clock names m now) in
          let v = drawn told brings z place' e inner.1 in
          let x3 = expr-drawn e ((c, x) ∷ clock) u (held_at Head m) i (part Head stay) (below Head w) place' here cut kept on.0 ok.0 h.0 k.0 g.0 t.0 qi (λ p. zs (Head ∷ p)) (λ p. fs (Head ∷ p))
          (stored-part Head here cut kept begin m.memory stay after (seen_at w raw) (seen_at w next) sto)
          (at-part Head wires showing here w now (in_row (shown_parts types C whole x clock names m now)) at) sm
          inner.1 x2.0 (ready-on slot types names last z place clock ((c, x) ∷ clock) here cut kept inner.1 x2.0 inner.0 r2 x2.2) (held-first slot raw given ss ts (length inner.1.slots) hd2) in
          let r3 = ready-more slot next supposes owes types names last z place clock here cut kept inner.1 x2.0 ss (calls e (below Head w)) v.1 x3.0 x3.1 r2 in
          let dv' = blank (top (wired types C e names last (held_at Head m) (part Head now))) in
          let ni = number_in (top i) in
          let nj = number_in (picked types dv' ps (names x) (wired_parts types C ps names last (held_at Tail m) (part Tail now))) in
          let eh : number_in (picked types dv whole (names x) (wired_parts types C whole names last m now)) ≡ (if b then ni else nj) =
          either-value b (top (wired types C e names last (held_at Head m) (part Head now))) (picked types dv' ps (names x) (wired_parts types C ps names last (held_at Tail m) (part Tail now)))
          ∙ ap (λ l. if b then number_in (top l) else nj) (sym qi) in
          let up : (wr n : ℕ) → Has ns wr n → Has x2.0 wr n = stays slot next supposes owes d ns [] [] inner.1 x2.0 d02 in
          let up3 : (wr n : ℕ) → Has x2.0 wr n → Has x3.0 wr n = stays slot next supposes owes inner.1 x2.0 ss (calls e (below Head w)) v.1 x3.0 x3.1 in
          let rest = sketch_rest hw is.0 v in
          let x4 = chain-drawn slot next supposes owes hw is.0 v.0 b ni nj v.1 x3.0 x3.1.solved (up3 hw (if b then ni else nj) (up hw (if b then ni else nj) (subst (λ n. Has ns hw n) eh hh)))
          (up3 is.0 (truth b) (stays slot next supposes owes is.1 x1.0 [] [] inner.1 x2.0 x2.1 is.0 (truth b) x1.2)) x3.2.0
          (λ mk. (int-zero types u (top i) (sym x3.2.1 ∙ mk) (top_is types typed s e u i h.0 t.0), picked-zero u dv' ps (names x) (held_at Tail m) (part Tail now) (sym x3.2.1 ∙ mk) (blank-zero (top (wired types C e names last (held_at Head m) (part Head now)))) h.1 t.1 (ap (part Tail) q))) in
          let r4 = ready-more slot next supposes owes types names last z place clock here cut kept v.1 x3.0 [] [] rest.1 x4.0 x4.1 r3 in
          let d23 = ended slot next supposes owes inner.1 x2.0 ss (calls e (below Head w)) v.1 x3.0 rest.1 x4.0 x3.1 x4.1 in
          let d04 = both slot next supposes owes d ns [] [] inner.1 x2.0 ss (calls e (below Head w)) rest.1 x4.0 d02 d23 in
          let x5 = parts-drawn ps x clock u (held_at Tail m) (part Tail now) (part Tail stay) (below Tail w) place here cut kept rest.0 dv' sx on.1 ok.1 h.1 ag.1 k.1 g.1 t.1 (ap (part Tail) q) (λ p. zs (Tail ∷ p)) (λ p. fs (Tail ∷ p))
          (stored-part Tail here cut kept begin m.memory stay after (seen_at w raw) (seen_at w next) sto)
          (at-part Tail wires showing here w now (in_row (shown_parts types C whole x clock names m now)) at) sm (blank-zero (top (wired types C e names last (held_at Head m) (part Head now))))
          rest.1 x4.0 r4 (held-behind slot next supposes owes raw given inner.1 x2.0 ss (calls e (below Head w)) rest.1 x4.0 ts d23 hd2) x4.2 in
          (x5.0, both slot next supposes owes d ns ss (calls e (below Head w)) rest.1 x4.0 ts (calls_in_parts ps (below Tail w)) (drawn_parts told brings z place x whole hw d).1 x5.0 d04 x5.1, x5.2)

    -- a call, which has its outputs
    pub call-drawn :
        (a : Span) (f : List ℕ) (inl : Bool) (es : Exprs) (clock : Clock) (n : Node) (m : Held) (now stay : Instant) (w : TreePlace → TreePlace) (place : Place) (here cut kept : Bool)
        → IsOn st (call a f inl es) clock → ExprSound types among s has_last (call a f inl es) → among f ≡ Some n → IsTrue (args_fit n.inputs (types_in s es))
        → ExprKept types kept_by s (call a f inl es) m.start m.memory → ExprGiven types given_by s (call a f inl es) m.free → ExprTyped types typed s (call a f inl es) now
        → now ≡ wired types C (call a f inl es) names last m now
        → ((p : TreePlace) → number_in (m.start p) ≡ 0) → ((p : TreePlace) → m.free p ≡ given (w p))
        → IsStored here cut kept (remembers types C.remembers (call a f inl es) m.start []) m.memory stay (wires_of.next types C (call a f inl es) clock names m now) (seen_at w raw) (seen_at w next)
        → IsAt wires showing here w now (shown types C (call a f inl es) clock names m now) → (here ≡ true → kept ≡ cut)
        → (d : Sketch) (ns : List ℕ) → Ready place clock here cut kept d ns → AreHeld slot raw given (slots_at (call a f inl es) w) (length d.slots)
        → (ns' : List ℕ) × Draws d ns (slots_at (call a f inl es) w) (calls (call a f inl es) w) (drawing.drawn_call told brings z place f es d).1 ns'
        × AreOutputs (drawing.drawn_call told brings z place f es d).1 ns' (drawing.drawn_call told brings z place f es d).0 (part Instance now) n.outputs 0
    call-drawn a f inl es clock n m now stay w place here cut kept on ok am fit k g t q zs fs sto at sm =
        let whole = call a f inl es in
        let begin = remembers types C.remembers whole m.start [] in
        let after = wires_of.next types C whole clock names m now in
        call-case a f inl es clock n m now stay w place here cut kept on ok am fit k g t q zs fs sto at sm
        (λ c d ns r hd hi. args-drawn es clock n.inputs (held_at Args m) (part Args now) (part Args stay) (below Args w) place here cut kept c 0 on ok.1 fit k.0 g.0 t.1.0 (ap (part Args) q) (λ p. zs (Args ∷ p)) (λ p. fs (Args ∷ p))
        (stored-part Args here cut kept begin m.memory stay after (seen_at w raw) (seen_at w next) sto) (at-part Args wires showing here w now (shown types C whole clock names m now) at) sm d ns r hd hi)
