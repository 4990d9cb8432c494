-- The instant of an expression is solid: of what it holds, and of what it held before.
use Rattle.std.proofs.Common.{◌≡◌, ℕ, List, [], ◌∷◌, refl, sym, ap, ap₂, subst, ◌∙◌, ◌⊎◌, inl, inr}
use Rattle.std.specs.Prelude.{ℤ, Bool, true, false, ◌&&◌, IsTrue, IsFalse, if◌then◌else◌, Option, Some}
use Rattle.hp_base.specs.declared.ty.Ty.{Ty}
use Rattle.hp_base.specs.declared.ty.Ty.TheVariants as ty
use Rattle.hp_base.specs.declared.span.Span.{Span}
use Rattle.hp_base.specs.declared.value.Value.{Value}
use Rattle.hp_base.specs.declared.value.Value.TheVariants.{Absent, Nil, B, E, I, Star}
use Rattle.hp_tree.specs.declared.block.Trans.{Trans}
use Rattle.hp_tree.specs.declared.expr.Op2.{Op2}
use Rattle.hp_tree.specs.declared.expr.Op2.TheVariants.{And, Or, Xor, Imp, Eq, Ne, Lt, Le, Gt, Ge, Add, Sub, Mul, Div, Rem}
use Rattle.hp_tree.specs.Expressions.{Expr, constant, variable, last_of, one, two, choose, pre, fby, arrow, when_is, merge, call, Exprs, no_expr, more_exprs, Parts, no_part, more_parts}
use Rattle.hp_tree.specs.Blocks.{Decl}
use Rattle.hp_tree.specs.Programs.{TypeDecl, Node}
use Rattle.hp_tree.specs.Operators.{two_of, numbers, arithmetic_of}
use Rattle.hp_tree.specs.Values.{IsOf}
use Rattle.hp_tree.specs.Instant.{Step, Head, Tail, First, Second, Third, Args, Instance, Place, Instant, Past, Given, at, part, parts, top, or_else, newest, after, at_first, in_row, Clock, holds, without}
use Rattle.hp_tree.specs.Meaning.{Names, Nodes, expr, exprs, merged, conditions}
use Rattle.hp_tree.specs.Reaction.{Each}
use Rattle.hp_base.specs.Known.Known.{lookup}
use Rattle.hp_typing.specs.Types.{type_of, types_in, args_fit, type_of_one}
use Rattle.law_judged.specs.Typed.Scopes.{Scope}
use Rattle.hp_init.specs.Classes.{Classes, is_second}
use Rattle.law_values.specs.Valued.Fitting.{Presence, IsThere, HasValue, Fits, value_type, ExprFits, ExprsFit, PartsFit, TestsFit}
use Rattle.law_values.specs.Valued.Given.{reading}
use Rattle.law_values.specs.Valued.Judged.{Lasts}
use Rattle.law_values.proofs.ValuedLemmas.Both.{ExprOk, ExprsOk, PartsOk, TestsOk, RightOk}
use Rattle.law_values.proofs.ValuedLemmas.Laws.{fits_true, never_nil, is_int}
use Rattle.law_values.proofs.ValuedLemmas.Typed.{one_typed, two_typed, if_typed, pair_typed, when_typed, call_typed, row_typed, merge_typed, PartsHave, arg_typed}
use Rattle.law_values.proofs.AcceptedLemmas.Outputs.{never_star}
use Rattle.law_games.proofs.GuaranteedLemmas.Solid.{IsFlag, IsNumber, Joined, Solid, nothing_solid, alone_solid, there_solid, one_solid, two_solid, three_solid, row_solid, merge_solid, call_solid}

-- ---- what was there before

abbrev pub Been : (Instant → Type 0) → Past → Type 0
Been P past = Each (λ j. (d : Bool) × IsThere d P j) past

pub been_part : (P Q : Instant → Type 0) (s : Step) (past : Past) → ((j : Instant) → P j → (d : Bool) × IsThere d Q (part s j)) → Been P past → Been Q (parts s past)
been_part P Q s [] f a = tt
been_part P Q s (j ∷ past) f a = (by a.0.0 a.0.1, been_part P Q s past f a.1)
  where
    by : (d : Bool) → IsThere d P j → (d : Bool) × IsThere d Q (part s j)
    by true h = f j h
    by false h = (false, λ p. h (s ∷ p))

pub been_in : (P Q : Instant → Type 0) (s : Step) (past : Past) → ((j : Instant) → P j → Q (part s j)) → Been P past → Been Q (parts s past)
been_in P Q s past f a = been_part P Q s past (λ j h. (true, f j h)) a

pub been_as : (P Q : Instant → Type 0) (past : Past) → ((j : Instant) → P j → Q j) → Been P past → Been Q past
been_as P Q [] f a = tt
been_as P Q (j ∷ past) f a = ((a.0.0, by a.0.0 a.0.1), been_as P Q past f a.1)
  where
    by : (d : Bool) → IsThere d P j → IsThere d Q j
    by true h = f j h
    by false h = h

-- ---- values

absent_typed : {X : Type 0} (types : List TypeDecl) (t : Ty) (n : Bool) (v : Value) → v ≡ Absent → HasValue types t n v → X
absent_typed types t n v e h = by t (subst (λ z. HasValue types t n z) e h)
  where
    by : {X : Type 0} (t : Ty) → HasValue types t n Absent → X
    by ty.Bool h = absurd h
    by ty.Int h = absurd h
    by (ty.Enum x) h = absurd h

number_type : (types : List TypeDecl) (t : Ty) (n : Bool) (v : Value) (m : ℤ) → v ≡ I m → HasValue types t n v → t ≡ ty.Int
number_type types t n v m e h = by t (subst (λ z. HasValue types t n z) e h)
  where
    by : (t : Ty) → HasValue types t n (I m) → t ≡ ty.Int
    by ty.Bool h = absurd h
    by ty.Int h = refl
    by (ty.Enum x) h = absurd h

-- the clock of a number is there
number_there : (types : List TypeDecl) (d : Bool) (o : Option Ty) (n : Bool) (v : Value) (m : ℤ) → Fits types d o n v → v ≡ I m → IsTrue d
number_there types true o n v m h e = refl
number_there types false o n v m h e = absurd (let k : Absent ≡ I m = sym h ∙ e in cc)

numbers_made : (types : List TypeDecl) (o : Op2) (t : Ty) (e : Bool) (v : Value) (m n : ℤ) → HasValue types t e v → v ≡ numbers arithmetic_of o m n → IsFlag v ⊎ IsNumber v
numbers_made types And t e v m n h q = absent_typed types t e v q h
numbers_made types Or t e v m n h q = absent_typed types t e v q h
numbers_made types Xor t e v m n h q = absent_typed types t e v q h
numbers_made types Imp t e v m n h q = absent_typed types t e v q h
numbers_made types Eq t e v m n h q = inl (_, q)
numbers_made types Ne t e v m n h q = inl (_, q)
numbers_made types Lt t e v m n h q = inl (_, q)
numbers_made types Le t e v m n h q = inl (_, q)
numbers_made types Gt t e v m n h q = inl (_, q)
numbers_made types Ge t e v m n h q = inl (_, q)
numbers_made types Add t e v m n h q = inr (_, q)
numbers_made types Sub t e v m n h q = inr (_, q)
numbers_made types Mul t e v m n h q = inr (_, q)
numbers_made types Div t e v m n h q = inr (_, q)
numbers_made types Rem t e v m n h q = inr (_, q)

two_joined : (types : List TypeDecl) (o : Op2) (d : Bool) (t : Ty) (first : Option Ty) (e k : Bool) (v a b x y : Value) → Fits types d (Some t) e v → Fits types d first k a → v ≡ two_of o x y → a ≡ x → b ≡ y → Joined v a b
two_joined types o d t first e k v a b x y h f ev ea eb m n ia ib =
    numbers_made types o t e v m n (fits_true types d t e v (number_there types d first k a m f ia) h) (ev ∙ ap₂ (two_of o) (sym ea ∙ ia) (sym eb ∙ ib))

choose_joined : (types : List TypeDecl) (d e : Bool) (v a b : Value) → Fits types d (Some ty.Bool) e a → Joined v a b
choose_joined types d e v a b f m n ia ib = absurd (let h : ty.Bool ≡ ty.Int = number_type types ty.Bool e a m ia (fits_true types d ty.Bool e a (number_there types d (Some ty.Bool) e a m f ia) f) in cc)

after_either : (P : Value → Type 0) (u v w : Value) → P v → P w → P (after u v w)
after_either P Absent v w h k = h
after_either P Nil v w h k = k
after_either P (B b) v w h k = k
after_either P (E t c) v w h k = k
after_either P (I n) v w h k = k
after_either P Star v w h k = k

at_first_either : (P : Value → Type 0) (past : Past) (v w : Value) → P v → P w → P (at_first past v w)
at_first_either P [] v w h k = h
at_first_either P (i ∷ past) v w h k = after_either P (top i) (at_first past v w) w (at_first_either P past v w h k) k

arrow_joined : (past : Past) (v a b x y : Value) → v ≡ at_first past x y → a ≡ x → b ≡ y → Joined v a b
arrow_joined past v a b x y ev ea eb m n ia ib = inr (subst IsNumber (sym ev) (at_first_either IsNumber past x y (m, sym ea ∙ ia) (n, sym eb ∙ ib)))

newer : (types : List TypeDecl) (t : Ty) (v w : Value) → IsOf types t v → IsOf types t (or_else v w)
newer types t Nil w h = h
newer types t (B b) w h = h
newer types t (E u k) w h = h
newer types t (I n) w h = h
newer types t Star w h = h
newer types ty.Bool Absent w h = absurd h
newer types ty.Int Absent w h = absurd h
newer types (ty.Enum x) Absent w h = absurd h

-- the values of the operands of `fby` at an instant
abbrev pub Operands : List TypeDecl → Option Ty → Bool → Ty → Instant → Type 0
Operands types o n t j = (w : Bool) × (Fits types w o n (j (First ∷ [])) × Fits types w (Some t) false (j (Second ∷ [])))

abbrev Remembered : List TypeDecl → Ty → Past → Type 0
Remembered types t past = ((v w : Value) → at_first (parts First past) v w ≡ v) ⊎ IsOf types t (newest Nil (parts Second past))

remembered_before : (types : List TypeDecl) (t : Ty) (j : Instant) (past : Past) → j (First ∷ []) ≡ Absent → j (Second ∷ []) ≡ Absent → Remembered types t past → Remembered types t (j ∷ past)
remembered_before types t j past e f (inl h) = inl (λ v w. ap (λ z. after z (at_first (parts First past) v w) w) e ∙ h v w)
remembered_before types t j past e f (inr h) = inr (subst (λ z. IsOf types t (or_else z (newest Nil (parts Second past)))) (sym f) h)

remembered_here : (types : List TypeDecl) (o : Option Ty) (n : Bool) (t : Ty) (j : Instant) (past : Past) (w : Bool) → Fits types w o n (j (First ∷ [])) → Fits types w (Some t) false (j (Second ∷ [])) → Remembered types t past → Remembered types t (j ∷ past)
remembered_here types o n t j past true f h k = inr (newer types t (j (Second ∷ [])) (newest Nil (parts Second past)) (never_nil types t false (j (Second ∷ [])) refl h))
remembered_here types o n t j past false f h k = remembered_before types t j past f h k

remembered_there : (types : List TypeDecl) (o : Option Ty) (n : Bool) (t : Ty) (j : Instant) (past : Past) (d : Bool) → IsThere d (Operands types o n t) j → Remembered types t past → Remembered types t (j ∷ past)
remembered_there types o n t j past true h k = remembered_here types o n t j past h.0 h.1.0 h.1.1 k
remembered_there types o n t j past false h k = remembered_before types t j past (h (First ∷ [])) (h (Second ∷ [])) k

-- There was none before, or there is one that is remembered.
remembered : (types : List TypeDecl) (o : Option Ty) (n : Bool) (t : Ty) (past : Past) → Been (Operands types o n t) past → Remembered types t past
remembered types o n t [] a = inl (λ v w. refl)
remembered types o n t (j ∷ past) a = remembered_there types o n t j past a.0.0 a.0.1 (remembered types o n t past a.1)

fby_joined : (types : List TypeDecl) (c d : Bool) (t : Ty) (e k : Bool) (past : Past) (v a b x : Value) → Fits types d (Some t) e v → Fits types d (Some t) k a → Been (Operands types (Some t) k t) past → v ≡ (if c then at_first (parts First past) x (newest Nil (parts Second past)) else Absent) → a ≡ x → Joined v a b
fby_joined types c d t e k past v a b x h f before ev ea m n ia ib = by c ev
  where
    is_there : IsTrue d
    is_there = number_there types d (Some t) k a m f ia

    is_int' : t ≡ ty.Int
    is_int' = number_type types t k a m ia (fits_true types d t k a is_there f)

    made : v ≡ at_first (parts First past) x (newest Nil (parts Second past)) → ((v w : Value) → at_first (parts First past) v w ≡ v) ⊎ IsOf types t (newest Nil (parts Second past)) → IsFlag v ⊎ IsNumber v
    made ev (inl h) = inr (m, ev ∙ h x (newest Nil (parts Second past)) ∙ sym ea ∙ ia)
    made ev (inr h) = inr (subst IsNumber (sym ev) (at_first_either IsNumber (parts First past) x (newest Nil (parts Second past)) (m, sym ea ∙ ia) (is_int types (newest Nil (parts Second past)) (subst (λ z. IsOf types z (newest Nil (parts Second past))) is_int' h))))

    by : (c : Bool) → v ≡ (if c then at_first (parts First past) x (newest Nil (parts Second past)) else Absent) → IsFlag v ⊎ IsNumber v
    by true ev = made ev (remembered types (Some t) k t past before)
    by false ev = absent_typed types t e v ev (fits_true types d t e v is_there h)

-- ---- expressions

pub value_typed : (s : Scope) (e : Expr) (t : Ty) → type_of s e ≡ Some t → value_type s e ≡ Some t
value_typed s (constant at c) t h = h
value_typed s (variable at x) t h = h
value_typed s (last_of at x) t h = h
value_typed s (one at o a) t h = h
value_typed s (two at o a b) t h = h
value_typed s (choose at a b c) t h = h
value_typed s (pre at a) t h = h
value_typed s (fby at a b) t h = h
value_typed s (arrow at a b) t h = h
value_typed s (when_is at a c x) t h = h
value_typed s (merge at x ps) t h = h
value_typed s (call at f inlined es) t h = (call_typed (lookup s.nodes f) (types_in s es) t h).3

module _ (types : List TypeDecl) (u : Value → Value) (N : Nodes) (among : List ℕ → Option Node) (fits : List ℕ → Instant → Type 0) (own : (f : List ℕ) (i : Instant) → fits f i → Solid i) where
  module _ (s : Scope) (second : Classes) (lasts : Lasts) where
    top_fits : (there : Presence) (e : Expr) (clock : Clock) (i : Instant) → ExprFits types true fits s second there e clock i → Fits types (there clock) (value_type s e) (is_second second e && true) (top i)
    top_fits there (constant at c) clock i h = h
    top_fits there (variable at x) clock i h = h
    top_fits there (last_of at x) clock i h = h
    top_fits there (one at o b) clock i h = h.0
    top_fits there (two at o b c) clock i h = h.0
    top_fits there (choose at b c d) clock i h = h.0
    top_fits there (pre at b) clock i h = h.0
    top_fits there (fby at b c) clock i h = h.0
    top_fits there (arrow at b c) clock i h = h.0
    top_fits there (when_is at b c x) clock i h = h.0
    top_fits there (merge at x ps) clock i h = h.0
    top_fits there (call at f inlined es) clock i h = h.0

    typed_top : (there : Presence) (e : Expr) (t : Ty) (clock : Clock) (i : Instant) → type_of s e ≡ Some t → ExprFits types true fits s second there e clock i → Fits types (there clock) (Some t) (is_second second e && true) (top i)
    typed_top there e t clock i h f = subst (λ z. Fits types (there clock) z (is_second second e && true) (top i)) (value_typed s e t h) (top_fits there e clock i f)

    no_star : (there : Presence) (e : Expr) (clock : Clock) (i : Instant) → ExprFits types true fits s second there e clock i → i [] ≡ Star → ⊥
    no_star there e clock i f = never_star types (there clock) (value_type s e) (is_second second e && true) (i []) (top_fits there e clock i f)

    abbrev pub Was : Expr → Clock → Instant → Type 0
    Was e clock j = (w : Presence) × ExprFits types true fits s second w e clock j

    abbrev pub AllWere : Exprs → Clock → Instant → Type 0
    AllWere es clock j = (w : Presence) × ExprsFit types true fits s second w es clock j

    abbrev pub PartsWere : Parts → List ℕ → Clock → Instant → Type 0
    PartsWere ps x clock j = (w : Presence) × PartsFit types true fits s second w ps x clock j

    operands : (a b : Expr) (t : Ty) (clock : Clock) (j : Instant) → type_of s a ≡ Some t → type_of s b ≡ Some t → IsFalse (is_second second b) → (at : Span) → Was (fby at a b) clock j → Operands types (Some t) (is_second second a && true) t j
    operands a b t clock j ha hb n at h = (
      h.0 clock,
      (
        typed_top h.0 a t clock (part First j) ha h.1.1.0,
        subst (λ z. Fits types (h.0 clock) (Some t) (z && true) (j (Second ∷ []))) n (typed_top h.0 b t clock (part Second j) hb h.1.1.1),
      ),
    )

    module _ (there : Presence) (names last : Names) where
      abbrev Says : Expr → Clock → Given → Instant → Type 0
      Says e clock g i = (p : Place) → i p ≡ expr types (reading u) N e clock names last g i p

      mutual
        pub expr_solid : (e : Expr) (t : Ty) (clock : Clock) (g : Given) (i : Instant) → type_of s e ≡ Some t → ExprOk types among s second lasts e → ExprFits types true fits s second there e clock i → Been (Was e clock) g.past → Says e clock g i → Solid i
        expr_solid (constant a c) t clock g i h ok f was m = alone_solid i (no_star there (constant a c) clock i f) (λ s p. m (s ∷ p))
        expr_solid (variable a x) t clock g i h ok f was m = alone_solid i (no_star there (variable a x) clock i f) (λ s p. m (s ∷ p))
        expr_solid (last_of a x) t clock g i h ok f was m = alone_solid i (no_star there (last_of a x) clock i f) (λ s p. m (s ∷ p))
        expr_solid (one a o d) t clock g i h ok f was m =
            let q = one_typed (type_of_one o) (type_of s d) t h in
            one_solid i _ _ m (no_star there (one a o d) clock i f)
            (expr_solid d (type_of_one o) clock (at First g) (part First i) q.0 ok f.1 (been_in _ (Was d clock) First g.past (λ j z. (z.0, z.1.1)) was) (λ p. m (First ∷ p)))
        expr_solid (two a o d e) t clock g i h ok f was m =
            let q = two_typed o (type_of s d) (type_of s e) t h in
            two_solid i _ _ _ m (no_star there (two a o d e) clock i f)
            (two_joined types o (there clock) t (value_type s d) (is_second second (two a o d e) && true) (is_second second d && true) (i []) (i (First ∷ [])) (i (Second ∷ [])) _ _
            (typed_top there (two a o d e) t clock i h f) (top_fits there d clock (part First i) f.1.0) (m []) (m (First ∷ [])) (m (Second ∷ [])))
            (expr_solid d q.0 clock (at First g) (part First i) q.2 ok.0 f.1.0 (been_in _ (Was d clock) First g.past (λ j z. (z.0, z.1.1.0)) was) (λ p. m (First ∷ p)))
            (expr_solid e q.0 clock (at Second g) (part Second i) q.3 ok.1 f.1.1 (been_in _ (Was e clock) Second g.past (λ j z. (z.0, z.1.1.1)) was) (λ p. m (Second ∷ p)))
        expr_solid (choose a d e k) t clock g i h ok f was m =
            let q = if_typed (type_of s d) (type_of s e) (type_of s k) t h in
            three_solid i _ _ _ _ m (no_star there (choose a d e k) clock i f)
            (choose_joined types (there clock) (is_second second d && true) (i []) (i (First ∷ [])) (i (Second ∷ [])) (typed_top there d ty.Bool clock (part First i) q.0 f.1.0))
            (expr_solid d ty.Bool clock (at First g) (part First i) q.0 ok.0 f.1.0 (been_in _ (Was d clock) First g.past (λ j z. (z.0, z.1.1.0)) was) (λ p. m (First ∷ p)))
            (expr_solid e t clock (at Second g) (part Second i) q.1 ok.1.0 f.1.1.0 (been_in _ (Was e clock) Second g.past (λ j z. (z.0, z.1.1.1.0)) was) (λ p. m (Second ∷ p)))
            (expr_solid k t clock (at Third g) (part Third i) q.2 ok.1.1 f.1.1.1 (been_in _ (Was k clock) Third g.past (λ j z. (z.0, z.1.1.1.1)) was) (λ p. m (Third ∷ p)))
        expr_solid (pre a d) t clock g i h ok f was m =
            one_solid i _ _ m (no_star there (pre a d) clock i f)
            (expr_solid d t clock (at First g) (part First i) h ok.1 f.1 (been_in _ (Was d clock) First g.past (λ j z. (z.0, z.1.1)) was) (λ p. m (First ∷ p)))
        expr_solid (fby a d e) t clock g i h ok f was m =
            let q = pair_typed (type_of s d) (type_of s e) t h in
            two_solid i _ _ _ m (no_star there (fby a d e) clock i f)
            (fby_joined types (holds types clock names) (there clock) t (is_second second (fby a d e) && true) (is_second second d && true) g.past (i []) (i (First ∷ [])) (i (Second ∷ [])) _
            (typed_top there (fby a d e) t clock i h f) (typed_top there d t clock (part First i) q.0 f.1.0) (been_as (Was (fby a d e) clock) (Operands types (Some t) (is_second second d && true) t) g.past (λ j z. operands d e t clock j q.0 q.1 ok.0 a z) was) (m []) (m (First ∷ [])))
            (expr_solid d t clock (at First g) (part First i) q.0 ok.1.0 f.1.0 (been_in _ (Was d clock) First g.past (λ j z. (z.0, z.1.1.0)) was) (λ p. m (First ∷ p)))
            (expr_solid e t clock (at Second g) (part Second i) q.1 ok.1.1 f.1.1 (been_in _ (Was e clock) Second g.past (λ j z. (z.0, z.1.1.1)) was) (λ p. m (Second ∷ p)))
        expr_solid (arrow a d e) t clock g i h ok f was m =
            let q = pair_typed (type_of s d) (type_of s e) t h in
            two_solid i _ _ _ m (no_star there (arrow a d e) clock i f)
            (arrow_joined (parts First g.past) (i []) (i (First ∷ [])) (i (Second ∷ [])) _ _ (m []) (m (First ∷ [])) (m (Second ∷ [])))
            (expr_solid d t clock (at First g) (part First i) q.0 ok.0 f.1.0 (been_in _ (Was d clock) First g.past (λ j z. (z.0, z.1.1.0)) was) (λ p. m (First ∷ p)))
            (expr_solid e t clock (at Second g) (part Second i) q.1 ok.1 f.1.1 (been_in _ (Was e clock) Second g.past (λ j z. (z.0, z.1.1.1)) was) (λ p. m (Second ∷ p)))
        expr_solid (when_is a d c x) t clock g i h ok f was m =
            one_solid i _ _ m (no_star there (when_is a d c x) clock i f)
            (expr_solid d t (without clock) (at First g) (part First i) (when_typed _ _ t h) ok.1 f.1 (been_in _ (Was d (without clock)) First g.past (λ j z. (z.0, z.1.1)) was) (λ p. m (First ∷ p)))
        expr_solid (merge a x ps) t clock g i h ok f was m =
            merge_solid i _ _ m (no_star there (merge a x ps) clock i f)
            (parts_solid ps x t clock (at Args g) (part Args i) (merge_typed s (lookup s.variables x) ps t h) ok.1.1 f.1 (been_in _ (PartsWere ps x clock) Args g.past (λ j z. (z.0, z.1.1)) was) (λ p. m (Args ∷ p)))
        expr_solid (call a k inlined es) t clock g i h ok f was m =
            let q = call_typed (lookup s.nodes k) (types_in s es) t h in
            call_solid i _ _ _ m (no_star there (call a k inlined es) clock i f)
            (exprs_solid es q.0.inputs clock (at Args g) (part Args i) q.2 ok.1 f.1.0 (been_in _ (AllWere es clock) Args g.past (λ j z. (z.0, z.1.1.0)) was) (λ p. m (Args ∷ p)))
            (there_solid (holds types clock names) (there clock) _ (fits k) (part Instance i) (λ p. m (Instance ∷ p)) f.1.1 (λ m z. own k (part Instance i) z))

        pub exprs_solid : (es : Exprs) (ds : List Decl) (clock : Clock) (g : Given) (i : Instant) → IsTrue (args_fit ds (types_in s es)) → ExprsOk types among s second lasts es → ExprsFit types true fits s second there es clock i → Been (AllWere es clock) g.past → ((p : Place) → i p ≡ in_row (exprs types (reading u) N es clock names last g i) p) → Solid i
        exprs_solid no_expr ds clock g i h ok f was m = nothing_solid i m
        exprs_solid (more_exprs e es) [] clock g i h ok f was m = absurd (cc)
        exprs_solid (more_exprs e es) (d ∷ ds) clock g i h ok f was m =
            let q = arg_typed d ds (type_of s e) (types_in s es) h in
            row_solid i _ _ m
            (expr_solid e d.ty clock (at Head g) (part Head i) q.0 ok.1.0 f.0 (been_in _ (Was e clock) Head g.past (λ j z. (z.0, z.1.0)) was) (λ p. m (Head ∷ p)))
            (exprs_solid es ds clock (at Tail g) (part Tail i) q.1 ok.1.1 f.1 (been_in _ (AllWere es clock) Tail g.past (λ j z. (z.0, z.1.1)) was) (λ p. m (Tail ∷ p)))

        parts_solid : (ps : Parts) (x : List ℕ) (t : Ty) (clock : Clock) (g : Given) (i : Instant) → PartsHave s t ps → PartsOk types among s second lasts ps → PartsFit types true fits s second there ps x clock i → Been (PartsWere ps x clock) g.past → ((p : Place) → i p ≡ in_row (merged types (reading u) N ps x clock names last g i) p) → Solid i
        parts_solid no_part x t clock g i h ok f was m = nothing_solid i m
        parts_solid (more_parts c e ps) x t clock g i h ok f was m =
            row_solid i _ _ m
            (expr_solid e t ((c, x) ∷ clock) (at Head g) (part Head i) h.0 ok.1.0 f.0 (been_in _ (Was e ((c, x) ∷ clock)) Head g.past (λ j z. (z.0, z.1.0)) was) (λ p. m (Head ∷ p)))
            (parts_solid ps x t clock (at Tail g) (part Tail i) h.1 ok.1.1 f.1 (been_in _ (PartsWere ps x clock) Tail g.past (λ j z. (z.0, z.1.1)) was) (λ p. m (Tail ∷ p)))

      -- the right side of an equation
      pub equated_solid : (ys : List (List ℕ × Span)) (e : Expr) (clock : Clock) (g : Given) (i : Instant) → RightOk types among s second lasts ys e → ExprFits types true fits s second there e clock i → Been (Was e clock) g.past → Says e clock g i → Solid i
      equated_solid ys (call a k inlined es) clock g i ok f was m =
          let q = row_typed (lookup s.nodes k) (types_in s es) ok.1.0 ok.1.1.0 in
          call_solid i _ _ _ m (no_star there (call a k inlined es) clock i f)
          (exprs_solid es q.0.inputs clock (at Args g) (part Args i) q.2 ok.0.1 f.1.0 (been_in _ (AllWere es clock) Args g.past (λ j z. (z.0, z.1.1.0)) was) (λ p. m (Args ∷ p)))
          (there_solid (holds types clock names) (there clock) _ (fits k) (part Instance i) (λ p. m (Instance ∷ p)) f.1.1 (λ m z. own k (part Instance i) z))
      equated_solid ys (constant a c) clock g i ok f was m = expr_solid (constant a c) ok.1.0 clock g i ok.1.1.0 ok.0 f was m
      equated_solid ys (variable a x) clock g i ok f was m = expr_solid (variable a x) ok.1.0 clock g i ok.1.1.0 ok.0 f was m
      equated_solid ys (last_of a x) clock g i ok f was m = expr_solid (last_of a x) ok.1.0 clock g i ok.1.1.0 ok.0 f was m
      equated_solid ys (one a o b) clock g i ok f was m = expr_solid (one a o b) ok.1.0 clock g i ok.1.1.0 ok.0 f was m
      equated_solid ys (two a o b c) clock g i ok f was m = expr_solid (two a o b c) ok.1.0 clock g i ok.1.1.0 ok.0 f was m
      equated_solid ys (choose a b c d) clock g i ok f was m = expr_solid (choose a b c d) ok.1.0 clock g i ok.1.1.0 ok.0 f was m
      equated_solid ys (pre a b) clock g i ok f was m = expr_solid (pre a b) ok.1.0 clock g i ok.1.1.0 ok.0 f was m
      equated_solid ys (fby a b c) clock g i ok f was m = expr_solid (fby a b c) ok.1.0 clock g i ok.1.1.0 ok.0 f was m
      equated_solid ys (arrow a b c) clock g i ok f was m = expr_solid (arrow a b c) ok.1.0 clock g i ok.1.1.0 ok.0 f was m
      equated_solid ys (when_is a b c x) clock g i ok f was m = expr_solid (when_is a b c x) ok.1.0 clock g i ok.1.1.0 ok.0 f was m
      equated_solid ys (merge a x ps) clock g i ok f was m = expr_solid (merge a x ps) ok.1.0 clock g i ok.1.1.0 ok.0 f was m

      -- conditions
      pub tests_solid : (ts : List Trans) (g : Given) (i : Instant) → TestsOk types among s second lasts ts → TestsFit types true fits s second there ts i → Been (λ j. (w : Presence) × TestsFit types true fits s second w ts j) g.past → ((p : Place) → i p ≡ in_row (conditions types (reading u) N ts names last g i) p) → Solid i
      tests_solid [] g i ok f was m = nothing_solid i m
      tests_solid (t ∷ ts) g i ok f was m =
          row_solid i _ _ m
          (expr_solid t.cond ty.Bool [] (at Head g) (part Head i) ok.0.1.1 ok.0.0 f.0 (been_in _ (Was t.cond []) Head g.past (λ j z. (z.0, z.1.0)) was) (λ p. m (Head ∷ p)))
          (tests_solid ts (at Tail g) (part Tail i) ok.1 f.1 (been_in _ (λ j. (w : Presence) × TestsFit types true fits s second w ts j) Tail g.past (λ j z. (z.0, z.1.1)) was) (λ p. m (Tail ∷ p)))
