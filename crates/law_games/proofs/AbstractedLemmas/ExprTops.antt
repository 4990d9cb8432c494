-- What an expression says fits, where the names that it reads and its past fit.
use Rattle.std.proofs.Common.{◌≡◌, ℕ, List, [], ◌∷◌, map, refl, sym, ap, ap₂, subst, ◌∙◌}
use Rattle.std.specs.Prelude.{Bool, true, false, ◌&&◌, ◌||◌, not, IsTrue, IsFalse, if◌then◌else◌, Option, None, Some}
use Rattle.hp_base.specs.declared.ty.Ty.{Ty}
use Rattle.hp_base.specs.declared.ty.Ty.TheVariants as ty
use Rattle.hp_base.specs.declared.value.Value.{Value}
use Rattle.hp_base.specs.declared.value.Value.TheVariants.{Absent, Nil, B}
use Rattle.hp_tree.specs.declared.decl.Cons.{Cons}
use Rattle.hp_tree.specs.declared.expr.Op1.{Op1}
use Rattle.hp_tree.specs.declared.expr.Op2.{Op2}
use Rattle.hp_tree.specs.Expressions.{Expr, constant, variable, last_of, one, two, choose, pre, fby, arrow, when_is, merge, call, Exprs, no_expr, more_exprs, Parts, no_part, more_parts}
use Rattle.hp_tree.specs.Blocks.{Decl}
use Rattle.hp_tree.specs.Programs.{TypeDecl, Node}
use Rattle.hp_tree.specs.Operators.{constant_of, Reading, is_cons, if_of, one_marked, two_marked}
use Rattle.law_games.specs.Wiretyped.Kept.{ComparisonGiven}
use Rattle.hp_tree.specs.Instant.{Fresh, Named, Head, Tail, First, Second, Third, Args, Instance, Step, Place, Instant, Past, Given, at, part, parts, in_row, top, own, own_with, since, newest, at_first, nothing, Clock, holds, without}
use Rattle.hp_tree.specs.Meaning.{Names, Nodes, names_of, expr, exprs, merged, only_output}
use Rattle.law_games.specs.Wiretyped.Typed.{IsWire, AreWires}
use Rattle.hp_init.specs.Classes.{Classes, is_second}
use Rattle.law_values.specs.Valued.Judged.{Lasts, of_parts as conses, CoversType, Covers}
use Rattle.law_values.proofs.ValuedLemmas.Both.{ExprOk, ExprsOk, PartsOk}
use Rattle.law_games.specs.Abstracted.Fitting.{HasValue, Fits, Presence, value_type, first_output, IsThere, TopFits, ExprFits, ExprsFit, PartsFit, OutputsFit}
use Rattle.law_games.proofs.AbstractedLemmas.Laws.{marked_wire, true_or_false, and_left, and_right, and_both, or_left, or_right, value_of, never_nil, one_value, one_absent, two_value, if_value, is_one, covered, fits_true, true_fits, fits_false, fits_weaker, Along, none_held, EachPresence, newest_value, newest_held, first_value, at_first_is}
use Rattle.hp_tree.specs.Reaction.{Each}
use Rattle.hp_base.specs.Known.Known.{lookup}
use Rattle.hp_typing.specs.Types.{type_of, types_in, type_of_one, operand, answer, input_type, args_fit}
use Rattle.law_judged.specs.Typed.Scopes.{Scope}
use Rattle.hp_meaning.specs.Causal.Sources.{Within, NameSources, PlaceSources, below}
use Rattle.hp_meaning.specs.Causal.WhatIsRead.{of_expr, of_exprs, of_parts, at_expr, at_exprs, at_parts}
use Rattle.hp_meaning.specs.Causal.Clocked.{Standing, IsOn, ExprsOn, PartsOn}
use Rattle.law_games.specs.Abstracted.Given.{reading, ExprGiven, ExprsGiven, PartsGiven, UndefinedFits}
use Rattle.law_values.proofs.ValuedLemmas.Typed.{some_is, one_typed, two_typed, if_typed, pair_typed, when_typed, call_typed, merge_typed, PartsHave, arg_typed}

abbrev pub Closed : (Place → Type 0) → PlaceSources → PlaceSources → Type 0
Closed P k l = (p : Place) → Within P (k p) → Within P (l p)

pub along_part : (Q T : Presence → Instant → Type 0) (s : Step) (ws : List Presence) (past : Past) → ((w : Presence) (i : Instant) → Q w i → T w (part s i)) → Along Q ws past → Along T ws (parts s past)
along_part Q T s [] [] f a = tt
along_part Q T s (w ∷ ws) (i ∷ past) f a = (f w i a.0, along_part Q T s ws past f a.1)
along_part Q T s [] (i ∷ past) f a = absurd a
along_part Q T s (w ∷ ws) [] f a = absurd a

pub along_same : (Q T : Presence → Instant → Type 0) (ws : List Presence) (past : Past) → ((w : Presence) (i : Instant) → Q w i → T w i) → Along Q ws past → Along T ws past
along_same Q T [] [] f a = tt
along_same Q T (w ∷ ws) (i ∷ past) f a = (f w i a.0, along_same Q T ws past f a.1)
along_same Q T [] (i ∷ past) f a = absurd a
along_same Q T (w ∷ ws) [] f a = absurd a

-- ---- the own past of an instance or a block

own_step : (Q : Instant → Type 0) (v : Value) (i : Instant) (past : Past) → Q i → Each Q past → Each Q (own_with v i past)
own_step Q Absent i past q a = a
own_step Q (B true) i past q a = (q, tt)
own_step Q (B false) i past q a = (q, a)
own_step Q v i past q a = (q, a)

own_by : (Q : Instant → Type 0) (d : Bool) (i : Instant) (past : Past) → IsThere d Q i → Each Q (own past) → Each Q (own (i ∷ past))
own_by Q true i past q a = own_step Q (i (Fresh ∷ [])) i (own past) q a
own_by Q false i past q a = subst (λ z. Each Q (own_with z i (own past))) (sym (q (Fresh ∷ []))) a

pub own_all : (Q : Instant → Type 0) (past : Past) → Each (λ i. (d : Bool) × IsThere d Q i) past → Each Q (own past)
own_all Q [] a = tt
own_all Q (i ∷ past) a = own_by Q a.0.0 i past a.0.1 (own_all Q past a.1)

pub all_of : (A : Presence → Instant → Type 0) (Q : Instant → Type 0) (ws : List Presence) (past : Past) → ((w : Presence) (i : Instant) → A w i → Q i) → Along A ws past → Each Q past
all_of A Q [] [] f a = tt
all_of A Q (w ∷ ws) (i ∷ past) f a = (f w i a.0, all_of A Q ws past f a.1)
all_of A Q [] (i ∷ past) f a = absurd a
all_of A Q (w ∷ ws) [] f a = absurd a

none_without : (ws : List Presence) (clock : Clock) → EachPresence ws → IsTrue (none_held ws (without clock)) → IsTrue (none_held ws clock)
none_without [] clock a h = refl
none_without (w ∷ ws) clock a h =
    and_both (not (w clock)) (none_held ws clock) (by (w clock) (w (without clock)) (a.0.shorter clock) (and_left (not (w (without clock))) _ h))
    (none_without ws clock a.1 (and_right (not (w (without clock))) _ h))
  where
    by : (d e : Bool) → (IsTrue d → IsTrue e) → IsTrue (not e) → IsTrue (not d)
    by true true f k = k
    by true false f k = absurd (let z = f refl in cc)
    by false e f k = refl

pub only_absent : (os : List (List ℕ)) → only_output os nothing ≡ Absent
only_absent [] = refl
only_absent (o ∷ os) = refl

-- what is known of the nodes that may be called
pub record Callees (types : List TypeDecl) (nils : Bool) (R : Reading) (N : Nodes) (among : List ℕ → Option Node) (fits given : List ℕ → Instant → Type 0) : Type 0 where
  pub outputs : (f : List ℕ) (n : Node) → among f ≡ Some n → N.outputs f ≡ names_of n.outputs
  pub fit : (f : List ℕ) (n : Node) (inputs : List Value) (g : Given) (i : Instant) → among f ≡ Some n → AreWires types n.inputs inputs → Each (fits f) g.past → given f g.free → ((p : Place) → i p ≡ N.instant f inputs g i p) → fits f i
  pub gives : (f : List ℕ) (n : Node) (i : Instant) → among f ≡ Some n → fits f i → OutputsFit types n.outputs i

module _ (P : Place → Type 0) (types : List TypeDecl) (nils : Bool) (u : Value → Value) (N : Nodes) (among : List ℕ → Option Node) (fits given : List ℕ → Instant → Type 0) (known : Callees types nils (reading u) N among fits given) where
  abbrev R : Reading
  R = reading u

  pub only_fits : (os : List (List ℕ)) (ds : List Decl) (i j : Instant) (t : Ty) → os ≡ names_of ds → input_type ds ≡ Some t → ((p : Place) → j p ≡ i p) → OutputsFit types ds j → IsWire types t (only_output os i)
  only_fits os [] i j t e h m o = absurd (cc)
  only_fits os (d ∷ ds) i j t e h m o =
      subst (λ z. IsWire types t (only_output z i)) (sym e)
      (subst (λ z. IsWire types z (i (Named d.name ∷ []))) (some_is d.ty t h) (subst (λ z. IsWire types d.ty z) (m (Named d.name ∷ [])) o.0))

  -- the expressions of a block: its scope, the clocks, classes and last values of its names, and the values of its names at this instant and what is known of them. `ws` are the clocks that were there in its own past.
  module _ (s : Scope) (st : Standing) (second : Classes) (lasts : Lasts) (nsrc : NameSources) (names last : Names) (ws : List Presence) where
    abbrev pub first_on : Clock → Bool
    first_on clock = none_held ws clock && nils

    abbrev pub NamesKnown : Type 0
    NamesKnown = (x : List ℕ) (c : Clock) (t : Ty) → st x ≡ Some c → lookup s.variables x ≡ Some t → Within P (nsrc x) → Fits types (holds types c names) (Some t) (second x && first_on c) (names x)

    abbrev pub LastsKnown : Type 0
    LastsKnown = (x : List ℕ) (t : Ty) → IsTrue (lasts x) → lookup s.variables x ≡ Some t → IsWire types t (last x)

    pub value_typed : (e : Expr) (t : Ty) → type_of s e ≡ Some t → value_type s e ≡ Some t
    value_typed (constant a c) t h = h
    value_typed (variable a x) t h = h
    value_typed (last_of a x) t h = h
    value_typed (one a o b) t h = h
    value_typed (two a o b c) t h = h
    value_typed (choose a b c d) t h = h
    value_typed (pre a b) t h = h
    value_typed (fby a b c) t h = h
    value_typed (arrow a b c) t h = h
    value_typed (when_is a b c x) t h = h
    value_typed (merge a x ps) t h = h
    value_typed (call a f i es) t h = (call_typed (lookup s.nodes f) (types_in s es) t h).3

    pub top_of : (w : Presence) (e : Expr) (clock : Clock) (i : Instant) → ExprFits types nils fits s second w e clock i → TopFits types nils fits s second w e clock i
    top_of w (constant a c) clock i h = h
    top_of w (variable a x) clock i h = h
    top_of w (last_of a x) clock i h = h
    top_of w (one a o b) clock i h = h.0
    top_of w (two a o b c) clock i h = h.0
    top_of w (choose a b c d) clock i h = h.0
    top_of w (pre a b) clock i h = h.0
    top_of w (fby a b c) clock i h = h.0
    top_of w (arrow a b c) clock i h = h.0
    top_of w (when_is a b c x) clock i h = h.0
    top_of w (merge a x ps) clock i h = h.0
    top_of w (call a f j es) clock i h = h.0

    abbrev pub PastFits : Expr → Clock → Past → Type 0
    PastFits e clock past = Along (λ w i. ExprFits types nils fits s second w e clock i) ws past

    abbrev pub PastTop : Ty → Bool → Clock → Past → Type 0
    PastTop t d clock past = Along (λ w i. Fits types (w clock) (Some t) d (top i)) ws past

    pub past_top : (e : Expr) (t : Ty) (clock : Clock) (past : Past) → type_of s e ≡ Some t → PastFits e clock past → PastTop t (is_second second e && nils) clock past
    past_top e t clock past h a =
        along_same _ _ ws past (λ w i k. subst (λ z. Fits types (w clock) z (is_second second e && nils) (top i)) (value_typed e t h) (top_of w e clock i k)) a

    pub first_past : (e : Expr) (t : Ty) (clock : Clock) (past : Past) → type_of s e ≡ Some t → IsFalse (is_second second e) → PastFits e clock past → PastTop t false clock past
    first_past e t clock past h f a = subst (λ z. PastTop t (z && nils) clock past) f (past_top e t clock past h a)

    abbrev pub said : Expr → Clock → Given → Instant → Instant
    said e clock g now = expr types R N e clock names last g now

    abbrev pub Says : Expr → Clock → Given → Instant → Type 0
    Says e clock g now = (p : Place) → now p ≡ expr types R N e clock names last g now p

    -- the value that an expression says
    abbrev pub SaysFit : Expr → Ty → Clock → Given → Instant → Type 0
    SaysFit e t clock g now = Fits types (holds types clock names) (Some t) (is_second second e && first_on clock) (top (expr types R N e clock names last g now))

    on_value : (d : Bool) (t : Ty) (e : Bool) (v : Value) → HasValue types t e v → Fits types d (Some t) e (if d then v else Absent)
    on_value true t e v h = h
    on_value false t e v h = refl

    one_fits : (d : Bool) (o : Op1) (e : Bool) (v : Value) → Fits types d (Some (type_of_one o)) e v → Fits types d (Some (type_of_one o)) e (one_marked o v)
    one_fits true o e v h = one_value types o e e v (λ k. k) h
    one_fits false o e v h = ap (one_marked o) h ∙ one_absent types o

    two_fits : (d : Bool) (o : Op2) (t : Ty) (a b n : Bool) (gv v w : Value) → operand o (Some t) ≡ Some t → ComparisonGiven o (Some t) gv → Fits types d (Some t) (a && n) v → Fits types d (Some t) (b && n) w → Fits types d (Some (answer o)) ((a || b) && n) (two_marked o gv v w)
    two_fits true o t a b n gv v w g r h k =
        two_value types o t (a && n) (b && n) ((a || b) && n) gv v w g r
        (λ z. and_both (a || b) n (or_left a b (and_left a n z)) (and_right a n z))
        (λ z. and_both (a || b) n (or_right a b (and_left b n z)) (and_right b n z)) h k
    two_fits false o t a b n gv v w g r h k = ap₂ (two_marked o gv) h k

    if_fits : (d : Bool) (t : Ty) (a b c n : Bool) (x v w : Value) → Fits types d (Some ty.Bool) (a && n) x → Fits types d (Some t) (b && n) v → Fits types d (Some t) (c && n) w → Fits types d (Some t) ((a || (b || c)) && n) (if_of x v w)
    if_fits true t a b c n x v w g h k =
        if_value types t (a && n) (b && n) (c && n) ((a || (b || c)) && n) x v w
        (λ z. and_both (a || (b || c)) n (or_left a (b || c) (and_left a n z)) (and_right a n z))
        (λ z. and_both (a || (b || c)) n (or_right a (b || c) (or_left b c (and_left b n z))) (and_right b n z))
        (λ z. and_both (a || (b || c)) n (or_right a (b || c) (or_right b c (and_left c n z))) (and_right c n z)) g h k
    if_fits false t a b c n x v w g h k = ap (λ z. if_of z v w) g

    none_first : (b m : Bool) → IsFalse m → IsFalse (b && (m && nils))
    none_first true true f = absurd (cc)
    none_first true false f = refl
    none_first false m f = refl

    pub none_second : (b m : Bool) → IsFalse b → IsFalse (b && m)
    none_second true m f = absurd (cc)
    none_second false m f = refl

    arrow_fits : (d : Bool) (t : Ty) (clock : Clock) (c e : Bool) (v w : Value) (past : Past) → PastTop t c clock past → Fits types d (Some t) e v → (IsFalse d → w ≡ Absent) → (IsTrue d → IsFalse (none_held ws clock) → IsWire types t w) → Fits types d (Some t) e (at_first past v w)
    arrow_fits true t clock c e v w past a h x k = first_value types t clock ws past c e v w a h (k refl)
    arrow_fits false t clock c e v w past a h x k = by (none_held ws clock) (at_first_is types t clock ws past c v w a)
      where
        by : (m : Bool) → at_first past v w ≡ (if m then v else w) → at_first past v w ≡ Absent
        by true z = z ∙ h
        by false z = z ∙ x refl

    fby_fits : (d : Bool) (t : Ty) (clock : Clock) (c e : Bool) (v w : Value) (past : Past) → PastTop t c clock past → Fits types d (Some t) e v → (IsFalse (none_held ws clock) → IsWire types t w) → Fits types d (Some t) e (if d then at_first past v w else Absent)
    fby_fits true t clock c e v w past a h k = first_value types t clock ws past c e v w a h k
    fby_fits false t clock c e v w past a h k = refl

    when_fits : (c : Bool) (d : Bool) (t : Ty) (e f : Bool) (v : Value) → (IsTrue e → IsTrue f) → Fits types d (Some t) e v → Fits types (c && d) (Some t) f (if c then v else Absent)
    when_fits true d t e f v g h = fits_weaker types d t e f v g h
    when_fits false d t e f v g h = refl

    -- ---- merge

    abbrev pub chosen : Parts → Value → List Instant → Value
    chosen no_part v is = Absent
    chosen (more_parts c e ps) v [] = Absent
    chosen (more_parts c e ps) v (i ∷ is) = if is_cons types v c then top i else chosen ps v is

    chosen_absent : (ps : Parts) (is : List Instant) → chosen ps Absent is ≡ Absent
    chosen_absent no_part is = refl
    chosen_absent (more_parts c e ps) [] = refl
    chosen_absent (more_parts c e ps) (i ∷ is) = chosen_absent ps is

    part_chosen : (d m : Bool) (t : Ty) (e : Bool) (v w : Value) → IsTrue m → IsTrue (d || e) → Fits types (d && m) (Some t) false v → (IsTrue e → IsWire types t w) → IsWire types t (if d then v else w)
    part_chosen true m t e v w x h k f = never_nil types t false v refl (fits_true types m t false v x k)
    part_chosen false m t e v w x h k f = f h

    merge_fits : (m : Bool) (nt t : Ty) (e : Bool) (x v : Value) (given : List Cons) → Fits types m (Some nt) false x → Covers types nt given → (IsTrue m → IsTrue (is_one types given x) → IsWire types t v) → (x ≡ Absent → v ≡ Absent) → Fits types m (Some t) e v
    merge_fits true nt t e x v given h c f g = value_of types t e v (f refl (covered types nt x given (never_nil types nt false x refl h) c))
    merge_fits false nt t e x v given h c f g = g h

    -- ---- calls

    pub instance_of : (f : List ℕ) (n : Node) (d : Bool) (vs : List Value) (g : Given) (now : Instant) → IsTrue d → among f ≡ Some n → AreWires types n.inputs vs → Each (fits f) (own g.past) → given f g.free → ((p : Place) → now p ≡ (if d then N.instant f vs (since false g) now else nothing) p) → fits f now
    instance_of f n true vs g now x e v h k m = known.fit f n vs (since false g) now e v h k m
    instance_of f n false vs g now x e v h k m = absurd (cc)

    pub absent_output : (d : Bool) (os : List (List ℕ)) (i : Instant) → IsFalse d → only_output os (if d then i else nothing) ≡ Absent
    absent_output true os i h = absurd (cc)
    absent_output false os i h = only_absent os

    pub past_of_instance : (f : List ℕ) (clock : Clock) (past : Past) → Along (λ w i. IsThere (w clock) (fits f) (part Instance i)) ws past → Each (fits f) (own (parts Instance past))
    past_of_instance f clock past a = own_all (fits f) (parts Instance past) (each ws past a)
      where
        each : (ws : List Presence) (past : Past) → Along (λ w i. IsThere (w clock) (fits f) (part Instance i)) ws past → Each (λ i. (d : Bool) × IsThere d (fits f) i) (parts Instance past)
        each [] [] a = tt
        each (w ∷ ws) (i ∷ past) a = ((w clock, a.0), each ws past a.1)
        each [] (i ∷ past) a = absurd a
        each (w ∷ ws) [] a = absurd a

    module _ (nk : NamesKnown) (lk : LastsKnown) (wk : EachPresence ws) where
      -- a name that is First, on its clock
      name_first : (x : List ℕ) (c : Clock) (o : Option Ty) (t : Ty) → o ≡ Some t → lookup s.variables x ≡ o → IsFalse (second x) → st x ≡ Some c → Within P (nsrc x) → Fits types (holds types c names) (Some t) false (names x)
      name_first x c o t e l f q h = subst (λ z. Fits types (holds types c names) (Some t) (z && first_on c) (names x)) f (nk x c t q (l ∙ e) h)

      merge_by : (x : List ℕ) (o : Option Ty) (t : Ty) (e : Bool) (clock : Clock) (given : List Cons) (v : Value) → lookup s.variables x ≡ o → CoversType types o given → IsFalse (second x) → st x ≡ Some clock → Within P (nsrc x) → (IsTrue (holds types clock names) → IsTrue (is_one types given (names x)) → IsWire types t v) → (names x ≡ Absent → v ≡ Absent) → Fits types (holds types clock names) (Some t) e v
      merge_by x None t e clock given v l c f q h good none = absurd c
      merge_by x (Some nt) t e clock given v l c f q h good none =
          merge_fits (holds types clock names) nt t e (names x) v given (name_first x clock (Some nt) nt refl l f q h) c good none

      mutual
        pub expr_top : (e : Expr) (t : Ty) (clock : Clock) (k : PlaceSources) (g : Given) (now : Instant) → type_of s e ≡ Some t → IsOn st e clock → ExprOk types among s second lasts e → ExprGiven types nils u given s e g.free → PastFits e clock g.past → Says e clock g now → Closed P k (at_expr e clock nsrc k) → Within P (of_expr e nsrc k) → SaysFit e t clock g now
        expr_top (constant a c) t clock k g now e_ty on ok gv past m C h = on_value (holds types clock names) t false _ (value_of types t false _ (marked_wire types t (constant_of types c) (ok t e_ty)))
        expr_top (variable a x) t clock k g now e_ty on ok gv past m C h = nk x clock t on e_ty h
        expr_top (last_of a x) t clock k g now e_ty on ok gv past m C h =
            subst (λ z. Fits types (holds types z names) (Some t) false (last x)) (sym on) (value_of types t false (last x) (lk x t ok e_ty))
        expr_top (one a o d) t clock k g now e_ty on ok gv past m C h =
            let q = one_typed (type_of_one o) (type_of s d) t e_ty in
            subst (λ z. Fits types (holds types clock names) (Some z) (is_second second d && first_on clock) (top (said (one a o d) clock g now))) q.1
            (one_fits (holds types clock names) o (is_second second d && first_on clock) (top (said d clock (at First g) (part First now)))
            (expr_top d (type_of_one o) clock (below First k) (at First g) (part First now) q.0 on ok gv (along_part _ _ First ws g.past (λ w i z. z.1) past) (λ p. m (First ∷ p)) (λ p. C (First ∷ p)) h))
        expr_top (two a o d e) t clock k g now e_ty on ok gv past m C h =
            let q = two_typed o (type_of s d) (type_of s e) t e_ty in
            subst (λ z. Fits types (holds types clock names) (Some z) (is_second second (two a o d e) && first_on clock) (top (said (two a o d e) clock g now))) q.4
            (two_fits (holds types clock names) o q.0 (is_second second d) (is_second second e) (first_on clock) (top g.free) (top (said d clock (at First g) (part First now))) (top (said e clock (at Second g) (part Second now))) q.1 (subst (λ z. ComparisonGiven o z (top g.free)) q.2 gv.0)
            (expr_top d q.0 clock (below First k) (at First g) (part First now) q.2 on.0 ok.0 gv.1.0 (along_part _ _ First ws g.past (λ w i z. z.1.0) past) (λ p. m (First ∷ p)) (λ p. C (First ∷ p)) h.0)
            (expr_top e q.0 clock (below Second k) (at Second g) (part Second now) q.3 on.1 ok.1 gv.1.1 (along_part _ _ Second ws g.past (λ w i z. z.1.1) past) (λ p. m (Second ∷ p)) (λ p. C (Second ∷ p)) h.1))
        expr_top (choose a d e f) t clock k g now e_ty on ok gv past m C h =
            let q = if_typed (type_of s d) (type_of s e) (type_of s f) t e_ty in
            if_fits (holds types clock names) t (is_second second d) (is_second second e) (is_second second f) (first_on clock) (top (said d clock (at First g) (part First now))) (top (said e clock (at Second g) (part Second now))) (top (said f clock (at Third g) (part Third now)))
            (expr_top d ty.Bool clock (below First k) (at First g) (part First now) q.0 on.0 ok.0 gv.0 (along_part _ _ First ws g.past (λ w i z. z.1.0) past) (λ p. m (First ∷ p)) (λ p. C (First ∷ p)) h.0)
            (expr_top e t clock (below Second k) (at Second g) (part Second now) q.1 on.1 ok.1.0 gv.1.0 (along_part _ _ Second ws g.past (λ w i z. z.1.1.0) past) (λ p. m (Second ∷ p)) (λ p. C (Second ∷ p)) h.1.0)
            (expr_top f t clock (below Third k) (at Third g) (part Third now) q.2 on.2 ok.1.1 gv.1.1 (along_part _ _ Third ws g.past (λ w i z. z.1.1.1) past) (λ p. m (Third ∷ p)) (λ p. C (Third ∷ p)) h.1.1)
        expr_top (pre a d) t clock k g now e_ty on ok gv past m C h =
            on_value (holds types clock names) t (first_on clock) _
            (newest_value types t clock ws (parts First g.past) nils (u (top g.free)) (first_past d t clock (parts First g.past) e_ty ok.0 (along_part _ _ First ws g.past (λ w i z. z.1) past))
            (subst (λ z. UndefinedFits types nils u given z (top g.free)) e_ty gv.0))
        expr_top (fby a d e) t clock k g now e_ty on ok gv past m C h =
            let q = pair_typed (type_of s d) (type_of s e) t e_ty in
            let before = along_part _ (λ w i. ExprFits types nils fits s second w d clock i) First ws g.past (λ w i z. z.1.0) past in
            let behind = along_part _ (λ w i. ExprFits types nils fits s second w e clock i) Second ws g.past (λ w i z. z.1.1) past in
            fby_fits (holds types clock names) t clock (is_second second d && nils) (is_second second d && first_on clock) (top (said d clock (at First g) (part First now))) (newest Nil (parts Second g.past)) (parts First g.past)
            (past_top d t clock (parts First g.past) q.0 before)
            (expr_top d t clock (below First k) (at First g) (part First now) q.0 on.0 ok.1.0 gv.0 before (λ p. m (First ∷ p)) (λ p. C (First ∷ p)) h)
            (newest_held types t clock ws (parts Second g.past) Nil (first_past e t clock (parts Second g.past) q.1 ok.0 behind))
        expr_top (arrow a d e) t clock k g now e_ty on ok gv past m C h =
            let q = pair_typed (type_of s d) (type_of s e) t e_ty in
            let before = along_part _ (λ w i. ExprFits types nils fits s second w d clock i) First ws g.past (λ w i z. z.1.0) past in
            let v = expr_top e t clock (below Second k) (at Second g) (part Second now) q.1 on.1 ok.1 gv.1 (along_part _ _ Second ws g.past (λ w i z. z.1.1) past) (λ p. m (Second ∷ p)) (λ p. C (Second ∷ p)) h.1 in
            arrow_fits (holds types clock names) t clock (is_second second d && nils) (is_second second d && first_on clock) (top (said d clock (at First g) (part First now))) (top (said e clock (at Second g) (part Second now))) (parts First g.past)
            (past_top d t clock (parts First g.past) q.0 before)
            (expr_top d t clock (below First k) (at First g) (part First now) q.0 on.0 ok.0 gv.0 before (λ p. m (First ∷ p)) (λ p. C (First ∷ p)) h.0)
            (λ f. fits_false types (holds types clock names) (Some t) _ _ f v)
            (λ x f. never_nil types t _ _ (none_first (is_second second e) (none_held ws clock) f) (fits_true types (holds types clock names) t _ _ x v))
        expr_top (when_is a d c x) t clock k g now e_ty on ok gv past m C h =
            let inner = without clock in
            subst (λ z. Fits types (holds types z names) (Some t) (is_second second d && first_on clock) (top (said (when_is a d c x) clock g now))) (sym on.0)
            (when_fits (is_cons types (names x) c) (holds types inner names) t (is_second second d && first_on inner) (is_second second d && first_on clock) _
            (λ z. and_both (is_second second d) (first_on clock) (and_left (is_second second d) _ z)
            (and_both (none_held ws clock) nils (none_without ws clock wk (and_left (none_held ws inner) nils (and_right (is_second second d) _ z))) (and_right (none_held ws inner) nils (and_right (is_second second d) _ z))))
            (expr_top d t inner (below First k) (at First g) (part First now) (when_typed _ _ t e_ty) on.2 ok.1 gv (along_part _ _ First ws g.past (λ w i z. z.1) past) (λ p. m (First ∷ p)) (λ p. C (First ∷ p)) h.1))
        expr_top (merge a x ps) t clock k g now e_ty on ok gv past m C h =
            merge_by x (lookup s.variables x) t false clock (conses ps) _ refl ok.1.0 ok.0 on.0 h.0
            (λ hm ho. parts_top ps x t clock (below Args k) (at Args g) (part Args now) (merge_typed s (lookup s.variables x) ps t e_ty) on.1 ok.1.1 gv (along_part _ _ Args ws g.past (λ w i z. z.1) past) (λ p. m (Args ∷ p)) (λ p. C (Args ∷ p)) h.1 hm ho)
            (λ e. ap (λ z. chosen ps z (merged types R N ps x clock names last (at Args g) (part Args now))) e ∙ chosen_absent ps (merged types R N ps x clock names last (at Args g) (part Args now)))
        expr_top (call a f i es) t clock k g now e_ty on ok gv past m C h =
            let q = call_typed (lookup s.nodes f) (types_in s es) t e_ty in
            let e = sym ok.0 ∙ q.1 in
            let d = C [] h in
            true_or_false (holds types clock names)
            (λ x. true_fits types (holds types clock names) t false _ x
            (value_of types t false _
            (only_fits (N.outputs f) q.0.outputs _ (part Instance now) t (known.outputs f q.0 e) (subst (λ z. first_output z ≡ Some t) q.1 q.3)
            (λ p. m (Instance ∷ p))
            (known.gives f q.0 (part Instance now) e
            (instance_of f q.0 (holds types clock names) (map top (exprs types R N es clock names last (at Args g) (part Args now))) (at Instance g) (part Instance now) x e
            (exprs_tops es q.0.inputs clock (below Args k) (at Args g) (part Args now) x q.2 on ok.1 gv.0 (along_part _ _ Args ws g.past (λ w j z. z.1.0) past) (λ p. m (Args ∷ p)) (λ p. C (Args ∷ p)) d.1)
            (past_of_instance f clock g.past (along_same _ _ ws g.past (λ w j z. z.1.1) past)) gv.1 (λ p. m (Instance ∷ p)))))))
            (λ x. subst (λ z. Fits types z (Some t) false (top (said (call a f i es) clock g now))) (sym x) (absent_output (holds types clock names) (N.outputs f) _ x))

        pub exprs_tops : (es : Exprs) (ds : List Decl) (clock : Clock) (k : PlaceSources) (g : Given) (now : Instant) → IsTrue (holds types clock names) → IsTrue (args_fit ds (types_in s es)) → ExprsOn st es clock → ExprsOk types among s second lasts es → ExprsGiven types nils u given s es g.free → Along (λ w i. ExprsFit types nils fits s second w es clock i) ws g.past → ((p : Place) → now p ≡ in_row (exprs types R N es clock names last g now) p) → Closed P k (at_exprs es clock nsrc k) → Within P (of_exprs es nsrc k) → AreWires types ds (map top (exprs types R N es clock names last g now))
        exprs_tops no_expr [] clock k g now x e_ty on ok gv past m C h = tt
        exprs_tops no_expr (d ∷ ds) clock k g now x e_ty on ok gv past m C h = absurd (cc)
        exprs_tops (more_exprs e es) [] clock k g now x e_ty on ok gv past m C h = absurd (cc)
        exprs_tops (more_exprs e es) (d ∷ ds) clock k g now x e_ty on ok gv past m C h =
            let q = arg_typed d ds (type_of s e) (types_in s es) e_ty in
            let v = expr_top e d.ty clock (below Head k) (at Head g) (part Head now) q.0 on.0 ok.1.0 gv.0 (along_part _ _ Head ws g.past (λ w i z. z.0) past) (λ p. m (Head ∷ p)) (λ p. C (Head ∷ p)) h.0 in (
              never_nil types d.ty (is_second second e && first_on clock) _ (none_second (is_second second e) (first_on clock) ok.0) (fits_true types (holds types clock names) d.ty _ _ x v),
              exprs_tops es ds clock (below Tail k) (at Tail g) (part Tail now) x q.1 on.1 ok.1.1 gv.1 (along_part _ _ Tail ws g.past (λ w i z. z.1) past) (λ p. m (Tail ∷ p)) (λ p. C (Tail ∷ p)) h.1,
            )

        pub parts_top : (ps : Parts) (x : List ℕ) (t : Ty) (clock : Clock) (k : PlaceSources) (g : Given) (now : Instant) → PartsHave s t ps → PartsOn st x ps clock → PartsOk types among s second lasts ps → PartsGiven types nils u given s ps g.free → Along (λ w i. PartsFit types nils fits s second w ps x clock i) ws g.past → ((p : Place) → now p ≡ in_row (merged types R N ps x clock names last g now) p) → Closed P k (at_parts ps x clock nsrc k) → Within P (of_parts ps nsrc k) → IsTrue (holds types clock names) → IsTrue (is_one types (conses ps) (names x)) → IsWire types t (chosen ps (names x) (merged types R N ps x clock names last g now))
        parts_top no_part x t clock k g now e_ty on ok gv past m C h hm ho = absurd (cc)
        parts_top (more_parts c e ps) x t clock k g now e_ty on ok gv past m C h hm ho =
            part_chosen (is_cons types (names x) c) (holds types clock names) t (is_one types (conses ps) (names x)) (top (said e ((c, x) ∷ clock) (at Head g) (part Head now))) _ hm ho
            (subst (λ z. Fits types (is_cons types (names x) c && holds types clock names) (Some t) (z && first_on ((c, x) ∷ clock)) (top (said e ((c, x) ∷ clock) (at Head g) (part Head now)))) ok.0
            (expr_top e t ((c, x) ∷ clock) (below Head k) (at Head g) (part Head now) e_ty.0 on.0 ok.1.0 gv.0 (along_part _ _ Head ws g.past (λ w i z. z.0) past) (λ p. m (Head ∷ p)) (λ p. C (Head ∷ p)) h.0))
            (λ z. parts_top ps x t clock (below Tail k) (at Tail g) (part Tail now) e_ty.1 on.1 ok.1.1 gv.1 (along_part _ _ Tail ws g.past (λ w i z. z.1) past) (λ p. m (Tail ∷ p)) (λ p. C (Tail ∷ p)) h.1 hm z)
