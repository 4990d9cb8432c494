-- An expression of the tree meets its flat equations.
use Rattle.std.proofs.Common.{◌≡◌, ℕ, List, [], ◌∷◌, refl, sym, ap, ap₂, ◌∙◌}
use Rattle.std.specs.Prelude.{⊤, Bool, true, false, if◌then◌else◌, IsTrue, IsFalse, is_some, ◌&&◌, Option, None, Some}
use Rattle.hp_base.specs.declared.ty.Const.{Const}
use Rattle.hp_base.specs.declared.value.Value.{Value}
use Rattle.hp_base.specs.declared.value.Value.TheVariants.{Absent, Nil, B, E, I, Star}
use Rattle.hp_tree.specs.Expressions.{Expr, constant, variable, last_of, one, two, choose, pre, fby, arrow, when_is, merge, call, Exprs, no_expr, more_exprs, Parts, no_part, more_parts}
use Rattle.hp_tree.specs.Programs.{TypeDecl}
use Rattle.hp_tree.specs.Operators.{filled, constant_of, is_cons, one_of, two_of, if_of}
use Rattle.hp_tree.specs.Instant.{Named, Head, Tail, First, Second, Third, Args, Instance, Step, Place, Instant, Given, at, part, parts, top, newest, at_first, in_row, Clock, holds as tree_holds, without}
use Rattle.hp_tree.specs.Meaning.{Names, Nodes, expr, exprs, merged, only_output}
use Rattle.hp_obc.specs.declared.command.ObcOp.TheVariants.{Copy, Mux}
use Rattle.law_equations.specs.Flattened.Flat.{name, value, Right, Op, Register, Now, Behaviours, holds, recent, mux, held, right_value, said, Says}
use Rattle.law_equations.specs.Flattened.Flatten.{obc_one, obc_two, FlatName, At, Free, Nowhere, IsFirst, Held, When, steps, ats, Rows, row, Plan, plan_alone, plan_one, plan_two, plan_three, plan_row, plan_call, plan_of_two, unless, constant_in, fby_row, Prefix, below, Scope, under, args_at, parts_at, only_row, output_row, flat_expr, flat_exprs, flat_parts}
use Rattle.law_equations.specs.Flattened.Timely.{IsValue, Fits, Along, Stands, Timely, only_stands, demand, expr_clocks, exprs_clocks, parts_clocks}
use Rattle.law_equations.specs.Flattened.Lifted.{uncontrolled}
use Rattle.law_equations.proofs.FlattenedLemmas.OperatorLaws.{one_case, two_case}
use Rattle.law_equations.proofs.FlattenedLemmas.PastLaws.{seen, view, parts_view, along, Finer, newest_recent, first_recent, fby_recent, constant_fby}

-- ---- tests

pub and_true : (a b : Bool) → IsTrue (a && b) → IsTrue a × IsTrue b
and_true true true e = (refl, refl)
and_true true false e = cc
and_true false true e = cc
and_true false false e = cc

pub both_true : (a b : Bool) → IsTrue a → IsTrue b → IsTrue (a && b)
both_true true true e f = refl
both_true true false e f = cc
both_true false b e f = cc

pub if_true : {A : Type 0} (d : Bool) (x y : A) → IsTrue d → (if d then x else y) ≡ x
if_true true x y e = refl
if_true false x y e = cc

pub if_false : {A : Type 0} (d : Bool) (x y : A) → IsFalse d → (if d then x else y) ≡ y
if_false true x y e = cc
if_false false x y e = refl

pub decide : {X : Type 0} (d : Bool) → (IsTrue d → X) → (IsFalse d → X) → X
decide true f g = f refl
decide false f g = g refl

not_value : (v : Value) → v ≡ Absent → IsValue v → ⊥
not_value Absent e h = h
not_value Nil e h = h
not_value (B b) e h = cc
not_value (E s t) e h = cc
not_value (I n) e h = cc
not_value Star e h = cc

fits_true : (d : Bool) (v : Value) → IsTrue d → Fits d v → IsValue v
fits_true true v e h = h
fits_true false v e h = cc

-- where a condition chooses a value, no operand is Nil
if_value : (b : Bool) (v w : Value) → IsValue (if_of (B b) v w) → if_of (B b) v w ≡ mux (B b) v w
if_value b Nil w h = absurd h
if_value b v Nil h = absurd h
if_value true v w h = refl
if_value false v w h = refl

if_mux : (c v w : Value) → IsValue (if_of c v w) → if_of c v w ≡ mux c v w
if_mux Absent v w h = refl
if_mux Nil v w h = absurd h
if_mux (B b) v w h = if_value b v w h
if_mux (E s t) v w h = refl
if_mux (I n) v w h = refl
if_mux Star v w h = refl

choose_case : (x u c v w : Value) → x ≡ u → u ≡ if_of c v w → IsValue x → x ≡ mux c v w
choose_case x u c v w e f h = e ∙ f ∙ if_mux c v w (is_value x (if_of c v w) (e ∙ f) h)
  where
    is_value : (x y : Value) → x ≡ y → IsValue x → IsValue y
    is_value x Absent e h = absurd (not_value x e h)
    is_value Nil Nil e h = h
    is_value Absent Nil e h = absurd h
    is_value (B b) Nil e h = cc
    is_value (E s t) Nil e h = cc
    is_value (I n) Nil e h = cc
    is_value Star Nil e h = cc
    is_value x (B b) e h = tt
    is_value x (E s t) e h = tt
    is_value x (I n) e h = tt
    is_value x Star e h = tt

when_case : (d : Bool) (v u w : Value) → v ≡ (if d then u else Absent) → IsValue v → u ≡ w → v ≡ w
when_case true v u w e h f = e ∙ f
when_case false v u w e h f = absurd (not_value v e h)

pub fits_false_at : (d : Bool) (v : Value) → IsFalse d → Fits d v → v ≡ Absent
fits_false_at true v e h = cc
fits_false_at false v e h = h

one_row : (d : Bool) (v u : Value) → (IsTrue d → v ≡ u) → Fits d v → v ≡ (if d then u else Absent)
one_row true v u f h = f refl
one_row false v u f h = h

pub pick : (d b : Bool) (u u' w w' : Value) → IsTrue b → u ≡ u' → w ≡ w' → (if d then u else w) ≡ (if d && b then u' else w')
pick true true u u' w w' h e f = e
pick true false u u' w w' h e f = cc
pick false b u u' w w' h e f = f

pub skip : (d b : Bool) (u w : Value) → IsFalse b → (if d && b then u else w) ≡ w
skip true true u w h = cc
skip true false u w h = refl
skip false b u w h = refl

-- ---- what is known of a part at an instant

-- what a part says of its places, at a flat instant
abbrev pub Part : Type 0
Part = Now FlatName → Given → Instant → Instant

abbrev pub given : Prefix → When → List Place → List (Now FlatName) → Now FlatName → Given
given here ck rs G i = record { past = view here (recent (steps ck) (ats rs) G i); free = λ p. i (Free (here p)) }

pub at_given : (s : Step) (here : Prefix) (ck : When) (rs : List Place) (G : List (Now FlatName)) (i : Now FlatName) → at s (given here ck rs G i) ≡ given (below s here) ck rs G i
at_given s here ck rs G i = ap (λ q. record { past = q; free = λ p. i (Free (here (s ∷ p))) }) (parts_view s here (recent (steps ck) (ats rs) G i))

-- it meets what is said of it where its clock is there, and else has no value
abbrev pub Live : Part → Prefix → When → List Place → List (Now FlatName) → Now FlatName → Type 0
Live says here ck rs G i =
    (IsTrue (holds (steps ck) i) → (p : Place) → i (At (here p)) ≡ says i (given here ck rs G i) (seen here i) p)
    × (IsFalse (holds (steps ck) i) → (p : Place) → i (At (here p)) ≡ Absent)

pub deep : (s : Step) (says sub : Part) (here : Prefix) (ck : When) (rs : List Place) → ((i : Now FlatName) (g : Given) (now : Instant) (p : Place) → says i g now (s ∷ p) ≡ sub i (at s g) (part s now) p) → (G : List (Now FlatName)) (i : Now FlatName) → Live says here ck rs G i → Live sub (below s here) ck rs G i
deep s says sub here ck rs e G i m = (
  (λ t p. m.0 t (s ∷ p) ∙ e i (given here ck rs G i) (seen here i) p ∙ ap (λ g. sub i g (seen (below s here) i) p) (at_given s here ck rs G i)),
  λ f p. m.1 f (s ∷ p),
)

pub deeper : (s : Step) (says sub : Part) (here : Prefix) (ck : When) (rs : List Place) → ((i : Now FlatName) (g : Given) (now : Instant) (p : Place) → says i g now (s ∷ p) ≡ sub i (at s g) (part s now) p) → (L : List (Now FlatName)) → Along (Live says here ck rs) L → Along (Live sub (below s here) ck rs) L
deeper s says sub here ck rs e L l =
    along (Live says here ck rs) (Live sub (below s here) ck rs) (λ G i a m. deep s says sub here ck rs e G i m) L l

-- what is remembered at an instant
abbrev pub Remembers : List (Now FlatName) → Now FlatName → Type 0
Remembers G i =
    (i Nowhere ≡ Absent)
    × ((ck : When) (rs : List Place) → IsTrue (holds (steps ck) i) → i (IsFirst ck rs) ≡ held (B true) (value (B false)) (recent (steps ck) (ats rs) G i))
    × ((v : Value) (p : Place) (ck : When) (rs : List Place) → IsTrue (holds (steps ck) i) → i (Held v p ck rs) ≡ held v (name (At p)) (recent (steps ck) (ats rs) G i))

abbrev pub Filled : (Place → Value) → Prefix → Now FlatName → Type 0
Filled fill here j = (p : Place) → IsTrue (uncontrolled p) → j (Free (here p)) ≡ fill (here p)

module _ (types : List TypeDecl) (N : Nodes) (does : Behaviours) (fill : Place → Value) where
  pub under_true : (sc : Scope) (clock : Clock) (ck : When) (i : Now FlatName) → IsTrue (holds (steps (under types sc clock ck)) i) → IsTrue (tree_holds types clock (λ x. i (sc x))) × IsTrue (holds (steps ck) i)
  under_true sc [] ck i t = (refl, t)
  under_true sc (step ∷ clock) ck i t =
      let m = and_true _ (holds (steps (under types sc clock ck)) i) t in
      let n = under_true sc clock ck i m.1 in
      (both_true _ _ m.0 n.0, n.1)

  -- the places of a plan hold what is said of them
  abbrev pub Good : Plan Rows → Prefix → List (Now FlatName) → Now FlatName → Type 0
  Good plan here G j = (p : Place) → Says does (plan p) G j (j (At (here p)))

  good_alone : (rows : Rows) (here : Prefix) (G : List (Now FlatName)) (j : Now FlatName) → j (At (here [])) ≡ said does rows G j → Good (plan_alone rows) here G j
  good_alone rows here G j h [] = h
  good_alone rows here G j h (_ ∷ p) = tt

  good_one : (rows : Rows) (a : Plan Rows) (here : Prefix) (G : List (Now FlatName)) (j : Now FlatName) → j (At (here [])) ≡ said does rows G j → Good a (below First here) G j → Good (plan_one rows a) here G j
  good_one rows a here G j h f [] = h
  good_one rows a here G j h f (First ∷ p) = f p
  good_one rows a here G j h f p = tt

  pub good_unless : (d : Bool) (a : Plan Rows) (here : Prefix) (G : List (Now FlatName)) (j : Now FlatName) → Good a here G j → Good (unless d a) here G j
  good_unless true a here G j f p = tt
  good_unless false a here G j f p = f p

  good_two : (rows : Rows) (a b : Plan Rows) (here : Prefix) (G : List (Now FlatName)) (j : Now FlatName) → j (At (here [])) ≡ said does rows G j → Good a (below First here) G j → Good b (below Second here) G j → Good (plan_two rows a b) here G j
  good_two rows a b here G j h f g [] = h
  good_two rows a b here G j h f g (First ∷ p) = f p
  good_two rows a b here G j h f g (Second ∷ p) = g p
  good_two rows a b here G j h f g p = tt

  good_three : (rows : Rows) (a b c : Plan Rows) (here : Prefix) (G : List (Now FlatName)) (j : Now FlatName) → j (At (here [])) ≡ said does rows G j → Good a (below First here) G j → Good b (below Second here) G j → Good c (below Third here) G j → Good (plan_three rows a b c) here G j
  good_three rows a b c here G j h f g k [] = h
  good_three rows a b c here G j h f g k (First ∷ p) = f p
  good_three rows a b c here G j h f g k (Second ∷ p) = g p
  good_three rows a b c here G j h f g k (Third ∷ p) = k p
  good_three rows a b c here G j h f g k p = tt

  good_row : (rows : Rows) (a : Plan Rows) (here : Prefix) (G : List (Now FlatName)) (j : Now FlatName) → j (At (here [])) ≡ said does rows G j → Good a (below Args here) G j → Good (plan_row rows a) here G j
  good_row rows a here G j h f [] = h
  good_row rows a here G j h f (Args ∷ p) = f p
  good_row rows a here G j h f p = tt

  good_call : (rows : Option Rows) (a : Plan Rows) (outs : List ℕ → Option Rows) (here : Prefix) (G : List (Now FlatName)) (j : Now FlatName) → Says does rows G j (j (At (here []))) → Good a (below Args here) G j → ((x : List ℕ) → Says does (outs x) G j (j (At (here (Instance ∷ Named x ∷ []))))) → Good (plan_call rows a outs) here G j
  good_call rows a outs here G j h f o [] = h
  good_call rows a outs here G j h f o (Args ∷ p) = f p
  good_call rows a outs here G j h f o (Instance ∷ Named x ∷ []) = o x
  good_call rows a outs here G j h f o p = tt

  pub good_of_two : (a b : Plan Rows) (here : Prefix) (G : List (Now FlatName)) (j : Now FlatName) → Good a (below Head here) G j → Good b (below Tail here) G j → Good (plan_of_two a b) here G j
  good_of_two a b here G j f g (Head ∷ p) = f p
  good_of_two a b here G j f g (Tail ∷ p) = g p
  good_of_two a b here G j f g p = tt

  -- ---- what parts say

  abbrev pub expr_part : Expr → Clock → Scope → Scope → Part
  expr_part e clock sc lsc i g now = expr types filled N e clock (λ x. i (sc x)) (λ x. i (lsc x)) g now

  abbrev pub exprs_part : Exprs → Clock → Scope → Scope → Part
  exprs_part es clock sc lsc i g now = in_row (exprs types filled N es clock (λ x. i (sc x)) (λ x. i (lsc x)) g now)

  abbrev pub parts_part : Parts → List ℕ → Clock → Scope → Scope → Part
  parts_part ps x clock sc lsc i g now = in_row (merged types filled N ps x clock (λ x. i (sc x)) (λ x. i (lsc x)) g now)

  only_stand : (os : List (List ℕ)) (w : When) (a : FlatName) (L : List (Now FlatName)) → Stands (Some w) a L → Stands (only_stands os w) a L
  only_stand [] w a L s = tt
  only_stand (o ∷ os) w a L s = s

  -- an operand that is remembered is as timely as any other
  pub undemand : (e : Expr) (clock : Clock) (sc : Scope) (ck : When) (here : Prefix) (L : List (Now FlatName)) → Timely (demand (under types sc clock ck) (expr_clocks types N.outputs e clock sc ck)) here L → Timely (expr_clocks types N.outputs e clock sc ck) here L
  undemand (constant s c) clock sc ck here L tm [] = tm []
  undemand (variable s x) clock sc ck here L tm [] = tm []
  undemand (last_of s x) clock sc ck here L tm [] = tm []
  undemand (one s o a) clock sc ck here L tm [] = tm []
  undemand (two s o a b) clock sc ck here L tm [] = tm []
  undemand (choose s a b c) clock sc ck here L tm [] = tm []
  undemand (pre s a) clock sc ck here L tm [] = tm []
  undemand (fby s a b) clock sc ck here L tm [] = tm []
  undemand (arrow s a b) clock sc ck here L tm [] = tm []
  undemand (when_is s a c x) clock sc ck here L tm [] = tm []
  undemand (merge s x ps) clock sc ck here L tm [] = tm []
  undemand (call s f inlined es) clock sc ck here L tm [] = only_stand (N.outputs f) (under types sc clock ck) (At (here [])) L (tm [])
  undemand e clock sc ck here L tm (s ∷ p) = tm (s ∷ p)

  finer : (e : Expr) (clock : Clock) (sc : Scope) (ck : When) (here : Prefix) (G : List (Now FlatName)) → Stands (Some (under types sc clock ck)) (At (here [])) G → Along (λ G i. Finer (steps ck) (steps (under types sc clock ck)) here i) G
  finer e clock sc ck here G s =
      along (λ G i. Fits (holds (steps (under types sc clock ck)) i) (i (At (here [])))) (λ G i. Finer (steps ck) (steps (under types sc clock ck)) here i)
      (λ G i a f. ((λ t. (under_true sc clock ck i t).1), f)) G s

  -- ---- merge

  abbrev chosen : Parts → Value → List Instant → Value
  chosen no_part v is = Absent
  chosen (more_parts c e ps) v [] = Absent
  chosen (more_parts c e ps) v (i ∷ is) = if is_cons types v c then top i else chosen ps v is

  -- ---- the calls in an expression hold what is said of them

  abbrev mutual
    pub CallsIn : Expr → Clock → Scope → Scope → Prefix → When → List Place → List (Now FlatName) → Now FlatName → Type 0
    CallsIn (constant s c) clock sc lsc here ck rs G j = ⊤
    CallsIn (variable s x) clock sc lsc here ck rs G j = ⊤
    CallsIn (last_of s x) clock sc lsc here ck rs G j = ⊤
    CallsIn (one s o a) clock sc lsc here ck rs G j = CallsIn a clock sc lsc (below First here) ck rs G j
    CallsIn (two s o a b) clock sc lsc here ck rs G j = CallsIn a clock sc lsc (below First here) ck rs G j × CallsIn b clock sc lsc (below Second here) ck rs G j
    CallsIn (choose s a b c) clock sc lsc here ck rs G j =
        CallsIn a clock sc lsc (below First here) ck rs G j × CallsIn b clock sc lsc (below Second here) ck rs G j × CallsIn c clock sc lsc (below Third here) ck rs G j
    CallsIn (pre s a) clock sc lsc here ck rs G j = CallsIn a clock sc lsc (below First here) ck rs G j
    CallsIn (fby s a b) clock sc lsc here ck rs G j = CallsIn a clock sc lsc (below First here) ck rs G j × CallsIn b clock sc lsc (below Second here) ck rs G j
    CallsIn (arrow s a b) clock sc lsc here ck rs G j = CallsIn a clock sc lsc (below First here) ck rs G j × CallsIn b clock sc lsc (below Second here) ck rs G j
    CallsIn (when_is s a c x) clock sc lsc here ck rs G j = CallsIn a (without clock) sc lsc (below First here) ck rs G j
    CallsIn (merge s x ps) clock sc lsc here ck rs G j = CallsInParts ps x clock sc lsc (below Args here) ck rs G j
    CallsIn (call s f inlined es) clock sc lsc here ck rs G j =
        CallsInAll es clock sc lsc (below Args here) ck rs G j
        × ((x : List ℕ) → Says does (output_row types N.outputs fill 0 (N.outputs f) (under types sc clock ck) rs f (args_at types N.outputs fill es (below Args here)) x) G j (j (At (here (Instance ∷ Named x ∷ [])))))

    pub CallsInAll : Exprs → Clock → Scope → Scope → Prefix → When → List Place → List (Now FlatName) → Now FlatName → Type 0
    CallsInAll no_expr clock sc lsc here ck rs G j = ⊤
    CallsInAll (more_exprs e es) clock sc lsc here ck rs G j =
        CallsIn e clock sc lsc (below Head here) ck rs G j × CallsInAll es clock sc lsc (below Tail here) ck rs G j

    pub CallsInParts : Parts → List ℕ → Clock → Scope → Scope → Prefix → When → List Place → List (Now FlatName) → Now FlatName → Type 0
    CallsInParts no_part x clock sc lsc here ck rs G j = ⊤
    CallsInParts (more_parts c e ps) x clock sc lsc here ck rs G j =
        CallsIn e ((c, x) ∷ clock) sc lsc (below Head here) ck rs G j × CallsInParts ps x clock sc lsc (below Tail here) ck rs G j

  -- ---- expressions

  top_row : (w : When) (rs : List Place) (r : Right FlatName) (here : Prefix) (G : List (Now FlatName)) (j : Now FlatName) → (IsTrue (holds (steps w) j) → j (At (here [])) ≡ right_value does r (recent (steps w) (ats rs) G j) j) → Fits (holds (steps w) j) (j (At (here []))) → j (At (here [])) ≡ said does (row w rs r ∷ []) G j
  top_row w rs r here G j f h = one_row (holds (steps w) j) (j (At (here []))) (right_value does r (recent (steps w) (ats rs) G j) j) f h

  merged_says : (ps : Parts) (x : List ℕ) (clock : Clock) (sc lsc : Scope) (here : Prefix) (w : When) (rs : List Place) (G : List (Now FlatName)) (j : Now FlatName) (g : Given) (now : Instant) → IsTrue (holds (steps w) j) → ((p : Place) → j (At (here p)) ≡ parts_part ps x clock sc lsc j g now p) → chosen ps (j (sc x)) (merged types filled N ps x clock (λ y. j (sc y)) (λ y. j (lsc y)) g now) ≡ said does (parts_at types N.outputs fill ps x sc here w rs) G j
  merged_says no_part x clock sc lsc here w rs G j g now t h = refl
  merged_says (more_parts c e ps) x clock sc lsc here w rs G j g now t h =
      pick (is_cons types (j (sc x)) c) (holds (steps w) j)
      (top (expr types filled N e ((c, x) ∷ clock) (λ y. j (sc y)) (λ y. j (lsc y)) (at Head g) (part Head now)))
      (j (At (here (Head ∷ []))))
      (chosen ps (j (sc x)) (merged types filled N ps x clock (λ y. j (sc y)) (λ y. j (lsc y)) (at Tail g) (part Tail now)))
      (said does (parts_at types N.outputs fill ps x sc (below Tail here) w rs) G j)
      t (sym (h (Head ∷ [])))
      (merged_says ps x clock sc lsc (below Tail here) w rs G j (at Tail g) (part Tail now) t (λ p. h (Tail ∷ p)))

  none_said : (ps : Parts) (x : List ℕ) (sc : Scope) (here : Prefix) (w : When) (rs : List Place) (G : List (Now FlatName)) (j : Now FlatName) → IsFalse (holds (steps w) j) → said does (parts_at types N.outputs fill ps x sc here w rs) G j ≡ Absent
  none_said no_part x sc here w rs G j f = refl
  none_said (more_parts c e ps) x sc here w rs G j f =
      skip (is_cons types (j (sc x)) c) (holds (steps w) j) (j (At (here (Head ∷ [])))) (said does (parts_at types N.outputs fill ps x sc (below Tail here) w rs) G j) f
      ∙ none_said ps x sc (below Tail here) w rs G j f

  only_says : (os : List (List ℕ)) (here : Prefix) (w : When) (rs : List Place) (G : List (Now FlatName)) (j : Now FlatName) (inst : Instant) → (IsTrue (holds (steps w) j) → j (At (here [])) ≡ only_output os inst) → (IsTrue (holds (steps w) j) → (p : Place) → j (At (here (Instance ∷ p))) ≡ inst p) → Stands (only_stands os w) (At (here [])) (j ∷ G) → Says does (only_row types N.outputs fill os here w rs) G j (j (At (here [])))
  only_says [] here w rs G j inst e h s = tt
  only_says (o ∷ os) here w rs G j inst e h s =
      top_row w rs (Op Copy (name (At (here (Instance ∷ Named o ∷ []))) ∷ [])) here G j (λ t. e t ∙ sym (h t (Named o ∷ []))) s.0

  -- a constant's value, where its clock is there
  pub constant_said : (e : Expr) (c : Const) (clock : Clock) (names last : Names) (g : Given) (now : Instant) → constant_in e ≡ Some c → IsTrue (tree_holds types clock names)
      → top (expr types filled N e clock names last g now) ≡ constant_of types c
  constant_said (constant s d) c clock names last g now h t =
      if_true (tree_holds types clock names) (constant_of types d) Absent t ∙ ap (constant_or d) h
    where
      constant_or : Const → Option Const → Value
      constant_or d None = constant_of types d
      constant_or d (Some c) = constant_of types c
  constant_said (variable s x) c clock names last g now h t = absurd cc
  constant_said (last_of s x) c clock names last g now h t = absurd cc
  constant_said (one s o a) c clock names last g now h t = absurd cc
  constant_said (two s o a b) c clock names last g now h t = absurd cc
  constant_said (choose s a b d) c clock names last g now h t = absurd cc
  constant_said (pre s a) c clock names last g now h t = absurd cc
  constant_said (fby s a b) c clock names last g now h t = absurd cc
  constant_said (arrow s a b) c clock names last g now h t = absurd cc
  constant_said (when_is s a d x) c clock names last g now h t = absurd cc
  constant_said (merge s x ps) c clock names last g now h t = absurd cc
  constant_said (call s f inlined es) c clock names last g now h t = absurd cc

  -- `a fby b` holds what is said of it
  fby_says : (o : Option Const) (here : Prefix) (w : When) (rs : List Place) (G : List (Now FlatName)) (j : Now FlatName)
      → (IsTrue (holds (steps w) j) → j (At (here [])) ≡ mux (held (B true) (value (B false)) (recent (steps w) (ats rs) G j)) (j (At (here (First ∷ [])))) (held (fill (here [])) (name (At (here (Second ∷ [])))) (recent (steps w) (ats rs) G j)))
      → (IsTrue (holds (steps w) j) → (c : Const) → o ≡ Some c → j (At (here (First ∷ []))) ≡ constant_of types c)
      → Remembers G j → Fits (holds (steps w) j) (j (At (here []))) → j (At (here [])) ≡ said does (fby_row types N.outputs fill o here w rs ∷ []) G j
  fby_says None here w rs G j e k r h =
      top_row w rs (Op Mux (name (IsFirst w rs) ∷ name (At (here (First ∷ []))) ∷ name (Held (fill (here [])) (here (Second ∷ [])) w rs) ∷ [])) here G j
      (λ t. e t ∙ (λ z. mux (sym (r.1 w rs t) z) (j (At (here (First ∷ [])))) (sym (r.2 (fill (here [])) (here (Second ∷ [])) w rs t) z))) h
  fby_says (Some c) here w rs G j e k r h =
      let R = recent (steps w) (ats rs) G j in
      top_row w rs (Register (constant_of types c) (name (At (here (Second ∷ []))))) here G j
      (λ t. e t ∙ ap (λ v. mux (held (B true) (value (B false)) R) v (held (fill (here [])) (name (At (here (Second ∷ [])))) R)) (k t c refl)
      ∙ constant_fby (constant_of types c) (fill (here [])) (name (At (here (Second ∷ [])))) R) h

  mutual
    pub sim_expr : (e : Expr) (clock : Clock) (sc lsc : Scope) (here : Prefix) (ck : When) (rs : List Place) (G : List (Now FlatName)) (j : Now FlatName) → Live (expr_part e clock sc lsc) here ck rs G j → Timely (expr_clocks types N.outputs e clock sc ck) here (j ∷ G) → Remembers G j → Filled fill here j → CallsIn e clock sc lsc here ck rs G j → Good (flat_expr types N.outputs fill e clock sc lsc here ck rs) here G j
    sim_expr (constant s c) clock sc lsc here ck rs G j l tm r fl cl =
        let w = under types sc clock ck in
        let ri : Right FlatName = Op Copy (value (constant_of types c) ∷ []) in
        good_alone (row w rs ri ∷ []) here G j
        (top_row w rs ri here G j
        (λ t. let u = under_true sc clock ck j t in l.0 u.1 [] ∙ if_true (tree_holds types clock (λ x. j (sc x))) (constant_of types c) Absent u.0)
        (tm []).0)
    sim_expr (variable s x) clock sc lsc here ck rs G j l tm r fl cl =
        let w = under types sc clock ck in
        let ri : Right FlatName = Op Copy (name (sc x) ∷ []) in
        good_alone (row w rs ri ∷ []) here G j (top_row w rs ri here G j (λ t. l.0 (under_true sc clock ck j t).1 []) (tm []).0)
    sim_expr (last_of s x) clock sc lsc here ck rs G j l tm r fl cl =
        let w = under types sc clock ck in
        let ri : Right FlatName = Op Copy (name (lsc x) ∷ []) in
        good_alone (row w rs ri ∷ []) here G j (top_row w rs ri here G j (λ t. l.0 (under_true sc clock ck j t).1 []) (tm []).0)
    sim_expr (one s o a) clock sc lsc here ck rs G j l tm r fl cl =
        let w = under types sc clock ck in
        let ri : Right FlatName = Op (obc_one o) (name (At (here (First ∷ []))) ∷ []) in
        good_one (row w rs ri ∷ []) (flat_expr types N.outputs fill a clock sc lsc (below First here) ck rs) here G j
        (top_row w rs ri here G j
        (λ t. let u = under_true sc clock ck j t in
        one_case o (j (At (here []))) (j (At (here (First ∷ [])))) (l.0 u.1 [] ∙ ap (one_of o) (sym (l.0 u.1 (First ∷ [])))) (fits_true (holds (steps w) j) (j (At (here []))) t (tm []).0))
        (tm []).0)
        (sim_expr a clock sc lsc (below First here) ck rs G j (deep First (expr_part (one s o a) clock sc lsc) (expr_part a clock sc lsc) here ck rs (λ i g now p. refl) G j l)
        (λ p. tm (First ∷ p)) r (λ p. fl (First ∷ p)) cl)
    sim_expr (two s o a b) clock sc lsc here ck rs G j l tm r fl cl =
        let w = under types sc clock ck in
        let ri : Right FlatName = Op (obc_two o) (name (At (here (First ∷ []))) ∷ name (At (here (Second ∷ []))) ∷ []) in
        good_two (row w rs ri ∷ []) (flat_expr types N.outputs fill a clock sc lsc (below First here) ck rs) (flat_expr types N.outputs fill b clock sc lsc (below Second here) ck rs) here G j
        (top_row w rs ri here G j
        (λ t. let u = under_true sc clock ck j t in
        two_case o (j (At (here []))) (j (At (here (First ∷ [])))) (j (At (here (Second ∷ []))))
        (l.0 u.1 [] ∙ ap₂ (two_of o) (sym (l.0 u.1 (First ∷ []))) (sym (l.0 u.1 (Second ∷ [])))) (fits_true (holds (steps w) j) (j (At (here []))) t (tm []).0))
        (tm []).0)
        (sim_expr a clock sc lsc (below First here) ck rs G j (deep First (expr_part (two s o a b) clock sc lsc) (expr_part a clock sc lsc) here ck rs (λ i g now p. refl) G j l)
        (λ p. tm (First ∷ p)) r (λ p. fl (First ∷ p)) cl.0)
        (sim_expr b clock sc lsc (below Second here) ck rs G j (deep Second (expr_part (two s o a b) clock sc lsc) (expr_part b clock sc lsc) here ck rs (λ i g now p. refl) G j l)
        (λ p. tm (Second ∷ p)) r (λ p. fl (Second ∷ p)) cl.1)
    sim_expr (choose s a b c) clock sc lsc here ck rs G j l tm r fl cl =
        let w = under types sc clock ck in
        let ri : Right FlatName = Op Mux (name (At (here (First ∷ []))) ∷ name (At (here (Second ∷ []))) ∷ name (At (here (Third ∷ []))) ∷ []) in
        good_three (row w rs ri ∷ []) (flat_expr types N.outputs fill a clock sc lsc (below First here) ck rs) (flat_expr types N.outputs fill b clock sc lsc (below Second here) ck rs) (flat_expr types N.outputs fill c clock sc lsc (below Third here) ck rs) here G j
        (top_row w rs ri here G j
        (λ t. let u = under_true sc clock ck j t in
        choose_case (j (At (here []))) _ (j (At (here (First ∷ [])))) (j (At (here (Second ∷ [])))) (j (At (here (Third ∷ []))))
        (l.0 u.1 []) (λ z. if_of (sym (l.0 u.1 (First ∷ [])) z) (sym (l.0 u.1 (Second ∷ [])) z) (sym (l.0 u.1 (Third ∷ [])) z))
        (fits_true (holds (steps w) j) (j (At (here []))) t (tm []).0))
        (tm []).0)
        (sim_expr a clock sc lsc (below First here) ck rs G j (deep First (expr_part (choose s a b c) clock sc lsc) (expr_part a clock sc lsc) here ck rs (λ i g now p. refl) G j l)
        (λ p. tm (First ∷ p)) r (λ p. fl (First ∷ p)) cl.0)
        (sim_expr b clock sc lsc (below Second here) ck rs G j (deep Second (expr_part (choose s a b c) clock sc lsc) (expr_part b clock sc lsc) here ck rs (λ i g now p. refl) G j l)
        (λ p. tm (Second ∷ p)) r (λ p. fl (Second ∷ p)) cl.1)
        (sim_expr c clock sc lsc (below Third here) ck rs G j (deep Third (expr_part (choose s a b c) clock sc lsc) (expr_part c clock sc lsc) here ck rs (λ i g now p. refl) G j l)
        (λ p. tm (Third ∷ p)) r (λ p. fl (Third ∷ p)) cl.2)
    sim_expr (pre s a) clock sc lsc here ck rs G j l tm r fl cl =
        let w = under types sc clock ck in
        let ri : Right FlatName = Register (fill (here [])) (name (At (here (First ∷ [])))) in
        let R = recent (steps ck) (ats rs) G j in
        let ta = (tm (First ∷ [])).1 in
        good_one (row w rs ri ∷ []) (flat_expr types N.outputs fill a clock sc lsc (below First here) ck rs) here G j
        (top_row w rs ri here G j
        (λ t. let u = under_true sc clock ck j t in
        l.0 u.1 []
        ∙ if_true (tree_holds types clock (λ x. j (sc x))) (newest (j (Free (here []))) (parts First (view here R))) Absent u.0
        ∙ ap₂ newest (fl [] refl) (parts_view First here R)
        ∙ newest_recent (fill (here [])) (below First here) (steps ck) (steps w) (ats rs) G j (finer a clock sc ck (below First here) G ta))
        (tm []).0)
        (sim_expr a clock sc lsc (below First here) ck rs G j (deep First (expr_part (pre s a) clock sc lsc) (expr_part a clock sc lsc) here ck rs (λ i g now p. refl) G j l)
        (undemand a clock sc ck (below First here) (j ∷ G) (λ p. tm (First ∷ p))) r (λ p. fl (First ∷ p)) cl)
    sim_expr (fby s a b) clock sc lsc here ck rs G j l tm r fl cl =
        let w = under types sc clock ck in
        let R = recent (steps ck) (ats rs) G j in
        let ta = (tm (First ∷ [])).1 in
        let tb = (tm (Second ∷ [])).1 in
        let v = top (expr types filled N a clock (λ x. j (sc x)) (λ x. j (lsc x)) (at First (given here ck rs G j)) (part First (seen here j))) in
        good_two (fby_row types N.outputs fill (constant_in a) here w rs ∷ [])
        (unless (is_some (constant_in a)) (flat_expr types N.outputs fill a clock sc lsc (below First here) ck rs)) (flat_expr types N.outputs fill b clock sc lsc (below Second here) ck rs) here G j
        (fby_says (constant_in a) here w rs G j
        (λ t. let u = under_true sc clock ck j t in
        l.0 u.1 []
        ∙ if_true (tree_holds types clock (λ x. j (sc x))) (at_first (parts First (view here R)) v (newest Nil (parts Second (view here R)))) Absent u.0
        ∙ (λ z. at_first (parts_view First here R z) (sym (l.0 u.1 (First ∷ [])) z) (newest Nil (parts_view Second here R z)))
        ∙ fby_recent (j (At (here (First ∷ [])))) (fill (here [])) (below First here) (below Second here) (steps ck) (steps w) (ats rs) G j
        (finer a clock sc ck (below First here) G ta) (finer b clock sc ck (below Second here) G tb))
        (λ t c h. let u = under_true sc clock ck j t in
        l.0 u.1 (First ∷ []) ∙ constant_said a c clock (λ x. j (sc x)) (λ x. j (lsc x)) (at First (given here ck rs G j)) (part First (seen here j)) h u.0)
        r (tm []).0)
        (good_unless (is_some (constant_in a)) (flat_expr types N.outputs fill a clock sc lsc (below First here) ck rs) (below First here) G j
        (sim_expr a clock sc lsc (below First here) ck rs G j (deep First (expr_part (fby s a b) clock sc lsc) (expr_part a clock sc lsc) here ck rs (λ i g now p. refl) G j l)
        (undemand a clock sc ck (below First here) (j ∷ G) (λ p. tm (First ∷ p))) r (λ p. fl (First ∷ p)) cl.0))
        (sim_expr b clock sc lsc (below Second here) ck rs G j (deep Second (expr_part (fby s a b) clock sc lsc) (expr_part b clock sc lsc) here ck rs (λ i g now p. refl) G j l)
        (undemand b clock sc ck (below Second here) (j ∷ G) (λ p. tm (Second ∷ p))) r (λ p. fl (Second ∷ p)) cl.1)
    sim_expr (arrow s a b) clock sc lsc here ck rs G j l tm r fl cl =
        let w = under types sc clock ck in
        let ri : Right FlatName = Op Mux (name (IsFirst w rs) ∷ name (At (here (First ∷ []))) ∷ name (At (here (Second ∷ []))) ∷ []) in
        let R = recent (steps ck) (ats rs) G j in
        let ta = (tm (First ∷ [])).1 in
        good_two (row w rs ri ∷ []) (flat_expr types N.outputs fill a clock sc lsc (below First here) ck rs) (flat_expr types N.outputs fill b clock sc lsc (below Second here) ck rs) here G j
        (top_row w rs ri here G j
        (λ t. let u = under_true sc clock ck j t in
        l.0 u.1 []
        ∙ (λ z. at_first (parts_view First here R z) (sym (l.0 u.1 (First ∷ [])) z) (sym (l.0 u.1 (Second ∷ [])) z))
        ∙ first_recent (j (At (here (First ∷ [])))) (j (At (here (Second ∷ [])))) (below First here) (steps ck) (steps w) (ats rs) G j (finer a clock sc ck (below First here) G ta)
        ∙ (λ z. mux (sym (r.1 w rs t) z) (j (At (here (First ∷ [])))) (j (At (here (Second ∷ []))))))
        (tm []).0)
        (sim_expr a clock sc lsc (below First here) ck rs G j (deep First (expr_part (arrow s a b) clock sc lsc) (expr_part a clock sc lsc) here ck rs (λ i g now p. refl) G j l)
        (undemand a clock sc ck (below First here) (j ∷ G) (λ p. tm (First ∷ p))) r (λ p. fl (First ∷ p)) cl.0)
        (sim_expr b clock sc lsc (below Second here) ck rs G j (deep Second (expr_part (arrow s a b) clock sc lsc) (expr_part b clock sc lsc) here ck rs (λ i g now p. refl) G j l)
        (λ p. tm (Second ∷ p)) r (λ p. fl (Second ∷ p)) cl.1)
    sim_expr (when_is s a c x) clock sc lsc here ck rs G j l tm r fl cl =
        let w = under types sc clock ck in
        let ri : Right FlatName = Op Copy (name (At (here (First ∷ []))) ∷ []) in
        good_one (row w rs ri ∷ []) (flat_expr types N.outputs fill a (without clock) sc lsc (below First here) ck rs) here G j
        (top_row w rs ri here G j
        (λ t. let u = under_true sc clock ck j t in
        when_case (is_cons types (j (sc x)) c) (j (At (here [])))
        (top (expr types filled N a (without clock) (λ y. j (sc y)) (λ y. j (lsc y)) (at First (given here ck rs G j)) (part First (seen here j))))
        (j (At (here (First ∷ []))))
        (l.0 u.1 []) (fits_true (holds (steps w) j) (j (At (here []))) t (tm []).0) (sym (l.0 u.1 (First ∷ []))))
        (tm []).0)
        (sim_expr a (without clock) sc lsc (below First here) ck rs G j (deep First (expr_part (when_is s a c x) clock sc lsc) (expr_part a (without clock) sc lsc) here ck rs (λ i g now p. refl) G j l)
        (λ p. tm (First ∷ p)) r (λ p. fl (First ∷ p)) cl)
    sim_expr (merge s x ps) clock sc lsc here ck rs G j l tm r fl cl =
        let w = under types sc clock ck in
        good_row (parts_at types N.outputs fill ps x sc (below Args here) w rs) (flat_parts types N.outputs fill ps x clock sc lsc (below Args here) ck rs) here G j
        (decide (holds (steps w) j)
        (λ t. let u = under_true sc clock ck j t in
        l.0 u.1 [] ∙ merged_says ps x clock sc lsc (below Args here) w rs G j (at Args (given here ck rs G j)) (part Args (seen here j)) t (λ p. l.0 u.1 (Args ∷ p)))
        (λ f. fits_false_at (holds (steps w) j) (j (At (here []))) f (tm []).0 ∙ sym (none_said ps x sc (below Args here) w rs G j f)))
        (sim_parts ps x clock sc lsc (below Args here) ck rs G j (deep Args (expr_part (merge s x ps) clock sc lsc) (parts_part ps x clock sc lsc) here ck rs (λ i g now p. refl) G j l)
        (λ p. tm (Args ∷ p)) r (λ p. fl (Args ∷ p)) cl)
    sim_expr (call s f inlined es) clock sc lsc here ck rs G j l tm r fl cl =
        let w = under types sc clock ck in
        good_call (only_row types N.outputs fill (N.outputs f) here w rs) (flat_exprs types N.outputs fill es clock sc lsc (below Args here) ck rs)
        (output_row types N.outputs fill 0 (N.outputs f) w rs f (args_at types N.outputs fill es (below Args here))) here G j
        (only_says (N.outputs f) here w rs G j _ (λ t. l.0 (under_true sc clock ck j t).1 []) (λ t p. l.0 (under_true sc clock ck j t).1 (Instance ∷ p)) (tm []))
        (sim_exprs es clock sc lsc (below Args here) ck rs G j (deep Args (expr_part (call s f inlined es) clock sc lsc) (exprs_part es clock sc lsc) here ck rs (λ i g now p. refl) G j l)
        (λ p. tm (Args ∷ p)) r (λ p. fl (Args ∷ p)) cl.0)
        cl.1

    pub sim_exprs : (es : Exprs) (clock : Clock) (sc lsc : Scope) (here : Prefix) (ck : When) (rs : List Place) (G : List (Now FlatName)) (j : Now FlatName) → Live (exprs_part es clock sc lsc) here ck rs G j → Timely (exprs_clocks types N.outputs es clock sc ck) here (j ∷ G) → Remembers G j → Filled fill here j → CallsInAll es clock sc lsc here ck rs G j → Good (flat_exprs types N.outputs fill es clock sc lsc here ck rs) here G j
    sim_exprs no_expr clock sc lsc here ck rs G j l tm r fl cl = λ p. tt
    sim_exprs (more_exprs e es) clock sc lsc here ck rs G j l tm r fl cl =
        good_of_two (flat_expr types N.outputs fill e clock sc lsc (below Head here) ck rs) (flat_exprs types N.outputs fill es clock sc lsc (below Tail here) ck rs) here G j
        (sim_expr e clock sc lsc (below Head here) ck rs G j (deep Head (exprs_part (more_exprs e es) clock sc lsc) (expr_part e clock sc lsc) here ck rs (λ i g now p. refl) G j l)
        (λ p. tm (Head ∷ p)) r (λ p. fl (Head ∷ p)) cl.0)
        (sim_exprs es clock sc lsc (below Tail here) ck rs G j (deep Tail (exprs_part (more_exprs e es) clock sc lsc) (exprs_part es clock sc lsc) here ck rs (λ i g now p. refl) G j l)
        (λ p. tm (Tail ∷ p)) r (λ p. fl (Tail ∷ p)) cl.1)

    pub sim_parts : (ps : Parts) (x : List ℕ) (clock : Clock) (sc lsc : Scope) (here : Prefix) (ck : When) (rs : List Place) (G : List (Now FlatName)) (j : Now FlatName) → Live (parts_part ps x clock sc lsc) here ck rs G j → Timely (parts_clocks types N.outputs ps x clock sc ck) here (j ∷ G) → Remembers G j → Filled fill here j → CallsInParts ps x clock sc lsc here ck rs G j → Good (flat_parts types N.outputs fill ps x clock sc lsc here ck rs) here G j
    sim_parts no_part x clock sc lsc here ck rs G j l tm r fl cl = λ p. tt
    sim_parts (more_parts c e ps) x clock sc lsc here ck rs G j l tm r fl cl =
        good_of_two (flat_expr types N.outputs fill e ((c, x) ∷ clock) sc lsc (below Head here) ck rs) (flat_parts types N.outputs fill ps x clock sc lsc (below Tail here) ck rs) here G j
        (sim_expr e ((c, x) ∷ clock) sc lsc (below Head here) ck rs G j (deep Head (parts_part (more_parts c e ps) x clock sc lsc) (expr_part e ((c, x) ∷ clock) sc lsc) here ck rs (λ i g now p. refl) G j l)
        (λ p. tm (Head ∷ p)) r (λ p. fl (Head ∷ p)) cl.0)
        (sim_parts ps x clock sc lsc (below Tail here) ck rs G j (deep Tail (parts_part (more_parts c e ps) x clock sc lsc) (parts_part ps x clock sc lsc) here ck rs (λ i g now p. refl) G j l)
        (λ p. tm (Tail ∷ p)) r (λ p. fl (Tail ∷ p)) cl.1)
