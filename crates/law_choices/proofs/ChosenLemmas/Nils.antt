-- In two instants after the same past an expression is Nil in one exactly where it is in the other, wherever its clock is there in both, if the variables that it reads are.
use Rattle.std.proofs.Common.{◌≡◌, ℕ, List, [], ◌∷◌, ◌++◌, refl, sym, ap, ap₂, ◌∙◌}
use Rattle.std.specs.Prelude.{Bool, true, false, ◌&&◌, ◌||◌, if◌then◌else◌, Option, None, Some}
use Rattle.hp_base.specs.declared.ty.Ty.{Ty}
use Rattle.hp_base.specs.declared.ty.Ty.TheVariants as ty
use Rattle.hp_base.specs.declared.value.Value.{Value}
use Rattle.hp_base.specs.declared.value.Value.TheVariants.{Absent, Nil, B, E, I, Star}
use Rattle.hp_tree.specs.declared.expr.Op1.{Op1}
use Rattle.hp_tree.specs.declared.expr.Op1.TheVariants.{Not, Neg}
use Rattle.hp_tree.specs.declared.expr.Op2.{Op2}
use Rattle.hp_tree.specs.declared.expr.Op2.TheVariants.{And, Or, Xor, Imp, Eq, Ne, Lt, Le, Gt, Ge, Add, Sub, Mul, Div, Rem}
use Rattle.hp_tree.specs.Expressions.{Expr, constant, variable, last_of, one, two, choose, pre, fby, arrow, when_is, merge, call}
use Rattle.hp_tree.specs.Programs.{TypeDecl}
use Rattle.hp_tree.specs.Operators.{abstraction, is_there, is_cons, one_marked, logic, constructors, two_marked, is_comparison, if_of}
use Rattle.hp_tree.specs.Instant.{First, Second, Third, Place, Instant, Past, part, parts, top, Clock, holds, without, newest, after, at_first}
use Rattle.hp_tree.specs.Meaning.{Names, Nodes, expr}
use Rattle.hp_meaning.specs.Causal.Sources.{NameSources, PlaceSources, Within, below}
use Rattle.hp_meaning.specs.Causal.WhatIsRead.{of_expr}
use Rattle.law_judged.specs.Typed.Scopes.{Scope}
use Rattle.hp_init.specs.Classes.{Classes, is_second}
use Rattle.law_games.specs.Wiretyped.Typed.{IsWire}
use Rattle.law_games.specs.Abstracted.Fitting.{HasValue, Fits, value_type, ExprFits}

-- ---- values

abbrev pub is_nil : Value → Bool
is_nil Nil = true
is_nil v = false

one_nil : (o : Op1) (v : Value) → is_nil (one_marked o v) ≡ is_nil v
one_nil Not Absent = refl
one_nil Not Nil = refl
one_nil Not (B b) = refl
one_nil Not (E t k) = refl
one_nil Not (I n) = refl
one_nil Not Star = refl
one_nil Neg Absent = refl
one_nil Neg Nil = refl
one_nil Neg (B b) = refl
one_nil Neg (E t k) = refl
one_nil Neg (I n) = refl
one_nil Neg Star = refl

logic_nil : (o : Op2) (a b : Bool) → is_nil (logic o a b) ≡ false
logic_nil And a b = refl
logic_nil Or a b = refl
logic_nil Xor a b = refl
logic_nil Imp a b = refl
logic_nil Eq a b = refl
logic_nil Ne a b = refl
logic_nil o a b = refl

constructors_nil : (o : Op2) (same : Bool) → is_nil (constructors o same) ≡ false
constructors_nil Eq same = refl
constructors_nil Ne same = refl
constructors_nil o same = refl

two_nil : (o : Op2) (given v w : Value) → (v ≡ Star → w ≡ Star → two_marked o given v w ≡ given → is_nil given ≡ false) → is_nil (two_marked o given v w) ≡ (is_nil v || is_nil w)
two_nil o given Star Star h = by (is_comparison o) h
  where
    by : (c : Bool) → (Star ≡ Star → Star ≡ Star → (if c then given else Star) ≡ given → is_nil given ≡ false) → is_nil (if c then given else Star) ≡ false
    by true h = h refl refl refl
    by false h = refl
two_nil o given (B a) (B b) h = logic_nil o a b
two_nil o given (E s a) (E t b) h = constructors_nil o _
two_nil And given (I a) (I b) h = refl
two_nil Or given (I a) (I b) h = refl
two_nil Xor given (I a) (I b) h = refl
two_nil Imp given (I a) (I b) h = refl
two_nil Eq given (I a) (I b) h = refl
two_nil Ne given (I a) (I b) h = refl
two_nil Lt given (I a) (I b) h = refl
two_nil Le given (I a) (I b) h = refl
two_nil Gt given (I a) (I b) h = refl
two_nil Ge given (I a) (I b) h = refl
two_nil Add given (I a) (I b) h = refl
two_nil Sub given (I a) (I b) h = refl
two_nil Mul given (I a) (I b) h = refl
two_nil Div given (I a) (I b) h = refl
two_nil Rem given (I a) (I b) h = refl
two_nil o given Nil w h = refl
two_nil o given Absent Absent h = refl
two_nil o given Absent Nil h = refl
two_nil o given Absent (B b) h = refl
two_nil o given Absent (E q b) h = refl
two_nil o given Absent (I b) h = refl
two_nil o given Absent Star h = refl
two_nil o given (B a) Absent h = refl
two_nil o given (B a) Nil h = refl
two_nil o given (B a) (E q b) h = refl
two_nil o given (B a) (I b) h = refl
two_nil o given (B a) Star h = refl
two_nil o given (E t a) Absent h = refl
two_nil o given (E t a) Nil h = refl
two_nil o given (E t a) (B b) h = refl
two_nil o given (E t a) (I b) h = refl
two_nil o given (E t a) Star h = refl
two_nil o given (I a) Absent h = refl
two_nil o given (I a) Nil h = refl
two_nil o given (I a) (B b) h = refl
two_nil o given (I a) (E q b) h = refl
two_nil o given (I a) Star h = refl
two_nil o given Star Absent h = refl
two_nil o given Star Nil h = refl
two_nil o given Star (B b) h = refl
two_nil o given Star (E q b) h = refl
two_nil o given Star (I b) h = refl

if_nil : (c v w : Value) → is_there (if_of c v w) ≡ true → is_nil (if_of c v w) ≡ (is_nil c || (is_nil v || is_nil w))
if_nil (B true) Nil w h = refl
if_nil (B false) Nil w h = refl
if_nil Nil v w h = refl
if_nil (B true) v Nil h = by v
  where
    by : (v : Value) → is_nil (if_of (B true) v Nil) ≡ (is_nil v || true)
    by Absent = refl
    by Nil = refl
    by (B b) = refl
    by (E t k) = refl
    by (I n) = refl
    by Star = refl
if_nil (B false) v Nil h = by v
  where
    by : (v : Value) → is_nil (if_of (B false) v Nil) ≡ (is_nil v || true)
    by Absent = refl
    by Nil = refl
    by (B b) = refl
    by (E t k) = refl
    by (I n) = refl
    by Star = refl
if_nil (B true) v w h = refl
if_nil (B false) v w h = refl
if_nil c v w h = absurd (cc)

first_nil : (past : Past) (v v' w w' : Value) → is_nil v ≡ is_nil v' → is_nil w ≡ is_nil w' → is_nil (at_first past v w) ≡ is_nil (at_first past v' w')
first_nil [] v v' w w' h k = h
first_nil (i ∷ past) v v' w w' h k = by (top i) (first_nil past v v' w w' h k)
  where
    by : (u : Value) → is_nil (at_first past v w) ≡ is_nil (at_first past v' w') → is_nil (after u (at_first past v w) w) ≡ is_nil (after u (at_first past v' w') w')
    by Absent r = r
    by Nil r = k
    by (B b) r = k
    by (E t n) r = k
    by (I n) r = k
    by Star r = k

-- ---- values that fit

wire_there : (types : List TypeDecl) (t : Ty) → IsWire types t Absent → ⊥
wire_there types ty.Bool h = h
wire_there types ty.Int h = absurd (cc)
wire_there types (ty.Enum t) h = h

has_there : (types : List TypeDecl) (t : Ty) (nil : Bool) (v : Value) → HasValue types t nil v → is_there v ≡ true
has_there types t nil Absent h = absurd (wire_there types t h)
has_there types t nil Nil h = refl
has_there types t nil (B b) h = refl
has_there types t nil (E s k) h = refl
has_there types t nil (I n) h = refl
has_there types t nil Star h = refl

pub absent_nil : (v : Value) → v ≡ Absent → is_nil v ≡ false
absent_nil v e = ap is_nil e

value_nil : (types : List TypeDecl) (t : Ty) (v : Value) → HasValue types t false v → is_nil v ≡ false
value_nil types t Nil h = absurd (cc)
value_nil types t Absent h = refl
value_nil types t (B b) h = refl
value_nil types t (E s k) h = refl
value_nil types t (I n) h = refl
value_nil types t Star h = refl

-- a value of class First is not Nil
pub not_nil : (types : List TypeDecl) (there : Bool) (o : Option Ty) (v : Value) → Fits types there o false v → is_nil v ≡ false
not_nil types true (Some t) v h = value_nil types t v h
not_nil types true None v h = absent_nil v h
not_nil types false (Some t) v h = absent_nil v h
not_nil types false None v h = absent_nil v h

-- what has a value is on a clock that is there
pub clock_there : (types : List TypeDecl) (there : Bool) (o : Option Ty) (nil : Bool) (v : Value) → Fits types there o nil v → is_there v ≡ true → there ≡ true
clock_there types true o nil v h e = refl
clock_there types false (Some t) nil v h e = sym (ap is_there h) ∙ e
clock_there types false None nil v h e = sym (ap is_there h) ∙ e

-- two values of a type, where the clock is there
abbrev pub Alike : Value → Value → Type 0
Alike v w = is_there v ≡ true → is_there w ≡ true → is_nil v ≡ is_nil w

pub both_fit : (types : List TypeDecl) (a b : Bool) (o : Option Ty) (nil : Bool) (v w : Value) → a ≡ true → b ≡ true → Fits types a o nil v → Fits types b o nil w → Alike v w → is_nil v ≡ is_nil w
both_fit types true true (Some t) nil v w e f h k r = r (has_there types t nil v h) (has_there types t nil w k)
both_fit types true true None nil v w e f h k r = absent_nil v h ∙ sym (absent_nil w k)
both_fit types false b o nil v w e f h k r = absurd (cc)
both_fit types true false o nil v w e f h k r = absurd (cc)

and_second : (a b : Bool) → (a && b) ≡ true → b ≡ true
and_second true b e = e
and_second false b e = absurd (cc)

pub without_there : (types : List TypeDecl) (clock : Clock) (names : Names) → holds types clock names ≡ true → holds types (without clock) names ≡ true
without_there types [] names e = e
without_there types (on ∷ clock) names e = and_second (is_cons types (names on.1) on.0) (holds types clock names) e

when_there : (d : Bool) (v : Value) → is_there (if d then v else Absent) ≡ true → (if d then v else Absent) ≡ v
when_there true v e = refl
when_there false v e = absurd (cc)

if_so : (d : Bool) (v w : Value) → d ≡ true → (if d then v else w) ≡ v
if_so d v w e = ap (λ z. if z then v else w) e

-- ---- expressions

-- Where both operands are marks, a truth value is given.
abbrev pub Flags : Instant → Instant → Type 0
Flags i free = (p : Place) → i (p ++ (First ∷ [])) ≡ Star → i (p ++ (Second ∷ [])) ≡ Star → i p ≡ free p → (b : Bool) × (free p ≡ B b)

module _ (P : Place → Type 0) (types : List TypeDecl) (N : Nodes) (callee : List ℕ → Instant → Type 0) (s : Scope) (second : Classes) (reads : NameSources) (names names' last : Names) (alike : (x : List ℕ) → Within P (reads x) → second x ≡ true → Alike (names x) (names' x)) where
  abbrev Fit : Names → Expr → Clock → Instant → Type 0
  Fit ns e clock i = ExprFits types true callee s second (λ c. holds types c ns) e clock i

  abbrev Is : Names → Expr → Clock → Past → Instant → Instant → Type 0
  Is ns e clock past free i = (p : Place) → i p ≡ expr types abstraction N e clock ns last (record { past = past; free = free }) i p

  pub nils_alike : (e : Expr) (clock : Clock) (k : PlaceSources) (past : Past) (free free' i j : Instant) → holds types clock names ≡ true → holds types clock names' ≡ true → Fit names e clock i → Fit names' e clock j
      → Is names e clock past free i → Is names' e clock past free' j → Flags i free → Flags j free' → Within P (of_expr e reads k) → is_nil (i []) ≡ is_nil (j [])
  nils_alike (constant a c) clock k past free free' i j t u h h' m m' fl fl' w = not_nil types _ _ (i []) h ∙ sym (not_nil types _ _ (j []) h')
  nils_alike (last_of a x) clock k past free free' i j t u h h' m m' fl fl' w = not_nil types _ _ (i []) h ∙ sym (not_nil types _ _ (j []) h')
  nils_alike (merge a x ps) clock k past free free' i j t u h h' m m' fl fl' w = not_nil types _ _ (i []) h.0 ∙ sym (not_nil types _ _ (j []) h'.0)
  nils_alike (call a f inlined es) clock k past free free' i j t u h h' m m' fl fl' w = not_nil types _ _ (i []) h.0 ∙ sym (not_nil types _ _ (j []) h'.0)
  nils_alike (variable a x) clock k past free free' i j t u h h' m m' fl fl' w = by (second x) refl h h'
    where
      by : (b : Bool) → second x ≡ b → Fits types (holds types clock names) (value_type s (variable a x)) (b && true) (i []) → Fits types (holds types clock names') (value_type s (variable a x)) (b && true) (j []) → is_nil (i []) ≡ is_nil (j [])
      by true e h h' = both_fit types (holds types clock names) (holds types clock names') (value_type s (variable a x)) true (i []) (j []) t u h h' (λ y z. ap is_nil (m []) ∙ alike x w e (ap is_there (sym (m [])) ∙ y) (ap is_there (sym (m' [])) ∙ z) ∙ ap is_nil (sym (m' [])))
      by false e h h' = not_nil types _ _ (i []) h ∙ sym (not_nil types _ _ (j []) h')
  nils_alike (one a o b) clock k past free free' i j t u h h' m m' fl fl' w =
      let r = nils_alike b clock (below First k) (parts First past) (part First free) (part First free') (part First i) (part First j) t u h.1 h'.1 (λ p. m (First ∷ p)) (λ p. m' (First ∷ p)) (λ p. fl (First ∷ p)) (λ p. fl' (First ∷ p)) w in
      let e : i [] ≡ one_marked o (i (First ∷ [])) = m [] ∙ ap (one_marked o) (sym (m (First ∷ []))) in
      let e' : j [] ≡ one_marked o (j (First ∷ [])) = m' [] ∙ ap (one_marked o) (sym (m' (First ∷ []))) in
      ap is_nil e ∙ one_nil o (i (First ∷ [])) ∙ r ∙ sym (one_nil o (j (First ∷ []))) ∙ ap is_nil (sym e')
  nils_alike (two a o b c) clock k past free free' i j t u h h' m m' fl fl' w =
      let r = nils_alike b clock (below First k) (parts First past) (part First free) (part First free') (part First i) (part First j) t u h.1.0 h'.1.0 (λ p. m (First ∷ p)) (λ p. m' (First ∷ p)) (λ p. fl (First ∷ p)) (λ p. fl' (First ∷ p)) w.0 in
      let q = nils_alike c clock (below Second k) (parts Second past) (part Second free) (part Second free') (part Second i) (part Second j) t u h.1.1 h'.1.1 (λ p. m (Second ∷ p)) (λ p. m' (Second ∷ p)) (λ p. fl (Second ∷ p)) (λ p. fl' (Second ∷ p)) w.1 in
      let e : i [] ≡ two_marked o (free []) (i (First ∷ [])) (i (Second ∷ [])) = m [] ∙ ap₂ (λ x y. two_marked o (free []) x y) (sym (m (First ∷ []))) (sym (m (Second ∷ []))) in
      let e' : j [] ≡ two_marked o (free' []) (j (First ∷ [])) (j (Second ∷ [])) = m' [] ∙ ap₂ (λ x y. two_marked o (free' []) x y) (sym (m' (First ∷ []))) (sym (m' (Second ∷ []))) in
      ap is_nil e ∙ two_nil o (free []) (i (First ∷ [])) (i (Second ∷ [])) (λ x y z. ap is_nil (fl [] x y (e ∙ z)).1)
      ∙ ap₂ (λ x y. x || y) r q
      ∙ sym (two_nil o (free' []) (j (First ∷ [])) (j (Second ∷ [])) (λ x y z. ap is_nil (fl' [] x y (e' ∙ z)).1)) ∙ ap is_nil (sym e')
  nils_alike (choose a b c d) clock k past free free' i j t u h h' m m' fl fl' w =
      let r = nils_alike b clock (below First k) (parts First past) (part First free) (part First free') (part First i) (part First j) t u h.1.0 h'.1.0 (λ p. m (First ∷ p)) (λ p. m' (First ∷ p)) (λ p. fl (First ∷ p)) (λ p. fl' (First ∷ p)) w.0 in
      let q = nils_alike c clock (below Second k) (parts Second past) (part Second free) (part Second free') (part Second i) (part Second j) t u h.1.1.0 h'.1.1.0 (λ p. m (Second ∷ p)) (λ p. m' (Second ∷ p)) (λ p. fl (Second ∷ p)) (λ p. fl' (Second ∷ p)) w.1.0 in
      let v = nils_alike d clock (below Third k) (parts Third past) (part Third free) (part Third free') (part Third i) (part Third j) t u h.1.1.1 h'.1.1.1 (λ p. m (Third ∷ p)) (λ p. m' (Third ∷ p)) (λ p. fl (Third ∷ p)) (λ p. fl' (Third ∷ p)) w.1.1 in
      let e : i [] ≡ if_of (i (First ∷ [])) (i (Second ∷ [])) (i (Third ∷ [])) = m [] ∙ ap₂ (λ x y. if_of x y (expr types abstraction N d clock names last (record { past = parts Third past; free = part Third free }) (part Third i) [])) (sym (m (First ∷ []))) (sym (m (Second ∷ []))) ∙ ap (λ z. if_of (i (First ∷ [])) (i (Second ∷ [])) z) (sym (m (Third ∷ []))) in
      let e' : j [] ≡ if_of (j (First ∷ [])) (j (Second ∷ [])) (j (Third ∷ [])) = m' [] ∙ ap₂ (λ x y. if_of x y (expr types abstraction N d clock names' last (record { past = parts Third past; free = part Third free' }) (part Third j) [])) (sym (m' (First ∷ []))) (sym (m' (Second ∷ []))) ∙ ap (λ z. if_of (j (First ∷ [])) (j (Second ∷ [])) z) (sym (m' (Third ∷ []))) in
      both_fit types (holds types clock names) (holds types clock names') (value_type s (choose a b c d)) (is_second second (choose a b c d) && true) (i []) (j []) t u h.0 h'.0
      (λ x y.
      ap is_nil e ∙ if_nil (i (First ∷ [])) (i (Second ∷ [])) (i (Third ∷ [])) (ap is_there (sym e) ∙ x)
      ∙ ap₂ (λ a b. a || b) r (ap₂ (λ a b. a || b) q v)
      ∙ sym (if_nil (j (First ∷ [])) (j (Second ∷ [])) (j (Third ∷ [])) (ap is_there (sym e') ∙ y)) ∙ ap is_nil (sym e'))
  nils_alike (pre a b) clock k past free free' i j t u h h' m m' fl fl' w =
      ap is_nil (m [] ∙ if_so (holds types clock names) (newest Nil (parts First past)) Absent t) ∙ sym (ap is_nil (m' [] ∙ if_so (holds types clock names') (newest Nil (parts First past)) Absent u))
  nils_alike (fby a b c) clock k past free free' i j t u h h' m m' fl fl' w =
      let r = nils_alike b clock (below First k) (parts First past) (part First free) (part First free') (part First i) (part First j) t u h.1.0 h'.1.0 (λ p. m (First ∷ p)) (λ p. m' (First ∷ p)) (λ p. fl (First ∷ p)) (λ p. fl' (First ∷ p)) w in
      let n = newest Nil (parts Second past) in
      ap is_nil (m [] ∙ if_so (holds types clock names) _ Absent t ∙ ap (λ z. at_first (parts First past) z n) (sym (m (First ∷ []))))
      ∙ first_nil (parts First past) (i (First ∷ [])) (j (First ∷ [])) n n r refl
      ∙ sym (ap is_nil (m' [] ∙ if_so (holds types clock names') _ Absent u ∙ ap (λ z. at_first (parts First past) z n) (sym (m' (First ∷ [])))))
  nils_alike (arrow a b c) clock k past free free' i j t u h h' m m' fl fl' w =
      let r = nils_alike b clock (below First k) (parts First past) (part First free) (part First free') (part First i) (part First j) t u h.1.0 h'.1.0 (λ p. m (First ∷ p)) (λ p. m' (First ∷ p)) (λ p. fl (First ∷ p)) (λ p. fl' (First ∷ p)) w.0 in
      let q = nils_alike c clock (below Second k) (parts Second past) (part Second free) (part Second free') (part Second i) (part Second j) t u h.1.1 h'.1.1 (λ p. m (Second ∷ p)) (λ p. m' (Second ∷ p)) (λ p. fl (Second ∷ p)) (λ p. fl' (Second ∷ p)) w.1 in
      ap is_nil (m [] ∙ ap₂ (λ x y. at_first (parts First past) x y) (sym (m (First ∷ []))) (sym (m (Second ∷ []))))
      ∙ first_nil (parts First past) (i (First ∷ [])) (j (First ∷ [])) (i (Second ∷ [])) (j (Second ∷ [])) r q
      ∙ sym (ap is_nil (m' [] ∙ ap₂ (λ x y. at_first (parts First past) x y) (sym (m' (First ∷ []))) (sym (m' (Second ∷ [])))))
  nils_alike (when_is a b c x) clock k past free free' i j t u h h' m m' fl fl' w =
      let r = nils_alike b (without clock) (below First k) (parts First past) (part First free) (part First free') (part First i) (part First j) (without_there types clock names t) (without_there types clock names' u) h.1 h'.1 (λ p. m (First ∷ p)) (λ p. m' (First ∷ p)) (λ p. fl (First ∷ p)) (λ p. fl' (First ∷ p)) w.1 in
      let e : i [] ≡ (if is_cons types (names x) c then i (First ∷ []) else Absent) = m [] ∙ ap (λ z. if is_cons types (names x) c then z else Absent) (sym (m (First ∷ []))) in
      let e' : j [] ≡ (if is_cons types (names' x) c then j (First ∷ []) else Absent) = m' [] ∙ ap (λ z. if is_cons types (names' x) c then z else Absent) (sym (m' (First ∷ []))) in
      both_fit types (holds types clock names) (holds types clock names') (value_type s (when_is a b c x)) (is_second second (when_is a b c x) && true) (i []) (j []) t u h.0 h'.0
      (λ y z.
      ap is_nil (e ∙ when_there (is_cons types (names x) c) (i (First ∷ [])) (ap is_there (sym e) ∙ y)) ∙ r
      ∙ sym (ap is_nil (e' ∙ when_there (is_cons types (names' x) c) (j (First ∷ [])) (ap is_there (sym e') ∙ z))))
