-- An early place that one instant looks at is looked at by each other instant after the same past.
use Rattle.std.proofs.Common.{◌≡◌, ◌⊎◌, inl, inr, ℕ, suc, List, [], ◌∷◌, ◌++◌, map, refl, sym, ap, ap₂, ◌∙◌}
use Rattle.std.specs.Prelude.{⊤, Bool, true, false, ◌&&◌, ◌||◌, if◌then◌else◌, Option, None, Some}
use Rattle.std.specs.Str.{bytes_eq}
use Rattle.hp_base.specs.declared.span.Span.{Span}
use Rattle.hp_base.specs.declared.ty.Ty.{Ty}
use Rattle.hp_base.specs.declared.ty.Ty.TheVariants as ty
use Rattle.hp_base.specs.declared.value.Value.{Value}
use Rattle.hp_base.specs.declared.value.Value.TheVariants.{Absent, Nil, B, E, I, Star}
use Rattle.hp_tree.specs.declared.block.Trans.{Trans}
use Rattle.hp_tree.specs.declared.expr.Op2.{Op2}
use Rattle.hp_tree.specs.declared.program.Item.{Item}
use Rattle.hp_tree.specs.declared.program.Item.TheVariants.{TypeItem, NodeItem}
use Rattle.hp_tree.specs.Expressions.{Expr, constant, variable, last_of, one, two, choose, pre, fby, arrow, when_is, merge, call, Exprs, no_expr, more_exprs, Parts, no_part, more_parts}
use Rattle.hp_tree.specs.Blocks.{Decl, Eqns, no_eqn, more_eqns, Eqn, define, switch, reset, automaton, States, no_state, more_states}
use Rattle.hp_tree.specs.Programs.{TypeDecl, Contract}
use Rattle.hp_tree.specs.Operators.{abstraction, is_there, is_comparison, two_marked}
use Rattle.hp_tree.specs.Instant.{Step, Named, Fresh, Head, Tail, Right, Test, States as StatesOf, Unless, First, Second, Third, Args, Instance, Place, Instant, Past, Given, part, parts, nothing, in_row, since, top, Clock, holds, without}
use Rattle.hp_tree.specs.Meaning.{Names, Nodes, Jump, no_nodes, clock_of, expr, exprs, merged, conditions, equation, equations, states, observer}
use Rattle.hp_meaning.specs.Causal.Abstract.{callees, contract_alone}
use Rattle.hp_meaning.specs.Causal.Sources.{Sources, none, only, both, also, NameSources, Within}
use Rattle.hp_meaning.specs.Causal.WhatIsRead.{of_expr}
use Rattle.law_judged.specs.Typed.Scopes.{Scope}
use Rattle.hp_init.specs.Classes.{Classes, Assignment, is_second}
use Rattle.hp_meaning.specs.Contract.FreePlaces.{FreeClocks, by_step, if_compared, free_in, free_in_all, free_in_parts, free_in_conditions, free_in_states, free_in_equation, free_in_equations}
use Rattle.law_values.specs.Valued.Values.{Classing}
use Rattle.law_games.specs.Abstracted.Fitting.{HasValue, Fits, value_type, ExprFits, ExprsFit, PartsFit, TestsFit, EqnsFit, EqnFits, StatesFit}
use Rattle.law_games.specs.Abstracted.Instances.{CalledFits}
use Rattle.law_choices.specs.Chosen.Laws.{is_mark, is_seen}
use Rattle.law_choices.proofs.ChosenLemmas.Nils.{is_nil, Alike, Flags, nils_alike}

-- An instant looks at a place: at a comparison of two marks, which holds what is given there, or at an output of a call that is there.
abbrev pub Served : Instant → Instant → Place → Type 0
Served j free p =
    ((j (p ++ (First ∷ [])) ≡ Star) × ((j (p ++ (Second ∷ [])) ≡ Star) × (j p ≡ free p)))
    ⊎ ((q : Place) × (x : List ℕ) × (p ≡ q ++ (Instance ∷ Named x ∷ [])) × (is_there (j (q ++ (Instance ∷ Fresh ∷ []))) ≡ true))

pub served_below : (t : Step) (j free : Instant) (p : Place) → Served (part t j) (part t free) p → Served j free (t ∷ p)
served_below t j free p (inl h) = inl h
served_below t j free p (inr (q, x, e, h)) = inr (t ∷ q, x, ap (λ z. t ∷ z) e, h)

-- ---- values

star_of : (v : Value) → is_mark v ≡ true → v ≡ Star
star_of Star e = refl
star_of Absent e = absurd (cc)
star_of Nil e = absurd (cc)
star_of (B b) e = absurd (cc)
star_of (E t k) e = absurd (cc)
star_of (I n) e = absurd (cc)

both_true : (a b : Bool) → (a && b) ≡ true → (a ≡ true) × (b ≡ true)
both_true true true e = (refl, refl)
both_true true false e = absurd (cc)
both_true false b e = absurd (cc)

one_true : {X : Type 0} (a b : Bool) → (a || b) ≡ true → (a ≡ true → X) → (b ≡ true → X) → X
one_true true b e f g = f refl
one_true false b e f g = g e

never : {X : Type 0} → false ≡ true → X
never e = absurd (cc)

integer_star : (types : List TypeDecl) (nil : Bool) (w : Value) → HasValue types ty.Int nil w → false ≡ is_nil w → w ≡ Star
integer_star types nil Nil k e = absurd (cc)
integer_star types nil Absent k e = k
integer_star types nil (B b) k e = k
integer_star types nil (E t n) k e = k
integer_star types nil (I n) k e = k
integer_star types nil Star k e = refl

type_star : (types : List TypeDecl) (t : Ty) (nil : Bool) (v w : Value) → HasValue types t nil v → HasValue types t nil w → v ≡ Star → is_nil v ≡ is_nil w → w ≡ Star
type_star types ty.Int nil Star w h k e n = integer_star types nil w k n
type_star types ty.Bool nil Star w h k e n = absurd h
type_star types (ty.Enum t) nil Star w h k e n = absurd h
type_star types t nil Absent w h k e n = absurd (cc)
type_star types t nil Nil w h k e n = absurd (cc)
type_star types t nil (B b) w h k e n = absurd (cc)
type_star types t nil (E s m) w h k e n = absurd (cc)
type_star types t nil (I m) w h k e n = absurd (cc)

absent_star : {X : Type 0} (v : Value) → v ≡ Absent → v ≡ Star → X
absent_star v e f = absurd (let h : Absent ≡ Star = sym e ∙ f in cc)

star_alike : (types : List TypeDecl) (a b : Bool) (o : Option Ty) (nil : Bool) (v w : Value) → a ≡ true → b ≡ true → Fits types a o nil v → Fits types b o nil w → v ≡ Star → is_nil v ≡ is_nil w → w ≡ Star
star_alike types true true (Some t) nil v w e f h k s n = type_star types t nil v w h k s n
star_alike types true true None nil v w e f h k s n = absent_star v h s
star_alike types false b o nil v w e f h k s n = never e
star_alike types true false o nil v w e f h k s n = never f

-- ---- instances

observer_named : (types : List TypeDecl) (k : Option Contract) (names last : Names) (g : Given) (now : Instant) (x : List ℕ) → observer types abstraction no_nodes k names last g now (Named x ∷ First ∷ []) ≡ Absent
observer_named types None names last g now x = refl
observer_named types (Some c) names last g now x = refl

if_absent : (d : Bool) (v w : Value) → v ≡ Absent → w ≡ Absent → (if d then v else w) ≡ Absent
if_absent true v w h k = h
if_absent false v w h k = k

no_operand : (types : List TypeDecl) (items : List Item) (f : List ℕ) (vs : List Value) (g : Given) (i : Instant) (x : List ℕ) → (callees types items).instant f vs g i (Named x ∷ First ∷ []) ≡ Absent
no_operand types [] f vs g i x = refl
no_operand types (TypeItem t ∷ items) f vs g i x = no_operand types items f vs g i x
no_operand types (NodeItem n ∷ items) f vs g i x =
    by (bytes_eq n.name f) (contract_alone types n vs g i) ((callees types items).instant f vs g i) (observer_named types n.contract _ _ g i x) (no_operand types items f vs g i x)
  where
    by : (d : Bool) (X Y : Instant) → X (Named x ∷ First ∷ []) ≡ Absent → Y (Named x ∷ First ∷ []) ≡ Absent → (if d then X else Y) (Named x ∷ First ∷ []) ≡ Absent
    by true X Y h k = h
    by false X Y h k = k

same_word : (types : List TypeDecl) (items : List Item) (f : List ℕ) (vs vs' : List Value) (g g' : Given) (i i' : Instant) → (callees types items).instant f vs g i (Fresh ∷ []) ≡ (callees types items).instant f vs' g' i' (Fresh ∷ [])
same_word types [] f vs vs' g g' i i' = refl
same_word types (TypeItem t ∷ items) f vs vs' g g' i i' = same_word types items f vs vs' g g' i i'
same_word types (NodeItem n ∷ items) f vs vs' g g' i i' =
    by (bytes_eq n.name f) (contract_alone types n vs g i) ((callees types items).instant f vs g i) (contract_alone types n vs' g' i') ((callees types items).instant f vs' g' i') refl (same_word types items f vs vs' g g' i i')
  where
    by : (d : Bool) (X Y X' Y' : Instant) → X (Fresh ∷ []) ≡ X' (Fresh ∷ []) → Y (Fresh ∷ []) ≡ Y' (Fresh ∷ []) → (if d then X else Y) (Fresh ∷ []) ≡ (if d then X' else Y') (Fresh ∷ [])
    by true X Y X' Y' h k = h
    by false X Y X' Y' h k = k

-- ---- clocks of places

abbrev base : Clock
base = []

not_free : {X : Type 0} → None ≡ Some base → X
not_free e = absurd (cc)

some_same : (c d : Clock) → Some c ≡ Some d → c ≡ d
some_same c d e = cc

compared : (t : Bool) (clock : Clock) (ks : List (Step × FreeClocks)) → if_compared t clock (by_step ks) [] ≡ Some base → (t ≡ true) × (clock ≡ [])
compared true clock ks e = (refl, some_same clock [] e)
compared false clock ks e = not_free e

compared_below : (t : Bool) (clock : Clock) (k : FreeClocks) (s : Step) (p : Place) → if_compared t clock k (s ∷ p) ≡ k (s ∷ p)
compared_below true clock k s p = refl
compared_below false clock k s p = refl

within_any : (s : Sources) → Within (λ q. ⊤) s
within_any none = tt
within_any (only p) = tt
within_any (both s t) = (within_any s, within_any t)
within_any (also s) = within_any s

-- ---- expressions

module _ (types : List TypeDecl) (items : List Item) (cls : Classing) (s : Scope) (second : Classes) (reads : NameSources) (names names' last : Names) (alike : (x : List ℕ) → Within (λ q. ⊤) (reads x) → second x ≡ true → Alike (names x) (names' x)) where
  abbrev N : Nodes
  N = callees types items

  abbrev callee : List ℕ → Instant → Type 0
  callee f i = CalledFits types true cls items f i

  abbrev with_past : Past → Instant → Given
  with_past past free = record { past = past; free = free }

  abbrev Fit : Names → Expr → Clock → Instant → Type 0
  Fit ns e clock i = ExprFits types true callee s second (λ c. holds types c ns) e clock i

  abbrev Is : Names → Expr → Clock → Past → Instant → Instant → Type 0
  Is ns e clock past free i = (p : Place) → i p ≡ expr types abstraction N e clock ns last (with_past past free) i p

  top_fits : (ns : Names) (e : Expr) (clock : Clock) (i : Instant) → Fit ns e clock i → Fits types (holds types clock ns) (value_type s e) (is_second second e && true) (i [])
  top_fits ns (constant a c) clock i h = h
  top_fits ns (variable a c) clock i h = h
  top_fits ns (last_of a c) clock i h = h
  top_fits ns (one a o b) clock i h = h.0
  top_fits ns (two a o b c) clock i h = h.0
  top_fits ns (choose a b c d) clock i h = h.0
  top_fits ns (pre a b) clock i h = h.0
  top_fits ns (fby a b c) clock i h = h.0
  top_fits ns (arrow a b c) clock i h = h.0
  top_fits ns (when_is a b c x) clock i h = h.0
  top_fits ns (merge a x ps) clock i h = h.0
  top_fits ns (call a f inlined es) clock i h = h.0

  -- an operand that is a mark in one instant is one in the other
  operand : (e : Expr) (clock : Clock) (past : Past) (free free' i j : Instant) → clock ≡ [] → Fit names e clock i → Fit names' e clock j → Is names e clock past free i → Is names' e clock past free' j → Flags i free → Flags j free' → is_mark (i []) ≡ true → j [] ≡ Star
  operand e clock past free free' i j c h h' m m' fl fl' a =
      let t = ap (λ z. holds types z names) c in
      let u = ap (λ z. holds types z names') c in
      star_alike types (holds types clock names) (holds types clock names') (value_type s e) (is_second second e && true) (i []) (j []) t u (top_fits names e clock i h) (top_fits names' e clock j h') (star_of (i []) a)
      (nils_alike (λ q. ⊤) types N callee s second reads names names' last alike e clock (λ q. none) past free free' i j t u h h' m m' fl fl' (within_any (of_expr e reads (λ q. none))))

  comparison : (a : Span) (o : Op2) (b c : Expr) (clock : Clock) (past : Past) (free free' i j : Instant) → is_comparison o ≡ true → clock ≡ [] → Fit names (two a o b c) clock i → Fit names' (two a o b c) clock j → Is names (two a o b c) clock past free i → Is names' (two a o b c) clock past free' j → Flags i free → Flags j free'
      → is_seen i [] ≡ true → Served j free' []
  comparison a o b c clock past free free' i j t e h h' m m' fl fl' seen =
      one_true (is_mark (i (First ∷ [])) && is_mark (i (Second ∷ []))) false seen
      (λ y.
      let q = both_true (is_mark (i (First ∷ []))) (is_mark (i (Second ∷ []))) y in
      let f = operand b clock (parts First past) (part First free) (part First free') (part First i) (part First j) e h.1.0 h'.1.0 (λ p. m (First ∷ p)) (λ p. m' (First ∷ p)) (λ p. fl (First ∷ p)) (λ p. fl' (First ∷ p)) q.0 in
      let g = operand c clock (parts Second past) (part Second free) (part Second free') (part Second i) (part Second j) e h.1.1 h'.1.1 (λ p. m (Second ∷ p)) (λ p. m' (Second ∷ p)) (λ p. fl (Second ∷ p)) (λ p. fl' (Second ∷ p)) q.1 in
      inl (f, (g, m' [] ∙ ap₂ (λ x y. two_marked o (free' []) x y) (sym (m' (First ∷ [])) ∙ f) (sym (m' (Second ∷ [])) ∙ g) ∙ ap (λ z. if z then free' [] else Star) t)))
      (λ y. never y)

  instance_at : (ns : Names) (f : List ℕ) (clock : Clock) (vs : List Value) (g : Given) (i : Instant) → clock ≡ [] → ((p : Place) → i p ≡ (if holds types clock ns then N.instant f vs g i else nothing) p) → (p : Place) → i p ≡ N.instant f vs g i p
  instance_at ns f clock vs g i e m p = m p ∙ ap (λ z. (if holds types z ns then N.instant f vs g i else nothing) p) e

  called : (f : List ℕ) (vs vs' : List Value) (g g' : Given) (i j : Instant) (x : List ℕ) (free' : Instant) → ((p : Place) → part Instance i p ≡ N.instant f vs g (part Instance i) p) → ((p : Place) → part Instance j p ≡ N.instant f vs' g' (part Instance j) p) → is_seen i (Instance ∷ Named x ∷ []) ≡ true
      → Served j free' (Instance ∷ Named x ∷ [])
  called f vs vs' g g' i j x free' m m' seen =
      one_true (is_mark (i (Instance ∷ Named x ∷ First ∷ [])) && is_mark (i (Instance ∷ Named x ∷ Second ∷ []))) (is_there (i (Instance ∷ Fresh ∷ []))) seen
      (λ y. absent_star (i (Instance ∷ Named x ∷ First ∷ [])) (m (Named x ∷ First ∷ []) ∙ no_operand types items f vs g (part Instance i) x) (star_of (i (Instance ∷ Named x ∷ First ∷ [])) (both_true (is_mark (i (Instance ∷ Named x ∷ First ∷ []))) (is_mark (i (Instance ∷ Named x ∷ Second ∷ []))) y).0))
      (λ y. inr ([], x, refl, ap is_there (m' (Fresh ∷ []) ∙ same_word types items f vs' vs g' g (part Instance j) (part Instance i) ∙ sym (m (Fresh ∷ []))) ∙ y))

  mutual
    pub expr_served : (e : Expr) (clock : Clock) (past : Past) (free free' i j : Instant) → Fit names e clock i → Fit names' e clock j → Is names e clock past free i → Is names' e clock past free' j → Flags i free → Flags j free' → (p : Place) → free_in e clock p ≡ Some base → is_seen i p ≡ true → Served j free' p
    expr_served (constant a c) clock past free free' i j h h' m m' fl fl' p e seen = not_free e
    expr_served (variable a x) clock past free free' i j h h' m m' fl fl' p e seen = not_free e
    expr_served (last_of a x) clock past free free' i j h h' m m' fl fl' p e seen = not_free e
    expr_served (one a o b) clock past free free' i j h h' m m' fl fl' (First ∷ p) e seen =
        served_below First j free' p (expr_served b clock (parts First past) (part First free) (part First free') (part First i) (part First j) h.1 h'.1 (λ q. m (First ∷ q)) (λ q. m' (First ∷ q)) (λ q. fl (First ∷ q)) (λ q. fl' (First ∷ q)) p e seen)
    expr_served (one a o b) clock past free free' i j h h' m m' fl fl' p e seen = not_free e
    expr_served (two a o b c) clock past free free' i j h h' m m' fl fl' [] e seen =
        let q = compared (is_comparison o) clock ((First, free_in b clock) ∷ (Second, free_in c clock) ∷ []) e in comparison a o b c clock past free free' i j q.0 q.1 h h' m m' fl fl' seen
    expr_served (two a o b c) clock past free free' i j h h' m m' fl fl' (First ∷ p) e seen =
        served_below First j free' p (expr_served b clock (parts First past) (part First free) (part First free') (part First i) (part First j) h.1.0 h'.1.0 (λ q. m (First ∷ q)) (λ q. m' (First ∷ q)) (λ q. fl (First ∷ q)) (λ q. fl' (First ∷ q)) p
        (sym (compared_below (is_comparison o) clock (by_step ((First, free_in b clock) ∷ (Second, free_in c clock) ∷ [])) First p) ∙ e) seen)
    expr_served (two a o b c) clock past free free' i j h h' m m' fl fl' (Second ∷ p) e seen =
        served_below Second j free' p (expr_served c clock (parts Second past) (part Second free) (part Second free') (part Second i) (part Second j) h.1.1 h'.1.1 (λ q. m (Second ∷ q)) (λ q. m' (Second ∷ q)) (λ q. fl (Second ∷ q)) (λ q. fl' (Second ∷ q)) p
        (sym (compared_below (is_comparison o) clock (by_step ((First, free_in b clock) ∷ (Second, free_in c clock) ∷ [])) Second p) ∙ e) seen)
    expr_served (two a o b c) clock past free free' i j h h' m m' fl fl' (t ∷ p) e seen = not_free (sym (compared_below (is_comparison o) clock (by_step ((First, free_in b clock) ∷ (Second, free_in c clock) ∷ [])) t p) ∙ e)
    expr_served (choose a b c d) clock past free free' i j h h' m m' fl fl' (First ∷ p) e seen =
        served_below First j free' p (expr_served b clock (parts First past) (part First free) (part First free') (part First i) (part First j) h.1.0 h'.1.0 (λ q. m (First ∷ q)) (λ q. m' (First ∷ q)) (λ q. fl (First ∷ q)) (λ q. fl' (First ∷ q)) p e seen)
    expr_served (choose a b c d) clock past free free' i j h h' m m' fl fl' (Second ∷ p) e seen =
        served_below Second j free' p (expr_served c clock (parts Second past) (part Second free) (part Second free') (part Second i) (part Second j) h.1.1.0 h'.1.1.0 (λ q. m (Second ∷ q)) (λ q. m' (Second ∷ q)) (λ q. fl (Second ∷ q)) (λ q. fl' (Second ∷ q)) p e seen)
    expr_served (choose a b c d) clock past free free' i j h h' m m' fl fl' (Third ∷ p) e seen =
        served_below Third j free' p (expr_served d clock (parts Third past) (part Third free) (part Third free') (part Third i) (part Third j) h.1.1.1 h'.1.1.1 (λ q. m (Third ∷ q)) (λ q. m' (Third ∷ q)) (λ q. fl (Third ∷ q)) (λ q. fl' (Third ∷ q)) p e seen)
    expr_served (choose a b c d) clock past free free' i j h h' m m' fl fl' p e seen = not_free e
    expr_served (pre a b) clock past free free' i j h h' m m' fl fl' (First ∷ p) e seen =
        served_below First j free' p (expr_served b clock (parts First past) (part First free) (part First free') (part First i) (part First j) h.1 h'.1 (λ q. m (First ∷ q)) (λ q. m' (First ∷ q)) (λ q. fl (First ∷ q)) (λ q. fl' (First ∷ q)) p e seen)
    expr_served (pre a b) clock past free free' i j h h' m m' fl fl' p e seen = not_free e
    expr_served (fby a b c) clock past free free' i j h h' m m' fl fl' (First ∷ p) e seen =
        served_below First j free' p (expr_served b clock (parts First past) (part First free) (part First free') (part First i) (part First j) h.1.0 h'.1.0 (λ q. m (First ∷ q)) (λ q. m' (First ∷ q)) (λ q. fl (First ∷ q)) (λ q. fl' (First ∷ q)) p e seen)
    expr_served (fby a b c) clock past free free' i j h h' m m' fl fl' (Second ∷ p) e seen =
        served_below Second j free' p (expr_served c clock (parts Second past) (part Second free) (part Second free') (part Second i) (part Second j) h.1.1 h'.1.1 (λ q. m (Second ∷ q)) (λ q. m' (Second ∷ q)) (λ q. fl (Second ∷ q)) (λ q. fl' (Second ∷ q)) p e seen)
    expr_served (fby a b c) clock past free free' i j h h' m m' fl fl' p e seen = not_free e
    expr_served (arrow a b c) clock past free free' i j h h' m m' fl fl' (First ∷ p) e seen =
        served_below First j free' p (expr_served b clock (parts First past) (part First free) (part First free') (part First i) (part First j) h.1.0 h'.1.0 (λ q. m (First ∷ q)) (λ q. m' (First ∷ q)) (λ q. fl (First ∷ q)) (λ q. fl' (First ∷ q)) p e seen)
    expr_served (arrow a b c) clock past free free' i j h h' m m' fl fl' (Second ∷ p) e seen =
        served_below Second j free' p (expr_served c clock (parts Second past) (part Second free) (part Second free') (part Second i) (part Second j) h.1.1 h'.1.1 (λ q. m (Second ∷ q)) (λ q. m' (Second ∷ q)) (λ q. fl (Second ∷ q)) (λ q. fl' (Second ∷ q)) p e seen)
    expr_served (arrow a b c) clock past free free' i j h h' m m' fl fl' p e seen = not_free e
    expr_served (when_is a b c x) clock past free free' i j h h' m m' fl fl' (First ∷ p) e seen =
        served_below First j free' p (expr_served b (without clock) (parts First past) (part First free) (part First free') (part First i) (part First j) h.1 h'.1 (λ q. m (First ∷ q)) (λ q. m' (First ∷ q)) (λ q. fl (First ∷ q)) (λ q. fl' (First ∷ q)) p e seen)
    expr_served (when_is a b c x) clock past free free' i j h h' m m' fl fl' p e seen = not_free e
    expr_served (merge a x ps) clock past free free' i j h h' m m' fl fl' (Args ∷ p) e seen =
        served_below Args j free' p (parts_served ps x clock (parts Args past) (part Args free) (part Args free') (part Args i) (part Args j) h.1 h'.1 (λ q. m (Args ∷ q)) (λ q. m' (Args ∷ q)) (λ q. fl (Args ∷ q)) (λ q. fl' (Args ∷ q)) p e seen)
    expr_served (merge a x ps) clock past free free' i j h h' m m' fl fl' p e seen = not_free e
    expr_served (call a f inlined es) clock past free free' i j h h' m m' fl fl' (Args ∷ p) e seen =
        served_below Args j free' p (exprs_served es clock (parts Args past) (part Args free) (part Args free') (part Args i) (part Args j) h.1.0 h'.1.0 (λ q. m (Args ∷ q)) (λ q. m' (Args ∷ q)) (λ q. fl (Args ∷ q)) (λ q. fl' (Args ∷ q)) p e seen)
    expr_served (call a f inlined es) clock past free free' i j h h' m m' fl fl' (Instance ∷ Named x ∷ []) e seen =
        let c = some_same clock [] e in
        let vs = map top (exprs types abstraction N es clock names last (with_past (parts Args past) (part Args free)) (part Args i)) in
        let vs' = map top (exprs types abstraction N es clock names' last (with_past (parts Args past) (part Args free')) (part Args j)) in
        let g = since false (with_past (parts Instance past) (part Instance free)) in
        let g' = since false (with_past (parts Instance past) (part Instance free')) in
        called f vs vs' g g' i j x free' (instance_at names f clock vs g (part Instance i) c (λ q. m (Instance ∷ q))) (instance_at names' f clock vs' g' (part Instance j) c (λ q. m' (Instance ∷ q))) seen
    expr_served (call a f inlined es) clock past free free' i j h h' m m' fl fl' p e seen = not_free e

    exprs_served : (es : Exprs) (clock : Clock) (past : Past) (free free' i j : Instant) → ExprsFit types true callee s second (λ c. holds types c names) es clock i → ExprsFit types true callee s second (λ c. holds types c names') es clock j
        → ((p : Place) → i p ≡ in_row (exprs types abstraction N es clock names last (with_past past free) i) p) → ((p : Place) → j p ≡ in_row (exprs types abstraction N es clock names' last (with_past past free') j) p)
        → Flags i free → Flags j free' → (p : Place) → free_in_all es clock p ≡ Some base → is_seen i p ≡ true → Served j free' p
    exprs_served no_expr clock past free free' i j h h' m m' fl fl' p e seen = not_free e
    exprs_served (more_exprs a es) clock past free free' i j h h' m m' fl fl' (Head ∷ p) e seen =
        served_below Head j free' p (expr_served a clock (parts Head past) (part Head free) (part Head free') (part Head i) (part Head j) h.0 h'.0 (λ q. m (Head ∷ q)) (λ q. m' (Head ∷ q)) (λ q. fl (Head ∷ q)) (λ q. fl' (Head ∷ q)) p e seen)
    exprs_served (more_exprs a es) clock past free free' i j h h' m m' fl fl' (Tail ∷ p) e seen =
        served_below Tail j free' p (exprs_served es clock (parts Tail past) (part Tail free) (part Tail free') (part Tail i) (part Tail j) h.1 h'.1 (λ q. m (Tail ∷ q)) (λ q. m' (Tail ∷ q)) (λ q. fl (Tail ∷ q)) (λ q. fl' (Tail ∷ q)) p e seen)
    exprs_served (more_exprs a es) clock past free free' i j h h' m m' fl fl' p e seen = not_free e

    parts_served : (ps : Parts) (x : List ℕ) (clock : Clock) (past : Past) (free free' i j : Instant) → PartsFit types true callee s second (λ c. holds types c names) ps x clock i → PartsFit types true callee s second (λ c. holds types c names') ps x clock j
        → ((p : Place) → i p ≡ in_row (merged types abstraction N ps x clock names last (with_past past free) i) p) → ((p : Place) → j p ≡ in_row (merged types abstraction N ps x clock names' last (with_past past free') j) p)
        → Flags i free → Flags j free' → (p : Place) → free_in_parts ps x clock p ≡ Some base → is_seen i p ≡ true → Served j free' p
    parts_served no_part x clock past free free' i j h h' m m' fl fl' p e seen = not_free e
    parts_served (more_parts c a ps) x clock past free free' i j h h' m m' fl fl' (Head ∷ p) e seen =
        served_below Head j free' p (expr_served a ((c, x) ∷ clock) (parts Head past) (part Head free) (part Head free') (part Head i) (part Head j) h.0 h'.0 (λ q. m (Head ∷ q)) (λ q. m' (Head ∷ q)) (λ q. fl (Head ∷ q)) (λ q. fl' (Head ∷ q)) p e seen)
    parts_served (more_parts c a ps) x clock past free free' i j h h' m m' fl fl' (Tail ∷ p) e seen =
        served_below Tail j free' p (parts_served ps x clock (parts Tail past) (part Tail free) (part Tail free') (part Tail i) (part Tail j) h.1 h'.1 (λ q. m (Tail ∷ q)) (λ q. m' (Tail ∷ q)) (λ q. fl (Tail ∷ q)) (λ q. fl' (Tail ∷ q)) p e seen)
    parts_served (more_parts c a ps) x clock past free free' i j h h' m m' fl fl' p e seen = not_free e

  -- ---- equations

  tests_served : (ts : List Trans) (past : Past) (free free' i j : Instant) → TestsFit types true callee s second (λ c. holds types c names) ts i → TestsFit types true callee s second (λ c. holds types c names') ts j
      → ((p : Place) → i p ≡ in_row (conditions types abstraction N ts names last (with_past past free) i) p) → ((p : Place) → j p ≡ in_row (conditions types abstraction N ts names' last (with_past past free') j) p)
      → Flags i free → Flags j free' → (p : Place) → free_in_conditions ts p ≡ Some base → is_seen i p ≡ true → Served j free' p
  tests_served [] past free free' i j h h' m m' fl fl' p e seen = not_free e
  tests_served (t ∷ ts) past free free' i j h h' m m' fl fl' (Head ∷ p) e seen =
      served_below Head j free' p (expr_served t.cond [] (parts Head past) (part Head free) (part Head free') (part Head i) (part Head j) h.0 h'.0 (λ q. m (Head ∷ q)) (λ q. m' (Head ∷ q)) (λ q. fl (Head ∷ q)) (λ q. fl' (Head ∷ q)) p e seen)
  tests_served (t ∷ ts) past free free' i j h h' m m' fl fl' (Tail ∷ p) e seen =
      served_below Tail j free' p (tests_served ts (parts Tail past) (part Tail free) (part Tail free') (part Tail i) (part Tail j) h.1 h'.1 (λ q. m (Tail ∷ q)) (λ q. m' (Tail ∷ q)) (λ q. fl (Tail ∷ q)) (λ q. fl' (Tail ∷ q)) p e seen)
  tests_served (t ∷ ts) past free free' i j h h' m m' fl fl' p e seen = not_free e

  states_served : (ss : States) (inner : Classes) (class : Assignment) (in_i in_j r_i r_j : Names) (v v' : Value) (k : ℕ) (a b : Jump) (past : Past) (free free' i j : Instant)
      → StatesFit types true callee s second inner class names in_i v k ss i → StatesFit types true callee s second inner class names' in_j v' k ss j
      → ((p : Place) → i p ≡ states types abstraction N ss k a names r_i last (with_past past free) i p) → ((p : Place) → j p ≡ states types abstraction N ss k b names' r_j last (with_past past free') j p)
      → Flags i free → Flags j free' → (p : Place) → free_in_states ss p ≡ Some base → is_seen i p ≡ true → Served j free' p
  states_served no_state inner class in_i in_j r_i r_j v v' k a b past free free' i j h h' m m' fl fl' p e seen = not_free e
  states_served (more_states f bl until unless at ss) inner class in_i in_j r_i r_j v v' k a b past free free' i j h h' m m' fl fl' (Head ∷ Unless ∷ p) e seen =
      served_below Head j free' (Unless ∷ p) (served_below Unless (part Head j) (part Head free') p
      (tests_served unless (parts Unless (parts Head past)) (part Unless (part Head free)) (part Unless (part Head free')) (part Unless (part Head i)) (part Unless (part Head j)) h.0.1.1 h'.0.1.1 (λ q. m (Head ∷ Unless ∷ q)) (λ q. m' (Head ∷ Unless ∷ q)) (λ q. fl (Head ∷ Unless ∷ q)) (λ q. fl' (Head ∷ Unless ∷ q)) p e seen))
  states_served (more_states f bl until unless at ss) inner class in_i in_j r_i r_j v v' k a b past free free' i j h h' m m' fl fl' (Tail ∷ p) e seen =
      served_below Tail j free' p (states_served ss inner (λ q. class (Tail ∷ q)) in_i in_j r_i r_j v v' (suc k) a b (parts Tail past) (part Tail free) (part Tail free') (part Tail i) (part Tail j) h.1 h'.1 (λ q. m (Tail ∷ q)) (λ q. m' (Tail ∷ q)) (λ q. fl (Tail ∷ q)) (λ q. fl' (Tail ∷ q)) p e seen)
  states_served (more_states f bl until unless at ss) inner class in_i in_j r_i r_j v v' k a b past free free' i j h h' m m' fl fl' p e seen = not_free e

  equation_served : (ds : List Decl) (q : Eqn) (class : Assignment) (past : Past) (free free' i j : Instant) → EqnFits types true callee ds s second class names q i → EqnFits types true callee ds s second class names' q j
      → ((p : Place) → i p ≡ equation types abstraction N ds q names last (with_past past free) i p) → ((p : Place) → j p ≡ equation types abstraction N ds q names' last (with_past past free') j p)
      → Flags i free → Flags j free' → (p : Place) → free_in_equation ds q p ≡ Some base → is_seen i p ≡ true → Served j free' p
  equation_served ds (define a ys b) class past free free' i j h h' m m' fl fl' (Right ∷ p) e seen =
      served_below Right j free' p (expr_served b (clock_of ds ys b) (parts Right past) (part Right free) (part Right free') (part Right i) (part Right j) h h' (λ q. m (Right ∷ q)) (λ q. m' (Right ∷ q)) (λ q. fl (Right ∷ q)) (λ q. fl' (Right ∷ q)) p e seen)
  equation_served ds (define a ys b) class past free free' i j h h' m m' fl fl' p e seen = not_free e
  equation_served ds (switch a b arms) class past free free' i j h h' m m' fl fl' (Test ∷ p) e seen =
      served_below Test j free' p (expr_served b [] (parts Test past) (part Test free) (part Test free') (part Test i) (part Test j) h.0 h'.0 (λ q. m (Test ∷ q)) (λ q. m' (Test ∷ q)) (λ q. fl (Test ∷ q)) (λ q. fl' (Test ∷ q)) p e seen)
  equation_served ds (switch a b arms) class past free free' i j h h' m m' fl fl' p e seen = not_free e
  equation_served ds (reset a bl b) class past free free' i j h h' m m' fl fl' (Test ∷ p) e seen =
      served_below Test j free' p (expr_served b [] (parts Test past) (part Test free) (part Test free') (part Test i) (part Test j) h.0 h'.0 (λ q. m (Test ∷ q)) (λ q. m' (Test ∷ q)) (λ q. fl (Test ∷ q)) (λ q. fl' (Test ∷ q)) p e seen)
  equation_served ds (reset a bl b) class past free free' i j h h' m m' fl fl' p e seen = not_free e
  equation_served ds (automaton a ss) class past free free' i j h h' m m' fl fl' (StatesOf ∷ p) e seen =
      served_below StatesOf j free' p (states_served ss _ (λ q. class (StatesOf ∷ q)) _ _ _ _ _ _ 0 _ _ (parts StatesOf past) (part StatesOf free) (part StatesOf free') (part StatesOf i) (part StatesOf j) h.1.1.1.1 h'.1.1.1.1 (λ q. m (StatesOf ∷ q)) (λ q. m' (StatesOf ∷ q)) (λ q. fl (StatesOf ∷ q)) (λ q. fl' (StatesOf ∷ q)) p e seen)
  equation_served ds (automaton a ss) class past free free' i j h h' m m' fl fl' p e seen = not_free e

  pub equations_served : (ds : List Decl) (es : Eqns) (class : Assignment) (past : Past) (free free' i j : Instant) → EqnsFit types true callee ds s second class names es i → EqnsFit types true callee ds s second class names' es j
      → ((p : Place) → i p ≡ equations types abstraction N ds es names last (with_past past free) i p) → ((p : Place) → j p ≡ equations types abstraction N ds es names' last (with_past past free') j p)
      → Flags i free → Flags j free' → (p : Place) → free_in_equations ds es p ≡ Some base → is_seen i p ≡ true → Served j free' p
  equations_served ds no_eqn class past free free' i j h h' m m' fl fl' p e seen = not_free e
  equations_served ds (more_eqns q es) class past free free' i j h h' m m' fl fl' (Head ∷ p) e seen =
      served_below Head j free' p (equation_served ds q (λ q. class (Head ∷ q)) (parts Head past) (part Head free) (part Head free') (part Head i) (part Head j) h.0 h'.0 (λ q. m (Head ∷ q)) (λ q. m' (Head ∷ q)) (λ q. fl (Head ∷ q)) (λ q. fl' (Head ∷ q)) p e seen)
  equations_served ds (more_eqns q es) class past free free' i j h h' m m' fl fl' (Tail ∷ p) e seen =
      served_below Tail j free' p (equations_served ds es (λ q. class (Tail ∷ q)) (parts Tail past) (part Tail free) (part Tail free') (part Tail i) (part Tail j) h.1 h'.1 (λ q. m (Tail ∷ q)) (λ q. m' (Tail ∷ q)) (λ q. fl (Tail ∷ q)) (λ q. fl' (Tail ∷ q)) p e seen)
  equations_served ds (more_eqns q es) class past free free' i j h h' m m' fl fl' p e seen = not_free e
