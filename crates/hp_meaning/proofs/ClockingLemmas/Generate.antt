-- The equations of a unit hold where the unit allows the clocks.
use Rattle.std.proofs.Common.{◌≡◌, ℕ, List, [], ◌∷◌, ◌++◌, refl, sym, ap, ◌∙◌, subst}
use Rattle.std.proofs.lemmas.List.{append-nil}
use Rattle.std.specs.Prelude.{Option, None, Some}
use Rattle.hp_tree.specs.declared.decl.Cons.TheVariants.{True}
use Rattle.hp_tree.specs.Expressions.{Expr, constant, variable, last_of, one, two, choose, pre, fby, arrow, when_is, merge, call, Exprs, no_expr, more_exprs, Parts, no_part, more_parts}
use Rattle.hp_tree.specs.Instant.{Clock, without}
use Rattle.hp_meaning.specs.Causal.Clocked.{base_alone, ClockRight, IsOn, ExprsOn, PartsOn}
use Rattle.hp_meaning.specs.Clocking.Terms.{value, AllHold}
use Rattle.hp_meaning.specs.Clocking.Clocking.{On, Term, Assignment, base, Seen, nowhere, own, further, Sight, seen_on, standing, ClockUnit, declared, equated, tested, AllAre, Allows}
use Rattle.hp_meaning.specs.Clocking.Equations.{Equation, never, on_term, name_is, name_asks, name_term, of_expr, of_exprs, of_parts, of_clock, all_are, of_unit}
use Rattle.hp_meaning.proofs.ClockingLemmas.Unify.{not_empty}

-- two implications
abbrev pub Iff : Type 0 → Type 0 → Type 0
Iff A C = (A → C) × (C → A)

some_is : {A : Type 0} → A → Option A → A
some_is d None = d
some_is d (Some x) = x

pub from_some : {A : Type 0} (x y : A) → Some x ≡ Some y → x ≡ y
unfolding some_is
from_some x y e = ap (some_is x) e

pub base_cases : (c d : Clock) → base_alone (Some c) ≡ Some d → (c ≡ []) × (d ≡ [])
base_cases [] d e = (refl, sym (from_some [] d e))
base_cases (o ∷ c) d e = cc

pub base_made : (c d : Clock) → c ≡ [] → d ≡ [] → base_alone (Some c) ≡ Some d
base_made c d e f = ap (λ z. base_alone (Some z)) e ∙ ap Some (sym f)

module _ (at : Assignment) where
  pub all_in : (es fs : List Equation) → Iff (AllHold at (es ++ fs)) (AllHold at es × AllHold at fs)
  all_in [] fs = ((λ h. (tt, h)), λ h. h.1)
  all_in (e ∷ es) fs = ((λ h. let r = (all_in es fs).0 h.1 in ((h.0, r.0), r.1)), λ h. (h.0.0, (all_in es fs).1 (h.0.1, h.1)))

  both : {A C : Type 0} (es fs : List Equation) → Iff (AllHold at es) A → Iff (AllHold at fs) C → Iff (AllHold at (es ++ fs)) (A × C)
  both es fs f g =
      ((λ h. let r = (all_in es fs).0 h in (f.0 r.0, g.0 r.1)), λ h. (all_in es fs).1 (f.1 h.0, g.1 h.1))

  impossible : AllHold at never → ⊥
  impossible h = not_empty (True, []) [] (sym h.0)

  name_on : (s : Seen) (t : Term) → Iff (AllHold at (name_is s t)) (seen_on at s ≡ Some (value at t))
  name_on nowhere t = ((λ h. absurd (impossible h)), λ h. absurd (cc h))
  name_on (own u) t = ((λ h. ap Some h.0), λ h. (from_some (value at u) (value at t) h, tt))
  name_on (further u) t = (
    (λ h. base_made (value at u) (value at t) h.0 h.1.0),
    λ h. let r = base_cases (value at u) (value at t) h in (r.0, (r.1, tt)),
  )

  name_there : (s : Seen) → AllHold at (name_asks s) → seen_on at s ≡ Some (value at (name_term s))
  name_there nowhere h = absurd (impossible h)
  name_there (own u) h = refl
  name_there (further u) h = base_made (value at u) [] h.0 refl

  name_told : (s : Seen) (c : Clock) → seen_on at s ≡ Some c → AllHold at (name_asks s) × (value at (name_term s) ≡ c)
  name_told nowhere c h = absurd (cc h)
  name_told (own u) c h = (tt, from_some (value at u) c h)
  name_told (further u) c h = let r = base_cases (value at u) c h in ((r.0, tt), sym r.1)

  module _ (sight : Sight) where
    when_on : (a : Expr) (t : Term) (o : On) → Iff (AllHold at (of_expr sight a (name_term (sight o.1)))) (IsOn (standing at sight) a (value at (name_term (sight o.1)))) → Iff (AllHold at (name_asks (sight o.1) ++ ((t, on_term o (name_term (sight o.1))) ∷ of_expr sight a (name_term (sight o.1))))) ((value at t ≡ o ∷ without (value at t)) × (standing at sight o.1 ≡ Some (without (value at t))) × IsOn (standing at sight) a (without (value at t)))
    when_on a t o f =
        let u = name_term (sight o.1) in (
          (λ h.
              let r = (all_in (name_asks (sight o.1)) ((t, on_term o u) ∷ of_expr sight a u)).0 h in
              let w : without (value at t) ≡ value at u = ap without r.1.0 in
              (r.1.0 ∙ ap (λ z. o ∷ z) (sym w), name_there (sight o.1) r.0 ∙ ap Some (sym w), subst (IsOn (standing at sight) a) (sym w) (f.0 r.1.1))),
          λ h.
              let r = name_told (sight o.1) (without (value at t)) h.1 in
              (all_in (name_asks (sight o.1)) ((t, on_term o u) ∷ of_expr sight a u)).1
              (r.0, (h.0 ∙ ap (λ z. o ∷ z) (sym r.1), f.1 (subst (IsOn (standing at sight) a) (sym r.1) h.2))),
        )

    mutual
      pub expr_on : (e : Expr) (t : Term) → Iff (AllHold at (of_expr sight e t)) (IsOn (standing at sight) e (value at t))
      expr_on (constant s c) t = ((λ h. tt), λ h. tt)
      expr_on (variable s x) t = name_on (sight x) t
      expr_on (last_of s x) t = ((λ h. h.0), λ h. (h, tt))
      expr_on (one s o a) t = expr_on a t
      expr_on (two s o a b) t = both (of_expr sight a t) (of_expr sight b t) (expr_on a t) (expr_on b t)
      expr_on (choose s a b c) t =
          let f = both (of_expr sight b t) (of_expr sight c t) (expr_on b t) (expr_on c t) in
          let g = both (of_expr sight a t) (of_expr sight b t ++ of_expr sight c t) (expr_on a t) f in
          ((λ h. let r = g.0 h in (r.0, r.1.0, r.1.1)), λ h. g.1 (h.0, (h.1, h.2)))
      expr_on (pre s a) t = expr_on a t
      expr_on (fby s a b) t = both (of_expr sight a t) (of_expr sight b t) (expr_on a t) (expr_on b t)
      expr_on (arrow s a b) t = both (of_expr sight a t) (of_expr sight b t) (expr_on a t) (expr_on b t)
      expr_on (when_is s a c x) t = when_on a t (c, x) (expr_on a (name_term (sight x)))
      expr_on (merge s x ps) t = both (name_is (sight x) t) (of_parts sight x ps t) (name_on (sight x) t) (parts_on x ps t)
      expr_on (call s f inlined es) t = exprs_on es t

      pub exprs_on : (es : Exprs) (t : Term) → Iff (AllHold at (of_exprs sight es t)) (ExprsOn (standing at sight) es (value at t))
      exprs_on no_expr t = ((λ h. tt), λ h. tt)
      exprs_on (more_exprs e es) t = both (of_expr sight e t) (of_exprs sight es t) (expr_on e t) (exprs_on es t)

      pub parts_on : (x : List ℕ) (ps : Parts) (t : Term) → Iff (AllHold at (of_parts sight x ps t)) (PartsOn (standing at sight) x ps (value at t))
      parts_on x no_part t = ((λ h. tt), λ h. tt)
      parts_on x (more_parts c e ps) t = both (of_expr sight e (on_term (c, x) t)) (of_parts sight x ps t) (expr_on e (on_term (c, x) t)) (parts_on x ps t)

    pub clock_on : (c : Clock) → Iff (AllHold at (of_clock sight c)) (ClockRight (standing at sight) c)
    clock_on [] = ((λ h. tt), λ h. tt)
    clock_on (o ∷ c) =
        both (name_is (sight o.1) (c, None)) (of_clock sight c) (
          (λ h. (name_on (sight o.1) (c, None)).0 h ∙ ap Some (append-nil c)),
          λ h. (name_on (sight o.1) (c, None)).1 (h ∙ ap Some (sym (append-nil c))),
        )
        (clock_on c)

  all_on : (ts : List Term) (t : Term) → Iff (AllHold at (all_are ts t)) (AllAre at ts (value at t))
  all_on [] t = ((λ h. tt), λ h. tt)
  all_on (u ∷ us) t = ((λ h. (h.0, (all_on us t).0 h.1)), λ h. (h.0, (all_on us t).1 h.1))

  -- The equations of a unit are what it asks.
  pub unit_on : (u : ClockUnit) → Iff (AllHold at (of_unit u)) (Allows at u)
  unit_on (declared s sight t c) =
      both (of_clock sight c) ((t, (c, None)) ∷ []) (clock_on sight c)
      ((λ h. h.0 ∙ append-nil c), λ h. (h ∙ sym (append-nil c), tt))
  unit_on (equated s sight ts t e) = both (all_are ts t) (of_expr sight e t) (all_on ts t) (expr_on sight e t)
  unit_on (tested s sight e) = expr_on sight e base
