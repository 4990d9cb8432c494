-- The shortest clocks are clocks: each step of them is that of a name that stands where the step does. For clocks may be cut at the first step that is not.
use Rattle.std.proofs.Common.{◌≡◌, ◌⊎◌, inl, inr, ℕ, suc, ◌+◌, ◌≤◌, List, [], ◌∷◌, ◌++◌, length, refl, sym, ap, ap₂, ◌∙◌, subst, arith, length-append, append_assoc}
use Rattle.std.proofs.lemmas.List.{append-nil}
use Rattle.std.specs.Prelude.{⊤, Bool, true, false, ◌&&◌, if◌then◌else◌, Option, None, Some}
use Rattle.std.specs.Bool.{Decides}
use Rattle.hp_tree.specs.Expressions.{Expr, constant, variable, last_of, one, two, choose, pre, fby, arrow, when_is, merge, call, Exprs, no_expr, more_exprs, Parts, no_part, more_parts}
use Rattle.hp_tree.specs.Instant.{Place, Clock, without}
use Rattle.hp_meaning.specs.Causal.Clocked.{Standing, ClockRight, IsOn, ExprsOn, PartsOn}
use Rattle.hp_meaning.specs.Clocking.Terms.{of_head, value, IsPart, IsShortest}
use Rattle.hp_meaning.specs.Clocking.Clocking.{On, Term, Assignment, base, open_at, Seen, nowhere, own, further, Sight, seen_on, standing, ClockUnit, declared, equated, tested, AllAre, Allows, AllAllow, AreClocks}
use Rattle.hp_meaning.specs.Clocking.Solving.{same_on}
use Rattle.hp_meaning.proofs.ClockingLemmas.Unify.{firsts, rests, not_empty}
use Rattle.hp_meaning.proofs.ClockingLemmas.Sameness.{both_tell, same_on_tells}
use Rattle.hp_meaning.proofs.ClockingLemmas.Generate.{from_some, base_cases, base_made}

same_clock : Clock → Clock → Bool
same_clock [] [] = true
same_clock [] (k ∷ d) = false
same_clock (o ∷ c) [] = false
same_clock (o ∷ c) (k ∷ d) = same_on o k && same_clock c d

same_clock_tells : (c d : Clock) → Decides (same_clock c d) (c ≡ d)
unfolding same_clock
same_clock_tells [] [] = ((λ e. refl), λ e. refl)
same_clock_tells [] (k ∷ d) = ((λ e. absurd (cc e)), λ e. absurd (not_empty k d e))
same_clock_tells (o ∷ c) [] = ((λ e. absurd (cc e)), λ e. absurd (not_empty o c (sym e)))
same_clock_tells (o ∷ c) (k ∷ d) =
    both_tell (same_on o k) (same_clock c d) (same_on_tells o k) (same_clock_tells c d)
    (λ e f. ap₂ (λ x xs. x ∷ xs) e f) (λ e. firsts o k c d e) (λ e. rests o k c d e)

stands : Option Clock → Clock → Bool
stands None c = false
stands (Some d) c = same_clock d c

stands_tells : (o : Option Clock) (c : Clock) → Decides (stands o c) (o ≡ Some c)
unfolding stands
stands_tells None c = ((λ e. absurd (cc e)), λ e. absurd (cc e))
stands_tells (Some d) c = let t = same_clock_tells d c in ((λ e. ap Some (t.0 e)), λ e. t.1 (from_some d c e))

abbrev cut : Standing → Clock → Clock
cut names [] = []
cut names (o ∷ c) = if stands (names o.1) c then o ∷ cut names c else []

cut_step : (names : Standing) (o : On) (c : Clock) → names o.1 ≡ Some c → cut names (o ∷ c) ≡ o ∷ cut names c
cut_step names o c e = ap (λ d. if d then o ∷ cut names c else []) ((stands_tells (names o.1) c).1 e)

cut_length : (names : Standing) (c : Clock) → length (cut names c) ≤ length c
cut_length names [] = omega arith
cut_length names (o ∷ c) = tie (stands (names o.1) c) (cut_length names c)
  where
    tie : (d : Bool) → length (cut names c) ≤ length c → length (if d then o ∷ cut names c else []) ≤ suc (length c)
    tie true h = omega (arith, h)
    tie false h = omega arith

module _ (see : Place → Sight) where
  -- a term of the block whose names are seen so
  abbrev pub TermFits : Sight → Term → Type 0
  TermFits sight t = (t ≡ base) ⊎ ((p : Place) × (t ≡ open_at p) × (see p ≡ sight))

  abbrev pub SeenFits : Sight → Seen → Type 0
  SeenFits sight nowhere = ⊤
  SeenFits sight (own t) = TermFits sight t
  SeenFits sight (further t) = t.0 ≡ []

  abbrev pub SightFits : Sight → Type 0
  SightFits sight = (x : List ℕ) → SeenFits sight (sight x)

  abbrev pub TermsFit : Sight → List Term → Type 0
  TermsFit sight [] = ⊤
  TermsFit sight (t ∷ ts) = TermFits sight t × TermsFit sight ts

  abbrev pub UnitFits : ClockUnit → Type 0
  UnitFits (declared s sight t c) = SightFits sight × TermFits sight t
  UnitFits (equated s sight ts t e) = SightFits sight × TermsFit sight ts × TermFits sight t
  UnitFits (tested s sight e) = SightFits sight

  abbrev pub UnitsFit : List ClockUnit → Type 0
  UnitsFit [] = ⊤
  UnitsFit (u ∷ us) = UnitFits u × UnitsFit us

  pub units_fit : (us vs : List ClockUnit) → UnitsFit us → UnitsFit vs → UnitsFit (us ++ vs)
  units_fit [] vs f g = g
  units_fit (u ∷ us) vs f g = (f.0, units_fit us vs f.1 g)

  pub first_fit : (us vs : List ClockUnit) → UnitsFit (us ++ vs) → UnitsFit us
  first_fit [] vs f = tt
  first_fit (u ∷ us) vs f = (f.0, first_fit us vs f.1)

  module _ (at : Assignment) where
    cut_all : Assignment
    cut_all p = cut (standing at (see p)) (at p)

    term_cut : (sight : Sight) (t : Term) → TermFits sight t → value cut_all t ≡ cut (standing at sight) (value at t)
    unfolding cut_all
    term_cut sight t (inl e) = ap (value cut_all) e ∙ sym (ap (λ z. cut (standing at sight) (value at z)) e)
    term_cut sight t (inr f) =
        ap (value cut_all) f.1 ∙ ap (λ z. cut (standing at z) (at f.0)) f.2 ∙ sym (ap (λ z. cut (standing at sight) (value at z)) f.1)

    bare_cut : (ss : List On) (h : Option Place) → ss ≡ [] → ss ++ of_head at h ≡ [] → ss ++ of_head cut_all h ≡ []
    unfolding cut_all
    bare_cut [] None e f = refl
    bare_cut [] (Some p) e f = ap (cut (standing at (see p))) f
    bare_cut (s ∷ ss) h e f = absurd (not_empty s ss (sym e))

    module _ (sight : Sight) (fit : SightFits sight) where
      seen_cut : (s : Seen) → SeenFits sight s → (c : Clock) → seen_on at s ≡ Some c → seen_on cut_all s ≡ Some (cut (standing at sight) c)
      seen_cut nowhere f c e = absurd (cc e)
      seen_cut (own t) f c e = ap Some (term_cut sight t f ∙ ap (cut (standing at sight)) (from_some (value at t) c e))
      seen_cut (further t) f c e =
          let r = base_cases (value at t) c e in
          base_made (value cut_all t) (cut (standing at sight) c) (bare_cut t.0 t.1 f r.0) (ap (cut (standing at sight)) r.1)

      name_cut : (x : List ℕ) (c : Clock) → standing at sight x ≡ Some c → standing cut_all sight x ≡ Some (cut (standing at sight) c)
      name_cut x c e = seen_cut (sight x) (fit x) c e

      mutual
        expr_cut : (e : Expr) (c : Clock) → IsOn (standing at sight) e c → IsOn (standing cut_all sight) e (cut (standing at sight) c)
        expr_cut (constant s k) c h = tt
        expr_cut (variable s x) c h = name_cut x c h
        expr_cut (last_of s x) c h = ap (cut (standing at sight)) h
        expr_cut (one s o a) c h = expr_cut a c h
        expr_cut (two s o a b) c h = (expr_cut a c h.0, expr_cut b c h.1)
        expr_cut (choose s a b d) c h = (expr_cut a c h.0, expr_cut b c h.1, expr_cut d c h.2)
        expr_cut (pre s a) c h = expr_cut a c h
        expr_cut (fby s a b) c h = (expr_cut a c h.0, expr_cut b c h.1)
        expr_cut (arrow s a b) c h = (expr_cut a c h.0, expr_cut b c h.1)
        expr_cut (when_is s a k x) c h =
            let f : cut (standing at sight) c ≡ (k, x) ∷ cut (standing at sight) (without c) =
            ap (cut (standing at sight)) h.0 ∙ cut_step (standing at sight) (k, x) (without c) h.1 in
            let w : without (cut (standing at sight) c) ≡ cut (standing at sight) (without c) = ap without f in (
              f ∙ ap (λ z. (k, x) ∷ z) (sym w),
              name_cut x (without c) h.1 ∙ ap Some (sym w),
              subst (IsOn (standing cut_all sight) a) (sym w) (expr_cut a (without c) h.2),
            )
        expr_cut (merge s x ps) c h = (name_cut x c h.0, parts_cut x ps c h.0 h.1)
        expr_cut (call s f i es) c h = exprs_cut es c h

        exprs_cut : (es : Exprs) (c : Clock) → ExprsOn (standing at sight) es c → ExprsOn (standing cut_all sight) es (cut (standing at sight) c)
        exprs_cut no_expr c h = tt
        exprs_cut (more_exprs e es) c h = (expr_cut e c h.0, exprs_cut es c h.1)

        parts_cut : (x : List ℕ) (ps : Parts) (c : Clock) → standing at sight x ≡ Some c → PartsOn (standing at sight) x ps c → PartsOn (standing cut_all sight) x ps (cut (standing at sight) c)
        parts_cut x no_part c n h = tt
        parts_cut x (more_parts k e ps) c n h =
            (subst (IsOn (standing cut_all sight) e) (cut_step (standing at sight) (k, x) c n) (expr_cut e ((k, x) ∷ c) h.0), parts_cut x ps c n h.1)

      uncut : (c : Clock) → ClockRight (standing at sight) c → cut (standing at sight) c ≡ c
      uncut [] h = refl
      uncut (o ∷ c) h = cut_step (standing at sight) o c h.0 ∙ ap (λ z. o ∷ z) (uncut c h.1)

      right_kept : (c : Clock) → ClockRight (standing at sight) c → ClockRight (standing cut_all sight) c
      right_kept [] h = tt
      right_kept (o ∷ c) h = (name_cut o.1 c h.0 ∙ ap Some (uncut c h.1), right_kept c h.1)

      cut_right : (c : Clock) → ClockRight (standing cut_all sight) (cut (standing at sight) c)
      cut_right [] = tt
      cut_right (o ∷ c) = tie (stands (standing at sight o.1) c) (stands_tells (standing at sight o.1) c).0 (cut_right c)
        where
          tie : (d : Bool) → (d ≡ true → standing at sight o.1 ≡ Some c) → ClockRight (standing cut_all sight) (cut (standing at sight) c) → ClockRight (standing cut_all sight) (if d then o ∷ cut (standing at sight) c else [])
          tie true e h = (name_cut o.1 c (e refl), h)
          tie false e h = tt

      all_cut : (ts : List Term) (t : Term) → TermsFit sight ts → TermFits sight t → AllAre at ts (value at t) → AllAre cut_all ts (value cut_all t)
      all_cut [] t fs f h = tt
      all_cut (u ∷ us) t fs f h =
          (term_cut sight u fs.0 ∙ ap (cut (standing at sight)) h.0 ∙ sym (term_cut sight t f), all_cut us t fs.1 f h.1)

    unit_cut : (u : ClockUnit) → UnitFits u → Allows at u → Allows cut_all u
    unit_cut (declared s sight t c) f h =
        (right_kept sight f.0 c h.0, term_cut sight t f.1 ∙ ap (cut (standing at sight)) h.1 ∙ uncut sight f.0 c h.0)
    unit_cut (equated s sight ts t e) f h =
        (all_cut sight f.0 ts t f.1 f.2 h.0, subst (IsOn (standing cut_all sight) e) (sym (term_cut sight t f.2)) (expr_cut sight f.0 e (value at t) h.1))
    unit_cut (tested s sight e) f h = expr_cut sight f e [] h

    units_cut : (us : List ClockUnit) → UnitsFit us → AllAllow at us → AllAllow cut_all us
    units_cut [] f h = tt
    units_cut (u ∷ us) f h = (unit_cut u f.0 h.0, units_cut us f.1 h.1)

    no_rest : (c d : Clock) → length d ≤ length c → IsPart c d → d ≡ c
    no_rest c d l f = ends f.0 f.1
      where
        ends : (r : List On) → d ≡ c ++ r → d ≡ c
        ends [] e = e ∙ append-nil c
        ends (s ∷ r) e = let a : length d ≡ length c + suc (length r) = ap length e ∙ length-append c (s ∷ r) in absurd (omega (arith, a, l))

    -- The shortest clocks are clocks.
    pub shortest_are : (us : List ClockUnit) → UnitsFit us → ((p : Place) → SightFits (see p)) → IsShortest (λ z. AllAllow z us) at → AreClocks see at
    unfolding cut_all
    shortest_are us f g s =
        let e : (p : Place) → cut_all p ≡ at p = λ p. no_rest (at p) (cut_all p) (cut_length (standing at (see p)) (at p)) (s.1 cut_all (units_cut us f s.0) p) in
        let path : cut_all ≡ at = λ z p. e p z in
        subst (AreClocks see) path (λ p. cut_right (see p) (g p) (at p))

    cut_part : (names : Standing) (c : Clock) → IsPart (cut names c) c
    cut_part names [] = ([], refl)
    cut_part names (o ∷ c) = tie (stands (names o.1) c) (cut_part names c)
      where
        tie : (d : Bool) → IsPart (cut names c) c → IsPart (if d then o ∷ cut names c else []) (o ∷ c)
        tie true h = (h.0, ap (λ z. o ∷ z) h.1)
        tie false h = (o ∷ c, refl)

    part_trans : (b c d : Clock) → IsPart b c → IsPart c d → IsPart b d
    part_trans b c d f g = (f.0 ++ g.0, g.1 ∙ ap (λ z. z ++ g.0) f.1 ∙ append_assoc b f.0 g.0)

  -- The shortest clocks of all are the shortest of all paths, also of those that are no clocks.
  pub weakly_shortest : (us : List ClockUnit) → UnitsFit us → ((p : Place) → SightFits (see p)) → (at : Assignment) → IsShortest (λ z. AreClocks see z × AllAllow z us) at → IsShortest (λ z. AllAllow z us) at
  unfolding cut_all
  weakly_shortest us f g at s = (
    s.0.1,
    λ other h p.
        part_trans other (at p) (cut_all other p) (other p)
        (s.1 (cut_all other) ((λ q. cut_right other (see q) (g q) (other q)), units_cut other us f h) p)
        (cut_part other (standing other (see p)) (other p)),
  )
