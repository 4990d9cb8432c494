-- What the assumption of a node reads: by its value, and by its place.
use Rattle.std.proofs.Common.{◌≡◌, ℕ, Bool, true, false, if◌then◌else◌, nat_eq, [], ◌∷◌, Option, None, Some, refl, ◌∙◌, inl, inr}
use Rattle.std.specs.Prelude.{◌⊎◌}
use Rattle.hp_tree.specs.Expressions.{Expr, constant, variable, last_of, one, two, choose, pre, fby, arrow, when_is, merge, call}
use Rattle.hp_tree.specs.Instant.{Observer, Assume}
use Rattle.hp_tree.specs.Programs.{Contract}
use Rattle.hp_meaning.specs.Causal.Sources.{Sources, none, only, both, also, NameSources, PlaceSources, below}
use Rattle.hp_meaning.specs.Causal.WhatIsRead.{of_clock, of_expr, at_expr, at_told, names_in_block, in_contract}
use Rattle.hp_circuit.specs.declared.circuit.Shape.TheVariants.{Truth}
use Rattle.hp_circuit.specs.declared.circuit.Wire.TheVariants as wire
use Rattle.hp_drawing.specs.Sketch.{Sketch, low, high, push, and_gate, with_assume, with_hyp, with_duty, with_hyp_drawn, hyp_of, duty_of, finish}
use Rattle.law_drawing.specs.Steered.Marks.{Steering, Leads}

-- what the value reads of what is told
abbrev pub told_reads : Option Expr → NameSources → PlaceSources → Sources
told_reads None names k = none
told_reads (Some e) names k = of_expr e names k

-- and of the assumption of a contract that sees these names
abbrev pub assumption_reads : Option Contract → NameSources → Sources
assumption_reads None names = none
assumption_reads (Some c) names = told_reads c.assume (names_in_block c.body names (below Observer only)) (below Assume only)

module _ (steers : Steering) where
  -- beside the clock
  besides : (clock s : Sources) → Leads steers (both (also clock) s) → Leads steers s
  besides clock s (inl l) = absurd l
  besides clock s (inr l) = l

  -- Where the value of an expression leads, what its place reads does; that of a call is the call's place.
  value-place : (e : Expr) (names : NameSources) (k : PlaceSources) → Leads steers (of_expr e names k) → Leads steers (at_expr e [] names k []) ⊎ Leads steers (k [])
  value-place (constant s c) names k l = absurd l
  value-place (variable s x) names k l = inl (inr l)
  value-place (last_of s x) names k l = absurd l
  value-place (one s o a) names k l = inl (inr l)
  value-place (two s o a b) names k l = inl (inr l)
  value-place (choose s a b c) names k l = inl (inr l)
  value-place (pre s a) names k l = absurd l
  value-place (fby s a b) names k l = inl (inr l)
  value-place (arrow s a b) names k l = inl (inr l)
  value-place (when_is s a c x) names k l = inl (inr l)
  value-place (merge s x ps) names k l = inl (inr l)
  value-place (call s f inlined es) names k l = inr l

  place-value : (e : Expr) (names : NameSources) (k : PlaceSources) → Leads steers (at_expr e [] names k []) → Leads steers (k []) → Leads steers (of_expr e names k)
  place-value (constant s c) names k l h = absurd l
  place-value (variable s x) names k l h = besides (of_clock [] names) (names x) l
  place-value (last_of s x) names k l h = absurd l
  place-value (one s o a) names k l h = besides (of_clock [] names) (of_expr (one s o a) names k) l
  place-value (two s o a b) names k l h = besides (of_clock [] names) (of_expr (two s o a b) names k) l
  place-value (choose s a b c) names k l h = besides (of_clock [] names) (of_expr (choose s a b c) names k) l
  place-value (pre s a) names k l h = absurd l
  place-value (fby s a b) names k l h = besides (of_clock [] names) (of_expr (fby s a b) names k) l
  place-value (arrow s a b) names k l h = besides (of_clock [] names) (of_expr (arrow s a b) names k) l
  place-value (when_is s a c x) names k l h = besides (of_clock [] names) (of_expr (when_is s a c x) names k) l
  place-value (merge s x ps) names k l h = besides (of_clock [] names) (of_expr (merge s x ps) names k) l
  place-value (call s f inlined es) names k l h = h

  told-place : (o : Option Expr) (names : NameSources) (k : PlaceSources) → Leads steers (told_reads o names k) → Leads steers (at_told o names k []) ⊎ Leads steers (k [])
  told-place None names k l = absurd l
  told-place (Some e) names k l = value-place e names k l

  told-value : (o : Option Expr) (names : NameSources) (k : PlaceSources) → Leads steers (at_told o names k []) → Leads steers (k []) → Leads steers (told_reads o names k)
  told-value None names k l h = absurd l
  told-value (Some e) names k l h = place-value e names k l h

  -- so it is of the assumption
  pub assumption-place : (o : Option Contract) (names : NameSources) → Leads steers (assumption_reads o names) → Leads steers (in_contract o names only (Assume ∷ [])) ⊎ steers.places (Assume ∷ [])
  assumption-place None names l = absurd l
  assumption-place (Some c) names l = told-place c.assume (names_in_block c.body names (below Observer only)) (below Assume only) l

  pub assumption-value : (o : Option Contract) (names : NameSources) → Leads steers (in_contract o names only (Assume ∷ [])) → steers.places (Assume ∷ []) → Leads steers (assumption_reads o names)
  assumption-value None names l h = absurd l
  assumption-value (Some c) names l h = told-value c.assume (names_in_block c.body names (below Observer only)) (below Assume only) l h

-- ---- the wire that is assumed

and-assume : (a b : ℕ) (s : Sketch) → (and_gate a b s).1.assume ≡ s.assume
unfolding and_gate push
and-assume a b s = by (nat_eq a low) (nat_eq b low) (nat_eq a high) (nat_eq b high)
  where
    by : (p q r u : Bool) → (if p then (low, s) else if q then (low, s) else if r then (b, s) else if u then (a, s) else push (wire.And a b) Truth s).1.assume ≡ s.assume
    by true q r u = refl
    by false true r u = refl
    by false false true u = refl
    by false false false true = refl
    by false false false false = refl

pub finish-assume : (assume enforce : ℕ) (s : Sketch) → (finish assume enforce s).assume ≡ assume
unfolding finish with_assume with_hyp with_duty
finish-assume assume enforce s =
    let a = with_assume assume s in
    let h = with_hyp_drawn (and_gate assume (hyp_of a) a) in
    and-assume enforce (duty_of h) h ∙ and-assume assume (hyp_of a) a
