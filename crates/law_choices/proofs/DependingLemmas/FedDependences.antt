-- A node in which what is given under x is defined by a name y that does not depend on it has ranks, on whatever clock y is.
use Rattle.std.proofs.Common.{◌≡◌, ℕ, zero, suc, ◌<◌, Bool, true, false, ◌&&◌, if◌then◌else◌, List, [], ◌∷◌, inl, inr, refl, sym, ap, subst, arith}
use Rattle.std.specs.Prelude.{◌⊎◌}
use Rattle.std.specs.Str.{bytes_eq}
use Rattle.hp_base.specs.declared.span.Span.{Span}
use Rattle.hp_tree.specs.Blocks.{Decl, Eqns, no_eqn, more_eqns}
use Rattle.hp_tree.specs.Programs.{Node}
use Rattle.hp_tree.specs.Instant.{Inputs, Controls, Body, Named, Equations, Head, Tail, Right, First, Place}
use Rattle.hp_tree.specs.Meaning.{declares, clock_in}
use Rattle.hp_meaning.specs.Causal.Sources.{Sources, none, only, both, also, NameSources, PlaceSources, IsSource, below}
use Rattle.hp_meaning.specs.Causal.WhatIsRead.{of_clock, output_in, in_equations, has_equation}
use Rattle.hp_meaning.specs.Causal.Causality.{sources, DependsBy, Ranked, OrderLaw}
use Rattle.hp_meaning.specs.Causal.InputDependence.{sources_with_inputs}
use Rattle.hp_meaning.specs.Causal.Points.{NamesDeclared}
use Rattle.hp_meaning.specs.Causal.RanksOfPoints.{same_place}
use Rattle.hp_meaning.proofs.CausalLemmas.Ranking.{place_same}
use Rattle.law_choices.proofs.IndependentLemmas.Feeding.{with_eqn, feed, is_new}
use Rattle.law_choices.proofs.IndependentLemmas.Given.{same_name}
use Rattle.law_choices.proofs.IndependentLemmas.Ours.{with_body, IsOurs}
use Rattle.law_choices.proofs.IndependentLemmas.Fed.{Feeds, fed, nothing_read}
use Rattle.law_choices.proofs.IndependentLemmas.Fed as parts
use Rattle.law_choices.proofs.IndependentLemmas.FedNodes.{fed_declared}
use Rattle.law_choices.proofs.DependingLemmas.Sourced.{sources_moved, sources_ours, body_falls, clear_next, Clear}

-- the places of the new equation depend on what the other name is read as
module _ (ds : List Decl) (s : Span) (x y : List ℕ) (names : NameSources) (base : clock_in ds x ≡ []) where
  new_sources : (es : Eqns) (l : PlaceSources) (p q : Place) → is_new es p ≡ true → IsSource q (in_equations ds (with_eqn es (feed s x y)) names l p) → IsSource q (names y)
  new_sources no_eqn l (Head ∷ Right ∷ []) q at (inl h) = absurd (subst (λ c. IsSource q (of_clock c names)) base h)
  new_sources no_eqn l (Head ∷ Right ∷ []) q at (inr h) = h
  new_sources no_eqn l (Head ∷ Right ∷ First ∷ p) q at h = absurd h
  new_sources no_eqn l (Head ∷ Right ∷ p) q at h = absurd h
  new_sources no_eqn l (Head ∷ p) q at h = absurd h
  new_sources no_eqn l p q at h = absurd cc
  new_sources (more_eqns e es) l (Tail ∷ p) q at h = new_sources es (below Tail l) p q at h
  new_sources (more_eqns e es) l p q at h = absurd cc

module _ (n : Node) (ds : List Decl) (es : Eqns) (x y : List ℕ) (px : Place) (f : Feeds n ds es x y px) (r : Ranked (with_body n ds es)) (clear : Clear n ds es px (Body ∷ Named y ∷ [])) where
  abbrev N : Node
  N = with_body n ds es

  abbrev F : Node
  F = fed n ds es x y

  abbrev X : Place
  X = Body ∷ Named x ∷ []

  abbrev Y : Place
  Y = Body ∷ Named y ∷ []

  abbrev read_as : Place → Sources
  read_as = parts.read_as n ds es x y px f

  abbrev Kept : Place → Type 0
  Kept p = parts.Kept n ds es x y px f p

  -- no chain of dependences from a place ends in a circle
  abbrev Calm : Place → Type 0
  Calm p = (q : Place) (between : List Place) → DependsBy F p between q → (around : List Place) → DependsBy F q around q → ⊥

  calm_by : (p : Place) → ((q : Place) → IsSource q (sources F p) → Calm q) → Calm p
  calm_by p h q [] d around c = h q d q around c around c
  calm_by p h q (s ∷ ss) d around c = h s d.0 q ss d.1 around c

  no_sources : (p : Place) → sources F p ≡ none → Calm p
  no_sources p e = calm_by p (λ q h. absurd (subst (IsSource q) e h))

  -- ---- steps

  -- a place is depended on that is given under x, as the name of the body; or one that stays
  which : (q s : Place) → IsSource q (read_as s) → ((q ≡ X) × (px ≡ s)) ⊎ ((q ≡ s) × Kept s)
  which q (Inputs ∷ p) h = by (same_place px (Inputs ∷ p)) refl h
    where
      by : (t : Bool) → same_place px (Inputs ∷ p) ≡ t → IsSource q (if t then only X else none) → ((q ≡ X) × (px ≡ Inputs ∷ p)) ⊎ ((q ≡ Inputs ∷ p) × Kept (Inputs ∷ p))
      by true e h = inl (h, place_same px (Inputs ∷ p) e)
      by false e h = absurd h
  which q (Controls ∷ p) h = by (same_place px (Controls ∷ p)) refl h
    where
      by : (t : Bool) → same_place px (Controls ∷ p) ≡ t → IsSource q (if t then only X else only (Controls ∷ p)) → ((q ≡ X) × (px ≡ Controls ∷ p)) ⊎ ((q ≡ Controls ∷ p) × Kept (Controls ∷ p))
      by true e h = inl (h, place_same px (Controls ∷ p) e)
      by false e h = inr (h, ap (λ t. if t then only X else only (Controls ∷ p)) e)
  which q (Body ∷ Named z ∷ []) h = by (bytes_eq x z) refl h
    where
      by : (t : Bool) → bytes_eq x z ≡ t → IsSource q (if t then none else only (Body ∷ Named z ∷ [])) → ((q ≡ X) × (px ≡ Body ∷ Named z ∷ [])) ⊎ ((q ≡ Body ∷ Named z ∷ []) × Kept (Body ∷ Named z ∷ []))
      by true e h = absurd h
      by false e h = inr (h, ap (λ t. if t then none else only (Body ∷ Named z ∷ [])) e)
  which q (Body ∷ Equations ∷ p) h = by (is_new es p) refl h
    where
      by : (t : Bool) → is_new es p ≡ t → IsSource q (if t then none else only (Body ∷ Equations ∷ p)) → ((q ≡ X) × (px ≡ Body ∷ Equations ∷ p)) ⊎ ((q ≡ Body ∷ Equations ∷ p) × Kept (Body ∷ Equations ∷ p))
      by true e h = absurd h
      by false e h = inr (h, ap (λ t. if t then none else only (Body ∷ Equations ∷ p)) e)
  which q s h = inr (h, refl)

  -- What a place that stays depends on: x, where it depended on what is given under x, or what it depended on before.
  abbrev Stepped : Place → Place → Type 0
  Stepped p q = ((q ≡ X) × IsSource px (sources_with_inputs N (Body ∷ p))) ⊎ (IsSource q (sources_with_inputs N (Body ∷ p)) × Kept q)

  step : (p q : Place) → Kept (Body ∷ p) → IsSource q (sources F (Body ∷ p)) → Stepped p q
  step p q k h =
      let s = sources_moved read_as q (sources_with_inputs N (Body ∷ p)) (subst (IsSource q) (parts.body_sources n ds es x y px f p (parts.old_of n ds es x y px f p k)) h) in
      by s.0 s.1 (which q s.0 s.2)
    where
      by : (s : Place) → IsSource s (sources_with_inputs N (Body ∷ p)) → ((q ≡ X) × (px ≡ s)) ⊎ ((q ≡ s) × Kept s) → Stepped p q
      by s h (inl e) = inl (e.0, subst (λ z. IsSource z (sources_with_inputs N (Body ∷ p))) (sym e.1) h)
      by s h (inr e) = inr (subst (λ z. IsSource z (sources_with_inputs N (Body ∷ p))) (sym e.0) h, subst Kept (sym e.0) e.1)

  -- ---- places that stay, by the ranks of the node before

  -- the places of the body that one depends on are calm
  abbrev Before : Place → Type 0
  Before p = (q : Place) → IsSource (Body ∷ q) (sources_with_inputs N (Body ∷ p)) → Kept (Body ∷ q) → Calm (Body ∷ q)

  given_calm : (p q : Place) → Before p → IsOurs q → IsSource q (sources_with_inputs N (Body ∷ p)) → Kept q → Calm q
  given_calm p (Body ∷ q) before o h k = before q h k
  given_calm p (Controls ∷ q) before o h k = no_sources (Controls ∷ q) (nothing_read n.contract (output_in F (below Body only)) (Controls ∷ q))
  given_calm p (Inputs ∷ q) before o h k = no_sources (Inputs ∷ q) (nothing_read n.contract (output_in F (below Body only)) (Inputs ∷ q))
  given_calm p q before o h k = absurd o

  kept_calm : (p : Place) → Kept (Body ∷ p) → (IsSource px (sources_with_inputs N (Body ∷ p)) → Calm X) → Before p → Calm (Body ∷ p)
  kept_calm p k at_x before = calm_by (Body ∷ p) (λ q h. by q (step p q k h))
    where
      by : (q : Place) → Stepped p q → Calm q
      by q (inl e) = subst Calm (sym e.0) (at_x e.1)
      by q (inr e) = given_calm p q before (sources_ours n ds es p q e.0) e.0 e.1

  -- those that do not depend on what is given under x
  clear_calm : (bound : ℕ) (p : Place) → Kept (Body ∷ p) → Clear n ds es px (Body ∷ p) → r.rank (Body ∷ p) < bound → Calm (Body ∷ p)
  clear_calm zero p k c l = absurd (omega (arith, l))
  clear_calm (suc bound) p k c l =
      kept_calm p k (λ h. absurd (c [] h))
      (λ q h g. clear_calm bound q g (clear_next n ds es px (Body ∷ p) (Body ∷ q) c h) (let less = body_falls n ds es r p q h in omega (arith, less, l)))

  y_calm : Calm Y
  y_calm = clear_calm (suc (r.rank Y)) (Named y ∷ []) (parts.y_kept n ds es x y px f) clear (omega arith)

  x_calm : Calm X
  x_calm = calm_by X (λ q h. by q (subst (IsSource q) (parts.x_reads n ds es x y px f) h))
    where
      by : (q : Place) → IsSource q (both (also none) (only Y)) → Calm q
      by q (inl h) = absurd h
      by q (inr h) = subst Calm (sym h) y_calm

  any_calm : (bound : ℕ) (p : Place) → Kept (Body ∷ p) → r.rank (Body ∷ p) < bound → Calm (Body ∷ p)
  any_calm zero p k l = absurd (omega (arith, l))
  any_calm (suc bound) p k l = kept_calm p k (λ h. x_calm) (λ q h g. any_calm bound q g (let less = body_falls n ds es r p q h in omega (arith, less, l)))

  -- ---- all places

  body_calm : (p : Place) → Calm (Body ∷ p)
  body_calm (Named z ∷ []) = by (bytes_eq x z) refl
    where
      by : (t : Bool) → bytes_eq x z ≡ t → Calm (Body ∷ Named z ∷ [])
      by true e = subst (λ w. Calm (Body ∷ Named w ∷ [])) (same_name x z e) x_calm
      by false e = any_calm (suc (r.rank (Body ∷ Named z ∷ []))) (Named z ∷ []) (ap (λ t. if t then none else only (Body ∷ Named z ∷ [])) e) (omega arith)
  body_calm (Equations ∷ p) = by (is_new es p) refl
    where
      at_y : (q : Place) → is_new es p ≡ true → IsSource q (sources F (Body ∷ Equations ∷ p)) → q ≡ Y
      at_y q e h =
          subst (IsSource q) (parts.y_read n ds es x y px f)
          (new_sources ds n.span x y (parts.names n ds es x y px f) f.base es (below Equations (below Body only)) p q e h)

      by : (t : Bool) → is_new es p ≡ t → Calm (Body ∷ Equations ∷ p)
      by true e = calm_by (Body ∷ Equations ∷ p) (λ q h. subst Calm (sym (at_y q e h)) y_calm)
      by false e = any_calm (suc (r.rank (Body ∷ Equations ∷ p))) (Equations ∷ p) (ap (λ t. if t then none else only (Body ∷ Equations ∷ p)) e) (omega arith)
  body_calm p = any_calm (suc (r.rank (Body ∷ p))) p refl (omega arith)

  all_calm : (p : Place) → Calm p
  all_calm (Named z ∷ []) = calm_by (Named z ∷ []) (λ q h. by q (declares n.outputs z && has_equation F.body z) h)
    where
      by : (q : Place) (t : Bool) → IsSource q (if t then only (Body ∷ Named z ∷ []) else none) → Calm q
      by q true h = subst Calm (sym h) (body_calm (Named z ∷ []))
      by q false h = absurd h
  all_calm (Body ∷ p) = body_calm p
  all_calm p = no_sources p (nothing_read n.contract (output_in F (below Body only)) p)

  pub fed_ranks : OrderLaw → NamesDeclared N → Ranked F
  fed_ranks order declared = order F (fed_declared n x y ds es declared) (λ p between d. all_calm p p between d between d)
