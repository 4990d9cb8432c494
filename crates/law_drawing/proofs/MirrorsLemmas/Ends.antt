-- A chain of reads that ends at a controllable variable ends at one that the contract declares.
use Rattle.std.proofs.Common.{◌≡◌, ℕ, Bool, true, false, ◌&&◌, if◌then◌else◌, List, [], ◌∷◌, Option, None, Some, sym, ap, ◌∙◌, inl, inr}
use Rattle.std.specs.Str.{bytes_eq}
use Rattle.hp_tree.specs.Blocks.{Decl}
use Rattle.hp_tree.specs.Instant.{Body, Controls, Observer, Assume, Enforce, Named, Head, Tail, Place}
use Rattle.hp_tree.specs.Meaning.{declares, controls_of}
use Rattle.hp_tree.specs.Programs.{Contract, Node}
use Rattle.hp_meaning.specs.Causal.Causality.{Chain, sources}
use Rattle.hp_meaning.specs.Causal.Sources.{Sources, none, only, both, also, IsRead, NameSources, below}
use Rattle.hp_meaning.specs.Causal.WhatIsRead.{control_in, has_equation, in_contract, names_in_block, output_in}
use Rattle.law_drawing.specs.Steered.Marks.{Steering, Leads}
use Rattle.law_drawing.proofs.SteeredLemmas.Bounded.{block-places, told-places, names-inside}

-- a controllable variable, by its name, has this place
abbrev pub IsChosen : Node → Place → Type 0
IsChosen n p = (x : List ℕ) × (control_in (controls_of n.contract) (below Controls only) x ≡ only p)

-- what a name of a row stands for is a place below
pub control_place : (ds : List Decl) (w : Place → Place) (x : List ℕ) (p : Place) → ((i : Place) → (q : Place) × (w i ≡ Controls ∷ q)) → control_in ds (λ i. only (w i)) x ≡ only p → (q : Place) × (p ≡ Controls ∷ q)
control_place [] w x p f e = absurd (cc)
control_place (d ∷ ds) w x p f e = by (bytes_eq d.name x) e (control_place ds (λ i. w (Tail ∷ i)) x p (λ i. f (Tail ∷ i)))
  where
    by : (b : Bool) → (if b then only (w (Head ∷ [])) else control_in ds (λ i. only (w (Tail ∷ i))) x) ≡ only p → (control_in ds (λ i. only (w (Tail ∷ i))) x ≡ only p → (q : Place) × (p ≡ Controls ∷ q)) → (q : Place) × (p ≡ Controls ∷ q)
    by true e more = let same : w (Head ∷ []) ≡ p = cc in let h = f (Head ∷ []) in (h.0, sym same ∙ h.1)
    by false e more = more e

module _ (n : Node) (q : Place) where
  -- the end alone leads
  abbrev ending : Steering
  ending = record { places = λ p. p ≡ Controls ∷ q; slots = λ i. none }

  abbrev Ends : Sources → Type 0
  Ends s = Leads ending s

  abbrev shown : NameSources
  shown = output_in n (below Body only)

  read-ends : (s : Sources) → IsRead (Controls ∷ q) s → Ends s
  read-ends none h = h
  read-ends (only p) h = sym h
  read-ends (both s u) (inl h) = inl (read-ends s h)
  read-ends (both s u) (inr h) = inr (read-ends u h)
  read-ends (also s) h = h

  row-ends : (ds : List Decl) (w : Place → Place) (x : List ℕ) → Ends (control_in ds (λ i. only (w i)) x) → control_in ds (λ i. only (w i)) x ≡ only (Controls ∷ q)
  row-ends [] w x l = absurd l
  row-ends (d ∷ ds) w x l = by (bytes_eq d.name x) l (row-ends ds (λ i. w (Tail ∷ i)) x)
    where
      by : (b : Bool) → Ends (if b then only (w (Head ∷ [])) else control_in ds (λ i. only (w (Tail ∷ i))) x) → (Ends (control_in ds (λ i. only (w (Tail ∷ i))) x) → control_in ds (λ i. only (w (Tail ∷ i))) x ≡ only (Controls ∷ q))
          → (if b then only (w (Head ∷ [])) else control_in ds (λ i. only (w (Tail ∷ i))) x) ≡ only (Controls ∷ q)
      by true l more = ap only l
      by false l more = more l

  no-output : (x : List ℕ) → Ends (shown x) → ⊥
  no-output x l = by (declares n.outputs x) (has_equation n.body x) l
    where
      by : (a b : Bool) → Ends (if a && b then only (Body ∷ Named x ∷ []) else none) → ⊥
      by true true l = let e : Body ∷ Named x ∷ [] ≡ Controls ∷ q = l in cc
      by true false l = l
      by false b l = l

  no-body : (p : Place) → Ends (only (Body ∷ p)) → ⊥
  no-body p l = let e : Body ∷ p ≡ Controls ∷ q = l in cc

  no-observer : (p : Place) → Ends (only (Observer ∷ p)) → ⊥
  no-observer p l = let e : Observer ∷ p ≡ Controls ∷ q = l in cc

  no-assume : (p : Place) → Ends (only (Assume ∷ p)) → ⊥
  no-assume p l = let e : Assume ∷ p ≡ Controls ∷ q = l in cc

  no-enforce : (p : Place) → Ends (only (Enforce ∷ p)) → ⊥
  no-enforce p l = let e : Enforce ∷ p ≡ Controls ∷ q = l in cc

  -- no contract names a controllable variable
  no-contract : (o : Option Contract) (p : Place) → Ends (in_contract o shown only p) → ⊥
  no-contract None p l = absurd l
  no-contract (Some c) (Observer ∷ p) l = block-places ending ⊥ c.body shown (below Observer only) no-output no-observer p l
  no-contract (Some c) (Assume ∷ p) l = told-places ending ⊥ c.assume (names_in_block c.body shown (below Observer only)) (below Assume only) (names-inside ending ⊥ c.body shown (below Observer only) no-output no-observer) no-assume p l
  no-contract (Some c) (Enforce ∷ p) l = told-places ending ⊥ c.enforce (names_in_block c.body shown (below Observer only)) (below Enforce only) (names-inside ending ⊥ c.body shown (below Observer only) no-output no-observer) no-enforce p l
  no-contract (Some c) p l = absurd l

  place-ends : (p : Place) → Ends (sources n p) → IsChosen n (Controls ∷ q)
  place-ends (Body ∷ p) l =
      block-places ending (IsChosen n (Controls ∷ q)) n.body (control_in (controls_of n.contract) (below Controls only)) (below Body only) (λ x l. (x, row-ends (controls_of n.contract) (λ i. Controls ∷ i) x l)) (λ p l. absurd (no-body p l)) p l
  place-ends (Named x ∷ []) l = absurd (no-output x l)
  place-ends p l = absurd (no-contract n.contract p l)

  pub chain-ends : (p : Place) (between : List Place) → Chain n p between (Controls ∷ q) → IsChosen n (Controls ∷ q)
  chain-ends p [] c = place-ends p (read-ends (sources n p) c)
  chain-ends p (i ∷ between) c = chain-ends i between c.1
