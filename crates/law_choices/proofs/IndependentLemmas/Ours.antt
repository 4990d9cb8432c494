-- What the body of a node reads: its own places, and what is given at its place; and what is given reads nothing.
use Rattle.std.proofs.Common.{◌≡◌, ℕ, Bool, true, false, List, [], ◌∷◌, inl, inr, refl, sym, ap, ◌∙◌, subst}
use Rattle.std.specs.Prelude.{if◌then◌else◌, Option, None, Some}
use Rattle.std.proofs.Math.Path.{fun_ext}
use Rattle.hp_tree.specs.Blocks.{Decl, block, Eqns}
use Rattle.hp_tree.specs.Programs.{Contract, Node}
use Rattle.hp_tree.specs.Instant.{Step, Inputs, Controls, Body, Place}
use Rattle.hp_tree.specs.Meaning.{declares, controls_of}
use Rattle.hp_meaning.specs.Causal.Sources.{Sources, none, only, both, also, NameSources, PlaceSources, IsRead, below}
use Rattle.hp_meaning.specs.Causal.WhatIsRead.{output_in, in_block, in_contract}
use Rattle.hp_meaning.specs.Causal.InputDependence.{input_in, sources_with_inputs}
use Rattle.hp_meaning.specs.Causal.RanksOfPoints.{same_place}
use Rattle.hp_meaning.proofs.CausalLemmas.Ranking.{place_same, same_place_refl}
use Rattle.law_choices.specs.Independent.Dependence.{given_in}
use Rattle.law_choices.proofs.IndependentLemmas.Moved.{moved, mn, move_in_block, reads_moved}
use Rattle.law_choices.proofs.IndependentLemmas.Given.{at_name, Shape, shape}

-- inputs and controllable variables begin so
abbrev pub IsGivenStep : Step → Type 0
IsGivenStep Inputs = Unit {0}
IsGivenStep Controls = Unit {0}
IsGivenStep s = ⊥

-- the node with this body
abbrev pub with_body : Node → List Decl → Eqns → Node
with_body n ds es = record n { body = block ds es }

-- the places that a body reads
abbrev pub IsOurs : Place → Type 0
IsOurs (Body ∷ p) = Unit {0}
IsOurs (Controls ∷ p) = Unit {0}
IsOurs (Inputs ∷ p) = Unit {0}
IsOurs p = ⊥

-- a place without its first step
abbrev behind_step : Place → Place
behind_step [] = []
behind_step (s ∷ p) = p

module _ (n : Node) (ds : List Decl) (es : Eqns) where
  abbrev N : Node
  N = with_body n ds es

  abbrev given : NameSources
  given = given_in N

  -- the places that the body reads: its own, and what is given
  abbrev pub ours : Place → Sources
  ours (Body ∷ p) = only (Body ∷ p)
  ours (Controls ∷ p) = only (Controls ∷ p)
  ours (Inputs ∷ p) = only (Inputs ∷ p)
  ours p = none

  is_ours : (q r : Place) → IsRead q (ours r) → IsOurs q
  is_ours q (Body ∷ p) h = subst IsOurs (sym h) tt
  is_ours q (Controls ∷ p) h = subst IsOurs (sym h) tt
  is_ours q (Inputs ∷ p) h = subst IsOurs (sym h) tt
  is_ours q r h = absurd h

  given_ours : (z : List ℕ) → mn ours given z ≡ given z
  given_ours z = by (shape N z)
    where
      by : Shape N z → moved ours (given z) ≡ given z
      by (inl r) = ap (moved ours) r.0 ∙ sym r.0
      by (inr (inl r)) = ap (moved ours) r.1 ∙ sym r.1
      by (inr (inr r)) = ap (moved ours) r.1 ∙ sym r.1

  pub same_ours : (p : Place) → moved ours (sources_with_inputs N (Body ∷ p)) ≡ sources_with_inputs N (Body ∷ p)
  same_ours p =
      ap (λ (f : PlaceSources). f p) (move_in_block ours (block ds es) given (below Body only)) ∙ ap (λ (m : NameSources). in_block (block ds es) m (below Body only) p) (fun_ext given_ours)

  pub reads_ours : (p q : Place) → IsRead q (sources_with_inputs N (Body ∷ p)) → IsOurs q
  reads_ours p q h =
      let r = reads_moved ours q (sources_with_inputs N (Body ∷ p)) (subst (IsRead q) (sym (same_ours p)) h) in
      is_ours q r.0 r.2

  -- ---- what is given reads nothing

  contract_none : (c : Option Contract) (s : Step) (p : Place) (m : NameSources) → IsGivenStep s → in_contract c m only (s ∷ p) ≡ none
  contract_none None s p m h = refl
  contract_none (Some c) Inputs p m h = refl
  contract_none (Some c) Controls p m h = refl
  contract_none (Some c) s p m h = absurd h

  pub given_reads_none : (s : Step) (p : Place) → IsGivenStep s → sources_with_inputs N (s ∷ p) ≡ none
  given_reads_none Inputs p h = contract_none n.contract Inputs p (λ z. if declares n.outputs z then output_in N (below Body only) z else input_in N only z) tt
  given_reads_none Controls p h = contract_none n.contract Controls p (λ z. if declares n.outputs z then output_in N (below Body only) z else input_in N only z) tt
  given_reads_none s p h = absurd h

  -- ---- a controllable variable that is read is the one of its name

  abbrev is_only : Sources → Place → Bool
  is_only (only r) p = same_place r p
  is_only s p = false

  only_one : (s : Sources) (p : Place) → is_only s p ≡ true → s ≡ only p
  only_one none p h = absurd cc
  only_one (only r) p h = ap only (place_same r p h)
  only_one (both s t) p h = absurd cc
  only_one (also s) p h = absurd cc

  -- the place of a controllable variable that its name does not find is dropped
  abbrev found : Place → Sources
  found (Controls ∷ q) = if is_only (given (at_name (controls_of n.contract) q)) (Controls ∷ q) then only (Controls ∷ q) else none
  found p = only p

  given_found : (z : List ℕ) → mn found given z ≡ given z
  given_found z = by (shape N z)
    where
      by : Shape N z → moved found (given z) ≡ given z
      by (inl r) = ap (moved found) r.0 ∙ sym r.0
      by (inr (inl r)) =
          let there : given (at_name (controls_of n.contract) r.0) ≡ only (Controls ∷ r.0) = ap given r.3 ∙ r.1 in
          let is : is_only (given (at_name (controls_of n.contract) r.0)) (Controls ∷ r.0) ≡ true = ap (λ s. is_only s (Controls ∷ r.0)) there ∙ same_place_refl (Controls ∷ r.0) in
          ap (moved found) r.1 ∙ ap (λ t. if t then only (Controls ∷ r.0) else none) is ∙ sym r.1
      by (inr (inr r)) = ap (moved found) r.1 ∙ sym r.1

  is_found : (q : Place) (r : Place) → IsRead (Controls ∷ q) (found r) → given (at_name (controls_of n.contract) q) ≡ only (Controls ∷ q)
  is_found q (Controls ∷ p) h = by (is_only (given (at_name (controls_of n.contract) p)) (Controls ∷ p)) refl h
    where
      by : (t : Bool) → is_only (given (at_name (controls_of n.contract) p)) (Controls ∷ p) ≡ t → IsRead (Controls ∷ q) (if t then only (Controls ∷ p) else none) → given (at_name (controls_of n.contract) q) ≡ only (Controls ∷ q)
      by true e h =
          let same : p ≡ q = sym (ap behind_step h) in
          subst (λ z. given (at_name (controls_of n.contract) z) ≡ only (Controls ∷ z)) same (only_one (given (at_name (controls_of n.contract) p)) (Controls ∷ p) e)
      by false e h = absurd h
  is_found q r h = absurd cc

  pub control_found : (p q : Place) → IsRead (Controls ∷ q) (sources_with_inputs N (Body ∷ p)) → given (at_name (controls_of n.contract) q) ≡ only (Controls ∷ q)
  control_found p q h =
      let same : moved found (sources_with_inputs N (Body ∷ p)) ≡ sources_with_inputs N (Body ∷ p) =
      ap (λ (f : PlaceSources). f p) (move_in_block found (block ds es) given (below Body only)) ∙ ap (λ (m : NameSources). in_block (block ds es) m (below Body only) p) (fun_ext given_found) in
      let r = reads_moved found (Controls ∷ q) (sources_with_inputs N (Body ∷ p)) (subst (IsRead (Controls ∷ q)) (sym same) h) in
      is_found q r.0 r.2
