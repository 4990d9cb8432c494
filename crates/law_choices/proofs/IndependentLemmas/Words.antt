-- The same in the words of inputs, and of chains to controllable variables.
use Rattle.std.proofs.Common.{◌≡◌, ℕ, Bool, true, false, ◌||◌, List, [], ◌∷◌, inl, inr, refl, sym, ap, ◌∙◌, subst}
use Rattle.std.specs.Prelude.{◌⊎◌, if◌then◌else◌, Option, None, Some}
use Rattle.std.specs.Str.{bytes_eq}
use Rattle.hp_tree.specs.Blocks.{Decl, Block, block, Eqns}
use Rattle.hp_tree.specs.Programs.{Contract, Node}
use Rattle.hp_tree.specs.Instant.{Inputs, Controls, Body, Named, Head, Tail, Place}
use Rattle.hp_tree.specs.Meaning.{declares, controls_of}
use Rattle.hp_meaning.specs.Causal.Sources.{none, only, NameSources, PlaceSources, IsRead, below}
use Rattle.hp_meaning.specs.Causal.WhatIsRead.{control_in, output_in, in_contract}
use Rattle.hp_meaning.specs.Causal.Causality.{Chain}
use Rattle.hp_meaning.specs.Causal.InputDependence.{row_in, input_in, sources_with_inputs, ChainWithInputs, DependsOnInput, SameReadsLaw}
use Rattle.hp_automata.specs.Lowering.{Enumerations, lowered_node, types_of}
use Rattle.law_automata.proofs.LoweredLemmas.RightSteps.{controls_same}
use Rattle.law_choices.specs.Independent.Dependence.{given_in, DependsOnGiven}
use Rattle.law_choices.specs.Independent.Laws.{NodeLaw, InputsLaw, ControlsLaw}
use Rattle.law_choices.proofs.IndependentLemmas.Given.{at_name, Shape, shape, place_in}
use Rattle.law_choices.proofs.IndependentLemmas.Ours.{with_body, IsOurs, reads_ours, given_reads_none, control_found}

-- ---- inputs

row_without : (ds : List Decl) (k : PlaceSources) (out : NameSources) (x : List ℕ) → declares ds x ≡ false → row_in ds k out x ≡ out x
row_without [] k out x h = refl
row_without (d ∷ ds) k out x h = by (bytes_eq d.name x) h (row_without ds (below Tail k) out x)
  where
    by : (t : Bool) → (t || declares ds x) ≡ false → (declares ds x ≡ false → row_in ds (below Tail k) out x ≡ out x) → (if t then k (Head ∷ []) else row_in ds (below Tail k) out x) ≡ out x
    by true h rest = absurd cc
    by false h rest = rest h

-- an input that is no controllable variable
as_given : (n : Node) (y x : List ℕ) → declares (controls_of n.contract) x ≡ false → DependsOnInput n (Body ∷ Named y ∷ []) x → DependsOnGiven n y x
as_given n y x h d = (d.0, row_without (controls_of n.contract) (below Controls only) (input_in n only) x h ∙ d.1, d.2, d.3)

as_input : (n : Node) (y x : List ℕ) → declares (controls_of n.contract) x ≡ false → DependsOnGiven n y x → DependsOnInput n (Body ∷ Named y ∷ []) x
as_input n y x h d = (d.0, sym (row_without (controls_of n.contract) (below Controls only) (input_in n only) x h) ∙ d.1, d.2, d.3)

no_control : (enums : Enumerations) (n : Node) (x : List ℕ) → declares (controls_of n.contract) x ≡ false → declares (controls_of (lowered_node enums n).contract) x ≡ false
no_control enums n x h = ap (λ cs. declares cs x) (controls_same enums (types_of n) n.contract) ∙ h

pub inputs_law : NodeLaw → InputsLaw
inputs_law law enums n y [] ok declared right causal inputs own base free = tt
inputs_law law enums n y (d ∷ ds) ok declared right causal inputs own base free =
    let x = inputs.0 in (
      (λ depends. law enums n y d.name ok declared right causal x.0 x.1 own base (λ g. free.0 (as_input n y d.name x.2 g)) (as_given (lowered_node enums n) y d.name (no_control enums n d.name x.2) depends)),
      inputs_law law enums n y ds ok declared right causal inputs.1 own base free.1,
    )

-- ---- controllable variables

contract_none : (c : Option Contract) (p : Place) (m : NameSources) → in_contract c m only (Inputs ∷ p) ≡ none
contract_none None p m = refl
contract_none (Some c) p m = refl

-- an input reads nothing
input_stuck : (n : Node) (p : Place) (between : List Place) (q : Place) → Chain n (Inputs ∷ p) between q → ⊥
input_stuck n p [] q h = subst (IsRead q) (contract_none n.contract p (output_in n (below Body only))) h
input_stuck n p (r ∷ rs) q h = subst (IsRead r) (contract_none n.contract p (output_in n (below Body only))) h.0

input_stuck_too : (n : Node) (p : Place) (between : List Place) (q : Place) → ChainWithInputs n (Inputs ∷ p) between q → ⊥
input_stuck_too n p [] q h = subst (IsRead q) (contract_none n.contract p (λ z. if declares n.outputs z then output_in n (below Body only) z else input_in n only z)) h
input_stuck_too n p (r ∷ rs) q h = subst (IsRead r) (contract_none n.contract p (λ z. if declares n.outputs z then output_in n (below Body only) z else input_in n only z)) h.0

-- a place is an input's, or is none
input_or : (q : Place) → ((r : Place) × (q ≡ Inputs ∷ r)) ⊎ ((r : Place) → q ≡ Inputs ∷ r → ⊥)
input_or (Inputs ∷ r) = inl (r, refl)
input_or q = inr (λ r e. absurd cc)

module _ (same : SameReadsLaw) (n : Node) where
  with_inputs : (p : Place) (between : List Place) (q : Place) → Chain n p between (Controls ∷ q) → ChainWithInputs n p between (Controls ∷ q)
  with_inputs p [] q c = (same n p (Controls ∷ q) (λ r e. absurd cc)).1 c
  with_inputs p (r ∷ rs) q c = by (input_or r) (with_inputs r rs q c.1)
    where
      by : ((s : Place) × (r ≡ Inputs ∷ s)) ⊎ ((s : Place) → r ≡ Inputs ∷ s → ⊥) → ChainWithInputs n r rs (Controls ∷ q) → ChainWithInputs n p (r ∷ rs) (Controls ∷ q)
      by (inl e) rest = absurd (input_stuck n e.0 rs (Controls ∷ q) (subst (λ z. Chain n z rs (Controls ∷ q)) e.1 c.1))
      by (inr f) rest = ((same n p r f).1 c.0, rest)

  without_inputs : (p : Place) (between : List Place) (q : Place) → ChainWithInputs n p between (Controls ∷ q) → Chain n p between (Controls ∷ q)
  without_inputs p [] q c = (same n p (Controls ∷ q) (λ r e. absurd cc)).0 c
  without_inputs p (r ∷ rs) q c = by (input_or r) (without_inputs r rs q c.1)
    where
      by : ((s : Place) × (r ≡ Inputs ∷ s)) ⊎ ((s : Place) → r ≡ Inputs ∷ s → ⊥) → Chain n r rs (Controls ∷ q) → Chain n p (r ∷ rs) (Controls ∷ q)
      by (inl e) rest = absurd (input_stuck_too n e.0 rs (Controls ∷ q) (subst (λ z. ChainWithInputs n z rs (Controls ∷ q)) e.1 c.1))
      by (inr f) rest = ((same n p r f).0 c.0, rest)

-- the end of a chain from the body to a controllable variable is the place of one that is declared
module _ (n : Node) (ds : List Decl) (es : Eqns) where
  stuck : (q : Place) → sources_with_inputs (with_body n ds es) q ≡ none → (between : List Place) (end : Place) → ChainWithInputs (with_body n ds es) q between end → ⊥
  stuck q e [] end h = subst (IsRead end) e h
  stuck q e (r ∷ rs) end h = subst (IsRead r) e h.0

  end_found : (p : Place) (between : List Place) (q : Place) → ChainWithInputs (with_body n ds es) (Body ∷ p) between (Controls ∷ q) → given_in (with_body n ds es) (at_name (controls_of n.contract) q) ≡ only (Controls ∷ q)
  end_found p [] q c = control_found n ds es p q c
  end_found p (r ∷ rs) q c = by r (reads_ours n ds es p r c.0) c.1 (λ s d. end_found s rs q d)
    where
      by : (r : Place) → IsOurs r → ChainWithInputs (with_body n ds es) r rs (Controls ∷ q) → ((s : Place) → ChainWithInputs (with_body n ds es) (Body ∷ s) rs (Controls ∷ q) → given_in (with_body n ds es) (at_name (controls_of n.contract) q) ≡ only (Controls ∷ q))
          → given_in (with_body n ds es) (at_name (controls_of n.contract) q) ≡ only (Controls ∷ q)
      by (Body ∷ s) o d rest = rest s d
      by (Controls ∷ s) o d rest = absurd (stuck (Controls ∷ s) (given_reads_none n ds es Controls s tt) rs (Controls ∷ q) d)
      by (Inputs ∷ s) o d rest = absurd (stuck (Inputs ∷ s) (given_reads_none n ds es Inputs s tt) rs (Controls ∷ q) d)
      by r o d rest = absurd o

end_given : (n : Node) (b : Block) (p : Place) (between : List Place) (q : Place) → ChainWithInputs (record n { body = b }) (Body ∷ p) between (Controls ∷ q) → given_in (record n { body = b }) (at_name (controls_of n.contract) q) ≡ only (Controls ∷ q)
end_given n (block ds es) p between q c = end_found n ds es p between q c

-- what stands at the place of a controllable variable under some name is declared under it
control_place : (n : Node) (x : List ℕ) (q p : Place) → given_in n x ≡ only (Controls ∷ q) → given_in n x ≡ only p → p ≡ Controls ∷ q
control_place n x q p e f = ap place_in (sym f ∙ e)

control_in_none : (ds : List Decl) (k : PlaceSources) (x : List ℕ) → declares ds x ≡ false → control_in ds k x ≡ none
control_in_none [] k x h = refl
control_in_none (d ∷ ds) k x h = by (bytes_eq d.name x) h (control_in_none ds (below Tail k) x)
  where
    by : (t : Bool) → (t || declares ds x) ≡ false → (declares ds x ≡ false → control_in ds (below Tail k) x ≡ none) → (if t then k (Head ∷ []) else control_in ds (below Tail k) x) ≡ none
    by true h rest = absurd cc
    by false h rest = rest h

is_declared : (n : Node) (x : List ℕ) (q : Place) → given_in n x ≡ only (Controls ∷ q) → declares (controls_of n.contract) x ≡ true
is_declared n x q at = by (declares (controls_of n.contract) x) refl (shape n x)
  where
    by : (t : Bool) → declares (controls_of n.contract) x ≡ t → Shape n x → t ≡ true
    by true e s = refl
    by false e (inl r) = let no : none ≡ only (Controls ∷ q) = sym r.0 ∙ at in absurd cc
    by false e (inr (inl r)) = let no : none ≡ only (Controls ∷ r.0) = sym (control_in_none (controls_of n.contract) (below Controls only) x e) ∙ r.2 in absurd cc
    by false e (inr (inr r)) = let no : Inputs ∷ r.0 ≡ Controls ∷ q = ap place_in (sym r.1 ∙ at) in absurd cc

pub controls_law : SameReadsLaw → NodeLaw → ControlsLaw
controls_law same law enums n y ok declared right causal apart own base free between q chain =
    let M : Node = lowered_node enums n in
    let c : ChainWithInputs M (Body ∷ Named y ∷ []) between (Controls ∷ q) = with_inputs same M (Body ∷ Named y ∷ []) between q chain in
    let x : List ℕ = at_name (controls_of M.contract) q in
    let there : given_in M x ≡ only (Controls ∷ q) = end_given M M.body (Named y ∷ []) between q c in
    let before : given_in n x ≡ only (Controls ∷ q) = sym (ap (λ cs. row_in cs (below Controls only) (input_in n only) x) (controls_same enums (types_of n) n.contract)) ∙ there in
    let a = apart x (is_declared n x q before) in
    law enums n y x ok declared right causal a.0 a.1 own base
    (λ d. free d.2 q (without_inputs same n (Body ∷ Named y ∷ []) d.2 q (subst (λ z. ChainWithInputs n (Body ∷ Named y ∷ []) d.2 z) (control_place n x q d.0 before d.1) d.3)))
    (Controls ∷ q, there, between, c)
