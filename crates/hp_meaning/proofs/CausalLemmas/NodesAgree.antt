-- What a node says at a place looks at places of less rank alone.
use Rattle.std.proofs.Common.{◌≡◌, ℕ, suc, ◌+◌, ◌<◌, ◌≤◌, List, [], ◌∷◌, refl, arith}
use Rattle.std.specs.Prelude.{Bool, true, false, if◌then◌else◌, Option, None, Some}
use Rattle.hp_base.specs.declared.value.Value.{Value}
use Rattle.hp_base.specs.declared.value.Value.TheVariants.{Absent}
use Rattle.hp_tree.specs.Expressions.{Expr}
use Rattle.hp_tree.specs.Programs.{TypeDecl, Contract, Node}
use Rattle.hp_tree.specs.Operators.{Reading}
use Rattle.hp_tree.specs.Instant.{Inputs, Controls, Body, Observer, Assume, Enforce, Named, Fresh, Place, Instant, Given, at, part, since, nothing}
use Rattle.hp_tree.specs.Meaning.{Names, Nodes, declares, expr, last_in, observer, node, controls_of}
use Rattle.hp_meaning.specs.Causal.Sources.{Sources, none, only, both, also, Within, NameSources, PlaceSources, below}
use Rattle.hp_meaning.specs.Causal.WhatIsRead.{names_in_block, at_told, in_contract, control_in, output_in}
use Rattle.hp_meaning.specs.Causal.Causality.{sources, Ranked}
use Rattle.hp_meaning.proofs.CausalLemmas.Fix.{Same, Local}
use Rattle.hp_meaning.proofs.CausalLemmas.Agreeing.{Agree, SameNames, Closed}
use Rattle.hp_meaning.proofs.CausalLemmas.Solved.{Solved, by}
use Rattle.hp_meaning.proofs.CausalLemmas.ExpressionsAgree.{expr_agrees}
use Rattle.hp_meaning.proofs.CausalLemmas.BlocksAgree.{names_of_same, block_agrees}

pub within_more : (P Q : Place → Type 0) → ((p : Place) → P p → Q p) → (s : Sources) → Within P s → Within Q s
within_more P Q f none h = tt
within_more P Q f (only p) h = f p h
within_more P Q f (both s t) h = (within_more P Q f s h.0, within_more P Q f t h.1)
within_more P Q f (also s) h = within_more P Q f s h

-- the rank of a place among all places of a node: what is not in the body comes after the body, and an output's value between
abbrev pub ranked_with_contract : (Place → ℕ) → ℕ → Place → ℕ
ranked_with_contract rank bound (Named x ∷ []) = bound
ranked_with_contract rank bound (Body ∷ p) = rank (Body ∷ p)
ranked_with_contract rank bound p = suc bound + rank p

pub ranked_below : (rank : Place → ℕ) (bound : ℕ) → ((p : Place) → rank p < bound) → (p : Place) → ranked_with_contract rank bound p < suc (bound + bound)
ranked_below rank bound h (Named x ∷ []) = omega arith
ranked_below rank bound h (Body ∷ p) = let e = h (Body ∷ p) in omega arith
ranked_below rank bound h p = let e = h p in omega arith

if_same : (d : Bool) (v v' w : Value) → v ≡ v' → (if d then v else w) ≡ (if d then v' else w)
if_same true v v' w e = e
if_same false v v' w e = refl

module _ (types : List TypeDecl) (R : Reading) (outputs : List ℕ → List (List ℕ)) (S : Solved) where
  abbrev N : Nodes
  N = by outputs S

  abbrev told : Option Expr → Names → Names → Given → Instant → Instant
  told None names last g now = nothing
  told (Some e) names last g now = expr types R N e [] names last g now

  told_agrees : (P : Place → Type 0) (e : Option Expr) (names : NameSources) (k : PlaceSources) (a b last : Names) (g : Given) (i j : Instant) → Closed P k (at_told e names k) → SameNames P names a b → Agree P (at_told e names k) (told e a last g i) (told e b last g j)
  told_agrees P None names k a b last g i j C s = λ p h. refl
  told_agrees P (Some e) names k a b last g i j C s = expr_agrees P types R outputs S e [] names k a b last g i j C s

  pub contract_agrees : (P : Place → Type 0) (c : Option Contract) (names : NameSources) (k : PlaceSources) (a b last : Names) (g : Given) (i j : Instant) → Closed P (below Observer k) (below Observer (in_contract c names k)) → Closed P (below Assume k) (below Assume (in_contract c names k)) → Closed P (below Enforce k) (below Enforce (in_contract c names k)) → SameNames P names a b → Agree P (below Observer k) (part Observer i) (part Observer j) → Agree P (in_contract c names k) (observer types R N c a last g i) (observer types R N c b last g j)
  contract_agrees P None names k a b last g i j CG CA CE s t p h = refl
  contract_agrees P (Some c) names k a b last g i j CG CA CE s t (Observer ∷ p) h =
      block_agrees P types R outputs S c.body false names (below Observer k) a b last (since false (at Observer g)) (part Observer i) (part Observer j) CG s t p h
  contract_agrees P (Some c) names k a b last g i j CG CA CE s t (Assume ∷ p) h =
      told_agrees P c.assume (names_in_block c.body names (below Observer k)) (below Assume k) _ _ (last_in types R N c.body (since false (at Observer g)).past last) (at Assume g) (part Assume i) (part Assume j) CA
      (names_of_same P types R outputs S c.body names (below Observer k) a b (part Observer i) (part Observer j) s t) p h
  contract_agrees P (Some c) names k a b last g i j CG CA CE s t (Enforce ∷ p) h =
      told_agrees P c.enforce (names_in_block c.body names (below Observer k)) (below Enforce k) _ _ (last_in types R N c.body (since false (at Observer g)).past last) (at Enforce g) (part Enforce i) (part Enforce j) CE
      (names_of_same P types R outputs S c.body names (below Observer k) a b (part Observer i) (part Observer j) s t) p h
  contract_agrees P (Some c) names k a b last g i j CG CA CE s t p h = refl

  module _ (n : Node) (o : Ranked n) (inputs : List Value) (g : Given) where
    abbrev Less : Place → Place → Type 0
    Less p q = o.rank q < o.rank p

    -- what stands outside the body
    outside : (k : ℕ) (i j : Instant) → Same (ranked_with_contract o.rank o.bound) k i j → (p : Place) → suc o.bound + o.rank p ≤ k → Within (Less p) (in_contract n.contract (output_in n (below Body only)) only p) → (outer last : Names) → observer types R N n.contract (λ x. if declares n.outputs x then i (Named x ∷ []) else outer x) last g i p ≡ observer types R N n.contract (λ x. if declares n.outputs x then j (Named x ∷ []) else outer x) last g j p
    outside k i j same p l h outer last =
        contract_agrees (Less p) n.contract (output_in n (below Body only)) only _ _ last g i j
        (λ q u. within_more (Less (Observer ∷ q)) (Less p) (λ r v. omega arith) (sources n (Observer ∷ q)) (o.falls (Observer ∷ q)))
        (λ q u. within_more (Less (Assume ∷ q)) (Less p) (λ r v. omega arith) (sources n (Assume ∷ q)) (o.falls (Assume ∷ q)))
        (λ q u. within_more (Less (Enforce ∷ q)) (Less p) (λ r v. omega arith) (sources n (Enforce ∷ q)) (o.falls (Enforce ∷ q)))
        (λ x u. if_same (declares n.outputs x) _ _ (outer x) (same (Named x ∷ []) (omega arith)))
        (λ q u. same (Observer ∷ q) (omega arith))
        p h

    pub node_local : Local (node types R N n inputs g) (ranked_with_contract o.rank o.bound)
    node_local k i j same (Named x ∷ []) l = if_same (declares n.outputs x) _ _ Absent (same (Body ∷ Named x ∷ []) (let e = o.bounded (Body ∷ Named x ∷ []) in omega arith))
    node_local k i j same (Fresh ∷ []) l = refl
    node_local k i j same (Inputs ∷ p) l = refl
    node_local k i j same (Controls ∷ p) l = refl
    node_local k i j same (Body ∷ p) l =
        block_agrees (Less (Body ∷ p)) types R outputs S n.body false (control_in (controls_of n.contract) (below Controls only)) (below Body only) _ _ _ (since false (at Body g)) (part Body i) (part Body j)
        (λ q h. within_more (Less (Body ∷ q)) (Less (Body ∷ p)) (λ r u. omega arith) (sources n (Body ∷ q)) (o.falls (Body ∷ q)))
        (λ x h. refl)
        (λ q h. same (Body ∷ q) (omega arith))
        p (o.falls (Body ∷ p))
    node_local k i j same p l = outside k i j same p l (o.falls p) _ _
