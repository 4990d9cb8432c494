-- A ranked node has exactly one wiring, for all that its wires are read with.
use Rattle.std.proofs.Common.{◌≡◌, ◌<◌, ◌≤◌, ◌+◌, ℕ, suc, List, [], ◌∷◌, refl, sym, ap, ◌∙◌, arith}
use Rattle.std.proofs.Math.Path.{fun_ext}
use Rattle.std.specs.Prelude.{Bool, true, false, if◌then◌else◌, Option, None, Some}
use Rattle.std.specs.Str.{bytes_eq}
use Rattle.hp_base.specs.declared.value.Value.{Value}
use Rattle.hp_base.specs.declared.value.Value.TheVariants.{Absent}
use Rattle.hp_tree.specs.declared.program.Item.{Item}
use Rattle.hp_tree.specs.declared.program.Item.TheVariants.{TypeItem, NodeItem}
use Rattle.hp_tree.specs.Expressions.{Expr}
use Rattle.hp_tree.specs.Programs.{TypeDecl, Contract, Node}
use Rattle.hp_tree.specs.Instant.{Inputs, Controls, Body, Observer, Assume, Enforce, Named, Fresh, Place, Instant, part, nothing}
use Rattle.hp_tree.specs.Meaning.{Names, declares, node_among, controls_of}
use Rattle.hp_meaning.specs.Causal.Sources.{Within, NameSources, PlaceSources, only, below}
use Rattle.hp_meaning.specs.Causal.WhatIsRead.{names_in_block, control_in, output_in, in_contract, at_told}
use Rattle.hp_meaning.specs.Causal.Causality.{sources, Ranked, IsRanked}
use Rattle.hp_meaning.specs.Causal.OneReaction.{OneInstant}
use Rattle.hp_meaning.proofs.CausalLemmas.Fix.{Same, Local, one}
use Rattle.hp_meaning.proofs.CausalLemmas.NodesAgree.{within_more, ranked_with_contract, ranked_below}
use Rattle.law_games.specs.Wires.Wired.{Held, held_at, Callees}
use Rattle.law_games.specs.Wires.WiredBlocks.{lasts_of}
use Rattle.law_games.specs.Wires.WiredNodes.{wired_told, wired_observer, wired_node}
use Rattle.law_games.specs.Wires.WiredCallees.{no_callees, wired_alone, wired_by, callee_wires}
use Rattle.law_games.specs.Wires.Laws.{OneWiringLaw}
use Rattle.law_games.proofs.WiresLemmas.Agreeing.{Agree, SameNames, Closed}
use Rattle.law_games.proofs.WiresLemmas.Local.{AsWhole, expr_agrees}
use Rattle.law_games.proofs.WiresLemmas.LocalBlocks.{names_of_same, block_agrees}
use Rattle.law_games.proofs.WiresLemmas.Swap.{with_wires, node_swap}

if_same : (d : Bool) (v v' w : Value) → v ≡ v' → (if d then v else w) ≡ (if d then v' else w)
if_same true v v' w e = e
if_same false v v' w e = refl

module _ (types : List TypeDecl) (C : Callees) (W : AsWhole C) where
  told_agrees : (P : Place → Type 0) (e : Option Expr) (names : NameSources) (k : PlaceSources) (a b last : Names) (m : Held) (i j : Instant) → Closed P k (at_told e names k) → SameNames P names a b → Agree P (at_told e names k) (wired_told types C e a last m i) (wired_told types C e b last m j)
  told_agrees P None names k a b last m i j cl s = λ p h. refl
  told_agrees P (Some e) names k a b last m i j cl s = expr_agrees P types C W e [] names k a b last m i j cl s

  contract_agrees : (P : Place → Type 0) (c : Option Contract) (names : NameSources) (k : PlaceSources) (a b last : Names) (m : Held) (i j : Instant) → Closed P (below Observer k) (below Observer (in_contract c names k)) → Closed P (below Assume k) (below Assume (in_contract c names k)) → Closed P (below Enforce k) (below Enforce (in_contract c names k)) → SameNames P names a b → Agree P (below Observer k) (part Observer i) (part Observer j) → Agree P (in_contract c names k) (wired_observer types C c a last m i) (wired_observer types C c b last m j)
  contract_agrees P None names k a b last m i j cg ca ce s t p h = refl
  contract_agrees P (Some c) names k a b last m i j cg ca ce s t (Observer ∷ p) h = block_agrees P types C W c.body false names (below Observer k) a b last (held_at Observer m) (part Observer i) (part Observer j) cg s t p h
  contract_agrees P (Some c) names k a b last m i j cg ca ce s t (Assume ∷ p) h =
      told_agrees P c.assume (names_in_block c.body names (below Observer k)) (below Assume k) _ _ (lasts_of c.body (part Observer m.memory) last) (held_at Assume m) (part Assume i) (part Assume j) ca
      (names_of_same P types C W c.body names (below Observer k) a b (part Observer i) (part Observer j) s t) p h
  contract_agrees P (Some c) names k a b last m i j cg ca ce s t (Enforce ∷ p) h =
      told_agrees P c.enforce (names_in_block c.body names (below Observer k)) (below Enforce k) _ _ (lasts_of c.body (part Observer m.memory) last) (held_at Enforce m) (part Enforce i) (part Enforce j) ce
      (names_of_same P types C W c.body names (below Observer k) a b (part Observer i) (part Observer j) s t) p h
  contract_agrees P (Some c) names k a b last m i j cg ca ce s t p h = refl

  module _ (n : Node) (o : Ranked n) (inputs : List Value) (m : Held) where
    abbrev pub Less : Place → Place → Type 0
    Less p q = o.rank q < o.rank p

    outside : (k : ℕ) (i j : Instant) → Same (ranked_with_contract o.rank o.bound) k i j → (p : Place) → suc o.bound + o.rank p ≤ k → Within (Less p) (in_contract n.contract (output_in n (below Body only)) only p) → (outer last : Names) → wired_observer types C n.contract (λ x. if declares n.outputs x then i (Named x ∷ []) else outer x) last m i p ≡ wired_observer types C n.contract (λ x. if declares n.outputs x then j (Named x ∷ []) else outer x) last m j p
    outside k i j same p l h outer last =
        contract_agrees (Less p) n.contract (output_in n (below Body only)) only _ _ last m i j
        (λ q u. within_more (Less (Observer ∷ q)) (Less p) (λ r v. omega arith) (sources n (Observer ∷ q)) (o.falls (Observer ∷ q)))
        (λ q u. within_more (Less (Assume ∷ q)) (Less p) (λ r v. omega arith) (sources n (Assume ∷ q)) (o.falls (Assume ∷ q)))
        (λ q u. within_more (Less (Enforce ∷ q)) (Less p) (λ r v. omega arith) (sources n (Enforce ∷ q)) (o.falls (Enforce ∷ q)))
        (λ x u. if_same (declares n.outputs x) _ _ (outer x) (same (Named x ∷ []) (omega arith)))
        (λ q u. same (Observer ∷ q) (omega arith))
        p h

    pub node_local : Local (wired_node types C n inputs m) (ranked_with_contract o.rank o.bound)
    node_local k i j same (Named x ∷ []) l = if_same (declares n.outputs x) _ _ Absent (same (Body ∷ Named x ∷ []) (let e = o.bounded (Body ∷ Named x ∷ []) in omega arith))
    node_local k i j same (Fresh ∷ []) l = refl
    node_local k i j same (Inputs ∷ p) l = refl
    node_local k i j same (Controls ∷ p) l = refl
    node_local k i j same (Body ∷ p) l =
        block_agrees (Less (Body ∷ p)) types C W n.body false (control_in (controls_of n.contract) (below Controls only)) (below Body only) _ _ _ (held_at Body m) (part Body i) (part Body j)
        (λ q h. within_more (Less (Body ∷ q)) (Less (Body ∷ p)) (λ r u. omega arith) (sources n (Body ∷ q)) (o.falls (Body ∷ q)))
        (λ x h. refl)
        (λ q h. same (Body ∷ q) (omega arith))
        p (o.falls (Body ∷ p))
    node_local k i j same p l = outside k i j same p l (o.falls p) _ _

    pub whole_one : OneInstant (wired_node types C n inputs m)
    whole_one = one (wired_node types C n inputs m) (ranked_with_contract o.rank o.bound) _ (ranked_below o.rank o.bound o.bounded) node_local

-- ---- instances

module _ (types : List TypeDecl) where
  module _ (n : Node) (o : Ranked n) (ins : List Value) (m : Held) where
    abbrev pub LessAlone : Place → Place → Type 0
    LessAlone p q = o.rank q < o.rank p

    pub alone_local : Local (wired_alone types n ins m) o.rank
    alone_local k i j same (Named x ∷ []) l = refl
    alone_local k i j same (Fresh ∷ []) l = refl
    alone_local k i j same (Inputs ∷ p) l = refl
    alone_local k i j same (Controls ∷ p) l = refl
    alone_local k i j same (Body ∷ p) l = refl
    alone_local k i j same p l =
        contract_agrees types no_callees (λ f vs h i j. refl) (LessAlone p) n.contract (output_in n (below Body only)) only _ _ _ m i j
        (λ q u. within_more (LessAlone (Observer ∷ q)) (LessAlone p) (λ r v. omega arith) (sources n (Observer ∷ q)) (o.falls (Observer ∷ q)))
        (λ q u. within_more (LessAlone (Assume ∷ q)) (LessAlone p) (λ r v. omega arith) (sources n (Assume ∷ q)) (o.falls (Assume ∷ q)))
        (λ q u. within_more (LessAlone (Enforce ∷ q)) (LessAlone p) (λ r v. omega arith) (sources n (Enforce ∷ q)) (o.falls (Enforce ∷ q)))
        (λ x u. refl)
        (λ q u. same (Observer ∷ q) (omega arith))
        p (o.falls p)

    alone_one : OneInstant (wired_alone types n ins m)
    alone_one = one (wired_alone types n ins m) o.rank o.bound o.bounded alone_local

  pub callee_one : (items : List Item) → IsRanked items → (f : List ℕ) (ins : List Value) (m : Held) → OneInstant (wired_by types (node_among items f) ins m)
  callee_one [] r f ins m = record { now = nothing; meets = λ p. refl; only = λ i h. h }
  callee_one (TypeItem t ∷ items) r f ins m = callee_one items r f ins m
  callee_one (NodeItem n ∷ items) r f ins m = by (bytes_eq n.name f) (callee_one items r.1 f ins m)
    where
      by : (b : Bool) → OneInstant (wired_by types (node_among items f) ins m) → OneInstant (wired_by types (if b then Some n else node_among items f) ins m)
      by true u = alone_one n r.0 ins m
      by false u = u

-- ---- a node that calls such

pub one_wiring : OneWiringLaw
one_wiring types items n inputs m o r =
    let C = callee_wires types items in
    let all : (f : List ℕ) (ins : List Value) (m : Held) → OneInstant (C.wired f ins m) = callee_one types items r in
    let w : List ℕ → List Value → Held → Instant → Instant = λ f ins m i. (all f ins m).now in
    let D = with_wires C w in
    let u : OneInstant (wired_node types D n inputs m) = whole_one types D (λ f ins m i j. refl) n o inputs m in
    let forth : (f : List ℕ) (ins : List Value) (m : Held) (i : Instant) → i ≡ C.wired f ins m i → w f ins m i ≡ C.wired f ins m i =
    λ f ins m i h. sym (fun_ext ((all f ins m).only i (λ p z. h z p))) ∙ h in
    let back : (f : List ℕ) (ins : List Value) (m : Held) (i : Instant) → i ≡ w f ins m i → C.wired f ins m i ≡ w f ins m i =
    λ f ins m i h. ap (C.wired f ins m) h ∙ sym (fun_ext (all f ins m).meets) in
    record {
      now = u.now;
      meets = λ p. u.meets p ∙ sym (ap (λ t. t p) (node_swap types D C.wired back n inputs m u.now (fun_ext u.meets)));
      only = λ i h p. u.only i (λ q. h q ∙ sym (ap (λ t. t q) (node_swap types C w forth n inputs m i (fun_ext h)))) p;
    }
