-- What does not depend on the controllable variables is the same whatever they are.
use Rattle.std.proofs.Common.{◌≡◌, ℕ, zero, suc, ◌+◌, ◌<◌, ◌≤◌, inl, inr, List, [], ◌∷◌, map, refl, sym, ap, ◌∙◌, subst, arith}
use Rattle.std.specs.Prelude.{Bool, true, false, ◌&&◌, IsTrue, IsFalse, if◌then◌else◌, reverse, Option, None, Some}
use Rattle.std.specs.Str.{bytes_eq}
use Rattle.hp_base.specs.declared.value.Value.{Value}
use Rattle.hp_base.specs.declared.value.Value.TheVariants.{Absent}
use Rattle.hp_tree.specs.declared.program.Item.{Item}
use Rattle.hp_tree.specs.declared.program.Item.TheVariants.{TypeItem, NodeItem}
use Rattle.hp_tree.specs.Blocks.{Decl, Block, block}
use Rattle.hp_tree.specs.Programs.{TypeDecl, Contract, Node}
use Rattle.hp_tree.specs.Operators.{Reading, abstraction, marked}
use Rattle.hp_tree.specs.Instant.{Inputs, Controls, Body, Observer, Assume, Enforce, Named, Fresh, Head, Tail, Place, Instant, Past, Given, at, part, since}
use Rattle.hp_tree.specs.Meaning.{Names, Nodes, declares, some_defines, input_of, given_to, scope, controls_of, node, nodes, observer, types_of, node_among}
use Rattle.hp_meaning.specs.Causal.Sources.{Sources, none, only, both, also, Within, IsSource, below}
use Rattle.hp_meaning.specs.Causal.WhatIsRead.{control_in, has_equation, output_in, in_contract}
use Rattle.hp_meaning.specs.Causal.Causality.{sources, Ranked, IsRanked}
use Rattle.hp_meaning.specs.Causal.Abstract.{callees, abstract_among}
use Rattle.hp_meaning.specs.Causal.Steering.{Unsteered, steered_by, SteeringLaw, AbstractSteeringLaw}
use Rattle.hp_meaning.proofs.CausalLemmas.Fix.{Fixed}
use Rattle.hp_meaning.proofs.CausalLemmas.Agreeing.{choice}
use Rattle.hp_meaning.proofs.CausalLemmas.Solved.{Solved, by}
use Rattle.hp_meaning.proofs.CausalLemmas.BlocksAgree.{block_agrees}
use Rattle.hp_meaning.proofs.CausalLemmas.NodesAgree.{within_more, ranked_with_contract, contract_agrees}
use Rattle.hp_meaning.proofs.CausalLemmas.Unique.{AllOne, solved, as_solved, nodes_one, ranked_reverse}
use Rattle.hp_meaning.proofs.CausalLemmas.AbstractOne.{callees_one}
use Rattle.hp_meaning.proofs.CausalLemmas.Choices.{by_cases, if_true, if_false}

-- ---- sets of sources

within_each : (P : Place → Type 0) (s : Sources) → ((p : Place) → IsSource p s → P p) → Within P s
within_each P none f = tt
within_each P (only p) f = f p refl
within_each P (both s t) f = (within_each P s (λ p h. f p (inl h)), within_each P t (λ p h. f p (inr h)))
within_each P (also s) f = within_each P s f

within_both : (P Q : Place → Type 0) (s : Sources) → Within P s → Within Q s → Within (λ p. P p × Q p) s
within_both P Q none h k = tt
within_both P Q (only p) h k = (h, k)
within_both P Q (both s t) h k = (within_both P Q s h.0 k.0, within_both P Q t h.1 k.1)
within_both P Q (also s) h k = within_both P Q s h k

unsteered_sources : (n : Node) (p : Place) → Unsteered n p → Within (Unsteered n) (sources n p)
unsteered_sources n p u =
    within_each (Unsteered n) (sources n p)
    (λ q h. record {
      no_control = λ r e. u.by_none [] r (subst (λ z. IsSource z (sources n p)) e h);
      by_none = λ between r d. u.by_none (q ∷ between) r (h, d);
    })

-- ---- the names of the body

module _ (P : Place → Type 0) (types : List TypeDecl) (R : Reading) (N : Nodes) (out : Names) where
  values_same : (ds : List Decl) (w : Place → Place) (c d : Instant) → ((q : Place) → P (w q) → ⊥) → (x : List ℕ) → Within P (control_in ds (λ q. only (w q)) x) → input_of ds (given_to types R N ds c) out x ≡ input_of ds (given_to types R N ds d) out x
  values_same [] w c d f x h = refl
  values_same (y ∷ ds) w c d f x h =
      choice P (bytes_eq y.name x) (only (w (Head ∷ []))) (control_in ds (λ q. only (w (Tail ∷ q))) x) _ _ _ _
      (λ u. absurd (f (Head ∷ []) u))
      (values_same ds (below Tail w) (part Tail c) (part Tail d) (λ q. f (Tail ∷ q)) x)
      h

  controls_same : (k : Option Contract) (w : Place → Place) (c d : Instant) → ((q : Place) → P (w q) → ⊥) → (x : List ℕ) → Within P (control_in (controls_of k) (λ q. only (w q)) x) → input_of (controls_of k) (given_to types R N (controls_of k) c) out x ≡ input_of (controls_of k) (given_to types R N (controls_of k) d) out x
  controls_same None w c d f x h = refl
  controls_same (Some k) w c d f x h = values_same k.controls w c d f x h

-- ---- choices

if_when : (d : Bool) (v v' w : Value) → (IsTrue d → v ≡ v') → (if d then v else w) ≡ (if d then v' else w)
if_when true v v' w f = f refl
if_when false v v' w f = refl

within_true : (P : Place → Type 0) (d e : Bool) (s t : Sources) → IsTrue d → IsTrue e → Within P (if d && e then s else t) → Within P s
within_true P true true s t a b h = h
within_true P true false s t a b h = absurd (cc)
within_true P false e s t a b h = absurd (cc)

module _ (types : List TypeDecl) (R : Reading) (outputs : List ℕ → List (List ℕ)) (S : Solved) where
  abbrev N : Nodes
  N = by outputs S

  no_equation : (b : Block) (fresh : Bool) (names last : Names) (g : Given) (now : Instant) (x : List ℕ) → IsFalse (has_equation b x) → scope types R N b fresh names last g now (Named x ∷ []) ≡ Absent
  no_equation (block ds es) fresh names last g now x f = if_false (some_defines es x) _ Absent f

  module _ (past : Past) (free c d : Instant) where
    abbrev gc : Given
    gc = record { past = past; free = steered_by free c }

    abbrev gd : Given
    gd = record { past = past; free = steered_by free d }

    observer_steered : (k : Option Contract) (names last : Names) (now : Instant) → observer types R N k names last gc now ≡ observer types R N k names last gd now
    observer_steered None names last now = refl
    observer_steered (Some k) names last now = refl

    module _ (n : Node) (o : Ranked n) (inputs : List Value) (i j : Instant) (fi : Fixed (node types R N n inputs gc) i) (fj : Fixed (node types R N n inputs gd) j) where
      abbrev rank : Place → ℕ
      rank = ranked_with_contract o.rank o.bound

      -- they agree at what is unsteered and has less rank
      abbrev Agree : ℕ → Type 0
      Agree m = (q : Place) → Unsteered n q → rank q < m → i q ≡ j q

      abbrev Less : Place → Place → Type 0
      Less p q = Unsteered n q × o.rank q < o.rank p

      less_sources : (p q : Place) → Less p q → Within (Less p) (sources n q)
      less_sources p q h =
          within_both (Unsteered n) (λ r. o.rank r < o.rank p) (sources n q) (unsteered_sources n q h.0)
          (within_more (λ r. o.rank r < o.rank q) (λ r. o.rank r < o.rank p) (λ r u. let e = h.1 in omega arith) (sources n q) (o.falls q))

      own_sources : (p : Place) → Unsteered n p → Within (Less p) (sources n p)
      own_sources p u = within_both (Unsteered n) (λ r. o.rank r < o.rank p) (sources n p) (unsteered_sources n p u) (o.falls p)

      -- an output's definition, and its value
      body_same : (m : ℕ) → o.bound ≤ m → Agree m → (x : List ℕ) → Within (Unsteered n) (output_in n (below Body only) x) → IsTrue (declares n.outputs x) → i (Body ∷ Named x ∷ []) ≡ j (Body ∷ Named x ∷ [])
      body_same m l ih x u t =
          by_cases (has_equation n.body x)
          (λ e. ih (Body ∷ Named x ∷ []) (within_true (Unsteered n) (declares n.outputs x) (has_equation n.body x) (only (Body ∷ Named x ∷ [])) none t e u) (let b = o.bounded (Body ∷ Named x ∷ []) in omega arith))
          (λ f. fi (Body ∷ Named x ∷ []) ∙ no_equation n.body false _ _ _ (part Body i) x f ∙ sym (no_equation n.body false _ _ _ (part Body j) x f) ∙ sym (fj (Body ∷ Named x ∷ [])))

      output_same : (m : ℕ) → o.bound ≤ m → Agree m → (x : List ℕ) → Within (Unsteered n) (output_in n (below Body only) x) → IsTrue (declares n.outputs x) → i (Named x ∷ []) ≡ j (Named x ∷ [])
      output_same m l ih x u t =
          fi (Named x ∷ []) ∙ if_true (declares n.outputs x) (i (Body ∷ Named x ∷ [])) Absent t ∙ body_same m l ih x u t
          ∙ sym (if_true (declares n.outputs x) (j (Body ∷ Named x ∷ [])) Absent t) ∙ sym (fj (Named x ∷ []))

      outside : (p : Place) → Agree (suc o.bound + o.rank p) → Within (Less p) (in_contract n.contract (output_in n (below Body only)) only p) → (outer last : Names) → observer types R N n.contract (λ x. if declares n.outputs x then i (Named x ∷ []) else outer x) last gc i p ≡ observer types R N n.contract (λ x. if declares n.outputs x then j (Named x ∷ []) else outer x) last gd j p
      outside p ih h outer last =
          ap (λ t. t p) (observer_steered n.contract (λ x. if declares n.outputs x then i (Named x ∷ []) else outer x) last i)
          ∙ contract_agrees types R outputs S (Less p) n.contract (output_in n (below Body only)) only _ _ last gd i j
          (λ q u. less_sources p (Observer ∷ q) u)
          (λ q u. less_sources p (Assume ∷ q) u)
          (λ q u. less_sources p (Enforce ∷ q) u)
          (λ x u. if_when (declares n.outputs x) _ _ (outer x) (output_same (suc o.bound + o.rank p) (omega arith) ih x (within_more (Less p) (Unsteered n) (λ q v. v.0) (output_in n (below Body only) x) u)))
          (λ q u. ih (Observer ∷ q) u.0 (let e = u.1 in omega arith))
          p h

      said_same : (p : Place) → Agree (rank p) → Unsteered n p → node types R N n inputs gc i p ≡ node types R N n inputs gd j p
      said_same (Named x ∷ []) ih u =
          if_when (declares n.outputs x) (i (Body ∷ Named x ∷ [])) (j (Body ∷ Named x ∷ [])) Absent (body_same o.bound (omega arith) ih x (unsteered_sources n (Named x ∷ []) u))
      said_same (Fresh ∷ []) ih u = refl
      said_same (Inputs ∷ p) ih u = refl
      said_same (Controls ∷ p) ih u = absurd (u.no_control p refl)
      said_same (Body ∷ p) ih u =
          block_agrees (Less (Body ∷ p)) types R outputs S n.body false (control_in (controls_of n.contract) (λ q. only (Controls ∷ q))) (λ q. only (Body ∷ q)) _ _ _ (since false (at Body gd)) (part Body i) (part Body j)
          (λ q h. less_sources (Body ∷ p) (Body ∷ q) h)
          (λ x h. controls_same (Less (Body ∷ p)) types R N _ n.contract (λ q. Controls ∷ q) c d (λ q v. v.0.no_control q refl) x h)
          (λ q h. ih (Body ∷ q) h.0 h.1)
          p (own_sources (Body ∷ p) u)
      said_same p ih u = outside p ih (own_sources p u) _ _

      same_below : (m : ℕ) → Agree m
      same_below zero p u l = absurd (omega arith)
      same_below (suc m) p u l = fi p ∙ said_same p (λ q v k. same_below m q v (omega arith)) u ∙ sym (fj p)

      pub unsteered_same : (p : Place) → Unsteered n p → i p ≡ j p
      unsteered_same p u = same_below (suc (rank p)) p u (omega arith)

-- ---- programs

some_same : (q n : Node) → Some q ≡ Some n → q ≡ n
some_same q n e = cc

chosen : {X : Type 0} (e : Bool) (q n : Node) (rest : Option Node) (F F' G G' : Instant → Instant) (i j : Instant) → (if e then Some q else rest) ≡ Some n → Fixed (λ t. if e then F t else G t) i → Fixed (λ t. if e then F' t else G' t) j → (q ≡ n → Fixed F i → Fixed F' j → X) → (rest ≡ Some n → Fixed G i → Fixed G' j → X) → X
chosen true q n rest F F' G G' i j s fi fj this later = this (some_same q n s) fi fj
chosen false q n rest F F' G G' i j s fi fj this later = later s fi fj

module _ (types : List TypeDecl) (past : Past) (free c d : Instant) (f : List ℕ) (inputs : List Value) (n : Node) (i j : Instant) (p : Place) (u : Unsteered n p) where
  abbrev one_given : Given
  one_given = record { past = past; free = steered_by free c }

  abbrev other_given : Given
  other_given = record { past = past; free = steered_by free d }

  node_steered : (R : Reading) (N : Nodes) → AllOne N.instant → (q : Node) → Ranked q → (vs : List Value) → q ≡ n → Fixed (node types R N q vs one_given) i → Fixed (node types R N q vs other_given) j → i p ≡ j p
  node_steered R N all q o vs e fi fj =
      unsteered_same types R N.outputs (solved N.instant all) past free c d q o vs i j
      (as_solved types R N all q vs one_given i fi) (as_solved types R N all q vs other_given j fj) p (subst (λ z. Unsteered z p) (sym e) u)

  among : (R : Reading) (items : List Item) → IsRanked items → node_among items f ≡ Some n → Fixed ((nodes types R items).instant f inputs one_given) i → Fixed ((nodes types R items).instant f inputs other_given) j → i p ≡ j p
  among R [] r s fi fj = absurd (cc)
  among R (TypeItem t ∷ items) r s fi fj = among R items r s fi fj
  among R (NodeItem q ∷ items) r s fi fj =
      chosen (bytes_eq q.name f) q n (node_among items f) (node types R (nodes types R items) q inputs one_given) (node types R (nodes types R items) q inputs other_given)
      ((nodes types R items).instant f inputs one_given) ((nodes types R items).instant f inputs other_given) i j s fi fj
      (node_steered R (nodes types R items) (nodes_one types R items r.1) q r.0 inputs)
      (among R items r.1)

  among_abstract : (items : List Item) → IsRanked items → node_among items f ≡ Some n → Fixed (abstract_among types items f inputs one_given) i → Fixed (abstract_among types items f inputs other_given) j → i p ≡ j p
  among_abstract [] r s fi fj = absurd (cc)
  among_abstract (TypeItem t ∷ items) r s fi fj = among_abstract items r s fi fj
  among_abstract (NodeItem q ∷ items) r s fi fj =
      chosen (bytes_eq q.name f) q n (node_among items f) (node types abstraction (callees types items) q (map marked inputs) one_given) (node types abstraction (callees types items) q (map marked inputs) other_given)
      (abstract_among types items f inputs one_given) (abstract_among types items f inputs other_given) i j s fi fj
      (node_steered abstraction (callees types items) (callees_one types items r.1) q r.0 (map marked inputs))
      (among_abstract items r.1)

pub steering : SteeringLaw
steering R program f n inputs past free c d i j r s fi fj p u =
    among (types_of program) past free c d f inputs n i j p u R (reverse program) (ranked_reverse program r) s fi fj

pub abstract_steering : AbstractSteeringLaw
abstract_steering program f n inputs past free c d i j r s fi fj p u =
    among_abstract (types_of program) past free c d f inputs n i j p u (reverse program) (ranked_reverse program r) s fi fj
