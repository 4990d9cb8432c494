-- In a ready program the wire of the assumption of a node reads a controllable variable exactly where the assumption does.
use Rattle.std.proofs.Common.{◌≡◌, ℕ, List, [], ◌∷◌, Option, None, Some, refl, sym, subst, inl, inr}
use Rattle.hp_tree.specs.Expressions.{Expr}
use Rattle.hp_tree.specs.Instant.{Body, Observer, Assume, Controls, Place}
use Rattle.hp_tree.specs.Meaning.{controls_of}
use Rattle.hp_tree.specs.Programs.{Contract, Node}
use Rattle.hp_meaning.specs.Causal.Causality.{Chain, sources}
use Rattle.hp_meaning.specs.Causal.Sources.{IsRead, NameSources, only, below}
use Rattle.hp_meaning.specs.Causal.WhatIsRead.{at_told, control_in, in_contract, names_in_block, output_in}
use Rattle.hp_circuit.specs.declared.circuit.Slot.{Slot}
use Rattle.hp_circuit.specs.Reading.{edges_of, IsSteered}
use Rattle.hp_drawing.specs.DrawnNodes.{drawn_node}
use Rattle.hp_drawing.specs.Told.{told_of}
use Rattle.hp_drawing.proofs.SlottedLemmas.TypeLaws.{node-same}
use Rattle.law_games.proofs.ReadyGamesLemmas.Settled.{ready_contracts}
use Rattle.law_drawing.proofs.DrawableLemmas.Fitting.{fits}
use Rattle.law_drawing.specs.Steered.Nodes.{Depends}
use Rattle.law_drawing.proofs.SteeredLemmas.EarlySlots.{assumption-marked}
use Rattle.law_drawing.proofs.ReachedLemmas.Nodes.{assumption-reached}
use Rattle.law_drawing.proofs.MirrorsLemmas.Reading.{node_reads}
use Rattle.law_drawing.specs.Mirrors.Assumptions.{AssumesControl, AssumeLaw}
use Rattle.law_drawing.proofs.MirrorsLemmas.Ends.{control_place, chain-ends}

-- ---- what is assumed

-- what the assumption of a node reads is read by an expression of its contract
record Assumed (n : Node) : Type 0 where
  contract : Contract
  is : n.contract ≡ Some contract
  assumption : Expr
  assumed : contract.assume ≡ Some assumption

assumed_by : (n : Node) (q : Place) → IsRead q (sources n (Assume ∷ [])) → Assumed n
assumed_by n q h = by n.contract refl h
  where
    shown : NameSources
    shown = output_in n (below Body only)

    told : (c : Contract) → n.contract ≡ Some c → (o : Option Expr) → c.assume ≡ o → IsRead q (at_told o (names_in_block c.body shown (below Observer only)) (below Assume only) []) → Assumed n
    told c e None f h = absurd h
    told c e (Some a) f h = record { contract = c; is = e; assumption = a; assumed = f }

    by : (o : Option Contract) → n.contract ≡ o → IsRead q (in_contract o shown only (Assume ∷ [])) → Assumed n
    by None e h = absurd h
    by (Some c) e h = told c e c.assume refl h

chain_assumes : (n : Node) (between : List Place) (q : Place) → Assumed n → Chain n (Assume ∷ []) between (Controls ∷ q) → AssumesControl n
chain_assumes n between q a chain =
    let ends = chain-ends n q (Assume ∷ []) between chain in
    record {
      contract = a.contract;
      is = a.is;
      assumption = a.assumption;
      assumed = a.assumed;
      name = ends.0;
      control = Controls ∷ q;
      chosen = subst (λ o. control_in (controls_of o) (below Controls only) ends.0 ≡ only (Controls ∷ q)) a.is ends.1;
      between = between;
      chain = chain;
    }

depends_assumes : (n : Node) → Depends n (Assume ∷ []) → AssumesControl n
depends_assumes n (inl c) = absurd (let e : Assume ∷ [] ≡ Controls ∷ c.0 = c.1 in cc)
depends_assumes n (inr ([], q, chain)) = chain_assumes n [] q (assumed_by n (Controls ∷ q) chain) chain
depends_assumes n (inr (i ∷ between, q, chain)) = chain_assumes n (i ∷ between) q (assumed_by n i chain.0) chain

assumes_depends : (n : Node) → AssumesControl n → Depends n (Assume ∷ [])
assumes_depends n h =
    let p = control_place h.contract.controls (λ i. Controls ∷ i) h.name h.control (λ i. (i, refl)) h.chosen in
    inr (h.between, p.0, subst (Chain n (Assume ∷ []) h.between) p.1 h.chain)

moved : (ss others : List Slot) (es edges : List (ℕ × ℕ)) (v w : ℕ) → ss ≡ others → es ≡ edges → v ≡ w → IsSteered ss es v → IsSteered others edges w
moved ss others es edges v w a b d h = subst (λ w. IsSteered others edges w) d (subst (λ edges. IsSteered others edges v) b (subst (λ others. IsSteered others es v) a h))

pub assume_is : AssumeLaw
assume_is program after ranks o earlier n st c is =
    let s = drawn_node (told_of after) n in
    let drawn = edges_of s.wires s.reads in
    let own = edges_of c.wires.items c.reads.items in
    let edges : own ≡ drawn = λ j. edges_of (is.wires j) (is.reads j) in
    let calls = ready_contracts program after o.ready o.conditions in
    let fit = fits program after ranks o earlier n st in (
      λ h. depends_assumes n (assumption-marked after (told_of after) n (node-same after) calls fit (moved c.slots.items s.slots own drawn c.assume s.assume is.slots edges is.assume h)),
      λ h. moved s.slots c.slots.items drawn own s.assume c.assume (sym is.slots) (sym edges) (sym is.assume)
          (assumption-reached after (told_of after) n (node-same after) calls fit (node_reads program after ranks o earlier n st) (assumes_depends n h)),
    )
