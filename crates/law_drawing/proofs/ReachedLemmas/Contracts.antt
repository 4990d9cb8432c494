-- What is drawn of contracts, and of those of nodes that are called, reads all that they read.
use Rattle.std.proofs.Common.{◌≡◌, ℕ, true, false, List, [], ◌∷◌, Option, None, Some, refl, sym, ◌∙◌, inl}
use Rattle.std.specs.Prelude.{⊤, ◌⊎◌}
use Rattle.hp_tree.specs.Expressions.{Expr}
use Rattle.hp_tree.specs.Instant.{Observer, Assume, Enforce, Place}
use Rattle.hp_tree.specs.Programs.{Contract, Node}
use Rattle.hp_meaning.specs.Causal.Sources.{none, only, NameSources}
use Rattle.hp_meaning.specs.Causal.WhatIsRead.{at_told, names_in_block, in_block, in_contract}
use Rattle.hp_meaning.specs.Causal.Causality.{sources}
use Rattle.hp_drawing.specs.declared.parts.Callee.{Callee}
use Rattle.hp_drawing.specs.declared.parts.Place.{Place as Spot}
use Rattle.hp_drawing.specs.Told.{Told}
use Rattle.hp_drawing.specs.Sketch.{Sketch}
use Rattle.hp_drawing.specs.Places.{top_place, called_at}
use Rattle.hp_drawing.specs.Scopes.{Scope}
use Rattle.hp_drawing.specs.DrawnExpressions.{Brings}
use Rattle.hp_drawing.specs.DrawnBlocks.{drawn_block}
use Rattle.hp_drawing.specs.DrawnNodes.{contract_scope, drawn_told, drawn_contract, drawn_observer, no_brings, drawn_called_if, contracts}
use Rattle.law_drawing.specs.Steered.Placed.{Held, ToldPlaced, ContractPlaced, none_held, contracts_held}
use Rattle.law_drawing.specs.Steered.Asked.{TellsFit, ContractFits}
use Rattle.law_drawing.specs.Steered.Nodes.{ObserverPlaced}
use Rattle.law_drawing.proofs.SteeredLemmas.Assumed.{told_reads, assumption_reads}
use Rattle.law_drawing.proofs.EarlyLemmas.Running.{called-runs, scope-runs, call-runs}
use Rattle.law_drawing.proofs.EarlyLemmas.Walk.{standing}
use Rattle.law_drawing.specs.Reached.Filled.{IsFilled, ContractFilled}
use Rattle.law_drawing.proofs.ReachedLemmas.Closed.{running, running-told}
use Rattle.law_drawing.proofs.ReachedLemmas.Whereabouts.{Said, anything, Holds}
use Rattle.law_drawing.proofs.ReachedLemmas.Wires.{ExprWires, BlockWires}
use Rattle.law_drawing.proofs.ReachedLemmas.Expressions.{leading, L, Early, R, Shut, SlotsRight, NamesLead, IsOwn, Reached, Going, BringsRun, nothing-read, expr-done}
use Rattle.law_drawing.proofs.ReachedLemmas.Blocks.{block-named}
use Rattle.law_drawing.proofs.ReachedLemmas.Wholes.{whole-block}

called-outside : (spot : Spot) (s : Sketch) → (called_at spot s).0.outside ≡ false
unfolding called_at
called-outside spot s = refl

module _ (S : ℕ → Type 0) (t : Told) (brings : Brings) where
  abbrev pub ToldWires : Scope → Spot → Option Expr → Sketch → Said
  ToldWires z spot None s = anything
  ToldWires z spot (Some e) s = ExprWires S t brings z spot e s

  -- the places of a contract
  abbrev pub ContractWires : Scope → Spot → Contract → Sketch → Said
  ContractWires z spot c s (Observer ∷ p) = BlockWires S t brings z spot c.body s p
  ContractWires z spot c s (Assume ∷ p) = let i = drawn_block t brings z spot c.body s in ToldWires i.0 spot c.assume i.1 p
  ContractWires z spot c s (Enforce ∷ p) = let i = drawn_block t brings z spot c.body s in let a = drawn_told t brings i.0 spot c.assume i.1 in ToldWires i.0 spot c.enforce a.1 p
  ContractWires z spot c s p = ⊤

module _ (S : ℕ → Type 0) (t : Told) where
  abbrev pub ObserverWires : Scope → Option Contract → Sketch → Said
  ObserverWires z None s = anything
  ObserverWires z (Some c) s = ContractWires S t contracts z top_place c s

module _ (S : ℕ → Type 0) (T : Place → Type 0) (n : Node) (place : ℕ → Place) where
  module _ (t : Told) (brings : Brings) (held : Place → Held) (b : BringsRun S T n place t brings) where
    pub record ToldDone (C : Type 0) (names : NameSources) (at : Place → Place) (o : Option Expr) (s : Sketch) (behind : Sketch) (w : ℕ) (wires : Said) : Type 0 where
      pub shut : Shut S T n place s
      pub slots : SlotsRight S T n place s → SlotsRight S T n place behind
      pub placed : Holds (leading T) C (at_told o names (λ p. only (at p))) wires
      pub valued : L S T n place (told_reads o names (λ p. only (at p))) → C ⊎ S w

    told-done : (o : Option Expr) (C : Type 0) (z : Scope) (names : NameSources) (at : Place → Place) (spot : Spot) (s : Sketch) → TellsFit t o → NamesLead S T n place C z names → Reached S T n place C at (ToldWires S t brings z spot o s)
        → IsOwn S T n place C spot (λ q. ToldPlaced (standing place q) t brings (held q) z spot o (λ p. only (at p)) s) at (at_told o names (λ p. only (at p))) → Shut S T n place (drawn_told t brings z spot o s).1
        → ToldDone C names at o s (drawn_told t brings z spot o s).1 (drawn_told t brings z spot o s).0 (ToldWires S t brings z spot o s)
    told-done None C z names at spot s fit named h own c = record { shut = c; slots = λ k. k; placed = nothing-read S T n place C; valued = λ l. absurd l }
    told-done (Some e) C z names at spot s fit named h own c = let u = expr-done S T n place t brings held b e C z names [] at spot s fit named h own c in record { shut = u.shut; slots = u.slots; placed = u.placed; valued = u.valued }

    pub record ContractDone (C : Type 0) (names : NameSources) (at : Place → Place) (c : Contract) (s : Sketch) (behind : Sketch) (w : ℕ) (wires : Said) : Type 0 where
      pub shut : Shut S T n place s
      pub slots : SlotsRight S T n place s → SlotsRight S T n place behind
      pub placed : Holds (leading T) C (in_contract (Some c) names (λ p. only (at p))) wires
      pub assumed : L S T n place (told_reads c.assume (names_in_block c.body names (λ p. only (at (Observer ∷ p)))) (λ p. only (at (Assume ∷ p)))) → C ⊎ S w

    -- where a contract is the node's own, its slots have their places, which read what it does
    abbrev pub OwnContract : Type 0 → Scope → NameSources → (Place → Place) → Spot → Contract → Sketch → Type 0
    OwnContract C z names at spot c s =
        let reads = in_contract (Some c) names (λ p. only (at p)) in
        spot.outside ≡ true → ((q : Place) → ContractPlaced (standing place q) t brings (held q) z spot c (λ p. only (at p)) s)
        × ((p : Place) → L S T n place (sources n (at (Observer ∷ p))) → L S T n place (reads (Observer ∷ p))) × ((p : Place) → L S T n place (sources n (at (Assume ∷ p))) → L S T n place (reads (Assume ∷ p)))
        × ((p : Place) → L S T n place (sources n (at (Enforce ∷ p))) → L S T n place (reads (Enforce ∷ p))) × (C → ⊥)

    pub contract-done : (c : Contract) (C : Type 0) (z : Scope) (names : NameSources) (at : Place → Place) (spot : Spot) (s : Sketch) → ContractFits t (Some c) → IsFilled c.body → NamesLead S T n place C z names → Reached S T n place C at (ContractWires S t brings z spot c s)
        → OwnContract C z names at spot c s → Shut S T n place (drawn_contract t brings z spot c s).1
        → ContractDone C names at c s (drawn_contract t brings z spot c s).1 (drawn_contract t brings z spot c s).0.assume (ContractWires S t brings z spot c s)
    contract-done c C z names at spot s fit filled named h own e =
        let i = drawn_block t brings z spot c.body s in
        let a = drawn_told t brings i.0 spot c.assume i.1 in
        let inner = names_in_block c.body names (λ p. only (at (Observer ∷ p))) in
        let named1 : NamesLead S T n place C i.0 inner = block-named S T n place t brings held b c.body filled C z names (λ p. at (Observer ∷ p)) spot s named (λ p. h (Observer ∷ p)) in
        let u3 = told-done c.enforce C i.0 inner (λ p. at (Enforce ∷ p)) spot a.1 fit.2 named1 (λ p. h (Enforce ∷ p)) (λ o. let x = own o in (λ q. (x.0 q).2, x.3, x.4)) e in
        let u2 = told-done c.assume C i.0 inner (λ p. at (Assume ∷ p)) spot i.1 fit.1 named1 (λ p. h (Assume ∷ p)) (λ o. let x = own o in (λ q. (x.0 q).1, x.2, x.4)) u3.shut in
        let u1 = whole-block S T n place t brings held b c.body fit.0 filled C z names (λ p. at (Observer ∷ p)) spot s named (λ p. h (Observer ∷ p)) (λ o. let x = own o in (λ q. (x.0 q).0, x.1, x.4)) u2.shut in
        record { shut = u1.shut; slots = λ k. u3.slots (u2.slots (u1.slots k)); placed = by u1.placed u2.placed u3.placed; assumed = u2.valued }
      where
        by : Holds (leading T) C (in_block c.body names (λ p. only (at (Observer ∷ p)))) (BlockWires S t brings z spot c.body s)
            → (let i = drawn_block t brings z spot c.body s in let a = drawn_told t brings i.0 spot c.assume i.1 in let inner = names_in_block c.body names (λ p. only (at (Observer ∷ p))) in
            Holds (leading T) C (at_told c.assume inner (λ p. only (at (Assume ∷ p)))) (ToldWires S t brings i.0 spot c.assume i.1) → Holds (leading T) C (at_told c.enforce inner (λ p. only (at (Enforce ∷ p)))) (ToldWires S t brings i.0 spot c.enforce a.1)
            → Holds (leading T) C (in_contract (Some c) names (λ p. only (at p))) (ContractWires S t brings z spot c s))
        by f g k (Observer ∷ p) l = f p l
        by f g k (Assume ∷ p) l = g p l
        by f g k (Enforce ∷ p) l = k p l
        by f g k p l = absurd l

  -- ---- the contract of a node that is called, of which nothing is looked at

  abbrev Runs : Sketch → Sketch → Type 0
  Runs = R S T n place

  module _ (t : Told) where
    none-run : BringsRun S T n place t no_brings
    none-run spot f m c s found e = (e, λ k. k)

    called-run : (o : Option Contract) → ContractFits t o → ContractFilled o → (spot : Spot) (m : Node) (d : Callee) (s : Sketch) → Going S T n place s (drawn_called_if t spot m o d s)
    called-run None fit filled spot m d s e = (e, λ k. k)
    called-run (Some c) fit filled spot m d s e =
        let i = called_at spot s in
        let z = contract_scope t i.0 m d.inputs d.outputs i.1 in
        let g = drawn_contract t no_brings z.0 i.0 c z.1 in
        let r2 = call-runs Runs (running S (Early S T n place)) (running-told S (Early S T n place)) i.0.here g.0.assume g.0.enforce g.1 in
        let r1 = scope-runs Runs (running S (Early S T n place)) t i.0 m d.inputs d.outputs i.1 in
        let r0 = called-runs Runs (running S (Early S T n place)) spot s in
        let u = contract-done t no_brings (λ q. none_held) none-run c ⊤ z.0 (λ x. none) (λ p. p) i.0 z.1 fit filled (λ x l. inl tt) (λ p l. inl tt) (λ o. absurd (let x : false ≡ true = sym (called-outside spot s) ∙ o in cc)) (r2.closed e) in
        (r0.closed (r1.closed u.shut), λ k. r2.slots (u.slots (r1.slots (r0.slots k))))

    pub contracts-run : ((f : List ℕ) (m : Node) → t.nodes f ≡ Some m → ContractFits t m.contract) → ((f : List ℕ) (m : Node) → t.nodes f ≡ Some m → ContractFilled m.contract) → BringsRun S T n place t contracts
    contracts-run fits filled spot f m c s found = called-run m.contract (fits f m found) (filled f m found) spot m c s

    -- ---- the contract of the node itself

    pub record ObserverDone (o : Option Contract) (z : Scope) (names : NameSources) (s : Sketch) : Type 0 where
      pub shut : Shut S T n place s
      pub slots : SlotsRight S T n place s → SlotsRight S T n place (drawn_observer t z o s).1
      pub placed : Holds (leading T) ⊥ (in_contract o names only) (ObserverWires S t z o s)
      pub assumed : L S T n place (assumption_reads o names) → ⊥ ⊎ S (drawn_observer t z o s).0.assume

    pub observer-done : (b : BringsRun S T n place t contracts) (o : Option Contract) (z : Scope) (names : NameSources) (s : Sketch) → ContractFits t o → ContractFilled o → NamesLead S T n place ⊥ z names → Reached S T n place ⊥ (λ p. p) (ObserverWires S t z o s)
        → ((q : Place) → ObserverPlaced (standing place q) t z o s) → ((p : Place) → L S T n place (sources n (Observer ∷ p)) → L S T n place (in_contract o names only (Observer ∷ p)))
        → ((p : Place) → L S T n place (sources n (Assume ∷ p)) → L S T n place (in_contract o names only (Assume ∷ p))) → ((p : Place) → L S T n place (sources n (Enforce ∷ p)) → L S T n place (in_contract o names only (Enforce ∷ p))) → Shut S T n place (drawn_observer t z o s).1 → ObserverDone o z names s
    observer-done b None z names s fit filled named h lies f g k e = record { shut = e; slots = λ k. k; placed = λ p l. absurd l; assumed = λ l. absurd l }
    observer-done b (Some c) z names s fit filled named h lies f g k e =
        let u = contract-done t contracts (λ q. contracts_held (standing place q) t) b c ⊥ z names (λ p. p) top_place s fit filled named h (λ o. (lies, f, g, k, λ x. x)) e in
        record { shut = u.shut; slots = u.slots; placed = u.placed; assumed = u.assumed }
