-- All flat names of a ranked node end, and so the equations that are made of it read each other in no circle.
use Rattle.std.proofs.Common.{◌≡◌, ℕ, zero, suc, ◌+◌, ◌<◌, Bool, true, false, ◌&&◌, ◌||◌, if◌then◌else◌, List, [], ◌∷◌, ◌++◌, length, refl, ap, arith}
use Rattle.std.specs.Prelude.{⊤, None, Some}
use Rattle.std.specs.List.{AllByRecursion}
use Rattle.std.proofs.lemmas.List.Elements.{All-contains, All-from_recursion}
use Rattle.hp_base.specs.declared.value.Value.{Value}
use Rattle.hp_tree.specs.Blocks.{Block, block}
use Rattle.hp_tree.specs.Programs.{TypeDecl, Node}
use Rattle.hp_tree.specs.declared.program.Item.{Item}
use Rattle.hp_tree.specs.declared.program.Item.TheVariants.{TypeItem, NodeItem}
use Rattle.hp_tree.specs.Instant.{Body as BodyOf, Controls, Named, Equations, Place}
use Rattle.hp_tree.specs.Meaning.{declares, controls_of}
use Rattle.hp_meaning.specs.Causal.Sources.{none, only, NameSources, Within, below as under_step}
use Rattle.hp_meaning.specs.Causal.WhatIsRead.{control_in, has_equation}
use Rattle.hp_meaning.specs.Causal.Causality.{sources, Ranked, IsRanked}
use Rattle.hp_meaning.specs.Causal.Clocked.{ClocksRight, on_base}
use Rattle.hp_meaning.proofs.CausalLemmas.NodesAgree.{within_more}
use Rattle.law_judged.specs.Named.Scoped.{EachNode}
use Rattle.hp_flat.specs.Nodes.{FlatNode}
use Rattle.law_equations.specs.Flattened.Flatten.{FlatName, Input, At, Free, Nowhere, IsFirst, Held, When, always, on, Prefix, Scope, copies, lasts_at, node_scope, flat_scope, flat_defined, inside_at, flatten}
use Rattle.law_equations.specs.Made.Making.{Known, numbers_from, outputs_of, sketch_node}
use Rattle.law_equations.specs.Made.Standing.{Knows}
use Rattle.law_equations.specs.Made.Laws.{names, NodeReady}
use Rattle.law_equations.proofs.MadeLemmas.MadeLaw.{stands-for}
use Rattle.hp_complete.specs.Ordering.{IsCircular}
use Rattle.law_wellmade.specs.Acyclic.Laws.{NodeLaw, NoCircleLaw}
use Rattle.law_wellmade.proofs.AcyclicLemmas.Variables.{no_circle}
use Rattle.law_wellmade.proofs.AcyclicLemmas.Names.{rows_in, NameEnds, PlaceEnds, Sees, WhenEnds, RestartEnds, no_rows, one_row, first_ends, held_ends}
use Rattle.law_wellmade.proofs.AcyclicLemmas.DefinitionLaws.{Around, lasts_in}
use Rattle.law_wellmade.proofs.AcyclicLemmas.BlockLaws.{block_ends}

module _ (types : List TypeDecl) (outputs : List ℕ → List (List ℕ)) (fill : Place → Value) (n : Node) where
  abbrev Ending : FlatName → Type 0
  Ending a = NameEnds types outputs fill n a

  abbrev EndingPlace : Place → Type 0
  EndingPlace p = PlaceEnds types outputs fill n p

  abbrev in_body : Prefix
  in_body q = BodyOf ∷ q

  abbrev node_lasts : Scope
  node_lasts = lasts_at types n.outputs (λ x. Nowhere) in_body always []

  nowhere_ends : Ending Nowhere
  nowhere_ends = no_rows types outputs fill n Nowhere refl

  -- ---- places

  node_sees : (given : NameSources) → Sees types outputs fill n given (node_scope n)
  node_sees given x h = by (declares n.inputs x || declares (controls_of n.contract) x)
    where
      by : (d : Bool) → Ending (if d then Input x else Nowhere)
      by true = no_rows types outputs fill n (Input x) refl
      by false = nowhere_ends

  around_node : (given : NameSources) → Around types outputs fill n given (node_scope n) node_lasts always []
  around_node given = record {
    sees = node_sees given;
    lasts = lasts_in types outputs fill n n.outputs (λ x. Nowhere) in_body always [] (λ x. nowhere_ends) tt tt;
    clock = tt;
    restart = tt;
  }

  -- a name that a block does not define has no rows there
  undefined_none : (b : Block) (x : List ℕ) → has_equation b x ≡ false → flat_scope types outputs fill b (node_scope n) node_lasts in_body always [] (Named x ∷ []) ≡ None
  undefined_none (block ds es) x e =
      ap (λ d. if d then Some (flat_defined types outputs fill ds es (inside_at es (node_scope n) in_body) (lasts_at types ds node_lasts in_body always []) (λ p. BodyOf ∷ Equations ∷ p) always [] x) else None) e

  -- an output reads its definition in the body
  output_ends : (x : List ℕ) (d h : Bool) → has_equation n.body x ≡ h → rows_in types outputs fill n (At (Named x ∷ [])) ≡ (if d then Some (copies always [] (At (BodyOf ∷ Named x ∷ [])) ∷ []) else None)
      → Within EndingPlace (if d && h then only (BodyOf ∷ Named x ∷ []) else none) → Ending (At (Named x ∷ []))
  output_ends x true true e plan h = one_row types outputs fill n (At (Named x ∷ [])) (copies always [] (At (BodyOf ∷ Named x ∷ []))) plan (tt, tt, (h, tt))
  output_ends x true false e plan h =
      one_row types outputs fill n (At (Named x ∷ [])) (copies always [] (At (BodyOf ∷ Named x ∷ []))) plan
      (tt, tt, (no_rows types outputs fill n (At (BodyOf ∷ Named x ∷ [])) (undefined_none n.body x e), tt))
  output_ends x false h e plan u = no_rows types outputs fill n (At (Named x ∷ [])) plan

  -- A place ends where its sources do.
  place_ends : ClocksRight n → (p : Place) → Within EndingPlace (sources n p) → Ending (At p)
  place_ends right (Named x ∷ []) h = output_ends x (declares n.outputs x) (has_equation n.body x) refl refl h
  place_ends right (BodyOf ∷ p) h =
      let given = control_in (controls_of n.contract) (under_step Controls only) in
      block_ends types outputs fill n n.body given (node_scope n) node_lasts (under_step BodyOf only) in_body always []
      (λ x. on_base (declares n.inputs x || (declares n.outputs x || declares (controls_of n.contract) x))) (around_node given) (λ q u. u) (λ q. refl) right.body p h
  place_ends right p h = no_rows types outputs fill n (At p) refl

  module _ (ranked : Ranked n) (right : ClocksRight n) where
    ranked_end : (bound : ℕ) (p : Place) → ranked.rank p < bound → Ending (At p)
    ranked_end zero p lt = absurd (omega arith)
    ranked_end (suc bound) p lt =
        place_ends right p (within_more (λ q. ranked.rank q < ranked.rank p) EndingPlace (λ q l. ranked_end bound q (omega arith)) (sources n p) (ranked.falls p))

    restarts_end : (rs : List Place) → RestartEnds types outputs fill n rs
    restarts_end [] = tt
    restarts_end (p ∷ rs) = (ranked_end ranked.bound p (ranked.bounded p), restarts_end rs)

    mutual
      pub name_ends : (a : FlatName) → Ending a
      name_ends (Input x) = no_rows types outputs fill n (Input x) refl
      name_ends (At p) = ranked_end ranked.bound p (ranked.bounded p)
      name_ends (Free p) = no_rows types outputs fill n (Free p) refl
      name_ends Nowhere = nowhere_ends
      name_ends (IsFirst w rs) = first_ends types outputs fill n w rs (when_ends w) (restarts_end rs)
      name_ends (Held v p w rs) = held_ends types outputs fill n v p w rs (when_ends w) (restarts_end rs)

      when_ends : (w : When) → WhenEnds types outputs fill n w
      when_ends always = tt
      when_ends (on v x w) = (name_ends x, when_ends w)

-- ---- the laws

pub node_has_no_circle : NodeLaw
node_has_no_circle types outputs k fill n knows ready ranked right circle =
    let f : FlatNode = record {
      name = n.name;
      variables = (sketch_node k n).variables;
      inputs = length n.inputs + length (controls_of n.contract);
      outputs = numbers_from (length n.inputs + length (controls_of n.contract)) n.outputs;
      eqns = (sketch_node k n).eqns;
    } in
    let s = stands-for types outputs k fill n f knows ready refl refl refl in
    no_circle s.means (flatten types outputs fill n) (names n.inputs ++ names (controls_of n.contract)) (λ g. length (outputs_of (k.nodes g))) f s.equations
    (name_ends types outputs fill n ranked right) circle

module _ (types : List TypeDecl) (outputs : List ℕ → List (List ℕ)) (k : Known) (fills : List ℕ → Place → Value) (knows : Knows types outputs k) where
  abbrev NoneIn : Item → Type 0
  NoneIn (TypeItem t) = ⊤
  NoneIn (NodeItem n) = IsCircular (sketch_node k n).eqns → ⊥

  none_in : (items : List Item) → EachNode (λ (n : Node). NodeReady k (fills n.name) n) items → IsRanked items → EachNode ClocksRight items → AllByRecursion NoneIn items
  none_in [] ready ranked right = tt
  none_in (TypeItem t ∷ items) ready ranked right = (tt, none_in items ready ranked right)
  none_in (NodeItem n ∷ items) ready ranked right = (node_has_no_circle types outputs k (fills n.name) n knows ready.0 ranked.0 right.0, none_in items ready.1 ranked.1 right.1)

pub nodes_have_no_circle : NoCircleLaw
nodes_have_no_circle types outputs k fills program knows ready ranked right circle =
    All-contains (NoneIn types outputs k fills knows) program (NodeItem circle.node)
    (All-from_recursion (NoneIn types outputs k fills knows) program (none_in types outputs k fills knows program ready ranked right)) circle.there circle.circle
