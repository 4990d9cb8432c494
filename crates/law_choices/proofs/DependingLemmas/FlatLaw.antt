-- Clocked equations depend on no more of what a node is given than the node does.
use Rattle.std.proofs.Common.{◌≡◌, ℕ, zero, suc, Bool, true, false, if◌then◌else◌, List, [], ◌∷◌, ◌++◌, length, refl, sym, ap, subst, None}
use Rattle.std.specs.Prelude.{Some}
use Rattle.std.specs.Str.{bytes_eq}
use Rattle.hp_base.specs.declared.value.Value.{Value}
use Rattle.hp_tree.specs.Blocks.{Decl, Block, block, Eqns}
use Rattle.hp_tree.specs.Programs.{TypeDecl, Node}
use Rattle.hp_tree.specs.Instant.{Body, Named, Equations, Place}
use Rattle.hp_tree.specs.Meaning.{some_defines, clock_in, controls_of}
use Rattle.hp_meaning.specs.Causal.Sources.{only}
use Rattle.hp_meaning.specs.Causal.Causality.{IsCausal, CausalLaw, ClocksLaw, OrderLaw}
use Rattle.hp_meaning.specs.Causal.Clocked.{ClocksRight, own_clock}
use Rattle.hp_meaning.specs.Causal.InputDependence.{SameReadsLaw}
use Rattle.hp_meaning.specs.Causal.Points.{NamesDeclared}
use Rattle.hp_automata.specs.Lowering.{Enumerations, lowered_node}
use Rattle.law_automata.specs.Lowered.OldNames.{IsOld}
use Rattle.law_automata.specs.Lowered.Removable.{NodeOk}
use Rattle.law_automata.specs.Lowered.Laws.{NodeRanksLaw, ClocksLaw as ClocksKeptLaw}
use Rattle.law_automata.proofs.LoweredLemmas.RightBlocks.{clock_none}
use Rattle.hp_flat.specs.Nodes.{FlatNode}
use Rattle.law_equations.specs.Flattened.Flat.{Flat}
use Rattle.law_equations.specs.Flattened.Flatten.{FlatName, Input, At, Free, Nowhere, IsFirst, Held, always, copies, lasts_at, inside_at, node_scope, flat_defined, flatten}
use Rattle.law_equations.specs.Made.Making.{Known, outputs_of}
use Rattle.law_equations.specs.Made.Laws.{names, Stands}
use Rattle.law_wellmade.specs.Acyclic.Reading.{RowsRead, IsShorter, Ends}
use Rattle.law_wellmade.proofs.AcyclicLemmas.Chains.{read_end}
use Rattle.law_choices.specs.Independent.Dependence.{given_in, IsOwn, DependsOnGiven}
use Rattle.law_choices.specs.Independent.Laws.{IsApart}
use Rattle.law_choices.proofs.IndependentLemmas.Given.{name_itself, stands_somewhere}
use Rattle.law_choices.proofs.IndependentLemmas.Ours.{with_body}
use Rattle.law_choices.proofs.IndependentLemmas.Fed.{Feeds}
use Rattle.law_choices.proofs.IndependentLemmas.FedRanks.{fed_ranked}
use Rattle.law_choices.proofs.IndependentLemmas.FedLowered.{low_locals, low_eqns}
use Rattle.law_choices.proofs.IndependentLemmas.AutomataLaw.{behind, low_ranked, undefined_still}
use Rattle.law_choices.specs.Depending.Looping.{looped}
use Rattle.law_choices.specs.Depending.Dependence.{EquationChain, DependsOn}
use Rattle.law_choices.specs.Depending.Laws.{NodeLaw, BothLaw}
use Rattle.law_choices.proofs.DependingLemmas.Names.{no_rows}
use Rattle.law_choices.proofs.DependingLemmas.NodeLaws.{y_ends}
use Rattle.law_choices.proofs.DependingLemmas.Told.{read_told}

module _ (types : List TypeDecl) (outputs : List ℕ → List (List ℕ)) (fill : Place → Value) (n : Node) (x : List ℕ) where
  abbrev flat : Flat FlatName
  flat = looped types outputs fill n (λ z. bytes_eq x z)

  -- what a name that ends reads ends
  opened : (a : FlatName) → Ends flat a → RowsRead (Ends flat) (flatten types outputs fill n a)
  opened (Input z) h = tt
  opened (At p) h = read_end flat (At p) (flatten types outputs fill n (At p)) refl h
  opened (Free p) h = tt
  opened Nowhere h = tt
  opened (IsFirst w rs) h = read_end flat (IsFirst w rs) (flatten types outputs fill n (IsFirst w rs)) refl h
  opened (Held v p w rs) h = read_end flat (Held v p w rs) (flatten types outputs fill n (Held v p w rs)) refl h

  -- the input under x does not
  endless : (m : ℕ) → IsShorter flat m (Input x) → ⊥
  endless zero h = h
  endless (suc m) h =
      let rows = subst (λ t. RowsRead (λ b. IsShorter flat m b) (if t then Some (copies always [] (Input x) ∷ []) else None)) (name_itself x) h in
      endless m rows.0.2.0

  module _ (k : Known) (f : FlatNode) (s : Stands types outputs k fill n f) where
    pub no_chain : (v : ℕ) (between : List ℕ) (w : ℕ) → Ends flat (s.means v) → s.means w ≡ Input x → EquationChain f.eqns v between w → ⊥
    no_chain v [] w h e c =
        let last = read_told s.means (flatten types outputs fill n) (names n.inputs ++ names (controls_of n.contract)) (λ g. length (outputs_of (k.nodes g))) f s.equations (Ends flat) c.0 v w c.1 c.2 (opened (s.means v) h) c.3 in
        let ended = subst (Ends flat) e last in
        endless ended.0 ended.1
    no_chain v (u ∷ us) w h e c =
        let step = c.0 in
        no_chain u us w
        (read_told s.means (flatten types outputs fill n) (names n.inputs ++ names (controls_of n.contract)) (λ g. length (outputs_of (k.nodes g))) f s.equations (Ends flat) step.0 v u step.1 step.2 (opened (s.means v) h) step.3) e c.1

-- ---- the laws

module _ (types : List TypeDecl) (outputs : List ℕ → List (List ℕ)) (fill : Place → Value) where
  abbrev NoChain : Node → List ℕ → List ℕ → Type 0
  NoChain n y x = Ends (looped types outputs fill n (λ z. bytes_eq x z)) (At (Body ∷ Named y ∷ []))

  -- a name that the body does not define
  undefined_ends : (n : Node) (ds : List Decl) (es : Eqns) (y x : List ℕ) → some_defines es y ≡ false → NoChain (with_body n ds es) y x
  undefined_ends n ds es y x e =
      no_rows types outputs fill (with_body n ds es) (λ z. bytes_eq x z) (λ p. Unit {0}) (At (Body ∷ Named y ∷ []))
      (ap (λ d. if d then Some (flat_defined types outputs fill ds es (inside_at es (node_scope (with_body n ds es)) (λ p. Body ∷ p)) (lasts_at types ds (lasts_at types n.outputs (λ z. Nowhere) (λ p. Body ∷ p) always []) (λ p. Body ∷ p) always []) (λ p. Body ∷ Equations ∷ p) always [] y) else None) e)

  -- a node, as it stands
  module _ (same : SameReadsLaw) (order : OrderLaw) (clocks : ClocksLaw) where
    ends_there : (n : Node) (ds : List Decl) (es : Eqns) (y x : List ℕ) → NamesDeclared (with_body n ds es) → ClocksRight (with_body n ds es) → IsCausal (with_body n ds es) → IsApart (with_body n ds es) x
        → clock_in ds y ≡ [] → (DependsOnGiven (with_body n ds es) y x → ⊥) → NoChain (with_body n ds es) y x
    ends_there n ds es y x declared right causal apart base independent = by (some_defines es y) refl (stands_somewhere (with_body n ds es) x apart.given)
      where
        by : (t : Bool) → some_defines es y ≡ t → (q : Place) × (given_in (with_body n ds es) x ≡ only q) → NoChain (with_body n ds es) y x
        by true e q =
            let feeds : Feeds n ds es x y q.0 = record { placed = q.1; undefined = apart.undefined; defined = e; no_output = apart.no_output; base = clock_none ds x apart.no_local } in
            y_ends types outputs fill n ds es x y q.0 feeds right (fed_ranked same order clocks n ds es x y q.0 feeds declared right causal apart.given base independent)
        by false e q = undefined_ends n ds es y x e

    body_ends : (n : Node) (b : Block) (y x : List ℕ) → NamesDeclared (record n { body = b }) → ClocksRight (record n { body = b }) → IsCausal (record n { body = b }) → IsApart (record n { body = b }) x → own_clock b y ≡ []
        → (DependsOnGiven (record n { body = b }) y x → ⊥) → NoChain (record n { body = b }) y x
    body_ends n (block ds es) y x declared right causal apart base independent = ends_there n ds es y x declared right causal apart base independent

    -- without automata
    module _ (ranks : NodeRanksLaw) (ranked : CausalLaw) (kept : ClocksKeptLaw) where
      low_ends : (enums : Enumerations) (n : Node) (b : Block) (y x : List ℕ) → NodeOk (record n { body = b }) → NamesDeclared (record n { body = b }) → ClocksRight (record n { body = b }) → IsCausal (record n { body = b }) → IsOld x
          → IsApart (record n { body = b }) x → IsOwn (record n { body = b }) y → own_clock b y ≡ [] → (DependsOnGiven (record n { body = b }) y x → ⊥) → NoChain (lowered_node enums (record n { body = b })) y x
      low_ends enums n (block ds es) y x ok declared right causal old apart own base independent = by (some_defines es y) refl (stands_somewhere (with_body n ds es) x apart.given)
        where
          by : (t : Bool) → some_defines es y ≡ t → (q : Place) × (given_in (with_body n ds es) x ≡ only q) → NoChain (lowered_node enums (with_body n ds es)) y x
          by true e q =
              y_ends types outputs fill (lowered_node enums (with_body n ds es)) (low_locals enums ds) (low_eqns enums n ds es) x y q.0
              (behind same order clocks ranks ranked enums n ds es y x ok declared right causal old apart own base independent e q.0 q.1)
              (kept enums (with_body n ds es) ok right)
              (low_ranked same order clocks ranks ranked enums n ds es y x ok declared right causal old apart own base independent e q.0 q.1)
          by false e q =
              undefined_ends (lowered_node enums (with_body n ds es)) (low_locals enums ds) (low_eqns enums n ds es) y x
              (undefined_still same order clocks ranks ranked enums n ds es y x ok declared right causal old apart own base independent e)

-- No variable of equations that stand for a node depends on an input where the name that it stands for has no chain to it.
no_dependence : (types : List TypeDecl) (outputs : List ℕ → List (List ℕ)) (k : Known) (fill : Place → Value) (n : Node) (f : FlatNode) (s : Stands types outputs k fill n f) (y x : List ℕ) → NoChain types outputs fill n y x
    → (v w : ℕ) → s.means v ≡ At (Body ∷ Named y ∷ []) → s.means w ≡ Input x → DependsOn f.eqns v w → ⊥
no_dependence types outputs k fill n f s y x h v w ev ew d = no_chain types outputs fill n x k f s v d.0 w (subst (Ends (looped types outputs fill n (λ z. bytes_eq x z))) (sym ev) h) ew d.1

pub node_law : SameReadsLaw → OrderLaw → ClocksLaw → NodeLaw
node_law same order clocks types outputs k fill n f s y x declared right causal apart base independent v w ev ew d =
    no_dependence types outputs k fill n f s y x (body_ends types outputs fill same order clocks n n.body y x declared right causal apart base independent) v w ev ew d

pub both_law : SameReadsLaw → OrderLaw → ClocksLaw → NodeRanksLaw → CausalLaw → ClocksKeptLaw → BothLaw
both_law same order clocks ranks ranked kept types outputs k fill enums n f s y x ok declared right causal old apart own base independent v w ev ew d =
    no_dependence types outputs k fill (lowered_node enums n) f s y x (low_ends types outputs fill same order clocks ranks ranked kept enums n n.body y x ok declared right causal old apart own base independent) v w ev ew d
