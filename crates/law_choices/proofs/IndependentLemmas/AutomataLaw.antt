-- Removing automata adds no dependence: were there one, the node without automata, fed, would read itself in a circle, and it does not.
use Rattle.std.proofs.Common.{◌≡◌, ℕ, Bool, true, false, ◌||◌, List, [], ◌∷◌, refl, sym, ap, ◌∙◌, subst, None}
use Rattle.std.specs.Str.{bytes_eq}
use Rattle.hp_tree.specs.Blocks.{Decl, Block, block, Eqns}
use Rattle.hp_tree.specs.Programs.{Node}
use Rattle.hp_tree.specs.Instant.{Controls, Body, Named, Equations, Place}
use Rattle.hp_tree.specs.Meaning.{declares, some_defines, clock_in}
use Rattle.hp_meaning.specs.Causal.Sources.{none, only, IsRead, below}
use Rattle.hp_meaning.specs.Causal.WhatIsRead.{names_in}
use Rattle.hp_meaning.specs.Causal.Causality.{Ranked, IsCausal, CausalLaw, ClocksLaw, OrderLaw}
use Rattle.hp_meaning.specs.Causal.Clocked.{ClocksRight, own_clock}
use Rattle.hp_meaning.specs.Causal.InputDependence.{row_in, input_in, sources_with_inputs, ChainWithInputs, SameReadsLaw}
use Rattle.hp_meaning.specs.Causal.Points.{NamesDeclared}
use Rattle.hp_automata.specs.Lowering.{Enumerations, same_name, lowered_node, types_of}
use Rattle.hp_automata.specs.Renaming.{renamed_decls}
use Rattle.law_automata.specs.Lowered.OldNames.{IsOld}
use Rattle.law_automata.specs.Lowered.Removable.{Known, none_known, BlockOk, DeclsOk, NodeOk}
use Rattle.law_automata.specs.Lowered.Laws.{NodeRanksLaw}
use Rattle.law_automata.proofs.LoweredLemmas.Renaming.{declares_renamed}
use Rattle.law_automata.proofs.LoweredLemmas.Nodes.{itself_renames, itself_undone}
use Rattle.law_automata.proofs.LoweredLemmas.RightBlocks.{RightAround, clock_none, made_defines}
use Rattle.law_automata.proofs.LoweredLemmas.RightSteps.{controls_same, declared_old}
use Rattle.law_choices.specs.Independent.Dependence.{given_in, DependsOnGiven, IsOwn}
use Rattle.law_choices.specs.Independent.Laws.{IsApart, NodeLaw}
use Rattle.law_choices.proofs.IndependentLemmas.Feeding.{none_defined}
use Rattle.law_choices.proofs.IndependentLemmas.Given.{same_name as names_same}
use Rattle.law_choices.proofs.IndependentLemmas.Ours.{with_body}
use Rattle.law_choices.proofs.IndependentLemmas.Fed.{Feeds, fed}
use Rattle.law_choices.proofs.IndependentLemmas.Circles.{feeds_circle}
use Rattle.law_choices.proofs.IndependentLemmas.FedLowered.{low_locals, low_eqns, low_fed}
use Rattle.law_choices.proofs.IndependentLemmas.FedNodes.{fed_ok}
use Rattle.law_choices.proofs.IndependentLemmas.FedRanks.{fed_ranked}

-- ---- names of the program

module _ (enums : Enumerations) where
  -- without automata the body defines the same names of the program
  pub same_defined : (n : Node) (ds : List Decl) (es : Eqns) → BlockOk none_known 0 (block ds es) → (z : List ℕ) → IsOld z → some_defines (low_eqns enums n ds es) z ≡ some_defines es z
  same_defined n ds es ok z o = made_defines enums (types_of n) n.span around z o ∙ no_more (some_defines es z)
    where
      around : RightAround none_known 0 same_name [] (block ds es) (λ y. None) (λ y. None)
      around = record { renames = itself_renames; undone = itself_undone; ok = ok; own = λ y q. absurd cc; old = λ y q. absurd cc; out_same = λ y p q. refl; kept_base = λ y q. absurd cc }

      no_more : (t : Bool) → (t || false) ≡ t
      no_more true = refl
      no_more false = refl

  -- what is given stays where it is
  pub same_given : (n : Node) (z : List ℕ) → given_in (lowered_node enums n) z ≡ given_in n z
  same_given n z = ap (λ cs. row_in cs (below Controls only) (input_in n only) z) (controls_same enums (types_of n) n.contract)

locals_old : (outer : Known) (es : Eqns) (ds : List Decl) → DeclsOk outer es ds → (z : List ℕ) → declares ds z ≡ true → IsOld z
locals_old outer es [] ok z h = absurd cc
locals_old outer es (d ∷ ds) ok z h = by (bytes_eq d.name z) refl h (locals_old outer es ds ok.1 z)
  where
    by : (t : Bool) → bytes_eq d.name z ≡ t → (t || declares ds z) ≡ true → (declares ds z ≡ true → IsOld z) → IsOld z
    by true e h rest = subst IsOld (names_same d.name z e) ok.0.0
    by false e h rest = rest h

own_old : (enums : Enumerations) (n : Node) (ds : List Decl) (es : Eqns) → NodeOk (with_body n ds es) → (y : List ℕ) → IsOwn (with_body n ds es) y → IsOld y
own_old enums n ds es ok y own = by (declares n.outputs y) refl own
  where
    by : (t : Bool) → declares n.outputs y ≡ t → (t || declares ds y) ≡ true → IsOld y
    by true e h = declared_old enums n.outputs ok.outputs y e
    by false e h = locals_old none_known es ds ok.body.0 y h

-- a name that the body does not define reads nothing
reads_none : (n : Node) (ds : List Decl) (es : Eqns) (y : List ℕ) → some_defines es y ≡ false → sources_with_inputs (with_body n ds es) (Body ∷ Named y ∷ []) ≡ none
reads_none n ds es y h = none_defined ds n.span y y (names_in es (given_in (with_body n ds es)) (λ q. only (Body ∷ q))) es (λ q. only (Body ∷ Equations ∷ q)) y h

chain_none : (n : Node) (p : Place) → sources_with_inputs n p ≡ none → (between : List Place) (q : Place) → ChainWithInputs n p between q → ⊥
chain_none n p e [] q h = subst (IsRead q) e h
chain_none n p e (r ∷ rs) q h = subst (IsRead r) e h.0

-- ---- the law

module _ (same : SameReadsLaw) (order : OrderLaw) (clocks : ClocksLaw) (ranks : NodeRanksLaw) (ranked : CausalLaw) where
  module _ (enums : Enumerations) (n : Node) (ds : List Decl) (es : Eqns) (y x : List ℕ) (ok : NodeOk (with_body n ds es)) (declared : NamesDeclared (with_body n ds es)) (right : ClocksRight (with_body n ds es))
      (causal : IsCausal (with_body n ds es)) (old : IsOld x) (apart : IsApart (with_body n ds es) x) (own : IsOwn (with_body n ds es) y) (base : clock_in ds y ≡ []) (independent : DependsOnGiven (with_body n ds es) y x → ⊥) where
    abbrev N : Node
    N = with_body n ds es

    abbrev M : Node
    M = lowered_node enums N

    old_y : IsOld y
    old_y = own_old enums n ds es ok y own

    base_x : clock_in ds x ≡ []
    base_x = clock_none ds x apart.no_local

    -- where the body defines y, the node without automata has ranks also where it is fed
    module _ (defined : some_defines es y ≡ true) (q : Place) (at : given_in N x ≡ only q) where
      pub behind : Feeds M (low_locals enums ds) (low_eqns enums n ds es) x y q
      behind = record {
        placed = same_given enums N x ∙ at;
        undefined = same_defined enums n ds es ok.body x old ∙ apart.undefined;
        defined = same_defined enums n ds es ok.body y old_y ∙ defined;
        no_output = apart.no_output;
        base = clock_none (renamed_decls same_name ds) x (declares_renamed same_name ds x ∙ apart.no_local);
      }

      pub low_ranked : Ranked (fed M (low_locals enums ds) (low_eqns enums n ds es) x y)
      low_ranked =
          let before : Feeds n ds es x y q = record { placed = at; undefined = apart.undefined; defined = defined; no_output = apart.no_output; base = base_x } in
          let has_ranks = fed_ranked same order clocks n ds es x y q before declared right causal apart.given base independent in
          subst Ranked (low_fed enums n ds es x y) (ranks enums (fed n ds es x y) (fed_ok n x y ds es apart.undefined old old_y ok) has_ranks)

    pub undefined_still : some_defines es y ≡ false → some_defines (low_eqns enums n ds es) y ≡ false
    undefined_still e = same_defined enums n ds es ok.body y old_y ∙ e

    pub block_law : DependsOnGiven M y x → ⊥
    block_law d = by (some_defines es y) refl
      where
        by : (t : Bool) → some_defines es y ≡ t → ⊥
        by true e =
            let at : given_in N x ≡ only d.0 = sym (same_given enums N x) ∙ d.1 in
            feeds_circle M (low_locals enums ds) (low_eqns enums n ds es) x y d.0 (behind e d.0 at) (ranked (fed M (low_locals enums ds) (low_eqns enums n ds es) x y) (low_ranked e d.0 at)) (d.2, d.3)
        by false e = chain_none M (Body ∷ Named y ∷ []) (reads_none M (low_locals enums ds) (low_eqns enums n ds es) y (undefined_still e)) d.2 d.0 d.3

  by_body : (enums : Enumerations) (n : Node) (b : Block) (y x : List ℕ) → NodeOk (record n { body = b }) → NamesDeclared (record n { body = b }) → ClocksRight (record n { body = b }) → IsCausal (record n { body = b })
      → IsOld x → IsApart (record n { body = b }) x → IsOwn (record n { body = b }) y → own_clock b y ≡ [] → (DependsOnGiven (record n { body = b }) y x → ⊥) → DependsOnGiven (lowered_node enums (record n { body = b })) y x → ⊥
  by_body enums n (block ds es) y x ok declared right causal old apart own base independent d = block_law enums n ds es y x ok declared right causal old apart own base independent d

  pub node_law : NodeLaw
  node_law enums n y x ok declared right causal old apart own base independent d = by_body enums n n.body y x ok declared right causal old apart own base independent d
