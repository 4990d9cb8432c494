-- For all values of the variables of a node's machine there is what is given for the node.
use Rattle.std.proofs.Common.{◌≡◌, ℕ, List, [], ◌∷◌, ◌++◌, refl, sym, ap, ap₂, subst, ◌∙◌, append-nil}
use Rattle.std.specs.Prelude.{Bool, IsTrue, Option, None, Some, reverse}
use Rattle.hp_base.specs.declared.ty.Const.{Const}
use Rattle.hp_base.specs.declared.value.Value.{Value}
use Rattle.hp_tree.specs.declared.program.Item.{Item}
use Rattle.hp_tree.specs.Blocks.{Decl}
use Rattle.hp_tree.specs.Programs.{TypeDecl, Contract, Node}
use Rattle.hp_tree.specs.ExpressionTypes.{Scope as Types, typed_in, untyped}
use Rattle.hp_tree.specs.Instant.{Inputs, Controls, Body, Named, Place, Instant, part}
use Rattle.hp_tree.specs.Meaning.{types_of, controls_of, node_among}
use Rattle.law_judged.specs.Typed.Scopes.{Scope}
use Rattle.hp_meaning.specs.Causal.Sources.{below}
use Rattle.hp_meaning.specs.Causal.Steering.{steered_by}
use Rattle.hp_meaning.specs.Contract.Game.{Choice, IsChoiceOf, at_controls, preferred}
use Rattle.hp_meaning.specs.Contract.FreePlaces.{IsFree}
use Rattle.hp_meaning.specs.Contract.Slots.{Slot, register, input, control, free_among, shape_of, callee_slots, slots_of_contract, slots_of_block, slots_of_node, registers, zero_at}
use Rattle.law_games.specs.Wires.WiredBlocks.{FillsBlock}
use Rattle.law_games.specs.Wires.WiredNodes.{FillsObserver, FillsNode}
use Rattle.law_games.specs.Wires.WiredCallees.{FillsBy, callee_wires}
use Rattle.law_games.specs.Wiretyped.Typed.{AreWires}
use Rattle.law_games.specs.Wiretyped.Kept.{BlockGiven, ContractGiven}
use Rattle.law_games.specs.Wiretyped.Callees.{CalleeGiven}
use Rattle.law_games.specs.Wiretyped.Laws.{GivenFits}
use Rattle.law_games.proofs.WiretypedLemmas.Givens.{choice_fits}
use Rattle.law_games.specs.Mirror.Mirrored.{early_among, late_among, controls_among, given_with}
use Rattle.law_games.specs.Mirror.Memories.{AreApart, SlotsFit}
use Rattle.law_games.proofs.MirrorLemmas.SlotLists.{values_at, AreValues, split, values_joined, early_joined, late_joined, controls_joined, no_controls, same_early, early_values, free_behind, fits_behind}
use Rattle.law_games.proofs.MirrorLemmas.Realised.{Realised, Under, Observers, join, lasts_slots, outputs_slots, contract_of, block_of}
use Rattle.law_games.proofs.MirrorLemmas.Called.{decls_by, callee_among}
use Rattle.law_games.proofs.MirrorLemmas.Rows.{row_slots, inputs_of, choice_of, choice_same, row_same, row_values, inputs_not_late, inputs_not_controls, controls_not_early, controls_not_late}

-- `last` variables are registers
lasts_not_early : (types : List TypeDecl) (early : Place → Bool) (ds : List Decl) (w : Place → Place) → early_among early (lasts_slots types ds w) ≡ []
lasts_not_early types early [] w = refl
lasts_not_early types early (d ∷ ds) w = by d.last (lasts_not_early types early ds w)
  where
    by : (o : Option Const) → early_among early (lasts_slots types ds w) ≡ [] → early_among early ((elim o [ None ↦ [] | Some c ↦ register (w (Named d.name ∷ [])) (shape_of types d.ty) ∷ [] ]) ++ lasts_slots types ds w) ≡ []
    by None e = e
    by (Some c) e = e

lasts_not_late : (types : List TypeDecl) (early : Place → Bool) (ds : List Decl) (w : Place → Place) → late_among early (lasts_slots types ds w) ≡ []
lasts_not_late types early [] w = refl
lasts_not_late types early (d ∷ ds) w = by d.last (lasts_not_late types early ds w)
  where
    by : (o : Option Const) → late_among early (lasts_slots types ds w) ≡ [] → late_among early ((elim o [ None ↦ [] | Some c ↦ register (w (Named d.name ∷ [])) (shape_of types d.ty) ∷ [] ]) ++ lasts_slots types ds w) ≡ []
    by None e = e
    by (Some c) e = e

lasts_not_controls : (types : List TypeDecl) (ds : List Decl) (w : Place → Place) → controls_among (lasts_slots types ds w) ≡ []
lasts_not_controls types [] w = refl
lasts_not_controls types (d ∷ ds) w = by d.last (lasts_not_controls types ds w)
  where
    by : (o : Option Const) → controls_among (lasts_slots types ds w) ≡ [] → controls_among ((elim o [ None ↦ [] | Some c ↦ register (w (Named d.name ∷ [])) (shape_of types d.ty) ∷ [] ]) ++ lasts_slots types ds w) ≡ []
    by None e = e
    by (Some c) e = e

-- a body, and a contract's part
abbrev body_or : Instant → Instant → Instant
body_or i j (Body ∷ p) = j p
body_or i j p = i p

module _ (program earlier : List Item) (n : Node) (early : Place → Bool) (found : (f : List ℕ) (k : Node) → node_among earlier f ≡ Some k → node_among (reverse program) f ≡ Some k)
    (apart : (f : List ℕ) (k : Node) → node_among (reverse program) f ≡ Some k → AreApart k.outputs) where
  abbrev types : List TypeDecl
  types = types_of program

  abbrev outs : List ℕ → List Decl
  outs f = decls_by (node_among (reverse program) f)

  abbrev called : List ℕ → (Place → Place) → List Slot
  called f w = callee_slots types (node_among (reverse program) f) w

  abbrev here : Place → Place
  here p = p

  abbrev seen : Types
  seen = typed_in n.inputs (typed_in n.outputs untyped)

  abbrev ins : List Slot
  ins = row_slots input n.inputs (below Inputs here)

  abbrev lasts : List Slot
  lasts = lasts_slots types n.outputs here

  abbrev chosen : List Slot
  chosen = row_slots control (controls_of n.contract) (below Controls here)

  abbrev in_contract : List Slot
  in_contract = slots_of_contract types outs called n.contract seen here

  abbrev in_body : List Slot
  in_body = slots_of_block types outs called n.body (typed_in (controls_of n.contract) seen) (below Body here)

  abbrev rest : List Slot
  rest = in_contract ++ in_body

  abbrev all : List Slot
  all = slots_of_node program n

  parts : all ≡ ins ++ (lasts ++ (chosen ++ rest))
  parts = refl

  early_parts : early_among early all ≡ early_among early ins ++ early_among early rest
  early_parts =
      early_joined early ins (lasts ++ (chosen ++ rest))
      ∙ ap (λ ps. early_among early ins ++ ps)
      (early_joined early lasts (chosen ++ rest)
      ∙ ap₂ (λ ps qs. ps ++ qs) (lasts_not_early types early n.outputs here) (early_joined early chosen rest ∙ ap (λ ps. ps ++ early_among early rest) (controls_not_early types early (controls_of n.contract) (below Controls here))))

  late_parts : late_among early all ≡ late_among early rest
  late_parts =
      late_joined early ins (lasts ++ (chosen ++ rest))
      ∙ ap₂ (λ ps qs. ps ++ qs) (inputs_not_late types early n.inputs (below Inputs here))
      (late_joined early lasts (chosen ++ rest)
      ∙ ap₂ (λ ps qs. ps ++ qs) (lasts_not_late types early n.outputs here) (late_joined early chosen rest ∙ ap (λ ps. ps ++ late_among early rest) (controls_not_late types early (controls_of n.contract) (below Controls here))))

  -- ---- the contract and the body

  -- what registers hold at the start
  abbrev start : Instant
  start = zero_at (registers program n)

  abbrev Contracted : Instant → Type 0
  Contracted i = ((s : Scope) → ContractGiven types (CalleeGiven types earlier) s n.contract i) × FillsObserver types (callee_wires types earlier) n.contract start i

  abbrev Bodied : Instant → Type 0
  Bodied i = ((s : Scope) → BlockGiven types (CalleeGiven types earlier) s n.body i) × FillsBlock types (callee_wires types earlier) n.body (part Body start) i

  -- what is over it has what is given for the contract and the body
  abbrev Over : Instant → Instant → Type 0
  Over root i = Observers here root i × ((p : Place) → root (Body ∷ p) ≡ i (Body ∷ p))

  contract_same : (o : Option Contract) (i j : Instant) (s : Scope) → ContractGiven types (CalleeGiven types earlier) s o i → ContractGiven types (CalleeGiven types earlier) s o (body_or i j)
  contract_same None i j s g = tt
  contract_same (Some c) i j s g = g

  contract_steered : (o : Option Contract) (i : Instant) (c : Choice) (s : Scope) → ContractGiven types (CalleeGiven types earlier) s o i → ContractGiven types (CalleeGiven types earlier) s o (steered_by i (at_controls c))
  contract_steered None i c s g = tt
  contract_steered (Some k) i c s g = g

  filled_same : (o : Option Contract) (i j : Instant) → FillsObserver types (callee_wires types earlier) o start i → FillsObserver types (callee_wires types earlier) o start (body_or i j)
  filled_same None i j g = tt
  filled_same (Some c) i j g = g

  filled_steered : (o : Option Contract) (i : Instant) (c : Choice) → FillsObserver types (callee_wires types earlier) o start i → FillsObserver types (callee_wires types earlier) o start (steered_by i (at_controls c))
  filled_steered None i c g = tt
  filled_steered (Some k) i c g = g

  calls : (f : List ℕ) (w : Place → Place) → Realised types early (outputs_slots (outs f) w ++ called f w) (Under w) (λ i. CalleeGiven types earlier f i × FillsBy types (node_among earlier f) (λ p. start (w p)) i)
  calls f w = callee_among types early earlier f (node_among (reverse program) f) (found f) (apart f) start w

  realised : Realised types early rest Over (λ i. Contracted i × Bodied (part Body i))
  realised =
      join types early in_contract in_body (Observers here) (Under (below Body here)) Over Contracted Bodied (λ i. Contracted i × Bodied (part Body i))
      (contract_of types early (callee_wires types earlier) start outs called (CalleeGiven types earlier) calls n.contract seen here) (block_of types early (callee_wires types earlier) start outs called (CalleeGiven types earlier) calls n.body (typed_in (controls_of n.contract) seen) (below Body here))
      (λ i j. body_or i j) (λ root i j h. (h.0, h.1)) (λ i j g k. (((λ s. contract_same n.contract i j s (g.0 s)), filled_same n.contract i j g.1), k))

  -- what is given so fits, with each choice
  pub fits : (others : Instant) (c : Choice) → IsChoiceOf program n c → Contracted others → Bodied (part Body others) → GivenFits types earlier n (steered_by others (at_controls c))
  fits others c is g k = (choice_fits program n c is, (k.0 _, contract_steered n.contract others c _ (g.0 _)))

  -- and has at each `pre` what its register holds at the start
  pub fills : (others : Instant) (c : Choice) → Contracted others → Bodied (part Body others) → FillsNode types (callee_wires types earlier) n start (steered_by others (at_controls c))
  fills others c g k = record { body = k.1; contract = filled_steered n.contract others c g.1 }

  -- ---- the node

  -- what is given for late values, beside inputs and early values
  abbrev Late : List Value → List Value → List Value → Type 0
  Late vs inputs ws =
      (others : Instant) × Contracted others × Bodied (part Body others)
      × ((c : Choice) → (values_at (early_among early all) (given_with inputs others c) ≡ vs) × (values_at (late_among early all) (given_with inputs others c) ≡ ws))

  pub given : (vs : List Value) → AreValues types (early_among early all) vs
      → (inputs : List Value) × AreWires types n.inputs inputs × ((ws : List Value) → AreValues types (late_among early all) ws → Late vs inputs ws)
  given vs h =
      let s = split types (early_among early ins) (early_among early rest) vs (subst (λ ps. AreValues types ps vs) early_parts h) in
      let x = inputs_of types early n.inputs (below Inputs here) s.0 s.2 in (
        x.0,
        x.1,
        λ ws k.
            let y = realised.1 s.1 ws s.3 (subst (λ ps. AreValues types ps ws) late_parts k) in (
              y.0,
              y.1.0,
              y.1.1,
              λ c.
                  let root : Instant = given_with x.0 y.0 c in
                  let e = y.2 root (((λ p. refl), ((λ p. refl), (λ p. refl))), (λ p. refl)) in (
                    ap (λ ps. values_at ps root) early_parts ∙ values_joined (early_among early ins) (early_among early rest) root ∙ ap₂ (λ us ws. us ++ ws) (x.2 root (λ p. refl)) e.0 ∙ sym s.4,
                    ap (λ ps. values_at ps root) late_parts ∙ e.1,
                  ),
            ),
      )

  -- early values are the same where inputs are, and what is given at early places
  pub same_values : (inputs : List Value) (i j : Instant) (c d : Choice) → ((p : Place) → IsFree (free_among all) p → IsTrue (early p) → given_with inputs i c p ≡ given_with inputs j d p)
      → values_at (early_among early all) (given_with inputs i c) ≡ values_at (early_among early all) (given_with inputs j d)
  same_values inputs i j c d h =
      ap (λ ps. values_at ps (given_with inputs i c)) early_parts
      ∙ values_joined (early_among early ins) (early_among early rest) (given_with inputs i c)
      ∙ ap₂ (λ us ws. us ++ ws) (row_same types early n.inputs (below Inputs here) (given_with inputs i c) (given_with inputs j d) (λ p. refl)) (same_early early rest (given_with inputs i c) (given_with inputs j d) realised.0
      (λ p f. h p (free_behind ins (lasts ++ (chosen ++ rest)) p (free_behind lasts (chosen ++ rest) p (free_behind chosen rest p f)))))
      ∙ sym (values_joined (early_among early ins) (early_among early rest) (given_with inputs j d))
      ∙ sym (ap (λ ps. values_at ps (given_with inputs j d)) early_parts)

  -- ---- choices

  controls_parts : controls_among all ≡ controls_among chosen
  controls_parts =
      controls_joined ins (lasts ++ (chosen ++ rest))
      ∙ ap₂ (λ ps qs. ps ++ qs) (inputs_not_controls types early n.inputs (below Inputs here))
      (controls_joined lasts (chosen ++ rest)
      ∙ ap₂ (λ ps qs. ps ++ qs) (lasts_not_controls types n.outputs here) (controls_joined chosen rest ∙ ap (λ ps. controls_among chosen ++ ps) (no_controls rest realised.0) ∙ append-nil (controls_among chosen)))

  pub choice : IsChoiceOf program n (preferred program n) → (vs : List Value) → AreValues types (controls_among all) vs
      → (c : Choice) × IsChoiceOf program n c × ((inputs : List Value) (others : Instant) → values_at (controls_among all) (given_with inputs others c) ≡ vs)
  choice some vs h =
      let x = choice_of types early (controls_of n.contract) (preferred program n) some (below Controls here) vs (subst (λ ps. AreValues types ps vs) controls_parts h) in
      (x.0, x.1, λ inputs others. ap (λ ps. values_at ps (given_with inputs others x.0)) controls_parts ∙ x.2 (given_with inputs others x.0) (λ p. refl))

  pub choice_values : (inputs : List Value) (others : Instant) (c : Choice) → IsChoiceOf program n c → AreValues types (controls_among all) (values_at (controls_among all) (given_with inputs others c))
  choice_values inputs others c is =
      subst (λ ps. AreValues types ps (values_at ps (given_with inputs others c))) (sym controls_parts)
      (row_values types early (controls_of n.contract) (below Controls here) (given_with inputs others c) (at_controls c) (choice_fits program n c is) (λ p. refl))

  -- what the bits of a choice look at is the choice alone
  pub same_choice : (inputs more : List Value) (i j : Instant) (c : Choice) → values_at (controls_among all) (given_with inputs i c) ≡ values_at (controls_among all) (given_with more j c)
  same_choice inputs more i j c =
      ap (λ ps. values_at ps (given_with inputs i c)) controls_parts
      ∙ choice_same types early (controls_of n.contract) (below Controls here) (given_with inputs i c) (given_with more j c) (λ p. refl)
      ∙ sym (ap (λ ps. values_at ps (given_with more j c)) controls_parts)

  -- The same where inputs and early values are given already: other late values stand beside them.
  pub beside : (inputs : List Value) (firsts : Instant) (c : Choice) → SlotsFit types all (given_with inputs firsts c) → (ws : List Value) → AreValues types (late_among early all) ws → Late (values_at (early_among early all) (given_with inputs firsts c)) inputs ws
  beside inputs firsts c f ws k =
      let known : Instant = given_with inputs firsts c in
      let fr : SlotsFit types rest known = fits_behind types chosen rest known (fits_behind types lasts (chosen ++ rest) known (fits_behind types ins (lasts ++ (chosen ++ rest)) known f)) in
      let y = realised.1 (values_at (early_among early rest) known) ws (early_values types early rest known fr) (subst (λ ps. AreValues types ps ws) late_parts k) in (
        y.0,
        y.1.0,
        y.1.1,
        λ d.
            let root : Instant = given_with inputs y.0 d in
            let e = y.2 root (((λ p. refl), ((λ p. refl), (λ p. refl))), (λ p. refl)) in (
              ap (λ ps. values_at ps root) early_parts
                  ∙ values_joined (early_among early ins) (early_among early rest) root
                  ∙ ap₂ (λ us ws. us ++ ws) (row_same types early n.inputs (below Inputs here) root known (λ p. refl)) e.0
                  ∙ sym (values_joined (early_among early ins) (early_among early rest) known)
                  ∙ sym (ap (λ ps. values_at ps known) early_parts),
              ap (λ ps. values_at ps root) late_parts ∙ e.1,
            ),
      )
