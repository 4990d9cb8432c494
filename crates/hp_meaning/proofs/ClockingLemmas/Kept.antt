-- Where each clock is written, writing an allowed assignment changes nothing.
use Rattle.std.proofs.Common.{◌≡◌, ℕ, List, [], ◌∷◌, ◌++◌, map, refl, sym, ap, ap₂, ◌∙◌}
use Rattle.std.proofs.lemmas.List.{reverse-reverse}
use Rattle.std.specs.Prelude.{reverse, Option, None, Some}
use Rattle.hp_tree.specs.Blocks.{Decl, Block, block, Eqns, no_eqn, more_eqns, Eqn, define, switch, reset, automaton, Arms, no_arm, more_arms, States, no_state, more_states}
use Rattle.hp_tree.specs.Programs.{Contract, Node}
use Rattle.hp_tree.specs.Instant.{Place, Body, Equations, Head, Tail, Arms as ArmsOf, States as StatesOf}
use Rattle.hp_meaning.specs.Causal.Sources.{below}
use Rattle.hp_meaning.specs.Causal.Points.{span_of}
use Rattle.hp_meaning.specs.Clocking.Clocking.{On, Term, Assignment, Sight, local_term, term_in, sight_in, sight_of, declared, tested, AllAllow, declarations, conditions, units, units_of_all, units_of_one, units_of_arms, units_of_states, contract_sight, body_sight, told, in_observer, in_body, contract_units, node_units, with_clock, base_written, with_clocks, all_with_clocks, one_with_clocks, arms_with_clocks, states_with_clocks, contract_with_clocks, node_with_clocks, EachBlock, EachOfAll, EachOfOne, EachOfArms, EachOfStates, EachInContract, IsWritten, AreWritten, AreOnBase, ControlsWritten, NodeWritten}
use Rattle.hp_meaning.proofs.ClockingLemmas.Units.{all_allow}

abbrev Writes : List Decl → Eqns → Type 0
Writes ds es = AreWritten ds

base_kept : (ds : List Decl) → AreOnBase ds → map base_written ds ≡ ds
base_kept [] h = refl
base_kept (d ∷ ds) h =
    ap₂ (λ z zs. record { name = d.name; ty = d.ty; last = d.last; clock = z; span = d.span } ∷ zs) (sym h.0) (base_kept ds h.1)

module _ (at : Assignment) where
  locals_kept : (sight : Sight) (es : Eqns) (here : Place → Place) (ds : List Decl) → AreWritten ds → AllAllow at (declarations sight es here ds) → map (with_clock at es here) ds ≡ ds
  locals_kept sight es here [] w a = refl
  locals_kept sight es here (d ∷ ds) w a = tie d.clock w.0 refl a (locals_kept sight es here ds w.1)
    where
      tie : (o : Option (List On)) → IsWritten o → d.clock ≡ o → AllAllow at (elim o [ None ↦ declarations sight es here ds | Some path ↦ declared d.span sight (local_term es here d) (reverse path) ∷ declarations sight es here ds ]) → (AllAllow at (declarations sight es here ds) → map (with_clock at es here) ds ≡ ds) → map (with_clock at es here) (d ∷ ds) ≡ d ∷ ds
      tie None f e h g = absurd f
      tie (Some path) f e h g =
          ap₂ (λ z zs. record { name = d.name; ty = d.ty; last = d.last; clock = z; span = d.span } ∷ zs)
          (ap (λ z. Some (reverse z)) h.0.1 ∙ ap Some (reverse-reverse path) ∙ sym e) (g h.1)

  mutual
    block_kept : (b : Block) (here : Place → Place) (out : Sight) → EachBlock Writes b → AllAllow at (units b here out) → with_clocks at here b ≡ b
    block_kept (block ds es) here out w a =
        let sight = sight_in ds es here out in
        let r = (all_allow at (declarations sight es here ds) (units_of_all es (below Equations here) sight (λ x. term_in es here ds x))).0 a in
        ap₂ block (locals_kept sight es here ds w.0 r.0) (all_kept es (below Equations here) sight (λ x. term_in es here ds x) w.1 r.1)

    all_kept : (es : Eqns) (here : Place → Place) (sight : Sight) (left : List ℕ → Term) → EachOfAll Writes es → AllAllow at (units_of_all es here sight left) → all_with_clocks at here es ≡ es
    all_kept no_eqn here sight left w a = refl
    all_kept (more_eqns e es) here sight left w a =
        let r = (all_allow at (units_of_one e (below Head here) sight left) (units_of_all es (below Tail here) sight left)).0 a in
        ap₂ more_eqns (one_kept e (below Head here) sight left w.0 r.0) (all_kept es (below Tail here) sight left w.1 r.1)

    one_kept : (e : Eqn) (here : Place → Place) (sight : Sight) (left : List ℕ → Term) → EachOfOne Writes e → AllAllow at (units_of_one e here sight left) → one_with_clocks at here e ≡ e
    one_kept (define s ys e) here sight left w a = refl
    one_kept (switch s e arms) here sight left w a = ap (switch s e) (arms_kept arms (below ArmsOf here) sight w a.1)
    one_kept (reset s b e) here sight left w a =
        let r = (all_allow at (units b (below Body here) sight) (tested (span_of e) sight e ∷ [])).0 a in
        ap (λ z. reset s z e) (block_kept b (below Body here) sight w r.0)
    one_kept (automaton s ss) here sight left w a = ap (automaton s) (states_kept ss (below StatesOf here) sight w a)

    arms_kept : (arms : Arms) (here : Place → Place) (sight : Sight) → EachOfArms Writes arms → AllAllow at (units_of_arms arms here sight) → arms_with_clocks at here arms ≡ arms
    arms_kept no_arm here sight w a = refl
    arms_kept (more_arms c b s arms) here sight w a =
        let r = (all_allow at (units b (below Head here) sight) (units_of_arms arms (below Tail here) sight)).0 a in
        ap₂ (λ z zs. more_arms c z s zs) (block_kept b (below Head here) sight w.0 r.0) (arms_kept arms (below Tail here) sight w.1 r.1)

    states_kept : (ss : States) (here : Place → Place) (sight : Sight) → EachOfStates Writes ss → AllAllow at (units_of_states ss here sight) → states_with_clocks at here ss ≡ ss
    states_kept no_state here sight w a = refl
    states_kept (more_states f b until unless s ss) here sight w a =
        let mine = below Body (below Head here) in
        let r = (all_allow at (units b mine sight) (conditions (sight_of b mine sight) until ++ (conditions sight unless ++ units_of_states ss (below Tail here) sight))).0 a in
        let q = (all_allow at (conditions (sight_of b mine sight) until) (conditions sight unless ++ units_of_states ss (below Tail here) sight)).0 r.1 in
        let o = (all_allow at (conditions sight unless) (units_of_states ss (below Tail here) sight)).0 q.1 in
        ap₂ (λ z zs. more_states f z until unless s zs) (block_kept b mine sight w.0 r.0) (states_kept ss (below Tail here) sight w.1 o.1)

  contract_kept : (out : Sight) (c : Option Contract) → EachInContract Writes c → ControlsWritten c → AllAllow at (contract_units out c) → contract_with_clocks at c ≡ c
  contract_kept out None w v a = refl
  contract_kept out (Some c) w v a =
      let r = (all_allow at (units c.body in_observer out) (told (sight_of c.body in_observer out) c.assume ++ told (sight_of c.body in_observer out) c.enforce)).0 a in
      ap₂ (λ z zs. Some (record { body = z; assume = c.assume; enforce = c.enforce; controls = zs; span = c.span }))
      (block_kept c.body in_observer out w r.0) (base_kept c.controls v)

  pub node_kept : (n : Node) → NodeWritten n → AllAllow at (node_units n) → node_with_clocks at n ≡ n
  node_kept n w a =
      let r = (all_allow at (contract_units (contract_sight n) n.contract) (units n.body in_body (body_sight n))).0 a in
      let i = base_kept n.inputs w.inputs in
      let o = base_kept n.outputs w.outputs in
      let k = contract_kept (contract_sight n) n.contract w.contract w.controls r.0 in
      let b = block_kept n.body in_body (body_sight n) w.body r.1 in
      λ z. record { name = n.name; span = n.span; inputs = i z; outputs = o z; contract = k z; body = b z }
