-- Writing clocks keeps names in their scopes.
use Rattle.std.proofs.Common.{◌≡◌, ℕ, ◌||◌, List, [], ◌∷◌, ◌++◌, map, refl, sym, ap, ◌∙◌, subst}
use Rattle.std.specs.Prelude.{IsTrue, Option, None, Some}
use Rattle.std.specs.Str.{bytes_eq}
use Rattle.hp_tree.specs.Blocks.{Decl, Block, block, Eqns, no_eqn, more_eqns, Eqn, define, switch, reset, automaton, Arms, no_arm, more_arms, States, no_state, more_states}
use Rattle.hp_tree.specs.Programs.{Contract, Node}
use Rattle.hp_tree.specs.Instant.{Place, Body, Equations, Head, Tail, Arms as ArmsOf, States as StatesOf}
use Rattle.hp_tree.specs.Meaning.{declares, some_defines, controls_of}
use Rattle.hp_meaning.specs.Causal.Sources.{below}
use Rattle.hp_meaning.specs.Clocking.Clocking.{Assignment, AreOnce, with_clock, with_clocks, all_with_clocks, one_with_clocks, arms_with_clocks, states_with_clocks, in_observer, in_body, base_written, contract_with_clocks, node_with_clocks}
use Rattle.hp_meaning.proofs.ClockingLemmas.Written.{declares_kept, some_kept}
use Rattle.law_judged.specs.Named.Scoped.{Names, no_names, also, BlockScoped, EqnsScoped, EqnScoped, ArmsScoped, StatesScoped, ContractScoped, equations_of, interface, NodeScoped}
use Rattle.law_judged.specs.Named.Laws.{ClocksKeepLaw}

same_names : (ds es : List Decl) → ((x : List ℕ) → declares ds x ≡ declares es x) → (names : Names) → also names ds ≡ also names es
same_names ds es f names =
    let g : (x : List ℕ) → also names ds x ≡ also names es x = λ x. ap (λ z. z || names x) (f x) in
    λ z x. g x z

based_kept : (ds : List Decl) (x : List ℕ) → declares (map base_written ds) x ≡ declares ds x
based_kept [] x = refl
based_kept (d ∷ ds) x = ap (λ z. bytes_eq d.name x || z) (based_kept ds x)

once_based : (ds : List Decl) → AreOnce ds → AreOnce (map base_written ds)
once_based [] o = tt
once_based (d ∷ ds) o = (based_kept ds d.name ∙ o.0, once_based ds o.1)

module _ (at : Assignment) where
  once_kept : (es : Eqns) (here : Place → Place) (ds : List Decl) → AreOnce ds → AreOnce (map (with_clock at es here) ds)
  once_kept es here [] o = tt
  once_kept es here (d ∷ ds) o = (declares_kept at es here ds d.name ∙ o.0, once_kept es here ds o.1)

  mutual
    block_kept : (seen own : Names) (here : Place → Place) (b : Block) → BlockScoped seen own b → BlockScoped seen own (with_clocks at here b)
    block_kept seen own here (block ds es) s =
        let ds' = map (with_clock at es here) ds in
        let path : (x : List ℕ) → declares ds x ≡ declares ds' x = λ x. sym (declares_kept at es here ds x) in (
          once_kept es here ds s.0,
          (λ x h l. s.1 x (subst IsTrue (sym (path x)) h) l),
          (λ x h. subst IsTrue (sym (some_kept at (below Equations here) es x)) (s.2 x (subst IsTrue (sym (path x)) h))),
          subst (λ z. EqnsScoped z (also own ds') (all_with_clocks at (below Equations here) es)) (same_names ds ds' path seen)
              (subst (λ z. EqnsScoped (also seen ds) z (all_with_clocks at (below Equations here) es)) (same_names ds ds' path own)
              (eqns_kept (also seen ds) (also own ds) (below Equations here) es s.3)),
        )

    eqns_kept : (seen own : Names) (here : Place → Place) (es : Eqns) → EqnsScoped seen own es → EqnsScoped seen own (all_with_clocks at here es)
    eqns_kept seen own here no_eqn s = tt
    eqns_kept seen own here (more_eqns e es) s = (eqn_kept seen own (below Head here) e s.0, eqns_kept seen own (below Tail here) es s.1)

    eqn_kept : (seen own : Names) (here : Place → Place) (e : Eqn) → EqnScoped seen own e → EqnScoped seen own (one_with_clocks at here e)
    eqn_kept seen own here (define w ys e) s = s
    eqn_kept seen own here (switch w e arms) s = arms_kept seen own (below ArmsOf here) arms s
    eqn_kept seen own here (reset w b e) s = block_kept seen own (below Body here) b s
    eqn_kept seen own here (automaton w ss) s = states_kept seen own (below StatesOf here) ss s

    arms_kept : (seen own : Names) (here : Place → Place) (arms : Arms) → ArmsScoped seen own arms → ArmsScoped seen own (arms_with_clocks at here arms)
    arms_kept seen own here no_arm s = tt
    arms_kept seen own here (more_arms c b w arms) s = (block_kept seen own (below Head here) b s.0, arms_kept seen own (below Tail here) arms s.1)

    states_kept : (seen own : Names) (here : Place → Place) (ss : States) → StatesScoped seen own ss → StatesScoped seen own (states_with_clocks at here ss)
    states_kept seen own here no_state s = tt
    states_kept seen own here (more_states f b until unless w ss) s =
        (block_kept seen own (below Body (below Head here)) b s.0, states_kept seen own (below Tail here) ss s.1)

  contract_kept : (seen : Names) (c : Option Contract) → ContractScoped seen c → ContractScoped seen (contract_with_clocks at c)
  contract_kept seen None s = tt
  contract_kept seen (Some c) s = block_kept seen no_names in_observer c.body s

  controls_kept : (c : Option Contract) (x : List ℕ) → declares (controls_of (contract_with_clocks at c)) x ≡ declares (controls_of c) x
  controls_kept None x = refl
  controls_kept (Some c) x = based_kept c.controls x

  equations_kept : (here : Place → Place) (b : Block) (x : List ℕ) → some_defines (equations_of (with_clocks at here b)) x ≡ some_defines (equations_of b) x
  equations_kept here (block ds es) x = some_kept at (below Equations here) es x

  append_based : (ds es : List Decl) → map base_written (ds ++ es) ≡ map base_written ds ++ map base_written es
  append_based [] es = refl
  append_based (d ∷ ds) es = ap (λ z. base_written d ∷ z) (append_based ds es)

  interface_kept : (n : Node) → interface n ≡ interface (node_with_clocks at n)
  interface_kept n =
      same_names n.outputs (map base_written n.outputs) (λ x. sym (based_kept n.outputs x)) (also no_names n.inputs)
      ∙ ap (λ z. also z (map base_written n.outputs)) (same_names n.inputs (map base_written n.inputs) (λ x. sym (based_kept n.inputs x)) no_names)

  pub node_kept : (n : Node) → NodeScoped n → NodeScoped (node_with_clocks at n)
  node_kept n s =
      let n' = node_with_clocks at n in
      let seen : also (interface n) (controls_of n.contract) ≡ also (interface n') (controls_of n'.contract) =
      same_names (controls_of n.contract) (controls_of n'.contract) (λ x. sym (controls_kept n.contract x)) (interface n)
      ∙ ap (λ z. also z (controls_of n'.contract)) (interface_kept n) in
      let own : also no_names n.outputs ≡ also no_names n'.outputs = same_names n.outputs n'.outputs (λ x. sym (based_kept n.outputs x)) no_names in
      record {
        once = subst AreOnce (append_based n.inputs n.outputs) (once_based (n.inputs ++ n.outputs) s.once);
        contract = subst (λ z. ContractScoped z n'.contract) (interface_kept n) (contract_kept (interface n) n.contract s.contract);
        body = subst (λ z. BlockScoped z (also no_names n'.outputs) n'.body) seen
            (subst (λ z. BlockScoped (also (interface n) (controls_of n.contract)) z n'.body) own
            (block_kept (also (interface n) (controls_of n.contract)) (also no_names n.outputs) in_body n.body s.body));
        outputs = λ x h. subst IsTrue (sym (equations_kept in_body n.body x)) (s.outputs x (subst IsTrue (based_kept n.outputs x) h));
      }

pub kept : ClocksKeepLaw
kept n at s = node_kept at n s
