-- Neat blocks stay neat under other names, where new variables get their numbers, and where clocks are written.
use Rattle.std.proofs.Common.{◌≡◌, ℕ, zero, suc, ◌+◌, ◌<◌, ◌≤◌, true, false, ◌||◌, List, [], ◌∷◌, map, refl, sym, ap, ◌∙◌, subst, arith}
use Rattle.std.proofs.lemmas.List.{length-map}
use Rattle.std.specs.Prelude.{Option, None, Some, option_map}
use Rattle.std.specs.Str.{bytes_eq}
use Rattle.hp_tree.specs.declared.block.Trans.{Trans}
use Rattle.hp_tree.specs.declared.program.Item.{Item}
use Rattle.hp_tree.specs.declared.program.Item.TheVariants.{TypeItem, NodeItem}
use Rattle.hp_tree.specs.Expressions.{Expr, constant, variable, last_of, one, two, choose, pre, fby, arrow, when_is, merge, call}
use Rattle.hp_tree.specs.Blocks.{Block, block, Eqns, no_eqn, more_eqns, Eqn, define, switch, reset, automaton, Arms, no_arm, more_arms, States, no_state, more_states}
use Rattle.hp_tree.specs.Programs.{Contract, Node}
use Rattle.hp_tree.specs.Instant.{Place, Body, Equations, Head, Tail, Arms as ArmsOf, States as StatesOf}
use Rattle.hp_meaning.specs.Causal.Sources.{below}
use Rattle.hp_meaning.specs.Clocking.Clocking.{Assignment, with_clocks, all_with_clocks, one_with_clocks, arms_with_clocks, states_with_clocks, in_observer, in_body, contract_with_clocks, node_with_clocks}
use Rattle.hp_expand.specs.Renaming.{renamed, renamed_transition, renamed_block, renamed_eqns, renamed_eqn, renamed_arms, renamed_states}
use Rattle.hp_expand.specs.Numbering as numbering
use Rattle.hp_expand.specs.Numbering.{declaring, new_in_decls, new_in_block, new_in_eqns, new_in_eqn, same_name, behind, numbered}
use Rattle.law_judged.specs.Named.Scoped.{EachNode}
use Rattle.law_values.specs.Accepted.Written.{AreClocked}
use Rattle.hp_automata.specs.Lowering.{count_of}
use Rattle.law_automata.specs.Lowered.Removable.{Plain, is_state, most}
use Rattle.law_automata.proofs.LowerableLemmas.Neat.{StateNames, TransitionsNeat, RowNeat, BlockNeat, EqnsNeat, EqnNeat, ArmsNeat, StatesNeat, InnerNeat, ContractNeat, NodeNeat}

-- ---- states of the same names

abbrev pub names_of : States → List (List ℕ)
names_of no_state = []
names_of (more_states f b until unless s ss) = f ∷ names_of ss

abbrev is_among : List (List ℕ) → StateNames
is_among [] x = false
is_among (f ∷ fs) x = bytes_eq f x || is_among fs x

among_names : (ss : States) (x : List ℕ) → is_among (names_of ss) x ≡ is_state ss x
among_names no_state x = refl
among_names (more_states f b until unless s ss) x = ap (λ d. bytes_eq f x || d) (among_names ss x)

abbrev count : List (List ℕ) → ℕ
count [] = 0
count (f ∷ fs) = count fs + 1

count_names : (ss : States) → count (names_of ss) ≡ count_of ss
count_names no_state = refl
count_names (more_states f b until unless s ss) = ap (λ n. n + 1) (count_names ss)

pub same_states : (ss rs : States) → names_of rs ≡ names_of ss → (x : List ℕ) → is_state ss x ≡ true → is_state rs x ≡ true
same_states ss rs e x h = sym (among_names rs x) ∙ ap (λ fs. is_among fs x) e ∙ among_names ss x ∙ h

pub same_counts : (ss rs : States) → names_of rs ≡ names_of ss → count_of rs ≡ count_of ss
same_counts ss rs e = sym (count_names rs) ∙ ap count e ∙ count_names ss

abbrev pub Bounded : States → Type 0
Bounded ss = (0 < count_of ss) × (count_of ss < most)

pub same_bounds : (ss rs : States) → names_of rs ≡ names_of ss → Bounded ss → Bounded rs
same_bounds ss rs e h = subst (λ n. (0 < n) × (n < most)) (sym (same_counts ss rs e)) h

abbrev pub More : StateNames → StateNames → Type 0
More names others = (x : List ℕ) → names x ≡ true → others x ≡ true

pub tests_more : (names others : StateNames) → More names others → (ts : List Trans) → TransitionsNeat names ts → TransitionsNeat others ts
tests_more names others m [] h = tt
tests_more names others m (t ∷ ts) h = ((h.0.0, m t.target h.0.1), tests_more names others m ts h.1)

pub row_more : (names others : StateNames) → More names others → (ts : List Trans) → RowNeat names ts → RowNeat others ts
row_more names others m ts h = (tests_more names others m ts h.0, h.1)

-- ---- where there is more room

pub inner_by : (a b : ℕ) (c d : Block) → a ≤ b → ((r s : ℕ) → r ≤ s → BlockNeat r c → BlockNeat s d) → InnerNeat a c → InnerNeat b d
inner_by a zero c d h f q = let e : a ≡ suc q.0 = q.1.0 in absurd (omega (arith, h, e))
inner_by a (suc b) c d h f q =
    let e : a ≡ suc q.0 = q.1.0 in
    (b, (refl, f q.0 b (omega (arith, h, e)) q.1.1))

-- ---- under other names

module _ (to : List ℕ → List ℕ) where
  expr_renamed : (e : Expr) → Plain e → Plain (renamed to e)
  expr_renamed (constant at c) h = tt
  expr_renamed (variable at x) h = tt
  expr_renamed (last_of at x) h = tt
  expr_renamed (one at o a) h = expr_renamed a h
  expr_renamed (two at o a b) h = (expr_renamed a h.0, expr_renamed b h.1)
  expr_renamed (choose at a b c) h = (expr_renamed a h.0, expr_renamed b h.1, expr_renamed c h.2)
  expr_renamed (pre at a) h = absurd h
  expr_renamed (fby at a b) h = absurd h
  expr_renamed (arrow at a b) h = absurd h
  expr_renamed (when_is at a c x) h = absurd h
  expr_renamed (merge at x ps) h = absurd h
  expr_renamed (call at f i es) h = absurd h

  tests_renamed : (names others : StateNames) → More names others → (ts : List Trans) → TransitionsNeat names ts → TransitionsNeat others (map (renamed_transition to) ts)
  tests_renamed names others m [] h = tt
  tests_renamed names others m (t ∷ ts) h = ((expr_renamed t.cond h.0.0, m t.target h.0.1), tests_renamed names others m ts h.1)

  pub row_renamed : (names others : StateNames) → More names others → (ts : List Trans) → RowNeat names ts → RowNeat others (map (renamed_transition to) ts)
  row_renamed names others m ts h = (tests_renamed names others m ts h.0, subst (λ n. n < most) (sym (length-map ts (renamed_transition to))) h.1)

  names_renamed : (ss : States) → names_of (renamed_states to ss) ≡ names_of ss
  names_renamed no_state = refl
  names_renamed (more_states f b until unless s ss) = ap (λ fs. f ∷ fs) (names_renamed ss)

  mutual
    block_renamed : (room more : ℕ) → room ≤ more → (b : Block) → BlockNeat room b → BlockNeat more (renamed_block to b)
    block_renamed room more l (block ds es) h = eqns_renamed room more l es h

    pub eqns_renamed : (room more : ℕ) → room ≤ more → (es : Eqns) → EqnsNeat room es → EqnsNeat more (renamed_eqns to es)
    eqns_renamed room more l no_eqn h = tt
    eqns_renamed room more l (more_eqns e es) h = (eqn_renamed room more l e h.0, eqns_renamed room more l es h.1)

    eqn_renamed : (room more : ℕ) → room ≤ more → (e : Eqn) → EqnNeat room e → EqnNeat more (renamed_eqn to e)
    eqn_renamed room more l (define s ys e) h = tt
    eqn_renamed room more l (switch s e arms) h = arms_renamed room more l arms h
    eqn_renamed room more l (reset s b e) h = inner_by room more b (renamed_block to b) l (λ r q k o. block_renamed r q k b o) h
    eqn_renamed room more l (automaton s ss) h =
        (same_bounds ss (renamed_states to ss) (names_renamed ss) h.0, states_renamed (is_state ss) (is_state (renamed_states to ss)) (same_states ss (renamed_states to ss) (names_renamed ss)) room more l ss h.1)

    arms_renamed : (room more : ℕ) → room ≤ more → (arms : Arms) → ArmsNeat room arms → ArmsNeat more (renamed_arms to arms)
    arms_renamed room more l no_arm h = tt
    arms_renamed room more l (more_arms c b s arms) h = (inner_by room more b (renamed_block to b) l (λ r q k o. block_renamed r q k b o) h.0, arms_renamed room more l arms h.1)

    states_renamed : (names others : StateNames) → More names others → (room more : ℕ) → room ≤ more → (ss : States) → StatesNeat names room ss → StatesNeat others more (renamed_states to ss)
    states_renamed names others m room more l no_state h = tt
    states_renamed names others m room more l (more_states f b until unless s ss) h = (
      inner_by room more b (renamed_block to b) l (λ r q k o. block_renamed r q k b o) h.0,
      ((row_renamed names others m until h.1.0.0, row_renamed names others m unless h.1.0.1), states_renamed names others m room more l ss h.1.1),
    )

-- ---- numbering

names_numbered : (to : List ℕ → List ℕ) (k : ℕ) (ss : States) → names_of (numbering.in_states to k ss) ≡ names_of ss
names_numbered to k no_state = refl
names_numbered to k (more_states f (block ds es) until unless s ss) = ap (λ fs. f ∷ fs) (names_numbered to (k + (new_in_decls ds + new_in_eqns es)) ss)

mutual
  block_numbered : (to : List ℕ → List ℕ) (k room : ℕ) (b : Block) → BlockNeat room b → BlockNeat room (numbering.in_block to k b)
  block_numbered to k room (block ds es) h = eqns_numbered (declaring to k ds) (k + new_in_decls ds) room es h

  eqns_numbered : (to : List ℕ → List ℕ) (k room : ℕ) (es : Eqns) → EqnsNeat room es → EqnsNeat room (numbering.in_eqns to k es)
  eqns_numbered to k room no_eqn h = tt
  eqns_numbered to k room (more_eqns e es) h = (eqn_numbered to k room e h.0, eqns_numbered to (k + new_in_eqn e) room es h.1)

  eqn_numbered : (to : List ℕ → List ℕ) (k room : ℕ) (e : Eqn) → EqnNeat room e → EqnNeat room (numbering.in_eqn to k e)
  eqn_numbered to k room (define s ys e) h = tt
  eqn_numbered to k room (switch s e arms) h = arms_numbered to k room arms h
  eqn_numbered to k room (reset s b e) h = (h.0, (h.1.0, block_numbered to k h.0 b h.1.1))
  eqn_numbered to k room (automaton s ss) h =
      (same_bounds ss (numbering.in_states to k ss) (names_numbered to k ss) h.0, states_numbered to k (is_state ss) (is_state (numbering.in_states to k ss)) (same_states ss (numbering.in_states to k ss) (names_numbered to k ss)) room ss h.1)

  arms_numbered : (to : List ℕ → List ℕ) (k room : ℕ) (arms : Arms) → ArmsNeat room arms → ArmsNeat room (numbering.in_arms to k arms)
  arms_numbered to k room no_arm h = tt
  arms_numbered to k room (more_arms c b s arms) h = ((h.0.0, (h.0.1.0, block_numbered to k h.0.0 b h.0.1.1)), arms_numbered to (k + new_in_block b) room arms h.1)

  states_numbered : (to : List ℕ → List ℕ) (k : ℕ) (names others : StateNames) → More names others → (room : ℕ) (ss : States) → StatesNeat names room ss → StatesNeat others room (numbering.in_states to k ss)
  states_numbered to k names others m room no_state h = tt
  states_numbered to k names others m room (more_states f (block ds es) until unless s ss) h = (
    (h.0.0, (h.0.1.0, eqns_numbered (declaring to k ds) (k + new_in_decls ds) h.0.0 es h.0.1.1)),
    (
      (row_renamed (declaring to k ds) names others m until h.1.0.0, row_renamed to names others m unless h.1.0.1),
      states_numbered to (k + (new_in_decls ds + new_in_eqns es)) names others m room ss h.1.1,
    ),
  )

contract_numbered : (room : ℕ) (o : Option Contract) → ContractNeat room o → ContractNeat room (option_map numbering.in_contract o)
contract_numbered room None h = tt
contract_numbered room (Some c) h = block_numbered same_name 1 room c.body h

pub node_numbered : (room : ℕ) (n : Node) → NodeNeat room n → NodeNeat room (numbered n)
node_numbered room n h = (contract_numbered room n.contract h.0, block_numbered same_name (behind n.contract) room n.body h.1)

-- ---- clocks

module _ (at : Assignment) where
  names_clocked : (here : Place → Place) (ss : States) → names_of (states_with_clocks at here ss) ≡ names_of ss
  names_clocked here no_state = refl
  names_clocked here (more_states f b until unless s ss) = ap (λ fs. f ∷ fs) (names_clocked (below Tail here) ss)

  mutual
    block_clocked : (here : Place → Place) (room : ℕ) (b : Block) → BlockNeat room b → BlockNeat room (with_clocks at here b)
    block_clocked here room (block ds es) h = eqns_clocked (below Equations here) room es h

    eqns_clocked : (here : Place → Place) (room : ℕ) (es : Eqns) → EqnsNeat room es → EqnsNeat room (all_with_clocks at here es)
    eqns_clocked here room no_eqn h = tt
    eqns_clocked here room (more_eqns e es) h = (eqn_clocked (below Head here) room e h.0, eqns_clocked (below Tail here) room es h.1)

    eqn_clocked : (here : Place → Place) (room : ℕ) (e : Eqn) → EqnNeat room e → EqnNeat room (one_with_clocks at here e)
    eqn_clocked here room (define s ys e) h = tt
    eqn_clocked here room (switch s e arms) h = arms_clocked (below ArmsOf here) room arms h
    eqn_clocked here room (reset s b e) h = (h.0, (h.1.0, block_clocked (below Body here) h.0 b h.1.1))
    eqn_clocked here room (automaton s ss) h =
        let rs = states_with_clocks at (below StatesOf here) ss in
        let e = names_clocked (below StatesOf here) ss in
        (same_bounds ss rs e h.0, states_clocked (below StatesOf here) (is_state ss) (is_state rs) (same_states ss rs e) room ss h.1)

    arms_clocked : (here : Place → Place) (room : ℕ) (arms : Arms) → ArmsNeat room arms → ArmsNeat room (arms_with_clocks at here arms)
    arms_clocked here room no_arm h = tt
    arms_clocked here room (more_arms c b s arms) h = ((h.0.0, (h.0.1.0, block_clocked (below Head here) h.0.0 b h.0.1.1)), arms_clocked (below Tail here) room arms h.1)

    states_clocked : (here : Place → Place) (names others : StateNames) → More names others → (room : ℕ) (ss : States) → StatesNeat names room ss → StatesNeat others room (states_with_clocks at here ss)
    states_clocked here names others m room no_state h = tt
    states_clocked here names others m room (more_states f b until unless s ss) h = (
      (h.0.0, (h.0.1.0, block_clocked (below Body (below Head here)) h.0.0 b h.0.1.1)),
      ((row_more names others m until h.1.0.0, row_more names others m unless h.1.0.1), states_clocked (below Tail here) names others m room ss h.1.1),
    )

  contract_clocked : (room : ℕ) (o : Option Contract) → ContractNeat room o → ContractNeat room (contract_with_clocks at o)
  contract_clocked room None h = tt
  contract_clocked room (Some c) h = block_clocked in_observer room c.body h

  node_clocked : (room : ℕ) (n : Node) → NodeNeat room n → NodeNeat room (node_with_clocks at n)
  node_clocked room n h = (contract_clocked room n.contract h.0, block_clocked in_body room n.body h.1)

pub program_clocked : (room : ℕ) (xs ys : List Item) → AreClocked xs ys → EachNode (NodeNeat room) xs → EachNode (NodeNeat room) ys
program_clocked room [] [] c p = tt
program_clocked room (TypeItem t ∷ xs) (y ∷ ys) c p = subst (λ z. EachNode (NodeNeat room) (z ∷ ys)) (sym c.0) (program_clocked room xs ys c.1 p)
program_clocked room (NodeItem n ∷ xs) (y ∷ ys) c p = subst (λ z. EachNode (NodeNeat room) (z ∷ ys)) (sym c.0.1.1) (node_clocked c.0.0 room n p.0, program_clocked room xs ys c.1 p.1)
program_clocked room [] (y ∷ ys) c p = absurd c
program_clocked room (TypeItem t ∷ xs) [] c p = absurd c
program_clocked room (NodeItem n ∷ xs) [] c p = absurd c
