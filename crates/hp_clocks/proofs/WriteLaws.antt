-- Lists of a tree that are written are written one by one, and the clocks of an assignment are written where their paths are taken in order.
use Rattle.std.proofs.Common.{◌≡◌, ℕ, ◌<◌, ◌≤◌, length, slice_index_or, List, [], ◌∷◌, ◌++◌, map, reverse, refl, sym, ap, ap₂, ◌∙◌, subst, append_assoc}
use Rattle.std.proofs.lemmas.List.{map-append}
use Rattle.std.proofs.lemmas.Simd.{map-map}
use Rattle.std.specs.Prelude.{⊤, Option, None, Some}
use Rattle.hp_tree.specs.Blocks.{Decl, Block, block, Eqns, no_eqn, more_eqns, Eqn, define, switch, reset, automaton, Arms, no_arm, more_arms, States, no_state, more_states, Arm, State, eqns_of, arms_of, states_of}
use Rattle.hp_tree.specs.Programs.{Contract, Node}
use Rattle.hp_tree.specs.declared.program.Item.{Item}
use Rattle.hp_tree.specs.declared.program.Item.TheVariants as item
use Rattle.hp_tree.specs.Instant.{Place, Body, Equations, Head, Tail, Arms as ArmsOf, States as StatesOf, Clock}
use Rattle.hp_meaning.specs.Causal.Sources.{below}
use Rattle.hp_meaning.specs.Clocking.Terms.{value}
use Rattle.hp_meaning.specs.Clocking.Clocking.{Assignment, local_term, with_clock, with_clocks, all_with_clocks, one_with_clocks, arms_with_clocks, states_with_clocks, in_observer, in_body, base_written, contract_with_clocks, node_with_clocks}
use Rattle.hp_clocks.specs.Listed.{locals, locals_in_all, locals_in_one, locals_in_arms, locals_in_states, locals_of_contract}
use Rattle.hp_clocks.specs.declared.solve.Solution.{Solution}
use Rattle.hp_clocks.specs.Solved.{clock_read, IsSolved}
use Rattle.hp_clocks.specs.Writing.{Path, first, others, clocked_decl, decls_written, decls_left, block_written, block_left, eqns_written, eqns_left, eqn_written, eqn_left, arms_written, arms_left, states_written, states_left, contract_written, contract_left, node_written, node_left, items_written, paths_of_node, paths_of_items, AreAssigned, AreWritten}
use Rattle.hp_tree.specs.declared.block.Eqn as code_eqn
use Rattle.hp_tree.specs.declared.block.Arm as code_arm
use Rattle.hp_tree.specs.declared.block.State as code_state
use Rattle.hp_tree.specs.BlockView.{eqn_seen, arm_seen, state_seen}
use Rattle.hp_tree.specs.Sizes.{lines, lines_of_eqn, lines_of_eqns, lines_of_arms, lines_of_states}
use Rattle.hp_tree.proofs.BlockLists.{lines-at_eqn, lines-at_arm, lines-at_state}
use Rattle.hp_clocks.proofs.Turned.{all_written, all_left}

-- ---- one by one

abbrev pub decl_written : Decl → List Path → Decl
decl_written d ps = clocked_decl (first ps) d

abbrev pub decl_left : Decl → List Path → List Path
decl_left d ps = others ps

pub decls_each : (ds : List Decl) (ps : List Path) → all_written decl_written decl_left ds ps ≡ decls_written ds ps
decls_each [] ps = refl
decls_each (d ∷ ds) ps = ap (λ z. clocked_decl (first ps) d ∷ z) (decls_each ds (others ps))

pub decls_each_left : (ds : List Decl) (ps : List Path) → all_left decl_written decl_left ds ps ≡ decls_left ds ps
decls_each_left [] ps = refl
decls_each_left (d ∷ ds) ps = decls_each_left ds (others ps)

abbrev pub same_left : Decl → ⊤ → ⊤
same_left d u = u

abbrev pub on_base_written : Decl → ⊤ → Decl
on_base_written d u = base_written d

pub base_each : (ds : List Decl) (u : ⊤) → all_written on_base_written same_left ds u ≡ map base_written ds
base_each [] u = refl
base_each (d ∷ ds) u = ap (λ z. base_written d ∷ z) (base_each ds u)

pub eqns_each : (es : List Eqn) (ps : List Path) → eqns_of (all_written eqn_written eqn_left es ps) ≡ eqns_written (eqns_of es) ps
eqns_each [] ps = refl
eqns_each (e ∷ es) ps = ap (λ z. more_eqns (eqn_written e ps) z) (eqns_each es (eqn_left e ps))

pub eqns_each_left : (es : List Eqn) (ps : List Path) → all_left eqn_written eqn_left es ps ≡ eqns_left (eqns_of es) ps
eqns_each_left [] ps = refl
eqns_each_left (e ∷ es) ps = eqns_each_left es (eqn_left e ps)

abbrev pub arm_with : Arm → Block → Arm
arm_with a b = record { cons = a.cons; body = b; span = a.span }

abbrev pub arm_written : Arm → List Path → Arm
arm_written a ps = arm_with a (block_written a.body ps)

abbrev pub arm_left : Arm → List Path → List Path
arm_left a ps = block_left a.body ps

pub arms_each : (es : List Arm) (ps : List Path) → arms_of (all_written arm_written arm_left es ps) ≡ arms_written (arms_of es) ps
arms_each [] ps = refl
arms_each (a ∷ es) ps = ap (λ z. more_arms a.cons (block_written a.body ps) a.span z) (arms_each es (block_left a.body ps))

pub arms_each_left : (es : List Arm) (ps : List Path) → all_left arm_written arm_left es ps ≡ arms_left (arms_of es) ps
arms_each_left [] ps = refl
arms_each_left (a ∷ es) ps = arms_each_left es (block_left a.body ps)

abbrev pub state_with : State → Block → State
state_with q b = record { name = q.name; body = b; until = q.until; unless = q.unless; span = q.span }

abbrev pub state_written : State → List Path → State
state_written q ps = state_with q (block_written q.body ps)

abbrev pub state_left : State → List Path → List Path
state_left q ps = block_left q.body ps

pub states_each : (qs : List State) (ps : List Path) → states_of (all_written state_written state_left qs ps) ≡ states_written (states_of qs) ps
states_each [] ps = refl
states_each (q ∷ qs) ps = ap (λ z. more_states q.name (block_written q.body ps) q.until q.unless q.span z) (states_each qs (block_left q.body ps))

pub states_each_left : (qs : List State) (ps : List Path) → all_left state_written state_left qs ps ≡ states_left (states_of qs) ps
states_each_left [] ps = refl
states_each_left (q ∷ qs) ps = states_each_left qs (block_left q.body ps)

abbrev pub item_written : Item → List Path → Item
item_written (item.TypeItem t) ps = item.TypeItem t
item_written (item.NodeItem n) ps = item.NodeItem (node_written n ps)

abbrev pub item_left : Item → List Path → List Path
item_left (item.TypeItem t) ps = ps
item_left (item.NodeItem n) ps = node_left n ps

pub items_each : (xs : List Item) (ps : List Path) → all_written item_written item_left xs ps ≡ items_written xs ps
items_each [] ps = refl
items_each (item.TypeItem t ∷ xs) ps = ap (λ z. item.TypeItem t ∷ z) (items_each xs ps)
items_each (item.NodeItem n ∷ xs) ps = ap (λ z. item.NodeItem (node_written n ps) ∷ z) (items_each xs (node_left n ps))

-- ---- no part has more lines than the list that it stands in

pub eqn_lines : (es fs : List code_eqn.Eqn) (i : ℕ) (d : code_eqn.Eqn) → i < length fs → slice_index_or es i d ≡ slice_index_or fs i d → lines_of_eqn (eqn_seen (slice_index_or es i d)) ≤ lines_of_eqns (eqns_of (map eqn_seen fs))
eqn_lines es fs i d h e = subst (λ z. lines_of_eqn (eqn_seen z) ≤ lines_of_eqns (eqns_of (map eqn_seen fs))) (sym e) (lines-at_eqn fs i d h)

pub arm_lines : (es fs : List code_arm.Arm) (i : ℕ) (d : code_arm.Arm) → i < length fs → slice_index_or es i d ≡ slice_index_or fs i d → lines (slice_index_or es i d).body ≤ lines_of_arms (arms_of (map arm_seen fs))
arm_lines es fs i d h e = subst (λ z. lines z.body ≤ lines_of_arms (arms_of (map arm_seen fs))) (sym e) (lines-at_arm fs i d h)

pub state_lines : (es fs : List code_state.State) (i : ℕ) (d : code_state.State) → i < length fs → slice_index_or es i d ≡ slice_index_or fs i d → lines (slice_index_or es i d).body ≤ lines_of_states (states_of (map state_seen fs))
state_lines es fs i d h e = subst (λ z. lines z.body ≤ lines_of_states (states_of (map state_seen fs))) (sym e) (lines-at_state fs i d h)

-- ---- the clocks of an assignment

abbrev made_of : Node → Option Contract → Block → Node
made_of n c b = record { name = n.name; span = n.span; inputs = map base_written n.inputs; outputs = map base_written n.outputs; contract = c; body = b }

module _ (at : Assignment) where
  abbrev paths : List Clock → List Path
  paths cs = map reverse cs

  both : (xs ys : List Clock) (more : List Path) → paths (xs ++ ys) ++ more ≡ paths xs ++ (paths ys ++ more)
  both xs ys more = ap (λ z. z ++ more) (map-append reverse xs ys) ∙ append_assoc (paths xs) (paths ys) more

  decls_clocked : (es : Eqns) (here : Place → Place) (ds : List Decl) (more : List Path) → decls_written ds (paths (map (λ d. value at (local_term es here d)) ds) ++ more) ≡ map (with_clock at es here) ds
  decls_clocked es here [] more = refl
  decls_clocked es here (d ∷ ds) more = ap (λ z. with_clock at es here d ∷ z) (decls_clocked es here ds more)

  decls_rest : (es : Eqns) (here : Place → Place) (ds : List Decl) (more : List Path) → decls_left ds (paths (map (λ d. value at (local_term es here d)) ds) ++ more) ≡ more
  decls_rest es here [] more = refl
  decls_rest es here (d ∷ ds) more = decls_rest es here ds more

  mutual
    pub block_rest : (b : Block) (here : Place → Place) (more : List Path) → block_left b (paths (locals at here b) ++ more) ≡ more
    block_rest (block ds es) here more =
        let own = map (λ d. value at (local_term es here d)) ds in
        let inner = locals_in_all at (below Equations here) es in
        ap (λ z. eqns_left es (decls_left ds z)) (both own inner more)
        ∙ ap (λ z. eqns_left es z) (decls_rest es here ds (paths inner ++ more))
        ∙ all_rest es (below Equations here) more

    all_rest : (es : Eqns) (here : Place → Place) (more : List Path) → eqns_left es (paths (locals_in_all at here es) ++ more) ≡ more
    all_rest no_eqn here more = refl
    all_rest (more_eqns e es) here more =
        let one = locals_in_one at (below Head here) e in
        let rest = locals_in_all at (below Tail here) es in
        ap (λ z. eqns_left es (eqn_left e z)) (both one rest more)
        ∙ ap (λ z. eqns_left es z) (one_rest e (below Head here) (paths rest ++ more))
        ∙ all_rest es (below Tail here) more

    one_rest : (e : Eqn) (here : Place → Place) (more : List Path) → eqn_left e (paths (locals_in_one at here e) ++ more) ≡ more
    one_rest (define s ys e) here more = refl
    one_rest (switch s e arms) here more = arms_rest arms (below ArmsOf here) more
    one_rest (reset s b e) here more = block_rest b (below Body here) more
    one_rest (automaton s ss) here more = states_rest ss (below StatesOf here) more

    arms_rest : (arms : Arms) (here : Place → Place) (more : List Path) → arms_left arms (paths (locals_in_arms at here arms) ++ more) ≡ more
    arms_rest no_arm here more = refl
    arms_rest (more_arms c b s arms) here more =
        let one = locals at (below Head here) b in
        let rest = locals_in_arms at (below Tail here) arms in
        ap (λ z. arms_left arms (block_left b z)) (both one rest more)
        ∙ ap (λ z. arms_left arms z) (block_rest b (below Head here) (paths rest ++ more))
        ∙ arms_rest arms (below Tail here) more

    states_rest : (ss : States) (here : Place → Place) (more : List Path) → states_left ss (paths (locals_in_states at here ss) ++ more) ≡ more
    states_rest no_state here more = refl
    states_rest (more_states f b until unless s ss) here more =
        let one = locals at (below Body (below Head here)) b in
        let rest = locals_in_states at (below Tail here) ss in
        ap (λ z. states_left ss (block_left b z)) (both one rest more)
        ∙ ap (λ z. states_left ss z) (block_rest b (below Body (below Head here)) (paths rest ++ more))
        ∙ states_rest ss (below Tail here) more

  mutual
    pub block_clocked : (b : Block) (here : Place → Place) (more : List Path) → block_written b (paths (locals at here b) ++ more) ≡ with_clocks at here b
    block_clocked (block ds es) here more =
        let own = map (λ d. value at (local_term es here d)) ds in
        let inner = locals_in_all at (below Equations here) es in
        ap (λ z. block (decls_written ds z) (eqns_written es (decls_left ds z))) (both own inner more)
        ∙ ap₂ (λ z w. block z (eqns_written es w)) (decls_clocked es here ds (paths inner ++ more)) (decls_rest es here ds (paths inner ++ more))
        ∙ ap (λ z. block (map (with_clock at es here) ds) z) (all_clocked es (below Equations here) more)

    all_clocked : (es : Eqns) (here : Place → Place) (more : List Path) → eqns_written es (paths (locals_in_all at here es) ++ more) ≡ all_with_clocks at here es
    all_clocked no_eqn here more = refl
    all_clocked (more_eqns e es) here more =
        let one = locals_in_one at (below Head here) e in
        let rest = locals_in_all at (below Tail here) es in
        ap (λ z. more_eqns (eqn_written e z) (eqns_written es (eqn_left e z))) (both one rest more)
        ∙ ap₂ (λ z w. more_eqns z (eqns_written es w)) (one_clocked e (below Head here) (paths rest ++ more)) (one_rest e (below Head here) (paths rest ++ more))
        ∙ ap (λ z. more_eqns (one_with_clocks at (below Head here) e) z) (all_clocked es (below Tail here) more)

    one_clocked : (e : Eqn) (here : Place → Place) (more : List Path) → eqn_written e (paths (locals_in_one at here e) ++ more) ≡ one_with_clocks at here e
    one_clocked (define s ys e) here more = refl
    one_clocked (switch s e arms) here more = ap (λ z. switch s e z) (arms_clocked arms (below ArmsOf here) more)
    one_clocked (reset s b e) here more = ap (λ z. reset s z e) (block_clocked b (below Body here) more)
    one_clocked (automaton s ss) here more = ap (λ z. automaton s z) (states_clocked ss (below StatesOf here) more)

    arms_clocked : (arms : Arms) (here : Place → Place) (more : List Path) → arms_written arms (paths (locals_in_arms at here arms) ++ more) ≡ arms_with_clocks at here arms
    arms_clocked no_arm here more = refl
    arms_clocked (more_arms c b s arms) here more =
        let one = locals at (below Head here) b in
        let rest = locals_in_arms at (below Tail here) arms in
        ap (λ z. more_arms c (block_written b z) s (arms_written arms (block_left b z))) (both one rest more)
        ∙ ap₂ (λ z w. more_arms c z s (arms_written arms w)) (block_clocked b (below Head here) (paths rest ++ more)) (block_rest b (below Head here) (paths rest ++ more))
        ∙ ap (λ z. more_arms c (with_clocks at (below Head here) b) s z) (arms_clocked arms (below Tail here) more)

    states_clocked : (ss : States) (here : Place → Place) (more : List Path) → states_written ss (paths (locals_in_states at here ss) ++ more) ≡ states_with_clocks at here ss
    states_clocked no_state here more = refl
    states_clocked (more_states f b until unless s ss) here more =
        let mine = below Body (below Head here) in
        let one = locals at mine b in
        let rest = locals_in_states at (below Tail here) ss in
        ap (λ z. more_states f (block_written b z) until unless s (states_written ss (block_left b z))) (both one rest more)
        ∙ ap₂ (λ z w. more_states f z until unless s (states_written ss w)) (block_clocked b mine (paths rest ++ more)) (block_rest b mine (paths rest ++ more))
        ∙ ap (λ z. more_states f (with_clocks at mine b) until unless s z) (states_clocked ss (below Tail here) more)

  contract_clocked : (c : Option Contract) (more : List Path) → contract_written c (paths (locals_of_contract at c) ++ more) ≡ contract_with_clocks at c
  contract_clocked None more = refl
  contract_clocked (Some c) more =
      ap (λ z. Some (record { body = z; assume = c.assume; enforce = c.enforce; controls = map base_written c.controls; span = c.span })) (block_clocked c.body in_observer more)

  contract_rest : (c : Option Contract) (more : List Path) → contract_left c (paths (locals_of_contract at c) ++ more) ≡ more
  contract_rest None more = refl
  contract_rest (Some c) more = block_rest c.body in_observer more

  -- A node is written with the clocks of an assignment, and the paths behind its own are left.
  pub node_clocked : (n : Node) (more : List Path) → node_written n (paths_of_node at n ++ more) ≡ node_with_clocks at n
  node_clocked n more =
      let observers = locals_of_contract at n.contract in
      let inner = locals at in_body n.body in
      ap (λ z. node_written n z) (both observers inner more)
      ∙ ap₂ (made_of n) (contract_clocked n.contract (paths inner ++ more)) (ap (λ z. block_written n.body z) (contract_rest n.contract (paths inner ++ more)) ∙ block_clocked n.body in_body more)

  pub node_rest : (n : Node) (more : List Path) → node_left n (paths_of_node at n ++ more) ≡ more
  node_rest n more =
      let observers = locals_of_contract at n.contract in
      let inner = locals at in_body n.body in
      ap (λ z. node_left n z) (both observers inner more)
      ∙ ap (λ z. block_left n.body z) (contract_rest n.contract (paths inner ++ more))
      ∙ block_rest n.body in_body more

-- Where each node has an assignment, and the paths are those of their clocks, each node is written with its clocks.
pub items_clocked : (P : Node → Assignment → Type 0) (xs : List Item) (ats : List Assignment) → AreAssigned P xs ats → AreWritten P xs (items_written xs (paths_of_items ats xs))
items_clocked P [] [] h = tt
items_clocked P [] (at ∷ ats) h = absurd h
items_clocked P (item.TypeItem t ∷ xs) ats h = (refl, items_clocked P xs ats h)
items_clocked P (item.NodeItem n ∷ xs) [] h = absurd h
items_clocked P (item.NodeItem n ∷ xs) (at ∷ ats) h = (
  (at, h.0, ap (λ z. item.NodeItem z) (node_clocked at n (paths_of_items ats xs))),
  subst (λ z. AreWritten P xs (items_written xs z)) (sym (node_rest at n (paths_of_items ats xs))) (items_clocked P xs ats h.1),
)

-- The paths of a solution are those of its node.
pub solved_paths : (n : Node) (s : Solution) (h : IsSolved n s) → map (λ l. reverse (clock_read s.cells.cells.items l)) s.locals.items ≡ paths_of_node h.at n
solved_paths n s h = sym (map-map reverse (clock_read s.cells.cells.items) s.locals.items) ∙ ap (map reverse) h.locals
