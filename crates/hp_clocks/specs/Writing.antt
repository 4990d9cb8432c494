-- The clocks of locals are written in the order of the text, taken one by one from a list of paths, each the outermost step first.
-- The order is this project's.
use Rattle.std.specs.Prelude.{◌≡◌, ⊤, List, [], ◌∷◌, ◌++◌, map, reverse, Option, None, Some}
use Rattle.std.specs.declared.alloc.Global.{Global}
use Rattle.std.specs.declared.vec.Vec.{Vec}
use Rattle.std.specs.declared.vec.IntoIter.{IntoIter}
use Rattle.std.specs.Vec.Iter.{into_iter_items}
use Rattle.hp_tree.specs.Blocks.{Decl, Block, block, Eqns, no_eqn, more_eqns, Eqn, define, switch, reset, automaton, Arms, no_arm, more_arms, States, no_state, more_states}
use Rattle.hp_tree.specs.Programs.{Contract, Node}
use Rattle.hp_tree.specs.declared.program.Item.{Item}
use Rattle.hp_tree.specs.declared.program.Item.TheVariants as item
use Rattle.hp_meaning.specs.Clocking.Clocking.{On, Assignment, base_written, node_with_clocks}
use Rattle.hp_clocks.specs.Listed.{locals_of_node}

abbrev pub Path : Type 0
Path = List On

-- paths as plain lists
abbrev pub paths_seen : List (Vec On Global) → List Path
paths_seen ps = map (λ p. p.items) ps

-- the paths that an iterator still gives
abbrev pub ahead : IntoIter (Vec On Global) Global → List Path
ahead it = paths_seen (into_iter_items it)

-- the first path, and the others
abbrev pub first : List Path → Option Path
first [] = None
first (p ∷ ps) = Some p

abbrev pub others : List Path → List Path
others [] = []
others (p ∷ ps) = ps

abbrev pub clocked_decl : Option Path → Decl → Decl
clocked_decl clock d = record { name = d.name; ty = d.ty; last = d.last; clock = clock; span = d.span }

-- ---- what is written, and the paths that are left

abbrev pub decls_written : List Decl → List Path → List Decl
decls_written [] ps = []
decls_written (d ∷ ds) ps = clocked_decl (first ps) d ∷ decls_written ds (others ps)

abbrev pub decls_left : List Decl → List Path → List Path
decls_left [] ps = ps
decls_left (d ∷ ds) ps = decls_left ds (others ps)

abbrev mutual
  pub block_left : Block → List Path → List Path
  block_left (block ds es) ps = eqns_left es (decls_left ds ps)

  pub eqns_left : Eqns → List Path → List Path
  eqns_left no_eqn ps = ps
  eqns_left (more_eqns e es) ps = eqns_left es (eqn_left e ps)

  pub eqn_left : Eqn → List Path → List Path
  eqn_left (define s ys e) ps = ps
  eqn_left (switch s e arms) ps = arms_left arms ps
  eqn_left (reset s b e) ps = block_left b ps
  eqn_left (automaton s ss) ps = states_left ss ps

  pub arms_left : Arms → List Path → List Path
  arms_left no_arm ps = ps
  arms_left (more_arms c b s arms) ps = arms_left arms (block_left b ps)

  pub states_left : States → List Path → List Path
  states_left no_state ps = ps
  states_left (more_states f b until unless s ss) ps = states_left ss (block_left b ps)

abbrev mutual
  pub block_written : Block → List Path → Block
  block_written (block ds es) ps = block (decls_written ds ps) (eqns_written es (decls_left ds ps))

  pub eqns_written : Eqns → List Path → Eqns
  eqns_written no_eqn ps = no_eqn
  eqns_written (more_eqns e es) ps = more_eqns (eqn_written e ps) (eqns_written es (eqn_left e ps))

  pub eqn_written : Eqn → List Path → Eqn
  eqn_written (define s ys e) ps = define s ys e
  eqn_written (switch s e arms) ps = switch s e (arms_written arms ps)
  eqn_written (reset s b e) ps = reset s (block_written b ps) e
  eqn_written (automaton s ss) ps = automaton s (states_written ss ps)

  pub arms_written : Arms → List Path → Arms
  arms_written no_arm ps = no_arm
  arms_written (more_arms c b s arms) ps = more_arms c (block_written b ps) s (arms_written arms (block_left b ps))

  pub states_written : States → List Path → States
  states_written no_state ps = no_state
  states_written (more_states f b until unless s ss) ps =
      more_states f (block_written b ps) until unless s (states_written ss (block_left b ps))

-- ---- nodes: inputs, outputs and controllable variables are on the base clock

abbrev pub contract_written : Option Contract → List Path → Option Contract
contract_written None ps = None
contract_written (Some c) ps =
    Some (record { body = block_written c.body ps; assume = c.assume; enforce = c.enforce; controls = map base_written c.controls; span = c.span })

abbrev pub contract_left : Option Contract → List Path → List Path
contract_left None ps = ps
contract_left (Some c) ps = block_left c.body ps

abbrev pub node_written : Node → List Path → Node
node_written n ps =
    record {
      name = n.name;
      span = n.span;
      inputs = map base_written n.inputs;
      outputs = map base_written n.outputs;
      contract = contract_written n.contract ps;
      body = block_written n.body (contract_left n.contract ps);
    }

abbrev pub node_left : Node → List Path → List Path
node_left n ps = block_left n.body (contract_left n.contract ps)

-- ---- programs

abbrev pub items_written : List Item → List Path → List Item
items_written [] ps = []
items_written (item.TypeItem t ∷ xs) ps = item.TypeItem t ∷ items_written xs ps
items_written (item.NodeItem n ∷ xs) ps = item.NodeItem (node_written n ps) ∷ items_written xs (node_left n ps)

-- the paths of a node's clocks
abbrev pub paths_of_node : Assignment → Node → List Path
paths_of_node at n = map reverse (locals_of_node at n)

-- the paths of a program's clocks, with an assignment for each node
abbrev pub paths_of_items : List Assignment → List Item → List Path
paths_of_items ats [] = []
paths_of_items ats (item.TypeItem t ∷ xs) = paths_of_items ats xs
paths_of_items [] (item.NodeItem n ∷ xs) = []
paths_of_items (at ∷ ats) (item.NodeItem n ∷ xs) = paths_of_node at n ++ paths_of_items ats xs

-- Each node has an assignment, of which this is true.
abbrev pub AreAssigned : (Node → Assignment → Type 0) → List Item → List Assignment → Type 0
AreAssigned P [] [] = ⊤
AreAssigned P [] (at ∷ ats) = ⊥
AreAssigned P (item.TypeItem t ∷ xs) ats = AreAssigned P xs ats
AreAssigned P (item.NodeItem n ∷ xs) [] = ⊥
AreAssigned P (item.NodeItem n ∷ xs) (at ∷ ats) = P n at × AreAssigned P xs ats

-- One program is the other with the clocks of each node written, by an assignment of which this is true.
abbrev pub AreWritten : (Node → Assignment → Type 0) → List Item → List Item → Type 0
AreWritten P [] [] = ⊤
AreWritten P [] (y ∷ ys) = ⊥
AreWritten P (x ∷ xs) [] = ⊥
AreWritten P (item.TypeItem t ∷ xs) (y ∷ ys) = (y ≡ item.TypeItem t) × AreWritten P xs ys
AreWritten P (item.NodeItem n ∷ xs) (y ∷ ys) = ((at : Assignment) × P n at × (y ≡ item.NodeItem (node_with_clocks at n))) × AreWritten P xs ys
