-- The names of new variables: the part of the old name before a `$`, then `$` and the number of the variable among the new ones of
-- its node, counted from 1 in the order of their declarations.
use Rattle.std.specs.Prelude.{ℕ, suc, ◌+◌, ◌&&◌, if◌then◌else◌, List, [], ◌∷◌, map, Option, None, Some, option_map}
use Rattle.std.specs.Str.{bytes_eq}
use Rattle.hp_tree.specs.declared.program.Item.{Item}
use Rattle.hp_tree.specs.declared.program.Item.TheVariants.{TypeItem, NodeItem}
use Rattle.hp_tree.specs.Blocks.{Decl, Block, block, Eqns, no_eqn, more_eqns, Eqn, define, switch, reset, automaton, Arms, no_arm, more_arms, States, no_state, more_states}
use Rattle.hp_tree.specs.Programs.{Contract, Node}
use Rattle.hp_expand.specs.Renaming.{renamed, renamed_decls, renamed_left, renamed_transition}
use Rattle.hp_expand.specs.NewNames.{is_new, numbered_name}
use Rattle.hp_expand.specs.Replacing.{in_node}

-- one, where the name is that of a new variable
abbrev pub one_if_new : List ℕ → ℕ
one_if_new x = if is_new x then 1 else 0

-- how names are said where a variable of the name is declared, which has this number if it is new
abbrev pub declaring_one : (List ℕ → List ℕ) → ℕ → List ℕ → List ℕ → List ℕ
declaring_one to k y x = if is_new y && bytes_eq y x then numbered_name x k else to x

-- how names are said where variables are declared, the first new one of which has this number
abbrev pub declaring : (List ℕ → List ℕ) → ℕ → List Decl → List ℕ → List ℕ
declaring to k [] = to
declaring to k (d ∷ ds) = declaring (declaring_one to k d.name) (k + one_if_new d.name) ds

-- how many new variables are declared in a part
abbrev pub new_in_decls : List Decl → ℕ
new_in_decls [] = 0
new_in_decls (d ∷ ds) = one_if_new d.name + new_in_decls ds

abbrev mutual
  pub new_in_block : Block → ℕ
  new_in_block (block ds es) = new_in_decls ds + new_in_eqns es

  pub new_in_eqns : Eqns → ℕ
  new_in_eqns no_eqn = 0
  new_in_eqns (more_eqns e es) = new_in_eqn e + new_in_eqns es

  pub new_in_eqn : Eqn → ℕ
  new_in_eqn (define s xs e) = 0
  new_in_eqn (switch s e arms) = new_in_arms arms
  new_in_eqn (reset s b e) = new_in_block b
  new_in_eqn (automaton s qs) = new_in_states qs

  pub new_in_arms : Arms → ℕ
  new_in_arms no_arm = 0
  new_in_arms (more_arms c b at arms) = new_in_block b + new_in_arms arms

  pub new_in_states : States → ℕ
  new_in_states no_state = 0
  new_in_states (more_states x b until unless at qs) = new_in_block b + new_in_states qs

-- A part where names are said so, and its first new variable has this number.
abbrev mutual
  pub in_block : (List ℕ → List ℕ) → ℕ → Block → Block
  in_block to k (block ds es) = block (renamed_decls (declaring to k ds) ds) (in_eqns (declaring to k ds) (k + new_in_decls ds) es)

  pub in_eqns : (List ℕ → List ℕ) → ℕ → Eqns → Eqns
  in_eqns to k no_eqn = no_eqn
  in_eqns to k (more_eqns e es) = more_eqns (in_eqn to k e) (in_eqns to (k + new_in_eqn e) es)

  pub in_eqn : (List ℕ → List ℕ) → ℕ → Eqn → Eqn
  in_eqn to k (define s xs e) = define s (renamed_left to xs) (renamed to e)
  in_eqn to k (switch s e arms) = switch s (renamed to e) (in_arms to k arms)
  in_eqn to k (reset s b e) = reset s (in_block to k b) (renamed to e)
  in_eqn to k (automaton s qs) = automaton s (in_states to k qs)

  pub in_arms : (List ℕ → List ℕ) → ℕ → Arms → Arms
  in_arms to k no_arm = no_arm
  in_arms to k (more_arms c b at arms) = more_arms c (in_block to k b) at (in_arms to (k + new_in_block b) arms)

  -- the weak transitions see the variables of the body
  pub in_states : (List ℕ → List ℕ) → ℕ → States → States
  in_states to k no_state = no_state
  in_states to k (more_states x (block ds es) until unless at qs) =
      more_states x (block (renamed_decls (declaring to k ds) ds) (in_eqns (declaring to k ds) (k + new_in_decls ds) es))
      (map (renamed_transition (declaring to k ds)) until) (map (renamed_transition to) unless) at
      (in_states to (k + (new_in_decls ds + new_in_eqns es)) qs)

abbrev pub same_name : List ℕ → List ℕ
same_name x = x

-- in a contract, its conditions see the variables of its block
abbrev pub declaring_in : Block → List ℕ → List ℕ
declaring_in (block ds es) = declaring same_name 1 ds

abbrev pub in_contract : Contract → Contract
in_contract c = record c {
  body = in_block same_name 1 c.body;
  assume = option_map (renamed (declaring_in c.body)) c.assume;
  enforce = option_map (renamed (declaring_in c.body)) c.enforce;
}

-- the number of the first new variable of a body behind this contract
abbrev pub behind : Option Contract → ℕ
behind None = 1
behind (Some c) = suc (new_in_block c.body)

abbrev pub numbered : Node → Node
numbered n = record n { contract = option_map in_contract n.contract; body = in_block same_name (behind n.contract) n.body }

-- ---- programs

-- a node with its inlined calls replaced, where it is known what the nodes before it became
abbrev pub replaced_node : (List ℕ → Node) → Node → Node
replaced_node nodes n = numbered (in_node nodes n)

abbrev pub with_node : (List ℕ → Node) → Node → List ℕ → Node
with_node nodes n x = if bytes_eq n.name x then n else nodes x

abbrev pub replaced_items : (List ℕ → Node) → List Item → List Item
replaced_items nodes [] = []
replaced_items nodes (TypeItem t ∷ items) = TypeItem t ∷ replaced_items nodes items
replaced_items nodes (NodeItem n ∷ items) = NodeItem (replaced_node nodes n) ∷ replaced_items (with_node nodes (replaced_node nodes n)) items

-- before the first node none is known
abbrev pub no_node : List ℕ → Node
no_node x = record {
  name = x;
  span = record { line = 0; col = 0; end = 0 };
  inputs = [];
  outputs = [];
  contract = None;
  body = block [] no_eqn;
}

-- the program with its inlined calls replaced
abbrev pub replaced : List Item → List Item
replaced program = replaced_items no_node program
