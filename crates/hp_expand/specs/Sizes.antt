-- How much there is in a part of a program once its inlined calls are replaced. A place is a declaration, an occurrence of a
-- subexpression, or one of the four words of an automaton.
use Rattle.std.specs.Prelude.{ℕ, suc, ◌+◌, max, Bool, if◌then◌else◌, List, [], ◌∷◌, length, Option, None, Some}
use Rattle.std.specs.Str.{bytes_eq}
use Rattle.hp_tree.specs.declared.block.Trans.{Trans}
use Rattle.hp_tree.specs.Expressions.{Expr, constant, variable, last_of, one, two, choose, pre, fby, arrow, when_is, merge, call, Exprs, no_expr, more_exprs, Parts, no_part, more_parts}
use Rattle.hp_tree.specs.Blocks.{Block, block, Eqns, no_eqn, more_eqns, Eqn, define, switch, reset, automaton, Arms, no_arm, more_arms, States, no_state, more_states}
use Rattle.hp_tree.specs.Programs.{Contract, Node}
pub use Rattle.hp_expand.specs.declared.size.Size.{Size}

-- `places` are its places, `nest` the levels of blocks in it; `instances` are those of its plain calls, `cells` the places of
-- all of these, and `calls` the nodes on the longest chain of plain calls that begins in it.
abbrev pub none : Size
none = record { places = 0; nest = 0; instances = 0; cells = 0; calls = 0 }

-- so many places
unfoldable pub places : ℕ → Size
places n = record { places = n; nest = 0; instances = 0; cells = 0; calls = 0 }

-- two parts together
unfoldable pub join : Size → Size → Size
join a b = record {
  places = a.places + b.places;
  nest = max a.nest b.nest;
  instances = a.instances + b.instances;
  cells = a.cells + b.cells;
  calls = max a.calls b.calls;
}

-- an inner block with this in it
unfoldable pub deeper : Size → Size
deeper s = record s { nest = suc s.nest }

-- an instance of a node with this in it, and all instances below
unfoldable pub called : Size → Size
called s = record { places = 0; nest = 0; instances = suc s.instances; cells = s.places + s.cells; calls = suc s.calls }

-- what a call brings with it: an inlined one all that is in the node
abbrev pub brought : Bool → Size → Size
brought inlined s = if inlined then s else called s

-- A call of a node with such an inside that gives the values of so many names, over such arguments. In the place of an inlined call
-- stands one variable for each of these names.
unfoldable pub of_call : ℕ → Bool → Size → Size → Size
of_call names inlined inside args = join (places (if inlined then names else 1)) (join (brought inlined inside) args)

-- an expression, where it is known what is in each node
abbrev mutual
  pub in_expr : (List ℕ → Size) → Expr → Size
  in_expr known (constant at c) = places 1
  in_expr known (variable at x) = places 1
  in_expr known (last_of at x) = places 1
  in_expr known (one at op a) = join (places 1) (in_expr known a)
  in_expr known (two at op a b) = join (places 1) (join (in_expr known a) (in_expr known b))
  in_expr known (choose at a b c) = join (places 1) (join (in_expr known a) (join (in_expr known b) (in_expr known c)))
  in_expr known (pre at a) = join (places 1) (in_expr known a)
  in_expr known (fby at a b) = join (places 1) (join (in_expr known a) (in_expr known b))
  in_expr known (arrow at a b) = join (places 1) (join (in_expr known a) (in_expr known b))
  in_expr known (when_is at a c x) = join (places 1) (in_expr known a)
  in_expr known (merge at x ps) = join (places 1) (in_parts known ps)
  in_expr known (call at f inlined es) = of_call 1 inlined (known f) (in_exprs known es)

  pub in_exprs : (List ℕ → Size) → Exprs → Size
  in_exprs known no_expr = none
  in_exprs known (more_exprs e es) = join (in_expr known e) (in_exprs known es)

  pub in_parts : (List ℕ → Size) → Parts → Size
  in_parts known no_part = none
  in_parts known (more_parts c e ps) = join (in_expr known e) (in_parts known ps)

-- the right side of an equation with so many names
abbrev pub in_right : (List ℕ → Size) → ℕ → Expr → Size
in_right known names (call at f inlined es) = of_call names inlined (known f) (in_exprs known es)
in_right known names e = in_expr known e

abbrev pub in_transitions : (List ℕ → Size) → List Trans → Size
in_transitions known [] = none
in_transitions known (t ∷ ts) = join (in_expr known t.cond) (in_transitions known ts)

abbrev mutual
  pub in_block : (List ℕ → Size) → Block → Size
  in_block known (block ds es) = join (places (length ds)) (in_eqns known es)

  pub in_eqns : (List ℕ → Size) → Eqns → Size
  in_eqns known no_eqn = none
  in_eqns known (more_eqns e es) = join (in_eqn known e) (in_eqns known es)

  pub in_eqn : (List ℕ → Size) → Eqn → Size
  in_eqn known (define at xs e) = in_right known (length xs) e
  in_eqn known (switch at e arms) = join (in_expr known e) (in_arms known arms)
  in_eqn known (reset at b e) = join (deeper (in_block known b)) (in_expr known e)
  in_eqn known (automaton at qs) = join (places 4) (in_states known qs)

  pub in_arms : (List ℕ → Size) → Arms → Size
  in_arms known no_arm = none
  in_arms known (more_arms c b at arms) = join (deeper (in_block known b)) (in_arms known arms)

  pub in_states : (List ℕ → Size) → States → Size
  in_states known no_state = none
  in_states known (more_states x b until unless at qs) =
      join (join (deeper (in_block known b)) (join (in_transitions known until) (in_transitions known unless))) (in_states known qs)

abbrev pub in_condition : (List ℕ → Size) → Option Expr → Size
in_condition known None = none
in_condition known (Some e) = in_expr known e

abbrev pub in_contract : (List ℕ → Size) → Option Contract → Size
in_contract known None = none
in_contract known (Some c) =
    join (places (length c.controls)) (join (in_block known c.body) (join (in_condition known c.assume) (in_condition known c.enforce)))

-- what is in a node, its body and its contract's not counted as levels
abbrev pub in_node : (List ℕ → Size) → Node → Size
in_node known n = join (join (places (length n.inputs)) (places (length n.outputs))) (join (in_contract known n.contract) (in_block known n.body))

-- what is in the nodes of some names, with one node more
abbrev pub with_node : (List ℕ → Size) → List ℕ → Size → List ℕ → Size
with_node known f s x = if bytes_eq f x then s else known x

-- before the first node none is known
abbrev pub nothing_known : List ℕ → Size
nothing_known x = none
