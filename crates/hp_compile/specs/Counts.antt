-- What is counted of a program without inlined calls, node by node. A place is a declaration, an expression or a part of one, or one of the four words of an automaton.
-- Source: own; the limits of the language.
use Rattle.std.specs.Prelude.{ℕ, suc, Bool, ◌+◌, ◌≤◌, max, nat_lt, if◌then◌else◌, List, [], ◌∷◌, ◌++◌, length, Option, None, Some}
use Rattle.std.specs.Str.{bytes_eq}
use Rattle.hp_base.specs.Limits.{most}
use Rattle.hp_base.specs.declared.limit.Limit.{Limit}
use Rattle.hp_base.specs.declared.limit.What.{What}
use Rattle.hp_base.specs.declared.limit.What.TheVariants.{Nest, Places, Total, Instances, Cells, Calls}
use Rattle.hp_base.specs.declared.span.Span.{Span}
use Rattle.hp_tree.specs.declared.block.Trans.{Trans}
use Rattle.hp_tree.specs.declared.program.Item.{Item}
use Rattle.hp_tree.specs.declared.program.Item.TheVariants.{TypeItem, NodeItem}
use Rattle.hp_tree.specs.Expressions.{Expr, constant, variable, last_of, one, two, choose, pre, fby, arrow, when_is, merge, call, Exprs, no_expr, more_exprs, Parts, no_part, more_parts}
use Rattle.hp_tree.specs.Blocks.{Block, block, Eqns, no_eqn, more_eqns, Eqn, define, switch, reset, automaton, Arms, no_arm, more_arms, States, no_state, more_states}
use Rattle.hp_tree.specs.Programs.{Contract, Node}

-- ---- what there is in a part

-- a call of a node at its place, to be inlined or not
pub record Call : Type 0 where
  pub node : List ℕ
  pub at : Span
  pub inlined : Bool

-- its places, how many blocks stand in each other, and its calls in the order of the text
pub record Inside : Type 0 where
  pub places : ℕ
  pub levels : ℕ
  pub calls : List Call

abbrev pub nothing : Inside
nothing = record { places = 0; levels = 0; calls = [] }

-- so many places
unfoldable pub places : ℕ → Inside
places n = record { places = n; levels = 0; calls = [] }

unfoldable pub calling : Span → List ℕ → Bool → Inside
calling at f inlined = record { places = 0; levels = 0; calls = record { node = f; at = at; inlined = inlined } ∷ [] }

-- two parts
unfoldable pub both : Inside → Inside → Inside
both a b = record { places = a.places + b.places; levels = max a.levels b.levels; calls = a.calls ++ b.calls }

-- a block with this in it
unfoldable pub deeper : Inside → Inside
deeper a = record a { levels = suc a.levels }

abbrev mutual
  pub in_expr : Expr → Inside
  in_expr (constant at c) = places 1
  in_expr (variable at x) = places 1
  in_expr (last_of at x) = places 1
  in_expr (one at op a) = both (places 1) (in_expr a)
  in_expr (two at op a b) = both (places 1) (both (in_expr a) (in_expr b))
  in_expr (choose at a b c) = both (places 1) (both (in_expr a) (both (in_expr b) (in_expr c)))
  in_expr (pre at a) = both (places 1) (in_expr a)
  in_expr (fby at a b) = both (places 1) (both (in_expr a) (in_expr b))
  in_expr (arrow at a b) = both (places 1) (both (in_expr a) (in_expr b))
  in_expr (when_is at a c x) = both (places 1) (in_expr a)
  in_expr (merge at x ps) = both (places 1) (in_parts ps)
  in_expr (call at f inlined es) = both (places 1) (both (calling at f inlined) (in_exprs es))

  pub in_exprs : Exprs → Inside
  in_exprs no_expr = nothing
  in_exprs (more_exprs e es) = both (in_expr e) (in_exprs es)

  pub in_parts : Parts → Inside
  in_parts no_part = nothing
  in_parts (more_parts c e ps) = both (in_expr e) (in_parts ps)

abbrev pub in_transitions : List Trans → Inside
in_transitions [] = nothing
in_transitions (t ∷ ts) = both (in_expr t.cond) (in_transitions ts)

abbrev mutual
  pub in_block : Block → Inside
  in_block (block ds es) = both (places (length ds)) (in_eqns es)

  pub in_eqns : Eqns → Inside
  in_eqns no_eqn = nothing
  in_eqns (more_eqns e es) = both (in_eqn e) (in_eqns es)

  pub in_eqn : Eqn → Inside
  in_eqn (define at xs e) = in_expr e
  in_eqn (switch at e arms) = both (in_expr e) (in_arms arms)
  in_eqn (reset at b e) = both (deeper (in_block b)) (in_expr e)
  in_eqn (automaton at qs) = both (places 4) (in_states qs)

  pub in_arms : Arms → Inside
  in_arms no_arm = nothing
  in_arms (more_arms c b at arms) = both (deeper (in_block b)) (in_arms arms)

  pub in_states : States → Inside
  in_states no_state = nothing
  in_states (more_states x b until unless at qs) = both (both (deeper (in_block b)) (both (in_transitions until) (in_transitions unless))) (in_states qs)

abbrev pub in_condition : Option Expr → Inside
in_condition None = nothing
in_condition (Some e) = in_expr e

abbrev pub in_contract : Option Contract → Inside
in_contract None = nothing
in_contract (Some c) = both (places (length c.controls)) (both (in_block c.body) (both (in_condition c.assume) (in_condition c.enforce)))

-- The blocks of its contract and its body are one level more.
abbrev pub in_node : Node → Inside
in_node n = both (both (places (length n.inputs)) (places (length n.outputs))) (both (in_contract n.contract) (in_block n.body))

-- ---- what an instance of a node is, with all instances below it

-- how many they are, their places, and the nodes on the longest chain of calls
pub record Instance : Type 0 where
  pub instances : ℕ
  pub cells : ℕ
  pub chain : ℕ

-- of all calls together, and of the greatest of them
abbrev pub total : (List ℕ → ℕ) → List Call → ℕ
total of [] = 0
total of (c ∷ cs) = of c.node + total of cs

abbrev pub greatest : (List ℕ → ℕ) → List Call → ℕ
greatest of [] = 0
greatest of (c ∷ cs) = max (of c.node) (greatest of cs)

-- where it is known what an instance of each node is that is called
unfoldable pub instance_of : (List ℕ → Instance) → Inside → Instance
instance_of known a = record {
  instances = suc (total (λ f. (known f).instances) a.calls);
  cells = a.places + total (λ f. (known f).cells) a.calls;
  chain = suc (greatest (λ f. (known f).chain) a.calls);
}

abbrev pub with_instance : (List ℕ → Instance) → List ℕ → Instance → List ℕ → Instance
with_instance known f i x = if bytes_eq f x then i else known x

-- before the first node none is known, and none is called
abbrev pub none_known : List ℕ → Instance
none_known f = record { instances = 1; cells = 0; chain = 1 }

-- ---- the counts of a program

-- a count of a node, as of its places
pub record Count : Type 0 where
  pub node : List ℕ
  pub what : What
  pub count : ℕ

-- those of a node with this in it, behind nodes with so many places
abbrev pub counts_of_node : List ℕ → ℕ → Inside → Instance → List Count
counts_of_node f before a i =
    record { node = f; what = Nest; count = suc a.levels }
    ∷ record { node = f; what = Places; count = a.places }
    ∷ record { node = f; what = Total; count = before + a.places }
    ∷ record { node = f; what = Instances; count = i.instances }
    ∷ record { node = f; what = Cells; count = i.cells }
    ∷ record { node = f; what = Calls; count = i.chain }
    ∷ []

abbrev pub counts_in : (List ℕ → Instance) → ℕ → List Item → List Count
counts_in known before [] = []
counts_in known before (TypeItem t ∷ items) = counts_in known before items
counts_in known before (NodeItem n ∷ items) =
    let a = in_node n in
    let i = instance_of known a in
    counts_of_node n.name before a i ++ counts_in (with_instance known n.name i) (before + a.places) items

abbrev pub counts : List Item → List Count
counts program = counts_in none_known 0 program

-- ---- limits

-- Each count is within its limit.
abbrev pub KeepLimits : List Count → Type 0
KeepLimits [] = Unit {0}
KeepLimits (c ∷ cs) = (c.count ≤ most c.what) × KeepLimits cs

-- The first count that is not, with its node: it is told as the limit and one.
unfoldable pub if_passed : Count → Option (List ℕ × Limit) → Option (List ℕ × Limit)
if_passed c others = if nat_lt (most c.what) c.count then Some (c.node, record { what = c.what; found = suc (most c.what) }) else others

abbrev pub first_passed : List Count → Option (List ℕ × Limit)
first_passed [] = None
first_passed (c ∷ cs) = if_passed c (first_passed cs)
