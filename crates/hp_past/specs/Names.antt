-- The names that occur in a text, but for those of constructors and states, which begin with a capital letter; and names that do not occur.
use Rattle.std.specs.Prelude.{ℕ, zero, suc, Bool, if◌then◌else◌, is_some, length, List, [], ◌∷◌, ◌++◌, map, Option, None, Some, codes, decimal}
use Rattle.hp_base.specs.Known.Known.{lookup, with_entry}
use Rattle.hp_base.specs.declared.ty.Ty.{Ty}
use Rattle.hp_base.specs.declared.ty.Ty.TheVariants as type
use Rattle.hp_tree.specs.declared.decl.Cons.{Cons}
use Rattle.hp_tree.specs.declared.block.Trans.{Trans}
use Rattle.hp_tree.specs.declared.program.Item.{Item}
use Rattle.hp_tree.specs.declared.program.Item.TheVariants.{TypeItem, NodeItem}
use Rattle.hp_tree.specs.Expressions.{Expr, constant, variable, last_of, one, two, choose, pre, fby, arrow, when_is, merge, call, Exprs, no_expr, more_exprs, Parts, no_part, more_parts}
use Rattle.hp_tree.specs.Blocks.{Decl, Block, block, Eqns, no_eqn, more_eqns, Eqn, define, switch, reset, automaton, Arms, no_arm, more_arms, States, no_state, more_states, State}
use Rattle.hp_tree.specs.Programs.{Contract, Node}

-- ---- the names that occur

abbrev mutual
  pub names_in : Expr → List (List ℕ)
  names_in (constant s c) = []
  names_in (variable s x) = x ∷ []
  names_in (last_of s x) = x ∷ []
  names_in (one s op a) = names_in a
  names_in (two s op a b) = names_in a ++ names_in b
  names_in (choose s a b c) = names_in a ++ (names_in b ++ names_in c)
  names_in (pre s a) = names_in a
  names_in (fby s a b) = names_in a ++ names_in b
  names_in (arrow s a b) = names_in a ++ names_in b
  names_in (when_is s a c x) = x ∷ names_in a
  names_in (merge s x ps) = x ∷ names_in_parts ps
  names_in (call s f inlined es) = f ∷ names_in_all es

  pub names_in_all : Exprs → List (List ℕ)
  names_in_all no_expr = []
  names_in_all (more_exprs e es) = names_in e ++ names_in_all es

  pub names_in_parts : Parts → List (List ℕ)
  names_in_parts no_part = []
  names_in_parts (more_parts c e ps) = names_in e ++ names_in_parts ps

abbrev pub names_in_type : Ty → List (List ℕ)
names_in_type type.Bool = []
names_in_type type.Int = []
names_in_type (type.Enum x) = x ∷ []

abbrev pub names_in_path : List (Cons × List ℕ) → List (List ℕ)
names_in_path path = map (λ step. step.1) path

abbrev pub names_in_clock : Option (List (Cons × List ℕ)) → List (List ℕ)
names_in_clock None = []
names_in_clock (Some path) = names_in_path path

abbrev pub names_in_decl : Decl → List (List ℕ)
names_in_decl d = d.name ∷ (names_in_type d.ty ++ names_in_clock d.clock)

abbrev pub names_in_decls : List Decl → List (List ℕ)
names_in_decls [] = []
names_in_decls (d ∷ ds) = names_in_decl d ++ names_in_decls ds

abbrev pub names_in_transitions : List Trans → List (List ℕ)
names_in_transitions [] = []
names_in_transitions (t ∷ ts) = names_in t.cond ++ names_in_transitions ts

abbrev mutual
  pub names_in_block : Block → List (List ℕ)
  names_in_block (block ds es) = names_in_decls ds ++ names_in_eqns es

  pub names_in_eqns : Eqns → List (List ℕ)
  names_in_eqns no_eqn = []
  names_in_eqns (more_eqns e es) = names_in_eqn e ++ names_in_eqns es

  pub names_in_eqn : Eqn → List (List ℕ)
  names_in_eqn (define s xs e) = map (λ x. x.0) xs ++ names_in e
  names_in_eqn (switch s e arms) = names_in e ++ names_in_arms arms
  names_in_eqn (reset s b e) = names_in_block b ++ names_in e
  names_in_eqn (automaton s qs) = names_in_states qs

  pub names_in_arms : Arms → List (List ℕ)
  names_in_arms no_arm = []
  names_in_arms (more_arms c b s arms) = names_in_block b ++ names_in_arms arms

  pub names_in_states : States → List (List ℕ)
  names_in_states no_state = []
  names_in_states (more_states q b until unless s qs) =
      (names_in_block b ++ (names_in_transitions until ++ names_in_transitions unless)) ++ names_in_states qs

abbrev pub names_in_state : State → List (List ℕ)
names_in_state q = names_in_block q.body ++ (names_in_transitions q.until ++ names_in_transitions q.unless)

abbrev pub names_in_condition : Option Expr → List (List ℕ)
names_in_condition None = []
names_in_condition (Some e) = names_in e

abbrev pub names_in_contract : Option Contract → List (List ℕ)
names_in_contract None = []
names_in_contract (Some c) = names_in_block c.body ++ (names_in_condition c.assume ++ (names_in_condition c.enforce ++ names_in_decls c.controls))

abbrev pub names_in_node : Node → List (List ℕ)
names_in_node n = n.name ∷ (names_in_decls n.inputs ++ (names_in_decls n.outputs ++ (names_in_contract n.contract ++ names_in_block n.body)))

abbrev pub names_in_item : Item → List (List ℕ)
names_in_item (TypeItem t) = t.name ∷ []
names_in_item (NodeItem n) = names_in_node n

abbrev pub names_in_program : List Item → List (List ℕ)
names_in_program [] = []
names_in_program (item ∷ items) = names_in_item item ++ names_in_program items

-- ---- each of them once, with itself as what is known of it

abbrev pub Names : Type 0
Names = List (List ℕ × List ℕ)

abbrev pub noted : Names → List (List ℕ) → Names
noted names [] = names
noted names (x ∷ xs) = noted (with_entry names x x) xs

abbrev pub names_of : List Item → Names
names_of program = noted [] (names_in_program program)

-- ---- names that do not occur

abbrev pub past_name : ℕ → List ℕ
past_name k = codes "past_" ++ decimal k

abbrev pub is_taken : Names → List ℕ → Bool
is_taken names x = is_some (lookup names x)

-- the first number from this one on whose name does not occur, where at most so many are passed over
abbrev pub free_within : ℕ → Names → ℕ → ℕ
free_within zero names k = k
free_within (suc n) names k = if is_taken names (past_name k) then free_within n names (suc k) else k

-- no more are passed over than there are names
unfoldable pub free : Names → ℕ → ℕ
free names k = free_within (length names) names k
