-- The first values of the registers of a node: at each `pre`, and at each `fby`, the first value of the type of its operand; and one for each controllable variable.
-- Source: own. The first value of a register behind `fby` is never read, and that behind `pre` not where a program is initialised.
use Rattle.std.specs.Prelude.{ℕ, if◌then◌else◌, List, [], ◌∷◌, Option, None, Some}
use Rattle.std.specs.Str.{bytes_eq}
use Rattle.hp_base.specs.declared.ty.Ty.{Ty}
use Rattle.hp_base.specs.declared.value.Value.{Value}
use Rattle.hp_base.specs.declared.value.Value.TheVariants.{Absent}
use Rattle.hp_tree.specs.declared.block.Trans.{Trans}
use Rattle.hp_tree.specs.declared.program.Item.{Item}
use Rattle.hp_tree.specs.declared.program.Item.TheVariants.{TypeItem, NodeItem}
use Rattle.hp_tree.specs.Expressions.{Expr, constant, variable, last_of, one, two, choose, pre, fby, arrow, when_is, merge, call, Exprs, no_expr, more_exprs, Parts, no_part, more_parts}
use Rattle.hp_tree.specs.Blocks.{Decl, Block, block, Eqns, no_eqn, more_eqns, Eqn, define, switch, reset, automaton, Arms, no_arm, more_arms, States, no_state, more_states}
use Rattle.hp_tree.specs.Programs.{Contract, Node}
use Rattle.hp_tree.specs.Instant.{Controls, Body, Instant, nothing, alone, with_one, with_two, with_three, in_row, with_row, with_instance, of_two, in_block, in_right, with_arms, with_body, in_state, with_words, in_observer}
use Rattle.hp_tree.specs.Meaning.{controls_of}
use Rattle.hp_typing.specs.Scopes.{with_variables, inside, inside_node}
use Rattle.hp_typing.specs.Types.{type_of}
use Rattle.law_judged.specs.Typed.Scopes.{Scope}
use Rattle.law_values.specs.Valued.Values.{scope_behind}
use Rattle.law_equations.specs.Made.Making.{Known, flat_type, first_value}

-- the first value of a type
abbrev pub first_of : Known → Option Ty → Value
first_of k None = Absent
first_of k (Some t) = first_value (flat_type k.types t)

-- the parts of a node: its controllable variables, its body, and its contract's
abbrev pub in_parts : Instant → Instant → Instant → Instant
in_parts controls body observer (Controls ∷ p) = controls p
in_parts controls body observer (Body ∷ p) = body p
in_parts controls body observer p = observer p

-- `callee` has what is given to an instance of the node of a name
module _ (k : Known) (callee : List ℕ → Instant) where
  module _ (s : Scope) where
    abbrev mutual
      pub expr_firsts : Expr → Instant
      expr_firsts (constant at c) = nothing
      expr_firsts (variable at x) = nothing
      expr_firsts (last_of at x) = nothing
      expr_firsts (one at o a) = with_one Absent (expr_firsts a)
      expr_firsts (two at o a b) = with_two Absent (expr_firsts a) (expr_firsts b)
      expr_firsts (choose at a b c) = with_three Absent (expr_firsts a) (expr_firsts b) (expr_firsts c)
      expr_firsts (pre at a) = with_one (first_of k (type_of s a)) (expr_firsts a)
      expr_firsts (fby at a b) = with_two (first_of k (type_of s b)) (expr_firsts a) (expr_firsts b)
      expr_firsts (arrow at a b) = with_two Absent (expr_firsts a) (expr_firsts b)
      expr_firsts (when_is at a c x) = with_one Absent (expr_firsts a)
      expr_firsts (merge at x ps) = with_row Absent (parts_firsts ps)
      expr_firsts (call at f inlined es) = with_instance Absent (exprs_firsts es) (callee f)

      pub exprs_firsts : Exprs → List Instant
      exprs_firsts no_expr = []
      exprs_firsts (more_exprs e es) = expr_firsts e ∷ exprs_firsts es

      pub parts_firsts : Parts → List Instant
      parts_firsts no_part = []
      parts_firsts (more_parts c e ps) = expr_firsts e ∷ parts_firsts ps

    abbrev pub tests_firsts : List Trans → List Instant
    tests_firsts [] = []
    tests_firsts (t ∷ ts) = expr_firsts t.cond ∷ tests_firsts ts

  abbrev mutual
    pub block_firsts : Scope → Block → Instant
    block_firsts s (block ds es) = in_block (λ x. Absent) Absent (eqns_firsts (with_variables s ds) es)

    pub eqns_firsts : Scope → Eqns → Instant
    eqns_firsts s no_eqn = nothing
    eqns_firsts s (more_eqns e es) = of_two (eqn_firsts s e) (eqns_firsts s es)

    pub eqn_firsts : Scope → Eqn → Instant
    eqn_firsts s (define at ys e) = in_right (expr_firsts s e)
    eqn_firsts s (switch at e arms) = with_arms (expr_firsts s e) (arms_firsts s arms)
    eqn_firsts s (reset at b e) = with_body (expr_firsts s e) (block_firsts s b)
    eqn_firsts s (automaton at ss) = with_words Absent Absent Absent (states_firsts s ss)

    pub arms_firsts : Scope → Arms → Instant
    arms_firsts s no_arm = nothing
    arms_firsts s (more_arms c b at arms) = of_two (block_firsts s b) (arms_firsts s arms)

    pub states_firsts : Scope → States → Instant
    states_firsts s no_state = nothing
    states_firsts s (more_states f b until unless at ss) =
        of_two (in_state (block_firsts s b) (in_row (tests_firsts (inside s b) until)) (in_row (tests_firsts s unless))) (states_firsts s ss)

  abbrev pub told_firsts : Scope → Option Expr → Instant
  told_firsts s None = nothing
  told_firsts s (Some e) = expr_firsts s e

  abbrev pub contract_firsts : Scope → Option Contract → Instant
  contract_firsts s None = nothing
  contract_firsts s (Some c) = in_observer (block_firsts s c.body) (told_firsts (inside s c.body) c.assume) (told_firsts (inside s c.body) c.enforce)

  abbrev pub controls_firsts : List Decl → List Instant
  controls_firsts [] = []
  controls_firsts (d ∷ ds) = alone (first_of k (Some d.ty)) ∷ controls_firsts ds

  abbrev pub node_firsts : Scope → Node → Instant
  node_firsts s n =
      in_parts (in_row (controls_firsts (controls_of n.contract))) (block_firsts (with_variables (inside_node s n) (controls_of n.contract)) n.body)
      (contract_firsts (inside_node s n) n.contract)

-- what is given to the node of a name, of some items, the last one first: each may call those declared before it
abbrev pub firsts_among : Known → List Item → List ℕ → Instant
firsts_among k [] f = nothing
firsts_among k (TypeItem t ∷ earlier) f = firsts_among k earlier f
firsts_among k (NodeItem n ∷ earlier) f = if bytes_eq n.name f then node_firsts k (firsts_among k earlier) (scope_behind earlier) n else firsts_among k earlier f
