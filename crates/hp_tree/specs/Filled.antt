-- The filled form of the language, in which a `pre` without a past gives the first value of its type in place of Nil.
-- Source: own. Clocked equations and machines have no Nil: a register holds such a value at first.
use Rattle.std.specs.Prelude.{ℕ, pos, false, if◌then◌else◌, List, [], ◌∷◌, Option, None, Some, reverse}
use Rattle.std.specs.Str.{bytes_eq}
use Rattle.hp_base.specs.declared.ty.Ty.{Ty}
use Rattle.hp_base.specs.declared.ty.Ty.TheVariants as ty
use Rattle.hp_base.specs.declared.value.Value.{Value}
use Rattle.hp_base.specs.declared.value.Value.TheVariants.{Absent, B, I}
use Rattle.hp_tree.specs.declared.block.Trans.{Trans}
use Rattle.hp_tree.specs.declared.program.Item.{Item}
use Rattle.hp_tree.specs.declared.program.Item.TheVariants.{TypeItem, NodeItem}
use Rattle.hp_tree.specs.Expressions.{Expr, constant, variable, last_of, one, two, choose, pre, fby, arrow, when_is, merge, call, Exprs, no_expr, more_exprs, Parts, no_part, more_parts}
use Rattle.hp_tree.specs.Blocks.{Decl, Block, block, Eqns, no_eqn, more_eqns, Eqn, define, switch, reset, automaton, Arms, no_arm, more_arms, States, no_state, more_states}
use Rattle.hp_tree.specs.Programs.{TypeDecl, Contract, Node}
use Rattle.hp_tree.specs.Operators.{constructor_from, filled}
use Rattle.hp_tree.specs.Instant.{Body, Instant, Given, or_else, nothing, with_one, with_two, with_three, in_row, with_row, with_instance, of_two, in_block, in_right, with_arms, with_body, in_state, with_words, in_observer}
use Rattle.hp_tree.specs.Meaning.{types_of, controls_of, node_among, meaning}
use Rattle.hp_tree.specs.Values.{constructors_of}
use Rattle.hp_tree.specs.ExpressionTypes.{Scope, typed_in, untyped, scope_of, type_of}

-- false, 0, or the first constructor
abbrev first_constructor : List TypeDecl → List (List ℕ) → Value
first_constructor types [] = Absent
first_constructor types (c ∷ cs) = constructor_from 0 types c

abbrev pub first_value : List TypeDecl → Ty → Value
first_value types ty.Bool = B false
first_value types ty.Int = I (pos 0)
first_value types (ty.Enum t) = first_constructor types (constructors_of types t)

-- ---- the first values at each `pre`; `outputs` has the outputs of the node of a name, and `callee` the first values of an instance of it

module _ (types : List TypeDecl) (outputs : List ℕ → List Decl) (callee : List ℕ → Instant) where
  abbrev mutual
    pub firsts : Expr → Scope → Instant
    firsts (constant s c) names = nothing
    firsts (variable s x) names = nothing
    firsts (last_of s x) names = nothing
    firsts (one s o a) names = with_one Absent (firsts a names)
    firsts (two s o a b) names = with_two Absent (firsts a names) (firsts b names)
    firsts (choose s a b c) names = with_three Absent (firsts a names) (firsts b names) (firsts c names)
    firsts (pre s a) names = with_one (first_value types (type_of types outputs a names)) (firsts a names)
    firsts (fby s a b) names = with_two Absent (firsts a names) (firsts b names)
    firsts (arrow s a b) names = with_two Absent (firsts a names) (firsts b names)
    firsts (when_is s a c x) names = with_one Absent (firsts a names)
    firsts (merge s x ps) names = with_row Absent (firsts_of_parts ps names)
    firsts (call s f inlined es) names = with_instance Absent (firsts_of_all es names) (callee f)

    pub firsts_of_all : Exprs → Scope → List Instant
    firsts_of_all no_expr names = []
    firsts_of_all (more_exprs e es) names = firsts e names ∷ firsts_of_all es names

    pub firsts_of_parts : Parts → Scope → List Instant
    firsts_of_parts no_part names = []
    firsts_of_parts (more_parts c e ps) names = firsts e names ∷ firsts_of_parts ps names

  abbrev firsts_of_conditions : List Trans → Scope → List Instant
  firsts_of_conditions [] names = []
  firsts_of_conditions (t ∷ ts) names = firsts t.cond names ∷ firsts_of_conditions ts names

  abbrev mutual
    pub firsts_of_block : Block → Scope → Instant
    firsts_of_block (block ds es) out = in_block (λ x. Absent) Absent (firsts_of_equations es (typed_in ds out))

    pub firsts_of_equations : Eqns → Scope → Instant
    firsts_of_equations no_eqn names = nothing
    firsts_of_equations (more_eqns e es) names = of_two (firsts_of_equation e names) (firsts_of_equations es names)

    pub firsts_of_equation : Eqn → Scope → Instant
    firsts_of_equation (define s ys e) names = in_right (firsts e names)
    firsts_of_equation (switch s e arms) names = with_arms (firsts e names) (firsts_of_arms arms names)
    firsts_of_equation (reset s b e) names = with_body (firsts e names) (firsts_of_block b names)
    firsts_of_equation (automaton s ss) names = with_words Absent Absent Absent (firsts_of_states ss names)

    pub firsts_of_arms : Arms → Scope → Instant
    firsts_of_arms no_arm names = nothing
    firsts_of_arms (more_arms c b s arms) names = of_two (firsts_of_block b names) (firsts_of_arms arms names)

    pub firsts_of_states : States → Scope → Instant
    firsts_of_states no_state names = nothing
    firsts_of_states (more_states f b until unless s ss) names =
        of_two
        (in_state (firsts_of_block b names) (in_row (firsts_of_conditions until (scope_of b names))) (in_row (firsts_of_conditions unless names)))
        (firsts_of_states ss names)

  abbrev firsts_told : Option Expr → Scope → Instant
  firsts_told None names = nothing
  firsts_told (Some e) names = firsts e names

  abbrev firsts_of_contract : Option Contract → Scope → Instant
  firsts_of_contract None names = nothing
  firsts_of_contract (Some c) names =
      in_observer (firsts_of_block c.body names) (firsts_told c.assume (scope_of c.body names)) (firsts_told c.enforce (scope_of c.body names))

  abbrev in_parts : Instant → Instant → Instant
  in_parts body observer (Body ∷ p) = body p
  in_parts body observer p = observer p

  abbrev pub firsts_of_node : Node → Instant
  firsts_of_node n =
      let seen = typed_in n.inputs (typed_in n.outputs untyped) in
      in_parts (firsts_of_block n.body (typed_in (controls_of n.contract) seen)) (firsts_of_contract n.contract seen)

abbrev pub outputs_declared : Option Node → List Decl
outputs_declared None = []
outputs_declared (Some n) = n.outputs

-- the nodes are given the last one first: each may call those declared before it
abbrev pub firsts_among : List TypeDecl → List Item → List ℕ → Instant
firsts_among types [] f = nothing
firsts_among types (TypeItem t ∷ earlier) f = firsts_among types earlier f
firsts_among types (NodeItem n ∷ earlier) f =
    if bytes_eq n.name f then firsts_of_node types (λ g. outputs_declared (node_among earlier g)) (λ g. firsts_among types earlier g) n else firsts_among types earlier f

-- ---- the filled form

-- what is given, with the first value of its type at each `pre`
abbrev pub with_firsts : List Item → List ℕ → Instant → Instant
with_firsts program f free p = or_else (firsts_among (types_of program) (reverse program) f p) (free p)

-- what the places of the node of this name hold in the filled form
abbrev pub filled_meaning : List Item → List ℕ → List Value → Given → Instant → Instant
filled_meaning program f inputs g now = meaning filled program f inputs (record { past = g.past; free = with_firsts program f g.free }) now
