-- How automata are removed from a program, one equation for one equation.
--
-- An automaton becomes `reset .. every false`, whose block has words of its own. A jump to the state n is the number 2 n, and with a restart
-- 2 n + 1, so that one word says which state is next and whether it is entered afresh.
-- Each link of a chain has a word of its own, so that no expression gets deep: each strong transition, each state for the jump that it and
-- the states behind it choose, each weak transition, and each state for what it and those behind it hand on of the next jump and of the value
-- of a name. A state that is not active hands on what the one behind it has.
use Rattle.std.specs.Prelude.{ℕ, ◌+◌, nat_lt, pos, Bool, true, false, if◌then◌else◌, List, [], ◌∷◌, ◌++◌, length, map, Option, None, Some, option_map}
use Rattle.hp_base.specs.declared.span.Span.{Span}
use Rattle.hp_base.specs.declared.ty.Ty.{Ty}
use Rattle.hp_base.specs.declared.ty.Ty.TheVariants as ty
use Rattle.hp_base.specs.declared.ty.Const.{Const}
use Rattle.hp_base.specs.declared.ty.Const.TheVariants as const
use Rattle.hp_base.specs.Known.Known.{lookup, with_entry}
use Rattle.hp_tree.specs.declared.block.Trans.{Trans}
use Rattle.hp_tree.specs.declared.decl.Cons.TheVariants.{False, True}
use Rattle.hp_tree.specs.declared.expr.Op2.TheVariants.{Or, Eq}
use Rattle.hp_tree.specs.declared.program.Item.{Item}
use Rattle.hp_tree.specs.declared.program.Item.TheVariants.{TypeItem, NodeItem}
use Rattle.hp_tree.specs.Expressions.{Expr, constant, variable, last_of, two, choose}
use Rattle.hp_tree.specs.Blocks.{Decl, Block, block, Eqns, no_eqn, more_eqns, Eqn, define, switch, reset, automaton, Arms, no_arm, more_arms, States, no_state, more_states, eqns_of}
use Rattle.hp_tree.specs.Programs.{TypeDecl, Contract, Node}
use Rattle.hp_tree.specs.Meaning.{number_of}
use Rattle.hp_automata.specs.declared.new_names.Word.{Word}
use Rattle.hp_automata.specs.declared.new_names.Word.TheVariants.{Jump, Next, From, On, Strong, Weak}
use Rattle.hp_automata.specs.NewNames.{word_name, state_word, transition_word, value_name}
use Rattle.hp_tables.specs.Defining.Names.{names_of_arms, names_of_states, outer_names}
use Rattle.hp_automata.specs.Names.{is_name, once, missing}
use Rattle.hp_automata.specs.Renaming.{renamed, renamed_decls, renamed_left}

-- ---- what is known

-- the types of variables, and the enumerations of the program, by name
abbrev pub Types : Type 0
Types = List (List ℕ × Ty)

abbrev pub Enumerations : Type 0
Enumerations = List (List ℕ × TypeDecl)

abbrev pub declaring : Types → List Decl → Types
declaring types [] = types
declaring types (d ∷ ds) = declaring (with_entry types d.name d.ty) ds

abbrev pub with_item : Enumerations → Item → Enumerations
with_item known (TypeItem t) = with_entry known t.name t
with_item known (NodeItem n) = known

abbrev pub enumerations : Enumerations → List Item → Enumerations
enumerations known [] = known
enumerations known (item ∷ items) = enumerations (with_item known item) items

abbrev pub first_of : List (List ℕ) → List ℕ
first_of [] = []
first_of (c ∷ cs) = c

abbrev pub first_constructor : Option TypeDecl → List ℕ
first_constructor None = []
first_constructor (Some t) = first_of t.cons

-- a constant of each type
abbrev pub some_constant : Enumerations → Ty → Const
some_constant enums ty.Bool = const.B false
some_constant enums ty.Int = const.I (pos 0)
some_constant enums (ty.Enum t) = const.E (first_constructor (lookup enums t))

abbrev pub type_or_bool : Option Ty → Ty
type_or_bool None = ty.Bool
type_or_bool (Some t) = t

-- the type of a name that is in scope
abbrev pub type_of : Types → List ℕ → Ty
type_of types x = type_or_bool (lookup types x)

-- What the parts of an automaton know of it: its place, how many automata are around it, how many states it has, the number of each state,
-- and the names that it defines.
pub record Frame : Type 0 where
  pub at : Span
  pub depth : ℕ
  pub count : ℕ
  pub target : List ℕ → ℕ
  pub names : List (List ℕ)

-- in the state k the names that the automaton defines have values of that state
abbrev pub inner : (List ℕ → List ℕ) → Frame → ℕ → List ℕ → List ℕ
inner to f k x = if is_name f.names x then value_name f.depth k x else to x

-- ---- expressions, equations and declarations

abbrev pub number : Span → ℕ → Expr
number s n = constant s (const.I (pos n))

-- the number of a jump
abbrev pub code : ℕ → Bool → ℕ
code k restart = if restart then (k + k) + 1 else k + k

-- whether a jump is to this state
abbrev pub goes_to : Span → Expr → ℕ → Expr
goes_to s e k = two s Or (two s Eq e (number s (code k false))) (two s Eq e (number s (code k true)))

-- the word number k of so many, or what stands behind the last
abbrev pub link : Span → ℕ → (ℕ → List ℕ) → Expr → ℕ → Expr
link s n named end k = if nat_lt k n then variable s (named k) else end

abbrev pub defining : Span → List ℕ → Expr → Eqn
defining s x e = define s ((x, s) ∷ []) e

-- a variable on the base clock
abbrev pub on_base : Span → List ℕ → Ty → Option Const → Decl
on_base s x t first = record { name = x; ty = t; last = first; clock = Some []; span = s }

-- the jump of this instant, and the one that is pending from the instant before
abbrev pub jump_of : Frame → Expr
jump_of f = variable f.at (word_name Jump f.depth)

abbrev pub pending_of : Frame → Expr
pending_of f = last_of f.at (word_name Next f.depth)

-- ---- transitions

-- The words of some transitions of the state k, from the number j on: each is the jump that the transitions from it on choose.
abbrev pub transition_locals : Frame → Word → ℕ → ℕ → List Trans → List Decl
transition_locals f w k j [] = []
transition_locals f w k j (t ∷ ts) = on_base t.span (transition_word w f.depth k j) ty.Int None ∷ transition_locals f w k (j + 1) ts

-- the first of so many transitions of the state k, from the number j on, whose condition is true, or what stands behind the last
abbrev pub chosen : Frame → Word → ℕ → ℕ → Expr → ℕ → Expr
chosen f w k n end j = link f.at n (transition_word w f.depth k) end j

abbrev pub choice : (List ℕ → List ℕ) → Frame → Word → ℕ → ℕ → Expr → ℕ → Trans → Eqn
choice to f w k n end j t =
    defining f.at (transition_word w f.depth k j)
    (choose f.at (renamed to t.cond) (number f.at (code (f.target t.target) t.restart)) (chosen f w k n end (j + 1)))

abbrev pub choices : (List ℕ → List ℕ) → Frame → Word → ℕ → ℕ → Expr → ℕ → List Trans → List Eqn
choices to f w k n end j [] = []
choices to f w k n end j (t ∷ ts) = choice to f w k n end j t ∷ choices to f w k n end (j + 1) ts

-- ---- the words of states

abbrev pub value_local : Types → Frame → ℕ → List ℕ → Decl
value_local types f k x = on_base f.at (value_name f.depth k x) (type_of types x) None

abbrev pub state_words : Frame → ℕ → List Decl
state_words f k =
    on_base f.at (state_word From f.depth k) ty.Int None ∷ on_base f.at (state_word On f.depth k) ty.Bool None ∷ on_base f.at (state_word Next f.depth k) ty.Int None ∷ []

abbrev pub state_locals : Types → Frame → ℕ → List Trans → List Decl
state_locals types f k unless = state_words f k ++ (transition_locals f Strong k 0 unless ++ map (value_local types f k) f.names)

abbrev pub locals_from : Types → Frame → ℕ → States → List Decl
locals_from types f k no_state = []
locals_from types f k (more_states q b until unless at ss) = state_locals types f k unless ++ locals_from types f (k + 1) ss

-- the words of an automaton: the next jump, which is to the first state before the first instant, and the jump of this instant
abbrev pub frame_words : Frame → List Decl
frame_words f = on_base f.at (word_name Next f.depth) ty.Int (Some (const.I (pos 0))) ∷ on_base f.at (word_name Jump f.depth) ty.Int None ∷ []

abbrev pub frame_locals : Types → Frame → States → List Decl
frame_locals types f ss = frame_words f ++ locals_from types f 0 ss

-- what the states from k on hand on of a word, or what stands behind the last
abbrev pub handed : Frame → Word → Expr → ℕ → Expr
handed f w end k = link f.at f.count (state_word w f.depth) end k

-- what a state that is not active hands on
abbrev pub idle_next : Frame → ℕ → Eqn
idle_next f k = defining f.at (state_word Next f.depth k) (handed f Next (number f.at 0) (k + 1))

module _ (enums : Enumerations) where
  -- and of the value of a name: behind the last state stands a constant
  abbrev pub value_handed : Types → Frame → ℕ → List ℕ → Expr
  value_handed types f k x = link f.at f.count (λ m. value_name f.depth m x) (constant f.at (some_constant enums (type_of types x))) k

  -- a name that the automaton defines
  abbrev pub joined : (List ℕ → List ℕ) → Types → Frame → List ℕ → Eqn
  joined to types f x = defining f.at (to x) (value_handed types f 0 x)

  abbrev pub idle_value : Types → Frame → ℕ → List ℕ → Eqn
  idle_value types f k x = defining f.at (value_name f.depth k x) (value_handed types f (k + 1) x)

  abbrev pub idle : Types → Frame → ℕ → Block
  idle types f k = block [] (eqns_of (idle_next f k ∷ map (idle_value types f k) f.names))

-- The jump that the states from k on choose, where one of them is selected: what the transitions of the state choose, or the states behind it.
abbrev pub from_eqn : Frame → ℕ → Word → ℕ → Expr → Eqn
from_eqn f k w n end =
    defining f.at (state_word From f.depth k) (choose f.at (goes_to f.at end k) (chosen f w k n end 0) (handed f From end (k + 1)))

abbrev pub on_word : Frame → ℕ → Eqn
on_word f k = defining f.at (state_word On f.depth k) (goes_to f.at (jump_of f) k)

-- the body of a state begins anew inside the arm in which it is there
abbrev pub afresh : Frame → ℕ → Block → Eqn
afresh f k body = reset f.at body (two f.at Eq (jump_of f) (number f.at (code k true)))

abbrev pub state_switch : Frame → ℕ → Block → Block → Eqn
state_switch f k body other =
    switch f.at (variable f.at (state_word On f.depth k))
    (more_arms True (block [] (more_eqns (afresh f k body) no_eqn)) f.at (more_arms False other f.at no_arm))

-- the equations of the state k, with its body and with what it hands on
abbrev pub strong_eqns : (List ℕ → List ℕ) → Frame → ℕ → List Trans → List Eqn
strong_eqns to f k unless = choices to f Strong k (length unless) (pending_of f) 0 unless ++ from_eqn f k Strong (length unless) (pending_of f) ∷ []

abbrev pub choosing_eqns : (List ℕ → List ℕ) → Frame → ℕ → List Trans → List Eqn
choosing_eqns to f k unless = strong_eqns to f k unless ++ on_word f k ∷ []

abbrev pub state_eqns : (List ℕ → List ℕ) → Frame → ℕ → List Trans → Block → Block → List Eqn
state_eqns to f k unless body other = choosing_eqns to f k unless ++ state_switch f k body other ∷ []

-- the first equations of the body of a state: its weak transitions, and its next jump, which is to itself where none is taken
abbrev pub own_next : Frame → ℕ → Word → ℕ → Expr → Eqn
own_next f k w n end = defining f.at (state_word Next f.depth k) (chosen f w k n end 0)

abbrev pub stays : Frame → ℕ → Expr
stays f k = number f.at (code k false)

abbrev pub weak_eqns : (List ℕ → List ℕ) → Frame → ℕ → List Trans → List Eqn
weak_eqns to f k until = choices to f Weak k (length until) (stays f k) 0 until ++ own_next f k Weak (length until) (stays f k) ∷ []

-- the equations of the automaton itself
abbrev pub jump_eqn : Frame → Eqn
jump_eqn f = defining f.at (word_name Jump f.depth) (handed f From (pending_of f) 0)

abbrev pub next_eqn : Frame → Eqn
next_eqn f = defining f.at (word_name Next f.depth) (handed f Next (number f.at 0) 0)

abbrev pub frame_eqns : Enumerations → (List ℕ → List ℕ) → Types → Frame → List Eqn
frame_eqns enums to types f = jump_eqn f ∷ next_eqn f ∷ map (joined enums to types f) f.names

-- ---- blocks

-- a name that keeps its last value
abbrev pub kept : (List ℕ → List ℕ) → Span → List ℕ → Eqn
kept to s x = defining s (to x) (last_of s x)

-- the names that a block leaves to their last values
abbrev pub all_kept : (List ℕ → List ℕ) → Span → List (List ℕ) → Block → List Eqn
all_kept to s xs b = map (kept to s) (missing (is_name (outer_names b)) xs)

abbrev pub count_of : States → ℕ
count_of no_state = 0
count_of (more_states q b until unless at ss) = count_of ss + 1

abbrev pub frame : Span → ℕ → States → Frame
frame s d ss = record { at = s; depth = d; count = count_of ss; target = number_of 0 ss; names = once (names_of_states ss) }

module _ (enums : Enumerations) where
  -- A part, where these names stand for names, these types are known, and there are so many automata around. A block also defines the names
  -- `xs` that it left to their last values.
  abbrev mutual
    pub lowered_block : (List ℕ → List ℕ) → Types → ℕ → Span → List (List ℕ) → Block → Block
    lowered_block to types d s xs (block ds es) =
        block (renamed_decls to ds) (eqns_of (lowered_eqns to (declaring types ds) d es ++ all_kept to s xs (block ds es)))

    pub lowered_eqns : (List ℕ → List ℕ) → Types → ℕ → Eqns → List Eqn
    lowered_eqns to types d no_eqn = []
    lowered_eqns to types d (more_eqns e es) = lowered_eqn to types d e ∷ lowered_eqns to types d es

    pub lowered_eqn : (List ℕ → List ℕ) → Types → ℕ → Eqn → Eqn
    lowered_eqn to types d (define s ys e) = define s (renamed_left to ys) (renamed to e)
    lowered_eqn to types d (switch s e arms) = switch s (renamed to e) (lowered_arms to types d (once (names_of_arms arms)) arms)
    lowered_eqn to types d (reset s b e) = reset s (lowered_block to types d s [] b) (renamed to e)
    lowered_eqn to types d (automaton s ss) =
        let f = frame s d ss in
        reset s (block (frame_locals types f ss) (eqns_of (frame_eqns enums to types f ++ lowered_states to types f 0 ss))) (constant s (const.B false))

    -- the arms of a `switch` that defines these names
    pub lowered_arms : (List ℕ → List ℕ) → Types → ℕ → List (List ℕ) → Arms → Arms
    lowered_arms to types d xs no_arm = no_arm
    lowered_arms to types d xs (more_arms c b at arms) = more_arms c (lowered_block to types d at xs b) at (lowered_arms to types d xs arms)

    -- the equations of the states, from the number k on
    pub lowered_states : (List ℕ → List ℕ) → Types → Frame → ℕ → States → List Eqn
    lowered_states to types f k no_state = []
    lowered_states to types f k (more_states q b until unless at ss) =
        state_eqns to f k unless (lowered_body to types f k b until) (idle enums types f k) ++ lowered_states to types f (k + 1) ss

    -- the body of a state: its weak transitions are read there
    pub lowered_body : (List ℕ → List ℕ) → Types → Frame → ℕ → Block → List Trans → Block
    lowered_body to types f k (block ds es) until =
        let in_state = inner to f k in
        block (renamed_decls in_state ds ++ transition_locals f Weak k 0 until)
        (eqns_of (weak_eqns in_state f k until ++ (lowered_eqns in_state (declaring types ds) (f.depth + 1) es ++ all_kept in_state f.at f.names (block ds es))))

-- ---- programs

abbrev pub same_name : List ℕ → List ℕ
same_name x = x

-- a block of its own, where these variables are around
abbrev pub lowered_body_of : Enumerations → Types → Span → Block → Block
lowered_body_of enums types s b = lowered_block enums same_name types 0 s [] b

abbrev pub lowered_contract : Enumerations → Types → Contract → Contract
lowered_contract enums types c = record c { body = lowered_body_of enums types c.span c.body }

abbrev pub types_of : Node → Types
types_of n = declaring (declaring [] n.inputs) n.outputs

-- the conditions of a contract hold no automaton
abbrev pub lowered_node : Enumerations → Node → Node
lowered_node enums n = record n {
  contract = option_map (lowered_contract enums (types_of n)) n.contract;
  body = lowered_body_of enums (types_of n) n.span n.body;
}

abbrev pub lowered_item : Enumerations → Item → Item
lowered_item enums (TypeItem t) = TypeItem t
lowered_item enums (NodeItem n) = NodeItem (lowered_node enums n)

-- the program without automata
abbrev pub lowered_program : List Item → List Item
lowered_program items = map (lowered_item (enumerations [] items)) items
