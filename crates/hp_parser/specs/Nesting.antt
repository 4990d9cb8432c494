-- Readings of expressions and of blocks at a nest, and words of what the code reads.
use Rattle.std.specs.Prelude.{ℕ, ◌-◌, ◌≤◌, length, Bool, true, false, List, [], ◌∷◌, map, Option, Some, if◌then◌else◌}
use Rattle.hp_base.specs.declared.span.Span.{Span}
use Rattle.std.specs.List.{All}
use Rattle.hp_parser.specs.declared.reader.Word.{Word}
use Rattle.hp_base.specs.declared.limit.What.{What}
use Rattle.hp_base.specs.declared.ty.Ty.{Ty}
use Rattle.hp_lexer.specs.declared.token.Keyword.{Keyword}
use Rattle.hp_lexer.specs.declared.token.Keyword.TheVariants.{Last, Var, In, State as StateWord}
use Rattle.hp_lexer.specs.declared.token.Sign.TheVariants.{Bar, Comma}
use Rattle.hp_tree.specs.declared.decl.Cons.{Cons}
use Rattle.hp_tree.specs.declared.block.Trans.{Trans}
use Rattle.hp_tree.specs.Blocks.{Decl, Eqn, Block, Arm, State}
use Rattle.hp_parser.specs.Lexemes.{Lexeme, Kinds, is_ahead}
use Rattle.hp_parser.specs.Notation.{Measured, Entry}
use Rattle.hp_parser.specs.Outcomes.{refused}
use Rattle.hp_parser.specs.declared.fault.Fault.TheVariants.{Limit}
use Rattle.hp_parser.specs.declared.mode.Mode.{Mode}
use Rattle.hp_parser.specs.Limits.{has_one}
use Rattle.hp_parser.specs.Tokens.{keyword, sign_of, small}
use Rattle.hp_parser.specs.BlockGrammar.{last_declaration, typed, locals, transition, transitions, Transitions, all_or_none, Left, left, placed, equation, control, switched, arm, branched, arm_behind, restarted, moded, state, body, inner}
use Rattle.hp_parser.specs.declared.equation.Transitions.{Transitions as FoundTransitions}
use Rattle.hp_parser.specs.declared.equation.Left.{Left as FoundLeft}
use Rattle.hp_parser.specs.Grammar.{behind, before, optional, either, many}
use Rattle.hp_parser.specs.Reading.{Reader, reading, read_token, read_convert, read_both, read_entry}
use Rattle.hp_parser.specs.Programs.{expression_of, blocks}

-- Each name is no longer than a name of a source text may be.
pub record AreShort (words : List Word) : Type 0 where
  pub short : All (λ (w : Word). length w.text.now ≤ 255) words

-- expressions of as many levels as there may be
unfoldable pub expression_read : Mode → Reader Measured
expression_read mode = expression_of reading Some 200 mode

-- equations whose blocks are at most so many in each other
unfoldable pub nested : ℕ → Reader (List Eqn)
nested nest = blocks reading Some expression_read nest

-- the tokens that begin a declaration that stands by itself
abbrev pub last_if : Bool → Kinds
last_if true = keyword Last
last_if false = λ k. false

-- one that is read only where a number is left
abbrev pub if_left : {A : Type 0} → What → Option ℕ → Reader A → Reader A
if_left what left read ts = if has_one left then read ts else refused (Limit what) ts

-- a declaration that stands by itself, or names of one type
abbrev pub entry_read : What → Bool → Option ℕ → Reader (Entry Decl Lexeme Ty)
entry_read what may_last left = read_entry what (last_if may_last) (last_declaration reading) (read_token small) (typed reading) left

-- ---- what is read of transitions and of the left side of an equation

abbrev pub first_transition_read : Reader Trans
first_transition_read = either reading (sign_of Bar) (behind reading (sign_of Bar) (transition reading expression_read)) (transition reading expression_read)

-- transitions behind a word, or none
abbrev pub transitions_read : Keyword → Reader (List Trans)
transitions_read word = read_convert all_or_none (optional reading (keyword word) (behind reading (keyword word) (transitions reading expression_read)))

abbrev pub transitions_seen : FoundTransitions → Transitions
transitions_seen t = record { until = t.until.items; unless = t.unless.items }

abbrev pub next_placed_read : Reader (List ℕ × Span)
next_placed_read = read_convert placed (behind reading (sign_of Comma) (read_token small))

abbrev pub placed_names_read : Reader (List (List ℕ × Span))
placed_names_read = either reading small
    (reading.convert (λ r. placed r.0 ∷ map placed r.1) (reading.both (read_token small) (many reading (sign_of Comma) (behind reading (sign_of Comma) (read_token small)))))
    (reading.give [])

abbrev pub one_name_read : Reader Left
one_name_read = read_convert (λ t. record { first = t.span; names = placed t ∷ [] }) (read_token small)

abbrev pub left_read : Reader Left
left_read = left reading expression_read

abbrev pub left_seen : FoundLeft → Left
left_seen l = record { first = l.first; names = l.names.items }

-- declarations in front of `in`, or none
abbrev pub inner_variables_read : Reader (List Decl)
inner_variables_read = read_convert all_or_none (optional reading (keyword Var) (before reading (behind reading (keyword Var) (locals reading)) (keyword In)))

-- ---- the parts of equations at a nest

abbrev pub equation_read : ℕ → Reader Eqn
equation_read nest = equation reading expression_read (Some nest) (nested (nest - 1))

abbrev pub control_read : ℕ → Reader Eqn
control_read nest = control reading expression_read (Some nest) (nested (nest - 1))

abbrev pub switched_read : ℕ → Reader Eqn
switched_read nest = switched reading expression_read (Some nest) (nested (nest - 1))

abbrev pub arm_read : ℕ → Reader Arm
arm_read nest = arm reading expression_read (Some nest) (nested (nest - 1))

-- the arms of a `switch`
abbrev pub arms_read : ℕ → Reader (List Arm)
arms_read nest = read_convert (λ (r : Arm × List Arm). r.0 ∷ r.1) (read_both (arm_read nest) (many reading (sign_of Bar) (arm_read nest)))

abbrev pub branched_read : ℕ → Reader Eqn
branched_read nest = branched reading expression_read (Some nest) (nested (nest - 1))

abbrev pub arm_behind_read : Cons → Keyword → ℕ → Reader Arm
arm_behind_read cons word nest = arm_behind reading expression_read (Some nest) (nested (nest - 1)) cons (keyword word)

abbrev pub restarted_read : ℕ → Reader Eqn
restarted_read nest = restarted reading expression_read (Some nest) (nested (nest - 1))

abbrev pub moded_read : ℕ → Reader Eqn
moded_read nest = moded reading expression_read (Some nest) (nested (nest - 1))

abbrev pub state_read : ℕ → Reader State
state_read nest = state reading expression_read (Some nest) (nested (nest - 1))

-- the states of an automaton
abbrev pub states_read : ℕ → Reader (List State)
states_read nest = read_convert (λ (r : State × List State). r.0 ∷ r.1) (read_both (state_read nest) (many reading (keyword StateWord) (state_read nest)))

abbrev pub body_read : ℕ → Reader Block
body_read nest = body reading expression_read (Some nest) (nested (nest - 1))

abbrev pub inner_read : ℕ → Reader Block
inner_read nest = inner reading expression_read (Some nest) (nested (nest - 1))
