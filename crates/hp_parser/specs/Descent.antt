-- Readings of expressions at a depth, and what the code gives.
use Rattle.std.specs.Prelude.{ℕ, ◌-◌, Bool, true, false, List, [], ◌∷◌, Option, None, Some, if◌then◌else◌, map}
use Rattle.hp_base.specs.declared.limit.What.TheVariants.{Depth}
use Rattle.hp_base.specs.declared.span.Span.{Span}
use Rattle.hp_lexer.specs.declared.token.Sign.TheVariants.{Comma, Open, Close, Arrow}
use Rattle.hp_lexer.specs.declared.token.Keyword.TheVariants.{Merge}
use Rattle.hp_parser.specs.declared.fault.Fault.TheVariants.{Limit}
use Rattle.hp_tree.specs.Expressions.{merge, parts_of}
use Rattle.hp_parser.specs.declared.measured.Measured.{Measured as Found}
use Rattle.hp_parser.specs.declared.measured.Sample.{Sample as FoundSample}
use Rattle.hp_parser.specs.declared.measured.Part.{Part as FoundPart}
use Rattle.hp_parser.specs.declared.mode.Mode.{Mode}
use Rattle.hp_parser.specs.declared.mode.Mode.TheVariants.{Whole}
use Rattle.hp_parser.specs.declared.level.Level.{Level}
use Rattle.hp_parser.specs.declared.level.Level.TheVariants.{Product, Sum, Comparison, Conjunction, Disjunction, Implication, Delay}
use Rattle.hp_parser.specs.Lexemes.{Lexeme, Kinds}
use Rattle.hp_parser.specs.Limits.{has_two}
use Rattle.hp_parser.specs.Notation.{Measured}
use Rattle.hp_parser.specs.Tokens.{is_product, is_sum, is_comparison, is_conjunction, is_disjunction, is_implication, is_delay, is_arrow, sign_of, keyword, small, begins_expression, begins_sample}
use Rattle.hp_parser.specs.Grammar.{Levels, Sample, Part, measured, deepest, last_end, of_operator, of_delay, of_sample, of_arrow, of_call, behind, many, last_value, number_value, constructor_value, named, inlined_call, parentheses, part, atom, disjunction, sample, of_constructor, arrowed, sampled}
use Rattle.hp_parser.specs.Reading.{Reader, reading, read_token, read_both, read_convert, read_either, read_while, read_suffix, suffix_loop}
use Rattle.hp_parser.specs.Outcomes.{done, refused}
use Rattle.hp_parser.specs.Programs.{expressions}

abbrev pub measured_seen : Found → Measured
measured_seen m = record { expr = m.expr; height = m.height; first = m.first; end = m.end }

abbrev pub sample_seen : FoundSample → Sample
sample_seen s = record { cons = s.cons; name = s.name; end = s.end }

abbrev pub part_seen : FoundPart → Part
part_seen p = record { cons = p.cons; value = measured_seen p.value; end = p.end }

-- expressions of at most so many levels
abbrev pub at_depth : Mode → ℕ → Levels Reader
at_depth mode depth = expressions reading Some mode depth

-- what may stand in them
abbrev pub within : Mode → ℕ → Levels Reader
within mode depth = at_depth mode (depth - 1)

-- ---- the parts of a merge

abbrev pub end_of : List Part → ℕ
end_of [] = 0
end_of (p ∷ parts) = last_end p parts

-- a merge of these parts, of which there is one at least
abbrev pub of_parts : Lexeme → Lexeme → List Part → Measured
of_parts first name parts =
    measured first.span (end_of parts) (deepest (map (λ (p : Part). p.value) parts))
    (λ s. merge s name.bytes (parts_of (map (λ (p : Part). (p.cons, p.value.expr)) parts)))

-- ---- the phrases of a depth, each by a name of its own

unfoldable pub number_read : Reader Measured
number_read = number_value reading Whole (Some 0) (at_depth Whole 0)

unfoldable pub constructor_read : Reader Measured
constructor_read = constructor_value reading Whole (Some 0) (at_depth Whole 0)

unfoldable pub last_read : Reader Measured
last_read = last_value reading Whole (Some 0) (at_depth Whole 0)

unfoldable pub sample_read : Reader Sample
sample_read = sample reading Whole (Some 0) (at_depth Whole 0)

unfoldable pub of_constructor_read : Reader Sample
of_constructor_read = of_constructor reading Whole (Some 0) (at_depth Whole 0)

-- the arguments of a call, without its parentheses
unfoldable pub arguments_read : Mode → ℕ → Reader (List Measured)
arguments_read mode depth = read_either Depth (has_two (Some depth)) (begins_expression mode)
    (read_convert (λ r. r.0 ∷ r.1) (read_both (within mode depth).expression (many reading (sign_of Comma) (behind reading (sign_of Comma) (within mode depth).expression))))
    (done [])

unfoldable pub part_read : Mode → ℕ → Reader Part
part_read mode depth = part reading mode (Some depth) (within mode depth)

-- a level of its own for what stands between parentheses
abbrev pub deeper : {A : Type 0} → ℕ → Reader A → Reader A
deeper depth read ts = if has_two (Some depth) then read ts else refused (Limit Depth) ts

unfoldable pub parts_read : Mode → ℕ → Reader (List Part)
parts_read mode depth = read_convert (λ r. r.0 ∷ r.1) (read_both (part_read mode depth) (many reading (sign_of Open) (part_read mode depth)))

unfoldable pub merged_read : Mode → ℕ → Reader Measured
merged_read mode depth = deeper depth (read_convert (λ r. of_parts r.0 r.1.0 r.1.1) (read_both (read_token (keyword Merge)) (read_both (read_token small) (parts_read mode depth))))

unfoldable pub parentheses_read : Mode → ℕ → Reader Measured
parentheses_read mode depth = deeper depth (parentheses reading mode (Some depth) (within mode depth))

-- the parentheses of a call of a node of this name, from a place on
unfoldable pub call_read : Mode → ℕ → Span → Bool → Lexeme → Reader Measured
call_read mode depth first inlined name =
    read_convert (λ r. of_call first inlined name r.0 r.1) (behind reading (sign_of Open) (read_both (arguments_read mode depth) (read_token (sign_of Close))))

unfoldable pub named_read : Mode → ℕ → Reader Measured
named_read mode depth = named reading mode (Some depth) (within mode depth)

unfoldable pub inlined_read : Mode → ℕ → Reader Measured
inlined_read mode depth = inlined_call reading mode (Some depth) (within mode depth)

unfoldable pub atom_read : Mode → ℕ → Reader Measured
atom_read mode depth = atom reading mode (Some depth) (within mode depth)

unfoldable pub disjunction_read : Mode → ℕ → Reader Measured
disjunction_read mode depth = disjunction reading mode (Some depth) (within mode depth)

unfoldable pub sampled_read : Mode → ℕ → Reader Measured
sampled_read mode depth = sampled reading mode (Some depth) (within mode depth)

-- what stands behind an operand: samples
unfoldable pub samples_read : Mode → ℕ → Measured → Reader Measured
samples_read mode depth m = read_while (suffix_loop (begins_sample mode) of_sample (Some depth) sample_read) m

unfoldable pub arrowed_read : Mode → ℕ → Reader Measured
arrowed_read mode depth = arrowed reading mode (Some depth) (within mode depth)

-- what stands behind that: perhaps an arrow
unfoldable pub arrow_read : Mode → ℕ → Measured → Reader Measured
arrow_read mode depth m = read_suffix (is_arrow mode) of_arrow (Some depth) (read_both (read_token (sign_of Arrow)) (within mode depth).expression) m

-- ---- the levels of operators between operands

abbrev pub level_read : Mode → ℕ → Level → Reader Measured
level_read mode depth Product = (at_depth mode depth).product
level_read mode depth Sum = (at_depth mode depth).sum
level_read mode depth Comparison = (at_depth mode depth).comparison
level_read mode depth Conjunction = (at_depth mode depth).conjunction
level_read mode depth Disjunction = disjunction_read mode depth
level_read mode depth Implication = (at_depth mode depth).implication
level_read mode depth Delay = (at_depth mode depth).delayed

-- an operand: a level of operators, or the one below all of them
abbrev pub operand_read : Mode → ℕ → Option Level → Reader Measured
operand_read mode depth None = (at_depth mode depth).unary
operand_read mode depth (Some level) = level_read mode depth level

-- the level below
abbrev pub below : Level → Option Level
below Product = None
below Sum = Some Product
below Comparison = Some Sum
below Conjunction = Some Comparison
below Disjunction = Some Conjunction
below Implication = Some Disjunction
below Delay = Some Implication

-- the level of the operand behind an operator
abbrev pub behind_operator : Level → Option Level
behind_operator Implication = Some Implication
behind_operator Delay = Some Delay
behind_operator level = below level

-- any number of operators may stand behind an operand
abbrev pub is_repeated : Level → Bool
is_repeated Comparison = false
is_repeated Implication = false
is_repeated Delay = false
is_repeated level = true

abbrev pub operators : Mode → Level → Kinds
operators mode Product = is_product
operators mode Sum = is_sum
operators mode Comparison = is_comparison
operators mode Conjunction = is_conjunction
operators mode Disjunction = is_disjunction
operators mode Implication = is_implication
operators mode Delay = is_delay mode

abbrev pub joined_by : Level → Measured → Lexeme × Measured → Measured
joined_by Delay = of_delay
joined_by level = of_operator

-- an operator with its operand, behind another operand
unfoldable pub joined_read : Mode → ℕ → Level → Measured → Reader Measured
joined_read mode depth level a =
    read_convert (joined_by level a) (read_both (read_token (operators Whole level)) (operand_read mode (depth - 1) (behind_operator level)))

-- what may stand behind an operand
unfoldable pub more_read : Mode → ℕ → Level → Measured → Reader Measured
more_read mode depth level =
    if is_repeated level
    then read_while (suffix_loop (operators mode level) (joined_by level) (Some depth) (read_both (read_token (operators Whole level)) (operand_read mode (depth - 1) (behind_operator level))))
    else read_suffix (operators mode level) (joined_by level) (Some depth) (read_both (read_token (operators Whole level)) (operand_read mode (depth - 1) (behind_operator level)))
