-- Which tokens there are, and what one token stands for.
use Rattle.std.specs.Prelude.{ℕ, ◌+◌, ◌*◌, ◌-◌, true, false, ◌||◌, ◌==◌, List, fold, pos, neg_ℤ}
use Rattle.hp_lexer.specs.declared.token.TokenKind.{TokenKind}
use Rattle.hp_lexer.specs.declared.token.TokenKind.TheVariants as kind
use Rattle.hp_lexer.specs.declared.token.Keyword.{Keyword}
use Rattle.hp_lexer.specs.declared.token.Keyword.TheVariants as word
use Rattle.hp_lexer.specs.declared.token.Sign.{Sign}
use Rattle.hp_lexer.specs.declared.token.Sign.TheVariants as sign
use Rattle.hp_base.specs.declared.ty.Ty.{Ty}
use Rattle.hp_base.specs.declared.ty.Ty.TheVariants as ty
use Rattle.hp_base.specs.declared.ty.Const.{Const}
use Rattle.hp_base.specs.declared.ty.Const.TheVariants as constant
use Rattle.hp_tree.specs.declared.decl.Cons.{Cons}
use Rattle.hp_tree.specs.declared.decl.Cons.TheVariants as cons
use Rattle.hp_tree.specs.declared.expr.Op2.{Op2}
use Rattle.hp_tree.specs.declared.expr.Op2.TheVariants as op
use Rattle.hp_parser.specs.declared.mode.Mode.{Mode}
use Rattle.hp_parser.specs.declared.mode.Mode.TheVariants.{Whole, Plain}
use Rattle.hp_parser.specs.Lexemes.{Lexeme, Kinds}

-- each keyword and each sign has a number of its own
abbrev pub keyword_number : Keyword → ℕ
keyword_number word.Assume = 0
keyword_number word.Automaton = 1
keyword_number word.Bool = 2
keyword_number word.Continue = 3
keyword_number word.Contract = 4
keyword_number word.Do = 5
keyword_number word.Else = 6
keyword_number word.End = 7
keyword_number word.Enforce = 8
keyword_number word.Every = 9
keyword_number word.False = 10
keyword_number word.Fby = 11
keyword_number word.If = 12
keyword_number word.In = 13
keyword_number word.Inlined = 14
keyword_number word.Int = 15
keyword_number word.Last = 16
keyword_number word.Let = 17
keyword_number word.Merge = 18
keyword_number word.Node = 19
keyword_number word.Not = 20
keyword_number word.On = 21
keyword_number word.Or = 22
keyword_number word.Pre = 23
keyword_number word.Reset = 24
keyword_number word.Returns = 25
keyword_number word.State = 26
keyword_number word.Switch = 27
keyword_number word.Tel = 28
keyword_number word.Then = 29
keyword_number word.True = 30
keyword_number word.Type = 31
keyword_number word.Unless = 32
keyword_number word.Until = 33
keyword_number word.Var = 34
keyword_number word.When = 35
keyword_number word.Whenot = 36
keyword_number word.With = 37
keyword_number word.Xor = 38

abbrev pub sign_number : Sign → ℕ
sign_number sign.Open = 0
sign_number sign.Close = 1
sign_number sign.Comma = 2
sign_number sign.Semicolon = 3
sign_number sign.Colon = 4
sign_number sign.Equal = 5
sign_number sign.Unequal = 6
sign_number sign.Less = 7
sign_number sign.AtMost = 8
sign_number sign.Greater = 9
sign_number sign.AtLeast = 10
sign_number sign.Plus = 11
sign_number sign.Minus = 12
sign_number sign.Star = 13
sign_number sign.Slash = 14
sign_number sign.Percent = 15
sign_number sign.And = 16
sign_number sign.AndAnd = 17
sign_number sign.Bar = 18
sign_number sign.BarBar = 19
sign_number sign.Arrow = 20
sign_number sign.Implies = 21

-- ---- sets of tokens

abbrev pub keyword : Keyword → Kinds
keyword w (kind.Keyword v) = keyword_number w == keyword_number v
keyword w k = false

abbrev pub sign_of : Sign → Kinds
sign_of s (kind.Sign t) = sign_number s == sign_number t
sign_of s k = false

abbrev pub small : Kinds
small kind.Small = true
small k = false

abbrev pub capital : Kinds
capital kind.Capital = true
capital k = false

abbrev pub number : Kinds
number kind.Number = true
number k = false

abbrev pub constructor : Kinds
constructor k = capital k || keyword word.True k || keyword word.False k

abbrev pub type_name : Kinds
type_name k = small k || keyword word.Bool k || keyword word.Int k

-- the word `fby` and others stand in whole expressions, but not in the plain ones that are conditions of transitions
abbrev pub only_whole : Mode → Kinds → Kinds
only_whole Whole kinds k = kinds k
only_whole Plain kinds k = false

abbrev pub prefix : Mode → Kinds
prefix mode k = keyword word.Not k || sign_of sign.Minus k || only_whole mode (keyword word.Pre) k

-- what begins an operand
abbrev pub begins_atom : Mode → Kinds
begins_atom mode k =
    small k || constructor k || number k || sign_of sign.Open k || keyword word.Last k || only_whole mode (λ l. keyword word.Merge l || keyword word.Inlined l) k

abbrev pub begins_expression : Mode → Kinds
begins_expression mode k = keyword word.If k || prefix mode k || begins_atom mode k

abbrev pub begins_sample : Mode → Kinds
begins_sample mode = only_whole mode (λ k. keyword word.When k || keyword word.Whenot k)

-- what begins an equation that has blocks in it
abbrev pub begins_control : Kinds
begins_control k = keyword word.Switch k || keyword word.If k || keyword word.Reset k || keyword word.Automaton k

abbrev pub begins_equation : Kinds
begins_equation k = small k || sign_of sign.Open k || begins_control k

abbrev pub begins_declaration : Kinds
begins_declaration k = small k || keyword word.Last k

abbrev pub begins_item : Kinds
begins_item k = keyword word.Type k || keyword word.Node k

-- ---- operators of two operands

abbrev pub is_product : Kinds
is_product k = sign_of sign.Star k || sign_of sign.Slash k || sign_of sign.Percent k

abbrev pub is_sum : Kinds
is_sum k = sign_of sign.Plus k || sign_of sign.Minus k

abbrev pub is_comparison : Kinds
is_comparison k =
    sign_of sign.Equal k || sign_of sign.Unequal k || sign_of sign.Less k || sign_of sign.AtMost k || sign_of sign.Greater k || sign_of sign.AtLeast k

abbrev pub is_conjunction : Kinds
is_conjunction k = sign_of sign.And k || sign_of sign.AndAnd k

abbrev pub is_disjunction : Kinds
is_disjunction k = keyword word.Or k || sign_of sign.BarBar k || keyword word.Xor k

abbrev pub is_implication : Kinds
is_implication = sign_of sign.Implies

abbrev pub is_delay : Mode → Kinds
is_delay mode = only_whole mode (keyword word.Fby)

abbrev pub is_arrow : Mode → Kinds
is_arrow mode = only_whole mode (sign_of sign.Arrow)

-- the operator that a token of these kinds is
abbrev pub operator_of : TokenKind → Op2
operator_of (kind.Sign sign.Star) = op.Mul
operator_of (kind.Sign sign.Slash) = op.Div
operator_of (kind.Sign sign.Percent) = op.Rem
operator_of (kind.Sign sign.Plus) = op.Add
operator_of (kind.Sign sign.Minus) = op.Sub
operator_of (kind.Sign sign.Equal) = op.Eq
operator_of (kind.Sign sign.Unequal) = op.Ne
operator_of (kind.Sign sign.Less) = op.Lt
operator_of (kind.Sign sign.AtMost) = op.Le
operator_of (kind.Sign sign.Greater) = op.Gt
operator_of (kind.Sign sign.AtLeast) = op.Ge
operator_of (kind.Sign sign.And) = op.And
operator_of (kind.Sign sign.AndAnd) = op.And
operator_of (kind.Sign sign.BarBar) = op.Or
operator_of (kind.Keyword word.Or) = op.Or
operator_of (kind.Keyword word.Xor) = op.Xor
operator_of k = op.Imp

-- ---- what a token stands for

abbrev pub type_spelled : TokenKind → List ℕ → Ty
type_spelled (kind.Keyword word.Bool) x = ty.Bool
type_spelled (kind.Keyword word.Int) x = ty.Int
type_spelled k x = ty.Enum x

abbrev pub type_of : Lexeme → Ty
type_of t = type_spelled t.kind t.bytes

abbrev pub constructor_spelled : TokenKind → List ℕ → Cons
constructor_spelled (kind.Keyword word.False) x = cons.False
constructor_spelled (kind.Keyword word.True) x = cons.True
constructor_spelled k x = cons.Named x

abbrev pub constructor_of : Lexeme → Cons
constructor_of t = constructor_spelled t.kind t.bytes

abbrev pub constant_of : Cons → Const
constant_of cons.False = constant.B false
constant_of cons.True = constant.B true
constant_of (cons.Named x) = constant.E x

-- the number that decimal digits spell
abbrev pub number_of : Lexeme → ℕ
number_of t = fold (λ n b. 10 * n + (b - 48)) 0 t.bytes

abbrev pub positive : Lexeme → Const
positive t = constant.I (pos (number_of t))

abbrev pub negative : Lexeme → Const
negative t = constant.I (neg_ℤ (pos (number_of t)))
