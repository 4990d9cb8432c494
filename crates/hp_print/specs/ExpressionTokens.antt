-- The tokens of an expression, with the parentheses that its parts need.
use Rattle.std.specs.Prelude.{ℕ, Bool, true, false, List, [], ◌∷◌, ◌++◌, if◌then◌else◌}
use Rattle.hp_lexer.specs.Written.{Written}
use Rattle.hp_lexer.specs.declared.token.Keyword.TheVariants as key
use Rattle.hp_lexer.specs.declared.token.Sign.TheVariants as mark
use Rattle.hp_print.specs.Tokens.{word, sign, small, cons_token, constant_tokens}
use Rattle.hp_print.specs.Levels.{is_looser, level_of, level_before, level_behind}
use Rattle.hp_print.specs.declared.level.Level.{Level}
use Rattle.hp_print.specs.declared.level.Level.TheVariants.{Sample, Delay, Implication, Unary}
use Rattle.hp_tree.specs.declared.decl.Cons.{Cons}
use Rattle.hp_tree.specs.Expressions.{Expr, Exprs, Parts, constant, variable, last_of, one, two, choose, pre, fby, arrow, when_is, merge, call, no_expr, more_exprs, no_part, more_parts}
use Rattle.hp_tree.specs.declared.expr.Op1.{Op1}
use Rattle.hp_tree.specs.declared.expr.Op1.TheVariants.{Not, Neg}
use Rattle.hp_tree.specs.declared.expr.Op2.{Op2}
use Rattle.hp_tree.specs.declared.expr.Op2.TheVariants.{And, Or, Xor, Imp, Eq, Ne, Lt, Le, Gt, Ge, Add, Sub, Mul, Div, Rem}

abbrev pub prefix_token : Op1 → Written
prefix_token Not = word key.Not
prefix_token Neg = sign mark.Minus

abbrev pub operator_token : Op2 → Written
operator_token And = sign mark.And
operator_token Or = word key.Or
operator_token Xor = word key.Xor
operator_token Imp = sign mark.Implies
operator_token Eq = sign mark.Equal
operator_token Ne = sign mark.Unequal
operator_token Lt = sign mark.Less
operator_token Le = sign mark.AtMost
operator_token Gt = sign mark.Greater
operator_token Ge = sign mark.AtLeast
operator_token Add = sign mark.Plus
operator_token Sub = sign mark.Minus
operator_token Mul = sign mark.Star
operator_token Div = sign mark.Slash
operator_token Rem = sign mark.Percent

abbrev pub in_parentheses : List Written → List Written
in_parentheses tokens = sign mark.Open ∷ (tokens ++ (sign mark.Close ∷ []))

-- the tokens of an expression where one of a level is wanted: in parentheses where its own level is looser
abbrev pub at_level : Level → Expr → List Written → List Written
at_level wanted e tokens = if is_looser (level_of e) wanted then in_parentheses tokens else tokens

abbrev pub inlined_tokens : Bool → List Written
inlined_tokens true = word key.Inlined ∷ []
inlined_tokens false = []

-- `c ( x )`
abbrev pub of_constructor_tokens : Cons → List ℕ → List Written
of_constructor_tokens c x = cons_token c ∷ (sign mark.Open ∷ (small x ∷ (sign mark.Close ∷ [])))

abbrev mutual
  pub expression_tokens : Expr → List Written
  expression_tokens (constant s c) = constant_tokens c
  expression_tokens (variable s x) = small x ∷ []
  expression_tokens (last_of s x) = word key.Last ∷ (small x ∷ [])
  expression_tokens (one s op a) = prefix_token op ∷ at_level Unary a (expression_tokens a)
  expression_tokens (two s op a b) =
      at_level (level_before op) a (expression_tokens a) ++ (operator_token op ∷ at_level (level_behind op) b (expression_tokens b))
  expression_tokens (choose s a b c) =
      word key.If ∷ (expression_tokens a ++ (word key.Then ∷ (expression_tokens b ++ (word key.Else ∷ expression_tokens c))))
  expression_tokens (pre s a) = word key.Pre ∷ at_level Unary a (expression_tokens a)
  expression_tokens (fby s a b) = at_level Implication a (expression_tokens a) ++ (word key.Fby ∷ at_level Delay b (expression_tokens b))
  expression_tokens (arrow s a b) = at_level Sample a (expression_tokens a) ++ (sign mark.Arrow ∷ expression_tokens b)
  expression_tokens (when_is s a c x) =
      at_level Sample a (expression_tokens a) ++ (word key.When ∷ of_constructor_tokens c x)
  expression_tokens (merge s x ps) = word key.Merge ∷ (small x ∷ parts_tokens ps)
  expression_tokens (call s f inlined es) =
      inlined_tokens inlined ++ (small f ∷ (sign mark.Open ∷ (arguments_tokens es ++ (sign mark.Close ∷ []))))

  pub parts_tokens : Parts → List Written
  parts_tokens no_part = []
  parts_tokens (more_parts c e ps) =
      sign mark.Open ∷ (cons_token c ∷ (sign mark.Arrow ∷ (expression_tokens e ++ (sign mark.Close ∷ parts_tokens ps))))

  pub arguments_tokens : Exprs → List Written
  arguments_tokens no_expr = []
  arguments_tokens (more_exprs e es) = expression_tokens e ++ more_arguments_tokens es

  -- those behind the first
  pub more_arguments_tokens : Exprs → List Written
  more_arguments_tokens no_expr = []
  more_arguments_tokens (more_exprs e es) = sign mark.Comma ∷ (expression_tokens e ++ more_arguments_tokens es)

-- the tokens of an operand
abbrev pub operand_tokens : Level → Expr → List Written
operand_tokens wanted e = at_level wanted e (expression_tokens e)
