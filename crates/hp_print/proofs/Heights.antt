-- How many levels an expression has with the parentheses that it needs, and what has a text at all.
use Rattle.std.proofs.Common.{ℕ, suc, max, ◌≤◌, ℤ, pos, negsuc, if◌then◌else◌}
use Rattle.hp_base.specs.declared.ty.Const.{Const}
use Rattle.hp_base.specs.declared.ty.Const.TheVariants as constant
use Rattle.hp_lexer.specs.Spelling.{greatest_number}
use Rattle.hp_tree.specs.Expressions.{Expr, Exprs, Parts, constant, variable, last_of, one, two, choose, pre, fby, arrow, when_is, merge, call, no_expr, more_exprs, no_part, more_parts}
use Rattle.hp_parser.specs.declared.mode.Mode.{Mode}
use Rattle.hp_parser.specs.declared.mode.Mode.TheVariants.{Whole, Plain}
use Rattle.hp_print.specs.Levels.{is_looser, level_of, level_before, level_behind}
use Rattle.hp_print.specs.declared.level.Level.{Level}
use Rattle.hp_print.specs.declared.level.Level.TheVariants.{Sample, Delay, Implication, Unary}

-- parentheses are one level more
abbrev pub tall : Level → Expr → ℕ → ℕ
tall wanted e h = if is_looser (level_of e) wanted then suc h else h

abbrev mutual
  -- how many levels stand above the lowest one
  pub height : Expr → ℕ
  height (constant s c) = 0
  height (variable s x) = 0
  height (last_of s x) = 0
  height (one s op a) = suc (tall Unary a (height a))
  height (two s op a b) = suc (max (tall (level_before op) a (height a)) (tall (level_behind op) b (height b)))
  height (choose s a b c) = suc (max (height a) (max (height b) (height c)))
  height (pre s a) = suc (tall Unary a (height a))
  height (fby s a b) = suc (max (tall Implication a (height a)) (tall Delay b (height b)))
  height (arrow s a b) = suc (max (tall Sample a (height a)) (height b))
  height (when_is s a c x) = suc (tall Sample a (height a))
  height (merge s x ps) = parts_height ps
  height (call s f inlined es) = all_height es

  -- and with the level that stands above them
  pub all_height : Exprs → ℕ
  all_height no_expr = 0
  all_height (more_exprs e es) = max (suc (height e)) (all_height es)

  pub parts_height : Parts → ℕ
  parts_height no_part = 0
  parts_height (more_parts c e ps) = max (suc (height e)) (parts_height ps)

-- a number that may be written
abbrev pub IsNatural : ℤ → Type 0
IsNatural (pos n) = n ≤ greatest_number
IsNatural (negsuc n) = ⊥

abbrev pub IsPlainConstant : Const → Type 0
IsPlainConstant (constant.B b) = Unit {0}
IsPlainConstant (constant.I n) = IsNatural n
IsPlainConstant (constant.E x) = Unit {0}

-- operators on streams stand in whole expressions alone
abbrev pub InWhole : Mode → Type 0
InWhole Whole = Unit {0}
InWhole Plain = ⊥

abbrev pub SomeParts : Parts → Type 0
SomeParts no_part = ⊥
SomeParts (more_parts c e ps) = Unit {0}

-- an expression that may be read: its constants are not negative, a merge has parts, and operators on streams are where they may be
abbrev mutual
  pub Good : Mode → Expr → Type 0
  Good mode (constant s c) = IsPlainConstant c
  Good mode (variable s x) = Unit {0}
  Good mode (last_of s x) = Unit {0}
  Good mode (one s op a) = Good mode a
  Good mode (two s op a b) = Good mode a × Good mode b
  Good mode (choose s a b c) = Good mode a × Good mode b × Good mode c
  Good mode (pre s a) = InWhole mode × Good mode a
  Good mode (fby s a b) = InWhole mode × Good mode a × Good mode b
  Good mode (arrow s a b) = InWhole mode × Good mode a × Good mode b
  Good mode (when_is s a c x) = InWhole mode × Good mode a
  Good mode (merge s x ps) = InWhole mode × SomeParts ps × GoodParts mode ps
  Good mode (call s f inlined es) = InWhole mode × GoodAll mode es

  pub GoodAll : Mode → Exprs → Type 0
  GoodAll mode no_expr = Unit {0}
  GoodAll mode (more_exprs e es) = Good mode e × GoodAll mode es

  pub GoodParts : Mode → Parts → Type 0
  GoodParts mode no_part = Unit {0}
  GoodParts mode (more_parts c e ps) = Good mode e × GoodParts mode ps
