-- How many steps are taken to draw an expression, at most.
-- Source: own. A wire that is drawn of it has a mark with no more steps than those of what it reads and these.
use Rattle.std.specs.Prelude.{ℕ, suc, max}
use Rattle.hp_tree.specs.Expressions.{Expr, constant, variable, last_of, one, two, choose, pre, fby, arrow, when_is, merge, call, Parts, no_part, more_parts}

abbrev mutual
  pub height : Expr → ℕ
  height (constant q c) = 0
  height (variable q x) = 0
  height (last_of q x) = 0
  height (one q o a) = suc (height a)
  height (two q o a b) = suc (suc (max (height a) (height b)))
  height (choose q a b c) = suc (max (height a) (max (height b) (height c)))
  height (pre q a) = 0
  height (fby q a b) = suc (height a)
  height (arrow q a b) = suc (max (height a) (height b))
  height (when_is q a c x) = suc (height a)
  height (merge q x ps) = suc (suc (height_of ps))
  height (call q f inlined es) = 1

  -- the parts of a merge
  pub height_of : Parts → ℕ
  height_of no_part = 0
  height_of (more_parts c e ps) = max (height e) (height_of ps)
