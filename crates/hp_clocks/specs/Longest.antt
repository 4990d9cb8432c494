-- The longest clock in an expression, and of a node. Steps are counted up to one more than a clock may have.
use Rattle.std.specs.Prelude.{ℕ, suc, ◌-◌, ◌<◌, ◌↔◌, List, [], ◌∷◌, length, map, max, min}
use Rattle.hp_tree.specs.Expressions.{Expr, constant, variable, last_of, one, two, choose, pre, fby, arrow, when_is, merge, call, Exprs, no_expr, more_exprs, Parts, no_part, more_parts}
use Rattle.hp_tree.specs.Programs.{Node}
use Rattle.hp_tree.specs.Instant.{Clock}
use Rattle.hp_meaning.specs.Clocking.Clocking.{node_with_clocks, NodeNamed}
use Rattle.hp_meaning.specs.Clocking.EveryClock.{IsLong}
use Rattle.hp_clocks.specs.declared.solve.Solution.{Solution}
use Rattle.hp_clocks.specs.Listed.{Right}
use Rattle.hp_clocks.specs.Solved.{clock_read, IsSolved}

abbrev pub counted : ℕ → ℕ
counted n = min n 65

abbrev mutual
  -- how long the longest clock in an expression is that is on a clock of this length
  pub longest : Expr → ℕ → ℕ
  longest (constant s c) k = k
  longest (variable s x) k = k
  longest (last_of s x) k = k
  longest (one s o a) k = longest a k
  longest (two s o a b) k = max (longest a k) (longest b k)
  longest (choose s a b c) k = max (max (longest a k) (longest b k)) (longest c k)
  longest (pre s a) k = longest a k
  longest (fby s a b) k = max (longest a k) (longest b k)
  longest (arrow s a b) k = max (longest a k) (longest b k)
  longest (when_is s a c x) k = max k (longest a (k - 1))
  longest (merge s x ps) k = max k (longest_of_parts ps (suc k))
  longest (call s f i es) k = max k (longest_of_all es k)

  pub longest_of_all : Exprs → ℕ → ℕ
  longest_of_all no_expr k = 0
  longest_of_all (more_exprs e es) k = max (longest e k) (longest_of_all es k)

  pub longest_of_parts : Parts → ℕ → ℕ
  longest_of_parts no_part k = 0
  longest_of_parts (more_parts c e ps) k = max (longest e k) (longest_of_parts ps k)

-- the longest of some clocks, and of the clocks in some expressions
abbrev pub longest_local : List Clock → ℕ
longest_local [] = 0
longest_local (c ∷ cs) = max (length c) (longest_local cs)

abbrev pub longest_right : List Right → ℕ
longest_right [] = 0
longest_right (r ∷ rs) = max (longest r.1 (length r.0)) (longest_right rs)

-- the longest clock that is solved
abbrev pub longest_solved : Solution → ℕ
longest_solved s =
    max (longest_local (map (λ l. clock_read s.cells.cells.items l) s.locals.items))
    (longest_right (map (λ r. (clock_read s.cells.cells.items r.0, r.1.now)) s.rights.items))

-- More steps than 64 are counted exactly where a clock of the written node has more.
abbrev pub TellsLong : Solution → ℕ → Type 0
TellsLong s count = (n : Node) → (h : IsSolved n s) → NodeNamed n → (64 < count) ↔ IsLong 64 (node_with_clocks h.at n)
