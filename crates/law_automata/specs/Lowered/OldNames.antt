-- Names that are told from those which the removal of automata makes.
use Rattle.std.specs.Prelude.{ℕ, ◌≡◌, ◌≤◌, nat_eq, nat_lt, Bool, true, false, not, ◌&&◌, if◌then◌else◌, List, [], ◌∷◌, length, ⊤}
use Rattle.hp_tree.specs.declared.decl.Cons.{Cons}
use Rattle.hp_tree.specs.Expressions.{Expr, constant, variable, last_of, one, two, choose, pre, fby, arrow, when_is, merge, call, Exprs, no_expr, more_exprs, Parts, no_part, more_parts}
use Rattle.hp_automata.specs.NewNames.{dollar, is_new}

-- what stands behind the first sign of a name
abbrev pub behind_sign : List ℕ → List ℕ
behind_sign [] = []
behind_sign (b ∷ bs) = if nat_eq b dollar then bs else behind_sign bs

abbrev pub is_digit : ℕ → Bool
is_digit b = not (nat_lt b 48) && nat_lt b 58

abbrev pub all_digits : List ℕ → Bool
all_digits [] = true
all_digits (b ∷ bs) = is_digit b && all_digits bs

abbrev pub some_digits : List ℕ → Bool
some_digits [] = false
some_digits (b ∷ bs) = is_digit b && all_digits bs

-- A name of a program: one of a source text, which has no sign, or one of a variable of an inlined call, which has digits alone behind its sign.
pub record IsOld (x : List ℕ) : Type 0 where
  pub digits : is_new x ≡ true → some_digits (behind_sign x) ≡ true
  pub short : length x ≤ (if is_new x then 262 else 261)

abbrev pub OldPath : List (Cons × List ℕ) → Type 0
OldPath [] = ⊤
OldPath (step ∷ path) = IsOld step.1 × OldPath path

-- the names that an expression reads
abbrev mutual
  pub OldExpr : Expr → Type 0
  OldExpr (constant s c) = ⊤
  OldExpr (variable s x) = IsOld x
  OldExpr (last_of s x) = IsOld x
  OldExpr (one s o a) = OldExpr a
  OldExpr (two s o a b) = OldExpr a × OldExpr b
  OldExpr (choose s a b c) = OldExpr a × OldExpr b × OldExpr c
  OldExpr (pre s a) = OldExpr a
  OldExpr (fby s a b) = OldExpr a × OldExpr b
  OldExpr (arrow s a b) = OldExpr a × OldExpr b
  OldExpr (when_is s a c x) = IsOld x × OldExpr a
  OldExpr (merge s x ps) = IsOld x × OldParts ps
  OldExpr (call s f inlined es) = OldExprs es

  pub OldExprs : Exprs → Type 0
  OldExprs no_expr = ⊤
  OldExprs (more_exprs e es) = OldExpr e × OldExprs es

  pub OldParts : Parts → Type 0
  OldParts no_part = ⊤
  OldParts (more_parts c e ps) = OldExpr e × OldParts ps
