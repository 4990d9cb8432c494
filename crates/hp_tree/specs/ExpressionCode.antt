-- Expressions are coded as binary trees, from which they are read back.
use Rattle.std.specs.Prelude.{◌≡◌, ℕ, Bool, true, false, List, [], ◌⊎◌}
use Rattle.std.specs.Coded.{Coded, code_by, coded×, coded⊎, coded_ℕ, coded_bool, coded_list}
use Rattle.std.proofs.Common.{refl, ap, inl, inr}
use Rattle.hp_base.specs.declared.span.Span.{Span}
use Rattle.hp_base.specs.contracts.span.Span as span
use Rattle.hp_base.specs.declared.ty.Const.{Const}
use Rattle.hp_base.specs.contracts.ty.Const as const
use Rattle.hp_tree.specs.declared.decl.Cons.{Cons}
use Rattle.hp_tree.specs.declared.decl.Cons.TheVariants.{False}
use Rattle.hp_tree.specs.contracts.decl.Cons as cons
use Rattle.hp_tree.specs.declared.expr.Op1.{Op1}
use Rattle.hp_tree.specs.contracts.expr.Op1 as op1
use Rattle.hp_tree.specs.declared.expr.Op2.{Op2}
use Rattle.hp_tree.specs.contracts.expr.Op2 as op2
use Rattle.hp_tree.specs.Expressions.{Expr, Exprs, Parts, constant, variable, last_of, one, two, choose, pre, fby, arrow, when_is, merge, call, no_expr, more_exprs, no_part, more_parts}
use Rattle.hp_base.specs.Coding.{Coding, leaf, fork, coded_coding}

abbrev Bytes : Type 0
Bytes = List ℕ

abbrev bytes : Coded Bytes
bytes = coded_list coded_ℕ

-- a form with no name or constant: a choice, `pre`, `fby` or `->` by two truth values, or an operator
abbrev Plain : Type 0
Plain = (Bool × Bool) ⊎ (Op1 ⊎ Op2)

-- a constant, or the constructor and the name of a `when`
abbrev Leafy : Type 0
Leafy = Const ⊎ (Cons × Bytes)

-- the name of a `merge`; a variable (true) or a `last` (false); the node of a call, and whether it is inlined
abbrev Named : Type 0
Named = Bytes ⊎ ((Bytes × Bool) ⊎ (Bytes × Bool))

-- what an expression is, without its place and its children
abbrev Mark : Type 0
Mark = Plain ⊎ (Leafy ⊎ Named)

abbrev mark_code : Coded Mark
mark_code = coded⊎
    (coded⊎ (coded× coded_bool coded_bool) (coded⊎ op1.the_row.coded op2.the_row.coded))
    (coded⊎ (coded⊎ const.the_row.coded (coded× cons.the_row.coded bytes)) (coded⊎ bytes (coded⊎ (coded× bytes coded_bool) (coded× bytes coded_bool))))

-- what stands at a place of the tree: a part of an expression, or of a list, where a part of a `merge` has its constructor
abbrev Label : Type 0
Label = (Span × Mark) ⊎ Cons

abbrev label_code : Coded Label
label_code = coded⊎ (coded× span.the_row.coded mark_code) cons.the_row.coded

abbrev T : Type 0
T = Coding Label

abbrev plain : Span → Plain → T → T → T
plain s m = fork (inl (s, inl m))

abbrev leafy : Span → Leafy → T → T → T
leafy s m = fork (inl (s, inr (inl m)))

abbrev named : Span → Named → T → T → T
named s m = fork (inl (s, inr (inr m)))

abbrev mutual
  to_tree : Expr → T
  to_tree (constant s c) = leafy s (inl c) leaf leaf
  to_tree (variable s x) = named s (inr (inl (x, true))) leaf leaf
  to_tree (last_of s x) = named s (inr (inl (x, false))) leaf leaf
  to_tree (one s op a) = plain s (inr (inl op)) (to_tree a) leaf
  to_tree (two s op a b) = plain s (inr (inr op)) (to_tree a) (to_tree b)
  to_tree (choose s a b c) = plain s (inl (true, true)) (to_tree a) (fork (inr False) (to_tree b) (to_tree c))
  to_tree (pre s a) = plain s (inl (true, false)) (to_tree a) leaf
  to_tree (fby s a b) = plain s (inl (false, true)) (to_tree a) (to_tree b)
  to_tree (arrow s a b) = plain s (inl (false, false)) (to_tree a) (to_tree b)
  to_tree (when_is s a c x) = leafy s (inr (c, x)) (to_tree a) leaf
  to_tree (merge s x ps) = named s (inl x) (to_parts ps) leaf
  to_tree (call s f i es) = named s (inr (inr (f, i))) (to_trees es) leaf

  to_trees : Exprs → T
  to_trees no_expr = leaf
  to_trees (more_exprs e es) = fork (inr False) (to_tree e) (to_trees es)

  to_parts : Parts → T
  to_parts no_part = leaf
  to_parts (more_parts c e ps) = fork (inr c) (to_tree e) (to_parts ps)

-- what is read where no expression stands
abbrev nothing : Expr
nothing = variable (record { line = 0; col = 0; end = 0 }) []

abbrev mutual
  from_tree : T → Expr
  from_tree leaf = nothing
  from_tree (fork (inl (s, inl (inl (true, true)))) l leaf) = nothing
  from_tree (fork (inl (s, inl (inl (true, true)))) l (fork p m r)) = choose s (from_tree l) (from_tree m) (from_tree r)
  from_tree (fork (inl (s, inl (inl (true, false)))) l r) = pre s (from_tree l)
  from_tree (fork (inl (s, inl (inl (false, true)))) l r) = fby s (from_tree l) (from_tree r)
  from_tree (fork (inl (s, inl (inl (false, false)))) l r) = arrow s (from_tree l) (from_tree r)
  from_tree (fork (inl (s, inl (inr (inl op)))) l r) = one s op (from_tree l)
  from_tree (fork (inl (s, inl (inr (inr op)))) l r) = two s op (from_tree l) (from_tree r)
  from_tree (fork (inl (s, inr (inl (inl c)))) l r) = constant s c
  from_tree (fork (inl (s, inr (inl (inr (c, x))))) l r) = when_is s (from_tree l) c x
  from_tree (fork (inl (s, inr (inr (inl x)))) l r) = merge s x (from_parts l)
  from_tree (fork (inl (s, inr (inr (inr (inl (x, true)))))) l r) = variable s x
  from_tree (fork (inl (s, inr (inr (inr (inl (x, false)))))) l r) = last_of s x
  from_tree (fork (inl (s, inr (inr (inr (inr (f, i)))))) l r) = call s f i (from_trees l)
  from_tree (fork (inr c) l r) = nothing

  from_trees : T → Exprs
  from_trees leaf = no_expr
  from_trees (fork p l r) = more_exprs (from_tree l) (from_trees r)

  from_parts : T → Parts
  from_parts leaf = no_part
  from_parts (fork (inl m) l r) = no_part
  from_parts (fork (inr c) l r) = more_parts c (from_tree l) (from_parts r)

mutual
  pub tree_back : (e : Expr) → from_tree (to_tree e) ≡ e
  tree_back (constant s c) = refl
  tree_back (variable s x) = refl
  tree_back (last_of s x) = refl
  tree_back (one s op a) = ap (one s op) (tree_back a)
  tree_back (two s op a b) = λ i. two s op (tree_back a i) (tree_back b i)
  tree_back (choose s a b c) = λ i. choose s (tree_back a i) (tree_back b i) (tree_back c i)
  tree_back (pre s a) = ap (pre s) (tree_back a)
  tree_back (fby s a b) = λ i. fby s (tree_back a i) (tree_back b i)
  tree_back (arrow s a b) = λ i. arrow s (tree_back a i) (tree_back b i)
  tree_back (when_is s a c x) = ap (λ b. when_is s b c x) (tree_back a)
  tree_back (merge s x ps) = ap (merge s x) (parts_back ps)
  tree_back (call s f j es) = ap (call s f j) (trees_back es)

  trees_back : (es : Exprs) → from_trees (to_trees es) ≡ es
  trees_back no_expr = refl
  trees_back (more_exprs e es) = λ i. more_exprs (tree_back e i) (trees_back es i)

  parts_back : (ps : Parts) → from_parts (to_parts ps) ≡ ps
  parts_back no_part = refl
  parts_back (more_parts c e ps) = λ i. more_parts c (tree_back e i) (parts_back ps i)

abbrev pub expr_code : Coded Expr
expr_code = code_by T (coded_coding label_code) to_tree from_tree tree_back
