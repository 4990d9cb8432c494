-- The variables of a part of a program under other names. Types, constructors, nodes and states keep theirs.
use Rattle.std.specs.Prelude.{ℕ, List, map, option_map}
use Rattle.hp_base.specs.declared.span.Span.{Span}
use Rattle.hp_tree.specs.declared.decl.Cons.{Cons}
use Rattle.hp_tree.specs.Expressions.{Expr, constant, variable, last_of, one, two, choose, pre, fby, arrow, when_is, merge, call, Exprs, no_expr, more_exprs, Parts, no_part, more_parts}
use Rattle.hp_tree.specs.Blocks.{Decl}

-- by a function for names that are read, and one for names as they are declared, which stand behind `last` too
module _ (read declared : List ℕ → List ℕ) where
  abbrev mutual
    pub renamed : Expr → Expr
    renamed (constant at c) = constant at c
    renamed (variable at x) = variable at (read x)
    renamed (last_of at x) = last_of at (declared x)
    renamed (one at op a) = one at op (renamed a)
    renamed (two at op a b) = two at op (renamed a) (renamed b)
    renamed (choose at a b c) = choose at (renamed a) (renamed b) (renamed c)
    renamed (pre at a) = pre at (renamed a)
    renamed (fby at a b) = fby at (renamed a) (renamed b)
    renamed (arrow at a b) = arrow at (renamed a) (renamed b)
    renamed (when_is at a c x) = when_is at (renamed a) c (read x)
    renamed (merge at x ps) = merge at (read x) (renamed_parts ps)
    renamed (call at f inlined es) = call at f inlined (renamed_exprs es)

    pub renamed_exprs : Exprs → Exprs
    renamed_exprs no_expr = no_expr
    renamed_exprs (more_exprs e es) = more_exprs (renamed e) (renamed_exprs es)

    pub renamed_parts : Parts → Parts
    renamed_parts no_part = no_part
    renamed_parts (more_parts c e ps) = more_parts c (renamed e) (renamed_parts ps)

  -- an arm of a merge
  abbrev pub renamed_part : Cons × Expr → Cons × Expr
  renamed_part p = (p.0, renamed p.1)

  -- a clock, which is read where it stands
  abbrev pub renamed_step : Cons × List ℕ → Cons × List ℕ
  renamed_step step = (step.0, read step.1)

  abbrev pub renamed_path : List (Cons × List ℕ) → List (Cons × List ℕ)
  renamed_path path = map renamed_step path

  abbrev pub renamed_decl : Decl → Decl
  renamed_decl d = record d { name = declared d.name; clock = option_map renamed_path d.clock }

  abbrev pub renamed_decls : List Decl → List Decl
  renamed_decls ds = map renamed_decl ds

-- the names that an equation defines
abbrev pub renamed_left : (List ℕ → List ℕ) → List (List ℕ × Span) → List (List ℕ × Span)
renamed_left to xs = map (λ (x : List ℕ × Span). (to x.0, x.1)) xs
