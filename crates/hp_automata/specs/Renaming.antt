-- Parts of a program in which other names stand for names. What stands behind `last` stays, and so does what is declared.
use Rattle.std.specs.Prelude.{ℕ, List}
use Rattle.hp_base.specs.declared.span.Span.{Span}
use Rattle.hp_tree.specs.declared.decl.Cons.{Cons}
use Rattle.hp_tree.specs.Expressions.{Expr, Exprs, Parts}
use Rattle.hp_tree.specs.Blocks.{Decl}
use Rattle.hp_tables.specs.Renaming.Renaming as parts

abbrev pub itself : List ℕ → List ℕ
itself x = x

-- by a function on names that are read
module _ (to : List ℕ → List ℕ) where
  abbrev pub renamed : Expr → Expr
  renamed = parts.renamed to itself

  abbrev pub renamed_exprs : Exprs → Exprs
  renamed_exprs = parts.renamed_exprs to itself

  abbrev pub renamed_parts : Parts → Parts
  renamed_parts = parts.renamed_parts to itself

  abbrev pub renamed_path : List (Cons × List ℕ) → List (Cons × List ℕ)
  renamed_path = parts.renamed_path to itself

  -- a declaration: its clock is read where it stands
  abbrev pub renamed_decl : Decl → Decl
  renamed_decl = parts.renamed_decl to itself

  abbrev pub renamed_decls : List Decl → List Decl
  renamed_decls = parts.renamed_decls to itself

  abbrev pub renamed_left : List (List ℕ × Span) → List (List ℕ × Span)
  renamed_left = parts.renamed_left to
