-- Types, contracts, nodes and programs as plain data. A program is the list of its items.
use Rattle.std.specs.Prelude.{ℕ, List, Option}
use Rattle.hp_base.specs.declared.span.Span.{Span}
use Rattle.hp_tree.specs.Expressions.{Expr}
use Rattle.hp_tree.specs.Blocks.{Decl, Block}

-- an enumeration, with its constructors in declared order
pub record TypeDecl : Type 0 where
  pub name : List ℕ
  pub cons : List (List ℕ)
  pub span : Span

-- a contract: its equations, what it assumes and enforces, and the controllable variables
pub record Contract : Type 0 where
  pub body : Block
  pub assume : Option Expr
  pub enforce : Option Expr
  pub controls : List Decl
  pub span : Span

-- a node; `span` is the place of its name
pub record Node : Type 0 where
  pub name : List ℕ
  pub span : Span
  pub inputs : List Decl
  pub outputs : List Decl
  pub contract : Option Contract
  pub body : Block
