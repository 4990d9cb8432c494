-- Declarations, equations and blocks as plain data.
use Rattle.std.specs.Prelude.{ℕ, List, [], ◌∷◌, Option}
use Rattle.hp_base.specs.declared.span.Span.{Span}
use Rattle.hp_base.specs.declared.ty.Ty.{Ty}
use Rattle.hp_base.specs.declared.ty.Const.{Const}
use Rattle.hp_tree.specs.declared.decl.Cons.{Cons}
pub use Rattle.hp_tree.specs.declared.block.Trans.{Trans}
use Rattle.hp_tree.specs.Expressions.{Expr}

-- a declaration: `last` is the first value, if any; `clock` the path, outermost first, if one is written
pub record Decl : Type 0 where
  pub name : List ℕ
  pub ty : Ty
  pub last : Option Const
  pub clock : Option (List (Cons × List ℕ))
  pub span : Span

mutual
  -- a block: its local declarations and its equations
  pub data Block : Type 0 where
    block : List Decl → Eqns → Block

  -- the equations of a block, in order
  pub data Eqns : Type 0 where
    no_eqn : Eqns
    more_eqns : Eqn → Eqns → Eqns

  -- an equation: `define` has the names on its left with their places, `reset` its body and when it is reset
  pub data Eqn : Type 0 where
    define : Span → List (List ℕ × Span) → Expr → Eqn
    switch : Span → Expr → Arms → Eqn
    reset : Span → Block → Expr → Eqn
    automaton : Span → States → Eqn

  -- the arms of a `switch`: each has its constructor, its body and its place
  pub data Arms : Type 0 where
    no_arm : Arms
    more_arms : Cons → Block → Span → Arms → Arms

  -- the states of an automaton: each has its name, its body, its weak transitions (`until`), its strong ones (`unless`) and its place
  pub data States : Type 0 where
    no_state : States
    more_states : List ℕ → Block → List Trans → List Trans → Span → States → States

-- an arm as an element of a plain list
pub record Arm : Type 0 where
  pub cons : Cons
  pub body : Block
  pub span : Span

-- a state as an element of a plain list
pub record State : Type 0 where
  pub name : List ℕ
  pub body : Block
  pub until : List Trans
  pub unless : List Trans
  pub span : Span

-- the lists of a tree, made of plain lists and read as such
abbrev pub eqns_of : List Eqn → Eqns
eqns_of [] = no_eqn
eqns_of (e ∷ es) = more_eqns e (eqns_of es)

abbrev pub list_of_eqns : Eqns → List Eqn
list_of_eqns no_eqn = []
list_of_eqns (more_eqns e es) = e ∷ list_of_eqns es

abbrev pub arms_of : List Arm → Arms
arms_of [] = no_arm
arms_of (a ∷ arms) = more_arms a.cons a.body a.span (arms_of arms)

abbrev pub list_of_arms : Arms → List Arm
list_of_arms no_arm = []
list_of_arms (more_arms c b s arms) = record { cons = c; body = b; span = s } ∷ list_of_arms arms

abbrev pub states_of : List State → States
states_of [] = no_state
states_of (q ∷ qs) = more_states q.name q.body q.until q.unless q.span (states_of qs)

abbrev pub list_of_states : States → List State
list_of_states no_state = []
list_of_states (more_states x b until unless s qs) =
    record { name = x; body = b; until = until; unless = unless; span = s } ∷ list_of_states qs
