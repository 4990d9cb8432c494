-- The types of the free places that comparisons and calls bring.
-- Source: own. A free place is a comparison of integers, an output of a call that is no integer, or one of the contract that is called.
use Rattle.std.proofs.Common.{◌≡◌, ◌⊎◌, ℕ, if◌then◌else◌, List, [], ◌∷◌, ◌++◌, map, Option, None, Some}
use Rattle.hp_base.specs.declared.ty.Ty.{Ty}
use Rattle.hp_base.specs.declared.ty.Ty.TheVariants as ty
use Rattle.hp_tree.specs.declared.expr.Op2.{Op2}
use Rattle.hp_tree.specs.Expressions.{Expr, constant, variable, last_of, one, two, choose, pre, fby, arrow, when_is, merge, call, Exprs, no_expr, more_exprs, Parts, no_part, more_parts}
use Rattle.hp_tree.specs.Blocks.{Block, block, Eqns, no_eqn, more_eqns, Eqn, define, switch, reset, automaton, Arms, no_arm, more_arms}
use Rattle.hp_flat.specs.declared.equation.Atom.{Atom}
use Rattle.hp_flat.specs.declared.equation.Atom.TheVariants.{Variable}
use Rattle.hp_flat.specs.declared.node.FlatTy.TheVariants as flat
use Rattle.hp_flat.specs.Equations.{FlatEqn, operator, called}
use Rattle.hp_obc.specs.declared.command.ObcOp.{ObcOp}
use Rattle.hp_typing.specs.Scopes.{with_variables}
use Rattle.hp_typing.specs.Types.{type_of}
use Rattle.hp_meaning.specs.Contract.Slots.{FreePlace, Slot, free_among}
use Rattle.law_judged.specs.Typed.Scopes.{Scope}
use Rattle.law_equations.specs.Made.Making.{Known, Sketch, flat_type, numbers_from, outputs_of}
use Rattle.law_wellmade.proofs.BegunLemmas.Keeping.{HasType}
use Rattle.law_wellmade.proofs.RegularLemmas.Expressions.{Outputs}
use Rattle.hp_watch.specs.Walk.{compares}

-- the types of the free places among slots
abbrev pub free_types : List Slot → List Ty
free_types ss = map (λ (q : FreePlace). q.1) (free_among ss)

-- what types stand in a row of such lists
abbrev pub joined_types : List (List Ty) → List Ty
joined_types [] = []
joined_types (ts ∷ rest) = ts ++ joined_types rest

-- a comparison of integers is a truth value, and others bring nothing
abbrev pub of_compared : Option Ty → List Ty
of_compared None = []
of_compared (Some ty.Bool) = []
of_compared (Some ty.Int) = ty.Bool ∷ []
of_compared (Some (ty.Enum x)) = []

-- Of a part without automata: the types that each comparison and each call brings, in the order of making. A call of a node of a name brings those that are given for it.
module _ (given : List ℕ → List Ty) where
  abbrev pub brought_by : Op2 → Option Ty → List (List Ty)
  brought_by o t = if compares o then of_compared t ∷ [] else []

  abbrev mutual
    pub brought : Scope → Expr → List (List Ty)
    brought s (constant a c) = []
    brought s (variable a x) = []
    brought s (last_of a x) = []
    brought s (one a o b) = brought s b
    brought s (two a o b c) = brought s b ++ (brought s c ++ brought_by o (type_of s b))
    brought s (choose a b c d) = brought s b ++ (brought s c ++ brought s d)
    brought s (pre a b) = brought s b
    brought s (fby a b c) = brought s b ++ brought s c
    brought s (arrow a b c) = brought s b ++ brought s c
    brought s (when_is a b c x) = brought s b
    brought s (merge a x ps) = brought_in_parts s ps
    brought s (call a f i es) = brought_in_all s es ++ given f ∷ []

    pub brought_in_all : Scope → Exprs → List (List Ty)
    brought_in_all s no_expr = []
    brought_in_all s (more_exprs e es) = brought s e ++ brought_in_all s es

    pub brought_in_parts : Scope → Parts → List (List Ty)
    brought_in_parts s no_part = []
    brought_in_parts s (more_parts c e ps) = brought s e ++ brought_in_parts s ps

  abbrev mutual
    pub brought_in_block : Scope → Block → List (List Ty)
    brought_in_block s (block ds es) = brought_in_eqns (with_variables s ds) es

    pub brought_in_eqns : Scope → Eqns → List (List Ty)
    brought_in_eqns s no_eqn = []
    brought_in_eqns s (more_eqns e es) = brought_in_eqn s e ++ brought_in_eqns s es

    pub brought_in_eqn : Scope → Eqn → List (List Ty)
    brought_in_eqn s (define a ys e) = brought s e
    brought_in_eqn s (switch a e arms) = brought s e ++ brought_in_arms s arms
    brought_in_eqn s (reset a b e) = brought s e ++ brought_in_block s b
    brought_in_eqn s (automaton a ss) = []

    pub brought_in_arms : Scope → Arms → List (List Ty)
    brought_in_arms s no_arm = []
    brought_in_arms s (more_arms c b a arms) = brought_in_block s b ++ brought_in_arms s arms

-- ---- equations

-- an equation compares operands of a type, the first of which is a variable
pub record Compares (k : Known) (d : Sketch) (e : FlatEqn) (ts : List Ty) : Type 0 where
  pub op : ObcOp
  pub first : ℕ
  pub second : Atom
  pub right : e.right ≡ operator op (Variable first ∷ second ∷ [])
  pub type : Ty
  pub typed : HasType d first (flat_type k.types type)
  pub target : ℕ
  pub targets : e.targets ≡ target ∷ []
  pub truth : HasType d target flat.Bool
  pub brings : ts ≡ of_compared (Some type)

-- it calls a node, and its targets have the types of the outputs
pub record Calls (given : List ℕ → List Ty) (k : Known) (d : Sketch) (e : FlatEqn) (ts : List Ty) : Type 0 where
  pub callee : List ℕ
  pub args : List Atom
  pub right : e.right ≡ called callee args
  pub from : ℕ
  pub targets : e.targets ≡ numbers_from from (outputs_of (k.nodes callee))
  pub typed : Outputs k d from (outputs_of (k.nodes callee))
  pub brings : ts ≡ given callee

-- An equation among the variables of a sketch brings free places of these types.
abbrev pub Brings : (List ℕ → List Ty) → Known → Sketch → FlatEqn → List Ty → Type 0
Brings given k d e ts = Compares k d e ts ⊎ Calls given k d e ts
