-- The types of expressions, in a program that is typed: read off its parts.
use Rattle.std.specs.Prelude.{ℕ, Bool, true, false, if◌then◌else◌, List, [], ◌∷◌, Option, None, Some}
use Rattle.std.specs.Str.{bytes_eq}
use Rattle.hp_base.specs.declared.ty.Ty.{Ty}
use Rattle.hp_base.specs.declared.ty.Ty.TheVariants as ty
use Rattle.hp_base.specs.declared.ty.Const.{Const}
use Rattle.hp_base.specs.declared.ty.Const.TheVariants as const
use Rattle.hp_tree.specs.declared.expr.Op2.{Op2}
use Rattle.hp_tree.specs.declared.expr.Op2.TheVariants.{Add, Sub, Mul, Div, Rem}
use Rattle.hp_tree.specs.Expressions.{Expr, constant, variable, last_of, one, two, choose, pre, fby, arrow, when_is, merge, call, Parts, no_part, more_parts}
use Rattle.hp_tree.specs.Blocks.{Decl, Block, block}
use Rattle.hp_tree.specs.Programs.{TypeDecl}
use Rattle.hp_tree.specs.Operators.{place_in}

-- the types of the names in a scope
abbrev pub Scope : Type 0
Scope = List ℕ → Ty

abbrev pub typed_in : List Decl → Scope → Scope
typed_in [] out x = out x
typed_in (d ∷ ds) out x = if bytes_eq d.name x then d.ty else typed_in ds out x

abbrev pub some_place : Option ℕ → Bool
some_place None = false
some_place (Some k) = true

-- the type of a constructor
abbrev pub type_with : List TypeDecl → List ℕ → Ty
type_with [] x = ty.Bool
type_with (d ∷ ds) x = if some_place (place_in 0 d.cons x) then ty.Enum d.name else type_with ds x

abbrev pub type_of_constant : List TypeDecl → Const → Ty
type_of_constant types (const.B b) = ty.Bool
type_of_constant types (const.I n) = ty.Int
type_of_constant types (const.E x) = type_with types x

-- the type of what an operator of two operands gives
abbrev pub type_of_two : Op2 → Ty
type_of_two Add = ty.Int
type_of_two Sub = ty.Int
type_of_two Mul = ty.Int
type_of_two Div = ty.Int
type_of_two Rem = ty.Int
type_of_two o = ty.Bool

-- the scope of no names
abbrev pub untyped : Scope
untyped x = ty.Bool

abbrev pub scope_of : Block → Scope → Scope
scope_of (block ds es) out = typed_in ds out

-- `outputs` has the outputs of the node of a name.
module _ (types : List TypeDecl) (outputs : List ℕ → List Decl) where
  abbrev pub first_type : List Decl → Ty
  first_type [] = ty.Bool
  first_type (d ∷ ds) = d.ty

  abbrev mutual
    pub type_of : Expr → Scope → Ty
    type_of (constant s c) names = type_of_constant types c
    type_of (variable s x) names = names x
    type_of (last_of s x) names = names x
    type_of (one s o a) names = type_of a names
    type_of (two s o a b) names = type_of_two o
    type_of (choose s a b c) names = type_of b names
    type_of (pre s a) names = type_of a names
    type_of (fby s a b) names = type_of a names
    type_of (arrow s a b) names = type_of a names
    type_of (when_is s a c x) names = type_of a names
    type_of (merge s x ps) names = type_of_parts ps names
    type_of (call s f inlined es) names = first_type (outputs f)

    pub type_of_parts : Parts → Scope → Ty
    type_of_parts no_part names = ty.Bool
    type_of_parts (more_parts c e ps) names = type_of e names
