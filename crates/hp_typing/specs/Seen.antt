-- What the types that the code handles are seen as.
use Rattle.std.specs.Prelude.{ℕ, List, map, Option, None, Some}
use Rattle.std.specs.Borrow.{Bor}
use Rattle.hp_tree.specs.Blocks.{Decl}
use Rattle.hp_base.specs.declared.ty.Ty.{Ty}
use Rattle.hp_base.specs.declared.ty.Ty.TheVariants as ty
use Rattle.hp_typing.specs.declared.error.Is.{Is}
use Rattle.hp_typing.specs.declared.error.Is.TheVariants.{Row as is_row}
use Rattle.hp_typing.specs.declared.kind.Kind.{Kind}
use Rattle.hp_typing.specs.declared.kind.Kind.TheVariants as kind
use Rattle.hp_typing.specs.declared.kind.Shape.{Shape}
use Rattle.hp_typing.specs.declared.kind.Shape.TheVariants as shape
use Rattle.hp_tree.specs.declared.decl.Cons.{Cons}
use Rattle.hp_tree.specs.declared.decl.Cons.TheVariants as cons
use Rattle.hp_typing.specs.declared.kind.Constructor.{Constructor}
use Rattle.hp_typing.specs.declared.kind.Constructor.TheVariants as constructor
use Rattle.hp_typing.specs.Claims.{is_of}

abbrev pub kind_seen : Kind → Ty
kind_seen kind.Bool = ty.Bool
kind_seen kind.Int = ty.Int
kind_seen (kind.Enum t) = ty.Enum t.now

abbrev pub kind_told : Option Kind → Option Ty
kind_told None = None
kind_told (Some k) = Some (kind_seen k)

abbrev pub shape_seen : Shape → Is
shape_seen (shape.Type k) = is_of (kind_seen k)
shape_seen (shape.Row n) = is_row n

abbrev pub decls_told : Option (Bor (List Decl)) → Option (List Decl)
decls_told None = None
decls_told (Some ds) = Some ds.now

abbrev pub cons_seen : Constructor → Cons
cons_seen constructor.False = cons.False
cons_seen constructor.True = cons.True
cons_seen (constructor.Named c) = cons.Named c.now

-- the constructors of a declared type, and some that stand in a tree
abbrev pub conses_seen : List (List ℕ) → List Cons
conses_seen cs = map cons.Named cs

abbrev pub conses_told : List (Bor Cons) → List Cons
conses_told cs = map (λ c. c.now) cs
