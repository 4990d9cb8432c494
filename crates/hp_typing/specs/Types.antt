-- The type of an expression. An expression with a wrong part has none.
use Rattle.std.specs.Prelude.{ℕ, Bool, true, false, ◌&&◌, if◌then◌else◌, is_some, map, List, [], ◌∷◌, Option, None, Some}
use Rattle.std.specs.Str.{bytes_eq}
use Rattle.hp_base.specs.declared.span.Span.{Span}
use Rattle.hp_base.specs.declared.ty.Ty.{Ty}
use Rattle.hp_base.specs.declared.ty.Ty.TheVariants.{Bool as bool, Int as int, Enum as enum}
use Rattle.hp_base.specs.declared.ty.Const.{Const}
use Rattle.hp_base.specs.declared.ty.Const.TheVariants as const
use Rattle.hp_tree.specs.declared.decl.Cons.{Cons}
use Rattle.hp_tree.specs.declared.decl.Cons.TheVariants as cons
use Rattle.hp_tree.specs.declared.expr.Op1.{Op1}
use Rattle.hp_tree.specs.declared.expr.Op1.TheVariants.{Not, Neg}
use Rattle.hp_tree.specs.declared.expr.Op2.{Op2}
use Rattle.hp_tree.specs.declared.expr.Op2.TheVariants.{And, Or, Xor, Imp, Eq, Ne, Lt, Le, Gt, Ge, Add, Sub, Mul, Div, Rem}
use Rattle.hp_tree.specs.Expressions.{Expr, constant, variable, last_of, one, two, choose, pre, fby, arrow, when_is, merge, call, Exprs, no_expr, more_exprs, Parts, no_part, more_parts}
use Rattle.hp_tree.specs.Blocks.{Decl}
use Rattle.hp_tree.specs.Programs.{Node, TypeDecl}
use Rattle.hp_base.specs.Known.Known.{lookup}
use Rattle.hp_typing.specs.Scopes.{Scope}

-- whether two types are the same
abbrev pub same_type : Ty → Ty → Bool
same_type bool bool = true
same_type int int = true
same_type (enum t) (enum u) = bytes_eq t u
same_type t u = false

-- whether a type is wanted and a type is found, and they are the same
abbrev pub agrees : Option Ty → Option Ty → Bool
agrees (Some t) (Some u) = same_type t u
agrees t u = false

-- the type of an enumeration
abbrev pub enum_of : Option (List ℕ) → Option Ty
enum_of None = None
enum_of (Some t) = Some (enum t)

abbrev pub constant_type : Scope → Const → Option Ty
constant_type s (const.B b) = Some bool
constant_type s (const.I n) = Some int
constant_type s (const.E c) = enum_of (lookup s.constructors c)

abbrev pub cons_type : Scope → Cons → Option Ty
cons_type s cons.False = Some bool
cons_type s cons.True = Some bool
cons_type s (cons.Named c) = enum_of (lookup s.constructors c)

-- the constructors of a declared type, and of a type, in declared order
abbrev pub named : Option TypeDecl → List Cons
named None = []
named (Some t) = map cons.Named t.cons

abbrev pub constructors_of : Scope → Option Ty → List Cons
constructors_of s None = []
constructors_of s (Some bool) = cons.False ∷ cons.True ∷ []
constructors_of s (Some int) = []
constructors_of s (Some (enum t)) = named (lookup s.types t)

-- whether a `switch` or a `merge` may be over the type
abbrev pub chooses : Option Ty → Bool
chooses (Some bool) = true
chooses (Some (enum t)) = true
chooses (Some int) = false
chooses None = false

-- what an operator wants, which is its type too
abbrev pub type_of_one : Op1 → Ty
type_of_one Not = bool
type_of_one Neg = int

-- what an operator wants of its operands, where the first has the type t
abbrev pub operand : Op2 → Option Ty → Option Ty
operand And t = Some bool
operand Or t = Some bool
operand Xor t = Some bool
operand Imp t = Some bool
operand Eq t = t
operand Ne t = t
operand Lt t = Some int
operand Le t = Some int
operand Gt t = Some int
operand Ge t = Some int
operand Add t = Some int
operand Sub t = Some int
operand Mul t = Some int
operand Div t = Some int
operand Rem t = Some int

-- the type of what it gives
abbrev pub answer : Op2 → Ty
answer And = bool
answer Or = bool
answer Xor = bool
answer Imp = bool
answer Eq = bool
answer Ne = bool
answer Lt = bool
answer Le = bool
answer Gt = bool
answer Ge = bool
answer Add = int
answer Sub = int
answer Mul = int
answer Div = int
answer Rem = int

-- the type t where the test holds
abbrev pub where_true : Bool → Option Ty → Option Ty
where_true b t = if b then t else None

-- the types of an operator of two operands, of a conditional, and of two operands of one type
abbrev pub two_type : Op2 → Option Ty → Option Ty → Option Ty
two_type op t u = where_true (agrees (operand op t) t && agrees (operand op t) u) (Some (answer op))

abbrev pub if_type : Option Ty → Option Ty → Option Ty → Option Ty
if_type test t u = where_true (agrees (Some bool) test && agrees t u) t

abbrev pub pair_type : Option Ty → Option Ty → Option Ty
pair_type t u = where_true (agrees t u) t

-- the type of a call: that of its one output
abbrev pub single : Option (List Decl) → Option Ty
single (Some (d ∷ [])) = Some d.ty
single outputs = None

-- the type of the first of some inputs
abbrev pub input_type : List Decl → Option Ty
input_type [] = None
input_type (d ∷ ds) = Some d.ty

-- whether there is one argument of the right type for each input
abbrev pub args_fit : List Decl → List (Option Ty) → Bool
args_fit [] [] = true
args_fit (d ∷ ds) [] = false
args_fit [] (t ∷ ts) = false
args_fit (d ∷ ds) (t ∷ ts) = agrees (Some d.ty) t && args_fit ds ts

-- whether each argument has a type
abbrev pub all_typed : List (Option Ty) → Bool
all_typed [] = true
all_typed (t ∷ ts) = is_some t && all_typed ts

-- the outputs of a call, where its arguments fit
abbrev pub outputs_in : Option Node → List (Option Ty) → Option (List Decl)
outputs_in None ts = None
outputs_in (Some n) ts = if args_fit n.inputs ts then Some n.outputs else None

abbrev mutual
  pub type_of : Scope → Expr → Option Ty
  type_of s (constant at c) = constant_type s c
  type_of s (variable at x) = lookup s.variables x
  type_of s (last_of at x) = lookup s.variables x
  type_of s (one at op a) = where_true (agrees (Some (type_of_one op)) (type_of s a)) (Some (type_of_one op))
  type_of s (two at op a b) = two_type op (type_of s a) (type_of s b)
  type_of s (choose at a b c) = if_type (type_of s a) (type_of s b) (type_of s c)
  type_of s (pre at a) = type_of s a
  type_of s (fby at a b) = pair_type (type_of s a) (type_of s b)
  type_of s (arrow at a b) = pair_type (type_of s a) (type_of s b)
  type_of s (when_is at a c x) = where_true (agrees (lookup s.variables x) (cons_type s c)) (type_of s a)
  type_of s (merge at x ps) = merge_type s (lookup s.variables x) ps
  type_of s (call at f inlined es) = single (outputs_in (lookup s.nodes f) (types_in s es))

  -- the type of a `merge` is that of its first operand
  pub merge_type : Scope → Option Ty → Parts → Option Ty
  merge_type s name no_part = None
  merge_type s name (more_parts c e ps) =
      where_true (chooses name && (agrees name (cons_type s c) && parts_fit s name (type_of s e) ps)) (type_of s e)

  -- whether each constructor is of the type of the name, and each operand of the type of the first
  pub parts_fit : Scope → Option Ty → Option Ty → Parts → Bool
  parts_fit s name first no_part = true
  parts_fit s name first (more_parts c e ps) = agrees name (cons_type s c) && (agrees first (type_of s e) && parts_fit s name first ps)

  -- the types of some arguments
  pub types_in : Scope → Exprs → List (Option Ty)
  types_in s no_expr = []
  types_in s (more_exprs e es) = type_of s e ∷ types_in s es

-- where an expression begins
abbrev pub place : Expr → Span
place (constant at c) = at
place (variable at x) = at
place (last_of at x) = at
place (one at op a) = at
place (two at op a b) = at
place (choose at a b c) = at
place (pre at a) = at
place (fby at a b) = at
place (arrow at a b) = at
place (when_is at a c x) = at
place (merge at x ps) = at
place (call at f inlined es) = at
