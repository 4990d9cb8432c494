-- What a single word of a text stands for.
use Rattle.std.specs.Prelude.{ℕ, true, false, if◌then◌else◌, List, codes, Option, None, Some, option_map}
use Rattle.std.specs.Str.{bytes_eq}
use Rattle.hp_base.specs.declared.ty.Ty.{Ty}
use Rattle.hp_base.specs.declared.ty.Ty.TheVariants.{Bool as BoolTy, Int as IntTy, Enum as EnumTy}
use Rattle.hp_base.specs.declared.ty.Const.{Const}
use Rattle.hp_base.specs.declared.ty.Const.TheVariants.{B as BoolConst, I as IntConst, E as EnumConst}
use Rattle.hp_obc.specs.declared.command.Arg.{Arg}
use Rattle.hp_obc.specs.declared.command.Arg.TheVariants.{Name as NameArg, Const as ConstArg}
use Rattle.hp_obc.specs.declared.command.ObcOp.{ObcOp}
use Rattle.hp_obc.specs.declared.command.ObcOp.TheVariants.{Not, Neg, Mux, And, Or, Xor, Imp, Eq, Ne, Lt, Le, Gt, Ge, Add, Sub, Mul, Div, Rem}
use Rattle.hp_obc.specs.Form.{is_name, is_constructor}
use Rattle.hp_lines.specs.Numbers.{number_of}

-- this word alone
abbrev pub this : List ℕ → List ℕ → Option (Unit {0})
this word w = if bytes_eq w word then Some tt else None

-- the name of a type, a machine, a variable, a memory or an instance
abbrev pub name_of : List ℕ → Option (List ℕ)
name_of w = if is_name w then Some w else None

-- the name of a constructor
abbrev pub constructor_of : List ℕ → Option (List ℕ)
constructor_of w = if is_constructor w then Some w else None

abbrev pub ty_of : List ℕ → Option Ty
ty_of w = if bytes_eq w (codes "bool") then Some BoolTy else (if bytes_eq w (codes "int") then Some IntTy else option_map EnumTy (name_of w))

-- the value of an arm
abbrev pub label_of : List ℕ → Option Const
label_of w = if bytes_eq w (codes "true") then Some (BoolConst true) else (if bytes_eq w (codes "false") then Some (BoolConst false) else option_map EnumConst (constructor_of w))

-- one thing, or else another
abbrev pub else_by : {A : Type 0} → Option A → Option A → Option A
else_by None o = o
else_by (Some a) o = Some a

abbrev pub const_of : List ℕ → Option Const
const_of w = else_by (label_of w) (option_map IntConst (number_of w))

abbrev pub arg_of : List ℕ → Option Arg
arg_of w = else_by (option_map NameArg (name_of w)) (option_map ConstArg (const_of w))

abbrev pub arithmetic_of : List ℕ → Option ObcOp
arithmetic_of w =
    if bytes_eq w (codes "@add") then Some Add else
    (if bytes_eq w (codes "@sub") then Some Sub else
    (if bytes_eq w (codes "@mul") then Some Mul else
    (if bytes_eq w (codes "@div") then Some Div else
    (if bytes_eq w (codes "@rem") then Some Rem else None))))

-- a comparison, or arithmetic
abbrev pub comparison_of : List ℕ → Option ObcOp
comparison_of w =
    if bytes_eq w (codes "@eq") then Some Eq else
    (if bytes_eq w (codes "@ne") then Some Ne else
    (if bytes_eq w (codes "@lt") then Some Lt else
    (if bytes_eq w (codes "@le") then Some Le else
    (if bytes_eq w (codes "@gt") then Some Gt else
    (if bytes_eq w (codes "@ge") then Some Ge else arithmetic_of w)))))

abbrev pub op_of : List ℕ → Option ObcOp
op_of w =
    if bytes_eq w (codes "@not") then Some Not else
    (if bytes_eq w (codes "@neg") then Some Neg else
    (if bytes_eq w (codes "@mux") then Some Mux else
    (if bytes_eq w (codes "@and") then Some And else
    (if bytes_eq w (codes "@or") then Some Or else
    (if bytes_eq w (codes "@xor") then Some Xor else
    (if bytes_eq w (codes "@imp") then Some Imp else comparison_of w))))))
