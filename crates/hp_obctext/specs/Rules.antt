-- The rules of form, word by word: whether each word of a file keeps them, in the order of the words. What comes behind a word that
-- breaks one does not matter.
use Rattle.std.specs.Prelude.{◌≡◌, ℕ, zero, suc, min, Bool, true, false, not, ◌&&◌, nat_lt, List, [], ◌∷◌, ◌++◌, length, map, Option, None, Some, is_some, option_map, if◌then◌else◌}
use Rattle.std.specs.Str.{bytes_eq}
use Rattle.std.specs.Ordering.{int_eq}
use Rattle.hp_base.specs.declared.ty.Ty.{Ty}
use Rattle.hp_base.specs.declared.ty.Ty.TheVariants.{Bool as BoolTy, Int as IntTy, Enum as EnumTy}
use Rattle.hp_base.specs.declared.ty.Const.{Const}
use Rattle.hp_base.specs.declared.ty.Const.TheVariants.{B as BoolConst, I as IntConst, E as EnumConst}
use Rattle.hp_obc.specs.declared.command.Arg.{Arg}
use Rattle.hp_obc.specs.declared.command.Arg.TheVariants.{Name as NameArg, Const as ConstArg}
use Rattle.hp_obc.specs.declared.command.ObcOp.{ObcOp}
use Rattle.hp_obc.specs.declared.command.ObcOp.TheVariants.{Copy, Not, Neg, Mux, And, Or, Xor, Imp, Eq, Ne, Add, Sub, Mul, Div, Rem}
use Rattle.hp_obc.specs.declared.machine.Var.{Var}
use Rattle.hp_obc.specs.declared.machine.Mem.{Mem}
use Rattle.hp_obc.specs.Form.{is_short}
use Rattle.hp_obc.specs.Machines.{ObcType}
use Rattle.hp_obctext.specs.Files.{Steps, Step, Branches, Text, File, done, and_then, set, call, restart, case_of, no_branch, more_branches}
use Rattle.hp_base.specs.Known.Known.{lookup, with_entry}

-- what is known of names
abbrev pub Table : Type 0 → Type 0
Table A = List (List ℕ × A)

-- a name is not known yet
abbrev pub is_new : {A : Type 0} → Table A → List ℕ → Bool
is_new es x = not (is_some (lookup es x))

-- in front of an item of a list: nothing, or a comma
abbrev pub comma : Bool → List Bool
comma true = []
comma false = true ∷ []

-- the words of a list in parentheses behind a word
abbrev pub in_section : List Bool → List Bool
in_section vs = (true ∷ true ∷ vs) ++ true ∷ []

-- ---- types

-- the types by their names, and by their constructors
pub record Types : Type 0 where
  pub names : Table ObcType
  pub cons : Table ObcType

-- Constructors are distinct over the file, and a type has 64 at most. Each has `=` or `|` in front.
abbrev pub in_constructors : ObcType → ℕ → Table ObcType → List (List ℕ) → List Bool
in_constructors t j cons [] = []
in_constructors t j cons (x ∷ xs) = true ∷ (is_new cons x && nat_lt j 64) ∷ in_constructors t (suc j) (with_entry cons x t) xs

abbrev pub with_constructors : ObcType → Table ObcType → List (List ℕ) → Table ObcType
with_constructors t cons [] = cons
with_constructors t cons (x ∷ xs) = with_constructors t (with_entry cons x t) xs

-- Types are distinct, and there are 1,000 at most.
abbrev pub in_type : Types → ObcType → List Bool
in_type ts t = true ∷ (is_new ts.names t.name && nat_lt (length ts.names) 1000) ∷ in_constructors t 0 ts.cons t.cons

abbrev pub with_type : Types → ObcType → Types
with_type ts t = record { names = with_entry ts.names t.name t; cons = with_constructors t ts.cons t.cons }

abbrev pub in_types : Types → List ObcType → List Bool
in_types ts [] = []
in_types ts (t ∷ types) = in_type ts t ++ in_types (with_type ts t) types

abbrev pub with_types : Types → List ObcType → Types
with_types ts [] = ts
with_types ts (t ∷ types) = with_types (with_type ts t) types

abbrev pub is_known : Types → Ty → Bool
is_known ts BoolTy = true
is_known ts IntTy = true
is_known ts (EnumTy x) = is_some (lookup ts.names x)

abbrev pub same_ty : Ty → Ty → Bool
same_ty BoolTy BoolTy = true
same_ty IntTy IntTy = true
same_ty (EnumTy x) (EnumTy y) = bytes_eq x y
same_ty t u = false

-- There are both, and they are the same.
abbrev pub agree : Option Ty → Option Ty → Bool
agree (Some t) (Some u) = same_ty t u
agree t u = false

-- the type of a constant, if it has one: an integer has 32 bits
abbrev pub const_ty : Types → Const → Option Ty
const_ty ts (BoolConst b) = Some BoolTy
const_ty ts (IntConst n) = if is_short n then Some IntTy else None
const_ty ts (EnumConst x) = option_map (λ (t : ObcType). EnumTy t.name) (lookup ts.cons x)

-- ---- declarations

-- Names are declared once, with types that are declared.
abbrev pub in_vars : Types → Bool → Table Ty → List Var → List Bool
in_vars ts first vars [] = []
in_vars ts first vars (v ∷ vs) = (comma first ++ is_new vars v.name ∷ true ∷ is_known ts v.ty ∷ []) ++ in_vars ts false (with_entry vars v.name v.ty) vs

abbrev pub with_vars : Table Ty → List Var → Table Ty
with_vars vars [] = vars
with_vars vars (v ∷ vs) = with_vars (with_entry vars v.name v.ty) vs

-- A first value is of the type.
abbrev pub in_mems : Types → Bool → Table Ty → List Mem → List Bool
in_mems ts first vars [] = []
in_mems ts first vars (m ∷ ms) =
    (comma first ++ is_new vars m.name ∷ true ∷ is_known ts m.ty ∷ true ∷ agree (const_ty ts m.first) (Some m.ty) ∷ []) ++ in_mems ts false (with_entry vars m.name m.ty) ms

abbrev pub with_mems : Table Ty → List Mem → Table Ty
with_mems vars [] = vars
with_mems vars (m ∷ ms) = with_mems (with_entry vars m.name m.ty) ms

-- an instance, where its machine is known
abbrev pub with_instance : Table Text → List ℕ → Option Text → Table Text
with_instance insts i None = insts
with_instance insts i (Some m) = with_entry insts i m

abbrev pub in_insts : Table Text → Bool → Table Text → List (List ℕ × List ℕ) → List Bool
in_insts machines first insts [] = []
in_insts machines first insts (i ∷ is) =
    (comma first ++ is_new insts i.0 ∷ true ∷ is_some (lookup machines i.1) ∷ []) ++ in_insts machines false (with_instance insts i.0 (lookup machines i.1)) is

abbrev pub with_insts : Table Text → Table Text → List (List ℕ × List ℕ) → Table Text
with_insts machines insts [] = insts
with_insts machines insts (i ∷ is) = with_insts machines (with_instance insts i.0 (lookup machines i.1)) is

-- ---- steps

-- what is known within a step: the names that it may read, those that it may write, and the machines of instances
pub record Context : Type 0 where
  pub types : Types
  pub vars : Table Ty
  pub written : Table Ty
  pub insts : Table Text

abbrev pub arg_ty : Context → Arg → Option Ty
arg_ty c (NameArg x) = lookup c.vars x
arg_ty c (ConstArg k) = const_ty c.types k

-- The operator gives the type of the name that is set. An operator of no type of its own gives any; a copy has no word.
abbrev pub in_op : ObcOp → Option Ty → List Bool
in_op Copy target = []
in_op Mux target = true ∷ []
in_op Neg target = agree target (Some IntTy) ∷ []
in_op Add target = agree target (Some IntTy) ∷ []
in_op Sub target = agree target (Some IntTy) ∷ []
in_op Mul target = agree target (Some IntTy) ∷ []
in_op Div target = agree target (Some IntTy) ∷ []
in_op Rem target = agree target (Some IntTy) ∷ []
in_op op target = agree target (Some BoolTy) ∷ []

-- the type that an argument is to have: that of the name that is set, a type of the operator's own, or that of the first argument
abbrev pub wanted : ObcOp → Option Ty → Option Ty → ℕ → Option Ty
wanted Copy target first n = target
wanted Mux target first zero = Some BoolTy
wanted Mux target first (suc n) = target
wanted Eq target first n = first
wanted Ne target first n = first
wanted Not target first n = Some BoolTy
wanted And target first n = Some BoolTy
wanted Or target first n = Some BoolTy
wanted Xor target first n = Some BoolTy
wanted Imp target first n = Some BoolTy
wanted op target first n = Some IntTy

abbrev pub first_ty : Context → List Arg → Option Ty
first_ty c [] = None
first_ty c (a ∷ args) = arg_ty c a

abbrev pub in_args : Context → ObcOp → Option Ty → Option Ty → ℕ → List Arg → List Bool
in_args c op target first n [] = []
in_args c op target first n (a ∷ args) = agree (arg_ty c a) (wanted op target first n) ∷ in_args c op target first (suc n) args

abbrev pub in_set : Context → List ℕ → ObcOp → List Arg → List Bool
in_set c x op args = (true ∷ is_some (lookup c.written x) ∷ in_op op (lookup c.written x)) ++ in_args c op (lookup c.written x) (first_ty c args) 0 args

abbrev pub is_empty : {A : Type 0} → List A → Bool
is_empty [] = true
is_empty (x ∷ xs) = false

abbrev pub behind : {A : Type 0} → List A → List A
behind [] = []
behind (x ∷ xs) = xs

-- The next output of a call is written, once, and is of its type.
abbrev pub is_output : Context → Table Ty → List ℕ → List Var → Bool
is_output c seen x [] = false
is_output c seen x (o ∷ outputs) = is_new seen x && agree (lookup c.written x) (Some o.ty)

abbrev pub with_output : Table Ty → List ℕ → List Var → Table Ty
with_output seen x [] = seen
with_output seen x (o ∷ outputs) = with_entry seen x o.ty

-- The outputs of a call are those of the machine, up to `)`.
abbrev pub in_outs : Context → Table Ty → List (List ℕ) → List Var → List Bool
in_outs c seen [] outputs = is_empty outputs ∷ []
in_outs c seen (x ∷ xs) outputs = is_output c seen x outputs ∷ in_outs c (with_output seen x outputs) xs (behind outputs)

abbrev pub is_input : Context → Arg → List Var → Bool
is_input c a [] = false
is_input c a (i ∷ inputs) = agree (arg_ty c a) (Some i.ty)

-- Its arguments are those of the machine, up to `)`.
abbrev pub in_inputs : Context → List Arg → List Var → List Bool
in_inputs c [] inputs = is_empty inputs ∷ []
in_inputs c (a ∷ args) inputs = is_input c a inputs ∷ in_inputs c args (behind inputs)

abbrev pub outputs_of : Option Text → List Var
outputs_of None = []
outputs_of (Some m) = m.outputs

abbrev pub inputs_of : Option Text → List Var
inputs_of None = []
inputs_of (Some m) = m.inputs

abbrev pub in_call : Context → List ℕ → List (List ℕ) → List Arg → List Bool
in_call c i outs args =
    (true ∷ is_some (lookup c.insts i) ∷ true ∷ in_outs c [] outs (outputs_of (lookup c.insts i))) ++ true ∷ in_inputs c args (inputs_of (lookup c.insts i))

abbrev pub same_bool : Bool → Bool → Bool
same_bool true b = b
same_bool false b = not b

abbrev pub same_const : Const → Const → Bool
same_const (BoolConst a) (BoolConst b) = same_bool a b
same_const (IntConst m) (IntConst n) = int_eq m n
same_const (EnumConst x) (EnumConst y) = bytes_eq x y
same_const c d = false

-- the value for an arm is the next one
abbrev pub is_next : Const → List Const → Bool
is_next c [] = false
is_next c (l ∷ labels) = same_const l c

-- the values of a type, in order; none of integers
abbrev pub cons_of : Option ObcType → List Const
cons_of None = []
cons_of (Some t) = map EnumConst t.cons

abbrev pub labels_of_ty : Types → Option Ty → List Const
labels_of_ty ts (Some BoolTy) = BoolConst false ∷ BoolConst true ∷ []
labels_of_ty ts (Some (EnumTy t)) = cons_of (lookup ts.names t)
labels_of_ty ts ty = []

-- A case is over truth values or an enumeration.
abbrev pub is_choice : Option Ty → Bool
is_choice (Some BoolTy) = true
is_choice (Some (EnumTy t)) = true
is_choice ty = false

module _ (c : Context) where
  abbrev mutual
    pub in_steps : Steps → List Bool
    in_steps done = []
    in_steps (and_then s ss) = in_step s ++ in_steps ss

    pub in_step : Step → List Bool
    in_step (set x op args) = in_set c x op args
    in_step (call i outs args) = in_call c i outs args
    in_step (restart i) = true ∷ is_some (lookup c.insts i) ∷ []
    in_step (case_of x bs) = (true ∷ is_choice (lookup c.vars x) ∷ []) ++ in_branches (labels_of_ty c.types (lookup c.vars x)) bs

    -- The arms have the values in order, up to `end`.
    pub in_branches : List Const → Branches → List Bool
    in_branches labels no_branch = is_empty labels ∷ []
    in_branches labels (more_branches k ss bs) = (true ∷ is_next k labels ∷ in_steps ss) ++ in_branches (behind labels) bs

-- ---- machines

abbrev pub all_vars : Text → Table Ty
all_vars m = with_mems (with_vars (with_vars (with_vars [] m.inputs) m.outputs) m.vars) m.mems

abbrev pub context_of : Types → Table Text → Text → Context
context_of ts machines m = record {
  types = ts;
  vars = all_vars m;
  written = with_mems (with_vars (with_vars [] m.outputs) m.vars) m.mems;
  insts = with_insts machines [] m.insts;
}

-- the sections of its inputs, outputs, variables and memories
abbrev pub in_names : Types → Text → List Bool
in_names ts m =
    in_section (in_vars ts true [] m.inputs) ++ in_section (in_vars ts true (with_vars [] m.inputs) m.outputs)
    ++ in_section (in_vars ts true (with_vars (with_vars [] m.inputs) m.outputs) m.vars)
    ++ in_section (in_mems ts true (with_vars (with_vars (with_vars [] m.inputs) m.outputs) m.vars) m.mems)

abbrev pub in_declarations : Types → Table Text → Text → List Bool
in_declarations ts machines m =
    in_section (in_vars ts true [] m.inputs) ++ in_section (in_vars ts true (with_vars [] m.inputs) m.outputs)
    ++ in_section (in_vars ts true (with_vars (with_vars [] m.inputs) m.outputs) m.vars)
    ++ in_section (in_mems ts true (with_vars (with_vars (with_vars [] m.inputs) m.outputs) m.vars) m.mems)
    ++ in_section (in_insts machines true [] m.insts)

abbrev pub in_machine : Types → Table Text → Text → List Bool
in_machine ts machines m = (true ∷ is_new machines m.name ∷ in_declarations ts machines m) ++ (true ∷ in_steps (context_of ts machines m) m.steps) ++ true ∷ []

abbrev pub in_machines : Types → Table Text → List Text → List Bool
in_machines ts machines [] = []
in_machines ts machines (m ∷ ms) = in_machine ts machines m ++ in_machines ts (with_entry machines m.name m) ms

abbrev pub no_types : Types
no_types = record { names = []; cons = [] }

-- whether each word of a file keeps the rules of form
abbrev pub in_file : File → List Bool
in_file f = (true ∷ true ∷ in_types no_types f.types) ++ in_machines (with_types no_types f.types) [] f.machines

-- each word keeps the rules
abbrev pub AllTrue : List Bool → Type 0
AllTrue [] = Unit {0}
AllTrue (v ∷ vs) = (v ≡ true) × AllTrue vs

-- The word of a number is the first that breaks a rule. Words are counted as far as a `usize` goes.
pub record BreaksAt (verdicts : List Bool) (number : ℕ) : Type 0 where
  pub front : List Bool
  pub rest : List Bool
  pub split : verdicts ≡ front ++ false ∷ rest
  pub kept : AllTrue front
  pub number_is : number ≡ min 18446744073709551615 (length front)

-- No word breaks a rule, or the one of this number is the first.
abbrev pub IsBreach : List Bool → Option ℕ → Type 0
IsBreach verdicts None = AllTrue verdicts
IsBreach verdicts (Some number) = BreaksAt verdicts number
