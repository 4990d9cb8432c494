-- When types and machines make a file of machines.
use Rattle.std.specs.Prelude.{◌≡◌, ℕ, suc, ◌≤◌, max, Bool, true, false, ◌&&◌, ◌||◌, not, ◌==◌, nat_le, nat_lt, ℤ, pos, negsuc, List, [], ◌∷◌, ◌++◌, length, map, codes, Option, None, Some, IsSome, IsTrue, option_and_then, if◌then◌else◌}
use Rattle.std.specs.List.{list_all, All, IsDistinct}
use Rattle.std.specs.Str.{bytes_eq}
use Rattle.hp_base.specs.Bytes.{is_small, is_capital, is_word_byte}
use Rattle.hp_base.specs.Kinds.{KindData, Bools, Ints, Constructors}
use Rattle.hp_obc.specs.declared.command.Arg.{Arg}
use Rattle.hp_obc.specs.declared.command.Arg.TheVariants.{Name as NameArg, Const as ConstArg}
use Rattle.hp_base.specs.declared.ty.Const.{Const}
use Rattle.hp_base.specs.declared.ty.Const.TheVariants.{B as BoolConst, I as IntConst, E as EnumConst}
use Rattle.hp_obc.specs.declared.command.ObcOp.{ObcOp}
use Rattle.hp_obc.specs.declared.command.ObcOp.TheVariants.{Copy, Not, Neg, Mux, And, Or, Xor, Imp, Eq, Ne, Lt, Le, Gt, Ge, Add, Sub, Mul, Div, Rem}
use Rattle.hp_obc.specs.declared.machine.Var.{Var}
use Rattle.hp_obc.specs.declared.machine.Mem.{Mem}
use Rattle.hp_obc.specs.Commands.{Cmds, Cmd, Arms, done, and_then, set, call, restart, case_of, no_arm, more_arms}
use Rattle.hp_obc.specs.Machines.{ObcType, Machine}
use Rattle.hp_obc.specs.Values.{kind_of}
use Rattle.hp_obc.specs.Steps.{var_names, inst_names}

-- ---- names

-- such a byte, or the `$` of a name that a compiler made
abbrev pub is_name_byte : ℕ → Bool
is_name_byte b = is_word_byte b || b == 36

-- a word that is no name
abbrev pub is_reserved : List ℕ → Bool
is_reserved x = bytes_eq x (codes "true") || bytes_eq x (codes "false") || bytes_eq x (codes "bool") || bytes_eq x (codes "int")

-- the name of a type, a machine, a variable, a memory or an instance
abbrev pub is_name : List ℕ → Bool
is_name [] = false
is_name (b ∷ x) = is_small b && list_all is_name_byte x && nat_le (length (b ∷ x)) 270 && not (is_reserved (b ∷ x))

-- the name of a constructor
abbrev pub is_constructor : List ℕ → Bool
is_constructor [] = false
is_constructor (b ∷ x) = is_capital b && list_all is_word_byte x && nat_le (length (b ∷ x)) 255

-- Names are names, and differ.
abbrev pub AreNames : List (List ℕ) → Type 0
AreNames xs = All (λ x. IsTrue (is_name x)) xs × IsDistinct bytes_eq xs

-- ---- types

abbrev pub constructors_of : List ObcType → List (List ℕ)
constructors_of [] = []
constructors_of (t ∷ types) = t.cons ++ constructors_of types

-- a type has a constructor, and 64 at most
abbrev pub HasConstructors : ObcType → Type 0
HasConstructors t = (1 ≤ length t.cons) × (length t.cons ≤ 64)

-- There are 1,000 types at most; their names differ, and so do all constructors of the file.
pub record TypesForm (types : List ObcType) : Type 0 where
  pub number : length types ≤ 1000
  pub names : AreNames (map (λ (t : ObcType). t.name) types)
  pub counts : All HasConstructors types
  pub constructors : All (λ x. IsTrue (is_constructor x)) (constructors_of types)
  pub distinct : IsDistinct bytes_eq (constructors_of types)

-- ---- kinds of arguments

-- memories as variables
abbrev pub mem_vars : List Mem → List Var
mem_vars mems = map (λ (x : Mem). record { name = x.name; ty = x.ty }) mems

-- what a step may write, and what it may read
abbrev pub written : Machine → List Var
written m = m.outputs ++ m.vars ++ mem_vars m.mems

abbrev pub scope : Machine → List Var
scope m = m.inputs ++ written m

-- the kind of a name among some variables
abbrev pub kind_in : List ObcType → List Var → List ℕ → Option KindData
kind_in types [] x = None
kind_in types (v ∷ vars) x = if bytes_eq v.name x then kind_of types v.ty else kind_in types vars x

-- a name is among some names
abbrev pub has_name : List (List ℕ) → List ℕ → Bool
has_name [] x = false
has_name (y ∷ ys) x = bytes_eq y x || has_name ys x

-- the kind of a constructor, where the first of the types has the number n
abbrev pub constructor_kind : ℕ → List ObcType → List ℕ → Option KindData
constructor_kind n [] x = None
constructor_kind n (t ∷ types) x = if has_name t.cons x then Some (Constructors n t.cons) else constructor_kind (suc n) types x

-- an integer of 32 bits
abbrev pub is_short : ℤ → Bool
is_short (pos n) = nat_lt n 2147483648
is_short (negsuc n) = nat_lt n 2147483648

abbrev pub constant_kind : List ObcType → Const → Option KindData
constant_kind types (BoolConst b) = Some Bools
constant_kind types (IntConst n) = if is_short n then Some Ints else None
constant_kind types (EnumConst x) = constructor_kind 0 types x

-- a list with one more in front, where there are both
abbrev pub with_first : {A : Type 0} → Option A → Option (List A) → Option (List A)
with_first (Some x) (Some xs) = Some (x ∷ xs)
with_first x xs = None

abbrev pub argument_kind : List ObcType → List Var → Arg → Option KindData
argument_kind types vars (NameArg x) = kind_in types vars x
argument_kind types vars (ConstArg c) = constant_kind types c

abbrev pub argument_kinds : List ObcType → List Var → List Arg → Option (List KindData)
argument_kinds types vars [] = Some []
argument_kinds types vars (a ∷ args) = with_first (argument_kind types vars a) (argument_kinds types vars args)

abbrev pub name_kinds : List ObcType → List Var → List (List ℕ) → Option (List KindData)
name_kinds types vars [] = Some []
name_kinds types vars (x ∷ xs) = with_first (kind_in types vars x) (name_kinds types vars xs)

abbrev pub var_kinds : List ObcType → List Var → Option (List KindData)
var_kinds types [] = Some []
var_kinds types (x ∷ vars) = with_first (kind_of types x.ty) (var_kinds types vars)

abbrev pub same_kind : KindData → KindData → Bool
same_kind Bools Bools = true
same_kind Ints Ints = true
same_kind (Constructors m xs) (Constructors n ys) = m == n
same_kind k l = false

-- a kind, where two kinds are those of truth values, those of integers, or the same
abbrev pub for_bools : KindData → KindData → Option KindData
for_bools Bools Bools = Some Bools
for_bools k l = None

abbrev pub for_ints : KindData → KindData → KindData → Option KindData
for_ints given Ints Ints = Some given
for_ints given k l = None

abbrev pub for_same : KindData → KindData → KindData → Option KindData
for_same given k l = if same_kind k l then Some given else None

-- the kind of what an operator gives, where it takes arguments of the kinds: one, two or three
abbrev pub unary_kind : ObcOp → KindData → Option KindData
unary_kind Copy k = Some k
unary_kind Not Bools = Some Bools
unary_kind Neg Ints = Some Ints
unary_kind op k = None

abbrev pub binary_kind : ObcOp → KindData → KindData → Option KindData
binary_kind And k l = for_bools k l
binary_kind Or k l = for_bools k l
binary_kind Xor k l = for_bools k l
binary_kind Imp k l = for_bools k l
binary_kind Eq k l = for_same Bools k l
binary_kind Ne k l = for_same Bools k l
binary_kind Lt k l = for_ints Bools k l
binary_kind Le k l = for_ints Bools k l
binary_kind Gt k l = for_ints Bools k l
binary_kind Ge k l = for_ints Bools k l
binary_kind Add k l = for_ints Ints k l
binary_kind Sub k l = for_ints Ints k l
binary_kind Mul k l = for_ints Ints k l
binary_kind Div k l = for_ints Ints k l
binary_kind Rem k l = for_ints Ints k l
binary_kind op k l = None

abbrev pub ternary_kind : ObcOp → KindData → KindData → KindData → Option KindData
ternary_kind Mux Bools k l = for_same k k l
ternary_kind op j k l = None

abbrev pub result_kind : ObcOp → List KindData → Option KindData
result_kind op (k ∷ []) = unary_kind op k
result_kind op (k ∷ l ∷ []) = binary_kind op k l
result_kind op (j ∷ k ∷ l ∷ []) = ternary_kind op j k l
result_kind op kinds = None

-- how many arms a case over a kind has; there is none over integers
abbrev pub arms_for : KindData → Option ℕ
arms_for Bools = Some 2
arms_for Ints = None
arms_for (Constructors n names) = Some (length names)

-- the machine of an instance among earlier machines
abbrev pub machine_named : List Machine → List ℕ → Option Machine
machine_named [] x = None
machine_named (m ∷ machines) x = if bytes_eq m.name x then Some m else machine_named machines x

abbrev pub machine_of : List Machine → List (List ℕ × List ℕ) → List ℕ → Option Machine
machine_of earlier [] i = None
machine_of earlier (p ∷ insts) i = if bytes_eq p.0 i then machine_named earlier p.1 else machine_of earlier insts i

-- Both are there, and are the same.
abbrev pub BothAre : {A : Type 0} → Option A → Option A → Type 0
BothAre a b = IsSome a × (a ≡ b)

-- A call has the arguments and outputs of the machine, each output once.
pub record CallForm (types : List ObcType) (m callee : Machine) (outs : List (List ℕ)) (args : List Arg) : Type 0 where
  pub arguments : BothAre (argument_kinds types (scope m) args) (var_kinds types callee.inputs)
  pub outputs : BothAre (name_kinds types (written m) outs) (var_kinds types callee.outputs)
  pub once : IsDistinct bytes_eq outs

-- ---- commands

abbrev pub arm_count : Arms → ℕ
arm_count no_arm = 0
arm_count (more_arms cs arms) = suc (arm_count arms)

-- how many cases stand around a command at most
abbrev mutual
  pub depth : Cmds → ℕ
  depth done = 0
  depth (and_then c cs) = max (depth_of_one c) (depth cs)

  pub depth_of_one : Cmd → ℕ
  depth_of_one (set x op args) = 0
  depth_of_one (call i outs args) = 0
  depth_of_one (restart i) = 0
  depth_of_one (case_of x arms) = depth_of_arms arms

  pub depth_of_arms : Arms → ℕ
  depth_of_arms no_arm = 0
  depth_of_arms (more_arms done arms) = depth_of_arms arms
  depth_of_arms (more_arms (and_then c cs) arms) = max (suc (max (depth_of_one c) (depth cs))) (depth_of_arms arms)

module _ (types : List ObcType) (earlier : List Machine) (m : Machine) where
  abbrev mutual
    -- Each command sets or reads what the machine declares, of the right kinds.
    pub HaveForm : Cmds → Type 0
    HaveForm done = Unit {0}
    HaveForm (and_then c cs) = HasForm c × HaveForm cs

    pub HasForm : Cmd → Type 0
    HasForm (set x op args) = BothAre (kind_in types (written m) x) (option_and_then (result_kind op) (argument_kinds types (scope m) args))
    HasForm (call i outs args) = (callee : Machine) × (machine_of earlier m.insts i ≡ Some callee) × CallForm types m callee outs args
    HasForm (restart i) = IsSome (machine_of earlier m.insts i)
    HasForm (case_of x arms) = (option_and_then arms_for (kind_in types (scope m) x) ≡ Some (arm_count arms)) × ArmsHaveForm arms

    pub ArmsHaveForm : Arms → Type 0
    ArmsHaveForm no_arm = Unit {0}
    ArmsHaveForm (more_arms cs arms) = HaveForm cs × ArmsHaveForm arms

-- ---- machines

-- A machine has form for some types and earlier machines.
pub record MachineForm (types : List ObcType) (earlier : List Machine) (m : Machine) : Type 0 where
  pub name : IsTrue (is_name m.name)
  pub new : machine_named earlier m.name ≡ None
  pub names : AreNames (var_names (scope m))
  pub kinds : IsSome (var_kinds types (scope m))
  pub firsts : All (λ (x : Mem). BothAre (kind_of types x.ty) (constant_kind types x.first)) m.mems
  pub instances : AreNames (inst_names m.insts)
  pub instances_known : All (λ (i : List ℕ × List ℕ). IsSome (machine_named earlier i.1)) m.insts
  pub commands : HaveForm types earlier m m.step
  pub deep : depth m.step ≤ 300

-- Each machine has form for the machines before it.
abbrev pub MachinesForm : List ObcType → List Machine → List Machine → Type 0
MachinesForm types earlier [] = Unit {0}
MachinesForm types earlier (m ∷ machines) = MachineForm types earlier m × MachinesForm types (earlier ++ m ∷ []) machines

-- A file has form.
abbrev pub HasObcForm : List ObcType → List Machine → Type 0
HasObcForm types machines = TypesForm types × MachinesForm types [] machines
