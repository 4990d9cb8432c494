-- The grammar of the text of machines: what a text says, and the words that say it. A case names the value of each arm.
--
--   obc     = "obc" "1" { type } { machine }
--   type    = "type" name "=" Capital { "|" Capital }
--   machine = "machine" name "in" "(" vars ")" "out" "(" vars ")" "var" "(" vars ")" "mem" "(" mems ")" "inst" "(" insts ")"
--             "step" steps "end"
--   vars    = [ name ":" ty { "," name ":" ty } ]
--   mems    = [ name ":" ty "=" const { "," name ":" ty "=" const } ]
--   insts   = [ name ":" name { "," name ":" name } ]
--   step    = "set" name arg | "set" name "@op" arg .. arg | "call" name "(" { name } ")" "(" { arg } ")" | "reset" name
--           | "case" name { "|" const steps } "end"
use Rattle.std.specs.Prelude.{ℕ, true, false, List, [], ◌∷◌, ◌++◌, map, codes}
use Rattle.hp_base.specs.declared.ty.Ty.{Ty}
use Rattle.hp_base.specs.declared.ty.Ty.TheVariants.{Bool as BoolTy, Int as IntTy, Enum as EnumTy}
use Rattle.hp_base.specs.declared.ty.Const.{Const}
use Rattle.hp_base.specs.declared.ty.Const.TheVariants.{B as BoolConst, I as IntConst, E as EnumConst}
use Rattle.hp_obc.specs.declared.command.Arg.{Arg}
use Rattle.hp_obc.specs.declared.command.Arg.TheVariants.{Name as NameArg, Const as ConstArg}
use Rattle.hp_obc.specs.declared.command.ObcOp.{ObcOp}
use Rattle.hp_obc.specs.declared.command.ObcOp.TheVariants.{Copy, Not, Neg, Mux, And, Or, Xor, Imp, Eq, Ne, Lt, Le, Gt, Ge, Add, Sub, Mul, Div, Rem}
use Rattle.hp_obc.specs.declared.machine.Var.{Var}
use Rattle.hp_obc.specs.declared.machine.Mem.{Mem}
use Rattle.hp_obc.specs.Machines.{ObcType}
use Rattle.hp_obctext.specs.Words.{Word, leading, fixed, small, capital, number}

-- ---- what a text says

mutual
  -- steps in order
  pub data Steps : Type 0 where
    done : Steps
    and_then : Step → Steps → Steps

  pub data Step : Type 0 where
    set : List ℕ → ObcOp → List Arg → Step
    call : List ℕ → List (List ℕ) → List Arg → Step
    restart : List ℕ → Step
    case_of : List ℕ → Branches → Step

  -- the arms of a case, each with its value
  pub data Branches : Type 0 where
    no_branch : Branches
    more_branches : Const → Steps → Branches → Branches

-- the lists of a tree, made of plain lists
abbrev pub steps_of : List Step → Steps
steps_of [] = done
steps_of (s ∷ ss) = and_then s (steps_of ss)

abbrev pub branches_of : List (Const × Steps) → Branches
branches_of [] = no_branch
branches_of (b ∷ bs) = more_branches b.0 b.1 (branches_of bs)

-- a machine; an instance is its name and the name of its machine
pub record Text : Type 0 where
  pub name : List ℕ
  pub inputs : List Var
  pub outputs : List Var
  pub vars : List Var
  pub mems : List Mem
  pub insts : List (List ℕ × List ℕ)
  pub steps : Steps

pub record File : Type 0 where
  pub types : List ObcType
  pub machines : List Text

-- ---- its words

abbrev pub const_word : Const → Word
const_word (BoolConst true) = fixed (codes "true")
const_word (BoolConst false) = fixed (codes "false")
const_word (IntConst n) = number n
const_word (EnumConst x) = capital x

abbrev pub type_word : Ty → Word
type_word BoolTy = fixed (codes "bool")
type_word IntTy = fixed (codes "int")
type_word (EnumTy x) = small x

abbrev pub arg_word : Arg → Word
arg_word (NameArg x) = small x
arg_word (ConstArg c) = const_word c

-- the words of all of a list
abbrev pub each : {A : Type 0} → (A → List Word) → List A → List Word
each words [] = []
each words (x ∷ xs) = words x ++ each words xs

-- behind a comma
abbrev pub comma : {A : Type 0} → (A → List Word) → A → List Word
comma words x = fixed (codes ",") ∷ words x

-- the words of all of a list, with commas between
abbrev pub listed : {A : Type 0} → (A → List Word) → List A → List Word
listed words [] = []
listed words (x ∷ xs) = words x ++ each (comma words) xs

-- such a list in parentheses behind a word
abbrev pub section : {A : Type 0} → List ℕ → (A → List Word) → List A → List Word
section title words xs = leading title ∷ fixed (codes "(") ∷ listed words xs ++ fixed (codes ")") ∷ []

abbrev pub var_words : Var → List Word
var_words v = small v.name ∷ fixed (codes ":") ∷ type_word v.ty ∷ []

abbrev pub mem_words : Mem → List Word
mem_words m = small m.name ∷ fixed (codes ":") ∷ type_word m.ty ∷ fixed (codes "=") ∷ const_word m.first ∷ []

abbrev pub inst_words : List ℕ × List ℕ → List Word
inst_words i = small i.0 ∷ fixed (codes ":") ∷ small i.1 ∷ []

-- the word of an operator; a copy has none
abbrev pub op_words : ObcOp → List Word
op_words Copy = []
op_words Not = fixed (codes "@not") ∷ []
op_words Neg = fixed (codes "@neg") ∷ []
op_words Mux = fixed (codes "@mux") ∷ []
op_words And = fixed (codes "@and") ∷ []
op_words Or = fixed (codes "@or") ∷ []
op_words Xor = fixed (codes "@xor") ∷ []
op_words Imp = fixed (codes "@imp") ∷ []
op_words Eq = fixed (codes "@eq") ∷ []
op_words Ne = fixed (codes "@ne") ∷ []
op_words Lt = fixed (codes "@lt") ∷ []
op_words Le = fixed (codes "@le") ∷ []
op_words Gt = fixed (codes "@gt") ∷ []
op_words Ge = fixed (codes "@ge") ∷ []
op_words Add = fixed (codes "@add") ∷ []
op_words Sub = fixed (codes "@sub") ∷ []
op_words Mul = fixed (codes "@mul") ∷ []
op_words Div = fixed (codes "@div") ∷ []
op_words Rem = fixed (codes "@rem") ∷ []

abbrev pub set_words : List ℕ → ObcOp → List Arg → List Word
set_words x op args = leading (codes "set") ∷ small x ∷ op_words op ++ map arg_word args

abbrev pub call_words : List ℕ → List (List ℕ) → List Arg → List Word
call_words i outs args =
    leading (codes "call") ∷ small i ∷ fixed (codes "(") ∷ map small outs ++ fixed (codes ")") ∷ fixed (codes "(") ∷ map arg_word args ++ fixed (codes ")") ∷ []

abbrev mutual
  pub steps_words : Steps → List Word
  steps_words done = []
  steps_words (and_then s ss) = step_words s ++ steps_words ss

  pub step_words : Step → List Word
  step_words (set x op args) = set_words x op args
  step_words (call i outs args) = call_words i outs args
  step_words (restart i) = leading (codes "reset") ∷ small i ∷ []
  step_words (case_of x bs) = leading (codes "case") ∷ small x ∷ branches_words bs ++ leading (codes "end") ∷ []

  pub branches_words : Branches → List Word
  branches_words no_branch = []
  branches_words (more_branches c ss bs) = (leading (codes "|") ∷ const_word c ∷ steps_words ss) ++ branches_words bs

-- a constructor behind `|`
abbrev pub next_constructor : List ℕ → List Word
next_constructor x = leading (codes "|") ∷ capital x ∷ []

abbrev pub constructors_words : List (List ℕ) → List Word
constructors_words [] = []
constructors_words (x ∷ xs) = capital x ∷ each next_constructor xs

abbrev pub type_words : ObcType → List Word
type_words t = leading (codes "type") ∷ small t.name ∷ fixed (codes "=") ∷ constructors_words t.cons

abbrev pub machine_words : Text → List Word
machine_words m =
    leading (codes "machine") ∷ small m.name ∷ section (codes "in") var_words m.inputs ++ section (codes "out") var_words m.outputs
    ++ section (codes "var") var_words m.vars ++ section (codes "mem") mem_words m.mems ++ section (codes "inst") inst_words m.insts
    ++ leading (codes "step") ∷ steps_words m.steps ++ leading (codes "end") ∷ []

abbrev pub file_words : File → List Word
file_words f = fixed (codes "obc") ∷ fixed (codes "1") ∷ each type_words f.types ++ each machine_words f.machines
