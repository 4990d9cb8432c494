-- The grammar as reading from left to right: what the words ahead come to, with the first one that is refused.
use Rattle.std.specs.Prelude.{ℕ, zero, suc, Bool, false, not, ◌||◌, if◌then◌else◌, List, [], ◌∷◌, ◌++◌, length, codes, Option, None, Some, is_some}
use Rattle.std.specs.Str.{bytes_eq}
use Rattle.hp_base.specs.declared.ty.Const.{Const}
use Rattle.hp_obc.specs.declared.command.Arg.{Arg}
use Rattle.hp_obc.specs.declared.command.ObcOp.{ObcOp}
use Rattle.hp_obc.specs.declared.command.ObcOp.TheVariants.{Copy, Not, Neg, Mux}
use Rattle.hp_obc.specs.declared.machine.Var.{Var}
use Rattle.hp_obc.specs.declared.machine.Mem.{Mem}
use Rattle.hp_obc.specs.Machines.{ObcType}
use Rattle.hp_obctext.specs.Files.{Steps, Step, Text, File, done as no_step, set, call, restart, case_of, steps_of, branches_of}
use Rattle.hp_obctext.specs.Outcomes.{Words, Outcome, done, refused, ◌>>=◌}
use Rattle.hp_obctext.specs.Spelling.{this, name_of, constructor_of, ty_of, label_of, const_of, arg_of, op_of}

abbrev pub Reader : Type 0 → Type 0
Reader A = Words → Outcome A

-- one word, which stands for something
abbrev pub one : {A : Type 0} → (List ℕ → Option A) → Reader A
one of [] = refused []
one of (w ∷ ws) = elim (of w) [ Some a ↦ done a ws | None ↦ refused (w ∷ ws) ]

abbrev pub fixed : List ℕ → Reader (Unit {0})
fixed word = one (this word)

-- whether the word ahead is one of some kind
abbrev pub is_ahead : (List ℕ → Bool) → Words → Bool
is_ahead kind [] = false
is_ahead kind (w ∷ ws) = kind w

abbrev pub is_this : List ℕ → List ℕ → Bool
is_this word w = bytes_eq w word

-- Items behind some that were read, while the word ahead begins one. Each item has a word, so there are not more items than words.
abbrev pub many_within : {A : Type 0} → (List ℕ → Bool) → Reader A → ℕ → List A → Reader (List A)
many_within begins item zero items ws = done items ws
many_within begins item (suc most) items ws =
    if is_ahead begins ws then (item ws >>= λ r. many_within begins item most (items ++ (r.0 ∷ [])) r.1) else done items ws

abbrev pub many : {A : Type 0} → (List ℕ → Bool) → Reader A → List A → Reader (List A)
many begins item items ws = many_within begins item (length ws) items ws

-- behind a word
abbrev pub behind : {A : Type 0} → List ℕ → Reader A → Reader A
behind word read ws = fixed word ws >>= λ r. read r.1

-- items with commas between them, if there are any in front of `)`
abbrev pub listed : {A : Type 0} → Reader A → Reader (List A)
listed item ws =
    if is_ahead (is_this (codes ")")) ws then done [] ws else (item ws >>= λ r. many (is_this (codes ",")) (behind (codes ",") item) (r.0 ∷ []) r.1)

-- such a list in parentheses behind a word
abbrev pub section : {A : Type 0} → List ℕ → Reader A → Reader (List A)
section title item ws =
    fixed title ws >>= λ r. fixed (codes "(") r.1 >>= λ r. listed item r.1 >>= λ xs. fixed (codes ")") xs.1 >>= λ r. done xs.0 r.1

abbrev pub var : Reader Var
var ws = one name_of ws >>= λ x. fixed (codes ":") x.1 >>= λ r. one ty_of r.1 >>= λ t. done (record { name = x.0; ty = t.0 }) t.1

abbrev pub mem : Reader Mem
mem ws =
    one name_of ws >>= λ x. fixed (codes ":") x.1 >>= λ r. one ty_of r.1 >>= λ t. fixed (codes "=") t.1 >>= λ r. one const_of r.1 >>= λ c.
    done (record { name = x.0; ty = t.0; first = c.0 }) c.1

abbrev pub inst : Reader (List ℕ × List ℕ)
inst ws = one name_of ws >>= λ x. fixed (codes ":") x.1 >>= λ r. one name_of r.1 >>= λ m. done (x.0, m.0) m.1

-- ---- steps

-- how many arguments an operator has
abbrev pub arity : ObcOp → ℕ
arity Copy = 1
arity Not = 1
arity Neg = 1
arity Mux = 3
arity op = 2

-- so many arguments behind some
abbrev pub args_behind : ℕ → List Arg → Reader (List Arg)
args_behind zero args ws = done args ws
args_behind (suc n) args ws = one arg_of ws >>= λ a. args_behind n (args ++ (a.0 ∷ [])) a.1

abbrev pub is_op : List ℕ → Bool
is_op w = is_some (op_of w)

-- an operator, or none in front of the argument of a copy
abbrev pub op_or_copy : Reader ObcOp
op_or_copy ws = if is_ahead is_op ws then one op_of ws else done Copy ws

abbrev pub assignment : Reader Step
assignment ws = fixed (codes "set") ws >>= λ r. one name_of r.1 >>= λ x. op_or_copy x.1 >>= λ op. args_behind (arity op.0) [] op.1 >>= λ args. done (set x.0 op.0 args.0) args.1

abbrev pub is_open : List ℕ → Bool
is_open w = not (is_this (codes ")") w)

abbrev pub names : Reader (List (List ℕ))
names ws = many is_open (one name_of) [] ws

abbrev pub args : Reader (List Arg)
args ws = many is_open (one arg_of) [] ws

abbrev pub call_step : Reader Step
call_step ws =
    fixed (codes "call") ws >>= λ r. one name_of r.1 >>= λ i. fixed (codes "(") i.1 >>= λ r. names r.1 >>= λ outs. fixed (codes ")") outs.1 >>= λ r.
    fixed (codes "(") r.1 >>= λ r. args r.1 >>= λ args. fixed (codes ")") args.1 >>= λ r. done (call i.0 outs.0 args.0) r.1

abbrev pub reset_step : Reader Step
reset_step ws = fixed (codes "reset") ws >>= λ r. one name_of r.1 >>= λ i. done (restart i.0) i.1

abbrev pub begins_step : List ℕ → Bool
begins_step w = is_this (codes "set") w || is_this (codes "call") w || is_this (codes "reset") w || is_this (codes "case") w

module _ (inner : Reader Steps) where
  abbrev pub branch : Reader (Const × Steps)
  branch ws = fixed (codes "|") ws >>= λ r. one label_of r.1 >>= λ c. inner c.1 >>= λ ss. done (c.0, ss.0) ss.1

  abbrev pub branches : Reader (List (Const × Steps))
  branches ws = many (is_this (codes "|")) branch [] ws

  abbrev pub case_step : Reader Step
  case_step ws =
      fixed (codes "case") ws >>= λ r. one name_of r.1 >>= λ x. branches x.1 >>= λ bs. fixed (codes "end") bs.1 >>= λ r.
      done (case_of x.0 (branches_of bs.0)) r.1

  abbrev pub step : Reader Step
  step ws =
      if is_ahead (is_this (codes "set")) ws then assignment ws else
      (if is_ahead (is_this (codes "call")) ws then call_step ws else
      (if is_ahead (is_this (codes "reset")) ws then reset_step ws else case_step ws))

-- steps, where so many may stand in each other
abbrev pub steps : ℕ → Reader Steps
steps zero ws = done no_step ws
steps (suc deep) ws = many begins_step (step (steps deep)) [] ws >>= λ ss. done (steps_of ss.0) ss.1

-- the same, as the code speaks of it
unfoldable pub steps_within : ℕ → Reader Steps
steps_within deep ws = steps deep ws

-- ---- files

abbrev pub next_constructor : Reader (List ℕ)
next_constructor = behind (codes "|") (one constructor_of)

abbrev pub constructors : Reader (List (List ℕ))
constructors ws = one constructor_of ws >>= λ c. many (is_this (codes "|")) next_constructor (c.0 ∷ []) c.1

abbrev pub type_declaration : Reader ObcType
type_declaration ws =
    fixed (codes "type") ws >>= λ r. one name_of r.1 >>= λ x. fixed (codes "=") x.1 >>= λ r. constructors r.1 >>= λ cs. done (record { name = x.0; cons = cs.0 }) cs.1

-- Steps stand at most 300 cases deep.
abbrev pub machine : Reader Text
machine ws =
    fixed (codes "machine") ws >>= λ r. one name_of r.1 >>= λ x. section (codes "in") var x.1 >>= λ inputs. section (codes "out") var inputs.1 >>= λ outputs.
    section (codes "var") var outputs.1 >>= λ vars. section (codes "mem") mem vars.1 >>= λ mems. section (codes "inst") inst mems.1 >>= λ insts.
    fixed (codes "step") insts.1 >>= λ r. steps_within 301 r.1 >>= λ ss. fixed (codes "end") ss.1 >>= λ r.
    done (record { name = x.0; inputs = inputs.0; outputs = outputs.0; vars = vars.0; mems = mems.0; insts = insts.0; steps = ss.0 }) r.1

abbrev pub types : Reader (List ObcType)
types ws = many (is_this (codes "type")) type_declaration [] ws

abbrev pub machines : Reader (List Text)
machines ws = many (is_this (codes "machine")) machine [] ws

abbrev pub all_read : {A : Type 0} → A → Reader A
all_read a [] = done a []
all_read a (w ∷ ws) = refused (w ∷ ws)

abbrev pub file : Reader File
file ws =
    fixed (codes "obc") ws >>= λ r. fixed (codes "1") r.1 >>= λ r. types r.1 >>= λ ts.
    machines ts.1 >>= λ ms. all_read (record { types = ts.0; machines = ms.0 }) ms.1
