-- What `sweep` runs: a program of some tasks, of which one may be active at a time, on inputs that come again and again.
-- Source: own; delayable tasks, after Delaval, Marchand and Rutten (LCTES 2010).
use Rattle.std.specs.Prelude.{◌≡◌, ℕ, zero, suc, ◌+◌, ◌-◌, ◌*◌, ◌/◌, ◌%◌, ◌^◌, min, nat_eq, if◌then◌else◌, Bool, true, List, [], ◌∷◌, ◌++◌, length, take, drop, replicate, codes, Some}
use Rattle.hp_base.specs.declared.value.Value.{Value}
use Rattle.hp_base.specs.declared.value.Value.TheVariants.{B}
use Rattle.hp_obc.specs.Form.{machine_named}
use Rattle.hp_obc.specs.Machines.{Machine, Obc}
use Rattle.hp_obc.specs.Steps.{Behaviour, Memory, machine_behaviour}
use Rattle.hp_driver.specs.Command.{summary_text}

-- ---- the program

-- the first so many parts, in order, with a text between two of them
abbrev pub row : List ℕ → (ℕ → List ℕ) → ℕ → List ℕ
row between part zero = []
row between part (suc zero) = part 1
row between part (suc (suc n)) = row between part (suc n) ++ (between ++ part (suc (suc n)))

-- a name with the digit of a task, of which there are at most nine
abbrev pub numbered : List ℕ → ℕ → List ℕ
numbered name n = name ++ (48 + n) ∷ []

-- a name with the number of each of so many tasks
abbrev pub names_text : List ℕ → ℕ → List ℕ
names_text name n = row (codes ", ") (numbered name) n

-- a node waits where it is requested and not let run, and is active until it ends
abbrev pub node_text : List ℕ
node_text = codes "node delayable(r, c, e : bool) returns (a, s : bool)\nlet\n  automaton\n    state Idle do a = false; s = r & c\n      until r & c then Active | r & not c then Wait\n    state Wait do a = false; s = c\n      until c then Active\n    state Active do a = true; s = false\n      until e then Idle\n  end\ntel\n"

-- the request and the end of a task
abbrev pub inputs_text : ℕ → List ℕ
inputs_text n = numbered (codes "r") n ++ numbered (codes ", e") n

-- two tasks are not active at once
abbrev pub pair_text : ℕ → ℕ → List ℕ
pair_text other n = numbered (codes "not (a") other ++ numbered (codes " & a") n ++ codes ")"

-- the task behind so many others is active at once with none of them
abbrev pub apart_text : ℕ → List ℕ
apart_text others = row (codes " & ") (λ other. pair_text other (others + 1)) others

-- no two tasks are active at once
abbrev pub guarantee_text : ℕ → List ℕ
guarantee_text zero = codes "true"
guarantee_text (suc zero) = codes "true"
guarantee_text (suc (suc n)) = row (codes " & ") apart_text (suc n)

-- what a task gives, and what it takes
abbrev pub results_text : ℕ → List ℕ
results_text n = numbered (codes "  (a") n ++ numbered (codes ", s") n ++ codes ") = "

abbrev pub call_text : ℕ → List ℕ
call_text n = numbered (codes "inlined delayable(r") n ++ numbered (codes ", c") n ++ numbered (codes ", e") n ++ codes ")"

-- what a task does
abbrev pub task_text : ℕ → List ℕ
task_text n = results_text n ++ call_text n

-- the outputs of the tasks: whether each is active, and whether each starts
abbrev pub outputs_text : ℕ → List ℕ
outputs_text n = codes " : bool) returns (" ++ names_text (codes "a") n ++ codes ", " ++ names_text (codes "s") n ++ codes " : bool)\n"

-- the inputs and outputs of the tasks
abbrev pub heading_text : ℕ → List ℕ
heading_text n = codes "node tasks(" ++ row (codes ", ") inputs_text n ++ outputs_text n

-- what is enforced, and by which variables
abbrev pub contract_text : ℕ → List ℕ
contract_text n = codes "contract enforce " ++ guarantee_text n ++ codes " with (" ++ names_text (codes "c") n ++ codes " : bool)\n"

-- what all tasks do
abbrev pub body_text : ℕ → List ℕ
body_text n = codes "let\n" ++ row (codes ";\n") task_text n ++ codes "\ntel\n"

-- the source text of so many tasks
abbrev pub tasks_text : ℕ → List ℕ
tasks_text n = node_text ++ heading_text n ++ contract_text n ++ body_text n

-- ---- its run

-- Each task is requested at every third instant, and ends at every fourth, shifted by its number. At even places stand the requests.
abbrev pub is_input : ℕ → ℕ → Bool
is_input place instant = nat_eq ((instant + (place / 2 + 1)) % (if nat_eq (place % 2) 0 then 3 else 4)) 0

-- the first so many inputs at an instant
abbrev pub inputs_at : ℕ → ℕ → List Value
inputs_at instant zero = []
inputs_at instant (suc place) = inputs_at instant place ++ (B (is_input place instant) ∷ [])

-- how often an output was true, as far as 64 bits can tell
abbrev pub one_more : ℕ → Value → ℕ
one_more count (B true) = min (count + 1) (2 ^ 64 - 1)
one_more count v = count

abbrev pub counted : List ℕ → List Value → List ℕ
counted (count ∷ counts) (v ∷ outputs) = one_more count v ∷ counted counts outputs
counted counts outputs = counts

-- a machine of so many inputs
module _ (b : Behaviour) (inputs : ℕ) where
  -- its memory behind so many instants
  abbrev pub memory_behind : ℕ → Memory
  memory_behind zero = b.reset
  memory_behind (suc n) = (b.step (memory_behind n) (inputs_at (suc n) inputs)).kept

  -- how often each of so many outputs was true by then
  abbrev pub counts_behind : ℕ → ℕ → List ℕ
  counts_behind outputs zero = replicate outputs 0
  counts_behind outputs (suc n) = counted (counts_behind outputs n) (b.step (memory_behind n) (inputs_at (suc n) inputs)).outputs

-- the machine of the tasks
abbrev pub tasks_name : List ℕ
tasks_name = codes "tasks"

-- The machine of the tasks is among these, with so many inputs and as many outputs.
pub record HasTasks (many : ℕ) (o : Obc) : Type 0 where
  pub machine : Machine
  pub named : machine_named o.machines tasks_name ≡ Some machine
  pub inputs : length machine.inputs ≡ many
  pub outputs : length machine.outputs ≡ many

-- How often each task was active, and how often each started, behind so many instants of that machine: of its outputs the first tell which task is active.
abbrev pub sweep_text : Obc → ℕ → ℕ → List ℕ
sweep_text o tasks instants =
    let counts = counts_behind (machine_behaviour o tasks_name) (2 * tasks) (2 * tasks) instants in summary_text (take tasks counts) (drop tasks counts)
