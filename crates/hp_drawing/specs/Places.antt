-- Where something stands, its registers, values that are chosen by the first condition that holds, and the words of automata.
use Rattle.std.specs.Prelude.{ℕ, ◌+◌, Bool, true, false, ◌&&◌, if◌then◌else◌, nat_eq, Option, List}
use Rattle.hp_circuit.specs.declared.circuit.Role.TheVariants as role
use Rattle.hp_circuit.specs.declared.circuit.Shape.{Shape}
use Rattle.hp_circuit.specs.declared.circuit.Shape.TheVariants.{Truth, Cons, Mark}
use Rattle.hp_circuit.specs.declared.circuit.Wire.TheVariants as wire
use Rattle.hp_tree.specs.declared.block.Trans.{Trans}
use Rattle.hp_tree.specs.Blocks.{States, no_state, more_states}
use Rattle.hp_drawing.specs.declared.parts.Jump.{Jump}
use Rattle.hp_drawing.specs.declared.parts.Lines.{Lines}
use Rattle.hp_drawing.specs.declared.parts.Place.{Place}
use Rattle.hp_drawing.specs.declared.parts.Register.{Register}
use Rattle.hp_drawing.specs.declared.parts.Rests.{Rests}
use Rattle.hp_drawing.specs.declared.parts.Value.{Value}
use Rattle.hp_drawing.specs.Told.{none_of, or_none, put_at}
use Rattle.hp_drawing.specs.Sketch.{Sketch, low, high, base, and_gate, or_gate, choose_gate, push, hole, set, read, next_slot, slot, set_next, holds}

-- the place of a node itself
abbrev pub top_place : Place
top_place = record { here = high; cut = low; kept = low; clock = base; outside = true }

-- the same on another clock
abbrev pub on_clock : Place → ℕ → Place
on_clock p clock = record p { clock = clock }

-- a free place may be early on the base clock, outside of all blocks
abbrev pub may_be_early : Place → Bool
may_be_early p = p.outside && nat_eq p.clock base

-- whether it is there
unfoldable pub there : Place → Sketch → ℕ × Sketch
there p s = and_gate p.here (holds p.clock s) s

abbrev pub inner_place : Place → ℕ → Place
inner_place p here = record p { here = here; clock = base; outside = false }

-- a block within the place, which is there where a condition holds
unfoldable pub within : Place → ℕ → Sketch → Place × Sketch
within p c s = let here = and_gate p.here c s in (inner_place p here.0, here.1)

abbrev pub reset_place : Place → ℕ → ℕ → Place
reset_place p cut kept = record p { cut = cut; kept = kept; clock = base; outside = false }

-- the body of a `reset` with this condition
unfoldable pub reset_by : Place → ℕ → Sketch → Place × Sketch
reset_by p c s =
    let cut = or_gate p.cut c s in
    let kept = choose_gate p.here cut.0 p.kept Truth cut.1 in
    (reset_place p cut.0 kept.0, kept.1)

-- the contract of a node that is called at the place
unfoldable pub called_at : Place → Sketch → Place × Sketch
called_at p s = let here = there p s in (inner_place p here.0, here.1)

-- ---- registers

abbrev pub register_of : ℕ → ℕ → ℕ → Shape → Register
register_of number read keeps p = record { slot = number; read = read; keeps = keeps; shape = p }

-- a register that holds this number at first
unfoldable pub new_register : Place → ℕ → Shape → Sketch → Register × Sketch
new_register place first p s =
    let held = slot (role.Register first low) p s in
    let start = push (wire.Constant first) p held.1 in
    let read = choose_gate place.cut start.0 held.0 p start.1 in
    let keeps = choose_gate place.kept start.0 held.0 p read.1 in
    (register_of (next_slot s) read.0 keeps.0 p, keeps.1)

-- what it takes where the place is there
unfoldable pub takes : Register → Place → ℕ → Sketch → Sketch
takes r place w s =
    let t = there place s in
    let next = choose_gate t.0 w r.keeps r.shape t.1 in
    set_next r.slot next.0 next.1

-- ---- chains

abbrev pub chain_add_as : Shape → ℕ → ℕ → ℕ → Sketch → ℕ × Sketch
chain_add_as Mark h c source s = (h, read h source (read h c s))
chain_add_as p h c source s = let rest = hole p s in (rest.0, set h (wire.If c source rest.0) rest.1)

-- The wire has this value where the condition holds, and that of the wire that is given elsewhere. An integer is one wire, which reads all of them.
unfoldable pub chain_add : ℕ → ℕ → Value → Sketch → ℕ × Sketch
chain_add h c source s = chain_add_as source.shape h c source.wire s

-- where no condition holds the value is the one of zeros
unfoldable pub chain_end : ℕ → Sketch → Sketch
chain_end h s = set h (wire.Constant 0) s

-- ---- jumps

abbrev pub jump : ℕ → ℕ → Jump
jump state restart = record { state = state; restart = restart }

-- one that is said later
unfoldable pub jump_hole : Shape → Sketch → Jump × Sketch
jump_hole p s =
    let state = hole p s in
    let restart = hole Truth state.1 in
    (jump state.0 restart.0, restart.1)

-- the state of a number
unfoldable pub jump_to : Shape → ℕ → ℕ → Sketch → Jump × Sketch
jump_to p number restart s = let state = push (wire.Constant number) p s in (jump state.0 restart, state.1)

abbrev pub jump_set : Jump → ℕ → Jump → Jump → Sketch → Sketch
jump_set j c source rest s = set j.restart (wire.If c source.restart rest.restart) (set j.state (wire.If c source.state rest.state) s)

-- where it goes if the condition holds, and the one that says it elsewhere
unfoldable pub jump_add : Jump → Shape → ℕ → Jump → Sketch → Jump × Sketch
jump_add j p c source s = let rest = jump_hole p s in (rest.0, jump_set j c source rest.0 rest.1)

-- it goes where the other does
unfoldable pub jump_end : Jump → Jump → Sketch → Sketch
jump_end j source s = set j.restart (wire.Copy source.restart) (set j.state (wire.Copy source.state) s)

-- ---- words

abbrev pub lines_of : Shape → Register → Register → Jump → Lines
lines_of p next pending active =
    record { shape = p; next = next; pending = pending; selected = jump next.read pending.read; active = active }

-- the words of an automaton of so many states
unfoldable pub new_lines : ℕ → Place → Sketch → Lines × Sketch
new_lines count place s =
    let next = new_register place 0 (Cons count) s in
    let pending = new_register place 0 Truth next.1 in
    let active = jump_hole (Cons count) pending.1 in
    (lines_of (Cons count) next.0 pending.0 active.0, active.1)

-- where an automaton stays that takes no weak transition
abbrev pub stays : Lines → Jump
stays l = jump l.active.state low

-- what is remembered of the automaton
unfoldable pub lines_take : Lines → Place → Jump → Sketch → Sketch
lines_take l place next s = takes l.pending place next.restart (takes l.next place next.state s)

-- where no state is selected memory's word stays, and where none is active the first one is next
unfoldable pub lines_end : Lines → Rests → Sketch → Sketch
lines_end l rests s =
    let first = jump_to l.shape 0 low (jump_end rests.strong l.selected s) in
    jump_end rests.weak first.0 first.1

-- the numbers of states by their names, of which those of a name that comes later count
abbrev pub Numbers : Type 0
Numbers = List ℕ → Option ℕ

abbrev pub put_numbers : ℕ → States → Numbers → Numbers
put_numbers k no_state before = before
put_numbers k (more_states f b until unless q ss) before = put_numbers (k + 1) ss (put_at before f k)

abbrev pub numbers_of : States → Numbers
numbers_of ss = put_numbers 0 ss none_of

-- a transition is added to a jump
abbrev pub restarts : Trans → ℕ
restarts q = if q.restart then high else low

unfoldable pub transition : Numbers → Shape → Jump → ℕ → Trans → Sketch → Jump × Sketch
transition numbers p rest c q s =
    let target = jump_to p (or_none (numbers q.target)) (restarts q) s in
    jump_add rest p c target.0 target.1
