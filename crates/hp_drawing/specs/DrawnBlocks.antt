-- What is drawn of blocks, control equations and automata. A block's names stay in the scope, which is given with the sketch; an equation leaves the scope as it is.
use Rattle.std.specs.Prelude.{ℕ, ◌+◌, slice_get, List, [], ◌∷◌, Option, None, Some}
use Rattle.hp_base.specs.declared.span.Span.{Span}
use Rattle.hp_circuit.specs.declared.circuit.Shape.TheVariants.{Truth}
use Rattle.hp_tree.specs.declared.block.Trans.{Trans}
use Rattle.hp_tree.specs.declared.decl.Cons as tree_cons
use Rattle.hp_tree.specs.Blocks.{Decl, Block, block, Eqns, no_eqn, more_eqns, Eqn, define, switch, reset, automaton, Arms, no_arm, more_arms, States, no_state, more_states, State}
use Rattle.hp_tree.specs.Expressions.{Expr, constant, variable, last_of, one, two, choose, pre, fby, arrow, when_is, merge, call, Exprs, no_expr, more_exprs}
use Rattle.hp_drawing.specs.declared.parts.Callee.{Callee}
use Rattle.hp_drawing.specs.declared.parts.Entered.{Entered}
use Rattle.hp_drawing.specs.declared.parts.Jump.{Jump}
use Rattle.hp_drawing.specs.declared.parts.Lines.{Lines}
use Rattle.hp_drawing.specs.declared.parts.Place.{Place}
use Rattle.hp_drawing.specs.declared.parts.Rests.{Rests}
use Rattle.hp_drawing.specs.declared.parts.Value.{Value}
use Rattle.hp_drawing.specs.Told.{Told}
use Rattle.hp_drawing.specs.Planned.{count_states}
use Rattle.hp_drawing.specs.Sketch as sketch
use Rattle.hp_drawing.specs.Sketch.{Sketch, base, high, hole, is_gate}
use Rattle.hp_drawing.specs.Places.{on_clock, within, reset_by, jump_hole, jump_add, jump_end, new_lines, stays, lines_take, lines_end, Numbers, numbers_of, transition}
use Rattle.hp_drawing.specs.Scopes.{Scope, value_in, own_entry, decl_by, Layer, own_layer, enter, hide, join, read_by_hidden, end_hidden, pop_values}
use Rattle.hp_drawing.specs.DrawnExpressions.{Brings, drawn, drawn_call, output, step_clock, has_cons}

-- ---- entering a block

abbrev pub own_of_block : Told → Scope → Block → Sketch → Layer × Sketch
own_of_block t z (block ds es) s = own_layer t z ds es s

abbrev pub enter_block : Told → Scope → Place → Block → Sketch → Scope × Sketch
enter_block t z place (block ds es) s = enter t z place ds es s

-- ---- the clocks of definitions

-- how an expression tells its clock: it is the base clock, that of a name, or the clock of a name with one step more, where the name has this value
pub data Telling : Type 0 where
  untold at_base : Telling
  of_name : List ℕ → Telling
  on_value : tree_cons.Cons → List ℕ → Telling

abbrev pub or_telling : Telling → Telling → Telling
or_telling untold other = other
or_telling told other = told

abbrev mutual
  pub tells : Expr → Telling
  tells (constant q c) = untold
  tells (variable q x) = of_name x
  tells (last_of q x) = at_base
  tells (one q o a) = tells a
  tells (two q o a b) = or_telling (tells a) (tells b)
  tells (choose q a b c) = or_telling (tells a) (or_telling (tells b) (tells c))
  tells (pre q a) = tells a
  tells (fby q a b) = or_telling (tells a) (tells b)
  tells (arrow q a b) = or_telling (tells a) (tells b)
  tells (when_is q a c x) = on_value c x
  tells (merge q x ps) = of_name x
  tells (call q f inlined es) = tells_all es

  pub tells_all : Exprs → Telling
  tells_all no_expr = untold
  tells_all (more_exprs e es) = or_telling (tells e) (tells_all es)

abbrev pub Path : Type 0
Path = List (tree_cons.Cons × List ℕ)

abbrev pub path_or : Option Path → Path
path_or None = []
path_or (Some path) = path

abbrev pub decl_path : Option Decl → Path
decl_path None = []
decl_path (Some d) = path_or d.clock

abbrev pub path_by : List Decl → Option ℕ → Path
path_by ds None = []
path_by ds (Some k) = decl_path (slice_get ds k)

-- the path of the clock of a name that the block declares
abbrev pub path_of : Scope → List Decl → List ℕ → Path
path_of z ds x = path_by ds (decl_by (own_entry z x))

-- the clock of a path, from a clock on
abbrev pub clock_on : Told → Scope → ℕ → Path → Sketch → ℕ × Sketch
clock_on t z clock [] s = (clock, s)
clock_on t z clock (p ∷ ps) s =
    let c = step_clock t z clock p.0 p.1 s in
    clock_on t z c.0 ps c.1

-- how the clock of a definition is told
abbrev pub told_by : List (List ℕ × Span) → Expr → Telling
told_by [] e = tells e
told_by (p ∷ ps) e = of_name p.0

abbrev pub clock_by : Told → Scope → List Decl → Telling → Sketch → ℕ × Sketch
clock_by t z ds untold s = (base, s)
clock_by t z ds at_base s = (base, s)
clock_by t z ds (of_name x) s = clock_on t z base (path_of z ds x) s
clock_by t z ds (on_value c x) s =
    let outer = clock_on t z base (path_of z ds x) s in
    step_clock t z outer.0 c x outer.1

-- the clock on which a definition stands, in the block of these declarations
unfoldable pub clock_of : Told → Scope → List Decl → List (List ℕ × Span) → Expr → Sketch → ℕ × Sketch
clock_of t z ds xs e s = clock_by t z ds (told_by xs e) s

-- ---- definitions

-- a name of the block has a value
abbrev pub define_name : Scope → List ℕ → Value → Sketch → Sketch
define_name z x v s = sketch.define (value_in z x).wire v s

-- each name has the output of a call at its place, from number k on
abbrev pub define_each : Scope → Callee → ℕ → List (List ℕ × Span) → Sketch → Sketch
define_each z c k [] s = s
define_each z c k (p ∷ ps) s = define_each z c (k + 1) ps (define_name z p.0 (output c k s) s)

-- the names have one value
abbrev pub define_all : Scope → List (List ℕ × Span) → Value → Sketch → Sketch
define_all z [] v s = s
define_all z (p ∷ ps) v s = define_all z ps v (define_name z p.0 v s)

abbrev pub defined_value : Scope → List (List ℕ × Span) → Value × Sketch → Sketch
defined_value z xs d = define_all z xs d.0 d.1

-- what stands on the right: a call has as many values as outputs, all else has one
abbrev pub drawn_right : Told → Brings → Scope → Place → List (List ℕ × Span) → Expr → Sketch → Sketch
drawn_right t brings z place xs (call q f inlined es) s =
    let c = drawn_call t brings z place f es s in
    define_each z c.0 0 xs c.1
drawn_right t brings z place xs e s = defined_value z xs (drawn t brings z place e s)

-- a definition, in the block of these declarations
abbrev pub drawn_definition : Told → Brings → Scope → Place → List Decl → List (List ℕ × Span) → Expr → Sketch → Sketch
drawn_definition t brings z place ds xs e s =
    let clock = clock_of t z ds xs e s in
    drawn_right t brings z (on_clock place clock.0) xs e clock.1

-- ---- transitions

-- what is told of an automaton: the numbers of its states, and the wires of its words
pub record Words : Type 0 where
  pub numbers : Numbers
  pub lines : Lines

abbrev pub words_of : Numbers → Lines → Words
words_of numbers lines = record { numbers = numbers; lines = lines }

-- the transitions are added to a jump, of which the part that is not said yet is given
abbrev pub drawn_transitions : Told → Brings → Scope → Place → Words → List Trans → Jump → Sketch → Jump × Sketch
drawn_transitions t brings z place words [] rest s = (rest, s)
drawn_transitions t brings z place words (q ∷ qs) rest s =
    let c = drawn t brings z place q.cond s in
    let more = transition words.numbers words.lines.shape rest c.0.wire q c.1 in
    drawn_transitions t brings z place words qs more.0 more.1

-- where the first transition goes whose condition holds, else where the other jump goes
abbrev pub drawn_jump : Told → Brings → Scope → Place → Words → List Trans → Jump → Sketch → Jump × Sketch
drawn_jump t brings z place words qs none s =
    let j = jump_hole words.lines.shape s in
    let rest = drawn_transitions t brings z place words qs j.0 j.1 in
    (j.0, jump_end rest.0 none rest.1)

-- strong transitions are read outside of the automaton, and weak ones in the state's body
abbrev pub drawn_strong : Told → Brings → Scope → Place → Words → List Trans → Sketch → Jump × Sketch
drawn_strong t brings z place words qs s = drawn_jump t brings (pop_values z) place words qs words.lines.selected s

abbrev pub drawn_weak : Told → Brings → Scope → Place → Words → List Trans → Sketch → Jump × Sketch
drawn_weak t brings z place words qs s = drawn_jump t brings z place words qs (stays words.lines) s

-- ---- states

abbrev pub rests_of : Jump → Jump → Rests
rests_of strong weak = record { strong = strong; weak = weak }

abbrev pub entered : ℕ → Place → Place → Entered
entered taken place body = record { taken = taken; place = place; body = body }

unfoldable pub enter_state : Lines → Place → ℕ → Sketch → Entered × Sketch
enter_state lines place k s =
    let taken = is_gate lines.active.state k s in
    let inside = within place taken.0 taken.1 in
    let body = reset_by inside.0 lines.active.restart inside.1 in
    (entered taken.0 inside.0 body.0, body.1)

-- the jumps of a state are added to those of the automaton
unfoldable pub leave_state : Lines → ℕ → ℕ → Jump → Jump → Rests → Sketch → Rests × Sketch
leave_state lines k taken strong weak rests s =
    let selected = is_gate lines.selected.state k s in
    let more = jump_add rests.strong lines.shape selected.0 strong selected.1 in
    let less = jump_add rests.weak lines.shape taken weak more.1 in
    (rests_of more.0 less.0, less.1)

-- what is given of states: the rests of the jumps, and the scope
abbrev pub Rested : Type 0
Rested = Rests × Scope × Sketch

-- behind the body of a state: its weak transitions in it, and its strong ones
abbrev pub state_end : Told → Brings → Place → Words → ℕ → List Trans → List Trans → Entered → Rests → Scope × Sketch → Rested
state_end t brings place words k until unless e rests b =
    let weak = drawn_weak t brings b.0 e.place words until b.1 in
    let joined = join e.taken b.0 weak.1 in
    let strong = drawn_strong t brings joined.0 place words unless joined.1 in
    let left = leave_state words.lines k e.taken strong.0 weak.0 rests strong.1 in
    (left.0, joined.0, left.1)

-- the jump that is remembered, and the rests of the jumps before all states
abbrev pub states_begin : Lines → Sketch → Jump × Sketch
states_begin lines s = jump_hole lines.shape s

abbrev pub states_end : Lines → Place → Jump → Rests → Sketch → Sketch
states_end lines place next rests s = lines_take lines place next (lines_end lines rests s)

-- behind all states the control equation is left
abbrev pub automaton_end : Lines → Place → Jump → Rested → Sketch
automaton_end lines place next r = end_hidden r.1 (states_end lines place next r.0 r.2)

-- ---- blocks

abbrev pub leave_hidden : Scope × Sketch → Sketch
leave_hidden d = end_hidden d.0 d.1

abbrev pub join_drawn : ℕ → Scope × Sketch → Scope × Sketch
join_drawn c d = join c d.0 d.1

-- an arm is there where it is taken
unfoldable pub enter_arm : Told → Place → ℕ → tree_cons.Cons → Sketch → ℕ × Place × Sketch
enter_arm t place condition c s =
    let taken = has_cons t condition c s in
    let inside = within place taken.0 taken.1 in
    (taken.0, inside.0, inside.1)

-- the condition of a `reset`, which is said behind its body, is read by all names that it defines
unfoldable pub reset_begin : Scope → Place → Sketch → ℕ × Place × Sketch
reset_begin z place s =
    let c = hole Truth s in
    let inside = reset_by place c.0 (read_by_hidden z c.0 c.1) in
    (c.0, inside.0, inside.1)

abbrev pub reset_end : ℕ → Value × Sketch → Sketch
reset_end c d = sketch.define c d.0 d.1

abbrev mutual
  pub drawn_block : Told → Brings → Scope → Place → Block → Sketch → Scope × Sketch
  drawn_block t brings z place (block ds es) s =
      let inside = enter t z place ds es s in
      (inside.0, drawn_eqns t brings inside.0 place ds es inside.1)

  -- the equations of a block with these declarations
  pub drawn_eqns : Told → Brings → Scope → Place → List Decl → Eqns → Sketch → Sketch
  drawn_eqns t brings z place ds no_eqn s = s
  drawn_eqns t brings z place ds (more_eqns e es) s = drawn_eqns t brings z place ds es (drawn_eqn t brings z place ds e s)

  pub drawn_eqn : Told → Brings → Scope → Place → List Decl → Eqn → Sketch → Sketch
  drawn_eqn t brings z place ds (define q xs e) s = drawn_definition t brings z place ds xs e s
  drawn_eqn t brings z place ds (switch q e arms) s =
      let c = drawn t brings z place e s in
      leave_hidden (drawn_arms t brings (hide z (switch q e arms)) place c.0.wire arms c.1)
  drawn_eqn t brings z place ds (reset q b e) s =
      let c = reset_begin (hide z (reset q b e)) place s in
      let body = drawn_block t brings (hide z (reset q b e)) c.1 b c.2 in
      reset_end c.0 (drawn t brings z place e (leave_hidden (join_drawn high body)))
  drawn_eqn t brings z place ds (automaton q ss) s =
      let lines = new_lines (count_states ss) place s in
      let next = states_begin lines.0 lines.1 in
      automaton_end lines.0 place next.0
      (drawn_states t brings (hide z (automaton q ss)) place (words_of (numbers_of ss) lines.0) 0 ss (rests_of lines.0.active next.0) next.1)

  -- the arms of a `switch` on a wire
  pub drawn_arms : Told → Brings → Scope → Place → ℕ → Arms → Sketch → Scope × Sketch
  drawn_arms t brings z place condition no_arm s = (z, s)
  drawn_arms t brings z place condition (more_arms c b q arms) s =
      let arm = enter_arm t place condition c s in
      let joined = join_drawn arm.0 (drawn_block t brings z arm.1 b arm.2) in
      drawn_arms t brings joined.0 place condition arms joined.1

  -- the states from number k on: each has its body, its weak transitions in it, and its strong ones
  pub drawn_states : Told → Brings → Scope → Place → Words → ℕ → States → Rests → Sketch → Rested
  drawn_states t brings z place words k no_state rests s = (rests, z, s)
  drawn_states t brings z place words k (more_states f b until unless q ss) rests s =
      let e = enter_state words.lines place k s in
      let left = state_end t brings place words k until unless e.0 rests (drawn_block t brings z e.0.body b e.1) in
      drawn_states t brings left.1 place words (k + 1) ss left.0 left.2

-- a state, as the element of a list
abbrev pub drawn_state : Told → Brings → Scope → Place → Words → ℕ → State → Rests → Sketch → Rested
drawn_state t brings z place words k q rests s =
    let e = enter_state words.lines place k s in
    state_end t brings place words k q.until q.unless e.0 rests (drawn_block t brings z e.0.body q.body e.1)

-- ---- equations by their parts

abbrev pub drawn_switch : Told → Brings → Scope → Place → Eqn → Expr → Arms → Sketch → Sketch
drawn_switch t brings z place eqn e arms s =
    let c = drawn t brings z place e s in
    leave_hidden (drawn_arms t brings (hide z eqn) place c.0.wire arms c.1)

abbrev pub drawn_reset : Told → Brings → Scope → Place → Eqn → Block → Expr → Sketch → Sketch
drawn_reset t brings z place eqn b e s =
    let c = reset_begin (hide z eqn) place s in
    let body = drawn_block t brings (hide z eqn) c.1 b c.2 in
    reset_end c.0 (drawn t brings z place e (leave_hidden (join_drawn high body)))

-- all states of an automaton, and what is remembered of it
abbrev pub remembered : Lines → Place → Jump → Rested → Scope × Sketch
remembered lines place next r = (r.1, states_end lines place next r.0 r.2)

abbrev pub drawn_all_states : Told → Brings → Scope → Place → Words → States → Sketch → Scope × Sketch
drawn_all_states t brings z place words ss s =
    let next = states_begin words.lines s in
    remembered words.lines place next.0 (drawn_states t brings z place words 0 ss (rests_of words.lines.active next.0) next.1)

abbrev pub drawn_automaton : Told → Brings → Scope → Place → Eqn → States → Sketch → Sketch
drawn_automaton t brings z place eqn ss s =
    let lines = new_lines (count_states ss) place s in
    leave_hidden (drawn_all_states t brings (hide z eqn) place (words_of (numbers_of ss) lines.0) ss lines.1)
