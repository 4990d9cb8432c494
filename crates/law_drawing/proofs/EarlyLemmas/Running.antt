-- A relation between sketches that all single steps of drawing keep, and that goes on, is kept by all that is made of them, but for free slots.
use Rattle.std.proofs.Common.{ℕ, ◌+◌, Bool, true, false, if◌then◌else◌, nat_eq, List, [], ◌∷◌, Option, None, Some}
use Rattle.std.specs.Prelude.{⊤}
use Rattle.hp_base.specs.declared.span.Span.{Span}
use Rattle.hp_base.specs.declared.ty.Const.{Const}
use Rattle.hp_circuit.specs.declared.circuit.Role.{Role}
use Rattle.hp_circuit.specs.declared.circuit.Role.TheVariants as role
use Rattle.hp_circuit.specs.declared.circuit.Shape.{Shape}
use Rattle.hp_circuit.specs.declared.circuit.Shape.TheVariants.{Truth, Cons, Mark}
use Rattle.hp_circuit.specs.declared.circuit.Wire.{Wire}
use Rattle.hp_circuit.specs.declared.circuit.Wire.TheVariants as wire
use Rattle.hp_tree.specs.declared.block.Trans.{Trans}
use Rattle.hp_tree.specs.declared.decl.Cons as tree_cons
use Rattle.hp_tree.specs.declared.expr.Op1.{Op1}
use Rattle.hp_tree.specs.declared.expr.Op1.TheVariants.{Not, Neg}
use Rattle.hp_tree.specs.declared.expr.Op2.{Op2}
use Rattle.hp_tree.specs.declared.expr.Op2.TheVariants.{And, Or, Xor, Imp, Eq, Ne, Lt, Le, Gt, Ge, Add, Sub, Mul, Div, Rem}
use Rattle.hp_tree.specs.Blocks.{Decl, Eqns}
use Rattle.hp_tree.specs.Expressions.{Expr}
use Rattle.hp_tree.specs.Programs.{Node}
use Rattle.hp_drawing.specs.declared.parts.Callee.{Callee}
use Rattle.hp_drawing.specs.declared.parts.Entry.{Entry}
use Rattle.hp_drawing.specs.declared.parts.Jump.{Jump}
use Rattle.hp_drawing.specs.declared.parts.Lines.{Lines}
use Rattle.hp_drawing.specs.declared.parts.Place.{Place}
use Rattle.hp_drawing.specs.declared.parts.Register.{Register}
use Rattle.hp_drawing.specs.declared.parts.Rests.{Rests}
use Rattle.hp_drawing.specs.declared.parts.Value.{Value}
use Rattle.hp_drawing.specs.Kept.{is_mark}
use Rattle.hp_drawing.specs.Told.{Told, type_shape, constant_number, constant_shape, or_none}
use Rattle.hp_drawing.specs.Sketch as sketch
use Rattle.hp_drawing.specs.Sketch.{Sketch, low, high, truth, next_wire, next_slot, push, set, read, mark, mark_of, hole, define_as, define, copy, not_gate, and_gate, or_gate, choose_gate, is_gate, slot, given, set_next, add_clock, inner_clock, holds, with_hyp, with_duty, with_assume, with_hyp_drawn, with_duty_drawn, hyp_of, duty_of, add_told, add_call, finish}
use Rattle.hp_drawing.specs.Places.{Numbers, there, within, reset_by, called_at, new_register, takes, chain_add_as, chain_add, chain_end, jump_hole, jump_to, jump_set, jump_add, jump_end, new_lines, lines_take, lines_end, restarts, transition}
use Rattle.hp_drawing.specs.Scopes.{Scope, Layer, shapes_in, value_in, entry_in, last_entry_if, last_entry, wire_in, add_last, add_lasts, local_entry, add, put_locals, put_name_if, put_name, put_names, own_layer, names_of_eqns, enter, branch_value, join_name, join_names, join_layers, join, top_layer, outer_layers, read_by_names, read_by_hidden, end_name, end_names, end_hidden}
use Rattle.hp_drawing.specs.DrawnExpressions.{drawn_constant, cons_number, has_cons, step_clock, mark_of_two, mark_of_three, drawn_one, drawn_two, chosen_as, drawn_choice, takes_input, output, add_hole, add_holes, two_end, delay_begin, delay_take, pre_end, fby_end, sampled, merge_begin, merge_end}
use Rattle.hp_drawing.specs.DrawnBlocks.{Telling, untold, at_base, of_name, on_value, Path, path_of, clock_on, told_by, clock_by, clock_of, define_name, define_each, define_all, enter_state, leave_state, enter_arm, reset_begin, automaton_end}
use Rattle.hp_drawing.specs.DrawnNodes.{contract_scope, contract_layer, define_from}

-- what is not free
abbrev pub IsHeld : Role → Type 0
IsHeld (role.Register first next) = ⊤
IsHeld role.Input = ⊤
IsHeld role.Control = ⊤
IsHeld (role.Free early) = ⊥

module _ (R : Sketch → Sketch → Type 0) where
  -- no step, two steps, and the single ones
  pub record Running : Type 0 where
    pub none_runs : (s : Sketch) → R s s
    pub both_run : (a b c : Sketch) → R a b → R b c → R a c
    pub push_runs : (w : Wire) (p : Shape) (s : Sketch) → R s (push w p s).1
    pub set_runs : (w : ℕ) (g : Wire) (s : Sketch) → R s (set w g s)
    pub read_runs : (w v : ℕ) (s : Sketch) → R s (read w v s)
    pub clock_runs : (h o : ℕ) (s : Sketch) → R s (add_clock h o s).1
    pub next_runs : (i next : ℕ) (s : Sketch) → R s (set_next i next s)
    pub slot_runs : (r : Role) (p : Shape) (s : Sketch) → IsHeld r → R s (slot r p s).1

  -- and those that tell what is assumed, supposed and owed
  pub record TellingRuns : Type 0 where
    pub hyp_runs : (w : ℕ) (s : Sketch) → R s (with_hyp w s)
    pub duty_runs : (w : ℕ) (s : Sketch) → R s (with_duty w s)
    pub assume_runs : (w : ℕ) (s : Sketch) → R s (with_assume w s)

  module _ (o : Running) where
    -- ---- wires

    pub mark-runs : (s : Sketch) → R s (mark s).1
    unfolding mark
    mark-runs s = o.push_runs (wire.Constant 0) Mark s

    pub mark_of-runs : (w : ℕ) (s : Sketch) → R s (mark_of w s).1
    unfolding mark_of
    mark_of-runs w s = o.both_run s (mark s).1 (read (mark s).0 w (mark s).1) (mark-runs s) (o.read_runs (mark s).0 w (mark s).1)

    pub hole-runs : (p : Shape) (s : Sketch) → R s (hole p s).1
    unfolding hole
    hole-runs Truth s = o.push_runs (wire.Copy (next_wire s)) Truth s
    hole-runs (Cons n) s = o.push_runs (wire.Copy (next_wire s)) (Cons n) s
    hole-runs Mark s = mark-runs s

    as-runs : (p : Shape) (w v : ℕ) (s : Sketch) → R s (define_as p w v s)
    as-runs Truth w v s = o.set_runs w (wire.Copy v) s
    as-runs (Cons n) w v s = o.set_runs w (wire.Copy v) s
    as-runs Mark w v s = o.read_runs w v s

    pub define-runs : (w : ℕ) (v : Value) (s : Sketch) → R s (define w v s)
    unfolding define
    define-runs w v s = as-runs v.shape w v.wire s

    pub copy-runs : (v : Value) (s : Sketch) → R s (copy v s).1
    unfolding copy
    copy-runs v s = o.both_run s (hole v.shape s).1 (define (hole v.shape s).0 v (hole v.shape s).1) (hole-runs v.shape s) (define-runs (hole v.shape s).0 v (hole v.shape s).1)

    -- ---- gates

    if-runs : {A : Type 0} (b : Bool) (s : Sketch) (x y : A × Sketch) → R s x.1 → R s y.1 → R s (if b then x else y).1
    if-runs true s x y h k = h
    if-runs false s x y h k = k

    pub not-runs : (a : ℕ) (s : Sketch) → R s (not_gate a s).1
    unfolding not_gate
    not-runs a s =
        if-runs (nat_eq a low) s (high, s) (if nat_eq a high then (low, s) else push (wire.Not a) Truth s) (o.none_runs s)
        (if-runs (nat_eq a high) s (low, s) (push (wire.Not a) Truth s) (o.none_runs s) (o.push_runs (wire.Not a) Truth s))

    pub and-runs : (a b : ℕ) (s : Sketch) → R s (and_gate a b s).1
    unfolding and_gate
    and-runs a b s =
        let fourth = if-runs (nat_eq b high) s (a, s) (push (wire.And a b) Truth s) (o.none_runs s) (o.push_runs (wire.And a b) Truth s) in
        let third = if-runs (nat_eq a high) s (b, s) (if nat_eq b high then (a, s) else push (wire.And a b) Truth s) (o.none_runs s) fourth in
        let second = if-runs (nat_eq b low) s (low, s) (if nat_eq a high then (b, s) else if nat_eq b high then (a, s) else push (wire.And a b) Truth s) (o.none_runs s) third in
        if-runs (nat_eq a low) s (low, s) (if nat_eq b low then (low, s) else if nat_eq a high then (b, s) else if nat_eq b high then (a, s) else push (wire.And a b) Truth s) (o.none_runs s) second

    pub or-runs : (a b : ℕ) (s : Sketch) → R s (or_gate a b s).1
    unfolding or_gate
    or-runs a b s =
        let fourth = if-runs (nat_eq b low) s (a, s) (push (wire.Or a b) Truth s) (o.none_runs s) (o.push_runs (wire.Or a b) Truth s) in
        let third = if-runs (nat_eq a low) s (b, s) (if nat_eq b low then (a, s) else push (wire.Or a b) Truth s) (o.none_runs s) fourth in
        let second = if-runs (nat_eq b high) s (high, s) (if nat_eq a low then (b, s) else if nat_eq b low then (a, s) else push (wire.Or a b) Truth s) (o.none_runs s) third in
        if-runs (nat_eq a high) s (high, s) (if nat_eq b high then (high, s) else if nat_eq a low then (b, s) else if nat_eq b low then (a, s) else push (wire.Or a b) Truth s) (o.none_runs s) second

    pub choose-runs : (c a b : ℕ) (p : Shape) (s : Sketch) → R s (choose_gate c a b p s).1
    unfolding choose_gate
    choose-runs c a b p s =
        if-runs (nat_eq c low) s (b, s) (if nat_eq c high then (a, s) else push (wire.If c a b) p s) (o.none_runs s)
        (if-runs (nat_eq c high) s (a, s) (push (wire.If c a b) p s) (o.none_runs s) (o.push_runs (wire.If c a b) p s))

    pub is-runs : (w n : ℕ) (s : Sketch) → R s (is_gate w n s).1
    unfolding is_gate
    is-runs w n s = o.push_runs (wire.Is w n) Truth s

    pub given-runs : (r : Role) (p : Shape) (s : Sketch) → IsHeld r → R s (given r p s).1
    unfolding given
    given-runs r Truth s h = o.slot_runs r Truth s h
    given-runs r (Cons n) s h = o.slot_runs r (Cons n) s h
    given-runs r Mark s h = mark-runs s

    pub inner-runs : (c w : ℕ) (s : Sketch) → R s (inner_clock c w s).1
    unfolding inner_clock
    inner-runs c w s = let h = and_gate (holds c s) w s in o.both_run s h.1 (add_clock h.0 c h.1).1 (and-runs (holds c s) w s) (o.clock_runs h.0 c h.1)

    -- ---- contracts

    pub told-runs : TellingRuns → (a b : ℕ) (s : Sketch) → R s (add_told a b s)
    unfolding add_told
    told-runs q a b s =
        let x = and_gate (hyp_of s) a s in
        let h = with_hyp_drawn x in
        let y = and_gate (duty_of h) b h in
        o.both_run s h (with_duty_drawn y) (o.both_run s x.1 h (and-runs (hyp_of s) a s) (q.hyp_runs x.0 x.1)) (o.both_run h y.1 (with_duty_drawn y) (and-runs (duty_of h) b h) (q.duty_runs y.0 y.1))

    pub call-runs : TellingRuns → (here assume enforce : ℕ) (s : Sketch) → R s (add_call here assume enforce s)
    unfolding add_call
    call-runs q here assume enforce s =
        let away = not_gate here s in
        let unassumed = not_gate assume away.1 in
        let kept = or_gate unassumed.0 enforce unassumed.1 in
        let supposed = or_gate away.0 kept.0 kept.1 in
        let owed = or_gate away.0 assume supposed.1 in
        let one = o.both_run s away.1 unassumed.1 (not-runs here s) (not-runs assume away.1) in
        let two = o.both_run s unassumed.1 kept.1 one (or-runs unassumed.0 enforce unassumed.1) in
        let three = o.both_run s kept.1 supposed.1 two (or-runs away.0 kept.0 kept.1) in
        let four = o.both_run s supposed.1 owed.1 three (or-runs away.0 assume supposed.1) in
        o.both_run s owed.1 (add_told supposed.0 owed.0 owed.1) four (told-runs q supposed.0 owed.0 owed.1)

    pub finish-runs : TellingRuns → (assume enforce : ℕ) (s : Sketch) → R s (finish assume enforce s)
    unfolding finish
    finish-runs q assume enforce s =
        let a = with_assume assume s in
        let x = and_gate assume (hyp_of a) a in
        let h = with_hyp_drawn x in
        let y = and_gate enforce (duty_of h) h in
        let one = o.both_run s a x.1 (q.assume_runs assume s) (and-runs assume (hyp_of a) a) in
        let two = o.both_run s x.1 h one (q.hyp_runs x.0 x.1) in
        let three = o.both_run s h y.1 two (and-runs enforce (duty_of h) h) in
        o.both_run s y.1 (with_duty_drawn y) three (q.duty_runs y.0 y.1)

    -- ---- places and registers

    pub there-runs : (p : Place) (s : Sketch) → R s (there p s).1
    unfolding there
    there-runs p s = and-runs p.here (holds p.clock s) s

    pub within-runs : (p : Place) (c : ℕ) (s : Sketch) → R s (within p c s).1
    unfolding within
    within-runs p c s = and-runs p.here c s

    pub reset-runs : (p : Place) (c : ℕ) (s : Sketch) → R s (reset_by p c s).1
    unfolding reset_by
    reset-runs p c s =
        let cut = or_gate p.cut c s in
        o.both_run s cut.1 (choose_gate p.here cut.0 p.kept Truth cut.1).1 (or-runs p.cut c s) (choose-runs p.here cut.0 p.kept Truth cut.1)

    pub called-runs : (p : Place) (s : Sketch) → R s (called_at p s).1
    unfolding called_at
    called-runs p s = there-runs p s

    pub register-runs : (place : Place) (first : ℕ) (p : Shape) (s : Sketch) → R s (new_register place first p s).1
    unfolding new_register
    register-runs place first p s =
        let held = slot (role.Register first low) p s in
        let start = push (wire.Constant first) p held.1 in
        let reads = choose_gate place.cut start.0 held.0 p start.1 in
        let keeps = choose_gate place.kept start.0 held.0 p reads.1 in
        let one = o.both_run s held.1 start.1 (o.slot_runs (role.Register first low) p s tt) (o.push_runs (wire.Constant first) p held.1) in
        o.both_run s reads.1 keeps.1 (o.both_run s start.1 reads.1 one (choose-runs place.cut start.0 held.0 p start.1)) (choose-runs place.kept start.0 held.0 p reads.1)

    pub takes-runs : (r : Register) (place : Place) (w : ℕ) (s : Sketch) → R s (takes r place w s)
    unfolding takes
    takes-runs r place w s =
        let x = there place s in
        let next = choose_gate x.0 w r.keeps r.shape x.1 in
        o.both_run s next.1 (set_next r.slot next.0 next.1) (o.both_run s x.1 next.1 (there-runs place s) (choose-runs x.0 w r.keeps r.shape x.1)) (o.next_runs r.slot next.0 next.1)

    -- ---- chains and jumps

    chain_as-runs : (p : Shape) (h c w : ℕ) (s : Sketch) → R s (chain_add_as p h c w s).1
    chain_as-runs Truth h c w s = let rest = hole Truth s in o.both_run s rest.1 (set h (wire.If c w rest.0) rest.1) (hole-runs Truth s) (o.set_runs h (wire.If c w rest.0) rest.1)
    chain_as-runs (Cons n) h c w s = let rest = hole (Cons n) s in o.both_run s rest.1 (set h (wire.If c w rest.0) rest.1) (hole-runs (Cons n) s) (o.set_runs h (wire.If c w rest.0) rest.1)
    chain_as-runs Mark h c w s = o.both_run s (read h c s) (read h w (read h c s)) (o.read_runs h c s) (o.read_runs h w (read h c s))

    pub chain-runs : (h c : ℕ) (v : Value) (s : Sketch) → R s (chain_add h c v s).1
    unfolding chain_add
    chain-runs h c v s = chain_as-runs v.shape h c v.wire s

    pub chain_end-runs : (h : ℕ) (s : Sketch) → R s (chain_end h s)
    unfolding chain_end
    chain_end-runs h s = o.set_runs h (wire.Constant 0) s

    pub jump_hole-runs : (p : Shape) (s : Sketch) → R s (jump_hole p s).1
    unfolding jump_hole
    jump_hole-runs p s = let state = hole p s in o.both_run s state.1 (hole Truth state.1).1 (hole-runs p s) (hole-runs Truth state.1)

    pub jump_to-runs : (p : Shape) (n r : ℕ) (s : Sketch) → R s (jump_to p n r s).1
    unfolding jump_to
    jump_to-runs p n r s = o.push_runs (wire.Constant n) p s

    jump_set-runs : (j : Jump) (c : ℕ) (source rest : Jump) (s : Sketch) → R s (jump_set j c source rest s)
    jump_set-runs j c source rest s =
        let one = set j.state (wire.If c source.state rest.state) s in
        o.both_run s one (set j.restart (wire.If c source.restart rest.restart) one) (o.set_runs j.state (wire.If c source.state rest.state) s) (o.set_runs j.restart (wire.If c source.restart rest.restart) one)

    pub jump_add-runs : (j : Jump) (p : Shape) (c : ℕ) (source : Jump) (s : Sketch) → R s (jump_add j p c source s).1
    unfolding jump_add
    jump_add-runs j p c source s = let rest = jump_hole p s in o.both_run s rest.1 (jump_set j c source rest.0 rest.1) (jump_hole-runs p s) (jump_set-runs j c source rest.0 rest.1)

    pub jump_end-runs : (j source : Jump) (s : Sketch) → R s (jump_end j source s)
    unfolding jump_end
    jump_end-runs j source s =
        let one = set j.state (wire.Copy source.state) s in
        o.both_run s one (set j.restart (wire.Copy source.restart) one) (o.set_runs j.state (wire.Copy source.state) s) (o.set_runs j.restart (wire.Copy source.restart) one)

    pub lines-run : (count : ℕ) (place : Place) (s : Sketch) → R s (new_lines count place s).1
    unfolding new_lines
    lines-run count place s =
        let next = new_register place 0 (Cons count) s in
        let pending = new_register place 0 Truth next.1 in
        let active = jump_hole (Cons count) pending.1 in
        o.both_run s pending.1 active.1 (o.both_run s next.1 pending.1 (register-runs place 0 (Cons count) s) (register-runs place 0 Truth next.1)) (jump_hole-runs (Cons count) pending.1)

    pub take-runs : (l : Lines) (place : Place) (next : Jump) (s : Sketch) → R s (lines_take l place next s)
    unfolding lines_take
    take-runs l place next s = let one = takes l.next place next.state s in o.both_run s one (takes l.pending place next.restart one) (takes-runs l.next place next.state s) (takes-runs l.pending place next.restart one)

    pub end-runs : (l : Lines) (rests : Rests) (s : Sketch) → R s (lines_end l rests s)
    unfolding lines_end
    end-runs l rests s =
        let one = jump_end rests.strong l.selected s in
        let first = jump_to l.shape 0 low one in
        o.both_run s first.1 (jump_end rests.weak first.0 first.1) (o.both_run s one first.1 (jump_end-runs rests.strong l.selected s) (jump_to-runs l.shape 0 low one)) (jump_end-runs rests.weak first.0 first.1)

    pub transition-runs : (numbers : Numbers) (p : Shape) (rest : Jump) (c : ℕ) (q : Trans) (s : Sketch) → R s (transition numbers p rest c q s).1
    unfolding transition
    transition-runs numbers p rest c q s =
        let target = jump_to p (or_none (numbers q.target)) (restarts q) s in
        o.both_run s target.1 (jump_add rest p c target.0 target.1).1 (jump_to-runs p (or_none (numbers q.target)) (restarts q) s) (jump_add-runs rest p c target.0 target.1)

    -- ---- last values, and entering blocks

    last_if-runs : (b : Bool) (place : Place) (first : ℕ) (p : Shape) (w : ℕ) (s : Sketch) → R s (last_entry_if b place first p w s).1
    last_if-runs true place first p w s = mark-runs s
    last_if-runs false place first p w s = let r = new_register place first p s in o.both_run s r.1 (takes r.0 place w r.1) (register-runs place first p s) (takes-runs r.0 place w r.1)

    last-runs : (place : Place) (first : ℕ) (p : Shape) (w : ℕ) (s : Sketch) → R s (last_entry place first p w s).1
    unfolding last_entry
    last-runs place first p w s = last_if-runs (is_mark p) place first p w s

    add_last-runs : (t : Told) (place : Place) (d : Decl) (c : Option Const) (values lasts : Layer) (s : Sketch) → R s (add_last t place d c values lasts s).1
    add_last-runs t place d None values lasts s = o.none_runs s
    add_last-runs t place d (Some c) values lasts s = last-runs place (constant_number t c) (type_shape t d.ty) (wire_in values d.name) s

    pub lasts-run : (t : Told) (place : Place) (ds : List Decl) (values lasts : Layer) (s : Sketch) → R s (add_lasts t place ds values lasts s).1
    lasts-run t place [] values lasts s = o.none_runs s
    lasts-run t place (d ∷ ds) values lasts s =
        let a = add_last t place d d.last values lasts s in
        o.both_run s a.1 (add_lasts t place ds values a.0 a.1).1 (add_last-runs t place d d.last values lasts s) (lasts-run t place ds values a.0 a.1)

    locals-run : (t : Told) (k : ℕ) (ds : List Decl) (l : Layer) (s : Sketch) → R s (put_locals t k ds l s).1
    locals-run t k [] l s = o.none_runs s
    locals-run t k (d ∷ ds) l s =
        let p = type_shape t d.ty in
        let w = hole p s in
        o.both_run s w.1 (put_locals t (k + 1) ds (add l d.name (local_entry k w.0 p)) w.1).1 (hole-runs p s) (locals-run t (k + 1) ds (add l d.name (local_entry k w.0 p)) w.1)

    name_if-runs : (e : Option Entry) (p : Shape) (x : List ℕ) (l : Layer) (s : Sketch) → R s (put_name_if e p x l s).1
    name_if-runs (Some e) p x l s = o.none_runs s
    name_if-runs None p x l s = hole-runs p s

    names-run : (z : Scope) (xs : List (List ℕ)) (l : Layer) (s : Sketch) → R s (put_names z xs l s).1
    names-run z [] l s = o.none_runs s
    names-run z (x ∷ xs) l s = let a = put_name z x l s in o.both_run s a.1 (put_names z xs a.0 a.1).1 (name_if-runs (entry_in l x) (shapes_in z x) x l s) (names-run z xs a.0 a.1)

    pub own-runs : (t : Told) (z : Scope) (ds : List Decl) (es : Eqns) (s : Sketch) → R s (own_layer t z ds es s).1
    unfolding own_layer
    own-runs t z ds es s = let a = put_locals t 0 ds [] s in o.both_run s a.1 (put_names z (names_of_eqns es) a.0 a.1).1 (locals-run t 0 ds [] s) (names-run z (names_of_eqns es) a.0 a.1)

    pub enter-runs : (t : Told) (z : Scope) (place : Place) (ds : List Decl) (es : Eqns) (s : Sketch) → R s (enter t z place ds es s).1
    unfolding enter
    enter-runs t z place ds es s = let own = own_layer t z ds es s in o.both_run s own.1 (add_lasts t place ds own.0 [] own.1).1 (own-runs t z ds es s) (lasts-run t place ds own.0 [] own.1)

    -- ---- control equations

    pub joined_names-run : (own : Layer) (c : ℕ) (l : Layer) (s : Sketch) → R s (join_names own c l s).1
    joined_names-run own c [] s = o.none_runs s
    joined_names-run own c (p ∷ l) s =
        let rest = join_name own c p.0 p.1 s in
        o.both_run s rest.1 (join_names own c l rest.1).1 (chain-runs p.1.hole c (branch_value own p.0 p.1) s) (joined_names-run own c l rest.1)

    joined_layers-run : (own : Layer) (c : ℕ) (ls : List Layer) (s : Sketch) → R s (join_layers own c ls s).1
    joined_layers-run own c [] s = o.none_runs s
    joined_layers-run own c (l ∷ ls) s = joined_names-run own c l s

    pub join-runs : (c : ℕ) (z : Scope) (s : Sketch) → R s (join c z s).1
    unfolding join
    join-runs c z s = joined_layers-run (top_layer z) c (outer_layers z.values) s

    pub read_names-run : (l : Layer) (w : ℕ) (s : Sketch) → R s (read_by_names l w s)
    read_names-run [] w s = o.none_runs s
    read_names-run (p ∷ l) w s = let one = read p.1.hole w s in o.both_run s one (read_by_names l w one) (o.read_runs p.1.hole w s) (read_names-run l w one)

    pub read_hidden-runs : (z : Scope) (w : ℕ) (s : Sketch) → R s (read_by_hidden z w s)
    unfolding read_by_hidden
    read_hidden-runs z w s = read_names-run (top_layer z) w s

    end_if-runs : (b : Bool) (s e : Sketch) → R s e → R s (if b then s else e)
    end_if-runs true s e h = o.none_runs s
    end_if-runs false s e h = h

    end_names-run : (l : Layer) (s : Sketch) → R s (end_names l s)
    end_names-run [] s = o.none_runs s
    end_names-run (p ∷ l) s = let one = end_name p.1 s in o.both_run s one (end_names l one) (end_if-runs (is_mark p.1.shape) s (chain_end p.1.hole s) (chain_end-runs p.1.hole s)) (end_names-run l one)

    pub end_hidden-runs : (z : Scope) (s : Sketch) → R s (end_hidden z s)
    unfolding end_hidden
    end_hidden-runs z s = end_names-run (top_layer z) s

    -- ---- operators

    pub constant-runs : (t : Told) (c : Const) (s : Sketch) → R s (drawn_constant t c s).1
    unfolding drawn_constant
    constant-runs t c s = o.push_runs (wire.Constant (constant_number t c)) (constant_shape t c) s

    pub cons-runs : (t : Told) (w : ℕ) (c : tree_cons.Cons) (s : Sketch) → R s (has_cons t w c s).1
    unfolding has_cons
    cons-runs t w c s = is-runs w (cons_number t c) s

    pub step-runs : (t : Told) (z : Scope) (clock : ℕ) (c : tree_cons.Cons) (x : List ℕ) (s : Sketch) → R s (step_clock t z clock c x s).1
    unfolding step_clock
    step-runs t z clock c x s =
        let is = has_cons t (value_in z x).wire c s in
        o.both_run s is.1 (inner_clock clock is.0 is.1).1 (cons-runs t (value_in z x).wire c s) (inner-runs clock is.0 is.1)

    pub mark_two-runs : (a b : Value) (s : Sketch) → R s (mark_of_two a b s).1
    unfolding mark_of_two
    mark_two-runs a b s = let m = mark_of a.wire s in o.both_run s m.1 (read m.0 b.wire m.1) (mark_of-runs a.wire s) (o.read_runs m.0 b.wire m.1)

    pub mark_three-runs : (a b c : Value) (s : Sketch) → R s (mark_of_three a b c s).1
    unfolding mark_of_three
    mark_three-runs a b c s = let m = mark_of_two a b s in o.both_run s m.1 (read m.0.wire c.wire m.1) (mark_two-runs a b s) (o.read_runs m.0.wire c.wire m.1)

    pub one-runs : (p : Op1) (a : Value) (s : Sketch) → R s (drawn_one p a s).1
    unfolding drawn_one
    one-runs Not a s = o.push_runs (wire.Not a.wire) Truth s
    one-runs Neg a s = mark_of-runs a.wire s

    pub two-runs : (p : Op2) (a b : Value) (s : Sketch) → R s (drawn_two p a b s).1
    unfolding drawn_two
    two-runs And a b s = o.push_runs (wire.And a.wire b.wire) Truth s
    two-runs Or a b s = o.push_runs (wire.Or a.wire b.wire) Truth s
    two-runs Xor a b s = o.push_runs (wire.Xor a.wire b.wire) Truth s
    two-runs Imp a b s = let m = push (wire.Not a.wire) Truth s in o.both_run s m.1 (push (wire.Or m.0 b.wire) Truth m.1).1 (o.push_runs (wire.Not a.wire) Truth s) (o.push_runs (wire.Or m.0 b.wire) Truth m.1)
    two-runs Eq a b s = o.push_runs (wire.Equal a.wire b.wire) Truth s
    two-runs Ne a b s = let m = push (wire.Equal a.wire b.wire) Truth s in o.both_run s m.1 (push (wire.Not m.0) Truth m.1).1 (o.push_runs (wire.Equal a.wire b.wire) Truth s) (o.push_runs (wire.Not m.0) Truth m.1)
    two-runs Lt a b s = mark_two-runs a b s
    two-runs Le a b s = mark_two-runs a b s
    two-runs Gt a b s = mark_two-runs a b s
    two-runs Ge a b s = mark_two-runs a b s
    two-runs Add a b s = mark_two-runs a b s
    two-runs Sub a b s = mark_two-runs a b s
    two-runs Mul a b s = mark_two-runs a b s
    two-runs Div a b s = mark_two-runs a b s
    two-runs Rem a b s = mark_two-runs a b s

    chosen-runs : (p : Shape) (c : ℕ) (a b : Value) (s : Sketch) → R s (chosen_as p c a b s).1
    chosen-runs Truth c a b s = o.push_runs (wire.If c a.wire b.wire) Truth s
    chosen-runs (Cons n) c a b s = o.push_runs (wire.If c a.wire b.wire) (Cons n) s
    chosen-runs Mark c a b s = mark_three-runs (truth c) a b s

    pub choice-runs : (c : ℕ) (a b : Value) (s : Sketch) → R s (drawn_choice c a b s).1
    unfolding drawn_choice
    choice-runs c a b s = chosen-runs a.shape c a b s

    -- ---- calls

    pub input-runs : (c : Callee) (k : ℕ) (v : Value) (s : Sketch) → R s (takes_input c k v s)
    unfolding takes_input
    input-runs c k v s = let one = define (c.inputs + k) v s in o.both_run s one (read c.reads v.wire one) (define-runs (c.inputs + k) v s) (o.read_runs c.reads v.wire one)

    pub holes-run : (t : Told) (ds : List Decl) (s : Sketch) → R s (add_holes t ds s)
    holes-run t [] s = o.none_runs s
    holes-run t (d ∷ ds) s = let one = add_hole (type_shape t d.ty) s in o.both_run s one (add_holes t ds one) (hole-runs (type_shape t d.ty) s) (holes-run t ds one)

    -- ---- what stands before operands, and behind them

    pub two_end-runs : (compared : Bool) (w : ℕ) (p : Op2) (a b : Value) (s : Sketch) → R s (two_end compared w p a b s).1
    two_end-runs true w p a b s = o.both_run s (read w a.wire s) (read w b.wire (read w a.wire s)) (o.read_runs w a.wire s) (o.read_runs w b.wire (read w a.wire s))
    two_end-runs false w p a b s = two-runs p a b s

    pub delay-runs : (p : Shape) (place : Place) (s : Sketch) → R s (delay_begin p place s).1
    delay-runs Truth place s = register-runs place 0 Truth s
    delay-runs (Cons n) place s = register-runs place 0 (Cons n) s
    delay-runs Mark place s = o.none_runs s

    pub delay_take-runs : (p : Shape) (r : Register) (place : Place) (w : ℕ) (s : Sketch) → R s (delay_take p r place w s)
    delay_take-runs Truth r place w s = takes-runs r place w s
    delay_take-runs (Cons n) r place w s = takes-runs r place w s
    delay_take-runs Mark r place w s = o.none_runs s

    pub pre_end-runs : (p : Shape) (r : Register) (place : Place) (d : Value × Sketch) → R d.1 (pre_end p r place d).1
    pre_end-runs Truth r place d = takes-runs r place d.0.wire d.1
    pre_end-runs (Cons n) r place d = takes-runs r place d.0.wire d.1
    pre_end-runs Mark r place d = mark-runs d.1

    pub fby_end-runs : (p : Shape) (r past : Register) (first : Value) (s : Sketch) → R s (fby_end p r past first s).1
    fby_end-runs Truth r past first s = choice-runs past.read (sketch.value r.read Truth) first s
    fby_end-runs (Cons n) r past first s = choice-runs past.read (sketch.value r.read (Cons n)) first s
    fby_end-runs Mark r past first s = mark_of-runs first.wire s

    pub sampled-runs : (c : ℕ) (d : Value × Sketch) → R d.1 (sampled c d).1
    sampled-runs c d = let w = copy d.0 d.1 in o.both_run d.1 w.1 (read w.0 c w.1) (copy-runs d.0 d.1) (o.read_runs w.0 c w.1)

    pub merge-runs : (p : Shape) (c : ℕ) (s : Sketch) → R s (merge_begin p c s).1
    merge-runs p c s = let w = hole p s in o.both_run s w.1 (read w.0 c w.1) (hole-runs p s) (o.read_runs w.0 c w.1)

    pub merge_end-runs : (p : Shape) (w : ℕ) (d : ℕ × Sketch) → R d.1 (merge_end p w d).1
    merge_end-runs Truth w d = chain_end-runs d.0 d.1
    merge_end-runs (Cons n) w d = chain_end-runs d.0 d.1
    merge_end-runs Mark w d = o.none_runs d.1

    -- ---- definitions

    pub clock_on-runs : (t : Told) (z : Scope) (clock : ℕ) (path : Path) (s : Sketch) → R s (clock_on t z clock path s).1
    clock_on-runs t z clock [] s = o.none_runs s
    clock_on-runs t z clock (p ∷ ps) s = let c = step_clock t z clock p.0 p.1 s in o.both_run s c.1 (clock_on t z c.0 ps c.1).1 (step-runs t z clock p.0 p.1 s) (clock_on-runs t z c.0 ps c.1)

    clock_by-runs : (t : Told) (z : Scope) (ds : List Decl) (told : Telling) (s : Sketch) → R s (clock_by t z ds told s).1
    clock_by-runs t z ds untold s = o.none_runs s
    clock_by-runs t z ds at_base s = o.none_runs s
    clock_by-runs t z ds (of_name x) s = clock_on-runs t z 0 (path_of z ds x) s
    clock_by-runs t z ds (on_value c x) s =
        let outer = clock_on t z 0 (path_of z ds x) s in
        o.both_run s outer.1 (step_clock t z outer.0 c x outer.1).1 (clock_on-runs t z 0 (path_of z ds x) s) (step-runs t z outer.0 c x outer.1)

    pub clock_of-runs : (t : Told) (z : Scope) (ds : List Decl) (xs : List (List ℕ × Span)) (e : Expr) (s : Sketch) → R s (clock_of t z ds xs e s).1
    unfolding clock_of
    clock_of-runs t z ds xs e s = clock_by-runs t z ds (told_by xs e) s

    pub each-runs : (z : Scope) (c : Callee) (k : ℕ) (xs : List (List ℕ × Span)) (s : Sketch) → R s (define_each z c k xs s)
    each-runs z c k [] s = o.none_runs s
    each-runs z c k (p ∷ ps) s = let one = define_name z p.0 (output c k s) s in o.both_run s one (define_each z c (k + 1) ps one) (define-runs (value_in z p.0).wire (output c k s) s) (each-runs z c (k + 1) ps one)

    pub all-run : (z : Scope) (xs : List (List ℕ × Span)) (v : Value) (s : Sketch) → R s (define_all z xs v s)
    all-run z [] v s = o.none_runs s
    all-run z (p ∷ ps) v s = let one = define_name z p.0 v s in o.both_run s one (define_all z ps v one) (define-runs (value_in z p.0).wire v s) (all-run z ps v one)

    -- ---- states

    pub enter_state-runs : (lines : Lines) (place : Place) (k : ℕ) (s : Sketch) → R s (enter_state lines place k s).1
    unfolding enter_state
    enter_state-runs lines place k s =
        let taken = is_gate lines.active.state k s in
        let inside = within place taken.0 taken.1 in
        o.both_run s inside.1 (reset_by inside.0 lines.active.restart inside.1).1 (o.both_run s taken.1 inside.1 (is-runs lines.active.state k s) (within-runs place taken.0 taken.1)) (reset-runs inside.0 lines.active.restart inside.1)

    pub leave_state-runs : (lines : Lines) (k taken : ℕ) (strong weak : Jump) (rests : Rests) (s : Sketch) → R s (leave_state lines k taken strong weak rests s).1
    unfolding leave_state
    leave_state-runs lines k taken strong weak rests s =
        let selected = is_gate lines.selected.state k s in
        let more = jump_add rests.strong lines.shape selected.0 strong selected.1 in
        let less = jump_add rests.weak lines.shape taken weak more.1 in
        o.both_run s more.1 less.1 (o.both_run s selected.1 more.1 (is-runs lines.selected.state k s) (jump_add-runs rests.strong lines.shape selected.0 strong selected.1)) (jump_add-runs rests.weak lines.shape taken weak more.1)

    pub enter_arm-runs : (t : Told) (place : Place) (w : ℕ) (c : tree_cons.Cons) (s : Sketch) → R s (enter_arm t place w c s).2
    unfolding enter_arm
    enter_arm-runs t place w c s =
        let taken = has_cons t w c s in
        o.both_run s taken.1 (within place taken.0 taken.1).1 (cons-runs t w c s) (within-runs place taken.0 taken.1)

    pub reset_begin-runs : (z : Scope) (place : Place) (s : Sketch) → R s (reset_begin z place s).2
    unfolding reset_begin
    reset_begin-runs z place s =
        let c = hole Truth s in
        let one = read_by_hidden z c.0 c.1 in
        o.both_run s one (reset_by place c.0 one).1 (o.both_run s c.1 one (hole-runs Truth s) (read_hidden-runs z c.0 c.1)) (reset-runs place c.0 one)

    pub automaton_end-runs : (lines : Lines) (place : Place) (next : Jump) (rests : Rests) (z : Scope) (s : Sketch) → R s (automaton_end lines place next (rests, z, s))
    automaton_end-runs lines place next rests z s =
        let one = lines_end lines rests s in
        let two = lines_take lines place next one in
        o.both_run s two (end_hidden z two) (o.both_run s one two (end-runs lines rests s) (take-runs lines place next one)) (end_hidden-runs z two)

    -- ---- nodes

    pub scope-runs : (t : Told) (place : Place) (n : Node) (inputs outputs : ℕ) (s : Sketch) → R s (contract_scope t place n inputs outputs s).1
    unfolding contract_scope
    scope-runs t place n inputs outputs s = lasts-run t place n.outputs (contract_layer t n inputs outputs) [] s

    pub from-runs : (z : Scope) (first k : ℕ) (ds : List Decl) (s : Sketch) → R s (define_from z first k ds s)
    from-runs z first k [] s = o.none_runs s
    from-runs z first k (d ∷ ds) s = let one = define (first + k) (value_in z d.name) s in o.both_run s one (define_from z first (k + 1) ds one) (define-runs (first + k) (value_in z d.name) s) (from-runs z first (k + 1) ds one)
