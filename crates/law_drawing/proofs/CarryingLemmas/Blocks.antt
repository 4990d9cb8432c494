-- What is drawn of a block, with all that stands in it, carries its wires: one induction over blocks, equations, arms and states.
use Rattle.std.proofs.Common.{◌≡◌, ℕ, Bool, true, false, ◌&&◌, ◌||◌, if◌then◌else◌, List, [], ◌∷◌, ◌++◌, length, Some, refl, sym, ap, subst, ◌∙◌}
use Rattle.std.specs.Prelude.{reverse}
use Rattle.hp_base.specs.declared.ty.Ty.{Ty}
use Rattle.hp_base.specs.declared.value.Value.{Value}
use Rattle.hp_base.specs.declared.value.Value.TheVariants.{Absent}
use Rattle.hp_base.specs.declared.span.Span.{Span}
use Rattle.hp_tree.specs.declared.decl.Cons.{Cons}
use Rattle.hp_tree.specs.Expressions.{Expr}
use Rattle.hp_tree.specs.Blocks.{Decl, Block, block, Eqns, no_eqn, more_eqns, Eqn, define, switch, Arms, no_arm, more_arms, States, no_state}
use Rattle.hp_tree.specs.ExpressionTypes.{scope_of}
use Rattle.hp_tree.specs.Instant.{Named, Equations, Head, Tail, Right, Test, Arms as ArmsOf, Instant, part, top, Place as TreePlace}
use Rattle.hp_tree.specs.Meaning as meaning
use Rattle.hp_tree.specs.Meaning.{Names, node_among, defines, some_defines, block_defines, inside as inside_names, within, clock_of, clock_in, from_block, state_of, state_word, number_of, first_true}
use Rattle.hp_tree.specs.Operators.{is_cons}
use Rattle.hp_typing.specs.Scopes.{inside}
use Rattle.hp_typing.specs.Types.{cons_type}
use Rattle.hp_meaning.specs.Causal.Clocked.{BlockRight, AllRight, OneRight, ArmsRight, StatesRight}
use Rattle.hp_meaning.specs.Causal.Points.{Placed, calls}
use Rattle.hp_meaning.specs.Causal.Sources.{below}
use Rattle.law_values.specs.Valued.Judged.{lasts_of as known_of, BlockSound, EqnsSound, EqnSound, ArmsSound, StatesSound}
use Rattle.law_values.proofs.ValuedLemmas.Typed.{agreed}
use Rattle.hp_meaning.specs.Contract.Memory.{number_in, remembers_block, remembers_equations, remembers_equation, remembers_arms, remembers_states}
use Rattle.hp_meaning.specs.Contract.Slots as slots
use Rattle.hp_meaning.specs.Contract.Slots.{slots_of_block, slots_of_equations, slots_of_equation, slots_of_arms, slots_of_states, slots_of_conditions}
use Rattle.hp_circuit.specs.Meaning.{truth}
use Rattle.law_games.specs.Wires.Wired.{Held, held_at, Callees}
use Rattle.law_games.specs.Wires.WiredBlocks.{arm_value, strong_in, weak_of, wired_gives, wired_defined, wired_block, wired_equations, wired_equation, wired_arms, wired_states, shown_block, shown_equations, shown_equation, shown_arms, shown_states, next_block, next_equations, next_equation, next_arms, next_states}
use Rattle.law_games.specs.Wires.WiredCallees.{callee_wires}
use Rattle.law_games.specs.Wiretyped.Typed.{IsWire, BlockTyped, EqnsTyped, EqnTyped, ArmsTyped, StatesTyped}
use Rattle.law_games.specs.Wiretyped.Kept.{BlockKept, EqnsKept, EqnKept, ArmsKept, StatesKept, BlockGiven, EqnsGiven, EqnGiven, ArmsGiven, StatesGiven}
use Rattle.law_games.specs.Wiretyped.Callees.{CalleeTyped, CalleeKept, CalleeGiven}
use Rattle.law_games.proofs.WiretypedLemmas.Exprs.{LastsAre, top_is}
use Rattle.law_games.proofs.WiretypedLemmas.Scopes.{OuterAre, names_inside, lasts_inside, branch_outer}
use Rattle.hp_drawing.specs.declared.parts.Entry.{Entry}
use Rattle.hp_drawing.specs.declared.parts.Place.{Place}
use Rattle.hp_drawing.specs.declared.parts.Rests.{Rests}
use Rattle.hp_drawing.specs.Kept.{is_mark}
use Rattle.hp_drawing.specs.Told.{or_none}
use Rattle.hp_drawing.specs.Scopes.{Scope, Layer, entry_in, top_layer, push_values, enter, join, end_hidden}
use Rattle.hp_drawing.specs.Sketch.{Sketch, base}
use Rattle.hp_drawing.specs.Places.{within as within_place}
use Rattle.hp_drawing.specs.declared.parts.Jump.{Jump}
use Rattle.hp_drawing.specs.DrawnExpressions.{drawn, has_cons}
use Rattle.hp_drawing.specs.DrawnBlocks.{path_of, Words, Rested, drawn_block, drawn_eqns, drawn_eqn, drawn_arms, drawn_states, enter_arm, leave_hidden}
use Rattle.law_drawing.specs.Carrying.Solving.{Has}
use Rattle.law_drawing.specs.Carrying.Drawing.{AreHeld, IsSolved, IsReady, IsPlace, AreShaped}
use Rattle.law_drawing.specs.Carrying.Typing.{AreNumbered, PathFits}
use Rattle.law_drawing.specs.Carrying.Calls.{lasts_slots, supposes_on, owes_on}
use Rattle.law_drawing.specs.Carrying.Drawable.{BlockDrawable, EqnsDrawable, EqnDrawable, ArmsDrawable, ArmsFit, StatesDrawable}
use Rattle.law_drawing.specs.Carrying.Laws.{Frame, FrameCalls, Sight, IsSight, slots_of}
use Rattle.law_drawing.specs.Carrying.BlockLaws.{IsBlockAt}
use Rattle.law_drawing.specs.Carrying.WholeBlocks.{IsPart}
use Rattle.law_drawing.proofs.CarryingLemmas.Slots.{held-first}
use Rattle.law_drawing.proofs.CarryingLemmas.Steps.{stays, both, ended, nothing-drawn}
use Rattle.law_drawing.proofs.CarryingLemmas.Leaves.{cons-drawn}
use Rattle.law_drawing.proofs.CarryingLemmas.Stored.{ready-more}
use Rattle.law_drawing.proofs.CarryingLemmas.Parts.{held-behind}
use Rattle.law_drawing.proofs.CarryingLemmas.ExpressionLaws.{expression}
use Rattle.law_drawing.proofs.CarryingLemmas.BlockLaws.{entered}
use Rattle.law_drawing.proofs.CarryingLemmas.Layers.{Knows}
use Rattle.law_drawing.proofs.CarryingLemmas.Branches.{part-at, branch_stay, part-branch}
use Rattle.law_drawing.proofs.CarryingLemmas.Own.{entered-own}
use Rattle.law_drawing.proofs.CarryingLemmas.Joining.{ready-same, shaped-same, same-pushed, hidden-more, hidden-as, hide-pushed}
use Rattle.law_drawing.proofs.CarryingLemmas.CallLists.{calls_in_block, calls_in_eqns, calls_in_eqn, calls_in_arms, calls_in_states}
use Rattle.law_drawing.proofs.CarryingLemmas.Places.{within-drawn, goes-more}
use Rattle.law_drawing.proofs.CarryingLemmas.Registers.{place-more}
use Rattle.law_drawing.proofs.CarryingLemmas.Conditions.{Draws, Goes, wired-at}
use Rattle.law_drawing.proofs.CarryingLemmas.Assigned.{assigned}
use Rattle.law_drawing.proofs.CarryingLemmas.Controls.{arm_number, state_number, arm-is, name-known, branch-zero, arms-zero, hidden_layer, Hidden, InReady, InShaped, hidden-begins, Zeros, block-left, hidden-ended}
use Rattle.law_drawing.proofs.CarryingLemmas.Insides.{inside_sight, hidden_sight, numbered-inside, path-fits, first-gives, others-give}

left-or : (a b : Bool) → a ≡ true → a || b ≡ true
left-or true b h = refl
left-or false b h = absurd cc

right-or : (a b : Bool) → b ≡ true → a || b ≡ true
right-or true b h = refl
right-or false b h = h

module _ (F : Frame) (K : FrameCalls F) where
  abbrev pub circuits : Callees
  circuits = callee_wires F.types F.earlier

  abbrev pub Ready : Sight → Place → Bool → Bool → Bool → Sketch → List ℕ → Type 0
  Ready V place here cut kept d ns = IsReady F.slot F.types V.names V.last V.drawn_scope place [] here cut kept d ns

  abbrev pub Lasting : Sight → Type 0
  Lasting V = LastsAre F.types V.scope V.has_last V.last

  abbrev pub Holds : List slots.Slot → Sketch → Type 0
  Holds ss d = AreHeld F.slot F.raw F.given ss (length d.slots)

  abbrev pub Paths : Sight → List Decl → Type 0
  Paths V ds = (x : List ℕ) → (reverse (path_of V.drawn_scope ds x) ≡ clock_in ds x) × PathFits V.scope (path_of V.drawn_scope ds x)

  abbrev pub Holes : Sight → Type 0
  Holes V = (x : List ℕ) (n : Entry) → entry_in (top_layer V.drawn_scope) x ≡ Some n → n.wire ≡ Some n.hole

  abbrev pub Drew : Sketch → List ℕ → List slots.Slot → List Placed → Sketch → Type 0
  Drew d ns ss cs r = (ns' : List ℕ) × Draws F K d ns ss cs r ns'

  -- the parts of a node
  abbrev pub BlockPart : Sight → Block → Bool → Held → Instant → Instant → (TreePlace → TreePlace) → Bool → Bool → Bool → Type 0
  BlockPart V b fresh m now stay w here cut kept =
      IsPart F m now stay w here cut kept (remembers_block F.types circuits.remembers b m.start []) (next_block F.types circuits b V.names V.last m now) (shown_block F.types circuits b V.names V.last m now) (wired_block F.types circuits b fresh V.names V.last m now)

  abbrev pub EqnsPart : Sight → List Decl → Eqns → Held → Instant → Instant → (TreePlace → TreePlace) → Bool → Bool → Bool → Type 0
  EqnsPart V ds es m now stay w here cut kept =
      IsPart F m now stay w here cut kept (remembers_equations F.types circuits.remembers es m.start []) (next_equations F.types circuits ds es V.names V.last m now) (shown_equations F.types circuits ds es V.names V.last m now) (wired_equations F.types circuits es V.names V.last m now)

  abbrev pub EqnPart : Sight → List Decl → Eqn → Held → Instant → Instant → (TreePlace → TreePlace) → Bool → Bool → Bool → Type 0
  EqnPart V ds e m now stay w here cut kept =
      IsPart F m now stay w here cut kept (remembers_equation F.types circuits.remembers e m.start []) (next_equation F.types circuits ds e V.names V.last m now) (shown_equation F.types circuits ds e V.names V.last m now) (wired_equation F.types circuits e V.names V.last m now)

  abbrev pub ArmsPart : Sight → Eqn → Arms → Value → Held → Instant → Instant → (TreePlace → TreePlace) → Bool → Bool → Bool → Type 0
  ArmsPart V q arms v m now stay w here cut kept =
      IsPart F m now stay w here cut kept (remembers_arms F.types circuits.remembers arms m.start []) (next_arms F.types circuits arms v (within q V.names V.last) V.last m now) (shown_arms F.types circuits arms v (within q V.names V.last) V.last m now)
      (wired_arms F.types circuits arms (within q V.names V.last) V.last m now)

  -- a block is drawn, and is seen
  abbrev pub BlockDrew : Sight → Block → Held → Instant → (TreePlace → TreePlace) → Place → Bool → Bool → Bool → Sketch → List ℕ → Scope × Sketch → Type 0
  BlockDrew V b m now w place here cut kept d ns r =
      (ns' : List ℕ) × Draws F K d ns (slots_of_block F.types F.outs F.callee b V.types w) (calls_in_block b w) r.1 ns' × Ready (inside_sight V b m now r.0) place here cut kept r.1 ns' × AreShaped (inside V.scope b) (known_of b V.has_last) (scope_of b V.types) r.0

  -- the arms of a `switch` are drawn, and its names are zeros from there on
  abbrev pub ArmsDrew : Sight → Eqn → Arms → (TreePlace → TreePlace) → Sketch → List ℕ → Scope × Sketch → Type 0
  ArmsDrew V q arms w d ns r =
      (ns' : List ℕ) × Draws F K d ns (slots_of_arms F.types F.outs F.callee arms V.types w) (calls_in_arms arms w) r.1 ns' × (k : Layer) × (r.0 ≡ push_values k V.drawn_scope) × Hidden F K V q ns' (λ x. 0) k

  -- a place without its clock
  pub place-ready : (V : Sight) (place p : Place) (here cut kept here' cut' kept' : Bool) (d : Sketch) (ns : List ℕ) → Ready V place here cut kept d ns → IsPlace ns p here' cut' kept' → p.clock ≡ base → Ready V p here' cut' kept' d ns
  place-ready V place p here cut kept here' cut' kept' d ns r h e = record { solved = r.solved; place_is = h; clock_is = e; values = r.values; lasts = r.lasts }

  pub more-ready : (V : Sight) (place : Place) (here cut kept : Bool) (d : Sketch) (ns : List ℕ) (ss : List slots.Slot) (cs : List Placed) (d' : Sketch) (ns' : List ℕ) → Draws F K d ns ss cs d' ns' → Ready V place here cut kept d ns → Ready V place here cut kept d' ns'
  more-ready V place here cut kept d ns ss cs d' ns' a r = ready-more F.slot F.next (supposes_on F.showing F.wires) (owes_on F.showing F.wires) F.types V.names V.last V.drawn_scope place [] here cut kept d ns ss cs d' ns' a r

  pub more-has : (d : Sketch) (ns : List ℕ) (ss : List slots.Slot) (cs : List Placed) (d' : Sketch) (ns' : List ℕ) → Draws F K d ns ss cs d' ns' → (w k : ℕ) → Has ns w k → Has ns' w k
  more-has d ns ss cs d' ns' a w k h = stays F.slot F.next (supposes_on F.showing F.wires) (owes_on F.showing F.wires) d ns ss cs d' ns' a w k h

  pub then-drawn : (d : Sketch) (ns : List ℕ) (ss : List slots.Slot) (cs : List Placed) (d1 : Sketch) (ns1 : List ℕ) (ts : List slots.Slot) (ds : List Placed) (d2 : Sketch) (ns2 : List ℕ) → Draws F K d ns ss cs d1 ns1 → Draws F K d1 ns1 ts ds d2 ns2 → Draws F K d ns (ss ++ ts) (cs ++ ds) d2 ns2
  then-drawn d ns ss cs d1 ns1 ts ds d2 ns2 a b = both F.slot F.next (supposes_on F.showing F.wires) (owes_on F.showing F.wires) d ns ss cs d1 ns1 ts ds d2 ns2 a b

  pub end-drawn : (d : Sketch) (ns : List ℕ) (ss : List slots.Slot) (cs : List Placed) (d1 : Sketch) (ns1 : List ℕ) (d2 : Sketch) (ns2 : List ℕ) → Draws F K d ns ss cs d1 ns1 → Draws F K d1 ns1 [] [] d2 ns2 → Draws F K d ns ss cs d2 ns2
  end-drawn d ns ss cs d1 ns1 d2 ns2 a b = ended F.slot F.next (supposes_on F.showing F.wires) (owes_on F.showing F.wires) d ns ss cs d1 ns1 d2 ns2 a b

  pub behind-held : (d : Sketch) (ns : List ℕ) (ss : List slots.Slot) (cs : List Placed) (d' : Sketch) (ns' : List ℕ) (ts : List slots.Slot) → Draws F K d ns ss cs d' ns' → Holds (ss ++ ts) d → Holds ts d'
  behind-held d ns ss cs d' ns' ts a h = held-behind F.slot F.next (supposes_on F.showing F.wires) (owes_on F.showing F.wires) F.raw F.given d ns ss cs d' ns' ts a h

  -- an arm is entered
  record IsIn (d : Sketch) (ns : List ℕ) (here cut kept taken : Bool) (r : ℕ × Place × Sketch) : Type 0 where
    pub numbers : List ℕ
    pub drawn_is : Draws F K d ns [] [] r.2 numbers
    pub taken_is : Has numbers r.0 (truth taken)
    pub place_is : IsPlace numbers r.1 (here && taken) cut kept
    pub place_base : r.1.clock ≡ base

  arm-entered : (V : Sight) (place : Place) (here cut kept : Bool) (cw : ℕ) (c : Cons) (v : Value) (t : Ty) (d : Sketch) (ns : List ℕ) → IsSight F V → IsSolved F.slot d ns → IsPlace ns place here cut kept → Has ns cw (number_in v) → cons_type V.scope c ≡ Some t → IsWire F.types t v
      → IsIn d ns here cut kept (is_cons F.types v c) (enter_arm F.told place cw c d)
  unfolding enter_arm
  arm-entered V place here cut kept cw c v t d ns S g h hv ce wt =
      let sup = supposes_on F.showing F.wires in
      let owe = owes_on F.showing F.wires in
      let tk = has_cons F.told cw c d in
      let a = cons-drawn F.slot F.next sup owe F.types F.told V.scope S.numbered cw t v c d ns g hv ce wt in
      let i = within_place place tk.0 tk.1 in
      let b = within-drawn F.slot F.next sup owe place tk.0 here cut kept (is_cons F.types v c) tk.1 a.0 a.1.solved (place-more F.slot F.next sup owe ns a.0 place here cut kept (more-has d ns [] [] tk.1 a.0 a.1) h) a.2 in
      record { numbers = b.0; drawn_is = then-drawn d ns [] [] tk.1 a.0 [] [] i.1 b.0 a.1 b.1; taken_is = more-has tk.1 a.0 [] [] i.1 b.0 b.1 tk.0 (truth (is_cons F.types v c)) a.2; place_is = b.2; place_base = b.3 }

  -- the states of an automaton are drawn: its names are zeros from there on, and its jumps go where none of these states goes
  abbrev pub StatesDrew : Sight → Eqn → States → meaning.Jump → (TreePlace → TreePlace) → Sketch → List ℕ → Rested → Type 0
  StatesDrew V q ss sel w d ns r =
      (ns' : List ℕ) × Draws F K d ns (slots_of_states F.types F.outs F.callee ss V.types w) (calls_in_states ss w) r.2 ns' × (k : Layer) × (r.1 ≡ push_values k V.drawn_scope) × Hidden F K V q ns' (λ x. 0) k
      × Goes F K ns' r.0.strong sel × Goes F K ns' r.0.weak (record { state = 0; restart = false })

  abbrev pub StatesPart : Sight → Eqn → States → ℕ → meaning.Jump → ℕ → Held → Instant → Instant → (TreePlace → TreePlace) → Bool → Bool → Bool → Type 0
  StatesPart V q ss k j n m now stay w here cut kept =
      IsPart F m now stay w here cut kept (remembers_states F.types circuits.remembers ss m.start []) (next_states F.types circuits ss k n V.names (within q V.names V.last) V.last m now) (shown_states F.types circuits ss k n V.names (within q V.names V.last) V.last m now)
      (wired_states F.types circuits ss j V.names (within q V.names V.last) V.last m now)

  pub goes-on : (ns ns' : List ℕ) (j : Jump) (v : meaning.Jump) → ((w k : ℕ) → Has ns w k → Has ns' w k) → Goes F K ns j v → Goes F K ns' j v
  goes-on ns ns' j v f h = goes-more F.slot F.next (supposes_on F.showing F.wires) (owes_on F.showing F.wires) ns ns' j v f h

  -- ---- what is shown of each kind of part

  abbrev pub BlockAt : Block → Type 0
  BlockAt b =
      (fresh : Bool) (V : Sight) (m : Held) (now stay : Instant) (w : TreePlace → TreePlace) (place : Place) (here cut kept : Bool) (d : Sketch) (ns : List ℕ)
      → AreNumbered F.types F.told V.scope → AreShaped V.scope V.has_last V.types V.drawn_scope → OuterAre F.types (node_among F.earlier) b V.standing V.scope V.names → Lasting V → BlockRight V.standing b → BlockSound F.types (node_among F.earlier) V.scope V.has_last b
      → BlockKept F.types (CalleeKept F.types F.earlier) V.scope b m.start m.memory → BlockGiven F.types (CalleeGiven F.types F.earlier) V.scope b m.free → BlockTyped F.types (CalleeTyped F.types F.earlier) V.scope b now → BlockDrawable V.scope b
      → BlockPart V b fresh m now stay w here cut kept → Ready V place here cut kept d ns → Holds (slots_of_block F.types F.outs F.callee b V.types w) d
      → BlockDrew V b m now w place here cut kept d ns (drawn_block F.told F.brings V.drawn_scope place b d)

  abbrev pub EqnsAt : Eqns → Type 0
  EqnsAt es =
      (ds : List Decl) (V : Sight) (m : Held) (now stay : Instant) (w : TreePlace → TreePlace) (place : Place) (here cut kept : Bool) (d : Sketch) (ns : List ℕ) → IsSight F V → Lasting V
      → AllRight V.standing ds es → EqnsSound F.types (node_among F.earlier) V.scope V.has_last es → EqnsKept F.types (CalleeKept F.types F.earlier) V.scope es m.start m.memory → EqnsGiven F.types (CalleeGiven F.types F.earlier) V.scope es m.free → EqnsTyped F.types (CalleeTyped F.types F.earlier) V.scope es now → EqnsDrawable V.scope es
      → Paths V ds → Holes V → ((x : List ℕ) → some_defines es x ≡ true → Knows (top_layer V.drawn_scope) x) → ((x : List ℕ) → some_defines es x ≡ true → V.names x ≡ wired_defined F.types circuits es V.names V.last m now x)
      → EqnsPart V ds es m now stay w here cut kept → Ready V place here cut kept d ns → Holds (slots_of_equations F.types F.outs F.callee es V.types w) d
      → Drew d ns (slots_of_equations F.types F.outs F.callee es V.types w) (calls_in_eqns es w) (drawn_eqns F.told F.brings V.drawn_scope place ds es d)

  abbrev pub EqnAt : Eqn → Type 0
  EqnAt e =
      (ds : List Decl) (V : Sight) (m : Held) (now stay : Instant) (w : TreePlace → TreePlace) (place : Place) (here cut kept : Bool) (d : Sketch) (ns : List ℕ) → IsSight F V → Lasting V
      → OneRight V.standing ds e → EqnSound F.types (node_among F.earlier) V.scope V.has_last e → EqnKept F.types (CalleeKept F.types F.earlier) V.scope e m.start m.memory → EqnGiven F.types (CalleeGiven F.types F.earlier) V.scope e m.free → EqnTyped F.types (CalleeTyped F.types F.earlier) V.scope e now → EqnDrawable V.scope e
      → Paths V ds → Holes V → ((x : List ℕ) → defines e x ≡ true → Knows (top_layer V.drawn_scope) x) → ((x : List ℕ) → defines e x ≡ true → V.names x ≡ wired_gives F.types circuits e V.names V.last m now x)
      → EqnPart V ds e m now stay w here cut kept → Ready V place here cut kept d ns → Holds (slots_of_equation F.types F.outs F.callee e V.types w) d
      → Drew d ns (slots_of_equation F.types F.outs F.callee e V.types w) (calls_in_eqn e w) (drawn_eqn F.told F.brings V.drawn_scope place ds e d)

  abbrev pub ArmsAt : Arms → Type 0
  ArmsAt arms =
      (q : Eqn) (V : Sight) (m : Held) (now stay : Instant) (w : TreePlace → TreePlace) (place : Place) (here cut kept : Bool) (v : Value) (cw : ℕ) (t : Ty) (l : Layer) (d : Sketch) (ns : List ℕ) → IsSight F V → Lasting V
      → ArmsRight V.standing arms → ArmsSound F.types (node_among F.earlier) q V.scope V.has_last arms → ArmsKept F.types (CalleeKept F.types F.earlier) V.scope arms m.start m.memory → ArmsGiven F.types (CalleeGiven F.types F.earlier) V.scope arms m.free → ArmsTyped F.types (CalleeTyped F.types F.earlier) V.scope arms now
      → ArmsDrawable V.scope arms → ArmsFit V.scope (Some t) arms → IsWire F.types t v → Has ns cw (number_in v)
      → ArmsPart V q arms v m now stay w here cut kept → InReady F K V q l place here cut kept d ns → InShaped F K V l → Hidden F K V q ns (λ x. arm_number F.types arms v V.last now x) l → Holds (slots_of_arms F.types F.outs F.callee arms V.types w) d
      → ArmsDrew V q arms w d ns (drawn_arms F.told F.brings (push_values l V.drawn_scope) place cw arms d)

  abbrev pub StatesAt : States → Type 0
  StatesAt ss =
      (all : States) (q : Eqn) (V : Sight) (j sel : meaning.Jump) (i k : ℕ) (words : Words) (m : Held) (now stay : Instant) (w : TreePlace → TreePlace) (place : Place) (here cut kept : Bool) (rests : Rests) (l : Layer) (d : Sketch) (ns : List ℕ) → i ≡ k → is_mark words.lines.shape ≡ false
      → ((x : List ℕ) → or_none (words.numbers x) ≡ number_of 0 all x) → IsSight F V → Lasting V
      → StatesRight V.standing ss → StatesSound F.types (node_among F.earlier) q V.scope V.has_last ss → StatesKept F.types (CalleeKept F.types F.earlier) V.scope ss m.start m.memory → StatesGiven F.types (CalleeGiven F.types F.earlier) V.scope ss m.free → StatesTyped F.types (CalleeTyped F.types F.earlier) V.scope ss now
      → StatesDrawable V.scope ss → StatesPart V q ss k j j.state m now stay w here cut kept → Ready V place here cut kept d ns → InReady F K V q l place here cut kept d ns → InShaped F K V l → Hidden F K V q ns (λ x. state_number ss k j.state V.last now x) l
      → Goes F K ns words.lines.selected sel → Goes F K ns words.lines.active j → Goes F K ns rests.strong (strong_in F.types circuits all ss k sel V.names V.last m now) → Goes F K ns rests.weak (weak_of F.types circuits all ss k j (within q V.names V.last) V.last m now)
      → Holds (slots_of_states F.types F.outs F.callee ss V.types w) d
      → StatesDrew V q ss sel w d ns (drawn_states F.told F.brings (push_values l V.drawn_scope) place words i ss rests d)

  pub block-step : (ds : List Decl) (es : Eqns) → EqnsAt es → BlockAt (block ds es)
  block-step ds es ih fresh V m now stay w place here cut kept d ns N S outer lk r ok k g y dr p rd h =
      let b = block ds es in
      let ls = lasts_slots F.types ds w in
      let N' = numbered-inside F.types F.told V.scope ds N in
      let ss = slots_of_equations F.types F.outs F.callee es (scope_of b V.types) (below Equations w) in
      let I : IsBlockAt F V ds es m now stay w here cut kept = record { numbered = N'; shaped = S; sound = ok.0; known = ok.1.0; typed = y.0; apart = dr.0; lasts = k.0; outer_lasts = lk; stored = p.stored; same = p.same } in
      let x = entered F V ds es m now stay w place here cut kept d ns I rd (held-first F.slot F.raw F.given ls ss (length d.slots) h) in
      let r0 = enter F.told V.drawn_scope place ds es d in
      let Vi = inside_sight V b m now r0.0 in
      let Si : IsSight F Vi = record { numbered = N'; named = names_inside F.types (node_among F.earlier) ds es V.standing V.scope V.names now ok.0 outer y.0; shaped = x.shaped } in
      let O = entered-own F.told V.drawn_scope place ds es d in
      let gives : (x : List ℕ) → some_defines es x ≡ true → Vi.names x ≡ wired_defined F.types circuits es Vi.names Vi.last (held_at Equations m) (part Equations now) x = λ x i.
      ap (λ c. if c then now (Named x ∷ []) else V.names x) i ∙ ap (λ j. j (Named x ∷ [])) p.solves ∙ ap (λ c. if c then wired_defined F.types circuits es Vi.names Vi.last (held_at Equations m) (part Equations now) x else Absent) i
      in
      let pe = part-at F Equations m now stay w here cut kept (remembers_block F.types circuits.remembers b m.start []) (next_block F.types circuits b V.names V.last m now) (shown_block F.types circuits b V.names V.last m now) (wired_block F.types circuits b fresh V.names V.last m now) p in
      let e = ih ds Vi (held_at Equations m) (part Equations now) (part Equations stay) (below Equations w) place here cut kept r0.1 x.numbers Si (lasts_inside F.types (node_among F.earlier) ds es V.scope V.has_last V.last m.memory ok.0 lk k.0)
      r.1 ok.1.1 k.1 g y.1 dr.1.1 (λ x'. (x.paths x', path-fits Vi.scope ds _ dr.1.0)) (λ x' n q. (O.owned x' n q).hole_is) O.known gives pe x.ready (behind-held d ns ls [] r0.1 x.numbers ss x.drawn_is h) in
      let s1 = drawn_eqns F.told F.brings r0.0 place ds es r0.1 in
      (e.0, then-drawn d ns ls [] r0.1 x.numbers ss (calls_in_eqns es (below Equations w)) s1 e.0 x.drawn_is e.1, more-ready Vi place here cut kept r0.1 x.numbers ss (calls_in_eqns es (below Equations w)) s1 e.0 e.1 x.ready, x.shaped)

  pub no-eqn-step : EqnsAt no_eqn
  no-eqn-step ds V m now stay w place here cut kept d ns S lk r ok k g y dr pa ho kn gives p rd h = (ns, nothing-drawn F.slot F.next (supposes_on F.showing F.wires) (owes_on F.showing F.wires) d ns rd.solved)

  pub eqns-step : (e : Eqn) (es : Eqns) → EqnAt e → EqnsAt es → EqnsAt (more_eqns e es)
  eqns-step e es ihe ih ds V m now stay w place here cut kept d ns S lk r ok k g y dr pa ho kn gives p rd h =
      let all = more_eqns e es in
      let ss = slots_of_equation F.types F.outs F.callee e V.types (below Head w) in
      let ts = slots_of_equations F.types F.outs F.callee es V.types (below Tail w) in
      let cs = calls_in_eqn e (below Head w) in
      let bg = remembers_equations F.types circuits.remembers all m.start [] in
      let af = next_equations F.types circuits ds all V.names V.last m now in
      let sh = shown_equations F.types circuits ds all V.names V.last m now in
      let so = wired_equations F.types circuits all V.names V.last m now in
      let x = ihe ds V (held_at Head m) (part Head now) (part Head stay) (below Head w) place here cut kept d ns S lk r.0 ok.0 k.0 g.0 y.0 dr.1.0 pa ho (λ x i. kn x (left-or (defines e x) (some_defines es x) i))
      (first-gives F.types circuits e es V.names V.last m now gives) (part-at F Head m now stay w here cut kept bg af sh so p) rd (held-first F.slot F.raw F.given ss ts (length d.slots) h) in
      let s1 = drawn_eqn F.told F.brings V.drawn_scope place ds e d in
      let o = ih ds V (held_at Tail m) (part Tail now) (part Tail stay) (below Tail w) place here cut kept s1 x.0 S lk r.1 ok.1 k.1 g.1 y.1 dr.1.1 pa ho (λ x i. kn x (right-or (defines e x) (some_defines es x) i))
      (others-give F.types circuits e es V.names V.last m now dr.0 gives) (part-at F Tail m now stay w here cut kept bg af sh so p) (more-ready V place here cut kept d ns ss cs s1 x.0 x.1 rd) (behind-held d ns ss cs s1 x.0 ts x.1 h) in
      (o.0, then-drawn d ns ss cs s1 x.0 ts (calls_in_eqns es (below Tail w)) (drawn_eqns F.told F.brings V.drawn_scope place ds es s1) o.0 x.1 o.1)

  pub define-step : (at : Span) (ys : List (List ℕ × Span)) (e : Expr) → EqnAt (define at ys e)
  define-step at ys e ds V m now stay w place here cut kept d ns S lk r ok k g y dr pa ho kn gives p rd h =
      let q = define at ys e in
      assigned F K V S ds pa place here cut kept ys e (held_at Right m) (part Right now) (part Right stay) (below Right w) d ns r.0 r.2 ok k g y dr gives
      (part-at F Right m now stay w here cut kept (remembers_equation F.types circuits.remembers q m.start []) (next_equation F.types circuits ds q V.names V.last m now) (shown_equation F.types circuits ds q V.names V.last m now) (wired_equation F.types circuits q V.names V.last m now) p) rd h

  pub switch-step : (at : Span) (e : Expr) (arms : Arms) → ArmsAt arms → EqnAt (switch at e arms)
  switch-step at e arms ih ds V m now stay w place here cut kept d ns S lk r ok k g y dr pa ho kn gives p rd h =
      let q = switch at e arms in
      let z = V.drawn_scope in
      let t = ok.1.0.0 in
      let te = ok.1.0.1.0 in
      let bg = remembers_equation F.types circuits.remembers q m.start [] in
      let af = next_equation F.types circuits ds q V.names V.last m now in
      let sh = shown_equation F.types circuits ds q V.names V.last m now in
      let so = wired_equation F.types circuits q V.names V.last m now in
      let ss = slots_of F V e (below Test w) in
      let ts = slots_of_arms F.types F.outs F.callee arms V.types (below ArmsOf w) in
      let cs = calls e (below Test w) in
      let pt = part-at F Test m now stay w here cut kept bg af sh so p in
      let x = expression F V e [] t (held_at Test m) (part Test now) (part Test stay) (below Test w) place here cut kept d ns K S
      (wired-at F K V e [] t (held_at Test m) (part Test now) (part Test stay) (below Test w) here cut kept r.1 ok.0 te k.0 g.0 y.0 pt) rd (held-first F.slot F.raw F.given ss ts (length d.slots) h) in
      let c = drawn F.told F.brings z place e d in
      let v = now (Test ∷ []) in
      let rd1 = more-ready V place here cut kept d ns ss cs c.1 x.numbers x.drawn_is rd in
      let hb = hidden-begins F K V q place here cut kept c.1 x.numbers S ho kn rd1 in
      let wt : IsWire F.types t v = top_is F.types (CalleeTyped F.types F.earlier) V.scope e t (part Test now) te y.0 in
      let same : (u : List ℕ) → defines q u ≡ true → number_in (V.names u) ≡ arm_number F.types arms v V.last (part ArmsOf now) u = λ u i.
      ap number_in (gives u i ∙ ap (λ a. arm_value F.types circuits Absent arms a V.last (part ArmsOf now) u) (sym (ap top pt.solves))) ∙ arm-is F.types F.earlier Absent arms v V.last (part ArmsOf now) u refl
      in
      let hd = hidden-as q V.scope V.last x.numbers (λ u. number_in (V.names u)) (λ u. arm_number F.types arms v V.last (part ArmsOf now) u) (hidden_layer F K V q) same hb.2 in
      let a = ih q V (held_at ArmsOf m) (part ArmsOf now) (part ArmsOf stay) (below ArmsOf w) place here cut kept v c.0.wire t (hidden_layer F K V q) c.1 x.numbers S lk r.2 ok.1.1 k.1 g.1 y.1 dr.1 (subst (λ o. ArmsFit V.scope o arms) te dr.0) wt x.carried
      (part-at F ArmsOf m now stay w here cut kept bg af sh so p) hb.0 hb.1 hd (behind-held d ns ss cs c.1 x.numbers ts x.drawn_is h) in
      let s1 = drawn_arms F.told F.brings (push_values (hidden_layer F K V q) z) place c.0.wire arms c.1 in
      let en = hidden-ended F K V q a.2 s1 a.0 a.1.solved a.3 a.4 in
      let d1 = then-drawn d ns ss cs c.1 x.numbers ts (calls_in_arms arms (below ArmsOf w)) s1.1 a.0 x.drawn_is a.1 in
      subst (λ u. Drew d ns (ss ++ ts) (cs ++ calls_in_arms arms (below ArmsOf w)) (leave_hidden (drawn_arms F.told F.brings u place c.0.wire arms c.1))) (sym (hide-pushed z q))
      (a.0, end-drawn d ns (ss ++ ts) (cs ++ calls_in_arms arms (below ArmsOf w)) s1.1 a.0 (end_hidden s1.0 s1.1) a.0 d1 en)

  pub no-arm-step : ArmsAt no_arm
  no-arm-step q V m now stay w place here cut kept v cw t l d ns S lk r ok k g y dr af wt hv p rd sh hd h = (ns, nothing-drawn F.slot F.next (supposes_on F.showing F.wires) (owes_on F.showing F.wires) d ns rd.solved, l, refl, hd)

  pub arms-step : (c : Cons) (b : Block) (at : Span) (arms : Arms) → BlockAt b → ArmsAt arms → ArmsAt (more_arms c b at arms)
  arms-step c b at arms ihb ih q V m now stay w place here cut kept v cw t l d ns S lk r ok k g y dr af wt hv p rd sh hd h =
      let all = more_arms c b at arms in
      let z = V.drawn_scope in
      let taken = is_cons F.types v c in
      let ce = let a = agreed (Some t) (cons_type V.scope c) af.0 in a.2 ∙ sym a.1 in
      let Vh = hidden_sight V q l in
      let names = within q V.names V.last in
      let ss = slots_of_block F.types F.outs F.callee b V.types (below Head w) in
      let ts = slots_of_arms F.types F.outs F.callee arms V.types (below Tail w) in
      let cs = calls_in_block b (below Head w) in
      let ds = calls_in_arms arms (below Tail w) in
      let bg = remembers_arms F.types circuits.remembers all m.start [] in
      let an = next_arms F.types circuits all v names V.last m now in
      let sn = shown_arms F.types circuits all v names V.last m now in
      let so = wired_arms F.types circuits all names V.last m now in
      let r1 = enter_arm F.told place cw c d in
      let e1 = arm-entered V place here cut kept cw c v t d ns S rd.solved rd.place_is hv ce wt in
      let rd1 = more-ready Vh place here cut kept d ns [] [] r1.2 e1.numbers e1.drawn_is rd in
      let ph = part-branch F (held_at Head m) (part Head now) (part Head stay) (below Head w) here cut kept (part Head bg) taken (next_block F.types circuits b names V.last (held_at Head m) (part Head now)) (shown_block F.types circuits b names V.last (held_at Head m) (part Head now))
      (wired_block F.types circuits b false names V.last (held_at Head m) (part Head now)) (part-at F Head m now stay w here cut kept bg an sn so p) in
      let bd = ihb false Vh (held_at Head m) (part Head now) (branch_stay here (part Head m.memory) (part Head stay)) (below Head w) r1.1 (here && taken) cut kept r1.2 e1.numbers S.numbered sh
      (branch_outer F.types (node_among F.earlier) q b V.standing V.scope V.has_last V.names V.last ok.0 S.named lk) lk r.0 ok.1.0 k.0 g.0 y.0 dr.0 ph (place-ready Vh place r1.1 here cut kept (here && taken) cut kept r1.2 e1.numbers rd1 e1.place_is e1.place_base)
      (behind-held d ns [] [] r1.2 e1.numbers ss e1.drawn_is (held-first F.slot F.raw F.given ss ts (length d.slots) h)) in
      let s1 = drawn_block F.told F.brings (push_values l z) r1.1 b r1.2 in
      let d1 = then-drawn d ns [] [] r1.2 e1.numbers ss cs s1.1 bd.0 e1.drawn_is bd.1 in
      let H : List ℕ → ℕ = λ x. arm_number F.types arms v V.last (part Tail now) x in
      let zeros : Zeros F K V q (λ x. number_in (from_block b V.last (part Head now) x)) H = λ x s i f mk.
      let u = name-known F K V q b x ok.0 ok.1.0 lk i in
      let int : _ ≡ true = sym (f u.0 u.1) ∙ mk in
      (branch-zero F K V q b (part Head now) x u.0 ok.0 y.0 lk i u.1 int, arms-zero F K V q arms v (part Tail now) x u.0 ok.1.1 y.1 lk i u.1 int)
      in
      let bl = block-left F K V q b (part Head now) r1.1 r1.0 taken H l r1.2 s1.1 bd.0 bd.1.solved (more-has r1.2 e1.numbers ss cs s1.1 bd.0 bd.1 r1.0 (truth taken) e1.taken_is) bd.2.values
      (hidden-more q V.scope V.last ns bd.0 (λ x. arm_number F.types all v V.last now x) l (more-has d ns ss cs s1.1 bd.0 d1) hd) zeros in
      let j = join r1.0 s1.0 s1.1 in
      let d2 = end-drawn d ns ss cs s1.1 bd.0 j.1 bl.0 d1 bl.1 in
      let same = same-pushed l bl.2 z bl.5 in
      let rd2 = ready-same F.slot F.types Vh.names Vh.last (push_values l z) (push_values bl.2 z) place [] here cut kept j.1 bl.0 same (more-ready Vh place here cut kept d ns ss cs j.1 bl.0 d2 rd) in
      let rest = ih q V (held_at Tail m) (part Tail now) (part Tail stay) (below Tail w) place here cut kept v cw t bl.2 j.1 bl.0 S lk r.1 ok.1.1 k.1 g.1 y.1 dr.1 af.1 wt (more-has d ns ss cs j.1 bl.0 d2 cw (number_in v) hv)
      (part-at F Tail m now stay w here cut kept bg an sn so p) rd2 (shaped-same V.scope V.has_last V.types (push_values l z) (push_values bl.2 z) same sh) bl.4 (behind-held d ns ss cs j.1 bl.0 ts d2 h) in
      let o = subst (λ u. ArmsDrew V q arms (below Tail w) j.1 bl.0 (drawn_arms F.told F.brings u place cw arms j.1)) (sym bl.3) rest in
      (o.0, then-drawn d ns ss cs j.1 bl.0 ts ds (drawn_arms F.told F.brings j.0 place cw arms j.1).1 o.0 d2 o.1, o.2, o.3, o.4)

  pub no-state-step : StatesAt no_state
  no-state-step all q V j sel i k words m now stay w place here cut kept rests l d ns ik shp num S lk r ok kk g y dr p rd ri sh hd gs ga gr gw h =
      (ns, nothing-drawn F.slot F.next (supposes_on F.showing F.wires) (owes_on F.showing F.wires) d ns rd.solved, l, refl, hd, gr, gw)
