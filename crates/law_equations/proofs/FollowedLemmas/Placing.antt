-- What the commands of one equation do in its place.
use Rattle.std.proofs.Common.{◌≡◌, ℕ, Bool, true, false, List, [], ◌∷◌, ◌++◌, map, if◌then◌else◌, refl, sym, ap, ◌∙◌}
use Rattle.std.specs.List.{AllByRecursion, flat_map}
use Rattle.std.specs.Str.{bytes_eq}
use Rattle.hp_base.specs.Kinds.{KindData, AreOfKinds}
use Rattle.hp_base.specs.declared.value.Value.{Value}
use Rattle.hp_obc.specs.declared.command.Arg.{Arg}
use Rattle.hp_obc.specs.declared.command.Arg.TheVariants.{Name as NameArg, Const as ConstArg}
use Rattle.hp_obc.specs.declared.command.ObcOp.{ObcOp}
use Rattle.hp_obc.specs.declared.command.ObcOp.TheVariants.{Copy}
use Rattle.hp_obc.specs.Commands.{Cmd, set, call, restart as reset, cmds_of}
use Rattle.hp_obc.specs.Machines.{ObcType}
use Rattle.hp_obc.specs.Values.{constant_of, or_absent, operated}
use Rattle.hp_obc.specs.Steps.{Names, State, Memory, Stepped, Behaviour, Known, given, all_given, argument as value_of, after, after_one}
use Rattle.hp_flat.specs.declared.equation.Atom.{Atom}
use Rattle.hp_flat.specs.declared.equation.Atom.TheVariants.{Variable as Named, Value as Fixed}
use Rattle.hp_flat.specs.declared.node.Variable.{Variable}
use Rattle.hp_flat.specs.Equations.{Clock, Right, operator, register, called}
use Rattle.law_equations.specs.Meaning.Instants.{Instant, holds, restarted, atom, atoms, unless, noted, history, since, newest}
use Rattle.law_equations.specs.Meaning.Reactions.{Answers}
use Rattle.law_equations.specs.Meaning.Fitting.{IsThere, ClockFits, atom_variables}
use Rattle.law_equations.specs.Meaning.Scheduling.{clock_variables}
use Rattle.hp_toobc.specs.Tables.{name_of, constant, argument}
use Rattle.hp_toobc.specs.Making.{under, where_true, set_first}
use Rattle.hp_toobc.specs.Stepping.{AreWide}
use Rattle.hp_toobc.proofs.AfterLaws.{after-append}
use Rattle.law_equations.specs.Followed.Memories.{memory_after, answered, AnswersAs}
use Rattle.law_equations.specs.Followed.Premises.{constants_in, IsTold}
use Rattle.law_equations.proofs.FollowedLemmas.Naming.{given-at, given-else, given-self, given-twice, each_both}
use Rattle.law_equations.proofs.FollowedLemmas.Nested.{Shows, ShowsFlag, after-clock, after-where_true}

-- targets that are given their values, where the equation is there
abbrev pub with_targets : List Variable → Bool → List ℕ → Instant → Names Value → Names Value
with_targets variables true xs now g = all_given (map (name_of variables) xs) (map now xs) g
with_targets variables false xs now g = g

-- the memory of a register, and of an instance, behind the place of the equation
abbrev pub with_cell : List ℕ → Clock → List ℕ → List Instant → Instant → Right → Names Value → Names Value
with_cell label clock restart past now (register first next) g = given label (newest first (since clock restart (λ i. atom i next) past now)) g
with_cell label clock restart past now right g = g

abbrev pub with_inner : Known → List ℕ → Clock → List ℕ → List Instant → Instant → Right → Names Memory → Names Memory
with_inner known label clock restart past now (called f args) g = given label (memory_after (known f) (history clock restart (λ i. atoms i args) (now ∷ past))) g
with_inner known label clock restart past now right g = g

abbrev pub after_place : List Variable → Known → List ℕ → List ℕ → Clock → List ℕ → Right → List Instant → Instant → State → State
after_place variables known label targets clock restart right past now s = record {
  values = with_targets variables (holds clock now) targets now (with_cell label clock restart past now right s.values);
  memories = with_inner known label clock restart past now right s.memories;
}

-- before the place of an equation: its memory is that of the past
abbrev pub Ready : Known → List ℕ → Clock → List ℕ → List Instant → Right → State → Type 0
Ready known label clock restart past (operator op args) s = Unit {0}
Ready known label clock restart past (register first next) s = s.values label ≡ newest first (history clock restart (λ i. atom i next) past)
Ready known label clock restart past (called f args) s = s.memories label ≡ memory_after (known f) (history clock restart (λ i. atoms i args) past)

-- an instance is one of the machine of the node
abbrev pub IsInstance : Known → Names Behaviour → List ℕ → Right → Type 0
IsInstance known insts label (called f args) = insts label ≡ known f
IsInstance known insts label right = Unit {0}

-- all arguments of a past were of the kinds
abbrev pub PastTaken : Names (List KindData) → Clock → List ℕ → List Instant → Right → Type 0
PastTaken takes clock restart past (called f args) = AllByRecursion (AreOfKinds (takes f)) (history clock restart (λ i. atoms i args) past)
PastTaken takes clock restart past right = Unit {0}

pub state-is : (a b : Names Value) (c d : Names Memory) → a ≡ b → c ≡ d → ◌≡◌ {A = State} (record { values = a; memories = c }) (record { values = b; memories = d })
state-is a b c d e f = λ i. record { values = e i; memories = f i }

-- the state behind an equation, with the commands of its place
abbrev pub place_of : List ObcType → List Variable → List ℕ → List ℕ → Clock → List ℕ → Right → List Cmd
place_of types variables label targets clock again (operator op args) = under types variables clock (set_first types variables targets op (map (argument types variables) args))
place_of types variables label targets clock again (register first next) =
    where_true types variables again (set label Copy (ConstArg (constant types first) ∷ [])) ++ under types variables clock (set_first types variables targets Copy (NameArg label ∷ []))
place_of types variables label targets clock again (called f args) =
    where_true types variables again (reset label) ++ under types variables clock (call label (map (name_of variables) targets) (map (argument types variables) args) ∷ [])

abbrev Reads : List Variable → Names Value → Instant → ℕ → Type 0
Reads variables vals now x = vals (name_of variables x) ≡ now x

module _ (types : List ObcType) (variables : List Variable) where
  pub atom-read : (vals : Names Value) (now : Instant) (a : Atom) → AllByRecursion (Reads variables vals now) (atom_variables a) → AllByRecursion (IsTold types) (constants_in (a ∷ [])) → value_of types vals (argument types variables a) ≡ atom now a
  atom-read vals now (Named x) h k = h.0
  atom-read vals now (Fixed v) h k = k.0

  pub atoms-read : (vals : Names Value) (now : Instant) (args : List Atom) → AllByRecursion (Reads variables vals now) (flat_map atom_variables args) → AllByRecursion (IsTold types) (constants_in args) → map (value_of types vals) (map (argument types variables) args) ≡ atoms now args
  atoms-read vals now [] h k = refl
  atoms-read vals now (Named x ∷ args) h k = λ i. h.0 i ∷ atoms-read vals now args h.1 k i
  atoms-read vals now (Fixed v ∷ args) h k = λ i. k.0 i ∷ atoms-read vals now args h k.1 i

  pub read_there : (now : Instant) (vals : Names Value) (xs : List ℕ) → AllByRecursion (Shows variables now vals) xs → AllByRecursion (IsThere now) xs → AllByRecursion (Reads variables vals now) xs
  read_there now vals = each_both (Shows variables now vals) (IsThere now) (Reads variables vals now) (λ x s t. s t)

  -- what a variable shows is not changed by another name's value
  shows-given : (now : Instant) (label : List ℕ) (v : Value) (vals : Names Value) (xs : List ℕ) → AllByRecursion (λ x. bytes_eq label (name_of variables x) ≡ false) xs → AllByRecursion (Shows variables now vals) xs → AllByRecursion (Shows variables now (given label v vals)) xs
  shows-given now label v vals = each_both (λ x. bytes_eq label (name_of variables x) ≡ false) (Shows variables now vals) (Shows variables now (given label v vals)) (λ x e s t. given-else label v vals (name_of variables x) e ∙ s t)

  flags-given : (now : Instant) (label : List ℕ) (v : Value) (vals : Names Value) (xs : List ℕ) → AllByRecursion (λ x. bytes_eq label (name_of variables x) ≡ false) xs → AllByRecursion (ShowsFlag variables now vals) xs → AllByRecursion (ShowsFlag variables now (given label v vals)) xs
  flags-given now label v vals = each_both (λ x. bytes_eq label (name_of variables x) ≡ false) (ShowsFlag variables now vals) (ShowsFlag variables now (given label v vals))
      (λ x e s. ap Rattle.hp_obc.specs.Steps.arm_number (given-else label v vals (name_of variables x) e) ∙ s)

module _ (types : List ObcType) (variables : List Variable) (known : Known) (insts : Names Behaviour) where
  set_first-law : (targets : List ℕ) (op : ObcOp) (args : List Arg) (v : Value) (now : Instant) (s : State)
      → map now targets ≡ v ∷ [] → operated op (map (value_of types s.values) args) ≡ v
      → after types insts (cmds_of (set_first types variables targets op args)) s ≡ record { values = with_targets variables true targets now s.values; memories = s.memories }
  set_first-law [] op args v now s h e = absurd (cc)
  set_first-law (x ∷ []) op args v now s h e =
      let one : v ≡ now x = cc in
      state-is (given (name_of variables x) (operated op (map (value_of types s.values) args)) s.values) (given (name_of variables x) (now x) s.values) s.memories s.memories (ap (λ w. given (name_of variables x) w s.values) (e ∙ one)) refl
  set_first-law (x ∷ y ∷ ys) op args v now s h e = absurd (cc)

  -- ---- what an equation does in its place

  operator_by : (d : Bool) (targets : List ℕ) (op : ObcOp) (args : List Atom) (now : Instant) (s : State)
      → (d ≡ true → map now targets ≡ operated op (atoms now args) ∷ []) → (d ≡ true → map (value_of types s.values) (map (argument types variables) args) ≡ atoms now args)
      → (if d then after types insts (cmds_of (set_first types variables targets op (map (argument types variables) args))) s else s) ≡ record { values = with_targets variables d targets now s.values; memories = s.memories }
  operator_by true targets op args now s h r = set_first-law targets op (map (argument types variables) args) (operated op (atoms now args)) now s (h refl) (ap (operated op) (r refl))
  operator_by false targets op args now s h r = refl

  pub place-operator : (label : List ℕ) (targets : List ℕ) (clock : Clock) (restart : List ℕ) (op : ObcOp) (args : List Atom) (past : List Instant) (now : Instant) (s : State)
      → ClockFits clock now → AllByRecursion (Shows variables now s.values) (clock_variables clock) → AreWide types variables clock
      → (holds clock now ≡ true → map now targets ≡ operated op (atoms now args) ∷ []) → (holds clock now ≡ true → AllByRecursion (IsThere now) (flat_map atom_variables args))
      → AllByRecursion (Shows variables now s.values) (flat_map atom_variables args) → AllByRecursion (IsTold types) (constants_in args)
      → after types insts (cmds_of (place_of types variables label targets clock restart (operator op args))) s ≡ after_place variables known label targets clock restart (operator op args) past now s
  place-operator label targets clock restart op args past now s fits shows wide hold there reads consts =
      after-clock types insts variables clock (set_first types variables targets op (map (argument types variables) args)) s now fits shows wide
      ∙ operator_by (holds clock now) targets op args now s hold (λ t. atoms-read types variables s.values now args (read_there types variables now s.values (flat_map atom_variables args) reads (there t)) consts)

  -- a register whose memory is set to its first value where it is to begin anew
  renewed_by : (d : Bool) (label : List ℕ) (first : Value) (h : List Value) (s : State) → s.values label ≡ newest first h → IsTold types first
      → (if d then after_one types insts (set label Copy (ConstArg (constant types first) ∷ [])) s else s) ≡ record { values = given label (newest first (unless d h)) s.values; memories = s.memories }
  renewed_by true label first h s e says = state-is (given label (or_absent (constant_of types (constant types first))) s.values) (given label first s.values) s.memories s.memories (ap (λ w. given label w s.values) says) refl
  renewed_by false label first h s e says = state-is s.values (given label (newest first h) s.values) s.memories s.memories (sym (given-self label (newest first h) s.values e)) refl

  register_by : (d : Bool) (label : List ℕ) (targets : List ℕ) (v : Value) (now : Instant) (s : State)
      → (d ≡ true → map now targets ≡ v ∷ [])
      → (if d then after types insts (cmds_of (set_first types variables targets Copy (NameArg label ∷ []))) (record { values = given label v s.values; memories = s.memories }) else record { values = given label v s.values; memories = s.memories })
      ≡ record { values = with_targets variables d targets now (given label v s.values); memories = s.memories }
  register_by true label targets v now s h = set_first-law targets Copy (NameArg label ∷ []) v now (record { values = given label v s.values; memories = s.memories }) (h refl) (given-at label v s.values)
  register_by false label targets v now s h = refl

  pub place-register : (label : List ℕ) (targets : List ℕ) (clock : Clock) (restart : List ℕ) (first : Value) (next : Atom) (past : List Instant) (now : Instant) (s : State)
      → ClockFits clock now → AllByRecursion (Shows variables now s.values) (clock_variables clock) → AreWide types variables clock
      → AllByRecursion (λ x. bytes_eq label (name_of variables x) ≡ false) (clock_variables clock) → AllByRecursion (λ x. bytes_eq label (name_of variables x) ≡ false) restart
      → AllByRecursion (ShowsFlag variables now s.values) restart
      → (holds clock now ≡ true → map now targets ≡ newest first (since clock restart (λ i. atom i next) past now) ∷ [])
      → IsTold types first → s.values label ≡ newest first (history clock restart (λ i. atom i next) past)
      → after types insts (cmds_of (place_of types variables label targets clock restart (register first next))) s ≡ after_place variables known label targets clock restart (register first next) past now s
  place-register label targets clock restart first next past now s fits shows wide clock_apart restart_apart flags hold says ready =
      let c : Cmd = set label Copy (ConstArg (constant types first) ∷ []) in
      let w : Value = or_absent (constant_of types (constant types first)) in
      let v : Value = newest first (since clock restart (λ i. atom i next) past now) in
      let rest : List Cmd = under types variables clock (set_first types variables targets Copy (NameArg label ∷ [])) in
      let s1 : State = record { values = given label v s.values; memories = s.memories } in
      after-append types insts (where_true types variables restart c) rest s
      ∙ ap (after types insts (cmds_of rest))
      (after-where_true types insts variables restart c s now flags (flags-given types variables now label w s.values restart restart_apart flags)
      (state-is (given label w (given label w s.values)) (given label w s.values) s.memories s.memories (given-twice label w w s.values) refl)
      ∙ renewed_by (restarted restart now) label first (history clock restart (λ i. atom i next) past) s ready says)
      ∙ after-clock types insts variables clock (set_first types variables targets Copy (NameArg label ∷ [])) s1 now fits (shows-given types variables now label v s.values (clock_variables clock) clock_apart shows) wide
      ∙ register_by (holds clock now) label targets v now s hold

  -- an instance whose memory is reset where it is to begin anew
  reset_by : (d : Bool) (label f : List ℕ) (h : List (List Value)) (s : State) → insts label ≡ known f → s.memories label ≡ memory_after (known f) h
      → (if d then after_one types insts (reset label) s else s) ≡ record { values = s.values; memories = given label (memory_after (known f) (unless d h)) s.memories }
  reset_by true label f h s e ready = state-is s.values s.values (given label (insts label).reset s.memories) (given label (known f).reset s.memories) refl (ap (λ (b : Behaviour). given label b.reset s.memories) e)
  reset_by false label f h s e ready = state-is s.values s.values s.memories (given label (memory_after (known f) h) s.memories) refl (sym (given-self label (memory_after (known f) h) s.memories ready))

  called_by : (d : Bool) (label : List ℕ) (targets : List ℕ) (f : List ℕ) (args : List Atom) (h : List (List Value)) (now : Instant) (s : State)
      → insts label ≡ known f → (d ≡ true → map now targets ≡ answered (known f) (atoms now args) h) → (d ≡ true → map (value_of types s.values) (map (argument types variables) args) ≡ atoms now args)
      → (if d then after types insts (cmds_of (call label (map (name_of variables) targets) (map (argument types variables) args) ∷ [])) (record { values = s.values; memories = given label (memory_after (known f) h) s.memories })
      else record { values = s.values; memories = given label (memory_after (known f) h) s.memories })
      ≡ record { values = with_targets variables d targets now s.values; memories = given label (memory_after (known f) (noted d (atoms now args) h)) s.memories }
  called_by true label targets f args h now s inst hold read =
      let m : Memory = memory_after (known f) h in
      let outs : List (List ℕ) = map (name_of variables) targets in
      let mems : Names Memory = given label m s.memories in
      let stepped : (insts label).step (mems label) (map (value_of types s.values) (map (argument types variables) args)) ≡ (known f).step m (atoms now args) =
      λ i. (inst i).step (given-at label m s.memories i) (read refl i) in
      state-is (all_given outs ((insts label).step (mems label) (map (value_of types s.values) (map (argument types variables) args))).outputs s.values) (all_given outs (map now targets) s.values)
      (given label ((insts label).step (mems label) (map (value_of types s.values) (map (argument types variables) args))).kept mems) (given label ((known f).step m (atoms now args)).kept s.memories)
      (ap (λ (st : Stepped). all_given outs st.outputs s.values) stepped ∙ ap (λ vs. all_given outs vs s.values) (sym (hold refl)))
      (ap (λ (st : Stepped). given label st.kept mems) stepped ∙ given-twice label ((known f).step m (atoms now args)).kept m s.memories)
  called_by false label targets f args h now s inst hold read = refl

  kept_taken : (takes : Names (List KindData)) (d : Bool) (f : List ℕ) (h : List (List Value)) → AllByRecursion (AreOfKinds (takes f)) h → AllByRecursion (AreOfKinds (takes f)) (unless d h)
  kept_taken takes true f h t = tt
  kept_taken takes false f h t = t

  pub place-called : (answers : Answers) (takes : Names (List KindData)) (label : List ℕ) (targets : List ℕ) (clock : Clock) (restart : List ℕ) (f : List ℕ) (args : List Atom) (past : List Instant) (now : Instant) (s : State)
      → AnswersAs answers takes f (known f)
      → ClockFits clock now → AllByRecursion (Shows variables now s.values) (clock_variables clock) → AreWide types variables clock
      → AllByRecursion (ShowsFlag variables now s.values) restart
      → (holds clock now ≡ true → map now targets ≡ answers f (atoms now args) (since clock restart (λ i. atoms i args) past now)) → (holds clock now ≡ true → AllByRecursion (IsThere now) (flat_map atom_variables args))
      → AllByRecursion (Shows variables now s.values) (flat_map atom_variables args) → AllByRecursion (IsTold types) (constants_in args)
      → (holds clock now ≡ true → AreOfKinds (takes f) (atoms now args)) → AllByRecursion (AreOfKinds (takes f)) (history clock restart (λ i. atoms i args) past)
      → insts label ≡ known f → s.memories label ≡ memory_after (known f) (history clock restart (λ i. atoms i args) past)
      → after types insts (cmds_of (place_of types variables label targets clock restart (called f args))) s ≡ after_place variables known label targets clock restart (called f args) past now s
  place-called answers takes label targets clock restart f args past now s by fits shows wide flags hold there reads consts taken past_taken inst ready =
      let cs : List Cmd = call label (map (name_of variables) targets) (map (argument types variables) args) ∷ [] in
      let h : List (List Value) = history clock restart (λ i. atoms i args) past in
      let h1 : List (List Value) = since clock restart (λ i. atoms i args) past now in
      let s1 : State = record { values = s.values; memories = given label (memory_after (known f) h1) s.memories } in
      after-append types insts (where_true types variables restart (reset label)) (under types variables clock cs) s
      ∙ ap (after types insts (cmds_of (under types variables clock cs)))
      (after-where_true types insts variables restart (reset label) s now flags flags
      (state-is s.values s.values (given label (insts label).reset (given label (insts label).reset s.memories)) (given label (insts label).reset s.memories) refl (given-twice label (insts label).reset (insts label).reset s.memories))
      ∙ reset_by (restarted restart now) label f h s inst ready)
      ∙ after-clock types insts variables clock cs s1 now fits shows wide
      ∙ called_by (holds clock now) label targets f args h1 now s inst
      (λ t. hold t ∙ by (atoms now args) h1 (taken t) (kept_taken takes (restarted restart now) f h past_taken))
      (λ t. atoms-read types variables s.values now args (read_there types variables now s.values (flat_map atom_variables args) reads (there t)) consts)
