-- What is stored behind all equations.
use Rattle.std.proofs.Common.{◌≡◌, ℕ, ◌<◌, Bool, true, false, List, [], ◌∷◌, ◌++◌, length, if◌then◌else◌, refl, sym, ap, subst, ◌∙◌}
use Rattle.std.specs.List.{AllByRecursion, IsDistinct}
use Rattle.std.specs.Str.{bytes_eq}
use Rattle.hp_base.specs.Kinds.{KindData}
use Rattle.hp_base.specs.declared.value.Value.{Value}
use Rattle.hp_obc.specs.declared.command.ObcOp.TheVariants.{Copy}
use Rattle.hp_obc.specs.Commands.{Cmd, set, cmds_of}
use Rattle.hp_obc.specs.Machines.{ObcType}
use Rattle.hp_obc.specs.Steps.{Names, State, Behaviour, Known, given, argument as value_of, after, after_one}
use Rattle.hp_flat.specs.declared.equation.Atom.{Atom}
use Rattle.hp_flat.specs.declared.node.Variable.{Variable}
use Rattle.hp_flat.specs.Equations.{Clock, Right, operator, register, called, FlatEqn}
use Rattle.law_equations.specs.Meaning.Instants.{Instant, holds, atom, noted, history, since, newest}
use Rattle.law_equations.specs.Meaning.Reactions.{Answers}
use Rattle.law_equations.specs.Meaning.Fitting.{IsThere, ClockFits, atom_variables, operands}
use Rattle.law_equations.specs.Meaning.Scheduling.{clock_variables}
use Rattle.hp_toobc.specs.Tables.{name_of, argument}
use Rattle.hp_toobc.specs.Making.{under}
use Rattle.hp_toobc.specs.Stepping.{AreWide}
use Rattle.hp_toobc.proofs.AfterLaws.{after-append}
use Rattle.law_equations.specs.Followed.Premises.{constants_of, IsTold, names}
use Rattle.law_equations.proofs.FollowedLemmas.Naming.{given-at, given-else, given-self, turned, each_map}
use Rattle.law_equations.proofs.FollowedLemmas.Labels.{Labelled, Apart, LabelsDiffer}
use Rattle.law_equations.proofs.FollowedLemmas.Nested.{Shows, after-clock}
use Rattle.law_equations.proofs.FollowedLemmas.Placing.{state-is, atom-read, read_there}
use Rattle.law_equations.proofs.FollowedLemmas.Passing.{Settled, settled_stays, One, apart, shown, shown-there}

-- behind the store of an equation: its memory is that of the past with now
abbrev pub Stored : List ℕ → Clock → List ℕ → List Instant → Right → State → Type 0
Stored label clock restart past (register first next) s = s.values label ≡ newest first (history clock restart (λ i. atom i next) past)
Stored label clock restart past right s = Unit {0}

stored_stays : (label : List ℕ) (clock : Clock) (restart : List ℕ) (past : List Instant) (r : Right) (s t : State) → t.values label ≡ s.values label → Stored label clock restart past r s → Stored label clock restart past r t
stored_stays label clock restart past (operator op args) s t v h = tt
stored_stays label clock restart past (register first next) s t v h = v ∙ h
stored_stays label clock restart past (called f args) s t v h = tt

-- the commands with which an equation stores, and those of equations with labels
abbrev pub store_of : List ObcType → List Variable → List ℕ → Clock → Right → List Cmd
store_of types variables label clock (register first next) = under types variables clock (set label Copy (argument types variables next ∷ []) ∷ [])
store_of types variables label clock right = []

abbrev pub stored_all : List ObcType → List Variable → List Labelled → List Cmd
stored_all types variables [] = []
stored_all types variables (u ∷ us) = store_of types variables u.label u.eqn.clock u.eqn.right ++ stored_all types variables us

module _ (types : List ObcType) (variables : List Variable) (differ : IsDistinct bytes_eq (names variables)) (known : Known) (answers : Answers) (takes : Names (List KindData)) (past : List Instant) (now : Instant) (base : Names Value) (insts : Names Behaviour) where
  abbrev its_name : ℕ → List ℕ
  its_name x = name_of variables x

  abbrev IsNumber : ℕ → Type 0
  IsNumber x = x < length variables

  abbrev TheOne : Labelled → Type 0
  TheOne u = One types variables differ known answers takes past now base insts u

  abbrev its_value : ℕ → Value
  its_value x = shown types variables differ known answers takes past now base insts x

  abbrev IsSettled : State → Labelled → Type 0
  IsSettled s u = Settled known u.label u.eqn.clock u.eqn.restart past now u.eqn.right s

  abbrev with_stored : List ℕ → Clock → List ℕ → Right → Names Value → Names Value
  with_stored label clock restart (register first next) g = given label (newest first (history clock restart (λ i. atom i next) (now ∷ past))) g
  with_stored label clock restart right g = g

  abbrev stored_by : Labelled → State → State
  stored_by u s = record { values = with_stored u.label u.eqn.clock u.eqn.restart u.eqn.right s.values; memories = s.memories }

  store_register : (d : Bool) (label : List ℕ) (first v : Value) (next : Atom) (h : List Value) (s : State) → s.values label ≡ newest first h → (d ≡ true → value_of types s.values (argument types variables next) ≡ v)
      → (if d then after_one types insts (set label Copy (argument types variables next ∷ [])) s else s) ≡ record { values = given label (newest first (noted d v h)) s.values; memories = s.memories }
  store_register true label first v next h s e r = state-is (given label (value_of types s.values (argument types variables next)) s.values) (given label v s.values) s.memories s.memories (ap (λ w. given label w s.values) (r refl)) refl
  store_register false label first v next h s e r = state-is s.values (given label (newest first h) s.values) s.memories s.memories (sym (given-self label (newest first h) s.values e)) refl

  store_by : (label : List ℕ) (clock : Clock) (restart : List ℕ) (r : Right) (s : State)
      → ClockFits clock now → AllByRecursion (Shows variables now s.values) (clock_variables clock) → AreWide types variables clock
      → (holds clock now ≡ true → AllByRecursion (IsThere now) (operands r)) → AllByRecursion (Shows variables now s.values) (operands r) → AllByRecursion (IsTold types) (constants_of r)
      → Settled known label clock restart past now r s
      → after types insts (cmds_of (store_of types variables label clock r)) s ≡ record { values = with_stored label clock restart r s.values; memories = s.memories }
  store_by label clock restart (operator op args) s fits shows wide there rs says h = refl
  store_by label clock restart (called f args) s fits shows wide there rs says h = refl
  store_by label clock restart (register first next) s fits shows wide there rs says h =
      after-clock types insts variables clock (set label Copy (argument types variables next ∷ []) ∷ []) s now fits shows wide
      ∙ store_register (holds clock now) label first (atom now next) next (since clock restart (λ i. atom i next) past now) s h
      (λ t. atom-read types variables s.values now next (read_there types variables now s.values (atom_variables next) rs (there t)) says.1)

  with_stored-else : (label : List ℕ) (clock : Clock) (restart : List ℕ) (r : Right) (g : Names Value) (y : List ℕ) → bytes_eq label y ≡ false → with_stored label clock restart r g y ≡ g y
  with_stored-else label clock restart (operator op args) g y h = refl
  with_stored-else label clock restart (register first next) g y h = given-else label (newest first (history clock restart (λ i. atom i next) (now ∷ past))) g y h
  with_stored-else label clock restart (called f args) g y h = refl

  stored_here : (label : List ℕ) (clock : Clock) (restart : List ℕ) (r : Right) (s : State) → Stored label clock restart (now ∷ past) r (record { values = with_stored label clock restart r s.values; memories = s.memories })
  stored_here label clock restart (operator op args) s = tt
  stored_here label clock restart (register first next) s = given-at label (newest first (history clock restart (λ i. atom i next) (now ∷ past))) s.values
  stored_here label clock restart (called f args) s = tt

  pub record Kept (us : List Labelled) (s t : State) : Type 0 where
    pub stay_values : (y : List ℕ) → Apart y us → t.values y ≡ s.values y
    pub stay_memories : t.memories ≡ s.memories
    pub kept : AllByRecursion (λ (u : Labelled). Stored u.label u.eqn.clock u.eqn.restart (now ∷ past) u.eqn.right t) us

  settled_all : (u : Labelled) (s : State) (us : List Labelled) → Apart u.label us → AllByRecursion (IsSettled s) us → AllByRecursion (IsSettled (stored_by u s)) us
  settled_all u s [] a h = tt
  settled_all u s (w ∷ us) a h = (
    settled_stays known w.label w.eqn.clock w.eqn.restart past now w.eqn.right s (stored_by u s)
        (with_stored-else u.label u.eqn.clock u.eqn.restart u.eqn.right s.values w.label (turned w.label u.label a.0)) refl h.0,
    settled_all u s us a.1 h.1,
  )

  shows_of : (s : State) (xs : List ℕ) → ((x : ℕ) → IsNumber x → s.values (its_name x) ≡ its_value x) → AllByRecursion IsNumber xs → AllByRecursion (Shows variables now s.values) xs
  shows_of s xs f = each_map IsNumber (Shows variables now s.values) (λ x d t. f x d ∙ shown-there types variables differ known answers takes past now base insts x t) xs

  pub stores-law : (us : List Labelled) (s : State) → LabelsDiffer us → AllByRecursion TheOne us → ((x : ℕ) → IsNumber x → s.values (its_name x) ≡ its_value x)
      → AllByRecursion (IsSettled s) us → Kept us s (after types insts (cmds_of (stored_all types variables us)) s)
  stores-law [] s apart_all os vars h = record { stay_values = λ y a. refl; stay_memories = refl; kept = tt }
  stores-law (u ∷ us) s apart_all os vars h =
      let e : FlatEqn = u.eqn in
      let t : State = stored_by u s in
      let first : List Cmd = store_of types variables u.label e.clock e.right in
      let one : after types insts (cmds_of first) s ≡ t =
      store_by u.label e.clock e.restart e.right s os.0.fits.clock (shows_of s (clock_variables e.clock) vars os.0.within.clock) os.0.form.clock os.0.fits.operands_there
      (shows_of s (operands e.right) vars os.0.within.operands) os.0.form.constants h.0 in
      let rest : Kept us t (after types insts (cmds_of (stored_all types variables us)) t) =
      stores-law us t apart_all.1 os.1
      (λ x d. with_stored-else u.label e.clock e.restart e.right s.values (its_name x) (apart types variables differ known answers takes past now base insts u.label os.0.label_new x d) ∙ vars x d) (settled_all u s us apart_all.0 h.1) in
      let ends : after types insts (cmds_of (stored_all types variables (u ∷ us))) s ≡ after types insts (cmds_of (stored_all types variables us)) t =
      after-append types insts first (stored_all types variables us) s ∙ ap (after types insts (cmds_of (stored_all types variables us))) one in
      subst (Kept (u ∷ us) s) (sym ends) (record {
        stay_values = λ y a. rest.stay_values y a.1 ∙ with_stored-else u.label e.clock e.restart e.right s.values y a.0;
        stay_memories = rest.stay_memories;
        kept = (
          stored_stays u.label e.clock e.restart (now ∷ past) e.right t (after types insts (cmds_of (stored_all types variables us)) t) (rest.stay_values u.label apart_all.0) (stored_here u.label e.clock e.restart e.right s),
          rest.kept,
        );
      })
