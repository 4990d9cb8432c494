-- Commands under a clock and behind a restart, where variables show their values at an instant.
use Rattle.std.proofs.Common.{◌≡◌, ℕ, Bool, true, false, ◌||◌, ◌&&◌, nat_eq, List, [], ◌∷◌, if◌then◌else◌, refl, sym, ap, subst, ◌∙◌}
use Rattle.std.specs.List.{AllByRecursion}
use Rattle.hp_base.specs.declared.value.Value.{Value}
use Rattle.hp_base.specs.declared.value.Value.TheVariants.{Absent, B, E}
use Rattle.hp_obc.specs.Commands.{Cmd, cmds_of}
use Rattle.hp_obc.specs.Machines.{ObcType}
use Rattle.hp_obc.specs.Steps.{Names, State, Behaviour, after, after_one, after_arm, arm_number}
use Rattle.hp_flat.specs.declared.node.Variable.{Variable}
use Rattle.hp_flat.specs.Equations.{Clock}
use Rattle.law_equations.specs.Meaning.Instants.{Instant, has_constructor, holds, is_true, restarted}
use Rattle.law_equations.specs.Meaning.Fitting.{is_there, IsThere, is_choice, ClockFits}
use Rattle.law_equations.specs.Meaning.Scheduling.{clock_variables}
use Rattle.hp_toobc.specs.Tables.{name_of}
use Rattle.hp_toobc.specs.Making.{under, where_true, where_it_holds}
use Rattle.hp_toobc.specs.Stepping.{is_on, AreWide}
use Rattle.hp_toobc.proofs.AfterLaws.{after-under}

-- a variable shows its value, where it is there
abbrev pub Shows : List Variable → Instant → Names Value → ℕ → Type 0
Shows variables now vals x = IsThere now x → vals (name_of variables x) ≡ now x

-- a variable of a restart list is chosen as true where its value is true
abbrev pub ShowsFlag : List Variable → Instant → Names Value → ℕ → Type 0
ShowsFlag variables now vals x = arm_number (vals (name_of variables x)) ≡ arm_number (B (is_true (now x)))

choice-there : (v : Value) → is_choice v ≡ true → is_there v ≡ true
choice-there (B b) h = refl
choice-there (E t c) h = refl
choice-there Absent h = absurd (cc)
choice-there v h = refl

-- the arm of a value that is chosen by is that of its constructor
arm-chosen : (c : ℕ) (v : Value) → is_choice v ≡ true → nat_eq (arm_number v) c ≡ has_constructor c v
arm-chosen c (B true) h = refl
arm-chosen c (B false) h = refl
arm-chosen c (E t d) h = refl
arm-chosen c v h = absurd (cc)

on_by : (d e q : Bool) → (d ≡ true → q ≡ e) → (d && q) ≡ (d && e)
on_by true e q h = h refl
on_by false e q h = refl

-- the variables of a clock tell whether it holds
pub on-holds : (variables : List Variable) (vals : Names Value) (clock : Clock) (now : Instant) → ClockFits clock now → AllByRecursion (Shows variables now vals) (clock_variables clock) → is_on variables vals clock ≡ holds clock now
on-holds variables vals [] now fits shows = refl
on-holds variables vals (on ∷ clock) now fits shows =
    ap (λ v. nat_eq (arm_number v) on.1 && is_on variables vals clock) (shows.0 (choice-there (now on.0) fits.0))
    ∙ ap (λ d. d && is_on variables vals clock) (arm-chosen on.1 (now on.0) fits.0)
    ∙ on_by (has_constructor on.1 (now on.0)) (holds clock now) (is_on variables vals clock) (λ t. on-holds variables vals clock now (fits.1 t) shows.1)

module _ (types : List ObcType) (insts : Names Behaviour) (variables : List Variable) where
  -- commands under a clock are done where it holds
  pub after-clock : (clock : Clock) (cs : List Cmd) (s : State) (now : Instant)
      → ClockFits clock now → AllByRecursion (Shows variables now s.values) (clock_variables clock) → AreWide types variables clock
      → after types insts (cmds_of (under types variables clock cs)) s ≡ (if holds clock now then after types insts (cmds_of cs) s else s)
  after-clock clock cs s now fits shows wide =
      after-under types insts variables clock cs s wide ∙ ap (λ (d : Bool). if d then after types insts (cmds_of cs) s else s) (on-holds variables s.values clock now fits shows)

  same_either : (d : Bool) (s t : State) → s ≡ t → (if d then s else t) ≡ t
  same_either true s t e = e
  same_either false s t e = refl

  -- A command that may be done twice is done where a variable of the list is true.
  pub after-where_true : (xs : List ℕ) (c : Cmd) (s : State) (now : Instant)
      → AllByRecursion (ShowsFlag variables now s.values) xs → AllByRecursion (ShowsFlag variables now (after_one types insts c s).values) xs
      → after_one types insts c (after_one types insts c s) ≡ after_one types insts c s
      → after types insts (cmds_of (where_true types variables xs c)) s ≡ (if restarted xs now then after_one types insts c s else s)
  after-where_true [] c s now shows again twice = refl
  after-where_true (x ∷ xs) c s now shows again twice =
      ap (λ (k : ℕ). after types insts (cmds_of (where_true types variables xs c)) (after_arm types insts k (where_it_holds c) s)) shows.0
      ∙ true_by (is_true (now x))
      (after-where_true xs c (after_one types insts c s) now again.1 (subst (λ (t : State). AllByRecursion (ShowsFlag variables now t.values) xs) (sym twice) again.1) (ap (after_one types insts c) twice))
      (after-where_true xs c s now shows.1 again.1 twice)
    where
      true_by : (d : Bool)
          → after types insts (cmds_of (where_true types variables xs c)) (after_one types insts c s) ≡ (if restarted xs now then after_one types insts c (after_one types insts c s) else after_one types insts c s)
          → after types insts (cmds_of (where_true types variables xs c)) s ≡ (if restarted xs now then after_one types insts c s else s)
          → after types insts (cmds_of (where_true types variables xs c)) (after_arm types insts (arm_number (B d)) (where_it_holds c) s) ≡ (if d || restarted xs now then after_one types insts c s else s)
      true_by true h g = h ∙ same_either (restarted xs now) (after_one types insts c (after_one types insts c s)) (after_one types insts c s) twice
      true_by false h g = g
