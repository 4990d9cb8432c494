-- What the commands of all equations do in their places, one after the other.
use Rattle.std.proofs.Common.{◌≡◌, ℕ, ◌<◌, Bool, true, false, ◌||◌, ◌&&◌, List, [], ◌∷◌, ◌++◌, length, map, if◌then◌else◌, refl, sym, ap, subst, ◌∙◌}
use Rattle.std.specs.List.{AllByRecursion, IsDistinct}
use Rattle.std.specs.Str.{bytes_eq}
use Rattle.std.proofs.lemmas.Bool.{eqb-true}
use Rattle.hp_base.specs.Kinds.{KindData}
use Rattle.hp_base.specs.declared.value.Value.{Value}
use Rattle.hp_base.specs.declared.value.Value.TheVariants.{Absent, B}
use Rattle.hp_obc.specs.Commands.{Cmd, cmds_of}
use Rattle.hp_obc.specs.Machines.{ObcType}
use Rattle.hp_obc.specs.Steps.{Names, State, Memory, Behaviour, Known, given, arm_number, after}
use Rattle.hp_flat.specs.declared.node.Variable.{Variable}
use Rattle.hp_flat.specs.Equations.{Clock, Right, operator, register, called, FlatEqn}
use Rattle.law_equations.specs.Meaning.Instants.{Instant, holds, is_true, atom, atoms, history, since, newest}
use Rattle.law_equations.specs.Meaning.Reactions.{Answers, has, is_set, right_gives, Holds}
use Rattle.law_equations.specs.Meaning.Fitting.{is_there, IsThere, is_flag, ClockFits, operands, IsTaken, EqnFits}
use Rattle.law_equations.specs.Meaning.Scheduling.{clock_variables, right_reads, reads, IsUndefined, IsScheduled, AreBelow, EqnWithin}
use Rattle.hp_toobc.specs.Tables.{name_of}
use Rattle.hp_toobc.specs.Stepping.{AreWide}
use Rattle.hp_toobc.proofs.AfterLaws.{after-append}
use Rattle.law_equations.specs.Followed.Memories.{memory_after, CalleeAnswers}
use Rattle.law_equations.specs.Followed.Premises.{constants_of, IsTold, names, EqnForm}
use Rattle.law_equations.proofs.FollowedLemmas.Naming.{given-at, given-else, all_given-at, all_given-skip, turned, named, all_named, each_map, each_both}
use Rattle.law_equations.proofs.FollowedLemmas.Labels.{Labelled, eqns_of, Apart, LabelsDiffer, IsNew}
use Rattle.law_equations.proofs.FollowedLemmas.Nested.{Shows, ShowsFlag}
use Rattle.law_equations.proofs.FollowedLemmas.Placing.{with_targets, with_cell, with_inner, after_place, Ready, IsInstance, PastTaken, place_of, place-operator, place-register, place-called}

-- ---- small laws

pub and_false : (a b : Bool) → b ≡ false → (a && b) ≡ false
and_false true b h = h
and_false false b h = refl

or_false : (a b : Bool) → a ≡ false → b ≡ false → (a || b) ≡ false
or_false true b h g = absurd (cc)
or_false false b h g = g

both_true : (a c : Bool) → (a && c) ≡ true → (a ≡ true) × (c ≡ true)
both_true true c h = (refl, h)
both_true false c h = absurd (cc)

pub each_first : {A : Type 0} (P : A → Type 0) (xs ys : List A) → AllByRecursion P (xs ++ ys) → AllByRecursion P xs
each_first P [] ys h = tt
each_first P (x ∷ xs) ys h = (h.0, each_first P xs ys h.1)

pub each_second : {A : Type 0} (P : A → Type 0) (xs ys : List A) → AllByRecursion P (xs ++ ys) → AllByRecursion P ys
each_second P [] ys h = h
each_second P (x ∷ xs) ys h = each_second P xs ys h.1

each_append : {A : Type 0} (P : A → Type 0) (xs ys : List A) → AllByRecursion P xs → AllByRecursion P ys → AllByRecursion P (xs ++ ys)
each_append P [] ys h g = g
each_append P (x ∷ xs) ys h g = (h.0, each_append P xs ys h.1 g)

each_has_by : (d e : Bool) (P : ℕ → Type 0) (x y : ℕ) → Rattle.std.specs.Prelude.nat_eq x y ≡ d → P x → (e ≡ true → P y) → (d || e) ≡ true → P y
each_has_by true e P x y h p r t = subst P (eqb-true x y h) p
each_has_by false e P x y h p r t = r t

-- what holds of all numbers of a list holds of one
pub each_has : (P : ℕ → Type 0) (xs : List ℕ) (y : ℕ) → AllByRecursion P xs → has xs y ≡ true → P y
each_has P [] y h t = absurd (cc)
each_has P (x ∷ xs) y h t = each_has_by (Rattle.std.specs.Prelude.nat_eq x y) (has xs y) P x y refl h.0 (λ e. each_has P xs y h.1 e) t

-- the reads of an equation are among its numbers
right-below : (n : ℕ) (r : Right) → AreBelow n (operands r) → AreBelow n (right_reads r)
right-below n (operator op args) h = h
right-below n (register first next) h = tt
right-below n (called f args) h = h

reads-below : (n : ℕ) (e : FlatEqn) → EqnWithin n e → AreBelow n (reads e)
reads-below n e w =
    each_append (λ x. x < n) (clock_variables e.clock) (e.restart ++ right_reads e.right) w.clock (each_append (λ x. x < n) e.restart (right_reads e.right) w.restart (right-below n e.right w.operands))

with_cell-else : (label : List ℕ) (clock : Clock) (restart : List ℕ) (past : List Instant) (now : Instant) (r : Right) (g : Names Value) (y : List ℕ) → bytes_eq label y ≡ false → with_cell label clock restart past now r g y ≡ g y
with_cell-else label clock restart past now (operator op args) g y h = refl
with_cell-else label clock restart past now (register first next) g y h = given-else label (newest first (since clock restart (λ i. atom i next) past now)) g y h
with_cell-else label clock restart past now (called f args) g y h = refl

with_inner-else : (known : Known) (label : List ℕ) (clock : Clock) (restart : List ℕ) (past : List Instant) (now : Instant) (r : Right) (g : Names Memory) (y : List ℕ) → bytes_eq label y ≡ false → with_inner known label clock restart past now r g y ≡ g y
with_inner-else known label clock restart past now (operator op args) g y h = refl
with_inner-else known label clock restart past now (register first next) g y h = refl
with_inner-else known label clock restart past now (called f args) g y h = given-else label (memory_after (known f) (history clock restart (λ i. atoms i args) (now ∷ past))) g y h

-- a flag that is there is chosen by its value, and one that is not by what was there before, which is as `false`
flag_by : (v b : Value) → is_flag v ≡ true → (is_there v ≡ false → arm_number b ≡ 0) → arm_number (if is_there v then v else b) ≡ arm_number (B (is_true v))
flag_by Absent b h g = g refl
flag_by (B true) b h g = refl
flag_by (B false) b h g = refl
flag_by v b h g = absurd (cc)

-- behind the place of an equation: its memory is renewed, and its instance has stepped
abbrev pub Settled : Known → List ℕ → Clock → List ℕ → List Instant → Instant → Right → State → Type 0
Settled known label clock restart past now (operator op args) s = Unit {0}
Settled known label clock restart past now (register first next) s = s.values label ≡ newest first (since clock restart (λ i. atom i next) past now)
Settled known label clock restart past now (called f args) s = s.memories label ≡ memory_after (known f) (history clock restart (λ i. atoms i args) (now ∷ past))

-- these go from a state to one that has the same under the label
pub ready_stays : (known : Known) (label : List ℕ) (clock : Clock) (restart : List ℕ) (past : List Instant) (r : Right) (s t : State) → t.values label ≡ s.values label → t.memories label ≡ s.memories label
    → Ready known label clock restart past r s → Ready known label clock restart past r t
ready_stays known label clock restart past (operator op args) s t v m h = tt
ready_stays known label clock restart past (register first next) s t v m h = v ∙ h
ready_stays known label clock restart past (called f args) s t v m h = m ∙ h

pub settled_stays : (known : Known) (label : List ℕ) (clock : Clock) (restart : List ℕ) (past : List Instant) (now : Instant) (r : Right) (s t : State) → t.values label ≡ s.values label → t.memories label ≡ s.memories label
    → Settled known label clock restart past now r s → Settled known label clock restart past now r t
settled_stays known label clock restart past now (operator op args) s t v m h = tt
settled_stays known label clock restart past now (register first next) s t v m h = v ∙ h
settled_stays known label clock restart past now (called f args) s t v m h = m ∙ h

-- the commands of equations with labels, in their places
abbrev pub placed_all : List ObcType → List Variable → List Labelled → List Cmd
placed_all types variables [] = []
placed_all types variables (u ∷ us) = place_of types variables u.label u.eqn.targets u.eqn.clock u.eqn.restart u.eqn.right ++ placed_all types variables us

module _ (types : List ObcType) (variables : List Variable) (differ : IsDistinct bytes_eq (names variables)) (known : Known) (answers : Answers) (takes : Names (List KindData)) (past : List Instant) (now : Instant) (base : Names Value) (insts : Names Behaviour) where
  abbrev pub name : ℕ → List ℕ
  name x = name_of variables x

  abbrev pub IsNumber : ℕ → Type 0
  IsNumber x = x < length variables

  -- what a variable holds: its value at the instant, or what it had before the commands
  abbrev pub shown : ℕ → Value
  shown x = if is_there (now x) then now x else base (name x)

  pub shown-there : (x : ℕ) → is_there (now x) ≡ true → shown x ≡ now x
  shown-there x h = ap (λ (d : Bool). if d then now x else base (name x)) h

  -- all that is known of an equation at this instant
  pub record One (u : Labelled) : Type 0 where
    pub within : EqnWithin (length variables) u.eqn
    pub form : EqnForm types variables u.eqn
    pub fits : EqnFits takes now u.eqn
    pub hold : Holds answers past now u.eqn
    pub by : CalleeAnswers known answers takes u.eqn.right
    pub label_new : IsNew (names variables) u.label
    pub inst : IsInstance known insts u.label u.eqn.right
    pub taken : PastTaken takes u.eqn.clock u.eqn.restart past u.eqn.right
    pub flags : AllByRecursion (λ x. is_there (now x) ≡ false → arm_number (base (name x)) ≡ 0) u.eqn.restart

  abbrev IsReady : State → Labelled → Type 0
  IsReady s u = Ready known u.label u.eqn.clock u.eqn.restart past u.eqn.right s

  abbrev IsSettled : State → Labelled → Type 0
  IsSettled s u = Settled known u.label u.eqn.clock u.eqn.restart past now u.eqn.right s

  abbrev placed_by : Labelled → State → State
  placed_by u s = after_place variables known u.label u.eqn.targets u.eqn.clock u.eqn.restart u.eqn.right past now s

  -- Before some equations: a variable that none of them sets shows its value, and their memories are those of the past.
  pub record Before (us : List Labelled) (s : State) : Type 0 where
    pub vars : (x : ℕ) → IsNumber x → is_set (eqns_of us) now x ≡ false → s.values (name x) ≡ shown x
    pub ready : AllByRecursion (IsReady s) us

  -- Behind them: all variables show their values, other labels stand for what they did, and memories are settled.
  pub record Behind (us : List Labelled) (s t : State) : Type 0 where
    pub vars : (x : ℕ) → IsNumber x → t.values (name x) ≡ shown x
    pub stay_values : (y : List ℕ) → Apart y us → IsNew (names variables) y → t.values y ≡ s.values y
    pub stay_memories : (y : List ℕ) → Apart y us → t.memories y ≡ s.memories y
    pub settled : AllByRecursion (IsSettled t) us

  unset : (us : List Labelled) (x : ℕ) → IsUndefined (eqns_of us) x → is_set (eqns_of us) now x ≡ false
  unset [] x h = refl
  unset (u ∷ us) x h = or_false (holds u.eqn.clock now && has u.eqn.targets x) (is_set (eqns_of us) now x) (and_false (holds u.eqn.clock now) (has u.eqn.targets x) h.0) (unset us x h.1)

  -- no number of a variable has a label as name
  pub apart : (label : List ℕ) → IsNew (names variables) label → (x : ℕ) → IsNumber x → bytes_eq label (name x) ≡ false
  apart label new x lt = named (λ z. bytes_eq label z ≡ false) variables x new lt

  place_by : (label : List ℕ) (targets : List ℕ) (clock : Clock) (restart : List ℕ) (r : Right) (s : State)
      → ClockFits clock now → AllByRecursion (Shows variables now s.values) (clock_variables clock) → AreWide types variables clock
      → AllByRecursion (λ x. bytes_eq label (name x) ≡ false) (clock_variables clock) → AllByRecursion (λ x. bytes_eq label (name x) ≡ false) restart
      → AllByRecursion (ShowsFlag variables now s.values) restart
      → (holds clock now ≡ true → map now targets ≡ right_gives answers clock restart past now r) → (holds clock now ≡ true → AllByRecursion (IsThere now) (operands r))
      → AllByRecursion (Shows variables now s.values) (right_reads r) → AllByRecursion (IsTold types) (constants_of r)
      → CalleeAnswers known answers takes r
      → (holds clock now ≡ true → IsTaken takes now r) → PastTaken takes clock restart past r → IsInstance known insts label r → Ready known label clock restart past r s
      → after types insts (cmds_of (place_of types variables label targets clock restart r)) s ≡ after_place variables known label targets clock restart r past now s
  place_by label targets clock restart (operator op args) s fits shows wide ca ra flags hold there rs says by taken pt inst ready =
      place-operator types variables known insts label targets clock restart op args past now s fits shows wide hold there rs says
  place_by label targets clock restart (register first next) s fits shows wide ca ra flags hold there rs says by taken pt inst ready =
      place-register types variables known insts label targets clock restart first next past now s fits shows wide ca ra flags hold says.0 ready
  place_by label targets clock restart (called f args) s fits shows wide ca ra flags hold there rs says by taken pt inst ready =
      place-called types variables known insts answers takes label targets clock restart f args past now s by fits shows wide flags hold there rs says taken pt inst ready

  -- an equation in its place
  place-law : (u : Labelled) (us : List Labelled) (s : State) → One u → Before (u ∷ us) s → AllByRecursion (IsUndefined (eqns_of (u ∷ us))) (reads u.eqn)
      → after types insts (cmds_of (place_of types variables u.label u.eqn.targets u.eqn.clock u.eqn.restart u.eqn.right)) s ≡ placed_by u s
  place-law u us s o b order =
      let e : FlatEqn = u.eqn in
      let numbers : AllByRecursion IsNumber (reads e) = reads-below (length variables) e o.within in
      let value_is : AllByRecursion (λ x. s.values (name x) ≡ shown x) (reads e) =
      each_both IsNumber (IsUndefined (eqns_of (u ∷ us))) (λ x. s.values (name x) ≡ shown x) (λ x d t. b.vars x d (unset (u ∷ us) x t)) (reads e) numbers order in
      let in_restart : AllByRecursion (λ x. s.values (name x) ≡ shown x) e.restart =
      each_first (λ x. s.values (name x) ≡ shown x) e.restart (right_reads e.right) (each_second (λ x. s.values (name x) ≡ shown x) (clock_variables e.clock) (e.restart ++ right_reads e.right) value_is) in
      let shows : AllByRecursion (Shows variables now s.values) (reads e) = each_map (λ x. s.values (name x) ≡ shown x) (Shows variables now s.values) (λ x v t. v ∙ shown-there x t) (reads e) value_is in
      let flag : AllByRecursion (λ x. arm_number (shown x) ≡ arm_number (B (is_true (now x)))) e.restart =
      each_both (λ x. is_flag (now x) ≡ true) (λ x. is_there (now x) ≡ false → arm_number (base (name x)) ≡ 0) (λ x. arm_number (shown x) ≡ arm_number (B (is_true (now x)))) (λ x f g. flag_by (now x) (base (name x)) f g) e.restart o.fits.restart o.flags in
      place_by u.label e.targets e.clock e.restart e.right s o.fits.clock
      (each_first (Shows variables now s.values) (clock_variables e.clock) (e.restart ++ right_reads e.right) shows) o.form.clock
      (each_map IsNumber (λ x. bytes_eq u.label (name x) ≡ false) (apart u.label o.label_new) (clock_variables e.clock) o.within.clock)
      (each_map IsNumber (λ x. bytes_eq u.label (name x) ≡ false) (apart u.label o.label_new) e.restart o.within.restart)
      (each_both (λ x. s.values (name x) ≡ shown x) (λ x. arm_number (shown x) ≡ arm_number (B (is_true (now x)))) (ShowsFlag variables now s.values) (λ x v f. ap arm_number v ∙ f) e.restart in_restart flag)
      o.hold o.fits.operands_there
      (each_second (Shows variables now s.values) e.restart (right_reads e.right) (each_second (Shows variables now s.values) (clock_variables e.clock) (e.restart ++ right_reads e.right) shows))
      o.form.constants o.by o.fits.args_taken o.taken o.inst b.ready.0

  with_targets-at : (d : Bool) (xs : List ℕ) (g : Names Value) (x : ℕ) → AllByRecursion IsNumber xs → IsNumber x → with_targets variables d xs now g (name x) ≡ (if d && has xs x then now x else g (name x))
  with_targets-at true xs g x h lt = all_given-at variables differ xs h now g x lt
  with_targets-at false xs g x h lt = refl

  with_targets-new : (d : Bool) (xs : List ℕ) (g : Names Value) (y : List ℕ) → AllByRecursion IsNumber xs → IsNew (names variables) y → with_targets variables d xs now g y ≡ g y
  with_targets-new true xs g y h new =
      all_given-skip (map (name_of variables) xs) (map now xs) g y (each_map (λ z. bytes_eq y z ≡ false) (λ z. bytes_eq z y ≡ false) (λ z e. turned y z e) (map (name_of variables) xs) (all_named (λ z. bytes_eq y z ≡ false) variables xs new h))
  with_targets-new false xs g y h new = refl

  -- what names stand for behind the place of an equation
  placed-value : (u : Labelled) (s : State) → One u → (x : ℕ) → IsNumber x → (placed_by u s).values (name x) ≡ (if holds u.eqn.clock now && has u.eqn.targets x then now x else s.values (name x))
  placed-value u s o x lt =
      with_targets-at (holds u.eqn.clock now) u.eqn.targets (with_cell u.label u.eqn.clock u.eqn.restart past now u.eqn.right s.values) x o.within.targets lt
      ∙ ap (λ v. if holds u.eqn.clock now && has u.eqn.targets x then now x else v) (with_cell-else u.label u.eqn.clock u.eqn.restart past now u.eqn.right s.values (name x) (apart u.label o.label_new x lt))

  placed-stays : (u : Labelled) (s : State) → One u → (y : List ℕ) → bytes_eq u.label y ≡ false → IsNew (names variables) y → (placed_by u s).values y ≡ s.values y
  placed-stays u s o y h new =
      with_targets-new (holds u.eqn.clock now) u.eqn.targets (with_cell u.label u.eqn.clock u.eqn.restart past now u.eqn.right s.values) y o.within.targets new
      ∙ with_cell-else u.label u.eqn.clock u.eqn.restart past now u.eqn.right s.values y h

  settled_by : (label : List ℕ) (targets : List ℕ) (clock : Clock) (restart : List ℕ) (r : Right) (s : State) → AllByRecursion IsNumber targets → IsNew (names variables) label
      → Settled known label clock restart past now r (after_place variables known label targets clock restart r past now s)
  settled_by label targets clock restart (operator op args) s h new = tt
  settled_by label targets clock restart (register first next) s h new =
      let v : Value = newest first (since clock restart (λ i. atom i next) past now) in
      with_targets-new (holds clock now) targets (given label v s.values) label h new ∙ given-at label v s.values
  settled_by label targets clock restart (called f args) s h new = given-at label (memory_after (known f) (history clock restart (λ i. atoms i args) (now ∷ past))) s.memories

  vars_by : (d : Bool) (u : Labelled) (us : List Labelled) (s : State) (x : ℕ) → (holds u.eqn.clock now && has u.eqn.targets x) ≡ d
      → One u → Before (u ∷ us) s → IsNumber x → is_set (eqns_of us) now x ≡ false → (if d then now x else s.values (name x)) ≡ shown x
  vars_by true u us s x e o b lt h =
      let both : (holds u.eqn.clock now ≡ true) × (has u.eqn.targets x ≡ true) = both_true (holds u.eqn.clock now) (has u.eqn.targets x) e in
      sym (shown-there x (each_has (IsThere now) u.eqn.targets x (o.fits.targets_there both.0) both.1))
  vars_by false u us s x e o b lt h = b.vars x lt (or_false (holds u.eqn.clock now && has u.eqn.targets x) (is_set (eqns_of us) now x) e h)

  ready_all : (u : Labelled) (s : State) → One u → (us : List Labelled) → Apart u.label us → AllByRecursion One us → AllByRecursion (IsReady s) us → AllByRecursion (IsReady (placed_by u s)) us
  ready_all u s o [] a os h = tt
  ready_all u s o (w ∷ us) a os h = (
    ready_stays known w.label w.eqn.clock w.eqn.restart past w.eqn.right s (placed_by u s)
        (placed-stays u s o w.label (turned w.label u.label a.0) os.0.label_new)
        (with_inner-else known u.label u.eqn.clock u.eqn.restart past now u.eqn.right s.memories w.label (turned w.label u.label a.0))
        h.0,
    ready_all u s o us a.1 os.1 h.1,
  )

  -- all equations in their places
  pub places-law : (us : List Labelled) (s : State) → IsScheduled (eqns_of us) → LabelsDiffer us → AllByRecursion One us → Before us s → Behind us s (after types insts (cmds_of (placed_all types variables us)) s)
  places-law [] s order apart_all os b = record { vars = λ x d. b.vars x d refl; stay_values = λ y a d. refl; stay_memories = λ y a. refl; settled = tt }
  places-law (u ∷ us) s order apart_all os b =
      let t : State = placed_by u s in
      let between : Before us t = record {
        vars = λ x d h. placed-value u s os.0 x d ∙ vars_by (holds u.eqn.clock now && has u.eqn.targets x) u us s x refl os.0 b d h;
        ready = ready_all u s os.0 us apart_all.0 os.1 b.ready.1;
      } in
      let rest : Behind us t (after types insts (cmds_of (placed_all types variables us)) t) = places-law us t order.1 apart_all.1 os.1 between in
      let first : List Cmd = place_of types variables u.label u.eqn.targets u.eqn.clock u.eqn.restart u.eqn.right in
      let ends : after types insts (cmds_of (placed_all types variables (u ∷ us))) s ≡ after types insts (cmds_of (placed_all types variables us)) t =
      after-append types insts first (placed_all types variables us) s ∙ ap (after types insts (cmds_of (placed_all types variables us))) (place-law u us s os.0 b order.0) in
      subst (Behind (u ∷ us) s) (sym ends) (record {
        vars = rest.vars;
        stay_values = λ y a d. rest.stay_values y a.1 d ∙ placed-stays u s os.0 y a.0 d;
        stay_memories = λ y a. rest.stay_memories y a.1 ∙ with_inner-else known u.label u.eqn.clock u.eqn.restart past now u.eqn.right s.memories y a.0;
        settled = (
          settled_stays known u.label u.eqn.clock u.eqn.restart past now u.eqn.right t (after types insts (cmds_of (placed_all types variables us)) t) (rest.stay_values u.label apart_all.0 os.0.label_new) (rest.stay_memories u.label apart_all.0)
              (settled_by u.label u.eqn.targets u.eqn.clock u.eqn.restart u.eqn.right s os.0.within.targets os.0.label_new),
          rest.settled,
        );
      })
