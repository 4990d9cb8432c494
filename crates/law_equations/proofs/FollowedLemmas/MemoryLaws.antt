-- Memories and instances under their names, before and behind a step.
use Rattle.std.proofs.Common.{◌≡◌, ℕ, ◌+◌, Bool, true, false, List, [], ◌∷◌, ◌++◌, map, refl, ap, ◌∙◌}
use Rattle.std.specs.List.{AllByRecursion}
use Rattle.std.specs.Str.{bytes_eq}
use Rattle.hp_base.specs.Kinds.{KindData, AreOfKinds}
use Rattle.hp_base.specs.declared.value.Value.{Value}
use Rattle.hp_obc.specs.declared.machine.Mem.{Mem}
use Rattle.hp_obc.specs.Machines.{ObcType}
use Rattle.hp_obc.specs.Steps.{Names, State, Memory, memories_of, listed, Behaviour, Known, of_instance, given, all_given, mem_names, inst_names}
use Rattle.hp_flat.specs.declared.node.Variable.{Variable}
use Rattle.hp_flat.specs.Equations.{Clock, Right, operator, register, called, FlatEqn}
use Rattle.law_equations.specs.Meaning.Instants.{Instant, holds, restarted, atom, atoms, unless, noted, history, newest}
use Rattle.law_equations.specs.Meaning.Fitting.{IsTaken}
use Rattle.hp_toobc.specs.Tables.{type_of, constant}
use Rattle.hp_toobc.specs.Making.{first_type, placed, places, stored, stores, mem_of, mems, inst_of, insts}
use Rattle.law_equations.specs.Followed.Memories.{memory_after, cell, inner, cells, inners}
use Rattle.law_equations.proofs.FollowedLemmas.Naming.{given-at, given-else, turned, each_both}
use Rattle.law_equations.proofs.FollowedLemmas.Labels.{Labelled, label_by, labelled, eqns_of, Apart, LabelsDiffer}
use Rattle.law_equations.proofs.FollowedLemmas.Placing.{Ready, IsInstance, PastTaken, place_of}
use Rattle.law_equations.proofs.FollowedLemmas.Passing.{Settled, ready_stays, placed_all}
use Rattle.law_equations.proofs.FollowedLemmas.Storing.{Stored, store_of, stored_all}

-- ---- what is made of equations, by their labels

abbrev pub mem_by : List ObcType → List Variable → List ℕ → List ℕ → Right → List Mem
mem_by types variables label targets (register first next) = record { name = label; ty = type_of types (first_type variables targets); first = constant types first } ∷ []
mem_by types variables label targets right = []

abbrev pub mems_by : List ObcType → List Variable → List Labelled → List Mem
mems_by types variables [] = []
mems_by types variables (u ∷ us) = mem_by types variables u.label u.eqn.targets u.eqn.right ++ mems_by types variables us

abbrev inst_by : List ℕ → Right → List (List ℕ × List ℕ)
inst_by label (called f args) = (label, f) ∷ []
inst_by label right = []

abbrev pub insts_by : List Labelled → List (List ℕ × List ℕ)
insts_by [] = []
insts_by (u ∷ us) = inst_by u.label u.eqn.right ++ insts_by us

module _ (types : List ObcType) (variables : List Variable) where
  mem_same : (i : ℕ) (targets : List ℕ) (r : Right) (xs ys : List Mem) → xs ≡ ys → mem_of types variables i targets r ++ xs ≡ mem_by types variables (label_by variables i targets r) targets r ++ ys
  mem_same i targets (operator op args) xs ys h = h
  mem_same i targets (register first next) xs ys h = ap (λ zs. mem_by types variables (label_by variables i targets (register first next)) targets (register first next) ++ zs) h
  mem_same i targets (called f args) xs ys h = h

  pub mems-are : (i : ℕ) (es : List FlatEqn) → mems types variables i es ≡ mems_by types variables (labelled variables i es)
  mems-are i [] = refl
  mems-are i (e ∷ es) = mem_same i e.targets e.right (mems types variables (i + 1) es) (mems_by types variables (labelled variables (i + 1) es)) (mems-are (i + 1) es)

  inst_same : (i : ℕ) (targets : List ℕ) (r : Right) (xs ys : List (List ℕ × List ℕ)) → xs ≡ ys → inst_of i r ++ xs ≡ inst_by (label_by variables i targets r) r ++ ys
  inst_same i targets (operator op args) xs ys h = h
  inst_same i targets (register first next) xs ys h = h
  inst_same i targets (called f args) xs ys h = ap (λ zs. inst_by (label_by variables i targets (called f args)) (called f args) ++ zs) h

  pub insts-are : (i : ℕ) (es : List FlatEqn) → insts i es ≡ insts_by (labelled variables i es)
  insts-are i [] = refl
  insts-are i (e ∷ es) = inst_same i e.targets e.right (insts (i + 1) es) (insts_by (labelled variables (i + 1) es)) (insts-are (i + 1) es)

  place_same : (i : ℕ) (targets : List ℕ) (clock : Clock) (restart : List ℕ) (r : Right) → placed types variables i targets clock restart r ≡ place_of types variables (label_by variables i targets r) targets clock restart r
  place_same i targets clock restart (operator op args) = refl
  place_same i targets clock restart (register first next) = refl
  place_same i targets clock restart (called f args) = refl

  pub places-are : (i : ℕ) (es : List FlatEqn) → places types variables i es ≡ placed_all types variables (labelled variables i es)
  places-are i [] = refl
  places-are i (e ∷ es) = λ j. place_same i e.targets e.clock e.restart e.right j ++ places-are (i + 1) es j

  store_same : (i : ℕ) (targets : List ℕ) (clock : Clock) (r : Right) → stored types variables i targets clock r ≡ store_of types variables (label_by variables i targets r) clock r
  store_same i targets clock (operator op args) = refl
  store_same i targets clock (register first next) = refl
  store_same i targets clock (called f args) = refl

  pub stores-are : (i : ℕ) (es : List FlatEqn) → stores types variables i es ≡ stored_all types variables (labelled variables i es)
  stores-are i [] = refl
  stores-are i (e ∷ es) = λ j. store_same i e.targets e.clock e.right j ++ stores-are (i + 1) es j

pub listed-of : (ms : List Memory) → listed (memories_of ms) ≡ ms
listed-of [] = refl
listed-of (m ∷ ms) = ap (λ rest. m ∷ rest) (listed-of ms)

-- ---- before a step

abbrev cell_given : List ℕ → FlatEqn → List Instant → Right → Names Value → Names Value
cell_given label e past (register first next) g = given label (newest first (history e.clock e.restart (λ i. atom i next) past)) g
cell_given label e past right g = g

abbrev inner_given : Known → List ℕ → FlatEqn → List Instant → Right → Names Memory → Names Memory
inner_given known label e past (called f args) g = given label (memory_after (known f) (history e.clock e.restart (λ i. atoms i args) past)) g
inner_given known label e past right g = g

abbrev instance_given : Known → List ℕ → Right → Names Behaviour → Names Behaviour
instance_given known label (called f args) g = given label (known f) g
instance_given known label right g = g

cells-begin : (types : List ObcType) (variables : List Variable) (label : List ℕ) (e : FlatEqn) (past : List Instant) (r : Right) (ms : List Mem) (vs : List Value) (g : Names Value)
    → all_given (mem_names (mem_by types variables label e.targets r ++ ms)) (cell e past r ++ vs) g ≡ cell_given label e past r (all_given (mem_names ms) vs g)
cells-begin types variables label e past (operator op args) ms vs g = refl
cells-begin types variables label e past (register first next) ms vs g = refl
cells-begin types variables label e past (called f args) ms vs g = refl

inners-begin : (known : Known) (label : List ℕ) (e : FlatEqn) (past : List Instant) (r : Right) (is : List (List ℕ × List ℕ)) (ms : List Memory) (g : Names Memory)
    → all_given (inst_names (inst_by label r ++ is)) (inner known e past r ++ ms) g ≡ inner_given known label e past r (all_given (inst_names is) ms g)
inners-begin known label e past (operator op args) is ms g = refl
inners-begin known label e past (register first next) is ms g = refl
inners-begin known label e past (called f args) is ms g = refl

instances-begin : (known : Known) (label : List ℕ) (r : Right) (is : List (List ℕ × List ℕ)) → of_instance known (inst_by label r ++ is) ≡ instance_given known label r (of_instance known is)
instances-begin known label (operator op args) is = refl
instances-begin known label (register first next) is = refl
instances-begin known label (called f args) is = refl

cell_given-else : (label : List ℕ) (e : FlatEqn) (past : List Instant) (r : Right) (g : Names Value) (y : List ℕ) → bytes_eq label y ≡ false → cell_given label e past r g y ≡ g y
cell_given-else label e past (operator op args) g y h = refl
cell_given-else label e past (register first next) g y h = given-else label (newest first (history e.clock e.restart (λ i. atom i next) past)) g y h
cell_given-else label e past (called f args) g y h = refl

inner_given-else : (known : Known) (label : List ℕ) (e : FlatEqn) (past : List Instant) (r : Right) (g : Names Memory) (y : List ℕ) → bytes_eq label y ≡ false → inner_given known label e past r g y ≡ g y
inner_given-else known label e past (operator op args) g y h = refl
inner_given-else known label e past (register first next) g y h = refl
inner_given-else known label e past (called f args) g y h = given-else label (memory_after (known f) (history e.clock e.restart (λ i. atoms i args) past)) g y h

instance_given-else : (known : Known) (label : List ℕ) (r : Right) (g : Names Behaviour) (y : List ℕ) → bytes_eq label y ≡ false → instance_given known label r g y ≡ g y
instance_given-else known label (operator op args) g y h = refl
instance_given-else known label (register first next) g y h = refl
instance_given-else known label (called f args) g y h = given-else label (known f) g y h

ready_here : (known : Known) (label : List ℕ) (e : FlatEqn) (past : List Instant) (r : Right) (g : Names Value) (h : Names Memory)
    → Ready known label e.clock e.restart past r (record { values = cell_given label e past r g; memories = inner_given known label e past r h })
ready_here known label e past (operator op args) g h = tt
ready_here known label e past (register first next) g h = given-at label (newest first (history e.clock e.restart (λ i. atom i next) past)) g
ready_here known label e past (called f args) g h = given-at label (memory_after (known f) (history e.clock e.restart (λ i. atoms i args) past)) h

instance_here : (known : Known) (label : List ℕ) (r : Right) (g : Names Behaviour) → IsInstance known (instance_given known label r g) label r
instance_here known label (operator op args) g = tt
instance_here known label (register first next) g = tt
instance_here known label (called f args) g = given-at label (known f) g

instance_stays : (known : Known) (label : List ℕ) (r : Right) (g h : Names Behaviour) → h label ≡ g label → IsInstance known g label r → IsInstance known h label r
instance_stays known label (operator op args) g h e i = tt
instance_stays known label (register first next) g h e i = tt
instance_stays known label (called f args) g h e i = e ∙ i

module _ (types : List ObcType) (variables : List Variable) (known : Known) (past : List Instant) (g : Names Value) (h : Names Memory) where
  abbrev pub with_all : List Labelled → State
  with_all us = record { values = all_given (mem_names (mems_by types variables us)) (cells (eqns_of us) past) g; memories = all_given (inst_names (insts_by us)) (inners known (eqns_of us) past) h }

  abbrev IsReady : State → Labelled → Type 0
  IsReady s u = Ready known u.label u.eqn.clock u.eqn.restart past u.eqn.right s

  ready_later : (u : Labelled) (us ws : List Labelled) → Apart u.label ws → AllByRecursion (IsReady (with_all us)) ws → AllByRecursion (IsReady (with_all (u ∷ us))) ws
  ready_later u us [] a r = tt
  ready_later u us (w ∷ ws) a r = (
    ready_stays known w.label w.eqn.clock w.eqn.restart past w.eqn.right (with_all us) (with_all (u ∷ us))
        ((λ i. cells-begin types variables u.label u.eqn past u.eqn.right (mems_by types variables us) (cells (eqns_of us) past) g i w.label) ∙ cell_given-else u.label u.eqn past u.eqn.right (with_all us).values w.label (turned w.label u.label a.0))
        ((λ i. inners-begin known u.label u.eqn past u.eqn.right (insts_by us) (inners known (eqns_of us) past) h i w.label) ∙ inner_given-else known u.label u.eqn past u.eqn.right (with_all us).memories w.label (turned w.label u.label a.0))
        r.0,
    ready_later u us ws a.1 r.1,
  )

  pub all-ready : (us : List Labelled) → LabelsDiffer us → AllByRecursion (IsReady (with_all us)) us
  all-ready [] d = tt
  all-ready (u ∷ us) d = (
    ready_stays known u.label u.eqn.clock u.eqn.restart past u.eqn.right
        (record { values = cell_given u.label u.eqn past u.eqn.right (with_all us).values; memories = inner_given known u.label u.eqn past u.eqn.right (with_all us).memories })
        (with_all (u ∷ us))
        (λ i. cells-begin types variables u.label u.eqn past u.eqn.right (mems_by types variables us) (cells (eqns_of us) past) g i u.label)
        (λ i. inners-begin known u.label u.eqn past u.eqn.right (insts_by us) (inners known (eqns_of us) past) h i u.label)
        (ready_here known u.label u.eqn past u.eqn.right (with_all us).values (with_all us).memories),
    ready_later u us us d.0 (all-ready us d.1),
  )

  -- so it is in a state that has the same under the labels
  pub ready-in : (s : State) (vs us : List Labelled) → AllByRecursion (λ (w : Labelled). s.values w.label ≡ (with_all vs).values w.label) us → s.memories ≡ (with_all vs).memories
      → AllByRecursion (IsReady (with_all vs)) us → AllByRecursion (IsReady s) us
  ready-in s vs us e m = each_both (λ (w : Labelled). s.values w.label ≡ (with_all vs).values w.label) (IsReady (with_all vs)) (IsReady s)
      (λ w v r. ready_stays known w.label w.eqn.clock w.eqn.restart past w.eqn.right (with_all vs) s v (λ i. m i w.label) r) us e

instances_later : (known : Known) (u : Labelled) (us ws : List Labelled) → Apart u.label ws → AllByRecursion (λ (w : Labelled). IsInstance known (of_instance known (insts_by us)) w.label w.eqn.right) ws
    → AllByRecursion (λ (w : Labelled). IsInstance known (of_instance known (insts_by (u ∷ us))) w.label w.eqn.right) ws
instances_later known u us [] a r = tt
instances_later known u us (w ∷ ws) a r = (
  instance_stays known w.label w.eqn.right (of_instance known (insts_by us)) (of_instance known (insts_by (u ∷ us)))
      ((λ i. instances-begin known u.label u.eqn.right (insts_by us) i w.label) ∙ instance_given-else known u.label u.eqn.right (of_instance known (insts_by us)) w.label (turned w.label u.label a.0)) r.0,
  instances_later known u us ws a.1 r.1,
)

pub all-instances : (known : Known) (us : List Labelled) → LabelsDiffer us → AllByRecursion (λ (w : Labelled). IsInstance known (of_instance known (insts_by us)) w.label w.eqn.right) us
all-instances known [] d = tt
all-instances known (u ∷ us) d = (
  instance_stays known u.label u.eqn.right (instance_given known u.label u.eqn.right (of_instance known (insts_by us))) (of_instance known (insts_by (u ∷ us)))
      (λ i. instances-begin known u.label u.eqn.right (insts_by us) i u.label) (instance_here known u.label u.eqn.right (of_instance known (insts_by us))),
  instances_later known u us us d.0 (all-instances known us d.1),
)

-- ---- behind a step

cells_kept_by : (types : List ObcType) (variables : List Variable) (label : List ℕ) (e : FlatEqn) (past : List Instant) (r : Right) (s : State) (ms : List Mem) (vs : List Value)
    → Stored label e.clock e.restart past r s → map s.values (mem_names ms) ≡ vs → map s.values (mem_names (mem_by types variables label e.targets r ++ ms)) ≡ cell e past r ++ vs
cells_kept_by types variables label e past (operator op args) s ms vs h q = q
cells_kept_by types variables label e past (register first next) s ms vs h q = λ i. h i ∷ q i
cells_kept_by types variables label e past (called f args) s ms vs h q = q

pub cells-kept : (types : List ObcType) (variables : List Variable) (past : List Instant) (s : State) (us : List Labelled) → AllByRecursion (λ (u : Labelled). Stored u.label u.eqn.clock u.eqn.restart past u.eqn.right s) us
    → map s.values (mem_names (mems_by types variables us)) ≡ cells (eqns_of us) past
cells-kept types variables past s [] h = refl
cells-kept types variables past s (u ∷ us) h = cells_kept_by types variables u.label u.eqn past u.eqn.right s (mems_by types variables us) (cells (eqns_of us) past) h.0 (cells-kept types variables past s us h.1)

inners_kept_by : (known : Known) (label : List ℕ) (e : FlatEqn) (past : List Instant) (now : Instant) (r : Right) (s : State) (is : List (List ℕ × List ℕ)) (ms : List Memory)
    → Settled known label e.clock e.restart past now r s → map s.memories (inst_names is) ≡ ms → map s.memories (inst_names (inst_by label r ++ is)) ≡ inner known e (now ∷ past) r ++ ms
inners_kept_by known label e past now (operator op args) s is ms h q = q
inners_kept_by known label e past now (register first next) s is ms h q = q
inners_kept_by known label e past now (called f args) s is ms h q = λ i. h i ∷ q i

pub inners-kept : (known : Known) (past : List Instant) (now : Instant) (s : State) (us : List Labelled) → AllByRecursion (λ (u : Labelled). Settled known u.label u.eqn.clock u.eqn.restart past now u.eqn.right s) us
    → map s.memories (inst_names (insts_by us)) ≡ inners known (eqns_of us) (now ∷ past)
inners-kept known past now s [] h = refl
inners-kept known past now s (u ∷ us) h = inners_kept_by known u.label u.eqn past now u.eqn.right s (insts_by us) (inners known (eqns_of us) (now ∷ past)) h.0 (inners-kept known past now s us h.1)

-- ---- arguments of a past

noted_each : {A : Type 0} (P : A → Type 0) (d : Bool) (a : A) (h : List A) → (d ≡ true → P a) → AllByRecursion P h → AllByRecursion P (noted d a h)
noted_each P true a h p r = (p refl, r)
noted_each P false a h p r = r

unless_each : {A : Type 0} (P : A → Type 0) (d : Bool) (h : List A) → AllByRecursion P h → AllByRecursion P (unless d h)
unless_each P true h r = tt
unless_each P false h r = r

history_each : {A : Type 0} (P : A → Type 0) (clock : Clock) (restart : List ℕ) (f : Instant → A) (past : List Instant) → AllByRecursion (λ (i : Instant). holds clock i ≡ true → P (f i)) past → AllByRecursion P (history clock restart f past)
history_each P clock restart f [] h = tt
history_each P clock restart f (i ∷ past) h =
    noted_each P (holds clock i) (f i) (unless (restarted restart i) (history clock restart f past)) h.0 (unless_each P (restarted restart i) (history clock restart f past) (history_each P clock restart f past h.1))

pub past_taken_by : (takes : Names (List KindData)) (clock : Clock) (restart : List ℕ) (r : Right) (past : List Instant) → AllByRecursion (λ (i : Instant). holds clock i ≡ true → IsTaken takes i r) past → PastTaken takes clock restart past r
past_taken_by takes clock restart (operator op args) past h = tt
past_taken_by takes clock restart (register first next) past h = tt
past_taken_by takes clock restart (called f args) past h = history_each (AreOfKinds (takes f)) clock restart (λ i. atoms i args) past h
