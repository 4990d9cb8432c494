-- A step of the machine of scheduled equations is an instant of a reaction of them.
use Rattle.std.proofs.Common.{◌≡◌, ℕ, zero, suc, ◌+◌, ◌<◌, ◌≤◌, Bool, true, false, ◌||◌, nat_eq, nat_lt, List, [], ◌∷◌, ◌++◌, length, map, take, drop, if◌then◌else◌, refl, sym, ap, subst, ◌∙◌, arith}
use Rattle.std.specs.List.{AllByRecursion, range_with_len}
use Rattle.std.specs.Str.{bytes_eq}
use Rattle.std.proofs.lemmas.Bool.{eqb-true}
use Rattle.std.proofs.lemmas.Bool.Decides.{nat_tests}
use Rattle.hp_base.specs.Kinds.{KindData}
use Rattle.hp_base.specs.declared.value.Value.{Value}
use Rattle.hp_base.specs.declared.value.Value.TheVariants.{Absent}
use Rattle.hp_obc.specs.declared.machine.Var.{Var}
use Rattle.hp_obc.specs.Commands.{cmds_of}
use Rattle.hp_obc.specs.Machines.{ObcType, Machine}
use Rattle.hp_obc.specs.Values.{first_value}
use Rattle.hp_obc.specs.Steps.{Names, State, memory, memories_of, empty, Behaviour, Known, of_instance, behaviour, before, stepped_to, all_given, arm_number, after, var_names, mem_names, inst_names}
use Rattle.hp_flat.specs.declared.node.Variable.{Variable}
use Rattle.hp_flat.specs.Equations.{Right, operator, register, called, FlatEqn}
use Rattle.hp_flat.specs.Nodes.{FlatNode}
use Rattle.law_equations.specs.Meaning.Instants.{Instant, holds}
use Rattle.law_equations.specs.Meaning.Reactions.{Answers, has, inputs_of, is_set, Holds, Continues, outputs_at}
use Rattle.law_equations.specs.Meaning.Fitting.{is_there, IsThere, EqnFits, Fits, IsTaken}
use Rattle.law_equations.specs.Meaning.Scheduling.{IsScheduled, EqnWithin}
use Rattle.hp_toobc.specs.Tables.{name_of, variable_at}
use Rattle.hp_toobc.specs.Making.{declared, locals_from, machine_of}
use Rattle.hp_toobc.proofs.AfterLaws.{after-append}
use Rattle.law_equations.specs.Followed.Memories.{CalleeAnswers, CalleesAnswer, cells, inners, memory_at}
use Rattle.law_equations.specs.Followed.Premises.{names, EqnForm, NodeForm}
use Rattle.law_equations.specs.Followed.Following.{StepLaw}
use Rattle.law_equations.proofs.FollowedLemmas.Naming.{all_given-at, all_given-skip, turned, named, all_named, each_map, each_both}
use Rattle.law_equations.proofs.FollowedLemmas.Labels.{Labelled, labelled, eqns_of, eqns-labelled, Apart, LabelsDiffer, labels-differ, IsNew, labels-new}
use Rattle.law_equations.proofs.FollowedLemmas.Placing.{IsInstance}
use Rattle.law_equations.proofs.FollowedLemmas.Passing.{each_has, Settled, settled_stays, One, Before, Behind, placed_all, places-law}
use Rattle.law_equations.proofs.FollowedLemmas.Storing.{Kept, stored_all, stores-law}
use Rattle.law_equations.proofs.FollowedLemmas.MemoryLaws.{mem_by, mems_by, insts_by, mems-are, insts-are, places-are, stores-are, listed-of, all-ready, ready-in, all-instances, cells-kept, inners-kept, past_taken_by}
use Rattle.law_equations.proofs.FollowedLemmas.Declared.{first-arm, var_names-append, var_names-declared, var_names-outputs, taken_names, dropped_names, local_names, each_of_append, input-names, inputs-below}

-- ---- small laws

each_labelled : (P : FlatEqn → Type 0) (variables : List Variable) (i : ℕ) (es : List FlatEqn) → AllByRecursion P es → AllByRecursion (λ (u : Labelled). P u.eqn) (labelled variables i es)
each_labelled P variables i [] h = tt
each_labelled P variables i (e ∷ es) h = (h.0, each_labelled P variables (i + 1) es h.1)

each_turned : {A B : Type 0} (P : A → B → Type 0) (cs : List A) (bs : List B) → AllByRecursion (λ (b : B). AllByRecursion (λ (a : A). P a b) cs) bs → AllByRecursion (λ (a : A). AllByRecursion (P a) bs) cs
each_turned P [] bs h = tt
each_turned {A} {B} P (a ∷ cs) bs h = (
  each_map (λ (b : B). AllByRecursion (λ (c : A). P c b) (a ∷ cs)) (P a) (λ b g. g.0) bs h,
  each_turned P cs bs (each_map (λ (b : B). AllByRecursion (λ (c : A). P c b) (a ∷ cs)) (λ (b : B). AllByRecursion (λ (c : A). P c b) cs) (λ b g. g.1) bs h),
)

same_map : (variables : List Variable) (g : Names Value) (now : Instant) (xs : List ℕ) → AllByRecursion (λ x. g (name_of variables x) ≡ now x) xs → map g (map (name_of variables) xs) ≡ map now xs
same_map variables g now [] h = refl
same_map variables g now (x ∷ xs) h = λ i. h.0 i ∷ same_map variables g now xs h.1 i

absent_not_there : (v : Value) → v ≡ Absent → is_there v ≡ true → ⊥
absent_not_there v e h = let none : is_there v ≡ false = ap is_there e in cc

not_both : (a : Bool) → a ≡ true → a ≡ false → ⊥
not_both a t f = cc

is_less : (x k : ℕ) → nat_lt x k ≡ true → x < k
is_less x k h = grind (arith, nat_tests)

is_least : (x k : ℕ) → nat_lt x k ≡ false → k ≤ x
is_least x k h = grind (arith, nat_tests)

has_by : (d e q : Bool) (a b : ℕ) → nat_eq a b ≡ d → (a ≡ b → q ≡ true) → (d ≡ false → e ≡ q) → (d || e) ≡ q
has_by true e q a b h f g = sym (f (eqb-true a b h))
has_by false e q a b h f g = g refl

in_range : (a k x : ℕ) → a ≤ x → x < a + k → has (range_with_len a k) x ≡ true
in_range a zero x h g = absurd (omega arith)
in_range a (suc k) x h g = has_by (nat_eq a x) (has (range_with_len (a + 1) k) x) true a x refl (λ e. refl) (λ f. in_range (a + 1) k x (grind (arith, nat_tests)) (omega arith))

out_of_range : (a k x : ℕ) → a + k ≤ x → has (range_with_len a k) x ≡ false
out_of_range a zero x h = refl
out_of_range a (suc k) x h = has_by (nat_eq a x) (has (range_with_len (a + 1) k) x) false a x refl (λ e. absurd (omega (arith, e, h))) (λ f. out_of_range (a + 1) k x (omega arith))

-- names of memories are no names of variables
module _ (types : List ObcType) (variables : List Variable) (y : List ℕ) where
  mem_names_apart : (us : List Labelled) → AllByRecursion (λ (u : Labelled). bytes_eq u.label y ≡ false) us → AllByRecursion (λ z. bytes_eq z y ≡ false) (mem_names (mems_by types variables us))
  mem_names_apart [] h = tt
  mem_names_apart (u ∷ us) h = mem_first u.label u.eqn.targets u.eqn.right us h.0 (mem_names_apart us h.1)
    where
      mem_first : (label targets : List ℕ) (r : Right) (ws : List Labelled) → bytes_eq label y ≡ false → AllByRecursion (λ z. bytes_eq z y ≡ false) (mem_names (mems_by types variables ws))
          → AllByRecursion (λ z. bytes_eq z y ≡ false) (mem_names (mem_by types variables label targets r ++ mems_by types variables ws))
      mem_first label targets (operator op args) ws h g = g
      mem_first label targets (register first next) ws h g = (h, g)
      mem_first label targets (called f args) ws h g = g

-- ---- one step

module _ (types : List ObcType) (known : Known) (answers : Answers) (takes : Names (List KindData)) (n : FlatNode) (f : NodeForm types n) (by : CalleesAnswer known answers takes n.eqns) (past : List Instant) (inputs : List Value) (now : Instant) (fits_past : AllByRecursion (Fits takes n) past) (fits : Fits takes n now) (c : Continues answers n past inputs now) where
  abbrev vs : List Variable
  vs = n.variables

  abbrev us : List Labelled
  us = labelled vs 0 n.eqns

  abbrev name : ℕ → List ℕ
  name x = name_of vs x

  -- the machine, by labels
  abbrev m : Machine
  m = record {
    name = n.name;
    inputs = map (declared types) (take n.inputs vs);
    outputs = map (λ x. declared types (variable_at vs x)) n.outputs;
    vars = map (declared types) (locals_from n n.inputs (drop n.inputs vs));
    mems = mems_by types vs us;
    insts = insts_by us;
    step = cmds_of (placed_all types vs us ++ stored_all types vs us);
  }

  machine-is : m ≡ machine_of types n
  machine-is = sym (λ i. record {
    name = n.name;
    inputs = map (declared types) (take n.inputs vs);
    outputs = map (λ x. declared types (variable_at vs x)) n.outputs;
    vars = map (declared types) (locals_from n n.inputs (drop n.inputs vs));
    mems = mems-are types vs 0 n.eqns i;
    insts = insts-are types vs 0 n.eqns i;
    step = cmds_of (places-are types vs 0 n.eqns i ++ stores-are types vs 0 n.eqns i);
  })

  abbrev instances : Names Behaviour
  instances = of_instance known (insts_by us)

  abbrev s0 : State
  s0 = before types m (memory_at known (eqns_of us) past) inputs

  abbrev base : Names Value
  base = s0.values

  abbrev firsts : List Value
  firsts = map (λ (x : Var). first_value types x.ty) (m.outputs ++ m.vars)

  abbrev mems0 : Names Value
  mems0 = all_given (mem_names (mems_by types vs us)) (cells (eqns_of us) past) (λ x. Absent)

  abbrev others0 : Names Value
  others0 = all_given (var_names (m.outputs ++ m.vars)) firsts mems0

  new_all : AllByRecursion (λ (u : Labelled). IsNew (names vs) u.label) us
  new_all = labels-new vs (names vs) f.names_own 0 n.eqns

  -- no label is the name of a variable
  apart_from : (x : ℕ) → x < length vs → Apart (name x) us
  apart_from x lt = each_map (λ (u : Labelled). IsNew (names vs) u.label) (λ (u : Labelled). bytes_eq u.label (name x) ≡ false) (λ u new. named (λ z. bytes_eq u.label z ≡ false) vs x new lt) us new_all

  input_names : var_names m.inputs ≡ map name (inputs_of n)
  input_names = var_names-declared types (take n.inputs vs) ∙ input-names vs n.inputs f.within.inputs

  base-at : (x : ℕ) → x < length vs → base (name x) ≡ (if has (inputs_of n) x then now x else others0 (name x))
  base-at x lt =
      (λ i. all_given (input_names i) (sym c.inputs_are i) others0 (name x))
      ∙ all_given-at vs f.names_differ (inputs_of n) (inputs-below 0 n.inputs (length vs) (omega (arith, f.within.inputs))) now others0 x lt

  base-input : (x : ℕ) → x < length vs → x < n.inputs → base (name x) ≡ now x
  base-input x lt h = base-at x lt ∙ ap (λ (d : Bool). if d then now x else others0 (name x)) (in_range 0 n.inputs x (omega arith) (omega arith))

  base-other : (x : ℕ) → x < length vs → n.inputs ≤ x → arm_number (base (name x)) ≡ 0
  base-other x lt h =
      ap arm_number (base-at x lt ∙ ap (λ (d : Bool). if d then now x else others0 (name x)) (out_of_range 0 n.inputs x (omega arith)))
      ∙ first-arm types (m.outputs ++ m.vars) mems0 (name x)
      (ap arm_number (all_given-skip (mem_names (mems_by types vs us)) (cells (eqns_of us) past) (λ y. Absent) (name x) (mem_names_apart types vs (name x) us (apart_from x lt))))

  -- before the step a label stands for what the memory holds
  base-label : (y : List ℕ) → IsNew (names vs) y → base y ≡ mems0 y
  base-label y new =
      all_given-skip (var_names m.inputs) inputs others0 y (ap_names (var_names m.inputs) (names (take n.inputs vs)) (var_names-declared types (take n.inputs vs)) (taken_names Q n.inputs vs new))
      ∙ all_given-skip (var_names (m.outputs ++ m.vars)) firsts mems0 y
      (ap_names (var_names (m.outputs ++ m.vars)) (map name n.outputs ++ names (locals_from n n.inputs (drop n.inputs vs)))
      (var_names-append m.outputs m.vars ∙ (λ i. var_names-outputs types vs n.outputs i ++ var_names-declared types (locals_from n n.inputs (drop n.inputs vs)) i))
      (each_of_append Q (map name n.outputs) (names (locals_from n n.inputs (drop n.inputs vs))) (all_named Q vs n.outputs new f.within.outputs) (local_names Q n n.inputs (drop n.inputs vs) (dropped_names Q n.inputs vs new))))
    where
      Q : List ℕ → Type 0
      Q z = bytes_eq y z ≡ false

      ap_names : (xs zs : List (List ℕ)) → xs ≡ zs → AllByRecursion (λ z. bytes_eq y z ≡ false) zs → AllByRecursion (λ z. bytes_eq z y ≡ false) xs
      ap_names xs zs e h = subst (AllByRecursion (λ z. bytes_eq z y ≡ false)) (sym e) (each_map (λ z. bytes_eq y z ≡ false) (λ z. bytes_eq z y ≡ false) (λ z p. turned y z p) zs h)

  memories-are : s0.memories ≡ all_given (inst_names (insts_by us)) (inners known (eqns_of us) past) (λ i. empty)
  memories-are = ap (λ ms. all_given (inst_names (insts_by us)) ms (λ i. empty)) (listed-of (inners known (eqns_of us) past))

  input-there : (x : ℕ) → x < n.inputs → is_there (now x) ≡ true
  input-there x h = each_has (IsThere now) (inputs_of n) x fits.inputs (in_range 0 n.inputs x (omega arith) (omega arith))

  vars_by : (d e : Bool) (x : ℕ) → x < length vs → is_there (now x) ≡ d → nat_lt x n.inputs ≡ e → is_set n.eqns now x ≡ false → base (name x) ≡ (if d then now x else base (name x))
  vars_by true true x lt h g u = base-input x lt (is_less x n.inputs g)
  vars_by true false x lt h g u = absurd (absent_not_there (now x) (c.others x (is_least x n.inputs g) u) h)
  vars_by false e x lt h g u = refl

  flag_at : (e : Bool) (x : ℕ) → x < length vs → nat_lt x n.inputs ≡ e → is_there (now x) ≡ false → arm_number (base (name x)) ≡ 0
  flag_at true x lt g h = absurd (not_both (is_there (now x)) (input-there x (is_less x n.inputs g)) h)
  flag_at false x lt g h = base-other x lt (is_least x n.inputs g)

  abbrev TheOne : Labelled → Type 0
  TheOne u = One types vs f.names_differ known answers takes past now base instances u

  abbrev WasFit : FlatEqn → Type 0
  WasFit e = AllByRecursion (λ (i : Instant). EqnFits takes i e) past

  ones : (ws : List Labelled) → AllByRecursion (λ (u : Labelled). EqnWithin (length vs) u.eqn) ws → AllByRecursion (λ (u : Labelled). EqnForm types vs u.eqn) ws
      → AllByRecursion (λ (u : Labelled). EqnFits takes now u.eqn) ws → AllByRecursion (λ (u : Labelled). Holds answers past now u.eqn) ws → AllByRecursion (λ (u : Labelled). CalleeAnswers known answers takes u.eqn.right) ws
      → AllByRecursion (λ (u : Labelled). IsNew (names vs) u.label) ws → AllByRecursion (λ (u : Labelled). IsInstance known instances u.label u.eqn.right) ws
      → AllByRecursion (λ (u : Labelled). WasFit u.eqn) ws → AllByRecursion TheOne ws
  ones [] within form fit hold bys new inst was = tt
  ones (u ∷ ws) within form fit hold bys new inst was = (
    record {
      within = within.0;
      form = form.0;
      fits = fit.0;
      hold = hold.0;
      by = bys.0;
      label_new = new.0;
      inst = inst.0;
      taken =
          past_taken_by takes u.eqn.clock u.eqn.restart u.eqn.right past
          (each_map (λ (i : Instant). EqnFits takes i u.eqn) (λ (i : Instant). holds u.eqn.clock i ≡ true → IsTaken takes i u.eqn.right) (λ i g. g.args_taken) past was.0);
      flags = each_map (λ x. x < length vs) (λ x. is_there (now x) ≡ false → arm_number (base (name x)) ≡ 0) (λ x lt. flag_at (nat_lt x n.inputs) x lt refl) u.eqn.restart within.0.restart;
    },
    ones ws within.1 form.1 fit.1 hold.1 bys.1 new.1 inst.1 was.1,
  )

  labels-apart : LabelsDiffer us
  labels-apart = labels-differ vs 0 n.eqns (omega (arith, f.few))

  each_one : AllByRecursion TheOne us
  each_one =
      ones us (each_labelled (EqnWithin (length vs)) vs 0 n.eqns f.within.eqns) (each_labelled (EqnForm types vs) vs 0 n.eqns f.eqns) (each_labelled (EqnFits takes now) vs 0 n.eqns fits.eqns)
      (each_labelled (Holds answers past now) vs 0 n.eqns c.equations) (each_labelled (λ (e : FlatEqn). CalleeAnswers known answers takes e.right) vs 0 n.eqns by) new_all (all-instances known us labels-apart)
      (each_labelled WasFit vs 0 n.eqns (each_turned (λ (e : FlatEqn) (i : Instant). EqnFits takes i e) n.eqns past (each_map (Fits takes n) (λ (i : Instant). AllByRecursion (EqnFits takes i) n.eqns) (λ i g. g.eqns) past fits_past)))

  begins : Before types vs f.names_differ known answers takes past now base instances us s0
  begins = record {
    vars = λ x lt h. vars_by (is_there (now x)) (nat_lt x n.inputs) x lt refl refl (ap (λ es. is_set es now x) (sym (eqns-labelled vs 0 n.eqns)) ∙ h);
    ready =
        ready-in types vs known past (λ x. Absent) (λ i. empty) s0 us us
        (each_map (λ (u : Labelled). IsNew (names vs) u.label) (λ (u : Labelled). base u.label ≡ mems0 u.label) (λ u h. base-label u.label h) us new_all)
        memories-are (all-ready types vs known past (λ x. Absent) (λ i. empty) us labels-apart);
  }

  abbrev s1 : State
  s1 = after types instances (cmds_of (placed_all types vs us)) s0

  abbrev s2 : State
  s2 = after types instances (cmds_of (stored_all types vs us)) s1

  between : Behind types vs f.names_differ known answers takes past now base instances us s0 s1
  between = places-law types vs f.names_differ known answers takes past now base instances us s0 (subst IsScheduled (sym (eqns-labelled vs 0 n.eqns)) f.scheduled) labels-apart each_one begins

  ended : Kept types vs f.names_differ known answers takes past now base instances us s1 s2
  ended = stores-law types vs f.names_differ known answers takes past now base instances us s1 labels-apart each_one between.vars between.settled

  outputs-are : map s2.values (var_names m.outputs) ≡ outputs_at n now
  outputs-are =
      ap (map s2.values) (var_names-outputs types vs n.outputs)
      ∙ same_map vs s2.values now n.outputs
      (each_both (λ x. x < length vs) (IsThere now) (λ x. s2.values (name x) ≡ now x)
      (λ x lt there. ended.stay_values (name x) (apart_from x lt) ∙ between.vars x lt ∙ ap (λ (d : Bool). if d then now x else base (name x)) there)
      n.outputs f.within.outputs fits.outputs)

  abbrev IsSettled : State → Labelled → Type 0
  IsSettled s u = Settled known u.label u.eqn.clock u.eqn.restart past now u.eqn.right s

  abbrev s3 : State
  s3 = record { values = s1.values; memories = s2.memories }

  settled_at_end : AllByRecursion (IsSettled s3) us
  settled_at_end = each_map (IsSettled s1) (IsSettled s3) (λ u h. settled_stays known u.label u.eqn.clock u.eqn.restart past now u.eqn.right s1 s3 refl (λ i. ended.stay_memories i u.label) h) us between.settled

  whole : (behaviour types known m).step (memory_at known (eqns_of us) past) inputs ≡ record { outputs = outputs_at n now; kept = memory_at known (eqns_of us) (now ∷ past) }
  whole =
      let mems : map s2.values (mem_names (mems_by types vs us)) ≡ cells (eqns_of us) (now ∷ past) = cells-kept types vs (now ∷ past) s2 us ended.kept in
      let inner : map s2.memories (inst_names (insts_by us)) ≡ inners known (eqns_of us) (now ∷ past) = inners-kept known past now s3 us settled_at_end in
      ap (stepped_to m) (after-append types instances (placed_all types vs us) (stored_all types vs us) s0)
      ∙ (λ i. record { outputs = outputs-are i; kept = memory (mems i) (memories_of (inner i)) })

  stepped : (behaviour types known (machine_of types n)).step (memory_at known n.eqns past) inputs ≡ record { outputs = outputs_at n now; kept = memory_at known n.eqns (now ∷ past) }
  stepped =
      subst (λ (es : List FlatEqn). (behaviour types known (machine_of types n)).step (memory_at known es past) inputs ≡ record { outputs = outputs_at n now; kept = memory_at known es (now ∷ past) }) (eqns-labelled vs 0 n.eqns)
      (subst (λ (k : Machine). (behaviour types known k).step (memory_at known (eqns_of us) past) inputs ≡ record { outputs = outputs_at n now; kept = memory_at known (eqns_of us) (now ∷ past) }) machine-is whole)

pub step_law : StepLaw
step_law types known answers takes n f by past inputs now fits_past fits c = stepped types known answers takes n f by past inputs now fits_past fits c
