-- The machine of a node that has shape has form.
use Rattle.std.proofs.Common.{◌≡◌, ℕ, ◌+◌, ◌<◌, ◌≤◌, Bool, true, false, ◌&&◌, not, nat_eq, nat_lt, List, [], ◌∷◌, ◌++◌, length, map, drop, Some, is_some, inl, inr, refl, sym, ap, subst, ◌∙◌, arith}
use Rattle.std.specs.Prelude.{IsSome, IsTrue}
use Rattle.std.specs.List.{AllByRecursion, IsDistinct, range_with_len}
use Rattle.std.specs.Str.{bytes_eq}
use Rattle.std.proofs.lemmas.Bool.Decides.{nat_tests}
use Rattle.std.proofs.lemmas.List.{map-append, append_assoc, length-drop}
use Rattle.std.proofs.lemmas.List.Elements.{All-from_recursion}
use Rattle.hp_base.specs.Kinds.{KindData}
use Rattle.hp_obc.specs.Machines.{ObcType, Machine}
use Rattle.hp_obc.specs.Values.{kind_of}
use Rattle.hp_obc.specs.Form.{TypesForm, MachineForm, is_name, mem_vars, scope, written, kind_in, var_kinds, constant_kind, machine_named, depth_of_one, BothAre, HasForm}
use Rattle.hp_obc.specs.Steps.{var_names, inst_names}
use Rattle.hp_obc.specs.declared.machine.Var.{Var}
use Rattle.hp_obc.specs.declared.machine.Mem.{Mem}
use Rattle.hp_flat.specs.declared.node.Variable.{Variable}
use Rattle.hp_flat.specs.Equations.{Right, operator, register, called, FlatEqn}
use Rattle.hp_flat.specs.Nodes.{FlatNode}
use Rattle.law_equations.specs.Meaning.Fitting.{operands}
use Rattle.law_equations.specs.Meaning.Scheduling.{clock_variables, AreBelow, EqnWithin}
use Rattle.law_equations.specs.Meaning.Kinding.{variable_kind, Callees, EqnKinds}
use Rattle.hp_toobc.specs.Tables.{name_of, variable_type, type_of}
use Rattle.hp_toobc.specs.Making.{declared, has_number, is_named, is_local, memory_name, instance_name, first_type, mem_of, mems, inst_of, insts, places, stores}
use Rattle.hp_toobc.specs.Making as making
use Rattle.law_equations.specs.Followed.Premises.{IsOwn}
use Rattle.law_equations.proofs.FollowedLemmas.Naming.{turned, all_named}
use Rattle.law_equations.proofs.FollowedLemmas.Labels.{IsNew, labels-differ, labels-new}
use Rattle.law_equations.proofs.FollowedLemmas.Declared.{var_names-append, inputs-below}
use Rattle.law_equations.proofs.FewerLemmas.Members.{Among, each_among, all_among, each_map}
use Rattle.law_equations.specs.Shaped.Shaped.{NodeShape, CallIsKnown, IsShaped}
use Rattle.law_equations.proofs.ShapedLemmas.Elements.{among-first, among-second, all-append, AllDiffer, distinct-append, distinct-second, among-map, all-map, among-range}
use Rattle.law_equations.proofs.ShapedLemmas.ScopeLaws.{kind-among, kinds-some, local_numbers, at, names-at, distinct-at, inputs-at, locals-at, among-local, all-local, distinct-local, distinct-range}
use Rattle.law_equations.proofs.ShapedLemmas.LabelledLaws as labelled
use Rattle.law_equations.proofs.ShapedLemmas.LabelledLaws.{mem_at, mems-each, mems-distinct, insts-each, insts-distinct, machine-among}
use Rattle.law_equations.proofs.ShapedLemmas.NamedLaws.{number-among, number-in, Each, all-named}
use Rattle.law_equations.proofs.ShapedLemmas.CommandLaws.{Readable, Writable, have-form, LabelKnown, AllNamed, places-form, stores-form}
use Rattle.law_equations.proofs.ShapedLemmas.DepthLaws.{within-all, places-within, stores-within}

-- ---- small laws

not_number : (xs : List ℕ) (x y : ℕ) → Among x xs → has_number xs y ≡ false → nat_eq x y ≡ false
not_number xs x y a h = by (nat_eq x y) refl
  where
    by : (d : Bool) → nat_eq x y ≡ d → d ≡ false
    by true e = let same : x ≡ y = grind (arith, nat_tests) in let there : has_number xs y ≡ true = ap (has_number xs) (sym same) ∙ number-among xs x a in absurd (cc)
    by false e = refl

less_differ : (k x y : ℕ) → x < k → k ≤ y → nat_eq x y ≡ false
less_differ k x y h g = grind (arith, nat_tests)

no_output : (a b : Bool) → (a && not b) ≡ true → b ≡ false
no_output a false h = refl
no_output true true h = absurd (cc)
no_output false true h = absurd (cc)

-- each of one list and each of another, the other way about
swapped : {A B : Type 0} (R : A → B → Type 0) (xs : List A) (ys : List B) → AllByRecursion (λ y. AllByRecursion (λ x. R x y) xs) ys → AllByRecursion (λ x. AllByRecursion (λ y. R x y) ys) xs
swapped {A} {B} R xs [] h = all_none xs
  where
    all_none : (zs : List A) → AllByRecursion (λ (x : A). AllByRecursion (λ (y : B). R x y) []) zs
    all_none [] = tt
    all_none (z ∷ zs) = (tt, all_none zs)
swapped {A} {B} R xs (y ∷ ys) h = both xs h.0 (swapped R xs ys h.1)
  where
    both : (zs : List A) → AllByRecursion (λ x. R x y) zs → AllByRecursion (λ x. AllByRecursion (λ z. R x z) ys) zs → AllByRecursion (λ x. AllByRecursion (λ z. R x z) (y ∷ ys)) zs
    both [] p q = tt
    both (z ∷ zs) p q = ((p.0, q.0), both zs p.1 q.1)

module _ (types : List ObcType) (form : TypesForm types) (callees : Callees) (earlier : List Machine) (n : FlatNode) (h : IsShaped types callees earlier n) where
  abbrev variables : List Variable
  variables = n.variables

  abbrev count : ℕ
  count = length n.variables

  abbrev m : Machine
  m = making.machine_of types n

  abbrev shape : NodeShape types callees n
  shape = h.shape

  -- ---- what is declared, by number

  abbrev firsts : List ℕ
  firsts = range_with_len 0 n.inputs

  abbrev locals : List ℕ
  locals = local_numbers n n.inputs (length (drop n.inputs n.variables))

  abbrev others : List ℕ
  others = n.outputs ++ locals

  abbrev all_numbers : List ℕ
  all_numbers = firsts ++ others

  abbrev memories : List Var
  memories = mem_at types variables 0 n.eqns

  written_is : written m ≡ map (at types variables) others ++ memories
  written_is =
      ap (λ (vs : List Var). (map (at types variables) n.outputs ++ vs) ++ memories) (locals-at types n variables) ∙ ap (λ (vs : List Var). vs ++ memories) (sym (map-append (at types variables) n.outputs locals))

  scope_is : scope m ≡ map (at types variables) all_numbers ++ memories
  scope_is =
      (λ i. inputs-at types variables n.inputs shape.within.inputs i ++ written_is i)
      ∙ sym (append_assoc (map (at types variables) firsts) (map (at types variables) others) memories)
      ∙ ap (λ (vs : List Var). vs ++ memories) (sym (map-append (at types variables) firsts others))

  locals_below : AreBelow count locals
  locals_below = all-local n (λ x. x < count) n.inputs (length (drop n.inputs n.variables)) (λ x a lt t. omega (arith, lt, a, length-drop n.inputs n.variables, shape.within.inputs))

  all_below : AreBelow count all_numbers
  all_below = all-append (λ x. x < count) firsts others (inputs-below 0 n.inputs count (omega (arith, shape.within.inputs))) (all-append (λ x. x < count) n.outputs locals shape.within.outputs locals_below)

  -- ---- numbers differ

  outputs_locals : AllDiffer nat_eq n.outputs locals
  outputs_locals =
      all_among (λ x. AllByRecursion (λ y. nat_eq x y ≡ false) locals) n.outputs
      (λ x a. all-local n (λ y. nat_eq x y ≡ false) n.inputs (length (drop n.inputs n.variables)) (λ y b lt t. not_number n.outputs x y a (no_output (is_named n.eqns y) (has_number n.outputs y) t)))

  others_behind : AllByRecursion (λ x. n.inputs ≤ x) others
  others_behind = all-append (λ x. n.inputs ≤ x) n.outputs locals shape.outputs_behind (all-local n (λ x. n.inputs ≤ x) n.inputs (length (drop n.inputs n.variables)) (λ x a lt t. a))

  inputs_others : AllDiffer nat_eq firsts others
  inputs_others =
      all_among (λ x. AllByRecursion (λ y. nat_eq x y ≡ false) others) firsts
      (λ x a. all_among (λ y. nat_eq x y ≡ false) others
      (λ y b. less_differ n.inputs x y (each_among (λ z. z < n.inputs) firsts x (inputs-below 0 n.inputs n.inputs (omega arith)) a) (each_among (λ z. n.inputs ≤ z) others y others_behind b)))

  numbers_differ : IsDistinct nat_eq all_numbers
  numbers_differ =
      distinct-append nat_eq firsts others (distinct-range 0 n.inputs) (distinct-append nat_eq n.outputs locals shape.outputs_differ (distinct-local n n.inputs (length (drop n.inputs n.variables))) outputs_locals) inputs_others

  -- ---- names differ

  abbrev variable_names : List (List ℕ)
  variable_names = map (name_of variables) all_numbers

  names_are : var_names (scope m) ≡ variable_names ++ var_names memories
  names_are = ap var_names scope_is ∙ var_names-append (map (at types variables) all_numbers) memories ∙ ap (λ (xs : List (List ℕ)). xs ++ var_names memories) (names-at types variables all_numbers)

  memories_apart : AllDiffer bytes_eq variable_names (var_names memories)
  memories_apart =
      let own : AllByRecursion IsOwn variable_names = all_named IsOwn variables all_numbers shape.names_own all_below in
      let new : AllByRecursion (IsNew variable_names) (var_names memories) = mems-each types variables (IsNew variable_names) 0 n.eqns (labels-new variables variable_names own 0 n.eqns) in
      swapped (λ x y. bytes_eq x y ≡ false) variable_names (var_names memories)
      (all_among (λ y. AllByRecursion (λ x. bytes_eq x y ≡ false) variable_names) (var_names memories)
      (λ y a. all_among (λ x. bytes_eq x y ≡ false) variable_names (λ x b. turned y x (each_among (λ z. bytes_eq y z ≡ false) variable_names x (each_among (IsNew variable_names) (var_names memories) y new a) b))))

  names_differ : IsDistinct bytes_eq (var_names (scope m))
  names_differ =
      subst (IsDistinct bytes_eq) (sym names_are)
      (distinct-append bytes_eq variable_names (var_names memories) (distinct-at types variables shape.names_differ all_numbers all_below numbers_differ)
      (mems-distinct types variables 0 n.eqns (labels-differ variables 0 n.eqns (omega (arith, shape.few)))) memories_apart)

  written_differ : IsDistinct bytes_eq (var_names (written m))
  written_differ = distinct-second bytes_eq (var_names m.inputs) (var_names (written m)) (subst (IsDistinct bytes_eq) (var_names-append m.inputs (written m)) names_differ)

  -- ---- kinds of what is declared

  variable_kinded : (x : ℕ) → x < count → kind_of types (type_of types (variable_type variables x)) ≡ Some (variable_kind types variables x)
  variable_kinded x lt = labelled.variable-kinded types form callees earlier variables shape.values shape.names_good x lt

  read_at : (x : ℕ) → x < count → Among x all_numbers → Readable types form callees variables earlier m x
  read_at x lt a =
      kind-among types (scope m) (at types variables x) names_differ
      (subst (Among (at types variables x)) (sym scope_is) (among-first (map (at types variables) all_numbers) memories (at types variables x) (among-map (at types variables) all_numbers x a)))
      ∙ variable_kinded x lt

  write_at : (x : ℕ) → x < count → Among x others → Writable types form callees variables earlier m x
  write_at x lt a =
      kind-among types (written m) (at types variables x) written_differ
      (subst (Among (at types variables x)) (sym written_is) (among-first (map (at types variables) others) memories (at types variables x) (among-map (at types variables) others x a)))
      ∙ variable_kinded x lt

  -- ---- what is named is declared

  in_others : (x : ℕ) → n.inputs ≤ x → x < count → is_named n.eqns x ≡ true → Among x others
  in_others x a lt t = by (has_number n.outputs x) refl
    where
      by : (d : Bool) → has_number n.outputs x ≡ d → Among x others
      by true e = among-first n.outputs locals x (number-in n.outputs x e)
      by false e =
          among-second n.outputs locals x
          (among-local n n.inputs (length (drop n.inputs n.variables)) x a (omega (arith, lt, length-drop n.inputs n.variables, shape.within.inputs)) ((λ i. t i && not (e i))))

  in_all : (x : ℕ) → x < count → is_named n.eqns x ≡ true → Among x all_numbers
  in_all x lt t = by (nat_lt x n.inputs) refl
    where
      by : (d : Bool) → nat_lt x n.inputs ≡ d → Among x all_numbers
      by true e = among-first firsts others x (among-range 0 n.inputs x (omega arith) (let low : x < n.inputs = grind (arith, nat_tests) in omega (arith, low)))
      by false e = among-second firsts others x (in_others x (let high : n.inputs ≤ x = grind (arith, nat_tests) in high) lt t)

  readable : (xs : List ℕ) → AreBelow count xs → AllByRecursion (λ x. is_named n.eqns x ≡ true) xs → AllByRecursion (Readable types form callees variables earlier m) xs
  readable [] lt t = tt
  readable (x ∷ xs) lt t = (read_at x lt.0 (in_all x lt.0 t.0), readable xs lt.1 t.1)

  writable : (xs : List ℕ) → AreBelow count xs → AllByRecursion (λ x. n.inputs ≤ x) xs → AllByRecursion (λ x. is_named n.eqns x ≡ true) xs → AllByRecursion (Writable types form callees variables earlier m) xs
  writable [] lt a t = tt
  writable (x ∷ xs) lt a t = (write_at x lt.0 (in_others x a.0 lt.0 t.0), writable xs lt.1 a.1 t.1)

  -- ---- equations

  -- what is known of an equation
  record Good (e : FlatEqn) : Type 0 where
    kinds : EqnKinds types callees variables e
    within : EqnWithin count e
    behind : AllByRecursion (λ x. n.inputs ≤ x) e.targets
    differ : IsDistinct nat_eq e.targets
    callee : CallIsKnown types callees earlier e.right
    each : Each (λ x. is_named n.eqns x ≡ true) e

  all_good : AllByRecursion Good n.eqns
  all_good =
      all_among Good n.eqns
      (λ e a. record {
        kinds = each_among (EqnKinds types callees variables) n.eqns e shape.kinds a;
        within = each_among (EqnWithin count) n.eqns e shape.within.eqns a;
        behind = each_among (λ (d : FlatEqn). AllByRecursion (λ x. n.inputs ≤ x) d.targets) n.eqns e shape.no_inputs a;
        differ = each_among (λ (d : FlatEqn). IsDistinct nat_eq d.targets) n.eqns e shape.targets_differ a;
        callee = each_among (λ (d : FlatEqn). CallIsKnown types callees earlier d.right) n.eqns e h.calls a;
        each = all-named n.eqns e a;
      })

  all_ready : AllByRecursion (labelled.IsReady types form callees earlier variables shape.values shape.names_good) n.eqns
  all_ready =
      all_among (labelled.IsReady types form callees earlier variables shape.values shape.names_good) n.eqns
      (λ e a. let g : Good e = each_among Good n.eqns e all_good a in record { kinds = g.kinds; targets = g.within.targets; callee = g.callee })

  -- a memory that is declared has the kind of its register
  memory_known : (x : List ℕ) (targets : List ℕ) (k : KindData) → Among (record { name = x; ty = type_of types (first_type variables targets) }) memories → AreBelow count targets → map (variable_kind types variables) targets ≡ k ∷ []
      → (kind_in types (written m) x ≡ Some k) × (kind_in types (scope m) x ≡ Some k)
  memory_known x targets k a lt e =
      let v : Var = record { name = x; ty = type_of types (first_type variables targets) } in
      let known = labelled.first-kinded types form callees earlier variables shape.values shape.names_good targets k e lt in (
        kind-among types (written m) v written_differ (subst (Among v) (sym written_is) (among-second (map (at types variables) others) memories v a)) ∙ known,
        kind-among types (scope m) v names_differ (subst (Among v) (sym scope_is) (among-second (map (at types variables) all_numbers) memories v a)) ∙ known,
      )

  insts_differ : IsDistinct bytes_eq (inst_names m.insts)
  insts_differ = insts-distinct types variables 0 n.eqns (labels-differ variables 0 n.eqns (omega (arith, shape.few)))

  label_known : (i : ℕ) (targets : List ℕ) (r : Right) (rest : List Mem) (later : List (List ℕ × List ℕ)) → AreBelow count targets → ((v : Var) → Among v (mem_vars (mem_of types variables i targets r ++ rest)) → Among v memories)
      → ((p : List ℕ × List ℕ) → Among p (inst_of i r ++ later) → Among p m.insts) → LabelKnown types form callees variables earlier m i targets r
  label_known i targets (operator op args) rest later lt sub subs = tt
  label_known i targets (register first next) rest later lt sub subs =
      λ k e. memory_known (memory_name variables targets i) targets k (sub (record { name = memory_name variables targets i; ty = type_of types (first_type variables targets) }) (inl refl)) lt e
  label_known i targets (called f args) rest later lt sub subs = machine-among earlier m.insts (instance_name f i, f) insts_differ (subs (instance_name f i, f) (inl refl))

  later_memory : (i : ℕ) (targets : List ℕ) (r : Right) (rest : List Mem) (v : Var) → Among v (mem_vars rest) → Among v (mem_vars (mem_of types variables i targets r ++ rest))
  later_memory i targets (operator op args) rest v a = a
  later_memory i targets (register first next) rest v a = inr a
  later_memory i targets (called f args) rest v a = a

  all_known : (i : ℕ) (es : List FlatEqn) → ((v : Var) → Among v (mem_at types variables i es) → Among v memories) → ((p : List ℕ × List ℕ) → Among p (insts i es) → Among p m.insts) → AllByRecursion Good es
      → AllNamed types form callees variables earlier m i es
  all_known i [] sub subs g = tt
  all_known i (e ∷ es) sub subs g = (
    record {
      kinds = g.0.kinds;
      targets = writable e.targets g.0.within.targets g.0.behind g.0.each.targets;
      clock = readable (clock_variables e.clock) g.0.within.clock g.0.each.clock;
      operands_read = readable (operands e.right) g.0.within.operands g.0.each.operands_each;
      restart = readable e.restart g.0.within.restart g.0.each.restart;
      once = distinct-at types variables shape.names_differ e.targets g.0.within.targets g.0.differ;
      callee = g.0.callee;
      label = label_known i e.targets e.right (mems types variables (i + 1) es) (insts (i + 1) es) g.0.within.targets sub subs;
    },
    all_known (i + 1) es (λ v a. sub v (later_memory i e.targets e.right (mems types variables (i + 1) es) v a)) (λ p a. subs p (among-second (inst_of i e.right) (insts (i + 1) es) p a)) g.1,
  )

  equations_named : AllNamed types form callees variables earlier m 0 n.eqns
  equations_named = all_known 0 n.eqns (λ v a. a) (λ p a. a) all_good

  -- ---- the machine

  memories_good : AllByRecursion (labelled.MemGood types form callees earlier variables shape.values shape.names_good) m.mems
  memories_good = labelled.mems-good types form callees earlier variables shape.values shape.names_good 0 n.eqns (omega (arith, shape.few)) all_ready

  instances_good : AllByRecursion (labelled.InstGood types form callees earlier variables shape.values shape.names_good) m.insts
  instances_good = labelled.insts-good types form callees earlier variables shape.values shape.names_good 0 n.eqns (omega (arith, shape.few)) all_ready

  names_good : AllByRecursion (λ x. IsTrue (is_name x)) (var_names (scope m))
  names_good =
      subst (AllByRecursion (λ x. IsTrue (is_name x))) (sym names_are)
      (all-append (λ x. IsTrue (is_name x)) variable_names (var_names memories) (all_named (λ x. IsTrue (is_name x)) variables all_numbers shape.names_good all_below) (memory_names m.mems memories_good))
    where
      memory_names : (mems : List Mem) → AllByRecursion (labelled.MemGood types form callees earlier variables shape.values shape.names_good) mems → AllByRecursion (λ x. IsTrue (is_name x)) (var_names (mem_vars mems))
      memory_names [] g = tt
      memory_names (x ∷ mems) g = (g.0.0, memory_names mems g.1)

  all_kinded : AllByRecursion (λ (v : Var). IsSome (kind_of types v.ty)) (map (at types variables) all_numbers ++ memories)
  all_kinded =
      all-append (λ (v : Var). IsSome (kind_of types v.ty)) (map (at types variables) all_numbers) memories
      (all-map (at types variables) (λ (v : Var). IsSome (kind_of types v.ty)) all_numbers (numbers all_numbers all_below)) (memory_kinds m.mems memories_good)
    where
      numbers : (xs : List ℕ) → AreBelow count xs → AllByRecursion (λ x. IsSome (kind_of types (type_of types (variable_type variables x)))) xs
      numbers [] lt = tt
      numbers (x ∷ xs) lt = (ap is_some (variable_kinded x lt.0), numbers xs lt.1)

      memory_kinds : (mems : List Mem) → AllByRecursion (labelled.MemGood types form callees earlier variables shape.values shape.names_good) mems → AllByRecursion (λ (v : Var). IsSome (kind_of types v.ty)) (mem_vars mems)
      memory_kinds [] g = tt
      memory_kinds (x ∷ mems) g = (g.0.1.0, memory_kinds mems g.1)

  inst_names_good : (all : List (List ℕ × List ℕ)) → AllByRecursion (labelled.InstGood types form callees earlier variables shape.values shape.names_good) all → AllByRecursion (λ x. IsTrue (is_name x)) (inst_names all)
  inst_names_good [] g = tt
  inst_names_good (p ∷ all) g = (g.0.0, inst_names_good all g.1)

  pub machine-form : MachineForm types earlier m
  machine-form = record {
    name = shape.name;
    new = h.new;
    names = (All-from_recursion (λ x. IsTrue (is_name x)) (var_names (scope m)) names_good, names_differ);
    kinds = subst (λ (vs : List Var). IsSome (var_kinds types vs)) (sym scope_is) (kinds-some types (map (at types variables) all_numbers ++ memories) all_kinded);
    firsts =
        All-from_recursion (λ (x : Mem). BothAre (kind_of types x.ty) (constant_kind types x.first)) m.mems
        (each_map (labelled.MemGood types form callees earlier variables shape.values shape.names_good) (λ (x : Mem). BothAre (kind_of types x.ty) (constant_kind types x.first)) (λ x g. g.1) m.mems memories_good);
    instances = (All-from_recursion (λ x. IsTrue (is_name x)) (inst_names m.insts) (inst_names_good m.insts instances_good), insts_differ);
    instances_known =
        All-from_recursion (λ (p : List ℕ × List ℕ). IsSome (machine_named earlier p.1)) m.insts
        (each_map (labelled.InstGood types form callees earlier variables shape.values shape.names_good) (λ (p : List ℕ × List ℕ). IsSome (machine_named earlier p.1)) (λ p g. g.1) m.insts instances_good);
    commands =
        have-form types form callees variables earlier m (places types variables 0 n.eqns ++ stores types variables 0 n.eqns)
        (all-append (HasForm types earlier m) (places types variables 0 n.eqns) (stores types variables 0 n.eqns) (places-form types form callees variables earlier m 0 n.eqns equations_named)
        (stores-form types form callees variables earlier m 0 n.eqns equations_named));
    deep =
        within-all 300 (places types variables 0 n.eqns ++ stores types variables 0 n.eqns)
        (all-append (λ c. depth_of_one c ≤ 300) (places types variables 0 n.eqns) (stores types variables 0 n.eqns) (places-within types variables 0 n.eqns shape.short) (stores-within types variables 0 n.eqns shape.short));
  }
