-- The machines of two controllers of one machine do the same: they give the choice, which is one, and keep nothing.
use Rattle.std.proofs.Common.{◌≡◌, ◌≢◌, ℕ, zero, suc, ◌+◌, ◌<◌, ◌≤◌, Bool, true, false, List, [], ◌∷◌, ◌++◌, ◌⊎◌, inl, inr, length, map, take, drop, filter, cond, get_or, refl, sym, ap, ap₂, subst, ◌∙◌, if◌then◌else◌, arith}
use Rattle.std.specs.Prelude.{not, unwrap_or, Option, None, Some}
use Rattle.std.specs.List.{AllByRecursion, range_with_len}
use Rattle.std.proofs.lemmas.List.{length-append, length-drop, length-map, length-take-le, take-append-drop}
use Rattle.std.proofs.lemmas.List.FromFn.{length-range_with_len}
use Rattle.std.proofs.lemmas.Slice.Eq.{bytes_eq-Decides}
use Rattle.hp_base.specs.Kinds.{KindData, Bools, Ints, Constructors, AreOfKinds}
use Rattle.hp_base.specs.declared.value.Value.{Value}
use Rattle.hp_base.specs.declared.value.Value.TheVariants.{B}
use Rattle.hp_boolx.specs.Game.{Before, IsPreferred, Permitted}
use Rattle.hp_boolx.specs.Machine.{Machine as BoolMachine, game}
use Rattle.hp_boolx.specs.Search.{Bits}
use Rattle.hp_boolx.specs.Solved.{IsChoice}
use Rattle.hp_obc.specs.Form.{TypesForm, mem_vars}
use Rattle.hp_obc.specs.Kinded.{HasKinds, MemoryKinds, inner_kinds, kinds_in, kinds_of_kept, memory_kinds, no_kinds}
use Rattle.hp_obc.specs.Machines.{Machine, ObcType}
use Rattle.hp_obc.specs.Steps.{Behaviour, Known, Memory, Names, after, before, behaviour, empty, inst_names, machine_behaviour, mem_names, memories_of, memory, more_memories, no_memory, of_instance, run, stepped_to, unknown}
use Rattle.hp_obc.specs.Values.{constant_of, kind_of, or_absent}
use Rattle.hp_obc.specs.declared.machine.Mem.{Mem}
use Rattle.hp_obc.specs.declared.machine.Var.{Var}
use Rattle.hp_exec.specs.Hooked.{AgreeInKind}
use Rattle.hp_flat.specs.declared.node.FlatTy.{FlatTy}
use Rattle.hp_flat.specs.declared.node.FlatTy.TheVariants as ty
use Rattle.hp_flat.specs.declared.node.Variable.{Variable}
use Rattle.hp_flat.specs.Equations.{Right, operator, register, called, FlatEqn}
use Rattle.hp_flat.specs.Nodes.{FlatNode}
use Rattle.hp_fuse.specs.Fusing.{fused_machine}
use Rattle.hp_normal.specs.Choices.{choice_meanings, choice_of, copying, needless, simple, simplified}
use Rattle.hp_normal.specs.Needing.{is_idle, needed, pruned}
use Rattle.hp_normal.specs.Normal.{normal}
use Rattle.hp_normal.specs.Retargeting.{ends, is_moved, retargeted, with_eqns, with_targets}
use Rattle.hp_normal.specs.Substituting.{Meanings, is_replaced, meanings, read_eqn, read_right, substituted}
use Rattle.hp_flat.specs.declared.equation.Atom.{Atom}
use Rattle.hp_flat.specs.declared.equation.Atom.TheVariants.{Variable as Read}
use Rattle.hp_toobc.specs.Making.{declared, inst_of, insts, machine_of, mem_of, mems}
use Rattle.hp_toobc.specs.Tables.{type_of}
use Rattle.hp_machines.specs.Making.{IsMachineOf, defines_some, giving}
use Rattle.law_equations.specs.Followed.Premises.{OwnNamesLaw}
use Rattle.law_equations.specs.Followed.Programs.{CallsAmong, CallsOnly, file_of}
use Rattle.law_equations.specs.Made.Laws.{unplaced}
use Rattle.law_equations.specs.Meaning.Kinding.{Callees, kinds_at, kind_of_type, variable_kind}
use Rattle.law_equations.specs.Meaning.Reactions.{inputs_of}
use Rattle.law_equations.specs.Meaning.Scheduling.{AreBelow}
use Rattle.law_equations.proofs.FewerLemmas.OrderLaws.{each_moved}
use Rattle.hp_controller.specs.Controlling.{IsController, IsOperator}
use Rattle.law_choices.specs.OnClocks.Meaning.{AreInTurn, HasOneMeaning, HasSome, MeaningLaw}
use Rattle.law_controlled.specs.Machines.{AnswerAsWhole, IsWritable, TurnMachinesLaw}
use Rattle.law_controlled.specs.Machines.IsMadeFrom.{itself}
use Rattle.law_controlled.proofs.MadeNamesLaws.{controller_names}

-- ---- the choice is one

before_both : (bs c d : Bits) → Before bs c d → Before bs d c → c ≡ d
before_both bs [] [] h g = refl
before_both [] [] (y ∷ d) h g = absurd h
before_both (b ∷ bs) [] (y ∷ d) h g = absurd h
before_both [] (x ∷ c) d h g = absurd h
before_both (b ∷ bs) (x ∷ c) [] h g = absurd h
before_both (b ∷ bs) (x ∷ c) (y ∷ d) h g = by h g (before_both bs c d)
  where
    by : ((x ≡ y) × Before bs c d) ⊎ ((x ≢ y) × (x ≡ b)) → ((y ≡ x) × Before bs d c) ⊎ ((y ≢ x) × (y ≡ b)) → (Before bs c d → Before bs d c → c ≡ d) → x ∷ c ≡ y ∷ d
    by (inl s) (inl t) rest = ap₂ (λ (a : Bool) q. a ∷ q) s.0 (rest s.1 t.1)
    by (inl s) (inr t) rest = absurd (t.0 (sym s.0))
    by (inr s) (inl t) rest = absurd (s.0 (sym t.0))
    by (inr s) (inr t) rest = absurd (s.0 (s.1 ∙ sym t.1))

same_bits : (c d : Bits) → (c ≡ d) ⊎ (c ≡ d → ⊥)
same_bits [] [] = inl refl
same_bits [] (y ∷ d) = inr (λ e. cc)
same_bits (x ∷ c) [] = inr (λ e. cc)
same_bits (true ∷ c) (false ∷ d) = inr (λ e. cc)
same_bits (false ∷ c) (true ∷ d) = inr (λ e. cc)
same_bits (true ∷ c) (true ∷ d) = by (same_bits c d)
  where
    by : (c ≡ d) ⊎ (c ≡ d → ⊥) → (true ∷ c ≡ true ∷ d) ⊎ (true ∷ c ≡ true ∷ d → ⊥)
    by (inl e) = inl (ap (λ (q : Bits). true ∷ q) e)
    by (inr f) = inr (λ e. f (ap (λ (q : Bits). drop 1 q) e))
same_bits (false ∷ c) (false ∷ d) = by (same_bits c d)
  where
    by : (c ≡ d) ⊎ (c ≡ d → ⊥) → (false ∷ c ≡ false ∷ d) ⊎ (false ∷ c ≡ false ∷ d → ⊥)
    by (inl e) = inl (ap (λ (q : Bits). false ∷ q) e)
    by (inr f) = inr (λ e. f (ap (λ (q : Bits). drop 1 q) e))

-- what is preferred is one, whether there is anything or not
one_preferred : (prefer : Bits) (P : Bits → Type 0) (c d : Bits) → IsPreferred prefer P c → IsPreferred prefer P d → c ≡ d
one_preferred prefer P c d h g = by (same_bits c d)
  where
    by : (c ≡ d) ⊎ (c ≡ d → ⊥) → c ≡ d
    by (inl e) = e
    by (inr differ) =
        let none : (x : Bits) → length x ≡ length prefer → P x → ⊥ =
        λ x l y. differ (before_both prefer c d (h.best d g.len (g.best x l y).0).1 (g.best c h.len (h.best x l y).0).1) in
        h.else_prefer none ∙ sym (g.else_prefer none)

-- ---- truth values

abbrev AreBools : List KindData → Type 0
AreBools ks = AllByRecursion (λ (k : KindData). k ≡ Bools) ks

abbrev bits_row : Bits → List Value
bits_row bits = map (λ b. B b) bits

row_fits : (ks : List KindData) (bits : Bits) → AreBools ks → length ks ≡ length bits → AreOfKinds ks (bits_row bits)
row_fits [] [] h e = tt
row_fits [] (b ∷ bits) h e = absurd (omega (arith, e))
row_fits (k ∷ ks) [] h e = absurd (omega (arith, e))
row_fits (Bools ∷ ks) (b ∷ bits) h e = (tt, row_fits ks bits h.1 (omega (arith, e)))
row_fits (Ints ∷ ks) (b ∷ bits) h e = absurd (not_ints h.0)
  where
    not_ints : Ints ≡ Bools → ⊥
    not_ints e = cc
row_fits (Constructors t cons ∷ ks) (b ∷ bits) h e = absurd (not_constructors h.0)
  where
    not_constructors : Constructors t cons ≡ Bools → ⊥
    not_constructors e = cc

bool_of : (v : Value) (k : KindData) → k ≡ Bools → AreOfKinds (k ∷ []) (v ∷ []) → (b : Bool) × (v ≡ B b)
bool_of v k e h = by v (subst (λ z. AreOfKinds (z ∷ []) (v ∷ [])) e h)
  where
    by : (w : Value) → AreOfKinds (Bools ∷ []) (w ∷ []) → (b : Bool) × (w ≡ B b)
    by (B b) h = (b, refl)
    by Value.Absent h = absurd h.0
    by (Value.I n) h = absurd h.0
    by (Value.E t c) h = absurd h.0
    by Value.Nil h = absurd h.0
    by Value.Star h = absurd h.0

row_of : (ks : List KindData) (values : List Value) → AreBools ks → AreOfKinds ks values → (bits : Bits) × (length bits ≡ length ks) × (values ≡ bits_row bits)
row_of [] [] h fits = ([], refl, refl)
row_of [] (v ∷ values) h fits = absurd fits
row_of (k ∷ ks) [] h fits = absurd fits
row_of (k ∷ ks) (v ∷ values) h fits =
    let first = bool_of v k h.0 (fits.0, tt) in
    let rest = row_of ks values h.1 fits.1 in
    (first.0 ∷ rest.0, ap suc rest.1, ap₂ (λ (a : Value) more. a ∷ more) first.1 rest.2)

abbrev IsTruth : Variable → Type 0
IsTruth x = x.ty ≡ ty.Bool

taken : (i : ℕ) (vs : List Variable) → AllByRecursion IsTruth vs → AllByRecursion IsTruth (take i vs)
taken zero vs h = tt
taken (suc i) [] h = tt
taken (suc i) (v ∷ vs) h = (h.0, taken i vs h.1)

declared_bools : (types : List ObcType) (vs : List Variable) → AllByRecursion IsTruth vs → AreBools (kinds_in types (map (declared types) vs))
declared_bools types [] h = tt
declared_bools types (v ∷ vs) h = (ap (λ (t : FlatTy). unwrap_or (kind_of types (type_of types t)) Bools) h.0, declared_bools types vs h.1)

truth_at : (vs : List Variable) (x : ℕ) (d : Variable) → AllByRecursion IsTruth vs → x < length vs → IsTruth (get_or vs x d)
truth_at [] x d h less = absurd (omega (arith, less))
truth_at (v ∷ vs) zero d h less = h.0
truth_at (v ∷ vs) (suc x) d h less = truth_at vs x d h.1 (omega (arith, less))

numbered_bools : (types : List ObcType) (n : FlatNode) (xs : List ℕ) → AllByRecursion IsTruth n.variables → AreBelow (length n.variables) xs → AreBools (kinds_at types n xs)
numbered_bools types n [] h below = tt
numbered_bools types n (x ∷ xs) h below = (ap (kind_of_type types) (truth_at n.variables x (record { name = []; ty = ty.Int }) h below.0), numbered_bools types n xs h below.1)

range_below : (first count n : ℕ) → first + count ≤ n → AreBelow n (range_with_len first count)
range_below first zero n h = tt
range_below first (suc count) n h = (omega (arith, h), range_below (first + 1) count n (omega (arith, h)))

bools_have : (ks : List KindData) → AreBools ks → AllByRecursion HasSome ks
bools_have [] h = tt
bools_have (k ∷ ks) h = (subst HasSome (sym h.0) tt, bools_have ks h.1)

-- ---- what keeps nothing

abbrev IsStateless : FlatEqn → Type 0
IsStateless e = IsOperator e.right

kept_stateless : (t : FlatEqn → Bool) (es : List FlatEqn) → AllByRecursion IsStateless es → AllByRecursion IsStateless (filter t es)
kept_stateless t [] h = tt
kept_stateless t (e ∷ es) h = by (t e) (kept_stateless t es h.1)
  where
    by : (b : Bool) → AllByRecursion IsStateless (filter t es) → AllByRecursion IsStateless (cond b (e ∷ filter t es) (filter t es))
    by true rest = (h.0, rest)
    by false rest = rest

mapped_stateless : (f : FlatEqn → FlatEqn) → ((e : FlatEqn) → IsStateless e → IsStateless (f e)) → (es : List FlatEqn) → AllByRecursion IsStateless es → AllByRecursion IsStateless (map f es)
mapped_stateless f keeps [] h = tt
mapped_stateless f keeps (e ∷ es) h = (keeps e h.0, mapped_stateless f keeps es h.1)

placed_stateless : (es : List FlatEqn) → AllByRecursion IsStateless (map unplaced es) → AllByRecursion IsStateless es
placed_stateless [] h = tt
placed_stateless (e ∷ es) h = (h.0, placed_stateless es h.1)

read_stateless : (s : Meanings) (r : Right) → IsOperator r → IsOperator (read_right s r)
read_stateless s (operator op args) h = tt
read_stateless s (register first next) h = absurd h
read_stateless s (called f args) h = absurd h

retargeted_stateless : (n : FlatNode) → AllByRecursion IsStateless n.eqns → AllByRecursion IsStateless (retargeted n).eqns
retargeted_stateless n h =
    let r = ends n n.eqns in
    kept_stateless (λ e. not (is_moved r e)) (map (with_targets r) n.eqns) (mapped_stateless (with_targets r) (λ e g. g) n.eqns h)

substituted_stateless : (n : FlatNode) → AllByRecursion IsStateless n.eqns → AllByRecursion IsStateless (substituted n).eqns
substituted_stateless n h =
    let s = meanings n n.eqns (λ x. Read x) in
    kept_stateless (λ e. not (is_replaced s e)) (map (read_eqn s) n.eqns) (mapped_stateless (read_eqn s) (λ e g. read_stateless s e.right g) n.eqns h)

copying_stateless : (e : FlatEqn) (o : Option Atom) → IsOperator e.right → IsOperator (copying o e).right
copying_stateless e None h = h
copying_stateless e (Some a) h = tt

simple_stateless : (n : FlatNode) → AllByRecursion IsStateless n.eqns → AllByRecursion IsStateless (simple n).eqns
simple_stateless n h =
    let s = choice_meanings n n.eqns (λ x. Read x) in
    mapped_stateless (simplified n.variables s) (λ e g. copying_stateless e (needless n.variables s (choice_of e)) g) n.eqns h

pruned_stateless : (n : FlatNode) → AllByRecursion IsStateless n.eqns → AllByRecursion IsStateless (pruned n).eqns
pruned_stateless n h = kept_stateless (λ e. not (is_idle n (needed n n.eqns) e)) n.eqns h

normal_stateless : (n : FlatNode) → AllByRecursion IsStateless n.eqns → AllByRecursion IsStateless (normal n).eqns
normal_stateless n h =
    let m1 : FlatNode = simple n in
    let m2 : FlatNode = retargeted m1 in
    let m3 : FlatNode = substituted m2 in
    let m4 : FlatNode = retargeted m3 in
    pruned_stateless m4 (retargeted_stateless m3 (substituted_stateless m2 (retargeted_stateless m1 (simple_stateless n h))))

no_mem : (types : List ObcType) (vs : List Variable) (i : ℕ) (targets : List ℕ) (r : Right) → IsOperator r → mem_of types vs i targets r ≡ []
no_mem types vs i targets (operator op args) h = refl
no_mem types vs i targets (register first next) h = absurd h
no_mem types vs i targets (called f args) h = absurd h

no_mems : (types : List ObcType) (vs : List Variable) (i : ℕ) (es : List FlatEqn) → AllByRecursion IsStateless es → mems types vs i es ≡ []
no_mems types vs i [] h = refl
no_mems types vs i (e ∷ es) h = ap₂ (λ (first more : List Mem). first ++ more) (no_mem types vs i e.targets e.right h.0) (no_mems types vs (i + 1) es h.1)

no_inst : (i : ℕ) (r : Right) → IsOperator r → inst_of i r ≡ []
no_inst i (operator op args) h = refl
no_inst i (register first next) h = absurd h
no_inst i (called f args) h = absurd h

no_insts : (i : ℕ) (es : List FlatEqn) → AllByRecursion IsStateless es → insts i es ≡ []
no_insts i [] h = refl
no_insts i (e ∷ es) h = ap₂ (λ (first more : List (List ℕ × List ℕ)). first ++ more) (no_inst i e.right h.0) (no_insts (i + 1) es h.1)

no_calls : (r : Right) → IsOperator r → CallsAmong [] r
no_calls (operator op args) h = tt
no_calls (register first next) h = absurd h
no_calls (called f args) h = absurd h

all_no_calls : (es : List FlatEqn) → AllByRecursion IsStateless es → CallsOnly [] es
all_no_calls [] h = tt
all_no_calls (e ∷ es) h = (no_calls e.right h.0, all_no_calls es h.1)

-- the memory of nothing
nothing_kept : (kept : Memory) → HasKinds (memory_kinds [] no_kinds) kept → kept ≡ empty
nothing_kept (memory [] no_memory) h = refl
nothing_kept (memory (v ∷ values) inner) h = absurd h.0
nothing_kept (memory [] (more_memories m ms)) h = absurd h.1

-- a machine that has no memories and no instances
module _ (types : List ObcType) (m : Machine) (mems_none : m.mems ≡ []) (insts_none : m.insts ≡ []) where
  pub keeps_none : (keeps : Names MemoryKinds) → kinds_of_kept types keeps m ≡ memory_kinds [] no_kinds
  keeps_none keeps = λ i. memory_kinds (kinds_in types (mem_vars (mems_none i))) (inner_kinds (map (λ (j : List ℕ × List ℕ). keeps j.1) (insts_none i)))

  empty_reset : (known : Known) → (behaviour types known m).reset ≡ empty
  empty_reset known = λ i. memory (map (λ (x : Mem). or_absent (constant_of types x.first)) (mems_none i)) (memories_of (map (λ (j : List ℕ × List ℕ). (known j.1).reset) (insts_none i)))

  empty_kept : (known : Known) (kept : Memory) (values : List Value) → ((behaviour types known m).step kept values).kept ≡ empty
  empty_kept known kept values =
      let s = after types (of_instance known m.insts) m.step (before types m kept values) in
      λ i. memory (map s.values (mem_names (mems_none i))) (memories_of (map s.memories (inst_names (insts_none i))))

  -- it does the same whatever is known of others
  same_known : (known : Known) (kept : Memory) (values : List Value) → ((behaviour types known m).step kept values).outputs ≡ ((behaviour types unknown m).step kept values).outputs
  same_known known kept values =
      let none : of_instance known m.insts ≡ of_instance unknown m.insts = ap (of_instance known) insts_none ∙ sym (ap (of_instance unknown) insts_none) in
      λ i. (stepped_to m (after types (none i) m.step (before types m kept values))).outputs

-- ---- the machine of a controller

pub record ControlLaws : Type 0 where
  pub meaning : MeaningLaw
  pub turn : TurnMachinesLaw
  pub own : OwnNamesLaw

abbrev first_row : List (List Value) → List Value
first_row [] = []
first_row (row ∷ rows) = row

module _ (l : ControlLaws) (types : List ObcType) (form : TypesForm types) (bm : BoolMachine) (n : FlatNode) (is : IsController bm n) (m : Machine) (made : IsMachineOf types n m) where
  abbrev source : FlatNode
  source = normal (with_eqns (giving n) made.arranged.scheduled)

  machine_is : m ≡ fused_machine (machine_of types source)
  machine_is = made.arranged.made

  stateless : AllByRecursion IsStateless source.eqns
  stateless =
      normal_stateless (with_eqns (giving n) made.arranged.scheduled)
      (placed_stateless made.arranged.scheduled
      (each_moved IsStateless (map unplaced (giving n).eqns) (map unplaced made.arranged.scheduled) made.arranged.same
      (mapped_stateless unplaced (λ e g. g) (giving n).eqns (kept_stateless defines_some n.eqns is.stateless))))

  pub mems_none : m.mems ≡ []
  mems_none = ap (λ (z : Machine). z.mems) machine_is ∙ no_mems types source.variables 0 source.eqns stateless

  pub insts_none : m.insts ≡ []
  insts_none = ap (λ (z : Machine). z.insts) machine_is ∙ no_insts 0 source.eqns stateless

  pub named : m.name ≡ n.name
  named = ap (λ (z : Machine). z.name) machine_is

  inputs_are : m.inputs ≡ map (declared types) (take n.inputs n.variables)
  inputs_are = ap (λ (z : Machine). z.inputs) machine_is

  inputs_bools : AreBools (kinds_in types m.inputs)
  inputs_bools = subst (λ (vs : List Var). AreBools (kinds_in types vs)) (sym inputs_are) (declared_bools types (take n.inputs n.variables) (taken n.inputs n.variables is.bits))

  many_inputs : length (kinds_in types m.inputs) ≡ bm.registers + bm.early
  many_inputs =
      let within = is.within in
      length-map m.inputs (λ (x : Var). unwrap_or (kind_of types x.ty) Bools)
      ∙ ap (λ (vs : List Var). length vs) inputs_are
      ∙ length-map (take n.inputs n.variables) (declared types)
      ∙ length-take-le n.inputs n.variables within.inputs
      ∙ is.inputs

  abbrev callees : Callees
  callees = record { takes = λ f. kinds_at types n (inputs_of n); gives = λ f. kinds_at types n n.outputs }

  in_turn : AreInTurn types callees [] (n ∷ [])
  in_turn = (is.well_made types callees, record { takes = refl; gives = refl }, refl, all_no_calls n.eqns is.stateless, tt)

  have_some : AllByRecursion HasSome (kinds_at types n n.outputs)
  have_some = let within = is.within in bools_have (kinds_at types n n.outputs) (numbered_bools types n n.outputs is.bits within.outputs)

  one : HasOneMeaning callees (n ∷ [])
  one = l.meaning types callees (n ∷ []) in_turn (λ f. have_some)

  writable : IsWritable n
  writable = let names = controller_names l.own bm n is in record { within = is.within; names_differ = names.differ; names_own = names.own }

  alone : machine_behaviour (file_of types (m ∷ [])) n.name ≡ behaviour types unknown m
  alone = ap (λ (b : Bool). if b then behaviour types unknown m else unknown n.name) ((bytes_eq-Decides m.name n.name).1 named)

  takes_row : (bits : Bits) → length bits ≡ bm.registers + bm.early → AreOfKinds (kinds_at types n (inputs_of n)) (bits_row bits)
  takes_row bits long =
      let within = is.within in
      let count = n.inputs in
      let fit : count ≤ length n.variables = within.inputs in
      let many : length (kinds_at types n (inputs_of n)) ≡ length bits = length-map (inputs_of n) (variable_kind types n.variables) ∙ length-range_with_len 0 count ∙ is.inputs ∙ sym long in
      row_fits (kinds_at types n (inputs_of n)) bits (numbered_bools types n (inputs_of n) is.bits (range_below 0 count (length n.variables) (omega (arith, fit)))) many

  -- what its machine gives in a first step is what the node answers
  steps_as_answered : (row : List Value) → AreOfKinds (kinds_at types n (inputs_of n)) row → ((behaviour types unknown m).step (behaviour types unknown m).reset row).outputs ≡ one.answers n.name row []
  steps_as_answered row fits =
      let all : AnswerAsWhole types (m ∷ []) one.answers callees.takes (n ∷ []) = l.turn types callees (n ∷ []) (n ∷ []) (m ∷ []) form in_turn (writable, tt) (itself, tt) (made, tt) one in
      let said : run (machine_behaviour (file_of types (m ∷ [])) n.name) (row ∷ []) ≡ one.answers n.name row [] ∷ [] = all.0 (row ∷ []) (fits, tt) in
      ap first_row (sym (ap (λ (b : Behaviour). run b (row ∷ [])) alone) ∙ said)

  -- so it gives the choice
  pub gives_choice : (known : Known) (r u : Bits) → length r ≡ bm.registers → length u ≡ bm.early → (c : Bits) × IsChoice (game bm) r u c × (((behaviour types known m).step empty (bits_row (r ++ u))).outputs ≡ bits_row c)
  gives_choice known r u long early =
      let row = bits_row (r ++ u) in
      let fits = takes_row (r ++ u) (length-append r u ∙ ap₂ (λ x y. x + y) long early) in
      let a = one.answered.0 row [] fits tt in
      let given = is.gives one.answers a.past r u a.now long early a.reaction.1 in
      let start : ((behaviour types known m).step empty row).outputs ≡ ((behaviour types unknown m).step (behaviour types unknown m).reset row).outputs =
      same_known types m mems_none insts_none known empty row ∙ ap (λ (kept : Memory). ((behaviour types unknown m).step kept row).outputs) (sym (empty_reset types m mems_none insts_none unknown)) in
      (given.0, given.1, start ∙ steps_as_answered row fits ∙ a.answer ∙ given.2)

-- ---- two controllers of one machine

module _ (l : ControlLaws) (types : List ObcType) (form : TypesForm types) (bm : BoolMachine) (n k : FlatNode) (first : IsController bm n) (second : IsController bm k) (m o : Machine) (made : IsMachineOf types n m) (made_too : IsMachineOf types k o) where
  outputs_agree : (known others : Known) (bits : Bits) → length bits ≡ bm.registers + bm.early → ((behaviour types others o).step empty (bits_row bits)).outputs ≡ ((behaviour types known m).step empty (bits_row bits)).outputs
  outputs_agree known others bits long =
      let r : Bits = take bm.registers bits in
      let u : Bits = drop bm.registers bits in
      let r_long : length r ≡ bm.registers = length-take-le bm.registers bits (omega (arith, long)) in
      let dropped = length-drop bm.registers bits in
      let u_long : length u ≡ bm.early = omega (arith, dropped, long) in
      let here = gives_choice l types form bm n first m made known r u r_long u_long in
      let there = gives_choice l types form bm k second o made_too others r u r_long u_long in
      let same : there.0 ≡ here.0 = one_preferred (game bm).prefer (Permitted (game bm) r u) there.0 here.0 there.1 here.1 in
      subst (λ (bs : Bits). ((behaviour types others o).step empty (bits_row bs)).outputs ≡ ((behaviour types known m).step empty (bits_row bs)).outputs) (take-append-drop bm.registers bits) (there.2 ∙ ap bits_row same ∙ sym here.2)

  pub controllers_agree : (known others : Known) (keeps : Names MemoryKinds) → AgreeInKind (kinds_in types m.inputs) (kinds_of_kept types keeps m) (behaviour types others o) (behaviour types known m)
  controllers_agree known others keeps =
      let none = mems_none l types form bm n first m made in
      let alone = insts_none l types form bm n first m made in
      let none_too = mems_none l types form bm k second o made_too in
      let alone_too = insts_none l types form bm k second o made_too in
      record {
        resets = empty_reset types o none_too alone_too others ∙ sym (empty_reset types m none alone known);
        steps = λ kept values has fits.
            let nothing : kept ≡ empty = nothing_kept kept (subst (λ (z : MemoryKinds). HasKinds z kept) (keeps_none types m none alone keeps) has) in
            let row = row_of (kinds_in types m.inputs) values (inputs_bools l types form bm n first m made) fits in
            let same = outputs_agree known others row.0 (row.1 ∙ many_inputs l types form bm n first m made) in
            let outputs : ((behaviour types others o).step kept values).outputs ≡ ((behaviour types known m).step kept values).outputs =
            (λ i. ((behaviour types others o).step (nothing i) (row.2 i)).outputs) ∙ same ∙ sym (λ i. ((behaviour types known m).step (nothing i) (row.2 i)).outputs) in
            let kept_same = empty_kept types o none_too alone_too others kept values ∙ sym (empty_kept types m none alone known kept values) in
            λ i. record { outputs = outputs i; kept = kept_same i };
      }
