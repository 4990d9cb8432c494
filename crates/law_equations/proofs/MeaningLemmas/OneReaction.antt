-- A node that is well made has exactly one reaction over inputs of its kinds, in which clocks fit.
use Rattle.std.proofs.Common.{◌≡◌, ℕ, zero, suc, ◌+◌, ◌<◌, Bool, true, false, ◌||◌, ◌&&◌, nat_lt, List, [], ◌∷◌, length, map, refl, sym, ap, subst, ◌∙◌, arith}
use Rattle.std.specs.Prelude.{IsTrue}
use Rattle.std.specs.List.{AllByRecursion, flat_map, range_with_len}
use Rattle.std.proofs.lemmas.Bool.{lt-ltb}
use Rattle.std.proofs.lemmas.List.FromFn.{length-range_with_len}
use Rattle.hp_base.specs.Kinds.{KindData, Bools, Ints, Constructors, IsOfKind, AreOfKinds}
use Rattle.hp_base.specs.declared.value.Value.{Value}
use Rattle.hp_base.specs.declared.value.Value.TheVariants.{Absent, B, E}
use Rattle.hp_obc.specs.Machines.{ObcType}
use Rattle.hp_flat.specs.Equations.{Clock, Right, operator, register, called, FlatEqn}
use Rattle.hp_flat.specs.Nodes.{FlatNode}
use Rattle.law_equations.specs.Meaning.Instants.{Instant, holds}
use Rattle.law_equations.specs.Meaning.Reactions.{Answers, has, is_set, inputs_of, gives, Reaction}
use Rattle.law_equations.specs.Meaning.Fitting.{IsThere, is_choice, is_flag, ClockFits, atom_variables, operands, IsTaken, EqnFits, Fits}
use Rattle.law_equations.specs.Meaning.Scheduling.{right_reads}
use Rattle.law_equations.specs.Meaning.Solving.{said, IsSolvable}
use Rattle.law_equations.specs.Meaning.Kinding.{HasArm, Callees, RightHasKinds, EqnKinds, is_present, OptionallyOf, IsPossible, ClockIsThere, IsWellMade, AnswersOfKinds, kinds_at, AllOfKinds, OneReactionLaw, OutputsOfKindsLaw}
use Rattle.law_equations.proofs.MeaningLemmas.Lists.{each_map, all_self, or_true}
use Rattle.law_equations.proofs.MeaningLemmas.OneInstant.{Agree, solution, solution-is, said-continues, only_law}
use Rattle.law_equations.proofs.MeaningLemmas.KindLaws.{of_kind-there, optional-there}
use Rattle.law_equations.proofs.MeaningLemmas.Possible.{kind_at, all_kinded, atoms-of_kind, right-of_kinds, reads_there, past_there, possible}

-- ---- a possible instant fits

choice_by : (k : KindData) (c : ℕ) (v : Value) → HasArm k c → IsOfKind k v → is_choice v ≡ true
choice_by Bools c (B b) h o = refl
choice_by Ints c v h o = absurd h
choice_by (Constructors n cons) c (E t d) h o = refl
choice_by k c v h o = absurd o

flag_of : (d : Bool) (v : Value) → OptionallyOf d Bools v → is_flag v ≡ true
flag_of true (B b) h = refl
flag_of true Absent h = refl
flag_of true v h = absurd h
flag_of false v h = ap is_flag h

all_agree : (i : Instant) (xs : List ℕ) → AllByRecursion (Agree i i) xs
all_agree i [] = tt
all_agree i (x ∷ xs) = (refl, all_agree i xs)

set_first : (a b : Bool) (p : Bool) → a ≡ true → b ≡ true → ((a && b) || p) ≡ true
set_first true true p h g = refl
set_first true false p h g = absurd (cc)
set_first false b p h g = absurd (cc)

abbrev AreSet : List FlatEqn → Instant → FlatEqn → Type 0
AreSet es now d = holds d.clock now ≡ true → AllByRecursion (λ x. is_set es now x ≡ true) d.targets

-- the targets of an equation that is there are set
set_targets : (now : Instant) (es : List FlatEqn) → AllByRecursion (AreSet es now) es
set_targets now [] = tt
set_targets now (e ∷ es) = (
  λ c. each_map (λ x. has e.targets x ≡ true) (λ x. is_set (e ∷ es) now x ≡ true) (λ x t. set_first (holds e.clock now) (has e.targets x) (is_set es now x) c t) e.targets (all_self e.targets),
  each_map (AreSet es now) (AreSet (e ∷ es) now)
      (λ d h c. each_map (λ x. is_set es now x ≡ true) (λ x. is_set (e ∷ es) now x ≡ true) (λ x s. ap (λ (q : Bool). (holds e.clock now && has e.targets x) || q) s ∙ or_true (holds e.clock now && has e.targets x)) d.targets (h c))
      es (set_targets now es),
)

inputs-below : (a k n : ℕ) → a + k < suc n → AllByRecursion (λ x. x < n) (range_with_len a k)
inputs-below a zero n h = tt
inputs-below a (suc k) n h = (omega arith, inputs-below (a + 1) k n (omega arith))

module _ (types : List ObcType) (callees : Callees) (n : FlatNode) (f : IsWellMade types callees n) (now : Instant) (p : IsPossible types n now) where
  abbrev kind : ℕ → KindData
  kind x = kind_at types n.variables x

  clock_fits : (clock : Clock) → AllByRecursion (λ (on : ℕ × ℕ). HasArm (kind on.0) on.1) clock → ClockIsThere clock now → ClockFits clock now
  clock_fits [] ks h = tt
  clock_fits (on ∷ clock) ks h = (choice_by (kind on.0) on.1 (now on.0) ks.0 (optional-there (is_present n now on.0) (kind on.0) (now on.0) (p on.0) h.0), λ t. clock_fits clock ks.1 (h.1 t))

  taken_by : (r : Right) (ks : List KindData) → RightHasKinds types callees n.variables r ks → AllByRecursion (IsThere now) (operands r) → IsTaken callees.takes now r
  taken_by (operator op args) ks h t = tt
  taken_by (register first next) ks h t = tt
  taken_by (called g args) ks h t = atoms-of_kind types n.variables callees now args (callees.takes g) h.0 (all_kinded types n now p (flat_map atom_variables args)) t

  -- a variable that is present is there
  present-there : (x : ℕ) → is_present n now x ≡ true → IsThere now x
  present-there x h = of_kind-there (kind x) (now x) (subst (λ (d : Bool). OptionallyOf d (kind x) (now x)) h (p x))

  eqns_fit : (es : List FlatEqn) → AllByRecursion (EqnKinds types callees n.variables) es → AllByRecursion (λ (e : FlatEqn). ClockIsThere e.clock now) es → AllByRecursion (λ (e : FlatEqn). IsTrue (holds e.clock now) → AllByRecursion (IsThere now) (operands e.right)) es
      → AllByRecursion (AreSet n.eqns now) es → AllByRecursion (EqnFits callees.takes now) es
  eqns_fit [] ks cs os ts = tt
  eqns_fit (e ∷ es) ks cs os ts = (
    record {
      clock = clock_fits e.clock ks.0.clock cs.0;
      restart = each_map (λ x. kind x ≡ Bools) (λ x. is_flag (now x) ≡ true) (λ x q. flag_of (is_present n now x) (now x) (subst (λ k. OptionallyOf (is_present n now x) k (now x)) q (p x))) e.restart ks.0.restart;
      operands_there = os.0;
      targets_there = λ c. each_map (λ x. is_set n.eqns now x ≡ true) (IsThere now) (λ x s. present-there x (ap (λ (d : Bool). nat_lt x n.inputs || d) s ∙ or_true (nat_lt x n.inputs))) e.targets (ts.0 c);
      args_taken = λ c. taken_by e.right (map kind e.targets) ks.0.right (os.0 c);
    },
    eqns_fit es ks.1 cs.1 os.1 ts.1,
  )

  pub fits : Fits callees.takes n now
  fits = record {
    inputs = each_map (λ x. x < n.inputs) (IsThere now) (λ x lt. present-there x (ap (λ (d : Bool). d || is_set n.eqns now x) (lt-ltb x n.inputs lt))) (inputs_of n) (inputs-below 0 n.inputs n.inputs (omega arith));
    outputs = (f.fit now p).outputs;
    eqns = eqns_fit n.eqns f.kinds ((f.fit now p).clocks) ((f.fit now p).operands_there) (set_targets now n.eqns);
  }

-- ---- as many values as targets

kinds-as_many : (types : List ObcType) (n : FlatNode) (xs : List ℕ) (vs : List Value) → AreOfKinds (kinds_at types n xs) vs → length xs ≡ length vs
kinds-as_many types n [] [] h = refl
kinds-as_many types n [] (v ∷ vs) h = absurd h
kinds-as_many types n (x ∷ xs) [] h = absurd h
kinds-as_many types n (x ∷ xs) (v ∷ vs) h = ap suc (kinds-as_many types n xs vs h.1)

module _ (types : List ObcType) (callees : Callees) (answers : Answers) (n : FlatNode) (f : IsWellMade types callees n) (typed : AnswersOfKinds answers callees) where
  module _ (past : List Instant) (past_possible : AllByRecursion (IsPossible types n) past) (inputs : List Value) (of_kinds : AreOfKinds (kinds_at types n (inputs_of n)) inputs) (now : Instant) (p : IsPossible types n now) where
    as_many : (es : List FlatEqn) → AllByRecursion (EqnKinds types callees n.variables) es
        → AllByRecursion (λ (e : FlatEqn). AllByRecursion (λ (i : Instant). IsPossible types n i × (holds e.clock i ≡ true → AllByRecursion (IsThere i) (operands e.right))) past) es
        → AllByRecursion (λ (e : FlatEqn). IsTrue (holds e.clock now) → AllByRecursion (IsThere now) (operands e.right)) es → AllByRecursion (λ (e : FlatEqn). holds e.clock now ≡ true → length e.targets ≡ length (gives answers e past now)) es
    as_many [] ks ps os = tt
    as_many (e ∷ es) ks ps os = (
      λ c.
          kinds-as_many types n e.targets (gives answers e past now)
          (right-of_kinds types n callees answers typed past e.clock e.restart e.right (kinds_at types n e.targets) now ks.0.right ps.0 (all_kinded types n now p (right_reads e.right))
          (reads_there e.right now now (all_agree now (right_reads e.right)) (os.0 c))),
      as_many es ks.1 ps.1 os.1,
    )

  solvable : (past : List Instant) → AllByRecursion (IsPossible types n) past → (inputs : List Value) → AreOfKinds (kinds_at types n (inputs_of n)) inputs → (now : Instant) → ((x : ℕ) → now x ≡ said answers n past inputs now x) → IsPossible types n now
      → IsSolvable answers n past inputs now
  solvable past pp inputs of_kinds now is p = record {
    as_many_inputs = sym (sym (length-range_with_len 0 n.inputs) ∙ kinds-as_many types n (inputs_of n) inputs of_kinds);
    targets_differ = f.targets_differ;
    no_inputs = f.no_inputs;
    as_many = as_many past pp inputs of_kinds now p n.eqns f.kinds (past_there types callees n f answers typed past pp inputs of_kinds now is) ((f.fit now p).operands_there);
    exclusive = (f.fit now p).exclusive;
  }

  record SomeOne (inputs : List (List Value)) : Type 0 where
    instants : List Instant
    is_one : Reaction answers n inputs instants
    are_possible : AllByRecursion (IsPossible types n) instants

  some : (inputs : List (List Value)) → AllOfKinds types n inputs → SomeOne inputs
  some [] ks = record { instants = []; is_one = tt; are_possible = tt }
  some (inputs ∷ earlier) ks =
      let before_now : SomeOne earlier = some earlier ks.1 in
      let past : List Instant = before_now.instants in
      let now : Instant = solution answers past n inputs f.ranked in
      let is : (x : ℕ) → now x ≡ said answers n past inputs now x = solution-is answers past n inputs f.ranked in
      let p : IsPossible types n now = possible types callees n f answers typed past before_now.are_possible inputs ks.0 now is in
      record {
        instants = now ∷ past;
        is_one = (before_now.is_one, said-continues answers past n inputs f.ranked now is (solvable past before_now.are_possible inputs ks.0 now is p));
        are_possible = (p, before_now.are_possible);
      }

pub one_reaction_law : OneReactionLaw
one_reaction_law types callees answers n f typed inputs ks =
    let s = some types callees answers n f typed inputs ks in
    record {
      instants = s.instants;
      reaction = s.is_one;
      possible = s.are_possible;
      fit = each_map (IsPossible types n) (Fits callees.takes n) (λ i p. fits types callees n f i p) s.instants s.are_possible;
      only = λ others r. only_law answers n f.ranked inputs others s.instants r s.is_one;
    }

outputs_kinds : (types : List ObcType) (n : FlatNode) (now : Instant) → IsPossible types n now → (xs : List ℕ) → AllByRecursion (IsThere now) xs → AreOfKinds (kinds_at types n xs) (map now xs)
outputs_kinds types n now p [] ts = tt
outputs_kinds types n now p (x ∷ xs) ts = (optional-there (is_present n now x) (kind_at types n.variables x) (now x) (p x) ts.0, outputs_kinds types n now p xs ts.1)

pub outputs_of_kinds_law : OutputsOfKindsLaw
outputs_of_kinds_law types callees n f now p = outputs_kinds types n now p n.outputs (f.fit now p).outputs
