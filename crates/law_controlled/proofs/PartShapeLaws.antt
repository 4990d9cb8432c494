-- A part of a node has the shape that the node has.
use Rattle.std.proofs.Common.{◌≡◌, ◌⊎◌, inl, inr, ℕ, zero, suc, ◌+◌, ◌≤◌, Bool, true, false, ◌||◌, nat_eq, List, [], ◌∷◌, length, map, refl, sym, ap, subst, ◌∙◌, arith}
use Rattle.std.specs.List.{AllByRecursion, IsDistinct, flat_map, range_with_len}
use Rattle.std.proofs.lemmas.Bool.Decides.{nat_tests}
use Rattle.hp_base.specs.Kinds.{KindData, Bools}
use Rattle.hp_obc.specs.Machines.{ObcType}
use Rattle.hp_flat.specs.declared.equation.Atom.{Atom}
use Rattle.hp_flat.specs.declared.equation.Atom.TheVariants.{Variable as Read, Value as Fixed}
use Rattle.hp_flat.specs.declared.node.Variable.{Variable}
use Rattle.hp_flat.specs.Equations.{Clock, Right, operator, register, called, FlatEqn}
use Rattle.hp_flat.specs.Nodes.{FlatNode}
use Rattle.law_equations.specs.Meaning.Fitting.{atom_variables, operands}
use Rattle.law_equations.specs.Meaning.Kinding.{AtomHasKind, Callees, EqnKinds, HasArm, HasValue, HaveKinds, RightHasKinds, kinds_at, variable_kind}
use Rattle.law_equations.specs.Meaning.Reactions.{has}
use Rattle.law_equations.specs.Meaning.Scheduling.{clock_variables}
use Rattle.law_equations.specs.Shaped.Shaped.{IsHeaded, IsShort, Part}
use Rattle.law_wellmade.specs.Lettered.Names.{IsName}
use Rattle.law_wellmade.proofs.PartedLemmas.Expressions.{has-first, has-more}
use Rattle.law_choices.specs.Closed.Exclusive.{AreParted, Differ}
use Rattle.law_choices.specs.Part.Part.{AreFewer, AreKept, ArePart, EqnKept, IsPart, IsRenumbering, Renumbering, renumbered, renumbered_atom, renumbered_clock, renumbered_right}
use Rattle.law_choices.proofs.PartLemmas.Form.{fewer_hold, names_law, within_law}
use Rattle.law_choices.proofs.PartLemmas.Parts.{no_inputs_law, targets_above}
use Rattle.law_choices.proofs.PartLemmas.Values.{one-number, same_test}
use Rattle.law_controlled.specs.Fitting.{IsFit}

-- ---- variables that are left

fewer_all : {A : Type 0} (P : A → Type 0) (xs ys : List A) → AreFewer xs ys → AllByRecursion P xs → AllByRecursion P ys
fewer_all P xs ys (AreFewer.no_element) h = tt
fewer_all P xs ys (AreFewer.kept_element x f) h = (h.0, fewer_all P _ _ f h.1)
fewer_all P xs ys (AreFewer.left_element x f) h = fewer_all P _ _ f h.1

module _ (types : List ObcType) (callees : Callees) (r : Renumbering) (n m : FlatNode) (part : IsPart r n m) (same : (x : ℕ) → r.kept x ≡ true → variable_kind types m.variables (r.number x) ≡ variable_kind types n.variables x) where
  is : IsRenumbering r
  is = part.renumbering

  -- ---- numbers

  others_differ : (x : ℕ) (ys : List ℕ) → r.kept x ≡ true → AreKept r ys → AllByRecursion (λ y. nat_eq x y ≡ false) ys → AllByRecursion (λ y. nat_eq (r.number x) y ≡ false) (map r.number ys)
  others_differ x [] k l h = tt
  others_differ x (y ∷ ys) k l h = (same_test r is y x l.0 k ∙ h.0, others_differ x ys k l.1 h.1)

  numbers_differ : (xs : List ℕ) → AreKept r xs → IsDistinct nat_eq xs → IsDistinct nat_eq (map r.number xs)
  unfolding IsDistinct
  numbers_differ [] k h = tt
  numbers_differ (x ∷ xs) k h = (others_differ x xs k.0 k.1 h.0, numbers_differ xs k.1 h.1)

  -- ---- kinds

  atom_kind : (a : Atom) (k : KindData) → AreKept r (atom_variables a) → AtomHasKind types callees n.variables a k → AtomHasKind types callees m.variables (renumbered_atom r a) k
  atom_kind (Read x) k l h = same x l.0 ∙ h
  atom_kind (Fixed v) k l h = h

  args_kinds : (args : List Atom) (ks : List KindData) → AreKept r (flat_map atom_variables args) → HaveKinds types callees n.variables args ks → HaveKinds types callees m.variables (map (renumbered_atom r) args) ks
  args_kinds [] [] l h = tt
  args_kinds [] (k ∷ ks) l h = absurd h
  args_kinds (Read x ∷ args) [] l h = absurd h
  args_kinds (Fixed v ∷ args) [] l h = absurd h
  args_kinds (Read x ∷ args) (k ∷ ks) l h = (same x l.0 ∙ h.0, args_kinds args ks l.1 h.1)
  args_kinds (Fixed v ∷ args) (k ∷ ks) l h = (h.0, args_kinds args ks l h.1)

  pub numbers_kinds : (xs : List ℕ) → AreKept r xs → kinds_at types m (map r.number xs) ≡ kinds_at types n xs
  numbers_kinds [] l = refl
  numbers_kinds (x ∷ xs) l = λ j. same x l.0 j ∷ numbers_kinds xs l.1 j

  right_kinds : (right : Right) (ks : List KindData) → AreKept r (operands right) → RightHasKinds types callees n.variables right ks → RightHasKinds types callees m.variables (renumbered_right r right) ks
  right_kinds (operator op args) ks l h = (h.0, args_kinds args h.0 l h.1, h.2, h.3, h.4)
  right_kinds (register first next) ks l h = (h.0, h.1, atom_kind next h.0 l h.2, h.3)
  right_kinds (called f args) ks l h = (args_kinds args (callees.takes f) l h.0, h.1)

  clock_kinds : (clock : Clock) → AreKept r (clock_variables clock) → AllByRecursion (λ (on : ℕ × ℕ). HasArm (variable_kind types n.variables on.0) on.1) clock
      → AllByRecursion (λ (on : ℕ × ℕ). HasArm (variable_kind types m.variables on.0) on.1) (renumbered_clock r clock)
  clock_kinds [] l h = tt
  clock_kinds (on ∷ clock) l h = (subst (λ k. HasArm k on.1) (sym (same on.0 l.0)) h.0, clock_kinds clock l.1 h.1)

  restart_kinds : (xs : List ℕ) → AreKept r xs → AllByRecursion (λ x. variable_kind types n.variables x ≡ Bools) xs → AllByRecursion (λ x. variable_kind types m.variables x ≡ Bools) (map r.number xs)
  restart_kinds [] l h = tt
  restart_kinds (x ∷ xs) l h = (same x l.0 ∙ h.0, restart_kinds xs l.1 h.1)

  eqn_kinds : (e : FlatEqn) → EqnKept r e → EqnKinds types callees n.variables e → EqnKinds types callees m.variables (renumbered r e)
  eqn_kinds e k h = record {
    right = subst (RightHasKinds types callees m.variables (renumbered_right r e.right)) (sym (numbers_kinds e.targets k.targets)) (right_kinds e.right (map (variable_kind types n.variables) e.targets) k.operands h.right);
    clock = clock_kinds e.clock k.clock h.clock;
    restart = restart_kinds e.restart k.restart h.restart;
  }

  -- ---- equations

  each_kept : (P Q : FlatEqn → Type 0) → ((e : FlatEqn) → EqnKept r e → P e → Q (renumbered r e)) → (es fs : List FlatEqn) → ArePart r es fs → AllByRecursion P es → AllByRecursion Q fs
  each_kept P Q f es fs (ArePart.no_eqn) h = tt
  each_kept P Q f es fs (ArePart.kept_eqn e k p) h = (f e k h.0, each_kept P Q f _ _ p h.1)
  each_kept P Q f es fs (ArePart.left_eqn e k p) h = each_kept P Q f _ _ p h.1

  clock_length : (clock : Clock) → length (renumbered_clock r clock) ≡ length clock
  clock_length [] = refl
  clock_length (on ∷ clock) = ap (λ k. suc k) (clock_length clock)

  clock_part : (c d : Clock) → Part c d → Part (renumbered_clock r c) (renumbered_clock r d)
  clock_part [] d p = absurd p
  clock_part (on ∷ c) [] p = absurd p
  clock_part (on ∷ c) (other ∷ d) p = (ap r.number p.0, by p.1 (clock_part c d))
    where
      by : (nat_eq on.1 other.1 ≡ false) ⊎ ((on.1 ≡ other.1) × Part c d) → (Part c d → Part (renumbered_clock r c) (renumbered_clock r d)) → (nat_eq on.1 other.1 ≡ false) ⊎ ((on.1 ≡ other.1) × Part (renumbered_clock r c) (renumbered_clock r d))
      by (inl h) f = inl h
      by (inr h) f = inr (h.0, f h.1)

  numbered_in : (xs : List ℕ) (z : ℕ) → AreKept r xs → has (map r.number xs) z ≡ true → (x : ℕ) × (r.kept x ≡ true) × (r.number x ≡ z) × (has xs x ≡ true)
  numbered_in [] z k h = absurd cc
  numbered_in (x ∷ xs) z k h = by (nat_eq (r.number x) z) refl h (numbered_in xs z k.1)
    where
      by : (b : Bool) → nat_eq (r.number x) z ≡ b → (b || has (map r.number xs) z) ≡ true → (has (map r.number xs) z ≡ true → (y : ℕ) × (r.kept y ≡ true) × (r.number y ≡ z) × (has xs y ≡ true))
          → (y : ℕ) × (r.kept y ≡ true) × (r.number y ≡ z) × (has (x ∷ xs) y ≡ true)
      by true q g f = let one : r.number x ≡ z = grind (arith, nat_tests, q) in (x, k.0, one, has-first x xs)
      by false q g f = let y = f g in (y.0, y.1, y.2, has-more x y.0 xs y.3)

  differ : (e d : FlatEqn) → EqnKept r e → EqnKept r d → Differ e d → Differ (renumbered r e) (renumbered r d)
  differ e d k l h z t s =
      let x = numbered_in e.targets z k.targets t in
      let y = numbered_in d.targets z l.targets s in
      let one : x.0 ≡ y.0 = one-number r is y.0 x.0 y.1 x.1 (x.2 ∙ sym y.2) in
      clock_part e.clock d.clock (h x.0 x.3 (ap (has d.targets) one ∙ y.3))

  parted_part : (es fs : List FlatEqn) → ArePart r es fs → AreParted es → AreParted fs
  parted_part es fs (ArePart.no_eqn) h = tt
  parted_part es fs (ArePart.kept_eqn e k p) h = (each_kept (Differ e) (Differ (renumbered r e)) (λ d l g. differ e d k l g) _ _ p h.0, parted_part _ _ p h.1)
  parted_part es fs (ArePart.left_eqn e k p) h = parted_part _ _ p h.1

  -- ---- the part

  pub part_fit : IsFit types callees n → IsFit types callees m
  part_fit h =
      let names_are = names_law r n m part h.names_differ h.names_own in
      record {
        within = within_law r n m part h.within;
        no_inputs = no_inputs_law r n m part h.no_inputs;
        outputs_behind = subst (AllByRecursion (λ x. m.inputs ≤ x)) (sym part.outputs) (targets_above r n m part n.outputs part.outputs_kept h.outputs_behind);
        outputs_differ = subst (IsDistinct nat_eq) (sym part.outputs) (numbers_differ n.outputs part.outputs_kept h.outputs_differ);
        kinds = each_kept (EqnKinds types callees n.variables) (EqnKinds types callees m.variables) eqn_kinds n.eqns m.eqns part.eqns h.kinds;
        values = fewer_all (λ (v : Variable). HasValue types v.ty) n.variables m.variables part.variables h.values;
        targets_differ = each_kept (λ (e : FlatEqn). IsDistinct nat_eq e.targets) (λ (e : FlatEqn). IsDistinct nat_eq e.targets) (λ e k d. numbers_differ e.targets k.targets d) n.eqns m.eqns part.eqns h.targets_differ;
        parted = parted_part n.eqns m.eqns part.eqns h.parted;
        short = each_kept IsShort IsShort (λ e k l. let long = clock_length e.clock in omega (arith, l, long)) n.eqns m.eqns part.eqns h.short;
        names_good = fewer_hold IsName n.variables m.variables part.variables h.names_good;
        names_differ = names_are.0;
        names_own = names_are.1;
      }

  inputs_same : (a k : ℕ) → a + k ≤ n.inputs → kinds_at types m (range_with_len a k) ≡ kinds_at types n (range_with_len a k)
  inputs_same a zero l = refl
  inputs_same a (suc k) l =
      let own = part.own_inputs a (omega (arith, l)) in
      let one : variable_kind types m.variables a ≡ variable_kind types n.variables a = ap (variable_kind types m.variables) (sym own.1) ∙ same a own.0 in
      let rest = inputs_same (a + 1) k (omega (arith, l)) in
      λ j. one j ∷ rest j

  -- it takes and gives what the node takes and gives
  pub part_headed : m.name ≡ n.name → IsHeaded types callees n → IsHeaded types callees m
  part_headed named h = record {
    takes = ap callees.takes named ∙ h.takes ∙ sym (inputs_same 0 n.inputs (omega arith)) ∙ ap (λ k. kinds_at types m (range_with_len 0 k)) (sym part.inputs);
    gives = ap callees.gives named ∙ h.gives ∙ sym (numbers_kinds n.outputs part.outputs_kept) ∙ ap (kinds_at types m) (sym part.outputs);
  }
