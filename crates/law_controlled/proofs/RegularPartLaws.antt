-- Equations whose kinds agree are regular, and those of a part are where those of the whole node are.
use Rattle.std.proofs.Common.{◌≡◌, inl, inr, ℕ, zero, suc, ◌+◌, ◌<◌, ◌≤◌, Bool, true, false, if◌then◌else◌, nat_lt, List, [], ◌∷◌, ◌++◌, length, map, Some, refl, sym, ap, subst, ◌∙◌, arith}
use Rattle.std.specs.Prelude.{slice_get, slice_index_or, unwrap_or}
use Rattle.std.specs.List.{AllByRecursion}
use Rattle.std.proofs.lemmas.Option.{slice_get_past, slice_get_within}
use Rattle.std.proofs.lemmas.Bool.Decides.{nat_tests}
use Rattle.hp_base.specs.Kinds.{KindData}
use Rattle.hp_obc.specs.Form.{TypesForm}
use Rattle.hp_obc.specs.Machines.{ObcType}
use Rattle.hp_obc.specs.declared.command.ObcOp.TheVariants.{Copy}
use Rattle.hp_flat.specs.declared.equation.Atom.{Atom}
use Rattle.hp_flat.specs.declared.equation.Atom.TheVariants.{Variable as Read, Value as Fixed}
use Rattle.hp_flat.specs.declared.node.Variable.{Variable}
use Rattle.hp_flat.specs.Equations.{Clock, Right, operator, register, called, FlatEqn}
use Rattle.hp_flat.specs.Nodes.{FlatNode}
use Rattle.hp_toobc.specs.Stepping.{AreWide}
use Rattle.hp_toobc.specs.Tables.{variable_type, width_of}
use Rattle.hp_normal.specs.Reading.{both, copied, only}
use Rattle.law_equations.specs.Followed.Premises.{IsOfTypes, constants_in, constants_of}
use Rattle.law_equations.specs.Fewer.Compiling.{CopiesAgree, CopyAgrees}
use Rattle.law_equations.specs.Meaning.Kinding.{AtomHasKind, Callees, EqnKinds, HaveKinds, IsTyped, RightHasKinds, variable_kind}
use Rattle.law_equations.specs.Followed.Premises as premises
use Rattle.law_equations.proofs.FewerLemmas.KindedForms.{first_kind, kinds_law, of_types, typed_kind}
use Rattle.law_equations.specs.Meaning.Scheduling.{IsWithin}
use Rattle.hp_form.specs.Regular.Regular.{EqnIsRegular, EqnsRegular}
use Rattle.hp_controlled.specs.Parts.{IsIn, IsPart, IsReached, IsUsed, marked, number_at, numbers_from, read_by_right, renumbered_atom, renumbered_clock, renumbered_eqn, renumbered_right, tested_by, variables_of}
use Rattle.law_choices.specs.Part.Part as choices
use Rattle.law_choices.specs.Part.Part.{Renumbering}
use Rattle.law_controlled.specs.Parts.{with_outputs}
use Rattle.law_controlled.proofs.PartLaws.{before, is_part, marked_within, number_is, r}

-- ---- kinds

module _ (types : List ObcType) (callees : Callees) (variables : List Variable) where
  args_typed : (args : List Atom) (ks : List KindData) → HaveKinds types callees variables args ks → AllByRecursion (IsOfTypes types) (constants_in args)
  args_typed [] ks h = tt
  args_typed (a ∷ args) [] h = absurd h
  args_typed (Read x ∷ args) (k ∷ ks) h = args_typed args ks h.1
  args_typed (Fixed v ∷ args) (k ∷ ks) h = (of_types types k v h.0.1 h.0.0, args_typed args ks h.1)

  next_typed : (next : Atom) (k : KindData) → AtomHasKind types callees variables next k → AllByRecursion (IsOfTypes types) (constants_in (next ∷ []))
  next_typed (Read x) k h = tt
  next_typed (Fixed v) k h = (of_types types k v h.1 h.0, tt)

  right_typed : (ts : List ℕ) (r : Right) → RightHasKinds types callees variables r (map (variable_kind types variables) ts) → AllByRecursion (IsOfTypes types) (constants_of r)
  right_typed ts (operator op args) h = args_typed args h.0 h.1
  right_typed ts (called f args) h = args_typed args (callees.takes f) h.0
  right_typed [] (register first next) h = let no : ◌≡◌ {A = List KindData} [] (h.0 ∷ []) = h.3 in absurd cc
  right_typed (x ∷ ts) (register first next) h =
      let same = first_kind (variable_kind types variables x) h.0 (map (variable_kind types variables) ts) [] h.3 in
      (of_types types h.0 first (subst (λ k. IsTyped types k) same (typed_kind types (variable_type variables x))) h.1, next_typed next h.0 h.2)

  each_regular : (es : List FlatEqn) → AllByRecursion (EqnKinds types callees variables) es → AllByRecursion (premises.EqnForm types variables) es → CopiesAgree variables es → AllByRecursion (EqnIsRegular types variables) es
  each_regular [] h f c = tt
  each_regular (e ∷ es) h f c = (record { clock = f.0.clock; constants = right_typed e.targets e.right h.0.right; copy = c.0 }, each_regular es h.1 f.1 c.1)

  -- equations whose kinds agree
  pub kinds_regular : (es : List FlatEqn) → TypesForm types → AllByRecursion (EqnKinds types callees variables) es → AllByRecursion (EqnIsRegular types variables) es
  kinds_regular es form h = let both = kinds_law types callees variables es form h in each_regular es h both.0 both.1

-- ---- parts

-- what is not there has the type of no variable
past_type : (vs : List Variable) (x : ℕ) → length vs ≤ x → variable_type vs x ≡ variable_type [] 0
past_type [] x l = refl
past_type (v ∷ vs) zero l = absurd (omega (arith, l))
past_type (v ∷ vs) (suc x) l = past_type vs x (omega (arith, l))

marked_fewer : (ms : List Bool) (vs : List Variable) → length (marked ms vs) ≤ length vs
marked_fewer [] vs = omega arith
marked_fewer (m ∷ ms) [] = omega arith
marked_fewer (true ∷ ms) (v ∷ vs) = let l = marked_fewer ms vs in omega (arith, l)
marked_fewer (false ∷ ms) (v ∷ vs) = let l = marked_fewer ms vs in omega (arith, l)

marked_type : (ms : List Bool) (vs : List Variable) (x : ℕ) → slice_index_or ms x false ≡ true → length ms ≡ length vs → variable_type (marked ms vs) (before ms x) ≡ variable_type vs x
marked_type [] vs x h l = absurd cc
marked_type (m ∷ ms) [] x h l = absurd (omega (arith, l))
marked_type (true ∷ ms) (v ∷ vs) zero h l = refl
marked_type (true ∷ ms) (v ∷ vs) (suc x) h l = marked_type ms vs x h (omega (arith, l))
marked_type (false ∷ ms) (v ∷ vs) zero h l = absurd cc
marked_type (false ∷ ms) (v ∷ vs) (suc x) h l = marked_type ms vs x h (omega (arith, l))

numbers_length : (k : ℕ) (ms : List Bool) → length (numbers_from k ms) ≡ length ms
numbers_length k [] = refl
numbers_length k (m ∷ ms) = ap suc (numbers_length (if m then k + 1 else k) ms)

module _ (types : List ObcType) (n : FlatNode) (name outputs : List ℕ) (other : FlatNode) (part : IsPart n name outputs other) where
  abbrev ms : List Bool
  ms = let m = part.marks in m.variables

  abbrev to : ℕ → ℕ
  to = number_at (numbers_from 0 ms)

  abbrev kept : List Variable
  kept = marked ms n.variables

  as_many : length ms ≡ length n.variables
  as_many = let r = part.reached in r.as_many

  -- a variable that is reached keeps its type
  same_type : (x : ℕ) → IsReached n outputs x → variable_type kept (to x) ≡ variable_type n.variables x
  same_type x there = by (nat_lt x (length n.variables)) refl
    where
      by : (b : Bool) → nat_lt x (length n.variables) ≡ b → variable_type kept (to x) ≡ variable_type n.variables x
      by true e =
          let less : x < length n.variables = grind (arith, nat_tests, e) in
          let reached = part.reached in
          let mark = (reached.variables x less).1 there in
          ap (variable_type kept) (number_is ms x (omega (arith, less, as_many))) ∙ marked_type ms n.variables x mark as_many
      by false e =
          let more : length n.variables ≤ x = grind (arith, nat_tests, e) in
          let long = numbers_length 0 ms in
          let few = marked_fewer ms n.variables in
          let same : to x ≡ x = ap (λ o. unwrap_or o x) (slice_get_past (numbers_from 0 ms) x (omega (arith, long, as_many, more))) in
          ap (variable_type kept) same ∙ past_type kept x (omega (arith, few, more)) ∙ sym (past_type n.variables x more)

  abbrev AllReached : List ℕ → Type 0
  AllReached xs = (x : ℕ) → IsIn x xs → IsReached n outputs x

  in_front : (xs ys : List ℕ) (x : ℕ) → IsIn x xs → IsIn x (xs ++ ys)
  in_front [] ys x h = absurd h
  in_front (y ∷ xs) ys x (inl e) = inl e
  in_front (y ∷ xs) ys x (inr h) = inr (in_front xs ys x h)

  in_back : (xs ys : List ℕ) (x : ℕ) → IsIn x ys → IsIn x (xs ++ ys)
  in_back [] ys x h = h
  in_back (y ∷ xs) ys x h = inr (in_back xs ys x h)

  clock_wide : (clock : Clock) → AllReached (tested_by clock) → AreWide types n.variables clock → AreWide types kept (renumbered_clock to clock)
  clock_wide [] r w = tt
  clock_wide (on ∷ clock) r w = (
    subst (λ t. on.1 < width_of types t) (sym (same_type on.0 (r on.0 (inl refl)))) w.0,
    clock_wide clock (λ x h. r x (inr h)) w.1,
  )

  args_same : (args : List Atom) → constants_in (map (renumbered_atom to) args) ≡ constants_in args
  args_same [] = refl
  args_same (Read x ∷ args) = args_same args
  args_same (Fixed v ∷ args) = ap (λ vs. v ∷ vs) (args_same args)

  constants_same : (r : Right) → constants_of (renumbered_right to r) ≡ constants_of r
  constants_same (operator op args) = args_same args
  constants_same (register first (Read x)) = refl
  constants_same (register first (Fixed v)) = refl
  constants_same (called f args) = args_same args

  copy_agrees : (ts : List ℕ) (r : Right) → AllReached ts → AllReached (read_by_right r) → CopyAgrees n.variables (both (only ts) (copied r)) → CopyAgrees kept (both (only (map to ts)) (copied (renumbered_right to r)))
  copy_agrees [] (operator op args) t s h = tt
  copy_agrees [] (register first next) t s h = tt
  copy_agrees [] (called f args) t s h = tt
  copy_agrees (x ∷ []) (operator Copy []) t s h = tt
  copy_agrees (x ∷ []) (operator Copy (Read y ∷ [])) t s h = same_type x (t x (inl refl)) ∙ h ∙ sym (same_type y (s y (inl refl)))
  copy_agrees (x ∷ []) (operator Copy (Fixed v ∷ [])) t s h = tt
  copy_agrees (x ∷ []) (operator Copy (a ∷ b ∷ args)) t s h = tt
  copy_agrees (x ∷ []) (operator op args) t s h = tt
  copy_agrees (x ∷ []) (register first next) t s h = tt
  copy_agrees (x ∷ []) (called f args) t s h = tt
  copy_agrees (x ∷ y ∷ ts) r t s h = tt

  one_regular : (e : FlatEqn) → AllReached (variables_of e) → EqnIsRegular types n.variables e → EqnIsRegular types kept (renumbered_eqn to e)
  one_regular e r h = record {
    clock = clock_wide e.clock (λ x i. r x (in_back e.targets (tested_by e.clock ++ (e.restart ++ read_by_right e.right)) x (in_front (tested_by e.clock) (e.restart ++ read_by_right e.right) x i))) h.clock;
    constants = subst (AllByRecursion (IsOfTypes types)) (sym (constants_same e.right)) h.constants;
    copy =
        copy_agrees e.targets e.right (λ x i. r x (in_front e.targets (tested_by e.clock ++ (e.restart ++ read_by_right e.right)) x i))
        (λ x i. r x (in_back e.targets (tested_by e.clock ++ (e.restart ++ read_by_right e.right)) x (in_back (tested_by e.clock) (e.restart ++ read_by_right e.right) x (in_back e.restart (read_by_right e.right) x i)))) h.copy;
  }

  -- an equation that is marked reads what is reached
  abbrev AreMarkedSo : List Bool → List FlatEqn → Type 0
  AreMarkedSo bs es = (k : ℕ) (e : FlatEqn) → slice_get es k ≡ Some e → slice_index_or bs k false ≡ true → AllReached (variables_of e)

  marked_regular : (bs : List Bool) (es : List FlatEqn) → AreMarkedSo bs es → AllByRecursion (EqnIsRegular types n.variables) es → AllByRecursion (EqnIsRegular types kept) (map (renumbered_eqn to) (marked bs es))
  marked_regular [] es m h = tt
  marked_regular (b ∷ bs) [] m h = tt
  marked_regular (true ∷ bs) (e ∷ es) m h = (one_regular e (m 0 e refl refl) h.0, marked_regular bs es (λ k d i t. m (suc k) d i t) h.1)
  marked_regular (false ∷ bs) (e ∷ es) m h = marked_regular bs es (λ k d i t. m (suc k) d i t) h.1

  abbrev eqn_marks : List Bool
  eqn_marks = let m = part.marks in m.eqns

  marks_so : AreMarkedSo eqn_marks n.eqns
  marks_so k e is mark x there =
      let reached = part.reached in
      let used : IsUsed n outputs k = (reached.eqns k (within k e is)).0 mark in
      let same : e ≡ used.0 = some_same e used.0 (sym is ∙ used.2) in
      IsReached.reached_by used.1 k e used.5 used.4 is (subst (λ d. IsIn used.1 d.targets) (sym same) used.3) there
    where
      within : (k : ℕ) (e : FlatEqn) → slice_get n.eqns k ≡ Some e → k < length n.eqns
      within k e is = slice_get_within n.eqns k e is

      some_same : (x y : FlatEqn) → Some x ≡ Some y → x ≡ y
      some_same x y h = cc

  pub part_regular : EqnsRegular types n → EqnsRegular types other
  part_regular h = subst (EqnsRegular types) (sym part.is) (marked_regular eqn_marks n.eqns marks_so h)

-- ---- its types

-- the part that the compiler makes is a part, and its variables keep their types
pub typed_part : (n : FlatNode) (name outputs : List ℕ) (other : FlatNode) → IsWithin (with_outputs name outputs n) → IsPart n name outputs other
    → (q : Renumbering) × choices.IsPart q (with_outputs name outputs n) other × ((x : ℕ) → q.kept x ≡ true → variable_type other.variables (q.number x) ≡ variable_type n.variables x)
typed_part n name outputs other within its =
    let m = its.marks in
    let reached = its.reached in
    let q = r n name outputs m reached within in (
      q,
      subst (λ o. choices.IsPart q (with_outputs name outputs n) o) (sym its.is) (is_part n name outputs m reached within),
      λ x k. subst (λ (o : FlatNode). variable_type o.variables (q.number x) ≡ variable_type n.variables x) (sym its.is)
          (ap (variable_type (marked m.variables n.variables)) (number_is m.variables x (marked_within m.variables x k)) ∙ marked_type m.variables n.variables x k reached.as_many),
    )
