-- Reactions remain where what is copied is read in place of copies, and these go.
use Rattle.std.proofs.Common.{◌≡◌, ◌≤◌, ◌<◌, ℕ, nat_eq, Bool, true, false, ◌||◌, ◌&&◌, not, if◌then◌else◌, map, List, [], ◌∷◌, ◌++◌, Option, Some, None, inl, inr, refl, sym, ap, subst, ◌∙◌, arith}
use Rattle.std.specs.List.{AllByRecursion, filter, flat_map}
use Rattle.std.proofs.lemmas.Bool.{eqb-true, eq-eqb}
use Rattle.hp_base.specs.Kinds.{KindData}
use Rattle.hp_base.specs.declared.value.Value.{Value}
use Rattle.hp_base.specs.declared.value.Value.TheVariants.{Absent}
use Rattle.hp_obc.specs.declared.command.ObcOp.TheVariants.{Copy}
use Rattle.hp_obc.specs.Steps.{Names}
use Rattle.hp_flat.specs.declared.equation.Atom.{Atom}
use Rattle.hp_flat.specs.declared.equation.Atom.TheVariants.{Variable, Value as Fixed}
use Rattle.hp_flat.specs.Equations.{Clock, Right, operator, register, called, FlatEqn}
use Rattle.hp_flat.specs.Nodes.{FlatNode}
use Rattle.law_equations.specs.Meaning.Instants.{Instant, has_constructor, holds, atom, atoms}
use Rattle.law_equations.specs.Meaning.Reactions.{Answers, has, is_set, inputs_of, Holds, Continues, Reaction}
use Rattle.law_equations.specs.Meaning.Fitting.{is_there, IsThere, is_choice, is_flag, ClockFits, atom_variables, operands, EqnFits, Fits}
use Rattle.law_equations.specs.Meaning.Scheduling.{clock_variables, DefinesNoInput}
use Rattle.hp_normal.specs.Reading.{count, only, copied, both, copy_of, fixed, sampled}
use Rattle.hp_normal.specs.Retargeting.{put}
use Rattle.hp_normal.specs.Substituting.{Meanings, read, is_variable, may_stand, standing, meanings, is_itself, stands_for, is_replaced, variable_or, read_clock, read_right, read_eqn, substituted}
use Rattle.hp_normal.specs.Following.{MeaningsAre, AreBehind}
use Rattle.hp_normal.proofs.MeaningsLaws.{meanings_law}
use Rattle.hp_normal.proofs.CopyLaws.{copy-target, copy-defines, copies-behind, left-more, right-more}
use Rattle.law_equations.specs.Fewer.Keeping.{Remains}
use Rattle.law_equations.proofs.FewerLemmas.Members.{Among, each_among, each_counted, has-count, among-count, one_of, SetBy, set_by, sets, kept_among}
use Rattle.law_equations.proofs.FewerLemmas.AlikeLaws.{Same, RightAlike, restarted-same, map-same, EqnPassed, Passed, passes-reaction, passes-fits, passes-outputs}
use Rattle.law_equations.proofs.FewerLemmas.CopyFacts.{copy-says, may-once, may-unfixed, may-read, Stood, stands-at}
use Rattle.law_equations.proofs.FewerLemmas.SameReads.{taken-alike, choice-there, not-both}

-- ---- small laws

no_false : (b : Bool) → not b ≡ false → b ≡ true
no_false true h = refl
no_false false h = absurd (cc)

no_true : (b : Bool) → not b ≡ true → b ≡ false
no_true false h = refl
no_true true h = absurd (cc)

or_nothing : (d : Bool) → (d || false) ≡ true → d ≡ true
or_nothing true q = refl
or_nothing false q = absurd (cc)

on_by : (d e q : Bool) → (d ≡ true → q ≡ e) → (d && q) ≡ (d && e)
on_by true e q h = h refl
on_by false e q h = refl

pub each_append : {A : Type 0} (P : A → Type 0) (xs ys : List A) → AllByRecursion P xs → AllByRecursion P ys → AllByRecursion P (xs ++ ys)
each_append P [] ys h g = g
each_append P (x ∷ xs) ys h g = (h.0, each_append P xs ys h.1 g)

pub each_first : {A : Type 0} (P : A → Type 0) (xs ys : List A) → AllByRecursion P (xs ++ ys) → AllByRecursion P xs
each_first P [] ys h = tt
each_first P (x ∷ xs) ys h = (h.0, each_first P xs ys h.1)

pub each_second : {A : Type 0} (P : A → Type 0) (xs ys : List A) → AllByRecursion P (xs ++ ys) → AllByRecursion P ys
each_second P [] ys h = h
each_second P (x ∷ xs) ys h = each_second P xs ys h.1

itself-is : (x : ℕ) (a : Atom) → is_itself x a ≡ true → a ≡ Variable x
itself-is x (Variable y) h = ap (λ z. Variable z) (eqb-true y x h)
itself-is x (Fixed v) h = absurd (cc)

is-itself : (x : ℕ) (a : Atom) → a ≡ Variable x → is_itself x a ≡ true
is-itself x a h = ap (is_itself x) h ∙ eq-eqb x x refl

no_value : (x : ℕ) (v : Value) → ◌≡◌ {A = Atom} (Variable x) (Fixed v) → ⊥
no_value x v h = let no : true ≡ false = ap is_variable h in cc

-- an equation with other operands copies to the same
some_copied : (s : Meanings) (o : Option ℕ) (a b : Atom) → stands_for s (both o (Some a)) ≡ stands_for s (both o (Some b))
some_copied s None a b = refl
some_copied s (Some x) a b = refl

replaced_by : (s : Meanings) (o : Option ℕ) (right : Right) → stands_for s (both o (copied (read_right s right))) ≡ stands_for s (both o (copied right))
replaced_by s o (operator Copy []) = refl
replaced_by s o (operator Copy (a ∷ [])) = some_copied s o (read s a) a
replaced_by s o (operator Copy (a ∷ b ∷ args)) = refl
replaced_by s o (operator op args) = refl
replaced_by s o (register first next) = refl
replaced_by s o (called f args) = refl

-- ---- a node whose copies stand behind what they copy

module _ (n : FlatNode) (behind : AreBehind n.eqns) (no_inputs : DefinesNoInput n) where
  abbrev pub s : Meanings
  s = meanings n n.eqns (λ x. Variable x)

  abbrev pub w : FlatEqn → FlatEqn
  w = read_eqn s

  abbrev pub keep : FlatEqn → Bool
  keep e = not (is_replaced s e)

  -- an instant without the variables that stand for something else
  abbrev pub g : Instant → Instant
  g i z = if is_itself z (s z) then i z else Absent

  meanings_are : MeaningsAre n s
  meanings_are = meanings_law n (copies-behind n.eqns behind)

  kept-is : (e : FlatEqn) → keep (w e) ≡ true → is_replaced s e ≡ false
  kept-is e k = sym (replaced_by s (only e.targets) e.right) ∙ no_true (is_replaced s (w e)) k

  -- outputs, variables of restart lists, inputs and what kept equations define stand for themselves
  itself-fixed : (x : ℕ) → 1 ≤ count x (fixed n) → s x ≡ Variable x
  itself-fixed x h =
      elim (meanings_are.each x) [
        | inl same ↦ same
        | inr stands ↦ (let m : Stood n s x n.eqns = stands-at n s x n.eqns stands in absurd (omega (arith, h, may-unfixed n x (s x) m.may)))
      ]

  itself-input : (x : ℕ) → x < n.inputs → s x ≡ Variable x
  itself-input x lt =
      elim (meanings_are.each x) [
        | inl same ↦ same
        | inr stands ↦ (let m : Stood n s x n.eqns = stands-at n s x n.eqns stands in
            let le : n.inputs ≤ x = (subst (AllByRecursion (λ y. n.inputs ≤ y)) (copy-target m.eqn x m.a m.copy) (each_among (λ (e : FlatEqn). AllByRecursion (λ y. n.inputs ≤ y) e.targets) n.eqns m.eqn no_inputs m.among)).0 in
            absurd (omega (arith, lt, le)))
      ]

  itself-target : (e : FlatEqn) → Among e n.eqns → is_replaced s e ≡ false → (t : ℕ) → 1 ≤ count t e.targets → s t ≡ Variable t
  itself-target e a k t h =
      elim (meanings_are.each t) [
        | inl same ↦ same
        | inr stands ↦ (let m : Stood n s t n.eqns = stands-at n s t n.eqns stands in
            let one : e ≡ m.eqn = one_of (λ (c : FlatEqn). c.targets) t n.eqns (omega (arith, may-once n t (s t) m.may)) e m.eqn a m.among h (copy-defines m.eqn t m.a m.copy) in
            itself-is t (s t) (no_false (is_itself t (s t)) (sym (ap (stands_for s) (ap copy_of one ∙ m.copy)) ∙ k)))
      ]

  -- no variable of a clock stands for a constant
  no_constant : (z : ℕ) (v : Value) → 1 ≤ count z (sampled n) → s z ≡ Fixed v → ⊥
  no_constant z v h q =
      elim (meanings_are.each z) [
        | inl same ↦ no_value z v (sym same ∙ q)
        | inr stands ↦ (let m : Stood n s z n.eqns = stands-at n s z n.eqns stands in
            elim (may-read n z (s z) m.may) [ inl variable ↦ not-both (is_variable (s z)) variable (ap is_variable q) | inr none ↦ absurd (omega (arith, h, none)) ])
      ]

  at-itself : (i : Instant) (z : ℕ) → s z ≡ Variable z → g i z ≡ i z
  at-itself i z h = ap (λ (b : Bool). if b then i z else Absent) (is-itself z (s z) h)

  -- what a variable stands for is read as before
  left_by : (i : Instant) (z : ℕ) (a : Atom) → s z ≡ a → atom (g i) a ≡ atom i a
  left_by i z (Variable y) q = at-itself i y (ap (read s) (sym q) ∙ meanings_are.ended z ∙ q)
  left_by i z (Fixed v) q = refl

  module _ (e : FlatEqn) (a : Among e n.eqns) (i : Instant) where
    restart_same : AllByRecursion (Same i (g i)) e.restart
    restart_same =
        each_counted (Same i (g i)) e.restart
        (λ z c. at-itself i z (itself-fixed z (omega (arith, c, among-count (λ (d : FlatEqn). d.restart) z n.eqns e a, right-more z n.outputs (flat_map (λ (d : FlatEqn). d.restart) n.eqns)))))

    targets_same : is_replaced s e ≡ false → AllByRecursion (Same i (g i)) e.targets
    targets_same k = each_counted (Same i (g i)) e.targets (λ z c. at-itself i z (itself-target e a k z c))

  -- ---- an instant of a reaction

  module _ (answers : Answers) (takes : Names (List KindData)) (past : List Instant) (inputs : List Value) (now : Instant) (c : Continues answers n past inputs now) (f : Fits takes n now) where
    set_there : (d : Bool) (z : ℕ) → is_set n.eqns now z ≡ d → n.inputs ≤ z → is_there (now z) ≡ true → SetBy n.eqns now z
    set_there true z e le t = set_by n.eqns now z e
    set_there false z e le t = absurd (not-both (is_there (now z)) t (ap is_there (c.others z le e)))

    -- a copy that a variable may stand for has the value of what it copies, where it is there
    copied-same : (e : FlatEqn) (x : ℕ) (a b : Atom) → Among e n.eqns → copy_of e ≡ Some (x, a) → may_stand n x b ≡ true → is_there (now x) ≡ true → now x ≡ atom now a
    copied-same e x a b am q may t =
        let le : n.inputs ≤ x = (subst (AllByRecursion (λ y. n.inputs ≤ y)) (copy-target e x a q) (each_among (λ (d : FlatEqn). AllByRecursion (λ y. n.inputs ≤ y) d.targets) n.eqns e no_inputs am)).0 in
        let by : SetBy n.eqns now x = set_there (is_set n.eqns now x) x refl le t in
        let one : by.eqn ≡ e = one_of (λ (d : FlatEqn). d.targets) x n.eqns (omega (arith, may-once n x b may)) by.eqn e by.among am (has-count by.eqn.targets x by.target) (copy-defines e x a q) in
        copy-says answers past now e x a q (each_among (Holds answers past now) n.eqns e c.equations am) (ap (λ (d : FlatEqn). holds d.clock now) (sym one) ∙ by.there)

    -- a variable that is there has the value of what it stands for
    abbrev Means : Meanings → Type 0
    Means t = (z : ℕ) → is_there (now z) ≡ true → atom now (t z) ≡ now z

    means_read : (t : Meanings) → Means t → (a : Atom) → is_there (atom now a) ≡ true → atom now (read t a) ≡ atom now a
    means_read t m (Variable y) h = m y h
    means_read t m (Fixed v) h = refl

    means_put : (d : Bool) (x z : ℕ) (a : Atom) (t : Meanings) → nat_eq x z ≡ d → (is_there (now x) ≡ true → now x ≡ atom now a) → Means t → is_there (now z) ≡ true → atom now (if d then read t a else t z) ≡ now z
    means_put true x z a t q h m there =
        let same : x ≡ z = eqb-true x z q in
        let x_there : is_there (now x) ≡ true = ap (λ v. is_there (now v)) same ∙ there in
        means_read t m a (ap is_there (sym (h x_there)) ∙ x_there) ∙ sym (h x_there) ∙ ap now same
    means_put false x z a t q h m there = m z there

    means_may : (d : Bool) (x z : ℕ) (a : Atom) (t : Meanings) → (d ≡ true → is_there (now x) ≡ true → now x ≡ atom now a) → Means t → is_there (now z) ≡ true
        → atom now ((if d then put x (read t a) t else t) z) ≡ now z
    means_may true x z a t h m there = means_put (nat_eq x z) x z a t refl (h refl) m there
    means_may false x z a t h m there = m z there

    means_copy : (e : FlatEqn) → Among e n.eqns → (k : Option (ℕ × Atom)) → copy_of e ≡ k → (t : Meanings) → Means t → Means (standing n k t)
    means_copy e am None q t m z there = m z there
    means_copy e am (Some (x, a)) q t m z there = means_may (may_stand n x (read t a)) x z a t (λ may. copied-same e x a (read t a) am q may) m there

    all_mean : (es : List FlatEqn) → ((e : FlatEqn) → Among e es → Among e n.eqns) → (t : Meanings) → Means t → Means (meanings n es t)
    all_mean [] sub t m z there = m z there
    all_mean (e ∷ es) sub t m z there = all_mean es (λ d b. sub d (inr b)) (standing n (copy_of e) t) (means_copy e (sub e (inl refl)) (copy_of e) refl t m) z there

    read-same : (z : ℕ) → is_there (now z) ≡ true → atom (g now) (s z) ≡ now z
    read-same z there = left_by now z (s z) refl ∙ all_mean n.eqns (λ e a. a) (λ x. Variable x) (λ x h. refl) z there

    -- ---- right sides

    atom_read : (a : Atom) → AllByRecursion (IsThere now) (atom_variables a) → atom (g now) (read s a) ≡ atom now a
    atom_read (Variable z) h = read-same z h.0
    atom_read (Fixed v) h = refl

    atoms_read : (args : List Atom) → AllByRecursion (IsThere now) (flat_map atom_variables args) → atoms (g now) (map (read s) args) ≡ atoms now args
    atoms_read [] h = refl
    atoms_read (a ∷ args) h = λ i. atom_read a (each_first (IsThere now) (atom_variables a) (flat_map atom_variables args) h) i ∷ atoms_read args (each_second (IsThere now) (atom_variables a) (flat_map atom_variables args) h) i

    right-read : (right : Right) → AllByRecursion (IsThere now) (operands right) → RightAlike now (g now) right (read_right s right)
    right-read (operator op args) h = (refl, atoms_read args h)
    right-read (register first next) h = (refl, atom_read next h)
    right-read (called h args) k = (refl, atoms_read args k)

    there_by : (z : ℕ) (a : Atom) → s z ≡ a → is_there (now z) ≡ true → AllByRecursion (IsThere (g now)) (atom_variables a)
    there_by z (Variable y) q t = (ap is_there (ap (atom (g now)) (sym q) ∙ read-same z t) ∙ t, tt)
    there_by z (Fixed v) q t = tt

    atom_there : (a : Atom) → AllByRecursion (IsThere now) (atom_variables a) → AllByRecursion (IsThere (g now)) (atom_variables (read s a))
    atom_there (Variable z) h = there_by z (s z) refl h.0
    atom_there (Fixed v) h = tt

    atoms_there : (args : List Atom) → AllByRecursion (IsThere now) (flat_map atom_variables args) → AllByRecursion (IsThere (g now)) (flat_map atom_variables (map (read s) args))
    atoms_there [] h = tt
    atoms_there (a ∷ args) h =
        each_append (IsThere (g now)) (atom_variables (read s a)) (flat_map atom_variables (map (read s) args)) (atom_there a (each_first (IsThere now) (atom_variables a) (flat_map atom_variables args) h))
        (atoms_there args (each_second (IsThere now) (atom_variables a) (flat_map atom_variables args) h))

    right_there : (right : Right) → AllByRecursion (IsThere now) (operands right) → AllByRecursion (IsThere (g now)) (operands (read_right s right))
    right_there (operator op args) h = atoms_there args h
    right_there (register first next) h = atom_there next h
    right_there (called h args) k = atoms_there args k

    -- ---- clocks

    clock_value : (z : ℕ) (a : Atom) → s z ≡ a → 1 ≤ count z (sampled n) → is_there (now z) ≡ true → g now (variable_or z a) ≡ now z
    clock_value z (Variable y) q h t = ap (atom (g now)) (sym q) ∙ read-same z t
    clock_value z (Fixed v) q h t = absurd (no_constant z v h q)

    clock_holds : (clock : Clock) → AllByRecursion (λ z. 1 ≤ count z (sampled n)) (clock_variables clock) → ClockFits clock now → holds (read_clock s clock) (g now) ≡ holds clock now
    clock_holds [] h fits = refl
    clock_holds (on ∷ clock) h fits =
        ap (λ v. has_constructor on.1 v && holds (read_clock s clock) (g now)) (clock_value on.0 (s on.0) refl h.0 (choice-there (now on.0) fits.0))
        ∙ on_by (has_constructor on.1 (now on.0)) (holds clock now) (holds (read_clock s clock) (g now)) (λ t. clock_holds clock h.1 (fits.1 t))

    clock_fits : (clock : Clock) → AllByRecursion (λ z. 1 ≤ count z (sampled n)) (clock_variables clock) → ClockFits clock now → ClockFits (read_clock s clock) (g now)
    clock_fits [] h fits = tt
    clock_fits (on ∷ clock) h fits =
        let value : g now (variable_or on.0 (s on.0)) ≡ now on.0 = clock_value on.0 (s on.0) refl h.0 (choice-there (now on.0) fits.0) in
        (ap is_choice value ∙ fits.0, λ t. clock_fits clock h.1 (fits.1 (ap (has_constructor on.1) (sym value) ∙ t)))

    are_sampled : (e : FlatEqn) → Among e n.eqns → AllByRecursion (λ z. 1 ≤ count z (sampled n)) (clock_variables e.clock)
    are_sampled e a = each_counted (λ z. 1 ≤ count z (sampled n)) (clock_variables e.clock) (λ z k. omega (arith, k, among-count (λ (d : FlatEqn). clock_variables d.clock) z n.eqns e a))

    same_there : (xs : List ℕ) → AllByRecursion (Same now (g now)) xs → AllByRecursion (IsThere now) xs → AllByRecursion (IsThere (g now)) xs
    same_there [] q h = tt
    same_there (x ∷ xs) q h = (ap is_there q.0 ∙ h.0, same_there xs q.1 h.1)

    same_flags : (xs : List ℕ) → AllByRecursion (Same now (g now)) xs → AllByRecursion (λ x. is_flag (now x) ≡ true) xs → AllByRecursion (λ x. is_flag (g now x) ≡ true) xs
    same_flags [] q h = tt
    same_flags (x ∷ xs) q h = (ap is_flag q.0 ∙ h.0, same_flags xs q.1 h.1)

    on_same : (e : FlatEqn) → Among e n.eqns → holds (w e).clock (g now) ≡ holds e.clock now
    on_same e a = clock_holds e.clock (are_sampled e a) (each_among (EqnFits takes now) n.eqns e f.eqns a).clock

    eqn_passed : (e : FlatEqn) → Among e n.eqns → keep (w e) ≡ true → EqnPassed takes n w keep g e now
    eqn_passed e a k =
        let fits : EqnFits takes now e = each_among (EqnFits takes now) n.eqns e f.eqns a in
        let on : holds (w e).clock (g now) ≡ holds e.clock now = on_same e a in
        let targets : AllByRecursion (Same now (g now)) e.targets = targets_same e a now (kept-is e k) in
        record {
          alike = record { there = on; anew = restarted-same now (g now) e.restart (restart_same e a now); read = λ t. right-read e.right (fits.operands_there t) };
          targets = λ t. map-same now (g now) e.targets targets;
          fit = record {
            clock = clock_fits e.clock (are_sampled e a) fits.clock;
            restart = same_flags e.restart (restart_same e a now) fits.restart;
            operands_there = λ t. right_there e.right (fits.operands_there (sym on ∙ t));
            targets_there = λ t. same_there e.targets targets (fits.targets_there (sym on ∙ t));
            args_taken = λ t. taken-alike now (g now) takes e.right (read_right s e.right) (right-read e.right (fits.operands_there (sym on ∙ t))) (fits.args_taken (sym on ∙ t));
          };
        }

    -- ---- other variables

    abbrev left : List FlatEqn
    left = filter keep (map w n.eqns)

    kept_when : (x : ℕ) → s x ≡ Variable x → (k : Option (ℕ × Atom)) (e : FlatEqn) → copy_of e ≡ k → has e.targets x ≡ true → not (stands_for s k) ≡ true
    kept_when x q None e h t = refl
    kept_when x q (Some (z, a)) e h t =
        let same : z ≡ x = eqb-true z x (or_nothing (nat_eq z x) (ap (λ xs. has xs x) (sym (copy-target e z a h)) ∙ t)) in
        ap (λ b. not (not b)) (ap (λ v. is_itself v (s v)) same ∙ is-itself x (s x) q)

    still_set : (x : ℕ) → s x ≡ Variable x → is_set n.eqns now x ≡ true → is_set left (g now) x ≡ true
    still_set x q u =
        let by : SetBy n.eqns now x = set_by n.eqns now x u in
        let kept : keep (w by.eqn) ≡ true = ap not (replaced_by s (only by.eqn.targets) by.eqn.right) ∙ kept_when x q (copy_of by.eqn) by.eqn refl by.target in
        sets left (w by.eqn) (g now) x (kept_among w keep n.eqns by.eqn by.among kept) (on_same by.eqn by.among ∙ by.there) by.target

    others_by : (d : Bool) (x : ℕ) → is_itself x (s x) ≡ d → n.inputs ≤ x → is_set left (g now) x ≡ false → (if d then now x else Absent) ≡ Absent
    others_by false x q le u = refl
    others_by true x q le u = unset_or (is_set n.eqns now x) refl
      where
        unset_or : (t : Bool) → is_set n.eqns now x ≡ t → now x ≡ Absent
        unset_or false t = c.others x le t
        unset_or true t = absurd (not-both (is_set left (g now) x) (still_set x (itself-is x (s x) q) t) u)

    inputs_same : (xs : List ℕ) → AllByRecursion (λ x. x < n.inputs) xs → AllByRecursion (Same now (g now)) xs
    inputs_same [] h = tt
    inputs_same (x ∷ xs) h = (at-itself now x (itself-input x h.0), inputs_same xs h.1)

    pub instant-passed : AllByRecursion (λ x. x < n.inputs) (inputs_of n) → Passed takes n w keep g now
    instant-passed below = record {
      eqns = eqn_passed;
      inputs = inputs_same (inputs_of n) below;
      outputs = each_counted (Same now (g now)) n.outputs (λ z k. at-itself now z (itself-fixed z (omega (arith, k, left-more z n.outputs (flat_map (λ (d : FlatEqn). d.restart) n.eqns)))));
      others = λ x le u. others_by (is_itself x (s x)) x refl le u;
    }

  module _ (answers : Answers) (takes : Names (List KindData)) (below : AllByRecursion (λ x. x < n.inputs) (inputs_of n)) where
    all_passed : (inputs : List (List Value)) (instants : List Instant) → AllByRecursion (Fits takes n) instants → Reaction answers n inputs instants → AllByRecursion (Passed takes n w keep g) instants
    all_passed [] [] fits q = tt
    all_passed [] (now ∷ past) fits q = absurd q
    all_passed (inputs ∷ earlier) [] fits q = absurd q
    all_passed (inputs ∷ earlier) (now ∷ past) fits q = (instant-passed answers takes past inputs now q.1 fits.0 below, all_passed earlier past fits.1 q.0)

    pub substituted-remains : (inputs : List (List Value)) (instants : List Instant) → AllByRecursion (Fits takes n) instants → Reaction answers n inputs instants → Remains answers takes n (substituted n) inputs instants
    substituted-remains inputs instants fits q =
        let ps : AllByRecursion (Passed takes n w keep g) instants = all_passed inputs instants fits q in
        record {
          others = map g instants;
          reaction = passes-reaction takes n w keep g answers inputs instants ps q;
          fit = passes-fits takes n w keep g instants ps fits;
          outputs = passes-outputs takes n w keep g instants ps;
        }
