-- What is asked of nodes is kept where what is copied is read in place of copies.
use Rattle.std.proofs.Common.{◌≡◌, ◌≤◌, ◌<◌, ℕ, nat_eq, Bool, true, false, not, if◌then◌else◌, map, List, [], ◌∷◌, length, Option, Some, None, inl, inr, refl, sym, subst, ◌∙◌}
use Rattle.std.specs.List.{AllByRecursion, flat_map}
use Rattle.std.proofs.lemmas.Bool.{eqb-true}
use Rattle.hp_obc.specs.declared.command.ObcOp.TheVariants.{Copy}
use Rattle.hp_obc.specs.Machines.{ObcType}
use Rattle.hp_flat.specs.declared.equation.Atom.{Atom}
use Rattle.hp_flat.specs.declared.equation.Atom.TheVariants.{Variable as Named, Value as Fixed}
use Rattle.hp_flat.specs.declared.node.FlatTy.{FlatTy}
use Rattle.hp_flat.specs.Equations.{Clock, Right, operator, register, called, FlatEqn}
use Rattle.hp_flat.specs.Nodes.{FlatNode}
use Rattle.law_equations.specs.Meaning.Fitting.{atom_variables, operands}
use Rattle.law_equations.specs.Meaning.Scheduling.{clock_variables, AreBelow, EqnWithin, IsWithin, DefinesNoInput}
use Rattle.hp_normal.specs.Reading.{only, copied, both, copy_of}
use Rattle.hp_normal.specs.Retargeting.{put}
use Rattle.hp_normal.specs.Substituting.{Meanings, read, may_stand, standing, meanings, is_replaced, variable_or, read_clock, read_right, read_eqn, substituted}
use Rattle.hp_toobc.specs.Tables.{variable_type, width_of}
use Rattle.hp_toobc.specs.Stepping.{AreWide}
use Rattle.law_equations.specs.Followed.Premises.{constants_in, constants_of, IsTold, EqnForm}
use Rattle.law_equations.specs.Followed.Programs.{CallsAmong, CallsOnly}
use Rattle.law_equations.specs.Fewer.Compiling.{CopyAgrees, CopiesAgree}
use Rattle.law_equations.proofs.FewerLemmas.Members.{Among, each_among, all_kept}
use Rattle.law_equations.proofs.FewerLemmas.CopyFacts.{copy-right}
use Rattle.law_equations.proofs.FewerLemmas.SubstituteLaws.{each_append, each_first, each_second}

module _ (n : FlatNode) where
  -- what holds of each variable and itself, and goes over copies, holds of what it stands for
  module _ (Q : ℕ → Atom → Type 0) (step : (e : FlatEqn) → Among e n.eqns → (x : ℕ) (a : Atom) → copy_of e ≡ Some (x, a) → (t : Meanings) → ((z : ℕ) → Q z (t z)) → Q x (read t a)) where
    put_by : (d : Bool) (x z : ℕ) (a : Atom) (t : Meanings) → nat_eq x z ≡ d → Q x a → ((v : ℕ) → Q v (t v)) → Q z (if d then a else t z)
    put_by true x z a t q h all = subst (λ v. Q v a) (eqb-true x z q) h
    put_by false x z a t q h all = all z

    may_by : (d : Bool) (x z : ℕ) (a : Atom) (t : Meanings) → Q x a → ((v : ℕ) → Q v (t v)) → Q z ((if d then put x a t else t) z)
    may_by true x z a t h all = put_by (nat_eq x z) x z a t refl h all
    may_by false x z a t h all = all z

    standing_by : (e : FlatEqn) → Among e n.eqns → (c : Option (ℕ × Atom)) → copy_of e ≡ c → (t : Meanings) → ((v : ℕ) → Q v (t v)) → (z : ℕ) → Q z (standing n c t z)
    standing_by e a None q t all z = all z
    standing_by e a (Some (x, b)) q t all z = may_by (may_stand n x (read t b)) x z (read t b) t (step e a x b q t all) all

    pub meanings-keep : (es : List FlatEqn) → ((e : FlatEqn) → Among e es → Among e n.eqns) → (t : Meanings) → ((z : ℕ) → Q z (t z)) → (z : ℕ) → Q z (meanings n es t z)
    meanings-keep [] sub t all z = all z
    meanings-keep (e ∷ es) sub t all z = meanings-keep es (λ d b. sub d (inr b)) (standing n (copy_of e) t) (λ v. standing_by e (sub e (inl refl)) (copy_of e) refl t all v) z

  abbrev s : Meanings
  s = meanings n n.eqns (λ x. Named x)

  abbrev keep_operands : FlatEqn → Bool
  keep_operands e = not (is_replaced s e)

  -- ---- numbers

  abbrev IsBelow : ℕ → Atom → Type 0
  IsBelow z (Named y) = z < length n.variables → y < length n.variables
  IsBelow z (Fixed v) = Unit {0}

  below_from : (x y : ℕ) (a : Atom) → y < length n.variables → IsBelow y a → IsBelow x a
  below_from x y (Named w) lt h = λ k. h lt
  below_from x y (Fixed v) lt h = tt

  below_step : IsWithin n → (e : FlatEqn) → Among e n.eqns → (x : ℕ) (a : Atom) → copy_of e ≡ Some (x, a) → (t : Meanings) → ((z : ℕ) → IsBelow z (t z)) → IsBelow x (read t a)
  below_step h e am x (Fixed v) q t all = tt
  below_step h e am x (Named y) q t all =
      let w : EqnWithin (length n.variables) e = each_among (EqnWithin (length n.variables)) n.eqns e h.eqns am in
      below_from x y (t y) ((subst (λ (right : Right). AreBelow (length n.variables) (operands right)) (copy-right e x (Named y) q) w.operands).0) (all y)

  s-below : IsWithin n → (z : ℕ) → IsBelow z (s z)
  s-below h z = meanings-keep IsBelow (below_step h) n.eqns (λ e a. a) (λ x. Named x) (λ v k. k) z

  variable_below : (z : ℕ) (a : Atom) → IsBelow z a → z < length n.variables → variable_or z a < length n.variables
  variable_below z (Named y) h lt = h lt
  variable_below z (Fixed v) h lt = lt

  clock_below : IsWithin n → (clock : Clock) → AreBelow (length n.variables) (clock_variables clock) → AreBelow (length n.variables) (clock_variables (read_clock s clock))
  clock_below h [] q = tt
  clock_below h (on ∷ clock) q = (variable_below on.0 (s on.0) (s-below h on.0) q.0, clock_below h clock q.1)

  meaning_below : (z : ℕ) (a : Atom) → IsBelow z a → z < length n.variables → AreBelow (length n.variables) (atom_variables a)
  meaning_below z (Named y) h lt = (h lt, tt)
  meaning_below z (Fixed v) h lt = tt

  atom_below : IsWithin n → (a : Atom) → AreBelow (length n.variables) (atom_variables a) → AreBelow (length n.variables) (atom_variables (read s a))
  atom_below h (Named z) q = meaning_below z (s z) (s-below h z) q.0
  atom_below h (Fixed v) q = tt

  atoms_below : IsWithin n → (args : List Atom) → AreBelow (length n.variables) (flat_map atom_variables args) → AreBelow (length n.variables) (flat_map atom_variables (map (read s) args))
  atoms_below h [] q = tt
  atoms_below h (a ∷ args) q =
      each_append (λ x. x < length n.variables) (atom_variables (read s a)) (flat_map atom_variables (map (read s) args))
      (atom_below h a (each_first (λ x. x < length n.variables) (atom_variables a) (flat_map atom_variables args) q))
      (atoms_below h args (each_second (λ x. x < length n.variables) (atom_variables a) (flat_map atom_variables args) q))

  right_below : IsWithin n → (right : Right) → AreBelow (length n.variables) (operands right) → AreBelow (length n.variables) (operands (read_right s right))
  right_below h (operator op args) q = atoms_below h args q
  right_below h (register first next) q = atom_below h next q
  right_below h (called f args) q = atoms_below h args q

  pub substituted-within : IsWithin n → IsWithin (substituted n)
  substituted-within h = record {
    inputs = h.inputs;
    outputs = h.outputs;
    eqns =
        all_kept (read_eqn s) keep_operands (EqnWithin (length n.variables)) n.eqns
        (λ e a k.
        let q : EqnWithin (length n.variables) e = each_among (EqnWithin (length n.variables)) n.eqns e h.eqns a in
        record { targets = q.targets; clock = clock_below h e.clock q.clock; operands = right_below h e.right q.operands; restart = q.restart });
  }

  pub substituted-no_inputs : DefinesNoInput n → DefinesNoInput (substituted n)
  substituted-no_inputs h =
      all_kept (read_eqn s) keep_operands (λ (e : FlatEqn). AllByRecursion (λ x. n.inputs ≤ x) e.targets) n.eqns (λ e a k. each_among (λ (d : FlatEqn). AllByRecursion (λ x. n.inputs ≤ x) d.targets) n.eqns e h a)

  -- ---- types

  abbrev pub its_type : ℕ → FlatTy
  its_type x = variable_type n.variables x

  abbrev pub OfOneType : ℕ → Atom → Type 0
  OfOneType z (Named y) = its_type y ≡ its_type z
  OfOneType z (Fixed v) = Unit {0}

  type_from : (x y : ℕ) (a : Atom) → its_type x ≡ its_type y → OfOneType y a → OfOneType x a
  type_from x y (Named w) same h = h ∙ sym same
  type_from x y (Fixed v) same h = tt

  type_step : CopiesAgree n.variables n.eqns → (e : FlatEqn) → Among e n.eqns → (x : ℕ) (a : Atom) → copy_of e ≡ Some (x, a) → (t : Meanings) → ((z : ℕ) → OfOneType z (t z)) → OfOneType x (read t a)
  type_step h e am x (Fixed v) q t all = tt
  type_step h e am x (Named y) q t all = type_from x y (t y) (subst (CopyAgrees n.variables) q (each_among (λ (d : FlatEqn). CopyAgrees n.variables (copy_of d)) n.eqns e h am)) (all y)

  pub s-type : CopiesAgree n.variables n.eqns → (z : ℕ) → OfOneType z (s z)
  s-type h z = meanings-keep OfOneType (type_step h) n.eqns (λ e a. a) (λ x. Named x) (λ v. refl) z

  pub variable_typed : (z : ℕ) (a : Atom) → OfOneType z a → its_type (variable_or z a) ≡ its_type z
  variable_typed z (Named y) h = h
  variable_typed z (Fixed v) h = refl

  clock_wide : (types : List ObcType) → CopiesAgree n.variables n.eqns → (clock : Clock) → AreWide types n.variables clock → AreWide types n.variables (read_clock s clock)
  clock_wide types h [] q = tt
  clock_wide types h (on ∷ clock) q = (subst (λ ty. on.1 < width_of types ty) (sym (variable_typed on.0 (s on.0) (s-type h on.0))) q.0, clock_wide types h clock q.1)

  agree_read : CopiesAgree n.variables n.eqns → (x : ℕ) (a : Atom) → CopyAgrees n.variables (Some (x, a)) → CopyAgrees n.variables (Some (x, read s a))
  agree_read all x (Fixed v) h = tt
  agree_read all x (Named y) h = read_by (s y) (s-type all y)
    where
      read_by : (b : Atom) → OfOneType y b → CopyAgrees n.variables (Some (x, b))
      read_by (Named w) q = h ∙ sym q
      read_by (Fixed v) q = tt

  agree_one : CopiesAgree n.variables n.eqns → (o : Option ℕ) (a : Atom) → CopyAgrees n.variables (both o (Some a)) → CopyAgrees n.variables (both o (Some (read s a)))
  agree_one all None a h = tt
  agree_one all (Some x) a h = agree_read all x a h

  agree_by : CopiesAgree n.variables n.eqns → (o : Option ℕ) (right : Right) → CopyAgrees n.variables (both o (copied right)) → CopyAgrees n.variables (both o (copied (read_right s right)))
  agree_by all o (operator Copy []) h = h
  agree_by all o (operator Copy (a ∷ [])) h = agree_one all o a h
  agree_by all o (operator Copy (a ∷ b ∷ args)) h = h
  agree_by all o (operator op args) h = h
  agree_by all o (register first next) h = h
  agree_by all o (called f args) h = h

  pub substituted-copies : CopiesAgree n.variables n.eqns → CopiesAgree n.variables (substituted n).eqns
  substituted-copies h =
      all_kept (read_eqn s) keep_operands (λ (e : FlatEqn). CopyAgrees n.variables (copy_of e)) n.eqns
      (λ e a k. agree_by h (only e.targets) e.right (each_among (λ (d : FlatEqn). CopyAgrees n.variables (copy_of d)) n.eqns e h a))

  -- ---- constants

  module _ (types : List ObcType) (forms : AllByRecursion (EqnForm types n.variables) n.eqns) where
    abbrev Told : ℕ → Atom → Type 0
    Told z (Named y) = Unit {0}
    Told z (Fixed v) = IsTold types v

    told_from : (x y : ℕ) (a : Atom) → Told y a → Told x a
    told_from x y (Named w) h = tt
    told_from x y (Fixed v) h = h

    told_step : (e : FlatEqn) → Among e n.eqns → (x : ℕ) (a : Atom) → copy_of e ≡ Some (x, a) → (t : Meanings) → ((z : ℕ) → Told z (t z)) → Told x (read t a)
    told_step e am x (Named y) q t all = told_from x y (t y) (all y)
    told_step e am x (Fixed v) q t all =
        (subst (λ (right : Right). AllByRecursion (IsTold types) (constants_of right)) (copy-right e x (Fixed v) q) (each_among (EqnForm types n.variables) n.eqns e forms am).constants).0

    s-told : (z : ℕ) → Told z (s z)
    s-told z = meanings-keep Told told_step n.eqns (λ e a. a) (λ x. Named x) (λ v. tt) z

    meaning_told : (z : ℕ) (a : Atom) (args : List Atom) → Told z a → AllByRecursion (IsTold types) (constants_in args) → AllByRecursion (IsTold types) (constants_in (a ∷ args))
    meaning_told z (Named y) args h q = q
    meaning_told z (Fixed v) args h q = (h, q)

    args_told : (args : List Atom) → AllByRecursion (IsTold types) (constants_in args) → AllByRecursion (IsTold types) (constants_in (map (read s) args))
    args_told [] q = tt
    args_told (Named z ∷ args) q = meaning_told z (s z) (map (read s) args) (s-told z) (args_told args q)
    args_told (Fixed v ∷ args) q = (q.0, args_told args q.1)

    right_told : (right : Right) → AllByRecursion (IsTold types) (constants_of right) → AllByRecursion (IsTold types) (constants_of (read_right s right))
    right_told (operator op args) q = args_told args q
    right_told (register first next) q = (q.0, args_told (next ∷ []) q.1)
    right_told (called f args) q = args_told args q

    pub substituted-forms : CopiesAgree n.variables n.eqns → AllByRecursion (EqnForm types n.variables) (substituted n).eqns
    substituted-forms h =
        all_kept (read_eqn s) keep_operands (EqnForm types n.variables) n.eqns
        (λ e a k.
        let q : EqnForm types n.variables e = each_among (EqnForm types n.variables) n.eqns e forms a in
        record { clock = clock_wide types h e.clock q.clock; constants = right_told e.right q.constants })

  -- ---- calls

  calls_read : (names : List (List ℕ)) (right : Right) → CallsAmong names right → CallsAmong names (read_right s right)
  calls_read names (operator op args) h = tt
  calls_read names (register first next) h = tt
  calls_read names (called f args) h = h

  pub substituted-calls : (names : List (List ℕ)) → CallsOnly names n.eqns → CallsOnly names (substituted n).eqns
  substituted-calls names h =
      all_kept (read_eqn s) keep_operands (λ (e : FlatEqn). CallsAmong names e.right) n.eqns (λ e a k. calls_read names e.right (each_among (λ (d : FlatEqn). CallsAmong names d.right) n.eqns e h a))
