-- The commands of an equation have form in a machine that declares what the equation names.
use Rattle.std.proofs.Common.{◌≡◌, ℕ, zero, suc, ◌+◌, List, [], ◌∷◌, map, Option, Some, is_some, refl, sym, ap, subst, ◌∙◌}
use Rattle.std.specs.Prelude.{option_and_then}
use Rattle.std.specs.List.{AllByRecursion, IsDistinct, flat_map}
use Rattle.std.specs.Str.{bytes_eq}
use Rattle.hp_base.specs.Kinds.{KindData, Bools}
use Rattle.hp_base.specs.declared.value.Value.{Value}
use Rattle.hp_obc.specs.declared.command.Arg.{Arg}
use Rattle.hp_obc.specs.declared.command.Arg.TheVariants.{Name as NameArg, Const as ConstArg}
use Rattle.hp_obc.specs.declared.command.ObcOp.{ObcOp}
use Rattle.hp_obc.specs.declared.command.ObcOp.TheVariants.{Copy}
use Rattle.hp_obc.specs.Commands.{Cmds, Cmd, done, set, call, restart as reset, case_of, cmds_of}
use Rattle.hp_obc.specs.Machines.{ObcType, Machine}
use Rattle.hp_obc.specs.Form.{TypesForm, scope, written, kind_in, argument_kind, argument_kinds, name_kinds, with_first, result_kind, arms_for, arm_count, machine_named, machine_of, BothAre, HaveForm, HasForm, ArmsHaveForm}
use Rattle.hp_flat.specs.declared.equation.Atom.{Atom}
use Rattle.hp_flat.specs.declared.equation.Atom.TheVariants.{Variable as Named, Value as Fixed}
use Rattle.hp_flat.specs.declared.node.FlatTy.{FlatTy}
use Rattle.hp_flat.specs.declared.node.FlatTy.TheVariants.{Bool as FlatBool, Int as FlatInt, Enum as FlatEnum}
use Rattle.hp_flat.specs.declared.node.Variable.{Variable}
use Rattle.hp_flat.specs.Equations.{Clock, Right, operator, register, called, FlatEqn}
use Rattle.law_equations.specs.Meaning.Fitting.{atom_variables, operands}
use Rattle.law_equations.specs.Meaning.Scheduling.{clock_variables}
use Rattle.law_equations.specs.Meaning.Kinding.{kind_of_type, variable_kind, IsTyped, HasArm, Callees, AtomHasKind, HaveKinds, RightHasKinds, EqnKinds}
use Rattle.hp_toobc.specs.Tables.{name_of, variable_type, width_of, constant, argument}
use Rattle.hp_toobc.specs.Making.{arms_with, memory_name, instance_name, under, where_true, set_first, placed, place, stored, store, places, stores}
use Rattle.law_equations.proofs.FewerLemmas.KindedForms.{typed_kind, first_kind}
use Rattle.law_equations.proofs.FewerLemmas.SubstituteLaws.{each_first, each_second}
use Rattle.law_equations.specs.Shaped.Shaped.{IsCallable, CallIsKnown}
use Rattle.law_equations.proofs.ShapedLemmas.Elements.{all-append}
use Rattle.law_equations.proofs.ShapedLemmas.TypeLaws.{constant-kind}

pub both-are : {A : Type 0} (a b : Option A) (k : A) → a ≡ Some k → b ≡ Some k → BothAre a b
both-are a b k p q = (ap is_some p, p ∙ sym q)

count_arms : (w c : ℕ) (cs : Cmds) → arm_count (arms_with w c cs) ≡ w
count_arms zero c cs = refl
count_arms (suc w) zero cs = ap suc (count_arms w zero done)
count_arms (suc w) (suc c) cs = ap suc (count_arms w c cs)

arm_width : (types : List ObcType) (ty : FlatTy) (c : ℕ) → HasArm (kind_of_type types ty) c → arms_for (kind_of_type types ty) ≡ Some (width_of types ty)
arm_width types FlatBool c h = refl
arm_width types FlatInt c h = absurd h
arm_width types (FlatEnum t) c h = refl

module _ (types : List ObcType) (form : TypesForm types) (callees : Callees) (variables : List Variable) (earlier : List Machine) (m : Machine) where
  abbrev kind : ℕ → KindData
  kind x = variable_kind types variables x

  -- what the machine lets be read, and written
  abbrev pub Readable : ℕ → Type 0
  Readable x = kind_in types (scope m) (name_of variables x) ≡ Some (variable_kind types variables x)

  abbrev pub Writable : ℕ → Type 0
  Writable x = kind_in types (written m) (name_of variables x) ≡ Some (variable_kind types variables x)

  abbrev pub AllForm : List Cmd → Type 0
  AllForm cs = AllByRecursion (HasForm types earlier m) cs

  pub have-form : (cs : List Cmd) → AllForm cs → HaveForm types earlier m (cmds_of cs)
  have-form [] h = tt
  have-form (c ∷ cs) h = (h.0, have-form cs h.1)

  -- ---- cases

  arms_form : (w c : ℕ) (cs : Cmds) → HaveForm types earlier m cs → ArmsHaveForm types earlier m (arms_with w c cs)
  arms_form zero c cs h = tt
  arms_form (suc w) zero cs h = (h, arms_form w zero done tt)
  arms_form (suc w) (suc c) cs h = (tt, arms_form w c cs h)

  case_form : (x c : ℕ) (cs : Cmds) → HasArm (kind x) c → Readable x → HaveForm types earlier m cs
      → HasForm types earlier m (case_of (name_of variables x) (arms_with (width_of types (variable_type variables x)) c cs))
  case_form x c cs arm r h = (
    ap (option_and_then arms_for) r ∙ arm_width types (variable_type variables x) c arm ∙ ap Some (sym (count_arms (width_of types (variable_type variables x)) c cs)),
    arms_form (width_of types (variable_type variables x)) c cs h,
  )

  under_form : (clock : Clock) (cs : List Cmd) → AllByRecursion (λ (on : ℕ × ℕ). HasArm (kind on.0) on.1) clock → AllByRecursion Readable (clock_variables clock) → AllForm cs → AllForm (under types variables clock cs)
  under_form [] cs arms r h = h
  under_form (on ∷ clock) cs arms r h = (case_form on.0 on.1 (cmds_of (under types variables clock cs)) arms.0 r.0 (have-form (under types variables clock cs) (under_form clock cs arms.1 r.1 h)), tt)

  where_form : (xs : List ℕ) (c : Cmd) → AllByRecursion (λ x. kind x ≡ Bools) xs → AllByRecursion Readable xs → HasForm types earlier m c → AllForm (where_true types variables xs c)
  where_form [] c k r h = tt
  where_form (x ∷ xs) c k r h = ((ap (option_and_then arms_for) (r.0 ∙ ap Some k.0), (tt, ((h, tt), tt))), where_form xs c k.1 r.1 h)

  -- ---- kinds of arguments and targets

  argument_is : (a : Atom) (k : KindData) → AtomHasKind types callees variables a k → AllByRecursion Readable (atom_variables a) → argument_kind types (scope m) (argument types variables a) ≡ Some k
  argument_is (Named x) k h r = r.0 ∙ ap Some h
  argument_is (Fixed v) k h r = constant-kind types form k v h.0 h.1

  arguments_are : (args : List Atom) (ks : List KindData) → HaveKinds types callees variables args ks → AllByRecursion Readable (flat_map atom_variables args)
      → argument_kinds types (scope m) (map (argument types variables) args) ≡ Some ks
  arguments_are [] [] h r = refl
  arguments_are [] (k ∷ ks) h r = absurd h
  arguments_are (a ∷ args) [] h r = absurd h
  arguments_are (a ∷ args) (k ∷ ks) h r =
      let first = argument_is a k h.0 (each_first Readable (atom_variables a) (flat_map atom_variables args) r) in
      let rest = arguments_are args ks h.1 (each_second Readable (atom_variables a) (flat_map atom_variables args) r) in
      λ i. with_first (first i) (rest i)

  targets_are : (xs : List ℕ) → AllByRecursion Writable xs → name_kinds types (written m) (map (name_of variables) xs) ≡ Some (map kind xs)
  targets_are [] h = refl
  targets_are (x ∷ xs) h = let rest = targets_are xs h.1 in λ i. with_first (h.0 i) (rest i)

  -- ---- commands

  -- a name of a kind is given the value of an operator that gives this kind
  set_form : (x : List ℕ) (op : ObcOp) (args : List Arg) (js : List KindData) (k : KindData) → kind_in types (written m) x ≡ Some k → argument_kinds types (scope m) args ≡ Some js → result_kind op js ≡ Some k
      → HasForm types earlier m (set x op args)
  set_form x op args js k p q r =
      both-are (kind_in types (written m) x) (option_and_then (result_kind op) (argument_kinds types (scope m) args)) k p (ap (option_and_then (result_kind op)) q ∙ r)

  one_form : (targets : List ℕ) (op : ObcOp) (args : List Arg) (js : List KindData) (k : KindData) → AllByRecursion Writable targets → map kind targets ≡ k ∷ [] → argument_kinds types (scope m) args ≡ Some js
      → result_kind op js ≡ Some k → AllForm (set_first types variables targets op args)
  one_form [] op args js k w e q r = tt
  one_form (x ∷ targets) op args js k w e q r = (set_form (name_of variables x) op args js k (w.0 ∙ ap Some (first_kind (kind x) k (map kind targets) [] e)) q r, tt)

  -- what the machine knows of the memory or the instance of an equation
  abbrev pub LabelKnown : ℕ → List ℕ → Right → Type 0
  LabelKnown i targets (operator op args) = Unit {0}
  LabelKnown i targets (register first next) =
      (k : KindData) → map (variable_kind types variables) targets ≡ k ∷ []
      → (kind_in types (written m) (memory_name variables targets i) ≡ Some k) × (kind_in types (scope m) (memory_name variables targets i) ≡ Some k)
  LabelKnown i targets (called f args) = machine_of earlier m.insts (instance_name f i) ≡ machine_named earlier f

  -- the kind of a register is that of a type
  register_typed : (targets : List ℕ) (k : KindData) → map kind targets ≡ k ∷ [] → IsTyped types k
  register_typed [] k e = absurd (cc)
  register_typed (x ∷ targets) k e = subst (IsTyped types) (first_kind (kind x) k (map kind targets) [] e) (typed_kind types (variable_type variables x))

  -- what is asked of an equation at a place
  pub record IsNamed (i : ℕ) (e : FlatEqn) : Type 0 where
    pub kinds : EqnKinds types callees variables e
    pub targets : AllByRecursion Writable e.targets
    pub clock : AllByRecursion Readable (clock_variables e.clock)
    pub operands_read : AllByRecursion Readable (operands e.right)
    pub restart : AllByRecursion Readable e.restart
    pub once : IsDistinct bytes_eq (map (name_of variables) e.targets)
    pub callee : CallIsKnown types callees earlier e.right
    pub label : LabelKnown i e.targets e.right

  module _ (i : ℕ) (targets : List ℕ) (clock : Clock) (again : List ℕ) (arms : AllByRecursion (λ (on : ℕ × ℕ). HasArm (kind on.0) on.1) clock) (flags : AllByRecursion (λ x. kind x ≡ Bools) again)
      (w : AllByRecursion Writable targets) (on_clock : AllByRecursion Readable (clock_variables clock)) (anew : AllByRecursion Readable again) where
    register_form : (first : Value) (next : Atom) → RightHasKinds types callees variables (register first next) (map kind targets) → LabelKnown i targets (register first next)
        → AllForm (placed types variables i targets clock again (register first next))
    register_form first next h label =
        let k : KindData = h.0 in
        let known = label k h.3 in
        let memory : List ℕ = memory_name variables targets i in
        let begins : argument_kinds types (scope m) (ConstArg (constant types first) ∷ []) ≡ Some (k ∷ []) =
        ap (λ o. with_first o (Some [])) (constant-kind types form k first h.1 (register_typed targets k h.3)) in
        let kept : argument_kinds types (scope m) (NameArg memory ∷ []) ≡ Some (k ∷ []) = ap (λ o. with_first o (Some [])) known.1 in
        all-append (HasForm types earlier m) (where_true types variables again (set memory Copy (ConstArg (constant types first) ∷ [])))
        (under types variables clock (set_first types variables targets Copy (NameArg memory ∷ [])))
        (where_form again (set memory Copy (ConstArg (constant types first) ∷ [])) flags anew (set_form memory Copy (ConstArg (constant types first) ∷ []) (k ∷ []) k known.0 begins refl))
        (under_form clock (set_first types variables targets Copy (NameArg memory ∷ [])) arms on_clock (one_form targets Copy (NameArg memory ∷ []) (k ∷ []) k w h.3 kept refl))

    call_form : (f : List ℕ) (args : List Atom) → RightHasKinds types callees variables (called f args) (map kind targets) → AllByRecursion Readable (flat_map atom_variables args)
        → IsDistinct bytes_eq (map (name_of variables) targets) → IsCallable types callees earlier f → LabelKnown i targets (called f args) → AllForm (placed types variables i targets clock again (called f args))
    call_form f args h r once known label =
        let inst : List ℕ = instance_name f i in
        let found : machine_of earlier m.insts inst ≡ Some known.machine = label ∙ known.known in
        let one : HasForm types earlier m (call inst (map (name_of variables) targets) (map (argument types variables) args)) = (
          known.machine,
          found,
          record {
            arguments = both-are (argument_kinds types (scope m) (map (argument types variables) args)) _ (callees.takes f) (arguments_are args (callees.takes f) h.0 r) known.takes;
            outputs = both-are (name_kinds types (written m) (map (name_of variables) targets)) _ (callees.gives f) (targets_are targets w ∙ ap Some h.1) known.gives;
            once = once;
          },
        ) in
        all-append (HasForm types earlier m) (where_true types variables again (reset inst)) (under types variables clock (call inst (map (name_of variables) targets) (map (argument types variables) args) ∷ []))
        (where_form again (reset inst) flags anew (ap is_some found))
        (under_form clock (call inst (map (name_of variables) targets) (map (argument types variables) args) ∷ []) arms on_clock (one, tt))

    placed_form : (right : Right) → RightHasKinds types callees variables right (map kind targets) → AllByRecursion Readable (operands right) → IsDistinct bytes_eq (map (name_of variables) targets)
        → CallIsKnown types callees earlier right → LabelKnown i targets right → AllForm (placed types variables i targets clock again right)
    placed_form (operator op args) h r once known label =
        under_form clock (set_first types variables targets op (map (argument types variables) args)) arms on_clock
        (one_form targets op (map (argument types variables) args) h.0 h.2 w h.4 (arguments_are args h.0 h.1 r) h.3)
    placed_form (register first next) h r once known label = register_form first next h label
    placed_form (called f args) h r once known label = call_form f args h r once known label

    stored_form : (right : Right) → RightHasKinds types callees variables right (map kind targets) → AllByRecursion Readable (operands right) → LabelKnown i targets right → AllForm (stored types variables i targets clock right)
    stored_form (operator op args) h r label = tt
    stored_form (register first next) h r label =
        let memory : List ℕ = memory_name variables targets i in
        let given : argument_kinds types (scope m) (argument types variables next ∷ []) ≡ Some (h.0 ∷ []) = ap (λ o. with_first o (Some [])) (argument_is next h.0 h.2 r) in
        under_form clock (set memory Copy (argument types variables next ∷ []) ∷ []) arms on_clock (set_form memory Copy (argument types variables next ∷ []) (h.0 ∷ []) h.0 (label h.0 h.3).0 given refl, tt)
    stored_form (called f args) h r label = tt

  -- ---- all equations

  abbrev pub AllNamed : ℕ → List FlatEqn → Type 0
  AllNamed i [] = Unit {0}
  AllNamed i (e ∷ es) = IsNamed i e × AllNamed (i + 1) es

  pub places-form : (i : ℕ) (es : List FlatEqn) → AllNamed i es → AllForm (places types variables i es)
  places-form i [] h = tt
  places-form i (e ∷ es) h =
      all-append (HasForm types earlier m) (place types variables i e) (places types variables (i + 1) es)
      (placed_form i e.targets e.clock e.restart h.0.kinds.clock h.0.kinds.restart h.0.targets h.0.clock h.0.restart e.right h.0.kinds.right h.0.operands_read h.0.once h.0.callee h.0.label)
      (places-form (i + 1) es h.1)

  pub stores-form : (i : ℕ) (es : List FlatEqn) → AllNamed i es → AllForm (stores types variables i es)
  stores-form i [] h = tt
  stores-form i (e ∷ es) h =
      all-append (HasForm types earlier m) (store types variables i e) (stores types variables (i + 1) es)
      (stored_form i e.targets e.clock e.restart h.0.kinds.clock h.0.kinds.restart h.0.targets h.0.clock h.0.restart e.right h.0.kinds.right h.0.operands_read h.0.label)
      (stores-form (i + 1) es h.1)
