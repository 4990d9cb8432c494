-- What is asked of clocks, constants and copies, where kinds agree.
use Rattle.std.proofs.Common.{◌≡◌, ℕ, ◌<◌, List, [], ◌∷◌, length, map, Option, Some, refl, sym, ap, subst, ◌∙◌}
use Rattle.std.specs.List.{AllByRecursion}
use Rattle.hp_base.specs.Kinds.{KindData, Bools, Ints, Constructors, IsOfKind}
use Rattle.hp_base.specs.declared.value.Value.{Value}
use Rattle.hp_base.specs.declared.value.Value.TheVariants.{B, E, I}
use Rattle.hp_obc.specs.declared.command.ObcOp.TheVariants.{Copy}
use Rattle.hp_obc.specs.Form.{TypesForm, result_kind}
use Rattle.hp_obc.specs.Machines.{ObcType}
use Rattle.hp_flat.specs.declared.equation.Atom.{Atom}
use Rattle.hp_flat.specs.declared.equation.Atom.TheVariants.{Variable as Named, Value as Fixed}
use Rattle.hp_flat.specs.declared.node.FlatTy.{FlatTy}
use Rattle.hp_flat.specs.declared.node.FlatTy.TheVariants.{Bool as FlatBool, Int as FlatInt, Enum as FlatEnum}
use Rattle.hp_flat.specs.declared.node.Variable.{Variable}
use Rattle.hp_flat.specs.Equations.{Clock, Right, operator, register, called, FlatEqn}
use Rattle.law_equations.specs.Meaning.Kinding.{constructors, kind_of_type, variable_kind, IsTyped, HasArm, Callees, AtomHasKind, HaveKinds, RightHasKinds, EqnKinds}
use Rattle.hp_normal.specs.Reading.{only, copied, both}
use Rattle.hp_toobc.specs.Tables.{variable_type, width_of}
use Rattle.hp_toobc.specs.Stepping.{AreWide}
use Rattle.law_equations.specs.Followed.Premises.{constants_in, constants_of, IsTold, IsOfTypes, EqnForm}
use Rattle.law_equations.proofs.FollowedLemmas.ConstantLaws.{constants_law}
use Rattle.law_equations.specs.Fewer.Compiling.{CopyAgrees, CopiesAgree, KindsLaw}

-- ---- types by their kinds

number_of : KindData → ℕ
number_of (Constructors t cons) = t
number_of k = 0

-- types of one kind are one
pub one_type : (types : List ObcType) (a b : FlatTy) → kind_of_type types a ≡ kind_of_type types b → a ≡ b
unfolding number_of
one_type types FlatBool FlatBool e = refl
one_type types FlatInt FlatInt e = refl
one_type types (FlatEnum t) (FlatEnum u) e = ap FlatEnum (ap number_of e)
one_type types FlatBool FlatInt e = absurd (cc)
one_type types FlatBool (FlatEnum u) e = absurd (cc)
one_type types FlatInt FlatBool e = absurd (cc)
one_type types FlatInt (FlatEnum u) e = absurd (cc)
one_type types (FlatEnum t) FlatBool e = absurd (cc)
one_type types (FlatEnum t) FlatInt e = absurd (cc)

arm_inside : (types : List ObcType) (ty : FlatTy) (c : ℕ) → HasArm (kind_of_type types ty) c → c < width_of types ty
arm_inside types FlatBool c h = h
arm_inside types FlatInt c h = absurd h
arm_inside types (FlatEnum t) c h = h

-- a value of a kind of the types is a value of the types
pub of_types : (types : List ObcType) (k : KindData) (v : Value) → IsTyped types k → IsOfKind k v → IsOfTypes types v
of_types types Bools (B b) t h = tt
of_types types Bools v t h = absurd h
of_types types Ints (I n) t h = h
of_types types Ints v t h = absurd h
of_types types (Constructors u cons) (E t c) ty h = subst (λ w. c < length (constructors types w)) (sym h.0) (subst (λ xs. c < length xs) ty h.1)
of_types types (Constructors u cons) v t h = absurd h

pub typed_kind : (types : List ObcType) (ty : FlatTy) → IsTyped types (kind_of_type types ty)
typed_kind types FlatBool = tt
typed_kind types FlatInt = tt
typed_kind types (FlatEnum t) = refl

one_kind : (k l : KindData) → ◌≡◌ {A = Option KindData} (Some k) (Some l) → k ≡ l
one_kind k l e = cc

pub first_kind : (k l : KindData) (ks ls : List KindData) → k ∷ ks ≡ l ∷ ls → k ≡ l
first_kind k l ks ls e = cc

module _ (types : List ObcType) (callees : Callees) (variables : List Variable) where
  abbrev kind : ℕ → KindData
  kind x = variable_kind types variables x

  clock_wide : (clock : Clock) → AllByRecursion (λ (on : ℕ × ℕ). HasArm (kind on.0) on.1) clock → AreWide types variables clock
  clock_wide [] h = tt
  clock_wide (on ∷ clock) h = (arm_inside types (variable_type variables on.0) on.1 h.0, clock_wide clock h.1)

  -- ---- copies

  copy_kinds : (x y : ℕ) (ts : List ℕ) (args : List Atom) → args ≡ Named y ∷ [] → ts ≡ x ∷ [] → RightHasKinds types callees variables (operator Copy args) (map kind ts) → kind x ≡ kind y
  copy_kinds x y ts args p q h =
      by_list h.0 (subst (λ as2. HaveKinds types callees variables as2 h.0) p h.1) h.3 (sym (ap (map kind) q) ∙ h.4)
    where
      by_list : (js : List KindData) → HaveKinds types callees variables (Named y ∷ []) js → result_kind Copy js ≡ Some h.2 → kind x ∷ [] ≡ h.2 ∷ [] → kind x ≡ kind y
      by_list [] k e t = absurd k
      by_list (j ∷ []) k e t = first_kind (kind x) h.2 [] [] t ∙ sym (one_kind j h.2 e) ∙ sym k.0
      by_list (j ∷ l ∷ js) k e t = absurd k.1

  copy_by : (ts : List ℕ) (r : Right) → RightHasKinds types callees variables r (map kind ts) → CopyAgrees variables (both (only ts) (copied r))
  copy_by [] (operator op args) h = tt
  copy_by [] (register first next) h = tt
  copy_by [] (called f args) h = tt
  copy_by (x ∷ []) (operator Copy []) h = tt
  copy_by (x ∷ []) (operator Copy (Named y ∷ [])) h = one_type types (variable_type variables x) (variable_type variables y) (copy_kinds x y (x ∷ []) (Named y ∷ []) refl refl h)
  copy_by (x ∷ []) (operator Copy (Fixed v ∷ [])) h = tt
  copy_by (x ∷ []) (operator Copy (a ∷ b ∷ args)) h = tt
  copy_by (x ∷ []) (operator op args) h = tt
  copy_by (x ∷ []) (register first next) h = tt
  copy_by (x ∷ []) (called f args) h = tt
  copy_by (x ∷ y ∷ ts) r h = tt

  -- ---- constants

  module _ (form : TypesForm types) where
    value_told : (k : KindData) (v : Value) → IsTyped types k → IsOfKind k v → IsTold types v
    value_told k v t h = constants_law types form v (of_types types k v t h)

    args_told : (args : List Atom) (ks : List KindData) → HaveKinds types callees variables args ks → AllByRecursion (IsTold types) (constants_in args)
    args_told [] ks h = tt
    args_told (a ∷ args) [] h = absurd h
    args_told (Named x ∷ args) (k ∷ ks) h = args_told args ks h.1
    args_told (Fixed v ∷ args) (k ∷ ks) h = (value_told k v h.0.1 h.0.0, args_told args ks h.1)

    next_told : (next : Atom) (k : KindData) → AtomHasKind types callees variables next k → AllByRecursion (IsTold types) (constants_in (next ∷ []))
    next_told (Named x) k h = tt
    next_told (Fixed v) k h = (value_told k v h.1 h.0, tt)

    right_told : (ts : List ℕ) (r : Right) → RightHasKinds types callees variables r (map kind ts) → AllByRecursion (IsTold types) (constants_of r)
    right_told ts (operator op args) h = args_told args h.0 h.1
    right_told ts (called f args) h = args_told args (callees.takes f) h.0
    right_told [] (register first next) h = let no : ◌≡◌ {A = List KindData} [] (h.0 ∷ []) = h.3 in absurd (cc)
    right_told (x ∷ ts) (register first next) h =
        let same : kind x ≡ h.0 = first_kind (kind x) h.0 (map kind ts) [] h.3 in
        (value_told h.0 first (subst (IsTyped types) same (typed_kind types (variable_type variables x))) h.1, next_told next h.0 h.2)

    all_forms : (es : List FlatEqn) → AllByRecursion (EqnKinds types callees variables) es → AllByRecursion (EqnForm types variables) es
    all_forms [] h = tt
    all_forms (e ∷ es) h = (record { clock = clock_wide e.clock h.0.clock; constants = right_told e.targets e.right h.0.right }, all_forms es h.1)

  all_copies : (es : List FlatEqn) → AllByRecursion (EqnKinds types callees variables) es → CopiesAgree variables es
  all_copies [] h = tt
  all_copies (e ∷ es) h = (copy_by e.targets e.right h.0.right, all_copies es h.1)

pub kinds_law : KindsLaw
kinds_law types callees variables es form h = (all_forms types callees variables form es h, all_copies types callees variables es h)
