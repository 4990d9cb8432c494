-- The steps of a machine, each word of which keeps the rules, have form.
use Rattle.std.proofs.Common.{◌≡◌, ℕ, suc, Bool, true, false, ◌==◌, if◌then◌else◌, List, [], ◌∷◌, ◌++◌, length, Option, None, Some, is_some, refl, sym, ap, subst, ◌∙◌, append_assoc, append-nil, arith}
use Rattle.std.specs.Prelude.{IsSome, option_map, option_and_then}
use Rattle.std.specs.List.{IsDistinct}
use Rattle.std.specs.Str.{bytes_eq}
use Rattle.std.proofs.lemmas.Bool.Decides.{nat_tests}
use Rattle.std.proofs.lemmas.List.{length-map}
use Rattle.hp_base.specs.Kinds.{KindData, Bools, Ints, Constructors}
use Rattle.hp_base.specs.declared.ty.Ty.{Ty}
use Rattle.hp_base.specs.declared.ty.Ty.TheVariants as ty
use Rattle.hp_base.specs.declared.ty.Const.{Const}
use Rattle.hp_obc.specs.declared.command.Arg.{Arg}
use Rattle.hp_obc.specs.declared.command.Arg.TheVariants as arg
use Rattle.hp_obc.specs.declared.command.ObcOp.{ObcOp}
use Rattle.hp_obc.specs.declared.command.ObcOp.TheVariants.{Copy, Not, Neg, Mux, And, Or, Xor, Imp, Eq, Ne, Lt, Le, Gt, Ge, Add, Sub, Mul, Div, Rem}
use Rattle.hp_obc.specs.declared.machine.Var.{Var}
use Rattle.hp_obc.specs.Form as form
use Rattle.hp_obc.specs.Form.{BothAre, CallForm, HaveForm, HasForm, ArmsHaveForm, written, scope, kind_in, argument_kind, argument_kinds, name_kinds, var_kinds, with_first, same_kind, result_kind, unary_kind, binary_kind, ternary_kind, arms_for, arm_count}
use Rattle.hp_obc.specs.Machines.{ObcType, Machine}
use Rattle.hp_obc.specs.Values.{kind_of, enum_from}
use Rattle.hp_obctext.specs.Files.{Steps, Step, Branches, done, and_then, set, call, restart, case_of, no_branch, more_branches}
use Rattle.hp_obctext.specs.Found.{var_entries}
use Rattle.hp_base.specs.Known.Known.{lookup, with_entry}
use Rattle.hp_obctext.specs.Labels.{labels_of}
use Rattle.hp_obctext.specs.Machines.{command, commands, arms, machine_of}
use Rattle.hp_obctext.specs.Reading.{arity}
use Rattle.hp_obctext.specs.Rules.{AllTrue, Table, Types, Context, is_new, is_empty, behind, is_known, same_ty, agree, const_ty, arg_ty, in_op, first_ty, in_args, in_set, in_outs, in_inputs, inputs_of, outputs_of, in_call, is_next, labels_of_ty, is_choice, in_steps, in_step, in_branches}
use Rattle.hp_obctext.specs.Shapes.{Each, AreStepTexts, IsStepText, AreBranchTexts}
use Rattle.hp_obctext.proofs.FormTypes.{Knows, known_kind, const_found}
use Rattle.hp_obctext.proofs.Saying.{enum_found}
use Rattle.hp_obctext.proofs.Truths.{front_true, back_true, both_true, flip, equal_bytes, keys, new_entry, keys-push, entry_distinct, distinct_none}

-- ---- types that agree

same_types : (t u : Ty) → same_ty t u ≡ true → t ≡ u
same_types ty.Bool ty.Bool h = refl
same_types ty.Bool ty.Int h = absurd cc
same_types ty.Bool (ty.Enum y) h = absurd cc
same_types ty.Int ty.Bool h = absurd cc
same_types ty.Int ty.Int h = refl
same_types ty.Int (ty.Enum y) h = absurd cc
same_types (ty.Enum x) ty.Bool h = absurd cc
same_types (ty.Enum x) ty.Int h = absurd cc
same_types (ty.Enum x) (ty.Enum y) h = ap ty.Enum (equal_bytes x y h)

pub agreed : (o p : Option Ty) → agree o p ≡ true → (t : Ty) × (o ≡ Some t) × (p ≡ Some t)
agreed None p h = absurd cc
agreed (Some t) None h = absurd cc
agreed (Some t) (Some u) h = (t, refl, ap Some (sym (same_types t u h)))

pub some_value : {A : Type 0} (o : Option A) → is_some o ≡ true → (a : A) × (o ≡ Some a)
some_value None h = absurd cc
some_value (Some a) h = (a, refl)

pub some_same : {A : Type 0} {a b : A} → Some a ≡ Some b → a ≡ b
some_same e = cc

pub same_kinds : (k : KindData) → same_kind k k ≡ true
same_kinds Bools = refl
same_kinds Ints = refl
same_kinds (Constructors n xs) = same_number n
  where
    same_number : (n : ℕ) → (n == n) ≡ true
    same_number n = grind (arith, nat_tests)

-- ---- lists of arguments

one_arg : (args : List Arg) → length args ≡ 1 → (a : Arg) × (args ≡ a ∷ [])
one_arg [] e = absurd (omega (arith, e))
one_arg (a ∷ []) e = (a, refl)
one_arg (a ∷ b ∷ args) e = absurd (omega (arith, e))

two_args : (args : List Arg) → length args ≡ 2 → (a : Arg) × (b : Arg) × (args ≡ a ∷ b ∷ [])
two_args [] e = absurd (omega (arith, e))
two_args (a ∷ []) e = absurd (omega (arith, e))
two_args (a ∷ b ∷ []) e = (a, b, refl)
two_args (a ∷ b ∷ d ∷ args) e = absurd (omega (arith, e))

three_args : (args : List Arg) → length args ≡ 3 → (a : Arg) × (b : Arg) × (d : Arg) × (args ≡ a ∷ b ∷ d ∷ [])
three_args [] e = absurd (omega (arith, e))
three_args (a ∷ []) e = absurd (omega (arith, e))
three_args (a ∷ b ∷ []) e = absurd (omega (arith, e))
three_args (a ∷ b ∷ d ∷ []) e = (a, b, d, refl)
three_args (a ∷ b ∷ d ∷ f ∷ args) e = absurd (omega (arith, e))

pub first_some : {A : Type 0} (o : Option A) (p : Option (List A)) → is_some o ≡ true → is_some p ≡ true → is_some (with_first o p) ≡ true
first_some None p h k = absurd cc
first_some (Some a) None h k = absurd cc
first_some (Some a) (Some as_) h k = refl

-- ---- what is known in a step

-- what a context holds of a machine
pub record Sees (types : List ObcType) (ts : Types) (earlier : List Machine) (m : Machine) (c : Context) : Type 0 where
  pub types_are : c.types ≡ ts
  pub vars_are : (x : List ℕ) → lookup c.vars x ≡ lookup (var_entries (scope m)) x
  pub written_are : (x : List ℕ) → lookup c.written x ≡ lookup (var_entries (written m)) x
  pub vars_known : Each (λ (v : Var). is_known ts v.ty ≡ true) (scope m)
  pub written_known : Each (λ (v : Var). is_known ts v.ty ≡ true) (written m)
  pub insts_are : (i : List ℕ) → option_map machine_of (lookup c.insts i) ≡ form.machine_of earlier m.insts i

pub kind_found : (types : List ObcType) (vars : List Var) (x : List ℕ) → kind_in types vars x ≡ option_and_then (kind_of types) (lookup (var_entries vars) x)
kind_found types [] x = refl
kind_found types (v ∷ vars) x = by (bytes_eq x v.name) (bytes_eq v.name x) (flip x v.name) (kind_found types vars x)
  where
    by : (d e : Bool) → d ≡ e → kind_in types vars x ≡ option_and_then (kind_of types) (lookup (var_entries vars) x)
        → (if e then kind_of types v.ty else kind_in types vars x) ≡ option_and_then (kind_of types) (if d then Some v.ty else lookup (var_entries vars) x)
    by true true p k = refl
    by false false p k = k
    by true false p k = absurd cc
    by false true p k = absurd cc

known_by : (ts : Types) (d : Bool) (u t : Ty) (o : Option Ty) → (if d then Some u else o) ≡ Some t → is_known ts u ≡ true → (o ≡ Some t → is_known ts t ≡ true) → is_known ts t ≡ true
known_by ts true u t o e h k = ap (is_known ts) (sym (some_same e)) ∙ h
known_by ts false u t o e h k = k e

lookup_known : (ts : Types) (vars : List Var) → Each (λ (v : Var). is_known ts v.ty ≡ true) vars → (x : List ℕ) (t : Ty) → lookup (var_entries vars) x ≡ Some t → is_known ts t ≡ true
lookup_known ts [] h x t e = absurd cc
lookup_known ts (v ∷ vars) h x t e = known_by ts (bytes_eq x v.name) v.ty t (lookup (var_entries vars) x) e h.0 (lookup_known ts vars h.1 x t)

module _ (types : List ObcType) (ts : Types) (knows : Knows types ts) where
  name_kind : (vars : List Var) → Each (λ (v : Var). is_known ts v.ty ≡ true) vars → (x : List ℕ) (t : Ty) → lookup (var_entries vars) x ≡ Some t → (kind_in types vars x ≡ kind_of types t) × IsSome (kind_of types t)
  name_kind vars h x t e = (kind_found types vars x ∙ ap (option_and_then (kind_of types)) e, known_kind types ts knows t (lookup_known ts vars h x t e))

  pub labels_same : (t : Ty) → labels_of_ty ts (Some t) ≡ labels_of (kind_of types t)
  labels_same ty.Bool = refl
  labels_same ty.Int = refl
  labels_same (ty.Enum y) = ap (λ es. labels_of_ty (record { names = es; cons = ts.cons }) (Some (ty.Enum y))) knows.names ∙ enum_found 0 types y

  module _ (earlier : List Machine) (m : Machine) (c : Context) (sees : Sees types ts earlier m c) where
    arg_kind : (a : Arg) (t : Ty) → arg_ty c a ≡ Some t → (argument_kind types (scope m) a ≡ kind_of types t) × IsSome (kind_of types t)
    arg_kind (arg.Name x) t e = name_kind (scope m) sees.vars_known x t (sym (sees.vars_are x) ∙ e)
    arg_kind (arg.Const k) t e = const_found types ts knows k t (ap (λ ts. const_ty ts k) (sym sees.types_are) ∙ e)

    -- an argument of a type
    arg_is : (a : Arg) (w : Ty) → agree (arg_ty c a) (Some w) ≡ true → argument_kind types (scope m) a ≡ kind_of types w
    arg_is a w h = let g = agreed (arg_ty c a) (Some w) h in (arg_kind a g.0 g.1).0 ∙ ap (kind_of types) (some_same (sym g.2))

    abbrev Right : ObcOp → Ty → List Arg → Type 0
    Right op t args = option_and_then (result_kind op) (argument_kinds types (scope m) args) ≡ kind_of types t

    abbrev Words : ObcOp → Ty → List Arg → Type 0
    Words op t args = AllTrue (in_op op (Some t) ++ in_args c op (Some t) (first_ty c args) 0 args)

    abbrev kinds : List Arg → Option (List KindData)
    kinds args = argument_kinds types (scope m) args

    unary_right : (op : ObcOp) (a : Arg) (w : Ty) (k : KindData) (r : Option KindData) → agree (arg_ty c a) (Some w) ≡ true → kind_of types w ≡ Some k → unary_kind op k ≡ r → option_and_then (result_kind op) (kinds (a ∷ [])) ≡ r
    unary_right op a w k r h e f = ap (λ o. option_and_then (result_kind op) (with_first o (Some []))) (arg_is a w h ∙ e) ∙ f

    binary_right : (op : ObcOp) (a b : Arg) (v w : Ty) (k l : KindData) (r : Option KindData) → agree (arg_ty c a) (Some v) ≡ true → agree (arg_ty c b) (Some w) ≡ true → kind_of types v ≡ Some k → kind_of types w ≡ Some l →
        binary_kind op k l ≡ r → option_and_then (result_kind op) (kinds (a ∷ b ∷ [])) ≡ r
    binary_right op a b v w k l r g h e f q =
        ap (λ o. option_and_then (result_kind op) (with_first o (with_first (argument_kind types (scope m) b) (Some [])))) (arg_is a v g ∙ e)
        ∙ ap (λ o. option_and_then (result_kind op) (with_first (Some k) (with_first o (Some [])))) (arg_is b w h ∙ f) ∙ q

    ternary_right : (op : ObcOp) (a b d : Arg) (u v w : Ty) (j k l : KindData) (r : Option KindData) →
        agree (arg_ty c a) (Some u) ≡ true → agree (arg_ty c b) (Some v) ≡ true → agree (arg_ty c d) (Some w) ≡ true → kind_of types u ≡ Some j → kind_of types v ≡ Some k → kind_of types w ≡ Some l →
        ternary_kind op j k l ≡ r → option_and_then (result_kind op) (kinds (a ∷ b ∷ d ∷ [])) ≡ r
    ternary_right op a b d u v w j k l r g h i e f q s =
        ap (λ o. option_and_then (result_kind op) (with_first o (with_first (argument_kind types (scope m) b) (with_first (argument_kind types (scope m) d) (Some []))))) (arg_is a u g ∙ e)
        ∙ ap (λ o. option_and_then (result_kind op) (with_first (Some j) (with_first o (with_first (argument_kind types (scope m) d) (Some []))))) (arg_is b v h ∙ f)
        ∙ ap (λ o. option_and_then (result_kind op) (with_first (Some j) (with_first (Some k) (with_first o (Some []))))) (arg_is d w i ∙ q) ∙ s

    -- the result of an operator is of the type that is set
    result_is : (t w : Ty) (r : KindData) → agree (Some t) (Some w) ≡ true → kind_of types w ≡ Some r → Some r ≡ kind_of types t
    result_is t w r h e = sym (ap (kind_of types) (same_types t w h) ∙ e)

    right : (op : ObcOp) (t : Ty) (args : List Arg) → length args ≡ arity op → Words op t args → IsSome (kind_of types t) → Right op t args
    right Copy t args e h s =
        let g = one_arg args e in
        let ws = subst (Words Copy t) g.1 h in
        let k = some_value (kind_of types t) s in
        ap (λ xs. option_and_then (result_kind Copy) (kinds xs)) g.1 ∙ unary_right Copy g.0 t k.0 (Some k.0) ws.0 k.1 refl ∙ sym k.1
    right Not t args e h s =
        let g = one_arg args e in
        let ws = subst (Words Not t) g.1 h in
        ap (λ xs. option_and_then (result_kind Not) (kinds xs)) g.1 ∙ unary_right Not g.0 ty.Bool Bools (Some Bools) ws.1.0 refl refl ∙ result_is t ty.Bool Bools ws.0 refl
    right Neg t args e h s =
        let g = one_arg args e in
        let ws = subst (Words Neg t) g.1 h in
        ap (λ xs. option_and_then (result_kind Neg) (kinds xs)) g.1 ∙ unary_right Neg g.0 ty.Int Ints (Some Ints) ws.1.0 refl refl ∙ result_is t ty.Int Ints ws.0 refl
    right Mux t args e h s =
        let g = three_args args e in
        let ws = subst (Words Mux t) g.3 h in
        let k = some_value (kind_of types t) s in
        ap (λ xs. option_and_then (result_kind Mux) (kinds xs)) g.3
        ∙ ternary_right Mux g.0 g.1 g.2 ty.Bool t t Bools k.0 k.0 (Some k.0) ws.1.0 ws.1.1.0 ws.1.1.1.0 refl k.1 k.1 (ap (λ d. if d then Some k.0 else None) (same_kinds k.0)) ∙ sym k.1
    right And t args e h s =
        let g = two_args args e in
        let ws = subst (Words And t) g.2 h in
        ap (λ xs. option_and_then (result_kind And) (kinds xs)) g.2 ∙ binary_right And g.0 g.1 ty.Bool ty.Bool Bools Bools (Some Bools) ws.1.0 ws.1.1.0 refl refl refl ∙ result_is t ty.Bool Bools ws.0 refl
    right Or t args e h s =
        let g = two_args args e in
        let ws = subst (Words Or t) g.2 h in
        ap (λ xs. option_and_then (result_kind Or) (kinds xs)) g.2 ∙ binary_right Or g.0 g.1 ty.Bool ty.Bool Bools Bools (Some Bools) ws.1.0 ws.1.1.0 refl refl refl ∙ result_is t ty.Bool Bools ws.0 refl
    right Xor t args e h s =
        let g = two_args args e in
        let ws = subst (Words Xor t) g.2 h in
        ap (λ xs. option_and_then (result_kind Xor) (kinds xs)) g.2 ∙ binary_right Xor g.0 g.1 ty.Bool ty.Bool Bools Bools (Some Bools) ws.1.0 ws.1.1.0 refl refl refl ∙ result_is t ty.Bool Bools ws.0 refl
    right Imp t args e h s =
        let g = two_args args e in
        let ws = subst (Words Imp t) g.2 h in
        ap (λ xs. option_and_then (result_kind Imp) (kinds xs)) g.2 ∙ binary_right Imp g.0 g.1 ty.Bool ty.Bool Bools Bools (Some Bools) ws.1.0 ws.1.1.0 refl refl refl ∙ result_is t ty.Bool Bools ws.0 refl
    right Lt t args e h s =
        let g = two_args args e in
        let ws = subst (Words Lt t) g.2 h in
        ap (λ xs. option_and_then (result_kind Lt) (kinds xs)) g.2 ∙ binary_right Lt g.0 g.1 ty.Int ty.Int Ints Ints (Some Bools) ws.1.0 ws.1.1.0 refl refl refl ∙ result_is t ty.Bool Bools ws.0 refl
    right Le t args e h s =
        let g = two_args args e in
        let ws = subst (Words Le t) g.2 h in
        ap (λ xs. option_and_then (result_kind Le) (kinds xs)) g.2 ∙ binary_right Le g.0 g.1 ty.Int ty.Int Ints Ints (Some Bools) ws.1.0 ws.1.1.0 refl refl refl ∙ result_is t ty.Bool Bools ws.0 refl
    right Gt t args e h s =
        let g = two_args args e in
        let ws = subst (Words Gt t) g.2 h in
        ap (λ xs. option_and_then (result_kind Gt) (kinds xs)) g.2 ∙ binary_right Gt g.0 g.1 ty.Int ty.Int Ints Ints (Some Bools) ws.1.0 ws.1.1.0 refl refl refl ∙ result_is t ty.Bool Bools ws.0 refl
    right Ge t args e h s =
        let g = two_args args e in
        let ws = subst (Words Ge t) g.2 h in
        ap (λ xs. option_and_then (result_kind Ge) (kinds xs)) g.2 ∙ binary_right Ge g.0 g.1 ty.Int ty.Int Ints Ints (Some Bools) ws.1.0 ws.1.1.0 refl refl refl ∙ result_is t ty.Bool Bools ws.0 refl
    right Add t args e h s =
        let g = two_args args e in
        let ws = subst (Words Add t) g.2 h in
        ap (λ xs. option_and_then (result_kind Add) (kinds xs)) g.2 ∙ binary_right Add g.0 g.1 ty.Int ty.Int Ints Ints (Some Ints) ws.1.0 ws.1.1.0 refl refl refl ∙ result_is t ty.Int Ints ws.0 refl
    right Sub t args e h s =
        let g = two_args args e in
        let ws = subst (Words Sub t) g.2 h in
        ap (λ xs. option_and_then (result_kind Sub) (kinds xs)) g.2 ∙ binary_right Sub g.0 g.1 ty.Int ty.Int Ints Ints (Some Ints) ws.1.0 ws.1.1.0 refl refl refl ∙ result_is t ty.Int Ints ws.0 refl
    right Mul t args e h s =
        let g = two_args args e in
        let ws = subst (Words Mul t) g.2 h in
        ap (λ xs. option_and_then (result_kind Mul) (kinds xs)) g.2 ∙ binary_right Mul g.0 g.1 ty.Int ty.Int Ints Ints (Some Ints) ws.1.0 ws.1.1.0 refl refl refl ∙ result_is t ty.Int Ints ws.0 refl
    right Div t args e h s =
        let g = two_args args e in
        let ws = subst (Words Div t) g.2 h in
        ap (λ xs. option_and_then (result_kind Div) (kinds xs)) g.2 ∙ binary_right Div g.0 g.1 ty.Int ty.Int Ints Ints (Some Ints) ws.1.0 ws.1.1.0 refl refl refl ∙ result_is t ty.Int Ints ws.0 refl
    right Rem t args e h s =
        let g = two_args args e in
        let ws = subst (Words Rem t) g.2 h in
        ap (λ xs. option_and_then (result_kind Rem) (kinds xs)) g.2 ∙ binary_right Rem g.0 g.1 ty.Int ty.Int Ints Ints (Some Ints) ws.1.0 ws.1.1.0 refl refl refl ∙ result_is t ty.Int Ints ws.0 refl
    right Eq t args e h s =
        let g = two_args args e in
        let ws = subst (Words Eq t) g.2 h in
        let u = agreed (arg_ty c g.0) (arg_ty c g.0) ws.1.0 in
        let k = some_value (kind_of types u.0) (arg_kind g.0 u.0 u.1).1 in
        let first : agree (arg_ty c g.0) (Some u.0) ≡ true = ap (agree (arg_ty c g.0)) (sym u.1) ∙ ws.1.0 in
        let second : agree (arg_ty c g.1) (Some u.0) ≡ true = ap (agree (arg_ty c g.1)) (sym u.1) ∙ ws.1.1.0 in
        ap (λ xs. option_and_then (result_kind Eq) (kinds xs)) g.2
        ∙ binary_right Eq g.0 g.1 u.0 u.0 k.0 k.0 (Some Bools) first second k.1 k.1 (ap (λ d. if d then Some Bools else None) (same_kinds k.0)) ∙ result_is t ty.Bool Bools ws.0 refl
    right Ne t args e h s =
        let g = two_args args e in
        let ws = subst (Words Ne t) g.2 h in
        let u = agreed (arg_ty c g.0) (arg_ty c g.0) ws.1.0 in
        let k = some_value (kind_of types u.0) (arg_kind g.0 u.0 u.1).1 in
        let first : agree (arg_ty c g.0) (Some u.0) ≡ true = ap (agree (arg_ty c g.0)) (sym u.1) ∙ ws.1.0 in
        let second : agree (arg_ty c g.1) (Some u.0) ≡ true = ap (agree (arg_ty c g.1)) (sym u.1) ∙ ws.1.1.0 in
        ap (λ xs. option_and_then (result_kind Ne) (kinds xs)) g.2
        ∙ binary_right Ne g.0 g.1 u.0 u.0 k.0 k.0 (Some Bools) first second k.1 k.1 (ap (λ d. if d then Some Bools else None) (same_kinds k.0)) ∙ result_is t ty.Bool Bools ws.0 refl

    set_form : (x : List ℕ) (op : ObcOp) (args : List Arg) → length args ≡ arity op → AllTrue (in_set c x op args) → HasForm types earlier m (command (set x op args))
    set_form x op args e h =
        let target = some_value (lookup c.written x) h.1.0 in
        let found : lookup (var_entries (written m)) x ≡ Some target.0 = sym (sees.written_are x) ∙ target.1 in
        let kind = name_kind (written m) sees.written_known x target.0 found in
        let words : Words op target.0 args = subst (λ o. AllTrue (in_op op o ++ in_args c op o (first_ty c args) 0 args)) target.1 h.1.1 in
        (ap is_some kind.0 ∙ kind.1, kind.0 ∙ sym (right op target.0 args e words kind.1))

    -- ---- calls

    inputs_form : (args : List Arg) (inputs : List Var) → AllTrue (in_inputs c args inputs) → BothAre (kinds args) (var_kinds types inputs)
    inputs_form [] [] h = (refl, refl)
    inputs_form [] (i ∷ inputs) h = absurd (let e = h.0 in cc)
    inputs_form (a ∷ args) [] h = absurd (let e = h.0 in cc)
    inputs_form (a ∷ args) (i ∷ inputs) h =
        let rest = inputs_form args inputs h.1 in
        let g = agreed (arg_ty c a) (Some i.ty) h.0 in
        let kind = arg_kind a g.0 g.1 in
        let here = arg_is a i.ty h.0 in (
          first_some (argument_kind types (scope m) a) (kinds args) (ap is_some kind.0 ∙ kind.1) rest.0,
          ap (λ o. with_first o (kinds args)) here ∙ ap (with_first (kind_of types i.ty)) rest.1,
        )

    record OutsForm (seen : Table Ty) (outs : List (List ℕ)) (outputs : List Var) : Type 0 where
      kinds_are : BothAre (name_kinds types (written m) outs) (var_kinds types outputs)
      once : IsDistinct bytes_eq (keys seen) → IsDistinct bytes_eq (keys seen ++ outs)

    outs_form : (seen : Table Ty) (outs : List (List ℕ)) (outputs : List Var) → AllTrue (in_outs c seen outs outputs) → OutsForm seen outs outputs
    outs_form seen [] [] h = record { kinds_are = (refl, refl); once = λ d. subst (IsDistinct bytes_eq) (sym (append-nil (keys seen))) d }
    outs_form seen [] (o ∷ outputs) h = absurd (let e = h.0 in cc)
    outs_form seen (x ∷ xs) [] h = absurd (let e = h.0 in cc)
    outs_form seen (x ∷ xs) (o ∷ outputs) h =
        let here = both_true (is_new seen x) (agree (lookup c.written x) (Some o.ty)) h.0 in
        let g = agreed (lookup c.written x) (Some o.ty) here.1 in
        let kind = name_kind (written m) sees.written_known x g.0 (sym (sees.written_are x) ∙ g.1) in
        let rest = outs_form (with_entry seen x o.ty) xs outputs h.1 in
        let names : keys (with_entry seen x o.ty) ++ xs ≡ keys seen ++ (x ∷ xs) =
        ap (λ es. keys es ++ xs) (new_entry seen x o.ty here.0) ∙ ap (λ ys. ys ++ xs) (keys-push seen x o.ty) ∙ append_assoc (keys seen) (x ∷ []) xs in
        record {
          kinds_are = (
            first_some (kind_in types (written m) x) (name_kinds types (written m) xs) (ap is_some kind.0 ∙ kind.1) rest.kinds_are.0,
            ap (λ k. with_first k (name_kinds types (written m) xs)) (kind.0 ∙ ap (kind_of types) (some_same (sym g.2))) ∙ ap (with_first (kind_of types o.ty)) rest.kinds_are.1,
          );
          once = λ d. subst (IsDistinct bytes_eq) names (rest.once (entry_distinct seen x o.ty here.0 d));
        }

    call_form : (i : List ℕ) (outs : List (List ℕ)) (args : List Arg) → AllTrue (in_call c i outs args) → HasForm types earlier m (command (call i outs args))
    call_form i outs args h =
        let found = some_value (lookup c.insts i) h.1.0 in
        let front = in_outs c [] outs (outputs_of (lookup c.insts i)) in
        let more = true ∷ in_inputs c args (inputs_of (lookup c.insts i)) in
        let outputs = outs_form [] outs found.0.outputs (subst (λ o. AllTrue (in_outs c [] outs (outputs_of o))) found.1 (front_true front more h.1.1.1)) in
        let inputs = inputs_form args found.0.inputs (subst (λ o. AllTrue (in_inputs c args (inputs_of o))) found.1 (back_true front more h.1.1.1).1) in
        (machine_of found.0, sym (sees.insts_are i) ∙ ap (option_map machine_of) found.1, record { arguments = inputs; outputs = outputs.kinds_are; once = outputs.once distinct_none })

    -- ---- cases

    some_arms : (labels : List Const) (k : Const) → is_next k labels ≡ true → length labels ≡ suc (length (behind labels))
    some_arms [] k h = absurd cc
    some_arms (l ∷ labels) k h = refl

    no_arms : (labels : List Const) → is_empty labels ≡ true → length labels ≡ 0
    no_arms [] h = refl
    no_arms (l ∷ labels) h = absurd cc

    -- there are as many arms as values
    as_many : (labels : List Const) (bs : Branches) → AllTrue (in_branches c labels bs) → length labels ≡ arm_count (arms bs)
    as_many labels no_branch h = no_arms labels h.0
    as_many labels (more_branches k ss bs) h = some_arms labels k h.1.0 ∙ ap suc (as_many (behind labels) bs (back_true (in_steps c ss) (in_branches c (behind labels) bs) h.1.1))

    arms_by : (t : Ty) (k : KindData) → is_choice (Some t) ≡ true → kind_of types t ≡ Some k → arms_for k ≡ Some (length (labels_of (Some k)))
    arms_by t Bools h e = refl
    arms_by t (Constructors n names) h e = ap Some (sym (length-map names _))
    arms_by ty.Bool Ints h e = absurd cc
    arms_by ty.Int Ints h e = absurd cc
    arms_by (ty.Enum x) Ints h e = absurd (no_ints 0 types x e)
      where
        no_ints : (n : ℕ) (types : List ObcType) (x : List ℕ) → enum_from n types x ≡ Some Ints → ⊥
        no_ints n [] x e = cc
        no_ints n (t ∷ types) x e = by (bytes_eq t.name x) e (no_ints (suc n) types x)
          where
            by : (d : Bool) → (if d then Some (Constructors n t.cons) else enum_from (suc n) types x) ≡ Some Ints → (enum_from (suc n) types x ≡ Some Ints → ⊥) → ⊥
            by true e k = cc
            by false e k = k e

    choice : (o : Option Ty) → is_choice o ≡ true → (t : Ty) × (o ≡ Some t)
    choice None h = absurd cc
    choice (Some t) h = (t, refl)

    case_count : (x : List ℕ) (bs : Branches) → is_choice (lookup c.vars x) ≡ true → AllTrue (in_branches c (labels_of_ty c.types (lookup c.vars x)) bs) →
        option_and_then arms_for (kind_in types (scope m) x) ≡ Some (arm_count (arms bs))
    case_count x bs h w =
        let t = choice (lookup c.vars x) h in
        let kind = name_kind (scope m) sees.vars_known x t.0 (sym (sees.vars_are x) ∙ t.1) in
        let k = some_value (kind_of types t.0) kind.1 in
        let values : labels_of_ty c.types (lookup c.vars x) ≡ labels_of (Some k.0) = ap (labels_of_ty c.types) t.1 ∙ ap (λ ts. labels_of_ty ts (Some t.0)) sees.types_are ∙ labels_same t.0 ∙ ap labels_of k.1 in
        ap (option_and_then arms_for) (kind.0 ∙ k.1) ∙ arms_by t.0 k.0 (ap is_choice (sym t.1) ∙ h) k.1 ∙ ap (λ ls. Some (length ls)) (sym values) ∙ ap Some (as_many (labels_of_ty c.types (lookup c.vars x)) bs w)

    mutual
      pub steps_form : (ss : Steps) → AreStepTexts ss → AllTrue (in_steps c ss) → HaveForm types earlier m (commands ss)
      steps_form done a h = tt
      steps_form (and_then s ss) a h = (step_form s a.0 (front_true (in_step c s) (in_steps c ss) h), steps_form ss a.1 (back_true (in_step c s) (in_steps c ss) h))

      step_form : (s : Step) → IsStepText s → AllTrue (in_step c s) → HasForm types earlier m (command s)
      step_form (set x op args) a h = set_form x op args a h
      step_form (call i outs args) a h = call_form i outs args h
      step_form (restart i) a h = let found = some_value (lookup c.insts i) h.1.0 in ap is_some (sym (sees.insts_are i) ∙ ap (option_map machine_of) found.1)
      step_form (case_of x bs) a h = (case_count x bs h.1.0 h.1.1, branches_form (labels_of_ty c.types (lookup c.vars x)) bs a h.1.1)

      branches_form : (labels : List Const) (bs : Branches) → AreBranchTexts bs → AllTrue (in_branches c labels bs) → ArmsHaveForm types earlier m (arms bs)
      branches_form labels no_branch a h = tt
      branches_form labels (more_branches k ss bs) a h =
          (steps_form ss a.1.0 (front_true (in_steps c ss) (in_branches c (behind labels) bs) h.1.1), branches_form (behind labels) bs a.1.1 (back_true (in_steps c ss) (in_branches c (behind labels) bs) h.1.1))
