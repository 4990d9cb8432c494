-- The words of sets, calls and cases of form keep the rules.
use Rattle.std.proofs.Common.{◌≡◌, ℕ, Bool, true, false, ◌==◌, if◌then◌else◌, List, [], ◌∷◌, ◌++◌, length, Option, None, Some, is_some, refl, sym, ap, subst, ◌∙◌, arith}
use Rattle.std.specs.Prelude.{IsSome, option_map, option_and_then}
use Rattle.std.specs.List.{IsDistinct}
use Rattle.std.specs.Str.{bytes_eq}
use Rattle.std.proofs.lemmas.Bool.Decides.{nat_tests}
use Rattle.std.proofs.lemmas.List.{length-map}
use Rattle.hp_base.specs.Kinds.{KindData, Bools, Ints, Constructors}
use Rattle.hp_base.specs.declared.ty.Ty.{Ty}
use Rattle.hp_base.specs.declared.ty.Ty.TheVariants as ty
use Rattle.hp_obc.specs.declared.command.Arg.{Arg}
use Rattle.hp_obc.specs.declared.command.Arg.TheVariants as arg
use Rattle.hp_obc.specs.declared.command.ObcOp.{ObcOp}
use Rattle.hp_obc.specs.declared.command.ObcOp.TheVariants.{Copy, Not, Neg, Mux, And, Or, Xor, Imp, Eq, Ne, Lt, Le, Gt, Ge, Add, Sub, Mul, Div, Rem}
use Rattle.hp_obc.specs.declared.machine.Var.{Var}
use Rattle.hp_obc.specs.Form as form
use Rattle.hp_obc.specs.Form.{BothAre, CallForm, written, scope, kind_in, argument_kind, argument_kinds, name_kinds, var_kinds, with_first, same_kind, for_bools, for_ints, for_same, result_kind, unary_kind, binary_kind, ternary_kind, arms_for}
use Rattle.hp_obc.specs.Machines.{ObcType, Machine}
use Rattle.hp_obc.specs.Values.{kind_of}
use Rattle.hp_base.specs.Known.Known.{lookup, with_entry}
use Rattle.hp_obctext.specs.Files.{Text}
use Rattle.hp_obctext.specs.Found.{var_entries}
use Rattle.hp_obctext.specs.Labels.{labels_of}
use Rattle.hp_obctext.specs.Machines.{machine_of}
use Rattle.hp_obctext.specs.Reading.{arity}
use Rattle.hp_obctext.specs.Rules.{AllTrue, Table, Types, Context, is_new, agree, const_ty, arg_ty, in_op, first_ty, in_args, in_set, in_outs, in_inputs, inputs_of, outputs_of, in_call, labels_of_ty, is_choice}
use Rattle.hp_obctext.proofs.FormSteps.{same_kinds, Sees, kind_found, labels_same, some_value, some_same}
use Rattle.hp_obctext.proofs.FormTypes.{Knows}
use Rattle.hp_obctext.proofs.KeptTypes.{Typed, Alike, const_typed, kinds_agree, true_append, true_both, distinct_new, distinct_next}
use Rattle.hp_obctext.proofs.Truths.{keys}

-- ---- kinds of what operators take

record TwoAre (k l r p q s : KindData) : Type 0 where
  first : k ≡ p
  second : l ≡ q
  result : r ≡ s

bools_from : (k l r : KindData) → for_bools k l ≡ Some r → TwoAre k l r Bools Bools Bools
bools_from Bools Bools r e = record { first = refl; second = refl; result = sym (some_same e) }
bools_from Bools Ints r e = absurd cc
bools_from Bools (Constructors n xs) r e = absurd cc
bools_from Ints l r e = absurd cc
bools_from (Constructors n xs) l r e = absurd cc

ints_from : (given k l r : KindData) → for_ints given k l ≡ Some r → TwoAre k l r Ints Ints given
ints_from given Ints Ints r e = record { first = refl; second = refl; result = sym (some_same e) }
ints_from given Ints Bools r e = absurd cc
ints_from given Ints (Constructors n xs) r e = absurd cc
ints_from given Bools l r e = absurd cc
ints_from given (Constructors n xs) l r e = absurd cc

same_from : (d : Bool) (given r : KindData) → (if d then Some given else None) ≡ Some r → (d ≡ true) × (r ≡ given)
same_from true given r e = (refl, sym (some_same e))
same_from false given r e = absurd cc

-- ---- lists of kinds

pub record Firsts {A : Type 0} (o : Option A) (p : Option (List A)) : Type 0 where
  pub first : A
  pub others : List A
  pub first_is : o ≡ Some first
  pub others_are : p ≡ Some others

pub firsts_by : {A : Type 0} (o : Option A) (p : Option (List A)) → is_some (with_first o p) ≡ true → Firsts o p
firsts_by None p h = absurd cc
firsts_by (Some a) None h = absurd cc
firsts_by (Some a) (Some xs) h = record { first = a; others = xs; first_is = refl; others_are = refl }

some_firsts : {A : Type 0} (a b : A) (xs ys : List A) → Some (a ∷ xs) ≡ Some (b ∷ ys) → (Some a ≡ Some b) × (Some xs ≡ Some ys)
some_firsts a b xs ys e = (cc, cc)

firsts_same : {A : Type 0} (o q : Option A) (p r : Option (List A)) → is_some (with_first o p) ≡ true → with_first o p ≡ with_first q r → (o ≡ q) × (p ≡ r)
firsts_same None q p r h e = absurd cc
firsts_same (Some a) q None r h e = absurd cc
firsts_same (Some a) None (Some xs) r h e = absurd cc
firsts_same (Some a) (Some b) (Some xs) None h e = absurd cc
firsts_same (Some a) (Some b) (Some xs) (Some ys) h e = some_firsts a b xs ys e

not_none_left : {A : Type 0} (o : Option A) (p : Option (List A)) → with_first o p ≡ Some [] → ⊥
not_none_left None p e = cc
not_none_left (Some a) None e = cc
not_none_left (Some a) (Some xs) e = cc

module _ (types : List ObcType) (ts : Types) (knows : Knows types ts) where
  -- something of a type has a kind
  record KindIs (o : Option Ty) (k : KindData) : Type 0 where
    type : Ty
    is : o ≡ Some type
    kind_is : kind_of types type ≡ Some k

  agree_as : (o p : Option Ty) (k l : KindData) → KindIs o k → KindIs p l → Alike k l → agree o p ≡ true
  agree_as o p k l a b s = kinds_agree types o p a.type b.type k l a.is b.is a.kind_is b.kind_is s

  agree_same : (o p : Option Ty) (k l m : KindData) → KindIs o k → KindIs p l → k ≡ m → l ≡ m → agree o p ≡ true
  agree_same o p k l m a b d e = agree_as o p k l a b (ap (same_kind k) e ∙ ap (λ z. same_kind z m) d ∙ same_kinds m)

  is_bool : KindIs (Some ty.Bool) Bools
  is_bool = record { type = ty.Bool; is = refl; kind_is = refl }

  is_int : KindIs (Some ty.Int) Ints
  is_int = record { type = ty.Int; is = refl; kind_is = refl }

  from_typed : (o : Option Ty) (j : Option KindData) (k : KindData) → Typed types o j → j ≡ Some k → KindIs o k
  from_typed o j k t e = record { type = t.type; is = t.is; kind_is = t.kind_is ∙ e }

  typed_by : (o : Option Ty) → is_some (option_and_then (kind_of types) o) ≡ true → Typed types o (option_and_then (kind_of types) o)
  typed_by None h = absurd cc
  typed_by (Some t) h = record { type = t; is = refl; kind_is = refl }

  -- a name of a kind has a type
  pub name_typed : (vars : List Var) (x : List ℕ) → IsSome (kind_in types vars x) → Typed types (lookup (var_entries vars) x) (kind_in types vars x)
  name_typed vars x h =
      subst (Typed types (lookup (var_entries vars) x)) (sym (kind_found types vars x)) (typed_by (lookup (var_entries vars) x) (ap is_some (sym (kind_found types vars x)) ∙ h))

  module _ (earlier : List Machine) (m : Machine) (c : Context) (sees : Sees types ts earlier m c) where
    abbrev kind : Arg → Option KindData
    kind a = argument_kind types (scope m) a

    abbrev kinds : List Arg → Option (List KindData)
    kinds args = argument_kinds types (scope m) args

    arg_typed : (a : Arg) → IsSome (kind a) → Typed types (arg_ty c a) (kind a)
    arg_typed (arg.Name x) h = subst (λ o. Typed types o (kind_in types (scope m) x)) (sym (sees.vars_are x)) (name_typed (scope m) x h)
    arg_typed (arg.Const k) h = subst (λ ts. Typed types (const_ty ts k) (kind (arg.Const k))) (sym sees.types_are) (const_typed types ts knows k h)

    arg_is : (a : Arg) (k : KindData) → kind a ≡ Some k → KindIs (arg_ty c a) k
    arg_is a k e = from_typed (arg_ty c a) (kind a) k (arg_typed a (ap is_some e)) e

    -- ---- operators

    -- the words of an operator and its arguments keep the rules, and it has as many as it takes
    abbrev Keeps : ObcOp → Ty → List Arg → Type 0
    Keeps op t args = (length args ≡ arity op) × AllTrue (in_op op (Some t) ++ in_args c op (Some t) (first_ty c args) 0 args)

    unary_keeps : (op : ObcOp) (t : Ty) (a : Arg) (k r : KindData) → KindIs (Some t) r → KindIs (arg_ty c a) k → unary_kind op k ≡ Some r → Keeps op t (a ∷ [])
    unary_keeps Copy t a k r u v e = (refl, (agree_same (arg_ty c a) (Some t) k r r v u (some_same e) refl, tt))
    unary_keeps Not t a Bools r u v e = (refl, (agree_same (Some t) (Some ty.Bool) r Bools Bools u is_bool (sym (some_same e)) refl, (agree_as (arg_ty c a) (Some ty.Bool) Bools Bools v is_bool refl, tt)))
    unary_keeps Neg t a Ints r u v e = (refl, (agree_same (Some t) (Some ty.Int) r Ints Ints u is_int (sym (some_same e)) refl, (agree_as (arg_ty c a) (Some ty.Int) Ints Ints v is_int refl, tt)))
    unary_keeps op t a k r u v e = absurd cc

    bools_keep : (t : Ty) (a b : Arg) (k l r : KindData) → KindIs (Some t) r → KindIs (arg_ty c a) k → KindIs (arg_ty c b) l → for_bools k l ≡ Some r →
        AllTrue (agree (Some t) (Some ty.Bool) ∷ agree (arg_ty c a) (Some ty.Bool) ∷ agree (arg_ty c b) (Some ty.Bool) ∷ [])
    bools_keep t a b k l r u v w e =
        let g = bools_from k l r e in
        (agree_same (Some t) (Some ty.Bool) r Bools Bools u is_bool g.result refl, (agree_same (arg_ty c a) (Some ty.Bool) k Bools Bools v is_bool g.first refl, (agree_same (arg_ty c b) (Some ty.Bool) l Bools Bools w is_bool g.second refl, tt)))

    compared_keep : (t : Ty) (a b : Arg) (k l r : KindData) → KindIs (Some t) r → KindIs (arg_ty c a) k → KindIs (arg_ty c b) l → for_ints Bools k l ≡ Some r →
        AllTrue (agree (Some t) (Some ty.Bool) ∷ agree (arg_ty c a) (Some ty.Int) ∷ agree (arg_ty c b) (Some ty.Int) ∷ [])
    compared_keep t a b k l r u v w e =
        let g = ints_from Bools k l r e in
        (agree_same (Some t) (Some ty.Bool) r Bools Bools u is_bool g.result refl, (agree_same (arg_ty c a) (Some ty.Int) k Ints Ints v is_int g.first refl, (agree_same (arg_ty c b) (Some ty.Int) l Ints Ints w is_int g.second refl, tt)))

    ints_keep : (t : Ty) (a b : Arg) (k l r : KindData) → KindIs (Some t) r → KindIs (arg_ty c a) k → KindIs (arg_ty c b) l → for_ints Ints k l ≡ Some r →
        AllTrue (agree (Some t) (Some ty.Int) ∷ agree (arg_ty c a) (Some ty.Int) ∷ agree (arg_ty c b) (Some ty.Int) ∷ [])
    ints_keep t a b k l r u v w e =
        let g = ints_from Ints k l r e in
        (agree_same (Some t) (Some ty.Int) r Ints Ints u is_int g.result refl, (agree_same (arg_ty c a) (Some ty.Int) k Ints Ints v is_int g.first refl, (agree_same (arg_ty c b) (Some ty.Int) l Ints Ints w is_int g.second refl, tt)))

    same_turned : (k l : KindData) → Alike k l → Alike l k
    same_turned Bools Bools h = refl
    same_turned Ints Ints h = refl
    same_turned (Constructors p xs) (Constructors q ys) h = turned p q h
      where
        turned : (p q : ℕ) → (p == q) ≡ true → (q == p) ≡ true
        turned p q h = grind (arith, nat_tests)
    same_turned Bools Ints h = absurd cc
    same_turned Bools (Constructors q ys) h = absurd cc
    same_turned Ints Bools h = absurd cc
    same_turned Ints (Constructors q ys) h = absurd cc
    same_turned (Constructors p xs) Bools h = absurd cc
    same_turned (Constructors p xs) Ints h = absurd cc

    equal_keep : (t : Ty) (a b : Arg) (k l r : KindData) → KindIs (Some t) r → KindIs (arg_ty c a) k → KindIs (arg_ty c b) l → for_same Bools k l ≡ Some r →
        AllTrue (agree (Some t) (Some ty.Bool) ∷ agree (arg_ty c a) (arg_ty c a) ∷ agree (arg_ty c b) (arg_ty c a) ∷ [])
    equal_keep t a b k l r u v w e =
        let g = same_from (same_kind k l) Bools r e in
        (agree_same (Some t) (Some ty.Bool) r Bools Bools u is_bool g.1 refl, (agree_as (arg_ty c a) (arg_ty c a) k k v v (same_kinds k), (agree_as (arg_ty c b) (arg_ty c a) l k w v (same_turned k l g.0), tt)))

    binary_keeps : (op : ObcOp) (t : Ty) (a b : Arg) (k l r : KindData) → KindIs (Some t) r → KindIs (arg_ty c a) k → KindIs (arg_ty c b) l → binary_kind op k l ≡ Some r → Keeps op t (a ∷ b ∷ [])
    binary_keeps And t a b k l r u v w e = (refl, bools_keep t a b k l r u v w e)
    binary_keeps Or t a b k l r u v w e = (refl, bools_keep t a b k l r u v w e)
    binary_keeps Xor t a b k l r u v w e = (refl, bools_keep t a b k l r u v w e)
    binary_keeps Imp t a b k l r u v w e = (refl, bools_keep t a b k l r u v w e)
    binary_keeps Eq t a b k l r u v w e = (refl, equal_keep t a b k l r u v w e)
    binary_keeps Ne t a b k l r u v w e = (refl, equal_keep t a b k l r u v w e)
    binary_keeps Lt t a b k l r u v w e = (refl, compared_keep t a b k l r u v w e)
    binary_keeps Le t a b k l r u v w e = (refl, compared_keep t a b k l r u v w e)
    binary_keeps Gt t a b k l r u v w e = (refl, compared_keep t a b k l r u v w e)
    binary_keeps Ge t a b k l r u v w e = (refl, compared_keep t a b k l r u v w e)
    binary_keeps Add t a b k l r u v w e = (refl, ints_keep t a b k l r u v w e)
    binary_keeps Sub t a b k l r u v w e = (refl, ints_keep t a b k l r u v w e)
    binary_keeps Mul t a b k l r u v w e = (refl, ints_keep t a b k l r u v w e)
    binary_keeps Div t a b k l r u v w e = (refl, ints_keep t a b k l r u v w e)
    binary_keeps Rem t a b k l r u v w e = (refl, ints_keep t a b k l r u v w e)
    binary_keeps Copy t a b k l r u v w e = absurd cc
    binary_keeps Not t a b k l r u v w e = absurd cc
    binary_keeps Neg t a b k l r u v w e = absurd cc
    binary_keeps Mux t a b k l r u v w e = absurd cc

    ternary_keeps : (op : ObcOp) (t : Ty) (a b d : Arg) (j k l r : KindData) → KindIs (Some t) r → KindIs (arg_ty c a) j → KindIs (arg_ty c b) k → KindIs (arg_ty c d) l → ternary_kind op j k l ≡ Some r → Keeps op t (a ∷ b ∷ d ∷ [])
    ternary_keeps Mux t a b d Bools k l r u v w y e =
        let g = same_from (same_kind k l) k r e in (
          refl,
          (
            refl,
            (
              agree_as (arg_ty c a) (Some ty.Bool) Bools Bools v is_bool refl,
              (
                agree_same (arg_ty c b) (Some t) k r k w u refl g.1,
                (agree_as (arg_ty c d) (Some t) l r y u (ap (same_kind l) g.1 ∙ same_turned k l g.0), tt),
              ),
            ),
          ),
        )
    ternary_keeps op t a b d j k l r u v w y e = absurd cc

    inner : (op : ObcOp) (o : Option (List KindData)) (r : KindData) → option_and_then (result_kind op) o ≡ Some r → is_some o ≡ true
    inner op None r e = absurd cc
    inner op (Some ks) r e = refl

    op_keeps : (op : ObcOp) (args : List Arg) (t : Ty) (r : KindData) → KindIs (Some t) r → option_and_then (result_kind op) (kinds args) ≡ Some r → Keeps op t args
    op_keeps op [] t r u e = absurd cc
    op_keeps op (a ∷ []) t r u e =
        let f = firsts_by (kind a) (Some []) (inner op (with_first (kind a) (Some [])) r e) in
        unary_keeps op t a f.first r u (arg_is a f.first f.first_is) (sym (ap (λ o. option_and_then (result_kind op) (with_first o (Some []))) f.first_is) ∙ e)
    op_keeps op (a ∷ b ∷ []) t r u e =
        let f = firsts_by (kind a) (with_first (kind b) (Some [])) (inner op (with_first (kind a) (with_first (kind b) (Some []))) r e) in
        let g = firsts_by (kind b) (Some []) (ap is_some f.others_are) in
        binary_keeps op t a b f.first g.first r u (arg_is a f.first f.first_is) (arg_is b g.first g.first_is)
        (sym (ap (λ o. option_and_then (result_kind op) (with_first o (with_first (kind b) (Some [])))) f.first_is ∙ ap (λ o. option_and_then (result_kind op) (with_first (Some f.first) (with_first o (Some [])))) g.first_is) ∙ e)
    op_keeps op (a ∷ b ∷ d ∷ []) t r u e =
        let f = firsts_by (kind a) (with_first (kind b) (with_first (kind d) (Some []))) (inner op (with_first (kind a) (with_first (kind b) (with_first (kind d) (Some [])))) r e) in
        let g = firsts_by (kind b) (with_first (kind d) (Some [])) (ap is_some f.others_are) in
        let h = firsts_by (kind d) (Some []) (ap is_some g.others_are) in
        ternary_keeps op t a b d f.first g.first h.first r u (arg_is a f.first f.first_is) (arg_is b g.first g.first_is) (arg_is d h.first h.first_is)
        (sym (ap (λ o. option_and_then (result_kind op) (with_first o (with_first (kind b) (with_first (kind d) (Some []))))) f.first_is
        ∙ ap (λ o. option_and_then (result_kind op) (with_first (Some f.first) (with_first o (with_first (kind d) (Some []))))) g.first_is
        ∙ ap (λ o. option_and_then (result_kind op) (with_first (Some f.first) (with_first (Some g.first) (with_first o (Some []))))) h.first_is) ∙ e)
    op_keeps op (a ∷ b ∷ d ∷ f ∷ args) t r u e =
        absurd (too_many op (kind a) (kind b) (kind d) (kind f) (kinds args) r e)
      where
        too_many : (op : ObcOp) (i j k l : Option KindData) (ks : Option (List KindData)) (r : KindData) → option_and_then (result_kind op) (with_first i (with_first j (with_first k (with_first l ks)))) ≡ Some r → ⊥
        too_many op None j k l ks r e = cc
        too_many op (Some i) None k l ks r e = cc
        too_many op (Some i) (Some j) None l ks r e = cc
        too_many op (Some i) (Some j) (Some k) None ks r e = cc
        too_many op (Some i) (Some j) (Some k) (Some l) None r e = cc
        too_many op (Some i) (Some j) (Some k) (Some l) (Some ks) r e = cc

    pub set_keeps : (x : List ℕ) (op : ObcOp) (args : List Arg) → BothAre (kind_in types (written m) x) (option_and_then (result_kind op) (kinds args)) → (length args ≡ arity op) × AllTrue (in_set c x op args)
    set_keeps x op args h =
        let target = name_typed (written m) x h.0 in
        let there : lookup c.written x ≡ Some target.type = sees.written_are x ∙ target.is in
        let k = some_value (kind_in types (written m) x) h.0 in
        let keeps = op_keeps op args target.type k.0 (record { type = target.type; is = refl; kind_is = target.kind_is ∙ k.1 }) (sym h.1 ∙ k.1) in
        (keeps.0, (refl, (ap is_some there, subst (λ o. AllTrue (in_op op o ++ in_args c op o (first_ty c args) 0 args)) (sym there) keeps.1)))

    -- ---- calls

    inputs_keep : (args : List Arg) (inputs : List Var) → is_some (kinds args) ≡ true → kinds args ≡ var_kinds types inputs → AllTrue (in_inputs c args inputs)
    inputs_keep [] [] h e = (refl, tt)
    inputs_keep [] (i ∷ inputs) h e = absurd (not_none_left (kind_of types i.ty) (var_kinds types inputs) (sym e))
    inputs_keep (a ∷ args) [] h e = absurd (not_none_left (kind a) (kinds args) e)
    inputs_keep (a ∷ args) (i ∷ inputs) h e =
        let f = firsts_by (kind a) (kinds args) h in
        let s = firsts_same (kind a) (kind_of types i.ty) (kinds args) (var_kinds types inputs) h e in (
          agree_as (arg_ty c a) (Some i.ty) f.first f.first (arg_is a f.first f.first_is) (record { type = i.ty; is = refl; kind_is = sym s.0 ∙ f.first_is }) (same_kinds f.first),
          inputs_keep args inputs (ap is_some f.others_are) s.1,
        )

    outs_keep : (seen : Table Ty) (outs : List (List ℕ)) (outputs : List Var) → is_some (name_kinds types (written m) outs) ≡ true → name_kinds types (written m) outs ≡ var_kinds types outputs →
        IsDistinct bytes_eq (keys seen ++ outs) → AllTrue (in_outs c seen outs outputs)
    outs_keep seen [] [] h e d = (refl, tt)
    outs_keep seen [] (o ∷ outputs) h e d = absurd (not_none_left (kind_of types o.ty) (var_kinds types outputs) (sym e))
    outs_keep seen (x ∷ xs) [] h e d = absurd (not_none_left (kind_in types (written m) x) (name_kinds types (written m) xs) e)
    outs_keep seen (x ∷ xs) (o ∷ outputs) h e d =
        let f = firsts_by (kind_in types (written m) x) (name_kinds types (written m) xs) h in
        let s = firsts_same (kind_in types (written m) x) (kind_of types o.ty) (name_kinds types (written m) xs) (var_kinds types outputs) h e in
        let target = name_typed (written m) x (ap is_some f.first_is) in
        let right = agree_as (lookup c.written x) (Some o.ty) f.first f.first (record { type = target.type; is = sees.written_are x ∙ target.is; kind_is = target.kind_is ∙ f.first_is }) (record { type = o.ty; is = refl; kind_is = sym s.0 ∙ f.first_is }) (same_kinds f.first) in (
          true_both (is_new seen x) (agree (lookup c.written x) (Some o.ty)) (distinct_new seen x xs d) right,
          outs_keep (with_entry seen x o.ty) xs outputs (ap is_some f.others_are) s.1 (distinct_next seen x o.ty xs d),
        )

    known_by : (o : Option Text) (callee : Machine) → option_map machine_of o ≡ Some callee → (t : Text) × (o ≡ Some t) × (machine_of t ≡ callee)
    known_by None callee e = absurd cc
    known_by (Some t) callee e = (t, refl, some_same e)

    pub call_keeps : (i : List ℕ) (outs : List (List ℕ)) (args : List Arg) (callee : Machine) → form.machine_of earlier m.insts i ≡ Some callee → CallForm types m callee outs args → AllTrue (in_call c i outs args)
    call_keeps i outs args callee e f =
        let k = known_by (lookup c.insts i) callee (sees.insts_are i ∙ e) in
        let outputs : outputs_of (lookup c.insts i) ≡ callee.outputs = ap outputs_of k.1 ∙ ap (λ (n : Machine). n.outputs) k.2 in
        let inputs : inputs_of (lookup c.insts i) ≡ callee.inputs = ap inputs_of k.1 ∙ ap (λ (n : Machine). n.inputs) k.2 in (
          refl,
          (
            ap is_some k.1,
            (
              refl,
              true_append (in_outs c [] outs (outputs_of (lookup c.insts i))) (true ∷ in_inputs c args (inputs_of (lookup c.insts i)))
                  (subst (λ os. AllTrue (in_outs c [] outs os)) (sym outputs) (outs_keep [] outs callee.outputs f.outputs.0 f.outputs.1 f.once))
                  (refl, subst (λ is. AllTrue (in_inputs c args is)) (sym inputs) (inputs_keep args callee.inputs f.arguments.0 f.arguments.1)),
            ),
          ),
        )

    some_by : {A B : Type 0} (f : A → B) (o : Option A) → is_some (option_map f o) ≡ true → is_some o ≡ true
    some_by f None h = absurd cc
    some_by f (Some a) h = refl

    pub reset_keeps : (i : List ℕ) → IsSome (form.machine_of earlier m.insts i) → is_some (lookup c.insts i) ≡ true
    reset_keeps i h = some_by machine_of (lookup c.insts i) (ap is_some (sees.insts_are i) ∙ h)

    -- ---- cases

    choice_by : (t : Ty) (n : ℕ) → option_and_then arms_for (kind_of types t) ≡ Some n → is_choice (Some t) ≡ true
    choice_by ty.Bool n e = refl
    choice_by ty.Int n e = absurd cc
    choice_by (ty.Enum x) n e = refl

    count_by : (o : Option KindData) (n : ℕ) → option_and_then arms_for o ≡ Some n → length (labels_of o) ≡ n
    count_by None n e = absurd cc
    count_by (Some Bools) n e = some_same e
    count_by (Some Ints) n e = absurd cc
    count_by (Some (Constructors k names)) n e = length-map names _ ∙ some_same e

    -- the values for the arms of a case
    pub record Choice (x : List ℕ) (n : ℕ) : Type 0 where
      pub chosen : is_choice (lookup c.vars x) ≡ true
      pub labels_are : labels_of_ty c.types (lookup c.vars x) ≡ labels_of (kind_in types (scope m) x)
      pub count : length (labels_of (kind_in types (scope m) x)) ≡ n

    some_kind : (o : Option KindData) (n : ℕ) → option_and_then arms_for o ≡ Some n → is_some o ≡ true
    some_kind None n e = absurd cc
    some_kind (Some k) n e = refl

    pub case_choice : (x : List ℕ) (n : ℕ) → option_and_then arms_for (kind_in types (scope m) x) ≡ Some n → Choice x n
    case_choice x n e =
        let target = name_typed (scope m) x (some_kind (kind_in types (scope m) x) n e) in
        let there : lookup c.vars x ≡ Some target.type = sees.vars_are x ∙ target.is in
        record {
          chosen = ap is_choice there ∙ choice_by target.type n (ap (option_and_then arms_for) target.kind_is ∙ e);
          labels_are = ap (labels_of_ty c.types) there ∙ ap (λ us. labels_of_ty us (Some target.type)) sees.types_are ∙ labels_same types ts knows target.type ∙ ap labels_of target.kind_is;
          count = count_by (kind_in types (scope m) x) n e;
        }
