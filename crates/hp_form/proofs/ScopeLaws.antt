-- Kinds of names and of arguments, looked up.
use Rattle.std.proofs.Common.{◌≡◌, ℕ, zero, suc, ◌+◌, ◌<◌, ◌≤◌, Bool, true, false, if◌then◌else◌, List, [], ◌∷◌, ◌++◌, length, get_or, drop, Option, None, Some, refl, sym, ap, ◌∙◌, subst, arith}
use Rattle.std.specs.Prelude.{◌↔◌, option_and_then}
use Rattle.std.specs.Bool.{Decides}
use Rattle.std.specs.Str.{bytes_eq}
use Rattle.std.proofs.lemmas.List.{drop_more}
use Rattle.hp_obc.proofs.Positions.{bytes_eq-sym}
use Rattle.hp_base.specs.Kinds.{KindData}
use Rattle.hp_base.specs.declared.ty.Ty.{Ty}
use Rattle.hp_obc.specs.declared.command.Arg.{Arg}
use Rattle.hp_obc.specs.declared.command.ObcOp.{ObcOp}
use Rattle.hp_obc.specs.declared.machine.Var.{Var}
use Rattle.hp_obc.specs.Machines.{ObcType, Machine}
use Rattle.hp_obc.specs.Values.{kind_of}
use Rattle.hp_obc.specs.Form.{kind_in, argument_kind, argument_kinds, name_kinds, var_kinds, with_first, result_kind, BothAre, CallForm, HasForm, ArmsHaveForm, arms_for, scope, written, arm_count}
use Rattle.hp_obc.specs.Commands.{Cmds, arms_of, case_of}
use Rattle.std.specs.List.{IsDistinct}
use Rattle.hp_base.specs.Known.Known.{lookup}
use Rattle.hp_form.specs.Kinds.{on_one, on_two, on_three}
use Rattle.hp_form.specs.Scoping.{var_entries, Agree}
use Rattle.hp_form.proofs.EachLaws.{one_done, one_fails, all_done}

-- ---- names

found_by : (d e : Bool) (types : List ObcType) (t u : Ty) (o : Option Ty) (k : Option KindData) → d ≡ e → (o ≡ Some u → k ≡ kind_of types u) → (if d then Some t else o) ≡ Some u → (if e then kind_of types t else k) ≡ kind_of types u
found_by true true types t u o k p h q = let e : t ≡ u = cc in ap (kind_of types) e
found_by false false types t u o k p h q = h q
found_by true false types t u o k p h q = absurd cc
found_by false true types t u o k p h q = absurd cc

pub kind_found : (types : List ObcType) (vars : List Var) (x : List ℕ) (t : Ty) → Some t ≡ lookup (var_entries vars) x → kind_in types vars x ≡ kind_of types t
kind_found types [] x t h = absurd cc
kind_found types (v ∷ vars) x t h =
    found_by (bytes_eq x v.name) (bytes_eq v.name x) types v.ty t (lookup (var_entries vars) x) (kind_in types vars x) (bytes_eq-sym x v.name) (λ q. kind_found types vars x t (sym q)) (sym h)

none_by : (d e : Bool) (types : List ObcType) (t : Ty) (o : Option Ty) (k : Option KindData) → d ≡ e → (o ≡ None → k ≡ None) → (if d then Some t else o) ≡ None → (if e then kind_of types t else k) ≡ None
none_by true true types t o k p h q = absurd cc
none_by false false types t o k p h q = h q
none_by true false types t o k p h q = absurd cc
none_by false true types t o k p h q = absurd cc

pub kind_missing : (types : List ObcType) (vars : List Var) (x : List ℕ) → None ≡ lookup (var_entries vars) x → None ≡ kind_in types vars x
kind_missing types [] x h = refl
kind_missing types (v ∷ vars) x h =
    sym (none_by (bytes_eq x v.name) (bytes_eq v.name x) types v.ty (lookup (var_entries vars) x) (kind_in types vars x) (bytes_eq-sym x v.name) (λ q. sym (kind_missing types vars x (sym q))) (sym h))

-- a name among the first of some variables, and one that is not
pub kind_front : (types : List ObcType) (vars more : List Var) (x : List ℕ) (t : Ty) → Some t ≡ lookup (var_entries vars) x → kind_in types (vars ++ more) x ≡ kind_of types t
kind_front types [] more x t h = absurd cc
kind_front types (v ∷ vars) more x t h =
    found_by (bytes_eq x v.name) (bytes_eq v.name x) types v.ty t (lookup (var_entries vars) x) (kind_in types (vars ++ more) x) (bytes_eq-sym x v.name) (λ q. kind_front types vars more x t (sym q)) (sym h)

behind_by : (d e : Bool) (types : List ObcType) (t : Ty) (o : Option Ty) (k l : Option KindData) → d ≡ e → (o ≡ None → k ≡ l) → (if d then Some t else o) ≡ None → (if e then kind_of types t else k) ≡ l
behind_by true true types t o k l p h q = absurd cc
behind_by false false types t o k l p h q = h q
behind_by true false types t o k l p h q = absurd cc
behind_by false true types t o k l p h q = absurd cc

pub kind_behind : (types : List ObcType) (vars more : List Var) (x : List ℕ) → None ≡ lookup (var_entries vars) x → kind_in types (vars ++ more) x ≡ kind_in types more x
kind_behind types [] more x h = refl
kind_behind types (v ∷ vars) more x h =
    behind_by (bytes_eq x v.name) (bytes_eq v.name x) types v.ty (lookup (var_entries vars) x) (kind_in types (vars ++ more) x) (kind_in types more x) (bytes_eq-sym x v.name) (λ q. kind_behind types vars more x (sym q)) (sym h)

-- ---- arguments of operators

one_kind : (op : ObcOp) (o : Option KindData) → option_and_then (result_kind op) (with_first o (Some [])) ≡ on_one op o
one_kind op None = refl
one_kind op (Some k) = refl

two_kinds : (op : ObcOp) (o p : Option KindData) → option_and_then (result_kind op) (with_first o (with_first p (Some []))) ≡ on_two op o p
two_kinds op None None = refl
two_kinds op None (Some l) = refl
two_kinds op (Some k) None = refl
two_kinds op (Some k) (Some l) = refl

three_kinds : (op : ObcOp) (o p q : Option KindData) → option_and_then (result_kind op) (with_first o (with_first p (with_first q (Some [])))) ≡ on_three op o p q
three_kinds op None None None = refl
three_kinds op None None (Some l) = refl
three_kinds op None (Some k) None = refl
three_kinds op None (Some k) (Some l) = refl
three_kinds op (Some j) None None = refl
three_kinds op (Some j) None (Some l) = refl
three_kinds op (Some j) (Some k) None = refl
three_kinds op (Some j) (Some k) (Some l) = refl

front_none : {A : Type 0} (o : Option A) → with_first o None ≡ None
front_none None = refl
front_none (Some x) = refl

four_kinds : (op : ObcOp) (o p q r : Option KindData) (rest : Option (List KindData)) → option_and_then (result_kind op) (with_first o (with_first p (with_first q (with_first r rest)))) ≡ None
four_kinds op o p q r None =
    ap (λ z. option_and_then (result_kind op) (with_first o (with_first p (with_first q z)))) (front_none r)
    ∙ ap (λ z. option_and_then (result_kind op) (with_first o (with_first p z))) (front_none q)
    ∙ ap (λ z. option_and_then (result_kind op) (with_first o z)) (front_none p) ∙ ap (option_and_then (result_kind op)) (front_none o)
four_kinds op o p q None (Some rest) =
    ap (λ z. option_and_then (result_kind op) (with_first o (with_first p z))) (front_none q)
    ∙ ap (λ z. option_and_then (result_kind op) (with_first o z)) (front_none p) ∙ ap (option_and_then (result_kind op)) (front_none o)
four_kinds op o p None (Some m) (Some rest) = ap (λ z. option_and_then (result_kind op) (with_first o z)) (front_none p) ∙ ap (option_and_then (result_kind op)) (front_none o)
four_kinds op o None (Some l) (Some m) (Some rest) = ap (option_and_then (result_kind op)) (front_none o)
four_kinds op None (Some k) (Some l) (Some m) (Some rest) = refl
four_kinds op (Some j) (Some k) (Some l) (Some m) (Some rest) = refl

module _ (types : List ObcType) (vars : List Var) (op : ObcOp) where
  pub given_one : (args : List Arg) (d : Arg) → length args ≡ 1 → option_and_then (result_kind op) (argument_kinds types vars args) ≡ on_one op (argument_kind types vars (get_or args 0 d))
  given_one [] d h = absurd (omega (arith, h))
  given_one (a ∷ []) d h = one_kind op (argument_kind types vars a)
  given_one (a ∷ b ∷ args) d h = absurd (omega (arith, h))

  pub given_two : (args : List Arg) (d e : Arg) → length args ≡ 2 → option_and_then (result_kind op) (argument_kinds types vars args) ≡ on_two op (argument_kind types vars (get_or args 0 d)) (argument_kind types vars (get_or args 1 e))
  given_two [] d e h = absurd (omega (arith, h))
  given_two (a ∷ []) d e h = absurd (omega (arith, h))
  given_two (a ∷ b ∷ []) d e h = two_kinds op (argument_kind types vars a) (argument_kind types vars b)
  given_two (a ∷ b ∷ c ∷ args) d e h = absurd (omega (arith, h))

  pub given_three : (args : List Arg) (d e f : Arg) → length args ≡ 3
      → option_and_then (result_kind op) (argument_kinds types vars args) ≡ on_three op (argument_kind types vars (get_or args 0 d)) (argument_kind types vars (get_or args 1 e)) (argument_kind types vars (get_or args 2 f))
  given_three [] d e f h = absurd (omega (arith, h))
  given_three (a ∷ []) d e f h = absurd (omega (arith, h))
  given_three (a ∷ b ∷ []) d e f h = absurd (omega (arith, h))
  given_three (a ∷ b ∷ c ∷ []) d e f h = three_kinds op (argument_kind types vars a) (argument_kind types vars b) (argument_kind types vars c)
  given_three (a ∷ b ∷ c ∷ g ∷ args) d e f h = absurd (omega (arith, h))

  pub given_else : (args : List Arg) → (length args ≡ 1 → ⊥) → (length args ≡ 2 → ⊥) → (length args ≡ 3 → ⊥) → None ≡ option_and_then (result_kind op) (argument_kinds types vars args)
  given_else [] p q r = refl
  given_else (a ∷ []) p q r = absurd (p refl)
  given_else (a ∷ b ∷ []) p q r = absurd (q refl)
  given_else (a ∷ b ∷ c ∷ []) p q r = absurd (r refl)
  given_else (a ∷ b ∷ c ∷ d ∷ args) p q r = sym (four_kinds op (argument_kind types vars a) (argument_kind types vars b) (argument_kind types vars c) (argument_kind types vars d) (argument_kinds types vars args))

-- ---- lists of kinds that agree

none_is : false ≡ true → ⊥
none_is h = absurd cc

no_second : {B : Type 0} (o : Option B) → BothAre o None → ⊥
no_second None h = none_is h.0
no_second (Some b) h = let e = h.1 in absurd cc

no_more : (o : Option KindData) (ps : Option (List KindData)) → ◌≡◌ {A = Option (List KindData)} (Some []) (with_first o ps) → ⊥
no_more None ps h = absurd cc
no_more (Some k) None h = absurd cc
no_more (Some k) (Some ks) h = absurd cc

no_less : (o : Option KindData) (ps : Option (List KindData)) → ◌≡◌ {A = Option (List KindData)} (with_first o ps) (Some []) → ⊥
no_less None ps h = absurd cc
no_less (Some k) None h = absurd cc
no_less (Some k) (Some ks) h = absurd cc

module _ {A : Type 0} (kind : A → Option KindData) (types : List ObcType) where
  abbrev pub kinds_by : List A → Option (List KindData)
  kinds_by [] = Some []
  kinds_by (a ∷ things) = with_first (kind a) (kinds_by things)

  both_heads : (o p : Option KindData) (os ps : Option (List KindData)) → BothAre (with_first o os) (with_first p ps) ↔ (BothAre o p × BothAre os ps)
  both_heads None p os ps = ((λ h. absurd (none_is h.0)), (λ h. absurd (none_is h.0.0)))
  both_heads (Some k) None os ps = ((λ h. absurd (no_second (with_first (Some k) os) h)), (λ h. absurd (no_second (Some k) h.0)))
  both_heads (Some k) (Some l) None ps = ((λ h. absurd (none_is h.0)), (λ h. absurd (none_is h.1.0)))
  both_heads (Some k) (Some l) (Some ks) None = ((λ h. absurd (no_second (Some (k ∷ ks)) h)), (λ h. absurd (no_second (Some ks) h.1)))
  both_heads (Some k) (Some l) (Some ks) (Some ls) = (
    (λ h. let e : ◌≡◌ {A = Option (List KindData)} (Some (k ∷ ks)) (Some (l ∷ ls)) = h.1 in let f : k ≡ l = cc in let g : ks ≡ ls = cc in ((refl, ap Some f), (refl, ap Some g))),
    (λ h. let e : ◌≡◌ {A = Option KindData} (Some k) (Some l) = h.0.1 in let f : ◌≡◌ {A = Option (List KindData)} (Some ks) (Some ls) = h.1.1 in (refl, cc)),
  )

  -- as many things as variables, each of its kind
  pub agree : (things : List A) (vars : List Var) → BothAre (kinds_by things) (var_kinds types vars) ↔ Agree kind types things vars
  agree [] [] = ((λ h. tt), (λ h. (refl, refl)))
  agree [] (v ∷ vars) = ((λ h. no_more (kind_of types v.ty) (var_kinds types vars) h.1), (λ h. absurd h))
  agree (a ∷ things) [] = ((λ h. no_less (kind a) (kinds_by things) h.1), (λ h. absurd h))
  agree (a ∷ things) (v ∷ vars) =
      let heads = both_heads (kind a) (kind_of types v.ty) (kinds_by things) (var_kinds types vars) in
      let rest = agree things vars in
      ((λ h. ((heads.0 h).0, rest.0 (heads.0 h).1)), (λ h. heads.1 (h.0, rest.1 h.1)))

  next_left : {B : Type 0} (xs : List B) (i : ℕ) → length xs ≤ i → drop i xs ≡ []
  next_left [] zero l = refl
  next_left [] (suc i) l = refl
  next_left (b ∷ xs) zero l = absurd (omega (arith, l))
  next_left (b ∷ xs) (suc i) l = next_left xs i (omega (arith, l))

  pub agree_at : (things : List A) (vars : List Var) (i : ℕ) (a : A) (v : Var) → a ≡ get_or things i a → v ≡ get_or vars i v → BothAre (kind a) (kind_of types v.ty) → BothAre (kind (get_or things i a)) (kind_of types (get_or vars i v).ty)
  agree_at things vars i a v p q h = subst (λ z. BothAre (kind (get_or things i a)) (kind_of types z.ty)) q (subst (λ z. BothAre (kind z) (kind_of types v.ty)) p h)

  pub agree_back : (things : List A) (vars : List Var) (i : ℕ) (a : A) (v : Var) → a ≡ get_or things i a → v ≡ get_or vars i v → BothAre (kind (get_or things i a)) (kind_of types (get_or vars i v).ty) → BothAre (kind a) (kind_of types v.ty)
  agree_back things vars i a v p q h = subst (λ z. BothAre (kind z) (kind_of types v.ty)) (sym p) (subst (λ z. BothAre (kind (get_or things i a)) (kind_of types z.ty)) (sym q) h)

  pub agree_next : (things : List A) (vars : List Var) (i : ℕ) (a : A) (v : Var) (R : Type 0) → Agree kind types (drop i things) (drop i vars) ↔ R → i < length things → length things ≡ length vars
      → BothAre (kind (get_or things i a)) (kind_of types (get_or vars i v).ty) → Agree kind types (drop (i + 1) things) (drop (i + 1) vars) ↔ R
  agree_next things vars i a v R h l n p =
      one_done (subst (λ z. Agree kind types (get_or things i a ∷ drop (i + 1) things) z ↔ R) (drop_more vars i v (omega (arith, l, n))) (subst (λ z. Agree kind types z (drop i vars) ↔ R) (drop_more things i a l) h)) p

  pub agree_fails : (things : List A) (vars : List Var) (i : ℕ) (a : A) (v : Var) (R : Type 0) → Agree kind types (drop i things) (drop i vars) ↔ R → i < length things → length things ≡ length vars
      → (BothAre (kind (get_or things i a)) (kind_of types (get_or vars i v).ty) → ⊥) → Decides false R
  agree_fails things vars i a v R h l n p =
      one_fails (subst (λ z. Agree kind types (get_or things i a ∷ drop (i + 1) things) z ↔ R) (drop_more vars i v (omega (arith, l, n))) (subst (λ z. Agree kind types z (drop i vars) ↔ R) (drop_more things i a l) h)) p

  pub agree_ends : (things : List A) (vars : List Var) (i : ℕ) (R : Type 0) → Agree kind types (drop i things) (drop i vars) ↔ R → length things ≤ i → length things ≡ length vars → Decides true R
  agree_ends things vars i R h l n =
      all_done (subst (λ z. Agree kind types [] z ↔ R) (next_left vars i (omega (arith, l, n))) (subst (λ z. Agree kind types z (drop i vars) ↔ R) (next_left things i l) h)) tt

  as_many : (things : List A) (vars : List Var) → Agree kind types things vars → length things ≡ length vars
  as_many [] [] h = refl
  as_many [] (v ∷ vars) h = absurd h
  as_many (a ∷ things) [] h = absurd h
  as_many (a ∷ things) (v ∷ vars) h = ap suc (as_many things vars h.1)

  pub agree_not : (things : List A) (vars : List Var) → (length things ≡ length vars → ⊥) → Decides false (Agree kind types things vars)
  agree_not things vars n = ((λ e. absurd cc), (λ h. absurd (n (as_many things vars h))))

pub argument_kinds_by : (types : List ObcType) (vars : List Var) (args : List Arg) → argument_kinds types vars args ≡ kinds_by (argument_kind types vars) types args
argument_kinds_by types vars [] = refl
argument_kinds_by types vars (a ∷ args) = ap (with_first (argument_kind types vars a)) (argument_kinds_by types vars args)

pub name_kinds_by : (types : List ObcType) (vars : List Var) (xs : List (List ℕ)) → name_kinds types vars xs ≡ kinds_by (kind_in types vars) types xs
name_kinds_by types vars [] = refl
name_kinds_by types vars (x ∷ xs) = ap (with_first (kind_in types vars x)) (name_kinds_by types vars xs)

pub args_agree : (types : List ObcType) (vars : List Var) (args : List Arg) (inputs : List Var) → BothAre (argument_kinds types vars args) (var_kinds types inputs) ↔ Agree (argument_kind types vars) types args inputs
args_agree types vars args inputs = subst (λ z. BothAre z (var_kinds types inputs) ↔ Agree (argument_kind types vars) types args inputs) (sym (argument_kinds_by types vars args)) (agree (argument_kind types vars) types args inputs)

pub outs_agree : (types : List ObcType) (vars : List Var) (outs : List (List ℕ)) (outputs : List Var) → BothAre (name_kinds types vars outs) (var_kinds types outputs) ↔ Agree (kind_in types vars) types outs outputs
outs_agree types vars outs outputs = subst (λ z. BothAre z (var_kinds types outputs) ↔ Agree (kind_in types vars) types outs outputs) (sym (name_kinds_by types vars outs)) (agree (kind_in types vars) types outs outputs)

-- ---- the parts of a call

pub call_form : (types : List ObcType) (m callee : Machine) (outs : List (List ℕ)) (args : List Arg) (inputs outputs : List Var) → inputs ≡ callee.inputs → outputs ≡ callee.outputs
    → Agree (argument_kind types (scope m)) types args inputs → Agree (kind_in types (written m)) types outs outputs → IsDistinct bytes_eq outs → CallForm types m callee outs args
call_form types m callee outs args inputs outputs e f p q d = record {
  arguments = (args_agree types (scope m) args callee.inputs).1 (subst (Agree (argument_kind types (scope m)) types args) e p);
  outputs = (outs_agree types (written m) outs callee.outputs).1 (subst (Agree (kind_in types (written m)) types outs) f q);
  once = d;
}

pub call_args : (types : List ObcType) (m callee : Machine) (outs : List (List ℕ)) (args : List Arg) (inputs : List Var) → inputs ≡ callee.inputs → CallForm types m callee outs args → Agree (argument_kind types (scope m)) types args inputs
call_args types m callee outs args inputs e h = subst (Agree (argument_kind types (scope m)) types args) (sym e) ((args_agree types (scope m) args callee.inputs).0 h.arguments)

pub call_outs : (types : List ObcType) (m callee : Machine) (outs : List (List ℕ)) (args : List Arg) (outputs : List Var) → outputs ≡ callee.outputs → CallForm types m callee outs args → Agree (kind_in types (written m)) types outs outputs
call_outs types m callee outs args outputs e h = subst (Agree (kind_in types (written m)) types outs) (sym e) ((outs_agree types (written m) outs callee.outputs).0 h.outputs)

pub count-listed : (arms : List Cmds) → arm_count (arms_of arms) ≡ length arms
count-listed [] = refl
count-listed (cs ∷ arms) = ap suc (count-listed arms)

-- ---- a case

module _ (types : List ObcType) (earlier : List Machine) (m : Machine) where
  pub case_not : (x : List ℕ) (arms : List Cmds) (n : ℕ) → n ≡ length arms → (option_and_then arms_for (kind_in types (scope m) x) ≡ Some n → ⊥) → Decides false (HasForm types earlier m (case_of x (arms_of arms)))
  case_not x arms n e f = ((λ h. absurd cc), (λ h. absurd (f (h.0 ∙ ap Some (count-listed arms ∙ sym e)))))

  pub case_by : (x : List ℕ) (arms those : List Cmds) (n : ℕ) (b : Bool) → n ≡ length arms → those ≡ arms → option_and_then arms_for (kind_in types (scope m) x) ≡ Some n → Decides b (ArmsHaveForm types earlier m (arms_of those))
      → Decides b (HasForm types earlier m (case_of x (arms_of arms)))
  case_by x arms those n b e f h d = (
    (λ t. (h ∙ ap Some (e ∙ sym (count-listed arms)), subst (λ z. ArmsHaveForm types earlier m (arms_of z)) f (d.0 t))),
    (λ g. d.1 (subst (λ z. ArmsHaveForm types earlier m (arms_of z)) (sym f) g.1)),
  )
