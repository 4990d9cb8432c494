-- When what a machine declares has form.
use Rattle.std.proofs.Common.{◌≡◌, ℕ, true, List, [], ◌∷◌, ◌++◌, map, Option, None, Some, refl, sym, ap, ◌∙◌, subst, append-nil}
use Rattle.std.specs.Prelude.{◌↔◌, IsSome}
use Rattle.std.specs.List.{All, IsDistinct, AllByRecursion}
use Rattle.std.specs.Str.{bytes_eq}
use Rattle.std.proofs.lemmas.List.{map-append}
use Rattle.std.proofs.lemmas.List.Elements.{recursion_from_All, All-from_recursion}
use Rattle.hp_base.specs.declared.ty.Ty.{Ty}
use Rattle.hp_obc.specs.declared.machine.Var.{Var}
use Rattle.hp_obc.specs.declared.machine.Mem.{Mem}
use Rattle.hp_obc.specs.Machines.{ObcType, Machine}
use Rattle.hp_obc.specs.Steps.{var_names}
use Rattle.hp_obc.specs.Values.{kind_of}
use Rattle.hp_obc.specs.Form.{is_name, AreNames, scope, written, mem_vars, with_first, var_kinds, constant_kind, BothAre}
use Rattle.hp_form.specs.Declaring.{keys, VarForm, VarsForm, MemsForm, NamesForm}
use Rattle.hp_form.specs.Scoping.{var_entries, mem_entries}
use Rattle.hp_form.proofs.EachLaws.{each_split, each_append}
use Rattle.hp_form.proofs.TypeLaws.{spelled}

pub keys-vars : (vars : List Var) → keys (var_entries vars) ≡ var_names vars
keys-vars [] = refl
keys-vars (v ∷ vars) = ap (λ z. v.name ∷ z) (keys-vars vars)

-- ---- kinds of variables

some_first : {A : Type 0} (o : Option A) (os : Option (List A)) → IsSome (with_first o os) → IsSome o × IsSome os
some_first None os h = absurd cc
some_first (Some x) None h = absurd cc
some_first (Some x) (Some xs) h = (refl, refl)

first_some : {A : Type 0} (o : Option A) (os : Option (List A)) → IsSome o → IsSome os → IsSome (with_first o os)
first_some None os h k = absurd cc
first_some (Some x) None h k = absurd cc
first_some (Some x) (Some xs) h k = refl

abbrev HasKind : List ObcType → Var → Type 0
HasKind types v = IsSome (kind_of types v.ty)

kinds_to : (types : List ObcType) (vars : List Var) → IsSome (var_kinds types vars) → AllByRecursion (HasKind types) vars
kinds_to types [] h = tt
kinds_to types (v ∷ vars) h = ((some_first (kind_of types v.ty) (var_kinds types vars) h).0, kinds_to types vars (some_first (kind_of types v.ty) (var_kinds types vars) h).1)

kinds_from : (types : List ObcType) (vars : List Var) → AllByRecursion (HasKind types) vars → IsSome (var_kinds types vars)
kinds_from types [] h = refl
kinds_from types (v ∷ vars) h = first_some (kind_of types v.ty) (var_kinds types vars) h.0 (kinds_from types vars h.1)

-- ---- two conditions at once

module _ {B : Type 0} (P Q : B → Type 0) where
  pub two_to : (bs : List B) → AllByRecursion (λ b. P b × Q b) bs → AllByRecursion P bs × AllByRecursion Q bs
  two_to [] h = (tt, tt)
  two_to (b ∷ bs) h = ((h.0.0, (two_to bs h.1).0), (h.0.1, (two_to bs h.1).1))

  pub two_from : (bs : List B) → AllByRecursion P bs → AllByRecursion Q bs → AllByRecursion (λ b. P b × Q b) bs
  two_from [] h k = tt
  two_from (b ∷ bs) h k = ((h.0, k.0), two_from bs h.1 k.1)

-- Variables have form where their names are names that differ, and each has a kind.
pub vars_form : (types : List ObcType) (vars : List Var) → VarsForm types [] vars ↔ (AreNames (var_names vars) × IsSome (var_kinds types vars))
vars_form types vars =
    let name = λ (v : Var). v.name in
    let halves : VarsForm types [] vars ↔ (IsDistinct bytes_eq (map (λ (v : Var). v.name) vars) × AllByRecursion (λ (v : Var). (is_name v.name ≡ true) × HasKind types v) vars) =
    each_split (λ (v : Var). v.name) (VarForm types) (λ (v : Var). (is_name v.name ≡ true) × HasKind types v) (λ olds v. ((λ h. (h.0.1, (h.0.0, h.1))), (λ h. ((h.1.0, h.0), h.1.1)))) vars in (
      (λ h. let both = two_to (λ (v : Var). is_name v.name ≡ true) (HasKind types) vars (halves.0 h).1 in (((spelled (λ (v : Var). v.name) is_name vars).0 both.0, (halves.0 h).0), kinds_from types vars both.1)),
      (λ h. halves.1 (h.0.1, two_from (λ (v : Var). is_name v.name ≡ true) (HasKind types) vars ((spelled (λ (v : Var). v.name) is_name vars).1 h.0.0) (kinds_to types vars h.1))),
    )

-- ---- memories as variables

abbrev Begins : List ObcType → Mem → Type 0
Begins types m = BothAre (kind_of types m.ty) (constant_kind types m.first)

mems_to : (types : List ObcType) (olds : List (List ℕ)) (mems : List Mem) → MemsForm types olds mems → VarsForm types olds (mem_vars mems) × AllByRecursion (Begins types) mems
mems_to types olds [] h = (tt, tt)
mems_to types olds (m ∷ mems) h = let rest = mems_to types (olds ++ m.name ∷ []) mems h.1 in (((h.0.0, h.0.1.0), rest.0), (h.0.1, rest.1))

mems_from : (types : List ObcType) (olds : List (List ℕ)) (mems : List Mem) → VarsForm types olds (mem_vars mems) → AllByRecursion (Begins types) mems → MemsForm types olds mems
mems_from types olds [] h k = tt
mems_from types olds (m ∷ mems) h k = ((h.0.0, k.0), mems_from types (olds ++ m.name ∷ []) mems h.1 k.1)

-- ---- all of them

module _ (types : List ObcType) where
  both_lists : (olds : List (List ℕ)) (xs ys : List Var) → VarsForm types olds (xs ++ ys) ↔ (VarsForm types olds xs × VarsForm types (olds ++ var_names xs) ys)
  both_lists olds xs ys = each_append (λ (v : Var). v.name) (VarForm types) olds xs ys

  pub names_to : (m : Machine) → NamesForm types m → (AreNames (var_names (scope m)) × IsSome (var_kinds types (scope m))) × All (Begins types) m.mems
  names_to m h =
      let mems = mems_to types (var_names m.inputs ++ (var_names m.outputs ++ var_names m.vars)) m.mems h.mems in
      let front : VarsForm types (var_names m.inputs) (m.outputs ++ m.vars) = (both_lists (var_names m.inputs) m.outputs m.vars).1 (h.outputs, h.vars) in
      let back : VarsForm types (var_names m.inputs ++ var_names (m.outputs ++ m.vars)) (mem_vars m.mems) =
      subst (λ z. VarsForm types (var_names m.inputs ++ z) (mem_vars m.mems)) (sym (map-append (λ (v : Var). v.name) m.outputs m.vars)) mems.0 in
      let rest : VarsForm types (var_names m.inputs) (written m) = (both_lists (var_names m.inputs) (m.outputs ++ m.vars) (mem_vars m.mems)).1 (front, back) in
      ((vars_form types (scope m)).0 ((both_lists [] m.inputs (written m)).1 (h.inputs, rest)), All-from_recursion (Begins types) m.mems mems.1)

  pub names_from : (m : Machine) → AreNames (var_names (scope m)) → IsSome (var_kinds types (scope m)) → All (Begins types) m.mems → NamesForm types m
  names_from m h k f =
      let whole = (both_lists [] m.inputs (written m)).0 ((vars_form types (scope m)).1 (h, k)) in
      let parts = (both_lists (var_names m.inputs) (m.outputs ++ m.vars) (mem_vars m.mems)).0 whole.1 in
      let front = (both_lists (var_names m.inputs) m.outputs m.vars).0 parts.0 in
      record {
        inputs = whole.0;
        outputs = front.0;
        vars = front.1;
        mems = mems_from types (var_names m.inputs ++ (var_names m.outputs ++ var_names m.vars)) m.mems
            (subst (λ z. VarsForm types (var_names m.inputs ++ z) (mem_vars m.mems)) (map-append (λ (v : Var). v.name) m.outputs m.vars) parts.1) (recursion_from_All (Begins types) m.mems f);
      }

-- ---- names that are added section by section

pub vars_moved : (types : List ObcType) (olds news : List (List ℕ)) (xs ys : List Var) → olds ≡ news → xs ≡ ys → VarsForm types olds xs ↔ VarsForm types news ys
vars_moved types olds news xs ys e f =
    ((λ h. subst (λ z. VarsForm types z ys) e (subst (VarsForm types olds) f h)), (λ h. subst (λ z. VarsForm types z xs) (sym e) (subst (VarsForm types news) (sym f) h)))

pub mems_moved : (types : List ObcType) (olds news : List (List ℕ)) (xs ys : List Mem) → olds ≡ news → xs ≡ ys → MemsForm types olds xs ↔ MemsForm types news ys
mems_moved types olds news xs ys e f =
    ((λ h. subst (λ z. MemsForm types z ys) e (subst (MemsForm types olds) f h)), (λ h. subst (λ z. MemsForm types z xs) (sym e) (subst (MemsForm types news) (sym f) h)))

pub first_entries : (known new : List (List ℕ × Ty)) (xs ys : List Var) → known ≡ [] → xs ≡ ys → new ≡ known ++ var_entries xs → new ≡ var_entries ys
first_entries known new xs ys e f h = h ∙ (λ i. e i ++ var_entries (f i))

pub more_entries : (known new : List (List ℕ × Ty)) (front xs ys : List Var) → known ≡ var_entries front → xs ≡ ys → new ≡ known ++ var_entries xs → new ≡ var_entries (front ++ ys)
more_entries known new front xs ys e f h = h ∙ (λ i. e i ++ var_entries (f i)) ∙ sym (map-append (λ (v : Var). (v.name, v.ty)) front ys)

pub all_entries : (known new : List (List ℕ × Ty)) (front : List Var) (xs ys : List Mem) → known ≡ var_entries front → xs ≡ ys → new ≡ known ++ mem_entries xs → new ≡ var_entries (front ++ mem_vars ys)
all_entries known new front xs ys e f h = h ∙ (λ i. e i ++ mem_entries (f i)) ∙ ap (λ z. var_entries front ++ z) (as_vars ys) ∙ sym (map-append (λ (v : Var). (v.name, v.ty)) front (mem_vars ys))
  where
    as_vars : (mems : List Mem) → mem_entries mems ≡ var_entries (mem_vars mems)
    as_vars [] = refl
    as_vars (m ∷ mems) = ap (λ z. (m.name, m.ty) ∷ z) (as_vars mems)

pub olds_first : (inputs known : List (List ℕ × Ty)) (xs : List Var) → inputs ≡ var_entries xs → known ≡ [] → keys inputs ++ keys known ≡ var_names xs
olds_first inputs known xs e f = (λ i. keys (e i) ++ keys (f i)) ∙ append-nil (keys (var_entries xs)) ∙ keys-vars xs

pub olds_more : (inputs known : List (List ℕ × Ty)) (xs ys : List Var) → inputs ≡ var_entries xs → known ≡ var_entries ys → keys inputs ++ keys known ≡ var_names xs ++ var_names ys
olds_more inputs known xs ys e f = (λ i. keys (e i) ++ keys (f i)) ∙ (λ i. keys-vars xs i ++ keys-vars ys i)

pub olds_all : (inputs known : List (List ℕ × Ty)) (xs ys zs : List Var) → inputs ≡ var_entries xs → known ≡ var_entries (ys ++ zs) → keys inputs ++ keys known ≡ var_names xs ++ (var_names ys ++ var_names zs)
olds_all inputs known xs ys zs e f = olds_more inputs known xs (ys ++ zs) e f ∙ ap (λ z. var_names xs ++ z) (map-append (λ (v : Var). v.name) ys zs)
