-- What the variables of a machine hold before a step.
use Rattle.std.proofs.Common.{◌≡◌, ℕ, zero, suc, ◌+◌, ◌<◌, ◌≤◌, Bool, true, false, List, [], ◌∷◌, ◌++◌, length, map, take, drop, Option, Some, None, option_map, if◌then◌else◌, refl, sym, ap, ◌∙◌, arith}
use Rattle.std.specs.List.{AllByRecursion, range_with_len}
use Rattle.std.specs.Str.{bytes_eq}
use Rattle.hp_base.specs.Kinds.{KindData, Bools, Ints, Constructors}
use Rattle.hp_base.specs.declared.value.Value.{Value}
use Rattle.hp_obc.specs.declared.machine.Var.{Var}
use Rattle.hp_obc.specs.Machines.{ObcType}
use Rattle.hp_obc.specs.Values.{kind_of, first_of_kind, first_value, or_absent}
use Rattle.hp_obc.specs.Steps.{Names, all_given, arm_number, var_names}
use Rattle.hp_flat.specs.declared.node.Variable.{Variable}
use Rattle.hp_flat.specs.Nodes.{FlatNode}
use Rattle.hp_toobc.specs.Tables.{variable_at, name_of}
use Rattle.hp_toobc.specs.Making.{declared, is_local, locals_from}
use Rattle.law_equations.specs.Followed.Premises.{names}

-- the first value of a type is chosen by as `false`
first_arm : (k : Option KindData) → arm_number (or_absent (option_map first_of_kind k)) ≡ 0
first_arm None = refl
first_arm (Some Bools) = refl
first_arm (Some Ints) = refl
first_arm (Some (Constructors n cons)) = refl

given_by : (d : Bool) (v w : Value) → arm_number v ≡ 0 → arm_number w ≡ 0 → arm_number (if d then v else w) ≡ 0
given_by true v w h g = h
given_by false v w h g = g

-- so is each name among variables that hold first values
pub first-arm : (types : List ObcType) (vs : List Var) (g : Names Value) (y : List ℕ) → arm_number (g y) ≡ 0 → arm_number (all_given (var_names vs) (map (λ (v : Var). first_value types v.ty) vs) g y) ≡ 0
first-arm types [] g y h = h
first-arm types (v ∷ vs) g y h =
    given_by (bytes_eq v.name y) (first_value types v.ty) (all_given (var_names vs) (map (λ (w : Var). first_value types w.ty) vs) g y) (first_arm (kind_of types v.ty)) (first-arm types vs g y h)

-- ---- names that are declared

pub var_names-append : (xs ys : List Var) → var_names (xs ++ ys) ≡ var_names xs ++ var_names ys
var_names-append [] ys = refl
var_names-append (v ∷ xs) ys = ap (λ zs. v.name ∷ zs) (var_names-append xs ys)

pub var_names-declared : (types : List ObcType) (vs : List Variable) → var_names (map (declared types) vs) ≡ names vs
var_names-declared types [] = refl
var_names-declared types (v ∷ vs) = ap (λ zs. v.name ∷ zs) (var_names-declared types vs)

pub var_names-outputs : (types : List ObcType) (variables : List Variable) (xs : List ℕ) → var_names (map (λ x. declared types (variable_at variables x)) xs) ≡ map (name_of variables) xs
var_names-outputs types variables [] = refl
var_names-outputs types variables (x ∷ xs) = ap (λ zs. name_of variables x ∷ zs) (var_names-outputs types variables xs)

module _ (P : List ℕ → Type 0) where
  pub taken_names : (k : ℕ) (vs : List Variable) → AllByRecursion P (names vs) → AllByRecursion P (names (take k vs))
  taken_names zero vs h = tt
  taken_names (suc k) [] h = tt
  taken_names (suc k) (v ∷ vs) h = (h.0, taken_names k vs h.1)

  pub dropped_names : (k : ℕ) (vs : List Variable) → AllByRecursion P (names vs) → AllByRecursion P (names (drop k vs))
  dropped_names zero vs h = h
  dropped_names (suc k) [] h = tt
  dropped_names (suc k) (v ∷ vs) h = dropped_names k vs h.1

  local_by : (d : Bool) (v : Variable) (vs : List Variable) → P v.name → AllByRecursion P (names vs) → AllByRecursion P (names (if d then v ∷ vs else vs))
  local_by true v vs h g = (h, g)
  local_by false v vs h g = g

  pub local_names : (n : FlatNode) (x : ℕ) (vs : List Variable) → AllByRecursion P (names vs) → AllByRecursion P (names (locals_from n x vs))
  local_names n x [] h = tt
  local_names n x (v ∷ vs) h = local_by (is_local n x) v (locals_from n (x + 1) vs) h.0 (local_names n (x + 1) vs h.1)

  pub each_of_append : (xs ys : List (List ℕ)) → AllByRecursion P xs → AllByRecursion P ys → AllByRecursion P (xs ++ ys)
  each_of_append [] ys h g = g
  each_of_append (x ∷ xs) ys h g = (h.0, each_of_append xs ys h.1 g)

-- ---- inputs

-- variables behind some others
shifted : (v : Variable) (vs : List Variable) (a b k : ℕ) → b ≡ suc a → map (name_of (v ∷ vs)) (range_with_len b k) ≡ map (name_of vs) (range_with_len a k)
shifted v vs a b zero e = refl
shifted v vs a b (suc k) e =
    let one : name_of (v ∷ vs) b ≡ name_of vs a = ap (name_of (v ∷ vs)) e in
    let rest : map (name_of (v ∷ vs)) (range_with_len (b + 1) k) ≡ map (name_of vs) (range_with_len (a + 1) k) = shifted v vs (a + 1) (b + 1) k (omega (arith, e)) in λ i. one i ∷ rest i

pub input-names : (vs : List Variable) (k : ℕ) → k ≤ length vs → names (take k vs) ≡ map (name_of vs) (range_with_len 0 k)
input-names vs zero h = refl
input-names [] (suc k) h = absurd (omega arith)
input-names (v ∷ vs) (suc k) h = ap (λ zs. v.name ∷ zs) (input-names vs k (omega arith) ∙ sym (shifted v vs 0 1 k refl))

pub inputs-below : (a k n : ℕ) → a + k ≤ n → AllByRecursion (λ x. x < n) (range_with_len a k)
inputs-below a zero n h = tt
inputs-below a (suc k) n h = (omega arith, inputs-below (a + 1) k n (omega arith))
