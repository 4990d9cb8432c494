-- The names that a machine declares: their kinds, and that they differ.
use Rattle.std.proofs.Common.{◌≡◌, ℕ, zero, suc, ◌+◌, ◌<◌, ◌≤◌, Bool, true, false, nat_eq, if◌then◌else◌, List, [], ◌∷◌, length, map, take, drop, Option, Some, None, inl, inr, refl, sym, ap, subst, ◌∙◌, arith}
use Rattle.std.specs.Prelude.{IsSome}
use Rattle.std.specs.List.{AllByRecursion, IsDistinct, range_with_len}
use Rattle.std.specs.Str.{bytes_eq}
use Rattle.std.proofs.lemmas.Bool.{eqb-true}
use Rattle.std.proofs.lemmas.Bool.Decides.{nat_tests}
use Rattle.hp_base.specs.Kinds.{KindData}
use Rattle.hp_obc.specs.Machines.{ObcType}
use Rattle.hp_obc.specs.Values.{kind_of}
use Rattle.hp_obc.specs.Form.{kind_in, with_first, var_kinds}
use Rattle.hp_obc.specs.Steps.{var_names}
use Rattle.hp_obc.specs.declared.machine.Var.{Var}
use Rattle.hp_flat.specs.declared.node.Variable.{Variable}
use Rattle.hp_flat.specs.Nodes.{FlatNode}
use Rattle.hp_toobc.specs.Tables.{variable_at, name_of}
use Rattle.hp_toobc.specs.Making.{declared, is_local, locals_from}
use Rattle.law_equations.specs.Followed.Premises.{names}
use Rattle.law_equations.proofs.FollowedLemmas.Naming.{its_name, same-name}
use Rattle.law_equations.proofs.FewerLemmas.Members.{Among}

-- ---- kinds of names

named_among : (P : List ℕ → Type 0) (vars : List Var) (v : Var) → AllByRecursion P (var_names vars) → Among v vars → P v.name
named_among P [] v h a = absurd a
named_among P (w ∷ vars) v h (inl e) = subst (λ (u : Var). P u.name) (sym e) h.0
named_among P (w ∷ vars) v h (inr a) = named_among P vars v h.1 a

module _ (types : List ObcType) where
  -- a name among names that differ has the kind of its variable
  pub kind-among : (vars : List Var) (v : Var) → IsDistinct bytes_eq (var_names vars) → Among v vars → kind_in types vars v.name ≡ kind_of types v.ty
  unfolding IsDistinct
  kind-among [] v d a = absurd a
  kind-among (w ∷ vars) v d (inl e) =
      ap (λ (u : Var). kind_in types (w ∷ vars) u.name) e ∙ ap (λ b. if b then kind_of types w.ty else kind_in types vars w.name) (its_name w.name) ∙ ap (λ (u : Var). kind_of types u.ty) (sym e)
  kind-among (w ∷ vars) v d (inr a) =
      ap (λ b. if b then kind_of types w.ty else kind_in types vars v.name) (named_among (λ y. bytes_eq w.name y ≡ false) vars v d.0 a) ∙ kind-among vars v d.1 a

  both_some : (k : Option KindData) (ks : Option (List KindData)) → IsSome k → IsSome ks → IsSome (with_first k ks)
  both_some None ks h g = absurd (cc)
  both_some (Some k) None h g = absurd (cc)
  both_some (Some k) (Some ks) h g = refl

  -- where each has a kind, all have
  pub kinds-some : (vars : List Var) → AllByRecursion (λ (v : Var). IsSome (kind_of types v.ty)) vars → IsSome (var_kinds types vars)
  kinds-some [] h = refl
  kinds-some (v ∷ vars) h = both_some (kind_of types v.ty) (var_kinds types vars) h.0 (kinds-some vars h.1)

-- ---- variables by their numbers

-- the numbers of the locals among so many variables, of which the first has a number
abbrev pub local_numbers : FlatNode → ℕ → ℕ → List ℕ
local_numbers n x zero = []
local_numbers n x (suc k) = if is_local n x then x ∷ local_numbers n (x + 1) k else local_numbers n (x + 1) k

module _ (types : List ObcType) (variables : List Variable) where
  abbrev pub at : ℕ → Var
  at x = declared types (variable_at variables x)

  pub names-at : (xs : List ℕ) → var_names (map at xs) ≡ map (name_of variables) xs
  names-at [] = refl
  names-at (x ∷ xs) = ap (λ ys. name_of variables x ∷ ys) (names-at xs)

  distinct_at : IsDistinct bytes_eq (names variables) → (x : ℕ) → x < length variables → (ys : List ℕ) → AllByRecursion (λ y. y < length variables) ys → AllByRecursion (λ y. nat_eq x y ≡ false) ys
      → AllByRecursion (λ z. bytes_eq (name_of variables x) z ≡ false) (map (name_of variables) ys)
  distinct_at d x lt [] h g = tt
  distinct_at d x lt (y ∷ ys) h g = (same-name variables d x y lt h.0 ∙ g.0, distinct_at d x lt ys h.1 g.1)

  -- names of different numbers differ
  pub distinct-at : IsDistinct bytes_eq (names variables) → (xs : List ℕ) → AllByRecursion (λ x. x < length variables) xs → IsDistinct nat_eq xs → IsDistinct bytes_eq (map (name_of variables) xs)
  unfolding IsDistinct
  distinct-at d [] h g = tt
  distinct-at d (x ∷ xs) h g = (distinct_at d x h.0 xs h.1 g.0, distinct-at d xs h.1 g.1)

module _ (types : List ObcType) where
  shifted : (v : Variable) (vs : List Variable) (a b k : ℕ) → b ≡ suc a → map (at types (v ∷ vs)) (range_with_len b k) ≡ map (at types vs) (range_with_len a k)
  shifted v vs a b zero e = refl
  shifted v vs a b (suc k) e =
      let one : at types (v ∷ vs) b ≡ at types vs a = ap (at types (v ∷ vs)) e in
      let rest : map (at types (v ∷ vs)) (range_with_len (b + 1) k) ≡ map (at types vs) (range_with_len (a + 1) k) = shifted v vs (a + 1) (b + 1) k (omega (arith, e)) in λ i. one i ∷ rest i

  pub inputs-at : (vs : List Variable) (k : ℕ) → k ≤ length vs → map (declared types) (take k vs) ≡ map (at types vs) (range_with_len 0 k)
  inputs-at vs zero h = refl
  inputs-at [] (suc k) h = absurd (omega arith)
  inputs-at (v ∷ vs) (suc k) h = ap (λ zs. declared types v ∷ zs) (inputs-at vs k (omega arith) ∙ sym (shifted v vs 0 1 k refl))

  -- the variables of some numbers, from one on
  Holds : List Variable → ℕ → List Variable → Type 0
  Holds variables x [] = Unit {0}
  Holds variables x (v ∷ vs) = (variable_at variables x ≡ v) × Holds variables (x + 1) vs

  holds_more : (w : Variable) (variables : List Variable) (x y : ℕ) (vs : List Variable) → y ≡ suc x → Holds variables x vs → Holds (w ∷ variables) y vs
  unfolding Holds
  holds_more w variables x y [] e h = tt
  holds_more w variables x y (v ∷ vs) e h = (ap (variable_at (w ∷ variables)) e ∙ h.0, holds_more w variables (x + 1) (y + 1) vs (omega (arith, e)) h.1)

  holds_all : (vs : List Variable) → Holds vs 0 vs
  unfolding Holds
  holds_all [] = tt
  holds_all (v ∷ vs) = (refl, holds_more v vs 0 1 vs refl (holds_all vs))

  holds_behind : (variables : List Variable) (k : ℕ) → Holds variables k (drop k variables)
  unfolding Holds
  holds_behind variables zero = holds_all variables
  holds_behind [] (suc k) = tt
  holds_behind (v ∷ variables) (suc k) = holds_more v variables k (suc k) (drop k variables) refl (holds_behind variables k)

  locals_at : (n : FlatNode) (variables : List Variable) (x : ℕ) (vs : List Variable) → Holds variables x vs → map (declared types) (locals_from n x vs) ≡ map (at types variables) (local_numbers n x (length vs))
  unfolding Holds
  locals_at n variables x [] h = refl
  locals_at n variables x (v ∷ vs) h = by (is_local n x) (locals_at n variables (x + 1) vs h.1)
    where
      by : (d : Bool) → map (declared types) (locals_from n (x + 1) vs) ≡ map (at types variables) (local_numbers n (x + 1) (length vs))
          → map (declared types) (if d then v ∷ locals_from n (x + 1) vs else locals_from n (x + 1) vs) ≡ map (at types variables) (if d then x ∷ local_numbers n (x + 1) (length vs) else local_numbers n (x + 1) (length vs))
      by true e = λ i. declared types (sym h.0 i) ∷ e i
      by false e = e

  pub locals-at : (n : FlatNode) (variables : List Variable) → map (declared types) (locals_from n n.inputs (drop n.inputs variables)) ≡ map (at types variables) (local_numbers n n.inputs (length (drop n.inputs variables)))
  locals-at n variables = locals_at n variables n.inputs (drop n.inputs variables) (holds_behind variables n.inputs)

-- ---- the numbers of locals

pub among-local : (n : FlatNode) (a k x : ℕ) → a ≤ x → x < a + k → is_local n x ≡ true → Among x (local_numbers n a k)
among-local n a zero x h lt t = absurd (omega (arith, h, lt))
among-local n a (suc k) x h lt t = by (nat_eq a x) (is_local n a) refl refl (λ g. among-local n (a + 1) k x g (omega (arith, lt)) t)
  where
    above : nat_eq a x ≡ false → a + 1 ≤ x
    above e = grind (arith, nat_tests)

    by : (d l : Bool) → nat_eq a x ≡ d → is_local n a ≡ l → (a + 1 ≤ x → Among x (local_numbers n (a + 1) k)) → Among x (if l then a ∷ local_numbers n (a + 1) k else local_numbers n (a + 1) k)
    by true true e p f = inl (sym (eqb-true a x e))
    by true false e p f = let no : true ≡ false = sym t ∙ ap (is_local n) (sym (eqb-true a x e)) ∙ p in absurd (cc)
    by false true e p f = inr (f (above e))
    by false false e p f = f (above e)

-- what holds of all numbers from one on that are local holds of these
pub all-local : (n : FlatNode) (P : ℕ → Type 0) (a k : ℕ) → ((x : ℕ) → a ≤ x → x < a + k → is_local n x ≡ true → P x) → AllByRecursion P (local_numbers n a k)
all-local n P a zero f = tt
all-local n P a (suc k) f = by (is_local n a) refl (all-local n P (a + 1) k (λ x h lt t. f x (omega (arith, h)) (omega (arith, lt)) t))
  where
    by : (l : Bool) → is_local n a ≡ l → AllByRecursion P (local_numbers n (a + 1) k) → AllByRecursion P (if l then a ∷ local_numbers n (a + 1) k else local_numbers n (a + 1) k)
    by true p g = (f a (omega arith) (omega arith) p, g)
    by false p g = g

not_equal : (x y : ℕ) → x < y → nat_eq x y ≡ false
not_equal x y h = grind (arith, nat_tests)

pub distinct-local : (n : FlatNode) (a k : ℕ) → IsDistinct nat_eq (local_numbers n a k)
unfolding IsDistinct
distinct-local n a zero = tt
distinct-local n a (suc k) = by (is_local n a) (distinct-local n (a + 1) k)
  where
    by : (l : Bool) → IsDistinct nat_eq (local_numbers n (a + 1) k) → IsDistinct nat_eq (if l then a ∷ local_numbers n (a + 1) k else local_numbers n (a + 1) k)
    by true h = (all-local n (λ y. nat_eq a y ≡ false) (a + 1) k (λ x g lt t. not_equal a x (omega (arith, g))), h)
    by false h = h

pub distinct-range : (a k : ℕ) → IsDistinct nat_eq (range_with_len a k)
unfolding IsDistinct
distinct-range a zero = tt
distinct-range a (suc k) = (later (a + 1) k (omega arith), distinct-range (a + 1) k)
  where
    later : (b k : ℕ) → a < b → AllByRecursion (λ y. nat_eq a y ≡ false) (range_with_len b k)
    later b zero h = tt
    later b (suc k) h = (not_equal a b h, later (b + 1) k (omega (arith, h)))
