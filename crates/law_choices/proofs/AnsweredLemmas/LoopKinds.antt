-- The kinds of what a closed node takes, and of its controllable variables, are those of the plant.
use Rattle.std.proofs.Common.{◌≡◌, ℕ, zero, suc, ◌+◌, ◌<◌, ◌≤◌, Bool, true, false, ◌||◌, nat_lt, List, [], ◌∷◌, ◌++◌, length, map, get_or, refl, sym, ap, ap₂, subst, ◌∙◌, arith}
use Rattle.std.specs.List.{AllByRecursion, range_with_len}
use Rattle.hp_base.specs.Kinds.{KindData, AreOfKinds}
use Rattle.hp_flat.specs.declared.node.FlatTy.TheVariants.{Int as FlatInt}
use Rattle.hp_flat.specs.declared.node.Variable.{Variable}
use Rattle.hp_flat.specs.Nodes.{FlatNode}
use Rattle.hp_obc.specs.Machines.{ObcType}
use Rattle.hp_obc.specs.Steps.{Names}
use Rattle.law_equations.specs.Meaning.Instants.{Instant}
use Rattle.law_equations.specs.Meaning.Kinding.{Callees, IsPossible, OptionallyOf, kind_of_type, variable_kind, kinds_at}
use Rattle.law_equations.specs.Meaning.Reactions.{inputs_of, is_set}
use Rattle.law_equations.specs.Meaning.Scheduling.{AreBelow}
use Rattle.law_choices.specs.Choosing.Choices.{IsSteered}
use Rattle.law_choices.specs.Answered.Loops.{Loop, IsLoop}

-- ---- lists

range_parts : (a m k : ℕ) → range_with_len a (m + k) ≡ range_with_len a m ++ range_with_len (a + m) k
range_parts a zero k =
    let none : 0 + k ≡ k = omega arith in
    let same : a ≡ a + 0 = omega arith in
    ap (range_with_len a) none ∙ ap (λ b. range_with_len b k) same
range_parts a (suc m) k =
    let next : suc m + k ≡ suc (m + k) = omega arith in
    let same : (a + 1) + m ≡ a + suc m = omega arith in
    ap (range_with_len a) next ∙ ap (λ xs. a ∷ xs) (range_parts (a + 1) m k ∙ ap (λ b. range_with_len (a + 1) m ++ range_with_len b k) same)

range_within : (bound a n : ℕ) → a + n ≤ bound → AreBelow bound (range_with_len a n)
range_within bound a zero h = tt
range_within bound a (suc n) h = (omega (arith, h), range_within bound (a + 1) n (omega (arith, h)))

parts_length : (ks : List KindData) (js : List KindData) → length (ks ++ js) ≡ length ks + length js
parts_length [] js = omega arith
parts_length (k ∷ ks) js = let e = parts_length ks js in omega (arith, e)

kinds_many : (types : List ObcType) (n : FlatNode) (a k : ℕ) → length (kinds_at types n (range_with_len a k)) ≡ k
kinds_many types n a zero = refl
kinds_many types n a (suc k) = ap suc (kinds_many types n (a + 1) k)

kinds_parts : (types : List ObcType) (n : FlatNode) (xs ys : List ℕ) → kinds_at types n (xs ++ ys) ≡ kinds_at types n xs ++ kinds_at types n ys
kinds_parts types n [] ys = refl
kinds_parts types n (x ∷ xs) ys = ap (λ ks. variable_kind types n.variables x ∷ ks) (kinds_parts types n xs ys)

-- two lists that are one, with as many behind
same_parts : (a b c d : List KindData) → a ++ b ≡ c ++ d → length b ≡ length d → (a ≡ c) × (b ≡ d)
same_parts [] b [] d e l = (refl, e)
same_parts [] b (k ∷ c) d e l =
    let many = ap length e ∙ ap suc (parts_length c d) in
    absurd (omega (arith, many, l))
same_parts (k ∷ a) b [] d e l =
    let many = sym (ap length e) ∙ ap suc (parts_length a b) in
    absurd (omega (arith, many, l))
same_parts (j ∷ a) b (k ∷ c) d e l =
    let rest = same_parts a b c d (ap (λ (ks : List KindData). tail ks) e) l in
    (ap₂ (λ x xs. x ∷ xs) (ap (λ (ks : List KindData). head ks) e) rest.0, rest.1)
  where
    tail : List KindData → List KindData
    tail [] = []
    tail (k ∷ ks) = ks

    head : List KindData → KindData
    head [] = j
    head (k ∷ ks) = k

-- ---- variables

variable_first : (vs more : List Variable) (v : Variable) (x : ℕ) → x < length vs → get_or (vs ++ more) x v ≡ get_or vs x v
variable_first [] more v x h = absurd (omega (arith, h))
variable_first (w ∷ vs) more v zero h = refl
variable_first (w ∷ vs) more v (suc x) h = variable_first vs more v x (omega (arith, h))

module _ (types : List ObcType) (controls : ℕ) (l : Loop) (loop : IsLoop controls l) where
  kind_same : (x : ℕ) → x < length l.plant.variables → variable_kind types l.closed.variables x ≡ variable_kind types l.plant.variables x
  kind_same x h =
      let v : Variable = record { name = []; ty = FlatInt } in
      ap (λ (w : Variable). kind_of_type types w.ty) (ap (λ vs. get_or vs x v) loop.variables.1 ∙ variable_first l.plant.variables loop.variables.0 v x h)

  kinds_same : (xs : List ℕ) → AreBelow (length l.plant.variables) xs → kinds_at types l.closed xs ≡ kinds_at types l.plant xs
  kinds_same [] h = refl
  kinds_same (x ∷ xs) h = ap₂ (λ k ks. k ∷ ks) (kind_same x h.0) (kinds_same xs h.1)

  -- the kinds of the inputs of the plant are those of the inputs of the closed node, with those of the controllable variables behind them
  inputs_parts : kinds_at types l.plant (inputs_of l.plant) ≡ kinds_at types l.closed (inputs_of l.closed) ++ kinds_at types l.closed (range_with_len l.closed.inputs controls)
  inputs_parts =
      let within = loop.within in
      let start : 0 + l.closed.inputs ≡ l.closed.inputs = omega arith in
      sym (kinds_same (range_with_len 0 l.plant.inputs) (range_within (length l.plant.variables) 0 l.plant.inputs (omega (arith, within))))
      ∙ ap (λ k. kinds_at types l.closed (range_with_len 0 k)) loop.inputs
      ∙ ap (kinds_at types l.closed) (range_parts 0 l.closed.inputs controls)
      ∙ kinds_parts types l.closed (range_with_len 0 l.closed.inputs) (range_with_len (0 + l.closed.inputs) controls)
      ∙ ap (λ b. kinds_at types l.closed (inputs_of l.closed) ++ kinds_at types l.closed (range_with_len b controls)) start

  -- at an instant that is possible controllable variables have values of their kinds
  pub values_of_kinds : (now : Instant) → IsPossible types l.closed now → (xs : List ℕ) → AllByRecursion (λ x. is_set l.closed.eqns now x ≡ true) xs → AreOfKinds (kinds_at types l.closed xs) (map now xs)
  values_of_kinds now possible [] h = tt
  values_of_kinds now possible (x ∷ xs) h =
      (subst (λ b. OptionallyOf b (variable_kind types l.closed.variables x) (now x)) (ap (λ b. nat_lt x l.closed.inputs || b) h.0 ∙ or_true (nat_lt x l.closed.inputs)) (possible x), values_of_kinds now possible xs h.1)
    where
      or_true : (b : Bool) → (b || true) ≡ true
      or_true true = refl
      or_true false = refl

-- What is said of a plant is what is said of the closed node, and its controllable variables.
pub record SameKinds (types : List ObcType) (taken controlled : List KindData) (l : Loop) : Type 0 where
  pub takes : taken ≡ kinds_at types l.closed (inputs_of l.closed)
  pub controls : controlled ≡ kinds_at types l.closed (range_with_len l.closed.inputs (length controlled))

pub same_kinds : (types : List ObcType) (callees : Callees) (controls : Names (List KindData)) (l : Loop) → IsLoop (length (controls l.plant.name)) l → IsSteered types callees controls l.plant → SameKinds types (callees.takes l.plant.name) (controls l.plant.name) l
same_kinds types callees controls l loop steered =
    let count = length (controls l.plant.name) in
    let parts =
    same_parts (callees.takes l.plant.name) (controls l.plant.name) (kinds_at types l.closed (inputs_of l.closed)) (kinds_at types l.closed (range_with_len l.closed.inputs count)) (steered.takes ∙ inputs_parts types count l loop)
    (sym (kinds_many types l.closed l.closed.inputs count)) in
    record { takes = parts.0; controls = parts.1 }
