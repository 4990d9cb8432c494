-- Equations in which no variable depends on itself.
use Rattle.std.proofs.Common.{◌≡◌, ◌⊎◌, inl, inr, ℕ, ◌<◌, ◌≤◌, Bool, true, false, ◌||◌, nat_eq, nat_lt, List, [], ◌∷◌, ◌++◌, refl, ap, arith}
use Rattle.std.specs.Prelude.{Contains}
use Rattle.std.specs.List.{AllByRecursion}
use Rattle.std.proofs.lemmas.Bool.Decides.{nat_tests}
use Rattle.std.proofs.lemmas.List.Elements.{Contains-append_cases, recursion_from_All}
use Rattle.hp_flat.specs.Equations.{FlatEqn}
use Rattle.law_equations.specs.Meaning.Reactions.{has}
use Rattle.law_equations.specs.Meaning.Scheduling.{AreBelow, IsDefinedBelow, IsRanked, reads}
use Rattle.hp_complete.specs.Ordering.{IsCircular, ReadOn}
use Rattle.law_choices.specs.Depending.Dependence.{DependsOn, EquationChain, IsReadFor}
use Rattle.law_choices.proofs.AddingLemmas.Steps.{among}
use Rattle.law_controlled.specs.Early.{IsStraight}

-- ---- lists

has_here : (x y : ℕ) (ys : List ℕ) → y ≡ x → (nat_eq y x || has ys x) ≡ true
has_here x y ys e = ap (λ b. b || has ys x) (same y x e)
  where
    same : (a b : ℕ) → a ≡ b → nat_eq a b ≡ true
    same a b q = grind (arith, nat_tests)

has_later : (x y : ℕ) (ys : List ℕ) → has ys x ≡ true → (nat_eq y x || has ys x) ≡ true
has_later x y ys e = by (nat_eq y x)
  where
    by : (b : Bool) → (b || has ys x) ≡ true
    by true = refl
    by false = e

pub has_one : (xs : List ℕ) (x : ℕ) → Contains xs x → has xs x ≡ true
has_one [] x h = absurd (among (λ y. ⊥) [] x tt h)
has_one (y ∷ ys) x h = by (λ c. has_one ys x c) (Contains-append_cases (y ∷ []) ys x h)
  where
    by : (Contains ys x → has ys x ≡ true) → Contains (y ∷ []) x ⊎ Contains ys x → has (y ∷ ys) x ≡ true
    by rest (inl c) = has_here x y ys (among (λ z. y ≡ z) (y ∷ []) x (refl, tt) c)
    by rest (inr c) = has_later x y ys (rest c)

-- ---- chains

pub chains-joined : (es : List FlatEqn) (v w end : ℕ) (vs ws : List ℕ) → EquationChain es v vs w → EquationChain es w ws end → EquationChain es v (vs ++ w ∷ ws) end
chains-joined es v w end [] ws c d = (c, d)
chains-joined es v w end (u ∷ us) ws c d = (c.0, chains-joined es u w end us ws c.1 d)

pub depends-read : (es : List FlatEqn) (v w : ℕ) → IsReadFor es v w → DependsOn es v w
depends-read es v w r = ([], r)

pub depends-behind : (es : List FlatEqn) (v w end : ℕ) → IsReadFor es v w → DependsOn es w end → DependsOn es v end
depends-behind es v w end r d = (w ∷ d.0, (r, d.1))

pub depends-both : (es : List FlatEqn) (v w end : ℕ) → DependsOn es v w → DependsOn es w end → DependsOn es v end
depends-both es v w end c d = (c.0 ++ w ∷ d.0, chains-joined es v w end c.0 d.0 c.1 d.1)

-- where equations read of each other, all that the first one defines depends on what the last one reads
read_on : (es : List FlatEqn) (e : FlatEqn) (others : List FlatEqn) (end : FlatEqn) → AllByRecursion (Contains es) (e ∷ others) → ReadOn e others end → (x : ℕ) × Contains end.targets x × ((v : ℕ) → Contains e.targets v → DependsOn es v x)
read_on es e [] end there r = (r.0, r.2, λ v t. depends-read es v r.0 (e, there.0, t, r.1))
read_on es e (d ∷ others) end there r =
    let step = r.0 in
    let rest = read_on es d others end there.1 r.1 in
    (rest.0, rest.1, λ v t. depends-behind es v step.0 rest.0 (e, there.0, t, step.1) (rest.2 step.0 step.2))

-- so in a circle of equations some variable depends on itself
pub circle_depends : (es : List FlatEqn) → IsCircular es → (x : ℕ) × DependsOn es x x
circle_depends es c =
    let r = read_on es c.first c.others c.first (recursion_from_All (Contains es) (c.first ∷ c.others) c.there) c.circle in
    (r.0, r.2 r.0 r.1)

-- ---- ranks

module _ (es : List FlatEqn) (ranked : IsRanked es) where
  -- what is read is defined below
  read_below : (v w : ℕ) (r : IsReadFor es v w) (d : FlatEqn) → Contains es d → Contains d.targets w → d.at < (r.0).at
  read_below v w r d there t =
      let all = among (λ (e : FlatEqn). AllByRecursion (IsDefinedBelow es e) (reads e)) es r.0 ranked r.1 in
      let below = among (IsDefinedBelow es r.0) (reads r.0) w all r.3 in
      among (λ (g : FlatEqn). has g.targets w ≡ true → g.at < (r.0).at) es d below there (has_one d.targets w t)

  -- so is what is at the end of a chain, below the first equation
  chain_below : (v : ℕ) (vs : List ℕ) (end : ℕ) → EquationChain es v vs end → (e : FlatEqn) × Contains es e × Contains e.targets v × ((d : FlatEqn) → Contains es d → Contains d.targets end → d.at < e.at)
  chain_below v [] end c = (c.0, c.1, c.2, read_below v end c)
  chain_below v (w ∷ ws) end c =
      let step = c.0 in
      let rest = chain_below w ws end c.1 in
      let high = read_below v w step rest.0 rest.1 rest.2 in
      (step.0, step.1, step.2, λ d there t. let low = rest.3 d there t in omega (arith, low, high))

  pub ranked_straight : IsStraight es
  ranked_straight v c =
      let r = chain_below v c.0 v c.1 in
      let itself = r.3 r.0 r.1 r.2 in
      omega (arith, itself)

-- ---- equations behind others

-- an equation reads less than it defines
abbrev pub Descends : FlatEqn → Type 0
Descends e = AllByRecursion (λ t. AllByRecursion (λ x. x < t) (reads e)) e.targets

-- what equations define and read is below a number
abbrev pub StayBelow : ℕ → List FlatEqn → Type 0
StayBelow k es = AllByRecursion (λ (e : FlatEqn). AreBelow k e.targets × AreBelow k (reads e)) es

-- what they define is not below a number
abbrev pub AreBehind : ℕ → List FlatEqn → Type 0
AreBehind k es = AllByRecursion (λ (e : FlatEqn). AllByRecursion (λ x. k ≤ x) e.targets) es

module _ (es : List FlatEqn) (descend : AllByRecursion Descends es) where
  descends_read : (v w : ℕ) → IsReadFor es v w → w < v
  descends_read v w r =
      let all = among Descends es r.0 descend r.1 in
      let here = among (λ t. AllByRecursion (λ x. x < t) (reads r.0)) (r.0).targets v all r.2 in
      among (λ x. x < v) (reads r.0) w here r.3

  descends_chain : (v : ℕ) (vs : List ℕ) (end : ℕ) → EquationChain es v vs end → end < v
  descends_chain v [] end c = descends_read v end c
  descends_chain v (w ∷ ws) end c = let low = descends_chain w ws end c.1 in let high = descends_read v w c.0 in omega (arith, low, high)

  pub descends_straight : IsStraight es
  descends_straight v c = let low = descends_chain v c.0 v c.1 in omega (arith, low)

pub read_cases : (es fs : List FlatEqn) (v w : ℕ) → IsReadFor (es ++ fs) v w → IsReadFor es v w ⊎ IsReadFor fs v w
read_cases es fs v w r = by (Contains-append_cases es fs r.0 r.1)
  where
    by : Contains es r.0 ⊎ Contains fs r.0 → IsReadFor es v w ⊎ IsReadFor fs v w
    by (inl c) = inl (r.0, c, r.2, r.3)
    by (inr c) = inr (r.0, c, r.2, r.3)

module _ (k : ℕ) (es more : List FlatEqn) (low : StayBelow k es) (high : AreBehind k more) where
  pub low_read : (v w : ℕ) → IsReadFor es v w → (v < k) × (w < k)
  low_read v w r =
      let all = among (λ (e : FlatEqn). AreBelow k e.targets × AreBelow k (reads e)) es r.0 low r.1 in
      (among (λ x. x < k) (r.0).targets v all.0 r.2, among (λ x. x < k) (reads r.0) w all.1 r.3)

  high_read : (v w : ℕ) → IsReadFor more v w → k ≤ v
  high_read v w r = among (λ x. k ≤ x) (r.0).targets v (among (λ (e : FlatEqn). AllByRecursion (λ x. k ≤ x) e.targets) more r.0 high r.1) r.2

  -- a chain from below stays among the first equations
  pub low_chain : (v : ℕ) (vs : List ℕ) (end : ℕ) → v < k → EquationChain (es ++ more) v vs end → EquationChain es v vs end
  low_chain v [] end l c = by (read_cases es more v end c)
    where
      by : IsReadFor es v end ⊎ IsReadFor more v end → IsReadFor es v end
      by (inl r) = r
      by (inr r) = let h = high_read v end r in absurd (omega (arith, l, h))
  low_chain v (w ∷ ws) end l c = by (λ below. low_chain w ws end below c.1) (read_cases es more v w c.0)
    where
      by : (w < k → EquationChain es w ws end) → IsReadFor es v w ⊎ IsReadFor more v w → EquationChain es v (w ∷ ws) end
      by rest (inl r) = (r, rest (low_read v w r).1)
      by rest (inr r) = let h = high_read v w r in absurd (omega (arith, l, h))

  -- and one that ends above stays among the others
  high_chain : (v : ℕ) (vs : List ℕ) (end : ℕ) → k ≤ end → EquationChain (es ++ more) v vs end → EquationChain more v vs end
  high_chain v [] end l c = by (read_cases es more v end c)
    where
      by : IsReadFor es v end ⊎ IsReadFor more v end → IsReadFor more v end
      by (inl r) = let b = (low_read v end r).1 in absurd (omega (arith, l, b))
      by (inr r) = r
  high_chain v (w ∷ ws) end l c = by (read_cases es more v w c.0) (high_chain w ws end l c.1)
    where
      first_high : (us : List ℕ) → EquationChain more w us end → k ≤ w
      first_high [] d = high_read w end d
      first_high (u ∷ us) d = high_read w u d.0

      by : IsReadFor es v w ⊎ IsReadFor more v w → EquationChain more w ws end → EquationChain more v (w ∷ ws) end
      by (inl r) d = let b = (low_read v w r).1 in let h = first_high ws d in absurd (omega (arith, h, b))
      by (inr r) d = (r, d)

  pub straight_behind : IsStraight es → IsStraight more → IsStraight (es ++ more)
  straight_behind s t v c = by (nat_lt v k) refl
    where
      by : (b : Bool) → nat_lt v k ≡ b → ⊥
      by true e = s v (c.0, low_chain v c.0 v (grind (arith, nat_tests, e)) c.1)
      by false e = t v (c.0, high_chain v c.0 v (grind (arith, nat_tests, e)) c.1)
