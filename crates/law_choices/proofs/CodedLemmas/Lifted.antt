-- The value of a variable that is lifted to the base clock.
use Rattle.std.proofs.Common.{◌≡◌, ℕ, zero, suc, ◌<◌, Bool, true, false, ◌&&◌, if◌then◌else◌, nat_lt, List, [], ◌∷◌, ◌++◌, length, refl, sym, ap, subst, ◌∙◌, arith}
use Rattle.std.specs.Prelude.{⊤, ◌==◌}
use Rattle.std.specs.List.{AllByRecursion}
use Rattle.std.proofs.lemmas.Bool.Decides.{nat_tests}
use Rattle.hp_base.specs.declared.value.Value.{Value}
use Rattle.hp_base.specs.declared.value.Value.TheVariants.{Absent}
use Rattle.hp_obc.specs.Machines.{ObcType}
use Rattle.hp_obc.specs.Values.{operated}
use Rattle.hp_obc.specs.declared.command.ObcOp.{ObcOp}
use Rattle.hp_flat.specs.declared.equation.Atom.{Atom}
use Rattle.hp_flat.specs.declared.equation.Atom.TheVariants.{Variable as Read, Value as Fixed}
use Rattle.hp_flat.specs.declared.node.FlatTy.{FlatTy}
use Rattle.hp_flat.specs.Equations.{Clock, FlatEqn}
use Rattle.hp_flat.specs.Nodes.{FlatNode}
use Rattle.law_equations.specs.Meaning.Instants.{Instant, has_constructor, holds, atom, atoms}
use Rattle.law_equations.specs.Meaning.Reactions.{Answers, Holds}
use Rattle.hp_watch.specs.Adding.{type_of, type_at, next_variable, some_value, added_variable, with_variable, with_eqn, operator_eqn, with_operator}
use Rattle.hp_watch.specs.Growing.{Grows}
use Rattle.hp_watch.specs.Lifting.{count_of, case_eqn, with_cases, with_step, lifted}
use Rattle.law_choices.proofs.AddingLemmas.One.{Behind, variable-behind, grows-behind, grows-self, grows-both, type-grown, type-last}
use Rattle.law_choices.proofs.AddingLemmas.Lifts.{cases, cases-behind, each_front, one_constructor}
use Rattle.std.specs.Prelude.{slice_get}

pub each_last : {A : Type 0} (P : A → Type 0) (xs : List A) (x : A) → AllByRecursion P (xs ++ x ∷ []) → P x
each_last P [] x h = h.0
each_last P (y ∷ xs) x h = each_last P xs x h.1

abbrev first_of : List Value → Value
first_of [] = Absent
first_of (v ∷ vs) = v

pub holds-last : (c : Clock) (t i : ℕ) (now : Instant) → holds c now ≡ true → has_constructor i (now t) ≡ true → holds (c ++ (t, i) ∷ []) now ≡ true
holds-last [] t i now h g = ap (λ b. b && true) g
holds-last (on ∷ c) t i now h g =
    ap (λ b. b && holds (c ++ (t, i) ∷ []) now) (left (has_constructor on.1 (now on.0)) (holds c now) h) ∙ holds-last c t i now (right (has_constructor on.1 (now on.0)) (holds c now) h) g
  where
    left : (a b : Bool) → (a && b) ≡ true → a ≡ true
    left true b e = refl
    left false b e = e

    right : (a b : Bool) → (a && b) ≡ true → b ≡ true
    right true b e = e
    right false b e = absurd cc

-- ---- equations that are added

module _ (answers : Answers) (past : List Instant) (now : Instant) where
  abbrev pub AllHold : List FlatEqn → Type 0
  AllHold es = AllByRecursion (Holds answers past now) es

  pub last-eqn : (e : FlatEqn) (n : FlatNode) → AllHold (with_eqn e n).eqns → AllHold n.eqns × Holds answers past now e
  unfolding with_eqn
  last-eqn e n h = (each_front (Holds answers past now) n.eqns (e ∷ []) h, each_last (Holds answers past now) n.eqns e h)

  pub before-variable : (ty : FlatTy) (n : FlatNode) → AllHold (with_variable ty n).eqns → AllHold n.eqns
  unfolding with_variable
  before-variable ty n h = h

  -- what an operator on the base clock gives a new variable
  pub operator-value : (ty : FlatTy) (op : ObcOp) (args : List Atom) (n : FlatNode) → AllHold (with_operator ty op args n).eqns → AllHold n.eqns × (now (next_variable n) ≡ operated op (atoms now args))
  operator-value ty op args n h =
      let q = last-eqn (operator_eqn (next_variable n) [] op args) (with_variable ty n) h in
      (before-variable ty n q.0, ap first_of (q.1 refl))

  -- ---- one step

  module _ (target : ℕ) (t : FlatTy) (clock : Clock) (step : ℕ × ℕ) (value : ℕ) where
    pub cases-hold : (count : ℕ) (n : FlatNode) → AllHold (with_cases target t clock step value count n).eqns → AllHold n.eqns × ((c : ℕ) → c < count → Holds answers past now (case_eqn target t clock step value c))
    cases-hold zero n h = (h, λ c l. absurd (omega (arith, l)))
    cases-hold (suc k) n h =
        let q = last-eqn (case_eqn target t clock step value k) (with_cases target t clock step value k n) h in
        let before = cases-hold k n q.0 in
        (before.0, λ c l. by c l (nat_lt c k) refl before.1 q.1)
      where
        by : (c : ℕ) → c < suc k → (b : Bool) → nat_lt c k ≡ b → ((i : ℕ) → i < k → Holds answers past now (case_eqn target t clock step value i)) → Holds answers past now (case_eqn target t clock step value k) → Holds answers past now (case_eqn target t clock step value c)
        by c l true e f g = f c (grind (arith, nat_tests, e))
        by c l false e f g = let same : k ≡ c = grind (arith, nat_tests, e, l) in subst (λ i. Holds answers past now (case_eqn target t clock step value i)) same g

    -- where the clock holds, and what is tested has a constructor, the case of that gives the value
    pub case-value : (c : ℕ) → holds clock now ≡ true → has_constructor c (now step.0) ≡ true → Holds answers past now (case_eqn target t clock step value c)
        → now target ≡ (if has_constructor step.1 (now step.0) then now value else some_value t)
    case-value c h g e = ap first_of (e (holds-last clock step.0 c now h g)) ∙ by (c == step.1) refl (has_constructor step.1 (now step.0)) refl
      where
        by : (b : Bool) → (c == step.1) ≡ b → (d : Bool) → has_constructor step.1 (now step.0) ≡ d → atom now (if b then Read value else Fixed (some_value t)) ≡ (if d then now value else some_value t)
        by true q true r = refl
        by true q false r = absurd (let same : c ≡ step.1 = grind (arith, nat_tests, q) in let z = subst (λ i. has_constructor i (now step.0) ≡ true) same g in cc)
        by false q true r = absurd (let same = one_constructor (now step.0) c step.1 g r in grind (arith, nat_tests, q, same))
        by false q false r = refl

  module _ (types : List ObcType) where
    pub before-step : (clock : Clock) (step : ℕ × ℕ) (value : ℕ) (n : FlatNode) → AllHold (with_step types clock step value n).eqns → AllHold n.eqns
    before-step clock step value n h =
        before-variable (type_at n value) n (cases-hold (next_variable n) (type_at n value) clock step value (count_of types (type_at n step.0)) (with_variable (type_at n value) n) h).0

    step-value : (clock : Clock) (step : ℕ × ℕ) (value : ℕ) (n : FlatNode) (c : ℕ) → AllHold (with_step types clock step value n).eqns → holds clock now ≡ true → has_constructor c (now step.0) ≡ true → c < count_of types (type_at n step.0)
        → now (next_variable n) ≡ (if has_constructor step.1 (now step.0) then now value else some_value (type_at n value))
    step-value clock step value n c h there has l =
        case-value (next_variable n) (type_at n value) clock step value c there has
        ((cases-hold (next_variable n) (type_at n value) clock step value (count_of types (type_at n step.0)) (with_variable (type_at n value) n) h).1 c l)

    -- ---- all steps

    step-behind : (clock : Clock) (step : ℕ × ℕ) (value : ℕ) (n : FlatNode) → Behind n (with_step types clock step value n) (added_variable (length n.variables) (type_at n value) ∷ []) (cases (length n.variables) (type_at n value) clock step value (count_of types (type_at n step.0)))
    step-behind clock step value n =
        cases-behind (length n.variables) (type_at n value) clock step value (count_of types (type_at n step.0)) n (with_variable (type_at n value) n) (variable-behind (type_at n value) n)

    pub step-grows : (clock : Clock) (step : ℕ × ℕ) (value : ℕ) (n : FlatNode) → Grows n (with_step types clock step value n)
    step-grows clock step value n =
        grows-behind n (with_step types clock step value n) (added_variable (length n.variables) (type_at n value) ∷ []) (cases (length n.variables) (type_at n value) clock step value (count_of types (type_at n step.0)))
        (step-behind clock step value n)

    step-type : (clock : Clock) (step : ℕ × ℕ) (value : ℕ) (n : FlatNode) → type_at (with_step types clock step value n) (next_variable n) ≡ type_at n value
    step-type clock step value n =
        let b = step-behind clock step value n in
        ap (λ vs. type_of (slice_get vs (length n.variables))) b.variables ∙ type-last n.variables (added_variable (length n.variables) (type_at n value))

    pub lifted-grows : (clock steps : Clock) (x : ℕ) (n : FlatNode) → Grows n (lifted types clock steps x n).node
    lifted-grows clock [] x n = grows-self n
    lifted-grows clock (step ∷ steps) x n =
        let inner = lifted types (clock ++ step ∷ []) steps x n in
        grows-both n inner.node (with_step types clock step inner.value inner.node) (lifted-grows (clock ++ step ∷ []) steps x n) (step-grows clock step inner.value inner.node)

    pub lifted-type : (clock steps : Clock) (x : ℕ) (n : FlatNode) → type_at (lifted types clock steps x n).node (lifted types clock steps x n).value ≡ type_at n x
    lifted-type clock [] x n = refl
    lifted-type clock (step ∷ steps) x n =
        let inner = lifted types (clock ++ step ∷ []) steps x n in
        step-type clock step inner.value inner.node ∙ lifted-type (clock ++ step ∷ []) steps x n

    pub before-lift : (clock steps : Clock) (x : ℕ) (n : FlatNode) → AllHold (lifted types clock steps x n).node.eqns → AllHold n.eqns
    before-lift clock [] x n h = h
    before-lift clock (step ∷ steps) x n h =
        let inner = lifted types (clock ++ step ∷ []) steps x n in
        before-lift (clock ++ step ∷ []) steps x n (before-step clock step inner.value inner.node h)

    -- what each step tests has a constructor, where those before it hold
    abbrev pub AreTested : FlatNode → Clock → Type 0
    AreTested n [] = ⊤
    AreTested n (step ∷ steps) = (step.0 < length n.variables) × ((c : ℕ) × (has_constructor c (now step.0) ≡ true) × (c < count_of types (type_at n step.0))) × (has_constructor step.1 (now step.0) ≡ true → AreTested n steps)

    pub lifted-value : (clock steps : Clock) (x : ℕ) (n : FlatNode) → AllHold (lifted types clock steps x n).node.eqns → holds clock now ≡ true → AreTested n steps
        → now (lifted types clock steps x n).value ≡ (if holds steps now then now x else some_value (type_at n x))
    lifted-value clock [] x n h there t = refl
    lifted-value clock (step ∷ steps) x n h there t =
        let inner = lifted types (clock ++ step ∷ []) steps x n in
        let found = t.1 in
        let same = type-grown n inner.node step.0 (lifted-grows (clock ++ step ∷ []) steps x n) t.0 in
        step-value clock step inner.value inner.node found.0 h there found.1 (subst (λ ty. found.0 < count_of types ty) (sym same) found.2)
        ∙ by (has_constructor step.1 (now step.0)) refl (lifted-value (clock ++ step ∷ []) steps x n (before-step clock step inner.value inner.node h))
      where
        by : (b : Bool) → has_constructor step.1 (now step.0) ≡ b
            → (holds (clock ++ step ∷ []) now ≡ true → AreTested n steps → now (lifted types (clock ++ step ∷ []) steps x n).value ≡ (if holds steps now then now x else some_value (type_at n x)))
            → (if b then now (lifted types (clock ++ step ∷ []) steps x n).value else some_value (type_at (lifted types (clock ++ step ∷ []) steps x n).node (lifted types (clock ++ step ∷ []) steps x n).value))
            ≡ (if b && holds steps now then now x else some_value (type_at n x))
        by true q rest = rest (holds-last clock step.0 step.1 now there q) (t.2 q)
        by false q rest = ap some_value (lifted-type (clock ++ step ∷ []) steps x n)
