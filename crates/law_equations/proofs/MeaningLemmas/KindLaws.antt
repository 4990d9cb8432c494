-- Histories, ranks, variables that are set, and values of kinds.
use Rattle.std.proofs.Common.{◌≡◌, ℕ, zero, suc, Bool, true, false, ◌||◌, ◌&&◌, nat_lt, List, [], ◌∷◌, refl, ap, arith, rules}
use Rattle.std.specs.Prelude.{not}
use Rattle.std.specs.List.{AllByRecursion}
use Rattle.std.proofs.lemmas.Bool.{ltb-true, lt-ltb}
use Rattle.hp_base.specs.Kinds.{KindData, Bools, Ints, Constructors, IsOfKind}
use Rattle.hp_base.specs.declared.value.Value.{Value}
use Rattle.hp_base.specs.declared.value.Value.TheVariants.{Absent, B, E, I}
use Rattle.hp_obc.specs.Machines.{ObcType}
use Rattle.hp_obc.specs.Values.{first_of_kind}
use Rattle.hp_obc.proofs.OperatorKinds.{IsKindOf}
use Rattle.hp_flat.specs.declared.node.FlatTy.{FlatTy}
use Rattle.hp_flat.specs.declared.node.FlatTy.TheVariants.{Bool as FlatBool, Int as FlatInt, Enum as FlatEnum}
use Rattle.hp_flat.specs.Equations.{Clock, FlatEqn}
use Rattle.law_equations.specs.Meaning.Instants.{Instant, holds, restarted, unless, noted, history}
use Rattle.law_equations.specs.Meaning.Reactions.{has, is_set}
use Rattle.law_equations.specs.Meaning.Fitting.{is_there}
use Rattle.law_equations.specs.Meaning.Scheduling.{reads}
use Rattle.law_equations.specs.Meaning.Solving.{nothing}
use Rattle.law_equations.specs.Meaning.Kinding.{kind_of_type, IsTyped, HasValue, OptionallyOf}
use Rattle.law_equations.proofs.MeaningLemmas.OneInstant.{Agree, eqn-holds-same, Below, bound, bounded}

-- ---- histories

noted_each : {A : Type 0} (P : A → Type 0) (d : Bool) (a : A) (h : List A) → (d ≡ true → P a) → AllByRecursion P h → AllByRecursion P (noted d a h)
noted_each P true a h p r = (p refl, r)
noted_each P false a h p r = r

pub unless_each : {A : Type 0} (P : A → Type 0) (d : Bool) (h : List A) → AllByRecursion P h → AllByRecursion P (unless d h)
unless_each P true h r = tt
unless_each P false h r = r

pub history_each : {A : Type 0} (P : A → Type 0) (clock : Clock) (restart : List ℕ) (f : Instant → A) (past : List Instant) → AllByRecursion (λ (i : Instant). holds clock i ≡ true → P (f i)) past → AllByRecursion P (history clock restart f past)
history_each P clock restart f [] h = tt
history_each P clock restart f (i ∷ past) h =
    noted_each P (holds clock i) (f i) (unless (restarted restart i) (history clock restart f past)) h.0 (unless_each P (restarted restart i) (history clock restart f past) (history_each P clock restart f past h.1))

-- ---- fixed points of maps that look at variables of less rank alone

module _ (es : List FlatEqn) (F : Instant → Instant) (none : (i j : Instant) (x : ℕ) → Below es zero x → F i x ≡ F j x)
    (next : (k : ℕ) (i j : Instant) → ((z : ℕ) → Below es k z → i z ≡ j z) → (x : ℕ) → Below es (suc k) x → F i x ≡ F j x) where
  turn : ℕ → Instant
  turn zero = nothing
  turn (suc k) = F (turn k)

  turn_settles : (k : ℕ) (x : ℕ) → Below es k x → turn (suc k) x ≡ turn (suc (suc k)) x
  unfolding turn
  turn_settles zero x b = none (turn zero) (turn (suc zero)) x b
  turn_settles (suc k) x b = next k (turn (suc k)) (turn (suc (suc k))) (turn_settles k) x b

  pub fixed_point : (now : Instant) × ((x : ℕ) → now x ≡ F now x)
  unfolding turn
  fixed_point = (turn (suc (bound es)), λ x. turn_settles (bound es) x (bounded es (bound es) x (omega arith)))

-- ---- tests of ranks

pub is_below : List FlatEqn → ℕ → ℕ → Bool
is_below [] k x = true
is_below (e ∷ es) k x = (not (has e.targets x) || nat_lt e.at k) && is_below es k x

pub and_first : (a b : Bool) → (a && b) ≡ true → a ≡ true
and_first true b h = refl
and_first false b h = absurd (cc)

pub and_second : (a b : Bool) → (a && b) ≡ true → b ≡ true
and_second true b h = h
and_second false b h = absurd (cc)

head_from : (a b : Bool) → (not a || b) ≡ true → a ≡ true → b ≡ true
head_from true b h t = h
head_from false b h t = absurd (cc)

head_to : (a b : Bool) → (a ≡ true → b ≡ true) → (not a || b) ≡ true
head_to true b h = h refl
head_to false b h = refl

and_both : (a b : Bool) → a ≡ true → b ≡ true → (a && b) ≡ true
and_both true b h g = g
and_both false b h g = absurd (cc)

pub below_from : (es : List FlatEqn) (k : ℕ) (x : ℕ) → is_below es k x ≡ true → Below es k x
unfolding is_below
below_from [] k x h = tt
below_from (e ∷ es) k x h = (
  λ t. ltb-true e.at k (head_from (has e.targets x) (nat_lt e.at k) (and_first (not (has e.targets x) || nat_lt e.at k) (is_below es k x) h) t),
  below_from es k x (and_second (not (has e.targets x) || nat_lt e.at k) (is_below es k x) h),
)

pub below_to : (es : List FlatEqn) (k : ℕ) (x : ℕ) → Below es k x → is_below es k x ≡ true
unfolding is_below
below_to [] k x h = refl
below_to (e ∷ es) k x h = and_both (not (has e.targets x) || nat_lt e.at k) (is_below es k x) (head_to (has e.targets x) (nat_lt e.at k) (λ t. lt-ltb e.at k (h.0 t))) (below_to es k x h.1)

-- ---- which variables are set

chosen : (t a b p q : Bool) → (t ≡ true → a ≡ b) → p ≡ q → ((a && t) || p) ≡ ((b && t) || q)
chosen true a b p q f e = let h = f refl in λ d. (h d && true) || e d
chosen false true true p q f e = e
chosen false true false p q f e = e
chosen false false true p q f e = e
chosen false false false p q f e = e

pub set-same : (es : List FlatEqn) (i j : Instant) (x : ℕ) → AllByRecursion (λ (e : FlatEqn). has e.targets x ≡ true → AllByRecursion (Agree i j) (reads e)) es → is_set es i x ≡ is_set es j x
set-same [] i j x h = refl
set-same (e ∷ es) i j x h = chosen (has e.targets x) (holds e.clock i) (holds e.clock j) (is_set es i x) (is_set es j x) (λ t. eqn-holds-same e i j (h.0 t)) (set-same es i j x h.1)

-- ---- kinds

pub of_kind-there : (k : KindData) (v : Value) → IsOfKind k v → is_there v ≡ true
of_kind-there Bools (B b) h = refl
of_kind-there Ints (I n) h = refl
of_kind-there (Constructors n cons) (E t c) h = refl
of_kind-there Bools Absent h = absurd h
of_kind-there Ints Absent h = absurd h
of_kind-there (Constructors n cons) Absent h = absurd h
of_kind-there k v h = refl

pub optional-there : (d : Bool) (k : KindData) (v : Value) → OptionallyOf d k v → is_there v ≡ true → IsOfKind k v
optional-there true k v h t = h
optional-there false k v h t = let none : is_there v ≡ false = ap is_there h in absurd (cc)

zero_fits : IsOfKind Ints (first_of_kind Ints)
zero_fits = search rules

pub first-of : (types : List ObcType) (ty : FlatTy) → HasValue types ty → IsOfKind (kind_of_type types ty) (first_of_kind (kind_of_type types ty))
first-of types FlatBool h = tt
first-of types FlatInt h = zero_fits
first-of types (FlatEnum t) h = (refl, h)

pub type_as : (types : List ObcType) (ty : FlatTy) → IsTyped types (kind_of_type types ty)
type_as types FlatBool = tt
type_as types FlatInt = tt
type_as types (FlatEnum t) = refl

pub as_kind_of : (types : List ObcType) (k : KindData) → IsTyped types k → IsKindOf types k
as_kind_of types Bools h = tt
as_kind_of types Ints h = tt
as_kind_of types (Constructors t cons) h = h
