-- Laws of the ways in which a name is defined, checked case by case.
use Rattle.std.proofs.Common.{◌≡◌, Bool, true, false, ◌&&◌, refl}
use Rattle.hp_typing.specs.declared.uses.Use.{Use}
use Rattle.hp_typing.specs.declared.uses.Use.TheVariants.{Never, Once, Partly, Twice}
use Rattle.hp_typing.specs.Uses.{beside, between, worse}

abbrev same : Use → Use → Bool
same Never Never = true
same Once Once = true
same Partly Partly = true
same Twice Twice = true
same u v = false

same_use : (u v : Use) → same u v ≡ true → u ≡ v
same_use Never Never h = refl
same_use Once Once h = refl
same_use Partly Partly h = refl
same_use Twice Twice h = refl
same_use u v h = absurd cc

-- a test of all four
abbrev every : (Use → Bool) → Bool
every test = test Never && (test Once && (test Partly && test Twice))

parts : (p q : Bool) → (p && q) ≡ true → (p ≡ true) × (q ≡ true)
parts true q h = (refl, h)
parts false q h = absurd cc

of_each : (test : Use → Bool) → every test ≡ true → (u : Use) → test u ≡ true
of_each test h u =
    let first = parts (test Never) (test Once && (test Partly && test Twice)) h in
    let second = parts (test Once) (test Partly && test Twice) first.1 in
    let third = parts (test Partly) (test Twice) second.1 in
    elim u as (λ u. test u ≡ true) [ Never ↦ first.0 | Once ↦ second.0 | Partly ↦ third.0 | Twice ↦ third.1 ]

-- two functions that are the same in each case
one : (f g : Use → Use) → every (λ u. same (f u) (g u)) ≡ true → (u : Use) → f u ≡ g u
one f g h u = same_use (f u) (g u) (of_each (λ u. same (f u) (g u)) h u)

two : (f g : Use → Use → Use) → every (λ u. every (λ v. same (f u v) (g u v))) ≡ true → (u v : Use) → f u v ≡ g u v
two f g h u = one (f u) (g u) (of_each (λ u. every (λ v. same (f u v) (g u v))) h u)

three : (f g : Use → Use → Use → Use) → every (λ u. every (λ v. every (λ w. same (f u v w) (g u v w)))) ≡ true → (u v w : Use) → f u v w ≡ g u v w
three f g h u = two (f u) (g u) (of_each (λ u. every (λ v. every (λ w. same (f u v w) (g u v w)))) h u)

pub beside-never : (u : Use) → beside u Never ≡ u
beside-never = one (λ u. beside u Never) (λ u. u) refl

pub beside-assoc : (u v w : Use) → beside (beside u v) w ≡ beside u (beside v w)
beside-assoc = three (λ u v w. beside (beside u v) w) (λ u v w. beside u (beside v w)) refl

pub worse-never : (u : Use) → worse u Never ≡ u
worse-never = one (λ u. worse u Never) (λ u. u) refl

pub never-worse : (u : Use) → worse Never u ≡ u
never-worse = one (λ u. worse Never u) (λ u. u) refl

pub worse-again : (u v : Use) → worse (worse u v) v ≡ worse u v
worse-again = two (λ u v. worse (worse u v) v) (λ u v. worse u v) refl

pub worse-assoc : (u v w : Use) → worse (worse u v) w ≡ worse u (worse v w)
worse-assoc = three (λ u v w. worse (worse u v) w) (λ u v w. worse u (worse v w)) refl

pub between-self : (u : Use) → between u u ≡ u
between-self = one (λ u. between u u) (λ u. u) refl

-- two blocks, and those behind them
pub worse-two : (u v : Use) → worse (between u v) v ≡ between u v
worse-two = two (λ u v. worse (between u v) v) (λ u v. between u v) refl

pub worse-more : (u v w : Use) → worse (between u v) (between v w) ≡ between u (between v w)
worse-more = three (λ u v w. worse (between u v) (between v w)) (λ u v w. between u (between v w)) refl
