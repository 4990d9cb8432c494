-- Instants of clocked equations, clocks and histories. After Biernacki, Colaço, Hamon, Pouzet: Clock-directed modular code generation for synchronous data-flow languages (LCTES 2008).
use Rattle.std.specs.Prelude.{ℕ, Bool, true, false, ◌&&◌, ◌||◌, nat_eq, List, [], ◌∷◌, map}
use Rattle.hp_base.specs.declared.value.Value.{Value}
use Rattle.hp_base.specs.declared.value.Value.TheVariants.{B, E}
use Rattle.hp_flat.specs.declared.equation.Atom.{Atom}
use Rattle.hp_flat.specs.declared.equation.Atom.TheVariants.{Variable, Value as Fixed}
use Rattle.hp_flat.specs.Equations.{Clock}

-- an instant: the value of each variable, `Absent` where it is not there
abbrev pub Instant : Type 0
Instant = ℕ → Value

-- a value is the constructor of a number, `false` being 0 and `true` 1
abbrev pub has_constructor : ℕ → Value → Bool
has_constructor c (B true) = nat_eq 1 c
has_constructor c (B false) = nat_eq 0 c
has_constructor c (E t d) = nat_eq d c
has_constructor c v = false

-- a clock holds where each of its variables has its constructor
abbrev pub holds : Clock → Instant → Bool
holds [] now = true
holds (on ∷ clock) now = has_constructor on.1 (now on.0) && holds clock now

abbrev pub is_true : Value → Bool
is_true (B b) = b
is_true v = false

-- some variable of a restart list is true
abbrev pub restarted : List ℕ → Instant → Bool
restarted [] now = false
restarted (x ∷ xs) now = is_true (now x) || restarted xs now

-- the value of an argument, and of some
abbrev pub atom : Instant → Atom → Value
atom now (Variable x) = now x
atom now (Fixed v) = v

abbrev pub atoms : Instant → List Atom → List Value
atoms now args = map (atom now) args

-- ---- histories

-- what was noted before, where it is not forgotten now
abbrev pub unless : {A : Type 0} → Bool → List A → List A
unless true h = []
unless false h = h

-- what is noted now, where it is there, in front of what was noted before
abbrev pub noted : {A : Type 0} → Bool → A → List A → List A
noted true a h = a ∷ h
noted false a h = h

-- What stood at the instants of a past at which a clock held, since the last one at which a variable of a restart list was true, newest first.
-- An instant of a restart belongs to what follows it.
abbrev pub history : {A : Type 0} → Clock → List ℕ → (Instant → A) → List Instant → List A
history clock restart f [] = []
history clock restart f (i ∷ past) = noted (holds clock i) (f i) (unless (restarted restart i) (history clock restart f past))

-- the same before an instant, which may itself be one of a restart
abbrev pub since : {A : Type 0} → Clock → List ℕ → (Instant → A) → List Instant → Instant → List A
since clock restart f past now = unless (restarted restart now) (history clock restart f past)

-- the newest of a history, or what stands for none
abbrev pub newest : {A : Type 0} → A → List A → A
newest first [] = first
newest first (a ∷ h) = a
