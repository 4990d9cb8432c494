-- Choices by a test.
use Rattle.std.proofs.Common.{◌≡◌, List, [], ◌∷◌, refl}
use Rattle.std.specs.Prelude.{Bool, true, false, ◌&&◌, ◌||◌, IsTrue, IsFalse, if◌then◌else◌}
use Rattle.hp_base.specs.declared.value.Value.{Value}
use Rattle.hp_base.specs.declared.value.Value.TheVariants.{Absent}
use Rattle.hp_tree.specs.Expressions.{Parts, no_part, more_parts}
use Rattle.hp_tree.specs.Programs.{TypeDecl}
use Rattle.hp_tree.specs.Operators.{is_cons}
use Rattle.hp_tree.specs.Instant.{Instant, top}

pub by_cases : {X : Type 0} (d : Bool) → (IsTrue d → X) → (IsFalse d → X) → X
by_cases true f g = f refl
by_cases false f g = g refl

pub or_cases : {X : Type 0} (a b : Bool) → IsTrue (a || b) → (IsTrue a → X) → (IsTrue b → X) → X
or_cases true b h f g = f refl
or_cases false b h f g = g h

pub or_first : (a b : Bool) → IsTrue a → IsTrue (a || b)
or_first true b h = refl
or_first false b h = absurd (cc)

pub or_second : (a b : Bool) → IsTrue b → IsTrue (a || b)
or_second true b h = refl
or_second false b h = h

pub neither : (a b : Bool) → IsFalse (a || b) → IsFalse a × IsFalse b
neither true b h = absurd (cc)
neither false b h = (refl, h)

pub both_true : (a b : Bool) → IsTrue (a && b) → IsTrue a × IsTrue b
both_true true b h = (refl, h)
both_true false b h = absurd (cc)

pub and_true : (a b : Bool) → IsTrue a → IsTrue b → IsTrue (a && b)
and_true true b s t = t
and_true false b s t = s

pub if_true : {A : Type 0} (d : Bool) (a b : A) → IsTrue d → (if d then a else b) ≡ a
if_true true a b h = refl
if_true false a b h = absurd (cc)

pub if_false : {A : Type 0} (d : Bool) (a b : A) → IsFalse d → (if d then a else b) ≡ b
if_false true a b h = absurd (cc)
if_false false a b h = refl

-- the part of a merge that is there
abbrev pub chosen : List TypeDecl → Parts → Value → List Instant → Value
chosen types no_part v is = Absent
chosen types (more_parts c e ps) v [] = Absent
chosen types (more_parts c e ps) v (i ∷ is) = if is_cons types v c then top i else chosen types ps v is
