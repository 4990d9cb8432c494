-- The breaches of the rules, and which is first in the text.
use Rattle.std.specs.Prelude.{◌≡◌, ℕ, List, [], ◌∷◌, ◌++◌, Option, if◌then◌else◌, fold, Contains}
use Rattle.hp_base.specs.declared.span.Span.{Span}
use Rattle.hp_base.specs.First.First.{IsFirst, sooner}
use Rattle.hp_names.specs.declared.breach.Fault.{Fault}
use Rattle.hp_names.specs.declared.breach.Fault.TheVariants.{Unknown, Twice}
use Rattle.hp_names.specs.declared.error.NameErr.{NameErr}
use Rattle.hp_names.specs.declared.error.NameErr.TheVariants as error
use Rattle.hp_names.specs.Names.{has}
use Rattle.hp_names.specs.Claims.{Claim, uses, declares, Holds}

-- a name that is used where it is not known, or declared where it is known already, at its place
pub record Breach : Type 0 where
  pub fault : Fault
  pub name : List ℕ
  pub at : Span

abbrev pub place_of : Breach → Span
place_of b = b.at

-- what is said of a claim that is false
abbrev pub breach_of : Claim → Breach
breach_of (uses names x at) = record { fault = Unknown; name = x; at = at }
breach_of (declares names x at) = record { fault = Twice; name = x; at = at }

-- the error for a fault in a name at a place
abbrev pub named : Fault → List ℕ → Span → NameErr
named Unknown x at = error.Unknown x at
named Twice x at = error.Twice x at

-- the breach of a claim, where it is false
abbrev pub breach_in : Claim → List Breach
breach_in (uses names x at) = if has names x then [] else record { fault = Unknown; name = x; at = at } ∷ []
breach_in (declares names x at) = if has names x then record { fault = Twice; name = x; at = at } ∷ [] else []

-- the breaches of some claims, in their order
abbrev pub breaches : List Claim → List Breach
breaches [] = []
breaches (c ∷ cs) = breach_in c ++ breaches cs

-- Each breach is that of a claim that does not hold.
abbrev pub AreBreachesOf : List Claim → List Breach → Type 0
AreBreachesOf cs [] = Unit {0}
AreBreachesOf cs (b ∷ bs) = ((c : Claim) × (Contains cs c × ((Holds c → ⊥) × (b ≡ breach_of c)))) × AreBreachesOf cs bs

-- the error that names a breach
abbrev pub error_of : Breach → NameErr
error_of b = named b.fault b.name b.at

-- what is found first when some claims are looked at too
unfoldable pub found_after : Option Breach → List Claim → Option Breach
found_after found cs = fold (sooner place_of) found (breaches cs)

-- The error names the breach that is first by its place, and of two at one place the first in the list; want of memory names none.
abbrev pub NamesFirst : List Breach → NameErr → Type 0
NamesFirst bs (error.Unknown x at) = IsFirst place_of bs (record { fault = Unknown; name = x; at = at })
NamesFirst bs (error.Twice x at) = IsFirst place_of bs (record { fault = Twice; name = x; at = at })
NamesFirst bs error.OutOfMemory = Unit {0}
