-- What reading from the front of some words comes to.
use Rattle.std.specs.Prelude.{◌≡◌, ℕ, List, Result, Ok, Err}
use Rattle.hp_lines.specs.declared.stop.Stop.{Stop}
use Rattle.hp_lines.specs.declared.stop.Stop.TheVariants.{Refused, Memory}

abbrev pub Words : Type 0
Words = List (List ℕ)

-- a value with the words behind what was read, or the words from the refused one on
pub data Outcome (A : Type 0) : Type 0 where
  done : A → Words → Outcome A
  refused : Words → Outcome A

infixl 10 ◌>>=◌
abbrev pub ◌>>=◌ : {A B : Type 0} → Outcome A → (A × Words → Outcome B) → Outcome B
(done a rest) >>= f = f (a, rest)
(refused rest) >>= f = refused rest

-- What a function returned, seen by view, with the words then ahead, is what reading comes to, unless memory ran out.
abbrev pub Stops : {B : Type 0} → Stop → Words → Outcome B → Type 0
Stops Memory rest outcome = Unit {0}
Stops Refused rest outcome = outcome ≡ refused rest

abbrev pub Gives : {A B : Type 0} → (A → B) → Result A Stop → Words → Outcome B → Type 0
Gives view (Ok x) rest outcome = outcome ≡ done (view x) rest
Gives view (Err e) rest outcome = Stops e rest outcome
