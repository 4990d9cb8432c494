-- What reading from the front of some tokens comes to.
use Rattle.std.specs.Prelude.{◌≡◌, List, Result, Ok, Err}
use Rattle.hp_parser.specs.declared.fault.Fault.{Fault}
use Rattle.hp_parser.specs.declared.fault.Stop.{Stop}
use Rattle.hp_parser.specs.declared.fault.Stop.TheVariants as stop
use Rattle.hp_parser.specs.Lexemes.{Lexeme}

-- a value with the tokens behind what was read, or a fault with the tokens from the refused one on
pub data Outcome (A : Type 0) : Type 0 where
  done : A → List Lexeme → Outcome A
  refused : Fault → List Lexeme → Outcome A

infixl 10 ◌>>=◌
abbrev pub ◌>>=◌ : {A B : Type 0} → Outcome A → (A × List Lexeme → Outcome B) → Outcome B
(done a rest) >>= f = f (a, rest)
(refused fault rest) >>= f = refused fault rest

-- What a function returned, seen by view, with the tokens then ahead, is what reading comes to, unless memory ran out.
abbrev pub Stops : {B : Type 0} → Stop → List Lexeme → Outcome B → Type 0
Stops stop.Memory rest outcome = Unit {0}
Stops (stop.Fault f) rest outcome = outcome ≡ refused f rest

abbrev pub Gives : {A B : Type 0} → (A → B) → Result A Stop → List Lexeme → Outcome B → Type 0
Gives view (Ok x) rest outcome = outcome ≡ done (view x) rest
Gives view (Err e) rest outcome = Stops e rest outcome
