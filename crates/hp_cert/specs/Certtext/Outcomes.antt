-- What reading from the front of some pieces comes to.
use Rattle.std.specs.Prelude.{◌≡◌, Result, Ok, Err}
use Rattle.hp_lines.specs.declared.stop.Stop.{Stop}
use Rattle.hp_lines.specs.declared.stop.Stop.TheVariants.{Refused, Memory}
use Rattle.hp_cert.specs.Certtext.Pieces.{Pieces}

-- a value with the pieces behind what was read, or the pieces from the refused one on; none, where the text is refused behind its end
pub data Outcome (A : Type 0) : Type 0 where
  done : A → Pieces → Outcome A
  refused : Pieces → Outcome A

infixl 10 ◌>>=◌
abbrev pub ◌>>=◌ : {A B : Type 0} → Outcome A → (A × Pieces → Outcome B) → Outcome B
(done a rest) >>= f = f (a, rest)
(refused rest) >>= f = refused rest

-- What a function returned, seen by view, with the pieces then ahead, is what reading comes to, unless memory ran out.
abbrev pub Stops : {B : Type 0} → Stop → Pieces → Outcome B → Type 0
Stops Memory rest outcome = Unit {0}
Stops Refused rest outcome = outcome ≡ refused rest

abbrev pub Gives : {A B : Type 0} → (A → B) → Result A Stop → Pieces → Outcome B → Type 0
Gives view (Ok x) rest outcome = outcome ≡ done (view x) rest
Gives view (Err e) rest outcome = Stops e rest outcome
