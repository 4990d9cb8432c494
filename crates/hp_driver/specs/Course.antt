-- How a machine goes through a trace, step by step.
use Rattle.std.specs.Prelude.{◌≡◌, ℕ, suc, ◌+◌, ◌*◌, Bool, true, false, List, [], ◌∷◌, ◌++◌, length, Option, None, Some, Ok}
use Rattle.hp_io.specs.declared.console.Event.{Event}
use Rattle.hp_io.specs.declared.console.Event.TheVariants.{Asked}
use Rattle.hp_driver.specs.Lines.{whole_lines, last_piece, lines_of}
use Rattle.hp_driver.specs.Log.{heard, said, has_ended}
use Rattle.hp_driver.specs.Trace.{Machine, answer, said_to, refused_in}
use Rattle.hp_driver.specs.declared.trace_limits.BadLine.{BadLine}
use Rattle.hp_driver.specs.declared.trace_limits.End.{End}
use Rattle.hp_driver.specs.declared.trace_limits.End.TheVariants.{Done, Refused, TakeFailed, PutFailed}
use Rattle.hp_driver.specs.declared.trace_limits.Stop.{Stop}
use Rattle.hp_driver.specs.declared.trace_limits.Stop.TheVariants as stop

-- where a machine stands in a trace: the unfinished line, what is to be said, how many lines were answered, and its state
pub record At (S : Type 0) : Type 0 where
  pub piece : List ℕ
  pub pending : List ℕ
  pub number : ℕ
  pub state : S

module _ {S : Type 0} (machine : Machine S) where
  -- the machine takes these lines, the first of which is line n, from s to t, and says this
  pub data Takes : S → ℕ → List (List ℕ) → List ℕ → S → Type 0 where
    none : {s : S} {n : ℕ} → Takes s n [] [] s
    next : {s t u : S} {n : ℕ} {line said : List ℕ} {lines : List (List ℕ)} {more : List ℕ} →
        answer machine s n line ≡ Ok (said, t) → Takes t (suc n) lines more u → Takes s n (line ∷ lines) (said ++ more) u

  -- it stands behind these bytes, of whose answers this was said
  pub record Behind (start : S) (bytes out : List ℕ) (a : At S) : Type 0 where
    pub piece : a.piece ≡ last_piece bytes
    pub number : a.number ≡ length (whole_lines bytes)
    pub takes : Takes start 1 (whole_lines bytes) (out ++ a.pending) a.state

  -- it hears these bytes, and says this
  abbrev pub Moves : At S → List ℕ → List ℕ → At S → Type 0
  Moves a bytes out b = (start : S) (before earlier : List ℕ) → Behind start before earlier a → Behind start (before ++ bytes) (earlier ++ out) b

  -- among these bytes, however they go on, it refuses this line, and says this
  pub record RefusesAt (start : S) (before bytes out : List ℕ) (line : BadLine) : Type 0 where
    pub refused : (ended : Bool) (more : List ℕ) → refused_in machine start 1 (lines_of ended ((before ++ bytes) ++ more)) ≡ Some line
    pub told : (ended : Bool) (more : List ℕ) → said_to machine start 1 (lines_of ended ((before ++ bytes) ++ more)) ≡ out

  abbrev pub Refuses : At S → List ℕ → List ℕ → BadLine → Type 0
  Refuses a bytes out line = (start : S) (before earlier : List ℕ) → Behind start before earlier a → RefusesAt start before bytes (earlier ++ out) line

  -- among these bytes it says this, and then no more of what it has to say
  abbrev pub Breaks : At S → List ℕ → List ℕ → Type 0
  Breaks a bytes out = (start : S) (before earlier : List ℕ) → Behind start before earlier a → (ended : Bool) (more : List ℕ) →
      (rest : List ℕ) × (said_to machine start 1 (lines_of ended ((before ++ bytes) ++ more)) ≡ (earlier ++ out) ++ rest)

  abbrev pub Stops : At S → List ℕ → List ℕ → Stop → Type 0
  Stops a bytes out (stop.Refused line) = Refuses a bytes out line
  Stops a bytes out stop.PutFailed = Breaks a bytes out

  -- at the end of the input it says this, and refuses this line or none
  abbrev pub Finishes : At S → List ℕ → Option BadLine → Type 0
  Finishes a out line = (start : S) (before earlier : List ℕ) → Behind start before earlier a →
      (said_to machine start 1 (lines_of true before) ≡ earlier ++ out) × (refused_in machine start 1 (lines_of true before) ≡ line)

  -- at the end of the input it says this, and then no more of what it has to say
  abbrev pub BreaksOff : At S → List ℕ → Type 0
  BreaksOff a out = (start : S) (before earlier : List ℕ) → Behind start before earlier a →
      (rest : List ℕ) × (said_to machine start 1 (lines_of true before) ≡ (earlier ++ out) ++ rest)

  abbrev pub EndsBy : At S → List ℕ → End → Type 0
  EndsBy a out Done = Finishes a out None
  EndsBy a out (Refused line) = Finishes a out (Some line)
  EndsBy a out TakeFailed = ⊥
  EndsBy a out PutFailed = BreaksOff a out

  -- where it says all at the end of the input, it has taken all lines then, and is in this state
  abbrev pub EndsIn : At S → List ℕ → End → S → Type 0
  EndsIn a out Done t = (start : S) (before earlier : List ℕ) → Behind start before earlier a → Takes start 1 (lines_of true before) (earlier ++ out) t
  EndsIn a out end t = Unit {0}

  -- Whenever input was asked for, it had not ended, what was said were the answers to the whole lines heard before, and no line heard before was refused.
  abbrev pub InStep : S → List Event → Type 0
  InStep start log = (before after : List Event) → log ≡ before ++ Asked ∷ after →
      (has_ended before ≡ false)
      × (said before ≡ said_to machine start 1 (whole_lines (heard before)))
      × (refused_in machine start 1 (lines_of false (heard before)) ≡ None)

  -- what stands at the end of a trace
  abbrev pub Closes : S → List Event → End → Type 0
  Closes start log Done =
      (has_ended log ≡ true)
      × (said log ≡ said_to machine start 1 (lines_of true (heard log)))
      × (refused_in machine start 1 (lines_of true (heard log)) ≡ None)
  Closes start log (Refused line) =
      (said log ≡ said_to machine start 1 (lines_of (has_ended log) (heard log)))
      × (refused_in machine start 1 (lines_of (has_ended log) (heard log)) ≡ Some line)
  Closes start log TakeFailed =
      (said log ≡ said_to machine start 1 (whole_lines (heard log)))
      × (refused_in machine start 1 (lines_of false (heard log)) ≡ None)
  Closes start log PutFailed =
      (rest : List ℕ) × (said_to machine start 1 (lines_of (has_ended log) (heard log)) ≡ said log ++ rest)

  -- where it came to the end of the input, it took all lines, and is in this state
  abbrev pub Reaches : S → List Event → End → S → Type 0
  Reaches start log Done t = Takes start 1 (lines_of true (heard log)) (said log) t
  Reaches start log end t = Unit {0}

-- how far a machine has come, in bytes that it can have heard at most
abbrev pub weight : {S : Type 0} → At S → ℕ
weight a = 65537 * a.number + length a.piece
