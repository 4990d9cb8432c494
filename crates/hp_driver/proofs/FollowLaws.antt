-- How a trace goes from one take to the next.
use Rattle.std.proofs.Common.{◌≡◌, ℕ, suc, ◌+◌, ◌<◌, true, false, ◌⊎◌, inl, inr, List, [], ◌∷◌, ◌++◌, length, map, take, ◌≢◌, ◌==◌, if◌then◌else◌, Option, None, Some, refl, sym, ap, subst, ◌∙◌, arith, append_assoc, zero-add}
use Rattle.std.proofs.lemmas.List.{append-nil}
use Rattle.std.proofs.lemmas.Bool.Decides.{eqb_tells}
use Rattle.hp_io.specs.Told.{Grows, Loses, Told}
use Rattle.hp_io.specs.Events.{take_events, put_events}
use Rattle.hp_io.proofs.ToldLaws.{Grows-trans, Loses-trans}
use Rattle.hp_io.specs.declared.console.Event.{Event}
use Rattle.hp_io.specs.declared.console.Event.TheVariants.{Asked, Heard, Ended, Said}
use Rattle.hp_driver.specs.Lines.{whole_lines, last_piece, last_line, lines_of}
use Rattle.std.specs.Prelude.{Ok, Err}
use Rattle.hp_driver.specs.LineFaults.{bad}
use Rattle.hp_driver.specs.Trace.{Machine, answer, said_to, refused_in}
use Rattle.hp_driver.specs.declared.trace_limits.BadLine.{BadLine}
use Rattle.hp_driver.specs.declared.trace_limits.Fault.{Fault}
use Rattle.hp_driver.specs.Log.{heard, said, has_ended}
use Rattle.hp_driver.specs.Course.{At, Takes, Behind, Moves, Stops, Finishes, BreaksOff, EndsBy, EndsIn, InStep, Closes, Reaches}
use Rattle.hp_driver.specs.declared.trace_limits.Stop.{Stop}
use Rattle.hp_driver.specs.declared.trace_limits.Stop.TheVariants as stop
use Rattle.hp_driver.specs.declared.trace_limits.End.{End}
use Rattle.hp_driver.specs.declared.trace_limits.End.TheVariants.{Done, Refused, TakeFailed, PutFailed}
use Rattle.hp_driver.specs.Hearing.{end_of}
use Rattle.hp_driver.proofs.TraceLaws.{said_to-takes, refused_in-takes, takes_more}

-- ---- events

pub heard-append : (a b : List Event) → heard (a ++ b) ≡ heard a ++ heard b
heard-append [] b = refl
heard-append (Asked ∷ a) b = heard-append a b
heard-append (Heard c ∷ a) b = ap (λ z. c ∷ z) (heard-append a b)
heard-append (Ended ∷ a) b = heard-append a b
heard-append (Said c ∷ a) b = heard-append a b

pub said-append : (a b : List Event) → said (a ++ b) ≡ said a ++ said b
said-append [] b = refl
said-append (Asked ∷ a) b = said-append a b
said-append (Heard c ∷ a) b = said-append a b
said-append (Ended ∷ a) b = said-append a b
said-append (Said c ∷ a) b = ap (λ z. c ∷ z) (said-append a b)

pub ended_by : (a b : List Event) → has_ended a ≡ false → has_ended (a ++ b) ≡ has_ended b
ended_by [] b e = refl
ended_by (Asked ∷ a) b e = ended_by a b e
ended_by (Heard c ∷ a) b e = ended_by a b e
ended_by (Ended ∷ a) b e = absurd (cc)
ended_by (Said c ∷ a) b e = ended_by a b e

heard-map : (bytes : List ℕ) → heard (map Heard bytes) ≡ bytes
heard-map [] = refl
heard-map (b ∷ bytes) = ap (λ z. b ∷ z) (heard-map bytes)

said-map_heard : (bytes : List ℕ) → said (map Heard bytes) ≡ []
said-map_heard [] = refl
said-map_heard (b ∷ bytes) = said-map_heard bytes

said-map : (bytes : List ℕ) → said (map Said bytes) ≡ bytes
said-map [] = refl
said-map (b ∷ bytes) = ap (λ z. b ∷ z) (said-map bytes)

heard-map_said : (bytes : List ℕ) → heard (map Said bytes) ≡ []
heard-map_said [] = refl
heard-map_said (b ∷ bytes) = heard-map_said bytes

open-map_heard : (bytes : List ℕ) → has_ended (map Heard bytes) ≡ false
open-map_heard [] = refl
open-map_heard (b ∷ bytes) = open-map_heard bytes

open-map_said : (bytes : List ℕ) → has_ended (map Said bytes) ≡ false
open-map_said [] = refl
open-map_said (b ∷ bytes) = open-map_said bytes

-- input is not asked for
abbrev pub NotAsked : List Event → Type 0
NotAsked [] = Unit {0}
NotAsked (Asked ∷ a) = ⊥
NotAsked (Heard c ∷ a) = NotAsked a
NotAsked (Ended ∷ a) = NotAsked a
NotAsked (Said c ∷ a) = NotAsked a

pub NotAsked-append : (a b : List Event) → NotAsked a → NotAsked b → NotAsked (a ++ b)
NotAsked-append [] b h k = k
NotAsked-append (Asked ∷ a) b h k = absurd h
NotAsked-append (Heard c ∷ a) b h k = NotAsked-append a b h k
NotAsked-append (Ended ∷ a) b h k = NotAsked-append a b h k
NotAsked-append (Said c ∷ a) b h k = NotAsked-append a b h k

NotAsked-heard : (bytes : List ℕ) → NotAsked (map Heard bytes)
NotAsked-heard [] = tt
NotAsked-heard (b ∷ bytes) = NotAsked-heard bytes

pub NotAsked-said : (bytes : List ℕ) → NotAsked (map Said bytes)
NotAsked-said [] = tt
NotAsked-said (b ∷ bytes) = NotAsked-said bytes

asked_inside : (before after : List Event) → NotAsked (before ++ Asked ∷ after) → ⊥
asked_inside [] after h = h
asked_inside (Asked ∷ before) after h = h
asked_inside (Heard c ∷ before) after h = asked_inside before after h
asked_inside (Ended ∷ before) after h = asked_inside before after h
asked_inside (Said c ∷ before) after h = asked_inside before after h

-- where input was asked for in a list, behind which it was asked for once more
last_asked : (log rest before after : List Event) → NotAsked rest → log ++ (Asked ∷ rest) ≡ before ++ (Asked ∷ after) →
    ((more : List Event) × (log ≡ before ++ (Asked ∷ more))) ⊎ (before ≡ log)
last_asked [] rest [] after h e = inr refl
last_asked [] rest (f ∷ before) after h e =
    let tail : rest ≡ before ++ (Asked ∷ after) = cc in
    absurd (asked_inside before after (subst NotAsked tail h))
last_asked (d ∷ log) rest [] after h e =
    let head : d ≡ Asked = cc in
    inl (log, ap (λ z. z ∷ log) head)
last_asked (d ∷ log) rest (f ∷ before) after h e =
    let head : d ≡ f = cc in
    let tail : log ++ (Asked ∷ rest) ≡ before ++ (Asked ∷ after) = cc in
    elim (last_asked log rest before after h tail) [
      | inl p ↦ inl (p.0, ap (λ z. z ∷ log) head ∙ ap (λ z. f ∷ z) p.1)
      | inr p ↦ inr (ap (λ z. z ∷ before) (sym head) ∙ ap (λ z. d ∷ z) p)
    ]

-- the events of a take of this piece, and of what is said then
abbrev pub turn : List ℕ → List ℕ → List Event
turn piece out = Asked ∷ (map Heard piece ++ map Said out)

heard_turn : (piece out : List ℕ) → heard (turn piece out) ≡ piece
heard_turn piece out = heard-append (map Heard piece) (map Said out) ∙ ap (λ z. z ++ heard (map Said out)) (heard-map piece) ∙ ap (λ z. piece ++ z) (heard-map_said out) ∙ append-nil piece

said_turn : (piece out : List ℕ) → said (turn piece out) ≡ out
said_turn piece out = said-append (map Heard piece) (map Said out) ∙ ap (λ z. z ++ said (map Said out)) (said-map_heard piece) ∙ said-map out

pub open_turn : (piece out : List ℕ) → has_ended (turn piece out) ≡ false
open_turn piece out = ended_by (map Heard piece) (map Said out) (open-map_heard piece) ∙ open-map_said out

turn_asks_once : (piece out : List ℕ) → NotAsked (map Heard piece ++ map Said out)
turn_asks_once piece out = NotAsked-append (map Heard piece) (map Said out) (NotAsked-heard piece) (NotAsked-said out)

pub heard_after : (log : List Event) (piece out : List ℕ) → heard (log ++ turn piece out) ≡ heard log ++ piece
heard_after log piece out = heard-append log (turn piece out) ∙ ap (λ z. heard log ++ z) (heard_turn piece out)

said_after : (log : List Event) (piece out : List ℕ) → said (log ++ turn piece out) ≡ said log ++ out
said_after log piece out = said-append log (turn piece out) ∙ ap (λ z. said log ++ z) (said_turn piece out)

-- the events at the end of the input, and of what is said then
abbrev pub last_turn : List ℕ → List Event
last_turn out = Asked ∷ (Ended ∷ map Said out)

pub heard_last : (log : List Event) (out : List ℕ) → heard (log ++ last_turn out) ≡ heard log
heard_last log out = heard-append log (last_turn out) ∙ ap (λ z. heard log ++ z) (heard-map_said out) ∙ append-nil (heard log)

said_last : (log : List Event) (out : List ℕ) → said (log ++ last_turn out) ≡ said log ++ out
said_last log out = said-append log (last_turn out) ∙ ap (λ z. said log ++ z) (said-map out)

not_zero : (n : ℕ) → n ≢ 0 → (n == 0) ≡ false
not_zero n h = elim (eqb_tells n 0) [ inl p ↦ absurd (h p.1) | inr p ↦ p.0 ]

module _ {S : Type 0} (machine : Machine S) where
  -- everything that was to be said was said, and no line that was heard was refused
  abbrev pub Answered : S → List Event → Type 0
  Answered start log = (said log ≡ said_to machine start 1 (whole_lines (heard log))) × (refused_in machine start 1 (lines_of false (heard log)) ≡ None)

  -- and input may be asked for
  abbrev pub Ready : S → List Event → Type 0
  Ready start log =
      (has_ended log ≡ false) × (said log ≡ said_to machine start 1 (whole_lines (heard log))) × (refused_in machine start 1 (lines_of false (heard log)) ≡ None)

  ready_before : (start : S) (log before rest after : List Event) → InStep machine start log → Ready start log →
      (((more : List Event) × (log ≡ before ++ (Asked ∷ more))) ⊎ (before ≡ log)) → Ready start before
  ready_before start log before rest after h a (inl p) = h before p.0 p.1
  ready_before start log before rest after h a (inr p) = subst (Ready start) (sym p) a

  pub in_step_on : (start : S) (log rest : List Event) → InStep machine start log → Ready start log → NotAsked rest → InStep machine start (log ++ (Asked ∷ rest))
  in_step_on start log rest h a n before after e = ready_before start log before rest after h a (last_asked log rest before after n e)

  pub in_step_none : (start : S) → InStep machine start []
  in_step_none start [] after e = absurd (cc)
  in_step_none start (f ∷ before) after e = absurd (cc)

  -- what is known between two takes
  pub record IsFollowing (start : S) (log : List Event) (a : At S) : Type 0 where
    pub in_step : InStep machine start log
    pub still_open : has_ended log ≡ false
    pub behind : Behind machine start (heard log) (said log) a
    pub nothing_pending : a.pending ≡ []
    -- the unfinished line is not refused so far
    pub open_line : last_line false a.number a.piece ≡ []

  pub begins : (a : At S) → a.piece ≡ [] → a.pending ≡ [] → a.number ≡ 0 → IsFollowing a.state [] a
  begins a p q n = record {
    in_step = in_step_none a.state;
    still_open = refl;
    behind = record {
      piece = p;
      number = n;
      takes = subst (λ z. Takes machine a.state 1 [] z a.state) (sym q) Takes.none;
    };
    nothing_pending = q;
    open_line = ap (last_line false a.number) p;
  }

  answered_by : (start : S) (log : List Event) (a : At S) → IsFollowing start log a → Answered start log
  answered_by start log a h =
      let nothing = append-nil (said log ++ a.pending) ∙ ap (λ z. said log ++ z) h.nothing_pending ∙ append-nil (said log) in
      let lines = whole_lines (heard log) in
      let no_last : last_line false (0 + length lines) (last_piece (heard log)) ≡ [] =
      ap (λ n. last_line false n (last_piece (heard log))) (zero-add (length lines) ∙ sym h.behind.number) ∙ sym (ap (last_line false a.number) h.behind.piece) ∙ h.open_line in (
        sym (ap (said_to machine start 1) (sym (append-nil lines)) ∙ said_to-takes machine [] h.behind.takes ∙ nothing),
        ap (λ z. refused_in machine start 1 (lines ++ z)) no_last ∙ refused_in-takes machine [] h.behind.takes,
      )

  ready_by : (start : S) (log : List Event) (a : At S) → IsFollowing start log a → Ready start log
  ready_by start log a h =
      let answered = answered_by start log a h in
      (h.still_open, answered.0, answered.1)

  -- a piece whose lines were answered
  pub follows_on : (start : S) (log : List Event) (a b : At S) (piece out : List ℕ) → IsFollowing start log a → Moves machine a piece out b → b.pending ≡ [] →
      last_line false b.number b.piece ≡ [] → IsFollowing start (log ++ turn piece out) b
  follows_on start log a b piece out h f e o = record {
    in_step = in_step_on start log (map Heard piece ++ map Said out) h.in_step (ready_by start log a h) (turn_asks_once piece out);
    still_open = ended_by log (turn piece out) h.still_open ∙ open_turn piece out;
    behind =
        subst (λ bytes. Behind machine start bytes (said (log ++ turn piece out)) b) (sym (heard_after log piece out))
        (subst (λ z. Behind machine start (heard log ++ piece) z b) (sym (said_after log piece out)) (f start (heard log) (said log) h.behind));
    nothing_pending = e;
    open_line = o;
  }

  -- a piece in which the trace stopped
  pub closes_by_stop : (start : S) (log : List Event) (a : At S) (piece out : List ℕ) (end : Stop) → IsFollowing start log a → Stops machine a piece out end →
      InStep machine start (log ++ turn piece out) × Closes machine start (log ++ turn piece out) (end_of end)
  closes_by_stop start log a piece out (stop.Refused n) h g =
      let r = g start (heard log) (said log) h.behind in
      let bytes = heard_after log piece out ∙ sym (append-nil (heard log ++ piece)) in
      let is_open = ended_by log (turn piece out) h.still_open ∙ open_turn piece out in (
        in_step_on start log (map Heard piece ++ map Said out) h.in_step (ready_by start log a h) (turn_asks_once piece out),
        (
          said_after log piece out
              ∙ sym (ap (λ e. said_to machine start 1 (lines_of e (heard (log ++ turn piece out)))) is_open
              ∙ ap (λ z. said_to machine start 1 (lines_of false z)) bytes
              ∙ r.told false []),
          ap (λ e. refused_in machine start 1 (lines_of e (heard (log ++ turn piece out)))) is_open
              ∙ ap (λ z. refused_in machine start 1 (lines_of false z)) bytes
              ∙ r.refused false [],
        ),
      )
  closes_by_stop start log a piece out stop.PutFailed h g =
      let r = g start (heard log) (said log) h.behind false [] in
      let bytes = heard_after log piece out ∙ sym (append-nil (heard log ++ piece)) in
      let is_open = ended_by log (turn piece out) h.still_open ∙ open_turn piece out in (
        in_step_on start log (map Heard piece ++ map Said out) h.in_step (ready_by start log a h) (turn_asks_once piece out),
        (
          r.0,
          ap (λ e. said_to machine start 1 (lines_of e (heard (log ++ turn piece out)))) is_open
              ∙ ap (λ z. said_to machine start 1 (lines_of false z)) bytes
              ∙ r.1
              ∙ ap (λ z. z ++ r.0) (sym (said_after log piece out)),
        ),
      )

  pub closes_by_end : (start : S) (log : List Event) (a : At S) (out : List ℕ) (end : End) → IsFollowing start log a → EndsBy machine a out end →
      InStep machine start (log ++ last_turn out) × Closes machine start (log ++ last_turn out) end
  closes_by_end start log a out Done h g =
      let r = g start (heard log) (said log) h.behind in (
        in_step_on start log (Ended ∷ map Said out) h.in_step (ready_by start log a h) (NotAsked-said out),
        (
          ended_by log (last_turn out) h.still_open,
          said_last log out ∙ sym (ap (λ z. said_to machine start 1 (lines_of true z)) (heard_last log out) ∙ r.0),
          ap (λ z. refused_in machine start 1 (lines_of true z)) (heard_last log out) ∙ r.1,
        ),
      )
  closes_by_end start log a out (Refused n) h g =
      let r = g start (heard log) (said log) h.behind in
      let ended = ended_by log (last_turn out) h.still_open in (
        in_step_on start log (Ended ∷ map Said out) h.in_step (ready_by start log a h) (NotAsked-said out),
        (
          said_last log out
              ∙ sym (ap (λ e. said_to machine start 1 (lines_of e (heard (log ++ last_turn out)))) ended
              ∙ ap (λ z. said_to machine start 1 (lines_of true z)) (heard_last log out) ∙ r.0),
          ap (λ e. refused_in machine start 1 (lines_of e (heard (log ++ last_turn out)))) ended
              ∙ ap (λ z. refused_in machine start 1 (lines_of true z)) (heard_last log out) ∙ r.1,
        ),
      )
  closes_by_end start log a out TakeFailed h g = absurd g
  closes_by_end start log a out PutFailed h g =
      let r = g start (heard log) (said log) h.behind in
      let ended = ended_by log (last_turn out) h.still_open in (
        in_step_on start log (Ended ∷ map Said out) h.in_step (ready_by start log a h) (NotAsked-said out),
        (
          r.0,
          ap (λ e. said_to machine start 1 (lines_of e (heard (log ++ last_turn out)))) ended
              ∙ ap (λ z. said_to machine start 1 (lines_of true z)) (heard_last log out)
              ∙ r.1
              ∙ ap (λ z. z ++ r.0) (sym (said_last log out)),
        ),
      )

  -- and the state that it is in then
  pub reaches_by_end : (start : S) (log : List Event) (a : At S) (out : List ℕ) (end : End) (t : S) → IsFollowing start log a → EndsIn machine a out end t → Reaches machine start (log ++ last_turn out) end t
  reaches_by_end start log a out Done t h g =
      subst (λ z. Takes machine start 1 (lines_of true z) (said (log ++ last_turn out)) t) (sym (heard_last log out))
      (subst (λ z. Takes machine start 1 (lines_of true (heard log)) z t) (sym (said_last log out)) (g start (heard log) (said log) h.behind))
  reaches_by_end start log a out (Refused n) t h g = tt
  reaches_by_end start log a out TakeFailed t h g = tt
  reaches_by_end start log a out PutFailed t h g = tt

  pub reaches_by_stop : (start : S) (log : List Event) (end : Stop) (t : S) → Reaches machine start log (end_of end) t
  reaches_by_stop start log (stop.Refused n) t = tt
  reaches_by_stop start log stop.PutFailed t = tt

  -- a take that failed
  pub closes_by_fault : (start : S) (log : List Event) (a : At S) → IsFollowing start log a → InStep machine start log × Closes machine start log TakeFailed
  closes_by_fault start log a h = (h.in_step, answered_by start log a h)

  pub closes_by_asked_fault : (start : S) (log : List Event) (a : At S) → IsFollowing start log a →
      InStep machine start (log ++ (Asked ∷ [])) × Closes machine start (log ++ (Asked ∷ [])) TakeFailed
  closes_by_asked_fault start log a h =
      let answered = answered_by start log a h in
      let heard_same = heard-append log (Asked ∷ []) ∙ append-nil (heard log) in
      let said_same = said-append log (Asked ∷ []) ∙ append-nil (said log) in (
        in_step_on start log [] h.in_step (ready_by start log a h) tt,
        (
          said_same ∙ answered.0 ∙ ap (λ z. said_to machine start 1 (whole_lines z)) (sym heard_same),
          ap (λ z. refused_in machine start 1 (lines_of false z)) heard_same ∙ answered.1,
        ),
      )

  -- ---- the end of the input

  last_is_line : (n : ℕ) (piece : List ℕ) → 0 < length piece → last_line true n piece ≡ piece ∷ []
  last_is_line n [] h = absurd (omega (arith, h))
  last_is_line n (b ∷ piece) h = refl

  -- no line is unfinished
  pub finishes_none : (a : At S) → a.piece ≡ [] → a.pending ≡ [] → Finishes machine a [] None
  finishes_none a p q start before earlier h =
      let lines = ap (λ z. whole_lines before ++ last_line true (0 + length (whole_lines before)) z) (sym h.piece ∙ p) in (
        ap (said_to machine start 1) lines ∙ said_to-takes machine [] h.takes ∙ append-nil (earlier ++ a.pending) ∙ ap (λ z. earlier ++ z) q,
        ap (refused_in machine start 1) lines ∙ refused_in-takes machine [] h.takes,
      )

  line_at_end : (a : At S) (before : List ℕ) → a.piece ≡ last_piece before → 0 < length a.piece → lines_of true before ≡ whole_lines before ++ a.piece ∷ []
  line_at_end a before p h =
      ap (λ z. whole_lines before ++ last_line true (0 + length (whole_lines before)) z) (sym p)
      ∙ ap (λ z. whole_lines before ++ z) (last_is_line (0 + length (whole_lines before)) a.piece h)

  -- the unfinished line is answered
  pub finishes_line : (a : At S) (out : List ℕ) (t : S) → 0 < length a.piece → a.pending ≡ [] → answer machine a.state (suc a.number) a.piece ≡ Ok (out, t) → Finishes machine a out None
  finishes_line a out t p q e start before earlier h =
      let lines = line_at_end a before h.piece p in (
        ap (said_to machine start 1) lines
            ∙ said_to-takes machine (a.piece ∷ []) h.takes
            ∙ ap (λ m. (earlier ++ a.pending) ++ said_to machine a.state m (a.piece ∷ [])) (omega (arith, h.number))
            ∙ ap (λ z. (earlier ++ a.pending) ++ elim z [ Ok b ↦ b.0 ++ said_to machine b.1 (suc (suc a.number)) [] | Err found ↦ [] ]) e
            ∙ ap (λ z. (earlier ++ a.pending) ++ z) (append-nil out)
            ∙ ap (λ z. (earlier ++ z) ++ out) q
            ∙ ap (λ z. z ++ out) (append-nil earlier),
        ap (refused_in machine start 1) lines
            ∙ refused_in-takes machine (a.piece ∷ []) h.takes
            ∙ ap (λ m. refused_in machine a.state m (a.piece ∷ [])) (omega (arith, h.number))
            ∙ ap (λ z. elim z [ Ok b ↦ refused_in machine b.1 (suc (suc a.number)) [] | Err found ↦ Some (bad (suc a.number) found) ]) e,
      )

  -- the unfinished line is refused
  pub finishes_refused : (a : At S) (fault : Fault) (line : BadLine) → 0 < length a.piece → a.pending ≡ [] → line ≡ bad (a.number + 1) fault →
      answer machine a.state (suc a.number) a.piece ≡ Err fault → Finishes machine a [] (Some line)
  finishes_refused a fault line p q k e start before earlier h =
      let lines = line_at_end a before h.piece p in
      let number : suc a.number ≡ a.number + 1 = omega arith in (
        ap (said_to machine start 1) lines
            ∙ said_to-takes machine (a.piece ∷ []) h.takes
            ∙ ap (λ m. (earlier ++ a.pending) ++ said_to machine a.state m (a.piece ∷ [])) (omega (arith, h.number))
            ∙ ap (λ z. (earlier ++ a.pending) ++ elim z [ Ok b ↦ b.0 ++ said_to machine b.1 (suc (suc a.number)) [] | Err found ↦ [] ]) e
            ∙ append-nil (earlier ++ a.pending)
            ∙ ap (λ z. earlier ++ z) q,
        ap (refused_in machine start 1) lines
            ∙ refused_in-takes machine (a.piece ∷ []) h.takes
            ∙ ap (λ m. refused_in machine a.state m (a.piece ∷ [])) (omega (arith, h.number))
            ∙ ap (λ z. elim z [ Ok b ↦ refused_in machine b.1 (suc (suc a.number)) [] | Err found ↦ Some (bad (suc a.number) found) ]) e
            ∙ ap (λ m. Some (bad m fault)) number
            ∙ ap (λ found. Some found) (sym k),
      )

  -- the state at the end, where no line is unfinished, and where the unfinished one is answered
  pub ends_none : (a : At S) → a.piece ≡ [] → a.pending ≡ [] → EndsIn machine a [] Done a.state
  ends_none a p q start before earlier h =
      let lines = ap (λ z. whole_lines before ++ last_line true (0 + length (whole_lines before)) z) (sym h.piece ∙ p) ∙ append-nil (whole_lines before) in
      subst (λ z. Takes machine start 1 z (earlier ++ []) a.state) (sym lines) (subst (λ z. Takes machine start 1 (whole_lines before) (earlier ++ z) a.state) q h.takes)

  pub ends_line : (a : At S) (out : List ℕ) (t : S) → 0 < length a.piece → a.pending ≡ [] → answer machine a.state (suc a.number) a.piece ≡ Ok (out, t) → EndsIn machine a out Done t
  ends_line a out t p q e start before earlier h =
      let all = takes_more machine a.piece h.takes (omega (arith, h.number)) e in
      subst (λ z. Takes machine start 1 z (earlier ++ out) t) (sym (line_at_end a before h.piece p))
      (subst (λ z. Takes machine start 1 (whole_lines before ++ a.piece ∷ []) (z ++ out) t) (ap (λ z. earlier ++ z) q ∙ append-nil earlier) all)

  -- of the last answer only a part is said
  pub breaks_off : (a : At S) (u v out : List ℕ) → u ++ v ≡ out → Finishes machine a out None → BreaksOff machine a u
  breaks_off a u v out e f start before earlier h =
      (v, (f start before earlier h).0 ∙ ap (λ z. earlier ++ z) (sym e) ∙ sym (append_assoc earlier u v))

-- what a console tells of a turn: it was asked, gave a piece, and took what was said
pub turn_grows : (a b d e : Option (List Event)) (log : List Event) (n : ℕ) (buffer piece out : List ℕ) → n ≢ 0 → piece ≡ take n buffer →
    Grows a b log → Grows b d (take_events n buffer) → Grows d e (put_events out) → Grows a e (log ++ turn piece out)
turn_grows a b d e log n buffer piece out h k p q r =
    let asked : take_events n buffer ≡ Asked ∷ map Heard piece =
    ap (λ t. if t then Asked ∷ Ended ∷ [] else Asked ∷ map Heard (take n buffer)) (not_zero n h) ∙ ap (λ z. Asked ∷ map Heard z) (sym k) in
    Grows-trans a b e log (turn piece out) p
    (Grows-trans b d e (Asked ∷ map Heard piece) (map Said out) (subst (Grows b d) asked q) r)

pub turn_loses : (a b d e : Option (List ℕ)) (log : List Event) (n : ℕ) (buffer piece out : List ℕ) → piece ≡ take n buffer →
    Loses a b (heard log) → Loses b d (take n buffer) → e ≡ d → Loses a e (heard (log ++ turn piece out))
turn_loses a b d e log n buffer piece out k p q r =
    subst (Loses a e) (sym (heard_after log piece out))
    (Loses-trans a b e (heard log) piece p (subst (λ z. Loses b z piece) (sym r) (subst (Loses b d) (sym k) q)))

-- the same at the end of the input
pub last_grows : (a b d e : Option (List Event)) (log : List Event) (n : ℕ) (buffer out : List ℕ) → n ≡ 0 →
    Grows a b log → Grows b d (take_events n buffer) → Grows d e (put_events out) → Grows a e (log ++ last_turn out)
last_grows a b d e log n buffer out h p q r =
    Grows-trans a b e log (last_turn out) p
    (Grows-trans b d e (Asked ∷ Ended ∷ []) (map Said out) (subst (λ m. Grows b d (take_events m buffer)) h q) r)

pub last_loses : (a b d e : Option (List ℕ)) (log : List Event) (n : ℕ) (buffer out : List ℕ) → n ≡ 0 →
    Loses a b (heard log) → Loses b d (take n buffer) → e ≡ d → Loses a e (heard (log ++ last_turn out))
last_loses a b d e log n buffer out h p q r =
    subst (Loses a e) (append-nil (heard log) ∙ sym (heard_last log out))
    (Loses-trans a b e (heard log) [] p (subst (λ z. Loses b z []) (sym r) (subst (λ m. Loses b d (take m buffer)) h q)))

-- ---- where the input has ended

-- it has not ended yet
pub goes_on : (log : List Event) → has_ended log ≡ false → (left : Option (List ℕ)) → has_ended log ≡ true → Told left (λ rest. rest ≡ [])
goes_on log open_log left ended = absurd (cc)

-- nothing was left at the last take
pub nothing_left : (a b d : Option (List ℕ)) (n : ℕ) (buffer : List ℕ) → n ≡ 0 → Told a (λ rest. rest ≡ []) → Loses a b (take n buffer) → d ≡ b → Told d (λ rest. rest ≡ [])
nothing_left a None d n buffer h told loses e = subst (λ o. Told o (λ rest. rest ≡ [])) (sym e) tt
nothing_left a (Some rest) d n buffer h told loses e =
    let same : a ≡ Some rest = loses ∙ ap (λ m. Some (take m buffer ++ rest)) h in
    subst (λ o. Told o (λ rest. rest ≡ [])) (sym e) (subst (λ o. Told o (λ rest. rest ≡ [])) same told)
