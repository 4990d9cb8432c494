-- The steps of a hearing, as its fields tell them.
use Rattle.std.proofs.Common.{◌≡◌, ℕ, suc, ◌+◌, ◌<◌, ◌≤◌, true, false, ◌==◌, eqb, ◌⊎◌, List, [], ◌∷◌, ◌++◌, length, inl, inr, Option, refl, sym, ap, subst, ◌∙◌, arith, append_assoc, length-append}
use Rattle.std.proofs.lemmas.Bool.{eqb-true}
use Rattle.std.proofs.lemmas.Bool.Decides.{eqb_tells}
use Rattle.std.proofs.lemmas.List.{append-nil, map-append, nil_from_length}
use Rattle.hp_io.specs.Told.{Grows}
use Rattle.hp_io.specs.Events.{put_events}
use Rattle.hp_io.specs.declared.console.Event.{Event}
use Rattle.hp_io.specs.declared.console.Event.TheVariants.{Said}
use Rattle.hp_io.proofs.ToldLaws.{Grows-trans}
use Rattle.hp_driver.specs.Lines.{whole_lines, last_piece, lines_of, lines_behind, IsPiece}
use Rattle.hp_driver.specs.LineFaults.{by_words, bad}
use Rattle.hp_driver.specs.Trace.{Machine, said_to, refused_in}
use Rattle.hp_driver.specs.Course.{At, Moves, Refuses, Breaks}
use Rattle.hp_driver.specs.declared.trace_limits.Stop.{Stop}
use Rattle.hp_driver.specs.declared.trace_limits.Stop.TheVariants as stop
use Rattle.hp_driver.specs.Course.{Stops}
use Rattle.hp_driver.specs.Hearing.{at, SaysBefore, SaysPending, Hears, IsPast}
use Rattle.std.specs.Prelude.{Result, Ok, Err, vec_len}
use Rattle.hp_driver.specs.declared.trace_limits.Hearing.{Hearing}
use Rattle.hp_driver.proofs.LineLaws.{lines_behind-append}
use Rattle.hp_lines.specs.declared.read.TheConstants.{MAX_LINE}
use Rattle.hp_driver.specs.declared.trace_limits.TheConstants.{MAX_LINES}
use Rattle.hp_lines.specs.declared.read.LineErr.{LineErr}
use Rattle.hp_driver.specs.declared.trace_limits.BadLine.{BadLine}
use Rattle.hp_driver.specs.declared.trace_limits.Fault.{Fault}
use Rattle.hp_driver.specs.declared.trace_limits.Fault.TheVariants.{Line, Long, Many}
use Rattle.hp_driver.proofs.TraceLaws.{answer_within, moves_on, stays, speaks, hears_byte, hears_newline, refuses_line, refuses_long, refuses_many, said_to-takes}

same_at : {S : Type 0} (a b : At S) → a.piece ≡ b.piece → a.pending ≡ b.pending → a.number ≡ b.number → a.state ≡ b.state → a ≡ b
same_at a b p q r s = λ i. record { piece = p i; pending = q i; number = r i; state = s i }

le_or_more : (m n : ℕ) → (m ≤ n) ⊎ (n < m)
le_or_more m n = grind arith

-- whether there are bytes
positive : (n : ℕ) → false ≡ eqb n 0 → 0 < n
positive n h = elim (eqb_tells n 0) [ inl p ↦ absurd (cc) | inr p ↦ grind arith ]

pub some_bytes : (bytes : List ℕ) → false ≡ eqb (length bytes) 0 → 0 < length bytes
some_bytes bytes h = positive (length bytes) h

pub no_bytes : (bytes : List ℕ) → true ≡ eqb (length bytes) 0 → bytes ≡ []
no_bytes bytes h = nil_from_length bytes (eqb-true (length bytes) 0 (sym h))

-- what is said, in two parts
pub says_on : (a b c : Option (List Event)) (x y : List ℕ) → Grows a b (put_events x) → Grows b c (put_events y) → Grows a c (put_events (x ++ y))
says_on a b c x y p q = subst (Grows a c) (sym (map-append Said x y)) (Grows-trans a b c (put_events x) (put_events y) p q)

module _ {S : Type 0} (machine : Machine S) where
  -- bytes of which none is a newline
  hears_piece : (a : At S) (bytes : List ℕ) → IsPiece bytes → Moves machine a bytes [] (record a { piece = a.piece ++ bytes })
  hears_piece a [] h = subst (Moves machine a [] []) (λ i. record a { piece = sym (append-nil a.piece) i }) (stays machine a)
  hears_piece a (b ∷ bytes) h =
      let m : At S = record a { piece = a.piece ++ b ∷ [] } in
      subst (Moves machine a (b ∷ bytes) []) (λ i. record a { piece = append_assoc a.piece (b ∷ []) bytes i })
      (moves_on machine a m (record a { piece = (a.piece ++ b ∷ []) ++ bytes }) (b ∷ []) bytes [] [] (hears_byte machine a b h.0) (hears_piece m bytes h.1))

  -- they are put behind the unfinished line
  pub moves_by_piece : (a b : At S) (bytes : List ℕ) → IsPiece bytes → b.piece ≡ a.piece ++ bytes → b.pending ≡ a.pending → b.number ≡ a.number → b.state ≡ a.state → Moves machine a bytes [] b
  moves_by_piece a b bytes h p q r s =
      subst (Moves machine a bytes []) (same_at (record a { piece = a.piece ++ bytes }) b (sym p) (sym q) (sym r) (sym s)) (hears_piece a bytes h)

  -- a line is answered
  moves_by_newline : (a b : At S) (out : List ℕ) → machine a.state a.piece ≡ Ok (out, b.state) → a.number < MAX_LINES → length a.piece ≤ MAX_LINE →
      b.piece ≡ [] → b.pending ≡ a.pending ++ out → b.number ≡ a.number + 1 → Moves machine a (10 ∷ []) [] b
  moves_by_newline a b out e few short p q r =
      subst (Moves machine a (10 ∷ []) [])
      (same_at (record { piece = []; pending = a.pending ++ out; number = suc a.number; state = b.state }) b (sym p) (sym q) (omega (arith, r)) refl)
      (hears_newline machine a out b.state (answer_within machine a.state (suc a.number) a.piece (omega (arith, few)) short ∙ ap by_words e))

  pub moves_by_line : (a b : At S) (bytes out : List ℕ) → IsPiece bytes → machine a.state (a.piece ++ bytes) ≡ Ok (out, b.state) → a.number < MAX_LINES → length (a.piece ++ bytes) ≤ MAX_LINE →
      b.piece ≡ [] → b.pending ≡ a.pending ++ out → b.number ≡ a.number + 1 → Moves machine a (bytes ++ 10 ∷ []) [] b
  moves_by_line a b bytes out h e few short p q r =
      let m : At S = record a { piece = a.piece ++ bytes } in
      moves_on machine a m b bytes (10 ∷ []) [] [] (hears_piece a bytes h) (moves_by_newline m b out e few short p q r)

  refuses_by_newline : (a : At S) (error : LineErr) → machine a.state a.piece ≡ Err error → a.number < MAX_LINES → length a.piece ≤ MAX_LINE →
      Refuses machine a (10 ∷ []) a.pending (bad (suc a.number) (Line error))
  refuses_by_newline a error e few short = refuses_line machine a (Line error) (answer_within machine a.state (suc a.number) a.piece (omega (arith, few)) short ∙ ap by_words e)

  -- what is pending is said
  pub moves_by_saying : (a b : At S) → b.piece ≡ a.piece → b.pending ≡ [] → b.number ≡ a.number → b.state ≡ a.state → Moves machine a [] a.pending b
  moves_by_saying a b p q r s =
      subst (Moves machine a [] a.pending) (same_at (record a { pending = [] }) b (sym p) (sym q) (sym r) (sym s)) (speaks machine a)

  -- a step, and then a refusal
  pub refuses_on : (a b : At S) (xs ys u v : List ℕ) (n : BadLine) → Moves machine a xs u b → Refuses machine b ys v n → Refuses machine a (xs ++ ys) (u ++ v) n
  refuses_on a b xs ys u v n f g start before earlier h =
      let r = g start (before ++ xs) (earlier ++ u) (f start before earlier h) in
      record {
        refused = λ ended more. ap (λ bytes. refused_in machine start 1 (lines_of ended (bytes ++ more))) (sym (append_assoc before xs ys)) ∙ r.refused ended more;
        told = λ ended more. ap (λ bytes. said_to machine start 1 (lines_of ended (bytes ++ more))) (sym (append_assoc before xs ys)) ∙ r.told ended more ∙ append_assoc earlier u v;
      }

  -- a refusal stays one, however the bytes go on
  pub refuses_among : (a : At S) (xs ys u : List ℕ) (n : BadLine) → Refuses machine a xs u n → Refuses machine a (xs ++ ys) u n
  refuses_among a xs ys u n g start before earlier h =
      let r = g start before earlier h in
      let bytes = λ (more : List ℕ). ap (λ z. z ++ more) (sym (append_assoc before xs ys)) ∙ append_assoc (before ++ xs) ys more in
      record {
        refused = λ ended more. ap (λ z. refused_in machine start 1 (lines_of ended z)) (bytes more) ∙ r.refused ended (ys ++ more);
        told = λ ended more. ap (λ z. said_to machine start 1 (lines_of ended z)) (bytes more) ∙ r.told ended (ys ++ more);
      }

  -- a part of what is said at a refusal
  pub breaks_refusal : (a : At S) (xs u v : List ℕ) (n : BadLine) → Refuses machine a xs (u ++ v) n → Breaks machine a xs u
  breaks_refusal a xs u v n g start before earlier h ended more =
      (v, (g start before earlier h).told ended more ∙ sym (append_assoc earlier u v))

  -- the same, by the line that the code has
  pub refuses_as : (a : At S) (bytes out : List ℕ) (fault : Fault) (line : BadLine) → line ≡ bad (a.number + 1) fault →
      Refuses machine a bytes out (bad (suc a.number) fault) → Refuses machine a bytes out line
  refuses_as a bytes out fault line e h =
      let same : suc a.number ≡ a.number + 1 = omega arith in
      subst (Refuses machine a bytes out) (ap (λ n. bad n fault) same ∙ sym e) h

  pub refuses_by_line : (a : At S) (bytes : List ℕ) (error : LineErr) (line : BadLine) → IsPiece bytes → machine a.state (a.piece ++ bytes) ≡ Err error → a.number < MAX_LINES → length (a.piece ++ bytes) ≤ MAX_LINE →
      line ≡ bad (a.number + 1) (Line error) → Refuses machine a (bytes ++ 10 ∷ []) a.pending line
  refuses_by_line a bytes error line h e few short is =
      let m : At S = record a { piece = a.piece ++ bytes } in
      refuses_as a (bytes ++ 10 ∷ []) a.pending (Line error) line is
      (refuses_on a m bytes (10 ∷ []) [] a.pending (bad (suc a.number) (Line error)) (hears_piece a bytes h) (refuses_by_newline m error e few short))

  -- a line that is too long is refused at the byte that makes it so
  long_by : (a : At S) (b : ℕ) (bytes : List ℕ) → (b == 10) ≡ false → a.number < MAX_LINES →
      Refuses machine (record a { piece = a.piece ++ b ∷ [] }) bytes a.pending (bad (suc a.number) Long) ⊎ (MAX_LINE < length a.piece + 1) →
      Refuses machine a (b ∷ bytes) a.pending (bad (suc a.number) Long)
  long_by a b bytes e few (inl h) =
      refuses_on a (record a { piece = a.piece ++ b ∷ [] }) (b ∷ []) bytes [] a.pending (bad (suc a.number) Long) (hears_byte machine a b e) h
  long_by a b bytes e few (inr k) = refuses_among a (b ∷ []) bytes a.pending (bad (suc a.number) Long) (refuses_long machine a b e few k)

  refuses_too_long : (a : At S) (bytes : List ℕ) → IsPiece bytes → a.number < MAX_LINES → length a.piece ≤ MAX_LINE → MAX_LINE < length a.piece + length bytes →
      Refuses machine a bytes a.pending (bad (suc a.number) Long)
  refuses_too_long a [] h few short long = absurd (omega (arith, short, long))
  refuses_too_long a (b ∷ bytes) h few short long =
      elim (le_or_more (length a.piece + 1) MAX_LINE) [
        | inl k ↦ long_by a b bytes h.0 few (inl (refuses_too_long (record a { piece = a.piece ++ b ∷ [] }) bytes h.1 few (omega (arith, length-append a.piece (b ∷ []), k)) (omega (arith, length-append a.piece (b ∷ []), long))))
        | inr k ↦ long_by a b bytes h.0 few (inr k)
      ]

  -- a line too many is refused at its first byte
  refuses_too_many : (a : At S) (bytes : List ℕ) → 0 < length bytes → MAX_LINES ≤ a.number → Refuses machine a bytes a.pending (bad (suc a.number) Many)
  refuses_too_many a [] h many = absurd (omega (arith, h))
  refuses_too_many a (b ∷ bytes) h many = refuses_among a (b ∷ []) bytes a.pending (bad (suc a.number) Many) (refuses_many machine a b many)

  past_by : (s : S) (old : Hearing) (bytes rest : List ℕ) (line : BadLine) → IsPiece bytes → 0 < length (bytes ++ rest) → length old.piece.items ≤ MAX_LINE → length old.piece.items ≡ vec_len old.piece →
      IsPast old bytes line → Refuses machine (at s old) (bytes ++ rest) old.pending.items line
  past_by s old bytes rest line h some short len (inl many) =
      refuses_as (at s old) (bytes ++ rest) old.pending.items Many line many.1 (refuses_too_many (at s old) (bytes ++ rest) some many.0)
  past_by s old bytes rest line h some short len (inr long) =
      refuses_as (at s old) (bytes ++ rest) old.pending.items Long line long.2
      (refuses_among (at s old) bytes rest old.pending.items (bad (suc old.number) Long) (refuses_too_long (at s old) bytes h long.0 short (omega (arith, len, long.1))))

  -- a line that is past the limits is refused, with its newline or without it
  pub past_line : (s : S) (old : Hearing) (bytes : List ℕ) (line : BadLine) → IsPiece bytes → length old.piece.items ≤ MAX_LINE → length old.piece.items ≡ vec_len old.piece →
      IsPast old bytes line → Refuses machine (at s old) (bytes ++ 10 ∷ []) old.pending.items line
  past_line s old bytes line h short len past =
      past_by s old bytes (10 ∷ []) line h (omega (arith, length-append bytes (10 ∷ []))) short len past

  pub past_bytes : (s : S) (old : Hearing) (bytes : List ℕ) (line : BadLine) → IsPiece bytes → 0 < length bytes → length old.piece.items ≤ MAX_LINE → length old.piece.items ≡ vec_len old.piece →
      IsPast old bytes line → Refuses machine (at s old) bytes old.pending.items line
  past_bytes s old bytes line h some short len past =
      subst (λ xs. Refuses machine (at s old) xs old.pending.items line) (append-nil bytes)
      (past_by s old bytes [] line h (omega (arith, some, length-append bytes [])) short len past)

  breaks_on : (a b : At S) (xs ys u v : List ℕ) → Moves machine a xs u b → Breaks machine b ys v → Breaks machine a (xs ++ ys) (u ++ v)
  breaks_on a b xs ys u v f g start before earlier h ended more =
      let r = g start (before ++ xs) (earlier ++ u) (f start before earlier h) ended more in (
        r.0,
        ap (λ bytes. said_to machine start 1 (lines_of ended (bytes ++ more))) (sym (append_assoc before xs ys))
            ∙ r.1
            ∙ ap (λ z. z ++ r.0) (append_assoc earlier u v),
      )

  breaks_among : (a : At S) (xs ys u : List ℕ) → Breaks machine a xs u → Breaks machine a (xs ++ ys) u
  breaks_among a xs ys u g start before earlier h ended more =
      let r = g start before earlier h ended (ys ++ more) in (
        r.0,
        ap (λ z. said_to machine start 1 (lines_of ended z)) (ap (λ z. z ++ more) (sym (append_assoc before xs ys)) ∙ append_assoc (before ++ xs) ys more)
            ∙ r.1,
      )

  -- a part of what is pending
  pub breaks_pending : (a : At S) (u v : List ℕ) → u ++ v ≡ a.pending → Breaks machine a [] u
  breaks_pending a u v e start before earlier h ended more =
      let others = lines_behind (0 + length (whole_lines before)) ended (last_piece before ++ more) in
      let rest = said_to machine a.state (1 + length (whole_lines before)) others in (
        v ++ rest,
        ap (λ z. said_to machine start 1 (lines_of ended (z ++ more))) (append-nil before)
            ∙ ap (said_to machine start 1) (lines_behind-append 0 ended before more)
            ∙ said_to-takes machine others h.takes
            ∙ ap (λ z. (earlier ++ z) ++ rest) (sym e)
            ∙ ap (λ z. z ++ rest) (sym (append_assoc earlier u v))
            ∙ append_assoc (earlier ++ u) v rest,
      )

  pub stops_on : (a b : At S) (xs ys u v : List ℕ) (end : Stop) → Moves machine a xs u b → Stops machine b ys v end → Stops machine a (xs ++ ys) (u ++ v) end
  stops_on a b xs ys u v (stop.Refused n) f g = refuses_on a b xs ys u v n f g
  stops_on a b xs ys u v stop.PutFailed f g = breaks_on a b xs ys u v f g

  pub stops_among : (a : At S) (xs ys u : List ℕ) (end : Stop) → Stops machine a xs u end → Stops machine a (xs ++ ys) u end
  stops_among a xs ys u (stop.Refused n) g = refuses_among a xs ys u n g
  stops_among a xs ys u stop.PutFailed g = breaks_among a xs ys u g

  -- what a refusal says, and the stop that it is
  pub stops_refusal : (a : At S) (bytes pending out : List ℕ) (n : BadLine) (end : Stop) → Refuses machine a bytes pending n → SaysBefore end n pending out → Stops machine a bytes out end
  stops_refusal a bytes pending out n (stop.Refused m) g e =
      subst (λ z. Refuses machine a bytes out z) (sym e.0) (subst (λ z. Refuses machine a bytes z n) (sym e.1) g)
  stops_refusal a bytes pending out n stop.PutFailed g e =
      breaks_refusal a bytes out e.0 n (subst (λ z. Refuses machine a bytes z n) (sym e.1) g)

  -- a step, and then one more
  pub hears_on : {T : Type 0} (r : Result T Stop) (a b d : At S) (xs ys u v : List ℕ) → Moves machine a xs u b → Hears machine r b ys v d → Hears machine r a (xs ++ ys) (u ++ v) d
  hears_on (Ok x) a b d xs ys u v f g = moves_on machine a b d xs ys u v f g
  hears_on (Err end) a b d xs ys u v f g = stops_on a b xs ys u v end f g

  -- saying what is pending, or the first of it
  pub hears_by_saying : {T : Type 0} (r : Result T Stop) (a b : At S) (out : List ℕ) → SaysPending r a.pending out →
      b.piece ≡ a.piece → b.pending ≡ [] → b.number ≡ a.number → b.state ≡ a.state → Hears machine r a [] out b
  hears_by_saying (Ok x) a b out e p q r s = subst (λ z. Moves machine a [] z b) (sym e) (moves_by_saying a b p q r s)
  hears_by_saying (Err (stop.Refused n)) a b out e p q r s = absurd e
  hears_by_saying (Err stop.PutFailed) a b out e p q r s = breaks_pending a out e.0 e.1
