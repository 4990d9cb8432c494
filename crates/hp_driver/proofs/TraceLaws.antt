-- What is said to lines, part by part.
use Rattle.std.proofs.Common.{◌≡◌, ℕ, suc, ◌+◌, ◌<◌, ◌≤◌, Bool, true, false, nat_lt, List, [], ◌∷◌, ◌++◌, length, if◌then◌else◌, inl, inr, Some, refl, sym, ap, subst, ◌∙◌, arith, append_assoc, length-append, eqb-true, ◌==◌, zero-add}
use Rattle.std.proofs.lemmas.List.{append-nil}
use Rattle.std.specs.Prelude.{Result, Ok, Err}
use Rattle.std.proofs.lemmas.Bool.{lt-ltb, le-ltb}
use Rattle.hp_driver.specs.Lines.{whole_lines, last_piece, lines_behind, last_line, IsPiece}
use Rattle.hp_driver.specs.LineFaults.{by_words, bad}
use Rattle.hp_driver.specs.Trace.{Machine, answer, said_to, refused_in}
use Rattle.hp_driver.specs.Course.{At, Takes, none, next, Behind, Moves, Refuses}
use Rattle.hp_lines.specs.declared.read.LineErr.{LineErr}
use Rattle.hp_lines.specs.declared.read.TheConstants.{MAX_LINE}
use Rattle.hp_driver.specs.declared.trace_limits.Fault.{Fault}
use Rattle.hp_driver.specs.declared.trace_limits.Fault.TheVariants.{Long, Many}
use Rattle.hp_driver.specs.declared.trace_limits.TheConstants.{MAX_LINES}
use Rattle.hp_driver.proofs.LineLaws.{whole_lines-append, last_piece-append, last_piece_is_piece, whole_lines-newline, last_piece-newline, whole_lines-piece, last_piece-piece, push_is_piece, Begins, IsKnown, known_begins, lines_behind-append}

-- what a line gives, by the tests on its number and its length
abbrev pub by_tests : {A : Type 0} → Bool → Bool → Result A LineErr → Result A Fault
by_tests many long r = if many then Err Many else (if long then Err Long else by_words r)

begins_of : (ended : Bool) (n : ℕ) (piece more : List ℕ) → IsPiece piece → IsKnown n piece → 0 < length piece → Begins piece (lines_behind n ended (piece ++ more))
begins_of ended n [] more h k l = absurd (omega (arith, l))
begins_of ended n (b ∷ piece) more h k l = known_begins ended n b piece more h k

begins_many_by : (d : Bool) (ended : Bool) (n : ℕ) (piece : List ℕ) (b : ℕ) (more : List ℕ) → (b == 10) ≡ d → IsPiece piece → MAX_LINES ≤ n →
    (line : List ℕ) × (others : List (List ℕ)) × (lines_behind n ended (piece ++ b ∷ more) ≡ line ∷ others)
begins_many_by true ended n piece b more e h k =
    let newline : b ≡ 10 = eqb-true b 10 e in (
      piece,
      whole_lines more ++ last_line ended (n + length (whole_lines (piece ++ b ∷ more))) (last_piece (piece ++ b ∷ more)),
      ap (λ w. w ++ last_line ended (n + length (whole_lines (piece ++ b ∷ more))) (last_piece (piece ++ b ∷ more)))
          (ap (λ z. whole_lines (piece ++ z ∷ more)) newline ∙ whole_lines-newline piece more h),
    )
begins_many_by false ended n piece b more e h k =
    let found = begins_of ended n (piece ++ b ∷ []) more (push_is_piece piece b h e) (inr k) (omega (arith, length-append piece (b ∷ []))) in
    ((piece ++ b ∷ []) ++ found.rest_of_line, found.others, ap (lines_behind n ended) (sym (append_assoc piece (b ∷ []) more)) ∙ found.is)

some_line : (ended : Bool) (n : ℕ) (piece : List ℕ) (b : ℕ) (more : List ℕ) → IsPiece piece → MAX_LINES ≤ n →
    (line : List ℕ) × (others : List (List ℕ)) × (lines_behind n ended (piece ++ b ∷ more) ≡ line ∷ others)
some_line ended n piece b more h k = begins_many_by (b == 10) ended n piece b more refl h k

module _ {S : Type 0} (machine : Machine S) where
  -- a line that is short enough, and not one too many, is answered by the machine
  pub answer_within : (s : S) (n : ℕ) (line : List ℕ) → n ≤ MAX_LINES → length line ≤ MAX_LINE → answer machine s n line ≡ by_words (machine s line)
  answer_within s n line h k =
      ap (λ d. by_tests d (nat_lt MAX_LINE (length line)) (machine s line)) (le-ltb MAX_LINES n h)
      ∙ ap (λ d. by_tests false d (machine s line)) (le-ltb MAX_LINE (length line) k)

  pub answer_too_many : (s : S) (n : ℕ) (line : List ℕ) → MAX_LINES < n → answer machine s n line ≡ Err Many
  answer_too_many s n line h = ap (λ d. by_tests d (nat_lt MAX_LINE (length line)) (machine s line)) (lt-ltb MAX_LINES n h)

  pub answer_too_long : (s : S) (n : ℕ) (line : List ℕ) → n ≤ MAX_LINES → MAX_LINE < length line → answer machine s n line ≡ Err Long
  answer_too_long s n line few h =
      ap (λ d. by_tests d (nat_lt MAX_LINE (length line)) (machine s line)) (le-ltb MAX_LINES n few)
      ∙ ap (λ d. by_tests false d (machine s line)) (lt-ltb MAX_LINE (length line) h)

  pub said_to-takes : {s t : S} {n : ℕ} {lines : List (List ℕ)} {said : List ℕ} (others : List (List ℕ)) → Takes machine s n lines said t → said_to machine s n (lines ++ others) ≡ said ++ said_to machine t (n + length lines) others
  said_to-takes {t} {n} others none = ap (λ m. said_to machine t m others) (omega arith)
  said_to-takes {s} {n = n} others (next {t} {u} {line} {said} {lines} {more} e h) =
      ap (λ r. elim r [ Ok a ↦ a.0 ++ said_to machine a.1 (suc n) (lines ++ others) | Err fault ↦ [] ]) e
      ∙ ap (λ z. said ++ z) (said_to-takes others h)
      ∙ sym (append_assoc said more (said_to machine u (suc n + length lines) others))
      ∙ ap (λ m. (said ++ more) ++ said_to machine u m others) (omega arith)

  pub refused_in-takes : {s t : S} {n : ℕ} {lines : List (List ℕ)} {said : List ℕ} (others : List (List ℕ)) → Takes machine s n lines said t → refused_in machine s n (lines ++ others) ≡ refused_in machine t (n + length lines) others
  refused_in-takes {t} {n} others none = ap (λ m. refused_in machine t m others) (omega arith)
  refused_in-takes {s} {n = n} others (next {t} {u} {line} {said} {lines} {more} e h) =
      ap (λ r. elim r [ Ok a ↦ refused_in machine a.1 (suc n) (lines ++ others) | Err fault ↦ Some (bad n fault) ]) e
      ∙ refused_in-takes others h
      ∙ ap (λ m. refused_in machine u m others) (omega arith)

  -- one more line
  pub takes_more : {s t u : S} {n m : ℕ} {lines : List (List ℕ)} {said more : List ℕ} (line : List ℕ) → Takes machine s n lines said t → m ≡ n + length lines → answer machine t m line ≡ Ok (more, u) → Takes machine s n (lines ++ line ∷ []) (said ++ more) u
  takes_more {t} {u} {n} {m} {more = more} line none k e =
      subst (λ z. Takes machine t n (line ∷ []) z u) (append-nil more)
      (next (subst (λ z. answer machine t z line ≡ Ok (more, u)) (omega (arith, k)) e) none)
  takes_more {s} {u} {n = n} {m} {more = more} line (next {line = first} {said = said} {lines} {more = between} e h) k f =
      subst (λ z. Takes machine s n ((first ∷ lines) ++ line ∷ []) z u) (sym (append_assoc said between more)) (next e (takes_more line h (omega (arith, k)) f))

  pub moves_on : (a b c : At S) (xs ys u v : List ℕ) → Moves machine a xs u b → Moves machine b ys v c → Moves machine a (xs ++ ys) (u ++ v) c
  moves_on a b c xs ys u v f g start before out h =
      subst (λ bytes. Behind machine start bytes (out ++ (u ++ v)) c) (append_assoc before xs ys)
      (subst (λ said. Behind machine start ((before ++ xs) ++ ys) said c) (append_assoc out u v) (g start (before ++ xs) (out ++ u) (f start before out h)))

  pub stays : (a : At S) → Moves machine a [] [] a
  stays a start before out h =
      subst (λ bytes. Behind machine start bytes (out ++ []) a) (sym (append-nil before))
      (subst (λ said. Behind machine start before said a) (sym (append-nil out)) h)

  -- it says what is pending
  pub speaks : (a : At S) → Moves machine a [] a.pending (record a { pending = [] })
  speaks a start before out h =
      subst (λ bytes. Behind machine start bytes (out ++ a.pending) (record a { pending = [] })) (sym (append-nil before)) (record {
        piece = h.piece;
        number = h.number;
        takes = subst (λ said. Takes machine start 1 (whole_lines before) said a.state) (sym (append-nil (out ++ a.pending))) h.takes;
      })

  -- a byte that is no newline
  pub hears_byte : (a : At S) (b : ℕ) → (b == 10) ≡ false → Moves machine a (b ∷ []) [] (record a { piece = a.piece ++ b ∷ [] })
  hears_byte a b e start before out h =
      let is_piece = push_is_piece (last_piece before) b (last_piece_is_piece before) e in
      let lines = whole_lines-append before (b ∷ []) ∙ ap (λ w. whole_lines before ++ w) (whole_lines-piece (last_piece before ++ b ∷ []) is_piece) ∙ append-nil (whole_lines before) in
      record {
        piece = ap (λ p. p ++ b ∷ []) h.piece ∙ sym (last_piece-append before (b ∷ []) ∙ last_piece-piece (last_piece before ++ b ∷ []) is_piece);
        number = h.number ∙ ap length (sym lines);
        takes = subst (λ w. Takes machine start 1 w ((out ++ []) ++ a.pending) a.state) (sym lines)
            (subst (λ said. Takes machine start 1 (whole_lines before) (said ++ a.pending) a.state) (sym (append-nil out)) h.takes);
      }

  -- a line that is answered
  pub hears_newline : (a : At S) (said : List ℕ) (t : S) → answer machine a.state (suc a.number) a.piece ≡ Ok (said, t) →
      Moves machine a (10 ∷ []) [] (record { piece = []; pending = a.pending ++ said; number = suc a.number; state = t })
  hears_newline a said t e start before out h =
      let is_piece = last_piece_is_piece before in
      let lines = whole_lines-append before (10 ∷ []) ∙ ap (λ w. whole_lines before ++ w) (whole_lines-newline (last_piece before) [] is_piece) in
      record {
        piece = sym (last_piece-append before (10 ∷ []) ∙ last_piece-newline (last_piece before) [] is_piece);
        number = omega (arith, ap length lines, length-append (whole_lines before) (last_piece before ∷ []), h.number);
        takes =
            subst (λ w. Takes machine start 1 w ((out ++ []) ++ (a.pending ++ said)) t) (sym lines)
            (subst (λ z. Takes machine start 1 (whole_lines before ++ last_piece before ∷ []) z t)
            (append_assoc out a.pending said ∙ ap (λ z. z ++ (a.pending ++ said)) (sym (append-nil out)))
            (takes_more (last_piece before) h.takes (omega (arith, h.number))
            (subst (λ p. answer machine a.state (suc a.number) p ≡ Ok (said, t)) h.piece e)));
      }

  -- the first of some lines is refused
  abbrev BeginsRefused : At S → Fault → List (List ℕ) → Type 0
  BeginsRefused a fault lines = (line : List ℕ) × (others : List (List ℕ)) × (lines ≡ line ∷ others) × (answer machine a.state (suc a.number) line ≡ Err fault)

  refused_by_lines : (start : S) (before out : List ℕ) (a : At S) (fault : Fault) (lines : List (List ℕ)) → Behind machine start before out a → BeginsRefused a fault lines →
      (refused_in machine start 1 (whole_lines before ++ lines) ≡ Some (bad (suc a.number) fault)) × (said_to machine start 1 (whole_lines before ++ lines) ≡ out ++ a.pending)
  refused_by_lines start before out a fault lines h r = (
    refused_in-takes lines h.takes
        ∙ ap (λ w. refused_in machine a.state (1 + length (whole_lines before)) w) r.2
        ∙ ap (λ m. refused_in machine a.state m (r.0 ∷ r.1)) (omega (arith, h.number))
        ∙ ap (λ z. elim z [ Ok b ↦ refused_in machine b.1 (suc (suc a.number)) r.1 | Err found ↦ Some (bad (suc a.number) found) ]) r.3,
    said_to-takes lines h.takes
        ∙ ap (λ w. (out ++ a.pending) ++ said_to machine a.state (1 + length (whole_lines before)) w) r.2
        ∙ ap (λ m. (out ++ a.pending) ++ said_to machine a.state m (r.0 ∷ r.1)) (omega (arith, h.number))
        ∙ ap (λ z. (out ++ a.pending) ++ elim z [ Ok b ↦ b.0 ++ said_to machine b.1 (suc (suc a.number)) r.1 | Err found ↦ [] ]) r.3
        ∙ append-nil (out ++ a.pending),
  )

  refuses_by : (a : At S) (fault : Fault) (bytes : List ℕ) →
      ((before more : List ℕ) (ended : Bool) → a.piece ≡ last_piece before → a.number ≡ length (whole_lines before) → BeginsRefused a fault (lines_behind (length (whole_lines before)) ended (last_piece before ++ (bytes ++ more)))) →
      Refuses machine a bytes a.pending (bad (suc a.number) fault)
  refuses_by a fault bytes f start before out h =
      let lines = λ (ended : Bool) (more : List ℕ). ap (lines_behind 0 ended) (append_assoc before bytes more) ∙ lines_behind-append 0 ended before (bytes ++ more) ∙ ap (λ m. whole_lines before ++ lines_behind m ended (last_piece before ++ (bytes ++ more))) (zero-add (length (whole_lines before))) in
      let found = λ (ended : Bool) (more : List ℕ). refused_by_lines start before out a fault (lines_behind (length (whole_lines before)) ended (last_piece before ++ (bytes ++ more))) h (f before more ended h.piece h.number) in
      record {
        refused = λ ended more. ap (refused_in machine start 1) (lines ended more) ∙ (found ended more).0;
        told = λ ended more. ap (said_to machine start 1) (lines ended more) ∙ (found ended more).1;
      }

  -- a piece and one more byte, behind which the line is too long
  begins_long : (a : At S) (piece : List ℕ) (b : ℕ) (more : List ℕ) (ended : Bool) (n : ℕ) → IsPiece piece → (b == 10) ≡ false → a.number < MAX_LINES → MAX_LINE < length piece + 1 →
      BeginsRefused a Long (lines_behind n ended (piece ++ b ∷ more))
  begins_long a piece b more ended n h e few k =
      let long : MAX_LINE < length (piece ++ b ∷ []) = omega (arith, k, length-append piece (b ∷ [])) in
      let found = begins_of ended n (piece ++ b ∷ []) more (push_is_piece piece b h e) (inl long) (omega (arith, long)) in (
        (piece ++ b ∷ []) ++ found.rest_of_line,
        found.others,
        ap (lines_behind n ended) (sym (append_assoc piece (b ∷ []) more)) ∙ found.is,
        answer_too_long a.state (suc a.number) ((piece ++ b ∷ []) ++ found.rest_of_line) (omega (arith, few)) (omega (arith, length-append (piece ++ b ∷ []) found.rest_of_line, long)),
      )

  -- some line begins
  begins_many : (a : At S) (piece : List ℕ) (b : ℕ) (more : List ℕ) (ended : Bool) (n : ℕ) → IsPiece piece → a.number ≡ n → MAX_LINES ≤ a.number →
      BeginsRefused a Many (lines_behind n ended (piece ++ b ∷ more))
  begins_many a piece b more ended n h e k =
      let found = some_line ended n piece b more h (omega (arith, e, k)) in
      (found.0, found.1, found.2, answer_too_many a.state (suc a.number) found.0 (omega (arith, k)))

  -- the line that a newline ends is refused
  pub refuses_line : (a : At S) (fault : Fault) → answer machine a.state (suc a.number) a.piece ≡ Err fault → Refuses machine a (10 ∷ []) a.pending (bad (suc a.number) fault)
  refuses_line a fault e = refuses_by a fault (10 ∷ []) (λ before more ended p n.
      let piece = last_piece before in
      let behind = length (whole_lines before) in
      let is_piece = last_piece_is_piece before in (
        piece,
        whole_lines more ++ last_line ended (behind + length (whole_lines (piece ++ 10 ∷ more))) (last_piece (piece ++ 10 ∷ more)),
        ap (λ w. w ++ last_line ended (behind + length (whole_lines (piece ++ 10 ∷ more))) (last_piece (piece ++ 10 ∷ more))) (whole_lines-newline piece more is_piece),
        subst (λ q. answer machine a.state (suc a.number) q ≡ Err fault) p e,
      ))

  -- the line becomes too long
  pub refuses_long : (a : At S) (b : ℕ) → (b == 10) ≡ false → a.number < MAX_LINES → MAX_LINE < length a.piece + 1 → Refuses machine a (b ∷ []) a.pending (bad (suc a.number) Long)
  refuses_long a b e few k = refuses_by a Long (b ∷ []) (λ before more ended p n.
      begins_long a (last_piece before) b more ended (length (whole_lines before)) (last_piece_is_piece before) e few (omega (arith, k, ap length p)))

  -- a line begins that is one too many
  pub refuses_many : (a : At S) (b : ℕ) → MAX_LINES ≤ a.number → Refuses machine a (b ∷ []) a.pending (bad (suc a.number) Many)
  refuses_many a b k = refuses_by a Many (b ∷ []) (λ before more ended p n. begins_many a (last_piece before) b more ended (length (whole_lines before)) (last_piece_is_piece before) n k)
