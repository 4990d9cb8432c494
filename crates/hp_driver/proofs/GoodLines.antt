-- Where no line of an input has a fault, none of what was heard of it has one.
use Rattle.std.proofs.Common.{◌≡◌, ℕ, suc, ◌+◌, ◌<◌, ◌⊎◌, inl, inr, Bool, true, false, ◌||◌, nat_lt, nat_le, if◌then◌else◌, List, [], ◌∷◌, ◌++◌, length, Option, None, Some, refl, sym, ap, ◌∙◌, arith, length-append}
use Rattle.std.specs.Prelude.{Result, Ok, Err}
use Rattle.std.proofs.lemmas.Bool.{lt-ltb, ltb-true, leb-true}
use Rattle.hp_base.specs.Kinds.{KindData}
use Rattle.hp_base.specs.declared.value.Value.{Value}
use Rattle.hp_lines.specs.declared.read.LineErr.{LineErr}
use Rattle.hp_lines.specs.declared.read.TheConstants.{MAX_LINE}
use Rattle.hp_driver.specs.LineFaults.{by_words, bad}
use Rattle.hp_driver.specs.Lines.{whole_lines, last_piece, last_line, lines_behind, lines_of, IsPiece}
use Rattle.hp_driver.specs.Values.{reading, inputs_on, inputs_until, first_bad}
use Rattle.hp_driver.specs.declared.trace_limits.BadLine.{BadLine}
use Rattle.hp_driver.specs.declared.trace_limits.Fault.{Fault}
use Rattle.hp_driver.specs.declared.trace_limits.Fault.TheVariants.{Long, Many}
use Rattle.hp_driver.specs.declared.trace_limits.TheConstants.{MAX_LINES}
use Rattle.hp_driver.proofs.LineLaws.{IsKnown, known_begins, last_piece_is_piece, lines_behind-append}

-- what the first of some lines makes of the first fault of the others
abbrev behind : ℕ → Result (List Value) Fault → Option BadLine → Option BadLine
behind n (Ok values) later = later
behind n (Err fault) later = Some (bad n fault)

-- and of the inputs on the others
abbrev before_fault : Result (List Value) Fault → List (List Value) → List (List Value)
before_fault (Ok values) later = values ∷ later
before_fault (Err fault) later = []

module _ (kinds : List KindData) where
  first_by : (n : ℕ) (line : List ℕ) (lines : List (List ℕ)) → first_bad kinds n (line ∷ lines) ≡ behind n (inputs_on kinds n line) (first_bad kinds (suc n) lines)
  first_by n line lines = by (inputs_on kinds n line)
    where
      by : (r : Result (List Value) Fault) → elim r [ Ok values ↦ first_bad kinds (suc n) lines | Err fault ↦ Some (bad n fault) ] ≡ behind n r (first_bad kinds (suc n) lines)
      by (Ok values) = refl
      by (Err fault) = refl

  kept_by : (n : ℕ) (r : Result (List Value) Fault) (rest more : Option BadLine) (bad_line : BadLine) → (rest ≡ Some bad_line → more ≡ Some bad_line) → behind n r rest ≡ Some bad_line → behind n r more ≡ Some bad_line
  kept_by n (Ok values) rest more bad_line h e = h e
  kept_by n (Err fault) rest more bad_line h e = e

  -- the first line with a fault stays the first
  kept : (n : ℕ) (xs ys : List (List ℕ)) (bad_line : BadLine) → first_bad kinds n xs ≡ Some bad_line → first_bad kinds n (xs ++ ys) ≡ Some bad_line
  kept n [] ys bad_line e = absurd (cc)
  kept n (line ∷ xs) ys bad_line e =
      first_by n line (xs ++ ys)
      ∙ kept_by n (inputs_on kinds n line) (first_bad kinds (suc n) xs) (first_bad kinds (suc n) (xs ++ ys)) bad_line (kept (suc n) xs ys bad_line) (sym (first_by n line xs) ∙ e)

  good_by : (n : ℕ) (r : Result (List Value) Fault) (rest more : Option BadLine) → behind n r rest ≡ None → (behind n r more ≡ more) × (rest ≡ None)
  good_by n (Ok values) rest more e = (refl, e)
  good_by n (Err fault) rest more e = absurd (cc)

  -- behind good lines
  after_good : (n : ℕ) (xs ys : List (List ℕ)) → first_bad kinds n xs ≡ None → first_bad kinds n (xs ++ ys) ≡ first_bad kinds (n + length xs) ys
  after_good n [] ys e = ap (λ m. first_bad kinds m ys) (omega arith)
  after_good n (line ∷ xs) ys e =
      let found = good_by n (inputs_on kinds n line) (first_bad kinds (suc n) xs) (first_bad kinds (suc n) (xs ++ ys)) (sym (first_by n line xs) ∙ e) in
      first_by n line (xs ++ ys) ∙ found.0 ∙ after_good (suc n) xs ys found.1 ∙ ap (λ m. first_bad kinds m ys) (omega arith)

  faulty_by : (n : ℕ) (many long : Bool) (r : Result (List Value) LineErr) (later : Option BadLine) → (long ≡ true) ⊎ (many ≡ true) →
      behind n (if many then Err Many else (if long then Err Long else by_words r)) later ≡ None → ⊥
  faulty_by n true long r later h e = absurd (cc)
  faulty_by n false true r later h e = absurd (cc)
  faulty_by n false false r later (inl h) e = absurd (cc)
  faulty_by n false false r later (inr h) e = absurd (cc)

  -- a line that is too long, or one too many, has a fault
  faulty : (n : ℕ) (line : List ℕ) (lines : List (List ℕ)) → (MAX_LINE < length line) ⊎ (MAX_LINES < n) → first_bad kinds n (line ∷ lines) ≡ None → ⊥
  faulty n line lines h e =
      faulty_by n (nat_lt MAX_LINES n) (nat_lt MAX_LINE (length line)) (reading kinds line) (first_bad kinds (suc n) lines)
      (elim h [ inl p ↦ inl (lt-ltb MAX_LINE (length line) p) | inr p ↦ inr (lt-ltb MAX_LINES n p) ]) (sym (first_by n line lines) ∙ e)

  longer : (n : ℕ) (piece more : List ℕ) → IsKnown n piece → (MAX_LINE < length (piece ++ more)) ⊎ (MAX_LINES < suc n)
  longer n piece more (inl h) = inl (omega (arith, length-append piece more, h))
  longer n piece more (inr h) = inr (omega (arith, h))

  known_line : (n : ℕ) (piece : List ℕ) → IsKnown n piece → (MAX_LINE < length piece) ⊎ (MAX_LINES < suc n)
  known_line n piece (inl h) = inl h
  known_line n piece (inr h) = inr (omega (arith, h))

  known_by : (c d : Bool) → (c || d) ≡ true → (c ≡ true) ⊎ (d ≡ true)
  known_by true d e = inl refl
  known_by false d e = inr e

  known : (n : ℕ) (piece : List ℕ) → (nat_lt MAX_LINE (length piece) || nat_le MAX_LINES n) ≡ true → IsKnown n piece
  known n piece e = elim (known_by (nat_lt MAX_LINE (length piece)) (nat_le MAX_LINES n) e) [ inl p ↦ inl (ltb-true MAX_LINE (length piece) p) | inr p ↦ inr (leb-true MAX_LINES n p) ]

  -- the unfinished line behind n good ones, where all lines are good
  piece_by : (d : Bool) (n : ℕ) (b : ℕ) (piece more : List ℕ) → IsPiece (b ∷ piece) → (nat_lt MAX_LINE (length (b ∷ piece)) || nat_le MAX_LINES n) ≡ d → first_bad kinds (suc n) (lines_behind n true ((b ∷ piece) ++ more)) ≡ None →
      first_bad kinds (suc n) (if d then (b ∷ piece) ∷ [] else []) ≡ None
  piece_by false n b piece more p e h = refl
  piece_by true n b piece more p e h =
      let k = known n (b ∷ piece) e in
      let begins = known_begins true n b piece more p k in
      absurd (faulty (suc n) ((b ∷ piece) ++ begins.rest_of_line) begins.others (longer n (b ∷ piece) begins.rest_of_line k) (ap (first_bad kinds (suc n)) (sym begins.is) ∙ h))

  good_piece : (n : ℕ) (piece more : List ℕ) → IsPiece piece → first_bad kinds (suc n) (lines_behind n true (piece ++ more)) ≡ None → first_bad kinds (suc n) (last_line false n piece) ≡ None
  good_piece n [] more p h = refl
  good_piece n (b ∷ piece) more p h = piece_by (nat_lt MAX_LINE (length (b ∷ piece)) || nat_le MAX_LINES n) n b piece more p refl h

  good_in : (whole : Option BadLine) (bytes more : List ℕ) → first_bad kinds 1 (whole_lines bytes) ≡ whole → first_bad kinds 1 (lines_of true (bytes ++ more)) ≡ None → first_bad kinds 1 (lines_of false bytes) ≡ None
  good_in (Some bad_line) bytes more e h =
      let all = kept 1 (whole_lines bytes) (lines_behind (0 + length (whole_lines bytes)) true (last_piece bytes ++ more)) bad_line e in
      absurd (cc (sym all, ap (first_bad kinds 1) (lines_behind-append 0 true bytes more), h))
  good_in None bytes more e h =
      let m = 0 + length (whole_lines bytes) in
      let rest : first_bad kinds (suc m) (lines_behind m true (last_piece bytes ++ more)) ≡ None =
      ap (λ k. first_bad kinds k (lines_behind m true (last_piece bytes ++ more))) (omega arith)
      ∙ sym (after_good 1 (whole_lines bytes) (lines_behind m true (last_piece bytes ++ more)) e)
      ∙ sym (ap (first_bad kinds 1) (lines_behind-append 0 true bytes more)) ∙ h in
      after_good 1 (whole_lines bytes) (last_line false m (last_piece bytes)) e
      ∙ ap (λ k. first_bad kinds k (last_line false m (last_piece bytes))) (omega arith)
      ∙ good_piece m (last_piece bytes) more (last_piece_is_piece bytes) rest

  -- what was heard of an input whose lines are good
  pub good_so_far : (bytes more : List ℕ) → first_bad kinds 1 (lines_of true (bytes ++ more)) ≡ None → first_bad kinds 1 (lines_of false bytes) ≡ None
  good_so_far bytes more h = good_in (first_bad kinds 1 (whole_lines bytes)) bytes more refl h

  -- ---- what was heard up to the first line with a fault

  until_by : (n : ℕ) (line : List ℕ) (lines : List (List ℕ)) → inputs_until kinds n (line ∷ lines) ≡ before_fault (inputs_on kinds n line) (inputs_until kinds (suc n) lines)
  until_by n line lines = by (inputs_on kinds n line)
    where
      by : (r : Result (List Value) Fault) → elim r [ Ok values ↦ values ∷ inputs_until kinds (suc n) lines | Err fault ↦ [] ] ≡ before_fault r (inputs_until kinds (suc n) lines)
      by (Ok values) = refl
      by (Err fault) = refl

  until_kept_by : (n : ℕ) (r : Result (List Value) Fault) (rest : Option BadLine) (xs ys : List (List Value)) (bad_line : BadLine) → (rest ≡ Some bad_line → ys ≡ xs) → behind n r rest ≡ Some bad_line → before_fault r ys ≡ before_fault r xs
  until_kept_by n (Ok values) rest xs ys bad_line h e = ap (λ z. values ∷ z) (h e)
  until_kept_by n (Err fault) rest xs ys bad_line h e = refl

  -- nothing behind the first line with a fault is an input
  until_kept : (n : ℕ) (xs ys : List (List ℕ)) (bad_line : BadLine) → first_bad kinds n xs ≡ Some bad_line → inputs_until kinds n (xs ++ ys) ≡ inputs_until kinds n xs
  until_kept n [] ys bad_line e = absurd (cc)
  until_kept n (line ∷ xs) ys bad_line e =
      until_by n line (xs ++ ys)
      ∙ until_kept_by n (inputs_on kinds n line) (first_bad kinds (suc n) xs) (inputs_until kinds (suc n) xs) (inputs_until kinds (suc n) (xs ++ ys)) bad_line (until_kept (suc n) xs ys bad_line) (sym (first_by n line xs) ∙ e)
      ∙ sym (until_by n line xs)

  until_good_by : (n : ℕ) (r : Result (List Value) Fault) (rest : Option BadLine) (xs ys zs : List (List Value)) → (rest ≡ None → zs ≡ xs ++ ys) → behind n r rest ≡ None → before_fault r zs ≡ before_fault r xs ++ ys
  until_good_by n (Ok values) rest xs ys zs h e = ap (λ z. values ∷ z) (h e)
  until_good_by n (Err fault) rest xs ys zs h e = absurd (cc)

  -- the inputs behind good lines
  until_good : (n : ℕ) (xs ys : List (List ℕ)) → first_bad kinds n xs ≡ None → inputs_until kinds n (xs ++ ys) ≡ inputs_until kinds n xs ++ inputs_until kinds (n + length xs) ys
  until_good n [] ys e = ap (λ m. inputs_until kinds m ys) (omega arith)
  until_good n (line ∷ xs) ys e =
      until_by n line (xs ++ ys)
      ∙ until_good_by n (inputs_on kinds n line) (first_bad kinds (suc n) xs) (inputs_until kinds (suc n) xs) (inputs_until kinds (suc n + length xs) ys) (inputs_until kinds (suc n) (xs ++ ys)) (until_good (suc n) xs ys) (sym (first_by n line xs) ∙ e)
      ∙ ap (λ z. z ++ inputs_until kinds (suc n + length xs) ys) (sym (until_by n line xs))
      ∙ ap (λ m. inputs_until kinds n (line ∷ xs) ++ inputs_until kinds m ys) (omega arith)

  -- the fault of a line that is too long, or one too many, is told by its number alone
  fault_by : (n : ℕ) (many long : Bool) (r : Result (List Value) LineErr) → (long ≡ true) ⊎ (many ≡ true) →
      (if many then Err Many else (if long then Err Long else by_words r)) ≡ Err (if many then Many else Long)
  fault_by n true long r h = refl
  fault_by n false true r h = refl
  fault_by n false false r (inl h) = absurd (cc)
  fault_by n false false r (inr h) = absurd (cc)

  abbrev known_fault : ℕ → Fault
  known_fault n = if nat_lt MAX_LINES n then Many else Long

  fault_known : (n : ℕ) (line : List ℕ) → (MAX_LINE < length line) ⊎ (MAX_LINES < n) → inputs_on kinds n line ≡ Err (known_fault n)
  fault_known n line h = fault_by n (nat_lt MAX_LINES n) (nat_lt MAX_LINE (length line)) (reading kinds line) (elim h [ inl p ↦ inl (lt-ltb MAX_LINE (length line) p) | inr p ↦ inr (lt-ltb MAX_LINES n p) ])

  -- such a line is the first with a fault, and no input is before it
  first_known : (n : ℕ) (line : List ℕ) (lines : List (List ℕ)) → (MAX_LINE < length line) ⊎ (MAX_LINES < n) → (first_bad kinds n (line ∷ lines) ≡ Some (bad n (known_fault n))) × (inputs_until kinds n (line ∷ lines) ≡ [])
  first_known n line lines h =
      let fault = fault_known n line h in (
        first_by n line lines ∙ ap (λ r. behind n r (first_bad kinds (suc n) lines)) fault,
        until_by n line lines ∙ ap (λ r. before_fault r (inputs_until kinds (suc n) lines)) fault,
      )

  -- the first lines with a fault of two lists of lines are one, and so are the inputs before it
  abbrev AreSame : ℕ → List (List ℕ) → List (List ℕ) → Type 0
  AreSame n xs ys = (first_bad kinds n ys ≡ first_bad kinds n xs) × (inputs_until kinds n ys ≡ inputs_until kinds n xs)

  piece_same_by : (d : Bool) (n : ℕ) (b : ℕ) (piece more : List ℕ) (bad_line : BadLine) → IsPiece (b ∷ piece) → (nat_lt MAX_LINE (length (b ∷ piece)) || nat_le MAX_LINES n) ≡ d →
      first_bad kinds (suc n) (if d then (b ∷ piece) ∷ [] else []) ≡ Some bad_line → AreSame (suc n) (if d then (b ∷ piece) ∷ [] else []) (lines_behind n true ((b ∷ piece) ++ more))
  piece_same_by false n b piece more bad_line p e h = absurd (cc)
  piece_same_by true n b piece more bad_line p e h =
      let k = known n (b ∷ piece) e in
      let begins = known_begins true n b piece more p k in
      let line = (b ∷ piece) ++ begins.rest_of_line in
      let heard = first_known (suc n) (b ∷ piece) [] (known_line n (b ∷ piece) k) in
      let all = first_known (suc n) line begins.others (longer n (b ∷ piece) begins.rest_of_line k) in
      (ap (first_bad kinds (suc n)) begins.is ∙ all.0 ∙ sym heard.0, ap (inputs_until kinds (suc n)) begins.is ∙ all.1 ∙ sym heard.1)

  piece_same : (n : ℕ) (piece more : List ℕ) (bad_line : BadLine) → IsPiece piece → first_bad kinds (suc n) (last_line false n piece) ≡ Some bad_line → AreSame (suc n) (last_line false n piece) (lines_behind n true (piece ++ more))
  piece_same n [] more bad_line p h = absurd (cc)
  piece_same n (b ∷ piece) more bad_line p h = piece_same_by (nat_lt MAX_LINE (length (b ∷ piece)) || nat_le MAX_LINES n) n b piece more bad_line p refl h

  same_in : (whole : Option BadLine) (bytes more : List ℕ) (bad_line : BadLine) → first_bad kinds 1 (whole_lines bytes) ≡ whole → first_bad kinds 1 (lines_of false bytes) ≡ Some bad_line → AreSame 1 (lines_of false bytes) (lines_of true (bytes ++ more))
  same_in (Some found) bytes more bad_line e h =
      let m = 0 + length (whole_lines bytes) in
      let heard = last_line false m (last_piece bytes) in
      let all = lines_behind m true (last_piece bytes ++ more) in
      let split = lines_behind-append 0 true bytes more in (
        ap (first_bad kinds 1) split ∙ kept 1 (whole_lines bytes) all found e ∙ sym (kept 1 (whole_lines bytes) heard found e),
        ap (inputs_until kinds 1) split ∙ until_kept 1 (whole_lines bytes) all found e ∙ sym (until_kept 1 (whole_lines bytes) heard found e),
      )
  same_in None bytes more bad_line e h =
      let m = 0 + length (whole_lines bytes) in
      let heard = last_line false m (last_piece bytes) in
      let all = lines_behind m true (last_piece bytes ++ more) in
      let split = lines_behind-append 0 true bytes more in
      let next : 1 + length (whole_lines bytes) ≡ suc m = omega arith in
      let fault : first_bad kinds (suc m) heard ≡ Some bad_line = sym (ap (λ k. first_bad kinds k heard) next) ∙ sym (after_good 1 (whole_lines bytes) heard e) ∙ h in
      let same = piece_same m (last_piece bytes) more bad_line (last_piece_is_piece bytes) fault in (
        ap (first_bad kinds 1) split ∙ after_good 1 (whole_lines bytes) all e ∙ ap (λ k. first_bad kinds k all) next ∙ same.0 ∙ sym (ap (λ k. first_bad kinds k heard) next) ∙ sym (after_good 1 (whole_lines bytes) heard e),
        ap (inputs_until kinds 1) split ∙ until_good 1 (whole_lines bytes) all e ∙ ap (λ k. inputs_until kinds 1 (whole_lines bytes) ++ inputs_until kinds k all) next ∙ ap (λ z. inputs_until kinds 1 (whole_lines bytes) ++ z) same.1
            ∙ sym (ap (λ k. inputs_until kinds 1 (whole_lines bytes) ++ inputs_until kinds k heard) next) ∙ sym (until_good 1 (whole_lines bytes) heard e),
      )

  -- where what was heard has a line with a fault, the first one of the whole input is the same, and so are the inputs before it
  pub same_up_to : (bytes more : List ℕ) (bad_line : BadLine) → first_bad kinds 1 (lines_of false bytes) ≡ Some bad_line →
      (first_bad kinds 1 (lines_of true (bytes ++ more)) ≡ first_bad kinds 1 (lines_of false bytes)) × (inputs_until kinds 1 (lines_of true (bytes ++ more)) ≡ inputs_until kinds 1 (lines_of false bytes))
  same_up_to bytes more bad_line h = same_in (first_bad kinds 1 (whole_lines bytes)) bytes more bad_line refl h
