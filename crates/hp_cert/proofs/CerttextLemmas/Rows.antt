-- Readers of lists.
use Rattle.std.proofs.Common.{◌≡◌, ℕ, zero, suc, ◌<◌, ◌≤◌, Bool, true, false, if◌then◌else◌, List, [], ◌∷◌, ◌++◌, length, refl, sym, ap, subst, ◌∙◌, append_assoc, append-nil, arith}
use Rattle.std.proofs.lemmas.List.{length-append}
use Rattle.hp_cert.specs.Certtext.Outcomes.{Outcome, done, ◌>>=◌}
use Rattle.hp_cert.specs.Certtext.Pieces.{Piece, Pieces}
use Rattle.hp_cert.specs.Certtext.Reading.{Reader, which, either, until_within, until, times}
use Rattle.hp_cert.proofs.CerttextLemmas.Phrases.{Takes, Split, Example, Course, IsPhrase, OneTakes, Then, Given, given_phrase, then_phrase, then_course, then_example, course_alike}

-- ---- items up to a word

module _ {A : Type 0} (word stop : Piece) (item : ℕ → Reader A) (takes : ℕ → Takes A) (either_phrase : IsPhrase (either word stop) (OneTakes (which word stop))) (item_phrase : (i : ℕ) → IsPhrase (item i) (takes i)) where
  -- items behind so many others, each behind the word, and then the other word
  abbrev pub Rounds : ℕ → List A → Pieces → Pieces → Type 0
  Rounds i [] ts rest = OneTakes (which word stop) ts false rest
  Rounds i (x ∷ xs) ts rest = (m : Pieces) × (n : Pieces) × OneTakes (which word stop) ts true m × takes i m x n × Rounds (suc i) xs n rest

  -- all that are read behind some items
  abbrev pub Until : List A → Takes (List A)
  Until items ts all rest = (xs : List A) × (all ≡ items ++ xs) × Rounds (length items) xs ts rest

  longer : (items : List A) (x : A) → length (items ++ x ∷ []) ≡ suc (length items)
  longer items x = let e = length-append items (x ∷ []) in omega (arith, e)

  -- one round
  abbrev Behind : List A → Bool → Takes (List A)
  Behind items true = Then (takes (length items)) (λ x. Until (items ++ x ∷ []))
  Behind items false = Given items

  abbrev Round : List A → Takes (List A)
  Round items = Then (OneTakes (which word stop)) (Behind items)

  to_until : (items : List A) (ts : Pieces) (all : List A) (rest : Pieces) → Round items ts all rest → Until items ts all rest
  to_until items ts all rest (true, m, h, (x, n, k, (xs, e, r))) =
      (x ∷ xs, e ∙ append_assoc items (x ∷ []) xs, (m, n, h, k, subst (λ i. Rounds i xs n rest) (longer items x) r))
  to_until items ts all rest (false, m, h, (e, q)) = ([], e ∙ sym (append-nil items), subst (λ z. OneTakes (which word stop) ts false z) q h)

  from_until : (items : List A) (ts : Pieces) (all : List A) (rest : Pieces) → Until items ts all rest → Round items ts all rest
  from_until items ts all rest ([], e, h) = (false, rest, h, (e ∙ append-nil items, refl))
  from_until items ts all rest (x ∷ xs, e, (m, n, h, k, r)) =
      (true, m, h, (x, n, k, (xs, e ∙ sym (append_assoc items (x ∷ []) xs), subst (λ i. Rounds i xs n rest) (sym (longer items x)) r)))

  rounds_split : (i : ℕ) (xs : List A) (ts rest : Pieces) → Rounds i xs ts rest → (us : Pieces) × (ts ≡ us ++ rest) × ((y : Pieces) → Rounds i xs (us ++ y) y)
  rounds_split i [] ts rest h = let s = either_phrase.splits ts false rest h in (s.us, s.split, λ y. s.whole.always y)
  rounds_split i (x ∷ xs) ts rest (m, n, h, k, r) =
      let s = either_phrase.splits ts true m h in
      let t = (item_phrase i).splits m x n k in
      let u = rounds_split (suc i) xs n rest r in (
        s.us ++ (t.us ++ u.0),
        s.split ∙ ap (λ z. s.us ++ z) (t.split ∙ ap (λ z. t.us ++ z) u.1 ∙ sym (append_assoc t.us u.0 rest)) ∙ sym (append_assoc s.us (t.us ++ u.0) rest),
        λ y. (
          t.us ++ (u.0 ++ y),
          u.0 ++ y,
          subst (λ z. OneTakes (which word stop) z true (t.us ++ (u.0 ++ y))) (ap (λ z. s.us ++ z) (sym (append_assoc t.us u.0 y)) ∙ sym (append_assoc s.us (t.us ++ u.0) y)) (s.whole.always (t.us ++ (u.0 ++ y))),
          t.whole.always (u.0 ++ y),
          u.2 y,
        ),
      )

  until_splits : (items : List A) (ts : Pieces) (all : List A) (rest : Pieces) → Until items ts all rest → Split (Until items) ts all rest
  until_splits items ts all rest h =
      let s = rounds_split (length items) h.0 ts rest h.2 in
      record { us = s.0; split = s.1; whole = record { always = λ y. (h.0, h.1, s.2 y) } }

  module _ (ends : (ts : Pieces) → OneTakes (which word stop) (stop ∷ ts) false ts) where
    until_example : (items : List A) → Example (Until items)
    until_example items = record { us = stop ∷ []; value = items; whole = record { always = λ y. ([], sym (append-nil items), ends y) } }

    shorter : {B : Type 0} {first : Takes B} (read : Reader B) → IsPhrase read first → (ts : Pieces) (b : B) (rest : Pieces) → first ts b rest → length rest ≤ length ts
    shorter read p ts b rest h = let s = p.splits ts b rest h in let e = ap length s.split ∙ length-append s.us rest in omega (arith, e)

    taken : (ts : Pieces) (b : Bool) (rest : Pieces) → OneTakes (which word stop) ts b rest → length rest < length ts
    taken ts b rest h = let e = ap length h.2 in omega (arith, e)

    until_complete : (most : ℕ) (items : List A) (ts : Pieces) (all : List A) (rest : Pieces) → length ts < most → Until items ts all rest → until_within word stop item most items ts ≡ done all rest
    until_complete zero items ts all rest less h = absurd (omega (arith, less))
    until_complete (suc most) items ts all rest less ([], e, h) =
        ap (λ o. o >>= λ b. if b.0 then (item (length items) b.1 >>= λ x. until_within word stop item most (items ++ x.0 ∷ []) x.1) else done items b.1) (either_phrase.complete ts false rest h)
        ∙ ap (λ z. done z rest) (sym (e ∙ append-nil items))
    until_complete (suc most) items ts all rest less (x ∷ xs, e, (m, n, h, k, r)) =
        let one = taken ts true m h in
        let two = shorter (item (length items)) (item_phrase (length items)) m x n k in
        ap (λ o. o >>= λ b. if b.0 then (item (length items) b.1 >>= λ x. until_within word stop item most (items ++ x.0 ∷ []) x.1) else done items b.1) (either_phrase.complete ts true m h)
        ∙ ap (λ o. o >>= λ x. until_within word stop item most (items ++ x.0 ∷ []) x.1) ((item_phrase (length items)).complete m x n k)
        ∙ until_complete most (items ++ x ∷ []) n all rest (omega (arith, less, one, two)) (xs, e ∙ sym (append_assoc items (x ∷ []) xs), subst (λ i. Rounds i xs n rest) (sym (longer items x)) r)

    until_course : (most : ℕ) (items : List A) (ts : Pieces) → length ts < most → Course (Until items) ts (until_within word stop item most items ts)
    until_course zero items ts less = absurd (omega (arith, less))
    until_course (suc most) items ts less =
        course_alike (Round items) (Until items) (to_until items) (from_until items) ts (until_within word stop item (suc most) items ts)
        (then_course (OneTakes (which word stop)) (Behind items) (either word stop) either_phrase behind_example
        (λ b. if b.0 then (item (length items) b.1 >>= λ x. until_within word stop item most (items ++ x.0 ∷ []) x.1) else done items b.1) ts (either word stop ts) (either_phrase.course ts)
        (λ b mid e. behind (λ x n k. until_course most (items ++ x ∷ []) n k) b mid (by_done (either word stop ts) (either_phrase.course ts) b mid e)))
      where
        behind_example : (b : Bool) → Example (Behind items b)
        behind_example true = then_example (takes (length items)) (λ x. Until (items ++ x ∷ [])) (item_phrase (length items)).example (λ x. until_example (items ++ x ∷ []))
        behind_example false = (given_phrase items).example

        by_done : (o : Outcome Bool) → Course (OneTakes (which word stop)) ts o → (b : Bool) (mid : Pieces) → o ≡ done b mid → length mid < length ts
        by_done o c b mid e = taken ts b mid (subst (Course (OneTakes (which word stop)) ts) e c)

        item_done : (i : ℕ) (m : Pieces) (o : Outcome A) → Course (takes i) m o → (x : A) (n : Pieces) → o ≡ done x n → length n ≤ length m
        item_done i m o c x n e = shorter (item i) (item_phrase i) m x n (subst (Course (takes i) m) e c)

        behind : ((x : A) (n : Pieces) → length n < most → Course (Until (items ++ x ∷ [])) n (until_within word stop item most (items ++ x ∷ []) n)) → (b : Bool) (mid : Pieces) → length mid < length ts →
            Course (Behind items b) mid (if b then (item (length items) mid >>= λ x. until_within word stop item most (items ++ x.0 ∷ []) x.1) else done items mid)
        behind again false mid k = (refl, refl)
        behind again true mid k =
            then_course (takes (length items)) (λ x. Until (items ++ x ∷ [])) (item (length items)) (item_phrase (length items)) (λ x. until_example (items ++ x ∷ []))
            (λ x. until_within word stop item most (items ++ x.0 ∷ []) x.1) mid (item (length items) mid) ((item_phrase (length items)).course mid)
            (λ x n e. let l = item_done (length items) mid (item (length items) mid) ((item_phrase (length items)).course mid) x n e in again x n (omega (arith, l, k, less)))

    pub until_phrase : (items : List A) → IsPhrase (until word stop item items) (Until items)
    until_phrase items = record {
      complete = λ ts all rest h. until_complete (suc (length ts)) items ts all rest (omega arith) h;
      splits = until_splits items;
      example = until_example items;
      course = λ ts. until_course (suc (length ts)) items ts (omega arith);
    }

-- ---- so many items

module _ {A : Type 0} (item : ℕ → Reader A) (takes : ℕ → Takes A) (item_phrase : (i : ℕ) → IsPhrase (item i) (takes i)) where
  abbrev pub Times : ℕ → List A → Takes (List A)
  Times zero items = Given items
  Times (suc n) items = Then (takes (length items)) (λ x. Times n (items ++ x ∷ []))

  pub times_phrase : (n : ℕ) (items : List A) → IsPhrase (times item n items) (Times n items)
  times_phrase zero items = given_phrase items
  times_phrase (suc n) items =
      then_phrase (takes (length items)) (λ x. Times n (items ++ x ∷ [])) (item (length items)) (λ x. times item n (items ++ x ∷ [])) (item_phrase (length items)) (λ x. times_phrase n (items ++ x ∷ []))
