-- Lists of items as they are read, round by round.
use Rattle.std.proofs.Common.{◌≡◌, ℕ, zero, suc, ◌+◌, ◌-◌, ◌<◌, ◌≤◌, min, Bool, true, false, ◌||◌, ◌==◌, if◌then◌else◌, List, [], ◌∷◌, ◌++◌, length, Option, None, Some, refl, sym, ap, subst, ◌∙◌, arith}
use Rattle.std.proofs.lemmas.List.{length-append}
use Rattle.std.specs.Prelude.{Result, Ok, Err, IsErrAnd}
use Rattle.hp_cert.specs.Certtext.Outcomes.{Outcome, done, refused, ◌>>=◌, Stops, Gives}
use Rattle.hp_lines.specs.declared.stop.Stop.{Stop}
use Rattle.hp_lines.specs.declared.stop.Stop.TheVariants.{Refused, Memory}
use Rattle.hp_cert.specs.Certtext.Pieces.{Piece, Pieces}
use Rattle.hp_cert.specs.Certtext.Reading.{Reader, stop_at, is_start, this, one, fixed, field, number_of, which, either, until_within, until, times, number, width, line, ref_line}
use Rattle.hp_cert.specs.Certtext.Texts.{space, newline}
use Rattle.hp_cert.proofs.CerttextLemmas.Formats.{width_phrase, line_phrase}
use Rattle.hp_cert.proofs.CerttextLemmas.Phrases.{Takes, Course, IsPhrase}

-- A reader leaves no more than was ahead.
abbrev pub Falls : {A : Type 0} → Reader A → Type 0
Falls {A} read = (ts : Pieces) (a : A) (rest : Pieces) → read ts ≡ done a rest → length rest ≤ length ts

pub phrase_falls : {A : Type 0} {takes : Takes A} {read : Reader A} → IsPhrase read takes → Falls read
phrase_falls {takes = takes} {read = read} p ts a rest e =
    let s = p.splits ts a rest (subst (Course takes ts) e (p.course ts)) in
    let l = ap length s.split ∙ length-append s.us rest in omega (arith, l)

-- A reader takes a piece.
abbrev pub Strict : {A : Type 0} → Reader A → Type 0
Strict {A} read = (ts : Pieces) (a : A) (rest : Pieces) → read ts ≡ done a rest → length rest < length ts

pub one_strict : {A : Type 0} (on : Piece → Bool) (of : Piece → Option A) → Strict (one on of)
one_strict {A = A} on of [] a rest e = absurd cc
one_strict {A = A} on of (w ∷ ws) a rest e = by (of w) e
  where
    by : (o : Option A) → elim o [ Some a ↦ done a ws | None ↦ refused (stop_at (on w) w ws) ] ≡ done a rest → length rest < length (w ∷ ws)
    by (Some b) e = let same : ws ≡ rest = cc in let l = ap length same in omega (arith, l)
    by None e = absurd cc

pub pick_strict : (word stop : Piece) → Strict (either word stop)
pick_strict word stop = one_strict (λ w. is_start w word || is_start w stop) (which word stop)

bind_same : {A B : Type 0} (o : Outcome A) (f g : A × Pieces → Outcome B) → ((a : A) (rest : Pieces) → o ≡ done a rest → f (a, rest) ≡ g (a, rest)) → (o >>= f) ≡ (o >>= g)
bind_same (done a rest) f g h = h a rest refl
bind_same (refused rest) f g h = refl

module _ {A : Type 0} (word stop : Piece) (item : ℕ → Reader A) (strict : Strict (either word stop)) (falls : (i : ℕ) → Falls (item i)) where
  -- one round, with so many to come
  abbrev round : ℕ → List A → Bool × Pieces → Outcome (List A)
  round most items b = if b.0 then (item (length items) b.1 >>= λ x. until_within word stop item most (items ++ x.0 ∷ []) x.1) else done items b.1

  enough : (m n : ℕ) (items : List A) (ts : Pieces) → length ts < m → length ts < n → until_within word stop item m items ts ≡ until_within word stop item n items ts
  enough zero n items ts p q = absurd (omega (arith, p))
  enough (suc m) zero items ts p q = absurd (omega (arith, q))
  enough (suc m) (suc n) items ts p q = bind_same (either word stop ts) (round m items) (round n items) (λ b mid e. by (λ x rest k l. enough m n (items ++ x ∷ []) rest k l) b mid (strict ts b mid e))
    where
      by : ((x : A) (rest : Pieces) → length rest < m → length rest < n → until_within word stop item m (items ++ x ∷ []) rest ≡ until_within word stop item n (items ++ x ∷ []) rest) →
          (b : Bool) (mid : Pieces) → length mid < length ts → round m items (b, mid) ≡ round n items (b, mid)
      by again false mid l = refl
      by again true mid l =
          bind_same (item (length items) mid) (λ x. until_within word stop item m (items ++ x.0 ∷ []) x.1) (λ x. until_within word stop item n (items ++ x.0 ∷ []) x.1)
          (λ x rest e. let k = falls (length items) mid x rest e in again x rest (omega (arith, l, k, p)) (omega (arith, l, k, q)))

  pub until_end : (items : List A) (ts rest : Pieces) → either word stop ts ≡ done false rest → until word stop item items ts ≡ done items rest
  until_end items ts rest e = ap (λ o. o >>= round (length ts) items) e

  pub until_stops : (items : List A) (ts rest : Pieces) → either word stop ts ≡ refused rest → until word stop item items ts ≡ refused rest
  until_stops items ts rest e = ap (λ o. o >>= round (length ts) items) e

  pub until_refused : (items : List A) (ts mid rest : Pieces) → either word stop ts ≡ done true mid → item (length items) mid ≡ refused rest → until word stop item items ts ≡ refused rest
  until_refused items ts mid rest e f = ap (λ o. o >>= round (length ts) items) e ∙ ap (λ o. o >>= λ x. until_within word stop item (length ts) (items ++ x.0 ∷ []) x.1) f

  pub until_more : (items : List A) (x : A) (ts mid rest : Pieces) → either word stop ts ≡ done true mid → item (length items) mid ≡ done x rest → until word stop item (items ++ x ∷ []) rest ≡ until word stop item items ts
  until_more items x ts mid rest e f =
      let l = strict ts true mid e in
      let k = falls (length items) mid x rest f in
      sym (ap (λ o. o >>= round (length ts) items) e ∙ ap (λ o. o >>= λ x. until_within word stop item (length ts) (items ++ x.0 ∷ []) x.1) f
      ∙ enough (length ts) (suc (length rest)) (items ++ x ∷ []) rest (omega (arith, l, k)) (omega arith))

pub width_falls : (i : ℕ) → Falls (width i)
width_falls i = phrase_falls (width_phrase i)

pub line_falls : (i : ℕ) → Falls (line i)
line_falls i = phrase_falls (line_phrase i)

-- a reference is read where there is none below its end, too
pub ref_falls : (end : ℕ) → Falls (ref_line end)
ref_falls end ts r rest e = by (field end ts) refl e
  where
    newline_falls : Falls (fixed newline)
    newline_falls ts u rest e = let l = one_strict (λ w. is_start w newline) (this newline) ts u rest e in omega (arith, l)

    number_falls : (a b : ℕ) → Falls (number a b)
    number_falls a b ts n rest e = let l = one_strict (λ w. length w == 0) (number_of a b) ts n rest e in omega (arith, l)

    first : (o : Outcome (Unit {0})) → fixed space ts ≡ o → (n : ℕ) (mid : Pieces) → (o >>= λ r. number 0 (min end 4294967296) r.1) ≡ done n mid → length mid ≤ length ts
    first (done u m) p n mid q =
        let l = one_strict (λ w. is_start w space) (this space) ts u m p in
        let k = number_falls 0 (min end 4294967296) m n mid q in omega (arith, l, k)
    first (refused m) p n mid q = absurd cc

    by : (o : Outcome ℕ) → field end ts ≡ o → (o >>= λ r. fixed newline r.1 >>= λ l. done r.0 l.1) ≡ done r rest → length rest ≤ length ts
    by (refused m) p q = absurd cc
    by (done n mid) p q = last (fixed newline mid) refl q
      where
        last : (o : Outcome (Unit {0})) → fixed newline mid ≡ o → (o >>= λ l. done n l.1) ≡ done r rest → length rest ≤ length ts
        last (refused m) s t = absurd cc
        last (done u m) s t =
            let one = first (fixed space ts) refl n mid p in
            let two = newline_falls mid u m s in
            let same : m ≡ rest = cc in
            let three = ap length same in omega (arith, one, two, three)

-- what was read is the first word
pub first_read : (o : Outcome Bool) (b : Bool) (rest : Pieces) → o ≡ done b rest → b ≡ true → o ≡ done true rest
first_read o b rest e p = e ∙ ap (λ d. done d rest) p

-- ---- so many items

left_one : (i n : ℕ) → i < n → n - i ≡ suc (n - (i + 1))
left_one i n h = omega (arith, h)

module _ {A : Type 0} (item : ℕ → Reader A) where
  pub times_end : (items : List A) (ts : Pieces) (n : ℕ) → n ≡ 0 → times item n items ts ≡ done items ts
  times_end items ts n e = ap (λ m. times item m items ts) e

  pub times_refused : (items : List A) (ts rest : Pieces) (i n : ℕ) → i < n → item (length items) ts ≡ refused rest → times item (n - i) items ts ≡ refused rest
  times_refused items ts rest i n h e = ap (λ m. times item m items ts) (left_one i n h) ∙ ap (λ o. o >>= λ x. times item (n - (i + 1)) (items ++ x.0 ∷ []) x.1) e

  pub times_more : (items : List A) (x : A) (ts rest : Pieces) (i n : ℕ) → i < n → item (length items) ts ≡ done x rest → times item (n - (i + 1)) (items ++ x ∷ []) rest ≡ times item (n - i) items ts
  times_more items x ts rest i n h e = sym (ap (λ m. times item m items ts) (left_one i n h) ∙ ap (λ o. o >>= λ x. times item (n - (i + 1)) (items ++ x.0 ∷ []) x.1) e)

-- where an item stops, so do all
pub times_stop : {A : Type 0} (item : ℕ → Reader A) (items : List A) (ts rest : Pieces) (i n m : ℕ) (stop : Stop) (o : Outcome (List A)) → i < n → m ≡ length items → Stops stop rest (item m ts) → times item (n - i) items ts ≡ o → Stops stop rest o
times_stop item items ts rest i n m Memory o h l s e = tt
times_stop item items ts rest i n m Refused o h l s e = sym e ∙ times_refused item items ts rest i n h (ap (λ k. item k ts) (sym l) ∙ s)

-- what is passed on
pub gives_err : {A B : Type 0} (view : A → B) (r : Result A Stop) (stop : Stop) (rest : Pieces) (o : Outcome B) → IsErrAnd r (λ e. e ≡ stop) → Stops stop rest o → Gives view r rest o
gives_err view (Ok a) stop rest o h s = absurd h
gives_err view (Err e) stop rest o h s = subst (λ z. Stops z rest o) (sym h) s
