-- How a reader goes: where it ends, or refuses a word, does not depend on what comes behind that word, and what it refuses can be completed.
use Rattle.std.proofs.Common.{◌≡◌, ℕ, zero, suc, ◌<◌, ◌≤◌, Bool, true, false, List, [], ◌∷◌, ◌++◌, length, Option, None, Some, refl, sym, ap, subst, ◌∙◌, append_assoc, arith}
use Rattle.std.proofs.lemmas.List.{length-append}
use Rattle.hp_obctext.specs.Outcomes.{Words, Outcome, done, refused, ◌>>=◌}
use Rattle.hp_obctext.specs.Reading.{Reader, one, many, is_ahead}
use Rattle.hp_obctext.proofs.Rounds.{Below, Strict, Falls, then_falls, many_end, many_steps, many_falls}

-- ---- the next word

-- Words have the same next word, or none.
abbrev pub SameNext : Words → Words → Type 0
SameNext [] [] = Unit {0}
SameNext [] (w ∷ ws) = ⊥
SameNext (v ∷ vs) [] = ⊥
SameNext (v ∷ vs) (w ∷ ws) = v ≡ w

next_behind : (front rest other : Words) → SameNext rest other → SameNext (front ++ rest) (front ++ other)
next_behind [] rest other h = h
next_behind (w ∷ front) rest other h = refl

pub same_ahead : (begins : List ℕ → Bool) (us vs : Words) → SameNext us vs → is_ahead begins us ≡ is_ahead begins vs
same_ahead begins [] [] h = refl
same_ahead begins [] (w ∷ ws) h = absurd h
same_ahead begins (v ∷ vs) [] h = absurd h
same_ahead begins (v ∷ vs) (w ∷ ws) h = ap begins h

next_front : (vs front rest other : Words) → vs ≡ front ++ rest → SameNext rest other → SameNext vs (front ++ other)
next_front vs front rest other e h = subst (λ z. SameNext z (front ++ other)) (sym e) (next_behind front rest other h)

next_taken : (vs front rest other : Words) → vs ≡ front ++ rest → length rest < length vs → SameNext vs (front ++ other)
next_taken vs [] rest other e h = let same = ap length e in absurd (omega (arith, same, h))
next_taken vs (w ∷ front) rest other e h = subst (λ z. SameNext z (w ∷ (front ++ other))) (sym e) refl

-- ---- courses

-- A reader ends in front of `rest`, and so it does in front of all words that have the same next one, or of which it takes none.
pub record Ends {A : Type 0} (read : Reader A) (Stop : Words → Type 0) (vs : Words) (a : A) (rest : Words) : Type 0 where
  pub front : Words
  pub split : vs ≡ front ++ rest
  pub same : (other : Words) → SameNext rest other → read (front ++ other) ≡ done a other
  pub stopped : (other : Words) → Stop other → read (front ++ other) ≡ done a other

-- A reader refuses the next word of `rest`, whatever comes behind it, and other words would complete what was read.
pub record Halts {A : Type 0} (read : Reader A) (Stop : Words → Type 0) (vs rest : Words) : Type 0 where
  pub front : Words
  pub split : vs ≡ front ++ rest
  pub same : (other : Words) → SameNext rest other → read (front ++ other) ≡ refused other
  pub more : Words
  pub value : A
  pub whole : (other : Words) → Stop other → read (front ++ (more ++ other)) ≡ done value other

-- Some words are read, in front of all of which the reader takes none.
pub record Completes {A : Type 0} (read : Reader A) (Stop : Words → Type 0) : Type 0 where
  pub more : Words
  pub value : A
  pub whole : (other : Words) → Stop other → read (more ++ other) ≡ done value other

abbrev pub Course : {A : Type 0} → Reader A → (Words → Type 0) → Words → Outcome A → Type 0
Course read Stop vs (done a rest) = Ends read Stop vs a rest
Course read Stop vs (refused rest) = Halts read Stop vs rest

-- A reader goes so from all words on.
abbrev pub Runs : {A : Type 0} → Reader A → (Words → Type 0) → Type 0
Runs read Stop = (vs : Words) → Course read Stop vs (read vs)

abbrev pub Anything : Words → Type 0
Anything ws = Unit {0}

course_completes : {A : Type 0} (read : Reader A) (Stop : Words → Type 0) (vs : Words) (o : Outcome A) → Course read Stop vs o → Completes read Stop
course_completes read Stop vs (done a rest) h = record { more = h.front; value = a; whole = h.stopped }
course_completes read Stop vs (refused rest) h =
    record { more = h.front ++ h.more; value = h.value; whole = λ other s. ap read (append_assoc h.front h.more other) ∙ h.whole other s }

pub weaker_course : {A : Type 0} (read : Reader A) (Stop Next : Words → Type 0) (vs : Words) (o : Outcome A) → ((us : Words) → Next us → Stop us) → Course read Stop vs o → Course read Next vs o
weaker_course read Stop Next vs (done a rest) w h = record { front = h.front; split = h.split; same = h.same; stopped = λ other s. h.stopped other (w other s) }
weaker_course read Stop Next vs (refused rest) w h =
    record { front = h.front; split = h.split; same = h.same; more = h.more; value = h.value; whole = λ other s. h.whole other (w other s) }

course_falls : {A : Type 0} (read : Reader A) (Stop : Words → Type 0) (vs : Words) (n : ℕ) (o : Outcome A) → length vs < n → Course read Stop vs o → Below n o
course_falls read Stop vs n (done a rest) k h = let e = ap length h.split ∙ length-append h.front rest in omega (arith, e, k)
course_falls read Stop vs n (refused rest) k h = tt

pub runs_fall : {A : Type 0} (read : Reader A) (Stop : Words → Type 0) → Runs read Stop → Falls read
runs_fall read Stop r vs n k = course_falls read Stop vs n (read vs) k (r vs)

-- a reader that does the same as another where the next word is the same, and that can be completed
pub alike : {A : Type 0} (left right : Reader A) (Stop : Words → Type 0) (vs : Words) → ((us : Words) → SameNext vs us → left us ≡ right us) → Completes left Stop → (o : Outcome A) → Below (length vs) o → Course right Stop vs o → Course left Stop vs o
alike left right Stop vs e c (done a rest) less h = record {
  front = h.front;
  split = h.split;
  same = λ other s. e (h.front ++ other) (next_front vs h.front rest other h.split s) ∙ h.same other s;
  stopped = λ other s. e (h.front ++ other) (next_taken vs h.front rest other h.split less) ∙ h.stopped other s;
}
alike left right Stop vs e c (refused rest) less h = by h.front h.split h.same h.whole
  where
    by : (front : Words) → vs ≡ front ++ rest → ((other : Words) → SameNext rest other → right (front ++ other) ≡ refused other) →
        ((other : Words) → Stop other → right (front ++ (h.more ++ other)) ≡ done h.value other) → Halts left Stop vs rest
    by [] split same whole = record { front = []; split = split; same = λ other s. e other (next_front vs [] rest other split s) ∙ same other s; more = c.more; value = c.value; whole = c.whole }
    by (w ∷ front) split same whole = record {
      front = w ∷ front;
      split = split;
      same = λ other s. e (w ∷ (front ++ other)) (next_front vs (w ∷ front) rest other split s) ∙ same other s;
      more = h.more;
      value = h.value;
      whole = λ other s. e (w ∷ (front ++ (h.more ++ other))) (subst (λ z. SameNext z (w ∷ (front ++ (h.more ++ other)))) (sym split) refl) ∙ whole other s;
    }

-- ---- one behind the other

-- Words that the second takes, in front of which it stops, are some in front of which the first stops.
abbrev pub Apart : {A B : Type 0} → (A × Words → Outcome B) → (Words → Type 0) → (Words → Type 0) → Type 0
Apart {A} {B} f Stop Next = (a : A) (us : Words) (b : B) (rest : Words) → f (a, us) ≡ done b rest → Next rest → Stop us

module _ {A B : Type 0} (read : Reader A) (f : A × Words → Outcome B) (Stop Next : Words → Type 0) (apart : Apart f Stop Next) where
  abbrev both : Reader B
  both ws = read ws >>= f

  on_same : (vs : Words) (a : A) (rest : Words) (h : Ends read Stop vs a rest) (front end other : Words) → rest ≡ front ++ end → SameNext end other → both ((h.front ++ front) ++ other) ≡ f (a, front ++ other)
  on_same vs a rest h front end other e s = ap (λ o. o >>= f) (ap read (append_assoc h.front front other) ∙ h.same (front ++ other) (next_front rest front end other e s))

  on_stop : (vs : Words) (a : A) (rest : Words) (h : Ends read Stop vs a rest) (front more : Words) (b : B) (other : Words) → f (a, front ++ more) ≡ done b other → Next other → both ((h.front ++ front) ++ more) ≡ done b other
  on_stop vs a rest h front more b other e s = ap (λ o. o >>= f) (ap read (append_assoc h.front front more) ∙ h.stopped (front ++ more) (apart a (front ++ more) b other e s)) ∙ e

  behind_end : (vs : Words) (a : A) (rest : Words) → Ends read Stop vs a rest → (o : Outcome B) → Course (λ ws. f (a, ws)) Next rest o → Course both Next vs o
  behind_end vs a rest h (done b end) g = record {
    front = h.front ++ g.front;
    split = h.split ∙ ap (λ z. h.front ++ z) g.split ∙ sym (append_assoc h.front g.front end);
    same = λ other s. on_same vs a rest h g.front end other g.split s ∙ g.same other s;
    stopped = λ other s. on_stop vs a rest h g.front other b other (g.stopped other s) s;
  }
  behind_end vs a rest h (refused end) g = record {
    front = h.front ++ g.front;
    split = h.split ∙ ap (λ z. h.front ++ z) g.split ∙ sym (append_assoc h.front g.front end);
    same = λ other s. on_same vs a rest h g.front end other g.split s ∙ g.same other s;
    more = g.more;
    value = g.value;
    whole = λ other s. on_stop vs a rest h g.front (g.more ++ other) g.value other (g.whole other s) s;
  }

  behind_halt : (vs rest : Words) (h : Halts read Stop vs rest) → Completes (λ ws. f (h.value, ws)) Next → Halts both Next vs rest
  behind_halt vs rest h c = record {
    front = h.front;
    split = h.split;
    same = λ other s. ap (λ o. o >>= f) (h.same other s);
    more = h.more ++ c.more;
    value = c.value;
    whole = λ other s.
        ap (λ z. both (h.front ++ z)) (append_assoc h.more c.more other)
        ∙ ap (λ o. o >>= f) (h.whole (c.more ++ other) (apart h.value (c.more ++ other) c.value other (c.whole other s) s)) ∙ c.whole other s;
  }

  pub then_course : (vs : Words) (o : Outcome A) → Course read Stop vs o → ((a : A) (rest : Words) → o ≡ done a rest → Course (λ ws. f (a, ws)) Next rest (f (a, rest))) →
      ((a : A) → Completes (λ ws. f (a, ws)) Next) → Course both Next vs (o >>= f)
  then_course vs (done a rest) h k c = behind_end vs a rest h (f (a, rest)) (k a rest refl)
  then_course vs (refused rest) h k c = behind_halt vs rest h (c h.value)

  pub then_runs : Runs read Stop → ((a : A) → Runs (λ ws. f (a, ws)) Next) → Runs both Next
  then_runs r k vs = then_course vs (read vs) (r vs) (λ a rest e. k a rest) (λ a. course_completes (λ ws. f (a, ws)) Next [] (f (a, [])) (k a []))

-- behind a reader that stops in front of anything
pub next : {A B : Type 0} (read : Reader A) (f : A × Words → Outcome B) (Next : Words → Type 0) → Runs read Anything → ((a : A) → Runs (λ ws. f (a, ws)) Next) → Runs (λ ws. read ws >>= f) Next
next read f Next r k = then_runs read f Anything Next (λ a us b rest e s. tt) r k

-- nothing is read
pub done_runs : {A : Type 0} (a : A) → Runs (λ ws. done a ws) Anything
done_runs a vs = record { front = []; split = refl; same = λ other s. refl; stopped = λ other s. refl }

-- what is made of the value that a reader gives
pub mapped_runs : {A B : Type 0} (read : Reader A) (make : A → B) (Stop : Words → Type 0) → Runs read Stop → Runs (λ ws. read ws >>= λ x. done (make x.0) x.1) Stop
mapped_runs {A} {B} read make Stop r = then_runs read made Stop Stop apart r (λ a vs. weaker_course (λ ws. done (make a) ws) Anything Stop vs (done (make a) vs) (λ us h. tt) (done_runs (make a) vs))
  where
    made : A × Words → Outcome B
    made x = done (make x.0) x.1

    apart : Apart made Stop Stop
    apart a us b rest e s = let same : us ≡ rest = cc in subst Stop (sym same) s

-- ---- one word

module _ {A : Type 0} (of : List ℕ → Option A) (word : List ℕ) (value : A) (is : of word ≡ Some value) where
  taken : (w : List ℕ) (a : A) (ws : Words) → of w ≡ Some a → one of (w ∷ ws) ≡ done a ws
  taken w a ws e = ap (λ o. elim o [ Some a ↦ done a ws | None ↦ refused (w ∷ ws) ]) e

  not_taken : (w : List ℕ) (ws : Words) → of w ≡ None → one of (w ∷ ws) ≡ refused (w ∷ ws)
  not_taken w ws e = ap (λ o. elim o [ Some a ↦ done a ws | None ↦ refused (w ∷ ws) ]) e

  at_end : (other : Words) → SameNext [] other → one of other ≡ refused other
  at_end [] s = refl
  at_end (w ∷ ws) s = absurd s

  at_word : (v : List ℕ) (vs : Words) (other : Words) → of v ≡ None → SameNext (v ∷ vs) other → one of other ≡ refused other
  at_word v vs [] e s = absurd s
  at_word v vs (w ∷ ws) e s = not_taken w ws (ap of (sym s) ∙ e)

  pub one_runs : Runs (one of) Anything
  one_runs [] = record { front = []; split = refl; same = at_end; more = word ∷ []; value = value; whole = λ other s. taken word value other is }
  one_runs (v ∷ vs) = by (of v) refl
    where
      by : (o : Option A) → of v ≡ o → Course (one of) Anything (v ∷ vs) (elim o [ Some a ↦ done a vs | None ↦ refused (v ∷ vs) ])
      by None e = record { front = []; split = refl; same = λ other s. at_word v vs other e s; more = word ∷ []; value = value; whole = λ other s. taken word value other is }
      by (Some a) e = record { front = v ∷ []; split = refl; same = λ other s. taken v a other e; stopped = λ other s. taken v a other e }

-- ---- many items

module _ {A : Type 0} (begins : List ℕ → Bool) (item : Reader A) (strict : Strict item) (Stop Next : Words → Type 0) (runs : Runs item Stop) (apart : (us : Words) → is_ahead begins us ≡ true → Stop us)
    (ends : (us : Words) → Next us → is_ahead begins us ≡ false) (ends_item : (us : Words) → Next us → Stop us) where
  abbrev again : List A → A × Words → Outcome (List A)
  again items r = many begins item (items ++ (r.0 ∷ [])) r.1

  items_apart : (items : List A) → Apart (again items) Stop Next
  items_apart items a us b rest e s = by (is_ahead begins us) refl
    where
      by : (d : Bool) → is_ahead begins us ≡ d → Stop us
      by true p = apart us p
      by false p =
          let ended : done (items ++ (a ∷ [])) us ≡ done b rest = sym (many_end begins item strict (items ++ (a ∷ [])) us p) ∙ e in
          let same : us ≡ rest = cc in
          subst Stop (sym same) (ends_item rest s)

  none_behind : (items : List A) → Completes (many begins item items) Next
  none_behind items = record { more = []; value = items; whole = λ other s. many_end begins item strict items other (ends other s) }

  round : (items : List A) (vs : Words) (d : Bool) → is_ahead begins vs ≡ d → ((a : A) (rest : Words) → length rest < length vs → Course (many begins item (items ++ (a ∷ []))) Next rest (many begins item (items ++ (a ∷ [])) rest)) →
      Course (many begins item items) Next vs (many begins item items vs)
  round items vs false p k =
      subst (Course (many begins item items) Next vs) (sym (many_end begins item strict items vs p)) (record {
        front = [];
        split = refl;
        same = λ other s. many_end begins item strict items other (sym (same_ahead begins vs other s) ∙ p);
        stopped = λ other s. many_end begins item strict items other (ends other s);
      })
  round items vs true p k =
      subst (Course (many begins item items) Next vs) (sym (many_steps begins item strict items vs p))
      (alike (many begins item items) (λ us. item us >>= again items) Next vs (λ us s. many_steps begins item strict items us (sym (same_ahead begins vs us s) ∙ p)) (none_behind items) (item vs >>= again items)
      (then_falls (item vs) (again items) (length vs) (strict vs) (λ a rest less. many_falls begins item strict (items ++ (a ∷ [])) rest (length vs) less))
      (then_course item (again items) Stop Next (items_apart items) vs (item vs) (runs vs) (λ a rest e. k a rest (subst (Below (length vs)) e (strict vs))) (λ a. none_behind (items ++ (a ∷ [])))))

  many_by : (n : ℕ) (items : List A) (vs : Words) → length vs ≤ n → Course (many begins item items) Next vs (many begins item items vs)
  many_by zero items vs h = round items vs (is_ahead begins vs) refl (λ a rest less. absurd (omega (arith, h, less)))
  many_by (suc n) items vs h = round items vs (is_ahead begins vs) refl (λ a rest less. many_by n (items ++ (a ∷ [])) rest (omega (arith, h, less)))

  pub many_runs : (items : List A) → Runs (many begins item items) Next
  many_runs items vs = many_by (length vs) items vs (omega arith)
