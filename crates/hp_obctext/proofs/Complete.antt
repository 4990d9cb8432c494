-- Words that are spelled as those of a phrase are read as the phrase: one word, and one thing behind another.
use Rattle.std.proofs.Common.{◌≡◌, ℕ, Bool, true, false, if◌then◌else◌, List, [], ◌∷◌, ◌++◌, codes, Option, None, Some, refl, sym, ap, subst, ◌∙◌, append_assoc, append-nil}
use Rattle.std.specs.Str.{bytes_eq}
use Rattle.hp_obctext.specs.Files as file
use Rattle.hp_obctext.specs.Files.{each, comma}
use Rattle.hp_obctext.specs.Outcomes.{Words, Outcome, done, refused, ◌>>=◌}
use Rattle.hp_obctext.specs.Reading.{Reader, one, fixed, many, behind, is_ahead, is_this, listed, section}
use Rattle.hp_obctext.specs.Shapes.{Each}
use Rattle.hp_obctext.specs.Spelling.{this}
use Rattle.hp_obctext.specs.Spells.{Takes}
use Rattle.hp_obctext.specs.Words.{Word, leading, fixed as plain}
use Rattle.hp_obctext.proofs.CompleteWords.{Means, this_means, leading_means}
use Rattle.hp_obctext.proofs.ListRounds.{behind_strict}
use Rattle.hp_obctext.proofs.Rounds.{Strict, Falls, many_end, many_added}
use Rattle.hp_obctext.proofs.Truths.{equal_bytes}

-- What stands in front was taken, and the others stand behind it.
pub record Parts (us : Words) (ws ts : List Word) (rest : Words) : Type 0 where
  pub middle : Words
  pub front : Takes us ws middle
  pub back : Takes middle ts rest

pub parts : (us : Words) (ws ts : List Word) (rest : Words) → Takes us (ws ++ ts) rest → Parts us ws ts rest
parts us [] ts rest h = record { middle = us; front = refl; back = h }
parts [] (w ∷ ws) ts rest h = absurd h
parts (u ∷ us) (w ∷ ws) ts rest h = let p = parts us ws ts rest h.1 in record { middle = p.middle; front = (h.0, p.front); back = p.back }

-- A reader gives a thing and what stands behind its words, where that goes on as it may.
abbrev pub Gets : {A : Type 0} → (A → List Word) → Reader A → (Words → Type 0) → A → Type 0
Gets words read Next a = (us rest : Words) → Takes us (words a) rest → Next rest → read us ≡ done a rest

-- the words behind the first
abbrev pub others : List Word → List Word
others [] = []
others (w ∷ ws) = ws

-- anything may stand behind
abbrev pub Anything : Words → Type 0
Anything ws = Unit {0}

-- ---- one behind the other

pub word_then : {A B : Type 0} (word : A → Word) (of : List ℕ → Option A) (a : A) → Means word of a → (us : Words) (ws : List Word) (rest : Words) (f : A × Words → Outcome B) (o : Outcome B) →
    Takes us (word a ∷ ws) rest → ((vs : Words) → Takes vs ws rest → f (a, vs) ≡ o) → (one of us >>= f) ≡ o
word_then word of a m [] ws rest f o h k = absurd h
word_then word of a m (u ∷ us) ws rest f o h k = ap (λ x. elim x [ Some b ↦ done b us | None ↦ refused (u ∷ us) ] >>= f) (m u h.0) ∙ k us h.1

pub plain_then : {B : Type 0} (word : List ℕ) (us : Words) (ws : List Word) (rest : Words) (f : Unit {0} × Words → Outcome B) (o : Outcome B) →
    Takes us (plain word ∷ ws) rest → ((vs : Words) → Takes vs ws rest → f (tt, vs) ≡ o) → (fixed word us >>= f) ≡ o
plain_then word us ws rest f o h k = word_then (λ u. plain word) (this word) tt (this_means word) us ws rest f o h k

pub leading_then : {B : Type 0} (word : List ℕ) (us : Words) (ws : List Word) (rest : Words) (f : Unit {0} × Words → Outcome B) (o : Outcome B) →
    Takes us (leading word ∷ ws) rest → ((vs : Words) → Takes vs ws rest → f (tt, vs) ≡ o) → (fixed word us >>= f) ≡ o
leading_then word us ws rest f o h k = word_then (λ u. leading word) (this word) tt (leading_means word) us ws rest f o h k

pub then_by : {A B : Type 0} (words : A → List Word) (read : Reader A) (Next : Words → Type 0) (a : A) → Gets words read Next a → (us : Words) (ws : List Word) (rest : Words) (f : A × Words → Outcome B) (o : Outcome B) →
    Takes us (words a ++ ws) rest → ((vs : Words) → Takes vs ws rest → Next vs) → ((vs : Words) → Takes vs ws rest → f (a, vs) ≡ o) → (read us >>= f) ≡ o
then_by words read Next a g us ws rest f o h n k =
    let p = parts us (words a) ws rest h in
    ap (λ x. x >>= f) (g us p.middle p.front (n p.middle p.back)) ∙ k p.middle p.back

pub word_gets : {A : Type 0} (word : A → Word) (of : List ℕ → Option A) (a : A) → Means word of a → Gets (λ b. word b ∷ []) (one of) Anything a
word_gets word of a m [] rest h n = absurd h
word_gets word of a m (u ∷ us) rest h n = ap (λ x. elim x [ Some b ↦ done b us | None ↦ refused (u ∷ us) ]) (m u h.0) ∙ ap (done a) h.1

-- ---- what is ahead

-- the word ahead is none of a kind
abbrev pub Without : (List ℕ → Bool) → Words → Type 0
Without kind ws = is_ahead kind ws ≡ false

pub ahead_plain : (kind : List ℕ → Bool) (d : Bool) (word : List ℕ) → kind word ≡ d → (us : Words) (ws : List Word) (rest : Words) → Takes us (plain word ∷ ws) rest → is_ahead kind us ≡ d
ahead_plain kind d word k [] ws rest h = absurd h
ahead_plain kind d word k (u ∷ us) ws rest h = ap kind h.0 ∙ k

pub ahead_leading : (kind : List ℕ → Bool) (d : Bool) (word : List ℕ) → kind word ≡ d → (us : Words) (ws : List Word) (rest : Words) → Takes us (leading word ∷ ws) rest → is_ahead kind us ≡ d
ahead_leading kind d word k [] ws rest h = absurd h
ahead_leading kind d word k (u ∷ us) ws rest h = ap kind h.0 ∙ k

-- a word that means something is none that means nothing
means_other : {A : Type 0} (of : List ℕ → Option A) (u word : List ℕ) (a : A) → of u ≡ Some a → of word ≡ None → is_this word u ≡ false
means_other of u word a h k = by (bytes_eq u word) refl
  where
    by : (d : Bool) → bytes_eq u word ≡ d → d ≡ false
    by true e = let same : of u ≡ of word = ap of (equal_bytes u word e) in absurd cc
    by false e = refl

pub ahead_other : {A : Type 0} (word : A → Word) (of : List ℕ → Option A) (a : A) → Means word of a → (w : List ℕ) → of w ≡ None → (us : Words) (ws : List Word) (rest : Words) → Takes us (word a ∷ ws) rest → Without (is_this w) us
ahead_other word of a m w e [] ws rest h = absurd h
ahead_other word of a m w e (u ∷ us) ws rest h = means_other of u w a (m u h.0) e

-- the word ahead is this one, and so of no kind that it is not of
pub this_ahead : (word : List ℕ) (kind : List ℕ → Bool) → kind word ≡ false → (us : Words) → is_ahead (is_this word) us ≡ true → Without kind us
this_ahead word kind k [] h = refl
this_ahead word kind k (u ∷ us) h = ap kind (equal_bytes u word h) ∙ k

-- ---- lists

-- the words of an item begin with one that the item begins with
abbrev pub Starts : {A : Type 0} → (A → List Word) → (List ℕ → Bool) → A → Type 0
Starts words begins a = (us : Words) (ws : List Word) (rest : Words) → Takes us (words a ++ ws) rest → is_ahead begins us ≡ true

module _ {A : Type 0} (words : A → List Word) (begins : List ℕ → Bool) (item : Reader A) (strict : Strict item) (Next : Words → Type 0) (goes_on : (us : Words) → is_ahead begins us ≡ true → Next us) where
  pub many_by : (xs : List A) → Each (Gets words item Next) xs → Each (Starts words begins) xs → (items : List A) (us rest : Words) → Takes us (each words xs) rest → Next rest → Without begins rest →
      many begins item items us ≡ done (items ++ xs) rest
  many_by [] g s items us rest h n e =
      many_end begins item strict items us (ap (is_ahead begins) h ∙ e) ∙ ap (λ ys. done ys us) (sym (append-nil items)) ∙ ap (done (items ++ [])) h
  many_by (x ∷ xs) g s items us rest h n e =
      let p = parts us (words x) (each words xs) rest h in
      sym (many_added begins item strict items x us p.middle (s.0 us (each words xs) rest h) (g.0 us p.middle p.front (next xs s.1 p.middle p.back)))
      ∙ many_by xs g.1 s.1 (items ++ x ∷ []) p.middle rest p.back n e
      ∙ ap (λ ys. done ys rest) (append_assoc items (x ∷ []) xs)
    where
      next : (ys : List A) → Each (Starts words begins) ys → (vs : Words) → Takes vs (each words ys) rest → Next vs
      next [] t vs k = subst Next (sym k) n
      next (y ∷ ys) t vs k = goes_on vs (t.0 vs (each words ys) rest k)

-- a list of items, each behind its own first word
pub many_gets : {A : Type 0} (words : A → List Word) (begins : List ℕ → Bool) (item : Reader A) → Strict item → (Next : Words → Type 0) → ((us : Words) → is_ahead begins us ≡ true → Next us) →
    (xs : List A) → Each (Gets words item Next) xs → Each (Starts words begins) xs → Gets (each words) (many begins item []) (λ rest. Next rest × Without begins rest) xs
many_gets words begins item strict Next goes_on xs g s us rest h n = many_by words begins item strict Next goes_on xs g s [] us rest h n.0 n.1

-- items with commas between them in front of `)`
module _ {A : Type 0} (words : A → List Word) (item : Reader A) (falls : Falls item) where
  behind_comma : (a : A) → Gets words item Anything a → Gets (comma words) (behind (codes ",") item) Anything a
  behind_comma a g us rest h n = plain_then (codes ",") us (words a) rest (λ r. item r.1) (done a rest) h (λ vs k. g vs rest k tt)

  comma_starts : (a : A) → Starts (comma words) (is_this (codes ",")) a
  comma_starts a us ws rest h = ahead_plain (is_this (codes ",")) true (codes ",") refl us (words a ++ ws) rest h

  all_commas : (xs : List A) → Each (Gets words item Anything) xs → Each (Gets (comma words) (behind (codes ",") item) Anything) xs
  all_commas [] g = tt
  all_commas (x ∷ xs) g = (behind_comma x g.0, all_commas xs g.1)

  all_start : (xs : List A) → Each (Starts (comma words) (is_this (codes ","))) xs
  all_start [] = tt
  all_start (x ∷ xs) = (comma_starts x, all_start xs)

  -- the words of an item do not begin with `)`
  abbrev pub NotClosed : A → Type 0
  NotClosed a = (us : Words) (ws : List Word) (rest : Words) → Takes us (words a ++ ws) rest → Without (is_this (codes ")")) us

  listed_gets : (xs : List A) → Each (Gets words item Anything) xs → Each NotClosed xs → (us : Words) (ws : List Word) (rest : Words) → Takes us (file.listed words xs ++ plain (codes ")") ∷ ws) rest →
      (vs : Words) × (listed item us ≡ done xs vs) × Takes vs (plain (codes ")") ∷ ws) rest
  listed_gets [] g c us ws rest h =
      (us, ap (λ d. if d then done [] us else (item us >>= λ r. many (is_this (codes ",")) (behind (codes ",") item) (r.0 ∷ []) r.1)) (ahead_plain (is_this (codes ")")) true (codes ")") refl us ws rest h), h)
  listed_gets (x ∷ xs) g c us ws rest h =
      let close = plain (codes ")") ∷ ws in
      let again = subst (λ ts. Takes us ts rest) (append_assoc (words x) (each (comma words) xs) close) h in
      let p = parts us (words x) (each (comma words) xs ++ close) rest again in
      let q = parts p.middle (each (comma words) xs) close rest p.back in (
        q.middle,
        ap (λ d. if d then done [] us else (item us >>= λ r. many (is_this (codes ",")) (behind (codes ",") item) (r.0 ∷ []) r.1)) (c.0 us (each (comma words) xs ++ close) rest again)
            ∙ ap (λ o. o >>= λ r. many (is_this (codes ",")) (behind (codes ",") item) (r.0 ∷ []) r.1) (g.0 us p.middle p.front tt)
            ∙ many_by (comma words) (is_this (codes ",")) (behind (codes ",") item) (behind_strict (codes ",") item falls) Anything (λ us e. tt) xs (all_commas xs g.1) (all_start xs) (x ∷ []) p.middle q.middle q.front tt
            (ahead_plain (is_this (codes ",")) false (codes ")") refl q.middle ws rest q.back),
        q.back,
      )

  pub section_gets : (title : List ℕ) (xs : List A) → Each (Gets words item Anything) xs → Each NotClosed xs → Gets (file.section title words) (section title item) Anything xs
  section_gets title xs g c us rest h n =
      leading_then title us (plain (codes "(") ∷ (file.listed words xs ++ plain (codes ")") ∷ [])) rest _ (done xs rest) h
      (λ vs k. plain_then (codes "(") vs (file.listed words xs ++ plain (codes ")") ∷ []) rest _ (done xs rest) k
      (λ vs k. let l = listed_gets xs g c vs [] rest k in
      ap (λ o. o >>= λ xs. fixed (codes ")") xs.1 >>= λ r. done xs.0 r.1) l.1
      ∙ plain_then (codes ")") l.0 [] rest (λ r. done xs r.1) (done xs rest) l.2 (λ vs k. ap (done xs) k)))
