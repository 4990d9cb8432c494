-- The phrases of the notation, restated as sequences, choices and loops.
use Rattle.std.proofs.Common.{◌≡◌, ℕ, Bool, true, false, ◌&&◌, not, List, [], ◌∷◌, ◌++◌, inl, inr, Option, refl, sym, ap, subst, ◌∙◌, append_assoc}
use Rattle.std.proofs.lemmas.List.{append-nil}
use Rattle.hp_parser.specs.declared.fault.Fault.TheVariants.{Bad, Limit}
use Rattle.hp_parser.specs.Lexemes.{Lexeme, Kinds, is_ahead}
use Rattle.hp_parser.specs.Limits.{has_one, less, has_above}
use Rattle.hp_parser.specs.Notation.{Measured}
use Rattle.hp_parser.specs.Outcomes.{Outcome, done, refused}
use Rattle.hp_parser.specs.Relation.{Phrase, One, Both, Behind, Many, Suffix, Suffixes}
use Rattle.hp_parser.specs.Reading.{Reader, Taken}
use Rattle.hp_parser.specs.Programs.{Begins}
use Rattle.hp_parser.proofs.Ways.{Way, Course, Reads, Free, Starts, Within, Then}
use Rattle.hp_parser.proofs.Choices.{Give, Either}
use Rattle.hp_parser.proofs.Loops.{Runs}

-- ---- laws of one phrase are laws of another that has the same

-- Two phrases have the same.
pub record Same {A : Type 0} (p q : Phrase A) : Type 0 where
  pub to : (u : List Lexeme) (a : A) → p u a → q u a
  pub back : (u : List Lexeme) (a : A) → q u a → p u a

same_begun : {A : Type 0} (p q : Phrase A) (u : List Lexeme) → Same p q → Begins p u → Begins q u
same_begun p q u s (v, a, h) = (v, a, s.to (u ++ v) a h)

pub same_starts : {A : Type 0} (first : Kinds) (p q : Phrase A) → Same p q → Starts first p → Starts first q
same_starts first p q s one x h = same_begun p q (x ∷ []) s (one x h)

pub same_reads : {A : Type 0} (first goes : Kinds) (empty : Bool) (read : Reader A) (p q : Phrase A) → Same p q → Reads first goes empty read p → Reads first goes empty read q
same_reads first goes empty read p q s r = record {
  complete = λ u a rest h stops. r.complete u a rest (s.back u a h) stops;
  first_is = λ x u a h. r.first_is x u a (s.back (x ∷ u) a h);
  not_empty = λ e a h. r.not_empty e a (s.back [] a h);
}

pub same_free : {A : Type 0} (first goes : Kinds) (empty : Bool) (read : Reader A) (p q : Phrase A) → Same p q → Free first goes empty read p → Free first goes empty read q
same_free first goes empty read p q s f = record {
  reads = same_reads first goes empty read p q s f.reads;
  begins = same_begun p q [] s f.begins;
  may_be_empty = λ e. let a = f.may_be_empty e in (a.0, s.to [] a.0 a.1);
}

abbrev pub with_phrases : {A : Type 0} → Way A → Phrase A → Phrase A → Way A
with_phrases w p f = record { read = w.read; free_read = w.free_read; phrase = p; free = f }

module _ {A : Type 0} (first goes : Kinds) (empty : Bool) (w : Way A) (p f : Phrase A) (low : Same w.phrase p) (wide : Same w.free f) where
  same_course : (ts : List Lexeme) (o : Outcome A) → Course w ts o → Course (with_phrases w p f) ts o
  same_course ts (done a rest) (u, e, h, again, same) = (u, e, low.to u a h, again, same)
  same_course ts (refused Bad rest) (u, e, started, again, same) = (u, e, same_begun w.phrase p u low started, again, same)
  same_course ts (refused (Limit what) rest) (u, e, started, again, (x, more, g, long)) =
      (u, e, same_begun w.phrase p u low started, again, (x, more, g, same_begun w.free f (u ++ (x ∷ [])) wide long))

  pub same_within : Within first goes empty w → Within first goes empty (with_phrases w p f)
  same_within l = record {
    within = λ u a h. wide.to u a (l.within u a (low.back u a h));
    reads = same_reads first goes empty w.read w.phrase p low l.reads;
    begins = same_begun w.phrase p [] low l.begins;
    course = λ ts. same_course ts (w.read ts) (l.course ts);
  }

-- ---- sequences

abbrev pub Convert : {A B : Type 0} → (A → B) → Phrase A → Phrase B
Convert f p u b = (a : _) × p u a × (f a ≡ b)

pub same_convert : {A B : Type 0} (f : A → B) (p : Phrase A) → Same (Then p (λ a. Give (f a))) (Convert f p)
same_convert f p = record {
  to = λ w b (a, u, v, e, h, (n, g)). (a, subst (λ z. p z a) (sym (append-nil u) ∙ ap (λ z. u ++ z) (sym n) ∙ sym e) h, g);
  back = λ w b (a, h, g). (a, w, [], sym (append-nil w), h, (refl, g));
}

pub same_both : {A B : Type 0} (p : Phrase A) (q : Phrase B) → Same (Then p (λ a. Convert (λ b. (a, b)) q)) (Both p q)
same_both p q = record {
  to = λ w c (a, u, v, e, h, (b, k, g)). (u, v, e, subst (p u) (ap (λ z. z.0) g) h, subst (q v) (ap (λ z. z.1) g) k);
  back = λ w c (u, v, e, h, k). (c.0, u, v, e, h, (c.1, k, refl));
}

pub same_behind : {A : Type 0} (kinds : Kinds) (p : Phrase A) → Same (Then (One kinds) (λ t. p)) (Behind kinds p)
same_behind kinds p = record {
  to = λ w a (t, u, v, e, (f, g), k). subst (λ z. Behind kinds p z a) (sym (e ∙ ap (λ z. z ++ v) f)) (Behind.behind t g k);
  back = back;
} where
  back : (w : List Lexeme) (a : _) → Behind kinds p w a → Then (One kinds) (λ t. p) w a
  back w a (Behind.behind {u = u} t g k) = (t, t ∷ [], u, refl, (refl, g), k)

-- ---- items, each of which takes some of a number

abbrev pub refuses_item : {A : Type 0} → Kinds → Taken A → List Lexeme → Bool
refuses_item wants s ts = is_ahead wants ts && not (has_one s.left)

abbrev pub next_item : {A : Type 0} → (A → ℕ) → Taken A → A → Taken A
next_item takes s a = record { left = less s.left (takes a); items = s.items ++ (a ∷ []) }

abbrev pub ItemRuns : {A : Type 0} → Kinds → Kinds → (A → ℕ) → (Option ℕ → Phrase A) → Taken A → Phrase (List A)
ItemRuns begins wants takes p = Runs (λ s. begins) (refuses_item wants) (λ s. p s.left) (next_item takes) (λ (s : Taken _). s.items)

allowed_by : (a b : Bool) → (a && not b) ≡ false → a ≡ true → b ≡ true
allowed_by true true h k = refl
allowed_by true false h k = absurd cc
allowed_by false b h k = absurd cc

allows_by : (a b : Bool) → (a ≡ true → b ≡ true) → (a && not b) ≡ false
allows_by true true h = refl
allows_by true false h = absurd (let no : false ≡ true = h refl in cc)
allows_by false b h = refl

module _ {A : Type 0} (begins wants : Kinds) (takes : A → ℕ) (p : Option ℕ → Phrase A) where
  pub many_of_runs : {s : Taken A} {w : List Lexeme} {bs : List A} → ItemRuns begins wants takes p s w bs → (others : List A) × (bs ≡ s.items ++ others) × Many begins wants takes p s.left w others
  many_of_runs {s = s} Runs.no_run = ([], sym (append-nil s.items), Many.no_more)
  many_of_runs {s = s} (Runs.one_more {u = u} {v = v} {a = a} h ahead allowed others) =
      let m = many_of_runs others in (
        a ∷ m.0,
        m.1 ∙ append_assoc s.items (a ∷ []) m.0,
        Many.one_more {left = s.left} {u = u} {v = v} {a = a} h ahead (allowed_by (is_ahead wants u) (has_one s.left) allowed) m.2,
      )

  pub runs_of_many : {left : Option ℕ} {w : List Lexeme} {others : List A} → Many begins wants takes p left w others → (items : List A) →
      ItemRuns begins wants takes p (record { left = left; items = items }) w (items ++ others)
  runs_of_many {left = left} Many.no_more items = subst (ItemRuns begins wants takes p (record { left = left; items = items }) []) (sym (append-nil items)) Runs.no_run
  runs_of_many {left = left} (Many.one_more {u = u} {v = v} {a = a} {others = others} h ahead allowed rest) items =
      subst (ItemRuns begins wants takes p (record { left = left; items = items }) (u ++ v)) (append_assoc items (a ∷ []) others)
      (Runs.one_more {s = record { left = left; items = items }} {u = u} {v = v} {a = a} h ahead (allows_by (is_ahead wants u) (has_one left) allowed) (runs_of_many rest (items ++ (a ∷ []))))

  pub same_many : (left : Option ℕ) → Same (ItemRuns begins wants takes p (record { left = left; items = [] })) (Many begins wants takes p left)
  same_many left = record {
    to = λ w bs h. let m = many_of_runs h in subst (Many begins wants takes p left w) (sym m.1) m.2;
    back = λ w bs h. runs_of_many h [];
  }

-- ---- phrases behind an operand

abbrev pub SuffixRuns : {A : Type 0} → Kinds → (Measured → A → Measured) → Option ℕ → Phrase A → Measured → Phrase Measured
SuffixRuns begins join depth suffix = Runs (λ m. begins) (λ m ts. not (has_above depth m.height)) (λ m. suffix) join (λ m. m)

not_false : (b : Bool) → not b ≡ false → b ≡ true
not_false true h = refl
not_false false h = absurd cc

module _ {A : Type 0} (begins : Kinds) (join : Measured → A → Measured) (depth : Option ℕ) (first : Phrase Measured) (suffix : Phrase A) where
  suffixes_on : {m n : Measured} {v : List Lexeme} → SuffixRuns begins join depth suffix m v n → (u : List Lexeme) → Suffixes begins join depth first suffix u m →
      Suffixes begins join depth first suffix (u ++ v) n
  suffixes_on {m = m} Runs.no_run u h = subst (λ z. Suffixes begins join depth first suffix z m) (sym (append-nil u)) h
  suffixes_on {m = m} {n = n} (Runs.one_more {u = u_1} {v = v_1} {a = a} k ahead allowed others) u h =
      subst (λ z. Suffixes begins join depth first suffix z n) (append_assoc u u_1 v_1)
      (suffixes_on others (u ++ u_1) (Suffixes.one_more {u = u} {v = u_1} {m = m} {a = a} h (not_false (has_above depth m.height) allowed) k ahead))

  runs_on : {m n : Measured} {v : List Lexeme} → SuffixRuns begins join depth suffix m v n → (w : List Lexeme) (a : A) → has_above depth n.height ≡ true → suffix w a → is_ahead begins w ≡ true →
      SuffixRuns begins join depth suffix m (v ++ w) (join n a)
  runs_on {m = m} {n = n} Runs.no_run w a above k ahead =
      subst (λ z. SuffixRuns begins join depth suffix m z (join m a)) (append-nil w)
      (Runs.one_more {s = m} {u = w} {v = []} {a = a} k ahead (ap not above) Runs.no_run)
  runs_on {m = m} {n = n} (Runs.one_more {u = u_1} {v = v_1} {a = b} g ahead_1 allowed others) w a above k ahead =
      subst (λ z. SuffixRuns begins join depth suffix m z (join n a)) (sym (append_assoc u_1 v_1 w))
      (Runs.one_more {s = m} {u = u_1} {v = v_1 ++ w} {a = b} g ahead_1 allowed (runs_on others w a above k ahead))

  runs_of_suffixes : {w : List Lexeme} {n : Measured} → Suffixes begins join depth first suffix w n → Then first (SuffixRuns begins join depth suffix) w n
  runs_of_suffixes {n = n} (Suffixes.none {u = u} h) = (n, u, [], sym (append-nil u), h, Runs.no_run)
  runs_of_suffixes (Suffixes.one_more {u = u} {v = v} {m = m} {a = a} h above k ahead) =
      let r = runs_of_suffixes h in
      (r.0, r.1, r.2 ++ v, ap (λ z. z ++ v) r.3 ∙ append_assoc r.1 r.2 v, r.4, runs_on r.5 v a above k ahead)

  pub same_suffixes : Same (Then first (SuffixRuns begins join depth suffix)) (Suffixes begins join depth first suffix)
  same_suffixes = record {
    to = λ w n (m, u, v, e, h, runs). subst (λ z. Suffixes begins join depth first suffix z n) (sym e) (suffixes_on runs u (Suffixes.none h));
    back = λ w n h. runs_of_suffixes h;
  }

  abbrev pub OneSuffix : Measured → Phrase Measured
  OneSuffix m = Either (has_above depth m.height) begins (Convert (join m) suffix) (Give m)

  suffix_of : (w : List Lexeme) (n m : Measured) (u v : List Lexeme) → w ≡ u ++ v → first u m → OneSuffix m v n → Suffix begins join depth first suffix w n
  suffix_of w n m u v e h (inl (above, ahead, (a, k, g))) =
      subst (λ z. Suffix begins join depth first suffix z n) (sym e) (subst (Suffix begins join depth first suffix (u ++ v)) g (Suffix.one {u = u} {v = v} {m = m} {a = a} h above k ahead))
  suffix_of w n m u v e h (inr (f, g)) =
      subst (λ z. Suffix begins join depth first suffix z n) (sym (e ∙ ap (λ z. u ++ z) f ∙ append-nil u)) (subst (Suffix begins join depth first suffix u) g (Suffix.none h))

  of_suffix : {w : List Lexeme} {n : Measured} → Suffix begins join depth first suffix w n → Then first OneSuffix w n
  of_suffix {n = n} (Suffix.none {u = u} h) = (n, u, [], sym (append-nil u), h, inr (refl, refl))
  of_suffix (Suffix.one {u = u} {v = v} {m = m} {a = a} h above k ahead) = (m, u, v, refl, h, inl (above, ahead, (a, k, refl)))

  pub same_suffix : Same (Then first OneSuffix) (Suffix begins join depth first suffix)
  same_suffix = record { to = λ w n (m, u, v, e, h, k). suffix_of w n m u v e h k; back = λ w n h. of_suffix h }
