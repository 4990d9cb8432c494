-- Nothing, one token, and one phrase or another.
use Rattle.std.proofs.Common.{◌≡◌, Bool, true, false, ◌||◌, if◌then◌else◌, List, [], ◌∷◌, ◌++◌, ◌⊎◌, inl, inr, refl, sym, ap, subst, ◌∙◌}
use Rattle.hp_base.specs.declared.limit.What.{What}
use Rattle.hp_parser.specs.declared.fault.Fault.TheVariants.{Bad, Limit}
use Rattle.hp_parser.specs.Lexemes.{Lexeme, Kinds, is_ahead}
use Rattle.hp_parser.specs.Outcomes.{Outcome, done, refused}
use Rattle.hp_parser.specs.Relation.{Phrase, One}
use Rattle.hp_parser.specs.Reading.{Reader, read_token, read_either}
use Rattle.hp_parser.specs.Programs.{Begins}
use Rattle.hp_parser.proofs.Ways.{Way, Again, Course, Reads, Free, Starts, Within, union, Apart, only_where, not_first, not_second}

-- ---- the same course for another way

-- The first tokens, if any, are of the same kinds.
abbrev pub Like : List Lexeme → List Lexeme → Type 0
Like ts zs = (kinds : Kinds) → is_ahead kinds zs ≡ is_ahead kinds ts

like_behind : (u : List Lexeme) (x : Lexeme) (more other : List Lexeme) → Like (u ++ (x ∷ more)) (u ++ (x ∷ other))
like_behind [] x more other kinds = refl
like_behind (y ∷ u) x more other kinds = refl

module _ {A : Type 0} (w way : Way A) (ts : List Lexeme) where
  pub record Follows : Type 0 where
    pub reads : (zs : List Lexeme) → Like ts zs → way.read zs ≡ w.read zs
    pub free_reads : way.free_read ts ≡ w.free_read ts
    pub ends : (u rest : List Lexeme) (a : A) → ts ≡ u ++ rest → w.phrase u a → way.phrase u a
    pub begun : (u rest : List Lexeme) → ts ≡ u ++ rest → Begins w.phrase u → Begins way.phrase u
    pub free_begun : (u : List Lexeme) (x : Lexeme) (more : List Lexeme) → ts ≡ u ++ (x ∷ more) → Begins w.free (u ++ (x ∷ [])) → Begins way.free (u ++ (x ∷ []))

  module _ (f : Follows) where
    again_for : (u rest : List Lexeme) (end : List Lexeme → Outcome A) → ts ≡ u ++ rest → Again w.read u rest end → Again way.read u rest end
    again_for u rest end e again x more other p =
        let here : ts ≡ u ++ (x ∷ more) = e ∙ ap (λ z. u ++ z) p in
        f.reads (u ++ (x ∷ other)) (λ kinds. like_behind u x more other kinds ∙ sym (ap (is_ahead kinds) here)) ∙ again x more other p

    pub course_for : (o : Outcome A) → Course w ts o → Course way ts o
    course_for (done a rest) (u, e, h, again, same) = (u, e, f.ends u rest a e h, again_for u rest (done a) e again, f.free_reads ∙ same)
    course_for (refused Bad rest) (u, e, started, again, same) = (u, e, f.begun u rest e started, again_for u rest (refused Bad) e again, f.free_reads ∙ same)
    course_for (refused (Limit what) rest) (u, e, started, again, (x, more, p, long)) =
        (u, e, f.begun u rest e started, again_for u rest (refused (Limit what)) e again, (x, more, p, f.free_begun u x more (e ∙ ap (λ z. u ++ z) p) long))

-- ---- nothing

abbrev pub nothing : Kinds
nothing k = false

abbrev pub Give : {A : Type 0} → A → Phrase A
Give a u b = (u ≡ []) × (a ≡ b)

abbrev pub give_way : {A : Type 0} → A → Way A
give_way a = record { read = done a; free_read = done a; phrase = Give a; free = Give a }

pub give_reads : {A : Type 0} (a : A) → Reads nothing nothing true (done a) (Give a)
give_reads a = record {
  complete = λ u b rest (e, f) stops. ap (λ z. done a (z ++ rest)) e ∙ ap (λ z. done z rest) f;
  first_is = λ x u b (e, f). absurd cc;
  not_empty = λ h b t. absurd cc;
}

pub give_free : {A : Type 0} (a : A) → Free nothing nothing true (done a) (Give a)
give_free a = record { reads = give_reads a; begins = ([], a, (refl, refl)); may_be_empty = λ h. (a, (refl, refl)) }

pub give_within : {A : Type 0} (a : A) → Within nothing nothing true (give_way a)
give_within a = record {
  within = λ u b h. h;
  reads = give_reads a;
  begins = ([], a, (refl, refl));
  course = λ ts. ([], refl, (refl, refl), (λ x more other p. refl), refl);
}

pub none_starts : {A : Type 0} (phrase : Phrase A) → Starts nothing phrase
none_starts phrase x h = absurd cc

-- ---- one token

abbrev pub token_way : Kinds → Way Lexeme
token_way kinds = record { read = read_token kinds; free_read = read_token kinds; phrase = One kinds; free = One kinds }

module _ (kinds : Kinds) where
  pub token_reads : Reads kinds nothing false (read_token kinds) (One kinds)
  token_reads = record {
    complete = λ u t rest (e, h) stops. ap (λ z. read_token kinds (z ++ rest)) e ∙ ap (λ d. if d then done t rest else refused Bad (t ∷ rest)) h;
    first_is = λ x u t (e, h). let same : t ≡ x = cc in subst (λ (z : Lexeme). kinds z.kind ≡ true) same h;
    not_empty = λ h t (e, k). absurd cc;
  }

  pub token_starts : Starts kinds (One kinds)
  token_starts x h = ([], x, (refl, h))

  token_course_by : (t : Lexeme) (ts : List Lexeme) (d : Bool) → kinds t.kind ≡ d → Begins (One kinds) [] →
      Course (token_way kinds) (t ∷ ts) (if d then done t ts else refused Bad (t ∷ ts))
  token_course_by t ts true h b =
      (t ∷ [], refl, (refl, h), (λ x more other p. ap (λ d. if d then done t (x ∷ other) else refused Bad (t ∷ x ∷ other)) h), ap (λ d. if d then done t ts else refused Bad (t ∷ ts)) h)
  token_course_by t ts false h b = (
    [],
    refl,
    b,
    (λ x more other p. let same : t ≡ x = cc in ap (λ d. if d then done x other else refused Bad (x ∷ other)) (subst (λ (z : Lexeme). kinds z.kind ≡ false) same h)),
    ap (λ d. if d then done t ts else refused Bad (t ∷ ts)) h,
  )

  token_course : Begins (One kinds) [] → (ts : List Lexeme) → Course (token_way kinds) ts (read_token kinds ts)
  token_course b [] = ([], refl, b, (λ x more other p. absurd cc), refl)
  token_course b (t ∷ ts) = token_course_by t ts (kinds t.kind) refl b

  module _ (some : (t : Lexeme) × (kinds t.kind ≡ true)) where
    token_begins : Begins (One kinds) []
    token_begins = (some.0 ∷ [], some.0, (refl, some.1))

    pub token_free : Free kinds nothing false (read_token kinds) (One kinds)
    token_free = record { reads = token_reads; begins = token_begins; may_be_empty = λ h. absurd cc }

    pub token_within : Within kinds nothing false (token_way kinds)
    token_within = record { within = λ u a h. h; reads = token_reads; begins = token_begins; course = token_course token_begins }

-- ---- one phrase, where there is room, or another

abbrev pub Either : {A : Type 0} → Bool → Kinds → Phrase A → Phrase A → Phrase A
Either room begins first second u a = ((room ≡ true) × (is_ahead begins u ≡ true) × first u a) ⊎ second u a

abbrev pub either_way : {A : Type 0} → What → Bool → Kinds → Way A → Way A → Way A
either_way what room begins p q = record {
  read = read_either what room begins p.read q.read;
  free_read = read_either what true begins p.free_read q.free_read;
  phrase = Either room begins p.phrase q.phrase;
  free = Either true begins p.free q.free;
}

abbrev pub goes_either : Kinds → Kinds → Kinds → Bool → Kinds
goes_either begins goes_1 goes_2 empty_2 = union (union goes_1 goes_2) (only_where empty_2 begins)

still_ahead : (begins : Kinds) (u rest : List Lexeme) → is_ahead begins u ≡ true → is_ahead begins (u ++ rest) ≡ true
still_ahead begins [] rest h = absurd cc
still_ahead begins (x ∷ u) rest h = h

module _ {A : Type 0} (what : What) (room : Bool) (begins first_1 goes_1 first_2 goes_2 : Kinds) (empty_2 : Bool)
    (read_1 : Reader A) (phrase_1 : Phrase A) (read_2 : Reader A) (phrase_2 : Phrase A)
    (one : room ≡ true → Reads first_1 goes_1 false read_1 phrase_1) (two : Reads first_2 goes_2 empty_2 read_2 phrase_2) (apart : Apart first_2 begins) where
  abbrev either_read : Reader A
  either_read = read_either what room begins read_1 read_2

  taken : (ts : List Lexeme) → is_ahead begins ts ≡ true → room ≡ true → either_read ts ≡ read_1 ts
  taken ts h k = ap (λ d. if d then (if room then read_1 ts else refused (Limit what) ts) else read_2 ts) h ∙ ap (λ d. if d then read_1 ts else refused (Limit what) ts) k

  passed : (ts : List Lexeme) → is_ahead begins ts ≡ false → either_read ts ≡ read_2 ts
  passed ts h = ap (λ d. if d then (if room then read_1 ts else refused (Limit what) ts) else read_2 ts) h

  not_ahead : (e : Bool) → empty_2 ≡ e → (u : List Lexeme) (a : A) (rest : List Lexeme) → phrase_2 u a → is_ahead (only_where empty_2 begins) rest ≡ false → is_ahead begins (u ++ rest) ≡ false
  not_ahead e k (x ∷ u) a rest h stops = apart x.kind (two.first_is x u a h)
  not_ahead true k [] a rest h stops = subst (λ b. is_ahead (only_where b begins) rest ≡ false) k stops
  not_ahead false k [] a rest h stops = absurd (two.not_empty k a h)

  either_complete : (u : List Lexeme) (a : A) (rest : List Lexeme) → Either room begins phrase_1 phrase_2 u a → is_ahead (goes_either begins goes_1 goes_2 empty_2) rest ≡ false →
      either_read (u ++ rest) ≡ done a rest
  either_complete u a rest (inl (k, b, h)) stops =
      taken (u ++ rest) (still_ahead begins u rest b) k
      ∙ (one k).complete u a rest h (not_first goes_1 goes_2 rest (not_first (union goes_1 goes_2) (only_where empty_2 begins) rest stops))
  either_complete u a rest (inr h) stops =
      passed (u ++ rest) (not_ahead empty_2 refl u a rest h (not_second (union goes_1 goes_2) (only_where empty_2 begins) rest stops))
      ∙ two.complete u a rest h (not_second goes_1 goes_2 rest (not_first (union goes_1 goes_2) (only_where empty_2 begins) rest stops))

  either_first : (x : Lexeme) (u : List Lexeme) (a : A) → Either room begins phrase_1 phrase_2 (x ∷ u) a → union begins first_2 x.kind ≡ true
  either_first x u a (inl (k, b, h)) = ap (λ d. d || first_2 x.kind) b
  either_first x u a (inr h) = or_true (begins x.kind) (first_2 x.kind) (two.first_is x u a h) where
    or_true : (c d : Bool) → d ≡ true → (c || d) ≡ true
    or_true true d h = refl
    or_true false d h = h

  either_not_empty : empty_2 ≡ false → (a : A) → Either room begins phrase_1 phrase_2 [] a → ⊥
  either_not_empty e a (inl (k, b, h)) = absurd cc
  either_not_empty e a (inr h) = two.not_empty e a h

  pub either_reads : Reads (union begins first_2) (goes_either begins goes_1 goes_2 empty_2) empty_2 either_read (Either room begins phrase_1 phrase_2)
  either_reads = record { complete = either_complete; first_is = either_first; not_empty = either_not_empty }

abbrev pub Inside : Kinds → Kinds → Type 0
Inside p q = (k : _) → p k ≡ true → q k ≡ true

module _ {A : Type 0} (what : What) (begins first_1 goes_1 first_2 goes_2 : Kinds) (empty_2 : Bool)
    (read_1 : Reader A) (phrase_1 : Phrase A) (read_2 : Reader A) (phrase_2 : Phrase A)
    (one : Free first_1 goes_1 false read_1 phrase_1) (two : Free first_2 goes_2 empty_2 read_2 phrase_2) (apart : Apart first_2 begins) where
  pub either_free : Free (union begins first_2) (goes_either begins goes_1 goes_2 empty_2) empty_2 (read_either what true begins read_1 read_2) (Either true begins phrase_1 phrase_2)
  either_free = record {
    reads = either_reads what true begins first_1 goes_1 first_2 goes_2 empty_2 read_1 phrase_1 read_2 phrase_2 (λ h. one.reads) two.reads apart;
    begins = (two.begins.0, two.begins.1, inr two.begins.2);
    may_be_empty = λ e. let a = two.may_be_empty e in (a.0, inr a.1);
  }

pub either_starts : {A : Type 0} (begins first_1 first_2 : Kinds) (phrase_1 phrase_2 : Phrase A) → Inside begins first_1 → Starts first_1 phrase_1 → Starts first_2 phrase_2 →
    Starts (union begins first_2) (Either true begins phrase_1 phrase_2)
either_starts begins first_1 first_2 phrase_1 phrase_2 inside one two x h = by (begins x.kind) refl h where
  by : (d : Bool) → begins x.kind ≡ d → (d || first_2 x.kind) ≡ true → Begins (Either true begins phrase_1 phrase_2) (x ∷ [])
  by true e h = let b = one x (inside x.kind e) in (b.0, b.1, inl (refl, e, b.2))
  by false e h = let b = two x h in (b.0, b.1, inr b.2)

module _ {A : Type 0} (what : What) (room : Bool) (begins first_1 goes_1 first_2 goes_2 : Kinds) (empty_2 : Bool) (p q : Way A)
    (one : room ≡ true → Within first_1 goes_1 false p) (two : Within first_2 goes_2 empty_2 q) (starts : Starts begins p.free) (apart : Apart first_2 begins) where
  abbrev whole_way : Way A
  whole_way = either_way what room begins p q

  -- a part of what is ahead that is not empty begins as all of it
  ahead_part : (d : Bool) (u rest ts : List Lexeme) → ts ≡ u ++ rest → is_ahead begins ts ≡ d → (u ≡ []) ⊎ (is_ahead begins u ≡ d)
  ahead_part d [] rest ts e h = inl refl
  ahead_part d (x ∷ u) rest ts e h = inr (sym (ap (is_ahead begins) e) ∙ h)

  first_begun : (ts u rest : List Lexeme) → ts ≡ u ++ rest → is_ahead begins ts ≡ true → room ≡ true → Begins p.phrase u → Begins whole_way.phrase u
  first_begun ts [] rest e h k started = (two.begins.0, two.begins.1, inr two.begins.2)
  first_begun ts (x ∷ u) rest e h k (v, a, g) = (v, a, inl (k, sym (ap (is_ahead begins) e) ∙ h, g))

  first_ends : (ts u rest : List Lexeme) (a : A) → ts ≡ u ++ rest → is_ahead begins ts ≡ true → room ≡ true → p.phrase u a → whole_way.phrase u a
  first_ends ts [] rest a e h k g = absurd ((one k).reads.not_empty refl a g)
  first_ends ts (x ∷ u) rest a e h k g = inl (k, sym (ap (is_ahead begins) e) ∙ h, g)

  first_free : (ts u : List Lexeme) (x : Lexeme) (more : List Lexeme) → ts ≡ u ++ (x ∷ more) → is_ahead begins ts ≡ true → Begins p.free (u ++ (x ∷ [])) → Begins whole_way.free (u ++ (x ∷ []))
  first_free ts [] x more e h (v, a, g) = (v, a, inl (refl, sym (ap (is_ahead begins) e) ∙ h, g))
  first_free ts (y ∷ u) x more e h (v, a, g) = (v, a, inl (refl, sym (ap (is_ahead begins) e) ∙ h, g))

  read_first : (zs : List Lexeme) → is_ahead begins zs ≡ true → room ≡ true → whole_way.read zs ≡ p.read zs
  read_first zs h k = ap (λ d. if d then (if room then p.read zs else refused (Limit what) zs) else q.read zs) h ∙ ap (λ d. if d then p.read zs else refused (Limit what) zs) k

  read_second : (zs : List Lexeme) → is_ahead begins zs ≡ false → whole_way.read zs ≡ q.read zs
  read_second zs h = ap (λ d. if d then (if room then p.read zs else refused (Limit what) zs) else q.read zs) h

  either_course : (d r : Bool) (ts : List Lexeme) → is_ahead begins ts ≡ d → room ≡ r → Course whole_way ts (if d then (if r then p.read ts else refused (Limit what) ts) else q.read ts)
  either_course true true ts h k = course_for p whole_way ts (record {
    reads = λ zs like. read_first zs (like begins ∙ h) k;
    free_reads = ap (λ d. if d then p.free_read ts else q.free_read ts) h;
    ends = λ u rest a e g. first_ends ts u rest a e h k g;
    begun = λ u rest e started. first_begun ts u rest e h k started;
    free_begun = λ u x more e long. first_free ts u x more e h long;
  }) (p.read ts) ((one k).course ts)
  either_course true false [] h k = absurd cc
  either_course true false (t ∷ ts) h k = (
    [],
    refl,
    (two.begins.0, two.begins.1, inr two.begins.2),
    (λ x more other e.
        let same : t ≡ x = cc in
        let here : begins x.kind ≡ true = subst (λ (z : Lexeme). begins z.kind ≡ true) same h in
        ap (λ d. if d then (if room then p.read (x ∷ other) else refused (Limit what) (x ∷ other)) else q.read (x ∷ other)) here ∙ ap (λ d. if d then p.read (x ∷ other) else refused (Limit what) (x ∷ other)) k),
    (t, ts, refl, (let b = starts t h in (b.0, b.1, inl (refl, h, b.2)))),
  )
  either_course false r ts h k = course_for q whole_way ts (record {
    reads = λ zs like. read_second zs (like begins ∙ h);
    free_reads = ap (λ d. if d then p.free_read ts else q.free_read ts) h;
    ends = λ u rest a e g. inr g;
    begun = λ u rest e (v, a, g). (v, a, inr g);
    free_begun = λ u x more e (v, a, g). (v, a, inr g);
  }) (q.read ts) (two.course ts)

  module _ (within_first : (u : List Lexeme) (a : A) → room ≡ true → p.phrase u a → p.free u a) where
    widened : (u : List Lexeme) (a : A) → whole_way.phrase u a → whole_way.free u a
    widened u a (inl (k, b, h)) = inl (refl, b, within_first u a k h)
    widened u a (inr h) = inr (two.within u a h)

  pub either_within_limits : Within (union begins first_2) (goes_either begins goes_1 goes_2 empty_2) empty_2 whole_way
  either_within_limits = record {
    within = widened (λ u a k. (one k).within u a);
    reads = either_reads what room begins first_1 goes_1 first_2 goes_2 empty_2 p.read p.phrase q.read q.phrase (λ k. (one k).reads) two.reads apart;
    begins = (two.begins.0, two.begins.1, inr two.begins.2);
    course = λ ts. either_course (is_ahead begins ts) room ts refl refl;
  }
