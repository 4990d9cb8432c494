-- What holds of each reading of the notation: it reads what the relation has, stops at the first token that cannot be read, and
-- goes the same way without limits until a limit stops it.
use Rattle.std.proofs.Common.{◌≡◌, Bool, true, false, ◌||◌, ◌&&◌, List, [], ◌∷◌, ◌++◌, refl, sym, ap, subst, ◌∙◌, append_assoc}
use Rattle.hp_parser.specs.declared.fault.Fault.TheVariants.{Bad, Limit}
use Rattle.hp_parser.specs.Lexemes.{Lexeme, Kinds, is_ahead}
use Rattle.hp_parser.specs.Outcomes.{Outcome, done, refused, ◌>>=◌}
use Rattle.hp_parser.specs.Relation.{Phrase}
use Rattle.hp_parser.specs.Reading.{Reader, read_then}
use Rattle.hp_parser.specs.Programs.{Begins}

-- a reading and a relation within limits, and both without
pub record Way (A : Type 0) : Type 1 where
  pub read : Reader A
  pub free_read : Reader A
  pub phrase : Phrase A
  pub free : Phrase A

-- the same end, whatever stands behind the next token
abbrev pub Again : {A : Type 0} → Reader A → List Lexeme → List Lexeme → (List Lexeme → Outcome A) → Type 0
Again read u rest end = (x : Lexeme) (more other : List Lexeme) → rest ≡ x ∷ more → read (u ++ (x ∷ other)) ≡ end (x ∷ other)

abbrev pub Course : {A : Type 0} → Way A → List Lexeme → Outcome A → Type 0
Course w ts (done a rest) = (u : List Lexeme) × (ts ≡ u ++ rest) × w.phrase u a × Again w.read u rest (done a) × (w.free_read ts ≡ done a rest)
Course w ts (refused Bad rest) =
    (u : List Lexeme) × (ts ≡ u ++ rest) × Begins w.phrase u × Again w.read u rest (refused Bad) × (w.free_read ts ≡ refused Bad rest)
Course w ts (refused (Limit what) rest) =
    (u : List Lexeme) × (ts ≡ u ++ rest) × Begins w.phrase u × Again w.read u rest (refused (Limit what)) ×
    ((x : Lexeme) × (more : List Lexeme) × (rest ≡ x ∷ more) × Begins w.free (u ++ (x ∷ [])))

-- A reading reads what a relation has: `first` are the kinds of tokens that begin a phrase, `goes` those that may go on behind one.
pub record Reads (first goes : Kinds) (empty : Bool) {A : Type 0} (read : Reader A) (phrase : Phrase A) : Type 0 where
  pub complete : (u : List Lexeme) (a : A) (rest : List Lexeme) → phrase u a → is_ahead goes rest ≡ false → read (u ++ rest) ≡ done a rest
  pub first_is : (x : Lexeme) (u : List Lexeme) (a : A) → phrase (x ∷ u) a → first x.kind ≡ true
  pub not_empty : empty ≡ false → (a : A) → phrase [] a → ⊥

-- what holds without limits
pub record Free (first goes : Kinds) (empty : Bool) {A : Type 0} (read : Reader A) (phrase : Phrase A) : Type 0 where
  pub reads : Reads first goes empty read phrase
  pub begins : Begins phrase []
  pub may_be_empty : empty ≡ true → (a : A) × phrase [] a

-- every token of these kinds begins a phrase
abbrev pub Starts : {A : Type 0} → Kinds → Phrase A → Type 0
Starts first phrase = (x : Lexeme) → first x.kind ≡ true → Begins phrase (x ∷ [])

-- what holds within limits
pub record Within (first goes : Kinds) (empty : Bool) {A : Type 0} (w : Way A) : Type 0 where
  pub within : (u : List Lexeme) (a : A) → w.phrase u a → w.free u a
  pub reads : Reads first goes empty w.read w.phrase
  pub begins : Begins w.phrase []
  pub course : (ts : List Lexeme) → Course w ts (w.read ts)

-- ---- sets of tokens

abbrev pub union : Kinds → Kinds → Kinds
union p q k = p k || q k

abbrev pub Apart : Kinds → Kinds → Type 0
Apart p q = (k : _) → p k ≡ true → q k ≡ false

abbrev pub only_where : Bool → Kinds → Kinds
only_where true kinds = kinds
only_where false kinds = λ k. false

or_first : (a b : Bool) → (a || b) ≡ false → a ≡ false
or_first true b h = absurd cc
or_first false b h = refl

or_second : (a b : Bool) → (a || b) ≡ false → b ≡ false
or_second true b h = absurd cc
or_second false b h = h

pub not_first : (p q : Kinds) (ts : List Lexeme) → is_ahead (union p q) ts ≡ false → is_ahead p ts ≡ false
not_first p q [] h = refl
not_first p q (t ∷ ts) h = or_first (p t.kind) (q t.kind) h

pub not_second : (p q : Kinds) (ts : List Lexeme) → is_ahead (union p q) ts ≡ false → is_ahead q ts ≡ false
not_second p q [] h = refl
not_second p q (t ∷ ts) h = or_second (p t.kind) (q t.kind) h

-- ---- one phrase behind another, which may depend on what the first stands for

abbrev pub Then : {A B : Type 0} → Phrase A → (A → Phrase B) → Phrase B
Then first second w b = (a : _) × (u : List Lexeme) × (v : List Lexeme) × (w ≡ u ++ v) × first u a × second a v b

abbrev pub then_way : {A B : Type 0} → Way A → (A → Way B) → Way B
then_way w f = record {
  read = read_then w.read (λ a. (f a).read);
  free_read = read_then w.free_read (λ a. (f a).free_read);
  phrase = Then w.phrase (λ a. (f a).phrase);
  free = Then w.free (λ a. (f a).free);
}

-- how the first phrase ends in front of the second
stops_first : {A : Type 0} (first goes goes_first : Kinds) (empty : Bool) (read : Reader A) (phrase : Phrase A) → Reads first goes empty read phrase → Apart first goes_first →
    (v : List Lexeme) (b : A) (rest : List Lexeme) → phrase v b → is_ahead (union goes (only_where empty goes_first)) rest ≡ false → is_ahead goes_first (v ++ rest) ≡ false
stops_first first goes goes_first true read phrase laws apart [] b rest h stops = not_second goes goes_first rest stops
stops_first first goes goes_first false read phrase laws apart [] b rest h stops = absurd (laws.not_empty refl b h)
stops_first first goes goes_first empty read phrase laws apart (x ∷ v) b rest h stops = apart x.kind (laws.first_is x v b h)

-- what begins both phrases, and what may go on behind them
abbrev pub first_then : Kinds → Bool → Kinds → Kinds
first_then first_1 empty_1 first_2 = union first_1 (only_where empty_1 first_2)

abbrev pub goes_then : Kinds → Bool → Kinds → Kinds
goes_then goes_1 empty_2 goes_2 = union goes_2 (only_where empty_2 goes_1)

begins_first : {A : Type 0} (empty : Bool) (first_1 first_2 goes : Kinds) (read : Reader A) (phrase : Phrase A) → Reads first_1 goes empty read phrase →
    (x : Lexeme) (u : List Lexeme) (a : A) → phrase (x ∷ u) a → first_then first_1 empty first_2 x.kind ≡ true
begins_first empty first_1 first_2 goes read phrase laws x u a h = ap (λ b. b || only_where empty first_2 x.kind) (laws.first_is x u a h)

or_right : (a b : Bool) → b ≡ true → (a || b) ≡ true
or_right true b h = refl
or_right false b h = h

begins_second : {A : Type 0} (empty : Bool) (first_1 first_2 goes : Kinds) (read : Reader A) (phrase : Phrase A) → Reads first_1 goes empty read phrase →
    (x : Lexeme) (a : A) → phrase [] a → first_2 x.kind ≡ true → first_then first_1 empty first_2 x.kind ≡ true
begins_second true first_1 first_2 goes read phrase laws x a h k = or_right (first_1 x.kind) (first_2 x.kind) k
begins_second false first_1 first_2 goes read phrase laws x a h k = absurd (laws.not_empty refl a h)

module _ {A B : Type 0} (first_1 goes_1 first_2 goes_2 : Kinds) (empty_1 empty_2 : Bool)
    (read : Reader A) (phrase : Phrase A) (read_2 : A → Reader B) (phrase_2 : A → Phrase B)
    (one : Reads first_1 goes_1 empty_1 read phrase) (two : (a : A) → Reads first_2 goes_2 empty_2 (read_2 a) (phrase_2 a)) (apart : Apart first_2 goes_1) where
  then_complete : (w : List Lexeme) (b : B) (rest : List Lexeme) → Then phrase phrase_2 w b → is_ahead (goes_then goes_1 empty_2 goes_2) rest ≡ false →
      read_then read read_2 (w ++ rest) ≡ done b rest
  then_complete w b rest (a, u, v, e, h, k) stops =
      ap (λ z. read_then read read_2 (z ++ rest)) e
      ∙ ap (read_then read read_2) (append_assoc u v rest)
      ∙ ap (λ o. o >>= λ r. read_2 r.0 r.1) (one.complete u a (v ++ rest) h (stops_first first_2 goes_2 goes_1 empty_2 (read_2 a) (phrase_2 a) (two a) apart v b rest k stops))
      ∙ (two a).complete v b rest k (not_first goes_2 (only_where empty_2 goes_1) rest stops)

  then_first : (x : Lexeme) (w : List Lexeme) (b : B) (a : A) (u v : List Lexeme) → x ∷ w ≡ u ++ v → phrase u a → phrase_2 a v b → first_then first_1 empty_1 first_2 x.kind ≡ true
  then_first x w b a [] v e h k =
      begins_second empty_1 first_1 first_2 goes_1 read phrase one x a h ((two a).first_is x w b (subst (λ z. phrase_2 a z b) (sym e) k))
  then_first x w b a (y ∷ u) v e h k = let same : y ≡ x = cc in subst (λ (z : Lexeme). first_then first_1 empty_1 first_2 z.kind ≡ true) same (begins_first empty_1 first_1 first_2 goes_1 read phrase one y u a h)

  no_second : (a : A) (u v : List Lexeme) → [] ≡ u ++ v → (u ≡ []) × (v ≡ [])
  no_second a [] v e = (refl, sym e)
  no_second a (x ∷ u) v e = absurd cc

  then_empty : (e1 e2 : Bool) → empty_1 ≡ e1 → empty_2 ≡ e2 → (e1 && e2) ≡ false → (b : B) → Then phrase phrase_2 [] b → ⊥
  then_empty true true p q h b t = absurd cc
  then_empty true false p q h b (a, u, v, e, t, k) = (two a).not_empty q b (subst (λ z. phrase_2 a z b) (no_second a u v e).1 k)
  then_empty false e2 p q h b (a, u, v, e, t, k) = one.not_empty p a (subst (λ z. phrase z a) (no_second a u v e).0 t)

  pub then_reads : Reads (first_then first_1 empty_1 first_2) (goes_then goes_1 empty_2 goes_2) (empty_1 && empty_2) (read_then read read_2) (Then phrase phrase_2)
  then_reads = record {
    complete = then_complete;
    first_is = λ x w b (a, u, v, e, h, k). then_first x w b a u v e h k;
    not_empty = then_empty empty_1 empty_2 refl refl;
  }

-- a phrase that is begun, with another behind it
then_begins : {A B : Type 0} (phrase : Phrase A) (phrase_2 : A → Phrase B) (u : List Lexeme) → ((a : A) → Begins (phrase_2 a) []) → Begins phrase u → Begins (Then phrase phrase_2) u
then_begins phrase phrase_2 u two (v, a, h) =
    let b = two a in
    (v ++ b.0, b.1, (a, u ++ v, b.0, sym (append_assoc u v b.0), h, b.2))

module _ {A B : Type 0} (first_1 goes_1 first_2 goes_2 : Kinds) (empty_1 empty_2 : Bool) (read : Reader A) (phrase : Phrase A) (read_2 : A → Reader B) (phrase_2 : A → Phrase B)
    (one : Free first_1 goes_1 empty_1 read phrase) (two : (a : A) → Free first_2 goes_2 empty_2 (read_2 a) (phrase_2 a)) (apart : Apart first_2 goes_1) where
  then_may : (e1 e2 : Bool) → empty_1 ≡ e1 → empty_2 ≡ e2 → (e1 && e2) ≡ true → (b : B) × Then phrase phrase_2 [] b
  then_may true true p q h =
      let a = one.may_be_empty p in
      let b = (two a.0).may_be_empty q in
      (b.0, (a.0, [], [], refl, a.1, b.1))
  then_may true false p q h = absurd cc
  then_may false e2 p q h = absurd cc

  pub then_free : Free (first_then first_1 empty_1 first_2) (goes_then goes_1 empty_2 goes_2) (empty_1 && empty_2) (read_then read read_2) (Then phrase phrase_2)
  then_free = record {
    reads = then_reads first_1 goes_1 first_2 goes_2 empty_1 empty_2 read phrase read_2 phrase_2 one.reads (λ a. (two a).reads) apart;
    begins = then_begins phrase phrase_2 [] (λ a. (two a).begins) one.begins;
    may_be_empty = then_may empty_1 empty_2 refl refl;
  }

-- every token that begins the first begins both
pub then_starts : {A B : Type 0} (first_1 : Kinds) (phrase : Phrase A) (phrase_2 : A → Phrase B) → ((a : A) → Begins (phrase_2 a) []) → Starts first_1 phrase → Starts first_1 (Then phrase phrase_2)
then_starts first_1 phrase phrase_2 two one x h = then_begins phrase phrase_2 (x ∷ []) two (one x h)

-- the same end with more behind what was read
again_on : {A : Type 0} (read : Reader A) (u v rest rest_2 : List Lexeme) (end : List Lexeme → Outcome A) → Again read u rest end → rest ≡ v ++ rest_2 →
    (x : Lexeme) (more other : List Lexeme) → rest_2 ≡ x ∷ more → read (u ++ (v ++ (x ∷ other))) ≡ end (v ++ (x ∷ other))
again_on read u [] rest rest_2 end again e x more other f = again x more other (e ∙ f)
again_on read u (y ∷ v) rest rest_2 end again e x more other f = again y (v ++ rest_2) (v ++ (x ∷ other)) e

module _ {A B : Type 0} (w : Way A) (f : A → Way B) (two : (a : A) → Begins (f a).phrase []) (two_free : (a : A) → Begins (f a).free [])
    (within : (u : List Lexeme) (a : A) → w.phrase u a → w.free u a) where
  abbrev pub on : Outcome A → Outcome B
  on o = o >>= λ r. (f r.0).read r.1

  abbrev free_on : Outcome A → Outcome B
  free_on o = o >>= λ r. (f r.0).free_read r.1

  module _ (ts u : List Lexeme) (a : A) (rest : List Lexeme) (e : ts ≡ u ++ rest) (h : w.phrase u a) (again : Again w.read u rest (done a)) (same : w.free_read ts ≡ done a rest) where
    parts : (v rest_2 : List Lexeme) → rest ≡ v ++ rest_2 → ts ≡ (u ++ v) ++ rest_2
    parts v rest_2 k = e ∙ ap (λ z. u ++ z) k ∙ sym (append_assoc u v rest_2)

    again_both : (v rest_2 : List Lexeme) (end : List Lexeme → Outcome B) → rest ≡ v ++ rest_2 → Again (f a).read v rest_2 end → Again (then_way w f).read (u ++ v) rest_2 end
    again_both v rest_2 end k again_2 x more other p =
        ap (then_way w f).read (append_assoc u v (x ∷ other))
        ∙ ap on (again_on w.read u v rest rest_2 (done a) again k x more other p)
        ∙ again_2 x more other p

    second_course : (o : Outcome B) → (f a).read rest ≡ o → Course (f a) rest o → Course (then_way w f) ts o
    second_course (done b rest_2) p (v, k, g, again_2, same_2) =
        (u ++ v, parts v rest_2 k, (a, u, v, refl, h, g), again_both v rest_2 (done b) k again_2, ap free_on same ∙ same_2)
    second_course (refused Bad rest_2) p (v, k, (v_2, b, g), again_2, same_2) =
        (u ++ v, parts v rest_2 k, (v_2, b, (a, u, v ++ v_2, append_assoc u v v_2, h, g)), again_both v rest_2 (refused Bad) k again_2, ap free_on same ∙ same_2)
    second_course (refused (Limit what) rest_2) p (v, k, (v_2, b, g), again_2, (x, more, q, (v_3, c, i))) =
        let joint : ((u ++ v) ++ (x ∷ [])) ++ v_3 ≡ u ++ ((v ++ (x ∷ [])) ++ v_3) =
        ap (λ z. z ++ v_3) (append_assoc u v (x ∷ [])) ∙ append_assoc u (v ++ (x ∷ [])) v_3 in (
          u ++ v,
          parts v rest_2 k,
          (v_2, b, (a, u, v ++ v_2, append_assoc u v v_2, h, g)),
          again_both v rest_2 (refused (Limit what)) k again_2,
          (x, more, q, (v_3, c, (a, u, (v ++ (x ∷ [])) ++ v_3, joint, within u a h, i))),
        )

  pub then_course : (ts : List Lexeme) (o : Outcome A) → Course w ts o → ((a : A) (rest : List Lexeme) → o ≡ done a rest → Course (f a) rest ((f a).read rest)) → Course (then_way w f) ts (on o)
  then_course ts (done a rest) (u, e, h, again, same) next = second_course ts u a rest e h again same ((f a).read rest) refl (next a rest refl)
  then_course ts (refused Bad rest) (u, e, started, again, same) next =
      (u, e, then_begins w.phrase (λ a. (f a).phrase) u two started, (λ x more other p. ap on (again x more other p)), ap free_on same)
  then_course ts (refused (Limit what) rest) (u, e, started, again, (x, more, q, long)) next = (
    u,
    e,
    then_begins w.phrase (λ a. (f a).phrase) u two started,
    (λ x more other p. ap on (again x more other p)),
    (x, more, q, then_begins w.free (λ a. (f a).free) (u ++ (x ∷ [])) two_free long),
  )

module _ {A B : Type 0} (first_1 goes_1 first_2 goes_2 : Kinds) (empty_1 empty_2 : Bool) (w : Way A) (f : A → Way B)
    (one : Within first_1 goes_1 empty_1 w) (two : (a : A) → Within first_2 goes_2 empty_2 (f a)) (two_free : (a : A) → Begins (f a).free []) (apart : Apart first_2 goes_1) where
  pub then_within : Within (first_then first_1 empty_1 first_2) (goes_then goes_1 empty_2 goes_2) (empty_1 && empty_2) (then_way w f)
  then_within = record {
    within = λ ts b (a, u, v, e, h, k). (a, u, v, e, one.within u a h, (two a).within v b k);
    reads = then_reads first_1 goes_1 first_2 goes_2 empty_1 empty_2 w.read w.phrase (λ a. (f a).read) (λ a. (f a).phrase) one.reads (λ a. (two a).reads) apart;
    begins = then_begins w.phrase (λ a. (f a).phrase) [] (λ a. (two a).begins) one.begins;
    course = λ ts. then_course w f (λ a. (two a).begins) two_free one.within ts (w.read ts) (one.course ts) (λ a rest e. (two a).course rest);
  }
