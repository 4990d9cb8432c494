-- What a reader takes, as a relation, and that it refuses exactly at the first piece with which nothing that it takes begins.
use Rattle.std.proofs.Common.{◌≡◌, Bool, true, false, [], ◌∷◌, ◌++◌, Option, None, Some, refl, sym, ap, subst, ◌∙◌, append_assoc, append-nil}
use Rattle.hp_cert.specs.Certtext.Outcomes.{Outcome, done, refused, ◌>>=◌}
use Rattle.hp_cert.specs.Certtext.Pieces.{Piece, Pieces}
use Rattle.hp_cert.specs.Certtext.Reading.{Reader, stop_at, one}
use Rattle.hp_cert.specs.Certtext.Refusals.{Start}

-- what is taken from the front of some pieces, and the pieces behind it
abbrev pub Takes : Type 0 → Type 1
Takes A = Pieces → A → Pieces → Type 0

-- The front is taken, whatever stands behind it.
pub record Whole {A : Type 0} (takes : Takes A) (us : Pieces) (a : A) : Type 0 where
  pub always : (y : Pieces) → takes (us ++ y) a y

pub record Split {A : Type 0} (takes : Takes A) (ts : Pieces) (a : A) (rest : Pieces) : Type 0 where
  pub us : Pieces
  pub split : ts ≡ us ++ rest
  pub whole : Whole takes us a

pub record Example {A : Type 0} (takes : Takes A) : Type 0 where
  pub us : Pieces
  pub value : A
  pub whole : Whole takes us value

-- some pieces in front of a refused one begin others; where none is refused, the last of them may be cut off
abbrev pub Begun : Pieces → Pieces → Pieces → Type 0
Begun front [] whole = Start front whole
Begun front (w ∷ behind) whole = (more : Pieces) × (whole ≡ front ++ more)

-- other pieces go on with the refused one too
abbrev pub Shares : Pieces → Pieces → Pieces → Type 0
Shares front [] ts = ts ≡ front
Shares front (w ∷ []) ts = Start (front ++ w ∷ []) ts
Shares front (w ∷ v ∷ behind) ts = (more : Pieces) × (ts ≡ front ++ w ∷ more)

pub record Halts {A : Type 0} (takes : Takes A) (ts rest : Pieces) : Type 0 where
  pub front : Pieces
  pub split : ts ≡ front ++ rest
  pub whole : Pieces
  pub value : A
  pub is_whole : Whole takes whole value
  pub begun : Begun front rest whole
  pub dead : (other : Pieces) (a : A) (y : Pieces) → takes other a y → Shares front rest other → ⊥

abbrev pub Course : {A : Type 0} → Takes A → Pieces → Outcome A → Type 0
Course takes ts (done a rest) = takes ts a rest
Course takes ts (refused rest) = Halts takes ts rest

pub record IsPhrase {A : Type 0} (read : Reader A) (takes : Takes A) : Type 0 where
  pub complete : (ts : Pieces) (a : A) (rest : Pieces) → takes ts a rest → read ts ≡ done a rest
  pub splits : (ts : Pieces) (a : A) (rest : Pieces) → takes ts a rest → Split takes ts a rest
  pub example : Example takes
  pub course : (ts : Pieces) → Course takes ts (read ts)

-- ---- pieces that begin others

pub start_behind : (us front : Pieces) (w : Piece) (ts : Pieces) → Start (us ++ (front ++ w ∷ [])) ts → (vs : Pieces) × (ts ≡ us ++ vs) × Start (front ++ w ∷ []) vs
start_behind [] front w ts h = (ts, refl, h)
start_behind (u ∷ []) [] w [] h = absurd h
start_behind (u ∷ []) [] w (t ∷ ts) h = (ts, ap (λ x. x ∷ ts) (sym h.0), h.1)
start_behind (u ∷ []) (x ∷ front) w [] h = absurd h
start_behind (u ∷ []) (x ∷ front) w (t ∷ ts) h = (ts, ap (λ x. x ∷ ts) (sym h.0), h.1)
start_behind (u ∷ v ∷ us) front w [] h = absurd h
start_behind (u ∷ v ∷ us) front w (t ∷ ts) h =
    let r = start_behind (v ∷ us) front w ts h.1 in
    (r.0, ap (λ x. x ∷ ts) (sym h.0) ∙ ap (λ x. u ∷ x) r.1, r.2)

pub start_more : (front whole more : Pieces) → Start front whole → Start front (whole ++ more)
start_more [] whole more h = tt
start_more (w ∷ []) [] more h = absurd h
start_more (w ∷ x ∷ ws) [] more h = absurd h
start_more (w ∷ []) (v ∷ whole) more h = h
start_more (w ∷ x ∷ ws) (v ∷ whole) more h = (h.0, start_more (x ∷ ws) whole more h.1)

pub start_self : (front : Pieces) → Start front front
start_self [] = tt
start_self (w ∷ []) = ([], sym (append-nil w))
start_self (w ∷ x ∷ ws) = (refl, start_self (x ∷ ws))

pub start_front : (us front whole : Pieces) → Start front whole → Start (us ++ front) (us ++ whole)
start_front [] front whole h = h
start_front (u ∷ []) [] whole h = ([], sym (append-nil u))
start_front (u ∷ []) (x ∷ front) whole h = (refl, h)
start_front (u ∷ v ∷ us) front whole h = (refl, start_front (v ∷ us) front whole h)

begun_more : (front rest whole more : Pieces) → Begun front rest whole → Begun front rest (whole ++ more)
begun_more front [] whole more h = start_more front whole more h
begun_more front (w ∷ behind) whole more h = (h.0 ++ more, ap (λ z. z ++ more) h.1 ∙ append_assoc front h.0 more)

begun_front : (us front rest whole : Pieces) → Begun front rest whole → Begun (us ++ front) rest (us ++ whole)
begun_front us front [] whole h = start_front us front whole h
begun_front us front (w ∷ behind) whole h = (h.0, ap (λ z. us ++ z) h.1 ∙ sym (append_assoc us front h.0))

shares_behind : (us front rest ts : Pieces) → Shares (us ++ front) rest ts → (vs : Pieces) × (ts ≡ us ++ vs) × Shares front rest vs
shares_behind us front [] ts h = (front, h, refl)
shares_behind us front (w ∷ []) ts h = start_behind us front w ts (subst (λ z. Start z ts) (append_assoc us front (w ∷ [])) h)
shares_behind us front (w ∷ v ∷ behind) ts h = (front ++ w ∷ h.0, h.1 ∙ append_assoc us front (w ∷ h.0), (h.0, refl))

-- ---- one piece

abbrev pub OneTakes : {A : Type 0} → (Piece → Option A) → Takes A
OneTakes of ts a rest = (w : Piece) × (of w ≡ Some a) × (ts ≡ w ∷ rest)

one_done : {A : Type 0} (on : Piece → Bool) (w : Piece) (ws : Pieces) (o : Option A) (a : A) → o ≡ Some a → elim o [ Some a ↦ done a ws | None ↦ refused (stop_at (on w) w ws) ] ≡ done a ws
one_done on w ws (Some b) a e = ap (λ o. elim o [ Some a ↦ done a ws | None ↦ refused (stop_at (on w) w ws) ]) e
one_done on w ws None a e = absurd cc

-- A piece that can go on does to one that is taken, and one that cannot does not.
pub record GoesOn {A : Type 0} (on : Piece → Bool) (of : Piece → Option A) : Type 0 where
  pub does : (w : Piece) → on w ≡ true → (cut : Piece) × (a : A) × (of (w ++ cut) ≡ Some a)
  pub only : (w cut : Piece) (a : A) → of w ≡ None → on w ≡ false → of (w ++ cut) ≡ Some a → ⊥
  pub some : Piece
  pub value : A
  pub is_some : of some ≡ Some value

module _ {A : Type 0} (on : Piece → Bool) (of : Piece → Option A) (goes : GoesOn on of) where
  whole_one : (w : Piece) (a : A) → of w ≡ Some a → Whole (OneTakes of) (w ∷ []) a
  whole_one w a e = record { always = λ y. (w, e, refl) }

  halts_empty : Halts (OneTakes of) [] []
  halts_empty = record {
    front = [];
    split = refl;
    whole = goes.some ∷ [];
    value = goes.value;
    is_whole = whole_one goes.some goes.value goes.is_some;
    begun = tt;
    dead = λ other a y h e. let p = h.2 in absurd cc;
  }

  halts_on : (w : Piece) → of w ≡ None → on w ≡ true → Halts (OneTakes of) (w ∷ []) []
  halts_on w none e =
      let d = goes.does w e in
      record {
        front = w ∷ [];
        split = refl;
        whole = (w ++ d.0) ∷ [];
        value = d.1;
        is_whole = whole_one (w ++ d.0) d.1 d.2;
        begun = (d.0, refl);
        dead = λ other a y h s. let p = h.1 in let q = h.2 in let same : h.0 ≡ w = cc in absurd (none_some none (sym (ap of same) ∙ p));
      }
    where
      none_some : {o : Option A} {a : A} → o ≡ None → o ≡ Some a → ⊥
      none_some p q = cc

  halts_at : (w : Piece) (behind : Pieces) → of w ≡ None → (behind ≡ [] → on w ≡ false) → Halts (OneTakes of) (w ∷ behind) (w ∷ behind)
  halts_at w behind none e = record {
    front = [];
    split = refl;
    whole = goes.some ∷ [];
    value = goes.value;
    is_whole = whole_one goes.some goes.value goes.is_some;
    begun = (goes.some ∷ [], refl);
    dead = dies behind e;
  }
    where
      dies : (behind : Pieces) → (behind ≡ [] → on w ≡ false) → (other : Pieces) (a : A) (y : Pieces) → OneTakes of other a y → Shares [] (w ∷ behind) other → ⊥
      dies [] e [] a y h s = s
      dies [] e (t ∷ other) a y h s =
          let p = h.1 in let q = h.2 in let same : h.0 ≡ t = cc in
          goes.only w s.0 a none (e refl) (sym (ap of (same ∙ s.1)) ∙ p)
      dies (v ∷ behind) e other a y h s = let p = h.1 in let q = h.2 in let r = s.1 in let same : h.0 ≡ w = cc in let o : of w ≡ Some a = sym (ap of same) ∙ p in cc

  one_course_by : (w : Piece) (ws : Pieces) (o : Option A) → of w ≡ o → Course (OneTakes of) (w ∷ ws) (elim o [ Some a ↦ done a ws | None ↦ refused (stop_at (on w) w ws) ])
  one_course_by w ws (Some a) e = (w, e, refl)
  one_course_by w (v ∷ ws) None e = halts_at w (v ∷ ws) e (λ z. absurd cc)
  one_course_by w [] None e = by (on w) refl
    where
      by : (d : Bool) → on w ≡ d → Course (OneTakes of) (w ∷ []) (refused (stop_at d w []))
      by true k = halts_on w e k
      by false k = halts_at w [] e (λ z. k)

  pub one_phrase : IsPhrase (one on of) (OneTakes of)
  one_phrase = record {
    complete = λ ts a rest h. ap (one on of) h.2 ∙ one_done on h.0 rest (of h.0) a h.1;
    splits = λ ts a rest h. record { us = h.0 ∷ []; split = h.2; whole = whole_one h.0 a h.1 };
    example = record { us = goes.some ∷ []; value = goes.value; whole = whole_one goes.some goes.value goes.is_some };
    course = course;
  }
    where
      course : (ts : Pieces) → Course (OneTakes of) ts (one on of ts)
      course [] = halts_empty
      course (w ∷ ws) = one_course_by w ws (of w) refl

-- ---- one behind the other

abbrev pub Then : {A B : Type 0} → Takes A → (A → Takes B) → Takes B
Then {A} {B} first second ts b rest = (a : A) × (mid : Pieces) × first ts a mid × second a mid b rest

abbrev pub Given : {A : Type 0} → A → Takes A
Given a ts b rest = (b ≡ a) × (ts ≡ rest)

pub given_phrase : {A : Type 0} (a : A) → IsPhrase (λ ws. done a ws) (Given a)
given_phrase a = record {
  complete = λ ts b rest h. let p = h.0 in let q = h.1 in cc;
  splits = λ ts b rest h. record { us = []; split = h.1; whole = record { always = λ y. (h.0, refl) } };
  example = record { us = []; value = a; whole = record { always = λ y. (refl, refl) } };
  course = λ ts. (refl, refl);
}

module _ {A B : Type 0} (first : Takes A) (second : A → Takes B) where
  whole_then : (us vs : Pieces) (a : A) (b : B) → Whole first us a → Whole (second a) vs b → Whole (Then first second) (us ++ vs) b
  whole_then us vs a b h k = record { always = λ y. (a, vs ++ y, subst (λ z. first z a (vs ++ y)) (sym (append_assoc us vs y)) (h.always (vs ++ y)), k.always y) }

  pub then_splits : ((ts : Pieces) (a : A) (rest : Pieces) → first ts a rest → Split first ts a rest) → ((a : A) (ts : Pieces) (b : B) (rest : Pieces) → second a ts b rest → Split (second a) ts b rest) →
      (ts : Pieces) (b : B) (rest : Pieces) → Then first second ts b rest → Split (Then first second) ts b rest
  then_splits p q ts b rest h =
      let s = p ts h.0 h.1 h.2 in
      let t = q h.0 h.1 b rest h.3 in
      record { us = s.us ++ t.us; split = s.split ∙ ap (λ z. s.us ++ z) t.split ∙ sym (append_assoc s.us t.us rest); whole = whole_then s.us t.us h.0 b s.whole t.whole }

  pub then_example : Example first → ((a : A) → Example (second a)) → Example (Then first second)
  then_example p q = let e = q p.value in record { us = p.us ++ e.us; value = e.value; whole = whole_then p.us e.us p.value e.value p.whole e.whole }

  module _ (read : Reader A) (phrase : IsPhrase read first) where
    -- where the second refuses, in front of which the first has taken a
    then_halts : (ts : Pieces) (a : A) (mid rest : Pieces) → first ts a mid → Halts (second a) mid rest → Halts (Then first second) ts rest
    then_halts ts a mid rest h k =
        let s = phrase.splits ts a mid h in
        record {
          front = s.us ++ k.front;
          split = s.split ∙ ap (λ z. s.us ++ z) k.split ∙ sym (append_assoc s.us k.front rest);
          whole = s.us ++ k.whole;
          value = k.value;
          is_whole = whole_then s.us k.whole a k.value s.whole k.is_whole;
          begun = begun_front s.us k.front rest k.whole k.begun;
          dead = λ other b y t shares.
              let r = shares_behind s.us k.front rest other shares in
              dies s.us s.whole k other b y t r.0 r.1 r.2;
        }
      where
        dies : (us : Pieces) → Whole first us a → (k : Halts (second a) mid rest) → (other : Pieces) (b : B) (y : Pieces) → Then first second other b y → (vs : Pieces) → other ≡ us ++ vs → Shares k.front rest vs → ⊥
        dies us w k other b y t vs e shares =
            let left = phrase.complete other t.0 t.1 t.2 in
            let right = phrase.complete other a vs (subst (λ z. first z a vs) (sym e) (w.always vs)) in
            let same_value : t.0 ≡ a = cc in
            let same_rest : t.1 ≡ vs = cc in
            k.dead vs b y (subst (λ z. second a z b y) same_rest (subst (λ z. second z t.1 b y) same_value t.3)) shares

    pub then_course : ((a : A) → Example (second a)) → (f : A × Pieces → Outcome B) (ts : Pieces) (o : Outcome A) → Course first ts o →
        ((a : A) (mid : Pieces) → o ≡ done a mid → Course (second a) mid (f (a, mid))) → Course (Then first second) ts (o >>= f)
    then_course ex f ts (refused rest) h k =
        let e = ex h.value in
        record {
          front = h.front;
          split = h.split;
          whole = h.whole ++ e.us;
          value = e.value;
          is_whole = whole_then h.whole e.us h.value e.value h.is_whole e.whole;
          begun = begun_more h.front rest h.whole e.us h.begun;
          dead = λ other b y t shares. h.dead other t.0 t.1 t.2 shares;
        }
    then_course ex f ts (done a mid) h k = by (f (a, mid)) (k a mid refl)
      where
        by : (o : Outcome B) → Course (second a) mid o → Course (Then first second) ts o
        by (done b rest) c = (a, mid, h, c)
        by (refused rest) c = then_halts ts a mid rest h c

pub then_phrase : {A B : Type 0} (first : Takes A) (second : A → Takes B) (read : Reader A) (f : A → Reader B) → IsPhrase read first → ((a : A) → IsPhrase (f a) (second a)) →
    IsPhrase (λ ws. read ws >>= λ r. f r.0 r.1) (Then first second)
then_phrase first second read f p q = record {
  complete = λ ts b rest h. ap (λ o. o >>= λ r. f r.0 r.1) (p.complete ts h.0 h.1 h.2) ∙ (q h.0).complete h.1 b rest h.3;
  splits = then_splits first second p.splits (λ a. (q a).splits);
  example = then_example first second p.example (λ a. (q a).example);
  course = λ ts. then_course first second read p (λ a. (q a).example) (λ r. f r.0 r.1) ts (read ts) (p.course ts) (λ a mid e. (q a).course mid);
}

-- ---- the same relation, said otherwise

module _ {A : Type 0} (left right : Takes A) (to : (ts : Pieces) (a : A) (rest : Pieces) → left ts a rest → right ts a rest) (back : (ts : Pieces) (a : A) (rest : Pieces) → right ts a rest → left ts a rest) where
  whole_alike : (us : Pieces) (a : A) → Whole left us a → Whole right us a
  whole_alike us a h = record { always = λ y. to (us ++ y) a y (h.always y) }

  pub course_alike : (ts : Pieces) (o : Outcome A) → Course left ts o → Course right ts o
  course_alike ts (done a rest) h = to ts a rest h
  course_alike ts (refused rest) h = record {
    front = h.front;
    split = h.split;
    whole = h.whole;
    value = h.value;
    is_whole = whole_alike h.whole h.value h.is_whole;
    begun = h.begun;
    dead = λ other a y t. h.dead other a y (back other a y t);
  }

  pub alike : (read : Reader A) → IsPhrase read left → IsPhrase read right
  alike read p = record {
    complete = λ ts a rest h. p.complete ts a rest (back ts a rest h);
    splits = λ ts a rest h. let s = p.splits ts a rest (back ts a rest h) in record { us = s.us; split = s.split; whole = whole_alike s.us a s.whole };
    example = let e = p.example in record { us = e.us; value = e.value; whole = whole_alike e.us e.value e.whole };
    course = λ ts. course_alike ts (read ts) (p.course ts);
  }
