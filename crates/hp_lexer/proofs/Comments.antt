-- Where a comment ends, by counting the open ones.
use Rattle.std.proofs.Common.{◌≡◌, ◌<◌, ◌≤◌, ℕ, zero, suc, ◌+◌, ◌-◌, ◌==◌, Bool, true, false, cond, ◌&&◌, List, [], ◌∷◌, ◌++◌, length, drop, get_or, Option, None, Some, refl, sym, ap, ◌∙◌, subst, arith, add-one}
use Rattle.std.proofs.lemmas.Bool.{and_parts, eqb-true}
use Rattle.std.proofs.lemmas.List.{append-nil, append_assoc, append_cancel_right}
use Rattle.hp_lexer.specs.Bytes.{begins_comment, begins_end}
use Rattle.hp_lexer.specs.Lexing.{Inside}
use Rattle.hp_lexer.specs.Reading.{HasRoom, comment_end, mark_of, place_behind, next_place, along}
use Rattle.hp_lexer.specs.declared.gap.Mark.{Mark}
use Rattle.hp_lexer.specs.declared.gap.Mark.TheVariants.{Opens, Closes, Plain}
use Rattle.hp_lexer.specs.declared.place.Place.{Place}
use Rattle.hp_lexer.proofs.Pairs.{same_parts}
use Rattle.hp_lexer.proofs.Places.{place_push, place_along}

-- ---- marks

opens_by : (d e : Bool) → cond d Opens (cond e Closes Plain) ≡ Opens → d ≡ true
opens_by true e h = refl
opens_by false true h = cc
opens_by false false h = cc

closes_by : (d e : Bool) → cond d Opens (cond e Closes Plain) ≡ Closes → e ≡ true
closes_by true e h = cc
closes_by false true h = refl
closes_by false false h = cc

plain_by : (d e : Bool) → cond d Opens (cond e Closes Plain) ≡ Plain → (d ≡ false) × (e ≡ false)
plain_by true e h = cc
plain_by false true h = cc
plain_by false false h = (refl, refl)

module _ (b c : ℕ) where
  opens : mark_of b c ≡ Opens → (b ≡ 40) × (c ≡ 42)
  opens h = let p = and_parts (b == 40) (c == 42) (opens_by (b == 40 && c == 42) (b == 42 && c == 41) h) in (eqb-true b 40 p.0, eqb-true c 42 p.1)

  closes : mark_of b c ≡ Closes → (b ≡ 42) × (c ≡ 41)
  closes h = let p = and_parts (b == 42) (c == 41) (closes_by (b == 40 && c == 42) (b == 42 && c == 41) h) in (eqb-true b 42 p.0, eqb-true c 41 p.1)

  plain : mark_of b c ≡ Plain → ((b == 40 && c == 42) ≡ false) × ((b == 42 && c == 41) ≡ false)
  plain h = plain_by (b == 40 && c == 42) (b == 42 && c == 41) h

  is_plain : (b == 40 && c == 42) ≡ false → (b == 42 && c == 41) ≡ false → mark_of b c ≡ Plain
  is_plain h k = ap (λ d. cond d Opens (cond (b == 42 && c == 41) Closes Plain)) h ∙ ap (λ e. cond e Closes Plain) k

-- ---- what is read as a comment is one

-- bytes that bring so many open comments to their ends
abbrev pub Insides : ℕ → List ℕ → Type 0
Insides zero w = w ≡ []
Insides (suc n) w = (inner : List ℕ) × (rest : List ℕ) × (w ≡ inner ++ rest) × Inside inner × Insides n rest

pub record Found (n : ℕ) (text : List ℕ) (p : Place) (rest : List ℕ) (q : Place) : Type 0 where
  pub w : List ℕ
  pub insides : Insides n w
  pub text_is : text ≡ w ++ rest
  pub places : (front : List ℕ) → p ≡ place_behind front → q ≡ place_behind (front ++ w)

-- such bytes begin with some byte
head : {w : List ℕ} → Inside w → (b : ℕ) × (rest : List ℕ) × (w ≡ b ∷ rest)
head Inside.ends = (42, 41 ∷ [], refl)
head (Inside.byte {rest = rest} b e f i) = (b, rest, refl)
head (Inside.nested {inner = inner} {rest = rest} i j) = (40, 42 ∷ (inner ++ rest), refl)

mark_places : (v w front : List ℕ) (p q : Place) → along p 2 ≡ place_behind (front ++ v) → ((f : List ℕ) → along p 2 ≡ place_behind f → q ≡ place_behind (f ++ w)) → q ≡ place_behind (front ++ (v ++ w))
mark_places v w front p q e h = h (front ++ v) e ∙ ap place_behind (append_assoc front v w)

found_opens : (n : ℕ) (text : List ℕ) (p : Place) (rest : List ℕ) (q : Place) → Found (suc (suc n)) text (along p 2) rest q → Found (suc n) (40 ∷ 42 ∷ text) p rest q
found_opens n text p rest q f =
    let one = f.insides in
    let two = one.4 in
    record {
      w = 40 ∷ 42 ∷ f.w;
      insides = (
        40 ∷ 42 ∷ (one.0 ++ two.0),
        two.1,
        ap (λ z. 40 ∷ 42 ∷ z) (one.2 ∙ ap (λ z. one.0 ++ z) two.2 ∙ sym (append_assoc one.0 two.0 two.1)),
        Inside.nested one.3 two.3,
        two.4,
      );
      text_is = ap (λ z. 40 ∷ 42 ∷ z) f.text_is;
      places = λ front e. mark_places (40 ∷ 42 ∷ []) f.w front p q (ap (λ z. along z 2) e ∙ sym (place_along (40 ∷ 42 ∷ []) front refl)) f.places;
    }

found_closes : (n : ℕ) (text : List ℕ) (p : Place) (rest : List ℕ) (q : Place) → Found n text (along p 2) rest q → Found (suc n) (42 ∷ 41 ∷ text) p rest q
found_closes n text p rest q f = record {
  w = 42 ∷ 41 ∷ f.w;
  insides = (42 ∷ 41 ∷ [], f.w, refl, Inside.ends, f.insides);
  text_is = ap (λ z. 42 ∷ 41 ∷ z) f.text_is;
  places = λ front e. mark_places (42 ∷ 41 ∷ []) f.w front p q (ap (λ z. along z 2) e ∙ sym (place_along (42 ∷ 41 ∷ []) front refl)) f.places;
}

same_head : (b c d : ℕ) (s t : List ℕ) → c ∷ s ≡ d ∷ t → c ≡ d
same_head b c d s t h = cc

found_plain : (n b c : ℕ) (text : List ℕ) (p : Place) (rest : List ℕ) (q : Place) → (b == 40 && c == 42) ≡ false → (b == 42 && c == 41) ≡ false →
    Found (suc n) (c ∷ text) (next_place p b) rest q → Found (suc n) (b ∷ c ∷ text) p rest q
found_plain n b c text p rest q no_open no_close f =
    let one = f.insides in
    let h = head one.3 in
    let c-is : c ≡ h.0 = same_head b c h.0 text ((h.1 ++ one.1) ++ rest) (f.text_is ∙ ap (λ z. z ++ rest) (one.2 ∙ ap (λ z. z ++ one.1) h.2)) in
    record {
      w = b ∷ f.w;
      insides = (
        b ∷ one.0,
        one.1,
        ap (λ z. b ∷ z) one.2,
        Inside.byte b (ap (λ z. begins_comment (b ∷ z)) h.2 ∙ ap (λ z. b == 40 && z == 42) (sym c-is) ∙ no_open)
            (ap (λ z. begins_end (b ∷ z)) h.2 ∙ ap (λ z. b == 42 && z == 41) (sym c-is) ∙ no_close) one.3,
        one.4,
      );
      text_is = ap (λ z. b ∷ z) f.text_is;
      places = λ front e. f.places (front ++ b ∷ []) (ap (λ z. next_place z b) e ∙ sym (place_push front b)) ∙ ap place_behind (append_assoc front (b ∷ []) f.w);
    }

module _ (n b c : ℕ) (text : List ℕ) (p : Place) (rest : List ℕ) (q : Place) where
  step : Mark → Option (List ℕ × Place)
  step m = elim m [ Opens ↦ comment_end (suc (suc n)) text (along p 2) | Closes ↦ comment_end n text (along p 2) | Plain ↦ comment_end (suc n) (c ∷ text) (next_place p b) ]

  found_by : (m : Mark) → mark_of b c ≡ m → step m ≡ Some (rest, q) →
      (comment_end (suc (suc n)) text (along p 2) ≡ Some (rest, q) → Found (suc (suc n)) text (along p 2) rest q) →
      (comment_end n text (along p 2) ≡ Some (rest, q) → Found n text (along p 2) rest q) →
      (comment_end (suc n) (c ∷ text) (next_place p b) ≡ Some (rest, q) → Found (suc n) (c ∷ text) (next_place p b) rest q) →
      Found (suc n) (b ∷ c ∷ text) p rest q
  unfolding step
  found_by Opens e h f g k =
      let bc = opens b c e in
      subst (λ z. Found (suc n) (z ∷ c ∷ text) p rest q) (sym bc.0) (subst (λ z. Found (suc n) (40 ∷ z ∷ text) p rest q) (sym bc.1) (found_opens n text p rest q (f h)))
  found_by Closes e h f g k =
      let bc = closes b c e in
      subst (λ z. Found (suc n) (z ∷ c ∷ text) p rest q) (sym bc.0) (subst (λ z. Found (suc n) (42 ∷ z ∷ text) p rest q) (sym bc.1) (found_closes n text p rest q (g h)))
  found_by Plain e h f g k = let d = plain b c e in found_plain n b c text p rest q d.0 d.1 (k h)

no_some : {rest : List ℕ} {q : Place} → ◌≡◌ {A = Option (List ℕ × Place)} None (Some (rest, q)) → ⊥
no_some h = cc

found_now : (text : List ℕ) (p : Place) (rest : List ℕ) (q : Place) → ◌≡◌ {A = Option (List ℕ × Place)} (Some (text, p)) (Some (rest, q)) → Found 0 text p rest q
found_now text p rest q h =
    let same = same_parts text rest p q h in
    record { w = []; insides = refl; text_is = same.0; places = λ front e. sym same.1 ∙ e ∙ ap place_behind (sym (append-nil front)) }

-- what a reader finds behind the ends of the comments
pub found : (n : ℕ) (text : List ℕ) (p : Place) (rest : List ℕ) (q : Place) → comment_end n text p ≡ Some (rest, q) → Found n text p rest q
unfolding step
found zero text p rest q h = found_now text p rest q h
found (suc n) [] p rest q h = absurd (no_some h)
found (suc n) (b ∷ []) p rest q h = absurd (no_some h)
found (suc n) (b ∷ c ∷ text) p rest q h =
    found_by n b c text p rest q (mark_of b c) refl h (λ k. found (suc (suc n)) text (along p 2) rest q k) (λ k. found n text (along p 2) rest q k)
    (λ k. found (suc n) (c ∷ text) (next_place p b) rest q k)

-- ---- a comment is read to its end

plain_step : (n b c : ℕ) (text : List ℕ) (p : Place) → (b == 40 && c == 42) ≡ false → (b == 42 && c == 41) ≡ false →
    comment_end (suc n) (b ∷ c ∷ text) p ≡ comment_end (suc n) (c ∷ text) (next_place p b)
unfolding step
plain_step n b c text p h k = ap (step n b c text p [] p) (is_plain b c h k)

plain_at : (n b : ℕ) (w : List ℕ) (p : Place) → (c : ℕ) × (rest : List ℕ) × (w ≡ c ∷ rest) → begins_comment (b ∷ w) ≡ false → begins_end (b ∷ w) ≡ false →
    comment_end (suc n) (b ∷ w) p ≡ comment_end (suc n) w (next_place p b)
plain_at n b w p h e f =
    ap (λ z. comment_end (suc n) (b ∷ z) p) h.2
    ∙ plain_step n b h.0 h.1 p (ap (λ z. begins_comment (b ∷ z)) (sym h.2) ∙ e) (ap (λ z. begins_end (b ∷ z)) (sym h.2) ∙ f)
    ∙ ap (λ z. comment_end (suc n) z (next_place p b)) (sym h.2)

longer_head : (w more : List ℕ) → (b : ℕ) × (rest : List ℕ) × (w ≡ b ∷ rest) → (b : ℕ) × (rest : List ℕ) × (w ++ more ≡ b ∷ rest)
longer_head w more h = (h.0, h.1 ++ more, ap (λ z. z ++ more) h.2)

begins_same : (f : List ℕ → Bool) (b : ℕ) (w more : List ℕ) → (c : ℕ) × (rest : List ℕ) × (w ≡ c ∷ rest) → ((c : ℕ) (s t : List ℕ) → f (b ∷ c ∷ s) ≡ f (b ∷ c ∷ t)) → f (b ∷ (w ++ more)) ≡ f (b ∷ w)
begins_same f b w more h k =
    ap (λ z. f (b ∷ (z ++ more))) h.2 ∙ k h.0 (h.1 ++ more) h.1 ∙ ap (λ z. f (b ∷ z)) (sym h.2)

pub read_on : {w : List ℕ} → Inside w → (n : ℕ) (rest : List ℕ) (p : Place) → (q : Place) × (comment_end (suc n) (w ++ rest) p ≡ comment_end n rest q)
read_on Inside.ends n rest p = (along p 2, refl)
read_on (Inside.byte {rest = w} b e f i) n rest p =
    let h = head i in
    let more = read_on i n rest (next_place p b) in (
      more.0,
      plain_at n b (w ++ rest) p (longer_head w rest h) (begins_same begins_comment b w rest h (λ c s t. refl) ∙ e) (begins_same begins_end b w rest h (λ c s t. refl) ∙ f) ∙ more.1,
    )
read_on (Inside.nested {inner = inner} {rest = w} i j) n rest p =
    let first = read_on i (suc n) (w ++ rest) (along p 2) in
    let second = read_on j n rest first.0 in
    (second.0, ap (λ z. comment_end (suc (suc n)) z (along p 2)) (append_assoc inner w rest) ∙ first.1 ∙ second.1)

somewhere : Place
somewhere = record { line = 1; col = 1; offset = 0 }

-- no comment begins another
pub one_end : {v w : List ℕ} (s t : List ℕ) → Inside v → Inside w → v ++ s ≡ w ++ t → (v ≡ w) × (s ≡ t)
one_end {v} {w} s t i j h =
    let a = read_on i 0 s somewhere in
    let b = read_on j 0 t somewhere in
    let both = same_parts s t a.0 b.0 (sym a.1 ∙ ap (λ z. comment_end 1 z somewhere) h ∙ b.1) in
    let same = both.0 in
    (append_cancel_right v w t (ap (λ z. v ++ z) (sym same) ∙ h), same)

-- ---- the turns of the loop that counts

-- a turn goes on to another rest of the text, that ends as the one before it
pub record Turn (depth : ℕ) (rest : List ℕ) (place : Place) (depth' : ℕ) (rest' : List ℕ) (place' : Place) : Type 0 where
  pub same : comment_end depth' rest' place' ≡ comment_end depth rest place
  pub room : HasRoom place' (length rest')
  pub shorter : length rest' < length rest
  pub depth_within : depth' + length rest' ≤ depth + length rest

room_along : (place : Place) (n m : ℕ) → HasRoom place n → m + 2 ≤ n → HasRoom (along place 2) m
room_along place n m h l = record { line = omega arith; col = omega arith; offset = omega arith }

room_next_by : (d : Bool) (place : Place) (b n : ℕ) → (b == 10) ≡ d → HasRoom place (suc n) → HasRoom (next_place place b) n
room_next_by true place b n e h =
    subst (λ p. HasRoom p n) (sym (ap (λ d. cond d (record { line = place.line + 1; col = 1; offset = place.offset + 1 }) (record { line = place.line; col = place.col + 1; offset = place.offset + 1 })) e))
    (record { line = omega arith; col = omega arith; offset = omega arith })
room_next_by false place b n e h =
    subst (λ p. HasRoom p n) (sym (ap (λ d. cond d (record { line = place.line + 1; col = 1; offset = place.offset + 1 }) (record { line = place.line; col = place.col + 1; offset = place.offset + 1 })) e))
    (record { line = omega arith; col = omega arith; offset = omega arith })

pub room_next : (place : Place) (b n : ℕ) → HasRoom place (suc n) → HasRoom (next_place place b) n
room_next place b n h = room_next_by (b == 10) place b n refl h

less_one : (n : ℕ) → suc n - 1 ≡ n
less_one n = omega arith

module _ (n b c : ℕ) (text : List ℕ) (place : Place) (room : HasRoom place (length (b ∷ c ∷ text))) where
  turns_opens : mark_of b c ≡ Opens → Turn (suc n) (b ∷ c ∷ text) place (suc n + 1) text (along place 2)
  unfolding step
  turns_opens h = record {
    same = ap (λ m. comment_end m text (along place 2)) (add-one (suc n)) ∙ sym (ap (step n b c text place [] place) h);
    room = room_along place (length (b ∷ c ∷ text)) (length text) room (omega arith);
    shorter = omega arith;
    depth_within = omega arith;
  }

  turns_closes : mark_of b c ≡ Closes → Turn (suc n) (b ∷ c ∷ text) place (suc n - 1) text (along place 2)
  unfolding step
  turns_closes h = record {
    same = ap (λ m. comment_end m text (along place 2)) (less_one n) ∙ sym (ap (step n b c text place [] place) h);
    room = room_along place (length (b ∷ c ∷ text)) (length text) room (omega arith);
    shorter = omega arith;
    depth_within = omega arith;
  }

  turns_plain : mark_of b c ≡ Plain → Turn (suc n) (b ∷ c ∷ text) place (suc n) (c ∷ text) (next_place place b)
  unfolding step
  turns_plain h = record {
    same = sym (ap (step n b c text place [] place) h);
    room = room_next place b (length (c ∷ text)) room;
    shorter = omega arith;
    depth_within = omega arith;
  }

module _ (place place' : Place) (depth' : ℕ) (rest' : List ℕ) where
  pub turn_opens : (depth : ℕ) (rest : List ℕ) → 0 < depth → 2 ≤ length rest → HasRoom place (length rest) → mark_of (get_or rest 0 0) (get_or rest 1 0) ≡ Opens →
      depth' ≡ depth + 1 → rest' ≡ drop 2 rest → place' ≡ along place 2 → Turn depth rest place depth' rest' place'
  turn_opens zero rest some long room h e f g = absurd (omega arith)
  turn_opens (suc n) [] some long room h e f g = absurd (omega arith)
  turn_opens (suc n) (b ∷ []) some long room h e f g = absurd (omega arith)
  turn_opens (suc n) (b ∷ c ∷ text) some long room h e f g =
      subst (λ m. Turn (suc n) (b ∷ c ∷ text) place m rest' place') (sym e) (subst (λ r. Turn (suc n) (b ∷ c ∷ text) place (suc n + 1) r place') (sym f)
      (subst (λ p. Turn (suc n) (b ∷ c ∷ text) place (suc n + 1) text p) (sym g) (turns_opens n b c text place room h)))

  pub turn_closes : (depth : ℕ) (rest : List ℕ) → 0 < depth → 2 ≤ length rest → HasRoom place (length rest) → mark_of (get_or rest 0 0) (get_or rest 1 0) ≡ Closes →
      depth' ≡ depth - 1 → rest' ≡ drop 2 rest → place' ≡ along place 2 → Turn depth rest place depth' rest' place'
  turn_closes zero rest some long room h e f g = absurd (omega arith)
  turn_closes (suc n) [] some long room h e f g = absurd (omega arith)
  turn_closes (suc n) (b ∷ []) some long room h e f g = absurd (omega arith)
  turn_closes (suc n) (b ∷ c ∷ text) some long room h e f g =
      subst (λ m. Turn (suc n) (b ∷ c ∷ text) place m rest' place') (sym e) (subst (λ r. Turn (suc n) (b ∷ c ∷ text) place (suc n - 1) r place') (sym f)
      (subst (λ p. Turn (suc n) (b ∷ c ∷ text) place (suc n - 1) text p) (sym g) (turns_closes n b c text place room h)))

  pub turn_plain : (depth : ℕ) (rest : List ℕ) → 0 < depth → 2 ≤ length rest → HasRoom place (length rest) → mark_of (get_or rest 0 0) (get_or rest 1 0) ≡ Plain →
      depth' ≡ depth → rest' ≡ drop 1 rest → place' ≡ next_place place (get_or rest 0 0) → Turn depth rest place depth' rest' place'
  turn_plain zero rest some long room h e f g = absurd (omega arith)
  turn_plain (suc n) [] some long room h e f g = absurd (omega arith)
  turn_plain (suc n) (b ∷ []) some long room h e f g = absurd (omega arith)
  turn_plain (suc n) (b ∷ c ∷ text) some long room h e f g =
      subst (λ m. Turn (suc n) (b ∷ c ∷ text) place m rest' place') (sym e) (subst (λ r. Turn (suc n) (b ∷ c ∷ text) place (suc n) r place') (sym f)
      (subst (λ p. Turn (suc n) (b ∷ c ∷ text) place (suc n) (c ∷ text) p) (sym g) (turns_plain n b c text place room h)))
