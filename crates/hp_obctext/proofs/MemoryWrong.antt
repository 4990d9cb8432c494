-- Where a text is refused, word by word.
use Rattle.std.proofs.Common.{◌≡◌, ◌≤◌, ℕ, zero, suc, Bool, true, false, not, ◌&&◌, ◌||◌, ◌==◌, List, [], ◌∷◌, ◌++◌, length, ◌⊎◌, inl, inr, if◌then◌else◌, Result, Ok, Err, refl, sym, ap, subst, ◌∙◌, append_assoc, append-nil, arith}
use Rattle.std.proofs.lemmas.Bool.Decides.{nat_tests}
use Rattle.hp_obctext.specs.MemoryTexts.{Ended, is_gap, IsWord, joined}
use Rattle.hp_obctext.specs.MemoryReading.{first_word, behind, taken_by, taken}
use Rattle.hp_obctext.specs.MemoryRefusals.{Texts, Begins, WrongWord, WrongGap, TooShort, WrongEnd, IsWrong}
use Rattle.hp_obctext.proofs.MemoryWords.{word_and_behind, is_first_word, behind_ends, next_joined}

-- texts that begin with a word that passes, and its gap; what stands behind may depend on the word
abbrev pub After : (List ℕ → Bool) → ℕ → (List ℕ → Texts) → Texts
After passes gap texts [] = ⊥
After passes gap texts (e ∷ es) = (passes e.0 ≡ true) × (e.1 ≡ gap) × texts e.0 es

-- which words begin those that pass, where they do not pass themselves
pub record GoesOn (passes on : List ℕ → Bool) : Type 0 where
  pub does : (w : List ℕ) → on w ≡ true → (cut : List ℕ) × (passes (w ++ cut) ≡ true)
  pub only : (w cut : List ℕ) → passes w ≡ false → on w ≡ false → passes (w ++ cut) ≡ true → ⊥
  pub empty : on [] ≡ true
  pub some : (w : List ℕ) × (passes w ≡ true)

-- each word that passes has a text behind it
abbrev pub Examples : (List ℕ → Texts) → Type 0
Examples texts = (w : List ℕ) → (es : List Ended) × texts w es

module _ (passes on : List ℕ → Bool) (goes : GoesOn passes on) (gap : ℕ) (texts : List ℕ → Texts) (examples : Examples texts) where
  abbrev Here : Texts
  Here = After passes gap texts

  whole : (w : List ℕ) → passes w ≡ true → (es : List Ended) × Here ((w, gap) ∷ es)
  whole w p = ((examples w).0, (p, refl, (examples w).1))

  short : (text w cut : List ℕ) → text ≡ w → IsWord w → passes (w ++ cut) ≡ true → IsWrong Here text []
  short text w cut e k p = inr (inr (inl (record { front = []; word = w; split = e; rest_is = refl; is_word = k; begun = (cut, gap, whole (w ++ cut) p) })))

  wrong_gap : (text w rest : List ℕ) (g : ℕ) → text ≡ w ++ g ∷ rest → IsWord w → is_gap g ≡ true → passes w ≡ true → (g ≡ gap → ⊥) → IsWrong Here text (g ∷ rest)
  wrong_gap text w rest g e k h p d = inr (inl (record {
    front = [];
    word = w;
    gap = g;
    behind = rest;
    split = e;
    rest_is = refl;
    is_word = k;
    ends = h;
    begun = (gap, whole w p);
    dead = λ b. d b.1.1;
  }))

  wrong_word : (text w rest : List ℕ) (g : ℕ) → text ≡ w ++ g ∷ rest → IsWord w → is_gap g ≡ true → passes w ≡ false → IsWrong Here text text
  wrong_word text w rest g e k h p = inl (record {
    front = [];
    word = w;
    gap = g;
    behind = rest;
    split = refl;
    rest_is = e;
    is_word = k;
    ends = h;
    begun = (let s = goes.some in let b = whole s.0 s.1 in ((s.0, gap) ∷ b.0, b.1));
    dead = λ other b. let q : true ≡ false = sym b.1.0 ∙ p in cc;
  })

  wrong_end : (text : List ℕ) → IsWord text → passes text ≡ false → on text ≡ false → IsWrong Here text text
  wrong_end text k p o = inr (inr (inr (record {
    front = [];
    split = refl;
    some = some text o;
    is_word = k;
    begun = (let s = goes.some in let b = whole s.0 s.1 in ((s.0, gap) ∷ b.0, b.1));
    dead = λ cut g b. goes.only text cut p o b.1.0;
  })))
    where
      some : (text : List ℕ) → on text ≡ false → 1 ≤ length text
      some [] o = let q : true ≡ false = sym goes.empty ∙ o in cc
      some (b ∷ text) o = omega arith

  -- a text whose first word, or its gap, is refused
  pub first_wrong : (text rest : List ℕ) → taken (passes (first_word text)) (on (first_word text)) gap text ≡ Err rest → IsWrong Here text rest
  first_wrong text rest = by (passes w) (on w) (behind text) refl refl refl
    where
      w : List ℕ
      w = first_word text

      err : (a b : List ℕ) → ◌≡◌ {A = Result (List ℕ) (List ℕ)} (Err a) (Err b) → a ≡ b
      err a b h = cc

      gaps : (g : ℕ) (z : List ℕ) → text ≡ w ++ g ∷ z → is_gap g ≡ true → passes w ≡ true → (d : Bool) → (g == gap) ≡ d → (if d then Ok z else Err (g ∷ z)) ≡ Err rest → IsWrong Here text rest
      gaps g z e k p true q h = absurd cc
      gaps g z e k p false q h = subst (IsWrong Here text) (err (g ∷ z) rest h) (wrong_gap text w z g e (is_first_word text) k p (λ s. differ s q))
        where
          differ : g ≡ gap → (g == gap) ≡ false → ⊥
          differ s q = grind (arith, nat_tests)

      by : (d o : Bool) (b : List ℕ) → passes w ≡ d → on w ≡ o → behind text ≡ b → taken_by d o gap text b ≡ Err rest → IsWrong Here text rest
      by true o [] p q e h =
          let all : text ≡ w = word_and_behind text ∙ ap (λ z. w ++ z) e ∙ append-nil w in
          subst (IsWrong Here text) (err [] rest h) (short text w [] all (is_first_word text) (ap passes (append-nil w) ∙ p))
      by true o (g ∷ z) p q e h = gaps g z (word_and_behind text ∙ ap (λ z. w ++ z) e) (behind_ends text g z e) p (g == gap) refl h
      by false true [] p q e h =
          let all : text ≡ w = word_and_behind text ∙ ap (λ z. w ++ z) e ∙ append-nil w in
          let d = goes.does w q in
          subst (IsWrong Here text) (err [] rest h) (short text w d.0 all (is_first_word text) d.1)
      by false false [] p q e h =
          let all : text ≡ w = word_and_behind text ∙ ap (λ z. w ++ z) e ∙ append-nil w in
          subst (IsWrong Here text) (err text rest h) (wrong_end text (subst IsWord (sym all) (is_first_word text)) (ap passes all ∙ p) (ap on all ∙ q))
      by false true (g ∷ z) p q e h = subst (IsWrong Here text) (err text rest h) (wrong_word text w z g (word_and_behind text ∙ ap (λ z. w ++ z) e) (is_first_word text) (behind_ends text g z e) p)
      by false false (g ∷ z) p q e h = subst (IsWrong Here text) (err text rest h) (wrong_word text w z g (word_and_behind text ∙ ap (λ z. w ++ z) e) (is_first_word text) (behind_ends text g z e) p)

-- what is taken is a word that fits, and its gap
pub first_right : (fits on : Bool) (gap : ℕ) (text rest : List ℕ) → taken fits on gap text ≡ Ok rest → (fits ≡ true) × (text ≡ first_word text ++ gap ∷ rest)
first_right fits on gap text rest = by fits on (behind text) refl
  where
    ok : (a b : List ℕ) → ◌≡◌ {A = Result (List ℕ) (List ℕ)} (Ok a) (Ok b) → a ≡ b
    ok a b h = cc

    gaps : (g : ℕ) (z : List ℕ) → behind text ≡ g ∷ z → (d : Bool) → (g == gap) ≡ d → (if d then Ok z else Err (g ∷ z)) ≡ Ok rest → text ≡ first_word text ++ gap ∷ rest
    gaps g z e true q h =
        let s : g ≡ gap = grind (arith, nat_tests) in
        word_and_behind text ∙ ap (λ t. first_word text ++ t) (e ∙ ap (λ b. b ∷ z) s ∙ ap (λ t. gap ∷ t) (ok z rest h))
    gaps g z e false q h = absurd cc

    by : (d o : Bool) (b : List ℕ) → behind text ≡ b → taken_by d o gap text b ≡ Ok rest → (d ≡ true) × (text ≡ first_word text ++ gap ∷ rest)
    by true o [] e h = absurd cc
    by true o (g ∷ z) e h = (refl, gaps g z e (g == gap) refl h)
    by false true [] e h = absurd cc
    by false false [] e h = absurd cc
    by false true (g ∷ z) e h = absurd cc
    by false false (g ∷ z) e h = absurd cc

-- ---- behind a word that fits

module _ (passes : List ℕ → Bool) (gap : ℕ) (texts : List ℕ → Texts) (w text whole : List ℕ) (fits : passes w ≡ true) (split : whole ≡ w ++ gap ∷ text) where
  behind_front : (front : List Ended) (x : List ℕ) → text ≡ joined front ++ x → whole ≡ joined ((w, gap) ∷ front) ++ x
  behind_front front x e = split ∙ ap (λ t. w ++ gap ∷ t) e ∙ sym (next_joined w gap front x)

  pub later_wrong : (rest : List ℕ) → IsWrong (texts w) text rest → IsWrong (After passes gap texts) whole rest
  later_wrong rest (inl r) = inl (record {
    front = (w, gap) ∷ r.front;
    word = r.word;
    gap = r.gap;
    behind = r.behind;
    split = behind_front r.front rest r.split;
    rest_is = r.rest_is;
    is_word = r.is_word;
    ends = r.ends;
    begun = (r.begun.0, (fits, refl, r.begun.1));
    dead = λ other b. r.dead other (b.0, b.1.2);
  })
  later_wrong rest (inr (inl r)) = inr (inl (record {
    front = (w, gap) ∷ r.front;
    word = r.word;
    gap = r.gap;
    behind = r.behind;
    split = behind_front r.front (r.word ++ rest) r.split;
    rest_is = r.rest_is;
    is_word = r.is_word;
    ends = r.ends;
    begun = (r.begun.0, (r.begun.1.0, (fits, refl, r.begun.1.1)));
    dead = λ b. r.dead (b.0, b.1.2);
  }))
  later_wrong rest (inr (inr (inl r))) = inr (inr (inl (record {
    front = (w, gap) ∷ r.front;
    word = r.word;
    split = behind_front r.front r.word r.split;
    rest_is = r.rest_is;
    is_word = r.is_word;
    begun = (r.begun.0, r.begun.1, (r.begun.2.0, (fits, refl, r.begun.2.1)));
  })))
  later_wrong rest (inr (inr (inr r))) = inr (inr (inr (record {
    front = (w, gap) ∷ r.front;
    split = behind_front r.front rest r.split;
    some = r.some;
    is_word = r.is_word;
    begun = (r.begun.0, (fits, refl, r.begun.1));
    dead = λ cut g b. r.dead cut g (b.0, b.1.2);
  })))

-- ---- the same texts

module _ (texts others : Texts) (to : (es : List Ended) → texts es → others es) (back : (es : List Ended) → others es → texts es) where
  begins_too : (front : List Ended) → Begins texts front → Begins others front
  begins_too front b = (b.0, to (front ++ b.0) b.1)

  begins_back : (front : List Ended) → Begins others front → Begins texts front
  begins_back front b = (b.0, back (front ++ b.0) b.1)

  pub wrong_too : (text rest : List ℕ) → IsWrong texts text rest → IsWrong others text rest
  wrong_too text rest (inl r) = inl (record {
    front = r.front;
    word = r.word;
    gap = r.gap;
    behind = r.behind;
    split = r.split;
    rest_is = r.rest_is;
    is_word = r.is_word;
    ends = r.ends;
    begun = begins_too r.front r.begun;
    dead = λ other b. r.dead other (begins_back (r.front ++ (r.word, other) ∷ []) b);
  })
  wrong_too text rest (inr (inl r)) = inr (inl (record {
    front = r.front;
    word = r.word;
    gap = r.gap;
    behind = r.behind;
    split = r.split;
    rest_is = r.rest_is;
    is_word = r.is_word;
    ends = r.ends;
    begun = (r.begun.0, begins_too (r.front ++ (r.word, r.begun.0) ∷ []) r.begun.1);
    dead = λ b. r.dead (begins_back (r.front ++ (r.word, r.gap) ∷ []) b);
  }))
  wrong_too text rest (inr (inr (inl r))) = inr (inr (inl (record {
    front = r.front;
    word = r.word;
    split = r.split;
    rest_is = r.rest_is;
    is_word = r.is_word;
    begun = (let b = r.begun in (b.0, b.1, begins_too (r.front ++ (r.word ++ b.0, b.1) ∷ []) b.2));
  })))
  wrong_too text rest (inr (inr (inr r))) = inr (inr (inr (record {
    front = r.front;
    split = r.split;
    some = r.some;
    is_word = r.is_word;
    begun = begins_too r.front r.begun;
    dead = λ cut g b. r.dead cut g (begins_back (r.front ++ (rest ++ cut, g) ∷ []) b);
  })))
