-- A text says one checkpoint, or is refused at one place.
use Rattle.std.proofs.Common.{◌≡◌, ◌≤◌, ◌+◌, ℕ, zero, suc, Bool, true, false, List, [], ◌∷◌, ◌++◌, length, drop, ◌⊎◌, inl, inr, refl, sym, ap, subst, ◌∙◌, append_assoc, append-nil, arith}
use Rattle.std.specs.Prelude.{codes}
use Rattle.std.proofs.lemmas.List.{length-append}
use Rattle.hp_base.specs.declared.span.Span.{Span}
use Rattle.hp_obctext.specs.MemoryTexts.{Ended, newline, is_gap, IsWord, joined, is_value, AreValues, value_lines, heading, checkpoint, IsCheckpointOf, Says}
use Rattle.hp_obctext.specs.MemoryRefusals.{Texts, Begins, WrongWord, WrongGap, TooShort, WrongEnd, IsWrong, IsCheckpoint, IsNoCheckpoint, size_at}
use Rattle.hp_obctext.specs.Places.{span_behind}
use Rattle.hp_obctext.proofs.MemoryWords.{AreEnded, front_ended, back_ended, Cuts, same, left, right, cuts, same_word, no_end, next_joined}
use Rattle.hp_obctext.proofs.MemorySpelling.{name_is_word, value_is_word}

-- ---- the words of a checkpoint

lines_ended : (ws : List (List ℕ)) → AreValues ws → AreEnded (value_lines ws)
lines_ended [] h = (refl, refl, tt)
lines_ended (w ∷ ws) h = (value_is_word w h.0, refl, lines_ended ws h.1)

pub checkpoint_ended : (es : List Ended) → IsCheckpoint es → AreEnded es
checkpoint_ended es (name, ws, c) = subst AreEnded (sym c.words) (refl, refl, (refl, refl, (refl, refl, (name_is_word name c.node, refl, lines_ended ws c.values))))

abbrev first_word_of : List Ended → List ℕ
first_word_of [] = []
first_word_of (e ∷ es) = e.0

-- no more lines stand behind the last one
no_longer : (ws vs : List (List ℕ)) (e : Ended) (es : List Ended) → AreValues ws → AreValues vs → value_lines ws ++ e ∷ es ≡ value_lines vs → ⊥
no_longer [] [] e es h k p = let q : e ∷ es ≡ [] = ap (drop 1) p in cc
no_longer [] (v ∷ vs) e es h k p = let w : codes "end" ≡ v = ap first_word_of p in let q : is_value (codes "end") ≡ true = ap is_value w ∙ k.0 in cc
no_longer (w ∷ ws) [] e es h k p = let v : codes "end" ≡ w = sym (ap first_word_of p) in let q : is_value (codes "end") ≡ true = ap is_value v ∙ h.0 in cc
no_longer (w ∷ ws) (v ∷ vs) e es h k p = no_longer ws vs e es h.1 k.1 (ap (drop 1) p)

pub whole_alone : (es : List Ended) (e : Ended) (more : List Ended) → IsCheckpoint es → IsCheckpoint (es ++ e ∷ more) → ⊥
whole_alone es e more (name, ws, c) (other, vs, d) =
    no_longer ws vs e more c.values d.values (ap (drop 4) (ap (λ z. z ++ e ∷ more) (sym c.words) ∙ d.words))

-- ---- where a text is refused

module _ (texts : Texts) (text rest : List ℕ) where
  abbrev front_of : IsWrong texts text rest → List Ended
  front_of (inl r) = r.front
  front_of (inr (inl r)) = r.front
  front_of (inr (inr (inl r))) = r.front
  front_of (inr (inr (inr r))) = r.front

  abbrev tail_of : IsWrong texts text rest → List ℕ
  tail_of (inl r) = rest
  tail_of (inr (inl r)) = r.word ++ rest
  tail_of (inr (inr (inl r))) = r.word
  tail_of (inr (inr (inr r))) = rest

  split_of : (r : IsWrong texts text rest) → text ≡ joined (front_of r) ++ tail_of r
  split_of (inl r) = r.split
  split_of (inr (inl r)) = r.split
  split_of (inr (inr (inl r))) = r.split
  split_of (inr (inr (inr r))) = r.split

  fewer : (front more : List Ended) → Begins texts (front ++ more) → Begins texts front
  fewer front more b = (more ++ b.0, subst texts (append_assoc front more b.0) b.1)

  begun_of : (r : IsWrong texts text rest) → Begins texts (front_of r)
  begun_of (inl r) = r.begun
  begun_of (inr (inl r)) = fewer r.front ((r.word, r.begun.0) ∷ []) r.begun.1
  begun_of (inr (inr (inl r))) = let b = r.begun in fewer r.front ((r.word ++ b.0, b.1) ∷ []) b.2
  begun_of (inr (inr (inr r))) = r.begun

  -- with the next word and what ends it, no text is begun
  passed : (r : IsWrong texts text rest) (w : List ℕ) (g : ℕ) (y : List ℕ) → IsWord w → is_gap g ≡ true → tail_of r ≡ w ++ g ∷ y → Begins texts (front_of r ++ (w, g) ∷ []) → ⊥
  passed (inl r) w g y h k e b =
      let s = same_word r.word w r.gap g r.behind y r.is_word h r.ends k (sym r.rest_is ∙ e) in
      r.dead g (subst (λ v. Begins texts (r.front ++ (v, g) ∷ [])) (sym s.0) b)
  passed (inr (inl r)) w g y h k e b =
      let s = same_word r.word w r.gap g r.behind y r.is_word h r.ends k (ap (λ z. r.word ++ z) (sym r.rest_is) ∙ e) in
      r.dead (subst (λ v. Begins texts (r.front ++ (v, r.gap) ∷ [])) (sym s.0) (subst (λ v. Begins texts (r.front ++ (w, v) ∷ [])) (sym s.1) b))
  passed (inr (inr (inl r))) w g y h k e b = no_end r.word w g y r.is_word h k e
  passed (inr (inr (inr r))) w g y h k e b = no_end rest w g y r.is_word h k e

nothing : (w : List ℕ) (g : ℕ) (y : List ℕ) → [] ≡ w ++ g ∷ y → ⊥
nothing [] g y e = cc
nothing (b ∷ w) g y e = cc

-- the next of some words
next_ended : (f : List Ended) (e : Ended) (es : List Ended) → AreEnded (f ++ e ∷ es) → IsWord e.0 × (is_gap e.1 ≡ true)
next_ended f e es h = let b = back_ended f (e ∷ es) h in (b.0, b.1)

next_begun : (texts : Texts) (f : List Ended) (e : Ended) (es more : List Ended) → texts ((f ++ e ∷ es) ++ more) → Begins texts (f ++ e ∷ [])
next_begun texts f e es more b = (es ++ more, subst texts (append_assoc f (e ∷ es) more ∙ sym (append_assoc f (e ∷ []) (es ++ more))) b)

ended_front : (f : List Ended) → Begins IsCheckpoint f → AreEnded f
ended_front f b = front_ended f b.0 (checkpoint_ended (f ++ b.0) b.1)

-- a checkpoint is not refused
pub not_refused : (text rest : List ℕ) (es : List Ended) → IsWrong IsCheckpoint text rest → IsCheckpoint es → text ≡ joined es → ⊥
not_refused text rest es r c e = by (cuts f es t [] (ended_front f b) (checkpoint_ended es c) (sym (split_of IsCheckpoint text rest r) ∙ e ∙ sym (append-nil (joined es))))
  where
    f : List Ended
    f = front_of IsCheckpoint text rest r

    t : List ℕ
    t = tail_of IsCheckpoint text rest r

    b : Begins IsCheckpoint f
    b = begun_of IsCheckpoint text rest r

    ends : (r : IsWrong IsCheckpoint text rest) → front_of IsCheckpoint text rest r ≡ es → tail_of IsCheckpoint text rest r ≡ [] → ⊥
    ends (inl r) p q = nothing r.word r.gap r.behind (sym q ∙ r.rest_is)
    ends (inr (inl r)) p q = nothing r.word r.gap r.behind (sym q ∙ ap (λ z. r.word ++ z) r.rest_is)
    ends (inr (inr (inl r))) p q =
        let g = r.begun in
        let last : Ended = (r.word ++ g.0, g.1) in
        whole_alone es last g.2.0 c (subst IsCheckpoint (append_assoc r.front (last ∷ []) g.2.0 ∙ ap (λ z. z ++ last ∷ g.2.0) p) g.2.1)
    ends (inr (inr (inr r))) p q = let s = r.some in let l = ap length q in absurd (omega (arith, s, l))

    by : Cuts f es t [] → ⊥
    by (same p q) = ends r p q
    by (left k ks p q) =
        let all : AreEnded (f ++ k ∷ ks) = subst AreEnded p (checkpoint_ended es c) in
        let n = next_ended f k ks all in
        passed IsCheckpoint text rest r k.0 k.1 (joined ks ++ []) n.0 n.1 (q ∙ next_joined k.0 k.1 ks []) (next_begun IsCheckpoint f k ks [] (subst IsCheckpoint (p ∙ sym (append-nil (f ++ k ∷ ks))) c))
    by (right k ks p q) = nothing k.0 k.1 (joined ks ++ t) (q ∙ next_joined k.0 k.1 ks t)

-- the words of a text are those of one list
pub same_words : (es fs : List Ended) → AreEnded es → AreEnded fs → joined es ≡ joined fs → es ≡ fs
same_words es fs p q e = by (cuts es fs [] [] p q (append-nil (joined es) ∙ e ∙ sym (append-nil (joined fs))))
  where
    by : Cuts es fs [] [] → es ≡ fs
    by (same a b) = a
    by (left k ks a b) = absurd (nothing k.0 k.1 (joined ks ++ []) (b ∙ next_joined k.0 k.1 ks []))
    by (right k ks a b) = absurd (nothing k.0 k.1 (joined ks ++ []) (b ∙ next_joined k.0 k.1 ks []))

same_lines : (ws vs : List (List ℕ)) → AreValues ws → AreValues vs → value_lines ws ≡ value_lines vs → ws ≡ vs
same_lines [] [] h k p = refl
same_lines [] (v ∷ vs) h k p = let w : codes "end" ≡ v = ap first_word_of p in let q : is_value (codes "end") ≡ true = ap is_value w ∙ k.0 in absurd cc
same_lines (w ∷ ws) [] h k p = let v : codes "end" ≡ w = sym (ap first_word_of p) in let q : is_value (codes "end") ≡ true = ap is_value v ∙ h.0 in absurd cc
same_lines (w ∷ ws) (v ∷ vs) h k p = let e : w ≡ v = ap first_word_of p in ap (λ z. z ∷ ws) e ∙ ap (λ z. v ∷ z) (same_lines ws vs h.1 k.1 (ap (drop 1) p))

-- a text says one checkpoint
pub one_checkpoint : (text x y : List ℕ) (ws vs : List (List ℕ)) → Says text x ws → Says text y vs → (x ≡ y) × (ws ≡ vs)
one_checkpoint text x y ws vs s r =
    let a = s.checkpoint_is in
    let b = r.checkpoint_is in
    let e = same_words s.words r.words (checkpoint_ended s.words (x, ws, a)) (checkpoint_ended r.words (y, vs, b)) (sym s.text_is ∙ r.text_is) in
    let all : checkpoint x ws ≡ checkpoint y vs = sym a.words ∙ e ∙ b.words in
    (name all, same_lines ws vs a.values b.values (ap (drop 4) all))
  where
    name : checkpoint x ws ≡ checkpoint y vs → x ≡ y
    name h = ap first_word_of (ap (drop 3) h)

-- ---- one place

module _ (text p q : List ℕ) where
  -- two refusals behind the same words, of the same tail
  same_rest : (r : IsWrong IsCheckpoint text p) (s : IsWrong IsCheckpoint text q) → front_of IsCheckpoint text p r ≡ front_of IsCheckpoint text q s → tail_of IsCheckpoint text p r ≡ tail_of IsCheckpoint text q s → p ≡ q
  same_rest (inl r) (inl s) a b = b
  same_rest (inl r) (inr (inl s)) a b =
      let w = same_word r.word s.word r.gap s.gap r.behind s.behind r.is_word s.is_word r.ends s.ends (sym r.rest_is ∙ b ∙ ap (λ z. s.word ++ z) s.rest_is) in
      let g = s.begun in
      absurd (r.dead g.0 (subst (λ f. Begins IsCheckpoint (f ++ (r.word, g.0) ∷ [])) (sym a) (subst (λ v. Begins IsCheckpoint (s.front ++ (v, g.0) ∷ [])) (sym w.0) g.1)))
  same_rest (inl r) (inr (inr (inl s))) a b = absurd (no_end s.word r.word r.gap r.behind s.is_word r.is_word r.ends (sym b ∙ r.rest_is))
  same_rest (inl r) (inr (inr (inr s))) a b = absurd (no_end q r.word r.gap r.behind s.is_word r.is_word r.ends (sym b ∙ r.rest_is))
  same_rest (inr (inl r)) (inl s) a b =
      let w = same_word s.word r.word s.gap r.gap s.behind r.behind s.is_word r.is_word s.ends r.ends (sym s.rest_is ∙ sym b ∙ ap (λ z. r.word ++ z) r.rest_is) in
      let g = r.begun in
      absurd (s.dead g.0 (subst (λ f. Begins IsCheckpoint (f ++ (s.word, g.0) ∷ [])) a (subst (λ v. Begins IsCheckpoint (r.front ++ (v, g.0) ∷ [])) (sym w.0) g.1)))
  same_rest (inr (inl r)) (inr (inl s)) a b =
      let w = same_word r.word s.word r.gap s.gap r.behind s.behind r.is_word s.is_word r.ends s.ends (ap (λ z. r.word ++ z) (sym r.rest_is) ∙ b ∙ ap (λ z. s.word ++ z) s.rest_is) in
      r.rest_is ∙ ap (λ g. g ∷ r.behind) w.1 ∙ ap (λ z. s.gap ∷ z) w.2 ∙ sym s.rest_is
  same_rest (inr (inl r)) (inr (inr (inl s))) a b = absurd (no_end s.word r.word r.gap r.behind s.is_word r.is_word r.ends (sym b ∙ ap (λ z. r.word ++ z) r.rest_is))
  same_rest (inr (inl r)) (inr (inr (inr s))) a b = absurd (no_end q r.word r.gap r.behind s.is_word r.is_word r.ends (sym b ∙ ap (λ z. r.word ++ z) r.rest_is))
  same_rest (inr (inr (inl r))) (inl s) a b = absurd (no_end r.word s.word s.gap s.behind r.is_word s.is_word s.ends (b ∙ s.rest_is))
  same_rest (inr (inr (inl r))) (inr (inl s)) a b = absurd (no_end r.word s.word s.gap s.behind r.is_word s.is_word s.ends (b ∙ ap (λ z. s.word ++ z) s.rest_is))
  same_rest (inr (inr (inl r))) (inr (inr (inl s))) a b = r.rest_is ∙ sym s.rest_is
  same_rest (inr (inr (inl r))) (inr (inr (inr s))) a b =
      let g = r.begun in
      absurd (s.dead g.0 g.1 (subst (λ f. Begins IsCheckpoint (f ++ (q ++ g.0, g.1) ∷ [])) a (subst (λ v. Begins IsCheckpoint (r.front ++ (v ++ g.0, g.1) ∷ [])) b g.2)))
  same_rest (inr (inr (inr r))) (inl s) a b = absurd (no_end p s.word s.gap s.behind r.is_word s.is_word s.ends (b ∙ s.rest_is))
  same_rest (inr (inr (inr r))) (inr (inl s)) a b = absurd (no_end p s.word s.gap s.behind r.is_word s.is_word s.ends (b ∙ ap (λ z. s.word ++ z) s.rest_is))
  same_rest (inr (inr (inr r))) (inr (inr (inl s))) a b =
      let g = s.begun in
      absurd (r.dead g.0 g.1 (subst (λ f. Begins IsCheckpoint (f ++ (p ++ g.0, g.1) ∷ [])) (sym a) (subst (λ v. Begins IsCheckpoint (s.front ++ (v ++ g.0, g.1) ∷ [])) (sym b) g.2)))
  same_rest (inr (inr (inr r))) (inr (inr (inr s))) a b = b

  pub one_rest : IsWrong IsCheckpoint text p → IsWrong IsCheckpoint text q → p ≡ q
  one_rest r s = by (cuts f h t u (ended_front f b) (ended_front h d) (sym (split_of IsCheckpoint text p r) ∙ split_of IsCheckpoint text q s))
    where
      f : List Ended
      f = front_of IsCheckpoint text p r

      t : List ℕ
      t = tail_of IsCheckpoint text p r

      b : Begins IsCheckpoint f
      b = begun_of IsCheckpoint text p r

      h : List Ended
      h = front_of IsCheckpoint text q s

      u : List ℕ
      u = tail_of IsCheckpoint text q s

      d : Begins IsCheckpoint h
      d = begun_of IsCheckpoint text q s

      by : Cuts f h t u → p ≡ q
      by (same a e) = same_rest r s a e
      by (left k ks a e) =
          let n = next_ended f k ks (subst AreEnded a (ended_front h d)) in
          absurd (passed IsCheckpoint text p r k.0 k.1 (joined ks ++ u) n.0 n.1 (e ∙ next_joined k.0 k.1 ks u) (next_begun IsCheckpoint f k ks d.0 (subst (λ z. IsCheckpoint (z ++ d.0)) a d.1)))
      by (right k ks a e) =
          let n = next_ended h k ks (subst AreEnded a (ended_front f b)) in
          absurd (passed IsCheckpoint text q s k.0 k.1 (joined ks ++ t) n.0 n.1 (e ∙ next_joined k.0 k.1 ks t) (next_begun IsCheckpoint h k ks b.0 (subst (λ z. IsCheckpoint (z ++ b.0)) a b.1)))

same_front : (f g rest : List ℕ) → f ++ rest ≡ g ++ rest → f ≡ g
same_front [] [] rest e = refl
same_front [] (c ∷ g) rest e = let l = ap length e in let k = length-append g rest in absurd (omega (arith, l, k))
same_front (b ∷ f) [] rest e = let l = ap length e in let k = length-append f rest in absurd (omega (arith, l, k))
same_front (b ∷ f) (c ∷ g) rest e = let p : b ≡ c = cc in let q : f ++ rest ≡ g ++ rest = cc in ap (λ z. z ∷ f) p ∙ ap (λ z. c ∷ z) (same_front f g rest q)

pub one_place : (text : List ℕ) (x y : Span) → IsNoCheckpoint text x → IsNoCheckpoint text y → x ≡ y
one_place text x y a b =
    let e = one_rest text a.rest b.rest a.wrong b.wrong in
    let f = same_front a.front b.front b.rest (ap (λ z. a.front ++ z) (sym e) ∙ sym a.split ∙ b.split) in
    a.place ∙ ap (λ z. span_behind z (size_at a.rest)) f ∙ ap (λ z. span_behind b.front (size_at z)) e ∙ sym b.place

pub no_place : (text name : List ℕ) (ws : List (List ℕ)) (x : Span) → IsNoCheckpoint text x → Says text name ws → ⊥
no_place text name ws x a s = not_refused text a.rest s.words a.wrong (name, ws, s.checkpoint_is) s.text_is
