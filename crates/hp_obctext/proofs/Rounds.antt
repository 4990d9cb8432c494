-- Lists of items as they are read, round by round.
use Rattle.std.proofs.Common.{◌≡◌, ℕ, zero, suc, ◌<◌, ◌≤◌, Bool, true, false, if◌then◌else◌, List, [], ◌∷◌, ◌++◌, length, map, Option, None, Some, refl, sym, ap, ◌∙◌, subst, arith}
use Rattle.std.proofs.lemmas.List.{map-append}
use Rattle.hp_obctext.specs.Outcomes.{Words, Outcome, done, refused, ◌>>=◌}
use Rattle.hp_obctext.specs.Reading.{Reader, one, many_within, many, is_ahead}

-- Fewer words are left than a number.
abbrev pub Below : {A : Type 0} → ℕ → Outcome A → Type 0
Below n (done a rest) = length rest < n
Below n (refused rest) = Unit {0}

-- A reader takes a word.
abbrev pub Strict : {A : Type 0} → Reader A → Type 0
Strict read = (ws : Words) → Below (length ws) (read ws)

-- A reader leaves no more than was ahead.
abbrev pub Falls : {A : Type 0} → Reader A → Type 0
Falls read = (ws : Words) (n : ℕ) → length ws < n → Below n (read ws)

pub then_falls : {A B : Type 0} (o : Outcome A) (f : A × Words → Outcome B) (n : ℕ) → Below n o → ((a : A) (rest : Words) → length rest < n → Below n (f (a, rest))) → Below n (o >>= f)
then_falls (done a rest) f n h k = k a rest h
then_falls (refused rest) f n h k = tt

pub below_done : {A : Type 0} (n : ℕ) (o : Outcome A) (a : A) (rest : Words) → Below n o → o ≡ done a rest → length rest < n
below_done n o a rest h e = subst (Below n) e h

pub below_more : {A : Type 0} (m n : ℕ) (o : Outcome A) → m ≤ n → Below m o → Below n o
below_more m n (done a rest) h k = omega (arith, k)
below_more m n (refused rest) h k = tt

one_strict_by : {A : Type 0} (w : List ℕ) (ws : Words) (o : Option A) → Below (length (w ∷ ws)) (elim o [ Some a ↦ done a ws | None ↦ refused (w ∷ ws) ])
one_strict_by w ws (Some a) = omega arith
one_strict_by w ws None = tt

pub one_strict : {A : Type 0} (of : List ℕ → Option A) → Strict (one of)
one_strict of [] = tt
one_strict of (w ∷ ws) = one_strict_by w ws (of w)

pub strict_falls : {A : Type 0} (read : Reader A) → Strict read → Falls read
strict_falls read h ws n k = below_more (length ws) n (read ws) (omega arith) (h ws)

pub one_falls : {A : Type 0} (of : List ℕ → Option A) → Falls (one of)
one_falls of = strict_falls (one of) (one_strict of)

pub bind_same : {A B : Type 0} (o : Outcome A) (f g : A × Words → Outcome B) → ((a : A) (rest : Words) → o ≡ done a rest → f (a, rest) ≡ g (a, rest)) → (o >>= f) ≡ (o >>= g)
bind_same (done a rest) f g h = h a rest refl
bind_same (refused rest) f g h = refl

module _ {A : Type 0} (begins : List ℕ → Bool) (item : Reader A) (strict : Strict item) where
  enough : (m n : ℕ) (items : List A) (ws : Words) → length ws ≤ m → length ws ≤ n → many_within begins item m items ws ≡ many_within begins item n items ws
  enough zero zero items ws p q = refl
  enough zero (suc n) items [] p q = refl
  enough zero (suc n) items (w ∷ ws) p q = absurd (omega (arith, p))
  enough (suc m) zero items [] p q = refl
  enough (suc m) zero items (w ∷ ws) p q = absurd (omega (arith, q))
  enough (suc m) (suc n) items ws p q =
      ap (λ o. if is_ahead begins ws then o else done items ws)
      (bind_same (item ws) (λ r. many_within begins item m (items ++ (r.0 ∷ [])) r.1) (λ r. many_within begins item n (items ++ (r.0 ∷ [])) r.1)
      (λ a rest e. let less = below_done (length ws) (item ws) a rest (strict ws) e in enough m n (items ++ (a ∷ [])) rest (omega (arith, p, less)) (omega (arith, q, less))))

  pub many_end : (items : List A) (ws : Words) → is_ahead begins ws ≡ false → many begins item items ws ≡ done items ws
  many_end items [] h = refl
  many_end items (w ∷ ws) h = ap (λ d. if d then (item (w ∷ ws) >>= λ r. many_within begins item (length ws) (items ++ (r.0 ∷ [])) r.1) else done items (w ∷ ws)) h

  pub many_steps : (items : List A) (ws : Words) → is_ahead begins ws ≡ true → many begins item items ws ≡ (item ws >>= λ r. many begins item (items ++ (r.0 ∷ [])) r.1)
  many_steps items [] h = absurd cc
  many_steps items (w ∷ ws) h =
      ap (λ d. if d then (item (w ∷ ws) >>= λ r. many_within begins item (length ws) (items ++ (r.0 ∷ [])) r.1) else done items (w ∷ ws)) h
      ∙ bind_same (item (w ∷ ws)) (λ r. many_within begins item (length ws) (items ++ (r.0 ∷ [])) r.1) (λ r. many begins item (items ++ (r.0 ∷ [])) r.1)
      (λ a rest e. let less = below_done (length (w ∷ ws)) (item (w ∷ ws)) a rest (strict (w ∷ ws)) e in enough (length ws) (length rest) (items ++ (a ∷ [])) rest (omega (arith, less)) (omega arith))

  pub many_pushed : {X : Type 0} (seen : X → A) (xs : List X) (x : X) (ws rest : Words) → is_ahead begins ws ≡ true → item ws ≡ done (seen x) rest →
      many begins item (map seen (xs ++ x ∷ [])) rest ≡ many begins item (map seen xs) ws
  many_pushed seen xs x ws rest h e =
      ap (λ z. many begins item z rest) (map-append seen xs (x ∷ []))
      ∙ sym (many_steps (map seen xs) ws h ∙ ap (λ o. o >>= λ r. many begins item (map seen xs ++ (r.0 ∷ [])) r.1) e)

  pub many_added : (xs : List A) (x : A) (ws rest : Words) → is_ahead begins ws ≡ true → item ws ≡ done x rest → many begins item (xs ++ x ∷ []) rest ≡ many begins item xs ws
  many_added xs x ws rest h e = sym (many_steps xs ws h ∙ ap (λ o. o >>= λ r. many begins item (xs ++ (r.0 ∷ [])) r.1) e)

  pub many_refused : (items : List A) (ws rest : Words) → is_ahead begins ws ≡ true → item ws ≡ refused rest → many begins item items ws ≡ refused rest
  many_refused items ws rest h e = many_steps items ws h ∙ ap (λ o. o >>= λ r. many begins item (items ++ (r.0 ∷ [])) r.1) e

  within_falls : (m : ℕ) (items : List A) (ws : Words) (n : ℕ) → length ws < n → Below n (many_within begins item m items ws)
  within_falls zero items ws n h = h
  within_falls (suc m) items ws n h = by (is_ahead begins ws) (then_falls (item ws) (λ r. many_within begins item m (items ++ (r.0 ∷ [])) r.1) n (below_more (length ws) n (item ws) (omega arith) (strict ws)) (λ a rest k. within_falls m (items ++ (a ∷ [])) rest n k))
    where
      by : (d : Bool) → Below n (item ws >>= λ r. many_within begins item m (items ++ (r.0 ∷ [])) r.1) → Below n (if d then (item ws >>= λ r. many_within begins item m (items ++ (r.0 ∷ [])) r.1) else done items ws)
      by true k = k
      by false k = h

  pub many_falls : (items : List A) → Falls (many begins item items)
  many_falls items ws n h = within_falls (length ws) items ws n h
