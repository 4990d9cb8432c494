-- Loops whose items take some of a number, round by round.
use Rattle.std.proofs.Common.{◌≡◌, ℕ, zero, suc, Bool, true, false, ◌&&◌, not, if◌then◌else◌, List, [], ◌∷◌, ◌++◌, length, map, Option, refl, sym, ap, ◌∙◌}
use Rattle.std.proofs.lemmas.List.{map-append}
use Rattle.hp_base.specs.declared.limit.What.{What}
use Rattle.hp_parser.specs.declared.fault.Fault.TheVariants.{Limit}
use Rattle.hp_parser.specs.Lexemes.{Lexeme, Kinds, is_ahead}
use Rattle.hp_parser.specs.Limits.{has_one, less}
use Rattle.hp_parser.specs.Outcomes.{Outcome, done, refused, ◌>>=◌}
use Rattle.hp_parser.specs.Reading.{Reader, read_loop, read_convert, read_both, Taken, Loop, items_loop, read_items}
use Rattle.hp_parser.proofs.Rounds.{Strict, ends, refuses, steps}

module _ {A : Type 0} (what : What) (begins wants : Kinds) (takes : A → ℕ) (read : Option ℕ → Reader A) (strict : (count : Option ℕ) → Strict (read count)) where
  abbrev counted_loop : Loop (Taken A) A (List A)
  counted_loop = items_loop what begins wants takes read

  abbrev pub counted : Option ℕ → List A → Reader (List A)
  counted left items = read_items what begins wants takes read left items

  abbrev run : ℕ → Option ℕ → List A → Reader (List A)
  run n left items = read_loop counted_loop n (record { left = left; items = items })

  abbrev in_front : A → Outcome (List A) → Outcome (List A)
  in_front a o = o >>= λ r. done (a ∷ r.0) r.1

  front_item : (n : ℕ) (a : A) (left : Option ℕ) (items : List A) (before : (left : Option ℕ) (items : List A) (ts : List Lexeme) → run n left (a ∷ items) ts ≡ in_front a (run n left items ts)) (o : Outcome A) →
      (o >>= λ s. run n (less left (takes s.0)) ((a ∷ items) ++ (s.0 ∷ [])) s.1) ≡ in_front a (o >>= λ s. run n (less left (takes s.0)) (items ++ (s.0 ∷ [])) s.1)
  front_item n a left items before (done b rest) = before (less left (takes b)) (items ++ (b ∷ [])) rest
  front_item n a left items before (refused fault rest) = refl

  front_round : (n : ℕ) (a : A) (left : Option ℕ) (items : List A) (ts : List Lexeme) (before : (left : Option ℕ) (items : List A) (ts : List Lexeme) → run n left (a ∷ items) ts ≡ in_front a (run n left items ts)) (d r : Bool) →
      (if d then (if r then refused (Limit what) ts else (read left ts >>= λ s. run n (less left (takes s.0)) ((a ∷ items) ++ (s.0 ∷ [])) s.1)) else done (a ∷ items) ts)
      ≡ in_front a (if d then (if r then refused (Limit what) ts else (read left ts >>= λ s. run n (less left (takes s.0)) (items ++ (s.0 ∷ [])) s.1)) else done items ts)
  front_round n a left items ts before false r = refl
  front_round n a left items ts before true true = refl
  front_round n a left items ts before true false = front_item n a left items before (read left ts)

  -- what was read so far stands in front
  front : (n : ℕ) (a : A) (left : Option ℕ) (items : List A) (ts : List Lexeme) → run n left (a ∷ items) ts ≡ in_front a (run n left items ts)
  front zero a left items ts = refl
  front (suc n) a left items ts = front_round n a left items ts (front n a) (is_ahead begins ts) (is_ahead wants ts && not (has_one left))

  paired : (a : A) (o : Outcome (List A)) → read_convert (λ (r : A × List A). r.0 ∷ r.1) (λ ts. (o >>= λ s. done (a, s.0) s.1)) [] ≡ in_front a o
  paired a (done b rest) = refl
  paired a (refused fault rest) = refl

  abbrev pairs : Reader A → Option ℕ → Reader (List A)
  pairs first left = read_convert (λ (r : A × List A). r.0 ∷ r.1) (read_both first (counted left []))

  first_by : (first : Reader A) (left : Option ℕ) (ts : List Lexeme) (o : Outcome A) → first ts ≡ o → pairs first left ts ≡ (o >>= λ r. counted left (r.0 ∷ []) r.1)
  first_by first left ts (done a rest) e = ap (λ (z : Outcome A). pairs (λ zs. z) left ts) e ∙ paired a (counted left [] rest) ∙ sym (front (length rest) a left [] rest)
  first_by first left ts (refused fault rest) e = ap (λ (z : Outcome A). pairs (λ zs. z) left ts) e

  -- one phrase, and more behind it
  pub first_counted : (first : Reader A) (left : Option ℕ) (ts : List Lexeme) →
      read_convert (λ (r : A × List A). r.0 ∷ r.1) (read_both first (counted left [])) ts ≡ (first ts >>= λ r. counted left (r.0 ∷ []) r.1)
  first_counted first left ts = first_by first left ts (first ts) refl

  pub counted_ends : (left : Option ℕ) (items : List A) (ts : List Lexeme) → is_ahead begins ts ≡ false → counted left items ts ≡ done items ts
  counted_ends left items ts h = ends counted_loop (λ s. strict s.left) (record { left = left; items = items }) ts h

  pub counted_refuses : (left : Option ℕ) (items : List A) (ts : List Lexeme) → is_ahead begins ts ≡ true → (is_ahead wants ts && not (has_one left)) ≡ true → counted left items ts ≡ refused (Limit what) ts
  counted_refuses left items ts h k = refuses counted_loop (λ s. strict s.left) (record { left = left; items = items }) ts h k

  pub counted_steps : (left : Option ℕ) (items : List A) (ts : List Lexeme) → is_ahead begins ts ≡ true → (is_ahead wants ts && not (has_one left)) ≡ false →
      counted left items ts ≡ (read left ts >>= λ r. counted (less left (takes r.0)) (items ++ (r.0 ∷ [])) r.1)
  counted_steps left items ts h k = steps counted_loop (λ s. strict s.left) (record { left = left; items = items }) ts h k

  pub counted_pushed : {X : Type 0} (seen : X → A) (left : Option ℕ) (xs : List X) (x : X) (ts rest : List Lexeme) → is_ahead begins ts ≡ true → (is_ahead wants ts && not (has_one left)) ≡ false →
      read left ts ≡ done (seen x) rest → counted (less left (takes (seen x))) (map seen (xs ++ (x ∷ []))) rest ≡ counted left (map seen xs) ts
  counted_pushed seen left xs x ts rest h k e =
      ap (λ z. counted (less left (takes (seen x))) z rest) (map-append seen xs (x ∷ []))
      ∙ sym (counted_steps left (map seen xs) ts h k ∙ ap (λ o. o >>= λ r. counted (less left (takes r.0)) (map seen xs ++ (r.0 ∷ [])) r.1) e)
