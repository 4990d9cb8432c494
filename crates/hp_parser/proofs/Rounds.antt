-- Loops of the reading, round by round.
use Rattle.std.proofs.Common.{◌≡◌, ℕ, zero, suc, ◌<◌, ◌≤◌, Bool, true, false, ◌&&◌, not, if◌then◌else◌, List, [], ◌∷◌, ◌++◌, length, map, None, refl, sym, ap, ◌∙◌, arith}
use Rattle.std.proofs.lemmas.List.{map-append}
use Rattle.hp_base.specs.declared.limit.What.TheVariants.{Depth}
use Rattle.hp_parser.specs.declared.fault.Fault.TheVariants.{Bad, Limit}
use Rattle.hp_parser.specs.Lexemes.{Lexeme, Kinds, is_ahead}
use Rattle.hp_parser.specs.Limits.{has_one}
use Rattle.std.specs.Prelude.{Result, Ok, Err, IfOk}
use Rattle.hp_parser.specs.declared.fault.Stop.{Stop}
use Rattle.hp_parser.specs.Outcomes.{Outcome, done, refused, ◌>>=◌, Gives}
use Rattle.hp_parser.specs.Reading.{Reader, Loop, read_loop, read_while, read_then, read_token, read_convert, read_both, Taken, items_loop, read_items}
use Rattle.hp_parser.proofs.Loops.{bind_same}

-- A reader leaves no more than was ahead, or less.
abbrev pub Falls : {A : Type 0} → Reader A → Type 0
Falls read = (ts : List Lexeme) (a : _) (rest : List Lexeme) → read ts ≡ done a rest → length rest ≤ length ts

abbrev pub Strict : {A : Type 0} → Reader A → Type 0
Strict read = (ts : List Lexeme) (a : _) (rest : List Lexeme) → read ts ≡ done a rest → length rest < length ts

module _ {S A B : Type 0} (l : Loop S A B) (strict : (s : S) → Strict (l.item s)) where
  enough : (m n : ℕ) (s : S) (ts : List Lexeme) → length ts ≤ m → length ts ≤ n → read_loop l m s ts ≡ read_loop l n s ts
  enough zero zero s ts p q = refl
  enough zero (suc n) s [] p q = refl
  enough zero (suc n) s (t ∷ ts) p q = absurd (omega (arith, p))
  enough (suc m) zero s [] p q = refl
  enough (suc m) zero s (t ∷ ts) p q = absurd (omega (arith, q))
  enough (suc m) (suc n) s ts p q =
      ap (λ o. if is_ahead (l.begins s) ts then (if l.refuses s ts then refused (Limit l.what) ts else o) else done (l.result s) ts)
      (bind_same (l.item s ts) (λ r. read_loop l m (l.next s r.0) r.1) (λ r. read_loop l n (l.next s r.0) r.1)
      (λ a rest e. let less = strict s ts a rest e in enough m n (l.next s a) rest (omega (arith, p, less)) (omega (arith, q, less))))

  abbrev pub round : S → Reader B
  round s ts =
      if is_ahead (l.begins s) ts
      then (if l.refuses s ts then refused (Limit l.what) ts else (l.item s ts >>= λ r. read_while l (l.next s r.0) r.1))
      else done (l.result s) ts

  pub unrolls : (s : S) (ts : List Lexeme) → read_while l s ts ≡ round s ts
  unrolls s [] = refl
  unrolls s (t ∷ ts) =
      ap (λ o. if is_ahead (l.begins s) (t ∷ ts) then (if l.refuses s (t ∷ ts) then refused (Limit l.what) (t ∷ ts) else o) else done (l.result s) (t ∷ ts))
      (bind_same (l.item s (t ∷ ts)) (λ r. read_loop l (length ts) (l.next s r.0) r.1) (λ r. read_while l (l.next s r.0) r.1)
      (λ a rest e. let less = strict s (t ∷ ts) a rest e in enough (length ts) (length rest) (l.next s a) rest (omega (arith, less)) (omega arith)))

  pub ends : (s : S) (ts : List Lexeme) → is_ahead (l.begins s) ts ≡ false → read_while l s ts ≡ done (l.result s) ts
  ends s ts h = unrolls s ts ∙ ap (λ d. if d then (if l.refuses s ts then refused (Limit l.what) ts else (l.item s ts >>= λ r. read_while l (l.next s r.0) r.1)) else done (l.result s) ts) h

  pub refuses : (s : S) (ts : List Lexeme) → is_ahead (l.begins s) ts ≡ true → l.refuses s ts ≡ true → read_while l s ts ≡ refused (Limit l.what) ts
  refuses s ts h k = unrolls s ts
      ∙ ap (λ d. if d then (if l.refuses s ts then refused (Limit l.what) ts else (l.item s ts >>= λ r. read_while l (l.next s r.0) r.1)) else done (l.result s) ts) h
      ∙ ap (λ d. if d then refused (Limit l.what) ts else (l.item s ts >>= λ r. read_while l (l.next s r.0) r.1)) k

  pub steps : (s : S) (ts : List Lexeme) → is_ahead (l.begins s) ts ≡ true → l.refuses s ts ≡ false → read_while l s ts ≡ (l.item s ts >>= λ r. read_while l (l.next s r.0) r.1)
  steps s ts h k = unrolls s ts
      ∙ ap (λ d. if d then (if l.refuses s ts then refused (Limit l.what) ts else (l.item s ts >>= λ r. read_while l (l.next s r.0) r.1)) else done (l.result s) ts) h
      ∙ ap (λ d. if d then refused (Limit l.what) ts else (l.item s ts >>= λ r. read_while l (l.next s r.0) r.1)) k

-- ---- readers that fall

pub token_strict : (kinds : Kinds) → Strict (read_token kinds)
token_strict kinds [] t rest e = absurd cc
token_strict kinds (x ∷ ts) t rest e = by (kinds x.kind) e where
  by : (d : Bool) → (if d then done x ts else refused Bad (x ∷ ts)) ≡ done t rest → length rest < length (x ∷ ts)
  by true e = let same : ts ≡ rest = cc in omega (arith, ap length same)
  by false e = absurd cc

pub strict_falls : {A : Type 0} (read : Reader A) → Strict read → Falls read
strict_falls read s ts a rest e = omega (arith, s ts a rest e)

pub bound : {A B : Type 0} (o : Outcome A) (f : A × List Lexeme → Outcome B) (b : B) (rest : List Lexeme) → (o >>= f) ≡ done b rest → (a : A) × (middle : List Lexeme) × (o ≡ done a middle) × (f (a, middle) ≡ done b rest)
bound (done a middle) f b rest e = (a, middle, refl, e)
bound (refused fault middle) f b rest e = absurd cc

pub then_falls : {A B : Type 0} (first : Reader A) (second : A → Reader B) → Falls first → ((a : A) → Falls (second a)) → Falls (read_then first second)
then_falls first second p q ts b rest e =
    let r = bound (first ts) (λ r. second r.0 r.1) b rest e in
    omega (arith, p ts r.0 r.1 r.2, q r.0 r.1 b rest r.3)

pub then_strict : {A B : Type 0} (first : Reader A) (second : A → Reader B) → Strict first → ((a : A) → Falls (second a)) → Strict (read_then first second)
then_strict first second p q ts b rest e =
    let r = bound (first ts) (λ r. second r.0 r.1) b rest e in
    omega (arith, p ts r.0 r.1 r.2, q r.0 r.1 b rest r.3)

pub done_falls : {A : Type 0} (a : A) → Falls (done a)
done_falls a ts b rest e = let same : ts ≡ rest = cc in omega (arith, ap length same)

pub convert_falls : {A B : Type 0} (f : A → B) (read : Reader A) → Falls read → Falls (read_convert f read)
convert_falls f read p = then_falls read (λ a. done (f a)) p (λ a. done_falls (f a))

pub convert_strict : {A B : Type 0} (f : A → B) (read : Reader A) → Strict read → Strict (read_convert f read)
convert_strict f read p = then_strict read (λ a. done (f a)) p (λ a. done_falls (f a))

pub both_strict : {A B : Type 0} (first : Reader A) (second : Reader B) → Strict first → Falls second → Strict (read_both first second)
both_strict first second p q = then_strict first (λ a. read_convert (λ b. (a, b)) second) p (λ a. convert_falls (λ b. (a, b)) second q)

-- ---- phrases that are read without a limit of their number

abbrev pub many_from : {A : Type 0} → Kinds → Reader A → List A → Reader (List A)
many_from begins item items = read_items Depth begins (λ k. false) (λ a. 0) (λ count. item) None items

module _ {A : Type 0} (begins : Kinds) (item : Reader A) (strict : Strict item) where
  abbrev the_loop : Loop (Taken A) A (List A)
  the_loop = items_loop Depth begins (λ k. false) (λ a. 0) (λ count. item)

  never : (ts : List Lexeme) → (is_ahead (λ k. false) ts && not (has_one None)) ≡ false
  never [] = refl
  never (t ∷ ts) = refl

  pub many_ends : (items : List A) (ts : List Lexeme) → is_ahead begins ts ≡ false → many_from begins item items ts ≡ done items ts
  many_ends items ts h = ends the_loop (λ s. strict) (record { left = None; items = items }) ts h

  pub many_steps : (items : List A) (ts : List Lexeme) → is_ahead begins ts ≡ true → many_from begins item items ts ≡ (item ts >>= λ r. many_from begins item (items ++ (r.0 ∷ [])) r.1)
  many_steps items ts h = steps the_loop (λ s. strict) (record { left = None; items = items }) ts h (never ts)

  abbrev run : ℕ → List A → Reader (List A)
  run n items = read_loop the_loop n (record { left = None; items = items })

  abbrev in_front : A → Outcome (List A) → Outcome (List A)
  in_front a o = o >>= λ r. done (a ∷ r.0) r.1

  front_item : (n : ℕ) (a : A) (items : List A) (before : (items : List A) (ts : List Lexeme) → run n (a ∷ items) ts ≡ in_front a (run n items ts)) (o : Outcome A) →
      (o >>= λ s. run n ((a ∷ items) ++ (s.0 ∷ [])) s.1) ≡ in_front a (o >>= λ s. run n (items ++ (s.0 ∷ [])) s.1)
  front_item n a items before (done b rest) = before (items ++ (b ∷ [])) rest
  front_item n a items before (refused fault rest) = refl

  front_round : (n : ℕ) (a : A) (items : List A) (ts : List Lexeme) (before : (items : List A) (ts : List Lexeme) → run n (a ∷ items) ts ≡ in_front a (run n items ts)) (d r : Bool) → r ≡ false →
      (if d then (if r then refused (Limit Depth) ts else (item ts >>= λ s. run n ((a ∷ items) ++ (s.0 ∷ [])) s.1)) else done (a ∷ items) ts)
      ≡ in_front a (if d then (if r then refused (Limit Depth) ts else (item ts >>= λ s. run n (items ++ (s.0 ∷ [])) s.1)) else done items ts)
  front_round n a items ts before false r h = refl
  front_round n a items ts before true true h = absurd cc
  front_round n a items ts before true false h = front_item n a items before (item ts)

  -- what was read so far stands in front
  front : (n : ℕ) (a : A) (items : List A) (ts : List Lexeme) → run n (a ∷ items) ts ≡ in_front a (run n items ts)
  front zero a items ts = refl
  front (suc n) a items ts = front_round n a items ts (front n a) (is_ahead begins ts) (is_ahead (λ k. false) ts && not (has_one None)) (never ts)

  paired : (a : A) (o : Outcome (List A)) → read_convert (λ (r : A × List A). r.0 ∷ r.1) (λ ts. (o >>= λ s. done (a, s.0) s.1)) [] ≡ in_front a o
  paired a (done b rest) = refl
  paired a (refused fault rest) = refl

  abbrev pairs : Reader A → Reader (List A)
  pairs first = read_convert (λ (r : A × List A). r.0 ∷ r.1) (read_both first (many_from begins item []))

  one_and_more_by : (first : Reader A) (ts : List Lexeme) (o : Outcome A) → first ts ≡ o → pairs first ts ≡ (o >>= λ r. many_from begins item (r.0 ∷ []) r.1)
  one_and_more_by first ts (done a rest) e =
      ap (λ (z : Outcome A). pairs (λ zs. z) ts) e
      ∙ paired a (many_from begins item [] rest) ∙ sym (front (length rest) a [] rest)
  one_and_more_by first ts (refused fault rest) e =
      ap (λ (z : Outcome A). pairs (λ zs. z) ts) e

  -- one phrase and more behind it
  pub one_and_more : (first : Reader A) (ts : List Lexeme) →
      read_convert (λ (r : A × List A). r.0 ∷ r.1) (read_both first (many_from begins item [])) ts ≡ (first ts >>= λ r. many_from begins item (r.0 ∷ []) r.1)
  one_and_more first ts = one_and_more_by first ts (first ts) refl

  -- one more is pushed
  pub many_pushed : {X : Type 0} (seen : X → A) (xs : List X) (x : X) (ts rest : List Lexeme) → is_ahead begins ts ≡ true → item ts ≡ done (seen x) rest →
      many_from begins item (map seen (xs ++ (x ∷ []))) rest ≡ many_from begins item (map seen xs) ts
  many_pushed seen xs x ts rest h e =
      ap (λ z. many_from begins item z rest) (map-append seen xs (x ∷ []))
      ∙ sym (many_steps (map seen xs) ts h ∙ ap (λ o. o >>= λ r. many_from begins item (map seen xs ++ (r.0 ∷ [])) r.1) e)

-- what a function with a strict reading leaves ahead
pub gives_shorter : {X A : Type 0} (read : Reader A) → Strict read → (view : X → A) (r : Result X Stop) (new old : List Lexeme) → Gives view r new (read old) → IfOk r (λ x. length new < length old)
gives_shorter read strict view (Ok x) new old e = strict old (view x) new e
gives_shorter read strict view (Err e) new old g = tt
