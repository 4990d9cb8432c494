-- Readers that leave no more than was ahead, or less, and loops by what they read.
use Rattle.std.proofs.Common.{◌≡◌, ℕ, zero, suc, ◌<◌, ◌≤◌, Bool, true, false, ◌&&◌, not, if◌then◌else◌, List, [], ◌∷◌, ◌++◌, length, map, Option, None, Some, refl, sym, ap, ◌∙◌, arith}
use Rattle.std.proofs.lemmas.List.{map-append}
use Rattle.hp_base.specs.declared.limit.What.{What}
use Rattle.hp_base.specs.declared.limit.What.TheVariants.{Depth}
use Rattle.hp_parser.specs.declared.fault.Fault.{Fault}
use Rattle.hp_parser.specs.declared.fault.Fault.TheVariants.{Bad, Limit}
use Rattle.hp_parser.specs.Lexemes.{Lexeme, Kinds, is_ahead}
use Rattle.hp_parser.specs.Limits.{has_one, less}
use Rattle.hp_parser.specs.Notation.{Measured}
use Rattle.hp_parser.specs.Nesting.{if_left}
use Rattle.hp_parser.specs.Outcomes.{Outcome, done, refused, ◌>>=◌}
use Rattle.hp_parser.specs.Grammar.{behind, before, either, many, optional}
use Rattle.hp_parser.specs.Reading.{Reader, reading, Loop, read_loop, read_while, read_then, read_token, read_convert, read_both, read_behind, read_either, read_separated, separated_loop, Listed, only_if, with_next, Taken, items_loop, read_items}
use Rattle.hp_parser.proofs.Rounds.{Falls, Strict, bound, token_strict, strict_falls, then_falls, then_strict, done_falls, convert_falls, convert_strict, both_strict, many_from, ends, steps, refuses}

pub token_falls : (kinds : Kinds) → Falls (read_token kinds)
token_falls kinds = strict_falls (read_token kinds) (token_strict kinds)

pub both_falls : {A B : Type 0} (first : Reader A) (second : Reader B) → Falls first → Falls second → Falls (read_both first second)
both_falls first second p q = then_falls first (λ a. read_convert (λ b. (a, b)) second) p (λ a. convert_falls (λ b. (a, b)) second q)

either_by : {A : Type 0} (what : What) (first second : Reader A) (ts : List Lexeme) (a : A) (rest : List Lexeme) → Falls first → Falls second →
    (d r : Bool) → (if d then (if r then first ts else refused (Limit what) ts) else second ts) ≡ done a rest → length rest ≤ length ts
either_by what first second ts a rest p q true true e = p ts a rest e
either_by what first second ts a rest p q true false e = absurd cc
either_by what first second ts a rest p q false r e = q ts a rest e

pub either_falls : {A : Type 0} (what : What) (room : Bool) (begins : Kinds) (first second : Reader A) → Falls first → Falls second → Falls (read_either what room begins first second)
either_falls what room begins first second p q ts a rest e = either_by what first second ts a rest p q (is_ahead begins ts) room e

pub behind_strict : {A : Type 0} (kinds : Kinds) (read : Reader A) → Falls read → Strict (behind reading kinds read)
behind_strict kinds read p = convert_strict (λ r. r.1) (read_both (read_token kinds) read) (both_strict (read_token kinds) read (token_strict kinds) p)

pub behind_falls : {A : Type 0} (kinds : Kinds) (read : Reader A) → Falls read → Falls (behind reading kinds read)
behind_falls kinds read p = strict_falls (behind reading kinds read) (behind_strict kinds read p)

pub before_falls : {A : Type 0} (read : Reader A) (kinds : Kinds) → Falls read → Falls (before reading read kinds)
before_falls read kinds p = convert_falls (λ r. r.0) (read_both read (read_token kinds)) (both_falls read (read_token kinds) p (token_falls kinds))

pub read_behind_strict : {A : Type 0} (kinds : Kinds) (read : Reader A) → Falls read → Strict (read_behind kinds read)
read_behind_strict kinds read p = then_strict (read_token kinds) (λ t. read) (token_strict kinds) (λ t. p)

pub optional_falls : {A : Type 0} (begins : Kinds) (read : Reader A) → Falls read → Falls (optional reading begins read)
optional_falls begins read p = either_falls Depth true begins (read_convert Some read) (done None) (convert_falls Some read p) (done_falls None)

-- ---- loops

module _ {S A B : Type 0} (l : Loop S A B) (falls : (s : S) → Falls (l.item s)) where
  run_by : (n : ℕ) (s : S) (ts : List Lexeme) (b : B) (rest : List Lexeme) → ((s : S) → Falls (read_loop l n s)) → (d r : Bool) →
      (if d then (if r then refused (Limit l.what) ts else (l.item s ts >>= λ r. read_loop l n (l.next s r.0) r.1)) else done (l.result s) ts) ≡ done b rest → length rest ≤ length ts
  run_by n s ts b rest before true true e = absurd cc
  run_by n s ts b rest before true false e =
      let r = bound (l.item s ts) (λ r. read_loop l n (l.next s r.0) r.1) b rest e in
      omega (arith, falls s ts r.0 r.1 r.2, before (l.next s r.0) r.1 b rest r.3)
  run_by n s ts b rest before false r e = done_falls (l.result s) ts b rest e

  run_falls : (n : ℕ) (s : S) → Falls (read_loop l n s)
  run_falls zero s ts b rest e = done_falls (l.result s) ts b rest e
  run_falls (suc n) s ts b rest e = run_by n s ts b rest (run_falls n) (is_ahead (l.begins s) ts) (l.refuses s ts) e

  pub while_falls : (s : S) → Falls (read_while l s)
  while_falls s ts b rest e = run_falls (length ts) s ts b rest e

pub many_falls : {A : Type 0} (begins : Kinds) (read : Reader A) → Falls read → Falls (many reading begins read)
many_falls begins read p = while_falls (items_loop Depth begins (λ k. false) (λ a. 0) (λ count. read)) (λ s. p) (record { left = None; items = [] })

separated_item_falls : {A : Type 0} (separates begins : Kinds) (read : Reader A) → Falls read → Strict (read_behind separates (read_either Depth true begins (read_convert Some read) (done None)))
separated_item_falls separates begins read p = read_behind_strict separates (read_either Depth true begins (read_convert Some read) (done None))
    (either_falls Depth true begins (read_convert Some read) (done None) (convert_falls Some read p) (done_falls None))

pub separated_falls : {A : Type 0} (separates begins : Kinds) (read : Reader A) → Falls read → Falls (read_separated separates begins read)
separated_falls separates begins read p =
    then_falls read (λ a. read_while (separated_loop separates begins read) (record { items = a ∷ []; is_open = true })) p
    (λ a. while_falls (separated_loop separates begins read)
    (λ s. strict_falls ((separated_loop separates begins read).item s) (separated_item_falls separates begins read p)) (record { items = a ∷ []; is_open = true }))

-- ---- One loop does what another does, by maps of their states, items and results.

module _ {S A B S2 A2 B2 : Type 0} (l : Loop S A B) (m : Loop S2 A2 B2) (state : S → S2) (item : A → A2) (result : B → B2)
    (begins_same : (s : S) (ts : List Lexeme) → is_ahead (m.begins (state s)) ts ≡ is_ahead (l.begins s) ts)
    (refuses_same : (s : S) (ts : List Lexeme) → m.refuses (state s) ts ≡ l.refuses s ts)
    (what_same : m.what ≡ l.what)
    (item_same : (s : S) (ts : List Lexeme) → m.item (state s) ts ≡ read_convert item (l.item s) ts)
    (next_same : (s : S) (a : A) → m.next (state s) (item a) ≡ state (l.next s a))
    (result_same : (s : S) → m.result (state s) ≡ result (l.result s)) where
  item_goes : (n : ℕ) (s : S) (o : Outcome A) (p : Outcome A2) → p ≡ (o >>= λ r. done (item r.0) r.1) →
      ((s : S) (ts : List Lexeme) → read_loop m n (state s) ts ≡ read_convert result (read_loop l n s) ts) →
      (p >>= λ r. read_loop m n (m.next (state s) r.0) r.1) ≡ ((o >>= λ r. read_loop l n (l.next s r.0) r.1) >>= λ r. done (result r.0) r.1)
  item_goes n s (done a rest) p e before =
      ap (λ z. z >>= λ r. read_loop m n (m.next (state s) r.0) r.1) e ∙ ap (λ z. read_loop m n z rest) (next_same s a) ∙ before (l.next s a) rest
  item_goes n s (refused fault rest) p e before = ap (λ z. z >>= λ r. read_loop m n (m.next (state s) r.0) r.1) e

  round_goes : (n : ℕ) (s : S) (ts : List Lexeme) (d r e q : Bool) → e ≡ d → q ≡ r →
      ((s : S) (ts : List Lexeme) → read_loop m n (state s) ts ≡ read_convert result (read_loop l n s) ts) →
      (if e then (if q then refused (Limit m.what) ts else (m.item (state s) ts >>= λ r. read_loop m n (m.next (state s) r.0) r.1)) else done (m.result (state s)) ts)
      ≡ ((if d then (if r then refused (Limit l.what) ts else (l.item s ts >>= λ r. read_loop l n (l.next s r.0) r.1)) else done (l.result s) ts) >>= λ r. done (result r.0) r.1)
  round_goes n s ts true true true true e f before = ap (λ z. refused (Limit z) ts) what_same
  round_goes n s ts true false true false e f before = item_goes n s (l.item s ts) (m.item (state s) ts) (item_same s ts) before
  round_goes n s ts false r false q e f before = ap (λ z. done z ts) (result_same s)
  round_goes n s ts true r false q e f before = absurd cc
  round_goes n s ts false r true q e f before = absurd cc
  round_goes n s ts true true true false e f before = absurd cc
  round_goes n s ts true false true true e f before = absurd cc

  run_goes : (n : ℕ) (s : S) (ts : List Lexeme) → read_loop m n (state s) ts ≡ read_convert result (read_loop l n s) ts
  run_goes zero s ts = ap (λ z. done z ts) (result_same s)
  run_goes (suc n) s ts =
      round_goes n s ts (is_ahead (l.begins s) ts) (l.refuses s ts) (is_ahead (m.begins (state s)) ts) (m.refuses (state s) ts) (begins_same s ts) (refuses_same s ts) (run_goes n)

  pub simulated : (s : S) (ts : List Lexeme) → read_while m (state s) ts ≡ read_convert result (read_while l s) ts
  simulated s ts = run_goes (length ts) s ts

-- ---- phrases of which a number is left

module _ {A : Type 0} (what : What) (begins : Kinds) (takes : A → ℕ) (read : Option ℕ → Reader A) (strict : (left : Option ℕ) → Strict (read left)) where
  abbrev pub limited_from : Option ℕ → List A → Reader (List A)
  limited_from left items = read_items what begins begins takes read left items

  abbrev the_loop : Loop (Taken A) A (List A)
  the_loop = items_loop what begins begins takes read

  pub limited_ends : (left : Option ℕ) (items : List A) (ts : List Lexeme) → is_ahead begins ts ≡ false → limited_from left items ts ≡ done items ts
  limited_ends left items ts h = ends the_loop (λ s. strict s.left) (record { left = left; items = items }) ts h

  step_by : (left : Option ℕ) (items : List A) (ts : List Lexeme) (one : Bool) → is_ahead begins ts ≡ true → has_one left ≡ one →
      limited_from left items ts ≡ ((if one then read left ts else refused (Limit what) ts) >>= λ r. limited_from (less left (takes r.0)) (items ++ (r.0 ∷ [])) r.1)
  step_by left items ts true h k = steps the_loop (λ s. strict s.left) (record { left = left; items = items }) ts h (ap (λ d. d && not (has_one left)) h ∙ ap not k)
  step_by left items ts false h k = refuses the_loop (λ s. strict s.left) (record { left = left; items = items }) ts h (ap (λ d. d && not (has_one left)) h ∙ ap not k)

  pub limited_steps : (left : Option ℕ) (items : List A) (ts : List Lexeme) → is_ahead begins ts ≡ true →
      limited_from left items ts ≡ (if_left what left (read left) ts >>= λ r. limited_from (less left (takes r.0)) (items ++ (r.0 ∷ [])) r.1)
  limited_steps left items ts h = step_by left items ts (has_one left) h refl

  pub limited_refused : (left : Option ℕ) (items : List A) (ts rest : List Lexeme) (fault : Fault) → is_ahead begins ts ≡ true → if_left what left (read left) ts ≡ refused fault rest →
      limited_from left items ts ≡ refused fault rest
  limited_refused left items ts rest fault h e = limited_steps left items ts h ∙ ap (λ o. o >>= λ r. limited_from (less left (takes r.0)) (items ++ (r.0 ∷ [])) r.1) e

  pub limited_pushed : {X : Type 0} (seen : X → A) (left : Option ℕ) (xs : List X) (x : X) (ts rest : List Lexeme) → is_ahead begins ts ≡ true → if_left what left (read left) ts ≡ done (seen x) rest →
      limited_from (less left (takes (seen x))) (map seen (xs ++ (x ∷ []))) rest ≡ limited_from left (map seen xs) ts
  limited_pushed seen left xs x ts rest h e =
      ap (λ z. limited_from (less left (takes (seen x))) z rest) (map-append seen xs (x ∷ []))
      ∙ sym (limited_steps left (map seen xs) ts h ∙ ap (λ o. o >>= λ r. limited_from (less left (takes r.0)) (map seen xs ++ (r.0 ∷ [])) r.1) e)

-- ---- phrases with separators, round by round as the code has it

module _ {A D : Type 0} (separates begins : Kinds) (read : Reader A) (falls : Falls read) (next : Listed D → Option A → Listed D) (add : List D → A → List D)
    (closed : (items : List D) → next (record { items = items; is_open = true }) None ≡ record { items = items; is_open = false })
    (opened : (items : List D) (a : A) → next (record { items = items; is_open = true }) (Some a) ≡ record { items = add items a; is_open = true }) where
  abbrev pub add_loop : Loop (Listed D) (Option A) (List D)
  add_loop = record {
    begins = λ s. only_if s.is_open separates;
    refuses = λ s ts. false;
    what = Depth;
    item = λ s. read_behind separates (read_either Depth true begins (read_convert Some read) (done None));
    next = next;
    result = λ s. s.items;
  }

  abbrev pub add_from : List D → Reader (List D)
  add_from items = read_while add_loop (record { items = items; is_open = true })

  item_strict : (s : Listed D) → Strict (add_loop.item s)
  item_strict s = separated_item_falls separates begins read falls

  none_open : (ts : List Lexeme) → is_ahead (only_if false separates) ts ≡ false
  none_open [] = refl
  none_open (t ∷ ts) = refl

  is_open : (ts : List Lexeme) → is_ahead (only_if true separates) ts ≡ is_ahead separates ts
  is_open [] = refl
  is_open (t ∷ ts) = refl

  token_ahead : (ts : List Lexeme) (t : Lexeme) (rest : List Lexeme) → read_token separates ts ≡ done t rest → is_ahead separates ts ≡ true
  token_ahead [] t rest e = absurd cc
  token_ahead (x ∷ ts) t rest e = by (separates x.kind) e where
    by : (d : Bool) → (if d then done x ts else refused Bad (x ∷ ts)) ≡ done t rest → d ≡ true
    by true e = refl
    by false e = absurd cc

  pub add_ends : (items : List D) (ts : List Lexeme) → is_ahead separates ts ≡ false → add_from items ts ≡ done items ts
  add_ends items ts h = ends add_loop item_strict (record { items = items; is_open = true }) ts (is_open ts ∙ h)

  go : (items : List D) (ts : List Lexeme) (t : Lexeme) (middle : List Lexeme) → read_token separates ts ≡ done t middle →
      add_from items ts ≡ ((if is_ahead begins middle then read_convert Some read middle else done None middle) >>= λ r. read_while add_loop (next (record { items = items; is_open = true }) r.0) r.1)
  go items ts t middle e =
      steps add_loop item_strict (record { items = items; is_open = true }) ts (is_open ts ∙ token_ahead ts t middle e) refl
      ∙ ap (λ o. (o >>= λ r. read_either Depth true begins (read_convert Some read) (done None) r.1) >>= λ r. read_while add_loop (next (record { items = items; is_open = true }) r.0) r.1) e

  pub add_closes : (items : List D) (ts : List Lexeme) (t : Lexeme) (middle : List Lexeme) → read_token separates ts ≡ done t middle → is_ahead begins middle ≡ false → add_from items ts ≡ done items middle
  add_closes items ts t middle e h =
      go items ts t middle e
      ∙ ap (λ d. (if d then read_convert Some read middle else done None middle) >>= λ r. read_while add_loop (next (record { items = items; is_open = true }) r.0) r.1) h
      ∙ ap (λ s. read_while add_loop s middle) (closed items)
      ∙ ends add_loop item_strict (record { items = items; is_open = false }) middle (none_open middle)

  pub add_refused : (items : List D) (ts : List Lexeme) (t : Lexeme) (middle : List Lexeme) (fault : Fault) (rest : List Lexeme) → read_token separates ts ≡ done t middle → is_ahead begins middle ≡ true →
      read middle ≡ refused fault rest → add_from items ts ≡ refused fault rest
  add_refused items ts t middle fault rest e h k =
      go items ts t middle e
      ∙ ap (λ d. (if d then read_convert Some read middle else done None middle) >>= λ r. read_while add_loop (next (record { items = items; is_open = true }) r.0) r.1) h
      ∙ ap (λ o. (o >>= λ r. done (Some r.0) r.1) >>= λ r. read_while add_loop (next (record { items = items; is_open = true }) r.0) r.1) k

  pub add_more : (items : List D) (ts : List Lexeme) (t : Lexeme) (middle : List Lexeme) (a : A) (rest : List Lexeme) → read_token separates ts ≡ done t middle → is_ahead begins middle ≡ true →
      read middle ≡ done a rest → add_from (add items a) rest ≡ add_from items ts
  add_more items ts t middle a rest e h k =
      sym (go items ts t middle e
      ∙ ap (λ d. (if d then read_convert Some read middle else done None middle) >>= λ r. read_while add_loop (next (record { items = items; is_open = true }) r.0) r.1) h
      ∙ ap (λ o. (o >>= λ r. done (Some r.0) r.1) >>= λ r. read_while add_loop (next (record { items = items; is_open = true }) r.0) r.1) k
      ∙ ap (λ s. read_while add_loop s rest) (opened items a))
