-- Phrases read again and again.
use Rattle.std.proofs.Common.{◌≡◌, ℕ, zero, suc, ◌<◌, ◌≤◌, Bool, true, false, if◌then◌else◌, List, [], ◌∷◌, ◌++◌, length, ◌⊎◌, inl, inr, refl, sym, ap, subst, ◌∙◌, append_assoc, length-append, arith}
use Rattle.hp_parser.specs.declared.fault.Fault.TheVariants.{Bad, Limit}
use Rattle.hp_parser.specs.Lexemes.{Lexeme, Kinds, is_ahead}
use Rattle.hp_parser.specs.Outcomes.{Outcome, done, refused, ◌>>=◌}
use Rattle.hp_parser.specs.Relation.{Phrase}
use Rattle.hp_parser.specs.Reading.{Reader, Loop, read_loop, read_while}
use Rattle.hp_parser.specs.Programs.{Begins}
use Rattle.hp_parser.proofs.Ways.{Way, Course, Reads, Free, Starts, Within, union, Apart, not_first, not_second, Then, then_way, then_course}
use Rattle.hp_parser.proofs.Choices.{Like, course_for, Inside}

-- the relation of a loop: items one behind another
pub data Runs {S A B : Type 0} (begins : S → Kinds) (refuses : S → List Lexeme → Bool) (item : S → Phrase A) (next : S → A → S) (result : S → B) : S → List Lexeme → B → Type 0 where
  no_run : {s : S} → Runs begins refuses item next result s [] (result s)
  one_more : {s : S} {u v : List Lexeme} {a : A} {b : B} → item s u a → is_ahead (begins s) u ≡ true → refuses s u ≡ false →
      Runs begins refuses item next result (next s a) v b → Runs begins refuses item next result s (u ++ v) b

-- what is refused is told by the first token
abbrev pub ByHead : {S : Type 0} → (S → List Lexeme → Bool) → Type 0
ByHead refuses = (s : _) (zs ts : List Lexeme) → Like ts zs → refuses s zs ≡ refuses s ts

still : (begins : Kinds) (u rest : List Lexeme) → is_ahead begins u ≡ true → is_ahead begins (u ++ rest) ≡ true
still begins [] rest h = absurd cc
still begins (x ∷ u) rest h = h

like_more : (begins : Kinds) (u rest : List Lexeme) → is_ahead begins u ≡ true → Like u (u ++ rest)
like_more begins [] rest h = absurd cc
like_more begins (x ∷ u) rest h = λ kinds. refl

not_inside : (p q : Kinds) (ts : List Lexeme) → Inside p q → is_ahead q ts ≡ false → is_ahead p ts ≡ false
not_inside p q [] inside h = refl
not_inside p q (x ∷ ts) inside h = by (p x.kind) refl where
  by : (d : Bool) → p x.kind ≡ d → p x.kind ≡ false
  by true e = absurd (let both : true ≡ false = sym (inside x.kind e) ∙ h in cc)
  by false e = e

longer : (begins : Kinds) (u rest : List Lexeme) → is_ahead begins u ≡ true → length rest < length (u ++ rest)
longer begins [] rest h = absurd cc
longer begins (x ∷ u) rest h = omega (arith, length-append u rest)

pub bind_same : {A B : Type 0} (o : Outcome A) (f g : A × List Lexeme → Outcome B) → ((a : A) (rest : List Lexeme) → o ≡ done a rest → f (a, rest) ≡ g (a, rest)) → (o >>= f) ≡ (o >>= g)
bind_same (done a rest) f g h = h a rest refl
bind_same (refused fault rest) f g h = refl

-- ---- a loop reads what its relation has

module _ {S A B : Type 0} (l : Loop S A B) (item : S → Phrase A) (first_1 goes_1 starts : Kinds) (inside : (s : S) → Inside (l.begins s) starts) (apart : Apart starts goes_1)
    (by_head : ByHead l.refuses) (Usable : S → Type 0) (usable : (s : S) (ts : List Lexeme) → l.refuses s ts ≡ false → Usable s)
    (Good : S → Type 0) (stays : (s : S) (a : A) → Good s → Good (l.next s a))
    (one : (s : S) → Good s → Usable s → Reads first_1 goes_1 false (l.item s) (item s)) where
  abbrev pub LoopPhrase : S → Phrase B
  LoopPhrase = Runs l.begins l.refuses item l.next l.result

  -- what a loop reads begins with an item
  runs_ahead : {s : S} {w : List Lexeme} {b : B} → LoopPhrase s w b → (w ≡ []) ⊎ (is_ahead (l.begins s) w ≡ true)
  runs_ahead Runs.no_run = inl refl
  runs_ahead {s = s} (Runs.one_more {u = u} {v = v} h begins allowed rest) = inr (still (l.begins s) u v begins)

  item_stops_by : (v rest : List Lexeme) (s : S) → (v ≡ []) ⊎ (is_ahead (l.begins s) v ≡ true) → is_ahead (union goes_1 starts) rest ≡ false → is_ahead goes_1 (v ++ rest) ≡ false
  item_stops_by [] rest s h stops = not_first goes_1 starts rest stops
  item_stops_by (x ∷ v) rest s (inl h) stops = absurd cc
  item_stops_by (x ∷ v) rest s (inr h) stops = apart x.kind (inside s x.kind h)

  ends_here : (n : ℕ) (s : S) (rest : List Lexeme) → is_ahead (l.begins s) rest ≡ false → read_loop l n s rest ≡ done (l.result s) rest
  ends_here zero s rest h = refl
  ends_here (suc n) s rest h =
      ap (λ d. if d then (if l.refuses s rest then refused (Limit l.what) rest else (l.item s rest >>= λ r. read_loop l n (l.next s r.0) r.1)) else done (l.result s) rest) h

  goes_on : (n : ℕ) (s : S) (ts : List Lexeme) (a : A) (rest : List Lexeme) → is_ahead (l.begins s) ts ≡ true → l.refuses s ts ≡ false → l.item s ts ≡ done a rest →
      read_loop l (suc n) s ts ≡ read_loop l n (l.next s a) rest
  goes_on n s ts a rest h k e =
      ap (λ d. if d then (if l.refuses s ts then refused (Limit l.what) ts else (l.item s ts >>= λ r. read_loop l n (l.next s r.0) r.1)) else done (l.result s) ts) h
      ∙ ap (λ d. if d then refused (Limit l.what) ts else (l.item s ts >>= λ r. read_loop l n (l.next s r.0) r.1)) k
      ∙ ap (λ o. o >>= λ r. read_loop l n (l.next s r.0) r.1) e

  loop_complete : (n : ℕ) (s : S) → Good s → (w : List Lexeme) (b : B) (rest : List Lexeme) → length (w ++ rest) ≤ n → LoopPhrase s w b → is_ahead (union goes_1 starts) rest ≡ false →
      read_loop l n s (w ++ rest) ≡ done b rest
  loop_complete n s good w b rest fits Runs.no_run stops = ends_here n s rest (not_inside (l.begins s) starts rest (inside s) (not_second goes_1 starts rest stops))
  loop_complete zero s good w b rest fits (Runs.one_more {u = u} {v = v} h begins allowed others) stops =
      absurd (omega (arith, fits, longer (l.begins s) u (v ++ rest) begins, ap length (append_assoc u v rest)))
  loop_complete (suc n) s good w b rest fits (Runs.one_more {u = u} {v = v} {a = a} h begins allowed others) stops =
      ap (read_loop l (suc n) s) (append_assoc u v rest)
      ∙ goes_on n s (u ++ (v ++ rest)) a (v ++ rest) (still (l.begins s) u (v ++ rest) begins) (by_head s (u ++ (v ++ rest)) u (like_more (l.begins s) u (v ++ rest) begins) ∙ allowed)
      ((one s good (usable s u allowed)).complete u a (v ++ rest) h (item_stops_by v rest (l.next s a) (runs_ahead others) stops))
      ∙ loop_complete n (l.next s a) (stays s a good) v b rest (omega (arith, fits, longer (l.begins s) u (v ++ rest) begins, ap length (append_assoc u v rest))) others stops

  first_by : (s : S) (x : Lexeme) (u : List Lexeme) → ((x ∷ u) ≡ []) ⊎ (l.begins s x.kind ≡ true) → starts x.kind ≡ true
  first_by s x u (inl h) = absurd cc
  first_by s x u (inr h) = inside s x.kind h

  pub loop_reads : (s : S) → Good s → Reads starts (union goes_1 starts) true (read_while l s) (LoopPhrase s)
  loop_reads s good = record {
    complete = λ w b rest h stops. loop_complete (length (w ++ rest)) s good w b rest (omega arith) h stops;
    first_is = λ x u b h. first_by s x u (runs_ahead h);
    not_empty = λ e. absurd cc;
  }

  pub loop_free : (s : S) → Good s → Free starts (union goes_1 starts) true (read_while l s) (LoopPhrase s)
  loop_free s good = record { reads = loop_reads s good; begins = ([], l.result s, Runs.no_run); may_be_empty = λ e. (l.result s, Runs.no_run) }

-- a token that begins an item begins a loop
pub loop_starts : {S A B : Type 0} (l : Loop S A B) (item : S → Phrase A) (s : S) → Starts (l.begins s) (item s) → ((ts : List Lexeme) → l.refuses s ts ≡ false) →
    Starts (l.begins s) (Runs l.begins l.refuses item l.next l.result s)
loop_starts l item s one allowed x h =
    let b = one x h in
    (b.0 ++ [], l.result (l.next s b.1), Runs.one_more {s = s} {u = x ∷ b.0} {v = []} {a = b.1} b.2 h (allowed (x ∷ b.0)) Runs.no_run)

-- ---- a loop within limits

module _ {S A B : Type 0} (l free : Loop S A B) (item : S → Way A) (freed : S → S) (free_item : S → Phrase A) (first_1 goes_1 starts : Kinds)
    (reads_item : (s : S) (ts : List Lexeme) → l.item s ts ≡ (item s).read ts)
    (free_reads_item : (s : S) (ts : List Lexeme) → free.item (freed s) ts ≡ (item s).free_read ts)
    (free_phrase : (s : S) (u : List Lexeme) (a : A) → (item s).free u a → free_item (freed s) u a)
    (same_begins : (s : S) → free.begins (freed s) ≡ l.begins s)
    (same_next : (s : S) (a : A) → free.next (freed s) a ≡ freed (l.next s a))
    (same_result : (s : S) → free.result (freed s) ≡ l.result s)
    (never_refuses : (s : S) (ts : List Lexeme) → free.refuses (freed s) ts ≡ false)
    (inside : (s : S) → Inside (l.begins s) starts) (apart : Apart starts goes_1) (by_head : ByHead l.refuses)
    (Usable : S → Type 0) (usable : (s : S) (ts : List Lexeme) → l.refuses s ts ≡ false → Usable s)
    (one : (s : S) → Usable s → Within first_1 goes_1 false (item s)) (one_free : (s : S) → Free first_1 goes_1 false (item s).free_read (item s).free) (item_starts : (s : S) → Starts (l.begins s) (item s).free) where
  abbrev pub LowPhrase : S → Phrase B
  LowPhrase = Runs l.begins l.refuses (λ s. (item s).phrase) l.next l.result

  abbrev pub FreePhrase : S → Phrase B
  FreePhrase = Runs free.begins free.refuses free_item free.next free.result

  shrinks_by : (s : S) (can : Usable s) (ts : List Lexeme) (o : Outcome A) → Course (item s) ts o → (a : A) (rest : List Lexeme) → o ≡ done a rest → length rest < length ts
  shrinks_by s can ts (done b other) ([], e, h, again, same) a rest f = absurd ((one s can).reads.not_empty refl b h)
  shrinks_by s can ts (done b other) (x ∷ u, e, h, again, same) a rest f =
      let tail : other ≡ rest = cc in
      omega (arith, ap length e, length-append u other, ap length tail)
  shrinks_by s can ts (refused fault other) c a rest f = absurd cc

  shrinks : (s : S) (can : Usable s) (ts : List Lexeme) (a : A) (rest : List Lexeme) → l.item s ts ≡ done a rest → length rest < length ts
  shrinks s can ts a rest e = shrinks_by s can ts ((item s).read ts) ((one s can).course ts) a rest (sym (reads_item s ts) ∙ e)

  -- a test decides whether the item is looked at
  same_unless : (s : S) (ts : List Lexeme) (o p : Outcome B) (r : Bool) → l.refuses s ts ≡ r → (Usable s → o ≡ p) →
      (if l.refuses s ts then refused (Limit l.what) ts else o) ≡ (if l.refuses s ts then refused (Limit l.what) ts else p)
  same_unless s ts o p true k h =
      ap (λ d. if d then refused (Limit l.what) ts else o) k ∙ sym (ap (λ d. if d then refused (Limit l.what) ts else p) k)
  same_unless s ts o p false k h = ap (λ z. if l.refuses s ts then refused (Limit l.what) ts else z) (h (usable s ts k))

  -- more rounds than tokens change nothing
  enough : (m n : ℕ) (s : S) (ts : List Lexeme) → length ts ≤ m → length ts ≤ n → read_loop l m s ts ≡ read_loop l n s ts
  enough zero zero s ts p q = refl
  enough zero (suc n) s [] p q = refl
  enough zero (suc n) s (t ∷ ts) p q = absurd (omega (arith, p))
  enough (suc m) zero s [] p q = refl
  enough (suc m) zero s (t ∷ ts) p q = absurd (omega (arith, q))
  enough (suc m) (suc n) s ts p q =
      ap (λ o. if is_ahead (l.begins s) ts then o else done (l.result s) ts)
      (same_unless s ts (l.item s ts >>= λ r. read_loop l m (l.next s r.0) r.1) (l.item s ts >>= λ r. read_loop l n (l.next s r.0) r.1) (l.refuses s ts) refl
      (λ can. bind_same (l.item s ts) (λ r. read_loop l m (l.next s r.0) r.1) (λ r. read_loop l n (l.next s r.0) r.1)
      (λ a rest e. let less = shrinks s can ts a rest e in enough m n (l.next s a) rest (omega (arith, p, less)) (omega (arith, q, less)))))

  abbrev pub round : S → Reader B
  round s ts =
      if is_ahead (l.begins s) ts
      then (if l.refuses s ts then refused (Limit l.what) ts else (l.item s ts >>= λ r. read_while l (l.next s r.0) r.1))
      else done (l.result s) ts

  -- a loop does a round and goes on
  pub unrolls : (s : S) (ts : List Lexeme) → read_while l s ts ≡ round s ts
  unrolls s [] = refl
  unrolls s (t ∷ ts) =
      ap (λ o. if is_ahead (l.begins s) (t ∷ ts) then o else done (l.result s) (t ∷ ts))
      (same_unless s (t ∷ ts) (l.item s (t ∷ ts) >>= λ r. read_loop l (length ts) (l.next s r.0) r.1) (l.item s (t ∷ ts) >>= λ r. read_while l (l.next s r.0) r.1) (l.refuses s (t ∷ ts)) refl
      (λ can. bind_same (l.item s (t ∷ ts)) (λ r. read_loop l (length ts) (l.next s r.0) r.1) (λ r. read_while l (l.next s r.0) r.1)
      (λ a rest e. let less = shrinks s can (t ∷ ts) a rest e in enough (length ts) (length rest) (l.next s a) rest (omega (arith, less)) (omega arith))))

  abbrev way_for : ℕ → S → Way B
  way_for n s = record { read = read_while l s; free_read = read_loop free n (freed s); phrase = LowPhrase s; free = FreePhrase (freed s) }

  abbrev item_then : ℕ → S → Way B
  item_then n s = then_way (item s) (λ a. way_for n (l.next s a))

  item_ahead : (s : S) (u rest ts : List Lexeme) → ts ≡ u ++ rest → is_ahead (l.begins s) ts ≡ true → (u ≡ []) ⊎ (is_ahead (l.begins s) u ≡ true)
  item_ahead s [] rest ts e h = inl refl
  item_ahead s (x ∷ u) rest ts e h = inr (sym (ap (is_ahead (l.begins s)) e) ∙ h)

  free_ahead : (s : S) (u : List Lexeme) → is_ahead (l.begins s) u ≡ true → is_ahead (free.begins (freed s)) u ≡ true
  free_ahead s u h = ap (λ kinds. is_ahead kinds u) (same_begins s) ∙ h

  -- an item at the front of what is ahead, and more behind it
  run_on : (s : S) (w : List Lexeme) (b : B) (ts rest : List Lexeme) → ts ≡ w ++ rest → is_ahead (l.begins s) ts ≡ true → l.refuses s ts ≡ false →
      Then (item s).phrase (λ a. LowPhrase (l.next s a)) w b → LowPhrase s w b
  run_on s w b ts rest e h k (a, u, v, f, g, others) =
      let whole : ts ≡ u ++ (v ++ rest) = e ∙ ap (λ z. z ++ rest) f ∙ append_assoc u v rest in
      elim (item_ahead s u (v ++ rest) ts whole h) [
        | inl empty ↦ absurd ((one s (usable s ts k)).reads.not_empty refl a (subst (λ z. (item s).phrase z a) empty g))
        | inr begins ↦
            let allowed : l.refuses s u ≡ false = sym (by_head s (u ++ (v ++ rest)) u (like_more (l.begins s) u (v ++ rest) begins)) ∙ sym (ap (l.refuses s) whole) ∙ k in
            subst (λ z. LowPhrase s z b) (sym f) (Runs.one_more {s = s} {u = u} {v = v} {a = a} g begins allowed others)
      ]

  free_run_on : (s : S) (w : List Lexeme) (b : B) (x : Lexeme) (w_1 : List Lexeme) → w ≡ x ∷ w_1 → l.begins s x.kind ≡ true →
      Then (item s).free (λ a. FreePhrase (freed (l.next s a))) w b → FreePhrase (freed s) w b
  free_run_on s w b x w_1 e h (a, u, v, f, g, others) = by u f g where
    by : (u : List Lexeme) → w ≡ u ++ v → (item s).free u a → FreePhrase (freed s) w b
    by [] f g = absurd ((one_free s).reads.not_empty refl a g)
    by (y ∷ u) f g =
        let same : y ≡ x = cc in
        let begins = free_ahead s (y ∷ u) (subst (λ (z : Lexeme). l.begins s z.kind ≡ true) (sym same) h) in
        let next = subst (λ t. FreePhrase t v b) (sym (same_next s a)) others in
        subst (λ z. FreePhrase (freed s) z b) (sym f)
        (Runs.one_more {s = freed s} {u = y ∷ u} {v = v} {a = a} (free_phrase s (y ∷ u) a g) begins (never_refuses s (y ∷ u)) next)

  none_begins : (s : S) → Begins (LowPhrase s) []
  none_begins s = ([], l.result s, Runs.no_run)

  free_none_begins : (s : S) → Begins (FreePhrase (freed s)) []
  free_none_begins s = ([], free.result (freed s), Runs.no_run)

  begun_on : (s : S) (ts u rest : List Lexeme) → ts ≡ u ++ rest → is_ahead (l.begins s) ts ≡ true → l.refuses s ts ≡ false →
      Begins (Then (item s).phrase (λ a. LowPhrase (l.next s a))) u → Begins (LowPhrase s) u
  begun_on s ts [] rest e h k started = none_begins s
  begun_on s ts (x ∷ u) rest e h k (v, b, t) =
      let like : Like ts (((x ∷ u) ++ v) ++ []) = λ kinds. sym (ap (is_ahead kinds) e) in
      (v, b, run_on s ((x ∷ u) ++ v) b (((x ∷ u) ++ v) ++ []) [] refl (like (l.begins s) ∙ h) (by_head s (((x ∷ u) ++ v) ++ []) ts like ∙ k) t)

  free_begun_on : (s : S) (ts u : List Lexeme) (x : Lexeme) (more : List Lexeme) → ts ≡ u ++ (x ∷ more) → is_ahead (l.begins s) ts ≡ true →
      Begins (Then (item s).free (λ a. FreePhrase (freed (l.next s a)))) (u ++ (x ∷ [])) → Begins (FreePhrase (freed s)) (u ++ (x ∷ []))
  free_begun_on s ts [] x more e h (v, b, t) = (v, b, free_run_on s (x ∷ v) b x v refl (sym (ap (is_ahead (l.begins s)) e) ∙ h) t)
  free_begun_on s ts (y ∷ u) x more e h (v, b, t) =
      (v, b, free_run_on s (((y ∷ u) ++ (x ∷ [])) ++ v) b y ((u ++ (x ∷ [])) ++ v) refl (sym (ap (is_ahead (l.begins s)) e) ∙ h) t)

  round_goes : (s : S) (zs : List Lexeme) → is_ahead (l.begins s) zs ≡ true → l.refuses s zs ≡ false → read_while l s zs ≡ (item_then zero s).read zs
  round_goes s zs h k =
      unrolls s zs
      ∙ ap (λ d. if d then (if l.refuses s zs then refused (Limit l.what) zs else (l.item s zs >>= λ r. read_while l (l.next s r.0) r.1)) else done (l.result s) zs) h
      ∙ ap (λ d. if d then refused (Limit l.what) zs else (l.item s zs >>= λ r. read_while l (l.next s r.0) r.1)) k
      ∙ ap (λ o. o >>= λ r. read_while l (l.next s r.0) r.1) (reads_item s zs)

  free_round_goes : (n : ℕ) (s : S) (ts : List Lexeme) → is_ahead (l.begins s) ts ≡ true → read_loop free (suc n) (freed s) ts ≡ (item_then n s).free_read ts
  free_round_goes n s ts h =
      ap (λ d. if d then (if free.refuses (freed s) ts then refused (Limit free.what) ts else (free.item (freed s) ts >>= λ r. read_loop free n (free.next (freed s) r.0) r.1)) else done (free.result (freed s)) ts)
      (ap (λ kinds. is_ahead kinds ts) (same_begins s) ∙ h)
      ∙ ap (λ d. if d then refused (Limit free.what) ts else (free.item (freed s) ts >>= λ r. read_loop free n (free.next (freed s) r.0) r.1)) (never_refuses s ts)
      ∙ ap (λ o. o >>= λ r. read_loop free n (free.next (freed s) r.0) r.1) (free_reads_item s ts)
      ∙ bind_same ((item s).free_read ts) (λ r. read_loop free n (free.next (freed s) r.0) r.1) (λ r. read_loop free n (freed (l.next s r.0)) r.1)
      (λ a rest e. ap (λ t. read_loop free n t rest) (same_next s a))

  round_ends : (s : S) (zs : List Lexeme) → is_ahead (l.begins s) zs ≡ false → read_while l s zs ≡ done (l.result s) zs
  round_ends s zs h =
      unrolls s zs
      ∙ ap (λ d. if d then (if l.refuses s zs then refused (Limit l.what) zs else (l.item s zs >>= λ r. read_while l (l.next s r.0) r.1)) else done (l.result s) zs) h

  free_ends : (n : ℕ) (s : S) (ts : List Lexeme) → is_ahead (l.begins s) ts ≡ false → read_loop free n (freed s) ts ≡ done (l.result s) ts
  free_ends zero s ts h = ap (λ z. done z ts) (same_result s)
  free_ends (suc n) s ts h =
      ap (λ d. if d then (if free.refuses (freed s) ts then refused (Limit free.what) ts else (free.item (freed s) ts >>= λ r. read_loop free n (free.next (freed s) r.0) r.1)) else done (free.result (freed s)) ts)
      (ap (λ kinds. is_ahead kinds ts) (same_begins s) ∙ h)
      ∙ ap (λ z. done z ts) (same_result s)

  round_refuses : (s : S) (zs : List Lexeme) → is_ahead (l.begins s) zs ≡ true → l.refuses s zs ≡ true → read_while l s zs ≡ refused (Limit l.what) zs
  round_refuses s zs h k =
      unrolls s zs
      ∙ ap (λ d. if d then (if l.refuses s zs then refused (Limit l.what) zs else (l.item s zs >>= λ r. read_while l (l.next s r.0) r.1)) else done (l.result s) zs) h
      ∙ ap (λ d. if d then refused (Limit l.what) zs else (l.item s zs >>= λ r. read_while l (l.next s r.0) r.1)) k

  refused_course : (n : ℕ) (s : S) (ts : List Lexeme) → is_ahead (l.begins s) ts ≡ true → l.refuses s ts ≡ true → Course (way_for n s) ts (refused (Limit l.what) ts)
  refused_course n s [] h k = absurd cc
  refused_course n s (t ∷ ts) h k = (
    [],
    refl,
    none_begins s,
    (λ x more other e.
        let same : t ≡ x = cc in
        let like : Like (t ∷ ts) (x ∷ other) = λ kinds. ap (λ (z : Lexeme). kinds z.kind) (sym same) in
        round_refuses s (x ∷ other) (like (l.begins s) ∙ h) (by_head s (x ∷ other) (t ∷ ts) like ∙ k)),
    (
      t,
      ts,
      refl,
      (
          let b = item_starts s t h in (
            b.0 ++ [],
            free.result (free.next (freed s) b.1),
            Runs.one_more {s = freed s} {u = t ∷ b.0} {v = []} {a = b.1} (free_phrase s (t ∷ b.0) b.1 b.2) (free_ahead s (t ∷ b.0) h) (never_refuses s (t ∷ b.0)) Runs.no_run,
          )),
    ),
  )

  loop_course_by : (n : ℕ) → ((s : S) (ts : List Lexeme) → length ts ≤ n → Course (way_for n s) ts (read_while l s ts)) →
      (s : S) (ts : List Lexeme) → length ts ≤ suc n → (d r : Bool) → is_ahead (l.begins s) ts ≡ d → l.refuses s ts ≡ r → Course (way_for (suc n) s) ts (read_while l s ts)
  loop_course_by n before s ts fits false r h k = subst (Course (way_for (suc n) s) ts) (sym (round_ends s ts h)) (
    [],
    refl,
    Runs.no_run,
    (λ x more other e. round_ends s (x ∷ other) (subst (λ z. is_ahead (l.begins s) z ≡ false) e h)),
    free_ends (suc n) s ts h,
  )
  loop_course_by n before s ts fits true true h k = subst (Course (way_for (suc n) s) ts) (sym (round_refuses s ts h k)) (refused_course (suc n) s ts h k)
  loop_course_by n before s ts fits true false h k = subst (Course (way_for (suc n) s) ts) (sym (round_goes s ts h k))
      (course_for (item_then n s) (way_for (suc n) s) ts (record {
        reads = λ zs like. round_goes s zs (like (l.begins s) ∙ h) (by_head s zs ts like ∙ k);
        free_reads = free_round_goes n s ts h;
        ends = λ u rest b e t. run_on s u b ts rest e h k t;
        begun = λ u rest e started. begun_on s ts u rest e h k started;
        free_begun = λ u x more e long. free_begun_on s ts u x more e h long;
      }) ((item_then n s).read ts)
      (then_course (item s) (λ a. way_for n (l.next s a)) (λ a. none_begins (l.next s a)) (λ a. free_none_begins (l.next s a)) (one s (usable s ts k)).within ts ((item s).read ts) ((one s (usable s ts k)).course ts)
      (λ a rest e. before (l.next s a) rest (omega (arith, fits, shrinks s (usable s ts k) ts a rest (reads_item s ts ∙ e))))))

  loop_course : (n : ℕ) (s : S) (ts : List Lexeme) → length ts ≤ n → Course (way_for n s) ts (read_while l s ts)
  loop_course zero s [] fits = ([], refl, Runs.no_run, (λ x more other e. absurd cc), free_ends zero s [] refl)
  loop_course zero s (t ∷ ts) fits = absurd (omega (arith, fits))
  loop_course (suc n) s ts fits = loop_course_by n (loop_course n) s ts fits (is_ahead (l.begins s) ts) (l.refuses s ts) refl refl

  widened : {s : S} {u : List Lexeme} {b : B} → LowPhrase s u b → FreePhrase (freed s) u b
  widened {s = s} Runs.no_run = subst (FreePhrase (freed s) []) (same_result s) Runs.no_run
  widened {s = s} (Runs.one_more {u = u} {v = v} {a = a} {b = b} h begins allowed others) =
      Runs.one_more {s = freed s} {u = u} {v = v} {a = a} (free_phrase s u a ((one s (usable s u allowed)).within u a h)) (free_ahead s u begins) (never_refuses s u)
      (subst (λ t. FreePhrase t v b) (sym (same_next s a)) (widened others))

  -- the loop, and the one without limits
  abbrev pub loop_way : S → Way B
  loop_way s = record { read = read_while l s; free_read = read_while free (freed s); phrase = LowPhrase s; free = FreePhrase (freed s) }

  course_at : (s : S) (ts : List Lexeme) (o : Outcome B) → Course (way_for (length ts) s) ts o → Course (loop_way s) ts o
  course_at s ts (done b rest) c = c
  course_at s ts (refused Bad rest) c = c
  course_at s ts (refused (Limit what) rest) c = c

  pub loop_within : (s : S) → Within starts (union goes_1 starts) true (loop_way s)
  loop_within s = record {
    within = λ u b h. widened h;
    reads = loop_reads l (λ s. (item s).phrase) first_1 goes_1 starts inside apart by_head Usable usable (λ s. Unit {0}) (λ s a good. tt)
        (λ s good can. record {
          complete = λ u a rest h stops. reads_item s (u ++ rest) ∙ (one s can).reads.complete u a rest h stops;
          first_is = (one s can).reads.first_is;
          not_empty = (one s can).reads.not_empty;
        }) s tt;
    begins = none_begins s;
    course = λ ts. course_at s ts (read_while l s ts) (loop_course (length ts) s ts (omega arith));
  }
