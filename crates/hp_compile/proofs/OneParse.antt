-- Tokens that are no program are refused at one place, for one cause; a program has none.
use Rattle.std.proofs.Common.{◌≡◌, ◌≢◌, ℕ, List, [], ◌+◌, ◌∷◌, ◌++◌, inl, inr, Some, refl, sym, ap, subst, ◌∙◌, append_assoc}
use Rattle.hp_base.specs.declared.limit.Limit.{Limit}
use Rattle.hp_base.specs.declared.span.Span.{Span}
use Rattle.hp_tree.specs.declared.program.Item.{Item}
use Rattle.hp_parser.specs.Lexemes.{Lexeme}
use Rattle.hp_parser.specs.Programs.{Begins, IsLongProgram, IsProgram}
use Rattle.hp_parser.specs.Refusals.{IsBad, IsDead, IsRefused, PassesLimit, place_of}
use Rattle.hp_parser.specs.Relation.{Phrase}
use Rattle.hp_parser.specs.declared.parsing.ParseErr.{ParseErr}
use Rattle.hp_parser.specs.declared.parsing.ParseErr.TheVariants.{Bad as BadProgram, Limit as PassedLimit, OutOfMemory}
use Rattle.hp_parser.proofs.OneLimit.{one_limit}
use Rattle.hp_parser.proofs.ParseLaws.{equation_facts, expression_facts, only_program, reads_program}
use Rattle.hp_parser.proofs.ProgramLaws.{program_facts}
use Rattle.hp_compile.proofs.FirstOnes.{IsLonger, Parting, head_same, parting}

-- tokens stand for one program
pub one_program : (ts : List Lexeme) (p q : List Item) → IsProgram ts p → IsProgram ts q → p ≡ q
one_program ts p q h k = only_program ts p q (reads_program ts p h) k

-- a program is one without limits, too
is_long : (ts : List Lexeme) (p : List Item) → IsProgram ts p → IsLongProgram ts p
is_long ts p h = (0, ((program_facts (Some 1000) (Some 64) (Some 64) (Some 63) 200 (201 + 0) 64 (65 + 0) (expression_facts 0) (equation_facts 0)).law refl).within ts p h)

long_begins : (ts : List Lexeme) → Begins IsProgram ts → Begins IsLongProgram ts
long_begins ts (v, p, h) = (v, p, is_long (ts ++ v) p h)

-- what begins with tokens begins with the first of them
front_begins : (phrase : Phrase (List Item)) (u : List Lexeme) (x : Lexeme) (v : List Lexeme) → Begins phrase (u ++ x ∷ v) → Begins phrase (u ++ x ∷ [])
front_begins phrase u x v (w, p, h) = (v ++ w, p, subst (λ z. phrase z p) (append_assoc u (x ∷ v) w ∙ sym (append_assoc u (x ∷ []) (v ++ w))) h)

-- ---- where they begin no program

dead_here : (before : List Lexeme) (x : Lexeme) (rest more : List Lexeme) → rest ≡ x ∷ more → IsDead IsLongProgram before rest → Begins IsProgram (before ++ x ∷ []) → ⊥
dead_here before x rest more e dead begun = subst (IsDead IsLongProgram before) e dead (long_begins (before ++ x ∷ []) begun)

module _ (text : List ℕ) (ts : List Lexeme) where
  bad_earlier : (s t : Span) (h : IsBad text ts s) (k : IsBad text ts t) → IsLonger h.before h.rest k.before k.rest → ⊥
  bad_earlier s t h k l = dead_here h.before l.next h.rest (l.more ++ k.rest) l.rest h.dead (front_begins IsProgram h.before l.next l.more (subst (Begins IsProgram) l.longer k.begun))

  bad_by : (s t : Span) (h : IsBad text ts s) (k : IsBad text ts t) → Parting h.before h.rest k.before k.rest → s ≡ t
  bad_by s t h k (inl (p, q)) = h.place ∙ ap (place_of text) q ∙ sym k.place
  bad_by s t h k (inr (inl l)) = absurd (bad_earlier s t h k l)
  bad_by s t h k (inr (inr l)) = absurd (bad_earlier t s k h l)

  one_bad : (s t : Span) → IsBad text ts s → IsBad text ts t → s ≡ t
  one_bad s t h k = bad_by s t h k (parting h.before h.rest k.before k.rest (sym h.split ∙ k.split))

  limit_by : (s t : Span) (limit : Limit) (h : IsBad text ts s) (k : PassesLimit ts t limit) → Parting h.before h.rest k.before (k.next ∷ k.more) → ⊥
  limit_by s t limit h k (inl (p, q)) = subst (IsDead IsLongProgram h.before) q h.dead (subst (λ z. Begins IsLongProgram (z ++ k.next ∷ [])) (sym p) k.long)
  limit_by s t limit h k (inr (inl l)) = dead_here h.before l.next h.rest (l.more ++ k.next ∷ k.more) l.rest h.dead (front_begins IsProgram h.before l.next l.more (subst (Begins IsProgram) l.longer k.begun))
  limit_by s t limit h k (inr (inr l)) =
      let here : k.next ≡ l.next = head_same k.next l.next k.more (l.more ++ h.rest) l.rest in
      let begun : Begins IsProgram (k.before ++ l.next ∷ []) = front_begins IsProgram k.before l.next l.more (subst (Begins IsProgram) l.longer h.begun) in
      k.dead (subst (λ z. Begins IsProgram (k.before ++ z ∷ [])) (sym here) begun)

  not_both : (s t : Span) (limit : Limit) → IsBad text ts s → PassesLimit ts t limit → ⊥
  not_both s t limit h k = limit_by s t limit h k (parting h.before h.rest k.before (k.next ∷ k.more) (sym h.split ∙ k.split))

  limit_same : (s t : Span) (limit other : Limit) → PassesLimit ts s limit → PassesLimit ts t other → PassedLimit s limit ≡ PassedLimit t other
  limit_same s t limit other h k = let one = one_limit ts s t limit other h k in (λ i. PassedLimit (one.1 i) (one.0 i))

  -- one refusal
  pub one_refusal : (e f : ParseErr) → e ≢ OutOfMemory → f ≢ OutOfMemory → IsRefused text ts e → IsRefused text ts f → e ≡ f
  one_refusal (BadProgram s) (BadProgram t) some other h k = ap BadProgram (one_bad s t h k)
  one_refusal (BadProgram s) (PassedLimit t limit) some other h k = absurd (not_both s t limit h k)
  one_refusal (BadProgram s) OutOfMemory some other h k = absurd (other refl)
  one_refusal (PassedLimit s limit) (BadProgram t) some other h k = absurd (not_both t s limit k h)
  one_refusal (PassedLimit s limit) (PassedLimit t passed) some other h k = limit_same s t limit passed h k
  one_refusal (PassedLimit s limit) OutOfMemory some other h k = absurd (other refl)
  one_refusal OutOfMemory f some other h k = absurd (some refl)

  -- ---- a program is refused nowhere

  alive_by : (before rest : List Lexeme) (p : List Item) → ts ≡ before ++ rest → IsDead IsLongProgram before rest → IsProgram ts p → ⊥
  alive_by before [] p e dead h = dead p (is_long before p (subst (λ z. IsProgram z p) (e ∙ append_nothing before) h))
    where
      append_nothing : (xs : List Lexeme) → xs ++ [] ≡ xs
      append_nothing [] = refl
      append_nothing (x ∷ xs) = ap (λ z. x ∷ z) (append_nothing xs)
  alive_by before (x ∷ more) p e dead h = dead (long_begins (before ++ x ∷ []) (more, p, subst (λ z. IsProgram z p) (e ∙ sym (append_assoc before (x ∷ []) more)) h))

  pub none_refused : (p : List Item) (e : ParseErr) → e ≢ OutOfMemory → IsProgram ts p → IsRefused text ts e → ⊥
  none_refused p (BadProgram s) some h k = alive_by k.before k.rest p k.split k.dead h
  none_refused p (PassedLimit s limit) some h k = k.dead (k.more, p, subst (λ z. IsProgram z p) (k.split ∙ sym (append_assoc k.before (k.next ∷ []) k.more)) h)
  none_refused p OutOfMemory some h k = some refl
