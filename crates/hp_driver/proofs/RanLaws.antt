-- A line of diagnostics that was told only in part.
use Rattle.std.proofs.Common.{◌≡◌, ◌≢◌, ℕ, suc, ◌<◌, inl, inr, List, [], ◌∷◌, ◌++◌, length, take, drop, get_or, refl, sym, ap, subst, ◌∙◌, arith}
use Rattle.std.specs.Prelude.{Option}
use Rattle.std.proofs.lemmas.List.{take-append-drop}
use Rattle.std.proofs.Common.{drop-cons}
use Rattle.hp_io.proofs.ToldLaws.{Loses-nil}
use Rattle.hp_io.specs.Told.{Grows}
use Rattle.hp_driver.specs.Log.{HeardFrom}
use Rattle.hp_io.specs.declared.console.Event.{Event}
use Rattle.hp_driver.specs.Trace.{Machine}
use Rattle.hp_driver.specs.Ran.{Ran, Reports}

-- a list around one of its items
pub around : (xs : List ℕ) (n : ℕ) → n < length xs → (b : ℕ) × (rest : List ℕ) × (take n xs ++ b ∷ rest ≡ xs)
around xs n h = (get_or xs n 0, drop (suc n) xs, ap (λ z. take n xs ++ z) (sym (drop-cons xs n 0 h)) ∙ take-append-drop n xs)

-- what a report tells, and the status that it gives
pub reported : {S : Type 0} (machine : Machine S) (start : S) (log : List Event) (before after : Option (List ℕ)) (line : List ℕ) (status result : ℕ) →
    Reports before after line status result → Ran machine start log line status → (told : List ℕ) × Grows before after told × Ran machine start log told result
reported machine start log before after line status result (inl h) r = (line, h.1, subst (Ran machine start log line) (sym h.0) r)
reported machine start log before after line status result (inr h) r =
    let p = h.1 in
    let a = around line p.0 p.1 in (
      take p.0 line,
      p.2,
      subst (Ran machine start log (take p.0 line)) (sym h.0) (Ran.line_failed (take p.0 line) a.0 a.1 (subst (λ z. Ran machine start log z status) (sym a.2) r)),
    )

-- where a line was to be told with a status other than 0, the call did not end with 0
pub bad_line_not_done : (before after : Option (List ℕ)) (line : List ℕ) (result : ℕ) → Reports before after line 3 result → result ≢ 0
bad_line_not_done before after line result (inl h) done = let e = h.0 in omega (arith, e, done)
bad_line_not_done before after line result (inr h) done = let e = h.0 in omega (arith, e, done)

-- where the input was read to its end no line was told
pub done_line : {S : Type 0} (machine : Machine S) (start : S) (log : List Event) (line : List ℕ) (status : ℕ) → Ran machine start log line status → status ≡ 0 → line ≡ []
done_line machine start log line status Ran.no_memory done = refl
done_line machine start log line status (Ran.done k) done = refl
done_line machine start log line status (Ran.refused bad k) done = absurd (omega (arith, done))
done_line machine start log line status (Ran.take_failed k) done = refl
done_line machine start log line status (Ran.put_failed k) done = refl
done_line machine start log line status (Ran.line_failed l b rest r) done = absurd (omega (arith, done))

-- where nothing happened nothing was heard
pub heard_nothing : (left : Option (List ℕ)) → HeardFrom left left []
heard_nothing left = (Loses-nil left, λ ended. absurd (cc))
