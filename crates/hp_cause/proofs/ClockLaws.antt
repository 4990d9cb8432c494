-- The names of clocks.
use Rattle.std.proofs.Common.{◌≡◌, ℕ, ◌+◌, ◌<◌, ◌≤◌, get_or, length, drop, reverse, Bool, true, false, if◌then◌else◌, List, [], ◌∷◌, ◌++◌, Option, None, Some, refl, sym, ap, ◌∙◌}
use Rattle.std.specs.Str.{bytes_eq}
use Rattle.std.proofs.lemmas.List.{reverse-append}
use Rattle.hp_base.specs.declared.span.Span.{Span}
use Rattle.hp_tree.specs.declared.decl.Cons.{Cons}
use Rattle.hp_tree.specs.Expressions.{Expr, constant, variable, last_of, one, two, choose, pre, fby, arrow, when_is, merge, call, Exprs, no_expr, more_exprs}
use Rattle.hp_tree.specs.Blocks.{Decl}
use Rattle.hp_tree.specs.Instant.{Clock}
use Rattle.hp_tree.specs.Meaning.{written, clock_in, clock_told, clocks_told, or_clock, or_base, clock_of}
use Rattle.hp_tables.specs.Telling.Tellings.{Told, or_else, tells, tells_in_all, tells_of}
use Rattle.hp_cause.specs.Clocks.{names_told}
use Rattle.hp_cause.specs.Gathering.{names_of_clock}
use Rattle.hp_cause.specs.Tables.{own_path, path_of}
use Rattle.hp_cause.specs.Told.{with_more}
use Rattle.hp_cause.proofs.GrowLaws.{drop-next, drop-end, more-nil, more-append}

-- ---- the names of a path, the last one first

names_of_both : (a b : Clock) → names_of_clock (a ++ b) ≡ names_of_clock a ++ names_of_clock b
names_of_both [] b = refl
names_of_both (on ∷ a) b = ap (λ names. on.1 ∷ names) (names_of_both a b)

pub path-end : (before : List (List ℕ)) (path : List (Cons × List ℕ)) (i : ℕ) → length path ≤ i → before ≡ with_more before (names_of_clock (reverse (drop i path)))
path-end before path i h = sym (more-nil before) ∙ sym (ap (λ more. with_more before (names_of_clock (reverse more))) (drop-end path i h))

pub path-next : (before : List (List ℕ)) (path : List (Cons × List ℕ)) (i k : ℕ) (step : Cons × List ℕ) → k ≡ i + 1 → i < length path → step ≡ get_or path i step
    → with_more (with_more before (names_of_clock (reverse (drop k path)))) (step.1 ∷ []) ≡ with_more before (names_of_clock (reverse (drop i path)))
path-next before path i k step next h p =
    sym (more-append before (names_of_clock (reverse (drop k path))) (step.1 ∷ []))
    ∙ sym (ap (with_more before) (names_of_both (reverse (drop k path)) (step ∷ [])))
    ∙ ap (λ m. with_more before (names_of_clock (reverse (drop m path) ++ step ∷ []))) next
    ∙ sym (ap (λ turned. with_more before (names_of_clock turned)) (reverse-append (step ∷ []) (drop (i + 1) path)))
    ∙ sym (ap (λ more. with_more before (names_of_clock (reverse more))) (drop-next path i step h p))

-- ---- the clock that a block's declaration has written

path_by : (d : Bool) (e : Decl) (c : Clock) (rest : List (Cons × List ℕ)) → c ≡ reverse rest → (if d then written e.clock else c) ≡ reverse (if d then own_path e else rest)
path_by true e c rest h = own e.clock
  where
    own : (o : Option (List (Cons × List ℕ))) → written o ≡ reverse (elim o as (λ _. List (Cons × List ℕ)) [ None ↦ [] | Some path ↦ path ])
    own None = refl
    own (Some path) = refl
path_by false e c rest h = h

pub clock-path : (ds : List Decl) (x : List ℕ) → clock_in ds x ≡ reverse (path_of ds x)
clock-path [] x = refl
clock-path (d ∷ ds) x = path_by (bytes_eq d.name x) d (clock_in ds x) (path_of ds x) (clock-path ds x)

-- ---- what is told

module _ (ds : List Decl) where
  -- the clock that is told has these names
  abbrev Tells : Option Clock → Option Told → Type 0
  Tells None None = Unit {0}
  Tells None (Some t) = ⊥
  Tells (Some c) None = ⊥
  Tells (Some c) (Some t) = names_of_clock c ≡ names_told ds (Some t)

  either : (c d : Option Clock) (s t : Option Told) → Tells c s → Tells d t → Tells (or_clock c d) (or_else s t)
  either None d None t h g = g
  either None d (Some s) t h g = absurd h
  either (Some c) d None t h g = absurd h
  either (Some c) d (Some s) t h g = h

  by_name : (x : List ℕ) → names_of_clock (clock_in ds x) ≡ names_of_clock (reverse (path_of ds x))
  by_name x = ap names_of_clock (clock-path ds x)

  mutual
    told : (e : Expr) → Tells (clock_told ds e) (tells e)
    told (constant s c) = tt
    told (variable s x) = by_name x
    told (last_of s x) = refl
    told (one s o a) = told a
    told (two s o a b) = either (clock_told ds a) (clock_told ds b) (tells a) (tells b) (told a) (told b)
    told (choose s a b c) =
        either (clock_told ds a) (or_clock (clock_told ds b) (clock_told ds c)) (tells a) (or_else (tells b) (tells c)) (told a)
        (either (clock_told ds b) (clock_told ds c) (tells b) (tells c) (told b) (told c))
    told (pre s a) = told a
    told (fby s a b) = either (clock_told ds a) (clock_told ds b) (tells a) (tells b) (told a) (told b)
    told (arrow s a b) = either (clock_told ds a) (clock_told ds b) (tells a) (tells b) (told a) (told b)
    told (when_is s a c x) = ap (λ names. x ∷ names) (by_name x)
    told (merge s x ps) = by_name x
    told (call s f i es) = all_told es

    all_told : (es : Exprs) → Tells (clocks_told ds es) (tells_in_all es)
    all_told no_expr = tt
    all_told (more_exprs e es) = either (clock_told ds e) (clocks_told ds es) (tells e) (tells_in_all es) (told e) (all_told es)

  names_by : (c : Option Clock) (t : Option Told) → Tells c t → names_told ds t ≡ names_of_clock (or_base c)
  names_by None None h = refl
  names_by None (Some t) h = absurd h
  names_by (Some c) None h = absurd h
  names_by (Some c) (Some t) h = sym h

  pub names-told : (ys : List (List ℕ × Span)) (e : Expr) → names_told ds (tells_of ys e) ≡ names_of_clock (clock_of ds ys e)
  names-told [] e = names_by (clock_told ds e) (tells e) (told e)
  names-told (y ∷ ys) e = sym (by_name y.0)
