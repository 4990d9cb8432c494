-- The clock of a definition, as a path.
use Rattle.std.proofs.Common.{◌≡◌, ℕ, Bool, true, false, if◌then◌else◌, List, [], ◌∷◌, ◌++◌, length, reverse, Option, None, Some, refl, sym, ap, ◌∙◌, arith}
use Rattle.std.proofs.lemmas.List.{length-append, reverse-append}
use Rattle.std.specs.Str.{bytes_eq}
use Rattle.hp_base.specs.declared.span.Span.{Span}
use Rattle.hp_tree.specs.declared.decl.Cons.{Cons}
use Rattle.hp_tree.specs.Expressions.{Expr, constant, variable, last_of, one, two, choose, pre, fby, arrow, when_is, merge, call, Exprs, no_expr, more_exprs}
use Rattle.hp_tree.specs.Blocks.{Decl}
use Rattle.hp_tree.specs.Programs.{TypeDecl}
use Rattle.hp_tree.specs.Operators.{cons_of}
use Rattle.hp_tree.specs.Instant.{Clock}
use Rattle.hp_tree.specs.Meaning.{written, clock_in, or_clock, clock_told, clocks_told, or_base, clock_of}
use Rattle.law_equations.specs.Flattened.Flatten.{When, on, Scope, under}
use Rattle.law_equations.specs.Made.Making.{Known, path_written, path_of, or_told, path_told, paths_told, or_base as base_path, path_for}

abbrev Path : Type 0
Path = List (Cons × List ℕ)

module _ (k : Known) where
  written_path : (o : Option Path) → written o ≡ reverse (path_written o)
  written_path None = refl
  written_path (Some path) = refl

  if_turned : (d : Bool) (c : Clock) (p : Path) (c' : Clock) (p' : Path) → c ≡ reverse p → c' ≡ reverse p' → (if d then c else c') ≡ reverse (if d then p else p')
  if_turned true c p c' p' e f = e
  if_turned false c p c' p' e f = f

  clock_path : (ds : List Decl) (x : List ℕ) → clock_in ds x ≡ reverse (path_of ds x)
  clock_path [] x = refl
  clock_path (d ∷ ds) x = if_turned (bytes_eq d.name x) (written d.clock) (path_written d.clock) (clock_in ds x) (path_of ds x) (written_path d.clock) (clock_path ds x)

  turned : Option Path → Option Clock
  turned None = None
  turned (Some p) = Some (reverse p)

  or_turned : (c d : Option Clock) (p q : Option Path) → c ≡ turned p → d ≡ turned q → or_clock c d ≡ turned (or_told p q)
  unfolding turned
  or_turned c d None q e f = ap (λ c. or_clock c d) e ∙ f
  or_turned c d (Some p) q e f = ap (λ c. or_clock c d) e

  mutual
    unfolding turned

    told_path : (ds : List Decl) (e : Expr) → clock_told ds e ≡ turned (path_told ds e)
    told_path ds (constant s c) = refl
    told_path ds (variable s x) = ap Some (clock_path ds x)
    told_path ds (last_of s x) = refl
    told_path ds (one s o a) = told_path ds a
    told_path ds (two s o a b) = or_turned (clock_told ds a) (clock_told ds b) (path_told ds a) (path_told ds b) (told_path ds a) (told_path ds b)
    told_path ds (choose s a b c) =
        or_turned (clock_told ds a) (or_clock (clock_told ds b) (clock_told ds c)) (path_told ds a) (or_told (path_told ds b) (path_told ds c)) (told_path ds a)
        (or_turned (clock_told ds b) (clock_told ds c) (path_told ds b) (path_told ds c) (told_path ds b) (told_path ds c))
    told_path ds (pre s a) = told_path ds a
    told_path ds (fby s a b) = or_turned (clock_told ds a) (clock_told ds b) (path_told ds a) (path_told ds b) (told_path ds a) (told_path ds b)
    told_path ds (arrow s a b) = or_turned (clock_told ds a) (clock_told ds b) (path_told ds a) (path_told ds b) (told_path ds a) (told_path ds b)
    told_path ds (when_is s a c x) = ap (λ clock. Some ((c, x) ∷ clock)) (clock_path ds x) ∙ ap Some (sym (reverse-append (path_of ds x) ((c, x) ∷ [])))
    told_path ds (merge s x ps) = ap Some (clock_path ds x)
    told_path ds (call s f i es) = told_paths ds es

    told_paths : (ds : List Decl) (es : Exprs) → clocks_told ds es ≡ turned (paths_told ds es)
    told_paths ds no_expr = refl
    told_paths ds (more_exprs e es) = or_turned (clock_told ds e) (clocks_told ds es) (path_told ds e) (paths_told ds es) (told_path ds e) (told_paths ds es)

  based : (o : Option Path) → or_base (turned o) ≡ reverse (base_path o)
  unfolding turned
  based None = refl
  based (Some p) = refl

  pub clock-path : (ds : List Decl) (ys : List (List ℕ × Span)) (e : Expr) → clock_of ds ys e ≡ reverse (path_for ds ys e)
  clock-path ds [] e = ap or_base (told_path ds e) ∙ based (path_told ds e)
  clock-path ds (y ∷ ys) e = clock_path ds y.0

pub under-step : (types : List TypeDecl) (sc : Scope) (c : Clock) (s : Cons × List ℕ) (ck : When) → under types sc (c ++ s ∷ []) ck ≡ under types sc c (on (cons_of types s.0) (sc s.1) ck)
under-step types sc [] s ck = refl
under-step types sc (t ∷ c) s ck = ap (on (cons_of types t.0) (sc t.1)) (under-step types sc c s ck)

pub under-path : (types : List TypeDecl) (sc : Scope) (s : Cons × List ℕ) (path : Path) (ck : When) → under types sc (reverse (s ∷ path)) ck ≡ under types sc (reverse path) (on (cons_of types s.0) (sc s.1) ck)
under-path types sc s path ck = ap (λ c. under types sc c ck) (reverse-append (s ∷ []) path) ∙ under-step types sc (reverse path) s ck

pub path-length : {A : Type 0} (path : List A) → length (reverse path) ≡ length path
path-length [] = refl
path-length (s ∷ path) = ap length (reverse-append (s ∷ []) path) ∙ length-append (reverse path) (s ∷ []) ∙ (let l = path-length path in omega (arith, l))
