-- The clock of a definition is on the path that is told.
use Rattle.std.proofs.Common.{◌≡◌, ℕ, List, [], ◌∷◌, Option, None, Some, option_map, refl, ◌∙◌}
use Rattle.hp_base.specs.declared.span.Span.{Span}
use Rattle.hp_tree.specs.declared.decl.Cons.{Cons}
use Rattle.hp_tree.specs.Expressions.{Expr, constant, variable, last_of, one, two, choose, pre, fby, arrow, when_is, merge, call, Exprs, no_expr, more_exprs}
use Rattle.hp_tree.specs.Blocks.{Decl}
use Rattle.law_equations.specs.Made.Making.{or_base, or_told, path_for, path_told, paths_told}
use Rattle.hp_tables.specs.Telling.Tellings.{Told, or_else, tells, tells_in_all, tells_of}
use Rattle.hp_complete.specs.Tellings.{told_path}

module _ (ds : List Decl) where
  abbrev path : Told → List (Cons × List ℕ)
  path t = told_path ds (Some t)

  either : (s t : Option Told) → option_map path (or_else s t) ≡ or_told (option_map path s) (option_map path t)
  either None t = refl
  either (Some s) t = refl

  mutual
    told : (e : Expr) → option_map path (tells e) ≡ path_told ds e
    told (constant s c) = refl
    told (variable s x) = refl
    told (last_of s x) = refl
    told (one s o a) = told a
    told (two s o a b) = either (tells a) (tells b) ∙ (λ j. or_told (told a j) (told b j))
    told (choose s a b c) =
        either (tells a) (or_else (tells b) (tells c)) ∙ (λ j. or_told (told a j) (either (tells b) (tells c) j)) ∙ (λ j. or_told (path_told ds a) (or_told (told b j) (told c j)))
    told (pre s a) = told a
    told (fby s a b) = either (tells a) (tells b) ∙ (λ j. or_told (told a j) (told b j))
    told (arrow s a b) = either (tells a) (tells b) ∙ (λ j. or_told (told a j) (told b j))
    told (when_is s a c x) = refl
    told (merge s x ps) = refl
    told (call s f i es) = all_told es

    all_told : (es : Exprs) → option_map path (tells_in_all es) ≡ paths_told ds es
    all_told no_expr = refl
    all_told (more_exprs e es) = either (tells e) (tells_in_all es) ∙ (λ j. or_told (told e j) (all_told es j))

  based : (t : Option Told) → told_path ds t ≡ or_base (option_map path t)
  based None = refl
  based (Some t) = refl

  pub path-told : (ys : List (List ℕ × Span)) (e : Expr) → told_path ds (tells_of ys e) ≡ path_for ds ys e
  path-told [] e = based (tells e) ∙ (λ j. or_base (told e j))
  path-told (y ∷ ys) e = refl
