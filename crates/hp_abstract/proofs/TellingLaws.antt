-- What an expression tells of its clock is drawn.
use Rattle.std.proofs.Common.{◌≡◌, ℕ, List, [], ◌∷◌, Option, None, Some, refl, ◌∙◌}
use Rattle.hp_base.specs.declared.span.Span.{Span}
use Rattle.hp_tree.specs.Expressions.{Expr, constant, variable, last_of, one, two, choose, pre, fby, arrow, when_is, merge, call, Exprs, no_expr, more_exprs}
use Rattle.hp_tables.specs.Telling.Tellings as told
use Rattle.hp_tables.specs.Telling.Tellings.{Told, as_of, one_more, or_else, tells_in_all, tells_of}
use Rattle.hp_drawing.specs.DrawnBlocks.{or_telling, tells, tells_all, told_by}
use Rattle.hp_abstract.specs.Telling.{as_drawn}

either : (s t : Option Told) → as_drawn (or_else s t) ≡ or_telling (as_drawn s) (as_drawn t)
either None t = refl
either (Some told.at_base) t = refl
either (Some (as_of x)) t = refl
either (Some (one_more c x)) t = refl

mutual
  drawn : (e : Expr) → as_drawn (told.tells e) ≡ tells e
  drawn (constant q c) = refl
  drawn (variable q x) = refl
  drawn (last_of q x) = refl
  drawn (one q o a) = drawn a
  drawn (two q o a b) = either (told.tells a) (told.tells b) ∙ (λ j. or_telling (drawn a j) (drawn b j))
  drawn (choose q a b c) =
      either (told.tells a) (or_else (told.tells b) (told.tells c))
      ∙ (λ j. or_telling (drawn a j) (either (told.tells b) (told.tells c) j))
      ∙ (λ j. or_telling (tells a) (or_telling (drawn b j) (drawn c j)))
  drawn (pre q a) = drawn a
  drawn (fby q a b) = either (told.tells a) (told.tells b) ∙ (λ j. or_telling (drawn a j) (drawn b j))
  drawn (arrow q a b) = either (told.tells a) (told.tells b) ∙ (λ j. or_telling (drawn a j) (drawn b j))
  drawn (when_is q a c x) = refl
  drawn (merge q x ps) = refl
  drawn (call q f inlined es) = drawn-all es

  drawn-all : (es : Exprs) → as_drawn (tells_in_all es) ≡ tells_all es
  drawn-all no_expr = refl
  drawn-all (more_exprs e es) = either (told.tells e) (tells_in_all es) ∙ (λ j. or_telling (drawn e j) (drawn-all es j))

pub told-drawn : (xs : List (List ℕ × Span)) (e : Expr) → as_drawn (tells_of xs e) ≡ told_by xs e
told-drawn [] e = drawn e
told-drawn (p ∷ ps) e = refl
