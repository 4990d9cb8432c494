-- Definitions: the names on a left side have the wires of what stands on the right.
use Rattle.std.proofs.Common.{◌≡◌, ℕ, ◌+◌, Bool, List, [], ◌∷◌, refl, sym, subst}
use Rattle.hp_base.specs.declared.span.Span.{Span}
use Rattle.hp_base.specs.declared.value.Value.{Value}
use Rattle.hp_tree.specs.Blocks.{Decl}
use Rattle.hp_tree.specs.Expressions.{Expr, constant, variable, last_of, one, two, choose, pre, fby, arrow, when_is, merge, call}
use Rattle.hp_tree.specs.Instant.{Named, Instant}
use Rattle.hp_tree.specs.Meaning.{Names}
use Rattle.hp_meaning.specs.Causal.Points.{Placed}
use Rattle.hp_meaning.specs.Contract.Memory.{number_in}
use Rattle.hp_drawing.specs.declared.parts.Callee.{Callee}
use Rattle.hp_drawing.specs.declared.parts.Value.{Value as Carried}
use Rattle.hp_drawing.specs.Scopes.{Scope, value_in}
use Rattle.hp_drawing.specs.Sketch.{Sketch}
use Rattle.hp_drawing.specs.declared.parts.Place.{Place}
use Rattle.hp_drawing.specs.Told.{Told}
use Rattle.hp_drawing.specs.DrawnExpressions.{Brings, drawn, output}
use Rattle.hp_drawing.specs.DrawnBlocks.{define_name, define_all, define_each, drawn_right}
use Rattle.law_drawing.specs.Carrying.BlockLaws.{AllHave, EachHas, IsSingle}
use Rattle.law_drawing.specs.Carrying.Solving.{Has}
use Rattle.law_drawing.specs.Carrying.Drawing.{IsSolved, IsDrawn, AreOutputs}
use Rattle.law_drawing.proofs.CarryingLemmas.Steps.{both, nothing-drawn, define-drawn}
use Rattle.law_drawing.proofs.CarryingLemmas.Parts.{outputs-more}

module _ (slot : ℕ → ℕ) (next : Instant) (supposes owes : Placed → Bool) (z : Scope) (names : Names) where
  abbrev Values : List ℕ → Type 0
  Values ns = (x : List ℕ) → Has ns (value_in z x).wire (number_in (names x))

  pub all-defined : (ys : List (List ℕ × Span)) (v : Value) (c : Carried) (d : Sketch) (ns : List ℕ) → IsSolved slot d ns → Values ns → Has ns c.wire (number_in v) → AllHave names ys v → IsDrawn slot next supposes owes d ns [] [] (define_all z ys c d) ns
  all-defined [] v c d ns g h k a = nothing-drawn slot next supposes owes d ns g
  all-defined (y ∷ ys) v c d ns g h k a =
      let x = define-drawn slot next supposes owes (value_in z y.0).wire c d ns (number_in v) g (subst (λ n. Has ns (value_in z y.0).wire n) a.0 (h y.0)) k in
      both slot next supposes owes d ns [] [] (define_name z y.0 c d) ns [] [] (define_all z ys c (define_name z y.0 c d)) ns x (all-defined ys v c (define_name z y.0 c d) ns x.solved h k a.1)

  -- or each the output of a call at its place
  output-wire : (c : Callee) (k : ℕ) (d : Sketch) → (output c k d).wire ≡ c.outputs + k
  unfolding output
  output-wire c k d = refl

  pub each-defined : (ys : List (List ℕ × Span)) (ds : List Decl) (now : Instant) (c : Callee) (k : ℕ) (d : Sketch) (ns : List ℕ) → IsSolved slot d ns → Values ns → AreOutputs d ns c now ds k → EachHas names ys ds now → IsDrawn slot next supposes owes d ns [] [] (define_each z c k ys d) ns
  each-defined [] ds now c k d ns g h o e = nothing-drawn slot next supposes owes d ns g
  each-defined (y ∷ ys) [] now c k d ns g h o e = absurd e
  each-defined (y ∷ ys) (q ∷ ds) now c k d ns g h o e =
      let v = output c k d in
      let d1 = define_name z y.0 v d in
      let x = define-drawn slot next supposes owes (value_in z y.0).wire v d ns (number_in (now (Named q.name ∷ []))) g (subst (λ n. Has ns (value_in z y.0).wire n) e.0 (h y.0)) (subst (λ w. Has ns w (number_in (now (Named q.name ∷ [])))) (sym (output-wire c k d)) o.0) in
      both slot next supposes owes d ns [] [] d1 ns [] [] (define_each z c (k + 1) ys d1) ns x
      (each-defined ys ds now c (k + 1) d1 ns x.solved h (outputs-more slot next supposes owes d ns [] [] d1 ns c now ds (k + 1) x o.2) e.1)

-- what is drawn of a right side that is no call
pub single-right : (told : Told) (brings : Brings) (z : Scope) (place : Place) (ys : List (List ℕ × Span)) (e : Expr) (d : Sketch) → IsSingle e → drawn_right told brings z place ys e d ≡ define_all z ys (drawn told brings z place e d).0 (drawn told brings z place e d).1
single-right told brings z place ys (constant a c) d i = refl
single-right told brings z place ys (variable a x) d i = refl
single-right told brings z place ys (last_of a x) d i = refl
single-right told brings z place ys (one a o b) d i = refl
single-right told brings z place ys (two a o b c) d i = refl
single-right told brings z place ys (choose a b c e) d i = refl
single-right told brings z place ys (pre a b) d i = refl
single-right told brings z place ys (fby a b c) d i = refl
single-right told brings z place ys (arrow a b c) d i = refl
single-right told brings z place ys (when_is a b c x) d i = refl
single-right told brings z place ys (merge a x ps) d i = refl
single-right told brings z place ys (call a f inl es) d i = absurd i
