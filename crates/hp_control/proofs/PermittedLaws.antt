-- The permitted choices as diagrams, in a table where variables stand at places.
use Rattle.std.proofs.Common.{◌≡◌, ℕ, not, ◌&&◌, List, [], ◌∷◌, refl, sym, ap, ap₂, subst, ◌∙◌}
use Rattle.hp_diagram.specs.declared.reference.Ref.{Ref}
use Rattle.hp_diagram.specs.Diagrams.{Diagrams, function, Means, Keeps}
use Rattle.hp_boolx.specs.Search.{Bits, Set}
use Rattle.hp_boolx.specs.Game.{Game, joined, valid_choice, bad, permitted}
use Rattle.hp_boolx.specs.Solved.{IsChoice}
use Rattle.hp_synth.specs.declared.layout.Layout.{Layout}
use Rattle.hp_synth.specs.Building.{HasEach, functions_at}
use Rattle.hp_synth.specs.Kept.{AllMean}
use Rattle.hp_synth.specs.Layouts.{place, variable, IsLayout}
use Rattle.hp_synth.specs.Quantified.{IsAllIn}
use Rattle.hp_synth.specs.Valued.{Valued, Fun, all, through, over, states, earlies, late_from, total, OfChoice}
use Rattle.hp_synth.proofs.LayoutLaws.{seen, unseen}
use Rattle.hp_synth.proofs.QuantLaws.{late-all}
use Rattle.hp_synth.proofs.RoundSteps.{Means-equal}
use Rattle.hp_control.specs.Controlling.{AreFunctions, AreFunctionsAt}
use Rattle.std.proofs.lemmas.List.Elements.{All-head, All-tail}
use Rattle.hp_diagram.specs.Diagrams.{Has}
use Rattle.std.proofs.Common.{map}

module _ (vars : ℕ) (l : Layout) (is : IsLayout vars l) where
  -- valid, and for all late values not bad
  pub permitted-means : (g : Game) (t t1 t2 t3 : Diagrams) (k1 : Keeps t t1) (k2 : Keeps t1 t2) (choices b good always r : Ref) (from to : ℕ) (X : Set) → from ≡ late_from g → to ≡ total g
      → Means t (over (place l) (OfChoice g (valid_choice g))) choices → Means t (λ v. bad g X (all g (through (place l) v))) b
      → Means t1 (λ v. not (function t b v)) good
      → IsAllIn (place l) from to t2 (function t1 good) always
      → Means t3 (λ v. function t2 choices v && function t2 always v) r
      → Means t3 (over (place l) (OfChoice g (permitted g X))) r
  permitted-means g t t1 t2 t3 k1 k2 choices b good always r from to X ef et mc mb mg every mr =
      let F : Bits → Bits → Bits → Set = λ r u c w. not (bad g X (joined r u c w)) in
      let all_late = late-all vars l is g from to t2 (function t1 good) always F ef et (λ v. mg.value v ∙ ap (λ a. not a) (mb.value v)) every in
      Means-equal t3 _ (over (place l) (OfChoice g (permitted g X))) r (λ v. ap₂ (λ a b. a && b) (k2.functions choices (k1.has choices mc.has) v ∙ k1.functions choices mc.has v ∙ mc.value v) (all_late.value v)) mr

  -- ---- functions of variables that stand at places, over these variables themselves

  abbrev pub own : Diagrams → Ref → Fun
  own t r v = function t r (through (variable l) v)

  pub own-all : (t : Diagrams) (refs : List Ref) → HasEach t refs → AllMean t (map (over (place l)) (map (own t) refs)) refs
  own-all t [] has = tt
  own-all t (r ∷ refs) has = (
    record { has = All-head (Has t) r refs has; value = λ v. ap (function t r) (sym (unseen vars l is v)) },
    own-all t refs (All-tail (Has t) r refs has),
  )

  own-at : (t u : Diagrams) (refs made : List Ref) → AllMean u (map (own t) refs) made → (v : Valued) → functions_at u made v ≡ functions_at t refs (through (variable l) v)
  own-at t u [] [] m v = refl
  own-at t u [] (s ∷ made) m v = absurd m
  own-at t u (r ∷ refs) [] m v = absurd m
  own-at t u (r ∷ refs) (s ∷ made) m v = ap₂ (λ b bs. b ∷ bs) (m.0.value v) (own-at t u refs made m.1 v)

  pub own-functions : (g : Game) (t u : Diagrams) (refs made : List Ref) → AllMean u (map (own t) refs) made → AreFunctionsAt g (place l) t refs → AreFunctions g u made
  own-functions g t u refs made m are v =
      subst (λ bs. IsChoice g (states g v) (earlies g v) bs) (sym (own-at t u refs made m v))
      (subst (λ (w : Valued). IsChoice g (states g w) (earlies g w) (functions_at t refs (through (variable l) v))) (seen vars l is v) (are (through (variable l) v)))
