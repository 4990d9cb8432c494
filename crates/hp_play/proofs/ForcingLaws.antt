-- The early values by which every choice loses, as diagrams and in the words of the game.
use Rattle.std.proofs.Common.{◌≡◌, ℕ, not, ◌&&◌, ◌||◌, IsTrue, length, ap, ap₂, ◌∙◌}
use Rattle.std.proofs.lemmas.Bool.{and_parts}
use Rattle.hp_diagram.specs.declared.reference.Ref.{Ref}
use Rattle.hp_diagram.specs.Diagrams.{Diagrams, function, Means, Keeps}
use Rattle.hp_diagram.proofs.Choices.{Keeps-trans}
use Rattle.hp_boolx.specs.Search.{Bits, Set, some_of}
use Rattle.hp_boolx.specs.Game.{Game, IsForm, Forced, joined, valid_choice, valid_early, bad, loses}
use Rattle.hp_boolx.proofs.GameLaws.{Tells, early-found, loses-told}
use Rattle.hp_synth.specs.declared.layout.Layout.{Layout}
use Rattle.hp_synth.specs.Layouts.{place, IsLayout}
use Rattle.hp_synth.specs.Quantified.{IsSomeIn, IsAllIn}
use Rattle.hp_synth.specs.Valued.{all, through, over, control_from, late_from, total, OfEarly, OfChoice}
use Rattle.hp_synth.proofs.QuantLaws.{late-some, control-all}
use Rattle.hp_synth.proofs.RoundSteps.{Means-equal}
use Rattle.hp_play.specs.Plays.{LosesIn}

module _ (vars : ℕ) (l : Layout) (is : IsLayout vars l) where
  -- valid, and for each choice it is not valid or some late values are bad
  pub forcing-means : (g : Game) (t t1 t2 t3 t4 t5 : Diagrams) (k1 : Keeps t t1) (k2 : Keeps t1 t2) (k3 : Keeps t2 t3) (k4 : Keeps t3 t4) (choices earlies worse answered invalid either lost r : Ref) (from late to : ℕ) (X : Set)
      → from ≡ control_from g → late ≡ late_from g → to ≡ total g
      → Means t (over (place l) (OfChoice g (valid_choice g))) choices → Means t (over (place l) (OfEarly g (valid_early g))) earlies → Means t (λ v. bad g X (all g (through (place l) v))) worse
      → IsSomeIn (place l) late to t1 (function t worse) answered
      → Means t2 (λ v. not (function t1 choices v)) invalid
      → Means t3 (λ v. function t2 invalid v || function t2 answered v) either
      → IsAllIn (place l) from late t4 (function t3 either) lost
      → Means t5 (λ v. function t4 earlies v && function t4 lost v) r
      → Means t5 (over (place l) (OfEarly g (λ r u. valid_early g r u && loses g X r u))) r
  forcing-means g t t1 t2 t3 t4 t5 k1 k2 k3 k4 choices earlies worse answered invalid either lost r from late to X ef el et mc me mw some mi meither every mr =
      let F : Bits → Bits → Bits → Set = λ r u c w. bad g X (joined r u c w) in
      let G : Bits → Bits → Set = λ r u c. not (valid_choice g r u c) || some_of g.late (F r u c) in
      let some_late = late-some vars l is g late to t1 (function t worse) answered F el et mw.value some in
      let all_control = control-all vars l is g from late t4 (function t3 either) lost G ef el (λ v. meither.value v
      ∙ ap₂ (λ a b. a || b) (mi.value v ∙ ap (λ a. not a) (k1.functions choices mc.has v ∙ mc.value v)) (k2.functions answered some_late.has v ∙ some_late.value v)) every in
      let to_4 = Keeps-trans t t3 t4 (Keeps-trans t t2 t3 (Keeps-trans t t1 t2 k1 k2) k3) k4 in
      Means-equal t5 _ (over (place l) (OfEarly g (λ r u. valid_early g r u && loses g X r u))) r
      (λ v. ap₂ (λ a b. a && b) (to_4.functions earlies me.has v ∙ me.value v) (all_control.value v)) mr

-- in words
pub loses-in : (g : Game) → IsForm g → (n : ℕ) (X : Set) → Tells g X (Forced g n) → (r u : Bits) → length u ≡ g.early → IsTrue (valid_early g r u && loses g X r u) → LosesIn g n r u
loses-in g form n X tells r u e h =
    let both = and_parts (valid_early g r u) (loses g X r u) h in
    (early-found g r u e both.0, (loses-told g form X (Forced g n) tells r u).0 both.1)
