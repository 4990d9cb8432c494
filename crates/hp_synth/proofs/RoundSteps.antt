-- One round of a solver: what each of its diagrams is.
use Rattle.std.proofs.Common.{◌≡◌, ℕ, not, ◌&&◌, ◌||◌, List, Option, Result, Ok, Err, IfOk, ap, ap₂, ◌∙◌}
use Rattle.hp_diagram.specs.declared.reference.Ref.{Ref}
use Rattle.hp_diagram.specs.Diagrams.{Diagrams, function, Means, Keeps}
use Rattle.hp_diagram.proofs.Choices.{Keeps-trans}
use Rattle.hp_quant.specs.Replacements.{replaced}
use Rattle.hp_synth.specs.declared.rounds.Sets.{Sets}
use Rattle.hp_boolx.specs.Search.{Set}
use Rattle.hp_boolx.specs.Game.{Game, bad}
use Rattle.hp_synth.specs.Valued.{Valued, Fun, all, through, over, OfState}
use Rattle.hp_synth.specs.Rounds.{HasSets, bad_of, AreSets}

pub if_ok-map : {A E : Type 0} {P Q : A → Type 0} (r : Result A E) → ((a : A) → P a → Q a) → IfOk r P → IfOk r Q
if_ok-map (Ok a) f h = f a h
if_ok-map (Err e) f h = h

pub if_ok-both : {A E : Type 0} {P Q R : A → Type 0} (r : Result A E) → ((a : A) → P a → Q a → R a) → IfOk r P → IfOk r Q → IfOk r R
if_ok-both (Ok a) f p q = f a p q
if_ok-both (Err e) f p q = p

pub Means-equal : (t : Diagrams) (f h : Fun) (r : Ref) → ((v : Valued) → f v ≡ h v) → Means t f r → Means t h r
Means-equal t f h r e m = record { has = m.has; value = λ v. m.value v ∙ e v }

pub HasSets-keeps : (t u : Diagrams) (s : Sets) → Keeps t u → HasSets t s → HasSets u s
HasSets-keeps t u s k h = record { valid = k.has s.valid h.valid; hyp = k.has s.hyp h.hyp; duty = k.has s.duty h.duty; choices = k.has s.choices h.choices; earlies = k.has s.earlies h.earlies }

module _ (t t1 t2 t3 t4 : Diagrams) (k1 : Keeps t t1) (k2 : Keeps t1 t2) (k3 : Keeps t2 t3) (k4 : Keeps t3 t4) (s : Sets) (by : List (Option Ref)) (x after kept fails both : Ref) (has : HasSets t s)
    (m1 : Means t1 (λ v. function t x (replaced t by v)) after)
    (m2 : Means t2 (λ v. not (function t1 s.duty v)) kept)
    (m3 : Means t3 (λ v. function t2 kept v || function t2 after v) fails)
    (m4 : Means t4 (λ v. function t3 s.hyp v && function t3 fails v) both) where
  pub bad-value : (v : Valued) → (function t4 s.valid v && function t4 both v) ≡ bad_of t s by x v
  bad-value v =
      let k12 = Keeps-trans t t1 t2 k1 k2 in
      let k13 = Keeps-trans t t2 t3 k12 k3 in
      let k14 = Keeps-trans t t3 t4 k13 k4 in
      ap₂ (λ a b. a && b) (k14.functions s.valid has.valid v)
      (m4.value v ∙ ap₂ (λ a b. a && b) (k13.functions s.hyp has.hyp v)
      (m3.value v ∙ ap₂ (λ a b. a || b)
      (m2.value v ∙ ap (λ a. not a) (k1.functions s.duty has.duty v))
      (k2.functions after m1.has v ∙ m1.value v)))

-- ---- in the words of a game

pub bad-in : (g : Game) (place : ℕ → ℕ) (t : Diagrams) (s : Sets) (by : List (Option Ref)) (x : Ref) (X : Set) → AreSets place t s by g → Means t (over place (OfState g X)) x → (v : Valued) → bad_of t s by x v ≡ bad g X (all g (through place v))
bad-in g place t s by x X are is v =
    ap₂ (λ a b. a && b) (are.valid.value v) (ap₂ (λ a b. a && b) (are.hyp.value v) (ap₂ (λ a b. not a || b) (are.duty.value v) (is.value (replaced t by v) ∙ ap X (are.next v))))
