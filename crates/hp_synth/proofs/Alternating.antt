-- One round of a solver: there are early values such that, whatever is chosen, there are late values.
use Rattle.std.proofs.Common.{◌≡◌, ℕ, zero, suc, Bool, true, false, not, ◌&&◌, ◌||◌, IsTrue, List, ◌∷◌, Option, refl, sym, ap, ap₂, ◌∙◌}
use Rattle.hp_diagram.specs.declared.reference.Ref.{Ref}
use Rattle.hp_diagram.specs.Diagrams.{Diagrams, function, Has, Means, Keeps}
use Rattle.hp_diagram.proofs.Choices.{Keeps-trans}
use Rattle.hp_quant.specs.Replacements.{replaced, HasAll}
use Rattle.hp_quant.proofs.Composed.{function-replaced}
use Rattle.hp_boolx.specs.Search.{Bits, Set, some_of, every_of}
use Rattle.hp_boolx.specs.Game.{Game, valid_choice, valid_early, bad, loses, attract, joined}
use Rattle.hp_boolx.proofs.SearchLaws.{some-from}
use Rattle.hp_synth.specs.declared.rounds.Sets.{Sets}
use Rattle.hp_synth.specs.Valued.{Valued, all, through, over, states, earlies, controls, lates, control_from, late_from, OfState}
use Rattle.hp_synth.specs.Rounds.{HasSets, at_once_of, later_of, of_all, alternating, AreSets}
use Rattle.hp_synth.proofs.Ranges.{read-len}

-- ---- what does not read the values that are searched for

or_factor : (a b x y : Bool) → ((a && (b || x)) || (a && (b || y))) ≡ (a && (b || (x || y)))
or_factor false b x y = refl
or_factor true true x y = refl
or_factor true false x y = refl

and_factor : (a x y : Bool) → ((a && x) && (a && y)) ≡ (a && (x && y))
and_factor false x y = refl
and_factor true x y = refl

some-under : (n : ℕ) (a b : Bool) (p : Set) → some_of n (λ w. a && (b || p w)) ≡ (a && (b || some_of n p))
some-under zero a b p = refl
some-under (suc n) a b p = ap₂ (λ x y. x || y) (some-under n a b (λ w. p (true ∷ w))) (some-under n a b (λ w. p (false ∷ w))) ∙ or_factor a b (some_of n (λ w. p (true ∷ w))) (some_of n (λ w. p (false ∷ w)))

every-under : (n : ℕ) (a : Bool) (p : Set) → every_of n (λ c. a && p c) ≡ (a && every_of n p)
every-under zero a p = refl
every-under (suc n) a p = ap₂ (λ x y. x && y) (every-under n a (λ c. p (true ∷ c))) (every-under n a (λ c. p (false ∷ c))) ∙ and_factor a (every_of n (λ c. p (true ∷ c))) (every_of n (λ c. p (false ∷ c)))

-- ---- one round

module _ (g : Game) (X : Set) where
  -- what there is to be a late value for
  abbrev pub threat : Bits → Bits → Bits → Set
  threat r u c w = valid_early g r u && (not (valid_choice g r u c) || bad g X (joined r u c w))

  -- what does not depend on the late values, or on the controls, is moved out
  pub round-is : (r : Bits) → alternating g threat r ≡ attract g X r
  round-is r = λ i. some_of g.early (λ u. by u i)
    where
      by : (u : Bits) → every_of g.control (λ c. some_of g.late (threat r u c)) ≡ (valid_early g r u && loses g X r u)
      by u =
          (λ i. every_of g.control (λ c. some-under g.late (valid_early g r u) (not (valid_choice g r u c)) (λ w. bad g X (joined r u c w)) i))
          ∙ every-under g.control (valid_early g r u) (λ c. not (valid_choice g r u c) || some_of g.late (λ w. bad g X (joined r u c w)))

  -- a valid valuation has valid early values and a valid choice
  valid-choice : (v : Valued) → IsTrue (g.valid (all g v)) → IsTrue (valid_choice g (states g v) (earlies g v) (controls g v))
  valid-choice v h = some-from g.late (λ w. g.valid (joined (states g v) (earlies g v) (controls g v) w)) (lates g v) (read-len (late_from g) g.late v) h

  valid-early : (v : Valued) → IsTrue (g.valid (all g v)) → IsTrue (valid_early g (states g v) (earlies g v))
  valid-early v h = some-from g.control (valid_choice g (states g v) (earlies g v)) (controls g v) (read-len (control_from g) g.control v) (valid-choice v h)

  or_none : (a : Bool) → (a || false) ≡ a
  or_none true = refl
  or_none false = refl

  either_part : (h d x : Bool) → ((h && not d) || (h && x)) ≡ (h && (not d || x))
  either_part false d x = refl
  either_part true d x = refl

  parts : (e c a h d x : Bool) → (IsTrue a → IsTrue c) → (IsTrue a → IsTrue e) → ((e && (not c || (a && (h && not d)))) || ((a && h) && x)) ≡ (e && (not c || (a && (h && (not d || x)))))
  parts e c false h d x choice early = or_none (e && (not c || false))
  parts e c true h d x choice early =
      (λ i. (early refl i && (not (choice refl i) || (h && not d))) || (h && x))
      ∙ either_part h d x
      ∙ (λ i. sym (early refl) i && (not (sym (choice refl) i) || (h && (not d || x))))

  -- what is asked of these threats is the next set
  pub round-means : (place : ℕ → ℕ) (n : Diagrams) (r : Ref) → Means n (over place (OfState g (alternating g threat))) r → Means n (over place (OfState g (attract g X))) r
  round-means place n r m = record { has = m.has; value = λ v. m.value v ∙ round-is (states g (through place v)) }

  module _ (place : ℕ → ℕ) (t u w : Diagrams) (to_u : Keeps t u) (to_w : Keeps u w) (s : Sets) (by : List (Option Ref)) (x now then : Ref) (are : AreSets place t s by g) (has : HasSets t s) (is : Means t (over place (OfState g X)) x)
      (in_now : Means u (at_once_of t s) now) (in_then : Means w (later_of u s by x) then) (kept : (v : Valued) → later_of u s by x v ≡ later_of t s by x v) where
    pub threat-value : (v : Valued) → (function w now v || function w then v) ≡ over place (of_all g threat) v
    threat-value v =
        let own : Valued = through place v in
        ap₂ (λ a b. a || b) (to_w.functions now in_now.has v ∙ in_now.value v) (in_then.value v ∙ kept v)
        ∙ (λ i. (are.earlies.value v i && (not (are.choices.value v i) || (are.valid.value v i && (are.hyp.value v i && not (are.duty.value v i)))))
        || ((are.valid.value v i && are.hyp.value v i) && (is.value (replaced t by v) ∙ ap X (are.next v)) i))
        ∙ parts (valid_early g (states g own) (earlies g own)) (valid_choice g (states g own) (earlies g own) (controls g own)) (g.valid (all g own)) (g.hyp (all g own)) (g.duty (all g own)) (X (g.next (all g own)))
        (valid-choice own) (valid-early own)

-- ---- the parts of a round

module _ (t t1 t2 t3 t4 t5 : Diagrams) (k1 : Keeps t t1) (k2 : Keeps t1 t2) (k3 : Keeps t2 t3) (k4 : Keeps t3 t4) (k5 : Keeps t4 t5) (s : Sets) (has : HasSets t s) (fails meant violates invalid either : Ref)
    (m1 : Means t1 (λ v. not (function t s.duty v)) fails)
    (m2 : Means t2 (λ v. function t1 s.hyp v && function t1 fails v) meant)
    (m3 : Means t3 (λ v. function t2 s.valid v && function t2 meant v) violates)
    (m4 : Means t4 (λ v. not (function t3 s.choices v)) invalid)
    (m5 : Means t5 (λ v. function t4 invalid v || function t4 violates v) either) where
  pub at_once-value : (v : Valued) → (function t5 s.earlies v && function t5 either v) ≡ at_once_of t s v
  at_once-value v =
      let to_2 = Keeps-trans t t1 t2 k1 k2 in
      let to_3 = Keeps-trans t t2 t3 to_2 k3 in
      let to_4 = Keeps-trans t t3 t4 to_3 k4 in
      let to_5 = Keeps-trans t t4 t5 to_4 k5 in
      ap₂ (λ a b. a && b) (to_5.functions s.earlies has.earlies v)
      (m5.value v ∙ ap₂ (λ a b. a || b)
      (m4.value v ∙ ap (λ a. not a) (to_3.functions s.choices has.choices v))
      (k4.functions violates m3.has v ∙ m3.value v ∙ ap₂ (λ a b. a && b) (to_2.functions s.valid has.valid v)
      (m2.value v ∙ ap₂ (λ a b. a && b) (k1.functions s.hyp has.hyp v) (m1.value v))))

module _ (t t1 t2 : Diagrams) (k1 : Keeps t t1) (k2 : Keeps t1 t2) (s : Sets) (by : List (Option Ref)) (x meant after : Ref) (all_of : HasAll t by) (has : Has t x)
    (m1 : Means t1 (λ v. function t s.valid v && function t s.hyp v) meant)
    (m2 : Means t2 (λ v. function t1 x (replaced t1 by v)) after) where
  pub later-value : (v : Valued) → (function t2 meant v && function t2 after v) ≡ later_of t s by x v
  later-value v =
      ap₂ (λ a b. a && b) (k2.functions meant m1.has v ∙ m1.value v)
      (m2.value v ∙ function-replaced t t1 by k1 all_of x has v)

pub later-keeps : (t u : Diagrams) (s : Sets) (by : List (Option Ref)) (x : Ref) → Keeps t u → HasAll t by → HasSets t s → Has t x → (v : Valued) → later_of u s by x v ≡ later_of t s by x v
later-keeps t u s by x keeps all_of has has_x v =
    ap₂ (λ a b. a && b) (ap₂ (λ a b. a && b) (keeps.functions s.valid has.valid v) (keeps.functions s.hyp has.hyp v)) (function-replaced t u by keeps all_of x has_x v)
