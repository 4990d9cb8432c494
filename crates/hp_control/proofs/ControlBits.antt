-- The diagram of a control bit.
use Rattle.std.proofs.Common.{◌≡◌, ◌∷◌, if◌then◌else◌, inl, inr, ℕ, suc, ◌+◌, ◌≤◌, Bool, true, false, not, ◌&&◌, ◌||◌, List, Option, refl, sym, ap, ap₂, subst, ◌∙◌}
use Rattle.std.specs.Option.{option_map_or}
use Rattle.std.proofs.lemmas.Bool.{cases_eq}
use Rattle.hp_diagram.specs.declared.reference.Ref.{Ref}
use Rattle.hp_diagram.specs.Diagrams.{Diagrams, path_end, function, Has, Means, choice, Keeps, zero_ref, one_ref}
use Rattle.hp_diagram.proofs.Canonical.{with_value, with_value-same, with_value-other}
use Rattle.hp_quant.specs.Replacements.{replaced}
use Rattle.hp_boolx.specs.Search.{Bits, Set, some_of}
use Rattle.hp_boolx.specs.Game.{Game, first_bit}
use Rattle.hp_control.specs.Controlling.{IsOnly, put_in, bit_of, AreLeft}
use Rattle.hp_synth.specs.declared.layout.Layout.{Layout}
use Rattle.hp_synth.specs.Layouts.{place, variable, IsLayout}
use Rattle.hp_synth.specs.Quantified.{IsSomeIn}
use Rattle.hp_synth.specs.Valued.{Valued, Fun, through, over, read, states, earlies, control_from, late_from, OfEarly}
use Rattle.hp_synth.proofs.LayoutLaws.{apart}
use Rattle.hp_synth.proofs.QuantLaws.{own-value, some-own}
use Rattle.hp_synth.proofs.RoundSteps.{Means-equal}
use Rattle.hp_control.proofs.BitFunctions.{Changes, some-rest, bit-is, narrowed}

one-true : (t : Diagrams) (v : Valued) → function t one_ref v ≡ true
unfolding path_end
one-true t v = refl

zero-false : (t : Diagrams) (v : Valued) → function t zero_ref v ≡ false
unfolding path_end
zero-false t v = refl

-- one replacement
only-replaced : (t : Diagrams) (by : List (Option Ref)) (k : ℕ) (r : Ref) → IsOnly by k r → (v : Valued) (y : ℕ) → replaced t by v y ≡ with_value v k (function t r v) y
only-replaced t by k r only v y =
    elim (cases_eq y k) [
      | inl e ↦ subst (λ z. replaced t by v z ≡ with_value v k (function t r v) z) (sym e) (ap (λ o. option_map_or (λ (q : Ref). function t q v) o (v k)) only.at ∙ sym (with_value-same v k (function t r v)))
      | inr differ ↦ ap (λ o. option_map_or (λ (q : Ref). function t q v) o (v y)) (only.others y differ) ∙ sym (with_value-other v k (function t r v) y differ)
    ]

pub put-value : (t : Diagrams) (by : List (Option Ref)) (f : Ref) (k : ℕ) (r : Ref) → IsOnly by k r → (v : Valued) → function t f (replaced t by v) ≡ put_in t f k r v
put-value t by f k r only v = λ i. function t f (λ y. only-replaced t by k r only v y i)

-- ---- a function put in the place of a variable

chosen-value : (F : Bool → Bool) (b : Bool) → (if b then F true else F false) ≡ F b
chosen-value F true = refl
chosen-value F false = refl

module _ (t t1 t2 t3 : Diagrams) (k1 : Keeps t t1) (k2 : Keeps t1 t2) (f r one zero high low : Ref) (k : ℕ) (is_one : one ≡ one_ref) (is_zero : zero ≡ zero_ref) (has_f : Has t f) (has_r : Has t r)
    (mh : Means t1 (put_in t f k one) high) (ml : Means t2 (put_in t1 f k zero) low) where
  pub put-chosen : (s : Ref) → Means t3 (choice t2 r high low) s → Means t3 (put_in t f k r) s
  put-chosen s m =
      let F : Valued → Bool → Bool = λ v b. function t f (with_value v k b) in
      Means-equal t3 (choice t2 r high low) (put_in t f k r) s (λ v.
      let test : function t2 r v ≡ function t r v = k2.functions r (k1.has r has_r) v ∙ k1.functions r has_r v in
      let high_is : function t2 high v ≡ F v true = k2.functions high mh.has v ∙ mh.value v ∙ ap (F v) (ap (λ (q : Ref). function t q v) is_one ∙ one-true t v) in
      let low_is : function t2 low v ≡ F v false = ml.value v ∙ k1.functions f has_f (with_value v k (function t1 zero v)) ∙ ap (F v) (ap (λ (q : Ref). function t1 q v) is_zero ∙ zero-false t1 v) in
      (λ j. if test j then high_is j else low_is j) ∙ chosen-value (F v) (function t r v)) m

-- ---- where variables stand at places

module _ (vars : ℕ) (l : Layout) (is : IsLayout vars l) where
  -- a value at the place of a variable
  changed : (v : Valued) (k : ℕ) (a b : Bool) → a ≡ b → Changes k (through (place l) (with_value v (place l k) a)) (through (place l) v) b
  changed v k a b e = (with_value-same v (place l k) a ∙ e, λ y differ. with_value-other v (place l k) a (place l y) (apart vars l is y k differ))

  module _ (g : Game) (k n : ℕ) (from : control_from g ≤ k) (to : late_from g ≡ suc k + n) (q : Bits → Bits → Set) (p some high low no_low : Ref) (one zero : Ref) (is_one : one ≡ one_ref) (is_zero : zero ≡ zero_ref)
      (t t1 t2 t3 t4 : Diagrams) (k2 : Keeps t1 t2) (k3 : Keeps t2 t3) (k4 : Keeps t3 t4)
      (left : AreLeft g (place l) t k (suc n) q p)
      (late after : ℕ) (is_late : late ≡ late_from g) (is_after : after ≡ suc k)
      (rest : IsSomeIn (place l) after late t1 (function t p) some)
      (mh : Means t2 (put_in t1 some (place l k) one) high) (ml : Means t3 (put_in t2 some (place l k) zero) low) (mn : Means t4 (λ v. not (function t3 low v)) no_low) where
    -- what is left to choose from, and whether some of it is, as functions of the machine's variables
    abbrev choices_left : Fun
    choices_left v = q (states g v) (earlies g v) (read k (suc n) v)

    abbrev some_left : Fun
    some_left v = some_of n (λ c. q (states g v) (earlies g v) (v k ∷ c))

    rest_is : (v : Valued) → function t1 some v ≡ over (place l) some_left v
    rest_is =
        let moved : IsSomeIn (place l) (suc k) (late_from g) t1 (function t p) some = subst (λ a. IsSomeIn (place l) a (late_from g) t1 (function t p) some) is_after (subst (λ m. IsSomeIn (place l) after m t1 (function t p) some) is_late rest) in
        own-value vars l is t1 some some_left
        (some-rest g k n from to choices_left q (λ v. refl) (λ v. function t1 some (through (variable l) v)) (some-own vars l is (suc k) (late_from g) t1 (function t p) choices_left some left.value moved))

    high-value : (v : Valued) → function t4 high v ≡ some_left (through (place l) (with_value v (place l k) (function t1 one v)))
    high-value v = k4.functions high (k3.has high mh.has) v ∙ k3.functions high mh.has v ∙ mh.value v ∙ rest_is (with_value v (place l k) (function t1 one v))

    low-value : (v : Valued) → function t4 no_low v ≡ not (some_left (through (place l) (with_value v (place l k) (function t2 zero v))))
    low-value v = mn.value v ∙ ap (λ a. not a) (ml.value v ∙ k2.functions some rest.has (with_value v (place l k) (function t2 zero v)) ∙ rest_is (with_value v (place l k) (function t2 zero v)))

    both : (b : Bool) (v : Valued) → first_bit b (some_left (through (place l) (with_value v (place l k) (function t1 one v)))) (some_left (through (place l) (with_value v (place l k) (function t2 zero v)))) ≡ bit_of b n (q (states g (through (place l) v)) (earlies g (through (place l) v)))
    both b v =
        bit-is g k n from to choices_left q (λ v. refl) some_left (λ v. refl) b (through (place l) v) (through (place l) (with_value v (place l k) (function t1 one v))) (through (place l) (with_value v (place l k) (function t2 zero v)))
        (changed v k (function t1 one v) true (ap (λ (r : Ref). function t1 r v) is_one ∙ one-true t1 v))
        (changed v k (function t2 zero v) false (ap (λ (r : Ref). function t2 r v) is_zero ∙ zero-false t2 v))

    pub bit-high : (t5 : Diagrams) (b : Bool) (r : Ref) → b ≡ true → Means t5 (λ v. function t4 high v || function t4 no_low v) r → Means t5 (over (place l) (OfEarly g (λ s u. bit_of b n (q s u)))) r
    bit-high t5 b r e m =
        subst (λ b. Means t5 (over (place l) (OfEarly g (λ s u. bit_of b n (q s u)))) r) (sym e)
        (Means-equal t5 _ (over (place l) (OfEarly g (λ s u. bit_of true n (q s u)))) r (λ v. ap₂ (λ a c. a || c) (high-value v) (low-value v) ∙ both true v) m)

    pub bit-low : (t5 : Diagrams) (b : Bool) (r : Ref) → b ≡ false → Means t5 (λ v. function t4 high v && function t4 no_low v) r → Means t5 (over (place l) (OfEarly g (λ s u. bit_of b n (q s u)))) r
    bit-low t5 b r e m =
        subst (λ b. Means t5 (over (place l) (OfEarly g (λ s u. bit_of b n (q s u)))) r) (sym e)
        (Means-equal t5 _ (over (place l) (OfEarly g (λ s u. bit_of false n (q s u)))) r (λ v. ap₂ (λ a c. a && c) (high-value v) (low-value v) ∙ both false v) m)

  -- the bit put in its place leaves the rest
  pub left-behind : (g : Game) (k n : ℕ) → control_from g ≤ k → late_from g ≡ suc k + n → (q : Bits → Bits → Set) (t u : Diagrams) (p f s : Ref) (B : Bits → Set) → AreLeft g (place l) t k (suc n) q p → Means t (over (place l) (OfEarly g B)) f →
      Means u (put_in t p (place l k) f) s → AreLeft g (place l) u (suc k) n (λ r u c. q r u (B r u ∷ c)) s
  left-behind g k n from to q t u p f s B left mf m =
      record {
        has = m.has;
        value = λ v.
            let w = with_value v (place l k) (function t f v) in
            let P : Fun = λ v. q (states g v) (earlies g v) (read k (suc n) v) in
            m.value v ∙ left.value w
            ∙ narrowed g k n from to P q (λ v. refl) (through (place l) w) (through (place l) v) (B (states g (through (place l) v)) (earlies g (through (place l) v))) (changed v k (function t f v) _ (mf.value v));
      }
