-- What is asked over marked variables, as quantifiers over valuations.
use Rattle.std.proofs.Common.{◌≡◌, ◌↔◌, ◌⊎◌, inl, inr, ℕ, zero, suc, ◌+◌, ◌<◌, ◌≤◌, Bool, true, false, ◌&&◌, ◌||◌, IsTrue, List, Result, Ok, Err, IfOk, refl, sym, ap, subst, ◌∙◌, arith, if◌then◌else◌, true≢false}
use Rattle.std.proofs.lemmas.Bool.{cases_lt}
use Rattle.hp_diagram.specs.declared.reference.Ref.{Ref}
use Rattle.hp_diagram.specs.Diagrams.{Diagrams, function, Has, Keeps, zero_ref}
use Rattle.hp_diagram.proofs.Canonical.{Valuation, with_value-same, with_value-other}
use Rattle.hp_diagram.proofs.Kept.{function-zero}
use Rattle.hp_quant.specs.declared.turns.Way.TheVariants.{Stays, Either, Both}
use Rattle.hp_quant.specs.declared.turns.Plan.{Plan}
use Rattle.hp_quant.specs.declared.pair.Pair.{Pair}
use Rattle.hp_quant.specs.Quantifiers.{DifferAt, SomeAt, AllAt, IsSomeAt, IsAllAt, IsEitherAt, MarksRange, DifferWithin, IsExists, IsForall}
use Rattle.hp_quant.specs.Turns.{Fun, marked, way_of, by_way, changed, asked, either, of_pair, Answers}
use Rattle.hp_quant.proofs.Sought.{of_pair-keeps}

iff-trans : {A B C : Type 0} → (A ↔ B) → (B ↔ C) → (A ↔ C)
iff-trans p q = (λ a. q.0 (p.0 a), λ c. p.1 (q.1 c))

true-same : (a b : Bool) → a ≡ b → IsTrue a ↔ IsTrue b
true-same a b e = (λ h. sym e ∙ h, λ h. e ∙ h)

or_is : (a b : Bool) → IsTrue (a || b) ↔ (IsTrue a ⊎ IsTrue b)
or_is true b = (λ e. inl refl, λ _. refl)
or_is false b = (λ e. inr e, elim [ inl e ↦ absurd (true≢false (sym e)) | inr e ↦ e ])

and_is : (a b : Bool) → IsTrue (a && b) ↔ (IsTrue a × IsTrue b)
and_is true b = (λ e. (refl, e), λ p. p.1)
and_is false b = (λ e. absurd (true≢false (sym e)), λ p. absurd (true≢false (sym p.0)))

module _ (of : List Bool) where
  -- the variable is not marked, or not one of n from x on
  abbrev Kept : ℕ → ℕ → ℕ → Type 0
  Kept x n y = (marked of y ≡ false) ⊎ (y < x) ⊎ (x + n ≤ y)

  -- the valuations differ at most at the marked ones of n variables from x on
  abbrev DifferOver : ℕ → ℕ → Valuation → Valuation → Type 0
  DifferOver x n v w = (y : ℕ) → Kept x n y → v y ≡ w y

  nowhere : (x : ℕ) (v w : Valuation) → DifferOver x 0 v w → v ≡ w
  nowhere x v w differ = λ j y. differ y (elim (cases_lt y x) [ inl lt ↦ inr (inl lt) | inr ge ↦ inr (inr (omega (arith, ge))) ]) j

  -- one variable more, which is marked
  differ-more : (x n : ℕ) (v w : Valuation) (c : Bool) → IsTrue (marked of x) → DifferOver (suc x) n (changed v x c) w → DifferOver x (suc n) v w
  differ-more x n v w c is differ y (inl not_marked) =
      sym (with_value-other v x c y (λ e. true≢false (sym is ∙ ap (marked of) (sym e) ∙ not_marked))) ∙ differ y (inl not_marked)
  differ-more x n v w c is differ y (inr (inl before)) = sym (with_value-other v x c y (λ e. absurd (omega (arith, e, before)))) ∙ differ y (inr (inl (omega (arith, before))))
  differ-more x n v w c is differ y (inr (inr behind)) = sym (with_value-other v x c y (λ e. absurd (omega (arith, e, behind)))) ∙ differ y (inr (inr (omega (arith, behind))))

  differ-less : (x n : ℕ) (v w : Valuation) (c : Bool) → w x ≡ c → DifferOver x (suc n) v w → DifferOver (suc x) n (changed v x c) w
  differ-less x n v w c at differ y out =
      elim (cases_lt y x) [
        | inl lt ↦ with_value-other v x c y (λ e. absurd (omega (arith, e, lt))) ∙ differ y (inr (inl lt))
        | inr ge ↦ elim (cases_lt x y) [
          | inl gt ↦ with_value-other v x c y (λ e. absurd (omega (arith, e, gt))) ∙ differ y (kept-less out gt)
          | inr le ↦ let e : y ≡ x = omega (arith, ge, le) in ap (changed v x c) e ∙ with_value-same v x c ∙ sym at ∙ ap w (sym e)
        ]
      ]
    where
      kept-less : Kept (suc x) n y → x < y → Kept x (suc n) y
      kept-less (inl not_marked) gt = inl not_marked
      kept-less (inr (inl before)) gt = absurd (omega (arith, before, gt))
      kept-less (inr (inr behind)) gt = inr (inr (omega (arith, behind)))

  -- one variable more, which is not marked
  differ-over : (x n : ℕ) (v w : Valuation) → DifferOver (suc x) n v w → DifferOver x (suc n) v w
  differ-over x n v w differ y (inl not_marked) = differ y (inl not_marked)
  differ-over x n v w differ y (inr (inl before)) = differ y (inr (inl (omega (arith, before))))
  differ-over x n v w differ y (inr (inr behind)) = differ y (inr (inr (omega (arith, behind))))

  differ-back : (x n : ℕ) (v w : Valuation) → marked of x ≡ false → DifferOver x (suc n) v w → DifferOver (suc x) n v w
  differ-back x n v w is differ y (inl not_marked) = differ y (inl not_marked)
  differ-back x n v w is differ y (inr (inr behind)) = differ y (inr (inr (omega (arith, behind))))
  differ-back x n v w is differ y (inr (inl before)) =
      elim (cases_lt y x) [
        | inl lt ↦ differ y (inr (inl lt))
        | inr ge ↦ let e : y ≡ x = omega (arith, before, ge) in differ y (inl (ap (marked of) e ∙ is))
      ]

  -- ---- some values

  abbrev SomeOver : ℕ → ℕ → Fun → Valuation → Type 0
  SomeOver x n f v = (w : Valuation) × DifferOver x n v w × IsTrue (f w)

  some-step : (x : ℕ) (here low high : Bool) (c : Bool) → marked of x ≡ c → by_way (way_of false of x) here low high ≡ (if c then (low || high) else here)
  some-step x here low high true e = ap (λ b. by_way (if b then Either else Stays) here low high) e
  some-step x here low high false e = ap (λ b. by_way (if b then Either else Stays) here low high) e

  some-next : (n x : ℕ) (f : Fun) (v : Valuation) → ((u : Valuation) → IsTrue (asked (way_of false of) n (suc x) f u) ↔ SomeOver (suc x) n f u) → IsTrue (asked (way_of false of) (suc n) x f v) ↔ SomeOver x (suc n) f v
  some-next n x f v rest = by (marked of x) refl
    where
      here : Bool
      here = asked (way_of false of) n (suc x) f v

      low : Bool
      low = asked (way_of false of) n (suc x) f (changed v x false)

      high : Bool
      high = asked (way_of false of) n (suc x) f (changed v x true)

      by : (c : Bool) → marked of x ≡ c → IsTrue (by_way (way_of false of x) here low high) ↔ SomeOver x (suc n) f v
      by false e =
          let here_is = rest v in
          iff-trans (true-same _ _ (some-step x here low high false e)) (
            λ h. let p = here_is.0 h in (p.0, differ-over x n v p.0 p.1, p.2),
            λ p. here_is.1 (p.0, differ-back x n v p.0 e p.1, p.2),
          )
      by true e =
          let in_low = rest (changed v x false) in
          let in_high = rest (changed v x true) in
          let up : (w : Valuation) → DifferOver x (suc n) v w → IsTrue (f w) → (c : Bool) → w x ≡ c → IsTrue low ⊎ IsTrue high =
          λ w differ is c. (elim c as (λ c. w x ≡ c → IsTrue low ⊎ IsTrue high) [
            | true ↦ λ at. inr (in_high.1 (w, differ-less x n v w true at differ, is))
            | false ↦ λ at. inl (in_low.1 (w, differ-less x n v w false at differ, is))
          ]) in
          iff-trans (true-same _ _ (some-step x here low high true e)) (iff-trans (or_is low high) (
            λ h. elim h [
              | inl is ↦ let p = in_low.0 is in (p.0, differ-more x n v p.0 false e p.1, p.2)
              | inr is ↦ let p = in_high.0 is in (p.0, differ-more x n v p.0 true e p.1, p.2)
            ],
            λ p. up p.0 p.1 p.2 (p.0 x) refl,
          ))

  pub asked-some : (n x : ℕ) (f : Fun) (v : Valuation) → IsTrue (asked (way_of false of) n x f v) ↔ SomeOver x n f v
  asked-some zero x f v =
      (λ e. (v, (λ y out. refl), e), λ p. subst (λ (w : Valuation). IsTrue (f w)) (sym (nowhere x v p.0 p.1)) p.2)
  asked-some (suc n) x f v = some-next n x f v (asked-some n (suc x) f)

  -- ---- all values

  abbrev AllOver : ℕ → ℕ → Fun → Valuation → Type 0
  AllOver x n f v = (w : Valuation) → DifferOver x n v w → IsTrue (f w)

  all-step : (x : ℕ) (here low high : Bool) (c : Bool) → marked of x ≡ c → by_way (way_of true of x) here low high ≡ (if c then (low && high) else here)
  all-step x here low high true e = ap (λ b. by_way (if b then Both else Stays) here low high) e
  all-step x here low high false e = ap (λ b. by_way (if b then Both else Stays) here low high) e

  all-next : (n x : ℕ) (f : Fun) (v : Valuation) → ((u : Valuation) → IsTrue (asked (way_of true of) n (suc x) f u) ↔ AllOver (suc x) n f u) → IsTrue (asked (way_of true of) (suc n) x f v) ↔ AllOver x (suc n) f v
  all-next n x f v rest = by (marked of x) refl
    where
      here : Bool
      here = asked (way_of true of) n (suc x) f v

      low : Bool
      low = asked (way_of true of) n (suc x) f (changed v x false)

      high : Bool
      high = asked (way_of true of) n (suc x) f (changed v x true)

      by : (c : Bool) → marked of x ≡ c → IsTrue (by_way (way_of true of x) here low high) ↔ AllOver x (suc n) f v
      by false e =
          let here_is = rest v in
          iff-trans (true-same _ _ (all-step x here low high false e)) (
            λ h w differ. here_is.0 h w (differ-back x n v w e differ),
            λ all. here_is.1 (λ w differ. all w (differ-over x n v w differ)),
          )
      by true e =
          let in_low = rest (changed v x false) in
          let in_high = rest (changed v x true) in
          let down : IsTrue low × IsTrue high → (w : Valuation) → DifferOver x (suc n) v w → (c : Bool) → w x ≡ c → IsTrue (f w) =
          λ is w differ c. (elim c as (λ c. w x ≡ c → IsTrue (f w)) [
            | true ↦ λ at. in_high.0 is.1 w (differ-less x n v w true at differ)
            | false ↦ λ at. in_low.0 is.0 w (differ-less x n v w false at differ)
          ]) in
          iff-trans (true-same _ _ (all-step x here low high true e)) (iff-trans (and_is low high) (
            λ is w differ. down is w differ (w x) refl,
            λ all. (in_low.1 (λ w differ. all w (differ-more x n v w false e differ)), in_high.1 (λ w differ. all w (differ-more x n v w true e differ))),
          ))

  pub asked-all : (n x : ℕ) (f : Fun) (v : Valuation) → IsTrue (asked (way_of true of) n x f v) ↔ AllOver x n f v
  asked-all zero x f v =
      (λ e w differ. subst (λ (w : Valuation). IsTrue (f w)) (nowhere x v w differ) e, λ all. all v (λ y out. refl))
  asked-all (suc n) x f v = all-next n x f v (asked-all n (suc x) f)

  -- ---- all variables

  module _ (end : ℕ) (none : (x : ℕ) → end ≤ x → marked of x ≡ false) where
    differ-whole : (v w : Valuation) → DifferOver 0 end v w ↔ DifferAt of v w
    differ-whole v w = (
      λ differ y not_marked. differ y (inl not_marked),
      λ differ y out. elim out [
        | inl not_marked ↦ differ y not_marked
        | inr (inl before) ↦ absurd (omega (arith, before))
        | inr (inr behind) ↦ differ y (none y (omega (arith, behind)))
      ],
    )

    pub some-marked : (f : Fun) (v : Valuation) → IsTrue (asked (way_of false of) end 0 f v) ↔ SomeAt of f v
    some-marked f v =
        iff-trans (asked-some end 0 f v) (λ p. (p.0, (differ-whole v p.0).0 p.1, p.2), λ p. (p.0, (differ-whole v p.0).1 p.1, p.2))

    pub all-marked : (f : Fun) (v : Valuation) → IsTrue (asked (way_of true of) end 0 f v) ↔ AllAt of f v
    all-marked f v =
        iff-trans (asked-all end 0 f v) (λ all w differ. all w ((differ-whole v w).1 differ), λ all w differ. all w ((differ-whole v w).0 differ))

-- ---- the answers, in the words of the table before

module _ (old new : Diagrams) (keeps : Keeps old new) (of : List Bool) where
  -- what is answered, of functions of the table before
  answer-old : (plan : Plan) (p : Pair) (s : Ref) → Has old p.f → Has old p.g → Answers new plan of p s → (v : Valuation) → function new s v ≡ asked (way_of plan.all of) plan.end 0 (either (function old p.f) (function old p.g)) v
  unfolding of_pair
  answer-old plan p s has_f has_g a v = a.value v ∙ of_pair-keeps old new plan of keeps p has_f has_g v

  -- the answer of a pass, whose plan ends behind the last mark
  abbrev Answered : Bool → Pair → Ref → Type 0
  Answered all p s = (end : ℕ) × ((x : ℕ) → end ≤ x → marked of x ≡ false) × Answers new (record { all = all; end = end }) of p s

  either-zero : (f r : Ref) → f ≡ zero_ref → (w : Valuation) → (function old f w || function old r w) ≡ function old r w
  either-zero f r is w = ap (λ c. c || function old r w) (function-zero old w f (ap (λ (k : Ref). k.index) is))

  some-either : (p : Pair) (s : Ref) → Has old p.f → Has old p.g → Answered false p s → (v : Valuation) → IsTrue (function new s v) ↔ SomeAt of (either (function old p.f) (function old p.g)) v
  some-either p s has_f has_g a v =
      iff-trans (true-same _ _ (answer-old (record { all = false; end = a.0 }) p s has_f has_g a.2 v)) (some-marked of a.0 a.1 (either (function old p.f) (function old p.g)) v)

  all-either : (p : Pair) (s : Ref) → Has old p.f → Has old p.g → Answered true p s → (v : Valuation) → IsTrue (function new s v) ↔ AllAt of (either (function old p.f) (function old p.g)) v
  all-either p s has_f has_g a v =
      iff-trans (true-same _ _ (answer-old (record { all = true; end = a.0 }) p s has_f has_g a.2 v)) (all-marked of a.0 a.1 (either (function old p.f) (function old p.g)) v)

  pub IfOk-either : {E : Type 0} (f g : Ref) → Has old f → Has old g → (o : Result Ref E) → IfOk o (Answered false (record { f = f; g = g })) → IfOk o (IsEitherAt old new of f g)
  IfOk-either f g has_f has_g (Ok s) a = record { has = a.2.has; value = some-either (record { f = f; g = g }) s has_f has_g a }
  IfOk-either f g has_f has_g (Err e) a = tt

  pub IfOk-some : {E : Type 0} (f r : Ref) → f ≡ zero_ref → Has old r → (o : Result Ref E) → IfOk o (Answered false (record { f = f; g = r })) → IfOk o (IsSomeAt old new of r)
  IfOk-some f r is has (Ok s) a =
      let index : f.index ≡ 0 = ap (λ (k : Ref). k.index) is in
      let here : Has old f = omega (arith, index) in
      record {
        has = a.2.has;
        value = λ v. iff-trans (some-either (record { f = f; g = r }) s here has a v)
            (λ p. (p.0, p.1, sym (either-zero f r is p.0) ∙ p.2), λ p. (p.0, p.1, either-zero f r is p.0 ∙ p.2));
      }
  IfOk-some f r is has (Err e) a = tt

  pub IfOk-all : {E : Type 0} (f r : Ref) → f ≡ zero_ref → Has old r → (o : Result Ref E) → IfOk o (Answered true (record { f = f; g = r })) → IfOk o (IsAllAt old new of r)
  IfOk-all f r is has (Ok s) a =
      let index : f.index ≡ 0 = ap (λ (k : Ref). k.index) is in
      let here : Has old f = omega (arith, index) in
      record {
        has = a.2.has;
        value = λ v. iff-trans (all-either (record { f = f; g = r }) s here has a v)
            (λ all w d. sym (either-zero f r is w) ∙ all w d, λ all w d. either-zero f r is w ∙ all w d);
      }
  IfOk-all f r is has (Err e) a = tt

-- ---- ranges

module _ (of : List Bool) (from to : ℕ) (marks : MarksRange of from to) where
  differ-range : (v w : Valuation) → DifferAt of v w ↔ DifferWithin from to v w
  differ-range v w = (
    λ differ x out. differ x (marks.outside x out),
    λ differ x not_marked. differ x (elim (cases_lt x from) [
      | inl lt ↦ inl lt
      | inr ge ↦ elim (cases_lt x to) [
        | inl lt ↦ absurd (true≢false (sym (marks.inside x ge lt) ∙ not_marked))
        | inr behind ↦ inr behind
      ]
    ]),
  )

  pub IfOk-exists : {E : Type 0} (old new : Diagrams) (r : Ref) (o : Result Ref E) → IfOk o (IsSomeAt old new of r) → IfOk o (IsExists old new from to r)
  IfOk-exists old new r (Ok s) is =
      record {
        has = is.has;
        value = λ v. iff-trans (is.value v) (λ p. (p.0, (differ-range v p.0).0 p.1, p.2), λ p. (p.0, (differ-range v p.0).1 p.1, p.2));
      }
  IfOk-exists old new r (Err e) is = tt

  pub IfOk-forall : {E : Type 0} (old new : Diagrams) (r : Ref) (o : Result Ref E) → IfOk o (IsAllAt old new of r) → IfOk o (IsForall old new from to r)
  IfOk-forall old new r (Ok s) is =
      record {
        has = is.has;
        value = λ v. iff-trans (is.value v) (λ all w d. all w ((differ-range v w).1 d), λ all w d. all w ((differ-range v w).0 d));
      }
  IfOk-forall old new r (Err e) is = tt
