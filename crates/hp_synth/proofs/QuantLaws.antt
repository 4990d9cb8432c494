-- Quantifiers over ranges of a machine's variables, in a table where these stand at places.
use Rattle.std.proofs.Common.{◌≡◌, ◌↔◌, ◌⊎◌, inl, inr, ℕ, ◌<◌, ◌≤◌, Bool, false, ◌||◌, IsTrue, List, Result, Ok, Err, IfOk, refl, sym, ap, subst, ◌∙◌, true≢false}
use Rattle.std.proofs.lemmas.Bool.{cases_lt}
use Rattle.hp_diagram.specs.declared.reference.Ref.{Ref}
use Rattle.hp_diagram.specs.Diagrams.{Diagrams, function, Means}
use Rattle.hp_quant.specs.Turns.{marked}
use Rattle.hp_quant.specs.Quantifiers.{DifferAt, DifferWithin, IsSomeAt, IsAllAt, IsEitherAt}
use Rattle.hp_boolx.specs.Search.{Bits, Set, some_of, every_of}
use Rattle.hp_boolx.specs.Game.{Game}
use Rattle.hp_synth.specs.declared.layout.Layout.{Layout}
use Rattle.hp_synth.specs.Layouts.{place, variable, IsLayout, MarksPlaces}
use Rattle.hp_synth.specs.Quantified.{DifferIn, IsSomeIn, IsAllIn}
use Rattle.hp_synth.specs.Rounds.{of_all}
use Rattle.hp_synth.specs.Valued.{Valued, Fun, through, over, early_from, control_from, late_from, total, OfState, OfEarly, OfChoice}
use Rattle.hp_synth.proofs.LayoutLaws.{seen, unseen}
use Rattle.hp_synth.proofs.Ranges.{some-late, every-late, some-control, some-early, every-control}

iff-trans : {A B C : Type 0} → (A ↔ B) → (B ↔ C) → (A ↔ C)
iff-trans p q = (λ a. q.0 (p.0 a), λ c. p.1 (q.1 c))

module _ (vars : ℕ) (l : Layout) (is : IsLayout vars l) where
  -- ---- marks

  module _ (of : List Bool) (from to : ℕ) (marks : MarksPlaces l of from to) where
    differ-marks : (v w : Valued) → DifferAt of v w ↔ DifferIn (place l) from to v w
    differ-marks v w = (
      λ differ x out. differ (place l x) (marks.outside x out),
      λ differ y not_marked.
          let x : ℕ = variable l y in
          let back : place l x ≡ y = is.again y in
          let here : marked of (place l x) ≡ false = ap (marked of) back ∙ not_marked in
          let out : (x < from) ⊎ (to ≤ x) = elim (cases_lt x from) [
            | inl lt ↦ inl lt
            | inr ge ↦ elim (cases_lt x to) [
              | inl lt ↦ absurd (true≢false (sym (marks.inside x ge lt) ∙ here))
              | inr behind ↦ inr behind
            ]
          ] in
          subst (λ z. v z ≡ w z) back (differ x out),
    )

    pub IfOk-some : {E : Type 0} (old new : Diagrams) (r : Ref) (o : Result Ref E) → IfOk o (IsSomeAt old new of r) → IfOk o (IsSomeIn (place l) from to new (function old r))
    IfOk-some old new r (Ok s) h =
        record { has = h.has; value = λ v. iff-trans (h.value v) (λ p. (p.0, (differ-marks v p.0).0 p.1, p.2), λ p. (p.0, (differ-marks v p.0).1 p.1, p.2)) }
    IfOk-some old new r (Err e) h = tt

    pub IfOk-all : {E : Type 0} (old new : Diagrams) (r : Ref) (o : Result Ref E) → IfOk o (IsAllAt old new of r) → IfOk o (IsAllIn (place l) from to new (function old r))
    IfOk-all old new r (Ok s) h =
        record { has = h.has; value = λ v. iff-trans (h.value v) (λ all w d. all w ((differ-marks v w).1 d), λ all w d. all w ((differ-marks v w).0 d)) }
    IfOk-all old new r (Err e) h = tt

    pub IfOk-either : {E : Type 0} (old new : Diagrams) (f g : Ref) (o : Result Ref E) → IfOk o (IsEitherAt old new of f g) → IfOk o (IsSomeIn (place l) from to new (λ v. function old f v || function old g v))
    IfOk-either old new f g (Ok s) h =
        record { has = h.has; value = λ v. iff-trans (h.value v) (λ p. (p.0, (differ-marks v p.0).0 p.1, p.2), λ p. (p.0, (differ-marks v p.0).1 p.1, p.2)) }
    IfOk-either old new f g (Err e) h = tt

  -- ---- in the machine's own variables

  module _ (from to : ℕ) (new : Diagrams) (f p : Fun) (s : Ref) (same : (v : Valued) → f v ≡ over (place l) p v) where
    at_table : (w : Valued) → IsTrue (p w) → IsTrue (f (through (variable l) w))
    at_table w h = same (through (variable l) w) ∙ ap p (seen vars l is w) ∙ h

    differ-table : (v w : Valued) → DifferWithin from to v w → DifferIn (place l) from to (through (variable l) v) (through (variable l) w)
    differ-table v w d = λ x out. (λ j. seen vars l is v j x) ∙ d x out ∙ (λ j. sym (seen vars l is w) j x)

    differ-own : (v w : Valued) → DifferIn (place l) from to (through (variable l) v) w → DifferWithin from to v (through (place l) w)
    differ-own v w d = λ x out. (λ j. sym (seen vars l is v) j x) ∙ d x out

    pub some-own : IsSomeIn (place l) from to new f s → (v : Valued) → IsTrue (function new s (through (variable l) v)) ↔ ((w : Valued) × DifferWithin from to v w × IsTrue (p w))
    some-own h v = (
      λ e. let q = (h.value (through (variable l) v)).0 e in (through (place l) q.0, differ-own v q.0 q.1, sym (same q.0) ∙ q.2),
      λ q. (h.value (through (variable l) v)).1 (through (variable l) q.0, differ-table v q.0 q.1, at_table q.0 q.2),
    )

    all-own : IsAllIn (place l) from to new f s → (v : Valued) → IsTrue (function new s (through (variable l) v)) ↔ ((w : Valued) → DifferWithin from to v w → IsTrue (p w))
    all-own h v = (
      λ e w d. sym (same (through (variable l) w) ∙ ap p (seen vars l is w)) ∙ (h.value (through (variable l) v)).0 e (through (variable l) w) (differ-table v w d),
      λ all. (h.value (through (variable l) v)).1 (λ w d. same w ∙ all (through (place l) w) (differ-own v w d)),
    )

  -- the function of a reference, at a valuation of the machine's variables
  pub own-value : (new : Diagrams) (s : Ref) (q : Fun) → ((v : Valued) → function new s (through (variable l) v) ≡ q v) → (v : Valued) → function new s v ≡ over (place l) q v
  own-value new s q h v = ap (function new s) (sym (unseen vars l is v)) ∙ h (through (place l) v)

  -- ---- over the variables of a game

  module _ (g : Game) (from to : ℕ) (new : Diagrams) (f : Fun) (s : Ref) where
    pub late-some : (F : Bits → Bits → Bits → Set) → from ≡ late_from g → to ≡ total g → ((v : Valued) → f v ≡ over (place l) (of_all g F) v) → IsSomeIn (place l) from to new f s → Means new (over (place l) (OfChoice g (λ r u c. some_of g.late (F r u c)))) s
    late-some F a b same h =
        let moved : IsSomeIn (place l) (late_from g) (total g) new f s = subst (λ m. IsSomeIn (place l) m (total g) new f s) a (subst (λ m. IsSomeIn (place l) from m new f s) b h) in
        record {
          has = h.has;
          value = own-value new s (OfChoice g (λ r u c. some_of g.late (F r u c)))
              (some-late g (of_all g F) (λ v. function new s (through (variable l) v)) F (λ v. refl) (some-own (late_from g) (total g) new f (of_all g F) s same moved));
        }

    pub late-all : (F : Bits → Bits → Bits → Set) → from ≡ late_from g → to ≡ total g → ((v : Valued) → f v ≡ over (place l) (of_all g F) v) → IsAllIn (place l) from to new f s → Means new (over (place l) (OfChoice g (λ r u c. every_of g.late (F r u c)))) s
    late-all F a b same h =
        let moved : IsAllIn (place l) (late_from g) (total g) new f s = subst (λ m. IsAllIn (place l) m (total g) new f s) a (subst (λ m. IsAllIn (place l) from m new f s) b h) in
        record {
          has = h.has;
          value = own-value new s (OfChoice g (λ r u c. every_of g.late (F r u c)))
              (every-late g (of_all g F) (λ v. function new s (through (variable l) v)) F (λ v. refl) (all-own (late_from g) (total g) new f (of_all g F) s same moved));
        }

    pub control-some : (F : Bits → Bits → Set) → from ≡ control_from g → to ≡ late_from g → ((v : Valued) → f v ≡ over (place l) (OfChoice g F) v) → IsSomeIn (place l) from to new f s → Means new (over (place l) (OfEarly g (λ r u. some_of g.control (F r u)))) s
    control-some F a b same h =
        let moved : IsSomeIn (place l) (control_from g) (late_from g) new f s = subst (λ m. IsSomeIn (place l) m (late_from g) new f s) a (subst (λ m. IsSomeIn (place l) from m new f s) b h) in
        record {
          has = h.has;
          value = own-value new s (OfEarly g (λ r u. some_of g.control (F r u)))
              (some-control g (OfChoice g F) (λ v. function new s (through (variable l) v)) F (λ v. refl) (some-own (control_from g) (late_from g) new f (OfChoice g F) s same moved));
        }

    pub control-all : (F : Bits → Bits → Set) → from ≡ control_from g → to ≡ late_from g → ((v : Valued) → f v ≡ over (place l) (OfChoice g F) v) → IsAllIn (place l) from to new f s → Means new (over (place l) (OfEarly g (λ r u. every_of g.control (F r u)))) s
    control-all F a b same h =
        let moved : IsAllIn (place l) (control_from g) (late_from g) new f s = subst (λ m. IsAllIn (place l) m (late_from g) new f s) a (subst (λ m. IsAllIn (place l) from m new f s) b h) in
        record {
          has = h.has;
          value = own-value new s (OfEarly g (λ r u. every_of g.control (F r u)))
              (every-control g (OfChoice g F) (λ v. function new s (through (variable l) v)) F (λ v. refl) (all-own (control_from g) (late_from g) new f (OfChoice g F) s same moved));
        }

    pub early-some : (F : Bits → Set) → from ≡ early_from g → to ≡ control_from g → ((v : Valued) → f v ≡ over (place l) (OfEarly g F) v) → IsSomeIn (place l) from to new f s → Means new (over (place l) (OfState g (λ r. some_of g.early (F r)))) s
    early-some F a b same h =
        let moved : IsSomeIn (place l) (early_from g) (control_from g) new f s = subst (λ m. IsSomeIn (place l) m (control_from g) new f s) a (subst (λ m. IsSomeIn (place l) from m new f s) b h) in
        record {
          has = h.has;
          value = own-value new s (OfState g (λ r. some_of g.early (F r)))
              (some-early g (OfEarly g F) (λ v. function new s (through (variable l) v)) F (λ v. refl) (some-own (early_from g) (control_from g) new f (OfEarly g F) s same moved));
        }
