-- Where equations define other variables, those that defined different ones do so still, or their clocks part.
use Rattle.std.proofs.Common.{◌≡◌, ◌⊎◌, ◌≤◌, ℕ, List, [], ◌∷◌, Option, Some, None, inl, inr, refl, sym, ap, subst, ◌∙◌, arith}
use Rattle.std.specs.List.{flat_map}
use Rattle.hp_flat.specs.declared.equation.Atom.TheVariants.{Variable}
use Rattle.hp_flat.specs.Equations.{Clock, FlatEqn}
use Rattle.hp_flat.specs.Nodes.{FlatNode}
use Rattle.hp_normal.specs.Reading.{count, eqn_reads, uses, copy_of}
use Rattle.hp_normal.specs.Retargeting.{put, moved, after_move, ends}
use Rattle.hp_normal.specs.Following.{defined, CopiesAreBehind, IsUndefined}
use Rattle.hp_normal.proofs.DefinerLaws.{count-append}
use Rattle.hp_normal.proofs.CopyLaws.{put-same, put-other, same-or, right-more, copy-reads, copy-defines, moved-copy, moved-once}
use Rattle.hp_normal.proofs.EndsLaws.{Known, all_known}
use Rattle.law_equations.proofs.FewerLemmas.Members.{Among, among-count}
use Rattle.law_equations.proofs.FewerLemmas.CopyFacts.{moved-on}
use Rattle.law_equations.specs.Shaped.Shaped.{Part, DefineApart}
use Rattle.law_equations.proofs.ShapedLemmas.PartLaws.{apart-at}

abbrev reads : List FlatEqn → List ℕ
reads es = flat_map eqn_reads es

module _ (n : FlatNode) where
  -- what some equations read, the node reads
  abbrev pub Within : List FlatEqn → Type 0
  Within es = (y : ℕ) → count y (flat_map eqn_reads es) ≤ count y (uses n)

  -- an equation is none of the copies among some because of which others are defined in place
  abbrev pub Free : List FlatEqn → FlatEqn → Type 0
  Free es e = (d : FlatEqn) (x y : ℕ) → Among d es → moved n d ≡ Some (x, y) → d ≡ e → ⊥

  -- what a copy reads is read by no other equation
  only_reader : (c : FlatEqn) (es : List FlatEqn) (x y : ℕ) → Within (c ∷ es) → moved n c ≡ Some (x, y) → count y (reads es) ≡ 0
  only_reader c es x y within q = omega (arith, within y, count-append y (eqn_reads c) (reads es), copy-reads c x y (moved-copy n c x y q), moved-once n c x y q)

  copy_free : (c : FlatEqn) (es : List FlatEqn) (x y : ℕ) → Within (c ∷ es) → moved n c ≡ Some (x, y) → Free es c
  copy_free c es x y within q d v w a p same =
      absurd (omega (arith, only_reader c es x y within q, among-count eqn_reads y es d a, ap (λ (e : FlatEqn). count y (eqn_reads e)) same, copy-reads c x y (moved-copy n c x y q)))

  fewer_within : (c : FlatEqn) (es : List FlatEqn) → Within (c ∷ es) → Within es
  fewer_within c es within y = omega (arith, within y, right-more y (eqn_reads c) (reads es))

  -- ---- two variables that end as one

  Ends : List FlatEqn → Type 0
  Ends es = (a b : FlatEqn) → Among a n.eqns → Among b n.eqns → Free es a → Free es b → (u v : ℕ) → 1 ≤ count u a.targets → 1 ≤ count v b.targets → ends n es u ≡ ends n es v → (u ≡ v) ⊎ Part a.clock b.clock

  module _ (apart : DefineApart n.eqns) where
    step : (c : FlatEqn) (es : List FlatEqn) → Among c n.eqns → Within (c ∷ es) → Ends es → (m : Option (ℕ × ℕ)) → moved n c ≡ m → (a b : FlatEqn) → Among a n.eqns → Among b n.eqns → Free (c ∷ es) a → Free (c ∷ es) b
        → (u v : ℕ) → 1 ≤ count u a.targets → 1 ≤ count v b.targets → after_move m (ends n es) u ≡ after_move m (ends n es) v → (u ≡ v) ⊎ Part a.clock b.clock
    unfolding Ends
    step c es there within later None q a b p r f g u v i j e = later a b p r (λ d x y k. f d x y (inr k)) (λ d x y k. g d x y (inr k)) u v i j e
    step c es there within later (Some (x, y)) q a b p r f g u v i j e = by (same-or y u) (same-or y v)
      where
        free_a : Free es a
        free_a d x y k = f d x y (inr k)

        free_b : Free es b
        free_b d x y k = g d x y (inr k)

        target : 1 ≤ count x c.targets
        target = copy-defines c x (Variable y) (moved-copy n c x y q)

        left_by : y ≡ u → (x ≡ v) ⊎ Part c.clock b.clock → (u ≡ v) ⊎ Part a.clock b.clock
        left_by s (inl k) = elim (apart-at n.eqns apart c b there r v (subst (λ w. 1 ≤ count w c.targets) k target) j) [
          | inl same ↦ absurd (g c x y (inl refl) q same)
          | inr part ↦ inr (subst (λ (clock : Clock). Part clock b.clock) (sym (moved-on n c a x y q p (subst (λ w. 1 ≤ count w a.targets) (sym s) i))) part)
        ]
        left_by s (inr part) = inr (subst (λ (clock : Clock). Part clock b.clock) (sym (moved-on n c a x y q p (subst (λ w. 1 ≤ count w a.targets) (sym s) i))) part)

        right_by : y ≡ v → (u ≡ x) ⊎ Part a.clock c.clock → (u ≡ v) ⊎ Part a.clock b.clock
        right_by s (inl k) = elim (apart-at n.eqns apart a c p there u i (subst (λ w. 1 ≤ count w c.targets) (sym k) target)) [
          | inl same ↦ absurd (f c x y (inl refl) q (sym same))
          | inr part ↦ inr (subst (λ (clock : Clock). Part a.clock clock) (sym (moved-on n c b x y q r (subst (λ w. 1 ≤ count w b.targets) (sym s) j))) part)
        ]
        right_by s (inr part) = inr (subst (λ (clock : Clock). Part a.clock clock) (sym (moved-on n c b x y q r (subst (λ w. 1 ≤ count w b.targets) (sym s) j))) part)

        by : (y ≡ u) ⊎ (y ≡ u → ⊥) → (y ≡ v) ⊎ (y ≡ v → ⊥) → (u ≡ v) ⊎ Part a.clock b.clock
        by (inl s) (inl t) = inl (sym s ∙ t)
        by (inl s) (inr t) =
            left_by s
            (later c b there r (copy_free c es x y within q) free_b x v target j
            (sym (put-same y (ends n es x) (ends n es)) ∙ ap (put y (ends n es x) (ends n es)) s ∙ e ∙ put-other y v (ends n es x) (ends n es) t))
        by (inr s) (inl t) =
            right_by t
            (later a c p there free_a (copy_free c es x y within q) u x i target
            (sym (put-other y u (ends n es x) (ends n es) s) ∙ e ∙ ap (put y (ends n es x) (ends n es)) (sym t) ∙ put-same y (ends n es x) (ends n es)))
        by (inr s) (inr t) = later a b p r free_a free_b u v i j (sym (put-other y u (ends n es x) (ends n es) s) ∙ e ∙ put-other y v (ends n es x) (ends n es) t)

    ends_apart : (es : List FlatEqn) → ((d : FlatEqn) → Among d es → Among d n.eqns) → Within es → Ends es
    unfolding Ends
    ends_apart [] sub within = λ a b p r f g u v i j e. inl e
    ends_apart (c ∷ es) sub within = step c es (sub c (inl refl)) within (ends_apart es (λ d k. sub d (inr k)) (fewer_within c es within)) (moved n c) refl

    pub ends-apart : (a b : FlatEqn) → Among a n.eqns → Among b n.eqns → Free n.eqns a → Free n.eqns b → (u v : ℕ) → 1 ≤ count u a.targets → 1 ≤ count v b.targets → ends n n.eqns u ≡ ends n n.eqns v → (u ≡ v) ⊎ Part a.clock b.clock
    unfolding Ends
    ends-apart = ends_apart n.eqns (λ d k. k) (λ y. right-more y n.outputs (reads n.eqns))

  -- ---- a copy because of which another variable is defined in place goes

  kept_other : (x y : ℕ) (es : List FlatEqn) (c : FlatEqn) → Known n es (ends n es) → IsUndefined (c ∷ es) (copy_of c) → moved n c ≡ Some (x, y) → ends n es x ≡ y → ⊥
  kept_other x y es c known behind q e =
      let copy = moved-copy n c x y q in
      let none : count y (defined (c ∷ es)) ≡ 0 = subst (IsUndefined (c ∷ es)) copy behind in
      let size = count-append y c.targets (defined es) in
      elim (known.defines x) [
        | inl same ↦ absurd (omega (arith, none, size, ap (λ w. count w c.targets) (sym same ∙ e), copy-defines c x (Variable y) copy))
        | inr there ↦ absurd (omega (arith, none, size, ap (λ w. count w (defined es)) e, there))
      ]

  goes : (es : List FlatEqn) → CopiesAreBehind es → Within es → (c : FlatEqn) (x y : ℕ) → Among c es → moved n c ≡ Some (x, y) → ends n es y ≡ y → ⊥
  goes [] behind within c x y a q e = absurd a
  goes (d ∷ es) behind within c x y (inl s) q e =
      let p : moved n d ≡ Some (x, y) = ap (moved n) (sym s) ∙ q in
      kept_other x y es d (all_known n es behind.1 (fewer_within d es within)) behind.0 p
      (sym (put-same y (ends n es x) (ends n es)) ∙ ap (λ m. after_move m (ends n es) y) (sym p) ∙ e)
  goes (d ∷ es) behind within c x y (inr a) q e = by (moved n d) refl (goes es behind.1 (fewer_within d es within) c x y a q)
    where
      by : (m : Option (ℕ × ℕ)) → moved n d ≡ m → (ends n es y ≡ y → ⊥) → ⊥
      by None p later = later (ap (λ m. after_move m (ends n es) y) (sym p) ∙ e)
      by (Some (v, w)) p later = elim (same-or w y) [
        | inl s ↦ absurd (omega (arith, only_reader d es v w within p, ap (λ z. count z (reads es)) s, among-count eqn_reads y es c a, copy-reads c x y (moved-copy n c x y q)))
        | inr s ↦ later (sym (put-other w y (ends n es v) (ends n es) s) ∙ ap (λ m. after_move m (ends n es) y) (sym p) ∙ e)
      ]

  pub copy-goes : CopiesAreBehind n.eqns → (c : FlatEqn) (x y : ℕ) → Among c n.eqns → moved n c ≡ Some (x, y) → ends n n.eqns y ≡ y → ⊥
  copy-goes behind c x y a q e = goes n.eqns behind (λ z. right-more z n.outputs (reads n.eqns)) c x y a q e
