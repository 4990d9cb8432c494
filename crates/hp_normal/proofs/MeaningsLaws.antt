-- What each variable stands for.
use Rattle.std.proofs.Common.{◌≡◌, ◌⊎◌, ℕ, ◌≤◌, Bool, true, false, ◌&&◌, ◌||◌, if◌then◌else◌, List, [], ◌∷◌, Option, None, Some, inl, inr, refl, sym, ap, ◌∙◌, subst, arith}
use Rattle.hp_flat.specs.declared.equation.Atom.{Atom}
use Rattle.hp_flat.specs.declared.equation.Atom.TheVariants.{Variable, Value}
use Rattle.hp_flat.specs.Equations.{FlatEqn}
use Rattle.hp_flat.specs.Nodes.{FlatNode}
use Rattle.hp_normal.specs.Reading.{count, copy_of, occurs, targets, fixed, sampled}
use Rattle.hp_normal.specs.Retargeting.{put}
use Rattle.hp_normal.specs.Substituting.{Meanings, read, is_variable, may_stand, standing, meanings}
use Rattle.hp_normal.specs.Following.{defined, IsUndefined, CopiesAreBehind, StandsFor, AllStand, StandsBy, Stands, MeaningsLaw}
use Rattle.hp_normal.proofs.DefinerLaws.{count-append}
use Rattle.hp_normal.proofs.TableLaws.{first_true, occurs-often}
use Rattle.hp_normal.proofs.CopyLaws.{put-same, put-other, same-or, differ, left-more, right-more, copy-defines}

module _ (n : FlatNode) where
  -- ---- variables that no equation defines

  chosen_other : (x z : ℕ) (a : Atom) (s : Meanings) (stands : Bool) → (x ≡ z → ⊥) → (if stands then put x a s else s) z ≡ s z
  chosen_other x z a s true h = put-other x z a s h
  chosen_other x z a s false h = refl

  other_x : (e : FlatEqn) (x z : ℕ) (a : Atom) → copy_of e ≡ Some (x, a) → count z e.targets ≡ 0 → x ≡ z → ⊥
  other_x e x z a q h p = differ z x e.targets h (copy-defines e x a q) (sym p)

  standing_other : (e : FlatEqn) (z : ℕ) (s : Meanings) (c : Option (ℕ × Atom)) → copy_of e ≡ c → count z e.targets ≡ 0 → standing n c s z ≡ s z
  standing_other e z s None q h = refl
  standing_other e z s (Some (x, a)) q h = chosen_other x z (read s a) s (may_stand n x (read s a)) (other_x e x z a q h)

  pub untouched : (es : List FlatEqn) (s : Meanings) (z : ℕ) → count z (defined es) ≡ 0 → meanings n es s z ≡ s z
  untouched [] s z h = refl
  untouched (e ∷ es) s z h =
      let parts = count-append z e.targets (defined es) in
      untouched es (standing n (copy_of e) s) z (omega (arith, parts, h)) ∙ standing_other e z s (copy_of e) refl (omega (arith, parts, h))

  read_kept : (es : List FlatEqn) (s : Meanings) (x : ℕ) (a : Atom) → IsUndefined es (Some (x, a)) → read (meanings n es s) a ≡ read s a
  read_kept es s x (Variable y) h = untouched es s y h
  read_kept es s x (Value v) h = refl

  -- ---- each copy is followed

  defined_once : (x : ℕ) (a : Atom) → may_stand n x a ≡ true → count x (targets n) ≡ 1
  defined_once x a h =
      let one = occurs n 1 (targets n) x in
      let none = occurs n 0 (fixed n) x in
      occurs-often n 1 (targets n) x (first_true one none (first_true (one && none) (is_variable a || occurs n 0 (sampled n) x) h))

  stood : (x : ℕ) (a : Atom) (s : Meanings) → may_stand n x (read s a) ≡ true → standing n (Some (x, a)) s x ≡ read s a
  stood x a s h = ap (λ b. (if b then put x (read s a) s else s) x) h ∙ put-same x (read s a) s

  follows : (e : FlatEqn) (es : List FlatEqn) (s : Meanings) (c : Option (ℕ × Atom)) → copy_of e ≡ c → IsUndefined (e ∷ es) c
      → ((y : ℕ) → count y (defined (e ∷ es)) ≤ count y (targets n)) → StandsFor n (meanings n (e ∷ es) s) c
  follows e es s None q behind within = tt
  follows e es s (Some (x, a)) q behind within = λ may.
      let kept = read_kept (e ∷ es) s x a behind in
      let now : may_stand n x (read s a) ≡ true = sym (ap (may_stand n x) kept) ∙ may in
      let parts = count-append x e.targets (defined es) in
      let later : count x (defined es) ≡ 0 = omega (arith, parts, within x, defined_once x (read s a) now, copy-defines e x a q) in
      untouched es (standing n (copy_of e) s) x later ∙ ap (λ d. standing n d s x) q ∙ stood x a s now ∙ sym kept

  all_follow : (es : List FlatEqn) (s : Meanings) → CopiesAreBehind es → ((y : ℕ) → count y (defined es) ≤ count y (targets n)) → AllStand n (meanings n es s) es
  all_follow [] s behind within = tt
  all_follow (e ∷ es) s behind within =
      (follows e es s (copy_of e) refl behind.0 within, all_follow es (standing n (copy_of e) s) behind.1 (λ y. omega (arith, within y, right-more y e.targets (defined es))))

  -- ---- and nothing else changes a variable

  changed_by : (e : FlatEqn) (es : List FlatEqn) (s : Meanings) (z x : ℕ) (a : Atom) (stands : Bool) → may_stand n x (read s a) ≡ stands → IsUndefined (e ∷ es) (Some (x, a))
      → meanings n (e ∷ es) s z ≡ (if stands then put x (read s a) s else s) z → (meanings n (e ∷ es) s z ≡ s z) ⊎ StandsBy n (meanings n (e ∷ es) s) z (Some (x, a))
  changed_by e es s z x a false may behind same = inl same
  changed_by e es s z x a true may behind same =
      elim (same-or x z) [
        | inl is ↦ (let now : meanings n (e ∷ es) s z ≡ read s a = same ∙ ap (put x (read s a) s) (sym is) ∙ put-same x (read s a) s in
            inr (is, (sym (λ j. may_stand n (is j) (sym now j)) ∙ may, now ∙ sym (read_kept (e ∷ es) s x a behind))))
        | inr other ↦ inl (same ∙ put-other x z (read s a) s other)
      ]

  changed : (e : FlatEqn) (es : List FlatEqn) (s : Meanings) (z : ℕ) (c : Option (ℕ × Atom)) → copy_of e ≡ c → IsUndefined (e ∷ es) c
      → meanings n (e ∷ es) s z ≡ standing n c s z → (meanings n (e ∷ es) s z ≡ s z) ⊎ StandsBy n (meanings n (e ∷ es) s) z c
  changed e es s z None q behind same = inl same
  changed e es s z (Some (x, a)) q behind same = changed_by e es s z x a (may_stand n x (read s a)) refl behind same

  each_is : (es : List FlatEqn) (s : Meanings) (z : ℕ) → CopiesAreBehind es → (meanings n es s z ≡ s z) ⊎ Stands n (meanings n es s) z es
  each_is [] s z behind = inl refl
  each_is (e ∷ es) s z behind =
      elim (each_is es (standing n (copy_of e) s) z behind.1) [
        | inl same ↦ elim (changed e es s z (copy_of e) refl behind.0 same) [ inl unchanged ↦ inl unchanged | inr here ↦ inr (inl here) ]
        | inr later ↦ inr (inr later)
      ]

  -- ---- what a variable stands for stands for itself

  -- a variable stands for one that stands for itself, and that no further equation defines
  abbrev pub Settled : List FlatEqn → Meanings → ℕ → Atom → Type 0
  Settled es s z (Variable y) = (z ≡ y) ⊎ ((count y (defined es) ≡ 0) × (s y ≡ Variable y))
  Settled es s z (Value v) = Unit {0}

  module _ (e : FlatEqn) (es : List FlatEqn) (s : Meanings) where
    fewer : (y : ℕ) → count y (defined (e ∷ es)) ≡ 0 → count y (defined es) ≡ 0
    fewer y h = omega (arith, h, right-more y e.targets (defined es))

    settled_still : (z : ℕ) (t : Atom) → Settled (e ∷ es) s z t → Settled es s z t
    settled_still z (Value v) h = tt
    settled_still z (Variable y) h = elim h [ inl same ↦ inl same | inr itself ↦ inr (fewer y itself.0, itself.1) ]

    module _ (x : ℕ) (a : Atom) (q : copy_of e ≡ Some (x, a)) where
      apart : (y : ℕ) → count y (defined (e ∷ es)) ≡ 0 → x ≡ y → ⊥
      apart y h p = differ y x (defined (e ∷ es)) h (omega (arith, copy-defines e x a q, left-more x e.targets (defined es))) (sym p)

      settled_other : (z : ℕ) (v t : Atom) → Settled (e ∷ es) s z t → Settled es (put x v s) z t
      settled_other z v (Value w) h = tt
      settled_other z v (Variable y) h = elim h [ inl same ↦ inl same | inr itself ↦ inr (fewer y itself.0, put-other x y v s (apart y itself.0) ∙ itself.1) ]

      settled_source : (z w : ℕ) (v t : Atom) → count w (defined (e ∷ es)) ≡ 0 → s w ≡ t → Settled (e ∷ es) s w t → Settled es (put x v s) z t
      settled_source z w v (Value u) h is f = tt
      settled_source z w v (Variable y) h is f =
          elim f [
            | inl same ↦ (let none : count y (defined (e ∷ es)) ≡ 0 = sym (ap (λ k. count k (defined (e ∷ es))) same) ∙ h in
                inr (fewer y none, put-other x y v s (apart y none) ∙ sym (ap s same) ∙ is))
            | inr itself ↦ inr (fewer y itself.0, put-other x y v s (apart y itself.0) ∙ itself.1)
          ]

      settled_read : (z : ℕ) (v b : Atom) → IsUndefined (e ∷ es) (Some (x, b)) → ((w : ℕ) → Settled (e ∷ es) s w (s w)) → Settled es (put x v s) z (read s b)
      settled_read z v (Value u) behind all = tt
      settled_read z v (Variable w) behind all = settled_source z w v (s w) behind refl (all w)

      settled_put : IsUndefined (e ∷ es) (Some (x, a)) → ((w : ℕ) → Settled (e ∷ es) s w (s w)) → (z : ℕ) → Settled es (put x (read s a) s) z (put x (read s a) s z)
      settled_put behind all z =
          let v = read s a in
          elim (same-or x z) [
            | inl is ↦ subst (Settled es (put x v s) z) (sym (ap (put x v s) (sym is) ∙ put-same x v s)) (settled_read z v a behind all)
            | inr other ↦ subst (Settled es (put x v s) z) (sym (put-other x z v s other)) (settled_other z v (s z) (all z))
          ]

      settled_either : (stands : Bool) → IsUndefined (e ∷ es) (Some (x, a)) → ((w : ℕ) → Settled (e ∷ es) s w (s w)) → (z : ℕ)
          → Settled es (if stands then put x (read s a) s else s) z ((if stands then put x (read s a) s else s) z)
      settled_either true behind all z = settled_put behind all z
      settled_either false behind all z = settled_still z (s z) (all z)

    pub settled_next : (c : Option (ℕ × Atom)) → copy_of e ≡ c → IsUndefined (e ∷ es) c → ((w : ℕ) → Settled (e ∷ es) s w (s w)) → (z : ℕ) → Settled es (standing n c s) z (standing n c s z)
    settled_next None q behind all z = settled_still z (s z) (all z)
    settled_next (Some (x, a)) q behind all z = settled_either x a q (may_stand n x (read s a)) behind all z

  settled : (es : List FlatEqn) (s : Meanings) → CopiesAreBehind es → ((w : ℕ) → Settled es s w (s w)) → (z : ℕ) → Settled [] (meanings n es s) z (meanings n es s z)
  settled [] s behind all z = all z
  settled (e ∷ es) s behind all z = settled es (standing n (copy_of e) s) behind.1 (settled_next e es s (copy_of e) refl behind.0 all) z

  itself : (s : Meanings) (z : ℕ) (t : Atom) → s z ≡ t → Settled [] s z t → read s t ≡ t
  itself s z (Value v) is h = refl
  itself s z (Variable y) is h = elim h [ inl same ↦ sym (ap s same) ∙ is | inr there ↦ there.1 ]

  pub meanings_law : MeaningsLaw n
  meanings_law behind =
      let first : Meanings = λ x. Variable x in
      let s = meanings n n.eqns first in
      record {
        all = all_follow n.eqns first behind (λ y. omega arith);
        each = λ z. each_is n.eqns first z behind;
        ended = λ z. itself s z (s z) refl (settled n.eqns first behind (λ w. inl refl) z);
      }
