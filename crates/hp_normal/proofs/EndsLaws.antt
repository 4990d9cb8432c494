-- Which variable is defined in place of each.
use Rattle.std.proofs.Common.{◌≡◌, ◌⊎◌, ℕ, ◌≤◌, List, [], ◌∷◌, Option, None, Some, inl, inr, refl, sym, ap, ◌∙◌, subst, arith}
use Rattle.std.specs.List.{flat_map}
use Rattle.hp_flat.specs.declared.equation.Atom.TheVariants.{Variable}
use Rattle.hp_flat.specs.Equations.{FlatEqn}
use Rattle.hp_flat.specs.Nodes.{FlatNode}
use Rattle.hp_normal.specs.Reading.{count, eqn_reads, uses, copy_of}
use Rattle.hp_normal.specs.Retargeting.{put, moved, after_move, ends}
use Rattle.hp_normal.specs.Following.{defined, IsUndefined, CopiesAreBehind, HaveOneEnd, AllHaveOneEnd, MovesBy, Moves, EndsLaw}
use Rattle.hp_normal.proofs.DefinerLaws.{count-append}
use Rattle.hp_normal.proofs.CopyLaws.{put-same, put-other, same-or, differ, left-more, right-more, copy-reads, copy-defines, moved-copy, moved-once}

abbrev pub reads : List FlatEqn → List ℕ
reads es = flat_map eqn_reads es

module _ (n : FlatNode) where
  -- a function that is changed at a number which no equation reads or defines
  module _ (r : ℕ → ℕ) (y v : ℕ) where
    one_kept : (e : FlatEqn) (m : Option (ℕ × ℕ)) → moved n e ≡ m → count y (eqn_reads e) ≡ 0 → count y e.targets ≡ 0 → HaveOneEnd r m → HaveOneEnd (put y v r) m
    one_kept e None q h k f = tt
    one_kept e (Some (x, z)) q h k f =
        let copy = moved-copy n e x z q in
        put-other y z v r (differ y z (eqn_reads e) h (copy-reads e x z copy)) ∙ f ∙ sym (put-other y x v r (differ y x e.targets k (copy-defines e x (Variable z) copy)))

    all_kept : (es : List FlatEqn) → count y (reads es) ≡ 0 → count y (defined es) ≡ 0 → AllHaveOneEnd n r es → AllHaveOneEnd n (put y v r) es
    all_kept [] h k f = tt
    all_kept (e ∷ es) h k f =
        let a = count-append y (eqn_reads e) (reads es) in
        let b = count-append y e.targets (defined es) in
        (one_kept e (moved n e) refl (omega (arith, a, h)) (omega (arith, b, k)) f.0, all_kept es (omega (arith, a, h)) (omega (arith, b, k)) f.1)

    move_kept : (e : FlatEqn) (z : ℕ) (m : Option (ℕ × ℕ)) → moved n e ≡ m → count y (eqn_reads e) ≡ 0 → count y e.targets ≡ 0 → MovesBy r z m → MovesBy (put y v r) z m
    move_kept e z None q h k f = f
    move_kept e z (Some (x, w)) q h k f =
        let copy = moved-copy n e x w q in
        let other : y ≡ z → ⊥ = λ p. differ y w (eqn_reads e) h (copy-reads e x w copy) (p ∙ sym f.0) in
        (f.0, put-other y z v r other ∙ f.1 ∙ sym (put-other y x v r (differ y x e.targets k (copy-defines e x (Variable w) copy))))

    moves_kept : (es : List FlatEqn) (z : ℕ) → count y (reads es) ≡ 0 → count y (defined es) ≡ 0 → Moves n r z es → Moves n (put y v r) z es
    moves_kept [] z h k f = f
    moves_kept (e ∷ es) z h k f =
        let a = count-append y (eqn_reads e) (reads es) in
        let b = count-append y e.targets (defined es) in
        elim f [
          | inl here ↦ inl (move_kept e z (moved n e) refl (omega (arith, a, h)) (omega (arith, b, k)) here)
          | inr later ↦ inr (moves_kept es z (omega (arith, a, h)) (omega (arith, b, k)) later)
        ]

  -- what is known of the ends of some equations
  pub record Known (es : List FlatEqn) (r : ℕ → ℕ) : Type 0 where
    pub all : AllHaveOneEnd n r es
    pub each : (z : ℕ) → (r z ≡ z) ⊎ Moves n r z es
    pub ended : (z : ℕ) → r (r z) ≡ r z
    pub defines : (z : ℕ) → (r z ≡ z) ⊎ (1 ≤ count (r z) (defined es))

  -- an equation in front
  step : (e : FlatEqn) (es : List FlatEqn) (r : ℕ → ℕ) (m : Option (ℕ × ℕ)) → moved n e ≡ m → IsUndefined (e ∷ es) (copy_of e)
      → ((y : ℕ) → count y (reads (e ∷ es)) ≤ count y (uses n)) → Known es r → Known (e ∷ es) (after_move m r)
  step e es r None q behind within known = record {
    all = (subst (HaveOneEnd r) (sym q) tt, known.all);
    each = λ z. elim (known.each z) [ inl same ↦ inl same | inr later ↦ inr (inr later) ];
    ended = known.ended;
    defines = λ z. elim (known.defines z) [ inl same ↦ inl same | inr later ↦ inr (omega (arith, later, right-more (r z) e.targets (defined es))) ];
  }
  step e es r (Some (x, y)) q behind within known =
      let copy = moved-copy n e x y q in
      let s = put y (r x) r in
      let undefined : count y (defined (e ∷ es)) ≡ 0 = subst (IsUndefined (e ∷ es)) copy behind in
      let a = count-append y (eqn_reads e) (reads es) in
      let b = count-append y e.targets (defined es) in
      let unread : count y (reads es) ≡ 0 = omega (arith, a, copy-reads e x y copy, within y, moved-once n e x y q) in
      let later_not : count y (defined es) ≡ 0 = omega (arith, b, undefined) in
      let x_differs : y ≡ x → ⊥ = differ y x (defined (e ∷ es)) undefined (omega (arith, copy-defines e x (Variable y) copy, left-more x e.targets (defined es))) in
      let y_is : s y ≡ r x = put-same y (r x) r in
      let x_is : s x ≡ r x = put-other y x (r x) r x_differs in
      let off_y : (z : ℕ) → (y ≡ z → ⊥) → y ≡ r z → ⊥ = λ z other p.
      elim (known.defines z) [ inl same ↦ other (p ∙ same) | inr there ↦ differ y (r z) (defined es) later_not there p ] in
      record {
        all = (subst (HaveOneEnd s) (sym q) (y_is ∙ sym x_is), all_kept r y (r x) es unread later_not known.all);
        each = λ z.
            elim (same-or y z) [
              | inl same ↦ inr (inl (subst (MovesBy s z) (sym q) (same, ap s (sym same) ∙ y_is ∙ sym x_is)))
              | inr other ↦ elim (known.each z) [
                | inl itself ↦ inl (put-other y z (r x) r other ∙ itself)
                | inr later ↦ inr (inr (moves_kept r y (r x) es z unread later_not later))
              ]
            ];
        ended = λ z.
            elim (same-or y z) [
              | inl same ↦ ap (λ w. s (s w)) (sym same) ∙ ap s y_is ∙ put-other y (r x) (r x) r (off_y x x_differs) ∙ known.ended x ∙ sym y_is ∙ ap s same
              | inr other ↦ ap s (put-other y z (r x) r other) ∙ put-other y (r z) (r x) r (off_y z other) ∙ known.ended z ∙ sym (put-other y z (r x) r other)
            ];
        defines = λ z.
            elim (same-or y z) [
              | inl same ↦ inr (subst (λ w. 1 ≤ count w (defined (e ∷ es))) (sym y_is ∙ ap s same)
                  (elim (known.defines x) [
                    | inl itself ↦ subst (λ w. 1 ≤ count w (defined (e ∷ es))) (sym itself) (omega (arith, copy-defines e x (Variable y) copy, left-more x e.targets (defined es)))
                    | inr there ↦ omega (arith, there, right-more (r x) e.targets (defined es))
                  ]))
              | inr other ↦ elim (known.defines z) [
                | inl itself ↦ inl (put-other y z (r x) r other ∙ itself)
                | inr there ↦ inr (subst (λ w. 1 ≤ count w (defined (e ∷ es))) (sym (put-other y z (r x) r other)) (omega (arith, there, right-more (r z) e.targets (defined es))))
              ]
            ];
      }

  pub all_known : (es : List FlatEqn) → CopiesAreBehind es → ((y : ℕ) → count y (reads es) ≤ count y (uses n)) → Known es (ends n es)
  all_known [] behind within = record { all = tt; each = λ z. inl refl; ended = λ z. refl; defines = λ z. inl refl }
  all_known (e ∷ es) behind within =
      step e es (ends n es) (moved n e) refl behind.0 within
      (all_known es behind.1 (λ y. omega (arith, within y, right-more y (eqn_reads e) (reads es))))

  pub ends_law : EndsLaw n
  ends_law behind =
      let known = all_known n.eqns behind (λ y. right-more y n.outputs (reads n.eqns)) in
      record { all = known.all; each = known.each; ended = known.ended }
