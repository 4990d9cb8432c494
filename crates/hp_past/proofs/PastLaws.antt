-- What one bit remembers is what the formula says of all instants so far.
use Rattle.std.proofs.Common.{◌≡◌, Bool, true, false, ◌&&◌, ◌||◌, ◌⊎◌, ◌↔◌, inl, inr, List, [], ◌∷◌, ◌++◌, get_or, drop, refl, sym, ap, subst, ◌∙◌}
use Rattle.hp_base.specs.declared.value.Value.{Value}
use Rattle.hp_base.specs.declared.value.Value.TheVariants.{B}
use Rattle.hp_tree.specs.declared.expr.Op2.TheVariants.{And, Or}
use Rattle.hp_tree.specs.Operators.{two_of}
use Rattle.hp_tree.specs.Reaction.{Each}
use Rattle.hp_past.specs.Past.{Once, Historically, Since}
use Rattle.hp_past.specs.Remembering.{Tells}

abbrev pub IsBool : Value → Type 0
IsBool w = (b : Bool) × (w ≡ B b)

true-is : (b : Bool) → B b ≡ B true → b ≡ true
true-is true e = refl
true-is false e = cc

module _ {A : Type 0} where
  head-is : (i : A) (past : List A) (x : A) (older : List A) → i ∷ past ≡ x ∷ older → i ≡ x
  head-is i past x older e = ap (λ z. get_or z 0 i) e

  tail-is : (i : A) (past : List A) (x : A) (older : List A) → i ∷ past ≡ x ∷ older → past ≡ older
  tail-is i past x older e = ap (λ z. drop 1 z) e

  module _ (P : A → Type 0) where
    once-none : Once P [] → ⊥
    once-none o = by o.newer o.instant o.older o.among
      where
        by : (newer : List A) (x : A) (older : List A) → [] ≡ newer ++ x ∷ older → ⊥
        by [] x older e = cc
        by (y ∷ ys) x older e = cc

    once-first : (i : A) (past : List A) → P i → Once P (i ∷ past)
    once-first i past p = record { newer = []; instant = i; older = past; among = refl; holds = p }

    once-later : (i : A) (past : List A) → Once P past → Once P (i ∷ past)
    once-later i past o = record { newer = i ∷ o.newer; instant = o.instant; older = o.older; among = ap (λ z. i ∷ z) o.among; holds = o.holds }

    once-is : (i : A) (past : List A) → Once P (i ∷ past) → P i ⊎ Once P past
    once-is i past o = by o.newer o.instant o.older o.among o.holds
      where
        by : (newer : List A) (x : A) (older : List A) → i ∷ past ≡ newer ++ x ∷ older → P x → P i ⊎ Once P past
        by [] x older e p = inl (subst P (sym (head-is i past x older e)) p)
        by (y ∷ ys) x older e p = inr (record { newer = ys; instant = x; older = older; among = tail-is i past y (ys ++ x ∷ older) e; holds = p })

  module _ (P Q : A → Type 0) where
    since-none : Since P Q [] → ⊥
    since-none o = by o.newer o.instant o.older o.among
      where
        by : (newer : List A) (x : A) (older : List A) → [] ≡ newer ++ x ∷ older → ⊥
        by [] x older e = cc
        by (y ∷ ys) x older e = cc

    since-first : (i : A) (past : List A) → Q i → Since P Q (i ∷ past)
    since-first i past q = record { newer = []; instant = i; older = past; among = refl; begins = q; holds = tt }

    since-later : (i : A) (past : List A) → P i → Since P Q past → Since P Q (i ∷ past)
    since-later i past p o =
        record { newer = i ∷ o.newer; instant = o.instant; older = o.older; among = ap (λ z. i ∷ z) o.among; begins = o.begins; holds = (p, o.holds) }

    since-is : (i : A) (past : List A) → Since P Q (i ∷ past) → Q i ⊎ (P i × Since P Q past)
    since-is i past o = by o.newer o.instant o.older o.among o.begins o.holds
      where
        by : (newer : List A) (x : A) (older : List A) → i ∷ past ≡ newer ++ x ∷ older → Q x → Each P newer → Q i ⊎ (P i × Since P Q past)
        by [] x older e q h = inl (subst Q (sym (head-is i past x older e)) q)
        by (y ∷ ys) x older e q h =
            inr (
              subst P (sym (head-is i past y (ys ++ x ∷ older) e)) h.0,
              record { newer = ys; instant = x; older = older; among = tail-is i past y (ys ++ x ∷ older) e; begins = q; holds = h.1 },
            )

  -- ---- a variable over instants, and what it had at the newest one, or at first

  abbrev pub newest_value : (A → Value) → Bool → List A → Value
  newest_value v first [] = B first
  newest_value v first (i ∷ past) = v i

  abbrev IsTrueOf : (A → Value) → A → Type 0
  IsTrueOf n i = n i ≡ B true

  module _ (n v : A → Value) where
    abbrev pub OrFollows : List A → Type 0
    OrFollows [] = Unit {0}
    OrFollows (i ∷ past) = (v i ≡ two_of Or (n i) (newest_value v false past)) × OrFollows past

    or-tells : (i : A) (past : List A) (c b : Bool) → n i ≡ B c → (b ≡ true ↔ Once (IsTrueOf n) past) → v i ≡ B (c || b) → Tells (v i) (Once (IsTrueOf n) (i ∷ past))
    or-tells i past true b e t w = record { boolean = (true, w); exact = (λ z. once-first (IsTrueOf n) i past e, λ z. w) }
    or-tells i past false b e t w = record {
      boolean = (b, w);
      exact = (
        λ z. once-later (IsTrueOf n) i past (t.0 (true-is b (sym w ∙ z))),
        λ o. elim (once-is (IsTrueOf n) i past o) [ inl p ↦ absurd (not-false (sym e ∙ p)) | inr q ↦ w ∙ ap B (t.1 q) ],
      );
    }
      where
        not-false : B false ≡ B true → ⊥
        not-false z = cc

    pub once-tells : (past : List A) → OrFollows past → Each (λ i. IsBool (n i)) past → Tells (newest_value v false past) (Once (IsTrueOf n) past)
    once-tells [] h k = record { boolean = (false, refl); exact = (λ z. cc, λ o. absurd (once-none (IsTrueOf n) o)) }
    once-tells (i ∷ past) h k =
        let t = once-tells past h.1 k.1 in
        let b = t.boolean.0 in
        let was = t.boolean.1 in
        or-tells i past k.0.0 b k.0.1 (λ z. t.exact.0 (was ∙ ap B z), λ o. true-is b (sym was ∙ t.exact.1 o)) (h.0 ∙ (λ j. two_of Or (k.0.1 j) (was j)))

    abbrev pub AndFollows : List A → Type 0
    AndFollows [] = Unit {0}
    AndFollows (i ∷ past) = (v i ≡ two_of And (n i) (newest_value v true past)) × AndFollows past

    and-tells : (i : A) (past : List A) (c b : Bool) → n i ≡ B c → (b ≡ true ↔ Historically (IsTrueOf n) past) → v i ≡ B (c && b) → Tells (v i) (Historically (IsTrueOf n) (i ∷ past))
    and-tells i past true b e t w = record { boolean = (b, w); exact = (λ z. (e, t.0 (true-is b (sym w ∙ z))), λ o. w ∙ ap B (t.1 o.1)) }
    and-tells i past false b e t w = record { boolean = (false, w); exact = (λ z. absurd (not-false (sym w ∙ z)), λ o. absurd (not-false (sym e ∙ o.0))) }
      where
        not-false : B false ≡ B true → ⊥
        not-false z = cc

    pub historically-tells : (past : List A) → AndFollows past → Each (λ i. IsBool (n i)) past → Tells (newest_value v true past) (Historically (IsTrueOf n) past)
    historically-tells [] h k = record { boolean = (true, refl); exact = (λ z. tt, λ o. refl) }
    historically-tells (i ∷ past) h k =
        let t = historically-tells past h.1 k.1 in
        let b = t.boolean.0 in
        let was = t.boolean.1 in
        and-tells i past k.0.0 b k.0.1 (λ z. t.exact.0 (was ∙ ap B z), λ o. true-is b (sym was ∙ t.exact.1 o)) (h.0 ∙ (λ j. two_of And (k.0.1 j) (was j)))

  module _ (n1 n2 v : A → Value) where
    abbrev pub SinceFollows : List A → Type 0
    SinceFollows [] = Unit {0}
    SinceFollows (i ∷ past) = (v i ≡ two_of Or (n2 i) (two_of And (n1 i) (newest_value v false past))) × SinceFollows past

    abbrev Now : List A → Type 0
    Now past = Since (IsTrueOf n1) (IsTrueOf n2) past

    since-step : (i : A) (past : List A) (c1 c2 b : Bool) → n1 i ≡ B c1 → n2 i ≡ B c2 → (b ≡ true ↔ Now past) → v i ≡ B (c2 || (c1 && b)) → Tells (v i) (Now (i ∷ past))
    since-step i past c1 true b e1 e2 t w = record { boolean = (true, w); exact = (λ z. since-first (IsTrueOf n1) (IsTrueOf n2) i past e2, λ z. w) }
    since-step i past true false b e1 e2 t w = record {
      boolean = (b, w);
      exact = (
        λ z. since-later (IsTrueOf n1) (IsTrueOf n2) i past e1 (t.0 (true-is b (sym w ∙ z))),
        λ o. elim (since-is (IsTrueOf n1) (IsTrueOf n2) i past o) [ inl q ↦ absurd (not-false (sym e2 ∙ q)) | inr q ↦ w ∙ ap B (t.1 q.1) ],
      );
    }
      where
        not-false : B false ≡ B true → ⊥
        not-false z = cc
    since-step i past false false b e1 e2 t w = record {
      boolean = (false, w);
      exact = (
        λ z. absurd (not-false (sym w ∙ z)),
        λ o. elim (since-is (IsTrueOf n1) (IsTrueOf n2) i past o) [ inl q ↦ absurd (not-false (sym e2 ∙ q)) | inr q ↦ absurd (not-false (sym e1 ∙ q.0)) ],
      );
    }
      where
        not-false : B false ≡ B true → ⊥
        not-false z = cc

    pub since-tells : (past : List A) → SinceFollows past → Each (λ i. IsBool (n1 i)) past → Each (λ i. IsBool (n2 i)) past → Tells (newest_value v false past) (Now past)
    since-tells [] h k l = record { boolean = (false, refl); exact = (λ z. cc, λ o. absurd (since-none (IsTrueOf n1) (IsTrueOf n2) o)) }
    since-tells (i ∷ past) h k l =
        let t = since-tells past h.1 k.1 l.1 in
        let b = t.boolean.0 in
        let was = t.boolean.1 in
        since-step i past k.0.0 l.0.0 b k.0.1 l.0.1 (λ z. t.exact.0 (was ∙ ap B z), λ o. true-is b (sym was ∙ t.exact.1 o))
        (h.0 ∙ (λ j. two_of Or (l.0.1 j) (two_of And (k.0.1 j) (was j))))
