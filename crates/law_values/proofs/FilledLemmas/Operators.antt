-- Operators and pasts keep the agreement of two values.
use Rattle.std.proofs.Common.{◌≡◌, List, [], ◌∷◌, refl, sym, ap, ap₂, subst, ◌∙◌}
use Rattle.std.specs.Prelude.{Bool, true, false, not, IsTrue, Some}
use Rattle.hp_base.specs.declared.ty.Ty.{Ty}
use Rattle.hp_base.specs.declared.ty.Ty.TheVariants as ty
use Rattle.hp_base.specs.declared.value.Value.{Value}
use Rattle.hp_base.specs.declared.value.Value.TheVariants.{Absent, Nil, B, E, I, Star}
use Rattle.hp_tree.specs.declared.expr.Op1.{Op1}
use Rattle.hp_tree.specs.declared.expr.Op1.TheVariants.{Not, Neg}
use Rattle.hp_tree.specs.declared.expr.Op2.{Op2}
use Rattle.hp_tree.specs.Programs.{TypeDecl}
use Rattle.hp_tree.specs.Operators.{one_of, two_of, if_of}
use Rattle.hp_tree.specs.Values.{IsOf}
use Rattle.hp_tree.specs.Instant.{Past, top, or_else, newest, after, at_first, Clock}
use Rattle.hp_tree.specs.Reaction.{Each}
use Rattle.hp_typing.specs.Types.{type_of_one, operand, answer}
use Rattle.law_values.specs.Valued.Fitting.{HasValue, Fits, Presence}
use Rattle.law_values.proofs.ValuedLemmas.Laws.{true_or_false, and_left, and_right, value_of, value_cases, never_nil, is_bool, one_value, one_absent, two_value, if_value, Along, none_held, newest_held}
use Rattle.law_values.specs.Filled.Firsts.{HasFirst}
use Rattle.law_values.proofs.FilledLemmas.Marked.{Agree, Marks, mark, PastsAgree, of_none, nil_or, typed_not_nil, typed_not_absent, is_same, by_same, for_nil, both_absent, was_absent, is_typed, SameTops}

one_nil : (o : Op1) → one_of o Nil ≡ Nil
one_nil Not = refl
one_nil Neg = refl

two_nil : (o : Op2) (v : Value) → two_of o v Nil ≡ Nil
two_nil o Absent = refl
two_nil o Nil = refl
two_nil o (B b) = refl
two_nil o (E s t) = refl
two_nil o (I n) = refl
two_nil o Star = refl

if_nil : (c : Bool) (v : Value) → if_of (B c) v Nil ≡ Nil
if_nil c Absent = refl
if_nil c Nil = refl
if_nil c (B b) = refl
if_nil c (E s t) = refl
if_nil c (I n) = refl
if_nil c Star = refl

module _ (types : List TypeDecl) where
  -- a value that is the same where it is not Nil, and always of the type
  result : (t : Ty) (x y : Value) → IsOf types t y → ((x ≡ Nil → ⊥) → y ≡ x) → Agree types (Some t) x y
  result t x y k f = nil_or x (λ e. for_nil types (Some t) x y e (λ first. k)) (λ n. by_same types (Some t) x y (f n) n)

  pub one_agree : (o : Op1) (d f : Bool) (v w : Value) → HasFirst types (type_of_one o) → Agree types (Some (type_of_one o)) v w → Fits types d (Some (type_of_one o)) f v → Agree types (Some (type_of_one o)) (one_of o v) (one_of o w)
  one_agree o true f v w first h k =
      result (type_of_one o) (one_of o v) (one_of o w)
      (never_nil types (type_of_one o) false (one_of o w) refl (one_value types o false false w (λ z. z) (value_of types (type_of_one o) false w (is_typed types (type_of_one o) f v w first h k))))
      (λ n. ap (one_of o) (is_same types (Some (type_of_one o)) v w h (λ e. n (ap (one_of o) e ∙ one_nil o))))
  one_agree o false f v w first h k =
      both_absent types (Some (type_of_one o)) (one_of o v) (one_of o w) (ap (one_of o) k ∙ one_absent types o) (ap (one_of o) (was_absent types (Some (type_of_one o)) v w h k) ∙ one_absent types o)

  pub two_agree : (o : Op2) (t : Ty) (d f g : Bool) (v w v' w' : Value) → operand o (Some t) ≡ Some t → HasFirst types t → Agree types (Some t) v v' → Agree types (Some t) w w' → Fits types d (Some t) f v → Fits types d (Some t) g w → Agree types (Some (answer o)) (two_of o v w) (two_of o v' w')
  two_agree o t true f g v w v' w' e first h k m n =
      result (answer o) (two_of o v w) (two_of o v' w')
      (never_nil types (answer o) false (two_of o v' w') refl (two_value types o t false false false v' w' e (λ z. z) (λ z. z) (value_of types t false v' (is_typed types t f v v' first h m)) (value_of types t false w' (is_typed types t g w w' first k n))))
      (λ z. ap₂ (two_of o) (is_same types (Some t) v v' h (λ q. z (ap (λ u. two_of o u w) q))) (is_same types (Some t) w w' k (λ q. z (ap (two_of o v) q ∙ two_nil o v))))
  two_agree o t false f g v w v' w' e first h k m n =
      both_absent types (Some (answer o)) (two_of o v w) (two_of o v' w') (ap₂ (two_of o) m n) (ap₂ (two_of o) (was_absent types (Some t) v v' h m) (was_absent types (Some t) w w' k n))

  -- a branch that is Nil makes the conditional Nil
  if_nils : (f : Bool) (u v w : Value) → HasValue types ty.Bool f u → (v ≡ Nil → if_of u v w ≡ Nil) × (w ≡ Nil → if_of u v w ≡ Nil)
  if_nils f u v w h =
      value_cases types ty.Bool f u h
      (λ e z. ((λ q. ap (λ r. if_of r v w) e), (λ q. ap (λ r. if_of r v w) e)))
      (λ z.
      let b = is_bool types u z in
      ((λ q. ap₂ (λ r s. if_of r s w) b.1 q), (λ q. ap₂ (λ r s. if_of r v s) b.1 q ∙ if_nil b.0 v)))

  pub if_agree : (t : Ty) (d f g k : Bool) (u v w u' v' w' : Value) → HasFirst types t → Agree types (Some ty.Bool) u u' → Agree types (Some t) v v' → Agree types (Some t) w w' → Fits types d (Some ty.Bool) f u → Fits types d (Some t) g v → Fits types d (Some t) k w → Agree types (Some t) (if_of u v w) (if_of u' v' w')
  if_agree t true f g k u v w u' v' w' first hu hv hw fu fv fw =
      let nils = if_nils f u v w fu in
      result t (if_of u v w) (if_of u' v' w')
      (never_nil types t false (if_of u' v' w') refl
      (if_value types t false false false false u' v' w' (λ z. z) (λ z. z) (λ z. z) (value_of types ty.Bool false u' (is_typed types ty.Bool f u u' tt hu fu)) (value_of types t false v' (is_typed types t g v v' first hv fv)) (value_of types t false w' (is_typed types t k w w' first hw fw))))
      (λ n.
      let a = is_same types (Some ty.Bool) u u' hu (λ q. n (ap (λ r. if_of r v w) q)) in
      let b = is_same types (Some t) v v' hv (λ q. n (nils.0 q)) in
      let c = is_same types (Some t) w w' hw (λ q. n (nils.1 q)) in
      λ z. if_of (a z) (b z) (c z))
  if_agree t false f g k u v w u' v' w' first hu hv hw fu fv fw =
      both_absent types (Some t) (if_of u v w) (if_of u' v' w') (λ z. if_of (fu z) (fv z) (fw z))
      (let a = was_absent types (Some ty.Bool) u u' hu fu in
      let b = was_absent types (Some t) v v' hv fv in
      let c = was_absent types (Some t) w w' hw fw in
      λ z. if_of (a z) (b z) (c z))

  -- ---- the newest value of a past

  or_there : (v w : Value) → (v ≡ Absent → ⊥) → or_else v w ≡ v
  or_there Absent w n = absurd (n refl)
  or_there Nil w n = refl
  or_there (B b) w n = refl
  or_there (E s t) w n = refl
  or_there (I i) w n = refl
  or_there Star w n = refl

  newer : (t : Ty) (d : Bool) (v v' w w' : Value) → Fits types d (Some t) false v → v' ≡ v → Agree types (Some t) w w' → Agree types (Some t) (or_else v w) (or_else v' w')
  newer t true v v' w w' h e k =
      let typed : IsOf types t v = never_nil types t false v refl h in
      let there = typed_not_absent types t v typed in
      by_same types (Some t) (or_else v w) (or_else v' w') (ap (λ z. or_else z w') e ∙ or_there v w' there ∙ sym (or_there v w there)) (λ q. typed_not_nil types t v typed (sym (or_there v w there) ∙ q))
  newer t false v v' w w' h e k = subst (λ z. Agree types (Some t) (or_else z w) (or_else v' w')) (sym h) (subst (λ z. Agree types (Some t) w (or_else z w')) (sym (e ∙ h)) k)

  -- `pre` gives Nil without a past, and in the filled form a value of the type
  pub newest_agree : (t : Ty) (clock : Clock) (ws : List Presence) (past other : Past) (u : Value) → IsOf types t u → Along (λ w i. Fits types (w clock) (Some t) false (top i)) ws past → SameTops types past other → Agree types (Some t) (newest Nil past) (newest u other)
  newest_agree t clock [] [] [] u k a h = λ first. k
  newest_agree t clock (w ∷ ws) (i ∷ past) (j ∷ other) u k a h = newer t (w clock) (top i) (top j) (newest Nil past) (newest u other) a.0 h.0 (newest_agree t clock ws past other u k a.1 h.1)
  newest_agree t clock [] [] (j ∷ other) u k a h = absurd h
  newest_agree t clock (w ∷ ws) (i ∷ past) [] u k a h = absurd h
  newest_agree t clock [] (i ∷ past) other u k a h = absurd a
  newest_agree t clock (w ∷ ws) [] other u k a h = absurd a

  pub newest_same : (past other : Past) (u : Value) → SameTops types past other → newest u other ≡ newest u past
  newest_same [] [] u h = refl
  newest_same (i ∷ past) (j ∷ other) u h = ap₂ or_else h.0 (newest_same past other u h.1)
  newest_same [] (j ∷ other) u h = absurd h
  newest_same (i ∷ past) [] u h = absurd h

  -- ---- whether there was a value

  after_is : (u v w : Value) → (u ≡ Absent → ⊥) → after u v w ≡ w
  after_is Absent v w n = absurd (n refl)
  after_is Nil v w n = refl
  after_is (B b) v w n = refl
  after_is (E s t) v w n = refl
  after_is (I i) v w n = refl
  after_is Star v w n = refl

  -- a value that is there is there in the filled form
  still_there : (b : Bool) (t : Ty) (v w : Value) → HasFirst types t → Agree types (mark b (Some t)) v w → (v ≡ Absent → ⊥) → w ≡ Absent → ⊥
  still_there true t v w first h n e = nil_or v (λ q. typed_not_absent types t w (subst (λ z. Agree types (Some t) z w) q h first) e) (λ m. n (sym (is_same types (Some t) v w h m) ∙ e))
  still_there false t v w first h n e = n (sym (of_none types v w h) ∙ e)

  absent_or : {X : Type 0} (v : Value) → (v ≡ Absent → X) → ((v ≡ Absent → ⊥) → X) → X
  absent_or Absent f g = f refl
  absent_or Nil f g = g (λ e. absurd (cc))
  absent_or (B b) f g = g (λ e. absurd (cc))
  absent_or (E s t) f g = g (λ e. absurd (cc))
  absent_or (I i) f g = g (λ e. absurd (cc))
  absent_or Star f g = g (λ e. absurd (cc))

  -- So the first value is taken in both, or the second.
  pub first_agree : (T : Marks) (b : Bool) (t o : Ty) (past other : Past) (v w v' w' : Value) → HasFirst types t → T [] ≡ mark b (Some t) → PastsAgree types T past other → Agree types (Some o) v v' → Agree types (Some o) w w' → Agree types (Some o) (at_first past v w) (at_first other v' w')
  first_agree T b t o [] [] v w v' w' first e h k m = k
  first_agree T b t o (i ∷ past) (j ∷ other) v w v' w' first e h k m =
      let rest = first_agree T b t o past other v w v' w' first e h.1 k m in
      let tops : Agree types (mark b (Some t)) (top i) (top j) = subst (λ z. Agree types z (top i) (top j)) e (h.0 []) in
      absent_or (top i)
      (λ q.
      subst (λ z. Agree types (Some o) (after z (at_first past v w) w) (at_first (j ∷ other) v' w')) (sym q)
      (subst (λ z. Agree types (Some o) (at_first past v w) (after z (at_first other v' w') w')) (sym (was_absent types (mark b (Some t)) (top i) (top j) tops q)) rest))
      (λ n.
      subst (λ z. Agree types (Some o) z (at_first (j ∷ other) v' w')) (sym (after_is (top i) (at_first past v w) w n))
      (subst (λ z. Agree types (Some o) w z) (sym (after_is (top j) (at_first other v' w') w' (still_there b t (top i) (top j) first tops n))) m))
  first_agree T b t o [] (j ∷ other) v w v' w' first e h k m = absurd h
  first_agree T b t o (i ∷ past) [] v w v' w' first e h k m = absurd h

  -- where there was none, the first
  none_absent : (t : Ty) (clock : Clock) (f : Bool) (ws : List Presence) (past : Past) → Along (λ w i. Fits types (w clock) (Some t) f (top i)) ws past → IsTrue (none_held ws clock) → Each (λ i. top i ≡ Absent) past
  none_absent t clock f [] [] a h = tt
  none_absent t clock f (w ∷ ws) (i ∷ past) a h = (by (w clock) a.0 (and_left (not (w clock)) (none_held ws clock) h), none_absent t clock f ws past a.1 (and_right (not (w clock)) (none_held ws clock) h))
    where
      by : (d : Bool) → Fits types d (Some t) f (top i) → IsTrue (not d) → top i ≡ Absent
      by true k z = absurd (cc)
      by false k z = k
  none_absent t clock f [] (i ∷ past) a h = absurd a
  none_absent t clock f (w ∷ ws) [] a h = absurd a

  others_absent : (T : Marks) (past other : Past) → PastsAgree types T past other → Each (λ i. top i ≡ Absent) past → Each (λ i. top i ≡ Absent) other
  others_absent T [] [] h a = tt
  others_absent T (i ∷ past) (j ∷ other) h a = (was_absent types (T []) (top i) (top j) (h.0 []) a.0, others_absent T past other h.1 a.1)
  others_absent T [] (j ∷ other) h a = absurd h
  others_absent T (i ∷ past) [] h a = absurd h

  first_alone : (past : Past) (v w : Value) → Each (λ i. top i ≡ Absent) past → at_first past v w ≡ v
  first_alone [] v w a = refl
  first_alone (i ∷ past) v w a = ap (λ z. after z (at_first past v w) w) a.0 ∙ first_alone past v w a.1

  -- `fby`, whose second operand gives one value of the type where its clock was there
  pub fby_agree : (T : Marks) (b f : Bool) (t : Ty) (clock : Clock) (ws : List Presence) (past other seconds thirds : Past) (v v' : Value) → HasFirst types t → T [] ≡ mark b (Some t) → PastsAgree types T past other → Along (λ w i. Fits types (w clock) (Some t) f (top i)) ws past → Along (λ w i. Fits types (w clock) (Some t) false (top i)) ws seconds → SameTops types seconds thirds → Agree types (Some t) v v' → Agree types (Some t) (at_first past v (newest Nil seconds)) (at_first other v' (newest Nil thirds))
  fby_agree T b f t clock ws past other seconds thirds v v' first e h a c s k =
      true_or_false (none_held ws clock)
      (λ z.
      let gone = none_absent t clock f ws past a z in
      subst (λ y. Agree types (Some t) y (at_first other v' (newest Nil thirds))) (sym (first_alone past v (newest Nil seconds) gone))
      (subst (λ y. Agree types (Some t) v y) (sym (first_alone other v' (newest Nil thirds) (others_absent T past other h gone))) k))
      (λ z.
      let typed = newest_held types t clock ws seconds Nil c z in
      first_agree T b t t past other v (newest Nil seconds) v' (newest Nil thirds) first e h k
      (by_same types (Some t) (newest Nil seconds) (newest Nil thirds) (newest_same seconds thirds Nil s) (typed_not_nil types t (newest Nil seconds) typed)))
