-- Pasts that are related one by one, and the own pasts of blocks.
use Rattle.std.proofs.Common.{◌≡◌, Bool, true, false, [], ◌∷◌, map, inl, inr, refl, sym, ap, ap₂, subst}
use Rattle.std.specs.Prelude.{if◌then◌else◌}
use Rattle.hp_base.specs.declared.value.Value.{Value}
use Rattle.hp_base.specs.declared.value.Value.TheVariants.{Absent, Nil, B, E, I, Star}
use Rattle.hp_tree.specs.Instant.{Fresh, Body, Head, Equations, Instant, Past, parts, top, own, own_with, newest, at_first, or_else, after}
use Rattle.law_automata.specs.Lowered.Standing.{Relation, Along, BothThere, InArm, body_in}

module _ (P Q : Relation) (h k : Instant → Instant) (f : (i j : Instant) → P i j → Q (h i) (k j)) where
  pub along_map : (past other : Past) → Along P past other → Along Q (map h past) (map k other)
  along_map [] [] a = tt
  along_map (i ∷ past) (j ∷ other) a = (f i j a.0, along_map past other a.1)
  along_map [] (j ∷ other) a = absurd a
  along_map (i ∷ past) [] a = absurd a

module _ (P Q : Relation) (k : Instant → Instant) (f : (i j : Instant) → P i j → Q i (k j)) where
  pub along_right : (past other : Past) → Along P past other → Along Q past (map k other)
  along_right [] [] a = tt
  along_right (i ∷ past) (j ∷ other) a = (f i j a.0, along_right past other a.1)
  along_right [] (j ∷ other) a = absurd a
  along_right (i ∷ past) [] a = absurd a

module _ (P Q : Relation) (f : (i j : Instant) → P i j → Q i j) where
  pub along_so : (past other : Past) → Along P past other → Along Q past other
  along_so [] [] a = tt
  along_so (i ∷ past) (j ∷ other) a = (f i j a.0, along_so past other a.1)
  along_so [] (j ∷ other) a = absurd a
  along_so (i ∷ past) [] a = absurd a

-- ---- values that are looked for in a past

abbrev pub SameTop : Relation
SameTop i j = top i ≡ top j

pub newest_same : (v : Value) (past other : Past) → Along SameTop past other → newest v past ≡ newest v other
newest_same v [] [] a = refl
newest_same v (i ∷ past) (j ∷ other) a = ap₂ or_else a.0 (newest_same v past other a.1)
newest_same v [] (j ∷ other) a = absurd a
newest_same v (i ∷ past) [] a = absurd a

pub first_same : (past other : Past) (v w : Value) → Along SameTop past other → at_first past v w ≡ at_first other v w
first_same [] [] v w a = refl
first_same (i ∷ past) (j ∷ other) v w a = ap₂ (λ t r. after t r w) a.0 (first_same past other v w a.1)
first_same [] (j ∷ other) v w a = absurd a
first_same (i ∷ past) [] v w a = absurd a

-- ---- own pasts

module _ (P : Relation) where
  with_both : (v : Value) (i j : Instant) (past other : Past) → P i j → Along P past other → Along P (own_with v i past) (own_with v j other)
  with_both Absent i j past other h a = a
  with_both (B true) i j past other h a = (h, tt)
  with_both (B false) i j past other h a = (h, a)
  with_both Nil i j past other h a = (h, a)
  with_both (E t c) i j past other h a = (h, a)
  with_both (I n) i j past other h a = (h, a)
  with_both Star i j past other h a = (h, a)

  own_both : (i j : Instant) (past other : Past) → BothThere P i j → Along P past other → Along P (own_with (i (Fresh ∷ [])) i past) (own_with (j (Fresh ∷ [])) j other)
  own_both i j past other (inl none) a =
      subst (λ v. Along P (own_with v i past) (own_with (j (Fresh ∷ [])) j other)) (sym none.0)
      (subst (λ v. Along P past (own_with v j other)) (sym none.1) a)
  own_both i j past other (inr some) a =
      subst (λ v. Along P (own_with (i (Fresh ∷ [])) i past) (own_with v j other)) some.0 (with_both (i (Fresh ∷ [])) i j past other some.1 a)

  pub own_along : (past other : Past) → Along (BothThere P) past other → Along P (own past) (own other)
  own_along [] [] a = tt
  own_along (i ∷ past) (j ∷ other) a = own_both i j (own past) (own other) a.0 (own_along past other a.1)
  own_along [] (j ∷ other) a = absurd a
  own_along (i ∷ past) [] a = absurd a

  pub since_along : (fresh : Bool) (past other : Past) → Along (BothThere P) past other → Along P (if fresh then [] else own past) (if fresh then [] else own other)
  since_along true past other a = tt
  since_along false past other a = own_along past other a

  -- the body of a state in its arm, where that never begins anew
  in_arm : (i arm : Instant) (past other : Past) → InArm P i arm → Along P (own past) (own (map body_in other)) → Along P (own_with (i (Fresh ∷ [])) i (own past)) (own (map body_in (own_with (arm (Fresh ∷ [])) arm other)))
  in_arm i arm past other (inl none) a =
      subst (λ v. Along P (own_with v i (own past)) (own (map body_in (own_with (arm (Fresh ∷ [])) arm other)))) (sym none.0)
      (subst (λ v. Along P (own past) (own (map body_in (own_with v arm other)))) (sym none.1) a)
  in_arm i arm past other (inr some) a =
      subst (λ v. Along P (own_with (i (Fresh ∷ [])) i (own past)) (own (map body_in (own_with v arm other)))) (sym some.0)
      (own_both i (body_in arm) (own past) (own (map body_in other)) some.1 a)

  pub arms_along : (past arms : Past) → Along (InArm P) past arms → Along P (own past) (own (map body_in (own arms)))
  arms_along [] [] a = tt
  arms_along (i ∷ past) (arm ∷ arms) a = in_arm i arm past (own arms) a.0 (arms_along past arms a.1)
  arms_along [] (arm ∷ arms) a = absurd a
  arms_along (i ∷ past) [] a = absurd a

  -- an own past in the parts of an arm
  pub body_parts : (past : Past) → map body_in past ≡ parts Body (parts Head (parts Equations past))
  body_parts [] = refl
  body_parts (i ∷ past) = ap (λ rest. body_in i ∷ rest) (body_parts past)
