-- Two values at a place, one of the language and one of its filled form. At a place without a mark they are the same. At a place that is marked with a type the first may be Nil, and the second is then of the type, where that has a first value.
use Rattle.std.proofs.Common.{◌≡◌, ℕ, List, [], ◌∷◌, refl, sym, ap, subst, ◌∙◌}
use Rattle.std.specs.Prelude.{⊤, Bool, true, false, ◌&&◌, IsTrue, IsFalse, if◌then◌else◌, Option, None, Some}
use Rattle.hp_base.specs.declared.ty.Ty.{Ty}
use Rattle.hp_base.specs.declared.ty.Ty.TheVariants as ty
use Rattle.hp_base.specs.declared.value.Value.{Value}
use Rattle.hp_base.specs.declared.value.Value.TheVariants.{Absent, Nil, B, E, I, Star}
use Rattle.hp_tree.specs.Programs.{TypeDecl}
use Rattle.hp_tree.specs.Values.{IsOf}
use Rattle.hp_tree.specs.Instant.{Step, Body, Observer, Assume, Enforce, Named, Fresh, Equations, Head, Tail, Right, Test, Arms as ArmsOf, States as StatesOf, Until, Unless, Active, Next, Pending, First, Second, Third, Args, Instance, Place, Instant, Past, parts, top, own, own_with, nothing, alone, with_one, with_two, with_three, in_row, with_row, with_instance, of_two, in_block, in_right, with_arms, with_body, in_state, with_words, in_observer}
use Rattle.law_values.specs.Valued.Fitting.{HasValue, Fits}
use Rattle.law_values.proofs.ValuedLemmas.Laws.{value_cases, never_nil}
use Rattle.law_values.specs.Filled.Firsts.{HasFirst}

-- the mark of a place: the type of a value that may be Nil
abbrev pub Marks : Type 0
Marks = Place → Option Ty

abbrev pub mark : Bool → Option Ty → Option Ty
mark true o = o
mark false o = None

-- what stands for Nil at a place
abbrev pub Fills : List TypeDecl → Option Ty → Value → Type 0
Fills types None w = w ≡ Nil
Fills types (Some t) w = HasFirst types t → IsOf types t w

abbrev pub Agree : List TypeDecl → Option Ty → Value → Value → Type 0
Agree types o Nil w = Fills types o w
Agree types o v w = w ≡ v

abbrev pub AllAgree : List TypeDecl → Marks → Instant → Instant → Type 0
AllAgree types T i j = (p : Place) → Agree types (T p) (i p) (j p)

-- as many instants, which agree at all places
abbrev pub PastsAgree : List TypeDecl → Marks → Past → Past → Type 0
PastsAgree types T [] [] = ⊤
PastsAgree types T (i ∷ past) (j ∷ other) = AllAgree types T i j × PastsAgree types T past other
PastsAgree types T past other = ⊥

pub nil_or : {X : Type 0} (v : Value) → (v ≡ Nil → X) → ((v ≡ Nil → ⊥) → X) → X
nil_or Nil f g = f refl
nil_or Absent f g = g (λ e. absurd (cc))
nil_or (B b) f g = g (λ e. absurd (cc))
nil_or (E t k) f g = g (λ e. absurd (cc))
nil_or (I n) f g = g (λ e. absurd (cc))
nil_or Star f g = g (λ e. absurd (cc))

module _ (types : List TypeDecl) where
  pub typed_not_nil : (t : Ty) (v : Value) → IsOf types t v → v ≡ Nil → ⊥
  typed_not_nil t v h e = at t (subst (λ z. IsOf types t z) e h)
    where
      at : (t : Ty) → IsOf types t Nil → ⊥
      at ty.Bool h = h
      at ty.Int h = h
      at (ty.Enum u) h = h

  pub typed_not_absent : (t : Ty) (v : Value) → IsOf types t v → v ≡ Absent → ⊥
  typed_not_absent t v h e = at t (subst (λ z. IsOf types t z) e h)
    where
      at : (t : Ty) → IsOf types t Absent → ⊥
      at ty.Bool h = h
      at ty.Int h = h
      at (ty.Enum u) h = h

  -- a value that is not Nil is the same
  pub is_same : (o : Option Ty) (v w : Value) → Agree types o v w → (v ≡ Nil → ⊥) → w ≡ v
  is_same o Nil w h n = absurd (n refl)
  is_same o Absent w h n = h
  is_same o (B b) w h n = h
  is_same o (E t k) w h n = h
  is_same o (I i) w h n = h
  is_same o Star w h n = h

  pub by_same : (o : Option Ty) (v w : Value) → w ≡ v → (v ≡ Nil → ⊥) → Agree types o v w
  by_same o Nil w h n = absurd (n refl)
  by_same o Absent w h n = h
  by_same o (B b) w h n = h
  by_same o (E t k) w h n = h
  by_same o (I i) w h n = h
  by_same o Star w h n = h

  -- at a place without a mark
  pub of_none : (v w : Value) → Agree types None v w → w ≡ v
  of_none Nil w h = h
  of_none Absent w h = h
  of_none (B b) w h = h
  of_none (E t k) w h = h
  of_none (I i) w h = h
  of_none Star w h = h

  pub to_none : (v w : Value) → w ≡ v → Agree types None v w
  to_none Nil w h = h
  to_none Absent w h = h
  to_none (B b) w h = h
  to_none (E t k) w h = h
  to_none (I i) w h = h
  to_none Star w h = h

  pub for_nil : (o : Option Ty) (v w : Value) → v ≡ Nil → Fills types o w → Agree types o v w
  for_nil o v w e h = subst (λ z. Agree types o z w) (sym e) h

  pub both_absent : (o : Option Ty) (v w : Value) → v ≡ Absent → w ≡ Absent → Agree types o v w
  both_absent o v w e f = subst (λ z. Agree types o z w) (sym e) f

  pub was_absent : (o : Option Ty) (v w : Value) → Agree types o v w → v ≡ Absent → w ≡ Absent
  was_absent o v w h e = subst (λ z. Agree types o z w) e h

  -- a value of the filled form is of the type
  pub is_typed : (t : Ty) (f : Bool) (v w : Value) → HasFirst types t → Agree types (Some t) v w → HasValue types t f v → IsOf types t w
  is_typed t f v w first h k =
      value_cases types t f v k
      (λ e z. subst (λ u. Agree types (Some t) u w) e h first)
      (λ z. subst (λ u. IsOf types t u) (sym (is_same (Some t) v w h (typed_not_nil t v z))) z)

  -- a value that fits without Nil
  pub never : (d : Bool) (t : Ty) (v : Value) → Fits types d (Some t) false v → v ≡ Nil → ⊥
  never true t v h e = typed_not_nil t v (never_nil types t false v refl h) e
  never false t v h e = absurd (let z : Nil ≡ Absent = sym e ∙ h in cc)

  -- marks where a value fits: one that is First is never Nil
  pub loose : (b d : Bool) (t : Ty) (v w : Value) → Agree types (mark b (Some t)) v w → Fits types d (Some t) (b && true) v → Agree types (Some t) v w
  loose true d t v w h k = h
  loose false d t v w h k = by_same (Some t) v w (of_none v w h) (never d t v k)

  pub strict : (b d : Bool) (t : Ty) (v w : Value) → Agree types (Some t) v w → Fits types d (Some t) (b && true) v → Agree types (mark b (Some t)) v w
  strict true d t v w h k = h
  strict false d t v w h k = to_none v w (is_same (Some t) v w h (never d t v k))

  pub no_mark : (b : Bool) (o : Option Ty) → IsFalse b → mark b o ≡ None
  no_mark b o f = ap (λ z. mark z o) f

  pub unmarked : (b : Bool) (o : Option Ty) (v w : Value) → IsFalse b → Agree types (mark b o) v w → w ≡ v
  unmarked b o v w f h = of_none v w (subst (λ z. Agree types z v w) (no_mark b o f) h)

  pub as_type : (o p : Option Ty) (v w : Value) → o ≡ p → Agree types o v w → Agree types p v w
  as_type o p v w e h = subst (λ z. Agree types z v w) e h

  pub if_agrees : (o : Option Ty) (d d' : Bool) (v w : Value) → d' ≡ d → Agree types o v w → Agree types o (if d then v else Absent) (if d' then w else Absent)
  if_agrees o d d' v w e h = subst (λ z. Agree types o (if d then v else Absent) (if z then w else Absent)) (sym e) (by d)
    where
      by : (d : Bool) → Agree types o (if d then v else Absent) (if d then w else Absent)
      by true = h
      by false = refl

  -- ---- instants made of parts

  module _ (T : Marks) where
    pub alone_agrees : (v w : Value) → Agree types (T []) v w → AllAgree types T (alone v) (alone w)
    alone_agrees v w h [] = h
    alone_agrees v w h (_ ∷ p) = refl

    pub one_agrees : (v w : Value) (i j : Instant) → Agree types (T []) v w → AllAgree types (λ p. T (First ∷ p)) i j → AllAgree types T (with_one v i) (with_one w j)
    one_agrees v w i j h a [] = h
    one_agrees v w i j h a (First ∷ p) = a p
    one_agrees v w i j h a p = refl

    pub two_agrees : (v w : Value) (i j i' j' : Instant) → Agree types (T []) v w → AllAgree types (λ p. T (First ∷ p)) i i' → AllAgree types (λ p. T (Second ∷ p)) j j' → AllAgree types T (with_two v i j) (with_two w i' j')
    two_agrees v w i j i' j' h a b [] = h
    two_agrees v w i j i' j' h a b (First ∷ p) = a p
    two_agrees v w i j i' j' h a b (Second ∷ p) = b p
    two_agrees v w i j i' j' h a b p = refl

    pub three_agrees : (v w : Value) (i j k i' j' k' : Instant) → Agree types (T []) v w → AllAgree types (λ p. T (First ∷ p)) i i' → AllAgree types (λ p. T (Second ∷ p)) j j' → AllAgree types (λ p. T (Third ∷ p)) k k' → AllAgree types T (with_three v i j k) (with_three w i' j' k')
    three_agrees v w i j k i' j' k' h a b c [] = h
    three_agrees v w i j k i' j' k' h a b c (First ∷ p) = a p
    three_agrees v w i j k i' j' k' h a b c (Second ∷ p) = b p
    three_agrees v w i j k i' j' k' h a b c (Third ∷ p) = c p
    three_agrees v w i j k i' j' k' h a b c p = refl

    pub row_agrees : (i j : Instant) (is js : List Instant) → AllAgree types (λ p. T (Head ∷ p)) i j → AllAgree types (λ p. T (Tail ∷ p)) (in_row is) (in_row js) → AllAgree types T (in_row (i ∷ is)) (in_row (j ∷ js))
    row_agrees i j is js a b (Head ∷ p) = a p
    row_agrees i j is js a b (Tail ∷ p) = b p
    row_agrees i j is js a b p = refl

    pub merge_agrees : (v w : Value) (is js : List Instant) → Agree types (T []) v w → AllAgree types (λ p. T (Args ∷ p)) (in_row is) (in_row js) → AllAgree types T (with_row v is) (with_row w js)
    merge_agrees v w is js h a [] = h
    merge_agrees v w is js h a (Args ∷ p) = a p
    merge_agrees v w is js h a p = refl

    pub call_agrees : (v w : Value) (is js : List Instant) (i j : Instant) → Agree types (T []) v w → AllAgree types (λ p. T (Args ∷ p)) (in_row is) (in_row js) → AllAgree types (λ p. T (Instance ∷ p)) i j → AllAgree types T (with_instance v is i) (with_instance w js j)
    call_agrees v w is js i j h a b [] = h
    call_agrees v w is js i j h a b (Args ∷ p) = a p
    call_agrees v w is js i j h a b (Instance ∷ p) = b p
    call_agrees v w is js i j h a b p = refl

    pub of_two_agrees : (i j i' j' : Instant) → AllAgree types (λ p. T (Head ∷ p)) i i' → AllAgree types (λ p. T (Tail ∷ p)) j j' → AllAgree types T (of_two i j) (of_two i' j')
    of_two_agrees i j i' j' a b (Head ∷ p) = a p
    of_two_agrees i j i' j' a b (Tail ∷ p) = b p
    of_two_agrees i j i' j' a b p = refl

    pub block_agrees : (f g : List ℕ → Value) (d : Bool) (i j : Instant) → ((x : List ℕ) → Agree types (T (Named x ∷ [])) (f x) (g x)) → AllAgree types (λ p. T (Equations ∷ p)) i j → AllAgree types T (in_block f (B d) i) (in_block g (B d) j)
    block_agrees f g d i j h a (Named x ∷ []) = h x
    block_agrees f g d i j h a (Fresh ∷ []) = refl
    block_agrees f g d i j h a (Equations ∷ p) = a p
    block_agrees f g d i j h a p = refl

    pub right_agrees : (i j : Instant) → AllAgree types (λ p. T (Right ∷ p)) i j → AllAgree types T (in_right i) (in_right j)
    right_agrees i j a (Right ∷ p) = a p
    right_agrees i j a p = refl

    pub arms_agree : (i j i' j' : Instant) → AllAgree types (λ p. T (Test ∷ p)) i i' → AllAgree types (λ p. T (ArmsOf ∷ p)) j j' → AllAgree types T (with_arms i j) (with_arms i' j')
    arms_agree i j i' j' a b (Test ∷ p) = a p
    arms_agree i j i' j' a b (ArmsOf ∷ p) = b p
    arms_agree i j i' j' a b p = refl

    pub body_agrees : (i j i' j' : Instant) → AllAgree types (λ p. T (Test ∷ p)) i i' → AllAgree types (λ p. T (Body ∷ p)) j j' → AllAgree types T (with_body i j) (with_body i' j')
    body_agrees i j i' j' a b (Test ∷ p) = a p
    body_agrees i j i' j' a b (Body ∷ p) = b p
    body_agrees i j i' j' a b p = refl

    pub state_agrees : (i j k i' j' k' : Instant) → AllAgree types (λ p. T (Body ∷ p)) i i' → AllAgree types (λ p. T (Until ∷ p)) j j' → AllAgree types (λ p. T (Unless ∷ p)) k k' → AllAgree types T (in_state i j k) (in_state i' j' k')
    state_agrees i j k i' j' k' a b c (Body ∷ p) = a p
    state_agrees i j k i' j' k' a b c (Until ∷ p) = b p
    state_agrees i j k i' j' k' a b c (Unless ∷ p) = c p
    state_agrees i j k i' j' k' a b c p = refl

    pub words_agree : (m n : ℕ) (d : Bool) (i j : Instant) → AllAgree types (λ p. T (StatesOf ∷ p)) i j → AllAgree types T (with_words (E 0 m) (E 0 n) (B d) i) (with_words (E 0 m) (E 0 n) (B d) j)
    words_agree m n d i j a (Active ∷ []) = refl
    words_agree m n d i j a (Next ∷ []) = refl
    words_agree m n d i j a (Pending ∷ []) = refl
    words_agree m n d i j a (StatesOf ∷ p) = a p
    words_agree m n d i j a p = refl

    pub observer_agrees : (i j k i' j' k' : Instant) → AllAgree types (λ p. T (Observer ∷ p)) i i' → AllAgree types (λ p. T (Assume ∷ p)) j j' → AllAgree types (λ p. T (Enforce ∷ p)) k k' → AllAgree types T (in_observer i j k) (in_observer i' j' k')
    observer_agrees i j k i' j' k' a b c (Observer ∷ p) = a p
    observer_agrees i j k i' j' k' a b c (Assume ∷ p) = b p
    observer_agrees i j k i' j' k' a b c (Enforce ∷ p) = c p
    observer_agrees i j k i' j' k' a b c p = refl

    pub none_agree : AllAgree types T nothing nothing
    none_agree p = refl

    -- a part that is there, or not
    pub there_agrees : (d : Bool) (i j : Instant) → (IsTrue d → AllAgree types T i j) → AllAgree types T (if d then i else nothing) (if d then j else nothing)
    there_agrees true i j h p = h refl p
    there_agrees false i j h p = refl

  -- ---- pasts

  pub past_part : (T : Marks) (s : Step) (past other : Past) → PastsAgree types T past other → PastsAgree types (λ p. T (s ∷ p)) (parts s past) (parts s other)
  past_part T s [] [] h = tt
  past_part T s (i ∷ past) (j ∷ other) h = ((λ p. h.0 (s ∷ p)), past_part T s past other h.1)
  past_part T s [] (j ∷ other) h = absurd h
  past_part T s (i ∷ past) [] h = absurd h

  own_step : (T : Marks) (v : Value) (i j : Instant) (past other : Past) → AllAgree types T i j → PastsAgree types T past other → PastsAgree types T (own_with v i past) (own_with v j other)
  own_step T Absent i j past other h k = k
  own_step T (B true) i j past other h k = (h, tt)
  own_step T (B false) i j past other h k = (h, k)
  own_step T v i j past other h k = (h, k)

  -- the own past of a block, whose word whether it begins anew is the same
  pub past_own : (T : Marks) → T (Fresh ∷ []) ≡ None → (past other : Past) → PastsAgree types T past other → PastsAgree types T (own past) (own other)
  past_own T e [] [] h = tt
  past_own T e (i ∷ past) (j ∷ other) h =
      let same : j (Fresh ∷ []) ≡ i (Fresh ∷ []) = of_none (i (Fresh ∷ [])) (j (Fresh ∷ [])) (subst (λ z. Agree types z (i (Fresh ∷ [])) (j (Fresh ∷ []))) e (h.0 (Fresh ∷ []))) in
      subst (λ z. PastsAgree types T (own (i ∷ past)) (own_with z j (own other))) (sym same) (own_step T (i (Fresh ∷ [])) i j (own past) (own other) h.0 (past_own T e past other h.1))
  past_own T e [] (j ∷ other) h = absurd h
  past_own T e (i ∷ past) [] h = absurd h

  pub past_since : (T : Marks) → T (Fresh ∷ []) ≡ None → (fresh : Bool) (past other : Past) → PastsAgree types T past other → PastsAgree types T (if fresh then [] else own past) (if fresh then [] else own other)
  past_since T e true past other h = tt
  past_since T e false past other h = past_own T e past other h

  -- tops of a past at a place without a mark
  abbrev pub SameTops : Past → Past → Type 0
  SameTops [] [] = ⊤
  SameTops (i ∷ past) (j ∷ other) = (top j ≡ top i) × SameTops past other
  SameTops past other = ⊥

  pub same_tops : (T : Marks) → T [] ≡ None → (past other : Past) → PastsAgree types T past other → SameTops past other
  same_tops T e [] [] h = tt
  same_tops T e (i ∷ past) (j ∷ other) h = (of_none (top i) (top j) (subst (λ z. Agree types z (top i) (top j)) e (h.0 [])), same_tops T e past other h.1)
  same_tops T e [] (j ∷ other) h = absurd h
  same_tops T e (i ∷ past) [] h = absurd h
