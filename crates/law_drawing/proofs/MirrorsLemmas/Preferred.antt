-- Of choices: what is preferred of them is what is preferred of their bits, in rows of variables.
use Rattle.std.proofs.Common.{◌≡◌, ◌↔◌, ◌≤◌, ◌<◌, ◌⊎◌, inl, inr, ℕ, zero, suc, ◌+◌, true, false, List, [], ◌∷◌, ◌++◌, length, map, refl, sym, ap, ap₂, subst, ◌∙◌, arith}
use Rattle.std.specs.Prelude.{⊤}
use Rattle.hp_base.specs.declared.ty.Ty.{Ty}
use Rattle.hp_base.specs.declared.ty.Ty.TheVariants as ty
use Rattle.hp_base.specs.declared.value.Value.{Value}
use Rattle.hp_base.specs.declared.value.Value.TheVariants.{B}
use Rattle.hp_tree.specs.Blocks.{Decl}
use Rattle.hp_tree.specs.Programs.{TypeDecl}
use Rattle.hp_tree.specs.Operators.{constructor_from}
use Rattle.hp_tree.specs.Values.{constructors_of}
use Rattle.hp_boolx.specs.Search.{Bits}
use Rattle.hp_boolx.specs.Game.{Before}
use Rattle.hp_circuit.proofs.NumberLaws as numbers
use Rattle.hp_meaning.specs.Contract.Codes.{pow2, width, to_bits, cons_number, code}
use Rattle.hp_meaning.specs.Contract.Game.{Choice, choices_of, IsAmong, AreChoices, IsPreferred, AtMost, first_of}
use Rattle.hp_meaning.specs.Contract.Slots.{shape_of}
use Rattle.law_games.specs.Mirror.Mirrored.{preferred_bits}
use Rattle.law_drawing.proofs.MirroringLemmas.Same.{pow2-same, width-same}
use Rattle.law_drawing.proofs.MirrorsLemmas.Before.{low, behind_same, behind_other, fronts, less_before, before_less, same_number, zero_bits}

-- ---- values that are numbered in order

abbrev pub Numbered : ℕ → List Value → Type 0
Numbered s [] = ⊤
Numbered s (v ∷ vs) = (cons_number v ≡ s) × Numbered (suc s) vs

at_least : (s : ℕ) (vs : List Value) (v : Value) → Numbered s vs → IsAmong vs v → s ≤ cons_number v
at_least s [] v h a = absurd a
at_least s (u ∷ us) v h (inl e) = let n = h.0 in let m = ap cons_number e in omega (arith, n, m)
at_least s (u ∷ us) v h (inr a) = let r = at_least (suc s) us v h.1 a in omega (arith, r)

below_all : (s : ℕ) (vs : List Value) (v : Value) → Numbered s vs → IsAmong vs v → cons_number v < s + length vs
below_all s [] v h a = absurd a
below_all s (u ∷ us) v h (inl e) = let n = h.0 in let m = ap cons_number e in omega (arith, n, m)
below_all s (u ∷ us) v h (inr a) = let r = below_all (suc s) us v h.1 a in omega (arith, r)

same_value : (s : ℕ) (vs : List Value) (v w : Value) → Numbered s vs → IsAmong vs v → IsAmong vs w → cons_number v ≡ cons_number w → v ≡ w
same_value s [] v w h a b e = absurd a
same_value s (u ∷ us) v w h (inl x) (inl y) e = x ∙ sym y
same_value s (u ∷ us) v w h (inl x) (inr b) e = let l = at_least (suc s) us w h.1 b in let n = h.0 in let m = ap cons_number x in absurd (omega (arith, l, n, m, e))
same_value s (u ∷ us) v w h (inr a) (inl y) e = let l = at_least (suc s) us v h.1 a in let n = h.0 in let m = ap cons_number y in absurd (omega (arith, l, n, m, e))
same_value s (u ∷ us) v w h (inr a) (inr b) e = same_value (suc s) us v w h.1 a b e

preferred_less : (s : ℕ) (vs : List Value) (v w : Value) → Numbered s vs → IsAmong vs w → IsPreferred vs v w → cons_number v < cons_number w
preferred_less s [] v w h b p = absurd b
preferred_less s (u ∷ us) v w h (inl y) p = absurd (p.0 y)
preferred_less s (u ∷ us) v w h (inr b) (other, inl x) = let l = at_least (suc s) us w h.1 b in let n = h.0 in let m = ap cons_number x in omega (arith, l, n, m)
preferred_less s (u ∷ us) v w h (inr b) (other, inr p) = preferred_less (suc s) us v w h.1 b p

less_preferred : (s : ℕ) (vs : List Value) (v w : Value) → Numbered s vs → IsAmong vs v → IsAmong vs w → cons_number v < cons_number w → IsPreferred vs v w
less_preferred s [] v w h a b l = absurd a
less_preferred s (u ∷ us) v w h (inl x) b l = let m = ap cons_number x in ((λ e. let k = ap cons_number e in absurd (omega (arith, l, m, k))), inl x)
less_preferred s (u ∷ us) v w h (inr a) (inl y) l = let k = at_least (suc s) us v h.1 a in let n = h.0 in let m = ap cons_number y in absurd (omega (arith, l, k, n, m))
less_preferred s (u ∷ us) v w h (inr a) (inr b) l =
    ((λ e. let k = at_least (suc s) us v h.1 a in let n = h.0 in let m = ap cons_number e in absurd (omega (arith, l, k, n, m))), inr (less_preferred (suc s) us v w h.1 a b l))

first_number : (vs : List Value) → Numbered 0 vs → cons_number (first_of vs) ≡ 0
first_number [] h = refl
first_number (v ∷ vs) h = h.0

split : (a b xs ys : Bits) → length a ≡ length b → a ++ xs ≡ b ++ ys → (a ≡ b) × (xs ≡ ys)
split [] [] xs ys l e = (refl, e)
split [] (y ∷ b) xs ys l e = absurd (omega (arith, l))
split (x ∷ a) [] xs ys l e = absurd (omega (arith, l))
split (x ∷ a) (y ∷ b) xs ys l e =
    let r = split a b xs ys (omega (arith, l)) (let q : a ++ xs ≡ b ++ ys = cc in q) in
    let h : x ≡ y = cc in
    (ap₂ (λ x a. x ∷ a) h r.0, r.1)

either : {A B C : Type 0} → A ⊎ B → (A → C) → (B → C) → C
either (inl a) f g = f a
either (inr b) f g = g b

-- ---- one variable

width_fits : (m : ℕ) → m ≤ pow2 (width m)
width_fits m = let fits = numbers.width_fits m in subst (λ w. m ≤ pow2 w) (width-same m) (subst (λ p. m ≤ p) (pow2-same _) fits)

less_or_same : (i j : ℕ) → i ≤ j → (i < j) ⊎ (i ≡ j)
less_or_same zero zero l = inr refl
less_or_same zero (suc j) l = inl (omega arith)
less_or_same (suc i) zero l = absurd (omega (arith, l))
less_or_same (suc i) (suc j) l = more (less_or_same i j (omega (arith, l)))
  where
    more : (i < j) ⊎ (i ≡ j) → (suc i < suc j) ⊎ (suc i ≡ suc j)
    more (inl k) = inl (omega (arith, k))
    more (inr e) = inr (ap suc e)

long_bits : (w k : ℕ) → length (to_bits w k) ≡ length (low w)
long_bits zero k = refl
long_bits (suc w) k = ap suc (long_bits w _)

-- ---- the bits of variables in a row, and what is preferred of them

module _ (types : List TypeDecl) where
  abbrev pub row_bits : List Decl → Choice → Bits
  row_bits [] c = []
  row_bits (d ∷ ds) [] = []
  row_bits (d ∷ ds) (v ∷ c) = code types d.ty v ++ row_bits ds c

  abbrev pub row_liked : List Decl → Bits
  row_liked [] = []
  row_liked (d ∷ ds) = preferred_bits (shape_of types d.ty) ++ row_liked ds

module _ (types : List TypeDecl) (counted : (t : List ℕ) → Numbered 0 (choices_of types (ty.Enum t))) where
  abbrev bits : Ty → Value → Bits
  bits t v = code types t v

  abbrev liked : Ty → Bits
  liked t = preferred_bits (shape_of types t)

  long : (t : Ty) (v : Value) → length (bits t v) ≡ length (liked t)
  long ty.Bool v = refl
  long ty.Int v = refl
  long (ty.Enum t) v = long_bits (width (length (constructors_of types t))) (cons_number v)

  within : (t : List ℕ) (v : Value) → IsAmong (choices_of types (ty.Enum t)) v → cons_number v < pow2 (width (length (constructors_of types t)))
  within t v a =
      let cs = constructors_of types t in
      let b = below_all 0 (map (constructor_from 0 types) cs) v (counted t) a in
      let e = length_map (constructor_from 0 types) cs in
      let f = width_fits (length cs) in
      omega (arith, b, e, f)
    where
      length_map : (f : List ℕ → Value) (cs : List (List ℕ)) → length (map f cs) ≡ length cs
      length_map f [] = refl
      length_map f (c ∷ cs) = ap suc (length_map f cs)

  -- of two truth values that may be chosen
  of_two_truths : (C : Value → Value → Type 0) → C (B true) (B true) → C (B true) (B false) → C (B false) (B true) → C (B false) (B false)
      → (v w : Value) → IsAmong (choices_of types ty.Bool) v → IsAmong (choices_of types ty.Bool) w → C v w
  of_two_truths C a b c d v w (inl x) (inl y) = subst (λ v. C v w) (sym x) (subst (C (B true)) (sym y) a)
  of_two_truths C a b c d v w (inl x) (inr (inl y)) = subst (λ v. C v w) (sym x) (subst (C (B true)) (sym y) b)
  of_two_truths C a b c d v w (inl x) (inr (inr y)) = absurd y
  of_two_truths C a b c d v w (inr (inl x)) (inl y) = subst (λ v. C v w) (sym x) (subst (C (B false)) (sym y) c)
  of_two_truths C a b c d v w (inr (inl x)) (inr (inl y)) = subst (λ v. C v w) (sym x) (subst (C (B false)) (sym y) d)
  of_two_truths C a b c d v w (inr (inl x)) (inr (inr y)) = absurd y
  of_two_truths C a b c d v w (inr (inr x)) k = absurd x

  abbrev Better : Ty → Value → Value → Type 0
  Better t v w = IsPreferred (choices_of types t) v w → Before (liked t) (bits t v) (bits t w) × (bits t v ≡ bits t w → ⊥)

  never_better : IsPreferred (choices_of types ty.Bool) (B false) (B false) → ⊥
  never_better (other, inl z) = absurd (let no : B false ≡ B true = z in cc)
  never_better (other, inr q) = q.0 refl

  -- A preferred value has bits before those of the other, which are others.
  better : (t : Ty) (v w : Value) → IsAmong (choices_of types t) v → IsAmong (choices_of types t) w → Better t v w
  better ty.Bool v w a b =
      of_two_truths (Better ty.Bool) (λ p. absurd (p.0 refl)) (λ p. (inr ((λ same. absurd (let no : true ≡ false = same in cc)), refl), λ e. absurd (let no : true ∷ [] ≡ false ∷ [] = e in cc))) (λ p. absurd (p.0 refl))
      (λ p. absurd (never_better p)) v w a b
  better ty.Int v w a b = λ p. absurd a
  better (ty.Enum t) v w a b = λ p.
      let l = preferred_less 0 (choices_of types (ty.Enum t)) v w (counted t) b p in
      let m = width (length (constructors_of types t)) in (
        less_before m (cons_number v) (cons_number w) (omega (arith, l)) (within t w b),
        λ e. let same = same_number m (cons_number v) (cons_number w) (within t v a) (within t w b) e in absurd (omega (arith, l, same)),
      )

  abbrev Back : Ty → Value → Value → Type 0
  Back t v w = Before (liked t) (bits t v) (bits t w) → IsPreferred (choices_of types t) v w ⊎ (w ≡ v)

  not_before : Before (true ∷ []) (false ∷ []) (true ∷ []) → ⊥
  not_before (inl h) = let no : false ≡ true = h.0 in absurd cc
  not_before (inr h) = let no : false ≡ true = h.1 in absurd cc

  back : (t : Ty) (v w : Value) → IsAmong (choices_of types t) v → IsAmong (choices_of types t) w → Back t v w
  back ty.Bool v w a b =
      of_two_truths (Back ty.Bool) (λ h. inr refl) (λ h. inl ((λ e. absurd (let no : B false ≡ B true = e in cc)), inl refl)) (λ h. absurd (not_before h)) (λ h. inr refl) v w a b
  back ty.Int v w a b = λ h. absurd a
  back (ty.Enum t) v w a b = λ h.
      by (less_or_same (cons_number v) (cons_number w) (before_less (width (length (constructors_of types t))) (cons_number v) (cons_number w) (within t v a) (within t w b) h))
    where
      by : (cons_number v < cons_number w) ⊎ (cons_number v ≡ cons_number w) → IsPreferred (choices_of types (ty.Enum t)) v w ⊎ (w ≡ v)
      by (inl l) = inl (less_preferred 0 (choices_of types (ty.Enum t)) v w (counted t) a b l)
      by (inr e) = inr (same_value 0 (choices_of types (ty.Enum t)) w v (counted t) b a (sym e))

  abbrev Own : Ty → Value → Value → Type 0
  Own t v w = bits t v ≡ bits t w → v ≡ w

  -- Each value has bits of its own.
  own : (t : Ty) (v w : Value) → IsAmong (choices_of types t) v → IsAmong (choices_of types t) w → Own t v w
  own ty.Bool v w a b =
      of_two_truths (Own ty.Bool) (λ e. refl) (λ e. absurd (let no : true ∷ [] ≡ false ∷ [] = e in cc)) (λ e. absurd (let no : false ∷ [] ≡ true ∷ [] = e in cc)) (λ e. refl) v w a b
  own ty.Int v w a b = λ e. absurd a
  own (ty.Enum t) v w a b = λ e.
      same_value 0 (choices_of types (ty.Enum t)) v w (counted t) a b (same_number (width (length (constructors_of types t))) (cons_number v) (cons_number w) (within t v a) (within t w b) e)

  -- the first value is the preferred one
  first : (t : Ty) → liked t ≡ bits t (first_of (choices_of types t))
  first ty.Bool = refl
  first ty.Int = refl
  first (ty.Enum t) =
      let m = width (length (constructors_of types t)) in
      sym (zero_bits m) ∙ sym (ap (to_bits m) (first_number (choices_of types (ty.Enum t)) (counted t)))

  -- ---- variables in a row

  pub row_first : (ds : List Decl) → row_liked types ds ≡ row_bits types ds (map (λ d. first_of (choices_of types d.ty)) ds)
  row_first [] = refl
  row_first (d ∷ ds) = ap₂ (λ a b. a ++ b) (first d.ty) (row_first ds)

  pub row_own : (ds : List Decl) (c d : Choice) → AreChoices types ds c → AreChoices types ds d → row_bits types ds c ≡ row_bits types ds d → c ≡ d
  row_own [] [] [] a b e = refl
  row_own [] [] (w ∷ d) a b e = absurd b
  row_own [] (v ∷ c) d a b e = absurd a
  row_own (x ∷ xs) [] d a b e = absurd a
  row_own (x ∷ xs) (v ∷ c) [] a b e = absurd b
  row_own (x ∷ xs) (v ∷ c) (w ∷ d) a b e =
      let parts = split (bits x.ty v) (bits x.ty w) (row_bits types xs c) (row_bits types xs d) (long x.ty v ∙ sym (long x.ty w)) e in
      ap₂ (λ v c. v ∷ c) (own x.ty v w a.0 b.0 parts.0) (row_own xs c d a.1 b.1 parts.1)

  -- Of two choices one is at most the other exactly where the bits of the other are before its own.
  pub row_order : (ds : List Decl) (c d : Choice) → AreChoices types ds c → AreChoices types ds d → AtMost types ds d c ↔ Before (row_liked types ds) (row_bits types ds c) (row_bits types ds d)
  row_order [] [] [] a b = ((λ h. tt), (λ h. tt))
  row_order [] [] (w ∷ d) a b = absurd b
  row_order [] (v ∷ c) d a b = absurd a
  row_order (x ∷ xs) [] d a b = absurd a
  row_order (x ∷ xs) (v ∷ c) [] a b = absurd b
  row_order (x ∷ xs) (v ∷ c) (w ∷ d) a b = (to (row_order xs c d a.1 b.1).0, from (row_order xs c d a.1 b.1).1)
    where
      to : (AtMost types xs d c → Before (row_liked types xs) (row_bits types xs c) (row_bits types xs d)) → IsPreferred (choices_of types x.ty) v w ⊎ ((w ≡ v) × AtMost types xs d c)
          → Before (liked x.ty ++ row_liked types xs) (bits x.ty v ++ row_bits types xs c) (bits x.ty w ++ row_bits types xs d)
      to more (inl p) = let r = better x.ty v w a.0 b.0 p in behind_other (liked x.ty) (bits x.ty v) (bits x.ty w) (row_liked types xs) (row_bits types xs c) (row_bits types xs d) r.0 r.1
      to more (inr k) =
          subst (λ u. Before (liked x.ty ++ row_liked types xs) (bits x.ty v ++ row_bits types xs c) (bits x.ty u ++ row_bits types xs d)) (sym k.0)
          (behind_same (liked x.ty) (bits x.ty v) (row_liked types xs) (row_bits types xs c) (row_bits types xs d) (long x.ty v) (more k.1))

      from : (Before (row_liked types xs) (row_bits types xs c) (row_bits types xs d) → AtMost types xs d c) → Before (liked x.ty ++ row_liked types xs) (bits x.ty v ++ row_bits types xs c) (bits x.ty w ++ row_bits types xs d)
          → IsPreferred (choices_of types x.ty) v w ⊎ ((w ≡ v) × AtMost types xs d c)
      from more h =
          let r = fronts (liked x.ty) (bits x.ty v) (bits x.ty w) (row_liked types xs) (row_bits types xs c) (row_bits types xs d) (long x.ty v) (long x.ty w) h in
          either (back x.ty v w a.0 b.0 r.0) (λ p. inl p) (λ e. inr (e, more (r.1 (ap (bits x.ty) (sym e)))))
