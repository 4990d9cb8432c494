-- Ranges of variables: what is read of them, and quantifiers over them as searches.
use Rattle.std.proofs.Common.{◌≡◌, ◌⊎◌, ◌↔◌, inl, inr, ℕ, zero, suc, ◌+◌, ◌<◌, ◌≤◌, Bool, true, false, IsTrue, [], ◌∷◌, ◌++◌, length, slice_index_or, refl, sym, ap, ap₂, ◌∙◌, arith}
use Rattle.hp_diagram.proofs.Canonical.{with_value, with_value-same, with_value-other}
use Rattle.hp_quant.specs.Quantifiers.{DifferWithin}
use Rattle.hp_boolx.specs.Search.{Bits, Set, some_of, every_of}
use Rattle.hp_boolx.specs.Game.{Game}
use Rattle.hp_synth.specs.Valued.{Valued, Fun, read, early_from, control_from, late_from, total, states, earlies, controls, lates}
use Rattle.hp_boolx.proofs.SearchLaws.{some-found, some-from, every-at, every-from}

pub read-len : (from n : ℕ) (v : Valued) → length (read from n v) ≡ n
read-len from zero v = refl
read-len from (suc n) v = ap suc (read-len (suc from) n v)

pub read-same : (from n : ℕ) (v w : Valued) → ((y : ℕ) → from ≤ y → y < from + n → v y ≡ w y) → read from n v ≡ read from n w
read-same from zero v w h = refl
read-same from (suc n) v w h = ap₂ (λ a q. a ∷ q) (h from (omega arith) (omega arith)) (read-same (suc from) n v w (λ y l k. h y (omega (arith, l)) (omega (arith, k))))

-- values written over the variables from one on
abbrev pub put : ℕ → Bits → Valued → Valued
put from [] v = v
put from (b ∷ bs) v = with_value (put (suc from) bs v) from b

pub put-outside : (from : ℕ) (bs : Bits) (v : Valued) (y : ℕ) → (y < from) ⊎ (from + length bs ≤ y) → put from bs v y ≡ v y
put-outside from [] v y h = refl
put-outside from (b ∷ bs) v y h =
    with_value-other (put (suc from) bs v) from b y (elim h [ inl l ↦ (λ e. absurd (omega (arith, e, l))) | inr l ↦ (λ e. absurd (omega (arith, e, l))) ])
    ∙ put-outside (suc from) bs v y (elim h [ inl l ↦ inl (omega (arith, l)) | inr l ↦ inr (omega (arith, l)) ])

pub put-read : (from : ℕ) (bs : Bits) (v : Valued) → read from (length bs) (put from bs v) ≡ bs
put-read from [] v = refl
put-read from (b ∷ bs) v =
    ap₂ (λ a q. a ∷ q)
    (with_value-same (put (suc from) bs v) from b)
    (read-same (suc from) (length bs) (put from (b ∷ bs) v) (put (suc from) bs v) (λ y l k. with_value-other (put (suc from) bs v) from b y (λ e. absurd (omega (arith, e, l))))
    ∙ put-read (suc from) bs v)

-- a range in two parts
pub read-parts : (from m n k : ℕ) (v : Valued) → k ≡ m + n → read from k v ≡ read from m v ++ read (from + m) n v
read-parts from zero n k v e = ap₂ (λ f l. read f l v) (omega arith) (e ∙ omega arith)
read-parts from (suc m) n zero v e = absurd (omega arith)
read-parts from (suc m) n (suc k) v e = ap (λ q. v from ∷ q) (read-parts (suc from) m n k v (omega (arith, e)) ∙ ap (λ f. read (suc from) m v ++ read f n v) (omega arith))

pub read-at : (from n : ℕ) (v : Valued) (k : ℕ) → k < n → slice_index_or (read from n v) k false ≡ v (from + k)
read-at from zero v k l = absurd (omega arith)
read-at from (suc n) v zero l = ap v (omega arith)
read-at from (suc n) v (suc k) l = read-at (suc from) n v k (omega (arith, l)) ∙ ap v (omega arith)

-- a valuation that gives a list is read as it
pub read-list : (from : ℕ) (v : Valued) (bs : Bits) → ((k : ℕ) → k < length bs → v (from + k) ≡ slice_index_or bs k false) → read from (length bs) v ≡ bs
read-list from v [] h = refl
read-list from v (b ∷ bs) h = ap₂ (λ a q. a ∷ q) (ap v (omega arith) ∙ h 0 (omega arith)) (read-list (suc from) v bs (λ k l. ap v (omega arith) ∙ h (suc k) (omega (arith, l))))

-- ---- quantifiers as searches

same_truth : (a b : Bool) → (IsTrue a ↔ IsTrue b) → a ≡ b
same_truth true b h = sym (h.0 refl)
same_truth false true h = h.1 refl
same_truth false false h = refl

pub exists-search : (from n to : ℕ) → to ≡ from + n → (f s : Fun) (P : Valued → Set)
    → ((v w : Valued) → DifferWithin from to v w → f w ≡ P v (read from n w))
    → ((v : Valued) → IsTrue (s v) ↔ ((w : Valued) × DifferWithin from to v w × IsTrue (f w)))
    → (v : Valued) → s v ≡ some_of n (P v)
exists-search from n to e f s P is quantified v =
    same_truth (s v) (some_of n (P v)) (
      λ h.
          let x = (quantified v).0 h in
          some-from n (P v) (read from n x.0) (read-len from n x.0) (sym (is v x.0 x.1) ∙ x.2),
      λ h.
          let x = some-found n (P v) h in
          let w : Valued = put from x.0 v in
          let differ : DifferWithin from to v w = λ y out. sym (put-outside from x.0 v y (elim out [ inl l ↦ inl l | inr l ↦ inr (omega (arith, e, l, x.1)) ])) in
          let was : read from n w ≡ x.0 = ap (λ m. read from m w) (sym x.1) ∙ put-read from x.0 v in
          (quantified v).1 (w, differ, is v w differ ∙ ap (P v) was ∙ x.2),
    )

pub forall-search : (from n to : ℕ) → to ≡ from + n → (f s : Fun) (P : Valued → Set)
    → ((v w : Valued) → DifferWithin from to v w → f w ≡ P v (read from n w))
    → ((v : Valued) → IsTrue (s v) ↔ ((w : Valued) → DifferWithin from to v w → IsTrue (f w)))
    → (v : Valued) → s v ≡ every_of n (P v)
forall-search from n to e f s P is quantified v =
    same_truth (s v) (every_of n (P v)) (
      λ h. every-from n (P v) (λ x l.
          let w : Valued = put from x v in
          let differ : DifferWithin from to v w = λ y out. sym (put-outside from x v y (elim out [ inl k ↦ inl k | inr k ↦ inr (omega (arith, e, k, l)) ])) in
          let was : read from n w ≡ x = ap (λ m. read from m w) (sym l) ∙ put-read from x v in
          sym (is v w differ ∙ ap (P v) was) ∙ (quantified v).0 h w differ),
      λ h. (quantified v).1 (λ w differ. is v w differ ∙ every-at n (P v) h (read from n w) (read-len from n w)),
    )

-- ---- over the variables of a game

module _ (g : Game) where
  pub outside : (from to : ℕ) (v w : Valued) → DifferWithin from to v w → (a n : ℕ) → (a + n ≤ from) ⊎ (to ≤ a) → read a n w ≡ read a n v
  outside from to v w differ a n apart = read-same a n w v (λ y l k. sym (differ y (elim apart [ inl b ↦ inl (omega (arith, b, k)) | inr b ↦ inr (omega (arith, b, l)) ])))

  -- over the late variables
  pub some-late : (f s : Fun) (F : Bits → Bits → Bits → Set) → ((v : Valued) → f v ≡ F (states g v) (earlies g v) (controls g v) (lates g v))
      → ((v : Valued) → IsTrue (s v) ↔ ((w : Valued) × DifferWithin (late_from g) (total g) v w × IsTrue (f w)))
      → (v : Valued) → s v ≡ some_of g.late (F (states g v) (earlies g v) (controls g v))
  some-late f s F is = exists-search (late_from g) g.late (total g) refl f s (λ v. F (states g v) (earlies g v) (controls g v)) (λ v w d. is w ∙ late-part F v w d)
    where
      late-part : (F : Bits → Bits → Bits → Set) (v w : Valued) → DifferWithin (late_from g) (total g) v w → F (states g w) (earlies g w) (controls g w) (lates g w) ≡ F (states g v) (earlies g v) (controls g v) (lates g w)
      late-part F v w d = λ i. F (outside (late_from g) (total g) v w d 0 g.registers (inl (omega arith)) i) (outside (late_from g) (total g) v w d (early_from g) g.early (inl (omega arith)) i) (outside (late_from g) (total g) v w d (control_from g) g.control (inl (omega arith)) i) (lates g w)

  pub every-late : (f s : Fun) (F : Bits → Bits → Bits → Set) → ((v : Valued) → f v ≡ F (states g v) (earlies g v) (controls g v) (lates g v))
      → ((v : Valued) → IsTrue (s v) ↔ ((w : Valued) → DifferWithin (late_from g) (total g) v w → IsTrue (f w)))
      → (v : Valued) → s v ≡ every_of g.late (F (states g v) (earlies g v) (controls g v))
  every-late f s F is = forall-search (late_from g) g.late (total g) refl f s (λ v. F (states g v) (earlies g v) (controls g v)) (λ v w d. is w
      ∙ (λ i. F (outside (late_from g) (total g) v w d 0 g.registers (inl (omega arith)) i) (outside (late_from g) (total g) v w d (early_from g) g.early (inl (omega arith)) i) (outside (late_from g) (total g) v w d (control_from g) g.control (inl (omega arith)) i) (lates g w)))

  -- over the control variables
  pub some-control : (f s : Fun) (F : Bits → Bits → Set) → ((v : Valued) → f v ≡ F (states g v) (earlies g v) (controls g v))
      → ((v : Valued) → IsTrue (s v) ↔ ((w : Valued) × DifferWithin (control_from g) (late_from g) v w × IsTrue (f w)))
      → (v : Valued) → s v ≡ some_of g.control (F (states g v) (earlies g v))
  some-control f s F is = exists-search (control_from g) g.control (late_from g) refl f s (λ v. F (states g v) (earlies g v)) (λ v w d. is w
      ∙ (λ i. F (outside (control_from g) (late_from g) v w d 0 g.registers (inl (omega arith)) i) (outside (control_from g) (late_from g) v w d (early_from g) g.early (inl (omega arith)) i) (controls g w)))

  pub every-control : (f s : Fun) (F : Bits → Bits → Set) → ((v : Valued) → f v ≡ F (states g v) (earlies g v) (controls g v))
      → ((v : Valued) → IsTrue (s v) ↔ ((w : Valued) → DifferWithin (control_from g) (late_from g) v w → IsTrue (f w)))
      → (v : Valued) → s v ≡ every_of g.control (F (states g v) (earlies g v))
  every-control f s F is = forall-search (control_from g) g.control (late_from g) refl f s (λ v. F (states g v) (earlies g v)) (λ v w d. is w
      ∙ (λ i. F (outside (control_from g) (late_from g) v w d 0 g.registers (inl (omega arith)) i) (outside (control_from g) (late_from g) v w d (early_from g) g.early (inl (omega arith)) i) (controls g w)))

  -- over the early variables
  pub some-early : (f s : Fun) (F : Bits → Set) → ((v : Valued) → f v ≡ F (states g v) (earlies g v))
      → ((v : Valued) → IsTrue (s v) ↔ ((w : Valued) × DifferWithin (early_from g) (control_from g) v w × IsTrue (f w)))
      → (v : Valued) → s v ≡ some_of g.early (F (states g v))
  some-early f s F is = exists-search (early_from g) g.early (control_from g) refl f s (λ v. F (states g v)) (λ v w d. is w
      ∙ (λ i. F (outside (early_from g) (control_from g) v w d 0 g.registers (inl (omega arith)) i) (earlies g w)))
