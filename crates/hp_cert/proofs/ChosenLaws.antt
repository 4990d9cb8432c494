-- Functions in the place of control bits, one by one.
use Rattle.std.proofs.Common.{◌≡◌, ℕ, zero, suc, ◌+◌, ◌-◌, ◌<◌, ◌≤◌, false, List, [], ◌∷◌, ◌++◌, length, take, slice_index_or, refl, sym, ap, subst, ◌∙◌, arith}
use Rattle.std.proofs.lemmas.List.{append_assoc, append-nil, take_all, take_more}
use Rattle.hp_boolx.specs.Search.{Bits, Set}
use Rattle.hp_boolx.specs.Game.{Game}
use Rattle.hp_diagram.specs.declared.reference.Ref.{Ref}
use Rattle.hp_diagram.specs.Diagrams.{Diagrams, function, Has, Means, Keeps, zero_ref}
use Rattle.hp_synth.specs.declared.layout.Layout.{Layout}
use Rattle.hp_synth.specs.Building.{HasEach, functions_at}
use Rattle.hp_synth.specs.Layouts.{place, IsLayout}
use Rattle.hp_synth.specs.Valued.{Valued, through, over, states, earlies, control_from, late_from, OfChoice, OfEarly}
use Rattle.hp_control.specs.Controlling.{AreLeft, put_in}
use Rattle.hp_control.proofs.ControlBits.{left-behind}
use Rattle.hp_cert.specs.Steps.{left_of}

bit_at : (t : Diagrams) (fs : List Ref) (v : Valued) (k : ℕ) → k < length fs → slice_index_or (functions_at t fs v) k false ≡ function t (slice_index_or fs k zero_ref) v
bit_at t [] v k l = absurd (omega (arith, l))
bit_at t (f ∷ fs) v zero l = refl
bit_at t (f ∷ fs) v (suc k) l = bit_at t fs v k (omega (arith, l))

bits_len : (t : Diagrams) (fs : List Ref) (v : Valued) → length (functions_at t fs v) ≡ length fs
bits_len t [] v = refl
bits_len t (f ∷ fs) v = ap suc (bits_len t fs v)

-- all bits of a choice, one by one
left-all : (q : Bits → Bits → Set) (F : Bits → Bits → Bits) (r u c : Bits) (i : ℕ) → i ≤ length (F r u) → left_of q F i r u c ≡ q r u (take i (F r u) ++ c)
left-all q F r u c zero l = refl
left-all q F r u c (suc i) l =
    let b = slice_index_or (F r u) i false in
    let one : i + 1 ≡ suc i = omega arith in
    left-all q F r u (b ∷ c) i (omega (arith, l))
    ∙ ap (q r u) (sym (append_assoc (take i (F r u)) (b ∷ []) c) ∙ ap (λ (front : Bits). front ++ c) (sym (take_more (F r u) i false (omega (arith, l))) ∙ ap (λ n. take n (F r u)) one))

module _ (vars : ℕ) (l : Layout) (is : IsLayout vars l) (g : Game) (q : Bits → Bits → Set) (F : Bits → Bits → Bits) (t : Diagrams) (funs : List Ref) (has : HasEach t funs) (count : length funs ≡ g.control)
    (given : (v : Valued) → functions_at t funs v ≡ F (states g (through (place l) v)) (earlies g (through (place l) v))) where
  -- a function of a control bit, in a table that grew
  bit-means : (u : Diagrams) → Keeps t u → (i : ℕ) → i < length funs → Means u (over (place l) (OfEarly g (λ r s. slice_index_or (F r s) i false))) (slice_index_or funs i zero_ref)
  bit-means u keeps i less =
      let old : Has t (slice_index_or funs i zero_ref) = has i zero_ref less in
      record {
        has = keeps.has (slice_index_or funs i zero_ref) old;
        value = λ v. keeps.functions (slice_index_or funs i zero_ref) old v ∙ sym (bit_at t funs v i less) ∙ ap (λ (bs : Bits). slice_index_or bs i false) (given v);
      }

  pub chosen-first : (choices : Ref) → Means t (over (place l) (OfChoice g q)) choices → AreLeft g (place l) t (control_from g + 0) (g.control - 0) (left_of q F 0) choices
  chosen-first choices m =
      let from : control_from g ≡ control_from g + 0 = omega arith in
      let all : g.control ≡ g.control - 0 = omega arith in
      subst (λ a. AreLeft g (place l) t a (g.control - 0) (left_of q F 0) choices) from (subst (λ n. AreLeft g (place l) t (control_from g) n (left_of q F 0) choices) all m)

  pub chosen-next : (u w : Diagrams) → Keeps t u → (i k : ℕ) → i < length funs → k ≡ control_from g + i → (left s : Ref) → AreLeft g (place l) u (control_from g + i) (g.control - i) (left_of q F i) left →
      Means w (put_in u left (place l k) (slice_index_or funs i zero_ref)) s → AreLeft g (place l) w (control_from g + (i + 1)) (g.control - (i + 1)) (left_of q F (i + 1)) s
  chosen-next u w keeps i k less at left s before m =
      let n = g.control - (i + 1) in
      let many : g.control - i ≡ suc n = omega (arith, less, count) in
      let to : late_from g ≡ suc k + n = omega (arith, less, count, at) in
      let there : AreLeft g (place l) u k (suc n) (left_of q F i) left =
      subst (λ a. AreLeft g (place l) u a (suc n) (left_of q F i) left) (sym at) (subst (λ m. AreLeft g (place l) u (control_from g + i) m (left_of q F i) left) many before) in
      let behind : AreLeft g (place l) w (suc k) n (left_of q F (suc i)) s =
      left-behind vars l is g k n (omega (arith, at)) to (left_of q F i) u w left (slice_index_or funs i zero_ref) s (λ r x. slice_index_or (F r x) i false) there (bit-means u keeps i less) m in
      let next : suc k ≡ control_from g + (i + 1) = omega (arith, at) in
      let one : suc i ≡ i + 1 = omega arith in
      subst (λ a. AreLeft g (place l) w a n (left_of q F (i + 1)) s) next (subst (λ j. AreLeft g (place l) w (suc k) n (left_of q F j) s) one behind)

  pub chosen-last : (u : Diagrams) (i : ℕ) (left : Ref) → length funs ≤ i → i ≤ length funs → AreLeft g (place l) u (control_from g + i) (g.control - i) (left_of q F i) left → Means u (over (place l) (OfEarly g (λ r s. q r s (F r s)))) left
  chosen-last u i left far near h =
      let none : g.control - i ≡ 0 = omega (arith, far, count) in
      let m = subst (λ n. AreLeft g (place l) u (control_from g + i) n (left_of q F i) left) none h in
      record {
        has = m.has;
        value = λ v.
            let r = states g (through (place l) v) in
            let s = earlies g (through (place l) v) in
            let len : length (F r s) ≡ length funs = ap (λ (bs : Bits). length bs) (sym (given v)) ∙ bits_len t funs v in
            m.value v ∙ left-all q F r s [] i (omega (arith, near, len)) ∙ ap (q r s) (append-nil (take i (F r s)) ∙ take_all i (F r s) (omega (arith, far, len)));
      }
