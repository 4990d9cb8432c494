-- The functions of marked lines, one by one.
use Rattle.std.proofs.Common.{◌≡◌, ◌⊎◌, inl, inr, ℕ, zero, suc, ◌+◌, ◌<◌, ◌≤◌, Bool, if◌then◌else◌, List, [], ◌∷◌, ◌++◌, length, take, slice_get, slice_index_or, get_or, Some, refl, sym, ap, subst, ◌∙◌, arith}
use Rattle.std.proofs.Math.Seq.{take-append_seam}
use Rattle.std.proofs.lemmas.Bool.{cases_lt}
use Rattle.std.proofs.lemmas.List.{length_push, get_or_append_left, get_or_push}
use Rattle.std.proofs.lemmas.List.Elements.{All-nil}
use Rattle.std.proofs.lemmas.Option.{slice_get_within, slice_get-get_or, get_or_from_slice_get}
use Rattle.hp_cert.specs.Certtext.Certificates.{AreLines}
use Rattle.hp_diagram.specs.declared.reference.Ref.{Ref}
use Rattle.hp_diagram.specs.Diagrams.{Diagrams, function, Has, Means, Keeps, zero_ref, one_ref}
use Rattle.hp_diagram.proofs.Choices.{Means-keeps}
use Rattle.hp_diagram.proofs.Kept.{function-zero, function-one}
use Rattle.hp_quant.specs.declared.line.Line.{Line}
use Rattle.hp_quant.specs.Lines.{line_function, reference_at}
use Rattle.hp_synth.specs.Building.{HasEach}
use Rattle.hp_synth.specs.Valued.{through, over}
use Rattle.hp_synth.proofs.Gates.{has-keep, has-push}
use Rattle.hp_cert.specs.Marks.{Marked, IsMarked, AreClosed}
use Rattle.hp_cert.specs.Steps.{AreOfMarked}
use Rattle.hp_cert.proofs.LineLaws.{below_line, function_line, function_zero, function_one}

-- a list that was written in its place
pub put_back : {A : Type 0} (n : ℕ) (new rest : List A) → n ≡ length new → take n (new ++ rest) ≡ new
put_back n new rest e = ap (λ k. take k (new ++ rest)) e ∙ take-append_seam new rest

-- the reference of a number that is marked has its function
pub reference_means : (place : ℕ → ℕ) (t : Diagrams) (ls : List Line) (marks : List Bool) (refs : List Ref) (n : ℕ) → AreOfMarked place t ls marks refs n → (r : ℕ) → r < n + 2 → IsMarked marks r → Means t (over place (line_function ls r)) (reference_at refs r)
reference_means place t ls marks refs n are zero less m = record { has = omega arith; value = λ v. function-zero t v zero_ref refl ∙ sym (function_zero ls (through place v)) }
reference_means place t ls marks refs n are (suc zero) less m = record { has = omega arith; value = λ v. function-one t v one_ref refl ∙ sym (function_one ls (through place v)) }
reference_means place t ls marks refs n are (suc (suc i)) less m =
    let len = are.len in
    let two : i + 2 ≡ suc (suc i) = omega arith in
    let at = slice_get-get_or refs i zero_ref (omega (arith, less, len)) in
    subst (λ k. Means t (over place (line_function ls k)) (slice_index_or refs i zero_ref)) two (are.right i (slice_index_or refs i zero_ref) at m)

pub none_marked : (place : ℕ → ℕ) (t : Diagrams) (ls : List Line) (marks : List Bool) (refs : List Ref) → refs ≡ [] → AreOfMarked place t ls marks refs 0
none_marked place t ls marks refs e = record {
  len = ap length e;
  has = subst (λ (rs : List Ref). HasEach t rs) (sym e) (All-nil (Has t));
  right = λ i r at m. let w = slice_get_within refs i r at in let l = ap length e in absurd (omega (arith, w, l));
}

module _ (place : ℕ → ℕ) (t u : Diagrams) (ls : List Line) (marks : List Bool) (refs : List Ref) (n : ℕ) (k : Keeps t u) (are : AreOfMarked place t ls marks refs n) (r : Ref) (has : Has u r) where
  -- one more, which has its function if it is marked
  pub one_more : (Marked marks n → Means u (over place (line_function ls (n + 2))) r) → AreOfMarked place u ls marks (refs ++ r ∷ []) (n + 1)
  one_more is = record {
    len = (let p = length_push refs r in let q = are.len in omega (arith, p, q));
    has = has-push u refs r (has-keep t u refs k are.has) has;
    right = λ i s at m. by i s at m (cases_lt i n);
  }
    where
      by : (i : ℕ) (s : Ref) → slice_get (refs ++ r ∷ []) i ≡ Some s → Marked marks i → (i < n) ⊎ (n ≤ i) → Means u (over place (line_function ls (i + 2))) s
      by i s at m (inl less) =
          let len = are.len in
          let within : i < length refs = omega (arith, less, len) in
          let same : get_or (refs ++ r ∷ []) i s ≡ get_or refs i s = get_or_append_left refs (r ∷ []) s i within in
          let there : get_or (refs ++ r ∷ []) i s ≡ s = get_or_from_slice_get (refs ++ r ∷ []) i s s at in
          let read : slice_get refs i ≡ Some s = slice_get-get_or refs i s within ∙ ap Some (sym same ∙ there) in
          Means-keeps t u k (over place (line_function ls (i + 2))) s (are.right i s read m)
      by i s at m (inr far) =
          let len = are.len in
          let w = slice_get_within (refs ++ r ∷ []) i s at in
          let p = length_push refs r in
          let last : i ≡ n = omega (arith, far, w, p, len) in
          let there : get_or (refs ++ r ∷ []) i s ≡ s = get_or_from_slice_get (refs ++ r ∷ []) i s s at in
          let new : get_or (refs ++ r ∷ []) i s ≡ r = get_or_push refs r s i (omega (arith, last, len)) in
          let there_is = is (subst (Marked marks) last m) in
          subst (λ z. Means u (over place (line_function ls (z + 2))) s) (sym last) (subst (Means u (over place (line_function ls (n + 2)))) (sym new ∙ there) there_is)

-- the function of a marked line, from those before it
pub line_means : (place : ℕ → ℕ) (t u : Diagrams) (ls : List Line) (marks : List Bool) (refs : List Ref) (n : ℕ) (l : Line) (r : Ref) → AreLines 2 ls → AreClosed ls marks 0 → AreOfMarked place t ls marks refs n → slice_get ls n ≡ Some l → Marked marks n →
    Means u (λ v. if v (place l.var) then function t (reference_at refs l.high) v else function t (reference_at refs l.low) v) r → Means u (over place (line_function ls (n + 2))) r
line_means place t u ls marks refs n l r are closed so at m is =
    let below = below_line ls are n l at in
    let low = below.0 in let high = below.1 in
    let c = closed n l (omega arith) at m in
    let to_low = reference_means place t ls marks refs n so l.low (omega (arith, low)) c.0 in
    let to_high = reference_means place t ls marks refs n so l.high (omega (arith, high)) c.1 in
    let two : n + 2 ≡ suc (suc n) = omega arith in
    record {
      has = is.has;
      value = λ v. is.value v ∙ (λ j. if v (place l.var) then to_high.value v j else to_low.value v j) ∙ sym (ap (λ z. line_function ls z (through place v)) two ∙ function_line ls are n l at (through place v));
    }
