-- Lines that become functions of a table.
use Rattle.std.proofs.Common.{◌≡◌, ℕ, zero, suc, ◌+◌, ◌<◌, inl, inr, true, false, List, [], ◌∷◌, ◌++◌, length, map, get_or, slice_get, slice_index_or, Option, Some, None, refl, sym, ap, subst, ◌∙◌, arith, if◌then◌else◌}
use Rattle.std.specs.Option.{option_map}
use Rattle.std.proofs.lemmas.Bool.{cases_lt}
use Rattle.std.proofs.lemmas.List.{length_push, get_or_append_left, get_or_push}
use Rattle.std.proofs.lemmas.Option.{slice_get-map, slice_get_within, slice_get-get_or, get_or_from_slice_get}
use Rattle.hp_diagram.specs.declared.reference.Ref.{Ref}
use Rattle.hp_diagram.specs.declared.reference.Branch.{Branch}
use Rattle.hp_diagram.specs.Diagrams.{Diagrams, zero_ref, one_ref, branch_at, path_end, function, IsReduced, Means, Keeps}
use Rattle.hp_diagram.proofs.Paths.{AreBelow, path_end-child, path_end-leaf}
use Rattle.hp_diagram.proofs.Canonical.{Valuation}
use Rattle.hp_diagram.proofs.Kept.{function-zero, function-one}
use Rattle.hp_diagram.proofs.Choices.{Keeps-refl, Keeps-trans, Means-keeps}
use Rattle.hp_quant.specs.declared.line.Line.{Line}
use Rattle.hp_quant.specs.Lines.{node_of, line_function, reference_at, MayBeImported, AreOfLines}

-- so many lines are functions of the table
pub record Imported (old t : Diagrams) (lines : List Line) (refs : List Ref) (count : ℕ) : Type 0 where
  pub keeps : Keeps old t
  pub len : length refs ≡ count
  pub right : AreOfLines t lines refs

pub Imported-none : (t : Diagrams) (lines : List Line) (refs : List Ref) → IsReduced t → refs ≡ [] → Imported t t lines refs 0
Imported-none t lines refs reduced none =
    record {
      keeps = Keeps-refl t reduced;
      len = ap length none;
      right = λ i r at. absurd (omega (arith, slice_get_within refs i r at, ap length none));
    }

module _ (t : Diagrams) (lines : List Line) (may : MayBeImported t lines) where
  nodes : List Branch
  nodes = map node_of lines

  line_at : (i : ℕ) (b : Branch) → slice_get nodes i ≡ Some b → (l : Line) × (slice_get lines i ≡ Some l) × (node_of l ≡ b)
  unfolding nodes
  line_at i b h = by (slice_get lines i) refl
    where
      by : (o : Option Line) → slice_get lines i ≡ o → (l : Line) × (slice_get lines i ≡ Some l) × (node_of l ≡ b)
      by None e = let none : None ≡ Some b = sym (slice_get-map node_of lines i ∙ ap (option_map node_of) e) ∙ h in absurd (cc)
      by (Some l) e =
          let some : Some (node_of l) ≡ Some b = sym (slice_get-map node_of lines i ∙ ap (option_map node_of) e) ∙ h in
          (l, e, cc)

  below : AreBelow nodes
  below zero b h = absurd (cc)
  below (suc zero) b h = absurd (cc)
  below (suc (suc i)) b h =
      let l = line_at i b h in
      let low : l.0.low ≡ b.low.index = ap (λ (c : Branch). c.low.index) l.2 in
      let high : l.0.high ≡ b.high.index = ap (λ (c : Branch). c.high.index) l.2 in
      (omega (arith, may.low i l.0 l.1, low), omega (arith, may.high i l.0 l.1, high))

  -- a line's function is the one of the line that its variable picks
  pub line_function-line : (i : ℕ) (l : Line) → slice_get lines i ≡ Some l → (v : Valuation) → line_function lines (i + 2) v ≡ (if v l.var then line_function lines l.high v else line_function lines l.low v)
  unfolding nodes
  line_function-line i l h v =
      let at : branch_at nodes (suc (suc i)) ≡ Some (node_of l) = slice_get-map node_of lines i ∙ ap (option_map node_of) h in
      let two : i + 2 ≡ suc (suc i) = omega arith in
      ap (λ k. path_end k (map node_of lines) v k) two
      ∙ path_end-child nodes below v (suc (suc i)) (node_of l) at
      ∙ (elim (v l.var) as (λ c. path_end (if c then (node_of l).high else (node_of l).low).index (map node_of lines) v (if c then (node_of l).high else (node_of l).low).index ≡ (if c then line_function lines l.high v else line_function lines l.low v)) [ true ↦ refl | false ↦ refl ])

  -- the reference of an index has the index's function
  reference-function : (refs : List Ref) (u : Diagrams) → AreOfLines u lines refs → (k : ℕ) → k < length refs + 2 → (v : Valuation) → function u (reference_at refs k) v ≡ line_function lines k v
  reference-function refs u right zero within v = function-zero u v zero_ref refl ∙ sym (path_end-leaf 0 (map node_of lines) v 0 refl)
  reference-function refs u right (suc zero) within v = function-one u v one_ref refl ∙ sym (path_end-leaf 1 (map node_of lines) v 1 refl)
  reference-function refs u right (suc (suc i)) within v =
      let at : slice_get refs i ≡ Some (slice_index_or refs i zero_ref) = slice_get-get_or refs i zero_ref (omega arith) in
      let two : i + 2 ≡ suc (suc i) = omega arith in
      (right i _ at).value v ∙ ap (λ k. line_function lines k v) two

-- one more line
module _ (old t u : Diagrams) (lines : List Line) (refs : List Ref) (count : ℕ) (may : MayBeImported old lines) (so_far : Imported old t lines refs count)
    (l : Line) (at : slice_get lines count ≡ Some l) (r : Ref) (to_u : Keeps t u) (shown : List Ref) (same : shown ≡ refs)
    (is : Means u (λ v. if v l.var then function t (reference_at shown l.high) v else function t (reference_at shown l.low) v) r) where
  means : Means u (λ v. if v l.var then function t (reference_at refs l.high) v else function t (reference_at refs l.low) v) r
  means = subst (λ (xs : List Ref). Means u (λ v. if v l.var then function t (reference_at xs l.high) v else function t (reference_at xs l.low) v) r) same is

  new_line : Means u (line_function lines (count + 2)) r
  new_line =
      record {
        has = means.has;
        value = λ v.
            let low = reference-function old lines may refs t so_far.right l.low (omega (arith, may.low count l at, so_far.len)) v in
            let high = reference-function old lines may refs t so_far.right l.high (omega (arith, may.high count l at, so_far.len)) v in
            means.value v ∙ (λ j. if v l.var then high j else low j) ∙ sym (line_function-line old lines may count l at v);
      }

  all_lines : (i : ℕ) (s : Ref) → slice_get (refs ++ r ∷ []) i ≡ Some s → Means u (line_function lines (i + 2)) s
  all_lines i s h =
      elim (cases_lt i count) [
        | inl before ↦
            let same : get_or (refs ++ r ∷ []) i s ≡ get_or refs i s = get_or_append_left refs (r ∷ []) s i (omega (arith, before, so_far.len)) in
            let there : get_or (refs ++ r ∷ []) i s ≡ s = get_or_from_slice_get (refs ++ r ∷ []) i s s h in
            let read : slice_get refs i ≡ Some s = slice_get-get_or refs i s (omega (arith, before, so_far.len)) ∙ ap Some (sym same ∙ there) in
            Means-keeps t u to_u (line_function lines (i + 2)) s (so_far.right i s read)
        | inr behind ↦
            let last : i ≡ count = omega (arith, behind, slice_get_within (refs ++ r ∷ []) i s h, length_push refs r, so_far.len) in
            let there : get_or (refs ++ r ∷ []) i s ≡ s = get_or_from_slice_get (refs ++ r ∷ []) i s s h in
            let is_new : get_or (refs ++ r ∷ []) i s ≡ r = get_or_push refs r s i (omega (arith, last, so_far.len)) in
            subst (λ k. Means u (line_function lines (k + 2)) s) (sym last) (subst (Means u (line_function lines (count + 2))) (sym is_new ∙ there) new_line)
      ]

  pub Imported-more : (more : List Ref) → more ≡ refs ++ r ∷ [] → Imported old u lines more (count + 1)
  Imported-more more e =
      record {
        keeps = Keeps-trans old t u so_far.keeps to_u;
        len = omega (arith, ap length e, length_push refs r, so_far.len);
        right = λ i s h. all_lines i s (ap (λ xs. slice_get xs i) (sym e) ∙ h);
      }
