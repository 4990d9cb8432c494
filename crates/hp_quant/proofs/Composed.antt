-- Functions in the place of variables.
use Rattle.std.proofs.Common.{◌≡◌, ℕ, ◌⊎◌, inl, inr, List, slice_index_or, Option, Some, None, Result, Ok, Err, IfOk, refl, sym, subst, ◌∙◌, if◌then◌else◌}
use Rattle.std.specs.Option.{option_map_or}
use Rattle.hp_diagram.specs.declared.reference.Ref.{Ref}
use Rattle.hp_diagram.specs.declared.reference.Branch.{Branch}
use Rattle.hp_diagram.specs.Diagrams.{Diagrams, function, Has, branch_of, choice, Means, IsReduced, Keeps}
use Rattle.hp_diagram.proofs.Paths.{function-node, path_end-leaf}
use Rattle.hp_diagram.proofs.Canonical.{Valuation}
use Rattle.hp_quant.specs.declared.memo.Memo.{Memo}
use Rattle.hp_quant.specs.Memo.{Knows}
use Rattle.hp_quant.specs.Replacements.{replaced, HasAll, Composes, AllComposed}

module _ (t u : Diagrams) (by : List (Option Ref)) (keeps : Keeps t u) (all : HasAll t by) where
  pub HasAll-keeps : HasAll u by
  HasAll-keeps x g e = keeps.has g (all x g e)

  pub replaced-keeps : (v : Valuation) (x : ℕ) → replaced u by v x ≡ replaced t by v x
  replaced-keeps v x = (elim (slice_index_or by x None) as (λ o. slice_index_or by x None ≡ o → option_map_or (λ g. function u g v) o (v x) ≡ option_map_or (λ g. function t g v) o (v x)) [
    | None ↦ λ _. refl
    | Some g ↦ λ e. keeps.functions g (all x g e) v
  ]) refl

  pub function-replaced : (r : Ref) → Has t r → (v : Valuation) → function u r (replaced u by v) ≡ function t r (replaced t by v)
  function-replaced r has v = (λ j. function u r (λ x. replaced-keeps v x j)) ∙ keeps.functions r has (replaced t by v)

  pub Composes-keeps : (r s : Ref) → Composes t by r s → Composes u by r s
  Composes-keeps r s c =
      record {
        has_r = keeps.has r c.has_r;
        means = record {
          has = keeps.has s c.means.has;
          value = λ v. keeps.functions s c.means.has v ∙ c.means.value v ∙ sym (function-replaced r c.has_r v);
        };
      }

  pub AllComposed-keeps : (m : Memo) → AllComposed t by m → AllComposed u by m
  AllComposed-keeps m right r s known = Composes-keeps r s (right r s known)

pub AllComposed-put : (t : Diagrams) (by : List (Option Ref)) (m n : Memo) (r s : Ref) → ((q p : Ref) → Knows n q p → Knows m q p ⊎ ((q ≡ r) × (p ≡ s))) → AllComposed t by m → Composes t by r s → AllComposed t by n
AllComposed-put t by m n r s put right new q p known =
    elim (put q p known) [
      | inl old ↦ right q p old
      | inr same ↦ subst (λ (k : Ref). Composes t by k p) (sym same.0) (subst (Composes t by r) (sym same.1) new)
    ]

pub Composes-leaf : (t : Diagrams) (by : List (Option Ref)) (r : Ref) → Has t r → branch_of t r ≡ None → Composes t by r r
Composes-leaf t by r has h =
    record {
      has_r = has;
      means = record { has = has; value = λ v. path_end-leaf r.index t.nodes v r.index h ∙ sym (path_end-leaf r.index t.nodes (replaced t by v) r.index h) };
    }

-- one step of the pass: the table is t where the node is read, l and h where its sides are done, k where the variable's
-- function is made, and u where the choice is
module _ (t l h k u : Diagrams) (by : List (Option Ref)) (all : HasAll t by) (reduced : IsReduced t) (r : Ref) (b : Branch) (has : Has t r) (node : branch_of t r ≡ Some b) (low high test s : Ref)
    (to_l : Keeps t l) (in_low : Composes l by b.low low) (to_h : Keeps l h) (in_high : Composes h by b.high high)
    (to_k : Keeps h k) (in_test : Means k (λ v. replaced h by v b.var) test) (to_u : Keeps k u) (means : Means u (choice k test high low) s) where
  all_l : HasAll l by
  all_l = HasAll-keeps t l by to_l all

  all_h : HasAll h by
  all_h = HasAll-keeps l h by to_h all_l

  all_k : HasAll k by
  all_k = HasAll-keeps h k by to_k all_h

  here : branch_of u r ≡ Some b
  here =
      to_u.branches r (to_k.has r (to_h.has r (to_l.has r has)))
      ∙ to_k.branches r (to_h.has r (to_l.has r has))
      ∙ to_h.branches r (to_l.has r has) ∙ to_l.branches r has ∙ node

  low_k : Composes k by b.low low
  low_k = Composes-keeps h k by to_k all_h b.low low (Composes-keeps l h by to_h all_l b.low low in_low)

  high_k : Composes k by b.high high
  high_k = Composes-keeps h k by to_k all_h b.high high in_high

  test_value : (v : Valuation) → function k test v ≡ replaced k by v b.var
  test_value v = in_test.value v ∙ sym (replaced-keeps h k by to_k all_h v b.var)

  node_value : (v : Valuation) → function k r v ≡ (if v b.var then function k b.high v else function k b.low v)
  node_value v =
      let here_k = to_k.branches r (to_h.has r (to_l.has r has)) ∙ to_h.branches r (to_l.has r has) ∙ to_l.branches r has ∙ node in
      function-node k to_k.reduced r b here_k v

  has_k : Has k r
  has_k = to_k.has r (to_h.has r (to_l.has r has))

  pub Composes-step : Composes u by r s
  Composes-step =
      record {
        has_r = to_u.has r has_k;
        means = record {
          has = means.has;
          value = λ v.
              let w : Valuation = replaced k by v in
              means.value v
              ∙ (λ j. if test_value v j then high_k.means.value v j else low_k.means.value v j)
              ∙ sym (node_value w)
              ∙ sym (function-replaced k u by to_u all_k r has_k v);
        };
      }

-- what the whole pass answers, in the words of the table before it
pub IfOk-composed : {E : Type 0} (t u : Diagrams) (by : List (Option Ref)) (r : Ref) → Has t r → HasAll t by → Keeps t u → (o : Result Ref E) → IfOk o (Composes u by r) → IfOk o (Means u (λ v. function t r (replaced t by v)))
IfOk-composed t u by r has all keeps (Ok s) c = record { has = c.means.has; value = λ v. c.means.value v ∙ function-replaced t u by keeps all r has v }
IfOk-composed t u by r has all keeps (Err e) c = tt
