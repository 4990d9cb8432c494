-- Lines whose variables have other numbers.
use Rattle.std.proofs.Common.{◌≡◌, ℕ, zero, suc, ◌+◌, ◌<◌, Bool, List, [], ◌∷◌, map, slice_get, Option, Some, None, if◌then◌else◌, ◌==◌, true, false, refl, sym, ap, subst, ◌∙◌}
use Rattle.std.specs.Option.{option_map, option_map_or}
use Rattle.std.proofs.lemmas.Option.{slice_get-map}
use Rattle.hp_cert.specs.Certmade.Placed.{RefersBack}
use Rattle.hp_diagram.specs.declared.reference.Branch.{Branch}
use Rattle.hp_diagram.specs.Diagrams.{branch_at, child, path_end}
use Rattle.hp_quant.specs.declared.line.Line.{Line}
use Rattle.hp_quant.specs.Lines.{node_of, line_function}
use Rattle.hp_controller.specs.Controllers.{moved}

module _ (to : ℕ → ℕ) where
  abbrev node_to : Branch → Branch
  node_to b = record { var = to b.var; low = b.low; high = b.high }

  nodes_moved : (ls : List Line) (k : ℕ) → slice_get (map node_of (map (moved to) ls)) k ≡ option_map node_to (slice_get (map node_of ls) k)
  nodes_moved [] k = refl
  nodes_moved (l ∷ ls) zero = refl
  nodes_moved (l ∷ ls) (suc k) = nodes_moved ls k

  branch_moved : (ls : List Line) (i : ℕ) → branch_at (map node_of (map (moved to) ls)) i ≡ option_map node_to (branch_at (map node_of ls) i)
  branch_moved ls zero = refl
  branch_moved ls (suc zero) = refl
  branch_moved ls (suc (suc k)) = nodes_moved ls k

  -- a path goes on at the same child where the variables are told by their other numbers
  path_moved : (ls : List Line) (v : ℕ → Bool) (most i : ℕ) → path_end most (map node_of (map (moved to) ls)) v i ≡ path_end most (map node_of ls) (λ x. v (to x)) i
  unfolding path_end
  path_moved ls v zero i = refl
  path_moved ls v (suc most) i =
      ap (λ o. option_map_or (λ b. path_end most (map node_of (map (moved to) ls)) v (child b v).index) o (i == 1)) (branch_moved ls i)
      ∙ by (λ b. path_moved ls v most (child b (λ x. v (to x))).index) (branch_at (map node_of ls) i)
    where
      by : ((b : Branch) → path_end most (map node_of (map (moved to) ls)) v (child b (λ x. v (to x))).index ≡ path_end most (map node_of ls) (λ x. v (to x)) (child b (λ x. v (to x))).index) → (o : Option Branch) →
          option_map_or (λ b. path_end most (map node_of (map (moved to) ls)) v (child b v).index) (option_map node_to o) (i == 1) ≡ option_map_or (λ b. path_end most (map node_of ls) (λ x. v (to x)) (child b (λ x. v (to x))).index) o (i == 1)
      by rest None = refl
      by rest (Some b) = rest b

  pub line_moved : (ls : List Line) (n : ℕ) (v : ℕ → Bool) → line_function (map (moved to) ls) n v ≡ line_function ls n (λ x. v (to x))
  line_moved ls n v = path_moved ls v n n

  pub lines_moved : (ls : List Line) (ns : List ℕ) (v : ℕ → Bool) → map (λ n. line_function (map (moved to) ls) n v) ns ≡ map (λ n. line_function ls n (λ x. v (to x))) ns
  lines_moved ls ns v = λ j. map (λ n. line_moved ls n v j) ns

  pub back_moved : (ls : List Line) → RefersBack ls → RefersBack (map (moved to) ls)
  back_moved ls back k l at = by (slice_get ls k) refl
    where
      by : (o : Option Line) → slice_get ls k ≡ o → (l.low < k + 2) × (l.high < k + 2)
      by None e = let none : None ≡ Some l = sym (slice_get-map (moved to) ls k ∙ ap (option_map (moved to)) e) ∙ at in absurd cc
      by (Some x) e =
          let some : Some (moved to x) ≡ Some l = sym (slice_get-map (moved to) ls k ∙ ap (option_map (moved to)) e) ∙ at in
          let same : moved to x ≡ l = cc in
          subst (λ (y : Line). (y.low < k + 2) × (y.high < k + 2)) same (back k x e)
