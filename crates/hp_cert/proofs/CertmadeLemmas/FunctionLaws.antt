-- Lines have the functions of their nodes.
use Rattle.std.proofs.Common.{◌≡◌, ℕ, zero, suc, ◌<◌, ◌≤◌, inl, inr, Bool, List, [], ◌∷◌, length, map, slice_get, get_or, All, Option, Some, None, refl, sym, ap, subst, ◌∙◌, arith, if◌then◌else◌}
use Rattle.std.specs.List.{Contains}
use Rattle.std.specs.Option.{option_map}
use Rattle.std.proofs.lemmas.List.{length-map}
use Rattle.std.proofs.lemmas.Option.{slice_get-map, slice_get_within, slice_get-get_or}
use Rattle.hp_diagram.specs.declared.reference.Ref.{Ref}
use Rattle.hp_diagram.specs.declared.reference.Branch.{Branch}
use Rattle.hp_diagram.specs.Diagrams.{Diagrams, branch_at, function, path_end, Has, IsReduced}
use Rattle.hp_diagram.proofs.Paths.{path_end-leaf, function-node}
use Rattle.hp_quant.specs.declared.line.Line.{Line}
use Rattle.hp_quant.specs.Lines.{node_of, line_function, MayBeImported}
use Rattle.hp_quant.proofs.Imported.{line_function-line}
use Rattle.hp_cert.specs.Certmade.Lines.{number_in, line_of, AreMade}
use Rattle.hp_cert.specs.Certmade.Made.{HaveFunctions}
use Rattle.hp_cert.specs.Certmade.Placed.{RefersBack}
use Rattle.hp_cert.specs.Certmade.Walks.{WalksAll}
use Rattle.hp_cert.proofs.CertmadeLemmas.PlaceLaws.{Covers, number_small}
use Rattle.hp_cert.proofs.CertmadeLemmas.WalkLaws.{IsPlaced, ArePlaced, AllVisited, all_visited, none_placed}

no_branch : (nodes : List Branch) (i : ℕ) → i < 2 → branch_at nodes i ≡ None
no_branch nodes zero h = refl
no_branch nodes (suc zero) h = refl
no_branch nodes (suc (suc i)) h = absurd (omega (arith, h))

abbrev some_line : Line → Option Line
some_line l = Some l

abbrev pub AreLinesOf : Diagrams → List ℕ → List Line → Type 0
AreLinesOf t nodes lines = map Some lines ≡ map (λ i. option_map (line_of nodes) (branch_at t.nodes i)) nodes

module _ (t : Diagrams) (reduced : IsReduced t) (nodes : List ℕ) (are : ArePlaced t nodes) (lines : List Line) (lines_are : AreLinesOf t nodes lines) where
  line_at : (k i : ℕ) → slice_get nodes k ≡ Some i → (b : Branch) → branch_at t.nodes i ≡ Some b → slice_get lines k ≡ Some (line_of nodes b)
  line_at k i at b is = by (slice_get lines k) refl
    where
      both : option_map some_line (slice_get lines k) ≡ Some (Some (line_of nodes b))
      both =
          sym (slice_get-map some_line lines k) ∙ ap (λ (xs : List (Option Line)). slice_get xs k) lines_are
          ∙ slice_get-map (λ i. option_map (line_of nodes) (branch_at t.nodes i)) nodes k
          ∙ ap (option_map (λ i. option_map (line_of nodes) (branch_at t.nodes i))) at
          ∙ ap (λ o. Some (option_map (line_of nodes) o)) is

      by : (o : Option Line) → slice_get lines k ≡ o → slice_get lines k ≡ Some (line_of nodes b)
      by None e = let none : None ≡ Some (Some (line_of nodes b)) = sym (ap (option_map some_line) e) ∙ both in absurd (cc)
      by (Some l) e = let some : Some (Some l) ≡ Some (Some (line_of nodes b)) = sym (ap (option_map some_line) e) ∙ both in let same : l ≡ line_of nodes b = cc in e ∙ ap Some same

  same_length : length lines ≡ length nodes
  same_length = sym (length-map lines some_line) ∙ ap (λ (xs : List (Option Line)). length xs) lines_are ∙ length-map nodes (λ i. option_map (line_of nodes) (branch_at t.nodes i))

  -- the node of a line
  node_at : (k : ℕ) (l : Line) → slice_get lines k ≡ Some l → (i : ℕ) × (slice_get nodes k ≡ Some i)
  node_at k l at = let less = slice_get_within lines k l at in let len = same_length in (get_or nodes k 0, slice_get-get_or nodes k 0 (omega (arith, less, len)))

  line_is : (k : ℕ) (l : Line) → slice_get lines k ≡ Some l → (i : ℕ) × (p : IsPlaced t nodes k i) × (l ≡ line_of nodes p.branch)
  line_is k l at =
      let n = node_at k l at in
      let p = are k n.0 n.1 in
      let there = line_at k n.0 n.1 p.branch p.is in
      let both : Some l ≡ Some (line_of nodes p.branch) = sym at ∙ there in
      (n.0, p, cc)

  pub refer_back : RefersBack lines
  refer_back k l at =
      let is = line_is k l at in
      let low_is : l.low ≡ number_in nodes is.1.branch.low.index = ap (λ (l : Line). l.low) is.2 in
      let high_is : l.high ≡ number_in nodes is.1.branch.high.index = ap (λ (l : Line). l.high) is.2 in
      let low = is.1.low.1 in
      let high = is.1.high.1 in
      (omega (arith, low_is, low), omega (arith, high_is, high))

  imported : MayBeImported t lines
  imported = record {
    var = λ k l at. let is = line_is k l at in subst (λ (l : Line). l.var < t.vars) (sym is.2) (reduced.nodes is.0 is.1.branch is.1.is).var;
    low = λ k l at. (refer_back k l at).0;
    high = λ k l at. (refer_back k l at).1;
  }

  -- at each node
  functions_to : (most j : ℕ) → j ≤ most → Covers nodes j → (v : ℕ → Bool) → line_function lines (number_in nodes j) v ≡ path_end j t.nodes v j
  functions_to most j within (inl small) v =
      ap (λ n. line_function lines n v) (number_small nodes j small)
      ∙ path_end-leaf j (map node_of lines) v j (no_branch (map node_of lines) j small)
      ∙ sym (path_end-leaf j t.nodes v j (no_branch t.nodes j small))
  functions_to zero j within (inr there) v = absurd (no_node j within there)
    where
      no_node : (j : ℕ) → j ≤ 0 → Contains nodes j → ⊥
      no_node zero within (k, less, at) =
          let p = are k 0 (slice_get-get_or nodes k 0 less ∙ ap Some at) in
          let is = p.is in
          absurd (cc)
      no_node (suc j) within there = absurd (omega (arith, within))
  functions_to (suc most) j within (inr (k, less, at)) v =
      let there : slice_get nodes k ≡ Some j = slice_get-get_or nodes k j less ∙ ap Some at in
      let p = are k j there in
      let b = p.branch in
      let node = reduced.nodes j b p.is in
      let low_less = node.low in
      let high_less = node.high in
      let low = functions_to most b.low.index (omega (arith, low_less, within)) p.low.0 v in
      let high = functions_to most b.high.index (omega (arith, high_less, within)) p.high.0 v in
      ap (λ n. line_function lines n v) p.number
      ∙ line_function-line t lines imported k (line_of nodes b) (line_at k j there b p.is) v
      ∙ ap (λ (x : Bool). if v b.var then x else line_function lines (number_in nodes b.low.index) v) high
      ∙ ap (λ (x : Bool). if v b.var then path_end b.high.index t.nodes v b.high.index else x) low
      ∙ sym (function-node t reduced (record { index = j }) b p.is v)

  pub functions_of_nodes : (r : Ref) → Covers nodes r.index → (v : ℕ → Bool) → line_function lines (number_in nodes r.index) v ≡ function t r v
  functions_of_nodes r c v = functions_to r.index r.index (omega arith) c v

  pub functions_of_roots : (rs : List Ref) → All (λ (r : Ref). Covers nodes r.index) rs → (v : ℕ → Bool) → map (λ n. line_function lines n v) (map (λ (r : Ref). number_in nodes r.index) rs) ≡ map (λ r. function t r v) rs
  functions_of_roots [] covers v = refl
  functions_of_roots (r ∷ rs) covers v =
      let first = functions_of_nodes r (covers 0 r (omega arith)) v in
      let others = functions_of_roots rs (λ i d less. covers (suc i) d (omega (arith, less))) v in
      ap (λ (x : Bool). x ∷ map (λ n. line_function lines n v) (map (λ (r : Ref). number_in nodes r.index) rs)) first
      ∙ ap (λ (xs : List Bool). function t r v ∷ xs) others

-- ---- a page

module _ (t : Diagrams) (reduced : IsReduced t) (roots : List Ref) (nodes : List ℕ) (has : All (Has t) roots) (walk : WalksAll t [] roots nodes) where
  pub visited : AllVisited t [] roots nodes
  visited = all_visited t reduced [] roots nodes walk has (none_placed t)

  module _ (lines : List Line) (numbers : List ℕ) (lines_are : AreLinesOf t nodes lines) (numbers_are : numbers ≡ map (λ (r : Ref). number_in nodes r.index) roots) where
    pub page_made : AreMade t roots lines numbers
    page_made = record { nodes = nodes; walk = walk; lines_are = lines_are; numbers_are = numbers_are }

    pub page_functions : HaveFunctions t roots lines numbers
    page_functions v = ap (λ ns. map (λ n. line_function lines n v) ns) numbers_are ∙ functions_of_roots t reduced nodes visited.placed lines lines_are roots visited.covers v

    pub page_back : RefersBack lines
    page_back = refer_back t reduced nodes visited.placed lines lines_are
