-- What is made of a table are canonical lines.
use Rattle.std.proofs.Common.{◌≡◌, ℕ, zero, suc, ◌+◌, ◌<◌, ◌≤◌, inl, inr, List, [], ◌∷◌, ◌++◌, length, map, slice_get, get_or, All, Option, Some, None, refl, sym, ap, ◌∙◌, subst, arith}
use Rattle.std.specs.List.{Contains}
use Rattle.std.specs.Option.{option_map, option_map_or}
use Rattle.std.proofs.lemmas.List.{length_push}
use Rattle.std.proofs.lemmas.List.Elements.{All-head, All-tail}
use Rattle.std.proofs.lemmas.Option.{slice_get-map, slice_get_within, slice_get-get_or}
use Rattle.hp_diagram.specs.declared.reference.Ref.{Ref}
use Rattle.hp_diagram.specs.declared.reference.Branch.{Branch}
use Rattle.hp_diagram.specs.Diagrams.{Diagrams, Has, IsNode, IsReduced, branch_at, level}
use Rattle.hp_diagram.proofs.Canonical.{leaf_cases}
use Rattle.hp_quant.specs.declared.line.Line.{Line}
use Rattle.hp_quant.specs.Lines.{node_of}
use Rattle.hp_cert.specs.Certmade.Lines.{AreMade, line_of, number_in}
use Rattle.hp_cert.specs.Certmade.Walks as table
use Rattle.hp_cert.proofs.CertmadeLemmas.FunctionLaws.{AreLinesOf, visited}
use Rattle.hp_cert.proofs.CertmadeLemmas.PlaceLaws.{Covers, number_small}
use Rattle.hp_cert.proofs.CertmadeLemmas.WalkLaws.{ArePlaced, IsPlaced}
use Rattle.hp_verdicts.specs.Canonical.{AreCanonical, Walks, WalksAll, diagrams_of, seen, visit}
use Rattle.hp_verdicts.proofs.CanonicalLaws.{reference}
use Rattle.hp_verdicts.proofs.ReachLaws.{line_of_node, same_length}

-- ---- lists that begin longer ones

abbrev Begins : List ℕ → List ℕ → Type 0
Begins xs ys = (k x : ℕ) → slice_get xs k ≡ Some x → slice_get ys k ≡ Some x

begins_push : (xs : List ℕ) (y : ℕ) → Begins xs (xs ++ y ∷ [])
begins_push [] y k x at = absurd (cc)
begins_push (z ∷ xs) y zero x at = at
begins_push (z ∷ xs) y (suc k) x at = begins_push xs y k x at

last_at : (xs : List ℕ) (y : ℕ) → slice_get (xs ++ y ∷ []) (length xs) ≡ Some y
last_at [] y = refl
last_at (x ∷ xs) y = last_at xs y

-- what was seen stays in front
walk_keeps : (t : Diagrams) (before : List ℕ) (r : Ref) (after : List ℕ) → table.Walks t before r after → Begins before after × (length before ≤ length after)
walk_keeps t before r after (table.leaf none) = (λ k x at. at, omega arith)
walk_keeps t before r after (table.again there) = (λ k x at. at, omega arith)
walk_keeps t before r after (table.visit {from_low = from_low} {from_high = from_high} {b = b} is none low high) =
    let l = walk_keeps t before b.low from_low low in
    let h = walk_keeps t from_low b.high from_high high in
    let len = length_push from_high r.index in
    let first = l.1 in
    let second = h.1 in
    (λ k x at. begins_push from_high r.index k x (h.0 k x (l.0 k x at)), omega (arith, len, first, second))

walks_keep : (t : Diagrams) (before : List ℕ) (rs : List Ref) (after : List ℕ) → table.WalksAll t before rs after → Begins before after
walks_keep t before [] after same k x at = subst (λ (xs : List ℕ). slice_get xs k ≡ Some x) (sym same) at
walks_keep t before (r ∷ rs) after (between, first, rest) k x at = walks_keep t between rs after rest k x ((walk_keeps t before r between first).0 k x at)

no_branch_small : (nodes : List Branch) (i : ℕ) → i < 2 → branch_at nodes i ≡ None
no_branch_small nodes zero less = refl
no_branch_small nodes (suc zero) less = refl
no_branch_small nodes (suc (suc i)) less = absurd (omega (arith, less))

module _ (t : Diagrams) (reduced : IsReduced t) (nodes : List ℕ) (are : ArePlaced t nodes) (lines : List Line) (lines_are : AreLinesOf t nodes lines) where
  -- the line of a node that is visited
  line_there : (k i : ℕ) → slice_get nodes k ≡ Some i → (b : Branch) → branch_at t.nodes i ≡ Some b → slice_get lines k ≡ Some (line_of nodes b)
  line_there k i at b is =
      let some : Line = line_of nodes b in
      let within = slice_get_within nodes k i at in
      let len = same_length t reduced nodes are lines lines_are in
      let there : slice_get lines k ≡ Some (get_or lines k some) = slice_get-get_or lines k some (omega (arith, within, len)) in
      let p = are k i at in
      let both : Some p.branch ≡ Some b = sym p.is ∙ is in
      let branch : p.branch ≡ b = cc in
      there ∙ ap Some (line_of_node t reduced nodes are lines lines_are k i (get_or lines k some) there at p) ∙ ap (λ (x : Branch). Some (line_of nodes x)) branch

  -- the node that a line was made of
  record Comes (k : ℕ) (l : Line) : Type 0 where
    node : ℕ
    at : slice_get nodes k ≡ Some node
    placed : IsPlaced t nodes k node
    line : l ≡ line_of nodes placed.branch

  comes : (k : ℕ) (l : Line) → slice_get lines k ≡ Some l → Comes k l
  comes k l there =
      let within = slice_get_within lines k l there in
      let len = same_length t reduced nodes are lines lines_are in
      let at : slice_get nodes k ≡ Some (get_or nodes k 0) = slice_get-get_or nodes k 0 (omega (arith, within, len)) in
      record { node = get_or nodes k 0; at = at; placed = are k (get_or nodes k 0) at; line = line_of_node t reduced nodes are lines lines_are k (get_or nodes k 0) l there at (are k (get_or nodes k 0) at) }

  -- ---- numbers

  -- where a node stands
  place_of : (i : ℕ) → Contains nodes i → (k : ℕ) × (slice_get nodes k ≡ Some i) × (number_in nodes i ≡ k + 2)
  place_of i c =
      let at : slice_get nodes c.0 ≡ Some i = slice_get-get_or nodes c.0 i c.1 ∙ ap Some c.2 in
      (c.0, at, (are c.0 i at).number)

  -- two indices have two numbers
  numbers_apart : (i j : ℕ) → Covers nodes i → Covers nodes j → number_in nodes i ≡ number_in nodes j → i ≡ j
  numbers_apart i j (inl a) (inl b) same = sym (number_small nodes i a) ∙ same ∙ number_small nodes j b
  numbers_apart i j (inl a) (inr d) same = let q = (place_of j d).2 in let n = number_small nodes i a in absurd (omega (arith, a, q, n, same))
  numbers_apart i j (inr c) (inl b) same = let p = (place_of i c).2 in let n = number_small nodes j b in absurd (omega (arith, b, p, n, same))
  numbers_apart i j (inr c) (inr d) same =
      let p = place_of i c in
      let q = place_of j d in
      let first = p.2 in
      let second = q.2 in
      let place : p.0 ≡ q.0 = omega (arith, first, second, same) in
      let both : Some i ≡ Some j = sym p.1 ∙ ap (λ k. slice_get nodes k) place ∙ q.1 in
      cc

  -- a number has the variable of its index
  level_same : (vars : ℕ) → vars ≡ t.vars → (i : ℕ) → Covers nodes i → level (diagrams_of vars lines) (reference (number_in nodes i)) ≡ level t (reference i)
  level_same vars same i (inl small) =
      ap (λ n. option_map_or (λ (b : Branch). b.var) (branch_at (map node_of lines) n) vars) (number_small nodes i small)
      ∙ ap (λ o. option_map_or (λ (b : Branch). b.var) o vars) (no_branch_small (map node_of lines) i small)
      ∙ same
      ∙ sym (ap (λ o. option_map_or (λ (b : Branch). b.var) o t.vars) (no_branch_small t.nodes i small))
  level_same vars same i (inr c) =
      let p = place_of i c in
      let placed = are p.0 i p.1 in
      let two : number_in nodes i ≡ suc (suc p.0) = let n = p.2 in omega (arith, n) in
      let node : slice_get (map node_of lines) p.0 ≡ Some (node_of (line_of nodes placed.branch)) = slice_get-map node_of lines p.0 ∙ ap (option_map node_of) (line_there p.0 i p.1 placed.branch placed.is) in
      ap (λ n. option_map_or (λ (b : Branch). b.var) (branch_at (map node_of lines) n) vars) two
      ∙ ap (λ o. option_map_or (λ (b : Branch). b.var) o vars) node
      ∙ sym (ap (λ o. option_map_or (λ (b : Branch). b.var) o t.vars) placed.is)

  -- ---- the lines are reduced

  line_at : (k : ℕ) (b : Branch) → slice_get (map node_of lines) k ≡ Some b → (l : Line) × (slice_get lines k ≡ Some l) × (node_of l ≡ b)
  line_at k b at = by (slice_get lines k) refl
    where
      by : (o : Option Line) → slice_get lines k ≡ o → (l : Line) × (slice_get lines k ≡ Some l) × (node_of l ≡ b)
      by None e = let none : None ≡ Some b = sym (slice_get-map node_of lines k ∙ ap (option_map node_of) e) ∙ at in absurd (cc)
      by (Some l) e = let some : Some (node_of l) ≡ Some b = sym (slice_get-map node_of lines k ∙ ap (option_map node_of) e) ∙ at in (l, e, cc)

  module _ (vars : ℕ) (same_vars : vars ≡ t.vars) where
    line_is_node : (k : ℕ) (l : Line) → Comes k l → IsNode (diagrams_of vars lines) (suc (suc k)) (node_of l)
    line_is_node k l from =
        let p = from.placed in
        let n = reduced.nodes from.node p.branch p.is in
        let var : l.var ≡ p.branch.var = ap (λ (x : Line). x.var) from.line in
        let low : l.low ≡ number_in nodes p.branch.low.index = ap (λ (x : Line). x.low) from.line in
        let high : l.high ≡ number_in nodes p.branch.high.index = ap (λ (x : Line). x.high) from.line in
        let low_less = p.low.1 in
        let high_less = p.high.1 in
        let var_less = n.var in
        let low_later = n.low_later in
        let high_later = n.high_later in
        let low_level : level (diagrams_of vars lines) (reference l.low) ≡ level t (reference p.branch.low.index) = ap (λ i. level (diagrams_of vars lines) (reference i)) low ∙ level_same vars same_vars p.branch.low.index p.low.0 in
        let high_level : level (diagrams_of vars lines) (reference l.high) ≡ level t (reference p.branch.high.index) = ap (λ i. level (diagrams_of vars lines) (reference i)) high ∙ level_same vars same_vars p.branch.high.index p.high.0 in
        record {
          low = omega (arith, low, low_less);
          high = omega (arith, high, high_less);
          differ = λ one. (
              let numbers : number_in nodes p.branch.low.index ≡ number_in nodes p.branch.high.index = sym low ∙ ap (λ (r : Ref). r.index) one ∙ high in
              let index : p.branch.low.index ≡ p.branch.high.index = numbers_apart p.branch.low.index p.branch.high.index p.low.0 p.high.0 numbers in
              n.differ (λ j. record { index = index j }));
          var = omega (arith, var, var_less, same_vars);
          low_later = omega (arith, var, low_later, low_level);
          high_later = omega (arith, var, high_later, high_level);
        }

    lines_reduced : IsReduced (diagrams_of vars lines)
    lines_reduced = record { nodes = each; distinct = once }
      where
        each : (i : ℕ) (b : Branch) → branch_at (map node_of lines) i ≡ Some b → IsNode (diagrams_of vars lines) i b
        each zero b at = absurd (cc)
        each (suc zero) b at = absurd (cc)
        each (suc (suc k)) b at =
            let l = line_at k b at in
            subst (IsNode (diagrams_of vars lines) (suc (suc k))) l.2 (line_is_node k l.0 (comes k l.0 l.1))

        same_place : (k j : ℕ) (b : Branch) → slice_get (map node_of lines) k ≡ Some b → slice_get (map node_of lines) j ≡ Some b → k ≡ j
        same_place k j b at_k at_j =
            let l = line_at k b at_k in
            let m = line_at j b at_j in
            let x = comes k l.0 l.1 in
            let y = comes j m.0 m.1 in
            let p = x.placed in
            let q = y.placed in
            let nodes_same : node_of l.0 ≡ node_of m.0 = l.2 ∙ sym m.2 in
            let var : p.branch.var ≡ q.branch.var = sym (ap (λ (z : Line). z.var) x.line) ∙ ap (λ (z : Branch). z.var) nodes_same ∙ ap (λ (z : Line). z.var) y.line in
            let low_number : number_in nodes p.branch.low.index ≡ number_in nodes q.branch.low.index = sym (ap (λ (z : Line). z.low) x.line) ∙ ap (λ (z : Branch). z.low.index) nodes_same ∙ ap (λ (z : Line). z.low) y.line in
            let high_number : number_in nodes p.branch.high.index ≡ number_in nodes q.branch.high.index = sym (ap (λ (z : Line). z.high) x.line) ∙ ap (λ (z : Branch). z.high.index) nodes_same ∙ ap (λ (z : Line). z.high) y.line in
            let low : p.branch.low.index ≡ q.branch.low.index = numbers_apart p.branch.low.index q.branch.low.index p.low.0 q.low.0 low_number in
            let high : p.branch.high.index ≡ q.branch.high.index = numbers_apart p.branch.high.index q.branch.high.index p.high.0 q.high.0 high_number in
            let branch : p.branch ≡ q.branch = λ j. record { var = var j; low = record { index = low j }; high = record { index = high j } } in
            let node : x.node ≡ y.node = reduced.distinct x.node y.node q.branch (p.is ∙ ap Some branch) q.is in
            let first = p.number in
            let second = q.number in
            let numbers : number_in nodes x.node ≡ number_in nodes y.node = ap (λ i. number_in nodes i) node in
            omega (arith, first, second, numbers)

        once : (i j : ℕ) (b : Branch) → branch_at (map node_of lines) i ≡ Some b → branch_at (map node_of lines) j ≡ Some b → i ≡ j
        once zero j b at_i at_j = absurd (cc)
        once (suc zero) j b at_i at_j = absurd (cc)
        once (suc (suc k)) zero b at_i at_j = absurd (cc)
        once (suc (suc k)) (suc zero) b at_i at_j = absurd (cc)
        once (suc (suc k)) (suc (suc j)) b at_i at_j = let same = same_place k j b at_i at_j in omega (arith, same)

  -- ---- their order

  walk_lines : (before : List ℕ) (r : Ref) (after : List ℕ) → table.Walks t before r after → Has t r → Begins after nodes → Walks lines (length before + 2) (number_in nodes r.index) (length after + 2)
  walk_lines before r after (table.leaf none) has front =
      let leaf = leaf_cases t r.index has none in
      let small : r.index < 2 = elim leaf as (λ o. r.index < 2) [ inl e ↦ omega (arith, e) | inr e ↦ omega (arith, e) ] in
      let number = number_small nodes r.index small in
      seen (omega (arith, small, number))
  walk_lines before r after (table.again there) has front =
      let at : slice_get nodes there.0 ≡ Some r.index = front there.0 r.index (slice_get-get_or before there.0 r.index there.1 ∙ ap Some there.2) in
      let number = (are there.0 r.index at).number in
      let less = there.1 in
      seen (omega (arith, less, number))
  walk_lines before r after (table.visit {from_low = from_low} {from_high = from_high} {b = b} is none low high) has front =
      let k = length from_high in
      let n = reduced.nodes r.index b is in
      let low_less = n.low in
      let high_less = n.high in
      let at : slice_get nodes (length from_high) ≡ Some r.index = front (length from_high) r.index (last_at from_high r.index) in
      let to_high : Begins from_high nodes = λ i x there. front i x (begins_push from_high r.index i x there) in
      let keeps_high = walk_keeps t from_low b.high from_high high in
      let keeps_low = walk_keeps t before b.low from_low low in
      let to_low : Begins from_low nodes = λ i x there. to_high i x (keeps_high.0 i x there) in
      let first = walk_lines before b.low from_low low (omega (arith, has, low_less)) to_low in
      let second = walk_lines from_low b.high from_high high (omega (arith, has, high_less)) to_high in
      let two : length from_high + 2 ≡ suc (suc (length from_high)) = omega arith in
      let number = (are (length from_high) r.index at).number in
      let here : suc (suc (length from_high)) ≡ number_in nodes r.index = omega (arith, number) in
      let len = length_push from_high r.index in
      let end : suc (suc (suc (length from_high))) ≡ length (from_high ++ r.index ∷ []) + 2 = omega (arith, len) in
      let one_less = keeps_low.1 in
      let other_less = keeps_high.1 in
      subst (λ e. Walks lines (length before + 2) (number_in nodes r.index) e) end
      (subst (λ i. Walks lines (length before + 2) i (suc (suc (suc (length from_high))))) here
      (visit (line_there (length from_high) r.index at b is) (omega (arith, one_less, other_less)) first (subst (λ e. Walks lines (length from_low + 2) (number_in nodes b.high.index) e) two second)))

  walk_all : (before : List ℕ) (rs : List Ref) (after : List ℕ) → table.WalksAll t before rs after → All (Has t) rs → Begins after nodes → WalksAll lines (length before + 2) (map (λ (r : Ref). number_in nodes r.index) rs) (length after + 2)
  walk_all before [] after same has front = ap (λ (xs : List ℕ). length xs + 2) same
  walk_all before (r ∷ rs) after (between, first, rest) has front = (
    length between + 2,
    walk_lines before r between first (All-head (Has t) r rs has) (λ k x at. front k x (walks_keep t between rs after rest k x at)),
    walk_all between rs after rest (All-tail (Has t) r rs has) front,
  )

-- what is made of references of a table
pub made_canonical : (t : Diagrams) → IsReduced t → (roots : List Ref) → All (Has t) roots → (lines : List Line) (numbers : List ℕ) → AreMade t roots lines numbers → AreCanonical t.vars lines numbers
made_canonical t reduced roots has lines numbers made =
    let nodes = made.nodes in
    let placed = (visited t reduced roots nodes has made.walk).placed in
    let len = same_length t reduced nodes placed lines made.lines_are in
    record {
      reduced = lines_reduced t reduced nodes placed lines made.lines_are t.vars refl;
      walk =
          subst (λ (ns : List ℕ). WalksAll lines 2 ns (length lines + 2)) (sym made.numbers_are)
          (subst (λ n. WalksAll lines 2 (map (λ (r : Ref). number_in nodes r.index) roots) (n + 2)) (sym len)
          (walk_all t reduced nodes placed lines made.lines_are [] roots nodes made.walk has (λ k x at. at)));
    }
