-- Canonical lines of the same functions are the same lines.
use Rattle.std.proofs.Common.{◌≡◌, ℕ, zero, suc, ◌+◌, ◌<◌, ◌≤◌, inl, inr, Bool, true, false, List, [], ◌∷◌, length, map, drop, get_or, slice_get, Option, Some, None, refl, sym, ap, ◌∙◌, subst, arith, if◌then◌else◌}
use Rattle.std.specs.Option.{option_map}
use Rattle.std.proofs.lemmas.Bool.{cases_lt}
use Rattle.std.proofs.lemmas.List.{length-map}
use Rattle.std.proofs.lemmas.Option.{slice_get-map, slice_get_within}
use Rattle.hp_diagram.specs.declared.reference.Ref.{Ref}
use Rattle.hp_diagram.specs.declared.reference.Branch.{Branch}
use Rattle.hp_diagram.specs.Diagrams.{Diagrams, Has, IsReduced, branch_at, branch_of, function, level}
use Rattle.hp_diagram.proofs.Canonical.{Valuation, function-agree, function-at_high, function-at_low, level-from_agree, level-leaf, level-node, same_from_functions, with_value}
use Rattle.hp_diagram.proofs.Paths.{function-node, path_end-leaf}
use Rattle.hp_quant.specs.declared.line.Line.{Line}
use Rattle.hp_quant.specs.Lines.{line_function, node_of}
use Rattle.hp_verdicts.specs.Canonical.{Walks, WalksAll, diagrams_of, seen, visit}
use Rattle.hp_verdicts.specs.Laws.{LinesLaw}

-- the reference of a number
abbrev pub reference : ℕ → Ref
reference n = record { index = n }

-- ---- one function in two tables of as many variables

module _ (t u : Diagrams) (vars : t.vars ≡ u.vars) (of_t : IsReduced t) (of_u : IsReduced u) where
  level_within : (r : Ref) → level u r ≤ u.vars
  level_within r = by (branch_of u r) refl
    where
      by : (o : Option Branch) → branch_of u r ≡ o → level u r ≤ u.vars
      by None h = let same = level-leaf u of_u r h in omega (arith, same)
      by (Some b) h = let same = level-node u of_u r b h in let less = (of_u.nodes r.index b h).var in omega (arith, same, less)

  -- the first variable of the second is not behind that of the first
  level_less : (a b : Ref) → Has t a → ((v : Valuation) → function t a v ≡ function u b v) → level u b ≤ level t a
  level_less a b has same =
      let within = level_within b in
      level-from_agree t of_t (level u b) a has (omega (arith, vars, within)) (λ v w agree. same v ∙ function-agree u of_u b v w agree ∙ sym (same w))

module _ (t u : Diagrams) (vars : t.vars ≡ u.vars) (of_t : IsReduced t) (of_u : IsReduced u) (a b : Ref) (has_a : Has t a) (has_b : Has u b) (same : (v : Valuation) → function t a v ≡ function u b v)
    (x y : Branch) (is_x : branch_of t a ≡ Some x) (is_y : branch_of u b ≡ Some y) where
  pub var_same : x.var ≡ y.var
  var_same =
      let one = level_less t u vars of_t of_u a b has_a same in
      let other = level_less u t (sym vars) of_u of_t b a has_b (λ v. sym (same v)) in
      let at_x = level-node t of_t a x is_x in
      let at_y = level-node u of_u b y is_y in
      omega (arith, one, other, at_x, at_y)

  at_y : (c : Bool) (v : Valuation) → function u b (with_value v x.var c) ≡ function u b (with_value v y.var c)
  at_y c v = ap (λ z. function u b (with_value v z c)) var_same

  pub low_same : (v : Valuation) → function t x.low v ≡ function u y.low v
  low_same v = sym (function-at_low t of_t a x is_x v) ∙ same (with_value v x.var false) ∙ at_y false v ∙ function-at_low u of_u b y is_y v

  pub high_same : (v : Valuation) → function t x.high v ≡ function u y.high v
  high_same v = sym (function-at_high t of_t a x is_x v) ∙ same (with_value v x.var true) ∙ at_y true v ∙ function-at_high u of_u b y is_y v

-- ---- lists that agree at each place

alike : {X : Type 0} (xs ys : List X) → length xs ≡ length ys → ((k : ℕ) → k < length xs → slice_get xs k ≡ slice_get ys k) → xs ≡ ys
alike [] [] len same = refl
alike [] (y ∷ ys) len same = absurd (omega (arith, len))
alike (x ∷ xs) [] len same = absurd (omega (arith, len))
alike {X = X} (x ∷ xs) (y ∷ ys) len same =
    let first : Some x ≡ Some y = same 0 (omega arith) in
    let head : x ≡ y = cc in
    let rest = alike xs ys (omega (arith, len)) (λ k less. same (suc k) (omega (arith, less))) in
    ap (λ (z : X). z ∷ xs) head ∙ ap (λ (zs : List X). y ∷ zs) rest

-- ---- what a walk visits

pub walk_within : (lines : List Line) (from r end : ℕ) → from ≤ length lines + 2 → Walks lines from r end → (r < end) × (from ≤ end) × (end ≤ length lines + 2)
walk_within lines from r end within (seen less) = (less, omega arith, within)
walk_within lines from r end within (visit {k = k} {l = l} at more low high) = let less = slice_get_within lines k l at in (omega arith, omega (arith, more), omega (arith, less))

-- references that have one function are one
same_of : (vars : ℕ) (lines : List Line) → IsReduced (diagrams_of vars lines) → (a b : ℕ) → a < length lines + 2 → b < length lines + 2
    → ((v : Valuation) → line_function lines a v ≡ line_function lines b v) → a ≡ b
same_of vars lines reduced a b has_a has_b same =
    let len : length (map node_of lines) ≡ length lines = length-map lines node_of in
    ap (λ (r : Ref). r.index) (same_from_functions (diagrams_of vars lines) reduced (reference a) (reference b) (omega (arith, len, has_a)) (omega (arith, len, has_b)) same)

-- a line is the node of its reference
node_at : (vars : ℕ) (lines : List Line) (k : ℕ) (l : Line) → slice_get lines k ≡ Some l → branch_of (diagrams_of vars lines) (reference (suc (suc k))) ≡ Some (node_of l)
node_at vars lines k l at = slice_get-map node_of lines k ∙ ap (option_map node_of) at

module _ (vars : ℕ) (lines others : List Line) (of_lines : IsReduced (diagrams_of vars lines)) (of_others : IsReduced (diagrams_of vars others)) where
  abbrev Same : ℕ → ℕ → Type 0
  Same a b = (v : Valuation) → line_function lines a v ≡ line_function others b v

  -- the lines of references below a number are the same
  abbrev Agree : ℕ → Type 0
  Agree n = (k : ℕ) → suc (suc k) < n → slice_get lines k ≡ slice_get others k

  branch_agrees : (n : ℕ) → Agree n → (i : ℕ) → i < n → branch_at (map node_of lines) i ≡ branch_at (map node_of others) i
  branch_agrees n agree zero less = refl
  branch_agrees n agree (suc zero) less = refl
  branch_agrees n agree (suc (suc k)) less = slice_get-map node_of lines k ∙ ap (λ o. option_map node_of o) (agree k less) ∙ sym (slice_get-map node_of others k)

  -- so they have the same functions
  same_below : (n : ℕ) → Agree n → (i : ℕ) → i < n → Same i i
  same_below n agree i less v = by i i (omega arith) less (branch_at (map node_of lines) i) refl
    where
      by : (most i : ℕ) → i ≤ most → i < n → (o : Option Branch) → branch_at (map node_of lines) i ≡ o → line_function lines i v ≡ line_function others i v
      by most i within less None h =
          path_end-leaf i (map node_of lines) v i h ∙ sym (path_end-leaf i (map node_of others) v i (sym (branch_agrees n agree i less) ∙ h))
      by zero i within less (Some b) h = let node = (of_lines.nodes i b h).low in absurd (omega (arith, node, within))
      by (suc most) i within less (Some b) h =
          let h_other : branch_at (map node_of others) i ≡ Some b = sym (branch_agrees n agree i less) ∙ h in
          let low_less = (of_lines.nodes i b h).low in
          let high_less = (of_lines.nodes i b h).high in
          let low = by most b.low.index (omega (arith, low_less, within)) (omega (arith, low_less, less)) (branch_at (map node_of lines) b.low.index) refl in
          let high = by most b.high.index (omega (arith, high_less, within)) (omega (arith, high_less, less)) (branch_at (map node_of lines) b.high.index) refl in
          function-node (diagrams_of vars lines) of_lines (reference i) b h v
          ∙ (λ j. if v b.var then high j else low j)
          ∙ sym (function-node (diagrams_of vars others) of_others (reference i) b h_other v)

  -- a walk from the same function visits the same lines
  module _ (n : ℕ) (agree : Agree n) (within : n ≤ length lines + 2) (within_other : n ≤ length others + 2) (a b : ℕ) (same : Same a b) where
    -- where both were seen
    both_seen : a < n → b < n → a ≡ b
    both_seen less_a less_b =
        same_of vars others of_others a b (omega (arith, less_a, within_other)) (omega (arith, less_b, within_other)) (λ v. sym (same_below n agree a less_a v) ∙ same v)

    -- what was seen is not visited
    first_seen : a < n → b < length others + 2 → n ≤ b → ⊥
    first_seen less has more =
        let is : a ≡ b = same_of vars others of_others a b (omega (arith, less, within_other)) has (λ v. sym (same_below n agree a less v) ∙ same v) in
        absurd (omega (arith, less, more, is))

    second_seen : b < n → a < length lines + 2 → n ≤ a → ⊥
    second_seen less has more =
        let is : a ≡ b = same_of vars lines of_lines a b has (omega (arith, less, within)) (λ v. same v ∙ sym (same_below n agree b less v)) in
        absurd (omega (arith, less, more, is))

  -- one more line is the same
  agree_more : (k : ℕ) (l : Line) → Agree (suc (suc k)) → slice_get lines k ≡ Some l → slice_get others k ≡ Some l → Agree (suc (suc (suc k)))
  agree_more k l agree at at_other j less =
      elim (cases_lt j k) as (λ o. slice_get lines j ≡ slice_get others j) [
        | inl before ↦ agree j (omega (arith, before))
        | inr behind ↦ (let last : j ≡ k = omega (arith, behind, less) in ap (λ i. slice_get lines i) last ∙ at ∙ sym at_other ∙ ap (λ i. slice_get others i) (sym last))
      ]

  abbrev Together : ℕ → ℕ → ℕ → ℕ → Type 0
  Together a b end other = (a ≡ b) × (end ≡ other) × Agree end

  -- both visit a line, behind the same lines
  both_visit : (k j : ℕ) (l m : Line) → slice_get lines k ≡ Some l → slice_get others j ≡ Some m → l.var ≡ m.var → l.low ≡ m.low → Together l.high m.high (suc (suc k)) (suc (suc j))
      → Together (suc (suc k)) (suc (suc j)) (suc (suc (suc k))) (suc (suc (suc j)))
  both_visit k j l m at at_other var low (high, ends, agree) =
      let place : j ≡ k = omega (arith, ends) in
      let line : l ≡ m = λ i. record { var = var i; low = low i; high = high i } in
      (ends, omega (arith, ends), agree_more k l agree at (ap (λ i. slice_get others i) (sym place) ∙ at_other ∙ ap Some (sym line)))

  walks_together : (n a end : ℕ) → Walks lines n a end → Agree n → n ≤ length lines + 2 → (b other : ℕ) → Walks others n b other → n ≤ length others + 2 → Same a b → Together a b end other
  walks_together n a end (seen less_a) agree within b other (seen less_b) within_other same =
      (both_seen n agree within within_other a b same less_a less_b, refl, agree)
  walks_together n a end (seen less_a) agree within b other (visit {k = j} {l = m} at_other more_other low_other high_other) within_other same =
      let has = slice_get_within others j m at_other in
      absurd (first_seen n agree within within_other a (suc (suc j)) same less_a (omega (arith, has)) more_other)
  walks_together n a end (visit {k = k} {l = l} at more low high) agree within b other (seen less_b) within_other same =
      let has = slice_get_within lines k l at in
      absurd (second_seen n agree within within_other (suc (suc k)) b same less_b (omega (arith, has)) more)
  walks_together n a end (visit {between = between} {k = k} {l = l} at more low high) agree within b other (visit {between = between_other} {k = j} {l = m} at_other more_other low_other high_other) within_other same =
      let t = diagrams_of vars lines in
      let u = diagrams_of vars others in
      let has_k = slice_get_within lines k l at in
      let has_j = slice_get_within others j m at_other in
      let len_t : length (map node_of lines) ≡ length lines = length-map lines node_of in
      let len_u : length (map node_of others) ≡ length others = length-map others node_of in
      let has_a : Has t (reference (suc (suc k))) = omega (arith, has_k, len_t) in
      let has_b : Has u (reference (suc (suc j))) = omega (arith, has_j, len_u) in
      let is_x = node_at vars lines k l at in
      let is_y = node_at vars others j m at_other in
      let var : l.var ≡ m.var = var_same t u refl of_lines of_others (reference (suc (suc k))) (reference (suc (suc j))) has_a has_b same (node_of l) (node_of m) is_x is_y in
      let lows : Same l.low m.low = low_same t u refl of_lines of_others (reference (suc (suc k))) (reference (suc (suc j))) has_a has_b same (node_of l) (node_of m) is_x is_y in
      let highs : Same l.high m.high = high_same t u refl of_lines of_others (reference (suc (suc k))) (reference (suc (suc j))) has_a has_b same (node_of l) (node_of m) is_x is_y in
      let first = walks_together n l.low between low agree within m.low between_other low_other within_other lows in
      let end_first = (walk_within lines n l.low between within low).2 in
      let end_other = (walk_within others n m.low between_other within_other low_other).2 in
      let second = walks_together between l.high (suc (suc k)) high first.2 end_first m.high (suc (suc j)) (subst (λ i. Walks others i m.high (suc (suc j))) (sym first.1) high_other) (subst (λ i. i ≤ length others + 2) (sym first.1) end_other) highs in
      both_visit k j l m at at_other var first.0 second

  -- from some references, one after the other
  all_together : (n : ℕ) (refs numbers : List ℕ) (end other : ℕ) → WalksAll lines n refs end → WalksAll others n numbers other → Agree n → n ≤ length lines + 2 → n ≤ length others + 2
      → ((v : Valuation) → map (λ r. line_function lines r v) refs ≡ map (λ r. line_function others r v) numbers) → (refs ≡ numbers) × (end ≡ other) × Agree end
  all_together n [] [] end other is is_other agree within within_other same = (refl, is ∙ sym is_other, subst Agree (sym is) agree)
  all_together n [] (b ∷ numbers) end other is is_other agree within within_other same = let no = same (λ x. false) in absurd (cc)
  all_together n (a ∷ refs) [] end other is is_other agree within within_other same = let no = same (λ x. false) in absurd (cc)
  all_together n (a ∷ refs) (b ∷ numbers) end other (between, first, rest) (between_other, first_other, rest_other) agree within within_other same =
      let one = walks_together n a between first agree within b between_other first_other within_other (λ v. ap (λ (xs : List Bool). get_or xs 0 false) (same v)) in
      let end_first = (walk_within lines n a between within first).2 in
      let end_other = (walk_within others n b between_other within_other first_other).2 in
      let others_are =
      all_together between refs numbers end other rest (subst (λ i. WalksAll others i numbers other) (sym one.1) rest_other) one.2 end_first (subst (λ i. i ≤ length others + 2) (sym one.1) end_other)
      (λ v. ap (λ (xs : List Bool). drop 1 xs) (same v)) in
      (ap (λ (x : ℕ). x ∷ refs) one.0 ∙ ap (λ (xs : List ℕ). b ∷ xs) others_are.0, others_are.1, others_are.2)

pub lines_one : LinesLaw
lines_one vars lines others refs numbers are are_other same =
    let all =
    all_together vars lines others are.reduced are_other.reduced 2 refs numbers (length lines + 2) (length others + 2) are.walk are_other.walk (λ k less. absurd (omega (arith, less))) (omega arith) (omega arith) same in
    let len : length lines ≡ length others = let e = all.1 in omega (arith, e) in
    (alike lines others len (λ k less. all.2 k (omega (arith, less))), all.0)
