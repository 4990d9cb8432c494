-- Two references of a table with one function are one reference, after Bryant (1986).
use Rattle.std.proofs.Common.{◌≡◌, ◌≢◌, ℕ, zero, suc, ◌+◌, ◌<◌, ◌≤◌, ◌⊎◌, ◌↔◌, inl, inr, IsTrue, Bool, true, false, ◌==◌, length, Option, Some, None, refl, sym, ap, ◌∙◌, arith, if◌then◌else◌}
use Rattle.std.specs.Option.{option_map_or}
use Rattle.std.proofs.lemmas.Bool.{cases_lt, false≢true, eqb-true, eq-eqb}
use Rattle.std.proofs.lemmas.Bool.Decides.{nat_tests}
use Rattle.std.proofs.lemmas.Option.{slice_get_cases}
use Rattle.hp_diagram.specs.declared.reference.Ref.{Ref}
use Rattle.hp_diagram.specs.declared.reference.Branch.{Branch}
use Rattle.hp_diagram.specs.Diagrams.{Diagrams, branch_at, path_end, function, Has, branch_of, level, IsReduced}
use Rattle.hp_diagram.proofs.Paths.{path_end-leaf, function-node}

abbrev pub Valuation : Type 0
Valuation = ℕ → Bool

-- the valuations agree on the variables from this one on
abbrev pub AgreeFrom : ℕ → Valuation → Valuation → Type 0
AgreeFrom x v w = (y : ℕ) → x ≤ y → v y ≡ w y

-- a valuation with another value for one variable
abbrev pub with_value : Valuation → ℕ → Bool → Valuation
with_value v x c = λ y. if y == x then c else v y

pub with_value-same : (v : Valuation) (x : ℕ) (c : Bool) → with_value v x c x ≡ c
with_value-same v x c = grind (arith, nat_tests)

pub with_value-other : (v : Valuation) (x : ℕ) (c : Bool) (y : ℕ) → y ≢ x → with_value v x c y ≡ v y
with_value-other v x c y differ = grind (arith, nat_tests)

pub with_value-later : (v : Valuation) (x : ℕ) (c : Bool) → AgreeFrom (suc x) (with_value v x c) v
with_value-later v x c y later = let differ : y ≢ x = omega arith in with_value-other v x c y differ

-- a reference with no node is 0 or 1
pub leaf_cases : (t : Diagrams) (i : ℕ) → i < length t.nodes + 2 → branch_at t.nodes i ≡ None → (i ≡ 0) ⊎ (i ≡ 1)
leaf_cases t zero has h = inl refl
leaf_cases t (suc zero) has h = inr refl
leaf_cases t (suc (suc i)) has h = elim (slice_get_cases t.nodes i).1 [ inl p ↦ absurd (cc (p.2, h)) | inr p ↦ absurd (omega (arith, p.0)) ]

module _ (t : Diagrams) (reduced : IsReduced t) where
  -- a function does not read the variables before its level
  pub function-agree : (r : Ref) (v w : Valuation) → AgreeFrom (level t r) v w → function t r v ≡ function t r w
  function-agree r v w agree = by r.index r (omega arith) v w agree (branch_of t r) refl
    where
      by : (most : ℕ) (r : Ref) → r.index ≤ most → (v w : Valuation) → AgreeFrom (level t r) v w → (o : Option Branch) → branch_of t r ≡ o → function t r v ≡ function t r w
      by most r in_most v w agree None h = path_end-leaf r.index t.nodes v r.index h ∙ sym (path_end-leaf r.index t.nodes w r.index h)
      by zero r in_most v w agree (Some b) h = let n = reduced.nodes r.index b h in absurd (omega (arith, n.low))
      by (suc most) r in_most v w agree (Some b) h =
          let n = reduced.nodes r.index b h in
          let at : level t r ≡ b.var = ap (λ o. option_map_or (λ (b : Branch). b.var) o t.vars) h in
          let low = by most b.low (omega (arith, n.low)) v w (λ y later. agree y (omega (arith, at, n.low_later))) (branch_of t b.low) refl in
          let high = by most b.high (omega (arith, n.high)) v w (λ y later. agree y (omega (arith, at, n.high_later))) (branch_of t b.high) refl in
          let picked : v b.var ≡ w b.var = agree b.var (omega (arith, at)) in
          function-node t reduced r b h v
          ∙ ap (λ c. if c then function t b.high v else function t b.low v) picked
          ∙ (λ j. if w b.var then high j else low j)
          ∙ sym (function-node t reduced r b h w)

  -- where a node's variable has a value, its function is the one of the child
  pub function-at_low : (r : Ref) (b : Branch) → branch_of t r ≡ Some b → (v : Valuation) → function t r (with_value v b.var false) ≡ function t b.low v
  function-at_low r b h v =
      let n = reduced.nodes r.index b h in
      let w = with_value v b.var false in
      function-node t reduced r b h w
      ∙ ap (λ c. if c then function t b.high w else function t b.low w) (with_value-same v b.var false)
      ∙ function-agree b.low w v (λ y later. with_value-later v b.var false y (omega (arith, n.low_later)))

  pub function-at_high : (r : Ref) (b : Branch) → branch_of t r ≡ Some b → (v : Valuation) → function t r (with_value v b.var true) ≡ function t b.high v
  function-at_high r b h v =
      let n = reduced.nodes r.index b h in
      let w = with_value v b.var true in
      function-node t reduced r b h w
      ∙ ap (λ c. if c then function t b.high w else function t b.low w) (with_value-same v b.var true)
      ∙ function-agree b.high w v (λ y later. with_value-later v b.var true y (omega (arith, n.high_later)))

  pub level-node : (r : Ref) (b : Branch) → branch_of t r ≡ Some b → level t r ≡ b.var
  level-node r b h = ap (λ o. option_map_or (λ (b : Branch). b.var) o t.vars) h

  pub level-leaf : (r : Ref) → branch_of t r ≡ None → level t r ≡ t.vars
  level-leaf r h = ap (λ o. option_map_or (λ (b : Branch). b.var) o t.vars) h

  abbrev Same : Ref → Ref → Type 0
  Same a b = (v : Valuation) → function t a v ≡ function t b v

  -- what holds of the references whose indices add up to less
  abbrev Smaller : ℕ → Type 0
  Smaller most = (a b : Ref) → a.index + b.index ≤ most → Has t a → Has t b → Same a b → a ≡ b

  Has-below : (r c : Ref) → Has t r → c.index < r.index → Has t c
  Has-below r c has below = omega arith

  -- a node's function reads its variable, so it is not that of a later level
  reads_variable : (most : ℕ) → Smaller most → (a b : Ref) → a.index + b.index ≤ suc most → Has t a → Has t b → Same a b → (x : Branch) → branch_of t a ≡ Some x → x.var < level t b → ⊥
  reads_variable most smaller a b bound has_a has_b same x h later =
      let n = reduced.nodes a.index x h in
      let apart : (c : Bool) (v : Valuation) → function t b (with_value v x.var c) ≡ function t b v =
      λ c v. function-agree b (with_value v x.var c) v (λ y from. with_value-later v x.var c y (omega (arith, later, from))) in
      let low : x.low ≡ b = smaller x.low b (omega (arith, n.low)) (omega (arith, n.low)) has_b (λ v. sym (function-at_low a x h v) ∙ same (with_value v x.var false) ∙ apart false v) in
      let high : x.high ≡ b = smaller x.high b (omega (arith, n.high)) (omega (arith, n.high)) has_b (λ v. sym (function-at_high a x h v) ∙ same (with_value v x.var true) ∙ apart true v) in
      n.differ (low ∙ sym high)

  both_leaves : (a b : Ref) → Has t a → Has t b → Same a b → branch_of t a ≡ None → branch_of t b ≡ None → a ≡ b
  both_leaves a b has_a has_b same leaf_a leaf_b =
      let v : Valuation = λ _. false in
      let ends : (a.index == 1) ≡ (b.index == 1) = sym (path_end-leaf a.index t.nodes v a.index leaf_a) ∙ same v ∙ path_end-leaf b.index t.nodes v b.index leaf_b in
      let cases_a = leaf_cases t a.index has_a leaf_a in
      let cases_b = leaf_cases t b.index has_b leaf_b in
      let index : a.index ≡ b.index = grind (arith, nat_tests, cases_a, cases_b, ends) in
      λ j. record { index = index j }

  both_nodes : (most : ℕ) → Smaller most → (a b : Ref) → a.index + b.index ≤ suc most → Has t a → Has t b → Same a b → (x y : Branch) → branch_of t a ≡ Some x → branch_of t b ≡ Some y → x.var ≡ y.var → a ≡ b
  both_nodes most smaller a b bound has_a has_b same x y node_a node_b var =
      let n = reduced.nodes a.index x node_a in
      let m = reduced.nodes b.index y node_b in
      let at : (c : Bool) (v : Valuation) → function t b (with_value v x.var c) ≡ function t b (with_value v y.var c) =
      λ c v. ap (λ z. function t b (with_value v z c)) var in
      let low : x.low ≡ y.low = smaller x.low y.low (omega (arith, n.low, m.low)) (omega (arith, n.low)) (omega (arith, m.low)) (λ v. sym (function-at_low a x node_a v) ∙ same (with_value v x.var false) ∙ at false v ∙ function-at_low b y node_b v) in
      let high : x.high ≡ y.high = smaller x.high y.high (omega (arith, n.high, m.high)) (omega (arith, n.high)) (omega (arith, m.high)) (λ v. sym (function-at_high a x node_a v) ∙ same (with_value v x.var true) ∙ at true v ∙ function-at_high b y node_b v) in
      let node : x ≡ y = λ j. record { var = var j; low = low j; high = high j } in
      let index : a.index ≡ b.index = reduced.distinct a.index b.index y (node_a ∙ ap Some node) node_b in
      λ j. record { index = index j }

  smaller_all : (most : ℕ) → Smaller most
  smaller_all most a b bound has_a has_b same = by most a b bound has_a has_b same (branch_of t a) refl (branch_of t b) refl
    where
      by : (most : ℕ) (a b : Ref) → a.index + b.index ≤ most → Has t a → Has t b → Same a b → (o : Option Branch) → branch_of t a ≡ o → (p : Option Branch) → branch_of t b ≡ p → a ≡ b
      by most a b bound has_a has_b same None ha None hb = both_leaves a b has_a has_b same ha hb
      by zero a b bound has_a has_b same (Some x) ha p hb = let n = reduced.nodes a.index x ha in absurd (omega (arith, n.low))
      by zero a b bound has_a has_b same None ha (Some y) hb = let n = reduced.nodes b.index y hb in absurd (omega (arith, n.low))
      by (suc most) a b bound has_a has_b same (Some x) ha None hb =
          let n = reduced.nodes a.index x ha in
          absurd (reads_variable most (λ c d l hc hd s. by most c d l hc hd s (branch_of t c) refl (branch_of t d) refl) a b bound has_a has_b same x ha (omega (arith, n.var, level-leaf b hb)))
      by (suc most) a b bound has_a has_b same None ha (Some y) hb =
          let n = reduced.nodes b.index y hb in
          absurd (reads_variable most (λ c d l hc hd s. by most c d l hc hd s (branch_of t c) refl (branch_of t d) refl) b a (omega arith) has_b has_a (λ v. sym (same v)) y hb (omega (arith, n.var, level-leaf a ha)))
      by (suc most) a b bound has_a has_b same (Some x) ha (Some y) hb =
          let rest = λ (c d : Ref) (l : c.index + d.index ≤ most) (hc : Has t c) (hd : Has t d) (s : Same c d). by most c d l hc hd s (branch_of t c) refl (branch_of t d) refl in
          elim (cases_lt x.var y.var) [
            | inl before ↦ absurd (reads_variable most rest a b bound has_a has_b same x ha (omega (arith, before, level-node b y hb)))
            | inr after ↦ elim (cases_lt y.var x.var) [
              | inl before ↦ absurd (reads_variable most rest b a (omega arith) has_b has_a (λ v. sym (same v)) y hb (omega (arith, before, level-node a x ha)))
              | inr not_after ↦ both_nodes most rest a b bound has_a has_b same x y ha hb (omega (arith, after, not_after))
            ]
          ]

  -- two references with one function are one
  pub same_from_functions : (a b : Ref) → Has t a → Has t b → ((v : Valuation) → function t a v ≡ function t b v) → a ≡ b
  same_from_functions a b = smaller_all (a.index + b.index) a b (omega arith)

  -- a function that does not read the variables before x has no such variable at its node
  pub level-from_agree : (x : ℕ) (r : Ref) → Has t r → x ≤ t.vars → ((v w : Valuation) → AgreeFrom x v w → function t r v ≡ function t r w) → x ≤ level t r
  level-from_agree x r has within agree = by (branch_of t r) refl
    where
      by : (o : Option Branch) → branch_of t r ≡ o → x ≤ level t r
      by None h = omega (arith, level-leaf r h)
      by (Some b) h = elim (cases_lt b.var x) [
        | inl before ↦
            let n = reduced.nodes r.index b h in
            let values : (v : Valuation) → function t b.low v ≡ function t b.high v =
            λ v. sym (function-at_low r b h v)
            ∙ agree (with_value v b.var false) (with_value v b.var true) (λ y from. let differ : y ≢ b.var = omega arith in with_value-other v b.var false y differ ∙ sym (with_value-other v b.var true y differ))
            ∙ function-at_high r b h v in
            absurd (n.differ (same_from_functions b.low b.high (omega (arith, n.low)) (omega (arith, n.high)) values))
        | inr after ↦ omega (arith, after, level-node r b h)
      ]

-- what `same` tells
pub same_functions : (t : Diagrams) (reduced : IsReduced t) (a b : Ref) → Has t a → Has t b → (c : Bool) → c ≡ (a.index == b.index) → IsTrue c ↔ ((v : Valuation) → function t a v ≡ function t b v)
same_functions t reduced a b has_a has_b true e =
    let index : a.index ≡ b.index = eqb-true a.index b.index (sym e) in
    (λ _ v. ap (λ i. path_end i t.nodes v i) index, λ _. refl)
same_functions t reduced a b has_a has_b false e =
    (λ h. absurd (false≢true h), λ same. absurd (false≢true (e ∙ eq-eqb a.index b.index (ap (λ (r : Ref). r.index) (same_from_functions t reduced a b has_a has_b same)))))
