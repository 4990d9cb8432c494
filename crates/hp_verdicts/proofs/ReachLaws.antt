-- Which variables the lines of a certificate read that is made of a table: those that the functions of the table read.
use Rattle.std.proofs.Common.{◌≡◌, ◌≢◌, ℕ, suc, ◌<◌, inl, inr, Bool, ◌==◌, true, false, if◌then◌else◌, List, [], ◌∷◌, length, map, slice_get, get_or, All, Option, Some, refl, sym, ap, ◌∙◌, subst, arith}
use Rattle.std.specs.Option.{option_map}
use Rattle.std.proofs.lemmas.Bool.{cases_lt}
use Rattle.std.proofs.lemmas.List.{length-map}
use Rattle.std.proofs.lemmas.List.Elements.{All-cons, All-head, All-nil, All-tail}
use Rattle.std.proofs.lemmas.Option.{slice_get-map, slice_get_within, slice_get-get_or}
use Rattle.hp_diagram.specs.declared.reference.Ref.{Ref}
use Rattle.hp_diagram.specs.declared.reference.Branch.{Branch}
use Rattle.hp_diagram.specs.Diagrams.{Diagrams, branch_at, branch_of, function, Has, IsReduced}
use Rattle.hp_diagram.proofs.Canonical.{function-at_high, function-at_low, same_from_functions, with_value, with_value-other}
use Rattle.hp_quant.specs.declared.line.Line.{Line}
use Rattle.hp_cert.specs.Proving.{Reaches, ReadsBelow}
use Rattle.hp_cert.specs.Certmade.Lines.{line_of, number_in}
use Rattle.hp_cert.proofs.CertmadeLemmas.FunctionLaws.{AreLinesOf}
use Rattle.hp_cert.proofs.CertmadeLemmas.PlaceLaws.{number_large, number_small, place_contains}
use Rattle.hp_cert.proofs.CertmadeLemmas.WalkLaws.{ArePlaced, IsPlaced}

abbrev pub Valuation : Type 0
Valuation = ℕ → Bool

-- a function reads no variable from a number on
abbrev pub IsLocal : ℕ → (Valuation → Bool) → Type 0
IsLocal bound f = (v w : Valuation) → ((x : ℕ) → x < bound → v x ≡ w x) → f v ≡ f w

module _ (t : Diagrams) (reduced : IsReduced t) (bound : ℕ) where
  -- where such a function has a node, the node's variable is below the number, and its children's functions are such
  node_below : (r : Ref) → Has t r → IsLocal bound (function t r) → (b : Branch) → branch_of t r ≡ Some b → b.var < bound
  node_below r has local b is =
      elim (cases_lt b.var bound) [
        | inl less ↦ less
        | inr far ↦
            let n = reduced.nodes r.index b is in
            let values : (v : Valuation) → function t b.low v ≡ function t b.high v =
            λ v. sym (function-at_low t reduced r b is v)
            ∙ local (with_value v b.var false) (with_value v b.var true) (λ x less. let differ : x ≢ b.var = λ same. absurd (omega (arith, far, less, same)) in
            with_value-other v b.var false x differ ∙ sym (with_value-other v b.var true x differ))
            ∙ function-at_high t reduced r b is v in
            let low = n.low in
            let high = n.high in
            absurd (n.differ (same_from_functions t reduced b.low b.high (omega (arith, low, has)) (omega (arith, high, has)) values))
      ]

  same_with : (v w : Valuation) (y : ℕ) (c : Bool) (x : ℕ) → v x ≡ w x → with_value v y c x ≡ with_value w y c x
  same_with v w y c x same = ap (λ (a : Bool). if x == y then c else a) same

  low_local : (r : Ref) → IsLocal bound (function t r) → (b : Branch) → branch_of t r ≡ Some b → IsLocal bound (function t b.low)
  low_local r local b is v w agree =
      sym (function-at_low t reduced r b is v)
      ∙ local (with_value v b.var false) (with_value w b.var false) (λ x less. same_with v w b.var false x (agree x less))
      ∙ function-at_low t reduced r b is w

  high_local : (r : Ref) → IsLocal bound (function t r) → (b : Branch) → branch_of t r ≡ Some b → IsLocal bound (function t b.high)
  high_local r local b is v w agree =
      sym (function-at_high t reduced r b is v)
      ∙ local (with_value v b.var true) (with_value w b.var true) (λ x less. same_with v w b.var true x (agree x less))
      ∙ function-at_high t reduced r b is w

abbrev some_line : Line → Option Line
some_line l = Some l

module _ (t : Diagrams) (reduced : IsReduced t) (nodes : List ℕ) (are : ArePlaced t nodes) (lines : List Line) (lines_are : AreLinesOf t nodes lines) where
  pub same_length : length lines ≡ length nodes
  same_length = sym (length-map lines some_line) ∙ ap (λ (xs : List (Option Line)). length xs) lines_are ∙ length-map nodes (λ i. option_map (line_of nodes) (branch_at t.nodes i))

  -- a line is that of its node
  pub line_of_node : (k i : ℕ) (l : Line) → slice_get lines k ≡ Some l → slice_get nodes k ≡ Some i → (p : IsPlaced t nodes k i) → l ≡ line_of nodes p.branch
  line_of_node k i l at there p =
      let both : Some (Some l) ≡ Some (Some (line_of nodes p.branch)) =
      sym (ap (option_map some_line) at)
      ∙ sym (slice_get-map some_line lines k) ∙ ap (λ (xs : List (Option Line)). slice_get xs k) lines_are
      ∙ slice_get-map (λ i. option_map (line_of nodes) (branch_at t.nodes i)) nodes k
      ∙ ap (option_map (λ i. option_map (line_of nodes) (branch_at t.nodes i))) there
      ∙ ap (λ o. Some (option_map (line_of nodes) o)) p.is in
      cc

  -- each line has a variable of the table
  pub lines_within : All (λ (l : Line). l.var < t.vars) lines
  lines_within k d less =
      let at : slice_get lines k ≡ Some (get_or lines k d) = slice_get-get_or lines k d less in
      let len = same_length in
      let there : slice_get nodes k ≡ Some (get_or nodes k 0) = slice_get-get_or nodes k 0 (omega (arith, less, len)) in
      let p = are k (get_or nodes k 0) there in
      subst (λ (l : Line). l.var < t.vars) (sym (line_of_node k (get_or nodes k 0) (get_or lines k d) at there p)) (reduced.nodes (get_or nodes k 0) p.branch p.is).var

  -- the node of a reference, by its line
  node_of : (r : Ref) (k : ℕ) (l : Line) → number_in nodes r.index ≡ suc (suc k) → slice_get lines k ≡ Some l → (b : Branch) × (branch_of t r ≡ Some b) × (l ≡ line_of nodes b)
  node_of r k l number at =
      elim (cases_lt r.index 2) [
        | inl small ↦ (let is = number_small nodes r.index small in absurd (omega (arith, number, is, small)))
        | inr large ↦
            let is = number_large nodes r.index large in
            let within = slice_get_within lines k l at in
            let len = same_length in
            let place = place_contains nodes r.index (omega (arith, number, is, within, len)) in
            let found : slice_get nodes place.0 ≡ Some r.index = slice_get-get_or nodes place.0 r.index place.1 ∙ ap Some place.2 in
            let second = (are place.0 r.index found).number in
            let same : place.0 ≡ k = omega (arith, number, second) in
            let there : slice_get nodes k ≡ Some r.index = ap (λ n. slice_get nodes n) (sym same) ∙ found in
            let p = are k r.index there in
            (p.branch, p.is, line_of_node k r.index l at there p)
      ]

  module _ (bound : ℕ) where
    below : {n s : ℕ} → Reaches lines n s → (r : Ref) → n ≡ number_in nodes r.index → Has t r → IsLocal bound (function t r) → (k : ℕ) (l : Line) → s ≡ suc (suc k)
        → slice_get lines k ≡ Some l → l.var < bound
    below Reaches.here r number has local k l end at =
        let n = node_of r k l (sym number ∙ end) at in
        subst (λ (l : Line). l.var < bound) (sym n.2) (node_below t reduced bound r has local n.0 n.1)
    below (Reaches.by_low {i = i} {l = m} first rest) r number has local k l end at =
        let n = node_of r i m (sym number) first in
        let less = (reduced.nodes r.index n.0 n.1).low in
        below rest (n.0).low (ap (λ (l : Line). l.low) n.2) (omega (arith, less, has)) (low_local t reduced bound r local n.0 n.1) k l end at
    below (Reaches.by_high {i = i} {l = m} first rest) r number has local k l end at =
        let n = node_of r i m (sym number) first in
        let less = (reduced.nodes r.index n.0 n.1).high in
        below rest (n.0).high (ap (λ (l : Line). l.high) n.2) (omega (arith, less, has)) (high_local t reduced bound r local n.0 n.1) k l end at

    -- what a reference of such a function reaches
    pub reads_below : (r : Ref) → Has t r → IsLocal bound (function t r) → ReadsBelow lines bound (number_in nodes r.index)
    reads_below r has local k l reaches at = below reaches r refl has local k l refl at

    pub all_below : (roots : List Ref) → All (Has t) roots → All (λ (r : Ref). IsLocal bound (function t r)) roots → All (ReadsBelow lines bound) (map (λ (r : Ref). number_in nodes r.index) roots)
    all_below [] has local = All-nil (ReadsBelow lines bound)
    all_below (r ∷ roots) has local =
        All-cons (ReadsBelow lines bound) (number_in nodes r.index) (map (λ (r : Ref). number_in nodes r.index) roots)
        (reads_below r (All-head (Has t) r roots has) (All-head (λ (r : Ref). IsLocal bound (function t r)) r roots local))
        (all_below roots (All-tail (Has t) r roots has) (All-tail (λ (r : Ref). IsLocal bound (function t r)) r roots local))
