-- Edges, one after the other, and equations that take their places.
use Rattle.std.proofs.Common.{◌≡◌, ℕ, ◌+◌, ◌<◌, ◌≤◌, get_or, length, take, drop, set, List, [], ◌∷◌, ◌++◌, sym, ap, ◌∙◌, arith}
use Rattle.std.specs.List.{flat_map}
use Rattle.std.proofs.lemmas.List.{append_assoc, append-nil, map-append, take_all, take_more_set, drop-set-lt}
use Rattle.hp_flat.specs.Equations.{Right, Clock, FlatEqn}
use Rattle.hp_flat.specs.declared.equation.Atom.{Atom}
use Rattle.law_equations.specs.Meaning.Fitting.{atom_variables}
use Rattle.law_equations.specs.Meaning.Scheduling.{clock_variables, right_reads}
use Rattle.hp_complete.specs.Edges.{edges_to, edges_from, edges_of_eqn, edges_of, placed}
use Rattle.hp_complete.specs.Names.{with_more}
use Rattle.hp_complete.specs.Ordering.{SaysTrue}
use Rattle.hp_complete.specs.Ranges.{EqnWithin}
use Rattle.hp_complete.specs.declared.error.FlattenErr.{FlattenErr}
use Rattle.hp_complete.specs.declared.error.FlattenErr.TheVariants.{Cycle, OutOfMemory}
use Rattle.hp_complete.proofs.LayerLaws.{drop-next, drop-end}
use Rattle.hp_complete.proofs.NameLaws.{more-append}

-- ---- edges

edges-both : (v : ℕ) (xs ys : List ℕ) → edges_to v (xs ++ ys) ≡ edges_to v xs ++ edges_to v ys
edges-both v xs ys = map-append (λ x. (v, x)) xs ys

module _ (before : List (ℕ × ℕ)) (v : ℕ) where
  more_to : (xs ys : List ℕ) → with_more before (edges_to v (xs ++ ys)) ≡ with_more (with_more before (edges_to v xs)) (edges_to v ys)
  more_to xs ys = ap (with_more before) (edges-both v xs ys) ∙ more-append before (edges_to v xs) (edges_to v ys)

  pub next-atom : (xs : List Atom) (i : ℕ) (a : Atom) → i < length xs → a ≡ get_or xs i a
      → with_more before (edges_to v (flat_map atom_variables (drop i xs))) ≡ with_more (with_more before (edges_to v (atom_variables a))) (edges_to v (flat_map atom_variables (drop (i + 1) xs)))
  next-atom xs i a h p =
      ap (λ more. with_more before (edges_to v (flat_map atom_variables more))) (drop-next xs i a h p) ∙ more_to (atom_variables a) (flat_map atom_variables (drop (i + 1) xs))

  pub next-step : (ck : Clock) (i : ℕ) (s : ℕ × ℕ) → i < length ck → s ≡ get_or ck i s
      → with_more before (edges_to v (clock_variables (drop i ck))) ≡ with_more (with_more before ((v, s.0) ∷ [])) (edges_to v (clock_variables (drop (i + 1) ck)))
  next-step ck i s h p = ap (λ more. with_more before (edges_to v (clock_variables more))) (drop-next ck i s h p) ∙ more_to (s.0 ∷ []) (clock_variables (drop (i + 1) ck))

  pub next-restart : (xs : List ℕ) (i x : ℕ) → i < length xs → x ≡ get_or xs i x → with_more before (edges_to v (drop i xs)) ≡ with_more (with_more before ((v, x) ∷ [])) (edges_to v (drop (i + 1) xs))
  next-restart xs i x h p = ap (λ more. with_more before (edges_to v more)) (drop-next xs i x h p) ∙ more_to (x ∷ []) (drop (i + 1) xs)

  pub next-target : (xs : List ℕ) (i x : ℕ) → i < length xs → x ≡ get_or xs i x → with_more before (edges_from v (drop i xs)) ≡ with_more (with_more before ((x, v) ∷ [])) (edges_from v (drop (i + 1) xs))
  next-target xs i x h p = ap (λ more. with_more before (edges_from v more)) (drop-next xs i x h p) ∙ more-append before ((x, v) ∷ []) (edges_from v (drop (i + 1) xs))

  pub edges-reads : (ck : Clock) (rs : List ℕ) (r : Right) → with_more (with_more (with_more before (edges_to v (clock_variables ck))) (edges_to v rs)) (edges_to v (right_reads r))
      ≡ with_more before (edges_to v (clock_variables ck ++ (rs ++ right_reads r)))
  edges-reads ck rs r =
      let ks = edges_to v (clock_variables ck) in
      sym (more-append (with_more before ks) (edges_to v rs) (edges_to v (right_reads r)))
      ∙ sym (ap (with_more (with_more before ks)) (edges-both v rs (right_reads r)))
      ∙ sym (more_to (clock_variables ck) (rs ++ right_reads r))

  pub edges-begin : (es : List FlatEqn) → with_more before (edges_of (v + 0) (drop 0 es)) ≡ with_more before (edges_of v es)
  edges-begin es = let same : v + 0 ≡ v = omega arith in ap (λ u. with_more before (edges_of u es)) same

  pub edges-eqn : (e : FlatEqn) (i : ℕ) (es : List FlatEqn) → i < length es → e ≡ get_or es i e → (u : ℕ) → u ≡ v + i
      → with_more before (edges_of (v + i) (drop i es)) ≡ with_more (with_more before (edges_of_eqn u e)) (edges_of (v + (i + 1)) (drop (i + 1) es))
  edges-eqn e i es h p u is =
      let on : v + i + 1 ≡ v + (i + 1) = omega arith in
      ap (λ more. with_more before (edges_of (v + i) more)) (drop-next es i e h p)
      ∙ more-append before (edges_of_eqn (v + i) e) (edges_of (v + i + 1) (drop (i + 1) es))
      ∙ (λ j. with_more (with_more before (edges_of_eqn (sym is j) e)) (edges_of (on j) (drop (i + 1) es)))

-- ---- places

module _ (ranks : List ℕ) (v : ℕ) where
  pub places-begin : (es : List FlatEqn) → take 0 es ++ placed ranks (v + 0) (drop 0 es) ≡ placed ranks v es
  places-begin es = let same : v + 0 ≡ v = omega arith in ap (λ u. placed ranks u es) same

  pub places-next : (es : List FlatEqn) (i r u : ℕ) (e : FlatEqn) → i < length es → e ≡ get_or es i e → u ≡ v + i → r ≡ get_or ranks u 0
      → take (i + 1) (set es i (record e { at = r })) ++ placed ranks (v + (i + 1)) (drop (i + 1) (set es i (record e { at = r }))) ≡ take i es ++ placed ranks (v + i) (drop i es)
  places-next es i r u e h p is at =
      let d : FlatEqn = record e { at = r } in
      let on : v + (i + 1) ≡ v + i + 1 = omega arith in
      let rank : r ≡ get_or ranks (v + i) 0 = at ∙ ap (λ w. get_or ranks w 0) is in
      (λ j. take_more_set es i d h j ++ placed ranks (on j) (drop-set-lt (i + 1) es i d (omega arith) j))
      ∙ append_assoc (take i es) (d ∷ []) (placed ranks (v + i + 1) (drop (i + 1) es))
      ∙ ap (λ w. take i es ++ (record e { at = w } ∷ placed ranks (v + i + 1) (drop (i + 1) es))) rank
      ∙ sym (ap (λ more. take i es ++ placed ranks (v + i) more) (drop-next es i e h p))

  pub places-end : (es : List FlatEqn) (i : ℕ) → length es ≤ i → take i es ++ placed ranks (v + i) (drop i es) ≡ es
  places-end es i h = (λ j. take_all i es h j ++ placed ranks (v + i) (drop-end es i h j)) ∙ append-nil es

pub place-within : (n : ℕ) (e : FlatEqn) (r : ℕ) → EqnWithin n e → EqnWithin n (record e { at = r })
place-within n e r h = record { targets = h.targets; clock = h.clock; right = h.right; restart = h.restart }

-- ---- what an error says

pub memory-says : (A : Type 0) (e : FlattenErr) → e ≡ OutOfMemory → SaysTrue A e
memory-says A Cycle h = absurd cc
memory-says A OutOfMemory h = tt
