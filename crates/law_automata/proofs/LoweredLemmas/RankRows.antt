-- Ranks of equations whose right sides remember nothing, one after the other.
use Rattle.std.proofs.Common.{◌≡◌, ℕ, ◌<◌, ◌≤◌, nat_lt, Bool, true, false, ◌||◌, if◌then◌else◌, List, [], ◌∷◌, ◌++◌, inl, inr, refl, sym, ap, subst, arith}
use Rattle.std.specs.Prelude.{⊤, ◌⊎◌}
use Rattle.std.specs.Str.{bytes_eq}
use Rattle.std.proofs.lemmas.Bool.Decides.{nat_tests}
use Rattle.hp_base.specs.declared.span.Span.{Span}
use Rattle.hp_tree.specs.Expressions.{Expr, constant, variable, last_of, one, two, choose, pre, fby, arrow, when_is, merge, call}
use Rattle.hp_tree.specs.Blocks.{Decl, Eqn, eqns_of}
use Rattle.hp_tree.specs.Instant.{Head, Tail, Right, First, Second, Third, Place}
use Rattle.hp_tree.specs.Meaning.{defines, some_defines, clock_in}
use Rattle.hp_meaning.specs.Causal.Sources.{only, both, also, NameSources, PlaceSources, below}
use Rattle.hp_meaning.specs.Causal.WhatIsRead.{of_clock, of_expr, at_expr, of_definition, of_definitions, in_equations, in_equation}
use Rattle.hp_automata.specs.Lowering.{defining, link}
use Rattle.law_automata.specs.Lowered.Removable.{Plain}
use Rattle.law_automata.proofs.LoweredLemmas.Apart.{same_bytes}
use Rattle.law_automata.proofs.LoweredLemmas.Tests.{or_cases}
use Rattle.law_automata.proofs.LoweredLemmas.RankExpressions.{Below, below_more}
use Rattle.law_automata.proofs.LoweredLemmas.RankBlocks.{of_row}

-- what a plain expression reads, its parts read
pub plain_at : (after : Place → ℕ) (m : ℕ) (names : NameSources) (e : Expr) → Plain e → (k : PlaceSources) → Below after m (of_expr e names k) → (p : Place) → Below after m (at_expr e [] names k p)
plain_at after m names (constant s c) q k h [] = tt
plain_at after m names (constant s c) q k h (First ∷ p) = tt
plain_at after m names (constant s c) q k h p = tt
plain_at after m names (variable s x) q k h [] = (tt, h)
plain_at after m names (variable s x) q k h (First ∷ p) = tt
plain_at after m names (variable s x) q k h p = tt
plain_at after m names (last_of s x) q k h p = tt
plain_at after m names (one s o a) q k h [] = (tt, h)
plain_at after m names (one s o a) q k h (First ∷ p) = plain_at after m names a q (below First k) h p
plain_at after m names (one s o a) q k h p = tt
plain_at after m names (two s o a b) q k h [] = (tt, h)
plain_at after m names (two s o a b) q k h (First ∷ p) = plain_at after m names a q.0 (below First k) h.0 p
plain_at after m names (two s o a b) q k h (Second ∷ p) = plain_at after m names b q.1 (below Second k) h.1 p
plain_at after m names (two s o a b) q k h p = tt
plain_at after m names (choose s a b c) q k h [] = (tt, h)
plain_at after m names (choose s a b c) q k h (First ∷ p) = plain_at after m names a q.0 (below First k) h.0 p
plain_at after m names (choose s a b c) q k h (Second ∷ p) = plain_at after m names b q.1 (below Second k) h.1.0 p
plain_at after m names (choose s a b c) q k h (Third ∷ p) = plain_at after m names c q.2 (below Third k) h.1.1 p
plain_at after m names (choose s a b c) q k h p = tt
plain_at after m names (pre s a) q k h p = absurd q
plain_at after m names (fby s a b) q k h p = absurd q
plain_at after m names (arrow s a b) q k h p = absurd q
plain_at after m names (when_is s a c x) q k h p = absurd q
plain_at after m names (merge s x ps) q k h p = absurd q
plain_at after m names (call s f i es) q k h p = absurd q

less_back : (k n : ℕ) → nat_lt k n ≡ true → k < n
less_back k n h = grind (arith, nat_tests)

-- a word, or what stands behind the last
pub link_below : (after : Place → ℕ) (m : ℕ) (names : NameSources) (s : Span) (n : ℕ) (named : ℕ → List ℕ) (end : Expr) (j : ℕ) (k : PlaceSources) → (j < n → Below after m (names (named j))) → Below after m (of_expr end names k) → Below after m (of_expr (link s n named end j) names k)
link_below after m names s n named end j k h g = by (nat_lt j n) (λ q. h (less_back j n q))
  where
    by : (t : Bool) → (t ≡ true → Below after m (names (named j))) → Below after m (of_expr (if t then variable s (named j) else end) names k)
    by true p = p refl
    by false p = g

-- behind so many in a row, all of which have the highest rank
abbrev pub behind_ranks : {A : Type 0} → ℕ → List A → (Place → ℕ) → Place → ℕ
behind_ranks top [] r p = r p
behind_ranks top (x ∷ xs) r p = of_row (λ q. top) (behind_ranks top xs r) top p

-- what stands behind a row
abbrev pub deeper : {A : Type 0} → List A → PlaceSources → PlaceSources
deeper [] k = k
deeper (x ∷ xs) k = deeper xs (below Tail k)

module _ (after : Place → ℕ) (top : ℕ) (ds : List Decl) (names : NameSources) (T : List ℕ → ℕ) where
  -- an equation whose places read below the top, and whose names below their ranks
  abbrev pub Falls : Eqn → Type 0
  Falls e = (k : PlaceSources) → ((p : Place) → Below after top (in_equation ds e names k p)) × ((y : List ℕ) → defines e y ≡ true → Below after (T y) (of_definition ds e names k y))

  abbrev pub EachFalls : List Eqn → Type 0
  EachFalls [] = ⊤
  EachFalls (e ∷ es) = Falls e × EachFalls es

  pub plain_falls : (s : Span) (y : List ℕ) (e : Expr) → Plain e → clock_in ds y ≡ [] → T y ≤ top → ((k : PlaceSources) → Below after (T y) (of_expr e names k)) → Falls (defining s y e)
  plain_falls s y e p clock l h k = (λ q. places q, λ z q. by z (or_cases (bytes_eq y z) false q))
    where
      places : (q : Place) → Below after top (in_equation ds (defining s y e) names k q)
      places (Right ∷ q) =
          subst (λ ck. Below after top (at_expr e ck names (below Right k) q)) (sym clock) (below_more after (T y) top l (at_expr e [] names (below Right k) q) (plain_at after (T y) names e p (below Right k) (h (below Right k)) q))
      places q = tt

      by : (z : List ℕ) → (bytes_eq y z ≡ true) ⊎ (false ≡ true) → Below after (T z) (of_definition ds (defining s y e) names k z)
      by z (inl q) =
          subst (λ n. Below after n (of_definition ds (defining s y e) names k z)) (ap T (same_bytes y z q)) (subst (λ ck. Below after (T y) (both (also (of_clock ck names)) (of_expr e names (below Right k)))) (sym clock) (tt, h (below Right k)))
      by z (inr q) = absurd cc

  -- a row, and what it gives to names
  abbrev pub RowFalls : List Eqn → (Place → ℕ) → PlaceSources → Type 0
  RowFalls es r k = ((p : Place) → Below after (r p) (in_equations ds (eqns_of es) names k p)) × ((y : List ℕ) → some_defines (eqns_of es) y ≡ true → Below after (T y) (of_definitions ds (eqns_of es) names k y))

  pub row_falls : (e : Eqn) (es : List Eqn) (r q : Place → ℕ) (k : PlaceSources) → ((p : Place) → Below after (r p) (in_equation ds e names (below Head k) p)) → ((y : List ℕ) → defines e y ≡ true → Below after (T y) (of_definition ds e names (below Head k) y))
      → RowFalls es q (below Tail k) → RowFalls (e ∷ es) (of_row r q top) k
  row_falls e es r q k f g R = (λ p. places p, λ y h. by y (defines e y) refl h)
    where
      places : (p : Place) → Below after (of_row r q top p) (in_equations ds (eqns_of (e ∷ es)) names k p)
      places (Head ∷ p) = f p
      places (Tail ∷ p) = R.0 p
      places p = tt

      by : (y : List ℕ) (t : Bool) → defines e y ≡ t → (t || some_defines (eqns_of es) y) ≡ true → Below after (T y) (if t then of_definition ds e names (below Head k) y else of_definitions ds (eqns_of es) names (below Tail k) y)
      by y true d h = g y d
      by y false d h = R.1 y h

  pub rows_falls : (xs es : List Eqn) (r : Place → ℕ) (k : PlaceSources) → EachFalls xs → RowFalls es r (deeper xs k) → RowFalls (xs ++ es) (behind_ranks top xs r) k
  rows_falls [] es r k f h = h
  rows_falls (e ∷ xs) es r k f h = row_falls e (xs ++ es) (λ p. top) (behind_ranks top xs r) k (f.0 (below Head k)).0 (f.0 (below Head k)).1 (rows_falls xs es r (below Tail k) f.1 h)

-- the way to what stands behind a row
abbrev pub deep : {A : Type 0} → List A → (Place → Place) → Place → Place
deep [] w = w
deep (x ∷ xs) w = deep xs (λ q. w (Tail ∷ q))

pub deeper_only : {A : Type 0} (xs : List A) (w : Place → Place) → deeper xs (λ q. only (w q)) ≡ (λ q. only (deep xs w q))
deeper_only [] w = refl
deeper_only (x ∷ xs) w = deeper_only xs (λ q. w (Tail ∷ q))

pub deep_ranks : {A : Type 0} (after : Place → ℕ) (top : ℕ) (xs : List A) (w : Place → Place) (r : Place → ℕ) → ((p : Place) → after (w p) ≡ behind_ranks top xs r p) → (p : Place) → after (deep xs w p) ≡ r p
deep_ranks after top [] w r h p = h p
deep_ranks after top (x ∷ xs) w r h p = deep_ranks after top xs (λ q. w (Tail ∷ q)) r (λ q. h (Tail ∷ q)) p

pub each_append : (after : Place → ℕ) (top : ℕ) (ds : List Decl) (names : NameSources) (T : List ℕ → ℕ) (xs ys : List Eqn) → EachFalls after top ds names T xs → EachFalls after top ds names T ys → EachFalls after top ds names T (xs ++ ys)
each_append after top ds names T [] ys h g = g
each_append after top ds names T (e ∷ xs) ys h g = (h.0, each_append after top ds names T xs ys h.1 g)
