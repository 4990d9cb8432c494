-- Conditions of transitions depend on names alone.
use Rattle.std.proofs.Common.{◌≡◌, ℕ, List, [], ◌∷◌, inl, inr, refl, ap, ap₂}
use Rattle.hp_tree.specs.Expressions.{Expr, constant, variable, last_of, one, two, choose}
use Rattle.hp_tree.specs.Instant.{First, Second, Third, Place}
use Rattle.hp_meaning.specs.Causal.Sources.{Sources, none, only, both, also, Within, IsSource, NameSources, PlaceSources, below, nowhere, at_one}
use Rattle.hp_meaning.specs.Causal.WhatIsRead.{of_expr, at_expr}
use Rattle.law_automata.specs.Lowered.OldNames.{IsOld, OldExpr}
use Rattle.law_automata.specs.Lowered.Removable.{Plain}
use Rattle.law_choices.proofs.IndependentLemmas.Moved.{moved}

-- what is so of what each source is read as
pub within_moved : (g : Place → Sources) (P : Place → Type 0) (s : Sources) → ((q : Place) → IsSource q s → Within P (g q)) → Within P (moved g s)
within_moved g P none f = tt
within_moved g P (only q) f = f q refl
within_moved g P (both s t) f = (within_moved g P s (λ q i. f q (inl i)), within_moved g P t (λ q i. f q (inr i)))
within_moved g P (also s) f = within_moved g P s f

module _ (names others : NameSources) (same : (z : List ℕ) → IsOld z → names z ≡ others z) where
  reads_same : (e : Expr) → Plain e → OldExpr e → (k l : PlaceSources) → of_expr e names k ≡ of_expr e others l
  reads_same (constant s c) plain old k l = refl
  reads_same (variable s x) plain old k l = same x old
  reads_same (last_of s x) plain old k l = refl
  reads_same (one s o a) plain old k l = reads_same a plain old (below First k) (below First l)
  reads_same (two s o a b) plain old k l = ap₂ both (reads_same a plain.0 old.0 (below First k) (below First l)) (reads_same b plain.1 old.1 (below Second k) (below Second l))
  reads_same (choose s a b c) plain old k l =
      ap₂ both (reads_same a plain.0 old.0 (below First k) (below First l))
      (ap₂ both (reads_same b plain.1 old.1 (below Second k) (below Second l)) (reads_same c plain.2 old.2 (below Third k) (below Third l)))
  reads_same e plain old k l = absurd plain

  -- Names of the program that are read alike are so at each place.
  pub condition_same : (e : Expr) → Plain e → OldExpr e → (k l : PlaceSources) (p : Place) → at_expr e [] names k p ≡ at_expr e [] others l p
  condition_same (constant s c) plain old k l p = refl
  condition_same (variable s x) plain old k l p = ap (λ (t : Sources). at_one (both (also none) t) nowhere p) (same x old)
  condition_same (last_of s x) plain old k l p = refl
  condition_same (one s o a) plain old k l [] = ap (both (also none)) (reads_same (one s o a) plain old k l)
  condition_same (one s o a) plain old k l (First ∷ p) = condition_same a plain old (below First k) (below First l) p
  condition_same (one s o a) plain old k l p = refl
  condition_same (two s o a b) plain old k l [] = ap (both (also none)) (reads_same (two s o a b) plain old k l)
  condition_same (two s o a b) plain old k l (First ∷ p) = condition_same a plain.0 old.0 (below First k) (below First l) p
  condition_same (two s o a b) plain old k l (Second ∷ p) = condition_same b plain.1 old.1 (below Second k) (below Second l) p
  condition_same (two s o a b) plain old k l p = refl
  condition_same (choose s a b c) plain old k l [] = ap (both (also none)) (reads_same (choose s a b c) plain old k l)
  condition_same (choose s a b c) plain old k l (First ∷ p) = condition_same a plain.0 old.0 (below First k) (below First l) p
  condition_same (choose s a b c) plain old k l (Second ∷ p) = condition_same b plain.1 old.1 (below Second k) (below Second l) p
  condition_same (choose s a b c) plain old k l (Third ∷ p) = condition_same c plain.2 old.2 (below Third k) (below Third l) p
  condition_same (choose s a b c) plain old k l p = refl
  condition_same e plain old k l p = absurd plain
