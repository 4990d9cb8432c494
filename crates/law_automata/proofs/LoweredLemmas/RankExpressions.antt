-- What expressions read, before and after, by ranks.
use Rattle.std.proofs.Common.{◌≡◌, ℕ, ◌+◌, ◌*◌, ◌<◌, ◌≤◌, List, [], ◌∷◌, refl, sym, subst, arith}
use Rattle.hp_tree.specs.Expressions.{Expr, constant, variable, last_of, one, two, choose, pre, fby, arrow, when_is, merge, call, Exprs, no_expr, more_exprs, Parts, no_part, more_parts}
use Rattle.hp_tree.specs.Instant.{Head, Tail, First, Second, Third, Args, Instance, Place, Clock, without}
use Rattle.hp_meaning.specs.Causal.Sources.{Sources, none, only, both, also, Within, NameSources, PlaceSources, below, nowhere, at_one, at_two, at_three, at_row, at_merge, at_call}
use Rattle.hp_meaning.specs.Causal.WhatIsRead.{of_clock, of_expr, of_exprs, of_parts, at_expr, at_exprs, at_parts}
use Rattle.hp_automata.specs.Renaming.{renamed, renamed_exprs, renamed_parts, renamed_path}
use Rattle.law_automata.specs.Lowered.OldNames.{IsOld, OldPath, OldExpr, OldExprs, OldParts}
use Rattle.law_automata.proofs.LoweredLemmas.Expressions.{old_without}

-- All of some sources have less rank than a number.
abbrev pub Below : (Place → ℕ) → ℕ → Sources → Type 0
Below rank m s = Within (λ q. rank q < m) s

pub below_more : (rank : Place → ℕ) (m n : ℕ) → m ≤ n → (s : Sources) → Below rank m s → Below rank n s
below_more rank m n l none h = h
below_more rank m n l (only q) h = omega arith
below_more rank m n l (both s t) h = (below_more rank m n l s h.0, below_more rank m n l t h.1)
below_more rank m n l (also s) h = below_more rank m n l s h

-- Where places of the program have rank, so much room is between two ranks afterwards; from the rank c on, so many names are kept.
module _ (K : ℕ) (before after : Place → ℕ) where
  abbrev pub Less : ℕ → ℕ → Sources → Sources → Type 0
  Less c i s t = (m : ℕ) → c ≤ m → Below before m s → Below after (K * m + i + 1) t

  pub less_up : (c d i j : ℕ) → c ≤ d → i ≤ j → (s t : Sources) → Less c i s t → Less d j s t
  less_up c d i j l g s t h m q p = below_more after (K * m + i + 1) (K * m + j + 1) (omega arith) t (h m (omega arith) p)

  module _ (c i : ℕ) where
    less_none : Less c i none none
    less_none m q p = tt

    pub less_both : (s s' t t' : Sources) → Less c i s s' → Less c i t t' → Less c i (both s t) (both s' t')
    less_both s s' t t' h g m q p = (h m q p.0, g m q p.1)

    abbrev pub LessAll : PlaceSources → PlaceSources → Type 0
    LessAll k k' = (p : Place) → Less c i (k p) (k' p)

    one_less : (s s' : Sources) (k k' : PlaceSources) → Less c i s s' → LessAll k k' → LessAll (at_one s k) (at_one s' k')
    one_less s s' k k' h g [] = h
    one_less s s' k k' h g (First ∷ p) = g p
    one_less s s' k k' h g p = less_none

    two_less : (s s' : Sources) (k k' l l' : PlaceSources) → Less c i s s' → LessAll k k' → LessAll l l' → LessAll (at_two s k l) (at_two s' k' l')
    two_less s s' k k' l l' h g f [] = h
    two_less s s' k k' l l' h g f (First ∷ p) = g p
    two_less s s' k k' l l' h g f (Second ∷ p) = f p
    two_less s s' k k' l l' h g f p = less_none

    three_less : (s s' : Sources) (k k' l l' n n' : PlaceSources) → Less c i s s' → LessAll k k' → LessAll l l' → LessAll n n' → LessAll (at_three s k l n) (at_three s' k' l' n')
    three_less s s' k k' l l' n n' h g f e [] = h
    three_less s s' k k' l l' n n' h g f e (First ∷ p) = g p
    three_less s s' k k' l l' n n' h g f e (Second ∷ p) = f p
    three_less s s' k k' l l' n n' h g f e (Third ∷ p) = e p
    three_less s s' k k' l l' n n' h g f e p = less_none

    pub row_less : (k k' l l' : PlaceSources) → LessAll k k' → LessAll l l' → LessAll (at_row k l) (at_row k' l')
    row_less k k' l l' g f (Head ∷ p) = g p
    row_less k k' l l' g f (Tail ∷ p) = f p
    row_less k k' l l' g f p = less_none

    merge_less : (s s' : Sources) (k k' : PlaceSources) → Less c i s s' → LessAll k k' → LessAll (at_merge s k) (at_merge s' k')
    merge_less s s' k k' h g [] = h
    merge_less s s' k k' h g (Args ∷ p) = g p
    merge_less s s' k k' h g p = less_none

    call_less : (s s' t t' : Sources) (k k' : PlaceSources) → Less c i s s' → Less c i t t' → LessAll k k' → LessAll (at_call s t k) (at_call s' t' k')
    call_less s s' t t' k k' h f g [] = h
    call_less s s' t t' k k' h f g (Args ∷ p) = g p
    call_less s s' t t' k k' h f g (Instance ∷ p) = f
    call_less s s' t t' k k' h f g p = less_none

    module _ (to : List ℕ → List ℕ) (names names' : NameSources) (same : (x : List ℕ) → IsOld x → Less c i (names x) (names' (to x))) where
      pub clock_less : (clock : Clock) → OldPath clock → Less c i (of_clock clock names) (of_clock (renamed_path to clock) names')
      clock_less [] o = less_none
      clock_less (on ∷ clock) o = less_both (names on.1) (names' (to on.1)) (of_clock clock names) (of_clock (renamed_path to clock) names') (same on.1 o.0) (clock_less clock o.1)

      mutual
        pub of_less : (e : Expr) → OldExpr e → (k k' : PlaceSources) → LessAll k k' → Less c i (of_expr e names k) (of_expr (renamed to e) names' k')
        of_less (constant s v) o k k' g m q h = tt
        of_less (variable s x) o k k' g m q h = same x o m q h
        of_less (last_of s x) o k k' g m q h = tt
        of_less (one s op a) o k k' g m q h = of_less a o (below First k) (below First k') (λ p. g (First ∷ p)) m q h
        of_less (two s op a b) o k k' g m q h =
            (of_less a o.0 (below First k) (below First k') (λ p. g (First ∷ p)) m q h.0, of_less b o.1 (below Second k) (below Second k') (λ p. g (Second ∷ p)) m q h.1)
        of_less (choose s a b d) o k k' g m q h = (
          of_less a o.0 (below First k) (below First k') (λ p. g (First ∷ p)) m q h.0,
          (of_less b o.1 (below Second k) (below Second k') (λ p. g (Second ∷ p)) m q h.1.0, of_less d o.2 (below Third k) (below Third k') (λ p. g (Third ∷ p)) m q h.1.1),
        )
        of_less (pre s a) o k k' g m q h = tt
        of_less (fby s a b) o k k' g m q h = of_less a o.0 (below First k) (below First k') (λ p. g (First ∷ p)) m q h
        of_less (arrow s a b) o k k' g m q h =
            (of_less a o.0 (below First k) (below First k') (λ p. g (First ∷ p)) m q h.0, of_less b o.1 (below Second k) (below Second k') (λ p. g (Second ∷ p)) m q h.1)
        of_less (when_is s a v x) o k k' g m q h = (same x o.0 m q h.0, of_less a o.1 (below First k) (below First k') (λ p. g (First ∷ p)) m q h.1)
        of_less (merge s x ps) o k k' g m q h = (same x o.0 m q h.0, of_parts_less ps o.1 (below Args k) (below Args k') (λ p. g (Args ∷ p)) m q h.1)
        of_less (call s f inlined es) o k k' g m q h = g [] m q h

        of_parts_less : (ps : Parts) → OldParts ps → (k k' : PlaceSources) → LessAll k k' → Less c i (of_parts ps names k) (of_parts (renamed_parts to ps) names' k')
        of_parts_less no_part o k k' g m q h = tt
        of_parts_less (more_parts v e ps) o k k' g m q h =
            (of_less e o.0 (below Head k) (below Head k') (λ p. g (Head ∷ p)) m q h.0, of_parts_less ps o.1 (below Tail k) (below Tail k') (λ p. g (Tail ∷ p)) m q h.1)

      of_all_less : (es : Exprs) → OldExprs es → (k k' : PlaceSources) → LessAll k k' → Less c i (of_exprs es names k) (of_exprs (renamed_exprs to es) names' k')
      of_all_less no_expr o k k' g m q h = tt
      of_all_less (more_exprs e es) o k k' g m q h =
          (of_less e o.0 (below Head k) (below Head k') (λ p. g (Head ∷ p)) m q h.0, of_all_less es o.1 (below Tail k) (below Tail k') (λ p. g (Tail ∷ p)) m q h.1)

      without_same : (clock : Clock) → without (renamed_path to clock) ≡ renamed_path to (without clock)
      without_same [] = refl
      without_same (on ∷ clock) = refl

      -- an occurrence, with its clock
      here_less : (e : Expr) → OldExpr e → (clock : Clock) → OldPath clock → (k k' : PlaceSources) → LessAll k k'
          → Less c i (both (also (of_clock clock names)) (of_expr e names k)) (both (also (of_clock (renamed_path to clock) names')) (of_expr (renamed to e) names' k'))
      here_less e o clock oc k k' g m q p = (clock_less clock oc m q p.0, of_less e o k k' g m q p.1)

      mutual
        pub at_less : (e : Expr) → OldExpr e → (clock : Clock) → OldPath clock → (k k' : PlaceSources) → LessAll k k' → LessAll (at_expr e clock names k) (at_expr (renamed to e) (renamed_path to clock) names' k')
        at_less (constant s v) o clock oc k k' g = one_less _ _ nowhere nowhere (λ m q p. clock_less clock oc m q p) (λ p. less_none)
        at_less (variable s x) o clock oc k k' g = one_less _ _ nowhere nowhere (here_less (variable s x) o clock oc k k' g) (λ p. less_none)
        at_less (last_of s x) o clock oc k k' g = λ p. less_none
        at_less (one s op a) o clock oc k k' g = one_less _ _ _ _ (here_less (one s op a) o clock oc k k' g) (at_less a o clock oc (below First k) (below First k') (λ p. g (First ∷ p)))
        at_less (two s op a b) o clock oc k k' g =
            two_less _ _ _ _ _ _ (here_less (two s op a b) o clock oc k k' g) (at_less a o.0 clock oc (below First k) (below First k') (λ p. g (First ∷ p))) (at_less b o.1 clock oc (below Second k) (below Second k') (λ p. g (Second ∷ p)))
        at_less (choose s a b d) o clock oc k k' g =
            three_less _ _ _ _ _ _ _ _ (here_less (choose s a b d) o clock oc k k' g) (at_less a o.0 clock oc (below First k) (below First k') (λ p. g (First ∷ p)))
            (at_less b o.1 clock oc (below Second k) (below Second k') (λ p. g (Second ∷ p))) (at_less d o.2 clock oc (below Third k) (below Third k') (λ p. g (Third ∷ p)))
        at_less (pre s a) o clock oc k k' g = one_less _ _ _ _ (λ m q p. clock_less clock oc m q p) (at_less a o clock oc (below First k) (below First k') (λ p. g (First ∷ p)))
        at_less (fby s a b) o clock oc k k' g =
            two_less _ _ _ _ _ _ (here_less (fby s a b) o clock oc k k' g) (at_less a o.0 clock oc (below First k) (below First k') (λ p. g (First ∷ p))) (at_less b o.1 clock oc (below Second k) (below Second k') (λ p. g (Second ∷ p)))
        at_less (arrow s a b) o clock oc k k' g =
            two_less _ _ _ _ _ _ (here_less (arrow s a b) o clock oc k k' g) (at_less a o.0 clock oc (below First k) (below First k') (λ p. g (First ∷ p))) (at_less b o.1 clock oc (below Second k) (below Second k') (λ p. g (Second ∷ p)))
        at_less (when_is s a v x) o clock oc k k' g =
            one_less _ _ _ _ (here_less (when_is s a v x) o clock oc k k' g)
            (λ p. subst (λ ck. Less c i (at_expr a (without clock) names (below First k) p) (at_expr (renamed to a) ck names' (below First k') p)) (sym (without_same clock))
            (at_less a o.1 (without clock) (old_without clock oc) (below First k) (below First k') (λ q. g (First ∷ q)) p))
        at_less (merge s x ps) o clock oc k k' g = merge_less _ _ _ _ (here_less (merge s x ps) o clock oc k k' g) (at_parts_less ps o.1 x o.0 clock oc (below Args k) (below Args k') (λ p. g (Args ∷ p)))
        at_less (call s f inlined es) o clock oc k k' g =
            call_less _ _ _ _ _ _ (λ m q p. (clock_less clock oc m q p.0, of_all_less es o (below Args k) (below Args k') (λ r. g (Args ∷ r)) m q p.1)) (λ m q p. (clock_less clock oc m q p.0, g [] m q p.1))
            (at_all_less es o clock oc (below Args k) (below Args k') (λ p. g (Args ∷ p)))

        at_all_less : (es : Exprs) → OldExprs es → (clock : Clock) → OldPath clock → (k k' : PlaceSources) → LessAll k k' → LessAll (at_exprs es clock names k) (at_exprs (renamed_exprs to es) (renamed_path to clock) names' k')
        at_all_less no_expr o clock oc k k' g = λ p. less_none
        at_all_less (more_exprs e es) o clock oc k k' g =
            row_less _ _ _ _ (at_less e o.0 clock oc (below Head k) (below Head k') (λ p. g (Head ∷ p))) (at_all_less es o.1 clock oc (below Tail k) (below Tail k') (λ p. g (Tail ∷ p)))

        at_parts_less : (ps : Parts) → OldParts ps → (x : List ℕ) → IsOld x → (clock : Clock) → OldPath clock → (k k' : PlaceSources) → LessAll k k' → LessAll (at_parts ps x clock names k) (at_parts (renamed_parts to ps) (to x) (renamed_path to clock) names' k')
        at_parts_less no_part o x ox clock oc k k' g = λ p. less_none
        at_parts_less (more_parts v e ps) o x ox clock oc k k' g =
            row_less _ _ _ _ (at_less e o.0 ((v, x) ∷ clock) (ox, oc) (below Head k) (below Head k') (λ p. g (Head ∷ p))) (at_parts_less ps o.1 x ox clock oc (below Tail k) (below Tail k') (λ p. g (Tail ∷ p)))
