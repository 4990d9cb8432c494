-- Ranks of the body of a state, whose weak transitions stand in front.
use Rattle.std.proofs.Common.{◌≡◌, ℕ, ◌+◌, ◌*◌, ◌-◌, ◌<◌, ◌≤◌, length, Bool, true, false, ◌||◌, List, [], ◌∷◌, refl, sym, subst, arith}
use Rattle.std.specs.Prelude.{⊤, nat_eq}
use Rattle.std.proofs.lemmas.Bool.{eqb-true}
use Rattle.std.proofs.lemmas.Bool.Decides.{nat_tests}
use Rattle.std.specs.Str.{bytes_eq}
use Rattle.hp_tree.specs.declared.block.Trans.{Trans}
use Rattle.hp_tree.specs.Expressions.{Expr, constant, variable, last_of, one, two, choose, pre, fby, arrow, when_is, merge, call}
use Rattle.hp_tree.specs.Blocks.{Decl, States}
use Rattle.hp_tree.specs.Instant.{Named, Equations, Head, Tail, Place}
use Rattle.hp_tree.specs.Meaning.{clock_in, declares}
use Rattle.hp_meaning.specs.Causal.Sources.{only, NameSources, PlaceSources, below}
use Rattle.hp_meaning.specs.Causal.WhatIsRead.{of_expr, at_expr, at_conditions, names_in, in_block, in_equations, of_definitions, has_equation}
use Rattle.hp_automata.specs.declared.new_names.Word.{Word}
use Rattle.hp_automata.specs.NewNames.{transition_word}
use Rattle.hp_automata.specs.Renaming.{renamed}
use Rattle.hp_automata.specs.Lowering.{Frame, chosen, choices, number, code, transition_locals}
use Rattle.law_automata.specs.Lowered.OldNames.{IsOld, OldExpr}
use Rattle.law_automata.specs.Lowered.Removable.{Plain, TransitionsOk, most}
use Rattle.law_automata.proofs.LoweredLemmas.Apart.{bytes_same}
use Rattle.law_automata.proofs.LoweredLemmas.Tests.{or_left, or_right}
use Rattle.law_automata.proofs.LoweredLemmas.Plain.{plain_renamed}
use Rattle.law_automata.proofs.LoweredLemmas.Chains.{plain_link}
use Rattle.law_automata.proofs.LoweredLemmas.RankExpressions.{Below, below_more, Less}
use Rattle.law_automata.proofs.LoweredLemmas.RankRows.{link_below, plain_falls, EachFalls}

-- conditions read below a number, wherever they stand
abbrev pub CondsBelow : (Place → ℕ) → ℕ → NameSources → List Trans → Type 0
CondsBelow rank m names [] = ⊤
CondsBelow rank m names (t ∷ ts) = ((k : PlaceSources) → Below rank m (of_expr t.cond names k)) × CondsBelow rank m names ts

-- what a plain expression reads does not depend on where it stands
plain_there : (rank : Place → ℕ) (m : ℕ) (names : NameSources) (e : Expr) → Plain e → (k l : PlaceSources) → Below rank m (of_expr e names k) → Below rank m (of_expr e names l)
plain_there rank m names (constant s c) q k l h = tt
plain_there rank m names (variable s x) q k l h = h
plain_there rank m names (last_of s x) q k l h = tt
plain_there rank m names (one s o a) q k l h = plain_there rank m names a q _ _ h
plain_there rank m names (two s o a b) q k l h = (plain_there rank m names a q.0 _ _ h.0, plain_there rank m names b q.1 _ _ h.1)
plain_there rank m names (choose s a b c) q k l h = (plain_there rank m names a q.0 _ _ h.0, (plain_there rank m names b q.1 _ _ h.1.0, plain_there rank m names c q.2 _ _ h.1.1))
plain_there rank m names (pre s a) q k l h = absurd q
plain_there rank m names (fby s a b) q k l h = absurd q
plain_there rank m names (arrow s a b) q k l h = absurd q
plain_there rank m names (when_is s a c x) q k l h = absurd q
plain_there rank m names (merge s x ps) q k l h = absurd q
plain_there rank m names (call s f i es) q k l h = absurd q

-- what the value of a plain expression reads, all of it reads
plain_reads : (rank : Place → ℕ) (m : ℕ) (names : NameSources) (e : Expr) → Plain e → (k : PlaceSources) → Below rank m (at_expr e [] names k []) → Below rank m (of_expr e names k)
plain_reads rank m names (constant s c) q k h = tt
plain_reads rank m names (variable s x) q k h = h.1
plain_reads rank m names (last_of s x) q k h = tt
plain_reads rank m names (one s o a) q k h = h.1
plain_reads rank m names (two s o a b) q k h = h.1
plain_reads rank m names (choose s a b c) q k h = h.1
plain_reads rank m names (pre s a) q k h = absurd q
plain_reads rank m names (fby s a b) q k h = absurd q
plain_reads rank m names (arrow s a b) q k h = absurd q
plain_reads rank m names (when_is s a c x) q k h = absurd q
plain_reads rank m names (merge s x ps) q k h = absurd q
plain_reads rank m names (call s f i es) q k h = absurd q

-- conditions whose places have less rank than a number
pub conditions_below : (rank : Place → ℕ) (m : ℕ) (names : NameSources) (all : States) (ts : List Trans) → TransitionsOk all ts → (w : Place → Place) → ((p : Place) → Below rank (rank (w p)) (at_conditions ts names (λ q. only (w q)) p))
    → Below rank m (Rattle.hp_meaning.specs.Causal.WhatIsRead.of_conditions ts (λ q. only (w q))) → CondsBelow rank m names ts
conditions_below rank m names all [] ok w h g = tt
conditions_below rank m names all (t ∷ ts) ok w h g = (
  (λ k. plain_there rank m names t.cond ok.0.1 (λ q. only (w (Head ∷ q))) k
      (below_more rank (rank (w (Head ∷ []))) m (let less = g.0 in omega arith) (of_expr t.cond names (λ q. only (w (Head ∷ q)))) (plain_reads rank (rank (w (Head ∷ []))) names t.cond ok.0.1 (λ q. only (w (Head ∷ q))) (h (Head ∷ []))))),
  conditions_below rank m names all ts ok.1 (λ q. w (Tail ∷ q)) (λ p. h (Tail ∷ p)) g.1,
)

-- the words of transitions are declared
pub words_declared : (f : Frame) (w : Word) (k i j : ℕ) (ts : List Trans) → i ≤ j → j < i + length ts → declares (transition_locals f w k i ts) (transition_word w f.depth k j) ≡ true
words_declared f w k i j [] l g = absurd (omega arith)
words_declared f w k i j (t ∷ ts) l g = by (nat_eq i j) refl (λ q. words_declared f w k (i + 1) j ts q (omega arith))
  where
    by : (b : Bool) → nat_eq i j ≡ b → (i + 1 ≤ j → declares (transition_locals f w k (i + 1) ts) (transition_word w f.depth k j) ≡ true)
        → (bytes_eq (transition_word w f.depth k i) (transition_word w f.depth k j) || declares (transition_locals f w k (i + 1) ts) (transition_word w f.depth k j)) ≡ true
    by true q r = or_left _ _ (subst (λ n. bytes_eq (transition_word w f.depth k n) (transition_word w f.depth k j) ≡ true) (sym (eqb-true i j q)) (bytes_same (transition_word w f.depth k j)))
    by false q r = or_right (bytes_eq (transition_word w f.depth k i) (transition_word w f.depth k j)) _ (r (grind (arith, nat_tests)))

module _ (K : ℕ) (rank after : Place → ℕ) (c i : ℕ) (to : List ℕ → List ℕ) (names names' : NameSources) (same : (x : List ℕ) → IsOld x → Less K rank after c i (names x) (names' (to x))) where
  plain_less : (m : ℕ) → c ≤ m → (e : Expr) → Plain e → OldExpr e → (k l : PlaceSources) → Below rank m (of_expr e names k) → Below after (K * m + i + 1) (of_expr (renamed to e) names' l)
  plain_less m g (constant s v) q o k l h = tt
  plain_less m g (variable s x) q o k l h = same x o m g h
  plain_less m g (last_of s x) q o k l h = tt
  plain_less m g (one s op a) q o k l h = plain_less m g a q o _ _ h
  plain_less m g (two s op a b) q o k l h = (plain_less m g a q.0 o.0 _ _ h.0, plain_less m g b q.1 o.1 _ _ h.1)
  plain_less m g (choose s a b v) q o k l h = (plain_less m g a q.0 o.0 _ _ h.0, (plain_less m g b q.1 o.1 _ _ h.1.0, plain_less m g v q.2 o.2 _ _ h.1.1))
  plain_less m g (pre s a) q o k l h = absurd q
  plain_less m g (fby s a b) q o k l h = absurd q
  plain_less m g (arrow s a b) q o k l h = absurd q
  plain_less m g (when_is s a v x) q o k l h = absurd q
  plain_less m g (merge s x ps) q o k l h = absurd q
  plain_less m g (call s f j es) q o k l h = absurd q

  -- the words of transitions fall along their chain
  module _ (top : ℕ) (ds : List Decl) (T : List ℕ → ℕ) (f : Frame) (w : Word) (k n : ℕ) (end : Expr) (all : States) (base : ℕ) (reads_end : (m : ℕ) (l : PlaceSources) → Below after m (of_expr end names' l)) (end_plain : Plain end)
      (clock : (j : ℕ) → j < most → clock_in ds (transition_word w f.depth k j) ≡ []) (roof : base + most + 1 ≤ top) (ranked : (j : ℕ) → j < n → T (transition_word w f.depth k j) ≡ base + 1 + (most - j))
      (stands : (j : ℕ) → j < n → (m : ℕ) → T (transition_word w f.depth k j) < m → Below after m (names' (transition_word w f.depth k j))) (m0 : ℕ) (low : c ≤ m0) (under : K * m0 + i + 1 ≤ base + 1) where
    pub chosen_below : (j m : ℕ) (l : PlaceSources) → n ≤ most → base + 1 + (most - j) < m → Below after m (of_expr (chosen f w k n end j) names' l)
    chosen_below j m l room h =
        link_below after m names' f.at n (transition_word w f.depth k) end j l (λ q. stands j q m (let r = ranked j q in omega arith)) (reads_end m l)

    pub choices_fall : (j : ℕ) (ts : List Trans) → j + length ts ≡ n → n ≤ most → TransitionsOk all ts → CondsBelow rank m0 names ts → EachFalls after top ds names' T (choices to f w k n end j ts)
    choices_fall j [] e room ok h = tt
    choices_fall j (t ∷ ts) e room ok h =
        let mine = ranked j (omega arith) in (
          plain_falls after top ds names' T f.at (transition_word w f.depth k j) (choose f.at (renamed to t.cond) (number f.at (code (f.target t.target) t.restart)) (chosen f w k n end (j + 1)))
              (plain_renamed to t.cond ok.0.1, tt, plain_link f.at n (transition_word w f.depth k) end (j + 1) end_plain) (clock j (omega arith)) (omega arith)
              (λ l. (
                below_more after (K * m0 + i + 1) (T (transition_word w f.depth k j)) (omega arith) (of_expr (renamed to t.cond) names' (below Rattle.hp_tree.specs.Instant.First l)) (plain_less m0 low t.cond ok.0.1 ok.0.0 l _ (h.0 l)),
                (tt, chosen_below (j + 1) (T (transition_word w f.depth k j)) _ room (omega arith)),
              )),
          choices_fall (j + 1) ts (omega arith) room ok.1 h.1,
        )
