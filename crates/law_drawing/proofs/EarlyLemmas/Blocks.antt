-- The flags of what is drawn of blocks and control equations.
use Rattle.std.proofs.Common.{◌≡◌, ℕ, ◌+◌, Bool, false, List, [], ◌∷◌, refl, ◌∙◌}
use Rattle.hp_tree.specs.declared.block.Trans.{Trans}
use Rattle.hp_tree.specs.declared.decl.Cons as tree_cons
use Rattle.hp_tree.specs.Blocks.{Decl, Block, block, Eqns, no_eqn, more_eqns, Eqn, define, switch, reset, automaton, Arms, no_arm, more_arms, States, no_state, more_states}
use Rattle.hp_tree.specs.Instant.{Body, Equations, Head, Tail, Right, Test, Arms as ArmsOf, States as StatesOf, Until, Unless, Place}
use Rattle.hp_meaning.specs.Causal.Sources.{only}
use Rattle.hp_meaning.specs.Contract.FreePlaces.{FreeClocks, none_free, free_in_conditions, free_in_states, free_in_equation, free_in_equations, free_in_block}
use Rattle.hp_drawing.specs.declared.parts.Jump.{Jump}
use Rattle.hp_drawing.specs.declared.parts.Lines.{Lines}
use Rattle.hp_drawing.specs.declared.parts.Place.{Place as Spot}
use Rattle.hp_drawing.specs.declared.parts.Rests.{Rests}
use Rattle.hp_drawing.specs.Told.{Told}
use Rattle.hp_drawing.specs.Planned.{count_states}
use Rattle.hp_drawing.specs.Sketch as sketch
use Rattle.hp_drawing.specs.Sketch.{Sketch, high, is_gate}
use Rattle.hp_drawing.specs.Places.{within, reset_by, stays, jump_hole, jump_end, new_lines, numbers_of, transition}
use Rattle.hp_drawing.specs.Scopes.{Scope, enter, hide, pop_values}
use Rattle.hp_drawing.specs.DrawnExpressions.{Brings, drawn}
use Rattle.hp_drawing.specs.DrawnBlocks.{Words, words_of, rests_of, drawn_transitions, drawn_jump, drawn_strong, drawn_weak, drawn_block, drawn_eqns, drawn_eqn, drawn_arms, drawn_states, enter_arm, enter_state, leave_state, reset_begin, states_begin, automaton_end, join_drawn, leave_hidden}
use Rattle.law_drawing.proofs.CarryingLemmas.Paths.{entered-clocks}
use Rattle.law_drawing.specs.Steered.Placed.{Held, ConditionsPlaced, JumpPlaced, BlockPlaced, EqnsPlaced, EqnPlaced, ArmsPlaced, StatesPlaced}
use Rattle.law_drawing.proofs.EarlyLemmas.Running.{define-runs, jump_hole-runs, jump_end-runs, transition-runs, lines-run, join-runs, end_hidden-runs, enter-runs, enter_arm-runs, enter_state-runs, leave_state-runs, reset_begin-runs, automaton_end-runs}
use Rattle.law_drawing.proofs.EarlyLemmas.Flags as flags
use Rattle.law_drawing.proofs.EarlyLemmas.Flags.{Goes, going, Stands, stands-behind, KnowsClocks, if_own, none-own}
use Rattle.law_drawing.proofs.EarlyLemmas.Walk.{standing, Frees, BringsGo, both, expr-goes, definition-goes}

-- ---- what is drawn inside does not stand in the node itself, and is on the base clock

arm-outside : (t : Told) (spot : Spot) (w : ℕ) (c : tree_cons.Cons) (s : Sketch) → ((enter_arm t spot w c s).1.outside ≡ false) × ((enter_arm t spot w c s).1.clock ≡ 0)
unfolding enter_arm within
arm-outside t spot w c s = (refl, refl)

reset-outside : (z : Scope) (spot : Spot) (s : Sketch) → ((reset_begin z spot s).1.outside ≡ false) × ((reset_begin z spot s).1.clock ≡ 0)
unfolding reset_begin reset_by
reset-outside z spot s = (refl, refl)

state-outside : (lines : Lines) (spot : Spot) (n : ℕ) (s : Sketch) → let e = (enter_state lines spot n s).0 in (e.place.outside ≡ false) × (e.place.clock ≡ 0) × (e.body.outside ≡ false) × (e.body.clock ≡ 0)
unfolding enter_state within reset_by
state-outside lines spot n s = (refl, refl, refl, refl)

module _ (place : ℕ → Place) (clocks : FreeClocks) where
  abbrev G : Sketch → Sketch → Type 0
  G = Goes place clocks

  -- where a block stands
  abbrev At : Sketch → Spot → Bool → Type 0
  At s spot own = Stands place clocks s spot own []

  abbrev Free : (Place → Place) → Bool → FreeClocks → Type 0
  Free at own free = Frees place clocks at own free

  on : (a b c : Sketch) → G a b → G b c → G a c
  on = both place clocks

  behind : (s s' : Sketch) (spot : Spot) (own : Bool) → G s s' → At s spot own → At s' spot own
  behind s s' spot own g h = stands-behind place clocks s s' spot own [] g h

  -- a place inside
  inside : (s s' : Sketch) (spot inner : Spot) (own : Bool) → G s s' → At s spot own → inner.outside ≡ false → inner.clock ≡ 0 → At s' inner false
  inside s s' spot inner own g h o c = record { based = (behind s s' spot own g h).based; clock_is = c; outside = o }

  -- nothing is free inside
  none-inside : (at : Place → Place) (own : Bool) (free : FreeClocks) → Free at own none_free → Free at false free
  none-inside at own free f p = f p ∙ none-own own

  module _ (t : Told) (brings : Brings) (held : Place → Held) (b : BringsGo place clocks t brings held) where
    -- ---- transitions

    conditions-go : (qs : List Trans) (z : Scope) (spot : Spot) (own : Bool) (words : Words) (at : Place → Place) (rest : Jump) (s : Sketch) → At s spot own → Free at own (free_in_conditions qs)
        → ((q : Place) → ConditionsPlaced (standing place q) t brings (held q) z spot words qs (λ p. only (at p)) rest s) → G s (drawn_transitions t brings z spot words qs rest s).1
    conditions-go [] z spot own words at rest s h f l = flags.stays place clocks s
    conditions-go (q ∷ qs) z spot own words at rest s h f l =
        let c = drawn t brings z spot q.cond s in
        let g0 = expr-goes place clocks t brings held b z q.cond spot own [] (λ p. at (Head ∷ p)) s h (λ p. f (Head ∷ p)) (λ r. (l r).0) in
        let more = transition words.numbers words.lines.shape rest c.0.wire q c.1 in
        let g1 = on s c.1 more.1 g0 (transition-runs G (going place clocks) words.numbers words.lines.shape rest c.0.wire q c.1) in
        on s more.1 (drawn_transitions t brings z spot words qs more.0 more.1).1 g1 (conditions-go qs z spot own words (λ p. at (Tail ∷ p)) more.0 more.1 (behind s more.1 spot own g1 h) (λ p. f (Tail ∷ p)) (λ r. (l r).1))

    jump-goes : (qs : List Trans) (z : Scope) (spot : Spot) (own : Bool) (words : Words) (at : Place → Place) (none : Jump) (s : Sketch) → At s spot own → Free at own (free_in_conditions qs)
        → ((q : Place) → JumpPlaced (standing place q) t brings (held q) z spot words qs (λ p. only (at p)) s) → G s (drawn_jump t brings z spot words qs none s).1
    jump-goes qs z spot own words at none s h f l =
        let j = jump_hole words.lines.shape s in
        let g0 = jump_hole-runs G (going place clocks) words.lines.shape s in
        let rest = drawn_transitions t brings z spot words qs j.0 j.1 in
        let g1 = on s j.1 rest.1 g0 (conditions-go qs z spot own words at j.0 j.1 (behind s j.1 spot own g0 h) f l) in
        on s rest.1 (jump_end rest.0 none rest.1) g1 (jump_end-runs G (going place clocks) rest.0 none rest.1)

    -- ---- blocks

    mutual
      pub block-goes : (c : Block) (z : Scope) (spot : Spot) (own : Bool) (at : Place → Place) (s : Sketch) → At s spot own → Free at own (free_in_block c)
          → ((q : Place) → BlockPlaced (standing place q) t brings (held q) z spot c (λ p. only (at p)) s) → G s (drawn_block t brings z spot c s).1
      block-goes (block ds es) z spot own at s h f l =
          let i = enter t z spot ds es s in
          let g = enter-runs G (going place clocks) t z spot ds es s in
          on s i.1 (drawn_eqns t brings i.0 spot ds es i.1) g (eqns-go es i.0 spot own ds (λ p. at (Equations ∷ p)) i.1 (behind s i.1 spot own g h) (λ x. entered-clocks t z spot ds es s x) (λ p. f (Equations ∷ p)) l)

      eqns-go : (es : Eqns) (z : Scope) (spot : Spot) (own : Bool) (ds : List Decl) (at : Place → Place) (s : Sketch) → At s spot own → KnowsClocks z ds → Free at own (free_in_equations ds es)
          → ((q : Place) → EqnsPlaced (standing place q) t brings (held q) z spot ds es (λ p. only (at p)) s) → G s (drawn_eqns t brings z spot ds es s)
      eqns-go no_eqn z spot own ds at s h k f l = flags.stays place clocks s
      eqns-go (more_eqns e es) z spot own ds at s h k f l =
          let s1 = drawn_eqn t brings z spot ds e s in
          let g = eqn-goes e z spot own ds (λ p. at (Head ∷ p)) s h k (λ p. f (Head ∷ p)) (λ r. (l r).0) in
          on s s1 (drawn_eqns t brings z spot ds es s1) g (eqns-go es z spot own ds (λ p. at (Tail ∷ p)) s1 (behind s s1 spot own g h) k (λ p. f (Tail ∷ p)) (λ r. (l r).1))

      eqn-goes : (e : Eqn) (z : Scope) (spot : Spot) (own : Bool) (ds : List Decl) (at : Place → Place) (s : Sketch) → At s spot own → KnowsClocks z ds → Free at own (free_in_equation ds e)
          → ((q : Place) → EqnPlaced (standing place q) t brings (held q) z spot ds e (λ p. only (at p)) s) → G s (drawn_eqn t brings z spot ds e s)
      eqn-goes (define q xs e) z spot own ds at s h k f l = definition-goes place clocks t brings held b z e spot own ds xs (λ p. at (Right ∷ p)) s h k (λ p. f (Right ∷ p)) l
      eqn-goes (switch q e arms) z spot own ds at s h k f l =
          let y = hide z (switch q e arms) in
          let c = drawn t brings z spot e s in
          let g0 = expr-goes place clocks t brings held b z e spot own [] (λ p. at (Test ∷ p)) s h (λ p. f (Test ∷ p)) (λ r. (l r).0) in
          let d = drawn_arms t brings y spot c.0.wire arms c.1 in
          let g1 = on s c.1 d.1 g0 (arms-go arms y spot own c.0.wire (λ p. at (ArmsOf ∷ p)) c.1 (behind s c.1 spot own g0 h) (λ p. f (ArmsOf ∷ p)) (λ r. (l r).1)) in
          on s d.1 (leave_hidden d) g1 (end_hidden-runs G (going place clocks) d.0 d.1)
      eqn-goes (reset q c e) z spot own ds at s h k f l =
          let y = hide z (reset q c e) in
          let i = reset_begin y spot s in
          let g0 = reset_begin-runs G (going place clocks) y spot s in
          let o = reset-outside y spot s in
          let d = drawn_block t brings y i.1 c i.2 in
          let g1 = on s i.2 d.1 g0 (block-goes c y i.1 false (λ p. at (Body ∷ p)) i.2 (inside s i.2 spot i.1 own g0 h o.0 o.1) (none-inside (λ p. at (Body ∷ p)) own (free_in_block c) (λ p. f (Body ∷ p))) (λ r. (l r).0)) in
          let j = join_drawn high d in
          let g2 = on s d.1 j.1 g1 (join-runs G (going place clocks) high d.0 d.1) in
          let left = leave_hidden j in
          let g3 = on s j.1 left g2 (end_hidden-runs G (going place clocks) j.0 j.1) in
          let v = drawn t brings z spot e left in
          let g4 = on s left v.1 g3 (expr-goes place clocks t brings held b z e spot own [] (λ p. at (Test ∷ p)) left (behind s left spot own g3 h) (λ p. f (Test ∷ p)) (λ r. (l r).1)) in
          on s v.1 (sketch.define i.0 v.0 v.1) g4 (define-runs G (going place clocks) i.0 v.0 v.1)
      eqn-goes (automaton q ss) z spot own ds at s h k f l =
          let y = hide z (automaton q ss) in
          let lines = new_lines (count_states ss) spot s in
          let g0 = lines-run G (going place clocks) (count_states ss) spot s in
          let next = states_begin lines.0 lines.1 in
          let g1 = on s lines.1 next.1 g0 (jump_hole-runs G (going place clocks) lines.0.shape lines.1) in
          let words = words_of (numbers_of ss) lines.0 in
          let rests = rests_of lines.0.active next.0 in
          let r = drawn_states t brings y spot words 0 ss rests next.1 in
          let g2 = on s next.1 r.2 g1 (states-go ss y spot own words 0 (λ p. at (StatesOf ∷ p)) rests next.1 (behind s next.1 spot own g1 h) (λ p. f (StatesOf ∷ p)) l) in
          on s r.2 (automaton_end lines.0 spot next.0 r) g2 (automaton_end-runs G (going place clocks) lines.0 spot next.0 r.0 r.1 r.2)

      arms-go : (arms : Arms) (z : Scope) (spot : Spot) (own : Bool) (w : ℕ) (at : Place → Place) (s : Sketch) → At s spot own → Free at own none_free
          → ((q : Place) → ArmsPlaced (standing place q) t brings (held q) z spot w arms (λ p. only (at p)) s) → G s (drawn_arms t brings z spot w arms s).1
      arms-go no_arm z spot own w at s h f l = flags.stays place clocks s
      arms-go (more_arms c body q arms) z spot own w at s h f l =
          let arm = enter_arm t spot w c s in
          let g0 = enter_arm-runs G (going place clocks) t spot w c s in
          let o = arm-outside t spot w c s in
          let d = drawn_block t brings z arm.1 body arm.2 in
          let g1 = on s arm.2 d.1 g0 (block-goes body z arm.1 false (λ p. at (Head ∷ p)) arm.2 (inside s arm.2 spot arm.1 own g0 h o.0 o.1) (none-inside (λ p. at (Head ∷ p)) own (free_in_block body) (λ p. f (Head ∷ p))) (λ r. (l r).0)) in
          let j = join_drawn arm.0 d in
          let g2 = on s d.1 j.1 g1 (join-runs G (going place clocks) arm.0 d.0 d.1) in
          on s j.1 (drawn_arms t brings j.0 spot w arms j.1).1 g2 (arms-go arms j.0 spot own w (λ p. at (Tail ∷ p)) j.1 (behind s j.1 spot own g2 h) (λ p. f (Tail ∷ p)) (λ r. (l r).1))

      states-go : (ss : States) (z : Scope) (spot : Spot) (own : Bool) (words : Words) (n : ℕ) (at : Place → Place) (rests : Rests) (s : Sketch) → At s spot own → Free at own (free_in_states ss)
          → ((q : Place) → StatesPlaced (standing place q) t brings (held q) z spot words n ss (λ p. only (at p)) rests s) → G s (drawn_states t brings z spot words n ss rests s).2
      states-go no_state z spot own words n at rests s h f l = flags.stays place clocks s
      states-go (more_states i body until unless q ss) z spot own words n at rests s h f l =
          let e = enter_state words.lines spot n s in
          let g0 = enter_state-runs G (going place clocks) words.lines spot n s in
          let o = state-outside words.lines spot n s in
          let d = drawn_block t brings z e.0.body body e.1 in
          let g1 = on s e.1 d.1 g0 (block-goes body z e.0.body false (λ p. at (Head ∷ Body ∷ p)) e.1 (inside s e.1 spot e.0.body own g0 h o.2 o.3) (none-inside (λ p. at (Head ∷ Body ∷ p)) own (free_in_block body) (λ p. f (Head ∷ Body ∷ p))) (λ r. (l r).0)) in
          let weak = drawn_weak t brings d.0 e.0.place words until d.1 in
          let g2 = on s d.1 weak.1 g1 (jump-goes until d.0 e.0.place false words (λ p. at (Head ∷ Until ∷ p)) (stays words.lines) d.1 (inside s d.1 spot e.0.place own g1 h o.0 o.1) (none-inside (λ p. at (Head ∷ Until ∷ p)) own (free_in_conditions until) (λ p. f (Head ∷ Until ∷ p))) (λ r. (l r).1)) in
          let joined = join_drawn e.0.taken (d.0, weak.1) in
          let g3 = on s weak.1 joined.1 g2 (join-runs G (going place clocks) e.0.taken d.0 weak.1) in
          let strong = drawn_strong t brings joined.0 spot words unless joined.1 in
          let g4 = on s joined.1 strong.1 g3 (jump-goes unless (pop_values joined.0) spot own words (λ p. at (Head ∷ Unless ∷ p)) words.lines.selected joined.1 (behind s joined.1 spot own g3 h) (λ p. f (Head ∷ Unless ∷ p)) (λ r. (l r).2)) in
          let left = leave_state words.lines n e.0.taken strong.0 weak.0 rests strong.1 in
          let g5 = on s strong.1 left.1 g4 (leave_state-runs G (going place clocks) words.lines n e.0.taken strong.0 weak.0 rests strong.1) in
          on s left.1 (drawn_states t brings joined.0 spot words (n + 1) ss left.0 left.1).2 g5 (states-go ss joined.0 spot own words (n + 1) (λ p. at (Tail ∷ p)) left.0 left.1 (behind s left.1 spot own g5 h) (λ p. f (Tail ∷ p)) (λ r. (l r).3))
