-- What is drawn of automata reads all that they read.
use Rattle.std.proofs.Common.{◌≡◌, ℕ, ◌+◌, true, List, [], ◌∷◌, sym, subst, inl, inr}
use Rattle.std.specs.Prelude.{⊤, ◌⊎◌}
use Rattle.hp_base.specs.declared.span.Span.{Span}
use Rattle.hp_tree.specs.declared.block.Trans.{Trans}
use Rattle.hp_tree.specs.Blocks.{Block, Eqn, automaton, States, no_state, more_states}
use Rattle.hp_tree.specs.Instant.{Body, Named, Head, Tail, States as StatesOf, Until, Unless, Active, Place}
use Rattle.hp_tree.specs.Meaning.{defines, states_define, block_defines}
use Rattle.hp_tree.specs.Programs.{Node}
use Rattle.hp_meaning.specs.Causal.Sources.{Sources, only, both, also, NameSources, PlaceSources}
use Rattle.hp_meaning.specs.Causal.WhatIsRead.{at_conditions, names_within, names_in_block, in_states, strong_ones, weak_ones, in_block, in_each_state}
use Rattle.hp_meaning.specs.Causal.Sources.{at_state}
use Rattle.hp_drawing.specs.declared.parts.Entered.{Entered}
use Rattle.hp_drawing.specs.declared.parts.Jump.{Jump}
use Rattle.hp_drawing.specs.declared.parts.Lines.{Lines}
use Rattle.hp_drawing.specs.declared.parts.Place.{Place as Spot}
use Rattle.hp_drawing.specs.declared.parts.Rests.{Rests}
use Rattle.hp_drawing.specs.Told.{Told}
use Rattle.hp_drawing.specs.Planned.{count_states}
use Rattle.hp_drawing.specs.Sketch.{Sketch, is_gate}
use Rattle.hp_drawing.specs.Places.{within, stays, jump_add, new_lines, numbers_of}
use Rattle.hp_drawing.specs.Scopes.{Scope, Layer, value_in, top_layer, push_values, pop_values, join_names, hide}
use Rattle.hp_drawing.specs.DrawnExpressions.{Brings}
use Rattle.hp_drawing.specs.DrawnBlocks.{Words, words_of, rests_of, drawn_block, drawn_states, drawn_weak, drawn_strong, enter_state, leave_state, states_begin}
use Rattle.law_drawing.specs.Steered.Placed.{Held, BlockPlaced, JumpPlaced, StatesPlaced}
use Rattle.law_drawing.specs.Steered.Asked.{ConditionsFit}
use Rattle.law_drawing.proofs.SteeredLemmas.Outer.{block-within}
use Rattle.law_drawing.proofs.SteeredLemmas.Joining.{pop-is}
use Rattle.law_drawing.proofs.EarlyLemmas.Running.{within-runs, reset-runs, jump_hole-runs, jump_add-runs, lines-run, joined_names-run, enter_state-runs, leave_state-runs, automaton_end-runs}
use Rattle.law_drawing.proofs.EarlyLemmas.Walk.{standing}
use Rattle.law_drawing.proofs.ReachedLemmas.Closed.{running}
use Rattle.law_drawing.proofs.ReachedLemmas.Steps.{is-gives, jump_add-gives}
use Rattle.law_drawing.proofs.ReachedLemmas.Whereabouts.{Said, by_row, by_state, Holds, row-holds, state-holds, words-hold}
use Rattle.law_drawing.proofs.ReachedLemmas.Wires.{JumpWires, BlockWires, StatesWires}
use Rattle.law_drawing.proofs.ReachedLemmas.Expressions.{leading, Early, on, nothing-read, BringsRun}
use Rattle.law_drawing.proofs.ReachedLemmas.Definitions.{jump-done}
use Rattle.law_drawing.proofs.ReachedLemmas.Blocks.{place-outside, body-outside, Steps, Ends, Slotted, Leads, Lead, Reach, Own, inside, BlockLaw, EqnLaw, Hides, of-block, joined-is, joined-named, joined-hides, joined-chosen, joined-given, hidden-named, hidden-hides, regroup, back}
use Rattle.law_drawing.proofs.ReachedLemmas.Scopes.{hidden_layer}

module _ (S : ℕ → Type 0) (T : Place → Type 0) (n : Node) (place : ℕ → Place) (t : Told) (brings : Brings) (held : Place → Held) (b : BringsRun S T n place t brings) where
  abbrev Ended : Sketch → Type 0
  Ended s = Ends S T n place t brings held b s

  abbrev Kept : Sketch → Type 0
  Kept s = Slotted S T n place t brings held b s

  abbrev Reads : Sources → Type 0
  Reads s = Leads S T n place t brings held b s

  abbrev Runs : Sketch → Sketch → Type 0
  Runs = Steps S T n place t brings held b

  abbrev NamesOf : Type 0 → Scope → NameSources → Type 0
  NamesOf C z names = Lead S T n place t brings held b C z names

  abbrev PlacesOf : Type 0 → (Place → Place) → Said → Type 0
  PlacesOf C at f = Reach S T n place t brings held b C at f

  abbrev OwnOf : Type 0 → Spot → (Place → Type 0) → (Place → Place) → PlaceSources → Type 0
  OwnOf C spot lies at reads = Own S T n place t brings held b C spot lies at reads

  abbrev HidesOf : Eqn → Layer → (List ℕ → ℕ) → Type 0
  HidesOf e h target = Hides S T n place t brings held b e h target

  pub record StatesDone (C : Type 0) (e : Eqn) (target : List ℕ → ℕ) (names inner : NameSources) (active : Sources) (at : Place → Place) (words : Words) (ss : States) (rests : Rests) (s : Sketch) (behind : Sketch) (wires : Said) : Type 0 where
    pub shut : Ended s
    pub slots : Kept s → Kept behind
    pub given : (x : List ℕ) → defines e x ≡ true → Reads (in_states ss (λ p. only (at p)) x) → (C ⊎ S words.lines.active.state) ⊎ S (target x)
    pub chosen : (x : List ℕ) → defines e x ≡ true → states_define ss x ≡ true → S words.lines.active.state → S (target x)
    pub strong : Reads (strong_ones ss (λ p. only (at p))) → C ⊎ S rests.strong.state
    pub placed : Holds (leading T) C (in_each_state ss active names inner (λ p. only (at p))) wires

  abbrev pub StatesLaw : States → Type 1
  StatesLaw ss =
      (C : Type 0) (e : Eqn) (z : Scope) (target : List ℕ → ℕ) (h : Layer) (names inner : NameSources) (active : Sources) (at : Place → Place) (spot : Spot) (words : Words) (i : ℕ) (rests : Rests) (s : Sketch) → NamesOf C z names → NamesOf (C ⊎ S words.lines.active.state) (push_values h z) inner
      → (Reads active → C ⊎ S words.lines.active.state) → PlacesOf C at (StatesWires S t brings (push_values h z) spot words i ss rests s)
      → OwnOf C spot (λ q. StatesPlaced (standing place q) t brings (held q) (push_values h z) spot words i ss (λ p. only (at p)) rests s) at (in_each_state ss active names inner (λ p. only (at p))) → (Ended s → HidesOf e h target) → Ended (drawn_states t brings (push_values h z) spot words i ss rests s).2
      → StatesDone C e target names inner active at words ss rests s (drawn_states t brings (push_values h z) spot words i ss rests s).2 (StatesWires S t brings (push_values h z) spot words i ss rests s)

  -- ---- the words of a state

  state-gives : (lines : Lines) (spot : Spot) (k : ℕ) (s : Sketch) → Ended (enter_state lines spot k s).1 → S lines.active.state → S (enter_state lines spot k s).0.taken
  unfolding enter_state
  state-gives lines spot k s c =
      let taken = is_gate lines.active.state k s in
      let inner = within spot taken.0 taken.1 in
      is-gives S lines.active.state k s ((within-runs Runs (running S (Early S T n place)) spot taken.0 taken.1).closed ((reset-runs Runs (running S (Early S T n place)) inner.0 lines.active.restart inner.1).closed c))

  leave-gives : (lines : Lines) (k taken : ℕ) (strong weak : Jump) (rests : Rests) (s : Sketch) → Ended (leave_state lines k taken strong weak rests s).1
      → (S strong.state → S rests.strong.state) × (S (leave_state lines k taken strong weak rests s).0.strong.state → S rests.strong.state)
  unfolding leave_state
  leave-gives lines k taken strong weak rests s c =
      let selected = is_gate lines.selected.state k s in
      let more = jump_add rests.strong lines.shape selected.0 strong selected.1 in
      let g = jump_add-gives S rests.strong lines.shape selected.0 strong selected.1 ((jump_add-runs Runs (running S (Early S T n place)) rests.weak lines.shape taken weak more.1).closed c) in
      (g.1, g.2)

  pub no-state : StatesLaw no_state
  no-state C e z target h names inner active at spot words i rests s named seen act reach own hides c = record { shut = c; slots = λ k. k; given = λ x d l. absurd l; chosen = λ x d m. absurd cc; strong = λ l. absurd l; placed = nothing-read S T n place C }

  pub more-states : (f : List ℕ) (body : Block) (until unless : List Trans) (q : Span) (ss : States) → BlockLaw S T n place t brings held b body → ConditionsFit t until → ConditionsFit t unless → StatesLaw ss → StatesLaw (more_states f body until unless q ss)
  more-states f body until unless q ss first fit_until fit_unless others C e z target h names inner active at spot words i rests s named seen act reach own hides c =
      subst Law (sym (joined-is S T n place t brings held b body m.0.taken z h d.0 weak.1 (block-within t brings y m.0.body body m.1))) law reach own c
    where
      a : ℕ
      a = words.lines.active.state

      D : Type 0
      D = C ⊎ S a

      y : Scope
      y = push_values h z

      m : Entered × Sketch
      m = enter_state words.lines spot i s

      d : Scope × Sketch
      d = drawn_block t brings y m.0.body body m.1

      weak : Jump × Sketch
      weak = drawn_weak t brings d.0 m.0.place words until d.1

      strong_of : Scope × Sketch → Jump × Sketch
      strong_of j = drawn_strong t brings j.0 spot words unless j.1

      left_of : Scope × Sketch → Rests × Sketch
      left_of j = let strong = strong_of j in leave_state words.lines i m.0.taken strong.0 weak.0 rests strong.1

      wires_of : Scope × Sketch → Said
      wires_of j = by_row (by_state (S a) (BlockWires S t brings y m.0.body body m.1) (JumpWires S t brings (pop_values j.0) spot words unless j.1)) (StatesWires S t brings j.0 spot words (i + 1) ss (left_of j).0 (left_of j).1)

      lies_of : Scope × Sketch → Place → Type 0
      lies_of j r =
          BlockPlaced (standing place r) t brings (held r) y m.0.body body (λ p. only (at (Head ∷ Body ∷ p))) m.1 × JumpPlaced (standing place r) t brings (held r) d.0 m.0.place words until (λ p. only (at (Head ∷ Until ∷ p))) d.1
          × JumpPlaced (standing place r) t brings (held r) (pop_values j.0) spot words unless (λ p. only (at (Head ∷ Unless ∷ p))) j.1 × StatesPlaced (standing place r) t brings (held r) j.0 spot words (i + 1) ss (λ p. only (at (Tail ∷ p))) (left_of j).0 (left_of j).1

      Law : Scope × Sketch → Type 0
      Law j =
          PlacesOf C at (wires_of j) → OwnOf C spot (lies_of j) at (in_each_state (more_states f body until unless q ss) active names inner (λ p. only (at p))) → Ended (drawn_states t brings j.0 spot words (i + 1) ss (left_of j).0 (left_of j).1).2
          → StatesDone C e target names inner active at words (more_states f body until unless q ss) rests s (drawn_states t brings j.0 spot words (i + 1) ss (left_of j).0 (left_of j).1).2 (wires_of j)

      top_own : Layer
      top_own = top_layer d.0

      j : Layer × Sketch
      j = join_names top_own m.0.taken h weak.1

      jz : Scope × Sketch
      jz = (push_values j.0 z, j.1)

      kb : PlaceSources
      kb p = only (at (Head ∷ Body ∷ p))

      ku : PlaceSources
      ku p = only (at (Head ∷ Unless ∷ p))

      -- weak conditions, which are not looked at
      weakly : Ended weak.1 → Ended d.1 × (Kept d.1 → Kept weak.1)
      weakly c1 =
          let u = jump-done S T n place t brings held b until ⊤ d.0 (names_in_block body inner kb) (λ p. at (Head ∷ Until ∷ p)) m.0.place words (stays words.lines) d.1 fit_until (λ x l. inl tt) (λ p l. inl tt)
          (inside S T n place t brings held b ⊤ m.0.place (λ r. JumpPlaced (standing place r) t brings (held r) d.0 m.0.place words until (λ p. only (at (Head ∷ Until ∷ p))) d.1) (λ p. at (Head ∷ Until ∷ p)) (at_conditions until (names_in_block body inner kb) (λ p. only (at (Head ∷ Until ∷ p)))) (place-outside words.lines spot i s)) c1 in
          (u.shut, u.slots)

      law : Law jz
      law reach own c =
          let strong = strong_of jz in
          let left = left_of jz in
          let r4 = leave_state-runs Runs (running S (Early S T n place)) words.lines i m.0.taken strong.0 weak.0 rests strong.1 in
          let r2 = joined_names-run Runs (running S (Early S T n place)) top_own m.0.taken h weak.1 in
          let r0 = enter_state-runs Runs (running S (Early S T n place)) words.lines spot i s in
          let outer : NamesOf C (pop_values jz.0) names = subst (λ o. NamesOf C o names) (sym (pop-is z j.0)) named in
          let at_block = λ (e1 : Ended j.1). first D y inner (λ p. at (Head ∷ Body ∷ p)) m.0.body m.1 seen (λ p k. regroup S T n place t brings held b C (S a) (BlockWires S t brings y m.0.body body m.1 p) (reach (Head ∷ Body ∷ p) k))
          (inside S T n place t brings held b D m.0.body (λ r. BlockPlaced (standing place r) t brings (held r) y m.0.body body kb m.1) (λ p. at (Head ∷ Body ∷ p)) (in_block body inner kb) (body-outside words.lines spot i s)) (weakly (r2.closed e1)).0 in
          let before : Ended j.1 → Ended s = λ e1. r0.closed (at_block e1).shut in
          let at_strong = λ (e1 : Ended strong.1). jump-done S T n place t brings held b unless C (pop_values jz.0) names (λ p. at (Head ∷ Unless ∷ p)) spot words words.lines.selected j.1 fit_unless outer (λ p. reach (Head ∷ Unless ∷ p)) (λ o. let x = own o in (λ r. (x.0 r).2, λ p. x.1 (Head ∷ Unless ∷ p), x.2)) e1 in
          let u5 = others C e z target j.0 names inner active (λ p. at (Tail ∷ p)) spot words (i + 1) left.0 left.1 named (joined-named S T n place t brings held b top_own m.0.taken h weak.1 D z inner seen) act (λ p. reach (Tail ∷ p)) (λ o. let x = own o in (λ r. (x.0 r).3, λ p. x.1 (Tail ∷ p), x.2))
          (λ e1. let e2 = (at_strong (r4.closed e1)).shut in joined-hides S T n place t brings held b top_own m.0.taken h weak.1 e target (hides (before e2)) e2) c in
          let u3 = at_strong (r4.closed u5.shut) in
          let w2 = weakly (r2.closed u3.shut) in
          let u1 = at_block u3.shut in
          let hidden = hides (before u3.shut) in
          let g = leave-gives words.lines i m.0.taken strong.0 weak.0 rests strong.1 u5.shut in
          record {
            shut = before u3.shut;
            slots = λ k. u5.slots (r4.slots (u3.slots (r2.slots (w2.1 (u1.slots (r0.slots k))))));
            given = λ x o l. elim l [
              | inl l ↦ of-block S T n place t brings held b D (S (target x)) (block_defines body x) (at (Head ∷ Body ∷ Named x ∷ []))
                  (λ f k. elim (regroup S T n place t brings held b C (S a) (BlockWires S t brings y m.0.body body m.1 (Named x ∷ [])) (reach (Head ∷ Body ∷ Named x ∷ []) k)) [ inl i ↦ inl i | inr v ↦ inr (joined-given S T n place t brings held b body y m.0.body m.1 m.0.taken h weak.1 e target hidden u3.shut x o f v) ]) l
              | inr l ↦ u5.given x o l
            ];
            chosen = λ x o f v. joined-chosen S T n place t brings held b top_own m.0.taken h weak.1 e target hidden u3.shut x o (state-gives words.lines spot i s u1.shut v);
            strong = λ l. elim l [ inl l ↦ on S T n place C strong.0.state rests.strong.state g.0 (u3.valued l) | inr l ↦ on S T n place C left.0.strong.state rests.strong.state g.1 (u5.strong l) ];
            placed = row-holds (leading T) C
                (at_state active (in_block body inner kb) (at_conditions until (names_in_block body inner kb) (λ p. only (at (Head ∷ Until ∷ p)))) (at_conditions unless names ku)) (in_each_state ss active names inner (λ p. only (at (Tail ∷ p))))
                (by_state (S a) (BlockWires S t brings y m.0.body body m.1) (JumpWires S t brings (pop_values jz.0) spot words unless j.1)) (StatesWires S t brings jz.0 spot words (i + 1) ss left.0 left.1)
                (state-holds (leading T) C active (in_block body inner kb) (at_conditions until (names_in_block body inner kb) (λ p. only (at (Head ∷ Until ∷ p)))) (at_conditions unless names ku) (S a) (BlockWires S t brings y m.0.body body m.1) (JumpWires S t brings (pop_values jz.0) spot words unless j.1) act u1.placed u3.placed) u5.placed;
          }

  pub automaton-done : (q : Span) (ss : States) → StatesLaw ss → EqnLaw S T n place t brings held b (automaton q ss)
  unfolding hide
  automaton-done q ss law C z ds names at spot s named owned h own c =
      let eqn = automaton q ss in
      let l = hidden_layer eqn z in
      let lines = new_lines (count_states ss) spot s in
      let next = states_begin lines.0 lines.1 in
      let words = words_of (numbers_of ss) lines.0 in
      let rests = rests_of lines.0.active next.0 in
      let r = drawn_states t brings (push_values l z) spot words 0 ss rests next.1 in
      let a = lines.0.active.state in
      let active = only (at (Active ∷ [])) in
      let k : PlaceSources = λ p. only (at (StatesOf ∷ p)) in
      let r2 = automaton_end-runs Runs (running S (Early S T n place)) lines.0 spot next.0 r.0 r.1 r.2 in
      let r1 = jump_hole-runs Runs (running S (Early S T n place)) lines.0.shape lines.1 in
      let r0 = lines-run Runs (running S (Early S T n place)) (count_states ss) spot s in
      let u = law C eqn z (λ x. (value_in z x).wire) l names (names_within eqn names) active (λ p. at (StatesOf ∷ p)) spot words 0 rests next.1 named (hidden-named S T n place t brings held b (C ⊎ S a) C eqn z names (λ i. inl i) named) (h (Active ∷ [])) (λ p. h (StatesOf ∷ p))
      (λ o. let x = own o in (x.0, λ p. x.1 (StatesOf ∷ p), x.2)) (λ e1. hidden-hides S T n place t brings held b eqn z owned) (r2.closed c) in
      record {
        shut = r0.closed (r1.closed u.shut);
        slots = λ k. r2.slots (u.slots (r1.slots (r0.slots k)));
        given = λ x m f. elim f [
          | inl f ↦ on S T n place C a (value_in z x).wire (u.chosen x m m) (h (Active ∷ []) f)
          | inr f ↦ back S T n place t brings held b C (S a) (S (value_in z x).wire) (u.chosen x m m) (u.given x m f)
        ];
        placed = words-hold (leading T) C (strong_ones ss k) (both (also active) (weak_ones ss k)) (in_each_state ss active names (names_within eqn names) k) (S a) (StatesWires S t brings (push_values l z) spot words 0 ss rests next.1) u.strong u.placed;
      }
