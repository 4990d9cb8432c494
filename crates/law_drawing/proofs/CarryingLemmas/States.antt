-- The states of an automaton: the body of each with its weak transitions, and then its strong ones.
use Rattle.std.proofs.Common.{◌≡◌, ℕ, suc, ◌+◌, nat_eq, Bool, true, false, ◌&&◌, ◌||◌, if◌then◌else◌, List, [], ◌∷◌, ◌++◌, length, map, sym, ap, subst, ◌∙◌, arith}
use Rattle.hp_base.specs.declared.span.Span.{Span}
use Rattle.hp_tree.specs.Blocks.{Block, Eqn, States, more_states}
use Rattle.hp_tree.specs.ExpressionTypes.{scope_of}
use Rattle.hp_tree.specs.Instant.{Fresh, Head, Tail, Until, Unless, Body, Instant, part, top, in_row, nothing, Place as TreePlace}
use Rattle.hp_tree.specs.Meaning as meaning
use Rattle.hp_tree.specs.Meaning.{Names, node_among, defines, some_defines, block_defines, inside as inside_names, within, clock_of, clock_in, from_block, state_of, state_word, number_of, first_true}
use Rattle.hp_tree.specs.Operators.{is_true}
use Rattle.hp_meaning.specs.Causal.Clocked.{StatesRight}
use Rattle.hp_meaning.specs.Causal.Sources.{below}
use Rattle.law_values.specs.Valued.Judged.{StatesSound}
use Rattle.hp_meaning.specs.Contract.Memory.{number_in, remembers_block, remembers_states, remembers_conditions}
use Rattle.hp_meaning.specs.Contract.Slots.{slots_of_block, slots_of_states, slots_of_conditions}
use Rattle.hp_circuit.specs.Meaning.{truth}
use Rattle.law_games.specs.Wires.Wired.{Held, held_at, Callees}
use Rattle.law_games.specs.Wires.WiredBlocks.{read_of, anew, strong_in, weak_of, wired_conditions, next_conditions, shown_conditions, weak_wires, wired_block, wired_states, shown_block, shown_states, next_block, next_states}
use Rattle.law_games.specs.Wires.WiredCallees.{callee_wires}
use Rattle.law_games.specs.Wiretyped.Typed.{StatesTyped}
use Rattle.law_games.specs.Wiretyped.Kept.{StatesKept, StatesGiven}
use Rattle.law_games.specs.Wiretyped.Callees.{CalleeTyped, CalleeKept, CalleeGiven}
use Rattle.law_games.proofs.WiretypedLemmas.Exprs.{CalleesTyped, LastsAre}
use Rattle.law_games.proofs.WiretypedLemmas.Scopes.{branch_outer}
use Rattle.law_games.proofs.WiretypedLemmas.Begins.{anew_kept, seen_in}
use Rattle.hp_drawing.specs.declared.parts.Place.{Place}
use Rattle.hp_drawing.specs.declared.parts.Rests.{Rests}
use Rattle.hp_drawing.specs.Kept.{is_mark}
use Rattle.hp_drawing.specs.Told.{or_none}
use Rattle.hp_drawing.specs.Scopes.{Scope, Layer, push_values, pop_values, value_in, join}
use Rattle.hp_drawing.specs.Sketch.{Sketch}
use Rattle.hp_drawing.specs.Places.{stays as stays_of}
use Rattle.hp_drawing.specs.declared.parts.Jump.{Jump}
use Rattle.hp_tree.specs.declared.block.Trans.{Trans}
use Rattle.hp_drawing.specs.DrawnBlocks.{Words, Rested, drawn_block, drawn_states, enter_state, leave_state, drawn_weak, drawn_strong}
use Rattle.law_drawing.specs.Carrying.Solving.{Has}
use Rattle.law_drawing.specs.Carrying.Calls.{supposes_on, owes_on}
use Rattle.law_drawing.specs.Carrying.Drawable.{StatesDrawable}
use Rattle.law_drawing.specs.Carrying.Laws.{Frame, FrameCalls, Sight, IsSight}
use Rattle.law_drawing.specs.Carrying.WholeBlocks.{IsPart}
use Rattle.law_drawing.proofs.CarryingLemmas.Slots.{held-first}
use Rattle.law_drawing.proofs.CarryingLemmas.Branches.{part-at, branch_stay, part-branch, part-anew}
use Rattle.law_drawing.proofs.CarryingLemmas.Joining.{ready-same, shaped-same, same-pushed, pushed-pop, hidden-more}
use Rattle.law_drawing.proofs.CarryingLemmas.CallLists.{calls_in_block, calls_in_states, calls_in_conditions}
use Rattle.law_drawing.proofs.CarryingLemmas.Registers.{place-more}
use Rattle.law_drawing.proofs.CarryingLemmas.Automata.{IsEntered, state-entered, state-left}
use Rattle.law_drawing.proofs.CarryingLemmas.Conditions.{Draws, Goes, jump-drawn}
use Rattle.law_drawing.proofs.CarryingLemmas.Controls.{state_number, name-known, branch-zero, states-zero, Hidden, InReady, InShaped, Zeros, block-left}
use Rattle.law_drawing.proofs.CarryingLemmas.Joining.{SameSeen}
use Rattle.law_drawing.proofs.CarryingLemmas.Blocks.{Ready, Holds, StatesDrew, StatesPart, BlockAt, StatesAt, place-ready, more-ready, more-has, then-drawn, end-drawn, behind-held, goes-on}
use Rattle.std.proofs.lemmas.List.{append_assoc}
use Rattle.law_drawing.proofs.CarryingLemmas.Insides.{inside_sight, hidden_sight, sight_with, numbered-in-block, tells-fresh}

-- where the body of a state is, with its names, and what stands behind it: its weak transitions, and the scope around it again
module _ (F : Frame) (V : Sight) (l : Layer) (words : Words) (place : Place) (i : ℕ) (b : Block) (until : List Trans) (d : Sketch) where
  abbrev pub body_of : Scope × Sketch
  body_of = drawn_block F.told F.brings (push_values l V.drawn_scope) (enter_state words.lines place i d).0.body b (enter_state words.lines place i d).1

  abbrev pub weak_of_state : Jump × Sketch
  weak_of_state = drawn_weak F.told F.brings body_of.0 (enter_state words.lines place i d).0.place words until body_of.1

  abbrev pub joined_of : Scope × Sketch
  joined_of = join (enter_state words.lines place i d).0.taken body_of.0 weak_of_state.1

module _ (F : Frame) (K : FrameCalls F) where
  abbrev circuits : Callees
  circuits = callee_wires F.types F.earlier

  -- its strong transitions, and the states behind it
  abbrev pub states_from : Scope → Place → Words → ℕ → States → List Trans → Rests → ℕ → Jump → Sketch → Rested
  states_from u place words i ss unless rests taken weak d =
      let st = drawn_strong F.told F.brings u place words unless d in
      let lf = leave_state words.lines i taken st.0 weak rests st.1 in
      drawn_states F.told F.brings u place words (i + 1) ss lf.0 lf.1

  abbrev pub BodyDrew : Sight → Eqn → Block → List Trans → States → meaning.Jump → States → ℕ → ℕ → Words → Held → Instant → (TreePlace → TreePlace) → Place → Layer → Sketch → List ℕ → Type 0
  BodyDrew V q b until all j ss i k words m now w place l d ns =
      (ns' : List ℕ) × Draws F K d ns (slots_of_block F.types F.outs F.callee b V.types (below Body (below Head w)) ++ slots_of_conditions F.types F.outs F.callee until (scope_of b V.types) (below Until (below Head w)))
      (calls_in_block b (below Body (below Head w)) ++ calls_in_conditions until (below Until (below Head w))) (joined_of F V l words place i b until d).1 ns'
      × (k' : Layer) × ((joined_of F V l words place i b until d).0 ≡ push_values k' V.drawn_scope) × Hidden F K V q ns' (λ x. state_number ss (suc k) j.state V.last (part Tail now) x) k' × SameSeen l k'
      × Has ns' (enter_state words.lines place i d).0.taken (truth (nat_eq k j.state))
      × Goes F K ns' (weak_of_state F V l words place i b until d).0 (first_true all until (map top (weak_wires F.types circuits b until j (within q V.names V.last) V.last (held_at Head m) (part Head now))) (record { state = j.state; restart = false }))

  pub state-body : (f : List ℕ) (b : Block) (until unless : List Trans) (at : Span) (ss : States) → BlockAt F K b → CalleesTyped F.types circuits (node_among F.earlier) (CalleeTyped F.types F.earlier) (CalleeKept F.types F.earlier) (CalleeGiven F.types F.earlier)
      → (all : States) (q : Eqn) (V : Sight) (j : meaning.Jump) (i k : ℕ) (words : Words) (m : Held) (now stay : Instant) (w : TreePlace → TreePlace) (place : Place) (here cut kept : Bool) (l : Layer) (d : Sketch) (ns : List ℕ) → i ≡ k → is_mark words.lines.shape ≡ false
      → ((x : List ℕ) → or_none (words.numbers x) ≡ number_of 0 all x) → IsSight F V → LastsAre F.types V.scope V.has_last V.last
      → StatesRight V.standing (more_states f b until unless at ss) → StatesSound F.types (node_among F.earlier) q V.scope V.has_last (more_states f b until unless at ss) → StatesKept F.types (CalleeKept F.types F.earlier) V.scope (more_states f b until unless at ss) m.start m.memory
      → StatesGiven F.types (CalleeGiven F.types F.earlier) V.scope (more_states f b until unless at ss) m.free → StatesTyped F.types (CalleeTyped F.types F.earlier) V.scope (more_states f b until unless at ss) now
      → StatesDrawable V.scope (more_states f b until unless at ss) → StatesPart F K V q (more_states f b until unless at ss) k j j.state m now stay w here cut kept → Ready F K V place here cut kept d ns → InReady F K V q l place here cut kept d ns → InShaped F K V l
      → Hidden F K V q ns (λ x. state_number (more_states f b until unless at ss) k j.state V.last now x) l → Goes F K ns words.lines.active j → Holds F K (slots_of_states F.types F.outs F.callee (more_states f b until unless at ss) V.types w) d
      → BodyDrew V q b until all j ss i k words m now w place l d ns
  state-body f b until unless at ss ihb T all q V j i k words m now stay w place here cut kept l d ns ik shp num S lk r ok kk g y dr p rd ri sh hd ga h =
      let sup = supposes_on F.showing F.wires in
      let owe = owes_on F.showing F.wires in
      let these = more_states f b until unless at ss in
      let z = V.drawn_scope in
      let lines = words.lines in
      let taken = nat_eq k j.state in
      let names = within q V.names V.last in
      let Vh = hidden_sight V q l in
      let mH = held_at Head m in
      let nH = part Head now in
      let sH = part Head stay in
      let wH = below Head w in
      let mB = held_at Body mH in
      let nB = part Body nH in
      let sB = part Body sH in
      let mA = anew F.types circuits b j.restart mB in
      let ss1 = slots_of_block F.types F.outs F.callee b V.types (below Body wH) in
      let ss2 = slots_of_conditions F.types F.outs F.callee until (scope_of b V.types) (below Until wH) in
      let ss3 = slots_of_conditions F.types F.outs F.callee unless V.types (below Unless wH) in
      let ss4 = slots_of_states F.types F.outs F.callee ss V.types (below Tail w) in
      let cs1 = calls_in_block b (below Body wH) in
      let cs2 = calls_in_conditions until (below Until wH) in
      let cs3 = calls_in_conditions unless (below Unless wH) in
      let cs4 = calls_in_states ss (below Tail w) in
      let bg = remembers_states F.types circuits.remembers these m.start [] in
      let an = next_states F.types circuits these k j.state V.names names V.last m now in
      let sn = shown_states F.types circuits these k j.state V.names names V.last m now in
      let so = wired_states F.types circuits these j V.names names V.last m now in
      let pH = part-at F Head m now stay w here cut kept bg an sn so p in
      let r1 = enter_state lines place i d in
      let e1 = subst (λ a. IsEntered F.slot F.next sup owe d ns here cut kept (nat_eq a j.state) j.restart r1) ik (state-entered F.slot F.next sup owe lines place i here cut kept j d ns rd.solved rd.place_is ga) in
      let fe : is_true (now (Head ∷ Body ∷ Fresh ∷ [])) ≡ j.restart = ap is_true (ap (λ o. o (Head ∷ Body ∷ Fresh ∷ [])) p.solves ∙ tells-fresh F.types circuits b j.restart names V.last mA nB) in
      let bgB = remembers_block F.types circuits.remembers b mB.start [] in
      let soB = wired_block F.types circuits b j.restart names V.last mA nB in
      let pB1 = subst (λ a. IsPart F mB nB sB (below Body wH) here cut kept bgB (if taken then next_block F.types circuits b names V.last (anew F.types circuits b a mB) nB else mB.memory) (if taken then shown_block F.types circuits b names V.last (anew F.types circuits b a mB) nB else nothing) soB) fe
      (part-at F Body mH nH sH wH here cut kept (part Head bg) (part Head an) (part Head sn) (part Head so) pH) in
      let pB2 = part-branch F mB nB sB (below Body wH) here cut kept bgB taken (next_block F.types circuits b names V.last mA nB) (shown_block F.types circuits b names V.last mA nB) soB pB1 in
      let pB3 = part-anew F mB nB (branch_stay here mB.memory sB) (below Body wH) (here && taken) cut kept bgB j.restart (next_block F.types circuits b names V.last mA nB) (shown_block F.types circuits b names V.last mA nB) soB pB2 in
      let kA = anew_kept F.types circuits (node_among F.earlier) (CalleeTyped F.types F.earlier) (CalleeKept F.types F.earlier) (CalleeGiven F.types F.earlier) T b j.restart V.scope V.has_last mB ok.1.0 kk.0 in
      let outer = branch_outer F.types (node_among F.earlier) q b V.standing V.scope V.has_last V.names V.last ok.0 S.named lk in
      let ri1 = more-ready F K Vh place here cut kept d ns [] [] r1.1 e1.numbers e1.drawn_is ri in
      let cut' = cut || j.restart in
      let kept' = (if here && taken then cut || j.restart else kept) in
      let bd = ihb j.restart Vh mA nB (branch_stay (here && taken) mA.memory (branch_stay here mB.memory sB)) (below Body wH) r1.0.body (here && taken) cut' kept' r1.1 e1.numbers S.numbered sh outer lk r.0 ok.1.0 kA g.0 y.0 dr.0 pB3
      (place-ready F K Vh place r1.0.body here cut kept (here && taken) cut' kept' r1.1 e1.numbers ri1 e1.body_is e1.body_base) (behind-held F K d ns [] [] r1.1 e1.numbers ss1 e1.drawn_is (held-first F.slot F.raw F.given ss1 (ss2 ++ (ss3 ++ ss4)) (length d.slots) h)) in
      let s1 = drawn_block F.told F.brings (push_values l z) r1.0.body b r1.1 in
      let d1 = then-drawn F K d ns [] [] r1.1 e1.numbers ss1 cs1 s1.1 bd.0 e1.drawn_is bd.1 in
      let m1 = more-has F K d ns ss1 cs1 s1.1 bd.0 d1 in
      let h1 = behind-held F K d ns ss1 cs1 s1.1 bd.0 (ss2 ++ (ss3 ++ ss4)) d1 h in
      let Vi = inside_sight Vh b mA nB s1.0 in
      let Si : IsSight F Vi = record { numbered = numbered-in-block F.types F.told V.scope b S.numbered; named = seen_in F.types (node_among F.earlier) (CalleeTyped F.types F.earlier) b V.standing V.scope V.has_last names nB ok.1.0 outer y.0; shaped = bd.3 } in
      let pU = part-branch F (held_at Until mH) (part Until nH) (part Until sH) (below Until wH) here cut kept (in_row (remembers_conditions F.types circuits.remembers until (part Until mH.start) [])) taken
      (in_row (next_conditions F.types circuits until (read_of b names nB) (held_at Until mH) (part Until nH))) (in_row (shown_conditions F.types circuits until (read_of b names nB) (held_at Until mH) (part Until nH)))
      (in_row (weak_wires F.types circuits b until j names V.last mH nH)) (part-at F Until mH nH sH wH here cut kept (part Head bg) (part Head an) (part Head sn) (part Head so) pH) in
      let none : meaning.Jump = record { state = j.state; restart = false } in
      let place1 = more-has F K r1.1 e1.numbers ss1 cs1 s1.1 bd.0 bd.1 in
      let ga1 = goes-on F K ns bd.0 lines.active j m1 ga in
      let jw = jump-drawn F K Vi Si r1.0.place (here && taken) cut kept all words shp num until (stays_of lines) none (held_at Until mH) (part Until nH) (branch_stay here (part Until mH.memory) (part Until sH)) (below Until wH) s1.1 bd.0 r.1 ok.1.1.0 kk.1.0 g.1.0 y.1.0 pU
      (place-ready F K Vi r1.0.body r1.0.place (here && taken) cut' kept' (here && taken) cut kept s1.1 bd.0 bd.2 (place-more F.slot F.next sup owe e1.numbers bd.0 r1.0.place (here && taken) cut kept place1 e1.place_is) e1.place_base)
      (ga1.0, bd.1.solved.low_is) (held-first F.slot F.raw F.given ss2 (ss3 ++ ss4) (length s1.1.slots) h1) in
      let wj = drawn_weak F.told F.brings s1.0 r1.0.place words until s1.1 in
      let m2 = more-has F K s1.1 bd.0 ss2 cs2 wj.1 jw.0 jw.1 in
      let H : List ℕ → ℕ = λ x. state_number ss (suc k) j.state V.last (part Tail now) x in
      let zeros : Zeros F K V q (λ x. number_in (from_block b V.last nB x)) H = λ x s i f mk.
      let u = name-known F K V q b x ok.0 ok.1.0 lk i in
      let int : _ ≡ true = sym (f u.0 u.1) ∙ mk in
      (branch-zero F K V q b nB x u.0 ok.0 y.0 lk i u.1 int, states-zero F K V q ss (suc k) j.state (part Tail now) x u.0 ok.1.1.1.1 y.1.1.1 lk i u.1 int)
      in
      let bl = block-left F K V q b nB r1.0.body r1.0.taken taken H l r1.1 wj.1 jw.0 jw.1.solved (m2 r1.0.taken (truth taken) (place1 r1.0.taken (truth taken) e1.taken_is)) (λ x. m2 (value_in s1.0 x).wire (number_in (read_of b names nB x)) (bd.2.values x))
      (hidden-more q V.scope V.last ns jw.0 (λ x. state_number these k j.state V.last now x) l (λ u n e. m2 u n (m1 u n e)) hd) zeros in
      let jo = join r1.0.taken s1.0 wj.1 in
      let d2 = end-drawn F K s1.1 bd.0 ss2 cs2 wj.1 jw.0 jo.1 bl.0 jw.1 bl.1 in
      let d12 = then-drawn F K d ns ss1 cs1 s1.1 bd.0 ss2 cs2 jo.1 bl.0 d1 d2 in
      let m3 = more-has F K wj.1 jw.0 [] [] jo.1 bl.0 bl.1 in
      let weak_own = first_true all until (map top (weak_wires F.types circuits b until j names V.last mH nH)) none in
      (bl.0, d12, bl.2, bl.3, bl.4, bl.5, m3 r1.0.taken (truth taken) (m2 r1.0.taken (truth taken) (place1 r1.0.taken (truth taken) e1.taken_is)), goes-on F K jw.0 bl.0 wj.0 weak_own m3 jw.2)

  pub state-rest : (f : List ℕ) (b : Block) (until unless : List Trans) (at : Span) (ss : States) → StatesAt F K ss → (sel : meaning.Jump) (rests : Rests) → (all : States) (q : Eqn) (V : Sight) (j : meaning.Jump) (i k : ℕ) (words : Words) (m : Held) (now stay : Instant) (w : TreePlace → TreePlace) (place : Place) (here cut kept : Bool) (l : Layer) (d : Sketch) (ns : List ℕ) → i ≡ k → is_mark words.lines.shape ≡ false
      → ((x : List ℕ) → or_none (words.numbers x) ≡ number_of 0 all x) → IsSight F V → LastsAre F.types V.scope V.has_last V.last
      → StatesRight V.standing (more_states f b until unless at ss) → StatesSound F.types (node_among F.earlier) q V.scope V.has_last (more_states f b until unless at ss) → StatesKept F.types (CalleeKept F.types F.earlier) V.scope (more_states f b until unless at ss) m.start m.memory
      → StatesGiven F.types (CalleeGiven F.types F.earlier) V.scope (more_states f b until unless at ss) m.free → StatesTyped F.types (CalleeTyped F.types F.earlier) V.scope (more_states f b until unless at ss) now
      → StatesDrawable V.scope (more_states f b until unless at ss) → StatesPart F K V q (more_states f b until unless at ss) k j j.state m now stay w here cut kept → Ready F K V place here cut kept d ns → InReady F K V q l place here cut kept d ns → InShaped F K V l
      → Hidden F K V q ns (λ x. state_number (more_states f b until unless at ss) k j.state V.last now x) l → Goes F K ns words.lines.active j → Holds F K (slots_of_states F.types F.outs F.callee (more_states f b until unless at ss) V.types w) d
      → Goes F K ns words.lines.selected sel → Goes F K ns rests.strong (strong_in F.types circuits all (more_states f b until unless at ss) k sel V.names V.last m now)
      → Goes F K ns rests.weak (weak_of F.types circuits all (more_states f b until unless at ss) k j (within q V.names V.last) V.last m now)
      → (bl : BodyDrew V q b until all j ss i k words m now w place l d ns)
      → StatesDrew F K V q (more_states f b until unless at ss) sel w d ns (states_from (push_values bl.2 V.drawn_scope) place words i ss unless rests (enter_state words.lines place i d).0.taken (weak_of_state F V l words place i b until d).0 (joined_of F V l words place i b until d).1)
  state-rest f b until unless at ss ih sel rests all q V j i k words m now stay w place here cut kept l d ns ik shp num S lk r ok kk g y dr p rd ri sh hd ga h gs gr gw bl =
      let sup = supposes_on F.showing F.wires in
      let owe = owes_on F.showing F.wires in
      let these = more_states f b until unless at ss in
      let z = V.drawn_scope in
      let lines = words.lines in
      let taken = nat_eq k j.state in
      let names = within q V.names V.last in
      let Vh = hidden_sight V q l in
      let mH = held_at Head m in
      let nH = part Head now in
      let sH = part Head stay in
      let wH = below Head w in
      let ss1 = slots_of_block F.types F.outs F.callee b V.types (below Body wH) in
      let ss2 = slots_of_conditions F.types F.outs F.callee until (scope_of b V.types) (below Until wH) in
      let ss3 = slots_of_conditions F.types F.outs F.callee unless V.types (below Unless wH) in
      let ss4 = slots_of_states F.types F.outs F.callee ss V.types (below Tail w) in
      let cs1 = calls_in_block b (below Body wH) in
      let cs2 = calls_in_conditions until (below Until wH) in
      let cs3 = calls_in_conditions unless (below Unless wH) in
      let cs4 = calls_in_states ss (below Tail w) in
      let bg = remembers_states F.types circuits.remembers these m.start [] in
      let an = next_states F.types circuits these k j.state V.names names V.last m now in
      let sn = shown_states F.types circuits these k j.state V.names names V.last m now in
      let so = wired_states F.types circuits these j V.names names V.last m now in
      let pH = part-at F Head m now stay w here cut kept bg an sn so p in
      let r1 = enter_state lines place i d in
      let none : meaning.Jump = record { state = j.state; restart = false } in
      let jo = joined_of F V l words place i b until d in
      let wj = weak_of_state F V l words place i b until d in
      let d12 = bl.1 in
      let h2 = behind-held F K d ns (ss1 ++ ss2) (cs1 ++ cs2) jo.1 bl.0 (ss3 ++ ss4) d12 (subst (λ a. Holds F K a d) (sym (append_assoc ss1 ss2 (ss3 ++ ss4))) h) in
      let m12 = more-has F K d ns (ss1 ++ ss2) (cs1 ++ cs2) jo.1 bl.0 d12 in
      let k' = bl.2 in
      let u = push_values k' z in
      let Vs = sight_with V (pop_values u) in
      let Ss : IsSight F Vs = record { numbered = S.numbered; named = S.named; shaped = shaped-same V.scope V.has_last V.types z (pop_values u) (pushed-pop k' z) S.shaped } in
      let rd2 = more-ready F K V place here cut kept d ns (ss1 ++ ss2) (cs1 ++ cs2) jo.1 bl.0 d12 rd in
      let pL = part-at F Unless mH nH sH wH here cut kept (part Head bg) (part Head an) (part Head sn) (part Head so) pH in
      let gs2 = goes-on F K ns bl.0 lines.selected sel m12 gs in
      let js = jump-drawn F K Vs Ss place here cut kept all words shp num unless lines.selected sel (held_at Unless mH) (part Unless nH) (part Unless sH) (below Unless wH) jo.1 bl.0 r.2 ok.1.1.1.0 kk.1.1.0 g.1.1.0 y.1.1.0 pL
      (ready-same F.slot F.types V.names V.last z (pop_values u) place [] here cut kept jo.1 bl.0 (pushed-pop k' z) rd2) gs2 (held-first F.slot F.raw F.given ss3 ss4 (length jo.1.slots) h2) in
      let st = drawn_strong F.told F.brings u place words unless jo.1 in
      let m4 = more-has F K jo.1 bl.0 ss3 cs3 st.1 js.0 js.1 in
      let m14 : (w n : ℕ) → Has ns w n → Has js.0 w n = λ w n e. m4 w n (m12 w n e) in
      let strong_rest = strong_in F.types circuits all ss (suc k) sel V.names V.last (held_at Tail m) (part Tail now) in
      let weak_rest = weak_of F.types circuits all ss (suc k) j names V.last (held_at Tail m) (part Tail now) in
      let strong_own = first_true all unless (map top (wired_conditions F.types circuits unless V.names V.last (held_at Unless mH) (part Unless nH))) sel in
      let weak_own = first_true all until (map top (weak_wires F.types circuits b until j names V.last mH nH)) none in
      let gr1 : Goes F K js.0 rests.strong (if nat_eq i sel.state then strong_own else strong_rest) = subst (λ a. Goes F K js.0 rests.strong (if nat_eq a sel.state then strong_own else strong_rest)) (sym ik) (goes-on F K ns js.0 rests.strong (strong_in F.types circuits all these k sel V.names V.last m now) m14 gr) in
      let sl = state-left F.slot F.next sup owe lines shp i r1.0.taken st.0 wj.0 rests taken sel strong_own strong_rest weak_own weak_rest st.1 js.0 js.1.solved (goes-on F K bl.0 js.0 lines.selected sel m4 gs2)
      (m4 r1.0.taken (truth taken) bl.6) js.2 (goes-on F K bl.0 js.0 wj.0 weak_own m4 bl.7) gr1
      (goes-on F K ns js.0 rests.weak (weak_of F.types circuits all these k j names V.last m now) m14 gw) in
      let lf = leave_state lines i r1.0.taken st.0 wj.0 rests st.1 in
      let d3 = end-drawn F K jo.1 bl.0 ss3 cs3 st.1 js.0 lf.1 sl.0 js.1 sl.1 in
      let m5 = more-has F K jo.1 bl.0 ss3 cs3 lf.1 sl.0 d3 in
      let m15 : (w n : ℕ) → Has ns w n → Has sl.0 w n = λ w n e. m5 w n (m12 w n e) in
      let d123 = then-drawn F K d ns (ss1 ++ ss2) (cs1 ++ cs2) jo.1 bl.0 ss3 cs3 lf.1 sl.0 d12 d3 in
      let same = same-pushed l k' z bl.5 in
      let ri3 = ready-same F.slot F.types Vh.names Vh.last (push_values l z) u place [] here cut kept lf.1 sl.0 same (more-ready F K Vh place here cut kept d ns ((ss1 ++ ss2) ++ ss3) ((cs1 ++ cs2) ++ cs3) lf.1 sl.0 d123 ri) in
      let rest = ih all q V j sel (i + 1) (suc k) words (held_at Tail m) (part Tail now) (part Tail stay) (below Tail w) place here cut kept lf.0 k' lf.1 sl.0 (let e : i + 1 ≡ suc i = omega arith in e ∙ ap suc ik) shp num S lk r.3 ok.1.1.1.1 kk.1.1.1 g.1.1.1 y.1.1.1 dr.1
      (part-at F Tail m now stay w here cut kept bg an sn so p) (more-ready F K V place here cut kept d ns ((ss1 ++ ss2) ++ ss3) ((cs1 ++ cs2) ++ cs3) lf.1 sl.0 d123 rd) ri3 (shaped-same V.scope V.has_last V.types (push_values l z) u same sh) (hidden-more q V.scope V.last bl.0 sl.0 (λ x. state_number ss (suc k) j.state V.last (part Tail now) x) k' m5 bl.4)
      (goes-on F K ns sl.0 lines.selected sel m15 gs) (goes-on F K ns sl.0 lines.active j m15 ga) sl.2 sl.3 (behind-held F K jo.1 bl.0 ss3 cs3 lf.1 sl.0 ss4 d3 h2) in
      let fin = drawn_states F.told F.brings u place words (i + 1) ss lf.0 lf.1 in
      let d34 = then-drawn F K jo.1 bl.0 ss3 cs3 lf.1 sl.0 ss4 cs4 fin.2 rest.0 d3 rest.1 in
      let d1234 = then-drawn F K d ns (ss1 ++ ss2) (cs1 ++ cs2) jo.1 bl.0 (ss3 ++ ss4) (cs3 ++ cs4) fin.2 rest.0 d12 d34 in
      let e1 = subst (λ a. Draws F K d ns a ((cs1 ++ cs2) ++ (cs3 ++ cs4)) fin.2 rest.0) (append_assoc ss1 ss2 (ss3 ++ ss4)) d1234 in
      let e2 = subst (λ a. Draws F K d ns (ss1 ++ (ss2 ++ (ss3 ++ ss4))) a fin.2 rest.0) (append_assoc cs1 cs2 (cs3 ++ cs4)) e1 in
      (rest.0, e2, rest.2, rest.3, rest.4, rest.5, rest.6)

  pub state-step : (f : List ℕ) (b : Block) (until unless : List Trans) (at : Span) (ss : States) → CalleesTyped F.types circuits (node_among F.earlier) (CalleeTyped F.types F.earlier) (CalleeKept F.types F.earlier) (CalleeGiven F.types F.earlier)
      → BlockAt F K b → StatesAt F K ss → StatesAt F K (more_states f b until unless at ss)
  state-step f b until unless at ss T ihb ih all q V j sel i k words m now stay w place here cut kept rests l d ns ik shp num S lk r ok kk g y dr p rd ri sh hd gs ga gr gw h =
      let bl = state-body f b until unless at ss ihb T all q V j i k words m now stay w place here cut kept l d ns ik shp num S lk r ok kk g y dr p rd ri sh hd ga h in
      let whole = state-rest f b until unless at ss ih sel rests all q V j i k words m now stay w place here cut kept l d ns ik shp num S lk r ok kk g y dr p rd ri sh hd ga h gs gr gw bl in
      subst (λ u. StatesDrew F K V q (more_states f b until unless at ss) sel w d ns (states_from u place words i ss unless rests (enter_state words.lines place i d).0.taken (weak_of_state F V l words place i b until d).0 (joined_of F V l words place i b until d).1)) (sym bl.3) whole
