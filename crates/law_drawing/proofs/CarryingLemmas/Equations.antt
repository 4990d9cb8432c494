-- Equations that reset a block, and automata.
use Rattle.std.proofs.Common.{◌≡◌, ℕ, suc, true, ◌||◌, if◌then◌else◌, List, [], ◌∷◌, ◌++◌, length, refl, sym, ap, subst, ◌∙◌, inl, arith}
use Rattle.hp_base.specs.declared.value.Value.{Value}
use Rattle.hp_base.specs.declared.value.Value.TheVariants.{Absent, B}
use Rattle.hp_base.specs.declared.span.Span.{Span}
use Rattle.hp_tree.specs.Expressions.{Expr}
use Rattle.hp_tree.specs.Blocks.{Block, reset, automaton, States}
use Rattle.hp_tree.specs.Instant.{Named, Test, States as StatesOf, Body, Active, Next, Pending, part, top}
use Rattle.hp_tree.specs.Meaning.{node_among, defines, within, from_block, state_of, state_word}
use Rattle.hp_tree.specs.Operators.{is_true}
use Rattle.hp_meaning.specs.Causal.Points.{calls}
use Rattle.hp_meaning.specs.Causal.Sources.{below}
use Rattle.law_values.specs.Valued.Judged.{Completes}
use Rattle.hp_meaning.specs.Contract.Memory.{number_in, remembers_block, remembers_equation}
use Rattle.hp_meaning.specs.Contract.Slots as slots
use Rattle.hp_meaning.specs.Contract.Slots.{slots_of_block, slots_of_equations, slots_of_equation, slots_of_arms, slots_of_states, slots_of_conditions}
use Rattle.hp_circuit.specs.Meaning.{truth}
use Rattle.law_games.specs.Wires.Wired.{held_at, Callees}
use Rattle.law_games.specs.Wires.WiredBlocks.{selected_in, anew, strong_in, weak_of, wired_block, wired_equation, shown_block, shown_equation, shown_states, next_block, next_equation, next_states}
use Rattle.law_games.specs.Wires.WiredCallees.{callee_wires}
use Rattle.law_games.specs.Wiretyped.Callees.{CalleeTyped, CalleeKept, CalleeGiven}
use Rattle.law_games.proofs.WiretypedLemmas.Exprs.{CalleesTyped}
use Rattle.law_games.proofs.WiretypedLemmas.Scopes.{reset_outer}
use Rattle.law_games.proofs.WiretypedLemmas.Begins.{anew_kept}
use Rattle.hp_drawing.specs.declared.parts.Place.{Place}
use Rattle.hp_drawing.specs.Scopes.{Scope, push_values, join, end_hidden}
use Rattle.hp_drawing.specs.Sketch.{Sketch, high, define as define_wire}
use Rattle.hp_drawing.specs.DrawnExpressions.{drawn}
use Rattle.hp_drawing.specs.DrawnBlocks.{drawn_block, drawn_states, leave_hidden, reset_begin, reset_end, join_drawn}
use Rattle.law_drawing.specs.Carrying.Solving.{Has}
use Rattle.law_drawing.specs.Carrying.Drawing.{AreHeld}
use Rattle.law_drawing.specs.Carrying.Calls.{supposes_on, owes_on}
use Rattle.law_drawing.specs.Carrying.Laws.{Frame, FrameCalls, Sight, slots_of}
use Rattle.law_drawing.specs.Carrying.WholeBlocks.{IsPart}
use Rattle.law_drawing.proofs.CarryingLemmas.Slots.{held-first}
use Rattle.law_drawing.proofs.CarryingLemmas.Steps.{define-drawn}
use Rattle.law_drawing.proofs.CarryingLemmas.Branches.{part-at, branch_stay, part-anew}
use Rattle.law_drawing.proofs.CarryingLemmas.Joining.{hidden-more, hidden-as, hide-pushed}
use Rattle.law_drawing.proofs.CarryingLemmas.CallLists.{calls_in_block, calls_in_states}
use Rattle.law_drawing.proofs.CarryingLemmas.Automata.{numbers-are, lines-shape, lines-opened, lines-closed}
use Rattle.law_drawing.proofs.CarryingLemmas.Registers.{open-length, still}
use Rattle.law_drawing.proofs.CarryingLemmas.Parts.{pending-ready}
use Rattle.law_drawing.proofs.CarryingLemmas.Stored.{read-number}
use Rattle.law_drawing.proofs.CarryingLemmas.Values.{bool-number}
use Rattle.hp_drawing.specs.Planned.{count_states}
use Rattle.hp_drawing.specs.Places.{new_lines, jump_hole, numbers_of, lines_take, lines_end}
use Rattle.hp_drawing.specs.DrawnBlocks.{words_of, rests_of, automaton_end}
use Rattle.law_games.specs.Wiretyped.Typed.{IsFlag, IsStateOf}
use Rattle.hp_meaning.specs.Contract.Slots.{register}
use Rattle.law_drawing.proofs.CarryingLemmas.Conditions.{Goes, test-drawn}
use Rattle.law_drawing.proofs.CarryingLemmas.Controls.{state_number, state-is, name-known, branch-zero, hidden_layer, hidden-begins, Zeros, block-left, hidden-ended, reset-begun}
use Rattle.law_drawing.proofs.CarryingLemmas.Blocks.{Drew, BlockAt, StatesAt, EqnAt, place-ready, more-ready, more-has, then-drawn, end-drawn, behind-held, goes-on}
use Rattle.law_drawing.proofs.CarryingLemmas.Insides.{hidden_sight}

-- the number of a truth value, and that of a state
flag-number : (v : Value) → IsFlag v → number_in v ≡ truth (is_true v)
flag-number v f = ap number_in f.1 ∙ bool-number f.0 ∙ sym (ap (λ u. truth (is_true u)) f.1)

state-number : (ss : States) (v : Value) → IsStateOf ss v → number_in v ≡ state_of v
state-number ss v h = ap number_in h.1.0 ∙ sym (ap state_of h.1.0)

module _ (F : Frame) (K : FrameCalls F) (T : CalleesTyped F.types (callee_wires F.types F.earlier) (node_among F.earlier) (CalleeTyped F.types F.earlier) (CalleeKept F.types F.earlier) (CalleeGiven F.types F.earlier)) where
  abbrev circuits : Callees
  circuits = callee_wires F.types F.earlier

  abbrev reset_from : Scope → Place → Block → Expr → Sketch → Sight → Sketch
  reset_from u place b e d V =
      let c = reset_begin u place d in
      let body = drawn_block F.told F.brings u c.1 b c.2 in
      reset_end c.0 (drawn F.told F.brings V.drawn_scope place e (leave_hidden (join_drawn high body)))

  pub reset-step : (at : Span) (b : Block) (e : Expr) → BlockAt F K b → EqnAt F K (reset at b e)
  reset-step at b e ihb ds V m now stay w place here cut kept d ns S lk r ok k g y dr pa ho kn gives p rd h =
      let q = reset at b e in
      let z = V.drawn_scope in
      let names = within q V.names V.last in
      let L = hidden_layer F K V q in
      let bg = remembers_equation F.types circuits.remembers q m.start [] in
      let an = next_equation F.types circuits ds q V.names V.last m now in
      let sn = shown_equation F.types circuits ds q V.names V.last m now in
      let so = wired_equation F.types circuits q V.names V.last m now in
      let ss = slots_of_block F.types F.outs F.callee b V.types (below Body w) in
      let ts = slots_of F V e (below Test w) in
      let cs = calls_in_block b (below Body w) in
      let es = calls e (below Test w) in
      let mB = held_at Body m in
      let nB = part Body now in
      let sB = part Body stay in
      let fresh = is_true (now (Test ∷ [])) in
      let mA = anew F.types circuits b fresh mB in
      let pt = part-at F Test m now stay w here cut kept bg an sn so p in
      let hb = hidden-begins F K V q place here cut kept d ns S ho kn rd in
      let r1 = reset_begin (push_values L z) place d in
      let e1 = reset-begun F K V L place here cut kept fresh d ns rd.solved rd.place_is in
      let bgB = remembers_block F.types circuits.remembers b mB.start [] in
      let anB = next_block F.types circuits b names V.last mA nB in
      let snB = shown_block F.types circuits b names V.last mA nB in
      let pB1 = subst (λ f. IsPart F mB nB sB (below Body w) here cut kept bgB anB snB (wired_block F.types circuits b f names V.last (anew F.types circuits b f mB) nB)) (ap is_true (sym (ap top pt.solves))) (part-at F Body m now stay w here cut kept bg an sn so p) in
      let pB2 = part-anew F mB nB sB (below Body w) here cut kept bgB fresh anB snB (wired_block F.types circuits b fresh names V.last mA nB) pB1 in
      let kA = anew_kept F.types circuits (node_among F.earlier) (CalleeTyped F.types F.earlier) (CalleeKept F.types F.earlier) (CalleeGiven F.types F.earlier) T b fresh V.scope V.has_last mB ok.1 k.1 in
      let Vh = hidden_sight V q L in
      let cut' = cut || fresh in
      let kept' = (if here then cut || fresh else kept) in
      let bd = ihb fresh Vh mA nB (branch_stay here mA.memory sB) (below Body w) r1.1 here cut' kept' r1.2 e1.numbers S.numbered hb.1 (reset_outer F.types (node_among F.earlier) at b e V.standing V.scope V.names V.last S.named) lk r.2 ok.1 kA g.1 y.1 dr pB2
      (place-ready F K Vh place r1.1 here cut kept here cut' kept' r1.2 e1.numbers (more-ready F K Vh place here cut kept d ns [] [] r1.2 e1.numbers e1.drawn_is hb.0) e1.place_is e1.place_base)
      (behind-held F K d ns [] [] r1.2 e1.numbers ss e1.drawn_is (held-first F.slot F.raw F.given ss ts (length d.slots) h)) in
      let s1 = drawn_block F.told F.brings (push_values L z) r1.1 b r1.2 in
      let d1 = then-drawn F K d ns [] [] r1.2 e1.numbers ss cs s1.1 bd.0 e1.drawn_is bd.1 in
      let full : Completes F.types (node_among F.earlier) q V.has_last b = λ x i. inl i in
      let zeros : Zeros F K V q (λ x. number_in (from_block b V.last nB x)) (λ x. 0) = λ x s i f mk.
      let u = name-known F K V q b x full ok.1 lk i in
      let int : _ ≡ true = sym (f u.0 u.1) ∙ mk in
      (branch-zero F K V q b nB x u.0 full y.1 lk i u.1 int, refl)
      in
      let same : (x : List ℕ) → defines q x ≡ true → number_in (V.names x) ≡ number_in (from_block b V.last nB x) = λ x i. ap number_in (gives x i ∙ sym (ap (λ c. if c then nB (Named x ∷ []) else V.last x) i)) in
      let hd = hidden-as q V.scope V.last ns (λ x. number_in (V.names x)) (λ x. if true then number_in (from_block b V.last nB x) else 0) L same hb.2 in
      let bl = block-left F K V q b nB r1.1 high true (λ x. 0) L r1.2 s1.1 bd.0 bd.1.solved bd.1.solved.high_is bd.2.values (hidden-more q V.scope V.last ns bd.0 (λ x. if true then number_in (from_block b V.last nB x) else 0) L (more-has F K d ns ss cs s1.1 bd.0 d1) hd) zeros in
      let jo = join high s1.0 s1.1 in
      let en = hidden-ended F K V q bl.2 jo bl.0 bl.1.solved bl.3 bl.4 in
      let lv = end_hidden jo.0 jo.1 in
      let d2 = end-drawn F K d ns ss cs jo.1 bl.0 lv bl.0 (end-drawn F K d ns ss cs s1.1 bd.0 jo.1 bl.0 d1 bl.1) en in
      let te = test-drawn F K V S place here cut kept e (held_at Test m) (part Test now) (part Test stay) (below Test w) lv bl.0 r.1 ok.0.0 ok.0.1 k.0 g.0 y.0 pt (more-ready F K V place here cut kept d ns ss cs lv bl.0 d2 rd) (behind-held F K d ns ss cs lv bl.0 ts d2 h) in
      let v = drawn F.told F.brings z place e lv in
      let hole : Has te.0 r1.0 (truth fresh) = more-has F K lv bl.0 ts es v.1 te.0 te.1 r1.0 (truth fresh) (more-has F K jo.1 bl.0 [] [] lv bl.0 en r1.0 (truth fresh) (more-has F K s1.1 bd.0 [] [] jo.1 bl.0 bl.1 r1.0 (truth fresh) (more-has F K r1.2 e1.numbers ss cs s1.1 bd.0 bd.1 r1.0 (truth fresh) e1.hole_is))) in
      let fin = define-drawn F.slot F.next (supposes_on F.showing F.wires) (owes_on F.showing F.wires) r1.0 v.0 v.1 te.0 (truth fresh) te.1.solved hole te.2 in
      let d3 = then-drawn F K d ns ss cs lv bl.0 ts es v.1 te.0 d2 te.1 in
      let whole = end-drawn F K d ns (ss ++ ts) (cs ++ es) v.1 te.0 (define_wire r1.0 v.0 v.1) te.0 d3 fin in
      subst (λ u. Drew F K d ns (ss ++ ts) (cs ++ es) (reset_from u place b e d V)) (sym (hide-pushed z q)) (te.0, whole)

  -- what an automaton draws in this scope
  abbrev automaton_from : Scope → Place → States → Sketch → Sketch
  automaton_from u place ss d =
      let lines = new_lines (count_states ss) place d in
      let nx = jump_hole lines.0.shape lines.1 in
      automaton_end lines.0 place nx.0 (drawn_states F.told F.brings u place (words_of (numbers_of ss) lines.0) 0 ss (rests_of lines.0.active nx.0) nx.1)

  pub automaton-step : (at : Span) (ss : States) → StatesAt F K ss → EqnAt F K (automaton at ss)
  automaton-step at ss ih ds V m now stay w place here cut kept d ns S lk r ok k g y dr pa ho kn gives p rd h =
      let sup = supposes_on F.showing F.wires in
      let owe = owes_on F.showing F.wires in
      let q = automaton at ss in
      let z = V.drawn_scope in
      let names = within q V.names V.last in
      let L = hidden_layer F K V q in
      let Vh = hidden_sight V q L in
      let count = count_states ss in
      let bg = remembers_equation F.types circuits.remembers q m.start [] in
      let an = next_equation F.types circuits ds q V.names V.last m now in
      let sn = shown_equation F.types circuits ds q V.names V.last m now in
      let so = wired_equation F.types circuits q V.names V.last m now in
      let ts = slots_of_states F.types F.outs F.callee ss V.types (below StatesOf w) in
      let cs = calls_in_states ss (below StatesOf w) in
      let mS = held_at StatesOf m in
      let nS = part StatesOf now in
      let sel = selected_in m.memory in
      let j = strong_in F.types circuits ss ss 0 sel V.names V.last mS nS in
      let wk = weak_of F.types circuits ss ss 0 j names V.last mS nS in
      let ea : now (Active ∷ []) ≡ state_word j.state = ap (λ i. i (Active ∷ [])) p.solves in
      let en : now (Next ∷ []) ≡ state_word wk.state = ap (λ i. i (Next ∷ [])) p.solves in
      let ep : now (Pending ∷ []) ≡ B wk.restart = ap (λ i. i (Pending ∷ [])) p.solves in
      let hb = hidden-begins F K V q place here cut kept d ns S ho kn rd in
      let lines = new_lines count place d in
      let nx = jump_hole lines.0.shape lines.1 in
      let o = lines-opened F.slot F.next sup owe count place here cut kept j wk d ns rd.solved rd.place_is in
      let os = o.first ∷ (o.second ∷ []) in
      let pend = o.pending in
      let st = still F.slot F.next sup owe d ns os [] [] nx.1 o.numbers pend in
      let rd1 = pending-ready F.slot F.next sup owe F.types V.names V.last z place [] here cut kept d ns os [] [] nx.1 o.numbers pend rd in
      let ri1 = pending-ready F.slot F.next sup owe F.types Vh.names Vh.last (push_values L z) place [] here cut kept d ns os [] [] nx.1 o.numbers pend hb.0 in
      let same : (x : List ℕ) → defines q x ≡ true → number_in (V.names x) ≡ state_number ss 0 j.state V.last nS x = λ x i. ap number_in (gives x i) ∙ state-is Absent ss 0 j.state V.last nS x refl in
      let hd = hidden-as q V.scope V.last o.numbers (λ x. number_in (V.names x)) (λ x. state_number ss 0 j.state V.last nS x) L same (hidden-more q V.scope V.last ns o.numbers (λ x. number_in (V.names x)) L st hb.2) in
      let n0 = length d.slots in
      let c0 : (if cut then 0 else F.slot n0) ≡ sel.state = read-number here cut kept bg m.memory stay an (λ a. F.raw (w a)) (λ a. F.next (w a)) (Next ∷ []) 0 (F.slot n0) p.stored refl h.0 ∙ state-number ss (m.memory (Next ∷ [])) k.0 in
      let c1 : (if cut then 0 else F.slot (suc n0)) ≡ truth sel.restart = read-number here cut kept bg m.memory stay an (λ a. F.raw (w a)) (λ a. F.next (w a)) (Pending ∷ []) 0 (F.slot (suc n0)) p.stored refl h.1.0 ∙ flag-number (m.memory (Pending ∷ [])) k.1.0 in
      let gs : Goes F K o.numbers lines.0.selected sel = (subst (λ n. Has o.numbers lines.0.selected.state n) c0 o.selected_is.0, subst (λ n. Has o.numbers lines.0.selected.restart n) c1 o.selected_is.1) in
      let len : length nx.1.slots ≡ suc (suc n0) = open-length F.slot F.next sup owe d ns os nx.1 o.numbers pend ∙ (omega arith) in
      let pS = subst (λ a. IsPart F mS nS (part StatesOf stay) (below StatesOf w) here cut kept (part StatesOf bg) (next_states F.types circuits ss 0 a V.names names V.last mS nS) (shown_states F.types circuits ss 0 a V.names names V.last mS nS) (part StatesOf so)) (ap state_of ea)
      (part-at F StatesOf m now stay w here cut kept bg an sn so p) in
      let x = ih ss q V j sel 0 0 (words_of (numbers_of ss) lines.0) mS nS (part StatesOf stay) (below StatesOf w) place here cut kept (rests_of lines.0.active nx.0) L nx.1 o.numbers refl (lines-shape count place d) (λ a. numbers-are ss a dr.0) S lk
      r.1 ok k.1.1 g y.1.1.1 dr.1 pS rd1 ri1 hb.1 hd gs o.active_is o.active_is o.jump_is (subst (λ n. AreHeld F.slot F.raw F.given ts n) (sym len) h.1.1) in
      let r1 = drawn_states F.told F.brings (push_values L z) place (words_of (numbers_of ss) lines.0) 0 ss (rests_of lines.0.active nx.0) nx.1 in
      let gs2 = goes-on F K o.numbers x.0 lines.0.selected sel (more-has F K nx.1 o.numbers ts cs r1.2 x.0 x.1) gs in
      let c = lines-closed F.slot F.next sup owe F.types V.names V.last z w count place here cut kept bg m.memory stay an F.raw sel j wk lines.0 nx.0 r1.0 ts cs d ns nx.1 r1.2 x.0 o p.stored p.same refl refl h.0 h.1.0
      (ap number_in en) (ap number_in ep ∙ bool-number wk.restart) rd x.1 gs2 x.5 x.6 in
      let s2 = lines_take lines.0 place nx.0 (lines_end lines.0 r1.0 r1.2) in
      let fin = hidden-ended F K V q x.2 (r1.1, s2) c.0 c.1.solved x.3 (hidden-more q V.scope V.last x.0 c.0 (λ a. 0) x.2 c.2 x.4) in
      let all = register (w (Next ∷ [])) (slots.cons 0 count) ∷ (register (w (Pending ∷ [])) slots.truth ∷ ts) in
      let whole = end-drawn F K d ns all cs s2 c.0 (end_hidden r1.1 s2) c.0 c.1 fin in
      subst (λ u. Drew F K d ns all cs (automaton_from u place ss d)) (sym (hide-pushed z q)) (c.0, whole)
