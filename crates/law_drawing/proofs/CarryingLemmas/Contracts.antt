-- A contract: its block, and the wires of what it assumes and enforces.
use Rattle.std.proofs.Common.{◌≡◌, ℕ, Bool, false, List, [], ◌++◌, length, Option, None, Some, refl, sym, ap, subst}
use Rattle.hp_base.specs.declared.ty.Ty.TheVariants as ty
use Rattle.hp_base.specs.declared.value.Value.{Value}
use Rattle.hp_base.specs.declared.value.Value.TheVariants.{B, E, I, Absent, Nil, Star}
use Rattle.hp_tree.specs.Blocks.{Decl}
use Rattle.hp_tree.specs.Expressions.{Expr}
use Rattle.hp_tree.specs.ExpressionTypes as types_shown
use Rattle.hp_tree.specs.ExpressionTypes.{scope_of}
use Rattle.hp_tree.specs.Instant.{Observer, Assume, Enforce, Instant, Past, part, top, nothing, Place as TreePlace}
use Rattle.hp_tree.specs.Meaning.{node_among}
use Rattle.hp_tree.specs.Operators.{is_true}
use Rattle.hp_tree.specs.Programs.{TypeDecl, Contract}
use Rattle.hp_meaning.specs.Causal.Clocked.{TellsOnBase, ContractRight}
use Rattle.hp_meaning.specs.Causal.Points.{calls_told}
use Rattle.hp_meaning.specs.Causal.Sources.{below}
use Rattle.law_values.specs.Valued.Judged.{ToldSound, ContractSound}
use Rattle.hp_meaning.specs.Contract.Duties.{holds_or_missing, assumes, enforces}
use Rattle.hp_meaning.specs.Contract.Memory.{remembers, remembers_block}
use Rattle.hp_meaning.specs.Contract.Slots as slots
use Rattle.hp_meaning.specs.Contract.Slots.{slots_of_block}
use Rattle.hp_circuit.specs.Meaning.{truth}
use Rattle.law_games.specs.Wires.Wired.{Held, held_at, Callees}
use Rattle.law_games.specs.Wires.WiredBlocks.{wired_block, shown_block, next_block}
use Rattle.law_games.specs.Wires.WiredNodes.{wired_told, shown_told, next_told}
use Rattle.law_games.specs.Wires.WiredCallees.{callee_wires}
use Rattle.law_games.specs.Wiretyped.Typed.{IsWire, ToldTyped, ContractTyped}
use Rattle.law_games.specs.Wiretyped.Kept.{ToldKept, ContractKept, ToldGiven, ContractGiven}
use Rattle.law_games.specs.Wiretyped.Callees.{CalleeTyped, CalleeKept, CalleeGiven}
use Rattle.law_games.proofs.WiretypedLemmas.Exprs.{CalleesTyped, NamesAre, LastsAre, top_is}
use Rattle.law_games.proofs.WiretypedLemmas.Scopes.{OuterAre}
use Rattle.law_games.proofs.WiretypedLemmas.Begins.{seen_in}
use Rattle.hp_drawing.specs.declared.parts.Place.{Place}
use Rattle.hp_drawing.specs.Scopes.{Scope}
use Rattle.hp_drawing.specs.Sketch.{Sketch, high}
use Rattle.hp_drawing.specs.DrawnBlocks.{drawn_block}
use Rattle.hp_drawing.specs.DrawnNodes.{drawn_told, drawn_contract}
use Rattle.law_drawing.specs.Carrying.Solving.{Has}
use Rattle.law_drawing.specs.Carrying.Drawing.{AreShaped}
use Rattle.law_drawing.specs.Carrying.Typing.{AreNumbered}
use Rattle.law_drawing.specs.Carrying.Calls.{supposes_on, owes_on}
use Rattle.law_drawing.specs.Carrying.Drawable.{BlockDrawable}
use Rattle.law_drawing.specs.Carrying.Laws.{Frame, FrameCalls, Sight, IsSight}
use Rattle.law_drawing.specs.Carrying.WholeBlocks.{IsPart}
use Rattle.law_drawing.proofs.CarryingLemmas.Slots.{held-first}
use Rattle.law_drawing.proofs.CarryingLemmas.Steps.{nothing-drawn}
use Rattle.law_drawing.proofs.CarryingLemmas.CallLists.{calls_in_block}
use Rattle.law_drawing.proofs.CarryingLemmas.Conditions.{Draws, test-drawn}
use Rattle.law_drawing.proofs.CarryingLemmas.Insides.{inside_sight, numbered-in-block}
use Rattle.law_drawing.proofs.CarryingLemmas.Blocks.{Ready, Holds, more-ready, more-has, then-drawn, behind-held}
use Rattle.law_drawing.proofs.CarryingLemmas.Wholes.{block-drawn}

abbrev pub told_slots : List TypeDecl → (List ℕ → List Decl) → (List ℕ → (TreePlace → TreePlace) → List slots.Slot) → Option Expr → types_shown.Scope → (TreePlace → TreePlace) → List slots.Slot
told_slots types outs callee None names w = []
told_slots types outs callee (Some e) names w = slots.slots types outs callee e names w

abbrev pub told_remembers : List TypeDecl → (List ℕ → Instant → Past → Instant) → Option Expr → Instant → Past → Instant
told_remembers types callee None zero past = nothing
told_remembers types callee (Some e) zero past = remembers types callee e zero past

pub true-holds : (types : List TypeDecl) (v : Value) → IsWire types ty.Bool v → is_true v ≡ holds_or_missing v
true-holds types (B b) h = refl
true-holds types (E t k) h = absurd h
true-holds types (I n) h = absurd h
true-holds types Absent h = absurd h
true-holds types Nil h = absurd h
true-holds types Star h = absurd h

module _ (F : Frame) (K : FrameCalls F) (T : CalleesTyped F.types (callee_wires F.types F.earlier) (node_among F.earlier) (CalleeTyped F.types F.earlier) (CalleeKept F.types F.earlier) (CalleeGiven F.types F.earlier)) where
  abbrev circuits : Callees
  circuits = callee_wires F.types F.earlier

  abbrev pub ToldPart : Sight → Option Expr → Held → Instant → Instant → (TreePlace → TreePlace) → Bool → Bool → Bool → Type 0
  ToldPart V o m now stay w here cut kept =
      IsPart F m now stay w here cut kept (told_remembers F.types circuits.remembers o m.start []) (next_told F.types circuits o V.names m now) (shown_told F.types circuits o V.names m now) (wired_told F.types circuits o V.names V.last m now)

  abbrev pub ObserverPart : Sight → Contract → Held → Instant → Instant → (TreePlace → TreePlace) → Bool → Bool → Bool → Type 0
  ObserverPart V c m now stay w here cut kept =
      IsPart F m now stay w here cut kept (remembers_block F.types circuits.remembers c.body m.start []) (next_block F.types circuits c.body V.names V.last m now) (shown_block F.types circuits c.body V.names V.last m now) (wired_block F.types circuits c.body false V.names V.last m now)

  -- what is told holds where it is missing
  pub told-drawn : (o : Option Expr) (V : Sight) (m : Held) (now stay : Instant) (w : TreePlace → TreePlace) (place : Place) (here cut kept : Bool) (d : Sketch) (ns : List ℕ) → IsSight F V → TellsOnBase V.standing o → ToldSound F.types (node_among F.earlier) V.scope V.has_last o
      → ToldKept F.types (CalleeKept F.types F.earlier) V.scope o m.start m.memory → ToldGiven F.types (CalleeGiven F.types F.earlier) V.scope o m.free → ToldTyped F.types (CalleeTyped F.types F.earlier) V.scope o now → ToldPart V o m now stay w here cut kept
      → Ready F K V place here cut kept d ns → Holds F K (told_slots F.types F.outs F.callee o V.types w) d
      → (ns' : List ℕ) × Draws F K d ns (told_slots F.types F.outs F.callee o V.types w) (calls_told o w) (drawn_told F.told F.brings V.drawn_scope place o d).1 ns' × Has ns' (drawn_told F.told F.brings V.drawn_scope place o d).0 (truth (holds_or_missing (top now)))
  told-drawn None V m now stay w place here cut kept d ns S on ok k g y p r h =
      (ns, nothing-drawn F.slot F.next (supposes_on F.showing F.wires) (owes_on F.showing F.wires) d ns r.solved, subst (λ v. Has ns high (truth (holds_or_missing v))) (sym (ap top p.solves)) r.solved.high_is)
  told-drawn (Some e) V m now stay w place here cut kept d ns S on ok k g y p r h =
      let x = test-drawn F K V S place here cut kept e m now stay w d ns on ok.0 ok.1 k g y p r h in
      (x.0, x.1, subst (λ b. Has x.0 (drawn_told F.told F.brings V.drawn_scope place (Some e) d).0 (truth b)) (true-holds F.types (top now) (top_is F.types (CalleeTyped F.types F.earlier) V.scope e ty.Bool now ok.1 y)) x.2)

  pub contract-drawn : (c : Contract) (V : Sight) (m : Held) (now stay : Instant) (w : TreePlace → TreePlace) (place : Place) (here cut kept : Bool) (d : Sketch) (ns : List ℕ) → AreNumbered F.types F.told V.scope → AreShaped V.scope V.has_last V.types V.drawn_scope
      → NamesAre F.types V.scope V.standing V.names → LastsAre F.types V.scope V.has_last V.last → ContractRight V.standing (Some c) → ContractSound F.types (node_among F.earlier) V.scope V.has_last (Some c)
      → ContractKept F.types (CalleeKept F.types F.earlier) V.scope (Some c) m.start m.memory → ContractGiven F.types (CalleeGiven F.types F.earlier) V.scope (Some c) m.free → ContractTyped F.types (CalleeTyped F.types F.earlier) V.scope (Some c) now → BlockDrawable V.scope c.body
      → ObserverPart V c (held_at Observer m) (part Observer now) (part Observer stay) (below Observer w) here cut kept
      → ((z : Scope) → ToldPart (inside_sight V c.body (held_at Observer m) (part Observer now) z) c.assume (held_at Assume m) (part Assume now) (part Assume stay) (below Assume w) here cut kept)
      → ((z : Scope) → ToldPart (inside_sight V c.body (held_at Observer m) (part Observer now) z) c.enforce (held_at Enforce m) (part Enforce now) (part Enforce stay) (below Enforce w) here cut kept)
      → Ready F K V place here cut kept d ns
      → Holds F K (slots_of_block F.types F.outs F.callee c.body V.types (below Observer w) ++ (told_slots F.types F.outs F.callee c.assume (scope_of c.body V.types) (below Assume w) ++ told_slots F.types F.outs F.callee c.enforce (scope_of c.body V.types) (below Enforce w))) d
      → (ns' : List ℕ) × Draws F K d ns (slots_of_block F.types F.outs F.callee c.body V.types (below Observer w) ++ (told_slots F.types F.outs F.callee c.assume (scope_of c.body V.types) (below Assume w) ++ told_slots F.types F.outs F.callee c.enforce (scope_of c.body V.types) (below Enforce w)))
      (calls_in_block c.body (below Observer w) ++ (calls_told c.assume (below Assume w) ++ calls_told c.enforce (below Enforce w))) (drawn_contract F.told F.brings V.drawn_scope place c d).1 ns'
      × Has ns' (drawn_contract F.told F.brings V.drawn_scope place c d).0.assume (truth (assumes now)) × Has ns' (drawn_contract F.told F.brings V.drawn_scope place c d).0.enforce (truth (enforces now))
  contract-drawn c V m now stay w place here cut kept d ns N S nk lk r ok k g y dr pg pa pe rd h =
      let ss = slots_of_block F.types F.outs F.callee c.body V.types (below Observer w) in
      let ts = told_slots F.types F.outs F.callee c.assume (scope_of c.body V.types) (below Assume w) in
      let us = told_slots F.types F.outs F.callee c.enforce (scope_of c.body V.types) (below Enforce w) in
      let cs = calls_in_block c.body (below Observer w) in
      let ds = calls_told c.assume (below Assume w) in
      let es = calls_told c.enforce (below Enforce w) in
      let outer : OuterAre F.types (node_among F.earlier) c.body V.standing V.scope V.names = λ x t nb on l. nk x [] t on l in
      let x = block-drawn F K T c.body false V (held_at Observer m) (part Observer now) (part Observer stay) (below Observer w) place here cut kept d ns N S outer lk r.0 ok.0 k.0 g.0 y.0 dr pg rd (held-first F.slot F.raw F.given ss (ts ++ us) (length d.slots) h) in
      let b = drawn_block F.told F.brings V.drawn_scope place c.body d in
      let Vi = inside_sight V c.body (held_at Observer m) (part Observer now) b.0 in
      let Si : IsSight F Vi = record { numbered = numbered-in-block F.types F.told V.scope c.body N; named = seen_in F.types (node_among F.earlier) (CalleeTyped F.types F.earlier) c.body V.standing V.scope V.has_last V.names (part Observer now) ok.0 outer y.0; shaped = x.3 } in
      let h1 = behind-held F K d ns ss cs b.1 x.0 (ts ++ us) x.1 h in
      let a = told-drawn c.assume Vi (held_at Assume m) (part Assume now) (part Assume stay) (below Assume w) place here cut kept b.1 x.0 Si r.1 ok.1.0 k.1.0 g.1.0 y.1.0 (pa b.0) x.2 (held-first F.slot F.raw F.given ts us (length b.1.slots) h1) in
      let sa = drawn_told F.told F.brings b.0 place c.assume b.1 in
      let e = told-drawn c.enforce Vi (held_at Enforce m) (part Enforce now) (part Enforce stay) (below Enforce w) place here cut kept sa.1 a.0 Si r.2 ok.1.1 k.1.1 g.1.1 y.1.1 (pe b.0) (more-ready F K Vi place here cut kept b.1 x.0 ts ds sa.1 a.0 a.1 x.2)
      (behind-held F K b.1 x.0 ts ds sa.1 a.0 us a.1 h1) in
      let se = drawn_told F.told F.brings b.0 place c.enforce sa.1 in
      (e.0, then-drawn F K d ns ss cs b.1 x.0 (ts ++ us) (ds ++ es) se.1 e.0 x.1 (then-drawn F K b.1 x.0 ts ds sa.1 a.0 us es se.1 e.0 a.1 e.1), more-has F K sa.1 a.0 us es se.1 e.0 e.1 sa.0 (truth (assumes now)) a.2, e.2)
