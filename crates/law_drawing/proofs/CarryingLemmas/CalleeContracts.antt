-- The contract of a node that is called, in which nothing is called.
use Rattle.std.proofs.Common.{◌≡◌, ℕ, Bool, true, false, not, ◌&&◌, ◌||◌, if◌then◌else◌, List, [], ◌∷◌, ◌++◌, length, drop, Option, None, Some, refl, sym, ap, subst, ◌∙◌}
use Rattle.hp_base.specs.declared.value.Value.{Value}
use Rattle.hp_base.specs.declared.value.Value.TheVariants.{Absent}
use Rattle.hp_base.specs.declared.ty.Ty.{Ty}
use Rattle.hp_tree.specs.ExpressionTypes.{typed_in, untyped}
use Rattle.hp_tree.specs.Instant.{Named, Observer, Assume, Enforce, Instant, Clock, holds, nothing, Place as TreePlace}
use Rattle.hp_tree.specs.Meaning.{Names, declares, input_of, absent}
use Rattle.hp_tree.specs.Programs.{TypeDecl, Contract, Node}
use Rattle.hp_base.specs.Known.Known.{lookup}
use Rattle.hp_typing.specs.Scopes.{inside_node}
use Rattle.law_judged.specs.Typed.Scopes.{Scope as TypeScope}
use Rattle.hp_meaning.specs.Causal.Clocked.{on_base, ContractRight}
use Rattle.hp_meaning.specs.Causal.Points.{Placed}
use Rattle.law_values.specs.Valued.Judged.{lasts_in as known_lasts, no_lasts, HaveOwnTypes, ContractSound}
use Rattle.hp_meaning.specs.Contract.Duties.{holds_or_missing, assumes, enforces}
use Rattle.std.proofs.lemmas.List.{append-nil}
use Rattle.hp_meaning.specs.Contract.Memory.{number_in, remembers_callee}
use Rattle.hp_meaning.specs.Contract.Slots as slots
use Rattle.hp_meaning.specs.Contract.Slots.{callee_slots}
use Rattle.hp_circuit.specs.Meaning.{truth}
use Rattle.law_games.specs.Mirror.Memories.{AreApart}
use Rattle.law_games.specs.Wires.Wired.{Held, lasts_in}
use Rattle.law_games.specs.Wires.WiredCallees.{callee_wires, alone_names, wired_alone, shown_alone, next_alone}
use Rattle.law_games.specs.Wires.WiredNodes.{contract_names}
use Rattle.law_games.specs.Wiretyped.Typed.{IsWire, AreWires, OutputsTyped, ContractTyped}
use Rattle.law_games.specs.Wiretyped.Kept.{ContractGiven}
use Rattle.law_games.specs.Wiretyped.Callees.{none_typed, any_given, OwnKept}
use Rattle.law_games.proofs.WiretypedLemmas.Exprs.{NamesAre}
use Rattle.law_games.proofs.WiretypedLemmas.Contracts.{outputs_last, given_at, given_other}
use Rattle.law_games.proofs.WiretypedLemmas.Callees.{callees_typed}
use Rattle.hp_drawing.specs.declared.parts.Callee.{Callee}
use Rattle.hp_drawing.specs.declared.parts.Place.{Place}
use Rattle.hp_drawing.specs.Told.{Told}
use Rattle.hp_drawing.specs.Sketch.{Sketch, base}
use Rattle.hp_drawing.specs.Places.{there, called_at}
use Rattle.hp_drawing.specs.DrawnNodes.{contract_scope, drawn_contract, no_brings, drawn_called, drawn_called_if}
use Rattle.law_drawing.specs.Carrying.Solving.{Has}
use Rattle.law_drawing.specs.Carrying.Drawing.{AreHeld, IsSolved, IsDrawn, IsClock, IsPlace, IsStored}
use Rattle.law_drawing.specs.Carrying.Typing.{AreNumbered}
use Rattle.law_drawing.specs.Carrying.Calls.{lasts_slots, supposes_on, owes_on}
use Rattle.law_drawing.specs.Carrying.Drawable.{ContractDrawable}
use Rattle.law_drawing.specs.Carrying.Laws.{Frame, FrameCalls, Sight}
use Rattle.law_drawing.specs.Carrying.WholeBlocks.{IsPart}
use Rattle.law_drawing.proofs.CarryingLemmas.Slots.{held-first}
use Rattle.law_drawing.proofs.CarryingLemmas.Steps.{stays, both, nothing-drawn}
use Rattle.law_drawing.proofs.CarryingLemmas.Gates.{there-drawn}
use Rattle.law_drawing.proofs.CarryingLemmas.Parts.{held-behind}
use Rattle.law_drawing.proofs.CarryingLemmas.ExpressionLaws.{no-calls}
use Rattle.law_drawing.proofs.CarryingLemmas.Branches.{part-at, branch_stay, part-branch}
use Rattle.law_drawing.proofs.CarryingLemmas.Places.{and-left}
use Rattle.law_drawing.proofs.CarryingLemmas.Contracts.{contract-drawn}
use Rattle.law_drawing.proofs.CarryingLemmas.Rows.{RowHas, row-more}
use Rattle.law_drawing.proofs.CarryingLemmas.ContractScopes.{output_values, contract-scoped}
use Rattle.law_drawing.proofs.CarryingLemmas.NodeParts.{contract-reads}
use Rattle.law_drawing.proofs.CarryingLemmas.NoCalls.{contract-free}
use Rattle.law_drawing.proofs.CarryingLemmas.CallSteps.{nothing-asked, call-told, other-calls}
use Rattle.law_drawing.proofs.CarryingLemmas.Enter.{true_or_not}

drop-front : (xs p : TreePlace) → drop (length xs) (xs ++ p) ≡ p
drop-front [] p = refl
drop-front (x ∷ xs) p = drop-front xs p

-- a node with this contract
abbrev pub node_with : Node → Option Contract → Node
node_with n o = record n { contract = o }

module _ (slot : ℕ → ℕ) (raw next given : Instant) (supposes owes : Placed → Bool) (types : List TypeDecl) (told : Told) where
  -- where a call is
  called-placed : (place : Place) (names : Names) (clock : Clock) (here cut kept : Bool) (d : Sketch) (ns : List ℕ) → IsSolved slot d ns → IsPlace ns place here cut kept → IsClock types names d.clocks ns place.clock clock
      → (ns' : List ℕ) × IsDrawn slot next supposes owes d ns [] [] (called_at place d).1 ns' × IsPlace ns' (called_at place d).0 (here && holds types clock names) cut kept × ((called_at place d).0.clock ≡ base)
  unfolding called_at
  called-placed place names clock here cut kept d ns g p c =
      let a = there-drawn slot next supposes owes types names place here cut kept clock d ns g p c in
      let more : (w k : ℕ) → Has ns w k → Has a.0 w k = stays slot next supposes owes d ns [] [] (there place d).1 a.0 a.1 in
      (a.0, a.1, record { here_is = a.2; cut_is = more place.cut (truth cut) p.cut_is; kept_is = more place.kept (truth kept) p.kept_is; same = λ e. p.same (and-left here (holds types clock names) e) }, refl)

  pub callee-contract : (o : Option Contract) (n : Node) (sc : TypeScope) (among : List ℕ → Option Node) (point : Placed) (ins : List Value) (m : Held) (now stays_as : Instant) (w : TreePlace → TreePlace) (place : Place) (names : Names) (clock : Clock) (here cut kept : Bool) (callee : Callee) (d : Sketch) (ns : List ℕ)
      → AreNumbered types told (inside_node sc n) → HaveOwnTypes types among (inside_node sc n) n.inputs → HaveOwnTypes types among (inside_node sc n) n.outputs → ContractSound types among (inside_node sc n) (known_lasts n.outputs no_lasts) o
      → ContractRight (λ x. on_base (declares n.inputs x || declares n.outputs x)) o → AreApart n.outputs → ((x : List ℕ) → declares n.inputs x ≡ true → declares n.outputs x ≡ false) → ContractDrawable (inside_node sc n) o
      → ((x : List ℕ) (t : Ty) → lookup (inside_node sc n).variables x ≡ Some t → declares n.inputs x ≡ false → declares n.outputs x ≡ true) → AreWires types n.inputs ins → OwnKept types sc n o m.start m.memory → ContractGiven types any_given (inside_node sc n) o m.free
      → OutputsTyped types n.outputs now → ContractTyped types none_typed (inside_node sc n) o now → now ≡ wired_alone types (node_with n o) ins m now → ((p : TreePlace) → number_in (m.start p) ≡ 0) → ((p : TreePlace) → m.free p ≡ given (w p)) → ((p : TreePlace) → w [] ++ p ≡ w p)
      → IsStored here cut kept (remembers_callee types (Some (node_with n o)) m.start []) m.memory stays_as (if holds types clock names then next_alone types (node_with n o) ins m now else m.memory) (λ p. raw (w p)) (λ p. next (w p))
      → supposes point ≡ not (here && holds types clock names) || (not (assumes now) || enforces now) → owes point ≡ not (here && holds types clock names) || assumes now → IsSolved slot d ns → IsPlace ns place here cut kept → IsClock types names d.clocks ns place.clock clock
      → RowHas ns callee.inputs ins → RowHas ns callee.outputs (output_values n.outputs now) → AreHeld slot raw given (callee_slots types (Some (node_with n o)) w) (length d.slots)
      → (ns' : List ℕ) × IsDrawn slot next supposes owes d ns (callee_slots types (Some (node_with n o)) w) (point ∷ []) (drawn_called_if told place (node_with n o) o callee d) ns'
  callee-contract None n sc among point ins m now stays_as w place names clock here cut kept callee d ns N hi ho ok r ap' apart dr known ai k g yo y q zs fs is sto es eo gd pl cl ri ro h =
      let ea : now (Assume ∷ []) ≡ Absent = ap (λ i. i (Assume ∷ [])) q in
      let ee : now (Enforce ∷ []) ≡ Absent = ap (λ i. i (Enforce ∷ [])) q in
      let at : assumes now ≡ true = ap holds_by ea in
      let et : enforces now ≡ true = ap holds_by ee in
      let s : supposes point ≡ true = es ∙ ap (λ b. not (here && holds types clock names) || (not (assumes now) || b)) et ∙ or-true (not (here && holds types clock names)) (not (assumes now) || true) (or-yes (not (assumes now))) in
      let o : owes point ≡ true = eo ∙ or-true (not (here && holds types clock names)) (assumes now) at in
      (ns, nothing-asked slot next supposes owes point d ns [] d ns s o (nothing-drawn slot next supposes owes d ns gd))
    where
      holds_by : Value → Bool
      holds_by v = holds_or_missing v

      or-yes : (b : Bool) → b || true ≡ true
      or-yes true = refl
      or-yes false = refl

      or-true : (a b : Bool) → b ≡ true → a || b ≡ true
      or-true true b e = refl
      or-true false b e = e
  callee-contract (Some c) n sc among point ins m now stays_as w place names clock here cut kept callee d ns N hi ho ok r ap' apart dr known ai k g yo y q zs fs is sto es eo gd pl cl ri ro h =
      let n' = node_with n (Some c) in
      let taken = holds types clock names in
      let depth = length (w []) in
      let shown = shown_alone types n' ins m now in
      let after = next_alone types n' ins m now in
      let solved_by = wired_alone types n' ins m now in
      let begin = remembers_callee types (Some n') m.start [] in
      let showing : Instant = λ p. if here then (if taken then shown else nothing) (drop depth p) else Absent in
      let wires : Instant = λ p. now (drop depth p) in
      let F : Frame = record { types = types; earlier = []; told = told; brings = no_brings; outs = λ f. []; callee = λ f v. []; slot = slot; raw = raw; next = next; given = given; wires = wires; showing = showing } in
      let K : FrameCalls F = no-calls F refl in
      let T = callees_typed types [] [] tt in
      let at-place : (p : TreePlace) → drop depth (w p) ≡ p = λ p. ap (drop depth) (sym (is p)) ∙ drop-front (w []) p in
      let whole : IsPart F m now stays_as w here cut kept begin (if taken then after else m.memory) (if taken then shown else nothing) solved_by =
      record {
        solves = q;
        zeros = zs;
        given = fs;
        stored = sto;
        placed = record { inside = is; wires_are = λ p. ap now (at-place p); shown_is = λ p. ap (λ u. if here then (if taken then shown else nothing) u else Absent) (at-place p) };
        same = pl.same;
      }
      in
      let pb = part-branch F m now stays_as w here cut kept begin taken after shown solved_by whole in
      let stay = branch_stay here m.memory stays_as in
      let here' = here && taken in
      let a = called-placed place names clock here cut kept d ns gd pl cl in
      let i = called_at place d in
      let more-a : (w k : ℕ) → Has ns w k → Has a.0 w k = stays slot next supposes owes d ns [] [] i.1 a.0 a.1 in
      let reads = alone_names n' ins m.free in
      let named : (x : List ℕ) → declares n.outputs x ≡ true → reads x ≡ now (Named x ∷ []) = λ x e.
      given_at n.outputs m.free (input_of n.inputs ins absent) x e ∙ sym (ap (λ j. j (Named x ∷ [])) q ∙ given_at n.outputs m.free absent x e)
      in
      let unnamed : (x : List ℕ) → declares n.outputs x ≡ false → reads x ≡ input_of n.inputs ins absent x = λ x e. given_other n.outputs m.free (input_of n.inputs ins absent) x e in
      let h1 = held-behind slot next supposes owes raw given d ns [] [] i.1 a.0 (callee_slots types (Some n') w) a.1 h in
      let ls = lasts_slots types n.outputs w in
      let gl = slots.slots_of_contract types (λ f. []) (λ f v. []) (Some c) (typed_in n.inputs (typed_in n.outputs untyped)) w in
      let sc' = contract-scoped slot raw next given supposes owes types told among n' (inside_node sc n) ins now reads w begin m.memory stay after i.0 here' cut kept callee.inputs callee.outputs i.1 a.0 N hi ho ap' apart known ai yo named unnamed pb.stored pb.same (λ x. refl) (λ x. refl) k.0
      a.1.solved a.2 a.3 (row-more ns a.0 callee.inputs ins more-a ri) (row-more ns a.0 callee.outputs (output_values n.outputs now) more-a ro) (held-first slot raw given ls gl (length i.1.slots) h1) in
      let z = contract_scope told i.0 n' callee.inputs callee.outputs i.1 in
      let d2 = both slot next supposes owes d ns [] [] i.1 a.0 ls [] z.1 sc'.0 a.1 sc'.1 in
      let free = contract-free types among (Some c) (inside_node sc n) (known_lasts n.outputs no_lasts) now w ok y in
      let V : Sight = record { scope = inside_node sc n; standing = λ x. on_base (declares n.inputs x || declares n.outputs x); has_last = known_lasts n.outputs no_lasts; names = reads; last = λ x. lasts_in n.outputs m.memory absent x; types = typed_in n.inputs (typed_in n.outputs untyped); drawn_scope = z.0 } in
      let same : (x : List ℕ) → contract_names types (callee_wires types []) n ins now x ≡ reads x = λ x. true_or_not (declares n.outputs x)
      (λ e. ap (λ b. if b then now (Named x ∷ []) else input_of n.inputs ins absent x) e ∙ sym (named x e)) (λ e. ap (λ b. if b then now (Named x ∷ []) else input_of n.inputs ins absent x) e ∙ sym (unnamed x e))
      in
      let nk : NamesAre types (inside_node sc n) V.standing reads = λ x ck t on l. subst (λ v. IsWire types t v) (same x) (contract-reads types (callee_wires types []) among sc n ins now hi ho ai yo x ck t on l) in
      let gc = contract-drawn F K T c V m now stay w i.0 here' cut kept z.1 sc'.0 N sc'.3 nk (outputs_last types among (inside_node sc n) n.outputs m.memory ho k.0) r free.0 k.1 g y dr
      (part-at F Observer m now stay w here' cut kept begin after shown solved_by pb) (λ u. part-at F Assume m now stay w here' cut kept begin after shown solved_by pb) (λ u. part-at F Enforce m now stay w here' cut kept begin after shown solved_by pb) sc'.2
      (held-behind slot next supposes owes raw given i.1 a.0 ls [] z.1 sc'.0 gl sc'.1 h1) in
      let b = drawn_contract told no_brings z.0 i.0 c z.1 in
      let sup' = supposes_on showing wires in
      let owe' = owes_on showing wires in
      let dc = subst (λ l. IsDrawn slot next sup' owe' z.1 sc'.0 gl l b.1 gc.0) free.1 gc.1 in
      let d3 = both slot next supposes owes d ns ls [] z.1 sc'.0 gl [] b.1 gc.0 d2 (other-calls slot next sup' owe' supposes owes z.1 sc'.0 gl b.1 gc.0 dc) in
      let more3 : (w k : ℕ) → Has a.0 w k → Has gc.0 w k = λ v k e. stays slot next sup' owe' z.1 sc'.0 gl [] b.1 gc.0 dc v k (stays slot next supposes owes i.1 a.0 ls [] z.1 sc'.0 sc'.1 v k e) in
      let t = call-told slot next supposes owes point i.0.here b.0.assume b.0.enforce here' (assumes now) (enforces now) b.1 gc.0 gc.1.solved (more3 i.0.here (truth here') a.2.here_is) gc.2 gc.3 es eo in
      (t.0, subst (λ l. IsDrawn slot next supposes owes d ns l (point ∷ []) (drawn_called told place n' c callee d) t.0) (append-nil (ls ++ gl)) (both slot next supposes owes d ns (ls ++ gl) [] b.1 gc.0 [] (point ∷ []) (drawn_called told place n' c callee d) t.0 d3 t.1))
