-- Conditions of transitions: a jump goes where the first transition goes whose condition is true.
use Rattle.std.proofs.Common.{◌≡◌, ℕ, Bool, true, false, if◌then◌else◌, List, [], ◌∷◌, length, map, Some, refl, subst}
use Rattle.hp_base.specs.declared.ty.Ty.{Ty}
use Rattle.hp_base.specs.declared.ty.Ty.TheVariants as ty
use Rattle.hp_base.specs.declared.value.Value.{Value}
use Rattle.hp_base.specs.declared.value.Value.TheVariants.{B, E, I, Absent, Nil, Star}
use Rattle.hp_tree.specs.declared.block.Trans.{Trans}
use Rattle.hp_tree.specs.Blocks.{States}
use Rattle.hp_tree.specs.Expressions.{Expr}
use Rattle.hp_tree.specs.Instant.{Head, Tail, Instant, Clock, part, top, in_row, Place as TreePlace}
use Rattle.hp_tree.specs.Meaning as meaning
use Rattle.hp_tree.specs.Meaning.{Names, node_among, number_of, first_true}
use Rattle.hp_tree.specs.Operators.{is_true}
use Rattle.hp_tree.specs.Programs.{TypeDecl}
use Rattle.hp_meaning.specs.Causal.Clocked.{IsOn, ConditionsOn}
use Rattle.hp_meaning.specs.Causal.Points.{Placed, calls}
use Rattle.hp_meaning.specs.Causal.Sources.{below}
use Rattle.hp_typing.specs.Types.{type_of}
use Rattle.law_values.specs.Valued.Judged.{ExprSound, TestsSound}
use Rattle.hp_meaning.specs.Contract.Memory.{number_in, remembers, remembers_conditions}
use Rattle.hp_meaning.specs.Contract.Slots as slots
use Rattle.hp_meaning.specs.Contract.Slots.{slots_of_conditions}
use Rattle.hp_circuit.specs.Meaning.{truth}
use Rattle.law_games.specs.Wires.Wired.{Held, held_at, Callees, wired, shown, next as next_of}
use Rattle.law_games.specs.Wires.WiredBlocks.{wired_conditions, shown_conditions, next_conditions}
use Rattle.law_games.specs.Wires.WiredCallees.{callee_wires}
use Rattle.law_games.specs.Wiretyped.Typed.{IsWire, ExprTyped, TestsTyped}
use Rattle.law_games.specs.Wiretyped.Kept.{ExprKept, ExprGiven, TestsKept, TestsGiven}
use Rattle.law_games.specs.Wiretyped.Callees.{CalleeTyped, CalleeKept, CalleeGiven}
use Rattle.law_games.proofs.WiretypedLemmas.Exprs.{top_is}
use Rattle.hp_drawing.specs.declared.parts.Jump.{Jump}
use Rattle.hp_drawing.specs.declared.parts.Place.{Place}
use Rattle.hp_drawing.specs.Kept.{is_mark}
use Rattle.hp_drawing.specs.Told.{or_none}
use Rattle.hp_drawing.specs.Sketch.{Sketch, low, high}
use Rattle.hp_drawing.specs.Places.{transition, restarts, jump_hole, jump_to, jump_end}
use Rattle.hp_drawing.specs.DrawnExpressions.{drawn}
use Rattle.hp_drawing.specs.DrawnBlocks.{Words, drawn_transitions, drawn_jump}
use Rattle.law_drawing.specs.Carrying.Solving.{Has}
use Rattle.law_drawing.specs.Carrying.Drawing.{AreHeld, IsSolved, IsDrawn, IsReady}
use Rattle.law_drawing.specs.Carrying.Calls.{supposes_on, owes_on}
use Rattle.law_drawing.specs.Carrying.Laws.{Frame, FrameCalls, Sight, IsSight, IsWiredAt, slots_of}
use Rattle.law_drawing.specs.Carrying.WholeBlocks.{IsPart}
use Rattle.law_drawing.proofs.CarryingLemmas.Slots.{held-first}
use Rattle.law_drawing.proofs.CarryingLemmas.Steps.{stays, both, ended, nothing-drawn}
use Rattle.law_drawing.proofs.CarryingLemmas.Stored.{ready-more}
use Rattle.law_drawing.proofs.CarryingLemmas.Parts.{held-behind}
use Rattle.law_drawing.proofs.CarryingLemmas.ExpressionLaws.{expression}
use Rattle.law_drawing.proofs.CarryingLemmas.Branches.{part-at}
use Rattle.law_drawing.proofs.CarryingLemmas.CallLists.{calls_in_conditions}
use Rattle.law_drawing.proofs.CarryingLemmas.Places.{GoesTo, goes-more, jump-opened, jump-added, jump-ended, jump-made}

-- the number of a truth value
pub bool-is : (types : List TypeDecl) (v : Value) → IsWire types ty.Bool v → number_in v ≡ truth (is_true v)
bool-is types (B true) h = refl
bool-is types (B false) h = refl
bool-is types (E t k) h = absurd h
bool-is types (I n) h = absurd h
bool-is types Absent h = absurd h
bool-is types Nil h = absurd h
bool-is types Star h = absurd h

module _ (F : Frame) (K : FrameCalls F) where
  abbrev pub C : Callees
  C = callee_wires F.types F.earlier

  abbrev pub Draws : Sketch → List ℕ → List slots.Slot → List Placed → Sketch → List ℕ → Type 0
  Draws d ns ss cs d' ns' = IsDrawn F.slot F.next (supposes_on F.showing F.wires) (owes_on F.showing F.wires) d ns ss cs d' ns'

  abbrev pub Goes : List ℕ → Jump → meaning.Jump → Type 0
  Goes ns j v = GoesTo F.slot F.next (supposes_on F.showing F.wires) (owes_on F.showing F.wires) ns j v

  -- ---- an expression at its place

  abbrev pub ExprPart : Sight → Expr → Clock → Held → Instant → Instant → (TreePlace → TreePlace) → Bool → Bool → Bool → Type 0
  ExprPart V e clock m now stay w here cut kept =
      IsPart F m now stay w here cut kept (remembers F.types C.remembers e m.start []) (next_of F.types C e clock V.names m now) (shown F.types C e clock V.names m now) (wired F.types C e V.names V.last m now)

  pub wired-at : (V : Sight) (e : Expr) (clock : Clock) (t : Ty) (m : Held) (now stay : Instant) (w : TreePlace → TreePlace) (here cut kept : Bool) → IsOn V.standing e clock → ExprSound F.types (node_among F.earlier) V.scope V.has_last e → type_of V.scope e ≡ Some t
      → ExprKept F.types (CalleeKept F.types F.earlier) V.scope e m.start m.memory → ExprGiven F.types (CalleeGiven F.types F.earlier) V.scope e m.free → ExprTyped F.types (CalleeTyped F.types F.earlier) V.scope e now → ExprPart V e clock m now stay w here cut kept
      → IsWiredAt F V e clock t m now stay w here cut kept
  wired-at V e clock t m now stay w here cut kept on ok ty k g y p = record {
    on = on;
    sound = ok;
    type_is = ty;
    shape = k;
    fits = g;
    typed = y;
    solves = p.solves;
    zeros = p.zeros;
    given = p.given;
    stored = p.stored;
    placed = p.placed;
    same = p.same;
  }

  module _ (V : Sight) (S : IsSight F V) (place : Place) (here cut kept : Bool) where
    abbrev Ready : Sketch → List ℕ → Type 0
    Ready d ns = IsReady F.slot F.types V.names V.last V.drawn_scope place [] here cut kept d ns

    -- a condition on the base clock
    abbrev Test : Expr → (TreePlace → TreePlace) → Sketch → List ℕ → Instant → Type 0
    Test e w d ns now =
        (ns' : List ℕ) × Draws d ns (slots_of F V e w) (calls e w) (drawn F.told F.brings V.drawn_scope place e d).1 ns' × Has ns' (drawn F.told F.brings V.drawn_scope place e d).0.wire (truth (is_true (top now)))

    pub test-drawn : (e : Expr) (m : Held) (now stay : Instant) (w : TreePlace → TreePlace) (d : Sketch) (ns : List ℕ) → IsOn V.standing e [] → ExprSound F.types (node_among F.earlier) V.scope V.has_last e → type_of V.scope e ≡ Some ty.Bool
        → ExprKept F.types (CalleeKept F.types F.earlier) V.scope e m.start m.memory → ExprGiven F.types (CalleeGiven F.types F.earlier) V.scope e m.free → ExprTyped F.types (CalleeTyped F.types F.earlier) V.scope e now → ExprPart V e [] m now stay w here cut kept
        → Ready d ns → AreHeld F.slot F.raw F.given (slots_of F V e w) (length d.slots) → Test e w d ns now
    test-drawn e m now stay w d ns on ok te k g y p r h =
        let x = expression F V e [] ty.Bool m now stay w place here cut kept d ns K S (wired-at V e [] ty.Bool m now stay w here cut kept on ok te k g y p) r h in
        let b = bool-is F.types (top now) (top_is F.types (CalleeTyped F.types F.earlier) V.scope e ty.Bool now te y) in
        (x.numbers, x.drawn_is, subst (λ n. Has x.numbers (drawn F.told F.brings V.drawn_scope place e d).0.wire n) b x.carried)

    -- ---- transitions

    module _ (all : States) (words : Words) (shaped : is_mark words.lines.shape ≡ false) (numbered : (x : List ℕ) → or_none (words.numbers x) ≡ number_of 0 all x) where
      abbrev Values : List Trans → Held → Instant → List Value
      Values ts m now = map top (wired_conditions F.types C ts V.names V.last m now)

      abbrev pub TestsPart : List Trans → Held → Instant → Instant → (TreePlace → TreePlace) → Type 0
      TestsPart ts m now stay w =
          IsPart F m now stay w here cut kept (in_row (remembers_conditions F.types C.remembers ts m.start [])) (in_row (next_conditions F.types C ts V.names m now)) (in_row (shown_conditions F.types C ts V.names m now))
          (in_row (wired_conditions F.types C ts V.names V.last m now))

      restart-number : (q : Trans) (d : Sketch) (ns : List ℕ) → IsSolved F.slot d ns → Has ns (restarts q) (truth q.restart)
      restart-number q d ns g = by q.restart
        where
          by : (b : Bool) → Has ns (if b then high else low) (truth b)
          by true = g.high_is
          by false = g.low_is

      -- one transition more
      one-more : (q : Trans) (rest : Jump) (c : ℕ) (b : Bool) (v : meaning.Jump) (d : Sketch) (ns : List ℕ) → IsSolved F.slot d ns → Goes ns rest (if b then record { state = number_of 0 all q.target; restart = q.restart } else v) → Has ns c (truth b)
          → (ns' : List ℕ) × Draws d ns [] [] (transition words.numbers words.lines.shape rest c q d).1 ns' × Goes ns' (transition words.numbers words.lines.shape rest c q d).0 v
      unfolding transition
      one-more q rest c b v d ns g h k =
          let sup = supposes_on F.showing F.wires in
          let owe = owes_on F.showing F.wires in
          let p = words.lines.shape in
          let n = or_none (words.numbers q.target) in
          let target = jump_to p n (restarts q) d in
          let a = jump-made F.slot F.next sup owe p n (restarts q) q.restart d ns g (restart-number q d ns g) in
          let more : (w k : ℕ) → Has ns w k → Has a.0 w k = stays F.slot F.next sup owe d ns [] [] target.1 a.0 a.1 in
          let u : meaning.Jump = record { state = number_of 0 all q.target; restart = q.restart } in
          let to : Goes a.0 target.0 u = (subst (λ i. Has a.0 target.0.state i) (numbered q.target) a.2.0, a.2.1) in
          let x = jump-added F.slot F.next sup owe rest p shaped c target.0 b u v target.1 a.0 a.1.solved (goes-more F.slot F.next sup owe ns a.0 rest (if b then u else v) more h) (more c (truth b) k) to in
          (x.0, both F.slot F.next sup owe d ns [] [] target.1 a.0 [] [] (transition words.numbers words.lines.shape rest c q d).1 x.0 a.1 x.1, x.2)

      pub transitions-drawn : (ts : List Trans) (none : meaning.Jump) (m : Held) (now stay : Instant) (w : TreePlace → TreePlace) (rest : Jump) (d : Sketch) (ns : List ℕ) → ConditionsOn V.standing ts → TestsSound F.types (node_among F.earlier) V.scope V.has_last ts
          → TestsKept F.types (CalleeKept F.types F.earlier) V.scope ts m.start m.memory → TestsGiven F.types (CalleeGiven F.types F.earlier) V.scope ts m.free → TestsTyped F.types (CalleeTyped F.types F.earlier) V.scope ts now → TestsPart ts m now stay w
          → Ready d ns → Goes ns rest (first_true all ts (Values ts m now) none) → AreHeld F.slot F.raw F.given (slots_of_conditions F.types F.outs F.callee ts V.types w) (length d.slots)
          → (ns' : List ℕ) × Draws d ns (slots_of_conditions F.types F.outs F.callee ts V.types w) (calls_in_conditions ts w) (drawn_transitions F.told F.brings V.drawn_scope place words ts rest d).1 ns' × Goes ns' (drawn_transitions F.told F.brings V.drawn_scope place words ts rest d).0 none
      transitions-drawn [] none m now stay w rest d ns on ok k g y p r j h = (ns, nothing-drawn F.slot F.next (supposes_on F.showing F.wires) (owes_on F.showing F.wires) d ns r.solved, j)
      transitions-drawn (q ∷ ts) none m now stay w rest d ns on ok k g y p r j h =
          let sup = supposes_on F.showing F.wires in
          let owe = owes_on F.showing F.wires in
          let ss = slots_of F V q.cond (below Head w) in
          let ts' = slots_of_conditions F.types F.outs F.callee ts V.types (below Tail w) in
          let cs = calls q.cond (below Head w) in
          let ph = part-at F Head m now stay w here cut kept (in_row (remembers_conditions F.types C.remembers (q ∷ ts) m.start [])) (in_row (next_conditions F.types C (q ∷ ts) V.names m now)) (in_row (shown_conditions F.types C (q ∷ ts) V.names m now))
          (in_row (wired_conditions F.types C (q ∷ ts) V.names V.last m now)) p in
          let pt = part-at F Tail m now stay w here cut kept (in_row (remembers_conditions F.types C.remembers (q ∷ ts) m.start [])) (in_row (next_conditions F.types C (q ∷ ts) V.names m now)) (in_row (shown_conditions F.types C (q ∷ ts) V.names m now))
          (in_row (wired_conditions F.types C (q ∷ ts) V.names V.last m now)) p in
          let x = test-drawn q.cond (held_at Head m) (part Head now) (part Head stay) (below Head w) d ns on.0 ok.0.0 ok.0.1 k.0 g.0 y.0 ph r (held-first F.slot F.raw F.given ss ts' (length d.slots) h) in
          let c = drawn F.told F.brings V.drawn_scope place q.cond d in
          let more : (w k : ℕ) → Has ns w k → Has x.0 w k = stays F.slot F.next sup owe d ns ss cs c.1 x.0 x.1 in
          let b = is_true (top (wired F.types C q.cond V.names V.last (held_at Head m) (part Head now))) in
          let cb : Has x.0 c.0.wire (truth b) = subst (λ i. Has x.0 c.0.wire (truth (is_true (top i)))) ph.solves x.2 in
          let v = first_true all ts (Values ts (held_at Tail m) (part Tail now)) none in
          let a = one-more q rest c.0.wire b v c.1 x.0 x.1.solved (goes-more F.slot F.next sup owe ns x.0 rest (first_true all (q ∷ ts) (Values (q ∷ ts) m now) none) more j) cb in
          let s1 = transition words.numbers words.lines.shape rest c.0.wire q c.1 in
          let d1 = ended F.slot F.next sup owe d ns ss cs c.1 x.0 s1.1 a.0 x.1 a.1 in
          let r1 = ready-more F.slot F.next sup owe F.types V.names V.last V.drawn_scope place [] here cut kept d ns ss cs s1.1 a.0 d1 r in
          let o = transitions-drawn ts none (held_at Tail m) (part Tail now) (part Tail stay) (below Tail w) s1.0 s1.1 a.0 on.1 ok.1 k.1 g.1 y.1 pt r1 a.2 (held-behind F.slot F.next sup owe F.raw F.given d ns ss cs s1.1 a.0 ts' d1 h) in
          (o.0, both F.slot F.next sup owe d ns ss cs s1.1 a.0 ts' (calls_in_conditions ts (below Tail w)) (drawn_transitions F.told F.brings V.drawn_scope place words ts s1.0 s1.1).1 o.0 d1 o.1, o.2)

      -- a jump by some transitions, else where another one goes
      pub jump-drawn : (ts : List Trans) (other : Jump) (none : meaning.Jump) (m : Held) (now stay : Instant) (w : TreePlace → TreePlace) (d : Sketch) (ns : List ℕ) → ConditionsOn V.standing ts → TestsSound F.types (node_among F.earlier) V.scope V.has_last ts
          → TestsKept F.types (CalleeKept F.types F.earlier) V.scope ts m.start m.memory → TestsGiven F.types (CalleeGiven F.types F.earlier) V.scope ts m.free → TestsTyped F.types (CalleeTyped F.types F.earlier) V.scope ts now → TestsPart ts m now stay w
          → Ready d ns → Goes ns other none → AreHeld F.slot F.raw F.given (slots_of_conditions F.types F.outs F.callee ts V.types w) (length d.slots)
          → (ns' : List ℕ) × Draws d ns (slots_of_conditions F.types F.outs F.callee ts V.types w) (calls_in_conditions ts w) (drawn_jump F.told F.brings V.drawn_scope place words ts other d).1 ns'
          × Goes ns' (drawn_jump F.told F.brings V.drawn_scope place words ts other d).0 (first_true all ts (Values ts m now) none)
      jump-drawn ts other none m now stay w d ns on ok k g y p r j h =
          let sup = supposes_on F.showing F.wires in
          let owe = owes_on F.showing F.wires in
          let v = first_true all ts (Values ts m now) none in
          let ss = slots_of_conditions F.types F.outs F.callee ts V.types w in
          let cs = calls_in_conditions ts w in
          let j0 = jump_hole words.lines.shape d in
          let a = jump-opened F.slot F.next sup owe words.lines.shape shaped v d ns r.solved in
          let more : (w k : ℕ) → Has ns w k → Has a.0 w k = stays F.slot F.next sup owe d ns [] [] j0.1 a.0 a.1 in
          let r1 = ready-more F.slot F.next sup owe F.types V.names V.last V.drawn_scope place [] here cut kept d ns [] [] j0.1 a.0 a.1 r in
          let x = transitions-drawn ts none m now stay w j0.0 j0.1 a.0 on ok k g y p r1 a.2 (held-behind F.slot F.next sup owe F.raw F.given d ns [] [] j0.1 a.0 ss a.1 h) in
          let t = drawn_transitions F.told F.brings V.drawn_scope place words ts j0.0 j0.1 in
          let more-x : (w k : ℕ) → Has a.0 w k → Has x.0 w k = stays F.slot F.next sup owe j0.1 a.0 ss cs t.1 x.0 x.1 in
          let e = jump-ended F.slot F.next sup owe t.0 other none t.1 x.0 x.1.solved x.2 (goes-more F.slot F.next sup owe ns x.0 other none (λ w k q. more-x w k (more w k q)) j) in
          let d1 = both F.slot F.next sup owe d ns [] [] j0.1 a.0 ss cs t.1 x.0 a.1 x.1 in
          (x.0, ended F.slot F.next sup owe d ns ss cs t.1 x.0 (jump_end t.0 other t.1) x.0 d1 e, goes-more F.slot F.next sup owe a.0 x.0 j0.0 v more-x a.2)
