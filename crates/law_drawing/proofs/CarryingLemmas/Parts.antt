-- Parts of expressions: their places, what is known behind what is drawn, and the instances of calls.
use Rattle.std.proofs.Common.{◌≡◌, ℕ, ◌+◌, Bool, ◌&&◌, List, [], ◌∷◌, ◌++◌, length, map, Option, Some, refl, sym, ap, subst, ◌∙◌}
use Rattle.std.specs.Prelude.{⊤, IsTrue, slice_get}
use Rattle.std.proofs.lemmas.List.{append_assoc}
use Rattle.hp_base.specs.declared.ty.Ty.{Ty}
use Rattle.hp_base.specs.declared.value.Value.{Value}
use Rattle.hp_tree.specs.Blocks.{Decl}
use Rattle.hp_tree.specs.Expressions.{Exprs, no_expr, more_exprs, Parts, no_part, more_parts}
use Rattle.hp_tree.specs.Instant.{Step, Named, Head, Tail, Instant, Clock, part, top, in_row, Place as TreePlace}
use Rattle.hp_tree.specs.Meaning.{Names}
use Rattle.hp_tree.specs.Programs.{TypeDecl}
use Rattle.hp_meaning.specs.Causal.Points.{Placed}
use Rattle.hp_meaning.specs.Causal.Sources.{below}
use Rattle.hp_typing.specs.Types.{type_of, types_in, args_fit, agrees, cons_type, chooses, merge_type, parts_fit}
use Rattle.law_judged.specs.Typed.Scopes.{Scope}
use Rattle.law_values.proofs.ValuedLemmas.Laws.{and_left, and_right}
use Rattle.law_values.proofs.ValuedLemmas.Typed.{arg_typed, where_is}
use Rattle.hp_meaning.specs.Contract.Memory.{number_in}
use Rattle.hp_meaning.specs.Contract.Slots as slots
use Rattle.hp_meaning.specs.Contract.Slots.{free}
use Rattle.hp_circuit.specs.declared.circuit.Slot.{Slot}
use Rattle.law_games.specs.Wires.Wired.{Held, Callees, held_at, values_of, wired, wired_all}
use Rattle.law_games.specs.Wiretyped.Typed.{AreWires, ExprsTyped}
use Rattle.law_games.proofs.WiretypedLemmas.Exprs.{top_is}
use Rattle.hp_drawing.specs.declared.parts.Callee.{Callee}
use Rattle.hp_drawing.specs.declared.parts.Place.{Place}
use Rattle.hp_drawing.specs.Scopes as scopes
use Rattle.hp_drawing.specs.Scopes.{value_in, last_in}
use Rattle.hp_drawing.specs.Sketch.{Sketch}
use Rattle.law_drawing.specs.Carrying.Solving.{Has}
use Rattle.law_drawing.specs.Carrying.Drawing.{AreHeld, IsDrawn, IsClock, IsReady, IsAt, AreOutputs, AreInputs}
use Rattle.law_drawing.proofs.CarryingLemmas.Numbers.{get-front}
use Rattle.law_drawing.proofs.CarryingLemmas.Slots.{held-rest}
use Rattle.law_drawing.proofs.CarryingLemmas.Steps.{stays, slots-behind, clock-stays}
use Rattle.law_drawing.proofs.CarryingLemmas.Registers.{IsPending, still, place-more}

-- ---- places

pub at-part : (step : Step) (wires shown_all : Instant) (here : Bool) (w : TreePlace → TreePlace) (now shown : Instant) → IsAt wires shown_all here w now shown → IsAt wires shown_all here (below step w) (part step now) (part step shown)
at-part step wires shown_all here w now shown h = record {
  inside = λ p. ap (λ l. l ++ p) (sym (h.inside (step ∷ []))) ∙ append_assoc (w []) (step ∷ []) p ∙ h.inside (step ∷ p);
  wires_are = λ p. h.wires_are (step ∷ p);
  shown_is = λ p. h.shown_is (step ∷ p);
}

-- ---- behind what is drawn

module _ (slot : ℕ → ℕ) (next : Instant) (supposes owes : Placed → Bool) where
  pub held-behind : (raw given : Instant) (s : Sketch) (ns : List ℕ) (ss : List slots.Slot) (cs : List Placed) (s1 : Sketch) (ns1 : List ℕ) (ts : List slots.Slot) → IsDrawn slot next supposes owes s ns ss cs s1 ns1
      → AreHeld slot raw given (ss ++ ts) (length s.slots) → AreHeld slot raw given ts (length s1.slots)
  held-behind raw given s ns ss cs s1 ns1 ts d h = subst (λ n. AreHeld slot raw given ts n) (sym (slots-behind slot next supposes owes s ns ss cs s1 ns1 d)) (held-rest slot raw given ss ts (length s.slots) h)

  -- the same behind registers that are still to be told
  pub pending-ready : (types : List TypeDecl) (names last : Names) (z : scopes.Scope) (place : Place) (clock : Clock) (here cut kept : Bool) (s : Sketch) (ns : List ℕ) (os : List Slot) (ss : List slots.Slot) (cs : List Placed) (s1 : Sketch) (ns1 : List ℕ)
      → IsPending slot next supposes owes s ns os ss cs s1 ns1 → IsReady slot types names last z place clock here cut kept s ns → IsReady slot types names last z place clock here cut kept s1 ns1
  pending-ready types names last z place clock here cut kept s ns os ss cs s1 ns1 d r =
      let more : (w k : ℕ) → Has ns w k → Has ns1 w k = still slot next supposes owes s ns os ss cs s1 ns1 d in
      record {
        solved = d.solved;
        place_is = place-more slot next supposes owes ns ns1 place here cut kept more r.place_is;
        clock_is = subst (λ c. IsClock types names c ns1 place.clock clock) (sym d.clocks) (subst (λ l. IsClock types names (s.clocks ++ d.more_clocks) l place.clock clock) (sym d.grown) (clock-stays types names s.clocks d.more_clocks ns d.more place.clock clock r.clock_is));
        values = λ x. more (value_in z x).wire (number_in (names x)) (r.values x);
        lasts = λ x. more (last_in z x).wire (number_in (last x)) (r.lasts x);
      }

  pub outputs-more : (s : Sketch) (ns : List ℕ) (ss : List slots.Slot) (cs : List Placed) (s1 : Sketch) (ns1 : List ℕ) (c : Callee) (now : Instant) (ds : List Decl) (k : ℕ) → IsDrawn slot next supposes owes s ns ss cs s1 ns1 → AreOutputs s ns c now ds k → AreOutputs s1 ns1 c now ds k
  outputs-more s ns ss cs s1 ns1 c now [] k d h = tt
  outputs-more s ns ss cs s1 ns1 c now (e ∷ ds) k d h = (
    stays slot next supposes owes s ns ss cs s1 ns1 d (c.outputs + k) (number_in (now (Named e.name ∷ []))) h.0,
    (h.1.0, ap (λ l. slice_get l (c.outputs + k)) d.shapes ∙ get-front s.shapes d.more_shapes (c.outputs + k) h.1.0 h.1.1, h.1.2),
    outputs-more s ns ss cs s1 ns1 c now ds (k + 1) d h.2,
  )

  pub inputs-more : (s : Sketch) (ns : List ℕ) (ss : List slots.Slot) (cs : List Placed) (s1 : Sketch) (ns1 : List ℕ) (c : Callee) (vs : List Value) (k : ℕ) → IsDrawn slot next supposes owes s ns ss cs s1 ns1 → AreInputs ns c vs k → AreInputs ns1 c vs k
  inputs-more s ns ss cs s1 ns1 c [] k d h = tt
  inputs-more s ns ss cs s1 ns1 c (v ∷ vs) k d h = (stays slot next supposes owes s ns ss cs s1 ns1 d (c.inputs + k) (number_in v) h.0, inputs-more s ns ss cs s1 ns1 c vs (k + 1) d h.1)

-- ---- arguments

pub values-same : (types : List TypeDecl) (C : Callees) (es : Exprs) (names last : Names) (m : Held) (now : Instant) → values_of es (in_row (wired_all types C es names last m now)) ≡ map top (wired_all types C es names last m now)
values-same types C no_expr names last m now = refl
values-same types C (more_exprs e es) names last m now = ap (λ vs. top (wired types C e names last (held_at Head m) (part Head now)) ∷ vs) (values-same types C es names last (held_at Tail m) (part Tail now))

pub args-typed : (types : List TypeDecl) (typed : List ℕ → Instant → Type 0) (s : Scope) (es : Exprs) (ds : List Decl) (now : Instant) → IsTrue (args_fit ds (types_in s es)) → ExprsTyped types typed s es now → AreWires types ds (values_of es now)
args-typed types typed s no_expr [] now h w = tt
args-typed types typed s no_expr (d ∷ ds) now h w = absurd cc
args-typed types typed s (more_exprs e es) [] now h w = absurd cc
args-typed types typed s (more_exprs e es) (d ∷ ds) now h w =
    let r = arg_typed d ds (type_of s e) (types_in s es) h in
    (top_is types typed s e d.ty (part Head now) r.0 w.0, args-typed types typed s es ds (part Tail now) r.1 w.1)

-- the constructor of each part of a merge is of the type of its name
abbrev pub PartsAgree : Scope → Option Ty → Parts → Type 0
PartsAgree s name no_part = ⊤
PartsAgree s name (more_parts c e ps) = IsTrue (agrees name (cons_type s c)) × PartsAgree s name ps

parts-agree : (s : Scope) (name first : Option Ty) (ps : Parts) → IsTrue (parts_fit s name first ps) → PartsAgree s name ps
parts-agree s name first no_part h = tt
parts-agree s name first (more_parts c e ps) h = (and_left _ _ h, parts-agree s name first ps (and_right _ _ (and_right _ _ h)))

pub merge-agrees : (s : Scope) (name : Option Ty) (ps : Parts) (t : Ty) → merge_type s name ps ≡ Some t → PartsAgree s name ps
merge-agrees s name no_part t h = absurd cc
merge-agrees s name (more_parts c e ps) t h =
    let a = where_is (chooses name && (agrees name (cons_type s c) && parts_fit s name (type_of s e) ps)) (type_of s e) t h in
    (and_left _ _ (and_right _ _ a.0), parts-agree s name (type_of s e) ps (and_right _ _ (and_right _ _ a.0)))
