-- What is given for a node, made of its types, is of the types of its slots, whatever stands for the controllable variables.
use Rattle.std.proofs.Common.{◌≡◌, ℕ, List, [], ◌∷◌, ◌++◌, map, refl, sym, subst}
use Rattle.std.specs.Prelude.{reverse, Some}
use Rattle.hp_base.specs.declared.ty.Ty.{Ty}
use Rattle.hp_base.specs.declared.ty.Ty.TheVariants as ty
use Rattle.hp_base.specs.declared.value.Value.{Value}
use Rattle.hp_tree.specs.declared.program.Item.{Item}
use Rattle.hp_tree.specs.Blocks.{Decl}
use Rattle.hp_tree.specs.Programs.{TypeDecl, Node}
use Rattle.hp_tree.specs.ExpressionTypes.{typed_in, untyped}
use Rattle.hp_tree.specs.Instant.{Inputs, Controls, Body, Head, Tail, Place, Instant, part, alone, in_row}
use Rattle.hp_tree.specs.Meaning.{types_of, controls_of, node_among}
use Rattle.hp_meaning.specs.Causal.Sources.{below}
use Rattle.hp_meaning.specs.Causal.Steering.{steered_by}
use Rattle.hp_meaning.specs.Contract.Game.{Choice, at_controls}
use Rattle.hp_meaning.specs.Contract.Slots.{Slot, input, control, callee_slots, slots_of_contract, slots_of_block, slots_of_node}
use Rattle.law_values.specs.Filled.Firsts.{DeclsHaveFirsts}
use Rattle.law_games.specs.Wires.WiredCallees.{callee_wires}
use Rattle.law_games.specs.Wiretyped.Typed.{IsWire, AreWires}
use Rattle.law_games.specs.Wiretyped.Callees.{CalleeGiven}
use Rattle.law_games.specs.Mirror.Mirrored.{given_with}
use Rattle.law_games.specs.Mirror.Memories.{AreApart, SlotsFit}
use Rattle.law_games.proofs.ForcedLemmas.Fitted.{Under, lasts_slots, fits_joined, lasts_fit, block_of, contract_of}
use Rattle.law_games.proofs.ForcedLemmas.FittedNodes.{decls_by, of_called, kind_of, row_slots, callee_of, mended_for}

module _ (types : List TypeDecl) where
  input_of : (t : Ty) (q : Place) (i : Instant) → IsWire types t (i q) → SlotsFit types (kind_of types input q t) i
  input_of ty.Bool q i h = (h, tt)
  input_of ty.Int q i h = tt
  input_of (ty.Enum t) q i h = (h, tt)

  inputs_of : (ds : List Decl) (vs : List Value) (w : Place → Place) (root : Instant) → AreWires types ds vs → Under w root (in_row (map alone vs)) → SlotsFit types (row_slots types input ds w) root
  inputs_of [] vs w root a u = tt
  inputs_of (d ∷ ds) [] w root a u = absurd a
  inputs_of (d ∷ ds) (v ∷ vs) w root a u =
      fits_joined types (kind_of types input (w (Head ∷ [])) d.ty) (row_slots types input ds (below Tail w)) root (input_of d.ty (w (Head ∷ [])) root (subst (IsWire types d.ty) (sym (u (Head ∷ []))) a.0))
      (inputs_of ds vs (below Tail w) root a.1 (λ p. u (Tail ∷ p)))

  control_of : (t : Ty) (q : Place) (i : Instant) → SlotsFit types (kind_of types control q t) i
  control_of ty.Bool q i = tt
  control_of ty.Int q i = tt
  control_of (ty.Enum t) q i = tt

  controls_fit : (ds : List Decl) (w : Place → Place) (root : Instant) → SlotsFit types (row_slots types control ds w) root
  controls_fit [] w root = tt
  controls_fit (d ∷ ds) w root =
      fits_joined types (kind_of types control (w (Head ∷ [])) d.ty) (row_slots types control ds (below Tail w)) root (control_of d.ty (w (Head ∷ [])) root) (controls_fit ds (below Tail w) root)

pub slots_made : (program earlier : List Item) (n : Node) → ((f : List ℕ) (k : Node) → node_among earlier f ≡ Some k → node_among (reverse program) f ≡ Some k)
    → ((f : List ℕ) (k : Node) → node_among (reverse program) f ≡ Some k → AreApart k.outputs × DeclsHaveFirsts (types_of program) k.outputs)
    → (start i : Instant) (inputs : List Value) → AreWires (types_of program) n.inputs inputs → (c : Choice) → SlotsFit (types_of program) (slots_of_node program n) (given_with inputs (mended_for program n start i) c)
slots_made program earlier n found declared start i inputs a c =
    let types = types_of program in
    let outs : List ℕ → List Decl = λ f. decls_by types (node_among (reverse program) f) in
    let called : List ℕ → (Place → Place) → List Slot = λ f w. callee_slots types (node_among (reverse program) f) w in
    let here : Place → Place = λ p. p in
    let seen = typed_in n.inputs (typed_in n.outputs untyped) in
    let J = mended_for program n start i in
    let calls = λ (f : List ℕ) (start i : Instant). of_called types earlier f (node_among (reverse program) f) (found f) (declared f) start i in
    let k = contract_of types (callee_wires types earlier) outs called (callee_of program) (CalleeGiven types earlier) calls n.contract start i (steered_by J (at_controls c)) (refl, refl, refl) in
    let b = block_of types (callee_wires types earlier) outs called (callee_of program) (CalleeGiven types earlier) calls n.body (part Body start) (part Body i) in
    let root = given_with inputs J c in
    let s1 = row_slots types input n.inputs (below Inputs here) in
    let s2 = lasts_slots types n.outputs here in
    let s3 = row_slots types control (controls_of n.contract) (below Controls here) in
    let s4 = slots_of_contract types outs called n.contract seen here in
    let s5 = slots_of_block types outs called n.body (typed_in (controls_of n.contract) seen) (below Body here) in
    fits_joined types s1 (s2 ++ (s3 ++ (s4 ++ s5))) root (inputs_of types n.inputs inputs (below Inputs here) root a (λ p. refl))
    (fits_joined types s2 (s3 ++ (s4 ++ s5)) root (lasts_fit types n.outputs here root)
    (fits_joined types s3 (s4 ++ s5) root (controls_fit types (controls_of n.contract) (below Controls here) root)
    (fits_joined types s4 s5 root (k.2 seen here root ((λ p. refl), ((λ p. refl), (λ p. refl)))) (b.2 (typed_in (controls_of n.contract) seen) (below Body here) root (λ p. refl)))))
