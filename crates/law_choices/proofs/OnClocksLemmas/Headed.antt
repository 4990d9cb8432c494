-- The first variables of a node that is made have the kinds of its inputs, its controllable variables and its outputs.
use Rattle.std.proofs.Common.{◌≡◌, ℕ, ◌+◌, true, List, [], ◌∷◌, ◌++◌, length, None, Some, refl, sym, ap, ap₂, subst, ◌∙◌, arith}
use Rattle.std.specs.List.{range_with_len}
use Rattle.std.proofs.lemmas.List.{length-append}
use Rattle.hp_base.specs.Kinds.{KindData}
use Rattle.hp_obc.specs.Machines.{ObcType}
use Rattle.hp_tree.specs.Blocks.{Decl}
use Rattle.hp_tree.specs.Programs.{Node}
use Rattle.hp_tree.specs.Meaning.{controls_of}
use Rattle.hp_flat.specs.Nodes.{FlatNode}
use Rattle.law_equations.specs.Meaning.Kinding.{kinds_at}
use Rattle.law_equations.specs.Meaning.Reactions.{inputs_of}
use Rattle.law_equations.specs.Made.Making.{Known, Sketch, Seen, next, flat_type, with_variable, put, no_entry, nothing_made, numbers_from, signed, signature, sketch_node}
use Rattle.hp_complete.specs.Made.{IsMadeOf}
use Rattle.law_wellmade.proofs.BegunLemmas.Keeping.{Keeps, moved, both, variable_typed}
use Rattle.law_wellmade.specs.Regular.Kinds.{kinds_of_decls}
use Rattle.law_wellmade.proofs.RegularLemmas.Good.{longer}
use Rattle.law_wellmade.proofs.RegularLemmas.Expressions.{Outputs, outputs_moved}
use Rattle.law_choices.proofs.OnClocksLemmas.Steps.{Grows}
use Rattle.law_choices.proofs.OnClocksLemmas.MadeClocks.{within}

-- ---- the variables of a signature

module _ (k : Known) where
  abbrev with_decl : Decl → Seen → Seen
  with_decl d m = (put d.name (record { ty = flat_type k.types d.ty; value = Some (next m.1); last = None; is_local = true }) m.0, with_variable d.name (flat_type k.types d.ty) m.1)

  one_longer : (d : Decl) (m : Seen) → next (with_decl d m).1 ≡ next m.1 + 1
  one_longer d m = length-append m.1.variables _

  one_keeps : (d : Decl) (m : Seen) → Keeps m.1 (with_decl d m).1
  one_keeps d m = record { kept = λ i v h. longer m.1.variables (record { name = d.name; ty = flat_type k.types d.ty } ∷ []) i v h }

  signed_keeps : (ds : List Decl) (m : Seen) → Keeps m.1 (signed k ds m).1
  signed_keeps [] m = record { kept = λ x v h. h }
  signed_keeps (d ∷ ds) m = both m.1 (with_decl d m).1 (signed k ds (with_decl d m)).1 (one_keeps d m) (signed_keeps ds (with_decl d m))

  signed_next : (ds : List Decl) (m : Seen) → next (signed k ds m).1 ≡ next m.1 + length ds
  signed_next [] m = omega arith
  signed_next (d ∷ ds) m = let one = one_longer d m in let rest = signed_next ds (with_decl d m) in omega (arith, one, rest)

  signed_typed : (ds : List Decl) (m : Seen) → Outputs k (signed k ds m).1 (next m.1) ds
  signed_typed [] m = tt
  signed_typed (d ∷ ds) m =
      let t = flat_type k.types d.ty in
      let e = with_decl d m in (
        moved e.1 (signed k ds e).1 (next m.1) t (signed_keeps ds e) (variable_typed d.name t m.1),
        subst (λ j. Outputs k (signed k ds e).1 j ds) (one_longer d m) (signed_typed ds e),
      )

  all_typed : (d : Sketch) (xs ys : List Decl) (j : ℕ) → Outputs k d j xs → Outputs k d (j + length xs) ys → Outputs k d j (xs ++ ys)
  all_typed d [] ys j h g = let same : j + 0 ≡ j = omega arith in subst (λ i. Outputs k d i ys) same g
  all_typed d (x ∷ xs) ys j h g = let same : j + length (x ∷ xs) ≡ (j + 1) + length xs = omega arith in (h.0, all_typed d xs ys (j + 1) h.1 (subst (λ i. Outputs k d i ys) same g))

  -- inputs and controllable variables come first, then outputs
  record SignatureTyped (n : Node) (d : Sketch) : Type 0 where
    takes : Outputs k d 0 (n.inputs ++ controls_of n.contract)
    gives : Outputs k d (length n.inputs + length (controls_of n.contract)) n.outputs

  signature_typed : (n : Node) → SignatureTyped n (signature k n).1
  signature_typed n =
      let first : Seen = (no_entry, nothing_made) in
      let controls = controls_of n.contract in
      let a = signed k n.inputs first in
      let b = signed k controls a in
      let sign = signature k n in
      let to_sign = signed_keeps n.outputs b in
      let ins : Outputs k sign.1 0 n.inputs = outputs_moved [] k n.inputs 0 a.1 sign.1 (both a.1 b.1 sign.1 (signed_keeps controls a) to_sign) (signed_typed n.inputs first) in
      let next_a : next a.1 ≡ 0 + length n.inputs = signed_next n.inputs first in
      let next_b = signed_next controls a in
      let mids : Outputs k sign.1 (next a.1) controls = outputs_moved [] k controls (next a.1) b.1 sign.1 to_sign (signed_typed controls a) in
      let start : next b.1 ≡ length n.inputs + length controls = omega (arith, next_a, next_b) in
      record {
        takes = all_typed sign.1 n.inputs controls 0 ins (subst (λ j. Outputs k sign.1 j controls) next_a mids);
        gives = subst (λ j. Outputs k sign.1 j n.outputs) start (signed_typed n.outputs b);
      }

-- ---- kinds

-- What a node that is made takes and gives has the kinds of the node's declarations.
pub record KindsSigned (types : List ObcType) (k : Known) (n : Node) (f : FlatNode) : Type 0 where
  pub takes : kinds_of_decls types k (n.inputs ++ controls_of n.contract) ≡ kinds_at types f (inputs_of f)
  pub gives : kinds_of_decls types k n.outputs ≡ kinds_at types f f.outputs

in_a_row : (j : ℕ) (ds : List Decl) → numbers_from j ds ≡ range_with_len j (length ds)
in_a_row j [] = refl
in_a_row j (d ∷ ds) = ap (λ xs. j ∷ xs) (in_a_row (j + 1) ds)

module _ (types : List ObcType) (k : Known) (n : Node) (f : FlatNode) (made : IsMadeOf k n f) where
  kinds_of : (j : ℕ) (ds : List Decl) → Outputs k (sketch_node k n) j ds → kinds_of_decls types k ds ≡ kinds_at types f (numbers_from j ds)
  kinds_of j [] h = refl
  kinds_of j (d ∷ ds) h = ap₂ (λ (z : KindData) zs. z ∷ zs) (sym ((within types k n f made).kinds j (flat_type k.types d.ty) h.0)) (kinds_of (j + 1) ds h.1)

  pub kinds_signed : Grows (signature k n).1 (sketch_node k n) → KindsSigned types k n f
  kinds_signed grows =
      let s = signature_typed k n in
      let d = sketch_node k n in
      let takers = n.inputs ++ controls_of n.contract in
      let long = length-append n.inputs (controls_of n.contract) in
      let many : length takers ≡ f.inputs = long ∙ sym made.inputs in
      record {
        takes = kinds_of 0 takers (outputs_moved [] k takers 0 (signature k n).1 d grows.types s.takes) ∙ ap (kinds_at types f) (in_a_row 0 takers ∙ ap (range_with_len 0) many);
        gives = kinds_of (length n.inputs + length (controls_of n.contract)) n.outputs (outputs_moved [] k n.outputs (length n.inputs + length (controls_of n.contract)) (signature k n).1 d grows.types s.gives)
            ∙ ap (kinds_at types f) (sym made.outputs);
      }
