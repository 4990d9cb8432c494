-- A ranked program without controllable variables has one run over each list of inputs.
use Rattle.std.proofs.Common.{◌≡◌, suc, List, [], ◌∷◌, map, length, refl, sym, ap, ◌∙◌, arith, subst, ℕ}
use Rattle.std.specs.Prelude.{⊤, reverse, Option, None, Some, Bool, true, false, if◌then◌else◌}
use Rattle.hp_base.specs.declared.value.Value.{Value}
use Rattle.hp_tree.specs.declared.program.Item.{Item}
use Rattle.hp_tree.specs.declared.program.Item.TheVariants.{TypeItem, NodeItem}
use Rattle.hp_tree.specs.Operators.{real}
use Rattle.hp_tree.specs.Instant.{Controls, Place, Instant, Past, nothing, part}
use Rattle.hp_tree.specs.Meaning.{Nodes, nodes, meaning, types_of, given_to, controls_of, node_among}
use Rattle.hp_tree.specs.Blocks.{Decl}
use Rattle.hp_tree.specs.Programs.{TypeDecl, Contract, Node}
use Rattle.hp_tree.specs.Reaction.{outputs_at, Each, row_of}
use Rattle.hp_meaning.specs.Causal.OneReaction.{Said, ReactionOf}
use Rattle.hp_meaning.specs.Causal.Runs.{NoControls, SomeRunLaw, OneRunLaw}
use Rattle.hp_meaning.proofs.CausalLemmas.Fix.{Fixed}
use Rattle.hp_meaning.proofs.CausalLemmas.Swap.{given}
use Rattle.hp_meaning.proofs.CausalLemmas.LookedAt.{SameControls, nodes_agree}
use Rattle.hp_meaning.proofs.CausalLemmas.Unique.{onto, one_reaction, same_pasts}
use Rattle.hp_tree.specs.Values.{AreOf}
use Rattle.std.specs.Str.{bytes_eq}

abbrev list_onto : {A : Type 0} → List A → List A → List A
list_onto [] ys = ys
list_onto (x ∷ xs) ys = list_onto xs (x ∷ ys)

none_onto : (xs ys : List Item) → NoControls xs → NoControls ys → NoControls (onto xs ys)
none_onto [] ys r s = s
none_onto (TypeItem t ∷ xs) ys r s = none_onto xs (TypeItem t ∷ ys) r s
none_onto (NodeItem n ∷ xs) ys r s = none_onto xs (NodeItem n ∷ ys) r.1 (r.0, s)

pub none_reverse : (program : List Item) → NoControls program → NoControls (reverse program)
none_reverse program r = none_onto program [] r tt

-- ---- whatever is given

abbrev Any : Instant → Instant → Instant → Type 0
Any free other now = ⊤

none_given : (types : List TypeDecl) (N : Nodes) (k : Option Contract) (free other : Instant) → controls_of k ≡ [] → given_to types real N (controls_of k) free ≡ given_to types real N (controls_of k) other
none_given types N None free other e = refl
none_given types N (Some c) free other e = none_of c.controls free other e
  where
    none_of : (ds : List Decl) (free other : Instant) → ds ≡ [] → given_to types real N ds free ≡ given_to types real N ds other
    none_of [] free other e = refl
    none_of (d ∷ ds) free other e = absurd (cc)

no_controls : (types : List TypeDecl) (items : List Item) → NoControls items → SameControls types Any (λ s free other now q. tt) items
no_controls types [] k = tt
no_controls types (TypeItem t ∷ items) k = no_controls types items k
no_controls types (NodeItem n ∷ items) k = ((λ free other now q there. none_given types (nodes types real items) n.contract (part Controls free) (part Controls other) k.0), no_controls types items k.1)

module _ (said : Said) (still : (vs : List Value) (past : Past) (free other now : Instant) → Fixed (said vs (given past free)) now → (p : Place) → said vs (given past free) now p ≡ said vs (given past other) now p) where
  moved : (inputs : List (List Value)) (frees others : List Instant) (past : Past) → length others ≡ length frees → ReactionOf said inputs frees past → ReactionOf said inputs others past
  moved [] [] [] [] e r = tt
  moved [] [] [] (i ∷ past) e r = absurd r
  moved [] [] (o ∷ others) past e r = absurd (omega arith)
  moved [] (free ∷ frees) others past e r = absurd r
  moved (vs ∷ inputs) [] others past e r = absurd r
  moved (vs ∷ inputs) (free ∷ frees) [] past e r = absurd (omega arith)
  moved (vs ∷ inputs) (free ∷ frees) (o ∷ others) [] e r = absurd r
  moved (vs ∷ inputs) (free ∷ frees) (o ∷ others) (now ∷ past) e r =
      (moved inputs frees others past (omega arith) r.0, λ p. r.1 p ∙ still vs past free o now r.1 p)

  as_many : (inputs : List (List Value)) (frees : List Instant) (past : Past) → ReactionOf said inputs frees past → length frees ≡ length inputs
  as_many [] [] past r = refl
  as_many [] (free ∷ frees) past r = absurd r
  as_many (vs ∷ inputs) [] past r = absurd r
  as_many (vs ∷ inputs) (free ∷ frees) [] r = absurd r
  as_many (vs ∷ inputs) (free ∷ frees) (now ∷ past) r = ap suc (as_many inputs frees past r.0)

blanks : List (List Value) → List Instant
blanks [] = []
blanks (vs ∷ inputs) = nothing ∷ blanks inputs

as_many_blanks : (inputs : List (List Value)) → length (blanks inputs) ≡ length inputs
unfolding blanks
as_many_blanks [] = refl
as_many_blanks (vs ∷ inputs) = ap suc (as_many_blanks inputs)

-- ---- values of types

each_onto : {A : Type 0} (P : A → Type 0) (xs ys : List A) → Each P xs → Each P ys → Each P (list_onto xs ys)
each_onto P [] ys h k = k
each_onto P (x ∷ xs) ys h k = each_onto P xs (x ∷ ys) h.1 (h.0, k)

pub each_reverse : {A : Type 0} (P : A → Type 0) (xs : List A) → Each P xs → Each P (reverse xs)
each_reverse P xs h = each_onto P xs [] h tt

pub uncontrolled : (items : List Item) (f : List ℕ) (n : Node) → NoControls items → node_among items f ≡ Some n → controls_of n.contract ≡ []
uncontrolled [] f n k e = absurd (cc)
uncontrolled (TypeItem t ∷ items) f n k e = uncontrolled items f n k e
uncontrolled (NodeItem m ∷ items) f n k e = found (bytes_eq m.name f) (uncontrolled items f n k.1) e
  where
    found : (d : Bool) → (node_among items f ≡ Some n → controls_of n.contract ≡ []) → (if d then Some m else node_among items f) ≡ Some n → controls_of n.contract ≡ []
    found true rest e = let s : m ≡ n = cc in subst (λ (n : Node). controls_of n.contract ≡ []) s k.0
    found false rest e = rest e

pub none_fit : (types : List TypeDecl) (ds : List Decl) (past : Past) → ds ≡ [] → Each (λ (now : Instant). AreOf types ds (row_of ds (part Controls now))) past
none_fit types ds [] e = tt
none_fit types [] (now ∷ past) e = (tt, none_fit types [] past e)
none_fit types (d ∷ ds) (now ∷ past) e = absurd (cc)

pub run : SomeRunLaw
run program f n inputs r k is fit =
    let back = reverse inputs in
    let types = types_of program in
    let e = as_many_blanks back in
    let one = one_reaction program f back (blanks back) r e in
    let said = meaning real program f in
    let still = λ (vs : List Value) (past : Past) (free other now : Instant). nodes_agree types Any (λ s free other now q. tt) (reverse program) (no_controls types (reverse program) (none_reverse program k)) f vs past free other now tt in (
      reverse (map (outputs_at program f) one.past),
      record {
        some = (
          blanks back,
          one.past,
          record {
            node = n;
            is_node = is;
            inputs_fit = each_reverse (AreOf types n.inputs) inputs fit;
            controls_fit = none_fit types (controls_of n.contract) one.past (uncontrolled (reverse program) f n (none_reverse program k) is);
            reaction = one.is_one;
          },
        );
        every = λ frees past q.
            let l = as_many said still back frees past q.reaction in
            let s = one.only past (moved said still back frees (blanks back) past (e ∙ sym l) q.reaction) in
            ap (λ z. reverse (map (outputs_at program f) z)) (same_pasts past one.past s);
      },
    )

pub one_run : OneRunLaw
one_run program f inputs outputs others a b =
    let s = a.some in
    sym (a.every s.0 s.1 s.2) ∙ b.every s.0 s.1 s.2
