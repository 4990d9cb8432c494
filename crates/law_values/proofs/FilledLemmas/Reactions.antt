-- Reactions of accepted programs, and of their filled form.
use Rattle.std.proofs.Common.{◌≡◌, ℕ, List, [], ◌∷◌, ◌++◌, map, reverse, refl, ◌∙◌, sym, ap, ap₂, subst}
use Rattle.std.proofs.Math.Path.{fun_ext}
use Rattle.std.specs.Prelude.{true, false, Option, None, Some}
use Rattle.hp_base.specs.declared.ty.Ty.{Ty}
use Rattle.hp_base.specs.declared.value.Value.{Value}
use Rattle.hp_base.specs.declared.value.Value.TheVariants.{Absent, Nil, B, E, I, Star}
use Rattle.hp_tree.specs.declared.program.Item.{Item}
use Rattle.hp_tree.specs.Programs.{TypeDecl, Node}
use Rattle.hp_tree.specs.Operators.{real, filled}
use Rattle.hp_tree.specs.Instant.{Controls, Named, Instant, Past, Given, or_else}
use Rattle.hp_tree.specs.Meaning.{nodes, meaning, types_of, node_among}
use Rattle.hp_tree.specs.Reaction.{Reaction, Each, outputs_at}
use Rattle.hp_tree.specs.Values.{AreOf}
use Rattle.hp_tree.specs.Filled.{firsts_among, with_firsts, filled_meaning}
use Rattle.hp_meaning.specs.Causal.Causality.{Ranked, IsRanked}
use Rattle.hp_meaning.specs.Causal.OneReaction.{ReactionOf}
use Rattle.hp_meaning.proofs.CausalLemmas.NodesAgree.{ranked_with_contract, ranked_below, node_local}
use Rattle.hp_meaning.proofs.CausalLemmas.Unique.{ranked_reverse, reaction_one, one_filled}
use Rattle.law_judged.specs.Named.Scoped.{EachNode}
use Rattle.law_values.specs.Valued.Values.{Classing, AreAccepted, GivenFits}
use Rattle.law_values.proofs.ValuedLemmas.Programs.{real_values, filled_values}
use Rattle.law_values.specs.Filled.Firsts.{NodeHasFirsts}
use Rattle.law_values.specs.Filled.Under.{Under, PastsUnder, AllSameControls}
use Rattle.law_values.specs.Filled.Laws.{AloneLaw, FilledFitsLaw, OneFilledLaw, AgreeLaw, FilledAgreesLaw, SameOutputsLaw}
use Rattle.law_values.proofs.FilledLemmas.Programs.{each_reverse, firsts_fit}
use Rattle.law_values.proofs.FilledLemmas.Marked.{Agree, AllAgree, PastsAgree, of_none, as_type}
use Rattle.law_values.proofs.FilledLemmas.Expressions.{Solved}
use Rattle.law_values.proofs.FilledLemmas.Agreement.{IsLocal, of_items, ones_only, all_known}
use Rattle.law_values.proofs.FilledLemmas.Uncontrolled.{of_items as none_for}

-- ---- with first values in front of what is given

abbrev all_with_firsts : List Item → List ℕ → List Instant → List Instant
all_with_firsts program f [] = []
all_with_firsts program f (free ∷ frees) = with_firsts program f free ∷ all_with_firsts program f frees

as_filled : (program : List Item) (f : List ℕ) (inputs : List (List Value)) (frees : List Instant) (other : Past) → ReactionOf (filled_meaning program f) inputs frees other → ReactionOf (meaning filled program f) inputs (all_with_firsts program f frees) other
as_filled program f [] [] [] h = tt
as_filled program f (vs ∷ inputs) (free ∷ frees) (now ∷ other) h = (as_filled program f inputs frees other h.0, h.1)
as_filled program f [] [] (now ∷ other) h = absurd h
as_filled program f [] (free ∷ frees) other h = absurd h
as_filled program f (vs ∷ inputs) [] other h = absurd h
as_filled program f (vs ∷ inputs) (free ∷ frees) [] h = absurd h

same_controls : (program : List Item) (f : List ℕ) (frees : List Instant) → AllSameControls frees (all_with_firsts program f frees)
same_controls program f [] = tt
same_controls program f (free ∷ frees) =
    ((λ p q. ap (λ v. or_else v (free (p ++ Controls ∷ q))) (none_for (types_of program) (reverse program) f p q)), same_controls program f frees)

all_fit : (program : List Item) (class : Classing) (f : List ℕ) (frees : List Instant) → AreAccepted (types_of program) class (reverse program) → EachNode (NodeHasFirsts (types_of program)) program → Each (GivenFits (types_of program) true (λ given. Nil) (reverse program) f) frees → Each (GivenFits (types_of program) false (λ given. given) (reverse program) f) (all_with_firsts program f frees)
all_fit program class f [] ok h g = tt
all_fit program class f (free ∷ frees) ok h g = (firsts_fit program class f free ok h g.0, all_fit program class f frees ok h g.1)

pub alone : AloneLaw
alone program f free p e = ap (or_else (firsts_among (types_of program) (reverse program) f p)) e ∙ absent_behind (firsts_among (types_of program) (reverse program) f p)
  where
    absent_behind : (v : Value) → or_else v Absent ≡ v
    absent_behind Absent = refl
    absent_behind Nil = refl
    absent_behind (B b) = refl
    absent_behind (E t k) = refl
    absent_behind (I n) = refl
    absent_behind Star = refl

pub filled_fits : FilledFitsLaw
filled_fits program class f n inputs frees other ok h r e v g k =
    filled_values program class f n inputs (all_with_firsts program f frees) other ok r e v (all_fit program class f frees ok h g) (as_filled program f inputs frees other k)

pub one_filled_reaction : OneFilledLaw
one_filled_reaction program f inputs frees r e = reaction_one (filled_meaning program f) (λ vs g. one_filled program f vs g r) inputs frees e

-- ---- both reactions

module _ (program : List Item) (class : Classing) (f : List ℕ) (n : Node) (ok : AreAccepted (types_of program) class (reverse program)) (hf : EachNode (NodeHasFirsts (types_of program)) program) (r : IsRanked program) (e : node_among (reverse program) f ≡ Some n) where
  abbrev types : List TypeDecl
  types = types_of program

  abbrev items : List Item
  items = reverse program

  abbrev ranked : IsRanked items
  ranked = ranked_reverse program r

  local : (outputs : List ℕ → List (List ℕ)) (S : Solved) (m : Node) → Ranked m → (inputs : List Value) (g : Given) → IsLocal types outputs S m inputs g
  local outputs S m o inputs g = (ranked_with_contract o.rank o.bound, (_, (ranked_below o.rank o.bound o.bounded, node_local types filled outputs S m o inputs g)))

  pasts_agree : (inputs : List (List Value)) (frees others : List Instant) (past other : Past) → Each (AreOf types n.inputs) inputs → Each (GivenFits types true (λ given. Nil) items f) frees → Each (GivenFits types false (λ given. given) items f) others → AllSameControls frees others → Reaction program f inputs frees past → ReactionOf (meaning filled program f) inputs others other → PastsAgree types (of_items class items f) past other
  pasts_agree [] [] [] [] [] v g k cs h m = tt
  pasts_agree (vs ∷ inputs) (free ∷ frees) (o ∷ others) (now ∷ past) (j ∷ other) v g k cs h m =
      let before = pasts_agree inputs frees others past other v.1 g.1 k.1 cs.1 h.0 m.0 in
      let fits = real_values program class f n (vs ∷ inputs) (free ∷ frees) (now ∷ past) ok r e v g h in
      let known = all_known types local class items ranked ok (each_reverse (NodeHasFirsts types) program hf) in (
        subst (λ z. AllAgree types (of_items class items f) now z) (sym (fun_ext (ones_only types local items ranked f vs (record { past = other; free = o }) j m.1)))
            (known.agree f n vs (record { past = past; free = free }) (record { past = other; free = o }) now e fits.0 fits.1 before k.0 cs.0 h.1),
        before,
      )
  pasts_agree [] [] [] [] (j ∷ other) v g k cs h m = absurd m
  pasts_agree [] [] [] (now ∷ past) other v g k cs h m = absurd h
  pasts_agree [] [] (o ∷ others) past other v g k cs h m = absurd cs
  pasts_agree [] (free ∷ frees) others past other v g k cs h m = absurd h
  pasts_agree (vs ∷ inputs) [] others past other v g k cs h m = absurd h
  pasts_agree (vs ∷ inputs) (free ∷ frees) [] past other v g k cs h m = absurd cs
  pasts_agree (vs ∷ inputs) (free ∷ frees) (o ∷ others) [] other v g k cs h m = absurd h
  pasts_agree (vs ∷ inputs) (free ∷ frees) (o ∷ others) (now ∷ past) [] v g k cs h m = absurd m

  under : (o : Option Ty) (v w : Value) → Agree types o v w → Under v w
  under o Nil w h = tt
  under o Absent w h = h
  under o (B b) w h = h
  under o (E t k) w h = h
  under o (I i) w h = h
  under o Star w h = h

  pasts_under : (past other : Past) → PastsAgree types (of_items class items f) past other → PastsUnder past other
  pasts_under [] [] h = tt
  pasts_under (i ∷ past) (j ∷ other) h = ((λ p. under (of_items class items f p) (i p) (j p) (h.0 p)), pasts_under past other h.1)
  pasts_under [] (j ∷ other) h = absurd h
  pasts_under (i ∷ past) [] h = absurd h

  named_same : (i j : Instant) (xs : List (List ℕ)) → AllAgree types (of_items class items f) i j → map (λ x. j (Named x ∷ [])) xs ≡ map (λ x. i (Named x ∷ [])) xs
  named_same i j [] h = refl
  named_same i j (x ∷ xs) h =
      let known = all_known types local class items ranked ok (each_reverse (NodeHasFirsts types) program hf) in
      ap₂ (λ v vs. v ∷ vs) (of_none types (i (Named x ∷ [])) (j (Named x ∷ [])) (as_type types (of_items class items f (Named x ∷ [])) None (i (Named x ∷ [])) (j (Named x ∷ [])) (known.named f x) (h (Named x ∷ [])))) (named_same i j xs h)

  outputs_same : (past other : Past) → PastsAgree types (of_items class items f) past other → map (outputs_at program f) other ≡ map (outputs_at program f) past
  outputs_same [] [] h = refl
  outputs_same (i ∷ past) (j ∷ other) h = ap₂ (λ v vs. v ∷ vs) (named_same i j ((nodes types real items).outputs f) h.0) (outputs_same past other h.1)
  outputs_same [] (j ∷ other) h = absurd h
  outputs_same (i ∷ past) [] h = absurd h

pub agree : AgreeLaw
agree program class f n inputs frees others past other ok hf r e v g k cs h m =
    pasts_under program class f n ok hf r e past other (pasts_agree program class f n ok hf r e inputs frees others past other v g k cs h m)

pub filled_agrees : FilledAgreesLaw
filled_agrees program class f n inputs frees past other ok hf r e v g h m =
    agree program class f n inputs frees (all_with_firsts program f frees) past other ok hf r e v g (all_fit program class f frees ok hf g) (same_controls program f frees) h (as_filled program f inputs frees other m)

pub same_outputs : SameOutputsLaw
same_outputs program class f n inputs frees past other ok hf r e v g h m =
    outputs_same program class f n ok hf r e past other
    (pasts_agree program class f n ok hf r e inputs frees (all_with_firsts program f frees) past other v g (all_fit program class f frees ok hf g) (same_controls program f frees) h (as_filled program f inputs frees other m))
