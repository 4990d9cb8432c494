-- The reaction of the filled form with chosen values, and that of the language.
use Rattle.std.proofs.Common.{◌≡◌, ℕ, suc, List, [], ◌∷◌, map, length, reverse, refl, sym, ap, ap₂, subst}
use Rattle.std.proofs.Math.Path.{fun_ext}
use Rattle.std.specs.Prelude.{true, Option, None, Some}
use Rattle.hp_base.specs.declared.ty.Ty.{Ty}
use Rattle.hp_base.specs.declared.value.Value.{Value}
use Rattle.hp_base.specs.declared.value.Value.TheVariants.{Absent, Nil, B, E, I, Star}
use Rattle.hp_tree.specs.declared.program.Item.{Item}
use Rattle.hp_tree.specs.Programs.{TypeDecl, Node}
use Rattle.hp_tree.specs.Operators.{real, filled}
use Rattle.hp_tree.specs.Instant.{Named, Instant, Past, Given, nothing}
use Rattle.hp_tree.specs.Meaning.{nodes, types_of, node_among}
use Rattle.hp_tree.specs.Reaction.{Each, outputs_at}
use Rattle.hp_tree.specs.Values.{AreOf}
use Rattle.hp_meaning.specs.Causal.Causality.{Ranked, IsRanked}
use Rattle.hp_meaning.specs.Causal.OneReaction.{ReactionOf}
use Rattle.hp_meaning.proofs.CausalLemmas.NodesAgree.{ranked_with_contract, ranked_below, node_local}
use Rattle.hp_meaning.proofs.CausalLemmas.Unique.{ranked_reverse, reaction_one}
use Rattle.law_judged.specs.Named.Scoped.{EachNode}
use Rattle.law_values.specs.Valued.Values.{Classing, AreAccepted, InstantFits}
use Rattle.law_values.specs.Filled.Firsts.{NodeHasFirsts}
use Rattle.law_values.specs.Filled.Under.{Under, PastsUnder}
use Rattle.law_values.proofs.FilledLemmas.Programs.{each_reverse}
use Rattle.law_values.proofs.FilledLemmas.Marked.{Agree, AllAgree, PastsAgree, of_none, as_type}
use Rattle.law_values.proofs.FilledLemmas.Expressions.{Solved}
use Rattle.law_values.proofs.FilledLemmas.Agreement.{IsLocal, of_items}
use Rattle.law_choices.specs.Choosing.Choices.{Choices}
use Rattle.law_choices.specs.Runs.Chosen.{chosen_meaning, ChosenReaction}
use Rattle.law_choices.specs.Runs.Laws.{ChoosesValues}
use Rattle.law_choices.proofs.RunsLemmas.Chosen.{all_one}
use Rattle.law_choices.proofs.RunsLemmas.Values.{chosen_fit}
use Rattle.law_choices.specs.Filled.Filled.{FilledReaction, IsFirst}
use Rattle.law_choices.specs.Filled.Laws.{OneLaw, AgreeLaw, OutputsLaw}
use Rattle.law_choices.proofs.FilledLemmas.Given.{given_otherwise}
use Rattle.law_choices.proofs.FilledLemmas.Agreement.{ones_only, all_known}

pub one_filled : OneLaw
one_filled choices program f inputs frees r e =
    reaction_one (chosen_meaning choices filled program f) (λ vs g. all_one choices (types_of program) filled (reverse program) (ranked_reverse program r) f vs g) inputs frees e

-- as many instants are given as there are inputs
as_many : (choices : Choices) (program : List Item) (f : List ℕ) (inputs : List (List Value)) (frees : List Instant) (other : Past) → FilledReaction choices program f inputs frees other → length frees ≡ length inputs
as_many choices program f [] [] [] h = refl
as_many choices program f (vs ∷ inputs) (free ∷ frees) (now ∷ other) h = ap suc (as_many choices program f inputs frees other h.0)
as_many choices program f [] [] (now ∷ other) h = absurd h
as_many choices program f [] (free ∷ frees) other h = absurd h
as_many choices program f (vs ∷ inputs) [] other h = absurd h
as_many choices program f (vs ∷ inputs) (free ∷ frees) [] h = absurd h

module _ (choices : Choices) (program : List Item) (class : Classing) (f : List ℕ) (n : Node) (ok : AreAccepted (types_of program) class (reverse program)) (r : IsRanked program) (values : EachNode (ChoosesValues (types_of program) choices) (reverse program))
    (hf : EachNode (NodeHasFirsts (types_of program)) (reverse program)) (e : node_among (reverse program) f ≡ Some n) where
  abbrev types : List TypeDecl
  types = types_of program

  abbrev items : List Item
  items = reverse program

  abbrev ranked : IsRanked items
  ranked = ranked_reverse program r

  local : (outputs : List ℕ → List (List ℕ)) (S : Solved) (m : Node) → Ranked m → (inputs : List Value) (g : Given) → IsLocal types outputs S m inputs g
  local outputs S m o inputs g = (ranked_with_contract o.rank o.bound, (_, (ranked_below o.rank o.bound o.bounded, node_local types filled outputs S m o inputs g)))

  pasts_agree : (inputs : List (List Value)) (frees : List Instant) (past other : Past) → Each (InstantFits types true class items f) past → Each (IsFirst program f) frees → ReactionOf (chosen_meaning choices real program f) inputs frees past
      → FilledReaction choices program f inputs frees other → PastsAgree types (of_items class items f) past other
  pasts_agree [] [] [] [] fits g h m = tt
  pasts_agree (vs ∷ inputs) (free ∷ frees) (now ∷ past) (j ∷ other) fits g h m =
      let before = pasts_agree inputs frees past other fits.1 g.1 h.0 m.0 in
      let known = all_known choices types local class items ranked ok hf values in (
        subst (λ z. AllAgree types (of_items class items f) now z) (sym (fun_ext (ones_only choices types local items ranked f vs (record { past = other; free = free }) j m.1)))
            (known.agree f n vs (record { past = past; free = free }) (record { past = other; free = free }) now e fits.0 fits.1 before g.0 (λ p q. refl) h.1),
        before,
      )
  pasts_agree [] [] [] (j ∷ other) fits g h m = absurd m
  pasts_agree [] [] (now ∷ past) other fits g h m = absurd h
  pasts_agree [] (free ∷ frees) past other fits g h m = absurd h
  pasts_agree (vs ∷ inputs) [] past other fits g h m = absurd h
  pasts_agree (vs ∷ inputs) (free ∷ frees) [] other fits g h m = absurd h
  pasts_agree (vs ∷ inputs) (free ∷ frees) (now ∷ past) [] fits g h m = absurd m

  under : (o : Option Ty) (v w : Value) → Agree types o v w → Under v w
  under o Nil w h = tt
  under o Absent w h = h
  under o (B b) w h = h
  under o (E t k) w h = h
  under o (I i) w h = h
  under o Star w h = h

  pasts_under : (past other : Past) → PastsAgree types (of_items class items f) past other → PastsUnder past other
  pasts_under [] [] h = tt
  pasts_under (i ∷ past) (j ∷ other) h = ((λ p. under (of_items class items f p) (i p) (j p) (h.0 p)), pasts_under past other h.1)
  pasts_under [] (j ∷ other) h = absurd h
  pasts_under (i ∷ past) [] h = absurd h

  named_same : (i j : Instant) (xs : List (List ℕ)) → AllAgree types (of_items class items f) i j → map (λ x. j (Named x ∷ [])) xs ≡ map (λ x. i (Named x ∷ [])) xs
  named_same i j [] h = refl
  named_same i j (x ∷ xs) h =
      let known = all_known choices types local class items ranked ok hf values in
      ap₂ (λ v vs. v ∷ vs) (of_none types (i (Named x ∷ [])) (j (Named x ∷ [])) (as_type types (of_items class items f (Named x ∷ [])) None (i (Named x ∷ [])) (j (Named x ∷ [])) (known.named f x) (h (Named x ∷ [])))) (named_same i j xs h)

  outputs_same : (past other : Past) → PastsAgree types (of_items class items f) past other → map (outputs_at program f) other ≡ map (outputs_at program f) past
  outputs_same [] [] h = refl
  outputs_same (i ∷ past) (j ∷ other) h = ap₂ (λ v vs. v ∷ vs) (named_same i j ((nodes types real items).outputs f) h.0) (outputs_same past other h.1)
  outputs_same [] (j ∷ other) h = absurd h
  outputs_same (i ∷ past) [] h = absurd h

  -- what the language's reaction is given does not matter
  both_agree : (inputs : List (List Value)) (frees : List Instant) (past other : Past) → Each (AreOf types n.inputs) inputs → Each (IsFirst program f) frees → ChosenReaction choices program f inputs past → FilledReaction choices program f inputs frees other
      → PastsAgree types (of_items class items f) past other
  both_agree inputs frees past other v g h m =
      let same = given_otherwise choices program f inputs (map (λ (vs : List Value). nothing) inputs) frees past (as_many choices program f inputs frees other m) h in
      pasts_agree inputs frees past other (chosen_fit choices program class f n inputs frees past ok r values e v same) g same m

pub agree : AgreeLaw
agree choices program class f n inputs frees past other c firsts h m =
    let types = types_of program in
    let values = each_reverse (ChoosesValues types choices) program c.chooses in
    let hf = each_reverse (NodeHasFirsts types) program firsts in
    pasts_under choices program class f n c.accepted c.ranked values hf c.is_node past other (both_agree choices program class f n c.accepted c.ranked values hf c.is_node inputs frees past other c.inputs_fit c.given_fit h m)

pub same_outputs : OutputsLaw
same_outputs choices program class f n inputs frees past other c firsts h m =
    let types = types_of program in
    let values = each_reverse (ChoosesValues types choices) program c.chooses in
    let hf = each_reverse (NodeHasFirsts types) program firsts in
    outputs_same choices program class f n c.accepted c.ranked values hf c.is_node past other (both_agree choices program class f n c.accepted c.ranked values hf c.is_node inputs frees past other c.inputs_fit c.given_fit h m)
