-- The laws, by each instant of a history.
use Rattle.std.proofs.Common.{◌≡◌, List, [], ◌∷◌, map, refl, ap₂}
use Rattle.std.specs.Prelude.{Bool, true, false, Option}
use Rattle.hp_base.specs.declared.ty.Ty.{Ty}
use Rattle.hp_base.specs.declared.value.Value.{Value}
use Rattle.hp_base.specs.declared.value.Value.TheVariants.{Absent, Nil, B, E, I, Star}
use Rattle.hp_tree.specs.declared.program.Item.{Item}
use Rattle.hp_tree.specs.declared.program.Item.TheVariants.{NodeItem}
use Rattle.hp_tree.specs.Programs.{TypeDecl, Node}
use Rattle.hp_tree.specs.Operators.{abstraction}
use Rattle.hp_tree.specs.Instant.{Instant, Past}
use Rattle.hp_tree.specs.Meaning.{node}
use Rattle.hp_tree.specs.Reaction.{Each}
use Rattle.hp_meaning.specs.Causal.Abstract.{callees}
use Rattle.hp_meaning.specs.Causal.Causality.{IsRanked}
use Rattle.hp_meaning.specs.Causal.OneReaction.{ReactionOf}
use Rattle.hp_meaning.specs.Contract.Duties.{hypothesis, duty}
use Rattle.hp_meaning.specs.Contract.Forgetting.{ContractsCallNothing}
use Rattle.law_judged.specs.Named.Scoped.{EachNode}
use Rattle.law_values.specs.Valued.Values.{Classing, AreAccepted}
use Rattle.law_values.specs.Filled.Firsts.{NodeHasFirsts}
use Rattle.law_values.specs.Filled.Under.{Under, PastsUnder}
use Rattle.law_games.specs.Wires.Wired.{filled_abstraction}
use Rattle.law_games.specs.Wires.WiredCallees.{filled_callees}
use Rattle.law_games.specs.Wiretyped.Typed.{AreWires}
use Rattle.law_games.specs.Abstracted.Instances.{AbstractGiven}
use Rattle.law_games.specs.Abstracted.Laws.{AbstractFitsLaw, AbstractAgreeLaw}
use Rattle.law_games.proofs.AbstractedLemmas.Marked.{Agree, PastsAgree}
use Rattle.law_games.proofs.AbstractedLemmas.Instants.{abstract_fits}
use Rattle.law_games.proofs.AbstractedLemmas.Agreement.{own_marks, abstract_agrees}
use Rattle.law_games.proofs.AbstractedLemmas.Unmarked.{same_hypothesis, same_duty}

pub all_fit : AbstractFitsLaw
all_fit types class earlier n [] [] [] ok calls r v g m = tt
all_fit types class earlier n (inputs ∷ before) (free ∷ frees) (now ∷ past) ok calls r v g m =
    let e = all_fit types class earlier n before frees past ok calls r v.1 g.1 m.0 in (
      abstract_fits types class earlier n ok calls r.0 r.1 inputs (record { past = past; free = free }) now v.0 g.0 e m.1,
      e,
    )
all_fit types class earlier n [] (free ∷ frees) past ok calls r v g m = absurd m
all_fit types class earlier n (inputs ∷ before) [] past ok calls r v g m = absurd m
all_fit types class earlier n [] [] (now ∷ past) ok calls r v g m = absurd m
all_fit types class earlier n (inputs ∷ before) (free ∷ frees) [] ok calls r v g m = absurd m

module _ (types : List TypeDecl) (class : Classing) (earlier : List Item) (n : Node) (ok : AreAccepted types class (NodeItem n ∷ earlier)) where
  module _ (hf : EachNode (NodeHasFirsts types) (NodeItem n ∷ earlier)) (calls : ContractsCallNothing earlier) (r : IsRanked (NodeItem n ∷ earlier)) where
    pub all_agree : (inputs : List (List Value)) (frees : List Instant) (past other : Past)
        → Each (AreWires types n.inputs) inputs → Each (AbstractGiven types true (λ given. Nil) earlier n) frees → Each (AbstractGiven types false (λ given. given) earlier n) frees
        → ReactionOf (node types abstraction (callees types earlier) n) inputs frees past → ReactionOf (node types filled_abstraction (filled_callees types earlier) n) inputs frees other
        → PastsAgree types (own_marks types class earlier n) past other
    all_agree [] [] [] [] v g g' m m' = tt
    all_agree (inputs ∷ before) (free ∷ frees) (now ∷ past) (now' ∷ other) v g g' m m' =
        let e = all_fit types class earlier n (inputs ∷ before) (free ∷ frees) (now ∷ past) ok calls r v g m in
        let a = all_agree before frees past other v.1 g.1 g'.1 m.0 m'.0 in (
          abstract_agrees types class earlier n r.0 r.1 ok hf calls inputs (record { past = past; free = free }) (record { past = other; free = free }) now now' e.0 e.1 a g'.0 (λ p. refl) m.1 m'.1,
          a,
        )
    all_agree [] (free ∷ frees) past other v g g' m m' = absurd m
    all_agree (inputs ∷ before) [] past other v g g' m m' = absurd m
    all_agree [] [] (now ∷ past) other v g g' m m' = absurd m
    all_agree [] [] [] (now ∷ other) v g g' m m' = absurd m'
    all_agree (inputs ∷ before) (free ∷ frees) [] other v g g' m m' = absurd m
    all_agree (inputs ∷ before) (free ∷ frees) (now ∷ past) [] v g g' m m' = absurd m'

  under : (o : Option Ty) (v w : Value) → Agree types o v w → Under v w
  under o Nil w h = tt
  under o Absent w h = h
  under o (B b) w h = h
  under o (E t k) w h = h
  under o (I i) w h = h
  under o Star w h = h

  pub all_under : (past other : Past) → PastsAgree types (own_marks types class earlier n) past other → PastsUnder past other
  all_under [] [] h = tt
  all_under (i ∷ past) (j ∷ other) h = ((λ p. under (own_marks types class earlier n p) (i p) (j p) (h.0 p)), all_under past other h.1)
  all_under [] (j ∷ other) h = absurd h
  all_under (i ∷ past) [] h = absurd h

  pub all_suppose : (past other : Past) → PastsAgree types (own_marks types class earlier n) past other → map (hypothesis n) other ≡ map (hypothesis n) past
  all_suppose [] [] h = refl
  all_suppose (i ∷ past) (j ∷ other) h = ap₂ (λ (b : Bool) bs. b ∷ bs) (same_hypothesis types class earlier n ok i j h.0) (all_suppose past other h.1)
  all_suppose [] (j ∷ other) h = absurd h
  all_suppose (i ∷ past) [] h = absurd h

  pub all_owe : (past other : Past) → PastsAgree types (own_marks types class earlier n) past other → map (duty n) other ≡ map (duty n) past
  all_owe [] [] h = refl
  all_owe (i ∷ past) (j ∷ other) h = ap₂ (λ (b : Bool) bs. b ∷ bs) (same_duty types class earlier n ok i j h.0) (all_owe past other h.1)
  all_owe [] (j ∷ other) h = absurd h
  all_owe (i ∷ past) [] h = absurd h

pub abstract_agree : AbstractAgreeLaw
abstract_agree types class earlier n inputs frees past other ok hf calls r v g g' m m' =
    let a = all_agree types class earlier n ok hf calls r inputs frees past other v g g' m m' in
    (all_under types class earlier n ok past other a, (all_suppose types class earlier n ok past other a, all_owe types class earlier n ok past other a))
