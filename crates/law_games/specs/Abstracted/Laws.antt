-- What is proved of the abstraction: where what is given fits, so does each of its instants, and it agrees with the abstraction without Nil wherever it is not Nil.
-- Source: own. It is the statement of law_values::valued and of law_values::filled, for the abstraction in place of the language.
use Rattle.std.specs.Prelude.{◌≡◌, true, false, List, ◌∷◌, map}
use Rattle.hp_base.specs.declared.value.Value.{Value}
use Rattle.hp_base.specs.declared.value.Value.TheVariants.{Nil}
use Rattle.hp_tree.specs.declared.program.Item.{Item}
use Rattle.hp_tree.specs.declared.program.Item.TheVariants.{NodeItem}
use Rattle.hp_tree.specs.Programs.{TypeDecl, Node}
use Rattle.hp_tree.specs.Operators.{abstraction}
use Rattle.hp_tree.specs.Instant.{Instant, Past}
use Rattle.hp_tree.specs.Meaning.{node}
use Rattle.hp_tree.specs.Reaction.{Each}
use Rattle.hp_meaning.specs.Causal.Abstract.{callees}
use Rattle.hp_meaning.specs.Causal.Causality.{IsRanked}
use Rattle.hp_meaning.specs.Causal.OneReaction.{ReactionOf}
use Rattle.hp_meaning.specs.Contract.Duties.{hypothesis, duty}
use Rattle.hp_meaning.specs.Contract.Forgetting.{ContractsCallNothing}
use Rattle.law_judged.specs.Named.Scoped.{EachNode}
use Rattle.law_values.specs.Valued.Values.{Classing, AreAccepted}
use Rattle.law_values.specs.Filled.Firsts.{NodeHasFirsts}
use Rattle.law_values.specs.Filled.Under.{PastsUnder}
use Rattle.law_games.specs.Wires.Wired.{filled_abstraction}
use Rattle.law_games.specs.Wires.WiredCallees.{filled_callees}
use Rattle.law_games.specs.Wiretyped.Typed.{AreWires}
use Rattle.law_games.specs.Abstracted.Instances.{AbstractFits, AbstractGiven}

-- In a ranked and accepted program whose contracts call nothing: over inputs of their types, where what is given fits, each abstract instant fits.
abbrev pub AbstractFitsLaw : Type 0
AbstractFitsLaw =
    (types : List TypeDecl) (class : Classing) (earlier : List Item) (n : Node) (inputs : List (List Value)) (frees : List Instant) (past : Past)
    → AreAccepted types class (NodeItem n ∷ earlier) → ContractsCallNothing earlier → IsRanked (NodeItem n ∷ earlier)
    → Each (AreWires types n.inputs) inputs → Each (AbstractGiven types true (λ given. Nil) earlier n) frees
    → ReactionOf (node types abstraction (callees types earlier) n) inputs frees past
    → Each (AbstractFits types true class earlier n) past

-- Where also what is given at each `pre` is of its type, an abstract history without Nil over the same inputs and given values has the same
-- value wherever the abstract one's is not Nil, and the same hypothesis and duty at each instant.
abbrev pub AbstractAgreeLaw : Type 0
AbstractAgreeLaw =
    (types : List TypeDecl) (class : Classing) (earlier : List Item) (n : Node) (inputs : List (List Value)) (frees : List Instant) (past other : Past)
    → AreAccepted types class (NodeItem n ∷ earlier) → EachNode (NodeHasFirsts types) (NodeItem n ∷ earlier) → ContractsCallNothing earlier → IsRanked (NodeItem n ∷ earlier)
    → Each (AreWires types n.inputs) inputs → Each (AbstractGiven types true (λ given. Nil) earlier n) frees → Each (AbstractGiven types false (λ given. given) earlier n) frees
    → ReactionOf (node types abstraction (callees types earlier) n) inputs frees past → ReactionOf (node types filled_abstraction (filled_callees types earlier) n) inputs frees other
    → PastsUnder past other × ((map (hypothesis n) other ≡ map (hypothesis n) past) × (map (duty n) other ≡ map (duty n) past))
