-- What is decided of the contracts of a ready program is so in the games of these contracts.
-- Source: own.
use Rattle.std.specs.Prelude.{◌≤◌, ℕ, IsTrue, List, [], reverse, is_some}
use Rattle.hp_lexer.specs.Lexing.{AreTokensOf}
use Rattle.hp_lexer.specs.declared.token.Token.{Token}
use Rattle.hp_parser.specs.Lexemes.{lexemes}
use Rattle.hp_parser.specs.Programs.{IsProgram}
use Rattle.hp_tree.specs.declared.program.Item.{Item}
use Rattle.hp_tree.specs.Programs.{Node}
use Rattle.hp_meaning.specs.Contract.Game.{Forced, Safe}
use Rattle.hp_meaning.specs.Contract.Guarantee.{AllSafe}
use Rattle.hp_meaning.specs.Causal.RanksOfPoints.{AllFall}
use Rattle.hp_names.specs.Rules.{WellNamed}
use Rattle.hp_typing.specs.Rules.{WellTyped}
use Rattle.hp_typing.specs.DefinitionRules.{WellDefined}
use Rattle.hp_expand.specs.Refusals.{IsFormed}
use Rattle.hp_expand.specs.Numbering.{replaced}
use Rattle.hp_init.specs.Initialised.{IsInitialised}
use Rattle.hp_clocks.specs.Writing.{AreWritten}
use Rattle.hp_clocks.specs.Answers.{IsClocked}
use Rattle.law_games.specs.ReadyGames.Laws.{IsInOrder}
use Rattle.hp_cert.specs.declared.checking.Proved.{Proved}
use Rattle.hp_cert.specs.declared.checking.Proved.TheVariants as proved
use Rattle.law_games.specs.Forced.Laws.{OfReadyNodes}
use Rattle.hp_verdicts.specs.Decided.{IsKept, IsForced, AreKept, IsProof, verdict_of}
use Rattle.hp_verdicts.specs.Verified.{Shows}

-- A law of each node of a ready program.
abbrev pub OfDecidedNodes : (List Item → Node → Type 0) → Type 0
OfDecidedNodes law = OfReadyNodes (λ after earlier n. law after n)

-- Where a contract is found to be kept, no violation of it is ever forced.
abbrev pub KeptLaw : Type 0
KeptLaw = OfDecidedNodes (λ after n. IsKept after n → Safe after n [])

-- Where a violation is found to be forced within so many instants, it is, and within no fewer.
abbrev pub ForcedLaw : Type 0
ForcedLaw = OfDecidedNodes (λ after n. (instants : ℕ) → IsForced after n instants → Forced after n instants [] × ((fewer : ℕ) → Forced after n fewer [] → instants ≤ fewer))

-- So where all contracts are found to be kept, no violation of any of them is ever forced.
abbrev pub AllKeptLaw : Type 0
AllKeptLaw = OfDecidedNodes (λ after n. AreKept after after → IsTrue (is_some n.contract) → Safe after n [])

-- In the words of runs: nothing is forced at first in any node with a contract.
abbrev pub AllSafeLaw : Type 0
AllSafeLaw =
    (program after : List Item) (ranks : List (List ℕ)) → IsInOrder program after ranks → AreKept after after → AllSafe after (reverse after)

-- ---- certificates

abbrev pub HoldsOf : List Item → Node → Proved → Type 0
HoldsOf program n proved.Win = Safe program n []
HoldsOf program n (proved.Lose instants) = Forced program n instants []

-- in the game of the node's contract a violation is forced within so many instants, and within no fewer
pub record IsForcedFirst (program : List Item) (n : Node) (instants : ℕ) : Type 0 where
  pub forced : Forced program n instants []
  pub least : (fewer : ℕ) → Forced program n fewer [] → instants ≤ fewer

-- It is the verdict on the game of the node's contract: no violation is ever forced, or one is first within so many instants.
abbrev pub IsVerdictOf : List Item → Node → Proved → Type 0
IsVerdictOf program n proved.Win = Safe program n []
IsVerdictOf program n (proved.Lose instants) = IsForcedFirst program n instants

-- The verdict of the certificate of a node's machine is the one on the game of the node's contract.
abbrev pub ProofLaw : Type 0
ProofLaw = OfDecidedNodes (λ after n. (text : List ℕ) (proof : IsProof after n text) → IsVerdictOf after n (verdict_of proof.certified.certificate.claim))

-- What a text is found to prove of the machine holds in the game.
abbrev pub VerifiedLaw : Type 0
VerifiedLaw = OfDecidedNodes (λ after n. (text : List ℕ) (what : Proved) → Shows after n text what → HoldsOf after n what)

-- ---- texts

-- The program of a text that the judgements accept, arranged and ordered.
pub record IsAcceptedText (text : List ℕ) (tokens : List Token) (program after : List Item) (ranks : List (List ℕ)) : Type 0 where
  pub spelled : AreTokensOf text tokens
  pub read : IsProgram (lexemes text tokens) program
  pub named : WellNamed program
  pub typed : WellTyped program
  pub defined : WellDefined program
  pub formed : IsFormed program
  pub initialised : IsInitialised (replaced program)
  pub clocks : AreWritten IsClocked (replaced program) after
  pub fall : AllFall after ranks

-- Where all contracts of such a program are found to be kept, nothing is forced at first in any node.
abbrev pub TextLaw : Type 0
TextLaw =
    (text : List ℕ) (tokens : List Token) (program after : List Item) (ranks : List (List ℕ)) → IsAcceptedText text tokens program after ranks
    → AreKept after after → AllSafe after (reverse after)
