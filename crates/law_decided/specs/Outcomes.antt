-- What is found of the contracts of a program, together with what it says of their games and of their nodes.
-- Source: own.
use Rattle.std.specs.Prelude.{◌≡◌, ⊤, ℕ, List, reverse, Some}
use Rattle.hp_lexer.specs.declared.token.Token.{Token}
use Rattle.hp_tree.specs.declared.program.Item.{Item}
use Rattle.hp_tree.specs.Meaning.{node_among}
use Rattle.hp_tree.specs.Programs.{Node}
use Rattle.hp_meaning.specs.Contract.Guarantee.{AllSafe}
use Rattle.law_drawing.specs.Mirrors.Assumptions.{AssumesControl}
use Rattle.law_drawing.specs.Mirrors.Limits.{IsOver}
use Rattle.hp_cert.specs.declared.checking.Proved.{Proved}
use Rattle.hp_verdicts.specs.Decided.{AreKept, Refuses, RefusesMachine, IsProof, verdict_of}
use Rattle.hp_verdicts.specs.Verified.{Shows}
use Rattle.hp_verdicts.specs.declared.error.ContractErr.{ContractErr}
use Rattle.hp_verdicts.specs.declared.error.ContractErr.TheVariants as error
use Rattle.law_decided.specs.Laws.{IsAcceptedText, HoldsOf, IsForcedFirst, IsVerdictOf}

-- Each contract is kept: on the machine of its node, and so no violation is ever forced in its game.
pub record AreKeptInGames (program : List Item) : Type 0 where
  pub kept : AreKept program program
  pub safe : AllSafe program (reverse program)

-- What the cause says of the node: a violation is forced first within so many instants; or the assumption reads a controllable variable at its own instant; or the bits of the node pass this limit. That nothing is built is never the cause, nor is it that a certificate is too long.
abbrev pub SaysOfNode : List Item → Node → ContractErr → Type 0
SaysOfNode program n (error.Forced node instants cert) = IsForcedFirst program n instants
SaysOfNode program n (error.Assume node span) = AssumesControl n
SaysOfNode program n (error.Limit node limit) = IsOver program n limit
SaysOfNode program n error.NotBuilt = ⊥
SaysOfNode program n error.TooLong = ⊥
SaysOfNode program n error.OutOfMemory = ⊤

-- A contract is refused, the first that is: no violation is ever forced in the games of those before it.
pub record RefusesInGames (program : List Item) (cause : ContractErr) : Type 0 where
  pub refused : Refuses program cause
  pub before : AllSafe program refused.before
  pub says : SaysOfNode program refused.node cause

-- The contract of this node has no machine, and what the cause says is so of the node.
pub record RefusesInGame (program : List Item) (n : Node) (cause : ContractErr) : Type 0 where
  pub refused : RefusesMachine program n cause
  pub says : SaysOfNode program n cause

-- The text is that of the certificate of the node's machine, and its verdict is the one on the game of the node's contract.
pub record IsProofInGame (program : List Item) (n : Node) (text : List ℕ) : Type 0 where
  pub proof : IsProof program n text
  pub verdict : IsVerdictOf program n (verdict_of proof.certified.certificate.claim)

-- The text is that of a certificate, and this is what it proves of the node's machine and of the game.
pub record ShowsInGame (program : List Item) (n : Node) (text : List ℕ) (p : Proved) : Type 0 where
  pub shown : Shows program n text p
  pub holds : HoldsOf program n p

-- What is found of the contracts of a program says so of their games, and of their nodes where one is refused.
pub record AreSaid (program : List Item) : Type 0 where
  pub kept : AreKept program program → AreKeptInGames program
  pub refused : (cause : ContractErr) → Refuses program cause → RefusesInGames program cause
  pub node_refused : (f : List ℕ) (n : Node) → node_among program f ≡ Some n → (cause : ContractErr) → RefusesMachine program n cause → RefusesInGame program n cause
  pub proof : (f : List ℕ) (n : Node) → node_among program f ≡ Some n → (text : List ℕ) → IsProof program n text → IsProofInGame program n text
  pub shown : (f : List ℕ) (n : Node) → node_among program f ≡ Some n → (text : List ℕ) (p : Proved) → Shows program n text p → ShowsInGame program n text p

-- So it is in the program of each accepted text.
abbrev pub OutcomesLaw : Type 0
OutcomesLaw =
    (text : List ℕ) (tokens : List Token) (program after : List Item) (ranks : List (List ℕ)) → IsAcceptedText text tokens program after ranks → AreSaid after
