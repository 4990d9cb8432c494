-- What is decided of the contracts of a program: of the Boolean machine of each node with a contract, and the game on it.
use Rattle.std.specs.Prelude.{◌≡◌, ◌≤◌, ◌<◌, ⊤, ℕ, Bool, true, false, ◌||◌, List, [], ◌∷◌, ◌++◌, length, All, Option, None, Some, option_map, is_some, IsTrue}
use Rattle.hp_base.specs.Limits.{most}
use Rattle.hp_base.specs.declared.limit.What.TheVariants.{Text}
use Rattle.hp_base.specs.declared.ty.Ty.{Ty}
use Rattle.hp_base.specs.declared.ty.Ty.TheVariants as ty
use Rattle.hp_boolx.specs.Game.{Safe, Forced}
use Rattle.hp_boolx.specs.Machine.{Machine, game}
use Rattle.hp_cert.specs.Checked.{Proves}
use Rattle.hp_cert.specs.declared.checking.Proved.{Proved}
use Rattle.hp_cert.specs.declared.checking.Proved.TheVariants as proved
use Rattle.hp_cert.specs.Certtext.Certificates.{Certificate, Claim, lose, win}
use Rattle.hp_cert.specs.Certtext.Texts.{cert_text}
use Rattle.hp_abstract.specs.Machines.{IsMachineOf, IsRefused}
use Rattle.hp_abstract.specs.declared.error.AbsErr.TheVariants as abstract_error
use Rattle.hp_tree.specs.declared.program.Item.{Item}
use Rattle.hp_tree.specs.declared.program.Item.TheVariants.{TypeItem, NodeItem}
use Rattle.hp_tree.specs.Blocks.{Decl}
use Rattle.hp_tree.specs.Programs.{Contract, Node}
use Rattle.hp_verdicts.specs.TheCertificate.{IsForcedWithin, IsTheCertificate}
use Rattle.hp_verdicts.specs.declared.error.ContractErr.{ContractErr}
use Rattle.hp_verdicts.specs.declared.error.ContractErr.TheVariants as error

-- ---- which nodes have contracts, and of what kind

-- an item that is a node with a contract
abbrev pub own_contract : Item → Bool
own_contract (TypeItem t) = false
own_contract (NodeItem n) = is_some n.contract

-- a node of the program has a contract
abbrev pub has_contract : List Item → Bool
has_contract [] = false
has_contract (item ∷ items) = own_contract item || has_contract items

-- a type whose values are not the two of `bool`
abbrev pub wide_type : Ty → Bool
wide_type ty.Bool = false
wide_type t = true

-- some controllable variable has such a type
abbrev pub some_wide : List Decl → Bool
some_wide [] = false
some_wide (d ∷ ds) = wide_type d.ty || some_wide ds

abbrev pub is_wide_contract : Option Contract → Bool
is_wide_contract None = false
is_wide_contract (Some c) = some_wide c.controls

-- ---- certificates of machines

-- what a claim says: that no violation is ever forced, or that one is within so many instants
abbrev pub verdict_of : Claim → Proved
verdict_of (win inv funs) = proved.Win
verdict_of (lose ranks) = proved.Lose (length ranks)

-- what is proved holds of the machine
abbrev pub Holds : Machine → Proved → Type 0
Holds m proved.Win = Safe (game m) m.init
Holds m (proved.Lose instants) = Forced (game m) instants m.init

-- It is the verdict on the machine: no violation is ever forced, or one is within so many instants, and within no fewer.
abbrev pub IsVerdict : Machine → Proved → Type 0
IsVerdict m proved.Win = Safe (game m) m.init
IsVerdict m (proved.Lose instants) = IsForcedWithin (game m) instants

-- The text is that of the one certificate of the machine, and no longer than such a text may be. The certificate proves its verdict to whoever checks it.
pub record IsCertified (m : Machine) (wide : Bool) (text : List ℕ) : Type 0 where
  pub certificate : Certificate
  pub is_the : IsTheCertificate m wide certificate
  pub text_is : text ≡ cert_text certificate
  pub within : length text ≤ most Text
  pub proves : Proves m certificate (verdict_of certificate.claim)

-- the text of the one certificate of the machine is longer than such a text may be
pub record IsLong (m : Machine) (wide : Bool) : Type 0 where
  pub certificate : Certificate
  pub is_the : IsTheCertificate m wide certificate
  pub longer : most Text < length (cert_text certificate)

-- ---- what is decided

-- The node has a Boolean machine from which no violation is ever forced.
pub record IsKept (program : List Item) (n : Node) : Type 0 where
  pub machine : Machine
  pub is_machine : IsMachineOf program n machine
  pub safe : Safe (game machine) machine.init

-- it has one from which a violation is forced within so many instants, and within no fewer
pub record IsForced (program : List Item) (n : Node) (instants : ℕ) : Type 0 where
  pub machine : Machine
  pub is_machine : IsMachineOf program n machine
  pub forced : Forced (game machine) instants machine.init
  pub least : (fewer : ℕ) → Forced (game machine) fewer machine.init → instants ≤ fewer

-- of each node with a contract
abbrev pub KeptItem : List Item → Item → Type 0
KeptItem program (TypeItem t) = ⊤
KeptItem program (NodeItem n) = IsTrue (is_some n.contract) → IsKept program n

abbrev pub AreKept : List Item → List Item → Type 0
AreKept program items = All (KeptItem program) items

-- the text is that of the machine's certificate, by which a violation is forced within so many instants
pub record IsLossText (m : Machine) (wide : Bool) (instants : ℕ) (text : List ℕ) : Type 0 where
  pub certified : IsCertified m wide text
  pub verdict : verdict_of certified.certificate.claim ≡ proved.Lose instants

-- such a text, or none exactly where that of the certificate is too long
abbrev pub ShowsLoss : Machine → Bool → ℕ → Option (List ℕ) → Type 0
ShowsLoss m wide instants None = IsLong m wide
ShowsLoss m wide instants (Some text) = IsLossText m wide instants text

-- a violation is forced, first within so many instants, and the text is that of the certificate; none is given where it is too long
pub record IsShownForced (program : List Item) (n : Node) (instants : ℕ) (text : Option (List ℕ)) : Type 0 where
  pub forced : IsForced program n instants
  pub shown : ShowsLoss forced.machine (is_wide_contract n.contract) instants text

-- Why the contract of a node has no machine: the node has a contract, it is named, and the cause is so of the circuit that is drawn of it. Nothing is said of want of memory.
abbrev pub RefusesMachine : List Item → Node → ContractErr → Type 0
RefusesMachine program n (error.Assume node span) = (node ≡ n.name) × IsTrue (is_some n.contract) × IsRefused program n (abstract_error.Assume span)
RefusesMachine program n (error.Limit node limit) = (node ≡ n.name) × IsTrue (is_some n.contract) × IsRefused program n (abstract_error.Limit limit)
RefusesMachine program n error.NotBuilt = IsTrue (is_some n.contract) × IsRefused program n abstract_error.NotBuilt
RefusesMachine program n error.OutOfMemory = ⊤
RefusesMachine program n e = ⊥

-- Why the contract of a node is refused: it has no machine, or it does and a violation is forced.
abbrev pub RefusesContract : List Item → Node → ContractErr → Type 0
RefusesContract program n (error.Forced node instants cert) = (node ≡ n.name) × IsTrue (is_some n.contract) × IsShownForced program n instants (option_map (λ text. text.items) cert)
RefusesContract program n e = RefusesMachine program n e

-- Why no certificate of the contract of a node is written: it has no machine, or it does and the text of the machine's certificate is too long.
abbrev pub RefusesProof : List Item → Node → ContractErr → Type 0
RefusesProof program n error.TooLong = IsTrue (is_some n.contract) × ((m : Machine) × IsMachineOf program n m × IsLong m (is_wide_contract n.contract))
RefusesProof program n e = RefusesMachine program n e

-- It is the first contract of the program that is refused.
pub record Refuses (program : List Item) (e : ContractErr) : Type 0 where
  pub before : List Item
  pub node : Node
  pub behind : List Item
  pub stands : program ≡ before ++ NodeItem node ∷ behind
  pub kept : AreKept program before
  pub refused : RefusesContract program node e

-- The text is that of the certificate of the node's machine, and its verdict is that on the machine.
pub record IsProof (program : List Item) (n : Node) (text : List ℕ) : Type 0 where
  pub machine : Machine
  pub is_machine : IsMachineOf program n machine
  pub certified : IsCertified machine (is_wide_contract n.contract) text
  pub verdict : IsVerdict machine (verdict_of certified.certificate.claim)
