-- What the text of a certificate proves of a node's contract, and why it proves nothing: which test it fails first.
use Rattle.std.specs.Prelude.{◌≤◌, ⊤, ℕ, List, length}
use Rattle.hp_base.specs.Limits.{most}
use Rattle.hp_base.specs.declared.limit.What.TheVariants.{Text}
use Rattle.hp_boolx.specs.Machine.{Machine}
use Rattle.hp_abstract.specs.Machines.{IsMachineOf}
use Rattle.hp_cert.specs.declared.checking.Proved.{Proved}
use Rattle.hp_cert.specs.Certtext.Certificates.{Certificate}
use Rattle.hp_cert.specs.Certtext.Texts.{IsCertText}
use Rattle.hp_cert.specs.Certtext.Written.{IsTooLong}
use Rattle.hp_cert.specs.Checked.{Proves, Refuses}
use Rattle.hp_cert.specs.declared.certtext.error.CertErr.{CertErr}
use Rattle.hp_cert.specs.declared.certtext.error.CertErr.TheVariants as error
use Rattle.hp_cert.specs.Certtext.Refusals.{IsRefused}
use Rattle.hp_tree.specs.declared.program.Item.{Item}
use Rattle.hp_tree.specs.Programs.{Node}
use Rattle.hp_verdicts.specs.Decided.{Holds}

-- ---- of a machine

-- The text is no longer than it may be and says a certificate, which proves this, and it holds.
pub record IsChecked (m : Machine) (text : List ℕ) (p : Proved) : Type 0 where
  pub certificate : Certificate
  pub within : length text ≤ most Text
  pub reads : IsCertText text certificate
  pub proves : Proves m certificate p
  pub holds : Holds m p

-- the text is no longer than it may be and says a certificate, which is refused: of the tests in their order this is the first that it fails
pub record IsUnproved (m : Machine) (text : List ℕ) (e : CertErr) : Type 0 where
  pub certificate : Certificate
  pub within : length text ≤ most Text
  pub reads : IsCertText text certificate
  pub refused : Refuses m certificate e

-- Why a text proves nothing of a machine: it is too long; or it is not, and from this place on it is no certificate; or it is one, which fails a test. Nothing is said of want of memory.
abbrev pub RefusesBy : Machine → List ℕ → CertErr → Type 0
RefusesBy m text (error.Limit limit) = IsTooLong text limit
RefusesBy m text (error.Syntax span) = IsRefused text span
RefusesBy m text (error.Misfit misfit) = IsUnproved m text (error.Misfit misfit)
RefusesBy m text (error.Fails test) = IsUnproved m text (error.Fails test)
RefusesBy m text error.OutOfMemory = ⊤

-- ---- of a node

-- the contract of the node has a machine
pub record HasMachine (program : List Item) (n : Node) : Type 0 where
  pub machine : Machine
  pub is_machine : IsMachineOf program n machine

-- This is what the text of a certificate proves of the node's machine.
pub record Shows (program : List Item) (n : Node) (text : List ℕ) (p : Proved) : Type 0 where
  pub has : HasMachine program n
  pub checked : IsChecked has.machine text p

-- The node has a machine, and the text proves nothing of it.
pub record RefusesCert (program : List Item) (n : Node) (text : List ℕ) (e : CertErr) : Type 0 where
  pub has : HasMachine program n
  pub refused : RefusesBy has.machine text e
