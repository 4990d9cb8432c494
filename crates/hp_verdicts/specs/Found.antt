-- What is found of a machine: words for the contracts of private functions.
use Rattle.std.specs.Prelude.{◌≡◌, ◌≤◌, ℕ, Bool, List, map, Option}
use Rattle.hp_boolx.specs.Game.{Forced}
use Rattle.hp_boolx.specs.Machine.{Machine, game}
use Rattle.hp_boolx.specs.Search.{Set}
use Rattle.hp_boolx.specs.Solved.{IsLose, IsWin}
use Rattle.hp_cert.specs.Checked.{Proves}
use Rattle.hp_cert.specs.declared.checking.Proved.{Proved}
use Rattle.hp_cert.specs.Certtext.Certificates.{Certificate}
use Rattle.hp_diagram.specs.declared.reference.Ref.{Ref}
use Rattle.hp_diagram.specs.Diagrams.{Diagrams, Means}
use Rattle.hp_synth.specs.Kept.{AllMean}
use Rattle.hp_synth.specs.Valued.{OfState}
use Rattle.hp_tree.specs.declared.program.Item.{Item}
use Rattle.hp_tree.specs.declared.program.Item.TheVariants.{TypeItem, NodeItem}
use Rattle.hp_verdicts.specs.Decided.{IsVerdict, RefusesContract, ShowsLoss, verdict_of}
use Rattle.hp_verdicts.specs.TheCertificate.{IsTheCertificate}
use Rattle.hp_verdicts.specs.declared.error.ContractErr.{ContractErr}

-- the reference is that of the safe states, of which the initial state is one
abbrev pub IsSafeSet : Machine → Diagrams → Ref → Type 0
IsSafeSet m t inv = (X : Set) × Means t (OfState (game m) X) inv × IsWin (game m) X

-- the references are those of the states from which a violation is forced in one instant, in two, and so on to the least number for the initial state
abbrev pub AreRanks : Machine → Diagrams → List Ref → Type 0
AreRanks m t ranks = (Xs : List Set) × AllMean t (map (OfState (game m)) Xs) ranks × IsLose (game m) Xs

-- the certificate is the one of the machine, and it proves a verdict
pub record IsOf (m : Machine) (wide : Bool) (p : Proved) (c : Certificate) : Type 0 where
  pub is_the : IsTheCertificate m wide c
  pub says : verdict_of c.claim ≡ p
  pub proves : Proves m c p

-- it is the one of the machine, and it proves its verdict, which is that on the machine
pub record IsFound (m : Machine) (wide : Bool) (c : Certificate) : Type 0 where
  pub is_of : IsOf m wide (verdict_of c.claim) c
  pub verdict : IsVerdict m (verdict_of c.claim)

-- a violation is forced, and the text is that of the machine's certificate, if it is not too long
pub record IsRefuted (m : Machine) (wide : Bool) (instants : ℕ) (text : Option (List ℕ)) : Type 0 where
  pub forced : Forced (game m) instants m.init
  pub least : (fewer : ℕ) → Forced (game m) fewer m.init → instants ≤ fewer
  pub shown : ShowsLoss m wide instants text

-- why an item is refused
abbrev pub RefusesItem : List Item → Item → ContractErr → Type 0
RefusesItem program (TypeItem t) e = ⊥
RefusesItem program (NodeItem n) e = RefusesContract program n e
