-- What is asked of the contracts of a program, so that their observers can be compiled.
-- Source: own.
use Rattle.std.specs.Prelude.{◌≡◌, ℕ, ◌<◌, false, List, length, IsTrue}
use Rattle.std.specs.Str.{bytes_eq}
use Rattle.hp_tree.specs.Programs.{Node}
use Rattle.law_judged.specs.Named.Scoped.{interface}
use Rattle.law_judged.specs.Replaced.Fitting.{ContractNames}
use Rattle.law_wellmade.specs.Spelled.Integers.{ContractShort}
use Rattle.hp_watch.specs.Observing as observing
use Rattle.hp_watch.specs.Observing.{input_name}

-- a name is none of those that an observer has beside the names of its contract
pub record IsOther (x : List ℕ) : Type 0 where
  pub assumed : bytes_eq observing.assumed x ≡ false
  pub enforced : bytes_eq observing.enforced x ≡ false
  pub input : (i : ℕ) → bytes_eq (input_name i) x ≡ false

-- So it is of the inputs and outputs of a node, and of all that its contract declares; and there are not too many outputs.
pub record IsObservable (n : Node) : Type 0 where
  pub interface : (x : List ℕ) → IsTrue (interface n x) → IsOther x
  pub contract : ContractNames IsOther n.contract
  pub short : ContractShort n.contract
  pub few : length n.outputs < 1000000
