-- The machine of which rows on certificates speak mirrors the node.
-- Source: own.
use Rattle.std.specs.Prelude.{ℕ, List, Option}
use Rattle.hp_io.specs.Files.{Files}
use Rattle.hp_verdicts.specs.Verified.{HasMachine}
use Rattle.law_decided.specs.Mirrored.{MirrorsNode}
use Rattle.hp_driver.specs.Outcome.{HasContract}

-- Whoever does not read how circuits are drawn may read this in place of it. Only which text `prove` writes, and which test a text fails first, is told by the drawn circuit: no history of the game leads to all codes of which these speak.
abbrev pub MirrorLaw : Type 0
MirrorLaw = (files : Option Files) (file name : List ℕ) (c : HasContract files file name) (has : HasMachine c.held.clocked c.node) → MirrorsNode c.held.clocked c.node has.machine
