use Rattle.std.proofs.Common.{◌≡◌, ℕ, List, None, sym, subst}
use Rattle.std.specs.FinMap as finmap
use Rattle.hp_driver.specs.Commanded.{Spells, file_of}
use Rattle.hp_driver.specs.declared.words.Command.{Command}
use Rattle.hp_driver.proofs.ClaimLaws.{lacks_cert, lacks_of}
use Rattle.hp_driver.proofs.memory.lacks_of_command.Goals as goal

pub returns-then-is_absent : goal.returns-then-is_absent
returns-then-is_absent c words w absent =
    lacks_of words c.args.files.now.files c.args.command w
    (subst (λ (command : Command). finmap.get c.args.files.now.files (file_of command) ≡ None) (sym c.in-Verify.is) (c.is_absent.ensures absent))

pub returns-else-is_absent : goal.returns-else-is_absent
returns-else-is_absent c words w absent =
    lacks_cert words c.args.files.now.files c.in-Verify.file.now c.in-Verify.node.now c.in-Verify.cert.now (subst (λ (command : Command). Spells words command) c.in-Verify.is w) (c.is_absent-else-is_absent.ensures absent)

pub returns-in_default : goal.returns-in_default
returns-in_default c words w absent =
    lacks_of words c.args.files.now.files c.args.command w (subst (λ (file : List ℕ). finmap.get c.args.files.now.files file ≡ None) c.file.ensures (c.is_absent-in_default.ensures absent))
