use Rattle.std.proofs.Common.{map}
use Rattle.std.proofs.lemmas.Option.{MatchOption-at_none}
use Rattle.std.specs.String.{string_bytes}
use Rattle.hp_driver.proofs.OutcomeLaws.{no_command}
use Rattle.hp_driver.proofs.words.command_of.Goals as goal

pub returns-in_default-4 : goal.returns-in_default-4
returns-in_default-4 c =
    no_command (map string_bytes c.args.words.now) c.requires (MatchOption-at_none _ _ c.in_default.is c.in_ok-file.ensures)
    (MatchOption-at_none _ _ c.in_default-2.is c.in_ok-file-2.ensures) (MatchOption-at_none _ _ c.in_default-3.is c.in_ok-command.ensures)
    (MatchOption-at_none _ _ c.in_default-4.is c.in_ok-file-3.ensures)
