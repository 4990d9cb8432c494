use Rattle.std.proofs.Common.{map}
use Rattle.std.specs.String.{string_bytes}
use Rattle.std.proofs.lemmas.Option.{MatchOption-at_some}
use Rattle.hp_driver.proofs.StatusLaws.{nothing_done}
use Rattle.hp_driver.proofs.tool.perform.Goals as goal

pub returns-in_default : goal.returns-in_default
returns-in_default g c = nothing_done (map string_bytes c.args.words.now) _

pub returns-in-Some : goal.returns-in-Some
returns-in-Some g c = c.run_segment.ensures (map string_bytes c.args.words.now) (MatchOption-at_some _ _ c.in-Some.segment c.in-Some.is c.in-Ok.ensures)
