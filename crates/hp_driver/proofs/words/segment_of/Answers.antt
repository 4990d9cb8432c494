use Rattle.std.proofs.Common.{map}
use Rattle.std.specs.String.{string_bytes}
use Rattle.std.proofs.lemmas.Option.{MatchOption-at_none, MatchOption-at_some}
use Rattle.hp_driver.specs.Command.{IsSegmentOf}
use Rattle.hp_driver.proofs.SegmentWords.{found_segment}
use Rattle.hp_driver.proofs.words.segment_of.Goals as goal

pub returns-in-Some : goal.returns-in-Some
returns-in-Some c = IsSegmentOf.to_save (MatchOption-at_some _ _ (c.in-Some.file, c.in-Some.node, c.in-Some.out) c.in-Some.is c.in_ok-file.ensures)

pub returns : goal.returns
returns c = found_segment (map string_bytes c.args.words.now) c.resumed_segment.result (MatchOption-at_none _ _ c.in_default.is c.in_ok-file.ensures) c.resumed_segment.ensures
