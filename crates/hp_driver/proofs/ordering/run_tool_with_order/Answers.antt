use Rattle.std.proofs.Common.{map}
use Rattle.std.specs.String.{string_bytes}
use Rattle.hp_driver.proofs.StatusLaws.{nothing_done, numbered}
use Rattle.hp_driver.proofs.ordering.run_tool_with_order.Goals as goal

pub returns-in_default : goal.returns-in_default
returns-in_default g c = numbered c.code.ensures (nothing_done (map string_bytes c.args.words.now) _)

pub returns-in_default-new : goal.returns-in_default-new
returns-in_default-new g c = numbered c.code-in_default-new.ensures (nothing_done (map string_bytes c.args.words.now) _)

pub returns-in_default-new-2 : goal.returns-in_default-new-2
returns-in_default-new-2 g c = numbered c.code-in_default-new-2.ensures (nothing_done (map string_bytes c.args.words.now) _)

pub returns-in_default-from_array : goal.returns-in_default-from_array
returns-in_default-from_array g c = numbered c.code-in_default-from_array.ensures (nothing_done (map string_bytes c.args.words.now) _)

pub returns : goal.returns
returns g c =
    let done = c.run_tool.ensures in
    record { outcome = done.outcome; leaves = done.leaves; readings = done.readings; reads = (done.read_fault, done.no_read_fault); writes = (done.write_fault, done.no_write_fault) }
