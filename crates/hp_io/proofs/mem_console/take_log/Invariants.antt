use Rattle.std.specs.Prelude.{◌≡◌, ◌++◌, map, take}
use Rattle.hp_io.specs.declared.console.Event.TheVariants.{Heard}
use Rattle.hp_io.proofs.mem_console.take_log.Given as goal

abbrev pub invariant-loop-byte : goal.invariant-loop-byte
invariant-loop-byte l = l.log.items ≡ l.initial.log.items ++ map Heard (take l.byte-index l.bytes)
