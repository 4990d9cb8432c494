use Rattle.std.proofs.Common.{◌≡◌, drop}
use Rattle.hp_obctext.specs.Files.{each, comma, mem_words}
use Rattle.hp_obctext.specs.Words.{with_words}
use Rattle.hp_obctext.proofs.page.Page.mems.Given as goal

abbrev pub invariant-loop-mem : goal.invariant-loop-mem
invariant-loop-mem l = with_words l.self (each (comma mem_words) (drop l.mem-index l.mems)) ≡ with_words l.initial.self (each (comma mem_words) l.mems)
