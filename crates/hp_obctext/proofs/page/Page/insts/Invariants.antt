use Rattle.std.proofs.Common.{◌≡◌, drop}
use Rattle.hp_obctext.specs.Files.{each, comma, inst_words}
use Rattle.hp_obctext.specs.Words.{with_words}
use Rattle.hp_obctext.proofs.page.Page.insts.Given as goal

abbrev pub invariant-loop-inst : goal.invariant-loop-inst
invariant-loop-inst l = with_words l.self (each (comma inst_words) (drop l.inst-index l.insts)) ≡ with_words l.initial.self (each (comma inst_words) l.insts)
