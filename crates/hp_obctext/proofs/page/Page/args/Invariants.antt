use Rattle.std.proofs.Common.{◌≡◌, drop, map}
use Rattle.hp_obctext.specs.Files.{arg_word}
use Rattle.hp_obctext.specs.Words.{with_words}
use Rattle.hp_obctext.proofs.page.Page.args.Given as goal

abbrev pub invariant-loop-arg : goal.invariant-loop-arg
invariant-loop-arg l = with_words l.self (map arg_word (drop l.arg-index l.args)) ≡ with_words l.initial.self (map arg_word l.args)
