use Rattle.std.proofs.Common.{◌≡◌, drop}
use Rattle.hp_obctext.specs.Files.{each, comma, var_words}
use Rattle.hp_obctext.specs.Words.{with_words}
use Rattle.hp_obctext.proofs.page.Page.vars.Given as goal

abbrev pub invariant-loop-var : goal.invariant-loop-var
invariant-loop-var l = with_words l.self (each (comma var_words) (drop l.var-index l.vars)) ≡ with_words l.initial.self (each (comma var_words) l.vars)
