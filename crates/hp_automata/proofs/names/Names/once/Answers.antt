use Rattle.std.proofs.Common.{sym, ap, ◌∙◌, arith}
use Rattle.hp_automata.specs.Names.{is_name, once_behind}
use Rattle.hp_automata.specs.Lists.{names_seen}
use Rattle.hp_automata.proofs.ListLaws.{drop-end}
use Rattle.hp_automata.proofs.NameLaws.{is_name-once}
use Rattle.hp_automata.proofs.names.Names.once.Goals as goal

pub returns-clause-known : goal.returns-clause-known
returns-clause-known c =
    let found = names_seen c.loop-i.found.items in
    ap (λ ys. is_name ys) (ap (λ more. once_behind found (names_seen more)) (sym (drop-end c.args.names.now c.loop-i.i (omega arith))) ∙ c.loop-i.invariant.names)
    ∙ is_name-once (names_seen c.args.names.now)
