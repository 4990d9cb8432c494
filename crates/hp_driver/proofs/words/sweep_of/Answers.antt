use Rattle.std.proofs.Common.{rules, ℕ, List, codes, map}
use Rattle.std.specs.String.{string_bytes}
use Rattle.hp_driver.specs.Command.{IsOnTraceBy}
use Rattle.hp_driver.proofs.TellLaws.{sweep_words}
use Rattle.hp_driver.proofs.words.sweep_of.Goals as goal

pub returns-in_default : goal.returns-in_default
returns-in_default c = λ tasks instants w.
    let none : (first second : List ℕ) → IsOnTraceBy (codes "sweep") (map string_bytes c.args.words.now) first second → ⊥ = search rules in
    none w.tasks_word w.instants_word (sweep_words (map string_bytes c.args.words.now) tasks instants w)
