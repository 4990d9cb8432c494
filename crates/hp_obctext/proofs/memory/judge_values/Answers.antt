use Rattle.std.proofs.Common.{◌≡◌, length, None, Some, sym, ap, ◌∙◌, arith}
use Rattle.hp_lines.specs.Refusals.{wrong_word}
use Rattle.hp_obctext.specs.MemoryKinds.{kinds_at}
use Rattle.hp_obctext.proofs.MemoryFitting.{refusal_word, words_are}
use Rattle.hp_obctext.proofs.memory.judge_values.Goals as goal

pub returns-in-Some : goal.returns-in-Some
returns-in-Some c = λ ws v n l.
    let same : length c.args.now.now ≡ length ws = omega (arith, n) in
    let kinds = kinds_at c.args.types.now c.args.now.now in
    let w = words_are c.args.types.now c.args.now.now c.args.checkpoint.now.lines.now ws same v l in
    refusal_word kinds ws w.1 (Some c.in-Some.number) (ap (wrong_word 1 kinds) (sym w.0) ∙ sym c.wrong_value.ensures ∙ c.in-Some.is)

pub returns-in-None : goal.returns-in-None
returns-in-None c = λ ws v n l.
    let same : length c.args.now.now ≡ length ws = omega (arith, n) in
    let kinds = kinds_at c.args.types.now c.args.now.now in
    let w = words_are c.args.types.now c.args.now.now c.args.checkpoint.now.lines.now ws same v l in
    refusal_word kinds ws w.1 None (ap (wrong_word 1 kinds) (sym w.0) ∙ sym c.wrong_value.ensures ∙ c.in-None.is)
