use Rattle.std.proofs.Common.{◌≡◌, ◌+◌, ◌-◌, ◌<◌, length, drop, None, Some, sym, ap, ◌∙◌, arith}
use Rattle.hp_base.specs.declared.value.Value.TheVariants.{Absent}
use Rattle.hp_lines.specs.Refusals.{wrong_word}
use Rattle.hp_lines.specs.Values.{value_of}
use Rattle.std.specs.Prelude.{slice_index_or}
use Rattle.hp_obctext.specs.MemoryKinds.{kind_at, kinds_at}
use Rattle.hp_obctext.specs.MemoryReading.{first_words}
use Rattle.hp_obctext.proofs.MemoryValues.{wrong_here, wrong_step}
use Rattle.hp_obctext.proofs.memory.values.wrong_value.Goals as goal

pub returns-in_default : goal.returns-in_default
returns-in_default c =
    let types = c.args.types.now in
    let now = c.args.now.now in
    let i = c.loop-i.i in
    let less : i < length now = omega arith in
    let none = ap (value_of (kind_at types (slice_index_or now i Absent))) (sym c.first_word.ensures.word) ∙ sym c.value_like.ensures ∙ c.in_default.is in
    sym (wrong_here types now i Absent c.loop-i.rest.now less none) ∙ c.loop-i.invariant

pub loop-i-preserved : goal.loop-i-preserved
loop-i-preserved c =
    let types = c.args.types.now in
    let now = c.args.now.now in
    let i = c.loop-i.i in
    let less : i < length now = omega arith in
    let some = ap (value_of (kind_at types (slice_index_or now i Absent))) (sym c.first_word.ensures.word) ∙ sym c.value_like.ensures ∙ c.in-Some.is in
    ap (λ z. wrong_word (i + 1 + 1) (kinds_at types (drop (i + 1) now)) (first_words (length now - (i + 1)) z)) c.behind_line-rest.ensures
    ∙ sym (wrong_step types now i Absent c.in-Some.field-0 c.loop-i.rest.now less some) ∙ c.loop-i.invariant
