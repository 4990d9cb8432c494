use Rattle.std.proofs.Common.{◌∙◌, sym, subst, arith}
use Rattle.hp_driver.specs.Command.{SpellsNumber}
use Rattle.hp_driver.proofs.TellLaws.{too_many}
use Rattle.hp_driver.proofs.words.number_of.Goals as goal

pub returns-then-longer-most : goal.returns-then-longer-most
returns-then-longer-most c = λ number spells few.
    too_many c.as_bytes-bytes.result.now c.loop-i.i c.loop-i.number c.in-Some.longer c.args.most (omega arith) c.loop-i.invariant.1 (sym c.with_digit.ensures ∙ c.in-Some.is) (omega arith) number (subst (λ word. SpellsNumber word number) (sym c.as_bytes-bytes.ensures.value) spells) few
