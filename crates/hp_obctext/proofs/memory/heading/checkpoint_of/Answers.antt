use Rattle.std.proofs.Common.{rules, refl}
use Rattle.hp_obctext.proofs.MemoryCounting.{name_wrong, name_right, name_later, says}
use Rattle.hp_obctext.proofs.memory.heading.checkpoint_of.Goals as goal

pub returns-in_err-name-clause-refused : goal.returns-in_err-name-clause-refused
returns-in_err-name-clause-refused c =
    let rest = c.in_ok-rest.rest.now in
    let place = c.in_err-name.field-0.0.now in
    let wrong = c.in_ok-rest.ensures.behind place (name_wrong rest place c.in_err-name.ensures.refused) in
    search (rules, wrong)

pub returns-in_err-count-clause-refused : goal.returns-in_err-count-clause-refused
returns-in_err-count-clause-refused c =
    let rest = c.in_ok-rest.rest.now in
    let name = c.in_ok-name.name in
    let place = c.in_err-count.field-0.0.now in
    let wrong = c.in_ok-rest.ensures.behind place (name_later rest name.word.now name.rest.now place c.in_ok-name.ensures.word c.in_ok-name.ensures.read c.in_err-count.ensures.refused) in
    search (rules, wrong)

pub returns-clause-read : goal.returns-clause-read
returns-clause-read c =
    let rest = c.in_ok-rest.rest.now in
    let name = c.in_ok-name.name in
    let right = name_right rest name.word.now name.rest.now c.in_ok-name.ensures.word c.in_ok-name.ensures.read in
    let read = c.in_ok-count.ensures.read in
    (read.0, (says c.args.text.now rest name.word.now name.rest.now read.0 c.in_ok-rest.ensures.read right.1 right.0 read.1.0 read.1.1, read.1.2, read.1.1))
