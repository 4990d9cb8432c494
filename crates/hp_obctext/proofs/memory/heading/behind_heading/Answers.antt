use Rattle.std.proofs.Common.{rules}
use Rattle.hp_obctext.proofs.MemoryCounting.{heading_first, heading_second, heading_third, heading_behind, heading_read}
use Rattle.hp_obctext.proofs.memory.heading.behind_heading.Goals as goal

pub returns-in_err-rest-clause-refused : goal.returns-in_err-rest-clause-refused
returns-in_err-rest-clause-refused c =
    let wrong = heading_first c.args.text.now c.in_err-rest.field-0.0.now c.in_err-rest.ensures.refused in
    search (rules, wrong)

pub returns-in_err-rest-2-clause-refused : goal.returns-in_err-rest-2-clause-refused
returns-in_err-rest-2-clause-refused c =
    let wrong = heading_second c.args.text.now c.in_ok-rest.rest.now c.in_err-rest-2.field-0.0.now c.in_ok-rest.ensures.read c.in_err-rest-2.ensures.refused in
    search (rules, wrong)

pub returns-in_err-rest-3-clause-refused : goal.returns-in_err-rest-3-clause-refused
returns-in_err-rest-3-clause-refused c =
    let wrong = heading_third c.args.text.now c.in_ok-rest.rest.now c.in_ok-rest-2.rest.now c.in_err-rest-3.field-0.0.now c.in_ok-rest.ensures.read c.in_ok-rest-2.ensures.read c.in_err-rest-3.ensures.refused in
    search (rules, wrong)

pub returns-clause-read : goal.returns-clause-read
returns-clause-read c =
    heading_read c.args.text.now c.in_ok-rest.rest.now c.in_ok-rest-2.rest.now c.in_ok-rest-3.rest.now c.in_ok-rest.ensures.read c.in_ok-rest-2.ensures.read c.in_ok-rest-3.ensures.read

pub returns-clause-behind : goal.returns-clause-behind
returns-clause-behind c = λ place w.
    heading_behind c.args.text.now c.in_ok-rest.rest.now c.in_ok-rest-2.rest.now c.in_ok-rest-3.rest.now place c.in_ok-rest.ensures.read c.in_ok-rest-2.ensures.read c.in_ok-rest-3.ensures.read w
