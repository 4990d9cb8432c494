use Rattle.std.proofs.Common.{◌≡◌, ◌≢◌, map, rules}
use Rattle.std.specs.String.{string_bytes}
use Rattle.hp_io.specs.Events.{said_bytes}
use Rattle.hp_driver.proofs.ClaimLaws.{lacking_answer, told_answer, unread_answer}
use Rattle.hp_driver.proofs.memory.run_in_memory.Goals as goal

pub returns-then-status-eq4 : goal.returns-then-status-eq4
returns-then-status-eq4 c =
    let four : c.run_tool-status.result ≡ 4 = search rules in
    let answer = c.nothing.result in
    unread_answer (map string_bytes c.args.words.now) c.args.files.now.files c.run_tool-status.new.files.files c.args.input.items c.run_tool-status.result four c.run_tool-status.ensures.leaves
    c.why_unread.result c.why_unread.ensures answer.said.items answer.diagnostics.items answer.status c.nothing.ensures.said c.nothing.ensures.diagnostics c.nothing.ensures.status

pub returns-then-status-eq5 : goal.returns-then-status-eq5
returns-then-status-eq5 c =
    let answer = c.nothing-then-status-eq5.result in
    lacking_answer (map string_bytes c.args.words.now) c.args.files.now.files c.run_tool-status.new.files.files c.args.input.items answer.said.items answer.diagnostics.items answer.status c.nothing-then-status-eq5.ensures.status

pub returns-in-Ok : goal.returns-in-Ok
returns-in-Ok c =
    let ran = c.run_tool-status in
    let answer = c.in-Ok.answer in
    let not_four : ran.result ≢ 4 = search rules in
    let not_five : ran.result ≢ 5 = search rules in
    let said : answer.said.items ≡ said_bytes ran.new.console.events = search rules in
    let took : answer.diagnostics.items ≡ ran.new.diag.took = search rules in
    let status : answer.status ≡ ran.result = search rules in
    told_answer (map string_bytes c.args.words.now) c.args.files.now.files ran.new.files.files c.args.input.items c.new-console.result.events ran.new.console.events c.new-console.result.left ran.new.console.left
    c.new-diag.result.took ran.new.diag.took ran.result c.new-console.ensures.events c.new-console.ensures.left c.new-diag.ensures.took ran.ensures.outcome ran.ensures.leaves not_four not_five
    answer.said.items answer.diagnostics.items answer.status said took status

pub returns : goal.returns
returns c =
    let answer = c.nothing-in-Err.result in
    lacking_answer (map string_bytes c.args.words.now) c.args.files.now.files c.run_tool-status.new.files.files c.args.input.items answer.said.items answer.diagnostics.items answer.status c.nothing-in-Err.ensures.status
