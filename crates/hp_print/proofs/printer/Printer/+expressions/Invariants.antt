use Rattle.std.proofs.Common.{◌≡◌, ◌+◌, ◌*◌, drop}
use Rattle.hp_tree.specs.Expressions.{exprs_of, parts_of}
use Rattle.hp_tree.specs.Sizes.{nodes, nodes_of_all, nodes_of_parts}
use Rattle.hp_print.specs.Tokens.{written_after}
use Rattle.hp_print.specs.ExpressionTokens.{more_arguments_tokens, parts_tokens}
use Rattle.hp_print.proofs.printer.Printer.+expressions.Given as goal

abbrev pub decreases-operand : goal.decreases-operand
decreases-operand l = 4 * nodes l.expr.now + 1

abbrev pub decreases-expression : goal.decreases-expression
decreases-expression l = 4 * nodes l.expr.now

abbrev pub decreases-prefixed : goal.decreases-prefixed
decreases-prefixed l = 4 * nodes l.a.now + 2

abbrev pub decreases-operation : goal.decreases-operation
decreases-operation l = 4 * (nodes l.a.now + nodes l.b.now) + 2

abbrev pub decreases-conditional : goal.decreases-conditional
decreases-conditional l = 4 * (nodes l.condition.now + nodes l.yes.now + nodes l.no.now) + 2

abbrev pub decreases-previous : goal.decreases-previous
decreases-previous l = 4 * nodes l.a.now + 2

abbrev pub decreases-delayed : goal.decreases-delayed
decreases-delayed l = 4 * (nodes l.a.now + nodes l.b.now) + 2

abbrev pub decreases-initialised : goal.decreases-initialised
decreases-initialised l = 4 * (nodes l.a.now + nodes l.b.now) + 2

abbrev pub decreases-sample : goal.decreases-sample
decreases-sample l = 4 * nodes l.a.now + 2

abbrev pub decreases-merge : goal.decreases-merge
decreases-merge l = 4 * nodes_of_parts (parts_of l.parts.now) + 3

abbrev pub decreases-call : goal.decreases-call
decreases-call l = 4 * nodes_of_all (exprs_of l.args.now) + 3

abbrev pub decreases-arguments : goal.decreases-arguments
decreases-arguments l = 4 * nodes_of_all (exprs_of l.args.now) + 2

abbrev pub decreases-more_arguments : goal.decreases-more_arguments
decreases-more_arguments l = 4 * nodes_of_all (exprs_of l.args.now) + 1

abbrev pub decreases-parts : goal.decreases-parts
decreases-parts l = 4 * nodes_of_parts (parts_of l.parts.now) + 1

abbrev pub invariant-more_arguments-loop-arg : goal.invariant-more_arguments-loop-arg
invariant-more_arguments-loop-arg l =
    written_after l.self (more_arguments_tokens (exprs_of (drop l.arg-index l.args))) ≡ written_after l.initial.self (more_arguments_tokens (exprs_of l.args))

abbrev pub invariant-parts-loop-cons : goal.invariant-parts-loop-cons
invariant-parts-loop-cons l =
    written_after l.self (parts_tokens (parts_of (drop l.cons-index l.parts))) ≡ written_after l.initial.self (parts_tokens (parts_of l.parts))
