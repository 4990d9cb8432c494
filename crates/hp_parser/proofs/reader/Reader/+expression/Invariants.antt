use Rattle.std.proofs.Common.{◌≡◌, ◌+◌, ◌*◌, ◌<◌, map, length}
use Rattle.hp_parser.specs.Descent.{measured_seen, part_seen, arguments_read, parts_read, sampled_read, samples_read, level_read, more_read}
use Rattle.hp_parser.specs.Grammar.{deepest}
use Rattle.hp_parser.proofs.DescentLaws.{arguments_from, parts_from, level_rank, operand_rank}
use Rattle.hp_parser.proofs.reader.Reader.+expression.Given as goal

abbrev pub decreases-arguments : goal.decreases-arguments
decreases-arguments l = 32 * l.depth

abbrev pub decreases-parse_arrow : goal.decreases-parse_arrow
decreases-parse_arrow l = 32 * l.depth + 21

abbrev pub decreases-atom : goal.decreases-atom
decreases-atom l = 32 * l.depth + 3

abbrev pub decreases-call : goal.decreases-call
decreases-call l = 32 * l.depth + 1

abbrev pub decreases-expression : goal.decreases-expression
decreases-expression l = 32 * l.depth + 22

abbrev pub decreases-inlined_call : goal.decreases-inlined_call
decreases-inlined_call l = 32 * l.depth + 2

abbrev pub decreases-parse_operation : goal.decreases-parse_operation
decreases-parse_operation l = 32 * l.depth

abbrev pub decreases-level : goal.decreases-level
decreases-level l = 32 * l.depth + level_rank l.level

abbrev pub decreases-parse_merge : goal.decreases-parse_merge
decreases-parse_merge l = 32 * l.depth + 2

abbrev pub decreases-named : goal.decreases-named
decreases-named l = 32 * l.depth + 2

abbrev pub decreases-operand : goal.decreases-operand
decreases-operand l = 32 * l.depth + operand_rank l.level

abbrev pub decreases-parentheses : goal.decreases-parentheses
decreases-parentheses l = 32 * l.depth

abbrev pub decreases-part : goal.decreases-part
decreases-part l = 32 * l.depth

abbrev pub decreases-parts : goal.decreases-parts
decreases-parts l = 32 * l.depth + 1

abbrev pub decreases-parse_samples : goal.decreases-parse_samples
decreases-parse_samples l = 32 * l.depth + 20

abbrev pub decreases-unary : goal.decreases-unary
decreases-unary l = 32 * l.depth + 4

abbrev pub invariant-arguments-loop-mode : goal.invariant-arguments-loop-mode
invariant-arguments-loop-mode l = record {
  read : arguments_from l.mode l.depth (map measured_seen l.args.items) l.self ≡ arguments_read l.mode l.depth l.fn.self;
  within : deepest (map measured_seen l.args.items) < l.depth;
}

abbrev pub decreases-arguments-loop-mode : goal.decreases-arguments-loop-mode
decreases-arguments-loop-mode l = length l.self

abbrev pub invariant-level-loop-mode : goal.invariant-level-loop-mode
invariant-level-loop-mode l = record {
  read : more_read l.mode l.depth l.level (measured_seen l.left) l.self ≡ level_read l.mode l.depth l.level l.fn.self;
  within : l.left.height < l.depth;
}

abbrev pub decreases-level-loop-mode : goal.decreases-level-loop-mode
decreases-level-loop-mode l = length l.self

abbrev pub invariant-parts-loop-mode : goal.invariant-parts-loop-mode
invariant-parts-loop-mode l = record {
  read : parts_from l.mode l.depth (map part_seen l.parts.items) l.self ≡ parts_read l.mode l.depth l.fn.self;
  within : deepest (map (λ p. measured_seen p.value) l.parts.items) < l.depth;
}

abbrev pub decreases-parts-loop-mode : goal.decreases-parts-loop-mode
decreases-parts-loop-mode l = length l.self

abbrev pub invariant-parse_samples-loop-mode : goal.invariant-parse_samples-loop-mode
invariant-parse_samples-loop-mode l = record {
  read : samples_read l.mode l.depth (measured_seen l.left) l.self ≡ sampled_read l.mode l.depth l.fn.self;
  within : l.left.height < l.depth;
}

abbrev pub decreases-parse_samples-loop-mode : goal.decreases-parse_samples-loop-mode
decreases-parse_samples-loop-mode l = length l.self
