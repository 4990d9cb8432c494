use Rattle.std.proofs.Common.{◌≡◌, ◌+◌, ◌*◌, [], ◌∷◌, drop}
use Rattle.hp_tree.specs.Expressions.{exprs_of, parts_of}
use Rattle.hp_tree.specs.Sizes.{nodes, nodes_of_all, nodes_of_parts}
use Rattle.hp_cause.specs.Gathering.{of_exprs, of_parts}
use Rattle.hp_tables.specs.Defining.Layers.{sight}
use Rattle.hp_cause.specs.Told.{facts_seen, names_seen, with_more}
use Rattle.hp_cause.specs.Vertices.{calls_in_all, calls_in_parts}
use Rattle.hp_cause.proofs.expression.+gather.Given as goal

abbrev pub decreases-gather_expr : goal.decreases-gather_expr
decreases-gather_expr l = 2 * nodes l.expr.now

abbrev pub decreases-gather_args : goal.decreases-gather_args
decreases-gather_args l = 2 * nodes_of_all (exprs_of l.args.now) + 1

abbrev pub decreases-gather_parts : goal.decreases-gather_parts
decreases-gather_parts l = 2 * nodes_of_parts (parts_of l.parts.now) + 1

abbrev pub invariant-gather_args-loop-arg : goal.invariant-gather_args-loop-arg
invariant-gather_args-loop-arg l =
    record {
      next : l.notes.next + calls_in_all (exprs_of (drop l.arg-index l.args)) ≡ l.initial.notes.next + calls_in_all (exprs_of l.args);
      facts : with_more (facts_seen l.notes.facts.items) (of_exprs (sight l.layers) l.control (names_seen l.clock) (l.reader ∷ []) l.notes.next (exprs_of (drop l.arg-index l.args)))
          ≡ with_more (facts_seen l.initial.notes.facts.items) (of_exprs (sight l.layers) l.control (names_seen l.clock) (l.reader ∷ []) l.initial.notes.next (exprs_of l.args));
    }

abbrev pub invariant-gather_parts-loop-expr : goal.invariant-gather_parts-loop-expr
invariant-gather_parts-loop-expr l =
    record {
      next : l.notes.next + calls_in_parts (parts_of (drop l.expr-index l.parts)) ≡ l.initial.notes.next + calls_in_parts (parts_of l.parts);
      facts : with_more (facts_seen l.notes.facts.items) (of_parts (sight l.layers) l.control (names_seen l.clock) l.readers l.notes.next (parts_of (drop l.expr-index l.parts)))
          ≡ with_more (facts_seen l.initial.notes.facts.items) (of_parts (sight l.layers) l.control (names_seen l.clock) l.readers l.initial.notes.next (parts_of l.parts));
    }
