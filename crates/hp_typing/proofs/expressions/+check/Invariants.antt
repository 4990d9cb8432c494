use Rattle.std.proofs.Common.{◌≡◌, ◌+◌, ◌*◌, ◌&&◌, drop}
use Rattle.hp_tree.specs.Expressions.{exprs_of, parts_of}
use Rattle.hp_tree.specs.Sizes.{nodes, nodes_of_all, nodes_of_parts}
use Rattle.hp_typing.specs.Breaches.{found_after}
use Rattle.hp_typing.specs.Seen.{kind_told}
use Rattle.hp_typing.specs.Types.{types_in, all_typed, args_fit, parts_fit}
use Rattle.hp_typing.specs.Claims.{in_exprs, in_pairs, in_parts}
use Rattle.hp_typing.proofs.expressions.+check.Given as goal

abbrev pub decreases-check_expr : goal.decreases-check_expr
decreases-check_expr l = 3 * nodes l.expr.now

abbrev pub decreases-check_two : goal.decreases-check_two
decreases-check_two l = 3 * (nodes l.a.now + nodes l.b.now) + 1

abbrev pub decreases-check_if : goal.decreases-check_if
decreases-check_if l = 3 * (nodes l.a.now + nodes l.b.now + nodes l.c.now) + 1

abbrev pub decreases-check_pair : goal.decreases-check_pair
decreases-check_pair l = 3 * (nodes l.a.now + nodes l.b.now) + 1

abbrev pub decreases-check_merge : goal.decreases-check_merge
decreases-check_merge l = 3 * nodes_of_parts (parts_of l.parts.now) + 2

abbrev pub decreases-check_parts : goal.decreases-check_parts
decreases-check_parts l = 3 * nodes_of_parts (parts_of l.parts.now) + 1

abbrev pub decreases-check_call : goal.decreases-check_call
decreases-check_call l = 3 * nodes_of_all (exprs_of l.args.now) + 2

abbrev pub decreases-check_args : goal.decreases-check_args
decreases-check_args l = 3 * nodes_of_all (exprs_of l.args.now) + 1

abbrev pub invariant-check_parts-loop-cons : goal.invariant-check_parts-loop-cons
invariant-check_parts-loop-cons l =
    record {
      fit : (l.fit && parts_fit l.scope (kind_told l.name) (kind_told l.first) (parts_of (drop l.cons-index l.parts)))
          ≡ parts_fit l.scope (kind_told l.name) (kind_told l.first) (parts_of l.parts);
      found : found_after l.found (in_parts l.scope l.at (kind_told l.name) (kind_told l.first) (parts_of (drop l.cons-index l.parts)))
          ≡ found_after l.initial.found (in_parts l.scope l.at (kind_told l.name) (kind_told l.first) (parts_of l.parts));
    }

abbrev pub invariant-check_args-loop-i : goal.invariant-check_args-loop-i
invariant-check_args-loop-i l =
    record {
      typed : (l.typed && all_typed (types_in l.scope (exprs_of (drop l.i l.args)))) ≡ all_typed (types_in l.scope (exprs_of l.args));
      fit : (l.fit && args_fit (drop l.i l.inputs) (types_in l.scope (exprs_of (drop l.i l.args)))) ≡ args_fit l.inputs (types_in l.scope (exprs_of l.args));
      found : found_after l.found (in_exprs l.scope (exprs_of (drop l.i l.args))) ≡ found_after l.initial.found (in_exprs l.scope (exprs_of l.args));
      mismatch : found_after l.mismatch (in_pairs l.scope (drop l.i l.inputs) (exprs_of (drop l.i l.args)))
          ≡ found_after l.initial.mismatch (in_pairs l.scope l.inputs (exprs_of l.args));
    }
