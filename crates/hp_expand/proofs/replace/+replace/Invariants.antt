use Rattle.std.proofs.Common.{◌≡◌, ◌+◌, ◌*◌, drop, map}
use Rattle.hp_tree.specs.Expressions.{exprs_of, parts_of}
use Rattle.hp_tree.specs.BlockView.{eqn_seen}
use Rattle.hp_tree.specs.Sizes.{nodes, nodes_of_all, nodes_of_parts}
use Rattle.hp_tree.proofs.KindSizes.{nodes_of_kind}
use Rattle.hp_expand.specs.Replacing.{in_exprs, in_parts}
use Rattle.hp_expand.specs.Making.{with_more, exprs_onto, parts_onto}
use Rattle.hp_expand.specs.NodeTables.{node_in}
use Rattle.hp_expand.proofs.replace.+replace.Given as goal

abbrev pub decreases-replace_expr : goal.decreases-replace_expr
decreases-replace_expr l = 4 * nodes l.expr.now + 1

abbrev pub decreases-replace_kind : goal.decreases-replace_kind
decreases-replace_kind l = 4 * nodes_of_kind l.kind.now

abbrev pub decreases-replace_call : goal.decreases-replace_call
decreases-replace_call l = 4 * nodes_of_all (exprs_of l.args.now) + 3

abbrev pub decreases-replace_args : goal.decreases-replace_args
decreases-replace_args l = 4 * nodes_of_all (exprs_of l.args.now) + 2

abbrev pub decreases-replace_parts : goal.decreases-replace_parts
decreases-replace_parts l = 4 * nodes_of_parts (parts_of l.parts.now) + 2

abbrev pub invariant-replace_args-loop-arg : goal.invariant-replace_args-loop-arg
invariant-replace_args-loop-arg l =
    record {
      args : exprs_onto l.others.items (in_exprs (node_in l.nodes) l.made.next (exprs_of (drop l.arg-index l.args))).part ≡ (in_exprs (node_in l.nodes) l.initial.made.next (exprs_of l.args)).part;
      locals : with_more l.made.locals.items (in_exprs (node_in l.nodes) l.made.next (exprs_of (drop l.arg-index l.args))).locals
          ≡ with_more l.initial.made.locals.items (in_exprs (node_in l.nodes) l.initial.made.next (exprs_of l.args)).locals;
      eqns : with_more (map eqn_seen l.made.eqns.items) (in_exprs (node_in l.nodes) l.made.next (exprs_of (drop l.arg-index l.args))).before
          ≡ with_more (map eqn_seen l.initial.made.eqns.items) (in_exprs (node_in l.nodes) l.initial.made.next (exprs_of l.args)).before;
      next : (in_exprs (node_in l.nodes) l.made.next (exprs_of (drop l.arg-index l.args))).next ≡ (in_exprs (node_in l.nodes) l.initial.made.next (exprs_of l.args)).next;
    }

abbrev pub invariant-replace_parts-loop-cons : goal.invariant-replace_parts-loop-cons
invariant-replace_parts-loop-cons l =
    record {
      parts : parts_onto l.others.items (in_parts (node_in l.nodes) l.made.next (parts_of (drop l.cons-index l.parts))).part ≡ (in_parts (node_in l.nodes) l.initial.made.next (parts_of l.parts)).part;
      locals : with_more l.made.locals.items (in_parts (node_in l.nodes) l.made.next (parts_of (drop l.cons-index l.parts))).locals
          ≡ with_more l.initial.made.locals.items (in_parts (node_in l.nodes) l.initial.made.next (parts_of l.parts)).locals;
      eqns : with_more (map eqn_seen l.made.eqns.items) (in_parts (node_in l.nodes) l.made.next (parts_of (drop l.cons-index l.parts))).before
          ≡ with_more (map eqn_seen l.initial.made.eqns.items) (in_parts (node_in l.nodes) l.initial.made.next (parts_of l.parts)).before;
      next : (in_parts (node_in l.nodes) l.made.next (parts_of (drop l.cons-index l.parts))).next ≡ (in_parts (node_in l.nodes) l.initial.made.next (parts_of l.parts)).next;
    }
