use Rattle.std.proofs.Common.{◌≡◌, ◌+◌, ◌*◌, ◌++◌, drop}
use Rattle.hp_tree.specs.Expressions.{exprs_of, parts_of}
use Rattle.hp_tree.specs.Sizes.{nodes, nodes_of_all, nodes_of_parts}
use Rattle.hp_watch.specs.Walk.{in_exprs, in_parts, walk_all, walk_parts}
use Rattle.hp_watch.proofs.walk.Walk.+expr.Given as goal

abbrev pub decreases-expr : goal.decreases-expr
decreases-expr l = 4 * nodes l.expr.now

abbrev pub decreases-both : goal.decreases-both
decreases-both l = 4 * (nodes l.a.now + nodes l.b.now) + 1

abbrev pub decreases-comparison : goal.decreases-comparison
decreases-comparison l = 4 * (nodes l.a.now + nodes l.b.now) + 2

abbrev pub decreases-two : goal.decreases-two
decreases-two l = 4 * (nodes l.a.now + nodes l.b.now) + 3

abbrev pub decreases-all : goal.decreases-all
decreases-all l = 4 * nodes_of_all (exprs_of l.exprs.now) + 1

abbrev pub decreases-parts : goal.decreases-parts
decreases-parts l = 4 * nodes_of_parts (parts_of l.parts.now) + 1

abbrev pub decreases-call : goal.decreases-call
decreases-call l = 4 * nodes_of_all (exprs_of l.args.now) + 2

abbrev pub invariant-all-loop-expr : goal.invariant-all-loop-expr
invariant-all-loop-expr l = record {
  found : l.into.items ++ (walk_all (exprs_of (drop l.expr-index l.exprs)) l.self.left.now).0 ≡ l.initial.into.items ++ (walk_all (exprs_of l.exprs) l.initial.self.left.now).0;
  left : (walk_all (exprs_of (drop l.expr-index l.exprs)) l.self.left.now).1 ≡ (walk_all (exprs_of l.exprs) l.initial.self.left.now).1;
  asked : l.self.asked + in_exprs (exprs_of (drop l.expr-index l.exprs)) ≡ l.initial.self.asked + in_exprs (exprs_of l.exprs);
}

abbrev pub invariant-parts-loop-part : goal.invariant-parts-loop-part
invariant-parts-loop-part l = record {
  found : l.into.items ++ (walk_parts (parts_of (drop l.part-index l.parts)) l.self.left.now).0 ≡ l.initial.into.items ++ (walk_parts (parts_of l.parts) l.initial.self.left.now).0;
  left : (walk_parts (parts_of (drop l.part-index l.parts)) l.self.left.now).1 ≡ (walk_parts (parts_of l.parts) l.initial.self.left.now).1;
  asked : l.self.asked + in_parts (parts_of (drop l.part-index l.parts)) ≡ l.initial.self.asked + in_parts (parts_of l.parts);
}
