use Rattle.std.proofs.Common.{◌≡◌, ◌+◌, ◌*◌, ◌++◌, drop}
use Rattle.hp_tree.specs.Expressions.{exprs_of, parts_of}
use Rattle.hp_tree.specs.Sizes.{nodes, nodes_of_all, nodes_of_parts}
use Rattle.hp_complete.specs.Drafting.{exprs_made, parts_made}
use Rattle.hp_complete.specs.Drafts.{place_of, sketch_of}
use Rattle.std.proofs.Common.{None}
use Rattle.hp_complete.proofs.draft.Draft.+expr.Given as goal

abbrev pub decreases-expr : goal.decreases-expr
decreases-expr l = 4 * nodes l.expr.now

abbrev pub decreases-fby : goal.decreases-fby
decreases-fby l = 4 * (nodes l.a.now + nodes l.b.now) + 1

abbrev pub decreases-when : goal.decreases-when
decreases-when l = 4 * nodes l.a.now + 1

abbrev pub decreases-merge : goal.decreases-merge
decreases-merge l = 4 * nodes_of_parts (parts_of l.parts.now) + 3

abbrev pub decreases-parts : goal.decreases-parts
decreases-parts l = 4 * nodes_of_parts (parts_of l.parts.now) + 2

abbrev pub decreases-part : goal.decreases-part
decreases-part l = 4 * nodes l.part.now + 1

abbrev pub decreases-args : goal.decreases-args
decreases-args l = 4 * nodes_of_all (exprs_of l.exprs.now) + 1

abbrev pub decreases-call : goal.decreases-call
decreases-call l = 4 * nodes_of_all (exprs_of l.exprs.now) + 2

abbrev pub decreases-called : goal.decreases-called
decreases-called l = 4 * nodes_of_all (exprs_of l.exprs.now) + 3

abbrev pub invariant-parts-loop-cons : goal.invariant-parts-loop-cons
invariant-parts-loop-cons l =
    let p = place_of l.initial.self in
    record {
      sketch : (parts_made p l.test l.merged (parts_of (drop l.cons-index l.parts)) (sketch_of l.self)).0 ≡ (parts_made p l.test None (parts_of l.parts) (sketch_of l.initial.self)).0;
      merged : (parts_made p l.test l.merged (parts_of (drop l.cons-index l.parts)) (sketch_of l.self)).1 ≡ (parts_made p l.test None (parts_of l.parts) (sketch_of l.initial.self)).1;
      place : place_of l.self ≡ p;
    }

abbrev pub invariant-args-loop-expr : goal.invariant-args-loop-expr
invariant-args-loop-expr l =
    let p = place_of l.initial.self in
    record {
      sketch : (exprs_made p (exprs_of (drop l.expr-index l.exprs)) (sketch_of l.self)).0 ≡ (exprs_made p (exprs_of l.exprs) (sketch_of l.initial.self)).0;
      args : l.args.items ++ (exprs_made p (exprs_of (drop l.expr-index l.exprs)) (sketch_of l.self)).1 ≡ (exprs_made p (exprs_of l.exprs) (sketch_of l.initial.self)).1;
      place : place_of l.self ≡ p;
    }
