use Rattle.std.proofs.Common.{◌+◌, ◌*◌, ◌≡◌, drop}
use Rattle.hp_tree.specs.Expressions.{exprs_of, parts_of}
use Rattle.hp_tree.specs.Sizes.{nodes, nodes_of_all, nodes_of_parts}
use Rattle.hp_drawing.specs.DrawnExpressions.{drawn_args, drawn_parts}
use Rattle.hp_drawing.specs.Seen.{sketch_of}
use Rattle.hp_abstract.specs.Seen.{scope_of, told_in}
use Rattle.hp_abstract.proofs.expression.+draw.Given as goal

abbrev pub decreases-draw : goal.decreases-draw
decreases-draw g l = 4 * nodes l.expr.now

abbrev pub decreases-draw_two : goal.decreases-draw_two
decreases-draw_two g l = 4 * (nodes l.a.now + nodes l.b.now) + 1

abbrev pub decreases-draw_pre : goal.decreases-draw_pre
decreases-draw_pre g l = 4 * nodes l.a.now + 1

abbrev pub decreases-draw_fby : goal.decreases-draw_fby
decreases-draw_fby g l = 4 * (nodes l.a.now + nodes l.b.now) + 1

abbrev pub decreases-draw_arrow : goal.decreases-draw_arrow
decreases-draw_arrow g l = 4 * (nodes l.a.now + nodes l.b.now) + 1

abbrev pub decreases-draw_when : goal.decreases-draw_when
decreases-draw_when g l = 4 * nodes l.a.now + 1

abbrev pub decreases-draw_merge : goal.decreases-draw_merge
decreases-draw_merge g l = 4 * nodes_of_parts (parts_of l.parts.now) + 2

abbrev pub decreases-draw_part : goal.decreases-draw_part
decreases-draw_part g l = 4 * nodes l.expr.now + 1

abbrev pub decreases-draw_call : goal.decreases-draw_call
decreases-draw_call g l = 4 * nodes_of_all (exprs_of l.args.now) + 2

abbrev pub decreases-draw_args : goal.decreases-draw_args
decreases-draw_args g l = 4 * nodes_of_all (exprs_of l.args.now) + 1

abbrev pub decreases-draw_if : goal.decreases-draw_if
decreases-draw_if g l = 4 * (nodes l.a.now + nodes l.b.now + nodes l.c.now) + 1

abbrev pub invariant-draw_merge-loop-cons : goal.invariant-draw_merge-loop-cons
invariant-draw_merge-loop-cons g l =
    drawn_parts (told_in l.tables) g.C.Callees.brings (scope_of l.scope) l.place l.name (parts_of (drop l.cons-index l.parts)) l.hole (sketch_of l.draft)
    ≡ drawn_parts (told_in l.tables) g.C.Callees.brings (scope_of l.scope) l.place l.name (parts_of l.parts) l.initial.hole (sketch_of l.initial.draft)

abbrev pub invariant-draw_args-loop-i : goal.invariant-draw_args-loop-i
invariant-draw_args-loop-i g l =
    drawn_args (told_in l.tables) g.C.Callees.brings (scope_of l.scope) l.place l.callee l.i (exprs_of (drop l.i l.args)) (sketch_of l.draft)
    ≡ drawn_args (told_in l.tables) g.C.Callees.brings (scope_of l.scope) l.place l.callee 0 (exprs_of l.args) (sketch_of l.initial.draft)
