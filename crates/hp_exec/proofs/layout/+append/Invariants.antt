use Rattle.std.proofs.Common.{◌≡◌, ◌+◌, ◌*◌, ◌++◌, length, drop}
use Rattle.hp_exec.specs.Layouts.{layout_of, layouts_of, firsts_in}
use Rattle.hp_exec.proofs.layout.+append.Given as goal

abbrev pub decreases-append_first : goal.decreases-append_first
decreases-append_first l = 2 * length l.earlier.now + 1

abbrev pub decreases-append_instance : goal.decreases-append_instance
decreases-append_instance l = 2 * length l.earlier.now

abbrev pub invariant-append_first-loop-part : goal.invariant-append_first-loop-part
invariant-append_first-loop-part l = l.into.items ++ firsts_in (layouts_of l.earlier) (drop l.part-index l.part-items) ≡ l.fn.into.items ++ (layout_of (layouts_of l.earlier) l.routine).first
