use Rattle.std.proofs.Common.{◌≡◌, ◌≤◌, length, drop}
use Rattle.hp_complete.specs.Drafting.{declared_at}
use Rattle.hp_complete.specs.Drafts.{place_of, sketch_of}
use Rattle.hp_complete.proofs.draft.Draft.declare_all.Given as goal

abbrev pub invariant-loop-i : goal.invariant-loop-i
invariant-loop-i l =
    record {
      inside : l.i ≤ length l.decls;
      sketch : sketch_of l.self ≡ sketch_of l.initial.self;
      place : place_of l.self ≡ declared_at (drop l.i l.decls) (place_of l.initial.self);
    }

abbrev pub decreases-loop-i : goal.decreases-loop-i
decreases-loop-i l = l.i
