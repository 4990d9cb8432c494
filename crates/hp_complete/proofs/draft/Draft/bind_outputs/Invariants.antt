use Rattle.std.proofs.Common.{◌≡◌, drop}
use Rattle.hp_complete.specs.Drafting.{bind_each}
use Rattle.hp_complete.specs.Drafts.{place_of, sketch_of}
use Rattle.hp_complete.specs.Places.{sees}
use Rattle.hp_complete.proofs.draft.Draft.bind_outputs.Given as goal

abbrev pub invariant-loop-i : goal.invariant-loop-i
invariant-loop-i l =
    let p = place_of l.initial.self in
    record {
      sketch : bind_each (sees p) p.site (drop l.i l.names) (drop l.i l.outputs) (sketch_of l.self) ≡ bind_each (sees p) p.site l.names l.outputs (sketch_of l.initial.self);
      place : place_of l.self ≡ p;
    }
