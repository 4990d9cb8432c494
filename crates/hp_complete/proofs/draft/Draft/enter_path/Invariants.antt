use Rattle.std.proofs.Common.{◌≡◌, drop}
use Rattle.hp_complete.specs.Drafting.{entered}
use Rattle.hp_complete.specs.Drafts.{place_of, sketch_of}
use Rattle.hp_complete.specs.Places.{at_site}
use Rattle.hp_complete.proofs.draft.Draft.enter_path.Given as goal

abbrev pub invariant-loop-cons : goal.invariant-loop-cons
invariant-loop-cons l =
    record {
      sketch : (entered (place_of l.self) (drop l.cons-index l.path) (sketch_of l.self)).1 ≡ (entered (place_of l.initial.self) l.path (sketch_of l.initial.self)).1;
      place : at_site (entered (place_of l.self) (drop l.cons-index l.path) (sketch_of l.self)).0 (place_of l.self)
          ≡ at_site (entered (place_of l.initial.self) l.path (sketch_of l.initial.self)).0 (place_of l.initial.self);
    }
