use Rattle.std.proofs.Common.{◌≡◌, drop}
use Rattle.hp_complete.specs.Drafting.{remembered_at}
use Rattle.hp_complete.specs.Drafts.{place_of, sketch_of}
use Rattle.hp_complete.specs.Places.{saying}
use Rattle.hp_complete.proofs.draft.Draft.remember_all.Given as goal

abbrev pub invariant-loop-decl : goal.invariant-loop-decl
invariant-loop-decl l =
    record {
      sketch : (remembered_at (drop l.decl-index l.decls) (place_of l.self) (sketch_of l.self)).1 ≡ (remembered_at l.decls (place_of l.initial.self) (sketch_of l.initial.self)).1;
      place : saying (remembered_at (drop l.decl-index l.decls) (place_of l.self) (sketch_of l.self)).0 (place_of l.self)
          ≡ saying (remembered_at l.decls (place_of l.initial.self) (sketch_of l.initial.self)).0 (place_of l.initial.self);
    }
