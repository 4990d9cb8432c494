use Rattle.std.proofs.Common.{◌≡◌, ◌++◌, drop}
use Rattle.law_equations.specs.Made.Making.{next, numbers_from}
use Rattle.hp_complete.specs.Drafting.{signed_at}
use Rattle.hp_complete.specs.Drafts.{place_of, sketch_of}
use Rattle.hp_complete.specs.Places.{saying}
use Rattle.hp_complete.proofs.draft.Draft.add_all_signed.Given as goal

abbrev pub invariant-loop-decl : goal.invariant-loop-decl
invariant-loop-decl l =
    record {
      sketch : (signed_at (drop l.decl-index l.decls) (place_of l.self) (sketch_of l.self)).1 ≡ (signed_at l.decls (place_of l.initial.self) (sketch_of l.initial.self)).1;
      place : saying (signed_at (drop l.decl-index l.decls) (place_of l.self) (sketch_of l.self)).0 (place_of l.self)
          ≡ saying (signed_at l.decls (place_of l.initial.self) (sketch_of l.initial.self)).0 (place_of l.initial.self);
      numbers : l.numbers.items ++ numbers_from (next (sketch_of l.self)) (drop l.decl-index l.decls) ≡ numbers_from (next (sketch_of l.initial.self)) l.decls;
    }
