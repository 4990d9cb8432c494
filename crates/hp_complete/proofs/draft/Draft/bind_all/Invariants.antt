use Rattle.std.proofs.Common.{◌≡◌, drop}
use Rattle.law_equations.specs.Made.Making.{bind_all}
use Rattle.hp_complete.specs.Drafts.{place_of, sketch_of}
use Rattle.hp_complete.specs.Places.{sees}
use Rattle.hp_complete.proofs.draft.Draft.bind_all.Given as goal

abbrev pub invariant-loop-name : goal.invariant-loop-name
invariant-loop-name l =
    let p = place_of l.initial.self in
    record {
      sketch : bind_all (sees p) p.site (drop l.name-index l.names) l.variable (sketch_of l.self) ≡ bind_all (sees p) p.site l.names l.variable (sketch_of l.initial.self);
      place : place_of l.self ≡ p;
    }
