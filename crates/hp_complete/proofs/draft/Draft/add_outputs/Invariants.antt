use Rattle.std.proofs.Common.{◌≡◌, ◌++◌, drop}
use Rattle.law_equations.specs.Made.Making.{next, numbers_from, with_outputs}
use Rattle.hp_complete.specs.Drafts.{place_of, sketch_of}
use Rattle.hp_complete.proofs.draft.Draft.add_outputs.Given as goal

abbrev pub invariant-loop-decl : goal.invariant-loop-decl
invariant-loop-decl l =
    let p = place_of l.initial.self in
    record {
      sketch : with_outputs p.known (drop l.decl-index l.decls) (sketch_of l.self) ≡ with_outputs p.known l.decls (sketch_of l.initial.self);
      outputs : l.outputs.items ++ numbers_from (next (sketch_of l.self)) (drop l.decl-index l.decls) ≡ numbers_from (next (sketch_of l.initial.self)) l.decls;
      place : place_of l.self ≡ p;
    }
