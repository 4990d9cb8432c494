use Rattle.std.proofs.Common.{◌≡◌, drop}
use Rattle.hp_complete.specs.Drafting.{owned_at, standing_of}
use Rattle.hp_complete.specs.Drafts.{place_of, sketch_of}
use Rattle.hp_complete.specs.Names.{names_seen}
use Rattle.hp_complete.specs.Places.{saying}
use Rattle.hp_complete.proofs.draft.Draft.own_names.Given as goal

abbrev pub invariant-loop-i : goal.invariant-loop-i
invariant-loop-i l =
    let ds = l.locals.decls.now in
    let standing = standing_of l.standing in
    record {
      sketch : (owned_at standing ds (names_seen (drop l.i l.names)) (place_of l.self) (sketch_of l.self)).1 ≡ (owned_at standing ds (names_seen l.names) (place_of l.initial.self) (sketch_of l.initial.self)).1;
      place : saying (owned_at standing ds (names_seen (drop l.i l.names)) (place_of l.self) (sketch_of l.self)).0 (place_of l.self)
          ≡ saying (owned_at standing ds (names_seen l.names) (place_of l.initial.self) (sketch_of l.initial.self)).0 (place_of l.initial.self);
    }
