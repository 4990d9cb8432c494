use Rattle.std.proofs.Common.{◌≡◌, drop}
use Rattle.hp_complete.specs.Drafting.{hidden_at}
use Rattle.hp_complete.specs.Drafts.{place_of, sketch_of}
use Rattle.hp_complete.specs.Names.{names_seen}
use Rattle.hp_complete.proofs.draft.Draft.hide_all.Given as goal

abbrev pub invariant-loop-i : goal.invariant-loop-i
invariant-loop-i l =
    record {
      sketch : sketch_of l.self ≡ sketch_of l.initial.self;
      place : hidden_at (names_seen (drop l.i l.names)) (place_of l.self) ≡ hidden_at (names_seen l.names) (place_of l.initial.self);
    }
