use Rattle.std.proofs.Common.{subst, eqb}
use Rattle.std.specs.List.Sorted.{IsPermutation}
use Rattle.std.proofs.lemmas.List.Filters.{dedup_is}
use Rattle.hp_cause.specs.Told.{names_seen}
use Rattle.hp_cause.proofs.AroundLaws.{distinct-seen, sorted-places}
use Rattle.hp_cause.proofs.around.places_in.Goals as goal

pub returns : goal.returns
returns c =
    sorted-places (names_seen c.args.set.now.keys) (names_seen c.args.names.now) c.sort_unstable.new.self.items c.dedup.new.self.items
    (distinct-seen c.args.set.now.keys c.len-count.ensures.unique)
    (subst (λ ps. IsPermutation ps c.sort_unstable.new.self.items) c.in_ok-places.ensures c.sort_unstable.ensures.permutation)
    c.sort_unstable.ensures.sorted
    (dedup_is eqb c.sort_unstable.new.self.items c.dedup.new.self.items c.dedup.ensures.filtered)
