use Rattle.law_choices.proofs.AddingLemmas.Watched.{watched_law}
use Rattle.law_choices.proofs.adding.free_places_may_be_watched.Goals as goal

pub returns : goal.returns
returns c = watched_law
