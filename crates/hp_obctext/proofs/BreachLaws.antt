-- Words that are passed one behind the other.
use Rattle.std.proofs.Common.{◌≡◌, Bool, List, [], ◌∷◌, ◌++◌, refl}
use Rattle.std.proofs.lemmas.Grind.{fold-append}
use Rattle.hp_obctext.specs.declared.found.Found.{Found}
use Rattle.hp_obctext.specs.Breaches.{passes, passed_one, after}

pub after_none : (f : Found) → after f [] ≡ f
unfolding after
after_none f = refl

pub after_next : (f : Found) (v : Bool) (vs : List Bool) → after f (v ∷ vs) ≡ after (passed_one f v) vs
unfolding after passed_one
after_next f v vs = refl

pub after_more : (f : Found) (vs us : List Bool) → after f (vs ++ us) ≡ after (after f vs) us
unfolding after
after_more f vs us = fold-append passes f vs us

pub ruleset passing = (after_none, after_next, after_more)
