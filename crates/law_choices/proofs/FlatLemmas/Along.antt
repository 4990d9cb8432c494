-- What holds along flat instants.
use Rattle.std.proofs.Common.{List, [], ◌∷◌}
use Rattle.std.specs.Prelude.{Option, None, Some}
use Rattle.hp_base.specs.Kinds.{KindData}
use Rattle.hp_obc.specs.Steps.{Names as TakenBy}
use Rattle.hp_tree.specs.Instant.{Place}
use Rattle.law_equations.specs.Flattened.Flat.{Flat, Row, Now, Behaviours, FlatMeets, FlatReaction}
use Rattle.law_equations.specs.Flattened.Flatten.{FlatName, At, When, Prefix}
use Rattle.law_equations.specs.Flattened.Timely.{Along, Timely}
use Rattle.law_equations.specs.Flattened.Numbered.{AreTold}
use Rattle.law_equations.proofs.FlattenedLemmas.NodeLaws.{stands_tail}
use Rattle.law_wellmade.proofs.TimelyLemmas.Rows.{OptFits}

pub meets_along : {X : Type 0} (does : Behaviours) (flat : Flat FlatName) (Gives : X → Now FlatName → Type 0) (inputs : List X) (L : List (Now FlatName)) → FlatReaction does flat Gives inputs L → Along (λ G i. FlatMeets does flat G i) L
meets_along does flat Gives [] [] h = tt
meets_along does flat Gives [] (i ∷ G) h = absurd h
meets_along does flat Gives (x ∷ inputs) [] h = absurd h
meets_along does flat Gives (x ∷ inputs) (i ∷ G) h = (h.2, meets_along does flat Gives inputs G h.0)

pub timely_along : (clocks : Place → Option When) (here : Prefix) (L : List (Now FlatName)) → Timely clocks here L → Along (λ G i. Timely clocks here (i ∷ G)) L
timely_along clocks here [] h = tt
timely_along clocks here (i ∷ G) h = (h, timely_along clocks here G (λ p. stands_tail (clocks p) (At (here p)) i G (h p)))

pub with_all : (P Q R T : List (Now FlatName) → Now FlatName → Type 0) → ((G : List (Now FlatName)) (i : Now FlatName) → P G i → Q G i → R G i → T G i) → (L : List (Now FlatName)) → Along P L → Along Q L → Along R L → Along T L
with_all P Q R T f [] p q r = tt
with_all P Q R T f (i ∷ G) p q r = (f G i p.0 q.0 r.0, with_all P Q R T f G p.1 q.1 r.1)

pub along_so : (P Q : List (Now FlatName) → Now FlatName → Type 0) → ((G : List (Now FlatName)) (i : Now FlatName) → P G i → Q G i) → (L : List (Now FlatName)) → Along P L → Along Q L
along_so P Q f [] p = tt
along_so P Q f (i ∷ G) p = (f G i p.0, along_so P Q f G p.1)

pub told_of : (takes : TakenBy (List KindData)) (i : Now FlatName) (o : Option (List (Row FlatName))) (a : FlatName) → OptFits takes i o a → AreTold o i
told_of takes i None a h = tt
told_of takes i (Some rows) a h = (h.told, h.apart)
