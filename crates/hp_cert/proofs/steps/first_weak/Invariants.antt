use Rattle.std.proofs.Common.{ℕ, ◌<◌, List, map}
use Rattle.hp_boolx.specs.Game.{Game, IsForm}
use Rattle.hp_boolx.specs.Search.{Set}
use Rattle.hp_boolx.specs.Solved.{rank}
use Rattle.hp_diagram.specs.Diagrams.{Has, Means, Keeps}
use Rattle.hp_synth.specs.Kept.{AllMean}
use Rattle.hp_synth.specs.Rounds.{IsCounts}
use Rattle.hp_synth.specs.Sought.{base_at}
use Rattle.hp_synth.specs.Layouts.{place}
use Rattle.hp_synth.specs.Valued.{over, OfState}
use Rattle.hp_cert.specs.Steps.{IsStrong}
use Rattle.hp_cert.proofs.steps.first_weak.Given as goal

abbrev pub invariant-loop-k : goal.invariant-loop-k
invariant-loop-k l = record {
  keeps : Keeps l.initial.t l.t;
  lower : Has l.t l.lower;
  strong : (g : Game) (Xs : List Set) → IsForm g → IsCounts g l.layout.counts → AllMean l.initial.t (base_at (place l.layout) g) l.roots → AllMean l.initial.t (map (λ X. over (place l.layout) (OfState g X)) Xs) l.ranks →
      Means l.t (over (place l.layout) (OfState g (rank Xs l.k))) l.lower × ((j : ℕ) → j < l.k → IsStrong g Xs j);
}
