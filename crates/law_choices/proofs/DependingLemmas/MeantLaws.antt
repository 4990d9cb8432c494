-- The targets of comparisons and calls stand for the places of these, in the order of making, where labels of the body say so.
use Rattle.std.proofs.Common.{◌≡◌, ℕ, List, [], ◌∷◌, map, ap, subst, ◌∙◌}
use Rattle.std.proofs.lemmas.List.{append-nil}
use Rattle.hp_tree.specs.Instant.{Place}
use Rattle.hp_flat.specs.Equations.{FlatEqn}
use Rattle.law_automata.specs.Lowered.Standing.{Along}
use Rattle.law_equations.specs.Flattened.Flatten.{At, FlatName, ats}
use Rattle.law_equations.specs.Flattened.Lifted.{in_body}
use Rattle.law_equations.specs.Made.Labels.{AreMadeAt, Label, block_labels}
use Rattle.law_equations.specs.Made.Labels as made
use Rattle.law_choices.specs.Depending.Found.{LabelsMeanLaw, TargetsMean}
use Rattle.law_choices.specs.Places.Laws.{events, places_of}
use Rattle.law_choices.specs.Places.Spots.{Spot, spots_of_node}
use Rattle.law_choices.proofs.PlacesLemmas.Standing.{block-labels, events-alike, of_labels, of_spots}

module _ (means : ℕ → FlatName) where
  one-by-one : (xs : List ℕ) (ps : List Place) → map means xs ≡ ats ps → Along (λ (x : ℕ) (p : Place). means x ≡ At p) xs ps
  one-by-one [] [] e = tt
  one-by-one [] (p ∷ ps) e = absurd cc
  one-by-one (x ∷ xs) [] e = absurd cc
  one-by-one (x ∷ xs) (p ∷ ps) e =
      let first : means x ≡ At p = cc in
      let others : map means xs ≡ ats ps = cc in
      (first, one-by-one xs ps others)

  labels-mean : (es : List FlatEqn) (ls : List Label) (ss : List Spot) → AreMadeAt means es ls → of_labels ls ≡ of_spots ss → Along (TargetsMean means) es ss
  labels-mean [] [] [] h e = tt
  labels-mean [] [] (s ∷ ss) h e = absurd cc
  labels-mean [] (l ∷ ls) ss h e = absurd h
  labels-mean (q ∷ es) [] ss h e = absurd h
  labels-mean (q ∷ es) (l ∷ ls) [] h e = absurd cc
  labels-mean (q ∷ es) (l ∷ ls) (s ∷ ss) h e =
      let first : made.places_of l ≡ places_of s = cc in
      let others : of_labels ls ≡ of_spots ss = cc in
      (one-by-one q.targets (places_of s) ((h.0).targets ∙ ap ats first), labels-mean es ls ss h.1 others)

pub labels_mean_law : LabelsMeanLaw
labels_mean_law outputs n es means labelled =
    let ls = block_labels outputs n.body in_body [] in
    let ss = spots_of_node outputs n in
    let places : of_labels ls ≡ of_spots ss = block-labels outputs n.body in_body [] ∙ append-nil (of_spots ss) in
    labels-mean means (events es) ls ss (subst (λ fs. AreMadeAt means fs ls) (events-alike es) labelled) places
