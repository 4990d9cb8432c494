-- The variables of what a walk finds, and the places of the program that they stand for.
use Rattle.std.proofs.Common.{◌≡◌, ℕ, List, [], ◌∷◌, map, sym, subst, ◌∙◌}
use Rattle.std.proofs.Math.Path.{fun_ext}
use Rattle.std.specs.List.{AllByRecursion}
use Rattle.hp_base.specs.Kinds.{AreOfKinds}
use Rattle.hp_base.specs.declared.value.Value.{Value}
use Rattle.hp_tree.specs.Blocks.{Decl}
use Rattle.hp_tree.specs.Programs.{Node, TypeDecl}
use Rattle.hp_tree.specs.Instant.{Instant, Past, Place}
use Rattle.hp_tree.specs.Values.{AreOf}
use Rattle.hp_meaning.specs.Causal.OneReaction.{SamePasts}
use Rattle.law_wellmade.proofs.TimelyLemmas.KindLaws.{are_of}
use Rattle.law_wellmade.specs.Timely.Tested.{ConstructorsDiffer}
use Rattle.law_choices.specs.Places.Laws.{places_of}
use Rattle.hp_tree.specs.Reaction.{Each}
use Rattle.law_automata.specs.Lowered.Standing.{Along}
use Rattle.law_equations.specs.Flattened.Flatten.{At, FlatName, ats}
use Rattle.hp_flat.specs.Equations.{FlatEqn}
use Rattle.law_choices.specs.Places.Found.{Both}
use Rattle.law_choices.specs.Places.Spots.{Spot}
use Rattle.law_choices.specs.Places.Standing.{StandsAtNumber}
use Rattle.law_choices.specs.Seeing.Found.{FoundAlike, KnownAlike}
use Rattle.law_choices.proofs.SeeingLemmas.HeldInBody.{IsTold}
use Rattle.law_choices.proofs.SeeingLemmas.Rowed.{TargetsAre}
use Rattle.law_equations.specs.Meaning.Instants as flows
use Rattle.law_wellmade.specs.Timely.Kinds as timely

pub rows-of : (types : List TypeDecl) (ds : List Decl) (rows : List (List Value)) → ConstructorsDiffer types → AllByRecursion (AreOfKinds (timely.kinds_of_decls types ds)) rows → AllByRecursion (AreOf types ds) rows
rows-of types ds [] apart h = tt
rows-of types ds (row ∷ rows) apart h = (are_of types ds row apart h.0, rows-of types ds rows apart h.1)

-- ---- the variables of what a walk finds have the values of its places

module _ (means : ℕ → FlatName) (now low : Instant) (j : flows.Instant) (values : (v : ℕ) (q : Place) → means v ≡ At q → j v ≡ low q) where
  places-told : (xs : List ℕ) (ps qs : List Place) → map means xs ≡ ats qs → Along (KnownAlike now low) ps qs → Along (IsTold j now) xs ps
  places-told [] [] [] e h = tt
  places-told [] [] (q ∷ qs) e h = absurd h
  places-told [] (p ∷ ps) [] e h = absurd h
  places-told [] (p ∷ ps) (q ∷ qs) e h = absurd cc
  places-told (x ∷ xs) ps [] e h = absurd cc
  places-told (x ∷ xs) [] (q ∷ qs) e h = absurd h
  places-told (x ∷ xs) (p ∷ ps) (q ∷ qs) e h =
      let first : means x ≡ At q = cc in
      let others : map means xs ≡ ats qs = cc in
      (λ there some. values x q first ∙ h.0 there some, places-told xs ps qs others h.1)

  pub targets-told : (es : List FlatEqn) (order : List ℕ) (fs : Both) → Along (StandsAtNumber means es) order (map (λ (s : Spot × Spot). s.1) fs) → Each (λ (s : Spot × Spot). Along (KnownAlike now low) (places_of s.0) (places_of s.1)) fs → Along (TargetsAre (IsTold j now) es) order fs
  targets-told es [] [] a h = tt
  targets-told es [] (s ∷ fs) a h = absurd a
  targets-told es (m ∷ order) [] a h = absurd a
  targets-told es (m ∷ order) (s ∷ fs) a h = ((a.0.0, a.0.1, places-told (a.0.0).targets (places_of s.0) (places_of s.1) a.0.2.1 h.0), targets-told es order fs a.1 h.1)

-- ---- the same instants

-- what is found beside instants is found beside the same instants
pub found-same : (outputs : List ℕ → List (List ℕ)) (n : Node) (past other low : Past) → SamePasts past other → Along (FoundAlike outputs n) other low → Along (FoundAlike outputs n) past low
found-same outputs n [] [] low same h = h
found-same outputs n [] (j ∷ other) low same h = absurd same
found-same outputs n (i ∷ past) [] low same h = absurd same
found-same outputs n (i ∷ past) (j ∷ other) [] same h = absurd h
found-same outputs n (i ∷ past) (j ∷ other) (l ∷ low) same h =
    let one : i ≡ j = fun_ext (λ p. same.0 p) in
    (subst (λ (z : Instant). FoundAlike outputs n z l) (sym one) h.0, found-same outputs n past other low same.1 h.1)
