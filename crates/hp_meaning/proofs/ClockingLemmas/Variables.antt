-- The places that have a variable, in the order of the text: no place stands twice.
use Rattle.std.proofs.Common.{◌≡◌, ℕ, List, [], ◌∷◌, ◌++◌, map, sym, ap, ◌∙◌}
use Rattle.std.proofs.lemmas.Slice.Eq.{bytes_eq-Decides}
use Rattle.std.specs.Prelude.{⊤}
use Rattle.hp_tree.specs.Blocks.{Decl, Block, block, Eqns, no_eqn, more_eqns, Eqn, define, switch, reset, automaton, Arms, no_arm, more_arms, States, no_state, more_states}
use Rattle.hp_tree.specs.Instant.{Step, Place, Body, Named, Equations, Head, Tail, Right, Arms as ArmsOf, States as StatesOf}
use Rattle.hp_meaning.specs.Clocking.Clocking.{AreOnce, NamesRight, EachBlock, EachOfAll, EachOfOne, EachOfArms, EachOfStates}
use Rattle.hp_meaning.proofs.ClockingLemmas.Unify.{firsts, rests}
use Rattle.hp_meaning.proofs.ClockingLemmas.Passed.{Apart, apart}

abbrev pub inside : Step → List Place → List Place
inside s ps = map (λ p. s ∷ p) ps

abbrev pub names_in : List Decl → List Place
names_in ds = map (λ d. Named d.name ∷ []) ds

abbrev mutual
  pub variables : Block → List Place
  variables (block ds es) = names_in ds ++ inside Equations (variables_of_all es)

  pub variables_of_all : Eqns → List Place
  variables_of_all no_eqn = []
  variables_of_all (more_eqns e es) = inside Head (variables_of_one e) ++ inside Tail (variables_of_all es)

  pub variables_of_one : Eqn → List Place
  variables_of_one (define s ys e) = (Right ∷ []) ∷ []
  variables_of_one (switch s e arms) = inside ArmsOf (variables_of_arms arms)
  variables_of_one (reset s b e) = inside Body (variables b)
  variables_of_one (automaton s ss) = inside StatesOf (variables_of_states ss)

  pub variables_of_arms : Arms → List Place
  variables_of_arms no_arm = []
  variables_of_arms (more_arms c b s arms) = inside Head (variables b) ++ inside Tail (variables_of_arms arms)

  pub variables_of_states : States → List Place
  variables_of_states no_state = []
  variables_of_states (more_states f b until unless s ss) = inside Head (inside Body (variables b)) ++ inside Tail (variables_of_states ss)

abbrev pub Avoids : Place → List Place → Type 0
Avoids p [] = ⊤
Avoids p (q ∷ qs) = (p ≡ q → ⊥) × Avoids p qs

abbrev pub Distinct : List Place → Type 0
Distinct [] = ⊤
Distinct (p ∷ ps) = Avoids p ps × Distinct ps

avoids_inside : (s : Step) (p : Place) (qs : List Place) → Avoids p qs → Avoids (s ∷ p) (inside s qs)
avoids_inside s p [] h = tt
avoids_inside s p (q ∷ qs) h = ((λ e. h.0 (rests s s p q e)), avoids_inside s p qs h.1)

distinct_inside : (s : Step) (ps : List Place) → Distinct ps → Distinct (inside s ps)
distinct_inside s [] h = tt
distinct_inside s (p ∷ ps) h = (avoids_inside s p ps h.0, distinct_inside s ps h.1)

avoids_other : (s t : Step) → (s ≡ t → ⊥) → (p : Place) (qs : List Place) → Avoids (s ∷ p) (inside t qs)
avoids_other s t h p [] = tt
avoids_other s t h p (q ∷ qs) = ((λ e. h (firsts s t p q e)), avoids_other s t h p qs)

avoids_both : (p : Place) (qs rs : List Place) → Avoids p qs → Avoids p rs → Avoids p (qs ++ rs)
avoids_both p [] rs h k = k
avoids_both p (q ∷ qs) rs h k = (h.0, avoids_both p qs rs h.1 k)

two_apart : (s t : Step) → (s ≡ t → ⊥) → (ps qs : List Place) → Distinct (inside s ps) → Distinct (inside t qs) → Distinct (inside s ps ++ inside t qs)
two_apart s t h [] qs f g = g
two_apart s t h (p ∷ ps) qs f g =
    (avoids_both (s ∷ p) (inside s ps) (inside t qs) f.0 (avoids_other s t h p qs), two_apart s t h ps qs f.1 g)

name_avoids : (x : List ℕ) (ds : List Decl) → Apart x ds → Avoids (Named x ∷ []) (names_in ds)
name_avoids x [] h = tt
name_avoids x (d ∷ ds) h =
    ((λ e. absurd (cc (sym h.0 ∙ (bytes_eq-Decides x d.name).1 (ap name_of (firsts (Named x) (Named d.name) [] [] e))))), name_avoids x ds h.1)
  where
    name_of : Step → List ℕ
    name_of (Named y) = y
    name_of s = []

head_tail : Head ≡ Tail → ⊥
head_tail e = cc

name_equations : (x : List ℕ) → Named x ≡ Equations → ⊥
name_equations x e = cc

names_distinct : (ds : List Decl) (qs : List Place) → AreOnce ds → Distinct (inside Equations qs) → Distinct (names_in ds ++ inside Equations qs)
names_distinct [] qs o g = g
names_distinct (d ∷ ds) qs o g = (
  avoids_both (Named d.name ∷ []) (names_in ds) (inside Equations qs) (name_avoids d.name ds (apart d.name ds o.0)) (avoids_other (Named d.name) Equations (name_equations d.name) [] qs),
  names_distinct ds qs o.1 g,
)

mutual
  pub distinct : (b : Block) → EachBlock NamesRight b → Distinct (variables b)
  distinct (block ds es) g = names_distinct ds (variables_of_all es) g.0.0 (distinct_inside Equations (variables_of_all es) (distinct_all es g.1))

  distinct_all : (es : Eqns) → EachOfAll NamesRight es → Distinct (variables_of_all es)
  distinct_all no_eqn g = tt
  distinct_all (more_eqns e es) g =
      two_apart Head Tail head_tail (variables_of_one e) (variables_of_all es) (distinct_inside Head (variables_of_one e) (distinct_one e g.0))
      (distinct_inside Tail (variables_of_all es) (distinct_all es g.1))

  distinct_one : (e : Eqn) → EachOfOne NamesRight e → Distinct (variables_of_one e)
  distinct_one (define s ys e) g = (tt, tt)
  distinct_one (switch s e arms) g = distinct_inside ArmsOf (variables_of_arms arms) (distinct_arms arms g)
  distinct_one (reset s b e) g = distinct_inside Body (variables b) (distinct b g)
  distinct_one (automaton s ss) g = distinct_inside StatesOf (variables_of_states ss) (distinct_states ss g)

  distinct_arms : (arms : Arms) → EachOfArms NamesRight arms → Distinct (variables_of_arms arms)
  distinct_arms no_arm g = tt
  distinct_arms (more_arms c b s arms) g =
      two_apart Head Tail head_tail (variables b) (variables_of_arms arms) (distinct_inside Head (variables b) (distinct b g.0))
      (distinct_inside Tail (variables_of_arms arms) (distinct_arms arms g.1))

  distinct_states : (ss : States) → EachOfStates NamesRight ss → Distinct (variables_of_states ss)
  distinct_states no_state g = tt
  distinct_states (more_states f b until unless s ss) g =
      two_apart Head Tail head_tail (inside Body (variables b)) (variables_of_states ss)
      (distinct_inside Head (inside Body (variables b)) (distinct_inside Body (variables b) (distinct b g.0)))
      (distinct_inside Tail (variables_of_states ss) (distinct_states ss g.1))
