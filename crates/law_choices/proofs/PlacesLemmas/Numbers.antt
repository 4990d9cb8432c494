-- What a walk finds beside the numbers of events.
use Rattle.std.proofs.Common.{◌≡◌, ℕ, suc, List, [], ◌∷◌, ◌++◌, length, refl, sym, ap, subst, ◌∙◌, Some, arith}
use Rattle.std.specs.Prelude.{◌+◌, ◌-◌, Bool, true, false, if◌then◌else◌, slice_get, drop}
use Rattle.std.proofs.lemmas.List.{append_assoc, length-append, length-drop}
use Rattle.hp_tree.specs.Programs.{Node}
use Rattle.hp_tree.specs.declared.expr.Op2.TheVariants.{Eq}
use Rattle.hp_flat.specs.Equations.{FlatEqn}
use Rattle.hp_automata.specs.Lowering.{Enumerations, lowered_node}
use Rattle.law_automata.specs.Lowered.Standing.{Along}
use Rattle.law_equations.specs.Made.Making.{Known}
use Rattle.hp_watch.specs.Walk.{is_event, events_from, in_block, walk_block}
use Rattle.law_choices.specs.Places.Spots.{Spot, compared, spots_of_node}
use Rattle.law_choices.specs.Places.Found.{found_in_node}
use Rattle.law_choices.specs.Places.Laws.{events, IsEventOf, IsNumberOf, KnowsOutputs, AreMadeOf, FoundLaw, CountLaw}
use Rattle.law_choices.proofs.PlacesLemmas.Expressions.{made}
use Rattle.law_choices.proofs.PlacesLemmas.Walks.{node-takes, walk-finds}
use Rattle.law_choices.proofs.PlacesLemmas.Events.{events-are}
use Rattle.law_choices.proofs.PlacesLemmas.Relating.{along-length, block-goes}
use Rattle.law_choices.proofs.PlacesLemmas.Counting.{block-leaves}

get-behind : (front : List FlatEqn) (e : FlatEqn) (es : List FlatEqn) → slice_get (front ++ e ∷ es) (length front) ≡ Some e
get-behind [] e es = refl
get-behind (f ∷ front) e es = get-behind front e es

-- What is so of the events of some equations is so of the equations of their numbers.
module _ {A : Type 0} (R : FlatEqn → A → Type 0) where
  abbrev pub AtNumber : List FlatEqn → ℕ → A → Type 0
  AtNumber es i x = (e : FlatEqn) × (slice_get es i ≡ Some e) × R e x

  pub numbered : (front es : List FlatEqn) (xs : List A) → Along R (events es) xs → Along (AtNumber (front ++ es)) (events_from (length front) es) xs
  numbered front [] xs h = nothing xs h
    where
      nothing : (xs : List A) → Along R [] xs → Along (AtNumber (front ++ [])) [] xs
      nothing [] h = tt
      nothing (x ∷ xs) h = absurd h
  numbered front (e ∷ es) xs h = by (is_event e.right) xs h (λ xs h. later xs (numbered (front ++ e ∷ []) es xs h))
    where
      later : (xs : List A) → Along (AtNumber ((front ++ e ∷ []) ++ es)) (events_from (length (front ++ e ∷ [])) es) xs → Along (AtNumber (front ++ e ∷ es)) (events_from (suc (length front)) es) xs
      later xs h =
          let one_more : length (front ++ e ∷ []) ≡ suc (length front) = length-append front (e ∷ []) ∙ (omega arith) in
          subst (λ all. Along (AtNumber all) (events_from (suc (length front)) es) xs) (append_assoc front (e ∷ []) es)
          (subst (λ i. Along (AtNumber ((front ++ e ∷ []) ++ es)) (events_from i es) xs) one_more h)

      by : (b : Bool) (xs : List A) → Along R (if b then e ∷ events es else events es) xs → ((xs : List A) → Along R (events es) xs → Along (AtNumber (front ++ e ∷ es)) (events_from (suc (length front)) es) xs)
          → Along (AtNumber (front ++ e ∷ es)) (if b then length front ∷ events_from (suc (length front)) es else events_from (suc (length front)) es) xs
      by true [] h rest = absurd h
      by true (x ∷ xs) h rest = ((e, get-behind front e es, h.0), rest xs h.1)
      by false xs h rest = rest xs h

module _ (outputs : List ℕ → List (List ℕ)) (k : Known) (enums : Enumerations) (n : Node) (es : List FlatEqn) (knows : KnowsOutputs outputs k) (are : AreMadeOf k (lowered_node enums n) es) where
  abbrev ss : List Spot
  ss = spots_of_node outputs (lowered_node enums n)

  numbers : Along (IsNumberOf es) (events_from 0 es) ss
  numbers = numbered IsEventOf [] es ss (events-are outputs k (lowered_node enums n) es knows are)

  nothing_left : (xs : List ℕ) (ys : List Spot) → ys ≡ [] → Along (IsNumberOf es) xs ys → xs ≡ []
  nothing_left [] ys e h = refl
  nothing_left (x ∷ xs) [] e h = absurd h
  nothing_left (x ∷ xs) (y ∷ ys) e h = absurd cc

  found : Along (IsNumberOf es) (walk_block n.body (events_from 0 es)).0 (made (found_in_node outputs n)) × ((walk_block n.body (events_from 0 es)).1 ≡ [])
  found =
      let g = block-goes (IsNumberOf es) n.body (events_from 0 es) ss numbers in
      let w = walk-finds outputs enums n in (
        subst (λ ps. Along (IsNumberOf es) (walk_block n.body (events_from 0 es)).0 ps) (ap (λ (x : List Spot × List Spot). x.0) w) g.0,
        nothing_left (walk_block n.body (events_from 0 es)).1 (walk_block n.body ss).1 (ap (λ (x : List Spot × List Spot). x.1) w) g.1,
      )

  counted : length (events_from 0 es) ≡ in_block n.body
  counted =
      let s = compared Eq [] in
      let left : drop (in_block n.body) (ss ++ s ∷ []) ≡ s ∷ [] = sym (block-leaves n.body (ss ++ s ∷ [])) ∙ ap (λ (x : List Spot × List Spot). x.1) (node-takes outputs enums n (s ∷ [])) in
      let long : length ss + 1 - in_block n.body ≡ 1 =
      ap (λ m. m - in_block n.body) (sym (length-append ss (s ∷ []))) ∙ sym (length-drop (in_block n.body) (ss ++ s ∷ [])) ∙ ap length left in
      along-length (IsNumberOf es) (events_from 0 es) ss numbers ∙ (omega (arith, long))

pub found-law : FoundLaw
found-law outputs k enums n es knows are = found outputs k enums n es knows are

pub count-law : CountLaw
count-law outputs k enums n es knows are = counted outputs k enums n es knows are
