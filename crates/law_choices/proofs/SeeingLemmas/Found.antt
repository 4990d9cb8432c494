-- What a walk finds has its values in the filled form too, where it is not Nil.
use Rattle.std.proofs.Common.{◌≡◌, ℕ, List, [], ◌∷◌, refl, subst}
use Rattle.std.specs.Prelude.{reverse, Some}
use Rattle.hp_base.specs.declared.value.Value.{Value}
use Rattle.hp_base.specs.declared.value.Value.TheVariants.{Absent, Nil, B, E, I, Star}
use Rattle.hp_tree.specs.declared.program.Item.{Item}
use Rattle.hp_tree.specs.Programs.{Node}
use Rattle.hp_tree.specs.Operators.{real}
use Rattle.hp_tree.specs.Instant.{Place, Instant, Past, Given}
use Rattle.hp_tree.specs.Meaning.{node_among}
use Rattle.hp_tree.specs.Reaction.{Each, Meets, Reaction}
use Rattle.law_automata.specs.Lowered.Standing.{Along, Stands}
use Rattle.law_values.specs.Filled.Under.{Under, PastsUnder}
use Rattle.law_choices.specs.Places.Found.{Both, found_in_node}
use Rattle.law_choices.specs.Places.Laws.{places_of}
use Rattle.law_choices.specs.Places.Spots.{Spot}
use Rattle.law_choices.specs.Places.Values.{SameWhereThere}
use Rattle.law_choices.specs.Seeing.Found.{KnownAlike, FoundAlike, FilledFoundLaw}
use Rattle.law_choices.proofs.PlacesLemmas.Values.{values-are}
use Rattle.law_choices.proofs.RunsLemmas.Chosen.{of_program}

-- ---- one place

not-nil : (v w : Value) → Under v w → (v ≡ Nil → ⊥) → w ≡ v
not-nil Nil w u known = absurd (known refl)
not-nil Absent w u known = u
not-nil (B b) w u known = u
not-nil (E t k) w u known = u
not-nil (I n) w u known = u
not-nil Star w u known = u

module _ (now low filled : Instant) (under : (p : Place) → Under (low p) (filled p)) where
  one-known : (p q : Place) → SameWhereThere now low p q → KnownAlike now filled p q
  one-known p q same there known = let e = same there in not-nil (now p) (filled q) (subst (λ v. Under v (filled q)) e (under q)) known

  all-known : (ps qs : List Place) → Along (SameWhereThere now low) ps qs → Along (KnownAlike now filled) ps qs
  all-known [] [] a = tt
  all-known [] (q ∷ qs) a = absurd a
  all-known (p ∷ ps) [] a = absurd a
  all-known (p ∷ ps) (q ∷ qs) a = (one-known p q a.0, all-known ps qs a.1)

  each-known : (ss : Both) → Each (λ (s : Spot × Spot). Along (SameWhereThere now low) (places_of s.0) (places_of s.1)) ss → Each (λ (s : Spot × Spot). Along (KnownAlike now filled) (places_of s.0) (places_of s.1)) ss
  each-known [] a = tt
  each-known (s ∷ ss) a = (all-known (places_of s.0) (places_of s.1) a.0, each-known ss a.1)

-- ---- all instants

module _ (outputs : List ℕ → List (List ℕ)) (program : List Item) (f : List ℕ) (n : Node) (is_node : node_among (reverse program) f ≡ Some n) where
  found-alike : (inputs : List Value) (g : Given) (now low filled : Instant) → Meets real program f inputs g now → Stands program f now low → ((p : Place) → Under (low p) (filled p)) → FoundAlike outputs n now filled
  found-alike inputs g now low filled met stands under = each-known now low filled under (found_in_node outputs n) (values-are outputs program f n inputs g now low is_node met stands)

  along-alike : (inputs : List (List Value)) (frees : List Instant) (past low filled : Past) → Reaction program f inputs frees past → Along (Stands program f) past low → PastsUnder low filled → Along (FoundAlike outputs n) past filled
  along-alike inputs frees [] [] [] r a u = tt
  along-alike inputs frees [] [] (k ∷ filled) r a u = absurd u
  along-alike inputs frees [] (j ∷ low) filled r a u = absurd a
  along-alike inputs frees (i ∷ past) [] filled r a u = absurd a
  along-alike inputs frees (i ∷ past) (j ∷ low) [] r a u = absurd u
  along-alike [] [] (i ∷ past) (j ∷ low) (k ∷ filled) r a u = absurd r
  along-alike [] (free ∷ frees) (i ∷ past) (j ∷ low) (k ∷ filled) r a u = absurd r
  along-alike (row ∷ inputs) [] (i ∷ past) (j ∷ low) (k ∷ filled) r a u = absurd r
  along-alike (row ∷ inputs) (free ∷ frees) (i ∷ past) (j ∷ low) (k ∷ filled) r a u =
      (found-alike row (record { past = past; free = free }) i j k r.1 a.0 u.0, along-alike inputs frees past low filled r.0 a.1 u.1)

pub filled_found_law : FilledFoundLaw
filled_found_law outputs choices program f n inputs frees is_node it =
    let before = it.one.before in
    along-alike outputs program f n is_node inputs before.past before.past it.one.behind.past it.filled.past (of_program choices program f inputs before.past before.is_one) it.one.stands it.under
