-- The observers of a program have names that differ, and each is what is shown of a node and its contract.
use Rattle.std.proofs.Common.{◌≡◌, ℕ, Bool, true, false, ◌||◌, List, [], ◌∷◌, ◌++◌, map, reverse, Option, None, Some, refl, sym, ◌∙◌}
use Rattle.std.specs.Prelude.{IsTrue, IsFalse}
use Rattle.std.specs.Str.{bytes_eq}
use Rattle.hp_tree.specs.declared.program.Item.{Item}
use Rattle.hp_tree.specs.declared.program.Item.TheVariants.{TypeItem, NodeItem}
use Rattle.hp_tree.specs.Programs.{Contract, Node}
use Rattle.law_judged.specs.Named.Scoped.{EachNode}
use Rattle.hp_automata.specs.Lowering.{Enumerations, enumerations, lowered_node, lowered_item, lowered_program}
use Rattle.law_automata.specs.Lowered.Removable.{NodeOk, IsRemovable}
use Rattle.law_automata.proofs.LowerableLemmas.Texts.{onto}
use Rattle.law_equations.specs.Answered.Answering.{has_node, AreApart}
use Rattle.hp_watch.specs.Observing.{observer_of, observer_if, observers}

-- ---- what is so of each observer

module _ (P Q : Node → Type 0) (each : (n : Node) (c : Contract) → n.contract ≡ Some c → P n → Q (observer_of n c)) where
  pub each_observer : (items : List Item) → EachNode P items → EachNode Q (observers items)
  each_observer [] h = tt
  each_observer (TypeItem t ∷ items) h = each_observer items h
  each_observer (NodeItem n ∷ items) h = by n.contract refl (each_observer items h.1)
    where
      by : (o : Option Contract) → n.contract ≡ o → EachNode Q (observers items) → EachNode Q (observer_if n o ++ observers items)
      by None e rest = rest
      by (Some c) e rest = (each n c e h.0, rest)

pub removable : (items : List Item) → EachNode NodeOk items → IsRemovable items
removable [] h = tt
removable (TypeItem t ∷ items) h = removable items h
removable (NodeItem n ∷ items) h = (h.0, removable items h.1)

-- ---- names

apart_behind : (xs ys : List Item) → AreApart (onto xs ys) → AreApart ys
apart_behind [] ys h = h
apart_behind (TypeItem t ∷ xs) ys h = apart_behind xs (TypeItem t ∷ ys) h
apart_behind (NodeItem n ∷ xs) ys h = (apart_behind xs (NodeItem n ∷ ys) h).1

or_either : (a b c : Bool) → (IsTrue b → IsTrue c) → IsTrue (a || b) → IsTrue (a || c)
or_either true b c f h = refl
or_either false b c f h = f h

or_behind : (a b : Bool) → IsTrue b → IsTrue (a || b)
or_behind true b h = refl
or_behind false b h = h

not_there : (a b : Bool) → (IsTrue a → IsTrue b) → IsFalse b → IsFalse a
not_there true b f h = let k : IsTrue b = f refl in absurd (let r : true ≡ false = sym k ∙ h in cc)
not_there false b f h = refl

module _ (enums others : Enumerations) where
  abbrev Behind : List Item → List Item → Type 0
  Behind xs ys = (done there : List Item) → ((f : List ℕ) → IsTrue (has_node there f) → IsTrue (has_node done f)) → AreApart there → AreApart (onto (map (lowered_item enums) xs) done) → AreApart (onto (map (lowered_item others) ys) there)

  apart_observed : (items : List Item) → Behind items (observers items)
  apart_observed [] done there fewer a h = a
  apart_observed (TypeItem t ∷ items) done there fewer a h = apart_observed items (TypeItem t ∷ done) (TypeItem t ∷ there) fewer a h
  apart_observed (NodeItem n ∷ items) done there fewer a h = by n.contract (apart_observed items)
    where
      by : (o : Option Contract) → Behind items (observers items) → AreApart (onto (map (lowered_item others) (observer_if n o ++ observers items)) there)
      by None rest = rest (NodeItem (lowered_node enums n) ∷ done) there (λ f k. or_behind (bytes_eq n.name f) (has_node done f) (fewer f k)) a h
      by (Some c) rest =
          let own = (apart_behind (map (lowered_item enums) items) (NodeItem (lowered_node enums n) ∷ done) h).0 in
          rest (NodeItem (lowered_node enums n) ∷ done) (NodeItem (lowered_node others (observer_of n c)) ∷ there) (λ f. or_either (bytes_eq n.name f) (has_node there f) (has_node done f) (fewer f))
          (not_there (has_node there n.name) (has_node done n.name) (fewer n.name) own, a) h

pub observers_apart : (after : List Item) → AreApart (reverse (lowered_program after)) → AreApart (reverse (lowered_program (observers after)))
observers_apart after h = apart_observed (enumerations [] after) (enumerations [] (observers after)) after [] [] (λ f k. k) tt h
