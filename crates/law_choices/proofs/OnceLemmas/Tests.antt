-- What is known before a choice, and tests of it. Where no test tells two of these apart, they are alike.
use Rattle.std.proofs.Common.{◌≡◌, inl, inr, List, [], ◌∷◌, refl, ap, ap₂, subst}
use Rattle.std.proofs.Math.Path.{fun_ext}
use Rattle.std.specs.Prelude.{Bool, true, false, IsTrue, IsFalse, drop, ◌&&◌}
use Rattle.hp_base.specs.declared.value.Value.{Value}
use Rattle.hp_tree.specs.declared.program.Item.{Item}
use Rattle.hp_tree.specs.Programs.{Node}
use Rattle.hp_tree.specs.Instant.{Place, Instant, Past, nothing}
use Rattle.hp_meaning.specs.Contract.FreePlaces.{IsEarly}
use Rattle.hp_meaning.proofs.CausalLemmas.Choices.{and_true}
use Rattle.law_choices.proofs.OnceLemmas.Deciding.{Same, same_value, same_values, same_node, told, told_same, told_other}

-- what is known before a choice
pub record Known : Type 0 where
  pub node : Node
  pub history : Past
  pub inputs : List Value
  pub early : Instant

abbrev pub known_with : Known → Instant → Known
known_with k early = record { node = k.node; history = k.history; inputs = k.inputs; early = early }

-- A test looks at early places alone.
pub record Test (program : List Item) : Type 0 where
  pub of : Known → Bool
  pub early_alone : (k : Known) (other : Instant) → ((p : Place) → IsEarly program k.node p → k.early p ≡ other p) → of k ≡ of (known_with k other)

-- the same, but at places that are not early
pub record Alike (program : List Item) (k l : Known) : Type 0 where
  pub node : k.node ≡ l.node
  pub history : k.history ≡ l.history
  pub inputs : k.inputs ≡ l.inputs
  pub early : (p : Place) → IsEarly program k.node p → k.early p ≡ l.early p

pub first_false : (a b : Bool) → IsFalse a → IsFalse (a && b)
first_false true b h = absurd (cc)
first_false false b h = refl

pub second_false : (a b : Bool) → IsFalse b → IsFalse (a && b)
second_false true b h = h
second_false false b h = refl

-- ---- pasts

-- the value of the newest instant
abbrev pub first_at : Past → Place → Value
first_at [] p = nothing p
first_at (i ∷ past) p = i p

abbrev is_none : Past → Bool
is_none [] = true
is_none (i ∷ past) = false

abbrev is_some : Past → Bool
is_some [] = false
is_some (i ∷ past) = true

-- Pasts that no test tells apart are the same.
pub same_past : (g h : Past) → ((t : Past → Bool) → IsTrue (t g) → IsFalse (t h) → ⊥) → g ≡ h
same_past [] [] none = refl
same_past [] (j ∷ h) none = absurd (none is_none refl refl)
same_past (i ∷ g) [] none = absurd (none is_some refl refl)
same_past (i ∷ g) (j ∷ h) none = ap₂ (λ (k : Instant) (past : Past). k ∷ past) (fun_ext (λ p. at_place p (same_value (i p) (j p)))) (same_past g h (λ t x y. none (λ past. t (drop 1 past)) x y))
  where
    at_place : (p : Place) → Same (i p) (j p) → i p ≡ j p
    at_place p (inl e) = e
    at_place p (inr f) = absurd (none (λ past. told (same_value (i p) (first_at past p))) (told_same (same_value (i p) (i p)) refl) (told_other (same_value (i p) (j p)) f))

-- ---- what is known

module _ (program : List Item) where
  -- tests of the node, of the history and of the inputs
  abbrev of_node : Node → Test program
  of_node n = record { of = λ k. told (same_node n k.node); early_alone = λ k other e. refl }

  abbrev of_history : (Past → Bool) → Test program
  of_history t = record { of = λ k. t k.history; early_alone = λ k other e. refl }

  abbrev of_inputs : List Value → Test program
  of_inputs vs = record { of = λ k. told (same_values vs k.inputs); early_alone = λ k other e. refl }

  -- a test of an early place of a node
  abbrev at_early : Node → Place → Value → Known → Bool
  at_early n p v k = told (same_node n k.node) && told (same_value v (k.early p))

  place_alike : (n : Node) (p : Place) (v : Value) (k : Known) (other : Instant) → IsEarly program n p → ((q : Place) → IsEarly program k.node q → k.early q ≡ other q) → (s : Same n k.node) → (told s && told (same_value v (k.early p))) ≡ (told s && told (same_value v (other p)))
  place_alike n p v k other is e (inl same) = ap (λ w. told (same_value v w)) (e p (subst (λ m. IsEarly program m p) same is))
  place_alike n p v k other is e (inr f) = refl

  abbrev of_early : (n : Node) (p : Place) → IsEarly program n p → Value → Test program
  of_early n p is v = record { of = at_early n p v; early_alone = λ k other e. place_alike n p v k other is e (same_node n k.node) }

  abbrev pub all_pass : Test program
  all_pass = record { of = λ k. true; early_alone = λ k other e. refl }

  abbrev pub both : Test program → Test program → Test program
  both s t = record { of = λ k. s.of k && t.of k; early_alone = λ k other e. ap₂ (λ a b. a && b) (s.early_alone k other e) (t.early_alone k other e) }

  -- What no test tells apart is alike.
  pub alike : (k l : Known) → ((t : Test program) → IsTrue (t.of k) → IsFalse (t.of l) → ⊥) → Alike program k l
  alike k l none =
      let node = by_node (same_node k.node l.node) in
      record {
        node = node;
        history = same_past k.history l.history (λ t x y. none (of_history t) x y);
        inputs = by_inputs (same_values k.inputs l.inputs);
        early = λ p is. by_place node p is (same_value (k.early p) (l.early p));
      }
    where
      by_node : Same k.node l.node → k.node ≡ l.node
      by_node (inl e) = e
      by_node (inr f) = absurd (none (of_node k.node) (told_same (same_node k.node k.node) refl) (told_other (same_node k.node l.node) f))

      by_inputs : Same k.inputs l.inputs → k.inputs ≡ l.inputs
      by_inputs (inl e) = e
      by_inputs (inr f) = absurd (none (of_inputs k.inputs) (told_same (same_values k.inputs k.inputs) refl) (told_other (same_values k.inputs l.inputs) f))

      by_place : k.node ≡ l.node → (p : Place) → IsEarly program k.node p → Same (k.early p) (l.early p) → k.early p ≡ l.early p
      by_place same p is (inl e) = e
      by_place same p is (inr f) =
          absurd (none (of_early k.node p is (k.early p))
          (and_true (told (same_node k.node k.node)) (told (same_value (k.early p) (k.early p))) (told_same (same_node k.node k.node) refl) (told_same (same_value (k.early p) (k.early p)) refl))
          (second_false (told (same_node k.node l.node)) (told (same_value (k.early p) (l.early p))) (told_other (same_value (k.early p) (l.early p)) f)))
