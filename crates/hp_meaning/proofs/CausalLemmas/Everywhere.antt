-- What holds of the sources of all places of something, made of what holds of those of its parts.
use Rattle.std.specs.Prelude.{ℕ, List, [], ◌∷◌}
use Rattle.hp_tree.specs.Instant.{Body, Named, Equations, Head, Tail, Right, Test, Arms as ArmsOf, States as StatesOf, Until, Unless, Active, Next, Pending, First, Second, Third, Args, Instance, Place}
use Rattle.hp_meaning.specs.Causal.Sources.{Sources, none, both, NameSources, PlaceSources, at_one, at_two, at_three, at_row, at_merge, at_call, at_block, at_right, at_arms, at_body, at_state, at_words}

module _ (Q : Sources → Type 0) (z : Q none) (pair : (s t : Sources) → Q s → Q t → Q (both s t)) where
  abbrev pub Whole : PlaceSources → Type 0
  Whole k = (p : Place) → Q (k p)

  pub whole_one : (s : Sources) (k : PlaceSources) → Q s → Whole k → Whole (at_one s k)
  whole_one s k a f [] = a
  whole_one s k a f (First ∷ p) = f p
  whole_one s k a f p = z

  pub whole_two : (s : Sources) (k l : PlaceSources) → Q s → Whole k → Whole l → Whole (at_two s k l)
  whole_two s k l a f g [] = a
  whole_two s k l a f g (First ∷ p) = f p
  whole_two s k l a f g (Second ∷ p) = g p
  whole_two s k l a f g p = z

  pub whole_three : (s : Sources) (k l m : PlaceSources) → Q s → Whole k → Whole l → Whole m → Whole (at_three s k l m)
  whole_three s k l m a f g h [] = a
  whole_three s k l m a f g h (First ∷ p) = f p
  whole_three s k l m a f g h (Second ∷ p) = g p
  whole_three s k l m a f g h (Third ∷ p) = h p
  whole_three s k l m a f g h p = z

  pub whole_row : (k l : PlaceSources) → Whole k → Whole l → Whole (at_row k l)
  whole_row k l f g (Head ∷ p) = f p
  whole_row k l f g (Tail ∷ p) = g p
  whole_row k l f g p = z

  pub whole_merge : (s : Sources) (k : PlaceSources) → Q s → Whole k → Whole (at_merge s k)
  whole_merge s k a f [] = a
  whole_merge s k a f (Args ∷ p) = f p
  whole_merge s k a f p = z

  pub whole_call : (s t : Sources) (k : PlaceSources) → Q s → Q t → Whole k → Whole (at_call s t k)
  whole_call s t k a b f [] = a
  whole_call s t k a b f (Args ∷ p) = f p
  whole_call s t k a b f (Instance ∷ p) = b
  whole_call s t k a b f p = z

  pub whole_block : (names : NameSources) (k : PlaceSources) → ((x : List ℕ) → Q (names x)) → Whole k → Whole (at_block names k)
  whole_block names k h f (Named x ∷ []) = h x
  whole_block names k h f (Equations ∷ p) = f p
  whole_block names k h f p = z

  pub whole_right : (k : PlaceSources) → Whole k → Whole (at_right k)
  whole_right k f (Right ∷ p) = f p
  whole_right k f p = z

  pub whole_arms : (k : PlaceSources) (s : Sources) (l : PlaceSources) → Whole k → Q s → Whole l → Whole (at_arms k s l)
  whole_arms k s l f a g (Test ∷ p) = f p
  whole_arms k s l f a g (ArmsOf ∷ p) = pair s (l p) a (g p)
  whole_arms k s l f a g p = z

  pub whole_body : (k : PlaceSources) (s : Sources) (l : PlaceSources) → Whole k → Q s → Whole l → Whole (at_body k s l)
  whole_body k s l f a g (Test ∷ p) = f p
  whole_body k s l f a g (Body ∷ p) = pair s (l p) a (g p)
  whole_body k s l f a g p = z

  pub whole_state : (s : Sources) (k l m : PlaceSources) → Q s → Whole k → Whole l → Whole m → Whole (at_state s k l m)
  whole_state s k l m a f g h (Body ∷ p) = pair s (k p) a (f p)
  whole_state s k l m a f g h (Until ∷ p) = pair s (l p) a (g p)
  whole_state s k l m a f g h (Unless ∷ p) = h p
  whole_state s k l m a f g h p = z

  pub whole_words : (s t : Sources) (k : PlaceSources) → Q s → Q t → Whole k → Whole (at_words s t k)
  whole_words s t k a b f (Active ∷ []) = a
  whole_words s t k a b f (Next ∷ []) = b
  whole_words s t k a b f (Pending ∷ []) = b
  whole_words s t k a b f (StatesOf ∷ p) = f p
  whole_words s t k a b f p = z
