-- What is said of each place of something, made of what is said of those of its parts, beside what they read.
use Rattle.std.proofs.Common.{List, [], ◌∷◌, inl, inr}
use Rattle.std.specs.Prelude.{⊤, ℕ, ◌⊎◌}
use Rattle.hp_tree.specs.Instant.{Body, Named, Equations, Head, Tail, Right, Test, Arms as ArmsOf, States as StatesOf, Until, Unless, Active, Next, Pending, First, Second, Third, Args, Instance, Place}
use Rattle.hp_meaning.specs.Causal.Sources.{Sources, both, NameSources, PlaceSources, at_one, at_two, at_three, at_row, at_merge, at_call, at_block, at_right, at_arms, at_body, at_state, at_words}
use Rattle.law_drawing.specs.Steered.Marks.{Steering, Leads}

abbrev pub Said : Type 1
Said = Place → Type 0

abbrev pub anything : Said
anything p = ⊤

abbrev pub by_one : Type 0 → Said → Said
by_one x f [] = x
by_one x f (First ∷ p) = f p
by_one x f p = ⊤

abbrev pub by_two : Type 0 → Said → Said → Said
by_two x f g [] = x
by_two x f g (First ∷ p) = f p
by_two x f g (Second ∷ p) = g p
by_two x f g p = ⊤

abbrev pub by_three : Type 0 → Said → Said → Said → Said
by_three x f g h [] = x
by_three x f g h (First ∷ p) = f p
by_three x f g h (Second ∷ p) = g p
by_three x f g h (Third ∷ p) = h p
by_three x f g h p = ⊤

abbrev pub by_row : Said → Said → Said
by_row f g (Head ∷ p) = f p
by_row f g (Tail ∷ p) = g p
by_row f g p = ⊤

-- a merge, or a call, whose instance is not looked at
abbrev pub by_args : Type 0 → Said → Said
by_args x f [] = x
by_args x f (Args ∷ p) = f p
by_args x f p = ⊤

abbrev pub by_block : (List ℕ → Type 0) → Said → Said
by_block named f (Named x ∷ []) = named x
by_block named f (Equations ∷ p) = f p
by_block named f p = ⊤

abbrev pub by_right : Said → Said
by_right f (Right ∷ p) = f p
by_right f p = ⊤

-- in an arm, and in the body of a `reset`, the same is said as of the control, or more
abbrev pub by_arms : Said → Type 0 → Said → Said
by_arms f x g (Test ∷ p) = f p
by_arms f x g (ArmsOf ∷ p) = x ⊎ g p
by_arms f x g p = ⊤

abbrev pub by_body : Said → Type 0 → Said → Said
by_body f x g (Test ∷ p) = f p
by_body f x g (Body ∷ p) = x ⊎ g p
by_body f x g p = ⊤

-- weak conditions are not looked at
abbrev pub by_state : Type 0 → Said → Said → Said
by_state x f g (Body ∷ p) = x ⊎ f p
by_state x f g (Unless ∷ p) = g p
by_state x f g p = ⊤

abbrev pub by_words : Type 0 → Said → Said
by_words x f (Active ∷ []) = x
by_words x f (StatesOf ∷ p) = f p
by_words x f p = ⊤

-- ---- where what is read leads, it is said, or something that is left out holds

module _ (steers : Steering) (C : Type 0) where
  abbrev pub Holds : PlaceSources → Said → Type 0
  Holds k f = (p : Place) → Leads steers (k p) → C ⊎ f p

  pub one-holds : (s : Sources) (k : PlaceSources) (x : Type 0) (f : Said) → (Leads steers s → C ⊎ x) → Holds k f → Holds (at_one s k) (by_one x f)
  one-holds s k x f top h [] l = top l
  one-holds s k x f top h (First ∷ p) l = h p l
  one-holds s k x f top h p l = absurd l

  pub two-hold : (s : Sources) (k m : PlaceSources) (x : Type 0) (f g : Said) → (Leads steers s → C ⊎ x) → Holds k f → Holds m g → Holds (at_two s k m) (by_two x f g)
  two-hold s k m x f g top h i [] l = top l
  two-hold s k m x f g top h i (First ∷ p) l = h p l
  two-hold s k m x f g top h i (Second ∷ p) l = i p l
  two-hold s k m x f g top h i p l = absurd l

  pub three-hold : (s : Sources) (k m n : PlaceSources) (x : Type 0) (f g e : Said) → (Leads steers s → C ⊎ x) → Holds k f → Holds m g → Holds n e → Holds (at_three s k m n) (by_three x f g e)
  three-hold s k m n x f g e top h i j [] l = top l
  three-hold s k m n x f g e top h i j (First ∷ p) l = h p l
  three-hold s k m n x f g e top h i j (Second ∷ p) l = i p l
  three-hold s k m n x f g e top h i j (Third ∷ p) l = j p l
  three-hold s k m n x f g e top h i j p l = absurd l

  pub row-holds : (k m : PlaceSources) (f g : Said) → Holds k f → Holds m g → Holds (at_row k m) (by_row f g)
  row-holds k m f g h i (Head ∷ p) l = h p l
  row-holds k m f g h i (Tail ∷ p) l = i p l
  row-holds k m f g h i p l = absurd l

  pub merge-holds : (s : Sources) (k : PlaceSources) (x : Type 0) (f : Said) → (Leads steers s → C ⊎ x) → Holds k f → Holds (at_merge s k) (by_args x f)
  merge-holds s k x f top h [] l = top l
  merge-holds s k x f top h (Args ∷ p) l = h p l
  merge-holds s k x f top h p l = absurd l

  pub call-holds : (s c : Sources) (k : PlaceSources) (x : Type 0) (f : Said) → (Leads steers s → C ⊎ x) → Holds k f → Holds (at_call s c k) (by_args x f)
  call-holds s c k x f top h [] l = top l
  call-holds s c k x f top h (Args ∷ p) l = h p l
  call-holds s c k x f top h (Instance ∷ p) l = inr tt
  call-holds s c k x f top h p l = absurd l

  pub block-holds : (n : NameSources) (k : PlaceSources) (named : List ℕ → Type 0) (f : Said) → ((x : List ℕ) → Leads steers (n x) → C ⊎ named x) → Holds k f → Holds (at_block n k) (by_block named f)
  block-holds n k named f top h (Named x ∷ []) l = top x l
  block-holds n k named f top h (Equations ∷ p) l = h p l
  block-holds n k named f top h p l = absurd l

  pub right-holds : (k : PlaceSources) (f : Said) → Holds k f → Holds (at_right k) (by_right f)
  right-holds k f h (Right ∷ p) l = h p l
  right-holds k f h p l = absurd l

  -- what is said within is said with the control left out
  within : (x : Type 0) (control : Sources) (m : PlaceSources) (g : Said) → (Leads steers control → C ⊎ x) → ((p : Place) → Leads steers (m p) → (C ⊎ x) ⊎ g p) → (p : Place) → Leads steers (both control (m p)) → C ⊎ (x ⊎ g p)
  within x control m g top i p (inl l) = elim (top l) [ inl c ↦ inl c | inr y ↦ inr (inl y) ]
  within x control m g top i p (inr l) = elim (i p l) [ inl c ↦ elim c [ inl d ↦ inl d | inr y ↦ inr (inl y) ] | inr y ↦ inr (inr y) ]

  pub arms-hold : (k : PlaceSources) (control : Sources) (m : PlaceSources) (f : Said) (x : Type 0) (g : Said) → Holds k f → (Leads steers control → C ⊎ x) → ((p : Place) → Leads steers (m p) → (C ⊎ x) ⊎ g p) → Holds (at_arms k control m) (by_arms f x g)
  arms-hold k control m f x g h top i (Test ∷ p) l = h p l
  arms-hold k control m f x g h top i (ArmsOf ∷ p) l = within x control m g top i p l
  arms-hold k control m f x g h top i p l = absurd l

  pub body-holds : (k : PlaceSources) (control : Sources) (m : PlaceSources) (f : Said) (x : Type 0) (g : Said) → Holds k f → (Leads steers control → C ⊎ x) → ((p : Place) → Leads steers (m p) → (C ⊎ x) ⊎ g p) → Holds (at_body k control m) (by_body f x g)
  body-holds k control m f x g h top i (Test ∷ p) l = h p l
  body-holds k control m f x g h top i (Body ∷ p) l = within x control m g top i p l
  body-holds k control m f x g h top i p l = absurd l

  pub state-holds : (control : Sources) (k m n : PlaceSources) (x : Type 0) (f g : Said) → (Leads steers control → C ⊎ x) → ((p : Place) → Leads steers (k p) → (C ⊎ x) ⊎ f p) → Holds n g → Holds (at_state control k m n) (by_state x f g)
  state-holds control k m n x f g top h i (Body ∷ p) l = within x control k f top h p l
  state-holds control k m n x f g top h i (Until ∷ p) l = inr tt
  state-holds control k m n x f g top h i (Unless ∷ p) l = i p l
  state-holds control k m n x f g top h i p l = absurd l

  pub words-hold : (active next : Sources) (k : PlaceSources) (x : Type 0) (f : Said) → (Leads steers active → C ⊎ x) → Holds k f → Holds (at_words active next k) (by_words x f)
  words-hold active next k x f top h (Active ∷ []) l = top l
  words-hold active next k x f top h (Next ∷ []) l = inr tt
  words-hold active next k x f top h (Pending ∷ []) l = inr tt
  words-hold active next k x f top h (StatesOf ∷ p) l = h p l
  words-hold active next k x f top h p l = absurd l
