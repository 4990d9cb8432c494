-- Two instants that agree on what a place reads: instants made of parts.
use Rattle.std.proofs.Common.{◌≡◌, ℕ, List, [], ◌∷◌, refl, ap, ap₂}
use Rattle.std.specs.Prelude.{Bool, true, false, if◌then◌else◌, ◌&&◌}
use Rattle.hp_base.specs.declared.value.Value.{Value}
use Rattle.hp_base.specs.declared.value.Value.TheVariants.{Absent}
use Rattle.hp_tree.specs.Blocks.{Eqns, Eqn}
use Rattle.hp_tree.specs.Programs.{TypeDecl}
use Rattle.hp_tree.specs.Operators.{is_cons}
use Rattle.hp_tree.specs.Instant.{Body, Named, Equations, Head, Tail, Right, Test, Arms as ArmsOf, States as StatesOf, Until, Unless, Active, Next, Pending, First, Second, Third, Args, Instance, Place, Instant, alone, with_one, with_two, with_three, in_row, with_row, with_instance, of_two, in_block, in_right, with_arms, with_body, in_state, with_words, Clock, holds, without}
use Rattle.hp_tree.specs.Meaning.{Names, defines, some_defines, inside, within}
use Rattle.hp_meaning.specs.Causal.Sources.{Sources, none, Within, NameSources, PlaceSources, nowhere, at_one, at_two, at_three, at_row, at_merge, at_call, at_block, at_right, at_arms, at_body, at_state, at_words}
use Rattle.hp_meaning.specs.Causal.WhatIsRead.{of_clock, names_in, names_within}

module _ (P : Place → Type 0) where
  -- equal where what is read is in the set
  abbrev pub Agree : PlaceSources → Instant → Instant → Type 0
  Agree k i j = (p : Place) → Within P (k p) → i p ≡ j p

  abbrev pub SameNames : NameSources → Names → Names → Type 0
  SameNames names a b = (x : List ℕ) → Within P (names x) → a x ≡ b x

  -- what a place of the set depends on is in the set
  abbrev pub Closed : PlaceSources → PlaceSources → Type 0
  Closed k l = (p : Place) → Within P (k p) → Within P (l p)

  pub choice : (d : Bool) (s t : Sources) (v v' w w' : Value) → (Within P s → v ≡ v') → (Within P t → w ≡ w') → Within P (if d then s else t) → (if d then v else w) ≡ (if d then v' else w')
  choice true s t v v' w w' f g h = f h
  choice false s t v v' w w' f g h = g h

  pub holds_same : (types : List TypeDecl) (clock : Clock) (names : NameSources) (a b : Names) → Within P (of_clock clock names) → SameNames names a b → holds types clock a ≡ holds types clock b
  holds_same types [] names a b h s = refl
  holds_same types (on ∷ clock) names a b h s = ap₂ (λ v w. is_cons types v on.0 && w) (s on.1 h.0) (holds_same types clock names a b h.1 s)

  pub on_same : (types : List TypeDecl) (clock : Clock) (names : NameSources) (a b : Names) (v w : Value) → Within P (of_clock clock names) → SameNames names a b → v ≡ w → (if holds types clock a then v else Absent) ≡ (if holds types clock b then w else Absent)
  on_same types clock names a b v w h s e = ap₂ (λ c u. if c then u else Absent) (holds_same types clock names a b h s) e

  pub without_in : (clock : Clock) (names : NameSources) → Within P (of_clock clock names) → Within P (of_clock (without clock) names)
  without_in [] names h = tt
  without_in (on ∷ clock) names h = h.1

  pub inside_same : (es : Eqns) (names : NameSources) (k : PlaceSources) (a b : Names) (i j : Instant) → SameNames names a b → Agree k i j → SameNames (names_in es names k) (inside es a i) (inside es b j)
  inside_same es names k a b i j s t x = choice (some_defines es x) (k (Named x ∷ [])) (names x) _ _ _ _ (t (Named x ∷ [])) (s x)

  pub within_same : (e : Eqn) (names : NameSources) (a b last : Names) → SameNames names a b → SameNames (names_within e names) (within e a last) (within e b last)
  within_same e names a b last s x = choice (defines e x) none (names x) _ _ _ _ (λ h. refl) (s x)

  -- ---- instants made of parts

  pub alone_at : (s : Sources) (v v' : Value) → (Within P s → v ≡ v') → Agree (at_one s nowhere) (alone v) (alone v')
  alone_at s v v' e [] h = e h
  alone_at s v v' e (_ ∷ p) h = refl

  pub one_at : (s : Sources) (k : PlaceSources) (v v' : Value) (i i' : Instant) → (Within P s → v ≡ v') → Agree k i i' → Agree (at_one s k) (with_one v i) (with_one v' i')
  one_at s k v v' i i' e at [] h = e h
  one_at s k v v' i i' e at (First ∷ p) h = at p h
  one_at s k v v' i i' e at p h = refl

  pub two_at : (s : Sources) (k l : PlaceSources) (v v' : Value) (i i' j j' : Instant) → (Within P s → v ≡ v') → Agree k i i' → Agree l j j' → Agree (at_two s k l) (with_two v i j) (with_two v' i' j')
  two_at s k l v v' i i' j j' e ai aj [] h = e h
  two_at s k l v v' i i' j j' e ai aj (First ∷ p) h = ai p h
  two_at s k l v v' i i' j j' e ai aj (Second ∷ p) h = aj p h
  two_at s k l v v' i i' j j' e ai aj p h = refl

  pub three_at : (s : Sources) (k l m : PlaceSources) (v v' : Value) (i i' j j' n n' : Instant) → (Within P s → v ≡ v') → Agree k i i' → Agree l j j' → Agree m n n' → Agree (at_three s k l m) (with_three v i j n) (with_three v' i' j' n')
  three_at s k l m v v' i i' j j' n n' e ai aj an [] h = e h
  three_at s k l m v v' i i' j j' n n' e ai aj an (First ∷ p) h = ai p h
  three_at s k l m v v' i i' j j' n n' e ai aj an (Second ∷ p) h = aj p h
  three_at s k l m v v' i i' j j' n n' e ai aj an (Third ∷ p) h = an p h
  three_at s k l m v v' i i' j j' n n' e ai aj an p h = refl

  pub row_at : (k l : PlaceSources) (i i' : Instant) (is is' : List Instant) → Agree k i i' → Agree l (in_row is) (in_row is') → Agree (at_row k l) (in_row (i ∷ is)) (in_row (i' ∷ is'))
  row_at k l i i' is is' ai ais (Head ∷ p) h = ai p h
  row_at k l i i' is is' ai ais (Tail ∷ p) h = ais p h
  row_at k l i i' is is' ai ais p h = refl

  pub merge_at : (s : Sources) (k : PlaceSources) (v v' : Value) (is is' : List Instant) → (Within P s → v ≡ v') → Agree k (in_row is) (in_row is') → Agree (at_merge s k) (with_row v is) (with_row v' is')
  merge_at s k v v' is is' e at [] h = e h
  merge_at s k v v' is is' e at (Args ∷ p) h = at p h
  merge_at s k v v' is is' e at p h = refl

  pub call_at : (s call : Sources) (k : PlaceSources) (v v' : Value) (is is' : List Instant) (i i' : Instant) → (Within P s → v ≡ v') → (Within P call → i ≡ i') → Agree k (in_row is) (in_row is') → Agree (at_call s call k) (with_instance v is i) (with_instance v' is' i')
  call_at s call k v v' is is' i i' e c at [] h = e h
  call_at s call k v v' is is' i i' e c at (Args ∷ p) h = at p h
  call_at s call k v v' is is' i i' e c at (Instance ∷ p) h = ap (λ t. t p) (c h)
  call_at s call k v v' is is' i i' e c at p h = refl

  pub of_two_at : (k l : PlaceSources) (i i' j j' : Instant) → Agree k i i' → Agree l j j' → Agree (at_row k l) (of_two i j) (of_two i' j')
  of_two_at k l i i' j j' ai aj (Head ∷ p) h = ai p h
  of_two_at k l i i' j j' ai aj (Tail ∷ p) h = aj p h
  of_two_at k l i i' j j' ai aj p h = refl

  pub block_at : (names : NameSources) (k : PlaceSources) (f g : Names) (fresh : Value) (i j : Instant) → SameNames names f g → Agree k i j → Agree (at_block names k) (in_block f fresh i) (in_block g fresh j)
  block_at names k f g fresh i j e at (Named x ∷ []) h = e x h
  block_at names k f g fresh i j e at (Equations ∷ p) h = at p h
  block_at names k f g fresh i j e at p h = refl

  pub right_at : (k : PlaceSources) (i j : Instant) → Agree k i j → Agree (at_right k) (in_right i) (in_right j)
  right_at k i j at (Right ∷ p) h = at p h
  right_at k i j at p h = refl

  pub arms_at : (k l : PlaceSources) (s : Sources) (i i' j j' : Instant) → Agree k i i' → (Within P s → Agree l j j') → Agree (at_arms k s l) (with_arms i j) (with_arms i' j')
  arms_at k l s i i' j j' ai aj (Test ∷ p) h = ai p h
  arms_at k l s i i' j j' ai aj (ArmsOf ∷ p) h = aj h.0 p h.1
  arms_at k l s i i' j j' ai aj p h = refl

  pub body_at : (k l : PlaceSources) (s : Sources) (i i' j j' : Instant) → Agree k i i' → (Within P s → Agree l j j') → Agree (at_body k s l) (with_body i j) (with_body i' j')
  body_at k l s i i' j j' ai aj (Test ∷ p) h = ai p h
  body_at k l s i i' j j' ai aj (Body ∷ p) h = aj h.0 p h.1
  body_at k l s i i' j j' ai aj p h = refl

  pub state_at : (s : Sources) (k l m : PlaceSources) (i i' j j' n n' : Instant) → (Within P s → Agree k i i') → (Within P s → Agree l j j') → Agree m n n' → Agree (at_state s k l m) (in_state i j n) (in_state i' j' n')
  state_at s k l m i i' j j' n n' ai aj an (Body ∷ p) h = ai h.0 p h.1
  state_at s k l m i i' j j' n n' ai aj an (Until ∷ p) h = aj h.0 p h.1
  state_at s k l m i i' j j' n n' ai aj an (Unless ∷ p) h = an p h
  state_at s k l m i i' j j' n n' ai aj an p h = refl

  pub words_at : (s t : Sources) (k : PlaceSources) (a a' n n' q q' : Value) (i i' : Instant) → (Within P s → a ≡ a') → (Within P t → n ≡ n') → (Within P t → q ≡ q') → Agree k i i' → Agree (at_words s t k) (with_words a n q i) (with_words a' n' q' i')
  words_at s t k a a' n n' q q' i i' ea en eq at (Active ∷ []) h = ea h
  words_at s t k a a' n n' q q' i i' ea en eq at (Next ∷ []) h = en h
  words_at s t k a a' n n' q q' i i' ea en eq at (Pending ∷ []) h = eq h
  words_at s t k a a' n n' q q' i i' ea en eq at (StatesOf ∷ p) h = at p h
  words_at s t k a a' n n' q q' i i' ea en eq at p h = refl

pub if_at : (d : Bool) (f f' g : Instant) (q : Place) → f q ≡ f' q → (if d then f else g) q ≡ (if d then f' else g) q
if_at true f f' g q e = e
if_at false f f' g q e = refl
