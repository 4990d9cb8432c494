-- How names are seen as vertices, and what they read.
use Rattle.std.proofs.Common.{◌≡◌, ◌⊎◌, ℕ, ◌+◌, List, [], ◌∷◌, Bool, true, false, IsTrue, ◌||◌, ◌&&◌, if◌then◌else◌, Option, None, Some, inl, inr, refl, ap, subst, ◌∙◌, arith}
use Rattle.std.specs.Str.{bytes_eq}
use Rattle.hp_tree.specs.Expressions.{Expr, call}
use Rattle.hp_tree.specs.Blocks.{Decl, Block, block, Eqns, Eqn}
use Rattle.hp_tree.specs.Programs.{Contract, Node}
use Rattle.hp_tree.specs.Instant.{Step, Controls, Body, Named, Head, Tail, Place, Clock, without}
use Rattle.hp_tree.specs.Meaning.{declares, defines, some_defines, names_of as declared_names}
use Rattle.hp_meaning.specs.Causal.Points.{Whereabouts}
use Rattle.hp_meaning.specs.Causal.Sources.{Sources, none, only, both, also, NameSources}
use Rattle.hp_meaning.specs.Causal.WhatIsRead.{names_in as names_inside, names_within, control_in, has_equation, output_in, in_contract}
use Rattle.hp_meaning.specs.Causal.Causality.{sources}
use Rattle.hp_cause.specs.Walked.{control_of_contract, control_of_node}
use Rattle.hp_tables.specs.Defining.Layers.{numbered}
use Rattle.hp_tables.specs.Defining.Names.{listed, names_in}
use Rattle.hp_cause.specs.Vertices.{own_of_test, Numbering, number_expr, number_block, number_test, number_contract, number_controls, first_of_contract, number_node}
use Rattle.hp_cause.specs.Gathering.{Sight, names_of_clock, outer_clock, seen_in, seen_within, own_sight, seen_declared}
use Rattle.hp_tables.proofs.DefiningLemmas.ListedLaws.{listed_in}
use Rattle.hp_cause.proofs.NumberLaws.{numbered_listed, over_there}

-- one of some numbers
abbrev pub Is : ℕ → List ℕ → Type 0
Is v [] = ⊥
Is v (u ∷ us) = (v ≡ u) ⊎ Is v us

pub one_number : (k v : ℕ) → Some k ≡ Some v → k ≡ v
one_number k v h = cc

pub outer_is : (clock : Clock) → outer_clock (names_of_clock clock) ≡ names_of_clock (without clock)
outer_is [] = refl
outer_is (on ∷ clock) = refl

module _ (A : Numbering) where
  -- The vertices of a part have these numbers in the node.
  abbrev pub Ties : Numbering → Whereabouts → Type 0
  Ties number w = (p : Place) (v : ℕ) → number p ≡ Some v → A (w p) ≡ Some v

  pub test_ties : (k : ℕ) (e : Expr) (w : Whereabouts) → Ties (number_test k e) w → Ties (number_expr (k + own_of_test e) e) w
  test_ties k (call s f i es) w t [] v h = t [] k refl ∙ ap Some (let m : k ≡ k + 0 = omega arith in m) ∙ h
  test_ties k e w t (q ∷ p) v h = t (q ∷ p) v h
  test_ties k e w t [] v h = absurd cc

  -- What a name reads is the place of the vertex by which it is seen.
  abbrev pub Told : Sources → Option ℕ → Type 0
  Told none None = Unit {0}
  Told none (Some v) = ⊥
  Told (only q) None = ⊥
  Told (only q) (Some v) = A q ≡ Some v
  Told (both s t) None = ⊥
  Told (both s t) (Some v) = ⊥
  Told (also s) None = ⊥
  Told (also s) (Some v) = ⊥

  abbrev pub Agree : NameSources → Sight → Type 0
  Agree names see = (x : List ℕ) → Told (names x) (see x)

  -- in a block
  pub agree_in : (j : ℕ) (ds : List Decl) (es : Eqns) (names : NameSources) (see : Sight) (w : Whereabouts) → Agree names see → ((x : List ℕ) (v : ℕ) → numbered j (names_in es) x ≡ Some v → A (w (Named x ∷ [])) ≡ Some v)
      → Agree (names_inside es names (λ p. only (w p))) (seen_in j (block ds es) see)
  agree_in j ds es names see w agree t x = by (some_defines es x) (numbered j (names_in es) x) (listed_in x es) (numbered_listed j (names_in es) x) (unlisted j (names_in es) x) (t x)
    where
      unlisted : (j : ℕ) (ns : List (List ℕ)) (x : List ℕ) → listed ns x ≡ false → numbered j ns x ≡ None
      unlisted j [] x h = refl
      unlisted j (n ∷ ns) x h = here (bytes_eq n x) h (unlisted (j + 1) ns x)
        where
          here : (d : Bool) → (d || listed ns x) ≡ false → (listed ns x ≡ false → numbered (j + 1) ns x ≡ None) → (if d then Some j else numbered (j + 1) ns x) ≡ None
          here true h rest = absurd cc
          here false h rest = rest h

      by : (d : Bool) (o : Option ℕ) → listed (names_in es) x ≡ d → (IsTrue (listed (names_in es) x) → (v : ℕ) × (o ≡ Some v)) → (listed (names_in es) x ≡ false → o ≡ None) → ((v : ℕ) → o ≡ Some v → A (w (Named x ∷ [])) ≡ Some v)
          → Told (if d then only (w (Named x ∷ [])) else names x) (elim o as (λ _. Option ℕ) [ None ↦ see x | Some u ↦ Some u ])
      by true None e some none' t = let f = (some e).1 in absurd cc
      by true (Some v) e some none' t = t v refl
      by false None e some none' t = agree x
      by false (Some v) e some none' t = let f = none' e in absurd cc

  -- inside a control equation
  pub agree_within : (e : Eqn) (names : NameSources) (see : Sight) → Agree names see → Agree (names_within e names) (seen_within e see)
  agree_within e names see agree x = by (defines e x)
    where
      by : (d : Bool) → Told (if d then none else names x) (if d then None else see x)
      by true = tt
      by false = agree x

  -- a name that a block defines has a vertex there
  pub owned : (j k : ℕ) (ds : List Decl) (es : Eqns) (see : Sight) (x : List ℕ) → IsTrue (some_defines es x) → (v : ℕ) × ((numbered j (names_in es) x ≡ Some v) × (seen_in j (block ds es) see x ≡ Some v))
  owned j k ds es see x d = let found = numbered_listed j (names_in es) x (listed_in x es ∙ d) in (found.0, (found.1, over_there (numbered j (names_in es) x) (see x) found.0 found.1))

  -- ---- a node

  pub agree_controls : (k : ℕ) (ds : List Decl) (w : Whereabouts) → Ties (number_controls k ds) w → Agree (control_in ds (λ p. only (w p))) (numbered k (declared_names ds))
  agree_controls k [] w t x = tt
  agree_controls k (d ∷ ds) w t x = by (bytes_eq d.name x) (agree_controls (k + 1) ds (λ p. w (Tail ∷ p)) (λ p. t (Tail ∷ p)) x)
    where
      by : (b : Bool) → Told (control_in ds (λ p. only (w (Tail ∷ p))) x) (numbered (k + 1) (declared_names ds) x)
          → Told (if b then only (w (Head ∷ [])) else control_in ds (λ p. only (w (Tail ∷ p))) x) (if b then Some k else numbered (k + 1) (declared_names ds) x)
      by true rest = t (Head ∷ []) k refl
      by false rest = rest

  pub agree_outputs : (ds : List Decl) (j k : ℕ) (b : Block) (w : Whereabouts) → ((x : List ℕ) (v : ℕ) → number_block j k b (Named x ∷ []) ≡ Some v → A (w (Named x ∷ [])) ≡ Some v)
      → Agree (λ x. if declares ds x && has_equation b x then only (w (Named x ∷ [])) else none) (seen_declared ds (own_sight j b))
  agree_outputs ds j k (block ls es) w t x = by (declares ds x) (agree_in j ls es (λ y. none) (λ y. None) w (λ y. tt) t x)
    where
      by : (d : Bool) → Told (if some_defines es x then only (w (Named x ∷ [])) else none) (elim (numbered j (names_in es) x) as (λ _. Option ℕ) [ None ↦ None | Some u ↦ Some u ])
          → Told (if d && some_defines es x then only (w (Named x ∷ [])) else none) (if d then numbered j (names_in es) x else None)
      by true h = same (numbered j (names_in es) x) h
        where
          same : (o : Option ℕ) → Told (if some_defines es x then only (w (Named x ∷ [])) else none) (elim o as (λ _. Option ℕ) [ None ↦ None | Some u ↦ Some u ]) → Told (if some_defines es x then only (w (Named x ∷ [])) else none) o
          same None h = h
          same (Some u) h = h
      by false h = tt

-- the places of a contract are numbered in its node
pub observer_ties : (n : Node) (p : Place) (v : ℕ) → number_contract (first_of_contract n) n.contract p ≡ Some v → number_node n p ≡ Some v
observer_ties n (Controls ∷ p) v h = absurd (no_control (first_of_contract n) n.contract p v h)
  where
    no_control : (k : ℕ) (c : Option Contract) (p : Place) (v : ℕ) → number_contract k c (Controls ∷ p) ≡ Some v → ⊥
    no_control k None p v h = absurd cc
    no_control k (Some c) p v h = absurd cc
observer_ties n (Body ∷ p) v h = absurd (no_body (first_of_contract n) n.contract p v h)
  where
    no_body : (k : ℕ) (c : Option Contract) (p : Place) (v : ℕ) → number_contract k c (Body ∷ p) ≡ Some v → ⊥
    no_body k None p v h = absurd cc
    no_body k (Some c) p v h = absurd cc
observer_ties n p v h = h

no_step : (k : ℕ) (c : Option Contract) (s : Step) (p : Place) (v : ℕ) → number_contract k c (s ∷ p) ≡ Some v → (s ≡ Controls) ⊎ ((s ≡ Body) ⊎ ((x : List ℕ) × (s ≡ Named x))) → ⊥
no_step k None s p v h e = absurd cc
no_step k (Some c) s p v h (inl e) = let g : number_contract k (Some c) (Controls ∷ p) ≡ Some v = subst (λ z. number_contract k (Some c) (z ∷ p) ≡ Some v) e h in absurd cc
no_step k (Some c) s p v h (inr (inl e)) = let g : number_contract k (Some c) (Body ∷ p) ≡ Some v = subst (λ z. number_contract k (Some c) (z ∷ p) ≡ Some v) e h in absurd cc
no_step k (Some c) s p v h (inr (inr e)) = let g : number_contract k (Some c) (Named e.0 ∷ p) ≡ Some v = subst (λ z. number_contract k (Some c) (z ∷ p) ≡ Some v) e.1 h in absurd cc

-- What the places of a contract read is told by the contract.
pub observer_sources : (n : Node) (p : Place) (v : ℕ) → number_contract (first_of_contract n) n.contract p ≡ Some v → sources n p ≡ in_contract n.contract (output_in n (λ q. only (Body ∷ q))) (λ q. only q) p
observer_sources n (Controls ∷ p) v h = absurd (no_step (first_of_contract n) n.contract Controls p v h (inl refl))
observer_sources n (Body ∷ p) v h = absurd (no_step (first_of_contract n) n.contract Body p v h (inr (inl refl)))
observer_sources n (Named x ∷ p) v h = absurd (no_step (first_of_contract n) n.contract (Named x) p v h (inr (inr (x, refl))))
observer_sources n p v h = refl

pub observer_controls : (n : Node) (p : Place) (v : ℕ) → number_contract (first_of_contract n) n.contract p ≡ Some v → control_of_node n p ≡ control_of_contract n.contract (output_in n (λ q. only (Body ∷ q))) (λ q. only q) p
observer_controls n (Body ∷ p) v h = absurd (no_step (first_of_contract n) n.contract Body p v h (inr (inl refl)))
observer_controls n p v h = refl
