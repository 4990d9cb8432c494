-- Where what is given under a name stands: a row of declarations has one place for each name that it declares.
use Rattle.std.proofs.Common.{◌≡◌, ℕ, Bool, true, false, List, [], ◌∷◌, inl, inr, refl, sym, ap, ◌∙◌}
use Rattle.std.specs.Prelude.{◌⊎◌, ◌||◌, if◌then◌else◌}
use Rattle.std.specs.Str.{bytes_eq}
use Rattle.std.proofs.lemmas.Slice.Eq.{bytes_eq-Decides}
use Rattle.hp_tree.specs.Blocks.{Decl}
use Rattle.hp_tree.specs.Programs.{Node}
use Rattle.hp_tree.specs.Instant.{Inputs, Controls, Head, Tail, Place}
use Rattle.hp_tree.specs.Meaning.{declares, controls_of}
use Rattle.hp_meaning.specs.Causal.Sources.{Sources, none, only, NameSources, below}
use Rattle.hp_meaning.specs.Causal.WhatIsRead.{control_in}
use Rattle.hp_meaning.specs.Causal.InputDependence.{row_in, input_in}
use Rattle.law_choices.specs.Independent.Dependence.{given_in, IsGiven}

pub same_name : (x z : List ℕ) → bytes_eq x z ≡ true → x ≡ z
same_name x z h = (bytes_eq-Decides x z).0 h

pub name_itself : (x : List ℕ) → bytes_eq x x ≡ true
name_itself x = (bytes_eq-Decides x x).1 refl

-- the name that is declared at a place of a row
abbrev pub at_name : List Decl → Place → List ℕ
at_name (d ∷ ds) (Head ∷ []) = d.name
at_name (d ∷ ds) (Tail ∷ p) = at_name ds p
at_name ds p = []

-- A name is one of the row and stands at its place there, or is looked for further out.
abbrev InRow : List Decl → (Place → Place) → NameSources → List ℕ → Type 0
InRow ds w out z =
    ((row_in ds (λ p. only (w p)) out z ≡ out z) × (control_in ds (λ p. only (w p)) z ≡ none))
    ⊎ ((p : Place) × (row_in ds (λ p. only (w p)) out z ≡ only (w p)) × (control_in ds (λ p. only (w p)) z ≡ only (w p)) × (at_name ds p ≡ z))

pub in_row : (ds : List Decl) (w : Place → Place) (out : NameSources) (z : List ℕ) → InRow ds w out z
in_row [] w out z = inl (refl, refl)
in_row (d ∷ ds) w out z = by (bytes_eq d.name z) refl (in_row ds (λ p. w (Tail ∷ p)) out z)
  where
    by : (t : Bool) → bytes_eq d.name z ≡ t → InRow ds (λ p. w (Tail ∷ p)) out z
        → ((if t then only (w (Head ∷ [])) else row_in ds (λ p. only (w (Tail ∷ p))) out z) ≡ out z) × ((if t then only (w (Head ∷ [])) else control_in ds (λ p. only (w (Tail ∷ p))) z) ≡ none)
        ⊎ ((p : Place) × ((if t then only (w (Head ∷ [])) else row_in ds (λ p. only (w (Tail ∷ p))) out z) ≡ only (w p)) × ((if t then only (w (Head ∷ [])) else control_in ds (λ p. only (w (Tail ∷ p))) z) ≡ only (w p)) × (at_name (d ∷ ds) p ≡ z))
    by true e r = inr (Head ∷ [], refl, refl, same_name d.name z e)
    by false e (inl r) = inl r
    by false e (inr r) = inr (Tail ∷ r.0, r.1, r.2, r.3)

-- the name under which something is given at a place
abbrev pub name_of : Node → Place → List ℕ
name_of n (Controls ∷ p) = at_name (controls_of n.contract) p
name_of n (Inputs ∷ p) = at_name n.inputs p
name_of n p = []

-- A name is given as a controllable variable, as an input, or not at all.
abbrev pub Shape : Node → List ℕ → Type 0
Shape n z =
    ((given_in n z ≡ none) × (control_in (controls_of n.contract) (below Controls only) z ≡ none))
    ⊎ (((p : Place) × (given_in n z ≡ only (Controls ∷ p)) × (control_in (controls_of n.contract) (below Controls only) z ≡ only (Controls ∷ p)) × (name_of n (Controls ∷ p) ≡ z))
    ⊎ ((p : Place) × (given_in n z ≡ only (Inputs ∷ p)) × (control_in (controls_of n.contract) (below Controls only) z ≡ none) × (name_of n (Inputs ∷ p) ≡ z)))

pub shape : (n : Node) (z : List ℕ) → Shape n z
shape n z = by (in_row (controls_of n.contract) (λ p. Controls ∷ p) (input_in n only) z) (in_row n.inputs (λ p. Inputs ∷ p) (λ y. none) z)
  where
    by : InRow (controls_of n.contract) (λ p. Controls ∷ p) (input_in n only) z → InRow n.inputs (λ p. Inputs ∷ p) (λ y. none) z → Shape n z
    by (inl r) (inl q) = inl (r.0 ∙ q.0, r.1)
    by (inl r) (inr q) = inr (inr (q.0, r.0 ∙ q.1, r.1, q.3))
    by (inr r) q = inr (inl r)

-- the place that alone is read
abbrev pub place_in : Sources → Place
place_in (only p) = p
place_in s = []

pub is_named : (n : Node) (z : List ℕ) (q : Place) → given_in n z ≡ only q → name_of n q ≡ z
is_named n z q at = by (shape n z)
  where
    by : Shape n z → name_of n q ≡ z
    by (inl r) = let e : none ≡ only q = sym r.0 ∙ at in absurd cc
    by (inr (inl r)) = let e : only q ≡ only (Controls ∷ r.0) = sym at ∙ r.1 in ap (name_of n) (ap place_in e) ∙ r.3
    by (inr (inr r)) = let e : only q ≡ only (Inputs ∷ r.0) = sym at ∙ r.1 in ap (name_of n) (ap place_in e) ∙ r.3

-- ---- what is given stands somewhere

row_declared : (ds : List Decl) (w : Place → Place) (out : NameSources) (z : List ℕ) → declares ds z ≡ true → (p : Place) × (row_in ds (λ p. only (w p)) out z ≡ only (w p))
row_declared [] w out z h = absurd cc
row_declared (d ∷ ds) w out z h = by (bytes_eq d.name z) h (λ g. row_declared ds (λ p. w (Tail ∷ p)) out z g)
  where
    by : (t : Bool) → (t || declares ds z) ≡ true → (declares ds z ≡ true → (p : Place) × (row_in ds (λ p. only (w (Tail ∷ p))) out z ≡ only (w (Tail ∷ p))))
        → (p : Place) × ((if t then only (w (Head ∷ [])) else row_in ds (λ p. only (w (Tail ∷ p))) out z) ≡ only (w p))
    by true g rest = (Head ∷ [], refl)
    by false g rest = let r = rest g in (Tail ∷ r.0, r.1)

pub stands_somewhere : (n : Node) (z : List ℕ) → IsGiven n z → (q : Place) × (given_in n z ≡ only q)
stands_somewhere n z g = by (declares (controls_of n.contract) z) refl
  where
    either : (a b : Bool) → (a || b) ≡ true → b ≡ false → a ≡ true
    either true b h e = refl
    either false true h e = absurd cc
    either false false h e = absurd cc

    inner : declares n.inputs z ≡ true → InRow (controls_of n.contract) (λ p. Controls ∷ p) (input_in n only) z → (q : Place) × (given_in n z ≡ only q)
    inner h (inl r) = let i = row_declared n.inputs (λ p. Inputs ∷ p) (λ y. none) z h in (Inputs ∷ i.0, r.0 ∙ i.1)
    inner h (inr r) = (Controls ∷ r.0, r.1)

    by : (t : Bool) → declares (controls_of n.contract) z ≡ t → (q : Place) × (given_in n z ≡ only q)
    by true e = let c = row_declared (controls_of n.contract) (λ p. Controls ∷ p) (input_in n only) z e in (Controls ∷ c.0, c.1)
    by false e = inner (either (declares n.inputs z) (declares (controls_of n.contract) z) g e) (in_row (controls_of n.contract) (λ p. Controls ∷ p) (input_in n only) z)
