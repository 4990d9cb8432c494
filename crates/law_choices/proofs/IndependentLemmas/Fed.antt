-- A node in which something that is given is defined by a name of the body, `x = y`: what its places read.
-- Its contract keeps the controllable variables alone.
use Rattle.std.proofs.Common.{◌≡◌, ℕ, Bool, true, false, ◌||◌, ◌&&◌, List, [], ◌∷◌, inl, inr, refl, sym, ap, ◌∙◌, subst}
use Rattle.std.specs.Prelude.{◌⊎◌, if◌then◌else◌, Option, None, Some, option_map}
use Rattle.std.proofs.Math.Path.{fun_ext}
use Rattle.std.specs.Str.{bytes_eq}
use Rattle.hp_tree.specs.Blocks.{Decl, block, Eqns, no_eqn}
use Rattle.hp_tree.specs.Programs.{Contract, Node}
use Rattle.hp_tree.specs.Instant.{Inputs, Controls, Body, Observer, Assume, Enforce, Named, Equations, Place}
use Rattle.hp_tree.specs.Meaning.{declares, some_defines, clock_in, controls_of}
use Rattle.hp_meaning.specs.Causal.Sources.{Sources, none, only, both, also, NameSources, PlaceSources, IsRead, below, at_block}
use Rattle.hp_meaning.specs.Causal.WhatIsRead.{names_in, control_in, output_in, of_definitions, in_equations, in_contract}
use Rattle.hp_meaning.specs.Causal.Causality.{sources, Reads}
use Rattle.hp_meaning.specs.Causal.InputDependence.{sources_with_inputs}
use Rattle.hp_meaning.specs.Causal.RanksOfPoints.{same_place}
use Rattle.hp_meaning.proofs.CausalLemmas.Ranking.{place_same, same_place_refl}
use Rattle.law_choices.specs.Independent.Dependence.{given_in}
use Rattle.law_choices.proofs.IndependentLemmas.Moved.{moved, mn, mk, move_in_block, reads_moved, moved_reads}
use Rattle.law_choices.proofs.IndependentLemmas.Feeding.{with_eqn, feed, defines_with, is_new, Agree, definitions_stay, new_definition, places_stay, new_reads, none_behind, none_defined}
use Rattle.law_choices.proofs.IndependentLemmas.Ours.{with_body}
use Rattle.law_choices.proofs.IndependentLemmas.Given.{same_name, name_itself, name_of, Shape, shape, place_in, is_named}

-- a contract that says nothing
abbrev pub bare : Contract → Contract
bare c = record c { body = block [] no_eqn; assume = None; enforce = None }

pub controls_bare : (c : Option Contract) → controls_of (option_map bare c) ≡ controls_of c
controls_bare None = refl
controls_bare (Some c) = refl

pub nothing_read : (c : Option Contract) (names : NameSources) (p : Place) → in_contract (option_map bare c) names only p ≡ none
nothing_read None names p = refl
nothing_read (Some c) names (Observer ∷ Named z ∷ []) = refl
nothing_read (Some c) names (Observer ∷ Equations ∷ p) = refl
nothing_read (Some c) names (Observer ∷ p) = refl
nothing_read (Some c) names (Assume ∷ p) = refl
nothing_read (Some c) names (Enforce ∷ p) = refl
nothing_read (Some c) names p = refl

-- the node that is fed
abbrev pub fed : Node → List Decl → Eqns → List ℕ → List ℕ → Node
fed n ds es x y = record n { contract = option_map bare n.contract; body = block ds (with_eqn es (feed n.span x y)) }

-- x is given at a place, and neither an output nor defined in the body, which defines y.
pub record Feeds (n : Node) (ds : List Decl) (es : Eqns) (x y : List ℕ) (px : Place) : Type 0 where
  pub placed : given_in (with_body n ds es) x ≡ only px
  pub undefined : some_defines es x ≡ false
  pub defined : some_defines es y ≡ true
  pub no_output : declares n.outputs x ≡ false
  pub base : clock_in ds x ≡ []

module _ (n : Node) (ds : List Decl) (es : Eqns) (x y : List ℕ) (px : Place) (f : Feeds n ds es x y px) where
  -- the node before, and behind
  abbrev pub N : Node
  N = with_body n ds es

  abbrev pub F : Node
  F = fed n ds es x y

  -- the places of x and y in the body
  abbrev pub X : Place
  X = Body ∷ Named x ∷ []

  abbrev pub Y : Place
  Y = Body ∷ Named y ∷ []

  -- What each place is read as in the fed node: what is given under x as the name of the body; other inputs are not read, nor is what was not there.
  abbrev pub read_as : Place → Sources
  read_as (Inputs ∷ p) = if same_place px (Inputs ∷ p) then only X else none
  read_as (Controls ∷ p) = if same_place px (Controls ∷ p) then only X else only (Controls ∷ p)
  read_as (Body ∷ Named z ∷ []) = if bytes_eq x z then none else only (Body ∷ Named z ∷ [])
  read_as (Body ∷ Equations ∷ p) = if is_new es p then none else only (Body ∷ Equations ∷ p)
  read_as p = only p

  -- a place that stays
  abbrev pub Kept : Place → Type 0
  Kept p = read_as p ≡ only p

  -- ---- names

  apart : (z : List ℕ) (q : Place) → given_in N z ≡ only q → bytes_eq x z ≡ false → same_place px q ≡ false
  apart z q at other = by (same_place px q) refl
    where
      by : (t : Bool) → same_place px q ≡ t → t ≡ false
      by true e =
          let same : x ≡ z = sym (is_named N x px f.placed) ∙ ap (name_of N) (place_same px q e) ∙ is_named N z q at in
          let no : true ≡ false = sym (name_itself x) ∙ ap (bytes_eq x) same ∙ other in
          absurd cc
      by false e = refl

  if_so : {A : Type 0} (t : Bool) (a b : A) → t ≡ true → (if t then a else b) ≡ a
  if_so true a b h = refl
  if_so false a b h = absurd cc

  if_not : {A : Type 0} (t : Bool) (a b : A) → t ≡ false → (if t then a else b) ≡ b
  if_not true a b h = absurd cc
  if_not false a b h = refl

  itself_placed : (q : Place) → px ≡ q → same_place px q ≡ true
  itself_placed q e = subst (λ r. same_place px r ≡ true) e (same_place_refl px)

  pub place_read : read_as px ≡ only X
  place_read = by (shape N x)
    where
      by : Shape N x → read_as px ≡ only X
      by (inl r) = let e : none ≡ only px = sym r.0 ∙ f.placed in absurd cc
      by (inr (inl r)) =
          let e : px ≡ Controls ∷ r.0 = ap place_in (sym f.placed ∙ r.1) in
          ap read_as e ∙ if_so (same_place px (Controls ∷ r.0)) (only X) (only (Controls ∷ r.0)) (itself_placed (Controls ∷ r.0) e)
      by (inr (inr r)) =
          let e : px ≡ Inputs ∷ r.0 = ap place_in (sym f.placed ∙ r.1) in
          ap read_as e ∙ if_so (same_place px (Inputs ∷ r.0)) (only X) none (itself_placed (Inputs ∷ r.0) e)

  -- what is given stands in no body
  pub no_body : (q : Place) → px ≡ Body ∷ q → ⊥
  no_body q e = by (shape N x)
    where
      by : Shape N x → ⊥
      by (inl r) = let e : none ≡ only px = sym r.0 ∙ f.placed in absurd cc
      by (inr (inl r)) = let g : Body ∷ q ≡ Controls ∷ r.0 = sym e ∙ ap place_in (sym f.placed ∙ r.1) in absurd cc
      by (inr (inr r)) = let g : Body ∷ q ≡ Inputs ∷ r.0 = sym e ∙ ap place_in (sym f.placed ∙ r.1) in absurd cc

  abbrev given : NameSources
  given = given_in N

  abbrev controls : NameSources
  controls = control_in (controls_of (option_map bare n.contract)) (below Controls only)

  -- the names that the body of the fed node reads
  abbrev pub names : NameSources
  names = names_in (with_eqn es (feed n.span x y)) controls (below Body only)

  same_controls : (z : List ℕ) → control_in (controls_of n.contract) (below Controls only) z ≡ controls z
  same_controls z = ap (λ cs. control_in cs (below Controls only) z) (sym (controls_bare n.contract))

  other_given : (z : List ℕ) → bytes_eq x z ≡ false → moved read_as (given z) ≡ controls z
  other_given z other = by (shape N z)
    where
      by : Shape N z → moved read_as (given z) ≡ controls z
      by (inl r) = ap (moved read_as) r.0 ∙ sym r.1 ∙ same_controls z
      by (inr (inl r)) =
          ap (moved read_as) r.1 ∙ if_not (same_place px (Controls ∷ r.0)) (only X) (only (Controls ∷ r.0)) (apart z (Controls ∷ r.0) r.1 other) ∙ sym r.2 ∙ same_controls z
      by (inr (inr r)) =
          ap (moved read_as) r.1 ∙ if_not (same_place px (Inputs ∷ r.0)) (only X) none (apart z (Inputs ∷ r.0) r.1 other) ∙ sym r.2 ∙ same_controls z

  not_new : (z : List ℕ) → some_defines es z ≡ true → bytes_eq x z ≡ false
  not_new z h = by (bytes_eq x z) refl
    where
      by : (t : Bool) → bytes_eq x z ≡ t → t ≡ false
      by true e = let no : true ≡ false = sym h ∙ sym (ap (some_defines es) (same_name x z e)) ∙ f.undefined in absurd cc
      by false e = refl

  names_moved : (z : List ℕ) → names_in es (mn read_as given) (mk read_as (below Body only)) z ≡ names z
  names_moved z = by (some_defines es z) (bytes_eq x z) refl refl ∙ ap (λ t. if t then only (Body ∷ Named z ∷ []) else controls z) (sym (defines_with es (feed n.span x y) z))
    where
      by : (t u : Bool) → some_defines es z ≡ t → bytes_eq x z ≡ u → (if t then read_as (Body ∷ Named z ∷ []) else moved read_as (given z)) ≡ (if (t || (u || false)) then only (Body ∷ Named z ∷ []) else controls z)
      by true u h e = if_not (bytes_eq x z) none (only (Body ∷ Named z ∷ [])) (not_new z h)
      by false true h e =
          let same : x ≡ z = same_name x z e in
          subst (λ w. moved read_as (given w) ≡ only (Body ∷ Named w ∷ [])) same (ap (moved read_as) f.placed ∙ place_read)
      by false false h e = other_given z e

  -- ---- what places of the body read

  abbrev pub Old : Place → Type 0
  Old (Named z ∷ []) = bytes_eq x z ≡ false
  Old (Equations ∷ p) = is_new es p ≡ false
  Old p = Unit {0}

  agree : Agree es (below Equations (mk read_as (below Body only))) (below Equations (below Body only))
  agree p old = if_not (is_new es p) none (only (Body ∷ Equations ∷ p)) old

  moved_side : (p : Place) → moved read_as (sources_with_inputs N (Body ∷ p)) ≡ at_block (of_definitions ds es names (below Equations (mk read_as (below Body only)))) (in_equations ds es names (below Equations (mk read_as (below Body only)))) p
  moved_side p =
      ap (λ (h : PlaceSources). h p) (move_in_block read_as (block ds es) given (below Body only))
      ∙ ap (λ (m : NameSources). at_block (of_definitions ds es m (below Equations (mk read_as (below Body only)))) (in_equations ds es m (below Equations (mk read_as (below Body only)))) p) (fun_ext names_moved)

  stays : (p : Place) → Old p → sources F (Body ∷ p) ≡ at_block (of_definitions ds es names (below Equations (mk read_as (below Body only)))) (in_equations ds es names (below Equations (mk read_as (below Body only)))) p
  stays (Named z ∷ []) old = definitions_stay ds n.span x y names es (below Equations (mk read_as (below Body only))) (below Equations (below Body only)) z agree old
  stays (Equations ∷ p) old = places_stay ds n.span x y names es (below Equations (mk read_as (below Body only))) (below Equations (below Body only)) p agree old
  stays p old = refl

  pub body_sources : (p : Place) → Old p → sources F (Body ∷ p) ≡ moved read_as (sources_with_inputs N (Body ∷ p))
  body_sources p old = stays p old ∙ sym (moved_side p)

  -- y is read as its place
  pub y_read : names y ≡ only Y
  y_read = ap (λ t. if t then only Y else controls y) (defines_with es (feed n.span x y) y) ∙ if_so (some_defines es y || (bytes_eq x y || false)) (only Y) (controls y) (ap (λ t. t || (bytes_eq x y || false)) f.defined)

  -- x, and the new equation, read y.
  pub x_reads : sources F X ≡ both (also none) (only Y)
  x_reads = new_definition ds n.span x y names es (below Equations (below Body only)) f.undefined f.base (name_itself x) ∙ ap (both (also none)) y_read

  pub new_place_reads : (p q : Place) → is_new es p ≡ true → Reads F (Body ∷ Equations ∷ p) q → q ≡ Y
  new_place_reads p q at h = subst (IsRead q) y_read (new_reads ds n.span x y names es (below Equations (below Body only)) p q at h)

  pub y_kept : Kept Y
  y_kept = if_not (bytes_eq x y) none (only Y) (not_new y f.defined)

  -- ---- steps

  -- a place is read that is given under x, as the name of the body; or one that stays
  which : (q r : Place) → IsRead q (read_as r) → ((q ≡ X) × (px ≡ r)) ⊎ ((q ≡ r) × Kept r)
  which q (Inputs ∷ p) h = by (same_place px (Inputs ∷ p)) refl h
    where
      by : (t : Bool) → same_place px (Inputs ∷ p) ≡ t → IsRead q (if t then only X else none) → ((q ≡ X) × (px ≡ Inputs ∷ p)) ⊎ ((q ≡ Inputs ∷ p) × Kept (Inputs ∷ p))
      by true e h = inl (h, place_same px (Inputs ∷ p) e)
      by false e h = absurd h
  which q (Controls ∷ p) h = by (same_place px (Controls ∷ p)) refl h
    where
      by : (t : Bool) → same_place px (Controls ∷ p) ≡ t → IsRead q (if t then only X else only (Controls ∷ p)) → ((q ≡ X) × (px ≡ Controls ∷ p)) ⊎ ((q ≡ Controls ∷ p) × Kept (Controls ∷ p))
      by true e h = inl (h, place_same px (Controls ∷ p) e)
      by false e h = inr (h, if_not (same_place px (Controls ∷ p)) (only X) (only (Controls ∷ p)) e)
  which q (Body ∷ Named z ∷ []) h = by (bytes_eq x z) refl h
    where
      by : (t : Bool) → bytes_eq x z ≡ t → IsRead q (if t then none else only (Body ∷ Named z ∷ [])) → ((q ≡ X) × (px ≡ Body ∷ Named z ∷ [])) ⊎ ((q ≡ Body ∷ Named z ∷ []) × Kept (Body ∷ Named z ∷ []))
      by true e h = absurd h
      by false e h = inr (h, if_not (bytes_eq x z) none (only (Body ∷ Named z ∷ [])) e)
  which q (Body ∷ Equations ∷ p) h = by (is_new es p) refl h
    where
      by : (t : Bool) → is_new es p ≡ t → IsRead q (if t then none else only (Body ∷ Equations ∷ p)) → ((q ≡ X) × (px ≡ Body ∷ Equations ∷ p)) ⊎ ((q ≡ Body ∷ Equations ∷ p) × Kept (Body ∷ Equations ∷ p))
      by true e h = absurd h
      by false e h = inr (h, if_not (is_new es p) none (only (Body ∷ Equations ∷ p)) e)
  which q r h = inr (h, refl)

  pub old_of : (p : Place) → Kept (Body ∷ p) → Old p
  old_of (Named z ∷ []) k = by (bytes_eq x z) k
    where
      by : (t : Bool) → (if t then none else only (Body ∷ Named z ∷ [])) ≡ only (Body ∷ Named z ∷ []) → t ≡ false
      by true k = absurd cc
      by false k = refl
  old_of (Equations ∷ p) k = by (is_new es p) k
    where
      by : (t : Bool) → (if t then none else only (Body ∷ Equations ∷ p)) ≡ only (Body ∷ Equations ∷ p) → t ≡ false
      by true k = absurd cc
      by false k = refl
  old_of p k = tt

  -- What a place that stays reads: x, where it read what is given under x, or what it read before.
  abbrev pub Stepped : Place → Place → Type 0
  Stepped p q = ((q ≡ X) × IsRead px (sources_with_inputs N p)) ⊎ (IsRead q (sources_with_inputs N p) × Kept q)

  stepped : (p q : Place) → IsRead q (moved read_as (sources_with_inputs N p)) → Stepped p q
  stepped p q h =
      let r = reads_moved read_as q (sources_with_inputs N p) h in
      by r.0 r.1 (which q r.0 r.2)
    where
      by : (r : Place) → IsRead r (sources_with_inputs N p) → ((q ≡ X) × (px ≡ r)) ⊎ ((q ≡ r) × Kept r) → Stepped p q
      by r h (inl e) = inl (e.0, subst (λ z. IsRead z (sources_with_inputs N p)) (sym e.1) h)
      by r h (inr e) = inr (subst (λ z. IsRead z (sources_with_inputs N p)) (sym e.0) h, subst Kept (sym e.0) e.1)

  output_step : (z : List ℕ) (q : Place) → Reads F (Named z ∷ []) q → Stepped (Named z ∷ []) q
  output_step z q h = by (declares n.outputs z) (bytes_eq x z) refl refl h
    where
      at : Place
      at = Body ∷ Named z ∷ []

      then_kept : (s : Bool) → bytes_eq x z ≡ false → IsRead q (if s then only at else none) → IsRead q (if s then only at else none) × Kept q
      then_kept true e h = (h, subst Kept (sym h) (if_not (bytes_eq x z) none (only at) e))
      then_kept false e h = absurd h

      same : bytes_eq x z ≡ false → some_defines (with_eqn es (feed n.span x y)) z ≡ some_defines es z
      same e = defines_with es (feed n.span x y) z ∙ ap (λ u. some_defines es z || (u || false)) e ∙ no_more (some_defines es z)
        where
          no_more : (t : Bool) → (t || (false || false)) ≡ t
          no_more true = refl
          no_more false = refl

      by : (t u : Bool) → declares n.outputs z ≡ t → bytes_eq x z ≡ u → IsRead q (if t && some_defines (with_eqn es (feed n.span x y)) z then only at else none)
          → ((q ≡ X) × IsRead px (if t && some_defines es z then only at else none)) ⊎ (IsRead q (if t && some_defines es z then only at else none) × Kept q)
      by false u d e h = absurd h
      by true true d e h = let no : true ≡ false = sym d ∙ sym (ap (declares n.outputs) (same_name x z e)) ∙ f.no_output in absurd cc
      by true false d e h = inr (then_kept (some_defines es z) e (subst (λ s. IsRead q (if s then only at else none)) (same e) h))

  pub step : (p q : Place) → Kept p → Reads F p q → Stepped p q
  step (Named z ∷ []) q k h = output_step z q h
  step (Body ∷ p) q k h = stepped (Body ∷ p) q (subst (IsRead q) (body_sources p (old_of p k)) h)
  step p q k h = absurd (subst (IsRead q) (nothing_read n.contract (output_in F (below Body only)) p) h)

  -- Every place stays, or reads y alone.
  pub kept_or : (p : Place) → Kept p ⊎ ((q : Place) → Reads F p q → q ≡ Y)
  kept_or (Inputs ∷ p) = inr (λ q h. absurd (subst (IsRead q) (nothing_read n.contract (output_in F (below Body only)) (Inputs ∷ p)) h))
  kept_or (Controls ∷ p) = inr (λ q h. absurd (subst (IsRead q) (nothing_read n.contract (output_in F (below Body only)) (Controls ∷ p)) h))
  kept_or (Body ∷ Named z ∷ []) = by (bytes_eq x z) refl
    where
      reads_y : (q : Place) → IsRead q (both (also none) (only Y)) → q ≡ Y
      reads_y q (inl h) = absurd h
      reads_y q (inr h) = h

      by : (t : Bool) → bytes_eq x z ≡ t → Kept (Body ∷ Named z ∷ []) ⊎ ((q : Place) → Reads F (Body ∷ Named z ∷ []) q → q ≡ Y)
      by true e = inr (λ q h. reads_y q (subst (IsRead q) x_reads (subst (λ w. Reads F (Body ∷ Named w ∷ []) q) (sym (same_name x z e)) h)))
      by false e = inl (if_not (bytes_eq x z) none (only (Body ∷ Named z ∷ [])) e)
  kept_or (Body ∷ Equations ∷ p) = by (is_new es p) refl
    where
      by : (t : Bool) → is_new es p ≡ t → Kept (Body ∷ Equations ∷ p) ⊎ ((q : Place) → Reads F (Body ∷ Equations ∷ p) q → q ≡ Y)
      by true e = inr (λ q h. new_place_reads p q e h)
      by false e = inl (if_not (is_new es p) none (only (Body ∷ Equations ∷ p)) e)
  kept_or p = inl refl

  pub x_goes : Kept X → ⊥
  x_goes k = let no : none ≡ only X = sym (if_so (bytes_eq x x) none (only X) (name_itself x)) ∙ k in absurd cc

  pub no_input : (q : Place) → Kept q → (r : Place) → q ≡ Inputs ∷ r → ⊥
  no_input q k r e = by (same_place px (Inputs ∷ r)) (subst Kept e k)
    where
      by : (t : Bool) → (if t then only X else none) ≡ only (Inputs ∷ r) → ⊥
      by true h = absurd cc
      by false h = absurd cc

  -- ---- back

  -- What was read is read, and where what is given under x was read, x is.
  pub reads_still : (p q : Place) → Kept (Body ∷ p) → IsRead q (sources_with_inputs N (Body ∷ p)) → Kept q → Reads F (Body ∷ p) q
  reads_still p q k h g =
      subst (IsRead q) (sym (body_sources p (old_of p k))) (moved_reads read_as q q (sources_with_inputs N (Body ∷ p)) h (subst (IsRead q) (sym g) refl))

  pub reads_x : (p : Place) → Kept (Body ∷ p) → IsRead px (sources_with_inputs N (Body ∷ p)) → Reads F (Body ∷ p) X
  reads_x p k h =
      subst (IsRead X) (sym (body_sources p (old_of p k))) (moved_reads read_as X px (sources_with_inputs N (Body ∷ p)) h (subst (IsRead X) (sym place_read) refl))

  -- a place of the body stays, or reads nothing
  pub kept_or_none : (p : Place) → Kept (Body ∷ p) ⊎ (sources_with_inputs N (Body ∷ p) ≡ none)
  kept_or_none (Named z ∷ []) = by (bytes_eq x z) refl
    where
      by : (t : Bool) → bytes_eq x z ≡ t → Kept (Body ∷ Named z ∷ []) ⊎ (sources_with_inputs N (Body ∷ Named z ∷ []) ≡ none)
      by true e = inr (none_defined ds n.span x y (names_in es given (below Body only)) es (below Equations (below Body only)) z (ap (some_defines es) (sym (same_name x z e)) ∙ f.undefined))
      by false e = inl (if_not (bytes_eq x z) none (only (Body ∷ Named z ∷ [])) e)
  kept_or_none (Equations ∷ p) = by (is_new es p) refl
    where
      by : (t : Bool) → is_new es p ≡ t → Kept (Body ∷ Equations ∷ p) ⊎ (sources_with_inputs N (Body ∷ Equations ∷ p) ≡ none)
      by true e = inr (none_behind ds n.span x y (names_in es given (below Body only)) es (below Equations (below Body only)) p e)
      by false e = inl (if_not (is_new es p) none (only (Body ∷ Equations ∷ p)) e)
  kept_or_none p = inl refl
