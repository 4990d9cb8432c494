-- Places of the outermost block depend on what is given, on names of the body, and on such places; and removing automata leaves them as they are.
use Rattle.std.proofs.Common.{◌≡◌, ℕ, Bool, true, false, if◌then◌else◌, List, [], ◌∷◌, inl, inr, refl, sym, ap, ap₂, ◌∙◌, subst}
use Rattle.std.specs.Prelude.{Option, None, Some, option_map}
use Rattle.std.proofs.Math.Path.{fun_ext}
use Rattle.std.proofs.lemmas.List.{append-nil}
use Rattle.hp_base.specs.declared.span.Span.{Span}
use Rattle.hp_tree.specs.Expressions.{Expr}
use Rattle.hp_tree.specs.Blocks.{Decl, block, Eqns, more_eqns, Eqn, define, switch, reset, eqns_of}
use Rattle.hp_tree.specs.Programs.{Node}
use Rattle.hp_tree.specs.Instant.{Inputs, Controls, Body, Named, Equations, Head, Tail, Right, Test, Place, Clock}
use Rattle.hp_tree.specs.Meaning.{some_defines, clock_of}
use Rattle.hp_meaning.specs.Causal.Sources.{Sources, none, only, NameSources, PlaceSources, IsSource, below}
use Rattle.hp_meaning.specs.Causal.WhatIsRead.{names_in, at_expr, in_equations, in_equation}
use Rattle.hp_meaning.specs.Causal.InputDependence.{sources_with_inputs}
use Rattle.hp_automata.specs.Lowering.{Enumerations, Types, declaring, same_name, lowered_eqn, lowered_eqns, lowered_node, types_of}
use Rattle.hp_automata.specs.Renaming.{renamed_left, renamed_path}
use Rattle.law_automata.specs.Lowered.Removable.{none_known, BlockOk}
use Rattle.law_automata.proofs.LoweredLemmas.Lookups.{eqns_old, eqns_sound}
use Rattle.law_automata.proofs.LoweredLemmas.Nodes.{itself, itself_renames}
use Rattle.law_choices.specs.Independent.Dependence.{given_in}
use Rattle.law_choices.specs.Depending.Places.{in_own_equation, in_own_equations}
use Rattle.law_choices.proofs.IndependentLemmas.AutomataLaw.{same_defined, same_given}
use Rattle.law_choices.proofs.IndependentLemmas.FedLowered.{made, low_locals, low_eqns}
use Rattle.law_choices.proofs.IndependentLemmas.Given.{Shape, shape}
use Rattle.law_choices.proofs.IndependentLemmas.Moved.{moved, mn, move_expr}
use Rattle.law_choices.proofs.IndependentLemmas.Ours.{with_body}
use Rattle.law_choices.proofs.DependingLemmas.Sourced.{sources_moved}

-- ---- what they depend on

module _ (n : Node) (ds : List Decl) (es : Eqns) where
  abbrev N : Node
  N = with_body n ds es

  abbrev names : NameSources
  names = names_in es (given_in N) (below Body only)

  -- what is given, a name that the body defines, or a place of the outermost block
  abbrev pub IsNear : Place → Type 0
  IsNear (Body ∷ Named y ∷ []) = some_defines es y ≡ true
  IsNear (Body ∷ Equations ∷ r) = in_own_equations es r ≡ true
  IsNear (Body ∷ r) = ⊥
  IsNear (Inputs ∷ r) = Unit {0}
  IsNear (Controls ∷ r) = Unit {0}
  IsNear r = ⊥

  -- all others are left out
  abbrev pub near : Place → Sources
  near (Body ∷ Named y ∷ []) = if some_defines es y then only (Body ∷ Named y ∷ []) else none
  near (Body ∷ Equations ∷ r) = if in_own_equations es r then only (Body ∷ Equations ∷ r) else none
  near (Body ∷ r) = none
  near (Inputs ∷ r) = only (Inputs ∷ r)
  near (Controls ∷ r) = only (Controls ∷ r)
  near r = none

  pub is_near : (q r : Place) → IsSource q (near r) → IsNear q
  is_near q (Body ∷ Named y ∷ []) h = by (some_defines es y) refl h
    where
      by : (t : Bool) → some_defines es y ≡ t → IsSource q (if t then only (Body ∷ Named y ∷ []) else none) → IsNear q
      by true e h = subst IsNear (sym h) e
      by false e h = absurd h
  is_near q (Body ∷ Equations ∷ r) h = by (in_own_equations es r) refl h
    where
      by : (t : Bool) → in_own_equations es r ≡ t → IsSource q (if t then only (Body ∷ Equations ∷ r) else none) → IsNear q
      by true e h = subst IsNear (sym h) e
      by false e h = absurd h
  is_near q (Inputs ∷ r) h = subst IsNear (sym h) tt
  is_near q (Controls ∷ r) h = subst IsNear (sym h) tt
  is_near q r h = absurd h

  pub names_near : (z : List ℕ) → mn near names z ≡ names z
  names_near z = by (some_defines es z) refl
    where
      given_near : Shape N z → moved near (given_in N z) ≡ given_in N z
      given_near (inl r) = ap (moved near) r.0 ∙ sym r.0
      given_near (inr (inl r)) = ap (moved near) r.1 ∙ sym r.1
      given_near (inr (inr r)) = ap (moved near) r.1 ∙ sym r.1

      by : (t : Bool) → some_defines es z ≡ t → moved near (if t then only (Body ∷ Named z ∷ []) else given_in N z) ≡ (if t then only (Body ∷ Named z ∷ []) else given_in N z)
      by true e = ap (λ t. if t then only (Body ∷ Named z ∷ []) else none) e
      by false e = given_near (shape N z)

  -- places of a part are kept
  abbrev Kept : (Place → Bool) → PlaceSources → Type 0
  Kept there k = (q : Place) → there q ≡ true → moved near (k q) ≡ k q

  expression_near : (e : Expr) (clock : Clock) (k : PlaceSources) → ((q : Place) → moved near (k q) ≡ k q) → (p : Place) → moved near (at_expr e clock names k p) ≡ at_expr e clock names k p
  expression_near e clock k h p =
      ap (λ (f : PlaceSources). f p) (move_expr near e clock names k) ∙ ap₂ (λ (m : NameSources) (l : PlaceSources). at_expr e clock m l p) (fun_ext names_near) (fun_ext h)

  equation_near : (e : Eqn) (k : PlaceSources) (p : Place) → in_own_equation e p ≡ true → Kept (in_own_equation e) k → moved near (in_equation ds e names k p) ≡ in_equation ds e names k p
  equation_near (define s ys e) k (Right ∷ p) o h = expression_near e (clock_of ds ys e) (below Right k) (λ q. h (Right ∷ q) refl) p
  equation_near (switch s e arms) k (Test ∷ p) o h = expression_near e [] (below Test k) (λ q. h (Test ∷ q) refl) p
  equation_near (reset s b e) k (Test ∷ p) o h = expression_near e [] (below Test k) (λ q. h (Test ∷ q) refl) p
  equation_near e k p o h = absurd cc

  equations_near : (rest : Eqns) (k : PlaceSources) (p : Place) → in_own_equations rest p ≡ true → Kept (in_own_equations rest) k → moved near (in_equations ds rest names k p) ≡ in_equations ds rest names k p
  equations_near (more_eqns e rest) k (Head ∷ p) o h = equation_near e (below Head k) p o (λ q. h (Head ∷ q))
  equations_near (more_eqns e rest) k (Tail ∷ p) o h = equations_near rest (below Tail k) p o (λ q. h (Tail ∷ q))
  equations_near rest k p o h = absurd cc

  pub sources_near : (p q : Place) → in_own_equations es p ≡ true → IsSource q (sources_with_inputs N (Body ∷ Equations ∷ p)) → IsNear q
  sources_near p q o h =
      let same = equations_near es (below Equations (below Body only)) p o (λ r e. ap (λ t. if t then only (Body ∷ Equations ∷ r) else none) e) in
      let r = sources_moved near q (sources_with_inputs N (Body ∷ Equations ∷ p)) (subst (IsSource q) (sym same) h) in
      is_near q r.0 r.2

-- ---- without automata they stand as they were

path_itself : (path : List _) → renamed_path same_name path ≡ path
path_itself [] = refl
path_itself (on ∷ path) = ap (λ p. on ∷ p) (path_itself path)

option_itself : (v : Option (List _)) → option_map (renamed_path same_name) v ≡ v
option_itself None = refl
option_itself (Some path) = ap Some (path_itself path)

left_itself : (ys : List (List ℕ × Span)) → renamed_left same_name ys ≡ ys
left_itself [] = refl
left_itself (y ∷ ys) = ap (λ zs. y ∷ zs) (left_itself ys)

module _ (enums : Enumerations) (n : Node) (ds : List Decl) (es : Eqns) (ok : BlockOk none_known 0 (block ds es)) where
  abbrev M : Node
  M = lowered_node enums (with_body n ds es)

  abbrev names_before : NameSources
  names_before = names_in es (given_in (with_body n ds es)) (below Body only)

  -- the same names are defined
  pub defined_same : (z : List ℕ) → some_defines (low_eqns enums n ds es) z ≡ some_defines es z
  defined_same z = by (some_defines es z) refl
    where
      sound : some_defines (low_eqns enums n ds es) z ≡ true → some_defines es z ≡ true
      sound h =
          let bare = ap (λ l. some_defines (eqns_of l) z) (append-nil (lowered_eqns enums same_name (declaring (types_of n) ds) 0 es)) in
          let stood = eqns_sound enums itself_renames (declaring (types_of n) ds) es ok.1 z (sym bare ∙ h) in
          subst (λ w. some_defines es w ≡ true) (sym stood.is) stood.own

      none_more : (t : Bool) → some_defines (low_eqns enums n ds es) z ≡ t → some_defines es z ≡ false → t ≡ false
      none_more true h e = let no : true ≡ false = sym (sound h) ∙ e in absurd cc
      none_more false h e = refl

      by : (t : Bool) → some_defines es z ≡ t → some_defines (low_eqns enums n ds es) z ≡ some_defines es z
      by true e = same_defined enums n ds es ok z (eqns_old none_known 0 es ok.1 z e)
      by false e = none_more (some_defines (low_eqns enums n ds es) z) refl e ∙ sym e

  locals_same : (ds : List Decl) → low_locals enums ds ≡ ds
  locals_same [] = refl
  locals_same (d ∷ ds) = ap₂ (λ (c : Decl) (cs : List Decl). c ∷ cs) (λ i. record d { clock = option_itself d.clock i }) (locals_same ds)

  equation_same : (types : Types) (e : Eqn) (k : PlaceSources) (p : Place) → in_own_equation e p ≡ true → in_equation ds (lowered_eqn enums same_name types 0 e) names_before k p ≡ in_equation ds e names_before k p
  equation_same types (define s ys e) k (Right ∷ p) o = ap₂ (λ (zs : List (List ℕ × Span)) (f : Expr). at_expr f (clock_of ds zs f) names_before (below Right k) p) (left_itself ys) (itself e)
  equation_same types (switch s e arms) k (Test ∷ p) o = ap (λ (f : Expr). at_expr f [] names_before (below Test k) p) (itself e)
  equation_same types (reset s b e) k (Test ∷ p) o = ap (λ (f : Expr). at_expr f [] names_before (below Test k) p) (itself e)
  equation_same types e k p o = absurd cc

  equations_same : (types : Types) (rest : Eqns) (k : PlaceSources) (p : Place) → in_own_equations rest p ≡ true → in_equations ds (made enums types rest) names_before k p ≡ in_equations ds rest names_before k p
  equations_same types (more_eqns e rest) k (Head ∷ p) o = equation_same types e (below Head k) p o
  equations_same types (more_eqns e rest) k (Tail ∷ p) o = equations_same types rest (below Tail k) p o
  equations_same types rest k p o = absurd cc

  names_same : (z : List ℕ) → names_in (low_eqns enums n ds es) (given_in M) (below Body only) z ≡ names_before z
  names_same z = ap₂ (λ (t : Bool) (g : Sources). if t then only (Body ∷ Named z ∷ []) else g) (defined_same z) (same_given enums (with_body n ds es) z)

  -- what they depend on, over the names of the body before
  pub low_sources : (p : Place) → sources_with_inputs M (Body ∷ Equations ∷ p) ≡ in_equations ds (low_eqns enums n ds es) names_before (below Equations (below Body only)) p
  low_sources p = ap₂ (λ (l : List Decl) (m : NameSources). in_equations l (low_eqns enums n ds es) m (below Equations (below Body only)) p) (locals_same ds) (fun_ext names_same)

  pub sources_same : (p : Place) → in_own_equations es p ≡ true → sources_with_inputs M (Body ∷ Equations ∷ p) ≡ sources_with_inputs (with_body n ds es) (Body ∷ Equations ∷ p)
  sources_same p o = low_sources p ∙ equations_same (declaring (types_of n) ds) es (below Equations (below Body only)) p o
