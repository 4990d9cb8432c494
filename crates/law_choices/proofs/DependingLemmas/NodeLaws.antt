-- No chain leads from a name of the body to something that is given, where the node that is fed with it has ranks.
use Rattle.std.proofs.Common.{◌≡◌, ℕ, zero, suc, ◌<◌, ◌≤◌, Bool, true, false, if◌then◌else◌, List, [], ◌∷◌, refl, sym, ap, ◌∙◌, subst, arith}
use Rattle.std.specs.Prelude.{None, Some}
use Rattle.std.specs.Str.{bytes_eq}
use Rattle.hp_base.specs.declared.value.Value.{Value}
use Rattle.hp_tree.specs.Blocks.{Decl, block, Eqns, no_eqn, more_eqns}
use Rattle.hp_tree.specs.Programs.{TypeDecl, Node}
use Rattle.hp_tree.specs.Instant.{Inputs, Controls, Body as BodyOf, Named, Equations, Tail, Place}
use Rattle.hp_tree.specs.Meaning.{some_defines}
use Rattle.hp_meaning.specs.Causal.Sources.{Sources, none, only, both, also, Within}
use Rattle.hp_meaning.specs.Causal.Causality.{Ranked}
use Rattle.hp_meaning.specs.Causal.Clocked.{ClocksRight}
use Rattle.hp_meaning.specs.Causal.InputDependence.{sources_with_inputs}
use Rattle.hp_meaning.specs.Causal.RanksOfPoints.{same_place}
use Rattle.hp_meaning.proofs.CausalLemmas.Ranking.{same_place_refl}
use Rattle.law_equations.specs.Flattened.Flatten.{FlatName, At, Nowhere, When, always, Prefix, Scope, lasts_at, node_scope, inside_at, flat_scope, flat_defined, flat_equations}
use Rattle.law_choices.proofs.IndependentLemmas.Moved.{moved}
use Rattle.law_choices.proofs.IndependentLemmas.Feeding.{is_new}
use Rattle.law_choices.proofs.IndependentLemmas.Given.{same_name}
use Rattle.law_choices.proofs.IndependentLemmas.Ours.{with_body, ours, same_ours}
use Rattle.law_choices.proofs.IndependentLemmas.Fed.{Feeds, fed}
use Rattle.law_choices.proofs.IndependentLemmas.Fed as parts
use Rattle.law_choices.proofs.DependingLemmas.Names.{NameEnds, PlaceEnds, no_rows}
use Rattle.law_choices.proofs.DependingLemmas.BodyLaws.{place_ends}

module _ (types : List TypeDecl) (outputs : List ℕ → List (List ℕ)) (fill : Place → Value) where
  -- there are no rows behind those of the equations
  none_behind : (ds : List Decl) (es : Eqns) (sc lsc : Scope) (here : Prefix) (ck : When) (rs : List Place) (p : Place) → is_new es p ≡ true → flat_equations types outputs fill ds es sc lsc here ck rs p ≡ None
  none_behind ds no_eqn sc lsc here ck rs p at = refl
  none_behind ds (more_eqns e es) sc lsc here ck rs (Tail ∷ p) at = none_behind ds es sc lsc (λ q. here (Tail ∷ q)) ck rs p at
  none_behind ds (more_eqns e es) sc lsc here ck rs p at = absurd cc

  module _ (n : Node) (ds : List Decl) (es : Eqns) (x y : List ℕ) (px : Place) (f : Feeds n ds es x y px) (right : ClocksRight (with_body n ds es)) (ranked : Ranked (fed n ds es x y)) where
    abbrev N : Node
    N = with_body n ds es

    abbrev loops : List ℕ → Bool
    loops z = bytes_eq x z

    abbrev away : Place → Type 0
    away p = px ≡ p → ⊥

    abbrev Ending : FlatName → Type 0
    Ending a = NameEnds types outputs fill N loops away a

    abbrev EndingPlace : Place → Type 0
    EndingPlace p = PlaceEnds types outputs fill N loops away p

    abbrev in_body : Prefix
    in_body q = BodyOf ∷ q

    abbrev node_lasts : Scope
    node_lasts = lasts_at types n.outputs (λ z. Nowhere) in_body always []

    -- ---- by ranks of the fed node, below that of x

    abbrev Kept : Place → Type 0
    Kept p = parts.Kept n ds es x y px f p

    abbrev X : Place
    X = BodyOf ∷ Named x ∷ []

    abbrev Y : Place
    Y = BodyOf ∷ Named y ∷ []

    apart : (q : Place) → same_place px q ≡ false → away q
    apart q e g = let no : true ≡ false = sym (subst (λ r. same_place px r ≡ true) g (same_place_refl px)) ∙ e in absurd cc

    undefined_none : (z : List ℕ) → some_defines es z ≡ false → flat_scope types outputs fill (block ds es) (node_scope N) node_lasts in_body always [] (Named z ∷ []) ≡ None
    undefined_none z e =
        ap (λ d. if d then Some (flat_defined types outputs fill ds es (inside_at es (node_scope N) in_body) (lasts_at types ds node_lasts in_body always []) (λ p. BodyOf ∷ Equations ∷ p) always [] z) else None) e

    -- the places of the body with less rank end
    abbrev Done : ℕ → Type 0
    Done m = (q : Place) → Kept (BodyOf ∷ q) → ranked.rank (BodyOf ∷ q) < m → Ending (At (BodyOf ∷ q))

    sources_end : (m : ℕ) → m ≤ ranked.rank X → Done m → (s : Sources) → Within (λ q. ranked.rank q < m) (moved (parts.read_as n ds es x y px f) s) → Within EndingPlace (moved (ours n ds es) s)
    sources_end m le done none h = tt
    sources_end m le done (only (Inputs ∷ r)) h = by (same_place px (Inputs ∷ r)) refl h
      where
        by : (t : Bool) → same_place px (Inputs ∷ r) ≡ t → Within (λ q. ranked.rank q < m) (if t then only X else none) → EndingPlace (Inputs ∷ r)
        by true e g = absurd (omega (arith, le, g))
        by false e g = (no_rows types outputs fill N loops away (At (Inputs ∷ r)) refl, apart (Inputs ∷ r) e)
    sources_end m le done (only (Controls ∷ r)) h = by (same_place px (Controls ∷ r)) refl h
      where
        by : (t : Bool) → same_place px (Controls ∷ r) ≡ t → Within (λ q. ranked.rank q < m) (if t then only X else only (Controls ∷ r)) → EndingPlace (Controls ∷ r)
        by true e g = absurd (omega (arith, le, g))
        by false e g = (no_rows types outputs fill N loops away (At (Controls ∷ r)) refl, apart (Controls ∷ r) e)
    sources_end m le done (only (BodyOf ∷ Named z ∷ [])) h = by (bytes_eq x z) refl h
      where
        at : Place
        at = BodyOf ∷ Named z ∷ []

        by : (t : Bool) → bytes_eq x z ≡ t → Within (λ q. ranked.rank q < m) (if t then none else only (BodyOf ∷ Named z ∷ [])) → EndingPlace (BodyOf ∷ Named z ∷ [])
        by true e g =
            (no_rows types outputs fill N loops away (At (BodyOf ∷ Named z ∷ [])) (undefined_none z (ap (some_defines es) (sym (same_name x z e)) ∙ f.undefined)), parts.no_body n ds es x y px f (Named z ∷ []))
        by false e g = (done (Named z ∷ []) (ap (λ t. if t then none else only (BodyOf ∷ Named z ∷ [])) e) g, parts.no_body n ds es x y px f (Named z ∷ []))
    sources_end m le done (only (BodyOf ∷ Equations ∷ r)) h = by (is_new es r) refl h
      where
        by : (t : Bool) → is_new es r ≡ t → Within (λ q. ranked.rank q < m) (if t then none else only (BodyOf ∷ Equations ∷ r)) → EndingPlace (BodyOf ∷ Equations ∷ r)
        by true e g = (
          no_rows types outputs fill N loops away (At (BodyOf ∷ Equations ∷ r))
              (none_behind ds es (inside_at es (node_scope N) in_body) (lasts_at types ds node_lasts in_body always []) (λ p. BodyOf ∷ Equations ∷ p) always [] r e),
          parts.no_body n ds es x y px f (Equations ∷ r),
        )
        by false e g = (done (Equations ∷ r) (ap (λ t. if t then none else only (BodyOf ∷ Equations ∷ r)) e) g, parts.no_body n ds es x y px f (Equations ∷ r))
    sources_end m le done (only (BodyOf ∷ r)) h = (done r refl h, parts.no_body n ds es x y px f r)
    sources_end m le done (only r) h = tt
    sources_end m le done (both s t) h = (sources_end m le done s h.0, sources_end m le done t h.1)
    sources_end m le done (also s) h = sources_end m le done s h

    ranked_end : (bound : ℕ) (p : Place) → Kept (BodyOf ∷ p) → ranked.rank (BodyOf ∷ p) < bound → ranked.rank (BodyOf ∷ p) ≤ ranked.rank X → Ending (At (BodyOf ∷ p))
    ranked_end zero p k lt le = absurd (omega (arith, lt))
    ranked_end (suc bound) p k lt le =
        let m = ranked.rank (BodyOf ∷ p) in
        let falls : Within (λ q. ranked.rank q < m) (moved (parts.read_as n ds es x y px f) (sources_with_inputs N (BodyOf ∷ p))) =
        subst (Within (λ q. ranked.rank q < m)) (parts.body_sources n ds es x y px f p (parts.old_of n ds es x y px f p k)) (ranked.falls (BodyOf ∷ p)) in
        let done : Done m = λ q g l. ranked_end bound q g (omega (arith, l, lt)) (omega (arith, l, le)) in
        place_ends types outputs fill n ds es x px f.placed right p (subst (Within EndingPlace) (same_ours n ds es p) (sources_end m le done (sources_with_inputs N (BodyOf ∷ p)) falls))

    -- so y, which x reads in the fed node, has no chain to what is given under x
    pub y_ends : Ending (At Y)
    y_ends =
        let below : Within (λ q. ranked.rank q < ranked.rank X) (both (also none) (only Y)) = subst (Within (λ q. ranked.rank q < ranked.rank X)) (parts.x_reads n ds es x y px f) (ranked.falls X) in
        let less = below.1 in
        ranked_end (suc (ranked.rank Y)) (Named y ∷ []) (parts.y_kept n ds es x y px f) (omega arith) (omega (arith, less))
