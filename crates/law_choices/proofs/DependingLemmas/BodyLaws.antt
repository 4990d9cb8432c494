-- No chain leads from a place of a node's body to the input under a name, where none does from its sources.
use Rattle.std.proofs.Common.{◌≡◌, ℕ, Bool, true, false, ◌||◌, if◌then◌else◌, List, [], ◌∷◌, refl, sym, ap, subst}
use Rattle.std.specs.Prelude.{None, Some}
use Rattle.std.specs.Str.{bytes_eq}
use Rattle.hp_base.specs.declared.value.Value.{Value}
use Rattle.hp_tree.specs.Blocks.{Decl, block, Eqns}
use Rattle.hp_tree.specs.Programs.{TypeDecl, Node}
use Rattle.hp_tree.specs.Instant.{Body as BodyOf, Place}
use Rattle.hp_tree.specs.Meaning.{declares, controls_of}
use Rattle.hp_meaning.specs.Causal.Sources.{only, Within, below as under_step}
use Rattle.hp_meaning.specs.Causal.Clocked.{ClocksRight, on_base}
use Rattle.hp_meaning.specs.Causal.InputDependence.{sources_with_inputs}
use Rattle.law_equations.specs.Flattened.Flatten.{FlatName, Input, At, Nowhere, always, Prefix, Scope, copies, lasts_at, node_scope}
use Rattle.law_choices.specs.Independent.Dependence.{given_in}
use Rattle.law_choices.proofs.IndependentLemmas.Given.{same_name}
use Rattle.law_choices.proofs.IndependentLemmas.Ours.{with_body}
use Rattle.law_choices.proofs.DependingLemmas.Names.{NameEnds, PlaceEnds, Sees, no_rows}
use Rattle.law_choices.proofs.DependingLemmas.DefinitionLaws.{Around, lasts_in}
use Rattle.law_choices.proofs.DependingLemmas.BlockLaws.{block_ends}

module _ (types : List TypeDecl) (outputs : List ℕ → List (List ℕ)) (fill : Place → Value) (n : Node) (ds : List Decl) (es : Eqns) (x : List ℕ) (px : Place) (placed : given_in (with_body n ds es) x ≡ only px) (right : ClocksRight (with_body n ds es)) where
  abbrev N : Node
  N = with_body n ds es

  -- the input under x loops, and stands at its place
  abbrev loops : List ℕ → Bool
  loops z = bytes_eq x z

  abbrev away : Place → Type 0
  away p = px ≡ p → ⊥

  abbrev Ending : FlatName → Type 0
  Ending a = NameEnds types outputs fill N loops away a

  abbrev EndingPlace : Place → Type 0
  EndingPlace p = PlaceEnds types outputs fill N loops away p

  abbrev in_body : Prefix
  in_body q = BodyOf ∷ q

  abbrev node_lasts : Scope
  node_lasts = lasts_at types n.outputs (λ z. Nowhere) in_body always []

  nowhere_ends : Ending Nowhere
  nowhere_ends = no_rows types outputs fill N loops away Nowhere refl

  given_ends : (z : List ℕ) (t : Bool) → bytes_eq x z ≡ t → Within EndingPlace (given_in N z) → Ending (Input z)
  given_ends z true e h =
      let at : Within EndingPlace (only px) = subst (Within EndingPlace) placed (subst (λ w. Within EndingPlace (given_in N w)) (sym (same_name x z e)) h) in
      absurd (at.1 refl)
  given_ends z false e h = no_rows types outputs fill N loops away (Input z) (ap (λ t. if t then Some (copies always [] (Input z) ∷ []) else None) e)

  node_sees : Sees types outputs fill N loops away (given_in N) (node_scope N)
  node_sees z h = by (declares n.inputs z || declares (controls_of n.contract) z)
    where
      by : (d : Bool) → Ending (if d then Input z else Nowhere)
      by true = given_ends z (bytes_eq x z) refl h
      by false = nowhere_ends

  around_node : Around types outputs fill N loops away (given_in N) (node_scope N) node_lasts always []
  around_node = record {
    sees = node_sees;
    lasts = lasts_in types outputs fill N loops away n.outputs (λ z. Nowhere) in_body always [] (λ z. nowhere_ends) tt tt;
    clock = tt;
    restart = tt;
  }

  pub place_ends : (p : Place) → Within EndingPlace (sources_with_inputs N (BodyOf ∷ p)) → Ending (At (BodyOf ∷ p))
  place_ends p h =
      block_ends types outputs fill N loops away (block ds es) (given_in N) (node_scope N) node_lasts (under_step BodyOf only) in_body always []
      (λ z. on_base (declares n.inputs z || (declares n.outputs z || declares (controls_of n.contract) z))) around_node (λ q u. u.0) (λ q. refl) right.body p h
