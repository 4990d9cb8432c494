-- What a place of the outermost block does not depend on, of what its node is given, no variable that stands for it depends on.
use Rattle.std.proofs.Common.{◌≡◌, ℕ, zero, suc, ◌<◌, Bool, true, false, ◌||◌, if◌then◌else◌, List, [], ◌∷◌, refl, sym, ap, ◌∙◌, subst, arith}
use Rattle.std.specs.Str.{bytes_eq}
use Rattle.hp_base.specs.declared.value.Value.{Value}
use Rattle.hp_tree.specs.Blocks.{Decl, Block, block, Eqns}
use Rattle.hp_tree.specs.declared.program.Item.{Item}
use Rattle.hp_tree.specs.Programs.{TypeDecl, Node}
use Rattle.hp_tree.specs.Instant.{Inputs, Controls, Body, Named, Equations, Head, Tail, Place}
use Rattle.hp_tree.specs.Meaning.{declares, some_defines, controls_of}
use Rattle.hp_meaning.specs.Causal.Sources.{only, Within, IsSource}
use Rattle.hp_meaning.specs.Causal.Causality.{Ranked, OrderLaw}
use Rattle.hp_meaning.specs.Causal.Clocked.{ClocksRight}
use Rattle.hp_meaning.specs.Causal.InputDependence.{row_in, input_in, sources_with_inputs}
use Rattle.hp_meaning.specs.Causal.Points.{NamesDeclared}
use Rattle.hp_meaning.specs.Contract.FreePlaces.{IsEarly}
use Rattle.hp_meaning.proofs.ContractLemmas.Beside.{early_unsteered}
use Rattle.hp_automata.specs.Lowering.{Enumerations, same_name, lowered_node}
use Rattle.hp_automata.specs.Renaming.{renamed_decls}
use Rattle.law_automata.specs.Lowered.OldNames.{IsOld}
use Rattle.law_automata.specs.Lowered.Removable.{none_known, NodeOk}
use Rattle.law_automata.specs.Lowered.Laws.{NodeRanksLaw, ClocksLaw}
use Rattle.law_automata.proofs.LoweredLemmas.Lookups.{eqns_old}
use Rattle.law_automata.proofs.LoweredLemmas.Renaming.{declares_renamed}
use Rattle.law_automata.proofs.LoweredLemmas.RightBlocks.{clock_none}
use Rattle.law_equations.specs.Flattened.Flatten.{FlatName, At}
use Rattle.law_wellmade.specs.Acyclic.Reading.{Ends}
use Rattle.law_choices.specs.Independent.Dependence.{given_in}
use Rattle.law_choices.specs.Independent.Laws.{IsApart}
use Rattle.law_choices.specs.Depending.Looping.{looped}
use Rattle.law_choices.specs.Depending.Places.{DependsByWithInputs, PlaceDependsOnGiven, in_own_equations, is_outermost, PlaceLaw, EarlyPlaceLaw}
use Rattle.law_choices.proofs.IndependentLemmas.AutomataLaw.{same_given}
use Rattle.law_choices.proofs.IndependentLemmas.FedLowered.{low_locals, low_eqns, low_fed}
use Rattle.law_choices.proofs.IndependentLemmas.FedNodes.{fed_ok}
use Rattle.law_choices.proofs.IndependentLemmas.Given.{place_in, stands_somewhere}
use Rattle.law_choices.proofs.IndependentLemmas.Ours.{with_body}
use Rattle.law_choices.proofs.IndependentLemmas.Fed.{Feeds, fed}
use Rattle.law_choices.proofs.DependingLemmas.Names.{no_rows}
use Rattle.law_choices.proofs.DependingLemmas.BodyLaws.{place_ends}
use Rattle.law_choices.proofs.DependingLemmas.NodeLaws.{y_ends}
use Rattle.law_choices.proofs.DependingLemmas.Sourced.{all_sources, body_falls, Clear, clear_next, to_control}
use Rattle.law_choices.proofs.DependingLemmas.FedDependences.{fed_ranks}
use Rattle.law_choices.proofs.DependingLemmas.Outermost.{IsNear, sources_near, defined_same, sources_same}
use Rattle.law_choices.proofs.DependingLemmas.FlatLaw.{no_chain}

module _ (order : OrderLaw) (ranks : NodeRanksLaw) (kept : ClocksLaw) (types : List TypeDecl) (outputs : List ℕ → List (List ℕ)) (fill : Place → Value) (enums : Enumerations) where
  module _ (n : Node) (ds : List Decl) (es : Eqns) (x : List ℕ) (px : Place) (ok : NodeOk (with_body n ds es)) (declared : NamesDeclared (with_body n ds es)) (right : ClocksRight (with_body n ds es)) (r : Ranked (with_body n ds es))
      (old : IsOld x) (apart : IsApart (with_body n ds es) x) (at : given_in (with_body n ds es) x ≡ only px) where
    abbrev N : Node
    N = with_body n ds es

    abbrev M : Node
    M = lowered_node enums N

    abbrev IsClear : Place → Type 0
    IsClear p = Clear n ds es px p

    -- without automata no chain leads from a name to what is given under x
    abbrev Ending : FlatName → Type 0
    Ending a = Ends (looped types outputs fill M (λ z. bytes_eq x z)) a

    low_right : ClocksRight M
    low_right = kept enums N ok right

    low_placed : given_in M x ≡ only px
    low_placed = same_given enums N x ∙ at

    pub name_ends : (y : List ℕ) → some_defines es y ≡ true → IsClear (Body ∷ Named y ∷ []) → Ending (At (Body ∷ Named y ∷ []))
    name_ends y defined clear =
        let before : Feeds n ds es x y px = record { placed = at; undefined = apart.undefined; defined = defined; no_output = apart.no_output; base = clock_none ds x apart.no_local } in
        let behind : Feeds M (low_locals enums ds) (low_eqns enums n ds es) x y px =
        record {
          placed = low_placed;
          undefined = defined_same enums n ds es ok.body x ∙ apart.undefined;
          defined = defined_same enums n ds es ok.body y ∙ defined;
          no_output = apart.no_output;
          base = clock_none (renamed_decls same_name ds) x (declares_renamed same_name ds x ∙ apart.no_local);
        } in
        let old_y : IsOld y = eqns_old none_known 0 es ok.body.1 y defined in
        let fed_ranked : Ranked (fed M (low_locals enums ds) (low_eqns enums n ds es) x y) =
        subst Ranked (low_fed enums n ds es x y) (ranks enums (fed n ds es x y) (fed_ok n x y ds es apart.undefined old old_y ok) (fed_ranks n ds es x y px before r clear order declared)) in
        y_ends types outputs fill M (low_locals enums ds) (low_eqns enums n ds es) x y px behind low_right fed_ranked

    -- what a place of the outermost block depends on
    near_ends : (q : Place) → IsNear n ds es q → IsClear q → ((p : Place) → q ≡ Body ∷ Equations ∷ p → in_own_equations es p ≡ true → Ending (At (Body ∷ Equations ∷ p))) → Ending (At q)
    near_ends (Body ∷ Named y ∷ []) near clear rest = name_ends y near clear
    near_ends (Body ∷ Equations ∷ p) near clear rest = rest p refl near
    near_ends (Inputs ∷ p) near clear rest = no_rows types outputs fill M (λ z. bytes_eq x z) (λ q. Unit {0}) (At (Inputs ∷ p)) refl
    near_ends (Controls ∷ p) near clear rest = no_rows types outputs fill M (λ z. bytes_eq x z) (λ q. Unit {0}) (At (Controls ∷ p)) refl
    near_ends q near clear rest = absurd near

    pub outermost_ends : (bound : ℕ) (p : Place) → in_own_equations es p ≡ true → IsClear (Body ∷ Equations ∷ p) → r.rank (Body ∷ Equations ∷ p) < bound → Ending (At (Body ∷ Equations ∷ p))
    outermost_ends zero p own clear l = absurd (omega (arith, l))
    outermost_ends (suc bound) p own clear l =
        let sources = sources_with_inputs N (Body ∷ Equations ∷ p) in
        let next : (q : Place) → IsSource q sources → (s : Place) → q ≡ Body ∷ Equations ∷ s → in_own_equations es s ≡ true → Ending (At (Body ∷ Equations ∷ s)) =
        λ q h s e near. let here : IsSource (Body ∷ Equations ∷ s) sources = subst (λ z. IsSource z sources) e h in
        let less = body_falls n ds es r (Equations ∷ p) (Equations ∷ s) here in
        outermost_ends bound s near (clear_next n ds es px (Body ∷ Equations ∷ p) (Body ∷ Equations ∷ s) clear here) (omega (arith, less, l)) in
        let each : (q : Place) → IsSource q sources → Ending (At q) × (px ≡ q → ⊥) =
        λ q h. (near_ends q (sources_near n ds es p q own h) (clear_next n ds es px (Body ∷ Equations ∷ p) q clear h) (next q h), λ e. clear [] (subst (λ z. IsSource z sources) (sym e) h)) in
        place_ends types outputs fill M (low_locals enums ds) (low_eqns enums n ds es) x px low_placed low_right (Equations ∷ p)
        (subst (Within (λ q. Ending (At q) × (px ≡ q → ⊥))) (sym (sources_same enums n ds es ok.body p own)) (all_sources (λ q. Ending (At q) × (px ≡ q → ⊥)) sources each))

    -- what such a place may depend on ends where it is clear
    pub clear_ends : (q : Place) → IsNear n ds es q → IsClear q → Ending (At q)
    clear_ends q near clear = near_ends q near clear (λ p e own. outermost_ends (suc (r.rank (Body ∷ Equations ∷ p))) p own (subst IsClear e clear) (omega arith))

  by_body : (n : Node) (b : Block) (p : Place) (x : List ℕ) → NodeOk (record n { body = b }) → NamesDeclared (record n { body = b }) → ClocksRight (record n { body = b }) → Ranked (record n { body = b }) → IsOld x
      → IsApart (record n { body = b }) x → is_outermost b p ≡ true → (PlaceDependsOnGiven (record n { body = b }) (Body ∷ p) x → ⊥) → Ends (looped types outputs fill (lowered_node enums (record n { body = b })) (λ z. bytes_eq x z)) (At (Body ∷ p))
  by_body n (block ds es) (Equations ∷ p) x ok declared right r old apart own independent =
      let at = stands_somewhere (with_body n ds es) x apart.given in
      outermost_ends n ds es x at.0 ok declared right r old apart at.1 (suc (r.rank (Body ∷ Equations ∷ p))) p own (λ between d. independent (at.0, at.1, between, d)) (omega arith)
  by_body n (block ds es) p x ok declared right r old apart own independent = absurd cc

pub place_law : OrderLaw → NodeRanksLaw → ClocksLaw → PlaceLaw
place_law order ranks kept types outputs k fill enums n f s p x ok declared right r old apart own independent v w ev ew d =
    let a = by_body order ranks kept types outputs fill enums n n.body p x ok declared right r old apart own independent in
    no_chain types outputs fill (lowered_node enums n) x k f s v d.0 w (subst (Ends (looped types outputs fill (lowered_node enums n) (λ z. bytes_eq x z))) (sym ev) a) ew d.1

-- ---- early places

-- a controllable variable stands at a place of its own
pub control_placed : (n : Node) (x : List ℕ) (q : Place) → declares (controls_of n.contract) x ≡ true → given_in n x ≡ only q → (p : Place) × (q ≡ Controls ∷ p)
control_placed n x q c e = by (controls_of n.contract) (λ p. Controls ∷ p) (λ p. (p, refl)) c e
  where
    step : (d : Decl) (cs : List Decl) (w : Place → Place) → ((p : Place) → (s : Place) × (w p ≡ Controls ∷ s)) → (t : Bool) → (t || declares cs x) ≡ true → (if t then only (w (Head ∷ [])) else row_in cs (λ p. only (w (Tail ∷ p))) (input_in n only) x) ≡ only q
        → (declares cs x ≡ true → row_in cs (λ p. only (w (Tail ∷ p))) (input_in n only) x ≡ only q → (p : Place) × (q ≡ Controls ∷ p)) → (p : Place) × (q ≡ Controls ∷ p)
    step d cs w h true c e rest = let is = h (Head ∷ []) in (is.0, ap place_in (sym e) ∙ is.1)
    step d cs w h false c e rest = rest c e

    by : (cs : List Decl) (w : Place → Place) → ((p : Place) → (s : Place) × (w p ≡ Controls ∷ s)) → declares cs x ≡ true → row_in cs (λ p. only (w p)) (input_in n only) x ≡ only q → (p : Place) × (q ≡ Controls ∷ p)
    by [] w h c e = absurd cc
    by (d ∷ cs) w h c e = step d cs w h (bytes_eq d.name x) c e (by cs (λ p. w (Tail ∷ p)) (λ p. h (Tail ∷ p)))

early_clear : (program : List Item) (n : Node) (ds : List Decl) (es : Eqns) (p : Place) (x : List ℕ) (px : Place) → ClocksRight (with_body n ds es) → declares (controls_of n.contract) x ≡ true → given_in (with_body n ds es) x ≡ only px
    → IsEarly program (with_body n ds es) (Body ∷ p) → Clear n ds es px (Body ∷ p)
early_clear program n ds es p x px right control at early between d =
    let placed = control_placed (with_body n ds es) x px control at in
    (early_unsteered program (with_body n ds es) (Body ∷ p) right early).by_none between placed.0 (to_control n ds es p placed.0 between (subst (DependsByWithInputs (with_body n ds es) (Body ∷ p) between) placed.1 d))

pub none_given : (program : List Item) (n : Node) (b : Block) (p : Place) (x : List ℕ) → ClocksRight (record n { body = b }) → declares (controls_of n.contract) x ≡ true → IsEarly program (record n { body = b }) (Body ∷ p) → PlaceDependsOnGiven (record n { body = b }) (Body ∷ p) x → ⊥
none_given program n (block ds es) p x right c early d = early_clear program n ds es p x d.0 right c d.1 early d.2 d.3

pub early_place_law : PlaceLaw → EarlyPlaceLaw
early_place_law law types outputs k fill enums program n f s p x ok declared right r old apart c own early v w ev ew d =
    law types outputs k fill enums n f s p x ok declared right r old apart own (none_given program n n.body p x right c early) v w ev ew d
