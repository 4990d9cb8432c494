-- The targets of the equations of a contract's comparisons depend on an input that stands for an output only where the contract reads the output; so early ones depend on no output that waits for the choice.
use Rattle.std.proofs.Common.{◌≡◌, inl, inr, ℕ, zero, suc, ◌+◌, ◌<◌, List, [], ◌∷◌, ◌++◌, length, map, Option, None, Some, refl, sym, ap, subst, ◌∙◌, arith}
use Rattle.std.specs.Prelude.{Bool, true, false, ◌||◌, if◌then◌else◌, IsTrue, slice_get}
use Rattle.std.specs.Str.{bytes_eq}
use Rattle.std.proofs.lemmas.Option.{slice_get_within}
use Rattle.std.proofs.lemmas.List.{length-map}
use Rattle.hp_base.specs.declared.value.Value.{Value}
use Rattle.hp_tree.specs.Expressions.{Expr}
use Rattle.hp_tree.specs.Blocks.{Decl, Block, block, Eqns, no_eqn, more_eqns, Eqn, define, switch, reset, automaton, eqns_of, list_of_eqns}
use Rattle.hp_tree.specs.declared.program.Item.{Item}
use Rattle.hp_tree.specs.Programs.{TypeDecl, Contract, Node}
use Rattle.hp_tree.specs.Instant.{Inputs, Controls, Body, Observer, Assume, Enforce, Named, Equations, Head, Tail, Right, Place, Clock}
use Rattle.hp_tree.specs.Meaning.{declares, clock_in, controls_of}
use Rattle.hp_meaning.specs.Causal.Causality.{DependsBy, Ranked, sources}
use Rattle.hp_meaning.specs.Causal.Clocked.{ClocksRight, ContractRight, on_base}
use Rattle.hp_meaning.specs.Causal.InputDependence.{ChainWithInputs, sources_with_inputs}
use Rattle.hp_meaning.specs.Causal.Sources.{Sources, none, only, both, also, IsRead, IsSource, below}
use Rattle.hp_meaning.specs.Causal.WhatIsRead.{at_told, control_in, in_block, in_contract, names_in_block, output_in}
use Rattle.hp_meaning.specs.Clocking.Clocking.{AreDefined}
use Rattle.hp_meaning.specs.Contract.FreePlaces.{by_step, free_in, free_in_block, free_in_contract, free_in_equation, free_in_equations, free_in_told, IsEarly, own_free}
use Rattle.hp_meaning.proofs.ContractLemmas.Beside.{early_unsteered}
use Rattle.law_judged.specs.Named.Scoped.{BlockScoped, ContractScoped, equations_of, interface, no_names, NodeScoped}
use Rattle.law_judged.specs.Replaced.Fitting.{BlockNames, ContractNames}
use Rattle.law_judged.proofs.NamedLemmas.Declared.{node_names}
use Rattle.law_judged.proofs.NamedLemmas.Sets.{declares_append, or_left, or_right}
use Rattle.hp_automata.specs.Lowering.{Enumerations, lowered_node}
use Rattle.law_automata.specs.Lowered.Removable.{NodeOk}
use Rattle.law_automata.specs.Lowered.Standing.{Along}
use Rattle.law_automata.proofs.LoweredLemmas.Apart.{bytes_same}
use Rattle.hp_flat.specs.Equations.{FlatEqn}
use Rattle.hp_flat.specs.Nodes.{FlatNode}
use Rattle.law_equations.specs.Flattened.Flatten.{Input}
use Rattle.law_equations.specs.Made.Laws.{names, Stands}
use Rattle.law_equations.specs.Made.Making.{Known}
use Rattle.hp_watch.specs.Observing.{assumed, condition_of, enforced, input_name, inputs_for, lines_of, observer_of, outputs_at, with_lines}
use Rattle.hp_watch.specs.Walk.{events_from, walk_block, walk_contract}
use Rattle.law_choices.specs.Depending.Contracts.{behind_all, found_in_contract, in_observer, IsInContract, KeepsContract, ReadsNoWaiting, ReadsOutputs}
use Rattle.law_choices.specs.Depending.Dependence.{DependsOn}
use Rattle.law_choices.specs.Depending.Found.{EventPlacesLaw, EventStaysFree, TargetsMean}
use Rattle.law_choices.specs.Depending.Places.{DependsByWithInputs, PlaceDependsOnGiven}
use Rattle.law_choices.specs.Independent.Dependence.{DependsOnGiven, given_in, IsGiven}
use Rattle.law_choices.specs.Observed.Contracts.{IsObservable, IsOther}
use Rattle.law_choices.specs.Places.Found.{Both, found_in_node}
use Rattle.law_choices.specs.Places.Laws.{events, places_of, WalkLaw}
use Rattle.law_choices.specs.Places.Spots.{Spot, spots_of_node}
use Rattle.law_choices.proofs.IndependentLemmas.Given.{Shape, shape}
use Rattle.law_choices.proofs.DependingLemmas.ContractPlaces.{contract-stands, contract-walked, found-moved, moved_pair, moved_places, StandThere}
use Rattle.law_choices.proofs.DependingLemmas.EventLaws.{walk_told}
use Rattle.law_choices.proofs.DependingLemmas.PlaceLaws.{control_placed}
use Rattle.law_choices.proofs.DependingLemmas.Sourced.{to_control}
use Rattle.law_choices.proofs.PlacesLemmas.Related.{block-hidden}
use Rattle.law_choices.proofs.ObservedLemmas.Bodies.{assumed_not_other, enforced_not_other}
use Rattle.law_choices.proofs.ObservedLemmas.Clocks as clocks
use Rattle.law_choices.proofs.ObservedLemmas.Clocks.{clock_behind, new_clock, observer_right}
use Rattle.law_choices.proofs.ObservedLemmas.Outputs.{goes, reaches}
use Rattle.law_choices.proofs.ObservedLemmas.Ranks.{inside, observer_has_ranks}
use Rattle.law_choices.proofs.ObservedLemmas.Removable.{AllBase, input_old, observer_ok}
use Rattle.law_choices.proofs.ObservedLemmas.Scoped.{observer_scoped}
use Rattle.law_choices.proofs.UndisturbedLemmas.Apart.{is_apart}

abbrev base_clock : Clock
base_clock = []

not_free : {X : Type 0} → None ≡ Some base_clock → X
not_free e = absurd (cc)

-- ---- free places of the outermost block

inside_free : (ds : List Decl) (es : Eqns) (q : Place) → free_in_equations ds es q ≡ Some base_clock → inside es q ≡ true
inside_free ds no_eqn q e = not_free e
inside_free ds (more_eqns a es) (Head ∷ q) e = refl
inside_free ds (more_eqns a es) (Tail ∷ q) e = inside_free ds es q e
inside_free ds (more_eqns a es) q e = not_free e

module _ (ds locals : List Decl) (same : (x : List ℕ) → clock_in locals x ≡ clock_in ds x) (more : List Eqn) where
  one_free : (a : Eqn) (q : Place) → free_in_equation locals a q ≡ free_in_equation ds a q
  one_free (define s ys e) q = ap (λ (k : Clock). by_step ((Right, free_in e k) ∷ []) q) (clocks.of_same ds locals same ys e)
  one_free (switch s e arms) q = refl
  one_free (reset s b e) q = refl
  one_free (automaton s ss) q = refl

  front_free : (es : Eqns) (q : Place) → free_in_equations ds es q ≡ Some base_clock → free_in_equations locals (eqns_of (list_of_eqns es ++ more)) q ≡ Some base_clock
  front_free no_eqn q e = not_free e
  front_free (more_eqns a es) (Head ∷ q) e = one_free a q ∙ e
  front_free (more_eqns a es) (Tail ∷ q) e = front_free es q e
  front_free (more_eqns a es) q e = not_free e

  back_free : (es : Eqns) (q : Place) → free_in_equations locals (eqns_of (list_of_eqns es ++ more)) (behind_all es q) ≡ free_in_equations locals (eqns_of more) q
  back_free no_eqn q = refl
  back_free (more_eqns a es) q = back_free es q

told_free : (o : Option Expr) (c : Contract) (k : Clock) (q : Place) → k ≡ [] → free_in_told o q ≡ Some base_clock → free_in (condition_of o c.span) k q ≡ Some base_clock
told_free None c k q e h = not_free h
told_free (Some a) c k q e h = ap (λ (z : Clock). free_in a z q) e ∙ h

-- ---- what the contract reads

-- the places of a node with this contract, as those of its parts
pub record HasParts (n : Node) (c : Contract) (b : Block) : Type 0 where
  pub block_reads : (q : Place) → sources n (Observer ∷ q) ≡ in_block b (output_in n (below Body only)) (below Observer only) q
  pub assumed_reads : (q : Place) → sources n (Assume ∷ q) ≡ at_told c.assume (names_in_block b (output_in n (below Body only)) (below Observer only)) (below Assume only) q
  pub enforced_reads : (q : Place) → sources n (Enforce ∷ q) ≡ at_told c.enforce (names_in_block b (output_in n (below Body only)) (below Observer only)) (below Enforce only) q
  pub block_free : (q : Place) → own_free n (Observer ∷ q) ≡ free_in_block b q
  pub assumed_free : (q : Place) → own_free n (Assume ∷ q) ≡ free_in_told c.assume q
  pub enforced_free : (q : Place) → own_free n (Enforce ∷ q) ≡ free_in_told c.enforce q

has_parts : (n : Node) (c : Contract) → n.contract ≡ Some c → HasParts n c c.body
has_parts n c e =
    let out = output_in n (below Body only) in
    let F = free_in_block n.body in
    record {
      block_reads = λ q. ap (λ k. in_contract k out only (Observer ∷ q)) e;
      assumed_reads = λ q. ap (λ k. in_contract k out only (Assume ∷ q)) e;
      enforced_reads = λ q. ap (λ k. in_contract k out only (Enforce ∷ q)) e;
      block_free = λ q. ap (λ k. by_step ((Body, F) ∷ free_in_contract k) (Observer ∷ q)) e;
      assumed_free = λ q. ap (λ k. by_step ((Body, F) ∷ free_in_contract k) (Assume ∷ q)) e;
      enforced_free = λ q. ap (λ k. by_step ((Body, F) ∷ free_in_contract k) (Enforce ∷ q)) e;
    }

-- an input of an observer is an input
input_place : (o : Node) (x : List ℕ) (q : Place) → controls_of o.contract ≡ [] → given_in o x ≡ only q → (r : Place) × (q ≡ Inputs ∷ r)
input_place o x q none_chosen at = by (shape o x)
  where
    by : Shape o x → (r : Place) × (q ≡ Inputs ∷ r)
    by (inl h) = let no : none ≡ only q = sym h.0 ∙ at in absurd cc
    by (inr (inl h)) =
        let no : none ≡ only (Controls ∷ h.0) = subst (λ (ds : List Decl). control_in ds (below Controls only) x ≡ only (Controls ∷ h.0)) none_chosen h.2 in
        absurd cc
    by (inr (inr h)) = (h.0, only_same (sym at ∙ h.1))
      where
        only_same : {p r : Place} → only p ≡ only r → p ≡ r
        only_same e = cc

module _ (n : Node) (c : Contract) (base : AllBase n.outputs) (known : (x : List ℕ) → IsTrue (interface n x) → IsOther x) (filled : AreDefined n.outputs (equations_of n.body)) (few : length n.outputs < 1000000) (i : ℕ) (o : List ℕ) (numbered : slice_get (names n.outputs) i ≡ Some o) where
  abbrev with_block : Block → Node
  with_block b = record { name = n.name; span = n.span; inputs = n.inputs ++ inputs_for 0 n.outputs; outputs = outputs_at c.span; contract = None; body = with_lines b n.outputs (lines_of n c) }

  abbrev IsImage : Place → Place → Type 0
  IsImage p z = (between : List Place) × DependsBy n p between (Body ∷ Named o ∷ [])

  block_reaches : (b : Block) → BlockScoped (interface n) no_names b → BlockNames IsOther b → ContractRight (λ x. on_base (declares n.inputs x || declares n.outputs x)) (Some (record c { body = b })) → HasParts n c b
      → (p : Place) → IsInContract p → own_free n p ≡ Some base_clock → PlaceDependsOnGiven (with_block b) (in_observer b p) (input_name i) → (between : List Place) × DependsBy n p between (Body ∷ Named o ∷ [])
  block_reaches (block ds es) own inner right parts p there free d =
      let place = input_place (with_block (block ds es)) (input_name i) d.0 refl d.1 in
      let at : given_in (with_block (block ds es)) (input_name i) ≡ only (Inputs ∷ place.0) = d.1 ∙ ap only place.1 in
      reaches n c base known filled few ds es own inner i place.0 at right.0.1 right.1 right.2 parts.block_reads parts.assumed_reads parts.enforced_reads o numbered p (in_observer (block ds es) p) there (image p there free) d.2
      (subst (DependsByWithInputs (with_block (block ds es)) (in_observer (block ds es) p) d.2) place.1 d.3)
    where
      equations_free : (q : Place) → free_in_block (block ds es) (Equations ∷ q) ≡ Some base_clock → IsSource (Body ∷ Equations ∷ q) (if inside es q then only (Body ∷ Equations ∷ q) else none)
      equations_free q e = subst (λ (t : Bool). IsSource (Body ∷ Equations ∷ q) (if t then only (Body ∷ Equations ∷ q) else none)) (sym (inside_free ds es q e)) refl

      image : (p : Place) → IsInContract p → own_free n p ≡ Some base_clock → IsSource (in_observer (block ds es) p) (goes n c base known filled few ds es own inner p)
      image (Observer ∷ Equations ∷ q) h e = equations_free q (sym (parts.block_free (Equations ∷ q)) ∙ e)
      image (Assume ∷ q) h e = refl
      image (Enforce ∷ q) h e = refl
      image (Observer ∷ q) h e = not_free (sym (parts.block_free q) ∙ e)
      image p h e = absurd h

  block_free_there : (b : Block) → BlockScoped (interface n) no_names b → BlockNames IsOther b → HasParts n c b → (p : Place) → IsInContract p → own_free n p ≡ Some base_clock → own_free (with_block b) (in_observer b p) ≡ Some base_clock
  block_free_there (block ds es) own inner parts p there free = by p there free
    where
      lines : List Eqn
      lines = lines_of n c

      same : (x : List ℕ) → clock_in (ds ++ n.outputs) x ≡ clock_in ds x
      same = clock_behind ds n.outputs base

      by : (p : Place) → IsInContract p → own_free n p ≡ Some base_clock → own_free (with_block (block ds es)) (in_observer (block ds es) p) ≡ Some base_clock
      by (Observer ∷ Equations ∷ q) h e = front_free ds (ds ++ n.outputs) same (lines_of n c) es q (sym (parts.block_free (Equations ∷ q)) ∙ e)
      by (Assume ∷ q) h e =
          back_free ds (ds ++ n.outputs) same (lines_of n c) es (Head ∷ Right ∷ q)
          ∙ told_free c.assume c (clock_in (ds ++ n.outputs) assumed) q (same assumed ∙ new_clock n c base known ds es own inner assumed assumed_not_other) (sym (parts.assumed_free q) ∙ e)
      by (Enforce ∷ q) h e =
          back_free ds (ds ++ n.outputs) same (lines_of n c) es (Tail ∷ Head ∷ Right ∷ q)
          ∙ told_free c.enforce c (clock_in (ds ++ n.outputs) enforced) q (same enforced ∙ new_clock n c base known ds es own inner enforced enforced_not_other) (sym (parts.enforced_free q) ∙ e)
      by (Observer ∷ q) h e = not_free (sym (parts.block_free q) ∙ e)
      by p h e = absurd h

-- ---- chains to a controllable variable

read_source : (q : Place) (s : Sources) → IsRead q s → IsSource q s
read_source q none h = h
read_source q (only p) h = h
read_source q (both s t) (inl h) = inl (read_source q s h)
read_source q (both s t) (inr h) = inr (read_source q t h)
read_source q (also s) h = absurd h

chain_depends : (n : Node) (p end : Place) (between : List Place) → ChainWithInputs n p between end → DependsByWithInputs n p between end
chain_depends n p end [] h = read_source end (sources_with_inputs n p) h
chain_depends n p end (q ∷ qs) h = (read_source q (sources_with_inputs n p) h.0, chain_depends n q end qs h.1)

chain_joined : (n : Node) (p q end : Place) (between later : List Place) → DependsBy n p between q → DependsBy n q later end → DependsBy n p (between ++ q ∷ later) end
chain_joined n p q end [] later d e = (d, e)
chain_joined n p q end (r ∷ rs) later d e = (d.0, chain_joined n r q end rs later d.1 e)

output_waits : (n : Node) (b : Block) (o : List ℕ) (r : Place) (between : List Place) → DependsByWithInputs (record n { body = b }) (Body ∷ Named o ∷ []) between (Controls ∷ r) → DependsBy (record n { body = b }) (Body ∷ Named o ∷ []) between (Controls ∷ r)
output_waits n (block ds es) o r between d = to_control n ds es (Named o ∷ []) r between d

-- an early place depends on no output that depends on a controllable variable
early_apart : (program : List Item) (n : Node) (p : Place) (o x : List ℕ) → ClocksRight n → declares (controls_of n.contract) x ≡ true → IsEarly program n p → DependsOnGiven n o x → (between : List Place) × DependsBy n p between (Body ∷ Named o ∷ []) → ⊥
early_apart program n p o x right control early g reads =
    let between = g.2 in
    let placed = control_placed n x g.0 control g.1 in
    let chain = subst (DependsByWithInputs n (Body ∷ Named o ∷ []) between) placed.1 (chain_depends n (Body ∷ Named o ∷ []) g.0 between g.3) in
    let last = output_waits n n.body o placed.0 between chain in
    (early_unsteered program n p right early).by_none (reads.0 ++ (Body ∷ Named o ∷ []) ∷ between) placed.0 (chain_joined n p (Body ∷ Named o ∷ []) (Controls ∷ placed.0) reads.0 between reads.1 last)

-- ---- events

abbrev pub AtEvent : List FlatEqn → (ℕ → Place → Type 0) → ℕ → Spot × Spot → Type 0
AtEvent es P i c = (e : FlatEqn) × (slice_get es i ≡ Some e) × Along P e.targets (places_of c.0)

module _ (S T : ℕ → Place → Type 0) (g : Place → Place) (one : (v : ℕ) (p : Place) → IsInContract p → S v (g p) → T v p) where
  targets_back : (vs : List ℕ) (ps qs : List Place) → Along S vs (map g ps) → Along (λ p q. IsInContract p) ps qs → Along T vs ps
  targets_back [] [] qs h k = tt
  targets_back [] (p ∷ ps) qs h k = absurd h
  targets_back (v ∷ vs) [] qs h k = absurd h
  targets_back (v ∷ vs) (p ∷ ps) [] h k = absurd k
  targets_back (v ∷ vs) (p ∷ ps) (q ∷ qs) h k = (one v p k.0 h.0, targets_back vs ps qs h.1 k.1)

  events_back : (outs : List ℕ → List (List ℕ)) (es : List FlatEqn) (is : List ℕ) (fs : Both) → Along (AtEvent es S) is (map (moved_pair g) fs) → StandThere outs fs → Along (AtEvent es T) is fs
  events_back outs es [] [] h k = tt
  events_back outs es [] (c ∷ fs) h k = absurd h
  events_back outs es (i ∷ is) [] h k = absurd h
  events_back outs es (i ∷ is) (c ∷ fs) h k =
      let here = h.0 in
      let e = here.0 in
      ((e, here.1, targets_back e.targets (places_of c.0) (places_of c.1) (subst (Along S e.targets) (moved_places g c.0) here.2) k.0), events_back outs es is fs h.1 k.1)

-- ---- what is so for each of many

module _ {A : Type 0} (es : List FlatEqn) (S : A → ℕ → Place → Type 0) where
  each_target : (vs : List ℕ) (ps : List Place) → Along (λ v p. Unit {0}) vs ps → ((a : A) → Along (S a) vs ps) → Along (λ v p. (a : A) → S a v p) vs ps
  each_target [] [] h k = tt
  each_target [] (p ∷ ps) h k = absurd h
  each_target (v ∷ vs) [] h k = absurd h
  each_target (v ∷ vs) (p ∷ ps) h k = ((λ a. let it = k a in it.0), each_target vs ps h.1 (λ a. let it = k a in it.1))

  one_event : (i : ℕ) (c : Spot × Spot) (e : FlatEqn) → slice_get es i ≡ Some e → (a : A) → AtEvent es (S a) i c → Along (S a) e.targets (places_of c.0)
  one_event i c e h a g = subst (λ (d : FlatEqn). Along (S a) d.targets (places_of c.0)) (same (sym g.1 ∙ h)) g.2
    where
      same : {d : FlatEqn} → Some d ≡ Some e → d ≡ e
      same q = cc

  pub each_event : (is : List ℕ) (fs : Both) → Along (AtEvent es (λ v p. Unit {0})) is fs → ((a : A) → Along (AtEvent es (S a)) is fs) → Along (AtEvent es (λ v p. (a : A) → S a v p)) is fs
  each_event [] [] h k = tt
  each_event [] (c ∷ fs) h k = absurd h
  each_event (i ∷ is) [] h k = absurd h
  each_event (i ∷ is) (c ∷ fs) h k =
      let here = h.0 in
      let e = here.0 in
      ((e, here.1, each_target e.targets (places_of c.0) here.2 (λ a. let it = k a in one_event i c e here.1 a it.0)), each_event is fs h.1 (λ a. let it = k a in it.1))

-- ---- nodes

input_there : (m : ℕ) (os : List Decl) (j : ℕ) → j < length os → declares (inputs_for m os) (input_name (m + j)) ≡ true
input_there m [] j l = absurd (omega (arith, l))
input_there m (d ∷ os) zero l =
    let same : m + 0 ≡ m = omega arith in
    subst (λ z. declares (inputs_for m (d ∷ os)) (input_name z) ≡ true) (sym same) (or_left (bytes_eq (input_name m) (input_name m)) (declares (inputs_for (m + 1) os) (input_name m)) (bytes_same (input_name m)))
input_there m (d ∷ os) (suc j) l =
    let same : m + suc j ≡ m + 1 + j = omega arith in
    subst (λ z. declares (inputs_for m (d ∷ os)) (input_name z) ≡ true) (sym same)
    (or_right (bytes_eq (input_name m) (input_name (m + 1 + j))) (declares (inputs_for (m + 1) os) (input_name (m + 1 + j))) (input_there (m + 1) os j (omega (arith, l))))

module _ (n : Node) (scoped : NodeScoped n) (base : AllBase n.outputs) (obs : IsObservable n) (right : ClocksRight n) where
  -- what is read of a contract
  pub reads_outputs : ReadsOutputs n
  reads_outputs c i o p e numbered there free d =
      block_reaches n c base obs.interface scoped.outputs obs.few i o numbered c.body (subst (ContractScoped (interface n)) e scoped.contract) (subst (ContractNames IsOther) e obs.contract)
      (subst (ContractRight (λ x. on_base (declares n.inputs x || declares n.outputs x))) e right.contract) (has_parts n c e) p there free d

  still_free : (c : Contract) (i : ℕ) (o : List ℕ) → n.contract ≡ Some c → slice_get (names n.outputs) i ≡ Some o → (p : Place) → IsInContract p → own_free n p ≡ Some base_clock → own_free (observer_of n c) (in_observer c.body p) ≡ Some base_clock
  still_free c i o e numbered p there free =
      block_free_there n c base obs.interface scoped.outputs obs.few i o numbered c.body (subst (ContractScoped (interface n)) e scoped.contract) (subst (ContractNames IsOther) e obs.contract) (has_parts n c e) p there free

  module _ (law : EventPlacesLaw) (walk : WalkLaw) (enums : Enumerations) (ok : NodeOk n) (ranked : Ranked n) where
    module _ (c : Contract) (outs : List ℕ → List (List ℕ)) (e : n.contract ≡ Some c) (types : List TypeDecl) (outputs : List ℕ → List (List ℕ)) (k : Known) (fill : Place → Value) (f : FlatNode)
        (s : Stands types outputs k fill (lowered_node enums (observer_of n c)) f) (mean : Along (TargetsMean s.means) (events f.eqns) (spots_of_node outs (lowered_node enums (observer_of n c)))) where
      abbrev O : Node
      O = observer_of n c

      -- an output, and a variable of the input that stands for it
      abbrev Output : Type 0
      Output = (i : ℕ) × (o : List ℕ) × (w : ℕ) × (slice_get (names n.outputs) i ≡ Some o) × (s.means w ≡ Input (input_name i))

      abbrev Free : Output → ℕ → Place → Type 0
      Free a v p = own_free O p ≡ Some [] → (PlaceDependsOnGiven O p (input_name a.0) → ⊥) → DependsOn f.eqns v a.2 → ⊥

      one_output : (a : Output) → Along (EventStaysFree O (input_name a.0) f a.2) (walk_block O.body (events_from 0 f.eqns)).0 (found_in_node outs O)
      one_output a =
          let i : ℕ = a.0 in
          let xi = input_name i in
          let within = slice_get_within (names n.outputs) i a.1 a.3 in
          let long : length (names n.outputs) ≡ length n.outputs = length-map n.outputs (λ (d : Decl). d.name) in
          let few = obs.few in
          let nought : 0 + i ≡ i = omega arith in
          let declared : declares (n.inputs ++ inputs_for 0 n.outputs) xi ≡ true =
          declares_append n.inputs (inputs_for 0 n.outputs) xi
          ∙ or_right (declares n.inputs xi) (declares (inputs_for 0 n.outputs) xi) (subst (λ z. declares (inputs_for 0 n.outputs) (input_name z) ≡ true) nought (input_there 0 n.outputs i (omega (arith, within, long)))) in
          let given : IsGiven O xi = or_left (declares O.inputs xi) false declared in
          let seen = observer_scoped n c e scoped obs in
          law outs types outputs k fill enums O f s xi (observer_ok n c e ok scoped base obs) ((node_names O seen).1) (observer_right n c e scoped base obs right) (observer_has_ranks n c e scoped base obs right ranked) (input_old i (omega (arith, within, long, few)))
          (is_apart O seen (λ z h. absurd cc) xi given) a.2 a.4 mean

      -- there are as many places as targets
      as_many : Along (AtEvent f.eqns (λ v p. Unit {0})) (walk_block O.body (events_from 0 f.eqns)).0 (found_in_node outs O)
      as_many = walk_told outs f.eqns s.means (λ p q. Unit {0}) (λ v p. Unit {0}) (λ v p q m u. tt) walk enums O mean (block-hidden outs (λ p q. Unit {0}) O.body (λ p. Body ∷ p) (λ p. Body ∷ p) (λ p q. tt))

      abbrev All : ℕ → Place → Type 0
      All v p = (a : Output) → Free a v p

      observed : Along (AtEvent f.eqns All) (walk_contract c (events_from 0 f.eqns)).0 (map (moved_pair (in_observer c.body)) (found_in_contract outs c))
      observed =
          let Told : List ℕ → Both → Type 0 = λ is fs. Along (AtEvent f.eqns All) is fs in
          let there : Told (walk_block O.body (events_from 0 f.eqns)).0 (found_in_node outs O) = each_event f.eqns Free (walk_block O.body (events_from 0 f.eqns)).0 (found_in_node outs O) as_many one_output in
          subst (Told (walk_contract c (events_from 0 f.eqns)).0) (found-moved outs n c) (subst (λ is. Told is (found_in_node outs O)) (contract-walked n c (events_from 0 f.eqns)) there)

      told : (program : List Item) (v : ℕ) (p : Place) → IsInContract p → All v (in_observer c.body p) → ReadsNoWaiting program n f s.means v p
      told program v p there free early i o x w numbered ew control waits d =
          free (i, o, w, numbered, ew) (still_free c i o e numbered p there early.on_base) (λ reads. early_apart program n p o x right control early waits (reads_outputs c i o p e numbered there early.on_base reads)) d

    pub keeps_contract : KeepsContract enums n
    keeps_contract c outs program e types outputs k fill f s mean =
        events_back (All c outs e types outputs k fill f s mean) (ReadsNoWaiting program n f s.means) (in_observer c.body) (told c outs e types outputs k fill f s mean program) outs f.eqns (walk_contract c (events_from 0 f.eqns)).0 (found_in_contract outs c)
        (observed c outs e types outputs k fill f s mean) (contract-stands outs c)
