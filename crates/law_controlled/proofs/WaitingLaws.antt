-- In a program of an accepted text no early bit of the node that is watched depends on a controllable variable.
use Rattle.std.proofs.Common.{◌≡◌, ◌+◌, ℕ, List, [], ◌∷◌, drop, length, map, Some, ap, subst, ◌∙◌, arith}
use Rattle.std.specs.Prelude.{Bool, true, false}
use Rattle.std.proofs.lemmas.List.{map-append}
use Rattle.hp_obc.specs.Form.{has_name}
use Rattle.hp_obc.specs.Machines.{ObcType}
use Rattle.hp_tree.specs.Blocks.{Decl}
use Rattle.hp_tree.specs.Instant.{Place}
use Rattle.hp_tree.specs.Meaning.{types_of}
use Rattle.hp_tree.specs.Programs.{Contract, Node}
use Rattle.hp_tree.specs.declared.program.Item.{Item}
use Rattle.hp_tree.specs.declared.program.Item.TheVariants.{NodeItem}
use Rattle.hp_circuit.specs.declared.given.Given.{Given}
use Rattle.hp_flat.specs.Nodes.{FlatNode}
use Rattle.hp_meaning.specs.Causal.Causality.{IsRanked}
use Rattle.hp_meaning.specs.Contract.Forgetting.{ContractsCallNothing}
use Rattle.hp_meaning.specs.Contract.FreePlaces.{IsEarly, IsFree}
use Rattle.hp_meaning.specs.Contract.Slots.{free_places, slots_of_node}
use Rattle.law_judged.specs.Named.Scoped.{EachNode}
use Rattle.hp_automata.specs.Lowering.{Enumerations, enumerations, lowered_item, lowered_node, lowered_program}
use Rattle.hp_automata.specs.NewNames.{is_new}
use Rattle.law_automata.specs.Lowered.Laws.{RanksLaw}
use Rattle.law_automata.specs.Lowered.Standing.{Along}
use Rattle.law_automata.proofs.LowerableLemmas.Texts.{each_reverse}
use Rattle.law_automata.proofs.LoweredLemmas.Programs.{map_reverse}
use Rattle.law_equations.specs.Made.Laws.{MadePlacesLaw}
use Rattle.law_equations.specs.Made.Making.{Known}
use Rattle.law_equations.specs.Made.Types.{obc_types}
use Rattle.law_equations.specs.Meaning.Kinding.{Callees}
use Rattle.law_equations.specs.Meaning.Scheduling.{DefinesNoInput}
use Rattle.law_games.specs.ReadyGames.Laws.{IsInOrder, Stands}
use Rattle.hp_complete.specs.Declaring.{known_of}
use Rattle.hp_complete.specs.Made.{IsMadeOf}
use Rattle.hp_complete.specs.Signatures.{IsSigned}
use Rattle.hp_abstract.specs.declared.abstracted.Abstraction.{Abstraction}
use Rattle.hp_abstract.specs.Abstractions.{IsAbstractionOf}
use Rattle.hp_watch.specs.declared.watching.Free.{Free}
use Rattle.hp_watch.specs.Embedding.{embedded}
use Rattle.hp_watch.specs.Observing.{observer_of, observers}
use Rattle.hp_watch.specs.Walk.{events_from, walk_contract}
use Rattle.hp_watch.specs.Watching.{Observed, Observing, own_site, walked, Watched}
use Rattle.law_choices.specs.Adding.Made.{CompiledMadeLaw, IsReadyMade}
use Rattle.law_choices.specs.Depending.Contracts.{found_in_contract}
use Rattle.law_choices.specs.Depending.Found.{LabelsMeanLaw}
use Rattle.law_choices.specs.Depending.Laws.{VariablesLaw}
use Rattle.law_choices.specs.InTurn.Observed.{CanBeObserved}
use Rattle.law_choices.specs.InTurn.Observers.{ObserverLaw}
use Rattle.law_choices.specs.Observed.Contracts.{IsObservable}
use Rattle.law_choices.specs.OnClocks.WellMade.{callees_of}
use Rattle.law_choices.specs.Places.Found.{found_in_node}
use Rattle.law_choices.specs.Places.Laws.{FoundLaw, WalkLaw}
use Rattle.law_choices.specs.Playing.Drawn.{DrawnFlagsLaw}
use Rattle.law_choices.specs.Playing.Mirrored.{early_flags}
use Rattle.law_choices.specs.Undisturbed.Laws.{KeepsPlaces, PlacesLaw}
use Rattle.law_choices.proofs.BroughtLemmas.Alone.{found-alone}
use Rattle.law_choices.proofs.BroughtLemmas.Flagged.{Targets}
use Rattle.law_choices.proofs.BroughtLemmas.Programs.{observer_stands}
use Rattle.law_choices.proofs.FlatLemmas.Among.{each_at}
use Rattle.law_choices.proofs.InTurnLemmas.Programs.{TurnLaws}
use Rattle.law_choices.proofs.ObservedLemmas.Programs.{observers_in_order}
use Rattle.law_choices.proofs.OnClocksLemmas.OneMeaning.{IsTurned}
use Rattle.law_choices.proofs.OnClocksLemmas.Programs.{compilable_law}
use Rattle.law_choices.proofs.OnClocksLemmas.Texts.{IsArranged}
use Rattle.hp_controlled.specs.Choosing.{Suits}
use Rattle.hp_controlled.specs.Compiled.{AreObserved}
use Rattle.law_controlled.specs.Early.{WaitsForChoice}
use Rattle.law_controlled.specs.Embedded.{CanStand, KeepsOwnContract, OwnContractLaw}
use Rattle.law_controlled.proofs.AskedLaws.{bytes, of, puts, suit}
use Rattle.law_controlled.proofs.ClearLaws.{IsClear, IsStanding}
use Rattle.law_controlled.proofs.EarlyFreeLaws.{I, body_slots, brought-flags, calls-nothing, contract_slots, flags-are, flags-of-inputs, its_made, known-outs, names_of, told-flags}
use Rattle.law_controlled.proofs.EarlyNodeLaws.{own-targets, told-targets}
use Rattle.law_controlled.proofs.MadeLaws.{widths_are}
use Rattle.law_controlled.proofs.OwnLaws.{can_stand}
use Rattle.law_controlled.proofs.StandingLaws.{StandsThere, stands_there}
use Rattle.law_controlled.proofs.WatchedLaws.{EarlyAreClear, none_waits, own_site_is}

-- the laws that are joined here
pub record WaitingLaws : Type 0 where
  pub places : PlacesLaw
  pub own : OwnContractLaw
  pub variables : VariablesLaw
  pub labels : LabelsMeanLaw
  pub walk : WalkLaw
  pub found : FoundLaw
  pub made : MadePlacesLaw
  pub flags : DrawnFlagsLaw
  pub ranks : RanksLaw

-- what is so of each node is so of one that stands there
at_node : (P : Node → Type 0) (after earlier : List Item) (n : Node) → Stands after earlier n → EachNode P after → P n
at_node P after earlier n stands h = (each_at P stands.0 n earlier (subst (EachNode P) stands.1 (each_reverse P after h))).0

module _ (laws : WaitingLaws) (turn : TurnLaws) (made_law : CompiledMadeLaw) (observer_law : ObserverLaw) (program after : List Item) (ranks : List (List ℕ)) (order : IsInOrder program after ranks) (q : IsArranged program after) (signs : EachNode (λ (n : Node). is_new n.name ≡ false) after)
    (can : CanBeObserved after) (seen : Observing) (are : AreObserved after seen) (nothing : ContractsCallNothing after) (observable : EachNode IsObservable after) (ranked : IsRanked after) (places_same : (known_of (lowered_program (observers after))).types ≡ (known_of (lowered_program after)).types) where
  abbrev types : List ObcType
  types = obc_types (types_of after)

  abbrev k : Known
  k = known_of (lowered_program after)

  abbrev k_seen : Known
  k_seen = known_of (lowered_program (observers after))

  abbrev enums : Enumerations
  enums = enumerations [] after

  abbrev all : Callees
  all = callees_of after

  module _ (earlier : List Item) (n : Node) (stands : Stands after earlier n) (c : Contract) (has : n.contract ≡ Some c) (f : FlatNode) (names : List (List ℕ)) (t : IsTurned types k names (lowered_node enums n) f) (made : IsMadeOf k (lowered_node enums n) f) (r : IsReadyMade types all f)
      (signed : (g : List ℕ) → has_name names g ≡ true → is_new g ≡ false) (plain : is_new f.name ≡ false) (signature : IsSigned k.types n f) where
    no_inputs : DefinesNoInput f
    no_inputs = let b = r.based in let w = b.well in w.no_inputs

    -- what equations of the node stand for
    standing : StandsThere k (lowered_node enums n) f
    standing =
        let c = compilable_law program after q.ready q.removable q.form in
        stands_there laws.made program (lowered_program after) c.0 c.1 (map (lowered_item enums) stands.0) (map (lowered_item enums) earlier) (lowered_node enums n)
        (map_reverse (lowered_item enums) after ∙ ap (map (lowered_item enums)) stands.1 ∙ map-append (lowered_item enums) stands.0 (NodeItem n ∷ earlier)) f made

    module _ (own : Observed) (its : seen f.name ≡ Some own) where
      observer_made : IsMadeOf k_seen (lowered_node enums (observer_of n c)) own.node
      observer_made = (its_made program after q.ready q.removable q.form q.short nothing observable seen are places_same laws.found (suit turn made_law observer_law program after q signs can seen are).1 earlier n stands c has f made own its).0

      -- and those of its observer
      observer_standing : StandsThere k_seen (lowered_node enums (observer_of n c)) own.node
      observer_standing =
          let d = observers_in_order laws.ranks program after ranks order q.removable q.form q.short nothing observable ranked in
          let o = observer_stands program after q.ready q.removable q.form q.short nothing observable earlier n stands c has in
          stands_there laws.made program (lowered_program (observers after)) d.0.0 d.0.1 o.0 (map (lowered_item enums) (observers earlier)) (lowered_node enums (observer_of n c)) o.1 own.node observer_made

      there : CanStand f own.node (own_site (length n.inputs) f)
      there =
          let b = r.based in
          let w = b.well in
          let s = suit turn made_law observer_law program after q signs can seen are in
          let p = puts turn made_law observer_law program after q signs can seen are in
          can_stand f own.node (length n.inputs) w.within (p f.name own its)
          (own_site_is types all r.clock seen n f (of turn made_law observer_law program after q signs can seen are n f names t made r signed plain) s.0 p own its)

      abbrev start : FlatNode
      start = embedded own.node (own_site (length n.inputs) f) f

      -- of free places of comparisons and calls, and of those of the contract
      abbrev Brought : Free → Type 0
      Brought fr = IsStanding f fr × IsClear (length n.inputs) f.inputs f.eqns fr.variable

      abbrev Told : Free → Type 0
      Told fr = IsStanding own.node fr × IsClear (length n.inputs) f.inputs start.eqns (fr.variable + length f.variables)

      abbrev names_here : List ℕ → List (List ℕ)
      names_here = names_of program after q.ready q.removable q.form q.short nothing observable seen are places_same laws.found (suit turn made_law observer_law program after q signs can seen are).1 earlier n stands c has f made own its

      brought-targets : Along (Targets (λ fr p. IsEarly after n p → Brought fr) f.eqns) (walked n f) (found_in_node names_here n)
      brought-targets =
          let p = standing in
          let outs = known-outs program after q.ready q.removable q.form q.short nothing observable seen are places_same laws.found (suit turn made_law observer_law program after q signs can seen are).1 earlier n stands c has f made own its in
          let same : p.outputs ≡ names_here = (λ j g. (p.knows g ∙ ap (map (λ (d : Decl). d.name)) (outs g)) j) in
          let keeps = at_node (KeepsPlaces enums) after earlier n stands (laws.places program after ranks q.ready q.removable order.ordered) in
          subst (λ o. Along (Targets (λ fr p. IsEarly after n p → Brought fr) f.eqns) (walked n f) (found_in_node o n)) same
          (own-targets laws.variables laws.labels laws.walk enums after n c has k k_seen f own.node made p observer_standing no_inputs there keeps)

      told-targets-here : Along (Targets (λ fr p. IsEarly after n p → Told fr) own.node.eqns) (walk_contract c (events_from 0 own.node.eqns)).0 (found_in_contract names_here c)
      told-targets-here =
          let o = observer_standing in
          let nothing_called = calls-nothing program after q.ready q.removable q.form q.short nothing observable seen are places_same laws.found (suit turn made_law observer_law program after q signs can seen are).1 earlier n stands c has f made own its in
          let keeps = at_node (KeepsOwnContract enums enums) after earlier n stands (laws.own program after ranks enums q.ready q.removable order.ordered observable) in
          subst (Along (Targets (λ fr p. IsEarly after n p → Told fr) own.node.eqns) (walk_contract c (events_from 0 own.node.eqns)).0) (found-alone o.outputs names_here c nothing_called)
          (told-targets laws.variables laws.labels laws.walk enums after n c has k k_seen f own.node made standing o no_inputs there keeps)

    module _ (a : Abstraction) (is : IsAbstractionOf after n a) (s : Suits types seen n f a) where
      abbrev w : Watched
      w = s.watched

      abbrev is_early : List Bool
      is_early = map (λ (g : Given). g.is_early) a.given.items

      early_are_clear : EarlyAreClear types all r.clock seen n f (of turn made_law observer_law program after q signs can seen are n f names t made r signed plain) (suit turn made_law observer_law program after q signs can seen are).0
          (puts turn made_law observer_law program after q signs can seen are) (bytes turn made_law observer_law program after q signs can seen are n f names t made r signed plain) is_early w (s.sees).is_watched made.ranked
      early_are_clear =
          let sees = s.sees in
          let watched = sees.is_watched in
          let fits = watched.fits in
          let own = fits.own in
          let its = fits.has in
          let F = laws.flags program after ranks order earlier n stands is.drawn a.machine is.is_drawn is.is_machine in
          let M = F.mirrors in
          let early : Place → Bool = M.is_early in
          let right : (p : Place) → IsFree (free_places after n) p → early p ≡ true → IsEarly after n p = λ p free e. (M.early_places p free).0 e in
          let told : is_early ≡ early_flags early (slots_of_node after n) = ap (map (λ (g : Given). g.is_early)) is.given ∙ F.flags in
          let calls_none = (suit turn made_law observer_law program after q signs can seen are).1 in record {
            given = early_flags early (I program after q.ready q.removable q.form q.short nothing observable seen are places_same laws.found calls_none earlier n stands c has f made own its early right);
            told = early_flags early (contract_slots program after q.ready q.removable q.form q.short nothing observable seen are places_same laws.found calls_none earlier n stands c has f made own its);
            brought = early_flags early (body_slots program after q.ready q.removable q.form q.short nothing observable seen are places_same laws.found calls_none earlier n stands c has f made own its);
            flags = told ∙ flags-are program after q.ready q.removable q.form q.short nothing observable seen are places_same laws.found calls_none earlier n stands c has f made own its early right;
            as_many = flags-of-inputs program after q.ready q.removable q.form q.short nothing observable seen are places_same laws.found calls_none earlier n stands c has f made own its early right signature;
            contract = told-flags program after q.ready q.removable q.form q.short nothing observable seen are places_same laws.found calls_none earlier n stands c has f made own its early right (Told own its) (told-targets-here own its);
            calls = brought-flags program after q.ready q.removable q.form q.short nothing observable seen are places_same laws.found calls_none earlier n stands c has f made own its early right (Brought own its) (brought-targets own its);
          }

      -- no early bit waits for the choice
      pub never_waits : WaitsForChoice w s.controls → ⊥
      never_waits =
          let sees = s.sees in
          let nodes = turn.nodes in
          let it = of turn made_law observer_law program after q signs can seen are n f names t made r signed plain in
          let fit = suit turn made_law observer_law program after q signs can seen are in
          let byte = bytes turn made_law observer_law program after q signs can seen are n f names t made r signed plain in
          let watching = nodes.watching types all r.clock seen n is_early f w byte it fit.0 sees.is_watched in
          let keeps = watching.keeps in
          let grows = keeps.grows in
          let widths = widths_are types (drop (length n.inputs) f.variables) a.machine.widths s.controls s.are in
          let count = widths.0 in
          let many = s.widths in
          let inputs = s.inputs in
          none_waits types all r.clock seen n f it fit.0 (puts turn made_law observer_law program after q signs can seen are) byte is_early w sees.is_watched made.ranked no_inputs early_are_clear s.controls grows.inputs (omega (arith, count, many, inputs))
