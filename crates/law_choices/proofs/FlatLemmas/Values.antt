-- In the filled form with chosen values each instant fits, where values of the types are chosen.
use Rattle.std.proofs.Common.{◌≡◌, ℕ, List, [], ◌∷◌, map, sym, ap, subst}
use Rattle.std.specs.Prelude.{Bool, true, false, if◌then◌else◌, Option, None, Some}
use Rattle.std.specs.Str.{bytes_eq}
use Rattle.hp_base.specs.declared.value.Value.{Value}
use Rattle.hp_tree.specs.declared.program.Item.{Item}
use Rattle.hp_tree.specs.declared.program.Item.TheVariants.{TypeItem, NodeItem}
use Rattle.hp_tree.specs.Blocks.{Decl}
use Rattle.hp_tree.specs.Programs.{TypeDecl, Contract, Node}
use Rattle.hp_tree.specs.Values.{AreOf}
use Rattle.hp_tree.specs.Instant.{Place, Instant, Given, alone, in_row}
use Rattle.hp_tree.specs.Meaning.{Nodes, names_of, node, controls_of, node_among}
use Rattle.hp_tree.specs.Reaction.{Each}
use Rattle.hp_meaning.specs.Causal.Causality.{Ranked, IsRanked}
use Rattle.hp_meaning.specs.Causal.Steering.{steered_by}
use Rattle.law_judged.specs.Typed.Scopes.{Scope}
use Rattle.law_judged.specs.Named.Scoped.{EachNode}
use Rattle.law_values.specs.Valued.Classed.{seen_in_node}
use Rattle.law_values.specs.Valued.Fitting.{OutputsFit, NodeFits}
use Rattle.law_values.specs.Valued.Given.{reading, ControlsGiven, ContractGiven, NodeGiven}
use Rattle.law_values.specs.Valued.Values.{scope_behind, either_of, Classing, class_here, class_behind, AreAccepted, InstantFits, GivenFits}
use Rattle.law_values.proofs.ValuedLemmas.ExprTops.{Callees}
use Rattle.law_values.proofs.ValuedLemmas.Joined.{node_ok}
use Rattle.law_values.proofs.ValuedLemmas.NodeWhole.{node_whole}
use Rattle.law_values.proofs.ValuedLemmas.Typed.{some_is}
use Rattle.law_wellmade.proofs.TimelyLemmas.Actual.{first}
use Rattle.law_choices.specs.Choosing.Choices.{Choices}
use Rattle.law_choices.specs.Runs.Chosen.{chosen_given, chosen_nodes}
use Rattle.law_choices.specs.Runs.Laws.{ChoosesValues}

-- ---- what is given

module _ (types : List TypeDecl) (allowed : List ℕ → Instant → Type 0) where
  controls_given : (ds : List Decl) (vs : List Value) → AreOf types ds vs → ControlsGiven types false first allowed ds (in_row (map alone vs))
  controls_given [] vs h = tt
  controls_given (d ∷ ds) [] h = absurd h
  controls_given (d ∷ ds) (v ∷ vs) h = (h.0, controls_given ds vs h.1)

  contract_given : (s : Scope) (c : Option Contract) (free row : Instant) → ContractGiven types false first allowed s c free → ContractGiven types false first allowed s c (steered_by free row)
  contract_given s None free row h = tt
  contract_given s (Some c) free row h = h

  -- where what is given fits, it does with chosen values of the types
  pub steered_fits : (s : Scope) (n : Node) (free : Instant) (vs : List Value) → AreOf types (controls_of n.contract) vs → NodeGiven types false first allowed s n free → NodeGiven types false first allowed s n (steered_by free (in_row (map alone vs)))
  steered_fits s n free vs values h = ((controls_given (controls_of n.contract) vs values, h.0.1), contract_given _ n.contract free (in_row (map alone vs)) h.1)

-- ---- the nodes of a program

module _ (choices : Choices) (types : List TypeDecl) where
  abbrev chosen : List Item → Nodes
  chosen items = chosen_nodes choices types (reading first) items

  abbrev Known : Classing → List Item → Type 0
  Known class items = Callees types false (reading first) (chosen items) (node_among items) (InstantFits types false class items) (GivenFits types false first items)

  abbrev Here : Classing → Node → List Item → Instant → Type 0
  Here class n items i = NodeFits types false (InstantFits types false (class_behind class) items) (scope_behind items) (seen_in_node (class_here class) n) n i

  abbrev GivenHere : Node → List Item → Instant → Type 0
  GivenHere n items i = NodeGiven types false first (GivenFits types false first items) (scope_behind items) n i

  module _ (class : Classing) (n : Node) (items : List Item) (known : Known (class_behind class) items) (ok : AreAccepted types class (NodeItem n ∷ items)) (o : Ranked n) (values : ChoosesValues types choices n) (f : List ℕ) where
    outputs_by : (d : Bool) (m : Node) → (if d then Some n else node_among items f) ≡ Some m → (if d then names_of n.outputs else (chosen items).outputs f) ≡ names_of m.outputs
    outputs_by true m e = ap (λ (z : Node). names_of z.outputs) (some_is n m e)
    outputs_by false m e = known.outputs f m e

    gives_by : (d : Bool) (m : Node) (i : Instant) → (if d then Some n else node_among items f) ≡ Some m → either_of d (Here class n items i) (InstantFits types false (class_behind class) items f i) → OutputsFit types m.outputs i
    gives_by true m i e h = subst (λ (z : Node). OutputsFit types z.outputs i) (some_is n m e) h.0.0
    gives_by false m i e h = known.gives f m i e h

    fit_by : (d : Bool) (m : Node) (inputs : List Value) (g : Given) (i : Instant) → (if d then Some n else node_among items f) ≡ Some m → AreOf types m.inputs inputs → Each (λ j. either_of d (Here class n items j) (InstantFits types false (class_behind class) items f j)) g.past
        → either_of d (GivenHere n items g.free) (GivenFits types false first items f g.free)
        → ((p : Place) → i p ≡ (if d then node types (reading first) (chosen items) n inputs (chosen_given (choices n.name) n inputs g) i else (chosen items).instant f inputs g i) p)
        → either_of d (Here class n items i) (InstantFits types false (class_behind class) items f i)
    fit_by true m inputs g i e v a gv h =
        node_whole types false first (chosen items) (node_among items) (InstantFits types false (class_behind class) items) (GivenFits types false first items) known (scope_behind items) (seen_in_node (class_here class) n) n o ok.0.clocks ok.0.plain ok.0.plain_contract
        (node_ok types (node_among items) n (scope_behind items) (class_here class) ok.0.sound ok.0.classes) inputs (chosen_given (choices n.name) n inputs g) i
        (subst (λ (z : Node). AreOf types z.inputs inputs) (sym (some_is n m e)) v) (steered_fits types (GivenFits types false first items) (scope_behind items) n g.free (choices n.name inputs _) (values inputs _) gv) a h
    fit_by false m inputs g i e v a gv h = known.fit f m inputs g i e v a gv h

  pub callees : (class : Classing) (items : List Item) → AreAccepted types class items → IsRanked items → EachNode (ChoosesValues types choices) items → Known class items
  callees class [] ok r values = record { outputs = λ f n e. absurd (cc); fit = λ f n inputs g i e v a gv h. tt; gives = λ f n i e h. absurd (cc) }
  callees class (TypeItem t ∷ items) ok r values = callees class items ok r values
  callees class (NodeItem n ∷ items) ok r values =
      let known = callees (class_behind class) items ok.1 r.1 values.1 in
      record {
        outputs = λ f m e. outputs_by class n items known ok r.0 values.0 f (bytes_eq n.name f) m e;
        fit = λ f m inputs g i e v a gv h. fit_by class n items known ok r.0 values.0 f (bytes_eq n.name f) m inputs g i e v a gv h;
        gives = λ f m i e h. gives_by class n items known ok r.0 values.0 f (bytes_eq n.name f) m i e h;
      }
