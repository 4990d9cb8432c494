-- In a reaction with chosen values each instant fits, where values of the types are chosen.
use Rattle.std.proofs.Common.{◌≡◌, ℕ, List, [], ◌∷◌, map, reverse, sym, ap, subst}
use Rattle.std.specs.Prelude.{⊤, Bool, true, false, if◌then◌else◌, Some}
use Rattle.std.specs.Str.{bytes_eq}
use Rattle.hp_base.specs.declared.value.Value.{Value}
use Rattle.hp_tree.specs.declared.program.Item.{Item}
use Rattle.hp_tree.specs.declared.program.Item.TheVariants.{TypeItem, NodeItem}
use Rattle.hp_tree.specs.Blocks.{Decl}
use Rattle.hp_tree.specs.Programs.{TypeDecl, Node}
use Rattle.hp_tree.specs.Values.{AreOf}
use Rattle.hp_tree.specs.Instant.{Place, Instant, Past, Given, alone, in_row}
use Rattle.hp_tree.specs.Meaning.{Nodes, names_of, node, types_of, controls_of, node_among}
use Rattle.hp_tree.specs.Reaction.{Each}
use Rattle.hp_meaning.specs.Causal.Causality.{Ranked, IsRanked}
use Rattle.hp_meaning.specs.Causal.OneReaction.{ReactionOf}
use Rattle.hp_meaning.proofs.CausalLemmas.Unique.{ranked_reverse}
use Rattle.hp_typing.specs.Scopes.{with_variables, inside_node}
use Rattle.law_judged.specs.Typed.Scopes.{Scope}
use Rattle.law_judged.specs.Named.Scoped.{EachNode}
use Rattle.law_values.specs.Valued.Classed.{seen_in_node}
use Rattle.law_values.specs.Valued.Fitting.{OutputsFit, NodeFits}
use Rattle.law_values.specs.Valued.Given.{reading, ControlsGiven, NodeGiven}
use Rattle.law_values.specs.Valued.Values.{scope_behind, either_of, Classing, class_here, class_behind, AreAccepted, InstantFits}
use Rattle.law_values.proofs.ValuedLemmas.ExprTops.{Callees}
use Rattle.law_values.proofs.ValuedLemmas.Joined.{node_ok}
use Rattle.law_values.proofs.ValuedLemmas.NodeWhole.{node_whole}
use Rattle.law_values.proofs.ValuedLemmas.Typed.{some_is}
use Rattle.law_values.proofs.AcceptedLemmas.Outputs.{undefined, block_given, contract_given}
use Rattle.law_choices.specs.Choosing.Choices.{Choices}
use Rattle.law_choices.specs.Runs.Chosen.{chosen_given, chosen_nodes, chosen_meaning}
use Rattle.law_choices.specs.Runs.Laws.{ChoosesValues}

-- ---- what is given

-- nothing else is asked of what an instance is given
abbrev Anything : List ℕ → Instant → Type 0
Anything f i = ⊤

module _ (types : List TypeDecl) where
  controls_given : (ds : List Decl) (vs : List Value) → AreOf types ds vs → ControlsGiven types true undefined Anything ds (in_row (map alone vs))
  controls_given [] vs h = tt
  controls_given (d ∷ ds) [] h = absurd h
  controls_given (d ∷ ds) (v ∷ vs) h = (h.0, controls_given ds vs h.1)

  pub given_fits : (choices : Choices) (s : Scope) (n : Node) → ChoosesValues types choices n → (inputs : List Value) (g : Given) → NodeGiven types true undefined Anything s n (chosen_given (choices n.name) n inputs g).free
  given_fits choices s n values inputs g =
      let free = (chosen_given (choices n.name) n inputs g).free in (
        (
          controls_given (controls_of n.contract) (choices n.name inputs _) (values inputs _),
          block_given types Anything (λ f i. tt) (with_variables (inside_node s n) (controls_of n.contract)) n.body _,
        ),
        contract_given types Anything (λ f i. tt) (inside_node s n) n.contract free,
      )

-- ---- the nodes of a program

module _ (choices : Choices) (types : List TypeDecl) where
  abbrev chosen : List Item → Nodes
  chosen items = chosen_nodes choices types (reading undefined) items

  abbrev Known : Classing → List Item → Type 0
  Known class items = Callees types true (reading undefined) (chosen items) (node_among items) (InstantFits types true class items) Anything

  abbrev Here : Classing → Node → List Item → Instant → Type 0
  Here class n items i = NodeFits types true (InstantFits types true (class_behind class) items) (scope_behind items) (seen_in_node (class_here class) n) n i

  module _ (class : Classing) (n : Node) (items : List Item) (known : Known (class_behind class) items) (ok : AreAccepted types class (NodeItem n ∷ items)) (o : Ranked n) (values : ChoosesValues types choices n) (f : List ℕ) where
    outputs_by : (d : Bool) (m : Node) → (if d then Some n else node_among items f) ≡ Some m → (if d then names_of n.outputs else (chosen items).outputs f) ≡ names_of m.outputs
    outputs_by true m e = ap (λ (z : Node). names_of z.outputs) (some_is n m e)
    outputs_by false m e = known.outputs f m e

    gives_by : (d : Bool) (m : Node) (i : Instant) → (if d then Some n else node_among items f) ≡ Some m → either_of d (Here class n items i) (InstantFits types true (class_behind class) items f i) → OutputsFit types m.outputs i
    gives_by true m i e h = subst (λ (z : Node). OutputsFit types z.outputs i) (some_is n m e) h.0.0
    gives_by false m i e h = known.gives f m i e h

    fit_by : (d : Bool) (m : Node) (inputs : List Value) (g : Given) (i : Instant) → (if d then Some n else node_among items f) ≡ Some m → AreOf types m.inputs inputs → Each (λ j. either_of d (Here class n items j) (InstantFits types true (class_behind class) items f j)) g.past
        → ((p : Place) → i p ≡ (if d then node types (reading undefined) (chosen items) n inputs (chosen_given (choices n.name) n inputs g) i else (chosen items).instant f inputs g i) p)
        → either_of d (Here class n items i) (InstantFits types true (class_behind class) items f i)
    fit_by true m inputs g i e v a h =
        node_whole types true undefined (chosen items) (node_among items) (InstantFits types true (class_behind class) items) Anything known (scope_behind items) (seen_in_node (class_here class) n) n o ok.0.clocks ok.0.plain ok.0.plain_contract
        (node_ok types (node_among items) n (scope_behind items) (class_here class) ok.0.sound ok.0.classes) inputs (chosen_given (choices n.name) n inputs g) i
        (subst (λ (z : Node). AreOf types z.inputs inputs) (sym (some_is n m e)) v) (given_fits types choices (scope_behind items) n values inputs g) a h
    fit_by false m inputs g i e v a h = known.fit f m inputs g i e v a tt h

  callees : (class : Classing) (items : List Item) → AreAccepted types class items → IsRanked items → EachNode (ChoosesValues types choices) items → Known class items
  callees class [] ok r values = record { outputs = λ f n e. absurd (cc); fit = λ f n inputs g i e v a gv h. tt; gives = λ f n i e h. absurd (cc) }
  callees class (TypeItem t ∷ items) ok r values = callees class items ok r values
  callees class (NodeItem n ∷ items) ok r values =
      let known = callees (class_behind class) items ok.1 r.1 values.1 in
      record {
        outputs = λ f m e. outputs_by class n items known ok r.0 values.0 f (bytes_eq n.name f) m e;
        fit = λ f m inputs g i e v a gv h. fit_by class n items known ok r.0 values.0 f (bytes_eq n.name f) m inputs g i e v a h;
        gives = λ f m i e h. gives_by class n items known ok r.0 values.0 f (bytes_eq n.name f) m i e h;
      }

-- ---- reactions

pub chosen_fit : (choices : Choices) (program : List Item) (class : Classing) (f : List ℕ) (n : Node) (inputs : List (List Value)) (frees : List Instant) (past : Past) → AreAccepted (types_of program) class (reverse program) → IsRanked program
    → EachNode (ChoosesValues (types_of program) choices) (reverse program) → node_among (reverse program) f ≡ Some n → Each (AreOf (types_of program) n.inputs) inputs → ReactionOf (chosen_meaning choices (reading undefined) program f) inputs frees past
    → Each (InstantFits (types_of program) true class (reverse program) f) past
chosen_fit choices program class f n [] [] [] ok r values e v h = tt
chosen_fit choices program class f n (vs ∷ inputs) (free ∷ frees) (now ∷ past) ok r values e v h =
    let before = chosen_fit choices program class f n inputs frees past ok r values e v.1 h.0 in
    ((callees choices (types_of program) class (reverse program) ok (ranked_reverse program r) values).fit f n vs (record { past = past; free = free }) now e v.0 before tt h.1, before)
chosen_fit choices program class f n [] [] (now ∷ past) ok r values e v h = absurd h
chosen_fit choices program class f n [] (free ∷ frees) past ok r values e v h = absurd h
chosen_fit choices program class f n (vs ∷ inputs) [] past ok r values e v h = absurd h
chosen_fit choices program class f n (vs ∷ inputs) (free ∷ frees) [] ok r values e v h = absurd h
