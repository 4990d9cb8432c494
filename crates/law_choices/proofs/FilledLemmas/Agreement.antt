-- Nodes of an accepted program and of its filled form agree, where both choose the same values by their inputs.
use Rattle.std.proofs.Common.{◌≡◌, ℕ, List, [], ◌∷◌, ◌++◌, map, refl, sym, ap, ap₂, subst, ◌∙◌}
use Rattle.std.proofs.Math.Path.{fun_ext}
use Rattle.std.specs.Prelude.{Bool, true, false, if◌then◌else◌, None, Some}
use Rattle.std.specs.Str.{bytes_eq}
use Rattle.hp_base.specs.declared.value.Value.{Value}
use Rattle.hp_base.specs.declared.value.Value.TheVariants.{B}
use Rattle.hp_tree.specs.declared.program.Item.{Item}
use Rattle.hp_tree.specs.declared.program.Item.TheVariants.{TypeItem, NodeItem}
use Rattle.hp_tree.specs.Blocks.{Decl}
use Rattle.hp_tree.specs.Programs.{TypeDecl, Node}
use Rattle.hp_tree.specs.Operators.{real, filled}
use Rattle.hp_tree.specs.Instant.{Inputs, Controls, Named, Fresh, Head, Tail, Place, Instant, Past, Given, part, alone, in_row}
use Rattle.hp_tree.specs.Meaning.{Nodes, names_of, node, node_among}
use Rattle.hp_tree.specs.Reaction.{row_of, Each}
use Rattle.hp_meaning.specs.Causal.Causality.{Ranked, IsRanked}
use Rattle.hp_meaning.specs.Causal.Steering.{steered_by}
use Rattle.hp_meaning.proofs.CausalLemmas.Fix.{Fixed}
use Rattle.hp_meaning.proofs.CausalLemmas.Swap.{Agree as Alike, node_swap}
use Rattle.law_judged.specs.Named.Scoped.{EachNode}
use Rattle.law_values.specs.Valued.Classed.{seen_in_node}
use Rattle.law_values.specs.Valued.Fitting.{OutputsFit, NodeFits}
use Rattle.law_values.specs.Valued.Given.{NodeGiven}
use Rattle.law_values.specs.Valued.Values.{scope_behind, either_of, Classing, class_here, class_behind, NodeAccepted, AreAccepted, InstantFits, GivenFits}
use Rattle.law_values.proofs.ValuedLemmas.Joined.{node_ok}
use Rattle.law_values.proofs.ValuedLemmas.Typed.{some_is}
use Rattle.law_values.specs.Filled.Firsts.{NodeHasFirsts}
use Rattle.law_values.specs.Filled.Under.{SameControls}
use Rattle.law_values.proofs.FilledLemmas.FirstsFit.{as_given}
use Rattle.law_values.proofs.FilledLemmas.Programs.{no_variables, outputs_have}
use Rattle.law_values.proofs.FilledLemmas.Marked.{Marks, AllAgree, PastsAgree, of_none, as_type}
use Rattle.law_values.proofs.FilledLemmas.Places.{of_node}
use Rattle.law_values.proofs.FilledLemmas.ClocksFirst.{node_clocks}
use Rattle.law_values.proofs.FilledLemmas.Expressions.{Solved, by, Callees}
use Rattle.law_values.proofs.FilledLemmas.Nodes.{all_first, node_agrees}
use Rattle.law_values.proofs.FilledLemmas.Reached.{ends_agree}
use Rattle.law_values.proofs.FilledLemmas.Agreement.{of_items, IsLocal}
use Rattle.law_choices.specs.Choosing.Choices.{Choices, Choice}
use Rattle.law_choices.specs.Runs.Chosen.{inputs_at, chosen_given, chosen_nodes}
use Rattle.law_choices.specs.Runs.Laws.{ChoosesValues}
use Rattle.law_choices.proofs.RunsLemmas.Chosen.{all_one}
use Rattle.law_choices.proofs.FilledLemmas.Fitting.{steered_fits}

-- ---- the same values are chosen

same_row : (ds : List Decl) (i j : Instant) → ((p : Place) → j p ≡ i p) → row_of ds j ≡ row_of ds i
same_row [] i j h = refl
same_row (d ∷ ds) i j h = ap₂ (λ v vs. v ∷ vs) (h (Head ∷ [])) (same_row ds (part Tail i) (part Tail j) (λ p. h (Tail ∷ p)))

-- the same inputs were there before, as no input is marked
same_inputs : (types : List TypeDecl) (n : Node) (T : Marks) → ((p : Place) → T (Inputs ∷ p) ≡ None) → (past other : Past) → PastsAgree types T past other → map (inputs_at n) other ≡ map (inputs_at n) past
same_inputs types n T none [] [] h = refl
same_inputs types n T none (i ∷ past) (j ∷ other) h =
    ap₂ (λ vs rows. vs ∷ rows) (same_row n.inputs (part Inputs i) (part Inputs j) (λ p. of_none types (i (Inputs ∷ p)) (j (Inputs ∷ p)) (as_type types (T (Inputs ∷ p)) None (i (Inputs ∷ p)) (j (Inputs ∷ p)) (none p) (h.0 (Inputs ∷ p)))))
    (same_inputs types n T none past other h.1)
same_inputs types n T none [] (j ∷ other) h = absurd h
same_inputs types n T none (i ∷ past) [] h = absurd h

steered_same : (free other controls controls' : Instant) → ((q : Place) → controls' q ≡ controls q) → SameControls free other → SameControls (steered_by free controls) (steered_by other controls')
steered_same free other controls controls' e h [] q = e q
steered_same free other controls controls' e h (Controls ∷ p) q = e (p ++ Controls ∷ q)
steered_same free other controls controls' e h (s ∷ p) q = h (s ∷ p) q

given_same : (choice : Choice) (n : Node) (inputs : List Value) (g g' : Given) → map (inputs_at n) g'.past ≡ map (inputs_at n) g.past → SameControls g.free g'.free → SameControls (chosen_given choice n inputs g).free (chosen_given choice n inputs g').free
given_same choice n inputs g g' e h =
    steered_same g.free g'.free (in_row (map alone (choice inputs (map (inputs_at n) g.past)))) (in_row (map alone (choice inputs (map (inputs_at n) g'.past)))) (λ q. ap (λ rows. in_row (map alone (choice inputs rows)) q) e) h

-- ---- the nodes of a program

outputs_alike : (choices : Choices) (types : List TypeDecl) (items : List Item) (f : List ℕ) → (chosen_nodes choices types filled items).outputs f ≡ (chosen_nodes choices types real items).outputs f
outputs_alike choices types [] f = refl
outputs_alike choices types (TypeItem t ∷ earlier) f = outputs_alike choices types earlier f
outputs_alike choices types (NodeItem n ∷ earlier) f = ap (λ r. if bytes_eq n.name f then names_of n.outputs else r) (outputs_alike choices types earlier f)

module _ (choices : Choices) (types : List TypeDecl) (local : (outputs : List ℕ → List (List ℕ)) (S : Solved) (n : Node) → Ranked n → (inputs : List Value) (g : Given) → IsLocal types outputs S n inputs g) where
  abbrev said : List Item → Nodes
  said items = chosen_nodes choices types real items

  abbrev firm : List Item → Nodes
  firm items = chosen_nodes choices types filled items

  -- the instants of the filled form
  pub ones : (items : List Item) → IsRanked items → Solved
  ones items r f inputs g = (all_one choices types filled items r f inputs g).now

  abbrev Known : Classing → (items : List Item) → IsRanked items → Type 0
  Known class items r = Callees types (said items) (ones items r) (node_among items) (InstantFits types true class items) (GivenFits types false as_given items) (of_items class items)

  ones_meet : (items : List Item) (r : IsRanked items) (f : List ℕ) (inputs : List Value) (g : Given) → Fixed ((firm items).instant f inputs g) (ones items r f inputs g)
  unfolding ones
  ones_meet items r f inputs g = (all_one choices types filled items r f inputs g).meets

  pub ones_only : (items : List Item) (r : IsRanked items) (f : List ℕ) (inputs : List Value) (g : Given) (i : Instant) → Fixed ((firm items).instant f inputs g) i → (p : Place) → i p ≡ ones items r f inputs g p
  unfolding ones
  ones_only items r f inputs g i h p = (all_one choices types filled items r f inputs g).only i h p

  module _ (class : Classing) (n : Node) (items : List Item) (r : IsRanked items) (o : Ranked n) (known : Known (class_behind class) items r) (ok : NodeAccepted types (node_among items) (scope_behind items) (class_here class) n) (hf : NodeHasFirsts types n) (values : ChoosesValues types choices n) where
    abbrev own : Marks
    own = of_node (of_items (class_behind class) items) (scope_behind items) (seen_in_node (class_here class) n) n

    abbrev Here : Instant → Type 0
    Here i = NodeFits types true (InstantFits types true (class_behind class) items) (scope_behind items) (seen_in_node (class_here class) n) n i

    abbrev GivenHere : Instant → Type 0
    GivenHere i = NodeGiven types false as_given (GivenFits types false as_given items) (scope_behind items) n i

    to_ones : Alike (firm items).instant (λ f vs g now. ones items r f vs g)
    to_ones f vs g i h p = sym (h p) ∙ ones_only items r f vs g i h p

    -- the filled form of the node, where the nodes that it calls are solved
    end_fixed : (inputs : List Value) (g : Given) (j : Instant) → Fixed (node types filled (firm items) n inputs g) j → Fixed (node types filled (by (said items).outputs (ones items r)) n inputs g) j
    end_fixed inputs g j h =
        subst (λ z. Fixed (node types filled (by z (ones items r)) n inputs g) j) (fun_ext (outputs_alike choices types items))
        (λ q. h q ∙ node_swap types filled (firm items).outputs (firm items).instant (λ f vs g now. ones items r f vs g) to_ones n inputs g j h q)

    unmarked : (p : Place) → own (Inputs ∷ p) ≡ None
    unmarked p = refl

    here_agrees : (inputs : List Value) (g g' : Given) (i j : Instant) → Here i → Each Here g.past → PastsAgree types own g.past g'.past → GivenHere g'.free → SameControls g.free g'.free
        → Fixed (node types real (said items) n inputs (chosen_given (choices n.name) n inputs g)) i → Fixed (node types filled (firm items) n inputs (chosen_given (choices n.name) n inputs g')) j → AllAgree types own i j
    here_agrees inputs g g' i j cur past pasts gv cs m h =
        let c = chosen_given (choices n.name) n inputs g in
        let c' = chosen_given (choices n.name) n inputs g' in
        let l = local (said items).outputs (ones items r) n o inputs c' in
        let given = steered_fits types (GivenFits types false as_given items) choices (scope_behind items) n values inputs g' gv in
        let controls = given_same (choices n.name) n inputs g g' (same_inputs types n own unmarked g.past g'.past pasts) cs in
        ends_agree types own i (node types filled (by (said items).outputs (ones items r)) n inputs c') l.0 l.1.0 l.1.1.0 l.1.1.1
        (λ z agree.
        node_agrees types (said items) (ones items r) (node_among items) (InstantFits types true (class_behind class) items) (GivenFits types false as_given items) (of_items (class_behind class) items) known (scope_behind items) (seen_in_node (class_here class) n) n
        (no_variables items) ok.plain ok.plain_contract (node_ok types (node_among items) n (scope_behind items) (class_here class) ok.sound ok.classes)
        (node_clocks n (class_here class) ok.classes.met (all_first types (node_among items) n (class_here class) ok.sound.1.1.1.0 ok.classes.definite)) hf inputs c c' i z cur past pasts given controls agree m)
        j (end_fixed inputs c' j h)

    module _ (f : List ℕ) where
      abbrev Fits : Bool → Instant → Type 0
      Fits b i = either_of b (Here i) (InstantFits types true (class_behind class) items f i)

      abbrev Gives : Bool → Instant → Type 0
      Gives b i = either_of b (GivenHere i) (GivenFits types false as_given items f i)

      abbrev Marked : Bool → Marks
      Marked b p = if b then own p else of_items (class_behind class) items f p

      outputs_by : (b : Bool) (m : Node) → (if b then Some n else node_among items f) ≡ Some m → (if b then names_of n.outputs else (said items).outputs f) ≡ names_of m.outputs
      outputs_by true m e = ap (λ (z : Node). names_of z.outputs) (some_is n m e)
      outputs_by false m e = known.outputs f m e

      gives_by : (b : Bool) (m : Node) (i : Instant) → (if b then Some n else node_among items f) ≡ Some m → Fits b i → OutputsFit types m.outputs i
      gives_by true m i e h = subst (λ (z : Node). OutputsFit types z.outputs i) (some_is n m e) h.0.0
      gives_by false m i e h = known.gives f m i e h

      fresh_by : (b : Bool) (m : Node) (inputs : List Value) (g : Given) (i : Instant) → (if b then Some n else node_among items f) ≡ Some m
          → (if b then node types real (said items) n inputs (chosen_given (choices n.name) n inputs g) i else (said items).instant f inputs g i) (Fresh ∷ []) ≡ B false
      fresh_by true m inputs g i e = refl
      fresh_by false m inputs g i e = known.fresh f m inputs g i e

      named_by : (b : Bool) (x : List ℕ) → Marked b (Named x ∷ []) ≡ None
      named_by true x = refl
      named_by false x = known.named f x

      word_by : (b : Bool) → Marked b (Fresh ∷ []) ≡ None
      word_by true = refl
      word_by false = known.word f

      agree_by : (b : Bool) (m : Node) (inputs : List Value) (g g' : Given) (i j : Instant) → (if b then Some n else node_among items f) ≡ Some m → Fits b i → Each (Fits b) g.past → PastsAgree types (Marked b) g.past g'.past → Gives b g'.free → SameControls g.free g'.free
          → ((p : Place) → i p ≡ (if b then node types real (said items) n inputs (chosen_given (choices n.name) n inputs g) i else (said items).instant f inputs g i) p)
          → ((p : Place) → j p ≡ (if b then node types filled (firm items) n inputs (chosen_given (choices n.name) n inputs g') j else (firm items).instant f inputs g' j) p) → AllAgree types (Marked b) i j
      agree_by true m inputs g g' i j e cur past pasts gv cs h k = here_agrees inputs g g' i j cur past pasts gv cs h k
      agree_by false m inputs g g' i j e cur past pasts gv cs h k =
          subst (λ z. AllAgree types (of_items (class_behind class) items f) i z) (sym (fun_ext (ones_only items r f inputs g' j k))) (known.agree f m inputs g g' i e cur past pasts gv cs h)

  pub all_known : (class : Classing) (items : List Item) (r : IsRanked items) → AreAccepted types class items → EachNode (NodeHasFirsts types) items → EachNode (ChoosesValues types choices) items → Known class items r
  all_known class [] r ok hf values = record {
    firsts = λ f n e. absurd (cc);
    outputs = λ f n e. absurd (cc);
    gives = λ f n i e h. absurd (cc);
    fresh = λ f n inputs g i e. absurd (cc);
    named = λ f x. refl;
    word = λ f. refl;
    agree = λ f n inputs g g' i e cur past pasts gv cs h. absurd (cc);
  }
  all_known class (TypeItem t ∷ items) r ok hf values =
      let k = all_known class items r ok hf values in
      record {
        firsts = k.firsts;
        outputs = k.outputs;
        gives = k.gives;
        fresh = k.fresh;
        named = k.named;
        word = k.word;
        agree = λ f n inputs g g' i e cur past pasts gv cs h.
            subst (λ z. AllAgree types (of_items class items f) i z) (sym (fun_ext (ones_only items r f inputs g' (ones (TypeItem t ∷ items) r f inputs g') (ones_meet (TypeItem t ∷ items) r f inputs g'))))
            (k.agree f n inputs g g' i e cur past pasts gv cs h);
      }
  all_known class (NodeItem n ∷ items) r ok hf values =
      let k = all_known (class_behind class) items r.1 ok.1 hf.1 values.1 in
      record {
        firsts = outputs_have types (NodeItem n ∷ items) hf;
        outputs = λ f m e. outputs_by class n items r.1 r.0 k ok.0 hf.0 values.0 f (bytes_eq n.name f) m e;
        gives = λ f m i e h. gives_by class n items r.1 r.0 k ok.0 hf.0 values.0 f (bytes_eq n.name f) m i e h;
        fresh = λ f m inputs g i e. fresh_by class n items r.1 r.0 k ok.0 hf.0 values.0 f (bytes_eq n.name f) m inputs g i e;
        named = λ f x. named_by class n items r.1 r.0 k ok.0 hf.0 values.0 f (bytes_eq n.name f) x;
        word = λ f. word_by class n items r.1 r.0 k ok.0 hf.0 values.0 f (bytes_eq n.name f);
        agree = λ f m inputs g g' i e cur past pasts gv cs h.
            agree_by class n items r.1 r.0 k ok.0 hf.0 values.0 f (bytes_eq n.name f) m inputs g g' i (ones (NodeItem n ∷ items) r f inputs g') e cur past pasts gv cs h (ones_meet (NodeItem n ∷ items) r f inputs g');
      }
