-- A reaction of an accepted program and one of its filled form agree.
use Rattle.std.proofs.Common.{◌≡◌, ℕ, ◌<◌, List, [], ◌∷◌, refl, sym, ap, subst, ◌∙◌}
use Rattle.std.proofs.Math.Path.{fun_ext}
use Rattle.std.specs.Prelude.{Bool, true, false, if◌then◌else◌, None, Some}
use Rattle.std.specs.Str.{bytes_eq}
use Rattle.hp_base.specs.declared.value.Value.{Value}
use Rattle.hp_base.specs.declared.value.Value.TheVariants.{B}
use Rattle.hp_tree.specs.declared.program.Item.{Item}
use Rattle.hp_tree.specs.declared.program.Item.TheVariants.{TypeItem, NodeItem}
use Rattle.hp_tree.specs.Programs.{TypeDecl, Node}
use Rattle.hp_tree.specs.Operators.{real, filled}
use Rattle.hp_tree.specs.Instant.{Named, Fresh, Place, Instant, Given}
use Rattle.hp_tree.specs.Meaning.{names_of, node, nodes, node_among}
use Rattle.hp_tree.specs.Reaction.{Each}
use Rattle.hp_meaning.specs.Causal.Causality.{Ranked, IsRanked}
use Rattle.hp_meaning.proofs.CausalLemmas.Fix.{Local, Fixed}
use Rattle.hp_meaning.proofs.CausalLemmas.Swap.{Agree as Alike, node_swap}
use Rattle.hp_meaning.proofs.CausalLemmas.Unique.{nodes_one}
use Rattle.law_judged.specs.Named.Scoped.{EachNode}
use Rattle.law_values.specs.Valued.Classed.{seen_in_node}
use Rattle.law_values.specs.Valued.Fitting.{OutputsFit, NodeFits}
use Rattle.law_values.specs.Valued.Given.{NodeGiven}
use Rattle.law_values.specs.Valued.Values.{scope_behind, either_of, Classing, class_here, class_behind, NodeAccepted, AreAccepted, InstantFits, GivenFits}
use Rattle.law_values.proofs.ValuedLemmas.Joined.{node_ok}
use Rattle.law_values.proofs.ValuedLemmas.Typed.{some_is}
use Rattle.law_values.specs.Filled.Firsts.{NodeHasFirsts}
use Rattle.law_values.proofs.FilledLemmas.FirstsFit.{as_given}
use Rattle.law_values.proofs.FilledLemmas.Programs.{no_variables, outputs_have}
use Rattle.law_values.proofs.FilledLemmas.Marked.{Marks, AllAgree, PastsAgree}
use Rattle.law_values.proofs.FilledLemmas.Places.{of_node}
use Rattle.law_values.proofs.FilledLemmas.ClocksFirst.{node_clocks}
use Rattle.law_values.specs.Filled.Under.{SameControls}
use Rattle.law_values.proofs.FilledLemmas.Expressions.{Solved, by, Callees}
use Rattle.law_values.proofs.FilledLemmas.Nodes.{all_first, node_agrees}
use Rattle.law_values.proofs.FilledLemmas.Reached.{ends_agree}

-- the marks of the node of a name
abbrev pub of_items : Classing → List Item → List ℕ → Marks
of_items class [] f p = None
of_items class (TypeItem t ∷ earlier) f p = of_items class earlier f p
of_items class (NodeItem n ∷ earlier) f p =
    if bytes_eq n.name f then of_node (of_items (class_behind class) earlier) (scope_behind earlier) (seen_in_node (class_here class) n) n p else of_items (class_behind class) earlier f p

outputs_alike : (types : List TypeDecl) (items : List Item) (f : List ℕ) → (nodes types filled items).outputs f ≡ (nodes types real items).outputs f
outputs_alike types [] f = refl
outputs_alike types (TypeItem t ∷ earlier) f = outputs_alike types earlier f
outputs_alike types (NodeItem n ∷ earlier) f = ap (λ r. if bytes_eq n.name f then names_of n.outputs else r) (outputs_alike types earlier f)

-- What a ranked node says at a place looks at places of less rank alone, where the nodes that it calls are solved.
abbrev pub IsLocal : List TypeDecl → (List ℕ → List (List ℕ)) → Solved → Node → List Value → Given → Type 0
IsLocal types outputs S n inputs g = (rank : Place → ℕ) × ((bound : ℕ) × (((p : Place) → rank p < bound) × Local (node types filled (by outputs S) n inputs g) rank))

module _ (types : List TypeDecl) (local : (outputs : List ℕ → List (List ℕ)) (S : Solved) (n : Node) → Ranked n → (inputs : List Value) (g : Given) → IsLocal types outputs S n inputs g) where
  -- the instants of the filled form
  pub ones : (items : List Item) → IsRanked items → Solved
  ones items r f inputs g = (nodes_one types filled items r f inputs g).now

  abbrev Known : Classing → (items : List Item) → IsRanked items → Type 0
  Known class items r = Callees types (nodes types real items) (ones items r) (node_among items) (InstantFits types true class items) (GivenFits types false as_given items) (of_items class items)

  pub ones_meet : (items : List Item) (r : IsRanked items) (f : List ℕ) (inputs : List Value) (g : Given) → Fixed ((nodes types filled items).instant f inputs g) (ones items r f inputs g)
  unfolding ones
  ones_meet items r f inputs g = (nodes_one types filled items r f inputs g).meets

  pub ones_only : (items : List Item) (r : IsRanked items) (f : List ℕ) (inputs : List Value) (g : Given) (i : Instant) → Fixed ((nodes types filled items).instant f inputs g) i → (p : Place) → i p ≡ ones items r f inputs g p
  unfolding ones
  ones_only items r f inputs g i h p = (nodes_one types filled items r f inputs g).only i h p

  module _ (class : Classing) (n : Node) (items : List Item) (r : IsRanked items) (o : Ranked n) (known : Known (class_behind class) items r) (ok : NodeAccepted types (node_among items) (scope_behind items) (class_here class) n) (hf : NodeHasFirsts types n) where
    abbrev own : Marks
    own = of_node (of_items (class_behind class) items) (scope_behind items) (seen_in_node (class_here class) n) n

    abbrev Here : Instant → Type 0
    Here i = NodeFits types true (InstantFits types true (class_behind class) items) (scope_behind items) (seen_in_node (class_here class) n) n i

    abbrev GivenHere : Instant → Type 0
    GivenHere i = NodeGiven types false as_given (GivenFits types false as_given items) (scope_behind items) n i

    to_ones : Alike (nodes types filled items).instant (λ f vs g now. ones items r f vs g)
    to_ones f vs g i h p = sym (h p) ∙ ones_only items r f vs g i h p

    -- the filled form of the node, where the nodes that it calls are solved
    end_fixed : (inputs : List Value) (g : Given) (j : Instant) → Fixed (node types filled (nodes types filled items) n inputs g) j → Fixed (node types filled (by (nodes types real items).outputs (ones items r)) n inputs g) j
    end_fixed inputs g j h =
        subst (λ z. Fixed (node types filled (by z (ones items r)) n inputs g) j) (fun_ext (outputs_alike types items))
        (λ q. h q ∙ node_swap types filled (nodes types filled items).outputs (nodes types filled items).instant (λ f vs g now. ones items r f vs g) to_ones n inputs g j h q)

    here_agrees : (inputs : List Value) (g g' : Given) (i j : Instant) → Here i → Each Here g.past → PastsAgree types own g.past g'.past → GivenHere g'.free → SameControls g.free g'.free → Fixed (node types real (nodes types real items) n inputs g) i → Fixed (node types filled (nodes types filled items) n inputs g') j → AllAgree types own i j
    here_agrees inputs g g' i j cur past pasts gv cs m h =
        let l = local (nodes types real items).outputs (ones items r) n o inputs g' in
        ends_agree types own i (node types filled (by (nodes types real items).outputs (ones items r)) n inputs g') l.0 l.1.0 l.1.1.0 l.1.1.1
        (λ z agree.
        node_agrees types (nodes types real items) (ones items r) (node_among items) (InstantFits types true (class_behind class) items) (GivenFits types false as_given items) (of_items (class_behind class) items) known (scope_behind items) (seen_in_node (class_here class) n) n
        (no_variables items) ok.plain ok.plain_contract (node_ok types (node_among items) n (scope_behind items) (class_here class) ok.sound ok.classes)
        (node_clocks n (class_here class) ok.classes.met (all_first types (node_among items) n (class_here class) ok.sound.1.1.1.0 ok.classes.definite)) hf inputs g g' i z cur past pasts gv cs agree m)
        j (end_fixed inputs g' j h)

    module _ (f : List ℕ) where
      abbrev Fits : Bool → Instant → Type 0
      Fits b i = either_of b (Here i) (InstantFits types true (class_behind class) items f i)

      abbrev Gives : Bool → Instant → Type 0
      Gives b i = either_of b (GivenHere i) (GivenFits types false as_given items f i)

      abbrev Marked : Bool → Marks
      Marked b p = if b then own p else of_items (class_behind class) items f p

      outputs_by : (b : Bool) (m : Node) → (if b then Some n else node_among items f) ≡ Some m → (if b then names_of n.outputs else (nodes types real items).outputs f) ≡ names_of m.outputs
      outputs_by true m e = ap (λ (z : Node). names_of z.outputs) (some_is n m e)
      outputs_by false m e = known.outputs f m e

      gives_by : (b : Bool) (m : Node) (i : Instant) → (if b then Some n else node_among items f) ≡ Some m → Fits b i → OutputsFit types m.outputs i
      gives_by true m i e h = subst (λ (z : Node). OutputsFit types z.outputs i) (some_is n m e) h.0.0
      gives_by false m i e h = known.gives f m i e h

      fresh_by : (b : Bool) (m : Node) (inputs : List Value) (g : Given) (i : Instant) → (if b then Some n else node_among items f) ≡ Some m → (if b then node types real (nodes types real items) n inputs g i else (nodes types real items).instant f inputs g i) (Fresh ∷ []) ≡ B false
      fresh_by true m inputs g i e = refl
      fresh_by false m inputs g i e = known.fresh f m inputs g i e

      named_by : (b : Bool) (x : List ℕ) → Marked b (Named x ∷ []) ≡ None
      named_by true x = refl
      named_by false x = known.named f x

      word_by : (b : Bool) → Marked b (Fresh ∷ []) ≡ None
      word_by true = refl
      word_by false = known.word f

      agree_by : (b : Bool) (m : Node) (inputs : List Value) (g g' : Given) (i j : Instant) → (if b then Some n else node_among items f) ≡ Some m → Fits b i → Each (Fits b) g.past → PastsAgree types (Marked b) g.past g'.past → Gives b g'.free → SameControls g.free g'.free → ((p : Place) → i p ≡ (if b then node types real (nodes types real items) n inputs g i else (nodes types real items).instant f inputs g i) p)
          → ((p : Place) → j p ≡ (if b then node types filled (nodes types filled items) n inputs g' j else (nodes types filled items).instant f inputs g' j) p) → AllAgree types (Marked b) i j
      agree_by true m inputs g g' i j e cur past pasts gv cs h k = here_agrees inputs g g' i j cur past pasts gv cs h k
      agree_by false m inputs g g' i j e cur past pasts gv cs h k =
          subst (λ z. AllAgree types (of_items (class_behind class) items f) i z) (sym (fun_ext (ones_only items r f inputs g' j k))) (known.agree f m inputs g g' i e cur past pasts gv cs h)

  pub all_known : (class : Classing) (items : List Item) (r : IsRanked items) → AreAccepted types class items → EachNode (NodeHasFirsts types) items → Known class items r
  all_known class [] r ok hf = record {
    firsts = λ f n e. absurd (cc);
    outputs = λ f n e. absurd (cc);
    gives = λ f n i e h. absurd (cc);
    fresh = λ f n inputs g i e. absurd (cc);
    named = λ f x. refl;
    word = λ f. refl;
    agree = λ f n inputs g g' i e cur past pasts gv cs h. absurd (cc);
  }
  all_known class (TypeItem t ∷ items) r ok hf =
      let k = all_known class items r ok hf in
      record {
        firsts = k.firsts;
        outputs = k.outputs;
        gives = k.gives;
        fresh = k.fresh;
        named = k.named;
        word = k.word;
        agree = λ f n inputs g g' i e cur past pasts gv cs h.
            subst (λ z. AllAgree types (of_items class items f) i z) (sym (fun_ext (ones_only items r f inputs g' (ones (TypeItem t ∷ items) r f inputs g') (ones_meet (TypeItem t ∷ items) r f inputs g'))))
            (k.agree f n inputs g g' i e cur past pasts gv cs h);
      }
  all_known class (NodeItem n ∷ items) r ok hf =
      let k = all_known (class_behind class) items r.1 ok.1 hf.1 in
      record {
        firsts = outputs_have types (NodeItem n ∷ items) hf;
        outputs = λ f m e. outputs_by class n items r.1 r.0 k ok.0 hf.0 f (bytes_eq n.name f) m e;
        gives = λ f m i e h. gives_by class n items r.1 r.0 k ok.0 hf.0 f (bytes_eq n.name f) m i e h;
        fresh = λ f m inputs g i e. fresh_by class n items r.1 r.0 k ok.0 hf.0 f (bytes_eq n.name f) m inputs g i e;
        named = λ f x. named_by class n items r.1 r.0 k ok.0 hf.0 f (bytes_eq n.name f) x;
        word = λ f. word_by class n items r.1 r.0 k ok.0 hf.0 f (bytes_eq n.name f);
        agree = λ f m inputs g g' i e cur past pasts gv cs h.
            agree_by class n items r.1 r.0 k ok.0 hf.0 f (bytes_eq n.name f) m inputs g g' i (ones (NodeItem n ∷ items) r f inputs g') e cur past pasts gv cs h (ones_meet (NodeItem n ∷ items) r f inputs g');
      }
