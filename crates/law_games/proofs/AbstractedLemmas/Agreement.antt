-- An abstract instant of an accepted program and one without Nil agree, where the histories before them do.
use Rattle.std.proofs.Common.{◌≡◌, ℕ, List, [], ◌∷◌, refl, sym, ap, subst, ◌∙◌}
use Rattle.std.proofs.Math.Path.{fun_ext}
use Rattle.std.specs.Prelude.{Bool, true, false, if◌then◌else◌, None, Some}
use Rattle.std.specs.Str.{bytes_eq}
use Rattle.hp_base.specs.declared.value.Value.{Value}
use Rattle.hp_base.specs.declared.value.Value.TheVariants.{B}
use Rattle.hp_tree.specs.declared.program.Item.{Item}
use Rattle.hp_tree.specs.declared.program.Item.TheVariants.{TypeItem, NodeItem}
use Rattle.hp_tree.specs.Programs.{TypeDecl, Node}
use Rattle.hp_tree.specs.Operators.{abstraction}
use Rattle.hp_tree.specs.Instant.{Named, Fresh, Place, Instant, Given}
use Rattle.hp_tree.specs.Meaning.{names_of, node, node_among}
use Rattle.hp_tree.specs.Reaction.{Each}
use Rattle.hp_meaning.specs.Causal.Abstract.{contract_alone, callees}
use Rattle.hp_meaning.specs.Causal.Causality.{Ranked, IsRanked}
use Rattle.hp_meaning.proofs.CausalLemmas.Fix.{Fixed}
use Rattle.hp_meaning.proofs.CausalLemmas.NodesAgree.{ranked_with_contract, ranked_below, node_local}
use Rattle.hp_meaning.proofs.CausalLemmas.Swap.{Agree as Alike, node_swap}
use Rattle.hp_meaning.specs.Contract.Forgetting.{ContractsCallNothing}
use Rattle.law_judged.specs.Named.Scoped.{EachNode}
use Rattle.law_games.proofs.SettledLemmas.NoCalls.{contract_none}
use Rattle.law_values.specs.Valued.Classed.{seen_in_node}
use Rattle.law_values.specs.Valued.Values.{scope_behind, either_of, Classing, class_here, class_behind, NodeAccepted, AreAccepted}
use Rattle.law_values.proofs.ValuedLemmas.Joined.{node_ok}
use Rattle.law_values.proofs.ValuedLemmas.Typed.{some_is}
use Rattle.law_values.specs.Filled.Firsts.{NodeHasFirsts}
use Rattle.law_values.proofs.FilledLemmas.ClocksFirst.{node_clocks}
use Rattle.law_values.proofs.FilledLemmas.FirstsFit.{as_given}
use Rattle.law_values.proofs.FilledLemmas.Places.{of_node}
use Rattle.law_values.proofs.FilledLemmas.Programs.{no_variables, outputs_have}
use Rattle.law_games.specs.Wires.Wired.{filled_abstraction}
use Rattle.law_games.specs.Wires.WiredCallees.{alone_in, filled_callees}
use Rattle.law_games.proofs.MirrorLemmas.FilledOne.{callees_one}
use Rattle.law_games.specs.Abstracted.Fitting.{OutputsFit}
use Rattle.law_games.specs.Abstracted.Instances.{InstanceFits, CalledFits, AbstractFits, InstanceGiven, CalledGiven, AbstractGiven}
use Rattle.law_games.specs.Abstracted.SameGiven.{SameGiven}
use Rattle.law_games.proofs.AbstractedLemmas.Marked.{Marks, AllAgree, PastsAgree}
use Rattle.law_games.proofs.AbstractedLemmas.Expressions.{Solved, by, Callees}
use Rattle.law_games.proofs.AbstractedLemmas.Nodes.{all_first, node_agrees}
use Rattle.law_games.proofs.AbstractedLemmas.Reached.{ends_agree}
use Rattle.law_games.proofs.AbstractedLemmas.AgreeAlone.{of_instance, instance_agrees}

-- the marks of the node of a name, as it is called
abbrev pub of_items : List TypeDecl → Classing → List Item → List ℕ → Marks
of_items types class [] f p = None
of_items types class (TypeItem t ∷ earlier) f p = of_items types class earlier f p
of_items types class (NodeItem n ∷ earlier) f p =
    if bytes_eq n.name f then of_instance types (scope_behind earlier) (seen_in_node (class_here class) n) n p else of_items types (class_behind class) earlier f p

-- the marks of a node behind some items
abbrev pub own_marks : List TypeDecl → Classing → List Item → Node → Marks
own_marks types class earlier n = of_node (of_items types (class_behind class) earlier) (scope_behind earlier) (seen_in_node (class_here class) n) n

outputs_alike : (types : List TypeDecl) (items : List Item) (f : List ℕ) → (filled_callees types items).outputs f ≡ (callees types items).outputs f
outputs_alike types [] f = refl
outputs_alike types (TypeItem t ∷ earlier) f = outputs_alike types earlier f
outputs_alike types (NodeItem n ∷ earlier) f = ap (λ r. if bytes_eq n.name f then names_of n.outputs else r) (outputs_alike types earlier f)

module _ (types : List TypeDecl) where
  -- the instances without Nil
  ones : (items : List Item) → IsRanked items → Solved
  ones items r f inputs g = (callees_one types items r f inputs g).now

  ones_meet : (items : List Item) (r : IsRanked items) (f : List ℕ) (inputs : List Value) (g : Given) → Fixed ((filled_callees types items).instant f inputs g) (ones items r f inputs g)
  unfolding ones
  ones_meet items r f inputs g = (callees_one types items r f inputs g).meets

  ones_only : (items : List Item) (r : IsRanked items) (f : List ℕ) (inputs : List Value) (g : Given) (i : Instant) → Fixed ((filled_callees types items).instant f inputs g) i → (p : Place) → i p ≡ ones items r f inputs g p
  unfolding ones
  ones_only items r f inputs g i h p = (callees_one types items r f inputs g).only i h p

  abbrev Known : Classing → (items : List Item) → IsRanked items → Type 0
  Known class items r = Callees types (callees types items) (ones items r) (node_among items) (CalledFits types true class items) (CalledGiven types false as_given items) (of_items types class items)

  module _ (class : Classing) (n : Node) (items : List Item) (r : IsRanked items) (o : Ranked n) (known : Known (class_behind class) items r) (ok : NodeAccepted types (node_among items) (scope_behind items) (class_here class) n) (hf : NodeHasFirsts types n)
      (calls : ContractsCallNothing (NodeItem n ∷ items)) (f : List ℕ) where
    abbrev Here : Instant → Type 0
    Here i = InstanceFits types true (scope_behind items) (seen_in_node (class_here class) n) n i

    abbrev Fits : Bool → Instant → Type 0
    Fits b i = either_of b (Here i) (CalledFits types true (class_behind class) items f i)

    abbrev Gives : Bool → Instant → Type 0
    Gives b i = either_of b (InstanceGiven types false as_given (scope_behind items) n i) (CalledGiven types false as_given items f i)

    abbrev Marked : Bool → Marks
    Marked b p = if b then of_instance types (scope_behind items) (seen_in_node (class_here class) n) n p else of_items types (class_behind class) items f p

    outputs_by : (b : Bool) (m : Node) → (if b then Some n else node_among items f) ≡ Some m → (if b then names_of n.outputs else (callees types items).outputs f) ≡ names_of m.outputs
    outputs_by true m e = ap (λ (z : Node). names_of z.outputs) (some_is n m e)
    outputs_by false m e = known.outputs f m e

    gives_by : (b : Bool) (m : Node) (i : Instant) → (if b then Some n else node_among items f) ≡ Some m → Fits b i → OutputsFit types m.outputs i
    gives_by true m i e h = subst (λ (z : Node). OutputsFit types z.outputs i) (some_is n m e) h.0
    gives_by false m i e h = known.gives f m i e h

    fresh_by : (b : Bool) (m : Node) (inputs : List Value) (g : Given) (i : Instant) → (if b then Some n else node_among items f) ≡ Some m → (if b then contract_alone types n inputs g i else (callees types items).instant f inputs g i) (Fresh ∷ []) ≡ B false
    fresh_by true m inputs g i e = refl
    fresh_by false m inputs g i e = known.fresh f m inputs g i e

    named_by : (b : Bool) (x : List ℕ) → Marked b (Named x ∷ []) ≡ None
    named_by true x = refl
    named_by false x = known.named f x

    word_by : (b : Bool) → Marked b (Fresh ∷ []) ≡ None
    word_by true = refl
    word_by false = known.word f

    agree_by : (b : Bool) (m : Node) (inputs : List Value) (g g' : Given) (i j : Instant) → (if b then Some n else node_among items f) ≡ Some m → Fits b i → Each (Fits b) g.past → PastsAgree types (Marked b) g.past g'.past → Gives b g'.free → SameGiven g.free g'.free
        → ((p : Place) → i p ≡ (if b then contract_alone types n inputs g i else (callees types items).instant f inputs g i) p)
        → ((p : Place) → j p ≡ (if b then alone_in types n inputs g' j else (filled_callees types items).instant f inputs g' j) p) → AllAgree types (Marked b) i j
    agree_by true m inputs g g' i j e cur past pasts gv cs h k =
        instance_agrees types (node_among items) (scope_behind items) (seen_in_node (class_here class) n) n o ok.plain_contract (node_ok types (node_among items) n (scope_behind items) (class_here class) ok.sound ok.classes)
        (contract_none n.contract (λ p. p) calls.0) (node_clocks n (class_here class) ok.classes.met (all_first types (node_among items) n (class_here class) ok.sound.1.1.1.0 ok.classes.definite)) hf (no_variables items)
        inputs g g' i cur past pasts gv cs h j k
    agree_by false m inputs g g' i j e cur past pasts gv cs h k =
        subst (λ z. AllAgree types (of_items types (class_behind class) items f) i z) (sym (fun_ext (ones_only items r f inputs g' j k))) (known.agree f m inputs g g' i e cur past pasts gv cs h)

  all_known : (class : Classing) (items : List Item) (r : IsRanked items) → AreAccepted types class items → EachNode (NodeHasFirsts types) items → ContractsCallNothing items → Known class items r
  all_known class [] r ok hf calls = record {
    firsts = λ f n e. absurd (cc);
    outputs = λ f n e. absurd (cc);
    gives = λ f n i e h. absurd (cc);
    fresh = λ f n inputs g i e. absurd (cc);
    named = λ f x. refl;
    word = λ f. refl;
    agree = λ f n inputs g g' i e cur past pasts gv cs h. absurd (cc);
  }
  all_known class (TypeItem t ∷ items) r ok hf calls =
      let k = all_known class items r ok hf calls in
      record {
        firsts = k.firsts;
        outputs = k.outputs;
        gives = k.gives;
        fresh = k.fresh;
        named = k.named;
        word = k.word;
        agree = λ f n inputs g g' i e cur past pasts gv cs h.
            subst (λ z. AllAgree types (of_items types class items f) i z) (sym (fun_ext (ones_only items r f inputs g' (ones (TypeItem t ∷ items) r f inputs g') (ones_meet (TypeItem t ∷ items) r f inputs g'))))
            (k.agree f n inputs g g' i e cur past pasts gv cs h);
      }
  all_known class (NodeItem n ∷ items) r ok hf calls =
      let k = all_known (class_behind class) items r.1 ok.1 hf.1 calls.1 in
      record {
        firsts = outputs_have types (NodeItem n ∷ items) hf;
        outputs = λ f m e. outputs_by class n items r.1 r.0 k ok.0 hf.0 calls f (bytes_eq n.name f) m e;
        gives = λ f m i e h. gives_by class n items r.1 r.0 k ok.0 hf.0 calls f (bytes_eq n.name f) m i e h;
        fresh = λ f m inputs g i e. fresh_by class n items r.1 r.0 k ok.0 hf.0 calls f (bytes_eq n.name f) m inputs g i e;
        named = λ f x. named_by class n items r.1 r.0 k ok.0 hf.0 calls f (bytes_eq n.name f) x;
        word = λ f. word_by class n items r.1 r.0 k ok.0 hf.0 calls f (bytes_eq n.name f);
        agree = λ f m inputs g g' i e cur past pasts gv cs h.
            agree_by class n items r.1 r.0 k ok.0 hf.0 calls f (bytes_eq n.name f) m inputs g g' i (ones (NodeItem n ∷ items) r f inputs g') e cur past pasts gv cs h (ones_meet (NodeItem n ∷ items) r f inputs g');
      }

  -- ---- a node behind some items

  module _ (class : Classing) (earlier : List Item) (n : Node) (o : Ranked n) (r : IsRanked earlier) (ok : AreAccepted types class (NodeItem n ∷ earlier)) (hf : EachNode (NodeHasFirsts types) (NodeItem n ∷ earlier)) (calls : ContractsCallNothing earlier) where
    abbrev own : Marks
    own = own_marks types class earlier n

    to_ones : Alike (filled_callees types earlier).instant (λ f vs g now. ones earlier r f vs g)
    to_ones f vs g i h p = sym (h p) ∙ ones_only earlier r f vs g i h p

    -- where the nodes that it calls are solved
    end_fixed : (inputs : List Value) (g : Given) (j : Instant) → Fixed (node types filled_abstraction (filled_callees types earlier) n inputs g) j → Fixed (node types filled_abstraction (by (callees types earlier).outputs (ones earlier r)) n inputs g) j
    end_fixed inputs g j h =
        subst (λ z. Fixed (node types filled_abstraction (by z (ones earlier r)) n inputs g) j) (fun_ext (outputs_alike types earlier))
        (λ q. h q ∙ node_swap types filled_abstraction (filled_callees types earlier).outputs (filled_callees types earlier).instant (λ f vs g now. ones earlier r f vs g) to_ones n inputs g j h q)

    pub abstract_agrees : (inputs : List Value) (g g' : Given) (i j : Instant) → AbstractFits types true class earlier n i → Each (AbstractFits types true class earlier n) g.past → PastsAgree types (own_marks types class earlier n) g.past g'.past
        → AbstractGiven types false as_given earlier n g'.free → SameGiven g.free g'.free
        → Fixed (node types abstraction (callees types earlier) n inputs g) i → Fixed (node types filled_abstraction (filled_callees types earlier) n inputs g') j → AllAgree types (own_marks types class earlier n) i j
    abstract_agrees inputs g g' i j cur past pasts gv cs m h =
        ends_agree types (own_marks types class earlier n) i (node types filled_abstraction (by (callees types earlier).outputs (ones earlier r)) n inputs g') (ranked_with_contract o.rank o.bound) _ (ranked_below o.rank o.bound o.bounded)
        (node_local types filled_abstraction (callees types earlier).outputs (ones earlier r) n o inputs g')
        (λ z agree.
        node_agrees types (callees types earlier) (ones earlier r) (node_among earlier) (CalledFits types true (class_behind class) earlier) (CalledGiven types false as_given earlier) (of_items types (class_behind class) earlier)
        (all_known (class_behind class) earlier r ok.1 hf.1 calls) (scope_behind earlier) (seen_in_node (class_here class) n) n
        (no_variables earlier) ok.0.plain ok.0.plain_contract (node_ok types (node_among earlier) n (scope_behind earlier) (class_here class) ok.0.sound ok.0.classes)
        (node_clocks n (class_here class) ok.0.classes.met (all_first types (node_among earlier) n (class_here class) ok.0.sound.1.1.1.0 ok.0.classes.definite)) hf.0 inputs g g' i z cur past pasts gv cs agree m)
        j (end_fixed inputs g' j h)
