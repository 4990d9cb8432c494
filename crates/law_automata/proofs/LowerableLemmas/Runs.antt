-- Removing automata keeps the runs of ready programs without controllable variables.
use Rattle.std.proofs.Common.{◌≡◌, ℕ, Bool, true, false, if◌then◌else◌, List, [], ◌∷◌, map, reverse, refl, sym, ap, ◌∙◌, subst}
use Rattle.std.specs.Prelude.{Option, Some, option_map}
use Rattle.std.specs.Str.{bytes_eq}
use Rattle.hp_base.specs.declared.value.Value.{Value}
use Rattle.hp_tree.specs.declared.program.Item.{Item}
use Rattle.hp_tree.specs.declared.program.Item.TheVariants.{TypeItem, NodeItem}
use Rattle.hp_tree.specs.Programs.{Node}
use Rattle.hp_tree.specs.Values.{AreOf}
use Rattle.hp_tree.specs.Instant.{Instant, Past}
use Rattle.hp_tree.specs.Meaning.{types_of, node_among, controls_of}
use Rattle.hp_tree.specs.Reaction.{Reaction, Each}
use Rattle.hp_meaning.specs.Causal.Runs.{NoControls}
use Rattle.hp_meaning.proofs.CausalLemmas.Ranking.{all_ranks_enough}
use Rattle.hp_meaning.proofs.CausalLemmas.Run.{none_reverse, uncontrolled, none_fit}
use Rattle.law_judged.specs.Named.Scoped.{EachNode}
use Rattle.law_values.specs.Accepted.Outputs.{Uncontrolled}
use Rattle.law_values.proofs.AcceptedLemmas.Outputs.{frees_fit}
use Rattle.hp_automata.specs.Lowering as lowering
use Rattle.hp_automata.specs.Lowering.{Enumerations, enumerations, lowered_node, lowered_item, lowered_program}
use Rattle.law_automata.specs.Lowered.Standing.{Along}
use Rattle.law_automata.specs.Lowered.Laws.{SameControls}
use Rattle.law_automata.proofs.LoweredLemmas.Programs.{types_same, map_reverse}
use Rattle.law_automata.proofs.LoweredLemmas.RankSteps.{ranks_law}
use Rattle.law_automata.proofs.LoweredLemmas.Reactions.{real_law, only_law, outputs_law}
use Rattle.law_automata.proofs.LoweredLemmas.RightSteps.{controls_same}
use Rattle.law_automata.proofs.LoweredLemmas.Uncontrolled.{uncontrolled_law}
use Rattle.law_automata.specs.Lowerable.Laws.{KeptLaw, RunLaw}
use Rattle.law_automata.proofs.LowerableLemmas.Decided.{decided_law}

-- ---- what is given

alike : (P : Instant → Instant → Type 0) → ((i j : Instant) → P i j) → (frees : List Instant) → Along P frees frees
alike P all [] = tt
alike P all (i ∷ frees) = (all i i, alike P all frees)

-- two reactions over the same inputs are given as much
along_both : (P : Instant → Instant → Type 0) → ((i j : Instant) → P i j) → (p q : List Item) (f : List ℕ) (inputs : List (List Value)) (frees : List Instant) (past : Past) (frees' : List Instant) (past' : Past) → Reaction p f inputs frees past → Reaction q f inputs frees' past' → Along P frees frees'
along_both P all p q f [] [] [] [] [] r s = tt
along_both P all p q f [] [] [] [] (now ∷ past') r s = absurd s
along_both P all p q f [] [] [] (free ∷ frees') past' r s = absurd s
along_both P all p q f [] [] (now ∷ past) frees' past' r s = absurd r
along_both P all p q f [] (free ∷ frees) past frees' past' r s = absurd r
along_both P all p q f (vs ∷ inputs) (free ∷ frees) (now ∷ past) (free' ∷ frees') (now' ∷ past') r s = (all free free', along_both P all p q f inputs frees past frees' past' r.0 s.0)
along_both P all p q f (vs ∷ inputs) (free ∷ frees) (now ∷ past) (free' ∷ frees') [] r s = absurd s
along_both P all p q f (vs ∷ inputs) (free ∷ frees) (now ∷ past) [] past' r s = absurd s
along_both P all p q f (vs ∷ inputs) (free ∷ frees) [] frees' past' r s = absurd r
along_both P all p q f (vs ∷ inputs) [] past frees' past' r s = absurd r

none_controlled : (items : List Item) → NoControls items → EachNode Uncontrolled items
none_controlled [] h = tt
none_controlled (TypeItem t ∷ items) h = none_controlled items h
none_controlled (NodeItem n ∷ items) h = (h.0, none_controlled items h.1)

-- ---- reactions

pub kept_law : KeptLaw
kept_law program after ranks r ok fall none f n inputs frees past e i h =
    let decided = decided_law program after ranks r fall f n inputs frees past e i (frees_fit (types_of after) after (none_controlled after none) f frees) h in
    let given : (i j : Instant) → SameControls after f i j = λ i j. uncontrolled_law after none f i j in
    let made = real_law after ok f inputs frees frees past h (alike (SameControls after f) given frees) decided in (
      (made.0, (made.1, outputs_law after ok f past made.0 made.2)),
      λ frees' past' k. outputs_law after ok f past past'
          (only_law after ok (ranks_law after ok (all_ranks_enough after ranks fall)) f inputs frees frees' past past' h (along_both (SameControls after f) given after (lowered_program after) f inputs frees past frees' past' h k) decided k),
    )

-- ---- runs

lowered_by : (enums : Enumerations) (m : Node) (o : Option Node) (b : Bool) → (if b then Some (lowered_node enums m) else option_map (lowered_node enums) o) ≡ option_map (lowered_node enums) (if b then Some m else o)
lowered_by enums m o true = refl
lowered_by enums m o false = refl

pub lowered_among : (enums : Enumerations) (items : List Item) (f : List ℕ) → node_among (map (lowered_item enums) items) f ≡ option_map (lowered_node enums) (node_among items f)
lowered_among enums [] f = refl
lowered_among enums (TypeItem t ∷ items) f = lowered_among enums items f
lowered_among enums (NodeItem m ∷ items) f =
    ap (λ o. if bytes_eq m.name f then Some (lowered_node enums m) else o) (lowered_among enums items f) ∙ lowered_by enums m (node_among items f) (bytes_eq m.name f)

pub lowered_there : (after : List Item) (f : List ℕ) (n : Node) → node_among (reverse after) f ≡ Some n → node_among (reverse (lowered_program after)) f ≡ Some (lowered_node (enumerations [] after) n)
lowered_there after f n e =
    let enums = enumerations [] after in
    ap (λ items. node_among items f) (map_reverse (lowered_item enums) after) ∙ lowered_among enums (reverse after) f ∙ ap (option_map (lowered_node enums)) e

pub run_law : RunLaw
run_law program after ranks r ok fall none f inputs outputs run =
    let frees = run.some.0 in
    let past = run.some.1 in
    let node = run.some.2 in
    let enums = enumerations [] after in
    let n = node.node in
    let m = lowered_node enums n in
    let types : types_of (lowered_program after) ≡ types_of after = types_same enums after in
    let k = kept_law program after ranks r ok fall none f n (reverse inputs) frees past node.is_node node.inputs_fit node.reaction in
    let same : controls_of m.contract ≡ [] = controls_same enums (lowering.types_of n) n.contract ∙ uncontrolled (reverse after) f n (none_reverse after none) node.is_node in
    record {
      some = (
        frees,
        k.0.0,
        record {
          node = m;
          is_node = lowered_there after f n node.is_node;
          inputs_fit = subst (λ ts. Each (AreOf ts n.inputs) (reverse inputs)) (sym types) node.inputs_fit;
          controls_fit = none_fit (types_of (lowered_program after)) (controls_of m.contract) k.0.0 same;
          reaction = k.0.1.0;
        },
      );
      every = λ frees' past' q. ap reverse (k.1 frees' past' q.reaction) ∙ run.every frees past node;
    }
