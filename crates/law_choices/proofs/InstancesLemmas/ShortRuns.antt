-- In a reaction with chosen values, over inputs of 32 bits, each instant holds integers of 32 bits alone.
use Rattle.std.proofs.Common.{ℕ, zero, suc, ◌<◌, Bool, true, false, List, [], ◌∷◌, map, reverse, sym, subst, ◌∙◌, arith}
use Rattle.std.specs.Prelude.{if◌then◌else◌}
use Rattle.std.specs.List.{AllByRecursion}
use Rattle.std.specs.Str.{bytes_eq}
use Rattle.hp_base.specs.declared.value.Value.{Value}
use Rattle.hp_tree.specs.declared.program.Item.{Item}
use Rattle.hp_tree.specs.declared.program.Item.TheVariants.{TypeItem, NodeItem}
use Rattle.hp_tree.specs.Instant.{Controls, Given, Instant, Past, Place, alone, nothing, part}
use Rattle.hp_tree.specs.Meaning.{Nodes, node, types_of}
use Rattle.hp_tree.specs.Operators.{real}
use Rattle.hp_tree.specs.Programs.{Node, TypeDecl}
use Rattle.hp_meaning.specs.Causal.Causality.{IsRanked, Ranked}
use Rattle.hp_meaning.specs.Causal.OneReaction.{ReactionOf}
use Rattle.hp_meaning.proofs.CausalLemmas.Fix.{Fixed, Local, Same}
use Rattle.hp_meaning.proofs.CausalLemmas.NodesAgree.{node_local, ranked_below, ranked_with_contract}
use Rattle.hp_meaning.proofs.CausalLemmas.Solved.{Solved, by}
use Rattle.hp_meaning.proofs.CausalLemmas.Swap.{Agree, Instances, node_swap}
use Rattle.hp_meaning.proofs.CausalLemmas.Unique.{AllOne, ranked_reverse}
use Rattle.law_equations.specs.Answered.Short.{AreShort, IsShort}
use Rattle.law_judged.specs.Named.Scoped.{EachNode}
use Rattle.law_automata.proofs.LowerableLemmas.Texts.{each_reverse}
use Rattle.law_choices.specs.Choosing.Choices.{Choices}
use Rattle.law_choices.specs.Instances.Integers.{ChoosesShort, HoldsShort, ShortReactionLaw, WritesShort}
use Rattle.law_choices.specs.Runs.Chosen.{chosen_given, chosen_meaning, chosen_nodes, inputs_at}
use Rattle.law_choices.proofs.InstancesLemmas.ShortNodes.{KeepShort, said_holds}
use Rattle.law_choices.proofs.InstancesLemmas.ShortValues.{AllHold, alone_row, row_holds}
use Rattle.law_choices.proofs.RunsLemmas.Chosen.{all_one}

-- ---- what says itself of an instant, by places of less rank

module _ (F : Instant → Instant) (keeps : (i : Instant) → HoldsShort i → HoldsShort (F i)) where
  abbrev steps : ℕ → Instant
  steps zero = nothing
  steps (suc k) = F (steps k)

  steps_hold : (k : ℕ) → HoldsShort (steps k)
  steps_hold zero = λ p. tt
  steps_hold (suc k) = keeps (steps k) (steps_hold k)

  module _ (rank : Place → ℕ) (local : Local F rank) (now : Instant) (fixed : Fixed F now) where
    reached : (k : ℕ) → Same rank k now (steps k)
    reached zero p h = absurd (omega arith)
    reached (suc k) p h = fixed p ∙ local k now (steps k) (reached k) p (omega arith)

    fixed_holds : (bound : ℕ) → ((p : Place) → rank p < bound) → HoldsShort now
    fixed_holds bound bounded p = subst IsShort (sym (reached bound p (bounded p))) (steps_hold bound p)

-- ---- nodes

-- each instant that a node says of itself holds such integers, where inputs and past are such
abbrev AllFixed : Nodes → Type 0
AllFixed N = (f : List ℕ) (vs : List Value) (g : Given) (now : Instant) → AreShort vs → AllHold g.past → Fixed (N.instant f vs g) now → HoldsShort now

-- the one instant that a node has
abbrev the_one : (I : Instances) → AllOne I → Solved
the_one I all f vs g = (all f vs g).now

agrees : (I : Instances) (all : AllOne I) → Agree I (λ f vs g now. the_one I all f vs g)
agrees I all f vs g i h p = sym (h p) ∙ (all f vs g).only i h p

solved_keep : (N : Nodes) (all : AllOne N.instant) → AllFixed N → KeepShort (by N.outputs (the_one N.instant all))
solved_keep N all fixed f vs g now v h a = fixed f vs g (all f vs g).now v h (all f vs g).meets

nothing_holds : (now : Instant) → Fixed (λ i. nothing) now → HoldsShort now
nothing_holds now met p = subst IsShort (sym (met p)) tt

module _ (choices : Choices) (short : ChoosesShort choices) (types : List TypeDecl) where
  abbrev N : List Item → Nodes
  N items = chosen_nodes choices types real items

  chosen_hold : (n : Node) (vs : List Value) (g : Given) → HoldsShort (part Controls (chosen_given (choices n.name) n vs g).free)
  chosen_hold n vs g =
      let ws = choices n.name vs (map (inputs_at n) g.past) in
      row_holds (map alone ws) (alone_row ws (short n.name vs (map (inputs_at n) g.past)))

  node_fixed : (items : List Item) → IsRanked items → AllFixed (N items) → (n : Node) → Ranked n → WritesShort n → (vs : List Value) (g : Given) (now : Instant) → AreShort vs → AllHold g.past
      → Fixed (node types real (N items) n vs (chosen_given (choices n.name) n vs g)) now → HoldsShort now
  node_fixed items r fixed n o w vs g now v h met =
      let M = N items in
      let all = all_one choices types real items r in
      let S = the_one M.instant all in
      let given = chosen_given (choices n.name) n vs g in
      fixed_holds (node types real (by M.outputs S) n vs given) (λ i a. said_holds types (by M.outputs S) (solved_keep M all fixed) n w vs v given h (chosen_hold n vs g) i a)
      (ranked_with_contract o.rank o.bound) (node_local types real M.outputs S n o vs given) now (λ q. met q ∙ node_swap types real M.outputs M.instant (λ f vs g now. S f vs g) (agrees M.instant all) n vs given now met q) _ (ranked_below o.rank o.bound o.bounded)

  pick : (d : Bool) (F G : Instant → Instant) (now : Instant) → (Fixed F now → HoldsShort now) → (Fixed G now → HoldsShort now) → Fixed (λ i. if d then F i else G i) now → HoldsShort now
  pick true F G now f g met = f met
  pick false F G now f g met = g met

  all_fixed : (items : List Item) → IsRanked items → EachNode WritesShort items → AllFixed (N items)
  all_fixed [] r w f vs g now v h met = nothing_holds now met
  all_fixed (TypeItem t ∷ items) r w f vs g now v h met = all_fixed items r w f vs g now v h met
  all_fixed (NodeItem n ∷ items) r w f vs g now v h met =
      pick (bytes_eq n.name f) (node types real (N items) n vs (chosen_given (choices n.name) n vs g)) ((N items).instant f vs g) now (node_fixed items r.1 (all_fixed items r.1 w.1) n r.0 w.0 vs g now v h) (all_fixed items r.1 w.1 f vs g now v h) met

-- ---- reactions

module _ (choices : Choices) (short : ChoosesShort choices) (program : List Item) (f : List ℕ) (ranked : IsRanked (reverse program)) (writes : EachNode WritesShort (reverse program)) where
  all_hold : (rows : List (List Value)) (past : Past) → AllByRecursion AreShort rows → ReactionOf (chosen_meaning choices real program f) rows (map (λ (vs : List Value). nothing) rows) past → AllHold past
  all_hold [] [] v r = tt
  all_hold [] (now ∷ past) v r = absurd r
  all_hold (vs ∷ rows) [] v r = absurd r
  all_hold (vs ∷ rows) (now ∷ past) v r =
      let before = all_hold rows past v.1 r.0 in
      (all_fixed choices short (types_of program) (reverse program) ranked writes f vs (record { past = past; free = nothing }) now v.0 before r.1, before)

pub short_law : ShortReactionLaw
short_law choices program f inputs past ranked writes short v r = all_hold choices short program f (ranked_reverse program ranked) (each_reverse WritesShort program writes) inputs past v r
