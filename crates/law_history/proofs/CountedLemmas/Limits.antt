-- Sums of instances and longest chains are numbers that come together; both stay within the limits of a program.
use Rattle.std.proofs.Common.{◌≤◌, ℕ, suc, ◌+◌, max, List, [], refl, arith}
use Rattle.hp_tree.specs.declared.program.Item.{Item}
use Rattle.hp_names.specs.Scopes.{nothing}
use Rattle.hp_names.specs.Rules.{WellNamed}
use Rattle.law_judged.specs.Named.Scoped.{EachNode}
use Rattle.hp_expand.specs.Sizes as sizes
use Rattle.hp_expand.specs.Sizes.{places, join, deeper, called}
use Rattle.hp_expand.specs.Formed.{IsWithin, KeepsLimits}
use Rattle.hp_expand.specs.Numbering.{no_node, replaced}
use Rattle.hp_clocks.specs.Writing.{AreWritten}
use Rattle.hp_clocks.specs.Answers.{IsClocked}
use Rattle.hp_automata.specs.Lowering.{enumerations, lowered_program}
use Rattle.law_automata.proofs.LowerableLemmas.Neat.{NodeNeat}
use Rattle.hp_flat.specs.Nodes.{FlatNode}
use Rattle.law_equations.specs.Made.Making.{Known}
use Rattle.hp_complete.specs.Made.{AreMadeOf}
use Rattle.hp_obc.specs.Machines.{ObcType, Machine}
use Rattle.hp_machines.specs.Making.{AreMade}
use Rattle.hp_exec.specs.Bounds.{longest_chain, instance_count}
use Rattle.law_history.specs.Counted.Counted.{Joins}
use Rattle.law_history.proofs.CountedLemmas.Machines.{sum_moved, most_moved}
use Rattle.law_history.proofs.CountedLemmas.Replaced.{Size, Measures}
use Rattle.law_history.specs.Counted.Laws.{MachineLaw}
use Rattle.law_history.proofs.CountedLemmas.Programs.{final, machine_counts, are_few}

pub sums_join : Joins (λ a b. a + b)
sums_join =
    record {
      grouped = λ a b c. omega arith;
      turned = λ a b. omega arith;
      none = λ a. omega arith;
      grows = λ a b c d h g. omega (arith, h, g);
    }

pub greatest_join : Joins max
greatest_join =
    record {
      grouped = λ a b c. omega arith;
      turned = λ a b. omega arith;
      none = λ a. omega arith;
      grows = λ a b c d h g. omega (arith, h, g);
    }

instances_of : Size → ℕ
instances_of s = s.instances

chain_from : Size → ℕ
chain_from s = s.calls

instances_measure : Measures (λ a b. a + b) instances_of
unfolding instances_of join places deeper called
instances_measure = record { joins = sums_join; nothing = refl; at_places = λ n. refl; both = λ a b. refl; at_deeper = λ a. refl; at_called = λ a. refl }

chains_measure : Measures max chain_from
unfolding chain_from join places deeper called
chains_measure = record { joins = greatest_join; nothing = refl; at_places = λ n. refl; both = λ a b. refl; at_deeper = λ a. refl; at_called = λ a. refl }

few_instances : (total : ℕ) (s : Size) → IsWithin total s → suc (instances_of s) ≤ 100000
unfolding instances_of
few_instances total s h = h.instances

few_calls : (total : ℕ) (s : Size) → IsWithin total s → suc (chain_from s) ≤ 64
unfolding chain_from
few_calls total s h = h.calls

pub machine_law : MachineLaw
machine_law known types n m h = (machine_counts (λ a b. a + b) instances_of instances_measure sum_moved types known n m h, machine_counts max chain_from chains_measure most_moved types known n m h)

-- ---- programs

module _ (own : ℕ) (program after : List Item) (k : Known) (types : List ObcType) (fs : List FlatNode) (ms : List Machine) (named : WellNamed program) (neat : EachNode (NodeNeat own) program) (fits : KeepsLimits program)
    (written : AreWritten IsClocked (replaced program) after) (equations : AreMadeOf k (lowered_program after) fs) (machines : AreMade types fs ms) where
  pub instances_within : (f : List ℕ) → instance_count ms f ≤ 100000
  instances_within =
      are_few (λ a b. a + b) instances_of instances_measure sum_moved 100000 few_instances k (enumerations [] after) types own
      (final sizes.nothing_known program) program after fs ms nothing sizes.nothing_known 0 no_node (λ f. 0) named neat fits refl written
      equations machines (record { bodies = λ f. omega arith; below = λ f. omega arith; within = λ f. omega arith })

  pub chains_within : (f : List ℕ) → longest_chain ms f ≤ 64
  chains_within =
      are_few max chain_from chains_measure most_moved 64 few_calls k (enumerations [] after) types own (final sizes.nothing_known program) program after fs ms nothing sizes.nothing_known 0 no_node
      (λ f. 0) named neat fits refl written
      equations machines (record { bodies = λ f. omega arith; below = λ f. omega arith; within = λ f. omega arith })
