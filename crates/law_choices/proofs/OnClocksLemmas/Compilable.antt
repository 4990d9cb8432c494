-- The equations that are made of a program that can be compiled are good, and its registers begin.
use Rattle.std.proofs.Common.{ℕ, List, reverse}
use Rattle.std.specs.List.{AllByRecursion}
use Rattle.hp_base.specs.declared.value.Value.{Value}
use Rattle.hp_tree.specs.declared.program.Item.{Item}
use Rattle.hp_tree.specs.Instant.{Place}
use Rattle.hp_tree.specs.Meaning.{types_of}
use Rattle.law_values.specs.Filled.Firsts.{NodeHasFirsts}
use Rattle.law_automata.proofs.LowerableLemmas.Texts.{each_reverse}
use Rattle.hp_flat.specs.Nodes.{FlatNode}
use Rattle.law_equations.specs.Made.Blocks.{IsPlain}
use Rattle.law_equations.specs.Made.Making.{Known}
use Rattle.law_equations.specs.Made.Types.{obc_types}
use Rattle.hp_complete.specs.Declaring.{known_of}
use Rattle.hp_complete.specs.Made.{AreMadeOf}
use Rattle.law_wellmade.specs.Begun.Firsts.{firsts_among}
use Rattle.law_wellmade.specs.Begun.Laws.{Begins}
use Rattle.law_wellmade.proofs.BegunLemmas.Beginning.{all_fit, bodies_ready, calls_begun}
use Rattle.law_wellmade.proofs.RegularLemmas.GoodPrograms.{NodeGood, all_made_good, nodes_good}
use Rattle.law_choices.specs.Closed.Compilable.{HasTypesOf, IsCompilable}
use Rattle.law_choices.proofs.ClosedLemmas.ClosedLaws.{NodeFilled, all_made_filled, nodes_filled}
use Rattle.law_wellmade.proofs.BegunLemmas.Items.{each_plain}
use Rattle.law_choices.proofs.OnClocksLemmas.Programs.{first_values, facts_of_types}

module _ (program low : List Item) (t : HasTypesOf program low) (c : IsCompilable low) where
  abbrev k : Known
  k = known_of low

  pub compiled_good : (fs : List FlatNode) → AreMadeOf k low fs → AllByRecursion (NodeGood (obc_types (types_of low)) k) fs
  compiled_good fs made =
      let firsts = each_reverse (NodeHasFirsts (types_of low)) low c.firsts in
      let plain = each_reverse (λ n. IsPlain n.body) low (each_plain low c.whole) in
      all_made_good (obc_types (types_of low)) k low fs made (nodes_good (obc_types (types_of low)) low (types_of low) (facts_of_types program low t) c.apart c.sound firsts plain c.tested)

  pub compiled_filled : (fs : List FlatNode) → AreMadeOf k low fs → AllByRecursion NodeFilled fs
  compiled_filled fs made = all_made_filled k low fs made (nodes_filled low (types_of low) c.apart c.sound c.whole c.tested)

  -- what is given at first begins the registers
  pub compiled_begun : (fills : List ℕ → Place → Value) × Begins low fills
  compiled_begun = (
    firsts_among k (reverse low),
    record {
      fit = all_fit k (types_of low) (first_values program low t) (reverse low) c.sound (each_reverse (NodeHasFirsts (types_of low)) low c.firsts);
      ready = λ later earlier n e. bodies_ready (types_of low) low later earlier n e c.apart c.sound;
      called = λ later earlier n e h. calls_begun k (reverse low) later earlier n e c.apart h;
    },
  )
