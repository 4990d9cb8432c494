-- Worked: the strategy that gives true to each variable has one reaction of the grant over each list of inputs.
use Rattle.std.proofs.Common.{◌≡◌, suc, List, [], ◌∷◌, map, length, refl, ap}
use Rattle.std.specs.Prelude.{true}
use Rattle.hp_base.specs.declared.value.Value.{Value}
use Rattle.hp_base.specs.declared.value.Value.TheVariants.{B}
use Rattle.hp_tree.specs.Blocks.{Decl}
use Rattle.hp_tree.specs.Meaning.{controls_of}
use Rattle.hp_meaning.specs.Causal.Clocked.{ClocksRight}
use Rattle.hp_meaning.specs.Causal.OneReaction.{OneReactionOf}
use Rattle.hp_meaning.specs.Contract.SteeredRuns.{Strategy, IsStrategy, Follows, ReactsBy}
use Rattle.hp_meaning.proofs.ContractLemmas.Steered.{one_reaction_by}
use Rattle.hp_meaning.proofs.ContractLemmas.Texts.{g, alone, grant}
use Rattle.hp_meaning.proofs.ContractLemmas.WorkedGrant.{grant_ranked}

abbrev always_true : Strategy
always_true n history inputs early = map (λ (d : Decl). B true) (controls_of n.contract)

as_many : (ds : List Decl) → length (map (λ (d : Decl). B true) ds) ≡ length ds
as_many [] = refl
as_many (d ∷ ds) = ap suc (as_many ds)

is_strategy : IsStrategy (alone grant) always_true
is_strategy = record { one_each = λ n history inputs early. as_many (controls_of n.contract); early_alone = λ n history inputs early other same. refl }

grant_clocks : ClocksRight grant
grant_clocks = record { outputs = λ x t. refl; body = (tt, ((tt, (refl, tt), (refl, refl)), tt)); contract = ((tt, tt), (refl, refl), (refl, refl)) }

grant_reacts : (inputs : List (List Value)) → OneReactionOf (ReactsBy (alone grant) (Follows always_true) g inputs)
grant_reacts inputs = one_reaction_by (alone grant) always_true g inputs grant_ranked (grant_clocks, tt) (refl, tt) is_strategy
