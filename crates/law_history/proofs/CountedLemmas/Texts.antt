-- The machines of a text's program are within the executor's limits.
use Rattle.std.proofs.Common.{◌≤◌, inl, inr, ℕ, List, arith}
use Rattle.std.specs.Prelude.{Some}
use Rattle.hp_lexer.specs.Lexing.{AreTokensOf}
use Rattle.hp_lexer.specs.declared.token.Token.{Token}
use Rattle.hp_parser.specs.Lexemes.{lexemes}
use Rattle.hp_parser.specs.Programs.{IsProgram}
use Rattle.hp_tree.specs.declared.program.Item.{Item}
use Rattle.hp_names.specs.Scopes.{nothing}
use Rattle.law_judged.specs.Named.Scoped.{EachNode}
use Rattle.law_judged.proofs.PlainLemmas.Spelled.{found_of}
use Rattle.law_values.specs.Accepted.Laws.{IsReady}
use Rattle.law_values.proofs.AcceptedLemmas.Laws.{ready_text}
use Rattle.hp_automata.specs.Lowering.{lowered_program}
use Rattle.law_automata.proofs.LowerableLemmas.Neat.{NodeNeat}
use Rattle.law_automata.proofs.LowerableLemmas.NeatTexts.{items_neat}
use Rattle.law_automata.proofs.LowerableLemmas.Weights.{all_few}
use Rattle.hp_complete.specs.Declaring.{known_of}
use Rattle.hp_obc.specs.Machines.{Obc}
use Rattle.hp_machines.specs.Machined.{AreMachinesOf}
use Rattle.hp_exec.specs.Answers.{IsPassed}
use Rattle.hp_exec.specs.Bounds.{longest_chain, instance_count}
use Rattle.law_history.specs.Counted.Laws.{FewLaw, NeverLaw}
use Rattle.law_history.proofs.CountedLemmas.Limits.{instances_within, chains_within}

pub few_text : (text : List ℕ) (tokens : List Token) (program after : List Item) (o : Obc) → AreTokensOf text tokens → IsProgram (lexemes text tokens) program → IsReady program after → AreMachinesOf after o
    → (f : List ℕ) → (longest_chain o.machines f ≤ 64) × (instance_count o.machines f ≤ 100000)
few_text text tokens program after o a p r h f =
    let found = (found_of text tokens program a.read p).0.0 in
    let neat : EachNode (NodeNeat 63) program = items_neat 200 nothing (Some 64) (Some 64) (Some 63) program found r.named (all_few text tokens program a p) in
    let k = known_of (lowered_program after) in (
      chains_within 63 program after k o.types h.nodes o.machines r.named neat r.limits r.clocks h.equations h.made f,
      instances_within 63 program after k o.types h.nodes o.machines r.named neat r.limits r.clocks h.equations h.made f,
    )

pub few_law : FewLaw
few_law text tokens program after o a p n t d f i c h g = few_text text tokens program after o a p (ready_text text tokens program after a p n t d f i c) h g

pub never_law : NeverLaw
never_law text tokens program after o a p n t d f i c h g l passed = by (few_law text tokens program after o a p n t d f i c h g) passed
  where
    by : (longest_chain o.machines g ≤ 64) × (instance_count o.machines g ≤ 100000) → IsPassed o g l → ⊥
    by b (inl q) = (let a = b.0 in let c = q.0 in absurd (omega (arith, a, c)))
    by b (inr q) = (let a = b.1 in let c = q.1 in absurd (omega (arith, a, c)))
