-- The body of a node without automata defines the outputs of the node, and nothing else.
use Rattle.std.proofs.Common.{◌≡◌, ℕ, ⊎_elim, Bool, true, false, ◌||◌, List, [], sym, subst}
use Rattle.std.specs.Prelude.{IsTrue}
use Rattle.hp_tree.specs.Expressions.{variable}
use Rattle.hp_tree.specs.Blocks.{Block, block, reset}
use Rattle.hp_tree.specs.Meaning.{declares, some_defines, block_defines, controls_of}
use Rattle.law_judged.specs.Named.Scoped.{Names, also, no_names, BlockScoped, equations_of, interface}
use Rattle.law_judged.proofs.NamedLemmas.Sets.{or_cases, or_left, or_right, both_true}
use Rattle.law_judged.proofs.NamedLemmas.Declared.{eqn_owned}
use Rattle.hp_automata.specs.Lowering.{types_of}
use Rattle.law_automata.proofs.LoweredLemmas.Defined.{block_complete}
use Rattle.law_automata.proofs.LoweredLemmas.Lookups.{block_sound}
use Rattle.law_automata.proofs.LoweredLemmas.Nodes.{itself_renames}
use Rattle.law_automata.proofs.LoweredLemmas.RightSteps.{declared_old}
use Rattle.law_automata.specs.Readied.Laws.{OutputsLaw}

no_more : (b : Bool) → (b || false) ≡ true → b ≡ true
no_more true h = h
no_more false h = h

one_more : (b : Bool) → b ≡ true → (b || false) ≡ true
one_more true h = h
one_more false h = h

-- what is seen around a block is defined by it where its equations define it
out_defined : (seen own : Names) (b : Block) → BlockScoped seen own b → (x : List ℕ) → IsTrue (seen x) → IsTrue (some_defines (equations_of b) x) → block_defines b x ≡ true
out_defined seen own (block ds es) s x q h = both_true (some_defines es x) (declares ds x) h (λ d. s.1 x d q)

pub outputs_law : OutputsLaw
outputs_law enums n sc ok =
    let seen = also (interface n) (controls_of n.contract) in
    let own = also no_names n.outputs in (
      (λ x h.
          let there : IsTrue (seen x) = or_right (declares (controls_of n.contract) x) (interface n x) (or_left (declares n.outputs x) (also no_names n.inputs x) h) in
          block_complete enums itself_renames (types_of n) n.span [] n.body ok.body (λ y q. absurd cc) x (declared_old enums n.outputs ok.outputs x h) (one_more (block_defines n.body x) (out_defined seen own n.body sc.body x there (sc.outputs x h)))),
      (λ x h.
          let stood = block_sound enums itself_renames (types_of n) n.span [] n.body ok.body (λ y q. absurd cc) x h in
          let mine : block_defines n.body x ≡ true = no_more (block_defines n.body x) (subst (λ z. (block_defines n.body z || false) ≡ true) (sym stood.is) stood.own) in
          ⊎_elim (λ l. l) (λ l. absurd (cc l)) (or_cases (declares n.outputs x) false (eqn_owned x seen own (reset n.span n.body (variable n.span [])) sc.body mine))),
    )
