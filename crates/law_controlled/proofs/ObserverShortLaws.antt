-- Clocks of the clocked equations of observers are short: so many levels of arms, and so long clocks, has the contract of a node as its body.
use Rattle.std.proofs.Common.{◌≡◌, ℕ, ◌+◌, ◌<◌, ◌≤◌, List, [], ◌∷◌, ◌++◌, length, map, Option, None, Some, refl, sym, ap, subst, arith}
use Rattle.std.specs.Prelude.{⊤}
use Rattle.hp_lexer.specs.Lexing.{AreTokensOf}
use Rattle.hp_lexer.specs.declared.token.Token.{Token}
use Rattle.hp_parser.specs.Lexemes.{lexemes}
use Rattle.hp_parser.specs.Programs.{IsProgram}
use Rattle.hp_tree.specs.Blocks.{Block, block, Decl, Eqn, define, Eqns, no_eqn, more_eqns, eqns_of, list_of_eqns}
use Rattle.hp_tree.specs.Instant.{Place, Body, Observer}
use Rattle.hp_tree.specs.Programs.{Contract, Node}
use Rattle.hp_tree.specs.declared.program.Item.{Item}
use Rattle.hp_tree.specs.declared.program.Item.TheVariants.{TypeItem, NodeItem}
use Rattle.hp_names.specs.Scopes.{nothing}
use Rattle.law_judged.specs.Clocked.Laws.{HasClocks}
use Rattle.law_judged.specs.Named.Scoped.{EachNode, NodeScoped}
use Rattle.law_judged.proofs.ClockedLemmas.Clocked.{clocked}
use Rattle.law_judged.proofs.PlainLemmas.Spelled.{found_of}
use Rattle.law_judged.proofs.ReplacedLemmas.JudgedReplaced.{judged_replaced}
use Rattle.hp_expand.specs.Numbering.{replaced}
use Rattle.law_values.specs.Accepted.Laws.{IsReady}
use Rattle.hp_meaning.specs.Causal.Clocked.{ClocksRight}
use Rattle.hp_meaning.specs.Causal.Points.{NamesDeclared}
use Rattle.hp_meaning.specs.Clocking.Clocking.{NodeNamed}
use Rattle.hp_meaning.specs.Clocking.EveryClock.{IsLong, every_clock_of_contract, every_clock_of_node}
use Rattle.hp_automata.specs.Lowering.{Enumerations, lowered_item, lowered_node}
use Rattle.law_automata.proofs.LowerableLemmas.Neat.{ContractNeat, NodeNeat, levels}
use Rattle.law_automata.proofs.LowerableLemmas.NeatKept.{program_clocked}
use Rattle.law_automata.proofs.LowerableLemmas.NeatReplaced.{program_neat}
use Rattle.law_automata.proofs.LowerableLemmas.NeatTexts.{items_neat}
use Rattle.law_automata.proofs.LowerableLemmas.Texts.{clocked_of}
use Rattle.law_automata.proofs.LowerableLemmas.Weights.{all_few}
use Rattle.hp_flat.specs.Equations.{FlatEqn}
use Rattle.hp_flat.specs.Nodes.{FlatNode}
use Rattle.law_equations.specs.Made.Making.{Known, sketch_node}
use Rattle.hp_complete.specs.Made.{AreMadeOf, IsMadeOf}
use Rattle.law_wellmade.specs.Nested.Nested.{BlockShort, EqnsShort, arms_of_block, arms_of_eqns}
use Rattle.law_wellmade.proofs.NestedLemmas.Blocks.{node_law}
use Rattle.law_wellmade.proofs.NestedLemmas.Levels.{block_levels}
use Rattle.law_wellmade.proofs.NestedLemmas.Lowered.{lowered_law}
use Rattle.law_wellmade.proofs.NestedLemmas.Written.{written_law}
use Rattle.hp_watch.specs.Observing.{all_handed_on, lines_of, observer_if, observer_of, observers, with_lines}
use Rattle.law_choices.specs.InTurn.Observed.{EachObserved, contracted_nodes, with_contract}
use Rattle.law_choices.proofs.AddingLemmas.Placed.{same_eqns, transfer}
use Rattle.law_choices.proofs.ObservedLemmas.Clocks.{clock_behind, outputs_based}
use Rattle.law_choices.proofs.ObservedLemmas.Programs.{each_node}
use Rattle.law_choices.proofs.ObservedLemmas.Removable.{AllBase}
use Rattle.law_controlled.proofs.ShortLaws.{AllShort}

-- ---- the block of a contract with more lines

-- equations of names
abbrev AreDefined : List Eqn → Type 0
AreDefined [] = ⊤
AreDefined (define s ys e ∷ lines) = AreDefined lines
AreDefined (other ∷ lines) = ⊥

handed_defined : (i : ℕ) (ds : List Decl) → AreDefined (all_handed_on i ds)
handed_defined i [] = tt
handed_defined i (d ∷ ds) = handed_defined (i + 1) ds

lines_arms : (lines : List Eqn) → AreDefined lines → arms_of_eqns (eqns_of lines) ≤ 0
lines_arms [] h = omega arith
lines_arms (define s ys e ∷ lines) h = let rest = lines_arms lines h in omega (arith, rest)
lines_arms (other ∷ lines) h = absurd h

arms_behind : (es : Eqns) (lines : List Eqn) → AreDefined lines → arms_of_eqns (eqns_of (list_of_eqns es ++ lines)) ≤ arms_of_eqns es
arms_behind no_eqn lines h = lines_arms lines h
arms_behind (more_eqns e es) lines h = let rest = arms_behind es lines h in omega (arith, rest)

body_arms : (b : Block) (more : List Decl) (lines : List Eqn) → AreDefined lines → arms_of_block (with_lines b more lines) ≤ arms_of_block b
body_arms (block ds es) more lines h = arms_behind es lines h

lines_short : (limit : ℕ) (lines : List Eqn) → AreDefined lines → EqnsShort limit (eqns_of lines)
lines_short limit [] h = tt
lines_short limit (define s ys e ∷ lines) h = (tt, lines_short limit lines h)
lines_short limit (other ∷ lines) h = absurd h

short_behind : (limit : ℕ) (es : Eqns) (lines : List Eqn) → AreDefined lines → EqnsShort limit es → EqnsShort limit (eqns_of (list_of_eqns es ++ lines))
short_behind limit no_eqn lines h s = lines_short limit lines h
short_behind limit (more_eqns e es) lines h s = (s.0, short_behind limit es lines h s.1)

body_short : (limit : ℕ) (b : Block) (more : List Decl) (lines : List Eqn) → AllBase more → AreDefined lines → BlockShort limit b → BlockShort limit (with_lines b more lines)
body_short limit (block ds es) more lines base h s = (
  λ x. let same = ap length (clock_behind ds more base x) in let own = s.0 x in omega (arith, same, own),
  short_behind limit es lines h s.1,
)

-- ---- the observer of a node

-- the clocks of its contract are those of a body
contract_short : (limit : ℕ) (n : Node) (c : Contract) → n.contract ≡ Some c → (IsLong limit n → ⊥) → BlockShort limit c.body
contract_short limit n c e none = written_law limit (record n { contract = None; body = c.body }) (λ h. by h.0 h.1)
  where
    by : (p : Place) → limit < length (every_clock_of_node (record n { contract = None; body = c.body }) p) → ⊥
    by [] l = absurd (omega (arith, l))
    by (Body ∷ p) l = none (Observer ∷ p, subst (λ z. limit < length (every_clock_of_contract z (Observer ∷ p))) (sym e) l)
    by (s ∷ p) l = absurd (omega (arith, l))

observer_short : (enums : Enumerations) (k : Known) (n : Node) (c : Contract) (f : FlatNode) → n.contract ≡ Some c → HasClocks n → NodeNeat levels n → AllBase n.outputs → ClocksRight (lowered_node enums (observer_of n c)) → IsMadeOf k (lowered_node enums (observer_of n c)) f
    → AllShort 128 f.eqns
observer_short enums k n c f e clocks neat base right made =
    let o = observer_of n c in
    let low = lowered_node enums o in
    let defined : AreDefined (lines_of n c) = handed_defined 0 n.outputs in
    let fewer = (lowered_law enums 64 o).0 in
    let own = body_arms c.body n.outputs (lines_of n c) defined in
    let room = block_levels c.body 63 (subst (λ (z : Option Contract). ContractNeat 63 z) e neat.0) in
    let within : arms_of_block low.body + 65 ≤ 128 = omega (arith, fewer, own, room) in
    let short = node_law k 64 low right ((lowered_law enums 64 o).1 (body_short 64 c.body n.outputs (lines_of n c) base defined (contract_short 64 n c e clocks.short))) in
    transfer (λ (d : FlatEqn). length d.clock ≤ 128) (λ d l. l) (λ d l. l) (sketch_node k low).eqns f.eqns (same_eqns (sketch_node k low).eqns f.eqns (sym made.eqns))
    (looser (arms_of_block low.body + 65) within (sketch_node k low).eqns short)
  where
    looser : (m : ℕ) → m ≤ 128 → (es : List FlatEqn) → AllShort m es → AllShort 128 es
    looser m l [] h = tt
    looser m l (d ∷ es) h = ((let a = h.0 in omega (arith, a, l)), looser m l es h.1)

-- ---- all observers of a program

-- what is known of a node of the program
pub record IsLevel (n : Node) : Type 0 where
  pub clocks : HasClocks n
  pub neat : NodeNeat levels n
  pub base : AllBase n.outputs

module _ (enums : Enumerations) (k : Known) where
  pub observers_short : (items : List Item) (fs : List FlatNode) → EachNode IsLevel items → EachNode ClocksRight (map (lowered_item enums) (observers items)) → AreMadeOf k (map (lowered_item enums) (observers items)) fs
      → EachObserved (λ n f. AllShort 128 f.eqns) (contracted_nodes items) fs
  observers_short [] [] h right made = tt
  observers_short [] (f ∷ fs) h right made = absurd made
  observers_short (TypeItem t ∷ items) fs h right made = observers_short items fs h right made
  observers_short (NodeItem n ∷ items) fs h right made = by n.contract refl fs right made (observers_short items)
    where
      by : (o : Option Contract) → n.contract ≡ o → (fs : List FlatNode) → EachNode ClocksRight (map (lowered_item enums) (observer_if n o ++ observers items)) → AreMadeOf k (map (lowered_item enums) (observer_if n o ++ observers items)) fs
          → ((gs : List FlatNode) → EachNode IsLevel items → EachNode ClocksRight (map (lowered_item enums) (observers items)) → AreMadeOf k (map (lowered_item enums) (observers items)) gs → EachObserved (λ n f. AllShort 128 f.eqns) (contracted_nodes items) gs)
          → EachObserved (λ n f. AllShort 128 f.eqns) (with_contract n o ++ contracted_nodes items) fs
      by None e fs right made rest = rest fs h.1 right made
      by (Some c) e [] right made rest = absurd made
      by (Some c) e (f ∷ fs) right made rest =
          let level = h.0 in
          (observer_short enums k n c f e level.clocks level.neat level.base right.0 made.0, rest fs h.1 right.1 made.1)

-- So it is of each node of the program of a text.
pub all_levels : (text : List ℕ) (tokens : List Token) (program after : List Item) → AreTokensOf text tokens → IsProgram (lexemes text tokens) program → IsReady program after → EachNode IsLevel after
all_levels text tokens program after a p r =
    let found = (found_of text tokens program a.read p).0.0 in
    let clocks_are = clocked_of (replaced program) after r.clocks in
    let neat = program_neat 63 program (items_neat 200 nothing (Some 64) (Some 64) (Some 63) program found r.named (all_few text tokens program a p)) r.limits in
    let scoped = each_node (λ n. NodeScoped n × NodeNamed n × NamesDeclared n) NodeScoped (λ n h. h.0) (replaced program) (judged_replaced program r.named r.typed r.defined r.limits r.merges r.names r.calls) in
    joined after (clocked (replaced program) after scoped r.clocks) (program_clocked levels (replaced program) after clocks_are neat) (outputs_based (replaced program) after clocks_are)
  where
    joined : (items : List Item) → EachNode HasClocks items → EachNode (NodeNeat levels) items → EachNode (λ (n : Node). AllBase n.outputs) items → EachNode IsLevel items
    joined [] c n b = tt
    joined (TypeItem t ∷ items) c n b = joined items c n b
    joined (NodeItem m ∷ items) c n b = (record { clocks = c.0; neat = n.0; base = b.0 }, joined items c.1 n.1 b.1)
