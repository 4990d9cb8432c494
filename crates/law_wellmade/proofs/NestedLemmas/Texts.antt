-- The clocks of the equations of a text's program are short.
use Rattle.std.proofs.Common.{ℕ, ◌+◌, ◌≤◌, List, [], ◌∷◌, length, map, sym, subst, arith}
use Rattle.std.specs.Prelude.{Some}
use Rattle.std.specs.List.{AllByRecursion}
use Rattle.hp_lexer.specs.Lexing.{AreTokensOf}
use Rattle.hp_lexer.specs.declared.token.Token.{Token}
use Rattle.hp_parser.specs.Lexemes.{lexemes}
use Rattle.hp_parser.specs.Programs.{IsProgram}
use Rattle.hp_tree.specs.declared.program.Item.{Item}
use Rattle.hp_tree.specs.declared.program.Item.TheVariants.{TypeItem, NodeItem}
use Rattle.hp_tree.specs.Programs.{Node}
use Rattle.hp_names.specs.Scopes.{nothing}
use Rattle.hp_meaning.specs.Causal.Clocked.{ClocksRight}
use Rattle.hp_meaning.specs.Causal.Points.{NamesDeclared}
use Rattle.hp_meaning.specs.Clocking.Clocking.{NodeNamed}
use Rattle.law_judged.specs.Named.Scoped.{NodeScoped, EachNode}
use Rattle.hp_expand.specs.Numbering.{replaced}
use Rattle.law_judged.proofs.ReplacedLemmas.JudgedReplaced.{judged_replaced}
use Rattle.law_judged.proofs.PlainLemmas.Spelled.{found_of}
use Rattle.law_judged.specs.Clocked.Laws.{HasClocks}
use Rattle.law_judged.proofs.ClockedLemmas.Clocked.{clocked}
use Rattle.law_values.specs.Accepted.Laws.{IsReady}
use Rattle.law_values.proofs.AcceptedLemmas.Laws.{ready_text}
use Rattle.hp_automata.specs.Lowering.{Enumerations, enumerations, lowered_node, lowered_item, lowered_program}
use Rattle.law_automata.specs.Lowered.Removable.{IsRemovable}
use Rattle.law_automata.proofs.LoweredLemmas.RightSteps.{clocks_law}
use Rattle.law_automata.proofs.LowerableLemmas.Neat.{NodeNeat, levels}
use Rattle.law_automata.proofs.LowerableLemmas.NeatKept.{program_clocked}
use Rattle.law_automata.proofs.LowerableLemmas.NeatReplaced.{program_neat}
use Rattle.law_automata.proofs.LowerableLemmas.NeatTexts.{items_neat}
use Rattle.law_automata.proofs.LowerableLemmas.Weights.{all_few}
use Rattle.law_automata.proofs.LowerableLemmas.Texts.{clocked_of, removable}
use Rattle.hp_flat.specs.Equations.{FlatEqn}
use Rattle.hp_flat.specs.Nodes.{FlatNode}
use Rattle.law_equations.specs.Made.Making.{Known, sketch_node}
use Rattle.law_equations.specs.Made.Laws.{unplaced}
use Rattle.hp_complete.specs.Made.{IsMadeOf, AreMadeOf}
use Rattle.law_wellmade.specs.Nested.Nested.{arms_of_block}
use Rattle.law_wellmade.specs.Nested.Laws.{TextLaw}
use Rattle.law_wellmade.proofs.NestedLemmas.Blocks.{node_law}
use Rattle.law_wellmade.proofs.NestedLemmas.Lowered.{lowered_law}
use Rattle.law_wellmade.proofs.NestedLemmas.Written.{written_law}
use Rattle.law_wellmade.proofs.NestedLemmas.Levels.{block_levels}

-- ---- equations at other places

abbrev AllShort : ℕ → List FlatEqn → Type 0
AllShort limit es = AllByRecursion (λ (e : FlatEqn). length e.clock ≤ limit) es

placed_so : (m limit : ℕ) → m ≤ limit → (es : List FlatEqn) → AllShort m es → AllShort limit (map unplaced es)
placed_so m limit l [] h = tt
placed_so m limit l (e ∷ es) h = ((let a = h.0 in omega (arith, a, l)), placed_so m limit l es h.1)

placed_back : (limit : ℕ) (es : List FlatEqn) → AllShort limit (map unplaced es) → AllShort limit es
placed_back limit [] h = tt
placed_back limit (e ∷ es) h = (h.0, placed_back limit es h.1)

-- ---- nodes

node_short : (enums : Enumerations) (k : Known) (n : Node) (f : FlatNode) → HasClocks n → NodeNeat levels n → ClocksRight (lowered_node enums n) → IsMadeOf k (lowered_node enums n) f → AllShort 128 f.eqns
node_short enums k n f c neat right made =
    let low = lowered_node enums n in
    let fewer = (lowered_law enums 64 n).0 in
    let room = block_levels n.body 63 neat.1 in
    let within : arms_of_block low.body + 65 ≤ 128 = omega (arith, fewer, room) in
    let short = node_law k 64 low right ((lowered_law enums 64 n).1 (written_law 64 n c.short)) in
    placed_back 128 f.eqns (subst (AllShort 128) (sym made.eqns) (placed_so (arms_of_block low.body + 65) 128 within (sketch_node k low).eqns short))

items_short : (enums : Enumerations) (k : Known) (items : List Item) (fs : List FlatNode) → EachNode HasClocks items → EachNode (NodeNeat levels) items → IsRemovable items
    → AreMadeOf k (map (lowered_item enums) items) fs
    → AllByRecursion (λ (f : FlatNode). AllByRecursion (λ (e : FlatEqn). length e.clock ≤ 128) f.eqns) fs
items_short enums k [] [] c n ok made = tt
items_short enums k [] (f ∷ fs) c n ok made = absurd made
items_short enums k (TypeItem t ∷ items) fs c n ok made = items_short enums k items fs c n ok made
items_short enums k (NodeItem m ∷ items) [] c n ok made = absurd made
items_short enums k (NodeItem m ∷ items) (f ∷ fs) c n ok made = (node_short enums k m f c.0 n.0 (clocks_law enums m ok.0 c.0.right) made.0, items_short enums k items fs c.1 n.1 ok.1 made.1)

-- ---- the program of a text

scoped_alone : (items : List Item) → EachNode (λ n. NodeScoped n × NodeNamed n × NamesDeclared n) items → EachNode NodeScoped items
scoped_alone [] h = tt
scoped_alone (TypeItem t ∷ items) h = scoped_alone items h
scoped_alone (NodeItem n ∷ items) h = (h.0.0, scoped_alone items h.1)

pub short_text : (text : List ℕ) (tokens : List Token) (program after : List Item) (k : Known) (fs : List FlatNode) → AreTokensOf text tokens → IsProgram (lexemes text tokens) program
    → IsReady program after → AreMadeOf k (lowered_program after) fs
    → AllByRecursion (λ (f : FlatNode). AllByRecursion (λ (e : FlatEqn). length e.clock ≤ 128) f.eqns) fs
short_text text tokens program after k fs a p r made =
    let found = (found_of text tokens program a.read p).0.0 in
    let neat = program_neat 63 program (items_neat 200 nothing (Some 64) (Some 64) (Some 63) program found r.named (all_few text tokens program a p)) r.limits in
    let scoped = scoped_alone (replaced program) (judged_replaced program r.named r.typed r.defined r.limits r.merges r.names r.calls) in
    items_short (enumerations [] after) k after fs (clocked (replaced program) after scoped r.clocks)
    (program_clocked levels (replaced program) after (clocked_of (replaced program) after r.clocks) neat) (removable text tokens program after a p r) made

pub text_law : TextLaw
text_law text tokens program after k fs a p n t d f i c made = short_text text tokens program after k fs a p (ready_text text tokens program after a p n t d f i c) made
