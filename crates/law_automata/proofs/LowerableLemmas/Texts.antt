-- The program of a text that is judged and arranged is one whose automata may be removed.
use Rattle.std.proofs.Common.{ℕ, List, [], ◌∷◌, reverse, sym, subst}
use Rattle.std.proofs.lemmas.List.{reverse-reverse}
use Rattle.std.specs.Prelude.{Some}
use Rattle.hp_lexer.specs.Lexing.{AreTokensOf}
use Rattle.hp_lexer.specs.declared.token.Token.{Token}
use Rattle.hp_parser.specs.Lexemes.{lexemes}
use Rattle.hp_parser.specs.Programs.{IsProgram}
use Rattle.hp_tree.specs.declared.program.Item.{Item}
use Rattle.hp_tree.specs.declared.program.Item.TheVariants.{TypeItem, NodeItem}
use Rattle.hp_tree.specs.Programs.{TypeDecl, Node}
use Rattle.hp_tree.specs.Meaning.{types_of, node_among}
use Rattle.hp_meaning.specs.Causal.Points.{NamesDeclared}
use Rattle.hp_names.specs.Scopes.{nothing}
use Rattle.law_judged.proofs.TypedLemmas.ProgramLaws.{typed}
use Rattle.hp_meaning.specs.Clocking.Clocking.{NodeNamed}
use Rattle.hp_clocks.specs.Writing.{AreWritten}
use Rattle.hp_clocks.specs.Answers.{IsClocked}
use Rattle.law_judged.specs.Named.Scoped.{NodeScoped, EachNode}
use Rattle.law_judged.proofs.NamedLemmas.Judged.{scoped}
use Rattle.law_judged.proofs.NamedLemmas.Clocks.{node_kept}
use Rattle.hp_expand.specs.Numbering.{no_node, replaced}
use Rattle.law_judged.specs.Once.Once.{DefinedOnce}
use Rattle.law_judged.proofs.OnceLemmas.Clocks.{kept}
use Rattle.law_judged.proofs.OnceLemmas.ReplacedNodes.{judged_once}
use Rattle.law_judged.proofs.PlainLemmas.Spelled.{found_of}
use Rattle.law_judged.specs.Replaced.Fitting.{NodeNames}
use Rattle.law_judged.proofs.ReplacedLemmas.CallsFit.{calls_fit}
use Rattle.law_judged.proofs.ReplacedLemmas.Enough.{few_variables}
use Rattle.law_judged.proofs.ReplacedLemmas.Marks.{all_few_calls}
use Rattle.law_judged.proofs.ReplacedLemmas.JudgedReplaced.{all_can, judged_replaced}
use Rattle.law_values.specs.Valued.Values.{scope_behind, Classing, class_behind, AreAccepted}
use Rattle.law_values.specs.Accepted.Written.{AreClocked}
use Rattle.law_values.specs.Accepted.Laws.{IsReady}
use Rattle.law_values.proofs.AcceptedLemmas.Laws.{ready_text, accepted}
use Rattle.law_automata.specs.Lowered.OldNames.{IsOld}
use Rattle.law_automata.specs.Lowered.Removable.{IsRemovable}
use Rattle.law_automata.proofs.LoweredLemmas.Programs.{removable_reverse}
use Rattle.law_automata.specs.Lowerable.Laws.{RemovableTextLaw}
use Rattle.law_automata.proofs.LowerableLemmas.Neat.{NodeNeat, levels}
use Rattle.law_automata.proofs.LowerableLemmas.NeatKept.{program_clocked}
use Rattle.law_automata.proofs.LowerableLemmas.NeatReplaced.{program_neat}
use Rattle.law_automata.proofs.LowerableLemmas.NeatTexts.{items_neat}
use Rattle.law_automata.proofs.LowerableLemmas.Weights.{all_few}
use Rattle.law_automata.proofs.LowerableLemmas.OldNodes.{program_old, old_clocked}
use Rattle.law_automata.proofs.LowerableLemmas.Removing.{node_ok}

-- ---- clocks

pub clocked_of : (xs ys : List Item) → AreWritten IsClocked xs ys → AreClocked xs ys
clocked_of [] [] w = tt
clocked_of [] (y ∷ ys) w = absurd w
clocked_of (x ∷ xs) [] w = absurd (none x xs w)
  where
    none : (x : Item) (xs : List Item) → AreWritten IsClocked (x ∷ xs) [] → ⊥
    none x xs w = w
clocked_of (TypeItem t ∷ xs) (y ∷ ys) w = (w.0, clocked_of xs ys w.1)
clocked_of (NodeItem n ∷ xs) (y ∷ ys) w = ((w.0.0, (w.0.1.0, w.0.2)), clocked_of xs ys w.1)

pub scoped_clocked : (xs ys : List Item) → AreClocked xs ys → EachNode (λ n. NodeScoped n × NodeNamed n × NamesDeclared n) xs → EachNode NodeScoped ys
scoped_clocked [] [] c p = tt
scoped_clocked (TypeItem t ∷ xs) (y ∷ ys) c p = subst (λ z. EachNode NodeScoped (z ∷ ys)) (sym c.0) (scoped_clocked xs ys c.1 p)
scoped_clocked (NodeItem n ∷ xs) (y ∷ ys) c p = subst (λ z. EachNode NodeScoped (z ∷ ys)) (sym c.0.1.1) (node_kept c.0.0 n p.0.0, scoped_clocked xs ys c.1 p.1)
scoped_clocked [] (y ∷ ys) c p = absurd c
scoped_clocked (TypeItem t ∷ xs) [] c p = absurd c
scoped_clocked (NodeItem n ∷ xs) [] c p = absurd c

once_clocked : (xs ys : List Item) → AreClocked xs ys → EachNode DefinedOnce xs → EachNode DefinedOnce ys
once_clocked [] [] c p = tt
once_clocked (TypeItem t ∷ xs) (y ∷ ys) c p = subst (λ z. EachNode DefinedOnce (z ∷ ys)) (sym c.0) (once_clocked xs ys c.1 p)
once_clocked (NodeItem n ∷ xs) (y ∷ ys) c p = subst (λ z. EachNode DefinedOnce (z ∷ ys)) (sym c.0.1.1) (kept n c.0.0 p.0, once_clocked xs ys c.1 p.1)
once_clocked [] (y ∷ ys) c p = absurd c
once_clocked (TypeItem t ∷ xs) [] c p = absurd c
once_clocked (NodeItem n ∷ xs) [] c p = absurd c

-- ---- the last item first

abbrev pub onto : List Item → List Item → List Item
onto [] ys = ys
onto (x ∷ xs) ys = onto xs (x ∷ ys)

each_onto : (P : Node → Type 0) (xs ys : List Item) → EachNode P xs → EachNode P ys → EachNode P (onto xs ys)
each_onto P [] ys p q = q
each_onto P (TypeItem t ∷ xs) ys p q = each_onto P xs (TypeItem t ∷ ys) p q
each_onto P (NodeItem n ∷ xs) ys p q = each_onto P xs (NodeItem n ∷ ys) p.1 (p.0, q)

pub each_reverse : (P : Node → Type 0) (xs : List Item) → EachNode P xs → EachNode P (reverse xs)
each_reverse P xs p = each_onto P xs [] p tt

all_removable : (types : List TypeDecl) (class : Classing) (items : List Item) → EachNode NodeScoped items → EachNode (NodeNames IsOld) items → EachNode DefinedOnce items → EachNode (NodeNeat levels) items → AreAccepted types class items → IsRemovable items
all_removable types class [] s p o n a = tt
all_removable types class (TypeItem t ∷ items) s p o n a = all_removable types class items s p o n a
all_removable types class (NodeItem m ∷ items) s p o n a =
    (node_ok types (node_among items) (scope_behind items) m s.0 p.0 o.0 a.0.clocks a.0.sound n.0, all_removable types (class_behind class) items s.1 p.1 o.1 n.1 a.1)

-- ---- the program of a text

pub removable : (text : List ℕ) (tokens : List Token) (program after : List Item) → AreTokensOf text tokens → IsProgram (lexemes text tokens) program → IsReady program after → IsRemovable after
removable text tokens program after a p r =
    let clocked = clocked_of (replaced program) after r.clocks in
    let can = all_can no_node program (scoped program r.named r.defined) r.names (calls_fit program r.named (typed program r.named r.typed r.merges)) (all_few_calls no_node program r.calls) (few_variables program r.limits) in
    let ok = accepted program after r in
    let found = (found_of text tokens program a.read p).0.0 in
    let neat = program_neat 63 program (items_neat 200 nothing (Some 64) (Some 64) (Some 63) program found r.named (all_few text tokens program a p)) r.limits in
    let back =
    all_removable (types_of after) ok.0 (reverse after)
    (each_reverse NodeScoped after (scoped_clocked (replaced program) after clocked (judged_replaced program r.named r.typed r.defined r.limits r.merges r.names r.calls)))
    (each_reverse (NodeNames IsOld) after (old_clocked (replaced program) after clocked (program_old program can)))
    (each_reverse DefinedOnce after (once_clocked (replaced program) after clocked (judged_once program r.named r.typed r.defined r.limits r.merges r.names r.calls)))
    (each_reverse (NodeNeat levels) after (program_clocked levels (replaced program) after clocked neat)) ok.1 in
    subst IsRemovable (reverse-reverse after) (removable_reverse (reverse after) back)

pub removable_text : RemovableTextLaw
removable_text text tokens program after a p n t d f i c = removable text tokens program after a p (ready_text text tokens program after a p n t d f i c)
