-- The program of a text without its automata.
use Rattle.std.proofs.Common.{ℕ, List, [], ◌∷◌}
use Rattle.std.specs.Prelude.{Option, Some}
use Rattle.hp_tree.specs.declared.program.Item.{Item}
use Rattle.hp_tree.specs.declared.program.Item.TheVariants.{TypeItem, NodeItem}
use Rattle.hp_print.proofs.Readable.{Each, GoodConstructors, GoodItem}
use Rattle.law_judged.proofs.PlainLemmas.Spelled.{found_of}
use Rattle.law_values.proofs.AcceptedLemmas.Laws.{ready_text}
use Rattle.law_automata.proofs.LowerableLemmas.Texts.{removable}
use Rattle.law_automata.specs.Readied.Sound.{HasOne, HaveConstructors, TextLaw}
use Rattle.law_automata.proofs.ReadiedLemmas.SoundPrograms.{ready_sound_law}
use Rattle.law_automata.proofs.ReadiedLemmas.Whole.{whole_law}

has_one : (more : Option ℕ) (cs : List (List ℕ)) → GoodConstructors more cs → HasOne cs
has_one more [] h = h
has_one more (c ∷ cs) h = tt

have_constructors : (d nested : ℕ) (inputs outputs more : Option ℕ) (items : List Item) → Each (GoodItem d nested inputs outputs more) items → HaveConstructors items
have_constructors d nested inputs outputs more [] g = tt
have_constructors d nested inputs outputs more (TypeItem t ∷ items) g = (has_one more t.cons g.0, have_constructors d nested inputs outputs more items g.1)
have_constructors d nested inputs outputs more (NodeItem n ∷ items) g = have_constructors d nested inputs outputs more items g.1

pub text_law : TextLaw
text_law text tokens program after a p n t d f i c =
    let r = ready_text text tokens program after a p n t d f i c in
    let ok = removable text tokens program after a p r in
    let found = (found_of text tokens program a.read p).0.0 in
    (ready_sound_law program after r ok (have_constructors 200 64 (Some 64) (Some 64) (Some 63) program found), whole_law program after r ok)
