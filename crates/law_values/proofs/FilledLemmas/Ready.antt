-- The filled form of ready programs.
use Rattle.std.proofs.Common.{◌≡◌, ℕ, List, [], ◌∷◌, length, arith, reverse, refl, sym, ap, subst, ◌∙◌}
use Rattle.std.specs.Prelude.{⊤, Option, Some}
use Rattle.hp_base.specs.declared.value.Value.{Value}
use Rattle.hp_tree.specs.declared.program.Item.{Item}
use Rattle.hp_tree.specs.declared.program.Item.TheVariants.{TypeItem, NodeItem}
use Rattle.hp_tree.specs.Programs.{TypeDecl}
use Rattle.hp_tree.specs.Operators.{real}
use Rattle.hp_tree.specs.Instant.{Controls, Place, Instant, Past, part}
use Rattle.hp_tree.specs.Meaning.{given_to, nodes, meaning, types_of}
use Rattle.hp_tree.specs.Reaction.{Reaction}
use Rattle.hp_meaning.proofs.CausalLemmas.Fix.{Fixed}
use Rattle.hp_meaning.proofs.CausalLemmas.LookedAt.{SameControls, nodes_agree}
use Rattle.hp_meaning.proofs.CausalLemmas.Swap.{OfParts, given}
use Rattle.hp_meaning.proofs.CausalLemmas.Ranking.{all_ranks_enough}
use Rattle.hp_clocks.specs.Writing.{AreWritten}
use Rattle.hp_clocks.specs.Answers.{IsClocked}
use Rattle.law_judged.specs.Named.Scoped.{EachNode}
use Rattle.hp_expand.specs.Numbering.{replaced, no_node}
use Rattle.hp_print.proofs.Readable.{Each, GoodConstructors, GoodItem}
use Rattle.law_judged.proofs.PlainLemmas.Spelled.{found_of}
use Rattle.law_values.proofs.AcceptedLemmas.Assembled.{types_replaced}
use Rattle.law_values.proofs.AcceptedLemmas.Laws.{accepted}
use Rattle.law_values.proofs.AcceptedLemmas.Outputs.{frees_fit}
use Rattle.law_values.specs.Filled.Firsts.{TypesHaveConstructors, NodeHasFirsts}
use Rattle.law_values.specs.Filled.Laws.{TextTypesLaw, ReadyFirstsLaw, ReadyFormLaw, ReadyOutputsLaw}
use Rattle.law_values.specs.Accepted.Outputs.{Uncontrolled}
use Rattle.law_values.proofs.FilledLemmas.Programs.{each_reverse}
use Rattle.law_values.proofs.FilledLemmas.Named.{program_first}
use Rattle.law_values.proofs.FilledLemmas.Kept.{replaced_good, node_clocked}
use Rattle.law_values.proofs.FilledLemmas.Reactions.{filled_fits, one_filled_reaction, filled_agrees, same_outputs}

-- ---- the types of a text

some_constructor : (more : Option ℕ) (cs : List (List ℕ)) → GoodConstructors more cs → cs ≡ [] → ⊥
some_constructor more [] g e = g
some_constructor more (c ∷ cs) g e = absurd (cc)

items_types : (d nested : ℕ) (inputs outputs more : Option ℕ) (items : List Item) → Each (GoodItem d nested inputs outputs more) items → TypesHaveConstructors (types_of items)
items_types d nested inputs outputs more [] g = tt
items_types d nested inputs outputs more (TypeItem t ∷ items) g = (some_constructor more t.cons g.0, items_types d nested inputs outputs more items g.1)
items_types d nested inputs outputs more (NodeItem n ∷ items) g = items_types d nested inputs outputs more items g.1

pub text_types : TextTypesLaw
text_types text tokens program a p = items_types 200 64 (Some 64) (Some 64) (Some 63) program (found_of text tokens program a.read p).0.0

-- ---- clocks that are written

written_firsts : (types : List TypeDecl) (xs ys : List Item) → AreWritten IsClocked xs ys → EachNode (NodeHasFirsts types) xs → EachNode (NodeHasFirsts types) ys
written_firsts types [] [] w p = tt
written_firsts types (TypeItem t ∷ xs) (y ∷ ys) w p = subst (λ z. EachNode (NodeHasFirsts types) (z ∷ ys)) (sym w.0) (written_firsts types xs ys w.1 p)
written_firsts types (NodeItem n ∷ xs) (y ∷ ys) w p =
    subst (λ z. EachNode (NodeHasFirsts types) (z ∷ ys)) (sym w.0.2) (node_clocked types w.0.0 n p.0, written_firsts types xs ys w.1 p.1)
written_firsts types [] (y ∷ ys) w p = absurd w
written_firsts types (TypeItem t ∷ xs) [] w p = absurd w
written_firsts types (NodeItem n ∷ xs) [] w p = absurd w

types_written : (xs ys : List Item) → AreWritten IsClocked xs ys → types_of ys ≡ types_of xs
types_written [] [] w = refl
types_written (TypeItem t ∷ xs) (y ∷ ys) w = ap (λ z. types_of (z ∷ ys)) w.0 ∙ ap (λ ts. t ∷ ts) (types_written xs ys w.1)
types_written (NodeItem n ∷ xs) (y ∷ ys) w = ap (λ z. types_of (z ∷ ys)) w.0.2 ∙ types_written xs ys w.1
types_written [] (y ∷ ys) w = absurd w
types_written (TypeItem t ∷ xs) [] w = absurd w
types_written (NodeItem n ∷ xs) [] w = absurd w

pub ready_firsts : ReadyFirstsLaw
ready_firsts program after r full =
    subst (λ z. EachNode (NodeHasFirsts z) after) (sym (types_written (replaced program) after r.clocks ∙ types_replaced no_node program))
    (written_firsts (types_of program) (replaced program) after r.clocks (replaced_good (types_of program) program (program_first program r.named full)))

-- ---- reactions

pub ready_form : ReadyFormLaw
ready_form program after ranks ready fall full =
    let a = accepted program after ready in
    let r = all_ranks_enough after ranks fall in
    let hf = ready_firsts program after ready full in (
      a.0,
      λ f n inputs frees e v g k.
          let o = one_filled_reaction after f inputs frees r k in (
            o.past,
            (
              o.is_one,
              (
                filled_fits after a.0 f n inputs frees o.past a.1 hf r e v g o.is_one,
                λ past h. (filled_agrees after a.0 f n inputs frees past o.past a.1 hf r e v g h o.is_one, sym (same_outputs after a.0 f n inputs frees past o.past a.1 hf r e v g h o.is_one)),
              ),
            ),
          ),
    )

-- ---- whatever is given, where no node has controllable variables

abbrev Any : Instant → Instant → Instant → Type 0
Any free other now = ⊤

abbrev closed : OfParts Any
closed s free other now q = tt

any_given : (types : List TypeDecl) (items : List Item) → EachNode Uncontrolled items → SameControls types Any closed items
any_given types [] u = tt
any_given types (TypeItem t ∷ items) u = any_given types items u
any_given types (NodeItem n ∷ items) u = (
  λ free other now q there. subst (λ ds. given_to types real (nodes types real items) ds (part Controls free) ≡ given_to types real (nodes types real items) ds (part Controls other)) (sym u.0) refl,
  any_given types items u.1,
)

module _ (program : List Item) (un : EachNode Uncontrolled program) (f : List ℕ) where
  still : (vs : List Value) (past : Past) (free other now : Instant) → Fixed (meaning real program f vs (given past free)) now → (p : Place) → meaning real program f vs (given past free) now p ≡ meaning real program f vs (given past other) now p
  still vs past free other now m p = nodes_agree (types_of program) Any closed (reverse program) (any_given (types_of program) (reverse program) (each_reverse Uncontrolled program un)) f vs past free other now tt m p

  given_otherwise : (inputs : List (List Value)) (frees others : List Instant) (past : Past) → length others ≡ length inputs → Reaction program f inputs frees past → Reaction program f inputs others past
  given_otherwise [] [] [] [] e r = tt
  given_otherwise [] [] (o ∷ others) [] e r = absurd (omega arith)
  given_otherwise [] [] others (now ∷ past) e r = absurd r
  given_otherwise [] (free ∷ frees) others past e r = absurd r
  given_otherwise (vs ∷ inputs) [] others past e r = absurd r
  given_otherwise (vs ∷ inputs) (free ∷ frees) others [] e r = absurd r
  given_otherwise (vs ∷ inputs) (free ∷ frees) [] (now ∷ past) e r = absurd (omega arith)
  given_otherwise (vs ∷ inputs) (free ∷ frees) (o ∷ others) (now ∷ past) e r =
      (given_otherwise inputs frees others past (omega arith) r.0, λ p. r.1 p ∙ still vs past free o now r.1 p)

pub ready_outputs : ReadyOutputsLaw
ready_outputs program after ranks ready fall full un f n inputs frees e v k =
    let q = (ready_form program after ranks ready fall full).1 f n inputs frees e v (frees_fit (types_of after) after un f frees) k in
    (q.0, (q.1.0, λ others past h. (q.1.1.1 past (given_otherwise after un f inputs others frees past k h)).1))
