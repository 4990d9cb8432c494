-- The registers of a ready program without its automata begin.
use Rattle.std.proofs.Common.{◌≡◌, ℕ, suc, ◌≤◌, List, [], ◌∷◌, length, map, reverse, refl, sym, ap, subst, ◌∙◌, arith}
use Rattle.hp_base.specs.declared.ty.Ty.{Ty}
use Rattle.hp_tree.specs.declared.program.Item.{Item}
use Rattle.hp_tree.specs.declared.program.Item.TheVariants.{TypeItem, NodeItem}
use Rattle.hp_tree.specs.Programs.{TypeDecl}
use Rattle.hp_tree.specs.Values.{IsOf}
use Rattle.hp_tree.specs.Meaning.{types_of}
use Rattle.hp_names.specs.Scopes.{nothing}
use Rattle.hp_print.proofs.Readable.{count_types}
use Rattle.law_judged.proofs.PlainLemmas.Spelled.{found_of}
use Rattle.law_judged.specs.Named.Scoped.{EachNode}
use Rattle.hp_expand.specs.Numbering.{no_node, replaced}
use Rattle.law_values.proofs.AcceptedLemmas.Assembled.{types_replaced, types_clocked}
use Rattle.hp_automata.specs.Lowering.{enumerations, lowered_program}
use Rattle.law_automata.proofs.LowerableLemmas.Texts.{clocked_of, each_reverse}
use Rattle.law_equations.specs.Made.Making.{flat_type, first_value}
use Rattle.law_automata.specs.Readied.Sound.{SoundBehind}
use Rattle.law_automata.proofs.ReadiedLemmas.SoundPrograms.{ready_sound_law}
use Rattle.law_values.specs.Filled.Firsts.{HasFirst, NodeHasFirsts}
use Rattle.law_values.proofs.FilledLemmas.Ready.{ready_firsts}
use Rattle.hp_complete.specs.Declaring.{known_of}
use Rattle.hp_complete.specs.Signatures.{numbered, type_names}
use Rattle.law_wellmade.specs.Begun.Firsts.{firsts_among}
use Rattle.law_wellmade.specs.Begun.Laws.{BegunLaw, FewTypesLaw}
use Rattle.law_wellmade.proofs.BegunLemmas.Numbers.{first_good}
use Rattle.law_wellmade.proofs.BegunLemmas.LoweredFirsts.{lowered_firsts}
use Rattle.law_wellmade.proofs.BegunLemmas.NamesApart.{lowered_apart}
use Rattle.law_wellmade.proofs.BegunLemmas.Beginning.{all_fit, calls_begun, bodies_ready}
use Rattle.law_wellmade.proofs.BegunLemmas.Items.{types_low, names_of_types, some_constructors}

-- ---- types

-- a type with a first value has that of its number
abbrev AreGood : List TypeDecl → List (List ℕ) → Type 0
AreGood types names = (t : Ty) → HasFirst types t → IsOf types t (first_value (flat_type (numbered 0 names) t))

-- ---- ready programs

pub begun : BegunLaw
begun program after r ok full few =
    let enums = enumerations [] after in
    let low = lowered_program after in
    let k = known_of low in
    let types = types_of low in
    let clocked = clocked_of (replaced program) after r.clocks in
    let same : types_of low ≡ types_of after = types_low enums after in
    let same_all : types_of low ≡ types_of program = same ∙ types_clocked (replaced program) after clocked ∙ types_replaced no_node program in
    let names : type_names low ≡ type_names program = names_of_types low ∙ ap (λ ts. map (λ (t : TypeDecl). t.name) ts) same_all ∙ sym (names_of_types program) in
    let good : AreGood types (type_names low) =
    subst (λ ns. AreGood types ns) (sym names) (subst (λ ts. AreGood ts (type_names program)) (sym same_all) (first_good program nothing r.named few)) in
    let sound : SoundBehind types (reverse low) = subst (λ ts. SoundBehind ts (reverse low)) (sym same) (ready_sound_law program after r ok (some_constructors program full)) in
    let firsts : EachNode (NodeHasFirsts types) (reverse low) =
    each_reverse (NodeHasFirsts types) low (subst (λ ts. EachNode (NodeHasFirsts ts) low) (sym same) (lowered_firsts (types_of after) enums after (ready_firsts program after r full))) in
    let apart = lowered_apart program after r.named clocked in (
      firsts_among k (reverse low),
      record {
        fit = all_fit k types good (reverse low) sound firsts;
        ready = λ later earlier n e. bodies_ready types low later earlier n e apart sound;
        called = λ later earlier n e h. calls_begun k (reverse low) later earlier n e apart h;
      },
    )

-- ---- texts

counted : (items : List Item) → length (types_of items) ≡ count_types items
counted [] = refl
counted (TypeItem t ∷ items) = ap suc (counted items)
counted (NodeItem n ∷ items) = counted items

pub few_types : FewTypesLaw
few_types text tokens program a p =
    let few : count_types program ≤ 1000 = (found_of text tokens program a.read p).0.1 in
    let same : length (types_of program) ≡ count_types program = counted program in
    let less : length (types_of program) ≤ 65535 = omega (arith, few, same) in
    less
