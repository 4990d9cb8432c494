-- The variables of the equations that are made of a ready program without its automata have clocks.
use Rattle.std.proofs.Common.{◌≡◌, ℕ, ◌≤◌, List, [], ◌∷◌, ◌++◌, length, map, reverse, refl, sym, ap, subst, ◌∙◌, arith}
use Rattle.std.specs.List.{All, AllByRecursion}
use Rattle.std.proofs.lemmas.List.{append_assoc, length-map, reverse-reverse}
use Rattle.std.proofs.lemmas.List.Elements.{All-head, All-tail}
use Rattle.hp_base.specs.declared.ty.Ty.{Ty}
use Rattle.hp_obc.specs.Form.{HasConstructors, TypesForm}
use Rattle.hp_obc.specs.Machines.{ObcType}
use Rattle.hp_tree.specs.declared.program.Item.{Item}
use Rattle.hp_tree.specs.declared.program.Item.TheVariants.{TypeItem, NodeItem}
use Rattle.hp_tree.specs.Programs.{TypeDecl, Node}
use Rattle.hp_tree.specs.Values.{IsOf}
use Rattle.hp_tree.specs.Meaning.{types_of, node_among}
use Rattle.hp_meaning.specs.Causal.Clocked.{ClocksRight}
use Rattle.hp_names.specs.Scopes.{nothing}
use Rattle.law_judged.specs.Named.Scoped.{EachNode}
use Rattle.hp_expand.specs.Numbering.{no_node, replaced}
use Rattle.law_values.specs.Valued.Values.{Classing, class_behind, AreAccepted, scope_behind}
use Rattle.law_values.specs.Accepted.Laws.{IsReady}
use Rattle.law_values.proofs.AcceptedLemmas.Assembled.{types_replaced, types_clocked}
use Rattle.law_values.proofs.AcceptedLemmas.Laws.{accepted}
use Rattle.hp_automata.specs.Lowering.{enumerations, lowered_program}
use Rattle.law_automata.specs.Lowered.Laws.{AllClocksRight}
use Rattle.law_automata.specs.Lowered.Removable.{IsRemovable}
use Rattle.law_automata.proofs.LoweredLemmas.RightSteps.{all_right_law}
use Rattle.law_automata.proofs.LowerableLemmas.Texts.{clocked_of, each_reverse}
use Rattle.hp_flat.specs.Nodes.{FlatNode}
use Rattle.law_equations.specs.Made.Blocks.{IsPlain}
use Rattle.law_equations.specs.Made.Making.{Known, flat_type, first_value}
use Rattle.law_equations.specs.Made.Types.{obc_type_of, obc_types, obc_types_of}
use Rattle.law_automata.specs.Readied.Sound.{SoundBehind}
use Rattle.law_automata.proofs.ReadiedLemmas.SoundPrograms.{ready_sound_law}
use Rattle.law_automata.proofs.ReadiedLemmas.Whole.{whole_law}
use Rattle.law_values.specs.Filled.Firsts.{HasFirst, TypesHaveConstructors, NodeHasFirsts}
use Rattle.law_values.proofs.FilledLemmas.Ready.{ready_firsts}
use Rattle.hp_complete.specs.Declaring.{known_of}
use Rattle.hp_complete.specs.Made.{IsMadeOf, AreMadeOf}
use Rattle.hp_complete.specs.Signatures.{numbered, type_names, places_of}
use Rattle.law_equations.specs.Answered.Answering.{AreApart}
use Rattle.law_wellmade.specs.Timely.Tested.{ConstructorsDiffer, AreTested}
use Rattle.law_wellmade.proofs.TimelyLemmas.DifferLaws.{differ}
use Rattle.law_wellmade.proofs.TestedLemmas.TestedPrograms.{tested_law}
use Rattle.law_wellmade.specs.Begun.Laws.{HasFewTypes}
use Rattle.law_wellmade.proofs.BegunLemmas.Numbers.{first_good}
use Rattle.law_wellmade.proofs.BegunLemmas.LoweredFirsts.{lowered_firsts}
use Rattle.law_wellmade.proofs.BegunLemmas.NamesApart.{lowered_apart}
use Rattle.law_wellmade.proofs.BegunLemmas.Grounds.{grounded}
use Rattle.law_wellmade.proofs.RegularLemmas.Expressions.{TypeFacts}
use Rattle.law_wellmade.proofs.RegularLemmas.TypeLaws.{AreNumbered, OwnNumbers, own_numbers, are_numbered, type_facts}
use Rattle.law_wellmade.proofs.BegunLemmas.Items.{no_variables, outputs_first, each_plain, types_low, names_of_types, some_constructors}
use Rattle.law_choices.specs.Closed.Clocking.{HasClocks, HasOwnClocks}
use Rattle.law_choices.specs.Closed.Compilable.{HasTypesOf, IsCompilable, CompilableLaw}
use Rattle.law_choices.proofs.ClosedLemmas.ClosedLaws.{each_other}
use Rattle.law_choices.specs.OnClocks.Clocks.{ClocksLaw, OwnClocksLaw}
use Rattle.law_choices.proofs.OnClocksLemmas.Arms.{ArmFacts}
use Rattle.law_choices.proofs.OnClocksLemmas.Nodes.{node_step}
use Rattle.law_choices.proofs.OnClocksLemmas.MadeClocks.{made_clocks}
use Rattle.law_choices.proofs.OnClocksLemmas.Headed.{KindsSigned, kinds_signed}
use Rattle.law_choices.proofs.OnClocksLemmas.ArmNumbers.{AreFew, arm_facts}

-- ---- programs

-- what is made of a node has clocks, and the kinds of the node
abbrev pub Clocked : List ObcType → Known → Node → Type 0
Clocked obc k n = (f : FlatNode) → IsMadeOf k n f → HasOwnClocks obc f × KindsSigned obc k n f

pub all_clocked : (obc : List ObcType) (k : Known) (items : List Item) (fs : List FlatNode) → AreMadeOf k items fs → EachNode (Clocked obc k) items → AllByRecursion (HasOwnClocks obc) fs
all_clocked obc k [] [] made h = tt
all_clocked obc k [] (f ∷ fs) made h = absurd made
all_clocked obc k (TypeItem t ∷ items) fs made h = all_clocked obc k items fs made h
all_clocked obc k (NodeItem n ∷ items) [] made h = absurd made
all_clocked obc k (NodeItem n ∷ items) (f ∷ fs) made h = ((h.0 f made.0).0, all_clocked obc k items fs made.1 h.1)

module _ (obc : List ObcType) (program : List Item) (types : List TypeDecl) (arms : ArmFacts obc (known_of program) types) (facts : TypeFacts obc (known_of program) types) (apart : AreApart (reverse program)) where
  clocked_behind : (later earlier : List Item) → reverse program ≡ later ++ earlier → SoundBehind types earlier → EachNode (NodeHasFirsts types) earlier → EachNode (λ n. IsPlain n.body) earlier → AreTested types earlier → EachNode ClocksRight earlier
      → EachNode (Clocked obc (known_of program)) earlier
  clocked_behind later [] e sound firsts plain tested right = tt
  clocked_behind later (TypeItem t ∷ earlier) e sound firsts plain tested right = clocked_behind (later ++ TypeItem t ∷ []) earlier (e ∙ sym (append_assoc later (TypeItem t ∷ []) earlier)) sound firsts plain tested right
  clocked_behind later (NodeItem n ∷ earlier) e sound firsts plain tested right = (
    λ f made.
        let s =
        node_step obc f (known_of program) types arms facts (node_among earlier) (outputs_first types earlier firsts.1) (scope_behind earlier) n (no_variables earlier) sound.0 (grounded program later earlier n e apart) firsts.0 plain.0 tested.0 right.0 in
        (made_clocks obc (known_of program) n f made s.0, kinds_signed obc (known_of program) n f made s.1),
    clocked_behind (later ++ NodeItem n ∷ []) earlier (e ∙ sym (append_assoc later (NodeItem n ∷ []) earlier)) sound.1 firsts.1 plain.1 tested.1 right.1,
  )

  nodes_clocked : SoundBehind types (reverse program) → EachNode (NodeHasFirsts types) (reverse program) → EachNode (λ n. IsPlain n.body) (reverse program) → AreTested types (reverse program) → EachNode ClocksRight (reverse program)
      → EachNode (Clocked obc (known_of program)) program
  nodes_clocked sound firsts plain tested right =
      subst (λ xs. EachNode (Clocked obc (known_of program)) xs) (reverse-reverse program) (each_reverse (Clocked obc (known_of program)) (reverse program) (clocked_behind [] (reverse program) refl sound firsts plain tested right))

-- ---- the clocks of the program

accepted_right : (types : List TypeDecl) (class : Classing) (items : List Item) → AreAccepted types class items → EachNode ClocksRight items
accepted_right types class [] a = tt
accepted_right types class (TypeItem t ∷ items) a = accepted_right types class items a
accepted_right types class (NodeItem n ∷ items) a = (a.0.clocks, accepted_right types (class_behind class) items a.1)

pub to_all : (items : List Item) → EachNode ClocksRight items → AllClocksRight items
to_all [] h = tt
to_all (TypeItem t ∷ items) h = to_all items h
to_all (NodeItem n ∷ items) h = (h.0, to_all items h.1)

pub from_all : (items : List Item) → AllClocksRight items → EachNode ClocksRight items
from_all [] h = tt
from_all (TypeItem t ∷ items) h = from_all items h
from_all (NodeItem n ∷ items) h = (h.0, from_all items h.1)

-- a ready program has right clocks, and so has what it is without its automata
pub ready_clocks : (program after : List Item) → IsReady program after → EachNode ClocksRight after
ready_clocks program after r =
    let a = accepted program after r in
    subst (EachNode ClocksRight) (reverse-reverse after) (each_reverse ClocksRight (reverse after) (accepted_right (types_of after) a.0 (reverse after) a.1))

ready_right : (program after : List Item) → IsReady program after → IsRemovable after → EachNode ClocksRight (lowered_program after)
ready_right program after r ok = from_all (lowered_program after) (all_right_law after ok (to_all after (ready_clocks program after r)))

-- ---- what types that have form give

pub few_of : (types : List TypeDecl) → All HasConstructors (obc_types types) → AreFew types
few_of [] h = tt
few_of (t ∷ types) h = let few = (All-head HasConstructors (obc_type_of t) (obc_types types) h).1 in (omega (arith, few), few_of types (All-tail HasConstructors (obc_type_of t) (obc_types types) h))

pub some_of : (types : List TypeDecl) → All HasConstructors (obc_types types) → TypesHaveConstructors types
some_of [] h = tt
some_of (t ∷ types) h =
    let some = (All-head HasConstructors (obc_type_of t) (obc_types types) h).0 in
    ((λ e. let none : length t.cons ≡ 0 = ap length e in absurd (omega (arith, some, none))), some_of types (All-tail HasConstructors (obc_type_of t) (obc_types types) h))

pub number_of : (types : List TypeDecl) → length (obc_types types) ≤ 1000 → length types ≤ 65535
number_of types l = let same = length-map types obc_type_of in omega (arith, l, same)

-- ---- ready programs

abbrev AreGood : List TypeDecl → List (List ℕ) → Type 0
AreGood types names = (t : Ty) → HasFirst types t → IsOf types t (first_value (flat_type (numbered 0 names) t))

-- ---- what the types of a program give

module _ (program low : List Item) (t : HasTypesOf program low) where
  few_types : HasFewTypes program
  few_types = let form = t.form in number_of (types_of program) form.number

  pub full_types : TypesHaveConstructors (types_of program)
  full_types = let form = t.form in some_of (types_of program) form.counts

  names_same : type_names low ≡ type_names program
  names_same = names_of_types low ∙ ap (λ ts. map (λ (d : TypeDecl). d.name) ts) t.same ∙ sym (names_of_types program)

  pub many_types : length (types_of low) ≤ 65535
  many_types = subst (λ ts. length ts ≤ 65535) (sym t.same) few_types

  pub first_values : AreGood (types_of low) (type_names low)
  first_values = subst (λ ns. AreGood (types_of low) ns) (sym names_same) (subst (λ ts. AreGood ts (type_names program)) (sym t.same) (first_good program nothing t.named few_types))

  own_types : OwnNumbers (types_of low) (type_names low)
  own_types = subst (λ ns. OwnNumbers (types_of low) ns) (sym names_same) (subst (λ ts. OwnNumbers ts (type_names program)) (sym t.same) (own_numbers program nothing t.named few_types))

  pub numbered_types : AreNumbered (places_of low) 0 (type_names low)
  numbered_types = subst (λ ns. AreNumbered (numbered 0 ns) 0 ns) (sym names_same) (are_numbered program nothing 0 t.named)

  pub facts_of_types : TypeFacts (obc_types (types_of low)) (known_of low) (types_of low)
  facts_of_types = type_facts low numbered_types many_types own_types first_values

  pub constructors_differ : ConstructorsDiffer (types_of low)
  constructors_differ = subst ConstructorsDiffer (sym t.same) (differ program t.named)

  pub compiled_clocked : IsCompilable low → EachNode (Clocked (obc_types (types_of low)) (known_of low)) low
  compiled_clocked c =
      let form = t.form in
      let small : AreFew (types_of low) = subst AreFew (sym t.same) (few_of (types_of program) form.counts) in
      let arms = arm_facts low numbered_types many_types small constructors_differ facts_of_types in
      nodes_clocked (obc_types (types_of low)) low (types_of low) arms facts_of_types c.apart c.sound (each_reverse (NodeHasFirsts (types_of low)) low c.firsts)
      (each_reverse (λ n. IsPlain n.body) low (each_plain low c.whole)) c.tested (each_reverse ClocksRight low c.clocks)

-- ---- a ready program without its automata is one of these

pub compilable_law : CompilableLaw
compilable_law program after r ok form =
    let full : TypesHaveConstructors (types_of program) = some_of (types_of program) form.counts in
    let enums = enumerations [] after in
    let low = lowered_program after in
    let clocked = clocked_of (replaced program) after r.clocks in
    let same : types_of low ≡ types_of after = types_low enums after in
    let some = some_constructors program full in (
      record { same = same ∙ types_clocked (replaced program) after clocked ∙ types_replaced no_node program; named = r.named; form = form },
      record {
        sound = subst (λ ts. SoundBehind ts (reverse low)) (sym same) (ready_sound_law program after r ok some);
        whole = whole_law program after r ok;
        tested = subst (λ ts. AreTested ts (reverse low)) (sym same) (tested_law program after r ok some);
        firsts = subst (λ ts. EachNode (NodeHasFirsts ts) low) (sym same) (lowered_firsts (types_of after) enums after (ready_firsts program after r full));
        clocks = ready_right program after r ok;
        apart = lowered_apart program after r.named clocked;
      },
    )

pub ready_clocked : (program after : List Item) → IsReady program after → IsRemovable after → TypesForm (obc_types_of program) → EachNode (Clocked (obc_types (types_of after)) (known_of (lowered_program after))) (lowered_program after)
ready_clocked program after r ok form =
    let low = lowered_program after in
    let c = compilable_law program after r ok form in
    subst (λ ts. EachNode (Clocked (obc_types ts) (known_of low)) low) (types_low (enumerations [] after) after) (compiled_clocked program low c.0 c.1)

pub own_clocks_law : OwnClocksLaw
own_clocks_law program after r ok form fs made =
    all_clocked (obc_types (types_of after)) (known_of (lowered_program after)) (lowered_program after) fs made (ready_clocked program after r ok form)

pub clocks_law : ClocksLaw
clocks_law program after r ok form fs made =
    let types = obc_types (types_of after) in
    each_other (HasOwnClocks types) (HasClocks types) (λ f h. (h.clock, h.clocks)) fs (own_clocks_law program after r ok form fs made)
