-- The equations that are made of a ready program without its automata are good.
use Rattle.std.proofs.Common.{◌≡◌, ℕ, ◌≤◌, List, [], ◌∷◌, ◌++◌, length, map, reverse, refl, sym, ap, subst, ◌∙◌}
use Rattle.std.specs.List.{AllByRecursion}
use Rattle.std.proofs.lemmas.List.{append_assoc, reverse-reverse}
use Rattle.hp_base.specs.declared.ty.Ty.{Ty}
use Rattle.hp_obc.specs.Machines.{ObcType}
use Rattle.hp_tree.specs.declared.program.Item.{Item}
use Rattle.hp_tree.specs.declared.program.Item.TheVariants.{TypeItem, NodeItem}
use Rattle.hp_tree.specs.Programs.{TypeDecl, Node}
use Rattle.hp_tree.specs.Values.{IsOf}
use Rattle.hp_tree.specs.Meaning.{types_of, node_among}
use Rattle.hp_names.specs.Scopes.{nothing}
use Rattle.law_judged.specs.Named.Scoped.{EachNode}
use Rattle.hp_expand.specs.Numbering.{no_node, replaced}
use Rattle.law_values.specs.Valued.Values.{scope_behind}
use Rattle.law_values.specs.Accepted.Laws.{IsReady}
use Rattle.law_values.proofs.AcceptedLemmas.Assembled.{types_replaced, types_clocked}
use Rattle.hp_automata.specs.Lowering.{enumerations, lowered_program}
use Rattle.law_automata.specs.Lowered.Removable.{IsRemovable}
use Rattle.law_automata.proofs.LowerableLemmas.Texts.{clocked_of, each_reverse}
use Rattle.hp_flat.specs.declared.node.Variable.{Variable}
use Rattle.hp_flat.specs.Equations.{FlatEqn}
use Rattle.hp_flat.specs.Nodes.{FlatNode}
use Rattle.law_equations.specs.Meaning.Kinding.{HasValue}
use Rattle.law_equations.specs.Made.Blocks.{IsPlain}
use Rattle.law_equations.specs.Made.Laws.{unplaced}
use Rattle.law_equations.specs.Made.Making.{Known, Sketch, flat_type, first_value, sketch_node}
use Rattle.law_equations.specs.Made.Types.{obc_types}
use Rattle.law_automata.specs.Readied.Sound.{SoundBehind}
use Rattle.law_automata.proofs.ReadiedLemmas.SoundPrograms.{ready_sound_law}
use Rattle.law_automata.proofs.ReadiedLemmas.Whole.{whole_law}
use Rattle.law_values.specs.Filled.Firsts.{HasFirst, TypesHaveConstructors, NodeHasFirsts}
use Rattle.law_values.proofs.FilledLemmas.Ready.{ready_firsts}
use Rattle.hp_complete.specs.Declaring.{known_of}
use Rattle.hp_complete.specs.Made.{IsMadeOf, AreMadeOf}
use Rattle.hp_complete.specs.Signatures.{numbered, type_names, places_of}
use Rattle.law_equations.specs.Answered.Answering.{AreApart}
use Rattle.law_wellmade.specs.Timely.Tested.{AreTested}
use Rattle.law_wellmade.specs.Begun.Laws.{HasFewTypes}
use Rattle.law_wellmade.proofs.BegunLemmas.Numbers.{first_good}
use Rattle.law_wellmade.proofs.BegunLemmas.LoweredFirsts.{lowered_firsts}
use Rattle.law_wellmade.proofs.BegunLemmas.NamesApart.{lowered_apart}
use Rattle.law_wellmade.proofs.BegunLemmas.Grounds.{grounded}
use Rattle.law_wellmade.proofs.RegularLemmas.Good.{EqnGood, Good}
use Rattle.law_wellmade.proofs.RegularLemmas.Expressions.{TypeFacts}
use Rattle.law_wellmade.proofs.RegularLemmas.TypeLaws.{AreNumbered, OwnNumbers, own_numbers, are_numbered, type_facts}
use Rattle.law_wellmade.proofs.RegularLemmas.Nodes.{node_good}
use Rattle.law_wellmade.proofs.BegunLemmas.Items.{no_variables, outputs_first, each_plain, types_low, names_of_types, some_constructors}

-- ---- nodes that are made

-- The variables and equations of a node are those of a good sketch, whatever the places of the equations are.
pub record NodeGood (types : List ObcType) (k : Known) (f : FlatNode) : Type 0 where
  pub sketch : Sketch
  pub variables : f.variables ≡ sketch.variables
  pub eqns : AllByRecursion (EqnGood types k sketch) f.eqns
  pub values : AllByRecursion (λ (v : Variable). HasValue types v.ty) f.variables

module _ (obc : List ObcType) (k : Known) where
  -- where an equation stands does not matter
  to_unplaced : (d : Sketch) (es : List FlatEqn) → AllByRecursion (EqnGood obc k d) es → AllByRecursion (EqnGood obc k d) (map unplaced es)
  to_unplaced d [] h = tt
  to_unplaced d (e ∷ es) h = (record { clock = h.0.clock; restart = h.0.restart; given = h.0.given; targets = h.0.targets; right = h.0.right }, to_unplaced d es h.1)

  from_unplaced : (d : Sketch) (es : List FlatEqn) → AllByRecursion (EqnGood obc k d) (map unplaced es) → AllByRecursion (EqnGood obc k d) es
  from_unplaced d [] h = tt
  from_unplaced d (e ∷ es) h = (record { clock = h.0.clock; restart = h.0.restart; given = h.0.given; targets = h.0.targets; right = h.0.right }, from_unplaced d es h.1)

  made_good : (n : Node) (f : FlatNode) → IsMadeOf k n f → Good obc k (sketch_node k n) → NodeGood obc k f
  made_good n f made good =
      let d = sketch_node k n in
      record {
        sketch = d;
        variables = made.variables;
        eqns = from_unplaced d f.eqns (subst (λ es. AllByRecursion (EqnGood obc k d) es) (sym made.eqns) (to_unplaced d d.eqns good.eqns));
        values = subst (λ vs. AllByRecursion (λ (v : Variable). HasValue obc v.ty) vs) (sym made.variables) good.values;
      }

  pub all_made_good : (items : List Item) (fs : List FlatNode) → AreMadeOf k items fs → EachNode (λ n. Good obc k (sketch_node k n)) items → AllByRecursion (NodeGood obc k) fs
  all_made_good [] [] made good = tt
  all_made_good [] (f ∷ fs) made good = absurd made
  all_made_good (TypeItem t ∷ items) fs made good = all_made_good items fs made good
  all_made_good (NodeItem n ∷ items) [] made good = absurd made
  all_made_good (NodeItem n ∷ items) (f ∷ fs) made good = (made_good n f made.0 good.0, all_made_good items fs made.1 good.1)

-- ---- programs

module _ (obc : List ObcType) (program : List Item) (types : List TypeDecl) (facts : TypeFacts obc (known_of program) types) (apart : AreApart (reverse program)) where
  good_behind : (later earlier : List Item) → reverse program ≡ later ++ earlier → SoundBehind types earlier → EachNode (NodeHasFirsts types) earlier → EachNode (λ n. IsPlain n.body) earlier → AreTested types earlier
      → EachNode (λ n. Good obc (known_of program) (sketch_node (known_of program) n)) earlier
  good_behind later [] e sound firsts plain tested = tt
  good_behind later (TypeItem t ∷ earlier) e sound firsts plain tested = good_behind (later ++ TypeItem t ∷ []) earlier (e ∙ sym (append_assoc later (TypeItem t ∷ []) earlier)) sound firsts plain tested
  good_behind later (NodeItem n ∷ earlier) e sound firsts plain tested = (
    node_good obc (known_of program) types facts (node_among earlier) (outputs_first types earlier firsts.1) (scope_behind earlier) n (no_variables earlier) sound.0 (grounded program later earlier n e apart) firsts.0 plain.0 tested.0,
    good_behind (later ++ NodeItem n ∷ []) earlier (e ∙ sym (append_assoc later (NodeItem n ∷ []) earlier)) sound.1 firsts.1 plain.1 tested.1,
  )

  pub nodes_good : SoundBehind types (reverse program) → EachNode (NodeHasFirsts types) (reverse program) → EachNode (λ n. IsPlain n.body) (reverse program) → AreTested types (reverse program)
      → EachNode (λ n. Good obc (known_of program) (sketch_node (known_of program) n)) program
  nodes_good sound firsts plain tested =
      subst (λ xs. EachNode (λ n. Good obc (known_of program) (sketch_node (known_of program) n)) xs) (reverse-reverse program)
      (each_reverse (λ n. Good obc (known_of program) (sketch_node (known_of program) n)) (reverse program) (good_behind [] (reverse program) refl sound firsts plain tested))

-- ---- ready programs

abbrev AreGood : List TypeDecl → List (List ℕ) → Type 0
AreGood types names = (t : Ty) → HasFirst types t → IsOf types t (first_value (flat_type (numbered 0 names) t))

-- Each node that is made is good.
pub ready_good : (program after : List Item) → IsReady program after → IsRemovable after → TypesHaveConstructors (types_of program) → HasFewTypes program → AreTested (types_of after) (reverse (lowered_program after)) → (fs : List FlatNode)
    → AreMadeOf (known_of (lowered_program after)) (lowered_program after) fs → AllByRecursion (NodeGood (obc_types (types_of after)) (known_of (lowered_program after))) fs
ready_good program after r ok full few tested fs made =
    let enums = enumerations [] after in
    let low = lowered_program after in
    let clocked = clocked_of (replaced program) after r.clocks in
    let same : types_of low ≡ types_of after = types_low enums after in
    let same_all : types_of low ≡ types_of program = same ∙ types_clocked (replaced program) after clocked ∙ types_replaced no_node program in
    let names : type_names low ≡ type_names program = names_of_types low ∙ ap (λ ts. map (λ (t : TypeDecl). t.name) ts) same_all ∙ sym (names_of_types program) in
    let firsts : AreGood (types_of low) (type_names low) =
    subst (λ ns. AreGood (types_of low) ns) (sym names) (subst (λ ts. AreGood ts (type_names program)) (sym same_all) (first_good program nothing r.named few)) in
    let own : OwnNumbers (types_of low) (type_names low) =
    subst (λ ns. OwnNumbers (types_of low) ns) (sym names) (subst (λ ts. OwnNumbers ts (type_names program)) (sym same_all) (own_numbers program nothing r.named few)) in
    let numbers : AreNumbered (places_of low) 0 (type_names low) = subst (λ ns. AreNumbered (numbered 0 ns) 0 ns) (sym names) (are_numbered program nothing 0 r.named) in
    let many : length (types_of low) ≤ 65535 = subst (λ ts. length ts ≤ 65535) (sym same_all) few in
    let facts = type_facts low numbers many own firsts in
    let sound : SoundBehind (types_of low) (reverse low) = subst (λ ts. SoundBehind ts (reverse low)) (sym same) (ready_sound_law program after r ok (some_constructors program full)) in
    let have : EachNode (NodeHasFirsts (types_of low)) (reverse low) =
    each_reverse (NodeHasFirsts (types_of low)) low (subst (λ ts. EachNode (NodeHasFirsts ts) low) (sym same) (lowered_firsts (types_of after) enums after (ready_firsts program after r full))) in
    let plain : EachNode (λ n. IsPlain n.body) (reverse low) = each_reverse (λ n. IsPlain n.body) low (each_plain low (whole_law program after r ok)) in
    let apart = lowered_apart program after r.named clocked in
    let good = nodes_good (obc_types (types_of low)) low (types_of low) facts apart sound have plain (subst (λ ts. AreTested ts (reverse low)) (sym same) tested) in
    subst (λ ts. AllByRecursion (NodeGood (obc_types ts) (known_of low)) fs) same (all_made_good (obc_types (types_of low)) (known_of low) low fs made good)
