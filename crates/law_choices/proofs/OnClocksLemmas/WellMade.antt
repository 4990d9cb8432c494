-- The nodes that are made of a ready program without its automata are well made.
use Rattle.std.proofs.Common.{◌≡◌, ℕ, Bool, true, false, nat_eq, ◌||◌, List, [], ◌∷◌, ◌++◌, map, reverse, refl, sym, ap, subst, ◌∙◌, arith}
use Rattle.std.specs.List.{All, AllByRecursion, IsDistinct}
use Rattle.std.specs.Str.{bytes_eq}
use Rattle.std.proofs.lemmas.List.{append_assoc, reverse-reverse}
use Rattle.std.proofs.lemmas.List.Elements.{All-head, All-tail}
use Rattle.std.proofs.lemmas.Slice.Eq.{bytes_eq-Decides}
use Rattle.hp_base.specs.declared.value.Value.{Value}
use Rattle.hp_obc.specs.Form.{HasConstructors, TypesForm}
use Rattle.hp_obc.specs.Machines.{ObcType}
use Rattle.hp_tree.specs.declared.program.Item.{Item}
use Rattle.hp_tree.specs.declared.program.Item.TheVariants.{TypeItem, NodeItem}
use Rattle.hp_tree.specs.Blocks.{Decl}
use Rattle.hp_tree.specs.Operators.{filled}
use Rattle.hp_tree.specs.Programs.{TypeDecl, Node}
use Rattle.hp_tree.specs.Instant.{Place}
use Rattle.hp_tree.specs.Meaning.{types_of, names_of, nodes, declares}
use Rattle.law_judged.specs.Named.Scoped.{EachNode}
use Rattle.law_values.specs.Accepted.Laws.{IsReady}
use Rattle.hp_automata.specs.Lowering.{enumerations, lowered_program}
use Rattle.law_automata.specs.Lowered.Removable.{IsRemovable}
use Rattle.law_automata.proofs.LowerableLemmas.Texts.{each_reverse}
use Rattle.hp_flat.specs.declared.node.Variable.{Variable}
use Rattle.hp_flat.specs.Equations.{FlatEqn}
use Rattle.hp_flat.specs.Nodes.{FlatNode}
use Rattle.law_equations.specs.Meaning.Kinding.{HasValue, Callees, EqnKinds, IsWellMade, OneReactionLaw}
use Rattle.law_equations.specs.Meaning.Scheduling.{IsRanked, DefinesNoInput, IsWithin}
use Rattle.law_equations.specs.Meaning.Solving.{TargetsDiffer}
use Rattle.law_equations.specs.Made.Blocks.{DeclaredOnce}
use Rattle.law_equations.specs.Made.Laws.{unplaced, NodeReady}
use Rattle.law_equations.specs.Made.Making.{Known, sketch_node}
use Rattle.law_equations.specs.Made.Standing.{Knows}
use Rattle.law_equations.specs.Made.Types.{obc_type_of, obc_types, obc_types_of}
use Rattle.law_equations.proofs.MadeLemmas.MadeLaw.{stands-for}
use Rattle.law_automata.specs.Readied.Laws.{IsWhole}
use Rattle.hp_complete.specs.Declaring.{known_of}
use Rattle.hp_complete.specs.KnownLaw.{ItemsFit}
use Rattle.hp_complete.specs.Made.{IsMadeOf, AreMadeOf}
use Rattle.hp_complete.specs.Signatures.{type_names}
use Rattle.hp_complete.proofs.KnownLaws.{known}
use Rattle.law_equations.specs.Fitting.Fitting.{TargetsLaw}
use Rattle.law_wellmade.specs.Begun.Laws.{Begins}
use Rattle.law_wellmade.proofs.RegularLemmas.GoodPrograms.{NodeGood}
use Rattle.law_wellmade.proofs.RegularLemmas.RegularLaws.{lowered}
use Rattle.law_wellmade.specs.Spelled.Integers.{NodeShort}
use Rattle.law_choices.specs.Closed.Closed.{IsClosed}
use Rattle.law_choices.specs.Closed.Clocking.{HasClocks, HasOwnClocks}
use Rattle.law_choices.specs.Closed.Exclusive.{IsParted}
use Rattle.law_choices.proofs.ClosedLemmas.ClosedLaws.{each_other, each_both, NodeFilled, closed, in_range}
use Rattle.law_choices.proofs.ClosedLemmas.Clocking.{fit_law}
use Rattle.law_choices.proofs.ClosedLemmas.Exclusive.{is_exclusive, parted_law}
use Rattle.law_choices.specs.OnClocks.WellMade.{calls_of, callees_of, MadeLaw, ReactionsLaw}
use Rattle.law_choices.specs.Closed.Compilable.{HasTypesOf, IsCompilable}
use Rattle.law_wellmade.proofs.BegunLemmas.Items.{each_plain, types_low, names_of_types}
use Rattle.law_choices.proofs.OnClocksLemmas.Programs.{all_clocked, compiled_clocked, many_types, constructors_differ, compilable_law}
use Rattle.law_choices.proofs.OnClocksLemmas.Compilable.{compiled_good, compiled_filled, compiled_begun}
use Rattle.law_choices.proofs.OnClocksLemmas.CallKinds.{compiled_kinds}

-- ---- what is made of each node

module _ (k : Known) (P : FlatNode → Type 0) where
  -- so it is of what is made of a node, wherever its equations stand
  abbrev WhereMade : Node → Type 0
  WhereMade n = (f : FlatNode) → IsMadeOf k n f → P f

  all_where : (items : List Item) (fs : List FlatNode) → AreMadeOf k items fs → EachNode WhereMade items → AllByRecursion P fs
  all_where [] [] made h = tt
  all_where [] (f ∷ fs) made h = absurd made
  all_where (TypeItem t ∷ items) fs made h = all_where items fs made h
  all_where (NodeItem n ∷ items) [] made h = absurd made
  all_where (NodeItem n ∷ items) (f ∷ fs) made h = (h.0 f made.0, all_where items fs made.1 h.1)

  each_where : (items : List Item) → ((n : Node) → WhereMade n) → EachNode WhereMade items
  each_where [] h = tt
  each_where (TypeItem t ∷ items) h = each_where items h
  each_where (NodeItem n ∷ items) h = (h n, each_where items h)

abbrev Differ : FlatEqn → Type 0
Differ e = IsDistinct nat_eq e.targets

module _ (law : TargetsLaw) (k : Known) where
  placed : (es : List FlatEqn) → AllByRecursion Differ (map unplaced es) → AllByRecursion Differ es
  placed [] h = tt
  placed (e ∷ es) h = (h.0, placed es h.1)

  stripped : (es : List FlatEqn) → AllByRecursion Differ es → AllByRecursion Differ (map unplaced es)
  stripped [] h = tt
  stripped (e ∷ es) h = (h.0, stripped es h.1)

  targets_differ : (n : Node) (f : FlatNode) → IsMadeOf k n f → TargetsDiffer f
  targets_differ n f made = placed f.eqns (subst (AllByRecursion Differ) (sym made.eqns) (stripped (sketch_node k n).eqns (law k n)))

-- ---- what is known of names

once_differ : (ds : List Decl) → DeclaredOnce ds → IsDistinct bytes_eq (names_of ds)
unfolding IsDistinct
once_differ [] h = tt
once_differ (d ∷ ds) h = (others d.name ds h.0, once_differ ds h.1)
  where
    others : (x : List ℕ) (ds : List Decl) → declares ds x ≡ false → AllByRecursion (λ y. bytes_eq x y ≡ false) (names_of ds)
    others x [] e = tt
    others x (d ∷ ds) e = by (bytes_eq d.name x) refl (declares ds x) e (others x ds)
      where
        not_same : (b : Bool) → bytes_eq x d.name ≡ b → bytes_eq d.name x ≡ false → b ≡ false
        not_same true i j = absurd (let r : false ≡ true = sym j ∙ (bytes_eq-Decides d.name x).1 (sym ((bytes_eq-Decides x d.name).0 i)) in cc)
        not_same false i j = refl

        by : (b : Bool) → bytes_eq d.name x ≡ b → (c : Bool) → (b || c) ≡ false → (c ≡ false → AllByRecursion (λ y. bytes_eq x y ≡ false) (names_of ds)) → (bytes_eq x d.name ≡ false) × AllByRecursion (λ y. bytes_eq x y ≡ false) (names_of ds)
        by true i c e f = absurd cc
        by false i c e f = (not_same (bytes_eq x d.name) refl i, f e)

items_fit : (items : List Item) → All HasConstructors (obc_types_of items) → EachNode IsWhole items → ItemsFit items
items_fit [] h whole = tt
items_fit (TypeItem t ∷ items) h whole =
    let few = (All-head HasConstructors (obc_type_of t) (obc_types_of items) h).1 in
    (omega (arith, few), items_fit items (All-tail HasConstructors (obc_type_of t) (obc_types_of items) h) whole)
items_fit (NodeItem n ∷ items) h whole = (once_differ n.outputs whole.0.outputs, items_fit items h whole.1)

names_made : (types : List TypeDecl) → map (λ (t : TypeDecl). t.name) types ≡ map (λ (t : ObcType). t.name) (obc_types types)
names_made [] = refl
names_made (t ∷ types) = ap (λ xs. t.name ∷ xs) (names_made types)

-- ---- no input is defined

module _ (program : List Item) (outputs : List ℕ → List (List ℕ)) (knows : Knows (types_of program) outputs (known_of program)) where
  no_inputs_behind : (later earlier : List Item) → reverse program ≡ later ++ earlier → (b : (fills : List ℕ → Place → Value) × Begins program fills) → EachNode IsWhole earlier → EachNode (WhereMade (known_of program) DefinesNoInput) earlier
  no_inputs_behind later [] e b whole = tt
  no_inputs_behind later (TypeItem t ∷ earlier) e b whole = no_inputs_behind (later ++ TypeItem t ∷ []) earlier (e ∙ sym (append_assoc later (TypeItem t ∷ []) earlier)) b whole
  no_inputs_behind later (NodeItem n ∷ earlier) e b whole = (
    λ f made.
        let ready : NodeReady (known_of program) (b.0 n.name) n =
        record {
          inputs = whole.0.inputs;
          controls = whole.0.controls;
          outputs = whole.0.outputs;
          plain = whole.0.plain;
          defined = whole.0.defined;
          nothing_else = whole.0.nothing_else;
          first_values = b.1.ready later earlier n e;
        } in
        (stands-for (types_of program) outputs (known_of program) (b.0 n.name) n f knows ready made.inputs made.outputs made.eqns).equations.no_inputs,
    no_inputs_behind (later ++ NodeItem n ∷ []) earlier (e ∙ sym (append_assoc later (NodeItem n ∷ []) earlier)) b whole.1,
  )

-- ---- nodes that are well made

-- what is known of a node, but for its clocks
pub record IsSound (types : List ObcType) (callees : Callees) (f : FlatNode) : Type 0 where
  pub ranked : IsRanked f.eqns
  pub no_inputs : DefinesNoInput f
  pub targets_differ : TargetsDiffer f
  pub values : AllByRecursion (λ (v : Variable). HasValue types v.ty) f.variables
  pub kinds : AllByRecursion (EqnKinds types callees f.variables) f.eqns

-- and that it reads nothing undefined, and defines nothing twice
abbrev pub IsKnown : List ObcType → Callees → FlatNode → Type 0
IsKnown types callees f = IsSound types callees f × (IsClosed f × IsParted f)

well_made : (types : List ObcType) (callees : Callees) (f : FlatNode) → IsSound types callees f → (IsClosed f × IsParted f) × HasClocks types f → IsWellMade types callees f
well_made types callees f s h =
    record {
      ranked = s.ranked;
      no_inputs = s.no_inputs;
      targets_differ = s.targets_differ;
      values = s.values;
      kinds = s.kinds;
      fit = λ now p. fit_law types f s.ranked h.0.0 (λ then. is_exclusive then f.eqns h.0.1) h.1 now p;
    }

module _ (P Q : FlatNode → Type 0) where
  pair_up : (fs : List FlatNode) → AllByRecursion P fs → AllByRecursion Q fs → AllByRecursion (λ f. P f × Q f) fs
  pair_up fs a b = each_both P Q (λ f. P f × Q f) (λ f p q. (p, q)) fs a b

pub compiled_knows : (program low : List Item) → HasTypesOf program low → IsCompilable low → Knows (types_of low) (nodes (types_of low) filled (reverse low)).outputs (known_of low)
compiled_knows program low t c =
    let form = t.form in
    let names : type_names low ≡ map (λ (d : ObcType). d.name) (obc_types (types_of program)) = names_of_types low ∙ ap (λ ts. map (λ (d : TypeDecl). d.name) ts) t.same ∙ names_made (types_of program) in
    let apart_names : IsDistinct bytes_eq (type_names low) = subst (IsDistinct bytes_eq) (sym names) form.names.1 in
    let fit : ItemsFit low = items_fit low (subst (λ ts. All HasConstructors (obc_types ts)) (sym t.same) form.counts) c.whole in
    known filled low apart_names (many_types program low t) fit

pub ready_knows : (program after : List Item) → IsReady program after → IsRemovable after → TypesForm (obc_types_of program)
    → let low = lowered_program after in Knows (types_of low) (nodes (types_of low) filled (reverse low)).outputs (known_of low)
ready_knows program after r ok form = let c = compilable_law program after r ok form in compiled_knows program (lowered_program after) c.0 c.1

module _ (law : TargetsLaw) (program low : List Item) (t : HasTypesOf program low) (c : IsCompilable low) (short : EachNode NodeShort low) (fs : List FlatNode) (made : AreMadeOf (known_of low) low fs) where
  abbrev k : Known
  k = known_of low

  abbrev types : List ObcType
  types = obc_types (types_of low)

  abbrev Values : FlatNode → Type 0
  Values f = AllByRecursion (λ (v : Variable). HasValue types v.ty) f.variables

  abbrev Kinds : FlatNode → Type 0
  Kinds f = AllByRecursion (EqnKinds types (calls_of types k) f.variables) f.eqns

  compiled_inputs : AllByRecursion DefinesNoInput fs
  compiled_inputs =
      let outputs = (nodes (types_of low) filled (reverse low)).outputs in
      let behind = no_inputs_behind low outputs (compiled_knows program low t c) [] (reverse low) refl (compiled_begun program low t c) (each_reverse IsWhole low c.whole) in
      all_where k DefinesNoInput low fs made (subst (λ xs. EachNode (WhereMade k DefinesNoInput) xs) (reverse-reverse low) (each_reverse (WhereMade k DefinesNoInput) (reverse low) behind))

  compiled_sound : AllByRecursion (IsSound types (calls_of types k)) fs
  compiled_sound =
      let ranked = all_where k (λ f. IsRanked f.eqns) low fs made (each_where k (λ f. IsRanked f.eqns) low (λ n f m. m.ranked)) in
      let differ_all = all_where k TargetsDiffer low fs made (each_where k TargetsDiffer low (targets_differ law k)) in
      let values : AllByRecursion Values fs = each_other (NodeGood types k) Values (λ f g. g.values) fs (compiled_good program low t c fs made) in
      let first = pair_up (λ f. IsRanked f.eqns) DefinesNoInput fs ranked compiled_inputs in
      let second = pair_up Values Kinds fs values (compiled_kinds program low t c short fs made) in
      let third = pair_up (λ f. IsRanked f.eqns × DefinesNoInput f) TargetsDiffer fs first differ_all in
      each_both (λ f. (IsRanked f.eqns × DefinesNoInput f) × TargetsDiffer f) (λ f. Values f × Kinds f) (IsSound types (calls_of types k))
      (λ f p q. record { ranked = p.0.0; no_inputs = p.0.1; targets_differ = p.1; values = q.0; kinds = q.1 }) fs third second

  compiled_closed : AllByRecursion IsClosed fs
  compiled_closed = each_both (NodeGood types k) NodeFilled IsClosed (λ f g h. closed types k f g h) fs (compiled_good program low t c fs made) (compiled_filled program low t c fs made)

  pub compiled_within : AllByRecursion IsWithin fs
  compiled_within = each_both (NodeGood types k) NodeFilled IsWithin (λ f g h. in_range types k f g h) fs (compiled_good program low t c fs made) (compiled_filled program low t c fs made)

  pub compiled_known : AllByRecursion (IsKnown types (calls_of types k)) fs
  compiled_known =
      let outputs = (nodes (types_of low) filled (reverse low)).outputs in
      let parted = parted_law (types_of low) outputs k low fs (compiled_knows program low t c) (constructors_differ program low t) (each_plain low c.whole) c.tested made in
      pair_up (IsSound types (calls_of types k)) (λ f. IsClosed f × IsParted f) fs compiled_sound (pair_up IsClosed IsParted fs compiled_closed parted)

  -- so it is well made
  pub compiled_made : AllByRecursion (IsWellMade types (calls_of types k)) fs
  compiled_made =
      let clocks = each_other (HasOwnClocks types) (HasClocks types) (λ f h. (h.clock, h.clocks)) fs (all_clocked types k low fs made (compiled_clocked program low t c)) in
      each_both (IsKnown types (calls_of types k)) (HasClocks types) (IsWellMade types (calls_of types k)) (λ f p h. well_made types (calls_of types k) f p.0 (p.1, h)) fs compiled_known clocks

pub made_law : TargetsLaw → MadeLaw
made_law law program after r ok form short fs made =
    let low = lowered_program after in
    let c = compilable_law program after r ok form in
    subst (λ ts. AllByRecursion (IsWellMade (obc_types ts) (calls_of (obc_types ts) (known_of low))) fs) (types_low (enumerations [] after) after) (compiled_made law program low c.0 c.1 (lowered after ok short) fs made)

pub reactions_law : TargetsLaw → OneReactionLaw → ReactionsLaw
reactions_law law one program after r ok form short fs made answers typed =
    each_other (IsWellMade (obc_types (types_of after)) (callees_of after)) _ (λ f w inputs h. one (obc_types (types_of after)) (callees_of after) answers f w typed inputs h) fs (made_law law program after r ok form short fs made)
