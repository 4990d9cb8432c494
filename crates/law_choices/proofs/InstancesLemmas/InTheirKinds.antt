-- In a reaction over inputs of their kinds the instances of calls are given inputs of their kinds.
use Rattle.std.proofs.Common.{◌≡◌, ℕ, List, [], ◌∷◌, ◌++◌, map, reverse, Some, subst, ◌∙◌}
use Rattle.std.specs.Prelude.{slice_index_or}
use Rattle.std.specs.List.{AllByRecursion}
use Rattle.hp_base.specs.Kinds.{AreOfKinds, Bools, Constructors, Ints, IsOfKind, KindData}
use Rattle.hp_base.specs.declared.value.Value.{Value}
use Rattle.hp_base.specs.declared.value.Value.TheVariants.{Absent, Nil, B, E, I, Star}
use Rattle.hp_automata.specs.Lowering.{enumerations}
use Rattle.hp_tree.specs.declared.program.Item.{Item}
use Rattle.hp_tree.specs.Blocks.{Decl}
use Rattle.hp_tree.specs.Instant.{Head, Inputs, Instance, Instant, Past, Place, Tail, alone, in_row, nothing, part}
use Rattle.hp_tree.specs.Meaning.{node_among, types_of}
use Rattle.hp_tree.specs.Operators.{real}
use Rattle.hp_tree.specs.Programs.{Node, TypeDecl}
use Rattle.hp_tree.specs.Values.{AreOf}
use Rattle.hp_meaning.specs.Causal.OneReaction.{ReactionOf}
use Rattle.hp_meaning.specs.Causal.RanksOfPoints.{AllRanksLaw}
use Rattle.hp_meaning.specs.Contract.ChosenRuns.{own_past}
use Rattle.hp_meaning.specs.Contract.FreePlaces.{calls_of, instance_at}
use Rattle.law_drawing.specs.Drawable.Fitting.{FitsLaw, ToldLaw}
use Rattle.law_equations.specs.Answered.Short.{AreShort, IsShort}
use Rattle.law_wellmade.specs.Timely.Kinds.{kinds_of_decls}
use Rattle.law_wellmade.specs.Timely.Tested.{ConstructorsDiffer}
use Rattle.law_wellmade.proofs.BegunLemmas.Items.{types_low}
use Rattle.law_wellmade.proofs.TestedLemmas.FittedLaws.{differ_law}
use Rattle.law_wellmade.proofs.TimelyLemmas.KindLaws.{are_of, kind_is}
use Rattle.law_choices.specs.Choosing.Choices.{Choices}
use Rattle.law_choices.specs.Choosing.Programs.{controls_in}
use Rattle.law_choices.specs.Instances.InKind.{InKindLaw}
use Rattle.law_choices.specs.Instances.Integers.{HoldsShort}
use Rattle.law_choices.specs.Runs.Chosen.{chosen_meaning}
use Rattle.law_choices.proofs.InstancesLemmas.Joined.{instances_law}
use Rattle.law_choices.proofs.InstancesLemmas.Reacting.{inputs-met}
use Rattle.law_choices.proofs.InstancesLemmas.ShortRuns.{short_law}
use Rattle.law_choices.proofs.InstancesLemmas.ShortValues.{AllHold, own_past_holds}

-- ---- values of kinds

kind_short : (k : KindData) (v : Value) → IsOfKind k v → IsShort v
kind_short k Absent h = tt
kind_short k Nil h = tt
kind_short k (B b) h = tt
kind_short k (E t c) h = tt
kind_short k Star h = tt
kind_short Bools (I n) h = absurd h
kind_short Ints (I n) h = h
kind_short (Constructors number cons) (I n) h = absurd h

kinds_short : (ks : List KindData) (vs : List Value) → AreOfKinds ks vs → AreShort vs
kinds_short ks [] h = tt
kinds_short [] (v ∷ vs) h = absurd h
kinds_short (k ∷ ks) (v ∷ vs) h = (kind_short k v h.0, kinds_short ks vs h.1)

rows_short : (ks : List KindData) (rows : List (List Value)) → AllByRecursion (AreOfKinds ks) rows → AllByRecursion AreShort rows
rows_short ks [] h = tt
rows_short ks (row ∷ rows) h = (kinds_short ks row h.0, rows_short ks rows h.1)

module _ (types : List TypeDecl) (differ : ConstructorsDiffer types) where
  rows_of : (ds : List Decl) (rows : List (List Value)) → AllByRecursion (AreOfKinds (kinds_of_decls types ds)) rows → AllByRecursion (AreOf types ds) rows
  rows_of ds [] h = tt
  rows_of ds (row ∷ rows) h = (are_of types ds row differ h.0, rows_of ds rows h.1)

  row_kinds : (ds : List Decl) (vs : List Value) → AreShort vs → AreOf types ds vs → AreOfKinds (kinds_of_decls types ds) vs
  row_kinds [] [] s h = tt
  row_kinds [] (v ∷ vs) s h = absurd h
  row_kinds (d ∷ ds) [] s h = absurd h
  row_kinds (d ∷ ds) (v ∷ vs) s h = (kind_is types d.ty v differ s.0 h.0, row_kinds ds vs s.1 h.1)

  all_kinds : (ds : List Decl) (rows : List (List Value)) → AllByRecursion AreShort rows → AllByRecursion (AreOf types ds) rows → AllByRecursion (AreOfKinds (kinds_of_decls types ds)) rows
  all_kinds ds [] s h = tt
  all_kinds ds (row ∷ rows) s h = (row_kinds ds row s.0 h.0, all_kinds ds rows s.1 h.1)

-- ---- the inputs that instants hold

row_held : (row : List Value) (i : Instant) → HoldsShort i → ((p : Place) → i p ≡ in_row (map alone row) p) → AreShort row
row_held [] i a e = tt
row_held (v ∷ vs) i a e = (subst IsShort (e (Head ∷ [])) (a (Head ∷ [])), row_held vs (part Tail i) (λ p. a (Tail ∷ p)) (λ p. e (Tail ∷ p)))

rows_held : (choices : Choices) (after : List Item) (f : List ℕ) (m : Node) → node_among (reverse after) f ≡ Some m → (rows : List (List Value)) (past : Past) → AllHold past
    → ReactionOf (chosen_meaning choices real after f) rows (map (λ (vs : List Value). nothing) rows) past → AllByRecursion AreShort rows
rows_held choices after f m e [] past a r = tt
rows_held choices after f m e (row ∷ rows) [] a r = absurd r
rows_held choices after f m e (row ∷ rows) (now ∷ past) a r = (
  row_held row (part Inputs now) (λ p. a.0 (Inputs ∷ p)) (λ p. r.1 (Inputs ∷ p) ∙ inputs-met choices (types_of after) (reverse after) f m e row (record { past = past; free = nothing }) now p),
  rows_held choices after f m e rows past a.1 r.0,
)

-- ---- the law

pub in_kind_law : ToldLaw → FitsLaw → AllRanksLaw → InKindLaw
in_kind_law told fits all_ranks program after ranks order writes choices values always f n rows past now e kinds chosen j d b t =
    let types = types_of after in
    let differ = subst ConstructorsDiffer (types_low (enumerations [] after) after) (differ_law program after order.ready) in
    let c = slice_index_or (calls_of n) j d in
    let x = instances_law told fits program after ranks order choices values f n rows past now e (rows_of types differ n.inputs rows kinds) chosen j d b t in
    let short = short_law choices after f rows (now ∷ past) (all_ranks after ranks order.ordered) writes (λ g args earlier. kinds_short (controls_in after g) (choices g args earlier) (always g args earlier)) (rows_short (kinds_of_decls types n.inputs) rows kinds) chosen in
    let here : AllHold (instance_at c now ∷ own_past (c.place ++ (Instance ∷ [])) past now) = ((λ p. short.0 (c.place ++ (Instance ∷ p))), own_past_holds (c.place ++ (Instance ∷ [])) past now short.1) in
    let held = rows_held choices after c.point.name x.node x.is_node x.rows (instance_at c now ∷ own_past (c.place ++ (Instance ∷ [])) past now) here x.chosen in
    record { node = x.node; is_node = x.is_node; rows = x.rows; kinds = all_kinds types differ x.node.inputs x.rows held x.typed; chosen = x.chosen }
