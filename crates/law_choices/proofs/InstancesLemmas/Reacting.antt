-- The instances of calls, in a reaction with chosen values, are reactions of their callees with chosen values.
use Rattle.std.proofs.Common.{◌≡◌, ℕ, ◌<◌, ◌≤◌, inl, inr, List, [], ◌∷◌, ◌++◌, length, map, reverse, None, Some, refl, sym, ap, ap₂, subst, ◌∙◌, append_assoc, arith}
use Rattle.std.specs.Prelude.{Bool, true, false, if◌then◌else◌, IsTrue, All, filter, slice_index_or}
use Rattle.std.specs.List.{AllByRecursion}
use Rattle.std.specs.Str.{bytes_eq}
use Rattle.std.proofs.lemmas.Slice.Eq.{bytes_eq-Decides}
use Rattle.hp_base.specs.declared.ty.Ty.{Ty}
use Rattle.hp_base.specs.declared.ty.Ty.TheVariants as ty
use Rattle.hp_base.specs.declared.value.Value.{Value}
use Rattle.hp_base.specs.declared.value.Value.TheVariants.{Absent}
use Rattle.hp_tree.specs.declared.program.Item.{Item}
use Rattle.hp_tree.specs.declared.program.Item.TheVariants.{TypeItem, NodeItem}
use Rattle.hp_tree.specs.Blocks.{Decl}
use Rattle.hp_tree.specs.Programs.{Node, TypeDecl}
use Rattle.hp_tree.specs.Operators.{real, is_there}
use Rattle.hp_tree.specs.Instant.{Fresh, Given, Head, Inputs, Instance, Instant, Past, Place, Tail, alone, in_row, nothing, part}
use Rattle.hp_tree.specs.Meaning.{Nodes, node, node_among, types_of}
use Rattle.hp_tree.specs.Reaction.{Each}
use Rattle.hp_tree.specs.Values.{AreOf, IsOf}
use Rattle.hp_meaning.specs.Causal.Causality.{IsRanked, Ranked}
use Rattle.hp_meaning.specs.Causal.OneReaction.{ReactionOf}
use Rattle.hp_meaning.specs.Causal.Points.{Placed, points, points_of_contract}
use Rattle.hp_meaning.specs.Contract.ChosenRuns.{NamesApart, own_past}
use Rattle.hp_meaning.specs.Contract.FreePlaces.{calls_of, instance_at, is_call}
use Rattle.hp_meaning.specs.Contract.Guarantee.{Through}
use Rattle.hp_meaning.proofs.ContractLemmas.Callees.{Word, calls_held}
use Rattle.hp_meaning.proofs.ContractLemmas.Forgets.{Met, given}
use Rattle.hp_meaning.proofs.ContractLemmas.Instances.{Held}
use Rattle.hp_meaning.proofs.ContractLemmas.OwnPasts.{AtInstance, along, through_map}
use Rattle.hp_drawing.specs.Told.{Told}
use Rattle.law_drawing.specs.Steered.Asked.{BlockFits}
use Rattle.law_games.proofs.ForcedLemmas.EachCall.{each_all}
use Rattle.law_games.proofs.GuaranteedLemmas.Apart.{found_among}
use Rattle.law_games.proofs.GuaranteedLemmas.Callees.{CallFits, node_calls}
use Rattle.law_games.proofs.GuaranteedLemmas.Solid.{Solid}
use Rattle.law_games.proofs.GuaranteedLemmas.Wholes.{HasInputs, WholeFits}
use Rattle.law_games.specs.ReadyGames.Laws.{Stands}
use Rattle.law_judged.specs.Named.Scoped.{EachNode}
use Rattle.law_values.specs.Valued.Classed.{seen_in_node}
use Rattle.law_values.specs.Valued.Fitting.{NodeFits}
use Rattle.law_values.specs.Valued.Values.{AreAccepted, Classing, class_behind, class_here, either_of, scope_behind}
use Rattle.law_values.proofs.ValuedLemmas.Loosen.{node_loose}
use Rattle.law_choices.specs.Choosing.Choices.{Choices}
use Rattle.law_choices.specs.Instances.Reacting.{InstanceReacts, ReactsChosen}
use Rattle.law_choices.specs.Runs.Chosen.{ChosenReaction, chosen_given, chosen_meaning, chosen_nodes, inputs_at}
use Rattle.law_choices.specs.Runs.Laws.{ChoosesValues}
use Rattle.law_choices.proofs.InstancesLemmas.Called.{Called, all_called}
use Rattle.law_choices.proofs.PlayingLemmas.Holding.{chosen-found, own-among, runs-of}
use Rattle.law_choices.proofs.RunsLemmas.Wholes.{all-fit}

-- ---- rows of values

absent-of-none : {X : Type 0} (types : List TypeDecl) (t : Ty) → IsOf types t Absent → X
absent-of-none types ty.Bool h = absurd h
absent-of-none types ty.Int h = absurd h
absent-of-none types (ty.Enum t) h = absurd h

-- no more values, which are given at the same places, are the same
row-same : (types : List TypeDecl) (ds : List Decl) (inputs vs : List Value) → AreOf types ds inputs → length vs ≤ length ds → ((p : Place) → in_row (map alone inputs) p ≡ in_row (map alone vs) p) → inputs ≡ vs
row-same types [] [] [] h l e = refl
row-same types [] [] (v ∷ vs) h l e = absurd (omega (arith, l))
row-same types [] (w ∷ inputs) vs h l e = absurd h
row-same types (d ∷ ds) [] vs h l e = absurd h
row-same types (d ∷ ds) (w ∷ inputs) [] h l e = absent-of-none types d.ty (subst (IsOf types d.ty) (e (Head ∷ [])) h.0)
row-same types (d ∷ ds) (w ∷ inputs) (v ∷ vs) h l e = ap₂ (λ x xs. x ∷ xs) (e (Head ∷ [])) (row-same types ds inputs vs h.1 (omega (arith, l)) (λ p. e (Tail ∷ p)))

some-same : {A : Type 0} (x y : A) → Some x ≡ Some y → x ≡ y
some-same x y e = cc

-- ---- nodes with chosen values

module _ (choices : Choices) (types : List TypeDecl) where
  abbrev N : List Item → Nodes
  N items = chosen_nodes choices types real items

  either-word : (d : Bool) (i j : Instant) → Word i → Word j → Word (if d then i else j)
  either-word true i j h k = h
  either-word false i j h k = k

  word-of : (items : List Item) (f : List ℕ) (vs : List Value) (g : Given) (now : Instant) → Word ((N items).instant f vs g now)
  word-of [] f vs g now = inr (λ p. refl)
  word-of (TypeItem t ∷ items) f vs g now = word-of items f vs g now
  word-of (NodeItem n ∷ items) f vs g now = either-word (bytes_eq n.name f) (node types real (N items) n vs (chosen_given (choices n.name) n vs g) now) ((N items).instant f vs g now) (inl refl) (word-of items f vs g now)

  -- an instant of a node holds its inputs
  pub inputs-met : (items : List Item) (f : List ℕ) (m : Node) → node_among items f ≡ Some m → (vs : List Value) (g : Given) (i : Instant) (p : Place) → (N items).instant f vs g i (Inputs ∷ p) ≡ in_row (map alone vs) p
  inputs-met [] f m e vs g i p = absurd cc
  inputs-met (TypeItem t ∷ items) f m e vs g i p = inputs-met items f m e vs g i p
  inputs-met (NodeItem n ∷ items) f m e vs g i p = by (bytes_eq n.name f) e (λ k. inputs-met items f m k vs g i p)
    where
      by : (d : Bool) → (if d then Some n else node_among items f) ≡ Some m → (node_among items f ≡ Some m → (N items).instant f vs g i (Inputs ∷ p) ≡ in_row (map alone vs) p)
          → (if d then node types real (N items) n vs (chosen_given (choices n.name) n vs g) i else (N items).instant f vs g i) (Inputs ∷ p) ≡ in_row (map alone vs) p
      by true k rest = refl
      by false k rest = rest k

  -- what fits whole is an instant of a node among the items, with inputs of its types
  has-inputs : (class : Classing) (items : List Item) (f : List ℕ) (i : Instant) → WholeFits types class items f i → (m : Node) × ((node_among items f ≡ Some m) × HasInputs types m i)
  has-inputs class [] f i h = absurd h
  has-inputs class (TypeItem t ∷ items) f i h = has-inputs class items f i h
  has-inputs class (NodeItem n ∷ items) f i h = by (bytes_eq n.name f) h (has-inputs (class_behind class) items f i)
    where
      by : (d : Bool) → either_of d (NodeFits types true (WholeFits types (class_behind class) items) (scope_behind items) (seen_in_node (class_here class) n) n i × (Solid i × HasInputs types n i)) (WholeFits types (class_behind class) items f i)
          → (WholeFits types (class_behind class) items f i → (m : Node) × ((node_among items f ≡ Some m) × HasInputs types m i)) → (m : Node) × (((if d then Some n else node_among items f) ≡ Some m) × HasInputs types m i)
      by true z k = (n, (refl, z.1.1))
      by false z k = k z

-- What is known of a node of the program, and of what its calls name.
pub record Calling (told : Told) (after earlier : List Item) (n : Node) (class : Classing) (choices : Choices) : Type 0 where
  pub accepted : AreAccepted (types_of after) class (NodeItem n ∷ earlier)
  pub ranked : Ranked n
  pub ranked_earlier : IsRanked earlier
  pub values : ChoosesValues (types_of after) choices n
  pub others : EachNode (ChoosesValues (types_of after) choices) earlier
  pub fit : BlockFits told n.body
  pub quiet : filter (λ c. is_call c.point.kind) (points_of_contract n.contract (λ p. p)) ≡ []
  pub found : (f : List ℕ) (m : Node) → node_among earlier f ≡ Some m → told.nodes f ≡ Some m

module _ (told : Told) (after earlier : List Item) (n : Node) (stands : Stands after earlier n) (apart : NamesApart (reverse after)) (class : Classing) (choices : Choices) (known : Calling told after earlier n class choices) where
  abbrev types : List TypeDecl
  types = types_of after

  abbrev nodes : Nodes
  nodes = chosen_nodes choices types real earlier

  abbrev word : (f : List ℕ) (vs : List Value) (g : Given) (now : Instant) → Word (nodes.instant f vs g now)
  word = word-of choices types earlier

  abbrev W : List ℕ → Instant → Type 0
  W = WholeFits types (class_behind class) earlier

  abbrev Is : Instant → Type 0
  Is i = NodeFits types true W (scope_behind earlier) (seen_in_node (class_here class) n) n i × (Solid i × HasInputs types n i)

  -- an instant does what the node does over some inputs, after others, and fits
  abbrev Reacts : Past → Instant → Type 0
  Reacts older now = ((vs : List Value) × Met now (node types real nodes n vs (chosen_given (choices n.name) n vs (given older nothing)) now)) × Is now

  -- so does the instance of a callee, over inputs of its types
  abbrev CalleeReacts : List ℕ → Past → Instant → Type 0
  CalleeReacts f older i = (vs : List Value) × (((m : Node) → node_among earlier f ≡ Some m → AreOf types m.inputs vs) × Met i (nodes.instant f vs (given older nothing) i))

  -- ---- one instant

  module _ (older : Past) (now : Instant) (h : Reacts older now) where
    abbrev inputs : List Value
    inputs = h.0.0

    abbrev g : Given
    g = chosen_given (choices n.name) n inputs (given older nothing)

    held : All (Held types nodes word older now) (calls_of n)
    held = calls_held types nodes word n known.quiet inputs older g.free now h.0.1

    called : All (Called told types nodes word older now) (calls_of n)
    called = all_called told types nodes word n known.fit known.quiet inputs older (in_row (map alone (choices n.name inputs (map (inputs_at n) older)))) now h.0.1

    fits : All (CallFits types W now) (calls_of n)
    fits = each_all (CallFits types W now) (points n) (node_calls types W now n (scope_behind earlier) (seen_in_node (class_here class) n) (node_loose types true W (scope_behind earlier) (seen_in_node (class_here class) n) n now h.1.0))

    -- the inputs that are given are those that the instance holds, which are of the types
    typed-row : (f : List ℕ) (i : Instant) (row : List Value) (k : Node) → told.nodes f ≡ Some k → length row ≤ length k.inputs → (past : Past) → Met i (nodes.instant f row (given past nothing) i) → W f i → (m : Node) → node_among earlier f ≡ Some m → AreOf types m.inputs row
    typed-row f i row k e l past met whole m is =
        let z = has-inputs choices types (class_behind class) earlier f i whole in
        let same : z.0 ≡ m = some-same z.0 m (sym z.1.0 ∙ is) in
        let callee : k ≡ m = some-same k m (sym e ∙ known.found f m is) in
        let has : HasInputs types m i = subst (λ (x : Node). HasInputs types x i) same z.1.1 in
        let few : length row ≤ length m.inputs = subst (λ (x : Node). length row ≤ length x.inputs) callee l in
        subst (AreOf types m.inputs) (row-same types m.inputs has.0 row has.1.0 few (λ p. sym (has.1.1 p) ∙ met (Inputs ∷ p) ∙ inputs-met choices types earlier f m is row (given past nothing) i p)) has.1.0

    at-call : (j : ℕ) (d : Placed) → j < length (calls_of n) → AtInstance (CalleeReacts (slice_index_or (calls_of n) j d).point.name) false (slice_index_or (calls_of n) j d).place older now
    at-call j d b =
        let c = slice_index_or (calls_of n) j d in (
          (held j d b).goes,
          λ t.
              let x = called j d b t in
              (x.0, (typed-row c.point.name (instance_at c now) x.0 x.1.0.0 x.1.0.1.0 x.1.0.1.1 (own_past (c.place ++ (Instance ∷ [])) older now) x.1.1 (fits j d b t), x.1.1)),
        )

    some-callee : (j : ℕ) (d : Placed) → j < length (calls_of n) → IsTrue (is_there (instance_at (slice_index_or (calls_of n) j d) now (Fresh ∷ []))) → (m : Node) × (node_among earlier (slice_index_or (calls_of n) j d).point.name ≡ Some m)
    some-callee j d b t =
        let c = slice_index_or (calls_of n) j d in
        let z = has-inputs choices types (class_behind class) earlier c.point.name (instance_at c now) (fits j d b t) in
        (z.0, z.1.0)

  -- ---- a whole reaction of the node

  behind : reverse after ≡ (stands.0 ++ (NodeItem n ∷ [])) ++ earlier
  behind = stands.1 ∙ sym (append_assoc stands.0 (NodeItem n ∷ []) earlier)

  apart-behind : NamesApart ((stands.0 ++ (NodeItem n ∷ [])) ++ earlier)
  apart-behind = subst NamesApart behind apart

  reacts-through : (rows : List (List Value)) (past : Past) → ReactionOf (chosen_meaning choices real after n.name) rows (map (λ (vs : List Value). nothing) rows) past → Each Is past → Through Reacts past
  reacts-through [] [] r h = tt
  reacts-through [] (now ∷ past) r h = absurd r
  reacts-through (vs ∷ rows) [] r h = absurd r
  reacts-through (vs ∷ rows) (now ∷ past) r h =
      let items = NodeItem n ∷ earlier in
      let at = given past nothing in
      let own-name : bytes_eq n.name n.name ≡ true = (bytes_eq-Decides n.name n.name).1 refl in (
        reacts-through rows past r.0 h.1,
        (
          (
            vs,
            λ p. r.1 p
                ∙ ap (λ xs. (chosen_nodes choices types real xs).instant n.name vs at now p) stands.1
                ∙ chosen-found choices types stands.0 items n.name n (subst NamesApart stands.1 apart) (own-among n earlier) vs at now p
                ∙ ap (λ b. (if b then node types real nodes n vs (chosen_given (choices n.name) n vs at) now else nodes.instant n.name vs at now) p) own-name,
          ),
          h.0,
        ),
      )

  -- ---- a whole reaction of a callee

  module _ (f : List ℕ) (m : Node) (e : node_among earlier f ≡ Some m) where
    pub found-after : node_among (reverse after) f ≡ Some m
    found-after = ap (λ xs. node_among xs f) behind ∙ found_among (stands.0 ++ (NodeItem n ∷ [])) earlier f m apart-behind e

    rows-of : (past : Past) → Through (CalleeReacts f) past → (rows : List (List Value)) × (AllByRecursion (AreOf types m.inputs) rows × ReactionOf (chosen_meaning choices real after f) rows (map (λ (vs : List Value). nothing) rows) past)
    rows-of [] h = ([], (tt, tt))
    rows-of (now ∷ past) h =
        let before = rows-of past h.0 in
        let row = h.1.0 in
        let at = given past nothing in (
          row ∷ before.0,
          (
            (h.1.1.0 m e, before.1.0),
            (
              before.1.1,
              λ p. h.1.1.1 p
                  ∙ sym (chosen-found choices types (stands.0 ++ (NodeItem n ∷ [])) earlier f m apart-behind e row at now p)
                  ∙ ap (λ xs. (chosen_nodes choices types real xs).instant f row at now p) (sym behind),
            ),
          ),
        )

  -- ---- the law, of one node

  pub instances-react : (rows : List (List Value)) (past : Past) (now : Instant) → AllByRecursion (AreOf types n.inputs) rows → ChosenReaction choices after n.name rows (now ∷ past) → All (InstanceReacts choices after past now) (calls_of n)
  instances-react rows past now typed reaction j d b t =
      let c = slice_index_or (calls_of n) j d in
      let Q = CalleeReacts c.point.name in
      let runs = runs-of choices after earlier n stands apart rows (map (λ (vs : List Value). nothing) rows) (now ∷ past) reaction in
      let all = all-fit choices after earlier n stands apart class known.accepted known.ranked known.ranked_earlier known.values known.others rows (now ∷ past) typed runs in
      let through = reacts-through rows (now ∷ past) reaction all in
      let here = at-call past now through.1 j d b in
      let callee = some-callee past now through.1 j d b t in
      let older : Through Q (own_past (c.place ++ (Instance ∷ [])) past now) =
      along Q c.place false past now (through_map {R = Reacts} {S = AtInstance Q false c.place} (λ older i r. at-call older i r j d b) past through.0) here.0 t in
      let found = rows-of c.point.name callee.0 callee.1 (instance_at c now ∷ own_past (c.place ++ (Instance ∷ [])) past now) (older, here.1 t) in
      record { node = callee.0; is_node = found-after c.point.name callee.0 callee.1; rows = found.0; typed = found.1.0; chosen = found.1.1 }
