-- The instants of a node whose controllable variables have chosen values have values of their types.
use Rattle.std.proofs.Common.{◌≡◌, ℕ, List, [], ◌∷◌, reverse, refl, sym, ap, subst}
use Rattle.std.specs.Prelude.{⊤, Bool, true, false, if◌then◌else◌, IsTrue, All, Some}
use Rattle.std.specs.Bool.{MatchBool}
use Rattle.std.specs.List.{AllByRecursion}
use Rattle.std.specs.Str.{bytes_eq}
use Rattle.std.proofs.lemmas.Slice.Eq.{bytes_eq-Decides}
use Rattle.hp_base.specs.declared.value.Value.{Value}
use Rattle.hp_tree.specs.declared.program.Item.{Item}
use Rattle.hp_tree.specs.declared.program.Item.TheVariants.{TypeItem, NodeItem}
use Rattle.hp_tree.specs.Programs.{Node, TypeDecl}
use Rattle.hp_tree.specs.Values.{AreOf}
use Rattle.hp_tree.specs.Instant.{Controls, Fresh, Inputs, Instant, Past, Place, Given, part}
use Rattle.hp_tree.specs.Meaning.{Nodes, controls_of, names_of, node, node_among, types_of}
use Rattle.hp_tree.specs.Operators.{is_there}
use Rattle.hp_tree.specs.Reaction.{Each}
use Rattle.hp_meaning.specs.Causal.Causality.{IsRanked, Ranked}
use Rattle.hp_meaning.specs.Causal.Points.{Placed}
use Rattle.hp_meaning.specs.Contract.ChosenRuns.{NamesApart}
use Rattle.hp_meaning.specs.Contract.FreePlaces.{calls_of, instance_at}
use Rattle.hp_meaning.specs.Contract.Guarantee.{Through, Typed, TypedAll, TypedNode}
use Rattle.law_judged.specs.Named.Scoped.{EachNode}
use Rattle.law_values.specs.Valued.Classed.{seen_in_node}
use Rattle.law_values.specs.Valued.Fitting.{NodeFits, OutputsFit}
use Rattle.law_values.specs.Valued.Given.{reading}
use Rattle.law_values.specs.Valued.Values.{AreAccepted, Classing, class_behind, class_here, either_of, scope_behind}
use Rattle.law_values.proofs.AcceptedLemmas.Outputs.{undefined}
use Rattle.law_values.proofs.ValuedLemmas.ExprTops.{Callees}
use Rattle.law_values.proofs.ValuedLemmas.Joined.{node_ok}
use Rattle.law_values.proofs.ValuedLemmas.Loose.{NodeLoose}
use Rattle.law_values.proofs.ValuedLemmas.Loosen.{node_loose}
use Rattle.law_values.proofs.ValuedLemmas.NodeBody.{controls_fit}
use Rattle.law_values.proofs.ValuedLemmas.NodeContract.{each_as}
use Rattle.law_values.proofs.ValuedLemmas.NodeWhole.{node_whole}
use Rattle.law_values.proofs.ValuedLemmas.Typed.{some_is}
use Rattle.law_games.specs.ReadyGames.Laws.{Stands}
use Rattle.law_games.proofs.GuaranteedLemmas.Solid.{Solid}
use Rattle.law_games.proofs.GuaranteedLemmas.SolidNodes.{whole_solid}
use Rattle.law_games.proofs.GuaranteedLemmas.TypedNodes.{all_typed}
use Rattle.law_games.proofs.GuaranteedLemmas.Wholes.{HasInputs, WholeFits, wholes_solid}
use Rattle.law_choices.specs.Choosing.Choices.{Choices}
use Rattle.law_choices.specs.Runs.Chosen.{chosen_given, chosen_nodes}
use Rattle.law_choices.specs.Runs.Laws.{ChoosesValues}
use Rattle.law_choices.proofs.PlayingLemmas.Holding.{Does, Runs}
use Rattle.law_choices.proofs.RunsLemmas.Values.{given_fits}

-- nothing else is asked of what an instance is given
abbrev Anything : List ℕ → Instant → Type 0
Anything f i = ⊤

module _ (choices : Choices) (types : List TypeDecl) where
  abbrev chosen : List Item → Nodes
  chosen items = chosen_nodes choices types (reading undefined) items

  abbrev Known : Classing → List Item → Type 0
  Known class items = Callees types true (reading undefined) (chosen items) (node_among items) (WholeFits types class items) Anything

  abbrev Here : Classing → Node → List Item → Instant → Type 0
  Here class n items i = NodeFits types true (WholeFits types (class_behind class) items) (scope_behind items) (seen_in_node (class_here class) n) n i × (Solid i × HasInputs types n i)

  module _ (class : Classing) (n : Node) (items : List Item) (known : Known (class_behind class) items) (ok : AreAccepted types class (NodeItem n ∷ items)) (o : Ranked n) (values : ChoosesValues types choices n) where
    here_fits : (inputs : List Value) (g : Given) (i : Instant) → AreOf types n.inputs inputs → Each (Here class n items) g.past
        → ((p : Place) → i p ≡ node types (reading undefined) (chosen items) n inputs (chosen_given (choices n.name) n inputs g) i p) → Here class n items i
    here_fits inputs g i v a h =
        let F = WholeFits types (class_behind class) items in
        let s = scope_behind items in
        let k = seen_in_node (class_here class) n in
        let given = chosen_given (choices n.name) n inputs g in
        let gv = given_fits types choices s n values inputs g in
        let fine = node_ok types (node_among items) n s (class_here class) ok.0.sound ok.0.classes in
        let before : Each (NodeFits types true F s k n) g.past = each_as (Here class n items) (NodeFits types true F s k n) g.past (λ j z. z.0) a in
        let now : NodeFits types true F s k n i = node_whole types true undefined (chosen items) (node_among items) F Anything known s k n o ok.0.clocks ok.0.plain ok.0.plain_contract fine inputs given i v gv before h in (
          now,
          (
            whole_solid types undefined (chosen items) (node_among items) F (wholes_solid types undefined (class_behind class) items) s k n fine inputs given i v
                (controls_fit types true undefined (chosen items) (node_among items) F Anything known (controls_of n.contract) (part Controls given.free) gv.0.0)
                (node_loose types true F s k n i now) (each_as (NodeFits types true F s k n) (NodeLoose types true F s k n) g.past (λ j z. node_loose types true F s k n j z) before) h,
            (inputs, (v, λ p. h (Inputs ∷ p))),
          ),
        )

    module _ (f : List ℕ) where
      outputs_by : (d : Bool) (m : Node) → (if d then Some n else node_among items f) ≡ Some m → (if d then names_of n.outputs else (chosen items).outputs f) ≡ names_of m.outputs
      outputs_by true m e = ap (λ (z : Node). names_of z.outputs) (some_is n m e)
      outputs_by false m e = known.outputs f m e

      gives_by : (d : Bool) (m : Node) (i : Instant) → (if d then Some n else node_among items f) ≡ Some m → either_of d (Here class n items i) (WholeFits types (class_behind class) items f i) → OutputsFit types m.outputs i
      gives_by true m i e h = subst (λ (z : Node). OutputsFit types z.outputs i) (some_is n m e) h.0.0.0
      gives_by false m i e h = known.gives f m i e h

      fit_by : (d : Bool) (m : Node) (inputs : List Value) (g : Given) (i : Instant) → (if d then Some n else node_among items f) ≡ Some m → AreOf types m.inputs inputs → Each (λ j. either_of d (Here class n items j) (WholeFits types (class_behind class) items f j)) g.past
          → ((p : Place) → i p ≡ (if d then node types (reading undefined) (chosen items) n inputs (chosen_given (choices n.name) n inputs g) i else (chosen items).instant f inputs g i) p)
          → either_of d (Here class n items i) (WholeFits types (class_behind class) items f i)
      fit_by true m inputs g i e v a h = here_fits inputs g i (subst (λ (z : Node). AreOf types z.inputs inputs) (sym (some_is n m e)) v) a h
      fit_by false m inputs g i e v a h = known.fit f m inputs g i e v a tt h

  callees : (class : Classing) (items : List Item) → AreAccepted types class items → IsRanked items → EachNode (ChoosesValues types choices) items → Known class items
  callees class [] ok r values = record { outputs = λ f n e. absurd (cc); fit = λ f n inputs g i e v a gv h. absurd (cc); gives = λ f n i e h. absurd (cc) }
  callees class (TypeItem t ∷ items) ok r values = callees class items ok r values
  callees class (NodeItem n ∷ items) ok r values =
      let known = callees (class_behind class) items ok.1 r.1 values.1 in
      record {
        outputs = λ f m e. outputs_by class n items known ok r.0 values.0 f (bytes_eq n.name f) m e;
        fit = λ f m inputs g i e v a gv h. fit_by class n items known ok r.0 values.0 f (bytes_eq n.name f) m inputs g i e v a h;
        gives = λ f m i e h. gives_by class n items known ok r.0 values.0 f (bytes_eq n.name f) m i e h;
      }

-- ---- a node of a program

module _ (choices : Choices) (after earlier : List Item) (n : Node) (stands : Stands after earlier n) (apart : NamesApart (reverse after)) (class : Classing) (ok : AreAccepted (types_of after) class (NodeItem n ∷ earlier)) (o : Ranked n) (r : IsRanked earlier)
    (values : ChoosesValues (types_of after) choices n) (others : EachNode (ChoosesValues (types_of after) choices) earlier) where
  abbrev types : List TypeDecl
  types = types_of after

  abbrev Is : Instant → Type 0
  Is i = Here choices types class n earlier i

  pub all-fit : (rows : List (List Value)) (past : Past) → AllByRecursion (AreOf types n.inputs) rows → Runs choices types earlier n rows past → Each Is past
  all-fit [] [] v h = tt
  all-fit [] (now ∷ past) v h = absurd h
  all-fit (row ∷ rows) [] v h = absurd h
  all-fit (row ∷ rows) (now ∷ past) v h =
      let before = all-fit rows past v.1 h.0 in
      (here_fits choices types class n earlier (callees choices types (class_behind class) earlier ok.1 r others) ok o values row (record { past = past; free = h.1.0 }) now v.0 before h.1.1, before)

  one-typed : (now : Instant) → Is now → Typed after n now
  one-typed now h =
      let own : bytes_eq n.name n.name ≡ true = (bytes_eq-Decides n.name n.name).1 refl in
      let F = WholeFits types (class_behind class) earlier n.name now in
      let whole : WholeFits types class (NodeItem n ∷ earlier) n.name now = subst (λ b. either_of b (Is now) F) (sym own) h in
      let all = all_typed after apart class (NodeItem n ∷ earlier) stands n.name now whole in
      let Below : Type 0 = All (λ (k : Placed). IsTrue (is_there (instance_at k now (Fresh ∷ []))) → TypedAll after earlier k.point.name (instance_at k now)) (calls_of n) in
      let both : TypedNode after n now × Below = subst (λ b. MatchBool b (TypedNode after n now × Below) (TypedAll after earlier n.name now)) own all in
      (both.0).typed

  each-typed : (past : Past) → Each Is past → Through (λ older now. Typed after n now) past
  each-typed [] h = tt
  each-typed (now ∷ past) h = (each-typed past h.1, one-typed now h.0)

  -- Values are of their types at each instant.
  pub typed-through : (rows : List (List Value)) (past : Past) → AllByRecursion (AreOf types n.inputs) rows → Runs choices types earlier n rows past → Through (λ older now. Typed after n now) past
  typed-through rows past v h = each-typed past (all-fit rows past v h)
