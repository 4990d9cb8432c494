-- What the node that tells a contract answers is what the node answers, with two values behind.
use Rattle.std.proofs.Common.{◌≡◌, ℕ, Bool, List, [], ◌∷◌, ◌++◌, map, refl, sym, ap, ap₂, subst, ◌∙◌, arith}
use Rattle.std.specs.Prelude.{length}
use Rattle.std.specs.List.{AllByRecursion, range_with_len}
use Rattle.std.proofs.lemmas.List.{append-nil, map-append}
use Rattle.hp_base.specs.Kinds.{AreOfKinds, Bools, IsOfKind, KindData}
use Rattle.hp_base.specs.declared.value.Value.{Value}
use Rattle.hp_base.specs.declared.value.Value.TheVariants.{Absent, B, E, I, Nil, Star}
use Rattle.hp_obc.specs.Machines.{ObcType}
use Rattle.hp_tree.specs.Programs.{Node}
use Rattle.hp_flat.specs.Nodes.{FlatNode}
use Rattle.law_equations.specs.Followed.Programs.{Answered}
use Rattle.law_equations.specs.Meaning.Instants.{Instant}
use Rattle.law_equations.specs.Meaning.Kinding.{Callees, kinds_at, variable_kind, IsWellMade, AnswersOfKinds, OneReactionLaw}
use Rattle.law_equations.specs.Meaning.Reactions.{Answers, Reaction, inputs_of, outputs_at}
use Rattle.law_equations.specs.Shaped.Shaped.{IsHeaded}
use Rattle.hp_controller.specs.declared.decoding.Control.{Control}
use Rattle.hp_controller.specs.Extending.{rows_with}
use Rattle.hp_watch.specs.Watching.{Observing}
use Rattle.law_choices.specs.Answered.Loops.{IsClosed}
use Rattle.law_choices.specs.InTurn.Laws.{TellsContract}
use Rattle.law_choices.specs.InTurn.Nodes.{Chosen, Contracted, contract_name, telling, IsOwn, IsContracted}
use Rattle.law_choices.proofs.InTurnLemmas.Contracted.{NodeLaws, Ground, plant_well, chooses, own_named, chosen_named, chosen_is_headed, told_truth}

-- ---- reactions

-- the outputs of a node do not matter to its reactions
pub tell_reaction : (answers : Answers) (c : Chosen) (rows : List (List Value)) (instants : List Instant) → Reaction answers (telling c) rows instants → Reaction answers c.node rows instants
tell_reaction answers c [] [] r = tt
tell_reaction answers c [] (now ∷ past) r = absurd r
tell_reaction answers c (row ∷ rows) [] r = absurd r
tell_reaction answers c (row ∷ rows) (now ∷ past) r =
    let it = r.1 in
    (tell_reaction answers c rows past r.0, record { inputs_are = it.inputs_are; equations = it.equations; others = it.others })

-- where no input is left out, rows stay
rows_stay : (answers : Answers) (n : FlatNode) (from : ℕ) (rows : List (List Value)) (instants : List Instant) → Reaction answers n rows instants → rows_with from 0 rows instants ≡ rows
rows_stay answers n from [] [] r = refl
rows_stay answers n from [] (now ∷ past) r = absurd r
rows_stay answers n from (row ∷ rows) [] r = absurd r
rows_stay answers n from (row ∷ rows) (now ∷ past) r = ap₂ (λ x xs. x ∷ xs) (append-nil row) (rows_stay answers n from rows past r.0)

-- the last two of some values are of their kinds
last_two : (kind : ℕ → KindData) (now : Instant) (xs : List ℕ) (a b : ℕ) → AreOfKinds (map kind (xs ++ a ∷ b ∷ [])) (map now (xs ++ a ∷ b ∷ [])) → IsOfKind (kind a) (now a) × IsOfKind (kind b) (now b)
last_two kind now [] a b h = (h.0, h.1.0)
last_two kind now (x ∷ xs) a b h = last_two kind now xs a b h.1

truth_of : (v : Value) → IsOfKind Bools v → (b : Bool) × (v ≡ B b)
truth_of (B b) h = (b, refl)
truth_of Absent h = absurd h
truth_of Nil h = absurd h
truth_of (E t k) h = absurd h
truth_of (I n) h = absurd h
truth_of Star h = absurd h

-- the first of some lists
first_row : List (List Value) → List Value
first_row [] = []
first_row (row ∷ rows) = row

module _ (types : List ObcType) (all : Callees) (one : OneReactionLaw) (answers : Answers) (typed : AnswersOfKinds answers all) where
  -- two reactions of a node over the same rows have the same newest outputs
  same_outputs : (n : FlatNode) (rows : List (List Value)) (now other : Instant) (past before : List Instant) → IsWellMade types all n → AllByRecursion (AreOfKinds (kinds_at types n (inputs_of n))) rows → Reaction answers n rows (now ∷ past) → Reaction answers n rows (other ∷ before)
      → outputs_at n now ≡ outputs_at n other
  unfolding first_row
  same_outputs n rows now other past before well kinds r s =
      let u = one types all answers n well typed rows kinds in
      ap (λ instants. first_row (map (outputs_at n) instants)) (u.only (now ∷ past) r ∙ sym (u.only (other ∷ before) s))

  -- ---- one node

  module _ (laws : NodeLaws) (observers : Observing) (node : Node) (c : Contracted) (g : Ground types all observers node c) (tell_headed : IsHeaded types all (telling c.chosen)) (own_given : Answered answers all.takes c.own)
      (tell_given : Answered answers all.takes (telling c.chosen)) where
    abbrev is : IsContracted types observers node c
    is = g.is

    abbrev plant : FlatNode
    plant = c.plant

    abbrev chosen : FlatNode
    chosen = c.chosen.node

    own_name : c.own.name ≡ chosen.name
    own_name = own_named laws types all observers node c g ∙ sym (chosen_named laws types all observers node c g)

    chosen_takes : all.takes chosen.name ≡ kinds_at types chosen (inputs_of chosen)
    chosen_takes = let h = chosen_is_headed laws types all observers node c g in h.takes

    takes_same : all.takes c.own.name ≡ all.takes (telling c.chosen).name
    takes_same = ap all.takes own_name ∙ chosen_takes ∙ sym tell_headed.takes

    chooses_this : IsWellMade types all chosen
    chooses_this = (chooses laws types all observers node c g).0

    module _ (args : List Value) (earlier : List (List Value)) (now other : Instant) (past before : List Instant) (kinds : AllByRecursion (AreOfKinds (all.takes c.own.name)) (args ∷ earlier)) (own_reaction : Reaction answers c.own (args ∷ earlier) (now ∷ past))
        (chosen_reaction : Reaction answers chosen (args ∷ earlier) (other ∷ before)) where
      chosen_kinds : AllByRecursion (AreOfKinds (kinds_at types chosen (inputs_of chosen))) (args ∷ earlier)
      chosen_kinds = subst (λ ks. AllByRecursion (AreOfKinds ks) (args ∷ earlier)) (ap all.takes own_name ∙ chosen_takes) kinds

      -- it stands for itself
      chosen_same : c.own ≡ chosen → outputs_at c.own now ≡ outputs_at chosen other
      chosen_same e =
          ap (λ (n : FlatNode). outputs_at n now) e
          ∙ same_outputs chosen (args ∷ earlier) now other past before chooses_this chosen_kinds (subst (λ (n : FlatNode). Reaction answers n (args ∷ earlier) (now ∷ past)) e own_reaction) chosen_reaction

      -- the node without controllable variables stands for itself
      plant_same : c.own ≡ plant → length g.is.controls ≡ 0 → IsClosed answers 0 (record { plant = plant; closed = chosen }) → outputs_at c.own now ≡ outputs_at chosen other
      unfolding first_row
      plant_same e none closes =
          let follow = closes.follows (args ∷ earlier) (other ∷ before) chosen_reaction in
          let rows = rows_stay answers chosen chosen.inputs (args ∷ earlier) (other ∷ before) chosen_reaction in
          let followed = subst (λ z. Reaction answers plant z follow.followed) rows follow.reaction in
          let own = subst (λ (n : FlatNode). Reaction answers n (args ∷ earlier) (now ∷ past)) e own_reaction in
          let u = one types all answers plant (plant_well laws types all observers node c g) typed (args ∷ earlier) plant_kinds in
          ap (λ (n : FlatNode). outputs_at n now) e
          ∙ ap (λ instants. first_row (map (outputs_at plant) instants)) (u.only (now ∷ past) own ∙ sym (u.only follow.followed followed))
          ∙ ap first_row follow.outputs
        where
          plant_takes : all.takes c.own.name ≡ kinds_at types plant (inputs_of plant)
          plant_takes =
              let is = g.is in
              let of_node = g.of_node in
              let count = is.count in
              let inputs = g.inputs in
              ap all.takes (own_named laws types all observers node c g ∙ sym g.named) ∙ of_node.takes ∙ ap (λ z. kinds_at types plant (range_with_len 0 z)) (omega (arith, inputs, count, none))

          plant_kinds : AllByRecursion (AreOfKinds (kinds_at types plant (inputs_of plant))) (args ∷ earlier)
          plant_kinds = subst (λ ks. AllByRecursion (AreOfKinds ks) (args ∷ earlier)) plant_takes kinds

      own_same : outputs_at c.own now ≡ outputs_at chosen other
      own_same = by is.controls refl is.own ((chooses laws types all observers node c g).2 answers)
        where
          by : (cs : List Control) → length is.controls ≡ length cs → IsOwn cs c → IsClosed answers (length cs) (record { plant = plant; closed = chosen }) → outputs_at c.own now ≡ outputs_at chosen other
          by [] e own closes = plant_same own e closes
          by (k ∷ ks) e own closes = chosen_same own

    answers_told : (args : List Value) (earlier : List (List Value)) → AreOfKinds (all.takes c.own.name) args → AllByRecursion (AreOfKinds (all.takes c.own.name)) earlier
        → (assumed enforced : Bool) × (answers (contract_name c.own.name) args earlier ≡ answers c.own.name args earlier ++ B assumed ∷ B enforced ∷ [])
    answers_told args earlier h hs =
        let own = own_given args earlier h hs in
        let tell = tell_given args earlier (subst (λ ks. AreOfKinds ks args) takes_same h) (subst (λ ks. AllByRecursion (AreOfKinds ks) earlier) takes_same hs) in
        let same = own_same args earlier own.now tell.now own.past tell.past (h, hs) own.reaction (tell_reaction answers c.chosen (args ∷ earlier) (tell.now ∷ tell.past) tell.reaction) in
        let kinds = typed (telling c.chosen).name args earlier (subst (λ ks. AreOfKinds ks args) takes_same h) (subst (λ ks. AllByRecursion (AreOfKinds ks) earlier) takes_same hs) in
        let these : AreOfKinds (kinds_at types chosen (chosen.outputs ++ c.chosen.assume ∷ c.chosen.enforce ∷ [])) (map tell.now (chosen.outputs ++ c.chosen.assume ∷ c.chosen.enforce ∷ [])) =
        subst (AreOfKinds (kinds_at types chosen (chosen.outputs ++ c.chosen.assume ∷ c.chosen.enforce ∷ []))) tell.answer (subst (λ ks. AreOfKinds ks (answers (telling c.chosen).name args earlier)) tell_headed.gives kinds) in
        let two = last_two (variable_kind types chosen.variables) tell.now chosen.outputs c.chosen.assume c.chosen.enforce these in
        let truth = told_truth laws types all observers node c g in
        let assumed = truth_of (tell.now c.chosen.assume) (subst (λ k. IsOfKind k (tell.now c.chosen.assume)) truth.0 two.0) in
        let enforced = truth_of (tell.now c.chosen.enforce) (subst (λ k. IsOfKind k (tell.now c.chosen.enforce)) truth.1 two.1) in
        let own_outputs = own.answer ∙ same in (
          assumed.0,
          enforced.0,
          ap (λ f. answers (contract_name f) args earlier) own_name
              ∙ tell.answer
              ∙ map-append tell.now chosen.outputs (c.chosen.assume ∷ c.chosen.enforce ∷ [])
              ∙ ap₂ (λ v w. map tell.now chosen.outputs ++ v ∷ w ∷ []) assumed.1 enforced.1
              ∙ ap (λ vs. vs ++ B assumed.0 ∷ B enforced.0 ∷ []) (sym own_outputs),
        )

    pub told : TellsContract all answers c
    told = record { named = ap contract_name (sym own_name); takes = ap (λ f. all.takes (contract_name f)) own_name ∙ sym takes_same; tells = answers_told }
