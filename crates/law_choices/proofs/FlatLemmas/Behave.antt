-- The nodes of a program answer with the chosen values, and behave so where they are called.
use Rattle.std.proofs.Common.{◌≡◌, ℕ, List, [], ◌∷◌, ◌++◌, map, refl, sym, ap, ap₂, subst, ◌∙◌}
use Rattle.std.specs.Prelude.{Bool, true, false, ◌||◌, IsTrue, IsFalse, if◌then◌else◌, reverse}
use Rattle.std.specs.Str.{bytes_eq}
use Rattle.hp_base.specs.declared.value.Value.{Value}
use Rattle.hp_base.specs.declared.value.Value.TheVariants.{B}
use Rattle.hp_tree.specs.declared.program.Item.{Item}
use Rattle.hp_tree.specs.declared.program.Item.TheVariants.{TypeItem, NodeItem}
use Rattle.hp_tree.specs.Programs.{TypeDecl}
use Rattle.hp_tree.specs.Operators.{Reading, filled}
use Rattle.hp_tree.specs.Instant.{Named, Fresh, Place, Instant, Past, Given}
use Rattle.hp_tree.specs.Meaning.{Nodes, types_of, node}
use Rattle.hp_meaning.specs.Causal.Causality.{IsRanked}
use Rattle.hp_meaning.specs.Causal.OneReaction.{ReactionOf, SamePasts, OneReactionOf}
use Rattle.hp_meaning.proofs.CausalLemmas.Unique.{ranked_reverse, reaction_one}
use Rattle.law_equations.specs.Meaning.Reactions.{Answers}
use Rattle.law_equations.specs.Flattened.Numbered.{does_of}
use Rattle.law_equations.specs.Flattened.Lifted.{Reacts, IsFill}
use Rattle.law_equations.specs.Flattened.Behaves.{OutputsAre, AllAre}
use Rattle.law_equations.specs.Answered.Answering.{given_each, has_node}
use Rattle.law_equations.proofs.AnsweredLemmas.GivenLaws.{AgreeElsewhere}
use Rattle.law_equations.proofs.AnsweredLemmas.AnswerLaws.{as_many, unnamed, others_unnamed}
use Rattle.law_choices.specs.Choosing.Choices.{Choices}
use Rattle.law_choices.specs.Runs.Chosen.{chosen_given, chosen_nodes, chosen_meaning}
use Rattle.law_choices.proofs.RunsLemmas.Chosen.{all_one}
use Rattle.law_choices.specs.Flat.Answering.{chosen_filled, AnsweringUnder}
use Rattle.law_choices.specs.Flat.Laws.{SomeAnswersLaw, BehaveLaw}
use Rattle.law_choices.proofs.FlatLemmas.Given.{chosen_same}

-- ---- answers

outputs_of_past : List (List ℕ) → Past → List Value
outputs_of_past os [] = []
outputs_of_past os (now ∷ past) = map (λ o. now (Named o ∷ [])) os

outputs_are : (os : List (List ℕ)) (past : Past) → OutputsAre os past (outputs_of_past os past)
unfolding outputs_of_past
outputs_are os [] = tt
outputs_are os (now ∷ past) = refl

module _ (choices : Choices) (program : List Item) (fills : List ℕ → Place → Value) (ranked : IsRanked program) where
  one : (f : List ℕ) (inputs : List (List Value)) → OneReactionOf (ReactionOf (chosen_meaning choices filled program f) inputs (given_each (fills f) inputs))
  one f inputs =
      reaction_one (chosen_meaning choices filled program f) (λ vs g. all_one choices (types_of program) filled (reverse program) (ranked_reverse program ranked) f vs g) inputs (given_each (fills f) inputs) (as_many (fills f) inputs)

  answer : Answers
  answer f args earlier = outputs_of_past ((chosen_filled choices program).outputs f) (one f (args ∷ earlier)).past

  answering : AnsweringUnder choices program fills answer
  unfolding answer
  answering f args earlier =
      record { past = (one f (args ∷ earlier)).past; reaction = (one f (args ∷ earlier)).is_one; outputs_are = outputs_are ((chosen_filled choices program).outputs f) (one f (args ∷ earlier)).past }

pub some_answers : SomeAnswersLaw
some_answers choices program fills ranked = (answer choices program fills ranked, answering choices program fills ranked)

-- ---- of nodes among some items

module _ (choices : Choices) (types : List TypeDecl) (R : Reading) where
  abbrev chosen : List Item → Nodes
  chosen items = chosen_nodes choices types R items

  instant_behind : (later earlier : List Item) (f : List ℕ) → IsFalse (has_node later f) → (vs : List Value) (g : Given) (now : Instant) → (chosen (later ++ earlier)).instant f vs g now ≡ (chosen earlier).instant f vs g now
  instant_behind [] earlier f none vs g now = refl
  instant_behind (TypeItem t ∷ later) earlier f none vs g now = instant_behind later earlier f none vs g now
  instant_behind (NodeItem n ∷ later) earlier f none vs g now =
      unnamed (bytes_eq n.name f) (has_node later f) (node types R (chosen (later ++ earlier)) n vs (chosen_given (choices n.name) n vs g) now) ((chosen (later ++ earlier)).instant f vs g now) none
      ∙ instant_behind later earlier f (others_unnamed (bytes_eq n.name f) (has_node later f) none) vs g now

  pub outputs_behind : (later earlier : List Item) (f : List ℕ) → IsFalse (has_node later f) → (chosen (later ++ earlier)).outputs f ≡ (chosen earlier).outputs f
  outputs_behind [] earlier f none = refl
  outputs_behind (TypeItem t ∷ later) earlier f none = outputs_behind later earlier f none
  outputs_behind (NodeItem n ∷ later) earlier f none =
      unnamed (bytes_eq n.name f) (has_node later f) (map (λ d. d.name) n.outputs) ((chosen (later ++ earlier)).outputs f) none
      ∙ outputs_behind later earlier f (others_unnamed (bytes_eq n.name f) (has_node later f) none)

  -- a node never begins anew by itself
  fresh_either : (c d : Bool) (v : Value) → IsTrue (c || d) → (IsTrue d → v ≡ B false) → (if c then B false else v) ≡ B false
  fresh_either true d v h k = refl
  fresh_either false d v h k = k h

  at_fresh : (c : Bool) (i j : Instant) → (if c then i else j) (Fresh ∷ []) ≡ (if c then i (Fresh ∷ []) else j (Fresh ∷ []))
  at_fresh true i j = refl
  at_fresh false i j = refl

  fresh : (items : List Item) (f : List ℕ) → IsTrue (has_node items f) → (vs : List Value) (g : Given) (now : Instant) → (chosen items).instant f vs g now (Fresh ∷ []) ≡ B false
  fresh [] f there vs g now = absurd (cc)
  fresh (TypeItem t ∷ items) f there vs g now = fresh items f there vs g now
  fresh (NodeItem n ∷ items) f there vs g now =
      at_fresh (bytes_eq n.name f) (node types R (chosen items) n vs (chosen_given (choices n.name) n vs g) now) ((chosen items).instant f vs g now)
      ∙ fresh_either (bytes_eq n.name f) (has_node items f) ((chosen items).instant f vs g now (Fresh ∷ [])) there (λ t. fresh items f t vs g now)

-- ---- they behave

same_outputs : (os : List (List ℕ)) (past other : Past) (vs : List Value) → SamePasts past other → OutputsAre os other vs → OutputsAre os past vs
same_outputs os [] [] vs same are = tt
same_outputs os [] (j ∷ other) vs same are = absurd same
same_outputs os (i ∷ past) [] vs same are = absurd same
same_outputs os (i ∷ past) (j ∷ other) vs same are = map_same os ∙ are
  where
    map_same : (os : List (List ℕ)) → map (λ o. i (Named o ∷ [])) os ≡ map (λ o. j (Named o ∷ [])) os
    map_same [] = refl
    map_same (o ∷ os) = ap₂ (λ (v : Value) (vs : List Value). v ∷ vs) (same.0 (Named o ∷ [])) (map_same os)

same_pasts_trans : (past other third : Past) → SamePasts past other → SamePasts third other → SamePasts past third
same_pasts_trans [] [] [] h k = tt
same_pasts_trans [] [] (z ∷ third) h k = absurd k
same_pasts_trans [] (j ∷ other) third h k = absurd h
same_pasts_trans (i ∷ past) [] third h k = absurd h
same_pasts_trans (i ∷ past) (j ∷ other) [] h k = absurd k
same_pasts_trans (i ∷ past) (j ∷ other) (z ∷ third) h k = ((λ p. h.0 p ∙ sym (k.0 p)), same_pasts_trans past other third h.1 k.1)

-- a reaction with some given values is one with the fixed ones
module _ (N M : Nodes) (f : List ℕ) (fill : Instant)
    (behind : (vs : List Value) (g : Given) (now : Instant) → N.instant f vs g now ≡ M.instant f vs g now)
    (same : (vs : List Value) (past : Past) (free other now : Instant) → AgreeElsewhere free other → N.instant f vs (record { past = past; free = free }) now ≡ N.instant f vs (record { past = past; free = other }) now) where
  with_fill : (inputs : List (List Value)) (frees : List Instant) (past : Past) → AllAre (IsFill fill) frees → Reacts (M.instant f) inputs frees past → ReactionOf (N.instant f) inputs (given_each fill inputs) past
  with_fill [] [] [] ok h = tt
  with_fill [] [] (i ∷ past) ok h = absurd h
  with_fill [] (free ∷ frees) past ok h = absurd h
  with_fill (vs ∷ inputs) [] past ok h = absurd h
  with_fill (vs ∷ inputs) (free ∷ frees) [] ok h = absurd h
  with_fill (vs ∷ inputs) (free ∷ frees) (now ∷ past) ok h = (
    with_fill inputs frees past ok.1 h.0,
    λ p. h.1 p ∙ ap (λ (i : Instant). i p) (sym (behind vs (record { past = past; free = free }) now) ∙ same vs past free fill now ok.0),
  )

-- what a node answers on no inputs is not looked at
no_instants : (N : Nodes) (f : List ℕ) (frees : List Instant) (past : Past) (vs : List Value) → Reacts (N.instant f) [] frees past → OutputsAre (N.outputs f) past vs
no_instants N f [] [] vs h = tt
no_instants N f [] (i ∷ past) vs h = absurd h
no_instants N f (free ∷ frees) past vs h = absurd h

module _ (choices : Choices) (program : List Item) (fills : List ℕ → Place → Value) (answers : Answers) (ranked : IsRanked program) (answer_is : AnsweringUnder choices program fills answers) where
  -- each reaction has the outputs that are answered
  pub outputs_answered : (f : List ℕ) (args : List Value) (before : List (List Value)) (past : Past) → ReactionOf (chosen_meaning choices filled program f) (args ∷ before) (given_each (fills f) (args ∷ before)) past
      → OutputsAre ((chosen_filled choices program).outputs f) past (answers f args before)
  outputs_answered f args before past reaction =
      let a = answer_is f args before in
      let u = one choices program fills ranked f (args ∷ before) in
      same_outputs ((chosen_filled choices program).outputs f) past a.past (answers f args before) (same_pasts_trans past u.past a.past (u.only past reaction) (u.only a.past a.reaction)) a.outputs_are

  module _ (later earlier : List Item) (split : reverse program ≡ later ++ earlier) (f : List ℕ) (unnamed_later : IsFalse (has_node later f)) where
    abbrev before_it : Nodes
    before_it = chosen_nodes choices (types_of program) filled earlier

    pub outputs_here : (chosen_filled choices program).outputs f ≡ before_it.outputs f
    outputs_here = ap (λ (xs : List Item). (chosen_nodes choices (types_of program) filled xs).outputs f) split ∙ outputs_behind choices (types_of program) filled later earlier f unnamed_later

    pub instant_here : (vs : List Value) (g : Given) (now : Instant) → (chosen_filled choices program).instant f vs g now ≡ before_it.instant f vs g now
    instant_here vs g now =
        ap (λ (xs : List Item). (chosen_nodes choices (types_of program) filled xs).instant f vs g now) split ∙ instant_behind choices (types_of program) filled later earlier f unnamed_later vs g now

    answers_so : (inputs : List (List Value)) (frees : List Instant) (past : Past) → AllAre (IsFill (fills f)) frees → Reacts (before_it.instant f) inputs frees past → OutputsAre (before_it.outputs f) past (does_of answers f inputs)
    answers_so [] frees past ok h = no_instants before_it f frees past [] h
    answers_so (args ∷ before) frees past ok h =
        let whole = chosen_filled choices program in
        let reaction =
        with_fill whole before_it f (fills f) instant_here (λ vs past free other now u. chosen_same choices (types_of program) filled (reverse program) f vs past free other now u) (args ∷ before) frees past ok h in
        subst (λ (os : List (List ℕ)). OutputsAre os past (answers f args before)) outputs_here (outputs_answered f args before past reaction)

pub behave : BehaveLaw
behave choices program fills answers ranked answer_is later earlier split f there unnamed_later =
    ((λ vs g now. fresh choices (types_of program) filled earlier f there vs g now), answers_so choices program fills answers ranked answer_is later earlier split f unnamed_later)
