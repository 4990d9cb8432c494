-- The nodes of a program answer, and behave so where they are called.
use Rattle.std.proofs.Common.{◌≡◌, ℕ, List, [], ◌∷◌, ◌++◌, length, map, refl, sym, ap, ap₂, subst, ◌∙◌, arith}
use Rattle.std.specs.Prelude.{Bool, true, false, ◌||◌, IsTrue, IsFalse, if◌then◌else◌, reverse}
use Rattle.std.specs.Str.{bytes_eq}
use Rattle.hp_base.specs.declared.value.Value.{Value}
use Rattle.hp_base.specs.declared.value.Value.TheVariants.{B}
use Rattle.hp_tree.specs.declared.program.Item.{Item}
use Rattle.hp_tree.specs.declared.program.Item.TheVariants.{TypeItem, NodeItem}
use Rattle.hp_tree.specs.Programs.{TypeDecl}
use Rattle.hp_tree.specs.Operators.{Reading, filled}
use Rattle.hp_tree.specs.Instant.{Named, Fresh, Place, Instant, Past, Given}
use Rattle.hp_tree.specs.Meaning.{Nodes, types_of, node, nodes, meaning}
use Rattle.hp_meaning.specs.Causal.Causality.{IsRanked}
use Rattle.hp_meaning.specs.Causal.OneReaction.{ReactionOf, SamePasts, OneReactionOf}
use Rattle.hp_meaning.specs.Causal.Runs.{NoControls}
use Rattle.hp_meaning.proofs.CausalLemmas.Run.{none_reverse}
use Rattle.hp_meaning.proofs.CausalLemmas.Unique.{one_reaction_read}
use Rattle.law_equations.specs.Meaning.Reactions.{Answers}
use Rattle.law_equations.specs.Flattened.Numbered.{does_of}
use Rattle.law_equations.specs.Flattened.Lifted.{Reacts, IsFill}
use Rattle.law_equations.specs.Flattened.Behaves.{OutputsAre, AllAre}
use Rattle.law_equations.specs.Answered.Answering.{given_each, filled_nodes, Answering, has_node}
use Rattle.law_equations.specs.Answered.Laws.{SomeAnswersLaw, BehaveLaw}
use Rattle.law_equations.proofs.AnsweredLemmas.GivenLaws.{AgreeElsewhere, Uncontrolled, instant_same}

pub as_many : (fill : Instant) (inputs : List (List Value)) → length (given_each fill inputs) ≡ length inputs
as_many fill [] = refl
as_many fill (vs ∷ inputs) = let h = as_many fill inputs in omega (arith, h)

-- ---- answers

outputs_of_past : List (List ℕ) → Past → List Value
outputs_of_past os [] = []
outputs_of_past os (now ∷ past) = map (λ o. now (Named o ∷ [])) os

outputs_are : (os : List (List ℕ)) (past : Past) → OutputsAre os past (outputs_of_past os past)
unfolding outputs_of_past
outputs_are os [] = tt
outputs_are os (now ∷ past) = refl

module _ (program : List Item) (fills : List ℕ → Place → Value) (ranked : IsRanked program) where
  one : (f : List ℕ) (inputs : List (List Value)) → OneReactionOf (ReactionOf (meaning filled program f) inputs (given_each (fills f) inputs))
  one f inputs = one_reaction_read filled program f inputs (given_each (fills f) inputs) ranked (as_many (fills f) inputs)

  answer : Answers
  answer f args earlier = outputs_of_past ((filled_nodes program).outputs f) (one f (args ∷ earlier)).past

  answering : Answering program fills answer
  unfolding answer
  answering f args earlier = record { past = (one f (args ∷ earlier)).past; reaction = (one f (args ∷ earlier)).is_one; outputs_are = outputs_are ((filled_nodes program).outputs f) (one f (args ∷ earlier)).past }

pub some_answers : SomeAnswersLaw
some_answers program fills ranked = (answer program fills ranked, answering program fills ranked)

-- ---- of nodes among some items

pub unnamed : {A : Type 0} (c d : Bool) (x y : A) → IsFalse (c || d) → (if c then x else y) ≡ y
unnamed true d x y h = absurd (cc)
unnamed false d x y h = refl

pub others_unnamed : (c d : Bool) → IsFalse (c || d) → IsFalse d
others_unnamed true d h = absurd (cc)
others_unnamed false d h = h

module _ (types : List TypeDecl) (R : Reading) where
  instant_behind : (later earlier : List Item) (f : List ℕ) → IsFalse (has_node later f) → (vs : List Value) (g : Given) (now : Instant) → (nodes types R (later ++ earlier)).instant f vs g now ≡ (nodes types R earlier).instant f vs g now
  instant_behind [] earlier f none vs g now = refl
  instant_behind (TypeItem t ∷ later) earlier f none vs g now = instant_behind later earlier f none vs g now
  instant_behind (NodeItem n ∷ later) earlier f none vs g now =
      unnamed (bytes_eq n.name f) (has_node later f) _ ((nodes types R (later ++ earlier)).instant f vs g now) none
      ∙ instant_behind later earlier f (others_unnamed (bytes_eq n.name f) (has_node later f) none) vs g now

  pub outputs_behind : (later earlier : List Item) (f : List ℕ) → IsFalse (has_node later f) → (nodes types R (later ++ earlier)).outputs f ≡ (nodes types R earlier).outputs f
  outputs_behind [] earlier f none = refl
  outputs_behind (TypeItem t ∷ later) earlier f none = outputs_behind later earlier f none
  outputs_behind (NodeItem n ∷ later) earlier f none =
      unnamed (bytes_eq n.name f) (has_node later f) _ ((nodes types R (later ++ earlier)).outputs f) none
      ∙ outputs_behind later earlier f (others_unnamed (bytes_eq n.name f) (has_node later f) none)

  -- a node never begins anew by itself
  fresh_either : (c d : Bool) (v : Value) → IsTrue (c || d) → (IsTrue d → v ≡ B false) → (if c then B false else v) ≡ B false
  fresh_either true d v h k = refl
  fresh_either false d v h k = k h

  fresh : (items : List Item) (f : List ℕ) → IsTrue (has_node items f) → (vs : List Value) (g : Given) (now : Instant) → (nodes types R items).instant f vs g now (Fresh ∷ []) ≡ B false
  fresh [] f there vs g now = absurd (cc)
  fresh (TypeItem t ∷ items) f there vs g now = fresh items f there vs g now
  fresh (NodeItem n ∷ items) f there vs g now =
      at_fresh (bytes_eq n.name f) (node types R (nodes types R items) n vs g now) ((nodes types R items).instant f vs g now)
      ∙ fresh_either (bytes_eq n.name f) (has_node items f) ((nodes types R items).instant f vs g now (Fresh ∷ [])) there (λ t. fresh items f t vs g now)
    where
      at_fresh : (c : Bool) (i j : Instant) → (if c then i else j) (Fresh ∷ []) ≡ (if c then i (Fresh ∷ []) else j (Fresh ∷ []))
      at_fresh true i j = refl
      at_fresh false i j = refl

-- ---- they behave

none_controlled : (items : List Item) → NoControls items → Uncontrolled items
none_controlled [] none = tt
none_controlled (TypeItem t ∷ items) none = none_controlled items none
none_controlled (NodeItem n ∷ items) none = (none.0, none_controlled items none.1)

same_outputs : (os : List (List ℕ)) (past other : Past) (vs : List Value) → SamePasts past other → OutputsAre os other vs → OutputsAre os past vs
same_outputs os [] [] vs same are = tt
same_outputs os [] (j ∷ other) vs same are = absurd same
same_outputs os (i ∷ past) [] vs same are = absurd same
same_outputs os (i ∷ past) (j ∷ other) vs same are = map_same os ∙ are
  where
    map_same : (os : List (List ℕ)) → map (λ o. i (Named o ∷ [])) os ≡ map (λ o. j (Named o ∷ [])) os
    map_same [] = refl
    map_same (o ∷ os) = ap₂ (λ (v : Value) (vs : List Value). v ∷ vs) (same.0 (Named o ∷ [])) (map_same os)

same_pasts_trans : (past other third : Past) → SamePasts past other → SamePasts third other → SamePasts past third
same_pasts_trans [] [] [] h k = tt
same_pasts_trans [] [] (z ∷ third) h k = absurd k
same_pasts_trans [] (j ∷ other) third h k = absurd h
same_pasts_trans (i ∷ past) [] third h k = absurd h
same_pasts_trans (i ∷ past) (j ∷ other) [] h k = absurd k
same_pasts_trans (i ∷ past) (j ∷ other) (z ∷ third) h k = ((λ p. h.0 p ∙ sym (k.0 p)), same_pasts_trans past other third h.1 k.1)

-- a reaction with some given values is one with the fixed ones
module _ (types : List TypeDecl) (items earlier : List Item) (f : List ℕ) (fill : Instant)
    (behind : (vs : List Value) (g : Given) (now : Instant) → (nodes types filled items).instant f vs g now ≡ (nodes types filled earlier).instant f vs g now)
    (same : (vs : List Value) (past : Past) (free other now : Instant) → AgreeElsewhere free other → (nodes types filled items).instant f vs (record { past = past; free = free }) now ≡ (nodes types filled items).instant f vs (record { past = past; free = other }) now) where
  with_fill : (inputs : List (List Value)) (frees : List Instant) (past : Past) → AllAre (IsFill fill) frees → Reacts ((nodes types filled earlier).instant f) inputs frees past → ReactionOf ((nodes types filled items).instant f) inputs (given_each fill inputs) past
  with_fill [] [] [] ok h = tt
  with_fill [] [] (i ∷ past) ok h = absurd h
  with_fill [] (free ∷ frees) past ok h = absurd h
  with_fill (vs ∷ inputs) [] past ok h = absurd h
  with_fill (vs ∷ inputs) (free ∷ frees) [] ok h = absurd h
  with_fill (vs ∷ inputs) (free ∷ frees) (now ∷ past) ok h = (
    with_fill inputs frees past ok.1 h.0,
    λ p. h.1 p ∙ ap (λ (i : Instant). i p) (sym (behind vs (record { past = past; free = free }) now) ∙ same vs past free fill now ok.0),
  )

-- what a node answers on no inputs is not looked at
no_instants : (N : Nodes) (f : List ℕ) (frees : List Instant) (past : Past) (vs : List Value) → Reacts (N.instant f) [] frees past → OutputsAre (N.outputs f) past vs
no_instants N f [] [] vs h = tt
no_instants N f [] (i ∷ past) vs h = absurd h
no_instants N f (free ∷ frees) past vs h = absurd h

module _ (program : List Item) (fills : List ℕ → Place → Value) (answers : Answers) (ranked : IsRanked program) (none : NoControls program) (answer : Answering program fills answers) where
  -- each reaction has the outputs that are answered
  pub outputs_answered : (f : List ℕ) (args : List Value) (before : List (List Value)) (past : Past) → ReactionOf (meaning filled program f) (args ∷ before) (given_each (fills f) (args ∷ before)) past
      → OutputsAre ((filled_nodes program).outputs f) past (answers f args before)
  outputs_answered f args before past reaction =
      let a = answer f args before in
      let one = one_reaction_read filled program f (args ∷ before) (given_each (fills f) (args ∷ before)) ranked (as_many (fills f) (args ∷ before)) in
      same_outputs ((filled_nodes program).outputs f) past a.past (answers f args before) (same_pasts_trans past one.past a.past (one.only past reaction) (one.only a.past a.reaction)) a.outputs_are

  module _ (later earlier : List Item) (split : reverse program ≡ later ++ earlier) (f : List ℕ) (unnamed_later : IsFalse (has_node later f)) where
    pub outputs_here : (filled_nodes program).outputs f ≡ (nodes (types_of program) filled earlier).outputs f
    outputs_here = ap (λ (xs : List Item). (nodes (types_of program) filled xs).outputs f) split ∙ outputs_behind (types_of program) filled later earlier f unnamed_later

    pub instant_here : (vs : List Value) (g : Given) (now : Instant) → (filled_nodes program).instant f vs g now ≡ (nodes (types_of program) filled earlier).instant f vs g now
    instant_here vs g now = ap (λ (xs : List Item). (nodes (types_of program) filled xs).instant f vs g now) split ∙ instant_behind (types_of program) filled later earlier f unnamed_later vs g now

    answers_so : (inputs : List (List Value)) (frees : List Instant) (past : Past) → AllAre (IsFill (fills f)) frees → Reacts ((nodes (types_of program) filled earlier).instant f) inputs frees past
        → OutputsAre ((nodes (types_of program) filled earlier).outputs f) past (does_of answers f inputs)
    answers_so [] frees past ok h = no_instants (nodes (types_of program) filled earlier) f frees past [] h
    answers_so (args ∷ before) frees past ok h =
        let types = types_of program in
        let items = reverse program in
        let same = λ (vs : List Value) (past : Past) (free other now : Instant) (u : AgreeElsewhere free other). instant_same types filled items (none_controlled items (none_reverse program none)) f vs past free other now u in
        let reaction = with_fill types items earlier f (fills f) instant_here same (args ∷ before) frees past ok h in
        subst (λ (os : List (List ℕ)). OutputsAre os past (answers f args before)) outputs_here (outputs_answered f args before past reaction)

pub behave : BehaveLaw
behave program fills answers ranked none answer later earlier split f there unnamed_later =
    ((λ vs g now. fresh (types_of program) filled earlier f there vs g now), answers_so program fills answers ranked none answer later earlier split f unnamed_later)
