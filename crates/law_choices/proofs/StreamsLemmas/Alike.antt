-- What nodes in turn answer with the chosen values is of the kinds that they give, and so is what their one meaning answers; and their reactions are one.
use Rattle.std.proofs.Common.{◌≡◌, ℕ, Bool, true, false, ◌||◌, if◌then◌else◌, List, [], ◌∷◌, refl, sym, ap, subst, ◌∙◌}
use Rattle.std.specs.List.{AllByRecursion}
use Rattle.std.specs.Str.{bytes_eq}
use Rattle.std.proofs.lemmas.Slice.Eq.{bytes_eq-Decides}
use Rattle.hp_base.specs.Kinds.{KindData, AreOfKinds}
use Rattle.hp_base.specs.declared.value.Value.{Value}
use Rattle.hp_obc.specs.Form.{has_name}
use Rattle.hp_obc.specs.Machines.{ObcType}
use Rattle.hp_obc.specs.Steps.{Names}
use Rattle.hp_flat.specs.Equations.{Clock, Right, operator, register, called, FlatEqn}
use Rattle.hp_flat.specs.Nodes.{FlatNode}
use Rattle.law_equations.specs.Meaning.Fitting.{Fits}
use Rattle.law_equations.specs.Meaning.Instants.{Instant, atoms, since}
use Rattle.law_equations.specs.Meaning.Kinding.{Callees, IsWellMade, IsPossible, AnswersOfKinds, OutputsOfKindsLaw}
use Rattle.law_equations.specs.Meaning.Reactions.{Answers, right_gives, Holds, Reaction, outputs_at}
use Rattle.law_equations.specs.Followed.Programs.{CallsAmong, CallsOnly}
use Rattle.law_choices.proofs.ClosedLemmas.ClosedLaws.{each_both}
use Rattle.law_choices.specs.OnClocks.Meaning.{AnswersAlike}
use Rattle.law_choices.specs.Choosing.Choices.{Choices, ReactionUnder, ChoicesOfKinds, IsSteered, OneReactionLaw, with_chosen}
use Rattle.law_choices.specs.Choosing.Meaning.{AreInTurn, GivesAnswers, HasOneMeaningUnder}
use Rattle.law_choices.specs.Streams.Alike.{AlikeLaw}
use Rattle.law_choices.specs.Streams.Names.{IsOnlyReaction}
use Rattle.law_choices.proofs.OnClocksLemmas.Meanings.{reaction_alike}

-- ---- names

or_right : (a b : Bool) → b ≡ true → (a || b) ≡ true
or_right true b h = refl
or_right false b h = h

is_same : (x : List ℕ) → bytes_eq x x ≡ true
is_same x = (bytes_eq-Decides x x).1 refl

-- the names of some nodes, onto some names
abbrev onto : List (List ℕ) → List FlatNode → List (List ℕ)
onto names [] = names
onto names (n ∷ ns) = onto (n.name ∷ names) ns

onto_has : (names : List (List ℕ)) (ns : List FlatNode) (f : List ℕ) → has_name names f ≡ true → has_name (onto names ns) f ≡ true
onto_has names [] f h = h
onto_has names (n ∷ ns) f h = onto_has (n.name ∷ names) ns f (or_right (bytes_eq n.name f) (has_name names f) h)

onto_own : (names : List (List ℕ)) (n : FlatNode) (ns : List FlatNode) → has_name (onto (n.name ∷ names) ns) n.name ≡ true
onto_own names n ns = onto_has (n.name ∷ names) ns n.name (ap (λ b. b || has_name names n.name) (is_same n.name))

-- ---- reactions whose calls are answered alike

module _ (a b : Answers) (names : List (List ℕ)) (same : (f : List ℕ) → has_name names f ≡ true → (args : List Value) (before : List (List Value)) → a f args before ≡ b f args before) where
  right_same : (r : Right) (clock : Clock) (restart : List ℕ) (past : List Instant) (now : Instant) → CallsAmong names r → right_gives a clock restart past now r ≡ right_gives b clock restart past now r
  right_same (operator op args) clock restart past now h = refl
  right_same (register first next) clock restart past now h = refl
  right_same (called f args) clock restart past now h = same f h (atoms now args) (since clock restart (λ i. atoms i args) past now)

  reaction_same : (n : FlatNode) → CallsOnly names n.eqns → (inputs : List (List Value)) (instants : List Instant) → Reaction a n inputs instants → Reaction b n inputs instants
  reaction_same n calls [] [] r = tt
  reaction_same n calls [] (now ∷ past) r = absurd r
  reaction_same n calls (inputs ∷ earlier) [] r = absurd r
  reaction_same n calls (inputs ∷ earlier) (now ∷ past) r = (
    reaction_same n calls earlier past r.0,
    record {
      inputs_are = r.1.inputs_are;
      equations = each_both (λ (e : FlatEqn). CallsAmong names e.right) (Holds a past now) (Holds b past now) (λ e c h t. h t ∙ right_same e.right e.clock e.restart past now c) n.eqns calls r.1.equations;
      others = r.1.others;
    },
  )

-- ---- the kinds of what is answered

module _ (one_law : OneReactionLaw) (outputs_law : OutputsOfKindsLaw) (types : List ObcType) (callees : Callees) (controls : Names (List KindData)) (choices : Choices) (fit : ChoicesOfKinds choices callees controls) (base others : Answers) (typed : AnswersOfKinds base callees) where
  -- the nodes of these names answer as they do, and others as is known
  abbrev mixed : List (List ℕ) → Answers
  mixed names f args earlier = if has_name names f then others f args earlier else base f args earlier

  mixed_is : (names : List (List ℕ)) (f : List ℕ) → has_name names f ≡ true → (args : List Value) (earlier : List (List Value)) → others f args earlier ≡ mixed names f args earlier
  mixed_is names f h args earlier = sym (ap (λ (b : Bool). if b then others f args earlier else base f args earlier) h)

  own_typed : (names : List (List ℕ)) (n : FlatNode) → AnswersOfKinds (mixed names) callees → IsWellMade types callees n → IsSteered types callees controls n → CallsOnly names n.eqns → GivesAnswers choices others callees.takes n
      → (args : List Value) (earlier : List (List Value)) → AreOfKinds (callees.takes n.name) args → AllByRecursion (AreOfKinds (callees.takes n.name)) earlier → AreOfKinds (callees.gives n.name) (others n.name args earlier)
  own_typed names n known well steered calls gives args earlier h g =
      let y = gives args earlier h g in
      let r = one_law types callees controls choices (mixed names) n well steered fit known (args ∷ earlier) (h, g) in
      let reaction = reaction_same others (mixed names) names (mixed_is names) n calls (with_chosen (choices n.name) (args ∷ earlier)) (y.now ∷ y.past) y.reaction in
      let possible : AllByRecursion (IsPossible types n) (y.now ∷ y.past) = subst (AllByRecursion (IsPossible types n)) (sym (r.only (y.now ∷ y.past) reaction)) r.possible in
      subst (λ vs. AreOfKinds (callees.gives n.name) vs) (sym y.answer) (subst (λ ks. AreOfKinds ks (outputs_at n y.now)) (sym steered.gives) (outputs_law types callees n well y.now possible.0))

  next_typed : (names : List (List ℕ)) (n : FlatNode) → AnswersOfKinds (mixed names) callees
      → ((args : List Value) (earlier : List (List Value)) → AreOfKinds (callees.takes n.name) args → AllByRecursion (AreOfKinds (callees.takes n.name)) earlier → AreOfKinds (callees.gives n.name) (others n.name args earlier))
      → AnswersOfKinds (mixed (n.name ∷ names)) callees
  next_typed names n known own f args earlier h g = by (bytes_eq n.name f) refl
    where
      by : (d : Bool) → bytes_eq n.name f ≡ d → AreOfKinds (callees.gives f) (if d || has_name names f then others f args earlier else base f args earlier)
      by true e =
          let same : n.name ≡ f = (bytes_eq-Decides n.name f).0 e in
          subst (λ z. AreOfKinds (callees.gives z) (others z args earlier)) same (own args earlier (subst (λ z. AreOfKinds (callees.takes z) args) (sym same) h) (subst (λ z. AllByRecursion (AreOfKinds (callees.takes z)) earlier) (sym same) g))
      by false e = known f args earlier h g

  all_typed : (names : List (List ℕ)) (ns : List FlatNode) → AnswersOfKinds (mixed names) callees → AreInTurn types callees controls names ns → AllByRecursion (GivesAnswers choices others callees.takes) ns → AnswersOfKinds (mixed (onto names ns)) callees
  all_typed names [] known p gives = known
  all_typed names (n ∷ ns) known p gives = all_typed (n.name ∷ names) ns (next_typed names n known (own_typed names n known p.0 p.1 p.3 gives.0)) p.4 gives.1

  -- ---- so they are answers of the one meaning

  module _ (all : List (List ℕ)) where
    mixed_gives : (names : List (List ℕ)) (ns : List FlatNode) → ((f : List ℕ) → has_name (onto names ns) f ≡ true → has_name all f ≡ true) → AreInTurn types callees controls names ns
        → AllByRecursion (GivesAnswers choices others callees.takes) ns → AllByRecursion (GivesAnswers choices (mixed all) callees.takes) ns
    mixed_gives names [] stay p gives = tt
    mixed_gives names (n ∷ ns) stay p gives = (
      λ args earlier h g.
          let y = gives.0 args earlier h g in
          let known = λ (f : List ℕ) (i : has_name names f ≡ true). mixed_is all f (stay f (onto_has (n.name ∷ names) ns f (or_right (bytes_eq n.name f) (has_name names f) i))) in
          record {
            now = y.now;
            past = y.past;
            reaction = reaction_same others (mixed all) names known n p.3 (with_chosen (choices n.name) (args ∷ earlier)) (y.now ∷ y.past) y.reaction;
            answer = sym (mixed_is all n.name (stay n.name (onto_own names n ns)) args earlier) ∙ y.answer;
          },
      mixed_gives (n.name ∷ names) ns stay p.4 gives.1,
    )

    others_alike : (names : List (List ℕ)) (ns : List FlatNode) → ((f : List ℕ) → has_name (onto names ns) f ≡ true → has_name all f ≡ true) → AllByRecursion (λ (n : FlatNode). AnswersAlike base (mixed all) callees.takes n.name) ns
        → AllByRecursion (λ (n : FlatNode). AnswersAlike base others callees.takes n.name) ns
    others_alike names [] stay alike = tt
    others_alike names (n ∷ ns) stay alike = (λ args earlier h g. mixed_is all n.name (stay n.name (onto_own names n ns)) args earlier ∙ alike.0 args earlier h g, others_alike (n.name ∷ names) ns stay alike.1)

  -- ---- and their reactions are those of the one meaning

  -- the instants of a reaction over inputs of the kinds are the one reaction over other answers
  abbrev OnlyReactions : FlatNode → Type 0
  OnlyReactions n = (inputs : List (List Value)) → AllByRecursion (AreOfKinds (callees.takes n.name)) inputs → (instants : List Instant) → ReactionUnder choices others n inputs instants → IsOnlyReaction choices base n inputs instants

  module _ (all : List (List ℕ)) (all_are : AnswersOfKinds (mixed all) callees) where
    one_only : (names : List (List ℕ)) (n : FlatNode) → ((f : List ℕ) → has_name names f ≡ true → has_name all f ≡ true) → IsWellMade types callees n → IsSteered types callees controls n → CallsOnly names n.eqns
        → ((f : List ℕ) → has_name names f ≡ true → AnswersAlike base (mixed all) callees.takes f) → OnlyReactions n
    one_only names n stay well steered calls alike inputs kinds instants r =
        let rows = with_chosen (choices n.name) inputs in
        let as_mixed : Reaction (mixed all) n rows instants = reaction_same others (mixed all) names (λ f h. mixed_is all f (stay f h)) n calls rows instants r in
        let m = one_law types callees controls choices (mixed all) n well steered fit all_are inputs kinds in
        let b = one_law types callees controls choices base n well steered fit typed inputs kinds in
        let fits : AllByRecursion (Fits callees.takes n) instants = subst (AllByRecursion (Fits callees.takes n)) (sym (m.only instants as_mixed)) m.fit in
        let as_base = reaction_alike base (mixed all) callees.takes names alike n calls rows instants fits as_mixed in
        record { reaction = as_base; only = λ xs h. b.only xs h ∙ sym (b.only instants as_base) }

    all_only : (names : List (List ℕ)) (ns : List FlatNode) → ((f : List ℕ) → has_name (onto names ns) f ≡ true → has_name all f ≡ true) → AreInTurn types callees controls names ns
        → ((f : List ℕ) → has_name names f ≡ true → AnswersAlike base (mixed all) callees.takes f) → AllByRecursion (λ (n : FlatNode). AnswersAlike base (mixed all) callees.takes n.name) ns → AllByRecursion OnlyReactions ns
    all_only names [] stay p alike here = tt
    all_only names (n ∷ ns) stay p alike here = (
      one_only names n (λ f h. stay f (onto_has (n.name ∷ names) ns f (or_right (bytes_eq n.name f) (has_name names f) h))) p.0 p.1 p.3 alike,
      all_only (n.name ∷ names) ns stay p.4 (λ f h. by f here.0 (bytes_eq n.name f) refl h) here.1,
    )
      where
        by : (f : List ℕ) → AnswersAlike base (mixed all) callees.takes n.name → (d : Bool) → bytes_eq n.name f ≡ d → (d || has_name names f) ≡ true → AnswersAlike base (mixed all) callees.takes f
        by f own true e h = subst (λ z. AnswersAlike base (mixed all) callees.takes z) ((bytes_eq-Decides n.name f).0 e) own
        by f own false e h = alike f h

pub alike_law : OneReactionLaw → OutputsOfKindsLaw → AlikeLaw
alike_law one_law outputs_law types callees controls choices ns p fit one others gives =
    let all = onto [] ns in
    let base = one.answers in
    let typed = all_typed one_law outputs_law types callees controls choices fit base others one.typed [] ns (λ f args earlier h g. one.typed f args earlier h g) p gives in
    others_alike one_law outputs_law types callees controls choices fit base others one.typed all [] ns (λ f h. h)
    (one.only (λ f args earlier. if has_name all f then others f args earlier else base f args earlier) typed
    (mixed_gives one_law outputs_law types callees controls choices fit base others one.typed all [] ns (λ f h. h) p gives))

-- Nodes in turn that answer have the reactions of the one meaning.
pub only_law : OneReactionLaw → OutputsOfKindsLaw → (types : List ObcType) (callees : Callees) (controls : Names (List KindData)) (choices : Choices) (ns : List FlatNode) → AreInTurn types callees controls [] ns → ChoicesOfKinds choices callees controls
    → (one : HasOneMeaningUnder choices callees ns) (others : Answers) → AllByRecursion (GivesAnswers choices others callees.takes) ns
    → AllByRecursion (λ (n : FlatNode). (inputs : List (List Value)) → AllByRecursion (AreOfKinds (callees.takes n.name)) inputs → (instants : List Instant) → ReactionUnder choices others n inputs instants → IsOnlyReaction choices one.answers n inputs instants) ns
only_law one_law outputs_law types callees controls choices ns p fit one others gives =
    let all = onto [] ns in
    let base = one.answers in
    let typed = all_typed one_law outputs_law types callees controls choices fit base others one.typed [] ns (λ f args earlier h g. one.typed f args earlier h g) p gives in
    let alike =
    one.only (λ f args earlier. if has_name all f then others f args earlier else base f args earlier) typed
    (mixed_gives one_law outputs_law types callees controls choices fit base others one.typed all [] ns (λ f h. h) p gives) in
    all_only one_law outputs_law types callees controls choices fit base others one.typed all typed [] ns (λ f h. h) p (λ f h. absurd (cc)) alike
