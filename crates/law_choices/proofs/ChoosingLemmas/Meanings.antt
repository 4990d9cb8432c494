-- Nodes in turn answer with the chosen values, and no others answer so.
use Rattle.std.proofs.Common.{◌≡◌, ℕ, List, [], ◌∷◌, ◌++◌, refl, sym, ap, ap₂, subst, ◌∙◌}
use Rattle.std.specs.List.{AllByRecursion}
use Rattle.std.proofs.lemmas.List.{append-nil}
use Rattle.hp_base.specs.Kinds.{KindData, AreOfKinds}
use Rattle.hp_base.specs.declared.value.Value.{Value}
use Rattle.hp_obc.specs.Machines.{ObcType}
use Rattle.hp_obc.specs.Steps.{Names}
use Rattle.hp_flat.specs.Nodes.{FlatNode}
use Rattle.law_equations.specs.Meaning.Kinding as flows
use Rattle.law_equations.specs.Meaning.Kinding.{Callees, IsWellMade, OutputsOfKindsLaw}
use Rattle.law_equations.specs.Meaning.Reactions.{Answers, Reaction, inputs_of}
use Rattle.law_choices.specs.OnClocks.Meaning as plain
use Rattle.law_choices.specs.OnClocks.Meaning.{HasSome}
use Rattle.law_choices.proofs.OnClocksLemmas.Meanings.{TakesRows, GivesRows, FitsRows, RowsInTurn, kinds_some, rows_of_kinds, rows_meaning}
use Rattle.law_choices.proofs.ClosedLemmas.ClosedLaws.{each_other}
use Rattle.law_choices.specs.Choosing.Choices.{Choices, with_chosen, ChoicesOfKinds, IsSteered, OneReactionLaw}
use Rattle.law_choices.specs.Choosing.Meaning.{AreInTurn, GivesAnswers, FitsAnswers, MeaningLaw, UncontrolledLaw}

-- ---- lists

both_kinds : (ks js : List KindData) (vs ws : List Value) → AreOfKinds ks vs → AreOfKinds js ws → AreOfKinds (ks ++ js) (vs ++ ws)
both_kinds [] js [] ws h g = g
both_kinds [] js (v ∷ vs) ws h g = absurd h
both_kinds (k ∷ ks) js [] ws h g = absurd h
both_kinds (k ∷ ks) js (v ∷ vs) ws h g = (h.0, both_kinds ks js vs ws h.1 g)

first_some : (ks js : List KindData) → AllByRecursion HasSome (ks ++ js) → AllByRecursion HasSome ks
first_some [] js h = tt
first_some (k ∷ ks) js h = (h.0, first_some ks js h.1)

no_values : (vs : List Value) → AreOfKinds [] vs → vs ≡ []
no_values [] h = refl
no_values (v ∷ vs) h = absurd h

-- ---- what nodes take

-- what calls give a node, with what is chosen behind it
abbrev chosen_row : Choices → Answers
chosen_row choices f args earlier = args ++ choices f args earlier

module _ (types : List ObcType) (callees : Callees) (controls : Names (List KindData)) (choices : Choices) (fit : ChoicesOfKinds choices callees controls) where
  takes_chosen : (n : FlatNode) → IsWellMade types callees n → IsSteered types callees controls n → TakesRows types callees (chosen_row choices) n
  takes_chosen n well steered = record {
    rows = λ args earlier h g.
        subst (λ ks. AreOfKinds ks (args ++ choices n.name args earlier)) steered.takes (both_kinds (callees.takes n.name) (controls n.name) args (choices n.name args earlier) h (fit n.name args earlier h g));
    some = first_some (callees.takes n.name) (controls n.name) (subst (AllByRecursion HasSome) (sym steered.takes) (kinds_some types n (inputs_of n) well.values));
    gives = steered.gives;
  }

  in_rows : (earlier : List (List ℕ)) (ns : List FlatNode) → AreInTurn types callees controls earlier ns → RowsInTurn types callees (chosen_row choices) earlier ns
  in_rows earlier [] p = tt
  in_rows earlier (n ∷ ns) p = (p.0, takes_chosen n p.0 p.1, p.2, p.3, in_rows (n.name ∷ earlier) ns p.4)

pub one_reaction : flows.OneReactionLaw → OutputsOfKindsLaw → OneReactionLaw
one_reaction one outputs_law types callees controls choices answers n well steered fit typed inputs given =
    let rows = rows_of_kinds one outputs_law types callees (chosen_row choices) n (takes_chosen types callees controls choices fit n well steered) inputs given in
    let r = one types callees answers n well typed (with_chosen (choices n.name) inputs) rows in
    record { instants = r.instants; reaction = r.reaction; possible = r.possible; fit = r.fit; only = r.only }

-- ---- all nodes

module _ (choices : Choices) (answers : Answers) (takes : Names (List KindData)) where
  to_fits : (n : FlatNode) → FitsRows (chosen_row choices) answers takes n → FitsAnswers choices answers takes n
  to_fits n h args earlier k g =
      let r = h args earlier k g in
      let x = r.given in
      record { given = record { now = x.now; past = x.past; reaction = x.reaction; answer = x.answer }; fit = r.fit }

  of_gives : (n : FlatNode) → GivesAnswers choices answers takes n → GivesRows (chosen_row choices) answers takes n
  of_gives n h args earlier k g =
      let x = h args earlier k g in
      record { now = x.now; past = x.past; reaction = x.reaction; answer = x.answer }

pub meaning_law : flows.OneReactionLaw → OutputsOfKindsLaw → MeaningLaw
meaning_law one outputs_law types callees controls choices ns p fit some =
    let m = rows_meaning one outputs_law types callees (chosen_row choices) ns (in_rows types callees controls choices fit [] ns p) some in
    record {
      answers = m.answers;
      typed = m.typed;
      answered = each_other (FitsRows (chosen_row choices) m.answers callees.takes) (FitsAnswers choices m.answers callees.takes) (to_fits choices m.answers callees.takes) ns m.answered;
      only = λ others typed gives.
          m.only others typed (each_other (GivesAnswers choices others callees.takes) (GivesRows (chosen_row choices) others callees.takes) (of_gives choices others callees.takes) ns gives);
    }

-- ---- without controllable variables

module _ (callees : Callees) (choices : Choices) (fit : ChoicesOfKinds choices callees (λ f. [])) where
  nothing_chosen : (f : List ℕ) (inputs : List (List Value)) → AllByRecursion (AreOfKinds (callees.takes f)) inputs → with_chosen (choices f) inputs ≡ inputs
  nothing_chosen f [] h = refl
  nothing_chosen f (args ∷ earlier) h =
      let none = no_values (choices f args earlier) (fit f args earlier h.0 h.1) in
      ap₂ (λ (vs : List Value) rest. vs ∷ rest) (ap (λ vs. args ++ vs) none ∙ append-nil args) (nothing_chosen f earlier h.1)

  gives_plain : (answers : Answers) (n : FlatNode) → FitsAnswers choices answers callees.takes n → plain.GivesAnswers answers callees.takes n
  gives_plain answers n h args earlier k g =
      let x = (h args earlier k g).given in
      record { now = x.now; past = x.past; reaction = subst (λ z. Reaction answers n z (x.now ∷ x.past)) (nothing_chosen n.name (args ∷ earlier) (k, g)) x.reaction; answer = x.answer }

pub uncontrolled_law : UncontrolledLaw
uncontrolled_law callees choices ns fit one under =
    one.only under.answers under.typed (each_other (FitsAnswers choices under.answers callees.takes) (plain.GivesAnswers under.answers callees.takes) (gives_plain callees choices fit under.answers) ns under.answered)
