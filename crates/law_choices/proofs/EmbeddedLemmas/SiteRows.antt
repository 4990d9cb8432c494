-- What the observer of a node's own contract is given are the inputs and outputs of the node.
use Rattle.std.proofs.Common.{◌≡◌, ℕ, ◌+◌, List, [], ◌∷◌, ◌++◌, map, refl, sym, ap, ap₂, ◌∙◌}
use Rattle.std.specs.List.{AllByRecursion, range_with_len}
use Rattle.std.specs.Prelude.{⊤}
use Rattle.std.proofs.lemmas.List.{map-append}
use Rattle.hp_base.specs.Kinds.{AreOfKinds, KindData}
use Rattle.hp_base.specs.declared.value.Value.{Value}
use Rattle.hp_obc.specs.Steps.{Names}
use Rattle.hp_flat.specs.Nodes.{FlatNode}
use Rattle.hp_tree.specs.Blocks.{Decl}
use Rattle.hp_tree.specs.Instant.{Past}
use Rattle.law_equations.specs.Followed.Programs.{all_answers}
use Rattle.law_equations.specs.Meaning.Instants.{Instant, atom, atoms}
use Rattle.law_equations.specs.Meaning.Reactions.{Answers, outputs_at}
use Rattle.hp_watch.specs.Watching.{own_site, reads}
use Rattle.law_choices.specs.Choosing.Choices.{Choices, ReactionUnder}
use Rattle.law_choices.specs.Choosing.Meaning.{FitsAnswers}
use Rattle.law_choices.specs.Embedded.Observed.{observed_rows, outputs_of_instant}

-- ---- the outputs of clocked equations are what is answered

module _ (choices : Choices) (answers : Answers) (takes : Names (List KindData)) (g : FlatNode) (fits : FitsAnswers choices answers takes g)
    (only : (rows : List (List Value)) → AllByRecursion (AreOfKinds (takes g.name)) rows → (others js : List Instant) → ReactionUnder choices answers g rows others → ReactionUnder choices answers g rows js → others ≡ js) where
  pub outputs-answered : (rows : List (List Value)) (js : List Instant) → AllByRecursion (AreOfKinds (takes g.name)) rows → ReactionUnder choices answers g rows js → map (outputs_at g) js ≡ all_answers (answers g.name) rows
  outputs-answered [] [] kinds r = refl
  outputs-answered [] (j ∷ js) kinds r = absurd r
  outputs-answered (row ∷ rows) [] kinds r = absurd r
  outputs-answered (row ∷ rows) (j ∷ js) kinds r =
      let a = (fits row rows kinds.0 kinds.1).given in
      let same = only (row ∷ rows) kinds (a.now ∷ a.past) (j ∷ js) a.reaction r in
      let first : a.now ≡ j = cc in
      ap₂ (λ v vs. v ∷ vs) (ap (outputs_at g) (sym first) ∙ sym a.answer) (outputs-answered rows js kinds.1 r.0)

-- ---- the rows of the site

atoms-read : (i : Instant) (xs : List ℕ) → map (atom i) (reads xs) ≡ map i xs
atoms-read i [] = refl
atoms-read i (x ∷ xs) = ap (λ vs. i x ∷ vs) (atoms-read i xs)

pub site-atoms : (i : Instant) (inputs : ℕ) (n : FlatNode) → atoms i (own_site inputs n).inputs ≡ map i (range_with_len 0 inputs) ++ map i n.outputs
site-atoms i inputs n =
    map-append (atom i) (reads (range_with_len 0 inputs)) (reads n.outputs) ∙ ap₂ (λ xs ys. xs ++ ys) (atoms-read i (range_with_len 0 inputs)) (atoms-read i n.outputs)

-- Each instant has the inputs of its row.
abbrev pub HaveInputs : ℕ → List (List Value) → List Instant → Type 0
HaveInputs inputs [] [] = ⊤
HaveInputs inputs (row ∷ rows) (i ∷ instants) = HaveInputs inputs rows instants × (map i (range_with_len 0 inputs) ≡ row)
HaveInputs inputs rows instants = ⊥

pub site-rows : (inputs : ℕ) (n : FlatNode) (outputs : List Decl) (rows : List (List Value)) (past : Past) (instants : List Instant) → HaveInputs inputs rows instants → map (outputs_of_instant outputs) past ≡ map (λ i. map i n.outputs) instants
    → map (λ i. atoms i (own_site inputs n).inputs) instants ≡ observed_rows outputs rows past
site-rows inputs n outputs [] [] [] h e = refl
site-rows inputs n outputs [] (now ∷ past) [] h e = absurd cc
site-rows inputs n outputs [] past (i ∷ instants) h e = absurd h
site-rows inputs n outputs (row ∷ rows) past [] h e = absurd h
site-rows inputs n outputs (row ∷ rows) [] (i ∷ instants) h e = absurd cc
site-rows inputs n outputs (row ∷ rows) (now ∷ past) (i ∷ instants) h e =
    let first : outputs_of_instant outputs now ≡ map i n.outputs = cc in
    let behind : map (outputs_of_instant outputs) past ≡ map (λ k. map k n.outputs) instants = cc in
    ap₂ (λ v vs. v ∷ vs) (site-atoms i inputs n ∙ ap₂ (λ xs ys. xs ++ ys) h.1 (sym first)) (site-rows inputs n outputs rows past instants h.0 behind)
