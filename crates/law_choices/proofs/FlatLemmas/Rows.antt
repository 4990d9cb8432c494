-- The inputs of a node that chooses, and the values that it chooses, in a row.
use Rattle.std.proofs.Common.{◌≡◌, ℕ, suc, List, [], ◌∷◌, ◌++◌, length, map, refl, ap, ap₂, ◌∙◌}
use Rattle.std.specs.Prelude.{Bool, true, false, ◌||◌, if◌then◌else◌}
use Rattle.std.specs.List.{AllByRecursion}
use Rattle.std.specs.Str.{bytes_eq}
use Rattle.std.proofs.lemmas.List.{map-append}
use Rattle.hp_base.specs.declared.value.Value.{Value}
use Rattle.hp_base.specs.declared.value.Value.TheVariants.{Absent}
use Rattle.hp_tree.specs.Blocks.{Decl}
use Rattle.hp_tree.specs.Programs.{TypeDecl, Node}
use Rattle.hp_tree.specs.Values.{AreOf}
use Rattle.hp_tree.specs.Instant.{Controls, Head, Tail, Place, Instant, Past, part, alone, in_row}
use Rattle.hp_tree.specs.Meaning.{Names, declares, input_of, names_of, controls_of}
use Rattle.hp_tree.specs.Reaction.{row_of}
use Rattle.hp_meaning.specs.Causal.Steering.{steered_by}
use Rattle.law_equations.specs.Flattened.Flat.{Now}
use Rattle.law_equations.specs.Flattened.Flatten.{FlatName}
use Rattle.law_equations.specs.Flattened.Lifted.{IsFill, AllFilled, GivesInputs, inputs_of, given_to}
use Rattle.law_equations.specs.Flattened.Numbered.{GivesValues}
use Rattle.law_equations.specs.Made.Blocks.{DeclaredOnce}
use Rattle.law_equations.proofs.AnsweredLemmas.NodeAnswerLaws.{inputs_read, reads_same}
use Rattle.law_choices.specs.Choosing.Choices.{Choice}
use Rattle.law_choices.specs.Runs.Chosen.{inputs_at}
use Rattle.law_choices.specs.Flat.Answering.{ControlsDiffer}

-- ---- rows

pub same_row : (ds : List Decl) (i j : Instant) → ((p : Place) → i p ≡ j p) → row_of ds i ≡ row_of ds j
same_row [] i j h = refl
same_row (d ∷ ds) i j h = ap₂ (λ (v : Value) vs. v ∷ vs) (h (Head ∷ [])) (same_row ds (part Tail i) (part Tail j) (λ p. h (Tail ∷ p)))

pub row_read : (ds : List Decl) (vs : List Value) → length vs ≡ length ds → row_of ds (in_row (map alone vs)) ≡ vs
row_read [] [] e = refl
row_read [] (v ∷ vs) e = absurd (cc)
row_read (d ∷ ds) [] e = absurd (cc)
row_read (d ∷ ds) (v ∷ vs) e = let rest : length vs ≡ length ds = cc in ap (λ ws. v ∷ ws) (row_read ds vs rest)

given_read : (ds : List Decl) (vs : List Value) → length vs ≡ length ds → given_to ds (in_row (map alone vs)) ≡ vs
given_read [] [] e = refl
given_read [] (v ∷ vs) e = absurd (cc)
given_read (d ∷ ds) [] e = absurd (cc)
given_read (d ∷ ds) (v ∷ vs) e = let rest : length vs ≡ length ds = cc in ap (λ ws. v ∷ ws) (given_read ds vs rest)

pub are_long : (types : List TypeDecl) (ds : List Decl) (vs : List Value) → AreOf types ds vs → length vs ≡ length ds
are_long types [] [] h = refl
are_long types [] (v ∷ vs) h = absurd h
are_long types (d ∷ ds) [] h = absurd h
are_long types (d ∷ ds) (v ∷ vs) h = ap suc (are_long types ds vs h.1)

-- ---- what an instance is given

-- what each instant is given, where an instance has these inputs, and nothing but its choices besides the fixed values
abbrev pub steered_each : Choice → Node → Instant → List (List Value) → Past → List Instant
steered_each choice n fill [] past = []
steered_each choice n fill (vs ∷ inputs) [] = []
steered_each choice n fill (vs ∷ inputs) (now ∷ past) = steered_by fill (in_row (map alone (choice vs (map (inputs_at n) past)))) ∷ steered_each choice n fill inputs past

steered_is_fill : (fill row : Instant) → IsFill fill (steered_by fill row)
steered_is_fill fill row (Controls ∷ p) h = absurd (cc)
steered_is_fill fill row p h = refl

pub all_filled : (choice : Choice) (n : Node) (fill : Instant) (inputs : List (List Value)) (past : Past) → AllFilled fill (steered_each choice n fill inputs past)
all_filled choice n fill [] past = tt
all_filled choice n fill (vs ∷ inputs) [] = tt
all_filled choice n fill (vs ∷ inputs) (now ∷ past) = (steered_is_fill fill (in_row (map alone (choice vs (map (inputs_at n) past)))), all_filled choice n fill inputs past)

-- ---- the names of inputs and of controllable variables

not_declared : (cs : List Decl) (ws : List Value) (out : Names) (x : List ℕ) → declares cs x ≡ false → input_of cs ws out x ≡ out x
not_declared [] ws out x e = refl
not_declared (c ∷ cs) [] out x e = refl
not_declared (c ∷ cs) (w ∷ ws) out x e = by (bytes_eq c.name x) (declares cs x) e (not_declared cs ws out x)
  where
    by : (b d : Bool) → (b || d) ≡ false → (d ≡ false → input_of cs ws out x ≡ out x) → (if b then w else input_of cs ws out x) ≡ out x
    by true d e h = absurd (cc)
    by false d e h = h e

past_controls : (cs ds : List Decl) (ws : List Value) (out : Names) → AllByRecursion (λ (d : Decl). declares cs d.name ≡ false) ds → map (input_of cs ws out) (names_of ds) ≡ map out (names_of ds)
past_controls cs [] ws out h = refl
past_controls cs (d ∷ ds) ws out h = ap₂ (λ (v : Value) vs. v ∷ vs) (not_declared cs ws out d.name h.0) (past_controls cs ds ws out h.1)

-- The inputs of flat names are the inputs of the node, with what it is given for its controllable variables behind them.
pub values_given : (n : Node) → DeclaredOnce n.inputs → DeclaredOnce (controls_of n.contract) → ControlsDiffer n → (vs ws : List Value) (fill : Instant) (i : Now FlatName) → length vs ≡ length n.inputs → length ws ≡ length (controls_of n.contract)
    → GivesInputs (inputs_of n vs (steered_by fill (in_row (map alone ws)))) i → GivesValues (names_of n.inputs ++ names_of (controls_of n.contract)) (vs ++ ws) i
values_given n once controls_once differ vs ws fill i long many h =
    let cs = controls_of n.contract in
    let zs = given_to cs (in_row (map alone ws)) in
    let read : zs ≡ ws = given_read cs ws many in
    let outer : Names = input_of n.inputs vs (λ x. Absent) in
    reads_same (names_of n.inputs ++ names_of cs) i (input_of cs zs outer) h
    ∙ map-append (input_of cs zs outer) (names_of n.inputs) (names_of cs)
    ∙ ap₂ (λ (a b : List Value). a ++ b)
    (past_controls cs n.inputs zs outer differ ∙ inputs_read n.inputs vs (λ x. Absent) once long)
    (inputs_read cs zs outer controls_once (ap (λ (us : List Value). length us) read ∙ many) ∙ read)
