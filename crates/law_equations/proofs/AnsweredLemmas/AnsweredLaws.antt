-- A node answers as its clocked equations do.
use Rattle.std.proofs.Common.{◌≡◌, ℕ, List, [], ◌∷◌, length, map, reverse, refl, sym, ap, ap₂, subst, ◌∙◌, arith}
use Rattle.std.specs.Prelude.{IsTrue}
use Rattle.std.specs.List.{AllByRecursion}
use Rattle.hp_base.specs.Kinds.{KindData, Bools, Ints, Constructors, IsOfKind, AreOfKinds}
use Rattle.hp_base.specs.declared.value.Value.{Value}
use Rattle.hp_base.specs.declared.value.Value.TheVariants.{Absent, Nil, B, E, I, Star}
use Rattle.hp_obc.specs.Steps.{Names}
use Rattle.hp_tree.specs.declared.program.Item.{Item}
use Rattle.hp_tree.specs.Programs.{Node}
use Rattle.hp_tree.specs.Operators.{Reading, real, filled}
use Rattle.hp_tree.specs.Reaction.{Each}
use Rattle.hp_tree.specs.Instant.{Named, Controls, Place, Instant, Past, part}
use Rattle.hp_tree.specs.Meaning.{types_of, input_of, controls_of, names_of, nodes, meaning}
use Rattle.hp_tree.specs.declared.program.Item.TheVariants.{TypeItem, NodeItem}
use Rattle.hp_tree.specs.Programs.{TypeDecl}
use Rattle.std.specs.Str.{bytes_eq}
use Rattle.std.specs.Prelude.{if◌then◌else◌}
use Rattle.hp_meaning.specs.Causal.Causality.{IsRanked}
use Rattle.hp_meaning.specs.Causal.OneReaction.{ReactionOf}
use Rattle.hp_meaning.specs.Causal.Runs.{NoControls}
use Rattle.hp_meaning.proofs.CausalLemmas.Run.{none_reverse}
use Rattle.hp_flat.specs.Nodes.{FlatNode}
use Rattle.law_equations.specs.Meaning.Instants.{Instant as Flow}
use Rattle.law_equations.specs.Meaning.Reactions.{Answers}
use Rattle.law_equations.specs.Meaning.Fitting.{is_there, Fits}
use Rattle.law_equations.specs.Flattened.Flat.{Flat, Now}
use Rattle.law_equations.specs.Flattened.Flatten.{FlatName, Input, flatten}
use Rattle.law_equations.specs.Flattened.Timely.{Along}
use Rattle.law_equations.specs.Flattened.Lifted.{inputs_of, lifted, lifts}
use Rattle.law_equations.specs.Flattened.Numbered.{IsTolds, numbered}
use Rattle.law_equations.specs.Made.Laws.{body_name}
use Rattle.law_equations.specs.Followed.Programs.{IsAnswered}
use Rattle.law_equations.specs.Answered.Answering.{given_each, filled_nodes, Answering, AreApart}
use Rattle.law_equations.specs.Answered.Fitting.{FlatFits}
use Rattle.law_equations.specs.Answered.Short.{IsShort, AreShort, InstantShort, AllTakenIfShort}
use Rattle.law_equations.specs.Answered.Laws.{IsFlat, IsFitting, AllFitting, IsEquipped, AnsweredLaw, AllAnswersLaw}
use Rattle.law_equations.proofs.AnsweredLemmas.AnswerLaws.{outputs_answered}
use Rattle.law_equations.proofs.AnsweredLemmas.NodeAnswerLaws.{node_answers, uncontrolled_at, reads_same, no_controls, inputs_read}
use Rattle.law_equations.proofs.AnsweredLemmas.ShortLaws.{short_law}
use Rattle.law_equations.proofs.AnsweredLemmas.FitLaws.{names_there, fits_law, taken_law}

-- ---- values of kinds are there

kind_there : (k : KindData) (v : Value) → IsOfKind k v → IsTrue (is_there v)
kind_there Bools Absent h = absurd h
kind_there Ints Absent h = absurd h
kind_there (Constructors t cons) Absent h = absurd h
kind_there k v h = refl

kinds_there : (ks : List KindData) (vs : List Value) → AreOfKinds ks vs → AllByRecursion (λ v. IsTrue (is_there v)) vs
kinds_there [] [] h = tt
kinds_there [] (v ∷ vs) h = absurd h
kinds_there (k ∷ ks) [] h = absurd h
kinds_there (k ∷ ks) (v ∷ vs) h = (kind_there k v h.0, kinds_there ks vs h.1)

as_long : (ks : List KindData) (vs : List Value) → AreOfKinds ks vs → length vs ≡ length ks
as_long [] [] h = refl
as_long [] (v ∷ vs) h = absurd h
as_long (k ∷ ks) [] h = absurd h
as_long (k ∷ ks) (v ∷ vs) h = let rest = as_long ks vs h.1 in omega (arith, rest)

all_long : (ks : List KindData) (n : ℕ) → length ks ≡ n → (inputs : List (List Value)) → AllByRecursion (AreOfKinds ks) inputs → Each (λ vs. length vs ≡ n) inputs
all_long ks n long [] h = tt
all_long ks n long (vs ∷ inputs) h = (as_long ks vs h.0 ∙ long, all_long ks n long inputs h.1)

-- values of kinds are of 32 bits
kind_short : (k : KindData) (v : Value) → IsOfKind k v → IsShort v
kind_short Ints (I n) h = h
kind_short Bools (I n) h = absurd h
kind_short (Constructors t cons) (I n) h = absurd h
kind_short k Absent h = tt
kind_short k Nil h = tt
kind_short k (B b) h = tt
kind_short k (E t c) h = tt
kind_short k Star h = tt

kinds_short : (ks : List KindData) (vs : List Value) → AreOfKinds ks vs → AreShort vs
kinds_short [] [] h = tt
kinds_short [] (v ∷ vs) h = absurd h
kinds_short (k ∷ ks) [] h = absurd h
kinds_short (k ∷ ks) (v ∷ vs) h = (kind_short k v h.0, kinds_short ks vs h.1)

all_kinds_short : (ks : List KindData) (inputs : List (List Value)) → AllByRecursion (AreOfKinds ks) inputs → AllByRecursion AreShort inputs
all_kinds_short ks [] h = tt
all_kinds_short ks (vs ∷ inputs) h = (kinds_short ks vs h.0, all_kinds_short ks inputs h.1)

outputs_short : (now : Flow) → InstantShort now → (xs : List ℕ) → AreShort (map now xs)
outputs_short now h [] = tt
outputs_short now h (x ∷ xs) = (h x, outputs_short now h xs)

over_names : (P : Value → Type 0) (f : List ℕ → Value) (names : List (List ℕ)) → AllByRecursion P (map f names) → AllByRecursion (λ x. P (f x)) names
over_names P f [] h = tt
over_names P f (x ∷ names) h = (h.0, over_names P f names h.1)

module _ (program : List Item) (fills : List ℕ → Place → Value) (answers : Answers) (ranked : IsRanked program) (none : NoControls program) (apart : AreApart (reverse program)) (answer : Answering program fills answers)
    (takes : Names (List KindData)) (later earlier : List Item) (n : Node) (means : ℕ → FlatName) (flat : FlatNode) (is : IsFlat program fills later earlier n means flat) (name_is : flat.name ≡ n.name)
    (long : length (takes n.name) ≡ length n.inputs) (equipped : IsEquipped answers takes flat) where
  abbrev fill : Instant
  fill = fills n.name

  abbrev flat_is : Flat FlatName
  flat_is = flatten (types_of program) (nodes (types_of program) filled earlier).outputs fill n

  inputs_here : (vs : List Value) (i : Now FlatName) → ((x : List ℕ) → i (Input x) ≡ inputs_of n vs fill x) → AreOfKinds (takes n.name) vs → AllByRecursion (λ x. IsTrue (is_there (i (Input x)))) (names_of n.inputs)
  inputs_here vs i are kinds =
      let none_here = uncontrolled_at later earlier n (subst NoControls is.stands (none_reverse program none)) in
      let read : map (λ x. i (Input x)) (names_of n.inputs) ≡ vs =
      reads_same (names_of n.inputs) i (input_of n.inputs vs (λ x. Absent)) (λ x. are x ∙ no_controls (controls_of n.contract) (part Controls fill) (input_of n.inputs vs (λ x. Absent)) none_here x)
      ∙ inputs_read n.inputs vs (λ x. Absent) is.inputs_differ (as_long (takes n.name) vs kinds ∙ long) in
      over_names (λ v. IsTrue (is_there v)) (λ x. i (Input x)) (names_of n.inputs) (subst (AllByRecursion (λ v. IsTrue (is_there v))) (sym read) (kinds_there (takes n.name) vs kinds))

  all_fit : (inputs : List (List Value)) (past : Past) → AllByRecursion (AreOfKinds (takes n.name)) inputs → Along (λ G i. IsTolds means flat_is i) (lifts n inputs (given_each fill inputs) past) → Along (λ G i. FlatFits takes means flat_is i) (lifts n inputs (given_each fill inputs) past)
      → Along (λ G i. AllByRecursion (λ o. IsTrue (is_there (i (body_name o)))) (names_of n.outputs)) (lifts n inputs (given_each fill inputs) past) → AllByRecursion InstantShort (map (numbered means) (lifts n inputs (given_each fill inputs) past)) → AllByRecursion (Fits takes flat) (map (numbered means) (lifts n inputs (given_each fill inputs) past))
  all_fit [] past kinds told fits outputs short = tt
  all_fit (vs ∷ inputs) [] kinds told fits outputs short = tt
  all_fit (vs ∷ inputs) (now ∷ past) kinds told fits outputs short =
      let i : Now FlatName = lifted (lifts n inputs (given_each fill inputs) past) (inputs_of n vs fill) fill now in (
        fits_law takes means flat_is (names_of n.inputs) (λ f. length ((filled_nodes program).outputs f)) flat i is.equations told.0 fits.0 equipped.some (inputs_here vs i (λ x. refl) kinds.0)
            (names_there means i body_name flat.outputs (names_of n.outputs) is.outputs outputs.0) equipped.constants short.0,
        all_fit inputs past kinds.1 told.1 fits.1 outputs.1 short.1,
      )

  all_taken : (inputs : List (List Value)) (past : Past) → Along (λ G i. IsTolds means flat_is i) (lifts n inputs (given_each fill inputs) past) → Along (λ G i. FlatFits takes means flat_is i) (lifts n inputs (given_each fill inputs) past)
      → AllByRecursion (AllTakenIfShort takes flat) (map (numbered means) (lifts n inputs (given_each fill inputs) past))
  all_taken [] past told fits = tt
  all_taken (vs ∷ inputs) [] told fits = tt
  all_taken (vs ∷ inputs) (now ∷ past) told fits = (
    taken_law takes means flat_is (names_of n.inputs) (λ f. length ((filled_nodes program).outputs f)) flat (lifted (lifts n inputs (given_each fill inputs) past) (inputs_of n vs fill) fill now) is.equations told.0 fits.0 equipped.some,
    all_taken inputs past told.1 fits.1,
  )

  answered_on : (args : List Value) (before : List (List Value)) (past : Past) → AllByRecursion (AreOfKinds (takes n.name)) (args ∷ before) → ReactionOf (meaning filled program n.name) (args ∷ before) (given_each fill (args ∷ before)) past
      → IsFitting program fills earlier n means takes (args ∷ before) past → IsAnswered answers takes flat args before × AreShort (answers n.name args before)
  answered_on args before [] kinds reaction fit = absurd reaction
  answered_on args before (now ∷ past) kinds reaction fit =
      let na = node_answers program fills answers ranked none apart answer later earlier n means flat is args before (now ∷ past) (all_long (takes n.name) (length n.inputs) long (args ∷ before) kinds) reaction fit.there in
      let instants = map (numbered means) (lifts n (args ∷ before) (given_each fill (args ∷ before)) (now ∷ past)) in
      let short : AllByRecursion InstantShort instants =
      short_law answers takes equipped.called flat equipped.ranked equipped.calls equipped.constants equipped.answer (args ∷ before) instants na.0 (all_kinds_short (takes n.name) (args ∷ before) kinds)
      (all_taken (args ∷ before) (now ∷ past) fit.there.told fit.fits) in (
        record {
          now = numbered means (lifted (lifts n before (given_each fill before) past) (inputs_of n args fill) fill now);
          past = map (numbered means) (lifts n before (given_each fill before) past);
          reaction = na.0;
          fit = all_fit (args ∷ before) (now ∷ past) kinds fit.there.told fit.fits fit.outputs short;
          answer = ap (λ (x : List ℕ). answers x args before) name_is ∙ na.1;
        },
        subst AreShort (sym na.1) (outputs_short (numbered means (lifted (lifts n before (given_each fill before) past) (inputs_of n args fill) fill now)) short.0 flat.outputs),
      )

  answered_both : AllFitting program fills earlier n means takes → (args : List Value) (before : List (List Value)) → AreOfKinds (takes n.name) args → AllByRecursion (AreOfKinds (takes n.name)) before
      → IsAnswered answers takes flat args before × AreShort (answers n.name args before)
  answered_both fitting args before here earlier_kinds =
      let a = answer n.name args before in
      answered_on args before a.past (here, earlier_kinds) a.reaction (fitting (args ∷ before) a.past (here, earlier_kinds) a.reaction)

pub answered : AnsweredLaw
answered program fills answers ranked none apart answer takes later earlier n means flat is name_is long equipped fitting =
    let both = answered_both program fills answers ranked none apart answer takes later earlier n means flat is name_is long equipped fitting in (
      λ args before kinds kinds_before.
          (both args before (subst (λ (x : List ℕ). AreOfKinds (takes x) args) name_is kinds) (subst (λ (x : List ℕ). AllByRecursion (AreOfKinds (takes x)) before) name_is kinds_before)).0,
      λ args before kinds kinds_before. (both args before kinds kinds_before).1,
    )

-- ---- all answers

-- outputs have the same names, however the language is read
outputs_alike : (types : List TypeDecl) (R Q : Reading) (items : List Item) (f : List ℕ) → (nodes types R items).outputs f ≡ (nodes types Q items).outputs f
outputs_alike types R Q [] f = refl
outputs_alike types R Q (TypeItem t ∷ items) f = outputs_alike types R Q items f
outputs_alike types R Q (NodeItem n ∷ items) f = ap (λ (os : List (List ℕ)). if bytes_eq n.name f then names_of n.outputs else os) (outputs_alike types R Q items f)

pub all_answered : AllAnswersLaw
all_answered program fills answers ranked none answer f [] [] reaction = refl
all_answered program fills answers ranked none answer f [] (i ∷ past) reaction = absurd reaction
all_answered program fills answers ranked none answer f (args ∷ before) [] reaction = absurd reaction
all_answered program fills answers ranked none answer f (args ∷ before) (now ∷ past) reaction =
    ap₂ (λ (vs : List Value) (all : List (List Value)). vs ∷ all)
    (ap (λ (os : List (List ℕ)). map (λ o. now (Named o ∷ [])) os) (outputs_alike (types_of program) real filled (reverse program) f)
    ∙ outputs_answered program fills answers ranked none answer f args before (now ∷ past) reaction)
    (all_answered program fills answers ranked none answer f before past reaction.0)
