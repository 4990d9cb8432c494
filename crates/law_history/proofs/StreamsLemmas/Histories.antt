-- The machines of a program give its stream history.
use Rattle.std.proofs.Common.{◌≡◌, ℕ, suc, Bool, true, false, if◌then◌else◌, List, [], ◌∷◌, length, map, reverse, refl, sym, ap, ap₂, subst, ◌∙◌}
use Rattle.std.specs.Prelude.{IsTrue, Some}
use Rattle.std.specs.List.{AllByRecursion, IsDistinct}
use Rattle.std.specs.Str.{bytes_eq}
use Rattle.std.proofs.lemmas.List.{reverse-reverse}
use Rattle.hp_base.specs.Kinds.{AreOfKinds}
use Rattle.hp_base.specs.declared.value.Value.{Value}
use Rattle.hp_base.specs.declared.value.Value.TheVariants.{Absent, Nil, B, E, I, Star}
use Rattle.hp_obc.specs.Form.{TypesForm}
use Rattle.hp_obc.specs.Machines.{ObcType, Machine}
use Rattle.hp_obc.specs.Steps.{known_behind, unknown, run}
use Rattle.hp_tree.specs.Blocks.{Decl}
use Rattle.hp_tree.specs.Instant.{Named, Place, Instant, Past}
use Rattle.hp_tree.specs.Meaning.{types_of, names_of, nodes, meaning, node_among, declares}
use Rattle.hp_tree.specs.Operators.{Reading, real, filled}
use Rattle.hp_tree.specs.Programs.{TypeDecl, Node}
use Rattle.hp_tree.specs.Reaction.{Reaction, Each, outputs_at, IsRun}
use Rattle.hp_tree.specs.Values.{AreOf}
use Rattle.hp_tree.specs.declared.program.Item.{Item}
use Rattle.hp_tree.specs.declared.program.Item.TheVariants.{TypeItem, NodeItem}
use Rattle.hp_meaning.specs.Causal.OneReaction.{ReactionOf, ReactionLaw, ReactionLawRead}
use Rattle.hp_meaning.specs.Causal.Runs.{NoControls, SomeRunLaw}
use Rattle.law_judged.specs.Named.Scoped.{EachNode}
use Rattle.law_judged.proofs.NamedLemmas.Sets.{name_same, or_left, or_right}
use Rattle.law_values.specs.Valued.Values.{GivenFits, RealLaw}
use Rattle.law_values.specs.Accepted.Laws.{OutputsHereLaw}
use Rattle.law_values.specs.Accepted.Outputs.{IsHere, OutputsHere, Uncontrolled}
use Rattle.law_values.proofs.AcceptedLemmas.Outputs.{frees_fit}
use Rattle.hp_automata.specs.Lowering.{enumerations, lowered_node, lowered_program}
use Rattle.law_automata.specs.Lowerable.Laws.{KeptLaw}
use Rattle.law_automata.proofs.LowerableLemmas.Runs.{lowered_there}
use Rattle.law_values.specs.Filled.Laws.{AgreeLaw}
use Rattle.law_values.specs.Filled.Under.{Under, PastsUnder, AllSameControls}
use Rattle.law_equations.specs.Answered.Answering.{given_each}
use Rattle.law_equations.specs.Answered.Laws.{SomeAnswersLaw, AllAnswersLaw}
use Rattle.hp_complete.specs.Declaring.{known_of}
use Rattle.hp_complete.specs.Signatures.{AreFlat, places_of}
use Rattle.hp_complete.specs.Made.{AreMadeOf}
use Rattle.hp_flat.specs.Nodes.{FlatNode}
use Rattle.law_wellmade.specs.Timely.Kinds.{kinds_of_decls}
use Rattle.law_equations.specs.Made.Types.{obc_type_of, obc_types_of}
use Rattle.hp_machines.specs.Making.{AreMade}
use Rattle.law_history.specs.Streams.Laws.{HistoryLaw}
use Rattle.law_history.proofs.StreamsLemmas.TypesOfKinds.{all_constructors, kinds_are_types}
use Rattle.law_history.proofs.StreamsLemmas.ProgramTypes.{program_distinct}
use Rattle.law_history.proofs.StreamsLemmas.NodeRuns.{Prepared, NodeLaws, runs_answer}
use Rattle.law_history.proofs.StreamsLemmas.Readiness.{ReadyLaws, types_lowered, prepared}

-- the laws that are joined here
pub record RunLaws : Type 0 where
  pub ready : ReadyLaws
  pub nodes : NodeLaws
  pub reaction : ReactionLaw
  pub reaction_read : ReactionLawRead
  pub some_run : SomeRunLaw
  pub values : RealLaw
  pub here : OutputsHereLaw
  pub kept : KeptLaw
  pub agree : AgreeLaw
  pub some_answers : SomeAnswersLaw
  pub all_answers : AllAnswersLaw

-- ---- lists

abbrev list_onto : {A : Type 0} → List A → List A → List A
list_onto [] ys = ys
list_onto (x ∷ xs) ys = list_onto xs (x ∷ ys)

all_onto : {A : Type 0} (P : A → Type 0) (xs ys : List A) → AllByRecursion P xs → AllByRecursion P ys → AllByRecursion P (list_onto xs ys)
all_onto P [] ys h k = k
all_onto P (x ∷ xs) ys h k = all_onto P xs (x ∷ ys) h.1 (h.0, k)

all_reverse : {A : Type 0} (P : A → Type 0) (xs : List A) → AllByRecursion P xs → AllByRecursion P (reverse xs)
all_reverse P xs h = all_onto P xs [] h tt

given_many : (fill : Instant) (inputs : List (List Value)) → length (given_each fill inputs) ≡ length inputs
given_many fill [] = refl
given_many fill (vs ∷ inputs) = ap suc (given_many fill inputs)

given_all : (P : Instant → Type 0) (fill : Instant) (inputs : List (List Value)) → P fill → Each P (given_each fill inputs)
given_all P fill [] h = tt
given_all P fill (vs ∷ inputs) h = (h, given_all P fill inputs h)

given_same : (frees : List Instant) → AllSameControls frees frees
given_same [] = tt
given_same (free ∷ frees) = ((λ p q. refl), given_same frees)

none_controlled : (items : List Item) → NoControls items → EachNode Uncontrolled items
none_controlled [] h = tt
none_controlled (TypeItem t ∷ items) h = none_controlled items h
none_controlled (NodeItem n ∷ items) h = (h.0, none_controlled items h.1)

-- ---- outputs

outputs_named : (types : List TypeDecl) (R : Reading) (items : List Item) (f : List ℕ) (n : Node) → node_among items f ≡ Some n → (nodes types R items).outputs f ≡ names_of n.outputs
outputs_named types R [] f n e = absurd cc
outputs_named types R (TypeItem t ∷ items) f n e = outputs_named types R items f n e
outputs_named types R (NodeItem m ∷ items) f n e = by (bytes_eq m.name f) (outputs_named types R items f n) e
  where
    by : (b : Bool) → (node_among items f ≡ Some n → (nodes types R items).outputs f ≡ names_of n.outputs) → (if b then Some m else node_among items f) ≡ Some n → (if b then names_of m.outputs else (nodes types R items).outputs f) ≡ names_of n.outputs
    by true r k = let z : m ≡ n = cc in ap (λ (x : Node). names_of x.outputs) z
    by false r k = r k

under_same : (v w : Value) → Under v w → (v ≡ Nil → ⊥) → w ≡ v
under_same Nil w h k = absurd (k refl)
under_same Absent w h k = h
under_same (B b) w h k = h
under_same (E t c) w h k = h
under_same (I n) w h k = h
under_same Star w h k = h

names_same : (i j : Instant) (ds : List Decl) → ((x : List ℕ) → IsTrue (declares ds x) → IsHere (i (Named x ∷ []))) → ((p : Place) → Under (i p) (j p)) → map (λ x. j (Named x ∷ [])) (names_of ds) ≡ map (λ x. i (Named x ∷ [])) (names_of ds)
names_same i j [] h u = refl
names_same i j (d ∷ ds) h u =
    ap₂ (λ v vs. v ∷ vs) (under_same (i (Named d.name ∷ [])) (j (Named d.name ∷ [])) (u (Named d.name ∷ [])) (h d.name (or_left (bytes_eq d.name d.name) (declares ds d.name) (name_same d.name d.name refl))).0)
    (names_same i j ds (λ x k. h x (or_right (bytes_eq d.name x) (declares ds x) k)) u)

-- Where no output of a reaction is Nil, one that it is under has the same outputs.
outputs_same : (program : List Item) (f : List ℕ) (n : Node) → node_among (reverse program) f ≡ Some n → (past other : Past) → Each (OutputsHere n) past → PastsUnder past other → map (outputs_at program f) other ≡ map (outputs_at program f) past
outputs_same program f n e [] [] h u = refl
outputs_same program f n e [] (j ∷ other) h u = absurd u
outputs_same program f n e (i ∷ past) [] h u = absurd u
outputs_same program f n e (i ∷ past) (j ∷ other) h u =
    let named = outputs_named (types_of program) real (reverse program) f n e in
    ap₂ (λ v vs. v ∷ vs) (subst (λ xs. map (λ x. j (Named x ∷ [])) xs ≡ map (λ x. i (Named x ∷ [])) xs) (sym named) (names_same i j n.outputs h.0 u.0)) (outputs_same program f n e past other h.1 u.1)

-- ---- a program without automata

module _ (laws : RunLaws) (program : List Item) (p : Prepared program) (types : List ObcType) (fs : List FlatNode) (ms : List Machine) (kinds : types ≡ obc_types_of program) (form : TypesForm types)
    (flat : AreFlat (places_of program) program fs) (equations : AreMadeOf (known_of program) program fs) (made : AreMade types fs ms) where
  program_form : TypesForm (obc_types_of program)
  program_form = subst TypesForm kinds form

  pub kinds_differ : IsDistinct bytes_eq (all_constructors (types_of program))
  kinds_differ = program_distinct program program_form

  module _ (f : List ℕ) (n : Node) (e : node_among (reverse program) f ≡ Some n) (inputs : List (List Value)) (fit : AllByRecursion (AreOfKinds (kinds_of_decls (types_of program) n.inputs)) inputs) where
    as_many : length (given_each (p.fills f) inputs) ≡ length inputs
    as_many = given_many (p.fills f) inputs

    of_types : Each (AreOf (types_of program) n.inputs) inputs
    of_types = kinds_are_types (types_of program) kinds_differ n.inputs inputs fit

    -- Each reaction of the language gives the outputs of that of the filled form.
    filled_same : (past other : Past) → Reaction program f inputs (given_each (p.fills f) inputs) past → ReactionOf (meaning filled program f) inputs (given_each (p.fills f) inputs) other → map (outputs_at program f) other ≡ map (outputs_at program f) past
    filled_same past other h g =
        let begins = p.begins in
        let given = given_each (p.fills f) inputs in
        let free = frees_fit (types_of program) program (none_controlled program p.uncontrolled) f given in
        let fills_fit = given_all (GivenFits (types_of program) false (λ given. given) (reverse program) f) (p.fills f) inputs (begins.fit f) in
        let fits = laws.values program p.class f n inputs given past p.accepted p.ranked e of_types free h in
        outputs_same program f n e past other (laws.here (types_of program) true p.class (reverse program) f n past e fits)
        (laws.agree program p.class f n inputs given given past other p.accepted p.firsts p.ranked e of_types free fills_fit (given_same given) h g)

    -- So the machine gives the outputs of such a reaction.
    pub machine_gives : (past : Past) × (Reaction program f inputs (given_each (p.fills f) inputs) past × (run (known_behind types ms unknown f) (reverse inputs) ≡ reverse (map (outputs_at program f) past)))
    machine_gives =
        let given = given_each (p.fills f) inputs in
        let one = laws.reaction program f inputs given p.ranked as_many in
        let other = laws.reaction_read filled program f inputs given p.ranked as_many in
        let answers = laws.some_answers program p.fills p.ranked in
        let gives = runs_answer program p laws.nodes answers.0 answers.1 program_form fs ms flat equations (subst (λ ts. AreMade ts fs ms) kinds made) f n e inputs fit in (
          one.past,
          (
            one.is_one,
            ap (λ ts. run (known_behind ts ms unknown f) (reverse inputs)) kinds
                ∙ gives
                ∙ ap reverse (sym (laws.all_answers program p.fills answers.0 p.ranked p.uncontrolled answers.1 f inputs other.past other.is_one))
                ∙ ap reverse (filled_same one.past other.past one.is_one other.is_one),
          ),
        )

-- ---- ready programs

pub history : RunLaws → HistoryLaw
history laws program after ranks o r ok fall none full few machines f n inputs e fit =
    let enums = enumerations [] after in
    let low = lowered_program after in
    let back = reverse inputs in
    let p = prepared laws.ready program after ranks r ok fall none full few in
    let types : types_of low ≡ types_of after = types_lowered enums after in
    let kinds : o.types ≡ obc_types_of low = machines.types ∙ ap (map obc_type_of) (sym types) in
    let there = lowered_there after f n e in
    let fit_there = subst (λ ts. AllByRecursion (AreOfKinds (kinds_of_decls ts n.inputs)) back) (sym types) (all_reverse (AreOfKinds (kinds_of_decls (types_of after) n.inputs)) inputs fit) in
    let gives = machine_gives laws low p o.types machines.nodes o.machines kinds machines.form machines.flat machines.equations machines.made f (lowered_node enums n) there back fit_there in
    let differ = subst (λ ts. IsDistinct bytes_eq (all_constructors ts)) types (kinds_differ laws low p o.types machines.nodes o.machines kinds machines.form machines.flat machines.equations machines.made) in
    let ready = laws.ready in
    let ranked = ready.all_ranks after ranks fall in
    let ran = laws.some_run after f n inputs ranked none e (kinds_are_types (types_of after) differ n.inputs inputs fit) in
    let run_there = ran.1 in
    let past = run_there.some.1 in
    let reaction = run_there.some.2 in
    let kept = laws.kept program after ranks r ok fall none f n back run_there.some.0 past e (kinds_are_types (types_of after) differ n.inputs back (all_reverse (AreOfKinds (kinds_of_decls (types_of after) n.inputs)) inputs fit)) reaction.reaction in
    let same : ran.0 ≡ run (known_behind o.types o.machines unknown f) inputs =
    sym (run_there.every run_there.some.0 past reaction)
    ∙ ap reverse (sym (kept.1 (given_each (p.fills f) back) gives.0 gives.1.0))
    ∙ sym gives.1.1
    ∙ ap (run (known_behind o.types o.machines unknown f)) (reverse-reverse inputs) in
    subst (IsRun after f inputs) same ran.1
