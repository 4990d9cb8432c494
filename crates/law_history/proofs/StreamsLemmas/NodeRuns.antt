-- The machines of a program without automata give what its nodes answer.
use Rattle.std.proofs.Common.{◌≡◌, ℕ, Bool, true, false, ◌||◌, refl, List, [], ◌∷◌, ◌++◌, length, map, reverse, sym, ap, subst, ◌∙◌}
use Rattle.std.specs.Prelude.{Option, None, Some, IsTrue}
use Rattle.std.specs.Str.{bytes_eq}
use Rattle.std.specs.List.{AllByRecursion}
use Rattle.std.proofs.lemmas.List.{length-map}
use Rattle.hp_base.specs.Kinds.{KindData, AreOfKinds}
use Rattle.hp_base.specs.declared.value.Value.{Value}
use Rattle.hp_base.specs.declared.value.Value.TheVariants.{Absent, Nil, B, E, I, Star}
use Rattle.hp_obc.specs.Form.{TypesForm, has_name}
use Rattle.hp_obc.specs.Machines.{ObcType, Machine}
use Rattle.hp_obc.specs.Steps.{machine_behaviour, run}
use Rattle.hp_tree.specs.Blocks.{Decl}
use Rattle.hp_tree.specs.Instant.{Place}
use Rattle.hp_tree.specs.Meaning.{types_of, names_of, nodes, node_among}
use Rattle.hp_tree.specs.Operators.{filled}
use Rattle.hp_tree.specs.Programs.{TypeDecl, Node}
use Rattle.hp_tree.specs.declared.program.Item.{Item}
use Rattle.hp_tree.specs.declared.program.Item.TheVariants.{TypeItem, NodeItem}
use Rattle.hp_meaning.specs.Causal.Causality.{IsRanked}
use Rattle.hp_meaning.specs.Causal.Runs.{NoControls}
use Rattle.law_judged.specs.Named.Scoped.{EachNode}
use Rattle.law_judged.proofs.NamedLemmas.Sets.{same_name}
use Rattle.law_values.specs.Filled.Firsts.{NodeHasFirsts}
use Rattle.law_values.proofs.FilledLemmas.Programs.{each_reverse}
use Rattle.hp_flat.specs.Nodes.{FlatNode}
use Rattle.hp_flat.specs.declared.node.Variable.{Variable}
use Rattle.hp_flat.specs.Equations.{FlatEqn}
use Rattle.law_equations.specs.Flattened.Flatten.{FlatName, flatten}
use Rattle.law_equations.specs.Flattened.Lifted.{in_body}
use Rattle.law_equations.specs.Meaning.Reactions.{Answers}
use Rattle.law_equations.specs.Made.Making.{Known, sketch_node}
use Rattle.law_equations.specs.Made.Standing.{Knows}
use Rattle.hp_complete.specs.KnownLaw.{KnownLaw}
use Rattle.hp_complete.specs.Declaring.{known_of}
use Rattle.hp_complete.specs.Made.{IsMadeOf, AreMadeOf}
use Rattle.hp_complete.specs.Ordering.{unplaced}
use Rattle.hp_complete.specs.Signatures.{AreFlat, places_of}
use Rattle.law_equations.specs.Fewer.Compiling.{AreFlatNodes, CompiledLaw}
use Rattle.law_equations.specs.Followed.Premises.{IsOfTypes, constants_of}
use Rattle.law_equations.specs.Followed.Programs.{CallsOnly, Answered, file_of, all_answers}
use Rattle.law_equations.specs.Fitting.Fitting.{NodeNamed, CallsLaw}
use Rattle.law_values.specs.Valued.Values.{Classing, AreAccepted}
use Rattle.law_automata.specs.Readied.Laws.{IsWhole}
use Rattle.law_automata.specs.Readied.Sound.{SoundBehind}
use Rattle.law_equations.specs.Answered.Answering.{filled_nodes, Answering, AreApart}
use Rattle.law_equations.specs.Answered.Short.{IsShort, AreShort, ConstantsShort, AnswersShort, AllAnswerShort}
use Rattle.law_equations.specs.Answered.Laws.{IsFlat, IsMade, AnsweredLaw}
use Rattle.hp_form.specs.Regular.Regular.{EqnIsRegular, IsRegular}
use Rattle.law_wellmade.specs.Suited.Suited.{ProgramLaw}
use Rattle.law_wellmade.specs.Timely.Kinds.{kind_of, kinds_of_decls, takes_among}
use Rattle.law_wellmade.specs.Timely.Tested.{ConstructorsDiffer, AreTested}
use Rattle.law_wellmade.specs.Timely.Laws.{MadeFittingLaw}
use Rattle.law_wellmade.specs.Begun.Laws.{Begins}
use Rattle.law_equations.specs.Made.Types.{obc_types_of}
use Rattle.hp_machines.specs.Making.{AreMade, giving}
use Rattle.law_history.proofs.StreamsLemmas.Asked.{names_behind, calls_before, calls_named, Splits, split_next, split_first, one_asked, are_asked}
use Rattle.law_history.proofs.StreamsLemmas.Giving.{kept_all, kept_ranked, kept_define, kept_equations, kept_calls, kept_nodes}
use Rattle.law_history.proofs.StreamsLemmas.NamesApart.{own_found, each_found, name_found}
use Rattle.law_history.proofs.StreamsLemmas.ProgramTypes.{program_known}
use Rattle.law_history.proofs.StreamsLemmas.MadeMachines.{are_regular, have_few, made_run}

-- What is known of a program without automata, with what is given to its nodes.
pub record Prepared (program : List Item) : Type 0 where
  pub class : Classing
  pub accepted : AreAccepted (types_of program) class (reverse program)
  pub ranked : IsRanked program
  pub uncontrolled : NoControls program
  pub apart : AreApart (reverse program)
  pub firsts : EachNode (NodeHasFirsts (types_of program)) program
  pub sound : SoundBehind (types_of program) (reverse program)
  pub whole : EachNode IsWhole program
  pub named : EachNode NodeNamed program
  pub distinct : ConstructorsDiffer (types_of program)
  pub tested : AreTested (types_of program) (reverse program)
  pub fills : List ℕ → Place → Value
  pub begins : Begins program fills

-- the laws that are joined here
pub record NodeLaws : Type 0 where
  pub known : KnownLaw
  pub suited : ProgramLaw
  pub calls : CallsLaw
  pub fitting : MadeFittingLaw
  pub answered : AnsweredLaw
  pub compiled : CompiledLaw

-- ---- constants

of_types_short : (types : List ObcType) (v : Value) → IsOfTypes types v → IsShort v
of_types_short types (I n) h = h
of_types_short types (B b) h = tt
of_types_short types (E t c) h = tt
of_types_short types Absent h = tt
of_types_short types Nil h = tt
of_types_short types Star h = tt

values_short : (types : List ObcType) (vs : List Value) → AllByRecursion (IsOfTypes types) vs → AreShort vs
values_short types [] h = tt
values_short types (v ∷ vs) h = (of_types_short types v h.0, values_short types vs h.1)

constants_short : (types : List ObcType) (variables : List Variable) (es : List FlatEqn) → AllByRecursion (EqnIsRegular types variables) es → ConstantsShort es
constants_short types variables [] h = tt
constants_short types variables (e ∷ es) h = let one = h.0 in (values_short types (constants_of e.right) one.constants, constants_short types variables es h.1)

-- ---- equations, whatever their places are

calls_lifted : (names : List (List ℕ)) (es : List FlatEqn) → CallsOnly names es → CallsOnly names (map unplaced es)
calls_lifted names [] h = tt
calls_lifted names (e ∷ es) h = (h.0, calls_lifted names es h.1)

calls_lowered : (names : List (List ℕ)) (es : List FlatEqn) → CallsOnly names (map unplaced es) → CallsOnly names es
calls_lowered names [] h = tt
calls_lowered names (e ∷ es) h = (h.0, calls_lowered names es h.1)

calls_placed : (names : List (List ℕ)) (es fs : List FlatEqn) → map unplaced es ≡ map unplaced fs → CallsOnly names fs → CallsOnly names es
calls_placed names es fs same h = calls_lowered names es (subst (CallsOnly names) (sym same) (calls_lifted names fs h))

-- the kinds that a node takes
abbrev taken : List TypeDecl → Option Node → List KindData
taken types o = elim o [ None ↦ [] | Some n ↦ kinds_of_decls types n.inputs ]

pub takes_is : (types : List TypeDecl) (items : List Item) (f : List ℕ) (n : Node) → node_among items f ≡ Some n → takes_among types items f ≡ kinds_of_decls types n.inputs
takes_is types items f n e = ap (taken types) e

module _ (program : List Item) (p : Prepared program) where
  abbrev items : List Item
  items = reverse program

  abbrev types : List TypeDecl
  types = types_of program

  abbrev k : Known
  k = known_of program

  abbrev takes : List ℕ → List KindData
  takes = takes_among types items

  module _ (laws : NodeLaws) (answers : Answers) (answering : Answering program p.fills answers) (form : TypesForm (obc_types_of program)) where
    knows : Knows types (filled_nodes program).outputs k
    knows = program_known program form laws.known p.named

    module _ (later earlier : List Item) (n : Node) (stands : items ≡ later ++ NodeItem n ∷ earlier) (whole : IsWhole n) (named : NodeNamed n) (f : FlatNode) where
      asked_made : IsMadeOf k n f → IsMade program p.fills later earlier k n f
      asked_made made =
          let begins = p.begins in
          let asked = one_asked types k p.fills items p.sound begins.ready later earlier n stands whole named in
          record {
            stands = stands;
            calls = begins.called later earlier n stands (calls_before types items p.sound later earlier n stands);
            ready = asked.ready;
            inputs = made.inputs;
            outputs = made.outputs;
            equations = made.eqns;
          }

      calls_made : IsMadeOf k n f → CallsOnly (names_behind earlier) f.eqns
      calls_made made = calls_placed (names_behind earlier) f.eqns (sketch_node k n).eqns made.eqns (laws.calls k (names_behind earlier) n in_body (calls_named types items p.sound later earlier n stands))

      kept_flat : (means : ℕ → FlatName) → IsFlat program p.fills later earlier n means f → IsFlat program p.fills later earlier n means (giving f)
      kept_flat means h = record {
        stands = h.stands;
        lowered = h.lowered;
        calls = h.calls;
        inputs_differ = h.inputs_differ;
        equations = kept_equations means (flatten types (nodes types filled earlier).outputs (p.fills n.name) n) (names_of n.inputs) (λ g. length ((filled_nodes program).outputs g)) f h.equations;
        outputs = h.outputs;
      }

      one_answered : IsMadeOf k n f → IsRegular (obc_types_of program) f → AllAnswerShort answers takes (names_behind earlier) → Answered answers takes (giving f) × AnswersShort answers takes n.name
      one_answered made regular short =
          let begins = p.begins in
          let m = laws.fitting program p.class p.fills k p.accepted p.ranked p.uncontrolled p.apart begins.fit p.distinct p.tested knows later earlier n f (asked_made made) in
          let own : node_among items n.name ≡ Some n = subst (λ xs. node_among xs n.name ≡ Some n) (sym stands) (own_found later earlier n (subst AreApart stands p.apart)) in
          let many : length (takes n.name) ≡ length n.inputs = ap length (takes_is types items n.name n own) ∙ length-map n.inputs (λ (d : Decl). kind_of types d.ty) in
          laws.answered program p.fills answers p.ranked p.uncontrolled p.apart answering takes later earlier n m.0 (giving f) (kept_flat m.0 m.1) made.name many
          (record {
            ranked = kept_ranked f.eqns made.ranked;
            called = names_behind earlier;
            calls = kept_calls (names_behind earlier) f.eqns (calls_made made);
            answer = short;
            constants = kept_all (λ (e : FlatEqn). AreShort (constants_of e.right)) f.eqns (constants_short (obc_types_of program) f.variables f.eqns regular.eqns);
            some = kept_define f.eqns;
          })
          m.2

    -- one more node that answers with integers of 32 bits
    short_next : (before : List Item) (n : Node) → AnswersShort answers takes n.name → AllAnswerShort answers takes (names_behind before) → AllAnswerShort answers takes (names_behind (NodeItem n ∷ before))
    short_next before n one all f h = of_name (bytes_eq n.name f) refl h
      where
        of_name : (b : Bool) → bytes_eq n.name f ≡ b → IsTrue (b || has_name (names_behind before) f) → AnswersShort answers takes f
        of_name true same g = subst (AnswersShort answers takes) (same_name n.name f same) one
        of_name false other g = all f g

    all_answered : (before rest : List Item) (fs : List FlatNode) → Splits items before rest → EachNode IsWhole rest → EachNode NodeNamed rest → AreMadeOf k rest fs → AllByRecursion (IsRegular (obc_types_of program)) fs
        → AllAnswerShort answers takes (names_behind before) → AllByRecursion (Answered answers takes) (map giving fs)
    all_answered before [] [] e w named m r short = tt
    all_answered before [] (f ∷ fs) e w named m r short = absurd m
    all_answered before (TypeItem t ∷ rest) fs e w named m r short = all_answered (TypeItem t ∷ before) rest fs (split_next items before rest (TypeItem t) e) w named m r short
    all_answered before (NodeItem n ∷ rest) [] e w named m r short = absurd m
    all_answered before (NodeItem n ∷ rest) (f ∷ fs) e w named m r short =
        let next = split_next items before rest (NodeItem n) e in
        let one = one_answered (reverse rest) before n next w.0 named.0 f m.0 r.0 short in
        (one.0, all_answered (NodeItem n ∷ before) rest fs next w.1 named.1 m.1 r.1 (short_next before n one.1 short))

    -- ---- the machines

    module _ (fs : List FlatNode) (ms : List Machine) (flat : AreFlat (places_of program) program fs) (equations : AreMadeOf k program fs) (made : AreMade (obc_types_of program) fs ms) where
      abbrev Runs : List ℕ → Type 0
      Runs x = (inputs : List (List Value)) → AllByRecursion (AreOfKinds (takes x)) inputs → run (machine_behaviour (file_of (obc_types_of program) ms) x) (reverse inputs) ≡ reverse (all_answers (answers x) inputs)

      are_flat : AreFlatNodes (obc_types_of program) [] (map giving fs)
      are_flat =
          let begins = p.begins in
          kept_nodes (obc_types_of program) [] fs
          (laws.suited types (obc_types_of program) (filled_nodes program).outputs k p.fills program fs knows form (are_asked types k p.fills items p.sound begins.ready [] program (split_first program) p.whole p.named) equations flat
          (have_few (obc_types_of program) fs ms made) (are_regular (obc_types_of program) fs ms made))

      flat_runs : AllByRecursion (λ (n : FlatNode). Runs n.name) (map giving fs)
      flat_runs =
          made_run (obc_types_of program) answers takes laws.compiled fs ms are_flat made (all_answered [] program fs (split_first program) p.whole p.named equations (are_regular (obc_types_of program) fs ms made) (λ f h. absurd cc))

      named_runs : (rest : List Item) (gs : List FlatNode) → AreMadeOf k rest gs → AllByRecursion (λ (n : FlatNode). Runs n.name) (map giving gs) → EachNode (λ (n : Node). Runs n.name) rest
      named_runs [] gs m a = tt
      named_runs (TypeItem t ∷ rest) gs m a = named_runs rest gs m a
      named_runs (NodeItem n ∷ rest) [] m a = absurd m
      named_runs (NodeItem n ∷ rest) (g ∷ gs) m a = let made = m.0 in (subst Runs made.name a.0, named_runs rest gs m.1 a.1)

      -- The machine of each node gives what the node answers.
      pub runs_answer : (f : List ℕ) (n : Node) → node_among items f ≡ Some n → (inputs : List (List Value)) → AllByRecursion (AreOfKinds (kinds_of_decls types n.inputs)) inputs
          → run (machine_behaviour (file_of (obc_types_of program) ms) f) (reverse inputs) ≡ reverse (all_answers (answers f) inputs)
      runs_answer f n e inputs fit =
          subst Runs (name_found items f n e) (each_found (λ (m : Node). Runs m.name) items f n (each_reverse (λ (m : Node). Runs m.name) program (named_runs program fs equations flat_runs)) e) inputs
          (subst (λ ks. AllByRecursion (AreOfKinds ks) inputs) (sym (takes_is types items f n e)) fit)
