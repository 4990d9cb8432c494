-- The one meaning of the equations of a program gives the outputs of its runs.
use Rattle.std.proofs.Common.{◌≡◌, ℕ, ◌+◌, ◌≤◌, min, Bool, true, false, ◌||◌, ◌&&◌, cond, if◌then◌else◌, List, [], ◌∷◌, length, map, filter, reverse, Option, None, Some, refl, sym, ap, ap₂, subst, ◌∙◌, arith}
use Rattle.std.specs.List.{AllByRecursion}
use Rattle.std.specs.Str.{bytes_eq}
use Rattle.std.proofs.lemmas.List.{reverse-reverse}
use Rattle.hp_base.specs.Kinds.{KindData, Constructors, AreOfKinds}
use Rattle.hp_base.specs.declared.ty.Ty.{Ty}
use Rattle.hp_base.specs.declared.ty.Ty.TheVariants as ty
use Rattle.hp_base.specs.declared.value.Value.{Value}
use Rattle.hp_base.specs.declared.value.Value.TheVariants.{Absent}
use Rattle.hp_obc.specs.Form.{TypesForm}
use Rattle.hp_obc.specs.Steps.{Names, unknown, known_behind, machine_behaviour, run}
use Rattle.hp_tree.specs.declared.program.Item.{Item}
use Rattle.hp_tree.specs.declared.program.Item.TheVariants.{TypeItem, NodeItem}
use Rattle.hp_tree.specs.Blocks.{Decl}
use Rattle.hp_tree.specs.Operators.{filled, constructor_from}
use Rattle.hp_tree.specs.Programs.{TypeDecl, Node}
use Rattle.hp_tree.specs.Values.{constructors_of, IsOf}
use Rattle.hp_tree.specs.Meaning.{types_of, nodes}
use Rattle.hp_tree.specs.Reaction.{IsRun}
use Rattle.law_judged.specs.Named.Scoped.{EachNode}
use Rattle.hp_expand.specs.Numbering.{no_node, replaced}
use Rattle.law_values.proofs.AcceptedLemmas.Assembled.{types_replaced, types_clocked}
use Rattle.law_automata.proofs.ReadiedLemmas.SoundPrograms.{ready_sound_law}
use Rattle.law_automata.proofs.ReadiedLemmas.Whole.{whole_law}
use Rattle.law_wellmade.proofs.BegunLemmas.BegunLaws.{begun}
use Rattle.law_wellmade.specs.Suited.Suited.{ProgramLaw}
use Rattle.law_wellmade.specs.Apart.Apart.{ScopedLaw, LoweredLaw}
use Rattle.hp_automata.specs.Lowering.{enumerations, lowered_node, lowered_program}
use Rattle.law_automata.proofs.LowerableLemmas.Runs.{lowered_there}
use Rattle.law_automata.proofs.LowerableLemmas.Texts.{clocked_of, each_reverse}
use Rattle.law_values.specs.Filled.Firsts.{HasFirst, DeclsHaveFirsts, NodeHasFirsts}
use Rattle.law_values.proofs.FilledLemmas.Ready.{ready_firsts}
use Rattle.hp_flat.specs.Equations.{FlatEqn}
use Rattle.hp_flat.specs.Nodes.{FlatNode}
use Rattle.law_equations.specs.Meaning.Fitting.{EqnFits, Fits}
use Rattle.law_equations.specs.Meaning.Instants.{Instant, holds}
use Rattle.law_equations.specs.Meaning.Kinding.{kind_of_type, constructors}
use Rattle.law_equations.specs.Meaning.Reactions.{Answers, has, is_set, Holds, Reaction}
use Rattle.law_equations.specs.Followed.Programs.{Answered, all_answers, file_of}
use Rattle.law_equations.specs.Fewer.Compiling.{CompiledLaw}
use Rattle.hp_machines.specs.Making.{defines_some, giving, AreMade}
use Rattle.law_equations.specs.Made.Making.{Known, type_number, flat_type}
use Rattle.law_equations.specs.Made.Types.{obc_types}
use Rattle.hp_complete.specs.Declaring.{known_of}
use Rattle.hp_complete.specs.Made.{AreMadeOf}
use Rattle.hp_complete.specs.Signatures.{numbered, type_names, places_of}
use Rattle.hp_complete.proofs.KnownLaws.{nodes-known}
use Rattle.law_wellmade.specs.Timely.Kinds.{declared_kind, kind_of}
use Rattle.law_wellmade.specs.Timely.Kinds as timely
use Rattle.law_wellmade.specs.Regular.Kinds.{kinds_of_decls}
use Rattle.law_history.specs.Streams.Laws.{HistoryLaw}
use Rattle.law_history.proofs.StreamsLemmas.Asked.{ready_named, split_first, are_asked}
use Rattle.law_history.proofs.StreamsLemmas.Giving.{kept_all, kept_nodes}
use Rattle.law_history.proofs.StreamsLemmas.MadeMachines.{are_regular, have_few, made_run}
use Rattle.law_history.proofs.StreamsLemmas.NamesApart.{name_found, each_found}
use Rattle.law_choices.specs.OnClocks.Programs.{StreamLaw}
use Rattle.law_choices.specs.OnClocks.WellMade.{given_to, callees_of}
use Rattle.law_choices.proofs.OnClocksLemmas.ArmNumbers.{AreFew, numbered_type}
use Rattle.law_wellmade.proofs.BegunLemmas.Items.{types_low, names_of_types, some_constructors}
use Rattle.law_choices.proofs.OnClocksLemmas.Programs.{few_of, some_of, number_of}
use Rattle.law_choices.proofs.OnClocksLemmas.WellMade.{ready_knows}

-- ---- without the equations that define nothing

kept_set : (es : List FlatEqn) (now : Instant) (x : ℕ) → is_set (filter defines_some es) now x ≡ is_set es now x
kept_set [] now x = refl
kept_set (e ∷ es) now x = by e.targets refl (kept_set es now x)
  where
    Same : List ℕ → Type 0
    Same us = is_set (cond (elim us [ [] ↦ false | y ∷ ys ↦ true ]) (e ∷ filter defines_some es) (filter defines_some es)) now x ≡ (holds e.clock now && has us x) || is_set es now x

    none : (b : Bool) → (b && false) ≡ false
    none true = refl
    none false = refl

    by : (ts : List ℕ) → e.targets ≡ ts → is_set (filter defines_some es) now x ≡ is_set es now x → is_set (filter defines_some (e ∷ es)) now x ≡ is_set (e ∷ es) now x
    by [] q rest = subst Same (sym q) (rest ∙ ap (λ b. b || is_set es now x) (sym (none (holds e.clock now))))
    by (t ∷ ts) q rest =
        subst Same (sym q) (ap (λ us. (holds e.clock now && has us x) || is_set (filter defines_some es) now x) q ∙ ap (λ b. (holds e.clock now && has (t ∷ ts) x) || b) rest)

module _ (answers : Answers) (takes : Names (List KindData)) where
  reaction_kept : (n : FlatNode) (inputs : List (List Value)) (instants : List Instant) → Reaction answers n inputs instants → Reaction answers (giving n) inputs instants
  reaction_kept n [] [] r = tt
  reaction_kept n [] (now ∷ past) r = absurd r
  reaction_kept n (inputs ∷ earlier) [] r = absurd r
  reaction_kept n (inputs ∷ earlier) (now ∷ past) r = (
    reaction_kept n earlier past r.0,
    record {
      inputs_are = r.1.inputs_are;
      equations = kept_all (Holds answers past now) n.eqns r.1.equations;
      others = λ x l e. r.1.others x l (sym (kept_set n.eqns now x) ∙ e);
    },
  )

  fits_kept : (n : FlatNode) (instants : List Instant) → AllByRecursion (Fits takes n) instants → AllByRecursion (Fits takes (giving n)) instants
  fits_kept n [] h = tt
  fits_kept n (now ∷ past) h = (record { inputs = h.0.inputs; outputs = h.0.outputs; eqns = kept_all (EqnFits takes now) n.eqns h.0.eqns }, fits_kept n past h.1)

  answered_kept : (ns : List FlatNode) → AllByRecursion (Answered answers takes) ns → AllByRecursion (Answered answers takes) (map giving ns)
  answered_kept [] h = tt
  answered_kept (n ∷ ns) h = (
    λ args earlier k g.
        let a = h.0 args earlier k g in
        record {
          now = a.now;
          past = a.past;
          reaction = reaction_kept n (args ∷ earlier) (a.now ∷ a.past) a.reaction;
          fit = fits_kept n (a.now ∷ a.past) a.fit;
          answer = a.answer;
        },
    answered_kept ns h.1,
  )

-- ---- the kinds of a type, by its number and by its name

not_numbered : (t : ℕ) (types : List TypeDecl) (y : List ℕ) → numbered t (map (λ (d : TypeDecl). d.name) types) y ≡ None → constructors_of types y ≡ []
not_numbered t [] y e = refl
not_numbered t (d ∷ types) y e = by (bytes_eq d.name y) e (not_numbered (t + 1) types y)
  where
    by : (b : Bool) → (if b then Some t else numbered (t + 1) (map (λ (d : TypeDecl). d.name) types) y) ≡ None → (numbered (t + 1) (map (λ (d : TypeDecl). d.name) types) y ≡ None → constructors_of types y ≡ [])
        → (if b then d.cons else constructors_of types y) ≡ []
    by true q f = absurd cc
    by false q f = f q

module _ (items : List Item) (named : type_names items ≡ map (λ (d : TypeDecl). d.name) (types_of items)) (many : length (types_of items) ≤ 65535) (few : AreFew (types_of items)) where
  kind_same : (t : Ty) → HasFirst (types_of items) t → kind_of_type (obc_types (types_of items)) (flat_type (places_of items) t) ≡ kind_of (types_of items) t
  kind_same ty.Bool h = refl
  kind_same ty.Int h = refl
  kind_same (ty.Enum y) h = subst (λ ns. Same (numbered 0 ns y)) (sym named) (by (numbered 0 (map (λ (d : TypeDecl). d.name) (types_of items)) y) refl)
    where
      Same : Option ℕ → Type 0
      Same o = Constructors (type_number o) (constructors (obc_types (types_of items)) (type_number o)) ≡ declared_kind 0 (types_of items) y

      by : (o : Option ℕ) → numbered 0 (map (λ (d : TypeDecl). d.name) (types_of items)) y ≡ o → Same o
      by None e =
          let none = not_numbered 0 (types_of items) y e in
          absurd (subst (λ cs. IsOf (types_of items) (ty.Enum y) (elim cs [ [] ↦ Absent | c ∷ more ↦ constructor_from 0 (types_of items) c ])) none h)
      by (Some u) e =
          let r = numbered_type 0 (types_of items) y u few e in
          let number = r.number in
          let below = r.below in
          let least : min u 65535 ≡ u = omega (arith, number, below, many) in
          let place : u ≡ r.place = omega (arith, number) in
          ap (λ z. Constructors z (constructors (obc_types (types_of items)) z)) least ∙ ap (λ z. Constructors u (constructors (obc_types (types_of items)) z)) place ∙ sym r.kind

  kinds_same : (ds : List Decl) → DeclsHaveFirsts (types_of items) ds → kinds_of_decls (obc_types (types_of items)) (known_of items) ds ≡ timely.kinds_of_decls (types_of items) ds
  kinds_same [] h = refl
  kinds_same (d ∷ ds) h = ap₂ (λ (k : KindData) ks. k ∷ ks) (kind_same d.ty h.0) (kinds_same ds h.1)

-- ---- lists

abbrev list_onto : {A : Type 0} → List A → List A → List A
list_onto [] ys = ys
list_onto (x ∷ xs) ys = list_onto xs (x ∷ ys)

all_onto : {A : Type 0} (P : A → Type 0) (xs ys : List A) → AllByRecursion P xs → AllByRecursion P ys → AllByRecursion P (list_onto xs ys)
all_onto P [] ys h k = k
all_onto P (x ∷ xs) ys h k = all_onto P xs (x ∷ ys) h.1 (h.0, k)

all_reverse : {A : Type 0} (P : A → Type 0) (xs : List A) → AllByRecursion P xs → AllByRecursion P (reverse xs)
all_reverse P xs h = all_onto P xs [] h tt

-- what is so of the names of made nodes is so of those of the nodes
module _ (P : List ℕ → Type 0) where
  of_names : (k : Known) (items : List Item) (fs : List FlatNode) → AreMadeOf k items fs → AllByRecursion (λ (n : FlatNode). P n.name) (map giving fs) → EachNode (λ (n : Node). P n.name) items
  of_names k [] fs made h = tt
  of_names k (TypeItem t ∷ items) fs made h = of_names k items fs made h
  of_names k (NodeItem n ∷ items) [] made h = absurd made
  of_names k (NodeItem n ∷ items) (f ∷ fs) made h = (subst P made.0.name h.0, of_names k items fs made.1 h.1)

-- ---- programs

pub stream_law : ScopedLaw → LoweredLaw → ProgramLaw → CompiledLaw → HistoryLaw → StreamLaw
stream_law scoped low_law suited compiled history program after ranks o r ok fall form none machines one f n inputs e fit =
    let enums = enumerations [] after in
    let low = lowered_program after in
    let k = known_of low in
    let types = obc_types (types_of after) in
    let fs = machines.nodes in
    let takes = (callees_of after).takes in
    let full = some_of (types_of program) form.counts in
    let few = number_of (types_of program) form.number in
    let same : types_of low ≡ types_of after = types_low enums after in
    let same_all : types_of low ≡ types_of program = same ∙ types_clocked (replaced program) after (clocked_of (replaced program) after r.clocks) ∙ types_replaced no_node program in
    let many : length (types_of low) ≤ 65535 = subst (λ ts. length ts ≤ 65535) (sym same_all) few in
    let small : AreFew (types_of low) = subst AreFew (sym same_all) (few_of (types_of program) form.counts) in
    let made : AreMade types fs o.machines = subst (λ ts. AreMade ts fs o.machines) machines.types machines.made in
    let its_form : TypesForm types = subst TypesForm machines.types machines.form in
    let knows = ready_knows program after r ok form in
    let outputs = (nodes (types_of low) filled (reverse low)).outputs in
    let sound = ready_sound_law program after r ok (some_constructors program full) in
    let begins = begun program after r ok full few in
    let asked = are_asked (types_of after) k begins.0 (reverse low) sound begins.1.ready [] low (split_first low) (whole_law program after r ok) (ready_named scoped low_law program after r none) in
    let regular = are_regular types fs o.machines made in
    let flat = kept_nodes types [] fs (suited (types_of low) types outputs k begins.0 low fs knows its_form asked machines.equations machines.flat (have_few types fs o.machines made) regular) in
    let Runs : List ℕ → Type 0 =
    λ x. (given : List (List Value)) → AllByRecursion (AreOfKinds (takes x)) given → run (machine_behaviour (file_of types o.machines) x) (reverse given) ≡ reverse (all_answers (one.answers x) given) in
    let all_run = made_run types one.answers takes compiled fs o.machines flat made (answered_kept one.answers takes fs one.answered) in
    let there = lowered_there after f n e in
    let own : Runs f =
    subst Runs (name_found (reverse low) f (lowered_node enums n) there)
    (each_found (λ (m : Node). Runs m.name) (reverse low) f (lowered_node enums n) (each_reverse (λ (m : Node). Runs m.name) low (of_names Runs k low fs machines.equations all_run)) there) in
    let firsts = (each_found (NodeHasFirsts (types_of after)) (reverse after) f n (each_reverse (NodeHasFirsts (types_of after)) after (ready_firsts program after r full)) e).inputs in
    let kinds_low = kinds_same low (names_of_types low) many small n.inputs (subst (λ ts. DeclsHaveFirsts ts n.inputs) (sym same) firsts) in
    let kinds : kinds_of_decls types k n.inputs ≡ timely.kinds_of_decls (types_of after) n.inputs = subst (λ ts. kinds_of_decls (obc_types ts) k n.inputs ≡ timely.kinds_of_decls ts n.inputs) same kinds_low in
    let taken : takes f ≡ timely.kinds_of_decls (types_of after) n.inputs = ap (λ z. kinds_of_decls types k (given_to z)) (nodes-known low f ∙ there) ∙ kinds in
    let back = reverse inputs in
    let answers = own back (subst (λ ks. AllByRecursion (AreOfKinds ks) back) (sym taken) (all_reverse (AreOfKinds (timely.kinds_of_decls (types_of after) n.inputs)) inputs fit)) in
    let ran = history program after ranks o r ok fall none full few machines f n inputs e fit in
    let path : run (known_behind o.types o.machines unknown f) inputs ≡ reverse (all_answers (one.answers f) back) =
    ap (λ ts. run (known_behind ts o.machines unknown f) inputs) machines.types ∙ ap (run (known_behind types o.machines unknown f)) (sym (reverse-reverse inputs)) ∙ answers in
    subst (IsRun after f inputs) path ran
