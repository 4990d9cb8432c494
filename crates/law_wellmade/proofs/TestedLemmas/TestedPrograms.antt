-- Tests fit in a ready program, so they are typed without its automata.
use Rattle.std.proofs.Common.{◌≡◌, ℕ, List, [], ◌∷◌, ◌++◌, reverse, refl, sym, ap, subst, ◌∙◌}
use Rattle.std.specs.Prelude.{None, Some}
use Rattle.hp_tree.specs.declared.program.Item.{Item}
use Rattle.hp_tree.specs.declared.program.Item.TheVariants.{TypeItem, NodeItem}
use Rattle.hp_tree.specs.Programs.{TypeDecl, Node}
use Rattle.hp_tree.specs.Meaning.{types_of, node_among}
use Rattle.hp_base.specs.Known.Known.{lookup}
use Rattle.hp_names.specs.Scopes as names
use Rattle.hp_names.specs.Rules.{ItemsAreNamed}
use Rattle.hp_typing.specs.Scopes.{with_constructors}
use Rattle.law_judged.specs.Typed.Scopes.{Scope, NameScope}
use Rattle.law_judged.proofs.TypedLemmas.ProgramLaws.{typed}
use Rattle.law_judged.specs.Named.Scoped.{EachNode}
use Rattle.law_judged.proofs.NamedLemmas.Judged.{scoped}
use Rattle.hp_expand.specs.Shapes as shapes
use Rattle.hp_expand.specs.Numbering.{no_node, with_node, replaced_node, replaced_items, replaced}
use Rattle.law_judged.proofs.ReplacedLemmas.CallsFit.{calls_fit}
use Rattle.law_judged.proofs.ReplacedLemmas.Enough.{few_variables}
use Rattle.law_judged.proofs.ReplacedLemmas.Marks.{all_few_calls}
use Rattle.law_judged.proofs.ReplacedLemmas.JudgedReplaced.{all_can}
use Rattle.law_judged.proofs.ReplacedLemmas.ReplacedNodes.{none_ready}
use Rattle.law_values.specs.Valued.Judged.{NodeSound}
use Rattle.law_values.specs.Valued.Values.{scope_behind, Classing, class_behind, AreAccepted}
use Rattle.law_values.specs.Accepted.Written.{AreClocked}
use Rattle.law_values.proofs.AcceptedLemmas.Views.{entry_cases}
use Rattle.law_values.proofs.AcceptedLemmas.SoundNodes.{judged_sound}
use Rattle.law_values.proofs.AcceptedLemmas.Assembled.{types_replaced, types_clocked}
use Rattle.law_values.proofs.AcceptedLemmas.Laws.{accepted}
use Rattle.law_automata.proofs.LowerableLemmas.Texts.{clocked_of, each_reverse, onto}
use Rattle.law_automata.specs.Readied.Constants.{DeclTypes}
use Rattle.law_automata.proofs.ReadiedLemmas.TypesKept.{node_clocked}
use Rattle.law_wellmade.specs.Timely.Tested.{ConstructorsDiffer}
use Rattle.law_wellmade.proofs.TimelyLemmas.Covering.{covers_nothing}
use Rattle.law_wellmade.proofs.TimelyLemmas.DifferLaws.{differ, Grounds, SoFar, so_far_none, so_far_type, so_far_node, append_more, grounds_of}
use Rattle.law_wellmade.specs.Tested.Fits.{NodeFits, FitBehind}
use Rattle.law_wellmade.specs.Tested.Around.{NodeAround, ContractAround, interface_of}
use Rattle.law_wellmade.specs.Tested.Laws.{FitLaw, TestedLaw, ContractsApartLaw}
use Rattle.law_wellmade.proofs.TestedLemmas.FullTypes.{Full, program_full}
use Rattle.law_wellmade.proofs.TestedLemmas.JudgedAround.{More, constructors_kept, no_variables, items_around, items_contracts_around}
use Rattle.law_wellmade.proofs.TestedLemmas.MadeAround.{Made, all_made, contracts_apart}
use Rattle.law_wellmade.proofs.TestedLemmas.Settled.{Rich, node_settled}
use Rattle.law_wellmade.proofs.TestedLemmas.FittedPrograms.{fitted_law}

-- ---- what is known behind all items

all_grounds : (types before : List TypeDecl) (n : NameScope) (done items : List Item) → types ≡ before ++ types_of items → SoFar before n (scope_behind done) → ItemsAreNamed n items → Grounds types (scope_behind (onto items done))
all_grounds types before n done [] split p m = subst (λ (ts : List TypeDecl). Grounds ts (scope_behind done)) (sym split) (grounds_of before [] n (scope_behind done) p)
all_grounds types before n done (TypeItem y ∷ items) split p m =
    all_grounds types (before ++ y ∷ []) (names.behind n (TypeItem y)) (TypeItem y ∷ done) items (split ∙ sym (append_more before y (types_of items))) (so_far_type before n (scope_behind done) y p m.0.0) m.1
all_grounds types before n done (NodeItem y ∷ items) split p m = all_grounds types before (names.behind n (NodeItem y)) (NodeItem y ∷ done) items split (so_far_node before n (scope_behind done) y p) m.1

abbrev SameConstructors : List Item → List Item → Type 0
SameConstructors ys xs = (scope_behind ys).constructors ≡ (scope_behind xs).constructors

constructors_same : (nodes : List ℕ → Node) (xs ys done there : List Item) → AreClocked (replaced_items nodes xs) ys → SameConstructors there done → SameConstructors (onto ys there) (onto xs done)
constructors_same nodes [] [] done there c e = e
constructors_same nodes [] (y ∷ ys) done there c e = absurd c
constructors_same nodes (TypeItem t ∷ xs) [] done there c e = absurd c
constructors_same nodes (NodeItem n ∷ xs) [] done there c e = absurd c
constructors_same nodes (TypeItem t ∷ xs) (y ∷ ys) done there c e =
    subst (λ z. SameConstructors (onto ys (z ∷ there)) (onto xs (TypeItem t ∷ done))) (sym c.0) (constructors_same nodes xs ys (TypeItem t ∷ done) (TypeItem t ∷ there) c.1 (ap (λ z. with_constructors z t.name t.cons) e))
constructors_same nodes (NodeItem n ∷ xs) (y ∷ ys) done there c e =
    subst (λ z. SameConstructors (onto ys (z ∷ there)) (onto xs (NodeItem n ∷ done))) (sym c.0.1.1) (constructors_same (with_node nodes (replaced_node nodes n)) xs ys (NodeItem n ∷ done) (NodeItem _ ∷ there) c.1 e)

-- ---- items, the last one first

module _ (types : List TypeDecl) (known : Scope) (ground : Grounds types known) (apart : ConstructorsDiffer types) where
  abbrev RichBehind : List Item → Type 0
  RichBehind items = (f : List ℕ) (m : Node) → lookup (scope_behind items).nodes f ≡ Some m → DeclTypes (Full types) m.outputs

  outputs_full : (y : Node) → Made types known y → DeclTypes (Full types) y.outputs
  outputs_full y k = subst (λ (z : Node). DeclTypes (Full types) z.outputs) (sym k.1.1.0) (node_clocked (Full types) k.1.0 k.0 k.1.1.1.1.1.1.0).1.0

  rich_behind : (items : List Item) → EachNode (Made types known) items → RichBehind items
  rich_behind [] k f m h = absurd (cc)
  rich_behind (TypeItem t ∷ earlier) k f m h = rich_behind earlier k f m h
  rich_behind (NodeItem y ∷ earlier) k f m h =
      entry_cases (scope_behind earlier).nodes y.name y f m h (λ z. rich_behind earlier k.1 f m z) (λ e w z. subst (λ (q : Node). DeclTypes (Full types) q.outputs) w (outputs_full y k.0))

  none : (items : List Item) (X : Type 0) (x : List ℕ) {A : Type 0} (t : A) → None ≡ Some t → X
  none items X x t h = absurd (cc)

  all_settled : (class : Classing) (items : List Item) → AreAccepted types class items → EachNode (Made types known) items → More known (scope_behind items) → FitBehind types items
  all_settled class [] a k more = tt
  all_settled class (TypeItem t ∷ earlier) a k more = all_settled class earlier a k (λ c u h. more c u (constructors_kept t.cons (scope_behind earlier).constructors t.name c u h))
  all_settled class (NodeItem y ∷ earlier) a k more =
      let s = scope_behind earlier in
      let m = k.0.0 in
      let at = k.0.1.0 in
      let e = k.0.1.1.0 in
      let d = k.0.1.1.1 in
      let rich : Rich types known ground apart (node_among earlier) s = ((λ x t h. none earlier (Full types t) x t (sym (no_variables earlier x) ∙ h)), rich_behind earlier k.1) in (
        subst (λ z. NodeFits types s z) (sym e)
            (node_settled types known ground apart (node_among earlier) at m s d.0 d.1.0 d.1.1.0 d.1.1.1 (subst (λ z. NodeSound types (node_among earlier) s z) e a.0.sound) more rich (no_variables earlier)),
        all_settled (class_behind class) earlier a.1 k.1 more,
      )

-- ---- programs

pub fit_law : FitLaw
fit_law program after r cons =
    let types = types_of program in
    let known = scope_behind (onto program []) in
    let has_types = typed program r.named r.typed r.merges in
    let all_scoped = scoped program r.named r.defined in
    let sound = judged_sound program all_scoped r.armed r.named r.typed has_types r.defined in
    let clocked = clocked_of (replaced program) after r.clocks in
    let can = all_can no_node program all_scoped r.names (calls_fit program r.named has_types) (all_few_calls no_node program r.calls) (few_variables program r.limits) in
    let same : types_of after ≡ types = types_clocked (replaced program) after clocked ∙ types_replaced no_node program in
    let ground : Grounds types known = all_grounds types [] names.nothing [] program refl so_far_none r.named in
    let around : EachNode (NodeAround known) program = items_around types [] names.nothing [] program refl so_far_none covers_nothing r.named r.typed r.defined sound in
    let made : EachNode (Made types known) after =
    all_made types known no_node shapes.nothing_known (λ f. ((tt, tt), (tt, tt))) none_ready (λ f. (tt, (tt, (tt, (tt, tt))))) (λ f. refl) program after around (program_full program r.named cons) can r.shapes clocked in
    let e : SameConstructors (reverse after) (onto program []) = constructors_same no_node program after [] [] clocked refl in
    let a = accepted program after r in
    subst (λ z. FitBehind z (reverse after)) (sym same)
    (all_settled types known ground (differ program r.named) a.0 (reverse after) (subst (λ z. AreAccepted z a.0 (reverse after)) same a.1) (each_reverse (Made types known) after made) (λ c t h. ap (λ z. lookup z c) (sym e) ∙ h))

pub tested_law : TestedLaw
tested_law program after r ok cons = fitted_law program after r ok cons (fit_law program after r cons)

pub contracts_apart_law : ContractsApartLaw
contracts_apart_law program after r =
    let types = types_of program in
    let known = scope_behind (onto program []) in
    let has_types = typed program r.named r.typed r.merges in
    let all_scoped = scoped program r.named r.defined in
    let sound = judged_sound program all_scoped r.armed r.named r.typed has_types r.defined in
    let clocked = clocked_of (replaced program) after r.clocks in
    let can = all_can no_node program all_scoped r.names (calls_fit program r.named has_types) (all_few_calls no_node program r.calls) (few_variables program r.limits) in
    let around : EachNode (NodeAround known) program = items_around types [] names.nothing [] program refl so_far_none covers_nothing r.named r.typed r.defined sound in
    let told : EachNode (λ (y : Node). ContractAround known (interface_of y) y.contract) program = items_contracts_around types [] names.nothing [] program refl so_far_none covers_nothing r.named r.typed r.defined sound in
    contracts_apart types known no_node shapes.nothing_known (λ f. ((tt, tt), (tt, tt))) none_ready (λ f. refl) program after around told can r.shapes clocked
