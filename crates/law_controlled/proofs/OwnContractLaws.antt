-- Early places of the own contract of a node depend on no controllable variable, where its observer stands among the equations of the node.
use Rattle.std.proofs.Common.{◌≡◌, inl, inr, ℕ, zero, suc, ◌+◌, ◌<◌, ◌≤◌, List, [], ◌∷◌, ◌++◌, length, map, drop, Some, refl, sym, ap, subst, ◌∙◌, arith}
use Rattle.std.specs.Prelude.{true, slice_get}
use Rattle.std.specs.List.{AllByRecursion}
use Rattle.std.specs.Str.{bytes_eq}
use Rattle.std.proofs.lemmas.List.{length-map, map-append}
use Rattle.std.proofs.lemmas.Option.{slice_get_within}
use Rattle.hp_base.specs.declared.value.Value.{Value}
use Rattle.hp_tree.specs.Blocks.{Decl}
use Rattle.hp_tree.specs.declared.program.Item.{Item}
use Rattle.hp_tree.specs.declared.program.Item.TheVariants.{TypeItem, NodeItem}
use Rattle.hp_tree.specs.Programs.{TypeDecl, Contract, Node}
use Rattle.hp_tree.specs.Instant.{Body, Named, Place}
use Rattle.hp_tree.specs.Meaning.{declares, controls_of}
use Rattle.hp_meaning.specs.Causal.Clocked.{ClocksRight}
use Rattle.law_judged.specs.Named.Scoped.{EachNode}
use Rattle.law_judged.proofs.NamedLemmas.Sets.{or_left, or_right}
use Rattle.hp_automata.specs.Lowering.{Enumerations, enumerations, lowered_node}
use Rattle.law_automata.specs.Lowered.Standing.{Along}
use Rattle.law_automata.proofs.LoweredLemmas.Apart.{bytes_same}
use Rattle.hp_flat.specs.Equations.{FlatEqn}
use Rattle.hp_flat.specs.Nodes.{FlatNode}
use Rattle.law_equations.specs.Flattened.Flatten.{At, Input}
use Rattle.law_equations.specs.Made.Making.{Known}
use Rattle.law_equations.specs.Made.Laws.{body_name, names, Stands}
use Rattle.law_equations.specs.Meaning.Scheduling.{DefinesNoInput}
use Rattle.hp_watch.specs.Observing.{input_name, inputs_for, observer_of}
use Rattle.hp_watch.specs.Walk.{events_from, walk_contract}
use Rattle.hp_watch.specs.Watching.{own_site}
use Rattle.law_choices.specs.Depending.Contracts.{ContractsLaw, EventReadsNoWaiting, found_in_contract, KeepsContract, ReadsNoWaiting}
use Rattle.law_choices.specs.Depending.Dependence.{DependsOn}
use Rattle.law_choices.specs.Depending.Laws.{VariablesLaw}
use Rattle.law_choices.specs.Independent.Dependence.{locals}
use Rattle.law_choices.specs.Places.Found.{Both}
use Rattle.law_choices.specs.Places.Laws.{places_of}
use Rattle.law_choices.specs.Undisturbed.Laws.{IsUndisturbed, ReadyLaw}
use Rattle.law_choices.proofs.OnClocksLemmas.Programs.{ready_clocks}
use Rattle.law_controlled.specs.Embedded.{CanStand, EventWaitsForNone, IsOrDependsOn, KeepsOwnContract, OwnContractLaw, OwnEmbeddedLaw, WaitsForNone}

-- ---- rows

-- in rows that are one by one the same there is one for each
other_at : {A B C : Type 0} (f : A → C) (g : B → C) (xs : List A) (ys : List B) → map f xs ≡ map g ys → (i : ℕ) (v : A) → slice_get xs i ≡ Some v → (y : B) × (slice_get ys i ≡ Some y)
other_at f g [] ys e i v h = absurd cc
other_at f g (x ∷ xs) [] e i v h = absurd cc
other_at f g (x ∷ xs) (y ∷ ys) e zero v h = (y, refl)
other_at f g (x ∷ xs) (y ∷ ys) e (suc i) v h = other_at f g xs ys (ap (λ zs. drop 1 zs) e) i v h

pub get-behind : {A : Type 0} (xs ys : List A) (i : ℕ) → slice_get (xs ++ ys) (length xs + i) ≡ slice_get ys i
get-behind [] ys i = let same : 0 + i ≡ i = omega arith in ap (slice_get ys) same
get-behind (x ∷ xs) ys i = let same : suc (length xs) + i ≡ suc (length xs + i) = omega arith in ap (slice_get (x ∷ xs ++ ys)) same ∙ get-behind xs ys i

get-front : {A : Type 0} (xs ys : List A) (i : ℕ) (a : A) → slice_get xs i ≡ Some a → slice_get (xs ++ ys) i ≡ Some a
get-front [] ys i a h = absurd cc
get-front (x ∷ xs) ys zero a h = h
get-front (x ∷ xs) ys (suc i) a h = get-front xs ys i a h

declared_at : (ds : List Decl) (i : ℕ) (o : List ℕ) → slice_get (names ds) i ≡ Some o → declares ds o ≡ true
declared_at [] i o h = absurd cc
declared_at (d ∷ ds) zero o h = let same : d.name ≡ o = cc in or_left (bytes_eq d.name o) (declares ds o) (subst (λ z. bytes_eq d.name z ≡ true) same (bytes_same d.name))
declared_at (d ∷ ds) (suc i) o h = or_right (bytes_eq d.name o) (declares ds o) (declared_at ds i o h)

-- the inputs of an observer, by their numbers
input_at : (m : ℕ) (os : List Decl) (i : ℕ) → i < length os → slice_get (names (inputs_for m os)) i ≡ Some (input_name (m + i))
input_at m [] i l = absurd (omega (arith, l))
input_at m (d ∷ os) zero l = let same : m ≡ m + 0 = omega arith in ap (λ z. Some (input_name z)) same
input_at m (d ∷ os) (suc i) l = let same : m + 1 + i ≡ m + suc i = omega arith in input_at (m + 1) os i (omega (arith, l)) ∙ ap (λ z. Some (input_name z)) same

contained : (es : List FlatEqn) (i : ℕ) (e : FlatEqn) (P : FlatEqn → Type 0) → AllByRecursion P es → slice_get es i ≡ Some e → P e
contained [] i e P h g = absurd cc
contained (d ∷ es) zero e P h g = let same : d ≡ e = cc in subst P same h.0
contained (d ∷ es) (suc i) e P h g = contained es i e P h.1 g

-- ---- one node

module _ (variables : VariablesLaw) (embeds : OwnEmbeddedLaw) (enums others : Enumerations) (n : Node) (right : ClocksRight n) (undisturbed : IsUndisturbed enums n) (keeps : KeepsContract others n) where
  module _ (c : Contract) (outs : List ℕ → List (List ℕ)) (program : List Item) (has : n.contract ≡ Some c) (types : List TypeDecl) (outputs : List ℕ → List (List ℕ)) (k : Known) (fill : Place → Value) (f : FlatNode)
      (s : Stands types outputs k fill (lowered_node enums n) f) (there : List TypeDecl) (given : List ℕ → List (List ℕ)) (known : Known) (filled : Place → Value) (g : FlatNode) (t : Stands there given known filled (lowered_node others (observer_of n c)) g)
      (can : CanStand f g (own_site (length n.inputs) f)) (no_inputs : DefinesNoInput f) (few : length n.inputs ≤ f.inputs) where
    abbrev inputs : ℕ
    inputs = length n.inputs

    -- the variable of an input that stands for an output
    observed_input : (i : ℕ) → i < length n.outputs → t.means (inputs + i) ≡ Input (input_name i)
    observed_input i l =
        let row = inputs_for 0 n.outputs in
        let long : length (names n.inputs) ≡ inputs = length-map n.inputs (λ (d : Decl). d.name) in
        let nought : 0 + i ≡ i = omega arith in
        let place : slice_get (names n.inputs ++ names row) (length (names n.inputs) + i) ≡ Some (input_name i) = get-behind (names n.inputs) (names row) i ∙ input_at 0 n.outputs i l ∙ ap (λ z. Some (input_name z)) nought in
        let named : slice_get (names (n.inputs ++ row)) (inputs + i) ≡ Some (input_name i) =
        ap (λ (z : List (List ℕ)). slice_get z (inputs + i)) (map-append (λ (d : Decl). d.name) n.inputs row) ∙ ap (λ m. slice_get (names n.inputs ++ names row) (m + i)) (sym long) ∙ place in
        (variables there given known filled (lowered_node others (observer_of n c)) g t).1 (inputs + i) (input_name i) (get-front (names (n.inputs ++ row)) [] (inputs + i) (input_name i) named)

    target_waits : (v : ℕ) (p : Place) → g.inputs ≤ v → ReadsNoWaiting program n g t.means v p → WaitsForNone program n f g s.means v p
    target_waits v p high reads early x w control ew past low d =
        let found = embeds f g inputs can no_inputs few v w high past low d in
        let i : ℕ = found.0 in
        let a : ℕ = found.1 in
        let named = other_at s.means body_name f.outputs (names n.outputs) s.outputs_are i a found.2 in
        let o : List ℕ = named.0 in
        let ea : s.means a ≡ At (Body ∷ Named o ∷ []) = (variables types outputs k fill (lowered_node enums n) f s).0 i a o named.1 found.2 in
        let long : length (names n.outputs) ≡ length n.outputs = length-map n.outputs (λ (d : Decl). d.name) in
        let within = slice_get_within (names n.outputs) i o named.1 in
        let is_output : declares n.outputs o ≡ true = declared_at n.outputs i o named.1 in
        by i a o named.1 ea is_output (omega (arith, within, long)) found.3 found.4
      where
        by : (i a : ℕ) (o : List ℕ) → slice_get (names n.outputs) i ≡ Some o → s.means a ≡ At (Body ∷ Named o ∷ []) → declares n.outputs o ≡ true → i < length n.outputs → DependsOn g.eqns v (inputs + i) → IsOrDependsOn f a w → ⊥
        by i a o numbered ea is_output l dep (inl same) = let no : At (Body ∷ Named o ∷ []) ≡ Input x = sym ea ∙ ap s.means same ∙ ew in absurd cc
        by i a o numbered ea is_output l dep (inr later) =
            undisturbed.flat o x (or_left (declares n.outputs o) (declares (locals n.body) o) is_output) (right.outputs o is_output) (or_right (declares n.inputs x) (declares (controls_of n.contract) x) control)
            (λ waits. reads early i o x (inputs + i) numbered (observed_input i l) control waits dep) types outputs k fill f s a w ea ew later

    targets_wait : (vs : List ℕ) (ps : List Place) → AllByRecursion (λ x. g.inputs ≤ x) vs → Along (ReadsNoWaiting program n g t.means) vs ps → Along (WaitsForNone program n f g s.means) vs ps
    targets_wait [] [] h r = tt
    targets_wait [] (p ∷ ps) h r = absurd r
    targets_wait (v ∷ vs) [] h r = absurd r
    targets_wait (v ∷ vs) (p ∷ ps) h r = (target_waits v p h.0 r.0, targets_wait vs ps h.1 r.1)

    events_wait : (is : List ℕ) (fs : Both) → Along (EventReadsNoWaiting program n g t.means) is fs → Along (EventWaitsForNone program n f g s.means) is fs
    events_wait [] [] h = tt
    events_wait [] (q ∷ fs) h = absurd h
    events_wait (i ∷ is) [] h = absurd h
    events_wait (i ∷ is) (q ∷ fs) h =
        let here = h.0 in
        let e = here.0 in
        let high = contained g.eqns i e (λ (d : FlatEqn). AllByRecursion (λ x. g.inputs ≤ x) d.targets) can.no_inputs here.1 in
        ((e, here.1, targets_wait e.targets (places_of q.0) high here.2), events_wait is fs h.1)

  keeps_own : KeepsOwnContract enums others n
  keeps_own c outs program has types outputs k fill f s there given known filled g t can no_inputs few mean =
      events_wait c outs program has types outputs k fill f s there given known filled g t can no_inputs few (walk_contract c (events_from 0 g.eqns)).0 (found_in_contract outs c) (keeps c outs program has there given known filled g t mean)

-- ---- programs

module _ (variables : VariablesLaw) (embeds : OwnEmbeddedLaw) (enums others : Enumerations) where
  each_keeps : (items : List Item) → EachNode ClocksRight items → EachNode (IsUndisturbed enums) items → EachNode (KeepsContract others) items → EachNode (KeepsOwnContract enums others) items
  each_keeps [] c u k = tt
  each_keeps (TypeItem t ∷ items) c u k = each_keeps items c u k
  each_keeps (NodeItem n ∷ items) c u k = (keeps_own variables embeds enums others n c.0 u.0 k.0, each_keeps items c.1 u.1 k.1)

pub own_contract_law : VariablesLaw → OwnEmbeddedLaw → ReadyLaw → ContractsLaw → OwnContractLaw
own_contract_law variables embeds ready contracts program after ranks others r ok fall o =
    each_keeps variables embeds (enumerations [] after) others after (ready_clocks program after r) (ready program after ranks r ok fall) (contracts program after ranks others r ok fall o)
