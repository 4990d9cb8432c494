-- A run keeps its duty as long as the hypothesis holds.
use Rattle.std.proofs.Common.{◌≡◌, ℕ, suc, inl, inr, List, [], ◌∷◌, map, None, Some, refl, sym, ap, ap₂, ◌∙◌, subst}
use Rattle.std.proofs.lemmas.Slice.Eq.{bytes_eq-Decides}
use Rattle.std.specs.Prelude.{Bool, true, false, IsTrue, if◌then◌else◌, reverse, Option}
use Rattle.std.specs.Str.{bytes_eq}
use Rattle.std.specs.Bool.{MatchBool}
use Rattle.hp_base.specs.declared.value.Value.{Value}
use Rattle.hp_base.specs.declared.ty.Ty.{Ty}
use Rattle.hp_base.specs.declared.ty.Ty.TheVariants as ty
use Rattle.hp_tree.specs.declared.program.Item.{Item}
use Rattle.hp_tree.specs.declared.program.Item.TheVariants.{TypeItem, NodeItem}
use Rattle.hp_tree.specs.Blocks.{Decl}
use Rattle.hp_tree.specs.Programs.{TypeDecl, Contract, Node}
use Rattle.hp_tree.specs.Operators.{real, marked, constructor_from, place_in, or_later}
use Rattle.hp_tree.specs.Instant.{Inputs, Controls, Head, Tail, Place, Instant, Past, Given, part, alone, in_row}
use Rattle.hp_tree.specs.Meaning.{Nodes, types_of, controls_of, given_to, node, nodes, meaning, node_among}
use Rattle.hp_tree.specs.Reaction.{Reaction, row_of, controls_at, Each}
use Rattle.hp_meaning.specs.Causal.Abstract.{abstract_meaning}
use Rattle.hp_meaning.specs.Causal.Steering.{steered_by}
use Rattle.hp_meaning.specs.Contract.Forgetting.{erased, erase, ContractsCallNothing}
use Rattle.hp_meaning.specs.Contract.FreePlaces.{InputsFit, IsAbstractOf}
use Rattle.hp_meaning.specs.Contract.Game.{Choice, choices_of, IsAmong, AreChoices, IsChoiceOf, at_controls, IsChosen, IsNext, Played}
use Rattle.hp_meaning.specs.Contract.ChosenRuns.{Chosen, ChosenThroughout}
use Rattle.hp_meaning.specs.Contract.Guarantee.{Typed, AllTyped, AllSupposed, ErasedNextLaw, RunKeepsDutyLaw}
use Rattle.hp_meaning.proofs.ContractLemmas.Forgets.{given, Met}
use Rattle.hp_meaning.proofs.ContractLemmas.ForgetsNodes.{erased_with}
use Rattle.hp_meaning.proofs.ContractLemmas.Games.{guaranteed, allowed}
use Rattle.hp_tree.specs.Values.{constructors_of, IsOf, AreOf}
use Rattle.hp_base.specs.declared.value.Value.TheVariants.{B, I, E}

some_same : {A : Type 0} (x y : A) → Some x ≡ Some y → x ≡ y
some_same x y e = cc

-- ---- the node of a name

found_name : (d : Bool) (m n : Node) (f : List ℕ) (rest : Option Node) → (IsTrue d → m.name ≡ f) → (rest ≡ Some n → n.name ≡ f) → (if d then Some m else rest) ≡ Some n → n.name ≡ f
found_name true m n f rest h k e = subst (λ (n : Node). n.name ≡ f) (some_same m n e) (h refl)
found_name false m n f rest h k e = k e

name_is : (items : List Item) (f : List ℕ) (n : Node) → node_among items f ≡ Some n → n.name ≡ f
name_is [] f n e = absurd (cc)
name_is (TypeItem t ∷ items) f n e = name_is items f n e
name_is (NodeItem m ∷ items) f n e = found_name (bytes_eq m.name f) m n f (node_among items f) (bytes_eq-Decides m.name f).0 (name_is items f n) e

-- what an instant of it holds
abbrev OfNode : List TypeDecl → Node → List Value → Given → Instant → Type 0
OfNode types n vs g now = (N : Nodes) × Met now (node types real N n vs g now)

found_instant : (d : Bool) (types : List TypeDecl) (m n : Node) (N : Nodes) (vs : List Value) (g : Given) (now other : Instant) (rest : Option Node) → (rest ≡ Some n → Met now other → OfNode types n vs g now) → (if d then Some m else rest) ≡ Some n → Met now (if d then node types real N m vs g now else other) → OfNode types n vs g now
found_instant true types m n N vs g now other rest k e met = (N, subst (λ (n : Node). Met now (node types real N n vs g now)) (some_same m n e) met)
found_instant false types m n N vs g now other rest k e met = k e met

instant_of : (types : List TypeDecl) (items : List Item) (f : List ℕ) (n : Node) (vs : List Value) (g : Given) (now : Instant) → node_among items f ≡ Some n → Met now ((nodes types real items).instant f vs g now) → OfNode types n vs g now
instant_of types [] f n vs g now e met = absurd (cc)
instant_of types (TypeItem t ∷ items) f n vs g now e met = instant_of types items f n vs g now e met
instant_of types (NodeItem m ∷ items) f n vs g now e met =
    found_instant (bytes_eq m.name f) types m n (nodes types real items) vs g now ((nodes types real items).instant f vs g now) (node_among items f) (instant_of types items f n vs g now) e met

-- and what is chosen
abbrev pub ChosenHere : List Item → Node → Past → Instant → Type 0
ChosenHere program n past now = IsChosen program n (erase past) (row_of n.inputs (part Inputs now)) now (controls_at n now)

found_choice : (d : Bool) (program : List Item) (m n : Node) (past : Past) (now : Instant) (Calls Rest : Type 0) (rest : Option Node) → (rest ≡ Some n → Rest → ChosenHere program n past now) → (if d then Some m else rest) ≡ Some n → MatchBool d (ChosenHere program m past now × Calls) Rest → ChosenHere program n past now
found_choice true program m n past now Calls Rest rest k e h = subst (λ (n : Node). ChosenHere program n past now) (some_same m n e) h.0
found_choice false program m n past now Calls Rest rest k e h = k e h

choice_of : (program items : List Item) (f : List ℕ) (n : Node) (past : Past) (now : Instant) → node_among items f ≡ Some n → Chosen program items f past now → ChosenHere program n past now
choice_of program [] f n past now e h = absurd (cc)
choice_of program (TypeItem t ∷ items) f n past now e h = choice_of program items f n past now e h
choice_of program (NodeItem m ∷ items) f n past now e h =
    found_choice (bytes_eq m.name f) program m n past now _ _ (node_among items f) (choice_of program items f n past now) e h

-- ---- inputs and controllable variables at their places

pub inputs_are : (types : List TypeDecl) (ds : List Decl) (vs : List Value) (i : Instant) → InputsFit types ds vs → Met i (in_row (map alone vs)) → row_of ds i ≡ vs
inputs_are types [] [] i fits met = refl
inputs_are types [] (v ∷ vs) i fits met = absurd fits
inputs_are types (d ∷ ds) [] i fits met = absurd fits
inputs_are types (d ∷ ds) (v ∷ vs) i fits met = ap₂ (λ w ws. w ∷ ws) (met (Head ∷ [])) (inputs_are types ds vs (part Tail i) fits.1 (λ p. met (Tail ∷ p)))

controls_are : (types : List TypeDecl) (N : Nodes) (ds : List Decl) (free i : Instant) → Met i (in_row (map alone (given_to types real N ds free))) → row_of ds i ≡ given_to types real N ds free
controls_are types N [] free i met = refl
controls_are types N (d ∷ ds) free i met = ap₂ (λ v vs. v ∷ vs) (met (Head ∷ [])) (controls_are types N ds (part Tail free) (part Tail i) (λ p. met (Tail ∷ p)))

said_controls : (types : List TypeDecl) (N : Nodes) (k : Option Contract) → controls_of k ≡ controls_of k
said_controls types N None = refl
said_controls types N (Some c) = refl

module _ (types : List TypeDecl) (N : Nodes) (n : Node) (vs : List Value) (g : Given) (now : Instant) (met : Met now (node types real N n vs g now)) where
  pub steered_is : (p : Place) → now (Controls ∷ p) ≡ at_controls (controls_at n now) p
  steered_is p =
      let e : given_to types real N (controls_of n.contract) (part Controls g.free) ≡ controls_at n now =
      sym (controls_are types N (controls_of n.contract) (part Controls g.free) (part Controls now) (λ p. met (Controls ∷ p)))
      ∙ ap (λ ds. row_of ds (part Controls now)) (said_controls types N n.contract) in
      met (Controls ∷ p) ∙ ap (λ ws. in_row (map alone ws) p) e

  pub steered_same : (p : Place) → steered_by now (at_controls (controls_at n now)) p ≡ now p
  steered_same (Controls ∷ p) = sym (steered_is p)
  steered_same p = refl

-- A value of a controllable variable is no integer.
constructor_marked : (k : ℕ) (types : List TypeDecl) (x : List ℕ) → marked (constructor_from k types x) ≡ constructor_from k types x
constructor_marked k [] x = refl
constructor_marked k (d ∷ ds) x = or_so (place_in 0 d.cons x) (constructor_marked (suc k) ds x)
  where
    or_so : {v : Value} (o : Option ℕ) → marked v ≡ v → marked (or_later k o v) ≡ or_later k o v
    or_so None e = e
    or_so (Some m) e = refl

enumerated_marked : (types : List TypeDecl) (xs : List (List ℕ)) (v : Value) → IsAmong (map (constructor_from 0 types) xs) v → marked v ≡ v
enumerated_marked types [] v m = absurd m
enumerated_marked types (x ∷ xs) v (inl e) = ap marked e ∙ constructor_marked 0 types x ∙ sym e
enumerated_marked types (x ∷ xs) v (inr m) = enumerated_marked types xs v m

value_marked : (types : List TypeDecl) (t : Ty) (v : Value) → IsAmong (choices_of types t) v → marked v ≡ v
value_marked types ty.Bool v (inl e) = ap marked e ∙ sym e
value_marked types ty.Bool v (inr (inl e)) = ap marked e ∙ sym e
value_marked types ty.Bool v (inr (inr m)) = absurd m
value_marked types ty.Int v m = absurd m
value_marked types (ty.Enum x) v m = enumerated_marked types (constructors_of types x) v m

pub row_marked : (types : List TypeDecl) (ds : List Decl) (c : Choice) → AreChoices types ds c → (p : Place) → marked (at_controls c p) ≡ at_controls c p
row_marked types [] [] l p = refl
row_marked types [] (v ∷ c) l p = absurd l
row_marked types (d ∷ ds) [] l p = absurd l
row_marked types (d ∷ ds) (v ∷ c) l [] = refl
row_marked types (d ∷ ds) (v ∷ c) l (Head ∷ []) = value_marked types d.ty v l.0
row_marked types (d ∷ ds) (v ∷ c) l (Tail ∷ p) = row_marked types ds c l.1 p
row_marked types (d ∷ ds) (v ∷ c) l p = refl

-- ---- Values of types are so in the abstraction.

abstractly_one : (types : List TypeDecl) (t : Ty) (v : Value) → IsOf types t v → IsAbstractOf types t v
abstractly_one types ty.Bool (B b) h = (b, refl)
abstractly_one types ty.Int (I k) h = refl
abstractly_one types (ty.Enum x) (E t k) h = h
abstractly_one types t v h = absurd h

pub abstractly : (types : List TypeDecl) (ds : List Decl) (vs : List Value) → AreOf types ds vs → InputsFit types ds vs
abstractly types [] [] h = tt
abstractly types [] (v ∷ vs) h = absurd h
abstractly types (d ∷ ds) [] h = absurd h
abstractly types (d ∷ ds) (v ∷ vs) h = (abstractly_one types d.ty v h.0, abstractly types ds vs h.1)

-- ---- one instant

module _ (program : List Item) (f : List ℕ) (n : Node) (r : ContractsCallNothing program) (is_node : node_among (reverse program) f ≡ Some n) where
  next_is : (vs : List Value) (past : Past) (free now : Instant) → Met now (meaning real program f vs (given past free) now) → InputsFit (types_of program) n.inputs vs → Typed program n now → IsChoiceOf program n (controls_at n now) → IsNext program n (erase past) vs now (controls_at n now) (erased now)
  next_is vs past free now met fits typed chosen =
      let c = controls_at n now in
      let m = instant_of (types_of program) (reverse program) f n vs (given past free) now is_node met in
      let same = steered_same (types_of program) m.0 n vs (given past free) now m.1 in
      let as_chosen = steered_is (types_of program) m.0 n vs (given past free) now m.1 in
      record {
        free = now;
        fits = typed.free;
        agrees = λ p e. refl;
        meets = subst (λ g. Met (erased now) (abstract_meaning program g vs (given (erase past) (steered_by now (at_controls c))) (erased now))) (sym (name_is (reverse program) f n is_node))
            (erased_with program f vs past free (steered_by now (at_controls c)) now r typed.values
            (record { told = λ p b e. same p ∙ e; alike = λ p. ap marked (same p) })
            (λ p. sym (row_marked (types_of program) (controls_of n.contract) c chosen p) ∙ ap marked (sym (as_chosen p)))
            met);
      }

  played : (inputs : List (List Value)) (frees : List Instant) (past : Past) → Reaction program f inputs frees past → ChosenThroughout program f past → Each (AreOf (types_of program) n.inputs) inputs → AllTyped program n past → AllSupposed n (erase past) → Played program n (erase past)
  played [] [] [] reaction chosen fits typed supposed = tt
  played [] [] (now ∷ past) reaction chosen fits typed supposed = absurd reaction
  played [] (free ∷ frees) past reaction chosen fits typed supposed = absurd reaction
  played (vs ∷ inputs) [] past reaction chosen fits typed supposed = absurd reaction
  played (vs ∷ inputs) (free ∷ frees) [] reaction chosen fits typed supposed = absurd reaction
  played (vs ∷ inputs) (free ∷ frees) (now ∷ past) reaction chosen fits typed supposed =
      let fit = abstractly (types_of program) n.inputs vs fits.0 in
      let c = choice_of program (reverse program) f n past now is_node chosen.1 in
      let m = instant_of (types_of program) (reverse program) f n vs (given past free) now is_node reaction.1 in
      let same = inputs_are (types_of program) n.inputs vs (part Inputs now) fit (λ p. m.1 (Inputs ∷ p)) in (
        played inputs frees past reaction.0 chosen.0 fits.1 typed.0 supposed.0,
        (
          vs,
          now,
          controls_at n now,
          fit,
          allowed program n (erase past) vs now (controls_at n now) (subst (λ ws. IsChosen program n (erase past) ws now (controls_at n now)) same c),
          next_is vs past free now reaction.1 fit typed.1 c.fits,
          supposed.1,
        ),
      )

pub erased_next : ErasedNextLaw
erased_next program f n r is_node inputs past free now = next_is program f n r is_node inputs past free now

pub run_keeps : RunKeepsDutyLaw
run_keeps program f inputs outputs run r safe typed supposed =
    let n = run.reaction.node in
    guaranteed program n (erase run.past) safe
    (played program f n r run.reaction.is_node (reverse inputs) run.frees run.past run.reaction.reaction run.chosen run.reaction.inputs_fit typed supposed)
