-- Called nodes: their wires are typed and sound, and their registers stay in shape.
use Rattle.std.proofs.Common.{◌≡◌, ℕ, List, [], ◌∷◌, refl, sym, ap, subst, ◌∙◌}
use Rattle.std.specs.Prelude.{Bool, true, false, ◌||◌, IsTrue, IsFalse, if◌then◌else◌, Option, None, Some}
use Rattle.std.specs.Str.{bytes_eq}
use Rattle.hp_base.specs.declared.value.Value.{Value}
use Rattle.hp_base.specs.declared.value.Value.TheVariants.{Absent}
use Rattle.hp_tree.specs.declared.program.Item.{Item}
use Rattle.hp_tree.specs.declared.program.Item.TheVariants.{TypeItem, NodeItem}
use Rattle.hp_tree.specs.Blocks.{Decl}
use Rattle.hp_tree.specs.Programs.{TypeDecl, Contract, Node}
use Rattle.hp_tree.specs.Instant.{Named, Instant, nothing}
use Rattle.hp_tree.specs.Meaning.{Names, declares, input_of, names_of, node_among, absent}
use Rattle.hp_typing.specs.Scopes.{inside_node}
use Rattle.law_judged.specs.Typed.Scopes.{Scope}
use Rattle.hp_meaning.specs.Causal.Clocked.{Standing, on_base, ContractRight, ClocksRight}
use Rattle.hp_meaning.specs.Causal.Abstract.{given_outputs}
use Rattle.hp_meaning.specs.Contract.Memory.{remembers_callee}
use Rattle.law_values.specs.Valued.Judged.{no_lasts, lasts_in as known_lasts, NodeSound, ContractSound}
use Rattle.law_values.specs.Valued.Values.{Classing, AreAccepted, scope_behind, either_of, class_behind}
use Rattle.law_values.proofs.ValuedLemmas.Laws.{not_both}
use Rattle.law_values.proofs.ValuedLemmas.Typed.{some_is}
use Rattle.law_games.specs.Wires.Wired.{Held}
use Rattle.law_games.specs.Wires.WiredNodes.{wired_observer, SoundObserver}
use Rattle.law_games.specs.Wires.WiredCallees.{no_callees, alone_names, own_last, wired_alone, next_told_of, next_alone, SoundAlone, outputs_by, wired_by, next_by, SoundBy, callee_wires}
use Rattle.law_games.proofs.WiresLemmas.Callees.{memory_alone}
use Rattle.law_games.specs.Wiretyped.Typed.{IsWire, AreWires, OutputsTyped, ContractTyped}
use Rattle.law_games.specs.Wiretyped.Kept.{OutputsGiven, ContractGiven}
use Rattle.law_games.specs.Wiretyped.Callees.{none_typed, none_kept, any_given, AloneTyped, OwnKept, AloneKept, AloneGiven, CalleeTyped, CalleeKept, CalleeGiven}
use Rattle.law_games.proofs.WiretypedLemmas.Exprs.{CalleesTyped, NamesAre}
use Rattle.law_games.proofs.WiretypedLemmas.Scopes.{last_declared, last_constant}
use Rattle.law_games.proofs.WiretypedLemmas.Contracts.{contract_wires, contract_sound, contract_next, contract_begins, typed_part, input_typed, output_typed, given_typed, outputs_last, given_at, given_other, declares_own, declares_more}

none_called : (types : List TypeDecl) (among : List ℕ → Option Node) → CalleesTyped types no_callees among none_typed none_kept any_given
none_called types among =
    record {
      outputs = λ f n start mem a k. absurd k;
      gives = λ f n i a w. absurd w;
      wires = λ f n ins m now a i k g w. absurd k;
      sound = λ f n ins m now a i k g w. absurd k;
      next = λ f n ins m now a i k g w. absurd k;
      begins = λ f n start mem a k. absurd k;
    }

module _ (types : List TypeDecl) (among : List ℕ → Option Node) (s : Scope) (n : Node) (ok : NodeSound types among s n) (r : ClocksRight n) where
  -- what the contract reads: outputs, which are given, and inputs
  alone_reads : (ins : List Value) (free : Instant) → AreWires types n.inputs ins → OutputsGiven types n.outputs free → NamesAre types (inside_node s n) (λ x. on_base (declares n.inputs x || declares n.outputs x)) (alone_names n ins free)
  alone_reads ins free a g x c t on l = by (declares n.outputs x) refl
    where
      is_some : (b : Bool) → on_base b ≡ Some c → IsTrue b
      is_some true h = refl
      is_some false h = cc

      read : (b e : Bool) → declares n.inputs x ≡ b → IsFalse e → IsTrue (b || e) → IsWire types t (input_of n.inputs ins absent x)
      read true e q f h = input_typed types among (inside_node s n) n.inputs ins absent x t a ok.0.0 l q
      read false e q f h = absurd (not_both e h f)

      by : (d : Bool) → declares n.outputs x ≡ d → IsWire types t (alone_names n ins free x)
      by true q = subst (λ v. IsWire types t v) (sym (given_at n.outputs free (input_of n.inputs ins absent) x q)) (given_typed types among (inside_node s n) n.outputs free x t g ok.0.1 l q)
      by false q =
          subst (λ v. IsWire types t v) (sym (given_other n.outputs free (input_of n.inputs ins absent) x q))
          (read (declares n.inputs x) (declares n.outputs x) refl q (is_some (declares n.inputs x || declares n.outputs x) on))

  outputs_given : (ds : List Decl) (free rest : Instant) → ((x : List ℕ) → IsTrue (declares ds x) → IsTrue (declares n.outputs x)) → OutputsGiven types ds free → ((x : List ℕ) → rest (Named x ∷ []) ≡ given_outputs n.outputs free absent x) → OutputsTyped types ds rest
  outputs_given [] free rest inc g same = tt
  outputs_given (d ∷ ds) free rest inc g same = (
    subst (λ v. IsWire types d.ty v) (sym (same d.name ∙ given_at n.outputs free absent d.name (inc d.name (declares_own d ds)))) g.0,
    outputs_given ds free rest (λ x z. inc x (declares_more d ds x z)) g.1 same,
  )

  -- ---- the contract, where there is one

  own_wires : (o : Option Contract) (st : Standing) (names : Names) (m : Held) (now : Instant) → ContractRight st o → ContractSound types among (inside_node s n) (known_lasts n.outputs no_lasts) o → NamesAre types (inside_node s n) st names → OwnKept types s n o m.start m.memory → ContractGiven types any_given (inside_node s n) o m.free → ContractTyped types none_typed (inside_node s n) o now → ContractTyped types none_typed (inside_node s n) o (wired_observer types no_callees o names (own_last n m) m now)
  own_wires None st names m now c k nk h g w = tt
  own_wires (Some o) st names m now c k nk h g w =
      contract_wires types no_callees among none_typed none_kept any_given (none_called types among) (Some o) (inside_node s n) st (known_lasts n.outputs no_lasts) names (own_last n m) m now nk (outputs_last types among (inside_node s n) n.outputs m.memory ok.0.1 h.0) c k h.1 g w

  own_sound : (o : Option Contract) (st : Standing) (names : Names) (m : Held) (W : Instant) → ContractRight st o → ContractSound types among (inside_node s n) (known_lasts n.outputs no_lasts) o → NamesAre types (inside_node s n) st names → OwnKept types s n o m.start m.memory → ContractGiven types any_given (inside_node s n) o m.free → ContractTyped types none_typed (inside_node s n) o W → SoundObserver types no_callees o names (own_last n m) m W
  own_sound None st names m W c k nk h g w = tt
  own_sound (Some o) st names m W c k nk h g w =
      contract_sound types no_callees among none_typed none_kept any_given (none_called types among) (Some o) (inside_node s n) st (known_lasts n.outputs no_lasts) names (own_last n m) m W nk (outputs_last types among (inside_node s n) n.outputs m.memory ok.0.1 h.0) c k h.1 g w

  own_next : (o : Option Contract) (names : Names) (m : Held) (W : Instant) → ContractSound types among (inside_node s n) (known_lasts n.outputs no_lasts) o → OwnKept types s n o m.start m.memory → ContractGiven types any_given (inside_node s n) o m.free → OutputsTyped types n.outputs W → ContractTyped types none_typed (inside_node s n) o W → OwnKept types s n o m.start (next_told_of types n.outputs o names (own_last n m) m W)
  own_next None names m W k h g o w = tt
  own_next (Some c) names m W k h g o w = (
    (λ x t q l. subst (λ b. IsWire types t (if b then W (Named x ∷ []) else Absent)) (sym q) (output_typed types among (inside_node s n) n.outputs W x t o ok.0.1 l (last_declared n.outputs x q))),
    contract_next types no_callees among none_typed none_kept any_given (none_called types among) (Some c) (inside_node s n) (known_lasts n.outputs no_lasts) names (own_last n m) m W k h.1 g w,
  )

  own_begins : (o : Option Contract) (start mem : Instant) → ContractSound types among (inside_node s n) (known_lasts n.outputs no_lasts) o → OwnKept types s n o start mem → OwnKept types s n o start (memory_alone types n.outputs o start [])
  own_begins None start mem k h = tt
  own_begins (Some c) start mem k h = (
    (λ x t q l. last_constant types among (inside_node s n) n.body n.outputs x t ok.0.1 ok.1.1.1.0 q l),
    contract_begins types no_callees among none_typed none_kept any_given (none_called types among) (Some c) (inside_node s n) (known_lasts n.outputs no_lasts) start mem k h.1,
  )

  -- ---- an instance

  alone_wires : (ins : List Value) (m : Held) (now : Instant) → AreWires types n.inputs ins → AloneKept types s n m.start m.memory → AloneGiven types s n m.free → AloneTyped types s n now → AloneTyped types s n (wired_alone types n ins m now)
  alone_wires ins m now a k g w = (
    outputs_given n.outputs m.free (wired_alone types n ins m now) (λ x z. z) g.0 (λ x. refl),
    typed_part types no_callees among none_typed none_kept any_given (none_called types among) n.contract (inside_node s n) (given_outputs n.outputs m.free absent) ins [] nothing (wired_observer types no_callees n.contract (alone_names n ins m.free) (own_last n m) m now)
        (own_wires n.contract _ (alone_names n ins m.free) m now r.contract ok.1.1.1.1.1 (alone_reads ins m.free a g.0) k g.1 w.1),
  )

  alone_sound : (ins : List Value) (m : Held) (W : Instant) → AreWires types n.inputs ins → AloneKept types s n m.start m.memory → AloneGiven types s n m.free → AloneTyped types s n W → SoundAlone types n ins m W
  alone_sound ins m W a k g w = own_sound n.contract _ (alone_names n ins m.free) m W r.contract ok.1.1.1.1.1 (alone_reads ins m.free a g.0) k g.1 w.1

  alone_next : (ins : List Value) (m : Held) (W : Instant) → AloneKept types s n m.start m.memory → AloneGiven types s n m.free → AloneTyped types s n W → AloneKept types s n m.start (next_alone types n ins m W)
  alone_next ins m W k g w = own_next n.contract (alone_names n ins m.free) m W ok.1.1.1.1.1 k g.1 w.0 w.1

  alone_begins : (start mem : Instant) → AloneKept types s n start mem → AloneKept types s n start (remembers_callee types (Some n) start [])
  alone_begins start mem k = own_begins n.contract start mem ok.1.1.1.1.1 k

-- ---- the nodes of a program by their names

this_one : {A : Type 0} (a b : A) → Some a ≡ Some b → a ≡ b
this_one a b h = some_is a b h

module _ (types : List TypeDecl) where
  outputs_at : (class : Classing) (items : List Item) (f : List ℕ) (n : Node) → node_among items f ≡ Some n → outputs_by types (node_among items f) ≡ names_of n.outputs
  outputs_at class items f n a = ap (outputs_by types) a

  gives_at : (items : List Item) (f : List ℕ) (n : Node) (i : Instant) → node_among items f ≡ Some n → CalleeTyped types items f i → OutputsTyped types n.outputs i
  gives_at [] f n i a w = absurd w
  gives_at (TypeItem t ∷ items) f n i a w = gives_at items f n i a w
  gives_at (NodeItem k ∷ items) f n i a w = by (bytes_eq k.name f) (gives_at items f n i) a w
    where
      by : (b : Bool) → (node_among items f ≡ Some n → CalleeTyped types items f i → OutputsTyped types n.outputs i) → (if b then Some k else node_among items f) ≡ Some n → either_of b (AloneTyped types (scope_behind items) k i) (CalleeTyped types items f i) → OutputsTyped types n.outputs i
      by true g a w = subst (λ z. OutputsTyped types z.outputs i) (this_one k n a) w.0
      by false g a w = g a w

  wires_at : (class : Classing) (items : List Item) (f : List ℕ) (n : Node) (ins : List Value) (m : Held) (now : Instant) → AreAccepted types class items → node_among items f ≡ Some n → AreWires types n.inputs ins → CalleeKept types items f m.start m.memory → CalleeGiven types items f m.free → CalleeTyped types items f now → CalleeTyped types items f (wired_by types (node_among items f) ins m now)
  wires_at class [] f n ins m now acc a i k g w = absurd w
  wires_at class (TypeItem t ∷ items) f n ins m now acc a i k g w = wires_at class items f n ins m now acc a i k g w
  wires_at class (NodeItem c ∷ items) f n ins m now acc a i k g w = by (bytes_eq c.name f) (λ a i. wires_at (class_behind class) items f n ins m now acc.1 a i) a i k g w
    where
      by : (b : Bool) → (node_among items f ≡ Some n → AreWires types n.inputs ins → CalleeKept types items f m.start m.memory → CalleeGiven types items f m.free → CalleeTyped types items f now → CalleeTyped types items f (wired_by types (node_among items f) ins m now)) → (if b then Some c else node_among items f) ≡ Some n → AreWires types n.inputs ins
          → either_of b (AloneKept types (scope_behind items) c m.start m.memory) (CalleeKept types items f m.start m.memory) → either_of b (AloneGiven types (scope_behind items) c m.free) (CalleeGiven types items f m.free) → either_of b (AloneTyped types (scope_behind items) c now) (CalleeTyped types items f now)
          → either_of b (AloneTyped types (scope_behind items) c (wired_by types (if b then Some c else node_among items f) ins m now)) (CalleeTyped types items f (wired_by types (if b then Some c else node_among items f) ins m now))
      by true h a i k g w = alone_wires types (node_among items) (scope_behind items) c acc.0.sound acc.0.clocks ins m now (subst (λ z. AreWires types z.inputs ins) (sym (this_one c n a)) i) k g w
      by false h a i k g w = h a i k g w

  sound_at : (class : Classing) (items : List Item) (f : List ℕ) (n : Node) (ins : List Value) (m : Held) (now : Instant) → AreAccepted types class items → node_among items f ≡ Some n → AreWires types n.inputs ins → CalleeKept types items f m.start m.memory → CalleeGiven types items f m.free → CalleeTyped types items f now → SoundBy types (node_among items f) ins m now
  sound_at class [] f n ins m now acc a i k g w = absurd w
  sound_at class (TypeItem t ∷ items) f n ins m now acc a i k g w = sound_at class items f n ins m now acc a i k g w
  sound_at class (NodeItem c ∷ items) f n ins m now acc a i k g w = by (bytes_eq c.name f) (λ a i. sound_at (class_behind class) items f n ins m now acc.1 a i) a i k g w
    where
      by : (b : Bool) → (node_among items f ≡ Some n → AreWires types n.inputs ins → CalleeKept types items f m.start m.memory → CalleeGiven types items f m.free → CalleeTyped types items f now → SoundBy types (node_among items f) ins m now) → (if b then Some c else node_among items f) ≡ Some n → AreWires types n.inputs ins
          → either_of b (AloneKept types (scope_behind items) c m.start m.memory) (CalleeKept types items f m.start m.memory) → either_of b (AloneGiven types (scope_behind items) c m.free) (CalleeGiven types items f m.free) → either_of b (AloneTyped types (scope_behind items) c now) (CalleeTyped types items f now)
          → SoundBy types (if b then Some c else node_among items f) ins m now
      by true h a i k g w = alone_sound types (node_among items) (scope_behind items) c acc.0.sound acc.0.clocks ins m now (subst (λ z. AreWires types z.inputs ins) (sym (this_one c n a)) i) k g w
      by false h a i k g w = h a i k g w

  next_at : (class : Classing) (items : List Item) (f : List ℕ) (n : Node) (ins : List Value) (m : Held) (now : Instant) → AreAccepted types class items → node_among items f ≡ Some n → CalleeKept types items f m.start m.memory → CalleeGiven types items f m.free → CalleeTyped types items f now → CalleeKept types items f m.start (next_by types (node_among items f) ins m now)
  next_at class [] f n ins m now acc a k g w = absurd w
  next_at class (TypeItem t ∷ items) f n ins m now acc a k g w = next_at class items f n ins m now acc a k g w
  next_at class (NodeItem c ∷ items) f n ins m now acc a k g w = by (bytes_eq c.name f) (λ a. next_at (class_behind class) items f n ins m now acc.1 a) a k g w
    where
      by : (b : Bool) → (node_among items f ≡ Some n → CalleeKept types items f m.start m.memory → CalleeGiven types items f m.free → CalleeTyped types items f now → CalleeKept types items f m.start (next_by types (node_among items f) ins m now)) → (if b then Some c else node_among items f) ≡ Some n
          → either_of b (AloneKept types (scope_behind items) c m.start m.memory) (CalleeKept types items f m.start m.memory) → either_of b (AloneGiven types (scope_behind items) c m.free) (CalleeGiven types items f m.free) → either_of b (AloneTyped types (scope_behind items) c now) (CalleeTyped types items f now)
          → either_of b (AloneKept types (scope_behind items) c m.start (next_by types (if b then Some c else node_among items f) ins m now)) (CalleeKept types items f m.start (next_by types (if b then Some c else node_among items f) ins m now))
      by true h a k g w = alone_next types (node_among items) (scope_behind items) c acc.0.sound acc.0.clocks ins m now k g w
      by false h a k g w = h a k g w

  begins_at : (class : Classing) (items : List Item) (f : List ℕ) (n : Node) (start mem : Instant) → AreAccepted types class items → node_among items f ≡ Some n → CalleeKept types items f start mem → CalleeKept types items f start (remembers_callee types (node_among items f) start [])
  begins_at class [] f n start mem acc a k = absurd k
  begins_at class (TypeItem t ∷ items) f n start mem acc a k = begins_at class items f n start mem acc a k
  begins_at class (NodeItem c ∷ items) f n start mem acc a k = by (bytes_eq c.name f) (λ a. begins_at (class_behind class) items f n start mem acc.1 a) a k
    where
      by : (b : Bool) → (node_among items f ≡ Some n → CalleeKept types items f start mem → CalleeKept types items f start (remembers_callee types (node_among items f) start [])) → (if b then Some c else node_among items f) ≡ Some n
          → either_of b (AloneKept types (scope_behind items) c start mem) (CalleeKept types items f start mem)
          → either_of b (AloneKept types (scope_behind items) c start (remembers_callee types (if b then Some c else node_among items f) start [])) (CalleeKept types items f start (remembers_callee types (if b then Some c else node_among items f) start []))
      by true h a k = alone_begins types (node_among items) (scope_behind items) c acc.0.sound acc.0.clocks start mem k
      by false h a k = h a k

  pub callees_typed : (class : Classing) (items : List Item) → AreAccepted types class items → CalleesTyped types (callee_wires types items) (node_among items) (CalleeTyped types items) (CalleeKept types items) (CalleeGiven types items)
  callees_typed class items acc =
      record {
        outputs = λ f n start mem a k. outputs_at class items f n a;
        gives = λ f n i a w. gives_at items f n i a w;
        wires = λ f n ins m now a i k g w. wires_at class items f n ins m now acc a i k g w;
        sound = λ f n ins m now a i k g w. sound_at class items f n ins m now acc a i k g w;
        next = λ f n ins m now a i k g w. next_at class items f n ins m now acc a k g w;
        begins = λ f n start mem a k. begins_at class items f n start mem acc a k;
      }
