-- The same of a call: values of its outputs, which have names of their own, and what is given for its callee's contract.
use Rattle.std.proofs.Common.{◌≡◌, ℕ, List, [], ◌∷◌, ◌++◌, refl, sym, ap, subst, ◌∙◌}
use Rattle.std.proofs.lemmas.Slice.Eq.{bytes_eq-Decides}
use Rattle.std.specs.Prelude.{Bool, true, false, ◌||◌, IsTrue, IsFalse, if◌then◌else◌, Option, None, Some, ⊤}
use Rattle.std.specs.Str.{bytes_eq}
use Rattle.hp_base.specs.declared.ty.Ty.{Ty}
use Rattle.hp_base.specs.declared.ty.Ty.TheVariants as ty
use Rattle.hp_base.specs.declared.value.Value.{Value}
use Rattle.hp_base.specs.declared.value.Value.TheVariants.{Absent, B, E, Star}
use Rattle.hp_tree.specs.declared.program.Item.{Item}
use Rattle.hp_tree.specs.declared.program.Item.TheVariants.{TypeItem, NodeItem}
use Rattle.hp_tree.specs.Blocks.{Decl}
use Rattle.hp_tree.specs.Programs.{TypeDecl, Contract, Node}
use Rattle.hp_tree.specs.Operators.{marked}
use Rattle.hp_tree.specs.ExpressionTypes.{typed_in, untyped}
use Rattle.hp_tree.specs.Instant.{Observer, Assume, Enforce, Named, Place, Instant, nothing, alone}
use Rattle.hp_tree.specs.Meaning.{declares, node_among}
use Rattle.hp_typing.specs.Scopes.{inside_node}
use Rattle.law_judged.specs.Typed.Scopes.{Scope}
use Rattle.law_values.specs.Valued.Values.{scope_behind, either_of}
use Rattle.hp_meaning.specs.Contract.Slots.{Slot, callee_slots, slots_of_contract}
use Rattle.law_games.specs.Wires.WiredNodes.{FillsObserver}
use Rattle.law_games.specs.Wires.WiredCallees.{no_callees, FillsBy}
use Rattle.law_games.specs.Wiretyped.Typed.{IsWire}
use Rattle.law_games.specs.Wiretyped.Kept.{OutputsGiven, ContractGiven}
use Rattle.law_games.specs.Wiretyped.Callees.{any_given, AloneGiven, CalleeGiven}
use Rattle.law_games.specs.Mirror.Memories.{AreApart}
use Rattle.law_games.proofs.MirrorLemmas.Realised.{Realised, Under, Observers, none, join, single, lasts, contract_of, free_of, outputs_slots, lasts_slots}

abbrev pub decls_by : Option Node → List Decl
decls_by None = []
decls_by (Some n) = n.outputs

abbrev no_slots : List ℕ → (Place → Place) → List Slot
no_slots f w = []

same_name : (x : List ℕ) → IsTrue (bytes_eq x x)
same_name x = (bytes_eq-Decides x x).1 refl

-- a name is another one where one is declared and the other is not
other_name : (ds : List Decl) (x y : List ℕ) → IsFalse (declares ds x) → IsTrue (declares ds y) → IsFalse (bytes_eq x y)
other_name ds x y f t = by (bytes_eq x y) refl
  where
    by : (b : Bool) → bytes_eq x y ≡ b → IsFalse b
    by true e = let h : IsTrue (declares ds x) = subst (λ z. IsTrue (declares ds z)) (sym ((bytes_eq-Decides x y).0 e)) t in absurd (cc)
    by false e = refl

or_first : (a b : Bool) → IsTrue a → IsTrue (a || b)
or_first true b h = refl
or_first false b h = absurd (cc)

or_second : (a b : Bool) → IsTrue b → IsTrue (a || b)
or_second true b h = refl
or_second false b h = h

-- the value of a name, and those of others
abbrev named_or : List ℕ → Value → Instant → Instant
named_or x v i (Named y ∷ []) = if bytes_eq x y then v else i (Named y ∷ [])
named_or x v i p = Absent

-- the values of names, and else another instant
abbrev named_by : Instant → Instant → Instant
named_by i j (Named x ∷ []) = i (Named x ∷ [])
named_by i j p = j p

module _ (types : List TypeDecl) (early : Place → Bool) where
  outputs_same : (ds : List Decl) (i j : Instant) → ((x : List ℕ) → IsTrue (declares ds x) → j (Named x ∷ []) ≡ i (Named x ∷ [])) → OutputsGiven types ds i → OutputsGiven types ds j
  outputs_same [] i j h g = tt
  outputs_same (d ∷ ds) i j h g = (
    subst (λ v. IsWire types d.ty (marked v)) (sym (h d.name (or_first (bytes_eq d.name d.name) (declares ds d.name) (same_name d.name)))) g.0,
    outputs_same ds i j (λ x t. h x (or_second (bytes_eq d.name x) (declares ds x) t)) g.1,
  )

  wire_marked : (t : Ty) (v : Value) → IsWire types t v → IsWire types t (marked v)
  wire_marked ty.Bool (B b) h = tt
  wire_marked ty.Bool v h = absurd h
  wire_marked ty.Int v h = ap marked h
  wire_marked (ty.Enum t) (E u k) h = h
  wire_marked (ty.Enum t) v h = absurd h

  output : (q : Place) (t : Ty) → Realised types early (free_of q t) (λ root i. root q ≡ i []) (λ i. IsWire types t (i []))
  output q ty.Bool = single types early q ty.Bool
  output q ty.Int = none types early (λ root i. root q ≡ i []) (λ i. IsWire types ty.Int (i [])) (alone Star) refl
  output q (ty.Enum t) = single types early q (ty.Enum t)

  -- what is over it has its values at the names of outputs
  abbrev Names : (Place → Place) → List Decl → Instant → Instant → Type 0
  Names w ds root i = (x : List ℕ) → IsTrue (declares ds x) → root (w (Named x ∷ [])) ≡ i (Named x ∷ [])

  outputs_of : (ds : List Decl) → AreApart ds → (w : Place → Place) → Realised types early (outputs_slots ds w) (Names w ds) (OutputsGiven types ds)
  outputs_of [] a w = none types early (Names w []) (OutputsGiven types []) nothing tt
  outputs_of (d ∷ ds) a w =
      join types early (free_of (w (Named d.name ∷ [])) d.ty) (outputs_slots ds w) (λ root i. root (w (Named d.name ∷ [])) ≡ i []) (Names w ds) (Names w (d ∷ ds)) (λ i. IsWire types d.ty (i [])) (OutputsGiven types ds) (OutputsGiven types (d ∷ ds))
      (output (w (Named d.name ∷ [])) d.ty) (outputs_of ds a.1 w) (λ i j. named_or d.name (i []) j)
      (λ root i j h. (
        h d.name (or_first (bytes_eq d.name d.name) (declares ds d.name) (same_name d.name)) ∙ here i j,
        (λ x t. h x (or_second (bytes_eq d.name x) (declares ds x) t) ∙ there i j x t),
      ))
      (λ i j g k. (
        subst (λ v. IsWire types d.ty (marked v)) (sym (here i j)) (wire_marked d.ty (i []) g),
        outputs_same ds j (named_or d.name (i []) j) (λ x t. there i j x t) k,
      ))
    where
      here : (i j : Instant) → (if bytes_eq d.name d.name then i [] else j (Named d.name ∷ [])) ≡ i []
      here i j = ap (λ b. if b then i [] else j (Named d.name ∷ [])) (same_name d.name)

      there : (i j : Instant) (x : List ℕ) → IsTrue (declares ds x) → (if bytes_eq d.name x then i [] else j (Named x ∷ [])) ≡ j (Named x ∷ [])
      there i j x t = ap (λ b. if b then i [] else j (Named x ∷ [])) (other_name ds d.name x a.0 t)

  -- ---- the contract of a callee, which calls nothing

  abbrev Alone : Option Contract → Instant → Instant → Type 0
  Alone o st i = ((s : Scope) → ContractGiven types any_given s o i) × FillsObserver types no_callees o st i

  no_calls : (start : Instant) (f : List ℕ) (w : Place → Place) → Realised types early ([] ++ no_slots f w) (Under w) (λ i. any_given f i × no_callees.fills f (λ p. start (w p)) i)
  no_calls start f w = none types early (Under w) (λ i. any_given f i × no_callees.fills f (λ p. start (w p)) i) nothing (tt, tt)

  contract_part : (n : Node) (o : Option Contract) (start : Instant) (w : Place → Place)
      → Realised types early (elim o [ None ↦ [] | Some c ↦ lasts_slots types n.outputs w ++ slots_of_contract types (λ f. []) no_slots (Some c) (typed_in n.inputs (typed_in n.outputs untyped)) w ]) (Observers w) (Alone o (λ p. start (w p)))
  contract_part n None start w = none types early (Observers w) (Alone None (λ p. start (w p))) nothing ((λ s. tt), tt)
  contract_part n (Some c) start w =
      join types early (lasts_slots types n.outputs w) (slots_of_contract types (λ f. []) no_slots (Some c) (typed_in n.inputs (typed_in n.outputs untyped)) w) (λ root i. ⊤) (Observers w) (Observers w) (λ i. ⊤) (Alone (Some c) (λ p. start (w p))) (Alone (Some c) (λ p. start (w p)))
      (lasts types early n.outputs w) (contract_of types early no_callees start (λ f. []) no_slots any_given (no_calls start) (Some c) (typed_in n.inputs (typed_in n.outputs untyped)) w) (λ i j. j) (λ root i j h. (tt, h)) (λ i j g k. k)

  -- ---- a callee

  alone_same : (o : Option Contract) (i j : Instant) (s : Scope) → ContractGiven types any_given s o j → ContractGiven types any_given s o (named_by i j)
  alone_same None i j s g = tt
  alone_same (Some c) i j s g = g

  filled_same : (o : Option Contract) (st i j : Instant) → FillsObserver types no_callees o st j → FillsObserver types no_callees o st (named_by i j)
  filled_same None st i j g = tt
  filled_same (Some c) st i j g = g

  abbrev Given : Node → Instant → Instant → Type 0
  Given n st i = ((s : Scope) → AloneGiven types s n i) × FillsObserver types no_callees n.contract st i

  pub callee : (n : Node) → AreApart n.outputs → (start : Instant) (w : Place → Place) → Realised types early (outputs_slots n.outputs w ++ callee_slots types (Some n) w) (Under w) (Given n (λ p. start (w p)))
  callee n a start w =
      join types early (outputs_slots n.outputs w) (callee_slots types (Some n) w) (Names w n.outputs) (Observers w) (Under w) (OutputsGiven types n.outputs) (Alone n.contract (λ p. start (w p))) (Given n (λ p. start (w p)))
      (outputs_of n.outputs a w) (contract_part n n.contract start w) (λ i j. named_by i j)
      (λ root i j h. ((λ x t. h (Named x ∷ [])), ((λ p. h (Observer ∷ p)), ((λ p. h (Assume ∷ p)), (λ p. h (Enforce ∷ p))))))
      (λ i j g k. ((λ s. (outputs_same n.outputs i (named_by i j) (λ x t. refl) g, alone_same n.contract i j (inside_node s n) (k.0 (inside_node s n)))), filled_same n.contract (λ p. start (w p)) i j k.1))

  -- the callee of a name among some items
  callee_given : (items : List Item) (f : List ℕ) (i : Instant) → ((k : Node) → node_among items f ≡ Some k → (s : Scope) → AloneGiven types s k i) → CalleeGiven types items f i
  callee_given [] f i h = tt
  callee_given (TypeItem t ∷ items) f i h = callee_given items f i h
  callee_given (NodeItem n ∷ items) f i h = by (bytes_eq n.name f) h (λ h. callee_given items f i h)
    where
      by : (b : Bool) → ((k : Node) → (if b then Some n else node_among items f) ≡ Some k → (s : Scope) → AloneGiven types s k i) → (((k : Node) → node_among items f ≡ Some k → (s : Scope) → AloneGiven types s k i) → CalleeGiven types items f i)
          → either_of b (AloneGiven types (scope_behind items) n i) (CalleeGiven types items f i)
      by true h more = h n refl (scope_behind items)
      by false h more = more h

  callee_filled : (o : Option Node) (st i : Instant) → ((k : Node) → o ≡ Some k → FillsObserver types no_callees k.contract st i) → FillsBy types o st i
  callee_filled None st i h = tt
  callee_filled (Some n) st i h = h n refl

  same_node : (k n : Node) → Some k ≡ Some n → n ≡ k
  same_node k n e = ap (λ o. elim o [ None ↦ k | Some z ↦ z ]) (sym e)

  -- what is given for it
  abbrev OfCallee : List Item → List ℕ → Instant → Instant → Type 0
  OfCallee items f st i = CalleeGiven types items f i × FillsBy types (node_among items f) st i

  of_callee : (items : List Item) (f : List ℕ) (st i : Instant) → ((k : Node) → node_among items f ≡ Some k → Given k st i) → OfCallee items f st i
  of_callee items f st i h = (callee_given items f i (λ k e. (h k e).0), callee_filled (node_among items f) st i (λ k e. (h k e).1))

  -- the same where the node is found among others
  pub callee_among : (items : List Item) (f : List ℕ) (o : Option Node) → ((k : Node) → node_among items f ≡ Some k → o ≡ Some k) → ((k : Node) → o ≡ Some k → AreApart k.outputs) → (start : Instant) (w : Place → Place)
      → Realised types early (outputs_slots (decls_by o) w ++ callee_slots types o w) (Under w) (OfCallee items f (λ p. start (w p)))
  callee_among items f None found a start w =
      none types early (Under w) (OfCallee items f (λ p. start (w p))) nothing (of_callee items f (λ p. start (w p)) nothing (λ k e. let no : None ≡ Some k = found k e in absurd (cc)))
  callee_among items f (Some n) found a start w =
      let r = callee n (a n refl) start w in
      (r.0, λ vs ws hv hw. let x = r.1 vs ws hv hw in (x.0, of_callee items f (λ p. start (w p)) x.0 (λ k e. subst (λ z. Given z (λ p. start (w p)) x.0) (same_node k n (sym (found k e))) x.1), x.2))
