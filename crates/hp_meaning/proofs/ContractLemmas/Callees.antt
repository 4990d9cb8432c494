-- The instance of each call of a node holds what the callee does.
use Rattle.std.proofs.Common.{◌≡◌, ℕ, inl, inr, List, [], ◌∷◌, None, Some, refl, sym, ap, ◌∙◌, subst}
use Rattle.std.proofs.lemmas.List.Elements.{All-nil, All-cons}
use Rattle.std.proofs.lemmas.Slice.Eq.{bytes_eq-Decides}
use Rattle.std.specs.Prelude.{Bool, true, false, IsTrue, ◌⊎◌, if◌then◌else◌, reverse, filter, All, ◌++◌}
use Rattle.std.specs.Str.{bytes_eq}
use Rattle.hp_base.specs.declared.value.Value.{Value}
use Rattle.hp_base.specs.declared.value.Value.TheVariants.{Absent, B}
use Rattle.hp_tree.specs.declared.program.Item.{Item}
use Rattle.hp_tree.specs.declared.program.Item.TheVariants.{TypeItem, NodeItem}
use Rattle.hp_tree.specs.Blocks.{Decl}
use Rattle.hp_tree.specs.Programs.{TypeDecl, Node}
use Rattle.hp_tree.specs.Operators.{real, constant_of, is_there}
use Rattle.hp_tree.specs.Instant.{Controls, Body, Fresh, Tail, Instance, Place, Instant, Past, Given, part, parts, own}
use Rattle.hp_tree.specs.Meaning.{Names, Nodes, lasts, input_of, names_of, types_of, controls_of, given_to, node, nodes, node_among}
use Rattle.hp_meaning.specs.Causal.Points.{Placed, Whereabouts, controls, points, points_of, points_of_contract}
use Rattle.hp_meaning.specs.Causal.Sources.{below}
use Rattle.hp_meaning.specs.Contract.Forgetting.{ContractsCallNothing}
use Rattle.hp_meaning.specs.Contract.FreePlaces.{is_call, instance_at, calls_of}
use Rattle.hp_meaning.specs.Contract.ChosenRuns.{own_past, NamesApart, HoldsCallee, InstanceLaw}
use Rattle.hp_meaning.proofs.ContractLemmas.Forgets.{given, Met}
use Rattle.hp_meaning.proofs.ContractLemmas.ForgetsNodes.{nothing_called_reverse}
use Rattle.hp_meaning.proofs.ContractLemmas.Instances.{EachCall, each_append, each_of_none, Held, At, into_block, block_calls}

-- ---- the word whether an instance begins anew

abbrev pub Word : Instant → Type 0
Word i = (i (Fresh ∷ []) ≡ B false) ⊎ ((p : Place) → i p ≡ Absent)

either_word : (d : Bool) (i j : Instant) → Word i → Word j → Word (if d then i else j)
either_word true i j h k = h
either_word false i j h k = k

pub word_of : (types : List TypeDecl) (items : List Item) (f : List ℕ) (vs : List Value) (g : Given) (now : Instant) → Word ((nodes types real items).instant f vs g now)
word_of types [] f vs g now = inr (λ p. refl)
word_of types (TypeItem t ∷ items) f vs g now = word_of types items f vs g now
word_of types (NodeItem n ∷ items) f vs g now = either_word (bytes_eq n.name f) _ _ (inl refl) (word_of types items f vs g now)

-- ---- a node

each_control : (Q : Placed → Type 0) (ds : List Decl) (w : Whereabouts) → EachCall Q (controls ds w)
each_control Q [] w = tt
each_control Q (d ∷ ds) w = ((λ e. absurd (not_a_call e)), each_control Q ds (below Tail w))
  where
    not_a_call : IsTrue false → ⊥
    not_a_call e = absurd (cc)

each_all : (Q : Placed → Type 0) (ps : List Placed) → EachCall Q ps → All Q (filter (λ c. is_call c.point.kind) ps)
each_all Q [] h = All-nil Q
each_all Q (p ∷ ps) h = added (is_call p.point.kind) h.0 (each_all Q ps h.1)
  where
    added : (d : Bool) → (IsTrue d → Q p) → All Q (filter (λ c. is_call c.point.kind) ps) → All Q (if d then p ∷ filter (λ c. is_call c.point.kind) ps else filter (λ c. is_call c.point.kind) ps)
    added true f k = All-cons Q p _ (f refl) k
    added false f k = k

abbrev absent : Names
absent x = Absent

module _ (types : List TypeDecl) (N : Nodes) (word : (f : List ℕ) (vs : List Value) (g : Given) (now : Instant) → Word (N.instant f vs g now)) (n : Node) (called_nothing : filter (λ c. is_call c.point.kind) (points_of_contract n.contract (λ p. p)) ≡ []) (vs : List Value) (past : Past) (free now : Instant) (met : Met now (node types real N n vs (given past free) now)) where
  abbrev HeldNow : Placed → Type 0
  HeldNow = Held types N word past now

  pub calls_held : All HeldNow (calls_of n)
  calls_held =
      let cs = controls_of n.contract in
      let names = input_of cs (given_to types real N cs (part Controls free)) (input_of n.inputs vs absent) in
      let last = lasts (constant_of types) n.outputs past absent in
      let root : At types N word past now false true (λ p. p) past now = record { way = λ p. refl; plain = λ q. refl; seen = λ p. refl; read = λ t. refl; onward = λ q h. h } in
      let m = λ (p : Place). met (Body ∷ p) in
      let at_body = into_block types N word past now Body false refl refl true (λ p. p) past now n.body false names last (part Body free) root m in
      each_all HeldNow (points n)
      (each_append HeldNow (controls (controls_of n.contract) (λ p. Controls ∷ p)) (points_of_contract n.contract (λ p. p) ++ points_of (names_of n.outputs) n.body (λ p. Body ∷ p))
      (each_control HeldNow (controls_of n.contract) (λ p. Controls ∷ p))
      (each_append HeldNow (points_of_contract n.contract (λ p. p)) (points_of (names_of n.outputs) n.body (λ p. Body ∷ p))
      (each_of_none HeldNow (points_of_contract n.contract (λ p. p)) called_nothing)
      (block_calls types N word past now n.body (names_of n.outputs) true (λ p. Body ∷ p) false names last (own (parts Body past)) (part Body free) (part Body now) at_body m)))

-- ---- a program

none_same : {A : Type 0} (x : A) → Some x ≡ None → ⊥
none_same x e = absurd (cc)

some_same : {A : Type 0} (x y : A) → Some x ≡ Some y → x ≡ y
some_same x y e = cc

module _ (types : List TypeDecl) where
  -- The nodes that are declared before one hold what those of the program do, or nothing.
  abbrev SameOrNone : List Item → List Item → Type 0
  SameOrNone earlier items = (g : List ℕ) (vs : List Value) (G : Given) (i : Instant) → ((nodes types real earlier).instant g vs G i ≡ (nodes types real items).instant g vs G i) ⊎ ((p : Place) → (nodes types real earlier).instant g vs G i p ≡ Absent)

  record Located (items : List Item) (n : Node) (vs : List Value) (g : Given) (now : Instant) : Type 0 where
    earlier : List Item
    holds_node : Met now (node types real (nodes types real earlier) n vs g now)
    calls_nothing : filter (λ c. is_call c.point.kind) (points_of_contract n.contract (λ p. p)) ≡ []
    alike : SameOrNone earlier items

  -- a name that no node has
  unknown : (items : List Item) (g : List ℕ) → node_among items g ≡ None → (vs : List Value) (G : Given) (i : Instant) (p : Place) → (nodes types real items).instant g vs G i p ≡ Absent
  unknown [] g e vs G i p = refl
  unknown (TypeItem t ∷ items) g e vs G i p = unknown items g e vs G i p
  unknown (NodeItem m ∷ items) g e vs G i p = by_test (bytes_eq m.name g) (λ e. unknown items g e vs G i p) e
    where
      by_test : (d : Bool) → (node_among items g ≡ None → (nodes types real items).instant g vs G i p ≡ Absent) → (if d then Some m else node_among items g) ≡ None → (if d then node types real (nodes types real items) m vs G i else (nodes types real items).instant g vs G i) p ≡ Absent
      by_test true next e = absurd (none_same m e)
      by_test false next e = next e

  added : (m : Node) (earlier items : List Item) → node_among items m.name ≡ None → SameOrNone earlier items → SameOrNone earlier (NodeItem m ∷ items)
  added m earlier items apart same g vs G i = by_test (bytes_eq m.name g) (bytes_eq-Decides m.name g).0 (same g vs G i)
    where
      X : Instant
      X = (nodes types real earlier).instant g vs G i

      Y : Instant
      Y = (nodes types real items).instant g vs G i

      by_test : (d : Bool) → (IsTrue d → m.name ≡ g) → ((nodes types real earlier).instant g vs G i ≡ (nodes types real items).instant g vs G i) ⊎ ((p : Place) → (nodes types real earlier).instant g vs G i p ≡ Absent) → ((nodes types real earlier).instant g vs G i ≡ (if d then node types real (nodes types real items) m vs G i else (nodes types real items).instant g vs G i)) ⊎ ((p : Place) → (nodes types real earlier).instant g vs G i p ≡ Absent)
      by_test d k (inr h) = inr h
      by_test true k (inl e) = inr (λ p. ap (λ (i : Instant). i p) e ∙ unknown items g (subst (λ x. node_among items x ≡ None) (k refl) apart) vs G i p)
      by_test false k (inl e) = inl e

  located : (items : List Item) (f : List ℕ) (n : Node) (vs : List Value) (g : Given) (now : Instant) → ContractsCallNothing items → NamesApart items → node_among items f ≡ Some n → Met now ((nodes types real items).instant f vs g now) → Located items n vs g now
  located [] f n vs g now r k e met = absurd (none_same n (sym e))
  located (TypeItem t ∷ items) f n vs g now r k e met =
      let l = located items f n vs g now r k e met in
      record { earlier = l.earlier; holds_node = l.holds_node; calls_nothing = l.calls_nothing; alike = l.alike }
  located (NodeItem m ∷ items) f n vs g now r k e met =
      by_test (bytes_eq m.name f) (located items f n vs g now r.1 k.1) e met
    where
      by_test : (d : Bool) → (node_among items f ≡ Some n → Met now ((nodes types real items).instant f vs g now) → Located items n vs g now) → (if d then Some m else node_among items f) ≡ Some n → Met now (if d then node types real (nodes types real items) m vs g now else (nodes types real items).instant f vs g now) → Located (NodeItem m ∷ items) n vs g now
      by_test true next e met =
          let s = some_same m n e in
          record {
            earlier = items;
            holds_node = subst (λ (n : Node). Met now (node types real (nodes types real items) n vs g now)) s met;
            calls_nothing = subst (λ (n : Node). filter (λ c. is_call c.point.kind) (points_of_contract n.contract (λ p. p)) ≡ []) s r.0;
            alike = added m items items k.0 (λ g vs G i. inl refl);
          }
      by_test false next e met =
          let l = next e met in
          record { earlier = l.earlier; holds_node = l.holds_node; calls_nothing = l.calls_nothing; alike = added m l.earlier items k.0 l.alike }

absent_there : {X : Type 0} (v : Value) → v ≡ Absent → IsTrue (is_there v) → X
absent_there v e t = absurd (false_is_not (subst (λ v. IsTrue (is_there v)) e t))
  where
    false_is_not : IsTrue false → ⊥
    false_is_not e = absurd (cc)

pub instances_hold : InstanceLaw
instances_hold program f n inputs past free now r k e met =
    let types = types_of program in
    let l = located types (reverse program) f n inputs (given past free) now (nothing_called_reverse program r) k e met in
    let held = calls_held types (nodes types real l.earlier) (word_of types l.earlier) n l.calls_nothing inputs past free now l.holds_node in
    λ i d b. callee l.earlier l.alike _ (held i d b)
  where
    callee : (earlier : List Item) → SameOrNone (types_of program) earlier (reverse program) → (c : Placed) → Held (types_of program) (nodes (types_of program) real earlier) (word_of (types_of program) earlier) past now c → HoldsCallee program past now c
    callee earlier alike c held there =
        let h = held.holds_it there in
        let G = given (own_past (c.place ++ (Instance ∷ [])) past now) h.1 in
        (h.0, h.1, λ p. h.2 p ∙ either (alike c.point.name h.0 G (instance_at c now)) (h.2 (Fresh ∷ [])) p)
      where
        either : {X Y : Instant} → (X ≡ Y) ⊎ ((p : Place) → X p ≡ Absent) → instance_at c now (Fresh ∷ []) ≡ X (Fresh ∷ []) → (p : Place) → X p ≡ Y p
        either (inl e) h p = ap (λ (i : Instant). i p) e
        either (inr a) h p = absent_there (instance_at c now (Fresh ∷ [])) (h ∙ a (Fresh ∷ [])) there
