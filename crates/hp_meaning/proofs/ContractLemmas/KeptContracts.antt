-- In a run each instance, at every depth, keeps its contract.
use Rattle.std.proofs.Common.{◌≡◌, ℕ, ◌<◌, List, [], ◌∷◌, map, None, Some, refl, sym, ap, ap₂, ◌∙◌, subst, length}
use Rattle.std.proofs.Math.Path.{fun_ext}
use Rattle.std.proofs.lemmas.List.Elements.{All-nil, All-cons, All-head, All-tail}
use Rattle.std.proofs.lemmas.Slice.Eq.{bytes_eq-Decides}
use Rattle.std.specs.Prelude.{Bool, true, false, not, ◌&&◌, ◌||◌, IsTrue, if◌then◌else◌, reverse, All, ◌++◌, filter, Option, slice_index_or}
use Rattle.std.specs.List.{list_all}
use Rattle.std.specs.Str.{bytes_eq}
use Rattle.std.specs.Bool.{MatchBool}
use Rattle.hp_base.specs.declared.value.Value.{Value}
use Rattle.hp_base.specs.declared.value.Value.TheVariants.{Absent, Nil, B, E, I, Star}
use Rattle.hp_tree.specs.declared.program.Item.{Item}
use Rattle.hp_tree.specs.declared.program.Item.TheVariants.{TypeItem, NodeItem}
use Rattle.hp_tree.specs.Blocks.{Decl}
use Rattle.hp_tree.specs.Programs.{TypeDecl, Contract, Node}
use Rattle.hp_tree.specs.Operators.{real, abstraction, constant_of, marked, is_there}
use Rattle.hp_tree.specs.Instant.{Inputs, Controls, Body, Named, Assume, Enforce, Fresh, Head, Tail, Instance, Place, Instant, Past, Given, part, parts, own, nothing, alone, in_row, in_node}
use Rattle.hp_tree.specs.Meaning.{Names, Nodes, declares, lasts, types_of, input_of, scope, observer, given_to, controls_of, node, nodes, node_among}
use Rattle.hp_tree.specs.Reaction.{Reaction, row_of, controls_at}
use Rattle.hp_meaning.specs.Causal.Points.{Placed, points_of_contract}
use Rattle.hp_meaning.specs.Causal.Abstract.{abstract_among, callees}
use Rattle.hp_meaning.specs.Causal.Steering.{steered_by}
use Rattle.hp_meaning.proofs.CausalLemmas.Choices.{by_cases, if_true, if_false}
use Rattle.hp_meaning.specs.Contract.Forgetting.{erased, erase, ContractsCallNothing}
use Rattle.hp_meaning.specs.Contract.FreePlaces.{is_call, calls_of, instance_at}
use Rattle.hp_meaning.specs.Contract.Duties.{holds_or_missing, assumes, enforces, hypothesis}
use Rattle.hp_meaning.specs.Contract.Game.{Choice, at_controls, Safe, IsChosen, IsAllowed, IsNext, Played, AllOwed}
use Rattle.hp_meaning.specs.Contract.ChosenRuns.{own_past, NamesApart, ChoiceRule, Controlled, ControlledThroughout}
use Rattle.hp_meaning.specs.Contract.Guarantee.{Through, AllAssumed, HasContract, TypedNode, TypedAll, Guaranteed, AllSafe, GuaranteedLaw, RunGuaranteedLaw}
use Rattle.hp_meaning.proofs.ContractLemmas.Forgets.{given, Like, Met}
use Rattle.hp_meaning.proofs.ContractLemmas.ForgetsNodes.{nothing_called_reverse, node_forgets, outputs_same, callees_erase}
use Rattle.hp_meaning.proofs.ContractLemmas.Games.{guaranteed, allowed}
use Rattle.hp_meaning.proofs.ContractLemmas.Guarantees.{steered_is, steered_same, row_marked, inputs_are}
use Rattle.hp_meaning.proofs.ContractLemmas.Instances.{after_step, Goes, Held}
use Rattle.hp_meaning.proofs.ContractLemmas.Callees.{word_of, calls_held}
use Rattle.hp_meaning.proofs.ContractLemmas.OwnPasts.{through_map, AtInstance, along, absent_is}

-- ---- choices

pick : (d : Bool) (A C : Past → Instant → Type 0) (past : Past) → Through (λ older now. MatchBool d (A older now) (C older now)) past → MatchBool d (Through A past) (Through C past)
pick true A C past h = h
pick false A C past h = h

unpick : (d : Bool) (A C : Past → Instant → Type 0) (past : Past) → MatchBool d (Through A past) (Through C past) → Through (λ older now. MatchBool d (A older now) (C older now)) past
unpick true A C past h = h
unpick false A C past h = h

match_map : {P Q R S : Type 0} (d : Bool) → (P → R) → (Q → S) → MatchBool d P Q → MatchBool d R S
match_map true f g h = f h
match_map false f g h = g h

-- ---- inputs that are the same at every place

inputs_alike : (ds : List Decl) (vs ws : List Value) → ((p : Place) → in_row (map alone vs) p ≡ in_row (map alone ws) p) → (x : List ℕ) → input_of ds vs (λ x. Absent) x ≡ input_of ds ws (λ x. Absent) x
inputs_alike [] vs ws h x = refl
inputs_alike (d ∷ ds) [] [] h x = refl
inputs_alike (d ∷ ds) [] (w ∷ ws) h x = no_inputs (bytes_eq d.name x) w (h (Head ∷ [])) (missing ds x ∙ inputs_alike ds [] ws (λ p. h (Tail ∷ p)) x)
  where
    missing : (ds : List Decl) (x : List ℕ) → Absent ≡ input_of ds [] (λ x. Absent) x
    missing [] x = refl
    missing (d ∷ ds) x = refl

    no_inputs : (b : Bool) (w : Value) {u : Value} → Absent ≡ w → Absent ≡ u → Absent ≡ (if b then w else u)
    no_inputs true w e f = e
    no_inputs false w e f = f
inputs_alike (d ∷ ds) (v ∷ vs) [] h x = no_others (bytes_eq d.name x) v (h (Head ∷ [])) (inputs_alike ds vs [] (λ p. h (Tail ∷ p)) x ∙ missing ds x)
  where
    missing : (ds : List Decl) (x : List ℕ) → input_of ds [] (λ x. Absent) x ≡ Absent
    missing [] x = refl
    missing (d ∷ ds) x = refl

    no_others : (b : Bool) (v : Value) {u : Value} → v ≡ Absent → u ≡ Absent → (if b then v else u) ≡ Absent
    no_others true v e f = e
    no_others false v e f = f
inputs_alike (d ∷ ds) (v ∷ vs) (w ∷ ws) h x = ap₂ (λ a b. if bytes_eq d.name x then a else b) (h (Head ∷ [])) (inputs_alike ds vs ws (λ p. h (Tail ∷ p)) x)

in_inputs : (outputs : Names) (vs ws controls : List Value) (body observer : Instant) → ((p : Place) → in_row (map alone vs) p ≡ in_row (map alone ws) p) → (p : Place) → in_node outputs vs controls body observer p ≡ in_node outputs ws controls body observer p
in_inputs outputs vs ws controls body observer h (Inputs ∷ p) = h p
in_inputs outputs vs ws controls body observer h (Named x ∷ []) = refl
in_inputs outputs vs ws controls body observer h (Fresh ∷ []) = refl
in_inputs outputs vs ws controls body observer h p = refl

node_alike : (types : List TypeDecl) (N : Nodes) (n : Node) (g : Given) (now : Instant) (vs ws : List Value) → ((p : Place) → in_row (map alone vs) p ≡ in_row (map alone ws) p) → (p : Place) → node types real N n vs g now p ≡ node types real N n ws g now p
node_alike types N n g now vs ws h p =
    let cs = controls_of n.contract in
    let controls = given_to types real N cs (part Controls g.free) in
    let last = lasts (constant_of types) n.outputs g.past (λ x. Absent) in
    let outputs : Names = λ x. if declares n.outputs x then now (Body ∷ Named x ∷ []) else Absent in
    let body = λ (outer : Names). scope types real N n.body false (input_of cs controls outer) last (given (own (parts Body g.past)) (part Body g.free)) (part Body now) in
    let observed = λ (outer : Names). observer types real N n.contract (λ x. if declares n.outputs x then now (Named x ∷ []) else outer x) last g now in
    let outer : input_of n.inputs vs (λ x. Absent) ≡ input_of n.inputs ws (λ x. Absent) = fun_ext (inputs_alike n.inputs vs ws h) in
    ap (λ outer. in_node outputs vs controls (body outer) (observed outer) p) outer
    ∙ in_inputs outputs vs ws controls (body (input_of n.inputs ws (λ x. Absent))) (observed (input_of n.inputs ws (λ x. Absent))) h p

-- ---- Booleans

holds_marked : (v : Value) → holds_or_missing (marked v) ≡ holds_or_missing v
holds_marked Absent = refl
holds_marked Nil = refl
holds_marked (B b) = refl
holds_marked (E t c) = refl
holds_marked (I n) = refl
holds_marked Star = refl

each_true : {A : Type 0} (t : A → Bool) (xs : List A) → All (λ x. IsTrue (t x)) xs → IsTrue (list_all t xs)
each_true t [] h = refl
each_true t (x ∷ xs) h = both (t x) (list_all t xs) (All-head (λ x. IsTrue (t x)) x xs h) (each_true t xs (All-tail (λ x. IsTrue (t x)) x xs h))
  where
    both : (a b : Bool) → IsTrue a → IsTrue b → IsTrue (a && b)
    both true b e f = f
    both false b e f = e

and_first : (a b : Bool) → IsTrue (a && b) → IsTrue a
and_first true b e = refl
and_first false b e = e

and_second : (a b : Bool) → IsTrue (a && b) → IsTrue b
and_second true b e = e
and_second false b e = absurd (cc)

and_both : (a b : Bool) → IsTrue a → IsTrue b → IsTrue (a && b)
and_both true b e f = f
and_both false b e f = e

all_each : {A : Type 0} (t : A → Bool) (xs : List A) → IsTrue (list_all t xs) → All (λ x. IsTrue (t x)) xs
all_each t [] h = All-nil (λ x. IsTrue (t x))
all_each t (x ∷ xs) h = All-cons (λ x. IsTrue (t x)) x xs (and_first (t x) (list_all t xs) h) (all_each t xs (and_second (t x) (list_all t xs) h))

implied : (a b : Bool) → (IsTrue a → IsTrue b) → IsTrue (not a || b)
implied true b f = f refl
implied false b f = refl

-- An instance whose word is not there is not there at all.
goes_last : (p : Place) (st : Bool) (now : Instant) → Goes st (p ++ (Instance ∷ [])) now → now (p ++ (Instance ∷ Fresh ∷ [])) ≡ Absent → (q : Place) → now (p ++ (Instance ∷ q)) ≡ Absent
goes_last [] st now g e q = g.0 e q
goes_last (s ∷ p) st now g e q = goes_last p (after_step st s) (part s now) g.1 e q

-- ---- what is known of each instant

module _ (program : List Item) where
  abbrev types : List TypeDecl
  types = types_of program

  -- an instant of a node whose callees are declared before it
  record NodeHeld (n : Node) (earlier : List Item) (past : Past) (now : Instant) : Type 0 where
    free : Instant
    met : (vs : List Value) × Met now (node types real (nodes types real earlier) n vs (given past free) now)
    chosen : IsAllowed program n (erase past) (row_of n.inputs (part Inputs now)) now (controls_at n now)
    typed : TypedNode program n now
    chosen_below : All (λ (k : Placed). IsTrue (is_there (instance_at k now (Fresh ∷ []))) → Controlled (IsAllowed program) earlier k.point.name (own_past (k.place ++ (Instance ∷ [])) past now) (instance_at k now)) (calls_of n)
    typed_below : All (λ (k : Placed). IsTrue (is_there (instance_at k now (Fresh ∷ []))) → TypedAll program earlier k.point.name (instance_at k now)) (calls_of n)

  HeldBy : List Item → List ℕ → Past → Instant → Type 0
  HeldBy [] f past now = (p : Place) → now p ≡ Absent
  HeldBy (TypeItem t ∷ earlier) f past now = HeldBy earlier f past now
  HeldBy (NodeItem n ∷ earlier) f past now = MatchBool (bytes_eq n.name f) (NodeHeld n earlier past now) (HeldBy earlier f past now)

  by_name : (d : Bool) (now X Y : Instant) {C D T U P Q : Type 0} → (Met now X → C → T → P) → (Met now Y → D → U → Q) → Met now (if d then X else Y) → MatchBool d C D → MatchBool d T U → MatchBool d P Q
  by_name true now X Y f g m c t = f m c t
  by_name false now X Y f g m c t = g m c t

  held_by : (items : List Item) (f : List ℕ) (vs : List Value) (past : Past) (free now : Instant) → Met now ((nodes types real items).instant f vs (given past free) now) → Controlled (IsAllowed program) items f past now → TypedAll program items f now → HeldBy items f past now
  unfolding HeldBy
  held_by [] f vs past free now met chosen typed = met
  held_by (TypeItem t ∷ items) f vs past free now met chosen typed = held_by items f vs past free now met chosen typed
  held_by (NodeItem n ∷ items) f vs past free now met chosen typed =
      by_name (bytes_eq n.name f) now (node types real (nodes types real items) n vs (given past free) now) ((nodes types real items).instant f vs (given past free) now)
      (λ m c t. record { free = free; met = (vs, m); chosen = c.0; typed = t.0; chosen_below = c.1; typed_below = t.1 })
      (held_by items f vs past free now) met chosen typed

  -- What an instance enforces holds where its assumption held throughout.
  enforced_by : (items : List Item) (f : List ℕ) (past : Past) (now : Instant) → HeldBy items f past now → Guaranteed items f past now → AllAssumed (now ∷ past) → IsTrue (enforces now)
  unfolding HeldBy
  enforced_by [] f past now held kept assumed = ap holds_or_missing (held (Enforce ∷ []))
  enforced_by (TypeItem t ∷ items) f past now held kept assumed = enforced_by items f past now held kept assumed
  enforced_by (NodeItem n ∷ items) f past now held kept assumed = by_test (bytes_eq n.name f) (enforced_by items f past now) held kept
    where
      by_test : (d : Bool) → (HeldBy items f past now → Guaranteed items f past now → AllAssumed (now ∷ past) → IsTrue (enforces now)) → MatchBool d (NodeHeld n items past now) (HeldBy items f past now) → MatchBool d ((AllAssumed (now ∷ past) → IsTrue (enforces now)) × All (λ (k : Placed). IsTrue (is_there (instance_at k now (Fresh ∷ []))) → Guaranteed items k.point.name (own_past (k.place ++ (Instance ∷ [])) past now) (instance_at k now)) (calls_of n)) (Guaranteed items f past now) → IsTrue (enforces now)
      by_test true next held kept = kept.0 assumed
      by_test false next held kept = next held kept assumed

  -- ---- a node, where those declared before it keep their contracts

  module _ (n : Node) (earlier : List Item) (r : ContractsCallNothing earlier) (called_nothing : filter (λ c. is_call c.point.kind) (points_of_contract n.contract (λ p. p)) ≡ []) (seen : (vs : List Value) (G : Given) (i : Instant) → abstract_among types (reverse program) n.name vs G i ≡ node types abstraction (callees types earlier) n (map marked vs) G i) (keep : (f : List ℕ) (past : Past) → Through (HeldBy earlier f) past → Through (Guaranteed earlier f) past) where
    abbrev N : Nodes
    N = nodes types real earlier

    abbrev HeldCall : Past → Instant → Placed → Type 0
    HeldCall past now c = Held types N (word_of types earlier) past now c

    calls_here : (past : Past) (now : Instant) → NodeHeld n earlier past now → All (HeldCall past now) (calls_of n)
    calls_here past now h = calls_held types (nodes types real earlier) (word_of types earlier) n called_nothing h.met.0 past h.free now h.met.1

    abbrev numbered : ℕ → Placed → Placed
    numbered i d = slice_index_or (calls_of n) i d

    call_fact : (i : ℕ) (d : Placed) → i < length (calls_of n) → (past : Past) (now : Instant) → NodeHeld n earlier past now → AtInstance (HeldBy earlier (numbered i d).point.name) false (numbered i d).place past now
    call_fact i d b past now h =
        let k = calls_here past now h i d b in (
          k.goes,
          λ t.
              let x = k.holds_it t in
              held_by earlier (numbered i d).point.name x.0 (own_past ((numbered i d).place ++ (Instance ∷ [])) past now) x.1 (instance_at (numbered i d) now) x.2 (h.chosen_below i d b t) (h.typed_below i d b t),
        )

    kept_below : (i : ℕ) (d : Placed) → i < length (calls_of n) → (past : Past) (now : Instant) → Through (NodeHeld n earlier) past → NodeHeld n earlier past now → IsTrue (is_there (instance_at (numbered i d) now (Fresh ∷ []))) → Guaranteed earlier (numbered i d).point.name (own_past ((numbered i d).place ++ (Instance ∷ [])) past now) (instance_at (numbered i d) now)
    kept_below i d b past now hs h t =
        let c = numbered i d in
        let Q = HeldBy earlier c.point.name in
        let fact = call_fact i d b past now h in
        (keep c.point.name (instance_at c now ∷ own_past (c.place ++ (Instance ∷ [])) past now)
        (along Q c.place false past now (through_map {R = NodeHeld n earlier} {S = AtInstance Q false c.place} (call_fact i d b) past hs) fact.0 t, fact.1 t)).1

    -- what the abstraction sees of a contract
    assumes_same : (c : Placed) (past : Past) (now : Instant) → HeldCall past now c → assumes (instance_at c (erased now)) ≡ assumes (instance_at c now)
    assumes_same c past now k = ap (λ d. holds_or_missing (if d then Absent else marked (now (c.place ++ (Instance ∷ Assume ∷ []))))) (k.place (Assume ∷ [])) ∙ holds_marked (now (c.place ++ (Instance ∷ Assume ∷ [])))

    enforces_same : (c : Placed) (past : Past) (now : Instant) → HeldCall past now c → enforces (instance_at c (erased now)) ≡ enforces (instance_at c now)
    enforces_same c past now k = ap (λ d. holds_or_missing (if d then Absent else marked (now (c.place ++ (Instance ∷ Enforce ∷ []))))) (k.place (Enforce ∷ [])) ∙ holds_marked (now (c.place ++ (Instance ∷ Enforce ∷ [])))

    -- The duty at earlier instants is that the assumptions of callees held.
    assumed_facts : (i : ℕ) (d : Placed) → i < length (calls_of n) → (past : Past) → Through (NodeHeld n earlier) past → AllOwed n (erase past) → Through (AtInstance (λ older j. IsTrue (assumes j)) false (numbered i d).place) past
    assumed_facts i d b [] hs owed = tt
    assumed_facts i d b (now ∷ past) hs owed =
        let c = numbered i d in
        let k = calls_here past now hs.1 i d b in (
          assumed_facts i d b past hs.0 owed.0,
          (k.goes, λ t. sym (assumes_same c past now k) ∙ all_each (λ c. assumes (instance_at c (erased now))) (calls_of n) (and_second (enforces (erased now)) (list_all (λ c. assumes (instance_at c (erased now))) (calls_of n)) owed.1) i d b),
        )

    -- What a node without a contract enforces is nothing.
    nothing_owed : n.contract ≡ None → (past : Past) (now : Instant) → NodeHeld n earlier past now → now (Enforce ∷ []) ≡ Absent
    nothing_owed e past now h = h.met.1 (Enforce ∷ []) ∙ ap (λ (X : Instant). X (Enforce ∷ [])) (unobserved n.contract e _ _ _)
      where
        unobserved : (k : Option Contract) → k ≡ None → (names last : Names) (g : Given) → observer types real N k names last g now ≡ nothing
        unobserved None e names last g = refl
        unobserved (Some c) e names last g = absurd (cc)

    supposed : (past : Past) (now : Instant) → Through (NodeHeld n earlier) past → NodeHeld n earlier past now → AllOwed n (erase past) → IsTrue (assumes now) → IsTrue (hypothesis n (erased now))
    supposed past now hs h owed assumed =
        and_both (assumes (erased now)) _ (holds_marked (now (Assume ∷ [])) ∙ assumed)
        (each_true (λ c. not (assumes (instance_at c (erased now))) || enforces (instance_at c (erased now))) (calls_of n)
        (λ i d b.
        let c = numbered i d in
        let k = calls_here past now h i d b in
        let fact = call_fact i d b past now h in
        implied (assumes (instance_at c (erased now))) (enforces (instance_at c (erased now)))
        (λ ta. enforces_same c past now k
        ∙ by_cases (is_there (instance_at c now (Fresh ∷ [])))
        (λ t. enforced_by earlier c.point.name (own_past (c.place ++ (Instance ∷ [])) past now) (instance_at c now) (fact.1 t) (kept_below i d b past now hs h t)
        (along (λ older j. IsTrue (assumes j)) c.place false past now (assumed_facts i d b past hs owed) k.goes t, sym (assumes_same c past now k) ∙ ta))
        (λ a. ap holds_or_missing (goes_last c.place false now k.goes (absent_is (instance_at c now (Fresh ∷ [])) a) (Enforce ∷ []))))))

    next_here : (past : Past) (now : Instant) (h : NodeHeld n earlier past now) → IsNext program n (erase past) h.typed.inputs now (controls_at n now) (erased now)
    next_here past now h =
        let vs = h.typed.inputs in
        let g = given past h.free in
        let m = λ (p : Place). h.met.1 p ∙ node_alike types N n g now h.met.0 vs (λ p. sym (h.met.1 (Inputs ∷ p)) ∙ h.typed.at_inputs p) p in
        let c = controls_at n now in
        let free' = steered_by now (at_controls c) in
        let same = steered_same types N n vs g now m in
        let as_chosen = steered_is types N n vs g now m in
        let like : Like free' now = record { told = λ p b e. same p ∙ e; alike = λ p. ap marked (same p) } in
        record {
          free = now;
          fits = h.typed.typed.free;
          agrees = λ p e. refl;
          meets = λ p. ap (λ i. erased i p) (fun_ext m)
              ∙ ap (λ (i : Instant). i p) (sym (node_forgets types N n vs past h.free free' now h.typed.typed.values like m (callees types earlier) (outputs_same types earlier) (callees_erase types earlier r) (λ p. sym (row_marked types (controls_of n.contract) c h.chosen.fits p) ∙ ap marked (sym (as_chosen p)))))
              ∙ ap (λ (i : Instant). i p) (sym (seen vs (given (erase past) free') (erased now)));
        }

    played_here : Safe program n [] → (past : Past) → Through (NodeHeld n earlier) past → AllAssumed past → Played program n (erase past)
    played_here safe [] hs assumed = tt
    played_here safe (now ∷ past) hs assumed =
        let h = hs.1 in
        let before = played_here safe past hs.0 assumed.0 in
        let vs = h.typed.inputs in (
          before,
          (
            vs,
            now,
            controls_at n now,
            h.typed.fit,
            subst (λ ws. IsAllowed program n (erase past) ws now (controls_at n now)) (inputs_are types n.inputs vs (part Inputs now) h.typed.fit h.typed.at_inputs) h.chosen,
            next_here past now h,
            supposed past now hs.0 h (guaranteed program n (erase past) safe before) assumed.1,
          ),
        )

    enforced_here : (k : Option Contract) → n.contract ≡ k → (HasContract n → Safe program n []) → (past : Past) (now : Instant) → Through (NodeHeld n earlier) past → NodeHeld n earlier past now → AllAssumed (now ∷ past) → IsTrue (enforces now)
    enforced_here None e safe past now hs h assumed = ap holds_or_missing (nothing_owed e past now h)
    enforced_here (Some c) e safe past now hs h assumed =
        let s = safe (c, e) in
        sym (holds_marked (now (Enforce ∷ []))) ∙ and_first (enforces (erased now)) _ (guaranteed program n (erase (now ∷ past)) s (played_here s (now ∷ past) (hs, h) assumed)).1

    kept_here : (HasContract n → Safe program n []) → (past : Past) → Through (NodeHeld n earlier) past → Through (λ older now. (AllAssumed (now ∷ older) → IsTrue (enforces now)) × All (λ (k : Placed). IsTrue (is_there (instance_at k now (Fresh ∷ []))) → Guaranteed earlier k.point.name (own_past (k.place ++ (Instance ∷ [])) older now) (instance_at k now)) (calls_of n)) past
    kept_here safe [] hs = tt
    kept_here safe (now ∷ past) hs = (
      kept_here safe past hs.0,
      (
        enforced_here n.contract refl safe past now hs.0 hs.1,
        λ i d b t. kept_below i d b past now hs.0 hs.1 t,
      ),
    )

  -- ---- the nodes of a program, one after the other

  abbrev Seen : List Item → Type 0
  Seen items = (f : List ℕ) (m : Node) → node_among items f ≡ Some m → (vs : List Value) (G : Given) (i : Instant) → abstract_among types (reverse program) f vs G i ≡ abstract_among types items f vs G i

  own_name : (n : Node) → IsTrue (bytes_eq n.name n.name)
  own_name n = (bytes_eq-Decides n.name n.name).1 refl

  seen_node : (n : Node) (items : List Item) → Seen (NodeItem n ∷ items) → (vs : List Value) (G : Given) (i : Instant) → abstract_among types (reverse program) n.name vs G i ≡ node types abstraction (callees types items) n (map marked vs) G i
  seen_node n items seen vs G i =
      seen n.name n (if_true (bytes_eq n.name n.name) (Some n) (node_among items n.name) (own_name n)) vs G i
      ∙ if_true (bytes_eq n.name n.name) (node types abstraction (callees types items) n (map marked vs) G i) (abstract_among types items n.name vs G i) (own_name n)

  seen_below : (n : Node) (items : List Item) → node_among items n.name ≡ None → Seen (NodeItem n ∷ items) → Seen items
  seen_below n items apart seen f m e vs G i =
      by_cases (bytes_eq n.name f)
      (λ t. absurd (none_some m (sym (subst (λ x. node_among items x ≡ None) ((bytes_eq-Decides n.name f).0 t) apart) ∙ e)))
      (λ t. seen f m (if_false (bytes_eq n.name f) (Some n) (node_among items f) t ∙ e) vs G i
      ∙ if_false (bytes_eq n.name f) (node types abstraction (callees types items) n (map marked vs) G i) (abstract_among types items f vs G i) t)
    where
      none_some : (m : Node) → None ≡ Some m → ⊥
      none_some m e = absurd (cc)

  kept_all : (items : List Item) → ContractsCallNothing items → NamesApart items → AllSafe program items → Seen items → (f : List ℕ) (past : Past) → Through (HeldBy items f) past → Through (Guaranteed items f) past
  unfolding HeldBy
  kept_all [] r k s seen f past h = through_map {R = HeldBy [] f} {S = Guaranteed [] f} (λ older i x. tt) past h
  kept_all (TypeItem t ∷ items) r k s seen f past h = kept_all items r k s seen f past h
  kept_all (NodeItem n ∷ items) r k s seen f past h =
      let d = bytes_eq n.name f in
      let keep = kept_all items r.1 k.1 s.1 (seen_below n items k.0 seen) in
      unpick d _ _ past
      (match_map d (kept_here n items r.1 r.0 (seen_node n items seen) keep s.0 past) (keep f past)
      (pick d (NodeHeld n items) (HeldBy items f) past h))

  held_along : (f : List ℕ) (inputs : List (List Value)) (frees : List Instant) (past : Past) → Reaction program f inputs frees past → ControlledThroughout (IsAllowed program) (reverse program) f past → Through (λ older now. TypedAll program (reverse program) f now) past → Through (HeldBy (reverse program) f) past
  held_along f [] [] [] reaction chosen typed = tt
  held_along f [] [] (now ∷ past) reaction chosen typed = absurd reaction
  held_along f [] (free ∷ frees) past reaction chosen typed = absurd reaction
  held_along f (vs ∷ inputs) [] past reaction chosen typed = absurd reaction
  held_along f (vs ∷ inputs) (free ∷ frees) [] reaction chosen typed = absurd reaction
  held_along f (vs ∷ inputs) (free ∷ frees) (now ∷ past) reaction chosen typed =
      (held_along f inputs frees past reaction.0 chosen.0 typed.0, held_by (reverse program) f vs past free now reaction.1 chosen.1 typed.1)

pub contracts_kept : GuaranteedLaw
contracts_kept program f inputs frees past reaction controlled r k s typed =
    kept_all program (reverse program) (nothing_called_reverse program r) k s (λ f m e vs G i. refl) f past
    (held_along program f inputs frees past reaction controlled typed)

-- ---- a rule that follows from another

controlled_map : (K L : ChoiceRule) → ((n : Node) (history : Past) (inputs : List Value) (early : Instant) (c : Choice) → K n history inputs early c → L n history inputs early c) → (items : List Item) (f : List ℕ) (past : Past) (now : Instant) → Controlled K items f past now → Controlled L items f past now
controlled_map K L h [] f past now x = tt
controlled_map K L h (TypeItem t ∷ items) f past now x = controlled_map K L h items f past now x
controlled_map K L h (NodeItem n ∷ items) f past now x =
    match_map (bytes_eq n.name f)
    (λ y. (h n _ _ now _ y.0, λ i d b t. controlled_map K L h items _ _ _ (y.1 i d b t)))
    (controlled_map K L h items f past now) x

pub throughout_map : (K L : ChoiceRule) → ((n : Node) (history : Past) (inputs : List Value) (early : Instant) (c : Choice) → K n history inputs early c → L n history inputs early c) → (items : List Item) (f : List ℕ) (past : Past) → ControlledThroughout K items f past → ControlledThroughout L items f past
throughout_map K L h items f [] x = tt
throughout_map K L h items f (now ∷ past) x = (throughout_map K L h items f past x.0, controlled_map K L h items f past now x.1)

pub run_contracts_kept : RunGuaranteedLaw
run_contracts_kept program f inputs outputs run r k s typed =
    contracts_kept program f (reverse inputs) run.frees run.past run.reaction.reaction
    (throughout_map (IsChosen program) (IsAllowed program) (λ n history inputs early c x. allowed program n history inputs early c x) (reverse program) f run.past run.chosen)
    r k s typed
