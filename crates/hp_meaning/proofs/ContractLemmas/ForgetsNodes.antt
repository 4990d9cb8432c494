-- Forgetting turns an instant of a node into one of its abstraction.
use Rattle.std.proofs.Common.{◌≡◌, ℕ, List, [], ◌∷◌, map, refl, sym, ap, ap₂, ◌∙◌}
use Rattle.std.proofs.Math.Path.{fun_ext}
use Rattle.std.specs.Prelude.{Bool, true, false, ◌||◌, if◌then◌else◌, IsTrue, Option, None, Some, ◌++◌, reverse}
use Rattle.std.specs.Str.{bytes_eq}
use Rattle.hp_base.specs.declared.value.Value.{Value}
use Rattle.hp_base.specs.declared.value.Value.TheVariants.{Absent}
use Rattle.hp_tree.specs.declared.program.Item.{Item}
use Rattle.hp_tree.specs.declared.program.Item.TheVariants.{TypeItem, NodeItem}
use Rattle.hp_tree.specs.Blocks.{Decl}
use Rattle.hp_tree.specs.Programs.{TypeDecl, Contract, Node}
use Rattle.hp_tree.specs.Operators.{real, abstraction, constant_of, marked}
use Rattle.hp_tree.specs.Instant.{Place, Controls, Body, Observer, Assume, Enforce, Named, Head, Tail, Instant, Past, part, parts, own, nothing, alone, in_row, in_observer, in_node}
use Rattle.hp_tree.specs.Meaning.{Names, Nodes, declares, lasts, input_of, names_of, types_of, read_in, last_in, scope, observer, controls_of, given_to, node, nodes, no_nodes, meaning}
use Rattle.hp_meaning.specs.Causal.Points.{points_of, points_of_contract, calls_told}
use Rattle.hp_meaning.specs.Causal.Sources.{below}
use Rattle.hp_meaning.specs.Causal.Abstract.{given_outputs, contract_alone, callees, abstract_among, abstract_meaning}
use Rattle.hp_meaning.proofs.CausalLemmas.Unique.{onto}
use Rattle.hp_meaning.specs.Contract.Forgetting.{erased, erase, WellValued, ContractsCallNothing, ErasedLaw}
use Rattle.hp_meaning.proofs.ContractLemmas.Marks.{marks, if_marked, marked_twice, input_marks}
use Rattle.hp_meaning.proofs.ContractLemmas.Shapes.{shown, nothing_erased, nothing_shown, observer_erased, node_erased, callee_shown, observer_below, below_erased, own_erased, previous_shown, previous_erased}
use Rattle.hp_meaning.proofs.ContractLemmas.Forgets.{given, Like, like_below, May, may_first, may_second, Met, values_below, own_down, lasts_marks, Erases, block_forgets, told_forgets, read_in_marks, last_in_marks, told_really, told_abstractly}

-- ---- contracts

module _ (types : List TypeDecl) (N N' : Nodes) (may_call : Bool) (same_outputs : IsTrue may_call → (f : List ℕ) → N'.outputs f ≡ N.outputs f) (erases : IsTrue may_call → Erases N N') where
  -- the abstract contract, made of its parts
  abbrev pieces : Option Contract → Names → Names → Past → Instant → Instant → Instant
  pieces None names last past' free' now = nothing
  pieces (Some c) names last past' free' now =
      let own_names = read_in types abstraction N' c.body names (erased (part Observer now)) in
      let own_last = last_in types abstraction N' c.body (own (parts Observer past')) last in
      in_observer
      (scope types abstraction N' c.body false names last (given (own (parts Observer past')) (part Observer free')) (erased (part Observer now)))
      (told_abstractly types N N' may_call same_outputs erases c.assume own_names own_last (given (parts Assume past') (part Assume free')) (erased (part Assume now)))
      (told_abstractly types N N' may_call same_outputs erases c.enforce own_names own_last (given (parts Enforce past') (part Enforce free')) (erased (part Enforce now)))

  pieces_erased : (k : Option Contract) (names last : Names) (past' : Past) (free' now : Instant) → observer types abstraction N' k names last (given past' free') (erased now) ≡ pieces k names last past' free' now
  pieces_erased None names last past' free' now = refl
  pieces_erased (Some c) names last past' free' now = refl

  pieces_shown : (k : Option Contract) (names last : Names) (past' : Past) (free' now : Instant) → observer types abstraction N' k names last (given past' free') (shown now) ≡ pieces k names last past' free' now
  pieces_shown None names last past' free' now = refl
  pieces_shown (Some c) names last past' free' now = refl

  observer_forgets : (k : Option Contract) → May may_call (points_of_contract k (λ p. p)) → (names last : Names) (past past' : Past) → parts Observer past' ≡ erase (parts Observer past) → parts Assume past' ≡ erase (parts Assume past) → parts Enforce past' ≡ erase (parts Enforce past) → (free free' now : Instant) → WellValued now → Like free' now → Met (part Observer now) (part Observer (observer types real N k names last (given past free) now)) → Met (part Assume now) (part Assume (observer types real N k names last (given past free) now)) → Met (part Enforce now) (part Enforce (observer types real N k names last (given past free) now)) → pieces k (marks names) (marks last) past' free' now ≡ erased (observer types real N k names last (given past free) now)
  observer_forgets None may names last past past' eg ea ee free free' now ok like mg ma me = nothing_erased
  observer_forgets (Some c) may names last past past' eg ea ee free free' now ok like mg ma me =
      let of_body = points_of [] c.body (below Observer (λ p. p)) in
      let of_assume = calls_told c.assume (below Assume (λ p. p)) in
      let of_enforce = calls_told c.enforce (below Enforce (λ p. p)) in
      let may' = may_second may_call of_body (of_assume ++ of_enforce) may in
      let q = own (parts Observer past) in
      let e = ap own eg ∙ own_erased (parts Observer past) in
      let own_names = read_in types real N c.body names (part Observer now) in
      let own_last = last_in types real N c.body q last in
      let ns = read_in_marks types N N' may_call same_outputs erases c.body names (part Observer now) in
      let ls = last_in_marks types N N' may_call same_outputs erases c.body q (own (parts Observer past')) last e in
      let i = scope types real N c.body false names last (given q (part Observer free)) (part Observer now) in
      let j = told_really types N N' may_call same_outputs erases c.assume own_names own_last (given (parts Assume past) (part Assume free)) (part Assume now) in
      let k = told_really types N N' may_call same_outputs erases c.enforce own_names own_last (given (parts Enforce past) (part Enforce free)) (part Enforce now) in
      let t = block_forgets types N N' may_call same_outputs erases c.body [] (below Observer (λ p. p)) (may_first may_call of_body (of_assume ++ of_enforce) may) false names last q (own (parts Observer past')) e (part Observer free) (part Observer free') (part Observer now) (values_below Observer now ok) (like_below Observer free' now like) mg in
      let u = ap₂ (λ n l. told_abstractly types N N' may_call same_outputs erases c.assume n l (given (parts Assume past') (part Assume free')) (erased (part Assume now))) ns ls
      ∙ told_forgets types N N' may_call same_outputs erases c.assume (below Assume (λ p. p)) (may_first may_call of_assume of_enforce may') own_names own_last (parts Assume past) (parts Assume past') ea (part Assume free) (part Assume free') (part Assume now) (values_below Assume now ok) (like_below Assume free' now like) ma in
      let v = ap₂ (λ n l. told_abstractly types N N' may_call same_outputs erases c.enforce n l (given (parts Enforce past') (part Enforce free')) (erased (part Enforce now))) ns ls
      ∙ told_forgets types N N' may_call same_outputs erases c.enforce (below Enforce (λ p. p)) (may_second may_call of_assume of_enforce may') own_names own_last (parts Enforce past) (parts Enforce past') ee (part Enforce free) (part Enforce free') (part Enforce now) (values_below Enforce now ok) (like_below Enforce free' now like) me in
      let together : in_observer (t 0) (u 0) (v 0) ≡ in_observer (t 1) (u 1) (v 1) = λ z. in_observer (t z) (u z) (v z) in
      together ∙ observer_erased i j k

-- ---- nodes

false_is_not : IsTrue false → ⊥
false_is_not e = absurd (cc)

abbrev absent : Names
absent x = Absent

given_marks : (types : List TypeDecl) (N N' : Nodes) (ds : List Decl) (free i i' : Instant) → ((p : Place) → i' p ≡ marked (i p)) → Met i (in_row (map alone (given_to types real N ds free))) → given_to types abstraction N' ds i' ≡ map marked (given_to types real N ds free)
given_marks types N N' [] free i i' same met = refl
given_marks types N N' (d ∷ ds) free i i' same met =
    ap₂ (λ v vs. v ∷ vs) (same (Head ∷ []) ∙ ap marked (met (Head ∷ []))) (given_marks types N N' ds (part Tail free) (part Tail i) (part Tail i') (λ p. same (Tail ∷ p)) (λ p. met (Tail ∷ p)))

controls_marks : (types : List TypeDecl) (N N' : Nodes) (k : Option Contract) (free i i' : Instant) → ((p : Place) → i' p ≡ marked (i p)) → Met i (in_row (map alone (given_to types real N (controls_of k) free))) → given_to types abstraction N' (controls_of k) i' ≡ map marked (given_to types real N (controls_of k) free)
controls_marks types N N' None free i i' same met = refl
controls_marks types N N' (Some c) free i i' same met = given_marks types N N' c.controls free i i' same met

declared_output : (d : Bool) (v w : Value) → v ≡ (if d then w else Absent) → (if d then marked v else Absent) ≡ marked (if d then w else Absent)
declared_output true v w e = ap marked e
declared_output false v w e = refl

either_if : (a b : Bool) (v w : Value) → (if a then v else (if b then v else w)) ≡ (if a || b then v else w)
either_if true b v w = refl
either_if false b v w = refl

outputs_given : (ds : List Decl) (free : Instant) (out : Names) (x : List ℕ) → given_outputs ds free out x ≡ (if declares ds x then marked (free (Named x ∷ [])) else out x)
outputs_given [] free out x = refl
outputs_given (d ∷ ds) free out x =
    ap (λ v. if bytes_eq d.name x then marked (free (Named x ∷ [])) else v) (outputs_given ds free out x)
    ∙ either_if (bytes_eq d.name x) (declares ds x) (marked (free (Named x ∷ []))) (out x)

module _ (types : List TypeDecl) (N : Nodes) (n : Node) (vs : List Value) (past : Past) (free free' now : Instant) (ok : WellValued now) (like : Like free' now) (met : Met now (node types real N n vs (given past free) now)) where
  abbrev outputs_now : Names
  outputs_now x = if declares n.outputs x then now (Body ∷ Named x ∷ []) else Absent

  abbrev outer : Names
  outer = input_of n.inputs vs absent

  abbrev last_now : Names
  last_now = lasts (constant_of types) n.outputs past absent

  abbrev seen : Names
  seen x = if declares n.outputs x then now (Named x ∷ []) else outer x

  abbrev control_values : List Value
  control_values = given_to types real N (controls_of n.contract) (part Controls free)

  abbrev body_now : Instant
  body_now = scope types real N n.body false (input_of (controls_of n.contract) control_values outer) last_now (given (own (parts Body past)) (part Body free)) (part Body now)

  abbrev observer_now : Instant
  observer_now = observer types real N n.contract seen last_now (given past free) now

  -- a node itself, where its callees are abstract
  module _ (N' : Nodes) (same_outputs : (f : List ℕ) → N'.outputs f ≡ N.outputs f) (erases : Erases N N') where
    pub node_forgets : ((p : Place) → free' (Controls ∷ p) ≡ marked (now (Controls ∷ p))) → node types abstraction N' n (map marked vs) (given (erase past) free') (erased now) ≡ erased (node types real N n vs (given past free) now)
    node_forgets same =
        let cs = controls_of n.contract in
        let o : (λ x. if declares n.outputs x then marked (now (Body ∷ Named x ∷ [])) else Absent) ≡ marks outputs_now = fun_ext (λ x. if_marked (declares n.outputs x) (now (Body ∷ Named x ∷ [])) Absent) in
        let c : given_to types abstraction N' (controls_of n.contract) (part Controls free') ≡ map marked control_values = controls_marks types N N' n.contract (part Controls free) (part Controls now) (part Controls free') same (λ p. met (Controls ∷ p)) in
        let l : lasts (λ c. marked (constant_of types c)) n.outputs (erase past) (marks absent) ≡ marks last_now = lasts_marks types n.outputs past (erase past) absent (previous_erased past) in
        let u : input_of n.inputs (map marked vs) (marks absent) ≡ marks outer = input_marks n.inputs vs absent in
        let b : input_of cs (given_to types abstraction N' (controls_of n.contract) (part Controls free')) (input_of n.inputs (map marked vs) (marks absent)) ≡ marks (input_of cs control_values outer) = ap₂ (λ ws out. input_of cs ws out) c u ∙ input_marks cs control_values outer in
        let s : (λ x. if declares n.outputs x then marked (now (Named x ∷ [])) else input_of n.inputs (map marked vs) (marks absent) x) ≡ marks seen = ap (λ (out : Names). λ (x : List ℕ). if declares n.outputs x then marked (now (Named x ∷ [])) else out x) u ∙ fun_ext (λ x. if_marked (declares n.outputs x) (now (Named x ∷ [])) (outer x)) in
        let i = ap₂ (λ names last. scope types abstraction N' n.body false names last (given (own (parts Body (erase past))) (part Body free')) (erased (part Body now))) b l
        ∙ block_forgets types N N' true (λ t. same_outputs) (λ t. erases) n.body (names_of n.outputs) (λ p. Body ∷ p) tt false (input_of cs control_values outer) last_now (own (parts Body past)) (own (parts Body (erase past))) (own_down Body (λ i. refl) past (erase past) refl) (part Body free) (part Body free') (part Body now) (values_below Body now ok) (like_below Body free' now like) (λ p. met (Body ∷ p)) in
        let g = ap₂ (λ names last. observer types abstraction N' n.contract names last (given (erase past) free') (erased now)) s l
        ∙ pieces_erased types N N' true (λ t. same_outputs) (λ t. erases) n.contract (marks seen) (marks last_now) (erase past) free' now
        ∙ observer_forgets types N N' true (λ t. same_outputs) (λ t. erases) n.contract tt seen last_now past (erase past) (below_erased Observer (λ i. refl) past) (below_erased Assume (λ i. refl) past) (below_erased Enforce (λ i. refl) past) free free' now ok like (λ p. met (Observer ∷ p)) (λ p. met (Assume ∷ p)) (λ p. met (Enforce ∷ p)) in
        let together : in_node (o 0) (map marked vs) (c 0) (i 0) (g 0) ≡ in_node (o 1) (map marked vs) (c 1) (i 1) (g 1) = λ z. in_node (o z) (map marked vs) (c z) (i z) (g z) in
        together ∙ node_erased outputs_now vs control_values body_now observer_now

  -- a callee, whose contract calls nothing
  callee_forgets : (points_none : May false (points_of_contract n.contract (λ p. p))) → contract_alone types n (map marked vs) (given (map shown past) free') (shown now) ≡ shown (node types real N n vs (given past free) now)
  callee_forgets points_none =
      let o : given_outputs n.outputs free' absent ≡ marks outputs_now = fun_ext (λ x. outputs_given n.outputs free' absent x ∙ ap (λ v. if declares n.outputs x then v else Absent) (like.alike (Named x ∷ [])) ∙ declared_output (declares n.outputs x) (now (Named x ∷ [])) (now (Body ∷ Named x ∷ [])) (met (Named x ∷ []))) in
      let l : lasts (λ c. marked (constant_of types c)) n.outputs (map shown past) (marks absent) ≡ marks last_now = lasts_marks types n.outputs past (map shown past) absent (previous_shown past) in
      let u : input_of n.inputs (map marked vs) (marks absent) ≡ marks outer = input_marks n.inputs vs absent in
      let s : given_outputs n.outputs free' (input_of n.inputs (map marked vs) absent) ≡ marks seen = fun_ext (λ x. outputs_given n.outputs free' (input_of n.inputs (map marked vs) absent) x ∙ ap₂ (λ v (out : Names). if declares n.outputs x then v else out x) (like.alike (Named x ∷ [])) u ∙ if_marked (declares n.outputs x) (now (Named x ∷ [])) (outer x)) in
      let g = ap₂ (λ names last. observer types abstraction no_nodes n.contract names last (given (map shown past) free') (shown now)) s l
      ∙ pieces_shown types N no_nodes false (λ t. absurd (false_is_not t)) (λ t. absurd (false_is_not t)) n.contract (marks seen) (marks last_now) (map shown past) free' now
      ∙ observer_forgets types N no_nodes false (λ t. absurd (false_is_not t)) (λ t. absurd (false_is_not t)) n.contract points_none seen last_now past (map shown past) (observer_below Observer (λ i. refl) past) (observer_below Assume (λ i. refl) past) (observer_below Enforce (λ i. refl) past) free free' now ok like (λ p. met (Observer ∷ p)) (λ p. met (Assume ∷ p)) (λ p. met (Enforce ∷ p)) in
      ap₂ (λ os i. in_node os (map marked vs) [] nothing i) o g ∙ callee_shown outputs_now vs control_values body_now observer_now

-- ---- programs

either_shown : (d : Bool) (now X Y X' Y' : Instant) → Met now (if d then X else Y) → (Met now X → X' ≡ shown X) → (Met now Y → Y' ≡ shown Y) → (if d then X' else Y') ≡ shown (if d then X else Y)
either_shown true now X Y X' Y' m f g = f m
either_shown false now X Y X' Y' m f g = g m

either_erased : (d : Bool) (now X Y X' Y' : Instant) → Met now (if d then X else Y) → (Met now X → X' ≡ erased X) → (Met now Y → Y' ≡ erased Y) → (if d then X' else Y') ≡ erased (if d then X else Y)
either_erased true now X Y X' Y' m f g = f m
either_erased false now X Y X' Y' m f g = g m

module _ (types : List TypeDecl) where
  pub outputs_same : (items : List Item) (f : List ℕ) → (callees types items).outputs f ≡ (nodes types real items).outputs f
  outputs_same [] f = refl
  outputs_same (TypeItem t ∷ items) f = outputs_same items f
  outputs_same (NodeItem n ∷ items) f = ap (λ os. if bytes_eq n.name f then names_of n.outputs else os) (outputs_same items f)

  pub callees_erase : (items : List Item) → ContractsCallNothing items → Erases (nodes types real items) (callees types items)
  callees_erase [] r f vs past free free' now ok like met = nothing_shown
  callees_erase (TypeItem t ∷ items) r f vs past free free' now ok like met = callees_erase items r f vs past free free' now ok like met
  callees_erase (NodeItem n ∷ items) r f vs past free free' now ok like met =
      either_shown (bytes_eq n.name f) now _ _ _ _ met
      (λ m. callee_forgets types (nodes types real items) n vs past free free' now ok like m r.0)
      (callees_erase items r.1 f vs past free free' now ok like)

  pub among_forgets : (items : List Item) → ContractsCallNothing items → (f : List ℕ) (vs : List Value) (past : Past) (free free' now : Instant) → WellValued now → Like free' now → ((p : Place) → free' (Controls ∷ p) ≡ marked (now (Controls ∷ p))) → Met now ((nodes types real items).instant f vs (given past free) now) → abstract_among types items f vs (given (erase past) free') (erased now) ≡ erased ((nodes types real items).instant f vs (given past free) now)
  among_forgets [] r f vs past free free' now ok like same met = nothing_erased
  among_forgets (TypeItem t ∷ items) r f vs past free free' now ok like same met = among_forgets items r f vs past free free' now ok like same met
  among_forgets (NodeItem n ∷ items) r f vs past free free' now ok like same met =
      either_erased (bytes_eq n.name f) now _ _ _ _ met
      (λ m. node_forgets types (nodes types real items) n vs past free free' now ok like m (callees types items) (outputs_same items) (callees_erase items r.1) same)
      (among_forgets items r.1 f vs past free free' now ok like same)

nothing_called_onto : (xs ys : List Item) → ContractsCallNothing xs → ContractsCallNothing ys → ContractsCallNothing (onto xs ys)
nothing_called_onto [] ys r s = s
nothing_called_onto (TypeItem t ∷ xs) ys r s = nothing_called_onto xs (TypeItem t ∷ ys) r s
nothing_called_onto (NodeItem n ∷ xs) ys r s = nothing_called_onto xs (NodeItem n ∷ ys) r.1 (r.0, s)

pub nothing_called_reverse : (program : List Item) → ContractsCallNothing program → ContractsCallNothing (reverse program)
nothing_called_reverse program r = nothing_called_onto program [] r tt

-- the same with any given values that are like those of the instant
pub erased_with : (program : List Item) (f : List ℕ) (inputs : List Value) (past : Past) (free free' now : Instant) → ContractsCallNothing program → WellValued now → Like free' now → ((p : Place) → free' (Controls ∷ p) ≡ marked (now (Controls ∷ p))) → Met now (meaning real program f inputs (given past free) now) → Met (erased now) (abstract_meaning program f inputs (given (erase past) free') (erased now))
erased_with program f inputs past free free' now r ok like same met p =
    ap (λ i. erased i p) (fun_ext met)
    ∙ ap (λ (i : Instant). i p) (sym (among_forgets (types_of program) (reverse program) (nothing_called_reverse program r) f inputs past free free' now ok like same met))

pub erased_law : ErasedLaw
erased_law program f inputs past free now r ok met =
    erased_with program f inputs past free (λ q. marked (now q)) now r ok
    (record { told = λ p b e. ap marked e; alike = λ p. marked_twice (now p) }) (λ p. refl) met
