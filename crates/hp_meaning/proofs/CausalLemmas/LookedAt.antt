-- Where what is given is looked at: controllable variables in the language, and free places in the abstraction.
use Rattle.std.proofs.Common.{◌≡◌, ℕ, List, [], ◌∷◌, map, refl, sym, ap, ap₂, ◌∙◌}
use Rattle.std.proofs.Math.Path.{fun_ext}
use Rattle.std.specs.Prelude.{Bool, true, false, IsTrue, ⊤, if◌then◌else◌, reverse}
use Rattle.std.specs.Str.{bytes_eq}
use Rattle.hp_base.specs.declared.value.Value.{Value}
use Rattle.hp_base.specs.declared.value.Value.TheVariants.{Star}
use Rattle.hp_tree.specs.declared.expr.Op2.{Op2}
use Rattle.hp_tree.specs.declared.program.Item.{Item}
use Rattle.hp_tree.specs.declared.program.Item.TheVariants.{TypeItem, NodeItem}
use Rattle.hp_tree.specs.Blocks.{Decl}
use Rattle.hp_tree.specs.Programs.{TypeDecl, Node}
use Rattle.hp_tree.specs.Operators.{Reading, real, abstraction, marked, two_marked, is_comparison, is_there, constant_of}
use Rattle.hp_tree.specs.Instant.{Controls, Observer, Assume, Enforce, nothing, in_node, Named, Fresh, Head, Tail, Instance, Place, Instant, Past, part, top}
use Rattle.hp_tree.specs.Meaning.{Names, absent, Nodes, no_nodes, lasts, input_of, observer, types_of, controls_of, given_to, node, nodes, meaning}
use Rattle.hp_meaning.specs.Causal.Agreement.{AgreeAtControls, GivenLaw, OneByControlsLaw, AgreeAtFree, AbstractGivenLaw, OneByFreeLaw}
use Rattle.hp_meaning.proofs.CausalLemmas.Fix.{Fixed}
use Rattle.hp_meaning.proofs.CausalLemmas.Swap.{AgreeWhere, OfParts, SameOperators, given, observer_swap, node_swap_given}
use Rattle.hp_meaning.proofs.CausalLemmas.AbstractOne.{abstract_one}
use Rattle.hp_meaning.specs.Causal.Abstract.{given_outputs, contract_alone, callees, abstract_among}
use Rattle.hp_meaning.proofs.CausalLemmas.Unique.{same_pasts, one_instant}

-- ---- the language

abbrev Related : Type 1
Related = Instant → Instant → Instant → Type 0

values_agree : (types : List TypeDecl) (R : Reading) (N : Nodes) (ds : List Decl) (free other : Instant) → ((q : Place) → free q ≡ other q) → given_to types R N ds free ≡ given_to types R N ds other
values_agree types R N [] free other h = refl
values_agree types R N (d ∷ ds) free other h = ap₂ (λ v vs. v ∷ vs) (h (Head ∷ [])) (values_agree types R N ds (part Tail free) (part Tail other) (λ q. h (Tail ∷ q)))

either_agrees : (d : Bool) (F F' G G' : Instant → Instant) (now : Instant) → (Fixed F now → (p : Place) → F now p ≡ F' now p) → (Fixed G now → (p : Place) → G now p ≡ G' now p) → Fixed (λ i. if d then F i else G i) now → (p : Place) → (if d then F now else G now) p ≡ (if d then F' now else G' now) p
either_agrees true F F' G G' now f g met p = f met p
either_agrees false F F' G G' now f g met p = g met p

module _ (types : List TypeDecl) (Q : Related) (closed : OfParts Q) where
  -- The controllable variables of each node have the same values where the relation holds.
  abbrev pub SameControls : List Item → Type 0
  SameControls [] = ⊤
  SameControls (TypeItem t ∷ items) = SameControls items
  SameControls (NodeItem n ∷ items) =
      ((free other now : Instant) → Q free other now → IsTrue (is_there (now (Fresh ∷ []))) → given_to types real (nodes types real items) (controls_of n.contract) (part Controls free) ≡ given_to types real (nodes types real items) (controls_of n.contract) (part Controls other))
      × SameControls items

  pub nodes_agree : (items : List Item) → SameControls items → AgreeWhere Q (nodes types real items).instant (nodes types real items).instant
  nodes_agree [] c f vs past free other now h met p = refl
  nodes_agree (TypeItem t ∷ items) c f vs past free other now h met p = nodes_agree items c f vs past free other now h met p
  nodes_agree (NodeItem n ∷ items) c f vs past free other now h met p =
      either_agrees (bytes_eq n.name f) (node types real (nodes types real items) n vs (given past free)) (node types real (nodes types real items) n vs (given past other))
      ((nodes types real items).instant f vs (given past free)) ((nodes types real items).instant f vs (given past other)) now
      (λ met p.
      node_swap_given types real (nodes types real items).outputs Q closed (λ o free other now v w q a b c. refl) (λ free other now q. refl) Q (λ free other now q. closed Instance free other now q)
      (nodes types real items).instant (nodes types real items).instant (nodes_agree items c.1) n vs past free other now h
      (c.0 free other now h (ap is_there (met (Fresh ∷ [])))) met p)
      (nodes_agree items c.1 f vs past free other now h) met p

abbrev Agreeing : Related
Agreeing free other now = AgreeAtControls now free other

agreeing_parts : OfParts Agreeing
agreeing_parts s free other now h p q there = h (s ∷ p) q there

agreeing_controls : (types : List TypeDecl) (items : List Item) → SameControls types Agreeing agreeing_parts items
agreeing_controls types [] = tt
agreeing_controls types (TypeItem t ∷ items) = agreeing_controls types items
agreeing_controls types (NodeItem n ∷ items) = ((λ free other now h there. values_agree types real (nodes types real items) (controls_of n.contract) (part Controls free) (part Controls other) (λ q. h [] q there)), agreeing_controls types items)

pub given_law : GivenLaw
given_law program f inputs past free other now h met p =
    let items = reverse program in
    met p ∙ nodes_agree (types_of program) Agreeing agreeing_parts items (agreeing_controls (types_of program) items) f inputs past free other now h met p

pub one_by_controls : OneByControlsLaw
one_by_controls program f [] [] [] [] [] r h m k = tt
one_by_controls program f [] [] [] [] (j ∷ past') r h m k = absurd k
one_by_controls program f [] [] others (i ∷ past) past' r h m k = absurd m
one_by_controls program f [] [] (other ∷ others) [] past' r h m k = absurd k
one_by_controls program f [] (free ∷ frees) others past past' r h m k = absurd m
one_by_controls program f (vs ∷ inputs) [] others past past' r h m k = absurd m
one_by_controls program f (vs ∷ inputs) (free ∷ frees) others [] past' r h m k = absurd m
one_by_controls program f (vs ∷ inputs) (free ∷ frees) [] (i ∷ past) past' r h m k = absurd k
one_by_controls program f (vs ∷ inputs) (free ∷ frees) (other ∷ others) (i ∷ past) [] r h m k = absurd k
one_by_controls program f (vs ∷ inputs) (free ∷ frees) (other ∷ others) (i ∷ past) (j ∷ past') r h m k =
    let e = one_by_controls program f inputs frees others past past' r h.0 m.0 k.0 in
    let met = given_law program f vs past free other i h.1 m.1 in
    let same = same_pasts past' past e in
    let one = one_instant real program f vs (given past other) r in
    let met' : Fixed (meaning real program f vs (given past other)) j = λ p. k.1 p ∙ ap (λ z. meaning real program f vs (given z other) j p) same in
    ((λ p. one.only j met' p ∙ sym (one.only i met p)), e)

-- ---- the abstraction

abbrev Free : Related
Free free other now = AgreeAtFree now free other

free_parts : OfParts Free
free_parts s free other now h = record { comparisons = λ p. h.comparisons (s ∷ p); outputs = λ p. h.outputs (s ∷ p) }

compared_so : (d : Bool) (u a b : Value) → u ≡ (if d then a else Star) → (u ≡ a → a ≡ b) → (if d then a else Star) ≡ (if d then b else Star)
compared_so true u a b e h = h e
compared_so false u a b e h = refl

two_so : (o : Op2) (a b u v w : Value) → u ≡ two_marked o a v w → (v ≡ Star → w ≡ Star → u ≡ a → a ≡ b) → two_marked o a v w ≡ two_marked o b v w
two_so o a b u Star Star e h = compared_so (is_comparison o) u a b e (h refl refl)
two_so o a b u v w e h = refl

free_operators : SameOperators Free abstraction
free_operators o free other now v w h e f g = two_so o (top free) (top other) (now []) v w e (λ x y. h.comparisons [] (f ∙ x) (g ∙ y))

-- an instance, whose outputs are given too
abbrev Entered : Related
Entered free other now =
    AgreeAtFree now free other
    × ((x : List ℕ) → IsTrue (is_there (now (Fresh ∷ []))) → now (Named x ∷ []) ≡ marked (free (Named x ∷ [])) → marked (free (Named x ∷ [])) ≡ marked (other (Named x ∷ [])))

entered : (free other now : Instant) → AgreeAtFree now free other → Entered (part Instance free) (part Instance other) (part Instance now)
entered free other now h = (free_parts Instance free other now h, λ x. h.outputs [] x)

output_so : (d : Bool) (u a b r s s' : Value) → u ≡ (if d then a else r) → (u ≡ a → a ≡ b) → (u ≡ r → s ≡ s') → (if d then a else s) ≡ (if d then b else s')
output_so true u a b r s s' e h k = h e
output_so false u a b r s s' e h k = k e

outputs_so : (ds : List Decl) (free other : Instant) (out : Names) (x : List ℕ) (u : Value) → u ≡ given_outputs ds free absent x → (u ≡ marked (free (Named x ∷ [])) → marked (free (Named x ∷ [])) ≡ marked (other (Named x ∷ []))) → given_outputs ds free out x ≡ given_outputs ds other out x
outputs_so [] free other out x u e h = refl
outputs_so (d ∷ ds) free other out x u e h =
    output_so (bytes_eq d.name x) u (marked (free (Named x ∷ []))) (marked (other (Named x ∷ []))) (given_outputs ds free absent x) (given_outputs ds free out x) (given_outputs ds other out x) e h
    (λ e. outputs_so ds free other out x u e h)

module _ (types : List TypeDecl) where
  contract_so : (n : Node) (vs : List Value) (past : Past) (free other now : Instant) → Entered free other now → Fixed (contract_alone types n vs (given past free)) now → (p : Place) → contract_alone types n vs (given past free) now p ≡ contract_alone types n vs (given past other) now p
  contract_so n vs past free other now h met p =
      let last : Names = lasts (λ c. abstraction.constant (constant_of types c)) n.outputs past absent in
      let outer : Names = input_of n.inputs vs absent in
      let there : IsTrue (is_there (now (Fresh ∷ []))) = ap is_there (met (Fresh ∷ [])) in
      let each = λ (out : Names) (x : List ℕ). outputs_so n.outputs free other out x (now (Named x ∷ [])) (met (Named x ∷ [])) (h.1 x there) in
      let outs : given_outputs n.outputs free absent ≡ given_outputs n.outputs other absent = fun_ext (each absent) in
      let names : given_outputs n.outputs free outer ≡ given_outputs n.outputs other outer = fun_ext (each outer) in
      ap (λ t. in_node (given_outputs n.outputs free absent) vs [] nothing t p)
      (observer_swap types abstraction (λ f. []) Free free_parts free_operators (λ free other now q. refl) Entered entered (λ f vs g i. nothing) (λ f vs g i. nothing) (λ f vs past free other i q k p. refl)
      n.contract (given_outputs n.outputs free outer) last past free other now h.0 (λ q. met (Observer ∷ q)) (λ q. met (Assume ∷ q)) (λ q. met (Enforce ∷ q)))
      ∙ ap₂ (λ o k. in_node o vs [] nothing (observer types abstraction no_nodes n.contract k last (given past other) now) p) outs names

  callees_so : (items : List Item) → AgreeWhere Entered (callees types items).instant (callees types items).instant
  callees_so [] f vs past free other now h met p = refl
  callees_so (TypeItem t ∷ items) f vs past free other now h met p = callees_so items f vs past free other now h met p
  callees_so (NodeItem n ∷ items) f vs past free other now h met p =
      either_agrees (bytes_eq n.name f) (contract_alone types n vs (given past free)) (contract_alone types n vs (given past other))
      ((callees types items).instant f vs (given past free)) ((callees types items).instant f vs (given past other)) now
      (contract_so n vs past free other now h) (callees_so items f vs past free other now h) met p

  among_so : (items : List Item) (f : List ℕ) (vs : List Value) (past : Past) (free other now : Instant) → AgreeAtFree now free other → ((q : Place) → free (Controls ∷ q) ≡ other (Controls ∷ q)) → Fixed (abstract_among types items f vs (given past free)) now → (p : Place) → abstract_among types items f vs (given past free) now p ≡ abstract_among types items f vs (given past other) now p
  among_so [] f vs past free other now h c met p = refl
  among_so (TypeItem t ∷ items) f vs past free other now h c met p = among_so items f vs past free other now h c met p
  among_so (NodeItem n ∷ items) f vs past free other now h c met p =
      either_agrees (bytes_eq n.name f) (node types abstraction (callees types items) n (map marked vs) (given past free)) (node types abstraction (callees types items) n (map marked vs) (given past other))
      (abstract_among types items f vs (given past free)) (abstract_among types items f vs (given past other)) now
      (node_swap_given types abstraction (callees types items).outputs Free free_parts free_operators (λ free other now q. refl) Entered entered (callees types items).instant (callees types items).instant (callees_so items)
      n (map marked vs) past free other now h (values_agree types abstraction (callees types items) _ (part Controls free) (part Controls other) c))
      (among_so items f vs past free other now h c) met p

pub abstract_given : AbstractGivenLaw
abstract_given program f inputs past free other now h c met p = met p ∙ among_so (types_of program) (reverse program) f inputs past free other now h c met p

pub one_by_free : OneByFreeLaw
one_by_free program f inputs past free others now other r h c met k p =
    let one = abstract_one program f inputs (given past others) r in
    one.only other k p ∙ sym (one.only now (abstract_given program f inputs past free others now h c met) p)
