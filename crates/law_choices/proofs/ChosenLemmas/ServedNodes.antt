-- An early place of a node that one instant looks at is looked at by each other instant after the same past, over the same inputs.
use Rattle.std.proofs.Common.{◌≡◌, ℕ, ◌<◌, List, [], ◌∷◌, map, refl, ap₂, subst}
use Rattle.std.specs.Prelude.{⊤, true, false, if◌then◌else◌, Option, None, Some}
use Rattle.hp_base.specs.declared.value.Value.{Value}
use Rattle.hp_base.specs.declared.value.Value.TheVariants.{Absent}
use Rattle.hp_base.specs.declared.ty.Const.{Const}
use Rattle.hp_tree.specs.declared.program.Item.{Item}
use Rattle.hp_tree.specs.Expressions.{Expr}
use Rattle.hp_tree.specs.Blocks.{Decl, Block, block, Eqns}
use Rattle.hp_tree.specs.Programs.{TypeDecl, Contract, Node}
use Rattle.hp_tree.specs.Operators.{abstraction, constant_of, marked}
use Rattle.hp_tree.specs.Instant.{Inputs, Controls, Body, Observer, Assume, Enforce, Named, Equations, Head, Tail, Place, Instant, Past, Given, part, parts, own, nothing, alone, in_row, Clock, holds}
use Rattle.hp_tree.specs.Meaning.{Names, Nodes, declares, inside, lasts, input_of, given_to, scope, expr, read_in, last_in, observer, node, controls_of}
use Rattle.hp_tree.specs.Reaction.{row_of}
use Rattle.hp_meaning.specs.Causal.Abstract.{callees}
use Rattle.hp_meaning.specs.Causal.Causality.{Ranked}
use Rattle.hp_meaning.specs.Causal.Sources.{only, NameSources, Within, below}
use Rattle.hp_meaning.specs.Causal.Steering.{steered_by}
use Rattle.hp_meaning.specs.Causal.WhatIsRead.{names_in, control_in, output_in, in_block, in_contract}
use Rattle.hp_meaning.specs.Contract.FreePlaces.{by_step, free_in_equations, free_in_block, free_in_told, free_in_contract, own_free}
use Rattle.hp_typing.specs.Scopes.{with_variables, inside_node}
use Rattle.law_judged.specs.Typed.Scopes.{Scope}
use Rattle.hp_init.specs.Classes.{Assignment, Known, known_outputs}
use Rattle.law_values.specs.Valued.Classed.{BlockDefinite, ContractDefinite, NodeDefinite, none_second, classes_in, seen_in_block, seen_in_contract, seen_in_node}
use Rattle.law_values.specs.Valued.Judged.{body_scope}
use Rattle.law_values.specs.Valued.Values.{Classing, class_here, class_behind, scope_behind}
use Rattle.law_games.specs.Wiretyped.Typed.{AreWires}
use Rattle.law_games.specs.Abstracted.Fitting.{BlockFits, ToldFits, ContractAt, ContractFits}
use Rattle.law_games.specs.Abstracted.Instances.{CalledFits, AbstractFits}
use Rattle.law_choices.specs.Chosen.Laws.{is_seen}
use Rattle.law_choices.proofs.ChosenLemmas.Nils.{Flags}
use Rattle.law_choices.proofs.ChosenLemmas.NilNames.{all_alike}
use Rattle.law_choices.proofs.ChosenLemmas.Served.{Served, served_below, expr_served, equations_served}

abbrev base : Clock
base = []

not_free : {X : Type 0} → None ≡ Some base → X
not_free e = absurd (cc)

-- ---- rows

row_held : (types : List TypeDecl) (ds : List Decl) (vs : List Value) (i : Instant) → AreWires types ds vs → ((q : Place) → i q ≡ in_row (map alone vs) q) → row_of ds i ≡ vs
row_held types [] [] i a h = refl
row_held types [] (v ∷ vs) i a h = absurd a
row_held types (d ∷ ds) [] i a h = absurd a
row_held types (d ∷ ds) (v ∷ vs) i a h = ap₂ (λ x xs. x ∷ xs) (h (Head ∷ [])) (row_held types ds vs (part Tail i) a.1 (λ q. h (Tail ∷ q)))

row_given : (types : List TypeDecl) (N : Nodes) (ds : List Decl) (free i : Instant) → ((q : Place) → i q ≡ in_row (map alone (given_to types abstraction N ds free)) q) → row_of ds i ≡ given_to types abstraction N ds free
row_given types N [] free i h = refl
row_given types N (d ∷ ds) free i h = ap₂ (λ x xs. x ∷ xs) (h (Head ∷ [])) (row_given types N ds (part Tail free) (part Tail i) (λ q. h (Tail ∷ q)))

module _ (types : List TypeDecl) (items : List Item) (cls : Classing) where
  abbrev N : Nodes
  N = callees types items

  abbrev callee : List ℕ → Instant → Type 0
  callee f i = CalledFits types true cls items f i

  abbrev with_past : Past → Instant → Given
  with_past past free = record { past = past; free = free }

  -- what a contract assumes or enforces
  abbrev told : Option Expr → Names → Names → Given → Instant → Instant
  told None names last g now = nothing
  told (Some e) names last g now = expr types abstraction N e [] names last g now

  -- ---- blocks

  module _ (ds : List Decl) (es : Eqns) (s : Scope) (kn : Known) (cl class : Assignment) (reads : NameSources) (w : Place → Place) (rank : Place → ℕ) (outer outer' last : Names) (past : Past) (free free' i j : Instant)
      (same : (x : List ℕ) → class (Named x ∷ []) ≡ seen_in_block kn cl (block ds es) (Named x ∷ [])) (df : BlockDefinite kn cl (block ds es))
      (h : BlockFits types true callee s none_second class outer (block ds es) i) (h' : BlockFits types true callee s none_second class outer' (block ds es) j)
      (m : (p : Place) → i p ≡ scope types abstraction N (block ds es) false outer last (with_past past free) i p) (m' : (p : Place) → j p ≡ scope types abstraction N (block ds es) false outer' last (with_past past free') j p)
      (fl : Flags i free) (fl' : Flags j free') (falls : (p : Place) → Within (λ q. rank q < rank (w p)) (in_block (block ds es) reads (λ q. only (w q)) p)) where
    within_block : (p : Place) → free_in_equations ds es p ≡ Some base → is_seen (part Equations i) p ≡ true → Served (part Equations j) (part Equations free') p
    within_block =
        equations_served types items cls (with_variables s ds) (classes_in es none_second class) (names_in es reads (λ q. only (w q))) (inside es outer i) (inside es outer' j) (lasts (λ (c : Const). marked (constant_of types c)) ds past last)
        (all_alike types items cls s kn cl ds es class reads w rank outer outer' last past free free' i j same df.1.1 h h' m m' fl fl' falls (λ q. ⊤))
        ds es (λ q. class (Equations ∷ q)) (parts Equations past) (part Equations free) (part Equations free') (part Equations i) (part Equations j) h.1.1 h'.1.1 (λ q. m (Equations ∷ q)) (λ q. m' (Equations ∷ q)) (λ q. fl (Equations ∷ q)) (λ q. fl' (Equations ∷ q))

    told_served : (o : Option Expr) (past_o : Past) (free_o free_o' io jo : Instant) → ToldFits types true callee (with_variables s ds) (classes_in es none_second class) (λ c. holds types c (inside es outer i)) o io → ToldFits types true callee (with_variables s ds) (classes_in es none_second class) (λ c. holds types c (inside es outer' j)) o jo
        → ((p : Place) → io p ≡ told o (inside es outer i) (lasts (λ (c : Const). marked (constant_of types c)) ds past last) (with_past past_o free_o) io p)
        → ((p : Place) → jo p ≡ told o (inside es outer' j) (lasts (λ (c : Const). marked (constant_of types c)) ds past last) (with_past past_o free_o') jo p)
        → Flags io free_o → Flags jo free_o' → (p : Place) → free_in_told o p ≡ Some base → is_seen io p ≡ true → Served jo free_o' p
    told_served None past_o free_o free_o' io jo a b c d f g p e seen = not_free e
    told_served (Some x) past_o free_o free_o' io jo a b c d f g p e seen =
        expr_served types items cls (with_variables s ds) (classes_in es none_second class) (names_in es reads (λ q. only (w q))) (inside es outer i) (inside es outer' j) (lasts (λ (c : Const). marked (constant_of types c)) ds past last)
        (all_alike types items cls s kn cl ds es class reads w rank outer outer' last past free free' i j same df.1.1 h h' m m' fl fl' falls (λ q. ⊤))
        x [] past_o free_o free_o' io jo a b c d f g p e seen

  block_served : (b : Block) (s : Scope) (kn : Known) (cl class : Assignment) (reads : NameSources) (w : Place → Place) (rank : Place → ℕ) (outer outer' last : Names) (past : Past) (free free' i j : Instant)
      → ((x : List ℕ) → class (Named x ∷ []) ≡ seen_in_block kn cl b (Named x ∷ [])) → BlockDefinite kn cl b
      → BlockFits types true callee s none_second class outer b i → BlockFits types true callee s none_second class outer' b j
      → ((p : Place) → i p ≡ scope types abstraction N b false outer last (with_past past free) i p) → ((p : Place) → j p ≡ scope types abstraction N b false outer' last (with_past past free') j p)
      → Flags i free → Flags j free' → ((p : Place) → Within (λ q. rank q < rank (w p)) (in_block b reads (λ q. only (w q)) p))
      → (p : Place) → free_in_block b p ≡ Some base → is_seen i p ≡ true → Served j free' p
  block_served (block ds es) s kn cl class reads w rank outer outer' last past free free' i j same df h h' m m' fl fl' falls (Equations ∷ p) e seen =
      served_below Equations j free' p (within_block ds es s kn cl class reads w rank outer outer' last past free free' i j same df h h' m m' fl fl' falls p e seen)
  block_served (block ds es) s kn cl class reads w rank outer outer' last past free free' i j same df h h' m m' fl fl' falls p e seen = not_free e

  -- ---- contracts

  module _ (s : Scope) (kn : Known) (cl class : Assignment) (reads : NameSources) (rank : Place → ℕ) (outer outer' last : Names) (past : Past) (raw raw' i j : Instant) (fl : Flags i raw) (fl' : Flags j raw') where
    stands : (b : Block) (assume enforce : Option Expr) → ((x : List ℕ) → class (Observer ∷ Named x ∷ []) ≡ seen_in_block kn (λ q. cl (Observer ∷ q)) b (Named x ∷ [])) → BlockDefinite kn (λ q. cl (Observer ∷ q)) b
        → ContractAt types true callee s class outer b assume enforce i → ContractAt types true callee s class outer' b assume enforce j
        → ((p : Place) → i (Observer ∷ p) ≡ scope types abstraction N b false outer last (with_past (own (parts Observer past)) (part Observer raw)) (part Observer i) p)
        → ((p : Place) → j (Observer ∷ p) ≡ scope types abstraction N b false outer' last (with_past (own (parts Observer past)) (part Observer raw')) (part Observer j) p)
        → ((p : Place) → i (Assume ∷ p) ≡ told assume (read_in types abstraction N b outer (part Observer i)) (last_in types abstraction N b (own (parts Observer past)) last) (with_past (parts Assume past) (part Assume raw)) (part Assume i) p)
        → ((p : Place) → j (Assume ∷ p) ≡ told assume (read_in types abstraction N b outer' (part Observer j)) (last_in types abstraction N b (own (parts Observer past)) last) (with_past (parts Assume past) (part Assume raw')) (part Assume j) p)
        → ((p : Place) → i (Enforce ∷ p) ≡ told enforce (read_in types abstraction N b outer (part Observer i)) (last_in types abstraction N b (own (parts Observer past)) last) (with_past (parts Enforce past) (part Enforce raw)) (part Enforce i) p)
        → ((p : Place) → j (Enforce ∷ p) ≡ told enforce (read_in types abstraction N b outer' (part Observer j)) (last_in types abstraction N b (own (parts Observer past)) last) (with_past (parts Enforce past) (part Enforce raw')) (part Enforce j) p)
        → ((p : Place) → Within (λ q. rank q < rank (Observer ∷ p)) (in_block b reads (λ q. only (Observer ∷ q)) p))
        → (p : Place) → by_step ((Observer, free_in_block b) ∷ (Assume, free_in_told assume) ∷ (Enforce, free_in_told enforce) ∷ []) p ≡ Some base → is_seen i p ≡ true → Served j raw' p
    stands b assume enforce same df h h' g g' a a' f f' falls (Observer ∷ p) e seen =
        served_below Observer j raw' p (block_served b s kn (λ q. cl (Observer ∷ q)) (λ q. class (Observer ∷ q)) reads (λ q. Observer ∷ q) rank outer outer' last (own (parts Observer past)) (part Observer raw) (part Observer raw') (part Observer i) (part Observer j) same df h.0 h'.0 g g' (λ q. fl (Observer ∷ q)) (λ q. fl' (Observer ∷ q)) falls p e seen)
    stands (block ds es) assume enforce same df h h' g g' a a' f f' falls (Assume ∷ p) e seen =
        served_below Assume j raw' p (told_served ds es s kn (λ q. cl (Observer ∷ q)) (λ q. class (Observer ∷ q)) reads (λ q. Observer ∷ q) rank outer outer' last (own (parts Observer past)) (part Observer raw) (part Observer raw') (part Observer i) (part Observer j) same df h.0 h'.0 g g' (λ q. fl (Observer ∷ q)) (λ q. fl' (Observer ∷ q)) falls
        assume (parts Assume past) (part Assume raw) (part Assume raw') (part Assume i) (part Assume j) h.1.1.0 h'.1.1.0 a a' (λ q. fl (Assume ∷ q)) (λ q. fl' (Assume ∷ q)) p e seen)
    stands (block ds es) assume enforce same df h h' g g' a a' f f' falls (Enforce ∷ p) e seen =
        served_below Enforce j raw' p (told_served ds es s kn (λ q. cl (Observer ∷ q)) (λ q. class (Observer ∷ q)) reads (λ q. Observer ∷ q) rank outer outer' last (own (parts Observer past)) (part Observer raw) (part Observer raw') (part Observer i) (part Observer j) same df h.0 h'.0 g g' (λ q. fl (Observer ∷ q)) (λ q. fl' (Observer ∷ q)) falls
        enforce (parts Enforce past) (part Enforce raw) (part Enforce raw') (part Enforce i) (part Enforce j) h.1.1.1 h'.1.1.1 f f' (λ q. fl (Enforce ∷ q)) (λ q. fl' (Enforce ∷ q)) p e seen)
    stands b assume enforce same df h h' g g' a a' f f' falls p e seen = not_free e

    contract_served : (ctl ctl' : Instant) (c : Option Contract) → ((p : Place) → class (Observer ∷ p) ≡ seen_in_contract kn (λ q. cl (Observer ∷ q)) c p) → ContractDefinite kn (λ q. cl (Observer ∷ q)) c → ContractFits types true callee s class outer c i → ContractFits types true callee s class outer' c j
        → ((p : Place) → i (Observer ∷ p) ≡ observer types abstraction N c outer last (with_past past (steered_by raw ctl)) i (Observer ∷ p)) → ((p : Place) → i (Assume ∷ p) ≡ observer types abstraction N c outer last (with_past past (steered_by raw ctl)) i (Assume ∷ p)) → ((p : Place) → i (Enforce ∷ p) ≡ observer types abstraction N c outer last (with_past past (steered_by raw ctl)) i (Enforce ∷ p))
        → ((p : Place) → j (Observer ∷ p) ≡ observer types abstraction N c outer' last (with_past past (steered_by raw' ctl')) j (Observer ∷ p)) → ((p : Place) → j (Assume ∷ p) ≡ observer types abstraction N c outer' last (with_past past (steered_by raw' ctl')) j (Assume ∷ p)) → ((p : Place) → j (Enforce ∷ p) ≡ observer types abstraction N c outer' last (with_past past (steered_by raw' ctl')) j (Enforce ∷ p))
        → ((p : Place) → Within (λ q. rank q < rank (Observer ∷ p)) (in_contract c reads only (Observer ∷ p)))
        → (p : Place) → by_step (free_in_contract c) p ≡ Some base → is_seen i p ≡ true → Served j raw' p
    contract_served ctl ctl' None same df h h' mg ma me mg' ma' me' falls [] e seen = not_free e
    contract_served ctl ctl' None same df h h' mg ma me mg' ma' me' falls (t ∷ p) e seen = not_free e
    contract_served ctl ctl' (Some c) same df h h' mg ma me mg' ma' me' falls p e seen = stands c.body c.assume c.enforce (λ x. same (Named x ∷ [])) df h h' mg mg' ma ma' me me' falls p e seen

-- ---- a node

pub node_served : (types : List TypeDecl) (items : List Item) (class : Classing) (n : Node) (o : Ranked n) → NodeDefinite (class_here class) n → (vs : List Value) → AreWires types n.inputs vs → (past : Past) (raw raw' ctl ctl' i j : Instant)
    → AbstractFits types true class items n i → AbstractFits types true class items n j → Flags i raw → Flags j raw'
    → ((p : Place) → i p ≡ node types abstraction (callees types items) n vs (record { past = past; free = steered_by raw ctl }) i p) → ((p : Place) → j p ≡ node types abstraction (callees types items) n vs (record { past = past; free = steered_by raw' ctl' }) j p)
    → (p : Place) → own_free n p ≡ Some base → is_seen i p ≡ true → Served j raw' p
node_served types items class n o df vs a past raw raw' ctl ctl' i j h h' fl fl' m m' (Body ∷ p) e seen =
    let cs = controls_of n.contract in
    let M = callees types items in
    let s = scope_behind items in
    let last : Names = lasts (λ (c : Const). marked (constant_of types c)) n.outputs past (λ x. Absent) in
    let row = row_held types n.inputs vs (part Inputs i) a (λ q. m (Inputs ∷ q)) in
    let row' = row_held types n.inputs vs (part Inputs j) a (λ q. m' (Inputs ∷ q)) in
    let ctr = row_given types M cs ctl (part Controls i) (λ q. m (Controls ∷ q)) in
    let ctr' = row_given types M cs ctl' (part Controls j) (λ q. m' (Controls ∷ q)) in
    let outer : Names = input_of cs (given_to types abstraction M cs ctl) (input_of n.inputs vs (λ x. Absent)) in
    let outer' : Names = input_of cs (given_to types abstraction M cs ctl') (input_of n.inputs vs (λ x. Absent)) in
    let cls : Assignment = λ q. seen_in_node (class_here class) n (Body ∷ q) in
    served_below Body j raw' p
    (block_served types items (class_behind class) n.body (body_scope s n) (known_outputs n (class_here class)) (λ q. class_here class (Body ∷ q)) cls (control_in cs (below Controls only)) (λ q. Body ∷ q) o.rank outer outer' last (own (parts Body past)) (part Body raw) (part Body raw') (part Body i) (part Body j)
    (λ x. refl) df.1
    (subst (λ z. BlockFits types true (CalledFits types true (class_behind class) items) (body_scope s n) none_second cls z n.body (part Body i)) (ap₂ (λ us ws. input_of cs us (input_of n.inputs ws (λ x. Absent))) ctr row) h.0.1.1.1.1.1)
    (subst (λ z. BlockFits types true (CalledFits types true (class_behind class) items) (body_scope s n) none_second cls z n.body (part Body j)) (ap₂ (λ us ws. input_of cs us (input_of n.inputs ws (λ x. Absent))) ctr' row') h'.0.1.1.1.1.1)
    (λ q. m (Body ∷ q)) (λ q. m' (Body ∷ q)) (λ q. fl (Body ∷ q)) (λ q. fl' (Body ∷ q)) (λ q. o.falls (Body ∷ q)) p e seen)
node_served types items class n o df vs a past raw raw' ctl ctl' i j h h' fl fl' m m' p e seen =
    let s = scope_behind items in
    let last : Names = lasts (λ (c : Const). marked (constant_of types c)) n.outputs past (λ x. Absent) in
    let row = row_held types n.inputs vs (part Inputs i) a (λ q. m (Inputs ∷ q)) in
    let row' = row_held types n.inputs vs (part Inputs j) a (λ q. m' (Inputs ∷ q)) in
    let outer : Names = λ x. if declares n.outputs x then i (Named x ∷ []) else input_of n.inputs vs (λ y. Absent) x in
    let outer' : Names = λ x. if declares n.outputs x then j (Named x ∷ []) else input_of n.inputs vs (λ y. Absent) x in
    let cls : Assignment = seen_in_node (class_here class) n in
    contract_served types items (class_behind class) (inside_node s n) (known_outputs n (class_here class)) (class_here class) cls (output_in n (below Body only)) o.rank outer outer' last past raw raw' i j fl fl' ctl ctl' n.contract
    (λ q. refl) df.0
    (subst (λ (ws : List Value). ContractFits types true (CalledFits types true (class_behind class) items) (inside_node s n) cls (λ x. if declares n.outputs x then i (Named x ∷ []) else input_of n.inputs ws (λ y. Absent) x) n.contract i) row h.1)
    (subst (λ (ws : List Value). ContractFits types true (CalledFits types true (class_behind class) items) (inside_node s n) cls (λ x. if declares n.outputs x then j (Named x ∷ []) else input_of n.inputs ws (λ y. Absent) x) n.contract j) row' h'.1)
    (λ q. m (Observer ∷ q)) (λ q. m (Assume ∷ q)) (λ q. m (Enforce ∷ q)) (λ q. m' (Observer ∷ q)) (λ q. m' (Assume ∷ q)) (λ q. m' (Enforce ∷ q)) (λ q. o.falls (Observer ∷ q)) p e seen
