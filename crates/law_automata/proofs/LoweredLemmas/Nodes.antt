-- A node, with its contract: each of its instants gives one of the node without automata.
use Rattle.std.proofs.Common.{◌≡◌, ℕ, Bool, true, false, ◌||◌, List, [], ◌∷◌, map, Option, None, Some, option_map, inl, inr, refl, sym, ap, ap₂, subst, ◌∙◌, arith}
use Rattle.std.specs.Prelude.{if◌then◌else◌}
use Rattle.std.specs.Str.{bytes_eq}
use Rattle.hp_base.specs.declared.span.Span.{Span}
use Rattle.hp_base.specs.declared.value.Value.{Value}
use Rattle.hp_base.specs.declared.value.Value.TheVariants.{Absent}
use Rattle.hp_base.specs.declared.ty.Const.{Const}
use Rattle.hp_tree.specs.Expressions.{Expr, constant, variable, last_of, one, two, choose, pre, fby, arrow, when_is, merge, call, Exprs, no_expr, more_exprs, Parts, no_part, more_parts}
use Rattle.hp_tree.specs.Blocks.{Decl, Block, block, eqns_of}
use Rattle.hp_tree.specs.Programs.{TypeDecl, Contract, Node}
use Rattle.hp_tree.specs.Instant.{Inputs, Controls, Body, Observer, Assume, Enforce, Named, Fresh, Head, Tail, Instant, Past, Given, at, part, parts, since, nothing, in_observer, in_node, alone, in_row}
use Rattle.hp_tree.specs.Meaning.{Names, Nodes, expr, lasts, previous, declares, some_defines, read_in, last_in, input_of, given_to, controls_of, observer, node}
use Rattle.hp_tree.specs.Reaction.{row_of}
use Rattle.hp_automata.specs.Renaming.{renamed, renamed_exprs, renamed_parts, renamed_decls}
use Rattle.hp_automata.specs.Lowering.{Types, Enumerations, declaring, same_name, lowered_body_of, lowered_contract, lowered_node, lowered_block, lowered_eqns, types_of}
use Rattle.law_automata.specs.Lowered.OldNames.{IsOld}
use Rattle.law_automata.specs.Lowered.Removable.{none_known, BlockOk, ConditionOk, ContractOk, NodeOk}
use Rattle.law_automata.specs.Lowered.Standing.{Relation, Along, BothThere, BlockStands, ConditionStands, ContractStands, NodeStands}
use Rattle.law_automata.specs.Lowered.Giving.{ConditionGiven, ContractGiven, NodeGiven}
use Rattle.law_automata.specs.Lowered.Deciding.{Property, ConditionDecided, ContractDecided, NodeDecided}
use Rattle.law_automata.proofs.LoweredLemmas.Callees.{Met, Callees}
use Rattle.law_automata.proofs.LoweredLemmas.Renaming.{Renames}
use Rattle.law_automata.proofs.LoweredLemmas.Defined.{eqns_same}
use Rattle.law_automata.proofs.LoweredLemmas.Tests.{some_append}
use Rattle.law_automata.proofs.LoweredLemmas.Expressions.{reading, expr_met, ap₃}
use Rattle.law_automata.proofs.LoweredLemmas.Pasts.{along_map, own_along, along_so}
use Rattle.law_automata.proofs.LoweredLemmas.BlockMaking.{value_of, lasts_same}
use Rattle.law_automata.proofs.LoweredLemmas.Around.{Undone}
use Rattle.law_automata.proofs.LoweredLemmas.BlockSteps.{AroundBlock}
use Rattle.law_automata.proofs.LoweredLemmas.Steps.{block_step}

-- ---- where names stand for themselves

mutual
  pub itself : (e : Expr) → renamed same_name e ≡ e
  itself (constant s c) = refl
  itself (variable s x) = refl
  itself (last_of s x) = refl
  itself (one s o a) = ap (one s o) (itself a)
  itself (two s o a b) = ap₂ (two s o) (itself a) (itself b)
  itself (choose s a b c) = ap₃ (choose s) (itself a) (itself b) (itself c)
  itself (pre s a) = ap (pre s) (itself a)
  itself (fby s a b) = ap₂ (fby s) (itself a) (itself b)
  itself (arrow s a b) = ap₂ (arrow s) (itself a) (itself b)
  itself (when_is s a c x) = ap (λ e. when_is s e c x) (itself a)
  itself (merge s x ps) = ap (merge s x) (itself_parts ps)
  itself (call s f i es) = ap (call s f i) (itself_all es)

  itself_all : (es : Exprs) → renamed_exprs same_name es ≡ es
  itself_all no_expr = refl
  itself_all (more_exprs e es) = ap₂ more_exprs (itself e) (itself_all es)

  itself_parts : (ps : Parts) → renamed_parts same_name ps ≡ ps
  itself_parts no_part = refl
  itself_parts (more_parts c e ps) = ap₂ (more_parts c) (itself e) (itself_parts ps)

pub itself_renames : Renames none_known 0 same_name
itself_renames = record { deep = omega arith; kept = λ x o h. refl; range = λ x o. inl refl }

pub itself_undone : Undone same_name
itself_undone = record { back = λ x. x; back_to = λ x o. refl }

lasts_renamed : (value : Const → Value) (to : List ℕ → List ℕ) (ds : List Decl) (past : Past) (out : Names) (x : List ℕ) → lasts value (renamed_decls to ds) past out x ≡ lasts value ds past out x
lasts_renamed value to [] past out x = refl
lasts_renamed value to (d ∷ ds) past out x = ap (λ v. if bytes_eq d.name x then (elim d.last [ None ↦ out x | Some c ↦ previous past x (value c) ]) else v) (lasts_renamed value to ds past out x)

module _ (types : List TypeDecl) (u : Value → Value) (N N' : Nodes) (stands given : List ℕ → Relation) (decided : List ℕ → Property) (C : Callees N N' stands given decided) (enums : Enumerations) where
  abbrev no_value : Names
  no_value x = Absent

  -- ---- a block of its own
  around : (tys : Types) (b : Block) → BlockOk none_known 0 b → (out out' last last' : Names) → ((x : List ℕ) → IsOld x → out' x ≡ out x) → ((x : List ℕ) → IsOld x → last' x ≡ last x) → AroundBlock none_known 0 same_name [] b out out' last last'
  around tys b ok out out' last last' h l =
      record { renames = itself_renames; undone = itself_undone; ok = ok; own = λ x q. absurd cc; old = λ x q. absurd cc; out_same = λ x o q. h x o; kept_same = λ x q n. absurd cc; lasts = l }

  -- ---- a contract

  module _ (tys : Types) (seen seen' last last' : Names) (same : (x : List ℕ) → IsOld x → seen' x ≡ seen x) (lasts_are : (x : List ℕ) → IsOld x → last' x ≡ last x) (g g' : Given) (now : Instant) where
    -- names in a contract's block
    read_same : (b : Block) → BlockOk none_known 0 b → (s : Span) (i j : Instant) → ((x : List ℕ) → i (Named x ∷ []) ≡ j (Named x ∷ [])) → (x : List ℕ) → IsOld x → read_in types (reading u) N' (lowered_block enums same_name tys 0 s [] b) seen' j x ≡ read_in types (reading u) N b seen i x
    read_same (block ds es) ok s i j h x o =
        ap₃ (λ t p q. if t then p else q) (some_append (lowered_eqns enums same_name (declaring tys ds) 0 es) [] x ∙ no_more (some_defines (eqns_of (lowered_eqns enums same_name (declaring tys ds) 0 es)) x) ∙ eqns_same enums itself_renames (declaring tys ds) es ok.1 x o)
        (sym (h x)) (same x o)
      where
        no_more : (t : Bool) → (t || false) ≡ t
        no_more true = refl
        no_more false = refl

    last_same : (b : Block) (s : Span) (past other : Past) → Along (BlockStands stands 0 b) past other → (x : List ℕ) → IsOld x
        → last_in types (reading u) N' (lowered_block enums same_name tys 0 s [] b) other last' x ≡ last_in types (reading u) N b past last x
    last_same (block ds es) s past other a x o = lasts_same (value_of types) (BlockStands stands 0 (block ds es)) ds (λ i j h. h.0) past other a same_name last last' x (lasts_are x o) ds (λ z q. q)

    abbrev told : (N : Nodes) → Option Expr → Names → Names → Given → Instant → Instant
    told N None names last g now = nothing
    told N (Some e) names last g now = expr types (reading u) N e [] names last g now

    told_met : (c : Option Expr) → ConditionOk c → (names names' lst lst' : Names) → ((x : List ℕ) → IsOld x → names' x ≡ names x) → ((x : List ℕ) → IsOld x → lst' x ≡ lst x) → (g g' : Given) (now : Instant) → Along (ConditionStands stands c) g.past g'.past
        → ConditionGiven u given c g.free g'.free → ConditionDecided decided c now → now ≡ told N c names lst g now → Met (ConditionStands stands c now) (λ j. told N' c names' lst' g' j)
    told_met None ok names names' lst lst' h l g g' now past free dec m = (nothing, refl, tt)
    told_met (Some e) ok names names' lst lst' h l g g' now past free dec m =
        let E = expr_met types u N N' stands given decided C same_name names' names lst' lst h l e ok [] tt g g' now past free dec m in
        (E.0, E.1 ∙ ap (λ q. expr types (reading u) N' q [] names' lst' g' E.0) (itself e), E.2)

    observer_met : (c : Option Contract) → ContractOk c → Along (ContractStands stands c) g.past g'.past → ContractGiven u given c g.free g'.free → ContractDecided decided c now
        → part Observer now ≡ part Observer (observer types (reading u) N c seen last g now) → part Assume now ≡ part Assume (observer types (reading u) N c seen last g now) → part Enforce now ≡ part Enforce (observer types (reading u) N c seen last g now)
        → Met (ContractStands stands c now) (λ j. observer types (reading u) N' (option_map (lowered_contract enums tys) c) seen' last' g' j)
    observer_met None ok past free dec mg ma me = (nothing, refl, tt)
    observer_met (Some c) ok past free dec mg ma me =
        let S : Relation = ContractStands stands (Some c) in
        let own_past = own_along (BlockStands stands 0 c.body) (parts Observer g.past) (parts Observer g'.past) (along_map S (BothThere (BlockStands stands 0 c.body)) (part Observer) (part Observer) (λ i j h. h.0) g.past g'.past past) in
        let made = block_step types u N N' stands given decided C enums c.body none_known 0 same_name [] seen seen' last last' (around tys c.body ok.0 seen seen' last last' same lasts_are) tys c.span false
        (since false (at Observer g)) (since false (at Observer g')) (part Observer now) own_past free.0 dec.0 mg in
        let names : Names = read_in types (reading u) N c.body seen (part Observer now) in
        let names' : Names = read_in types (reading u) N' (lowered_body_of enums tys c.span c.body) seen' made.instant in
        let lst : Names = last_in types (reading u) N c.body (since false (at Observer g)).past last in
        let lst' : Names = last_in types (reading u) N' (lowered_body_of enums tys c.span c.body) (since false (at Observer g')).past last' in
        let same_names : (x : List ℕ) → IsOld x → names' x ≡ names x = read_same c.body ok.0 c.span (part Observer now) made.instant (made.all (λ x. refl) (λ x. refl)) in
        let same_lasts : (x : List ℕ) → IsOld x → lst' x ≡ lst x = last_same c.body c.span (since false (at Observer g)).past (since false (at Observer g')).past own_past in
        let A = told_met c.assume ok.1 names names' lst lst' same_names same_lasts (at Assume g) (at Assume g') (part Assume now)
        (along_map S (ConditionStands stands c.assume) (part Assume) (part Assume) (λ i j h. h.1) g.past g'.past past) free.1 dec.1 ma in
        let E = told_met c.enforce ok.2 names names' lst lst' same_names same_lasts (at Enforce g) (at Enforce g') (part Enforce now)
        (along_map S (ConditionStands stands c.enforce) (part Enforce) (part Enforce) (λ i j h. h.2) g.past g'.past past) free.2 dec.2 me in (
          in_observer made.instant A.0 E.0,
          ap₃ in_observer made.meets A.1 E.1,
          (inr (made.was_fresh ∙ sym made.is_fresh, made.so), A.2, E.2),
        )

  -- ---- a node

  controls_same : (tys : Types) (c : Option Contract) → controls_of (option_map (lowered_contract enums tys) c) ≡ controls_of c
  controls_same tys None = refl
  controls_same tys (Some c) = refl

  given_row : (M : Nodes) (ds : List Decl) (i : Instant) → given_to types (reading u) M ds i ≡ row_of ds i
  given_row M [] i = refl
  given_row M (d ∷ ds) i = ap (λ vs. i (Head ∷ []) ∷ vs) (given_row M ds (part Tail i))

  -- what a contract's part of an instant says is said of its parts
  observer_parts : (M : Nodes) (c : Option Contract) (seen last : Names) (g : Given) (i k : Instant) → part Observer i ≡ part Observer k → part Assume i ≡ part Assume k → part Enforce i ≡ part Enforce k
      → observer types (reading u) M c seen last g i ≡ observer types (reading u) M c seen last g k
  observer_parts M None seen last g i k a b e = refl
  observer_parts M (Some c) seen last g i k a b e = ap₃ (λ p q r. observer types (reading u) M (Some c) seen last g (in_observer p q r)) a b e

  contract_parts : (c : Option Contract) (i j k : Instant) → part Observer j ≡ part Observer k → part Assume j ≡ part Assume k → part Enforce j ≡ part Enforce k → ContractStands stands c i j → ContractStands stands c i k
  contract_parts None i j k a b e h = tt
  contract_parts (Some c) i j k a b e h =
      (subst (BothThere (BlockStands stands 0 c.body) (part Observer i)) a h.0, subst (ConditionStands stands c.assume (part Assume i)) b h.1, subst (ConditionStands stands c.enforce (part Enforce i)) e h.2)

  pub node_met : (n : Node) → NodeOk n → (inputs : List Value) (g g' : Given) (now : Instant) → Along (NodeStands stands n) g.past g'.past → NodeGiven u given n g.free g'.free → NodeDecided decided n now
      → now ≡ node types (reading u) N n inputs g now → Met (NodeStands stands n now) (λ j. node types (reading u) N' (lowered_node enums n) inputs g' j)
  node_met n ok inputs g g' now past free dec m =
      let tys : Types = types_of n in
      let contract' : Option Contract = option_map (lowered_contract enums tys) n.contract in
      let controls : List Value = given_to types (reading u) N (controls_of n.contract) (part Controls g.free) in
      let controls' : List Value = given_to types (reading u) N' (controls_of contract') (part Controls g'.free) in
      let same_controls : controls ≡ controls' = given_row N (controls_of n.contract) (part Controls g.free) ∙ free.0 ∙ sym (given_row N' (controls_of n.contract) (part Controls g'.free))
      ∙ ap (λ cs. given_to types (reading u) N' cs (part Controls g'.free)) (sym (controls_same tys n.contract)) in
      let outer : Names = input_of n.inputs inputs no_value in
      let out : Names = input_of (controls_of n.contract) controls outer in
      let out' : Names = input_of (controls_of contract') controls' outer in
      let same_out : out' ≡ out = sym (ap₂ (λ cs vs. input_of cs vs outer) (sym (controls_same tys n.contract)) same_controls) in
      let last : Names = lasts (value_of types) n.outputs g.past no_value in
      let last' : Names = lasts (value_of types) n.outputs g'.past no_value in
      let lasts_are : (x : List ℕ) → IsOld x → last' x ≡ last x =
      λ x o. sym (lasts_renamed (value_of types) same_name n.outputs g'.past no_value x)
      ∙ lasts_same (value_of types) (NodeStands stands n) n.outputs (λ i j h z q. h.outputs z) g.past g'.past past same_name no_value no_value x refl n.outputs (λ z q. q) in
      let made = block_step types u N N' stands given decided C enums n.body none_known 0 same_name [] out out' last last' (around tys n.body ok.body out out' last last' (λ x o. ap (λ h. h x) same_out) lasts_are) tys n.span false
      (since false (at Body g)) (since false (at Body g')) (part Body now)
      (own_along (BlockStands stands 0 n.body) (parts Body g.past) (parts Body g'.past) (along_map (NodeStands stands n) (BothThere (BlockStands stands 0 n.body)) (part Body) (part Body) (λ i j h. h.body) g.past g'.past past))
      free.1 dec.0 (ap (part Body) m) in
      let body_same : (x : List ℕ) → now (Body ∷ Named x ∷ []) ≡ made.instant (Named x ∷ []) = made.all (λ x. refl) (λ x. refl) in
      let outputs' : Names = λ x. if declares n.outputs x then made.instant (Named x ∷ []) else Absent in
      let outputs_are : (x : List ℕ) → now (Named x ∷ []) ≡ outputs' x = λ x. ap (λ i. i (Named x ∷ [])) m ∙ ap (λ v. if declares n.outputs x then v else Absent) (body_same x) in
      let seen : Names = λ x. if declares n.outputs x then now (Named x ∷ []) else outer x in
      let seen' : Names = λ x. if declares n.outputs x then outputs' x else outer x in
      let G = observer_met tys seen seen' last last' (λ x o. ap (λ v. if declares n.outputs x then v else outer x) (sym (outputs_are x))) lasts_are g g' now n.contract ok.contract
      (along_map_of n g.past g'.past past) free.2 dec.1 (ap (part Observer) m) (ap (part Assume) m) (ap (part Enforce) m) in
      let now' : Instant = in_node outputs' inputs controls' made.instant G.0 in (
        now',
        ap₂ (in_node outputs' inputs controls') made.meets (G.1 ∙ observer_parts N' contract' seen' last' g' G.0 now' refl refl refl),
        record {
          fresh = ap (λ i. i (Fresh ∷ [])) m;
          inputs = λ p. ap (λ i. i (Inputs ∷ p)) m;
          controls = λ p. ap (λ i. i (Controls ∷ p)) m ∙ ap (λ cs. in_row (map alone cs) p) same_controls;
          outputs = outputs_are;
          names = body_same;
          body = inr (made.was_fresh ∙ sym made.is_fresh, made.so);
          contract = contract_parts n.contract now G.0 now' refl refl refl G.2;
        },
      )
    where
      along_map_of : (n : Node) (past other : Past) → Along (NodeStands stands n) past other → Along (ContractStands stands n.contract) past other
      along_map_of n past other a = along_so (NodeStands stands n) (ContractStands stands n.contract) (λ i j h. h.contract) past other a
