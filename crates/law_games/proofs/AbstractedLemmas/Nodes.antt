-- What the places of a node hold in the abstraction and in the one without Nil agrees.
use Rattle.std.proofs.Common.{◌≡◌, ℕ, List, [], ◌∷◌, refl, sym, ap, ap₂, subst, ◌∙◌}
use Rattle.std.proofs.Math.Path.{fun_ext}
use Rattle.std.specs.Prelude.{Bool, true, false, ◌||◌, IsTrue, if◌then◌else◌, Option, None, Some, not, IsFalse}
use Rattle.std.specs.Str.{bytes_eq}
use Rattle.hp_base.specs.declared.ty.Ty.TheVariants as ty
use Rattle.hp_base.specs.declared.ty.Const.{Const}
use Rattle.hp_base.specs.declared.value.Value.{Value}
use Rattle.hp_base.specs.declared.value.Value.TheVariants.{Absent, Nil}
use Rattle.hp_tree.specs.Expressions.{Expr}
use Rattle.hp_tree.specs.Blocks.{Decl, Block, block, Eqns}
use Rattle.hp_tree.specs.Programs.{TypeDecl, Contract, Node}
use Rattle.hp_tree.specs.Operators.{Reading, abstraction, marked, constant_of}
use Rattle.law_games.specs.Wires.Wired.{filled_abstraction}
use Rattle.hp_tree.specs.Instant.{Inputs, Controls, Body, Observer, Assume, Enforce, Named, Fresh, Head, Tail, Place, Instant, Past, Given, at, part, parts, own, since, nothing, in_node}
use Rattle.hp_tree.specs.Meaning.{Names, Nodes, declares, previous, lasts as lasts_said, input_of, controls_of, given_to, scope, observer, node, read_in, last_in, expr, block_defines, some_defines}
use Rattle.hp_tree.specs.Reaction.{Each}
use Rattle.hp_base.specs.Known.Known.{lookup}
use Rattle.hp_typing.specs.Scopes.{with_variables, inside, inside_node}
use Rattle.law_judged.specs.Typed.Scopes.{Scope}
use Rattle.hp_init.specs.Classes.{Assignment, Known as Classed, or_first, known_outputs}
use Rattle.law_judged.proofs.NamedLemmas.Sets.{same_name}
use Rattle.law_values.specs.Valued.Judged.{Lasts, lasts_in, lasts_of, no_lasts, body_scope, IsPlain, PlainContract, HaveOwnTypes, HaveEquations}
use Rattle.law_values.specs.Valued.Classed.{none_second, classes_of, BlockDefinite, NodeDefinite}
use Rattle.law_games.specs.Abstracted.Fitting.{Presence, IsThere, OutputsFit, ToldFits, NodeFits}
use Rattle.law_games.specs.Abstracted.Given.{BlockGiven, ToldGiven, ContractGiven, NodeGiven}
use Rattle.law_values.proofs.ValuedLemmas.Both.{BlockOk, ToldOk, ContractOk, NodeOk}
use Rattle.law_games.proofs.AbstractedLemmas.Loose.{BlockLoose, ContractAt, ContractLoose, NodeLoose}
use Rattle.law_games.proofs.AbstractedLemmas.Loosen.{node_loose}
use Rattle.law_games.proofs.AbstractedLemmas.Laws.{Along, and_left, and_right, or_either}
use Rattle.law_games.proofs.AbstractedLemmas.Scoped.{not_declared, presences, last_of as last_given}
use Rattle.law_games.proofs.AbstractedLemmas.ExprTops.{along_part, own_all}
use Rattle.law_games.proofs.AbstractedLemmas.Gives.{is_not}
use Rattle.law_games.proofs.AbstractedLemmas.NodeContract.{each_as}
use Rattle.law_values.specs.Filled.Firsts.{DeclsHaveFirsts, BlockHasFirsts, ContractHasFirsts, NodeHasFirsts}
use Rattle.law_values.proofs.FilledLemmas.FirstsFit.{as_given}
use Rattle.law_values.proofs.FilledLemmas.TypesAgree.{agrees_at}
use Rattle.law_games.proofs.AbstractedLemmas.Marked.{Marks, Agree, AllAgree, PastsAgree, of_none, to_none, is_same, as_type, observer_agrees, past_part, past_own, typed_not_nil}
use Rattle.law_values.proofs.FilledLemmas.Places.{of_expr, of_block, of_told, of_contract, of_node}
use Rattle.law_values.proofs.FilledLemmas.ClocksFirst.{BlockClocks, ContractClocks, NodeClocks}
use Rattle.law_games.specs.Abstracted.SameGiven.{SameGiven}
use Rattle.law_games.proofs.AbstractedLemmas.Expressions.{Solved, NamesAgree, HaveFirsts, Callees, M, expr_agrees}
use Rattle.law_games.proofs.AbstractedLemmas.Names.{Same, Quiet, constant_quiet, firsts_inside, names_inside, lasts_same}
use Rattle.law_games.proofs.AbstractedLemmas.Blocks.{scope_agrees}

-- the names of a node have types with first values
module _ (types : List TypeDecl) (among : List ℕ → Option Node) (s : Scope) (n : Node) (empty : s.variables ≡ []) (firsts : NodeHasFirsts types n) where
  pub firsts_node : HaveOwnTypes types among (inside_node s n) n.inputs → HaveOwnTypes types among (inside_node s n) n.outputs → HaveFirsts types (inside_node s n)
  firsts_node hi ho x t h =
      (agrees_at types among (inside_node s n) n.inputs (λ y. t) x t hi firsts.inputs h
      (λ f. (
        refl,
        (agrees_at types among (inside_node s n) n.outputs (λ y. t) x t ho firsts.outputs h
            (λ g.
            let k : lookup s.variables x ≡ Some t = sym (not_declared x n.inputs s f) ∙ sym (not_declared x n.outputs (with_variables s n.inputs) g) ∙ h in
            let none : None ≡ Some t = sym (ap (λ z. lookup z x) empty) ∙ k in
            absurd (cc))).1,
      ))).1

  firsts_body : HaveFirsts types (inside_node s n) → HaveOwnTypes types among (body_scope s n) (controls_of n.contract) → HaveFirsts types (body_scope s n)
  firsts_body outer hc x t h =
      (agrees_at types among (body_scope s n) (controls_of n.contract) (λ y. t) x t hc firsts.controls h
      (λ f. (refl, outer x t (sym (not_declared x (controls_of n.contract) (inside_node s n) f) ∙ h)))).1

each_body : (Q P : Instant → Type 0) (past : Past) → ((i : Instant) → Q i → P (part Body i)) → Each Q past → Each (λ i. (d : Bool) × IsThere d P i) (parts Body past)
each_body Q P [] f a = tt
each_body Q P (i ∷ past) f a = ((true, f i a.0), each_body Q P past f a.1)

each_observer : (Q P : Instant → Type 0) (past : Past) → ((i : Instant) → Q i → P (part Observer i)) → Each Q past → Each (λ i. (d : Bool) × IsThere d P i) (parts Observer past)
each_observer Q P [] f a = tt
each_observer Q P (i ∷ past) f a = ((true, f i a.0), each_observer Q P past f a.1)

-- what is told of a block, or nothing
abbrev told : List TypeDecl → Reading → Nodes → Option Expr → Names → Names → Given → Instant → Instant
told types R N None names last g now = nothing
told types R N (Some e) names last g now = expr types R N e [] names last g now

module _ (types : List TypeDecl) (N : Nodes) (S : Solved) (among : List ℕ → Option Node) (fits given : List ℕ → Instant → Type 0) (T : List ℕ → Marks) (known : Callees types N S among fits given T) where
  abbrev M' : Nodes
  M' = M types N S among fits given T known

  given_same : (ds : List Decl) (free other : Instant) → ((q : Place) → other q ≡ free q) → given_to types filled_abstraction M' ds other ≡ given_to types abstraction N ds free
  given_same [] free other h = refl
  given_same (d ∷ ds) free other h = ap₂ (λ v vs. v ∷ vs) (h (Head ∷ [])) (given_same ds (part Tail free) (part Tail other) (λ q. h (Tail ∷ q)))

  -- ---- the last values of outputs

  module _ (U : Marks) (named : (x : List ℕ) → U (Named x ∷ []) ≡ None) where
    previous_output : (d : Decl) (v : Value) (past other : Past) → (v ≡ Nil → ⊥) → Each (λ i. OutputsFit types (d ∷ []) i) past → PastsAgree types U past other → Same (previous past d.name v) (previous other d.name v)
    previous_output d v [] [] q a h = (refl, q)
    previous_output d v (i ∷ past) (j ∷ other) q a h =
        (of_none types (i (Named d.name ∷ [])) (j (Named d.name ∷ [])) (as_type types (U (Named d.name ∷ [])) None (i (Named d.name ∷ [])) (j (Named d.name ∷ [])) (named d.name) (h.0 (Named d.name ∷ []))), typed_not_nil types d.ty (i (Named d.name ∷ [])) a.0.0)
    previous_output d v [] (j ∷ other) q a h = absurd h
    previous_output d v (i ∷ past) [] q a h = absurd h

    pub output_lasts : (ds : List Decl) (past other : Past) → Each (λ i. OutputsFit types ds i) past → PastsAgree types U past other → (x : List ℕ) → Same (lasts_said (λ (k : Const). marked (constant_of types k)) ds past (λ y. Absent) x) (lasts_said (λ (k : Const). marked (constant_of types k)) ds other (λ y. Absent) x)
    output_lasts [] past other a h x = (refl, λ e. absurd (cc))
    output_lasts (d ∷ ds) past other a h x =
        by (bytes_eq d.name x)
        (λ e. subst (λ z. Same (last_given d.last Absent (λ c. previous past z (marked (constant_of types c)))) (last_given d.last Absent (λ c. previous other z (marked (constant_of types c))))) (same_name d.name x e)
        (here d.last (λ c. previous_output d (marked (constant_of types c)) past other (constant_quiet types c) (each_as (OutputsFit types (d ∷ ds)) (OutputsFit types (d ∷ [])) past (λ i z. (z.0, tt)) a) h)))
        (output_lasts ds past other (each_as (OutputsFit types (d ∷ ds)) (OutputsFit types ds) past (λ i z. z.1) a) h x)
      where
        here : (o : Option Const) → ((c : Const) → Same (previous past d.name (marked (constant_of types c))) (previous other d.name (marked (constant_of types c)))) → Same (last_given o Absent (λ c. previous past d.name (marked (constant_of types c)))) (last_given o Absent (λ c. previous other d.name (marked (constant_of types c))))
        here None f = (refl, λ e. absurd (cc))
        here (Some c) f = f c

        by : (b : Bool) → (IsTrue b → Same (last_given d.last Absent (λ c. previous past x (marked (constant_of types c)))) (last_given d.last Absent (λ c. previous other x (marked (constant_of types c))))) → Same (lasts_said (λ (k : Const). marked (constant_of types k)) ds past (λ y. Absent) x) (lasts_said (λ (k : Const). marked (constant_of types k)) ds other (λ y. Absent) x)
            → Same (if b then last_given d.last Absent (λ c. previous past x (marked (constant_of types c))) else lasts_said (λ (k : Const). marked (constant_of types k)) ds past (λ y. Absent) x) (if b then last_given d.last Absent (λ c. previous other x (marked (constant_of types c))) else lasts_said (λ (k : Const). marked (constant_of types k)) ds other (λ y. Absent) x)
        by true f g = f refl
        by false f g = g

  -- ---- a contract

  abbrev pub observer_mark : Scope → Assignment → Option Contract → Marks
  observer_mark s class k (Observer ∷ p) = of_contract T s class k (Observer ∷ p)
  observer_mark s class k (Assume ∷ p) = of_contract T s class k (Assume ∷ p)
  observer_mark s class k (Enforce ∷ p) = of_contract T s class k (Enforce ∷ p)
  observer_mark s class k p = None

  module _ (s : Scope) (lasts : Lasts) (class : Assignment) (names names' last : Names) (agree : NamesAgree types s none_second names names') (firsts : HaveFirsts types s) (quiet : Quiet last) (g g' : Given) (now now' : Instant) (cs : SameGiven g.free g'.free) where
    abbrev class' : Assignment
    class' p = class (Observer ∷ p)

    told_agrees : (ds : List Decl) (es : Eqns) (e : Option Expr) (ok : BlockOk types among s none_second lasts class' (block ds es)) → DeclsHaveFirsts types ds → Each (BlockLoose types true fits s none_second class' (block ds es)) (own (parts Observer g.past)) → PastsAgree types (of_block T s none_second class' (block ds es)) (own (parts Observer g.past)) (own (parts Observer g'.past)) → AllAgree types (of_block T s none_second class' (block ds es)) (part Observer now) (part Observer now')
        → (h h' : Given) (i i' : Instant) (ws : List Presence) (there : Presence) → ToldOk types among (with_variables s ds) (classes_of (block ds es) none_second class') (lasts_in ds lasts) e → ToldFits types true fits (with_variables s ds) (classes_of (block ds es) none_second class') there e i → Along (λ w j. ToldFits types true fits (with_variables s ds) (classes_of (block ds es) none_second class') w e j) ws h.past → PastsAgree types (of_told T (with_variables s ds) (classes_of (block ds es) none_second class') e) h.past h'.past → ToldGiven types false as_given given (with_variables s ds) e h'.free → SameGiven h.free h'.free
        → ((p : Place) → i p ≡ told types abstraction N e (read_in types abstraction N (block ds es) names (part Observer now)) (last_in types abstraction N (block ds es) (own (parts Observer g.past)) last) h i p)
        → AllAgree types (of_told T (with_variables s ds) (classes_of (block ds es) none_second class') e) (told types abstraction N e (read_in types abstraction N (block ds es) names (part Observer now)) (last_in types abstraction N (block ds es) (own (parts Observer g.past)) last) h i) (told types filled_abstraction M' e (read_in types filled_abstraction M' (block ds es) names' (part Observer now')) (last_in types filled_abstraction M' (block ds es) (own (parts Observer g'.past)) last) h' i')
    told_agrees ds es None ok hf a pasts here h h' i i' ws there tok cur past pasts' gv cs' m = λ p. refl
    told_agrees ds es (Some e) ok hf a pasts here h h' i i' ws there tok cur past pasts' gv cs' m =
        let ns = read_in types abstraction N (block ds es) names (part Observer now) in
        let ns' = read_in types filled_abstraction M' (block ds es) names' (part Observer now') in
        let old = lasts_said (λ (k : Const). marked (constant_of types k)) ds (own (parts Observer g.past)) last in
        subst (λ l. AllAgree types (of_expr T (with_variables s ds) (classes_of (block ds es) none_second class') e) (expr types abstraction N e [] ns old h i) (expr types filled_abstraction M' e [] ns' l h' i')) (sym (lasts_same types N S among fits given T known ds es s none_second lasts class' ok last (own (parts Observer g.past)) (own (parts Observer g'.past)) quiet a pasts))
        (expr_agrees types N S among fits given T known (with_variables s ds) (classes_of (block ds es) none_second class') (lasts_in ds lasts) ns ns' old
        (names_inside types N S among fits given T known ds es s none_second lasts class' ok names names' (part Observer now) (part Observer now') agree here) (firsts_inside types N S among fits given T known ds es s none_second lasts class' ok hf firsts) ws there
        e ty.Bool [] h h' i i' tok.1.1 tok.0 tt cur past pasts' gv cs' m)

    contract_by : (b : Block) (assume enforce : Option Expr) → IsPlain b → BlockOk types among s none_second lasts class' b → ToldOk types among (inside s b) (classes_of b none_second class') (lasts_of b lasts) assume → ToldOk types among (inside s b) (classes_of b none_second class') (lasts_of b lasts) enforce → BlockClocks none_second class' b → BlockHasFirsts types b → ContractAt types true fits s class b assume enforce now → Each (ContractAt types true fits s class b assume enforce) g.past
        → PastsAgree types (of_block T s none_second class' b) (parts Observer g.past) (parts Observer g'.past) → PastsAgree types (of_told T (inside s b) (classes_of b none_second class') assume) (parts Assume g.past) (parts Assume g'.past) → PastsAgree types (of_told T (inside s b) (classes_of b none_second class') enforce) (parts Enforce g.past) (parts Enforce g'.past)
        → BlockGiven types false as_given given s b (part Observer g'.free) → ToldGiven types false as_given given (inside s b) assume (part Assume g'.free) → ToldGiven types false as_given given (inside s b) enforce (part Enforce g'.free) → AllAgree types (of_block T s none_second class' b) (part Observer now) (part Observer now')
        → ((p : Place) → now (Observer ∷ p) ≡ scope types abstraction N b false names last (since false (at Observer g)) (part Observer now) p)
        → ((p : Place) → now (Assume ∷ p) ≡ told types abstraction N assume (read_in types abstraction N b names (part Observer now)) (last_in types abstraction N b (own (parts Observer g.past)) last) (at Assume g) (part Assume now) p)
        → ((p : Place) → now (Enforce ∷ p) ≡ told types abstraction N enforce (read_in types abstraction N b names (part Observer now)) (last_in types abstraction N b (own (parts Observer g.past)) last) (at Enforce g) (part Enforce now) p)
        → AllAgree types (of_block T s none_second class' b) (scope types abstraction N b false names last (since false (at Observer g)) (part Observer now)) (scope types filled_abstraction M' b false names' last (since false (at Observer g')) (part Observer now'))
        × (AllAgree types (of_told T (inside s b) (classes_of b none_second class') assume) (told types abstraction N assume (read_in types abstraction N b names (part Observer now)) (last_in types abstraction N b (own (parts Observer g.past)) last) (at Assume g) (part Assume now)) (told types filled_abstraction M' assume (read_in types filled_abstraction M' b names' (part Observer now')) (last_in types filled_abstraction M' b (own (parts Observer g'.past)) last) (at Assume g') (part Assume now'))
        × AllAgree types (of_told T (inside s b) (classes_of b none_second class') enforce) (told types abstraction N enforce (read_in types abstraction N b names (part Observer now)) (last_in types abstraction N b (own (parts Observer g.past)) last) (at Enforce g) (part Enforce now)) (told types filled_abstraction M' enforce (read_in types filled_abstraction M' b names' (part Observer now')) (last_in types filled_abstraction M' b (own (parts Observer g'.past)) last) (at Enforce g') (part Enforce now')))
    contract_by (block ds es) assume enforce low ok oka oke ck hf cur past pb pa pe gv gva gve here m ma me =
        let b = block ds es in
        let a : Each (BlockLoose types true fits s none_second class' b) (own (parts Observer g.past)) = own_all _ (parts Observer g.past) (each_observer (ContractAt types true fits s class b assume enforce) (BlockLoose types true fits s none_second class' b) g.past (λ i z. (z.0, (z.1.0, z.1.1.0))) past) in
        let pasts = past_own types (of_block T s none_second class' b) refl (parts Observer g.past) (parts Observer g'.past) pb in
        let pr = presences _ g.past past in (
          scope_agrees types N S among fits given T known b s none_second lasts class' names names' last false (since false (at Observer g)) (since false (at Observer g')) (part Observer now) (part Observer now') low ok ck hf agree firsts quiet (cur.0, (cur.1.0, cur.1.1.0)) a pasts gv (λ p. cs (Observer ∷ p)) here m,
          (
            told_agrees ds es assume ok hf.0 a pasts here (at Assume g) (at Assume g') (part Assume now) (part Assume now') pr.0 cur.0 oka cur.1.1.1.1.0 (along_part _ _ Assume pr.0 g.past (λ w i z. z.1.1.0) pr.1.1) pa gva (λ p. cs (Assume ∷ p)) ma,
            told_agrees ds es enforce ok hf.0 a pasts here (at Enforce g) (at Enforce g') (part Enforce now) (part Enforce now') pr.0 cur.0 oke cur.1.1.1.1.1 (along_part _ _ Enforce pr.0 g.past (λ w i z. z.1.1.1) pr.1.1) pe gve (λ p. cs (Enforce ∷ p)) me,
          ),
        )

    pub contract_agrees : (k : Option Contract) → PlainContract k → ContractOk types among s lasts class k → ContractClocks class k → ContractHasFirsts types k → ContractLoose types true fits s class k now → Each (ContractLoose types true fits s class k) g.past → PastsAgree types (λ p. observer_mark s class k (Observer ∷ p)) (parts Observer g.past) (parts Observer g'.past) → PastsAgree types (λ p. observer_mark s class k (Assume ∷ p)) (parts Assume g.past) (parts Assume g'.past) → PastsAgree types (λ p. observer_mark s class k (Enforce ∷ p)) (parts Enforce g.past) (parts Enforce g'.past)
        → ContractGiven types false as_given given s k g'.free → AllAgree types (λ p. observer_mark s class k (Observer ∷ p)) (part Observer now) (part Observer now')
        → ((p : Place) → now (Observer ∷ p) ≡ observer types abstraction N k names last g now (Observer ∷ p)) → ((p : Place) → now (Assume ∷ p) ≡ observer types abstraction N k names last g now (Assume ∷ p)) → ((p : Place) → now (Enforce ∷ p) ≡ observer types abstraction N k names last g now (Enforce ∷ p)) → AllAgree types (observer_mark s class k) (observer types abstraction N k names last g now) (observer types filled_abstraction M' k names' last g' now')
    contract_agrees None low ok ck hf cur past pb pa pe gv here m ma me = λ p. refl
    contract_agrees (Some c) low ok ck hf cur past pb pa pe gv here m ma me =
        let r = contract_by c.body c.assume c.enforce low ok.0 ok.1.0 ok.1.1 ck hf cur past pb pa pe gv.0 gv.1.0 gv.1.1 here m ma me in
        observer_agrees types (observer_mark s class (Some c)) _ _ _ _ _ _ r.0 r.1.0 r.1.1

  -- ---- a node

  module _ (s : Scope) (class : Assignment) (n : Node) where
    abbrev pub U : Marks
    U = of_node T s class n

    abbrev K : Option Contract → Marks
    K k = observer_mark (inside_node s n) class k

    parts_agree : (o o' : Names) (vs cs : List Value) (b b' k k' : Instant) → ((x : List ℕ) → Agree types None (o x) (o' x)) → AllAgree types (λ p. U (Body ∷ p)) b b' → AllAgree types (K n.contract) k k' → AllAgree types U (in_node o vs cs b k) (in_node o' vs cs b' k')
    parts_agree o o' vs cs b b' k k' ho hb hk (Named x ∷ []) = ho x
    parts_agree o o' vs cs b b' k k' ho hb hk (Fresh ∷ []) = refl
    parts_agree o o' vs cs b b' k k' ho hb hk (Inputs ∷ p) = to_none types _ _ refl
    parts_agree o o' vs cs b b' k k' ho hb hk (Controls ∷ p) = to_none types _ _ refl
    parts_agree o o' vs cs b b' k k' ho hb hk (Body ∷ p) = hb p
    parts_agree o o' vs cs b b' k k' ho hb hk (Observer ∷ p) = hk (Observer ∷ p)
    parts_agree o o' vs cs b b' k k' ho hb hk (Assume ∷ p) = hk (Assume ∷ p)
    parts_agree o o' vs cs b b' k k' ho hb hk (Enforce ∷ p) = hk (Enforce ∷ p)
    parts_agree o o' vs cs b b' k k' ho hb hk p = hk p

    named_none : (x : List ℕ) → U (Named x ∷ []) ≡ None
    named_none x = refl

    -- the values of outputs, as the contract reads them
    outer_agree : (outer : Names) (now now' : Instant) → AllAgree types U now now' → NamesAgree types (inside_node s n) none_second (λ x. if declares n.outputs x then now (Named x ∷ []) else outer x) (λ x. if declares n.outputs x then now' (Named x ∷ []) else outer x)
    outer_agree outer now now' here x = by (declares n.outputs x)
      where
        by : (d : Bool) → Agree types None (if d then now (Named x ∷ []) else outer x) (if d then now' (Named x ∷ []) else outer x)
        by true = here (Named x ∷ [])
        by false = to_none types (outer x) (outer x) refl

    -- an output is what the body defines
    output_agrees : (now now' : Instant) (x : List ℕ) → OutputsFit types n.outputs now → ((x : List ℕ) → now (Named x ∷ []) ≡ (if declares n.outputs x then now (Body ∷ Named x ∷ []) else Absent)) → AllAgree types U now now' → Agree types None (if declares n.outputs x then now (Body ∷ Named x ∷ []) else Absent) (if declares n.outputs x then now' (Body ∷ Named x ∷ []) else Absent)
    output_agrees now now' x o m here = by (declares n.outputs x) refl
      where
        value_here : (ds : List Decl) → OutputsFit types ds now → IsTrue (declares ds x) → now (Named x ∷ []) ≡ Nil → ⊥
        value_here [] h d e = absurd (cc)
        value_here (d' ∷ ds) h d e = choose' (bytes_eq d'.name x) refl d (value_here ds h.1)
          where
            choose' : (b : Bool) → bytes_eq d'.name x ≡ b → IsTrue (b || declares ds x) → (IsTrue (declares ds x) → now (Named x ∷ []) ≡ Nil → ⊥) → ⊥
            choose' true q z f = typed_not_nil types d'.ty (now (Named d'.name ∷ [])) h.0 (ap (λ y. now (Named y ∷ [])) (same_name d'.name x q) ∙ e)
            choose' false q z f = f z e

        by : (d : Bool) → declares n.outputs x ≡ d → Agree types None (if d then now (Body ∷ Named x ∷ []) else Absent) (if d then now' (Body ∷ Named x ∷ []) else Absent)
        by true e =
            let v = now (Body ∷ Named x ∷ []) in
            let w = now' (Body ∷ Named x ∷ []) in
            to_none types v w (is_same types (U (Body ∷ Named x ∷ [])) v w (here (Body ∷ Named x ∷ [])) (λ q. value_here n.outputs o e (m x ∙ ap (λ d. if d then v else Absent) e ∙ q)))
        by false e = refl

    pub node_agrees : s.variables ≡ [] → IsPlain n.body → PlainContract n.contract → NodeOk types among s class n → NodeClocks class n → NodeHasFirsts types n → (inputs : List Value) (g g' : Given) (now now' : Instant) → NodeFits types true fits s class n now → Each (NodeFits types true fits s class n) g.past → PastsAgree types U g.past g'.past → NodeGiven types false as_given given s n g'.free → SameGiven g.free g'.free → AllAgree types U now now'
        → ((p : Place) → now p ≡ node types abstraction N n inputs g now p) → AllAgree types U now (node types filled_abstraction M' n inputs g' now')
    node_agrees empty low lowc ok ck hf inputs g g' now now' cur past pasts gv cs here m =
        let loose' = node_loose types true fits s class n now cur in
        let looses = each_as (NodeFits types true fits s class n) (NodeLoose types true fits s class n) g.past (λ i z. node_loose types true fits s class n i z) past in
        let controls = given_to types abstraction N (controls_of n.contract) (part Controls g.free) in
        let controls' = given_to types filled_abstraction M' (controls_of n.contract) (part Controls g'.free) in
        let same : controls' ≡ controls = given_same (controls_of n.contract) (part Controls g.free) (part Controls g'.free) (λ q. cs (Controls ∷ q)) in
        let outer : Names = input_of n.inputs inputs (λ x. Absent) in
        let names : Names = input_of (controls_of n.contract) controls outer in
        let last : Names = lasts_said (λ (k : Const). marked (constant_of types k)) n.outputs g.past (λ x. Absent) in
        let last' : Names = lasts_said (λ (k : Const). marked (constant_of types k)) n.outputs g'.past (λ x. Absent) in
        let lasts' = output_lasts U named_none n.outputs g.past g'.past (each_as (NodeLoose types true fits s class n) (OutputsFit types n.outputs) g.past (λ i z. z.0.0) looses) pasts in
        let same' : last' ≡ last = fun_ext (λ x. (lasts' x).0) in
        let lasts = lasts_in n.outputs no_lasts in
        let outside = firsts_node types among s n empty hf ok.0.0 ok.0.1 in
        let sb = body_scope s n in
        let class' = λ (p : Place). class (Body ∷ p) in
        let o : Names = λ x. if declares n.outputs x then now (Body ∷ Named x ∷ []) else Absent in
        let o' : Names = λ x. if declares n.outputs x then now' (Body ∷ Named x ∷ []) else Absent in
        let seen : Names = λ x. if declares n.outputs x then now (Named x ∷ []) else outer x in
        let seen' : Names = λ x. if declares n.outputs x then now' (Named x ∷ []) else outer x in
        let body =
        scope_agrees types N S among fits given T known n.body sb none_second lasts class' names names last false (since false (at Body g)) (since false (at Body g')) (part Body now) (part Body now') low ok.1.1.1.1.0 ck.0 hf.body
        (λ x. to_none types (names x) (names x) refl) (firsts_body types among s n empty hf outside ok.1.1.0) (λ x. (lasts' x).1) loose'.0.1
        (own_all _ (parts Body g.past) (each_body (NodeLoose types true fits s class n) (BlockLoose types true fits sb none_second class' n.body) g.past (λ i z. z.0.1) looses))
        (past_own types (λ p. U (Body ∷ p)) (fresh_none n.body sb class') (parts Body g.past) (parts Body g'.past) (past_part types U Body g.past g'.past pasts))
        gv.0.1 (λ p. cs (Body ∷ p)) (λ p. here (Body ∷ p)) (λ p. m (Body ∷ p)) in
        let contract =
        contract_agrees (inside_node s n) lasts class seen seen' last (outer_agree outer now now' here) outside (λ x. (lasts' x).1) g g' now now' cs n.contract lowc ok.1.1.1.1.1 ck.1 hf.contract loose'.1
        (each_as (NodeLoose types true fits s class n) _ g.past (λ i z. z.1) looses) (past_part types U Observer g.past g'.past pasts) (past_part types U Assume g.past g'.past pasts) (past_part types U Enforce g.past g'.past pasts) gv.1 (λ p. here (Observer ∷ p)) (λ p. m (Observer ∷ p)) (λ p. m (Assume ∷ p)) (λ p. m (Enforce ∷ p)) in
        let whole : AllAgree types U (node types abstraction N n inputs g now) (in_node o' inputs controls (scope types filled_abstraction M' n.body false names last (since false (at Body g')) (part Body now')) (observer types filled_abstraction M' n.contract seen' last g' now')) =
        parts_agree o o' inputs controls _ _ _ _ (λ x. output_agrees now now' x cur.0.0 (λ y. m (Named y ∷ [])) here) body contract in
        λ p.
        subst (λ v. Agree types (U p) v (node types filled_abstraction M' n inputs g' now' p)) (sym (m p))
        (subst (λ l. Agree types (U p) (node types abstraction N n inputs g now p) (in_node o' inputs controls' (scope types filled_abstraction M' n.body false (input_of (controls_of n.contract) controls' outer) l (since false (at Body g')) (part Body now')) (observer types filled_abstraction M' n.contract seen' l g' now') p)) (sym same')
        (subst (λ vs. Agree types (U p) (node types abstraction N n inputs g now p) (in_node o' inputs vs (scope types filled_abstraction M' n.body false (input_of (controls_of n.contract) vs outer) last (since false (at Body g')) (part Body now')) (observer types filled_abstraction M' n.contract seen' last g' now') p)) (sym same) (whole p)))
      where
        fresh_none : (b : Block) (sb : Scope) (own_class : Assignment) → of_block T sb none_second own_class b (Fresh ∷ []) ≡ None
        fresh_none (block ds es) sb own_class = refl

-- ---- the outputs of a node are First, as all that is read outside of its body is

module _ (types : List TypeDecl) (among : List ℕ → Option Node) where
  others_of : (b : Block) (class : Assignment) (k : Classed) (x : List ℕ) → BlockDefinite k class b → IsTrue (block_defines b x) → IsFalse (or_first (k.variables x))
  others_of (block ds es) class k x d h = d.1.0 x (and_left (some_defines es x) (not (declares ds x)) h) (is_not (declares ds x) (and_right (some_defines es x) (not (declares ds x)) h))

  declared_defined : (b : Block) (x : List ℕ) (ds : List Decl) → HaveEquations types among b ds → IsTrue (declares ds x) → IsTrue (block_defines b x)
  declared_defined b x [] q h = absurd (cc)
  declared_defined b x (d ∷ ds) q h =
      or_either (bytes_eq d.name x) (declares ds x) h (λ e. subst (λ z. IsTrue (block_defines b z)) (same_name d.name x e) q.0.0) (λ e. declared_defined b x ds q.1 e)

  pub all_first : (n : Node) (class : Assignment) → HaveEquations types among n.body n.outputs → NodeDefinite class n → (known_outputs n class).values ≡ none_second
  all_first n class q d = λ i x. at x i
    where
      by : (x : List ℕ) (b : Bool) → (IsTrue b → IsFalse (or_first (if declares n.outputs x then Some (class (Named x ∷ [])) else None))) → declares n.outputs x ≡ b → or_first (if b then Some (class (Named x ∷ [])) else None) ≡ false
      by x true f e = subst (λ z. IsFalse (or_first (if z then Some (class (Named x ∷ [])) else None))) e (f refl)
      by x false f e = refl

      at : (x : List ℕ) → (known_outputs n class).values x ≡ false
      at x = by x (declares n.outputs x) (λ h. others_of n.body (λ q. class (Body ∷ q)) (known_outputs n class) x d.1 (declared_defined n.body x n.outputs q h)) refl
