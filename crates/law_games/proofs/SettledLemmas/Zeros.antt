-- Wires that are typed: where each declaration is of a type with a first value, that value at each place.
use Rattle.std.proofs.Common.{◌≡◌, ℕ, List, [], ◌∷◌, refl, sym, ap, subst, ◌∙◌, arith}
use Rattle.std.specs.Prelude.{Bool, false, IsTrue, Option, None, Some}
use Rattle.hp_base.specs.declared.ty.Ty.{Ty}
use Rattle.hp_base.specs.declared.ty.Ty.TheVariants as ty
use Rattle.hp_base.specs.declared.value.Value.{Value}
use Rattle.hp_base.specs.declared.value.Value.TheVariants.{Absent, B}
use Rattle.hp_tree.specs.declared.block.Trans.{Trans}
use Rattle.hp_tree.specs.Expressions.{Expr, constant, variable, last_of, one, two, choose, pre, fby, arrow, when_is, merge, call, Exprs, no_expr, more_exprs, Parts, no_part, more_parts}
use Rattle.hp_tree.specs.Blocks.{Decl, Block, block, Eqns, no_eqn, more_eqns, Eqn, define, switch, reset, automaton, Arms, no_arm, more_arms, States, no_state, more_states}
use Rattle.hp_tree.specs.Programs.{TypeDecl, Contract, Node}
use Rattle.hp_tree.specs.Operators.{marked, constant_of}
use Rattle.hp_tree.specs.Values.{IsOf}
use Rattle.hp_tree.specs.Filled.{first_value}
use Rattle.hp_tree.specs.Meaning.{controls_of, state_word}
use Rattle.hp_tree.specs.Instant.{Named, Instant, nothing, alone, with_one, with_two, with_three, in_row, with_row, with_instance, of_two, in_block, in_right, with_arms, with_body, in_state, with_words, in_observer, in_node}
use Rattle.hp_base.specs.Known.Known.{lookup}
use Rattle.hp_typing.specs.Scopes.{with_variables, inside, inside_node}
use Rattle.hp_typing.specs.Types.{type_of, types_in, type_of_one, args_fit, input_type, merge_type}
use Rattle.law_judged.specs.Typed.Scopes.{Scope}
use Rattle.law_values.specs.Valued.Judged.{Lasts, lasts_in, lasts_of, body_scope, ExprSound, ExprsSound, PartsSound, TestsSound, DeclsSound, BlockSound, EqnsSound, EqnSound, ArmsSound, StatesSound, HaveOwnTypes, ToldSound, ContractSound, NodeSound, HasState, IsPlain, AllPlain, OnePlain, ArmsPlain, StatesPlain, PlainContract}
use Rattle.law_values.specs.Valued.Fitting.{first_output}
use Rattle.law_values.proofs.ValuedLemmas.Typed.{some_is, one_typed, two_typed, if_typed, pair_typed, when_typed, call_typed, merge_typed, arg_typed, PartsHave}
use Rattle.law_values.proofs.ValuedLemmas.Scoped.{not_declared}
use Rattle.law_values.specs.Filled.Firsts.{HasFirst, DeclsHaveFirsts, BlockHasFirsts, EqnsHaveFirsts, EqnHasFirsts, ArmsHaveFirsts, StatesHaveFirsts, ContractHasFirsts, NodeHasFirsts}
use Rattle.law_values.proofs.FilledLemmas.Values.{first_from}
use Rattle.law_values.proofs.FilledLemmas.TypesAgree.{answer_first, agrees_at}
use Rattle.law_values.proofs.FilledLemmas.Expressions.{HaveFirsts}
use Rattle.law_games.specs.Wiretyped.Typed.{HasWire, IsStateOf, OutputsTyped, ExprTyped, ExprsTyped, PartsTyped, TestsTyped, BlockTyped, EqnsTyped, EqnTyped, ArmsTyped, StatesTyped, ToldTyped, ContractTyped}
use Rattle.law_games.proofs.WiretypedLemmas.Values.{marked_wire}
use Rattle.law_games.proofs.WiretypedLemmas.Exprs.{as_wire}
use Rattle.law_games.proofs.WiretypedLemmas.Stored.{IsJudged, judged_of, right_judged}
use Rattle.law_games.proofs.SettledLemmas.Calling.{ExprCalls, ExprsCall, PartsCall, TestsCall, BlockCalls, EqnsCall, EqnCalls, ArmsCall, StatesCall, ToldCalls, ContractCalls}

-- the first value of a type on a wire
abbrev pub zero : List TypeDecl → Option Ty → Value
zero types None = Absent
zero types (Some t) = marked (first_value types t)

pub zero_typed : (types : List TypeDecl) (o : Option Ty) → ((t : Ty) → o ≡ Some t → HasFirst types t) → HasWire types o (zero types o)
zero_typed types None h = tt
zero_typed types (Some t) h = marked_wire types t (first_value types t) (h t refl)

first_of_value : (types : List TypeDecl) (t : Ty) (v : Value) → IsOf types t v → HasFirst types t
first_of_value types ty.Bool v h = tt
first_of_value types ty.Int v h = tt
first_of_value types (ty.Enum u) v h = first_from types u v h

own_types : (types : List TypeDecl) (among : List ℕ → Option Node) (s : Scope) (es : Eqns) (ds : List Decl) → DeclsSound types among s es ds → HaveOwnTypes types among s ds
own_types types among s es [] ok = tt
own_types types among s es (d ∷ ds) ok = (ok.0.0, own_types types among s es ds ok.1)

-- inside a block
firsts_more : (types : List TypeDecl) (among : List ℕ → Option Node) (s : Scope) (ds : List Decl) → HaveOwnTypes types among (with_variables s ds) ds → DeclsHaveFirsts types ds → HaveFirsts types s → HaveFirsts types (with_variables s ds)
firsts_more types among s ds o f a x t h =
    (agrees_at types among (with_variables s ds) ds (λ y. t) x t o f h (λ g. (refl, a x t (sym (not_declared x ds s g) ∙ h)))).1

-- inputs and outputs of a node, and in its body controllable variables
pub firsts_around : (types : List TypeDecl) (among : List ℕ → Option Node) (s : Scope) (n : Node) → s.variables ≡ [] → NodeSound types among s n → NodeHasFirsts types n → HaveFirsts types (inside_node s n)
firsts_around types among s n e ok f x t h =
    (agrees_at types among (inside_node s n) n.inputs (λ y. t) x t ok.0.0 f.inputs h
    (λ g. (
      refl,
      (agrees_at types among (inside_node s n) n.outputs (λ y. t) x t ok.0.1 f.outputs h
          (λ k.
          let known : lookup s.variables x ≡ Some t = sym (not_declared x n.inputs s g) ∙ sym (not_declared x n.outputs (with_variables s n.inputs) k) ∙ h in
          let none : None ≡ Some t = sym (ap (λ z. lookup z x) e) ∙ known in
          absurd (cc))).1,
    ))).1

pub firsts_within : (types : List TypeDecl) (among : List ℕ → Option Node) (s : Scope) (n : Node) → s.variables ≡ [] → NodeSound types among s n → NodeHasFirsts types n → HaveFirsts types (body_scope s n)
firsts_within types among s n e ok f x t h =
    (agrees_at types among (body_scope s n) (controls_of n.contract) (λ y. t) x t ok.1.1.0 f.controls h
    (λ g. (refl, firsts_around types among s n e ok f x t (sym (not_declared x (controls_of n.contract) (inside_node s n) g) ∙ h)))).1

-- The first of some outputs has a first value.
output_first : (types : List TypeDecl) (o : Option Node) (n : Node) (t : Ty) → o ≡ Some n → first_output o ≡ Some t → DeclsHaveFirsts types n.outputs → HasFirst types t
output_first types o n t e h k = at n.outputs (sym (ap first_output e) ∙ h) k
  where
    at : (ds : List Decl) → input_type ds ≡ Some t → DeclsHaveFirsts types ds → HasFirst types t
    at [] h k = absurd (cc)
    at (d ∷ ds) h k = subst (λ z. HasFirst types z) (some_is d.ty t h) k.0

-- Outputs of their types.
pub outputs_typed : (types : List TypeDecl) (among : List ℕ → Option Node) (s : Scope) (ds : List Decl) (i : Instant) → HaveOwnTypes types among s ds → HaveFirsts types s → ((x : List ℕ) → i (Named x ∷ []) ≡ zero types (lookup s.variables x)) → OutputsTyped types ds i
outputs_typed types among s [] i o f same = tt
outputs_typed types among s (d ∷ ds) i o f same = (
  as_wire types (lookup s.variables d.name) d.ty (i (Named d.name ∷ [])) o.0 (subst (λ v. HasWire types (lookup s.variables d.name) v) (sym (same d.name)) (zero_typed types (lookup s.variables d.name) (λ t h. f d.name t h))),
  outputs_typed types among s ds i o.1 f same,
)

module _ (types : List TypeDecl) (among : List ℕ → Option Node) (typed : List ℕ → Instant → Type 0) (may : Bool) (firsts : (f : List ℕ) (n : Node) → among f ≡ Some n → DeclsHaveFirsts types n.outputs) (instances : IsTrue may → (f : List ℕ) (n : Node) → among f ≡ Some n → (i : Instant) × typed f i) where
  module _ (s : Scope) (lasts : Lasts) (fs : HaveFirsts types s) where
    -- the type of an expression has a first value
    mutual
      type_first : (e : Expr) (t : Ty) → ExprSound types among s lasts e → type_of s e ≡ Some t → HasFirst types t
      type_first (constant a c) t ok h = first_of_value types t (constant_of types c) (ok t h)
      type_first (variable a x) t ok h = fs x t h
      type_first (last_of a x) t ok h = fs x t h
      type_first (one a o b) t ok h =
          let q = one_typed (type_of_one o) (type_of s b) t h in
          subst (λ z. HasFirst types z) q.1 (type_first b (type_of_one o) ok q.0)
      type_first (two a o b c) t ok h = subst (λ z. HasFirst types z) (two_typed o (type_of s b) (type_of s c) t h).4 (answer_first types o)
      type_first (choose a b c d) t ok h = type_first c t ok.1.0 (if_typed (type_of s b) (type_of s c) (type_of s d) t h).1
      type_first (pre a b) t ok h = type_first b t ok h
      type_first (fby a b c) t ok h = type_first b t ok.0 (pair_typed (type_of s b) (type_of s c) t h).0
      type_first (arrow a b c) t ok h = type_first b t ok.0 (pair_typed (type_of s b) (type_of s c) t h).0
      type_first (when_is a b c x) t ok h = type_first b t ok (when_typed _ _ t h)
      type_first (merge a x ps) t ok h = parts_first ps (lookup s.variables x) t ok.1 h
      type_first (call a f i es) t ok h =
          let q = call_typed (lookup s.nodes f) (types_in s es) t h in
          output_first types (lookup s.nodes f) q.0 t q.1 q.3 (firsts f q.0 (sym ok.0 ∙ q.1))

      parts_first : (ps : Parts) (name : Option Ty) (t : Ty) → PartsSound types among s lasts ps → merge_type s name ps ≡ Some t → HasFirst types t
      parts_first no_part name t ok h = absurd (cc)
      parts_first (more_parts c e ps) name t ok h = type_first e t ok.0 (merge_typed s name (more_parts c e ps) t h).0

    -- the value at the top of an expression that has a type
    top_has : (e : Expr) → ExprSound types among s lasts e → HasWire types (type_of s e) (zero types (type_of s e))
    top_has e ok = zero_typed types (type_of s e) (λ t h. type_first e t ok h)

    mutual
      pub expr_has : (e : Expr) → ExprCalls may e → ExprSound types among s lasts e → IsJudged s e → (i : Instant) × ExprTyped types typed s e i
      expr_has (constant a c) k ok j = (alone (zero types (type_of s (constant a c))), top_has (constant a c) ok)
      expr_has (variable a x) k ok j = (alone (zero types (type_of s (variable a x))), top_has (variable a x) ok)
      expr_has (last_of a x) k ok j = (alone (zero types (type_of s (last_of a x))), top_has (last_of a x) ok)
      expr_has (one a o b) k ok j =
          let q = one_typed (type_of_one o) (type_of s b) j.0 j.1 in
          let ib = expr_has b k ok (judged_of s b (type_of_one o) q.0) in
          (with_one (zero types (type_of s (one a o b))) ib.0, (top_has (one a o b) ok, ib.1))
      expr_has (two a o b c) k ok j =
          let q = two_typed o (type_of s b) (type_of s c) j.0 j.1 in
          let ib = expr_has b k.0 ok.0 (judged_of s b q.0 q.2) in
          let ic = expr_has c k.1 ok.1 (judged_of s c q.0 q.3) in
          (with_two (zero types (type_of s (two a o b c))) ib.0 ic.0, (top_has (two a o b c) ok, (ib.1, ic.1)))
      expr_has (choose a b c d) k ok j =
          let q = if_typed (type_of s b) (type_of s c) (type_of s d) j.0 j.1 in
          let ib = expr_has b k.0 ok.0 (judged_of s b ty.Bool q.0) in
          let ic = expr_has c k.1.0 ok.1.0 (judged_of s c j.0 q.1) in
          let id = expr_has d k.1.1 ok.1.1 (judged_of s d j.0 q.2) in
          (with_three (zero types (type_of s (choose a b c d))) ib.0 ic.0 id.0, (top_has (choose a b c d) ok, (ib.1, (ic.1, id.1))))
      expr_has (pre a b) k ok j =
          let ib = expr_has b k ok (judged_of s b j.0 j.1) in
          (with_one (zero types (type_of s (pre a b))) ib.0, (top_has (pre a b) ok, ib.1))
      expr_has (fby a b c) k ok j =
          let q = pair_typed (type_of s b) (type_of s c) j.0 j.1 in
          let ib = expr_has b k.0 ok.0 (judged_of s b j.0 q.0) in
          let ic = expr_has c k.1 ok.1 (judged_of s c j.0 q.1) in
          (with_two (zero types (type_of s (fby a b c))) ib.0 ic.0, (top_has (fby a b c) ok, (ib.1, ic.1)))
      expr_has (arrow a b c) k ok j =
          let q = pair_typed (type_of s b) (type_of s c) j.0 j.1 in
          let ib = expr_has b k.0 ok.0 (judged_of s b j.0 q.0) in
          let ic = expr_has c k.1 ok.1 (judged_of s c j.0 q.1) in
          (with_two (zero types (type_of s (arrow a b c))) ib.0 ic.0, (top_has (arrow a b c) ok, (ib.1, ic.1)))
      expr_has (when_is a b c x) k ok j =
          let q = when_typed _ (type_of s b) j.0 j.1 in
          let ib = expr_has b k ok (judged_of s b j.0 q) in
          (with_one (zero types (type_of s (when_is a b c x))) ib.0, (top_has (when_is a b c x) ok, ib.1))
      expr_has (merge a x ps) k ok j =
          let is = parts_has ps j.0 k ok.1 (merge_typed s (lookup s.variables x) ps j.0 j.1) in
          (with_row (zero types (type_of s (merge a x ps))) is.0, (top_has (merge a x ps) ok, is.1))
      expr_has (call a f inl es) k ok j =
          let am : among f ≡ Some j.0 = sym ok.0 ∙ j.1.0 in
          let is = exprs_has es j.0.inputs k.1 ok.1 j.1.1 in
          let i = instances k.0 f j.0 am in (
            with_instance (zero types (first_output (lookup s.nodes f))) is.0 i.0,
            (
              zero_typed types (first_output (lookup s.nodes f)) (λ t h. output_first types (lookup s.nodes f) j.0 t j.1.0 h (firsts f j.0 am)),
              (is.1, i.1),
            ),
          )

      exprs_has : (es : Exprs) (ds : List Decl) → ExprsCall may es → ExprsSound types among s lasts es → IsTrue (args_fit ds (types_in s es)) → (is : List Instant) × ExprsTyped types typed s es (in_row is)
      exprs_has no_expr ds k ok h = ([], tt)
      exprs_has (more_exprs e es) [] k ok h = absurd (cc)
      exprs_has (more_exprs e es) (d ∷ ds) k ok h =
          let q = arg_typed d ds (type_of s e) (types_in s es) h in
          let i = expr_has e k.0 ok.0 (judged_of s e d.ty q.0) in
          let is = exprs_has es ds k.1 ok.1 q.1 in
          (i.0 ∷ is.0, (i.1, is.1))

      parts_has : (ps : Parts) (t : Ty) → PartsCall may ps → PartsSound types among s lasts ps → PartsHave s t ps → (is : List Instant) × PartsTyped types typed s ps (in_row is)
      parts_has no_part t k ok h = ([], tt)
      parts_has (more_parts c e ps) t k ok h =
          let i = expr_has e k.0 ok.0 (judged_of s e t h.0) in
          let is = parts_has ps t k.1 ok.1 h.1 in
          (i.0 ∷ is.0, (i.1, is.1))

    tests_has : (ts : List Trans) → TestsCall may ts → TestsSound types among s lasts ts → (is : List Instant) × TestsTyped types typed s ts (in_row is)
    tests_has [] k ok = ([], tt)
    tests_has (t ∷ ts) k ok =
        let i = expr_has t.cond k.0 ok.0.0 (judged_of s t.cond ty.Bool ok.0.1) in
        let is = tests_has ts k.1 ok.1 in
        (i.0 ∷ is.0, (i.1, is.1))

  firsts_in_block : (b : Block) (s : Scope) (lasts : Lasts) → HaveFirsts types s → BlockHasFirsts types b → BlockSound types among s lasts b → HaveFirsts types (inside s b)
  firsts_in_block (block ds es) s lasts fs f ok = firsts_more types among s ds (own_types types among (with_variables s ds) es ds ok.0) f.0 fs

  state_first : (ss : States) → HasState ss → IsStateOf ss (state_word 0)
  state_first no_state h = absurd h
  state_first (more_states f b until unless at ss) h = (0, (refl, omega arith))

  mutual
    pub block_has : (b : Block) (s : Scope) (lasts : Lasts) → HaveFirsts types s → BlockHasFirsts types b → BlockCalls may b → IsPlain b → BlockSound types among s lasts b → (i : Instant) × BlockTyped types typed s b i
    block_has (block ds es) s lasts fs f k p ok =
        let inner : HaveFirsts types (with_variables s ds) = firsts_more types among s ds (own_types types among (with_variables s ds) es ds ok.0) f.0 fs in
        let is = eqns_has es (with_variables s ds) (lasts_in ds lasts) inner f.1 k p ok.1.1 in (
          in_block (λ x. zero types (lookup (with_variables s ds).variables x)) (B false) is.0,
          ((λ x d. zero_typed types (lookup (with_variables s ds).variables x) (λ t h. inner x t h)), is.1),
        )

    eqns_has : (es : Eqns) (s : Scope) (lasts : Lasts) → HaveFirsts types s → EqnsHaveFirsts types es → EqnsCall may es → AllPlain es → EqnsSound types among s lasts es → (i : Instant) × EqnsTyped types typed s es i
    eqns_has no_eqn s lasts fs f k p ok = (nothing, tt)
    eqns_has (more_eqns e es) s lasts fs f k p ok =
        let i = eqn_has e s lasts fs f.0 k.0 p.0 ok.0 in
        let is = eqns_has es s lasts fs f.1 k.1 p.1 ok.1 in
        (of_two i.0 is.0, (i.1, is.1))

    eqn_has : (e : Eqn) (s : Scope) (lasts : Lasts) → HaveFirsts types s → EqnHasFirsts types e → EqnCalls may e → OnePlain e → EqnSound types among s lasts e → (i : Instant) × EqnTyped types typed s e i
    eqn_has (define at ys e) s lasts fs f k p ok =
        let j = right_judged types among s lasts ys e ok in
        let i = expr_has s lasts fs e k j.0 j.1 in
        (in_right i.0, i.1)
    eqn_has (switch at e arms) s lasts fs f k p ok =
        let i = expr_has s lasts fs e k.0 ok.0 (judged_of s e ok.1.0.0 ok.1.0.1.0) in
        let is = arms_has arms (switch at e arms) s lasts fs f k.1 p ok.1.1 in
        (with_arms i.0 is.0, (i.1, is.1))
    eqn_has (reset at b e) s lasts fs f k p ok =
        let i = expr_has s lasts fs e k.0 ok.0.0 (judged_of s e ty.Bool ok.0.1) in
        let is = block_has b s lasts fs f k.1 p ok.1 in
        (with_body i.0 is.0, (i.1, is.1))
    eqn_has (automaton at ss) s lasts fs f k p ok =
        let is = states_has ss (automaton at ss) s lasts fs f k p.1 ok in (
          with_words (state_word 0) (state_word 0) (B false) is.0,
          (state_first ss p.0, (state_first ss p.0, ((false, refl), is.1))),
        )

    arms_has : (arms : Arms) (e : Eqn) (s : Scope) (lasts : Lasts) → HaveFirsts types s → ArmsHaveFirsts types arms → ArmsCall may arms → ArmsPlain arms → ArmsSound types among e s lasts arms → (i : Instant) × ArmsTyped types typed s arms i
    arms_has no_arm e s lasts fs f k p ok = (nothing, tt)
    arms_has (more_arms c b at arms) e s lasts fs f k p ok =
        let i = block_has b s lasts fs f.0 k.0 p.0 ok.1.0 in
        let is = arms_has arms e s lasts fs f.1 k.1 p.1 ok.1.1 in
        (of_two i.0 is.0, (i.1, is.1))

    states_has : (ss : States) (e : Eqn) (s : Scope) (lasts : Lasts) → HaveFirsts types s → StatesHaveFirsts types ss → StatesCall may ss → StatesPlain ss → StatesSound types among e s lasts ss → (i : Instant) × StatesTyped types typed s ss i
    states_has no_state e s lasts fs f k p ok = (nothing, tt)
    states_has (more_states g b until unless at ss) e s lasts fs f k p ok =
        let i = block_has b s lasts fs f.0 k.0 p.0 ok.1.0 in
        let us = tests_has (inside s b) (lasts_of b lasts) (firsts_in_block b s lasts fs f.0 ok.1.0) until k.1.0 ok.1.1.0 in
        let vs = tests_has s lasts fs unless k.1.1.0 ok.1.1.1.0 in
        let is = states_has ss e s lasts fs f.1 k.1.1.1 p.1.1 ok.1.1.1.1 in
        (of_two (in_state i.0 (in_row us.0) (in_row vs.0)) is.0, (i.1, (us.1, (vs.1, is.1))))

  told_has : (o : Option Expr) (s : Scope) (lasts : Lasts) → HaveFirsts types s → ToldCalls may o → ToldSound types among s lasts o → (i : Instant) × ToldTyped types typed s o i
  told_has None s lasts fs k ok = (nothing, tt)
  told_has (Some e) s lasts fs k ok = expr_has s lasts fs e k ok.0 (judged_of s e ty.Bool ok.1)

  pub contract_has : (o : Option Contract) (s : Scope) (lasts : Lasts) → HaveFirsts types s → ContractHasFirsts types o → ContractCalls may o → PlainContract o → ContractSound types among s lasts o → (i : Instant) × ContractTyped types typed s o i
  contract_has None s lasts fs f k p ok = (nothing, tt)
  contract_has (Some c) s lasts fs f k p ok =
      let i = block_has c.body s lasts fs f k.0 p ok.0 in
      let inner : HaveFirsts types (inside s c.body) = firsts_in_block c.body s lasts fs f ok.0 in
      let a = told_has c.assume (inside s c.body) (lasts_of c.body lasts) inner k.1.0 ok.1.0 in
      let g = told_has c.enforce (inside s c.body) (lasts_of c.body lasts) inner k.1.1 ok.1.1 in
      (in_observer i.0 a.0 g.0, (i.1, (a.1, g.1)))

  -- what is typed of a contract is so in its node
  pub contract_in : (o : Option Contract) (s : Scope) (outputs : List ℕ → Value) (inputs controls : List Value) (body observer : Instant) → ContractTyped types typed s o observer → ContractTyped types typed s o (in_node outputs inputs controls body observer)
  contract_in None s outputs inputs controls body observer h = tt
  contract_in (Some c) s outputs inputs controls body observer h = h
