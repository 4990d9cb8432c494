-- The registers of blocks and contracts: each holds zeros of the type of what it stores.
use Rattle.std.proofs.Common.{◌≡◌, ℕ, List, [], ◌∷◌, ◌++◌, sym, ap, subst, ◌∙◌, inl, inr, append_assoc, arith}
use Rattle.std.specs.Prelude.{suc, Bool, false, IsTrue, Option, None, Some, ⊤}
use Rattle.hp_base.specs.declared.ty.Ty.TheVariants as ty
use Rattle.hp_base.specs.declared.value.Value.{Value}
use Rattle.hp_base.specs.declared.value.Value.TheVariants.{E}
use Rattle.hp_tree.specs.declared.block.Trans.{Trans}
use Rattle.hp_tree.specs.Expressions.{Expr}
use Rattle.hp_tree.specs.Blocks.{Decl, Block, block, Eqns, no_eqn, more_eqns, Eqn, define, switch, reset, automaton, Arms, no_arm, more_arms, States, no_state, more_states}
use Rattle.hp_tree.specs.Programs.{TypeDecl, Contract, Node}
use Rattle.hp_tree.specs.Instant.{Step, Body, Observer, Assume, Enforce, Named, Equations, Head, Tail, Right, Test, Arms as ArmsOf, States as StatesOf, Until, Unless, Next, Pending, Place, Instant, part}
use Rattle.hp_tree.specs.ExpressionTypes as tree
use Rattle.hp_tree.specs.ExpressionTypes.{typed_in, scope_of}
use Rattle.hp_typing.specs.Scopes.{with_variables, inside}
use Rattle.law_judged.specs.Typed.Scopes.{Scope}
use Rattle.hp_meaning.specs.Causal.Sources.{below}
use Rattle.hp_meaning.specs.Contract.Slots.{truth, cons, Slot, register, zero_of, slots, slots_of_conditions, slots_of_block, slots_of_equations, slots_of_equation, slots_of_arms, slots_of_states, slots_of_contract}
use Rattle.law_values.specs.Valued.Judged.{Lasts, lasts_in, lasts_of, TestsSound, DeclsSound, BlockSound, EqnsSound, EqnSound, ArmsSound, StatesSound, HaveOwnTypes, ToldSound, ContractSound, HasState, IsPlain, AllPlain, OnePlain, ArmsPlain, StatesPlain, PlainContract}
use Rattle.law_values.specs.Filled.Firsts.{DeclsHaveFirsts, BlockHasFirsts, EqnsHaveFirsts, EqnHasFirsts, ArmsHaveFirsts, StatesHaveFirsts, ContractHasFirsts}
use Rattle.law_values.proofs.FilledLemmas.Constructors.{ConsTyped, cons_inside}
use Rattle.law_values.proofs.FilledLemmas.TypesAgree.{Agrees, agrees_inside}
use Rattle.law_games.specs.Settled.Laws.{OwnsConstructors}
use Rattle.law_games.proofs.SettledLemmas.Calling.{TestsCall, BlockCalls, EqnsCall, EqnCalls, ArmsCall, StatesCall, ToldCalls, ContractCalls}
use Rattle.law_games.specs.Wiretyped.Typed.{IsStateOf}
use Rattle.law_games.specs.Wiretyped.Kept.{LastsKept, ExprKept, TestsKept, BlockKept, EqnsKept, EqnKept, ArmsKept, StatesKept, ToldKept, ContractKept}
use Rattle.law_games.proofs.WiretypedLemmas.Stored.{judged_of, right_judged}
use Rattle.law_games.proofs.ReadyGamesLemmas.Pieces.{Apart, apart_below, anywhere, nowhere, begins, either, Piece, loose, none, under, single, join}
use Rattle.law_games.proofs.ReadyGamesLemmas.Registers.{empty, of_one, both, pair, of_two, of_three, a_name, lasts_slots, lasts_piece, expr_piece, tests_piece}

own_types : (types : List TypeDecl) (among : List ℕ → Option Node) (s : Scope) (es : Eqns) (ds : List Decl) → DeclsSound types among s es ds → HaveOwnTypes types among s ds
own_types types among s es [] ok = tt
own_types types among s es (d ∷ ds) ok = (ok.0.0, own_types types among s es ds ok.1)

abbrev count_states : States → ℕ
count_states no_state = 0
count_states (more_states f b until unless s ss) = suc (count_states ss)

-- a name, and not the equations
not_equations : (k : Option Step) → a_name k → begins Equations k → ⊥
not_equations k h e = let f : Some (Named h.0) ≡ Some Equations = sym h.1 ∙ e in cc

abbrev pub slots_told : List TypeDecl → (List ℕ → List Decl) → (List ℕ → (Place → Place) → List Slot) → Option Expr → tree.Scope → (Place → Place) → List Slot
slots_told types outs called None names w = []
slots_told types outs called (Some e) names w = slots types outs called e names w

-- the words of an automaton
not_pending : (k : Option Step) → k ≡ Some Pending → begins StatesOf k → ⊥
not_pending k g h = let e : Some Pending ≡ Some StatesOf = sym g ∙ h in cc

not_next : (k : Option Step) → k ≡ Some Next → either (λ h. h ≡ Some Pending) (begins StatesOf) k → ⊥
not_next k g (inl h) = let e : Some Next ≡ Some Pending = sym g ∙ h in cc
not_next k g (inr h) = let e : Some Next ≡ Some StatesOf = sym g ∙ h in cc

-- a state by its number
first_state : (ss : States) → HasState ss → (v : Value) → v ≡ E 0 0 → IsStateOf ss v
first_state no_state h v e = absurd h
first_state (more_states f b until unless at ss) h v e = (0, (e, omega arith))

not_told : (k : Option Step) → begins Observer k → both Assume Enforce k → ⊥
not_told k g (inl h) = let e : Some Observer ≡ Some Assume = sym g ∙ h in cc
not_told k g (inr h) = let e : Some Observer ≡ Some Enforce = sym g ∙ h in cc

module _ (types : List TypeDecl) (owns : (t : List ℕ) → OwnsConstructors types (ty.Enum t)) (among : List ℕ → Option Node) (kept : List ℕ → Instant → Instant → Type 0) (may : Bool)
    (firsts : (f : List ℕ) (n : Node) → among f ≡ Some n → DeclsHaveFirsts types n.outputs)
    (outs : List ℕ → List Decl) (outs_are : IsTrue may → (f : List ℕ) (n : Node) → among f ≡ Some n → outs f ≡ n.outputs)
    (called : List ℕ → (Place → Place) → List Slot)
    (instances : IsTrue may → (f : List ℕ) (n : Node) → among f ≡ Some n → (w : Place → Place) → Apart w → Piece anywhere w (called f w) (λ i. kept f i i)) where
  inner : (ds : List Decl) (es : Eqns) (s : Scope) (names : tree.Scope) → Agrees types s names → DeclsSound types among (with_variables s ds) es ds → DeclsHaveFirsts types ds → Agrees types (with_variables s ds) (typed_in ds names)
  inner ds es s names known ok f = agrees_inside types among s ds names (own_types types among (with_variables s ds) es ds ok) f known

  -- the conditions of a state, read in its body
  until_piece : (b : Block) (s : Scope) (lasts : Lasts) (names : tree.Scope) → Agrees types s names → ConsTyped types s → BlockHasFirsts types b → BlockSound types among s lasts b
      → (ts : List Trans) (w : Place → Place) → Apart w → TestsCall may ts → TestsSound types among (inside s b) (lasts_of b lasts) ts
      → Piece anywhere w (slots_of_conditions types outs called ts (scope_of b names) w) (λ i. TestsKept types kept (inside s b) ts i i)
  until_piece (block ds es) s lasts names known conses f ok ts w a k tok =
      tests_piece types owns among kept may firsts outs outs_are called instances (with_variables s ds) (lasts_in ds lasts) (typed_in ds names) (inner ds es s names known ok.0 f.0) (cons_inside types ds s conses) ts w a k tok

  mutual
    pub block_piece : (b : Block) (s : Scope) (lasts : Lasts) (names : tree.Scope) → Agrees types s names → ConsTyped types s → (w : Place → Place) → Apart w → BlockHasFirsts types b → BlockCalls may b → IsPlain b → BlockSound types among s lasts b
        → Piece anywhere w (slots_of_block types outs called b names w) (λ i. BlockKept types kept s b i i)
    block_piece (block ds es) s lasts names known conses w a f k p ok =
        loose (either a_name (begins Equations)) anywhere w (lasts_slots types ds w ++ slots_of_equations types outs called es (typed_in ds names) (below Equations w))
        (λ i. LastsKept types (with_variables s ds) ds i × EqnsKept types kept (with_variables s ds) es (part Equations i) (part Equations i)) (λ i. BlockKept types kept s (block ds es) i i)
        (join a_name (begins Equations) w (lasts_slots types ds w) (slots_of_equations types outs called es (typed_in ds names) (below Equations w))
        (λ i. LastsKept types (with_variables s ds) ds i) (λ i. EqnsKept types kept (with_variables s ds) es (part Equations i) (part Equations i)) a
        (lasts_piece types owns among (with_variables s ds) ds w a (own_types types among (with_variables s ds) es ds ok.0) f.0)
        (under anywhere Equations w (slots_of_equations types outs called es (typed_in ds names) (below Equations w)) (λ i. EqnsKept types kept (with_variables s ds) es i i)
        (eqns_piece es (with_variables s ds) (lasts_in ds lasts) (typed_in ds names) (inner ds es s names known ok.0 f.0) (cons_inside types ds s conses) (below Equations w) (apart_below Equations w a) f.1 k p ok.1.1))
        (λ h x y. not_equations h x y))
        (λ h x. tt) (λ i h. h)

    eqns_piece : (es : Eqns) (s : Scope) (lasts : Lasts) (names : tree.Scope) → Agrees types s names → ConsTyped types s → (w : Place → Place) → Apart w → EqnsHaveFirsts types es → EqnsCall may es → AllPlain es → EqnsSound types among s lasts es
        → Piece anywhere w (slots_of_equations types outs called es names w) (λ i. EqnsKept types kept s es i i)
    eqns_piece no_eqn s lasts names known conses w a f k p ok = empty w (λ i. ⊤) (λ i. tt)
    eqns_piece (more_eqns e es) s lasts names known conses w a f k p ok =
        of_two Head Tail w (slots_of_equation types outs called e names (below Head w)) (slots_of_equations types outs called es names (below Tail w))
        (λ i. EqnKept types kept s e i i) (λ i. EqnsKept types kept s es i i) (λ i. EqnsKept types kept s (more_eqns e es) i i) a (λ e. cc)
        (eqn_piece e s lasts names known conses (below Head w) (apart_below Head w a) f.0 k.0 p.0 ok.0)
        (eqns_piece es s lasts names known conses (below Tail w) (apart_below Tail w a) f.1 k.1 p.1 ok.1) (λ i g h. (g, h))

    eqn_piece : (e : Eqn) (s : Scope) (lasts : Lasts) (names : tree.Scope) → Agrees types s names → ConsTyped types s → (w : Place → Place) → Apart w → EqnHasFirsts types e → EqnCalls may e → OnePlain e → EqnSound types among s lasts e
        → Piece anywhere w (slots_of_equation types outs called e names w) (λ i. EqnKept types kept s e i i)
    eqn_piece (define at ys e) s lasts names known conses w a f k p ok =
        let j = right_judged types among s lasts ys e ok in
        of_one Right w (slots types outs called e names (below Right w)) (λ i. ExprKept types kept s e i i) (λ i. EqnKept types kept s (define at ys e) i i)
        (expr_piece types owns among kept may firsts outs outs_are called instances s lasts names known conses e (below Right w) (apart_below Right w a) k j.0 j.1) (λ i h. h)
    eqn_piece (switch at e arms) s lasts names known conses w a f k p ok =
        of_two Test ArmsOf w (slots types outs called e names (below Test w)) (slots_of_arms types outs called arms names (below ArmsOf w))
        (λ i. ExprKept types kept s e i i) (λ i. ArmsKept types kept s arms i i) (λ i. EqnKept types kept s (switch at e arms) i i) a (λ e. cc)
        (expr_piece types owns among kept may firsts outs outs_are called instances s lasts names known conses e (below Test w) (apart_below Test w a) k.0 ok.0 (judged_of s e ok.1.0.0 ok.1.0.1.0))
        (arms_piece arms (switch at e arms) s lasts names known conses (below ArmsOf w) (apart_below ArmsOf w a) f k.1 p ok.1.1) (λ i g h. (g, h))
    eqn_piece (reset at b e) s lasts names known conses w a f k p ok =
        of_two Body Test w (slots_of_block types outs called b names (below Body w)) (slots types outs called e names (below Test w))
        (λ i. BlockKept types kept s b i i) (λ i. ExprKept types kept s e i i) (λ i. EqnKept types kept s (reset at b e) i i) a (λ e. cc)
        (block_piece b s lasts names known conses (below Body w) (apart_below Body w a) f k.1 p ok.1)
        (expr_piece types owns among kept may firsts outs outs_are called instances s lasts names known conses e (below Test w) (apart_below Test w a) k.0 ok.0.0 (judged_of s e ty.Bool ok.0.1)) (λ i g h. (h, g))
    eqn_piece (automaton at ss) s lasts names known conses w a f k p ok =
        loose (either (λ h. h ≡ Some Next) (either (λ h. h ≡ Some Pending) (begins StatesOf))) anywhere w
        (register (w (Next ∷ [])) (cons 0 (count_states ss)) ∷ (register (w (Pending ∷ [])) truth ∷ slots_of_states types outs called ss names (below StatesOf w)))
        (λ i. (i (Next ∷ []) ≡ zero_of (cons 0 (count_states ss))) × ((i (Pending ∷ []) ≡ zero_of truth) × StatesKept types kept s ss (part StatesOf i) (part StatesOf i))) (λ i. EqnKept types kept s (automaton at ss) i i)
        (join (λ h. h ≡ Some Next) (either (λ h. h ≡ Some Pending) (begins StatesOf)) w (register (w (Next ∷ [])) (cons 0 (count_states ss)) ∷ [])
        (register (w (Pending ∷ [])) truth ∷ slots_of_states types outs called ss names (below StatesOf w))
        (λ i. i (Next ∷ []) ≡ zero_of (cons 0 (count_states ss))) (λ i. (i (Pending ∷ []) ≡ zero_of truth) × StatesKept types kept s ss (part StatesOf i) (part StatesOf i)) a
        (single w (Next ∷ []) (cons 0 (count_states ss)))
        (join (λ h. h ≡ Some Pending) (begins StatesOf) w (register (w (Pending ∷ [])) truth ∷ []) (slots_of_states types outs called ss names (below StatesOf w))
        (λ i. i (Pending ∷ []) ≡ zero_of truth) (λ i. StatesKept types kept s ss (part StatesOf i) (part StatesOf i)) a
        (single w (Pending ∷ []) truth)
        (under anywhere StatesOf w (slots_of_states types outs called ss names (below StatesOf w)) (λ i. StatesKept types kept s ss i i)
        (states_piece ss (automaton at ss) s lasts names known conses (below StatesOf w) (apart_below StatesOf w a) f k p.1 ok))
        (λ h x y. not_pending h x y))
        (λ h x y. not_next h x y))
        (λ h x. tt) (λ i h. (first_state ss p.0 (i (Next ∷ [])) h.0, ((false, h.1.0), h.1.1)))

    arms_piece : (arms : Arms) (e : Eqn) (s : Scope) (lasts : Lasts) (names : tree.Scope) → Agrees types s names → ConsTyped types s → (w : Place → Place) → Apart w → ArmsHaveFirsts types arms → ArmsCall may arms → ArmsPlain arms → ArmsSound types among e s lasts arms
        → Piece anywhere w (slots_of_arms types outs called arms names w) (λ i. ArmsKept types kept s arms i i)
    arms_piece no_arm e s lasts names known conses w a f k p ok = empty w (λ i. ⊤) (λ i. tt)
    arms_piece (more_arms c b at arms) e s lasts names known conses w a f k p ok =
        of_two Head Tail w (slots_of_block types outs called b names (below Head w)) (slots_of_arms types outs called arms names (below Tail w))
        (λ i. BlockKept types kept s b i i) (λ i. ArmsKept types kept s arms i i) (λ i. ArmsKept types kept s (more_arms c b at arms) i i) a (λ e. cc)
        (block_piece b s lasts names known conses (below Head w) (apart_below Head w a) f.0 k.0 p.0 ok.1.0)
        (arms_piece arms e s lasts names known conses (below Tail w) (apart_below Tail w a) f.1 k.1 p.1 ok.1.1) (λ i g h. (g, h))

    states_piece : (ss : States) (e : Eqn) (s : Scope) (lasts : Lasts) (names : tree.Scope) → Agrees types s names → ConsTyped types s → (w : Place → Place) → Apart w → StatesHaveFirsts types ss → StatesCall may ss → StatesPlain ss → StatesSound types among e s lasts ss
        → Piece anywhere w (slots_of_states types outs called ss names w) (λ i. StatesKept types kept s ss i i)
    states_piece no_state e s lasts names known conses w a f k p ok = empty w (λ i. ⊤) (λ i. tt)
    states_piece (more_states g b until unless at ss) e s lasts names known conses w a f k p ok =
        let A = slots_of_block types outs called b names (below Body (below Head w)) in
        let U = slots_of_conditions types outs called until (scope_of b names) (below Until (below Head w)) in
        let V = slots_of_conditions types outs called unless names (below Unless (below Head w)) in
        let S = slots_of_states types outs called ss names (below Tail w) in
        subst (λ xs. Piece anywhere w xs (λ i. StatesKept types kept s (more_states g b until unless at ss) i i)) (append_assoc A (U ++ V) S ∙ ap (λ xs. A ++ xs) (append_assoc U V S))
        (of_two Head Tail w (A ++ (U ++ V)) S
        (λ i. BlockKept types kept s b (part Body i) (part Body i) × (TestsKept types kept (inside s b) until (part Until i) (part Until i) × TestsKept types kept s unless (part Unless i) (part Unless i)))
        (λ i. StatesKept types kept s ss i i) (λ i. StatesKept types kept s (more_states g b until unless at ss) i i) a (λ e. cc)
        (of_three Body Until Unless (below Head w) A U V (λ i. BlockKept types kept s b i i) (λ i. TestsKept types kept (inside s b) until i i) (λ i. TestsKept types kept s unless i i)
        (λ i. BlockKept types kept s b (part Body i) (part Body i) × (TestsKept types kept (inside s b) until (part Until i) (part Until i) × TestsKept types kept s unless (part Unless i) (part Unless i)))
        (apart_below Head w a) (λ e. cc) (λ e. cc) (λ e. cc)
        (block_piece b s lasts names known conses (below Body (below Head w)) (apart_below Body (below Head w) (apart_below Head w a)) f.0 k.0 p.0 ok.1.0)
        (until_piece b s lasts names known conses f.0 ok.1.0 until (below Until (below Head w)) (apart_below Until (below Head w) (apart_below Head w a)) k.1.0 ok.1.1.0)
        (tests_piece types owns among kept may firsts outs outs_are called instances s lasts names known conses unless (below Unless (below Head w)) (apart_below Unless (below Head w) (apart_below Head w a)) k.1.1.0 ok.1.1.1.0)
        (λ i x y z. (x, (y, z))))
        (states_piece ss e s lasts names known conses (below Tail w) (apart_below Tail w a) f.1 k.1.1.1 p.1.1 ok.1.1.1.1)
        (λ i x y. (x.0, (x.1.0, (x.1.1, y)))))

  told_piece : (b : Block) (s : Scope) (lasts : Lasts) (names : tree.Scope) → Agrees types s names → ConsTyped types s → BlockHasFirsts types b → BlockSound types among s lasts b
      → (o : Option Expr) (w : Place → Place) → Apart w → ToldCalls may o → ToldSound types among (inside s b) (lasts_of b lasts) o
      → Piece anywhere w (slots_told types outs called o (scope_of b names) w) (λ i. ToldKept types kept (inside s b) o i i)
  told_piece b s lasts names known conses f ok None w a k tok = empty w (λ i. ⊤) (λ i. tt)
  told_piece (block ds es) s lasts names known conses f ok (Some e) w a k tok =
      expr_piece types owns among kept may firsts outs outs_are called instances (with_variables s ds) (lasts_in ds lasts) (typed_in ds names) (inner ds es s names known ok.0 f.0) (cons_inside types ds s conses) e w a k tok.0
      (judged_of (with_variables s ds) e ty.Bool tok.1)

  -- a contract, by its first steps
  abbrev pub of_contract : Option Step → Type 0
  of_contract = either (begins Observer) (both Assume Enforce)

  pub contract_piece : (o : Option Contract) (s : Scope) (lasts : Lasts) (names : tree.Scope) → Agrees types s names → ConsTyped types s → (w : Place → Place) → Apart w → ContractHasFirsts types o → ContractCalls may o → PlainContract o → ContractSound types among s lasts o
      → Piece of_contract w (slots_of_contract types outs called o names w) (λ i. ContractKept types kept s o i i)
  contract_piece None s lasts names known conses w a f k p ok = loose nowhere of_contract w [] (λ i. ⊤) (λ i. ⊤) (none w (λ i. ⊤) (λ i. tt)) (λ h x. absurd x) (λ i h. h)
  contract_piece (Some c) s lasts names known conses w a f k p ok =
      join (begins Observer) (both Assume Enforce) w (slots_of_block types outs called c.body names (below Observer w))
      (slots_told types outs called c.assume (scope_of c.body names) (below Assume w) ++ slots_told types outs called c.enforce (scope_of c.body names) (below Enforce w))
      (λ i. BlockKept types kept s c.body (part Observer i) (part Observer i))
      (λ i. ToldKept types kept (inside s c.body) c.assume (part Assume i) (part Assume i) × ToldKept types kept (inside s c.body) c.enforce (part Enforce i) (part Enforce i)) a
      (under anywhere Observer w (slots_of_block types outs called c.body names (below Observer w)) (λ i. BlockKept types kept s c.body i i) (block_piece c.body s lasts names known conses (below Observer w) (apart_below Observer w a) f k.0 p ok.0))
      (pair Assume Enforce w (slots_told types outs called c.assume (scope_of c.body names) (below Assume w)) (slots_told types outs called c.enforce (scope_of c.body names) (below Enforce w))
      (λ i. ToldKept types kept (inside s c.body) c.assume i i) (λ i. ToldKept types kept (inside s c.body) c.enforce i i) a (λ e. cc)
      (told_piece c.body s lasts names known conses f ok.0 c.assume (below Assume w) (apart_below Assume w a) k.1.0 ok.1.0)
      (told_piece c.body s lasts names known conses f ok.0 c.enforce (below Enforce w) (apart_below Enforce w a) k.1.1 ok.1.1))
      (λ h x y. not_told h x y)
