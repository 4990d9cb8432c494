-- The slots of blocks and contracts are in shape, where registers are kept in shape and given values fit.
use Rattle.std.proofs.Common.{◌≡◌, ℕ, List, [], ◌∷◌, ◌++◌}
use Rattle.std.specs.Prelude.{Option, None, Some}
use Rattle.hp_base.specs.declared.ty.Ty.TheVariants as ty
use Rattle.hp_tree.specs.declared.block.Trans.{Trans}
use Rattle.hp_tree.specs.Blocks.{Decl, Block, block, Eqns, no_eqn, more_eqns, Eqn, define, switch, reset, automaton, Arms, no_arm, more_arms, States, no_state, more_states}
use Rattle.hp_tree.specs.Expressions.{Expr}
use Rattle.hp_tree.specs.ExpressionTypes as tree
use Rattle.hp_tree.specs.ExpressionTypes.{typed_in, scope_of}
use Rattle.hp_tree.specs.Instant.{Body, Observer, Assume, Enforce, Equations, Head, Tail, Right, Test, Arms as ArmsOf, States as StatesOf, Until, Unless, Next, Pending, Place, Instant, part}
use Rattle.hp_tree.specs.Programs.{TypeDecl, Contract, Node}
use Rattle.hp_typing.specs.Scopes.{with_variables, inside}
use Rattle.law_judged.specs.Typed.Scopes.{Scope}
use Rattle.hp_meaning.specs.Causal.Sources.{below}
use Rattle.hp_meaning.specs.Contract.Slots.{truth, cons, Slot, register, slots, slots_of_conditions, slots_of_block, slots_of_equations, slots_of_equation, slots_of_arms, slots_of_states, slots_of_contract}
use Rattle.law_values.specs.Valued.Judged.{Lasts, lasts_in, lasts_of, TestsSound, BlockSound, EqnsSound, EqnSound, ArmsSound, StatesSound, ToldSound, ContractSound}
use Rattle.law_values.proofs.FilledLemmas.Constructors.{ConsTyped, cons_inside}
use Rattle.law_games.specs.Wiretyped.Kept.{TestsKept, BlockKept, EqnsKept, EqnKept, ArmsKept, StatesKept, ToldKept, ContractKept, TestsGiven, BlockGiven, EqnsGiven, EqnGiven, ArmsGiven, StatesGiven, ToldGiven, ContractGiven}
use Rattle.law_games.proofs.WiretypedLemmas.Stored.{judged_of, right_judged}
use Rattle.law_drawing.specs.Carrying.Calls.{lasts_slots, outputs_slots}
use Rattle.law_drawing.specs.Carrying.Drawable.{BlockDrawable, EqnsDrawable, EqnDrawable, ArmsDrawable, StatesDrawable, ContractDrawable}
use Rattle.law_drawing.specs.Mirroring.Codes.{AreInShape, AreNumbered}
use Rattle.law_drawing.proofs.InshapeLemmas.Pieces.{count_states, join, stored_flag, stored_state, lasts}
use Rattle.law_drawing.proofs.InshapeLemmas.TypesRead.{Agrees, own_types, agrees_inside}
use Rattle.law_drawing.proofs.InshapeLemmas.Expressions.{expression, tests}

abbrev slots_told : List TypeDecl → (List ℕ → List Decl) → (List ℕ → (Place → Place) → List Slot) → Option Expr → tree.Scope → (Place → Place) → List Slot
slots_told types outs called None names w = []
slots_told types outs called (Some e) names w = slots types outs called e names w

module _ (types : List TypeDecl) (numbered : AreNumbered types) (memory given : Instant) (among : List ℕ → Option Node) (kept : List ℕ → Instant → Instant → Type 0) (fits : List ℕ → Instant → Type 0) (outs : List ℕ → List Decl)
    (called : List ℕ → (Place → Place) → List Slot) (outs_are : (f : List ℕ) (n : Node) (start mem : Instant) → kept f start mem → among f ≡ Some n → outs f ≡ n.outputs)
    (instances : (f : List ℕ) (n : Node) (w : Place → Place) (start : Instant) → among f ≡ Some n → kept f start (λ p. memory (w p)) → fits f (λ p. given (w p)) → AreInShape types memory given (outputs_slots (outs f) w ++ called f w)) where
  abbrev Good : List Slot → Type 0
  Good ss = AreInShape types memory given ss

  both : (ss ts : List Slot) → Good ss → Good ts → Good (ss ++ ts)
  both ss ts h k = join types memory given ss ts h k

  -- the weak conditions of a state, read in its body
  until : (b : Block) (s : Scope) (known_lasts : Lasts) (names : tree.Scope) → Agrees s names → ConsTyped types s → BlockSound types among s known_lasts b
      → (ts : List Trans) (w : Place → Place) (start : Instant) → TestsSound types among (inside s b) (lasts_of b known_lasts) ts → TestsKept types kept (inside s b) ts start (λ p. memory (w p)) → TestsGiven types fits (inside s b) ts (λ p. given (w p))
      → Good (slots_of_conditions types outs called ts (scope_of b names) w)
  until (block ds es) s known_lasts names known conses ok ts w start tok k g =
      tests types numbered memory given among kept fits outs called outs_are instances (with_variables s ds) (lasts_in ds known_lasts) (typed_in ds names)
      (agrees_inside types among s ds names (own_types types among (with_variables s ds) es ds ok.0) known) (cons_inside types ds s conses) ts w start tok k g

  mutual
    pub of_block : (b : Block) (s : Scope) (known_lasts : Lasts) (names : tree.Scope) → Agrees s names → ConsTyped types s → (w : Place → Place) (start : Instant) → BlockDrawable s b → BlockSound types among s known_lasts b
        → BlockKept types kept s b start (λ p. memory (w p)) → BlockGiven types fits s b (λ p. given (w p)) → AreInShape types memory given (slots_of_block types outs called b names w)
    of_block (block ds es) s known_lasts names known conses w start d ok k g =
        let own = own_types types among (with_variables s ds) es ds ok.0 in
        both (lasts_slots types ds w) (slots_of_equations types outs called es (typed_in ds names) (below Equations w))
        (lasts types memory given numbered among (with_variables s ds) ds w d.0 own k.0)
        (of_equations es (with_variables s ds) (lasts_in ds known_lasts) (typed_in ds names) (agrees_inside types among s ds names own known) (cons_inside types ds s conses) (below Equations w) (part Equations start) d.1.1 ok.1.1 k.1 g)

    of_equations : (es : Eqns) (s : Scope) (known_lasts : Lasts) (names : tree.Scope) → Agrees s names → ConsTyped types s → (w : Place → Place) (start : Instant) → EqnsDrawable s es → EqnsSound types among s known_lasts es
        → EqnsKept types kept s es start (λ p. memory (w p)) → EqnsGiven types fits s es (λ p. given (w p)) → Good (slots_of_equations types outs called es names w)
    of_equations no_eqn s known_lasts names known conses w start d ok k g = tt
    of_equations (more_eqns e es) s known_lasts names known conses w start d ok k g =
        both (slots_of_equation types outs called e names (below Head w)) (slots_of_equations types outs called es names (below Tail w))
        (of_equation e s known_lasts names known conses (below Head w) (part Head start) d.1.0 ok.0 k.0 g.0)
        (of_equations es s known_lasts names known conses (below Tail w) (part Tail start) d.1.1 ok.1 k.1 g.1)

    of_equation : (e : Eqn) (s : Scope) (known_lasts : Lasts) (names : tree.Scope) → Agrees s names → ConsTyped types s → (w : Place → Place) (start : Instant) → EqnDrawable s e → EqnSound types among s known_lasts e
        → EqnKept types kept s e start (λ p. memory (w p)) → EqnGiven types fits s e (λ p. given (w p)) → Good (slots_of_equation types outs called e names w)
    of_equation (define at ys e) s known_lasts names known conses w start d ok k g =
        let j = right_judged types among s known_lasts ys e ok in
        expression types numbered memory given among kept fits outs called outs_are instances s known_lasts names known conses e (below Right w) (part Right start) j.0 j.1 k g
    of_equation (switch at e arms) s known_lasts names known conses w start d ok k g =
        both (slots types outs called e names (below Test w)) (slots_of_arms types outs called arms names (below ArmsOf w))
        (expression types numbered memory given among kept fits outs called outs_are instances s known_lasts names known conses e (below Test w) (part Test start) ok.0 (judged_of s e ok.1.0.0 ok.1.0.1.0) k.0 g.0)
        (of_arms arms (switch at e arms) s known_lasts names known conses (below ArmsOf w) (part ArmsOf start) d.1 ok.1.1 k.1 g.1)
    of_equation (reset at b e) s known_lasts names known conses w start d ok k g =
        both (slots_of_block types outs called b names (below Body w)) (slots types outs called e names (below Test w))
        (of_block b s known_lasts names known conses (below Body w) (part Body start) d ok.1 k.1 g.1)
        (expression types numbered memory given among kept fits outs called outs_are instances s known_lasts names known conses e (below Test w) (part Test start) ok.0.0 (judged_of s e ty.Bool ok.0.1) k.0 g.0)
    of_equation (automaton at ss) s known_lasts names known conses w start d ok k g =
        both (register (w (Next ∷ [])) (cons 0 (count_states ss)) ∷ []) (register (w (Pending ∷ [])) truth ∷ slots_of_states types outs called ss names (below StatesOf w))
        (stored_state types memory given (w (Next ∷ [])) ss k.0)
        (both (register (w (Pending ∷ [])) truth ∷ []) (slots_of_states types outs called ss names (below StatesOf w))
        (stored_flag types memory given (w (Pending ∷ [])) k.1.0)
        (of_states ss (automaton at ss) s known_lasts names known conses (below StatesOf w) (part StatesOf start) d.1 ok k.1.1 g))

    of_arms : (arms : Arms) (e : Eqn) (s : Scope) (known_lasts : Lasts) (names : tree.Scope) → Agrees s names → ConsTyped types s → (w : Place → Place) (start : Instant) → ArmsDrawable s arms → ArmsSound types among e s known_lasts arms
        → ArmsKept types kept s arms start (λ p. memory (w p)) → ArmsGiven types fits s arms (λ p. given (w p)) → Good (slots_of_arms types outs called arms names w)
    of_arms no_arm e s known_lasts names known conses w start d ok k g = tt
    of_arms (more_arms c b at arms) e s known_lasts names known conses w start d ok k g =
        both (slots_of_block types outs called b names (below Head w)) (slots_of_arms types outs called arms names (below Tail w))
        (of_block b s known_lasts names known conses (below Head w) (part Head start) d.0 ok.1.0 k.0 g.0)
        (of_arms arms e s known_lasts names known conses (below Tail w) (part Tail start) d.1 ok.1.1 k.1 g.1)

    of_states : (ss : States) (e : Eqn) (s : Scope) (known_lasts : Lasts) (names : tree.Scope) → Agrees s names → ConsTyped types s → (w : Place → Place) (start : Instant) → StatesDrawable s ss → StatesSound types among e s known_lasts ss
        → StatesKept types kept s ss start (λ p. memory (w p)) → StatesGiven types fits s ss (λ p. given (w p)) → Good (slots_of_states types outs called ss names w)
    of_states no_state e s known_lasts names known conses w start d ok k g = tt
    of_states (more_states f b weak strong at ss) e s known_lasts names known conses w start d ok k g =
        both (slots_of_block types outs called b names (below Body (below Head w)))
        (slots_of_conditions types outs called weak (scope_of b names) (below Until (below Head w)) ++ (slots_of_conditions types outs called strong names (below Unless (below Head w)) ++ slots_of_states types outs called ss names (below Tail w)))
        (of_block b s known_lasts names known conses (below Body (below Head w)) (part Body (part Head start)) d.0 ok.1.0 k.0 g.0)
        (both (slots_of_conditions types outs called weak (scope_of b names) (below Until (below Head w))) (slots_of_conditions types outs called strong names (below Unless (below Head w)) ++ slots_of_states types outs called ss names (below Tail w))
        (until b s known_lasts names known conses ok.1.0 weak (below Until (below Head w)) (part Until (part Head start)) ok.1.1.0 k.1.0 g.1.0)
        (both (slots_of_conditions types outs called strong names (below Unless (below Head w))) (slots_of_states types outs called ss names (below Tail w))
        (tests types numbered memory given among kept fits outs called outs_are instances s known_lasts names known conses strong (below Unless (below Head w)) (part Unless (part Head start)) ok.1.1.1.0 k.1.1.0 g.1.1.0)
        (of_states ss e s known_lasts names known conses (below Tail w) (part Tail start) d.1 ok.1.1.1.1 k.1.1.1 g.1.1.1)))

  -- what a contract assumes and enforces, read in its block
  told : (b : Block) (s : Scope) (known_lasts : Lasts) (names : tree.Scope) → Agrees s names → ConsTyped types s → BlockSound types among s known_lasts b
      → (o : Option Expr) (w : Place → Place) (start : Instant) → ToldSound types among (inside s b) (lasts_of b known_lasts) o → ToldKept types kept (inside s b) o start (λ p. memory (w p)) → ToldGiven types fits (inside s b) o (λ p. given (w p))
      → Good (slots_told types outs called o (scope_of b names) w)
  told b s known_lasts names known conses ok None w start tok k g = tt
  told (block ds es) s known_lasts names known conses ok (Some e) w start tok k g =
      expression types numbered memory given among kept fits outs called outs_are instances (with_variables s ds) (lasts_in ds known_lasts) (typed_in ds names)
      (agrees_inside types among s ds names (own_types types among (with_variables s ds) es ds ok.0) known) (cons_inside types ds s conses) e w start tok.0 (judged_of (with_variables s ds) e ty.Bool tok.1) k g

  pub of_contract : (o : Option Contract) (s : Scope) (known_lasts : Lasts) (names : tree.Scope) → Agrees s names → ConsTyped types s → (w : Place → Place) (start : Instant) → ContractDrawable s o → ContractSound types among s known_lasts o
      → ContractKept types kept s o start (λ p. memory (w p)) → ContractGiven types fits s o (λ p. given (w p)) → AreInShape types memory given (slots_of_contract types outs called o names w)
  of_contract None s known_lasts names known conses w start d ok k g = tt
  of_contract (Some c) s known_lasts names known conses w start d ok k g =
      both (slots_of_block types outs called c.body names (below Observer w))
      (slots_told types outs called c.assume (scope_of c.body names) (below Assume w) ++ slots_told types outs called c.enforce (scope_of c.body names) (below Enforce w))
      (of_block c.body s known_lasts names known conses (below Observer w) (part Observer start) d ok.0 k.0 g.0)
      (both (slots_told types outs called c.assume (scope_of c.body names) (below Assume w)) (slots_told types outs called c.enforce (scope_of c.body names) (below Enforce w))
      (told c.body s known_lasts names known conses ok.0 c.assume (below Assume w) (part Assume start) ok.1.0 k.1.0 g.1.0)
      (told c.body s known_lasts names known conses ok.0 c.enforce (below Enforce w) (part Enforce start) ok.1.1 k.1.1 g.1.1))
