-- What the blocks and the contract of a node bring are the slots of its abstraction.
use Rattle.std.specs.Prelude.{⊤}
use Rattle.hp_base.specs.declared.value.Value.{Value}
use Rattle.std.proofs.Common.{◌≡◌, ℕ, Bool, List, [], ◌∷◌, ◌++◌, Option, None, Some, refl, sym, subst, ap, ◌∙◌}
use Rattle.hp_tree.specs.declared.block.Trans.{Trans}
use Rattle.hp_tree.specs.declared.program.Item.{Item}
use Rattle.hp_tree.specs.Expressions.{Expr}
use Rattle.hp_tree.specs.ExpressionTypes.{Scope, typed_in, scope_of}
use Rattle.hp_tree.specs.Blocks.{Decl, Block, block, Eqns, no_eqn, more_eqns, Eqn, define, switch, reset, automaton, Arms, no_arm, more_arms, States, no_state, more_states}
use Rattle.hp_tree.specs.Instant.{Equations, Head, Tail, Right, Test, Arms as ArmsOf, States as StatesOf, Until, Unless, Body, Observer, Assume, Enforce, Next, Pending, Place}
use Rattle.hp_tree.specs.Meaning.{types_of}
use Rattle.hp_tree.specs.Programs.{TypeDecl, Contract}
use Rattle.hp_meaning.specs.Causal.Sources.{below}
use Rattle.hp_meaning.specs.Contract.Slots as slots
use Rattle.hp_meaning.specs.Contract.Slots.{Slot}
use Rattle.hp_circuit.specs.declared.circuit.Shape.TheVariants.{Cons}
use Rattle.hp_drawing.specs.Kept.{Kept, register, with_kept}
use Rattle.hp_drawing.specs.Told.{Told, told_of}
use Rattle.hp_drawing.specs.Planned as planned
use Rattle.hp_drawing.specs.Planned.{Names, Callee, declaring, in_block, with_lasts, with_words, planned_conditions, planned_block, planned_eqns, planned_eqn, planned_arms, planned_states, planned_told, planned_contract, planned_observer}
use Rattle.hp_drawing.proofs.SlottedLemmas.Calling.{TestsCall, BlockCalls, EqnsCall, EqnCalls, ArmsCall, StatesCall, ToldCalls, ContractCalls}
use Rattle.hp_drawing.proofs.SlottedLemmas.TypeLaws.{seen, declared-same}
use Rattle.hp_drawing.proofs.SlottedLemmas.Declaring.{BlockDeclares, EqnsDeclare, EqnDeclares, ArmsDeclare, StatesDeclare, ContractDeclares}
use Rattle.hp_meaning.specs.Contract.Memory.{in_memory, remembers, remembers_conditions, remembers_block, remembers_equations, remembers_equation, remembers_arms, remembers_states, remembers_contract}
use Rattle.hp_tree.specs.Instant.{Instant, Past, part, in_row, Named, nothing as no_memory}
use Rattle.hp_drawing.proofs.SlottedLemmas.SlotLaws.{Look, Starts, Zeros, AllStart, remembered, Brings, Callees, nothing, both, one_more, begun, lasts_slots, lasts_bring, brings, tests_bring}

-- `Good` holds of the lists of declarations, so that their `last` variables start.
module _ (L : Look) (program : List Item) (first : Place → ℕ) (may : Bool) (callee : Callee) (outs : List ℕ → List Decl) (called : List ℕ → (Place → Place) → List Slot) (memory : List ℕ → Instant → Past → Instant)
    (known : Callees L program first may callee outs called memory) (Good : List Decl → Type 0) (starting : (ds : List Decl) → Good ds → AllStart L (told_of program) ds (remembered (types_of program) ds)) where
  abbrev types : List TypeDecl
  types = types_of program

  abbrev t : Told
  t = told_of program

  abbrev plan : Expr → Scope → List Kept → List Kept
  plan e scope before = planned.planned t callee e (seen types scope) before

  abbrev slots_in : Expr → Scope → (Place → Place) → List Slot
  slots_in e scope w = slots.slots types outs called e scope w

  -- what is seen in a block
  in-same : (b : Block) (scope : Scope) → in_block t b (seen types scope) ≡ seen types (scope_of b scope)
  in-same (block ds es) scope = declared-same program ds scope

  tests_in : (qs : List Trans) (names : Names) (scope : Scope) (w : Place → Place) (zero : Instant) (before : List Kept) → names ≡ seen types scope → TestsCall may qs
      → Starts L first w (in_row (remembers_conditions types memory qs zero [])) → Zeros L zero
      → Brings L types first before (planned_conditions t callee qs names before) (slots.slots_of_conditions types outs called qs scope w)
  tests_in qs names scope w zero before e h k z =
      subst (λ (ns : Names). Brings L types first before (planned_conditions t callee qs ns before) (slots.slots_of_conditions types outs called qs scope w)) (sym e) (tests_bring L program first may callee outs called memory known qs scope w zero before h k z)

  words_bring : (count : ℕ) (w : Place → Place) (before : List Kept) → first (w (Next ∷ [])) ≡ L.firstly 0 → first (w (Pending ∷ [])) ≡ L.firstly 0
      → Brings L types first before (with_words count before) (slots.register (w (Next ∷ [])) (slots.cons 0 count) ∷ (slots.register (w (Pending ∷ [])) slots.truth ∷ []))
  words_bring count w before n q =
      both L types first before (with_kept before (register 0 (Cons count))) (with_words count before) (slots.register (w (Next ∷ [])) (slots.cons 0 count) ∷ []) (slots.register (w (Pending ∷ [])) slots.truth ∷ [])
      (one_more L types first before (register 0 (Cons count)) (slots.register (w (Next ∷ [])) (slots.cons 0 count)) (ap (λ m. register m (Cons count) ∷ []) n))
      (begun L types first (with_kept before (register 0 (Cons count))) (w (Pending ∷ [])) q)

  mutual
    pub block_brings : (b : Block) (scope : Scope) (w : Place → Place) (zero : Instant) (before : List Kept) → BlockCalls may b → BlockDeclares Good b → Starts L first w (remembers_block types memory b zero []) → Zeros L zero
        → Brings L types first before (planned_block t callee b (seen types scope) before) (slots.slots_of_block types outs called b scope w)
    block_brings (block ds es) scope w zero before h g k z =
        let d1 = with_lasts t ds before in
        both L types first before d1 (planned_eqns t callee es (declaring t ds (seen types scope)) d1) (lasts_slots types ds w) (slots.slots_of_equations types outs called es (typed_in ds scope) (below Equations w))
        (lasts_bring L program first ds before w (remembered types ds) (starting ds g.0) (λ x. k (Named x ∷ [])))
        (eqns_bring es (typed_in ds scope) (declaring t ds (seen types scope)) (below Equations w) (part Equations zero) d1 (declared-same program ds scope) h g.1 (λ p. k (Equations ∷ p)) (λ p. z (Equations ∷ p)))

    eqns_bring : (es : Eqns) (scope : Scope) (names : Names) (w : Place → Place) (zero : Instant) (before : List Kept) → names ≡ seen types scope → EqnsCall may es → EqnsDeclare Good es
        → Starts L first w (remembers_equations types memory es zero []) → Zeros L zero
        → Brings L types first before (planned_eqns t callee es names before) (slots.slots_of_equations types outs called es scope w)
    eqns_bring no_eqn scope names w zero before e h g k z = nothing L types first before
    eqns_bring (more_eqns q qs) scope names w zero before e h g k z =
        let d1 = planned_eqn t callee q names before in
        both L types first before d1 (planned_eqns t callee qs names d1) (slots.slots_of_equation types outs called q scope (below Head w)) (slots.slots_of_equations types outs called qs scope (below Tail w))
        (subst (λ (ns : Names). Brings L types first before (planned_eqn t callee q ns before) (slots.slots_of_equation types outs called q scope (below Head w))) (sym e) (eqn_brings q scope (below Head w) (part Head zero) before h.0 g.0 (λ p. k (Head ∷ p)) (λ p. z (Head ∷ p))))
        (eqns_bring qs scope names (below Tail w) (part Tail zero) d1 e h.1 g.1 (λ p. k (Tail ∷ p)) (λ p. z (Tail ∷ p)))

    eqn_brings : (q : Eqn) (scope : Scope) (w : Place → Place) (zero : Instant) (before : List Kept) → EqnCalls may q → EqnDeclares Good q → Starts L first w (remembers_equation types memory q zero []) → Zeros L zero
        → Brings L types first before (planned_eqn t callee q (seen types scope) before) (slots.slots_of_equation types outs called q scope w)
    eqn_brings (define s ys e) scope w zero before h g k z = brings L program first may callee outs called memory known e scope (below Right w) (part Right zero) before h (λ p. k (Right ∷ p)) (λ p. z (Right ∷ p))
    eqn_brings (switch s e arms) scope w zero before h g k z =
        let d1 = plan e scope before in
        both L types first before d1 (planned_arms t callee arms (seen types scope) d1) (slots_in e scope (below Test w)) (slots.slots_of_arms types outs called arms scope (below ArmsOf w))
        (brings L program first may callee outs called memory known e scope (below Test w) (part Test zero) before h.0 (λ p. k (Test ∷ p)) (λ p. z (Test ∷ p))) (arms_bring arms scope (below ArmsOf w) (part ArmsOf zero) d1 h.1 g (λ p. k (ArmsOf ∷ p)) (λ p. z (ArmsOf ∷ p)))
    eqn_brings (reset s b e) scope w zero before h g k z =
        let d1 = planned_block t callee b (seen types scope) before in
        both L types first before d1 (plan e scope d1) (slots.slots_of_block types outs called b scope (below Body w)) (slots_in e scope (below Test w))
        (block_brings b scope (below Body w) (part Body zero) before h.1 g (λ p. k (Body ∷ p)) (λ p. z (Body ∷ p))) (brings L program first may callee outs called memory known e scope (below Test w) (part Test zero) d1 h.0 (λ p. k (Test ∷ p)) (λ p. z (Test ∷ p)))
    eqn_brings (automaton s ss) scope w zero before h g k z =
        let d1 = with_words (planned.count_states ss) before in
        both L types first before d1 (planned_states t callee ss (seen types scope) (seen types scope) d1)
        (slots.register (w (Next ∷ [])) (slots.cons 0 (planned.count_states ss)) ∷ (slots.register (w (Pending ∷ [])) slots.truth ∷ [])) (slots.slots_of_states types outs called ss scope (below StatesOf w))
        (words_bring (planned.count_states ss) w before (k (Next ∷ []) ∙ L.at_state) (k (Pending ∷ []) ∙ L.at_false))
        (states_bring ss scope (below StatesOf w) (part StatesOf zero) d1 h g (λ p. k (StatesOf ∷ p)) (λ p. z (StatesOf ∷ p)))

    arms_bring : (arms : Arms) (scope : Scope) (w : Place → Place) (zero : Instant) (before : List Kept) → ArmsCall may arms → ArmsDeclare Good arms → Starts L first w (remembers_arms types memory arms zero []) → Zeros L zero
        → Brings L types first before (planned_arms t callee arms (seen types scope) before) (slots.slots_of_arms types outs called arms scope w)
    arms_bring no_arm scope w zero before h g k z = nothing L types first before
    arms_bring (more_arms c b s arms) scope w zero before h g k z =
        let d1 = planned_block t callee b (seen types scope) before in
        both L types first before d1 (planned_arms t callee arms (seen types scope) d1) (slots.slots_of_block types outs called b scope (below Head w)) (slots.slots_of_arms types outs called arms scope (below Tail w))
        (block_brings b scope (below Head w) (part Head zero) before h.0 g.0 (λ p. k (Head ∷ p)) (λ p. z (Head ∷ p))) (arms_bring arms scope (below Tail w) (part Tail zero) d1 h.1 g.1 (λ p. k (Tail ∷ p)) (λ p. z (Tail ∷ p)))

    states_bring : (ss : States) (scope : Scope) (w : Place → Place) (zero : Instant) (before : List Kept) → StatesCall may ss → StatesDeclare Good ss
        → Starts L first w (remembers_states types memory ss zero []) → Zeros L zero
        → Brings L types first before (planned_states t callee ss (seen types scope) (seen types scope) before) (slots.slots_of_states types outs called ss scope w)
    states_bring no_state scope w zero before h g k z = nothing L types first before
    states_bring (more_states f b until unless s ss) scope w zero before h g k z =
        let names = seen types scope in
        let d1 = planned_block t callee b names before in
        let d2 = planned_conditions t callee until (in_block t b names) d1 in
        let d3 = planned_conditions t callee unless names d2 in
        let s1 = slots.slots_of_block types outs called b scope (below Body (below Head w)) in
        let s2 = slots.slots_of_conditions types outs called until (scope_of b scope) (below Until (below Head w)) in
        let s3 = slots.slots_of_conditions types outs called unless scope (below Unless (below Head w)) in
        let s4 = slots.slots_of_states types outs called ss scope (below Tail w) in
        both L types first before d1 (planned_states t callee ss names names d3) s1 (s2 ++ (s3 ++ s4)) (block_brings b scope (below Body (below Head w)) (part Body (part Head zero)) before h.0 g.0 (λ p. k (Head ∷ Body ∷ p)) (λ p. z (Head ∷ Body ∷ p)))
        (both L types first d1 d2 (planned_states t callee ss names names d3) s2 (s3 ++ s4) (tests_in until (in_block t b names) (scope_of b scope) (below Until (below Head w)) (part Until (part Head zero)) d1 (in-same b scope) h.1.0 (λ p. k (Head ∷ Until ∷ p)) (λ p. z (Head ∷ Until ∷ p)))
        (both L types first d2 d3 (planned_states t callee ss names names d3) s3 s4 (tests_in unless names scope (below Unless (below Head w)) (part Unless (part Head zero)) d2 refl h.1.1.0 (λ p. k (Head ∷ Unless ∷ p)) (λ p. z (Head ∷ Unless ∷ p))) (states_bring ss scope (below Tail w) (part Tail zero) d3 h.1.1.1 g.1 (λ p. k (Tail ∷ p)) (λ p. z (Tail ∷ p)))))

  -- ---- contracts

  abbrev told_slots : Option Expr → Scope → (Place → Place) → List Slot
  told_slots None scope w = []
  told_slots (Some e) scope w = slots_in e scope w

  abbrev remembers_told : Option Expr → Instant → Past → Instant
  remembers_told None zero past = no_memory
  remembers_told (Some e) zero past = remembers types memory e zero past

  -- the registers of a contract start
  abbrev pub ObserverStarts : Option Contract → (Place → Place) → Instant → Type 0
  ObserverStarts None w zero = ⊤
  ObserverStarts (Some c) w zero =
      Starts L first (below Observer w) (remembers_block types memory c.body (part Observer zero) [])
      × (Starts L first (below Assume w) (remembers_told c.assume (part Assume zero) []) × Starts L first (below Enforce w) (remembers_told c.enforce (part Enforce zero) []))

  pub observer_starts : (o : Option Contract) (w : Place → Place) (zero : Instant) (outputs : List ℕ → Value) (body : Instant)
      → Starts L first w (in_memory outputs body (remembers_contract types memory o zero [])) → ObserverStarts o w zero
  observer_starts None w zero outputs body k = tt
  observer_starts (Some c) w zero outputs body k = ((λ p. k (Observer ∷ p)), ((λ p. k (Assume ∷ p)), (λ p. k (Enforce ∷ p))))

  told_brings : (o : Option Expr) (names : Names) (scope : Scope) (w : Place → Place) (zero : Instant) (before : List Kept) → names ≡ seen types scope → ToldCalls may o
      → Starts L first w (remembers_told o zero []) → Zeros L zero
      → Brings L types first before (planned_told t callee o names before) (told_slots o scope w)
  told_brings None names scope w zero before e h k z = nothing L types first before
  told_brings (Some x) names scope w zero before e h k z = subst (λ (ns : Names). Brings L types first before (planned_told t callee (Some x) ns before) (slots_in x scope w)) (sym e) (brings L program first may callee outs called memory known x scope w zero before h k z)

  pub contract_brings : (c : Contract) (scope : Scope) (w : Place → Place) (zero : Instant) (before : List Kept) → ContractCalls may (Some c) → BlockDeclares Good c.body
      → ObserverStarts (Some c) w zero → Zeros L zero
      → Brings L types first before (planned_contract t callee c (seen types scope) before) (slots.slots_of_contract types outs called (Some c) scope w)
  contract_brings c scope w zero before h g k z =
      let names = seen types scope in
      let own = in_block t c.body names in
      let d1 = planned_block t callee c.body names before in
      let d2 = planned_told t callee c.assume own d1 in
      let s2 = told_slots c.assume (scope_of c.body scope) (below Assume w) in
      let s3 = told_slots c.enforce (scope_of c.body scope) (below Enforce w) in
      both L types first before d1 (planned_told t callee c.enforce own d2) (slots.slots_of_block types outs called c.body scope (below Observer w)) (s2 ++ s3) (block_brings c.body scope (below Observer w) (part Observer zero) before h.0 g k.0 (λ p. z (Observer ∷ p)))
      (both L types first d1 d2 (planned_told t callee c.enforce own d2) s2 s3 (told_brings c.assume own (scope_of c.body scope) (below Assume w) (part Assume zero) d1 (in-same c.body scope) h.1.0 k.1.0 (λ p. z (Assume ∷ p))) (told_brings c.enforce own (scope_of c.body scope) (below Enforce w) (part Enforce zero) d2 (in-same c.body scope) h.1.1 k.1.1 (λ p. z (Enforce ∷ p))))

  pub observer_brings : (o : Option Contract) (scope : Scope) (w : Place → Place) (zero : Instant) (before : List Kept) → ContractCalls may o → ContractDeclares Good o
      → ObserverStarts o w zero → Zeros L zero
      → Brings L types first before (planned_observer t callee o (seen types scope) before) (slots.slots_of_contract types outs called o scope w)
  observer_brings None scope w zero before h g k z = nothing L types first before
  observer_brings (Some c) scope w zero before h g k z = contract_brings c scope w zero before h g k z
