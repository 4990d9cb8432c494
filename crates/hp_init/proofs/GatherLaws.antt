-- What is gathered in the lists of a block, and at control equations.
use Rattle.std.proofs.Common.{◌≡◌, ℕ, ◌+◌, ◌<◌, get_or, length, drop, map, List, [], ◌∷◌, ◌++◌, Option, None, Some, refl, sym, ap, ◌∙◌, arith}
use Rattle.std.proofs.lemmas.List.{append_assoc}
use Rattle.hp_names.proofs.FoundLaws.{drop-next}
use Rattle.hp_base.specs.declared.span.Span.{Span}
use Rattle.hp_tree.specs.Expressions.{Expr}
use Rattle.hp_tree.specs.Blocks.{Decl, Block, Eqn, switch, reset, automaton, Arms, States, eqns_of, arms_of, states_of}
use Rattle.hp_tree.specs.Programs.{Contract}
use Rattle.hp_tree.specs.BlockView.{eqn_seen, arm_seen, state_seen}
use Rattle.hp_tree.specs.declared.block.Eqn as code_eqn
use Rattle.hp_tree.specs.declared.block.Arm as code_arm
use Rattle.hp_tree.specs.declared.block.State as code_state
use Rattle.hp_init.specs.declared.ask.Ask.{Ask}
use Rattle.hp_tables.specs.declared.defining.layer.Layer.{Layer}
use Rattle.hp_init.specs.declared.gather.Gathering.{Gathering}
use Rattle.hp_init.specs.Names.{size_of_contract, size, size_of, size_of_all, size_of_arms, size_of_states}
use Rattle.hp_tree.specs.Meaning.{names_of as declared}
use Rattle.hp_tables.specs.Defining.Layers.{numbered, says, says_numbers, sight}
use Rattle.hp_init.specs.Asks.{Sight, Seen, over, of_contract, of_block, of_eqn, of_eqns, of_arms, of_states, of_test, of_tests, seen_in}
use Rattle.hp_init.specs.Gathered.{front, seen_of_outputs, seen_at, seen_outside, values_within, of_state}
use Rattle.hp_init.specs.Goals.{with_more}
use Rattle.hp_init.proofs.AskLaws.{more-is, more-from_nil, more-append}
use Rattle.hp_init.proofs.EntryLaws.{seen_as}
use Rattle.hp_init.proofs.TableLaws.{sight-numbers}

-- ---- one more element of a list

module _ (before : List Ask) (k : ℕ) where
  pub asked-eqns : (see : Seen) (ds : List Decl) (es : List code_eqn.Eqn) (i : ℕ) (e : code_eqn.Eqn) → i < length es → e ≡ get_or es i e
      → with_more before (of_eqns see ds k (eqns_of (map eqn_seen (drop i es))))
      ≡ with_more (with_more before (of_eqn see ds k (eqn_seen e))) (of_eqns see ds (k + size_of (eqn_seen e)) (eqns_of (map eqn_seen (drop (i + 1) es))))
  asked-eqns see ds es i e h p =
      ap (λ more. with_more before (of_eqns see ds k (eqns_of (map eqn_seen more)))) (drop-next es i e h p)
      ∙ more-append before (of_eqn see ds k (eqn_seen e)) (of_eqns see ds (k + size_of (eqn_seen e)) (eqns_of (map eqn_seen (drop (i + 1) es))))

  pub asked-arms : (see : Seen) (arms : List code_arm.Arm) (i : ℕ) (a : code_arm.Arm) → i < length arms → a ≡ get_or arms i a
      → with_more before (of_arms see k (arms_of (map arm_seen (drop i arms))))
      ≡ with_more (with_more before (of_block see k a.body)) (of_arms see (k + size a.body) (arms_of (map arm_seen (drop (i + 1) arms))))
  asked-arms see arms i a h p =
      ap (λ more. with_more before (of_arms see k (arms_of (map arm_seen more)))) (drop-next arms i a h p)
      ∙ more-append before (of_block see k a.body) (of_arms see (k + size a.body) (arms_of (map arm_seen (drop (i + 1) arms))))

  pub asked-states : (out see : Seen) (qs : List code_state.State) (i : ℕ) (q : code_state.State) → i < length qs → q ≡ get_or qs i q
      → with_more before (of_states out see k (states_of (map state_seen (drop i qs))))
      ≡ with_more (with_more before (of_state out see k q.body q.until.items q.unless.items)) (of_states out see (k + size q.body) (states_of (map state_seen (drop (i + 1) qs))))
  asked-states out see qs i q h p =
      let body = of_block see k q.body in
      let weak = of_tests (seen_in k q.body see).values q.until.items in
      let strong = of_tests out.values q.unless.items in
      let rest = of_states out see (k + size q.body) (states_of (map state_seen (drop (i + 1) qs))) in
      ap (λ more. with_more before (of_states out see k (states_of (map state_seen more)))) (drop-next qs i q h p)
      ∙ sym (ap (with_more before) (append_assoc body (weak ++ strong) rest ∙ ap (λ more. body ++ more) (append_assoc weak strong rest)))
      ∙ more-append before (body ++ (weak ++ strong)) rest

pub sized-eqns : (es : List code_eqn.Eqn) (i : ℕ) (e : code_eqn.Eqn) → i < length es → e ≡ get_or es i e
    → size_of_all (eqns_of (map eqn_seen (drop i es))) ≡ size_of (eqn_seen e) + size_of_all (eqns_of (map eqn_seen (drop (i + 1) es)))
sized-eqns es i e h p = ap (λ more. size_of_all (eqns_of (map eqn_seen more))) (drop-next es i e h p)

pub sized-arms : (arms : List code_arm.Arm) (i : ℕ) (a : code_arm.Arm) → i < length arms → a ≡ get_or arms i a
    → size_of_arms (arms_of (map arm_seen (drop i arms))) ≡ size a.body + size_of_arms (arms_of (map arm_seen (drop (i + 1) arms)))
sized-arms arms i a h p = ap (λ more. size_of_arms (arms_of (map arm_seen more))) (drop-next arms i a h p)

pub sized-states : (qs : List code_state.State) (i : ℕ) (q : code_state.State) → i < length qs → q ≡ get_or qs i q
    → size_of_states (states_of (map state_seen (drop i qs))) ≡ size q.body + size_of_states (states_of (map state_seen (drop (i + 1) qs)))
sized-states qs i q h p = ap (λ more. size_of_states (states_of (map state_seen more))) (drop-next qs i q h p)

-- numbers add up
pub numbers-on : (first next after own rest all from : ℕ) → after ≡ next + own → from ≡ own + rest → next + from ≡ first + all → after + rest ≡ first + all
numbers-on first next after own rest all from a b c = omega arith

-- what one element asks, where layers are as they were
pub asks-on : (first now after : Gathering) (own : Seen → Seen → List Ask) (rest : ℕ → List Ask) (n : ℕ)
    → now.variables.items ≡ first.variables.items → now.values.items ≡ first.values.items → after.next ≡ now.next + n
    → after.asks.items ≡ with_more now.asks.items (own (seen_outside now) (seen_at now))
    → with_more after.asks.items (rest after.next) ≡ with_more (with_more now.asks.items (own (seen_outside first) (seen_at first))) (rest (now.next + n))
asks-on first now after own rest n variables values next asks =
    let outside : seen_outside now ≡ seen_outside first = λ j. record { variables = sight (variables j); values = sight (front (values j)) } in
    let at : seen_at now ≡ seen_at first = λ j. record { variables = sight (variables j); values = sight (values j) } in
    ap (λ made. with_more made (rest after.next)) asks
    ∙ ap (λ out. with_more (with_more now.asks.items (own out (seen_at now))) (rest after.next)) outside
    ∙ ap (λ see. with_more (with_more now.asks.items (own (seen_outside first) see)) (rest after.next)) at
    ∙ ap (λ k. with_more (with_more now.asks.items (own (seen_outside first) (seen_at first))) (rest k)) next

-- ---- control equations

module _ (variables values inner tested : List Layer) (ds : List Decl) (k : ℕ) (before middle after : List Ask) (eqn : Eqn) (hidden : sight inner ≡ values_within eqn (sight values)) where
  pub switched : (at : Span) (e : Expr) (arms given : Arms) → eqn ≡ switch at e arms → tested ≡ values → given ≡ arms
      → middle ≡ with_more before (of_test (sight tested) e) → after ≡ with_more middle (of_arms (seen_as variables inner) k given) → after ≡ with_more before (of_eqn (seen_as variables values) ds k eqn)
  switched at e arms given is read same first second =
      second
      ∙ ap (λ made. with_more made (of_arms (seen_as variables inner) k given)) first
      ∙ ap (λ ls. with_more (with_more before (of_test (sight ls) e)) (of_arms (seen_as variables inner) k given)) read
      ∙ ap (λ (see : Sight). with_more (with_more before (of_test (sight values) e)) (of_arms (record { variables = sight variables; values = see }) k given)) hidden
      ∙ ap (λ q. with_more (with_more before (of_test (sight values) e)) (of_arms (record { variables = sight variables; values = values_within q (sight values) }) k given)) is
      ∙ ap (λ list. with_more (with_more before (of_test (sight values) e)) (of_arms (record { variables = sight variables; values = values_within (switch at e arms) (sight values) }) k list)) same
      ∙ sym (more-append before (of_test (sight values) e) (of_arms (record { variables = sight variables; values = values_within (switch at e arms) (sight values) }) k arms))
      ∙ sym (ap (λ q. with_more before (of_eqn (seen_as variables values) ds k q)) is)

  pub resetted : (at : Span) (b : Block) (e : Expr) → eqn ≡ reset at b e → tested ≡ values
      → middle ≡ with_more before (of_block (seen_as variables inner) k b) → after ≡ with_more middle (of_test (sight tested) e) → after ≡ with_more before (of_eqn (seen_as variables values) ds k eqn)
  resetted at b e is read first second =
      second
      ∙ ap (λ made. with_more made (of_test (sight tested) e)) first
      ∙ ap (λ ls. with_more (with_more before (of_block (seen_as variables inner) k b)) (of_test (sight ls) e)) read
      ∙ ap (λ (see : Sight). with_more (with_more before (of_block (record { variables = sight variables; values = see }) k b)) (of_test (sight values) e)) hidden
      ∙ ap (λ q. with_more (with_more before (of_block (record { variables = sight variables; values = values_within q (sight values) }) k b)) (of_test (sight values) e)) is
      ∙ sym (more-append before (of_block (record { variables = sight variables; values = values_within (reset at b e) (sight values) }) k b) (of_test (sight values) e))
      ∙ sym (ap (λ q. with_more before (of_eqn (seen_as variables values) ds k q)) is)

  pub automated : (at : Span) (ss given : States) → eqn ≡ automaton at ss → front inner ≡ values → given ≡ ss
      → after ≡ with_more before (of_states (seen_as variables (front inner)) (seen_as variables inner) k given) → after ≡ with_more before (of_eqn (seen_as variables values) ds k eqn)
  automated at ss given is around same asks =
      asks
      ∙ ap (λ ls. with_more before (of_states (seen_as variables ls) (seen_as variables inner) k given)) around
      ∙ ap (λ (see : Sight). with_more before (of_states (seen_as variables values) (record { variables = sight variables; values = see }) k given)) hidden
      ∙ ap (λ q. with_more before (of_states (seen_as variables values) (record { variables = sight variables; values = values_within q (sight values) }) k given)) is
      ∙ ap (λ list. with_more before (of_states (seen_as variables values) (record { variables = sight variables; values = values_within (automaton at ss) (sight values) }) k list)) same
      ∙ sym (ap (λ q. with_more before (of_eqn (seen_as variables values) ds k q)) is)

-- ---- a node

over_nothing : (names : List (List ℕ)) (x : List ℕ) (o : Option ℕ) → over (λ y. o) (sight []) x ≡ o
over_nothing names x None = refl
over_nothing names x (Some k) = refl

pub sight-outputs : (l : Layer) (names : List (List ℕ)) → says l ≡ says_numbers 0 names → sight (l ∷ []) ≡ numbered 0 names
sight-outputs l names h =
    let one : (x : List ℕ) → over (numbered 0 names) (sight []) x ≡ numbered 0 names x = λ x. over_nothing names x (numbered 0 names x) in
    let all : over (numbered 0 names) (sight []) ≡ numbered 0 names = λ j x. one x j in
    sight-numbers [] l 0 names h ∙ all

pub begun : (variables values : List Layer) (own read : Layer) (ds : List Decl) → variables ≡ own ∷ [] → values ≡ read ∷ [] → says own ≡ says_numbers 0 (declared ds) → says read ≡ says_numbers 0 (declared ds)
    → seen_as variables values ≡ seen_of_outputs ds
begun variables values own read ds v w h k =
    let a : sight variables ≡ numbered 0 (declared ds) = ap sight v ∙ sight-outputs own (declared ds) h in
    let b : sight values ≡ numbered 0 (declared ds) = ap sight w ∙ sight-outputs read (declared ds) k in
    λ j. record { variables = a j; values = b j }

module _ (outputs : List Decl) (contract : Option Contract) (body : Block) (first second : Gathering) (asks : List Ask) where
  pub node-gathered : seen_at first ≡ seen_of_outputs outputs → first.next ≡ length outputs → first.asks.items ≡ []
      → second.variables.items ≡ first.variables.items → second.values.items ≡ first.values.items → second.next ≡ first.next + size_of_contract contract
      → second.asks.items ≡ with_more first.asks.items (of_contract (seen_at first) first.next contract) → asks ≡ with_more second.asks.items (of_block (seen_at second) second.next body)
      → asks ≡ of_contract (seen_of_outputs outputs) (length outputs) contract ++ of_block (seen_of_outputs outputs) (length outputs + size_of_contract contract) body
  node-gathered seen next none variables values further of_first of_second =
      let see = seen_of_outputs outputs in
      let at : seen_at second ≡ see = (λ j. record { variables = sight (variables j); values = sight (values j) }) ∙ seen in
      let number : second.next ≡ length outputs + size_of_contract contract = omega arith in
      let observer : second.asks.items ≡ of_contract see (length outputs) contract =
      of_first
      ∙ ap (λ made. with_more made (of_contract (seen_at first) first.next contract)) none
      ∙ more-from_nil (of_contract (seen_at first) first.next contract)
      ∙ ap (λ s. of_contract s first.next contract) seen
      ∙ ap (λ k. of_contract see k contract) next in
      of_second
      ∙ ap (λ made. with_more made (of_block (seen_at second) second.next body)) observer
      ∙ ap (λ s. with_more (of_contract see (length outputs) contract) (of_block s second.next body)) at
      ∙ ap (λ k. with_more (of_contract see (length outputs) contract) (of_block see k body)) number
      ∙ more-is (of_contract see (length outputs) contract) (of_block see (length outputs + size_of_contract contract) body)
