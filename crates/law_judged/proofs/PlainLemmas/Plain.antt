-- The names of a program whose tokens may be written are plain.
use Rattle.std.proofs.Common.{◌≡◌, ℕ, ⊎_elim, Bool, true, false, ◌&&◌, nat_eq, if◌then◌else◌, List, [], ◌∷◌, ◌++◌, map, refl, ap, ◌∙◌, subst, arith}
use Rattle.std.proofs.lemmas.Bool.Decides.{nat_tests}
use Rattle.std.specs.Prelude.{IsTrue, Option, None, Some}
use Rattle.std.specs.List.{list_all}
use Rattle.std.specs.Str.{bytes_eq}
use Rattle.hp_base.specs.declared.ty.Const.{Const}
use Rattle.hp_base.specs.Bytes.{is_small, is_word_byte}
use Rattle.hp_lexer.specs.Spelling.{IsWord}
use Rattle.hp_lexer.specs.Written.{Written, IsWritable}
use Rattle.hp_lexer.specs.declared.token.Keyword.TheVariants as key
use Rattle.hp_lexer.specs.declared.token.Sign.TheVariants as mark
use Rattle.hp_tree.specs.declared.program.Item.{Item}
use Rattle.hp_tree.specs.declared.program.Item.TheVariants.{TypeItem, NodeItem}
use Rattle.hp_tree.specs.Blocks.{Decl, Block, block, Eqns, no_eqn, more_eqns, Eqn, define, switch, reset, automaton, Arms, no_arm, more_arms, States, no_state, more_states}
use Rattle.hp_tree.specs.Programs.{Contract, Node}
use Rattle.hp_tree.specs.Meaning.{declares, controls_of}
use Rattle.hp_print.specs.Tokens.{word, sign, small, constant_tokens, led_by, joined_by, ended_by}
use Rattle.hp_print.specs.ExpressionTokens.{expression_tokens}
use Rattle.hp_print.specs.BlockTokens.{clock_tokens, typed_tokens, declared_tokens, declaration_tokens, parameters_tokens, variables_tokens, inner_variables_tokens, transitions_tokens, body_tokens, inner_tokens, equations_tokens, equation_tokens, arms_tokens, states_tokens}
use Rattle.hp_print.specs.ProgramTokens.{whole_block_tokens, contract_block_tokens, clause_tokens, controls_tokens, node_contract_tokens, node_tokens, item_tokens, program_tokens}
use Rattle.hp_print.proofs.Writable.{Writable}
use Rattle.law_judged.specs.Named.Scoped.{no_names, also, interface, EachNode}
use Rattle.law_judged.proofs.NamedLemmas.Sets.{or_cases, same_name}
use Rattle.hp_expand.specs.NewNames.{is_new}
use Rattle.law_judged.specs.Replaced.Fitting.{DeclNames, BlockNames, EqnsNames, EqnNames, ArmsNames, StatesNames, ContractNames, NodeNames, IsPlain}

-- ---- bytes of words are not the sign

is_sign : (b : ℕ) → nat_eq b 36 ≡ true → b ≡ 36
is_sign b h = grind (arith, nat_tests)

word_byte : (b : ℕ) → is_word_byte b ≡ true → nat_eq b 36 ≡ false
word_byte b h = by (nat_eq b 36) refl
  where
    by : (d : Bool) → nat_eq b 36 ≡ d → d ≡ false
    by true e = let k : is_word_byte 36 ≡ true = subst (λ z. is_word_byte z ≡ true) (is_sign b e) h in absurd (cc k)
    by false e = refl

small_byte : (b : ℕ) → is_small b ≡ true → nat_eq b 36 ≡ false
small_byte b h = by (nat_eq b 36) refl
  where
    by : (d : Bool) → nat_eq b 36 ≡ d → d ≡ false
    by true e = let k : is_small 36 ≡ true = subst (λ z. is_small z ≡ true) (is_sign b e) h in absurd (cc k)
    by false e = refl

first_true : (a b : Bool) → (a && b) ≡ true → a ≡ true
first_true true b h = refl
first_true false b h = absurd (cc h)

second_true : (a b : Bool) → (a && b) ≡ true → b ≡ true
second_true true b h = h
second_true false b h = absurd (cc h)

word_bytes : (w : List ℕ) → list_all is_word_byte w ≡ true → is_new w ≡ false
word_bytes [] h = refl
word_bytes (b ∷ w) h =
    ap (λ d. if d then true else is_new w) (word_byte b (first_true (is_word_byte b) (list_all is_word_byte w) h)) ∙ word_bytes w (second_true (is_word_byte b) (list_all is_word_byte w) h)

word_plain : (x : List ℕ) → IsWord is_small x → is_new x ≡ false
word_plain [] h = absurd h
word_plain (b ∷ w) h = ap (λ d. if d then true else is_new w) (small_byte b h.0) ∙ word_bytes w h.1

small_plain : (x : List ℕ) → IsWritable (small x) → IsPlain x
small_plain x w = (word_plain x w.spelled.0, w.limited)

-- ---- lists of tokens

first : (a b : List Written) → Writable (a ++ b) → Writable a
first [] b h = tt
first (w ∷ a) b h = (h.0, first a b h.1)

rest : (a b : List Written) → Writable (a ++ b) → Writable b
rest [] b h = h
rest (w ∷ a) b h = rest a b h.1

-- ---- declarations

typed_plain : (d : Decl) (more : List Written) → Writable (typed_tokens d.name d.ty ++ more) → IsPlain d.name
typed_plain d more h = small_plain d.name h.0

declared_plain : (last : Option Const) (d : Decl) → Writable (declared_tokens last d) → IsPlain d.name
declared_plain None d h = typed_plain d (clock_tokens d.clock) h
declared_plain (Some c) d h = typed_plain d (sign mark.Equal ∷ constant_tokens c) h.1

declaration_plain : (d : Decl) → Writable (declaration_tokens d) → IsPlain d.name
declaration_plain d h = declared_plain d.last d h

more_plain : (d : Decl) (ds : List Decl) → IsPlain d.name → DeclNames IsPlain ds → DeclNames IsPlain (d ∷ ds)
more_plain d ds p q x h = ⊎_elim (λ e. subst IsPlain (same_name d.name x e) p) (λ l. q x l) (or_cases (bytes_eq d.name x) (declares ds x) h)

none_plain : DeclNames IsPlain []
none_plain x h = absurd (cc h)

ended_plain : (w : Written) (ds : List Decl) → Writable (ended_by w (map declaration_tokens ds)) → DeclNames IsPlain ds
ended_plain w [] h = none_plain
ended_plain w (d ∷ ds) h =
    let later = w ∷ ended_by w (map declaration_tokens ds) in
    more_plain d ds (declaration_plain d (first (declaration_tokens d) later h)) (ended_plain w ds (rest (declaration_tokens d) later h).1)

led_plain : (w : Written) (ds : List Decl) → Writable (led_by w (map declaration_tokens ds)) → DeclNames IsPlain ds
led_plain w [] h = none_plain
led_plain w (d ∷ ds) h =
    let later = led_by w (map declaration_tokens ds) in
    more_plain d ds (declaration_plain d (first (declaration_tokens d) later h.1)) (led_plain w ds (rest (declaration_tokens d) later h.1))

joined_plain : (w : Written) (ds : List Decl) → Writable (joined_by w (map declaration_tokens ds)) → DeclNames IsPlain ds
joined_plain w [] h = none_plain
joined_plain w (d ∷ ds) h =
    let later = led_by w (map declaration_tokens ds) in
    more_plain d ds (declaration_plain d (first (declaration_tokens d) later h)) (led_plain w ds (rest (declaration_tokens d) later h))

parameters_plain : (ds : List Decl) → Writable (parameters_tokens ds) → DeclNames IsPlain ds
parameters_plain ds h =
    let listed = joined_by (sign mark.Semicolon) (map declaration_tokens ds) in
    joined_plain (sign mark.Semicolon) ds (first listed (sign mark.Close ∷ []) h.1)

variables_plain : (ds : List Decl) → Writable (variables_tokens ds) → DeclNames IsPlain ds
variables_plain [] h = none_plain
variables_plain (d ∷ ds) h = ended_plain (sign mark.Semicolon) (d ∷ ds) h.1

inner_variables_plain : (ds : List Decl) → Writable (inner_variables_tokens ds) → DeclNames IsPlain ds
inner_variables_plain [] h = none_plain
inner_variables_plain (d ∷ ds) h = variables_plain (d ∷ ds) (first (variables_tokens (d ∷ ds)) (word key.In ∷ []) h)

-- ---- blocks

mutual
  body_plain : (b : Block) → Writable (body_tokens b) → BlockNames IsPlain b
  body_plain (block ds es) h =
      let later = word key.Do ∷ equations_tokens es in
      (variables_plain ds (first (variables_tokens ds) later h), equations_plain es (rest (variables_tokens ds) later h).1)

  inner_plain : (b : Block) → Writable (inner_tokens b) → BlockNames IsPlain b
  inner_plain (block ds es) h =
      (inner_variables_plain ds (first (inner_variables_tokens ds) (equations_tokens es) h), equations_plain es (rest (inner_variables_tokens ds) (equations_tokens es) h))

  equations_plain : (es : Eqns) → Writable (equations_tokens es) → EqnsNames IsPlain es
  equations_plain no_eqn h = tt
  equations_plain (more_eqns e es) h =
      let later = sign mark.Semicolon ∷ equations_tokens es in
      (equation_plain e (first (equation_tokens e) later h), equations_plain es (rest (equation_tokens e) later h).1)

  equation_plain : (e : Eqn) → Writable (equation_tokens e) → EqnNames IsPlain e
  equation_plain (define s xs e) h = tt
  equation_plain (switch s e arms) h =
      let later = arms_tokens arms ++ (word key.End ∷ []) in
      arms_plain arms (first (arms_tokens arms) (word key.End ∷ []) (rest (expression_tokens e) later h.1))
  equation_plain (reset s b e) h = inner_plain b (first (inner_tokens b) (word key.Every ∷ expression_tokens e) h.1)
  equation_plain (automaton s qs) h = states_plain qs (first (states_tokens qs) (word key.End ∷ []) h.1)

  arms_plain : (arms : Arms) → Writable (arms_tokens arms) → ArmsNames IsPlain arms
  arms_plain no_arm h = tt
  arms_plain (more_arms c b s arms) h =
      (body_plain b (first (body_tokens b) (arms_tokens arms) h.1.1), arms_plain arms (rest (body_tokens b) (arms_tokens arms) h.1.1))

  states_plain : (qs : States) → Writable (states_tokens qs) → StatesNames IsPlain qs
  states_plain no_state h = tt
  states_plain (more_states x b until unless s qs) h =
      let weak = transitions_tokens key.Until until in
      let strong = transitions_tokens key.Unless unless in
      let later = weak ++ (strong ++ states_tokens qs) in (
        body_plain b (first (body_tokens b) later h.1.1),
        states_plain qs (rest strong (states_tokens qs) (rest weak (strong ++ states_tokens qs) (rest (body_tokens b) later h.1.1))),
      )

whole_plain : (b : Block) → Writable (whole_block_tokens b) → BlockNames IsPlain b
whole_plain (block ds es) h =
    let later = word key.Let ∷ (equations_tokens es ++ (word key.Tel ∷ [])) in
    (variables_plain ds (first (variables_tokens ds) later h), equations_plain es (first (equations_tokens es) (word key.Tel ∷ []) (rest (variables_tokens ds) later h).1))

observer_plain : (b : Block) → Writable (contract_block_tokens b) → BlockNames IsPlain b
observer_plain (block [] no_eqn) h = (none_plain, tt)
observer_plain (block [] (more_eqns e es)) h = whole_plain (block [] (more_eqns e es)) h
observer_plain (block (d ∷ ds) es) h = whole_plain (block (d ∷ ds) es) h

-- ---- nodes

controls_plain : (ds : List Decl) → Writable (controls_tokens ds) → DeclNames IsPlain ds
controls_plain [] h = none_plain
controls_plain (d ∷ ds) h = parameters_plain (d ∷ ds) h.1

contract_plain : (c : Option Contract) → Writable (node_contract_tokens c) → ContractNames IsPlain c × DeclNames IsPlain (controls_of c)
contract_plain None h = (tt, none_plain)
contract_plain (Some c) h =
    let block_words = contract_block_tokens c.body in
    let assume = clause_tokens key.Assume c.assume in
    let enforce = clause_tokens key.Enforce c.enforce in
    let controls = controls_tokens c.controls in (
      observer_plain c.body (first block_words (assume ++ (enforce ++ controls)) h.1),
      controls_plain c.controls (rest enforce controls (rest assume (enforce ++ controls) (rest block_words (assume ++ (enforce ++ controls)) h.1))),
    )

node_plain : (n : Node) → Writable (node_tokens n) → NodeNames IsPlain n
node_plain n h =
    let ins = parameters_tokens n.inputs in
    let outs = parameters_tokens n.outputs in
    let contract = node_contract_tokens n.contract in
    let body = whole_block_tokens n.body in
    let behind_ins = rest ins (word key.Returns ∷ (outs ++ (contract ++ body))) h.1.1 in
    let behind_outs = rest outs (contract ++ body) behind_ins.1 in
    let p = parameters_plain n.inputs (first ins (word key.Returns ∷ (outs ++ (contract ++ body))) h.1.1) in
    let q = parameters_plain n.outputs (first outs (contract ++ body) behind_ins.1) in
    let c = contract_plain n.contract (first contract body behind_outs) in
    record {
      interface = λ x l. ⊎_elim (λ d. c.1 x d)
          (λ d. ⊎_elim (λ o. q x o) (λ i. ⊎_elim (λ j. p x j) (λ j. absurd (none j)) (or_cases (declares n.inputs x) false i)) (or_cases (declares n.outputs x) (also no_names n.inputs x) d))
          (or_cases (declares (controls_of n.contract) x) (interface n x) l);
      contract = c.0;
      body = whole_plain n.body (rest contract body behind_outs);
    }
  where
    none : IsTrue false → ⊥
    none h = absurd (cc h)

pub program_plain : (items : List Item) → Writable (program_tokens items) → EachNode (NodeNames IsPlain) items
program_plain [] h = tt
program_plain (TypeItem t ∷ items) h = program_plain items (rest (item_tokens (TypeItem t)) (program_tokens items) h)
program_plain (NodeItem n ∷ items) h =
    (node_plain n (first (item_tokens (NodeItem n)) (program_tokens items) h), program_plain items (rest (item_tokens (NodeItem n)) (program_tokens items) h))
