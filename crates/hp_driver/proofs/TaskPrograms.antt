-- The program of the text of some tasks has the node of the tasks, with two inputs and two outputs a task; and so has its machine. The text is read here by computing, for each number of tasks.
-- Source: own.
use Rattle.std.proofs.Common.{◌≡◌, ℕ, zero, suc, ◌+◌, ◌*◌, ◌≤◌, ◌<◌, ◌⊎◌, inl, inr, Bool, true, false, List, [], ◌∷◌, length, Option, None, Some, refl, sym, ap, ◌∙◌, subst, arith}
use Rattle.std.specs.Prelude.{◌&&◌, nat_eq, if◌then◌else◌}
use Rattle.std.specs.Str.{bytes_eq}
use Rattle.std.proofs.lemmas.Bool.{and_parts, cases_lt}
use Rattle.std.proofs.lemmas.Bool.Decides.{nat_tests}
use Rattle.std.proofs.lemmas.List.{length-map}
use Rattle.hp_clocks.specs.Writing.{AreWritten}
use Rattle.hp_compile.specs.Judged.{IsProgramOf}
use Rattle.hp_expand.specs.Numbering.{no_node, replaced_items, replaced_node, with_node}
use Rattle.hp_lexer.specs.declared.token.Token.{Token}
use Rattle.hp_machines.specs.Machined.{Heading}
use Rattle.hp_meaning.specs.Clocking.Clocking.{Assignment, base_written, node_with_clocks}
use Rattle.hp_obc.specs.Machines.{Obc}
use Rattle.hp_obc.specs.declared.machine.Var.{Var}
use Rattle.hp_parser.specs.Lexemes.{lexemes}
use Rattle.hp_parser.specs.Outcomes.{Outcome, done, refused}
use Rattle.hp_parser.specs.Programs.{read_program}
use Rattle.hp_parser.proofs.ParseLaws.{reads_program}
use Rattle.hp_tree.specs.Blocks.{Decl}
use Rattle.hp_tree.specs.Meaning.{node_among}
use Rattle.hp_tree.specs.Programs.{Node}
use Rattle.hp_tree.specs.declared.program.Item.{Item}
use Rattle.hp_tree.specs.declared.program.Item.TheVariants.{TypeItem, NodeItem}
use Rattle.law_controlled.specs.Headed.{HeadedLaw}
use Rattle.hp_driver.specs.Compiled.{IsCompiled}
use Rattle.hp_driver.specs.Sweeping.{HasTasks, tasks_name, tasks_text}
use Rattle.hp_driver.proofs.TextTokens.{tokens_are, tokens_computed}

-- ---- what is computed

abbrev is_node : ℕ → Option Node → Bool
is_node tasks None = false
is_node tasks (Some n) = nat_eq (length n.inputs) (2 * tasks) && nat_eq (length n.outputs) (2 * tasks)

abbrev is_read : ℕ → Outcome (List Item) → Bool
is_read tasks (done program rest) = is_node tasks (node_among program tasks_name)
is_read tasks (refused fault rest) = false

abbrev is_lexed : ℕ → Option (List Token) → Bool
is_lexed tasks None = false
is_lexed tasks (Some tokens) = is_read tasks (read_program (lexemes (tasks_text tasks) tokens))

-- the text of so many tasks is read, and that of each number below
abbrev are_read : ℕ → Bool
are_read zero = true
are_read (suc n) = is_lexed (suc n) (tokens_computed (tasks_text (suc n))) && are_read n

all_are_read : are_read 8 ≡ true
all_are_read = refl

each_read : (n : ℕ) → are_read n ≡ true → (tasks : ℕ) → 1 ≤ tasks → tasks ≤ n → is_lexed tasks (tokens_computed (tasks_text tasks)) ≡ true
each_read zero e tasks some few = absurd (omega (arith, some, few))
each_read (suc n) e tasks some few =
    let parts = and_parts (is_lexed (suc n) (tokens_computed (tasks_text (suc n)))) (are_read n) e in
    elim (cases_lt n tasks) [
      | inl h ↦ let same : suc n ≡ tasks = omega (arith, h, few) in subst (λ k. is_lexed k (tokens_computed (tasks_text k)) ≡ true) same parts.0
      | inr h ↦ each_read n parts.1 tasks some h
    ]

-- ---- what that says

-- A program has the node of the tasks, with so many inputs and outputs.
record HasNode (many : ℕ) (program : List Item) : Type 0 where
  pub node : Node
  pub named : node_among program tasks_name ≡ Some node
  pub inputs : length node.inputs ≡ many
  pub outputs : length node.outputs ≡ many

node_by : (tasks : ℕ) (program : List Item) (found : Option Node) → node_among program tasks_name ≡ found → is_node tasks found ≡ true → HasNode (2 * tasks) program
node_by tasks program None named e = absurd (cc)
node_by tasks program (Some n) named e =
    let parts = and_parts (nat_eq (length n.inputs) (2 * tasks)) (nat_eq (length n.outputs) (2 * tasks)) e in
    record { node = n; named = named; inputs = grind (arith, nat_tests, parts.0); outputs = grind (arith, nat_tests, parts.1) }

read_by : (tasks : ℕ) (outcome : Outcome (List Item)) → is_read tasks outcome ≡ true → (program : List Item) → outcome ≡ done program [] → HasNode (2 * tasks) program
read_by tasks (refused fault rest) e program is = absurd (cc)
read_by tasks (done other rest) e program is =
    let same : other ≡ program = cc in
    node_by tasks program (node_among program tasks_name) refl (subst (λ p. is_node tasks (node_among p tasks_name) ≡ true) same e)

lexed_by : (tasks : ℕ) (computed : Option (List Token)) → is_lexed tasks computed ≡ true
    → (tokens : List Token) × (computed ≡ Some tokens) × (is_read tasks (read_program (lexemes (tasks_text tasks) tokens)) ≡ true)
lexed_by tasks None e = absurd (cc)
lexed_by tasks (Some tokens) e = (tokens, refl, e)

-- the one program of the text
has_node : (tasks : ℕ) → 1 ≤ tasks → tasks ≤ 8 → (program : List Item) → IsProgramOf (tasks_text tasks) program → HasNode (2 * tasks) program
has_node tasks some few program is =
    let text = tasks_text tasks in
    let lexed = lexed_by tasks (tokens_computed text) (each_read 8 all_are_read tasks some few) in
    let same : is.tokens ≡ lexed.0 = tokens_are text is.tokens lexed.0 is.spelled lexed.1 in
    let reads = subst (λ tokens. read_program (lexemes text tokens) ≡ done program []) same (reads_program (lexemes text is.tokens) program is.read) in
    read_by tasks (read_program (lexemes text lexed.0)) lexed.2 program reads

-- ---- once it is arranged

module _ (P : Node → Assignment → Type 0) (name : List ℕ) (n : Node) where
  -- a node of that name, with as many inputs and outputs
  record IsLike (program : List Item) : Type 0 where
    pub node : Node
    pub named : node_among program name ≡ Some node
    pub inputs : length node.inputs ≡ length n.inputs
    pub outputs : length node.outputs ≡ length n.outputs

  like_found : (k m : Node) (rest : List Item) → bytes_eq m.name name ≡ true → k ≡ n → length m.inputs ≡ length k.inputs → length m.outputs ≡ length k.outputs → IsLike (NodeItem m ∷ rest)
  like_found k m rest found same inputs outputs = record {
    node = m;
    named = ap (λ b. if b then Some m else node_among rest name) found;
    inputs = inputs ∙ ap (λ (x : Node). length x.inputs) same;
    outputs = outputs ∙ ap (λ (x : Node). length x.outputs) same;
  }

  like_behind : (m : Node) (rest : List Item) → bytes_eq m.name name ≡ false → IsLike rest → IsLike (NodeItem m ∷ rest)
  like_behind m rest other like = record {
    node = like.node;
    named = ap (λ b. if b then Some m else node_among rest name) other ∙ like.named;
    inputs = like.inputs;
    outputs = like.outputs;
  }

  like_by : (k m : Node) (items rest : List Item) (b : Bool) → bytes_eq k.name name ≡ b → (if bytes_eq k.name name then Some k else node_among items name) ≡ Some n → m.name ≡ k.name
      → length m.inputs ≡ length k.inputs → length m.outputs ≡ length k.outputs → (node_among items name ≡ Some n → IsLike rest) → IsLike (NodeItem m ∷ rest)
  like_by k m items rest true found e named inputs outputs behind =
      let here : Some k ≡ Some n = ap (λ b. if b then Some k else node_among items name) (sym found) ∙ e in
      let same : k ≡ n = cc in
      like_found k m rest (ap (λ x. bytes_eq x name) named ∙ found) same inputs outputs
  like_by k m items rest false other e named inputs outputs behind =
      like_behind m rest (ap (λ x. bytes_eq x name) named ∙ other) (behind (ap (λ b. if b then Some k else node_among items name) (sym other) ∙ e))

  like : (nodes : List ℕ → Node) (program arranged : List Item) → AreWritten P (replaced_items nodes program) arranged → node_among program name ≡ Some n → IsLike arranged
  like nodes [] arranged w e = absurd (cc)
  like nodes (TypeItem t ∷ items) [] w e = absurd w
  like nodes (TypeItem t ∷ items) (y ∷ ys) w e =
      let rest = like nodes items ys w.1 e in
      subst (λ z. IsLike (z ∷ ys)) (sym w.0) (record { node = rest.node; named = rest.named; inputs = rest.inputs; outputs = rest.outputs })
  like nodes (NodeItem k ∷ items) [] w e = absurd w
  like nodes (NodeItem k ∷ items) (y ∷ ys) w e =
      let m = node_with_clocks w.0.0 (replaced_node nodes k) in
      let rest = like (with_node nodes (replaced_node nodes k)) items ys w.1 in
      subst (λ z. IsLike (z ∷ ys)) (sym w.0.2) (like_by k m items ys (bytes_eq k.name name) refl e refl (length-map k.inputs base_written) (length-map k.outputs base_written) rest)

-- ---- its machine

pub has_tasks : HeadedLaw → (tasks : ℕ) → 1 ≤ tasks → tasks ≤ 8 → (o : Obc) → IsCompiled (tasks_text tasks) o → HasTasks (2 * tasks) o
has_tasks law tasks some few o c =
    let found = has_node tasks some few c.program c.found.judged.program_of in
    let at = like _ tasks_name found.node no_node c.program c.ordered c.found.arranged.clocks found.named in
    let chosen = (law c.ordered o c.machines.machines tasks_name at.node at.named).0 in
    let var : Decl → Var = λ d. record { name = d.name; ty = d.ty } in
    record {
      machine = chosen.machine;
      named = chosen.named;
      inputs = ap (λ (h : Heading). length h.inputs) chosen.headed ∙ length-map at.node.inputs var ∙ at.inputs ∙ found.inputs;
      outputs = ap (λ (h : Heading). length h.outputs) chosen.headed ∙ length-map at.node.outputs var ∙ at.outputs ∙ found.outputs;
    }
