-- The cells of locals and of right sides, and those by which names are seen, are cells of variables.
use Rattle.std.proofs.lemmas.List.Elements.{All-append, All-cons}
use Rattle.std.proofs.Common.{get_or, ℕ, ◌+◌, ◌<◌, ◌≤◌, List, [], ◌∷◌, ◌++◌, length, map, arith}
use Rattle.std.specs.Prelude.{Bool, true, false, ◌||◌, if◌then◌else◌, Option, None, Some, All}
use Rattle.std.specs.Str.{bytes_eq}
use Rattle.hp_base.specs.declared.ty.Const.{Const}
use Rattle.hp_tree.specs.declared.block.Trans.{Trans}
use Rattle.hp_tree.specs.Expressions.{Expr}
use Rattle.hp_tree.specs.Blocks.{Decl, Block, block, Eqns, no_eqn, more_eqns, Eqn, define, switch, reset, automaton, Arms, no_arm, more_arms, States, no_state, more_states}
use Rattle.hp_tree.specs.Programs.{Contract, Node}
use Rattle.hp_tree.specs.Meaning.{declares, some_defines}
use Rattle.hp_meaning.specs.Clocking.Clocking.{controls_define}
use Rattle.hp_clocks.specs.declared.layer.Seen.{Seen}
use Rattle.hp_clocks.specs.declared.layer.Seen.TheVariants as seen
use Rattle.hp_clocks.specs.Scopes.{Sight, IsThere, AreThere}
use Rattle.hp_clocks.specs.Units.{size, size_of, size_of_all, size_of_arms, size_of_states, size_of_contract, size_of_node, number_in, or_base, local_cell, cell_of, cell_in, from_inside, sight_of, on_base, locals, locals_in_all, locals_in_one, locals_in_arms, locals_in_states, locals_of_contract, locals_of_node, rights, rights_in_all, rights_in_one, rights_in_arms, rights_in_states, rights_told, rights_of_contract, rights_of_node, tests, test_of}
use Rattle.hp_clocks.specs.Putting.{own_size, own_locals, interface_sight}

pub all_none : {A : Type 0} (P : A → Type 0) → All P []
all_none P k d h = absurd (omega (arith, h))

pub all_wider : {A : Type 0} (P Q : A → Type 0) (xs : List A) → ((x : A) → P x → Q x) → All P xs → All Q xs
all_wider P Q xs f h k d l = f (get_or xs k d) (h k d l)

module _ (n : ℕ) (some : 0 < n) where
  both_cells : (xs ys : List ℕ) → All (λ i. i < n) xs → All (λ i. i < n) ys → All (λ i. i < n) (xs ++ ys)
  both_cells xs ys h k = All-append (λ i. i < n) xs ys h k

  both_rights : (xs ys : List (ℕ × Expr)) → All (λ r. r.0 < n) xs → All (λ r. r.0 < n) ys → All (λ r. r.0 < n) (xs ++ ys)
  both_rights xs ys h k = All-append (λ (r : ℕ × Expr). r.0 < n) xs ys h k

  number_below : (k : ℕ) (ds : List Decl) (x : List ℕ) → k + length ds ≤ n → or_base (number_in k ds x) < n
  number_below k [] x h = some
  number_below k (d ∷ ds) x h = tie (bytes_eq d.name x) (number_below (k + 1) ds x (omega (arith, h)))
    where
      tie : (b : Bool) → or_base (number_in (k + 1) ds x) < n → or_base (if b then Some k else number_in (k + 1) ds x) < n
      tie true g = omega (arith, h)
      tie false g = g

  local_below : (last : Option Const) (defined : Bool) (i : ℕ) → i < n → local_cell last defined i < n
  local_below None true i h = some
  local_below None false i h = h
  local_below (Some c) defined i h = some

  cell_below : (es : Eqns) (k : ℕ) (all : List Decl) → k + length all ≤ n → (d : Decl) → cell_of es k all d < n
  cell_below es k all h d = local_below d.last (controls_define es d.name) (or_base (number_in k all d.name)) (number_below k all d.name h)

  in_below : (es : Eqns) (k : ℕ) (all : List Decl) → k + length all ≤ n → (ds : List Decl) (x : List ℕ) → cell_in es k all ds x < n
  in_below es k all h [] x = some
  in_below es k all h (d ∷ ds) x = tie (bytes_eq d.name x) (cell_below es k all h d) (in_below es k all h ds x)
    where
      tie : (b : Bool) → cell_of es k all d < n → cell_in es k all ds x < n → (if b then cell_of es k all d else cell_in es k all ds x) < n
      tie true f g = f
      tie false f g = g

  inside_there : (s : Seen) → IsThere n s → IsThere n (from_inside s)
  inside_there seen.Nowhere h = tt
  inside_there (seen.Own i) h = h
  inside_there (seen.Further i) h = h

  pub sight_there : (k : ℕ) (b : Block) (see : Sight) → k + own_size b ≤ n → AreThere n see → AreThere n (sight_of k b see)
  sight_there k (block ds es) see h there x = tie (some_defines es x)
    where
      tie : (b : Bool) → IsThere n (if b then seen.Own (cell_in es k ds ds x) else from_inside (see x))
      tie true = in_below es k ds h ds x
      tie false = inside_there (see x) (there x)

  based_there : (b : Bool) → IsThere n (on_base b)
  based_there true = some
  based_there false = tt

  pub interface_there : (m : Node) (ds : List Decl) → AreThere n (interface_sight m ds)
  interface_there m ds x = based_there (declares m.inputs x || (declares m.outputs x || declares ds x))

  own_below_by : (es : Eqns) (k : ℕ) (all : List Decl) → k + length all ≤ n → (ds : List Decl) → All (λ i. i < n) (map (λ d. cell_of es k all d) ds)
  own_below_by es k all h [] = all_none (λ i. i < n)
  own_below_by es k all h (d ∷ ds) =
      All-cons (λ i. i < n) (cell_of es k all d) (map (λ e. cell_of es k all e) ds) (cell_below es k all h d) (own_below_by es k all h ds)

  pub own_below : (k : ℕ) (b : Block) → k + own_size b ≤ n → All (λ i. i < n) (own_locals k b)
  own_below k (block ds es) h = own_below_by es k ds h ds

  mutual
    pub locals_below : (b : Block) (k : ℕ) → k + size b ≤ n → All (λ i. i < n) (locals k b)
    locals_below (block ds es) k h =
        both_cells (map (λ d. cell_of es k ds d) ds) (locals_in_all (k + length ds) es) (own_below_by es k ds (omega (arith, h)) ds) (locals_all es (k + length ds) (omega (arith, h)))

    locals_all : (es : Eqns) (k : ℕ) → k + size_of_all es ≤ n → All (λ i. i < n) (locals_in_all k es)
    locals_all no_eqn k h = all_none (λ i. i < n)
    locals_all (more_eqns e es) k h = both_cells (locals_in_one k e) (locals_in_all (k + size_of e) es) (locals_one e k (omega (arith, h))) (locals_all es (k + size_of e) (omega (arith, h)))

    locals_one : (e : Eqn) (k : ℕ) → k + size_of e ≤ n → All (λ i. i < n) (locals_in_one k e)
    locals_one (define s ys e) k h = all_none (λ i. i < n)
    locals_one (switch s e arms) k h = locals_arms arms k h
    locals_one (reset s b e) k h = locals_below b k h
    locals_one (automaton s ss) k h = locals_states ss k h

    locals_arms : (arms : Arms) (k : ℕ) → k + size_of_arms arms ≤ n → All (λ i. i < n) (locals_in_arms k arms)
    locals_arms no_arm k h = all_none (λ i. i < n)
    locals_arms (more_arms c b s arms) k h = both_cells (locals k b) (locals_in_arms (k + size b) arms) (locals_below b k (omega (arith, h))) (locals_arms arms (k + size b) (omega (arith, h)))

    locals_states : (ss : States) (k : ℕ) → k + size_of_states ss ≤ n → All (λ i. i < n) (locals_in_states k ss)
    locals_states no_state k h = all_none (λ i. i < n)
    locals_states (more_states f b until unless s ss) k h =
        both_cells (locals k b) (locals_in_states (k + size b) ss) (locals_below b k (omega (arith, h))) (locals_states ss (k + size b) (omega (arith, h)))

  test_below : (e : Expr) → All (λ r. r.0 < n) (test_of e)
  test_below e = All-cons (λ (r : ℕ × Expr). r.0 < n) (0, e) [] some (all_none (λ r. r.0 < n))

  tests_below : (ts : List Trans) → All (λ r. r.0 < n) (tests ts)
  tests_below [] = all_none (λ r. r.0 < n)
  tests_below (t ∷ ts) = All-cons (λ (r : ℕ × Expr). r.0 < n) (0, t.cond) (tests ts) some (tests_below ts)

  mutual
    pub rights_below : (b : Block) (k : ℕ) → k + size b ≤ n → All (λ r. r.0 < n) (rights k b)
    rights_below (block ds es) k h = rights_all es (k + length ds) (omega (arith, h))

    rights_all : (es : Eqns) (k : ℕ) → k + size_of_all es ≤ n → All (λ r. r.0 < n) (rights_in_all k es)
    rights_all no_eqn k h = all_none (λ r. r.0 < n)
    rights_all (more_eqns e es) k h = both_rights (rights_in_one k e) (rights_in_all (k + size_of e) es) (rights_one e k (omega (arith, h))) (rights_all es (k + size_of e) (omega (arith, h)))

    rights_one : (e : Eqn) (k : ℕ) → k + size_of e ≤ n → All (λ r. r.0 < n) (rights_in_one k e)
    rights_one (define s ys e) k h = All-cons (λ (r : ℕ × Expr). r.0 < n) (k, e) [] (omega (arith, h)) (all_none (λ r. r.0 < n))
    rights_one (switch s e arms) k h = both_rights (test_of e) (rights_in_arms k arms) (test_below e) (rights_arms arms k h)
    rights_one (reset s b e) k h = both_rights (rights k b) (test_of e) (rights_below b k h) (test_below e)
    rights_one (automaton s ss) k h = rights_states ss k h

    rights_arms : (arms : Arms) (k : ℕ) → k + size_of_arms arms ≤ n → All (λ r. r.0 < n) (rights_in_arms k arms)
    rights_arms no_arm k h = all_none (λ r. r.0 < n)
    rights_arms (more_arms c b s arms) k h = both_rights (rights k b) (rights_in_arms (k + size b) arms) (rights_below b k (omega (arith, h))) (rights_arms arms (k + size b) (omega (arith, h)))

    rights_states : (ss : States) (k : ℕ) → k + size_of_states ss ≤ n → All (λ r. r.0 < n) (rights_in_states k ss)
    rights_states no_state k h = all_none (λ r. r.0 < n)
    rights_states (more_states f b until unless s ss) k h =
        both_rights (rights k b) (tests until ++ (tests unless ++ rights_in_states (k + size b) ss)) (rights_below b k (omega (arith, h)))
        (both_rights (tests until) (tests unless ++ rights_in_states (k + size b) ss) (tests_below until)
        (both_rights (tests unless) (rights_in_states (k + size b) ss) (tests_below unless) (rights_states ss (k + size b) (omega (arith, h)))))

  told_below : (e : Option Expr) → All (λ r. r.0 < n) (rights_told e)
  told_below None = all_none (λ r. r.0 < n)
  told_below (Some e) = test_below e

  contract_locals_below : (c : Option Contract) → 1 + size_of_contract c ≤ n → All (λ i. i < n) (locals_of_contract c)
  contract_locals_below None h = all_none (λ i. i < n)
  contract_locals_below (Some c) h = locals_below c.body 1 h

  pub node_locals_below : (m : Node) → 1 + size_of_node m ≤ n → All (λ i. i < n) (locals_of_node m)
  node_locals_below m h =
      both_cells (locals_of_contract m.contract) (locals (1 + size_of_contract m.contract) m.body) (contract_locals_below m.contract (omega (arith, h))) (locals_below m.body (1 + size_of_contract m.contract) (omega (arith, h)))

  contract_rights_below : (c : Option Contract) → 1 + size_of_contract c ≤ n → All (λ r. r.0 < n) (rights_of_contract c)
  contract_rights_below None h = all_none (λ r. r.0 < n)
  contract_rights_below (Some c) h =
      both_rights (rights 1 c.body) (rights_told c.assume ++ rights_told c.enforce) (rights_below c.body 1 h) (both_rights (rights_told c.assume) (rights_told c.enforce) (told_below c.assume) (told_below c.enforce))

  pub node_rights_below : (m : Node) → 1 + size_of_node m ≤ n → All (λ r. r.0 < n) (rights_of_node m)
  node_rights_below m h =
      both_rights (rights_of_contract m.contract) (rights (1 + size_of_contract m.contract) m.body) (contract_rights_below m.contract (omega (arith, h))) (rights_below m.body (1 + size_of_contract m.contract) (omega (arith, h)))
