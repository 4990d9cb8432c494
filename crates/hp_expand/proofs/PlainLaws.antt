-- A program without inlined calls stays as it is.
use Rattle.std.proofs.Common.{◌≡◌, ℕ, ◌+◌, Bool, true, false, ◌&&◌, if◌then◌else◌, map, List, [], ◌∷◌, Option, None, Some, option_map, refl, ap, ◌∙◌}
use Rattle.std.proofs.lemmas.List.{append-nil}
use Rattle.std.specs.Str.{bytes_eq}
use Rattle.hp_base.specs.declared.span.Span.{Span}
use Rattle.hp_tree.specs.declared.decl.Cons.{Cons}
use Rattle.hp_tree.specs.declared.block.Trans.{Trans}
use Rattle.hp_tree.specs.declared.program.Item.{Item}
use Rattle.hp_tree.specs.declared.program.Item.TheVariants.{TypeItem, NodeItem}
use Rattle.hp_tree.specs.Expressions.{Expr, constant, variable, last_of, one, two, choose, pre, fby, arrow, when_is, merge, call, Exprs, no_expr, more_exprs, Parts, no_part, more_parts}
use Rattle.hp_tree.specs.Blocks.{Decl, Block, block, Eqns, no_eqn, more_eqns, Eqn, define, switch, reset, automaton, Arms, no_arm, more_arms, States, no_state, more_states, eqns_of, list_of_eqns}
use Rattle.hp_tree.specs.Programs.{Contract, Node}
use Rattle.hp_expand.specs.NewNames.{is_new, numbered_name}
use Rattle.hp_expand.specs.Renaming.{renamed, renamed_exprs, renamed_parts, renamed_path, renamed_decl, renamed_decls, renamed_transition}
use Rattle.hp_expand.specs.Replacing.{Replaced, unchanged, in_expr, in_exprs, in_parts, in_definition, in_condition}
use Rattle.hp_expand.specs.Replacing as new
use Rattle.hp_expand.specs.Numbering.{same_name, one_if_new, declaring_one, declaring, new_in_decls, declaring_in, behind, numbered, replaced_node, with_node, replaced_items}
use Rattle.hp_expand.specs.Numbering as numbering
use Rattle.hp_expand.specs.Plain.{IsPlain, AllArePlain, PartsArePlain, BlockIsPlain, EqnsArePlain, EqnIsPlain, ArmsArePlain, StatesArePlain, ConditionIsPlain, ContractIsPlain, NodeIsPlain, ItemsArePlain, AllAreOld, BlockIsOld, EqnsAreOld, EqnIsOld, ArmsAreOld, StatesAreOld, ContractIsOld, ItemsAreOld, PlainStays}

-- ---- renaming by the names as they are

map_same : {A : Type 0} (f : A → A) (same : (x : A) → f x ≡ x) (xs : List A) → map f xs ≡ xs
map_same f same [] = refl
map_same f same (x ∷ xs) = λ j. same x j ∷ map_same f same xs j

step_same : (s : Cons × List ℕ) → (s.0, s.1) ≡ s
step_same s = refl

left_same : (s : List ℕ × Span) → (s.0, s.1) ≡ s
left_same s = refl

path_same : (o : Option (List (Cons × List ℕ))) → option_map (renamed_path same_name) o ≡ o
path_same None = refl
path_same (Some path) = ap Some (map_same (λ (s : Cons × List ℕ). (s.0, same_name s.1)) step_same path)

decl_same : (d : Decl) → renamed_decl same_name d ≡ d
decl_same d = λ j. record d { clock = path_same d.clock j }

decls_same : (ds : List Decl) → renamed_decls same_name ds ≡ ds
decls_same = map_same (renamed_decl same_name) decl_same

mutual
  expr_same : (e : Expr) → renamed same_name e ≡ e
  expr_same (constant at c) = refl
  expr_same (variable at x) = refl
  expr_same (last_of at x) = refl
  expr_same (one at op a) = ap (one at op) (expr_same a)
  expr_same (two at op a b) = λ j. two at op (expr_same a j) (expr_same b j)
  expr_same (choose at a b c) = λ j. choose at (expr_same a j) (expr_same b j) (expr_same c j)
  expr_same (pre at a) = ap (pre at) (expr_same a)
  expr_same (fby at a b) = λ j. fby at (expr_same a j) (expr_same b j)
  expr_same (arrow at a b) = λ j. arrow at (expr_same a j) (expr_same b j)
  expr_same (when_is at a c x) = ap (λ e. when_is at e c x) (expr_same a)
  expr_same (merge at x ps) = ap (merge at x) (parts_same ps)
  expr_same (call at f inlined es) = ap (call at f inlined) (exprs_same es)

  exprs_same : (es : Exprs) → renamed_exprs same_name es ≡ es
  exprs_same no_expr = refl
  exprs_same (more_exprs e es) = λ j. more_exprs (expr_same e j) (exprs_same es j)

  parts_same : (ps : Parts) → renamed_parts same_name ps ≡ ps
  parts_same no_part = refl
  parts_same (more_parts c e ps) = λ j. more_parts c (expr_same e j) (parts_same ps j)

transition_same : (t : Trans) → renamed_transition same_name t ≡ t
transition_same t = λ j. record t { cond = expr_same t.cond j }

condition_same : (o : Option Expr) → option_map (renamed same_name) o ≡ o
condition_same None = refl
condition_same (Some e) = ap Some (expr_same e)

-- ---- nothing new is declared

by_old : (to : List ℕ → List ℕ) (k : ℕ) (y x : List ℕ) (b : Bool) → b ≡ false → (if b && bytes_eq y x then numbered_name x k else to x) ≡ to x
by_old to k y x true h = absurd cc
by_old to k y x false h = refl

declaring_old : (ds : List Decl) (to : List ℕ → List ℕ) (k : ℕ) → AllAreOld ds → declaring to k ds ≡ to
declaring_old [] to k h = refl
declaring_old (d ∷ ds) to k h =
    ap (λ f. declaring f (k + one_if_new d.name) ds) (λ j x. by_old to k d.name x (is_new d.name) h.0 j) ∙ declaring_old ds to (k + one_if_new d.name) h.1

-- ---- numbering

mutual
  block_numbered : (k : ℕ) (b : Block) → BlockIsOld b → numbering.in_block same_name k b ≡ b
  block_numbered k (block ds es) h =
      let to = declaring_old ds same_name k h.0 in
      (λ j. block (renamed_decls (to j) ds) (numbering.in_eqns (to j) (k + new_in_decls ds) es))
      ∙ (λ j. block (decls_same ds j) (eqns_numbered (k + new_in_decls ds) es h.1 j))

  eqns_numbered : (k : ℕ) (es : Eqns) → EqnsAreOld es → numbering.in_eqns same_name k es ≡ es
  eqns_numbered k no_eqn h = refl
  eqns_numbered k (more_eqns e es) h = λ j. more_eqns (eqn_numbered k e h.0 j) (eqns_numbered (k + numbering.new_in_eqn e) es h.1 j)

  eqn_numbered : (k : ℕ) (e : Eqn) → EqnIsOld e → numbering.in_eqn same_name k e ≡ e
  eqn_numbered k (define s xs e) h = λ j. define s (map_same (λ (x : List ℕ × Span). (same_name x.0, x.1)) left_same xs j) (expr_same e j)
  eqn_numbered k (switch s e arms) h = λ j. switch s (expr_same e j) (arms_numbered k arms h j)
  eqn_numbered k (reset s b e) h = λ j. reset s (block_numbered k b h j) (expr_same e j)
  eqn_numbered k (automaton s qs) h = ap (automaton s) (states_numbered k qs h)

  arms_numbered : (k : ℕ) (arms : Arms) → ArmsAreOld arms → numbering.in_arms same_name k arms ≡ arms
  arms_numbered k no_arm h = refl
  arms_numbered k (more_arms c b at arms) h = λ j. more_arms c (block_numbered k b h.0 j) at (arms_numbered (k + numbering.new_in_block b) arms h.1 j)

  states_numbered : (k : ℕ) (qs : States) → StatesAreOld qs → numbering.in_states same_name k qs ≡ qs
  states_numbered k no_state h = refl
  states_numbered k (more_states x (block ds es) until unless at qs) h =
      let to = declaring_old ds same_name k h.0.0 in
      let rest = k + (new_in_decls ds + numbering.new_in_eqns es) in
      (λ j. more_states x (block (renamed_decls (to j) ds) (numbering.in_eqns (to j) (k + new_in_decls ds) es)) (map (renamed_transition (to j)) until) (map (renamed_transition same_name) unless) at
      (numbering.in_states same_name rest qs))
      ∙ (λ j. more_states x (block (decls_same ds j) (eqns_numbered (k + new_in_decls ds) es h.0.1 j)) (map_same (renamed_transition same_name) transition_same until j)
      (map_same (renamed_transition same_name) transition_same unless j) at (states_numbered rest qs h.1 j))

said_old : (b : Block) → BlockIsOld b → declaring_in b ≡ same_name
said_old (block ds es) h = declaring_old ds same_name 1 h.0

contract_numbered : (c : Option Contract) → ContractIsOld c → option_map numbering.in_contract c ≡ c
contract_numbered None h = refl
contract_numbered (Some c) h =
    let to = said_old c.body h in
    (λ j. Some (record c { body = block_numbered 1 c.body h j; assume = option_map (renamed (to j)) c.assume; enforce = option_map (renamed (to j)) c.enforce }))
    ∙ (λ j. Some (record c { assume = condition_same c.assume j; enforce = condition_same c.enforce j }))

node_numbered : (n : Node) → ContractIsOld n.contract × BlockIsOld n.body → numbered n ≡ n
node_numbered n h = λ j. record n { contract = contract_numbered n.contract h.0 j; body = block_numbered (behind n.contract) n.body h.1 j }

-- ---- replacing

eqns_back : (es : Eqns) → eqns_of (list_of_eqns es) ≡ es
eqns_back no_eqn = refl
eqns_back (more_eqns e es) = ap (more_eqns e) (eqns_back es)

module _ (nodes : List ℕ → Node) where
  both_plain : {C : Type 0} (k : ℕ) (f : Expr → Expr → C) (a b : Expr) → in_expr nodes k a ≡ unchanged k a → in_expr nodes k b ≡ unchanged k b
      → new.beside f (in_expr nodes k a) (in_expr nodes (in_expr nodes k a).next b) ≡ unchanged k (f a b)
  both_plain k f a b h g = ap (λ (r : Replaced Expr). new.beside f r (in_expr nodes r.next b)) h ∙ ap (λ (r : Replaced Expr). new.beside f (unchanged k a) r) g

  mutual
    expr_plain : (k : ℕ) (e : Expr) → IsPlain e → in_expr nodes k e ≡ unchanged k e
    expr_plain k (constant at c) h = refl
    expr_plain k (variable at x) h = refl
    expr_plain k (last_of at x) h = refl
    expr_plain k (one at op a) h = ap (new.under (one at op)) (expr_plain k a h)
    expr_plain k (two at op a b) h = both_plain k (two at op) a b (expr_plain k a h.0) (expr_plain k b h.1)
    expr_plain k (choose at a b c) h =
        ap (λ (r : Replaced Expr). new.beside (λ (x : Expr) (p : Expr × Expr). choose at x p.0 p.1) r (new.beside (λ (y z : Expr). (y, z)) (in_expr nodes r.next b) (in_expr nodes (in_expr nodes r.next b).next c))) (expr_plain k a h.0)
        ∙ ap (λ (r : Replaced (Expr × Expr)). new.beside (λ (x : Expr) (p : Expr × Expr). choose at x p.0 p.1) (unchanged k a) r) (both_plain k (λ (y z : Expr). (y, z)) b c (expr_plain k b h.1.0) (expr_plain k c h.1.1))
    expr_plain k (pre at a) h = ap (new.under (pre at)) (expr_plain k a h)
    expr_plain k (fby at a b) h = both_plain k (fby at) a b (expr_plain k a h.0) (expr_plain k b h.1)
    expr_plain k (arrow at a b) h = both_plain k (arrow at) a b (expr_plain k a h.0) (expr_plain k b h.1)
    expr_plain k (when_is at a c x) h = ap (new.under (λ e. when_is at e c x)) (expr_plain k a h)
    expr_plain k (merge at x ps) h = ap (new.under (merge at x)) (parts_plain k ps h)
    expr_plain k (call at f true es) h = absurd cc
    expr_plain k (call at f false es) h = ap (new.under (call at f false)) (exprs_plain k es h.1)

    exprs_plain : (k : ℕ) (es : Exprs) → AllArePlain es → in_exprs nodes k es ≡ unchanged k es
    exprs_plain k no_expr h = refl
    exprs_plain k (more_exprs e es) h =
        ap (λ (r : Replaced Expr). new.beside more_exprs r (in_exprs nodes r.next es)) (expr_plain k e h.0) ∙ ap (λ (r : Replaced Exprs). new.beside more_exprs (unchanged k e) r) (exprs_plain k es h.1)

    parts_plain : (k : ℕ) (ps : Parts) → PartsArePlain ps → in_parts nodes k ps ≡ unchanged k ps
    parts_plain k no_part h = refl
    parts_plain k (more_parts c e ps) h =
        ap (λ (r : Replaced Expr). new.beside (more_parts c) r (in_parts nodes r.next ps)) (expr_plain k e h.0) ∙ ap (λ (r : Replaced Parts). new.beside (more_parts c) (unchanged k e) r) (parts_plain k ps h.1)

  alone : (k : ℕ) (s : Span) (xs : List (List ℕ × Span)) (e : Expr) → IsPlain e → new.under (λ right. define s xs right ∷ []) (in_expr nodes k e) ≡ unchanged k (define s xs e ∷ [])
  alone k s xs e h = ap (new.under (λ right. define s xs right ∷ [])) (expr_plain k e h)

  definition_plain : (k : ℕ) (s : Span) (xs : List (List ℕ × Span)) (e : Expr) → IsPlain e → in_definition nodes k s xs e ≡ unchanged k (define s xs e ∷ [])
  definition_plain k s xs (constant at c) h = alone k s xs (constant at c) h
  definition_plain k s xs (variable at x) h = alone k s xs (variable at x) h
  definition_plain k s xs (last_of at x) h = alone k s xs (last_of at x) h
  definition_plain k s xs (one at op a) h = alone k s xs (one at op a) h
  definition_plain k s xs (two at op a b) h = alone k s xs (two at op a b) h
  definition_plain k s xs (choose at a b c) h = alone k s xs (choose at a b c) h
  definition_plain k s xs (pre at a) h = alone k s xs (pre at a) h
  definition_plain k s xs (fby at a b) h = alone k s xs (fby at a b) h
  definition_plain k s xs (arrow at a b) h = alone k s xs (arrow at a b) h
  definition_plain k s xs (when_is at a c x) h = alone k s xs (when_is at a c x) h
  definition_plain k s xs (merge at x ps) h = alone k s xs (merge at x ps) h
  definition_plain k s xs (call at f true es) h = absurd cc
  definition_plain k s xs (call at f false es) h = alone k s xs (call at f false es) h

  mutual
    block_plain : (k : ℕ) (b : Block) → BlockIsPlain b → new.in_block nodes k b ≡ unchanged k b
    block_plain k (block ds es) h = ap (new.closed nodes ds) (eqns_plain k es h) ∙ ap (λ l. unchanged k (block l es)) (append-nil ds)

    eqns_plain : (k : ℕ) (es : Eqns) → EqnsArePlain es → new.in_eqns nodes k es ≡ unchanged k es
    eqns_plain k no_eqn h = refl
    eqns_plain k (more_eqns e es) h =
        ap (λ (r : Replaced (List Eqn)). new.placed nodes r (new.in_eqns nodes r.next es)) (eqn_plain k e h.0)
        ∙ ap (λ (r : Replaced Eqns). new.placed nodes (unchanged k (e ∷ [])) r) (eqns_plain k es h.1)
        ∙ ap (λ rest. unchanged k (more_eqns e rest)) (eqns_back es)

    eqn_plain : (k : ℕ) (e : Eqn) → EqnIsPlain e → new.in_eqn nodes k e ≡ unchanged k (e ∷ [])
    eqn_plain k (define s xs e) h = definition_plain k s xs e h
    eqn_plain k (switch s e arms) h =
        ap (λ (r : Replaced Expr). new.holding (λ cond bodies. switch s cond bodies ∷ []) r (new.in_arms nodes r.next arms)) (expr_plain k e h.0)
        ∙ ap (λ (r : Replaced Arms). new.holding (λ cond bodies. switch s cond bodies ∷ []) (unchanged k e) r) (arms_plain k arms h.1)
    eqn_plain k (reset s b e) h =
        ap (λ (r : Replaced Expr). new.holding (λ cond body. reset s body cond ∷ []) r (new.in_block nodes r.next b)) (expr_plain k e h.1)
        ∙ ap (λ (r : Replaced Block). new.holding (λ cond body. reset s body cond ∷ []) (unchanged k e) r) (block_plain k b h.0)
    eqn_plain k (automaton s qs) h = ap (λ (r : Replaced States). unchanged r.next (automaton s r.part ∷ [])) (states_plain k qs h)

    arms_plain : (k : ℕ) (arms : Arms) → ArmsArePlain arms → new.in_arms nodes k arms ≡ unchanged k arms
    arms_plain k no_arm h = refl
    arms_plain k (more_arms c b at arms) h =
        ap (λ (r : Replaced Block). new.holding (λ body rest. more_arms c body at rest) r (new.in_arms nodes r.next arms)) (block_plain k b h.0)
        ∙ ap (λ (r : Replaced Arms). new.holding (λ body rest. more_arms c body at rest) (unchanged k b) r) (arms_plain k arms h.1)

    states_plain : (k : ℕ) (qs : States) → StatesArePlain qs → new.in_states nodes k qs ≡ unchanged k qs
    states_plain k no_state h = refl
    states_plain k (more_states x b until unless at qs) h =
        ap (λ (r : Replaced Block). new.holding (λ body rest. more_states x body until unless at rest) r (new.in_states nodes r.next qs)) (block_plain k b h.0)
        ∙ ap (λ (r : Replaced States). new.holding (λ body rest. more_states x body until unless at rest) (unchanged k b) r) (states_plain k qs h.1)

  condition_plain : (k : ℕ) (o : Option Expr) → ConditionIsPlain o → in_condition nodes k o ≡ unchanged k o
  condition_plain k None h = refl
  condition_plain k (Some e) h = ap (new.under Some) (expr_plain k e h)

  contract_plain : (k : ℕ) (c : Option Contract) → ContractIsPlain c → new.in_contract nodes k c ≡ unchanged k c
  contract_plain k None h = refl
  contract_plain k (Some c) h = by c.body h.0
    where
      by : (b : Block) → BlockIsPlain b → new.in_contract nodes k (Some (record c { body = b })) ≡ unchanged k (Some (record c { body = b }))
      by (block ds es) fits =
          let d = record c { body = block ds es } in
          let a = c.assume in
          let g = c.enforce in
          ap (λ (r : Replaced Eqns). new.under Some (new.with_conditions nodes d ds r (in_condition nodes r.next a) (in_condition nodes (in_condition nodes r.next a).next g))) (eqns_plain k es fits)
          ∙ ap (λ (r : Replaced (Option Expr)). new.under Some (new.with_conditions nodes d ds (unchanged k es) r (in_condition nodes r.next g))) (condition_plain k a h.1.0)
          ∙ ap (λ (r : Replaced (Option Expr)). new.under Some (new.with_conditions nodes d ds (unchanged k es) (unchanged k a) r)) (condition_plain k g h.1.1)
          ∙ (λ j. unchanged k (Some (record d { body = block (append-nil ds j) ((ap eqns_of (append-nil (list_of_eqns es)) ∙ eqns_back es) j) })))

  node_plain : (n : Node) → NodeIsPlain n → new.in_node nodes n ≡ n
  node_plain n h =
      ap (λ (r : Replaced (Option Contract)). record n { contract = r.part; body = (new.in_block nodes r.next n.body).part }) (contract_plain 1 n.contract h.0)
      ∙ ap (λ (r : Replaced Block). record n { body = r.part }) (block_plain 1 n.body h.1)

  pub node_stays : (n : Node) → NodeIsPlain n → ContractIsOld n.contract × BlockIsOld n.body → replaced_node nodes n ≡ n
  node_stays n h old = ap numbered (node_plain n h) ∙ node_numbered n old

items_stay : (program : List Item) (nodes : List ℕ → Node) → ItemsArePlain program → ItemsAreOld program → replaced_items nodes program ≡ program
items_stay [] nodes h old = refl
items_stay (TypeItem t ∷ items) nodes h old = ap (λ more. TypeItem t ∷ more) (items_stay items nodes h old)
items_stay (NodeItem n ∷ items) nodes h old =
    λ j. NodeItem (node_stays nodes n h.0 old.0 j) ∷ items_stay items (with_node nodes (replaced_node nodes n)) h.1 old.1 j

pub plain_law : PlainStays
plain_law program h old = items_stay program numbering.no_node h old
