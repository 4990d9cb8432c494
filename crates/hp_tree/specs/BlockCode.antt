-- Blocks are coded as binary trees, from which they are read back.
use Rattle.std.specs.Prelude.{◌≡◌, ℕ, Bool, true, false, List, [], ◌⊎◌}
use Rattle.std.specs.Coded.{Coded, code_by, coded×, coded⊎, coded_ℕ, coded_bool, coded_list}
use Rattle.std.proofs.Common.{refl, ap, inl, inr}
use Rattle.hp_base.specs.declared.span.Span.{Span}
use Rattle.hp_base.specs.contracts.span.Span as span
use Rattle.hp_tree.specs.declared.decl.Cons.{Cons}
use Rattle.hp_tree.specs.contracts.decl.Cons as cons
use Rattle.hp_tree.specs.declared.block.Trans.{Trans}
use Rattle.hp_tree.specs.contracts.block.Trans as trans
use Rattle.hp_tree.specs.Expressions.{Expr}
use Rattle.hp_tree.specs.ExpressionCode.{expr_code}
use Rattle.hp_tree.specs.DeclCode.{decl_code}
use Rattle.hp_tree.specs.Blocks.{Decl, Block, Eqns, Eqn, Arms, States, block, no_eqn, more_eqns, define, switch, reset, automaton, no_arm, more_arms, no_state, more_states}
use Rattle.hp_base.specs.Coding.{Coding, leaf, fork, coded_coding}

abbrev Bytes : Type 0
Bytes = List ℕ

abbrev bytes : Coded Bytes
bytes = coded_list coded_ℕ

-- what an equation has beside its blocks; the truth value is true for a `switch`, false for a `reset`
abbrev Line : Type 0
Line = (Span × (List (Bytes × Span) × Expr)) ⊎ ((Span × (Expr × Bool)) ⊎ Span)

abbrev line_code : Coded Line
line_code = coded⊎
    (coded× span.the_row.coded (coded× (coded_list (coded× bytes span.the_row.coded)) expr_code))
    (coded⊎ (coded× span.the_row.coded (coded× expr_code coded_bool)) span.the_row.coded)

-- what an arm or a state has beside its body
abbrev Head : Type 0
Head = (Cons × Span) ⊎ (Bytes × (List Trans × (List Trans × Span)))

abbrev head_code : Coded Head
head_code = coded⊎
    (coded× cons.the_row.coded span.the_row.coded)
    (coded× bytes (coded× (coded_list trans.the_row.coded) (coded× (coded_list trans.the_row.coded) span.the_row.coded)))

-- what stands at a place of the tree: the declarations of a block, an equation, an arm or a state
abbrev Label : Type 0
Label = List Decl ⊎ (Line ⊎ Head)

abbrev label_code : Coded Label
label_code = coded⊎ (coded_list decl_code) (coded⊎ line_code head_code)

abbrev T : Type 0
T = Coding Label

abbrev mutual
  to_block : Block → T
  to_block (block ds es) = fork (inl ds) (to_eqns es) leaf

  to_eqns : Eqns → T
  to_eqns no_eqn = leaf
  to_eqns (more_eqns e es) = fork (inl []) (to_eqn e) (to_eqns es)

  to_eqn : Eqn → T
  to_eqn (define s xs e) = fork (inr (inl (inl (s, (xs, e))))) leaf leaf
  to_eqn (switch s e arms) = fork (inr (inl (inr (inl (s, (e, true)))))) (to_arms arms) leaf
  to_eqn (reset s b e) = fork (inr (inl (inr (inl (s, (e, false)))))) (to_block b) leaf
  to_eqn (automaton s qs) = fork (inr (inl (inr (inr s)))) (to_states qs) leaf

  to_arms : Arms → T
  to_arms no_arm = leaf
  to_arms (more_arms c b s arms) = fork (inr (inr (inl (c, s)))) (to_block b) (to_arms arms)

  to_states : States → T
  to_states no_state = leaf
  to_states (more_states x b until unless s qs) = fork (inr (inr (inr (x, (until, (unless, s)))))) (to_block b) (to_states qs)

-- what is read where no equation stands
abbrev nothing : Eqn
nothing = automaton (record { line = 0; col = 0; end = 0 }) no_state

abbrev mutual
  from_block : T → Block
  from_block leaf = block [] no_eqn
  from_block (fork (inl ds) l r) = block ds (from_eqns l)
  from_block (fork (inr m) l r) = block [] no_eqn

  from_eqns : T → Eqns
  from_eqns leaf = no_eqn
  from_eqns (fork m l r) = more_eqns (from_eqn l) (from_eqns r)

  from_eqn : T → Eqn
  from_eqn leaf = nothing
  from_eqn (fork (inl ds) l r) = nothing
  from_eqn (fork (inr (inl (inl (s, (xs, e))))) l r) = define s xs e
  from_eqn (fork (inr (inl (inr (inl (s, (e, true)))))) l r) = switch s e (from_arms l)
  from_eqn (fork (inr (inl (inr (inl (s, (e, false)))))) l r) = reset s (from_block l) e
  from_eqn (fork (inr (inl (inr (inr s)))) l r) = automaton s (from_states l)
  from_eqn (fork (inr (inr h)) l r) = nothing

  from_arms : T → Arms
  from_arms leaf = no_arm
  from_arms (fork (inl ds) l r) = no_arm
  from_arms (fork (inr (inl m)) l r) = no_arm
  from_arms (fork (inr (inr (inl (c, s)))) l r) = more_arms c (from_block l) s (from_arms r)
  from_arms (fork (inr (inr (inr h))) l r) = no_arm

  from_states : T → States
  from_states leaf = no_state
  from_states (fork (inl ds) l r) = no_state
  from_states (fork (inr (inl m)) l r) = no_state
  from_states (fork (inr (inr (inl h))) l r) = no_state
  from_states (fork (inr (inr (inr (x, (until, (unless, s)))))) l r) = more_states x (from_block l) until unless s (from_states r)

mutual
  pub block_back : (b : Block) → from_block (to_block b) ≡ b
  block_back (block ds es) = ap (block ds) (eqns_back es)

  eqns_back : (es : Eqns) → from_eqns (to_eqns es) ≡ es
  eqns_back no_eqn = refl
  eqns_back (more_eqns e es) = λ i. more_eqns (eqn_back e i) (eqns_back es i)

  eqn_back : (e : Eqn) → from_eqn (to_eqn e) ≡ e
  eqn_back (define s xs e) = refl
  eqn_back (switch s e arms) = ap (switch s e) (arms_back arms)
  eqn_back (reset s b e) = ap (λ c. reset s c e) (block_back b)
  eqn_back (automaton s qs) = ap (automaton s) (states_back qs)

  arms_back : (arms : Arms) → from_arms (to_arms arms) ≡ arms
  arms_back no_arm = refl
  arms_back (more_arms c b s arms) = λ i. more_arms c (block_back b i) s (arms_back arms i)

  states_back : (qs : States) → from_states (to_states qs) ≡ qs
  states_back no_state = refl
  states_back (more_states x b until unless s qs) = λ i. more_states x (block_back b i) until unless s (states_back qs i)

abbrev pub block_code : Coded Block
block_code = code_by T (coded_coding label_code) to_block from_block block_back
