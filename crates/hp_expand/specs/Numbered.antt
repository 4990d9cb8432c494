-- What is numbered in a block that has been entered.
use Rattle.std.specs.Prelude.{ℕ, ◌+◌, ◌-◌, List, [], ◌∷◌, length, take, map, Option, None, Some, option_map}
use Rattle.hp_tree.specs.Blocks.{Block, block, Eqn, Eqns, more_eqns, Arm, Arms, more_arms, State, States, more_states}
use Rattle.hp_tree.specs.Programs.{Contract}
use Rattle.hp_expand.specs.Renaming.{renamed, renamed_decls, renamed_transition}
use Rattle.hp_expand.specs.Numbering.{declaring, new_in_decls, new_in_eqns, new_in_block, in_block, in_eqns}

-- all but the last
abbrev pub front : {A : Type 0} → List A → List A
front xs = take (length xs - 1) xs

-- a block whose variables are known
abbrev pub entered : (List ℕ → List ℕ) → ℕ → Block → Block
entered to k (block ds es) = block (renamed_decls to ds) (in_eqns to k es)

-- how names are said in a block
abbrev pub said_inside : (List ℕ → List ℕ) → ℕ → Block → List ℕ → List ℕ
said_inside to k (block ds es) = declaring to k ds

-- how many new variables a block declares itself, and how many its equations
abbrev pub own_new : Block → ℕ
own_new (block ds es) = new_in_decls ds

abbrev pub inner_new : Block → ℕ
inner_new (block ds es) = new_in_eqns es

abbrev pub numbered_arm : (List ℕ → List ℕ) → ℕ → Arm → Arm
numbered_arm to k a = record { cons = a.cons; body = in_block to k a.body; span = a.span }

abbrev pub numbered_state : (List ℕ → List ℕ) → ℕ → State → State
numbered_state to k q = record {
  name = q.name;
  body = entered (said_inside to k q.body) (k + own_new q.body) q.body;
  until = map (renamed_transition (said_inside to k q.body)) q.until;
  unless = map (renamed_transition to) q.unless;
  span = q.span;
}

abbrev pub numbered_contract : (List ℕ → List ℕ) → ℕ → Contract → Contract
numbered_contract to k c = record c {
  body = entered (said_inside to k c.body) (k + own_new c.body) c.body;
  assume = option_map (renamed (said_inside to k c.body)) c.assume;
  enforce = option_map (renamed (said_inside to k c.body)) c.enforce;
}

abbrev pub new_in_contract : Option Contract → ℕ
new_in_contract None = 0
new_in_contract (Some c) = new_in_block c.body

-- some elements in front of others
abbrev pub eqns_onto : List Eqn → Eqns → Eqns
eqns_onto [] rest = rest
eqns_onto (e ∷ es) rest = more_eqns e (eqns_onto es rest)

abbrev pub arms_onto : List Arm → Arms → Arms
arms_onto [] rest = rest
arms_onto (a ∷ arms) rest = more_arms a.cons a.body a.span (arms_onto arms rest)

abbrev pub states_onto : List State → States → States
states_onto [] rest = rest
states_onto (q ∷ qs) rest = more_states q.name q.body q.until q.unless q.span (states_onto qs rest)
