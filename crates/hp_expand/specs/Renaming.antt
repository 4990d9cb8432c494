-- The variables of a part of a program under other names. Types, constructors, nodes and states keep theirs.
use Rattle.std.specs.Prelude.{ℕ, List, map, option_map}
use Rattle.hp_base.specs.declared.span.Span.{Span}
use Rattle.hp_tree.specs.declared.block.Trans.{Trans}
use Rattle.hp_tree.specs.declared.decl.Cons.{Cons}
use Rattle.hp_tree.specs.Expressions.{Expr, Exprs, Parts}
use Rattle.hp_tree.specs.Blocks.{Decl, Block, block, Eqns, no_eqn, more_eqns, Eqn, define, switch, reset, automaton, Arms, no_arm, more_arms, States, no_state, more_states}
use Rattle.hp_tree.specs.Programs.{Contract, Node}
use Rattle.hp_tables.specs.Renaming.Renaming as parts

-- by a function on names, those that are read and those that are declared
module _ (to : List ℕ → List ℕ) where
  abbrev pub renamed : Expr → Expr
  renamed = parts.renamed to to

  abbrev pub renamed_exprs : Exprs → Exprs
  renamed_exprs = parts.renamed_exprs to to

  abbrev pub renamed_parts : Parts → Parts
  renamed_parts = parts.renamed_parts to to

  abbrev pub renamed_path : List (Cons × List ℕ) → List (Cons × List ℕ)
  renamed_path = parts.renamed_path to to

  abbrev pub renamed_decl : Decl → Decl
  renamed_decl = parts.renamed_decl to to

  abbrev pub renamed_decls : List Decl → List Decl
  renamed_decls = parts.renamed_decls to to

  abbrev pub renamed_left : List (List ℕ × Span) → List (List ℕ × Span)
  renamed_left = parts.renamed_left to

  abbrev pub renamed_transition : Trans → Trans
  renamed_transition t = record t { cond = renamed t.cond }

  abbrev mutual
    pub renamed_block : Block → Block
    renamed_block (block ds es) = block (renamed_decls ds) (renamed_eqns es)

    pub renamed_eqns : Eqns → Eqns
    renamed_eqns no_eqn = no_eqn
    renamed_eqns (more_eqns e es) = more_eqns (renamed_eqn e) (renamed_eqns es)

    pub renamed_eqn : Eqn → Eqn
    renamed_eqn (define at xs e) = define at (renamed_left xs) (renamed e)
    renamed_eqn (switch at e arms) = switch at (renamed e) (renamed_arms arms)
    renamed_eqn (reset at b e) = reset at (renamed_block b) (renamed e)
    renamed_eqn (automaton at qs) = automaton at (renamed_states qs)

    pub renamed_arms : Arms → Arms
    renamed_arms no_arm = no_arm
    renamed_arms (more_arms c b at arms) = more_arms c (renamed_block b) at (renamed_arms arms)

    pub renamed_states : States → States
    renamed_states no_state = no_state
    renamed_states (more_states x b until unless at qs) =
        more_states x (renamed_block b) (map renamed_transition until) (map renamed_transition unless) at (renamed_states qs)

  abbrev pub renamed_contract : Contract → Contract
  renamed_contract c = record c {
    body = renamed_block c.body;
    assume = option_map renamed c.assume;
    enforce = option_map renamed c.enforce;
    controls = renamed_decls c.controls;
  }

  -- a whole node
  abbrev pub renamed_node : Node → Node
  renamed_node n = record n {
    inputs = renamed_decls n.inputs;
    outputs = renamed_decls n.outputs;
    contract = option_map renamed_contract n.contract;
    body = renamed_block n.body;
  }
