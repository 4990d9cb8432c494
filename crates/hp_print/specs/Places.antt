-- Trees without their places: each place is put to one. Two trees are the same but for places where they are the same without them.
use Rattle.std.specs.Prelude.{ℕ, List, map, option_map}
use Rattle.hp_base.specs.declared.span.Span.{Span}
use Rattle.hp_tree.specs.declared.block.Trans.{Trans}
use Rattle.hp_tree.specs.declared.program.Item.{Item}
use Rattle.hp_tree.specs.declared.program.Item.TheVariants.{TypeItem, NodeItem}
use Rattle.hp_tree.specs.Expressions.{Expr, Exprs, Parts, constant, variable, last_of, one, two, choose, pre, fby, arrow, when_is, merge, call, no_expr, more_exprs, no_part, more_parts}
use Rattle.hp_tree.specs.Blocks.{Decl, Block, Eqns, Eqn, Arms, States, block, no_eqn, more_eqns, define, switch, reset, automaton, no_arm, more_arms, no_state, more_states}
use Rattle.hp_tree.specs.Programs.{Contract}

abbrev pub nowhere : Span
nowhere = record { line = 0; col = 0; end = 0 }

abbrev mutual
  pub bare : Expr → Expr
  bare (constant s c) = constant nowhere c
  bare (variable s x) = variable nowhere x
  bare (last_of s x) = last_of nowhere x
  bare (one s op a) = one nowhere op (bare a)
  bare (two s op a b) = two nowhere op (bare a) (bare b)
  bare (choose s a b c) = choose nowhere (bare a) (bare b) (bare c)
  bare (pre s a) = pre nowhere (bare a)
  bare (fby s a b) = fby nowhere (bare a) (bare b)
  bare (arrow s a b) = arrow nowhere (bare a) (bare b)
  bare (when_is s a c x) = when_is nowhere (bare a) c x
  bare (merge s x ps) = merge nowhere x (bare_parts ps)
  bare (call s f inlined es) = call nowhere f inlined (bare_all es)

  pub bare_all : Exprs → Exprs
  bare_all no_expr = no_expr
  bare_all (more_exprs e es) = more_exprs (bare e) (bare_all es)

  pub bare_parts : Parts → Parts
  bare_parts no_part = no_part
  bare_parts (more_parts c e ps) = more_parts c (bare e) (bare_parts ps)

abbrev pub bare_decl : Decl → Decl
bare_decl d = record { name = d.name; ty = d.ty; last = d.last; clock = d.clock; span = nowhere }

abbrev pub bare_name : List ℕ × Span → List ℕ × Span
bare_name x = (x.0, nowhere)

abbrev pub bare_transition : Trans → Trans
bare_transition t = record { cond = bare t.cond; restart = t.restart; target = t.target; span = nowhere }

abbrev mutual
  pub bare_block : Block → Block
  bare_block (block ds es) = block (map bare_decl ds) (bare_eqns es)

  pub bare_eqns : Eqns → Eqns
  bare_eqns no_eqn = no_eqn
  bare_eqns (more_eqns e es) = more_eqns (bare_eqn e) (bare_eqns es)

  pub bare_eqn : Eqn → Eqn
  bare_eqn (define s xs e) = define nowhere (map bare_name xs) (bare e)
  bare_eqn (switch s e arms) = switch nowhere (bare e) (bare_arms arms)
  bare_eqn (reset s b e) = reset nowhere (bare_block b) (bare e)
  bare_eqn (automaton s qs) = automaton nowhere (bare_states qs)

  pub bare_arms : Arms → Arms
  bare_arms no_arm = no_arm
  bare_arms (more_arms c b s arms) = more_arms c (bare_block b) nowhere (bare_arms arms)

  pub bare_states : States → States
  bare_states no_state = no_state
  bare_states (more_states x b until unless s qs) =
      more_states x (bare_block b) (map bare_transition until) (map bare_transition unless) nowhere (bare_states qs)

abbrev pub bare_contract : Contract → Contract
bare_contract c = record {
  body = bare_block c.body;
  assume = option_map bare c.assume;
  enforce = option_map bare c.enforce;
  controls = map bare_decl c.controls;
  span = nowhere;
}

abbrev pub bare_item : Item → Item
bare_item (TypeItem t) = TypeItem (record { name = t.name; cons = t.cons; span = nowhere })
bare_item (NodeItem n) = NodeItem (record {
  name = n.name;
  span = nowhere;
  inputs = map bare_decl n.inputs;
  outputs = map bare_decl n.outputs;
  contract = option_map bare_contract n.contract;
  body = bare_block n.body;
})

-- a program without its places
abbrev pub bare_program : List Item → List Item
bare_program items = map bare_item items
