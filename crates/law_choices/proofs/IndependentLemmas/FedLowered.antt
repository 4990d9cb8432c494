-- Removing automata from a fed node gives the node without automata, fed.
use Rattle.std.proofs.Common.{◌≡◌, ℕ, List, [], ◌++◌, refl, ap}
use Rattle.std.specs.Prelude.{Option, None, Some, option_map}
use Rattle.hp_tree.specs.Blocks.{Decl, block, Eqns, no_eqn, more_eqns, eqns_of}
use Rattle.hp_tree.specs.Programs.{Contract, Node}
use Rattle.hp_automata.specs.Renaming.{renamed_decls}
use Rattle.hp_automata.specs.Lowering.{Types, Enumerations, declaring, same_name, lowered_eqns, lowered_eqn, lowered_contract, lowered_node, types_of}
use Rattle.law_choices.proofs.IndependentLemmas.Feeding.{with_eqn, feed}
use Rattle.law_choices.proofs.IndependentLemmas.Ours.{with_body}
use Rattle.law_choices.proofs.IndependentLemmas.Fed.{bare, fed}

module _ (enums : Enumerations) where
  -- the equations that are made of the body of a node
  abbrev pub made : Types → Eqns → Eqns
  made types es = eqns_of (lowered_eqns enums same_name types 0 es ++ [])

  made_feed : (types : Types) (es : Eqns) (n : Node) (x y : List ℕ) → made types (with_eqn es (feed n.span x y)) ≡ with_eqn (made types es) (feed n.span x y)
  made_feed types no_eqn n x y = refl
  made_feed types (more_eqns e es) n x y = ap (more_eqns (lowered_eqn enums same_name types 0 e)) (made_feed types es n x y)

  contract_bare : (types : Types) (c : Option Contract) → option_map (lowered_contract enums types) (option_map bare c) ≡ option_map bare (option_map (lowered_contract enums types) c)
  contract_bare types None = refl
  contract_bare types (Some c) = refl

  -- its locals and equations
  abbrev pub low_locals : List Decl → List Decl
  low_locals ds = renamed_decls same_name ds

  abbrev pub low_eqns : Node → List Decl → Eqns → Eqns
  low_eqns n ds es = made (declaring (types_of n) ds) es

  pub low_body : (n : Node) (ds : List Decl) (es : Eqns) → lowered_node enums (with_body n ds es) ≡ with_body (lowered_node enums (with_body n ds es)) (low_locals ds) (low_eqns n ds es)
  low_body n ds es = refl

  pub low_fed : (n : Node) (ds : List Decl) (es : Eqns) (x y : List ℕ) → lowered_node enums (fed n ds es x y) ≡ fed (lowered_node enums (with_body n ds es)) (low_locals ds) (low_eqns n ds es) x y
  low_fed n ds es x y i =
      record n {
        contract = contract_bare (types_of n) n.contract i;
        body = block (renamed_decls same_name ds) (made_feed (declaring (types_of n) ds) es n x y i);
      }
