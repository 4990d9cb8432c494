-- In a ready program each name that a block declares has an equation in it; so each free slot that may be early reads a controllable variable wherever its place depends on one.
use Rattle.std.proofs.Common.{◌≡◌, ℕ, Bool, true, false, List, [], ◌∷◌, Option, None, Some, refl, sym, subst, ◌∙◌}
use Rattle.hp_base.specs.declared.span.Span.{Span}
use Rattle.hp_base.specs.declared.ty.Ty.{Ty}
use Rattle.hp_base.specs.declared.ty.Ty.TheVariants as ty
use Rattle.hp_tree.specs.declared.program.Item.{Item}
use Rattle.hp_tree.specs.declared.program.Item.TheVariants.{NodeItem}
use Rattle.hp_tree.specs.Blocks.{Decl, Block}
use Rattle.hp_tree.specs.Meaning.{types_of, declares, controls_of, node_among}
use Rattle.hp_tree.specs.Programs.{TypeDecl, Node}
use Rattle.hp_meaning.specs.Contract.Slots.{is_int}
use Rattle.hp_drawing.specs.DrawnNodes.{drawn_node}
use Rattle.hp_drawing.specs.Told.{told_of}
use Rattle.hp_drawing.proofs.SlottedLemmas.TypeLaws.{node-same}
use Rattle.law_judged.specs.Named.Scoped.{EachNode}
use Rattle.law_judged.specs.Typed.Scopes.{Scope}
use Rattle.hp_typing.specs.Scopes.{inside_node}
use Rattle.law_values.specs.Valued.Judged.{Lasts, lasts_in, no_lasts, body_scope, BlockSound}
use Rattle.law_values.specs.Valued.Values.{scope_behind}
use Rattle.law_automata.proofs.LowerableLemmas.Texts.{each_reverse}
use Rattle.law_games.specs.ReadyGames.Laws.{Stands, IsInOrder}
use Rattle.law_games.proofs.ReadyGamesLemmas.Faces.{AreNoIntegers, IsSeen, all_seen}
use Rattle.law_games.proofs.ReadyGamesLemmas.Ordered.{all_stand}
use Rattle.law_games.proofs.ReadyGamesLemmas.Settled.{class, ready_contracts}
use Rattle.law_drawing.proofs.DrawableLemmas.Fitting.{fits}
use Rattle.law_drawing.proofs.DrawableLemmas.Programs.{drawable, each_behind}
use Rattle.law_drawing.specs.Reached.Filled.{IsFilled, ContractFilled}
use Rattle.law_drawing.specs.Reached.Reached.{NoIntegers, NodeReads}
use Rattle.law_drawing.proofs.ReachedLemmas.Accepted.{filled-contract}
use Rattle.law_drawing.proofs.ReachedLemmas.Nodes.{node-reached}
use Rattle.law_drawing.specs.Early.Right.{IsReached}

-- ---- blocks

abbrev nowhere : Span
nowhere = record { line = 0; col = 0; end = 0 }

-- A block stands in the contract that has it alone, so what is shown of contracts is so of each sound block.
block_filled : (types : List TypeDecl) (among : List ℕ → Option Node) (s : Scope) (lasts : Lasts) (b : Block) → BlockSound types among s lasts b → IsFilled b
block_filled types among s lasts b h =
    filled-contract types among s lasts (Some (record { body = b; assume = None; enforce = None; controls = []; span = nowhere })) (h, (tt, tt))

-- ---- declarations

no_integer : (t : Ty) → (t ≡ ty.Int → ⊥) → is_int t ≡ false
no_integer ty.Bool h = refl
no_integer ty.Int h = absurd (h refl)
no_integer (ty.Enum x) h = refl

no_integers : (ds : List Decl) → AreNoIntegers ds → NoIntegers ds
no_integers [] h = tt
no_integers (d ∷ ds) h = (no_integer d.ty h.0, no_integers ds h.1)

not_both : (i o : Bool) → (i ≡ true → o ≡ false) → o ≡ true → i ≡ false
not_both false o h k = refl
not_both true o h k = absurd (let no : true ≡ false = sym k ∙ h refl in cc)

-- ---- nodes of a ready program

module _ (program after : List Item) (ranks : List (List ℕ)) (o : IsInOrder program after ranks) where
  contract_of : (earlier : List Item) (n : Node) → Stands after earlier n → ContractFilled n.contract
  contract_of earlier n st =
      filled-contract (types_of after) (node_among earlier) (inside_node (scope_behind earlier) n) (lasts_in n.outputs no_lasts) n.contract (class program after ranks o earlier n st).1.0.sound.1.1.1.1.1

  contracts_filled : (f : List ℕ) (m : Node) → (told_of after).nodes f ≡ Some m → ContractFilled m.contract
  contracts_filled f m e = let st = all_stand after f m (sym (node-same after f) ∙ e) in contract_of st.0 m st.1

  seen_here : (earlier : List Item) (n : Node) → Stands after earlier n → IsSeen n
  seen_here earlier n st =
      (each_behind IsSeen st.0 (NodeItem n ∷ earlier) (subst (EachNode IsSeen) st.1 (each_reverse IsSeen after (all_seen program after o.ready.clocks o.ready.named o.ready.shapes)))).0

  pub node_reads : (earlier : List Item) (n : Node) → Stands after earlier n → NodeReads (told_of after) n
  node_reads earlier n st =
      record {
        body = block_filled (types_of after) (node_among earlier) (body_scope (scope_behind earlier) n) (lasts_in n.outputs no_lasts) n.body (class program after ranks o earlier n st).1.0.sound.1.1.1.1.0;
        contract = contract_of earlier n st;
        callees = contracts_filled;
        outputs = λ x d. not_both (declares n.inputs x) (declares n.outputs x) ((drawable program after ranks o earlier n st).node.inputs x) d;
        controls = no_integers (controls_of n.contract) (seen_here earlier n st).controls;
      }

  pub reads_controls : (earlier : List Item) (n : Node) → Stands after earlier n → IsReached after n (drawn_node (told_of after) n)
  reads_controls earlier n st =
      node-reached after (told_of after) n (node-same after) (ready_contracts program after o.ready o.conditions) (fits program after ranks o earlier n st) (node_reads earlier n st)
