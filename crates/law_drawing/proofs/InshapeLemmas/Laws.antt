-- The nodes of ready programs are read with values in shape, so their slots have the numbers of these values.
use Rattle.std.proofs.Common.{◌≡◌, List, [], ◌∷◌, ◌++◌, refl, sym, ap, subst, ◌∙◌}
use Rattle.std.specs.Prelude.{Bool, true, false, if◌then◌else◌}
use Rattle.hp_tree.specs.declared.program.Item.{Item}
use Rattle.hp_tree.specs.declared.program.Item.TheVariants.{TypeItem, NodeItem}
use Rattle.hp_tree.specs.Meaning.{types_of}
use Rattle.hp_tree.specs.Programs.{TypeDecl}
use Rattle.hp_meaning.specs.Causal.RanksOfPoints.{same_place}
use Rattle.hp_meaning.specs.Contract.Memory.{number_in}
use Rattle.hp_meaning.specs.Contract.Slots.{Shape, truth, mark, cons, registers, slots_of_node, zero_of, zero_at}
use Rattle.law_values.proofs.FilledLemmas.Constructors.{types_behind, types_there, behind_one}
use Rattle.law_games.specs.Mirror.Mirrored.{given_with}
use Rattle.hp_drawing.specs.Told.{told_of}
use Rattle.law_games.proofs.ReadyGamesLemmas.Settled.{same_types, class, found}
use Rattle.law_drawing.specs.Mirroring.Codes.{AreNumbered}
use Rattle.law_drawing.proofs.MirroringLemmas.Held.{held}
use Rattle.law_drawing.proofs.MirroringLemmas.Numbered.{numbered}
use Rattle.law_drawing.specs.Inshape.Laws.{NodeShapeLaw, NodeNumbersLaw, ZerosLaw}
use Rattle.law_drawing.proofs.InshapeLemmas.Nodes.{node_in_shape}

-- the types behind some items, and the others
types_split : (types : List TypeDecl) (later items : List Item) (more : List TypeDecl) → types ≡ types_behind (later ++ items) ++ more → (more : List TypeDecl) × (types ≡ types_behind items ++ more)
types_split types [] items more e = (more, e)
types_split types (TypeItem t ∷ later) items more e = types_split types later items (t ∷ more) (e ∙ behind_one (types_behind (later ++ items)) t more)
types_split types (NodeItem n ∷ later) items more e = types_split types later items more e

pub node_shape : NodeShapeLaw
node_shape program after ranks earlier n r memory vs others c now a =
    let o = r.order in
    let st = r.stands in
    let numbers = subst AreNumbered (sym (same_types program after ranks o earlier n st)) (numbered program o.ready.named) in
    let split = types_split (types_of after) st.0 (NodeItem n ∷ earlier) [] (types_there after ∙ ap (λ items. types_behind items ++ []) st.1) in
    let accepted = class program after ranks o earlier n st in
    node_in_shape after (told_of after) accepted.0 earlier n split.0 numbers split.1 accepted.1 (found program after ranks o earlier n st) r.drawable r.earlier_drawable
    (zero_at (registers after n)) memory vs others c a.shape a.values a.given

pub node_numbers : NodeNumbersLaw
node_numbers program after ranks earlier n r memory vs others c now a =
    held (types_of after) memory (given_with vs others c) (slots_of_node after n) (node_shape program after ranks earlier n r memory vs others c now a)

-- ---- zeros

zero_number : (s : Shape) → number_in (zero_of s) ≡ 0
zero_number truth = refl
zero_number mark = refl
zero_number (cons t m) = refl

pub zeros : ZerosLaw
zeros [] p = refl
zeros (r ∷ rs) p = by (same_place r.0 p) (zeros rs p)
  where
    by : (b : Bool) → number_in (zero_at rs p) ≡ 0 → number_in (if b then zero_of r.1 else zero_at rs p) ≡ 0
    by true h = zero_number r.1
    by false h = h
