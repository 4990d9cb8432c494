-- Each node of a ready program is settled, and its registers are in shape at first.
use Rattle.std.proofs.Common.{◌≡◌, ℕ, List, [], ◌∷◌, ◌++◌, reverse, refl, sym, ap, subst, ◌∙◌}
use Rattle.std.specs.Prelude.{Bool, true, false, if◌then◌else◌, Some}
use Rattle.std.specs.Str.{bytes_eq}
use Rattle.hp_tree.specs.declared.program.Item.{Item}
use Rattle.hp_tree.specs.declared.program.Item.TheVariants.{TypeItem, NodeItem}
use Rattle.hp_base.specs.declared.ty.Ty.TheVariants as ty
use Rattle.hp_tree.specs.Programs.{TypeDecl, Node}
use Rattle.hp_tree.specs.Meaning.{types_of, controls_of, node_among}
use Rattle.hp_meaning.specs.Causal.Causality.{IsRanked}
use Rattle.hp_meaning.proofs.CausalLemmas.Ranking.{all_ranks_enough}
use Rattle.law_judged.specs.Named.Scoped.{EachNode}
use Rattle.hp_clocks.specs.Writing.{AreWritten}
use Rattle.hp_clocks.specs.Answers.{IsClocked}
use Rattle.hp_expand.specs.Numbering.{no_node, replaced}
use Rattle.hp_meaning.specs.Contract.Forgetting.{ContractsCallNothing}
use Rattle.hp_meaning.specs.Contract.Memory.{memory}
use Rattle.hp_meaning.specs.Contract.Slots.{registers, zero_at}
use Rattle.law_games.specs.Wiretyped.Laws.{InShape}
use Rattle.law_values.specs.Valued.Values.{Classing, class_behind, AreAccepted}
use Rattle.law_values.proofs.ValuedLemmas.Typed.{some_is}
use Rattle.law_values.proofs.AcceptedLemmas.Assembled.{types_replaced}
use Rattle.law_values.proofs.AcceptedLemmas.Laws.{accepted}
use Rattle.law_values.specs.Filled.Firsts.{NodeHasFirsts}
use Rattle.law_values.proofs.FilledLemmas.Constructors.{types_behind, types_there, behind_one}
use Rattle.law_values.proofs.FilledLemmas.Ready.{ready_firsts}
use Rattle.law_games.specs.Settled.Laws.{OwnsConstructors, HasZeros}
use Rattle.law_games.proofs.SettledLemmas.Wirings.{typed}
use Rattle.law_games.specs.Mirror.Memories.{IsSettled}
use Rattle.law_games.proofs.MirrorLemmas.SameFilled.{same_filled_game, same_filled_safe}
use Rattle.hp_boolx.specs.Game.{Forced as ForcedOn}
use Rattle.hp_boolx.specs.Machine.{game}
use Rattle.law_games.specs.ReadyGames.Laws.{Stands, IsInOrder, ReadyContractsLaw, ReadySettledLaw, ReadyShapeLaw, ReadyFilledGameLaw, ReadyFilledSafeLaw}
use Rattle.law_games.proofs.ReadyGamesLemmas.CallsKept.{contracts_call_nothing}
use Rattle.law_games.proofs.ReadyGamesLemmas.Constructors.{owns_constructors}
use Rattle.law_games.proofs.ReadyGamesLemmas.Faces.{IsSeen, NodesApart, found_behind, nodes_apart, all_seen, some_choice}
use Rattle.law_games.proofs.ReadyGamesLemmas.RegisterNodes.{shaped_at_first}

-- ---- items behind others

abbrev onto : List Item → List Item → List Item
onto [] ys = ys
onto (x ∷ xs) ys = onto xs (x ∷ ys)

each_onto : (P : Node → Type 0) (xs ys : List Item) → EachNode P xs → EachNode P ys → EachNode P (onto xs ys)
each_onto P [] ys u v = v
each_onto P (TypeItem t ∷ xs) ys u v = each_onto P xs (TypeItem t ∷ ys) u v
each_onto P (NodeItem n ∷ xs) ys u v = each_onto P xs (NodeItem n ∷ ys) u.1 (u.0, v)

each_behind : (P : Node → Type 0) (later items : List Item) → EachNode P (later ++ items) → EachNode P items
each_behind P [] items u = u
each_behind P (TypeItem t ∷ later) items u = each_behind P later items u
each_behind P (NodeItem n ∷ later) items u = each_behind P later items u.1

ranked_onto : (xs ys : List Item) → IsRanked xs → IsRanked ys → IsRanked (onto xs ys)
ranked_onto [] ys u v = v
ranked_onto (TypeItem t ∷ xs) ys u v = ranked_onto xs (TypeItem t ∷ ys) u v
ranked_onto (NodeItem n ∷ xs) ys u v = ranked_onto xs (NodeItem n ∷ ys) u.1 (u.0, v)

ranked_behind : (later items : List Item) → IsRanked (later ++ items) → IsRanked items
ranked_behind [] items u = u
ranked_behind (TypeItem t ∷ later) items u = ranked_behind later items u
ranked_behind (NodeItem n ∷ later) items u = ranked_behind later items u.1

nothing_onto : (xs ys : List Item) → ContractsCallNothing xs → ContractsCallNothing ys → ContractsCallNothing (onto xs ys)
nothing_onto [] ys u v = v
nothing_onto (TypeItem t ∷ xs) ys u v = nothing_onto xs (TypeItem t ∷ ys) u v
nothing_onto (NodeItem n ∷ xs) ys u v = nothing_onto xs (NodeItem n ∷ ys) u.1 (u.0, v)

nothing_behind : (later items : List Item) → ContractsCallNothing (later ++ items) → ContractsCallNothing items
nothing_behind [] items u = u
nothing_behind (TypeItem t ∷ later) items u = nothing_behind later items u
nothing_behind (NodeItem n ∷ later) items u = nothing_behind later items u.1

accepted_behind : (types : List TypeDecl) (class : Classing) (later items : List Item) → AreAccepted types class (later ++ items) → (class : Classing) × AreAccepted types class items
accepted_behind types class [] items a = (class, a)
accepted_behind types class (TypeItem t ∷ later) items a = accepted_behind types class later items a
accepted_behind types class (NodeItem n ∷ later) items a = accepted_behind types (class_behind class) later items a.1

types_split : (types : List TypeDecl) (later items : List Item) (more : List TypeDecl) → types ≡ types_behind (later ++ items) ++ more → (more : List TypeDecl) × (types ≡ types_behind items ++ more)
types_split types [] items more e = (more, e)
types_split types (TypeItem t ∷ later) items more e = types_split types later items (t ∷ more) (e ∙ behind_one (types_behind (later ++ items)) t more)
types_split types (NodeItem n ∷ later) items more e = types_split types later items more e

apart_behind : (later items : List Item) → NodesApart (later ++ items) → NodesApart items
apart_behind [] items u = u
apart_behind (TypeItem t ∷ later) items u = apart_behind later items u
apart_behind (NodeItem n ∷ later) items u = apart_behind later items u.1

-- of a node that is found
each_found : (P : Node → Type 0) (items : List Item) → EachNode P items → (f : List ℕ) (k : Node) → node_among items f ≡ Some k → P k
each_found P [] u f k e = absurd (cc)
each_found P (TypeItem t ∷ items) u f k e = each_found P items u f k e
each_found P (NodeItem n ∷ items) u f k e = by (bytes_eq n.name f) (each_found P items u.1 f k) e
  where
    by : (b : Bool) → (node_among items f ≡ Some k → P k) → (if b then Some n else node_among items f) ≡ Some k → P k
    by true h e = subst P (some_is n k e) u.0
    by false h e = h e

types_written : (xs ys : List Item) → AreWritten IsClocked xs ys → types_of ys ≡ types_of xs
types_written [] [] w = refl
types_written (TypeItem t ∷ xs) (y ∷ ys) w = ap (λ z. types_of (z ∷ ys)) w.0 ∙ ap (λ ts. t ∷ ts) (types_written xs ys w.1)
types_written (NodeItem n ∷ xs) (y ∷ ys) w = ap (λ z. types_of (z ∷ ys)) w.0.2 ∙ types_written xs ys w.1
types_written [] (y ∷ ys) w = absurd w
types_written (TypeItem t ∷ xs) [] w = absurd w
types_written (NodeItem n ∷ xs) [] w = absurd w

-- ---- contracts

pub ready_contracts : ReadyContractsLaw
ready_contracts program after r q = contracts_call_nothing program after r.shapes r.plain q r.clocks

-- ---- a node of a ready program

module _ (program after : List Item) (ranks : List (List ℕ)) (o : IsInOrder program after ranks) (earlier : List Item) (n : Node) (st : Stands after earlier n) where
  abbrev types : List TypeDecl
  types = types_of after

  pub same_types : types_of after ≡ types_of program
  same_types = types_written (replaced program) after o.ready.clocks ∙ types_replaced no_node program

  owns : (t : List ℕ) → OwnsConstructors (types_of after) (ty.Enum t)
  owns t = subst (λ types. OwnsConstructors types (ty.Enum t)) (sym same_types) (owns_constructors program o.ready.named t)

  pub firsts : EachNode (NodeHasFirsts (types_of after)) (NodeItem n ∷ earlier)
  firsts =
      each_behind (NodeHasFirsts (types_of after)) st.0 (NodeItem n ∷ earlier)
      (subst (EachNode (NodeHasFirsts (types_of after))) st.1 (each_onto (NodeHasFirsts (types_of after)) after [] (ready_firsts program after o.ready o.constructors) tt))

  pub class : (class : Classing) × AreAccepted (types_of after) class (NodeItem n ∷ earlier)
  class = let a = accepted program after o.ready in accepted_behind (types_of after) a.0 st.0 (NodeItem n ∷ earlier) (subst (AreAccepted (types_of after) a.0) st.1 a.1)

  pub called : ContractsCallNothing earlier
  called = (nothing_behind st.0 (NodeItem n ∷ earlier) (subst ContractsCallNothing st.1 (nothing_onto after [] (ready_contracts program after o.ready o.conditions) tt))).1

  pub ranked : IsRanked (NodeItem n ∷ earlier)
  ranked = ranked_behind st.0 (NodeItem n ∷ earlier) (subst IsRanked st.1 (ranked_onto after [] (all_ranks_enough after ranks o.ordered) tt))

  seen : EachNode IsSeen (reverse after)
  seen = each_onto IsSeen after [] (all_seen program after o.ready.clocks o.ready.named o.ready.shapes) tt

  own_seen : IsSeen n
  own_seen = (each_behind IsSeen st.0 (NodeItem n ∷ earlier) (subst (EachNode IsSeen) st.1 seen)).0

  pub apart : NodesApart (st.0 ++ NodeItem n ∷ earlier)
  apart = subst NodesApart st.1 (nodes_apart program after o.ready.clocks o.ready.named)

  pub found : (f : List ℕ) (k : Node) → node_among earlier f ≡ Some k → node_among (reverse after) f ≡ Some k
  found f k e =
      let a : NodesApart (st.0 ++ NodeItem n ∷ earlier) = subst NodesApart st.1 (nodes_apart program after o.ready.clocks o.ready.named) in
      ap (λ items. node_among items f) st.1 ∙ found_behind st.0 (NodeItem n ∷ earlier) a f k (found_behind (NodeItem n ∷ []) earlier (apart_behind st.0 (NodeItem n ∷ earlier) a) f k e)

  pub zeros : HasZeros (types_of after) class.0 earlier n
  zeros = record { accepted = class.1; firsts = firsts; called = called }

  pub settled : IsSettled after class.0 earlier n
  settled =
      record {
        accepted = class.1;
        ranked = ranked.0;
        ranked_earlier = ranked.1;
        typed = λ inputs m now r e. typed (types_of after) class.0 earlier n inputs m now zeros r ranked.0 ranked.1 e;
        found = found;
        apart = λ f k e. (each_found IsSeen (reverse after) seen f k e).outputs;
        some_choice = some_choice (types_of after) (controls_of n.contract) firsts.0.controls own_seen.controls;
      }

  pub shaped : InShape (types_of after) earlier n (zero_at (registers after n)) (memory after n [])
  shaped =
      let t = types_split (types_of after) st.0 (NodeItem n ∷ earlier) [] (types_there after ∙ ap (λ items. types_behind items ++ []) st.1) in
      shaped_at_first after class.0 earlier n t.0 owns t.1 zeros found

pub ready_settled : ReadySettledLaw
ready_settled program after ranks o earlier n st = ((class program after ranks o earlier n st).0, settled program after ranks o earlier n st)

pub ready_shape : ReadyShapeLaw
ready_shape program after ranks o earlier n st = shaped program after ranks o earlier n st

pub ready_filled_game : ReadyFilledGameLaw
ready_filled_game program after ranks o earlier n m st M k =
    let s = settled program after ranks o earlier n st in
    let e = same_filled_game after (class program after ranks o earlier n st).0 earlier n m s M (shaped program after ranks o earlier n st) k [] tt in
    ((λ f. subst (ForcedOn (game m) k) (sym M.init) (e.0 f)), (λ f. e.1 (subst (ForcedOn (game m) k) M.init f)))

pub ready_filled_safe : ReadyFilledSafeLaw
ready_filled_safe program after ranks o earlier n m st M =
    same_filled_safe after (class program after ranks o earlier n st).0 earlier n m (settled program after ranks o earlier n st) M (shaped program after ranks o earlier n st)
