-- The programs of texts are in order.
use Rattle.std.proofs.Common.{◌≡◌, ℕ, List, [], ◌∷◌, ◌++◌, reverse, ap}
use Rattle.std.specs.Prelude.{Bool, true, false, if◌then◌else◌, Some}
use Rattle.std.specs.Str.{bytes_eq}
use Rattle.hp_tree.specs.declared.program.Item.{Item}
use Rattle.hp_tree.specs.declared.program.Item.TheVariants.{TypeItem, NodeItem}
use Rattle.hp_tree.specs.Programs.{Node}
use Rattle.hp_tree.specs.Meaning.{node_among}
use Rattle.law_values.proofs.AcceptedLemmas.Laws.{ready_text}
use Rattle.law_values.proofs.FilledLemmas.Ready.{text_types}
use Rattle.law_values.proofs.ValuedLemmas.Typed.{some_is}
use Rattle.law_games.specs.ReadyGames.Laws.{TextOrderLaw, StandsLaw}
use Rattle.law_games.proofs.ReadyGamesLemmas.Texts.{text_conditions}

pub text_order : TextOrderLaw
text_order text tokens program after ranks a p named typed defined formed initialised clocks fall =
    record {
      ready = ready_text text tokens program after a p named typed defined formed initialised clocks;
      ordered = fall;
      constructors = text_types text tokens program a p;
      conditions = text_conditions text tokens program a p;
    }

split : (f : List ℕ) (n : Node) (items : List Item) → node_among items f ≡ Some n → (earlier : List Item) × ((later : List Item) × (items ≡ later ++ NodeItem n ∷ earlier))
split f n [] e = absurd (cc)
split f n (TypeItem t ∷ items) e = let s = split f n items e in (s.0, (TypeItem t ∷ s.1.0, ap (λ (is : List Item). TypeItem t ∷ is) s.1.1))
split f n (NodeItem m ∷ items) e = by (bytes_eq m.name f) e (split f n items)
  where
    by : (b : Bool) → (if b then Some m else node_among items f) ≡ Some n → (node_among items f ≡ Some n → (earlier : List Item) × ((later : List Item) × (items ≡ later ++ NodeItem n ∷ earlier)))
        → (earlier : List Item) × ((later : List Item) × (NodeItem m ∷ items ≡ later ++ NodeItem n ∷ earlier))
    by true e k = (items, ([], ap (λ (z : Node). NodeItem z ∷ items) (some_is m n e)))
    by false e k = let s = k e in (s.0, (NodeItem m ∷ s.1.0, ap (λ (is : List Item). NodeItem m ∷ is) s.1.1))

pub all_stand : StandsLaw
all_stand program f n e = split f n (reverse program) e
