-- In accepted programs each node still remembers what it remembered before inlined calls were replaced and clocks were written.
use Rattle.std.proofs.Common.{ℕ, List, [], ◌∷◌, refl, sym, subst}
use Rattle.hp_tree.specs.declared.program.Item.{Item}
use Rattle.hp_tree.specs.declared.program.Item.TheVariants.{TypeItem, NodeItem}
use Rattle.hp_tree.specs.Programs.{Node}
use Rattle.hp_meaning.specs.Causal.Points.{NamesDeclared}
use Rattle.hp_meaning.specs.Clocking.Clocking.{NodeNamed}
use Rattle.hp_clocks.specs.Answers.{IsClocked}
use Rattle.hp_clocks.specs.Writing.{AreWritten}
use Rattle.hp_expand.specs.Numbering.{replaced_node, with_node, replaced_items, no_node}
use Rattle.law_judged.specs.Named.Scoped.{NodeScoped, EachNode}
use Rattle.law_judged.specs.Once.Once.{DefinedOnce}
use Rattle.law_judged.specs.Replaced.Fitting.{NodeNames, IsPlain}
use Rattle.law_judged.proofs.NamedLemmas.Judged.{scoped}
use Rattle.law_judged.proofs.OnceLemmas.ReplacedNodes.{judged_once}
use Rattle.law_judged.proofs.ReplacedLemmas.JudgedReplaced.{judged_replaced}
use Rattle.law_values.specs.Accepted.Laws.{IsReady}
use Rattle.hp_tree.specs.Programs.{Contract}
use Rattle.hp_past.specs.Remembered.{Remembered, Keeps}
use Rattle.hp_past.specs.Remembering.{HasContract}
use Rattle.law_past.specs.Unfolded.{KeptLaw}
use Rattle.law_past.proofs.Alike.{Alike, last_alike}
use Rattle.law_past.proofs.Remembered.{ready}
use Rattle.law_past.proofs.Replacing.{StillKeeps, node_keeps}

items_keep : (nodes : List ℕ → Node) (xs ys : List Item) → AreWritten IsClocked (replaced_items nodes xs) ys → EachNode NodeScoped xs → EachNode (NodeNames IsPlain) xs
    → EachNode (λ n. NodeScoped n × NodeNamed n × NamesDeclared n) (replaced_items nodes xs) → EachNode DefinedOnce (replaced_items nodes xs) → Alike StillKeeps xs ys
items_keep nodes [] [] w s p t o = tt
items_keep nodes [] (y ∷ ys) w s p t o = absurd w
items_keep nodes (TypeItem d ∷ xs) [] w s p t o = absurd w
items_keep nodes (TypeItem d ∷ xs) (y ∷ ys) w s p t o = subst (λ z. Alike StillKeeps (TypeItem d ∷ xs) (z ∷ ys)) (sym w.0) (items_keep nodes xs ys w.1 s p t o)
items_keep nodes (NodeItem n ∷ xs) [] w s p t o = absurd w
items_keep nodes (NodeItem n ∷ xs) (y ∷ ys) w s p t o =
    let m = replaced_node nodes n in
    subst (λ z. Alike StillKeeps (NodeItem n ∷ xs) (z ∷ ys)) (sym w.0.2)
    ((refl, node_keeps nodes w.0.0 n s.0 p.0 t.0.0 o.0), items_keep (with_node nodes m) xs ys w.1 s.1 p.1 t.1 o.1)

programs_keep : (program after : List Item) → IsReady program after → Alike StillKeeps program after
programs_keep program after r =
    items_keep no_node program after r.clocks (scoped program r.named r.defined) r.names
    (judged_replaced program r.named r.typed r.defined r.limits r.merges r.names r.calls) (judged_once program r.named r.typed r.defined r.limits r.merges r.names r.calls)

-- ---- the contract of a node, in programs whose nodes still remember

pub found_again : (xs ys : List Item) → Alike StillKeeps xs ys → (f : List ℕ) (c : Contract) → HasContract xs f c → (m : Remembered) → Keeps c.body m → (d : Contract) × HasContract ys f d × Keeps d.body m
found_again xs ys a f c h m k =
    let like = last_alike StillKeeps xs ys f h.node a h.is_node in
    let d = like.like c h.has m k in
    (d.0, record { node = like.node; is_node = like.is_node; has = d.1 }, d.2)

pub kept_law : KeptLaw
kept_law text tokens program after ranks a f c h m k = found_again program after (programs_keep program after (ready text tokens program after ranks a)) f c h m k
