-- What is read of a walk that finds no breach. The lemmas of the walk are kept to its own crate.
use Rattle.std.proofs.Common.{◌≡◌, ℕ, ◌+◌, List, [], ◌∷◌, Option, None, Some, fold, refl}
use Rattle.hp_base.specs.declared.limit.Limit.{Limit}
use Rattle.hp_base.specs.declared.span.Span.{Span}
use Rattle.hp_base.specs.First.First.{itself, merged}
use Rattle.hp_base.proofs.FirstLemmas.FirstLaws.{sooner-found, merged-none}
use Rattle.hp_tree.specs.declared.program.Item.{Item}
use Rattle.hp_tree.specs.declared.program.Item.TheVariants.{TypeItem, NodeItem}
use Rattle.hp_tree.specs.Programs.{Node}
use Rattle.hp_expand.specs.Sizes as sizes
use Rattle.hp_expand.specs.Counts as counts
use Rattle.hp_expand.specs.Counts.{passed_by}
use Rattle.hp_expand.specs.Shapes as shapes
use Rattle.hp_expand.specs.Shapes.{Mark, plain_at, bound_at, integer_at, nothing, see, found_after, breach_at, place_of, breach_among, breach_of}
use Rattle.hp_expand.specs.declared.error.Shape.{Shape}
use Rattle.hp_expand.specs.declared.error.Shape.TheVariants.{Call, Inline, WrongType}
use Rattle.hp_expand.specs.Formed.{InlineNoContract, AreShaped, AreWithin}
use Rattle.hp_expand.proofs.FormedLaws.{within-node}
use Rattle.hp_compile.proofs.CountLemmas.Fits.{InlinesNone}
use Rattle.hp_compile.proofs.CountLemmas.Same.{AllInlineNone}
use Rattle.hp_compile.proofs.CountLemmas.Types.{Size, Form, Found, Breach}

-- ---- no node with a contract is inlined

bound_none : (ms : List Mark) (f : Found) → (fold see f ms).bound ≡ None → (f.bound ≡ None) × InlineNoContract ms
bound_none [] f h = (h, tt)
bound_none (plain_at at ∷ ms) f h = bound_none ms (see f (plain_at at)) h
bound_none (bound_at at ∷ ms) f h = absurd (sooner-found itself f.bound at (bound_none ms (see f (bound_at at)) h).0)
bound_none (integer_at at ∷ ms) f h = bound_none ms (see f (integer_at at)) h

at_none : (shape : Shape) (o : Option Span) → breach_at shape o ≡ None → o ≡ None
at_none shape None h = refl
at_none shape (Some at) h = absurd cc

among_none : (c b : Found) → breach_among c b ≡ None → (c.bound ≡ None) × (b.bound ≡ None)
unfolding breach_among
among_none c b h =
    let first = merged place_of (breach_at Call c.plain) (breach_at Inline c.bound) in
    let second = merged place_of (breach_at WrongType c.integer) (breach_at Inline b.bound) in
    let both = merged-none place_of first second h in
    let calls = merged-none place_of (breach_at Call c.plain) (breach_at Inline c.bound) both.0 in
    let others = merged-none place_of (breach_at WrongType c.integer) (breach_at Inline b.bound) both.1 in
    (at_none Inline c.bound calls.1, at_none Inline b.bound others.1)

node_none : (forms : List ℕ → Form) (n : Node) → breach_of forms n ≡ None → InlinesNone forms n
unfolding found_after
node_none forms n h =
    let cs = shapes.in_contract forms n.contract in
    let bs = shapes.in_block forms n.body in
    let k = among_none (fold see nothing cs) (fold see nothing bs) h in
    ((bound_none cs nothing k.0).1, (bound_none bs nothing k.1).1)

breach_here : (f : List ℕ) (a : Option Breach) (b : Option (List ℕ × Breach)) → shapes.at_node f a b ≡ None → (a ≡ None) × (b ≡ None)
breach_here f None b h = (refl, h)
breach_here f (Some a) b h = absurd cc

pub none_inlined : (forms : List ℕ → Form) (items : List Item) → shapes.in_items forms items ≡ None → AllInlineNone forms items
none_inlined forms [] h = tt
none_inlined forms (TypeItem t ∷ items) h = none_inlined forms items h
none_inlined forms (NodeItem n ∷ items) h =
    let more = shapes.with_form forms n.name (shapes.form_of forms n) in
    let k = breach_here n.name (breach_of forms n) (shapes.in_items more items) h in
    (node_none forms n k.0, none_inlined more items k.1)

pub shaped_inlined : (forms : List ℕ → Form) (items : List Item) → AreShaped forms items → AllInlineNone forms items
shaped_inlined forms [] h = tt
shaped_inlined forms (TypeItem t ∷ items) h = shaped_inlined forms items h
shaped_inlined forms (NodeItem n ∷ items) h =
    ((h.0.contract_inlines_no_contract, h.0.body_inlines_no_contract), shaped_inlined (shapes.with_form forms n.name (shapes.form_of forms n)) items h.1)

-- ---- no limit is passed

limit_here : (f : List ℕ) (a : Option Limit) (b : Option (List ℕ × Limit)) → counts.at_node f a b ≡ None → (a ≡ None) × (b ≡ None)
limit_here f None b h = (refl, h)
limit_here f (Some a) b h = absurd cc

pub none_passed : (known : List ℕ → Size) (total : ℕ) (items : List Item) → counts.in_items known total items ≡ None → AreWithin known total items
none_passed known total [] h = tt
none_passed known total (TypeItem t ∷ items) h = none_passed known total items h
none_passed known total (NodeItem n ∷ items) h =
    let s = sizes.in_node known n in
    let more = sizes.with_node known n.name s in
    let k = limit_here n.name (passed_by total s) (counts.in_items more (total + s.places) items) h in
    (within-node total s k.0, none_passed more (total + s.places) items k.1)
