-- A program is not refused exactly where its contracts have their shapes and its counts are within the limits.
use Rattle.std.proofs.Common.{◌≡◌, ◌↔◌, ℕ, suc, ◌+◌, ◌≤◌, Bool, true, false, if◌then◌else◌, nat_lt, List, [], ◌∷◌, Option, None, Some, fold, refl, ap, arith}
use Rattle.std.proofs.lemmas.Bool.Decides.{nat_tests}
use Rattle.hp_base.specs.Limits.{most}
use Rattle.hp_base.specs.declared.limit.Limit.{Limit}
use Rattle.hp_base.specs.declared.limit.What.{What}
use Rattle.hp_base.specs.declared.limit.What.TheVariants.{Nest, Places, Total, Instances, Cells, Calls}
use Rattle.hp_base.specs.declared.span.Span.{Span}
use Rattle.hp_tree.specs.declared.program.Item.{Item}
use Rattle.hp_tree.specs.declared.program.Item.TheVariants.{TypeItem, NodeItem}
use Rattle.hp_tree.specs.Programs.{Node}
use Rattle.hp_base.specs.First.First.{itself, merged}
use Rattle.hp_base.proofs.FirstLemmas.FirstLaws.{sooner-found, merged-none}
use Rattle.hp_expand.specs.Sizes as sizes
use Rattle.hp_expand.specs.Sizes.{Size}
use Rattle.hp_expand.specs.Shapes as shapes
use Rattle.hp_expand.specs.Shapes.{Form, Found, Breach, Mark, plain_at, bound_at, integer_at, nothing, see, found_after, breach_at, place_of, breach_among, breach_of}
use Rattle.hp_expand.specs.declared.error.Shape.{Shape}
use Rattle.hp_expand.specs.declared.error.Shape.TheVariants.{Call, Inline, WrongType}
use Rattle.hp_expand.specs.Counts as counts
use Rattle.hp_expand.specs.Counts.{passed, or_passed, passed_by}
use Rattle.hp_expand.specs.Refusals.{first_of, IsFormed}
use Rattle.hp_expand.specs.Formed.{MakeNoPlainCall, InlineNoContract, HaveNoInteger, IsShaped, AreShaped, IsWithin, AreWithin, HasShapes, KeepsLimits}

-- ---- marks

plain-empty : (ms : List Mark) (f : Found) → f.plain ≡ None → MakeNoPlainCall ms → (fold see f ms).plain ≡ None
plain-empty [] f h k = h
plain-empty (plain_at at ∷ ms) f h k = absurd k
plain-empty (bound_at at ∷ ms) f h k = plain-empty ms (see f (bound_at at)) h k
plain-empty (integer_at at ∷ ms) f h k = plain-empty ms (see f (integer_at at)) h k

plain-none : (ms : List Mark) (f : Found) → (fold see f ms).plain ≡ None → (f.plain ≡ None) × MakeNoPlainCall ms
plain-none [] f h = (h, tt)
plain-none (plain_at at ∷ ms) f h = absurd (sooner-found itself f.plain at (plain-none ms (see f (plain_at at)) h).0)
plain-none (bound_at at ∷ ms) f h = plain-none ms (see f (bound_at at)) h
plain-none (integer_at at ∷ ms) f h = plain-none ms (see f (integer_at at)) h

bound-empty : (ms : List Mark) (f : Found) → f.bound ≡ None → InlineNoContract ms → (fold see f ms).bound ≡ None
bound-empty [] f h k = h
bound-empty (plain_at at ∷ ms) f h k = bound-empty ms (see f (plain_at at)) h k
bound-empty (bound_at at ∷ ms) f h k = absurd k
bound-empty (integer_at at ∷ ms) f h k = bound-empty ms (see f (integer_at at)) h k

bound-none : (ms : List Mark) (f : Found) → (fold see f ms).bound ≡ None → (f.bound ≡ None) × InlineNoContract ms
bound-none [] f h = (h, tt)
bound-none (plain_at at ∷ ms) f h = bound-none ms (see f (plain_at at)) h
bound-none (bound_at at ∷ ms) f h = absurd (sooner-found itself f.bound at (bound-none ms (see f (bound_at at)) h).0)
bound-none (integer_at at ∷ ms) f h = bound-none ms (see f (integer_at at)) h

integer-empty : (ms : List Mark) (f : Found) → f.integer ≡ None → HaveNoInteger ms → (fold see f ms).integer ≡ None
integer-empty [] f h k = h
integer-empty (plain_at at ∷ ms) f h k = integer-empty ms (see f (plain_at at)) h k
integer-empty (bound_at at ∷ ms) f h k = integer-empty ms (see f (bound_at at)) h k
integer-empty (integer_at at ∷ ms) f h k = absurd k

integer-none : (ms : List Mark) (f : Found) → (fold see f ms).integer ≡ None → (f.integer ≡ None) × HaveNoInteger ms
integer-none [] f h = (h, tt)
integer-none (plain_at at ∷ ms) f h = integer-none ms (see f (plain_at at)) h
integer-none (bound_at at ∷ ms) f h = integer-none ms (see f (bound_at at)) h
integer-none (integer_at at ∷ ms) f h = absurd (sooner-found itself f.integer at (integer-none ms (see f (integer_at at)) h).0)

-- ---- the breach of a node

at-none : (shape : Shape) (o : Option Span) → breach_at shape o ≡ None → o ≡ None
at-none shape None h = refl
at-none shape (Some at) h = absurd cc

none-among : (c b : Found) → c.plain ≡ None → c.bound ≡ None → c.integer ≡ None → b.bound ≡ None → breach_among c b ≡ None
unfolding breach_among
none-among c b h1 h2 h3 h4 = λ i. merged place_of (merged place_of (breach_at Call (h1 i)) (breach_at Inline (h2 i))) (merged place_of (breach_at WrongType (h3 i)) (breach_at Inline (h4 i)))

record Nothing (c b : Found) : Type 0 where
  plain : c.plain ≡ None
  bound : c.bound ≡ None
  integer : c.integer ≡ None
  body : b.bound ≡ None

among-none : (c b : Found) → breach_among c b ≡ None → Nothing c b
unfolding breach_among
among-none c b h =
    let first = merged place_of (breach_at Call c.plain) (breach_at Inline c.bound) in
    let second = merged place_of (breach_at WrongType c.integer) (breach_at Inline b.bound) in
    let both = merged-none place_of first second h in
    let calls = merged-none place_of (breach_at Call c.plain) (breach_at Inline c.bound) both.0 in
    let others = merged-none place_of (breach_at WrongType c.integer) (breach_at Inline b.bound) both.1 in
    record {
      plain = at-none Call c.plain calls.0;
      bound = at-none Inline c.bound calls.1;
      integer = at-none WrongType c.integer others.0;
      body = at-none Inline b.bound others.1;
    }

node-shaped : (forms : List ℕ → Form) (n : Node) → IsShaped forms n → breach_of forms n ≡ None
unfolding found_after
node-shaped forms n s =
    let cs = shapes.in_contract forms n.contract in
    let bs = shapes.in_block forms n.body in
    none-among (fold see nothing cs) (fold see nothing bs)
    (plain-empty cs nothing refl s.contract_calls_nothing) (bound-empty cs nothing refl s.contract_inlines_no_contract)
    (integer-empty cs nothing refl s.controls_are_no_integers) (bound-empty bs nothing refl s.body_inlines_no_contract)

shaped-node : (forms : List ℕ → Form) (n : Node) → breach_of forms n ≡ None → IsShaped forms n
unfolding found_after
shaped-node forms n h =
    let cs = shapes.in_contract forms n.contract in
    let bs = shapes.in_block forms n.body in
    let k = among-none (fold see nothing cs) (fold see nothing bs) h in
    record {
      contract_calls_nothing = (plain-none cs nothing k.plain).1;
      contract_inlines_no_contract = (bound-none cs nothing k.bound).1;
      body_inlines_no_contract = (bound-none bs nothing k.body).1;
      controls_are_no_integers = (integer-none cs nothing k.integer).1;
    }

at-left : (f : List ℕ) (a : Option Breach) (b : Option (List ℕ × Breach)) → shapes.at_node f a b ≡ None → a ≡ None
at-left f None b h = refl
at-left f (Some a) b h = absurd cc

at-right : (f : List ℕ) (a : Option Breach) (b : Option (List ℕ × Breach)) → shapes.at_node f a b ≡ None → b ≡ None
at-right f None b h = h
at-right f (Some a) b h = absurd cc

items-shaped : (items : List Item) (forms : List ℕ → Form) → AreShaped forms items → shapes.in_items forms items ≡ None
items-shaped [] forms s = refl
items-shaped (TypeItem t ∷ items) forms s = items-shaped items forms s
items-shaped (NodeItem n ∷ items) forms s =
    λ i. shapes.at_node n.name (node-shaped forms n s.0 i) (items-shaped items (shapes.with_form forms n.name (shapes.form_of forms n)) s.1 i)

shaped-items : (items : List Item) (forms : List ℕ → Form) → shapes.in_items forms items ≡ None → AreShaped forms items
shaped-items [] forms h = tt
shaped-items (TypeItem t ∷ items) forms h = shaped-items items forms h
shaped-items (NodeItem n ∷ items) forms h =
    let more = shapes.with_form forms n.name (shapes.form_of forms n) in (
      shaped-node forms n (at-left n.name (breach_of forms n) (shapes.in_items more items) h),
      shaped-items items more (at-right n.name (breach_of forms n) (shapes.in_items more items) h),
    )

-- ---- limits

kept : (what : What) (n : ℕ) → passed what n ≡ None → n ≤ most what
unfolding passed
kept what n h = by (nat_lt (most what) n) refl h
  where
    by : (b : Bool) → nat_lt (most what) n ≡ b → if◌then◌else◌ {A = Option Limit} b (Some (record { what = what; found = suc (most what) })) None ≡ None → n ≤ most what
    by true e p = absurd cc
    by false e p = grind (arith, nat_tests)

not-passed : (m n : ℕ) → n ≤ m → nat_lt m n ≡ false
not-passed m n h = grind (arith, nat_tests)

keeps : (what : What) (n : ℕ) → n ≤ most what → passed what n ≡ None
unfolding passed
keeps what n h = ap (λ b. if◌then◌else◌ {A = Option Limit} b (Some (record { what = what; found = suc (most what) })) None) (not-passed (most what) n h)

none-left : (a b : Option Limit) → or_passed a b ≡ None → a ≡ None
unfolding or_passed
none-left None b h = refl
none-left (Some l) b h = h

none-right : (a b : Option Limit) → or_passed a b ≡ None → b ≡ None
unfolding or_passed
none-right None b h = h
none-right (Some l) b h = absurd cc

none-both : or_passed None None ≡ None
unfolding or_passed
none-both = refl

-- what is in a node that passes no limit
pub within-node : (total : ℕ) (s : Size) → passed_by total s ≡ None → IsWithin total s
unfolding passed_by
within-node total s h =
    let a = passed Nest (suc s.nest) in
    let b = passed Places s.places in
    let c = passed Total (total + s.places) in
    let d = passed Instances (suc s.instances) in
    let e = passed Cells (s.places + s.cells) in
    let f = passed Calls (suc s.calls) in
    let h1 = none-right a (or_passed b (or_passed c (or_passed d (or_passed e f)))) h in
    let h2 = none-right b (or_passed c (or_passed d (or_passed e f))) h1 in
    let h3 = none-right c (or_passed d (or_passed e f)) h2 in
    let h4 = none-right d (or_passed e f) h3 in
    record {
      nest = kept Nest (suc s.nest) (none-left a (or_passed b (or_passed c (or_passed d (or_passed e f)))) h);
      places = kept Places s.places (none-left b (or_passed c (or_passed d (or_passed e f))) h1);
      all = kept Total (total + s.places) (none-left c (or_passed d (or_passed e f)) h2);
      instances = kept Instances (suc s.instances) (none-left d (or_passed e f) h3);
      cells = kept Cells (s.places + s.cells) (none-left e f h4);
      calls = kept Calls (suc s.calls) (none-right e f h4);
    }

node-within : (total : ℕ) (s : Size) → IsWithin total s → passed_by total s ≡ None
unfolding passed_by or_passed
node-within total s w = λ i. or_passed
    (keeps Nest (suc s.nest) w.nest i)
    (or_passed (keeps Places s.places w.places i)
    (or_passed (keeps Total (total + s.places) w.all i)
    (or_passed (keeps Instances (suc s.instances) w.instances i)
    (or_passed (keeps Cells (s.places + s.cells) w.cells i) (keeps Calls (suc s.calls) w.calls i)))))

limit-left : (f : List ℕ) (a : Option Limit) (b : Option (List ℕ × Limit)) → counts.at_node f a b ≡ None → a ≡ None
limit-left f None b h = refl
limit-left f (Some a) b h = absurd cc

limit-right : (f : List ℕ) (a : Option Limit) (b : Option (List ℕ × Limit)) → counts.at_node f a b ≡ None → b ≡ None
limit-right f None b h = h
limit-right f (Some a) b h = absurd cc

items-within : (items : List Item) (known : List ℕ → Size) (total : ℕ) → AreWithin known total items → counts.in_items known total items ≡ None
items-within [] known total w = refl
items-within (TypeItem t ∷ items) known total w = items-within items known total w
items-within (NodeItem n ∷ items) known total w =
    let s = sizes.in_node known n in
    λ i. counts.at_node n.name (node-within total s w.0 i) (items-within items (sizes.with_node known n.name s) (total + s.places) w.1 i)

within-items : (items : List Item) (known : List ℕ → Size) (total : ℕ) → counts.in_items known total items ≡ None → AreWithin known total items
within-items [] known total h = tt
within-items (TypeItem t ∷ items) known total h = within-items items known total h
within-items (NodeItem n ∷ items) known total h =
    let s = sizes.in_node known n in
    let rest = counts.in_items (sizes.with_node known n.name s) (total + s.places) items in (
      within-node total s (limit-left n.name (passed_by total s) rest h),
      within-items items (sizes.with_node known n.name s) (total + s.places) (limit-right n.name (passed_by total s) rest h),
    )

-- ---- programs

pub formed_law : (program : List Item) → (HasShapes program × KeepsLimits program) ↔ IsFormed program
formed_law program = (λ w. both (items-shaped program shapes.nothing_known w.0) (items-within program sizes.nothing_known 0 w.1), λ h. split (shapes.breach_in program) (counts.limit_of program) h refl refl)
  where
    both : shapes.breach_in program ≡ None → counts.limit_of program ≡ None → IsFormed program
    both a b = λ i. first_of (a i) (b i)

    split : (a : Option (List ℕ × Breach)) (b : Option (List ℕ × Limit)) → first_of a b ≡ None → shapes.breach_in program ≡ a → counts.limit_of program ≡ b → HasShapes program × KeepsLimits program
    split None None h p q = (shaped-items program shapes.nothing_known p, within-items program sizes.nothing_known 0 q)
    split None (Some l) h p q = absurd cc
    split (Some b) l h p q = absurd cc
