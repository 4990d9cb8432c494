-- The node that chooses, made of the clocked equations of a node.
use Rattle.std.proofs.Common.{◌≡◌, ℕ, suc, ◌-◌, Bool, true, false, if◌then◌else◌, List, [], ◌∷◌, ◌++◌, length, slice_get, Some, refl, sym, subst, arith}
use Rattle.std.specs.List.{AllByRecursion}
use Rattle.std.proofs.lemmas.List.{append_assoc, length-append}
use Rattle.hp_base.specs.Kinds.{Bools}
use Rattle.hp_obc.specs.Machines.{ObcType}
use Rattle.hp_obc.specs.declared.command.ObcOp.TheVariants.{Copy}
use Rattle.hp_tree.specs.Blocks.{Block}
use Rattle.hp_tree.specs.Programs.{Node}
use Rattle.hp_flat.specs.declared.node.FlatTy.TheVariants.{Bool as Truth}
use Rattle.hp_flat.specs.Equations.{Clock, Right, operator, register, called, FlatEqn}
use Rattle.hp_flat.specs.Nodes.{FlatNode}
use Rattle.law_automata.specs.Lowered.Standing.{Along}
use Rattle.law_equations.specs.Meaning.Kinding.{Callees}
use Rattle.hp_watch.specs.Walk.{is_event, events_from, walk_block}
use Rattle.hp_watch.specs.Watching.{Observing, surveyed, unwatched, Watched, with_places, walked, IsWatched}
use Rattle.law_choices.specs.Closed.Clocking.{IsCopy}
use Rattle.law_choices.specs.Adding.Choosing.{IsOfNode, WatchingLaw, ChoosingLaw}
use Rattle.law_choices.specs.Adding.Controls.{IsThereAlways, HaveControlKinds}
use Rattle.law_choices.specs.Adding.Lifts.{HaveBytes, IsOn}
use Rattle.law_choices.specs.Adding.Surveyed.{AllSuit, IsNoCopy, IsSeen, MayBeSurveyed}
use Rattle.law_choices.specs.Adding.Watched.{AreBitsOf, HasBits}
use Rattle.law_choices.specs.Adding.Whole.{WholeLaw}
use Rattle.law_choices.proofs.ClosedLemmas.ClosedLaws.{each_other}
use Rattle.law_choices.proofs.PlacesLemmas.Relating.{block-goes}
use Rattle.law_choices.proofs.AddingLemmas.One.{keeps-both}
use Rattle.law_choices.proofs.AddingLemmas.Bits.{kind_on}
use Rattle.law_choices.proofs.AddingLemmas.Decoding.{kinds-more}
use Rattle.law_choices.proofs.AddingLemmas.Surveyed.{surveyed_law}
use Rattle.law_choices.proofs.AddingLemmas.Watched.{watched_law}

-- ---- comparisons and calls are no copies

no_copy : (r : Right) → is_event r ≡ true → IsCopy r → ⊥
no_copy (operator Copy args) e c = absurd cc
no_copy (operator op args) e c = absurd c
no_copy (register first next) e c = absurd c
no_copy (called f args) e c = absurd c

-- a number of an event among equations
abbrev pub HasEvent : List FlatEqn → ℕ → Type 0
HasEvent es k = (e : FlatEqn) × (slice_get es k ≡ Some e) × (IsCopy e.right → ⊥)

at_last : (before : List FlatEqn) (e : FlatEqn) (es : List FlatEqn) → slice_get (before ++ e ∷ es) (length before) ≡ Some e
at_last [] e es = refl
at_last (d ∷ before) e es = at_last before e es

pub events_are : (before es : List FlatEqn) → AllByRecursion (HasEvent (before ++ es)) (events_from (length before) es)
events_are before [] = tt
events_are before (e ∷ es) = by (is_event e.right) refl (turned (events_are (before ++ e ∷ []) es))
  where
    longer : length (before ++ e ∷ []) ≡ suc (length before)
    longer = let l = length-append before (e ∷ []) in omega (arith, l)

    turned : AllByRecursion (HasEvent ((before ++ e ∷ []) ++ es)) (events_from (length (before ++ e ∷ [])) es) → AllByRecursion (HasEvent (before ++ e ∷ es)) (events_from (suc (length before)) es)
    turned h = subst (λ k. AllByRecursion (HasEvent (before ++ e ∷ es)) (events_from k es)) longer (subst (λ ds. AllByRecursion (HasEvent ds) (events_from (length (before ++ e ∷ [])) es)) (append_assoc before (e ∷ []) es) h)

    by : (b : Bool) → is_event e.right ≡ b → AllByRecursion (HasEvent (before ++ e ∷ es)) (events_from (suc (length before)) es)
        → AllByRecursion (HasEvent (before ++ e ∷ es)) (if b then length before ∷ events_from (suc (length before)) es else events_from (suc (length before)) es)
    by true q rest = ((e, at_last before e es, no_copy e.right q), rest)
    by false q rest = rest

-- ---- a walk finds no more than is there

pub to_along : (P : ℕ → Type 0) (xs : List ℕ) → AllByRecursion P xs → Along (λ (x y : ℕ). P x) xs xs
to_along P [] h = tt
to_along P (x ∷ xs) h = (h.0, to_along P xs h.1)

pub from_along : (P : ℕ → Type 0) (xs ys : List ℕ) → Along (λ (x y : ℕ). P x) xs ys → AllByRecursion P xs
from_along P [] ys h = tt
from_along P (x ∷ xs) [] h = absurd h
from_along P (x ∷ xs) (y ∷ ys) h = (h.0, from_along P xs ys h.1)

walk_keeps : (P : ℕ → Type 0) (b : Block) (xs : List ℕ) → AllByRecursion P xs → AllByRecursion P (walk_block b xs).0
walk_keeps P b xs h = from_along P (walk_block b xs).0 (walk_block b xs).0 (block-goes (λ (x y : ℕ). P x) b xs xs (to_along P xs h)).0

-- ---- the node that is watched

module _ (types : List ObcType) (callees : Callees) (clock : ℕ → Clock) (observers : Observing) (node : Node) (is_early : List Bool) (n : FlatNode) (w : Watched) (bytes : HaveBytes types) (of_node : IsOfNode types callees clock node n)
    (suit : AllSuit types callees observers) (is : IsWatched types observers node is_early n w) where
  order_free : AllByRecursion (IsNoCopy n) (walked node n)
  order_free = walk_keeps (IsNoCopy n) node.body (events_from 0 n.eqns) (events_are [] n.eqns)

  -- it has observers, and its free places are free in it
  pub seen_in : IsSeen types callees clock n (surveyed observers (is.fits).own (length node.inputs) (walked node n) n)
  seen_in =
      let fits = is.fits in
      let own = fits.own in
      let may : MayBeSurveyed types callees clock (length node.inputs) (walked node n) n = record { few = of_node.few; takes = of_node.takes; gives = of_node.gives; own = of_node.own; events = order_free } in
      surveyed_law types callees clock observers own (length node.inputs) (walked node n) n bytes of_node.based may suit fits.has

  watched : HasBits types callees clock n w
  watched =
      let fits = is.fits in
      let own = fits.own in
      let s = surveyed observers own (length node.inputs) (walked node n) n in
      let seen = seen_in in
      let k = seen.keeps in
      let bits = watched_law types callees k.clocks s.node s.free is_early bytes k.built seen.free in
      let made = with_places types s.free is_early (unwatched s.node) in
      subst (HasBits types callees clock n) (sym is.is) (record { keeps = keeps-both types callees n s.node made.node clock k bits.keeps; early = bits.early; late = bits.late })

pub watching_law : WatchingLaw
watching_law types callees clock observers node is_early n w bytes of_node suit is = watched types callees clock observers node is_early n w bytes of_node suit is

-- ---- the node that chooses

pub bits_there : (types : List ObcType) (callees : Callees) (n : FlatNode) (clock : ℕ → Clock) (xs : List ℕ) → AreBitsOf n clock xs → AllByRecursion (IsThereAlways types n clock Bools) xs
bits_there types callees n clock xs h = each_other (IsOn n clock [] Truth) (IsThereAlways types n clock Bools) (λ x i. record { variable = i.variable; there = i.there; kind = kind_on types callees n clock [] Truth x i }) xs h

pub choosing_law : WholeLaw → ChoosingLaw
choosing_law whole_law types callees clock observers node is_early n w bytes of_node suit is m name controls other can asked kinds whole =
    let h = watching_law types callees clock observers node is_early n w bytes of_node suit is in
    let k = h.keeps in
    let g = k.grows in
    let v = g.variables in
    let few = can.inputs in
    let b = of_node.based in
    let i = b.well.within in
    let l = i.inputs in
    let same = g.inputs in
    let there : HaveControlKinds types w.node.variables (n.inputs - length controls) controls = subst (λ vs. HaveControlKinds types vs (n.inputs - length controls) controls) (sym v.1) (kinds-more types callees n.variables v.0 (n.inputs - length controls) controls (omega (arith, few, l, same)) kinds) in
    whole_law types callees clock n w.node other m name w.early w.late controls b k (record {
      controllable = can;
      asked = asked;
      early_there = bits_there types callees w.node k.clocks w.early h.early;
      late_there = bits_there types callees w.node k.clocks w.late h.late;
      kinds = subst (λ z. HaveControlKinds types w.node.variables (z - length controls) controls) (sym same) there;
    }) whole
