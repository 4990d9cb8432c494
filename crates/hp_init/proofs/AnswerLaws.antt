-- A node is found to have one answer, and that of a program is made of those of its nodes.
use Rattle.std.specs.Result.{IfErr}
use Rattle.std.proofs.Common.{◌≡◌, ℕ, ◌+◌, ◌<◌, ◌≤◌, get_or, length, drop, Bool, true, false, IsTrue, if◌then◌else◌, List, [], ◌∷◌, ◌++◌, Option, None, Some, Result, Ok, Err, refl, sym, ap, subst, ◌∙◌}
use Rattle.std.proofs.lemmas.List.{append_assoc}
use Rattle.hp_names.proofs.FoundLaws.{drop-next, drop-end}
use Rattle.hp_base.specs.declared.span.Span.{Span}
use Rattle.hp_tree.specs.declared.program.Item.{Item}
use Rattle.hp_tree.specs.declared.program.Item.TheVariants.{TypeItem, NodeItem}
use Rattle.hp_tree.specs.Programs.{Node}
use Rattle.hp_init.specs.declared.ask.Ask.{Ask}
use Rattle.hp_init.specs.declared.ask.Ask.TheVariants.{Follows, First}
use Rattle.hp_init.specs.declared.error.InitErr.{InitErr}
use Rattle.hp_init.specs.declared.error.InitErr.TheVariants.{Late, OutOfMemory}
use Rattle.hp_init.specs.Classes.{Assignment, AreClasses}
use Rattle.hp_init.specs.Wants as wants
use Rattle.hp_init.specs.Asks.{Valued, ObeysAll, value_of, unmet, of_node}
use Rattle.hp_init.specs.Spreading.{valued, AreLeast}
use Rattle.hp_init.specs.Initialised.{first_unmet, IsFound, IsInitialised, IsLate}
use Rattle.hp_init.proofs.NodeLaws.{node_law}
use Rattle.hp_init.specs.Answers.{NamesLate, NamesNode, unmet_by}

-- ---- the first want that is not met

unmet_after : Valued → Ask → List Ask → Option Span
unmet_after q a asks = elim (unmet_by q a) [ None ↦ unmet q asks | Some at ↦ Some at ]

first_by : (d : Bool) (at : Span) (rest : Option Span) → (if d then Some at else rest) ≡ (elim (if d then Some at else None) [ None ↦ rest | Some u ↦ Some u ])
first_by true at rest = refl
first_by false at rest = refl

unmet_cons : (q : Valued) (a : Ask) (asks : List Ask) → unmet q (a ∷ asks) ≡ unmet_after q a asks
unfolding unmet_after
unmet_cons q (Follows s k) asks = refl
unmet_cons q (First s at) asks = first_by (value_of q s) at (unmet q asks)

pub unmet-next : (q : Valued) (asks : List Ask) (i : ℕ) (a : Ask) → i < length asks → a ≡ get_or asks i a → unmet_by q a ≡ None → unmet q (drop i asks) ≡ unmet q (drop (i + 1) asks)
unfolding unmet_after
unmet-next q asks i a h p e =
    ap (unmet q) (drop-next asks i a h p) ∙ unmet_cons q a (drop (i + 1) asks) ∙ ap (λ (o : Option Span). elim o as (λ _. Option Span) [ None ↦ unmet q (drop (i + 1) asks) | Some at ↦ Some at ]) e

pub unmet-here : (q : Valued) (asks : List Ask) (i : ℕ) (a : Ask) (unit : Span) → i < length asks → a ≡ get_or asks i a → unmet_by q a ≡ Some unit → unmet q (drop i asks) ≡ Some unit
unfolding unmet_after
unmet-here q asks i a unit h p e =
    ap (unmet q) (drop-next asks i a h p) ∙ unmet_cons q a (drop (i + 1) asks) ∙ ap (λ (o : Option Span). elim o as (λ _. Option Span) [ None ↦ unmet q (drop (i + 1) asks) | Some at ↦ Some at ]) e

-- ---- what is found in a node by its least classes

pub node-found : (n : Node) (asks : List Ask) (second : List Bool) (found : Option Span) → asks ≡ of_node n → ObeysAll (valued second) asks → AreLeast (valued second) asks → found ≡ unmet (valued second) asks → IsFound n found
node-found n asks second found gathered obeys least is =
    let all : ObeysAll (valued second) (of_node n) = subst (λ list. ObeysAll (valued second) list) gathered obeys in
    let below : AreLeast (valued second) (of_node n) = subst (λ list. AreLeast (valued second) list) gathered least in
    subst (λ f. IsFound n f) (sym (is ∙ ap (unmet (valued second)) gathered)) (node_law (valued second) n all below)

-- ---- a node is found to have one answer

both_ways : (a b : Bool) → (IsTrue a → IsTrue b) → (IsTrue b → IsTrue a) → a ≡ b
both_ways true true f g = refl
both_ways true false f g = sym (f refl)
both_ways false true f g = g refl
both_ways false false f g = refl

one_assignment : (n : Node) (class other : Assignment) → AreClasses n class → AreClasses n other → class ≡ other
one_assignment n class other a b = λ j p. both_ways (class p) (other p) (a.1 other b.0 p) (b.1 class a.0 p) j

pub one-found : (n : Node) (a b : Option Span) → IsFound n a → IsFound n b → a ≡ b
one-found n a b f g = sym f.1.1 ∙ ap (λ class. first_unmet (wants.of_node class n)) (one_assignment n f.0 g.0 f.1.0 g.1.0) ∙ g.1.1

-- ---- programs

pub all-first : (x : Item) (rest : List Item) → IsInitialised (x ∷ []) → IsInitialised rest → IsInitialised (x ∷ rest)
all-first (TypeItem t) rest h k = k
all-first (NodeItem n) rest h k = (h.0, k)

late_more : (items rest : List Item) (name : List ℕ) (at : Span) → IsLate items name at → IsLate (items ++ rest) name at
late_more items rest name at l =
    record {
      before = l.before;
      node = l.node;
      behind = l.behind ++ rest;
      split = ap (λ more. more ++ rest) l.split ∙ append_assoc l.before (NodeItem l.node ∷ l.behind) rest;
      named = l.named;
      earlier = l.earlier;
      late = l.late;
    }

late_behind : (x : Item) (rest : List Item) (name : List ℕ) (at : Span) → IsInitialised (x ∷ []) → IsLate rest name at → IsLate (x ∷ rest) name at
late_behind x rest name at h l =
    record {
      before = x ∷ l.before;
      node = l.node;
      behind = l.behind;
      split = ap (λ more. x ∷ more) l.split;
      named = l.named;
      earlier = all-first x l.before h l.earlier;
      late = l.late;
    }

pub names-first : (x : Item) (rest : List Item) (e : InitErr) → NamesLate (x ∷ []) e → NamesLate (x ∷ rest) e
names-first x rest (Late name at) l = late_more (x ∷ []) rest name at l
names-first x rest OutOfMemory l = tt

pub names-behind : (x : Item) (rest : List Item) (e : InitErr) → IsInitialised (x ∷ []) → NamesLate rest e → NamesLate (x ∷ rest) e
names-behind x rest (Late name at) h l = late_behind x rest name at h l
names-behind x rest OutOfMemory h l = tt

pub names-node : (n : Node) (e : InitErr) → NamesNode n e → NamesLate (NodeItem n ∷ []) e
names-node n (Late name at) h = record { before = []; node = n; behind = []; split = refl; named = h.0; earlier = tt; late = h.1 }
names-node n OutOfMemory h = tt

node_initialised : (before : List Item) (n : Node) (behind : List Item) → IsInitialised (before ++ NodeItem n ∷ behind) → IsFound n None
node_initialised [] n behind h = h.0
node_initialised (TypeItem t ∷ before) n behind h = node_initialised before n behind h
node_initialised (NodeItem m ∷ before) n behind h = node_initialised before n behind h.1

none_late : (items : List Item) (e : InitErr) → IsInitialised items → NamesLate items e → e ≡ OutOfMemory
none_late items (Late name at) h l =
    let found : IsFound l.node None = node_initialised l.before l.node l.behind (subst IsInitialised l.split h) in
    let no : None ≡ Some at = one-found l.node None (Some at) found l.late in
    absurd cc
none_late items OutOfMemory h l = refl

pub accepted-law : (items : List Item) (r : Result (Unit {0}) InitErr) → IfErr r (NamesLate items) → IsInitialised items → IfErr r (λ e. e ≡ OutOfMemory)
accepted-law items (Ok u) l h = tt
accepted-law items (Err e) l h = none_late items e h l

-- what a program's items give from one on they give for all
pub record FromHere (items here : List Item) : Type 0 where
  pub all : IsInitialised here → IsInitialised items
  pub late : (e : InitErr) → NamesLate here e → NamesLate items e

pub from-next : (items : List Item) (i : ℕ) (x : Item) → i < length items → x ≡ get_or items i x → IsInitialised (x ∷ []) → FromHere items (drop i items) → FromHere items (drop (i + 1) items)
from-next items i x h p ok known =
    let next : x ∷ drop (i + 1) items ≡ drop i items = sym (drop-next items i x h p) in
    record {
      all = λ k. known.all (subst IsInitialised next (all-first x (drop (i + 1) items) ok k));
      late = λ e l. known.late e (subst (λ more. NamesLate more e) next (names-behind x (drop (i + 1) items) e ok l));
    }

pub late-here : (items : List Item) (i : ℕ) (x : Item) (e : InitErr) → i < length items → x ≡ get_or items i x → NamesLate (x ∷ []) e → FromHere items (drop i items) → NamesLate items e
late-here items i x e h p l known = known.late e (subst (λ more. NamesLate more e) (sym (drop-next items i x h p)) (names-first x (drop (i + 1) items) e l))

pub from-end : (items : List Item) (i : ℕ) → length items ≤ i → FromHere items (drop i items) → IsInitialised items
from-end items i h known = known.all (subst IsInitialised (sym (drop-end items i h)) tt)
