-- The answer of a program is made of those of its nodes.
use Rattle.std.proofs.Common.{◌≡◌, ℕ, ◌+◌, ◌<◌, ◌≤◌, get_or, length, drop, map, List, [], ◌∷◌, ◌++◌, Vec, Global, refl, sym, ap, subst, ◌∙◌}
use Rattle.std.proofs.lemmas.List.{append_assoc, append-nil, map-append}
use Rattle.hp_tree.specs.declared.program.Item.{Item}
use Rattle.hp_tree.specs.declared.program.Item.TheVariants.{TypeItem, NodeItem}
use Rattle.hp_tree.specs.Programs.{Node}
use Rattle.hp_meaning.specs.Causal.Causality.{IsCausal}
use Rattle.hp_meaning.specs.Causal.Points.{Placed}
use Rattle.hp_meaning.specs.Causal.RanksOfPoints.{AllFall}
use Rattle.hp_cause.specs.declared.error.CauseErr.{CauseErr}
use Rattle.hp_cause.specs.declared.error.CauseErr.TheVariants.{Cycle, OutOfMemory}
use Rattle.hp_cause.specs.Answers.{lists, NamesCycle, NamesNode, ItemOrdered}
use Rattle.hp_cause.specs.Ordering.{AllJudged, AllNodesCausal}
use Rattle.hp_cause.proofs.GrowLaws.{drop-next, drop-end}

pub judged-here : (items : List Item) (i : ℕ) (x : Item) → i < length items → x ≡ get_or items i x → AllJudged (drop i items) → AllJudged (x ∷ [])
judged-here items i x h p j = first x (drop (i + 1) items) (subst AllJudged (drop-next items i x h p) j)
  where
    first : (x : Item) (rest : List Item) → AllJudged (x ∷ rest) → AllJudged (x ∷ [])
    first (TypeItem t) rest j = tt
    first (NodeItem n) rest j = (j.0, j.1, j.2, tt)

pub judged-behind : (items : List Item) (i : ℕ) (x : Item) → i < length items → x ≡ get_or items i x → AllJudged (drop i items) → AllJudged (drop (i + 1) items)
judged-behind items i x h p j = rest x (drop (i + 1) items) (subst AllJudged (drop-next items i x h p) j)
  where
    rest : (x : Item) (more : List Item) → AllJudged (x ∷ more) → AllJudged more
    rest (TypeItem t) more j = j
    rest (NodeItem n) more j = j.3

-- What the items from one on give, all give, where the ones before have these ranks.
pub record FromHere (items : List Item) (done : List (List ℕ)) (rest : List Item) : Type 0 where
  pub judged : AllJudged rest
  pub ordered : (more : List (List ℕ)) → AllFall rest more → AllFall items (done ++ more)
  pub causal : AllNodesCausal rest → AllNodesCausal items
  pub named : (e : CauseErr) → NamesCycle rest e → NamesCycle items e

pub from-start : (items : List Item) → AllJudged items → FromHere items [] items
from-start items j = record { judged = j; ordered = λ more h. h; causal = λ h. h; named = λ e h. h }

causal_first : (x : Item) (rest : List Item) (before after : List (List ℕ)) → ItemOrdered x before after → AllNodesCausal rest → AllNodesCausal (x ∷ rest)
causal_first (TypeItem t) rest before after h k = k
causal_first (NodeItem n) rest before after h k = (h.1.1.2, k)

named_behind : (x : Item) (rest : List Item) (before after : List (List ℕ)) (e : CauseErr) → ItemOrdered x before after → NamesCycle rest e → NamesCycle (x ∷ rest) e
named_behind x rest before after (Cycle name named) h l =
    record { before = x ∷ l.before; node = l.node; behind = l.behind; split = ap (λ more. x ∷ more) l.split; is = l.is; earlier = causal_first x l.before before after h l.earlier; cycle = l.cycle }
named_behind x rest before after OutOfMemory h l = tt

fall_first : (items : List Item) (x : Item) (rest : List Item) (before after : List (List ℕ)) → ItemOrdered x before after → ((more : List (List ℕ)) → AllFall (x ∷ rest) more → AllFall items (before ++ more)) → (more : List (List ℕ)) → AllFall rest more → AllFall items (after ++ more)
fall_first items (TypeItem t) rest before after h f more k = subst (λ ranks. AllFall items (ranks ++ more)) h (f more k)
fall_first items (NodeItem n) rest before after h f more k =
    subst (AllFall items) (sym (ap (λ ranks. ranks ++ more) h.1.0 ∙ append_assoc before (h.0 ∷ []) more)) (f (h.0 ∷ more) (h.1.1.0, h.1.1.1, k))

pub from-next : (items : List Item) (before after : List (List ℕ)) (i : ℕ) (x : Item) → i < length items → x ≡ get_or items i x → FromHere items before (drop i items) → ItemOrdered x before after → FromHere items after (drop (i + 1) items)
from-next items before after i x h p f o =
    let rest = drop (i + 1) items in
    let split : drop i items ≡ x ∷ rest = drop-next items i x h p in
    record {
      judged = judged-behind items i x h p f.judged;
      ordered = fall_first items x rest before after o (λ more k. f.ordered more (subst (λ xs. AllFall xs more) (sym split) k));
      causal = λ k. f.causal (subst AllNodesCausal (sym split) (causal_first x rest before after o k));
      named = λ e k. f.named e (subst (λ xs. NamesCycle xs e) (sym split) (named_behind x rest before after e o k));
    }

cycle_more : (x : Item) (rest : List Item) (e : CauseErr) → NamesCycle (x ∷ []) e → NamesCycle (x ∷ rest) e
cycle_more x rest (Cycle name named) l =
    record { before = l.before; node = l.node; behind = l.behind ++ rest; split = ap (λ more. more ++ rest) l.split ∙ append_assoc l.before (NodeItem l.node ∷ l.behind) rest; is = l.is; earlier = l.earlier; cycle = l.cycle }
cycle_more x rest OutOfMemory l = tt

pub named-here : (items : List Item) (done : List (List ℕ)) (i : ℕ) (x : Item) (e : CauseErr) → i < length items → x ≡ get_or items i x → FromHere items done (drop i items) → NamesCycle (x ∷ []) e → NamesCycle items e
named-here items done i x e h p f k = f.named e (subst (λ xs. NamesCycle xs e) (sym (drop-next items i x h p)) (cycle_more x (drop (i + 1) items) e k))

pub fall-end : (items : List Item) (done : List (List ℕ)) (i : ℕ) → length items ≤ i → FromHere items done (drop i items) → AllFall items done
fall-end items done i h f = subst (AllFall items) (append-nil done) (f.ordered [] (subst (λ xs. AllFall xs []) (sym (drop-end items i h)) tt))

pub causal-end : (items : List Item) (done : List (List ℕ)) (i : ℕ) → length items ≤ i → FromHere items done (drop i items) → AllNodesCausal items
causal-end items done i h f = f.causal (subst AllNodesCausal (sym (drop-end items i h)) tt)

pub names-node : (n : Node) (e : CauseErr) → NamesNode n e → NamesCycle (NodeItem n ∷ []) e
names-node n (Cycle name named) h = record { before = []; node = n; behind = []; split = refl; is = h.0; earlier = tt; cycle = h.1 }
names-node n OutOfMemory h = tt

pub one-more : (xs : List (Vec ℕ Global)) (x : Vec ℕ Global) → lists (xs ++ x ∷ []) ≡ lists xs ++ x.items ∷ []
one-more xs x = map-append (λ (r : Vec ℕ Global). r.items) xs (x ∷ [])

-- ---- a causal program has no cycle

causal_there : (before : List Item) (n : Node) (behind : List Item) → AllNodesCausal (before ++ NodeItem n ∷ behind) → IsCausal n
causal_there [] n behind h = h.0
causal_there (TypeItem t ∷ before) n behind h = causal_there before n behind h
causal_there (NodeItem m ∷ before) n behind h = causal_there before n behind h.1

pub only_memory : (items : List Item) (e : CauseErr) → AllNodesCausal items → NamesCycle items e → e ≡ OutOfMemory
only_memory items (Cycle name named) h l =
    absurd (causal_there l.before l.node l.behind (subst AllNodesCausal l.split h) l.cycle.first.place (map (λ (p : Placed). p.place) l.cycle.others) l.cycle.reads)
only_memory items OutOfMemory h l = refl
