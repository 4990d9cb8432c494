-- The tasks of a walk.
use Rattle.std.proofs.Common.{◌≡◌, ℕ, zero, suc, ◌+◌, ◌<◌, ◌≤◌, ◌⊎◌, inl, inr, Bool, true, false, ◌==◌, List, [], ◌∷◌, ◌++◌, get_or, Some, refl, sym, ap, subst, ◌∙◌, arith, if◌then◌else◌}
use Rattle.std.proofs.lemmas.Bool.{cases_lt, eqb-true, eq-eqb}
use Rattle.std.proofs.lemmas.List.Folds.{list_any_at}
use Rattle.std.proofs.lemmas.Map.Views.{Contains-from_any}
use Rattle.hp_cert.proofs.CertmadeLemmas.WalkLaws.{still_new}
use Rattle.std.specs.List.{Contains, list_any}
use Rattle.hp_diagram.specs.declared.reference.Ref.{Ref}
use Rattle.hp_diagram.specs.declared.reference.Branch.{Branch}
use Rattle.hp_diagram.specs.Diagrams.{Diagrams, branch_of, Has, IsReduced}
use Rattle.hp_cert.specs.declared.certmade.walk.Task.{Task}
use Rattle.hp_cert.specs.declared.certmade.walk.Task.TheVariants.{Enter, Leave}
use Rattle.hp_cert.specs.Certmade.Tasks.{with_node, Does, DoesAll, tasks_from, weight, weights}
use Rattle.hp_cert.specs.Certmade.Walks.{Walks, visit}

-- one more task is done first
pub does_push : (t : Diagrams) (tasks : List Task) (task : Task) (seen between after : List ℕ) → Does t task seen between → DoesAll t tasks between after → DoesAll t (tasks ++ task ∷ []) seen after
does_push t [] task seen between after does same = (seen, refl, subst (λ (a : List ℕ). Does t task seen a) (sym same) does)
does_push t (x ∷ tasks) task seen between after does (middle, others, last) = (middle, does_push t tasks task seen between middle does others, last)

pub does_pop : (t : Diagrams) (tasks : List Task) (task : Task) (seen after : List ℕ) → DoesAll t (tasks ++ task ∷ []) seen after → (between : List ℕ) × Does t task seen between × DoesAll t tasks between after
does_pop t [] task seen after (between, same, does) = (after, subst (λ (a : List ℕ). Does t task a after) same does, refl)
does_pop t (x ∷ tasks) task seen after (middle, others, last) = let r = does_pop t tasks task seen middle others in (r.0, r.1, (middle, r.2, last))

pub weights_push : (tasks : List Task) (task : Task) → weights (tasks ++ task ∷ []) ≡ weights tasks + weight task
weights_push [] task = omega arith
weights_push (x ∷ tasks) task = let h = weights_push tasks task in omega (arith, h)

more_from : (i j : ℕ) → i < suc j → (i < j) ⊎ (j ≤ i) → (i < j → 2 + tasks_from i + tasks_from i ≤ tasks_from j) → 2 + tasks_from i + tasks_from i ≤ tasks_from (suc j)
more_from i j h (inl less) below = let p = below less in omega (arith, p)
more_from i j h (inr more) below = let same : i ≡ j = omega (arith, h, more) in subst (λ k. 2 + tasks_from k + tasks_from k ≤ tasks_from (suc j)) (sym same) (omega arith)

pub more_tasks : (i j : ℕ) → i < j → 2 + tasks_from i + tasks_from i ≤ tasks_from j
more_tasks i zero h = absurd (omega (arith, h))
more_tasks i (suc j) h = more_from i j h (cases_lt i j) (λ less. more_tasks i j less)

-- ---- the tasks of one

pub contained : (seen : List ℕ) (i : ℕ) → list_any (λ k. i == k) seen ≡ true → Contains seen i
contained seen i e = Contains-from_any {eq = λ a b. a == b} (λ x y. eqb-true x y) i seen e

pub not_contained : (seen : List ℕ) (i : ℕ) → list_any (λ k. i == k) seen ≡ false → ¬ Contains seen i
not_contained seen i e c =
    let there = list_any_at (λ k. i == k) seen c.0 i c.1 (eq-eqb i (get_or seen c.0 i) (sym c.2)) in
    absurd (cc)

with_new : (i : ℕ) (seen : List ℕ) → ¬ Contains seen i → with_node i seen ≡ seen ++ i ∷ []
with_new i seen none = by (list_any (λ k. i == k) seen) refl
  where
    by : (b : Bool) → list_any (λ k. i == k) seen ≡ b → with_node i seen ≡ seen ++ i ∷ []
    by true e = absurd (none (Contains-from_any {eq = λ a b. a == b} (λ x y. eqb-true x y) i seen e))
    by false e = ap (λ (b : Bool). if b then seen else seen ++ i ∷ []) e

-- nothing is there to visit
pub nothing_to_do : (t : Diagrams) (tasks : List Task) (r : Ref) (seen after : List ℕ) → Walks t seen r seen → DoesAll t tasks seen after → DoesAll t (tasks ++ Enter r ∷ []) seen after
nothing_to_do t tasks r seen after walk does = does_push t tasks (Enter r) seen seen after walk does

-- a node is visited behind what is visited from its children
module _ (t : Diagrams) (reduced : IsReduced t) where
  pub visit_last : (tasks : List Task) (r : Ref) (b : Branch) (seen after : List ℕ) → branch_of t r ≡ Some b → ¬ Contains seen r.index
      → DoesAll t (((tasks ++ Leave r.index ∷ []) ++ Enter b.high ∷ []) ++ Enter b.low ∷ []) seen after → DoesAll t (tasks ++ Enter r ∷ []) seen after
  visit_last tasks r b seen after is none does =
      let low = does_pop t ((tasks ++ Leave r.index ∷ []) ++ Enter b.high ∷ []) (Enter b.low) seen after does in
      let high = does_pop t (tasks ++ Leave r.index ∷ []) (Enter b.high) low.0 after low.2 in
      let this = does_pop t tasks (Leave r.index) high.0 after high.2 in
      let new = still_new t reduced seen r low.0 high.0 b is none low.1 high.1 in
      let last : this.0 ≡ high.0 ++ r.index ∷ [] = this.1 ∙ with_new r.index high.0 new in
      does_push t tasks (Enter r) seen (high.0 ++ r.index ∷ []) after (visit is none low.1 high.1) (subst (λ (s : List ℕ). DoesAll t tasks s after) last this.2)

-- fewer are left
pub fewer : (t : Diagrams) → IsReduced t → (tasks : List Task) (r : Ref) (b : Branch) → branch_of t r ≡ Some b
    → weights (((tasks ++ Leave r.index ∷ []) ++ Enter b.high ∷ []) ++ Enter b.low ∷ []) < weights tasks + tasks_from r.index
fewer t reduced tasks r b is =
    let node = reduced.nodes r.index b is in
    let low = more_tasks b.low.index r.index node.low in
    let high = more_tasks b.high.index r.index node.high in
    let first = weights_push tasks (Leave r.index) in
    let second = weights_push (tasks ++ Leave r.index ∷ []) (Enter b.high) in
    let third = weights_push ((tasks ++ Leave r.index ∷ []) ++ Enter b.high ∷ []) (Enter b.low) in
    omega (arith, low, high, first, second, third)

pub has_children : (t : Diagrams) → IsReduced t → (r : Ref) (b : Branch) → Has t r → branch_of t r ≡ Some b → Has t b.low × Has t b.high
has_children t reduced r b has is =
    let node = reduced.nodes r.index b is in
    let low = node.low in
    let high = node.high in
    (omega (arith, has, low), omega (arith, has, high))
