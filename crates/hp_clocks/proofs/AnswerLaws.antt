-- What is said of the nodes of a program, one after another.
use Rattle.std.specs.Result.{IfErr, IsErrAnd}
use Rattle.std.proofs.Common.{◌≡◌, ℕ, ◌+◌, ◌<◌, ◌≤◌, get_or, length, drop, List, [], ◌∷◌, ◌++◌, Result, Ok, Err, refl, sym, ap, subst, ◌∙◌, arith}
use Rattle.std.specs.Prelude.{⊤, All}
use Rattle.std.proofs.lemmas.List.{append_assoc, append-nil}
use Rattle.std.proofs.lemmas.List.Elements.{All-cons}
use Rattle.hp_base.specs.declared.span.Span.{Span}
use Rattle.hp_base.specs.declared.limit.Limit.{Limit}
use Rattle.hp_tree.specs.declared.program.Item.{Item}
use Rattle.hp_tree.specs.declared.program.Item.TheVariants.{TypeItem, NodeItem}
use Rattle.hp_tree.specs.Programs.{Node}
use Rattle.hp_meaning.specs.Clocking.Clocking.{Assignment, AllAllow, IsAllowed, AreClocks, node_sights, node_units, NodeNamed}
use Rattle.hp_meaning.specs.Clocking.Solving.{FirstClash}
use Rattle.hp_meaning.proofs.ClockingLemmas.Judging.{one}
use Rattle.hp_meaning.proofs.ClockingLemmas.Units.{all_allow}
use Rattle.hp_clocks.specs.declared.error.ClockErr.{ClockErr}
use Rattle.hp_clocks.specs.declared.error.ClockErr.TheVariants as error
use Rattle.hp_clocks.specs.declared.solve.Solution.{Solution}
use Rattle.hp_clocks.specs.declared.solved.SolvedNode.{SolvedNode}
use Rattle.hp_clocks.specs.Solved.{IsSolved}
use Rattle.hp_clocks.specs.Writing.{Path, paths_of_node, AreWritten, items_written}
use Rattle.hp_clocks.specs.Answers.{AreShortest, AreLong, IsClocked, HaveClocks, NoneLong, AreNamed, IsClash, Refuses, NamesNode, NamesClash, AreSolved, AddsSolved, IsKnown, IsShort, NamesLong, AreShort, IsFirstLong, too_long, all_paths, ArePaths}
use Rattle.hp_clocks.proofs.Leading.{drop_next, drop_end}
use Rattle.hp_clocks.proofs.WriteLaws.{solved_paths as paths_are, items_clocked}

-- ---- clashes

pub clocks_first : (x : Item) (rest : List Item) → HaveClocks (x ∷ []) → HaveClocks rest → HaveClocks (x ∷ rest)
clocks_first (TypeItem t) rest h k = k
clocks_first (NodeItem n) rest h k = (h.0, k)

clash_more : (items rest : List Item) (name : List ℕ) (at : Span) → IsClash items name at → IsClash (items ++ rest) name at
clash_more items rest name at l =
    record {
      before = l.before;
      node = l.node;
      behind = l.behind ++ rest;
      split = ap (λ more. more ++ rest) l.split ∙ append_assoc l.before (NodeItem l.node ∷ l.behind) rest;
      named = l.named;
      earlier = l.earlier;
      clash = l.clash;
    }

clash_behind : (x : Item) (rest : List Item) (name : List ℕ) (at : Span) → HaveClocks (x ∷ []) → IsClash rest name at → IsClash (x ∷ rest) name at
clash_behind x rest name at h l =
    record {
      before = x ∷ l.before;
      node = l.node;
      behind = l.behind;
      split = ap (λ more. x ∷ more) l.split;
      named = l.named;
      earlier = clocks_first x l.before h l.earlier;
      clash = l.clash;
    }

names_first : (x : Item) (rest : List Item) (e : ClockErr) → NamesClash (x ∷ []) e → NamesClash (x ∷ rest) e
names_first x rest (error.Clash name at) l = clash_more (x ∷ []) rest name at l
names_first x rest (error.Limit name limit) l = l
names_first x rest error.OutOfMemory l = tt

names_behind : (x : Item) (rest : List Item) (e : ClockErr) → HaveClocks (x ∷ []) → NamesClash rest e → NamesClash (x ∷ rest) e
names_behind x rest (error.Clash name at) h l = clash_behind x rest name at h l
names_behind x rest (error.Limit name limit) h l = l
names_behind x rest error.OutOfMemory h l = tt

names_node : (n : Node) (e : ClockErr) → NamesNode n e → NamesClash (NodeItem n ∷ []) e
names_node n (error.Clash name at) h = record { before = []; node = n; behind = []; split = refl; named = h.0; earlier = tt; clash = h.1 }
names_node n (error.Limit name limit) h = h
names_node n error.OutOfMemory h = tt

pub err_node : (n : Node) (x : Item) (r : Result ⊤ ClockErr) → x ≡ NodeItem n → IfErr r (NamesNode n) → IfErr r (NamesClash (x ∷ []))
err_node n x (Ok u) e h = tt
err_node n x (Err k) e h = subst (λ z. NamesClash (z ∷ []) k) (sym e) (names_node n k h)

-- ---- nodes that are solved so far

added_clocks : (x : Item) (old new : List SolvedNode) → AddsSolved x old new → HaveClocks (x ∷ [])
added_clocks (TypeItem t) old new a = tt
added_clocks (NodeItem n) old new a = ((a.2.1.at, a.2.1.shortest.0), tt)

added_solved : (x : Item) (rest : List Item) (old new ss : List SolvedNode) (items : List Item) → AddsSolved x old new → ((more : List SolvedNode) → AreSolved (x ∷ rest) more → AreSolved items (old ++ more)) → AreSolved rest ss → AreSolved items (new ++ ss)
added_solved (TypeItem t) rest old new ss items a f h = subst (λ z. AreSolved items (z ++ ss)) (sym a) (f ss h)
added_solved (NodeItem n) rest old new ss items a f h =
    subst (λ z. AreSolved items z) (sym (ap (λ z. z ++ ss) a.1 ∙ append_assoc old (a.0 ∷ []) ss)) (f (a.0 ∷ ss) (a.2, h))

pub record SoFar (items here : List Item) (solved : List SolvedNode) : Type 0 where
  pub all : (ss : List SolvedNode) → AreSolved here ss → AreSolved items (solved ++ ss)
  pub clash : (e : ClockErr) → NamesClash here e → NamesClash items e

pub so_far_start : (items : List Item) (solved : List SolvedNode) → solved ≡ [] → SoFar items items solved
so_far_start items solved e = record { all = λ ss h. subst (λ z. AreSolved items (z ++ ss)) (sym e) h; clash = λ k h. h }

pub so_far_next : (items : List Item) (i : ℕ) (x : Item) (old new : List SolvedNode) → i < length items → x ≡ get_or items i x → AddsSolved x old new → SoFar items (drop i items) old → SoFar items (drop (i + 1) items) new
so_far_next items i x old new h p a s =
    let next : x ∷ drop (i + 1) items ≡ drop i items = sym (drop_next items i x h p) in
    record {
      all = λ ss k. added_solved x (drop (i + 1) items) old new ss items a (λ more m. s.all more (subst (λ z. AreSolved z more) next m)) k;
      clash = λ e k. s.clash e (subst (λ z. NamesClash z e) next (names_behind x (drop (i + 1) items) e (added_clocks x old new a) k));
    }

pub so_far_clash : (items : List Item) (i : ℕ) (x : Item) (e : ClockErr) (solved : List SolvedNode) → i < length items → x ≡ get_or items i x → NamesClash (x ∷ []) e → SoFar items (drop i items) solved → NamesClash items e
so_far_clash items i x e solved h p l s = s.clash e (subst (λ z. NamesClash z e) (sym (drop_next items i x h p)) (names_first x (drop (i + 1) items) e l))

pub so_far_end : (items : List Item) (i : ℕ) (solved : List SolvedNode) → length items ≤ i → SoFar items (drop i items) solved → AreSolved items solved
so_far_end items i solved h s =
    subst (λ z. AreSolved items z) (append-nil solved) (s.all [] (subst (λ z. AreSolved z []) (sym (drop_end items i h)) tt))

-- ---- what solved nodes are

pub known_solved : (n : Node) (s : Solution) → IsSolved n s → IsKnown s
known_solved n s h = record { cells = h.cells; locals = h.locals_there; rights = h.rights_there }

all_nothing : (P : SolvedNode → Type 0) → All P []
all_nothing P k d h = absurd (omega (arith, h))

pub all_known : (items : List Item) (ss : List SolvedNode) → AreSolved items ss → All (λ (s : SolvedNode). IsKnown s.solution) ss
all_known [] [] h = all_nothing (λ s. IsKnown s.solution)
all_known [] (s ∷ ss) h = absurd h
all_known (TypeItem t ∷ items) ss h = all_known items ss h
all_known (NodeItem n ∷ items) [] h = absurd h
all_known (NodeItem n ∷ items) (s ∷ ss) h = All-cons (λ (z : SolvedNode). IsKnown z.solution) s ss (known_solved n s.solution h.0.1) (all_known items ss h.1)

pub have_clocks : (items : List Item) (ss : List SolvedNode) → AreSolved items ss → HaveClocks items
have_clocks [] ss h = tt
have_clocks (TypeItem t ∷ items) ss h = have_clocks items ss h
have_clocks (NodeItem n ∷ items) [] h = absurd h
have_clocks (NodeItem n ∷ items) (s ∷ ss) h = ((h.0.1.at, h.0.1.shortest.0), have_clocks items ss h.1)

-- ---- lengths

short_is : (n : Node) (s : Solution) → IsSolved n s → IsShort s → (at : Assignment) → AreShortest n at → NodeNamed n → AreLong n at → ⊥
short_is n s h k at a d l = k n h d (subst (λ z. AreLong n z) (one n at h.at a h.shortest) l)

-- the paths of solved nodes
pub are_paths : (items : List Item) (ss : List SolvedNode) → AreSolved items ss → AreShort ss → ArePaths items (all_paths ss)
are_paths [] [] h k = ([], tt, refl)
are_paths [] (s ∷ ss) h k = absurd h
are_paths (TypeItem t ∷ items) ss h k = let r = are_paths items ss h k in (r.0, r.1, r.2)
are_paths (NodeItem n ∷ items) [] h k = absurd h
are_paths (NodeItem n ∷ items) (s ∷ ss) h k =
    let r = are_paths items ss h.1 k.1 in (
      h.0.1.at ∷ r.0,
      ((h.0.1.shortest, λ d l. k.0 n h.0.1 d l), r.1),
      ap (λ z. z ++ all_paths ss) (paths_are n s.solution h.0.1) ∙ ap (λ z. paths_of_node h.0.1.at n ++ z) r.2,
    )

-- ---- the first node with a clock that is too long

short_more : (x : Item) (rest : List Item) → NoneLong (x ∷ []) → NoneLong rest → NoneLong (x ∷ rest)
short_more (TypeItem t) rest h k = k
short_more (NodeItem n) rest h k = (h.0, k)

record LongIn (items : List Item) (name : List ℕ) (limit : Limit) : Type 0 where
  before : List Item
  node : Node
  behind : List Item
  split : items ≡ before ++ NodeItem node ∷ behind
  named : node.name ≡ name
  passed : limit ≡ too_long
  earlier : NoneLong before
  at : Assignment
  shortest : AreShortest node at
  long : NodeNamed node → AreLong node at

long_behind : (x : Item) (rest : List Item) (name : List ℕ) (limit : Limit) → NoneLong (x ∷ []) → LongIn rest name limit → LongIn (x ∷ rest) name limit
long_behind x rest name limit h l =
    record {
      before = x ∷ l.before;
      node = l.node;
      behind = l.behind;
      split = ap (λ more. x ∷ more) l.split;
      named = l.named;
      passed = l.passed;
      earlier = short_more x l.before h l.earlier;
      at = l.at;
      shortest = l.shortest;
      long = l.long;
    }

long_in : (items : List Item) (before : List SolvedNode) (s : SolvedNode) (behind : List SolvedNode) (name : List ℕ) (limit : Limit) → AreSolved items (before ++ s ∷ behind) → AreShort before → NamesLong s (error.Limit name limit) → LongIn items name limit
long_in [] [] s behind name limit h k l = absurd h
long_in [] (b ∷ before) s behind name limit h k l = absurd h
long_in (TypeItem t ∷ items) before s behind name limit h k l = long_behind (TypeItem t) items name limit tt (long_in items before s behind name limit h k l)
long_in (NodeItem n ∷ items) [] s behind name limit h k l =
    record {
      before = [];
      node = n;
      behind = items;
      split = refl;
      named = sym h.0.0 ∙ l.0;
      passed = l.1;
      earlier = tt;
      at = h.0.1.at;
      shortest = h.0.1.shortest;
      long = λ d. l.2 n h.0.1 d;
    }
long_in (NodeItem n ∷ items) (b ∷ before) s behind name limit h k l =
    long_behind (NodeItem n) items name limit ((λ at a d m. short_is n b.solution h.0.1 k.0 at a d m), tt) (long_in items before s behind name limit h.1 k.1 l)

pub refuses_long : (items : List Item) (ss : List SolvedNode) (e : ClockErr) → AreSolved items ss → IsFirstLong ss e → Refuses items e
refuses_long items ss (error.Clash name at) h l = absurd l.long
refuses_long items ss (error.Limit name limit) h l =
    let f = long_in items l.before l.one l.behind name limit (subst (λ z. AreSolved items z) l.split h) l.earlier l.long in
    record {
      before = f.before;
      node = f.node;
      behind = f.behind;
      split = f.split;
      named = f.named;
      passed = f.passed;
      clocks = have_clocks items ss h;
      earlier = f.earlier;
      at = f.at;
      shortest = f.shortest;
      long = f.long;
    }
refuses_long items ss error.OutOfMemory h l = tt

-- ---- solved nodes whose lengths are looked at

short_first : (s : SolvedNode) (rest : List SolvedNode) (e : ClockErr) → NamesLong s e → IsFirstLong (s ∷ rest) e
short_first s rest e l = record { before = []; one = s; behind = rest; split = refl; earlier = tt; long = l }

short_behind : (s : SolvedNode) (rest : List SolvedNode) (e : ClockErr) → IsShort s.solution → IsFirstLong rest e → IsFirstLong (s ∷ rest) e
short_behind s rest e h l =
    record { before = s ∷ l.before; one = l.one; behind = l.behind; split = ap (λ z. s ∷ z) l.split; earlier = (h, l.earlier); long = l.long }

pub record ShortSoFar (ss here : List SolvedNode) : Type 0 where
  pub all : AreShort here → AreShort ss
  pub long : (e : ClockErr) → IsFirstLong here e → IsFirstLong ss e

pub short_start : (ss : List SolvedNode) → ShortSoFar ss ss
short_start ss = record { all = λ h. h; long = λ e l. l }

pub short_next : (ss : List SolvedNode) (i : ℕ) (s : SolvedNode) → i < length ss → s ≡ get_or ss i s → IsShort s.solution → ShortSoFar ss (drop i ss) → ShortSoFar ss (drop (i + 1) ss)
short_next ss i s h p k f =
    let next : s ∷ drop (i + 1) ss ≡ drop i ss = sym (drop_next ss i s h p) in
    record {
      all = λ m. f.all (subst AreShort next (k, m));
      long = λ e l. f.long e (subst (λ z. IsFirstLong z e) next (short_behind s (drop (i + 1) ss) e k l));
    }

pub short_long : (ss : List SolvedNode) (i : ℕ) (s : SolvedNode) (e : ClockErr) → i < length ss → s ≡ get_or ss i s → NamesLong s e → ShortSoFar ss (drop i ss) → IsFirstLong ss e
short_long ss i s e h p l f = f.long e (subst (λ z. IsFirstLong z e) (sym (drop_next ss i s h p)) (short_first s (drop (i + 1) ss) e l))

pub short_end : (ss : List SolvedNode) (i : ℕ) → length ss ≤ i → ShortSoFar ss (drop i ss) → AreShort ss
short_end ss i h f = f.all (subst AreShort (sym (drop_end ss i h)) tt)

-- ---- programs whose nodes have clocks

clocks_at : (before : List Item) (n : Node) (behind : List Item) → HaveClocks (before ++ NodeItem n ∷ behind) → (at : Assignment) × IsAllowed n at
clocks_at [] n behind h = h.0
clocks_at (TypeItem t ∷ before) n behind h = clocks_at before n behind h
clocks_at (NodeItem m ∷ before) n behind h = clocks_at before n behind h.1

none_long_at : (before : List Item) (n : Node) (behind : List Item) → NoneLong (before ++ NodeItem n ∷ behind) → (at : Assignment) → AreShortest n at → NodeNamed n → AreLong n at → ⊥
none_long_at [] n behind h = h.0
none_long_at (TypeItem t ∷ before) n behind h = none_long_at before n behind h
none_long_at (NodeItem m ∷ before) n behind h = none_long_at before n behind h.1

named_at : (before : List Item) (n : Node) (behind : List Item) → AreNamed (before ++ NodeItem n ∷ behind) → NodeNamed n
named_at [] n behind h = h.0
named_at (TypeItem t ∷ before) n behind h = named_at before n behind h
named_at (NodeItem m ∷ before) n behind h = named_at before n behind h.1

no_clash : (n : Node) (s : Span) (at : Assignment) → IsAllowed n at → FirstClash (AreClocks (node_sights n)) (node_units n) s → ⊥
no_clash n s at a f =
    let all : AllAllow at (f.0 ++ (f.1 ∷ f.2)) = subst (AllAllow at) f.3 a.1 in
    let r = (all_allow at f.0 (f.1 ∷ f.2)).0 all in
    f.6 at a.0 ((all_allow at f.0 (f.1 ∷ [])).1 (r.0, (r.1.0, tt)))

only_memory : (items : List Item) (e : ClockErr) → Refuses items e → HaveClocks items → NoneLong items → AreNamed items → e ≡ error.OutOfMemory
only_memory items (error.Clash name at) l h k d =
    let c = clocks_at l.before l.node l.behind (subst HaveClocks l.split h) in
    absurd (no_clash l.node at c.0 c.1 l.clash)
only_memory items (error.Limit name limit) l h k d =
    let named = named_at l.before l.node l.behind (subst AreNamed l.split d) in
    absurd (none_long_at l.before l.node l.behind (subst NoneLong l.split k) l.at l.shortest named (l.long named))
only_memory items error.OutOfMemory l h k d = refl

pub accepted_law : {A : Type 0} (items : List Item) (r : Result A ClockErr) → IfErr r (Refuses items) → HaveClocks items → NoneLong items → AreNamed items → IfErr r (λ e. e ≡ error.OutOfMemory)
accepted_law items (Ok u) l h k d = tt
accepted_law items (Err e) l h k d = only_memory items e l h k d

pub err_refuses : {A : Type 0} (items : List Item) (r : Result A ClockErr) (e : ClockErr) → IsErrAnd r (λ x. x ≡ e) → Refuses items e → IfErr r (Refuses items)
err_refuses items (Ok x) e h l = tt
err_refuses items (Err x) e h l = subst (Refuses items) (sym h) l

-- What is written where the paths are those of the shortest clocks.
pub written_law : (items : List Item) (ps : List Path) → ArePaths items ps → AreWritten IsClocked items (items_written items ps)
written_law items ps h = subst (λ z. AreWritten IsClocked items (items_written items z)) (sym h.2) (items_clocked IsClocked items h.0 h.1)
