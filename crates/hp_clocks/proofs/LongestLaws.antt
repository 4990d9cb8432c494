-- Lengths as they are counted, and the longest clock of a written node.
use Rattle.std.proofs.Common.{leb, ◌≡◌, ◌⊎◌, inl, inr, ℕ, zero, suc, ◌-◌, ◌≤◌, ◌<◌, List, [], ◌∷◌, ◌++◌, length, map, refl, sym, ap, ap₂, ◌∙◌, subst, arith}
use Rattle.std.specs.Prelude.{Bool, true, false, if◌then◌else◌, IsTrue, reverse, max, Option, None, Some}
use Rattle.std.specs.Str.{bytes_eq}
use Rattle.std.proofs.lemmas.Bool.Decides.{leb_tells}
use Rattle.std.proofs.lemmas.List.{reverse-reverse}
use Rattle.std.proofs.lemmas.Slice.Eq.{bytes_eq-Decides}
use Rattle.hp_tree.specs.declared.block.Trans.{Trans}
use Rattle.hp_tree.specs.Expressions.{Expr, constant, variable, last_of, one, two, choose, pre, fby, arrow, when_is, merge, call, Exprs, no_expr, more_exprs, Parts, no_part, more_parts}
use Rattle.hp_tree.specs.Blocks.{Decl, Block, block, Eqns, no_eqn, more_eqns, Eqn, define, switch, reset, automaton, Arms, no_arm, more_arms, States, no_state, more_states}
use Rattle.hp_tree.specs.Programs.{Contract, Node}
use Rattle.hp_tree.specs.Instant.{Place, Body, Observer, Assume, Enforce, Named, Equations, Head, Tail, Right as RightSide, Test, Arms as ArmsOf, States as StatesOf, Until, Unless, Clock}
use Rattle.hp_tree.specs.Meaning.{declares, clock_in, clock_of}
use Rattle.hp_meaning.specs.Causal.Sources.{below}
use Rattle.hp_meaning.specs.Clocking.Terms.{value}
use Rattle.hp_meaning.specs.Clocking.Clocking.{Assignment, local_term, with_clock, with_clocks, all_with_clocks, one_with_clocks, arms_with_clocks, states_with_clocks, in_observer, in_body, contract_with_clocks, node_with_clocks, EachBlock, EachOfAll, EachOfOne, EachOfArms, EachOfStates, EachInContract, AreOnce, NamesRight, NodeNamed, clocks_of, clocks_of_all, clocks_of_one, clocks_of_arms, clocks_of_states, clocks_of_contract, clocks_of_node}
use Rattle.hp_meaning.specs.Clocking.EachExpression.{passed}
use Rattle.hp_meaning.specs.Clocking.EveryClock.{of_conditions, every_clock, every_clock_of_all, every_clock_of_one, every_clock_of_arms, every_clock_of_states, every_told, every_clock_of_contract, every_clock_of_node}
use Rattle.hp_meaning.proofs.ClockingLemmas.Lengths.{greater, no_longer, reached}
use Rattle.hp_meaning.proofs.ClockingLemmas.Lengths as lengths
use Rattle.hp_meaning.proofs.ClockingLemmas.Written.{declares_kept, undeclared}
use Rattle.hp_meaning.proofs.ClockingLemmas.Passed.{passes}
use Rattle.hp_clocks.specs.declared.solve.Solution.{Solution}
use Rattle.hp_clocks.specs.Listed.{Right, on_base, conditions, locals, locals_in_all, locals_in_one, locals_in_arms, locals_in_states, locals_of_contract, locals_of_node, rights, rights_in_all, rights_in_one, rights_in_arms, rights_in_states, rights_told, rights_of_contract, rights_of_node}
use Rattle.hp_clocks.specs.Longest.{counted, longest, longest_of_all, longest_of_parts, longest_local, longest_right, longest_solved, TellsLong}

-- ---- the longest clock in an expression, as it was defined

greater_is : (m n : ℕ) → greater m n ≡ max m n
greater_is m n = omega arith

greaters : (m n j k : ℕ) → m ≡ j → n ≡ k → greater m n ≡ max j k
greaters m n j k e f = omega (arith, e, f)

three : (a b c i j k : ℕ) → a ≡ i → b ≡ j → c ≡ k → greater a (greater b c) ≡ max (max i j) k
three a b c i j k e f g = omega (arith, e, f, g)

less_is : (k : ℕ) → lengths.less_one k ≡ k - 1
less_is zero = refl
less_is (suc k) = omega arith

mutual
  same : (e : Expr) (k : ℕ) → lengths.longest e k ≡ longest e k
  same (constant s c) k = refl
  same (variable s x) k = refl
  same (last_of s x) k = refl
  same (one s o a) k = same a k
  same (two s o a b) k = greaters (lengths.longest a k) (lengths.longest b k) (longest a k) (longest b k) (same a k) (same b k)
  same (choose s a b c) k =
      three (lengths.longest a k) (lengths.longest b k) (lengths.longest c k) (longest a k) (longest b k) (longest c k) (same a k) (same b k) (same c k)
  same (pre s a) k = same a k
  same (fby s a b) k = greaters (lengths.longest a k) (lengths.longest b k) (longest a k) (longest b k) (same a k) (same b k)
  same (arrow s a b) k = greaters (lengths.longest a k) (lengths.longest b k) (longest a k) (longest b k) (same a k) (same b k)
  same (when_is s a c x) k =
      greaters k (lengths.longest a (lengths.less_one k)) k (longest a (k - 1)) refl (same a (lengths.less_one k) ∙ ap (longest a) (less_is k))
  same (merge s x ps) k = same_parts ps k k
  same (call s f i es) k = same_all es k

  same_all : (es : Exprs) (k : ℕ) → lengths.longest_of es k ≡ max k (longest_of_all es k)
  same_all no_expr k = omega arith
  same_all (more_exprs e es) k =
      let a : lengths.longest e k ≡ longest e k = same e k in
      let b : lengths.longest_of es k ≡ max k (longest_of_all es k) = same_all es k in
      omega (arith, a, b)

  same_parts : (ps : Parts) (k none : ℕ) → lengths.longest_part ps k none ≡ max none (longest_of_parts ps (suc k))
  same_parts no_part k none = omega arith
  same_parts (more_parts c e ps) k none =
      let a : lengths.longest e (suc k) ≡ longest e (suc k) = same e (suc k) in
      let b : lengths.longest_part ps k none ≡ max none (longest_of_parts ps (suc k)) = same_parts ps k none in
      omega (arith, a, b)

itself : (k : ℕ) → k ≤ k
itself k = omega arith

below_max : (k m n : ℕ) → k ≤ m → k ≤ max m n
below_max k m n h = omega (arith, h)

-- It is as long as the clock at least.
pub at_least : (e : Expr) (k : ℕ) → k ≤ longest e k
at_least (constant s c) k = itself k
at_least (variable s x) k = itself k
at_least (last_of s x) k = itself k
at_least (one s o a) k = at_least a k
at_least (two s o a b) k = below_max k (longest a k) (longest b k) (at_least a k)
at_least (choose s a b c) k = below_max k (max (longest a k) (longest b k)) (longest c k) (below_max k (longest a k) (longest b k) (at_least a k))
at_least (pre s a) k = at_least a k
at_least (fby s a b) k = below_max k (longest a k) (longest b k) (at_least a k)
at_least (arrow s a b) k = below_max k (longest a k) (longest b k) (at_least a k)
at_least (when_is s a c x) k = below_max k k (longest a (k - 1)) (itself k)
at_least (merge s x ps) k = below_max k k (longest_of_parts ps (suc k)) (itself k)
at_least (call s f i es) k = below_max k k (longest_of_all es k) (itself k)

-- ---- lists that are joined

locals_join : (xs ys : List Clock) → longest_local (xs ++ ys) ≡ max (longest_local xs) (longest_local ys)
locals_join [] ys = omega arith
locals_join (x ∷ xs) ys =
    let a : longest_local (xs ++ ys) ≡ max (longest_local xs) (longest_local ys) = locals_join xs ys in
    omega (arith, a)

rights_join : (xs ys : List Right) → longest_right (xs ++ ys) ≡ max (longest_right xs) (longest_right ys)
rights_join [] ys = omega arith
rights_join (x ∷ xs) ys =
    let a : longest_right (xs ++ ys) ≡ max (longest_right xs) (longest_right ys) = rights_join xs ys in
    omega (arith, a)

left_below : (n a b m : ℕ) → n ≡ max a b → n ≤ m → a ≤ m
left_below n a b m e h = omega (arith, e, h)

right_below : (n a b m : ℕ) → n ≡ max a b → n ≤ m → b ≤ m
right_below n a b m e h = omega (arith, e, h)

locals_first : (xs ys : List Clock) (m : ℕ) → longest_local (xs ++ ys) ≤ m → longest_local xs ≤ m
locals_first xs ys m h = left_below (longest_local (xs ++ ys)) (longest_local xs) (longest_local ys) m (locals_join xs ys) h

locals_then : (xs ys : List Clock) (m : ℕ) → longest_local (xs ++ ys) ≤ m → longest_local ys ≤ m
locals_then xs ys m h = right_below (longest_local (xs ++ ys)) (longest_local xs) (longest_local ys) m (locals_join xs ys) h

rights_first : (xs ys : List Right) (m : ℕ) → longest_right (xs ++ ys) ≤ m → longest_right xs ≤ m
rights_first xs ys m h = left_below (longest_right (xs ++ ys)) (longest_right xs) (longest_right ys) m (rights_join xs ys) h

rights_then : (xs ys : List Right) (m : ℕ) → longest_right (xs ++ ys) ≤ m → longest_right ys ≤ m
rights_then xs ys m h = right_below (longest_right (xs ++ ys)) (longest_right xs) (longest_right ys) m (rights_join xs ys) h

-- a clock that is as long
abbrev Reached : ℕ → (Place → Clock) → Type 0
Reached n i = (p : Place) × (n ≤ length (i p))

either : (i : Place → Clock) (n a b : ℕ) → n ≡ max a b → Reached a i → Reached b i → Reached n i
either i n a b e h l = tie (leb_tells b a)
  where
    tie : ((leb b a ≡ true) × (b ≤ a)) ⊎ ((leb b a ≡ false) × (a < b)) → Reached n i
    tie (inl k) = (h.0, omega (arith, e, k.1, h.1))
    tie (inr k) = (l.0, omega (arith, e, k.1, l.1))

locals_either : (i : Place → Clock) (xs ys : List Clock) → Reached (longest_local xs) i → Reached (longest_local ys) i → Reached (longest_local (xs ++ ys)) i
locals_either i xs ys h l = either i (longest_local (xs ++ ys)) (longest_local xs) (longest_local ys) (locals_join xs ys) h l

rights_either : (i : Place → Clock) (xs ys : List Right) → Reached (longest_right xs) i → Reached (longest_right ys) i → Reached (longest_right (xs ++ ys)) i
rights_either i xs ys h l = either i (longest_right (xs ++ ys)) (longest_right xs) (longest_right ys) (rights_join xs ys) h l

nothing : (i : Place → Clock) → Reached 0 i
nothing i = ([], omega arith)

none_longer : (m : ℕ) → 0 ≤ m
none_longer m = omega arith

-- ---- a right side

side_low : (e : Expr) (c : Clock) (m : ℕ) → longest e (length c) ≤ m → (p : Place) → length (passed e c p) ≤ m
side_low e c m h p =
    let a : length (passed e c p) ≤ lengths.longest e (length c) = no_longer e c p in
    let b : lengths.longest e (length c) ≡ longest e (length c) = same e (length c) in
    omega (arith, a, b, h)

side_high : (e : Expr) (c : Clock) → Reached (longest e (length c)) (passed e c)
side_high e c =
    let r = reached e c in
    let a : length (passed e c r.0) ≡ lengths.longest e (length c) = r.1 in
    let b : lengths.longest e (length c) ≡ longest e (length c) = same e (length c) in
    (r.0, omega (arith, a, b))

first_right : (r : Right) (rs : List Right) (m : ℕ) → longest_right (r ∷ rs) ≤ m → longest r.1 (length r.0) ≤ m
first_right r rs m h = omega (arith, h)

other_rights : (r : Right) (rs : List Right) (m : ℕ) → longest_right (r ∷ rs) ≤ m → longest_right rs ≤ m
other_rights r rs m h = omega (arith, h)

one_right : (r : Right) → longest_right (r ∷ []) ≡ longest r.1 (length r.0)
one_right r = omega arith

conditions_low : (ts : List Trans) (m : ℕ) → longest_right (conditions ts) ≤ m → (p : Place) → length (of_conditions ts p) ≤ m
conditions_low (t ∷ ts) m h (Head ∷ p) = side_low t.cond [] m (first_right (on_base t.cond) (conditions ts) m h) p
conditions_low (t ∷ ts) m h (Tail ∷ p) = conditions_low ts m (other_rights (on_base t.cond) (conditions ts) m h) p
conditions_low ts m h p = none_longer m

conditions_high : (ts : List Trans) → Reached (longest_right (conditions ts)) (of_conditions ts)
conditions_high [] = nothing (of_conditions [])
conditions_high (t ∷ ts) =
    let h = side_high t.cond [] in
    let l = conditions_high ts in
    either (of_conditions (t ∷ ts)) (longest_right (conditions (t ∷ ts))) (longest t.cond 0) (longest_right (conditions ts)) refl (Head ∷ h.0, h.1) (Tail ∷ l.0, l.1)

told_low : (e : Option Expr) (m : ℕ) → longest_right (rights_told e) ≤ m → (p : Place) → length (every_told e p) ≤ m
told_low None m h p = none_longer m
told_low (Some e) m h p = side_low e [] m (first_right (on_base e) [] m h) p

told_high : (e : Option Expr) → Reached (longest_right (rights_told e)) (every_told e)
told_high None = nothing (every_told None)
told_high (Some e) = subst (λ z. Reached z (passed e [])) (sym (one_right (on_base e))) (side_high e [])

-- ---- a block in which an assignment is written

module _ (at : Assignment) where
  abbrev Are : (Place → Place) → (Place → Clock) → Type 0
  Are here i = (p : Place) → i p ≡ at (here p)

  written_length : (es : Eqns) (here : Place → Place) (d : Decl) → reverse (reverse (value at (local_term es here d))) ≡ value at (local_term es here d)
  written_length es here d = reverse-reverse (value at (local_term es here d))

  abbrev own : Eqns → (Place → Place) → List Decl → List Clock
  own es here ds = map (λ d. value at (local_term es here d)) ds

  abbrev made : Eqns → (Place → Place) → List Decl → List Decl
  made es here ds = map (with_clock at es here) ds

  abbrev mine : Eqns → (Place → Place) → Decl → Clock
  mine es here d = value at (local_term es here d)

  own_low : (es : Eqns) (here : Place → Place) (ds : List Decl) (x : List ℕ) → length (clock_in (made es here ds) x) ≤ longest_local (own es here ds)
  own_low es here [] x = omega arith
  own_low es here (d ∷ ds) x = tie (bytes_eq d.name x) (own_low es here ds x)
    where
      tie : (b : Bool) → length (clock_in (made es here ds) x) ≤ longest_local (own es here ds) → length (if b then reverse (reverse (mine es here d)) else clock_in (made es here ds) x) ≤ max (length (mine es here d)) (longest_local (own es here ds))
      tie true h =
          let a : length (reverse (reverse (mine es here d))) ≡ length (mine es here d) = ap length (written_length es here d) in
          omega (arith, a)
      tie false h = omega (arith, h)

  own_first : (es : Eqns) (here : Place → Place) (d : Decl) (ds : List Decl) → longest_local (own es here ds) ≤ length (mine es here d) → longest_local (own es here (d ∷ ds)) ≤ length (clock_in (made es here (d ∷ ds)) d.name)
  own_first es here d ds h =
      let a : length (clock_in (made es here (d ∷ ds)) d.name) ≡ length (mine es here d) =
      ap (λ b. length (if b then reverse (reverse (mine es here d)) else clock_in (made es here ds) d.name)) ((bytes_eq-Decides d.name d.name).1 refl)
      ∙ ap length (written_length es here d) in
      let b : longest_local (own es here (d ∷ ds)) ≤ length (mine es here d) = omega (arith, h) in
      omega (arith, a, b)

  own_other : (es : Eqns) (here : Place → Place) (d : Decl) (ds : List Decl) (x : List ℕ) → declares ds d.name ≡ false → longest_local (own es here ds) ≤ length (clock_in (made es here ds) x) → length (mine es here d) < longest_local (own es here ds) → longest_local (own es here (d ∷ ds)) ≤ length (clock_in (made es here (d ∷ ds)) x)
  own_other es here d ds x o h k = tie (bytes_eq d.name x) (bytes_eq-Decides d.name x).0
    where
      not_there : d.name ≡ x → IsTrue (declares (made es here ds) x) → ⊥
      not_there e l = absurd (cc (sym o, ap (declares ds) e, declares_kept at es here ds x, l))

      tie : (b : Bool) → (b ≡ true → d.name ≡ x) → longest_local (own es here (d ∷ ds)) ≤ length (if b then reverse (reverse (mine es here d)) else clock_in (made es here ds) x)
      tie true e =
          let none : length (clock_in (made es here ds) x) ≡ 0 = ap length (undeclared (made es here ds) x (not_there (e refl))) in
          absurd (omega (arith, none, h, k))
      tie false e = omega (arith, h, k)

  -- a name whose clock is as long as the longest of all
  own_high : (es : Eqns) (here : Place → Place) (ds : List Decl) → AreOnce ds → (x : List ℕ) × (longest_local (own es here ds) ≤ length (clock_in (made es here ds) x))
  own_high es here [] o = ([], omega arith)
  own_high es here (d ∷ ds) o = tie (leb_tells (longest_local (own es here ds)) (length (mine es here d))) (own_high es here ds o.1)
    where
      tie : ((leb (longest_local (own es here ds)) (length (mine es here d)) ≡ true) × (longest_local (own es here ds) ≤ length (mine es here d))) ⊎ ((leb (longest_local (own es here ds)) (length (mine es here d)) ≡ false) × (length (mine es here d) < longest_local (own es here ds))) → (x : List ℕ) × (longest_local (own es here ds) ≤ length (clock_in (made es here ds) x)) → (x : List ℕ) × (longest_local (own es here (d ∷ ds)) ≤ length (clock_in (made es here (d ∷ ds)) x))
      tie (inl k) r = (d.name, own_first es here d ds k.1)
      tie (inr k) r = (r.0, own_other es here d ds r.0 o.0 r.1 k.1)

  mutual
    low_block : (b : Block) (here : Place → Place) (m : ℕ) → Are here (clocks_of (with_clocks at here b)) → longest_local (locals at here b) ≤ m → longest_right (rights at here b) ≤ m → (p : Place) → length (every_clock (with_clocks at here b) p) ≤ m
    low_block (block ds es) here m k h l (Named x ∷ []) =
        let a : longest_local (own es here ds) ≤ m = locals_first (own es here ds) (locals_in_all at (below Equations here) es) m h in
        let b : length (clock_in (made es here ds) x) ≤ longest_local (own es here ds) = own_low es here ds x in
        omega (arith, a, b)
    low_block (block ds es) here m k h l (Equations ∷ p) =
        low_all es (below Equations here) (made es here ds) m (λ q. k (Equations ∷ q)) (locals_then (own es here ds) (locals_in_all at (below Equations here) es) m h) l p
    low_block (block ds es) here m k h l p = none_longer m

    low_all : (es : Eqns) (here : Place → Place) (ds : List Decl) (m : ℕ) → Are here (clocks_of_all ds (all_with_clocks at here es)) → longest_local (locals_in_all at here es) ≤ m → longest_right (rights_in_all at here es) ≤ m → (p : Place) → length (every_clock_of_all ds (all_with_clocks at here es) p) ≤ m
    low_all (more_eqns e es) here ds m k h l (Head ∷ p) =
        low_one e (below Head here) ds m (λ q. k (Head ∷ q)) (locals_first (locals_in_one at (below Head here) e) (locals_in_all at (below Tail here) es) m h)
        (rights_first (rights_in_one at (below Head here) e) (rights_in_all at (below Tail here) es) m l) p
    low_all (more_eqns e es) here ds m k h l (Tail ∷ p) =
        low_all es (below Tail here) ds m (λ q. k (Tail ∷ q)) (locals_then (locals_in_one at (below Head here) e) (locals_in_all at (below Tail here) es) m h)
        (rights_then (rights_in_one at (below Head here) e) (rights_in_all at (below Tail here) es) m l) p
    low_all es here ds m k h l p = none_longer m

    low_one : (e : Eqn) (here : Place → Place) (ds : List Decl) (m : ℕ) → Are here (clocks_of_one ds (one_with_clocks at here e)) → longest_local (locals_in_one at here e) ≤ m → longest_right (rights_in_one at here e) ≤ m → (p : Place) → length (every_clock_of_one ds (one_with_clocks at here e) p) ≤ m
    low_one (define s ys e) here ds m k h l (RightSide ∷ p) =
        side_low e (clock_of ds ys e) m
        (subst (λ c. longest e (length c) ≤ m) (sym (k (RightSide ∷ []))) (first_right (at (here (RightSide ∷ [])), e) [] m l)) p
    low_one (switch s e arms) here ds m k h l (Test ∷ p) = side_low e [] m (first_right (on_base e) (rights_in_arms at (below ArmsOf here) arms) m l) p
    low_one (switch s e arms) here ds m k h l (ArmsOf ∷ p) =
        low_arms arms (below ArmsOf here) m (λ q. k (ArmsOf ∷ q)) h (other_rights (on_base e) (rights_in_arms at (below ArmsOf here) arms) m l) p
    low_one (reset s b e) here ds m k h l (Test ∷ p) =
        side_low e [] m (first_right (on_base e) [] m (rights_then (rights at (below Body here) b) (on_base e ∷ []) m l)) p
    low_one (reset s b e) here ds m k h l (Body ∷ p) =
        low_block b (below Body here) m (λ q. k (Body ∷ q)) h (rights_first (rights at (below Body here) b) (on_base e ∷ []) m l) p
    low_one (automaton s ss) here ds m k h l (StatesOf ∷ p) = low_states ss (below StatesOf here) m (λ q. k (StatesOf ∷ q)) h l p
    low_one e here ds m k h l p = none_longer m

    low_arms : (arms : Arms) (here : Place → Place) (m : ℕ) → Are here (clocks_of_arms (arms_with_clocks at here arms)) → longest_local (locals_in_arms at here arms) ≤ m → longest_right (rights_in_arms at here arms) ≤ m → (p : Place) → length (every_clock_of_arms (arms_with_clocks at here arms) p) ≤ m
    low_arms (more_arms c b s arms) here m k h l (Head ∷ p) =
        low_block b (below Head here) m (λ q. k (Head ∷ q)) (locals_first (locals at (below Head here) b) (locals_in_arms at (below Tail here) arms) m h)
        (rights_first (rights at (below Head here) b) (rights_in_arms at (below Tail here) arms) m l) p
    low_arms (more_arms c b s arms) here m k h l (Tail ∷ p) =
        low_arms arms (below Tail here) m (λ q. k (Tail ∷ q)) (locals_then (locals at (below Head here) b) (locals_in_arms at (below Tail here) arms) m h)
        (rights_then (rights at (below Head here) b) (rights_in_arms at (below Tail here) arms) m l) p
    low_arms arms here m k h l p = none_longer m

    low_states : (ss : States) (here : Place → Place) (m : ℕ) → Are here (clocks_of_states (states_with_clocks at here ss)) → longest_local (locals_in_states at here ss) ≤ m → longest_right (rights_in_states at here ss) ≤ m → (p : Place) → length (every_clock_of_states (states_with_clocks at here ss) p) ≤ m
    low_states (more_states f b until unless s ss) here m k h l (Head ∷ Body ∷ p) =
        let inner = below Body (below Head here) in
        low_block b inner m (λ q. k (Head ∷ Body ∷ q)) (locals_first (locals at inner b) (locals_in_states at (below Tail here) ss) m h)
        (rights_first (rights at inner b) (conditions until ++ (conditions unless ++ rights_in_states at (below Tail here) ss)) m l) p
    low_states (more_states f b until unless s ss) here m k h l (Head ∷ Until ∷ p) =
        let inner = below Body (below Head here) in
        let rest = rights_in_states at (below Tail here) ss in
        conditions_low until m (rights_first (conditions until) (conditions unless ++ rest) m (rights_then (rights at inner b) (conditions until ++ (conditions unless ++ rest)) m l)) p
    low_states (more_states f b until unless s ss) here m k h l (Head ∷ Unless ∷ p) =
        let inner = below Body (below Head here) in
        let rest = rights_in_states at (below Tail here) ss in
        conditions_low unless m (rights_first (conditions unless) rest m (rights_then (conditions until) (conditions unless ++ rest) m (rights_then (rights at inner b) (conditions until ++ (conditions unless ++ rest)) m l))) p
    low_states (more_states f b until unless s ss) here m k h l (Tail ∷ p) =
        let inner = below Body (below Head here) in
        let rest = rights_in_states at (below Tail here) ss in
        low_states ss (below Tail here) m (λ q. k (Tail ∷ q)) (locals_then (locals at inner b) (locals_in_states at (below Tail here) ss) m h)
        (rights_then (conditions unless) rest m (rights_then (conditions until) (conditions unless ++ rest) m (rights_then (rights at inner b) (conditions until ++ (conditions unless ++ rest)) m l))) p
    low_states ss here m k h l p = none_longer m

  mutual
    locals_high : (b : Block) (here : Place → Place) → EachBlock NamesRight b → Reached (longest_local (locals at here b)) (every_clock (with_clocks at here b))
    locals_high (block ds es) here g =
        let i = every_clock (with_clocks at here (block ds es)) in
        let h = own_high es here ds g.0.0 in
        let l = locals_high_all es (below Equations here) (made es here ds) g.1 in
        locals_either i (own es here ds) (locals_in_all at (below Equations here) es) (Named h.0 ∷ [], h.1) (Equations ∷ l.0, l.1)

    locals_high_all : (es : Eqns) (here : Place → Place) (ds : List Decl) → EachOfAll NamesRight es → Reached (longest_local (locals_in_all at here es)) (every_clock_of_all ds (all_with_clocks at here es))
    locals_high_all no_eqn here ds g = nothing (every_clock_of_all ds no_eqn)
    locals_high_all (more_eqns e es) here ds g =
        let i = every_clock_of_all ds (all_with_clocks at here (more_eqns e es)) in
        let h = locals_high_one e (below Head here) ds g.0 in
        let l = locals_high_all es (below Tail here) ds g.1 in
        locals_either i (locals_in_one at (below Head here) e) (locals_in_all at (below Tail here) es) (Head ∷ h.0, h.1) (Tail ∷ l.0, l.1)

    locals_high_one : (e : Eqn) (here : Place → Place) (ds : List Decl) → EachOfOne NamesRight e → Reached (longest_local (locals_in_one at here e)) (every_clock_of_one ds (one_with_clocks at here e))
    locals_high_one (define s ys e) here ds g = nothing (every_clock_of_one ds (define s ys e))
    locals_high_one (switch s e arms) here ds g = let h = locals_high_arms arms (below ArmsOf here) g in (ArmsOf ∷ h.0, h.1)
    locals_high_one (reset s b e) here ds g = let h = locals_high b (below Body here) g in (Body ∷ h.0, h.1)
    locals_high_one (automaton s ss) here ds g = let h = locals_high_states ss (below StatesOf here) g in (StatesOf ∷ h.0, h.1)

    locals_high_arms : (arms : Arms) (here : Place → Place) → EachOfArms NamesRight arms → Reached (longest_local (locals_in_arms at here arms)) (every_clock_of_arms (arms_with_clocks at here arms))
    locals_high_arms no_arm here g = nothing (every_clock_of_arms no_arm)
    locals_high_arms (more_arms c b s arms) here g =
        let i = every_clock_of_arms (arms_with_clocks at here (more_arms c b s arms)) in
        let h = locals_high b (below Head here) g.0 in
        let l = locals_high_arms arms (below Tail here) g.1 in
        locals_either i (locals at (below Head here) b) (locals_in_arms at (below Tail here) arms) (Head ∷ h.0, h.1) (Tail ∷ l.0, l.1)

    locals_high_states : (ss : States) (here : Place → Place) → EachOfStates NamesRight ss → Reached (longest_local (locals_in_states at here ss)) (every_clock_of_states (states_with_clocks at here ss))
    locals_high_states no_state here g = nothing (every_clock_of_states no_state)
    locals_high_states (more_states f b until unless s ss) here g =
        let i = every_clock_of_states (states_with_clocks at here (more_states f b until unless s ss)) in
        let h = locals_high b (below Body (below Head here)) g.0 in
        let l = locals_high_states ss (below Tail here) g.1 in
        locals_either i (locals at (below Body (below Head here)) b) (locals_in_states at (below Tail here) ss) (Head ∷ Body ∷ h.0, h.1) (Tail ∷ l.0, l.1)

  mutual
    rights_high : (b : Block) (here : Place → Place) → Are here (clocks_of (with_clocks at here b)) → Reached (longest_right (rights at here b)) (every_clock (with_clocks at here b))
    rights_high (block ds es) here k = let h = rights_high_all es (below Equations here) (made es here ds) (λ q. k (Equations ∷ q)) in (Equations ∷ h.0, h.1)

    rights_high_all : (es : Eqns) (here : Place → Place) (ds : List Decl) → Are here (clocks_of_all ds (all_with_clocks at here es)) → Reached (longest_right (rights_in_all at here es)) (every_clock_of_all ds (all_with_clocks at here es))
    rights_high_all no_eqn here ds k = nothing (every_clock_of_all ds no_eqn)
    rights_high_all (more_eqns e es) here ds k =
        let i = every_clock_of_all ds (all_with_clocks at here (more_eqns e es)) in
        let h = rights_high_one e (below Head here) ds (λ q. k (Head ∷ q)) in
        let l = rights_high_all es (below Tail here) ds (λ q. k (Tail ∷ q)) in
        rights_either i (rights_in_one at (below Head here) e) (rights_in_all at (below Tail here) es) (Head ∷ h.0, h.1) (Tail ∷ l.0, l.1)

    rights_high_one : (e : Eqn) (here : Place → Place) (ds : List Decl) → Are here (clocks_of_one ds (one_with_clocks at here e)) → Reached (longest_right (rights_in_one at here e)) (every_clock_of_one ds (one_with_clocks at here e))
    rights_high_one (define s ys e) here ds k =
        let h = side_high e (clock_of ds ys e) in
        let r : Right = (at (here (RightSide ∷ [])), e) in
        (RightSide ∷ h.0, subst (λ z. z ≤ length (passed e (clock_of ds ys e) h.0)) (ap (λ c. longest e (length c)) (k (RightSide ∷ [])) ∙ sym (one_right r)) h.1)
    rights_high_one (switch s e arms) here ds k =
        let i = every_clock_of_one ds (one_with_clocks at here (switch s e arms)) in
        let h = side_high e [] in
        let l = rights_high_arms arms (below ArmsOf here) (λ q. k (ArmsOf ∷ q)) in
        let rest = rights_in_arms at (below ArmsOf here) arms in
        either i (longest_right (on_base e ∷ rest)) (longest e 0) (longest_right rest) refl (Test ∷ h.0, h.1) (ArmsOf ∷ l.0, l.1)
    rights_high_one (reset s b e) here ds k =
        let i = every_clock_of_one ds (one_with_clocks at here (reset s b e)) in
        let h = rights_high b (below Body here) (λ q. k (Body ∷ q)) in
        let l = side_high e [] in
        rights_either i (rights at (below Body here) b) (on_base e ∷ []) (Body ∷ h.0, h.1)
        (Test ∷ l.0, subst (λ z. z ≤ length (passed e [] l.0)) (sym (one_right (on_base e))) l.1)
    rights_high_one (automaton s ss) here ds k = let h = rights_high_states ss (below StatesOf here) (λ q. k (StatesOf ∷ q)) in (StatesOf ∷ h.0, h.1)

    rights_high_arms : (arms : Arms) (here : Place → Place) → Are here (clocks_of_arms (arms_with_clocks at here arms)) → Reached (longest_right (rights_in_arms at here arms)) (every_clock_of_arms (arms_with_clocks at here arms))
    rights_high_arms no_arm here k = nothing (every_clock_of_arms no_arm)
    rights_high_arms (more_arms c b s arms) here k =
        let i = every_clock_of_arms (arms_with_clocks at here (more_arms c b s arms)) in
        let h = rights_high b (below Head here) (λ q. k (Head ∷ q)) in
        let l = rights_high_arms arms (below Tail here) (λ q. k (Tail ∷ q)) in
        rights_either i (rights at (below Head here) b) (rights_in_arms at (below Tail here) arms) (Head ∷ h.0, h.1) (Tail ∷ l.0, l.1)

    rights_high_states : (ss : States) (here : Place → Place) → Are here (clocks_of_states (states_with_clocks at here ss)) → Reached (longest_right (rights_in_states at here ss)) (every_clock_of_states (states_with_clocks at here ss))
    rights_high_states no_state here k = nothing (every_clock_of_states no_state)
    rights_high_states (more_states f b until unless s ss) here k =
        let i = every_clock_of_states (states_with_clocks at here (more_states f b until unless s ss)) in
        let inner = below Body (below Head here) in
        let rest = rights_in_states at (below Tail here) ss in
        let h = rights_high b inner (λ q. k (Head ∷ Body ∷ q)) in
        let u = conditions_high until in
        let v = conditions_high unless in
        let l = rights_high_states ss (below Tail here) (λ q. k (Tail ∷ q)) in
        rights_either i (rights at inner b) (conditions until ++ (conditions unless ++ rest)) (Head ∷ Body ∷ h.0, h.1)
        (rights_either i (conditions until) (conditions unless ++ rest) (Head ∷ Until ∷ u.0, u.1) (rights_either i (conditions unless) rest (Head ∷ Unless ∷ v.0, v.1) (Tail ∷ l.0, l.1)))

  contract_low : (c : Option Contract) (m : ℕ) → Are in_observer (clocks_of_contract (contract_with_clocks at c)) → longest_local (locals_of_contract at c) ≤ m → longest_right (rights_of_contract at c) ≤ m → (p : Place) → length (every_clock_of_contract (contract_with_clocks at c) p) ≤ m
  contract_low (Some c) m k h l (Observer ∷ p) =
      low_block c.body in_observer m k h (rights_first (rights at in_observer c.body) (rights_told c.assume ++ rights_told c.enforce) m l) p
  contract_low (Some c) m k h l (Assume ∷ p) =
      told_low c.assume m (rights_first (rights_told c.assume) (rights_told c.enforce) m (rights_then (rights at in_observer c.body) (rights_told c.assume ++ rights_told c.enforce) m l)) p
  contract_low (Some c) m k h l (Enforce ∷ p) =
      told_low c.enforce m (rights_then (rights_told c.assume) (rights_told c.enforce) m (rights_then (rights at in_observer c.body) (rights_told c.assume ++ rights_told c.enforce) m l)) p
  contract_low c m k h l p = none_longer m

  contract_locals_high : (c : Option Contract) → EachInContract NamesRight c → Reached (longest_local (locals_of_contract at c)) (every_clock_of_contract (contract_with_clocks at c))
  contract_locals_high None g = nothing (every_clock_of_contract None)
  contract_locals_high (Some c) g = let h = locals_high c.body in_observer g in (Observer ∷ h.0, h.1)

  contract_rights_high : (c : Option Contract) → Are in_observer (clocks_of_contract (contract_with_clocks at c)) → Reached (longest_right (rights_of_contract at c)) (every_clock_of_contract (contract_with_clocks at c))
  contract_rights_high None k = nothing (every_clock_of_contract None)
  contract_rights_high (Some c) k =
      let i = every_clock_of_contract (contract_with_clocks at (Some c)) in
      let h = rights_high c.body in_observer k in
      let u = told_high c.assume in
      let v = told_high c.enforce in
      rights_either i (rights at in_observer c.body) (rights_told c.assume ++ rights_told c.enforce) (Observer ∷ h.0, h.1)
      (rights_either i (rights_told c.assume) (rights_told c.enforce) (Assume ∷ u.0, u.1) (Enforce ∷ v.0, v.1))

  -- No clock of the written node is longer than the longest that is listed, and one is as long.
  node_low : (n : Node) (m : ℕ) → ((p : Place) → clocks_of_node (node_with_clocks at n) p ≡ at p) → longest_local (locals_of_node at n) ≤ m → longest_right (rights_of_node at n) ≤ m → (p : Place) → length (every_clock_of_node (node_with_clocks at n) p) ≤ m
  node_low n m k h l (Body ∷ p) =
      low_block n.body in_body m (λ q. k (Body ∷ q)) (locals_then (locals_of_contract at n.contract) (locals at in_body n.body) m h)
      (rights_then (rights_of_contract at n.contract) (rights at in_body n.body) m l) p
  node_low n m k h l p =
      contract_low n.contract m (λ q. k (Observer ∷ q)) (locals_first (locals_of_contract at n.contract) (locals at in_body n.body) m h)
      (rights_first (rights_of_contract at n.contract) (rights at in_body n.body) m l) p

  none_in_body : (c : Option Contract) (p : Place) → length (every_clock_of_contract (contract_with_clocks at c) (Body ∷ p)) ≡ 0
  none_in_body None p = refl
  none_in_body (Some c) p = refl

  contract_place : (n : Node) (k : ℕ) (p : Place) → k ≤ length (every_clock_of_contract (contract_with_clocks at n.contract) p) → Reached k (every_clock_of_node (node_with_clocks at n))
  contract_place n k (Body ∷ p) h =
      let a : length (every_clock_of_contract (contract_with_clocks at n.contract) (Body ∷ p)) ≡ 0 = none_in_body n.contract p in
      ([], omega (arith, a, h))
  contract_place n k p h = (p, h)

  node_locals_high : (n : Node) → NodeNamed n → Reached (longest_local (locals_of_node at n)) (every_clock_of_node (node_with_clocks at n))
  node_locals_high n g =
      let h = contract_locals_high n.contract g.1 in
      let l = locals_high n.body in_body g.0 in
      locals_either (every_clock_of_node (node_with_clocks at n)) (locals_of_contract at n.contract) (locals at in_body n.body)
      (contract_place n (longest_local (locals_of_contract at n.contract)) h.0 h.1) (Body ∷ l.0, l.1)

  node_rights_high : (n : Node) → ((p : Place) → clocks_of_node (node_with_clocks at n) p ≡ at p) → Reached (longest_right (rights_of_node at n)) (every_clock_of_node (node_with_clocks at n))
  node_rights_high n k =
      let h = contract_rights_high n.contract (λ q. k (Observer ∷ q)) in
      let l = rights_high n.body in_body (λ q. k (Body ∷ q)) in
      rights_either (every_clock_of_node (node_with_clocks at n)) (rights_of_contract at n.contract) (rights at in_body n.body)
      (contract_place n (longest_right (rights_of_contract at n.contract)) h.0 h.1) (Body ∷ l.0, l.1)

-- What is counted of a solution tells whether the written node has a clock that is too long.
pub tells_long : (s : Solution) (count : ℕ) → count ≡ counted (longest_solved s) → TellsLong s count
tells_long s count e n h g =
    let at = h.at in
    let most = longest_solved s in
    let k : (p : Place) → clocks_of_node (node_with_clocks at n) p ≡ at p = λ p. ap (λ z. z p) (passes n at g h.shortest) in
    let a : most ≡ max (longest_local (locals_of_node at n)) (longest_right (rights_of_node at n)) = ap₂ (λ ls rs. max (longest_local ls) (longest_right rs)) h.locals h.rights in
    let b : longest_local (locals_of_node at n) ≤ most = omega (arith, a) in
    let c : longest_right (rights_of_node at n) ≤ most = omega (arith, a) in
    let r = either (every_clock_of_node (node_with_clocks at n)) most (longest_local (locals_of_node at n)) (longest_right (rights_of_node at n)) a (node_locals_high at n g) (node_rights_high at n k) in
    let q : most ≤ length (every_clock_of_node (node_with_clocks at n) r.0) = r.1 in (
      (λ l. (r.0, omega (arith, e, l, q))),
      λ l.
          let low : length (every_clock_of_node (node_with_clocks at n) l.0) ≤ most = node_low at n most k b c l.0 in
          let long : 64 < length (every_clock_of_node (node_with_clocks at n) l.0) = l.1 in
          omega (arith, e, low, long),
    )
