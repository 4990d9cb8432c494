-- What is needed, and tables of it.
use Rattle.std.proofs.Common.{◌≡◌, ◌⊎◌, ℕ, zero, suc, ◌+◌, ◌<◌, ◌≤◌, nat_eq, nat_lt, get_or, length, drop, Bool, true, false, cond, ◌&&◌, not, if◌then◌else◌, List, [], ◌∷◌, ◌++◌, inl, inr, refl, sym, ap, ap₂, ◌∙◌, arith}
use Rattle.std.specs.List.{AllByRecursion, filter, flat_map}
use Rattle.std.proofs.Math.ListN.{replicate}
use Rattle.hp_flat.specs.Equations.{Right, operator, register, called, FlatEqn}
use Rattle.hp_flat.specs.Nodes.{FlatNode}
use Rattle.hp_normal.specs.Reading.{count, clock_variables, eqn_reads, operands}
use Rattle.hp_normal.specs.Following.{defined, needs, eqn_needs, AreBehind}
use Rattle.hp_normal.specs.Needing.{is_operator, held_reads, roots, are_absent, is_idle, needed, pruned}
use Rattle.hp_normal.specs.Tables.{counted, none_counted, is_uncounted, with_need, with_needs}
use Rattle.hp_normal.proofs.Lists.{drop-next, drop-end}
use Rattle.hp_normal.proofs.CopyLaws.{count-one, left-more, right-more}
use Rattle.hp_normal.proofs.CountLaws.{counted-append, counts-tell, same_test}
use Rattle.hp_normal.proofs.DefinerLaws.{count-append}

pub none_or : (k : ℕ) → (k ≡ 0) ⊎ (1 ≤ k)
none_or zero = inl refl
none_or (suc k) = inr (omega arith)

-- ---- tables

module _ (counts : List ℕ) (xs : List ℕ) (i : ℕ) where
  pub none_counted-next : (x : ℕ) → i < length xs → x ≡ get_or xs i x → (nat_lt x (length counts) && nat_eq (get_or counts x 0) 0) ≡ true → none_counted counts (drop (i + 1) xs) ≡ none_counted counts (drop i xs)
  none_counted-next x h p t = sym (ap (none_counted counts) (drop-next xs i x h p) ∙ ap (λ b. b && none_counted counts (drop (i + 1) xs)) t)

  pub none_counted-stop : (x : ℕ) → i < length xs → x ≡ get_or xs i x → (nat_lt x (length counts) && nat_eq (get_or counts x 0) 0) ≡ false → none_counted counts (drop i xs) ≡ false
  none_counted-stop x h p t = ap (none_counted counts) (drop-next xs i x h p) ∙ ap (λ b. b && none_counted counts (drop (i + 1) xs)) t

  pub none_counted-end : length xs ≤ i → none_counted counts (drop i xs) ≡ true
  none_counted-end h = ap (none_counted counts) (drop-end xs i h)

-- an equation in front of others
pub needs-step : (es : List FlatEqn) (i j : ℕ) (e : FlatEqn) (before after first : List ℕ) → j ≡ i + 1 → i < length es → e ≡ get_or es i e → after ≡ with_need e before → before ≡ with_needs (drop j es) first
    → after ≡ with_needs (drop i es) first
needs-step es i j e before after first k h p step known =
    step ∙ ap (with_need e) (known ∙ ap (λ m. with_needs (drop m es) first) k) ∙ sym (ap (λ ds. with_needs ds first) (drop-next es i e h p))

pub needs-begin : (es : List FlatEqn) (first : List ℕ) → with_needs (drop (length es) es) first ≡ first
needs-begin es first = ap (λ ds. with_needs ds first) (drop-end es (length es) (omega arith))

module _ (n : FlatNode) where
  abbrev Counts : List ℕ → List ℕ
  Counts xs = counted xs (replicate {A = ℕ} (length n.variables) 0)

  none_told : (xs ts : List ℕ) → none_counted (Counts xs) ts ≡ are_absent n xs ts
  none_told xs [] = refl
  none_told xs (t ∷ ts) = ap₂ (λ a b. a && b) (counts-tell n 0 xs (Counts xs) t (omega arith) refl) (none_told xs ts)

  pub uncounted-told : (xs : List ℕ) (e : FlatEqn) → is_uncounted (Counts xs) e ≡ is_idle n xs e
  uncounted-told xs e = ap (λ b. is_operator e.right && b) (none_told xs e.targets)

  need_told : (e : FlatEqn) (xs : List ℕ) → with_need e (Counts xs) ≡ Counts (if is_idle n xs e then xs else xs ++ eqn_reads e)
  need_told e xs = ap (λ b. if b then Counts xs else counted (eqn_reads e) (Counts xs)) (uncounted-told xs e) ∙ by (is_idle n xs e)
    where
      by : (b : Bool) → (if b then Counts xs else counted (eqn_reads e) (Counts xs)) ≡ Counts (if b then xs else xs ++ eqn_reads e)
      by true = refl
      by false = sym (counted-append xs (eqn_reads e) (replicate {A = ℕ} (length n.variables) 0))

  pub needs-told : (es : List FlatEqn) → with_needs es (Counts (roots n)) ≡ Counts (needed n es)
  needs-told [] = refl
  needs-told (e ∷ es) = ap (with_need e) (needs-told es) ∙ need_told e (needed n es)

-- ---- what is needed stays so

module _ (n : FlatNode) where
  grown_by : (d : Bool) (e : FlatEqn) (xs : List ℕ) (x : ℕ) → count x xs ≤ count x (if d then xs else xs ++ eqn_reads e)
  grown_by true e xs x = omega arith
  grown_by false e xs x = left-more x xs (eqn_reads e)

  pub grown : (e : FlatEqn) (es : List FlatEqn) (x : ℕ) → count x (needed n es) ≤ count x (needed n (e ∷ es))
  grown e es x = grown_by (is_idle n (needed n es) e) e (needed n es) x

  pub roots-needed : (es : List FlatEqn) (x : ℕ) → count x (roots n) ≤ count x (needed n es)
  roots-needed [] x = omega arith
  roots-needed (e ∷ es) x = let rest = roots-needed es x in let more = grown e es x in omega (arith, rest, more)

  zero_sum : (a b c : ℕ) → c ≡ a + b → (1 ≤ b → 1 ≤ a) → nat_eq c 0 ≡ nat_eq a 0
  zero_sum a b c e f = same_test c a 0 (nat_eq c 0) (nat_eq a 0) refl refl (λ q. omega (arith, e, q)) (λ q. elim (none_or b) [ inl none ↦ omega (arith, e, q, none) | inr some ↦ absurd (let one = f some in omega (arith, one, q)) ])

  absent_more : (xs ys ts : List ℕ) → ((t : ℕ) → 1 ≤ count t ts → 1 ≤ count t ys → 1 ≤ count t xs) → are_absent n (xs ++ ys) ts ≡ are_absent n xs ts
  absent_more xs ys [] h = refl
  absent_more xs ys (t ∷ ts) h =
      ap₂ (λ a b. (nat_lt t (length n.variables) && a) && b) (zero_sum (count t xs) (count t ys) (count t (xs ++ ys)) (count-append t xs ys) (h t (count-one t ts)))
      (absent_more xs ys ts (λ u c. h u (let more = right-more u (t ∷ []) ts in omega (arith, c, more))))

  -- an equation that is not idle has what it reads among what is needed
  abbrev pub Closed : List ℕ → FlatEqn → Type 0
  Closed xs e = is_idle n xs e ≡ false → (x : ℕ) → 1 ≤ count x (eqn_reads e) → 1 ≤ count x xs

  one_by : (e : FlatEqn) (xs : List ℕ) (i : Bool) → is_idle n xs e ≡ i → Closed (if i then xs else xs ++ eqn_reads e) e
  one_by e xs true q = λ no. absurd (let t : true ≡ false = sym q ∙ no in cc)
  one_by e xs false q = λ no x c. let more = right-more x xs (eqn_reads e) in omega (arith, c, more)

  -- one more equation reads nothing that later ones define, unless it is needed
  abbrev Off : List ℕ → List ℕ → List FlatEqn → Type 0
  Off xs ys es = (x : ℕ) → 1 ≤ count x (defined es) → 1 ≤ count x ys → 1 ≤ count x xs

  later_by : (i : Bool) (d : FlatEqn) (xs : List ℕ) (es : List FlatEqn) → Off xs (eqn_reads d) es → AllByRecursion (Closed xs) es → AllByRecursion (Closed (if i then xs else xs ++ eqn_reads d)) es
  later_by true d xs es off h = h
  later_by false d xs [] off h = tt
  later_by false d xs (e ∷ es) off h = (
    λ no x c. (
        let same : are_absent n (xs ++ eqn_reads d) e.targets ≡ are_absent n xs e.targets =
        absent_more xs (eqn_reads d) e.targets (λ t there read. off t (let more = left-more t e.targets (defined es) in omega (arith, there, more)) read) in
        let one = h.0 (sym (ap (λ b. is_operator e.right && b) same) ∙ no) x c in
        let more = left-more x xs (eqn_reads d) in
        omega (arith, one, more)
        ),
    later_by false d xs es (λ t there read. off t (let more = right-more t e.targets (defined es) in omega (arith, there, more)) read) h.1,
  )

  held_or : (clock : List ℕ) (r : Right) (restart : List ℕ) (x : ℕ) → 1 ≤ count x (clock ++ (operands r ++ restart)) → (is_operator r ≡ false) ⊎ (1 ≤ count x (clock ++ (needs r ++ restart)))
  held_or clock (operator op args) restart x h = inr h
  held_or clock (register first next) restart x h = inl refl
  held_or clock (called f args) restart x h = inl refl

  -- what holds of the equations of a part of those of the node
  abbrev Holds : List FlatEqn → Type 0
  Holds es = (y : ℕ) → count y (flat_map held_reads es) ≤ count y (roots n)

  off : (d : FlatEqn) (ds : List FlatEqn) → AreBehind (d ∷ ds) → Holds (d ∷ ds) → Off (needed n ds) (eqn_reads d) ds
  off d ds behind holds x there read =
      elim (held_or (clock_variables d.clock) d.right d.restart x read) [
        | inl held ↦ (let same : held_reads d ≡ eqn_reads d = ap (λ b. if b then [] else eqn_reads d) held in
            let its : count x (held_reads d) ≡ count x (eqn_reads d) = ap (count x) same in
            let all = holds x in
            let first = left-more x (held_reads d) (flat_map held_reads ds) in
            let root = roots-needed ds x in
            omega (arith, read, its, all, first, root))
        | inr need ↦ absurd (let none = behind.0 x need in let more = right-more x d.targets (defined ds) in omega (arith, there, none, more))
      ]

  closed_all : (es : List FlatEqn) → AreBehind es → Holds es → AllByRecursion (Closed (needed n es)) es
  closed_all [] behind holds = tt
  closed_all (d ∷ ds) behind holds = (
    one_by d (needed n ds) (is_idle n (needed n ds) d) refl,
    later_by (is_idle n (needed n ds) d) d (needed n ds) ds (off d ds behind holds)
        (closed_all ds behind.1 (λ y. let all = holds y in let more = right-more y (held_reads d) (flat_map held_reads ds) in omega (arith, all, more))),
  )

  -- each equation that stays reads what is needed alone
  pub needed-closed : AreBehind n.eqns → AllByRecursion (Closed (needed n n.eqns)) n.eqns
  needed-closed behind = closed_all n.eqns behind (λ y. right-more y n.outputs (flat_map held_reads n.eqns))

-- ---- equations that are left

module _ (keep : FlatEqn → Bool) where
  fewer_by : (b : Bool) (e : FlatEqn) (es : List FlatEqn) (x k : ℕ) → count x (defined es) ≤ k → count x (defined (cond b (e ∷ es) es)) ≤ count x e.targets + k
  fewer_by true e es x k h = let all = count-append x e.targets (defined es) in omega (arith, all, h)
  fewer_by false e es x k h = omega (arith, h)

  fewer_left : (es : List FlatEqn) (x : ℕ) → count x (defined (filter keep es)) ≤ count x (defined es)
  fewer_left [] x = omega arith
  fewer_left (e ∷ es) x =
      let rest = fewer_by (keep e) e (filter keep es) x (count x (defined es)) (fewer_left es x) in
      let all = count-append x e.targets (defined es) in
      omega (arith, rest, all)

  left_by : (b : Bool) (e : FlatEqn) (es : List FlatEqn) → ((x : ℕ) → 1 ≤ count x (eqn_needs e) → count x (defined (e ∷ es)) ≡ 0) → AreBehind (filter keep es) → AreBehind (cond b (e ∷ filter keep es) (filter keep es))
  left_by true e es h rest = (
    λ x c. (
        let none = h x c in
        let fewer = fewer_left es x in
        let before = count-append x e.targets (defined es) in
        let after = count-append x e.targets (defined (filter keep es)) in
        omega (arith, none, fewer, before, after)
        ),
    rest,
  )
  left_by false e es h rest = rest

  pub left-behind : (es : List FlatEqn) → AreBehind es → AreBehind (filter keep es)
  left-behind [] h = tt
  left-behind (e ∷ es) h = left_by (keep e) e es h.0 (left-behind es h.1)

pub pruned_step : (n : FlatNode) → AreBehind n.eqns → AreBehind (pruned n).eqns
pruned_step n behind = left-behind (λ e. not (is_idle n (needed n n.eqns) e)) n.eqns behind
