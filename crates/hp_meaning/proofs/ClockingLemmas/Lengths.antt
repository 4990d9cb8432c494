-- How long the clocks of a right side are depends on how long its own clock is.
use Rattle.std.proofs.Common.{leb, ◌≡◌, ◌⊎◌, inl, inr, ℕ, zero, suc, ◌+◌, ◌-◌, ◌≤◌, ◌<◌, List, [], ◌∷◌, length, refl, sym, ap, ◌∙◌, subst, arith}
use Rattle.std.specs.Prelude.{true, false}
use Rattle.std.proofs.lemmas.Bool.Decides.{leb_tells}
use Rattle.hp_tree.specs.Expressions.{Expr, constant, variable, last_of, one, two, choose, pre, fby, arrow, when_is, merge, call, Exprs, no_expr, more_exprs, Parts, no_part, more_parts}
use Rattle.hp_tree.specs.Instant.{Place, Head, Tail, First, Second, Third, Args, Clock, without}
use Rattle.hp_meaning.specs.Clocking.EachExpression.{Clocks, passed, passed_all, passed_parts}

-- one step less
abbrev pub less_one : ℕ → ℕ
less_one zero = zero
less_one (suc k) = k

abbrev pub greater : ℕ → ℕ → ℕ
greater m n = m + (n - m)

abbrev mutual
  -- the length of the longest clock in an expression on a clock of this length
  pub longest : Expr → ℕ → ℕ
  longest (constant s c) k = k
  longest (variable s x) k = k
  longest (last_of s x) k = k
  longest (one s o a) k = longest a k
  longest (two s o a b) k = greater (longest a k) (longest b k)
  longest (choose s a b c) k = greater (longest a k) (greater (longest b k) (longest c k))
  longest (pre s a) k = longest a k
  longest (fby s a b) k = greater (longest a k) (longest b k)
  longest (arrow s a b) k = greater (longest a k) (longest b k)
  longest (when_is s a c x) k = greater k (longest a (less_one k))
  longest (merge s x ps) k = longest_part ps k k
  longest (call s f i es) k = longest_of es k

  pub longest_of : Exprs → ℕ → ℕ
  longest_of no_expr k = k
  longest_of (more_exprs e es) k = greater (longest e k) (longest_of es k)

  pub longest_part : Parts → ℕ → ℕ → ℕ
  longest_part no_part k none = none
  longest_part (more_parts c e ps) k none = greater (longest e (suc k)) (longest_part ps k none)

without_length : (c : Clock) → length (without c) ≡ less_one (length c)
without_length [] = refl
without_length (o ∷ c) = refl

left_greater : (m n k : ℕ) → k ≤ m → k ≤ greater m n
left_greater m n k h = omega (arith, h)

right_greater : (m n k : ℕ) → k ≤ n → k ≤ greater m n
right_greater m n k h = omega (arith, h)

same_least : (n : ℕ) → n ≤ n
same_least n = omega arith

mutual
  at_least : (e : Expr) (k : ℕ) → k ≤ longest e k
  at_least (constant s c) k = same_least k
  at_least (variable s x) k = same_least k
  at_least (last_of s x) k = same_least k
  at_least (one s o a) k = at_least a k
  at_least (two s o a b) k = left_greater (longest a k) (longest b k) k (at_least a k)
  at_least (choose s a b c) k = left_greater (longest a k) (greater (longest b k) (longest c k)) k (at_least a k)
  at_least (pre s a) k = at_least a k
  at_least (fby s a b) k = left_greater (longest a k) (longest b k) k (at_least a k)
  at_least (arrow s a b) k = left_greater (longest a k) (longest b k) k (at_least a k)
  at_least (when_is s a c x) k = left_greater k (longest a (less_one k)) k (same_least k)
  at_least (merge s x ps) k = at_least_part ps k k (same_least k)
  at_least (call s f i es) k = at_least_of es k

  at_least_of : (es : Exprs) (k : ℕ) → k ≤ longest_of es k
  at_least_of no_expr k = same_least k
  at_least_of (more_exprs e es) k = left_greater (longest e k) (longest_of es k) k (at_least e k)

  at_least_part : (ps : Parts) (k none : ℕ) → k ≤ none → k ≤ longest_part ps k none
  at_least_part no_part k none h = h
  at_least_part (more_parts c e ps) k none h = right_greater (longest e (suc k)) (longest_part ps k none) k (at_least_part ps k none h)

-- No clock is longer.
mutual
  pub no_longer : (e : Expr) (c : Clock) (p : Place) → length (passed e c p) ≤ longest e (length c)
  no_longer (one s o a) c (First ∷ p) = no_longer a c p
  no_longer (two s o a b) c (First ∷ p) = left_greater (longest a (length c)) (longest b (length c)) (length (passed a c p)) (no_longer a c p)
  no_longer (two s o a b) c (Second ∷ p) = right_greater (longest a (length c)) (longest b (length c)) (length (passed b c p)) (no_longer b c p)
  no_longer (choose s a b d) c (First ∷ p) =
      left_greater (longest a (length c)) (greater (longest b (length c)) (longest d (length c))) (length (passed a c p)) (no_longer a c p)
  no_longer (choose s a b d) c (Second ∷ p) =
      right_greater (longest a (length c)) (greater (longest b (length c)) (longest d (length c))) (length (passed b c p))
      (left_greater (longest b (length c)) (longest d (length c)) (length (passed b c p)) (no_longer b c p))
  no_longer (choose s a b d) c (Third ∷ p) =
      right_greater (longest a (length c)) (greater (longest b (length c)) (longest d (length c))) (length (passed d c p))
      (right_greater (longest b (length c)) (longest d (length c)) (length (passed d c p)) (no_longer d c p))
  no_longer (pre s a) c (First ∷ p) = no_longer a c p
  no_longer (fby s a b) c (First ∷ p) = left_greater (longest a (length c)) (longest b (length c)) (length (passed a c p)) (no_longer a c p)
  no_longer (fby s a b) c (Second ∷ p) = right_greater (longest a (length c)) (longest b (length c)) (length (passed b c p)) (no_longer b c p)
  no_longer (arrow s a b) c (First ∷ p) = left_greater (longest a (length c)) (longest b (length c)) (length (passed a c p)) (no_longer a c p)
  no_longer (arrow s a b) c (Second ∷ p) = right_greater (longest a (length c)) (longest b (length c)) (length (passed b c p)) (no_longer b c p)
  no_longer (when_is s a k x) c (First ∷ p) =
      right_greater (length c) (longest a (less_one (length c))) (length (passed a (without c) p))
      (subst (λ z. length (passed a (without c) p) ≤ longest a z) (without_length c) (no_longer a (without c) p))
  no_longer (merge s x ps) c (Args ∷ p) = no_longer_part x ps c p (length c) (same_least (length c))
  no_longer (call s f i es) c (Args ∷ p) = no_longer_of es c p
  no_longer e c p = at_least e (length c)

  no_longer_of : (es : Exprs) (c : Clock) (p : Place) → length (passed_all es c p) ≤ longest_of es (length c)
  no_longer_of (more_exprs e es) c (Head ∷ p) = left_greater (longest e (length c)) (longest_of es (length c)) (length (passed e c p)) (no_longer e c p)
  no_longer_of (more_exprs e es) c (Tail ∷ p) =
      right_greater (longest e (length c)) (longest_of es (length c)) (length (passed_all es c p)) (no_longer_of es c p)
  no_longer_of es c p = at_least_of es (length c)

  no_longer_part : (x : List ℕ) (ps : Parts) (c : Clock) (p : Place) (none : ℕ) → length c ≤ none → length (passed_parts x ps c p) ≤ longest_part ps (length c) none
  no_longer_part x (more_parts k e ps) c (Head ∷ p) none h =
      left_greater (longest e (suc (length c))) (longest_part ps (length c) none) (length (passed e ((k, x) ∷ c) p)) (no_longer e ((k, x) ∷ c) p)
  no_longer_part x (more_parts k e ps) c (Tail ∷ p) none h =
      right_greater (longest e (suc (length c))) (longest_part ps (length c) none) (length (passed_parts x ps c p)) (no_longer_part x ps c p none h)
  no_longer_part x ps c p none h = at_least_part ps (length c) none h

-- And one is as long.
abbrev Reached : Clocks → ℕ → Type 0
Reached i n = (p : Place) × (length (i p) ≡ n)

greater_left : (m n : ℕ) → n ≤ m → greater m n ≡ m
greater_left m n h = omega (arith, h)

greater_right : (m n : ℕ) → m < n → greater m n ≡ n
greater_right m n h = omega (arith, h)

chosen : {X : Type 0} (m n : ℕ) → (greater m n ≡ m → X) → (greater m n ≡ n → X) → X
chosen {X} m n f g = tie (leb_tells n m)
  where
    tie : ((leb n m ≡ true) × (n ≤ m)) ⊎ ((leb n m ≡ false) × (m < n)) → X
    tie (inl h) = f (greater_left m n h.1)
    tie (inr h) = g (greater_right m n h.1)

either : (m n : ℕ) (i j k : Clocks) (f g : Place → Place) → ((p : Place) → k (f p) ≡ i p) → ((p : Place) → k (g p) ≡ j p) → Reached i m → Reached j n → Reached k (greater m n)
either m n i j k f g a b h l =
    chosen m n (λ e. (f h.0, ap length (a h.0) ∙ h.1 ∙ sym e)) (λ e. (g l.0, ap length (b l.0) ∙ l.1 ∙ sym e))

mutual
  pub reached : (e : Expr) (c : Clock) → Reached (passed e c) (longest e (length c))
  reached (constant s k) c = ([], refl)
  reached (variable s x) c = ([], refl)
  reached (last_of s x) c = ([], refl)
  reached (one s o a) c = let r = reached a c in (First ∷ r.0, r.1)
  reached (two s o a b) c =
      either (longest a (length c)) (longest b (length c)) (passed a c) (passed b c) (passed (two s o a b) c) (λ p. First ∷ p) (λ p. Second ∷ p) (λ p. refl) (λ p. refl) (reached a c) (reached b c)
  reached (choose s a b d) c =
      let r = either (longest b (length c)) (longest d (length c)) (passed b c) (passed d c) (passed (choose s a b d) c) (λ p. Second ∷ p) (λ p. Third ∷ p) (λ p. refl) (λ p. refl) (reached b c) (reached d c) in
      let q = reached a c in
      chosen (longest a (length c)) (greater (longest b (length c)) (longest d (length c))) (λ e. (First ∷ q.0, q.1 ∙ sym e)) (λ e. (r.0, r.1 ∙ sym e))
  reached (pre s a) c = let r = reached a c in (First ∷ r.0, r.1)
  reached (fby s a b) c =
      either (longest a (length c)) (longest b (length c)) (passed a c) (passed b c) (passed (fby s a b) c) (λ p. First ∷ p) (λ p. Second ∷ p) (λ p. refl) (λ p. refl) (reached a c) (reached b c)
  reached (arrow s a b) c =
      either (longest a (length c)) (longest b (length c)) (passed a c) (passed b c) (passed (arrow s a b) c) (λ p. First ∷ p) (λ p. Second ∷ p) (λ p. refl) (λ p. refl) (reached a c) (reached b c)
  reached (when_is s a k x) c =
      let r = reached a (without c) in
      chosen (length c) (longest a (less_one (length c))) (λ e. ([], sym e)) (λ e. (First ∷ r.0, r.1 ∙ ap (longest a) (without_length c) ∙ sym e))
  reached (merge s x ps) c = let r = reached_part x ps c in (Args ∷ r.0, r.1)
  reached (call s f i es) c = let r = reached_of es c in (Args ∷ r.0, r.1)

  reached_of : (es : Exprs) (c : Clock) → Reached (passed_all es c) (longest_of es (length c))
  reached_of no_expr c = ([], refl)
  reached_of (more_exprs e es) c =
      either (longest e (length c)) (longest_of es (length c)) (passed e c) (passed_all es c) (passed_all (more_exprs e es) c) (λ p. Head ∷ p) (λ p. Tail ∷ p) (λ p. refl) (λ p. refl) (reached e c) (reached_of es c)

  reached_part : (x : List ℕ) (ps : Parts) (c : Clock) → Reached (passed_parts x ps c) (longest_part ps (length c) (length c))
  reached_part x no_part c = ([], refl)
  reached_part x (more_parts k e ps) c =
      either (longest e (suc (length c))) (longest_part ps (length c) (length c)) (passed e ((k, x) ∷ c)) (passed_parts x ps c) (passed_parts x (more_parts k e ps) c) (λ p. Head ∷ p) (λ p. Tail ∷ p) (λ p. refl) (λ p. refl) (reached e ((k, x) ∷ c)) (reached_part x ps c)
