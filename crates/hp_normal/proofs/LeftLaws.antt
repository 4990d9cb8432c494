-- Each equation that is left is needed.
use Rattle.std.proofs.Common.{◌≡◌, ◌⊎◌, ℕ, ◌+◌, ◌<◌, ◌≤◌, nat_eq, length, Bool, true, false, cond, ◌&&◌, not, if◌then◌else◌, List, [], ◌∷◌, ◌++◌, inl, inr, refl, sym, ap, subst, ◌∙◌, arith}
use Rattle.std.specs.List.{AllByRecursion, filter, flat_map}
use Rattle.std.proofs.lemmas.Bool.{eqb-true, eq-eqb, lt-ltb}
use Rattle.hp_flat.specs.Equations.{FlatEqn}
use Rattle.hp_flat.specs.Nodes.{FlatNode}
use Rattle.hp_normal.specs.Reading.{count, eqn_reads, occurs}
use Rattle.hp_normal.specs.Needing.{is_operator, held_reads, roots, are_absent, is_idle, needed, pruned, IsAmong, IsNeeded, EqnNeeded, NeededLaw}
use Rattle.hp_normal.proofs.CopyLaws.{count-one, right-more}
use Rattle.hp_normal.proofs.DefinerLaws.{count-append}
use Rattle.hp_normal.proofs.NeedLaws.{grown, none_or}
use Rattle.hp_normal.proofs.TableLaws.{first_true, second_true, occurs-often}

-- ---- equations that are left are among all

kept_among : (keep : FlatEqn → Bool) (es : List FlatEqn) (e : FlatEqn) → IsAmong e es → keep e ≡ true → IsAmong e (filter keep es)
kept_among keep [] e a k = absurd a
kept_among keep (d ∷ ds) e a k = by (keep d) refl a (λ later. kept_among keep ds e later k)
  where
    by : (b : Bool) → keep d ≡ b → (e ≡ d) ⊎ IsAmong e ds → (IsAmong e ds → IsAmong e (filter keep ds)) → IsAmong e (cond b (d ∷ filter keep ds) (filter keep ds))
    by true q (inl same) rest = inl same
    by true q (inr later) rest = inr (rest later)
    by false q (inl same) rest = absurd (let no : true ≡ false = sym k ∙ ap keep same ∙ q in cc)
    by false q (inr later) rest = rest later

all_kept : (P : FlatEqn → Type 0) (keep : FlatEqn → Bool) (es : List FlatEqn) → ((e : FlatEqn) → IsAmong e es → keep e ≡ true → P e) → AllByRecursion P (filter keep es)
all_kept P keep [] f = tt
all_kept P keep (d ∷ ds) f = by (keep d) refl (all_kept P keep ds (λ e a k. f e (inr a) k))
  where
    by : (b : Bool) → keep d ≡ b → AllByRecursion P (filter keep ds) → AllByRecursion P (cond b (d ∷ filter keep ds) (filter keep ds))
    by true q rest = (f d (inl refl) q, rest)
    by false q rest = rest

each_of : (P : FlatEqn → Type 0) (es : List FlatEqn) (e : FlatEqn) → AllByRecursion P es → IsAmong e es → P e
each_of P [] e h a = absurd a
each_of P (d ∷ ds) e h (inl same) = subst P (sym same) h.0
each_of P (d ∷ ds) e h (inr later) = each_of P ds e h.1 later

-- ---- numbers in lists

either_part : (x : ℕ) (xs ys : List ℕ) → 1 ≤ count x (xs ++ ys) → (1 ≤ count x xs) ⊎ (1 ≤ count x ys)
either_part x xs ys h =
    elim (none_or (count x xs)) [ inl none ↦ inr (let all = count-append x xs ys in omega (arith, h, none, all)) | inr there ↦ inl there ]

-- what a list that is made of each equation has, one equation has
some_eqn : (f : FlatEqn → List ℕ) (es : List FlatEqn) (x : ℕ) → 1 ≤ count x (flat_map f es) → (e : FlatEqn) × IsAmong e es × (1 ≤ count x (f e))
some_eqn f [] x h = absurd (omega (arith, h))
some_eqn f (d ∷ ds) x h = by (either_part x (f d) (flat_map f ds) h) (λ later. some_eqn f ds x later)
  where
    by : (1 ≤ count x (f d)) ⊎ (1 ≤ count x (flat_map f ds)) → (1 ≤ count x (flat_map f ds) → (e : FlatEqn) × IsAmong e ds × (1 ≤ count x (f e))) → (e : FlatEqn) × IsAmong e (d ∷ ds) × (1 ≤ count x (f e))
    by (inl here) rest = (d, inl refl, here)
    by (inr later) rest = let found = rest later in (found.0, inr found.1, found.2)

either_false : (a b : Bool) → (a && b) ≡ false → (a ≡ false) ⊎ (b ≡ false)
either_false true b h = inr h
either_false false b h = inl refl

not_true : (b : Bool) → not b ≡ true → b ≡ false
not_true true h = absurd (cc)
not_true false h = refl

module _ (n : FlatNode) where
  -- ---- idle equations

  none_among : (xs ts : List ℕ) (x : ℕ) → are_absent n xs ts ≡ true → 1 ≤ count x ts → 1 ≤ count x xs → ⊥
  none_among xs [] x a t c = omega (arith, t)
  none_among xs (u ∷ us) x a t c =
      let none : count u xs ≡ 0 = occurs-often n 0 xs u (first_true (occurs n 0 xs u) (are_absent n xs us) a) in
      by (nat_eq u x) refl none (λ later. none_among xs us x (second_true (occurs n 0 xs u) (are_absent n xs us) a) later c)
    where
      by : (b : Bool) → nat_eq u x ≡ b → count u xs ≡ 0 → (1 ≤ count x us → ⊥) → ⊥
      by true q none rest = let same : count u xs ≡ count x xs = ap (λ z. count z xs) (eqb-true u x q) in omega (arith, c, none, same)
      by false q none rest = rest (let skip : count x (u ∷ us) ≡ 0 + count x us = ap (λ d. (if d then 1 else 0) + count x us) q in omega (arith, t, skip))

  -- an equation that defines what is among some numbers is not idle
  pub not-idle : (xs : List ℕ) (e : FlatEqn) (x : ℕ) → 1 ≤ count x e.targets → 1 ≤ count x xs → is_idle n xs e ≡ false
  not-idle xs e x there c = by (is_idle n xs e) refl
    where
      by : (b : Bool) → is_idle n xs e ≡ b → is_idle n xs e ≡ false
      by false q = q
      by true q = absurd (none_among xs e.targets x (second_true (is_operator e.right) (are_absent n xs e.targets) q) there c)

  held_not : (xs : List ℕ) (e : FlatEqn) → is_operator e.right ≡ false → is_idle n xs e ≡ false
  held_not xs e h = ap (λ b. b && are_absent n xs e.targets) h

  some_of : (xs ts : List ℕ) → AllByRecursion (λ x. x < length n.variables) ts → are_absent n xs ts ≡ false → (x : ℕ) × (1 ≤ count x ts) × (1 ≤ count x xs)
  some_of xs [] below h = absurd (let no : true ≡ false = h in cc)
  some_of xs (t ∷ ts) below h = by (occurs n 0 xs t) refl (λ rest. some_of xs ts below.1 rest)
    where
      here : (k : ℕ) → count t xs ≡ k → occurs n 0 xs t ≡ false → 1 ≤ count t xs
      here k e q =
          elim (none_or (count t xs)) [
            | inl none ↦ absurd (let yes : occurs n 0 xs t ≡ true = (λ i. lt-ltb t (length n.variables) below.0 i && eq-eqb (count t xs) 0 none i) in let no : true ≡ false = sym yes ∙ q in cc)
            | inr some ↦ some
          ]

      by : (b : Bool) → occurs n 0 xs t ≡ b → (are_absent n xs ts ≡ false → (x : ℕ) × (1 ≤ count x ts) × (1 ≤ count x xs)) → (x : ℕ) × (1 ≤ count x (t ∷ ts)) × (1 ≤ count x xs)
      by true q rest =
          let found = rest (sym (ap (λ c. c && are_absent n xs ts) q) ∙ h) in
          (found.0, (let there = found.1 in let more = right-more found.0 (t ∷ []) ts in omega (arith, there, more)), found.2)
      by false q rest = (t, count-one t ts, here (count t xs) refl q)

  -- ---- what is needed

  abbrev last : List ℕ
  last = needed n n.eqns

  abbrev left : FlatNode
  left = pruned n

  abbrev Below : Type 0
  Below = AllByRecursion (λ (e : FlatEqn). AllByRecursion (λ x. x < length n.variables) e.targets) n.eqns

  is_left : (e : FlatEqn) → IsAmong e n.eqns → is_idle n last e ≡ false → IsAmong e left.eqns
  is_left e a k = kept_among (λ d. not (is_idle n last d)) n.eqns e a (ap not k)

  held_needed : (e : FlatEqn) (x : ℕ) → IsAmong e n.eqns → is_operator e.right ≡ false → 1 ≤ count x (eqn_reads e) → IsNeeded left x
  held_needed e x a held c = IsNeeded.by_held e (is_left e a (held_not last e held)) held c

  root_needed : (x : ℕ) → 1 ≤ count x (roots n) → IsNeeded left x
  root_needed x h =
      elim (either_part x n.outputs (flat_map held_reads n.eqns) h) [
        | inl output ↦ IsNeeded.by_output output
        | inr held ↦ (let found = some_eqn held_reads n.eqns x held in by found.0 found.1 found.2 (is_operator (found.0).right) refl)
      ]
    where
      by : (e : FlatEqn) → IsAmong e n.eqns → 1 ≤ count x (held_reads e) → (b : Bool) → is_operator e.right ≡ b → IsNeeded left x
      by e a c true q = absurd (let none : count x (held_reads e) ≡ 0 = ap (λ b. count x (if b then [] else eqn_reads e)) q in omega (arith, c, none))
      by e a c false q = held_needed e x a q (let same : count x (held_reads e) ≡ count x (eqn_reads e) = ap (λ b. count x (if b then [] else eqn_reads e)) q in omega (arith, c, same))

  module _ (below : Below) where
    read_needed : (xs : List ℕ) (e : FlatEqn) (x : ℕ) → IsAmong e n.eqns → is_idle n xs e ≡ false → ((y : ℕ) → 1 ≤ count y xs → IsNeeded left y) → ((y : ℕ) → count y xs ≤ count y last)
        → 1 ≤ count x (eqn_reads e) → IsNeeded left x
    read_needed xs e x a idle known within c =
        elim (either_false (is_operator e.right) (are_absent n xs e.targets) idle) [
          | inl held ↦ held_needed e x a held c
          | inr some ↦ (let found = some_of xs e.targets (each_of (λ (d : FlatEqn). AllByRecursion (λ y. y < length n.variables) d.targets) n.eqns e below a) some in
              let y = found.0 in
              let there = found.2 in
              let more = within y in
              IsNeeded.by_eqn y e (known y there) (is_left e a (not-idle last e y found.1 (omega (arith, there, more)))) found.1 c)
        ]

    all_needed : (es : List FlatEqn) → ((e : FlatEqn) → IsAmong e es → IsAmong e n.eqns) → ((y : ℕ) → count y (needed n es) ≤ count y last) → (x : ℕ) → 1 ≤ count x (needed n es) → IsNeeded left x
    all_needed [] sub within x h = root_needed x h
    all_needed (e ∷ es) sub within x h =
        by (is_idle n (needed n es) e) refl (λ y c. all_needed es (λ d a. sub d (inr a)) (λ z. let one = within z in let more = grown n e es z in omega (arith, one, more)) y c) h
      where
        by : (b : Bool) → is_idle n (needed n es) e ≡ b → ((y : ℕ) → 1 ≤ count y (needed n es) → IsNeeded left y) → 1 ≤ count x (if b then needed n es else needed n es ++ eqn_reads e) → IsNeeded left x
        by true q known c = known x c
        by false q known c =
            elim (either_part x (needed n es) (eqn_reads e) c) [
              | inl before ↦ known x before
              | inr read ↦ read_needed (needed n es) e x (sub e (inl refl)) q known (λ z. let one = within z in let more = grown n e es z in omega (arith, one, more)) read
            ]

    pub all-left : AllByRecursion (EqnNeeded left) left.eqns
    all-left =
        all_kept (EqnNeeded left) (λ d. not (is_idle n last d)) n.eqns
        (λ e a k. elim (either_false (is_operator e.right) (are_absent n last e.targets) (not_true (is_idle n last e) k)) [
          | inl held ↦ inl held
          | inr some ↦ (let found = some_of last e.targets (each_of (λ (d : FlatEqn). AllByRecursion (λ y. y < length n.variables) d.targets) n.eqns e below a) some in
              inr (found.0, found.1, all_needed n.eqns (λ d b. b) (λ y. omega arith) found.0 found.2))
        ])

pub needed_law : (n : FlatNode) → NeededLaw n
needed_law n below = all-left n below
