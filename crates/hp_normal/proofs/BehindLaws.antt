-- Each equation still stands behind those that define what it reads.
use Rattle.std.proofs.Common.{◌≡◌, ◌⊎◌, ℕ, zero, suc, ◌+◌, ◌≤◌, nat_eq, Bool, true, false, cond, not, if◌then◌else◌, map, List, [], ◌∷◌, ◌++◌, Option, None, Some, inl, inr, refl, sym, ap, ◌∙◌, subst, arith}
use Rattle.std.specs.List.{filter, flat_map}
use Rattle.std.proofs.lemmas.Bool.{eqb-true}
use Rattle.std.proofs.lemmas.List.{map-append}
use Rattle.hp_flat.specs.declared.equation.Atom.{Atom}
use Rattle.hp_flat.specs.declared.equation.Atom.TheVariants.{Variable, Value}
use Rattle.hp_flat.specs.Equations.{Clock, Right, operator, register, called, FlatEqn}
use Rattle.hp_flat.specs.Nodes.{FlatNode}
use Rattle.hp_normal.specs.Reading.{count, atom_variables, clock_variables, eqn_reads, uses, copy_of}
use Rattle.hp_normal.specs.Retargeting.{moved, after_move, ends, is_moved, with_targets, retargeted}
use Rattle.hp_normal.specs.Substituting.{Meanings, read, variable_or, read_clock, read_right, read_eqn, standing, meanings, is_replaced, substituted}
use Rattle.hp_normal.specs.Following.{defined, IsUndefined, CopiesAreBehind, needs, eqn_needs, AreBehind}
use Rattle.hp_normal.proofs.DefinerLaws.{count-append}
use Rattle.hp_normal.proofs.CopyLaws.{put-other, count-one, differ, left-more, right-more, moved-copy, copies-behind}
use Rattle.hp_normal.proofs.EndsLaws.{reads, Known, all_known}
use Rattle.hp_normal.proofs.MeaningsLaws.{untouched, Settled, settled_next}

-- ---- a number is among others

among : (same : Bool) (v x : ℕ) (k : ℕ) → nat_eq v x ≡ same → 1 ≤ (if same then 1 else 0) + k → (v ≡ x) ⊎ (1 ≤ k)
among true v x k e h = inl (eqb-true v x e)
among false v x k e h = inr (omega (arith, h))

first_or : (v x : ℕ) (vs : List ℕ) → 1 ≤ count x (v ∷ vs) → (v ≡ x) ⊎ (1 ≤ count x vs)
first_or v x vs h = among (nat_eq v x) v x (count x vs) refl h

none_or : (k : ℕ) → (k ≡ 0) ⊎ (1 ≤ k)
none_or zero = inl refl
none_or (suc k) = inr (omega arith)

either_part : (x : ℕ) (xs ys : List ℕ) → 1 ≤ count x (xs ++ ys) → (1 ≤ count x xs) ⊎ (1 ≤ count x ys)
either_part x xs ys h = elim (none_or (count x xs)) [ inl none ↦ inr (omega (arith, h, none, count-append x xs ys)) | inr there ↦ inl there ]

-- all numbers of a list have a property
abbrev Each : (ℕ → Type 0) → List ℕ → Type 0
Each P xs = (x : ℕ) → 1 ≤ count x xs → P x

module _ (P : ℕ → Type 0) where
  each_left : (xs ys : List ℕ) → Each P (xs ++ ys) → Each P xs
  each_left xs ys h x k = h x (omega (arith, k, left-more x xs ys))

  each_right : (xs ys : List ℕ) → Each P (xs ++ ys) → Each P ys
  each_right xs ys h x k = h x (omega (arith, k, right-more x xs ys))

  each_both : (xs ys : List ℕ) → Each P xs → Each P ys → Each P (xs ++ ys)
  each_both xs ys h f x k = elim (either_part x xs ys k) [ inl left ↦ h x left | inr right ↦ f x right ]

  each_none : Each P []
  each_none x k = absurd (omega (arith, k))

  each_more : (v : ℕ) (vs : List ℕ) → P v → Each P vs → Each P (v ∷ vs)
  each_more v vs p h x k = elim (first_or v x vs k) [ inl same ↦ subst P same p | inr later ↦ h x later ]

  each_first : (v : ℕ) (vs : List ℕ) → Each P (v ∷ vs) → P v
  each_first v vs h = h v (count-one v vs)

  each_later : (v : ℕ) (vs : List ℕ) → Each P (v ∷ vs) → Each P vs
  each_later v vs h x k = h x (omega (arith, k, right-more x (v ∷ []) vs))

-- ---- equations that are left out

module _ (w : FlatEqn → FlatEqn) (keep : FlatEqn → Bool) (x : ℕ) where
  kept_defines : (e : FlatEqn) (es : List FlatEqn) (kept : Bool) → count x (defined (cond kept (e ∷ es) es)) ≤ count x (defined (e ∷ es))
  kept_defines e es true = omega arith
  kept_defines e es false = right-more x e.targets (defined es)

  fewer_defined : (es : List FlatEqn) → count x (defined (filter keep (map w es))) ≤ count x (defined (map w es))
  fewer_defined [] = omega arith
  fewer_defined (e ∷ es) =
      omega (arith, fewer_defined es, kept_defines (w e) (filter keep (map w es)) (keep (w e)), count-append x (w e).targets (defined (filter keep (map w es))), count-append x (w e).targets (defined (map w es)))

module _ (w : FlatEqn → FlatEqn) (keep : FlatEqn → Bool) where
  -- it is enough that what is read is not defined before some are left out
  abbrev Off : FlatEqn → List FlatEqn → Type 0
  Off e es = (x : ℕ) → 1 ≤ count x (eqn_needs (w e)) → count x (defined (map w (e ∷ es))) ≡ 0

  kept_behind : (e : FlatEqn) (es : List FlatEqn) (kept : Bool) → Off e es → AreBehind (filter keep (map w es)) → AreBehind (cond kept (w e ∷ filter keep (map w es)) (filter keep (map w es)))
  kept_behind e es true off rest =
      ((λ x k. omega (arith, off x k, fewer_defined w keep x es, count-append x (w e).targets (defined (filter keep (map w es))), count-append x (w e).targets (defined (map w es)))), rest)
  kept_behind e es false off rest = rest

-- ---- other targets

none_mapped : (r : ℕ → ℕ) (x : ℕ) (xs : List ℕ) → ((t : ℕ) → 1 ≤ count t xs → r t ≡ x → ⊥) → count x (map r xs) ≡ 0
none_mapped r x [] h = refl
none_mapped r x (t ∷ ts) h =
    let rest = none_mapped r x ts (λ u k. h u (omega (arith, k, right-more u (t ∷ []) ts))) in
    elim (none_or (count x (map r (t ∷ ts)))) [
      | inl none ↦ none
      | inr there ↦ elim (first_or (r t) x (map r ts) there) [ inl same ↦ absurd (h t (count-one t ts) same) | inr later ↦ absurd (omega (arith, rest, later)) ]
    ]

targets_mapped : (r : ℕ → ℕ) (es : List FlatEqn) → defined (map (with_targets r) es) ≡ map r (defined es)
targets_mapped r [] = refl
targets_mapped r (e ∷ es) = ap (λ ts. map r e.targets ++ ts) (targets_mapped r es) ∙ sym (map-append r e.targets (defined es))

module _ (n : FlatNode) (r : ℕ → ℕ) where
  -- the ends are those by the copies among some equations, of all that these define
  abbrev Agree : List FlatEqn → Type 0
  Agree es = (t : ℕ) → 1 ≤ count t (defined es) → r t ≡ ends n es t

  agree_with : (e : FlatEqn) (es : List FlatEqn) (m : Option (ℕ × ℕ)) (t : ℕ) → moved n e ≡ m → IsUndefined (e ∷ es) (copy_of e) → 1 ≤ count t (defined es) → after_move m (ends n es) t ≡ ends n es t
  agree_with e es None t q behind h = refl
  agree_with e es (Some (x, y)) t q behind h =
      let undefined : count y (defined (e ∷ es)) ≡ 0 = subst (IsUndefined (e ∷ es)) (moved-copy n e x y q) behind in
      put-other y t (ends n es x) (ends n es) (differ y t (defined (e ∷ es)) undefined (omega (arith, h, right-more t e.targets (defined es))))

  agree_later : (e : FlatEqn) (es : List FlatEqn) → IsUndefined (e ∷ es) (copy_of e) → Agree (e ∷ es) → Agree es
  agree_later e es behind agree t h = agree t (omega (arith, h, right-more t e.targets (defined es))) ∙ agree_with e es (moved n e) t refl behind h

  -- what some equations define is defined by them under its new name
  closed : (es : List FlatEqn) → Known n es (ends n es) → Agree es → (t : ℕ) → 1 ≤ count t (defined es) → 1 ≤ count (r t) (defined es)
  closed es known agree t h =
      subst (λ z. 1 ≤ count z (defined es)) (sym (agree t h))
      (elim (known.defines t) [ inl same ↦ subst (λ z. 1 ≤ count z (defined es)) (sym same) h | inr there ↦ there ])

  retargeted_behind : (keep : FlatEqn → Bool) (es : List FlatEqn) → AreBehind es → ((y : ℕ) → count y (reads es) ≤ count y (uses n)) → Agree es → AreBehind (filter keep (map (with_targets r) es))
  retargeted_behind keep [] behind within agree = tt
  retargeted_behind keep (e ∷ es) behind within agree =
      let copies = copies-behind (e ∷ es) behind in
      kept_behind (with_targets r) keep e es (keep (with_targets r e))
      (λ x k. ap (count x) (targets_mapped r (e ∷ es))
      ∙ none_mapped r x (defined (e ∷ es)) (λ t h same. absurd (omega (arith, behind.0 x k, closed (e ∷ es) (all_known n (e ∷ es) copies within) agree t h, ap (λ z. count z (defined (e ∷ es))) same))))
      (retargeted_behind keep es behind.1 (λ y. omega (arith, within y, right-more y (eqn_reads e) (reads es))) (agree_later e es copies.0 agree))

-- ---- other readings

same_targets : (s : Meanings) (es : List FlatEqn) → defined (map (read_eqn s) es) ≡ defined es
same_targets s [] = refl
same_targets s (e ∷ es) = ap (λ ts. e.targets ++ ts) (same_targets s es)

module _ (s : Meanings) (P : ℕ → Type 0) where
  -- a number has a property, and what it stands for
  abbrev Has : ℕ → Type 0
  Has z = P z × ((y : ℕ) → s z ≡ Variable y → P y)

  has_meaning : (z : ℕ) (t : Atom) → s z ≡ t → Has z → Each P (atom_variables t)
  has_meaning z (Variable y) q h = each_more P y [] (h.1 y q) (each_none P)
  has_meaning z (Value v) q h = each_none P

  has_or : (z : ℕ) (t : Atom) → s z ≡ t → Has z → P (variable_or z t)
  has_or z (Variable y) q h = h.1 y q
  has_or z (Value v) q h = h.0

  atom_has : (a : Atom) → Each Has (atom_variables a) → Each P (atom_variables (read s a))
  atom_has (Variable z) h = has_meaning z (s z) refl (each_first Has z [] h)
  atom_has (Value v) h = each_none P

  atoms_have : (args : List Atom) → Each Has (flat_map atom_variables args) → Each P (flat_map atom_variables (map (read s) args))
  atoms_have [] h = each_none P
  atoms_have (a ∷ args) h =
      each_both P (atom_variables (read s a)) (flat_map atom_variables (map (read s) args))
      (atom_has a (each_left Has (atom_variables a) (flat_map atom_variables args) h)) (atoms_have args (each_right Has (atom_variables a) (flat_map atom_variables args) h))

  clock_has : (clock : Clock) → Each Has (clock_variables clock) → Each P (clock_variables (read_clock s clock))
  clock_has [] h = each_none P
  clock_has (on ∷ clock) h =
      each_more P (variable_or on.0 (s on.0)) (clock_variables (read_clock s clock)) (has_or on.0 (s on.0) refl (each_first Has on.0 (clock_variables clock) h))
      (clock_has clock (each_later Has on.0 (clock_variables clock) h))

  right_has : (right : Right) → Each Has (needs right) → Each P (needs (read_right s right))
  right_has (operator op args) h = atoms_have args h
  right_has (register first next) h = each_none P
  right_has (called f args) h = atoms_have args h

  eqn_has : (e : FlatEqn) → Each Has (eqn_needs e) → Each P (eqn_needs (read_eqn s e))
  eqn_has e h =
      let clock = clock_variables e.clock in
      let right = needs e.right in
      let behind = each_right Has clock (right ++ e.restart) h in
      each_both P (clock_variables (read_clock s e.clock)) (needs (read_right s e.right) ++ e.restart)
      (clock_has e.clock (each_left Has clock (right ++ e.restart) h))
      (each_both P (needs (read_right s e.right)) e.restart (right_has e.right (each_left Has right e.restart behind)) (λ x k. (each_right Has right e.restart behind x k).0))

module _ (n : FlatNode) (keep : FlatEqn → Bool) where
  settled_off : (es : List FlatEqn) (s : Meanings) (z y : ℕ) (t : Atom) → Settled n es s z t → t ≡ Variable y → count z (defined es) ≡ 0 → count y (defined es) ≡ 0
  settled_off es s z y (Value v) h q off = absurd cc
  settled_off es s z y (Variable w) h q off =
      let same : w ≡ y = cc in
      sym (ap (λ k. count k (defined es)) same) ∙ elim h [ inl itself ↦ sym (ap (λ k. count k (defined es)) itself) ∙ off | inr there ↦ there.0 ]

  substituted_behind : (es : List FlatEqn) (s last : Meanings) → meanings n es s ≡ last → AreBehind es → CopiesAreBehind es → ((w : ℕ) → Settled n es s w (s w))
      → AreBehind (filter keep (map (read_eqn last) es))
  substituted_behind [] s last q behind copies settled = tt
  substituted_behind (e ∷ es) s last q behind copies settled =
      kept_behind (read_eqn last) keep e es (keep (read_eqn last e))
      (λ x k. ap (count x) (same_targets last (e ∷ es))
      ∙ eqn_has last (λ z. count z (defined (e ∷ es)) ≡ 0) e
      (λ z h.
      let off = behind.0 z h in
      (off, λ y p. settled_off (e ∷ es) s z y (s z) (settled z) (sym (untouched n (e ∷ es) s z off) ∙ ap (λ f. f z) q ∙ p) off)) x k)
      (substituted_behind es (standing n (copy_of e) s) last q behind.1 copies.1 (settled_next n e es s (copy_of e) refl copies.0 settled))

-- ---- each step

pub retargeted_step : (n : FlatNode) → AreBehind n.eqns → AreBehind (retargeted n).eqns
retargeted_step n behind = retargeted_behind n (ends n n.eqns) (λ e. not (is_moved (ends n n.eqns) e)) n.eqns behind (λ y. right-more y n.outputs (reads n.eqns)) (λ t h. refl)

pub substituted_step : (n : FlatNode) → AreBehind n.eqns → AreBehind (substituted n).eqns
substituted_step n behind =
    let last = meanings n n.eqns (λ x. Variable x) in
    substituted_behind n (λ e. not (is_replaced last e)) n.eqns (λ x. Variable x) last refl behind (copies-behind n.eqns behind) (λ w. inl refl)
