-- No needless copies are left.
use Rattle.std.proofs.Common.{◌≡◌, ◌+◌, ◌≤◌, ℕ, nat_eq, Bool, true, false, cond, not, if◌then◌else◌, map, List, [], ◌∷◌, Option, None, Some, refl, sym, ap, ◌∙◌, subst, arith}
use Rattle.std.specs.List.{AllByRecursion, filter}
use Rattle.std.proofs.lemmas.Bool.{eqb-true}
use Rattle.hp_obc.specs.declared.command.ObcOp.TheVariants.{Copy}
use Rattle.hp_flat.specs.declared.equation.Atom.{Atom}
use Rattle.hp_flat.specs.declared.node.Variable.{Variable as FlatVariable}
use Rattle.hp_flat.specs.declared.equation.Atom.TheVariants.{Variable, Value}
use Rattle.hp_flat.specs.Equations.{Right, operator, register, called, FlatEqn}
use Rattle.hp_flat.specs.Nodes.{FlatNode}
use Rattle.hp_normal.specs.Normal.{normal}
use Rattle.hp_normal.specs.Reading.{count, only, copied, both, copy_of}
use Rattle.hp_normal.specs.Retargeting.{is_free, free_copy, moved, ends, goes_on, is_moved, with_targets, retargeted_eqns, retargeted}
use Rattle.hp_normal.specs.Substituting.{Meanings, read, may_stand, is_itself, read_right, read_eqn, is_replaced, stands_for, meanings, substituted_eqns, substituted}
use Rattle.hp_normal.specs.Following.{defined, eqn_needs, AreBehind, AllHaveOneEnd, HaveOneEnd, AllStand, StandsFor}
use Rattle.hp_normal.proofs.BehindLaws.{retargeted_step, substituted_step}
use Rattle.hp_normal.proofs.CopyLaws.{copies-behind, copy-defines, copy-needs, left-more}
use Rattle.hp_normal.proofs.EndsLaws.{ends_law}
use Rattle.hp_normal.proofs.MeaningsLaws.{meanings_law}
use Rattle.hp_machines.specs.Copies.{KeepsName, KeepsReaders, NoneNeedlessLaw}

-- ---- no equation copies the variable that it defines

abbrev CopiesOther : FlatEqn → Type 0
CopiesOther e = (x : ℕ) → copy_of e ≡ Some (x, Variable x) → ⊥

copy_other : (e : FlatEqn) (es : List FlatEqn) → ((x : ℕ) → 1 ≤ count x (eqn_needs e) → count x (defined (e ∷ es)) ≡ 0) → CopiesOther e
copy_other e es h x copy =
    let none = h x (copy-needs e x x copy) in
    absurd (omega (arith, none, copy-defines e x (Variable x) copy, left-more x e.targets (defined es)))

copy_others : (es : List FlatEqn) → AreBehind es → AllByRecursion CopiesOther es
copy_others [] h = tt
copy_others (e ∷ es) h = (copy_other e es h.0, copy_others es h.1)

-- ---- what is kept of a list

module _ (w : FlatEqn → FlatEqn) (keep : FlatEqn → Bool) (P : FlatEqn → Type 0) where
  kept_by : (e : FlatEqn) (es : List FlatEqn) (b : Bool) → keep (w e) ≡ b → (keep (w e) ≡ true → CopiesOther (w e) → P (w e)) → AllByRecursion CopiesOther (cond b (w e ∷ filter keep (map w es)) (filter keep (map w es)))
      → (AllByRecursion CopiesOther (filter keep (map w es)) → AllByRecursion P (filter keep (map w es))) → AllByRecursion P (cond b (w e ∷ filter keep (map w es)) (filter keep (map w es)))
  kept_by e es true k here others rest = (here k others.0, rest others.1)
  kept_by e es false k here others rest = rest others

-- ---- the element of a list of one, and of a list that was mapped

only_mapped : {A B : Type 0} (f : A → B) (xs : List A) (b : B) → only (map f xs) ≡ Some b → (a : A) × (only xs ≡ Some a) × (f a ≡ b)
only_mapped f [] b e = absurd cc
only_mapped f (a ∷ []) b e = (a, refl, cc)
only_mapped f (a ∷ c ∷ xs) b e = absurd cc

both_parts : {A B : Type 0} (p : Option A) (q : Option B) (x : A) (a : B) → both p q ≡ Some (x, a) → (p ≡ Some x) × (q ≡ Some a)
both_parts {A} {B} None q x a e = absurd cc
both_parts {A} {B} (Some y) None x a e = absurd cc
both_parts {A} {B} (Some y) (Some b) x a e =
    let pair : ◌≡◌ {A = A × B} (y, b) (x, a) = cc in
    (ap (λ (p : A × B). Some p.0) pair, ap (λ (p : A × B). Some p.1) pair)

-- ---- names

-- of a copy under other names, the copy
copy_renamed : (r : ℕ → ℕ) (e : FlatEqn) (x : ℕ) (a : Atom) → copy_of (with_targets r e) ≡ Some (x, a) → (z : ℕ) × (copy_of e ≡ Some (z, a)) × (r z ≡ x)
copy_renamed r e x a h =
    let parts = both_parts (only (map r e.targets)) (copied e.right) x a h in
    let one = only_mapped r e.targets x parts.0 in
    (one.0, (λ i. both (one.1 i) (parts.1 i)), one.2)

not_moved : (r : ℕ → ℕ) (x y : ℕ) (c : Option (ℕ × Atom)) → c ≡ Some (x, Variable y) → not (goes_on r c) ≡ true → r y ≡ y
not_moved r x y c e h = by (nat_eq (r y) y) refl (sym (ap (λ k. not (goes_on r k)) e) ∙ h)
  where
    by : (b : Bool) → nat_eq (r y) y ≡ b → not (not b) ≡ true → r y ≡ y
    by true q k = eqb-true (r y) y q
    by false q k = absurd cc

module _ (n : FlatNode) (r : ℕ → ℕ) where
  moved_by : (e : FlatEqn) (z y : ℕ) → copy_of e ≡ Some (z, Variable y) → is_free n e.clock y ≡ true → moved n e ≡ Some (z, y)
  moved_by e z y copy free = ap (λ c. free_copy n e.clock c) copy ∙ ap (λ b. if b then Some (z, y) else None) free

  name_by : (e : FlatEqn) (z x y : ℕ) (free : Bool) → is_free n e.clock y ≡ free → copy_of e ≡ Some (z, Variable y) → r z ≡ x → r y ≡ y → HaveOneEnd r (moved n e) → (x ≡ y → ⊥) → free ≡ false
  name_by e z x y true q copy named stays ended other =
      let one : r y ≡ r z = subst (HaveOneEnd r) (moved_by e z y copy q) ended in absurd (other (sym named ∙ sym one ∙ stays))
  name_by e z x y false q copy named stays ended other = refl

  keeps_name : (e : FlatEqn) → HaveOneEnd r (moved n e) → not (is_moved r (with_targets r e)) ≡ true → CopiesOther (with_targets r e) → KeepsName n (with_targets r e)
  keeps_name e ended kept other x y copy =
      let own = copy_renamed r e x (Variable y) copy in
      let stays : r y ≡ y = not_moved r x y (copy_of (with_targets r e)) copy kept in
      name_by e own.0 x y (is_free n e.clock y) refl own.1 own.2 stays ended (λ same. other x (copy ∙ ap (λ v. Some (x, Variable v)) (sym same)))

  names_kept : (es : List FlatEqn) → AllHaveOneEnd n r es → AllByRecursion CopiesOther (retargeted_eqns r es) → AllByRecursion (KeepsName n) (retargeted_eqns r es)
  names_kept [] ended others = tt
  names_kept (e ∷ es) ended others =
      let keep : FlatEqn → Bool = λ d. not (is_moved r d) in
      kept_by (with_targets r) keep (KeepsName n) e es (keep (with_targets r e)) refl (keeps_name e ended.0) others (names_kept es ended.1)

-- ---- readers

read_copied : (s : Meanings) (right : Right) (a : Atom) → copied (read_right s right) ≡ Some a → (b : Atom) × (copied right ≡ Some b) × (read s b ≡ a)
read_copied s (operator Copy args) a e = only_mapped (read s) args a e
read_copied s (operator op args) a e = absurd cc
read_copied s (register first next) a e = absurd cc
read_copied s (called f args) a e = absurd cc

copy_read : (s : Meanings) (e : FlatEqn) (x : ℕ) (a : Atom) → copy_of (read_eqn s e) ≡ Some (x, a) → (b : Atom) × (copy_of e ≡ Some (x, b)) × (read s b ≡ a)
copy_read s e x a h =
    let parts = both_parts (only e.targets) (copied (read_right s e.right)) x a h in
    let one = read_copied s e.right a parts.1 in
    (one.0, (λ i. both (parts.0 i) (one.1 i)), one.2)

itself_by : (x : ℕ) (a : Atom) → is_itself x a ≡ true → a ≡ Variable x
itself_by x (Variable y) h = ap Variable (eqb-true y x h)
itself_by x (Value v) h = absurd cc

not_replaced : (s : Meanings) (x : ℕ) (a : Atom) (c : Option (ℕ × Atom)) → c ≡ Some (x, a) → not (stands_for s c) ≡ true → s x ≡ Variable x
not_replaced s x a c e h = by (is_itself x (s x)) refl (sym (ap (λ k. not (stands_for s k)) e) ∙ h)
  where
    by : (b : Bool) → is_itself x (s x) ≡ b → not (not b) ≡ true → s x ≡ Variable x
    by true q k = itself_by x (s x) q
    by false q k = absurd cc

module _ (n : FlatNode) (s : Meanings) where
  readers_by : (x : ℕ) (b a : Atom) (stands : Bool) → may_stand n x a ≡ stands → read s b ≡ a → StandsFor n s (Some (x, b)) → s x ≡ Variable x → (a ≡ Variable x → ⊥) → stands ≡ false
  readers_by x b a true q read_is stood itself other =
      let may : may_stand n x (read s b) ≡ true = ap (may_stand n x) read_is ∙ q in absurd (other (sym read_is ∙ sym (stood may) ∙ itself))
  readers_by x b a false q read_is stood itself other = refl

  keeps_readers : (e : FlatEqn) → StandsFor n s (copy_of e) → not (is_replaced s (read_eqn s e)) ≡ true → CopiesOther (read_eqn s e) → KeepsReaders n (read_eqn s e)
  keeps_readers e stood kept other x a copy =
      let own = copy_read s e x a copy in
      let itself : s x ≡ Variable x = not_replaced s x a (copy_of (read_eqn s e)) copy kept in
      readers_by x own.0 a (may_stand n x a) refl own.2 (subst (StandsFor n s) own.1 stood) itself (λ same. other x (copy ∙ ap (λ v. Some (x, v)) same))

  readers_kept : (es : List FlatEqn) → AllStand n s es → AllByRecursion CopiesOther (substituted_eqns s es) → AllByRecursion (KeepsReaders n) (substituted_eqns s es)
  readers_kept [] stood others = tt
  readers_kept (e ∷ es) stood others =
      let keep : FlatEqn → Bool = λ d. not (is_replaced s d) in
      kept_by (read_eqn s) keep (KeepsReaders n) e es (keep (read_eqn s e)) refl (keeps_readers e stood.0) others (readers_kept es stood.1)

-- ---- both

pub none_needless : NoneNeedlessLaw
none_needless n behind =
    let copies = copies-behind n.eqns behind in (
      names_kept n (ends n n.eqns) n.eqns (ends_law n copies).all (copy_others (retargeted n).eqns (retargeted_step n behind)),
      readers_kept n (meanings n n.eqns (λ x. Variable x)) n.eqns (meanings_law n copies).all (copy_others (substituted n).eqns (substituted_step n behind)),
    )

-- ---- an input that goes through a local to an output: one copy is left, and it is needed, since an input keeps its name and an output its readers

abbrev copy_at : ℕ → ℕ → ℕ → FlatEqn
copy_at x y place = record { targets = x ∷ []; clock = []; right = operator Copy (Variable y ∷ []); restart = []; at = place }

-- over any three variables
module _ (a b c : FlatVariable) where
  abbrev through : FlatNode
  through = record { name = []; variables = a ∷ b ∷ c ∷ []; inputs = 1; outputs = 2 ∷ []; eqns = copy_at 1 0 0 ∷ copy_at 2 1 1 ∷ [] }

  pub through_is_behind : AreBehind through.eqns
  through_is_behind = ((λ x read. first x (read_one x 0 read)), ((λ x read. second x (read_one x 1 read)), tt))
    where
      read_one : (x y : ℕ) → 1 ≤ count x (y ∷ []) → y ≡ x
      read_one x y h = by (nat_eq y x) refl h
        where
          by : (same : Bool) → nat_eq y x ≡ same → 1 ≤ (if same then 1 else 0) + 0 → y ≡ x
          by true e k = eqb-true y x e
          by false e k = absurd (omega (arith, k))

      first : (x : ℕ) → 0 ≡ x → count x (1 ∷ 2 ∷ []) ≡ 0
      first x e = ap (λ z. count z (1 ∷ 2 ∷ [])) (sym e)

      second : (x : ℕ) → 1 ≡ x → count x (2 ∷ []) ≡ 0
      second x e = ap (λ z. count z (2 ∷ [])) (sym e)

  pub one_is_left : (normal through).eqns ≡ copy_at 2 0 0 ∷ []
  one_is_left = refl
