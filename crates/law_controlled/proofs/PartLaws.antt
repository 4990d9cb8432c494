-- The part of a node that the compiler makes is a part of it.
use Rattle.std.proofs.Common.{◌≡◌, ℕ, zero, suc, ◌+◌, ◌<◌, ◌≤◌, Bool, true, false, List, [], ◌∷◌, ◌++◌, map, length, refl, sym, ap, ◌∙◌, subst, arith, inl, inr}
use Rattle.std.specs.Prelude.{slice_get, slice_index_or, Some, unwrap_or}
use Rattle.std.specs.List.{AllByRecursion, flat_map}
use Rattle.std.proofs.lemmas.Option.{slice_get_within}
use Rattle.hp_flat.specs.declared.equation.Atom.{Atom}
use Rattle.hp_flat.specs.declared.equation.Atom.TheVariants.{Variable as Read, Value as Fixed}
use Rattle.hp_flat.specs.Equations.{Right, operator, register, called, FlatEqn}
use Rattle.hp_flat.specs.Nodes.{FlatNode}
use Rattle.law_equations.specs.Meaning.Fitting.{atom_variables, operands}
use Rattle.law_equations.specs.Meaning.Scheduling.{EqnWithin, IsWithin}
use Rattle.hp_controlled.specs.Parts as made
use Rattle.hp_controlled.specs.Parts.{AreReached, IsIn, IsReached, IsUsed, Marks, marked, number_at, numbers_from, read_by_atom, read_by_atoms, read_by_right, variables_of}
use Rattle.hp_controlled.specs.Parts.IsReached.{reached_input, reached_output, reached_by}
use Rattle.law_choices.specs.Part.Part.{Renumbering, IsRenumbering, AreFewer, AreKept, ArePart, EqnKept, IsPart, renumbered, renumbered_atom, renumbered_right}
use Rattle.law_choices.specs.Part.Part.AreFewer.{no_element, kept_element, left_element}
use Rattle.law_choices.specs.Part.Part.ArePart.{no_eqn, kept_eqn, left_eqn}
use Rattle.law_controlled.specs.Parts.{MadePartLaw, with_outputs}

-- ---- places of marks

-- how many are marked
abbrev many : List Bool → ℕ
many [] = 0
many (true ∷ ms) = suc (many ms)
many (false ∷ ms) = many ms

-- how many of them before a place
abbrev pub before : List Bool → ℕ → ℕ
before [] x = 0
before (true ∷ ms) zero = 0
before (true ∷ ms) (suc x) = suc (before ms x)
before (false ∷ ms) zero = 0
before (false ∷ ms) (suc x) = before ms x

-- the place of that which has a number
abbrev place : List Bool → ℕ → ℕ
place [] y = 0
place (true ∷ ms) zero = 0
place (true ∷ ms) (suc y) = suc (place ms y)
place (false ∷ ms) y = suc (place ms y)

pub marked_within : (ms : List Bool) (x : ℕ) → slice_index_or ms x false ≡ true → x < length ms
marked_within [] x h = absurd cc
marked_within (m ∷ ms) zero h = omega arith
marked_within (m ∷ ms) (suc x) h =
    let inner = marked_within ms x h in
    omega (arith, inner)

before_below : (ms : List Bool) (x : ℕ) → slice_index_or ms x false ≡ true → before ms x < many ms
before_below [] x h = absurd cc
before_below (true ∷ ms) zero h = omega arith
before_below (true ∷ ms) (suc x) h =
    let inner = before_below ms x h in
    omega (arith, inner)
before_below (false ∷ ms) zero h = absurd cc
before_below (false ∷ ms) (suc x) h = before_below ms x h

place_back : (ms : List Bool) (x : ℕ) → slice_index_or ms x false ≡ true → place ms (before ms x) ≡ x
place_back [] x h = absurd cc
place_back (true ∷ ms) zero h = refl
place_back (true ∷ ms) (suc x) h = ap (λ k. suc k) (place_back ms x h)
place_back (false ∷ ms) zero h = absurd cc
place_back (false ∷ ms) (suc x) h = ap (λ k. suc k) (place_back ms x h)

place_forth : (ms : List Bool) (y : ℕ) → y < many ms → (slice_index_or ms (place ms y) false ≡ true) × (before ms (place ms y) ≡ y)
place_forth [] y h = absurd (omega (arith, h))
place_forth (true ∷ ms) zero h = (refl, refl)
place_forth (true ∷ ms) (suc y) h =
    let less : y < many ms = omega (arith, h) in
    let inner = place_forth ms y less in
    (inner.0, ap (λ k. suc k) inner.1)
place_forth (false ∷ ms) y h = place_forth ms y h

-- the number of a place from one on
number_from : (ms : List Bool) (k x : ℕ) → x < length ms → slice_get (numbers_from k ms) x ≡ Some (k + before ms x)
number_from [] k x h = absurd (omega (arith, h))
number_from (true ∷ ms) k zero h =
    let same : k ≡ k + 0 = omega arith in
    ap (λ j. Some j) same
number_from (true ∷ ms) k (suc x) h =
    let less : x < length ms = omega (arith, h) in
    let same : k + 1 + before ms x ≡ k + suc (before ms x) = omega arith in
    number_from ms (k + 1) x less ∙ ap (λ j. Some j) same
number_from (false ∷ ms) k zero h =
    let same : k ≡ k + 0 = omega arith in
    ap (λ j. Some j) same
number_from (false ∷ ms) k (suc x) h =
    let less : x < length ms = omega (arith, h) in
    number_from ms k x less

pub number_is : (ms : List Bool) (x : ℕ) → x < length ms → number_at (numbers_from 0 ms) x ≡ before ms x
number_is ms x h =
    let zero_plus : 0 + before ms x ≡ before ms x = omega arith in
    ap (λ o. unwrap_or o x) (number_from ms 0 x h) ∙ zero_plus

-- all before a place are marked
before_all : (ms : List Bool) (x : ℕ) → x ≤ length ms → ((y : ℕ) → y < x → slice_index_or ms y false ≡ true) → before ms x ≡ x
before_all [] zero h all = refl
before_all [] (suc x) h all = absurd (omega (arith, h))
before_all (true ∷ ms) zero h all = refl
before_all (true ∷ ms) (suc x) h all =
    let less : x ≤ length ms = omega (arith, h) in
    ap (λ k. suc k) (before_all ms x less (λ y l. all (suc y) (omega (arith, l))))
before_all (false ∷ ms) zero h all = refl
before_all (false ∷ ms) (suc x) h all =
    let first : false ≡ true = all 0 (omega arith) in
    absurd cc

many_marked : {A : Type 0} (ms : List Bool) (xs : List A) → length ms ≡ length xs → many ms ≡ length (marked ms xs)
many_marked [] [] e = refl
many_marked [] (x ∷ xs) e = refl
many_marked (m ∷ ms) [] e = absurd (omega (arith, e))
many_marked (true ∷ ms) (x ∷ xs) e =
    let same : length ms ≡ length xs = omega (arith, e) in
    ap (λ k. suc k) (many_marked ms xs same)
many_marked (false ∷ ms) (x ∷ xs) e =
    let same : length ms ≡ length xs = omega (arith, e) in
    many_marked ms xs same

fewer : {A : Type 0} (ms : List Bool) (xs : List A) → length ms ≡ length xs → AreFewer xs (marked ms xs)
fewer [] [] e = no_element
fewer [] (x ∷ xs) e = absurd (omega (arith, e))
fewer (m ∷ ms) [] e = absurd (omega (arith, e))
fewer (true ∷ ms) (x ∷ xs) e =
    let same : length ms ≡ length xs = omega (arith, e) in
    kept_element x (fewer ms xs same)
fewer (false ∷ ms) (x ∷ xs) e =
    let same : length ms ≡ length xs = omega (arith, e) in
    left_element x (fewer ms xs same)

-- ---- elements of lists

in_left : (x : ℕ) (xs ys : List ℕ) → IsIn x xs → IsIn x (xs ++ ys)
in_left x [] ys h = absurd h
in_left x (y ∷ xs) ys (inl e) = inl e
in_left x (y ∷ xs) ys (inr h) = inr (in_left x xs ys h)

in_right : (x : ℕ) (xs ys : List ℕ) → IsIn x ys → IsIn x (xs ++ ys)
in_right x [] ys h = h
in_right x (y ∷ xs) ys h = inr (in_right x xs ys h)

all_of : (P : ℕ → Type 0) (xs : List ℕ) → ((x : ℕ) → IsIn x xs → P x) → AllByRecursion P xs
all_of P [] each = tt
all_of P (x ∷ xs) each = (each x (inl refl), all_of P xs (λ y h. each y (inr h)))

of_all : (P : ℕ → Type 0) (xs : List ℕ) → AllByRecursion P xs → (x : ℕ) → IsIn x xs → P x
of_all P [] all x h = absurd h
of_all P (y ∷ xs) all x (inl e) = subst P (sym e) all.0
of_all P (y ∷ xs) all x (inr h) = of_all P xs all.1 x h

atom_read : (a : Atom) → read_by_atom a ≡ atom_variables a
atom_read (Read x) = refl
atom_read (Fixed v) = refl

atoms_read : (args : List Atom) → read_by_atoms args ≡ flat_map atom_variables args
atoms_read [] = refl
atoms_read (a ∷ args) = λ j. atom_read a j ++ atoms_read args j

right_read : (right : Right) → read_by_right right ≡ operands right
right_read (operator op args) = atoms_read args
right_read (register first next) = atom_read next
right_read (called f args) = atoms_read args

-- ---- equations under other numbers

module _ (r : Renumbering) where
  atom_same : (a : Atom) → made.renumbered_atom r.number a ≡ renumbered_atom r a
  atom_same (Read x) = refl
  atom_same (Fixed v) = refl

  atoms_same : (args : List Atom) → map (made.renumbered_atom r.number) args ≡ map (renumbered_atom r) args
  atoms_same [] = refl
  atoms_same (a ∷ args) = λ j. atom_same a j ∷ atoms_same args j

  right_same : (right : Right) → made.renumbered_right r.number right ≡ renumbered_right r right
  right_same (operator op args) = ap (λ zs. operator op zs) (atoms_same args)
  right_same (register first next) = ap (λ z. register first z) (atom_same next)
  right_same (called f args) = ap (λ zs. called f zs) (atoms_same args)

  eqn_same : (e : FlatEqn) → made.renumbered_eqn r.number e ≡ renumbered r e
  eqn_same e = λ j. record { targets = map r.number e.targets; clock = made.renumbered_clock r.number e.clock; right = right_same e.right j; restart = map r.number e.restart; at = e.at }

  -- what is known of each equation, and of whether it is marked
  abbrev Stays : Bool → FlatEqn → Type 0
  Stays m e = (m ≡ true → EqnKept r e) × (m ≡ false → AllByRecursion (λ x. r.kept x ≡ false) e.targets)

  parts : (es : List FlatEqn) (ms : List Bool) → length ms ≡ length es → ((k : ℕ) (e : FlatEqn) → slice_get es k ≡ Some e → Stays (slice_index_or ms k false) e) → ArePart r es (map (made.renumbered_eqn r.number) (marked ms es))
  parts [] [] h each = no_eqn
  parts [] (m ∷ ms) h each = absurd (omega (arith, h))
  parts (e ∷ es) [] h each = absurd (omega (arith, h))
  parts (e ∷ es) (true ∷ ms) h each =
      let same : length ms ≡ length es = omega (arith, h) in
      let rest = parts es ms same (λ k d is. each (suc k) d is) in
      subst (λ d. ArePart r (e ∷ es) (d ∷ map (made.renumbered_eqn r.number) (marked ms es))) (sym (eqn_same e)) (kept_eqn e ((each 0 e refl).0 refl) rest)
  parts (e ∷ es) (false ∷ ms) h each =
      let same : length ms ≡ length es = omega (arith, h) in
      let rest = parts es ms same (λ k d is. each (suc k) d is) in
      left_eqn e ((each 0 e refl).1 refl) rest

-- ---- the part

is_false : (b : Bool) → (b ≡ true → ⊥) → b ≡ false
is_false true h = absurd (h refl)
is_false false h = refl

module _ (n : FlatNode) (name outputs : List ℕ) (m : Marks) (reached : AreReached n outputs m) (within : IsWithin (with_outputs name outputs n)) where
  abbrev pub r : Renumbering
  r = record { kept = λ x. slice_index_or m.variables x false; number = number_at (numbers_from 0 m.variables); old = place m.variables; count = many m.variables }

  below_marks : (x : ℕ) → x < length n.variables → x < length m.variables
  below_marks x h =
      let many_as = reached.as_many in
      omega (arith, h, many_as)

  renumbering : IsRenumbering r
  renumbering = record {
    below = λ x h. subst (λ k. k < many m.variables) (sym (number_is m.variables x (marked_within m.variables x h))) (before_below m.variables x h);
    back = λ x h. ap (place m.variables) (number_is m.variables x (marked_within m.variables x h)) ∙ place_back m.variables x h;
    forth = λ y h.
        let there = place_forth m.variables y h in
        (there.0, number_is m.variables (place m.variables y) (marked_within m.variables (place m.variables y) there.0) ∙ there.1);
  }

  kept_by : (x : ℕ) → x < length n.variables → IsReached n outputs x → r.kept x ≡ true
  kept_by x h is = (reached.variables x h).1 is

  reached_if : (x : ℕ) → r.kept x ≡ true → IsReached n outputs x
  reached_if x h =
      let inside = marked_within m.variables x h in
      let many_as = reached.as_many in
      (reached.variables x (omega (arith, inside, many_as))).0 h

  input_kept : (x : ℕ) → x < n.inputs → r.kept x ≡ true
  input_kept x h =
      let enough = within.inputs in
      kept_by x (omega (arith, h, enough)) (reached_input h)

  own_inputs : (x : ℕ) → x < n.inputs → (r.kept x ≡ true) × (r.number x ≡ x)
  own_inputs x h =
      let enough = within.inputs in
      let there : x < length m.variables = below_marks x (omega (arith, h, enough)) in
      (input_kept x h, number_is m.variables x there ∙ before_all m.variables x (omega (arith, there)) (λ y l. input_kept y (omega (arith, l, h))))

  -- all variables of an equation that is used are kept
  used : (k : ℕ) (e : FlatEqn) → slice_get n.eqns k ≡ Some e → EqnWithin (length n.variables) e → (x : ℕ) → IsIn x e.targets → x < length n.variables → IsReached n outputs x → EqnKept r e
  used k e is inside x there below at =
      let clock = map (λ (s : ℕ × ℕ). s.0) e.clock in
      let also : (y : ℕ) → IsIn y (variables_of e) → IsReached n outputs y = λ y h. reached_by x k e at below is there h in
      record {
        targets = all_of _ e.targets (λ y h. kept_by y (of_all _ e.targets inside.targets y h) (also y (in_left y e.targets (clock ++ (e.restart ++ read_by_right e.right)) h)));
        clock = all_of _ clock (λ y h. kept_by y (of_all _ clock inside.clock y h) (also y (in_right y e.targets (clock ++ (e.restart ++ read_by_right e.right)) (in_left y clock (e.restart ++ read_by_right e.right) h))));
        restart = all_of _ e.restart
            (λ y h. kept_by y (of_all _ e.restart inside.restart y h)
            (also y (in_right y e.targets (clock ++ (e.restart ++ read_by_right e.right)) (in_right y clock (e.restart ++ read_by_right e.right) (in_left y e.restart (read_by_right e.right) h)))));
        operands = all_of _ (operands e.right)
            (λ y h. kept_by y (of_all _ (operands e.right) inside.operands y h)
            (also y
            (in_right y e.targets (clock ++ (e.restart ++ read_by_right e.right))
            (in_right y clock (e.restart ++ read_by_right e.right) (in_right y e.restart (read_by_right e.right) (subst (IsIn y) (sym (right_read e.right)) h))))));
      }

  each_within : (es : List FlatEqn) → AllByRecursion (EqnWithin (length n.variables)) es → (k : ℕ) (e : FlatEqn) → slice_get es k ≡ Some e → EqnWithin (length n.variables) e
  each_within [] all k e is = absurd cc
  each_within (d ∷ es) all zero e is = subst (EqnWithin (length n.variables)) (some_same d e is) all.0
    where
      some_same : (x y : FlatEqn) → Some x ≡ Some y → x ≡ y
      some_same x y h = cc
  each_within (d ∷ es) all (suc k) e is = each_within es all.1 k e is

  stays : (k : ℕ) (e : FlatEqn) → slice_get n.eqns k ≡ Some e → Stays r (slice_index_or m.eqns k false) e
  stays k e is =
      let inside = each_within n.eqns within.eqns k e is in
      let below = slice_get_within n.eqns k e is in
      let marks = reached.eqns k below in (
        λ h.
            let u = marks.0 h in
            let same : e ≡ u.0 = some_eqn e u.0 (sym is ∙ u.2) in
            used k e is inside u.1 (subst (λ d. IsIn u.1 d.targets) (sym same) u.3) u.4 u.5,
        λ h.
            all_of _ e.targets
            (λ x there.
            is_false (r.kept x) (λ kept.
            let is_used : IsUsed n outputs k = (e, x, is, there, of_all _ e.targets inside.targets x there, reached_if x kept) in
            let both : slice_index_or m.eqns k false ≡ true = marks.1 is_used in
            not_both (slice_index_or m.eqns k false) both h)),
      )
    where
      some_eqn : (x y : FlatEqn) → Some x ≡ Some y → x ≡ y
      some_eqn x y h = cc

      not_both : (b : Bool) → b ≡ true → b ≡ false → ⊥
      not_both b s t = absurd cc

  outputs_kept : AreKept r outputs
  outputs_kept = all_of _ outputs (λ x h. kept_by x (of_all _ outputs within.outputs x h) (reached_output h))

  pub is_part : IsPart r (with_outputs name outputs n) (made.part_by m n name outputs)
  is_part = record {
    renumbering = renumbering;
    variables = fewer m.variables n.variables reached.as_many;
    count = many_marked m.variables n.variables reached.as_many;
    inputs = refl;
    own_inputs = own_inputs;
    outputs_kept = outputs_kept;
    outputs = refl;
    eqns = parts r n.eqns m.eqns reached.each stays;
  }

pub made_part : MadePartLaw
made_part n name outputs other within part =
    let r = r n name outputs part.marks part.reached within in
    (r, subst (λ o. IsPart r (with_outputs name outputs n) o) (sym part.is) (is_part n name outputs part.marks part.reached within))
