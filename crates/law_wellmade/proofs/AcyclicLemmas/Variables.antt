-- Equations that stand for flat names, and read each other in a circle, give a chain of reads of these names that has no end.
use Rattle.std.proofs.Common.{◌≡◌, ℕ, zero, suc, ◌<◌, ◌≤◌, nat_eq, Bool, true, false, if◌then◌else◌, List, [], ◌∷◌, ◌++◌, map, refl, sym, subst, ◌∙◌, arith}
use Rattle.std.specs.Prelude.{Option, None, Some, All, Contains, reverse}
use Rattle.std.specs.List.{AllByRecursion, flat_map}
use Rattle.std.proofs.lemmas.Bool.{eq-eqb}
use Rattle.std.proofs.lemmas.List.{reverse-append}
use Rattle.std.proofs.lemmas.List.Elements.{All-head, All-tail, All-contains, All-from_recursion}
use Rattle.hp_base.specs.declared.value.Value.{Value}
use Rattle.hp_flat.specs.Equations.{Clock, Right as Given, operator, register, called, FlatEqn}
use Rattle.hp_flat.specs.Nodes.{FlatNode}
use Rattle.hp_flat.specs.declared.equation.Atom.{Atom}
use Rattle.hp_flat.specs.declared.equation.Atom.TheVariants.{Variable, Value as Fixed}
use Rattle.law_equations.specs.Meaning.Fitting.{atom_variables}
use Rattle.law_equations.specs.Meaning.Scheduling.{clock_variables, right_reads, reads}
use Rattle.law_equations.specs.Flattened.Flat.{Arg, name, value, Right, Op, Register, Call, Row, Flat}
use Rattle.law_equations.specs.Flattened.Flatten.{FlatName}
use Rattle.law_equations.specs.Flattened.Numbered.{targets_from, definitions, AreArgs, IsRight, AreSteps, IsRow, AreRows, StandFor, AreEquationsFor}
use Rattle.hp_complete.specs.Ordering.{ReadOn, IsCircular}
use Rattle.law_wellmade.specs.Acyclic.Reading.{ArgReads, RightReads, RowReads, RowsRead, IsShorter, Ends}

-- ---- lists

module _ {A : Type 0} (P : A → Type 0) where
  joined : (xs ys : List A) → AllByRecursion P xs → AllByRecursion P ys → AllByRecursion P (xs ++ ys)
  joined [] ys h g = g
  joined (x ∷ xs) ys h g = (h.0, joined xs ys h.1 g)

  front : (xs ys : List A) → AllByRecursion P (xs ++ ys) → AllByRecursion P xs
  front [] ys h = tt
  front (x ∷ xs) ys h = (h.0, front xs ys h.1)

  behind : (xs ys : List A) → AllByRecursion P (xs ++ ys) → AllByRecursion P ys
  behind [] ys h = h
  behind (x ∷ xs) ys h = behind xs ys h.1

  turned : (xs : List A) → AllByRecursion P (reverse xs) → AllByRecursion P xs
  turned [] h = tt
  turned (x ∷ xs) h =
      let whole = subst (AllByRecursion P) (reverse-append (x ∷ []) xs) h in
      let last = behind (reverse xs) (x ∷ []) whole in
      (last.0, turned xs (front (reverse xs) (x ∷ []) whole))

-- ---- what an equation reads, its row reads

module _ (means : ℕ → FlatName) (P : FlatName → Type 0) where
  abbrev Told : ℕ → Type 0
  Told x = P (means x)

  args_told : (xs : List Atom) (gs : List (Arg FlatName)) → AreArgs means xs gs → AllByRecursion (ArgReads P) gs → AllByRecursion Told (flat_map atom_variables xs)
  args_told [] [] is h = tt
  args_told [] (a ∷ gs) is h = absurd is
  args_told (x ∷ xs) [] is h = absurd is
  args_told (Variable x ∷ xs) (name a ∷ gs) is h = (subst P (sym is.0) h.0, args_told xs gs is.1 h.1)
  args_told (Variable x ∷ xs) (value v ∷ gs) is h = absurd is.0
  args_told (Fixed v ∷ xs) (a ∷ gs) is h = args_told xs gs is.1 h.1

  right_told : (k : ℕ) (g : Given) (r : Right FlatName) → IsRight means k g r → RightReads P r → AllByRecursion Told (right_reads g)
  right_told k (operator op xs) (Op o gs) is h = args_told xs gs is.1 h
  right_told k (operator op xs) (Register v a) is h = absurd is
  right_told k (operator op xs) (Call f j gs) is h = absurd is
  right_told k (register first next) r is h = tt
  right_told k (called f xs) (Call g j gs) is h = args_told xs gs is.2 h
  right_told k (called f xs) (Register v a) is h = absurd is
  right_told k (called f xs) (Op o gs) is h = absurd is

  clock_told : (c : Clock) (ws : List (Value × FlatName)) → AreSteps means c ws → AllByRecursion (λ (on : Value × FlatName). P on.1) ws → AllByRecursion (λ (on : ℕ × ℕ). Told on.0) c
  clock_told [] [] is h = tt
  clock_told [] (w ∷ ws) is h = absurd is
  clock_told (on ∷ c) [] is h = absurd is
  clock_told (on ∷ c) (w ∷ ws) is h = (subst P (sym is.0) h.0, clock_told c ws is.2 h.1)

  variables_told : (c : Clock) → AllByRecursion (λ (on : ℕ × ℕ). Told on.0) c → AllByRecursion Told (clock_variables c)
  variables_told [] h = tt
  variables_told (on ∷ c) h = (h.0, variables_told c h.1)

  mapped : (xs : List ℕ) → AllByRecursion P (map means xs) → AllByRecursion Told xs
  mapped [] h = tt
  mapped (x ∷ xs) h = (h.0, mapped xs h.1)

  row_told : (e : FlatEqn) (k : ℕ) (r : Row FlatName) → IsRow means e k r → RowReads P r → AllByRecursion Told (reads e)
  row_told e k r is h =
      joined Told (clock_variables e.clock) (e.restart ++ right_reads e.right)
      (variables_told e.clock (turned (λ (on : ℕ × ℕ). Told on.0) e.clock (clock_told (reverse e.clock) r.clock is.clock h.0)))
      (joined Told e.restart (right_reads e.right) (turned Told e.restart (mapped (reverse e.restart) (subst (AllByRecursion P) (sym is.restart) h.1))) (right_told k e.right r.right is.right h.2))

  rows_told : (ds : List (FlatEqn × ℕ)) (rows : List (Row FlatName)) → AreRows means ds rows → AllByRecursion (RowReads P) rows → AllByRecursion (λ (d : FlatEqn × ℕ). AllByRecursion Told (reads d.0)) ds
  rows_told [] [] is h = tt
  rows_told [] (r ∷ rows) is h = absurd is
  rows_told (d ∷ ds) [] is h = absurd is
  rows_told (d ∷ ds) (r ∷ rows) is h = (row_told d.0 d.1 r is.0 h.0, rows_told ds rows is.1 h.1)

  all_told : (ds : List (FlatEqn × ℕ)) (a : FlatName) (o : Option (List (Row FlatName))) → StandFor means ds a o → RowsRead P o → AllByRecursion (λ (d : FlatEqn × ℕ). AllByRecursion Told (reads d.0)) ds
  all_told ds a None is h = subst (AllByRecursion (λ (d : FlatEqn × ℕ). AllByRecursion Told (reads d.0))) (sym is.0) tt
  all_told ds a (Some rows) is h = rows_told ds rows is h

-- ---- the definitions of a variable are all equations of which it is a target

module _ (Q : FlatEqn → Type 0) where
  abbrev Of : FlatEqn × ℕ → Type 0
  Of d = Q d.0

  first_target : (d : Bool) (x y k : ℕ) (e : FlatEqn) (rest : List (FlatEqn × ℕ)) → nat_eq y x ≡ d → AllByRecursion Of (if d then (e, k) ∷ rest else rest) → (y ≡ x → Q e) × AllByRecursion Of rest
  first_target true x y k e rest is h = ((λ u. h.0), h.1)
  first_target false x y k e rest is h = ((λ u. absurd (let no : false ≡ true = sym is ∙ eq-eqb y x u in cc)), h)

  of_targets : (k : ℕ) (ys : List ℕ) (e : FlatEqn) (x : ℕ) → AllByRecursion Of (targets_from k ys e x) → AllByRecursion (λ y. y ≡ x → Q e) ys
  of_targets k [] e x h = tt
  of_targets k (y ∷ ys) e x h =
      let both = first_target (nat_eq y x) x y k e (targets_from (suc k) ys e x) refl h in
      (both.0, of_targets (suc k) ys e x both.1)

  of_definitions : (es : List FlatEqn) (x : ℕ) → AllByRecursion Of (definitions es x) → AllByRecursion (λ (e : FlatEqn). Contains e.targets x → Q e) es
  of_definitions [] x h = tt
  of_definitions (e ∷ es) x h = (
    (λ there. All-contains (λ y. y ≡ x → Q e) e.targets x (All-from_recursion (λ y. y ≡ x → Q e) e.targets (of_targets 0 e.targets e x (front Of (targets_from 0 e.targets e x) (definitions es x) h))) there refl),
    of_definitions es x (behind Of (targets_from 0 e.targets e x) (definitions es x) h),
  )

  of_all : (es : List FlatEqn) (x : ℕ) → AllByRecursion Of (definitions es x) → (e : FlatEqn) → Contains es e → Contains e.targets x → Q e
  of_all es x h e = All-contains (λ (e : FlatEqn). Contains e.targets x → Q e) es e (All-from_recursion (λ (e : FlatEqn). Contains e.targets x → Q e) es (of_definitions es x h))

-- ---- circles

module _ (means : ℕ → FlatName) (flat : Flat FlatName) (names : List (List ℕ)) (count : List ℕ → ℕ) (n : FlatNode) (made : AreEquationsFor means flat names count n) where
  -- a target is no input
  is_target : (e : FlatEqn) (x : ℕ) → Contains n.eqns e → Contains e.targets x → n.inputs ≤ x
  is_target e x there of =
      All-contains (λ y. n.inputs ≤ y) e.targets x
      (All-from_recursion (λ y. n.inputs ≤ y) e.targets
      (All-contains (λ (e : FlatEqn). AllByRecursion (λ x. n.inputs ≤ x) e.targets) n.eqns e (All-from_recursion (λ (e : FlatEqn). AllByRecursion (λ x. n.inputs ≤ x) e.targets) n.eqns made.no_inputs) there)) of

  -- What an equation reads has a shorter chain than what it defines.
  read_shorter : (m : ℕ) (e : FlatEqn) (x y : ℕ) → Contains n.eqns e → Contains e.targets x → IsShorter flat (suc m) (means x) → Contains (reads e) y → IsShorter flat m (means y)
  read_shorter m e x y there of h at =
      let P = λ (a : FlatName). IsShorter flat m a in
      let all = all_told means P (definitions n.eqns x) (means x) (flat (means x)) (made.variables x (is_target e x there of)) h in
      let read : AllByRecursion (λ z. P (means z)) (reads e) = of_all (λ (e : FlatEqn). AllByRecursion (λ z. P (means z)) (reads e)) n.eqns x all e there of in
      All-contains (λ z. P (means z)) (reads e) y (All-from_recursion (λ z. P (means z)) (reads e) read) at

  -- what the end of a chain of equations defines
  pub record EndsShorter (m : ℕ) (end : FlatEqn) : Type 0 where
    pub less : ℕ
    pub is_less : less < m
    pub variable : ℕ
    pub of : Contains end.targets variable
    pub shorter : IsShorter flat less (means variable)

  along : (m : ℕ) (e : FlatEqn) (others : List FlatEqn) (end : FlatEqn) (x : ℕ) → Contains n.eqns e → All (Contains n.eqns) others → Contains e.targets x → IsShorter flat m (means x) → ReadOn e others end → EndsShorter m end
  along zero e others end x there all of h on = absurd h
  along (suc m) e [] end x there all of h on = record { less = m; is_less = omega arith; variable = on.0; of = on.2; shorter = read_shorter m e x on.0 there of h on.1 }
  along (suc m) e (d ∷ others) end x there all of h on =
      let first = on.0 in
      let rest =
      along m d others end first.0 (All-head (Contains n.eqns) d others all) (All-tail (Contains n.eqns) d others all) first.2 (read_shorter m e x first.0 there of h first.1) on.1 in
      record { less = rest.less; is_less = let l = rest.is_less in omega arith; variable = rest.variable; of = rest.of; shorter = rest.shorter }

  around : (bound m : ℕ) → m ≤ bound → (c : IsCircular n.eqns) (x : ℕ) → Contains c.first.targets x → IsShorter flat m (means x) → ⊥
  around bound zero le c x of h = h
  around zero (suc m) le c x of h = absurd (omega arith)
  around (suc bound) (suc m) le c x of h =
      let e = along (suc m) c.first c.others c.first x (All-head (Contains n.eqns) c.first c.others c.there) (All-tail (Contains n.eqns) c.first c.others c.there) of h c.circle in
      let l = e.is_less in
      around bound e.less (omega arith) c e.variable e.of e.shorter

  last_target : (e : FlatEqn) (others : List FlatEqn) (end : FlatEqn) → ReadOn e others end → (x : ℕ) × Contains end.targets x
  last_target e [] end on = (on.0, on.2)
  last_target e (d ∷ others) end on = last_target d others end on.1

  -- Where the chains of all names end, no equations read each other in a circle.
  pub no_circle : ((a : FlatName) → Ends flat a) → IsCircular n.eqns → ⊥
  no_circle end c =
      let t = last_target c.first c.others c.first c.circle in
      let e = end (means t.0) in
      around e.0 e.0 (omega arith) c t.0 t.1 e.1
