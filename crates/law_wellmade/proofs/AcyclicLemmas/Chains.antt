-- Chains of reads: a name whose rows read only names whose chains end has chains that end.
use Rattle.std.proofs.Common.{◌≡◌, ℕ, zero, suc, ◌+◌, ◌≤◌, List, [], ◌∷◌, sym, subst, arith}
use Rattle.std.specs.Prelude.{Option, None, Some}
use Rattle.std.specs.List.{AllByRecursion}
use Rattle.hp_base.specs.declared.value.Value.{Value}
use Rattle.law_equations.specs.Flattened.Flat.{Arg, name, value, Right, Op, Register, Call, Row, Flat}
use Rattle.law_equations.specs.Flattened.Flatten.{FlatName}
use Rattle.law_wellmade.specs.Acyclic.Reading.{ArgReads, RightReads, RowReads, RowsRead, IsShorter, Ends}

-- ---- what is read is of a weaker property too

module _ (P Q : FlatName → Type 0) (f : (a : FlatName) → P a → Q a) where
  arg_more : (x : Arg FlatName) → ArgReads P x → ArgReads Q x
  arg_more (name a) h = f a h
  arg_more (value v) h = tt

  args_more : (xs : List (Arg FlatName)) → AllByRecursion (ArgReads P) xs → AllByRecursion (ArgReads Q) xs
  args_more [] h = tt
  args_more (x ∷ xs) h = (arg_more x h.0, args_more xs h.1)

  right_more : (r : Right FlatName) → RightReads P r → RightReads Q r
  right_more (Op o xs) h = args_more xs h
  right_more (Register v x) h = tt
  right_more (Call g k xs) h = args_more xs h

  steps_more : (ws : List (Value × FlatName)) → AllByRecursion (λ (on : Value × FlatName). P on.1) ws → AllByRecursion (λ (on : Value × FlatName). Q on.1) ws
  steps_more [] h = tt
  steps_more (w ∷ ws) h = (f w.1 h.0, steps_more ws h.1)

  names_more : (ws : List FlatName) → AllByRecursion P ws → AllByRecursion Q ws
  names_more [] h = tt
  names_more (w ∷ ws) h = (f w h.0, names_more ws h.1)

  row_more : (r : Row FlatName) → RowReads P r → RowReads Q r
  row_more r h = (steps_more r.clock h.0, names_more r.restart h.1, right_more r.right h.2)

  each_row_more : (rows : List (Row FlatName)) → AllByRecursion (RowReads P) rows → AllByRecursion (RowReads Q) rows
  each_row_more [] h = tt
  each_row_more (r ∷ rows) h = (row_more r h.0, each_row_more rows h.1)

  pub rows_more : (o : Option (List (Row FlatName))) → RowsRead P o → RowsRead Q o
  rows_more None h = tt
  rows_more (Some rows) h = each_row_more rows h

-- ---- bounds of parts have one bound for all of them

-- what holds of a bound holds of each greater one
abbrev Grows : (ℕ → Type 0) → Type 0
Grows A = (n m : ℕ) → n ≤ m → A n → A m

both_bounded : (A B : ℕ → Type 0) → Grows A → Grows B → (n : ℕ) × A n → (m : ℕ) × B m → (k : ℕ) × (A k × B k)
both_bounded A B g h (n, a) (m, b) = (n + m, (g n (n + m) (omega arith) a, h m (n + m) (omega arith) b))

module _ {X : Type 0} (P : ℕ → X → Type 0) (grows : (x : X) → Grows (λ n. P n x)) where
  all_grow : (xs : List X) → Grows (λ n. AllByRecursion (P n) xs)
  all_grow [] n m le h = tt
  all_grow (x ∷ xs) n m le h = (grows x n m le h.0, all_grow xs n m le h.1)

  all_bounded : (xs : List X) → AllByRecursion (λ x. (n : ℕ) × P n x) xs → (n : ℕ) × AllByRecursion (P n) xs
  all_bounded [] h = (0, tt)
  all_bounded (x ∷ xs) h = both_bounded (λ n. P n x) (λ n. AllByRecursion (P n) xs) (grows x) (all_grow xs) h.0 (all_bounded xs h.1)

module _ (flat : Flat FlatName) where
  abbrev Short : ℕ → FlatName → Type 0
  Short n a = IsShorter flat n a

  pub shorter_more : (n m : ℕ) → n ≤ m → (a : FlatName) → IsShorter flat n a → IsShorter flat m a
  shorter_more zero m le a h = absurd h
  shorter_more (suc n) zero le a h = absurd (omega arith)
  shorter_more (suc n) (suc m) le a h = rows_more (λ b. IsShorter flat n b) (λ b. IsShorter flat m b) (λ b u. shorter_more n m (omega arith) b u) (flat a) h

  name_grows : (a : FlatName) → Grows (λ n. Short n a)
  name_grows a n m le h = shorter_more n m le a h

  arg_grows : (x : Arg FlatName) → Grows (λ n. ArgReads (Short n) x)
  arg_grows x n m le h = arg_more (Short n) (Short m) (λ a u. shorter_more n m le a u) x h

  step_grows : (on : Value × FlatName) → Grows (λ n. Short n on.1)
  step_grows on n m le h = shorter_more n m le on.1 h

  right_grows : (r : Right FlatName) → Grows (λ n. RightReads (Short n) r)
  right_grows r n m le h = right_more (Short n) (Short m) (λ a u. shorter_more n m le a u) r h

  row_grows : (r : Row FlatName) → Grows (λ n. RowReads (Short n) r)
  row_grows r n m le h = row_more (Short n) (Short m) (λ a u. shorter_more n m le a u) r h

  arg_bounded : (x : Arg FlatName) → ArgReads (Ends flat) x → (n : ℕ) × ArgReads (Short n) x
  arg_bounded (name a) h = h
  arg_bounded (value v) h = (0, tt)

  args_bounded : (xs : List (Arg FlatName)) → AllByRecursion (ArgReads (Ends flat)) xs → AllByRecursion (λ x. (n : ℕ) × ArgReads (Short n) x) xs
  args_bounded [] h = tt
  args_bounded (x ∷ xs) h = (arg_bounded x h.0, args_bounded xs h.1)

  right_bounded : (r : Right FlatName) → RightReads (Ends flat) r → (n : ℕ) × RightReads (Short n) r
  right_bounded (Op o xs) h = all_bounded (λ n x. ArgReads (Short n) x) arg_grows xs (args_bounded xs h)
  right_bounded (Register v x) h = (0, tt)
  right_bounded (Call g k xs) h = all_bounded (λ n x. ArgReads (Short n) x) arg_grows xs (args_bounded xs h)

  row_bounded : (r : Row FlatName) → RowReads (Ends flat) r → (n : ℕ) × RowReads (Short n) r
  row_bounded r h =
      let clock = all_bounded (λ n (on : Value × FlatName). Short n on.1) step_grows r.clock h.0 in
      let restart = all_bounded Short name_grows r.restart h.1 in
      let right = right_bounded r.right h.2 in
      let n = (clock.0 + restart.0) + right.0 in (
        n,
        (
          all_grow (λ n (on : Value × FlatName). Short n on.1) step_grows r.clock clock.0 n (omega arith) clock.1,
          all_grow Short name_grows r.restart restart.0 n (omega arith) restart.1,
          right_grows r.right right.0 n (omega arith) right.1,
        ),
      )

  rows_bounded : (rows : List (Row FlatName)) → AllByRecursion (RowReads (Ends flat)) rows → AllByRecursion (λ r. (n : ℕ) × RowReads (Short n) r) rows
  rows_bounded [] h = tt
  rows_bounded (r ∷ rows) h = (row_bounded r h.0, rows_bounded rows h.1)

  ends_by : (o : Option (List (Row FlatName))) → RowsRead (Ends flat) o → (n : ℕ) × RowsRead (Short n) o
  ends_by None h = (0, tt)
  ends_by (Some rows) h = all_bounded (λ n r. RowReads (Short n) r) row_grows rows (rows_bounded rows h)

  -- A name ends where all that its rows read does.
  pub ends : (a : FlatName) (o : Option (List (Row FlatName))) → flat a ≡ o → RowsRead (Ends flat) o → Ends flat a
  ends a o e h = let b = ends_by o h in (suc b.0, subst (RowsRead (Short b.0)) (sym e) b.1)

  -- What a name that ends reads ends too.
  pub read_end : (a : FlatName) (o : Option (List (Row FlatName))) → flat a ≡ o → Ends flat a → RowsRead (Ends flat) o
  read_end a o e (zero, h) = absurd h
  read_end a o e (suc n, h) = rows_more (Short n) (Ends flat) (λ b u. (n, u)) o (subst (RowsRead (Short n)) e h)
