-- Units are settled by the cells of variables; the names on a left side, one after another.
use Rattle.std.proofs.Common.{◌≡◌, ℕ, ◌+◌, ◌<◌, ◌≤◌, List, [], ◌∷◌, ◌++◌, length, drop, reverse, get_or, refl, sym, ap, ◌∙◌, subst, arith}
use Rattle.std.specs.Prelude.{⊤, None, Some, Result, Err, OnOk}
use Rattle.hp_base.specs.declared.span.Span.{Span}
use Rattle.hp_tree.specs.declared.block.Trans.{Trans}
use Rattle.hp_tree.specs.Expressions.{Expr}
use Rattle.hp_tree.specs.Blocks.{Decl}
use Rattle.hp_tree.specs.Instant.{Clock}
use Rattle.hp_meaning.specs.Causal.Clocked.{ClockRight, IsOn}
use Rattle.hp_meaning.specs.Causal.Points.{span_of}
use Rattle.hp_clocks.specs.declared.cell.Cell.{Cell}
use Rattle.hp_clocks.specs.declared.layer.Seen.{Seen}
use Rattle.hp_clocks.specs.declared.layer.Seen.TheVariants as seen
use Rattle.hp_clocks.specs.Cells.{told_at, Clocks, Fits, AreCells, Never}
use Rattle.hp_clocks.specs.Scopes.{Sight, standing, IsThere, AreThere, Agree, Grows}
use Rattle.hp_clocks.specs.Units.{CellUnit, declared, equated, tested, Allows, AllAre, own_cell, left_cells, conditions, tests, test_of}
use Rattle.hp_clocks.specs.declared.cell.Failure.{Failure}
use Rattle.hp_clocks.specs.declared.cell.Failure.TheVariants as failure
use Rattle.hp_clocks.specs.declared.solve.Unsolved.{Unsolved}
use Rattle.hp_clocks.specs.Cells.{on_base}
use Rattle.hp_clocks.specs.Putting.{Settles, Solves, declared_unit, declared_units, out_of_unit}
use Rattle.hp_clocks.proofs.CellLaws.{says}
use Rattle.hp_clocks.proofs.Arrays.{is_same}
use Rattle.hp_clocks.proofs.Unifying.{ok_map}
use Rattle.hp_clocks.proofs.SolvesLaws.{unit_solves}
use Rattle.hp_clocks.proofs.Growing.{IsLocal, standing_local, on_local, grows_then, grows_never}
use Rattle.hp_clocks.proofs.Sampling.{grows_like, all_still_there}
use Rattle.hp_clocks.proofs.Leading.{Leads, leads_next, leads_never, leads_end, grows_none, drop_next, drop_end}

module _ (n : ℕ) (see : Sight) (k : AreThere n see) where
  pub test_settles : (s : Span) (e : Expr) → Settles n (λ at. Allows at (tested s see e))
  test_settles s e at more g o = subst (λ z. IsOn z e []) (sym (standing_local n at more see g k)) o

  pub written_settles : (s : Span) (i : ℕ) (c : Clock) → i < n → Settles n (λ at. Allows at (declared s see i c))
  written_settles s i c h at more g o = (subst (λ z. ClockRight z c) (sym (standing_local n at more see g k)) o.0, g i h ∙ o.1)

  lefts_settle : (ys : List (List ℕ × Span)) (at more : Clocks) → Agree n at more → (c : Clock) → AllAre at (left_cells see ys) c → AllAre more (left_cells see ys) c
  lefts_settle [] at more g c a = tt
  lefts_settle (y ∷ ys) at more g c a = by (see y.0) (k y.0) (lefts_settle ys at more g c) a
    where
      by : (s : Seen) → IsThere n s → (AllAre at (left_cells see ys) c → AllAre more (left_cells see ys) c) → AllAre at (own_cell s (left_cells see ys)) c → AllAre more (own_cell s (left_cells see ys)) c
      by seen.Nowhere h f b = f b
      by (seen.Own i) h f b = (g i h ∙ b.0, f b.1)
      by (seen.Further i) h f b = f b

  pub lefts_local : (ys : List (List ℕ × Span)) (i : ℕ) → i < n → IsLocal n (λ at. AllAre at (left_cells see ys) (at i))
  lefts_local ys i h at more g a =
      subst (λ z. AllAre more (left_cells see ys) z) (sym (g i h)) (lefts_settle ys at more g (at i) a)

  pub basic_settles : (s : Span) (ys : List (List ℕ × Span)) (i : ℕ) (e : Expr) → i < n → Settles n (λ at. Allows at (equated s see (left_cells see ys) i e))
  basic_settles s ys i e h at more g o = (lefts_local ys i h at more g o.0, on_local n see e i k h at more g o.1)

-- ---- the names on a left side

module _ (see : Sight) where
  abbrev pub OwnIs : List ℕ → ℕ → Clocks → Type 0
  OwnIs x i at = AllAre at (own_cell (see x) []) (at i)

  abbrev pub LeftsAre : List (List ℕ × Span) → ℕ → Clocks → Type 0
  LeftsAre ys i at = AllAre at (left_cells see ys) (at i)

  own_and : (at : Clocks) (s : Seen) (is : List ℕ) (c : Clock) → AllAre at (own_cell s []) c → AllAre at is c → AllAre at (own_cell s is) c
  own_and at seen.Nowhere is c a b = b
  own_and at (seen.Own j) is c a b = (a.0, b)
  own_and at (seen.Further j) is c a b = b

  and_own : (at : Clocks) (s : Seen) (is : List ℕ) (c : Clock) → AllAre at (own_cell s is) c → AllAre at (own_cell s []) c × AllAre at is c
  and_own at seen.Nowhere is c a = (tt, a)
  and_own at (seen.Own j) is c a = ((a.0, tt), a.1)
  and_own at (seen.Further j) is c a = (tt, a)

  pub own_grows : (cs ds : List Cell) (x : List ℕ) (i j : ℕ) → see x ≡ seen.Own j → Grows cs ds (λ at. at j ≡ at i) → Grows cs ds (OwnIs x i)
  own_grows cs ds x i j e g =
      grows_like cs ds (λ at. at j ≡ at i) (OwnIs x i) g (λ at f q. subst (λ z. AllAre at (own_cell z []) (at i)) (sym e) (q, tt))
      (λ at f a. (subst (λ z. AllAre at (own_cell z []) (at i)) e a).0)

  pub own_never : (cs : List Cell) (x : List ℕ) (i j : ℕ) → see x ≡ seen.Own j → Never cs (λ at. at j ≡ at i) → Never cs (OwnIs x i)
  own_never cs x i j e n at f a = n at f (subst (λ z. AllAre at (own_cell z []) (at i)) e a).0

  pub own_none : (cs : List Cell) (x : List ℕ) (i : ℕ) (s : Seen) → AreCells cs → see x ≡ s → own_cell s [] ≡ [] → Grows cs cs (OwnIs x i)
  own_none cs x i s a e q =
      grows_none cs (OwnIs x i) a (λ at. subst (λ z. AllAre at (own_cell z []) (at i)) (sym e) (subst (λ z. AllAre at z (at i)) (sym q) tt))

  module _ (cs ds : List Cell) (ys : List (List ℕ × Span)) (j i : ℕ) (there : AreThere (length cs) see) (h : i < length cs) (l : Leads cs ds (LeftsAre (drop j ys) i) (LeftsAre ys i)) where
    pub left_next : (es : List Cell) (y : List ℕ × Span) → j < length ys → y ≡ get_or ys j y → Grows ds es (OwnIs y.0 i) → Leads cs es (LeftsAre (drop (j + 1) ys) i) (LeftsAre ys i)
    left_next es y q p g =
        let m : length cs ≤ length ds = l.longer in
        let d : drop j ys ≡ y ∷ drop (j + 1) ys = drop_next ys j y q p in
        leads_next cs ds es (LeftsAre (drop j ys) i) (LeftsAre ys i) (OwnIs y.0 i) (LeftsAre (drop (j + 1) ys) i)
        (lefts_local (length ds) see (all_still_there (length cs) (length ds) see m there) (drop (j + 1) ys) i (omega (arith, m, h)))
        (λ at r. subst (λ z. AllAre at (left_cells see z) (at i)) (sym d) (own_and at (see y.0) (left_cells see (drop (j + 1) ys)) (at i) r.0 r.1))
        (λ at r. and_own at (see y.0) (left_cells see (drop (j + 1) ys)) (at i) (subst (λ z. AllAre at (left_cells see z) (at i)) d r)) l g

    pub left_never : (y : List ℕ × Span) → j < length ys → y ≡ get_or ys j y → Never ds (OwnIs y.0 i) → Never cs (LeftsAre ys i)
    left_never y q p n =
        leads_never cs ds (LeftsAre (drop j ys) i) (LeftsAre ys i) (OwnIs y.0 i)
        (λ at r. (and_own at (see y.0) (left_cells see (drop (j + 1) ys)) (at i) (subst (λ z. AllAre at (left_cells see z) (at i)) (drop_next ys j y q p) r)).0) l n

    pub left_end : length ys ≤ j → Grows cs ds (LeftsAre ys i)
    left_end q =
        leads_end cs ds (LeftsAre (drop j ys) i) (LeftsAre ys i) (λ at. subst (λ z. AllAre at (left_cells see z) (at i)) (sym (drop_end ys j q)) tt) l

  pub basic_grows : (cs ds es : List Cell) (ys : List (List ℕ × Span)) (i : ℕ) (e : Expr) → AreThere (length cs) see → i < length cs → Grows cs ds (LeftsAre ys i) → Grows ds es (λ at. IsOn (standing at see) e (at i)) → Grows cs es (λ at. LeftsAre ys i at × IsOn (standing at see) e (at i))
  basic_grows cs ds es ys i e k h f g = grows_then cs ds es (LeftsAre ys i) (λ at. IsOn (standing at see) e (at i)) (on_local (length cs) see e i k h) f g

  pub basic_never : (cs ds : List Cell) (ys : List (List ℕ × Span)) (i : ℕ) (e : Expr) → AreThere (length cs) see → i < length cs → Grows cs ds (LeftsAre ys i) → Never ds (λ at. IsOn (standing at see) e (at i)) → Never cs (λ at. LeftsAre ys i at × IsOn (standing at see) e (at i))
  basic_never cs ds ys i e k h f n = grows_never cs ds (LeftsAre ys i) (λ at. IsOn (standing at see) e (at i)) (on_local (length cs) see e i k h) f n

-- ---- lists of conditions and of declarations

pub conditions_next : (see : Sight) (ts : List Trans) (j : ℕ) (t : Trans) → j < length ts → t ≡ get_or ts j t → conditions see (drop j ts) ≡ (tested (span_of t.cond) see t.cond ∷ []) ++ conditions see (drop (j + 1) ts)
conditions_next see ts j t h p = ap (conditions see) (drop_next ts j t h p)

pub conditions_end : (see : Sight) (ts : List Trans) (j : ℕ) → length ts ≤ j → conditions see (drop j ts) ≡ []
conditions_end see ts j h = ap (conditions see) (drop_end ts j h)

pub tests_next : (ts : List Trans) (j : ℕ) (t : Trans) → j < length ts → t ≡ get_or ts j t → tests (drop j ts) ≡ test_of t.cond ++ tests (drop (j + 1) ts)
tests_next ts j t h p = ap tests (drop_next ts j t h p)

pub declared_next : (see : Sight) (is : List ℕ) (ds : List Decl) (first j i : ℕ) (d : Decl) → first + j < length is → i ≡ get_or is (first + j) i → j < length ds → d ≡ get_or ds j d → declared_units see (drop (first + j) is) (drop j ds) ≡ declared_unit see i d ++ declared_units see (drop (first + (j + 1)) is) (drop (j + 1) ds)
declared_next see is ds first j i d a e h p =
    let z : first + j + 1 ≡ first + (j + 1) = omega arith in
    ap (λ more. declared_units see more (drop j ds)) (drop_next is (first + j) i a e)
    ∙ ap (λ more. declared_units see (i ∷ drop (first + j + 1) is) more) (drop_next ds j d h p)
    ∙ ap (λ k. declared_unit see i d ++ declared_units see (drop k is) (drop (j + 1) ds)) z

pub declared_end : (see : Sight) (is : List ℕ) (ds : List Decl) (j : ℕ) → length ds ≤ j → declared_units see is (drop j ds) ≡ []
declared_end see is ds j h = ap (declared_units see is) (drop_end ds j h)

-- ---- what becomes of a unit

module _ (n : ℕ) (see : Sight) (k : AreThere n see) (cs ds : List Cell) (a : AreCells cs) (h : n ≤ length cs) (made : Result ⊤ Failure) (r : Result ⊤ Unsolved) where
  pub basic_solves : (s : Span) (ys : List (List ℕ × Span)) (i : ℕ) (e : Expr) → i < n → OnOk made (Grows cs ds (λ at. AllAre at (left_cells see ys) (at i) × IsOn (standing at see) e (at i))) → (made ≡ Err failure.Clash → Never cs (λ at. AllAre at (left_cells see ys) (at i) × IsOn (standing at see) e (at i))) → r ≡ out_of_unit s made → Solves n cs ds (equated s see (left_cells see ys) i e ∷ []) r
  basic_solves s ys i e l g c p =
      subst (λ z. Solves n cs ds (equated s see (left_cells see ys) i e ∷ []) z) (sym p)
      (unit_solves n cs ds (equated s see (left_cells see ys) i e) s made a h refl (basic_settles n see k s ys i e l) g c)

  pub test_solves : (e : Expr) (s : Span) → s ≡ span_of e → OnOk made (Grows cs ds (λ at. IsOn (standing at see) e (at 0))) → (made ≡ Err failure.Clash → Never cs (λ at. IsOn (standing at see) e (at 0))) → r ≡ out_of_unit s made → Solves n cs ds (tested (span_of e) see e ∷ []) r
  test_solves e s q g c p =
      let base : (at : Clocks) → Fits (told_at cs) at → at 0 ≡ [] = λ at f. says is_same (told_at cs) at f 0 on_base a.base in
      subst (λ z. Solves n cs ds (tested (span_of e) see e ∷ []) z) (sym p)
      (unit_solves n cs ds (tested (span_of e) see e) s made a h (sym q) (test_settles n see k (span_of e) e)
      (ok_map made
      (λ f. grows_like cs ds (λ at. IsOn (standing at see) e (at 0)) (λ at. IsOn (standing at see) e []) f
      (λ at w o. subst (λ z. IsOn (standing at see) e z) (base at w) o)
      (λ at w o. subst (λ z. IsOn (standing at see) e z) (sym (base at w)) o)) g)
      (λ q2 at w o. c q2 at w (subst (λ z. IsOn (standing at see) e z) (sym (base at w)) o)))

  pub written_solves : (s : Span) (i : ℕ) (path : Clock) → i < n → OnOk made (Grows cs ds (λ at. ClockRight (standing at see) (reverse path) × (at i ≡ reverse path))) → (made ≡ Err failure.Clash → Never cs (λ at. ClockRight (standing at see) (reverse path) × (at i ≡ reverse path))) → r ≡ out_of_unit s made → Solves n cs ds (declared s see i (reverse path) ∷ []) r
  written_solves s i path l g c p =
      subst (λ z. Solves n cs ds (declared s see i (reverse path) ∷ []) z) (sym p)
      (unit_solves n cs ds (declared s see i (reverse path)) s made a h refl (written_settles n see k s i (reverse path) l) g c)

-- the unit of a declaration
pub no_unit : (see : Sight) (i : ℕ) (d : Decl) → d.clock ≡ None → declared_unit see i d ≡ []
no_unit see i d e = ap (λ o. elim o as (λ z. List CellUnit) [ None ↦ [] | Some path ↦ declared d.span see i (reverse path) ∷ [] ]) e

one_unit : (see : Sight) (i : ℕ) (d : Decl) (path : Clock) → d.clock ≡ Some path → declared_unit see i d ≡ declared d.span see i (reverse path) ∷ []
one_unit see i d path e = ap (λ o. elim o as (λ z. List CellUnit) [ None ↦ [] | Some p ↦ declared d.span see i (reverse p) ∷ [] ]) e

pub with_unit : (n : ℕ) (see : Sight) (cs ds : List Cell) (i : ℕ) (d : Decl) (path : Clock) (s : Span) (r : Result ⊤ Unsolved) → d.clock ≡ Some path → s ≡ d.span → Solves n cs ds (declared s see i (reverse path) ∷ []) r → Solves n cs ds (declared_unit see i d) r
with_unit n see cs ds i d path s r e q h =
    subst (λ z. Solves n cs ds z r) (sym (one_unit see i d path e)) (subst (λ z. Solves n cs ds (declared z see i (reverse path) ∷ []) r) q h)
