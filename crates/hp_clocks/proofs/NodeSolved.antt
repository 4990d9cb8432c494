-- What the cells tell of a node, once its units are solved.
use Rattle.std.proofs.Common.{◌≡◌, get_or, ℕ, zero, suc, ◌+◌, ◌<◌, List, [], ◌∷◌, ◌++◌, length, map, refl, sym, ap, ◌∙◌, subst, arith}
use Rattle.std.proofs.lemmas.List.{append-nil, length-map}
use Rattle.std.specs.Prelude.{Option, None, Some, All}
use Rattle.std.specs.Borrow.{Bor}
use Rattle.hp_base.specs.declared.span.Span.{Span}
use Rattle.hp_tree.specs.Expressions.{Expr}
use Rattle.hp_tree.specs.Programs.{Node}
use Rattle.hp_tree.specs.Instant.{Place, Clock}
use Rattle.hp_meaning.specs.Clocking.Terms.{IsPart, IsShortest}
use Rattle.hp_meaning.specs.Clocking.Clocking as place
use Rattle.hp_meaning.specs.Clocking.Clocking.{Assignment, ClockUnit, node_sights, AreClocks, IsAllowed}
use Rattle.hp_meaning.specs.Clocking.Solving.{FirstClash}
use Rattle.hp_meaning.proofs.ClockingLemmas.Units.{all_allow}
use Rattle.hp_meaning.proofs.ClockingLemmas.Cut.{UnitsFit, first_fit, shortest_are}
use Rattle.hp_meaning.proofs.ClockingLemmas.Fitting.{node_fits, node_places_fit}
use Rattle.hp_clocks.specs.declared.cell.Cell.{Cell}
use Rattle.hp_clocks.specs.declared.solve.Solution.{Solution}
use Rattle.hp_clocks.specs.Cells.{Told, unknown, same_as, on_base, step_on, told_at, Clocks, Says, Fits, AreCells, steps, steps_by}
use Rattle.hp_clocks.specs.Scopes.{Agree}
use Rattle.hp_clocks.specs.Units.{CellUnit, AllAllow, node_units, size_of_node, locals_of_node, rights_of_node}
use Rattle.hp_clocks.specs.Putting.{Puts, Fails, IsOpened, rights_seen}
use Rattle.hp_clocks.specs.Solved.{clock_read, IsSolved}
use Rattle.hp_clocks.proofs.CellLaws.{says}
use Rattle.hp_clocks.proofs.Arrays.{is_same}
use Rattle.hp_clocks.proofs.ReadLaws.{read_same, read_step, read_base}
use Rattle.hp_clocks.proofs.TiedLaws.{number_node, number_there, Tied, by_number, cells_for, tied_cells, tied_places}
use Rattle.hp_clocks.proofs.SameLaws.{AllSame, Split, all_same, same_split, node_base, node_same}
use Rattle.hp_clocks.proofs.CellListLaws.{node_locals, node_rights}

-- ---- the clocks that are read of cells

pub read_fits : (cs : List Cell) → AreCells cs → Fits (told_at cs) (clock_read cs)
read_fits cs a i = by (told_at cs i) refl
  where
    by : (c : Told) → told_at cs i ≡ c → Says (clock_read cs) i c
    by unknown e = tt
    by (same_as j) e = read_same cs a i j e
    by on_base e = read_base cs i e
    by (step_on o u) e = read_step cs a i u o e

part : (cells : ℕ → Told) (n i : ℕ) (at : Clocks) → Fits cells at → IsPart (steps n cells i) (at i)
part cells zero i at f = (at i, refl)
part cells (suc n) i at f = by (cells i) (f i) (λ j. part cells n j at f)
  where
    by : (c : Told) → Says at i c → ((j : ℕ) → IsPart (steps n cells j) (at j)) → IsPart (steps_by (λ j. steps n cells j) c) (at i)
    by unknown s g = (at i, refl)
    by (same_as j) s g = subst (λ z. IsPart (steps n cells j) z) (sym s) (g j)
    by on_base s g = (at i, refl)
    by (step_on o u) s g = ((g u).0, s ∙ ap (λ z. o ∷ z) (g u).1)

pub read_is_part : (cs : List Cell) (i : ℕ) (at : Clocks) → Fits (told_at cs) at → IsPart (clock_read cs i) (at i)
read_is_part cs i at f = part (told_at cs) (suc (length cs)) i at f

-- ---- right sides as the code holds them

numbers_at : (rs : List (ℕ × Bor Expr)) (k : ℕ) (d : ℕ × Bor Expr) → k < length rs → (get_or (rights_seen rs) k (d.0, d.1.now)).0 ≡ (get_or rs k d).0
numbers_at [] k d l = absurd (omega (arith, l))
numbers_at (r ∷ rs) zero d l = refl
numbers_at (r ∷ rs) (suc k) d l = numbers_at rs k d (omega (arith, l))

rights_all : (ds : List Cell) (rs : List (ℕ × Bor Expr)) → All (λ r. r.0 < length ds) (rights_seen rs) → All (λ r. r.0 < length ds) rs
rights_all ds rs h k d l =
    let f : ℕ × Bor Expr → ℕ × Expr = λ r. (r.0, r.1.now) in
    let e : length rs ≡ length (rights_seen rs) = sym (length-map rs f) in
    subst (λ z. z < length ds) (numbers_at rs k d l) (h k (f d) (subst (λ z. k < z) e l))

rights_map : (f : Clocks) (rs : List (ℕ × Bor Expr)) → map (λ r. let q : Clock × Expr = (f r.0, r.1.now) in q) rs ≡ map (λ r. let q : Clock × Expr = (f r.0, r.1) in q) (rights_seen rs)
rights_map f [] = refl
rights_map f (r ∷ rs) = ap (λ z. let q : Clock × Expr = (f r.0, r.1.now) in q ∷ z) (rights_map f rs)

-- ---- first units of a node

module _ (n : Node) (cs : List Cell) (opened : IsOpened (1 + size_of_node n) cs) where
  abbrev Tie : Assignment → Clocks → Type 0
  Tie at clocks = Tied n at clocks

  -- Some first units, of places and of cells, that are solved.
  module _ (ds : List Cell) (us : List ClockUnit) (vs : List CellUnit) (same : AllSame (Tied n) (node_base n) us vs) (puts : Puts (1 + size_of_node n) cs ds vs) where
    -- Clocks that the units allow come from clocks of the cells.
    pub comes : (at : Assignment) → place.AllAllow at us → (more : Clocks) × Fits (told_at ds) more × Tied n at more
    comes at a =
        let tied : Tied n at (cells_for at n) = tied_cells n at in
        let first : Fits (told_at cs) (cells_for at n) = opened.fits (cells_for at n) tied.base in
        let allowed : AllAllow (cells_for at n) vs = (all_same (Tied n) (node_base n) us vs same at (cells_for at n) tied).0 a in
        let last : (more : Clocks) × Fits (told_at ds) more × Agree (length cs) (cells_for at n) more = puts.grows.fits (cells_for at n) first allowed in
        let base : last.0 0 ≡ [] = says is_same (told_at ds) last.0 last.1 0 on_base puts.grows.cells.base in
        (last.0, last.1, record { base = base; tied = λ p i e. tied.tied p i e ∙ sym (last.2 i (subst (λ z. i < z) (sym opened.many) (number_there n p i e))) })

    abbrev pub read_at : Assignment
    read_at p = by_number (clock_read ds) (number_node n p)

    pub read_tied : Tied n read_at (clock_read ds)
    read_tied = tied_places n (clock_read ds) (read_base ds 0 puts.grows.cells.base)

    read_allowed : place.AllAllow read_at us
    read_allowed =
        (all_same (Tied n) (node_base n) us vs same read_at (clock_read ds) read_tied).1
        (puts.grows.says (clock_read ds) (read_fits ds puts.grows.cells)).1

    read_part : (at : Assignment) (more : Clocks) → Fits (told_at ds) more → Tied n at more → (p : Place) (o : Option ℕ) → number_node n p ≡ o → IsPart (by_number (clock_read ds) o) (at p)
    read_part at more f t p None e = (at p, refl)
    read_part at more f t p (Some i) e = subst (λ z. IsPart (clock_read ds i) z) (sym (t.tied p i e)) (read_is_part ds i more f)

    pub read_shortest : IsShortest (λ z. place.AllAllow z us) read_at
    read_shortest = (read_allowed, λ other a p. let m = comes other a in read_part other m.0 m.1 m.2 p (number_node n p) refl)

    pub read_clocks : (later : List ClockUnit) → place.node_units n ≡ us ++ later → AreClocks (node_sights n) read_at
    read_clocks later e =
        shortest_are (node_sights n) read_at us (first_fit (node_sights n) us later (subst (UnitsFit (node_sights n)) e (node_fits n))) (node_places_fit n) read_shortest

  -- The first unit that allows none.
  pub node_clash : (at : Span) → Fails (1 + size_of_node n) cs (node_units n) at → FirstClash (AreClocks (node_sights n)) (place.node_units n) at
  node_clash at f =
      let same : AllSame (Tied n) (node_base n) (place.node_units n) (f.earlier ++ f.one ∷ f.later) = subst (λ z. AllSame (Tied n) (node_base n) (place.node_units n) z) f.split (node_same n) in
      let s : Split (Tied n) (node_base n) (place.node_units n) f.earlier f.one = same_split (Tied n) (node_base n) (place.node_units n) f.earlier f.one f.later same in (
        s.first,
        s.one,
        s.last,
        s.split,
        s.one_same.0 ∙ f.placed,
        (read_at f.cells s.first f.earlier s.first_same f.puts, (read_clocks f.cells s.first f.earlier s.first_same f.puts (s.one ∷ s.last) s.split, (read_shortest f.cells s.first f.earlier s.first_same f.puts).0)),
        λ other are allowed.
            let r = (all_allow other s.first (s.one ∷ [])).0 allowed in
            let m = comes f.cells s.first f.earlier s.first_same f.puts other r.0 in
            f.never m.0 m.1 ((s.one_same.1 other m.0 m.2).0 r.1.0),
      )

  -- All units are solved.
  pub node_solved : (s : Solution) → Puts (1 + size_of_node n) cs s.cells.cells.items (node_units n) → s.locals.items ≡ locals_of_node n → rights_seen s.rights.items ≡ rights_of_node n → All (λ i. i < length s.cells.cells.items) (locals_of_node n) → All (λ r. r.0 < length s.cells.cells.items) (rights_of_node n) → IsSolved n s
  node_solved s puts ls rs ls_there rs_there =
      let ds = s.cells.cells.items in
      let us = place.node_units n in
      let at = read_at ds us (node_units n) (node_same n) puts in
      let tied = read_tied ds us (node_units n) (node_same n) puts in
      let short = read_shortest ds us (node_units n) (node_same n) puts in
      record {
        at = at;
        shortest = ((read_clocks ds us (node_units n) (node_same n) puts [] (sym (append-nil us)), short.0), λ other a v. short.1 other a.1 v);
        cells = puts.grows.cells;
        locals_there = subst (λ z. All (λ i. i < length ds) z) (sym ls) ls_there;
        rights_there = rights_all ds s.rights.items (subst (λ z. All (λ r. r.0 < length ds) z) (sym rs) rs_there);
        locals = ap (λ z. map (λ l. clock_read ds l) z) ls ∙ sym (node_locals n at (clock_read ds) tied);
        rights = rights_map (clock_read ds) s.rights.items ∙ ap (λ z. map (λ r. let q : Clock × Expr = (clock_read ds r.0, r.1) in q) z) rs ∙ sym (node_rights n at (clock_read ds) tied);
      }
