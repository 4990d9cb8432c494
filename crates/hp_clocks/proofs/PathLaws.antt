-- What is told of a clock that is written, step by step from the outermost one.
use Rattle.std.proofs.Common.{◌≡◌, ℕ, ◌+◌, ◌<◌, ◌≤◌, List, [], ◌∷◌, ◌++◌, length, drop, reverse, get_or, refl, sym, ap, ◌∙◌, subst, arith, append_assoc}
use Rattle.std.proofs.lemmas.List.{append-nil, reverse-append}
use Rattle.std.specs.Prelude.{⊤, Some}
use Rattle.hp_tree.specs.Instant.{Clock}
use Rattle.hp_meaning.specs.Causal.Clocked.{Standing, ClockRight}
use Rattle.hp_meaning.specs.Clocking.Clocking.{On}
use Rattle.hp_clocks.specs.declared.cell.Cell.{Cell}
use Rattle.hp_clocks.specs.Cells.{told_at, Clocks, Fits, AreCells, Tells, Never, on_base}
use Rattle.hp_clocks.specs.Scopes.{Sight, standing, AreThere, Agree, Grows}
use Rattle.hp_clocks.specs.Putting.{IsPath}
use Rattle.hp_clocks.proofs.CellLaws.{says}
use Rattle.hp_clocks.proofs.Arrays.{is_same}
use Rattle.hp_clocks.proofs.Growing.{IsLocal, grows_of_tells, grows_then, grows_never, standing_local, step_grows, step_never}
use Rattle.hp_clocks.proofs.Sampling.{grows_like, all_still_there}
use Rattle.hp_clocks.proofs.Leading.{Leads, grows_none, drop_next, drop_end}

-- these steps on top of a clock, the innermost of which comes last
abbrev pub Above : Standing → Clock → List On → Type 0
Above names c [] = ⊤
Above names c (o ∷ os) = (names o.1 ≡ Some c) × Above names (o ∷ c) os

abbrev pub onto : Clock → List On → Clock
onto c [] = c
onto c (o ∷ os) = onto (o ∷ c) os

pub right_above : (names : Standing) (c : Clock) (os : List On) → ClockRight names c → Above names c os → ClockRight names (onto c os)
right_above names c [] r a = r
right_above names c (o ∷ os) r a = right_above names (o ∷ c) os (a.0, r) a.1

pub above_right : (names : Standing) (c : Clock) (os : List On) → ClockRight names (onto c os) → ClockRight names c × Above names c os
above_right names c [] r = (r, tt)
above_right names c (o ∷ os) r = let h = above_right names (o ∷ c) os r in (h.0.1, (h.0.0, h.1))

onto_is : (c : Clock) (os : List On) → onto c os ≡ reverse os ++ c
onto_is c [] = refl
onto_is c (o ∷ os) = onto_is (o ∷ c) os ∙ sym (append_assoc (reverse os) (o ∷ []) c) ∙ ap (λ z. z ++ c) (sym (reverse-append (o ∷ []) os))

pub onto_base : (path : List On) → onto [] path ≡ reverse path
onto_base path = onto_is [] path ∙ append-nil (reverse path)

leads_like : (cs : List Cell) (P Q : Clocks → Type 0) → AreCells cs → ((at : Clocks) → Fits (told_at cs) at → P at → Q at) → ((at : Clocks) → Fits (told_at cs) at → Q at → P at) → Leads cs cs P Q
leads_like cs P Q a f g =
    record { cells = a; longer = omega arith; grows = λ after k. grows_like cs after P Q k f g; never = λ n at h q. n at h (g at h q) }

module _ (see : Sight) where
  abbrev pub AboveCell : ℕ → List On → Clocks → Type 0
  AboveCell i os at = Above (standing at see) (at i) os

  abbrev pub Whole : List On → Clocks → Type 0
  Whole path at = Above (standing at see) [] path

  abbrev pub IsTold : List Cell → ℕ → List On → List On → Type 0
  IsTold cs i os path = (at : Clocks) → Fits (told_at cs) at → onto (at i) os ≡ onto [] path

  base_is : (cs : List Cell) → AreCells cs → (at : Clocks) → Fits (told_at cs) at → at 0 ≡ []
  base_is cs a at f = says is_same (told_at cs) at f 0 on_base a.base

  pub path_start : (cs : List Cell) (path : List On) → AreCells cs → Leads cs cs (AboveCell 0 path) (Whole path)
  path_start cs path a =
      leads_like cs (AboveCell 0 path) (Whole path) a (λ at f h. subst (λ z. Above (standing at see) z path) (base_is cs a at f) h)
      (λ at f h. subst (λ z. Above (standing at see) z path) (sym (base_is cs a at f)) h)

  pub told_start : (cs : List Cell) (path : List On) → AreCells cs → IsTold cs 0 path path
  told_start cs path a at f = ap (λ z. onto z path) (base_is cs a at f)

  above_local : (n : ℕ) (i : ℕ) (o : On) (os : List On) → AreThere n see → i < n → IsLocal n (λ at. Above (standing at see) (o ∷ at i) os)
  above_local n i o os k h at more g a =
      subst (λ z. Above z (o ∷ more i) os) (sym (standing_local n at more see g k)) (subst (λ z. Above (standing at see) (o ∷ z) os) (sym (g i h)) a)

  module _ (cs ds es fs : List Cell) (path : List On) (j i n : ℕ) (s : On) (h : j < length path) (p : s ≡ get_or path j s) (l : Leads cs ds (AboveCell i (drop j path)) (Whole path)) (there : AreThere (length cs) see) (in_ds : i < length ds) (t : Tells ds es (λ at. standing at see s.1 ≡ Some (at i))) where
    abbrev Rest : List On
    Rest = drop (j + 1) path

    abbrev IsName : Clocks → Type 0
    IsName at = standing at see s.1 ≡ Some (at i)

    abbrev Stepped : Clocks → Type 0
    Stepped at = Above (standing at see) (s ∷ at i) Rest

    next_is : drop j path ≡ s ∷ Rest
    next_is = drop_next path j s h p

    there_ds : AreThere (length ds) see
    there_ds = let n0 : length cs ≤ length ds = l.longer in all_still_there (length cs) (length ds) see n0 there

    module _ (e : n ≡ length es) (u : Tells es fs (λ at. at n ≡ s ∷ at i)) where
      into : (at more : Clocks) → Agree (length es) at more → more n ≡ s ∷ at i → Stepped at → AboveCell n Rest more
      into at more same is r =
          let m : length cs ≤ length ds = l.longer in
          let m2 : length ds ≤ length es = t.longer in
          let k : AreThere (length es) see = all_still_there (length ds) (length es) see m2 there_ds in
          subst (λ z. Above z (more n) Rest) (sym (standing_local (length es) at more see same k)) (subst (λ z. Above (standing at see) z Rest) (sym is) r)

      in_es : i < length es
      in_es = let m : length ds ≤ length es = t.longer in omega (arith, m, in_ds)

      pub path_next : Leads cs fs (AboveCell n Rest) (Whole path)
      path_next =
          let m : length cs ≤ length ds = l.longer in
          let m2 : length ds ≤ length es = t.longer in
          let m3 : length es ≤ length fs = u.longer in
          record {
            cells = u.cells;
            longer = omega (arith, m, m2, m3);
            grows = λ after g.
                l.grows after
                (grows_like ds after (λ at. IsName at × Stepped at) (AboveCell i (drop j path))
                (grows_then ds es after IsName Stepped (above_local (length ds) i s Rest there_ds in_ds) (grows_of_tells ds es IsName t)
                (step_grows es fs after n i s (AboveCell n Rest) Stepped t.cells e in_es u g into (λ at is r. subst (λ z. Above (standing at see) z Rest) is r)))
                (λ at f r. subst (λ z. Above (standing at see) (at i) z) (sym next_is) r)
                (λ at f r. subst (λ z. Above (standing at see) (at i) z) next_is r));
            never = λ nv.
                l.never
                (λ at f r.
                grows_never ds es IsName Stepped (above_local (length ds) i s Rest there_ds in_ds) (grows_of_tells ds es IsName t)
                (step_never es fs n i s (AboveCell n Rest) Stepped t.cells e in_es u nv into) at f (subst (λ z. Above (standing at see) (at i) z) next_is r));
          }

      pub told_next : IsTold ds i (drop j path) path → IsTold fs n Rest path
      told_next k at f =
          let r = u.says at f in
          ap (λ z. onto z Rest) r.1 ∙ ap (λ z. onto (at i) z) (sym next_is) ∙ k at (t.says at r.0).0

  pub path_never : (cs ds : List Cell) (path : List On) (j i : ℕ) (s : On) → j < length path → s ≡ get_or path j s → Leads cs ds (AboveCell i (drop j path)) (Whole path) → Never ds (λ at. standing at see s.1 ≡ Some (at i)) → Never cs (λ at. ClockRight (standing at see) (reverse path))
  path_never cs ds path j i s h p l n at f r =
      l.never (λ at2 f2 r2. n at2 f2 (subst (λ z. Above (standing at2 see) (at2 i) z) (drop_next path j s h p) r2).0) at f
      (above_right (standing at see) [] path (subst (ClockRight (standing at see)) (sym (onto_base path)) r)).1

  pub path_end : (cs ds : List Cell) (path : List On) (j i : ℕ) → length path ≤ j → i < length ds → Leads cs ds (AboveCell i (drop j path)) (Whole path) → IsTold ds i (drop j path) path → IsPath cs ds see path i
  path_end cs ds path j i h there l k =
      record {
        grows = grows_like cs ds (Whole path) (λ at. ClockRight (standing at see) (reverse path))
            (l.grows ds (grows_none ds (AboveCell i (drop j path)) l.cells (λ at. subst (λ z. Above (standing at see) (at i) z) (sym (drop_end path j h)) tt)))
            (λ at f r. subst (ClockRight (standing at see)) (onto_base path) (right_above (standing at see) [] path tt r))
            (λ at f r. (above_right (standing at see) [] path (subst (ClockRight (standing at see)) (sym (onto_base path)) r)).1);
        there = there;
        told = λ at f. ap (λ z. onto (at i) z) (sym (drop_end path j h)) ∙ k at f ∙ onto_base path;
      }

  -- a local on a clock that is written
  module _ (cs ds : List Cell) (path : List On) (i local : ℕ) (h : local < length cs) (q : IsPath cs ds see path i) where
    abbrev Written : Clocks → Type 0
    Written at = ClockRight (standing at see) (reverse path) × (at local ≡ reverse path)

    pub written_grows : (es : List Cell) → Tells ds es (λ at. at local ≡ at i) → Grows cs es Written
    written_grows es t =
        let m : length cs ≤ length ds = q.grows.longer in
        let m2 : length ds ≤ length es = t.longer in
        record {
          cells = t.cells;
          longer = omega (arith, m, m2);
          says = λ at f.
              let r = t.says at f in
              let g = q.grows.says at r.0 in
              (g.0, (g.1, r.1 ∙ q.told at r.0));
          fits = λ at f w.
              let g = q.grows.fits at f w.0 in
              (g.0, t.fits g.0 g.1 (g.2 local h ∙ w.1 ∙ sym (q.told g.0 g.1)), g.2);
        }

    pub written_never : Never ds (λ at. at local ≡ at i) → Never cs Written
    written_never n at f w =
        let g = q.grows.fits at f w.0 in
        n g.0 g.1 (g.2 local h ∙ w.1 ∙ sym (q.told g.0 g.1))
