-- What is noted, element by element.
use Rattle.std.proofs.Common.{◌≡◌, ℕ, ◌+◌, ◌<◌, ◌≤◌, drop, get_or, length, List, [], ◌∷◌, ◌++◌, refl, sym, ap, ◌∙◌, arith}
use Rattle.std.specs.List.{flat_map}
use Rattle.std.proofs.lemmas.List.{get_or-map, get_or_past, length-map}
use Rattle.hp_flat.specs.Equations.{Clock}
use Rattle.law_equations.specs.Meaning.Scheduling.{clock_variables}
use Rattle.hp_schedule.specs.declared.reach.Reach.{Reach}
use Rattle.hp_schedule.specs.declared.reach.Weight.{Weight}
use Rattle.hp_schedule.specs.Reaching.{raised, raised_all, noted_one, noted_all, met, reach_of}
use Rattle.hp_normal.proofs.Lists.{drop-next, drop-end, set-past}

pub asked : (clock : Clock) (depth base : ℕ) (on : ℕ × ℕ) → depth < length clock → on ≡ get_or clock depth on → on.0 ≡ get_or (clock_variables clock) depth base
asked clock depth base on h p = ap (λ (a : ℕ × ℕ). a.0) p ∙ sym (get_or-map (λ (a : ℕ × ℕ). a.0) clock depth on base h)

pub unasked : (clock : Clock) (depth base : ℕ) → length clock ≤ depth → base ≡ get_or (clock_variables clock) depth base
unasked clock depth base h = sym (get_or_past (clock_variables clock) depth base (omega (arith, h, length-map clock (λ (a : ℕ × ℕ). a.0))))

pub raised-end : (table : List Reach) (xs : List ℕ) (i : ℕ) (w : Weight) → length xs ≤ i → raised_all table (drop i xs) w ≡ w
raised-end table xs i w h = ap (λ ys. raised_all table ys w) (drop-end xs i h)

module _ (table : List Reach) (xs : List ℕ) (i : ℕ) (w after : Weight) where
  pub raised-next : (x : ℕ) → i < length xs → x ≡ get_or xs i x → after ≡ raised table x w → raised_all table (drop (i + 1) xs) after ≡ raised_all table (drop i xs) w
  raised-next x h p step = ap (raised_all table (drop (i + 1) xs)) step ∙ sym (ap (λ ys. raised_all table ys w) (drop-next xs i x h p))

pub noted-append : (w : Weight) (xs ys : List ℕ) (table : List Reach) → noted_all w (xs ++ ys) table ≡ noted_all w ys (noted_all w xs table)
noted-append w [] ys table = refl
noted-append w (x ∷ xs) ys table = noted-append w xs ys (noted_one w x table)

pub noted-past : (w : Weight) (x : ℕ) (table : List Reach) → length table ≤ x → table ≡ noted_one w x table
noted-past w x table h = sym (set-past table x (met w (reach_of table x)) h)

pub noted-end : (w : Weight) (xs : List ℕ) (i : ℕ) (table : List Reach) → length xs ≤ i → noted_all w (drop i xs) table ≡ table
noted-end w xs i table h = ap (λ ys. noted_all w ys table) (drop-end xs i h)

module _ (w : Weight) (xs : List ℕ) (i : ℕ) (table after : List Reach) where
  pub noted-next : (x : ℕ) → i < length xs → x ≡ get_or xs i x → after ≡ noted_one w x table → noted_all w (drop (i + 1) xs) after ≡ noted_all w (drop i xs) table
  noted-next x h p step = ap (noted_all w (drop (i + 1) xs)) step ∙ sym (ap (λ ys. noted_all w ys table) (drop-next xs i x h p))

module _ {A : Type 0} (w : Weight) (f : A → List ℕ) (xs : List A) (i : ℕ) (table : List Reach) where
  pub each-next : (after all : List Reach) (x : A) → i < length xs → x ≡ get_or xs i x → after ≡ noted_all w (f x) table → noted_all w (flat_map f (drop i xs)) table ≡ all
      → noted_all w (flat_map f (drop (i + 1) xs)) after ≡ all
  each-next after all x h p step known =
      ap (noted_all w (flat_map f (drop (i + 1) xs))) step
      ∙ sym (noted-append w (f x) (flat_map f (drop (i + 1) xs)) table)
      ∙ sym (ap (λ ys. noted_all w (flat_map f ys) table) (drop-next xs i x h p))
      ∙ known

  pub each-end : (all : List Reach) → length xs ≤ i → noted_all w (flat_map f (drop i xs)) table ≡ all → table ≡ all
  each-end all h known = sym (ap (λ ys. noted_all w (flat_map f ys) table) (drop-end xs i h)) ∙ known

module _ (w : Weight) (clock : Clock) (i : ℕ) (table after : List Reach) where
  pub clock-next : (on : ℕ × ℕ) → i < length clock → on ≡ get_or clock i on → after ≡ noted_one w on.0 table
      → noted_all w (clock_variables (drop (i + 1) clock)) after ≡ noted_all w (clock_variables (drop i clock)) table
  clock-next on h p step = ap (noted_all w (clock_variables (drop (i + 1) clock))) step ∙ sym (ap (λ c. noted_all w (clock_variables c) table) (drop-next clock i on h p))

pub clock-end : (w : Weight) (clock : Clock) (i : ℕ) (table : List Reach) → length clock ≤ i → noted_all w (clock_variables (drop i clock)) table ≡ table
clock-end w clock i table h = ap (λ c. noted_all w (clock_variables c) table) (drop-end clock i h)
