-- The steps of sites: those of the block, and those of the clock on which an expression stands.
use Rattle.std.proofs.Common.{◌≡◌, ℕ, suc, ◌+◌, ◌<◌, true, false, nat_lt, if◌then◌else◌, List, [], ◌∷◌, ◌++◌, length, refl, ap, ◌∙◌, arith}
use Rattle.std.proofs.lemmas.Bool.Decides.{nat_tests}
use Rattle.std.proofs.lemmas.List.{length-append}
use Rattle.hp_tree.specs.declared.decl.Cons.{Cons}
use Rattle.hp_tree.specs.Instant.{Clock, without}
use Rattle.law_equations.specs.Made.Making.{Known, Sketch, Site, Sight, on_site, off_site, front_steps, tested, cons_number, enter_path}

-- the site has the steps of its block, and one for each step of the clock
abbrev pub Owns : Site → Clock → Type 0
Owns at clock = length at.clock ≡ at.base + length clock

front_length : (s : ℕ × ℕ) (c : List (ℕ × ℕ)) → length (front_steps (s ∷ c)) ≡ length c
front_length s [] = refl
front_length s (t ∷ c) = ap suc (front_length t c)

front_shorter : (c : List (ℕ × ℕ)) (n : ℕ) → length c ≡ suc n → length (front_steps c) ≡ n
front_shorter [] n e = absurd (omega arith)
front_shorter (s ∷ c) n e = front_length s c ∙ (let l : length (s ∷ c) ≡ suc n = e in omega (arith, l))

pub off_owns : (clock : Clock) (at : Site) → Owns at clock → Owns (off_site at) (without clock)
off_owns [] at o =
    let no : nat_lt at.base (length at.clock) ≡ false = (let same : length at.clock ≡ at.base = o ∙ (omega arith) in grind (arith, nat_tests)) in
    ap (λ b. length (if b then front_steps at.clock else at.clock)) no ∙ o
off_owns (s ∷ clock) at o =
    let yes : nat_lt at.base (length at.clock) ≡ true = (let more : at.base < length at.clock = omega (arith, o) in grind (arith, nat_tests)) in
    let sum : length at.clock ≡ suc (at.base + length clock) = o ∙ (omega arith) in
    ap (λ b. length (if b then front_steps at.clock else at.clock)) yes ∙ front_shorter at.clock (at.base + length clock) sum

pub on_owns : (clock : Clock) (s : Cons × List ℕ) (at : Site) (x c : ℕ) → Owns at clock → Owns (on_site at x c) (s ∷ clock)
on_owns clock s at x c o = length-append at.clock ((x, c) ∷ []) ∙ (omega (arith, o))

module _ (k : Known) where
  pub path_owns : (path : List (Cons × List ℕ)) (see : Sight) (at : Site) (d : Sketch)
      → (length (enter_path k see path at d).0.clock ≡ length at.clock + length path) × ((enter_path k see path at d).0.base ≡ at.base)
  path_owns [] see at d = (omega arith, refl)
  path_owns (s ∷ path) see at d =
      let t = tested (see s.1).value d in
      let r = path_owns path see (on_site at t.1 (cons_number k s.0)) t.0 in
      let l : length (at.clock ++ (t.1, cons_number k s.0) ∷ []) ≡ length at.clock + 1 = length-append at.clock ((t.1, cons_number k s.0) ∷ []) in
      let q = r.0 in
      (omega (arith, l, q), r.1)
