-- Places of nodes in a list, and in a longer one.
use Rattle.std.proofs.Common.{◌≡◌, ℕ, ◌+◌, ◌<◌, ◌≤◌, ◌⊎◌, inl, inr, Bool, ◌==◌, nat_lt, not, if◌then◌else◌, List, [], ◌∷◌, ◌++◌, length, get_or, Some, None, refl, sym, ap, ◌∙◌, arith}
use Rattle.std.specs.List.{Contains, position}
use Rattle.std.proofs.lemmas.Bool.{cases_lt, eqb-true, eq-eqb, ne_eqb, lt-ltb, le-ltb}
use Rattle.std.proofs.lemmas.List.Folds.{position_or_len_push}
use Rattle.std.proofs.lemmas.List.Sums.{fails_before_first, passes_at_first, prefix_len-le-length}
use Rattle.std.proofs.lemmas.List.Elements.{Contains-append_left}
use Rattle.hp_cert.specs.Certmade.Lines.{place_in, number_in}

pub place_within : (nodes : List ℕ) (i : ℕ) → place_in nodes i ≤ length nodes
place_within nodes i = prefix_len-le-length (λ k. not (i == k)) nodes

pub place_less : (nodes : List ℕ) (i : ℕ) → Contains nodes i → place_in nodes i < length nodes
place_less nodes i c =
    elim (cases_lt (place_in nodes i) (length nodes)) as (λ o. place_in nodes i < length nodes) [
      | inl h ↦ h
      | inr h ↦
          let less = c.1 in
          let no = fails_before_first (λ k. i == k) nodes c.0 i (omega (arith, h, less)) in
          let yes = eq-eqb i (get_or nodes c.0 i) (sym c.2) in
          absurd (cc)
    ]

pub place_contains : (nodes : List ℕ) (i : ℕ) → place_in nodes i < length nodes → Contains nodes i
place_contains nodes i h = (place_in nodes i, h, sym (eqb-true i (get_or nodes (place_in nodes i) i) (passes_at_first (λ k. i == k) nodes i h)))

pub place_more : (nodes : List ℕ) (y i : ℕ) → place_in nodes i < length nodes → place_in (nodes ++ y ∷ []) i ≡ place_in nodes i
place_more nodes y i h =
    position_or_len_push (λ k. i == k) nodes y
    ∙ ap (λ (b : Bool). if b then length nodes + (if i == y then 0 else 1) else place_in nodes i) (ne_eqb (place_in nodes i) (length nodes) (λ e. absurd (omega (arith, e, h))))

pub place_last : (nodes : List ℕ) (i : ℕ) → ¬ Contains nodes i → place_in (nodes ++ i ∷ []) i ≡ length nodes
place_last nodes i none =
    elim (cases_lt (place_in nodes i) (length nodes)) as (λ o. place_in (nodes ++ i ∷ []) i ≡ length nodes) [
      | inl h ↦ absurd (none (place_contains nodes i h))
      | inr h ↦
          let within = place_within nodes i in
          let end : place_in nodes i ≡ length nodes = omega (arith, within, h) in
          position_or_len_push (λ k. i == k) nodes i
          ∙ ap (λ (b : Bool). if b then length nodes + (if i == i then 0 else 1) else place_in nodes i) (eq-eqb (place_in nodes i) (length nodes) end)
          ∙ ap (λ (b : Bool). length nodes + (if b then 0 else 1)) (eq-eqb i i refl)
          ∙ omega arith
    ]

-- where no place is found
pub place_end : (nodes : List ℕ) (i : ℕ) {count : ℕ} → count ≡ length nodes → None ≡ position (λ k. i == k) nodes → count ≡ place_in nodes i
place_end nodes i {count} len none =
    elim (cases_lt (place_in nodes i) (length nodes)) as (λ o. count ≡ place_in nodes i) [
      | inl h ↦ (let some : position (λ k. i == k) nodes ≡ Some (place_in nodes i) = ap (λ (b : Bool). if b then Some (place_in nodes i) else None) (lt-ltb (place_in nodes i) (length nodes) h) in absurd (cc))
      | inr h ↦ (let within = place_within nodes i in omega (arith, len, h, within))
    ]

-- ---- what a number stands for is there

abbrev pub Covers : List ℕ → ℕ → Type 0
Covers nodes i = (i < 2) ⊎ Contains nodes i

pub number_small : (nodes : List ℕ) (i : ℕ) → i < 2 → number_in nodes i ≡ i
number_small nodes i h = ap (λ (b : Bool). if b then i else place_in nodes i + 2) (lt-ltb i 2 h)

pub number_large : (nodes : List ℕ) (i : ℕ) → 2 ≤ i → number_in nodes i ≡ place_in nodes i + 2
number_large nodes i h = ap (λ (b : Bool). if b then i else place_in nodes i + 2) (le-ltb i 2 h)

pub covers_more : (nodes : List ℕ) (y i : ℕ) → Covers nodes i → Covers (nodes ++ y ∷ []) i
covers_more nodes y i (inl h) = inl h
covers_more nodes y i (inr h) = inr (Contains-append_left nodes (y ∷ []) i h)

pub number_more : (nodes : List ℕ) (y i : ℕ) → Covers nodes i → number_in (nodes ++ y ∷ []) i ≡ number_in nodes i
number_more nodes y i (inl h) = number_small (nodes ++ y ∷ []) i h ∙ sym (number_small nodes i h)
number_more nodes y i (inr h) = ap (λ n. if nat_lt i 2 then i else n + 2) (place_more nodes y i (place_less nodes i h))

pub number_below : (nodes : List ℕ) (i : ℕ) → Covers nodes i → number_in nodes i < length nodes + 2
number_below nodes i c =
    elim (cases_lt i 2) as (λ o. number_in nodes i < length nodes + 2) [
      | inl h ↦ let is = number_small nodes i h in omega (arith, is, h)
      | inr h ↦ let is = number_large nodes i h in let less = within c h in omega (arith, is, less)
    ]
  where
    within : Covers nodes i → 2 ≤ i → place_in nodes i < length nodes
    within (inl small) large = absurd (omega (arith, small, large))
    within (inr there) large = place_less nodes i there
