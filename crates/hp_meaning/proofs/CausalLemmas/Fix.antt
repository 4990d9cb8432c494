-- A map on instants that looks at places of less rank alone has one fixed point.
use Rattle.std.proofs.Common.{◌≡◌, ℕ, zero, suc, ◌<◌, ◌≤◌, sym, ◌∙◌, arith}
use Rattle.hp_base.specs.declared.value.Value.{Value}
use Rattle.hp_tree.specs.Instant.{Place, Instant, nothing}
use Rattle.hp_meaning.specs.Causal.OneReaction.{OneInstant}

-- equal at what has less rank than k
abbrev pub Same : {A : Type 0} → (A → ℕ) → ℕ → (A → Value) → (A → Value) → Type 0
Same {A} rank k f g = (x : A) → rank x < k → f x ≡ g x

abbrev pub Local : (Instant → Instant) → (Place → ℕ) → Type 0
Local F rank = (k : ℕ) (i j : Instant) → Same rank k i j → (p : Place) → rank p ≤ k → F i p ≡ F j p

abbrev pub Fixed : (Instant → Instant) → Instant → Type 0
Fixed F i = (p : Place) → i p ≡ F i p

pub iterate : (Instant → Instant) → ℕ → Instant
iterate F zero = nothing
iterate F (suc k) = F (iterate F k)

agree_below : (F : Instant → Instant) (rank : Place → ℕ) → Local F rank → (i j : Instant) → Fixed F i → Fixed F j → (k : ℕ) → Same rank k i j
agree_below F rank local i j fi fj zero p h = absurd (omega arith)
agree_below F rank local i j fi fj (suc k) p h =
    fi p ∙ local k i j (agree_below F rank local i j fi fj k) p (omega arith) ∙ sym (fj p)

settles : (F : Instant → Instant) (rank : Place → ℕ) → Local F rank → (k : ℕ) → Same rank k (iterate F k) (iterate F (suc k))
unfolding iterate
settles F rank local zero p h = absurd (omega arith)
settles F rank local (suc k) p h = local k (iterate F k) (iterate F (suc k)) (settles F rank local k) p (omega arith)

pub one : (F : Instant → Instant) (rank : Place → ℕ) (bound : ℕ) → ((p : Place) → rank p < bound) → Local F rank → OneInstant F
unfolding iterate
one F rank bound bounded local =
    let fixed = λ (p : Place). settles F rank local bound p (bounded p) in
    record {
      now = iterate F bound;
      meets = fixed;
      only = λ i fi p. agree_below F rank local i (iterate F bound) fi fixed bound p (bounded p);
    }
