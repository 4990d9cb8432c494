-- The fixed point of a local map has each property that the map keeps, where any instant has it.
use Rattle.std.proofs.Common.{ℕ, zero, suc, ◌<◌, sym, subst, ◌∙◌, arith}
use Rattle.std.proofs.Math.Path.{fun_ext}
use Rattle.hp_tree.specs.Instant.{Place, Instant}
use Rattle.hp_meaning.proofs.CausalLemmas.Fix.{Same, Local, Fixed}

module _ (F : Instant → Instant) (rank : Place → ℕ) (local : Local F rank) where
  -- after as many steps from an instant
  steps : ℕ → Instant → Instant
  steps zero i = i
  steps (suc k) i = F (steps k i)

  nears : (now from : Instant) → Fixed F now → (k : ℕ) → Same rank k now (steps k from)
  unfolding steps
  nears now from h zero p l = absurd (omega arith)
  nears now from h (suc k) p l = h p ∙ local k now (steps k from) (nears now from h k) p (omega arith)

  stays : (P : Instant → Type 0) → ((i : Instant) → P i → P (F i)) → (from : Instant) → P from → (k : ℕ) → P (steps k from)
  unfolding steps
  stays P keeps from h zero = h
  stays P keeps from h (suc k) = keeps (steps k from) (stays P keeps from h k)

  pub reached : (bound : ℕ) → ((p : Place) → rank p < bound) → (P : Instant → Type 0) → ((i : Instant) → P i → P (F i)) → (from : Instant) → P from → (now : Instant) → Fixed F now → P now
  reached bound below P keeps from h now f = subst P (fun_ext (λ p. sym (nears now from f bound p (below p)))) (stays P keeps from h bound)
