-- The one instant of a ranked node is reached from any instant, so it has what each step keeps.
use Rattle.std.proofs.Common.{ℕ, zero, suc, ◌<◌, List, refl, sym, subst, ◌∙◌, arith}
use Rattle.std.specs.Prelude.{Option, None, Some}
use Rattle.hp_base.specs.declared.ty.Ty.{Ty}
use Rattle.hp_base.specs.declared.value.Value.{Value}
use Rattle.hp_base.specs.declared.value.Value.TheVariants.{Absent, Nil, B, E, I, Star}
use Rattle.hp_tree.specs.Programs.{TypeDecl}
use Rattle.hp_tree.specs.Instant.{Place, Instant}
use Rattle.hp_tree.specs.Filled.{first_value}
use Rattle.hp_tree.specs.Operators.{marked}
use Rattle.law_games.proofs.AbstractedLemmas.Laws.{marked_wire}
use Rattle.hp_meaning.proofs.CausalLemmas.Fix.{Same, Local, Fixed}
use Rattle.law_games.proofs.AbstractedLemmas.Marked.{Marks, Agree, AllAgree}

repeated : (Instant → Instant) → ℕ → Instant → Instant
repeated F zero i = i
repeated F (suc k) i = F (repeated F k i)

reached : (F : Instant → Instant) (rank : Place → ℕ) → Local F rank → (start end : Instant) → Fixed F end → (k : ℕ) → Same rank k (repeated F k start) end
unfolding repeated
reached F rank local start end fixed zero p h = absurd (omega arith)
reached F rank local start end fixed (suc k) p h =
    local k (repeated F k start) end (reached F rank local start end fixed k) p (omega arith) ∙ sym (fixed p)

module _ (types : List TypeDecl) (T : Marks) (i : Instant) where
  -- a value with which an instant may begin
  begun : Option Ty → Value → Value
  begun (Some t) Nil = marked (first_value types t)
  begun o v = v

  begun_agrees : (o : Option Ty) (v : Value) → Agree types o v (begun o v)
  unfolding begun
  begun_agrees (Some t) Nil = λ h. marked_wire types t (first_value types t) h
  begun_agrees None Nil = refl
  begun_agrees (Some t) Absent = refl
  begun_agrees None Absent = refl
  begun_agrees (Some t) (B b) = refl
  begun_agrees None (B b) = refl
  begun_agrees (Some t) (E m k) = refl
  begun_agrees None (E m k) = refl
  begun_agrees (Some t) (I n) = refl
  begun_agrees None (I n) = refl
  begun_agrees (Some t) Star = refl
  begun_agrees None Star = refl

  abbrev start : Instant
  start p = begun (T p) (i p)

  kept : (F : Instant → Instant) → ((j : Instant) → AllAgree types T i j → AllAgree types T i (F j)) → (k : ℕ) → AllAgree types T i (repeated F k start)
  unfolding repeated
  kept F step zero = λ p. begun_agrees (T p) (i p)
  kept F step (suc k) = step (repeated F k start) (kept F step k)

  -- What agrees with an instant at each step agrees with it where the steps end.
  pub ends_agree : (F : Instant → Instant) (rank : Place → ℕ) (bound : ℕ) → ((p : Place) → rank p < bound) → Local F rank → ((j : Instant) → AllAgree types T i j → AllAgree types T i (F j)) → (end : Instant) → Fixed F end → AllAgree types T i end
  ends_agree F rank bound bounded local step end fixed p =
      subst (λ v. Agree types (T p) (i p) v) (reached F rank local start end fixed bound p (bounded p)) (kept F step bound p)
