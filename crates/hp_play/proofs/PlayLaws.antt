-- Plays, instant by instant.
use Rattle.std.proofs.Common.{◌≡◌, ◌≢◌, ◌↔◌, inl, inr, ℕ, zero, suc, ◌+◌, ◌-◌, ◌<◌, ◌≤◌, Bool, false, not, ◌&&◌, IsTrue, IsFalse, List, [], ◌∷◌, ◌++◌, get_or, length, take, drop, refl, sym, ap, subst, ◌∙◌, arith, zero-add, true≢false}
use Rattle.std.proofs.Math.Seq.{take-append_seam, drop-append_seam}
use Rattle.hp_boolx.specs.Game.{Game}
use Rattle.std.proofs.lemmas.Bool.{and_parts, and_from, cases_lt, not-true, not_from_false}
use Rattle.std.proofs.lemmas.List.{length-drop}
use Rattle.hp_boolx.specs.Machine.{Machine, at_gate, game, variables}
use Rattle.hp_boolx.specs.Search.{Bits}
use Rattle.hp_synth.specs.Valued.{Valued, read, states, earlies, total}
use Rattle.hp_synth.proofs.Ranges.{read-len, read-parts}
use Rattle.hp_play.specs.Fields.{Exactly, IsPlayTo, Leads}
use Rattle.hp_play.specs.Plays.{state_in, early_in, IsInstant, IsPlayFrom, LosesIn, LoseEach, valuations}
use Rattle.hp_play.specs.declared.instant.Instant.{Instant}
use Rattle.hp_play.proofs.ListLaws.{drop-next, drop-end}

-- ---- the parts of a valuation of all variables

module _ (g : Game) (v : Valued) (n : ℕ) (e : n ≡ total g) where
  abbrev behind : Bits
  behind = read g.registers (g.early + (g.control + g.late)) v

  all-parts : read 0 n v ≡ states g v ++ behind
  all-parts =
      read-parts 0 g.registers (g.early + (g.control + g.late)) n v (e ∙ omega arith)
      ∙ ap (λ k. states g v ++ read k (g.early + (g.control + g.late)) v) (zero-add g.registers)

  pub state-read : state_in g (read 0 n v) ≡ states g v
  state-read =
      ap (take g.registers) all-parts
      ∙ ap (λ k. take k (states g v ++ behind)) (sym (read-len 0 g.registers v))
      ∙ take-append_seam (states g v) behind

  behind-read : drop g.registers (read 0 n v) ≡ behind
  behind-read =
      ap (drop g.registers) all-parts
      ∙ ap (λ k. drop k (states g v ++ behind)) (sym (read-len 0 g.registers v))
      ∙ drop-append_seam (states g v) behind

  pub early-read : early_in g (read 0 n v) ≡ earlies g v
  early-read =
      let late = read (g.registers + g.early) (g.control + g.late) v in
      ap (take g.early) (behind-read ∙ read-parts g.registers g.early (g.control + g.late) (g.early + (g.control + g.late)) v refl)
      ∙ ap (λ k. take k (earlies g v ++ late)) (sym (read-len g.registers g.early v))
      ∙ take-append_seam (earlies g v) late

-- ---- one instant more

pub loses-push : (g : Game) (n : ℕ) (vs : List Bits) (v : Bits) (k : ℕ) → LoseEach g n vs → suc k + length vs ≡ n → LosesIn g k (state_in g v) (early_in g v) → LoseEach g n (vs ++ v ∷ [])
loses-push g zero [] v k h e l = absurd (omega (arith, e))
loses-push g (suc n) [] v k h e l = (subst (λ m. LosesIn g m (state_in g v) (early_in g v)) (let same : k ≡ n = omega (arith, e) in same) l, tt)
loses-push g zero (w ∷ vs) v k h e l = absurd h
loses-push g (suc n) (w ∷ vs) v k h e l = (h.0, loses-push g n vs v k h.1 (omega (arith, e)) l)

pub valuations-push : (is : List Instant) (i : Instant) → valuations (is ++ i ∷ []) ≡ valuations is ++ i.values.items ∷ []
valuations-push [] i = refl
valuations-push (j ∷ is) i = ap (λ (q : List Bits). j.values.items ∷ q) (valuations-push is i)

pub valuations-len : (is : List Instant) → length (valuations is) ≡ length is
valuations-len [] = refl
valuations-len (j ∷ is) = ap suc (valuations-len is)

-- ---- replayed

module _ (g : Game) (r v : Bits) where
  pub no-instant : (rest : List Bits) → (IsInstant g r v → ⊥) → IsPlayFrom g r (v ∷ rest) → ⊥
  no-instant [] not p = not p.0
  no-instant (w ∷ ws) not p = not p.0

  pub no-end : (rest : List Bits) → 0 < length rest → IsFalse (g.duty v) → IsPlayFrom g r (v ∷ rest) → ⊥
  no-end [] l fails p = absurd (omega (arith, l))
  no-end (w ∷ ws) l fails p = true≢false (sym p.1 ∙ fails)

  pub goes-on : (rest : List Bits) → 0 < length rest → IsInstant g r v → IsTrue (g.duty v) → IsPlayFrom g r (v ∷ rest) ↔ IsPlayFrom g (g.next v) rest
  goes-on [] l is kept = absurd (omega (arith, l))
  goes-on (w ∷ ws) l is kept = (λ p. p.2, λ p. (is, kept, p))

-- ---- on gates

pub nothing : {P : Type 0} → (P → ⊥) → IsTrue false ↔ P
nothing none = (λ e. absurd (true≢false (sym e)), λ p. absurd (none p))

pub instant-is : (m : Machine) (r v : Bits) (a b : Bool) → length r ≡ m.registers → length v ≡ variables m → take (length r) v ≡ r → a ≡ at_gate m v m.valid → b ≡ at_gate m v m.hyp → IsTrue (a && b) ↔ IsInstant (game m) r v
instant-is m r v a b len many state valid hyp = (
  λ h.
      let both = and_parts a b h in
      record { many = many; state = ap (λ n. take n v) (sym len) ∙ state; valid = sym valid ∙ both.0; hyp = sym hyp ∙ both.1 },
  λ i. and_from a b (valid ∙ i.valid) (hyp ∙ i.hyp),
)

pub loses-read : (g : Game) (v : Valued) (n : ℕ) → n ≡ total g → (left : ℕ) → LosesIn g left (states g v) (earlies g v) → LosesIn g left (state_in g (read 0 n v)) (early_in g (read 0 n v))
loses-read g v n e left h =
    subst (λ (r : Bits). LosesIn g left r (early_in g (read 0 n v))) (sym (state-read g v n e))
    (subst (λ (u : Bits). LosesIn g left (states g v) u) (sym (early-read g v n e)) h)

-- a step of the replay: the instant at a place, those behind it, and the state that it leads to
module _ (g : Game) (play : List Instant) (i : ℕ) (one : Instant) (before : i < length play) (is : one ≡ get_or play i one) (r : Bits) where
  abbrev rest : List Bits
  rest = valuations (drop (i + 1) play)

  cut : valuations (drop i play) ≡ one.values.items ∷ rest
  cut = ap valuations (drop-next play i one before is)

  rest-len : length rest ≡ length play - (i + 1)
  rest-len = valuations-len (drop (i + 1) play) ∙ length-drop (i + 1) play

  pub replay-on : (P : Type 0) → P ↔ IsPlayFrom g r (valuations (drop i play)) → i + 1 ≢ length play → IsInstant g r one.values.items → IsTrue (g.duty one.values.items) → (s : Bits) → s ≡ g.next one.values.items → P ↔ IsPlayFrom g s rest
  replay-on P plays more here kept s next =
      let on = goes-on g r one.values.items rest (left more) here kept in (
        λ p. subst (λ (q : Bits). IsPlayFrom g q rest) (sym next) (on.0 (subst (λ (vs : List Bits). IsPlayFrom g r vs) cut (plays.0 p))),
        λ p. plays.1 (subst (λ (vs : List Bits). IsPlayFrom g r vs) (sym cut) (on.1 (subst (λ (q : Bits). IsPlayFrom g q rest) next p))),
      )
    where
      left : i + 1 ≢ length play → 0 < length rest
      left more = elim (cases_lt 0 (length rest)) [
        | inl l ↦ l
        | inr z ↦ absurd (more (omega (arith, before, z, rest-len)))
      ]

  pub replay-fails : (P : Type 0) → P ↔ IsPlayFrom g r (valuations (drop i play)) → i + 1 ≢ length play → IsFalse (g.duty one.values.items) → IsTrue false ↔ P
  replay-fails P plays more fails = nothing (λ p. no-end g r one.values.items rest (left more) fails (subst (λ (vs : List Bits). IsPlayFrom g r vs) cut (plays.0 p)))
    where
      left : i + 1 ≢ length play → 0 < length rest
      left more = elim (cases_lt 0 (length rest)) [
        | inl l ↦ l
        | inr z ↦ absurd (more (omega (arith, before, z, rest-len)))
      ]

  pub replay-none : (P : Type 0) → P ↔ IsPlayFrom g r (valuations (drop i play)) → (IsInstant g r one.values.items → ⊥) → IsTrue false ↔ P
  replay-none P plays not = nothing (λ p. no-instant g r one.values.items rest not (subst (λ (vs : List Bits). IsPlayFrom g r vs) cut (plays.0 p)))

  pub replay-last : (P : Type 0) → P ↔ IsPlayFrom g r (valuations (drop i play)) → i + 1 ≡ length play → IsInstant g r one.values.items → (b : Bool) → b ≡ g.duty one.values.items → IsTrue (not b) ↔ P
  replay-last P plays last here b duty =
      let ends : valuations (drop i play) ≡ one.values.items ∷ [] = cut ∙ ap (λ (is : List Instant). one.values.items ∷ valuations is) (drop-end play (i + 1) (omega (arith, last))) in (
        λ h. plays.1 (subst (λ (vs : List Bits). IsPlayFrom g r vs) (sym ends) (here, sym duty ∙ not-true b h)),
        λ p.
            let q = subst (λ (vs : List Bits). IsPlayFrom g r vs) ends (plays.0 p) in
            not_from_false b (duty ∙ q.1),
      )

-- ---- a play that grows

module _ (g : Game) where
  play-more : (vs : List Bits) (r s v q : Bits) → IsPlayTo g r vs s → IsInstant g s v → IsTrue (g.duty v) → q ≡ g.next v → IsPlayTo g r (vs ++ v ∷ []) q
  play-more [] r s v q p is kept next = (subst (λ (z : Bits). IsInstant g z v) p is, kept, next)
  play-more (w ∷ ws) r s v q p is kept next = (p.0, p.1, play-more ws (g.next w) s v q p.2 is kept next)

  play-end : (vs : List Bits) (r s v : Bits) → IsPlayTo g r vs s → IsInstant g s v → IsFalse (g.duty v) → IsPlayFrom g r (vs ++ v ∷ [])
  play-end [] r s v p is fails = (subst (λ (z : Bits). IsInstant g z v) p is, fails)
  play-end (w ∷ []) r s v p is fails = (p.0, p.1, play-end [] (g.next w) s v p.2 is fails)
  play-end (w ∷ x ∷ ws) r s v p is fails = (p.0, p.1, play-end (x ∷ ws) (g.next w) s v p.2 is fails)

  -- with an instant more, where some are left, and where none is
  pub next-on : (n i k : ℕ) → k ≡ n - 1 - i → i < n → (vs : List Bits) (r s v q : Bits) → IsPlayTo g r vs s → IsInstant g s v → Leads g k v → q ≡ g.next v
      → i + 1 < n → Exactly g (n - (i + 1)) q × IsPlayTo g r (vs ++ v ∷ []) q
  next-on n i zero e l vs r s v q p is leads next more = absurd (omega (arith, e, l, more))
  next-on n i (suc k) e l vs r s v q p is leads next more =
      let left : suc k ≡ n - (i + 1) = omega (arith, e, l, more) in
      (subst (λ m. Exactly g m q) left (subst (Exactly g (suc k)) (sym next) leads.1), play-more vs r s v q p is leads.0 next)

  pub next-done : (n i k : ℕ) → k ≡ n - 1 - i → i < n → (vs : List Bits) (r s v : Bits) → IsPlayTo g r vs s → IsInstant g s v → Leads g k v → n ≤ i + 1 → IsPlayFrom g r (vs ++ v ∷ [])
  next-done n i zero e l vs r s v p is leads none = play-end vs r s v p is leads
  next-done n i (suc k) e l vs r s v p is leads none = absurd (omega (arith, e, l, none))
