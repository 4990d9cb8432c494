-- Turns, one by one.
use Rattle.std.proofs.Common.{◌≡◌, ℕ, suc, ◌+◌, ◌<◌, ◌≤◌, nat_lt, drop, get_or, length, Bool, true, false, if◌then◌else◌, List, [], ◌∷◌, ◌++◌, map, refl, sym, ap, ◌∙◌, arith}
use Rattle.std.proofs.lemmas.Bool.{lt-ltb, le-ltb}
use Rattle.std.proofs.lemmas.List.{append_assoc, append-nil, get_or_default, length-set}
use Rattle.std.proofs.Math.Numerals.{add-one}
use Rattle.hp_flat.specs.Equations.{FlatEqn}
use Rattle.law_equations.specs.Meaning.Scheduling.{reads}
use Rattle.hp_schedule.specs.declared.order.Turn.{Turn}
use Rattle.hp_schedule.specs.declared.order.Weighed.{Weighed}
use Rattle.hp_schedule.specs.declared.reach.Reach.{Reach}
use Rattle.hp_schedule.specs.declared.reach.Weight.{Weight}
use Rattle.hp_schedule.specs.ByClock.{numbered}
use Rattle.hp_schedule.specs.Reaching.{met, reach_of, weight_of, noted_one, noted_all, noted}
use Rattle.hp_schedule.specs.Turning.{turn_of, turns_from, blank, eqn_at, noted_turn, noted_turns}
use Rattle.hp_normal.proofs.Lists.{drop-next, drop-end}

module _ (es : List FlatEqn) (i : ℕ) (turns : List Turn) (all : List Turn) where
  pub turns-next : (after : List Turn) (e : FlatEqn) → i < length es → e ≡ get_or es i e → after ≡ turns ++ turn_of i e ∷ [] → turns ++ turns_from i (drop i es) ≡ all → after ++ turns_from (i + 1) (drop (i + 1) es) ≡ all
  turns-next after e h p step known =
      let rest : List Turn = turns_from (suc i) (drop (i + 1) es) in
      ap (λ (ts : List Turn). ts ++ turns_from (i + 1) (drop (i + 1) es)) step
      ∙ ap (λ n. (turns ++ turn_of i e ∷ []) ++ turns_from n (drop (i + 1) es)) (add-one i)
      ∙ append_assoc turns (turn_of i e ∷ []) rest
      ∙ sym (ap (λ ds. turns ++ turns_from i ds) (drop-next es i e h p))
      ∙ known

  pub turns-end : length es ≤ i → turns ++ turns_from i (drop i es) ≡ all → turns ≡ all
  turns-end h known = sym (append-nil turns) ∙ sym (ap (λ ds. turns ++ turns_from i ds) (drop-end es i h)) ∙ known

module _ (depth base : ℕ) (es : List FlatEqn) (t : Turn) (table : List Reach) where
  pub turn-inside : (after : List Reach) (e : FlatEqn) → t.index < length es → e ≡ get_or es t.index e → after ≡ noted depth base e table → after ≡ noted_turn depth base es t table
  turn-inside after e h p step =
      step ∙ ap (λ d. noted depth base d table) (p ∙ get_or_default es t.index e blank h) ∙ sym (ap (λ b. if b then noted depth base (eqn_at es t) table else table) (lt-ltb t.index (length es) h))

  pub turn-outside : length es ≤ t.index → table ≡ noted_turn depth base es t table
  turn-outside h = sym (ap (λ b. if b then noted depth base (eqn_at es t) table else table) (le-ltb t.index (length es) h))

module _ (depth base : ℕ) (es : List FlatEqn) (ts : List Turn) (i : ℕ) (table after : List Reach) where
  pub all-next : (t : Turn) → i < length ts → t ≡ get_or ts i t → after ≡ noted_turn depth base es t table → noted_turns depth base es (drop (i + 1) ts) after ≡ noted_turns depth base es (drop i ts) table
  all-next t h p step = ap (noted_turns depth base es (drop (i + 1) ts)) step ∙ sym (ap (λ ys. noted_turns depth base es ys table) (drop-next ts i t h p))

pub all-end : (depth base : ℕ) (es : List FlatEqn) (ts : List Turn) (i : ℕ) (table : List Reach) → length ts ≤ i → noted_turns depth base es (drop i ts) table ≡ table
all-end depth base es ts i table h = ap (λ ys. noted_turns depth base es ys table) (drop-end ts i h)

numbered-more : (k : ℕ) (es : List FlatEqn) (e : FlatEqn) (n : ℕ) → n ≡ k + length es → numbered k (es ++ e ∷ []) ≡ numbered k es ++ record e { at = n } ∷ []
numbered-more k [] e n h = ap (λ m. record e { at = m } ∷ []) (let same : k ≡ n = omega arith in same)
numbered-more k (d ∷ es) e n h = ap (λ ds. record d { at = k } ∷ ds) (numbered-more (suc k) es e n (omega arith))

length_numbered : (k : ℕ) (es : List FlatEqn) → length (numbered k es) ≡ length es
length_numbered k [] = refl
length_numbered k (e ∷ es) = ap suc (length_numbered (suc k) es)

map_more : (ws : List Weighed) (w : Weighed) → map (λ (v : Weighed). v.eqn) (ws ++ w ∷ []) ≡ map (λ (v : Weighed). v.eqn) ws ++ w.eqn ∷ []
map_more [] w = refl
map_more (v ∷ ws) w = ap (λ es. v.eqn ∷ es) (map_more ws w)

pub place-next : (ws : List Weighed) (w : Weighed) (placed after : List FlatEqn) → placed ≡ numbered 0 (map (λ (v : Weighed). v.eqn) ws) → after ≡ placed ++ record w.eqn { at = length placed } ∷ []
    → after ≡ numbered 0 (map (λ (v : Weighed). v.eqn) (ws ++ w ∷ []))
place-next ws w placed after h step =
    let es : List FlatEqn = map (λ (v : Weighed). v.eqn) ws in
    let count : length placed ≡ 0 + length es = omega (arith, ap length h, length_numbered 0 es) in
    step
    ∙ ap (λ ds. ds ++ record w.eqn { at = length placed } ∷ []) h
    ∙ sym (numbered-more 0 es w.eqn (length placed) count)
    ∙ sym (ap (numbered 0) (map_more ws w))

length_all : (w : Weight) (xs : List ℕ) (table : List Reach) → length (noted_all w xs table) ≡ length table
length_all w [] table = refl
length_all w (x ∷ xs) table = length_all w xs (noted_one w x table) ∙ length-set table x (met w (reach_of table x))

length_turn : (b : Bool) (depth base : ℕ) (e : FlatEqn) (table : List Reach) → length (if b then noted depth base e table else table) ≡ length table
length_turn true depth base e table = length_all (weight_of depth base table e) (reads e) table
length_turn false depth base e table = refl

pub length-turns : (depth base : ℕ) (es : List FlatEqn) (ts : List Turn) (table : List Reach) → length (noted_turns depth base es ts table) ≡ length table
length-turns depth base es [] table = refl
length-turns depth base es (t ∷ ts) table = length-turns depth base es ts (noted_turn depth base es t table) ∙ length_turn (nat_lt t.index (length es)) depth base (eqn_at es t) table
