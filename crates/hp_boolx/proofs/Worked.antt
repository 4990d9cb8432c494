-- A machine with one variable of each kind, computed: a win, and with a weaker hypothesis a lose.
use Rattle.std.proofs.Common.{◌≡◌, ℕ, ◌≤◌, ◌<◌, true, false, [], ◌∷◌, refl, arith}
use Rattle.std.proofs.lemmas.List.Elements.{All-nil, All-cons}
use Rattle.hp_boolx.specs.Search.{Set}
use Rattle.hp_boolx.specs.Game.{Game, forced, permitted, preferred}
use Rattle.hp_boolx.specs.declared.gate.Gate.TheVariants.{Const, Var, Not, And, Or}
use Rattle.hp_boolx.specs.Machine.{Machine, IsMachine, game}
use Rattle.hp_boolx.specs.Solved.{IsWin, IsLose, ranks_of, win_step}
use Rattle.hp_boolx.proofs.GameLaws.{Stops}
use Rattle.hp_boolx.proofs.GateLaws.{game-form}
use Rattle.hp_boolx.proofs.SolvedLaws.{win-at, lose-at}

-- the duty fails where the register and the early value hold; the next register is the control or the late value
abbrev pub machine : ℕ → Machine
machine hyp = record {
  name = [];
  registers = 1;
  early = 1;
  control = 1;
  late = 1;
  widths = 1 ∷ [];
  prefer = true ∷ [];
  gates = Var 0 ∷ Var 1 ∷ Var 2 ∷ Var 3 ∷ And 0 1 ∷ Not 4 ∷ Const true ∷ Or 2 3 ∷ Not 3 ∷ [];
  init = false ∷ [];
  next = 7 ∷ [];
  valid = 6;
  hyp = hyp;
  duty = 5;
}

-- the late value is false by hypothesis
abbrev pub calm : Game
calm = game (machine 8)

-- it may be true
abbrev pub wild : Game
wild = game (machine 6)

one_round : forced calm 1 (true ∷ []) ≡ true
one_round = refl

safe_at_first : forced calm 2 (false ∷ []) ≡ false
safe_at_first = refl

chosen : preferred (true ∷ []) (permitted calm (forced calm 1) (false ∷ []) (true ∷ [])) ≡ false ∷ []
chosen = refl

none_permitted : preferred (true ∷ []) (permitted calm (forced calm 1) (true ∷ []) (true ∷ [])) ≡ true ∷ []
none_permitted = refl

certified : win_step calm (λ r. forced wild 0 r) (λ r u. true ∷ []) ≡ true
certified = refl

not_yet : forced wild 1 (false ∷ []) ≡ false
not_yet = refl

lost_at_two : forced wild 2 (false ∷ []) ≡ true
lost_at_two = refl

is_machine : (hyp : ℕ) → hyp ≤ 8 → IsMachine (machine hyp)
is_machine hyp l = record {
  few = omega arith;
  gates = (omega arith, (omega arith, (omega arith, (omega arith, ((omega arith, omega arith), (omega arith, (omega arith, ((omega arith, omega arith), (omega arith, omega arith)))))))));
  init = refl;
  next = refl;
  next_gates = All-cons (λ k. k < 9) 7 [] (omega arith) (All-nil (λ k. k < 9));
  valid = omega arith;
  hyp = omega (arith, l);
  duty = omega arith;
  prefer = refl;
  widths = refl;
}

stops_at_one : Stops calm (game-form (machine 8) (is_machine 8 (omega arith))) 1
stops_at_one [] e = absurd (omega (arith, e))
stops_at_one (true ∷ []) e = refl
stops_at_one (false ∷ []) e = refl
stops_at_one (x ∷ y ∷ r) e = absurd (omega (arith, e))

pub calm_wins : (inv : Set) × IsWin calm inv
calm_wins = (_, win-at calm (game-form (machine 8) (is_machine 8 (omega arith))) 1 stops_at_one refl)

pub wild_loses : IsLose wild (ranks_of wild 2)
wild_loses = lose-at wild (game-form (machine 6) (is_machine 6 (omega arith))) 1 refl refl
