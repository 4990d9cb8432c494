-- The laws of the game.
use Rattle.std.specs.Prelude.{ℕ, suc, ◌^◌, ◌≤◌, ◌≡◌, ◌↔◌, IsTrue, IsFalse, not, List, length}
use Rattle.hp_boolx.specs.Search.{Bits, Set, Agree}
use Rattle.hp_boolx.specs.Game.{Game, IsForm, IsState, ValidEarly, Forced, Safe, Permitted, forced, permitted, preferred}
use Rattle.hp_boolx.specs.Solved.{IsWin, IsLose, ranks_of, IsChoice, IsWinCertificate, IsLoseCertificate}
use Rattle.hp_boolx.specs.Machine.{Machine, IsMachine, game}

-- a machine's game has form
abbrev pub FormLaw : Type 0
FormLaw = (m : Machine) → IsMachine m → IsForm (game m)

-- the computed sets are those of the game
abbrev pub ForcedLaw : Type 0
ForcedLaw = (g : Game) → IsForm g → (n : ℕ) (r : Bits) → IsState g r → IsTrue (forced g n r) ↔ Forced g n r

-- they stop after at most as many rounds as there are states, and stay
abbrev pub StopLaw : Type 0
StopLaw = (g : Game) → IsForm g → (m : ℕ) × (m ≤ 2 ^ g.registers) × Agree g.registers (forced g m) (forced g (suc m))

-- where they stop without the initial state, the rest is the greatest set that some choice always keeps
abbrev pub WinLaw : Type 0
WinLaw = (g : Game) → IsForm g → (n : ℕ) → Agree g.registers (forced g n) (forced g (suc n)) → IsFalse (forced g n g.init) → IsWin g (λ r. not (forced g n r))

-- the first round that has the initial state ends the ranks
abbrev pub LoseLaw : Type 0
LoseLaw = (g : Game) → IsForm g → (n : ℕ) → IsFalse (forced g n g.init) → IsTrue (forced g (suc n) g.init) → IsLose g (ranks_of g (suc n))

-- from a safe state, for all valid early values, some valid choice is permitted
abbrev pub PermittedLaw : Type 0
PermittedLaw = (g : Game) → IsForm g → (r u : Bits) → IsState g r → Safe g r → ValidEarly g r u → (c : Bits) × Permitted g r u c

-- permitted choices are decided by the set of a win
abbrev pub PermissiveLaw : Type 0
PermissiveLaw = (g : Game) → IsForm g → (inv : Set) → IsWin g inv → (r u c : Bits) → length c ≡ g.control → IsTrue (permitted g (λ s. not (inv s)) r u c) ↔ Permitted g r u c

-- the bits found one by one are the choice, and there is no other
abbrev pub ChoiceLaw : Type 0
ChoiceLaw = (g : Game) → IsForm g → (inv : Set) → IsWin g inv → (r u : Bits) → IsChoice g r u (preferred g.prefer (permitted g (λ s. not (inv s)) r u))

abbrev pub OneChoiceLaw : Type 0
OneChoiceLaw = (g : Game) → IsForm g → (r u c d : Bits) → IsChoice g r u c → IsChoice g r u d → c ≡ d

-- a certificate is a proof
abbrev pub WinProofLaw : Type 0
WinProofLaw = (g : Game) → IsForm g → (inv : Set) (funs : Bits → Bits → Bits) → IsWinCertificate g inv funs → Safe g g.init

abbrev pub LoseProofLaw : Type 0
LoseProofLaw = (g : Game) → IsForm g → (ranks : List Set) → IsLoseCertificate g ranks → Forced g (length ranks) g.init

-- what is solved has its certificate
abbrev pub WinCertificateLaw : Type 0
WinCertificateLaw = (g : Game) → IsForm g → (inv : Set) (funs : Bits → Bits → Bits) → IsWin g inv → ((r u : Bits) → IsState g r → ValidEarly g r u → IsChoice g r u (funs r u)) → IsWinCertificate g inv funs

abbrev pub LoseCertificateLaw : Type 0
LoseCertificateLaw = (g : Game) → IsForm g → (ranks : List Set) → IsLose g ranks → IsLoseCertificate g ranks
