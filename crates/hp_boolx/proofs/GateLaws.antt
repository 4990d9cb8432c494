-- The values of gates, one by one; the game of a machine has form.
use Rattle.std.proofs.Common.{◌≡◌, ℕ, zero, suc, ◌+◌, ◌<◌, Bool, List, [], ◌∷◌, ◌++◌, length, map, take, get_or, set, refl, sym, ap, ap₂, subst, ◌∙◌, arith, zero-add}
use Rattle.std.proofs.lemmas.List.{take_more, take_more_set}
use Rattle.hp_boolx.specs.declared.gate.Gate.{Gate}
use Rattle.hp_boolx.specs.Search.{Bits}
use Rattle.hp_boolx.specs.Game.{IsForm}
use Rattle.hp_boolx.specs.Machine.{Machine, GateFits, AreFit, gate_value, values, game, IsMachine}

-- one gate more
pub values-push : (vars done : Bits) (gs : List Gate) (g : Gate) → values vars done (gs ++ g ∷ []) ≡ values vars done gs ++ gate_value vars (values vars done gs) g ∷ []
values-push vars done [] g = refl
values-push vars done (h ∷ gs) g = values-push vars (done ++ gate_value vars done h ∷ []) gs g

-- each of some gates fits
pub fit-at : (vars before : ℕ) (gs : List Gate) → AreFit vars before gs → (k n : ℕ) (d : Gate) → n ≡ before + k → k < length gs → GateFits vars n (get_or gs k d)
fit-at vars before [] f k n d e l = absurd (omega (arith, l))
fit-at vars before (g ∷ gs) f zero n d e l = subst (λ m. GateFits vars m g) (sym (e ∙ omega arith)) f.0
fit-at vars before (g ∷ gs) f (suc k) n d e l = fit-at vars (suc before) gs f.1 k n d (e ∙ omega arith) (omega (arith, l))

map-len : {A B : Type 0} (f : A → B) (xs : List A) → length (map f xs) ≡ length xs
map-len f [] = refl
map-len f (x ∷ xs) = ap suc (map-len f xs)

-- a machine's game has form
pub game-form : (m : Machine) → IsMachine m → IsForm (game m)
game-form m is = record { prefer = is.prefer; init = is.init; next = λ v. map-len _ m.next ∙ is.next }

-- the value of the next gate is written behind those before it
pub values-next : (vars into : Bits) (gs : List Gate) (i : ℕ) (gate : Gate) (b : Bool) → i < length gs → length into ≡ length gs → gate ≡ get_or gs i gate →
    take i into ≡ values vars [] (take i gs) → b ≡ gate_value vars (take i into) gate → take (i + 1) (set into i b) ≡ values vars [] (take (i + 1) gs)
values-next vars into gs i gate b l e is before value =
    take_more_set into i b (omega (arith, l, e))
    ∙ ap₂ (λ (done : Bits) (x : Bool). done ++ x ∷ []) before (value ∙ ap (λ (done : Bits). gate_value vars done gate) before)
    ∙ sym (values-push vars [] (take i gs) gate)
    ∙ ap (values vars []) (sym (take_more gs i gate l ∙ ap (λ (g : Gate). take i gs ++ g ∷ []) (sym is)))

pub fits-next : (vars n : ℕ) (gs : List Gate) (i : ℕ) (gate : Gate) → AreFit vars 0 gs → i < length gs → n ≡ i → gate ≡ get_or gs i gate → GateFits vars n gate
fits-next vars n gs i gate fits l e is = subst (λ (g : Gate). GateFits vars n g) (sym is) (fit-at vars 0 gs fits i n gate (e ∙ sym (zero-add i)) l)

-- one gate more that fits
pub fit-more : (vars before : ℕ) (gs : List Gate) (g : Gate) → AreFit vars before gs → GateFits vars (before + length gs) g → AreFit vars before (gs ++ g ∷ [])
fit-more vars before [] g h f = (subst (λ n. GateFits vars n g) (let n : before + 0 ≡ before = omega arith in n) f, omega arith)
fit-more vars before (e ∷ gs) g h f = (h.0, fit-more vars (suc before) gs g h.1 (subst (λ n. GateFits vars n g) (let n : before + suc (length gs) ≡ suc before + length gs = omega arith in n) f))
