-- Gates as diagrams, one by one; the variables of a game as those of its valuations.
use Rattle.std.proofs.Common.{◌≡◌, ℕ, zero, suc, ◌+◌, ◌<◌, not, ◌&&◌, ◌||◌, List, [], ◌∷◌, ◌++◌, length, take, get_or, if◌then◌else◌, false, slice_index_or, refl, sym, ap, ap₂, subst, ◌∙◌, arith, zero-add}
use Rattle.hp_diagram.specs.declared.reference.Ref.{Ref}
use Rattle.hp_diagram.specs.Diagrams.{Diagrams, path_end, function, Has, Means, IsReduced, Keeps, valuation, zero_ref}
use Rattle.hp_diagram.proofs.Choices.{Keeps-refl, Keeps-trans}
use Rattle.std.proofs.lemmas.List.Elements.{All-nil, All-cons, All-head, All-tail}
use Rattle.std.proofs.lemmas.List.{take_more}
use Rattle.hp_boolx.specs.declared.gate.Gate.TheVariants.{Const, Var, Not, And, Or, Xor, Ite}
use Rattle.hp_synth.specs.Building.{gate_function, at_ref, HasEach, functions_at, AreGates}
use Rattle.hp_boolx.specs.Search.{Bits}
use Rattle.hp_boolx.specs.Game.{Game}
use Rattle.hp_boolx.specs.declared.gate.Gate.{Gate}
use Rattle.hp_boolx.specs.Machine.{GateFits, AreFit, gate_value, bit}
use Rattle.hp_boolx.proofs.GateLaws.{values-push, fit-at}
use Rattle.hp_synth.specs.Valued.{Valued, read, all, through, total, states}
use Rattle.hp_synth.proofs.Ranges.{read-parts, read-at, read-list}

pub functions-push : (t : Diagrams) (rs : List Ref) (r : Ref) (v : Valued) → functions_at t (rs ++ r ∷ []) v ≡ functions_at t rs v ++ function t r v ∷ []
functions-push t [] r v = refl
functions-push t (s ∷ rs) r v = ap (λ q. function t s v ∷ q) (functions-push t rs r v)

pub functions-keep : (t u : Diagrams) (rs : List Ref) → Keeps t u → HasEach t rs → (v : Valued) → functions_at u rs v ≡ functions_at t rs v
functions-keep t u [] k h v = refl
functions-keep t u (r ∷ rs) k h v = ap₂ (λ a q. a ∷ q) (k.functions r (All-head (Has t) r rs h) v) (functions-keep t u rs k (All-tail (Has t) r rs h) v)

pub has-keep : (t u : Diagrams) (rs : List Ref) → Keeps t u → HasEach t rs → HasEach u rs
has-keep t u [] k h = All-nil (Has u)
has-keep t u (r ∷ rs) k h = All-cons (Has u) r rs (k.has r (All-head (Has t) r rs h)) (has-keep t u rs k (All-tail (Has t) r rs h))

pub has-push : (t : Diagrams) (rs : List Ref) (r : Ref) → HasEach t rs → Has t r → HasEach t (rs ++ r ∷ [])
has-push t [] r h k = All-cons (Has t) r [] k (All-nil (Has t))
has-push t (s ∷ rs) r h k = All-cons (Has t) s (rs ++ r ∷ []) (All-head (Has t) s rs h) (has-push t rs r (All-tail (Has t) s rs h) k)

-- one more gate
pub gates-step : (g : Game) (place : ℕ → ℕ) (t u : Diagrams) (gs : List Gate) (gate : Gate) (rs : List Ref) (r : Ref) → Keeps t u → AreGates g place t gs rs → Means u (λ v. gate_value (all g (through place v)) (functions_at t rs v) gate) r → AreGates g place u (gs ++ gate ∷ []) (rs ++ r ∷ [])
gates-step g place t u gs gate rs r k a m = (
  has-push u rs r (has-keep t u rs k a.0) m.has,
  λ v.
      functions-push u rs r v
      ∙ ap₂ (λ q b. q ++ b ∷ []) (functions-keep t u rs k a.0 v ∙ a.1 v) (m.value v ∙ ap (λ q. gate_value (all g (through place v)) q gate) (a.1 v))
      ∙ sym (values-push (all g (through place v)) [] gs gate),
)

-- ---- variables

pub all-read : (g : Game) (v : Valued) → all g v ≡ read 0 (total g) v
all-read g v =
    let a = g.registers in
    let b = g.early in
    let c = g.control in
    let d = g.late in
    sym (read-parts 0 a (b + (c + d)) (total g) v (omega arith)
    ∙ ap (λ q. read 0 a v ++ q) (ap (λ n. read n (b + (c + d)) v) (omega arith)
    ∙ read-parts a b (c + d) (b + (c + d)) v refl
    ∙ ap (λ q. read a b v ++ q) (read-parts (a + b) c d (c + d) v refl)))

-- the gate of a variable
pub variable-at : (g : Game) (v : Valued) (x : ℕ) → x < total g → bit (all g v) x ≡ v x
variable-at g v x l = ap (λ q. bit q x) (all-read g v) ∙ read-at 0 (total g) v x l ∙ ap v (omega arith)

-- a list as a valuation
pub states-valuation : (g : Game) (r rest : Bits) → length r ≡ g.registers → states g (valuation (r ++ rest)) ≡ r
states-valuation g r rest e = ap (λ n. read 0 n (valuation (r ++ rest))) (sym e) ∙ read-list 0 (valuation (r ++ rest)) r (λ k l. ap (valuation (r ++ rest)) (omega arith) ∙ in_front r rest k l)
  where
    in_front : (r rest : Bits) (k : ℕ) → k < length r → slice_index_or (r ++ rest) k false ≡ slice_index_or r k false
    in_front [] rest k l = absurd (omega (arith, l))
    in_front (b ∷ r) rest zero l = refl
    in_front (b ∷ r) rest (suc k) l = in_front r rest k (omega (arith, l))

-- ---- the pass over the gates

zero-false : (t : Diagrams) (v : Valued) → function t zero_ref v ≡ false
unfolding path_end
zero-false t v = refl

at-bit : (t : Diagrams) (rs : List Ref) (v : Valued) (i : ℕ) → at_ref t rs v i ≡ bit (functions_at t rs v) i
at-bit t [] v i = zero-false t v
at-bit t (r ∷ rs) v zero = refl
at-bit t (r ∷ rs) v (suc i) = at-bit t rs v i

gate-same : (g : Game) (place : ℕ → ℕ) (t : Diagrams) (rs : List Ref) (v : Valued) (before : ℕ) (gate : Gate) → GateFits (total g) before gate → gate_function place t rs v gate ≡ gate_value (all g (through place v)) (functions_at t rs v) gate
gate-same g place t rs v n (Const b) f = refl
gate-same g place t rs v n (Var x) f = sym (variable-at g (through place v) x f)
gate-same g place t rs v n (Not i) f = ap (λ a. not a) (at-bit t rs v i)
gate-same g place t rs v n (And i j) f = ap₂ (λ a b. a && b) (at-bit t rs v i) (at-bit t rs v j)
gate-same g place t rs v n (Or i j) f = ap₂ (λ a b. a || b) (at-bit t rs v i) (at-bit t rs v j)
gate-same g place t rs v n (Xor i j) f = ap₂ (λ a b. if a then not b else b) (at-bit t rs v i) (at-bit t rs v j)
gate-same g place t rs v n (Ite i j k) f = λ z. if at-bit t rs v i z then at-bit t rs v j z else at-bit t rs v k z

-- so many gates have their diagrams, whatever the game
pub record SoFar (place : ℕ → ℕ) (old t : Diagrams) (gates : List Gate) (refs : List Ref) (n : ℕ) : Type 0 where
  pub keeps : Keeps old t
  pub len : length refs ≡ n
  pub has : HasEach t refs
  pub are : (g : Game) → total g ≡ old.vars → AreGates g place t (take n gates) refs

pub so-far-none : (place : ℕ → ℕ) (t : Diagrams) (gates : List Gate) (refs : List Ref) → IsReduced t → refs ≡ [] → SoFar place t t gates refs 0
so-far-none place t gates refs reduced e =
    let none : HasEach t refs = subst (λ (l : List Ref). HasEach t l) (sym e) (All-nil (Has t)) in
    record { keeps = Keeps-refl t reduced; len = ap (λ (l : List Ref). length l) e; has = none; are = λ g same. subst (λ (l : List Ref). AreGates g place t [] l) (sym e) (All-nil (Has t), λ v. refl) }

push-len : (xs : List Ref) (x : Ref) → length (xs ++ x ∷ []) ≡ suc (length xs)
push-len [] x = refl
push-len (y ∷ xs) x = ap suc (push-len xs x)

pub so-far-more : (place : ℕ → ℕ) (old t u : Diagrams) (gates : List Gate) (refs : List Ref) (n : ℕ) (gate d : Gate) → n < length gates → gate ≡ get_or gates n d → AreFit old.vars 0 gates → SoFar place old t gates refs n → Keeps t u → (r : Ref) →
    Means u (λ v. gate_function place t refs v gate) r → (items : List Ref) → items ≡ refs ++ r ∷ [] → SoFar place old u gates items (n + 1)
so-far-more place old t u gates refs n gate d l is fits so k r m items e =
    let found : GateFits old.vars n gate = subst (λ (e : Gate). GateFits old.vars n e) (sym is) (fit-at old.vars 0 gates fits n n d (sym (zero-add n)) l) in
    record {
      keeps = Keeps-trans old t u so.keeps k;
      len = ap (λ (l : List Ref). length l) e ∙ push-len refs r ∙ ap suc so.len ∙ omega arith;
      has = subst (λ (l : List Ref). HasEach u l) (sym e) (has-push u refs r (has-keep t u refs k so.has) m.has);
      are = λ g same.
          let fit : GateFits (total g) n gate = subst (λ vars. GateFits vars n gate) (sym same) found in
          let m' : Means u (λ v. gate_value (all g (through place v)) (functions_at t refs v) gate) r = record { has = m.has; value = λ v. m.value v ∙ gate-same g place t refs v n gate fit } in
          let more : take (n + 1) gates ≡ take n gates ++ gate ∷ [] = take_more gates n d l ∙ ap (λ (e : Gate). take n gates ++ e ∷ []) (sym is) in
          subst (λ (l : List Ref). AreGates g place u (take (n + 1) gates) l) (sym e)
          (subst (λ (l : List Gate). AreGates g place u l (refs ++ r ∷ [])) (sym more) (gates-step g place t u (take n gates) gate refs r k (so.are g same) m'));
    }

pub fits-next : (place : ℕ → ℕ) (old t : Diagrams) (gates : List Gate) (refs : List Ref) (n : ℕ) (gate d : Gate) → n < length gates → gate ≡ get_or gates n d → AreFit old.vars 0 gates → SoFar place old t gates refs n → GateFits t.vars (length refs) gate
fits-next place old t gates refs n gate d l is fits so =
    subst (λ vars. GateFits vars (length refs) gate) (sym so.keeps.vars) (subst (λ (e : Gate). GateFits old.vars (length refs) e) (sym is) (fit-at old.vars 0 gates fits n (length refs) d (so.len ∙ sym (zero-add n)) l))
