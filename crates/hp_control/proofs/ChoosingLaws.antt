-- Control bits that are chosen one by one are the preferred choice.
use Rattle.std.proofs.Common.{◌≡◌, ℕ, zero, suc, ◌+◌, ◌-◌, ◌<◌, ◌≤◌, Bool, false, List, [], ◌∷◌, ◌++◌, drop, length, slice_index_or, refl, sym, ap, ap₂, subst, ◌∙◌, arith}
use Rattle.std.proofs.lemmas.List.{append_assoc, append-nil}
use Rattle.std.proofs.lemmas.List.Elements.{All-nil}
use Rattle.hp_diagram.specs.declared.reference.Ref.{Ref}
use Rattle.hp_diagram.specs.Diagrams.{Diagrams, Has, Means, Keeps}
use Rattle.hp_diagram.proofs.Choices.{Keeps-trans, Means-keeps}
use Rattle.hp_boolx.specs.Game.{Game, preferred}
use Rattle.hp_boolx.specs.Search.{Bits, Set}
use Rattle.hp_synth.specs.Building.{HasEach, functions_at}
use Rattle.hp_synth.specs.Valued.{Valued, through, over, states, earlies, control_from, late_from, OfEarly}
use Rattle.hp_synth.specs.declared.layout.Layout.{Layout}
use Rattle.hp_synth.specs.Layouts.{place, IsLayout}
use Rattle.hp_synth.proofs.Gates.{functions-push, functions-keep, has-keep, has-push}
use Rattle.hp_control.specs.Controlling.{AreLeft, bit_of, put_in}
use Rattle.hp_control.specs.Choosing.{Chosen}
use Rattle.hp_control.proofs.ControlBits.{left-behind}

drop-at : (bs : Bits) (i : ℕ) → i < length bs → drop i bs ≡ slice_index_or bs i false ∷ drop (suc i) bs
drop-at [] i l = absurd (omega (arith, l))
drop-at (b ∷ bs) zero l = refl
drop-at (b ∷ bs) (suc i) l = drop-at bs i (omega (arith, l))

drop-len : (bs : Bits) (i : ℕ) → i ≤ length bs → length (drop i bs) ≡ length bs - i
drop-len bs zero l = omega arith
drop-len [] (suc i) l = absurd (omega (arith, l))
drop-len (b ∷ bs) (suc i) l = let rest = drop-len bs i (omega (arith, l)) in omega (arith, rest)

drop-all : (bs : Bits) (i : ℕ) → length bs ≤ i → drop i bs ≡ []
drop-all [] zero l = refl
drop-all [] (suc i) l = refl
drop-all (b ∷ bs) zero l = absurd (omega (arith, l))
drop-all (b ∷ bs) (suc i) l = drop-all bs i (omega (arith, l))

-- none is chosen yet
pub chosen-none : (g : Game) (place : ℕ → ℕ) (q : Bits → Bits → Set) (from : ℕ) (prefer : Bits) (t : Diagrams) (left : Ref) (funs : List Ref) → funs ≡ [] → AreLeft g place t from (length prefer) q left → Chosen g place q from prefer t 0 left funs
chosen-none g place q from prefer t left funs e h = record {
  rest = q;
  is_left = subst (λ a. AreLeft g place t a (length prefer - 0) q left) (let n : from ≡ from + 0 = omega arith in n) (subst (λ n. AreLeft g place t from n q left) (let n : length prefer ≡ length prefer - 0 = omega arith in n) h);
  has = subst (λ (rs : List Ref). HasEach t rs) (sym e) (All-nil (Has t));
  together = λ v. ap (λ (rs : List Ref). functions_at t rs v ++ preferred prefer (q (states g (through place v)) (earlies g (through place v)))) e;
}

-- one bit more
module _ (vars : ℕ) (l : Layout) (placed : IsLayout vars l) where
  pub chosen-more : (g : Game) (q : Bits → Bits → Set) (from k : ℕ) (prefer : Bits) (t t1 t2 : Diagrams) (i : ℕ) (left fun s : Ref) (funs items : List Ref) →
      i < length prefer → k ≡ from + i → from ≡ control_from g → length prefer ≡ g.control → Chosen g (place l) q from prefer t i left funs →
      Keeps t t1 → ((n : ℕ) (p : Bits → Bits → Set) → late_from g ≡ suc k + n → AreLeft g (place l) t k (suc n) p left → Means t1 (over (place l) (OfEarly g (λ r u. bit_of (slice_index_or prefer i false) n (p r u)))) fun) →
      Keeps t1 t2 → Means t2 (put_in t1 left (place l k) fun) s → items ≡ funs ++ fun ∷ [] → Chosen g (place l) q from prefer t2 (i + 1) s items
  chosen-more g q from k prefer t t1 t2 i left fun s funs items lt at is_from count h k1 made k2 put e =
      let b = slice_index_or prefer i false in
      let n = length prefer - (i + 1) in
      let p = h.rest in
      let there : AreLeft g (place l) t k (suc n) p left =
      subst (λ a. AreLeft g (place l) t a (suc n) p left) (sym at) (subst (λ m. AreLeft g (place l) t (from + i) m p left) (let m : length prefer - i ≡ suc n = omega (arith, lt) in m) h.is_left) in
      let to : late_from g ≡ suc k + n = omega (arith, lt, at, is_from, count) in
      let bit : Means t1 (over (place l) (OfEarly g (λ r u. bit_of b n (p r u)))) fun = made n p to there in
      let behind : AreLeft g (place l) t2 (suc k) n (λ r u c. p r u (bit_of b n (p r u) ∷ c)) s =
      left-behind vars l placed g k n (omega (arith, at, is_from)) to p t1 t2 left fun s (λ r u. bit_of b n (p r u)) (Means-keeps t t1 k1 _ left there) bit put in
      let k12 = Keeps-trans t t1 t2 k1 k2 in
      let has : HasEach t2 (funs ++ fun ∷ []) = has-push t2 funs fun (has-keep t t2 funs k12 h.has) (k2.has fun bit.has) in
      record {
        rest = λ r u c. p r u (bit_of b n (p r u) ∷ c);
        is_left = subst (λ a. AreLeft g (place l) t2 a n (λ r u c. p r u (bit_of b n (p r u) ∷ c)) s) (let a : suc k ≡ from + (i + 1) = omega (arith, at) in a) behind;
        has = subst (λ (rs : List Ref). HasEach t2 rs) (sym e) has;
        together = λ v.
            let r = states g (through (place l) v) in
            let u = earlies g (through (place l) v) in
            let rest_len : length (drop (i + 1) prefer) ≡ n = drop-len prefer (i + 1) (omega (arith, lt)) in
            let value : (functions_at t2 items v) ≡ functions_at t funs v ++ bit_of b n (p r u) ∷ [] =
            ap (λ (rs : List Ref). functions_at t2 rs v) e ∙ functions-push t2 funs fun v
            ∙ ap₂ (λ (front : Bits) (x : Bool). front ++ x ∷ []) (functions-keep t t2 funs k12 h.has v) (k2.functions fun bit.has v ∙ bit.value v) in
            let first : preferred (drop i prefer) (p r u) ≡ bit_of b n (p r u) ∷ preferred (drop (i + 1) prefer) (λ c. p r u (bit_of b n (p r u) ∷ c)) =
            ap (λ (bs : Bits). preferred bs (p r u)) (drop-at prefer i lt ∙ ap (λ j. b ∷ drop j prefer) (let j : suc i ≡ i + 1 = omega arith in j))
            ∙ ap (λ m. bit_of b m (p r u) ∷ preferred (drop (i + 1) prefer) (λ c. p r u (bit_of b m (p r u) ∷ c))) rest_len in
            ap (λ (front : Bits). front ++ preferred (drop (i + 1) prefer) (λ c. p r u (bit_of b n (p r u) ∷ c))) value
            ∙ append_assoc (functions_at t funs v) (bit_of b n (p r u) ∷ []) (preferred (drop (i + 1) prefer) (λ c. p r u (bit_of b n (p r u) ∷ c)))
            ∙ ap (λ (rest : Bits). functions_at t funs v ++ rest) (sym first)
            ∙ h.together v;
      }

-- all are chosen
pub chosen-all : (g : Game) (place : ℕ → ℕ) (q : Bits → Bits → Set) (from : ℕ) (prefer : Bits) (t : Diagrams) (i : ℕ) (left : Ref) (funs : List Ref) → length prefer ≤ i → Chosen g place q from prefer t i left funs → (v : Valued) →
    functions_at t funs v ≡ preferred prefer (q (states g (through place v)) (earlies g (through place v)))
chosen-all g place q from prefer t i left funs l h v =
    sym (ap (λ (bs : Bits). functions_at t funs v ++ preferred bs (h.rest (states g (through place v)) (earlies g (through place v)))) (drop-all prefer i l) ∙ append-nil (functions_at t funs v)) ∙ h.together v
