-- The order of bits: of words one behind the other, and of numbers.
use Rattle.std.proofs.Common.{◌≡◌, ◌≤◌, ◌<◌, inl, inr, ℕ, zero, suc, ◌+◌, ◌-◌, Bool, true, false, if◌then◌else◌, [], ◌∷◌, ◌++◌, length, replicate, refl, sym, ap, subst, ◌∙◌, arith}
use Rattle.std.specs.Prelude.{nat_le}
use Rattle.hp_boolx.specs.Search.{Bits}
use Rattle.hp_boolx.specs.Game.{Before}
use Rattle.hp_circuit.proofs.NumberLaws.{tests, le_true, le_false}
use Rattle.hp_meaning.specs.Contract.Codes.{pow2, to_bits}

-- ---- words one behind the other

other_head : (x y : Bool) (c d : Bits) → x ∷ c ≡ y ∷ d → x ≡ y
other_head x y c d e = cc

other_tail : (x y : Bool) (c d : Bits) → x ∷ c ≡ y ∷ d → c ≡ d
other_tail x y c d e = cc

both_same : (x y : Bool) (c d : Bits) → x ≡ y → c ≡ d → x ∷ c ≡ y ∷ d
both_same x y c d e f = cc

-- where the first words are the same, the others tell
pub behind_same : (b c : Bits) (bs cs ds : Bits) → length c ≡ length b → Before bs cs ds → Before (b ++ bs) (c ++ cs) (c ++ ds)
behind_same [] [] bs cs ds e h = h
behind_same [] (x ∷ c) bs cs ds e h = absurd (omega (arith, e))
behind_same (b ∷ bits) [] bs cs ds e h = absurd (omega (arith, e))
behind_same (b ∷ bits) (x ∷ c) bs cs ds e h = inl (refl, behind_same bits c bs cs ds (omega (arith, e)) h)

-- where they differ, these do
pub behind_other : (b c d : Bits) (bs cs ds : Bits) → Before b c d → (c ≡ d → ⊥) → Before (b ++ bs) (c ++ cs) (d ++ ds)
behind_other [] [] [] bs cs ds h other = absurd (other refl)
behind_other [] [] (y ∷ d) bs cs ds h other = absurd h
behind_other [] (x ∷ c) d bs cs ds h other = absurd h
behind_other (b ∷ bits) [] [] bs cs ds h other = absurd (other refl)
behind_other (b ∷ bits) [] (y ∷ d) bs cs ds h other = absurd h
behind_other (b ∷ bits) (x ∷ c) [] bs cs ds h other = absurd h
behind_other (b ∷ bits) (x ∷ c) (y ∷ d) bs cs ds (inl k) other = inl (k.0, behind_other bits c d bs cs ds k.1 (λ e. other (both_same x y c d k.0 e)))
behind_other (b ∷ bits) (x ∷ c) (y ∷ d) bs cs ds (inr k) other = inr k

-- what two words tell tells each
pub fronts : (b c d : Bits) (bs cs ds : Bits) → length c ≡ length b → length d ≡ length b → Before (b ++ bs) (c ++ cs) (d ++ ds) → Before b c d × (c ≡ d → Before bs cs ds)
fronts [] [] [] bs cs ds e f h = (tt, λ same. h)
fronts [] [] (y ∷ d) bs cs ds e f h = absurd (omega (arith, f))
fronts [] (x ∷ c) d bs cs ds e f h = absurd (omega (arith, e))
fronts (b ∷ bits) [] d bs cs ds e f h = absurd (omega (arith, e))
fronts (b ∷ bits) (x ∷ c) [] bs cs ds e f h = absurd (omega (arith, f))
fronts (b ∷ bits) (x ∷ c) (y ∷ d) bs cs ds e f (inl k) =
    let r = fronts bits c d bs cs ds (omega (arith, e)) (omega (arith, f)) k.1 in
    (inl (k.0, r.0), λ same. r.1 (other_tail x y c d same))
fronts (b ∷ bits) (x ∷ c) (y ∷ d) bs cs ds e f (inr k) = (inr k, λ same. absurd (k.0 (other_head x y c d same)))

-- ---- numbers: where false is preferred the less is before

abbrev pub low : ℕ → Bits
low w = replicate w false

-- a number in one bit more, where it is told whether this bit is set
abbrev rest : ℕ → Bool → ℕ → ℕ
rest w b k = if b then k - pow2 w else k

less_more : (w : ℕ) (b d : Bool) (i j : ℕ) → nat_le (pow2 w) i ≡ b → nat_le (pow2 w) j ≡ d → i ≤ j → j < pow2 w + pow2 w → (rest w b i ≤ rest w d j → rest w d j < pow2 w → Before (low w) (to_bits w (rest w b i)) (to_bits w (rest w d j)))
    → Before (false ∷ low w) (b ∷ to_bits w (rest w b i)) (d ∷ to_bits w (rest w d j))
less_more w true true i j e f l m more = let p = le_true (pow2 w) i e in inl (refl, more (omega (arith, l)) (omega (arith, m, l, p)))
less_more w true false i j e f l m more = let p = le_true (pow2 w) i e in let q = le_false (pow2 w) j f in absurd (omega (arith, l, p, q))
less_more w false true i j e f l m more = inr ((λ same. absurd cc), refl)
less_more w false false i j e f l m more = let q = le_false (pow2 w) j f in inl (refl, more l q)

pub less_before : (w i j : ℕ) → i ≤ j → j < pow2 w → Before (low w) (to_bits w i) (to_bits w j)
less_before zero i j l m = tt
less_before (suc w) i j l m =
    less_more w (nat_le (pow2 w) i) (nat_le (pow2 w) j) i j refl refl l m
    (λ a b. less_before w (rest w (nat_le (pow2 w) i) i) (rest w (nat_le (pow2 w) j) j) a b)

before_more : (w : ℕ) (b d : Bool) (i j : ℕ) → nat_le (pow2 w) i ≡ b → nat_le (pow2 w) j ≡ d → i < pow2 w + pow2 w → j < pow2 w + pow2 w
    → (rest w b i < pow2 w → rest w d j < pow2 w → Before (low w) (to_bits w (rest w b i)) (to_bits w (rest w d j)) → rest w b i ≤ rest w d j)
    → Before (false ∷ low w) (b ∷ to_bits w (rest w b i)) (d ∷ to_bits w (rest w d j)) → i ≤ j
before_more w true true i j e f l m more (inl h) =
    let p = le_true (pow2 w) i e in
    let q = le_true (pow2 w) j f in
    let r = more (omega (arith, l, p)) (omega (arith, m, q)) h.1 in
    omega (arith, p, q, r)
before_more w true true i j e f l m more (inr h) = absurd (h.0 refl)
before_more w true false i j e f l m more (inl h) = absurd (let no : true ≡ false = h.0 in cc)
before_more w true false i j e f l m more (inr h) = absurd (let no : true ≡ false = h.1 in cc)
before_more w false true i j e f l m more h = let p = le_false (pow2 w) i e in let q = le_true (pow2 w) j f in omega (arith, p, q)
before_more w false false i j e f l m more (inl h) =
    let p = le_false (pow2 w) i e in
    let q = le_false (pow2 w) j f in
    more p q h.1
before_more w false false i j e f l m more (inr h) = absurd (h.0 refl)

pub before_less : (w i j : ℕ) → i < pow2 w → j < pow2 w → Before (low w) (to_bits w i) (to_bits w j) → i ≤ j
before_less zero i j l m h = omega (arith, l, m)
before_less (suc w) i j l m h =
    before_more w (nat_le (pow2 w) i) (nat_le (pow2 w) j) i j refl refl l m
    (λ a b k. before_less w (rest w (nat_le (pow2 w) i) i) (rest w (nat_le (pow2 w) j) j) a b k) h

-- so numbers with the same bits are the same
pub same_number : (w i j : ℕ) → i < pow2 w → j < pow2 w → to_bits w i ≡ to_bits w j → i ≡ j
same_number w i j l m e =
    let a = before_less w i j l m (subst (Before (low w) (to_bits w i)) e (less_before w i i (omega arith) l)) in
    let b = before_less w j i m l (subst (Before (low w) (to_bits w j)) (sym e) (less_before w j j (omega arith) m)) in
    omega (arith, a, b)

some_power : (w : ℕ) → 0 < pow2 w
some_power zero = omega arith
some_power (suc w) = let l = some_power w in omega (arith, l)

-- zero has no bit set
pub zero_bits : (w : ℕ) → to_bits w 0 ≡ low w
zero_bits zero = refl
zero_bits (suc w) =
    tests (nat_le (pow2 w) 0) (λ t. absurd (let l = le_true (pow2 w) 0 t in let p = some_power w in omega (arith, l, p)))
    (λ t. ap (λ b. b ∷ to_bits w (rest w b 0)) t ∙ ap (λ bs. false ∷ bs) (zero_bits w))
