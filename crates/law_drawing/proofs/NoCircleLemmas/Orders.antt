-- Marks are ordered.
use Rattle.std.proofs.Common.{ℕ, suc, max, inl, inr, arith}
use Rattle.law_drawing.specs.NoCircle.Marks.{Mark, ground, Less, Most, up}

pub most-same : (a : Mark) → Most a a
most-same a = inr (omega arith, omega arith)

pub less-up : (n : ℕ) (a : Mark) → Less a (up (suc n) a)
less-up n a = inr (omega arith, omega arith)

pub most-up : (n : ℕ) (a : Mark) → Most a (up n a)
most-up n a = inr (omega arith, omega arith)

pub less-most : (a b c : Mark) → Less a b → Most b c → Less a c
less-most a b c (inl h) (inl k) = inl (omega (arith, h, k))
less-most a b c (inl h) (inr k) = let l = k.0 in inl (omega (arith, h, l))
less-most a b c (inr h) (inl k) = let l = h.0 in inl (omega (arith, l, k))
less-most a b c (inr h) (inr k) = let l = h.0 in let l1 = h.1 in let r = k.0 in let r1 = k.1 in inr (omega (arith, l, r), omega (arith, l1, r1))

pub most-less : (a b c : Mark) → Most a b → Less b c → Less a c
most-less a b c (inl h) (inl k) = inl (omega (arith, h, k))
most-less a b c (inl h) (inr k) = let l = k.0 in inl (omega (arith, h, l))
most-less a b c (inr h) (inl k) = let l = h.0 in inl (omega (arith, l, k))
most-less a b c (inr h) (inr k) = let l = h.0 in let l1 = h.1 in let r = k.0 in let r1 = k.1 in inr (omega (arith, l, r), omega (arith, l1, r1))

pub most-most : (a b c : Mark) → Most a b → Most b c → Most a c
most-most a b c (inl h) (inl k) = inl (omega (arith, h, k))
most-most a b c (inl h) (inr k) = let l = k.0 in inl (omega (arith, h, l))
most-most a b c (inr h) (inl k) = let l = h.0 in inl (omega (arith, l, k))
most-most a b c (inr h) (inr k) = let l = h.0 in let l1 = h.1 in let r = k.0 in let r1 = k.1 in inr (omega (arith, l, r), omega (arith, l1, r1))

pub less-weak : (a b : Mark) → Less a b → Most a b
less-weak a b (inl h) = inl h
less-weak a b (inr h) = let k = h.1 in inr (h.0, omega (arith, k))

pub less-less : (a b c : Mark) → Less a b → Less b c → Less a c
less-less a b c h k = less-most a b c h (less-weak b c k)

pub less-not : (a : Mark) → Less a a → ⊥
less-not a (inl h) = absurd (omega (arith, h))
less-not a (inr h) = let k = h.1 in absurd (omega (arith, k))

pub ground-most : (a : Mark) → Most ground a
ground-most a = inr (omega arith, omega arith)

-- of two marks one that is no less than both
abbrev pub join : Mark → Mark → Mark
join a b = (max a.0 b.0, max a.1 b.1)

pub join-left : (a b : Mark) → Most a (join a b)
join-left a b = inr (omega arith, omega arith)

pub join-right : (a b : Mark) → Most b (join a b)
join-right a b = inr (omega arith, omega arith)
