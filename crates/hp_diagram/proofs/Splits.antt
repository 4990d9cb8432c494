-- A question falls into two by its first variable.
use Rattle.std.proofs.Common.{◌≡◌, ℕ, ◌<◌, ◌⊎◌, inl, inr, min, Bool, true, false, Some, sym, ap, ◌∙◌, arith, if◌then◌else◌}
use Rattle.hp_diagram.specs.declared.reference.Ref.{Ref}
use Rattle.hp_diagram.specs.declared.reference.Branch.{Branch}
use Rattle.hp_diagram.specs.declared.question.Question.{Question}
use Rattle.hp_diagram.specs.declared.question.Split.{Split}
use Rattle.hp_diagram.specs.Diagrams.{Diagrams, function, Has, branch_of, level, IsReduced, size, HasChildren, IsSplit}
use Rattle.hp_diagram.proofs.Paths.{function-node}

module _ (t : Diagrams) where
  pub HasChildren-node : IsReduced t → (r : Ref) (b : Branch) (x : ℕ) → Has t r → branch_of t r ≡ Some b → b.var ≡ x → HasChildren t r x b.low b.high
  HasChildren-node reduced r b x has h e =
      let n = reduced.nodes r.index b h in
      record {
        has_low = omega (arith, n.low);
        has_high = omega (arith, n.high);
        low_later = omega (arith, n.low_later);
        high_later = omega (arith, n.high_later);
        low_below = omega (arith, n.low);
        high_below = omega (arith, n.high);
        below = λ _. (n.low, n.high);
        value = λ v. function-node t reduced r b h v ∙ ap (λ y. if v y then function t b.high v else function t b.low v) e;
      }

  distribute : (c f f0 f1 g g0 g1 h h0 h1 : Bool) → f ≡ (if c then f1 else f0) → g ≡ (if c then g1 else g0) → h ≡ (if c then h1 else h0) → (if f then g else h) ≡ (if c then (if f1 then g1 else h1) else (if f0 then g0 else h0))
  distribute true f f0 f1 g g0 g1 h h0 h1 ef eg eh = λ j. if ef j then eg j else eh j
  distribute false f f0 f1 g g0 g1 h h0 h1 ef eg eh = λ j. if ef j then eg j else eh j

  -- the question and its two parts, from the parts of its references
  pub IsSplit-from_children : (q : Question) (s : Split) → s.var < t.vars → s.var ≡ min (min (level t q.f) (level t q.g)) (level t q.h) → HasChildren t q.f s.var s.low.f s.high.f → HasChildren t q.g s.var s.low.g s.high.g → HasChildren t q.h s.var s.low.h s.high.h → IsSplit t q s
  IsSplit-from_children q s var first f g h =
      let smaller : (size s.low < size q) × (size s.high < size q) = by (least (level t q.f) (level t q.g) (level t q.h)) in
      record {
        var = var;
        low = record { f = f.has_low; g = g.has_low; h = h.has_low; f_later = f.low_later; g_later = g.low_later; h_later = h.low_later };
        high = record { f = f.has_high; g = g.has_high; h = h.has_high; f_later = f.high_later; g_later = g.high_later; h_later = h.high_later };
        low_smaller = smaller.0;
        high_smaller = smaller.1;
        value = λ v. distribute (v s.var) _ (function t s.low.f v) (function t s.high.f v) _ (function t s.low.g v) (function t s.high.g v) _ (function t s.low.h v) (function t s.high.h v) (f.value v) (g.value v) (h.value v);
      }
    where
      least : (a b c : ℕ) → (a ≡ min (min a b) c) ⊎ (b ≡ min (min a b) c) ⊎ (c ≡ min (min a b) c)
      least a b c = grind arith

      by : (level t q.f ≡ min (min (level t q.f) (level t q.g)) (level t q.h)) ⊎ (level t q.g ≡ min (min (level t q.f) (level t q.g)) (level t q.h)) ⊎ (level t q.h ≡ min (min (level t q.f) (level t q.g)) (level t q.h)) → (size s.low < size q) × (size s.high < size q)
      by (inl e) = let p = f.below (e ∙ sym first) in (omega (arith, p.0, g.low_below, h.low_below), omega (arith, p.1, g.high_below, h.high_below))
      by (inr (inl e)) = let p = g.below (e ∙ sym first) in (omega (arith, p.0, f.low_below, h.low_below), omega (arith, p.1, f.high_below, h.high_below))
      by (inr (inr e)) = let p = h.below (e ∙ sym first) in (omega (arith, p.0, f.low_below, g.low_below), omega (arith, p.1, f.high_below, g.high_below))
