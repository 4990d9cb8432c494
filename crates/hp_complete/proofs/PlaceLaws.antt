-- Steps of the clock that are left, and layers.
use Rattle.std.proofs.Common.{◌≡◌, ℕ, suc, ◌-◌, ◌<◌, if◌then◌else◌, List, [], ◌∷◌, ◌++◌, length, take, refl, sym, ap, ◌∙◌, arith}
use Rattle.std.proofs.lemmas.Bool.{lt-ltb}
use Rattle.std.proofs.lemmas.List.{length-append}
use Rattle.std.proofs.Math.Seq.{take-append_seam}
use Rattle.law_equations.specs.Made.Making.{Layer, front_steps, off_site, in_block, restart_site}
use Rattle.hp_complete.specs.Places.{Place, at_base, at_site, left, unrestarted, within}

front-steps : (ck : List (ℕ × ℕ)) → front_steps ck ≡ take (length ck - 1) ck
front-steps [] = refl
front-steps (s ∷ []) = refl
front-steps (s ∷ t ∷ steps) =
    ap (λ more. s ∷ more) (front-steps (t ∷ steps)) ∙ ap (λ n. take n (s ∷ t ∷ steps)) (let e : suc (length (t ∷ steps) - 1) ≡ length (s ∷ t ∷ steps) - 1 = omega arith in e)

pub popped : (p : Place) (ck : List (ℕ × ℕ)) → p.site.base < length p.site.clock → ck ≡ take (length p.site.clock - 1) p.site.clock
    → at_site (record { clock = ck; base = p.site.base; restart = p.site.restart }) p ≡ at_site (off_site p.site) p
popped p ck h e =
    ap (λ (c : List (ℕ × ℕ)). at_site (record { clock = c; base = p.site.base; restart = p.site.restart }) p)
    (e ∙ sym (front-steps p.site.clock) ∙ sym (ap (λ d. if d then front_steps p.site.clock else p.site.clock) (lt-ltb p.site.base (length p.site.clock) h)))

-- the layer of a block in a place, left
pub within-left : (l : Layer) (p : Place) → left (within l p) ≡ p
unfolding left
within-left l p = refl

-- a block that began anew where a variable is true, left
pub restart-left : (p : Place) (x : ℕ) (l : Layer) → unrestarted (at_base p.site.base (within l (at_site (in_block (restart_site p.site x)) p))) ≡ within l p
unfolding unrestarted at_base
restart-left p x l =
    let rs = p.site.restart in
    let same : take (length (rs ++ x ∷ []) - 1) (rs ++ x ∷ []) ≡ rs = ap (λ n. take n (rs ++ x ∷ [])) (let e : length (rs ++ x ∷ []) - 1 ≡ length rs = omega (arith, length-append rs (x ∷ [])) in e) ∙ take-append_seam rs (x ∷ []) in
    ap (λ (r : List ℕ). within l (at_site (record { clock = p.site.clock; base = p.site.base; restart = r }) p)) same
