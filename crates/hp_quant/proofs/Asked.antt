-- What is asked over marked variables, as a function of a valuation.
use Rattle.std.proofs.Common.{◌≡◌, ◌≢◌, ℕ, zero, suc, ◌+◌, ◌-◌, ◌<◌, ◌≤◌, Bool, true, false, ◌||◌, ◌==◌, refl, sym, ap, ◌∙◌, arith, if◌then◌else◌}
use Rattle.hp_diagram.proofs.Canonical.{Valuation, AgreeFrom, with_value-same, with_value-other, with_value-later}
use Rattle.hp_quant.specs.declared.turns.Way.{Way}
use Rattle.hp_quant.specs.declared.turns.Way.TheVariants.{Stays, Either, Both}
use Rattle.hp_quant.specs.Turns.{Fun, by_way, changed, asked, either}

-- the function does not read the variables before one
abbrev pub ReadsFrom : ℕ → Fun → Type 0
ReadsFrom x f = (v w : Valuation) → AgreeFrom x v w → f v ≡ f w

pub reads-earlier : (x y : ℕ) (f : Fun) → y ≤ x → ReadsFrom x f → ReadsFrom y f
reads-earlier x y f earlier same v w agree = same v w (λ z later. agree z (omega (arith, later, earlier)))

pub reads-either : (x : ℕ) (f g : Fun) → ReadsFrom x f → ReadsFrom x g → ReadsFrom x (either f g)
reads-either x f g in_f in_g v w agree = λ j. in_f v w agree j || in_g v w agree j

pub either-same : (f g h k : Fun) → ((v : Valuation) → f v ≡ h v) → ((v : Valuation) → g v ≡ k v) → (v : Valuation) → either f g v ≡ either h k v
either-same f g h k e d v = λ j. e v j || d v j

changed-agree : (v w : Valuation) (x y : ℕ) (c : Bool) → AgreeFrom y v w → AgreeFrom y (changed v x c) (changed w x c)
changed-agree v w x y c agree z later = λ j. if z == x then c else agree z later j

by_way-same : (w : Way) (a : Bool) → by_way w a a a ≡ a
by_way-same Stays a = refl
by_way-same Either true = refl
by_way-same Either false = refl
by_way-same Both true = refl
by_way-same Both false = refl

module _ (ways : ℕ → Way) where
  -- equal functions are asked for alike
  pub asked-same : (n x : ℕ) (f g : Fun) → ((v : Valuation) → f v ≡ g v) → (v : Valuation) → asked ways n x f v ≡ asked ways n x g v
  asked-same n x f g same v = λ j. asked ways n x (λ w. same w j) v

  -- what is asked reads no more than the function does
  pub asked-reads : (n x y : ℕ) (f : Fun) → ReadsFrom y f → ReadsFrom y (asked ways n x f)
  asked-reads zero x y f same v w agree = same v w agree
  asked-reads (suc n) x y f same v w agree =
      let here : asked ways n (suc x) f v ≡ asked ways n (suc x) f w = asked-reads n (suc x) y f same v w agree in
      let low : asked ways n (suc x) f (changed v x false) ≡ asked ways n (suc x) f (changed w x false) = asked-reads n (suc x) y f same (changed v x false) (changed w x false) (changed-agree v w x y false agree) in
      let high : asked ways n (suc x) f (changed v x true) ≡ asked ways n (suc x) f (changed w x true) = asked-reads n (suc x) y f same (changed v x true) (changed w x true) (changed-agree v w x y true agree) in
      λ j. by_way (ways x) (here j) (low j) (high j)

  -- functions that agree where an earlier variable has a value are asked for alike there
  pub asked-where : (n x y : ℕ) (c : Bool) (f g : Fun) → y < x → ((v : Valuation) → v y ≡ c → f v ≡ g v) → (v : Valuation) → v y ≡ c → asked ways n x f v ≡ asked ways n x g v
  asked-where zero x y c f g before same v at = same v at
  asked-where (suc n) x y c f g before same v at =
      let apart : y ≢ x = λ e. absurd (omega (arith, e, before)) in
      let here : asked ways n (suc x) f v ≡ asked ways n (suc x) g v = asked-where n (suc x) y c f g (omega (arith, before)) same v at in
      let low : asked ways n (suc x) f (changed v x false) ≡ asked ways n (suc x) g (changed v x false) = asked-where n (suc x) y c f g (omega (arith, before)) same (changed v x false) (with_value-other v x false y apart ∙ at) in
      let high : asked ways n (suc x) f (changed v x true) ≡ asked ways n (suc x) g (changed v x true) = asked-where n (suc x) y c f g (omega (arith, before)) same (changed v x true) (with_value-other v x true y apart ∙ at) in
      λ j. by_way (ways x) (here j) (low j) (high j)

  -- a variable that is not read is passed over
  asked-over : (n x : ℕ) (f : Fun) → ReadsFrom (suc x) f → (v : Valuation) → asked ways (suc n) x f v ≡ asked ways n (suc x) f v
  asked-over n x f same v =
      let low : asked ways n (suc x) f (changed v x false) ≡ asked ways n (suc x) f v = asked-reads n (suc x) (suc x) f same (changed v x false) v (with_value-later v x false) in
      let high : asked ways n (suc x) f (changed v x true) ≡ asked ways n (suc x) f v = asked-reads n (suc x) (suc x) f same (changed v x true) v (with_value-later v x true) in
      (λ j. by_way (ways x) (asked ways n (suc x) f v) (low j) (high j)) ∙ by_way-same (ways x) (asked ways n (suc x) f v)

  pub asked-from : (k n m x y : ℕ) (f : Fun) → m ≡ k + n → y ≡ x + k → ReadsFrom y f → (v : Valuation) → asked ways m x f v ≡ asked ways n y f v
  asked-from zero n m x y f e d same v =
      let first : m ≡ n = omega (arith, e) in
      let second : x ≡ y = omega (arith, d) in
      λ j. asked ways (first j) (second j) f v
  asked-from (suc k) n zero x y f e d same v = absurd (omega (arith, e))
  asked-from (suc k) n (suc m) x y f e d same v =
      asked-over m x f (reads-earlier y (suc x) f (omega (arith, d)) same) v
      ∙ asked-from k n m (suc x) y f (omega (arith, e)) (omega (arith, d)) same v

  -- where only variables behind the last that is asked for are read, the function is its own answer
  pub asked-behind : (end : ℕ) (f : Fun) → ReadsFrom end f → (v : Valuation) → asked ways end 0 f v ≡ f v
  asked-behind end f same v = asked-from end 0 end 0 end f (omega arith) (omega arith) same v

  -- a function that is the same everywhere
  pub asked-constant : (end : ℕ) (f : Fun) (c : Bool) → ((v : Valuation) → f v ≡ c) → (v : Valuation) → asked ways end 0 f v ≡ c
  asked-constant end f c is v = asked-behind end f (λ v w agree. is v ∙ sym (is w)) v ∙ is v

  -- a function that is made of two by a variable
  module _ (end x : ℕ) (f low high : Fun) (splits : (v : Valuation) → f v ≡ (if v x then high v else low v)) (in_low : ReadsFrom (suc x) low) (in_high : ReadsFrom (suc x) high) (within : x < end) where
    reads-split : ReadsFrom x f
    reads-split v w agree =
        splits v
        ∙ (λ j. if agree x (omega arith) j then in_high v w (λ y later. agree y (omega (arith, later))) j else in_low v w (λ y later. agree y (omega (arith, later))) j)
        ∙ sym (splits w)

    at_low : (v : Valuation) → v x ≡ false → f v ≡ low v
    at_low v e = splits v ∙ ap (λ c. if c then high v else low v) e

    at_high : (v : Valuation) → v x ≡ true → f v ≡ high v
    at_high v e = splits v ∙ ap (λ c. if c then high v else low v) e

    pub asked-node : (v : Valuation) → asked ways end 0 f v ≡ by_way (ways x) (if v x then asked ways end 0 high v else asked ways end 0 low v) (asked ways end 0 low v) (asked ways end 0 high v)
    asked-node v = by (end - suc x) (omega (arith, within))
      where
        by : (n : ℕ) → end ≡ x + suc n → asked ways end 0 f v ≡ by_way (ways x) (if v x then asked ways end 0 high v else asked ways end 0 low v) (asked ways end 0 low v) (asked ways end 0 high v)
        by n e =
            let all_low : (w : Valuation) → asked ways n (suc x) low w ≡ asked ways end 0 low w = λ w. sym (asked-from (suc x) n end 0 (suc x) low (omega (arith, e)) (omega arith) in_low w) in
            let all_high : (w : Valuation) → asked ways n (suc x) high w ≡ asked ways end 0 high w = λ w. sym (asked-from (suc x) n end 0 (suc x) high (omega (arith, e)) (omega arith) in_high w) in
            let is_low : asked ways n (suc x) f (changed v x false) ≡ asked ways end 0 low v =
            asked-where n (suc x) x false f low (omega arith) at_low (changed v x false) (with_value-same v x false)
            ∙ asked-reads n (suc x) (suc x) low in_low (changed v x false) v (with_value-later v x false)
            ∙ all_low v in
            let is_high : asked ways n (suc x) f (changed v x true) ≡ asked ways end 0 high v =
            asked-where n (suc x) x true f high (omega arith) at_high (changed v x true) (with_value-same v x true)
            ∙ asked-reads n (suc x) (suc x) high in_high (changed v x true) v (with_value-later v x true)
            ∙ all_high v in
            let side : (c : Bool) → v x ≡ c → asked ways n (suc x) f v ≡ (if c then asked ways end 0 high v else asked ways end 0 low v) = λ c.
            (elim c as (λ c. v x ≡ c → asked ways n (suc x) f v ≡ (if c then asked ways end 0 high v else asked ways end 0 low v)) [
              | true ↦ λ at. asked-where n (suc x) x true f high (omega arith) at_high v at ∙ all_high v
              | false ↦ λ at. asked-where n (suc x) x false f low (omega arith) at_low v at ∙ all_low v
            ]) in
            asked-from x (suc n) end 0 x f (omega (arith, e)) (omega arith) reads-split v
            ∙ (λ j. by_way (ways x) (side (v x) refl j) (is_low j) (is_high j))
