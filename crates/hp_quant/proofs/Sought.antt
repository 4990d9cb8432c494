-- One pass that asks over marked variables.
use Rattle.std.proofs.Common.{◌≡◌, ℕ, suc, ◌+◌, ◌<◌, ◌≤◌, min, ◌⊎◌, inl, inr, Bool, true, false, ◌||◌, List, Result, Ok, Err, IfOk, refl, sym, ap, subst, ◌∙◌, arith, if◌then◌else◌}
use Rattle.hp_diagram.specs.declared.reference.Ref.{Ref}
use Rattle.hp_diagram.specs.Diagrams.{Diagrams, function, Has, level, Means, IsReduced, HasChildren, Keeps, zero_ref, one_ref}
use Rattle.hp_diagram.proofs.Canonical.{Valuation, function-agree, level-from_agree}
use Rattle.hp_diagram.proofs.Kept.{function-zero, function-one}
use Rattle.hp_diagram.proofs.Choices.{Keeps-trans, level-keeps}
use Rattle.hp_quant.specs.declared.turns.Way.{Way}
use Rattle.hp_quant.specs.declared.turns.Way.TheVariants.{Either, Both}
use Rattle.hp_quant.specs.declared.turns.Plan.{Plan}
use Rattle.hp_quant.specs.declared.pair.Pair.{Pair}
use Rattle.hp_quant.specs.declared.pair.Found.{Found}
use Rattle.hp_quant.specs.Turns.{Fun, either, way_of, by_way, of_pair, Answers, AreBehind, at_sides, WasFound, AllAnswered}
use Rattle.hp_quant.proofs.Asked.{ReadsFrom, reads-either, either-same, asked-same, asked-reads, asked-behind, asked-constant, asked-node}

module _ (t u : Diagrams) (plan : Plan) (of : List Bool) (keeps : Keeps t u) where
  pub of_pair-keeps : (p : Pair) → Has t p.f → Has t p.g → (v : Valuation) → of_pair u plan of p v ≡ of_pair t plan of p v
  unfolding of_pair
  of_pair-keeps p has_f has_g v =
      asked-same (way_of plan.all of) plan.end 0 (either (function u p.f) (function u p.g)) (either (function t p.f) (function t p.g))
      (either-same (function u p.f) (function u p.g) (function t p.f) (function t p.g) (keeps.functions p.f has_f) (keeps.functions p.g has_g)) v

  -- an answer stays one as the table grows
  pub Answers-keeps : (p : Pair) (s : Ref) → Answers t plan of p s → Answers u plan of p s
  Answers-keeps p s a =
      record {
        f = keeps.has p.f a.f;
        g = keeps.has p.g a.g;
        has = keeps.has s a.has;
        value = λ v. keeps.functions s a.has v ∙ a.value v ∙ sym (of_pair-keeps p a.f a.g v);
      }

  pub AllAnswered-keeps : (m : Found) → AllAnswered t plan of m → AllAnswered u plan of m
  AllAnswered-keeps m right p s found = Answers-keeps p s (right p s found)

  -- what is behind a variable stays there
  pub AreBehind-keeps : (x : ℕ) (p : Pair) → AreBehind t x p → AreBehind u x p
  AreBehind-keeps x p b =
      record {
        f = keeps.has p.f b.f;
        g = keeps.has p.g b.g;
        f_later = omega (arith, b.f_later, level-keeps t u keeps p.f b.f);
        g_later = omega (arith, b.g_later, level-keeps t u keeps p.g b.g);
      }

-- what the pass notes is right too
pub AllAnswered-put : (t : Diagrams) (plan : Plan) (of : List Bool) (m n : Found) (p : Pair) (s : Ref) → ((q : Pair) (r : Ref) → WasFound n q r → WasFound m q r ⊎ ((q ≡ p) × (r ≡ s))) → AllAnswered t plan of m → Answers t plan of p s → AllAnswered t plan of n
AllAnswered-put t plan of m n p s put right new q r found =
    elim (put q r found) [
      | inl old ↦ right q r old
      | inr same ↦ subst (λ (k : Pair). Answers t plan of k r) (sym same.0) (subst (Answers t plan of p) (sym same.1) new)
    ]

settled-first : (f g : Fun) (w : Valuation) → f w ≡ true → either f g w ≡ true
settled-first f g w e = λ j. e j || g w

or_comm : (a b : Bool) → (a || b) ≡ (b || a)
or_comm true true = refl
or_comm true false = refl
or_comm false true = refl
or_comm false false = refl

either-turned : (f g : Fun) (w : Valuation) → either f g w ≡ either g f w
either-turned f g w = or_comm (f w) (g w)

module _ (t : Diagrams) (plan : Plan) (of : List Bool) where
  abbrev function_of : Pair → Fun
  function_of p = either (function t p.f) (function t p.g)

  -- one of two functions may settle the answer
  pub Answers-settled : (p : Pair) (r : Ref) → Has t p.f → Has t p.g → ((r ≡ p.f) ⊎ (r ≡ p.g)) × (r ≡ one_ref) → Answers t plan of p r
  unfolding of_pair
  Answers-settled p r has_f has_g h =
      let is : (v : Valuation) → function t r v ≡ true = λ v. function-one t v r (ap (λ (k : Ref). k.index) h.1) in
      let all : (w : Valuation) → function_of p w ≡ true =
      λ w. elim h.0 [
        | inl e ↦ settled-first (function t p.f) (function t p.g) w (ap (λ (k : Ref). function t k w) (sym e) ∙ is w)
        | inr e ↦ either-turned (function t p.f) (function t p.g) w ∙ settled-first (function t p.g) (function t p.f) w (ap (λ (k : Ref). function t k w) (sym e) ∙ is w)
      ] in
      record {
        f = has_f;
        g = has_g;
        has = elim h.0 [ inl e ↦ subst (Has t) (sym e) has_f | inr e ↦ subst (Has t) (sym e) has_g ];
        value = λ v. is v ∙ sym (asked-constant (way_of plan.all of) plan.end (function_of p) true all v);
      }

  -- the order of the two does not matter
  pub Answers-turned : (p q : Pair) (s : Ref) → (q ≡ p) ⊎ ((q.f ≡ p.g) × (q.g ≡ p.f)) → Answers t plan of p s → Answers t plan of q s
  unfolding of_pair
  Answers-turned p q s (inl e) a = subst (λ (k : Pair). Answers t plan of k s) (sym e) a
  Answers-turned p q s (inr e) a =
      record {
        f = subst (Has t) (sym e.0) a.g;
        g = subst (Has t) (sym e.1) a.f;
        has = a.has;
        value = λ v. a.value v ∙ asked-same (way_of plan.all of) plan.end 0 (function_of p) (function_of q)
            (λ w. either-turned (function t p.f) (function t p.g) w ∙ (λ j. either (function t (sym e.0 j)) (function t (sym e.1 j)) w)) v;
      }

  pub turned-back : (p q : Pair) → (q ≡ p) ⊎ ((q.f ≡ p.g) × (q.g ≡ p.f)) → (p ≡ q) ⊎ ((p.f ≡ q.g) × (p.g ≡ q.f))
  turned-back p q (inl e) = inl (sym e)
  turned-back p q (inr e) = inr (sym e.1, sym e.0)

  module _ (reduced : IsReduced t) where
    reads_ref : (x : ℕ) (r : Ref) → x ≤ level t r → ReadsFrom x (function t r)
    reads_ref x r later v w agree = function-agree t reduced r v w (λ y from. agree y (omega (arith, later, from)))

    reads_pair : (x : ℕ) (p : Pair) → x ≤ level t p.f → x ≤ level t p.g → ReadsFrom x (function_of p)
    reads_pair x p in_f in_g = reads-either x (function t p.f) (function t p.g) (reads_ref x p.f in_f) (reads_ref x p.g in_g)

    of_pair-behind : (p : Pair) → plan.end ≤ level t p.f → plan.end ≤ level t p.g → (v : Valuation) → of_pair t plan of p v ≡ function_of p v
    unfolding of_pair
    of_pair-behind p in_f in_g v = asked-behind (way_of plan.all of) plan.end (function_of p) (reads_pair plan.end p in_f in_g) v

    -- behind the ranges the joined function is the answer
    pub Answers-behind : (u : Diagrams) (p : Pair) (s : Ref) → Has t p.f → Has t p.g → plan.end ≤ level t p.f → plan.end ≤ level t p.g → Keeps t u → Means u (function_of p) s → Answers u plan of p s
    Answers-behind u p s has_f has_g in_f in_g keeps means =
        record {
          f = keeps.has p.f has_f;
          g = keeps.has p.g has_g;
          has = means.has;
          value = λ v. means.value v ∙ sym (of_pair-behind p in_f in_g v) ∙ sym (of_pair-keeps t u plan of keeps p has_f has_g v);
        }

    pub IfOk-behind : {E : Type 0} (u : Diagrams) (p : Pair) → Has t p.f → Has t p.g → plan.end ≤ level t p.f → plan.end ≤ level t p.g → Keeps t u → (o : Result Ref E) → IfOk o (Means u (function_of p)) → IfOk o (Answers u plan of p)
    IfOk-behind u p has_f has_g in_f in_g keeps (Ok s) m = Answers-behind u p s has_f has_g in_f in_g keeps m
    IfOk-behind u p has_f has_g in_f in_g keeps (Err e) m = tt

    -- what is asked of functions behind a variable does not read it
    pub of_pair-reads : (x : ℕ) (p : Pair) → AreBehind t x p → ReadsFrom (suc x) (of_pair t plan of p)
    unfolding of_pair
    of_pair-reads x p b =
        asked-reads (way_of plan.all of) plan.end 0 (suc x) (function_of p) (reads_pair (suc x) p (omega (arith, b.f_later)) (omega (arith, b.g_later)))

    -- a pair by its first variable
    module _ (x : ℕ) (p low high : Pair) (first : HasChildren t p.f x low.f high.f) (second : HasChildren t p.g x low.g high.g) (within : x < plan.end) where
      pub low_behind : AreBehind t x low
      low_behind = record { f = first.has_low; g = second.has_low; f_later = first.low_later; g_later = second.low_later }

      pub high_behind : AreBehind t x high
      high_behind = record { f = first.has_high; g = second.has_high; f_later = first.high_later; g_later = second.high_later }

      distribute : (c f f0 f1 g g0 g1 : Fun) (v : Valuation) → f v ≡ (if c v then f1 v else f0 v) → g v ≡ (if c v then g1 v else g0 v) → either f g v ≡ (if c v then either f1 g1 v else either f0 g0 v)
      distribute c f f0 f1 g g0 g1 v in_f in_g = (λ j. in_f j || in_g j) ∙ (elim (c v) as (λ b. ((if b then f1 v else f0 v) || (if b then g1 v else g0 v)) ≡ (if b then (f1 v || g1 v) else (f0 v || g0 v))) [ true ↦ refl | false ↦ refl ])

      -- the sides are nearer to the start
      pub sides-smaller : x ≡ min (level t p.f) (level t p.g) → (low.f.index + low.g.index < p.f.index + p.g.index) × (high.f.index + high.g.index < p.f.index + p.g.index)
      sides-smaller e = by (least (level t p.f) (level t p.g))
        where
          least : (a b : ℕ) → (a ≡ min a b) ⊎ (b ≡ min a b)
          least a b = grind arith

          by : (level t p.f ≡ min (level t p.f) (level t p.g)) ⊎ (level t p.g ≡ min (level t p.f) (level t p.g)) → (low.f.index + low.g.index < p.f.index + p.g.index) × (high.f.index + high.g.index < p.f.index + p.g.index)
          by (inl d) = let b = first.below (d ∙ sym e) in (omega (arith, b.0, second.low_below), omega (arith, b.1, second.high_below))
          by (inr d) = let b = second.below (d ∙ sym e) in (omega (arith, b.0, first.low_below), omega (arith, b.1, first.high_below))

      pub of_pair-node : (v : Valuation) → of_pair t plan of p v ≡ at_sides t plan of x low high v
      unfolding of_pair
      of_pair-node v =
          asked-node (way_of plan.all of) plan.end x (function_of p) (function_of low) (function_of high)
          (λ w. distribute (λ u. u x) (function t p.f) (function t low.f) (function t high.f) (function t p.g) (function t low.g) (function t high.g) w (first.value w) (second.value w))
          (reads_pair (suc x) low (omega (arith, first.low_later)) (omega (arith, second.low_later)))
          (reads_pair (suc x) high (omega (arith, first.high_later)) (omega (arith, second.high_later)))
          within v

      pub Answers-node : (u : Diagrams) (s : Ref) → Has t p.f → Has t p.g → Keeps t u → Means u (at_sides t plan of x low high) s → Answers u plan of p s
      Answers-node u s has_f has_g keeps means =
          record {
            f = keeps.has p.f has_f;
            g = keeps.has p.g has_g;
            has = means.has;
            value = λ v. means.value v ∙ sym (of_pair-node v) ∙ sym (of_pair-keeps t u plan of keeps p has_f has_g v);
          }

-- the sides of a variable: t is the table before, l where the low side is answered
module _ (t l : Diagrams) (plan : Plan) (of : List Bool) (reduced : IsReduced t) (x : ℕ) (low high : Pair) (in_low : AreBehind t x low) (in_high : AreBehind t x high) (within : plan.end ≤ t.vars) (in_range : x < plan.end)
    (to_l : Keeps t l) (below : Ref) (is_low : Answers l plan of low below) where
  low_value : (v : Valuation) → function l below v ≡ of_pair t plan of low v
  low_value v = is_low.value v ∙ of_pair-keeps t l plan of to_l low in_low.f in_low.g v

  low_level : x < level l below
  low_level =
      let bound : suc x ≤ l.vars = omega (arith, in_range, within, to_l.vars) in
      let there : suc x ≤ level l below = level-from_agree l to_l.reduced (suc x) below is_low.has bound (λ v w agree. low_value v ∙ of_pair-reads t plan of reduced x low in_low v w agree ∙ sym (low_value w)) in
      omega (arith, there)

  -- one side may settle the answer
  pub Means-settled : (way : Way) → way ≡ way_of plan.all of x → ((way ≡ Either) × (below ≡ one_ref)) ⊎ ((way ≡ Both) × (below ≡ zero_ref)) → Means l (at_sides t plan of x low high) below
  Means-settled way is_way h =
      record {
        has = is_low.has;
        value = λ v. elim h [
          | inl e ↦
              let is : function l below v ≡ true = function-one l v below (ap (λ (k : Ref). k.index) e.1) in
              is ∙ sym ((λ j. by_way ((sym is_way ∙ e.0) j) (if v x then of_pair t plan of high v else of_pair t plan of low v) ((sym (low_value v) ∙ is) j) (of_pair t plan of high v)))
          | inr e ↦
              let is : function l below v ≡ false = function-zero l v below (ap (λ (k : Ref). k.index) e.1) in
              is ∙ sym ((λ j. by_way ((sym is_way ∙ e.0) j) (if v x then of_pair t plan of high v else of_pair t plan of low v) ((sym (low_value v) ∙ is) j) (of_pair t plan of high v)))
        ];
      }

  -- h is the table where the high side is answered too
  module _ (h : Diagrams) (to_h : Keeps l h) (above : Ref) (is_high : Answers h plan of high above) where
    pub low_later : x < level h below
    low_later = omega (arith, low_level, level-keeps l h to_h below is_low.has)

    high_value : (v : Valuation) → function h above v ≡ of_pair t plan of high v
    high_value v = is_high.value v ∙ of_pair-keeps t h plan of (Keeps-trans t l h to_l to_h) high in_high.f in_high.g v

    pub high_later : x < level h above
    high_later =
        let bound : suc x ≤ h.vars = omega (arith, in_range, within, to_l.vars, to_h.vars) in
        let there : suc x ≤ level h above = level-from_agree h to_h.reduced (suc x) above is_high.has bound (λ v w agree. high_value v ∙ of_pair-reads t plan of reduced x high in_high v w agree ∙ sym (high_value w)) in
        omega (arith, there)

    pub Means-sides : (u : Diagrams) (s : Ref) (way : Way) → way ≡ way_of plan.all of x → Means u (λ v. by_way way (if v x then function h above v else function h below v) (function h below v) (function h above v)) s → Means u (at_sides t plan of x low high) s
    Means-sides u s way is_way m =
        record {
          has = m.has;
          value = λ v.
              let below_value : function h below v ≡ of_pair t plan of low v = to_h.functions below is_low.has v ∙ low_value v in
              m.value v ∙ (λ j. by_way (is_way j) (if v x then high_value v j else below_value j) (below_value j) (high_value v j));
        }

    pub IfOk-sides : {E : Type 0} (u : Diagrams) (way : Way) → way ≡ way_of plan.all of x → (o : Result Ref E) → IfOk o (Means u (λ v. by_way way (if v x then function h above v else function h below v) (function h below v) (function h above v))) → IfOk o (Means u (at_sides t plan of x low high))
    IfOk-sides u way is_way (Ok s) m = Means-sides u s way is_way m
    IfOk-sides u way is_way (Err e) m = tt
