-- A choice is made from the choices of its two parts.
use Rattle.std.proofs.Common.{◌≡◌, ℕ, suc, ◌<◌, ◌≤◌, inl, inr, Bool, refl, sym, ap, subst, ◌∙◌, arith, if◌then◌else◌}
use Rattle.std.specs.Option.{option_map_or}
use Rattle.hp_diagram.specs.declared.reference.Ref.{Ref}
use Rattle.hp_diagram.specs.declared.reference.Branch.{Branch}
use Rattle.hp_diagram.specs.declared.question.Question.{Question}
use Rattle.hp_diagram.specs.declared.question.Split.{Split}
use Rattle.hp_diagram.specs.Diagrams.{Diagrams, path_end, function, Has, level, IsReduced, IsSound, Means, choice, ordered, IsKept, Picks, IsAnswer, IsAfter, IsSplit, Keeps}
use Rattle.hp_diagram.proofs.Canonical.{Valuation, AgreeFrom, function-agree, level-from_agree, same_from_functions}
use Rattle.hp_diagram.proofs.Kept.{function-zero, function-one, choice-ordered, ordered_all, Means-ordered}

pub Keeps-trans : (t u w : Diagrams) → Keeps t u → Keeps u w → Keeps t w
Keeps-trans t u w first second =
    record {
      reduced = second.reduced;
      vars = second.vars ∙ first.vars;
      has = λ r has. second.has r (first.has r has);
      branches = λ r has. second.branches r (first.has r has) ∙ first.branches r has;
      functions = λ r has v. second.functions r (first.has r has) v ∙ first.functions r has v;
    }

pub Keeps-refl : (t : Diagrams) → IsReduced t → Keeps t t
Keeps-refl t reduced = record { reduced = reduced; vars = refl; has = λ r has. has; branches = λ r has. refl; functions = λ r has v. refl }

pub level-keeps : (t u : Diagrams) → Keeps t u → (r : Ref) → Has t r → level u r ≡ level t r
level-keeps t u keeps r has = λ j. option_map_or (λ (b : Branch). b.var) (keeps.branches r has j) (keeps.vars j)

pub choice-keeps : (t u : Diagrams) → Keeps t u → (f g h : Ref) → Has t f → Has t g → Has t h → (v : Valuation) → choice u f g h v ≡ choice t f g h v
choice-keeps t u keeps f g h has_f has_g has_h v =
    λ j. if keeps.functions f has_f v j then keeps.functions g has_g v j else keeps.functions h has_h v j

-- what has a function keeps it
pub Means-keeps : (t u : Diagrams) → Keeps t u → (f : Valuation → Bool) (r : Ref) → Means t f r → Means u f r
Means-keeps t u keeps f r m = record { has = keeps.has r m.has; value = λ v. keeps.functions r m.has v ∙ m.value v }

-- a choice does not read the variables up to the one that its references come after
choice-agree : (t : Diagrams) → IsReduced t → (x : ℕ) (q : Question) → IsAfter t x q → (v w : Valuation) → AgreeFrom (suc x) v w → choice t q.f q.g q.h v ≡ choice t q.f q.g q.h w
choice-agree t reduced x q after v w agree =
    let f = function-agree t reduced q.f v w (λ y later. agree y (omega (arith, later, after.f_later))) in
    let g = function-agree t reduced q.g v w (λ y later. agree y (omega (arith, later, after.g_later))) in
    let h = function-agree t reduced q.h v w (λ y later. agree y (omega (arith, later, after.h_later))) in
    λ j. if f j then g j else h j

-- the reference that is picked whatever the values are
module _ (t : Diagrams) (f g h r : Ref) (picks : Picks f g h r) (has_f : Has t f) (has_g : Has t g) (has_h : Has t h) where
  pub Means-picks : Means t (choice t f g h) r
  Means-picks =
      record {
        has = elim picks.among [
          | inl e ↦ subst (Has t) (sym e) has_f
          | inr p ↦ elim p [ inl e ↦ subst (Has t) (sym e) has_g | inr e ↦ subst (Has t) (sym e) has_h ]
        ];
        value = λ v. picks.value (λ i. path_end i t.nodes v i) (function-zero t v (record { index = 0 }) refl) (function-one t v (record { index = 1 }) refl);
      }

-- the table is t when the question is asked, u where it is split, low where the low part has its answer,
-- high where the high one has, and made where the node is
module _ (u low high : Diagrams) (reduced : IsReduced u) (q : Question) (s : Split) (split : IsSplit u q s) (l h : Ref)
    (to_low : Keeps u low) (is_low : Means low (choice u s.low.f s.low.g s.low.h) l)
    (to_high : Keeps low high) (is_high : Means high (choice low s.high.f s.high.g s.high.h) h) where
  high_part : Means high (choice u s.high.f s.high.g s.high.h) h
  high_part = record { has = is_high.has; value = λ v. is_high.value v ∙ choice-keeps u low to_low s.high.f s.high.g s.high.h split.high.f split.high.g split.high.h v }

  pub low_later : s.var < level high l
  low_later =
      let within : suc s.var ≤ low.vars = omega (arith, split.var, to_low.vars) in
      let there : suc s.var ≤ level low l = level-from_agree low to_low.reduced (suc s.var) l is_low.has within (λ v w agree. is_low.value v ∙ choice-agree u reduced s.var s.low split.low v w agree ∙ sym (is_low.value w)) in
      omega (arith, there, level-keeps low high to_high l is_low.has)

  pub high_later : s.var < level high h
  high_later =
      let within : suc s.var ≤ high.vars = omega (arith, split.var, to_low.vars, to_high.vars) in
      let there : suc s.var ≤ level high h = level-from_agree high to_high.reduced (suc s.var) h high_part.has within (λ v w agree. high_part.value v ∙ choice-agree u reduced s.var s.high split.high v w agree ∙ sym (high_part.value w)) in
      omega (arith, there)

  module _ (made : Diagrams) (r : Ref) (to_made : Keeps high made) (is_made : Means made (λ v. if v s.var then function high h v else function high l v) r)
      (has_f : Has u q.f) (has_g : Has u q.g) (has_h : Has u q.h) where
    all : Keeps u made
    all = Keeps-trans u high made (Keeps-trans u low high to_low to_high) to_made

    pub IsAnswer-made : IsAnswer made q r
    IsAnswer-made =
        record {
          f = all.has q.f has_f;
          g = all.has q.g has_g;
          h = all.has q.h has_h;
          means = record {
            has = is_made.has;
            value = λ v.
                let low_value = to_high.functions l is_low.has v ∙ is_low.value v in
                is_made.value v
                ∙ (λ j. if v s.var then high_part.value v j else low_value j)
                ∙ sym (split.value v)
                ∙ sym (choice-keeps u made all q.f q.g q.h has_f has_g has_h v);
          };
        }

-- the answer to the ordered question answers the one that was asked
pub Means-answer : (t u : Diagrams) (f g h : Ref) (q : Question) (r : Ref) → q ≡ ordered f g h → Keeps t u → Has t q.f → Has t q.g → Has t q.h → IsAnswer u q r → Means u (choice t f g h) r
Means-answer t u f g h q r e keeps has_f has_g has_h answer =
    record {
      has = answer.means.has;
      value = λ v.
          answer.means.value v
          ∙ choice-keeps t u keeps q.f q.g q.h has_f has_g has_h v
          ∙ ap (λ (p : Question). choice t p.f p.g p.h v) e
          ∙ choice-ordered t v f g h;
    }

-- and the other way round
pub IsAnswer-ordered : (t u : Diagrams) (f g h : Ref) (q : Question) (r : Ref) → q ≡ ordered f g h → Keeps t u → Has t f → Has t g → Has t h → Means u (choice t f g h) r → IsAnswer u q r
IsAnswer-ordered t u f g h q r e keeps has_f has_g has_h m =
    let has = ordered_all (Has u) (omega arith) (omega arith) f g h (keeps.has f has_f) (keeps.has g has_g) (keeps.has h has_h) in
    subst (λ (p : Question). IsAnswer u p r) (sym e) (record {
      f = has.0;
      g = has.1;
      h = has.2;
      means = record { has = m.has; value = λ v. m.value v ∙ sym (choice-keeps t u keeps f g h has_f has_g has_h v) ∙ sym (choice-ordered u v f g h) };
    })

-- an answer that is kept is the one that has the function
pub kept_is : (t : Diagrams) (f g h r : Ref) → IsSound t → Means t (choice t f g h) r → (s : Ref) → IsKept t f g h s → r ≡ s
kept_is t f g h r sound m s there =
    let a = Means-ordered t f g h s (sound.answers (ordered f g h) s there).means in
    same_from_functions t sound.reduced r s m.has a.has (λ v. m.value v ∙ sym (a.value v))
