-- The answers that a table keeps.
use Rattle.std.proofs.Common.{◌≡◌, ◌↔◌, ℕ, inl, inr, Bool, true, false, cond, not, ◌&&◌, ◌||◌, nat_eq, nat_lt, ◌==◌, List, [], ◌∷◌, length, Option, Some, None, Contains, IfSome, IfNone, IfOk, Result, Ok, Err, refl, sym, ap, subst, ◌∙◌, arith, if◌then◌else◌}
use Rattle.std.specs.Map.{lookup}
use Rattle.std.proofs.lemmas.Bool.{eqb-true, eq-eqb}
use Rattle.lru.specs.LruCache.{LruCache, promoted, put_entries}
use Rattle.lru.proofs.Splits.{Contains-cons, Contains-nil}
use Rattle.lru.proofs.CallerLemmas.{Contains-lookup, Contains-promoted, Contains-put_entries}
use Rattle.hp_diagram.specs.declared.reference.Ref.{Ref}
use Rattle.hp_diagram.specs.declared.reference.Branch.{Branch}
use Rattle.hp_diagram.specs.declared.question.Question.{Question}
use Rattle.hp_diagram.specs.Diagrams.{Diagrams, zero_ref, one_ref, branch_at, path_end, function, turned, where_true, where_false, IsReduced, Means, choice, IsAnswer, IsSound, ordered, Keeps}
use Rattle.hp_diagram.proofs.Paths.{path_end-leaf}
use Rattle.hp_diagram.proofs.Canonical.{same_from_functions}
use Rattle.hp_diagram.proofs.Growth.{and_parts, Extends, IsNode-extends, branch_at-within, Keeps-from_extends, IsAnswer-kept}

-- `==` on questions, as it is derived
abbrev pub question_eq : Question → Question → Bool
question_eq x y = nat_eq x.f.index y.f.index && (nat_eq x.g.index y.g.index && nat_eq x.h.index y.h.index)

question_eq-same : (x y : Question) → question_eq x y ≡ true → x ≡ y
question_eq-same x y e =
    let first = and_parts (nat_eq x.f.index y.f.index) _ e in
    let second = and_parts (nat_eq x.g.index y.g.index) _ first.1 in
    let f : x.f.index ≡ y.f.index = eqb-true _ _ first.0 in
    let g : x.g.index ≡ y.g.index = eqb-true _ _ second.0 in
    let h : x.h.index ≡ y.h.index = eqb-true _ _ second.1 in
    λ j. record { f = record { index = f j }; g = record { index = g j }; h = record { index = h j } }

question_eq-refl : (x : Question) → question_eq x x ≡ true
question_eq-refl x = rw (eq-eqb x.f.index x.f.index refl, eq-eqb x.g.index x.g.index refl, eq-eqb x.h.index x.h.index refl) refl

abbrev Answers : Type 0
Answers = List (Question × Ref)

pub Contains-found : (es : Answers) (q : Question) (r : Ref) → lookup (question_eq q) es ≡ Some r → Contains es (q, r)
Contains-found es q r found =
    let p = Contains-lookup (question_eq q) es r found in
    subst (λ (k : Question). Contains es (k, r)) (sym (question_eq-same q p.0 p.2)) p.1

pub missing-lookup : (es : Answers) (q : Question) → lookup (question_eq q) es ≡ None → (r : Ref) → ¬ Contains es (q, r)
missing-lookup [] q none r there = Contains-nil (q, r) there
missing-lookup (e ∷ es) q none r there =
    elim (Contains-cons e es (q, r) there) [
      | inl here ↦
          let test : question_eq q e.0 ≡ true = ap (λ (p : Question × Ref). question_eq q p.0) here ∙ question_eq-refl q in
          let some : Some e.1 ≡ None = ap (λ c. cond c (Some e.1) (lookup (question_eq q) es)) (sym test) ∙ none in
          cc
      | inr later ↦ missing-lookup es q (rest (question_eq q e.0) none) r later
    ]
  where
    rest : (c : Bool) → cond c (Some e.1) (lookup (question_eq q) es) ≡ None → lookup (question_eq q) es ≡ None
    rest true h = cc
    rest false h = h

-- a table with the same nodes, and answers that are right
module _ (t u : Diagrams) (vars : u.vars ≡ t.vars) (nodes : u.nodes ≡ t.nodes) (sound : IsSound t) where
  Extends-same : Extends t u
  Extends-same = record { vars = vars; longer = omega (arith, ap length nodes); same = λ i within. ap (λ l. branch_at l i) nodes }

  old_node : (i : ℕ) (b : Branch) → branch_at u.nodes i ≡ Some b → branch_at t.nodes i ≡ Some b
  old_node i b h = ap (λ l. branch_at l i) (sym nodes) ∙ h

  IsReduced-same : IsReduced u
  IsReduced-same =
      record {
        nodes = λ i b h. IsNode-extends t u Extends-same i b (omega (arith, branch_at-within t.nodes i b (old_node i b h))) (sound.reduced.nodes i b (old_node i b h));
        distinct = λ i j b h k. sound.reduced.distinct i j b (old_node i b h) (old_node j b k);
      }

  pub Keeps-same : Keeps t u
  Keeps-same = Keeps-from_extends t u Extends-same sound.reduced IsReduced-same

  pub IsSound-same : ((q : Question) (r : Ref) → Contains u.answers (q, r) → IsAnswer t q r) → IsSound u
  IsSound-same right = record { reduced = IsReduced-same; answers = λ q r c. IsAnswer-kept t u q r Keeps-same (right q r c) }

-- after `promoted` the same answers are kept
pub right-promoted : (t : Diagrams) (test : Question → Bool) → IsSound t → (q : Question) (r : Ref) → Contains (promoted test t.answers) (q, r) → IsAnswer t q r
right-promoted t test sound q r there = sound.answers q r (Contains-promoted test t.answers (q, r) there)

-- after `put` one more is
pub right-put : (t : Diagrams) (c : LruCache Question Ref) (k : Question) (v : Ref) → c.entries ≡ t.answers → IsSound t → IsAnswer t k v → (q : Question) (r : Ref) → Contains (put_entries question_eq c k v) (q, r) → IsAnswer t q r
right-put t c k v same sound answer q r there =
    elim (Contains-put_entries question_eq c k v (q, r) there) [
      | inl old ↦ sound.answers q r (subst (λ (l : Answers). Contains l (q, r)) same old)
      | inr new ↦
          let key : k ≡ q = elim new.1 [
            | inl e ↦ sym e
            | inr p ↦ question_eq-same k q p.2
          ] in
          subst (λ (p : Question × Ref). IsAnswer t p.0 p.1) (λ j. (key j, sym new.0 j)) answer
    ]

-- the three references of a question in its two orders
abbrev asked : Ref → Ref → Ref → Bool → Bool → Question
asked f g h b c = if b then record { f = g; g = f; h = h } else (if c then record { f = h; g = g; h = f } else record { f = f; g = g; h = h })

-- what holds of the three, of false and of true, holds of the three of the ordered question
pub ordered_all : (P : Ref → Type 0) → P zero_ref → P one_ref → (f g h : Ref) → P f → P g → P h → P (ordered f g h).f × P (ordered f g h).g × P (ordered f g h).h
ordered_all P at_zero at_one f g h in_f in_g in_h =
    by (where_true f g) (where_false f h) (chosen (g.index == f.index) one_ref g at_one in_g) (chosen (h.index == f.index) zero_ref h at_zero in_h)
    ((((where_false f h).index) == 0) && nat_lt (where_true f g).index f.index) (((where_true f g).index == 1) && nat_lt (where_false f h).index f.index)
  where
    chosen : (b : Bool) (x y : Ref) → P x → P y → P (if b then x else y)
    chosen true x y in_x in_y = in_x
    chosen false x y in_x in_y = in_y

    by : (g' h' : Ref) → P g' → P h' → (b c : Bool) → P (asked f g' h' b c).f × P (asked f g' h' b c).g × P (asked f g' h' b c).h
    by g' h' in_g' in_h' true c = (in_g', in_f, in_h')
    by g' h' in_g' in_h' false true = (in_h', in_g', in_f)
    by g' h' in_g' in_h' false false = (in_f, in_g', in_h')

module _ (t : Diagrams) (v : ℕ → Bool) where
  pub function-zero : (r : Ref) → r.index ≡ 0 → function t r v ≡ false
  function-zero r e = path_end-leaf r.index t.nodes v r.index (ap (branch_at t.nodes) e) ∙ ap (λ i. i == 1) e

  pub function-one : (r : Ref) → r.index ≡ 1 → function t r v ≡ true
  function-one r e = path_end-leaf r.index t.nodes v r.index (ap (branch_at t.nodes) e) ∙ ap (λ i. i == 1) e

  and_comm : (a b c : Bool) → c ≡ false → (if b then a else c) ≡ (if a then b else c)
  and_comm true true c e = refl
  and_comm true false c e = e
  and_comm false true c e = sym e
  and_comm false false c e = refl

  or_comm : (a b c : Bool) → c ≡ true → (if b then c else a) ≡ (if a then c else b)
  or_comm true true c e = refl
  or_comm true false c e = sym e
  or_comm false true c e = e
  or_comm false false c e = refl

  -- the order of a question does not change its answer
  choice-turned : (f g h : Ref) → choice t (turned f g h).f (turned f g h).g (turned f g h).h v ≡ choice t f g h v
  choice-turned f g h = by ((h.index == 0) && nat_lt g.index f.index) refl ((g.index == 1) && nat_lt h.index f.index) refl
    where
      by : (b : Bool) → ((h.index == 0) && nat_lt g.index f.index) ≡ b → (c : Bool) → ((g.index == 1) && nat_lt h.index f.index) ≡ c → choice t (asked f g h b c).f (asked f g h b c).g (asked f g h b c).h v ≡ choice t f g h v
      by true e c k = and_comm (function t f v) (function t g v) (function t h v) (function-zero h (eqb-true _ _ (and_parts (h.index == 0) _ e).0))
      by false e true k = or_comm (function t f v) (function t h v) (function t g v) (function-one g (eqb-true _ _ (and_parts (g.index == 1) _ k).0))
      by false e false k = refl

  same_value : (x y : Ref) → x.index ≡ y.index → function t x v ≡ function t y v
  same_value x y e = ap (λ i. path_end i t.nodes v i) e

  -- nor does what a reference is where f is true, and where it is false
  choice-where : (f g h : Ref) → choice t f (where_true f g) (where_false f h) v ≡ choice t f g h v
  choice-where f g h =
      by (function t f v) refl (g.index == f.index) refl (h.index == f.index) refl
    where
      by : (a : Bool) → function t f v ≡ a → (b : Bool) → (g.index == f.index) ≡ b → (c : Bool) → (h.index == f.index) ≡ c → (if a then function t (if b then one_ref else g) v else function t (if c then zero_ref else h) v) ≡ (if a then function t g v else function t h v)
      by true at true e c k = function-one one_ref refl ∙ sym at ∙ sym (same_value g f (eqb-true g.index f.index e))
      by true at false e c k = refl
      by false at b e true k = function-zero zero_ref refl ∙ sym at ∙ sym (same_value h f (eqb-true h.index f.index k))
      by false at b e false k = refl

  pub choice-ordered : (f g h : Ref) → choice t (ordered f g h).f (ordered f g h).g (ordered f g h).h v ≡ choice t f g h v
  choice-ordered f g h = choice-turned f (where_true f g) (where_false f h) ∙ choice-where f g h

-- what a look-up tells: the fields show the table as t0, and the contract as t
module _ (t0 t : Diagrams) (view : t0 ≡ t) (sound : IsSound t0) (q : Question) (o : Option Ref) (found : o ≡ lookup (question_eq q) t0.answers) where
  same_answers : t0.answers ≡ t.answers
  same_answers = ap (λ (w : Diagrams). w.answers) view

  contained : (r : Ref) → o ≡ Some r → Contains t.answers (q, r)
  contained r e = subst (λ (l : Answers). Contains l (q, r)) same_answers (Contains-found t0.answers q r (sym found ∙ e))

  pub IfSome-recall : IfSome o (λ r. Contains t.answers (q, r))
  IfSome-recall = (elim o as (λ p. o ≡ p → IfSome p (λ r. Contains t.answers (q, r))) [ None ↦ λ _. tt | Some r ↦ λ e. contained r e ]) refl

  not_contained : o ≡ None → (r : Ref) → ¬ Contains t.answers (q, r)
  not_contained e r there = missing-lookup t0.answers q (sym found ∙ e) r (subst (λ (l : Answers). Contains l (q, r)) (sym same_answers) there)

  pub IfNone-recall : IfNone o ((r : Ref) → ¬ Contains t.answers (q, r))
  IfNone-recall = (elim o as (λ p. o ≡ p → IfNone p ((r : Ref) → ¬ Contains t.answers (q, r))) [ None ↦ λ e. not_contained e | Some r ↦ λ _. tt ]) refl

  is_sound : IsSound t
  is_sound = subst IsSound view sound

  -- a question has one answer
  one_answer : (r s : Ref) → Contains t.answers (q, r) → Contains t.answers (q, s) → r ≡ s
  one_answer r s in_r in_s =
      let a = is_sound.answers q r in_r in
      let b = is_sound.answers q s in_s in
      same_from_functions t is_sound.reduced r s a.means.has b.means.has (λ v. a.means.value v ∙ sym (b.means.value v))

  pub kept-recall : (r : Ref) → (o ≡ Some r) ↔ Contains t.answers (q, r)
  kept-recall r = (contained r, λ there. (elim o as (λ p. o ≡ p → p ≡ Some r) [ None ↦ λ e. absurd (not_contained e r there) | Some s ↦ λ e. ap Some (one_answer s r (contained s e) there) ]) refl)

  pub answer-recall : IfSome o (Means t (choice t q.f q.g q.h))
  answer-recall = (elim o as (λ p. o ≡ p → IfSome p (Means t (choice t q.f q.g q.h))) [ None ↦ λ _. tt | Some r ↦ λ e. (is_sound.answers q r (contained r e)).means ]) refl

-- the answer to the ordered question is the answer to the question
pub Means-ordered : (t : Diagrams) (f g h r : Ref) → Means t (choice t (ordered f g h).f (ordered f g h).g (ordered f g h).h) r → Means t (choice t f g h) r
Means-ordered t f g h r m = record { has = m.has; value = λ v. m.value v ∙ choice-ordered t v f g h }

pub IfSome-ordered : (t : Diagrams) (f g h : Ref) (o : Option Ref) → IfSome o (Means t (choice t (ordered f g h).f (ordered f g h).g (ordered f g h).h)) → IfSome o (Means t (choice t f g h))
IfSome-ordered t f g h None m = tt
IfSome-ordered t f g h (Some r) m = Means-ordered t f g h r m

-- a reference of a function is one of the same function by other words
pub IfOk-same : {E : Type 0} (t : Diagrams) (f g : (ℕ → Bool) → Bool) → ((v : ℕ → Bool) → f v ≡ g v) → (o : Result Ref E) → IfOk o (Means t f) → IfOk o (Means t g)
IfOk-same t f g same (Ok r) m = record { has = m.has; value = λ v. m.value v ∙ same v }
IfOk-same t f g same (Err e) m = tt

module _ (t : Diagrams) (v : ℕ → Bool) (low high : Ref) (is_zero : low ≡ zero_ref) (is_one : high ≡ one_ref) where
  zero_value : function t low v ≡ false
  zero_value = function-zero t v low (ap (λ (r : Ref). r.index) is_zero)

  one_value : function t high v ≡ true
  one_value = function-one t v high (ap (λ (r : Ref). r.index) is_one)

  pub value-var : (x : ℕ) → (if v x then function t high v else function t low v) ≡ v x
  value-var x = (λ j. if v x then one_value j else zero_value j) ∙ (elim (v x) as (λ c. (if c then true else false) ≡ c) [ true ↦ refl | false ↦ refl ])

  pub value-not : (f : Ref) → choice t f low high v ≡ not (function t f v)
  value-not f = (λ j. if function t f v then zero_value j else one_value j) ∙ (elim (function t f v) as (λ c. (if c then false else true) ≡ not c) [ true ↦ refl | false ↦ refl ])

  pub value-and : (f g : Ref) → choice t f g low v ≡ (function t f v && function t g v)
  value-and f g = (λ j. if function t f v then function t g v else zero_value j) ∙ (elim (function t f v) as (λ c. (if c then function t g v else false) ≡ (c && function t g v)) [ true ↦ refl | false ↦ refl ])

  pub value-or : (f g : Ref) → choice t f high g v ≡ (function t f v || function t g v)
  value-or f g = (λ j. if function t f v then one_value j else function t g v) ∙ (elim (function t f v) as (λ c. (if c then true else function t g v) ≡ (c || function t g v)) [ true ↦ refl | false ↦ refl ])
