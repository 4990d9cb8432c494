-- A list of nodes that takes a node, and a table that grows.
use Rattle.std.proofs.Common.{◌≡◌, ◌≢◌, ℕ, zero, suc, ◌+◌, ◌^◌, ◌<◌, ◌≤◌, ◌⊎◌, inl, inr, Bool, true, false, ◌&&◌, ◌||◌, nat_eq, List, [], ◌∷◌, ◌++◌, length, get_or, slice_get, Option, Some, None, Contains, refl, sym, ap, subst, ◌∙◌, arith, if◌then◌else◌, true≢false}
use Rattle.std.specs.List.{list_any, position_or_len}
use Rattle.std.specs.Option.{option_map_or}
use Rattle.std.proofs.lemmas.Bool.{cases_lt, eqb-true, eq-eqb}
use Rattle.std.proofs.lemmas.List.{length_push}
use Rattle.std.proofs.lemmas.Option.{slice_get_within}
use Rattle.hp_diagram.specs.declared.reference.Ref.{Ref}
use Rattle.hp_diagram.specs.declared.reference.Branch.{Branch}
use Rattle.hp_diagram.specs.declared.question.Question.{Question}
use Rattle.hp_diagram.specs.declared.recent.Answered.{Answered}
use Rattle.hp_diagram.specs.Diagrams.{Diagrams, branch_at, function, Has, branch_of, level, IsNode, IsReduced, Means, IsAnswer, AreAnswers, IsSound, Stores, Keeps}
use Rattle.hp_diagram.proofs.Paths.{path_end-same, function-node, AreBelow-nodes}

-- `==` on nodes, as it is derived
abbrev branch_eq : Branch → Branch → Bool
branch_eq x y = nat_eq x.var y.var && (nat_eq x.low.index y.low.index && nat_eq x.high.index y.high.index)

pub and_parts : (p q : Bool) → (p && q) ≡ true → (p ≡ true) × (q ≡ true)
and_parts true q h = (refl, h)
and_parts false q h = absurd (true≢false (sym h))

or_right : (p q : Bool) → (p || q) ≡ false → q ≡ false
or_right true q h = absurd (true≢false h)
or_right false q h = h

pub branch_eq-same : (x y : Branch) → branch_eq x y ≡ true → x ≡ y
branch_eq-same x y h =
    let first = and_parts (nat_eq x.var y.var) _ h in
    let second = and_parts (nat_eq x.low.index y.low.index) _ first.1 in
    let var : x.var ≡ y.var = eqb-true _ _ first.0 in
    let low : x.low.index ≡ y.low.index = eqb-true _ _ second.0 in
    let high : x.high.index ≡ y.high.index = eqb-true _ _ second.1 in
    λ j. record { var = var j; low = record { index = low j }; high = record { index = high j } }

branch_eq-refl : (x : Branch) → branch_eq x x ≡ true
branch_eq-refl x = rw (eq-eqb x.var x.var refl, eq-eqb x.low.index x.low.index refl, eq-eqb x.high.index x.high.index refl) refl

position-none : {X : Type 0} (p : X → Bool) (xs : List X) → list_any p xs ≡ false → position_or_len p xs ≡ length xs
position-none p [] h = refl
position-none p (x ∷ xs) h = by (p x) refl (position-none p xs)
  where
    by : (b : Bool) → p x ≡ b → (list_any p xs ≡ false → position_or_len p xs ≡ length xs) → position_or_len p (x ∷ xs) ≡ length (x ∷ xs)
    by true e rest = absurd (true≢false (rw e at h))
    by false e rest = rw e (omega (arith, rest (rw e at h)))

absent-none : (b : Branch) (xs : List Branch) → list_any (branch_eq b) xs ≡ false → (i : ℕ) → slice_get xs i ≢ Some b
absent-none b [] h i s = cc
absent-none b (x ∷ xs) h zero s =
    let same : b ≡ x = cc in
    true≢false (sym (ap (λ c. c || list_any (branch_eq b) xs) (ap (branch_eq b) (sym same) ∙ branch_eq-refl b)) ∙ h)
absent-none b (x ∷ xs) h (suc i) s = absent-none b xs (or_right (branch_eq b x) (list_any (branch_eq b) xs) h) i s

-- what `insert_full` says, in the words of `Stores`
pub Stores-from_insert : (old new : List Branch) (b : Branch) (place : ℕ) → new ≡ (if list_any (branch_eq b) old then old else old ++ b ∷ []) → place ≡ position_or_len (branch_eq b) old → (x : Branch) × (slice_get new place ≡ Some x) × (branch_eq b x ≡ true) → place < 2 ^ 63 → Stores old new b place
Stores-from_insert old new b place keys index stored small =
    record {
      stands = stored.1 ∙ ap Some (sym (branch_eq-same b stored.0 stored.2));
      grows = by (list_any (branch_eq b) old) refl;
      small = small;
    }
  where
    by : (c : Bool) → list_any (branch_eq b) old ≡ c → (new ≡ old) ⊎ ((new ≡ old ++ b ∷ []) × (place ≡ length old) × ((i : ℕ) → slice_get old i ≢ Some b))
    by true e = inl (keys ∙ ap (λ c. if c then old else old ++ b ∷ []) e)
    by false e = inr (keys ∙ ap (λ c. if c then old else old ++ b ∷ []) e, index ∙ position-none (branch_eq b) old e, absent-none b old e)

pub branch_at-within : (nodes : List Branch) (i : ℕ) (b : Branch) → branch_at nodes i ≡ Some b → i < length nodes + 2
branch_at-within nodes zero b h = omega arith
branch_at-within nodes (suc zero) b h = omega arith
branch_at-within nodes (suc (suc i)) b h = omega (arith, slice_get_within nodes i b h)

slice_get-append : (xs ys : List Branch) (i : ℕ) → i < length xs → slice_get (xs ++ ys) i ≡ slice_get xs i
slice_get-append [] ys i within = absurd (omega arith)
slice_get-append (x ∷ xs) ys zero within = refl
slice_get-append (x ∷ xs) ys (suc i) within = slice_get-append xs ys i (omega arith)

branch_at-append : (xs ys : List Branch) (i : ℕ) → i < length xs + 2 → branch_at (xs ++ ys) i ≡ branch_at xs i
branch_at-append xs ys zero within = refl
branch_at-append xs ys (suc zero) within = refl
branch_at-append xs ys (suc (suc i)) within = slice_get-append xs ys i (omega arith)

-- the second table has the nodes of the first where they stand there
pub record Extends (t u : Diagrams) : Type 0 where
  pub vars : u.vars ≡ t.vars
  pub longer : length t.nodes ≤ length u.nodes
  pub same : (i : ℕ) → i < length t.nodes + 2 → branch_at u.nodes i ≡ branch_at t.nodes i

module _ (t u : Diagrams) (extends : Extends t u) where
  level-extends : (r : Ref) → Has t r → level u r ≡ level t r
  level-extends r has = (λ j. option_map_or (λ (b : Branch). b.var) (extends.same r.index has j) (extends.vars j))

  pub IsNode-extends : (i : ℕ) (b : Branch) → i < length t.nodes + 3 → IsNode t i b → IsNode u i b
  IsNode-extends i b within n =
      record {
        low = n.low;
        high = n.high;
        differ = n.differ;
        var = omega (arith, n.var, extends.vars);
        low_later = omega (arith, n.low_later, level-extends b.low (omega (arith, n.low)));
        high_later = omega (arith, n.high_later, level-extends b.high (omega (arith, n.high)));
      }

  pub Keeps-from_extends : IsReduced t → IsReduced u → Keeps t u
  Keeps-from_extends reduced reduced' =
      record {
        reduced = reduced';
        vars = extends.vars;
        has = λ r has. omega (arith, has, extends.longer);
        branches = λ r has. extends.same r.index has;
        functions = λ r has v. path_end-same t.nodes u.nodes v (AreBelow-nodes t reduced) extends.same r.index r.index has;
      }

-- an answer stays one
pub IsAnswer-kept : (t u : Diagrams) (q : Question) (r : Ref) → Keeps t u → IsAnswer t q r → IsAnswer u q r
IsAnswer-kept t u q r keeps a =
    let f = keeps.functions q.f a.f in
    let g = keeps.functions q.g a.g in
    let h = keeps.functions q.h a.h in
    record {
      f = keeps.has q.f a.f;
      g = keeps.has q.g a.g;
      h = keeps.has q.h a.h;
      means = record {
        has = keeps.has r a.means.has;
        value = λ v. keeps.functions r a.means.has v ∙ a.means.value v ∙ (λ j. if sym (f v) j then sym (g v) j else sym (h v) j);
      };
    }

pub AreAnswers-kept : (t u : Diagrams) → Keeps t u → (recent : List Answered) → AreAnswers t recent → AreAnswers u recent
AreAnswers-kept t u keeps recent all = λ k d within. IsAnswer-kept t u (get_or recent k d).question (get_or recent k d).answer keeps (all k d within)

pub IsSound-kept : (t u : Diagrams) → Keeps t u → u.answers ≡ t.answers → IsSound t → IsSound u
IsSound-kept t u keeps answers sound =
    record {
      reduced = keeps.reduced;
      answers = λ q r c. IsAnswer-kept t u q r keeps (sound.answers q r (subst (λ l. Contains l (q, r)) answers c));
    }

module _ (t u : Diagrams) (reduced : IsReduced t) (vars : u.vars ≡ t.vars) (b : Branch) (place : ℕ) (stores : Stores t.nodes u.nodes b place) (node : IsNode t (length t.nodes + 2) b) where
  Extends-stores : Extends t u
  Extends-stores =
      elim stores.grows [
        | inl e ↦ record { vars = vars; longer = omega (arith, ap length e); same = λ i within. ap (λ l. branch_at l i) e }
        | inr p ↦ record { vars = vars; longer = omega (arith, ap length p.0, length_push t.nodes b); same = λ i within. ap (λ l. branch_at l i) p.0 ∙ branch_at-append t.nodes (b ∷ []) i within }
      ]

  pub stands-at : branch_at u.nodes (place + 2) ≡ Some b
  stands-at = let e : place + 2 ≡ suc (suc place) = omega arith in rw e stores.stands

  absent_at : ((i : ℕ) → slice_get t.nodes i ≢ Some b) → (i : ℕ) → branch_at t.nodes i ≢ Some b
  absent_at absent zero h = cc
  absent_at absent (suc zero) h = cc
  absent_at absent (suc (suc i)) h = absent i h

  -- a node of the new table stood in the old one, or is the new node
  stood : (i : ℕ) (c : Branch) → branch_at u.nodes i ≡ Some c → (branch_at t.nodes i ≡ Some c) ⊎ ((i ≡ length t.nodes + 2) × (c ≡ b) × ((j : ℕ) → branch_at t.nodes j ≢ Some b))
  stood i c h =
      elim (cases_lt i (length t.nodes + 2)) [
        | inl before ↦ inl (sym (Extends-stores.same i before) ∙ h)
        | inr behind ↦ elim stores.grows [
          | inl e ↦ inl (ap (λ l. branch_at l i) (sym e) ∙ h)
          | inr p ↦
              let within = branch_at-within u.nodes i c h in
              let last : i ≡ place + 2 = omega (arith, p.1, within, ap length p.0, length_push t.nodes b) in
              let node : Some c ≡ Some b = sym h ∙ ap (branch_at u.nodes) last ∙ stands-at in
              inr (omega (arith, last, p.1), cc, absent_at p.2)
        ]
      ]

  IsReduced-stores : IsReduced u
  IsReduced-stores =
      record {
        nodes = λ i c h. elim (stood i c h) [
          | inl old ↦ IsNode-extends t u Extends-stores i c (omega (arith, branch_at-within t.nodes i c old)) (reduced.nodes i c old)
          | inr new ↦ subst (λ k. IsNode u k c) (sym new.0) (subst (IsNode u (length t.nodes + 2)) (sym new.1) (IsNode-extends t u Extends-stores (length t.nodes + 2) b (omega arith) node))
        ];
        distinct = λ i j c h k. elim (stood i c h) [
          | inl old_i ↦ elim (stood j c k) [
            | inl old_j ↦ reduced.distinct i j c old_i old_j
            | inr new_j ↦ absurd (new_j.2 i (old_i ∙ ap Some new_j.1))
          ]
          | inr new_i ↦ elim (stood j c k) [
            | inl old_j ↦ absurd (new_i.2 j (old_j ∙ ap Some new_i.1))
            | inr new_j ↦ new_i.0 ∙ sym new_j.0
          ]
        ];
      }

  pub Keeps-stores : Keeps t u
  Keeps-stores = Keeps-from_extends t u Extends-stores reduced IsReduced-stores

  pub Means-stores : Means u (λ v. if v b.var then function t b.high v else function t b.low v) (record { index = place + 2 })
  Means-stores =
      let r : Ref = record { index = place + 2 } in
      record {
        has = omega (arith, branch_at-within u.nodes (place + 2) b stands-at);
        value = λ v.
            let low = Keeps-stores.functions b.low (omega (arith, node.low)) v in
            let high = Keeps-stores.functions b.high (omega (arith, node.high)) v in
            function-node u IsReduced-stores r b stands-at v ∙ (λ j. if v b.var then high j else low j);
      }

  -- no other reference comes into the table
  pub only-stores : (s : Ref) → Has u s → Has t s ⊎ (s ≡ record { index = place + 2 })
  only-stores s has =
      elim (cases_lt s.index (length t.nodes + 2)) [
        | inl before ↦ inl before
        | inr behind ↦ elim stores.grows [
          | inl e ↦ inl (omega (arith, has, ap length e))
          | inr p ↦
              let index : s.index ≡ place + 2 = omega (arith, has, behind, p.1, ap length p.0, length_push t.nodes b) in
              inr (λ j. record { index = index j })
        ]
      ]

-- what `node` needs: the table before, as the fields show it and as the contract does, and the table after
module _ (t0 t u : Diagrams) (view : t0 ≡ t) (sound : IsSound t0) (vars : u.vars ≡ t0.vars) (answers : u.answers ≡ t0.answers) (b : Branch) (place : ℕ) (stored : Stores t0.nodes u.nodes b place)
    (low : Has t b.low) (high : Has t b.high) (differ : b.low ≢ b.high) (low_later : b.var < level t b.low) (high_later : b.var < level t b.high) where
  was : IsSound t
  was = subst IsSound view sound

  level-within : (r : Ref) → level t r ≤ t.vars
  level-within r = by (branch_of t r) refl
    where
      by : (o : Option Branch) → branch_of t r ≡ o → level t r ≤ t.vars
      by None h = omega (arith, ap (λ o. option_map_or (λ (b : Branch). b.var) o t.vars) h)
      by (Some c) h =
          let n = was.reduced.nodes r.index c h in
          omega (arith, n.var, ap (λ o. option_map_or (λ (b : Branch). b.var) o t.vars) h)

  may_stand : IsNode t (length t.nodes + 2) b
  may_stand = record { low = low; high = high; differ = differ; var = omega (arith, low_later, level-within b.low); low_later = low_later; high_later = high_later }

  stores : Stores t.nodes u.nodes b place
  stores = subst (λ (w : Diagrams). Stores w.nodes u.nodes b place) view stored

  same_vars : u.vars ≡ t.vars
  same_vars = vars ∙ ap (λ (w : Diagrams). w.vars) view

  pub Keeps-node : Keeps t u
  Keeps-node = Keeps-stores t u was.reduced same_vars b place stores may_stand

  pub IsSound-node : IsSound u
  IsSound-node = IsSound-kept t u Keeps-node (answers ∙ ap (λ (w : Diagrams). w.answers) view) was

  pub Means-node : Means u (λ v. if v b.var then function t b.high v else function t b.low v) (record { index = place + 2 })
  Means-node = Means-stores t u was.reduced same_vars b place stores may_stand

  pub stands-node : branch_at u.nodes (place + 2) ≡ Some b
  stands-node = stands-at t u was.reduced same_vars b place stores may_stand

  pub only-node : (s : Ref) → Has u s → Has t s ⊎ (s ≡ record { index = place + 2 })
  only-node = only-stores t u was.reduced same_vars b place stores may_stand
