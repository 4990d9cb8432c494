-- Each number is that of one place.
use Rattle.std.proofs.Common.{◌≡◌, ◌⊎◌, inl, inr, ⊎_elim, ℕ, zero, suc, ◌+◌, Bool, true, false, if◌then◌else◌, List, [], ◌∷◌, ◌++◌, length, Option, None, Some, refl, ap, subst, ◌∙◌, arith}
use Rattle.std.specs.Str.{bytes_eq}
use Rattle.std.proofs.lemmas.Slice.Eq.{bytes_eq-Decides}
use Rattle.std.proofs.lemmas.List.{length-append, length-map}
use Rattle.hp_tree.specs.declared.block.Trans.{Trans}
use Rattle.hp_tree.specs.Expressions.{Expr, constant, variable, last_of, one, two, choose, pre, fby, arrow, when_is, merge, call, Exprs, no_expr, more_exprs, Parts, no_part, more_parts}
use Rattle.hp_tree.specs.Blocks.{Decl, Block, block, Eqns, no_eqn, more_eqns, Eqn, define, switch, reset, automaton, Arms, no_arm, more_arms, States, no_state, more_states}
use Rattle.hp_tree.specs.Programs.{Contract, Node}
use Rattle.hp_tree.specs.Instant.{Step, Controls, Body, Observer, Assume, Enforce, Named, Fresh, Equations, Head, Tail, Right, Test, Arms as ArmsOf, States as StatesOf, Until, Unless, Active, Next, First, Second, Third, Args, Place}
use Rattle.hp_tree.specs.Meaning.{controls_of}
use Rattle.hp_tables.specs.Defining.Layers.{numbered}
use Rattle.hp_tables.specs.Defining.Names.{names_in}
use Rattle.hp_cause.specs.Ends.{nth, step_in, ends_of_expr, ends_of_exprs, ends_of_parts, own_end, ends_of_test, ends_of_tests, ends_of_names, own_ends, ends_inside, ends_of_eqns, ends_of_eqn, ends_of_arms, ends_of_states, ends_of_told, ends_of_contract, ends_of_controls, ends_of_node}
use Rattle.hp_cause.specs.Vertices.{calls_in, calls_in_all, calls_in_parts, own_of_test, is_call, size_of_tests, own_size, size_inside, size_of, size_of_all, size_of_arms, size_of_states, size_of_told, size_of_contract, number_expr, number_exprs, number_parts, number_test, number_tests, number_block, number_eqns, number_eqn, number_arms, number_states, number_told, number_contract, number_controls, first_of_body, first_of_contract, first_inside, number_node}

-- ---- as many as there are numbers

two_parts : (xs ys : List Place) (m n : ℕ) → length xs ≡ m → length ys ≡ n → length (xs ++ ys) ≡ m + n
two_parts xs ys m n h g = length-append xs ys ∙ ap (λ k. k + length ys) h ∙ ap (λ k. m + k) g

one_part : (s : Step) (ps : List Place) (n : ℕ) → length ps ≡ n → length (step_in s ps) ≡ n
one_part s ps n h = length-map ps (λ p. s ∷ p) ∙ h

one_more : (p : Place) (ps : List Place) (n : ℕ) → length ps ≡ n → length (p ∷ ps) ≡ 1 + n
one_more p ps n h = let e : length ps ≡ n = h in omega arith

mutual
  count_expr : (e : Expr) → length (ends_of_expr e) ≡ calls_in e
  count_expr (constant s c) = refl
  count_expr (variable s x) = refl
  count_expr (last_of s x) = refl
  count_expr (one s o a) = one_part First (ends_of_expr a) (calls_in a) (count_expr a)
  count_expr (two s o a b) = two_parts (step_in First (ends_of_expr a)) (step_in Second (ends_of_expr b)) (calls_in a) (calls_in b) (one_part First (ends_of_expr a) (calls_in a) (count_expr a)) (one_part Second (ends_of_expr b) (calls_in b) (count_expr b))
  count_expr (choose s a b c) =
      two_parts (step_in First (ends_of_expr a)) (step_in Second (ends_of_expr b) ++ step_in Third (ends_of_expr c)) (calls_in a) (calls_in b + calls_in c) (one_part First (ends_of_expr a) (calls_in a) (count_expr a))
      (two_parts (step_in Second (ends_of_expr b)) (step_in Third (ends_of_expr c)) (calls_in b) (calls_in c) (one_part Second (ends_of_expr b) (calls_in b) (count_expr b)) (one_part Third (ends_of_expr c) (calls_in c) (count_expr c)))
  count_expr (pre s a) = one_part First (ends_of_expr a) (calls_in a) (count_expr a)
  count_expr (fby s a b) = two_parts (step_in First (ends_of_expr a)) (step_in Second (ends_of_expr b)) (calls_in a) (calls_in b) (one_part First (ends_of_expr a) (calls_in a) (count_expr a)) (one_part Second (ends_of_expr b) (calls_in b) (count_expr b))
  count_expr (arrow s a b) = two_parts (step_in First (ends_of_expr a)) (step_in Second (ends_of_expr b)) (calls_in a) (calls_in b) (one_part First (ends_of_expr a) (calls_in a) (count_expr a)) (one_part Second (ends_of_expr b) (calls_in b) (count_expr b))
  count_expr (when_is s a c x) = one_part First (ends_of_expr a) (calls_in a) (count_expr a)
  count_expr (merge s x ps) = one_part Args (ends_of_parts ps) (calls_in_parts ps) (count_parts ps)
  count_expr (call s f i es) = one_more [] (step_in Args (ends_of_exprs es)) (calls_in_all es) (one_part Args (ends_of_exprs es) (calls_in_all es) (count_exprs es))

  count_exprs : (es : Exprs) → length (ends_of_exprs es) ≡ calls_in_all es
  count_exprs no_expr = refl
  count_exprs (more_exprs e es) = two_parts (step_in Head (ends_of_expr e)) (step_in Tail (ends_of_exprs es)) (calls_in e) (calls_in_all es) (one_part Head (ends_of_expr e) (calls_in e) (count_expr e)) (one_part Tail (ends_of_exprs es) (calls_in_all es) (count_exprs es))

  count_parts : (ps : Parts) → length (ends_of_parts ps) ≡ calls_in_parts ps
  count_parts no_part = refl
  count_parts (more_parts c e ps) = two_parts (step_in Head (ends_of_expr e)) (step_in Tail (ends_of_parts ps)) (calls_in e) (calls_in_parts ps) (one_part Head (ends_of_expr e) (calls_in e) (count_expr e)) (one_part Tail (ends_of_parts ps) (calls_in_parts ps) (count_parts ps))

abbrev own_by : Bool → List Place
own_by d = if d then [] else [] ∷ []

count_own : (e : Expr) → length (own_end e) ≡ own_of_test e
count_own e = by (is_call e)
  where
    by : (d : Bool) → length (own_by d) ≡ (if d then 0 else 1)
    by true = refl
    by false = refl

count_test : (e : Expr) → length (ends_of_test e) ≡ own_of_test e + calls_in e
count_test e = two_parts (own_end e) (ends_of_expr e) (own_of_test e) (calls_in e) (count_own e) (count_expr e)

count_tests : (ts : List Trans) → length (ends_of_tests ts) ≡ size_of_tests ts
count_tests [] = refl
count_tests (t ∷ ts) = two_parts (step_in Head (ends_of_test t.cond)) (step_in Tail (ends_of_tests ts)) (own_of_test t.cond + calls_in t.cond) (size_of_tests ts) (one_part Head (ends_of_test t.cond) (own_of_test t.cond + calls_in t.cond) (count_test t.cond)) (one_part Tail (ends_of_tests ts) (size_of_tests ts) (count_tests ts))

count_names : (b : Block) → length (own_ends b) ≡ own_size b
count_names (block ds es) = length-map (names_in es) (λ x. Named x ∷ [])

mutual
  count_inside : (b : Block) → length (ends_inside b) ≡ size_inside b
  count_inside (block ds es) = one_part Equations (ends_of_eqns es) (size_of_all es) (count_eqns es)

  count_eqns : (es : Eqns) → length (ends_of_eqns es) ≡ size_of_all es
  count_eqns no_eqn = refl
  count_eqns (more_eqns e es) = two_parts (step_in Head (ends_of_eqn e)) (step_in Tail (ends_of_eqns es)) (size_of e) (size_of_all es) (one_part Head (ends_of_eqn e) (size_of e) (count_eqn e)) (one_part Tail (ends_of_eqns es) (size_of_all es) (count_eqns es))

  count_eqn : (e : Eqn) → length (ends_of_eqn e) ≡ size_of e
  count_eqn (define at ys e) = one_part Right (ends_of_expr e) (calls_in e) (count_expr e)
  count_eqn (switch at e arms) =
      one_more (Fresh ∷ []) (step_in Test (ends_of_expr e) ++ step_in ArmsOf (ends_of_arms arms)) (calls_in e + size_of_arms arms)
      (two_parts (step_in Test (ends_of_expr e)) (step_in ArmsOf (ends_of_arms arms)) (calls_in e) (size_of_arms arms) (one_part Test (ends_of_expr e) (calls_in e) (count_expr e)) (one_part ArmsOf (ends_of_arms arms) (size_of_arms arms) (count_arms arms)))
  count_eqn (reset at b e) =
      one_more (Fresh ∷ []) (step_in Body (own_ends b ++ ends_inside b) ++ step_in Test (ends_of_expr e)) ((own_size b + size_inside b) + calls_in e)
      (two_parts (step_in Body (own_ends b ++ ends_inside b)) (step_in Test (ends_of_expr e)) (own_size b + size_inside b) (calls_in e)
      (one_part Body (own_ends b ++ ends_inside b) (own_size b + size_inside b) (two_parts (own_ends b) (ends_inside b) (own_size b) (size_inside b) (count_names b) (count_inside b))) (one_part Test (ends_of_expr e) (calls_in e) (count_expr e)))
  count_eqn (automaton at ss) =
      let e : length (step_in StatesOf (ends_of_states ss)) ≡ size_of_states ss = one_part StatesOf (ends_of_states ss) (size_of_states ss) (count_states ss) in omega arith

  count_arms : (arms : Arms) → length (ends_of_arms arms) ≡ size_of_arms arms
  count_arms no_arm = refl
  count_arms (more_arms c b at arms) =
      two_parts (step_in Head (own_ends b ++ ends_inside b)) (step_in Tail (ends_of_arms arms)) (own_size b + size_inside b) (size_of_arms arms)
      (one_part Head (own_ends b ++ ends_inside b) (own_size b + size_inside b) (two_parts (own_ends b) (ends_inside b) (own_size b) (size_inside b) (count_names b) (count_inside b))) (one_part Tail (ends_of_arms arms) (size_of_arms arms) (count_arms arms))

  count_states : (ss : States) → length (ends_of_states ss) ≡ size_of_states ss
  count_states no_state = refl
  count_states (more_states f b until unless at ss) =
      two_parts (step_in Head (step_in Body (own_ends b ++ ends_inside b) ++ (step_in Until (ends_of_tests until) ++ step_in Unless (ends_of_tests unless)))) (step_in Tail (ends_of_states ss)) ((own_size b + size_inside b) + (size_of_tests until + size_of_tests unless)) (size_of_states ss)
      (one_part Head (step_in Body (own_ends b ++ ends_inside b) ++ (step_in Until (ends_of_tests until) ++ step_in Unless (ends_of_tests unless))) ((own_size b + size_inside b) + (size_of_tests until + size_of_tests unless))
      (two_parts (step_in Body (own_ends b ++ ends_inside b)) (step_in Until (ends_of_tests until) ++ step_in Unless (ends_of_tests unless)) (own_size b + size_inside b) (size_of_tests until + size_of_tests unless)
      (one_part Body (own_ends b ++ ends_inside b) (own_size b + size_inside b) (two_parts (own_ends b) (ends_inside b) (own_size b) (size_inside b) (count_names b) (count_inside b)))
      (two_parts (step_in Until (ends_of_tests until)) (step_in Unless (ends_of_tests unless)) (size_of_tests until) (size_of_tests unless) (one_part Until (ends_of_tests until) (size_of_tests until) (count_tests until)) (one_part Unless (ends_of_tests unless) (size_of_tests unless) (count_tests unless)))))
      (one_part Tail (ends_of_states ss) (size_of_states ss) (count_states ss))

-- ---- where a number is

-- The number v is that of the place p, where the places are numbered from k on.
pub record IsPlaced (ps : List Place) (k v : ℕ) (p : Place) : Type 0 where
  pub index : ℕ
  pub number : v ≡ k + index
  pub place : nth ps index ≡ Some p

nth-below : (s : Step) (ps : List Place) (i : ℕ) (p : Place) → nth ps i ≡ Some p → nth (step_in s ps) i ≡ Some (s ∷ p)
nth-below s [] i p h = absurd cc
nth-below s (x ∷ ps) zero p h = let same : x ≡ p = cc in ap (λ y. Some (s ∷ y)) same
nth-below s (x ∷ ps) (suc i) p h = nth-below s ps i p h

nth-fore : (xs ys : List Place) (i : ℕ) (p : Place) → nth xs i ≡ Some p → nth (xs ++ ys) i ≡ Some p
nth-fore [] ys i p h = absurd cc
nth-fore (x ∷ xs) ys zero p h = h
nth-fore (x ∷ xs) ys (suc i) p h = nth-fore xs ys i p h

nth-rear : (xs ys : List Place) (i : ℕ) → nth (xs ++ ys) (i + length xs) ≡ nth ys i
nth-rear [] ys i = ap (nth ys) (omega arith)
nth-rear (x ∷ xs) ys i = ap (nth (x ∷ (xs ++ ys))) (let e : i + suc (length xs) ≡ suc (i + length xs) = omega arith in e) ∙ nth-rear xs ys i

step : (s : Step) (ps : List Place) (k v : ℕ) (p : Place) → IsPlaced ps k v p → IsPlaced (step_in s ps) k v (s ∷ p)
step s ps k v p h = record { index = h.index; number = h.number; place = nth-below s ps h.index p h.place }

fore : (xs ys : List Place) (k v : ℕ) (p : Place) → IsPlaced xs k v p → IsPlaced (xs ++ ys) k v p
fore xs ys k v p h = record { index = h.index; number = h.number; place = nth-fore xs ys h.index p h.place }

rear : (xs ys : List Place) (n k v : ℕ) (p : Place) → length xs ≡ n → IsPlaced ys (k + n) v p → IsPlaced (xs ++ ys) k v p
rear xs ys n k v p e h =
    record {
      index = h.index + length xs;
      number = let a : v ≡ (k + n) + h.index = h.number in let b : length xs ≡ n = e in omega arith;
      place = nth-rear xs ys h.index ∙ h.place;
    }

top : (p : Place) (ps : List Place) (k v : ℕ) → Some k ≡ Some v → IsPlaced (p ∷ ps) k v p
top p ps k v h = let e : k ≡ v = cc in record { index = 0; number = omega arith; place = refl }

behind : (q : Place) (ps : List Place) (k v : ℕ) (p : Place) → IsPlaced ps (k + 1) v p → IsPlaced (q ∷ ps) k v p
behind q ps k v p h = rear (q ∷ []) ps 1 k v p refl h

placed_name : (xs : List (List ℕ)) (k v : ℕ) (x : List ℕ) → numbered k xs x ≡ Some v → IsPlaced (ends_of_names xs) k v (Named x ∷ [])
placed_name [] k v x h = absurd cc
placed_name (y ∷ ys) k v x h = by (bytes_eq y x) refl (placed_name ys (k + 1) v x) h
  where
    by : (d : Bool) → bytes_eq y x ≡ d → (numbered (k + 1) ys x ≡ Some v → IsPlaced (ends_of_names ys) (k + 1) v (Named x ∷ []))
        → (if d then Some k else numbered (k + 1) ys x) ≡ Some v → IsPlaced (ends_of_names (y ∷ ys)) k v (Named x ∷ [])
    by true e rest h =
        let same : y ≡ x = (bytes_eq-Decides y x).0 e in
        let is : k ≡ v = cc in
        record { index = 0; number = omega arith; place = ap (λ z. Some (Named z ∷ [])) same }
    by false e rest h = rear ((Named y ∷ []) ∷ []) (ends_of_names ys) 1 k v (Named x ∷ []) refl (rest h)

mutual
  placed_expr : (k v : ℕ) (e : Expr) (p : Place) → number_expr k e p ≡ Some v → IsPlaced (ends_of_expr e) k v p
  placed_expr k v (one s o a) (First ∷ p) h = step First (ends_of_expr a) k v p (placed_expr k v a p h)
  placed_expr k v (two s o a b) (First ∷ p) h = fore (step_in First (ends_of_expr a)) (step_in Second (ends_of_expr b)) k v (First ∷ p) (step First (ends_of_expr a) k v p (placed_expr k v a p h))
  placed_expr k v (two s o a b) (Second ∷ p) h =
      rear (step_in First (ends_of_expr a)) (step_in Second (ends_of_expr b)) (calls_in a) k v (Second ∷ p) (one_part First (ends_of_expr a) (calls_in a) (count_expr a)) (step Second (ends_of_expr b) (k + calls_in a) v p (placed_expr (k + calls_in a) v b p h))
  placed_expr k v (choose s a b c) (First ∷ p) h = fore (step_in First (ends_of_expr a)) (step_in Second (ends_of_expr b) ++ step_in Third (ends_of_expr c)) k v (First ∷ p) (step First (ends_of_expr a) k v p (placed_expr k v a p h))
  placed_expr k v (choose s a b c) (Second ∷ p) h =
      rear (step_in First (ends_of_expr a)) (step_in Second (ends_of_expr b) ++ step_in Third (ends_of_expr c)) (calls_in a) k v (Second ∷ p) (one_part First (ends_of_expr a) (calls_in a) (count_expr a))
      (fore (step_in Second (ends_of_expr b)) (step_in Third (ends_of_expr c)) (k + calls_in a) v (Second ∷ p) (step Second (ends_of_expr b) (k + calls_in a) v p (placed_expr (k + calls_in a) v b p h)))
  placed_expr k v (choose s a b c) (Third ∷ p) h =
      rear (step_in First (ends_of_expr a)) (step_in Second (ends_of_expr b) ++ step_in Third (ends_of_expr c)) (calls_in a) k v (Third ∷ p) (one_part First (ends_of_expr a) (calls_in a) (count_expr a))
      (rear (step_in Second (ends_of_expr b)) (step_in Third (ends_of_expr c)) (calls_in b) (k + calls_in a) v (Third ∷ p) (one_part Second (ends_of_expr b) (calls_in b) (count_expr b)) (step Third (ends_of_expr c) ((k + calls_in a) + calls_in b) v p (placed_expr ((k + calls_in a) + calls_in b) v c p h)))
  placed_expr k v (pre s a) (First ∷ p) h = step First (ends_of_expr a) k v p (placed_expr k v a p h)
  placed_expr k v (fby s a b) (First ∷ p) h = fore (step_in First (ends_of_expr a)) (step_in Second (ends_of_expr b)) k v (First ∷ p) (step First (ends_of_expr a) k v p (placed_expr k v a p h))
  placed_expr k v (fby s a b) (Second ∷ p) h =
      rear (step_in First (ends_of_expr a)) (step_in Second (ends_of_expr b)) (calls_in a) k v (Second ∷ p) (one_part First (ends_of_expr a) (calls_in a) (count_expr a)) (step Second (ends_of_expr b) (k + calls_in a) v p (placed_expr (k + calls_in a) v b p h))
  placed_expr k v (arrow s a b) (First ∷ p) h = fore (step_in First (ends_of_expr a)) (step_in Second (ends_of_expr b)) k v (First ∷ p) (step First (ends_of_expr a) k v p (placed_expr k v a p h))
  placed_expr k v (arrow s a b) (Second ∷ p) h =
      rear (step_in First (ends_of_expr a)) (step_in Second (ends_of_expr b)) (calls_in a) k v (Second ∷ p) (one_part First (ends_of_expr a) (calls_in a) (count_expr a)) (step Second (ends_of_expr b) (k + calls_in a) v p (placed_expr (k + calls_in a) v b p h))
  placed_expr k v (when_is s a c x) (First ∷ p) h = step First (ends_of_expr a) k v p (placed_expr k v a p h)
  placed_expr k v (merge s x ps) (Args ∷ p) h = step Args (ends_of_parts ps) k v p (placed_parts k v ps p h)
  placed_expr k v (call s f i es) [] h = top [] (step_in Args (ends_of_exprs es)) k v h
  placed_expr k v (call s f i es) (Args ∷ p) h = behind [] (step_in Args (ends_of_exprs es)) k v (Args ∷ p) (step Args (ends_of_exprs es) (k + 1) v p (placed_exprs (k + 1) v es p h))
  placed_expr k v e p h = absurd cc

  placed_exprs : (k v : ℕ) (es : Exprs) (p : Place) → number_exprs k es p ≡ Some v → IsPlaced (ends_of_exprs es) k v p
  placed_exprs k v (more_exprs e es) (Head ∷ p) h = fore (step_in Head (ends_of_expr e)) (step_in Tail (ends_of_exprs es)) k v (Head ∷ p) (step Head (ends_of_expr e) k v p (placed_expr k v e p h))
  placed_exprs k v (more_exprs e es) (Tail ∷ p) h =
      rear (step_in Head (ends_of_expr e)) (step_in Tail (ends_of_exprs es)) (calls_in e) k v (Tail ∷ p) (one_part Head (ends_of_expr e) (calls_in e) (count_expr e)) (step Tail (ends_of_exprs es) (k + calls_in e) v p (placed_exprs (k + calls_in e) v es p h))
  placed_exprs k v es p h = absurd cc

  placed_parts : (k v : ℕ) (ps : Parts) (p : Place) → number_parts k ps p ≡ Some v → IsPlaced (ends_of_parts ps) k v p
  placed_parts k v (more_parts c e ps) (Head ∷ p) h = fore (step_in Head (ends_of_expr e)) (step_in Tail (ends_of_parts ps)) k v (Head ∷ p) (step Head (ends_of_expr e) k v p (placed_expr k v e p h))
  placed_parts k v (more_parts c e ps) (Tail ∷ p) h =
      rear (step_in Head (ends_of_expr e)) (step_in Tail (ends_of_parts ps)) (calls_in e) k v (Tail ∷ p) (one_part Head (ends_of_expr e) (calls_in e) (count_expr e)) (step Tail (ends_of_parts ps) (k + calls_in e) v p (placed_parts (k + calls_in e) v ps p h))
  placed_parts k v ps p h = absurd cc

placed_top : (k v : ℕ) (e : Expr) → Some k ≡ Some v → IsPlaced (ends_of_test e) k v []
placed_top k v (call s f i es) h = top [] (step_in Args (ends_of_exprs es)) k v h
placed_top k v (constant s c) h = top [] (ends_of_expr (constant s c)) k v h
placed_top k v (variable s x) h = top [] (ends_of_expr (variable s x)) k v h
placed_top k v (last_of s x) h = top [] (ends_of_expr (last_of s x)) k v h
placed_top k v (one s o a) h = top [] (ends_of_expr (one s o a)) k v h
placed_top k v (two s o a b) h = top [] (ends_of_expr (two s o a b)) k v h
placed_top k v (choose s a b c) h = top [] (ends_of_expr (choose s a b c)) k v h
placed_top k v (pre s a) h = top [] (ends_of_expr (pre s a)) k v h
placed_top k v (fby s a b) h = top [] (ends_of_expr (fby s a b)) k v h
placed_top k v (arrow s a b) h = top [] (ends_of_expr (arrow s a b)) k v h
placed_top k v (when_is s a c x) h = top [] (ends_of_expr (when_is s a c x)) k v h
placed_top k v (merge s x ps) h = top [] (ends_of_expr (merge s x ps)) k v h

placed_test : (k v : ℕ) (e : Expr) (p : Place) → number_test k e p ≡ Some v → IsPlaced (ends_of_test e) k v p
placed_test k v e [] h = placed_top k v e h
placed_test k v e (s ∷ p) h = rear (own_end e) (ends_of_expr e) (own_of_test e) k v (s ∷ p) (count_own e) (placed_expr (k + own_of_test e) v e (s ∷ p) h)

moved_up : (ps : List Place) (a b v : ℕ) (p : Place) → a ≡ b → IsPlaced ps a v p → IsPlaced ps b v p
moved_up ps a b v p e h = subst (λ k. IsPlaced ps k v p) e h

placed_tests : (k v : ℕ) (ts : List Trans) (p : Place) → number_tests k ts p ≡ Some v → IsPlaced (ends_of_tests ts) k v p
placed_tests k v (t ∷ ts) (Head ∷ p) h = fore (step_in Head (ends_of_test t.cond)) (step_in Tail (ends_of_tests ts)) k v (Head ∷ p) (step Head (ends_of_test t.cond) k v p (placed_test k v t.cond p h))
placed_tests k v (t ∷ ts) (Tail ∷ p) h =
    let n = own_of_test t.cond in
    let m = calls_in t.cond in
    rear (step_in Head (ends_of_test t.cond)) (step_in Tail (ends_of_tests ts)) (n + m) k v (Tail ∷ p) (one_part Head (ends_of_test t.cond) (n + m) (count_test t.cond))
    (moved_up (step_in Tail (ends_of_tests ts)) ((k + n) + m) (k + (n + m)) v (Tail ∷ p) (omega arith) (step Tail (ends_of_tests ts) ((k + n) + m) v p (placed_tests ((k + n) + m) v ts p h)))
placed_tests k v ts p h = absurd cc

count_block : (b : Block) → length (own_ends b ++ ends_inside b) ≡ own_size b + size_inside b
count_block b = two_parts (own_ends b) (ends_inside b) (own_size b) (size_inside b) (count_names b) (count_inside b)

mutual
  placed_parts_of : (j k v : ℕ) (b : Block) (p : Place) → number_block j k b p ≡ Some v → IsPlaced (own_ends b) j v p ⊎ IsPlaced (ends_inside b) k v p
  placed_parts_of j k v (block ds es) (Named x ∷ []) h = inl (placed_name (names_in es) j v x h)
  placed_parts_of j k v (block ds es) (Equations ∷ p) h = inr (step Equations (ends_of_eqns es) k v p (placed_eqns k v es p h))
  placed_parts_of j k v b p h = absurd cc

  placed_block : (k v : ℕ) (b : Block) (p : Place) → number_block k (k + own_size b) b p ≡ Some v → IsPlaced (own_ends b ++ ends_inside b) k v p
  placed_block k v (block ds es) (Named x ∷ []) h = fore (ends_of_names (names_in es)) (step_in Equations (ends_of_eqns es)) k v (Named x ∷ []) (placed_name (names_in es) k v x h)
  placed_block k v (block ds es) (Equations ∷ p) h =
      rear (ends_of_names (names_in es)) (step_in Equations (ends_of_eqns es)) (length (names_in es)) k v (Equations ∷ p) (length-map (names_in es) (λ x. Named x ∷ [])) (step Equations (ends_of_eqns es) (k + length (names_in es)) v p (placed_eqns (k + length (names_in es)) v es p h))
  placed_block k v b p h = absurd cc

  placed_eqns : (k v : ℕ) (es : Eqns) (p : Place) → number_eqns k es p ≡ Some v → IsPlaced (ends_of_eqns es) k v p
  placed_eqns k v (more_eqns e es) (Head ∷ p) h = fore (step_in Head (ends_of_eqn e)) (step_in Tail (ends_of_eqns es)) k v (Head ∷ p) (step Head (ends_of_eqn e) k v p (placed_eqn k v e p h))
  placed_eqns k v (more_eqns e es) (Tail ∷ p) h =
      rear (step_in Head (ends_of_eqn e)) (step_in Tail (ends_of_eqns es)) (size_of e) k v (Tail ∷ p) (one_part Head (ends_of_eqn e) (size_of e) (count_eqn e)) (step Tail (ends_of_eqns es) (k + size_of e) v p (placed_eqns (k + size_of e) v es p h))
  placed_eqns k v es p h = absurd cc

  placed_eqn : (k v : ℕ) (e : Eqn) (p : Place) → number_eqn k e p ≡ Some v → IsPlaced (ends_of_eqn e) k v p
  placed_eqn k v (define at ys e) (Right ∷ p) h = step Right (ends_of_expr e) k v p (placed_expr k v e p h)
  placed_eqn k v (switch at e arms) (Fresh ∷ []) h = top (Fresh ∷ []) (step_in Test (ends_of_expr e) ++ step_in ArmsOf (ends_of_arms arms)) k v h
  placed_eqn k v (switch at e arms) (Test ∷ p) h =
      behind (Fresh ∷ []) (step_in Test (ends_of_expr e) ++ step_in ArmsOf (ends_of_arms arms)) k v (Test ∷ p)
      (fore (step_in Test (ends_of_expr e)) (step_in ArmsOf (ends_of_arms arms)) (k + 1) v (Test ∷ p) (step Test (ends_of_expr e) (k + 1) v p (placed_expr (k + 1) v e p h)))
  placed_eqn k v (switch at e arms) (ArmsOf ∷ p) h =
      behind (Fresh ∷ []) (step_in Test (ends_of_expr e) ++ step_in ArmsOf (ends_of_arms arms)) k v (ArmsOf ∷ p)
      (rear (step_in Test (ends_of_expr e)) (step_in ArmsOf (ends_of_arms arms)) (calls_in e) (k + 1) v (ArmsOf ∷ p) (one_part Test (ends_of_expr e) (calls_in e) (count_expr e)) (step ArmsOf (ends_of_arms arms) ((k + 1) + calls_in e) v p (placed_arms ((k + 1) + calls_in e) v arms p h)))
  placed_eqn k v (reset at b e) (Fresh ∷ []) h = top (Fresh ∷ []) (step_in Body (own_ends b ++ ends_inside b) ++ step_in Test (ends_of_expr e)) k v h
  placed_eqn k v (reset at b e) (Body ∷ p) h =
      behind (Fresh ∷ []) (step_in Body (own_ends b ++ ends_inside b) ++ step_in Test (ends_of_expr e)) k v (Body ∷ p)
      (fore (step_in Body (own_ends b ++ ends_inside b)) (step_in Test (ends_of_expr e)) (k + 1) v (Body ∷ p) (step Body (own_ends b ++ ends_inside b) (k + 1) v p (placed_block (k + 1) v b p h)))
  placed_eqn k v (reset at b e) (Test ∷ p) h =
      behind (Fresh ∷ []) (step_in Body (own_ends b ++ ends_inside b) ++ step_in Test (ends_of_expr e)) k v (Test ∷ p)
      (rear (step_in Body (own_ends b ++ ends_inside b)) (step_in Test (ends_of_expr e)) (own_size b + size_inside b) (k + 1) v (Test ∷ p) (one_part Body (own_ends b ++ ends_inside b) (own_size b + size_inside b) (count_block b))
      (moved_up (step_in Test (ends_of_expr e)) (((k + 1) + own_size b) + size_inside b) ((k + 1) + (own_size b + size_inside b)) v (Test ∷ p) (omega arith)
      (step Test (ends_of_expr e) (((k + 1) + own_size b) + size_inside b) v p (placed_expr (((k + 1) + own_size b) + size_inside b) v e p h))))
  placed_eqn k v (automaton at ss) (Active ∷ []) h = top (Active ∷ []) ((Next ∷ []) ∷ step_in StatesOf (ends_of_states ss)) k v h
  placed_eqn k v (automaton at ss) (Next ∷ []) h = behind (Active ∷ []) ((Next ∷ []) ∷ step_in StatesOf (ends_of_states ss)) k v (Next ∷ []) (top (Next ∷ []) (step_in StatesOf (ends_of_states ss)) (k + 1) v h)
  placed_eqn k v (automaton at ss) (StatesOf ∷ p) h =
      behind (Active ∷ []) ((Next ∷ []) ∷ step_in StatesOf (ends_of_states ss)) k v (StatesOf ∷ p)
      (behind (Next ∷ []) (step_in StatesOf (ends_of_states ss)) (k + 1) v (StatesOf ∷ p) (moved_up (step_in StatesOf (ends_of_states ss)) (k + 2) ((k + 1) + 1) v (StatesOf ∷ p) (omega arith) (step StatesOf (ends_of_states ss) (k + 2) v p (placed_states (k + 2) v ss p h))))
  placed_eqn k v e p h = absurd cc

  placed_arms : (k v : ℕ) (arms : Arms) (p : Place) → number_arms k arms p ≡ Some v → IsPlaced (ends_of_arms arms) k v p
  placed_arms k v (more_arms c b at arms) (Head ∷ p) h = fore (step_in Head (own_ends b ++ ends_inside b)) (step_in Tail (ends_of_arms arms)) k v (Head ∷ p) (step Head (own_ends b ++ ends_inside b) k v p (placed_block k v b p h))
  placed_arms k v (more_arms c b at arms) (Tail ∷ p) h =
      rear (step_in Head (own_ends b ++ ends_inside b)) (step_in Tail (ends_of_arms arms)) (own_size b + size_inside b) k v (Tail ∷ p) (one_part Head (own_ends b ++ ends_inside b) (own_size b + size_inside b) (count_block b))
      (moved_up (step_in Tail (ends_of_arms arms)) ((k + own_size b) + size_inside b) (k + (own_size b + size_inside b)) v (Tail ∷ p) (omega arith) (step Tail (ends_of_arms arms) ((k + own_size b) + size_inside b) v p (placed_arms ((k + own_size b) + size_inside b) v arms p h)))
  placed_arms k v arms p h = absurd cc

  placed_states : (k v : ℕ) (ss : States) (p : Place) → number_states k ss p ≡ Some v → IsPlaced (ends_of_states ss) k v p
  placed_states k v (more_states f b until unless at ss) (Head ∷ Body ∷ p) h =
      let body = step_in Body (own_ends b ++ ends_inside b) in
      let tests = step_in Until (ends_of_tests until) ++ step_in Unless (ends_of_tests unless) in
      fore (step_in Head (body ++ tests)) (step_in Tail (ends_of_states ss)) k v (Head ∷ Body ∷ p) (step Head (body ++ tests) k v (Body ∷ p) (fore body tests k v (Body ∷ p) (step Body (own_ends b ++ ends_inside b) k v p (placed_block k v b p h))))
  placed_states k v (more_states f b until unless at ss) (Head ∷ Until ∷ p) h =
      let body = step_in Body (own_ends b ++ ends_inside b) in
      let weak = step_in Until (ends_of_tests until) in
      let strong = step_in Unless (ends_of_tests unless) in
      let n = (k + own_size b) + size_inside b in
      fore (step_in Head (body ++ (weak ++ strong))) (step_in Tail (ends_of_states ss)) k v (Head ∷ Until ∷ p) (step Head (body ++ (weak ++ strong)) k v (Until ∷ p)
      (rear body (weak ++ strong) (own_size b + size_inside b) k v (Until ∷ p) (one_part Body (own_ends b ++ ends_inside b) (own_size b + size_inside b) (count_block b))
      (moved_up (weak ++ strong) n (k + (own_size b + size_inside b)) v (Until ∷ p) (omega arith) (fore weak strong n v (Until ∷ p) (step Until (ends_of_tests until) n v p (placed_tests n v until p h))))))
  placed_states k v (more_states f b until unless at ss) (Head ∷ Unless ∷ p) h =
      let body = step_in Body (own_ends b ++ ends_inside b) in
      let weak = step_in Until (ends_of_tests until) in
      let strong = step_in Unless (ends_of_tests unless) in
      let n = (k + own_size b) + size_inside b in
      let m = n + size_of_tests until in
      fore (step_in Head (body ++ (weak ++ strong))) (step_in Tail (ends_of_states ss)) k v (Head ∷ Unless ∷ p) (step Head (body ++ (weak ++ strong)) k v (Unless ∷ p)
      (rear body (weak ++ strong) (own_size b + size_inside b) k v (Unless ∷ p) (one_part Body (own_ends b ++ ends_inside b) (own_size b + size_inside b) (count_block b))
      (moved_up (weak ++ strong) n (k + (own_size b + size_inside b)) v (Unless ∷ p) (omega arith)
      (rear weak strong (size_of_tests until) n v (Unless ∷ p) (one_part Until (ends_of_tests until) (size_of_tests until) (count_tests until)) (step Unless (ends_of_tests unless) m v p (placed_tests m v unless p h))))))
  placed_states k v (more_states f b until unless at ss) (Tail ∷ p) h =
      let body = step_in Body (own_ends b ++ ends_inside b) in
      let weak = step_in Until (ends_of_tests until) in
      let strong = step_in Unless (ends_of_tests unless) in
      let n = (own_size b + size_inside b) + (size_of_tests until + size_of_tests unless) in
      let m = (((k + own_size b) + size_inside b) + size_of_tests until) + size_of_tests unless in
      rear (step_in Head (body ++ (weak ++ strong))) (step_in Tail (ends_of_states ss)) n k v (Tail ∷ p)
      (one_part Head (body ++ (weak ++ strong)) n (two_parts body (weak ++ strong) (own_size b + size_inside b) (size_of_tests until + size_of_tests unless) (one_part Body (own_ends b ++ ends_inside b) (own_size b + size_inside b) (count_block b))
      (two_parts weak strong (size_of_tests until) (size_of_tests unless) (one_part Until (ends_of_tests until) (size_of_tests until) (count_tests until)) (one_part Unless (ends_of_tests unless) (size_of_tests unless) (count_tests unless)))))
      (moved_up (step_in Tail (ends_of_states ss)) m (k + n) v (Tail ∷ p) (omega arith) (step Tail (ends_of_states ss) m v p (placed_states m v ss p h)))
  placed_states k v ss p h = absurd cc

placed_told : (k v : ℕ) (o : Option Expr) (p : Place) → number_told k o p ≡ Some v → IsPlaced (ends_of_told o) k v p
placed_told k v None p h = absurd cc
placed_told k v (Some e) p h = placed_expr k v e p h

count_told : (o : Option Expr) → length (ends_of_told o) ≡ size_of_told o
count_told None = refl
count_told (Some e) = count_expr e

count_contract : (c : Option Contract) → length (ends_of_contract c) ≡ size_of_contract c
count_contract None = refl
count_contract (Some c) =
    two_parts (step_in Observer (own_ends c.body ++ ends_inside c.body)) (step_in Assume (ends_of_told c.assume) ++ step_in Enforce (ends_of_told c.enforce)) (own_size c.body + size_inside c.body) (size_of_told c.assume + size_of_told c.enforce)
    (one_part Observer (own_ends c.body ++ ends_inside c.body) (own_size c.body + size_inside c.body) (count_block c.body))
    (two_parts (step_in Assume (ends_of_told c.assume)) (step_in Enforce (ends_of_told c.enforce)) (size_of_told c.assume) (size_of_told c.enforce) (one_part Assume (ends_of_told c.assume) (size_of_told c.assume) (count_told c.assume)) (one_part Enforce (ends_of_told c.enforce) (size_of_told c.enforce) (count_told c.enforce)))

placed_contract : (k v : ℕ) (c : Option Contract) (p : Place) → number_contract k c p ≡ Some v → IsPlaced (ends_of_contract c) k v p
placed_contract k v (Some c) (Observer ∷ p) h =
    let body = own_ends c.body ++ ends_inside c.body in
    fore (step_in Observer body) (step_in Assume (ends_of_told c.assume) ++ step_in Enforce (ends_of_told c.enforce)) k v (Observer ∷ p) (step Observer body k v p (placed_block k v c.body p h))
placed_contract k v (Some c) (Assume ∷ p) h =
    let body = own_ends c.body ++ ends_inside c.body in
    let first = step_in Assume (ends_of_told c.assume) in
    let second = step_in Enforce (ends_of_told c.enforce) in
    let n = (k + own_size c.body) + size_inside c.body in
    rear (step_in Observer body) (first ++ second) (own_size c.body + size_inside c.body) k v (Assume ∷ p) (one_part Observer body (own_size c.body + size_inside c.body) (count_block c.body))
    (moved_up (first ++ second) n (k + (own_size c.body + size_inside c.body)) v (Assume ∷ p) (omega arith) (fore first second n v (Assume ∷ p) (step Assume (ends_of_told c.assume) n v p (placed_told n v c.assume p h))))
placed_contract k v (Some c) (Enforce ∷ p) h =
    let body = own_ends c.body ++ ends_inside c.body in
    let first = step_in Assume (ends_of_told c.assume) in
    let second = step_in Enforce (ends_of_told c.enforce) in
    let n = (k + own_size c.body) + size_inside c.body in
    rear (step_in Observer body) (first ++ second) (own_size c.body + size_inside c.body) k v (Enforce ∷ p) (one_part Observer body (own_size c.body + size_inside c.body) (count_block c.body))
    (moved_up (first ++ second) n (k + (own_size c.body + size_inside c.body)) v (Enforce ∷ p) (omega arith)
    (rear first second (size_of_told c.assume) n v (Enforce ∷ p) (one_part Assume (ends_of_told c.assume) (size_of_told c.assume) (count_told c.assume)) (step Enforce (ends_of_told c.enforce) (n + size_of_told c.assume) v p (placed_told (n + size_of_told c.assume) v c.enforce p h))))
placed_contract k v c p h = absurd cc

count_controls : (ds : List Decl) → length (ends_of_controls ds) ≡ length ds
count_controls [] = refl
count_controls (d ∷ ds) = let e : length (step_in Tail (ends_of_controls ds)) ≡ length ds = one_part Tail (ends_of_controls ds) (length ds) (count_controls ds) in omega arith

placed_controls : (k v : ℕ) (ds : List Decl) (p : Place) → number_controls k ds p ≡ Some v → IsPlaced (ends_of_controls ds) k v p
placed_controls k v (d ∷ ds) (Head ∷ []) h = top (Head ∷ []) (step_in Tail (ends_of_controls ds)) k v h
placed_controls k v (d ∷ ds) (Tail ∷ p) h = behind (Head ∷ []) (step_in Tail (ends_of_controls ds)) k v (Tail ∷ p) (step Tail (ends_of_controls ds) (k + 1) v p (placed_controls (k + 1) v ds p h))
placed_controls k v ds p h = absurd cc

module _ (n : Node) where
  abbrev guides : List Place
  guides = step_in Controls (ends_of_controls (controls_of n.contract))

  abbrev own : List Place
  own = step_in Body (own_ends n.body)

  abbrev observer : List Place
  observer = ends_of_contract n.contract

  abbrev inside : List Place
  inside = step_in Body (ends_inside n.body)

  count_guides : length guides ≡ first_of_body n
  count_guides = one_part Controls (ends_of_controls (controls_of n.contract)) (first_of_body n) (count_controls (controls_of n.contract))

  behind_guides : (v : ℕ) (p : Place) → IsPlaced (own ++ (observer ++ inside)) (first_of_body n) v p → IsPlaced (guides ++ (own ++ (observer ++ inside))) 0 v p
  behind_guides v p h = rear guides (own ++ (observer ++ inside)) (first_of_body n) 0 v p count_guides (moved_up (own ++ (observer ++ inside)) (first_of_body n) (0 + first_of_body n) v p (omega arith) h)

  in_observer : (p : Place) (v : ℕ) → number_contract (first_of_contract n) n.contract p ≡ Some v → IsPlaced (guides ++ (own ++ (observer ++ inside))) 0 v p
  in_observer p v h =
      behind_guides v p
      (rear own (observer ++ inside) (own_size n.body) (first_of_body n) v p (one_part Body (own_ends n.body) (own_size n.body) (count_names n.body)) (fore observer inside (first_of_contract n) v p (placed_contract (first_of_contract n) v n.contract p h)))

  placed_node : (p : Place) (v : ℕ) → number_node n p ≡ Some v → IsPlaced (ends_of_node n) 0 v p
  placed_node (Controls ∷ p) v h = fore guides (own ++ (observer ++ inside)) 0 v (Controls ∷ p) (step Controls (ends_of_controls (controls_of n.contract)) 0 v p (placed_controls 0 v (controls_of n.contract) p h))
  placed_node (Body ∷ p) v h =
      behind_guides v (Body ∷ p)
      (⊎_elim (λ a. fore own (observer ++ inside) (first_of_body n) v (Body ∷ p) (step Body (own_ends n.body) (first_of_body n) v p a))
      (λ b. rear own (observer ++ inside) (own_size n.body) (first_of_body n) v (Body ∷ p) (one_part Body (own_ends n.body) (own_size n.body) (count_names n.body))
      (rear observer inside (size_of_contract n.contract) (first_of_contract n) v (Body ∷ p) (count_contract n.contract) (step Body (ends_inside n.body) (first_inside n) v p b)))
      (placed_parts_of (first_of_body n) (first_inside n) v n.body p h))
  placed_node p v h = in_observer p v h

  pub node_placed : (p : Place) (v : ℕ) → number_node n p ≡ Some v → nth (ends_of_node n) v ≡ Some p
  node_placed p v h = let found = placed_node p v h in ap (nth (ends_of_node n)) (let e : v ≡ 0 + found.index = found.number in let g : v ≡ found.index = omega arith in g) ∙ found.place
