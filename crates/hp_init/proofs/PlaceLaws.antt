-- Each number is that of one place.
use Rattle.std.proofs.Common.{◌≡◌, ℕ, zero, suc, ◌+◌, Bool, true, false, if◌then◌else◌, List, [], ◌∷◌, ◌++◌, length, map, Option, None, Some, refl, ap, ◌∙◌, arith}
use Rattle.std.specs.Str.{bytes_eq}
use Rattle.std.proofs.lemmas.Slice.Eq.{bytes_eq-Decides}
use Rattle.std.proofs.lemmas.List.{length-append}
use Rattle.hp_tree.specs.Blocks.{Decl, Block, block, Eqns, no_eqn, more_eqns, Eqn, define, switch, reset, automaton, Arms, no_arm, more_arms, States, no_state, more_states}
use Rattle.hp_tree.specs.Programs.{Contract, Node}
use Rattle.hp_tree.specs.Instant.{Step, Body, Observer, Named, Equations, Head, Tail, Arms as ArmsOf, States as StatesOf, Place}
use Rattle.hp_init.specs.Names.{size, size_of, size_of_all, size_of_arms, size_of_states, number_block, number_eqns, number_eqn, number_arms, number_states, number_contract, size_of_contract, number_node}
use Rattle.hp_tree.specs.Meaning.{names_of as declared}
use Rattle.hp_tables.specs.Defining.Layers.{numbered}

-- the place of a number
abbrev pub nth : List Place → ℕ → Option Place
nth [] i = None
nth (p ∷ ps) zero = Some p
nth (p ∷ ps) (suc i) = nth ps i

abbrev pub below : Step → List Place → List Place
below s ps = map (λ p. s ∷ p) ps

abbrev pub name_places : List (List ℕ) → List Place
name_places xs = map (λ x. Named x ∷ []) xs

-- the places of variables, in the order of their numbers
abbrev mutual
  pub places : Block → List Place
  places (block ds es) = name_places (declared ds) ++ below Equations (places_of_all es)

  pub places_of_all : Eqns → List Place
  places_of_all no_eqn = []
  places_of_all (more_eqns e es) = below Head (places_of e) ++ below Tail (places_of_all es)

  pub places_of : Eqn → List Place
  places_of (define at ys e) = []
  places_of (switch at e arms) = below ArmsOf (places_of_arms arms)
  places_of (reset at b e) = below Body (places b)
  places_of (automaton at ss) = below StatesOf (places_of_states ss)

  pub places_of_arms : Arms → List Place
  places_of_arms no_arm = []
  places_of_arms (more_arms c b at arms) = below Head (places b) ++ below Tail (places_of_arms arms)

  pub places_of_states : States → List Place
  places_of_states no_state = []
  places_of_states (more_states f b until unless at ss) = below Head (below Body (places b)) ++ below Tail (places_of_states ss)

-- ---- as many as there are numbers

two : (xs ys : List Place) (m n : ℕ) → length xs ≡ m → length ys ≡ n → length (xs ++ ys) ≡ m + n
two xs ys m n h g = length-append xs ys ∙ ap (λ k. k + length ys) h ∙ ap (λ k. m + k) g

length-below : (s : Step) (ps : List Place) → length (below s ps) ≡ length ps
length-below s [] = refl
length-below s (p ∷ ps) = ap suc (length-below s ps)

one : (s : Step) (ps : List Place) (n : ℕ) → length ps ≡ n → length (below s ps) ≡ n
one s ps n h = length-below s ps ∙ h

count_declared : (ds : List Decl) → length (name_places (declared ds)) ≡ length ds
count_declared [] = refl
count_declared (d ∷ ds) = ap suc (count_declared ds)

mutual
  pub count : (b : Block) → length (places b) ≡ size b
  count (block ds es) = two (name_places (declared ds)) (below Equations (places_of_all es)) (length ds) (size_of_all es) (count_declared ds) (one Equations (places_of_all es) (size_of_all es) (count_of_all es))

  pub count_of_all : (es : Eqns) → length (places_of_all es) ≡ size_of_all es
  count_of_all no_eqn = refl
  count_of_all (more_eqns e es) =
      two (below Head (places_of e)) (below Tail (places_of_all es)) (size_of e) (size_of_all es) (one Head (places_of e) (size_of e) (count_of e)) (one Tail (places_of_all es) (size_of_all es) (count_of_all es))

  pub count_of : (e : Eqn) → length (places_of e) ≡ size_of e
  count_of (define at ys e) = refl
  count_of (switch at e arms) = one ArmsOf (places_of_arms arms) (size_of_arms arms) (count_of_arms arms)
  count_of (reset at b e) = one Body (places b) (size b) (count b)
  count_of (automaton at ss) = one StatesOf (places_of_states ss) (size_of_states ss) (count_of_states ss)

  pub count_of_arms : (arms : Arms) → length (places_of_arms arms) ≡ size_of_arms arms
  count_of_arms no_arm = refl
  count_of_arms (more_arms c b at arms) =
      two (below Head (places b)) (below Tail (places_of_arms arms)) (size b) (size_of_arms arms) (one Head (places b) (size b) (count b)) (one Tail (places_of_arms arms) (size_of_arms arms) (count_of_arms arms))

  pub count_of_states : (ss : States) → length (places_of_states ss) ≡ size_of_states ss
  count_of_states no_state = refl
  count_of_states (more_states f b until unless at ss) =
      two (below Head (below Body (places b))) (below Tail (places_of_states ss)) (size b) (size_of_states ss) (one Head (below Body (places b)) (size b) (one Body (places b) (size b) (count b)))
      (one Tail (places_of_states ss) (size_of_states ss) (count_of_states ss))

-- ---- where a number is

-- The number v is that of the place p, where the places are numbered from k on.
pub record IsPlaced (ps : List Place) (k v : ℕ) (p : Place) : Type 0 where
  pub index : ℕ
  pub number : v ≡ k + index
  pub place : nth ps index ≡ Some p

nth-below : (s : Step) (ps : List Place) (i : ℕ) (p : Place) → nth ps i ≡ Some p → nth (below s ps) i ≡ Some (s ∷ p)
nth-below s [] i p h = absurd cc
nth-below s (x ∷ ps) zero p h = let same : x ≡ p = cc in ap (λ y. Some (s ∷ y)) same
nth-below s (x ∷ ps) (suc i) p h = nth-below s ps i p h

nth-fore : (xs ys : List Place) (i : ℕ) (p : Place) → nth xs i ≡ Some p → nth (xs ++ ys) i ≡ Some p
nth-fore [] ys i p h = absurd cc
nth-fore (x ∷ xs) ys zero p h = h
nth-fore (x ∷ xs) ys (suc i) p h = nth-fore xs ys i p h

nth-rear : (xs ys : List Place) (i : ℕ) → nth (xs ++ ys) (i + length xs) ≡ nth ys i
nth-rear [] ys i = ap (nth ys) (omega arith)
nth-rear (x ∷ xs) ys i = ap (nth (x ∷ (xs ++ ys))) (let e : i + suc (length xs) ≡ suc (i + length xs) = omega arith in e) ∙ nth-rear xs ys i

step : (s : Step) (ps : List Place) (k v : ℕ) (p : Place) → IsPlaced ps k v p → IsPlaced (below s ps) k v (s ∷ p)
step s ps k v p h = record { index = h.index; number = h.number; place = nth-below s ps h.index p h.place }

fore : (xs ys : List Place) (k v : ℕ) (p : Place) → IsPlaced xs k v p → IsPlaced (xs ++ ys) k v p
fore xs ys k v p h = record { index = h.index; number = h.number; place = nth-fore xs ys h.index p h.place }

rear : (xs ys : List Place) (n k v : ℕ) (p : Place) → length xs ≡ n → IsPlaced ys (k + n) v p → IsPlaced (xs ++ ys) k v p
rear xs ys n k v p e h =
    record {
      index = h.index + length xs;
      number = let a : v ≡ (k + n) + h.index = h.number in let b : length xs ≡ n = e in omega arith;
      place = nth-rear xs ys h.index ∙ h.place;
    }

name_placed : (xs : List (List ℕ)) (k v : ℕ) (x : List ℕ) → numbered k xs x ≡ Some v → IsPlaced (name_places xs) k v (Named x ∷ [])
name_placed [] k v x h = absurd cc
name_placed (y ∷ ys) k v x h = by (bytes_eq y x) refl (name_placed ys (k + 1) v x) h
  where
    by : (d : Bool) → bytes_eq y x ≡ d → (numbered (k + 1) ys x ≡ Some v → IsPlaced (name_places ys) (k + 1) v (Named x ∷ []))
        → (if d then Some k else numbered (k + 1) ys x) ≡ Some v → IsPlaced (name_places (y ∷ ys)) k v (Named x ∷ [])
    by true e rest h =
        let same : y ≡ x = (bytes_eq-Decides y x).0 e in
        let is : k ≡ v = cc in
        record { index = 0; number = omega arith; place = ap (λ z. Some (Named z ∷ [])) same }
    by false e rest h = rear ((Named y ∷ []) ∷ []) (name_places ys) 1 k v (Named x ∷ []) refl (rest h)

mutual
  pub placed : (k v : ℕ) (b : Block) (p : Place) → number_block k b p ≡ Some v → IsPlaced (places b) k v p
  placed k v (block ds es) (Named x ∷ []) h = fore (name_places (declared ds)) (below Equations (places_of_all es)) k v (Named x ∷ []) (name_placed (declared ds) k v x h)
  placed k v (block ds es) (Equations ∷ p) h =
      rear (name_places (declared ds)) (below Equations (places_of_all es)) (length ds) k v (Equations ∷ p) (count_declared ds)
      (step Equations (places_of_all es) (k + length ds) v p (placed_in_all (k + length ds) v es p h))
  placed k v b p h = absurd cc

  pub placed_in_all : (k v : ℕ) (es : Eqns) (p : Place) → number_eqns k es p ≡ Some v → IsPlaced (places_of_all es) k v p
  placed_in_all k v (more_eqns e es) (Head ∷ p) h = fore (below Head (places_of e)) (below Tail (places_of_all es)) k v (Head ∷ p) (step Head (places_of e) k v p (placed_in k v e p h))
  placed_in_all k v (more_eqns e es) (Tail ∷ p) h =
      rear (below Head (places_of e)) (below Tail (places_of_all es)) (size_of e) k v (Tail ∷ p) (one Head (places_of e) (size_of e) (count_of e))
      (step Tail (places_of_all es) (k + size_of e) v p (placed_in_all (k + size_of e) v es p h))
  placed_in_all k v es p h = absurd cc

  pub placed_in : (k v : ℕ) (e : Eqn) (p : Place) → number_eqn k e p ≡ Some v → IsPlaced (places_of e) k v p
  placed_in k v (switch at e arms) (ArmsOf ∷ p) h = step ArmsOf (places_of_arms arms) k v p (placed_in_arms k v arms p h)
  placed_in k v (reset at b e) (Body ∷ p) h = step Body (places b) k v p (placed k v b p h)
  placed_in k v (automaton at ss) (StatesOf ∷ p) h = step StatesOf (places_of_states ss) k v p (placed_in_states k v ss p h)
  placed_in k v e p h = absurd cc

  pub placed_in_arms : (k v : ℕ) (arms : Arms) (p : Place) → number_arms k arms p ≡ Some v → IsPlaced (places_of_arms arms) k v p
  placed_in_arms k v (more_arms c b at arms) (Head ∷ p) h = fore (below Head (places b)) (below Tail (places_of_arms arms)) k v (Head ∷ p) (step Head (places b) k v p (placed k v b p h))
  placed_in_arms k v (more_arms c b at arms) (Tail ∷ p) h =
      rear (below Head (places b)) (below Tail (places_of_arms arms)) (size b) k v (Tail ∷ p) (one Head (places b) (size b) (count b))
      (step Tail (places_of_arms arms) (k + size b) v p (placed_in_arms (k + size b) v arms p h))
  placed_in_arms k v arms p h = absurd cc

  pub placed_in_states : (k v : ℕ) (ss : States) (p : Place) → number_states k ss p ≡ Some v → IsPlaced (places_of_states ss) k v p
  placed_in_states k v (more_states f b until unless at ss) (Head ∷ Body ∷ p) h =
      fore (below Head (below Body (places b))) (below Tail (places_of_states ss)) k v (Head ∷ Body ∷ p) (step Head (below Body (places b)) k v (Body ∷ p) (step Body (places b) k v p (placed k v b p h)))
  placed_in_states k v (more_states f b until unless at ss) (Tail ∷ p) h =
      rear (below Head (below Body (places b))) (below Tail (places_of_states ss)) (size b) k v (Tail ∷ p) (one Head (below Body (places b)) (size b) (one Body (places b) (size b) (count b)))
      (step Tail (places_of_states ss) (k + size b) v p (placed_in_states (k + size b) v ss p h))
  placed_in_states k v ss p h = absurd cc

-- ---- nodes
abbrev pub places_of_contract : Option Contract → List Place
places_of_contract None = []
places_of_contract (Some c) = places c.body

abbrev pub places_of_node : Node → List Place
places_of_node n = name_places (declared n.outputs) ++ (below Observer (places_of_contract n.contract) ++ below Body (places n.body))

count_of_contract : (c : Option Contract) → length (places_of_contract c) ≡ size_of_contract c
count_of_contract None = refl
count_of_contract (Some c) = count c.body

placed_in_contract : (k v : ℕ) (c : Option Contract) (p : Place) → number_contract k c p ≡ Some v → IsPlaced (places_of_contract c) k v p
placed_in_contract k v None p h = absurd cc
placed_in_contract k v (Some c) p h = placed k v c.body p h

pub placed_in_node : (v : ℕ) (n : Node) (p : Place) → number_node n p ≡ Some v → IsPlaced (places_of_node n) 0 v p
placed_in_node v n (Named x ∷ []) h =
    fore (name_places (declared n.outputs)) (below Observer (places_of_contract n.contract) ++ below Body (places n.body)) 0 v (Named x ∷ []) (name_placed (declared n.outputs) 0 v x h)
placed_in_node v n (Observer ∷ p) h =
    rear (name_places (declared n.outputs)) (below Observer (places_of_contract n.contract) ++ below Body (places n.body)) (length n.outputs) 0 v (Observer ∷ p) (count_declared n.outputs)
    (fore (below Observer (places_of_contract n.contract)) (below Body (places n.body)) (0 + length n.outputs) v (Observer ∷ p)
    (step Observer (places_of_contract n.contract) (0 + length n.outputs) v p (placed_in_contract (0 + length n.outputs) v n.contract p (ap (λ k. number_contract k n.contract p) (let e : 0 + length n.outputs ≡ length n.outputs = omega arith in e) ∙ h))))
placed_in_node v n (Body ∷ p) h =
    let k = 0 + length n.outputs in
    rear (name_places (declared n.outputs)) (below Observer (places_of_contract n.contract) ++ below Body (places n.body)) (length n.outputs) 0 v (Body ∷ p) (count_declared n.outputs)
    (rear (below Observer (places_of_contract n.contract)) (below Body (places n.body)) (size_of_contract n.contract) k v (Body ∷ p) (one Observer (places_of_contract n.contract) (size_of_contract n.contract) (count_of_contract n.contract))
    (step Body (places n.body) (k + size_of_contract n.contract) v p (placed (k + size_of_contract n.contract) v n.body p
    (ap (λ j. number_block (j + size_of_contract n.contract) n.body p) (let e : 0 + length n.outputs ≡ length n.outputs = omega arith in e) ∙ h))))
placed_in_node v n p h = absurd cc
