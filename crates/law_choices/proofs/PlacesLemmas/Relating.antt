-- A walk goes along with whatever relates the events one by one, and tells how many it takes.
use Rattle.std.proofs.Common.{◌≡◌, ℕ, zero, suc, List, [], ◌∷◌, ◌++◌, length, refl, ap}
use Rattle.std.specs.Prelude.{Bool, true, false, if◌then◌else◌, take, drop}
use Rattle.hp_tree.specs.declared.block.Trans.{Trans}
use Rattle.hp_tree.specs.Expressions.{Expr, constant, variable, last_of, one, two, choose, pre, fby, arrow, when_is, merge, call, Exprs, no_expr, more_exprs, Parts, no_part, more_parts}
use Rattle.hp_tree.specs.Blocks.{Block, block, Eqns, no_eqn, more_eqns, Eqn, define, switch, reset, automaton, Arms, no_arm, more_arms, States, no_state, more_states}
use Rattle.law_automata.specs.Lowered.Standing.{Along}
use Rattle.hp_watch.specs.Walk.{compares, Walked, in_front, walk, walk_all, walk_parts, walk_conditions, walk_block, walk_eqns, walk_eqn, walk_arms, walk_states}

module _ {X Y : Type 0} (P : X → Y → Type 0) where
  pub along-both : (xs vs : List X) (ys ws : List Y) → Along P xs ys → Along P vs ws → Along P (xs ++ vs) (ys ++ ws)
  along-both [] vs [] ws h k = k
  along-both [] vs (y ∷ ys) ws h k = absurd h
  along-both (x ∷ xs) vs [] ws h k = absurd h
  along-both (x ∷ xs) vs (y ∷ ys) ws h k = (h.0, along-both xs vs ys ws h.1 k)

  along-first : (xs : List X) (ys : List Y) → Along P xs ys → Along P (take 1 xs) (take 1 ys)
  along-first [] [] h = tt
  along-first [] (y ∷ ys) h = absurd h
  along-first (x ∷ xs) [] h = absurd h
  along-first (x ∷ xs) (y ∷ ys) h = (h.0, tt)

  along-drop : (n : ℕ) (xs : List X) (ys : List Y) → Along P xs ys → Along P (drop n xs) (drop n ys)
  along-drop zero xs ys h = h
  along-drop (suc n) [] [] h = tt
  along-drop (suc n) [] (y ∷ ys) h = absurd h
  along-drop (suc n) (x ∷ xs) [] h = absurd h
  along-drop (suc n) (x ∷ xs) (y ∷ ys) h = along-drop n xs ys h.1

  pub along-length : (xs : List X) (ys : List Y) → Along P xs ys → length xs ≡ length ys
  along-length [] [] h = refl
  along-length [] (y ∷ ys) h = absurd h
  along-length (x ∷ xs) [] h = absurd h
  along-length (x ∷ xs) (y ∷ ys) h = ap suc (along-length xs ys h.1)

  -- what is found, and what is left
  abbrev pub Walks : Walked X → Walked Y → Type 0
  Walks x y = Along P x.0 y.0 × Along P x.1 y.1

  abbrev Goes : (List X → Walked X) → (List Y → Walked Y) → Type 0
  Goes v w = (xs : List X) (ys : List Y) → Along P xs ys → Walks (v xs) (w ys)

  goes-two : (v v' : List X → Walked X) (w w' : List Y → Walked Y) → Goes v w → Goes v' w' → Goes (λ es. let x = v es in let y = v' x.1 in (x.0 ++ y.0, y.1)) (λ es. let x = w es in let y = w' x.1 in (x.0 ++ y.0, y.1))
  goes-two v v' w w' h k xs ys a =
      let f = h xs ys a in
      let g = k (v xs).1 (w ys).1 f.1 in
      (along-both (v xs).0 (v' (v xs).1).0 (w ys).0 (w' (w ys).1).0 f.0 g.0, g.1)

  goes-front : (x : Walked X) (y : Walked Y) → Walks x y → Walks (in_front x) (in_front y)
  goes-front x y h = (along-both (take 1 x.1) x.0 (take 1 y.1) y.0 (along-first x.1 y.1 h.1) h.0, along-drop 1 x.1 y.1 h.1)

  goes-compared : (c : Bool) (x : Walked X) (y : Walked Y) → Walks x y → Walks (if c then in_front x else x) (if c then in_front y else y)
  goes-compared true x y h = goes-front x y h
  goes-compared false x y h = h

  mutual
    pub expr-goes : (e : Expr) → Goes (walk e) (walk e)
    expr-goes (constant s c) xs ys h = (tt, h)
    expr-goes (variable s x) xs ys h = (tt, h)
    expr-goes (last_of s x) xs ys h = (tt, h)
    expr-goes (one s o a) xs ys h = expr-goes a xs ys h
    expr-goes (two s o a b) xs ys h =
        goes-compared (compares o) (let x = walk a xs in let y = walk b x.1 in (x.0 ++ y.0, y.1)) (let x = walk a ys in let y = walk b x.1 in (x.0 ++ y.0, y.1))
        (goes-two (walk a) (walk b) (walk a) (walk b) (expr-goes a) (expr-goes b) xs ys h)
    expr-goes (choose s a b c) xs ys h =
        goes-two (λ es. let x = walk a es in let y = walk b x.1 in (x.0 ++ y.0, y.1)) (walk c) (λ es. let x = walk a es in let y = walk b x.1 in (x.0 ++ y.0, y.1)) (walk c)
        (goes-two (walk a) (walk b) (walk a) (walk b) (expr-goes a) (expr-goes b)) (expr-goes c) xs ys h
    expr-goes (pre s a) xs ys h = expr-goes a xs ys h
    expr-goes (fby s a b) xs ys h = goes-two (walk a) (walk b) (walk a) (walk b) (expr-goes a) (expr-goes b) xs ys h
    expr-goes (arrow s a b) xs ys h = goes-two (walk a) (walk b) (walk a) (walk b) (expr-goes a) (expr-goes b) xs ys h
    expr-goes (when_is s a c x) xs ys h = expr-goes a xs ys h
    expr-goes (merge s x ps) xs ys h = parts-go ps xs ys h
    expr-goes (call s f inlined es) xs ys h = goes-front (walk_all es xs) (walk_all es ys) (all-go es xs ys h)

    pub all-go : (es : Exprs) → Goes (walk_all es) (walk_all es)
    all-go no_expr xs ys h = (tt, h)
    all-go (more_exprs e es) xs ys h = goes-two (walk e) (walk_all es) (walk e) (walk_all es) (expr-goes e) (all-go es) xs ys h

    parts-go : (ps : Parts) → Goes (walk_parts ps) (walk_parts ps)
    parts-go no_part xs ys h = (tt, h)
    parts-go (more_parts c e ps) xs ys h = goes-two (walk e) (walk_parts ps) (walk e) (walk_parts ps) (expr-goes e) (parts-go ps) xs ys h

  conditions-go : (ts : List Trans) → Goes (walk_conditions ts) (walk_conditions ts)
  conditions-go [] xs ys h = (tt, h)
  conditions-go (t ∷ ts) xs ys h = goes-two (walk t.cond) (walk_conditions ts) (walk t.cond) (walk_conditions ts) (expr-goes t.cond) (conditions-go ts) xs ys h

  mutual
    pub block-goes : (b : Block) → Goes (walk_block b) (walk_block b)
    block-goes (block ds es) xs ys h = eqns-go es xs ys h

    eqns-go : (es : Eqns) → Goes (walk_eqns es) (walk_eqns es)
    eqns-go no_eqn xs ys h = (tt, h)
    eqns-go (more_eqns e es) xs ys h = goes-two (walk_eqn e) (walk_eqns es) (walk_eqn e) (walk_eqns es) (eqn-goes e) (eqns-go es) xs ys h

    pub eqn-goes : (e : Eqn) → Goes (walk_eqn e) (walk_eqn e)
    eqn-goes (define s zs e) xs ys h = expr-goes e xs ys h
    eqn-goes (switch s e arms) xs ys h = goes-two (walk e) (walk_arms arms) (walk e) (walk_arms arms) (expr-goes e) (arms-go arms) xs ys h
    eqn-goes (reset s b e) xs ys h =
        let f = expr-goes e xs ys h in
        let g = block-goes b (walk e xs).1 (walk e ys).1 f.1 in
        (along-both (walk_block b (walk e xs).1).0 (walk e xs).0 (walk_block b (walk e ys).1).0 (walk e ys).0 g.0 f.0, g.1)
    eqn-goes (automaton s ss) xs ys h = states-go ss xs ys h

    arms-go : (arms : Arms) → Goes (walk_arms arms) (walk_arms arms)
    arms-go no_arm xs ys h = (tt, h)
    arms-go (more_arms c b s arms) xs ys h = goes-two (walk_block b) (walk_arms arms) (walk_block b) (walk_arms arms) (block-goes b) (arms-go arms) xs ys h

    states-go : (ss : States) → Goes (walk_states ss) (walk_states ss)
    states-go no_state xs ys h = (tt, h)
    states-go (more_states q b until unless s ss) xs ys h =
        let xs1 = walk_conditions unless xs in
        let ys1 = walk_conditions unless ys in
        let strong = conditions-go unless xs ys h in
        let xs2 = walk_conditions until (drop 5 xs1.1) in
        let ys2 = walk_conditions until (drop 5 ys1.1) in
        let weak = conditions-go until (drop 5 xs1.1) (drop 5 ys1.1) (along-drop 5 xs1.1 ys1.1 strong.1) in
        let xs3 = walk_block b xs2.1 in
        let ys3 = walk_block b ys2.1 in
        let body = block-goes b xs2.1 ys2.1 weak.1 in
        let rest = states-go ss xs3.1 ys3.1 body.1 in (
          along-both ((xs3.0 ++ xs2.0) ++ xs1.0) (walk_states ss xs3.1).0 ((ys3.0 ++ ys2.0) ++ ys1.0) (walk_states ss ys3.1).0
              (along-both (xs3.0 ++ xs2.0) xs1.0 (ys3.0 ++ ys2.0) ys1.0 (along-both xs3.0 xs2.0 ys3.0 ys2.0 body.0 weak.0) strong.0) rest.0,
          rest.1,
        )
