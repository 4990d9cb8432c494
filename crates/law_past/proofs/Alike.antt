-- Programs whose nodes are alike one by one: the nodes of a name are alike.
use Rattle.std.proofs.Common.{◌≡◌, ℕ, Bool, true, false, if◌then◌else◌, List, [], ◌∷◌, ◌++◌, reverse, Some, sym, ap, ◌∙◌, subst}
use Rattle.std.proofs.lemmas.List.{reverse-append}
use Rattle.std.specs.Prelude.{⊤}
use Rattle.std.specs.Str.{bytes_eq}
use Rattle.hp_tree.specs.declared.program.Item.{Item}
use Rattle.hp_tree.specs.declared.program.Item.TheVariants.{TypeItem, NodeItem}
use Rattle.hp_tree.specs.Meaning.{node_among}
use Rattle.hp_tree.specs.Programs.{Contract, Node}
use Rattle.hp_past.specs.Remembering.{HasContract}
use Rattle.law_past.proofs.Holding.{some_is}

module _ (R : Node → Node → Type 0) where
  abbrev pub Alike : List Item → List Item → Type 0
  Alike [] [] = ⊤
  Alike [] (y ∷ ys) = ⊥
  Alike (TypeItem t ∷ xs) [] = ⊥
  Alike (TypeItem t ∷ xs) (TypeItem u ∷ ys) = Alike xs ys
  Alike (TypeItem t ∷ xs) (NodeItem m ∷ ys) = ⊥
  Alike (NodeItem n ∷ xs) [] = ⊥
  Alike (NodeItem n ∷ xs) (TypeItem u ∷ ys) = ⊥
  Alike (NodeItem n ∷ xs) (NodeItem m ∷ ys) = ((m.name ≡ n.name) × R n m) × Alike xs ys

  alike_append : (xs ys zs ws : List Item) → Alike xs ys → Alike zs ws → Alike (xs ++ zs) (ys ++ ws)
  alike_append [] [] zs ws h k = k
  alike_append [] (y ∷ ys) zs ws h k = absurd h
  alike_append (TypeItem t ∷ xs) [] zs ws h k = absurd h
  alike_append (TypeItem t ∷ xs) (TypeItem u ∷ ys) zs ws h k = alike_append xs ys zs ws h k
  alike_append (TypeItem t ∷ xs) (NodeItem m ∷ ys) zs ws h k = absurd h
  alike_append (NodeItem n ∷ xs) [] zs ws h k = absurd h
  alike_append (NodeItem n ∷ xs) (TypeItem u ∷ ys) zs ws h k = absurd h
  alike_append (NodeItem n ∷ xs) (NodeItem m ∷ ys) zs ws h k = (h.0, alike_append xs ys zs ws h.1 k)

  turned : (x y : Item) (xs ys : List Item) → Alike (reverse xs ++ x ∷ []) (reverse ys ++ y ∷ []) → Alike (reverse (x ∷ xs)) (reverse (y ∷ ys))
  turned x y xs ys h = subst (λ z. Alike z (reverse (y ∷ ys))) (sym (reverse-append (x ∷ []) xs)) (subst (Alike (reverse xs ++ x ∷ [])) (sym (reverse-append (y ∷ []) ys)) h)

  pub alike_reverse : (xs ys : List Item) → Alike xs ys → Alike (reverse xs) (reverse ys)
  alike_reverse [] [] h = tt
  alike_reverse [] (y ∷ ys) h = absurd h
  alike_reverse (TypeItem t ∷ xs) [] h = absurd h
  alike_reverse (TypeItem t ∷ xs) (TypeItem u ∷ ys) h = turned (TypeItem t) (TypeItem u) xs ys (alike_append (reverse xs) (reverse ys) (TypeItem t ∷ []) (TypeItem u ∷ []) (alike_reverse xs ys h) tt)
  alike_reverse (TypeItem t ∷ xs) (NodeItem m ∷ ys) h = absurd h
  alike_reverse (NodeItem n ∷ xs) [] h = absurd h
  alike_reverse (NodeItem n ∷ xs) (TypeItem u ∷ ys) h = absurd h
  alike_reverse (NodeItem n ∷ xs) (NodeItem m ∷ ys) h = turned (NodeItem n) (NodeItem m) xs ys (alike_append (reverse xs) (reverse ys) (NodeItem n ∷ []) (NodeItem m ∷ []) (alike_reverse xs ys h.1) (h.0, tt))

  -- A node of this name that is like another one.
  pub record LikeOf (items : List Item) (f : List ℕ) (n : Node) : Type 0 where
    pub node : Node
    pub is_node : node_among items f ≡ Some node
    pub like : R n node

  alike_found : (xs ys : List Item) (f : List ℕ) (n : Node) → Alike xs ys → node_among xs f ≡ Some n → LikeOf ys f n
  alike_found [] [] f n h e = absurd cc
  alike_found [] (y ∷ ys) f n h e = absurd h
  alike_found (TypeItem t ∷ xs) [] f n h e = absurd h
  alike_found (TypeItem t ∷ xs) (TypeItem u ∷ ys) f n h e = let r = alike_found xs ys f n h e in record { node = r.node; is_node = r.is_node; like = r.like }
  alike_found (TypeItem t ∷ xs) (NodeItem m ∷ ys) f n h e = absurd h
  alike_found (NodeItem k ∷ xs) [] f n h e = absurd h
  alike_found (NodeItem k ∷ xs) (TypeItem u ∷ ys) f n h e = absurd h
  alike_found (NodeItem k ∷ xs) (NodeItem m ∷ ys) f n h e = by (bytes_eq k.name f) (ap (λ x. bytes_eq x f) h.0.0) (alike_found xs ys f n h.1) e
    where
      by : (same : Bool) → bytes_eq m.name f ≡ same → (node_among xs f ≡ Some n → LikeOf ys f n) → (if same then Some k else node_among xs f) ≡ Some n → LikeOf (NodeItem m ∷ ys) f n
      by true is rest p = record { node = m; is_node = ap (λ b. if b then Some m else node_among ys f) is; like = subst (λ z. R z m) (some_is k n p) h.0.1 }
      by false is rest p = let r = rest p in record { node = r.node; is_node = ap (λ b. if b then Some m else node_among ys f) is ∙ r.is_node; like = r.like }

  -- the node of a name is the last one
  pub last_alike : (xs ys : List Item) (f : List ℕ) (n : Node) → Alike xs ys → node_among (reverse xs) f ≡ Some n → LikeOf (reverse ys) f n
  last_alike xs ys f n h e = alike_found (reverse xs) (reverse ys) f n (alike_reverse xs ys h) e

-- a node of this name has one contract
pub one_contract : (items : List Item) (f : List ℕ) (c d : Contract) → HasContract items f c → HasContract items f d → c ≡ d
one_contract items f c d h k =
    let node : h.node ≡ k.node = some_is h.node k.node (sym h.is_node ∙ k.is_node) in
    some_is c d (sym h.has ∙ ap (λ (n : Node). n.contract) node ∙ k.has)
