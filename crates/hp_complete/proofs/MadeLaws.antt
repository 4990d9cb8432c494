-- The nodes of a program in order, each with what is made of it.
use Rattle.std.proofs.Common.{◌≡◌, ℕ, ◌+◌, ◌<◌, get_or, length, take, List, [], ◌∷◌, ◌++◌, sym, ap, subst, ◌∙◌}
use Rattle.std.proofs.lemmas.List.{append-nil, length-append}
use Rattle.hp_tree.specs.declared.program.Item.{Item}
use Rattle.hp_tree.specs.declared.program.Item.TheVariants.{TypeItem, NodeItem}
use Rattle.hp_tree.specs.Programs.{TypeDecl, Node}
use Rattle.hp_tree.specs.Meaning.{controls_of}
use Rattle.hp_flat.specs.Nodes.{FlatNode}
use Rattle.law_equations.specs.Made.Making.{Known, numbers_from}
use Rattle.hp_complete.specs.Made.{IsMadeOf, AreMadeOf}
use Rattle.hp_complete.specs.Signatures.{IsFlat, AreFlat}
use Rattle.hp_complete.proofs.LayerLaws.{take-next}
use Rattle.hp_complete.proofs.MadeNodes.{node-flat}

module _ (k : Known) where
  made-both : (xs ys : List Item) (fs gs : List FlatNode) → AreMadeOf k xs fs → AreMadeOf k ys gs → AreMadeOf k (xs ++ ys) (fs ++ gs)
  made-both [] ys [] gs h m = m
  made-both [] ys (f ∷ fs) gs h m = absurd h
  made-both (TypeItem t ∷ xs) ys fs gs h m = made-both xs ys fs gs h m
  made-both (NodeItem n ∷ xs) ys [] gs h m = absurd h
  made-both (NodeItem n ∷ xs) ys (f ∷ fs) gs h m = (h.0, made-both xs ys fs gs h.1 m)

  pub made-type : (before : List Item) (item : Item) (t : TypeDecl) (fs : List FlatNode) → item ≡ TypeItem t → AreMadeOf k before fs → AreMadeOf k (before ++ item ∷ []) fs
  made-type before item t fs is h =
      subst (λ (it : Item). AreMadeOf k (before ++ it ∷ []) fs) (sym is) (subst (AreMadeOf k (before ++ TypeItem t ∷ [])) (append-nil fs) (made-both before (TypeItem t ∷ []) fs [] h tt))

  pub made-node : (before : List Item) (item : Item) (n : Node) (f : FlatNode) (fs gs : List FlatNode) → item ≡ NodeItem n → gs ≡ fs ++ f ∷ [] → IsMadeOf k n f → AreMadeOf k before fs → AreMadeOf k (before ++ item ∷ []) gs
  made-node before item n f fs gs is e p h =
      subst (λ (it : Item). AreMadeOf k (before ++ it ∷ []) gs) (sym is) (subst (AreMadeOf k (before ++ NodeItem n ∷ [])) (sym e) (made-both before (NodeItem n ∷ []) fs (f ∷ []) h (p, tt)))

  pub made-next : (items : List Item) (i : ℕ) (x : Item) (fs : List FlatNode) → i < length items → x ≡ get_or items i x → AreMadeOf k (take i items ++ x ∷ []) fs → AreMadeOf k (take (i + 1) items) fs
  made-next items i x fs h p m = subst (λ xs. AreMadeOf k xs fs) (sym (take-next items i x h p)) m

  -- so each has the signature of its node, and all is in range
  one_flat : (n : Node) (f : FlatNode) → IsMadeOf k n f → IsFlat k.types n f
  one_flat n f m =
      let given : length n.inputs + length (controls_of n.contract) ≡ length (n.inputs ++ controls_of n.contract) = sym (length-append n.inputs (controls_of n.contract)) in
      node-flat k n f m.name m.variables (m.inputs ∙ given) (m.outputs ∙ ap (λ i. numbers_from i n.outputs) given) m.eqns

  pub made-flat : (items : List Item) (fs : List FlatNode) → AreMadeOf k items fs → AreFlat k.types items fs
  made-flat [] [] h = h
  made-flat [] (f ∷ fs) h = h
  made-flat (TypeItem t ∷ items) fs h = made-flat items fs h
  made-flat (NodeItem n ∷ items) [] h = h
  made-flat (NodeItem n ∷ items) (f ∷ fs) h = (one_flat n f h.0, made-flat items fs h.1)
