-- Signatures, and the nodes of a program in order.
use Rattle.std.proofs.Common.{◌≡◌, ℕ, zero, suc, ◌+◌, ◌<◌, ◌≤◌, get_or, length, map, take, drop, List, [], ◌∷◌, ◌++◌, Option, Some, Bor, refl, sym, ap, subst, ◌∙◌, add-one, arith}
use Rattle.std.specs.Prelude.{All, slice_get}
use Rattle.std.proofs.lemmas.List.{append_assoc, append-nil, length-append, length-take-le, take-append-drop}
use Rattle.std.proofs.lemmas.List.Elements.{All-cons, All-nil}
use Rattle.std.proofs.lemmas.Option.{slice_get-get_or}
use Rattle.std.proofs.Math.Seq.{take-suc, take-append_seam}
use Rattle.hp_tree.specs.declared.program.Item.{Item}
use Rattle.hp_tree.specs.declared.program.Item.TheVariants.{TypeItem, NodeItem}
use Rattle.hp_tree.specs.Blocks.{Decl}
use Rattle.hp_tree.specs.Programs.{TypeDecl, Node}
use Rattle.hp_tree.specs.Meaning.{controls_of}
use Rattle.hp_flat.specs.declared.node.Variable.{Variable}
use Rattle.hp_flat.specs.Nodes.{FlatNode}
use Rattle.hp_complete.specs.Ranges.{EqnWithin}
use Rattle.hp_complete.specs.Signatures.{numbers_from, type_names, variable_of, variables_of, IsFlat, AreFlat}

pub take-next : {A : Type 0} (xs : List A) (i : ℕ) (x : A) → i < length xs → x ≡ get_or xs i x → take (i + 1) xs ≡ take i xs ++ x ∷ []
take-next xs i x h p = ap (λ n. take n xs) (add-one i) ∙ take-suc xs i x h ∙ ap (λ y. take i xs ++ y ∷ []) (sym p)

map-both : {A B : Type 0} (f : A → B) (xs ys : List A) → map f (xs ++ ys) ≡ map f xs ++ map f ys
map-both f [] ys = refl
map-both f (x ∷ xs) ys = ap (λ more. f x ∷ more) (map-both f xs ys)

length-mapped : {A B : Type 0} (f : A → B) (xs : List A) → length (map f xs) ≡ length xs
length-mapped f [] = refl
length-mapped f (x ∷ xs) = ap suc (length-mapped f xs)

-- ---- names of types

names-both : (xs ys : List Item) → type_names (xs ++ ys) ≡ type_names xs ++ type_names ys
names-both [] ys = refl
names-both (TypeItem t ∷ xs) ys = ap (λ more. t.name ∷ more) (names-both xs ys)
names-both (NodeItem n ∷ xs) ys = names-both xs ys

pub names-next : (items : List Item) (i : ℕ) (x : Item) → i < length items → x ≡ get_or items i x → type_names (take (i + 1) items) ≡ type_names (take i items) ++ type_names (x ∷ [])
names-next items i x h p = ap type_names (take-next items i x h p) ∙ names-both (take i items) (x ∷ [])

pub name-pushed : (before after : List (Bor (List ℕ))) (y : Bor (List ℕ)) (item : Item) (t : TypeDecl) → item ≡ TypeItem t → after ≡ before ++ y ∷ [] → y.now ≡ t.name → map (λ x. x.now) after ≡ map (λ x. x.now) before ++ type_names (item ∷ [])
name-pushed before after y item t is e p =
    ap (map (λ (x : Bor (List ℕ)). x.now)) e
    ∙ map-both (λ (x : Bor (List ℕ)). x.now) before (y ∷ [])
    ∙ ap (λ name. map (λ (x : Bor (List ℕ)). x.now) before ++ name ∷ []) p
    ∙ sym (ap (λ (it : Item). map (λ (x : Bor (List ℕ)). x.now) before ++ type_names (it ∷ [])) is)

pub no-name : (before : List (Bor (List ℕ))) (item : Item) (n : Node) → item ≡ NodeItem n → map (λ x. x.now) before ≡ map (λ x. x.now) before ++ type_names (item ∷ [])
no-name before item n is = sym (append-nil (map (λ (x : Bor (List ℕ)). x.now) before)) ∙ sym (ap (λ (it : Item). map (λ (x : Bor (List ℕ)). x.now) before ++ type_names (it ∷ [])) is)

-- ---- variables of a signature

numbers-last : (k n : ℕ) → numbers_from k (suc n) ≡ numbers_from k n ++ (k + n) ∷ []
numbers-last k zero = ap (λ m. m ∷ []) (let e : k ≡ k + 0 = omega arith in e)
numbers-last k (suc n) = ap (λ more. k ∷ more) (numbers-last (k + 1) n ∙ ap (λ m. numbers_from (k + 1) n ++ m ∷ []) (let e : k + 1 + n ≡ k + suc n = omega arith in e))

pub numbers-next : (k i : ℕ) → numbers_from k (i + 1) ≡ numbers_from k i ++ (k + i) ∷ []
numbers-next k i = ap (numbers_from k) (add-one i) ∙ numbers-last k i

module _ (places : List ℕ → Option ℕ) where
  pub signed-next : (first now new : List Variable) (ds : List Decl) (i : ℕ) (d : Decl) → i < length ds → d ≡ get_or ds i d
      → now ≡ first ++ variables_of places (take i ds) → new ≡ now ++ variable_of places d ∷ [] → new ≡ first ++ variables_of places (take (i + 1) ds)
  signed-next first now new ds i d h p e f =
      f
      ∙ ap (λ vs. vs ++ variable_of places d ∷ []) e
      ∙ append_assoc first (variables_of places (take i ds)) (variable_of places d ∷ [])
      ∙ sym (ap (λ vs. first ++ vs) (ap (variables_of places) (take-next ds i d h p) ∙ map-both (variable_of places) (take i ds) (d ∷ [])))

  pub signed-length : (first now : List Variable) (ds : List Decl) (i : ℕ) → i ≤ length ds → now ≡ first ++ variables_of places (take i ds) → length now ≡ length first + i
  signed-length first now ds i h e =
      let taken : length (take i ds) ≡ i = length-take-le i ds h in
      ap length e ∙ length-append first (variables_of places (take i ds)) ∙ ap (λ n. length first + n) (length-mapped (variable_of places) (take i ds) ∙ taken)

  pub signed-two : (a b : List Decl) (v0 v1 v2 : List Variable) → v0 ≡ [] → v1 ≡ v0 ++ variables_of places a → v2 ≡ v1 ++ variables_of places b → v2 ≡ variables_of places (a ++ b)
  signed-two a b v0 v1 v2 none one two =
      two ∙ ap (λ vs. vs ++ variables_of places b) (one ∙ ap (λ vs. vs ++ variables_of places a) none) ∙ sym (map-both (variable_of places) a b)

  pub signed-count : (a b : List Decl) (v : List Variable) → v ≡ variables_of places (a ++ b) → length v ≡ length (a ++ b)
  signed-count a b v e = ap length e ∙ length-mapped (variable_of places) (a ++ b)

-- ---- the numbers of outputs

at_seam : {A : Type 0} (fst : List A) (b : A) (rest : List A) (d : A) → get_or (fst ++ b ∷ rest) (length fst) d ≡ b
at_seam [] b rest d = refl
at_seam (a ∷ fst) b rest d = at_seam fst b rest d

seam_within : {A : Type 0} (fst : List A) (b : A) (rest : List A) → length fst < length (fst ++ b ∷ rest)
seam_within fst b rest = omega (arith, length-append fst (b ∷ rest))

got_at_seam : {A : Type 0} (fst : List A) (b : A) (rest : List A) → slice_get (fst ++ b ∷ rest) (length fst) ≡ Some b
got_at_seam fst b rest = slice_get-get_or (fst ++ b ∷ rest) (length fst) b (seam_within fst b rest) ∙ ap Some (at_seam fst b rest b)

outputs-at : {A : Type 0} (fst snd rest : List A) → map (slice_get (fst ++ (snd ++ rest))) (numbers_from (length fst) (length snd)) ≡ map Some snd
outputs-at fst [] rest = refl
outputs-at fst (b ∷ snd) rest =
    let longer : length (fst ++ b ∷ []) ≡ length fst + 1 = length-append fst (b ∷ []) in
    let same : (fst ++ b ∷ []) ++ (snd ++ rest) ≡ fst ++ (b ∷ (snd ++ rest)) = append_assoc fst (b ∷ []) (snd ++ rest) in
    let others : map (slice_get (fst ++ (b ∷ (snd ++ rest)))) (numbers_from (length fst + 1) (length snd)) ≡ map Some snd =
    (λ j. map (slice_get (sym same j)) (numbers_from (sym longer j) (length snd))) ∙ outputs-at (fst ++ b ∷ []) snd rest in
    (λ j. got_at_seam fst b (snd ++ rest) j ∷ others j)

below-end : (n k m : ℕ) → k + m ≤ n → All (λ x. x < n) (numbers_from k m)
below-end n k zero h = All-nil (λ x. x < n)
below-end n k (suc m) h = All-cons (λ x. x < n) k (numbers_from (k + 1) m) (omega arith) (below-end n (k + 1) m (omega arith))

-- a node with the signature, whose equations are in range
module _ (places : List ℕ → Option ℕ) (n : Node) (f : FlatNode) (k : ℕ) where
  abbrev given : List Decl
  given = n.inputs ++ controls_of n.contract

  abbrev fst : List Variable
  fst = variables_of places given

  abbrev snd : List Variable
  snd = variables_of places n.outputs

  pub is-flat : f.name ≡ n.name → f.inputs ≡ length (n.inputs ++ controls_of n.contract) → f.outputs ≡ numbers_from (length (n.inputs ++ controls_of n.contract)) (length n.outputs)
      → take k f.variables ≡ variables_of places (n.inputs ++ controls_of n.contract) ++ variables_of places n.outputs → All (EqnWithin (length f.variables)) f.eqns → IsFlat places n f
  is-flat name inputs outputs signature eqns =
      let rest = drop k f.variables in
      let whole : f.variables ≡ fst ++ (snd ++ rest) = sym (take-append-drop k f.variables) ∙ ap (λ vs. vs ++ rest) signature ∙ append_assoc fst snd rest in
      let many : length fst ≡ length given = length-mapped (variable_of places) given in
      let more : length snd ≡ length n.outputs = length-mapped (variable_of places) n.outputs in
      let all : length f.variables ≡ length fst + (length snd + length rest) = ap length whole ∙ length-append fst (snd ++ rest) ∙ ap (λ m. length fst + m) (length-append snd rest) in
      let numbers : f.outputs ≡ numbers_from (length fst) (length snd) = outputs ∙ (λ j. numbers_from (sym many j) (sym more j)) in
      record {
        signed = record {
          name = name;
          inputs = inputs;
          first = (λ j. take ((inputs ∙ sym many) j) (whole j)) ∙ take-append_seam fst (snd ++ rest);
          outputs = (λ j. map (slice_get (whole j)) (numbers j)) ∙ outputs-at fst snd rest;
        };
        in_range = record {
          inputs = omega (arith, all, inputs, many);
          outputs = subst (All (λ x. x < length f.variables)) (sym numbers) (below-end (length f.variables) (length fst) (length snd) (omega (arith, all)));
          eqns = eqns;
        };
      }

-- ---- one flat node for each node

module _ (places : List ℕ → Option ℕ) where
  flat-both : (xs ys : List Item) (fs gs : List FlatNode) → AreFlat places xs fs → AreFlat places ys gs → AreFlat places (xs ++ ys) (fs ++ gs)
  flat-both [] ys [] gs h k = k
  flat-both [] ys (f ∷ fs) gs h k = absurd h
  flat-both (TypeItem t ∷ xs) ys fs gs h k = flat-both xs ys fs gs h k
  flat-both (NodeItem n ∷ xs) ys [] gs h k = absurd h
  flat-both (NodeItem n ∷ xs) ys (f ∷ fs) gs h k = (h.0, flat-both xs ys fs gs h.1 k)

  pub flat-type : (before : List Item) (item : Item) (t : TypeDecl) (fs : List FlatNode) → item ≡ TypeItem t → AreFlat places before fs → AreFlat places (before ++ item ∷ []) fs
  flat-type before item t fs is h =
      subst (λ (it : Item). AreFlat places (before ++ it ∷ []) fs) (sym is) (subst (AreFlat places (before ++ TypeItem t ∷ [])) (append-nil fs) (flat-both before (TypeItem t ∷ []) fs [] h tt))

  pub flat-node : (before : List Item) (item : Item) (n : Node) (f : FlatNode) (fs gs : List FlatNode) → item ≡ NodeItem n → gs ≡ fs ++ f ∷ [] → IsFlat places n f → AreFlat places before fs → AreFlat places (before ++ item ∷ []) gs
  flat-node before item n f fs gs is e p h =
      subst (λ (it : Item). AreFlat places (before ++ it ∷ []) gs) (sym is) (subst (AreFlat places (before ++ NodeItem n ∷ [])) (sym e) (flat-both before (NodeItem n ∷ []) fs (f ∷ []) h (p, tt)))

  pub flat-next : (items : List Item) (i : ℕ) (x : Item) (fs : List FlatNode) → i < length items → x ≡ get_or items i x → AreFlat places (take i items ++ x ∷ []) fs → AreFlat places (take (i + 1) items) fs
  flat-next items i x fs h p k = subst (λ xs. AreFlat places xs fs) (sym (take-next items i x h p)) k
