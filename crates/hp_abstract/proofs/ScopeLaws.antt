-- What layers and scopes are seen as.
use Rattle.std.proofs.Common.{◌≡◌, ℕ, zero, suc, Bor, slice_get, add-one, ◌+◌, ◌-◌, ◌<◌, get_or, length, take, drop, Bool, true, false, cond, if◌then◌else◌, List, [], ◌∷◌, ◌++◌, reverse, Option, None, Some, map, refl, sym, ap, ◌∙◌, arith}
use Rattle.std.specs.Str.{bytes_eq}
use Rattle.std.specs.Map.{lookup}
use Rattle.indexmap.specs.IndexMap.{set_value_at, insert_entry}
use Rattle.std.proofs.lemmas.List.{map-append, reverse-append, get_or_default}
use Rattle.std.proofs.Math.Seq.{take-length}
use Rattle.hp_drawing.specs.declared.parts.Entry.{Entry}
use Rattle.hp_drawing.specs.Sketch.{Sketch}
use Rattle.hp_drawing.specs.Scopes.{Layer, entry_if, entry_in, put_if, put, or_found, found, innermost, outer_layers, with_hole, set_hole, join_name, join_names}
use Rattle.hp_drawing.proofs.ListLaws.{take-next}
use Rattle.hp_abstract.specs.declared.scope.Layer as code_layer
use Rattle.hp_abstract.specs.Seen.{entry_seen, layer_of, inner_first}

-- ---- the outermost first

pub inner-pushed : (ls : List code_layer.Layer) (l : code_layer.Layer) → inner_first (ls ++ l ∷ []) ≡ layer_of l ∷ inner_first ls
inner-pushed ls l = ap reverse (map-append layer_of ls (l ∷ [])) ∙ reverse-append (map layer_of ls) (layer_of l ∷ [])

found-pushed : (ls : List code_layer.Layer) (l : code_layer.Layer) (x : List ℕ) → found (inner_first (ls ++ l ∷ [])) x ≡ or_found (entry_in (layer_of l) x) (found (inner_first ls) x)
found-pushed ls l x = ap (λ more. found more x) (inner-pushed ls l)

-- what the layers up to one say
pub found-next : (ls : List code_layer.Layer) (i k : ℕ) (l : code_layer.Layer) (x : List ℕ) → k ≡ i + 1 → i < length ls → l ≡ get_or ls i l
    → found (inner_first (take k ls)) x ≡ or_found (entry_in (layer_of l) x) (found (inner_first (take i ls)) x)
found-next ls i k l x next h p = ap (λ n. found (inner_first (take n ls)) x) next ∙ ap (λ more. found (inner_first more) x) (take-next ls i l h p) ∙ found-pushed (take i ls) l x

pub found-all : (ls : List code_layer.Layer) (x : List ℕ) → found (inner_first ls) x ≡ found (inner_first (take (length ls) ls)) x
found-all ls x = sym (ap (λ more. found (inner_first more) x) (take-length ls))

-- the layers but for the innermost one, and that one
parts : (l : code_layer.Layer) (ls : List code_layer.Layer) (last : code_layer.Layer) → last ≡ get_or (l ∷ ls) (length (l ∷ ls) - 1) last → l ∷ ls ≡ take (length ls) (l ∷ ls) ++ last ∷ []
parts l ls last p =
    let all = l ∷ ls in
    let k = length ls in
    let inside : k < length all = omega arith in
    let at : last ≡ get_or all k last = p ∙ ap (λ n. get_or all n last) (let e : length all - 1 ≡ k = omega arith in e) in
    sym (take-length all) ∙ ap (λ n. take n all) (let e : length all ≡ k + 1 = omega arith in e) ∙ take-next all k last inside at

pub front-others : (ls : List code_layer.Layer) → inner_first (take (length ls - 1) ls) ≡ outer_layers (inner_first ls)
front-others [] = refl
front-others (l ∷ ls) =
    let all = l ∷ ls in
    let k = length ls in
    let last = get_or all k l in
    let inside : k < length all = omega arith in
    let end : length all - 1 ≡ k = omega arith in
    let one : last ≡ get_or all (length all - 1) last = get_or_default all k l last inside ∙ ap (λ n. get_or all n last) (sym end) in
    ap (λ n. inner_first (take n all)) end ∙ sym (ap (λ more. outer_layers (inner_first more)) (parts l ls last one) ∙ ap outer_layers (inner-pushed (take k all) last))

pub last-innermost : (ls : List code_layer.Layer) (last : code_layer.Layer) → 0 < length ls → last ≡ get_or ls (length ls - 1) last → layer_of last ≡ innermost (inner_first ls)
last-innermost [] last h p = absurd (let e : ⊥ = omega arith in e)
last-innermost (l ∷ ls) last h p = sym (ap (λ more. innermost (inner_first more)) (parts l ls last p) ∙ ap innermost (inner-pushed (take (length ls) (l ∷ ls)) last))

-- ---- the entries of a layer

pub length-seen : (es : List (Bor (List ℕ) × Entry)) → length (map entry_seen es) ≡ length es
length-seen [] = refl
length-seen (p ∷ es) = ap suc (length-seen es)

chosen-entry : (d : Bool) (e : Entry) (o r : Option Entry) → o ≡ r → cond d (Some e) o ≡ entry_if d e r
chosen-entry true e o r h = refl
chosen-entry false e o r h = h

pub entry-looked_up : (x : List ℕ) (es : List (Bor (List ℕ) × Entry)) → lookup (λ k. bytes_eq x k.now) es ≡ entry_in (map entry_seen es) x
entry-looked_up x [] = refl
entry-looked_up x (p ∷ es) = chosen-entry (bytes_eq x p.0.now) p.1 (lookup (λ k. bytes_eq x k.now) es) (entry_in (map entry_seen es) x) (entry-looked_up x es)

put-chosen : (d : Bool) (p : Bor (List ℕ) × Entry) (e : Entry) (es more : List (Bor (List ℕ) × Entry)) (l : Layer) → map entry_seen more ≡ l
    → map entry_seen (if d then (p.0, e) ∷ es else p ∷ more) ≡ put_if d (entry_seen p) e (map entry_seen es) l
put-chosen true p e es more l h = refl
put-chosen false p e es more l h = ap (λ rest. entry_seen p ∷ rest) h

pub put-inserted : (es : List (Bor (List ℕ) × Entry)) (k : Bor (List ℕ)) (e : Entry) → map entry_seen (insert_entry (λ x y. bytes_eq x.now y.now) es k e) ≡ put (map entry_seen es) k.now e
put-inserted [] k e = refl
put-inserted (p ∷ es) k e =
    put-chosen (bytes_eq k.now p.0.now) p e es (insert_entry (λ x y. bytes_eq x.now y.now) es k e) (put (map entry_seen es) k.now e) (put-inserted es k e)

-- ---- a wire of a layer that is said next

pub hole-set : (es : List (Bor (List ℕ) × Entry)) (i : ℕ) (e : Entry) (h : ℕ) → slice_get (map (λ p. p.1) es) i ≡ Some e → map entry_seen (set_value_at es i (with_hole e h)) ≡ set_hole (map entry_seen es) i h
hole-set [] i e h k = refl
hole-set (p ∷ es) zero e h k = ap (λ f. (p.0.now, with_hole f h) ∷ map entry_seen es) (let q : e ≡ p.1 = cc in q)
hole-set (p ∷ es) (suc i) e h k = ap (λ rest. entry_seen p ∷ rest) (hole-set es i e h k)

pub hole-none : (es : List (Bor (List ℕ) × Entry)) (i : ℕ) (h : ℕ) → slice_get (map (λ p. p.1) es) i ≡ None → map entry_seen es ≡ set_hole (map entry_seen es) i h
hole-none [] i h k = refl
hole-none (p ∷ es) zero h k = absurd (let e : ⊥ = cc in e)
hole-none (p ∷ es) (suc i) h k = ap (λ rest. entry_seen p ∷ rest) (hole-none es i h k)

-- ---- the entry of a number

drop-some : (l : Layer) (i : ℕ) (p : List ℕ × Entry) → slice_get l i ≡ Some p → drop i l ≡ p ∷ drop (suc i) l
drop-some [] i p h = absurd (let e : ⊥ = cc in e)
drop-some (q ∷ l) zero p h = ap (λ r. r ∷ l) (let e : q ≡ p = cc in e)
drop-some (q ∷ l) (suc i) p h = drop-some l i p h

drop-none : (l : Layer) (i : ℕ) → slice_get l i ≡ None → drop i l ≡ drop (suc i) l
drop-none [] zero h = refl
drop-none [] (suc i) h = refl
drop-none (q ∷ l) zero h = absurd (let e : ⊥ = cc in e)
drop-none (q ∷ l) (suc i) h = drop-none l i h

pub entry-next : (l : Layer) (i : ℕ) (p : List ℕ × Entry) → Some p ≡ slice_get l i → drop i l ≡ p ∷ drop (i + 1) l
entry-next l i p h = drop-some l i p (sym h) ∙ ap (λ n. p ∷ drop n l) (sym (add-one i))

pub entry-none : (l : Layer) (i : ℕ) → None ≡ slice_get l i → drop i l ≡ drop (i + 1) l
entry-none l i h = drop-none l i (sym h) ∙ ap (λ n. drop n l) (sym (add-one i))

-- ---- names that are joined one by one

module _ (own : Layer) (c : ℕ) where
  one-joined : (l : Layer) (i : ℕ) (p : List ℕ × Entry) (s : Sketch) → slice_get l i ≡ Some p
      → let r = join_name own c p.0 p.1 s in
      let new = set_hole l i r.0 in
      (length new ≡ length l) × (take (suc i) new ++ (join_names own c (drop (suc i) new) r.1).0 ≡ take i l ++ (join_names own c (drop i l) s).0)
      × ((join_names own c (drop (suc i) new) r.1).1 ≡ (join_names own c (drop i l) s).1)
  one-joined [] i p s h = absurd (let e : ⊥ = cc in e)
  one-joined (q ∷ l) zero p s h =
      let e : p ≡ q = cc in
      (refl, (λ j. (q.0, with_hole q.1 (join_name own c (e j).0 (e j).1 s).0) ∷ (join_names own c l (join_name own c (e j).0 (e j).1 s).1).0), λ j. (join_names own c l (join_name own c (e j).0 (e j).1 s).1).1)
  one-joined (q ∷ l) (suc i) p s h =
      let more = one-joined l i p s h in
      (ap suc more.0, ap (λ rest. q ∷ rest) more.1, more.2)

  pub join-step : (l new : Layer) (i w : ℕ) (p : List ℕ × Entry) (s t : Sketch) → Some p ≡ slice_get l i → w ≡ (join_name own c p.0 p.1 s).0 → t ≡ (join_name own c p.0 p.1 s).1 → new ≡ set_hole l i w
      → (length new ≡ length l) × (take (i + 1) new ++ (join_names own c (drop (i + 1) new) t).0 ≡ take i l ++ (join_names own c (drop i l) s).0)
      × ((join_names own c (drop (i + 1) new) t).1 ≡ (join_names own c (drop i l) s).1)
  join-step l new i w p s t h a b e =
      let done = one-joined l i p s (sym h) in
      let n : new ≡ set_hole l i (join_name own c p.0 p.1 s).0 = e ∙ ap (λ v. set_hole l i v) a in (
        ap length n ∙ done.0,
        (λ j. take (add-one i j) (n j) ++ (join_names own c (drop (add-one i j) (n j)) (b j)).0) ∙ done.1,
        (λ j. (join_names own c (drop (add-one i j) (n j)) (b j)).1) ∙ done.2,
      )
