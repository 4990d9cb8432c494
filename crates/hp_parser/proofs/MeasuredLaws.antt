-- Heights of operands.
use Rattle.std.proofs.Common.{◌≡◌, ℕ, zero, suc, ◌+◌, ◌<◌, ◌≤◌, max, List, [], ◌∷◌, ◌++◌, length, map, take, get_or, refl, sym, ap, ◌∙◌, arith}
use Rattle.std.proofs.lemmas.List.{map-append, take_more}
use Rattle.hp_tree.specs.Expressions.{Expr}
use Rattle.hp_tree.specs.declared.decl.Cons.{Cons}
use Rattle.hp_parser.specs.declared.measured.Measured.{Measured as Found}
use Rattle.hp_parser.specs.declared.measured.Part.{Part as FoundPart}
use Rattle.hp_parser.specs.Descent.{measured_seen, part_seen, end_of}
use Rattle.hp_parser.specs.Grammar.{deepest, Part, last_end}
use Rattle.hp_parser.specs.Notation.{Measured}

deepest-append : (xs : List Measured) (m : Measured) → deepest (xs ++ (m ∷ [])) ≡ max (deepest xs) (suc m.height)
deepest-append [] m = omega arith
deepest-append (x ∷ xs) m = let before = deepest-append xs m in omega (arith, before)

pub deepest_pushed : (xs : List Found) (x : Found) → deepest (map measured_seen (xs ++ (x ∷ []))) ≡ max (deepest (map measured_seen xs)) (suc x.height)
deepest_pushed xs x = ap deepest (map-append measured_seen xs (x ∷ [])) ∙ deepest-append (map measured_seen xs) (measured_seen x)

pub deepest_more : (xs : List Found) (i : ℕ) (x : Found) → i < length xs → x ≡ get_or xs i x →
    deepest (map measured_seen (take (i + 1) xs)) ≡ max (x.height + 1) (deepest (map measured_seen (take i xs)))
deepest_more xs i x h e =
    let here : deepest (map measured_seen (take (i + 1) xs)) ≡ deepest (map measured_seen (take i xs ++ (x ∷ []))) =
    ap (λ ys. deepest (map measured_seen ys)) (take_more xs i x h ∙ ap (λ y. take i xs ++ (y ∷ [])) (sym e)) in
    let pushed = deepest_pushed (take i xs) x in
    omega (arith, here, pushed)

deepest-taken : (xs : List Found) (n : ℕ) → deepest (map measured_seen (take n xs)) ≤ deepest (map measured_seen xs)
deepest-taken xs zero = omega arith
deepest-taken [] (suc n) = omega arith
deepest-taken (x ∷ xs) (suc n) = let before = deepest-taken xs n in omega (arith, before)

pub deepest_at : (xs : List Found) (i : ℕ) (x : Found) → i < length xs → x ≡ get_or xs i x → x.height + 1 ≤ deepest (map measured_seen xs)
deepest_at xs i x h e =
    let more = deepest_more xs i x h e in
    let less = deepest-taken xs (i + 1) in
    omega (arith, more, less)

pub exprs_seen : (xs : List Found) → map (λ (m : Measured). m.expr) (map measured_seen xs) ≡ map (λ (m : Found). m.expr) xs
exprs_seen [] = refl
exprs_seen (x ∷ xs) = ap (λ es. x.expr ∷ es) (exprs_seen xs)

-- ---- the same of parts

abbrev value_of_part : FoundPart → Measured
value_of_part p = measured_seen p.value

pub deepest_part_pushed : (xs : List FoundPart) (x : FoundPart) →
    deepest (map (λ (p : FoundPart). measured_seen p.value) (xs ++ (x ∷ []))) ≡ max (deepest (map (λ (p : FoundPart). measured_seen p.value) xs)) (suc x.value.height)
deepest_part_pushed xs x = ap deepest (map-append value_of_part xs (x ∷ [])) ∙ deepest-append (map value_of_part xs) (measured_seen x.value)

pub deepest_part_more : (xs : List FoundPart) (i : ℕ) (x : FoundPart) → i < length xs → x ≡ get_or xs i x →
    deepest (map (λ (p : FoundPart). measured_seen p.value) (take (i + 1) xs)) ≡ max (x.value.height + 1) (deepest (map (λ (p : FoundPart). measured_seen p.value) (take i xs)))
deepest_part_more xs i x h e =
    let here : deepest (map value_of_part (take (i + 1) xs)) ≡ deepest (map value_of_part (take i xs ++ (x ∷ []))) =
    ap (λ ys. deepest (map value_of_part ys)) (take_more xs i x h ∙ ap (λ y. take i xs ++ (y ∷ [])) (sym e)) in
    let pushed = deepest_part_pushed (take i xs) x in
    omega (arith, here, pushed)

deepest_part-taken : (xs : List FoundPart) (n : ℕ) → deepest (map value_of_part (take n xs)) ≤ deepest (map value_of_part xs)
deepest_part-taken xs zero = omega arith
deepest_part-taken [] (suc n) = omega arith
deepest_part-taken (x ∷ xs) (suc n) = let before = deepest_part-taken xs n in omega (arith, before)

pub deepest_part_at : (xs : List FoundPart) (i : ℕ) (x : FoundPart) → i < length xs → x ≡ get_or xs i x →
    x.value.height + 1 ≤ deepest (map (λ (p : FoundPart). measured_seen p.value) xs)
deepest_part_at xs i x h e =
    let more = deepest_part_more xs i x h e in
    let less = deepest_part-taken xs (i + 1) in
    omega (arith, more, less)

last_end-append : (p : Part) (ps : List Part) (q : Part) → last_end p (ps ++ (q ∷ [])) ≡ q.end
last_end-append p [] q = refl
last_end-append p (r ∷ ps) q = last_end-append r ps q

end_of-append : (ps : List Part) (q : Part) → end_of (ps ++ (q ∷ [])) ≡ q.end
end_of-append [] q = refl
end_of-append (p ∷ ps) q = last_end-append p ps q

pub end_of_more : (xs : List FoundPart) (i : ℕ) (x : FoundPart) → i < length xs → x ≡ get_or xs i x → end_of (map part_seen (take (i + 1) xs)) ≡ x.end
end_of_more xs i x h e =
    ap (λ ys. end_of (map part_seen ys)) (take_more xs i x h ∙ ap (λ y. take i xs ++ (y ∷ [])) (sym e))
    ∙ ap end_of (map-append part_seen (take i xs) (x ∷ [])) ∙ end_of-append (map part_seen (take i xs)) (part_seen x)

pub values_seen : (xs : List FoundPart) → map (λ (p : Part). p.value) (map part_seen xs) ≡ map (λ (p : FoundPart). measured_seen p.value) xs
values_seen [] = refl
values_seen (x ∷ xs) = ap (λ es. measured_seen x.value ∷ es) (values_seen xs)

abbrev pair_of : Part → Cons × Expr
pair_of p = (p.cons, p.value.expr)

abbrev found_pair : FoundPart → Cons × Expr
found_pair p = (p.cons, p.value.expr)

pub pairs_seen : (xs : List FoundPart) → map pair_of (map part_seen xs) ≡ map found_pair xs
pairs_seen [] = refl
pairs_seen (x ∷ xs) = ap (λ es. pair_of (part_seen x) ∷ es) (pairs_seen xs)
