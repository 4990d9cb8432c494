-- The bits of a value by its kind.
use Rattle.std.proofs.Common.{◌≡◌, ℕ, zero, suc, ◌+◌, ◌≤◌, Bool, true, false, if◌then◌else◌, nat_le, List, [], ◌∷◌, ◌++◌, length, map, None, refl, sym, ap, subst, ◌∙◌, arith}
use Rattle.std.specs.List.{range_with_len, flat_map}
use Rattle.std.specs.Str.{bytes_eq}
use Rattle.std.proofs.lemmas.Bool.Decides.{nat_tests}
use Rattle.std.proofs.lemmas.Grind.{flat_map-append}
use Rattle.std.proofs.lemmas.List.{append-nil}
use Rattle.hp_base.specs.Kinds.{Constructors}
use Rattle.hp_base.specs.declared.ty.Ty.TheVariants as ty
use Rattle.hp_base.specs.declared.value.Value.{Value}
use Rattle.hp_base.specs.declared.value.Value.TheVariants.{B}
use Rattle.hp_obc.specs.Machines.{ObcType}
use Rattle.hp_flat.specs.declared.node.FlatTy.{FlatTy}
use Rattle.hp_flat.specs.declared.node.FlatTy.TheVariants.{Bool as Truth, Int, Enum}
use Rattle.hp_flat.specs.Nodes.{FlatNode}
use Rattle.hp_tree.specs.Operators as tree
use Rattle.hp_tree.specs.Programs.{TypeDecl}
use Rattle.hp_tree.specs.Values.{constructors_of}
use Rattle.law_equations.specs.Meaning.Instants.{Instant, is_true}
use Rattle.law_equations.specs.Meaning.Kinding.{constructors, kind_of_type, kinds_at, variable_kind}
use Rattle.hp_meaning.specs.Contract.Codes.{cons_number, pow2, to_bits, width, width_from}
use Rattle.law_wellmade.specs.Timely.Kinds.{declared_kind}
use Rattle.hp_watch.specs.Adding.{type_at}
use Rattle.hp_watch.specs.Lifting.{least_width, powers, width_of}
use Rattle.hp_watch.specs.Watching.{free_input, is_integer}
use Rattle.law_choices.specs.Adding.Lifts.{HaveBytes}
use Rattle.law_choices.specs.Coded.Codes.{bits_at, all_bits_at, bits_of_kind, bits_of_kinds, bits_of_value}
use Rattle.law_choices.specs.Coded.Laws.{KindBitsLaw, CodeBitsLaw, InputBitsLaw}
use Rattle.law_choices.proofs.AddingLemmas.Lifts.{bytes_at}
use Rattle.law_choices.proofs.AddingLemmas.One.{kind-at}
use Rattle.law_choices.proofs.CodedLemmas.Numbers.{ArePowers, many}

-- ---- both widths are one

below-power : (w : ℕ) → suc w ≤ pow2 w
below-power zero = omega arith
below-power (suc w) = let e = below-power w in omega (arith, e)

same-width : (ps : List ℕ) (w tries count : ℕ) → ArePowers w ps → count ≤ pow2 (w + many ps) → tries + w ≡ count → w + least_width ps count ≡ width_from tries w count
same-width [] w zero count r l e = omega arith
same-width [] w (suc tries) count r l e =
    let same : pow2 (w + 0) ≡ pow2 w = ap pow2 (none-more w) in
    let q : nat_le count (pow2 w) ≡ true = let m : count ≤ pow2 w = omega (arith, l, same) in grind (arith, nat_tests, m) in
    none-more w ∙ ap (λ b. if b then w else width_from tries (suc w) count) (sym q)
  where
    none-more : (w : ℕ) → w + 0 ≡ w
    none-more w = omega arith
same-width (p ∷ ps) w tries count r l e = by (nat_le count p) refl tries e (λ i f. same-width ps (suc w) i count r.1 f)
  where
    at : nat_le count p ≡ nat_le count (pow2 w)
    at = ap (nat_le count) r.0

    by : (b : Bool) → nat_le count p ≡ b → (i : ℕ) → i + w ≡ count → ((j : ℕ) → count ≤ pow2 (suc w + many ps) → j + suc w ≡ count → suc w + least_width ps count ≡ width_from j (suc w) count) → w + (if b then 0 else suc (least_width ps count)) ≡ width_from i w count
    by true q zero e again = omega arith
    by true q (suc i) e again = let none : w + 0 ≡ w = omega arith in none ∙ ap (λ b. if b then w else width_from i (suc w) count) (sym q ∙ at)
    by false q zero e again =
        let low : count ≤ pow2 w = let b = below-power w in omega (arith, b, e) in
        let z : nat_le count (pow2 w) ≡ true = grind (arith, nat_tests, low) in
        absurd (let y = sym q ∙ at ∙ z in cc)
    by false q (suc i) e again =
        let there : suc w + many ps ≡ w + suc (many ps) = omega arith in
        let here : w + suc (least_width ps count) ≡ suc w + least_width ps count = omega arith in
        here ∙ again i (subst (λ j. count ≤ pow2 j) (sym there) l) (omega (arith, e)) ∙ ap (λ b. if b then w else width_from i (suc w) count) (sym q ∙ at)

pub widths : (count : ℕ) → count ≤ 256 → width_of count ≡ width count
widths count l =
    let none : width_of count ≡ 0 + least_width powers count = omega arith in
    none ∙ same-width powers 0 count count (refl, (refl, (refl, (refl, (refl, (refl, (refl, (refl, tt)))))))) l (omega arith)

-- ---- one value

pub kind_bits_law : KindBitsLaw
kind_bits_law types Truth v h = refl
kind_bits_law types Int v h = refl
kind_bits_law types (Enum t) v h =
    let many = bytes_at types t h in
    ap (λ c. to_bits (width_of c) (cons_number v)) many ∙ ap (λ w. to_bits w (cons_number v)) (widths (length (constructors types t)) (few types t h))
  where
    few : (types : List ObcType) (t : ℕ) → HaveBytes types → length (constructors types t) ≤ 256
    few [] t h = omega arith
    few (x ∷ types) zero h = h.0
    few (x ∷ types) (suc t) h = few types t h.1

same-truth : (v : Value) → tree.is_true v ≡ is_true v
same-truth (B b) = refl
same-truth v = refl

declared : (t : ℕ) (ds : List TypeDecl) (x : List ℕ) (v : Value) → to_bits (width (length (constructors_of ds x))) (cons_number v) ≡ bits_of_kind (declared_kind t ds x) v
declared t [] x v = refl
declared t (d ∷ ds) x v = by (bytes_eq d.name x) (declared (suc t) ds x v)
  where
    by : (b : Bool) → to_bits (width (length (constructors_of ds x))) (cons_number v) ≡ bits_of_kind (declared_kind (suc t) ds x) v
        → to_bits (width (length (if b then d.cons else constructors_of ds x))) (cons_number v) ≡ bits_of_kind (if b then Constructors t d.cons else declared_kind (suc t) ds x) v
    by true h = refl
    by false h = h

pub code_bits_law : CodeBitsLaw
code_bits_law types ty.Bool v = ap (λ b. b ∷ []) (same-truth v)
code_bits_law types ty.Int v = refl
code_bits_law types (ty.Enum x) v = declared 0 types x v

-- ---- inputs

module _ (types : List ObcType) (n : FlatNode) (now : Instant) (bytes : HaveBytes types) where
  one-input : (x : ℕ) → all_bits_at types n now (free_input n x) ≡ bits_of_kind (variable_kind types n.variables x) (now x)
  one-input x = by (type_at n x) refl ∙ ap (λ k. bits_of_kind k (now x)) (sym (kind-at types n x))
    where
      by : (t : FlatTy) → type_at n x ≡ t → flat_map (bits_at types n now) (if is_integer (type_at n x) then [] else record { variable = x; eqn = None } ∷ []) ≡ bits_of_kind (kind_of_type types (type_at n x)) (now x)
      by Truth e =
          ap (λ b. flat_map (bits_at types n now) (if b then [] else record { variable = x; eqn = None } ∷ [])) (ap is_integer e) ∙ append-nil (bits_of_value types (type_at n x) (now x)) ∙ kind_bits_law types (type_at n x) (now x) bytes
      by Int e = ap (λ b. flat_map (bits_at types n now) (if b then [] else record { variable = x; eqn = None } ∷ [])) (ap is_integer e) ∙ sym (ap (λ t. bits_of_kind (kind_of_type types t) (now x)) e)
      by (Enum u) e =
          ap (λ b. flat_map (bits_at types n now) (if b then [] else record { variable = x; eqn = None } ∷ [])) (ap is_integer e) ∙ append-nil (bits_of_value types (type_at n x) (now x)) ∙ kind_bits_law types (type_at n x) (now x) bytes

  inputs-from : (first count : ℕ) → all_bits_at types n now (flat_map (free_input n) (range_with_len first count)) ≡ bits_of_kinds (kinds_at types n (range_with_len first count)) (map now (range_with_len first count))
  inputs-from first zero = refl
  inputs-from first (suc count) =
      flat_map-append (bits_at types n now) (free_input n first) (flat_map (free_input n) (range_with_len (first + 1) count))
      ∙ ap (λ bs. bs ++ all_bits_at types n now (flat_map (free_input n) (range_with_len (first + 1) count))) (one-input first) ∙ ap (λ bs. bits_of_kind (variable_kind types n.variables first) (now first) ++ bs) (inputs-from (first + 1) count)

pub input_bits_law : InputBitsLaw
input_bits_law types n count now bytes = inputs-from types n now bytes 0 count
