-- Which variables stand for outputs and for what is given.
use Rattle.std.proofs.Common.{◌≡◌, ℕ, zero, suc, ◌+◌, List, [], ◌∷◌, ◌++◌, map, sym, ap, ◌∙◌, arith}
use Rattle.std.specs.Prelude.{Option, None, Some, option_map, slice_get}
use Rattle.std.specs.List.{range_with_len}
use Rattle.std.proofs.lemmas.Option.{slice_get-map}
use Rattle.hp_tree.specs.Meaning.{controls_of}
use Rattle.law_equations.specs.Flattened.Flatten.{FlatName, Input}
use Rattle.law_equations.specs.Made.Laws.{names, body_name}
use Rattle.law_choices.specs.Depending.Laws.{VariablesLaw}

-- the value, or another
abbrev or_else : {A : Type 0} → A → Option A → A
or_else a None = a
or_else a (Some b) = b

abbrev behind : {A : Type 0} → List A → List A
behind [] = []
behind (x ∷ xs) = xs

-- rows that are one by one the same
same_at : {A B C : Type 0} (f : A → C) (g : B → C) (xs : List A) (ys : List B) → map f xs ≡ map g ys → (i : ℕ) (v : A) (y : B) → slice_get xs i ≡ Some v → slice_get ys i ≡ Some y → f v ≡ g y
same_at f g xs ys same i v y hx hy =
    let left : slice_get (map f xs) i ≡ Some (f v) = slice_get-map f xs i ∙ ap (option_map f) hx in
    let right : slice_get (map g ys) i ≡ Some (g y) = slice_get-map g ys i ∙ ap (option_map g) hy in
    ap (or_else (f v)) (sym left ∙ ap (λ zs. slice_get zs i) same ∙ right)

-- numbers in a row
numbered : (means : ℕ → FlatName) (a m : ℕ) (xs : List (List ℕ)) → map means (range_with_len a m) ≡ map Input xs → (i : ℕ) (x : List ℕ) → slice_get xs i ≡ Some x → means (a + i) ≡ Input x
numbered means a m [] same i x h = absurd cc
numbered means a zero (z ∷ xs) same i x h = absurd cc
numbered means a (suc m) (z ∷ xs) same zero x h =
    let first : means a ≡ Input z = ap (λ ys. or_else (Input z) (slice_get ys 0)) same in
    let is : z ≡ x = ap (or_else z) h in
    let here : a + 0 ≡ a = omega arith in
    ap means here ∙ first ∙ ap Input is
numbered means a (suc m) (z ∷ xs) same (suc i) x h =
    let rest : map means (range_with_len (a + 1) m) ≡ map Input xs = ap behind same in
    let here : a + suc i ≡ a + 1 + i = omega arith in
    ap means here ∙ numbered means (a + 1) m xs rest i x h

pub variables_law : VariablesLaw
variables_law types outputs k fill n f s = (
  λ i v y named is. same_at s.means body_name f.outputs (names n.outputs) s.outputs_are i v y is named,
  λ w x named.
      let here : 0 + w ≡ w = omega arith in
      sym (ap s.means here) ∙ numbered s.means 0 f.inputs (names n.inputs ++ names (controls_of n.contract)) s.equations.inputs w x named,
)
