-- Numbers of wires: they stay when more are added, and a wire may be defined anew by what gives its number.
use Rattle.std.proofs.Common.{◌≡◌, ℕ, zero, suc, ◌<◌, nat_eq, not, ◌&&◌, ◌||◌, if◌then◌else◌, List, [], ◌∷◌, ◌++◌, length, Some, refl, sym, ap, subst, ◌∙◌, arith}
use Rattle.std.specs.Prelude.{slice_set}
use Rattle.std.specs.List.{slice_get, slice_index_or}
use Rattle.std.proofs.lemmas.Option.{get_or_from_slice_get, same_Some, none-some}
use Rattle.hp_circuit.specs.declared.circuit.Wire.{Wire}
use Rattle.hp_circuit.specs.declared.circuit.Wire.TheVariants as wire
use Rattle.hp_circuit.specs.Forms.{wire_at}
use Rattle.hp_circuit.specs.Meaning.{holds, truth, wire_value, Solves}
use Rattle.law_drawing.specs.Carrying.Solving.{Has, Gives, Solved}

-- ---- an element of a list, when more are added

module _ {A : Type 0} where
  pub get-front : (xs more : List A) (i : ℕ) (v : A) → slice_get xs i ≡ Some v → slice_get (xs ++ more) i ≡ Some v
  get-front [] more i v h = absurd (none-some v h)
  get-front (x ∷ xs) more zero v h = h
  get-front (x ∷ xs) more (suc i) v h = get-front xs more i v h

  pub get-next : (xs : List A) (v : A) → slice_get (xs ++ v ∷ []) (length xs) ≡ Some v
  get-next [] v = refl
  get-next (x ∷ xs) v = get-next xs v

  pub get-seam : (xs ys : List A) (v : A) → slice_get (xs ++ v ∷ ys) (length xs) ≡ Some v
  get-seam [] ys v = refl
  get-seam (x ∷ xs) ys v = get-seam xs ys v

  pub set-seam : (xs ys : List A) (u v : A) → slice_set (xs ++ u ∷ ys) (length xs) v ≡ xs ++ v ∷ ys
  set-seam [] ys u v = refl
  set-seam (x ∷ xs) ys u v = ap (λ zs. x ∷ zs) (set-seam xs ys u v)

-- ---- numbers

pub has-more : (ns more : List ℕ) (w k : ℕ) → Has ns w k → Has (ns ++ more) w k
has-more ns more w k h = get-front ns more w k h

pub gives-more : (slot : ℕ → ℕ) (ns more : List ℕ) (w : Wire) (k : ℕ) → Gives slot ns w k → Gives slot (ns ++ more) w k
gives-more slot ns more (wire.Slot i) k h = h
gives-more slot ns more (wire.Constant c) k h = h
gives-more slot ns more (wire.Copy a) k h = has-more ns more a k h
gives-more slot ns more (wire.Not a) k h = (h.0, has-more ns more a h.0 h.1, h.2)
gives-more slot ns more (wire.And a b) k h = (h.0, h.1, has-more ns more a h.0 h.2, has-more ns more b h.1 h.3, h.4)
gives-more slot ns more (wire.Or a b) k h = (h.0, h.1, has-more ns more a h.0 h.2, has-more ns more b h.1 h.3, h.4)
gives-more slot ns more (wire.Xor a b) k h = (h.0, h.1, has-more ns more a h.0 h.2, has-more ns more b h.1 h.3, h.4)
gives-more slot ns more (wire.Equal a b) k h = (h.0, h.1, has-more ns more a h.0 h.2, has-more ns more b h.1 h.3, h.4)
gives-more slot ns more (wire.Is a c) k h = (h.0, has-more ns more a h.0 h.1, h.2)
gives-more slot ns more (wire.If t a b) k h = (h.0, h.1, h.2, has-more ns more t h.0 h.3, has-more ns more a h.1 h.4, has-more ns more b h.2 h.5, h.6)

pub solved-more : (slot : ℕ → ℕ) (ns more : List ℕ) (ws : List Wire) (ks : List ℕ) → Solved slot ns ws ks → Solved slot (ns ++ more) ws ks
solved-more slot ns more [] [] h = tt
solved-more slot ns more [] (k ∷ ks) h = absurd h
solved-more slot ns more (w ∷ ws) [] h = absurd h
solved-more slot ns more (w ∷ ws) (k ∷ ks) h = (gives-more slot ns more w k h.0, solved-more slot ns more ws ks h.1)

-- one wire more
pub solved-next : (slot : ℕ → ℕ) (ns : List ℕ) (ws : List Wire) (ks : List ℕ) (w : Wire) (k : ℕ) → Solved slot ns ws ks → Gives slot ns w k → Solved slot ns (ws ++ w ∷ []) (ks ++ k ∷ [])
solved-next slot ns [] [] w k h g = (g, tt)
solved-next slot ns [] (j ∷ ks) w k h g = absurd h
solved-next slot ns (v ∷ ws) [] w k h g = absurd h
solved-next slot ns (v ∷ ws) (j ∷ ks) w k h g = (h.0, solved-next slot ns ws ks w k h.1 g)

-- a wire is defined anew by what gives its number
pub solved-set : (slot : ℕ → ℕ) (ns : List ℕ) (ws : List Wire) (ks : List ℕ) (i : ℕ) (w : Wire) (k : ℕ) → Solved slot ns ws ks → Has ks i k → Gives slot ns w k → Solved slot ns (slice_set ws i w) ks
solved-set slot ns [] [] i w k h e g = tt
solved-set slot ns [] (j ∷ ks) i w k h e g = absurd h
solved-set slot ns (v ∷ ws) [] i w k h e g = absurd h
solved-set slot ns (v ∷ ws) (j ∷ ks) zero w k h e g = (subst (λ n. Gives slot ns w n) (sym (same_Some j k e)) g, h.1)
solved-set slot ns (v ∷ ws) (j ∷ ks) (suc i) w k h e g = (h.0, solved-set slot ns ws ks i w k h.1 e g)

pub solved-length : (slot : ℕ → ℕ) (ns : List ℕ) (ws : List Wire) (ks : List ℕ) → Solved slot ns ws ks → length ws ≡ length ks
solved-length slot ns [] [] h = refl
solved-length slot ns [] (k ∷ ks) h = absurd h
solved-length slot ns (w ∷ ws) [] h = absurd h
solved-length slot ns (w ∷ ws) (k ∷ ks) h = ap suc (solved-length slot ns ws ks h.1)

-- ---- so they are numbers of the circuit

-- the number of a wire; 0 of what is none
abbrev pub number_of : List ℕ → ℕ → ℕ
number_of ns i = slice_index_or ns i 0

pub has-number : (ns : List ℕ) (w k : ℕ) → Has ns w k → number_of ns w ≡ k
has-number ns w k h = get_or_from_slice_get ns w k 0 h

pub gives-value : (slot : ℕ → ℕ) (ns : List ℕ) (w : Wire) (k : ℕ) → Gives slot ns w k → k ≡ wire_value slot (number_of ns) w
gives-value slot ns (wire.Slot i) k h = h
gives-value slot ns (wire.Constant c) k h = h
gives-value slot ns (wire.Copy a) k h = sym (has-number ns a k h)
gives-value slot ns (wire.Not a) k h = h.2 ∙ ap (λ x. truth (not (holds x))) (sym (has-number ns a h.0 h.1))
gives-value slot ns (wire.And a b) k h = h.4 ∙ ap (λ x. truth (holds x && holds h.1)) (sym (has-number ns a h.0 h.2)) ∙ ap (λ y. truth (holds (number_of ns a) && holds y)) (sym (has-number ns b h.1 h.3))
gives-value slot ns (wire.Or a b) k h = h.4 ∙ ap (λ x. truth (holds x || holds h.1)) (sym (has-number ns a h.0 h.2)) ∙ ap (λ y. truth (holds (number_of ns a) || holds y)) (sym (has-number ns b h.1 h.3))
gives-value slot ns (wire.Xor a b) k h =
    h.4
    ∙ ap (λ x. truth (if holds x then not (holds h.1) else holds h.1)) (sym (has-number ns a h.0 h.2))
    ∙ ap (λ y. truth (if holds (number_of ns a) then not (holds y) else holds y)) (sym (has-number ns b h.1 h.3))
gives-value slot ns (wire.Equal a b) k h = h.4 ∙ ap (λ x. truth (nat_eq x h.1)) (sym (has-number ns a h.0 h.2)) ∙ ap (λ y. truth (nat_eq (number_of ns a) y)) (sym (has-number ns b h.1 h.3))
gives-value slot ns (wire.Is a c) k h = h.2 ∙ ap (λ x. truth (nat_eq x c)) (sym (has-number ns a h.0 h.1))
gives-value slot ns (wire.If t a b) k h =
    h.6
    ∙ ap (λ z. if holds z then h.1 else h.2) (sym (has-number ns t h.0 h.3))
    ∙ ap (λ x. if holds (number_of ns t) then x else h.2) (sym (has-number ns a h.1 h.4))
    ∙ ap (λ y. if holds (number_of ns t) then number_of ns a else y) (sym (has-number ns b h.2 h.5))

solves-from : (slot : ℕ → ℕ) (ns : List ℕ) (ws : List Wire) (ks : List ℕ) → Solved slot ns ws ks → (i : ℕ) → i < length ws → number_of ks i ≡ wire_value slot (number_of ns) (wire_at ws i)
solves-from slot ns [] ks h i l = absurd (omega arith)
solves-from slot ns (w ∷ ws) [] h i l = absurd h
solves-from slot ns (w ∷ ws) (k ∷ ks) h zero l = gives-value slot ns w k h.0
solves-from slot ns (w ∷ ws) (k ∷ ks) h (suc i) l = solves-from slot ns ws ks h.1 i (omega arith)

pub solves : (slot : ℕ → ℕ) (ns : List ℕ) (ws : List Wire) → Solved slot ns ws ns → Solves ws slot (number_of ns)
solves slot ns ws h = solves-from slot ns ws ns h
