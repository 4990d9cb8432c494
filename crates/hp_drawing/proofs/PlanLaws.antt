-- The slots of what is drawn are what is planned.
use Rattle.std.proofs.Common.{◌≡◌, ℕ, ◌+◌, Bool, true, false, if◌then◌else◌, List, [], ◌∷◌, Option, None, Some, refl, ap, ◌∙◌}
use Rattle.hp_base.specs.declared.ty.Const.{Const}
use Rattle.hp_circuit.specs.declared.circuit.Role.TheVariants as role
use Rattle.hp_circuit.specs.declared.circuit.Shape.{Shape}
use Rattle.hp_circuit.specs.declared.circuit.Shape.TheVariants.{Truth, Cons, Mark}
use Rattle.hp_tree.specs.declared.decl.Cons as tree_cons
use Rattle.hp_tree.specs.declared.expr.Op1.{Op1}
use Rattle.hp_tree.specs.declared.expr.Op1.TheVariants.{Not, Neg}
use Rattle.hp_tree.specs.declared.expr.Op2.{Op2}
use Rattle.hp_tree.specs.declared.expr.Op2.TheVariants.{And, Or, Xor, Imp, Eq, Ne}
use Rattle.hp_tree.specs.Blocks.{Decl, Eqns}
use Rattle.hp_drawing.specs.declared.parts.Callee as code_callee
use Rattle.hp_drawing.specs.declared.parts.Entry.{Entry}
use Rattle.hp_drawing.specs.declared.parts.Place.{Place}
use Rattle.hp_drawing.specs.declared.parts.Register.{Register}
use Rattle.hp_drawing.specs.declared.parts.Value.{Value}
use Rattle.hp_drawing.specs.Kept.{free, is_mark, with_kept, with_shaped}
use Rattle.hp_drawing.specs.Told.{Told, type_shape, constant_number}
use Rattle.hp_drawing.specs.Planned.{with_register, with_row, with_last, with_lasts}
use Rattle.hp_drawing.specs.Sketch as sketch
use Rattle.hp_drawing.specs.Sketch.{Sketch, hole, read}
use Rattle.hp_drawing.specs.Places.{may_be_early}
use Rattle.hp_drawing.specs.Scopes.{Scope, Layer, shapes_in, entry_in, last_entry_if, last_entry, wire_in, add_last, add_lasts, local_entry, add, put_locals, put_name_if, put_name, put_names, own_layer, names_of_eqns, enter, join_name, join_names, join_layers, join, top_layer, outer_layers, read_by_names, read_by_hidden, end_name, end_names, end_hidden}
use Rattle.hp_drawing.specs.DrawnExpressions.{drawn_constant, has_cons, step_clock, mark_of_two, mark_of_three, drawn_one, drawn_two, chosen_as, drawn_choice, takes_input, add_output, add_outputs, add_hole, add_holes, two_begin, two_end, delay_begin, delay_take, pre_end, fby_end, sampled, merge_begin, merge_end}
use Rattle.hp_drawing.proofs.KeptLaws.{kept_at, push-kept, hole-kept, mark-kept, mark_of-kept, define-kept, read-kept, copy-kept, slot-kept, given-kept, register-kept, takes-kept, chain-kept, chain_end-kept, inner-kept, is-kept}

-- ---- last values, and entering blocks

last_if-kept : (place : Place) (first : ℕ) (p : Shape) (w : ℕ) (s : Sketch) → kept_at (last_entry_if (is_mark p) place first p w s).1 ≡ with_register first p (kept_at s)
last_if-kept place first Truth w s = simp (takes-kept, register-kept) refl
last_if-kept place first (Cons n) w s = simp (takes-kept, register-kept) refl
last_if-kept place first Mark w s = simp mark-kept refl

last-kept : (place : Place) (first : ℕ) (p : Shape) (w : ℕ) (s : Sketch) → kept_at (last_entry place first p w s).1 ≡ with_register first p (kept_at s)
unfolding last_entry
last-kept place first p w s = last_if-kept place first p w s

add_last-kept : (t : Told) (place : Place) (d : Decl) (o : Option Const) (values lasts : Layer) (s : Sketch) → kept_at (add_last t place d o values lasts s).1 ≡ with_last t d o (kept_at s)
add_last-kept t place d None values lasts s = refl
add_last-kept t place d (Some c) values lasts s = last-kept place (constant_number t c) (type_shape t d.ty) (wire_in values d.name) s

pub lasts-kept : (t : Told) (place : Place) (ds : List Decl) (values lasts : Layer) (s : Sketch) → kept_at (add_lasts t place ds values lasts s).1 ≡ with_lasts t ds (kept_at s)
lasts-kept t place [] values lasts s = refl
lasts-kept t place (d ∷ ds) values lasts s =
    let a = add_last t place d d.last values lasts s in
    lasts-kept t place ds values a.0 a.1 ∙ ap (λ k. with_lasts t ds k) (add_last-kept t place d d.last values lasts s)

locals-kept : (t : Told) (k : ℕ) (ds : List Decl) (l : Layer) (s : Sketch) → kept_at (put_locals t k ds l s).1 ≡ kept_at s
locals-kept t k [] l s = refl
locals-kept t k (d ∷ ds) l s =
    let w = hole (type_shape t d.ty) s in
    locals-kept t (k + 1) ds (add l d.name (local_entry k w.0 (type_shape t d.ty))) w.1 ∙ hole-kept (type_shape t d.ty) s

name_if-kept : (o : Option Entry) (p : Shape) (x : List ℕ) (l : Layer) (s : Sketch) → kept_at (put_name_if o p x l s).1 ≡ kept_at s
name_if-kept None p x l s = hole-kept p s
name_if-kept (Some e) p x l s = refl

names-kept : (z : Scope) (xs : List (List ℕ)) (l : Layer) (s : Sketch) → kept_at (put_names z xs l s).1 ≡ kept_at s
names-kept z [] l s = refl
names-kept z (x ∷ xs) l s = let a = put_name z x l s in names-kept z xs a.0 a.1 ∙ name_if-kept (entry_in l x) (shapes_in z x) x l s

own-kept : (t : Told) (z : Scope) (ds : List Decl) (es : Eqns) (s : Sketch) → kept_at (own_layer t z ds es s).1 ≡ kept_at s
unfolding own_layer
own-kept t z ds es s = let a = put_locals t 0 ds [] s in names-kept z (names_of_eqns es) a.0 a.1 ∙ locals-kept t 0 ds [] s

pub entered-kept : (t : Told) (z : Scope) (place : Place) (ds : List Decl) (es : Eqns) (s : Sketch) → kept_at (enter t z place ds es s).1 ≡ with_lasts t ds (kept_at s)
unfolding enter
entered-kept t z place ds es s =
    let own = own_layer t z ds es s in
    lasts-kept t place ds own.0 [] own.1 ∙ ap (λ k. with_lasts t ds k) (own-kept t z ds es s)

-- ---- control equations

joined_names-kept : (own : Layer) (c : ℕ) (l : Layer) (s : Sketch) → kept_at (join_names own c l s).1 ≡ kept_at s
joined_names-kept own c [] s = refl
joined_names-kept own c (p ∷ l) s =
    let rest = join_name own c p.0 p.1 s in
    joined_names-kept own c l rest.1 ∙ simp chain-kept refl

joined_layers-kept : (own : Layer) (c : ℕ) (ls : List Layer) (s : Sketch) → kept_at (join_layers own c ls s).1 ≡ kept_at s
joined_layers-kept own c [] s = refl
joined_layers-kept own c (l ∷ ls) s = joined_names-kept own c l s

pub join-kept : (c : ℕ) (z : Scope) (s : Sketch) → kept_at (join c z s).1 ≡ kept_at s
unfolding join
join-kept c z s = joined_layers-kept (top_layer z) c (outer_layers z.values) s

read_names-kept : (l : Layer) (w : ℕ) (s : Sketch) → kept_at (read_by_names l w s) ≡ kept_at s
read_names-kept [] w s = refl
read_names-kept (p ∷ l) w s = read_names-kept l w (read p.1.hole w s) ∙ read-kept p.1.hole w s

pub read_hidden-kept : (z : Scope) (w : ℕ) (s : Sketch) → kept_at (read_by_hidden z w s) ≡ kept_at s
unfolding read_by_hidden
read_hidden-kept z w s = read_names-kept (top_layer z) w s

end_name-kept : (b : Bool) (w : ℕ) (s t : Sketch) → kept_at t ≡ kept_at s → kept_at (if b then s else t) ≡ kept_at s
end_name-kept true w s t h = refl
end_name-kept false w s t h = h

end_names-kept : (l : Layer) (s : Sketch) → kept_at (end_names l s) ≡ kept_at s
end_names-kept [] s = refl
end_names-kept (p ∷ l) s = end_names-kept l (end_name p.1 s) ∙ end_name-kept (is_mark p.1.shape) p.1.hole s _ (chain_end-kept p.1.hole s)

pub end_hidden-kept : (z : Scope) (s : Sketch) → kept_at (end_hidden z s) ≡ kept_at s
unfolding end_hidden
end_hidden-kept z s = end_names-kept (top_layer z) s

-- ---- operators

pub constant-kept : (t : Told) (c : Const) (s : Sketch) → kept_at (drawn_constant t c s).1 ≡ kept_at s
unfolding drawn_constant
constant-kept t c s = simp push-kept refl

pub cons-kept : (t : Told) (w : ℕ) (c : tree_cons.Cons) (s : Sketch) → kept_at (has_cons t w c s).1 ≡ kept_at s
unfolding has_cons
cons-kept t w c s = simp is-kept refl

pub step-kept : (t : Told) (z : Scope) (clock : ℕ) (c : tree_cons.Cons) (x : List ℕ) (s : Sketch) → kept_at (step_clock t z clock c x s).1 ≡ kept_at s
unfolding step_clock
step-kept t z clock c x s = simp (inner-kept, cons-kept) refl

mark_two-kept : (a b : Value) (s : Sketch) → kept_at (mark_of_two a b s).1 ≡ kept_at s
unfolding mark_of_two
mark_two-kept a b s = simp (read-kept, mark_of-kept) refl

mark_three-kept : (a b c : Value) (s : Sketch) → kept_at (mark_of_three a b c s).1 ≡ kept_at s
unfolding mark_of_three
mark_three-kept a b c s = simp (read-kept, mark_two-kept) refl

pub one-kept : (o : Op1) (a : Value) (s : Sketch) → kept_at (drawn_one o a s).1 ≡ kept_at s
unfolding drawn_one
one-kept Not a s = simp push-kept refl
one-kept Neg a s = simp mark_of-kept refl

two-kept : (o : Op2) (a b : Value) (s : Sketch) → kept_at (drawn_two o a b s).1 ≡ kept_at s
unfolding drawn_two
two-kept And a b s = simp push-kept refl
two-kept Or a b s = simp push-kept refl
two-kept Xor a b s = simp push-kept refl
two-kept Imp a b s = simp push-kept refl
two-kept Eq a b s = simp push-kept refl
two-kept Ne a b s = simp push-kept refl
two-kept o a b s = mark_two-kept a b s

chosen-kept : (p : Shape) (c : ℕ) (a b : Value) (s : Sketch) → kept_at (chosen_as p c a b s).1 ≡ kept_at s
chosen-kept Truth c a b s = simp push-kept refl
chosen-kept (Cons n) c a b s = simp push-kept refl
chosen-kept Mark c a b s = simp mark_three-kept refl

pub choice-kept : (c : ℕ) (a b : Value) (s : Sketch) → kept_at (drawn_choice c a b s).1 ≡ kept_at s
unfolding drawn_choice
choice-kept c a b s = chosen-kept a.shape c a b s

-- ---- calls

pub input-kept : (c : code_callee.Callee) (k : ℕ) (v : Value) (s : Sketch) → kept_at (takes_input c k v s) ≡ kept_at s
unfolding takes_input
input-kept c k v s = simp (read-kept, define-kept) refl

output-kept : (early : Bool) (p : Shape) (reads : ℕ) (s : Sketch) → kept_at (add_output early p reads s) ≡ with_shaped free p (kept_at s)
output-kept early p reads s = simp (read-kept, given-kept) refl

pub outputs-kept : (t : Told) (early : Bool) (ds : List Decl) (reads : ℕ) (s : Sketch) → kept_at (add_outputs t early ds reads s) ≡ with_row free t ds (kept_at s)
outputs-kept t early [] reads s = refl
outputs-kept t early (d ∷ ds) reads s =
    outputs-kept t early ds reads (add_output early (type_shape t d.ty) reads s) ∙ ap (λ k. with_row free t ds k) (output-kept early (type_shape t d.ty) reads s)

pub holes-kept : (t : Told) (ds : List Decl) (s : Sketch) → kept_at (add_holes t ds s) ≡ kept_at s
holes-kept t [] s = refl
holes-kept t (d ∷ ds) s = holes-kept t ds (add_hole (type_shape t d.ty) s) ∙ hole-kept (type_shape t d.ty) s

-- ---- what stands before operands, and behind them

pub two_begin-kept : (b : Bool) (place : Place) (s : Sketch) → kept_at (two_begin b place s).1 ≡ (if b then with_kept (kept_at s) (free Truth) else kept_at s)
two_begin-kept true place s = slot-kept (role.Free (may_be_early place)) Truth s
two_begin-kept false place s = refl

pub two_end-kept : (compared : Bool) (w : ℕ) (o : Op2) (a b : Value) (s : Sketch) → kept_at (two_end compared w o a b s).1 ≡ kept_at s
two_end-kept true w o a b s = simp read-kept refl
two_end-kept false w o a b s = two-kept o a b s

pub delay-kept : (p : Shape) (place : Place) (s : Sketch) → kept_at (delay_begin p place s).1 ≡ with_register 0 p (kept_at s)
delay-kept Truth place s = register-kept place 0 Truth s
delay-kept (Cons n) place s = register-kept place 0 (Cons n) s
delay-kept Mark place s = refl

pub delay_take-kept : (p : Shape) (r : Register) (place : Place) (w : ℕ) (s : Sketch) → kept_at (delay_take p r place w s) ≡ kept_at s
delay_take-kept Truth r place w s = takes-kept r place w s
delay_take-kept (Cons n) r place w s = takes-kept r place w s
delay_take-kept Mark r place w s = refl

pub pre_end-kept : (p : Shape) (r : Register) (place : Place) (d : Value × Sketch) → kept_at (pre_end p r place d).1 ≡ kept_at d.1
pre_end-kept Truth r place d = takes-kept r place d.0.wire d.1
pre_end-kept (Cons n) r place d = takes-kept r place d.0.wire d.1
pre_end-kept Mark r place d = mark-kept d.1

pub fby_end-kept : (p : Shape) (r past : Register) (first : Value) (s : Sketch) → kept_at (fby_end p r past first s).1 ≡ kept_at s
fby_end-kept Truth r past first s = choice-kept past.read (sketch.value r.read Truth) first s
fby_end-kept (Cons n) r past first s = choice-kept past.read (sketch.value r.read (Cons n)) first s
fby_end-kept Mark r past first s = mark_of-kept first.wire s

pub sampled-kept : (c : ℕ) (d : Value × Sketch) → kept_at (sampled c d).1 ≡ kept_at d.1
sampled-kept c d = simp (read-kept, copy-kept) refl

pub merge-kept : (p : Shape) (c : ℕ) (s : Sketch) → kept_at (merge_begin p c s).1 ≡ kept_at s
merge-kept p c s = simp (read-kept, hole-kept) refl

pub merge_end-kept : (p : Shape) (w : ℕ) (d : ℕ × Sketch) → kept_at (merge_end p w d).1 ≡ kept_at d.1
merge_end-kept Truth w d = chain_end-kept d.0 d.1
merge_end-kept (Cons n) w d = chain_end-kept d.0 d.1
merge_end-kept Mark w d = refl
