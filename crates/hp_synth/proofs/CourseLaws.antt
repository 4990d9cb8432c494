-- What the rounds of a solver go on with, as its references grow and its table does.
use Rattle.std.proofs.Common.{◌≡◌, ℕ, zero, suc, ◌+◌, ◌<◌, ◌≤◌, inl, inr, List, [], ◌∷◌, ◌++◌, length, slice_index_or, Option, Some, None, Result, Ok, Err, OnOk, refl, sym, ap, subst, ◌∙◌, arith}
use Rattle.std.proofs.lemmas.Bool.{cases_lt}
use Rattle.std.proofs.lemmas.List.Elements.{All-head, All-tail}
use Rattle.hp_diagram.specs.declared.reference.Ref.{Ref}
use Rattle.hp_diagram.specs.Diagrams.{Diagrams, Has, Keeps, zero_ref}
use Rattle.hp_quant.specs.Replacements.{HasAll, AllComposed}
use Rattle.hp_synth.specs.Building.{HasEach}
use Rattle.hp_synth.specs.Courses.{IsCourse}
use Rattle.hp_synth.specs.declared.course.Course.{Course}
use Rattle.hp_synth.specs.declared.layout.Layout.{Layout}
use Rattle.hp_synth.specs.Layouts.{place, variable, IsLayout}

pub on_ok : {A E P : Type 0} (r : Result A E) → P → OnOk r P
on_ok (Ok a) p = p
on_ok (Err e) p = tt

has-at : (t : Diagrams) (rs : List Ref) (k : ℕ) (d : Ref) → k < length rs → HasEach t rs → Has t (slice_index_or rs k d)
has-at t [] k d l h = absurd (omega (arith, l))
has-at t (r ∷ rs) zero d l h = All-head (Has t) r rs h
has-at t (r ∷ rs) (suc k) d l h = has-at t rs k d (omega (arith, l)) (All-tail (Has t) r rs h)

at-push : (rs : List Ref) (y : Ref) (k : ℕ) (d : Ref) → k < length rs → slice_index_or (rs ++ y ∷ []) k d ≡ slice_index_or rs k d
at-push [] y k d l = absurd (omega (arith, l))
at-push (r ∷ rs) y zero d l = refl
at-push (r ∷ rs) y (suc k) d l = at-push rs y k d (omega (arith, l))

-- the table has what stands at the places of registers
pub values-have : (t : Diagrams) (layout : Layout) (roots : List Ref) (by : List (Option Ref)) → IsLayout t.vars layout → HasEach t roots → 5 + layout.counts.registers ≤ length roots →
    ((k : ℕ) → k < layout.counts.registers → slice_index_or by (place layout k) None ≡ Some (slice_index_or roots (5 + k) zero_ref)) →
    ((k : ℕ) → layout.counts.registers ≤ k → slice_index_or by (place layout k) None ≡ None) → HasAll t by
values-have t layout roots by placed has many registers_are others x g e =
    let v : ℕ = variable layout x in
    let there : slice_index_or by (place layout v) None ≡ Some g = ap (λ (y : ℕ). slice_index_or by y None) (placed.again x) ∙ e in
    elim (cases_lt v layout.counts.registers) [
      | inl before ↦
          let same : Some (slice_index_or roots (5 + v) zero_ref) ≡ Some g = sym (registers_are v before) ∙ there in
          let one : slice_index_or roots (5 + v) zero_ref ≡ g = cc in
          subst (Has t) one (has-at t roots (5 + v) zero_ref (omega (arith, before, many)) has)
      | inr behind ↦
          let none : None ≡ Some g = sym (others v behind) ∙ there in
          absurd cc
    ]

pub course-has-all : (t : Diagrams) (layout : Layout) (roots : List Ref) (course : Course) → IsLayout t.vars layout → HasEach t roots → 5 + layout.counts.registers ≤ length roots → IsCourse t layout roots course → HasAll t course.by.items
course-has-all t layout roots course placed has many is = values-have t layout roots course.by.items placed has many is.registers_are is.others

-- one reference more
pub course-pushed : (t : Diagrams) (layout : Layout) (roots : List Ref) (y : Ref) (course : Course) → 5 + layout.counts.registers ≤ length roots → IsCourse t layout roots course → IsCourse t layout (roots ++ y ∷ []) course
course-pushed t layout roots y course many is =
    record {
      len = is.len;
      registers_are = λ k l. is.registers_are k l ∙ ap Some (sym (at-push roots y (5 + k) zero_ref (omega (arith, l, many))));
      others = λ k l. is.others k l;
      right = is.right;
    }

-- more is composed, in a table that grew
pub course-grown : (t u : Diagrams) (layout : Layout) (roots : List Ref) (before after : Course) → Keeps t u → after.by.items ≡ before.by.items → AllComposed u before.by.items after.composed → IsCourse t layout roots before → IsCourse u layout roots after
course-grown t u layout roots before after keeps same right is =
    record {
      len = ap length same ∙ is.len ∙ sym keeps.vars;
      registers_are = λ k l. ap (λ (by : List (Option Ref)). slice_index_or by (place layout k) None) same ∙ is.registers_are k l;
      others = λ k l. ap (λ (by : List (Option Ref)). slice_index_or by (place layout k) None) same ∙ is.others k l;
      right = subst (λ (by : List (Option Ref)). AllComposed u by after.composed) (sym same) right;
    }
