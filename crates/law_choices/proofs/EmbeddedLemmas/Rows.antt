-- The free places of a contract where its observer stands in a node, beside an instant of the node.
use Rattle.std.proofs.Common.{◌≡◌, ℕ, suc, zero, ◌+◌, Bool, true, ◌&&◌, List, [], ◌∷◌, ◌++◌, length, map, slice_get, Some, sym, ap, ap₂, ◌∙◌, arith, if◌then◌else◌}
use Rattle.std.proofs.lemmas.List.{append_assoc}
use Rattle.hp_flat.specs.declared.node.FlatTy.TheVariants as flat
use Rattle.hp_flat.specs.Equations.{FlatEqn}
use Rattle.hp_flat.specs.Nodes.{FlatNode}
use Rattle.hp_meaning.specs.Contract.Slots.{FreePlace}
use Rattle.hp_tree.specs.Instant.{Instant}
use Rattle.law_equations.specs.Flattened.Flatten.{Prefix}
use Rattle.law_equations.specs.Meaning.Instants as flows
use Rattle.law_equations.specs.Meaning.Scheduling.{EqnWithin, IsWithin}
use Rattle.hp_watch.specs.Adding.{some_value, type_at}
use Rattle.hp_watch.specs.Embedding.{Site, embedded, moved_clock, moved_eqn, shift_of, with_room}
use Rattle.hp_watch.specs.Growing.{Grows}
use Rattle.hp_watch.specs.Watching.{clock_by, clock_of, moved_free}
use Rattle.hp_watch.specs.declared.watching.Free.{Free}
use Rattle.law_choices.specs.Coded.Codes.{value_at}
use Rattle.law_choices.specs.Embedded.Sites.{moved_in}
use Rattle.law_choices.proofs.AddingLemmas.Embeds.{embedded-eqns, embedded-type, input_eqns, room-eqns}
use Rattle.law_choices.proofs.AddingLemmas.One.{type-grown}
use Rattle.law_choices.proofs.AddingLemmas.Surveyed.{at_number, get_front, number_below}
use Rattle.law_choices.proofs.EmbeddedLemmas.Moved.{clock-own, holds-both, value-own}
use Rattle.law_choices.proofs.EmbeddedLemmas.Told.{IsContractRow}
use Rattle.law_choices.proofs.SeeingLemmas.Looked.{IsSome}

-- ---- lists

get-behind : {A : Type 0} (xs ys : List A) (k : ℕ) → slice_get (xs ++ ys) (k + length xs) ≡ slice_get ys k
get-behind [] ys k = ap (slice_get ys) (omega arith)
get-behind (x ∷ xs) ys k =
    let next : k + suc (length xs) ≡ suc (k + length xs) = omega arith in
    ap (slice_get (x ∷ (xs ++ ys))) next ∙ get-behind xs ys k

get-map : {A B : Type 0} (f : A → B) (xs : List A) (k : ℕ) (x : A) → slice_get xs k ≡ Some x → slice_get (map f xs) k ≡ Some (f x)
get-map f [] k x e = absurd cc
get-map f (y ∷ xs) zero x e = let same : y ≡ x = cc in ap (λ z. Some (f z)) same
get-map f (y ∷ xs) (suc k) x e = get-map f xs k x e

-- ---- an observer at a site, in a node that has grown since

module _ (g n whole : FlatNode) (site : Site) (grows : Grows (embedded g site n) whole) (within : IsWithin g) where
  abbrev there : FlatNode
  there = embedded g site n

  abbrev V : ℕ
  V = length n.variables

  abbrev moved : Free → Free
  moved f = moved_free (shift_of g site n) f

  eqn-there : (k : ℕ) (e : FlatEqn) → slice_get g.eqns k ≡ Some e → slice_get whole.eqns (k + length (with_room g site n).eqns) ≡ Some (moved_eqn site V e)
  eqn-there k e at =
      let copies = input_eqns site.clock V site.inputs in
      let long : length (with_room g site n).eqns ≡ length (n.eqns ++ copies) = ap length (room-eqns g site n) in
      let all : there.eqns ≡ (n.eqns ++ copies) ++ map (moved_eqn site V) g.eqns = embedded-eqns g site n ∙ sym (append_assoc n.eqns copies (map (moved_eqn site V) g.eqns)) in
      let found : slice_get there.eqns (k + length (with_room g site n).eqns) ≡ Some (moved_eqn site V e) =
      ap₂ (λ es i. slice_get es (k + i)) all long ∙ get-behind (n.eqns ++ copies) (map (moved_eqn site V) g.eqns) k ∙ get-map (moved_eqn site V) g.eqns k e at in
      let more = grows.eqns in
      ap (λ es. slice_get es (k + length (with_room g site n).eqns)) more.1 ∙ get_front there.eqns more.0 (k + length (with_room g site n).eqns) (number_below there.eqns (k + length (with_room g site n).eqns) (moved_eqn site V e) found) ∙ found

  module _ (w : Prefix) (i : flows.Instant) (now : Instant) (on : flows.holds site.clock i ≡ true) (q : FreePlace) (f : Free) (r : IsContractRow g w (moved_in (length g.variables) V i) now q f) where
    pub type-moved : type_at whole (moved f).variable ≡ flat.Bool
    type-moved = let t = embedded-type g site n f.variable r.within in type-grown there whole (f.variable + V) grows t.1 ∙ t.0 ∙ r.typed

    clock-moved : clock_of whole (moved f).eqn ≡ site.clock ++ moved_clock V (r.eqn).clock
    clock-moved = ap (λ o. clock_of whole (moved_free (shift_of g site n) (record { variable = f.variable; eqn = o })).eqn) r.numbered ∙ ap clock_by (eqn-there r.number r.eqn r.there)

    own-within : EqnWithin (length g.variables) r.eqn
    own-within = at_number (EqnWithin (length g.variables)) g.eqns r.number r.eqn r.there within.eqns

    -- where the place has some value, the variable has it
    pub value-moved : IsSome (now r.place) → value_at whole i (moved f) ≡ now r.place
    value-moved some =
        let told = r.told some in
        let its = own-within in
        let holds : flows.holds (clock_of whole (moved f).eqn) i ≡ true =
        ap (λ c. flows.holds c i) clock-moved ∙ holds-both site.clock (moved_clock V (r.eqn).clock) i ∙ ap₂ (λ a b. a && b) on (clock-own (length g.variables) V (r.eqn).clock i its.clock ∙ told.0) in
        ap (λ b. if b then i (f.variable + V) else some_value (type_at whole (f.variable + V))) holds ∙ sym (value-own (length g.variables) V i f.variable r.within) ∙ told.1
