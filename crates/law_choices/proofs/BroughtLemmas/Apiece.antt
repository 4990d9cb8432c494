-- A walk finds what each comparison and call brings, one by one in the order of slots.
use Rattle.std.proofs.Common.{◌≡◌, ℕ, Bool, true, false, if◌then◌else◌, List, [], ◌∷◌, ◌++◌, map, Some, refl, sym, ap, ap₂, ◌∙◌}
use Rattle.std.proofs.lemmas.List.{map-append}
use Rattle.hp_base.specs.declared.ty.Ty.{Ty}
use Rattle.hp_base.specs.declared.ty.Ty.TheVariants as ty
use Rattle.hp_tree.specs.declared.expr.Op2.{Op2}
use Rattle.hp_tree.specs.Blocks.{Decl}
use Rattle.hp_tree.specs.Programs.{TypeDecl}
use Rattle.hp_meaning.specs.Contract.Slots.{FreePlace, Slot, free_among, is_int}
use Rattle.law_equations.specs.Flattened.Flatten.{Prefix}
use Rattle.hp_watch.specs.Walk.{Walked, before, behind, compares, in_front}
use Rattle.law_choices.specs.Places.Groups.{call_group, in_a_row}
use Rattle.law_choices.proofs.BroughtLemmas.Brought.{free_types, joined_types, of_compared}
use Rattle.law_choices.proofs.PlacesLemmas.Expressions.{Takes, takes-compared, takes-front, takes-two}
use Rattle.law_choices.proofs.PlacesLemmas.Grouped.{among-append, outputs-free}
use Rattle.law_choices.proofs.PlacesLemmas.Slots.{outputs_slots}
use Rattle.law_choices.proofs.PlacesLemmas.Walks.{taken-as, takes-before}

-- the types of free places
abbrev pub types_of_places : List FreePlace → List Ty
types_of_places g = map (λ (q : FreePlace). q.1) g

-- of each of some lists
abbrev pub types_apiece : List (List FreePlace) → List (List Ty)
types_apiece gs = map types_of_places gs

-- A walk takes what events bring, and finds the types of groups one by one, wherever these stand.
abbrev pub Apiece : (List (List Ty) → Walked (List Ty)) → List (List Ty) → (Prefix → List (List FreePlace)) → Type 0
Apiece walked events gs = (found : List (List Ty)) × Takes walked events found × ((w : Prefix) → found ≡ types_apiece (gs w))

pub both-apiece : (L M : List (List Ty)) (gs hs : List (List FreePlace)) → L ≡ types_apiece gs → M ≡ types_apiece hs → L ++ M ≡ types_apiece (gs ++ hs)
both-apiece L M gs hs h k = ap₂ (λ xs ys. xs ++ ys) h k ∙ sym (map-append types_of_places gs hs)

pub apiece-nothing : (v : List (List Ty) → Walked (List Ty)) → Takes v [] [] → Apiece v [] (λ w. [])
apiece-nothing v h = ([], h, λ w. refl)

pub apiece-at : (v : List (List Ty) → Walked (List Ty)) (A : List (List Ty)) (gs hs : Prefix → List (List FreePlace)) (m : Prefix → Prefix) → ((w : Prefix) → gs (m w) ≡ hs w) → Apiece v A gs → Apiece v A hs
apiece-at v A gs hs m same h = (h.0, h.1, λ w. h.2 (m w) ∙ ap types_apiece (same w))

pub apiece-as : (v : List (List Ty) → Walked (List Ty)) (A B : List (List Ty)) (gs : Prefix → List (List FreePlace)) → B ≡ A → Apiece v A gs → Apiece v B gs
apiece-as v A B gs e h = (h.0, taken-as v A B h.0 e h.1, h.2)

pub apiece-two : (v u : List (List Ty) → Walked (List Ty)) (A B : List (List Ty)) (gs hs : Prefix → List (List FreePlace)) (m n : Prefix → Prefix) → Apiece v A gs → Apiece u B hs → Apiece (λ es. let x = v es in behind x.0 (u x.1)) (A ++ B) (λ w. gs (m w) ++ hs (n w))
apiece-two v u A B gs hs m n h k = (h.0 ++ k.0, takes-two v u A B h.0 k.0 h.1 k.1, λ w. both-apiece h.0 k.0 (gs (m w)) (hs (n w)) (h.2 (m w)) (k.2 (n w)))

pub apiece-before : (v u : List (List Ty) → Walked (List Ty)) (A B : List (List Ty)) (gs hs : Prefix → List (List FreePlace)) (m n : Prefix → Prefix) → Apiece v A gs → Apiece u B hs → Apiece (λ es. let x = v es in before x.0 (u x.1)) (A ++ B) (λ w. hs (n w) ++ gs (m w))
apiece-before v u A B gs hs m n h k = (k.0 ++ h.0, takes-before v u A B h.0 k.0 h.1 k.1, λ w. both-apiece k.0 h.0 (hs (n w)) (gs (m w)) (k.2 (n w)) (h.2 (m w)))

pub apiece-front : (v : List (List Ty) → Walked (List Ty)) (A : List (List Ty)) (l : List Ty) (gs : Prefix → List (List FreePlace)) (g : Prefix → List FreePlace) (m : Prefix → Prefix) → ((w : Prefix) → l ≡ types_of_places (g w)) → Apiece v A gs
    → Apiece (λ es. in_front (v es)) (A ++ l ∷ []) (λ w. g w ∷ gs (m w))
apiece-front v A l gs g m is h = (l ∷ h.0, takes-front v A h.0 l h.1, λ w. ap₂ (λ x xs. x ∷ xs) (is w) (h.2 (m w)))

pub apiece-compared : (c : Bool) (v : List (List Ty) → Walked (List Ty)) (A : List (List Ty)) (l : List Ty) (gs hs : Prefix → List (List FreePlace)) → ((w : Prefix) → (if c then l ∷ [] else []) ≡ types_apiece (hs w)) → Apiece v A gs
    → Apiece (λ es. if c then in_front (v es) else v es) (A ++ (if c then l ∷ [] else [])) (λ w. hs w ++ gs w)
apiece-compared c v A l gs hs is h = ((if c then l ∷ [] else []) ++ h.0, takes-compared c v A h.0 l h.1, λ w. both-apiece (if c then l ∷ [] else []) h.0 (hs w) (gs w) (is w) (h.2 w))

-- ---- comparisons and calls

pub compared-apiece : (o : Op2) (i : Bool) (t : Ty) (w : Prefix) → i ≡ is_int t → (if compares o then of_compared (Some t) ∷ [] else []) ≡ types_apiece (if compares o then (if i then (w [], ty.Bool) ∷ [] else []) ∷ [] else [])
compared-apiece o i t w e = by (compares o) i t e
  where
    by : (b i : Bool) (t : Ty) → i ≡ is_int t → (if b then of_compared (Some t) ∷ [] else []) ≡ types_apiece (if b then (if i then (w [], ty.Bool) ∷ [] else []) ∷ [] else [])
    by true true ty.Int h = refl
    by true false ty.Bool h = refl
    by true false (ty.Enum x) h = refl
    by true true ty.Bool h = absurd cc
    by true true (ty.Enum x) h = absurd cc
    by true false ty.Int h = absurd cc
    by false i t h = refl

pub call-apiece : (types : List TypeDecl) (outs : List ℕ → List Decl) (callee : List ℕ → Prefix → List Slot) (f : List ℕ) (w : Prefix) → free_types (outputs_slots (outs f) w ++ callee f w) ≡ types_of_places (call_group types outs callee f w)
call-apiece types outs callee f w = ap types_of_places (among-append (outputs_slots (outs f) w) (callee f w) ∙ ap (λ xs. xs ++ free_among (callee f w)) (sym (outputs-free (outs f) w)))

-- the slots of outputs have the same types wherever they stand
pub outputs-anywhere : (ds : List Decl) (v w : Prefix) → free_types (outputs_slots ds v) ≡ free_types (outputs_slots ds w)
outputs-anywhere [] v w = refl
outputs-anywhere (d ∷ ds) v w = by d.ty (outputs-anywhere ds v w)
  where
    by : (t : Ty) → free_types (outputs_slots ds v) ≡ free_types (outputs_slots ds w) → free_types (outputs_slots (record d { ty = t } ∷ ds) v) ≡ free_types (outputs_slots (record d { ty = t } ∷ ds) w)
    by ty.Bool h = ap (λ ts. ty.Bool ∷ ts) h
    by ty.Int h = h
    by (ty.Enum x) h = ap (λ ts. ty.Enum x ∷ ts) h

-- ---- in a row

pub row-types : (gs : List (List FreePlace)) → joined_types (types_apiece gs) ≡ types_of_places (in_a_row gs)
row-types [] = refl
row-types (g ∷ gs) = ap (λ ts. types_of_places g ++ ts) (row-types gs) ∙ sym (map-append (λ (q : FreePlace). q.1) g (in_a_row gs))
