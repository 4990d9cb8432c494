-- Natives that are linked to machines of a file change nothing, on arguments of their kinds.
use Rattle.std.proofs.Common.{◌≡◌, ℕ, zero, suc, ◌+◌, ◌<◌, Bool, true, false, ◌&&◌, nat_lt, List, [], ◌∷◌, ◌++◌, ◌⊎◌, inl, inr, length, map, drop, get_or, Option, None, Some, if◌then◌else◌, refl, sym, ap, subst, ◌∙◌, arith}
use Rattle.std.specs.Prelude.{IfSome, option_and_then}
use Rattle.std.specs.List.{slice_get}
use Rattle.std.proofs.lemmas.List.{append_assoc, append-nil, length-map, length_push}
use Rattle.std.proofs.lemmas.Bool.Decides.{nat_tests}
use Rattle.std.proofs.Math.Seq.{get_or-append_seam}
use Rattle.hp_base.specs.Kinds.{KindData, AreOfKinds}
use Rattle.hp_base.specs.declared.value.Value.{Value}
use Rattle.hp_obc.specs.Machines.{ObcType, Machine, Obc}
use Rattle.hp_obc.specs.Steps.{Behaviour, Known, unknown, given, behaviour, known_behind}
use Rattle.hp_obc.specs.Form.{MachinesForm, HasObcForm}
use Rattle.hp_exec.specs.Hooked.{IsFree, AreFree, Fits, GoesAsOwnInKind, GoAsOwnInKind, ChangesNothingInKind, first_outputs}
use Rattle.hp_exec.proofs.HookedLaws.{does_own}
use Rattle.hp_native.specs.Natively.{IsNative, ins_of, outs_of, outputs_of, fits}
use Rattle.hp_native.specs.Linking.{HaveNone, IsFirst, ArePlaces, native_at, answer_of, way_of, linking}
use Rattle.hp_native.proofs.NativeLaws.{Parts, parts_of, right_true, both_true, simple-kinds, firsts-fit, values-fit, fits-long, outputs-alone, outputs-long}

-- an answer has a value for each output
long_by : (b : Bool) (given outputs : List Value) → (b ≡ true → length given ≡ length outputs) → length (if b then given else outputs) ≡ length outputs
long_by true given outputs h = h refl
long_by false given outputs h = refl

answer_long : (o : Option Machine) (inputs outputs : List Value) → length (answer_of o inputs outputs) ≡ length outputs
answer_long None inputs outputs = refl
answer_long (Some m) inputs outputs =
    long_by (fits (ins_of m) inputs && fits (outs_of m) outputs) (outputs_of [] m inputs) outputs
    (λ h. outputs-long [] m inputs ∙ sym (fits-long (outs_of m) outputs (right_true (fits (ins_of m) inputs) (fits (outs_of m) outputs) h)))

module _ (natives : List Machine) where
  -- a machine with a native, or without
  free_by : (place : Option ℕ) (m : Machine) → IfSome place (λ p. IsNative m) → IsFree (way_of place) m
  free_by None m native = tt
  free_by (Some i) m native = let parts = parts_of m native.plain in (parts.no_memories, parts.no_instances)

  module _ (types : List ObcType) where
    goes_by : (place : Option ℕ) (m : Machine) (known : Known) → IsFirst natives m place → IfSome place (λ p. IsNative m)
        → GoesAsOwnInKind (way_of place) (λ inputs outputs. answer_of (option_and_then (slice_get natives) place) inputs outputs) types m (behaviour types known m)
    goes_by None m known first native = tt
    goes_by (Some i) m known first native = λ kept inputs of_kinds.
        let parts : Parts m = parts_of m native.plain in
        let ins : AreOfKinds (ins_of m) inputs = subst (λ (ks : List KindData). AreOfKinds ks inputs) (simple-kinds types m.inputs parts.inputs) of_kinds in
        let fit : (fits (ins_of m) inputs && fits (outs_of m) (first_outputs types m)) ≡ true =
        both_true (fits (ins_of m) inputs) (fits (outs_of m) (first_outputs types m)) (values-fit m.inputs inputs ins) (firsts-fit types m.outputs parts.outputs) in
        ap (λ (o : Option Machine). answer_of o inputs (first_outputs types m)) first.0
        ∙ ap (λ (b : Bool). if b then outputs_of [] m inputs else first_outputs types m) fit
        ∙ sym (native.alone types inputs ins)
        ∙ sym (outputs-alone types m known kept inputs parts.no_memories parts.no_instances)

    -- the places behind some others
    at : (pre : List (Option ℕ)) (place : Option ℕ) (places : List (Option ℕ)) → get_or (pre ++ place ∷ places) (length pre) None ≡ place
    at pre place places = get_or-append_seam pre place places None

    one_longer : (pre : List (Option ℕ)) (place : Option ℕ) → length (pre ++ place ∷ []) ≡ suc (length pre)
    one_longer pre place = omega (arith, length_push pre place)

    go : (t : ℕ) (pre : List (Option ℕ)) (earlier machines : List Machine) (known : Known) (places : List (Option ℕ)) → MachinesForm types earlier machines → ArePlaces natives machines places
        → GoAsOwnInKind (linking natives (pre ++ places)) t types (known_behind types machines known) (length pre) machines
    go t pre earlier [] known places form are = tt
    go t pre earlier (m ∷ machines) known [] form are = absurd are
    go t pre earlier (m ∷ machines) known (place ∷ places) form are = (
      subst (λ (c : Behaviour). GoesAsOwnInKind (way_of (get_or (pre ++ place ∷ places) (length pre) None)) (λ inputs outputs. answer_of (native_at natives (pre ++ place ∷ places) (length pre)) inputs outputs) types m c)
          (sym (does_own types earlier m machines known form))
          (subst (λ (q : Option ℕ). GoesAsOwnInKind (way_of q) (λ inputs outputs. answer_of (option_and_then (slice_get natives) q) inputs outputs) types m (behaviour types known m))
          (sym (at pre place places)) (goes_by place m known are.0 are.1)),
      subst (λ (n : ℕ). GoAsOwnInKind (linking natives (pre ++ place ∷ places)) t types (known_behind types machines (given m.name (behaviour types known m) known)) n machines) (one_longer pre place)
          (subst (λ (all : List (Option ℕ)). GoAsOwnInKind (linking natives all) t types (known_behind types machines (given m.name (behaviour types known m) known)) (length (pre ++ place ∷ [])) machines)
          (append_assoc pre (place ∷ []) places)
          (go t (pre ++ place ∷ []) (earlier ++ m ∷ []) machines (given m.name (behaviour types known m) known) places form.1 are.2)),
    )

    are_free : (pre : List (Option ℕ)) (machines : List Machine) (places : List (Option ℕ)) → ArePlaces natives machines places → AreFree (linking natives (pre ++ places)) (length pre) machines
    are_free pre [] places are = tt
    are_free pre (m ∷ machines) [] are = absurd are
    are_free pre (m ∷ machines) (place ∷ places) are = (
      subst (λ (q : Option ℕ). IsFree (way_of q) m) (sym (at pre place places)) (free_by place m are.1),
      subst (λ (n : ℕ). AreFree (linking natives (pre ++ place ∷ places)) n machines) (one_longer pre place)
          (subst (λ (all : List (Option ℕ)). AreFree (linking natives all) (length (pre ++ place ∷ [])) machines) (append_assoc pre (place ∷ []) places)
          (are_free (pre ++ place ∷ []) machines places are.2)),
    )

pub linked-fits : (natives machines : List Machine) (places : List (Option ℕ)) → ArePlaces natives machines places → Fits (linking natives places) machines
linked-fits natives machines places are = record {
  free = are_free natives [] [] machines places are;
  long = λ n t inputs outputs. answer_long (native_at natives places n) inputs outputs;
}

pub linked-changes_nothing : (natives : List Machine) (o : Obc) (places : List (Option ℕ)) → HasObcForm o.types o.machines → ArePlaces natives o.machines places → (t : ℕ) → ChangesNothingInKind (linking natives places) t o
linked-changes_nothing natives o places form are t = go natives o.types t [] [] o.machines unknown places form.1 are

-- ---- walks

-- the machine of a native at a place
pub get-map : {C : Type 0} (f : C → Machine) (xs : List C) (i : ℕ) (x : C) → i < length xs → x ≡ get_or xs i x → slice_get (map f xs) i ≡ Some (f x)
get-map f [] i x h e = absurd (omega arith)
get-map f (y ∷ xs) zero x h e = ap (λ z. Some (f z)) (sym e)
get-map f (y ∷ xs) (suc i) x h e = get-map f xs i x (omega arith) e

below_by : (b : Bool) (j i : ℕ) → nat_lt j i ≡ b → j < i + 1 → (j < i) ⊎ (j ≡ i)
below_by true j i e h = inl (grind (arith, nat_tests))
below_by false j i e h = inr (grind (arith, nat_tests))

-- one more native that has another machine
pub none-next : (natives : List Machine) (m : Machine) (i : ℕ) → HaveNone natives m i → (slice_get natives i ≡ Some m → ⊥) → HaveNone natives m (i + 1)
none-next natives m i none apart j lt =
    elim (below_by (nat_lt j i) j i refl lt) [
      | inl below ↦ none j below
      | inr same ↦ λ e. apart (ap (slice_get natives) (sym same) ∙ e)
    ]

pub none-all : {C : Type 0} (f : C → Machine) (xs : List C) (m : Machine) (i : ℕ) → i ≡ length xs → HaveNone (map f xs) m i → HaveNone (map f xs) m (length (map f xs))
none-all f xs m i e h = subst (HaveNone (map f xs) m) (e ∙ sym (length-map xs f)) h

drop_at : (xs : List Machine) (i : ℕ) (x : Machine) → i < length xs → x ≡ get_or xs i x → drop i xs ≡ x ∷ drop (suc i) xs
drop_at [] i x h e = absurd (omega arith)
drop_at (y ∷ xs) zero x h e = ap (λ z. z ∷ xs) (sym e)
drop_at (y ∷ xs) (suc i) x h e = drop_at xs i x (omega arith) e

drop_all : (xs : List Machine) → drop (length xs) xs ≡ []
drop_all [] = refl
drop_all (x ∷ xs) = drop_all xs

-- the places of the machines before some number, and any that are those of the others
abbrev pub PlacedTo : List Machine → List Machine → List (Option ℕ) → ℕ → Type 0
PlacedTo natives machines places i = (rest : List (Option ℕ)) → ArePlaces natives (drop i machines) rest → ArePlaces natives machines (places ++ rest)

pub placed-first : (natives machines : List Machine) (places : List (Option ℕ)) → places ≡ [] → PlacedTo natives machines places 0
placed-first natives machines places e rest are = subst (λ q. ArePlaces natives machines (q ++ rest)) (sym e) are

pub placed-next : (natives machines : List Machine) (places new : List (Option ℕ)) (place : Option ℕ) (i : ℕ) (m : Machine) → i < length machines → m ≡ get_or machines i m → IsFirst natives m place → IfSome place (λ p. IsNative m)
    → new ≡ places ++ place ∷ [] → PlacedTo natives machines places i → PlacedTo natives machines new (i + 1)
placed-next natives machines places new place i m below at first native more placed rest are =
    let further : suc i ≡ i + 1 = omega arith in
    subst (ArePlaces natives machines) (sym (ap (λ q. q ++ rest) more ∙ append_assoc places (place ∷ []) rest))
    (placed (place ∷ rest) (subst (λ ms. ArePlaces natives ms (place ∷ rest)) (sym (drop_at machines i m below at))
    (first, native, subst (λ n. ArePlaces natives (drop n machines) rest) (sym further) are)))

placed-all : (natives machines : List Machine) (places : List (Option ℕ)) (i : ℕ) → i ≡ length machines → PlacedTo natives machines places i → ArePlaces natives machines places
placed-all natives machines places i e placed =
    subst (ArePlaces natives machines) (append-nil places)
    (placed [] (subst (λ ms. ArePlaces natives ms []) (sym (ap (λ n. drop n machines) e ∙ drop_all machines)) tt))

pub placed-among : (natives machines others : List Machine) (places : List (Option ℕ)) (i : ℕ) → machines ≡ others → i ≡ length machines → PlacedTo natives machines places i → ArePlaces natives others places
placed-among natives machines others places i same e placed = subst (λ ms. ArePlaces natives ms places) same (placed-all natives machines places i e placed)
