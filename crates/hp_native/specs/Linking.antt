-- Which machines of a file natives answer, and what they answer.
use Rattle.std.specs.Prelude.{◌≡◌, ◌≢◌, ℕ, ◌<◌, ◌&&◌, List, [], ◌∷◌, length, Option, None, Some, option_and_then, IfSome, slice_index_or, if◌then◌else◌}
use Rattle.std.specs.List.{slice_get}
use Rattle.hp_base.specs.declared.value.Value.{Value}
use Rattle.hp_obc.specs.Machines.{Machine}
use Rattle.hp_exec.specs.declared.hook.Way.{Way}
use Rattle.hp_exec.specs.declared.hook.Way.TheVariants.{Own, Instead}
use Rattle.hp_exec.specs.Hooked.{Hooking}
use Rattle.hp_native.specs.Natively.{IsNative, ins_of, outs_of, outputs_of, fits}

-- None of the first so many natives, each by its machine, has this machine.
abbrev pub HaveNone : List Machine → Machine → ℕ → Type 0
HaveNone natives m n = (i : ℕ) → i < n → slice_get natives i ≢ Some m

-- This is the place of the first native that has a machine.
abbrev pub IsFirst : List Machine → Machine → Option ℕ → Type 0
IsFirst natives m None = HaveNone natives m (length natives)
IsFirst natives m (Some i) = (slice_get natives i ≡ Some m) × HaveNone natives m i

-- These are the places of the first natives that have machines, one by one.
abbrev pub ArePlaces : List Machine → List Machine → List (Option ℕ) → Type 0
ArePlaces natives [] [] = Unit {0}
ArePlaces natives (m ∷ machines) (place ∷ places) = IsFirst natives m place × IfSome place (λ _. IsNative m) × ArePlaces natives machines places
ArePlaces natives machines places = ⊥

-- the machine of the native that answers the machine at a place
abbrev pub native_at : List Machine → List (Option ℕ) → ℕ → Option Machine
native_at natives places n = option_and_then (slice_get natives) (slice_index_or places n None)

-- what a native answers over some outputs, where the arguments and these are of its kinds
abbrev pub answer_of : Option Machine → List Value → List Value → List Value
answer_of None inputs outputs = outputs
answer_of (Some m) inputs outputs = if fits (ins_of m) inputs && fits (outs_of m) outputs then outputs_of [] m inputs else outputs

abbrev pub way_of : Option ℕ → Way
way_of None = Own
way_of (Some place) = Instead

-- Each machine that has a native is answered by it, and all others are left to themselves.
abbrev pub linking : List Machine → List (Option ℕ) → Hooking
linking natives places = record {
  way = λ n. way_of (slice_index_or places n None);
  answer = λ n t inputs outputs. answer_of (native_at natives places n) inputs outputs;
}
