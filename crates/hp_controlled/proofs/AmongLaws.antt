-- Machines among others do what they do by themselves.
use Rattle.std.proofs.Common.{◌≡◌, ℕ, Bool, true, false, ◌&&◌, List, [], ◌∷◌, ◌++◌, None, Some, map, refl, sym, ap, ◌∙◌, subst, if◌then◌else◌}
use Rattle.std.specs.Prelude.{Option, IsSome, IsTrue, is_some}
use Rattle.std.specs.List.{All, list_all}
use Rattle.std.specs.Str.{bytes_eq}
use Rattle.std.proofs.lemmas.List.{append_assoc, append-nil}
use Rattle.std.proofs.lemmas.List.Sums.{list_all-from_AllPass}
use Rattle.std.proofs.lemmas.Slice.Eq.{bytes_eq-Decides}
use Rattle.hp_obc.specs.declared.machine.Mem.{Mem}
use Rattle.hp_obc.specs.Form.{MachinesForm, machine_named}
use Rattle.hp_obc.specs.Machines.{Machine, ObcType}
use Rattle.hp_obc.specs.Steps.{Behaviour, Known, memory, memories_of, after, all_given, before, behaviour, given, inst_names, known_behind, stepped_to, unknown}
use Rattle.hp_obc.specs.Values.{constant_of, or_absent}
use Rattle.hp_controlled.specs.Among.{AmongLaw, FormLaw, StandAmong, calls_these, call_earlier}
use Rattle.hp_controlled.specs.Among.StandAmong.{nothing, one, another}

both_true : (b c : Bool) → IsTrue (b && c) → IsTrue b × IsTrue c
both_true true c h = (refl, h)
both_true false c h = absurd cc

-- ---- machines by their names, where one stands behind them

found_before : (ms : List Machine) (last : Machine) (f : List ℕ) (x : Machine) → machine_named ms f ≡ Some x → machine_named (ms ++ last ∷ []) f ≡ Some x
found_before [] last f x e = absurd cc
found_before (m ∷ ms) last f x e = by (bytes_eq m.name f) e (λ h. found_before ms last f x h)
  where
    by : (b : Bool) → (if b then Some m else machine_named ms f) ≡ Some x → (machine_named ms f ≡ Some x → machine_named (ms ++ last ∷ []) f ≡ Some x)
        → (if b then Some m else machine_named (ms ++ last ∷ []) f) ≡ Some x
    by true h rest = h
    by false h rest = rest h

found_last : (ms : List Machine) (last : Machine) (f : List ℕ) → machine_named ms f ≡ None → machine_named (ms ++ last ∷ []) f ≡ (if bytes_eq last.name f then Some last else None)
found_last [] last f e = refl
found_last (m ∷ ms) last f e = by (bytes_eq m.name f) e (λ h. found_last ms last f h)
  where
    by : (b : Bool) → (if b then Some m else machine_named ms f) ≡ None → (machine_named ms f ≡ None → machine_named (ms ++ last ∷ []) f ≡ (if bytes_eq last.name f then Some last else None))
        → (if b then Some m else machine_named (ms ++ last ∷ []) f) ≡ (if bytes_eq last.name f then Some last else None)
    by true h rest = absurd cc
    by false h rest = rest h

-- a name that is there is not that of a machine which is not
is_other : (ms : List Machine) (name f : List ℕ) (x : Machine) → machine_named ms name ≡ None → machine_named ms f ≡ Some x → bytes_eq name f ≡ false
is_other ms name f x none some = by (bytes_eq name f) refl
  where
    by : (b : Bool) → bytes_eq name f ≡ b → bytes_eq name f ≡ false
    by true q =
        let same : name ≡ f = (bytes_eq-Decides name f).0 q in
        let both : None ≡ Some x = sym none ∙ ap (machine_named ms) same ∙ some in absurd cc
    by false q = q

-- ---- a machine does the same where its instances do

same_behaviour : (types : List ObcType) (known here : Known) (m : Machine)
    → map (λ (i : List ℕ × List ℕ). (here i.1).reset) m.insts ≡ map (λ (i : List ℕ × List ℕ). (known i.1).reset) m.insts
    → map (λ (i : List ℕ × List ℕ). here i.1) m.insts ≡ map (λ (i : List ℕ × List ℕ). known i.1) m.insts
    → behaviour types here m ≡ behaviour types known m
same_behaviour types known here m resets steps = λ j. record {
  reset = memory (map (λ (x : Mem). or_absent (constant_of types x.first)) m.mems) (memories_of (resets j));
  step = λ kept inputs. stepped_to m (after types (all_given (inst_names m.insts) (steps j) unknown) m.step (before types m kept inputs));
}

-- what is known of some machines is what is known of them among others
pub record Agree (own all : List Machine) (known here : Known) : Type 0 where
  pub named : (f : List ℕ) (m : Machine) → machine_named own f ≡ Some m → machine_named all f ≡ Some m
  pub does : (f : List ℕ) (m : Machine) → machine_named own f ≡ Some m → here f ≡ known f

module _ (own all : List Machine) (known here : Known) (agree : Agree own all known here) where
  does_there : (f : List ℕ) → IsTrue (is_some (machine_named own f)) → here f ≡ known f
  does_there f h = by (machine_named own f) refl h
    where
      by : (o : Option Machine) → machine_named own f ≡ o → IsTrue (is_some o) → here f ≡ known f
      by None e some = absurd cc
      by (Some m) e some = agree.does f m e

  all_same : {A : Type 0} (part : Behaviour → A) (insts : List (List ℕ × List ℕ)) → IsTrue (list_all (λ (i : List ℕ × List ℕ). is_some (machine_named own i.1)) insts)
      → map (λ (i : List ℕ × List ℕ). part (here i.1)) insts ≡ map (λ (i : List ℕ × List ℕ). part (known i.1)) insts
  all_same part [] h = refl
  all_same part (i ∷ insts) h =
      let parts = both_true (is_some (machine_named own i.1)) (list_all (λ (k : List ℕ × List ℕ). is_some (machine_named own k.1)) insts) h in
      let first = ap part (does_there i.1 parts.0) in
      let rest = all_same part insts parts.1 in
      λ j. first j ∷ rest j

  instances_do : (types : List ObcType) (m : Machine) → IsTrue (calls_these own m) → behaviour types here m ≡ behaviour types known m
  instances_do types m h = same_behaviour types known here m (all_same (λ (b : Behaviour). b.reset) m.insts h) (all_same (λ (b : Behaviour). b) m.insts h)

  -- another one stands behind them
  with_another : (m : Machine) (b : Behaviour) → machine_named all m.name ≡ None → Agree own (all ++ m ∷ []) known (given m.name b here)
  with_another m b new = record {
    named = λ f x e. found_before all m f x (agree.named f x e);
    does = λ f x e. ap (λ z. if z then b else here f) (is_other all m.name f x new (agree.named f x e)) ∙ agree.does f x e;
  }

  -- or one of them
  module _ (m : Machine) (here_does known_does : Behaviour) (same : here_does ≡ known_does) (new : machine_named all m.name ≡ None) where
    -- a name is of one before, or of this one
    by_name : (f : List ℕ) (x : Machine) → machine_named (own ++ m ∷ []) f ≡ Some x → (o : Option Machine) → machine_named own f ≡ o
        → (machine_named (all ++ m ∷ []) f ≡ Some x) × (given m.name here_does here f ≡ given m.name known_does known f)
    by_name f x e None none = last (bytes_eq m.name f) refl (sym (found_last own m f none) ∙ e)
      where
        last : (b : Bool) → bytes_eq m.name f ≡ b → (if b then Some m else None) ≡ Some x → (machine_named (all ++ m ∷ []) f ≡ Some x) × (given m.name here_does here f ≡ given m.name known_does known f)
        last true q is =
            let name : m.name ≡ f = (bytes_eq-Decides m.name f).0 q in
            let away : machine_named all f ≡ None = ap (machine_named all) (sym name) ∙ new in
            (found_last all m f away ∙ ap (λ z. if z then Some m else None) q ∙ is, (λ j. if q j then here_does else here f) ∙ same ∙ (λ j. if sym q j then known_does else known f))
        last false q is = absurd cc
    by_name f x e (Some y) some =
        let both : Some y ≡ Some x = sym (found_before own m f y some) ∙ e in
        let there : machine_named own f ≡ Some x = some ∙ both in
        let others = is_other all m.name f x new (agree.named f x there) in
        (found_before all m f x (agree.named f x there), (λ j. if others j then here_does else here f) ∙ agree.does f x there ∙ (λ j. if sym others j then known_does else known f))

    with_one : Agree (own ++ m ∷ []) (all ++ m ∷ []) (given m.name known_does known) (given m.name here_does here)
    with_one = record {
      named = λ f x e. (by_name f x e (machine_named own f) refl).0;
      does = λ f x e. (by_name f x e (machine_named own f) refl).1;
    }

-- ---- one machine after another

agree_behind : (types : List ObcType) (own all : List Machine) → StandAmong own all → (own_before all_before : List Machine) (known here : Known) → Agree own_before all_before known here
    → IsTrue (call_earlier own_before own) → MachinesForm types all_before all → Agree (own_before ++ own) (all_before ++ all) (known_behind types own known) (known_behind types all here)
agree_behind types own all nothing own_before all_before known here agree calls form =
    subst (λ xs. Agree xs (all_before ++ []) known here) (sym (append-nil own_before)) (subst (λ xs. Agree own_before xs known here) (sym (append-nil all_before)) agree)
agree_behind types own all (one {own = a} {all = b} m stand) own_before all_before known here agree calls form =
    let parts = both_true (calls_these own_before m) (call_earlier (own_before ++ m ∷ []) a) calls in
    let does = instances_do own_before all_before known here agree types m parts.0 in
    let more = with_one own_before all_before known here agree m (behaviour types here m) (behaviour types known m) does form.0.new in
    let rest = agree_behind types a b stand (own_before ++ m ∷ []) (all_before ++ m ∷ []) (given m.name (behaviour types known m) known) (given m.name (behaviour types here m) here) more parts.1 form.1 in
    subst (λ xs. Agree xs (all_before ++ m ∷ b) (known_behind types (m ∷ a) known) (known_behind types (m ∷ b) here)) (append_assoc own_before (m ∷ []) a)
    (subst (λ xs. Agree ((own_before ++ m ∷ []) ++ a) xs (known_behind types (m ∷ a) known) (known_behind types (m ∷ b) here)) (append_assoc all_before (m ∷ []) b) rest)
agree_behind types own all (another {own = a} {all = b} m stand) own_before all_before known here agree calls form =
    let more = with_another own_before all_before known here agree m (behaviour types here m) form.0.new in
    let rest = agree_behind types a b stand own_before (all_before ++ m ∷ []) known (given m.name (behaviour types here m) here) more calls form.1 in
    subst (λ xs. Agree (own_before ++ a) xs (known_behind types a known) (known_behind types (m ∷ b) here)) (append_assoc all_before (m ∷ []) b) rest

no_machines : Agree [] [] unknown unknown
no_machines = record { named = λ f m e. e; does = λ f m e. refl }

pub machines_among : AmongLaw
machines_among types own all stand calls form f m e =
    let agree = agree_behind types own all stand [] [] unknown unknown no_machines calls form in
    (agree.named f m e, agree.does f m e)

-- ---- machines that have form

form_calls_these : (earlier : List Machine) (m : Machine) → All (λ (i : List ℕ × List ℕ). IsSome (machine_named earlier i.1)) m.insts → IsTrue (calls_these earlier m)
form_calls_these earlier m known = list_all-from_AllPass (λ (i : List ℕ × List ℕ). is_some (machine_named earlier i.1)) m.insts known

are_both : (b c : Bool) → IsTrue b → IsTrue c → IsTrue (b && c)
are_both b c h k = ap (λ z. z && c) h ∙ k

calls_behind : (types : List ObcType) (earlier machines : List Machine) → MachinesForm types earlier machines → IsTrue (call_earlier earlier machines)
calls_behind types earlier [] form = refl
calls_behind types earlier (m ∷ machines) form =
    are_both (calls_these earlier m) (call_earlier (earlier ++ m ∷ []) machines) (form_calls_these earlier m form.0.instances_known) (calls_behind types (earlier ++ m ∷ []) machines form.1)

pub form_calls : FormLaw
form_calls types machines form = calls_behind types [] machines form
