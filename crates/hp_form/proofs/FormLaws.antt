-- When machines have form, part by part.
use Rattle.std.proofs.Common.{◌≡◌, ℕ, Bool, true, false, if◌then◌else◌, List, [], ◌∷◌, ◌++◌, map, Option, None, Some, is_some, refl, sym, ap, ◌∙◌, subst}
use Rattle.std.specs.Prelude.{◌↔◌, IsSome, IfSome, not}
use Rattle.std.specs.Bool.{Decides}
use Rattle.std.specs.List.{All, IsDistinct, AllByRecursion}
use Rattle.std.specs.Str.{bytes_eq}
use Rattle.std.proofs.lemmas.List.{map-append}
use Rattle.std.proofs.lemmas.List.Elements.{recursion_from_All, All-from_recursion}
use Rattle.hp_obc.proofs.Positions.{bytes_eq-sym}
use Rattle.hp_obc.specs.Machines.{ObcType, Machine}
use Rattle.hp_obc.specs.Steps.{inst_names}
use Rattle.hp_obc.specs.Form.{is_name, has_name, AreNames, machine_named, machine_of, MachineForm}
use Rattle.hp_base.specs.Known.Known.{lookup, with_entry}
use Rattle.hp_form.specs.declared.scope.Scope.{Scope}
use Rattle.hp_form.specs.Declaring.{keys, IsNew, InstsKnown, with_inst, with_insts, NamesForm, DeclaredForm, StepForm}
use Rattle.hp_form.specs.Scoping.{machine_entries, Holds}
use Rattle.hp_form.specs.Scopes.{IsScopeOf}
use Rattle.hp_form.proofs.EachLaws.{each_split, missing, with_new}
use Rattle.hp_form.proofs.TypeLaws.{spelled, to_true}
use Rattle.hp_form.proofs.MachineLaws.{names_to, names_from, two_to, two_from}

-- ---- machines by their names

named_by : (d e : Bool) (m : Machine) (o p : Option Machine) → d ≡ e → o ≡ p → (if d then Some m else o) ≡ (if e then Some m else p)
named_by d e m o p h k = λ i. if h i then Some m else k i

pub named_is : (earlier : List Machine) (x : List ℕ) → machine_named earlier x ≡ lookup (machine_entries earlier) x
named_is [] x = refl
named_is (m ∷ earlier) x = named_by (bytes_eq m.name x) (bytes_eq x m.name) m (machine_named earlier x) (lookup (machine_entries earlier) x) (bytes_eq-sym m.name x) (named_is earlier x)

-- ---- instances

known_to : (earlier : List Machine) (insts : List (List ℕ × List ℕ)) → AllByRecursion (λ (i : List ℕ × List ℕ). IsSome (lookup (machine_entries earlier) i.1)) insts → AllByRecursion (λ (i : List ℕ × List ℕ). IsSome (machine_named earlier i.1)) insts
known_to earlier [] h = tt
known_to earlier (i ∷ insts) h = (ap is_some (named_is earlier i.1) ∙ h.0, known_to earlier insts h.1)

known_from : (earlier : List Machine) (insts : List (List ℕ × List ℕ)) → AllByRecursion (λ (i : List ℕ × List ℕ). IsSome (machine_named earlier i.1)) insts → AllByRecursion (λ (i : List ℕ × List ℕ). IsSome (lookup (machine_entries earlier) i.1)) insts
known_from earlier [] h = tt
known_from earlier (i ∷ insts) h = (sym (ap is_some (named_is earlier i.1)) ∙ h.0, known_from earlier insts h.1)

abbrev InstsForm : List Machine → List (List ℕ × List ℕ) → Type 0
InstsForm earlier insts = AreNames (inst_names insts) × All (λ (i : List ℕ × List ℕ). IsSome (machine_named earlier i.1)) insts

insts_form : (earlier : List Machine) (insts : List (List ℕ × List ℕ)) → InstsKnown (machine_entries earlier) [] insts ↔ InstsForm earlier insts
insts_form earlier insts =
    let Named = λ (i : List ℕ × List ℕ). is_name i.0 ≡ true in
    let Found = λ (i : List ℕ × List ℕ). IsSome (lookup (machine_entries earlier) i.1) in
    let halves : InstsKnown (machine_entries earlier) [] insts
    ↔ (IsDistinct bytes_eq (map (λ (i : List ℕ × List ℕ). i.0) insts) × AllByRecursion (λ (i : List ℕ × List ℕ). (is_name i.0 ≡ true) × IsSome (lookup (machine_entries earlier) i.1)) insts) =
    each_split (λ (i : List ℕ × List ℕ). i.0) (λ olds i. IsNew is_name olds i.0 × IsSome (lookup (machine_entries earlier) i.1)) (λ (i : List ℕ × List ℕ). (is_name i.0 ≡ true) × IsSome (lookup (machine_entries earlier) i.1))
    (λ olds i. ((λ h. (h.0.1, (h.0.0, h.1))), (λ h. ((h.1.0, h.0), h.1.1)))) insts in (
      (λ h. let both = two_to Named Found insts (halves.0 h).1 in
          (((spelled (λ (i : List ℕ × List ℕ). i.0) is_name insts).0 both.0, (halves.0 h).0), All-from_recursion (λ (i : List ℕ × List ℕ). IsSome (machine_named earlier i.1)) insts (known_to earlier insts both.1))),
      (λ h. halves.1 (
        h.0.1,
        two_from Named Found insts ((spelled (λ (i : List ℕ × List ℕ). i.0) is_name insts).1 h.0.0)
            (known_from earlier insts (recursion_from_All (λ (i : List ℕ × List ℕ). IsSome (machine_named earlier i.1)) insts h.1)),
      )),
    )

pub insts_moved : (earlier : List Machine) (known : List (List ℕ × Machine)) (those insts : List (List ℕ × List ℕ)) → known ≡ machine_entries earlier → those ≡ insts → InstsKnown known [] those ↔ InstsForm earlier insts
insts_moved earlier known those insts e f =
    subst (λ z. InstsKnown z [] those ↔ InstsForm earlier insts) (sym e) (subst (λ z. InstsKnown (machine_entries earlier) [] z ↔ InstsForm earlier insts) (sym f) (insts_form earlier insts))

abbrev or_else : {A : Type 0} → Option A → Option A → Option A
or_else None b = b
or_else (Some a) b = Some a

module _ {A : Type 0} where
  or_by : (d : Bool) (a : A) (o p : Option A) → (if d then Some a else or_else o p) ≡ or_else (if d then Some a else o) p
  or_by true a o p = refl
  or_by false a o p = refl

  lookup-append : (es fs : List (List ℕ × A)) (x : List ℕ) → lookup (es ++ fs) x ≡ or_else (lookup es x) (lookup fs x)
  lookup-append [] fs x = refl
  lookup-append (e ∷ es) fs x = ap (λ (o : Option A). if bytes_eq x e.0 then Some e.1 else o) (lookup-append es fs x) ∙ or_by (bytes_eq x e.0) e.1 (lookup es x) (lookup fs x)

  or_assoc : (o p q : Option A) → or_else (or_else o p) q ≡ or_else o (or_else p q)
  or_assoc None p q = refl
  or_assoc (Some a) p q = refl

  or_if : (d e : Bool) (a : A) (q : Option A) → d ≡ e → or_else (if d then Some a else None) q ≡ (if e then Some a else q)
  or_if true true a q h = refl
  or_if false false a q h = refl
  or_if true false a q h = absurd cc
  or_if false true a q h = absurd cc

holds_by : (earlier : List Machine) (known es : List (List ℕ × Machine)) (i : List ℕ × List ℕ) (insts : List (List ℕ × List ℕ)) (x : List ℕ) (o : Option Machine) → lookup known i.1 ≡ o → machine_named earlier i.1 ≡ o → IsSome o
    → or_else (lookup (with_inst known es i) x) (machine_of earlier insts x) ≡ or_else (lookup es x) (machine_of earlier (i ∷ insts) x)
holds_by earlier known es i insts x None e f h = absurd cc
holds_by earlier known es i insts x (Some m) e f h =
    ap (λ o. or_else (lookup (elim o [ None ↦ es | Some m ↦ es ++ (i.0, m) ∷ [] ]) x) (machine_of earlier insts x)) e
    ∙ ap (λ o. or_else o (machine_of earlier insts x)) (lookup-append es ((i.0, m) ∷ []) x)
    ∙ or_assoc (lookup es x) (if bytes_eq x i.0 then Some m else None) (machine_of earlier insts x)
    ∙ ap (or_else (lookup es x)) (or_if (bytes_eq x i.0) (bytes_eq i.0 x) m (machine_of earlier insts x) (bytes_eq-sym x i.0) ∙ ap (λ o. if bytes_eq i.0 x then o else machine_of earlier insts x) (sym f))

holds_from : (earlier : List Machine) (olds : List (List ℕ)) (es : List (List ℕ × Machine)) (insts : List (List ℕ × List ℕ)) → InstsKnown (machine_entries earlier) olds insts → (x : List ℕ)
    → lookup (with_insts (machine_entries earlier) es insts) x ≡ or_else (lookup es x) (machine_of earlier insts x)
holds_from earlier olds es [] h x = or_none (lookup es x)
  where
    or_none : (o : Option Machine) → o ≡ or_else o None
    or_none None = refl
    or_none (Some m) = refl
holds_from earlier olds es (i ∷ insts) h x =
    holds_from earlier (olds ++ i.0 ∷ []) (with_inst (machine_entries earlier) es i) insts h.1 x
    ∙ holds_by earlier (machine_entries earlier) es i insts x (lookup (machine_entries earlier) i.1) refl (named_is earlier i.1) h.0.1

pub holds_moved : (earlier : List Machine) (known new : List (List ℕ × Machine)) (those insts : List (List ℕ × List ℕ)) → known ≡ machine_entries earlier → those ≡ insts → InstsKnown known [] those → new ≡ with_insts known [] those → Holds new earlier insts
holds_moved earlier known new those insts e f h n x =
    let k : InstsKnown (machine_entries earlier) [] insts = subst (λ z. InstsKnown z [] insts) e (subst (InstsKnown known []) f h) in
    ap (λ z. lookup z x) (n ∙ (λ i. with_insts (e i) [] (f i))) ∙ holds_from earlier [] [] insts k x

-- ---- a machine

pub declared_form : (types : List ObcType) (earlier : List Machine) (m : Machine) → NamesForm types m → InstsForm earlier m.insts → DeclaredForm types earlier m
declared_form types earlier m h k = record { names = h; insts = k.0; insts_known = k.1 }

pub declared_insts : (types : List ObcType) (earlier : List Machine) (m : Machine) → DeclaredForm types earlier m → InstsForm earlier m.insts
declared_insts types earlier m h = (h.insts, h.insts_known)

pub machine_form : (types : List ObcType) (earlier : List Machine) (known : List (List ℕ × Machine)) (m : Machine) → known ≡ machine_entries earlier → is_name m.name ≡ true → has_name (keys known) m.name ≡ false
    → DeclaredForm types earlier m → StepForm types earlier m → MachineForm types earlier m
machine_form types earlier known m e n f d s =
    let names = names_to types m d.names in
    record {
      name = to_true (is_name m.name) n;
      new = named_is earlier m.name ∙ ap (λ z. lookup z m.name) (sym e) ∙ (missing known m.name).1 f;
      names = names.0.0;
      kinds = names.0.1;
      firsts = names.1;
      instances = d.insts;
      instances_known = d.insts_known;
      commands = s.1;
      deep = s.0;
    }

pub machine_new : (types : List ObcType) (earlier : List Machine) (known : List (List ℕ × Machine)) (m : Machine) → known ≡ machine_entries earlier → MachineForm types earlier m → has_name (keys known) m.name ≡ false
machine_new types earlier known m e h = (missing known m.name).0 (ap (λ z. lookup z m.name) e ∙ sym (named_is earlier m.name) ∙ h.new)

pub machine_declared : (types : List ObcType) (earlier : List Machine) (m : Machine) → MachineForm types earlier m → DeclaredForm types earlier m
machine_declared types earlier m h = record { names = names_from types m h.names h.kinds h.firsts; insts = h.instances; insts_known = h.instances_known }

pub machine_step : (types : List ObcType) (earlier : List Machine) (m : Machine) → MachineForm types earlier m → StepForm types earlier m
machine_step types earlier m h = (h.deep, h.commands)

pub if_some : {A : Type 0} (P : A → Type 0) (o : Option A) (a : A) → o ≡ Some a → IfSome o P → P a
if_some P o a e h = subst (λ z. IfSome z P) e h

pub step_moved : (s : Scope) (types : List ObcType) (earlier : List Machine) (m : Machine) (b : Bool) → IsScopeOf s types earlier m → Decides b (StepForm s.types.now.declared.now s.earlier.now s.machine.now) → Decides b (StepForm types earlier m)
step_moved s types earlier m b h d =
    subst (λ z. Decides b (StepForm types earlier z)) h.machine_is (subst (λ z. Decides b (StepForm types z s.machine.now)) h.earlier_are (subst (λ z. Decides b (StepForm z s.earlier.now s.machine.now)) h.types_are d))

pub none_not : {A : Type 0} (o : Option A) → ((a : A) → o ≡ Some a → ⊥) → is_some o ≡ false
none_not None h = refl
none_not (Some a) h = absurd (h a refl)

-- ---- machines in order

pub one_more_machine : (earlier : List Machine) (known new : List (List ℕ × Machine)) (m : Machine) → known ≡ machine_entries earlier → new ≡ with_entry known m.name m → has_name (keys known) m.name ≡ false → new ≡ machine_entries (earlier ++ m ∷ [])
one_more_machine earlier known new m e n f = n ∙ with_new known m.name m f ∙ ap (λ z. z ++ (m.name, m) ∷ []) e ∙ sym (map-append (λ (m : Machine). (m.name, m)) earlier (m ∷ []))

pub off : (b : Bool) → not b ≡ true → b ≡ false
off true h = absurd cc
off false h = refl
